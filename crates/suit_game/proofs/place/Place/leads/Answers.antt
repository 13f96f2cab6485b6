use Rattle.std.proofs.Common.{◌∙◌, ap, sym, arith}
use Rattle.std.proofs.lemmas.Grind.{common_steps}
use Rattle.suit_game.specs.PlaceViews.{PlaceView}
use Rattle.suit_game.proofs.PlaceSeenAfterAMove.{leads_are_legal}
use Rattle.suit_game.proofs.place.Place.leads.Goals as goal

pub returns-then-may_lead_s-clause-leads : goal.returns-then-may_lead_s-clause-leads
returns-then-may_lead_s-clause-leads c = grind (arith, common_steps)

pub returns-then-may_lead_s-clause-legal : goal.returns-then-may_lead_s-clause-legal
returns-then-may_lead_s-clause-legal c = λ question west history is closed.
    returns-then-may_lead_s-clause-leads c question history is
    ∙ leads_are_legal question west history (sym (ap (λ (view : PlaceView). view.trick) is) ∙ closed)

pub returns-else-may_lead_s-clause-leads : goal.returns-else-may_lead_s-clause-leads
returns-else-may_lead_s-clause-leads c = grind (arith, common_steps)

pub returns-else-may_lead_s-clause-legal : goal.returns-else-may_lead_s-clause-legal
returns-else-may_lead_s-clause-legal c = λ question west history is closed.
    returns-else-may_lead_s-clause-leads c question history is
    ∙ leads_are_legal question west history (sym (ap (λ (view : PlaceView). view.trick) is) ∙ closed)
