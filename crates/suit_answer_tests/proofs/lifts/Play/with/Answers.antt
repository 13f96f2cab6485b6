use Rattle.std.proofs.Common.{List, ◌∙◌, refl, subst, sym}
use Rattle.std.specs.Prelude.{Contains}
use Rattle.suit_game.specs.Histories.{History}
use Rattle.suit_game.specs.PlaceViews.{IsAt, IsPlay}
use Rattle.suit_game.specs.declared.moves.Move.{Move}
use Rattle.suit_game.proofs.PlaceSeenAfterAMove.{play_more}
use Rattle.suit_answer_tests.proofs.lifts.Play.with.Goals as goal

pub returns-clause-legal : goal.returns-clause-legal
returns-clause-legal c =
    subst (λ (line : History). IsPlay c.args.self.question c.args.self.west line) (sym c.push.ensures.items)
    (play_more c.args.self.question c.args.self.west c.args.self.history.items c.args.mv.now c.requires.legal
    (subst (λ (moves : List Move). Contains moves c.args.mv.now)
    (c.as_slice.ensures.value ∙ c.legal_moves-moves.ensures) (c.if-not-is_among.ensures refl)))

pub returns-clause-at : goal.returns-clause-at
returns-clause-at c =
    subst (λ (line : History). IsAt c.args.self.question line c.step.result) (sym c.push.ensures.items)
    (c.step.ensures c.args.self.question c.args.self.west c.args.self.history.items c.requires.legal c.requires.at)
