use Rattle.std.proofs.Common.{◌≡◌, ◌∙◌, ◌≤◌, ℕ, ℤ, All, List, [], length, map, pos, sym, ap, subst, rules, SFits}
use Rattle.std.specs.Prelude.{◌≤ℤ◌}
use Rattle.std.specs.Int.{w128}
use Rattle.std.proofs.lemmas.Int.{to_z-of_z}
use Rattle.suit_cards.specs.Cards.{ClassLayout}
use Rattle.suit_plans.specs.BestReplies.{most, reply_to_defence}
use Rattle.suit_plans.specs.declared.moves.DeclarerMove.{DeclarerMove}
use Rattle.suit_reply.specs.declared.chosen_move.ChosenMove.{ChosenMove}
use Rattle.suit_reply.specs.AgainstDefence.{IsDefenceFor}
use Rattle.suit_reply.proofs.WorthAtATurn.{found_from}
use Rattle.suit_reply.specs.NodeReplies.{NodeReplyView}
use Rattle.suit_reply.proofs.MostByNodes.WhichLayoutsAllow.{layouts_few}
use Rattle.suit_reply.proofs.MostAtTheRoot.{den_within, layouts_weigh, root_asked, root_told, weighed_masses}
use Rattle.suit_reply.proofs.ChoicesAlongAReply.ReplyToADefence.{most_reply_walked}
use Rattle.suit_reply.proofs.against_defence.most.Goals as goal
use Rattle.suit_game.specs.declared.limits.TheConstants.{MOST_MOVES, MOST_TOTAL}
use Rattle.suit_layouts.specs.declared.class_list.TheConstants.{MOST_CLASS_LAYOUTS}
use Rattle.suit_plans.specs.declared.plan.TheConstants.{MOST_DEN}

pub whole_masses-requires : goal.whole_masses-requires
whole_masses-requires c =
    let is = c.requires in
    let listed = c.layouts.ensures ∙ is.grown.layouts in
    let den : SFits w128 c.args.defence.now.den = search rules in
    record {
      few = subst (λ (l : List (ClassLayout × ℕ)). length l ≤ MOST_CLASS_LAYOUTS) (sym listed)
          (layouts_few is.question);
      weights =
          subst (λ (l : List (ClassLayout × ℕ)). All (λ layout. layout.1 ≤ MOST_TOTAL) l) (sym listed)
          (layouts_weigh is.question is.valid);
      den = subst (λ (z : ℤ). (pos 1 ≤ℤ z) × (z ≤ℤ MOST_DEN)) (sym (to_z-of_z w128 c.args.defence.now.den den))
          (den_within is.question c.args.defence.now is.proper);
    }

pub below-requires : goal.below-requires
below-requires c =
    let den : SFits w128 c.args.defence.now.den = search rules in
    root_asked c.args.tree.now c.args.defence.now c.layouts.result.now c.items.result.now c.new.result.items
    c.deref.result.now c.root.result.now c.requires c.layouts.ensures c.items.ensures.value c.new.ensures.items
    (c.deref.ensures.value ∙ c.in_ok-masses.ensures
    ∙ ap (weighed_masses c.layouts.result.now) (to_z-of_z w128 c.args.defence.now.den den)) c.root.ensures

pub returns : goal.returns
unfolding most
returns c =
    let tree = c.args.tree.now in
    let defence = c.args.defence.now in
    let den : SFits w128 defence.den = search rules in
    let worth : SFits w128 c.reply.inside.worth = search rules in
    let weighed =
    c.deref.ensures.value ∙ c.in_ok-masses.ensures
    ∙ ap (weighed_masses c.layouts.result.now) (to_z-of_z w128 defence.den den) in
    let told : (case : IsDefenceFor tree defence)
    → c.in_ok-reply.reply ≡ found_from MOST_MOVES (reply_to_defence case.question defence) [] =
    λ case. c.in_ok-reply.ensures.reply
    ∙ root_told tree defence c.layouts.result.now c.items.result.now c.new.result.items c.deref.result.now
    c.root.result.now case c.layouts.ensures c.items.ensures.value c.new.ensures.items weighed c.root.ensures in
    let named : ChosenMove → DeclarerMove = λ choice. record { history = choice.history; mv = choice.mv } in
    record {
      number =
          λ case. to_z-of_z w128 c.reply.inside.worth worth
          ∙ ap (λ (view : NodeReplyView). view.worth) (c.reply.view_is ∙ told case);
      reply = λ case.
          c.in_ok-moves_of.ensures
          ∙ ap (λ (view : NodeReplyView). map named view.choices) (c.reply.view_is ∙ told case)
          ∙ sym (most_reply_walked case.question defence case.valid case.proper);
    }
