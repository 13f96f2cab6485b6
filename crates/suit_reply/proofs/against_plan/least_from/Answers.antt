use Rattle.std.proofs.Common.{rules, ◌≡◌, ◌<◌, ◌^◌, ℕ, [], get_or, length, ◌-◌, SFits, ℤ, pos, ◌+ℤ◌, ◌*ℤ◌, to_z}
use Rattle.std.proofs.Common.{of_z, arith, sym, ap, ◌∙◌, subst}
use Rattle.std.specs.Int.{w128}
use Rattle.std.proofs.lemmas.Int.{to_z-of_z, to_z_pos}
use Rattle.suit_reply.specs.LayoutsReplies.{IsReplyIn}
use Rattle.suit_reply.specs.NodeReplies.{NodeReplyView}
use Rattle.suit_reply.specs.AgainstPlan.{IsPlanFor, node_least}
use Rattle.suit_reply.proofs.MostByNodes.WhichLayoutsAllow.{layouts_few}
use Rattle.suit_reply.proofs.LeastLayoutByLayout.{asked_at_root, next_fits, none_so_far, one_more, part_fits, told_at_root}
use Rattle.suit_reply.proofs.LeastLayoutByLayout.{weighs_at}
use Rattle.suit_reply.proofs.against_plan.least_from.Goals as goal
use Rattle.suit_reply.proofs.OwnMovesGoOn.{layouts_of}
use Rattle.suit_game.specs.declared.limits.TheConstants.{MOST_MOVES}

pub loop-index-init : goal.loop-index-init
loop-index-init c = λ case.
    none_so_far case.question c.args.plan.now c.args.start (c.args.start - c.args.start) c.new-moves.result.items
    (omega arith) c.new-moves.ensures.items

pub overflow_cast-index : goal.overflow_cast-index
overflow_cast-index c =
    let listed : c.layouts-layouts.result.now ≡ layouts_of c.requires.asked.question =
    c.layouts-layouts.ensures ∙ c.requires.asked.grown.layouts in
    let small : c.loop-index.index < 2 ^ 8 =
    omega (
      arith,
      c.loop-index-test.true,
      c.requires.within,
      ap (λ l. length l) c.layouts-layouts.ensures,
      ap (λ l. length l) listed,
      layouts_few c.requires.asked.question,
    ) in
    search rules

pub below-requires : goal.below-requires
below-requires c =
    let fits : SFits w128 c.args.plan.now.den = search rules in
    let listed : c.layouts-layouts.result.now ≡ layouts_of c.requires.asked.question =
    c.layouts-layouts.ensures ∙ c.requires.asked.grown.layouts in
    asked_at_root c.args.tree.now c.args.plan.now c.loop-index.index c.items.result.now c.new.result.items
    (to_z w128 (of_z w128 c.args.plan.now.den)) c.root.result.now c.requires.asked
    c.items.ensures.value c.new.ensures.items (to_z-of_z w128 c.args.plan.now.den fits) c.root.ensures
    (omega (
      arith,
      c.loop-index-test.true,
      c.requires.within,
      ap (λ l. length l) c.layouts-layouts.ensures,
      ap (λ l. length l) listed,
    ))

pub overflow_mul-number : goal.overflow_mul-number
overflow_mul-number c =
    let plan = c.args.plan.now in
    let tree = c.args.tree.now in
    let case : IsPlanFor tree plan = c.requires.asked in
    let index : ℕ = c.loop-index.index in
    let number : ℤ = to_z w128 c.loop-index.number-bits in
    let weight : ℕ = (get_or c.layouts-layouts.result.now index c.index-layouts-index.result).1 in
    let reply : NodeReplyView = record { worth = c.reply.inside.worth; choices = c.reply.inside.choices.items } in
    let part : ℤ = to_z w128 weight *ℤ to_z w128 (of_z w128 reply.worth) in
    let den : SFits w128 plan.den = search rules in
    let fits : SFits w128 c.reply.inside.worth = search rules in
    let listed : c.layouts-layouts.result.now ≡ layouts_of case.question =
    c.layouts-layouts.ensures ∙ case.grown.layouts in
    let within : index < length c.layouts-layouts.result.now =
    omega (arith, c.loop-index-test.true, c.requires.within, ap (λ l. length l) c.layouts-layouts.ensures) in
    let below : index < length (layouts_of case.question) = omega (arith, within, ap (λ l. length l) listed) in
    let told : reply ≡ node_least MOST_MOVES plan.rows index [] plan.den tree.root =
    told_at_root tree plan index c.items.result.now c.new.result.items (to_z w128 (of_z w128 plan.den))
    c.root.result.now reply
    c.items.ensures.value c.new.ensures.items (to_z-of_z w128 plan.den den) c.root.ensures
    (c.reply.view_is ∙ c.in_ok-reply.ensures.reply) in
    let weighs =
    weighs_at case.question c.layouts-layouts.result.now index c.index-layouts-index.result listed within in
    let wide : to_z w128 weight ≡ pos weight =
    to_z_pos w128 weight (omega (arith, c.index-layouts-index.element_fits.fits)) in
    let same : part ≡ pos weight *ℤ reply.worth =
    ap (λ (z : ℤ). z *ℤ to_z w128 (of_z w128 reply.worth)) wide
    ∙ ap (λ (z : ℤ). pos weight *ℤ z) (to_z-of_z w128 reply.worth fits) in
    let small : SFits w128 part =
    subst (SFits w128) (sym same) (part_fits tree plan index case below weight reply weighs told) in
    small

pub overflow_add-number : goal.overflow_add-number
overflow_add-number c =
    let plan = c.args.plan.now in
    let tree = c.args.tree.now in
    let case : IsPlanFor tree plan = c.requires.asked in
    let index : ℕ = c.loop-index.index in
    let number : ℤ = to_z w128 c.loop-index.number-bits in
    let weight : ℕ = (get_or c.layouts-layouts.result.now index c.index-layouts-index.result).1 in
    let reply : NodeReplyView = record { worth = c.reply.inside.worth; choices = c.reply.inside.choices.items } in
    let part : ℤ = to_z w128 weight *ℤ to_z w128 (of_z w128 reply.worth) in
    let den : SFits w128 plan.den = search rules in
    let fits : SFits w128 c.reply.inside.worth = search rules in
    let listed : c.layouts-layouts.result.now ≡ layouts_of case.question =
    c.layouts-layouts.ensures ∙ case.grown.layouts in
    let within : index < length c.layouts-layouts.result.now =
    omega (arith, c.loop-index-test.true, c.requires.within, ap (λ l. length l) c.layouts-layouts.ensures) in
    let below : index < length (layouts_of case.question) = omega (arith, within, ap (λ l. length l) listed) in
    let told : reply ≡ node_least MOST_MOVES plan.rows index [] plan.den tree.root =
    told_at_root tree plan index c.items.result.now c.new.result.items (to_z w128 (of_z w128 plan.den))
    c.root.result.now reply
    c.items.ensures.value c.new.ensures.items (to_z-of_z w128 plan.den den) c.root.ensures
    (c.reply.view_is ∙ c.in_ok-reply.ensures.reply) in
    let weighs =
    weighs_at case.question c.layouts-layouts.result.now index c.index-layouts-index.result listed within in
    let wide : to_z w128 weight ≡ pos weight =
    to_z_pos w128 weight (omega (arith, c.index-layouts-index.element_fits.fits)) in
    let same : part ≡ pos weight *ℤ reply.worth =
    ap (λ (z : ℤ). z *ℤ to_z w128 (of_z w128 reply.worth)) wide
    ∙ ap (λ (z : ℤ). pos weight *ℤ z) (to_z-of_z w128 reply.worth fits) in
    let small : SFits w128 part =
    subst (SFits w128) (sym same) (part_fits tree plan index case below weight reply weighs told) in
    let adds : number +ℤ to_z w128 (of_z w128 part) ≡ number +ℤ pos weight *ℤ reply.worth =
    ap (λ (z : ℤ). number +ℤ z) (to_z-of_z w128 part small ∙ same) in
    let next : SFits w128 (number +ℤ to_z w128 (of_z w128 part)) =
    subst (SFits w128) (sym adds) (next_fits tree plan index case below weight reply weighs told c.args.start number
    c.loop-index.moves.items c.loop-index.auto.index (c.loop-index.invariant case)) in
    next

pub overflow_cast-index-in-loop-index : goal.overflow_cast-index-in-loop-index
overflow_cast-index-in-loop-index c =
    let listed : c.layouts-layouts.result.now ≡ layouts_of c.requires.asked.question =
    c.layouts-layouts.ensures ∙ c.requires.asked.grown.layouts in
    let small : c.loop-index.index < 2 ^ 8 =
    omega (
      arith,
      c.loop-index-test.true,
      c.requires.within,
      ap (λ l. length l) c.layouts-layouts.ensures,
      ap (λ l. length l) listed,
      layouts_few c.requires.asked.question,
    ) in
    search rules

pub loop-index-preserved : goal.loop-index-preserved
loop-index-preserved c = λ asked.
    let plan = c.args.plan.now in
    let tree = c.args.tree.now in
    let case : IsPlanFor tree plan = asked in
    let index : ℕ = c.loop-index.index in
    let number : ℤ = to_z w128 c.loop-index.number-bits in
    let weight : ℕ = (get_or c.layouts-layouts.result.now index c.index-layouts-index.result).1 in
    let reply : NodeReplyView = record { worth = c.reply.inside.worth; choices = c.reply.inside.choices.items } in
    let part : ℤ = to_z w128 weight *ℤ to_z w128 (of_z w128 reply.worth) in
    let den : SFits w128 plan.den = search rules in
    let fits : SFits w128 c.reply.inside.worth = search rules in
    let listed : c.layouts-layouts.result.now ≡ layouts_of case.question =
    c.layouts-layouts.ensures ∙ case.grown.layouts in
    let within : index < length c.layouts-layouts.result.now =
    omega (arith, c.loop-index-test.true, c.requires.within, ap (λ l. length l) c.layouts-layouts.ensures) in
    let below : index < length (layouts_of case.question) = omega (arith, within, ap (λ l. length l) listed) in
    let told : reply ≡ node_least MOST_MOVES plan.rows index [] plan.den tree.root =
    told_at_root tree plan index c.items.result.now c.new.result.items (to_z w128 (of_z w128 plan.den))
    c.root.result.now reply
    c.items.ensures.value c.new.ensures.items (to_z-of_z w128 plan.den den) c.root.ensures
    (c.reply.view_is ∙ c.in_ok-reply.ensures.reply) in
    let weighs =
    weighs_at case.question c.layouts-layouts.result.now index c.index-layouts-index.result listed within in
    let wide : to_z w128 weight ≡ pos weight =
    to_z_pos w128 weight (omega (arith, c.index-layouts-index.element_fits.fits)) in
    let same : part ≡ pos weight *ℤ reply.worth =
    ap (λ (z : ℤ). z *ℤ to_z w128 (of_z w128 reply.worth)) wide
    ∙ ap (λ (z : ℤ). pos weight *ℤ z) (to_z-of_z w128 reply.worth fits) in
    let small : SFits w128 part =
    subst (SFits w128) (sym same) (part_fits tree plan index case below weight reply weighs told) in
    let adds : number +ℤ to_z w128 (of_z w128 part) ≡ number +ℤ pos weight *ℤ reply.worth =
    ap (λ (z : ℤ). number +ℤ z) (to_z-of_z w128 part small ∙ same) in
    let next : SFits w128 (number +ℤ to_z w128 (of_z w128 part)) =
    subst (SFits w128) (sym adds) (next_fits tree plan index case below weight reply weighs told c.args.start number
    c.loop-index.moves.items c.loop-index.auto.index (c.loop-index.invariant case)) in
    one_more tree plan index case below weight reply weighs told c.args.start number
    (to_z w128 (of_z w128 (number +ℤ to_z w128 (of_z w128 part)))) c.loop-index.moves.items
    c.add_choices.new.moves.items c.loop-index.auto.index
    (to_z-of_z w128 (number +ℤ to_z w128 (of_z w128 part)) next ∙ adds) c.in_ok-add_choices.ensures
    (c.loop-index.invariant case)

pub returns : goal.returns
returns c = λ case.
    let many : c.loop-index.index - c.args.start ≡ c.args.count =
    omega (arith, c.loop-index.auto.index, c.loop-index-test.false, c.loop-index.auto.index-end) in
    subst (λ (n : ℕ). IsReplyIn case.question c.args.plan.now c.args.start n (to_z w128 c.loop-index.number-bits)
    c.loop-index.moves.items) many (c.loop-index.invariant case)
