use Rattle.std.proofs.Common.{◌≡◌, ◌<◌, ◌≤◌, ◌+◌, ◌^◌, ℕ, List, ap, arith, get_or, length, rules, sym, take, true}
use Rattle.std.proofs.Common.{subst, ◌∙◌}
use Rattle.std.specs.Prelude.{Contains, sum_by}
use Rattle.std.proofs.lemmas.List.{take_all}
use Rattle.std.proofs.lemmas.List.Elements.{Contains-get_or}
use Rattle.suit_lists.proofs.Sums.{sum_one_more}
use Rattle.suit_classes.specs.declared.class_moves.ClassMove.{ClassMove}
use Rattle.suit_plans.specs.ReplyLaws.{counts_at}
use Rattle.suit_program.specs.declared.walks.reach.ReachedLayout.{ReachedLayout}
use Rattle.suit_program.specs.Supports.{declarer_chooses, defence_chooses}
use Rattle.suit_program.proofs.lemmas.Walks.ReachTells.{layout_held}
use Rattle.suit_program.proofs.lemmas.Walks.NodesBelow.{layout_at}
use Rattle.suit_program.proofs.lemmas.Walks.SizeFromHere.{choice_size, chooses_own, chooses_theirs}
use Rattle.suit_program.proofs.lemmas.Walks.SizeFromHere.{no_choice_size, own_size, size_in, their_size}
use Rattle.suit_program.proofs.lemmas.Walks.ReachAtTheStart.{reach_few}
use Rattle.suit_program.proofs.programs.sizes.size_at.Goals as goal
use Rattle.suit_program.proofs.programs.sizes.size_at.Goals.{then-chooses, else-chooses}

pub returns-then-declarer_chooses : goal.returns-then-declarer_chooses
returns-then-declarer_chooses c =
    λ question support history is.
    let chooses : declarer_chooses question history ≡ true =
    sym (c.declarer_chooses.ensures question support history is) ∙ c.if-declarer_chooses.true in
    ap (λ (n : ℕ). 1 + n) (c.len.ensures.value
    ∙ ap (λ (l : List ClassMove). length l)
    (c.own_moves.ensures question support history is (chooses_own question history chooses)))
    ∙ sym (own_size question support history chooses)

pub overflow_add-size-then-chooses : goal.overflow_add-size-then-chooses
overflow_add-size-then-chooses c =
    let most = reach_few c.requires.question c.requires.support c.requires.history c.args.reach.now
    c.requires.reached in
    let small : c.loop-layout.size + (1 + c.len-then-chooses.result) < 2 ^ 32 =
    omega (
      arith,
      most,
      c.loop-layout.invariant.few,
      c.loop-layout-test.true,
      c.len-then-chooses.ensures.fits,
      ap (λ (l : List ReachedLayout). length l) c.layouts-layout-items.ensures,
    ) in
    search rules

pub loop-layout-preserved : goal.loop-layout-preserved
loop-layout-preserved c =
    let layouts : List ReachedLayout = c.args.reach.now.layouts.items in
    let i = c.loop-layout.layout-index in
    let item : ReachedLayout = c.layout-item.result in
    let within : i < length layouts =
    omega (arith, c.loop-layout-test.true, ap (λ (l : List ReachedLayout). length l) c.layouts-layout-items.ensures) in
    let at : item ≡ get_or layouts i item =
    c.layout-item.is ∙ ap (λ (l : List ReachedLayout). get_or l i item) c.layouts-layout-items.ensures in
    let found : Contains layouts item = subst (Contains layouts) (sym at) (Contains-get_or layouts i item within) in
    elim c.if-chooses.branch [
      | then-chooses w ↦ record {
        sum = λ question support history is.
            let size : ReachedLayout → ℕ = size_in question support history c.args.reach.now is in
            let chooses : defence_chooses question (counts_at question item.index) history ≡ true =
            sym (c.chooses.ensures question support history is
            (layout_held question support history c.args.reach.now is item found)) ∙ w.if-chooses.true in
            w.size-is
            ∙ ap (λ (n : ℕ). n + (1 + w.len-then-chooses.result))
            (c.loop-layout.invariant.sum question support history is)
            ∙ ap (λ (n : ℕ). sum_by size (take i layouts) + n)
            (ap (λ (n : ℕ). 1 + n) (w.len-then-chooses.ensures.value
            ∙ ap (λ (l : List ClassMove). length l)
            (w.answers.ensures question support history is found
            (chooses_theirs question (counts_at question item.index) history chooses)))
            ∙ sym (choice_size question support history (layout_at question item.index) chooses)
            ∙ ap size at)
            ∙ sym (sum_one_more size layouts i item within);
        few = omega (arith, c.loop-layout.invariant.few, w.size-is, w.len-then-chooses.ensures.fits);
      }
      | else-chooses w ↦ record {
        sum = λ question support history is.
            let size : ReachedLayout → ℕ = size_in question support history c.args.reach.now is in
            w.size-is
            ∙ c.loop-layout.invariant.sum question support history is
            ∙ sym (sum_one_more size layouts i item within
            ∙ ap (λ (n : ℕ). sum_by size (take i layouts) + n)
            (sym (ap size at)
            ∙ no_choice_size question support history (layout_at question item.index)
            (sym (c.chooses.ensures question support history is
            (layout_held question support history c.args.reach.now is item found)) ∙ w.if-chooses.false))
            ∙ nothing (sum_by size (take i layouts)));
        few = omega (arith, c.loop-layout.invariant.few, w.size-is);
      }
    ]
  where
    nothing : (n : ℕ) → n + 0 ≡ n
    nothing n = omega arith

pub returns : goal.returns
returns c =
    λ question support history is.
    let layouts : List ReachedLayout = c.args.reach.now.layouts.items in
    let past : length layouts ≤ c.loop-layout.layout-index =
    omega (
      arith,
      c.loop-layout-test.false,
      ap (λ (l : List ReachedLayout). length l) c.layouts-layout-items.ensures,
    ) in
    c.loop-layout.invariant.sum question support history is
    ∙ ap (sum_by (size_in question support history c.args.reach.now is)) (take_all c.loop-layout.layout-index layouts
    past)
    ∙ sym (their_size question support history c.args.reach.now is
    (sym (c.declarer_chooses.ensures question support history is) ∙ c.if-declarer_chooses.false))
