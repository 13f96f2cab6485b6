use Rattle.std.proofs.Common.{◌≡◌, ◌∙◌, length, sym, ap, arith}
use Rattle.suit_tree.proofs.WhichIndicesStay.{kept_all, kept_left, kept_none, kept_taken}
use Rattle.suit_tree.proofs.branch.kept.Goals as goal
use Rattle.suit_tree.proofs.branch.kept.Goals.{then-has+in_ok-push, else-has}

pub loop-index-preserved : goal.loop-index-preserved
loop-index-preserved c = elim c.if-has.branch [
  | then-has+in_ok-push w ↦
      kept_taken c.args.indices.now c.args.offers.now c.args.mv c.loop-index.index _ c.loop-index.kept.items
      c.if-has.kept.items _ (omega arith) c.requires
      (sym c.has.ensures ∙ w.if-has.true) (ap (λ v. v.items) w.kept-is
      ∙ w.in_ok-push.ensures.items) c.loop-index.invariant
  | else-has w ↦
      rw w.kept-is
      (kept_left c.args.indices.now c.args.offers.now c.args.mv c.loop-index.index _ c.loop-index.kept.items _
      (omega arith) c.requires
      (sym c.has.ensures ∙ w.if-has.false) c.loop-index.invariant)
]

pub returns-then-len-indices : goal.returns-then-len-indices
returns-then-len-indices c =
    let all = kept_none c.args.indices.now c.args.offers.now c.args.mv c.loop-index.index c.loop-index.kept.items _
    (omega arith) c.loop-index.invariant in
    let long : length c.loop-index.kept.items ≡ length c.args.indices.now =
    omega (arith, c.if-len-indices.true, c.len.ensures, c.loop-index.kept.ok.0) in
    sym (kept_all c.args.indices.now c.args.offers.now c.args.mv (ap length (sym all) ∙ long))

pub returns : goal.returns
returns c =
    c.in_ok-try_alloc_slice_copy.ensures ∙ c.deref.ensures.value
    ∙ kept_none c.args.indices.now c.args.offers.now c.args.mv c.loop-index.index c.loop-index.kept.items _
    (omega arith) c.loop-index.invariant
