use Rattle.std.proofs.Common.{◌∙◌, length, refl, sym, ap, arith}
use Rattle.std.proofs.lemmas.List.{take_all}
use Rattle.suit_tree.proofs.Branches.{branch_more, branch_none, is_none, is_some, their_made}
use Rattle.suit_tree.proofs.WhichIndicesStay.{kept_keeping}
use Rattle.suit_tree.proofs.OffersTell.{offered_tells, their_at, zip_length}
use Rattle.suit_tree.proofs.branch.their_branches.Goals as goal
use Rattle.suit_tree.proofs.branch.their_branches.Goals.{then-not-is_empty+in_ok-push, else-not-is_empty}

pub kept-requires : goal.kept-requires
kept-requires c = zip_length _ c.args.indices.now c.in_ok-offers.offers.items c.in_ok-offers.ensures
    ∙ ap length (sym c.deref.ensures.value)

pub loop-mv-preserved : goal.loop-mv-preserved
loop-mv-preserved c =
    let layouts = c.args.layouts.now in
    let view = c.args.position.now in
    let indices = c.args.indices.now in
    let moves = c.as_slice-mv-items.result.now in
    let theirs = their_at moves c.loop-mv.mv-index _ (c.as_slice-mv-items.ensures.value
    ∙ c.their_moves.ensures) c.loop-mv-test.true in
    let kept_is =
    rw c.deref.ensures.value at c.in_ok-kept.ensures
    ∙ kept_keeping layouts view _ indices c.in_ok-offers.offers.items c.in_ok-offers.ensures (offered_tells _ theirs) in
    elim c.if-not-is_empty.branch [
      | then-not-is_empty+in_ok-push w ↦
          branch_more layouts view indices c.loop-mv.branches.items c.if-not-is_empty.branches.items _ moves
          c.loop-mv.mv-index _ c.loop-mv-test.true
          (ap (λ v. v.items) w.branches-is
          ∙ w.in_ok-push.ensures.items) refl kept_is (is_some _ w.if-not-is_empty.ensures)
          c.loop-mv.invariant
      | else-not-is_empty w ↦
          branch_none layouts view indices c.loop-mv.branches.items c.if-not-is_empty.branches.items moves
          c.loop-mv.mv-index _ _ c.loop-mv-test.true
          kept_is (is_none _ w.if-not-is_empty.ensures) (ap (λ v. v.items) w.branches-is) c.loop-mv.invariant
    ]

pub returns : goal.returns
returns c =
    let layouts = c.args.layouts.now in
    let view = c.args.position.now in
    let indices = c.args.indices.now in
    let moves = c.as_slice-mv-items.result.now in
    rw (
      take_all c.loop-mv.mv-index moves (omega arith),
      c.as_slice-mv-items.ensures.value,
      c.their_moves.ensures,
      their_made layouts view indices c.requires.turn,
    )
    at c.loop-mv.invariant
