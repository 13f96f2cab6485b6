use Rattle.std.proofs.Common.{◌≡◌, ◌∙◌, ◌-◌, ℕ, ℤ, Bool, length, get_or, sym, ap, true, false, pos, arith}
use Rattle.std.proofs.Math.ListN.{get_or-map}
use Rattle.std.proofs.lemmas.List.{length-map}
use Rattle.suit_cards.specs.declared.seats.Seat.TheVariants.{N}
use Rattle.suit_classes.specs.declared.class_moves.ClassMove.TheVariants.{Lead}
use Rattle.suit_classes.specs.declared.class_moves.ClassMove.{ClassMove}
use Rattle.suit_classes.specs.MoveOrder.{stands_before}
use Rattle.suit_plans.specs.Properness.{moves_of}
use Rattle.suit_plans.proofs.StillToLookAt.{risen_first, risen_last, risen_next, risen_on}
use Rattle.suit_plans.specs.Masses.{Shares}
use Rattle.suit_plans.proofs.row_faults.are_rising.Goals as goal

-- the moves of counts are read as the counts are
told_of_moves : (shares : Shares) (here there : ℕ) (b : Bool)
    → b ≡ stands_before (get_or shares here (Lead N 0, pos 0)).0 (get_or shares there (Lead N 0, pos 0)).0
    → b ≡ stands_before (get_or (moves_of shares) here (Lead N 0)) (get_or (moves_of shares) there (Lead N 0))
told_of_moves shares here there b is =
    let move : ClassMove × ℤ → ClassMove = λ count. count.0 in
    is ∙ sym (ap (λ (m : ClassMove). stands_before m (move (get_or shares there (Lead N 0, pos 0))))
    (get_or-map move shares here (Lead N 0, pos 0)))
    ∙ sym (ap (stands_before (get_or (moves_of shares) here (Lead N 0))) (get_or-map move shares there (
      Lead N 0,
      pos 0,
    )))

as_many : (shares : Shares) → length (moves_of shares) ≡ length shares
as_many shares = length-map shares (λ (count : ClassMove × ℤ). count.0)

pub loop-index-init : goal.loop-index-init
loop-index-init c = risen_first (moves_of c.args.shares.now)

pub returns-then-not-stands_before : goal.returns-then-not-stands_before
returns-then-not-stands_before c =
    sym (risen_on (moves_of c.args.shares.now) c.loop-index.index (Lead N 0) false (omega (
      arith,
      as_many c.args.shares.now,
      c.loop-index-test.true,
    )) c.loop-index.invariant
    (told_of_moves c.args.shares.now (c.loop-index.index - 1) c.loop-index.index false c.if-not-stands_before.ensures))

pub loop-index-preserved : goal.loop-index-preserved
loop-index-preserved c =
    risen_next (moves_of c.args.shares.now) c.loop-index.index (Lead N 0) (omega (
      arith,
      as_many c.args.shares.now,
      c.loop-index-test.true,
    )) c.loop-index.invariant
    (told_of_moves c.args.shares.now (c.loop-index.index - 1) c.loop-index.index true c.if-not-stands_before.ensures)

pub returns : goal.returns
returns c = risen_last (moves_of c.args.shares.now) c.loop-index.index (omega (
  arith,
  as_many c.args.shares.now,
  c.loop-index-test.false,
)) c.loop-index.invariant
