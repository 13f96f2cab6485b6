use Rattle.std.proofs.Common.{arith, rules, ◌≡◌, sym, ◌∙◌, true, subst}
use Rattle.std.specs.Prelude.{FitsSigned, pos, int_lt, get_or, suc, ◌<ℤ◌, ℤ}
use Rattle.std.specs.Int.{w64}
use Rattle.std.proofs.lemmas.Int.{to_z-of_z}
use Rattle.suit_num.proofs.IntegerLaws.{int_lt-true}
use Rattle.suit_linear.specs.Points.{number_at}
use Rattle.suit_linear_fast.specs.declared.lines.Line.{Line}
use Rattle.suit_linear_fast.proofs.ClaimSums.{none_apart, own_apart, other_apart, all_apart}
use Rattle.suit_linear_fast.proofs.claims.is_apart.Goals as goal
use Rattle.suit_linear_fast.proofs.claims.is_apart.Goals.{then-index-leaving+else-not-is_positive}
use Rattle.suit_linear_fast.proofs.claims.is_apart.Goals.{else-index-leaving+else-not-is_same_short}

pub loop-index-init : goal.loop-index-init
loop-index-init c = none_apart _ _ _

pub loop-index-preserved : goal.loop-index-preserved
loop-index-preserved c =
    let line : Line = get_or c.args.lines.now c.loop-index.index
    (record { basic = 0; own = pos 0; bound = pos 0; size = 0 }) in
    let number_fits : FitsSigned w64 c.in-Some.number = search rules in
    let read : c.in-Some.number ≡ number_at c.args.numbers.now (suc line.basic) =
    rw c.in-Some.is at c.entry_of.ensures in
    elim c.if-index-leaving.branch [
      | then-index-leaving+else-not-is_positive w ↦
          let some : int_lt (pos 0) c.in-Some.number ≡ true =
          simp to_z-of_z at (sym w.is_positive.ensures ∙ w.if-not-is_positive.false) in
          own_apart c.args.lines.now c.args.leaving c.args.numbers.now c.loop-index.index
          (record { basic = 0; own = pos 0; bound = pos 0; size = 0 }) c.loop-index.invariant w.if-index-leaving.true
          (subst (λ (z : ℤ). pos 0 <ℤ z) read (int_lt-true (pos 0) c.in-Some.number some))
      | else-index-leaving+else-not-is_same_short w ↦
          let none : c.in-Some.number ≡ pos 0 =
          simp to_z-of_z at (w.is_same_short.ensures w.if-not-is_same_short.false) in
          other_apart c.args.lines.now c.args.leaving c.args.numbers.now c.loop-index.index
          (record { basic = 0; own = pos 0; bound = pos 0; size = 0 }) c.loop-index.invariant w.if-index-leaving.false
          (sym read ∙ none)
    ]

pub returns : goal.returns
returns c = λ t. all_apart c.args.lines.now c.args.leaving c.args.numbers.now c.loop-index.index (omega arith)
    c.loop-index.invariant
