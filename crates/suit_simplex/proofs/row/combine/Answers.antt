use Rattle.std.proofs.Common.{rules, arith, refl, sym, ◌≡◌, ◌∙◌}
use Rattle.std.specs.Prelude.{FitsSigned, ◌*ℤ◌}
use Rattle.std.specs.Int.{w128}
use Rattle.std.proofs.lemmas.Int.{to_z-of_z}
use Rattle.std.proofs.lemmas.Bool.{eqb-true}
use Rattle.std.proofs.lemmas.Result.{err_from_is_err_and}
use Rattle.suit_linear.specs.Points.{number_at}
use Rattle.suit_linear.proofs.CombinationByIndex.{none_combined, one_combined, all_combined, not_combining, kept_index}
use Rattle.suit_linear.proofs.CombinationByIndex.{narrow_combined, one_first, zero_last}
use Rattle.suit_linear.proofs.CommonDivisors.{zero_bits, one_bits}
use Rattle.suit_simplex.proofs.row.combine.Goals as goal
use Rattle.suit_simplex.proofs.row.combine.Goals.{then-own-eq1, else-own-eq1}

pub loop-index-init : goal.loop-index-init
loop-index-init c = none_combined _ _ _ _

pub loop-index-preserved-then-row-index-eq0 : goal.loop-index-preserved-then-row-index-eq0
loop-index-preserved-then-row-index-eq0 c =
    let own_fits : FitsSigned w128 c.args.own = c.ranges.own in
    let other_fits : FitsSigned w128 c.args.other = c.ranges.other in
    let x_fits : FitsSigned w128 (number_at c.loop-index.row c.loop-index.index) = search rules in
    let y_fits : FitsSigned w128 (number_at c.args.leaver.now c.loop-index.index) = search rules in
    let stays : c.args.own *ℤ number_at c.loop-index.row c.loop-index.index
    ≡ number_at c.loop-index.row c.loop-index.index =
    elim c.if-own-eq1.branch [
      | then-own-eq1 w ↦ rw (one_bits _ own_fits w.if-own-eq1.true)
          (one_first (number_at c.loop-index.row c.loop-index.index))
      | else-own-eq1 w ↦ rw (zero_bits _ x_fits (eqb-true _ 0 (sym w.value-is ∙ c.if-row-index-eq0.true)))
          (zero_last c.args.own)
    ] in
    simp to_z-of_z (kept_index c.args.own c.args.row.now c.args.other c.args.leaver.now c.loop-index.row
    c.loop-index.index (number_at c.loop-index.row c.loop-index.index)
    (number_at c.args.leaver.now c.loop-index.index) (omega arith) c.loop-index.auto.row c.requires.narrow refl refl
    stays (zero_bits _ y_fits c.if-taken-eq0.true) (simp to_z-of_z at c.loop-index.invariant))

pub loop-index-preserved : goal.loop-index-preserved
loop-index-preserved c =
    let own_fits : FitsSigned w128 c.args.own = c.ranges.own in
    let other_fits : FitsSigned w128 c.args.other = c.ranges.other in
    let x_fits : FitsSigned w128 (number_at c.loop-index.row c.loop-index.index) = search rules in
    let y_fits : FitsSigned w128 (number_at c.args.leaver.now c.loop-index.index) = search rules in
    let number_fits : FitsSigned w128 c.in_ok-row.field-0 = search rules in
    simp to_z-of_z (one_combined c.args.own c.args.row.now c.args.other c.args.leaver.now c.loop-index.row
    c.loop-index.index c.in_ok-row.field-0 (number_at c.loop-index.row c.loop-index.index)
    (number_at c.args.leaver.now c.loop-index.index) (omega arith) (simp to_z-of_z at c.loop-index.invariant) refl
    refl (simp to_z-of_z at (rw c.in_ok-row.ensures.ok_part at c.combine_numbers.ensures)))

pub returns-in_err-row-clause-fits : goal.returns-in_err-row-clause-fits
returns-in_err-row-clause-fits c =
    let own_fits : FitsSigned w128 c.args.own = c.ranges.own in
    let other_fits : FitsSigned w128 c.args.other = c.ranges.other in
    let x_fits : FitsSigned w128 (number_at c.loop-index.row c.loop-index.index) = search rules in
    let y_fits : FitsSigned w128 (number_at c.args.leaver.now c.loop-index.index) = search rules in
    let p = err_from_is_err_and c.from_residual.result c.from_residual.ensures.1 in
    rw p.1 (
      λ ok. absurd (cc),
      λ all. absurd
          (not_combining c.args.own c.args.row.now c.args.other c.args.leaver.now c.loop-index.row c.loop-index.index
          (number_at c.loop-index.row c.loop-index.index) (number_at c.args.leaver.now c.loop-index.index)
          c.requires.same_length (omega arith) (simp to_z-of_z at c.loop-index.invariant) refl refl
          (simp to_z-of_z at (rw c.in_err-row.ensures.ok_part at c.combine_numbers.ensures)) all),
    )

pub returns-clause-fits : goal.returns-clause-fits
returns-clause-fits c =
    let own_fits : FitsSigned w128 c.args.own = c.ranges.own in
    let other_fits : FitsSigned w128 c.args.other = c.ranges.other in
    let all = all_combined c.args.own c.args.row.now c.args.other c.args.leaver.now c.loop-index.row c.loop-index.index
    c.requires.same_length c.loop-index.auto.row (omega arith) (simp to_z-of_z at c.loop-index.invariant) in
    (λ e. all.1, λ h. refl)

pub returns-clause-value : goal.returns-clause-value
returns-clause-value c =
    let own_fits : FitsSigned w128 c.args.own = c.ranges.own in
    let other_fits : FitsSigned w128 c.args.other = c.ranges.other in
    (all_combined c.args.own c.args.row.now c.args.other c.args.leaver.now c.loop-index.row c.loop-index.index
    c.requires.same_length c.loop-index.auto.row (omega arith) (simp to_z-of_z at c.loop-index.invariant)).0

pub returns-clause-narrow : goal.returns-clause-narrow
returns-clause-narrow c =
    let own_fits : FitsSigned w128 c.args.own = c.ranges.own in
    let other_fits : FitsSigned w128 c.args.other = c.ranges.other in
    narrow_combined c.args.own c.args.other c.args.row.now c.args.leaver.now c.loop-index.row c.loop-index.index
    c.loop-index.auto.row (omega arith) (simp to_z-of_z at c.loop-index.invariant)
