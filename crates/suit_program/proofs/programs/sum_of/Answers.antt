use Rattle.std.proofs.Common.{◌≡◌, ◌≤◌, ◌<◌, ◌+◌, ◌*◌, ◌^◌, ℤ, pos, ◌+ℤ◌, get_or, FitsSigned, to_z, of_z, ap, subst}
use Rattle.std.proofs.Common.{sym, ◌∙◌, rules, arith}
use Rattle.std.specs.Prelude.{unsigned_abs}
use Rattle.std.specs.Int.{w64, w128}
use Rattle.std.proofs.lemmas.Int.{to_z-of_z, fits_signed_from_abs}
use lib.Signed.{nat_abs-le}
use Rattle.suit_linear.specs.declared.sparse.Entry.{Entry}
use Rattle.suit_program.proofs.lemmas.Programs.SumOfAColumn.{IsSummed, nothing_added, entry_added, entry_past, grown}
use Rattle.suit_program.proofs.programs.sum_of.Goals as goal
use Rattle.suit_program.proofs.programs.sum_of.Goals.{then-entries-index, else-entries-index}

pub loop-index-init : goal.loop-index-init
loop-index-init c = nothing_added c.args.entries.now c.args.column

pub loop-index-preserved : goal.loop-index-preserved
loop-index-preserved c =
    let index = c.loop-index.index in
    let now : ℤ = to_z w128 c.loop-index.sum-bits in
    let sum : ℤ = to_z w128 c.if-entries-index.sum-bits in
    elim c.if-entries-index.branch [
      | then-entries-index w ↦
          let entry : Entry = get_or c.args.entries.now index (record { column = 0; number = pos 0 }) in
          let number_fits : FitsSigned w64 entry.number = search rules in
          let few : unsigned_abs entry.number ≤ 2 ^ 63 = nat_abs-le entry.number number_fits.sfits in
          let wide : FitsSigned w128 entry.number = fits_signed_from_abs w128 _ (omega (arith, few)) in
          let small : unsigned_abs (now +ℤ entry.number) ≤ (index + 1) * 2 ^ 63 =
          grown now entry.number index c.loop-index.invariant.small few in
          let narrow : unsigned_abs (now +ℤ entry.number) < 2 ^ 127 = omega arith in
          let fits : FitsSigned w128 (now +ℤ entry.number) = fits_signed_from_abs w128 _ narrow in
          let same : w.from-sum.result ≡ entry.number =
          w.from-sum.ensures ∙ to_z-of_z w64 entry.number number_fits in
          let grew : sum ≡ now +ℤ entry.number =
          w.sum-is
          ∙ ap (λ (z : ℤ). to_z w128 (of_z w128 (now +ℤ to_z w128 (of_z w128 z)))) same
          ∙ ap (λ (z : ℤ). to_z w128 (of_z w128 (now +ℤ z))) (to_z-of_z w128 entry.number wide)
          ∙ to_z-of_z w128 (now +ℤ entry.number) fits in
          entry_added index c.args.entries.now c.args.column _ now sum c.loop-index-test.true w.if-entries-index.true
          few
          grew c.loop-index.invariant
      | else-entries-index w ↦
          subst (λ (z : ℤ). IsSummed (index + 1) c.args.entries.now c.args.column z) (sym w.sum-is)
          (entry_past index c.args.entries.now c.args.column _ now c.loop-index-test.true w.if-entries-index.false
          c.loop-index.invariant)
    ]
