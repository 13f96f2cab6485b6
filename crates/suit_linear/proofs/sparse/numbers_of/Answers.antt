use Rattle.std.proofs.Common.{rules, arith, ◌≡◌, replicate, length}
use Rattle.std.specs.Prelude.{pos, FitsSigned, get_or, ◌+ℤ◌, ◌<◌, ◌^◌, unsigned_abs}
use Rattle.std.specs.Int.{w64, w128}
use Rattle.std.proofs.lemmas.Int.{to_z-of_z, fits_signed_from_abs}
use Rattle.std.proofs.lemmas.List.{get_or_read}
use lib.Signed.{nat_abs-le}
use Rattle.suit_linear.specs.declared.sparse.Entry.{Entry}
use Rattle.suit_linear.specs.Points.{number_at}
use Rattle.suit_linear.proofs.FirstTableaus.{zeros}
use Rattle.suit_linear.proofs.SparseSums.{none_summed, summed_more, summed_past, all_summed}
use Rattle.suit_linear.proofs.sparse.numbers_of.Goals as goal
use Rattle.suit_linear.proofs.sparse.numbers_of.Goals.{then-column-columns, else-column-columns}

pub loop-index-init : goal.loop-index-init
loop-index-init c =
    let made : c.in_ok-numbers.numbers.items ≡ replicate c.args.columns (pos 0) = search rules in
    rw made (none_summed c.args.columns c.args.entries.now (replicate c.args.columns (pos 0)) (search rules)
    (zeros c.args.columns))

pub loop-index-preserved : goal.loop-index-preserved
loop-index-preserved c =
    elim c.if-column-columns.branch [
      | then-column-columns w ↦
          let entry : Entry = get_or c.args.entries.now c.loop-index.index (record { column = 0; number = pos 0 }) in
          let within : entry.column < length c.loop-index.numbers.items = omega (arith, c.loop-index.invariant.same) in
          let read : w.index.result.now ≡ number_at c.loop-index.numbers.items entry.column =
          get_or_read c.loop-index.numbers.items entry.column w.index.result.now within w.index.ensures (pos 0) in
          let small = c.loop-index.invariant.small entry.column w.if-column-columns.true in
          let narrow : unsigned_abs (number_at c.loop-index.numbers.items entry.column) < 2 ^ 127 = omega arith in
          let sum_fits : FitsSigned w128 (number_at c.loop-index.numbers.items entry.column) =
          fits_signed_from_abs w128 _ narrow in
          let number_fits : FitsSigned w64 entry.number = search rules in
          let sum : w.added.result ≡ number_at c.loop-index.numbers.items entry.column +ℤ entry.number =
          simp to_z-of_z at (rw read at w.added.ensures) in
          let result_fits : FitsSigned w128 w.added.result = search rules in
          rw w.numbers-is (simp to_z-of_z
          (summed_more c.args.columns c.loop-index.index c.args.entries.now c.loop-index.numbers.items _ w.added.result
          c.loop-index-test.true w.if-column-columns.true (nat_abs-le entry.number number_fits.sfits) sum
          c.loop-index.invariant))
      | else-column-columns w ↦
          rw w.numbers-is
          (summed_past c.args.columns c.loop-index.index c.args.entries.now c.loop-index.numbers.items _
          c.loop-index-test.true w.if-column-columns.false c.loop-index.invariant)
    ]

pub returns : goal.returns
returns c = all_summed c.args.columns c.loop-index.index c.args.entries.now c.loop-index.numbers.items
    c.loop-index-test.false c.loop-index.invariant
