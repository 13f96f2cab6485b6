use Rattle.std.proofs.Common.{arith, ◌≡◌, Some, refl, ap, ◌∙◌}
use Rattle.std.specs.Prelude.{slice_get, FitsSigned, length, ◌<◌}
use Rattle.std.proofs.lemmas.Option.{slice_get_read}
use Rattle.std.specs.Int.{w64}
use Rattle.std.proofs.lemmas.Int.{to_z-of_z}
use Rattle.suit_linear_fast.proofs.ClaimSums.{row_added}
use Rattle.suit_linear_fast.proofs.claims.add_row.Goals as goal

pub returns-in-Some-clause-value : goal.returns-in-Some-clause-value
returns-in-Some-clause-value c = λ t program is.
    let weight_fits : FitsSigned w64 c.args.weight = c.ranges.weight in
    let g = rw c.in-Some.is at c.get.ensures.lookup in
    let less : c.args.index < length c.deref.result.now = g.3.0 in
    let at : slice_get c.args.sparse.now.rows.items c.args.index ≡ Some c.in-Some.cells.now =
    rw c.deref.ensures.value at (slice_get_read c.deref.result.now (length c.deref.result.now) c.args.index
    c.in-Some.cells.now refl less g.1) in
    let holds = rw at at (is.rows c.args.index) in
    let count : length c.deref.result.now ≡ length program.rows = ap length c.deref.ensures.value ∙ is.row_count in
    row_added program c.args.sparse.now c.args.index c.in-Some.cells.now.items c.args.weight c.args.numbers.now
    c.add_multiple.new.numbers (omega arith) holds
    (simp to_z-of_z at (rw c.deref-in-Some.ensures.value at (c.add_multiple.ensures.value t)))
