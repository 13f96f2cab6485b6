use Rattle.std.proofs.Common.{rules, ◌≡◌, ◌+◌, get_or}
use Rattle.std.specs.Prelude.{FitsSigned, pos, unsigned_abs}
use Rattle.std.specs.Int.{w64}
use Rattle.std.proofs.lemmas.Int.{to_z-of_z}
use Rattle.suit_linear.specs.declared.sparse.Entry.{Entry}
use Rattle.suit_linear_fast.proofs.FastRuns.{no_size, more_size, all_size}
use Rattle.suit_linear_fast.proofs.SparseRows.{dense_size}
use Rattle.suit_linear_fast.proofs.running.size_of_entries.Goals as goal

pub loop-index-init : goal.loop-index-init
loop-index-init c = no_size _

pub loop-index-preserved : goal.loop-index-preserved
loop-index-preserved c =
    let entry : Entry = get_or c.args.entries.now c.loop-index.index (record { column = 0; number = pos 0 }) in
    let number_fits : FitsSigned w64 entry.number = search rules in
    let facts = rw c.in-Some.is at c.grown.ensures in
    let value : c.in-Some.sum ≡ c.loop-index.size + unsigned_abs entry.number = simp to_z-of_z at facts.value in
    more_size c.args.entries.now c.loop-index.index c.loop-index.size (record { column = 0; number = pos 0 })
    c.in-Some.sum c.loop-index-test.true c.loop-index.invariant value facts.small

pub returns-clause-within : goal.returns-clause-within
returns-clause-within c = λ columns. dense_size columns c.args.entries.now c.loop-index.size
    (all_size c.args.entries.now c.loop-index.index c.loop-index.size c.loop-index-test.false c.loop-index.invariant)
