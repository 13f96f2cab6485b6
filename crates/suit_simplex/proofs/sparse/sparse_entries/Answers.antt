use Rattle.std.proofs.Common.{rules}
use Rattle.std.specs.Prelude.{FitsSigned}
use Rattle.std.specs.Int.{w128}
use Rattle.std.proofs.lemmas.Int.{to_z-of_z}
use Rattle.suit_linear.specs.Points.{number_at}
use Rattle.suit_simplex.proofs.SparsePrograms.{none_thinned, more_thinned, all_thinned}
use Rattle.suit_simplex.proofs.sparse.sparse_entries.Goals as goal

pub loop-index-init : goal.loop-index-init
loop-index-init c = rw c.new-entries.ensures.items none_thinned

pub loop-index-preserved : goal.loop-index-preserved
loop-index-preserved c =
    let number_fits : FitsSigned w128 (number_at c.args.numbers.now c.loop-index.index) = search rules in
    more_thinned c.args.numbers.now c.loop-index.index c.loop-index.entries.items c.push_entry.new.entries.items
    c.loop-index-test.true c.loop-index.invariant
    (simp to_z-of_z at (c.in_ok-push_entry.ensures c.if-not-branch.false))

pub returns : goal.returns
returns c = all_thinned c.args.numbers.now c.loop-index.index c.loop-index.entries.items c.loop-index-test.false
    c.loop-index.invariant
