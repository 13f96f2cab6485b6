use Rattle.std.proofs.Common.{◌≡◌, ap, ◌∙◌, length, refl, List}
use Rattle.std.specs.Prelude.{get_or, ◌<◌}
use Rattle.suit_linear.specs.declared.program.ProgramRow.{ProgramRow}
use Rattle.suit_simplex.proofs.SparsePrograms.{one_thinned}
use Rattle.suit_simplex.proofs.sparse.sparse_program.Goals as goal

pub loop-index-init : goal.loop-index-init
loop-index-init c = rw c.in_ok-rows.ensures.items refl

pub loop-index-preserved : goal.loop-index-preserved
loop-index-preserved c =
    let less : c.loop-index.index < length c.args.program.now.rows =
    rw c.items-list.ensures at c.loop-index-test.true in
    let read : c.index-list-index.result ≡ get_or c.args.program.now.rows c.loop-index.index c.index-list-index.result =
    c.index-list-index.is
    ∙ ap (λ (rows : List ProgramRow). get_or rows c.loop-index.index c.index-list-index.result) c.items-list.ensures in
    rw c.in_ok-push.ensures.items
    (one_thinned c.args.program.now c.loop-index.index c.index-list-index.result c.loop-index.rows.items c.in-Some.row
    c.requires less read c.loop-index.invariant (rw c.in-Some.is at c.in_ok-row.ensures))
