use Rattle.std.proofs.Common.{◌<◌, get_or, arith}
use Rattle.std.proofs.lemmas.List.Elements.{Contains-get_or}
use Rattle.std.specs.Prelude.{pos}
use Rattle.suit_program.specs.declared.walks.ledger.Posting.{Posting}
use Rattle.suit_program.proofs.programs.entries_by_row.Goals as goal

pub index_mut-requires : goal.index_mut-requires
index_mut-requires c =
    let posting : Posting =
    get_or c.args.postings.now c.loop-index.index (record { row = 0; entry = record { column = 0; number = pos 0 } }) in
    let there : posting.row < c.args.rows =
    c.requires.rows posting (Contains-get_or c.args.postings.now c.loop-index.index _ c.loop-index-test.true) in
    omega (arith, there, c.loop-index.invariant.same, c.loop-index.lists.ok.0)
