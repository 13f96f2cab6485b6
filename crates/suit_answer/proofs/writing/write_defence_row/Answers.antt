use Rattle.suit_answer.proofs.WordsInARow.{wrote_defence}
use Rattle.suit_answer.proofs.writing.write_defence_row.Goals as goal

pub returns : goal.returns
returns c =
    wrote_defence c.args.letters.now c.args.row.now _ _ _ _ _ _ _ _ _ c.counts.ensures.value c.items.ensures
    c.items-2.ensures c.in_ok-extend_from_slice.ensures.items c.in_ok-write_counts.ensures
    c.in_ok-extend_from_slice-2.ensures.items c.in_ok-write_turn.ensures c.in_ok-extend_from_slice-3.ensures.items
