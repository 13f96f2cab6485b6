use Rattle.std.proofs.Common.{append_assoc}
use Rattle.suit_answer.proofs.WordsInARow.{turn_spaced}
use Rattle.suit_answer.proofs.writing.write_turn.Goals as goal

pub returns : goal.returns
returns c =
    rw (
      turn_spaced c.args.letters.now c.args.history.now c.args.shares.now,
      c.in_ok-write_shares.ensures,
      c.in_ok-extend_from_slice.ensures.items,
      c.in_ok-write_history.ensures,
    )
    (simp append_assoc)
