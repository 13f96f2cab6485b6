use Rattle.std.proofs.Common.{◌≡◌, drop, fold}
use Rattle.std.specs.Option.{option_copied}
use Rattle.suit_program.specs.Supports.Marks.{mark_after}
use Rattle.suit_program.proofs.supports.mark.named_on.Given as goal

abbrev pub invariant-loop-next : goal.invariant-loop-next
invariant-loop-next l =
    fold mark_after (option_copied l.at) (drop l.next-index l.moves) ≡ fold mark_after (option_copied l.mark) l.moves
