use Rattle.std.proofs.Common.{◌≡◌, ◌++◌, take}
use Rattle.std.specs.Prelude.{string_bytes}
use Rattle.std.specs.List.{flat_map}
use Rattle.suit_top.specs.Commands.Weigh.{count_text}
use Rattle.suit_top.proofs.commands.weigh.add_counts.Given as goal

abbrev pub invariant-loop-count : goal.invariant-loop-count
invariant-loop-count l =
    string_bytes l.text ≡ string_bytes l.fn.text ++ flat_map count_text (take l.count-index l.counts)
