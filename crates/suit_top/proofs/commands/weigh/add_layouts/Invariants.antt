use Rattle.std.proofs.Common.{◌≡◌, ◌++◌, take}
use Rattle.std.specs.Prelude.{string_bytes}
use Rattle.std.specs.List.{flat_map}
use Rattle.suit_top.specs.Commands.Weigh.{layout_line}
use Rattle.suit_top.proofs.commands.weigh.add_layouts.Given as goal

abbrev pub invariant-loop-layout : goal.invariant-loop-layout
invariant-loop-layout l =
    string_bytes l.text ≡ string_bytes l.fn.text ++ flat_map layout_line (take l.layout-index l.layouts)
