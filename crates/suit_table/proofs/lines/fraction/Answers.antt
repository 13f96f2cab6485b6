-- The bytes of a fraction are those of its two numbers, with a stroke between them.
use Rattle.std.proofs.Common.{append_assoc}
use Rattle.std.proofs.lemmas.Int.{to_z-of_z}
use Rattle.std.proofs.Common.{SFits}
use Rattle.std.specs.Int.{w128}
use Rattle.suit_table.proofs.lines.fraction.Goals as goal

pub returns : goal.returns
returns c =
    let num : SFits w128 c.args.num = c.ranges.num in
    let den : SFits w128 c.args.den = c.ranges.den in
    simp append_assoc (simp to_z-of_z at c.format.ensures.ok)
