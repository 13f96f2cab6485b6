use Rattle.std.proofs.Common.{◌≡◌, ◌++◌}
use Rattle.std.specs.Fmt.{signed_decimal}
use Rattle.std.specs.Prelude.{FitsSigned}
use Rattle.std.specs.Int.{w128}
use Rattle.std.proofs.lemmas.Int.{to_z-of_z}
use Rattle.suit_answer.proofs.WordsInARow.{wrote_header}
use Rattle.suit_answer.proofs.writing.write_header.Goals as goal

pub returns : goal.returns
returns c =
    let den_fits : FitsSigned w128 c.args.den = c.ranges.den in
    let den : c.write_number.new.text.items ≡ c.extend_from_slice-2.new.self.items ++ signed_decimal c.args.den =
    simp to_z-of_z at c.in_ok-write_number.ensures in
    wrote_header c.args.keyword.now c.args.den c.args.rows _ _ _ _ _ _ _ c.in_ok-extend_from_slice.ensures.items
    c.in_ok-extend_from_slice-2.ensures.items den c.in_ok-extend_from_slice-3.ensures.items c.in_ok-write_small.ensures
    c.in_ok-extend_from_slice-4.ensures.items
