use Rattle.std.proofs.Common.{◌≡◌, ◌++◌, rules}
use Rattle.std.specs.Fmt.{signed_decimal}
use Rattle.std.specs.Prelude.{FitsSigned}
use Rattle.std.specs.Int.{w128}
use Rattle.std.proofs.lemmas.Int.{to_z-of_z}
use Rattle.suit_answer.proofs.WordsInARow.{wrote_value}
use Rattle.suit_answer.proofs.writing.write_value.Goals as goal

pub returns : goal.returns
returns c =
    let num_fits : FitsSigned w128 c.args.value.num = search rules in
    let den_fits : FitsSigned w128 c.args.value.den = search rules in
    let num : c.write_number.new.text.items
    ≡ c.extend_from_slice.new.self.items ++ signed_decimal c.args.value.num =
    simp to_z-of_z at c.in_ok-write_number.ensures in
    let den : c.write_number-2.new.text.items
    ≡ c.extend_from_slice-2.new.self.items ++ signed_decimal c.args.value.den =
    simp to_z-of_z at c.in_ok-write_number-2.ensures in
    wrote_value c.args.value _ _ _ _ _ _ c.in_ok-extend_from_slice.ensures.items num
    c.in_ok-extend_from_slice-2.ensures.items den c.in_ok-extend_from_slice-3.ensures.items
