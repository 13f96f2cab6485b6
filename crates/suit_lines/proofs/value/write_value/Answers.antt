use Rattle.std.proofs.Common.{◌≡◌, ◌++◌, ◌∙◌, ap, List, ℕ, rules}
use Rattle.std.specs.Fmt.{signed_decimal}
use Rattle.std.specs.Prelude.{FitsSigned}
use Rattle.std.specs.Int.{w128}
use Rattle.std.proofs.lemmas.Int.{to_z-of_z}
use Rattle.suit_lines.specs.Values.{decimals, hundredths, unit}
use Rattle.suit_lines.proofs.OneMoreTextJoined.{then_written}
use Rattle.suit_lines.proofs.value.write_value.Goals as goal

pub returns : goal.returns
returns c =
    let num_fits : FitsSigned w128 c.args.value.num = search rules in
    let den_fits : FitsSigned w128 c.args.value.den = search rules in
    let num : c.write_number.new.text.items
    ≡ c.extend_from_slice.new.self.items ++ signed_decimal c.args.value.num =
    simp to_z-of_z at c.in_ok-write_number.ensures in
    let den : c.write_number-2.new.text.items
    ≡ c.extend_from_slice-2.new.self.items ++ signed_decimal c.args.value.den =
    simp to_z-of_z at c.in_ok-write_number-2.ensures in
    let hundreds : c.write_decimals.new.text.items
    ≡ c.extend_from_slice-3.new.self.items ++ decimals (hundredths c.args.goal c.args.value) =
    c.in_ok-write_decimals.ensures
    ∙ ap (λ (n : ℕ). c.extend_from_slice-3.new.self.items ++ decimals n) c.hundredths.ensures.value in
    let units : c.extend_from_slice-5.new.self.items ≡ c.extend_from_slice-4.new.self.items ++ unit c.args.goal =
    c.in_ok-extend_from_slice-5.ensures.items
    ∙ ap (λ (l : List ℕ). c.extend_from_slice-4.new.self.items ++ l) c.unit.ensures in
    then_written c.args.text.now.items _ _ _ _ (then_written c.args.text.now.items _ _ _ _
    (then_written c.args.text.now.items _ _ _ _ (then_written c.args.text.now.items _ _ _ _
    (then_written c.args.text.now.items _ _ _ _ (then_written c.args.text.now.items _ _ _ _
    (then_written c.args.text.now.items _ _ _ _ (then_written c.args.text.now.items _ _ _ _
    c.in_ok-extend_from_slice.ensures.items num) c.in_ok-extend_from_slice-2.ensures.items) den)
    c.in_ok-extend_from_slice-3.ensures.items) hundreds) c.in_ok-extend_from_slice-4.ensures.items) units)
    c.in_ok-extend_from_slice-6.ensures.items
