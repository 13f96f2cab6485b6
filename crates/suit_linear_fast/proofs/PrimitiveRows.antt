-- The rows of a run have no common divisor (`pivoted_primitive`).
use Rattle.std.proofs.Common.{◌≡◌, inl, inr, ℕ, zero, suc, ◌+◌, ◌<◌, List, [], ◌∷◌, ◌++◌, length, map, All, Contains}
use Rattle.std.proofs.Common.{Some}
use Rattle.std.proofs.Common.{refl, ap, ◌∙◌, subst}
use Rattle.std.specs.Prelude.{ℤ, pos, unsigned_abs}
use Rattle.std.specs.Int.{◌∣◌}
use Rattle.std.specs.Ordering.{int_eq}
use Rattle.std.proofs.lemmas.Bool.{cases_Bool, cases_eq}
use Rattle.std.proofs.lemmas.List.Elements.{All-contains, All-head, All-tail}
use Rattle.std.proofs.lemmas.Nat.Gcd.{dvd-zero}
use Rattle.std.proofs.Math.Nat.{eq-one_of_dvd-one}
use Rattle.std.proofs.lemmas.List.{get_or-append-add}
use Rattle.suit_linear.specs.declared.program.Program.{Program}
use Rattle.suit_linear.specs.declared.program.ProgramRow.{ProgramRow}
use Rattle.suit_linear.specs.Points.{number_at}
use Rattle.suit_linear.specs.Tableaus.{TableauRow, Tableau, entry, reduced_cost, first_row, first_tableau}
use Rattle.suit_linear.specs.Tableaus.{unit_numbers}
use Rattle.suit_linear.specs.Pivots.{content, combined, share, leaving, pivoted, pivoted_row}
use Rattle.suit_linear.proofs.SoundTableaus.{IsSound}
use Rattle.suit_linear_fast.specs.States.{IsPrimitive}
use Rattle.suit_linear.proofs.Contents.{content_divides}
use Rattle.suit_linear.proofs.PrimitiveMultiples.{content_primitive}
use Rattle.suit_linear.proofs.PivotKeepsSound.{row_content, objective_content, pivoted_leaver, pivoted_kept}
use Rattle.suit_linear.proofs.PivotKeepsSound.{pivoted_cleared}
use Rattle.suit_linear.proofs.FirstTableaus.{first_row_of, unit_here}
use Rattle.suit_lists.proofs.Elements.{all_from_contains}
use Rattle.suit_lists.proofs.Maps.{Contains-map_from}

-- ---- a number that is 1

divides_at : (numbers : List ℤ) (index : ℕ) (d : ℕ) → All (λ x. d ∣ unsigned_abs x) numbers
    → d ∣ unsigned_abs (number_at numbers index)
divides_at [] index d h = dvd-zero d
divides_at (x ∷ xs) zero d h = All-head (λ (z : ℤ). d ∣ unsigned_abs z) x xs h
divides_at (x ∷ xs) (suc index) d h = divides_at xs index d (All-tail (λ (z : ℤ). d ∣ unsigned_abs z) x xs h)

-- numbers of which one is 1 have no common divisor
pub content_one : (numbers : List ℤ) (index : ℕ) → number_at numbers index ≡ pos 1 → content numbers ≡ 1
content_one numbers index h =
    eq-one_of_dvd-one (subst (λ (z : ℤ). content numbers ∣ unsigned_abs z) h
    (divides_at numbers index (content numbers) (content_divides numbers)))

-- ---- a pivot

module _ (program : Program) (tableau : Tableau) (column : ℕ) (leaver : TableauRow) (sound : IsSound program tableau)
    (leaves : leaving tableau column ≡ Some leaver) (is : IsPrimitive tableau) where
  row_after : (row : TableauRow) → Contains tableau.rows row → content (pivoted_row column leaver row).numbers ≡ 1
  row_after row inside =
      let before : content row.numbers ≡ 1 =
      All-contains (λ (r : TableauRow). content r.numbers ≡ 1) tableau.rows row is.rows inside in
      elim (cases_eq row.basic leaver.basic) [
        | inl same ↦ ap (λ (r : TableauRow). content r.numbers) (pivoted_leaver column leaver row same) ∙ before
        | inr differs ↦
            elim (cases_Bool (int_eq (entry row column) (pos 0))) [
              | inl none ↦ ap (λ (r : TableauRow). content r.numbers) (pivoted_kept column leaver row differs none)
                  ∙ before
              | inr some ↦ ap (λ (r : TableauRow). content r.numbers) (pivoted_cleared column leaver row differs some)
                  ∙ content_primitive
                  (combined (share (entry leaver column) (entry row column)) row.numbers
                  (share (entry row column) (entry leaver column)) leaver.numbers)
                  (row_content program tableau column leaver row sound leaves inside differs)
            ]
      ]

  pub pivoted_primitive : IsPrimitive (pivoted tableau column leaver)
  unfolding pivoted
  pivoted_primitive = record {
    rows =
        all_from_contains (λ (r : TableauRow). content r.numbers ≡ 1) (map (pivoted_row column leaver) tableau.rows)
        (λ row inside.
        let from = Contains-map_from (pivoted_row column leaver) tableau.rows row inside in
        subst (λ (r : TableauRow). content r.numbers ≡ 1) from.2 (row_after from.0 from.1));
    objective = content_primitive
        (combined (share (entry leaver column) (reduced_cost tableau column)) tableau.objective
        (share (reduced_cost tableau column) (entry leaver column)) (pos 0 ∷ leaver.numbers))
        (objective_content program tableau column leaver sound leaves);
  }

-- ---- the first tableau

first_row_one : (columns rows index : ℕ) (row : ProgramRow) → index < rows
    → content (first_row columns rows (index, row)).numbers ≡ 1
first_row_one columns rows index row less =
    content_one (row.bound ∷ row.entries ++ unit_numbers rows index) (suc (length row.entries + index))
    (get_or-append-add row.entries (unit_numbers rows index) index (pos 0) ∙ unit_here rows index less)

pub first_primitive : (program : Program) → IsPrimitive (first_tableau program)
unfolding first_tableau
first_primitive program = record {
  rows =
      all_from_contains (λ (r : TableauRow). content r.numbers ≡ 1) (first_tableau program).rows
      (λ row inside.
      let from = first_row_of program row inside in
      subst (λ (r : TableauRow). content r.numbers ≡ 1) from.2
      (first_row_one (length program.costs) (length program.rows) from.0.0 from.0.1 from.1.0));
  objective = content_one (first_tableau program).objective 0 refl;
}
