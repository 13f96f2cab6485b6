-- The entering column has a negative entry in the objective row; where none enters, no entry there is negative
-- (`entering_is_column`).
use Rattle.std.proofs.Common.{◌≡◌, inl, inr, ℕ, suc, ◌<◌, ◌≤◌, ◌+◌, List, [], ◌∷◌, length, drop, Some, None, refl, sym}
use Rattle.std.proofs.Common.{◌∙◌, subst, arith}
use Rattle.std.specs.Prelude.{ℤ, pos, ◌≤ℤ◌, ◌<ℤ◌, int_lt, Bool, not, position, nat_lt}
use Rattle.std.specs.List.{position_or_len, prefix_len}
use Rattle.std.proofs.lemmas.Int.{ints}
use Rattle.std.proofs.lemmas.Bool.{cases_Bool, cond-true, ltb-false, not-true, cases_lt}
use Rattle.std.proofs.lemmas.List.{length-drop, get_or_past}
use Rattle.std.proofs.lemmas.List.Quantifiers.{position-Some}
use Rattle.std.proofs.lemmas.List.Sums.{prefix_len_passes}
use Rattle.suit_linear.specs.declared.program.Program.{Program}
use Rattle.suit_linear.specs.Points.{number_at}
use Rattle.suit_linear.specs.Tableaus.{Tableau, reduced_cost}
use Rattle.suit_linear.specs.Pivots.{entering}
use Rattle.suit_linear.proofs.SoundTableaus.{IsSound}
use Rattle.suit_num.proofs.IntegerLaws.{int_lt-true, int_lt-false}
use Rattle.suit_lists.proofs.Indices.{none_first}

pub number_at-drop_two : (xs : List ℤ) (index : ℕ) → number_at (drop 2 xs) index ≡ number_at xs (suc (suc index))
number_at-drop_two [] index = refl
number_at-drop_two (x ∷ []) index = refl
number_at-drop_two (x ∷ y ∷ xs) index = refl

-- the objective row has a cost for each column
pub length-costs : (program : Program) (tableau : Tableau) → IsSound program tableau
    → length (drop 2 tableau.objective) ≡ length program.costs + length program.rows
length-costs program tableau sound = omega (arith, length-drop 2 tableau.objective, sound.objective_width)

-- the entering column is one of the tableau, with a negative cost
pub entering_is_column : (program : Program) (tableau : Tableau) (column : ℕ) → IsSound program tableau
    → entering tableau ≡ Some column
    → (column < length program.costs + length program.rows) × (reduced_cost tableau column <ℤ pos 0)
entering_is_column program tableau column sound h =
    let costs : List ℤ = drop 2 tableau.objective in
    let found = position-Some (λ cost. int_lt cost (pos 0)) costs column (pos 0) h in
    let width = length-costs program tableau sound in (
      omega arith,
      subst (λ (z : ℤ). z <ℤ pos 0) (number_at-drop_two tableau.objective column)
          (int_lt-true (number_at costs column) (pos 0) found.1),
    )

-- where no column enters, no cost is negative
pub none_enters : (tableau : Tableau) → entering tableau ≡ None → (column : ℕ) → pos 0 ≤ℤ reduced_cost tableau column
none_enters tableau h column =
    let costs : List ℤ = drop 2 tableau.objective in
    let p : ℤ → Bool = λ cost. int_lt cost (pos 0) in
    subst (λ (z : ℤ). pos 0 ≤ℤ z) (number_at-drop_two tableau.objective column)
    (elim (cases_lt column (length costs)) [
      | inl less ↦
          let inside : column < prefix_len (λ x. not (p x)) costs = omega (arith, none_first p costs h) in
          int_lt-false (number_at costs column) (pos 0)
          (not-true (p (number_at costs column)) (prefix_len_passes (λ x. not (p x)) costs column (pos 0) inside))
      | inr past ↦ not_less (number_at costs column) (get_or_past costs column (pos 0) past)
    ])
  where
    not_less : (z : ℤ) → z ≡ pos 0 → pos 0 ≤ℤ z
    not_less z h = omega (arith, ints)
