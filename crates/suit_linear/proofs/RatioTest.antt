-- The row that leaves: it has a positive entry in the column, and its ratio is the least (`leaving_is_chosen`).
use Rattle.std.proofs.Common.{◌≡◌, inl, inr, ℕ, List, [], ◌∷◌, All, Contains, Some, None, refl, sym, ap, ◌∙◌, subst}
use Rattle.std.proofs.Common.{arith}
use Rattle.std.specs.Prelude.{ℤ, pos, ◌*ℤ◌, ◌≤ℤ◌, ◌<ℤ◌, int_lt, fold, true, false, ◌&&◌, Option}
use Rattle.std.proofs.lemmas.Int.{ints}
use Rattle.std.proofs.lemmas.Bool.{cases_Bool, cond-true, cond-false, and_cases, or_parts, or_cases, and_parts}
use Rattle.std.proofs.lemmas.Bool.Decides.{Decides-int_eq}
use Rattle.std.proofs.lemmas.List.Elements.{All-cons, All-nil}
use Rattle.std.specs.Ordering.{int_eq}
use Rattle.suit_num.proofs.IntegerLaws.{int_lt-true, int_lt-false}
use Rattle.suit_num.proofs.FractionLaws.{fraction_le_trans}
use Rattle.suit_linear.specs.Tableaus.{TableauRow, Tableau, bound, entry}
use Rattle.suit_linear.specs.Pivots.{kept, leaving, is_better}
use Rattle.suit_lists.proofs.Elements.{Contains-cons_cases, Contains-first, Contains-later}

-- ---- the best row so far

-- a row's ratio is at most another's
abbrev pub NoMore : ℕ → TableauRow → TableauRow → Type 0
NoMore column row other = (bound row *ℤ entry other column) ≤ℤ (bound other *ℤ entry row column)

-- a row has a positive entry, and among those the least ratio
pub record IsChosen (column : ℕ) (rows : List TableauRow) (leaver : TableauRow) : Type 0 where
  pub inside : Contains rows leaver
  pub positive : pos 0 <ℤ entry leaver column
  pub least : (row : TableauRow) → Contains rows row → pos 0 <ℤ entry row column → NoMore column leaver row

not_better : (column : ℕ) (best row : TableauRow) → is_better column best row ≡ false → NoMore column best row
not_better column best row h =
    int_lt-false (bound row *ℤ entry best column) (bound best *ℤ entry row column)
    (or_parts (int_lt (bound row *ℤ entry best column) (bound best *ℤ entry row column)) _ h).0

same_no_more : (a b : ℤ) → a ≡ b → a ≤ℤ b
same_no_more a b h = omega (arith, ints)

less_no_more : (a b : ℤ) → a <ℤ b → a ≤ℤ b
less_no_more a b h = omega (arith, ints)

better : (column : ℕ) (best row : TableauRow) → is_better column best row ≡ true → NoMore column row best
better column best row h =
    let a : ℤ = bound row *ℤ entry best column in
    let b : ℤ = bound best *ℤ entry row column in
    elim (or_cases (int_lt a b) _ h) [
      | inl less ↦ less_no_more a b (int_lt-true a b less)
      | inr same ↦ same_no_more a b ((Decides-int_eq a b).0 (and_parts (int_eq a b) _ same).0)
    ]

through : (column : ℕ) (row best other : TableauRow) → pos 0 <ℤ entry row column → pos 0 <ℤ entry best column
    → pos 0 <ℤ entry other column → NoMore column row best → NoMore column best other → NoMore column row other
through column row best other some_row some_best some_other h k =
    fraction_le_trans (bound row) (entry row column) (bound best) (entry best column) (bound other) (entry other column)
    some_row some_best some_other h k

pub kept_row : (column : ℕ) (best row : TableauRow)
    → (int_lt (pos 0) (entry row column) && is_better column best row) ≡ true → kept column (Some best) row ≡ Some row
unfolding kept
kept_row column best row h = cond-true _ (Some row) (Some best) h

pub kept_best : (column : ℕ) (best row : TableauRow)
    → (int_lt (pos 0) (entry row column) && is_better column best row) ≡ false → kept column (Some best) row ≡ Some best
unfolding kept
kept_best column best row h = cond-false _ (Some row) (Some best) h

pub kept_first : (column : ℕ) (row : TableauRow) → int_lt (pos 0) (entry row column) ≡ true
    → kept column None row ≡ Some row
unfolding kept
kept_first column row h = cond-true _ (Some row) None h

pub kept_none : (column : ℕ) (row : TableauRow) → int_lt (pos 0) (entry row column) ≡ false
    → kept column None row ≡ None
unfolding kept
kept_none column row h = cond-false _ (Some row) None h

-- the best of a row and those after it
chosen_replaced : (column : ℕ) (best row : TableauRow) (rows : List TableauRow) (leaver : TableauRow)
    → pos 0 <ℤ entry best column → pos 0 <ℤ entry row column → NoMore column row best
    → IsChosen column (row ∷ rows) leaver → IsChosen column (best ∷ row ∷ rows) leaver
chosen_replaced column best row rows leaver some_best some_row less h = record {
  inside = Contains-later best (row ∷ rows) leaver h.inside;
  positive = h.positive;
  least = λ other inside some_other.
      elim (Contains-cons_cases best (row ∷ rows) other inside) [
        | inl is ↦ subst (NoMore column leaver) is
            (through column leaver row best h.positive some_row some_best
            (h.least row (Contains-first row rows) some_row) less)
        | inr later ↦ h.least other later some_other
      ];
}

chosen_kept : (column : ℕ) (best row : TableauRow) (rows : List TableauRow) (leaver : TableauRow)
    → pos 0 <ℤ entry best column → (pos 0 <ℤ entry row column → NoMore column best row)
    → IsChosen column (best ∷ rows) leaver → IsChosen column (best ∷ row ∷ rows) leaver
chosen_kept column best row rows leaver some_best less h = record {
  inside =
      elim (Contains-cons_cases best rows leaver h.inside) [
        | inl is ↦ subst (Contains (best ∷ row ∷ rows)) is (Contains-first best (row ∷ rows))
        | inr later ↦ Contains-later best (row ∷ rows) leaver (Contains-later row rows leaver later)
      ];
  positive = h.positive;
  least = λ other inside some_other.
      elim (Contains-cons_cases best (row ∷ rows) other inside) [
        | inl is ↦ h.least other (subst (Contains (best ∷ rows)) is (Contains-first best rows)) some_other
        | inr later ↦
            elim (Contains-cons_cases row rows other later) [
              | inl is ↦
                  let some_row : pos 0 <ℤ entry row column =
                  subst (λ (r : TableauRow). pos 0 <ℤ entry r column) (sym is) some_other in
                  subst (NoMore column leaver) is
                  (through column leaver best row h.positive some_best some_row
                  (h.least best (Contains-first best rows) some_best) (less some_row))
              | inr last ↦ h.least other (Contains-later best rows other last) some_other
            ]
      ];
}

chosen_alone : (column : ℕ) (best leaver : TableauRow) → pos 0 <ℤ entry best column → best ≡ leaver
    → IsChosen column (best ∷ []) leaver
chosen_alone column best leaver some is = record {
  inside = subst (Contains (best ∷ [])) is (Contains-first best []);
  positive = subst (λ (r : TableauRow). pos 0 <ℤ entry r column) is some;
  least = λ other inside some_other.
      elim (Contains-cons_cases best [] other inside) [
        | inl same ↦
            let both : leaver ≡ other = sym is ∙ same in
            subst (NoMore column leaver) both (same_no_more (bound leaver *ℤ entry leaver column) _ refl)
        | inr (index, less, e) ↦ absurd (omega arith)
      ];
}

kept_test : (column : ℕ) (best row : TableauRow)
    → (int_lt (pos 0) (entry row column) && is_better column best row) ≡ false → pos 0 <ℤ entry row column
    → NoMore column best row
kept_test column best row h some =
    elim (and_cases (int_lt (pos 0) (entry row column)) (is_better column best row) h) [
      | inl low ↦
          let none : entry row column ≤ℤ pos 0 = int_lt-false (pos 0) (entry row column) low in
          absurd (omega (arith, ints))
      | inr worse ↦ not_better column best row worse
    ]

chosen_after : (column : ℕ) (rows : List TableauRow) (best leaver : TableauRow) → pos 0 <ℤ entry best column
    → fold (kept column) (Some best) rows ≡ Some leaver → IsChosen column (best ∷ rows) leaver
chosen_after column [] best leaver some h = chosen_alone column best leaver some (cc)
chosen_after column (row ∷ rows) best leaver some h =
    elim (cases_Bool (int_lt (pos 0) (entry row column) && is_better column best row)) [
      | inl passed ↦
          let parts = and_parts (int_lt (pos 0) (entry row column)) (is_better column best row) passed in
          let some_row : pos 0 <ℤ entry row column = int_lt-true (pos 0) (entry row column) parts.0 in
          chosen_replaced column best row rows leaver some some_row (better column best row parts.1)
          (chosen_after column rows row leaver some_row
          (ap (λ (o : Option TableauRow). fold (kept column) o rows) (sym (kept_row column best row passed)) ∙ h))
      | inr failed ↦
          chosen_kept column best row rows leaver some (kept_test column best row failed)
          (chosen_after column rows best leaver some
          (ap (λ (o : Option TableauRow). fold (kept column) o rows) (sym (kept_best column best row failed)) ∙ h))
    ]

chosen_later : (column : ℕ) (row : TableauRow) (rows : List TableauRow) (leaver : TableauRow)
    → entry row column ≤ℤ pos 0 → IsChosen column rows leaver → IsChosen column (row ∷ rows) leaver
chosen_later column row rows leaver none h = record {
  inside = Contains-later row rows leaver h.inside;
  positive = h.positive;
  least = λ other inside some_other.
      elim (Contains-cons_cases row rows other inside) [
        | inl is ↦
            let some_row : pos 0 <ℤ entry row column =
            subst (λ (r : TableauRow). pos 0 <ℤ entry r column) (sym is) some_other in
            absurd (omega (arith, ints))
        | inr later ↦ h.least other later some_other
      ];
}

chosen : (column : ℕ) (rows : List TableauRow) (leaver : TableauRow) → fold (kept column) None rows ≡ Some leaver
    → IsChosen column rows leaver
chosen column [] leaver h = cc
chosen column (row ∷ rows) leaver h =
    elim (cases_Bool (int_lt (pos 0) (entry row column))) [
      | inl passed ↦
          chosen_after column rows row leaver (int_lt-true (pos 0) (entry row column) passed)
          (ap (λ (o : Option TableauRow). fold (kept column) o rows) (sym (kept_first column row passed)) ∙ h)
      | inr failed ↦
          chosen_later column row rows leaver (int_lt-false (pos 0) (entry row column) failed)
          (chosen column rows leaver (ap (λ (o : Option TableauRow). fold (kept column) o rows)
          (sym (kept_none column row failed)) ∙ h))
    ]

never_none : (column : ℕ) (rows : List TableauRow) (best : TableauRow) → fold (kept column) (Some best) rows ≡ None → ⊥
never_none column [] best h = cc
never_none column (row ∷ rows) best h =
    elim (cases_Bool (int_lt (pos 0) (entry row column) && is_better column best row)) [
      | inl passed ↦ never_none column rows row
          (ap (λ (o : Option TableauRow). fold (kept column) o rows) (sym (kept_row column best row passed)) ∙ h)
      | inr failed ↦ never_none column rows best
          (ap (λ (o : Option TableauRow). fold (kept column) o rows) (sym (kept_best column best row failed)) ∙ h)
    ]

none_chosen : (column : ℕ) (rows : List TableauRow) → fold (kept column) None rows ≡ None
    → All (λ row. entry row column ≤ℤ pos 0) rows
none_chosen column [] h = All-nil (λ (row : TableauRow). entry row column ≤ℤ pos 0)
none_chosen column (row ∷ rows) h =
    elim (cases_Bool (int_lt (pos 0) (entry row column))) [
      | inl passed ↦ absurd (never_none column rows row
          (ap (λ (o : Option TableauRow). fold (kept column) o rows) (sym (kept_first column row passed)) ∙ h))
      | inr failed ↦
          All-cons (λ (r : TableauRow). entry r column
          ≤ℤ pos 0) row rows (int_lt-false (pos 0) (entry row column) failed)
          (none_chosen column rows (ap (λ (o : Option TableauRow). fold (kept column) o rows)
          (sym (kept_none column row failed)) ∙ h))
    ]

-- ---- the leaving row

pub leaving_is_chosen : (tableau : Tableau) (column : ℕ) (leaver : TableauRow) → leaving tableau column ≡ Some leaver
    → IsChosen column tableau.rows leaver
leaving_is_chosen tableau column leaver h = chosen column tableau.rows leaver h

-- the leaving row is one of the rows, and has a positive entry in the column
pub leaving_is_row : (tableau : Tableau) (column : ℕ) (leaver : TableauRow) → leaving tableau column ≡ Some leaver
    → Contains tableau.rows leaver × (pos 0 <ℤ entry leaver column)
leaving_is_row tableau column leaver h = let is = chosen column tableau.rows leaver h in (is.inside, is.positive)

-- no row with a positive entry has a lower ratio
pub leaving_is_least :
    (tableau : Tableau) (column : ℕ) (leaver : TableauRow) → All (λ row. pos 0 ≤ℤ bound row) tableau.rows
    → leaving tableau column ≡ Some leaver
    → (row : TableauRow) → Contains tableau.rows row → pos 0 <ℤ entry row column
    → (bound leaver *ℤ entry row column) ≤ℤ (bound row *ℤ entry leaver column)
leaving_is_least tableau column leaver bounds h row inside some =
    (chosen column tableau.rows leaver h).least row inside some

-- where no row leaves, no row has a positive entry
pub leaving_none : (tableau : Tableau) (column : ℕ) → leaving tableau column ≡ None
    → All (λ row. entry row column ≤ℤ pos 0) tableau.rows
leaving_none tableau column h = none_chosen column tableau.rows h
