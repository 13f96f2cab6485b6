-- The rows of a sound tableau: a basic column names its row (`row_found`).
use Rattle.std.proofs.Common.{◌≡◌, ◌⊎◌, inl, inr, ℕ, zero, suc, ◌<◌, List, [], ◌∷◌, length, get_or, Contains, Some}
use Rattle.std.proofs.Common.{None, refl, sym, ap, ◌∙◌, subst, arith}
use Rattle.std.specs.Prelude.{◌==◌, true, slice_get, find, Option}
use Rattle.std.proofs.lemmas.Bool.{cases_Bool, cond-true, cond-false, eqb-true, eq-eqb}
use Rattle.std.proofs.lemmas.Option.{slice_get-get_or}
use Rattle.suit_linear.specs.declared.program.Program.{Program}
use Rattle.suit_linear.specs.Tableaus.{TableauRow, Tableau}
use Rattle.suit_linear.proofs.SoundTableaus.{IsSound}
use Rattle.suit_lists.proofs.Elements.{Contains-first, Contains-later}

row_at : (rows : List TableauRow) (row : TableauRow) (h : Contains rows row) → slice_get rows h.0 ≡ Some row
row_at rows row (index, less, is) = slice_get-get_or rows index row less ∙ ap (λ (r : TableauRow). Some r) is

-- rows with one basic column are one row
pub rows_same : (program : Program) (tableau : Tableau) (row next : TableauRow) → IsSound program tableau
    → Contains tableau.rows row → Contains tableau.rows next → row.basic ≡ next.basic → row ≡ next
rows_same program tableau row next sound inside later same =
    let one = row_at tableau.rows row inside in
    let two = row_at tableau.rows next later in
    let index : inside.0 ≡ later.0 = sound.basics_differ inside.0 later.0 row next one two same in
    let both : Some row ≡ Some next = sym one ∙ ap (λ (k : ℕ). slice_get tableau.rows k) index ∙ two in
    cc

-- ---- the row of a basic column

-- what is found is a row with that basic column
pub found_row : (rows : List TableauRow) (column : ℕ) (row : TableauRow) → find (λ r. r.basic == column) rows ≡ Some row
    → Contains rows row × (row.basic ≡ column)
found_row [] column row h = cc
found_row (first ∷ rows) column row h =
    elim (cases_Bool (first.basic == column)) [
      | inl here ↦
          let found : Some first ≡ Some row =
          sym (cond-true (first.basic == column) (Some first) (find (λ r. r.basic == column) rows) here) ∙ h in
          let is : first ≡ row = cc in (
            subst (Contains (first ∷ rows)) is (Contains-first first rows),
            ap (λ (r : TableauRow). r.basic) (sym is)
                ∙ eqb-true first.basic column here,
          )
      | inr elsewhere ↦
          let later = found_row rows column row
          (sym (cond-false (first.basic == column) (Some first) (find (λ r. r.basic == column) rows) elsewhere)
          ∙ h) in
          (Contains-later first rows row later.0, later.1)
    ]

-- where a row is basic in the column, some row is found
not_missed : (rows : List TableauRow) (index : ℕ) (row : TableauRow) → index < length rows → get_or rows index row ≡ row
    → find (λ r. r.basic == row.basic) rows ≡ None → ⊥
not_missed [] index row less is h = absurd (omega arith)
not_missed (first ∷ rows) zero row less is h =
    let here : (first.basic == row.basic) ≡ true = eq-eqb first.basic row.basic (ap (λ (r : TableauRow). r.basic) is) in
    let found : Some first ≡ None =
    sym (cond-true (first.basic == row.basic) (Some first) (find (λ r. r.basic == row.basic) rows) here) ∙ h in
    cc
not_missed (first ∷ rows) (suc index) row less is h =
    elim (cases_Bool (first.basic == row.basic)) [
      | inl here ↦
          let found : Some first ≡ None =
          sym (cond-true (first.basic == row.basic) (Some first) (find (λ r. r.basic == row.basic) rows) here)
          ∙ h in
          cc
      | inr elsewhere ↦
          not_missed rows index row (omega arith) is
          (sym (cond-false (first.basic == row.basic) (Some first) (find (λ r. r.basic == row.basic) rows)
          elsewhere) ∙ h)
    ]

pub cases_option : {X : Type 0} (o : Option X) → (o ≡ None) ⊎ ((x : X) × (o ≡ Some x))
cases_option None = inl refl
cases_option (Some x) = inr (x, refl)

-- each row is found by its basic column
pub row_found : (program : Program) (tableau : Tableau) (row : TableauRow) → IsSound program tableau
    → Contains tableau.rows row → find (λ r. r.basic == row.basic) tableau.rows ≡ Some row
row_found program tableau row sound inside =
    elim (cases_option (find (λ r. r.basic == row.basic) tableau.rows)) [
      | inl none ↦ absurd (not_missed tableau.rows inside.0 row inside.1 inside.2 none)
      | inr some ↦
          let found = found_row tableau.rows row.basic some.0 some.1 in
          some.1 ∙ ap (λ (r : TableauRow). Some r) (rows_same program tableau some.0 row sound found.0 inside found.1)
    ]
