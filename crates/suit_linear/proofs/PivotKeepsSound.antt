-- A pivot keeps a tableau sound, and divides no list by 0 (`pivoted_is_sound`).
use Rattle.std.proofs.Common.{◌≡◌, ◌≢◌, ◌⊎◌, inl, inr, ℕ, zero, suc, ◌<◌, ◌+◌, List, ◌∷◌, length, map, drop, All}
use Rattle.std.proofs.Common.{Contains, Some, refl, sym, ap, ◌∙◌, subst, arith}
use Rattle.std.specs.Prelude.{ℤ, pos, int_lt, ◌+ℤ◌, ◌-ℤ◌, ◌*ℤ◌, ◌≤ℤ◌, ◌<ℤ◌, ◌==◌, neg_ℤ, true, false, slice_get}
use Rattle.std.specs.Ordering.{int_eq}
use Rattle.std.proofs.lemmas.Int.{ints}
use Rattle.std.proofs.lemmas.Bool.{cases_Bool, cases_eq, cond-true, cond-false, eq-eqb, ne_eqb}
use Rattle.std.proofs.lemmas.Bool.Decides.{Decides-int_eq}
use Rattle.std.proofs.lemmas.List.{length-map}
use Rattle.std.proofs.lemmas.List.Elements.{All-contains, All-map, Contains-get_or}
use Rattle.std.proofs.Math.IntN.{*ℤ_comm}
use Rattle.suit_num.proofs.IntegerLaws.{mul_assoc, mul_right_comm, mul-neg_left, mul-neg_right, mul_positive}
use Rattle.suit_num.proofs.IntegerLaws.{mul_not_negative, mul_not_positive, same_from_mul}
use Rattle.suit_linear.specs.declared.program.Program.{Program}
use Rattle.suit_linear.specs.Points.{number_at, dot}
use Rattle.suit_linear.specs.Tableaus.{TableauRow, Tableau, bound, entry, scale, reduced_cost}
use Rattle.suit_linear.specs.Pivots.{entering, leaving, combined, content, share, cleared, pivoted_row, pivoted}
use Rattle.suit_linear.proofs.SoundTableaus.{IsSound, Solves}
use Rattle.suit_linear.proofs.Contents.{content_positive, length-combined, number_at-combined}
use Rattle.suit_linear.proofs.RatioTest.{IsChosen, leaving_is_chosen}
use Rattle.suit_num.proofs.IntegerLaws.{int_lt-true, int_lt-false}
use Rattle.suit_linear.proofs.ClearingByGcd.{IsCleared, share_positive, kept_is, cleared_is, cleared_zero, cleared_here}
use Rattle.suit_linear.proofs.ClearingByGcd.{cleared_positive, cleared_bound, cleared_solved, solved_before}
use Rattle.suit_linear.proofs.DotProducts.{dot_first}
use Rattle.suit_linear.proofs.EnteringCostIsNegative.{entering_is_column}
use Rattle.suit_linear.proofs.SoundRows.{rows_same}
use Rattle.suit_linear.proofs.Signs.{nothing_taken, positive_low}
use Rattle.suit_lists.proofs.Elements.{all_from_contains}
use Rattle.suit_lists.proofs.Indices.{contains_at, mapped_at}
use Rattle.suit_lists.proofs.Maps.{Contains-map, Contains-map_from}

-- ---- no list is divided by 0

own_stays : (own other a b : ℤ) → pos 0 <ℤ own → pos 0 <ℤ a → b ≡ pos 0 → own *ℤ a -ℤ other *ℤ b ≢ pos 0
own_stays own other a b some h k e =
    let none : own *ℤ a -ℤ other *ℤ pos 0 ≡ pos 0 = ap (λ (z : ℤ). own *ℤ a -ℤ other *ℤ z) (sym k) ∙ e in
    let product : pos 0 <ℤ (own *ℤ a) = mul_positive own a some h in
    zero_not_more (own *ℤ a) other none product
  where
    zero_not_more : (a other : ℤ) → a -ℤ other *ℤ pos 0 ≡ pos 0 → pos 0 <ℤ a → ⊥
    zero_not_more a other h k = omega (arith, ints)

-- a combination with an index where the first list is positive and the second 0
combined_content : (p t : ℤ) (xs ys : List ℤ) (index : ℕ) → pos 0 <ℤ p → length xs ≡ length ys → index < length xs
    → pos 0 <ℤ number_at xs index → number_at ys index ≡ pos 0
    → 0 < content (combined (share p t) xs (share t p) ys)
combined_content p t xs ys index some same less h k =
    let mixed : List ℤ = combined (share p t) xs (share t p) ys in
    let inside : index < length mixed = omega (arith, length-combined (share p t) xs (share t p) ys same) in
    content_positive mixed (number_at mixed index) (Contains-get_or mixed index (pos 0) inside)
    (λ e. own_stays (share p t) (share t p) (number_at xs index) (number_at ys index) (share_positive p t some) h k
    (sym (number_at-combined (share p t) xs (share t p) ys index same) ∙ e))

-- a row that is cleared keeps a number that is not 0: its own basic entry
pub row_content :
    (program : Program) (tableau : Tableau) (column : ℕ) (leaver row : TableauRow) → IsSound program tableau
    → leaving tableau column ≡ Some leaver → Contains tableau.rows row → row.basic ≢ leaver.basic
    → 0 < content (combined (share (entry leaver column) (entry row column)) row.numbers
    (share (entry row column) (entry leaver column)) leaver.numbers)
row_content program tableau column leaver row sound leaves inside differs =
    let chosen = leaving_is_chosen tableau column leaver leaves in
    let width = All-contains (λ (r : TableauRow). length r.numbers ≡ suc (length program.costs + length program.rows))
    tableau.rows row sound.widths inside in
    let other = All-contains (λ (r : TableauRow). length r.numbers ≡ suc (length program.costs + length program.rows))
    tableau.rows leaver sound.widths chosen.inside in
    let low = All-contains (λ (r : TableauRow). r.basic < length program.costs + length program.rows) tableau.rows row
    sound.basics_low inside in
    combined_content (entry leaver column) (entry row column) row.numbers leaver.numbers (suc row.basic) chosen.positive
    (width ∙ sym other) (omega arith)
    (All-contains (λ (r : TableauRow). pos 0 <ℤ entry r r.basic) tableau.rows row sound.pivotal inside)
    (sound.apart row leaver inside chosen.inside differs)

objective_same : (program : Program) (tableau : Tableau) (column : ℕ) (leaver : TableauRow) → IsSound program tableau
    → Contains tableau.rows leaver → length tableau.objective ≡ length (pos 0 ∷ leaver.numbers)
objective_same program tableau column leaver sound inside =
    sound.objective_width ∙ ap suc
    (sym (All-contains (λ (r : TableauRow). length r.numbers ≡ suc (length program.costs + length program.rows))
    tableau.rows leaver sound.widths inside))

-- the objective row keeps its scale
pub objective_content :
    (program : Program) (tableau : Tableau) (column : ℕ) (leaver : TableauRow) → IsSound program tableau
    → leaving tableau column ≡ Some leaver
    → 0 < content (combined (share (entry leaver column) (reduced_cost tableau column)) tableau.objective
    (share (reduced_cost tableau column) (entry leaver column)) (pos 0 ∷ leaver.numbers))
objective_content program tableau column leaver sound leaves =
    let chosen = leaving_is_chosen tableau column leaver leaves in
    let width = sound.objective_width in
    combined_content (entry leaver column) (reduced_cost tableau column) tableau.objective (pos 0
    ∷ leaver.numbers) 0 chosen.positive
    (objective_same program tableau column leaver sound chosen.inside) (omega arith) sound.scaled refl

-- ---- the rows after a pivot

-- a bound times an entry that is not positive is at most a bound times a positive entry
opposite : (l t b p : ℤ) → pos 0 ≤ℤ l → t ≤ℤ pos 0 → pos 0 ≤ℤ b → pos 0 <ℤ p → (l *ℤ t) ≤ℤ (b *ℤ p)
opposite l t b p not_low none low some =
    let left : (t *ℤ l) ≤ℤ pos 0 = mul_not_positive t l none not_low in
    let turned = *ℤ_comm l t in
    let right : pos 0 ≤ℤ (b *ℤ p) = mul_not_negative b p low (positive_low p some) in
    omega (arith, ints)

-- the leaving row has the column as its basic one
abbrev pub moved : ℕ → TableauRow → TableauRow
moved column leaver = record { basic = column; numbers = leaver.numbers }

-- a row after the pivot is the leaving row with its new basic column, or a cleared row with its old one
abbrev pub PivotCase : ℕ → TableauRow → TableauRow → TableauRow → Type 0
PivotCase column leaver row after =
    ((row ≡ leaver) × (after ≡ moved column leaver))
    ⊎ ((row.basic ≢ leaver.basic) × (after.basic ≡ row.basic)
    × IsCleared (entry leaver column) (entry row column) row.numbers leaver.numbers after.numbers)

pub pivoted_leaver : (column : ℕ) (leaver row : TableauRow) → row.basic ≡ leaver.basic
    → pivoted_row column leaver row ≡ record row { basic = column }
unfolding pivoted_row
pivoted_leaver column leaver row h = cond-true (row.basic == leaver.basic) _ _ (eq-eqb row.basic leaver.basic h)

pub pivoted_kept : (column : ℕ) (leaver row : TableauRow) → row.basic ≢ leaver.basic
    → int_eq (entry row column) (pos 0) ≡ true → pivoted_row column leaver row ≡ row
unfolding pivoted_row
pivoted_kept column leaver row h k = cond-false (row.basic == leaver.basic) _ _ (ne_eqb row.basic leaver.basic h)
    ∙ cond-true (int_eq (entry row column) (pos 0)) _ _ k

pub pivoted_cleared : (column : ℕ) (leaver row : TableauRow) → row.basic ≢ leaver.basic
    → int_eq (entry row column) (pos 0) ≡ false
    → pivoted_row column leaver row
    ≡ record row { numbers = cleared (entry leaver column) (entry row column) row.numbers leaver.numbers }
unfolding pivoted_row
pivoted_cleared column leaver row h k = cond-false (row.basic == leaver.basic) _ _ (ne_eqb row.basic leaver.basic h)
    ∙ cond-false (int_eq (entry row column) (pos 0)) _ _ k

module _ (program : Program) (tableau : Tableau) (column : ℕ) (leaver : TableauRow) (sound : IsSound program tableau)
    (leaves : leaving tableau column ≡ Some leaver) where
  chosen : IsChosen column tableau.rows leaver
  chosen = leaving_is_chosen tableau column leaver leaves

  pub pivot_case : (row : TableauRow) → Contains tableau.rows row
      → PivotCase column leaver row (pivoted_row column leaver row)
  pivot_case row inside =
      elim (cases_eq row.basic leaver.basic) [
        | inl same ↦
            let is : row ≡ leaver = rows_same program tableau row leaver sound inside chosen.inside same in
            inl (is, pivoted_leaver column leaver row same ∙ ap (λ (r : TableauRow). moved column r) is)
        | inr differs ↦
            elim (cases_Bool (int_eq (entry row column) (pos 0))) [
              | inl none ↦
                  let e = pivoted_kept column leaver row differs none in
                  let zero_entry : entry row column ≡ pos 0 = (Decides-int_eq (entry row column) (pos 0)).0 none in
                  inr (
                    differs,
                    ap (λ (r : TableauRow). r.basic) e,
                    subst (λ (r : TableauRow). IsCleared (entry leaver column) (entry row column) row.numbers
                        leaver.numbers r.numbers) (sym e)
                        (kept_is (entry leaver column) (entry row column) row.numbers leaver.numbers zero_entry),
                  )
              | inr some ↦
                  let e = pivoted_cleared column leaver row differs some in
                  let width = All-contains (λ (r : TableauRow). length r.numbers
                  ≡ suc (length program.costs + length program.rows)) tableau.rows row sound.widths inside in
                  let other = All-contains (λ (r : TableauRow). length r.numbers
                  ≡ suc (length program.costs + length program.rows)) tableau.rows leaver sound.widths
                  chosen.inside in
                  inr (
                    differs,
                    ap (λ (r : TableauRow). r.basic) e,
                    subst (λ (r : TableauRow). IsCleared (entry leaver column) (entry row column) row.numbers
                        leaver.numbers r.numbers) (sym e)
                        (cleared_is (entry leaver column) (entry row column) row.numbers leaver.numbers chosen.positive
                        (width ∙ sym other)
                        (row_content program tableau column leaver row sound leaves inside differs)),
                  )
            ]
      ]

  -- what holds of the leaving row with its new basic column, and of each cleared row, holds of each row
  each_after :
      (P : TableauRow → Type 0) → P (moved column leaver)
      → ((row after : TableauRow) → Contains tableau.rows row → row.basic ≢ leaver.basic → after.basic ≡ row.basic
      → IsCleared (entry leaver column) (entry row column) row.numbers leaver.numbers after.numbers → P after)
      → All P (map (pivoted_row column leaver) tableau.rows)
  each_after P first others =
      All-map P (pivoted_row column leaver) tableau.rows
      (all_from_contains (λ (row : TableauRow). P (pivoted_row column leaver row)) tableau.rows
      (λ row inside.
      elim (pivot_case row inside) [
        | inl (same, is) ↦ subst P (sym is) first
        | inr (differs, basic, clear) ↦ others row (pivoted_row column leaver row) inside differs basic clear
      ]))

  pub objective_cleared : IsCleared (entry leaver column) (reduced_cost tableau column) tableau.objective (pos 0
      ∷ leaver.numbers) (cleared (entry leaver column) (reduced_cost tableau column) tableau.objective (pos 0
      ∷ leaver.numbers))
  objective_cleared =
      cleared_is (entry leaver column) (reduced_cost tableau column) tableau.objective (pos 0
      ∷ leaver.numbers) chosen.positive
      (objective_same program tableau column leaver sound chosen.inside)
      (objective_content program tableau column leaver sound leaves)

  -- ---- what holds of them

  widths_after : All (λ r. length r.numbers ≡ suc (length program.costs + length program.rows))
      (map (pivoted_row column leaver) tableau.rows)
  widths_after =
      let P : TableauRow → Type 0 = λ r. length r.numbers ≡ suc (length program.costs + length program.rows) in
      each_after P (All-contains P tableau.rows leaver sound.widths chosen.inside)
      (λ row after inside differs basic clear. clear.width ∙ All-contains P tableau.rows row sound.widths inside)

  leaver_apart : (row : TableauRow) → Contains tableau.rows row → row.basic ≢ leaver.basic
      → entry leaver row.basic ≡ pos 0
  leaver_apart row inside differs = sound.apart row leaver inside chosen.inside differs

  pivotal_after : All (λ r. pos 0 <ℤ entry r r.basic) (map (pivoted_row column leaver) tableau.rows)
  pivotal_after =
      each_after (λ r. pos 0 <ℤ entry r r.basic) chosen.positive
      (λ row after inside differs basic clear.
      subst (λ (n : ℕ). pos 0 <ℤ entry after n) (sym basic)
      (cleared_positive (entry leaver column) (entry row column) row.numbers leaver.numbers after.numbers clear
      (suc row.basic)
      (All-contains (λ (r : TableauRow). pos 0 <ℤ entry r r.basic) tableau.rows row sound.pivotal inside)
      (leaver_apart row inside differs)))

  ratio : (row : TableauRow) → Contains tableau.rows row
      → (bound leaver *ℤ entry row column) ≤ℤ (bound row *ℤ entry leaver column)
  ratio row inside =
      elim (cases_Bool (int_lt (pos 0) (entry row column))) [
        | inl some ↦ chosen.least row inside (int_lt-true (pos 0) (entry row column) some)
        | inr none ↦
            opposite (bound leaver) (entry row column) (bound row) (entry leaver column)
            (All-contains (λ (r : TableauRow). pos 0 ≤ℤ bound r) tableau.rows leaver sound.bounds chosen.inside)
            (int_lt-false (pos 0) (entry row column) none)
            (All-contains (λ (r : TableauRow). pos 0 ≤ℤ bound r) tableau.rows row sound.bounds inside) chosen.positive
      ]

  bounds_after : All (λ r. pos 0 ≤ℤ bound r) (map (pivoted_row column leaver) tableau.rows)
  bounds_after =
      each_after (λ r. pos 0 ≤ℤ bound r)
      (All-contains (λ (r : TableauRow). pos 0 ≤ℤ bound r) tableau.rows leaver sound.bounds chosen.inside)
      (λ row after inside differs basic clear.
      cleared_bound (entry leaver column) (entry row column) row.numbers leaver.numbers after.numbers clear
      chosen.positive (ratio row inside))

  costs_after : All (λ r. number_at
      (cleared (entry leaver column) (reduced_cost tableau column) tableau.objective (pos 0 ∷ leaver.numbers))
      (suc (suc r.basic)) ≡ pos 0) (map (pivoted_row column leaver) tableau.rows)
  costs_after =
      let p : ℤ = entry leaver column in
      let t : ℤ = reduced_cost tableau column in
      let after_objective : List ℤ = cleared p t tableau.objective (pos 0 ∷ leaver.numbers) in
      each_after (λ r. number_at after_objective (suc (suc r.basic)) ≡ pos 0)
      (cleared_here p t tableau.objective (pos 0 ∷ leaver.numbers) after_objective objective_cleared (suc (suc column))
      refl refl)
      (λ row after inside differs basic clear.
      ap (λ (n : ℕ). number_at after_objective (suc (suc n))) basic
      ∙ cleared_zero p t tableau.objective (pos 0 ∷ leaver.numbers) after_objective objective_cleared
      (suc (suc row.basic))
      (All-contains (λ (r : TableauRow). reduced_cost tableau r.basic
      ≡ pos 0) tableau.rows row sound.costs_apart inside) (leaver_apart row inside differs))

  scaled_after : pos 0 <ℤ number_at
      (cleared (entry leaver column) (reduced_cost tableau column) tableau.objective (pos 0 ∷ leaver.numbers)) 0
  scaled_after = cleared_positive (entry leaver column) (reduced_cost tableau column) tableau.objective (pos 0
      ∷ leaver.numbers) _ objective_cleared 0 sound.scaled refl

  apart_case : (x y row next : TableauRow) → Contains tableau.rows x → Contains tableau.rows y
      → PivotCase column leaver x row → PivotCase column leaver y next → row.basic ≢ next.basic
      → entry next row.basic ≡ pos 0
  apart_case x y row next inside later (inl (one, is)) (inl (two, e)) differs =
      absurd (differs (ap (λ (r : TableauRow). r.basic) (is ∙ sym e)))
  apart_case x y row next inside later (inl (one, is)) (inr (away, basic, clear)) differs =
      ap (λ (r : TableauRow). entry next r.basic) is
      ∙ cleared_here (entry leaver column) (entry y column) y.numbers leaver.numbers next.numbers clear (suc column)
      refl refl
  apart_case x y row next inside later (inr (away, basic, clear)) (inl (two, e)) differs =
      ap (λ (r : TableauRow). entry r row.basic) e ∙ ap (λ (n : ℕ). entry leaver n) basic ∙ leaver_apart x inside away
  apart_case x y row next inside later (inr (away, basic, clear)) (inr (far, based, cleaned)) differs =
      ap (λ (n : ℕ). entry next n) basic
      ∙ cleared_zero (entry leaver column) (entry y column) y.numbers leaver.numbers next.numbers cleaned (suc x.basic)
      (sound.apart x y inside later (λ e. differs (basic ∙ e ∙ sym based))) (leaver_apart x inside away)

  apart_after : (row next : TableauRow) → Contains (map (pivoted_row column leaver) tableau.rows) row
      → Contains (map (pivoted_row column leaver) tableau.rows) next → row.basic ≢ next.basic
      → entry next row.basic ≡ pos 0
  apart_after row next inside later differs =
      let one = Contains-map_from (pivoted_row column leaver) tableau.rows row inside in
      let two = Contains-map_from (pivoted_row column leaver) tableau.rows next later in
      apart_case one.0 two.0 row next one.1 two.1 (subst (PivotCase column leaver one.0) one.2 (pivot_case one.0 one.1))
      (subst (PivotCase column leaver two.0) two.2 (pivot_case two.0 two.1)) differs

  -- ---- what solves them

  solved_leaver : (given : ℕ → ℤ) → Solves (map (pivoted_row column leaver) tableau.rows) given
      → dot leaver.numbers given ≡ pos 0
  solved_leaver given h =
      ap (λ (r : TableauRow). dot r.numbers given) (sym (pivoted_leaver column leaver leaver refl))
      ∙ All-contains (λ (r : TableauRow). dot r.numbers given
      ≡ pos 0) _ _ h (Contains-map (pivoted_row column leaver) tableau.rows leaver chosen.inside)

  solves_before : (given : ℕ → ℤ) → Solves (map (pivoted_row column leaver) tableau.rows) given
      → Solves tableau.rows given
  solves_before given h =
      all_from_contains (λ (r : TableauRow). dot r.numbers given ≡ pos 0) tableau.rows
      (λ row inside.
      elim (pivot_case row inside) [
        | inl (same, is) ↦ ap (λ (r : TableauRow). dot r.numbers given) same ∙ solved_leaver given h
        | inr (differs, basic, clear) ↦
            solved_before (entry leaver column) (entry row column) row.numbers leaver.numbers
            (pivoted_row column leaver row).numbers clear given
            (All-contains (λ (r : TableauRow). dot r.numbers given
            ≡ pos 0) _ _ h (Contains-map (pivoted_row column leaver) tableau.rows row inside))
            (solved_leaver given h)
      ])

  solves_after : (given : ℕ → ℤ) → Solves tableau.rows given
      → Solves (map (pivoted_row column leaver) tableau.rows) given
  solves_after given h =
      let P : TableauRow → Type 0 = λ r. dot r.numbers given ≡ pos 0 in
      each_after P (All-contains P tableau.rows leaver h chosen.inside)
      (λ row after inside differs basic clear.
      cleared_solved (entry leaver column) (entry row column) row.numbers leaver.numbers after.numbers clear given
      (All-contains P tableau.rows row h inside) (All-contains P tableau.rows leaver h chosen.inside))

-- ---- the pivoted tableau is sound

-- index 0 is given 0, and the indices after it what a function gives
shifted : (ℕ → ℤ) → ℕ → ℤ
shifted given zero = pos 0
shifted given (suc index) = given index

dot_shifted : (xs : List ℤ) (given : ℕ → ℤ) → dot xs (shifted given) ≡ dot (drop 1 xs) given
unfolding shifted
dot_shifted xs given = dot_first xs (shifted given) ∙ nothing (number_at xs 0) (dot (drop 1 xs) given)
  where
    nothing : (x d : ℤ) → x *ℤ pos 0 +ℤ d ≡ d
    nothing x d = omega (arith, ints)

-- the objective's equation after the pivot, from the one before
objective_after :
    (own other g s s' c d d' l : ℤ) → pos 0 <ℤ g → d' *ℤ g ≡ own *ℤ d -ℤ other *ℤ l → l ≡ pos 0 → d ≡ neg_ℤ (s *ℤ c)
    → s' *ℤ g ≡ own *ℤ s -ℤ other *ℤ pos 0
    → d' ≡ neg_ℤ (s' *ℤ c)
objective_after own other g s s' c d d' l some h none e k =
    same_from_mul d' (neg_ℤ (s' *ℤ c)) g
    (h
    ∙ ap (λ (z : ℤ). own *ℤ d -ℤ other *ℤ z) none
    ∙ nothing_taken (own *ℤ d) other
    ∙ ap (λ (z : ℤ). own *ℤ z) e
    ∙ mul-neg_right own (s *ℤ c)
    ∙ ap neg_ℤ (sym (mul_assoc own s c) ∙ ap (λ (z : ℤ). z *ℤ c) (sym (k ∙ nothing_taken (own *ℤ s) other))
    ∙ mul_right_comm s' g c)
    ∙ sym (mul-neg_left (s' *ℤ c) g)) some

module _ (program : Program) (tableau : Tableau) (column : ℕ) (leaver : TableauRow) (sound : IsSound program tableau)
    (enters : entering tableau ≡ Some column) (leaves : leaving tableau column ≡ Some leaver) where
  -- the entering column is not basic in any row
  not_basic : (row : TableauRow) → Contains tableau.rows row → row.basic ≡ column → ⊥
  not_basic row inside same =
      negative_zero (reduced_cost tableau column) (entering_is_column program tableau column sound enters).1
      (ap (λ (n : ℕ). reduced_cost tableau n) (sym same)
      ∙ All-contains (λ (r : TableauRow). reduced_cost tableau r.basic
      ≡ pos 0) tableau.rows row sound.costs_apart inside)
    where
      negative_zero : (z : ℤ) → z <ℤ pos 0 → z ≡ pos 0 → ⊥
      negative_zero z h k = omega (arith, ints)

  differ_case : (x y row next : TableauRow) → Contains tableau.rows x → Contains tableau.rows y
      → PivotCase column leaver x row → PivotCase column leaver y next → row.basic ≡ next.basic → x.basic ≡ y.basic
  differ_case x y row next inside later (inl (one, is)) (inl (two, e)) same =
      ap (λ (r : TableauRow). r.basic) (one ∙ sym two)
  differ_case x y row next inside later (inl (one, is)) (inr (away, basic, clear)) same =
      absurd (not_basic y later (sym basic ∙ sym same ∙ ap (λ (r : TableauRow). r.basic) is))
  differ_case x y row next inside later (inr (away, basic, clear)) (inl (two, e)) same =
      absurd (not_basic x inside (sym basic ∙ same ∙ ap (λ (r : TableauRow). r.basic) e))
  differ_case x y row next inside later (inr (away, basic, clear)) (inr (far, based, cleaned)) same = sym basic ∙ same
      ∙ based

  differ_after : (index other : ℕ) (row next : TableauRow)
      → slice_get (map (pivoted_row column leaver) tableau.rows) index ≡ Some row
      → slice_get (map (pivoted_row column leaver) tableau.rows) other ≡ Some next → row.basic ≡ next.basic
      → index ≡ other
  differ_after index other row next h k same =
      let f : TableauRow → TableauRow = pivoted_row column leaver in
      let one = mapped_at f tableau.rows index row h in
      let two = mapped_at f tableau.rows other next k in
      let inside = contains_at tableau.rows index one.0 one.1 in
      let later = contains_at tableau.rows other two.0 two.1 in
      sound.basics_differ index other one.0 two.0 one.1 two.1
      (differ_case one.0 two.0 row next inside later
      (subst (PivotCase column leaver one.0) one.2 (pivot_case program tableau column leaver sound leaves one.0 inside))
      (subst (PivotCase column leaver two.0) two.2 (pivot_case program tableau column leaver sound leaves two.0 later))
      same)

  low_after : All (λ r. r.basic < length program.costs + length program.rows)
      (map (pivoted_row column leaver) tableau.rows)
  low_after =
      let P : TableauRow → Type 0 = λ r. r.basic < length program.costs + length program.rows in
      each_after program tableau column leaver sound leaves P (entering_is_column program tableau column sound enters).0
      (λ row after inside differs basic clear. subst (λ (n : ℕ). n < length program.costs + length program.rows)
      (sym basic) (All-contains P tableau.rows row sound.basics_low inside))

-- a pivot keeps a tableau sound
pub pivoted_is_sound : (program : Program) (tableau : Tableau) (column : ℕ) (leaver : TableauRow)
    → IsSound program tableau → entering tableau ≡ Some column → leaving tableau column ≡ Some leaver
    → IsSound program (pivoted tableau column leaver)
unfolding pivoted
pivoted_is_sound program tableau column leaver sound enters leaves =
    let objective : IsCleared (entry leaver column) (reduced_cost tableau column) tableau.objective (pos 0
    ∷ leaver.numbers) (cleared (entry leaver column) (reduced_cost tableau column) tableau.objective (pos 0
    ∷ leaver.numbers)) =
    objective_cleared program tableau column leaver sound leaves in
    let inside : Contains tableau.rows leaver = (leaving_is_chosen tableau column leaver leaves).inside in
    record {
      count = length-map tableau.rows (pivoted_row column leaver) ∙ sound.count;
      widths = widths_after program tableau column leaver sound leaves;
      objective_width = objective.width ∙ sound.objective_width;
      basics_differ = differ_after program tableau column leaver sound enters leaves;
      basics_low = low_after program tableau column leaver sound enters leaves;
      pivotal = pivotal_after program tableau column leaver sound leaves;
      apart = apart_after program tableau column leaver sound leaves;
      costs_apart = costs_after program tableau column leaver sound leaves;
      bounds = bounds_after program tableau column leaver sound leaves;
      scaled = scaled_after program tableau column leaver sound leaves;
      solved_first = λ given h. sound.solved_first given
          (solves_before program tableau column leaver sound leaves given h);
      solved_here = λ given h. solves_after program tableau column leaver sound leaves given
          (sound.solved_here given h);
      objective = λ given h.
          let after_objective : List ℤ =
          cleared (entry leaver column) (reduced_cost tableau column) tableau.objective (pos 0
          ∷ leaver.numbers) in
          objective_after objective.own objective.other objective.divisor (scale tableau) (number_at after_objective 0)
          (dot program.costs (λ index. given (suc index)))
          (dot tableau.objective (shifted given)) (dot (drop 1 after_objective) given)
          (dot (pos 0 ∷ leaver.numbers) (shifted given)) objective.divisor_positive
          (ap (λ (z : ℤ). z *ℤ objective.divisor) (sym (dot_shifted after_objective given))
          ∙ objective.dots (shifted given))
          (dot_shifted (pos 0 ∷ leaver.numbers) given
          ∙ All-contains (λ (r : TableauRow). dot r.numbers given
          ≡ pos 0) tableau.rows leaver (sound.solved_here given h) inside)
          (dot_shifted tableau.objective given ∙ sound.objective given h) (objective.numbers 0);
    }
