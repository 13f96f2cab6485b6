-- The point that a tableau stands at, and the points on a ray from it: over the product of the basic entries they are
-- whole numbers (`cofactor_is`).
use Rattle.std.proofs.Common.{◌≡◌, ◌≢◌, inl, inr, ℕ, zero, suc, List, [], ◌∷◌, drop, All, Contains, Some, None, refl}
use Rattle.std.proofs.Common.{sym, ap, ◌∙◌, subst, arith}
use Rattle.std.specs.Prelude.{ℤ, pos, ◌+ℤ◌, ◌-ℤ◌, ◌*ℤ◌, ◌<ℤ◌, ◌==◌, neg_ℤ, int_div, unsigned_abs, find, Option}
use Rattle.std.specs.Prelude.{if◌then◌else◌}
use Rattle.std.specs.Int.{◌∣◌}
use Rattle.std.proofs.lemmas.Int.{ints, unsigned_abs-mul}
use Rattle.std.proofs.lemmas.Bool.{cond-true, cond-false, eq-eqb, ne_eqb}
use Rattle.std.proofs.lemmas.List.Elements.{All-nil, All-cons, All-head, All-tail, All-weaker, All-contains}
use Rattle.std.proofs.Math.IntN.{*ℤ_comm}
use Rattle.std.proofs.Math.Nat.{dvd-mul_left, dvd-mul_right}
use Rattle.std.proofs.lemmas.Nat.Gcd.{dvd_trans}
use Rattle.suit_num.proofs.IntegerLaws.{mul_assoc, mul_left_comm, mul-neg_right, mul-sub_right, div-mul}
use Rattle.suit_num.proofs.IntegerLaws.{positive_from_mul, mul_positive}
use Rattle.suit_linear.specs.declared.program.Program.{Program}
use Rattle.suit_linear.specs.Points.{number_at, dot}
use Rattle.suit_linear.specs.Tableaus.{TableauRow, Tableau, bound, entry, value, reduced_cost}
use Rattle.suit_linear.proofs.SoundTableaus.{IsSound, Solves}
use Rattle.suit_linear.proofs.DotProducts.{dot_first, number_at-drop, dot-add, dot_one, dot_zero}
use Rattle.suit_linear.proofs.SoundRows.{found_row, row_found, cases_option}
use Rattle.suit_linear.proofs.Signs.{times_zero, zero_times}
use Rattle.suit_lists.proofs.Elements.{all_from_contains}

-- ---- the product of the basic entries

pub whole : List TableauRow → ℤ
whole [] = pos 1
whole (row ∷ rows) = entry row row.basic *ℤ whole rows

-- the product is positive
pub whole_positive : (rows : List TableauRow) → All (λ row. pos 0 <ℤ entry row row.basic) rows → pos 0 <ℤ whole rows
unfolding whole
whole_positive [] h = omega (arith, ints)
whole_positive (row ∷ rows) h =
    let P : TableauRow → Type 0 = λ r. pos 0 <ℤ entry r r.basic in
    mul_positive (entry row row.basic) (whole rows) (All-head P row rows h)
    (whole_positive rows (All-tail P row rows h))

entries_divide : (rows : List TableauRow)
    → All (λ row. unsigned_abs (entry row row.basic) ∣ unsigned_abs (whole rows)) rows
unfolding whole
entries_divide [] = All-nil (λ (row : TableauRow). unsigned_abs (entry row row.basic) ∣ unsigned_abs (pos 1))
entries_divide (row ∷ rows) =
    let e = unsigned_abs-mul (entry row row.basic) (whole rows) in
    let P : TableauRow → Type 0 =
    λ r. unsigned_abs (entry r r.basic) ∣ unsigned_abs (entry row row.basic *ℤ whole rows) in
    All-cons P row rows (subst (λ (n : ℕ). unsigned_abs (entry row row.basic) ∣ n) (sym e)
    (dvd-mul_right (unsigned_abs (entry row row.basic)) (unsigned_abs (whole rows))))
    (All-weaker (λ (r : TableauRow). unsigned_abs (entry r r.basic) ∣ unsigned_abs (whole rows)) P
    (λ r h. subst (λ (n : ℕ). unsigned_abs (entry r r.basic) ∣ n) (sym e)
    (dvd_trans _ h (dvd-mul_left (unsigned_abs (whole rows)) (unsigned_abs (entry row row.basic)))))
    rows (entries_divide rows))

-- the product without a row's own entry
abbrev pub cofactor : List TableauRow → TableauRow → ℤ
cofactor rows row = int_div (whole rows) (entry row row.basic)

pub cofactor_is : (rows : List TableauRow) (row : TableauRow) → Contains rows row
    → cofactor rows row *ℤ entry row row.basic ≡ whole rows
cofactor_is rows row inside =
    div-mul (whole rows) (entry row row.basic)
    (All-contains (λ (r : TableauRow). unsigned_abs (entry r r.basic) ∣ unsigned_abs (whole rows)) rows row
    (entries_divide rows) inside)

pub cofactor_positive : (rows : List TableauRow) (row : TableauRow) → All (λ r. pos 0 <ℤ entry r r.basic) rows
    → Contains rows row → pos 0 <ℤ cofactor rows row
cofactor_positive rows row some inside =
    positive_from_mul (cofactor rows row) (entry row row.basic)
    (subst (λ (z : ℤ). pos 0 <ℤ z) (sym (cofactor_is rows row inside)) (whole_positive rows some))
    (All-contains (λ (r : TableauRow). pos 0 <ℤ entry r r.basic) rows row some inside)

-- ---- the points

-- what is left of a row's bound after so many steps along a column
abbrev pub rest : ℕ → ℤ → TableauRow → ℤ
rest column step row = bound row -ℤ step *ℤ entry row column

abbrev pub basic_part : List TableauRow → ℕ → ℤ → Option TableauRow → ℤ
basic_part rows column step None = pos 0
basic_part rows column step (Some row) = rest column step row *ℤ cofactor rows row

abbrev pub part : List TableauRow → ℕ → ℤ → ℕ → ℤ
part rows column step index = basic_part rows column step (find (λ r. r.basic == index) rows)

abbrev pub ray : List TableauRow → ℕ → ℤ → ℕ → ℤ
ray rows column step index = if index == column then step *ℤ whole rows else pos 0

-- the point after so many steps along a column, after the negated denominator
unfoldable pub corner : List TableauRow → ℕ → ℤ → ℕ → ℤ
corner rows column step zero = neg_ℤ (whole rows)
corner rows column step (suc index) = part rows column step index +ℤ ray rows column step index

ray_here : (rows : List TableauRow) (column : ℕ) (step : ℤ) → ray rows column step column ≡ step *ℤ whole rows
ray_here rows column step = cond-true (column == column) _ _ (eq-eqb column column refl)

ray_elsewhere : (rows : List TableauRow) (column : ℕ) (step : ℤ) (index : ℕ) → index ≢ column
    → ray rows column step index ≡ pos 0
ray_elsewhere rows column step index h = cond-false (index == column) _ _ (ne_eqb index column h)

pub corner_first : (xs : List ℤ) (rows : List TableauRow) (column : ℕ) (step : ℤ)
    → dot xs (corner rows column step)
    ≡ number_at xs 0 *ℤ neg_ℤ (whole rows)
    +ℤ (dot (drop 1 xs) (part rows column step) +ℤ dot (drop 1 xs) (ray rows column step))
unfolding corner
corner_first xs rows column step =
    dot_first xs (corner rows column step)
    ∙ ap (λ (z : ℤ). number_at xs 0 *ℤ neg_ℤ (whole rows) +ℤ z)
    (dot-add (drop 1 xs) (part rows column step) (ray rows column step))

pub dot_ray : (xs : List ℤ) (rows : List TableauRow) (column : ℕ) (step : ℤ)
    → dot (drop 1 xs) (ray rows column step) ≡ number_at xs (suc column) *ℤ (step *ℤ whole rows)
dot_ray xs rows column step =
    dot_one (drop 1 xs) (ray rows column step) column
    (λ other differs. times_zero (number_at (drop 1 xs) other) _ (ray_elsewhere rows column step other differs))
    ∙ ap (λ (z : ℤ). z *ℤ ray rows column step column) (number_at-drop xs column)
    ∙ ap (λ (z : ℤ). number_at xs (suc column) *ℤ z) (ray_here rows column step)

-- b * -w + ((b - s * e) * w + e * (s * w)) = 0
balance : (b s e w : ℤ) → b *ℤ neg_ℤ w +ℤ ((b -ℤ s *ℤ e) *ℤ w +ℤ e *ℤ (s *ℤ w)) ≡ pos 0
balance b s e w =
    let turned = mul-neg_right b w in
    let split = mul-sub_right b (s *ℤ e) w in
    let moved = mul_left_comm e s w in
    let grouped = mul_assoc s e w in
    omega (arith, ints)

module _ (program : Program) (tableau : Tableau) (sound : IsSound program tableau) (column : ℕ) (step : ℤ) where
  -- a list that is 0 at the basic columns takes nothing from the basic parts
  parts_nothing : (xs : List ℤ) → All (λ row. number_at xs row.basic ≡ pos 0) tableau.rows
      → dot xs (part tableau.rows column step) ≡ pos 0
  parts_nothing xs h =
      dot_zero xs (part tableau.rows column step)
      (λ index.
      elim (cases_option (find (λ r. r.basic == index) tableau.rows)) [
        | inl none ↦ times_zero (number_at xs index) _ (ap (basic_part tableau.rows column step) none)
        | inr some ↦
            let found = found_row tableau.rows index some.0 some.1 in
            zero_times (number_at xs index) (part tableau.rows column step index)
            (ap (number_at xs) (sym found.1)
            ∙ All-contains (λ (r : TableauRow). number_at xs r.basic ≡ pos 0) tableau.rows some.0 h found.0)
      ])

  pub row_part : (row : TableauRow) → Contains tableau.rows row
      → part tableau.rows column step row.basic ≡ rest column step row *ℤ cofactor tableau.rows row
  row_part row inside = ap (basic_part tableau.rows column step) (row_found program tableau row sound inside)

  others_nothing : (row : TableauRow) → Contains tableau.rows row → (index : ℕ) → index ≢ row.basic
      → entry row index *ℤ part tableau.rows column step index ≡ pos 0
  others_nothing row inside index differs =
      elim (cases_option (find (λ r. r.basic == index) tableau.rows)) [
        | inl none ↦ times_zero (entry row index) _ (ap (basic_part tableau.rows column step) none)
        | inr some ↦
            let found = found_row tableau.rows index some.0 some.1 in
            zero_times (entry row index) (part tableau.rows column step index)
            (ap (entry row) (sym found.1) ∙ sound.apart some.0 row found.0 inside (λ e. differs (sym found.1 ∙ e)))
      ]

  row_parts : (row : TableauRow) → Contains tableau.rows row
      → dot (drop 1 row.numbers) (part tableau.rows column step) ≡ rest column step row *ℤ whole tableau.rows
  row_parts row inside =
      dot_one (drop 1 row.numbers) (part tableau.rows column step) row.basic
      (λ other differs. ap (λ (z : ℤ). z *ℤ part tableau.rows column step other) (number_at-drop row.numbers other)
      ∙ others_nothing row inside other differs)
      ∙ ap (λ (z : ℤ). z *ℤ part tableau.rows column step row.basic) (number_at-drop row.numbers row.basic)
      ∙ ap (λ (z : ℤ). entry row row.basic *ℤ z) (row_part row inside)
      ∙ mul_left_comm (entry row row.basic) (rest column step row) (cofactor tableau.rows row)
      ∙ ap (λ (z : ℤ). rest column step row *ℤ z) (*ℤ_comm (entry row row.basic) (cofactor tableau.rows row)
      ∙ cofactor_is tableau.rows row inside)

  -- the point solves the tableau's rows
  pub corner_solves : Solves tableau.rows (corner tableau.rows column step)
  corner_solves =
      all_from_contains (λ (row : TableauRow). dot row.numbers (corner tableau.rows column step) ≡ pos 0) tableau.rows
      (λ row inside.
      corner_first row.numbers tableau.rows column step
      ∙ ap (λ (z : ℤ). bound row *ℤ neg_ℤ (whole tableau.rows)
      +ℤ (z +ℤ dot (drop 1 row.numbers) (ray tableau.rows column step))) (row_parts row inside)
      ∙ ap (λ (z : ℤ). bound row *ℤ neg_ℤ (whole tableau.rows) +ℤ (rest column step row *ℤ whole tableau.rows +ℤ z))
      (dot_ray row.numbers tableau.rows column step)
      ∙ balance (bound row) step (entry row column) (whole tableau.rows))

  -- what the objective row comes to at the point
  pub corner_costs : dot (drop 1 tableau.objective) (corner tableau.rows column step)
      ≡ value tableau *ℤ neg_ℤ (whole tableau.rows) +ℤ reduced_cost tableau column *ℤ (step *ℤ whole tableau.rows)
  corner_costs =
      let costs : List ℤ = drop 1 tableau.objective in
      let away = λ (index : ℕ). number_at-drop costs index ∙ number_at-drop tableau.objective (suc index) in
      corner_first costs tableau.rows column step
      ∙ ap (λ (z : ℤ). number_at costs 0 *ℤ neg_ℤ (whole tableau.rows)
      +ℤ (z +ℤ dot (drop 1 costs) (ray tableau.rows column step)))
      (parts_nothing (drop 1 costs) (All-weaker (λ (r : TableauRow). reduced_cost tableau r.basic
      ≡ pos 0) (λ (r : TableauRow). number_at (drop 1 costs) r.basic ≡ pos 0) (λ r h. away r.basic
      ∙ h) tableau.rows sound.costs_apart))
      ∙ ap (λ (z : ℤ). z *ℤ neg_ℤ (whole tableau.rows) +ℤ (pos 0 +ℤ dot (drop 1 costs) (ray tableau.rows column step)))
      (number_at-drop tableau.objective 0)
      ∙ ap (λ (z : ℤ). value tableau *ℤ neg_ℤ (whole tableau.rows) +ℤ (pos 0 +ℤ z))
      (dot_ray costs tableau.rows column step
      ∙ ap (λ (z : ℤ). z *ℤ (step *ℤ whole tableau.rows)) (number_at-drop tableau.objective (suc column)))
      ∙ nothing (value tableau *ℤ neg_ℤ (whole tableau.rows))
      (reduced_cost tableau column *ℤ (step *ℤ whole tableau.rows))
    where
      nothing : (a b : ℤ) → a +ℤ (pos 0 +ℤ b) ≡ a +ℤ b
      nothing a b = omega (arith, ints)
