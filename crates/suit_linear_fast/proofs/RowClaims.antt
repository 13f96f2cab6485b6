-- Numbers that all points of a program take to 0, and that have a row's basic column alone, are a multiple of the row
-- (`row_is_multiple`).
use Rattle.std.proofs.Common.{◌≡◌, ◌≢◌, inl, inr, ℕ, zero, suc, List, drop, Contains, sym, ap, ◌∙◌, arith}
use Rattle.std.specs.Prelude.{ℤ, pos, ◌+ℤ◌, ◌-ℤ◌, ◌*ℤ◌, ◌<ℤ◌, ◌==◌, neg_ℤ, find}
use Rattle.std.proofs.lemmas.Int.{ints}
use Rattle.std.proofs.lemmas.List.Elements.{All-contains}
use Rattle.std.proofs.Math.IntN.{*ℤ_comm, zero-*ℤ}
use Rattle.suit_num.proofs.IntegerLaws.{mul_assoc, mul_left_comm, mul-neg_right, mul-sub_left, mul-sub_right}
use Rattle.suit_num.proofs.IntegerLaws.{same_from_mul}
use Rattle.suit_linear.specs.declared.program.Program.{Program}
use Rattle.suit_linear.specs.Points.{number_at, dot}
use Rattle.suit_linear.specs.Tableaus.{TableauRow, Tableau, bound, entry, first_tableau}
use Rattle.suit_linear.specs.Multiples.{AreMultiples}
use Rattle.suit_linear.proofs.SoundTableaus.{IsSound, Solves}
use Rattle.suit_linear.proofs.SoundRows.{found_row, cases_option}
use Rattle.suit_linear.proofs.Corners.{whole, whole_positive, cofactor, cofactor_is, rest, basic_part, part, ray}
use Rattle.suit_linear.proofs.Corners.{corner}
use Rattle.suit_linear.proofs.Corners.{corner_solves, corner_first, dot_ray, row_part}
use Rattle.suit_linear.proofs.DotProducts.{dot_one, number_at-drop}
use Rattle.suit_linear.proofs.Signs.{times_zero, zero_times}

-- ---- the equations at two points

-- where nothing is stepped
at_bound : (z w b d c x y : ℤ) → z *ℤ neg_ℤ w +ℤ (b *ℤ ((d -ℤ pos 0 *ℤ x) *ℤ c) +ℤ y *ℤ (pos 0 *ℤ w)) ≡ pos 0
    → z *ℤ w ≡ b *ℤ (d *ℤ c)
at_bound z w b d c x y h =
    let turned = mul-neg_right z w in
    let still : d -ℤ pos 0 *ℤ x ≡ d = omega (arith, ints) in
    let nothing : y *ℤ (pos 0 *ℤ w) ≡ pos 0 = times_zero y (pos 0 *ℤ w) (zero-*ℤ w) in
    let plain : b *ℤ ((d -ℤ pos 0 *ℤ x) *ℤ c) ≡ b *ℤ (d *ℤ c) = ap (λ (q : ℤ). b *ℤ (q *ℤ c)) still in
    omega (arith, ints)

-- where one step is made
at_entry : (z w b d c x y : ℤ) → z *ℤ w ≡ b *ℤ (d *ℤ c)
    → z *ℤ neg_ℤ w +ℤ (b *ℤ ((d -ℤ pos 1 *ℤ x) *ℤ c) +ℤ y *ℤ (pos 1 *ℤ w)) ≡ pos 0 → y *ℤ w ≡ b *ℤ (x *ℤ c)
at_entry z w b d c x y k h =
    let turned = mul-neg_right z w in
    let one : pos 1 *ℤ x ≡ x = omega (arith, ints) in
    let once : pos 1 *ℤ w ≡ w = omega (arith, ints) in
    let last : y *ℤ (pos 1 *ℤ w) ≡ y *ℤ w = ap (λ (q : ℤ). y *ℤ q) once in
    let plain : b *ℤ ((d -ℤ pos 1 *ℤ x) *ℤ c) ≡ b *ℤ (d *ℤ c) -ℤ b *ℤ (x *ℤ c) =
    ap (λ (q : ℤ). b *ℤ ((d -ℤ q) *ℤ c)) one ∙ ap (λ (q : ℤ). b *ℤ q) (mul-sub_right d x c)
    ∙ mul-sub_left b (d *ℤ c) (x *ℤ c) in
    omega (arith, ints)

-- the common factor goes
without_whole : (y w b x c e : ℤ) → pos 0 <ℤ w → c *ℤ e ≡ w → y *ℤ w ≡ b *ℤ (x *ℤ c) → e *ℤ y ≡ b *ℤ x
without_whole y w b x c e some h k =
    same_from_mul (e *ℤ y) (b *ℤ x) w
    (mul_assoc e y w ∙ ap (λ (q : ℤ). e *ℤ q) k ∙ mul_left_comm e b (x *ℤ c)
    ∙ ap (λ (q : ℤ). b *ℤ q) (mul_left_comm e x c ∙ ap (λ (q : ℤ). x *ℤ q) (*ℤ_comm e c ∙ h))
    ∙ sym (mul_assoc b x w)) some

-- ---- numbers with one basic column

-- a row's numbers, but for a factor, by what the points of the program make of them
pub record IsRowOf (program : Program) (tableau : Tableau) (row : TableauRow) (numbers : List ℤ) : Type 0 where
  pub holds : (given : ℕ → ℤ) → Solves (first_tableau program).rows given → dot numbers given ≡ pos 0
  pub apart : (other : TableauRow) → Contains tableau.rows other → other.basic ≢ row.basic
      → number_at numbers (suc other.basic) ≡ pos 0
  pub positive : pos 0 <ℤ number_at numbers (suc row.basic)

module _ (program : Program) (tableau : Tableau) (sound : IsSound program tableau) (row : TableauRow)
    (inside : Contains tableau.rows row) (numbers : List ℤ) (is : IsRowOf program tableau row numbers) where
  -- of the basic parts of a point only the row's own counts
  own_part : (column : ℕ) (step : ℤ) → dot (drop 1 numbers) (part tableau.rows column step)
      ≡ number_at numbers (suc row.basic) *ℤ (rest column step row *ℤ cofactor tableau.rows row)
  own_part column step =
      dot_one (drop 1 numbers) (part tableau.rows column step) row.basic
      (λ other differs. ap (λ (z : ℤ). z *ℤ part tableau.rows column step other) (number_at-drop numbers other)
      ∙ elsewhere other differs)
      ∙ ap (λ (z : ℤ). z *ℤ part tableau.rows column step row.basic) (number_at-drop numbers row.basic)
      ∙ ap (λ (z : ℤ). number_at numbers (suc row.basic) *ℤ z) (row_part program tableau sound column step row inside)
    where
      elsewhere : (other : ℕ) → other ≢ row.basic
          → number_at numbers (suc other) *ℤ part tableau.rows column step other ≡ pos 0
      elsewhere other differs =
          elim (cases_option (find (λ r. r.basic == other) tableau.rows)) [
            | inl none ↦ times_zero (number_at numbers (suc other)) _ (ap (basic_part tableau.rows column step) none)
            | inr some ↦
                let found = found_row tableau.rows other some.0 some.1 in
                zero_times (number_at numbers (suc other)) (part tableau.rows column step other)
                (ap (λ (n : ℕ). number_at numbers (suc n)) (sym found.1)
                ∙ is.apart some.0 found.0 (λ e. differs (sym found.1 ∙ e)))
          ]

  at_corner : (column : ℕ) (step : ℤ) → number_at numbers 0 *ℤ neg_ℤ (whole tableau.rows)
      +ℤ (number_at numbers (suc row.basic) *ℤ (rest column step row *ℤ cofactor tableau.rows row)
      +ℤ number_at numbers (suc column) *ℤ (step *ℤ whole tableau.rows)) ≡ pos 0
  at_corner column step =
      sym (corner_first numbers tableau.rows column step
      ∙ ap (λ (z : ℤ). number_at numbers 0 *ℤ neg_ℤ (whole tableau.rows)
      +ℤ (z +ℤ dot (drop 1 numbers) (ray tableau.rows column step))) (own_part column step)
      ∙ ap (λ (z : ℤ). number_at numbers 0 *ℤ neg_ℤ (whole tableau.rows)
      +ℤ (number_at numbers (suc row.basic) *ℤ (rest column step row *ℤ cofactor tableau.rows row) +ℤ z))
      (dot_ray numbers tableau.rows column step))
      ∙ is.holds (corner tableau.rows column step) (sound.solved_first (corner tableau.rows column step)
      (corner_solves program tableau sound column step))

  some_whole : pos 0 <ℤ whole tableau.rows
  some_whole = whole_positive tableau.rows sound.pivotal

  same_bound : number_at numbers 0 *ℤ whole tableau.rows
      ≡ number_at numbers (suc row.basic) *ℤ (bound row *ℤ cofactor tableau.rows row)
  same_bound = at_bound (number_at numbers 0) (whole tableau.rows) (number_at numbers (suc row.basic)) (bound row)
      (cofactor tableau.rows row) (entry row 0) (number_at numbers 1) (at_corner 0 (pos 0))

  same_entry : (column : ℕ) → number_at numbers (suc column) *ℤ whole tableau.rows
      ≡ number_at numbers (suc row.basic) *ℤ (entry row column *ℤ cofactor tableau.rows row)
  same_entry column = at_entry (number_at numbers 0) (whole tableau.rows) (number_at numbers (suc row.basic))
      (bound row) (cofactor tableau.rows row) (entry row column) (number_at numbers (suc column)) same_bound
      (at_corner column (pos 1))

  same_number : (index : ℕ) → entry row row.basic *ℤ number_at numbers index
      ≡ number_at numbers (suc row.basic) *ℤ number_at row.numbers index
  same_number zero = without_whole (number_at numbers 0) (whole tableau.rows) (number_at numbers (suc row.basic))
      (bound row) (cofactor tableau.rows row) (entry row row.basic) some_whole (cofactor_is tableau.rows row inside)
      same_bound
  same_number (suc column) = without_whole (number_at numbers (suc column)) (whole tableau.rows)
      (number_at numbers (suc row.basic)) (entry row column) (cofactor tableau.rows row) (entry row row.basic)
      some_whole (cofactor_is tableau.rows row inside) (same_entry column)

  -- the numbers are a multiple of the row
  pub row_is_multiple : AreMultiples (number_at numbers) (number_at row.numbers)
  row_is_multiple = record {
    left = entry row row.basic;
    right = number_at numbers (suc row.basic);
    left_positive = All-contains (λ (r : TableauRow). pos 0 <ℤ entry r r.basic) tableau.rows row sound.pivotal inside;
    right_positive = is.positive;
    numbers = same_number;
  }
