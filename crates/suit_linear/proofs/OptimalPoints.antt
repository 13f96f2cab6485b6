-- The point that is read from a last tableau is feasible, and its objective is the tableau's value
-- (`optimum_is_primal`).
use Rattle.std.proofs.Common.{◌≡◌, inl, inr, ℕ, suc, ◌<◌, List, length, get_or, All, Some, None, refl, sym, ap, ◌∙◌}
use Rattle.std.proofs.Common.{subst, arith}
use Rattle.std.specs.Prelude.{ℤ, pos, ◌+ℤ◌, ◌-ℤ◌, ◌*ℤ◌, ◌≤ℤ◌, ◌<ℤ◌, ◌==◌, find, Option}
use Rattle.std.proofs.lemmas.Int.{ints}
use Rattle.std.proofs.lemmas.Bool.{cond_both}
use Rattle.std.proofs.lemmas.Option.{slice_get_cases}
use Rattle.std.proofs.lemmas.List.Elements.{All-weaker}
use Rattle.std.proofs.Math.IntN.{*ℤ_comm, zero-*ℤ}
use Rattle.suit_num.specs.declared.fraction.Frac.{Frac}
use Rattle.suit_num.proofs.IntegerLaws.{mul_assoc, mul_right_comm, mul_not_negative, le_from_mul, le-mul_right}
use Rattle.suit_num.proofs.IntegerLaws.{same_from_mul}
use Rattle.suit_linear.specs.declared.program.Program.{Program}
use Rattle.suit_linear.specs.declared.program.ProgramRow.{ProgramRow}
use Rattle.suit_linear.specs.declared.ends.Optimum.{Optimum}
use Rattle.suit_linear.specs.Points.{dot}
use Rattle.suit_linear.specs.Programs.{IsWellFormed, IsFeasible}
use Rattle.suit_linear.specs.Tableaus.{TableauRow, Tableau, bound, entry, scale, value, reduced_cost}
use Rattle.suit_linear.specs.Pivots.{entering}
use Rattle.suit_linear.specs.Ends.{IsBasicValue, IsOptimumOf}
use Rattle.suit_linear.specs.Optima.{IsCommon, IsPrimalOptimum}
use Rattle.suit_linear.proofs.SoundTableaus.{IsSound}
use Rattle.suit_linear.proofs.DotProducts.{dot-common}
use Rattle.suit_linear.proofs.SoundRows.{found_row}
use Rattle.suit_linear.proofs.Corners.{whole, whole_positive, cofactor, cofactor_is, rest, basic_part, part, ray}
use Rattle.suit_linear.proofs.Corners.{corner}
use Rattle.suit_linear.proofs.Rays.{corner_objective, corner_feasible}
use Rattle.suit_linear.proofs.Signs.{nothing_taken, positive_low}

-- ---- the tableau's own point

-- without a step the point is the basic parts alone
still_part : (rows : List TableauRow) (index : ℕ) → corner rows 0 (pos 0) (suc index) ≡ part rows 0 (pos 0) index
unfolding corner
still_part rows index =
    let nothing : ray rows 0 (pos 0) index ≡ pos 0 =
    cond_both (index == 0) (pos 0 *ℤ whole rows) (pos 0) (λ z. z
    ≡ pos 0) (λ e. zero-*ℤ (whole rows)) (λ e. refl) in
    alone (part rows 0 (pos 0) index) (ray rows 0 (pos 0) index) nothing
  where
    alone : (a b : ℤ) → b ≡ pos 0 → a +ℤ b ≡ a
    alone a b h = omega (arith, ints)

still_rest : (b e : ℤ) → b -ℤ pos 0 *ℤ e ≡ b
still_rest b e = omega (arith, ints)

still_bounds : (rows : List TableauRow) → All (λ row. pos 0 ≤ℤ bound row) rows
    → All (λ row. pos 0 ≤ℤ rest 0 (pos 0) row) rows
still_bounds rows h =
    All-weaker (λ (row : TableauRow). pos 0 ≤ℤ bound row) (λ (row : TableauRow). pos 0 ≤ℤ rest 0 (pos 0) row)
    (λ row low. subst (λ (z : ℤ). pos 0 ≤ℤ z) (sym (still_rest (bound row) (entry row 0))) low) rows h

-- ---- two ways to write the point

-- a number over a denominator with the numerator 0 is 0
no_value : (x p d q w : ℤ) → pos 0 <ℤ d → x *ℤ d ≡ p *ℤ q → p ≡ pos 0 → x *ℤ w ≡ pos 0 *ℤ q
no_value x p d q w some h e =
    let none : x ≡ pos 0 = same_from_mul x (pos 0) d (h ∙ ap (λ (z : ℤ). z *ℤ q) e ∙ zero-*ℤ q
    ∙ sym (zero-*ℤ d)) some in
    ap (λ (z : ℤ). z *ℤ w) none ∙ zero-*ℤ w ∙ sym (zero-*ℤ q)

-- x / q = p / d and p / d = b / e give x / q = b * c / (c * e)
row_value : (x p d q b e c : ℤ) → pos 0 <ℤ d → x *ℤ d ≡ p *ℤ q → p *ℤ e ≡ b *ℤ d → x *ℤ (c *ℤ e) ≡ (b *ℤ c) *ℤ q
row_value x p d q b e c some h k =
    let both : x *ℤ e ≡ b *ℤ q =
    same_from_mul (x *ℤ e) (b *ℤ q) d
    (mul_right_comm x e d ∙ ap (λ (z : ℤ). z *ℤ e) h ∙ mul_right_comm p q e ∙ ap (λ (z : ℤ). z *ℤ q) k
    ∙ mul_right_comm b d q) some in
    ap (λ (z : ℤ). x *ℤ z) (*ℤ_comm c e) ∙ sym (mul_assoc x e c) ∙ ap (λ (z : ℤ). z *ℤ c) both ∙ mul_right_comm b q c

basic_value : (rows : List TableauRow) (column : ℕ) (x q : ℤ) (part : Frac) (found : Option TableauRow)
    → find (λ row. row.basic == column) rows ≡ found → IsBasicValue column found part → x *ℤ part.den ≡ part.num *ℤ q
    → x *ℤ whole rows ≡ basic_part rows 0 (pos 0) found *ℤ q
basic_value rows column x q part None looked is h = no_value x part.num part.den q (whole rows) part.positive h is
basic_value rows column x q part (Some row) looked is h =
    let found = found_row rows column row looked in
    ap (λ (z : ℤ). x *ℤ z) (sym (cofactor_is rows row found.0)
    ∙ ap (λ (n : ℕ). cofactor rows row *ℤ entry row n) found.1)
    ∙ row_value x part.num part.den q (bound row) (entry row column) (cofactor rows row) part.positive h is
    ∙ ap (λ (z : ℤ). z *ℤ cofactor rows row *ℤ q) (sym (still_rest (bound row) (entry row 0)))

-- ---- over any denominator

over_other : (x y w q : ℤ) → pos 0 <ℤ w → pos 0 <ℤ q → x *ℤ w ≡ y *ℤ q → pos 0 ≤ℤ y → pos 0 ≤ℤ x
over_other x y w q some more h low =
    let product : pos 0 ≤ℤ (x *ℤ w) =
    subst (λ (z : ℤ). pos 0 ≤ℤ z) (sym h) (mul_not_negative y q low (positive_low q more)) in
    le_from_mul (pos 0) x w (subst (λ (z : ℤ). z ≤ℤ (x *ℤ w)) (sym (zero-*ℤ w)) product) some

bound_other : (x y b w q : ℤ) → pos 0 <ℤ w → pos 0 <ℤ q → x *ℤ w ≡ y *ℤ q → y ≤ℤ (b *ℤ w) → x ≤ℤ (b *ℤ q)
bound_other x y b w q some more h less =
    let product : (y *ℤ q) ≤ℤ (b *ℤ w *ℤ q) = le-mul_right y (b *ℤ w) q less (positive_low q more) in
    le_from_mul x (b *ℤ q) w
    (subst (λ (z : ℤ). z ≤ℤ (b *ℤ q *ℤ w)) (sym h) (subst (λ (z : ℤ). (y *ℤ q) ≤ℤ z) (mul_right_comm b w q) product))
    some

objective_other : (x y w q s v r : ℤ) → pos 0 <ℤ w → x *ℤ w ≡ y *ℤ q → s *ℤ y ≡ v *ℤ w -ℤ r *ℤ (pos 0 *ℤ w)
    → x *ℤ s ≡ v *ℤ q
objective_other x y w q s v r some h k =
    same_from_mul (x *ℤ s) (v *ℤ q) w
    (mul_right_comm x s w
    ∙ ap (λ (z : ℤ). z *ℤ s) h
    ∙ mul_right_comm y q s
    ∙ ap (λ (z : ℤ). z *ℤ q) (*ℤ_comm y s ∙ k ∙ ap (λ (z : ℤ). v *ℤ w -ℤ r *ℤ z) (zero-*ℤ w) ∙ nothing_taken (v *ℤ w) r)
    ∙ mul_right_comm v w q) some

module _ (program : Program) (tableau : Tableau) (optimum : Optimum) (well : IsWellFormed program)
    (sound : IsSound program tableau) (is : IsOptimumOf program tableau optimum) (point : ℕ
    → ℤ) (den : ℤ) (common : IsCommon optimum.point point den) where
  own_feasible : IsFeasible program (λ column. corner tableau.rows 0 (pos 0) (suc column)) (whole tableau.rows)
  own_feasible = corner_feasible program tableau sound 0 (pos 0) nothing (still_bounds tableau.rows sound.bounds)
    where
      nothing : pos 0 ≤ℤ pos 0
      nothing = omega (arith, ints)

  some_whole : pos 0 <ℤ whole tableau.rows
  some_whole = whole_positive tableau.rows sound.pivotal

  same_point : (column : ℕ) → column < length program.costs
      → point column *ℤ whole tableau.rows ≡ corner tableau.rows 0 (pos 0) (suc column) *ℤ den
  same_point column less =
      elim (slice_get_cases optimum.point column).1 [
        | inl (part, inside, at, read) ↦
            basic_value tableau.rows column (point column) den part (find (λ row. row.basic == column) tableau.rows)
            refl (is.point column part at) (common.same column part at)
            ∙ ap (λ (z : ℤ). z *ℤ den) (sym (still_part tableau.rows column))
        | inr (past, none) ↦ let width = is.columns in absurd (omega arith)
      ]

  same_dot : (xs : List ℤ) → length xs ≡ length program.costs
      → dot xs point *ℤ whole tableau.rows ≡ dot xs (λ column. corner tableau.rows 0 (pos 0) (suc column)) *ℤ den
  same_dot xs width = dot-common xs point (λ column. corner tableau.rows 0 (pos 0) (suc column)) (whole tableau.rows)
      den (λ index less. same_point index (subst (λ (n : ℕ). index < n) width less))

  point_feasible : IsFeasible program point den
  point_feasible = record {
    over = common.over;
    columns = λ column less. over_other (point column) _ (whole tableau.rows) den some_whole common.over
        (same_point column less) (own_feasible.columns column less);
    rows = λ index other less.
        let row : ProgramRow = get_or program.rows index other in
        bound_other (dot row.entries point) _ row.bound (whole tableau.rows) den some_whole common.over
        (same_dot row.entries (well.widths index other less)) (own_feasible.rows index other less);
  }

  point_objective : dot program.costs point *ℤ optimum.scale ≡ optimum.value *ℤ den
  point_objective =
      ap (λ (z : ℤ). dot program.costs point *ℤ z) is.scale
      ∙ objective_other (dot program.costs point) _ (whole tableau.rows) den (scale tableau) (value tableau)
      (reduced_cost tableau 0) some_whole (same_dot program.costs refl)
      (corner_objective program tableau sound 0 (pos 0))
      ∙ ap (λ (z : ℤ). z *ℤ den) (sym is.value)

-- the point is feasible over whatever denominator, and its objective is value / scale
pub optimum_is_primal : (program : Program) (tableau : Tableau) (optimum : Optimum) → IsWellFormed program
    → IsSound program tableau → entering tableau ≡ None → IsOptimumOf program tableau optimum
    → IsPrimalOptimum program optimum
optimum_is_primal program tableau optimum well sound last is = λ point den common. (
  point_feasible program tableau optimum well sound is point den common,
  point_objective program tableau optimum well sound is point den common,
)
