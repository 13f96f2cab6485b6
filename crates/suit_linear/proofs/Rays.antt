-- The points on a ray are feasible, and a column that no row stops would take the objective past every limit
-- (`no_ray`).
use Rattle.std.proofs.Common.{◌≡◌, inl, inr, ℕ, suc, ◌<◌, ◌+◌, length, get_or, All, Some, None, sym, ap, ◌∙◌, subst}
use Rattle.std.proofs.Common.{arith}
use Rattle.std.specs.Prelude.{ℤ, pos, ◌+ℤ◌, ◌-ℤ◌, ◌*ℤ◌, ◌≤ℤ◌, ◌<ℤ◌, ◌==◌, neg_ℤ, unsigned_abs, find, Option}
use Rattle.std.proofs.lemmas.Int.{ints}
use Rattle.std.proofs.lemmas.Bool.{cases_eq, cond-true, cond-false, eq-eqb, ne_eqb}
use Rattle.std.proofs.lemmas.List.Elements.{All-contains}
use Rattle.std.proofs.Math.IntN.{*ℤ_comm}
use Rattle.suit_num.proofs.IntegerLaws.{mul_assoc, mul-neg_right, mul-sub_right, mul-one, mul_not_negative}
use Rattle.suit_num.proofs.IntegerLaws.{mul_not_positive, le_from_mul, le-mul_right}
use Rattle.suit_linear.specs.declared.program.Program.{Program}
use Rattle.suit_linear.specs.declared.program.ProgramRow.{ProgramRow}
use Rattle.suit_linear.specs.Points.{dot}
use Rattle.suit_linear.specs.Programs.{IsFeasible, IsBounded}
use Rattle.suit_linear.specs.Tableaus.{TableauRow, Tableau, scale, value, reduced_cost}
use Rattle.suit_linear.specs.Pivots.{entering, leaving}
use Rattle.suit_linear.proofs.SoundTableaus.{IsSound}
use Rattle.suit_linear.proofs.SoundRows.{found_row, cases_option}
use Rattle.suit_linear.proofs.FirstTableaus.{solved_row}
use Rattle.suit_linear.proofs.EnteringCostIsNegative.{entering_is_column}
use Rattle.suit_linear.proofs.RatioTest.{leaving_none}
use Rattle.suit_linear.proofs.Corners.{whole, whole_positive, cofactor, cofactor_positive, rest, basic_part, part}
use Rattle.suit_linear.proofs.Corners.{ray, corner, corner_solves, corner_costs}
use Rattle.suit_linear.proofs.Signs.{positive_low, zero_low, sum_not_negative}

-- ---- a row and the objective

-- a row that its slack makes up for is at most its bound
within_bound : (b w d s : ℤ) → b *ℤ neg_ℤ w +ℤ (d +ℤ s) ≡ pos 0 → pos 0 ≤ℤ s → d ≤ℤ (b *ℤ w)
within_bound b w d s h k = let turned = mul-neg_right b w in omega (arith, ints)

objective_step : (k v w r t : ℤ) → v *ℤ neg_ℤ w +ℤ r *ℤ t ≡ neg_ℤ k → k ≡ v *ℤ w -ℤ r *ℤ t
objective_step k v w r t h = let turned = mul-neg_right v w in omega (arith, ints)

-- ---- the points are feasible

module _ (program : Program) (tableau : Tableau) (sound : IsSound program tableau) (column : ℕ) (step : ℤ) where
  -- the objective at the point
  pub corner_objective : scale tableau *ℤ dot program.costs (λ index. corner tableau.rows column step (suc index))
      ≡ value tableau *ℤ whole tableau.rows -ℤ reduced_cost tableau column *ℤ (step *ℤ whole tableau.rows)
  corner_objective =
      let first = sound.solved_first (corner tableau.rows column step)
      (corner_solves program tableau sound column step) in
      objective_step (scale tableau *ℤ dot program.costs (λ index. corner tableau.rows column step (suc index)))
      (value tableau) (whole tableau.rows) (reduced_cost tableau column) (step *ℤ whole tableau.rows)
      (sym (corner_costs program tableau sound column step) ∙ sound.objective (corner tableau.rows column step) first)

  part_not_negative : All (λ row. pos 0 ≤ℤ rest column step row) tableau.rows → (index : ℕ)
      → pos 0 ≤ℤ part tableau.rows column step index
  part_not_negative h index =
      elim (cases_option (find (λ r. r.basic == index) tableau.rows)) [
        | inl none ↦ zero_low (part tableau.rows column step index) (ap (basic_part tableau.rows column step) none)
        | inr some ↦
            let found = found_row tableau.rows index some.0 some.1 in
            subst (λ (o : Option TableauRow). pos 0 ≤ℤ basic_part tableau.rows column step o) (sym some.1)
            (mul_not_negative (rest column step some.0) (cofactor tableau.rows some.0)
            (All-contains (λ (r : TableauRow). pos 0 ≤ℤ rest column step r) tableau.rows some.0 h found.0)
            (positive_low (cofactor tableau.rows some.0) (cofactor_positive tableau.rows some.0 sound.pivotal found.0)))
      ]

  ray_not_negative : pos 0 ≤ℤ step → (index : ℕ) → pos 0 ≤ℤ ray tableau.rows column step index
  ray_not_negative h index =
      elim (cases_eq index column) [
        | inl here ↦
            subst (λ (z : ℤ). pos 0 ≤ℤ z)
            (sym (cond-true (index == column) (step *ℤ whole tableau.rows) (pos 0) (eq-eqb index column here)))
            (mul_not_negative step (whole tableau.rows) h
            (positive_low (whole tableau.rows) (whole_positive tableau.rows sound.pivotal)))
        | inr elsewhere ↦ zero_low (ray tableau.rows column step index)
            (cond-false (index == column) (step *ℤ whole tableau.rows) (pos 0) (ne_eqb index column elsewhere))
      ]

  index_not_negative : pos 0 ≤ℤ step → All (λ row. pos 0 ≤ℤ rest column step row) tableau.rows → (index : ℕ)
      → pos 0 ≤ℤ corner tableau.rows column step (suc index)
  unfolding corner
  index_not_negative h k index =
      sum_not_negative (part tableau.rows column step index) (ray tableau.rows column step index)
      (part_not_negative k index) (ray_not_negative h index)

  row_within : pos 0 ≤ℤ step → All (λ row. pos 0 ≤ℤ rest column step row) tableau.rows
      → (index : ℕ) (other : ProgramRow) → index < length program.rows
      → dot (get_or program.rows index other).entries (λ c. corner tableau.rows column step (suc c))
      ≤ℤ ((get_or program.rows index other).bound *ℤ whole tableau.rows)
  unfolding corner
  row_within h k index other less =
      let row : ProgramRow = get_or program.rows index other in
      within_bound row.bound (whole tableau.rows) (dot row.entries (λ c. corner tableau.rows column step (suc c)))
      (corner tableau.rows column step (suc (length row.entries + index)))
      (solved_row program (corner tableau.rows column step)
      (sound.solved_first (corner tableau.rows column step) (corner_solves program tableau sound column step)) index
      other less)
      (index_not_negative h k (length row.entries + index))

  pub corner_feasible : pos 0 ≤ℤ step → All (λ row. pos 0 ≤ℤ rest column step row) tableau.rows
      → IsFeasible program (λ c. corner tableau.rows column step (suc c)) (whole tableau.rows)
  corner_feasible h k = record {
    over = whole_positive tableau.rows sound.pivotal;
    columns = λ index less. index_not_negative h k index;
    rows = row_within h k;
  }

-- ---- no ray

-- what is left of a bound where the entry is not positive
rest_not_negative : (b s e : ℤ) → pos 0 ≤ℤ b → pos 0 ≤ℤ s → e ≤ℤ pos 0 → pos 0 ≤ℤ (b -ℤ s *ℤ e)
rest_not_negative b s e h k l =
    let low : (e *ℤ s) ≤ℤ pos 0 = mul_not_positive e s l k in
    let turned = *ℤ_comm s e in
    omega (arith, ints)

-- along a column with a negative cost the objective grows by at least one a step
grown : (v r s : ℤ) → r <ℤ pos 0 → pos 0 ≤ℤ s → (v +ℤ s) ≤ℤ (v -ℤ r *ℤ s)
grown v r s h k =
    let low : pos 0 ≤ℤ (neg_ℤ r -ℤ pos 1) = omega (arith, ints) in
    let gain : pos 0 ≤ℤ ((neg_ℤ r -ℤ pos 1) *ℤ s) = mul_not_negative (neg_ℤ r -ℤ pos 1) s low k in
    let split = mul-sub_right (neg_ℤ r) (pos 1) s in
    let turned : neg_ℤ r *ℤ s ≡ neg_ℤ (r *ℤ s) = *ℤ_comm (neg_ℤ r) s ∙ mul-neg_right s r ∙ ap neg_ℤ (*ℤ_comm s r) in
    let one : pos 1 *ℤ s ≡ s = *ℤ_comm (pos 1) s ∙ mul-one s in
    omega (arith, ints)

past_every_limit : (v l : ℤ) → (v +ℤ pos (unsigned_abs l + unsigned_abs v + 1)) ≤ℤ l → ⊥
past_every_limit v l h = omega (arith, ints)

-- (v - r * s) * w from v * w - r * (s * w)
factored : (v r s w : ℤ) → v *ℤ w -ℤ r *ℤ (s *ℤ w) ≡ (v -ℤ r *ℤ s) *ℤ w
factored v r s w = ap (λ (z : ℤ). v *ℤ w -ℤ z) (sym (mul_assoc r s w)) ∙ sym (mul-sub_right v (r *ℤ s) w)

limited : (k c v r s w l : ℤ) → pos 0 <ℤ k → pos 0 <ℤ w → k *ℤ c ≡ v *ℤ w -ℤ r *ℤ (s *ℤ w) → c ≤ℤ (l *ℤ w)
    → (v -ℤ r *ℤ s) ≤ℤ (l *ℤ k)
limited k c v r s w l some more e h =
    let scaled : (c *ℤ k) ≤ℤ (l *ℤ w *ℤ k) = le-mul_right c (l *ℤ w) k h (positive_low k some) in
    let left : c *ℤ k ≡ (v -ℤ r *ℤ s) *ℤ w = *ℤ_comm c k ∙ e ∙ factored v r s w in
    let right : l *ℤ w *ℤ k ≡ l *ℤ k *ℤ w = mul_assoc l w k ∙ ap (λ (z : ℤ). l *ℤ z) (*ℤ_comm w k)
    ∙ sym (mul_assoc l k w) in
    le_from_mul (v -ℤ r *ℤ s) (l *ℤ k) w
    (subst (λ (z : ℤ). z ≤ℤ (l *ℤ k *ℤ w)) left (subst (λ (z : ℤ). (c *ℤ k) ≤ℤ z) right scaled)) more

-- where the program is bounded, some row stops each entering column
pub no_ray : (program : Program) (tableau : Tableau) (column : ℕ) → IsSound program tableau → IsBounded program
    → entering tableau ≡ Some column → leaving tableau column ≡ None → ⊥
no_ray program tableau column sound bounded enters stops =
    let limit : ℤ = bounded.0 *ℤ scale tableau in
    let step : ℤ = pos (unsigned_abs limit + unsigned_abs (value tableau) + 1) in
    let forward : pos 0 ≤ℤ step = counted (unsigned_abs limit + unsigned_abs (value tableau) + 1) in
    let left : All (λ row. pos 0 ≤ℤ rest column step row) tableau.rows =
    λ index other less. rest_not_negative _ step _ (sound.bounds index other less) forward
    (leaving_none tableau column stops index other less) in
    let most = bounded.1 (λ c. corner tableau.rows column step (suc c)) (whole tableau.rows)
    (corner_feasible program tableau sound column step forward left) in
    let reached : (value tableau -ℤ reduced_cost tableau column *ℤ step) ≤ℤ limit =
    limited (scale tableau) (dot program.costs (λ c. corner tableau.rows column step (suc c))) (value tableau)
    (reduced_cost tableau column) step (whole tableau.rows) bounded.0 sound.scaled
    (whole_positive tableau.rows sound.pivotal) (corner_objective program tableau sound column step) most in
    let more = grown (value tableau) (reduced_cost tableau column) step
    (entering_is_column program tableau column sound enters).1 forward in
    past_every_limit (value tableau) limit (through (value tableau +ℤ step) _ limit more reached)
  where
    counted : (n : ℕ) → pos 0 ≤ℤ pos n
    counted n = omega (arith, ints)

    through : (a b c : ℤ) → a ≤ℤ b → b ≤ℤ c → a ≤ℤ c
    through a b c h k = omega (arith, ints)
