-- The prices that are read from a last tableau are feasible, and what the rows cost at them is the tableau's value
-- (`optimum_is_dual`).
use Rattle.std.proofs.Common.{◌≡◌, ℕ, zero, suc, ◌<◌, ◌+◌, List, length, map, take, drop, All, None, refl, sym, ap, ◌∙◌}
use Rattle.std.proofs.Common.{subst, arith}
use Rattle.std.specs.Prelude.{ℤ, pos, negsuc, ◌+ℤ◌, ◌*ℤ◌, ◌≤ℤ◌, ◌<ℤ◌, neg_ℤ}
use Rattle.std.proofs.lemmas.Int.{ints}
use Rattle.std.proofs.lemmas.List.{get_or-map, get_or-take, get_or-drop, drop-drop, length-drop}
use Rattle.std.proofs.lemmas.List.Elements.{All-from_get_or}
use Rattle.suit_linear.specs.declared.program.Program.{Program}
use Rattle.suit_linear.specs.declared.program.ProgramRow.{ProgramRow}
use Rattle.suit_linear.specs.declared.ends.Optimum.{Optimum}
use Rattle.suit_linear.specs.Points.{number_at, dot}
use Rattle.suit_linear.specs.Programs.{IsWellFormed, column_entries}
use Rattle.suit_linear.specs.Tableaus.{Tableau, scale, value, reduced_cost, first_tableau}
use Rattle.suit_linear.specs.Pivots.{entering}
use Rattle.suit_linear.specs.Ends.{IsOptimumOf}
use Rattle.suit_linear.specs.Optima.{IsDualOptimum}
use Rattle.suit_linear.proofs.SoundTableaus.{IsSound, Solves}
use Rattle.suit_linear.proofs.DotProducts.{dot_first, dot_zero, dot-agree, dot-neg, joined, joined_front, joined_back}
use Rattle.suit_linear.proofs.DotProducts.{dot-joined, number_at-drop, unit_at, dot_unit_at}
use Rattle.suit_linear.proofs.FirstTableaus.{IsPlaced, solves_rows}
use Rattle.suit_linear.proofs.EnteringCostIsNegative.{number_at-drop_two, none_enters}
use Rattle.suit_linear.proofs.Signs.{times_zero}

-- ---- what is given to the bound, to the columns and to the slack columns

laid : ℤ → ℕ → (ℕ → ℤ) → (ℕ → ℤ) → ℕ → ℤ
laid first columns front back zero = first
laid first columns front back (suc index) = joined columns front back index

-- it solves the rows where each slack column makes up for its row
laid_solves : (program : Program) (first : ℤ) (front back : ℕ → ℤ) → IsWellFormed program
    → ((index : ℕ) (row : ProgramRow) → IsPlaced program.rows (index, row)
    → row.bound *ℤ first +ℤ (dot row.entries front +ℤ back index) ≡ pos 0)
    → Solves (first_tableau program).rows (laid first (length program.costs) front back)
unfolding laid
laid_solves program first front back well h =
    let columns : ℕ = length program.costs in
    solves_rows program (laid first columns front back)
    (λ index row placed.
    let width : length row.entries ≡ columns = ap (λ (r : ProgramRow). length r.entries) (sym placed.1)
    ∙ well.widths index row placed.0 in
    let entries : dot row.entries (joined columns front back) ≡ dot row.entries front =
    dot-agree row.entries (joined columns front back) front
    (λ other less. joined_front columns front back other (subst (λ (n : ℕ). other < n) width less)) in
    let slack : joined columns front back (length row.entries + index) ≡ back index =
    ap (λ (n : ℕ). joined columns front back (n + index)) width ∙ joined_back columns front back index in
    ap (λ (z : ℤ). row.bound *ℤ first +ℤ (z +ℤ joined columns front back (length row.entries + index))) entries
    ∙ ap (λ (z : ℤ). row.bound *ℤ first +ℤ (dot row.entries front +ℤ z)) slack
    ∙ h index row placed)

-- what the objective row comes to: the value's part, the columns' and the slack columns'
laid_costs : (tableau : Tableau) (first : ℤ) (columns : ℕ) (front back : ℕ → ℤ)
    → dot (drop 1 tableau.objective) (laid first columns front back)
    ≡ value tableau *ℤ first
    +ℤ (dot (take columns (drop 2 tableau.objective)) front +ℤ dot (drop (2 + columns) tableau.objective) back)
unfolding laid
laid_costs tableau first columns front back =
    dot_first (drop 1 tableau.objective) (laid first columns front back)
    ∙ ap (λ (z : ℤ). z *ℤ first +ℤ dot (drop 1 (drop 1 tableau.objective)) (joined columns front back))
    (number_at-drop tableau.objective 0)
    ∙ ap (λ (z : ℤ). value tableau *ℤ first +ℤ z)
    (ap (λ (xs : List ℤ). dot xs (joined columns front back)) (drop-drop 1 1 tableau.objective)
    ∙ dot-joined (drop 2 tableau.objective) columns front back
    ∙ ap (λ (xs : List ℤ). dot (take columns (drop 2 tableau.objective)) front +ℤ dot xs back)
    (drop-drop columns 2 tableau.objective))

laid_point : (program : Program) (first : ℤ) (front back : ℕ → ℤ)
    → dot program.costs (λ column. laid first (length program.costs) front back (suc column)) ≡ dot program.costs front
unfolding laid
laid_point program first front back =
    dot-agree program.costs (joined (length program.costs) front back) front
    (λ index less. joined_front (length program.costs) front back index less)

-- the objective's equation there
laid_objective : (program : Program) (tableau : Tableau) (first : ℤ) (front back : ℕ → ℤ) → IsWellFormed program
    → IsSound program tableau
    → ((index : ℕ) (row : ProgramRow) → IsPlaced program.rows (index, row)
    → row.bound *ℤ first +ℤ (dot row.entries front +ℤ back index) ≡ pos 0)
    → value tableau *ℤ first +ℤ (dot (take (length program.costs) (drop 2 tableau.objective)) front
    +ℤ dot (drop (2 + length program.costs) tableau.objective) back)
    ≡ neg_ℤ (scale tableau *ℤ dot program.costs front)
laid_objective program tableau first front back well sound h =
    sym (laid_costs tableau first (length program.costs) front back)
    ∙ sound.objective (laid first (length program.costs) front back) (laid_solves program first front back well h)
    ∙ ap (λ (z : ℤ). neg_ℤ (scale tableau *ℤ z)) (laid_point program first front back)

-- ---- the numbers of a placed row

placed_entry : (rows : List ProgramRow) (column index : ℕ) (row : ProgramRow) → IsPlaced rows (index, row)
    → number_at (column_entries rows column) index ≡ number_at row.entries column
placed_entry rows column index row placed =
    get_or-map (λ (r : ProgramRow). number_at r.entries column) rows index row (pos 0) placed.0
    ∙ ap (λ (r : ProgramRow). number_at r.entries column) placed.1

placed_bound : (rows : List ProgramRow) (index : ℕ) (row : ProgramRow) → IsPlaced rows (index, row)
    → number_at (map (λ r. r.bound) rows) index ≡ row.bound
placed_bound rows index row placed = get_or-map (λ (r : ProgramRow). r.bound) rows index row (pos 0) placed.0
    ∙ ap (λ (r : ProgramRow). r.bound) placed.1

made_up : (b d a c : ℤ) → d ≡ a → c ≡ a → b *ℤ pos 0 +ℤ (d +ℤ neg_ℤ c) ≡ pos 0
made_up b d a c h k = omega (arith, ints)

price_step : (v r d s t : ℤ) → v *ℤ pos 0 +ℤ (r +ℤ neg_ℤ d) ≡ neg_ℤ s → r ≡ t → pos 0 ≤ℤ t → s ≤ℤ d
price_step v r d s t h k l = omega (arith, ints)

bound_made_up : (b d c : ℤ) → d ≡ pos 0 → c ≡ b → b *ℤ negsuc 0 +ℤ (d +ℤ c) ≡ pos 0
bound_made_up b d c h k = omega (arith, ints)

value_step : (v r d s c : ℤ) → v *ℤ negsuc 0 +ℤ (r +ℤ d) ≡ neg_ℤ (s *ℤ c) → r ≡ pos 0 → c ≡ pos 0 → d ≡ v
value_step v r d s c h k l = let none = times_zero s c l in omega (arith, ints)

dot_nothing : (xs : List ℤ) → dot xs (λ index. pos 0) ≡ pos 0
dot_nothing xs = dot_zero xs (λ index. pos 0) (λ index. times_zero (number_at xs index) (pos 0) refl)

module _ (program : Program) (tableau : Tableau) (well : IsWellFormed program) (sound : IsSound program tableau) where
  duals_count : length (drop (2 + length program.costs) tableau.objective) ≡ length program.rows
  duals_count = omega (arith, length-drop (2 + length program.costs) tableau.objective, sound.objective_width)

  -- a last tableau's prices are not negative
  duals_not_negative : entering tableau ≡ None
      → All (λ price. pos 0 ≤ℤ price) (drop (2 + length program.costs) tableau.objective)
  duals_not_negative last =
      All-from_get_or (λ (price : ℤ). pos 0 ≤ℤ price) (drop (2 + length program.costs) tableau.objective) (pos 0)
      (λ index less.
      let where_it_is : 2 + length program.costs + index ≡ suc (suc (length program.costs + index)) = omega arith in
      subst (λ (z : ℤ). pos 0 ≤ℤ z) (sym (get_or-drop (2 + length program.costs) tableau.objective index (pos 0)
      ∙ ap (number_at tableau.objective) where_it_is))
      (none_enters tableau last (length program.costs + index)))

  -- a column costs at least what it adds to the objective
  column_priced : entering tableau ≡ None → (column : ℕ) → column < length program.costs
      → (scale tableau *ℤ number_at program.costs column)
      ≤ℤ dot (drop (2 + length program.costs) tableau.objective) (number_at (column_entries program.rows column))
  column_priced last column less =
      let prices : List ℤ = drop (2 + length program.costs) tableau.objective in
      let used : ℕ → ℤ = number_at (column_entries program.rows column) in
      let equation = laid_objective program tableau (pos 0) (unit_at column) (λ index. neg_ℤ (used index)) well sound
      (λ index row placed. made_up row.bound (dot row.entries (unit_at column)) (number_at row.entries column)
      (used index) (dot_unit_at row.entries column) (placed_entry program.rows column index row placed)) in
      let reduced : number_at (take (length program.costs) (drop 2 tableau.objective)) column
      ≡ reduced_cost tableau column =
      get_or-take (length program.costs) (drop 2 tableau.objective) column (pos 0) less
      ∙ number_at-drop_two tableau.objective column in
      price_step (value tableau) (dot (take (length program.costs) (drop 2 tableau.objective)) (unit_at column))
      (dot prices used) (scale tableau *ℤ number_at program.costs column) (reduced_cost tableau column)
      (ap (λ (z : ℤ). value tableau *ℤ pos 0
      +ℤ (dot (take (length program.costs) (drop 2 tableau.objective)) (unit_at column) +ℤ z))
      (sym (dot-neg prices used))
      ∙ equation
      ∙ ap (λ (z : ℤ). neg_ℤ (scale tableau *ℤ z)) (dot_unit_at program.costs column))
      (dot_unit_at (take (length program.costs) (drop 2 tableau.objective)) column
      ∙ reduced) (none_enters tableau last column)

  -- what the rows cost is the value
  rows_cost : dot (drop (2 + length program.costs) tableau.objective) (number_at (map (λ row. row.bound) program.rows))
      ≡ value tableau
  rows_cost =
      let bounds : ℕ → ℤ = number_at (map (λ row. row.bound) program.rows) in
      value_step (value tableau) (dot (take (length program.costs) (drop 2 tableau.objective)) (λ index. pos 0))
      (dot (drop (2 + length program.costs) tableau.objective) bounds) (scale tableau)
      (dot program.costs (λ index. pos 0))
      (laid_objective program tableau (negsuc 0) (λ index. pos 0) bounds well sound
      (λ index row placed. bound_made_up row.bound (dot row.entries (λ other. pos 0)) (bounds index)
      (dot_nothing row.entries) (placed_bound program.rows index row placed)))
      (dot_nothing (take (length program.costs) (drop 2 tableau.objective))) (dot_nothing program.costs)

-- the prices are feasible, and the rows cost value / scale at them
pub optimum_is_dual : (program : Program) (tableau : Tableau) (optimum : Optimum) → IsWellFormed program
    → IsSound program tableau → entering tableau ≡ None → IsOptimumOf program tableau optimum
    → IsDualOptimum program optimum
optimum_is_dual program tableau optimum well sound last is = (
  record {
    over = subst (λ (z : ℤ). pos 0 <ℤ z) (sym is.scale) sound.scaled;
    count = ap (λ (xs : List ℤ). length xs) is.duals ∙ duals_count program tableau well sound;
    rows = subst (All (λ price. pos 0 ≤ℤ price)) (sym is.duals) (duals_not_negative program tableau well sound last);
    columns = λ column less.
        let priced = column_priced program tableau well sound last column less in
        subst (λ (xs : List ℤ). (optimum.scale *ℤ number_at program.costs column)
        ≤ℤ dot xs (number_at (column_entries program.rows column))) (sym is.duals)
        (subst (λ (z : ℤ). (z *ℤ number_at program.costs column)
        ≤ℤ dot (drop (2 + length program.costs) tableau.objective) (number_at (column_entries program.rows column)))
        (sym is.scale) priced);
  },
  ap (λ (xs : List ℤ). dot xs (number_at (map (λ row. row.bound) program.rows))) is.duals
      ∙ rows_cost program tableau well sound ∙ sym is.value,
)
