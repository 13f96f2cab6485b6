-- At feasible prices the objective of a point is at most what the rows come to (`prices_outweigh`).
use Rattle.std.proofs.Common.{◌≡◌, ℕ, zero, suc, ◌<◌, List, [], ◌∷◌, length, map, All, refl, sym, ap, ◌∙◌}
use Rattle.std.proofs.Common.{subst, arith}
use Rattle.std.specs.Prelude.{ℤ, pos, ◌+ℤ◌, ◌*ℤ◌, ◌≤ℤ◌}
use Rattle.std.specs.List.{range_with_len}
use Rattle.std.proofs.lemmas.Int.{ints}
use Rattle.std.proofs.lemmas.List.Elements.{All-head, All-tail}
use Rattle.std.proofs.lemmas.List.FromFn.{fill_by_all, get_or-map-range_with_len, length-map-range_with_len}
use Rattle.std.proofs.Math.IntN.{zero-*ℤ}
use Rattle.suit_num.proofs.IntegerLaws.{mul_assoc, mul-add_left, mul-add_right, le-mul_right}
use Rattle.suit_linear.specs.declared.program.Program.{Program}
use Rattle.suit_linear.specs.declared.program.ProgramRow.{ProgramRow}
use Rattle.suit_linear.specs.Points.{number_at, dot}
use Rattle.suit_linear.specs.Programs.{IsDualFeasible, column_entries}
use Rattle.suit_linear.specs.Laws.{priced_columns}
use Rattle.suit_linear.proofs.DotProducts.{dot_zero}
use Rattle.suit_linear.proofs.Signs.{times_zero}

-- ---- sums of lists that are made by a function

nothing_made : (columns : List ℕ) (given : ℕ → ℤ) → dot (map (λ column. pos 0) columns) given ≡ pos 0
unfolding dot
nothing_made [] given = refl
nothing_made (column ∷ columns) given =
    let rest = nothing_made columns (λ index. given (suc index)) in
    let none = zero-*ℤ (given 0) in
    omega (arith, ints)

combined_step : (a f g p d e : ℤ) → (a *ℤ f +ℤ g) *ℤ p +ℤ (a *ℤ d +ℤ e) ≡ a *ℤ (f *ℤ p +ℤ d) +ℤ (g *ℤ p +ℤ e)
combined_step a f g p d e =
    let split = mul-add_right (a *ℤ f) g p in
    let first = mul_assoc a f p in
    let whole = mul-add_left a (f *ℤ p) d in
    omega (arith, ints)

made_combined : (a : ℤ) (f g : ℕ → ℤ) (columns : List ℕ) (given : ℕ → ℤ)
    → dot (map (λ column. a *ℤ f column +ℤ g column) columns) given
    ≡ a *ℤ dot (map f columns) given +ℤ dot (map g columns) given
unfolding dot
made_combined a f g [] given = let none = times_zero a (pos 0) refl in omega (arith, ints)
made_combined a f g (column ∷ columns) given =
    ap (λ (z : ℤ). (a *ℤ f column +ℤ g column) *ℤ given 0 +ℤ z)
    (made_combined a f g columns (λ index. given (suc index)))
    ∙ combined_step a (f column) (g column) (given 0) (dot (map f columns) (λ index. given (suc index)))
    (dot (map g columns) (λ index. given (suc index)))

-- ---- the exchange

module _ (columns : ℕ) (point : ℕ → ℤ) where
  no_prices : (rows : List ProgramRow) → dot (priced_columns columns [] rows) point ≡ pos 0
  unfolding dot
  no_prices rows = nothing_made (range_with_len 0 columns) point

  no_rows : (prices : List ℤ) → dot (priced_columns columns prices []) point ≡ pos 0
  no_rows prices =
      dot_zero (priced_columns columns prices []) point
      (λ index. by_index index)
    where
      nothing : (xs : List ℤ) → dot xs (λ index. number_at [] index) ≡ pos 0
      nothing xs = dot_zero xs (λ index. pos 0) (λ index. times_zero (number_at xs index) (pos 0) refl)

      zeros : priced_columns columns prices [] ≡ map (λ column. pos 0) (range_with_len 0 columns)
      zeros = ap (λ (z : ℤ). map (λ (column : ℕ). z) (range_with_len 0 columns)) (nothing prices)

      none : (cs : List ℕ) (index : ℕ) → number_at (map (λ column. pos 0) cs) index ≡ pos 0
      none [] index = refl
      none (c ∷ cs) zero = refl
      none (c ∷ cs) (suc index) = none cs index

      by_index : (index : ℕ) → number_at (priced_columns columns prices []) index *ℤ point index ≡ pos 0
      by_index index =
          ap (λ (xs : List ℤ). number_at xs index *ℤ point index) zeros
          ∙ ap (λ (z : ℤ). z *ℤ point index) (none (range_with_len 0 columns) index)
          ∙ zero-*ℤ (point index)

  whole_row : (row : ProgramRow) → length row.entries ≡ columns
      → map (number_at row.entries) (range_with_len 0 columns) ≡ row.entries
  whole_row row width = sym (fill_by_all (number_at row.entries) row.entries columns (pos 0) width
      (λ column less. refl))

  pub sums_exchanged : (prices : List ℤ) (rows : List ProgramRow) → All (λ row. length row.entries ≡ columns) rows
      → dot prices (number_at (map (λ row. dot row.entries point) rows)) ≡ dot (priced_columns columns prices rows)
      point
  unfolding dot
  sums_exchanged [] rows widths = sym (no_prices rows)
  sums_exchanged (price ∷ prices) [] widths =
      dot_zero (price ∷ prices) (number_at []) (λ index. times_zero (number_at (price ∷ prices) index) (pos 0) refl)
      ∙ sym (no_rows (price ∷ prices))
  sums_exchanged (price ∷ prices) (row ∷ rows) widths =
      let P : ProgramRow → Type 0 = λ r. length r.entries ≡ columns in
      ap (λ (z : ℤ). price *ℤ dot row.entries point +ℤ z) (sums_exchanged prices rows (All-tail P row rows widths))
      ∙ ap (λ (xs : List ℤ). price *ℤ dot xs point +ℤ dot (priced_columns columns prices rows) point)
      (sym (whole_row row (All-head P row rows widths)))
      ∙ sym (made_combined price (number_at row.entries)
      (λ column. dot prices (number_at (column_entries rows column))) (range_with_len 0 columns) point)

-- ---- the inequality

le_step : (k x y p d e : ℤ) → (k *ℤ x) ≤ℤ y → pos 0 ≤ℤ p → (k *ℤ d) ≤ℤ e → (k *ℤ (x *ℤ p +ℤ d)) ≤ℤ (y *ℤ p +ℤ e)
le_step k x y p d e h low rest =
    let first = le-mul_right (k *ℤ x) y p h low in
    let grouped = mul_assoc k x p in
    let split = mul-add_left k (x *ℤ p) d in
    omega (arith, ints)

dot_le : (k : ℤ) (xs ys : List ℤ) (given : ℕ → ℤ) → length xs ≡ length ys
    → ((index : ℕ) → index < length xs → (k *ℤ number_at xs index) ≤ℤ number_at ys index)
    → ((index : ℕ) → index < length xs → pos 0 ≤ℤ given index) → (k *ℤ dot xs given) ≤ℤ dot ys given
unfolding dot
dot_le k [] [] given same h low = let none = times_zero k (pos 0) refl in omega (arith, ints)
dot_le k [] (y ∷ ys) given same h low = absurd (omega arith)
dot_le k (x ∷ xs) [] given same h low = absurd (omega arith)
dot_le k (x ∷ xs) (y ∷ ys) given same h low =
    le_step k x y (given 0) (dot xs (λ index. given (suc index))) (dot ys (λ index. given (suc index)))
    (h 0 (omega arith)) (low 0 (omega arith))
    (dot_le k xs ys (λ index. given (suc index)) (omega arith) (λ index less. h (suc index) (omega arith))
    (λ index less. low (suc index) (omega arith)))

pub prices_outweigh : (program : Program) (prices : List ℤ) (scale : ℤ) (point : ℕ → ℤ)
    → All (λ row. length row.entries ≡ length program.costs) program.rows → IsDualFeasible program prices scale
    → ((column : ℕ) → column < length program.costs → pos 0 ≤ℤ point column)
    → (scale *ℤ dot program.costs point) ≤ℤ dot prices (number_at (map (λ row. dot row.entries point) program.rows))
prices_outweigh program prices scale point widths dual low =
    subst (λ (z : ℤ). (scale *ℤ dot program.costs point) ≤ℤ z)
    (sym (sums_exchanged (length program.costs) point prices program.rows widths))
    (dot_le scale program.costs (priced_columns (length program.costs) prices program.rows) point
    (sym (length-map-range_with_len _ 0 (length program.costs)))
    (λ column less. subst (λ (z : ℤ). (scale *ℤ number_at program.costs column) ≤ℤ z)
    (sym (get_or-map-range_with_len _ 0 (length program.costs) column column (pos 0) less (omega arith)))
    (dual.columns column less)) low)
