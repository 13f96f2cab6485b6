-- The programs of the tests are well formed and bounded (`two_columns_bounded`, `scattered_formed`).
use Rattle.std.proofs.Common.{rules, ◌≡◌, ◌^◌, [], ◌∷◌, arith, lit<, refl, subst, sym}
use Rattle.std.specs.Prelude.{pos, negsuc, ◌*ℤ◌, ◌+ℤ◌, ◌≤ℤ◌}
use Rattle.std.proofs.lemmas.Int.{ints}
use borrow.Author.Differences.{product_is}
use Rattle.suit_linear.specs.Points.{dot}
use Rattle.suit_linear.specs.Programs.{IsBounded, IsWellFormed}
use Rattle.suit_linear.specs.Sparse.{dense, sum_in}
use Rattle.suit_linear.specs.declared.program.Program.{Program}
use Rattle.suit_simplex.specs.Examples.{two_columns, one_wide_row, two_wide_rows, nothing_gained, tied, row_of}
use Rattle.suit_base_tests.specs.SparsePrograms.{scattered_columns, one_wide_bound}

pub two_columns_bounded : IsBounded two_columns
unfolding dot
two_columns_bounded = (
  pos 12,
  λ point den feasible.
      let first : (pos 1 *ℤ point 0 +ℤ (pos 1 *ℤ point 1 +ℤ pos 0)) ≤ℤ (pos 4 *ℤ den) =
      feasible.rows 0 (record { entries = []; bound = pos 0 }) (lit< tt) in
      let x : pos 0 ≤ℤ point 0 = feasible.columns 0 (lit< tt) in
      let y : pos 0 ≤ℤ point 1 = feasible.columns 1 (lit< tt) in
      omega (
        arith,
        ints,
        product_is (pos 3) (point 0),
        product_is (pos 2) (point 1),
        product_is (pos 1) (point 0),
        product_is (pos 1) (point 1),
        product_is (pos 4) den,
        product_is (pos 12) den,
      ),
)

pub two_wide_rows_bounded : IsBounded two_wide_rows
unfolding dot
two_wide_rows_bounded = (
  pos (2 ^ 100),
  λ point den feasible.
      let first : (pos (2 ^ 100) *ℤ point 0 +ℤ pos 0) ≤ℤ (pos (2 ^ 100) *ℤ den) =
      feasible.rows 0 (record { entries = []; bound = pos 0 }) (lit< tt) in
      let x : pos 0 ≤ℤ point 0 = feasible.columns 0 (lit< tt) in
      omega (
        arith,
        ints,
        product_is (pos 1) (point 0),
        product_is (pos (2 ^ 100)) (point 0),
        product_is (pos (2 ^ 100)) den,
      ),
)

pub one_wide_row_bounded : IsBounded one_wide_row
unfolding dot
one_wide_row_bounded = (
  pos (2 ^ 100),
  λ point den feasible.
      let first : (pos (2 ^ 100) *ℤ point 0 +ℤ pos 0) ≤ℤ (pos (2 ^ 100) *ℤ den) =
      feasible.rows 0 (record { entries = []; bound = pos 0 }) (lit< tt) in
      let x : pos 0 ≤ℤ point 0 = feasible.columns 0 (lit< tt) in
      omega (
        arith,
        ints,
        product_is (pos 1) (point 0),
        product_is (pos (2 ^ 100)) (point 0),
        product_is (pos (2 ^ 100)) den,
      ),
)

pub nothing_gained_bounded : IsBounded nothing_gained
unfolding dot
nothing_gained_bounded = (
  pos 0,
  λ point den feasible.
      let y : pos 0 ≤ℤ point 1 = feasible.columns 1 (lit< tt) in
      omega (arith, ints, product_is (pos 0) (point 0), product_is (negsuc 0) (point 1), product_is (pos 0) den),
)

pub tied_bounded : IsBounded tied
unfolding dot
tied_bounded = (
  pos 0,
  λ point den feasible.
      let second : (pos 2 *ℤ point 0 +ℤ (pos 1 *ℤ point 1 +ℤ pos 0)) ≤ℤ (pos 0 *ℤ den) =
      feasible.rows 1 (record { entries = []; bound = pos 0 }) (lit< tt) in
      let x : pos 0 ≤ℤ point 0 = feasible.columns 0 (lit< tt) in
      let y : pos 0 ≤ℤ point 1 = feasible.columns 1 (lit< tt) in
      omega (
        arith,
        ints,
        product_is (pos 1) (point 0),
        product_is (pos 1) (point 1),
        product_is (pos 2) (point 0),
        product_is (pos 0) den,
      ),
)

scattered_dense : dense scattered_columns ≡ two_columns
unfolding sum_in
scattered_dense = refl

pub scattered_bounded : IsBounded (dense scattered_columns)
scattered_bounded = subst IsBounded (sym scattered_dense) two_columns_bounded

two_columns_formed : IsWellFormed two_columns
two_columns_formed = search rules

pub scattered_formed : IsWellFormed (dense scattered_columns)
scattered_formed = subst IsWellFormed (sym scattered_dense) two_columns_formed

-- the program of the wide bound with an entry for each column
abbrev wide_dense : Program
wide_dense = record { costs = pos 1 ∷ []; rows = row_of (pos 1 ∷ []) (pos (2 ^ 100)) ∷ [] }

wide_is_dense : dense one_wide_bound ≡ wide_dense
unfolding sum_in
wide_is_dense = refl

wide_dense_bounded : IsBounded wide_dense
unfolding dot
wide_dense_bounded = (
  pos (2 ^ 100),
  λ point den feasible.
      let first : (pos 1 *ℤ point 0 +ℤ pos 0) ≤ℤ (pos (2 ^ 100) *ℤ den) =
      feasible.rows 0 (record { entries = []; bound = pos 0 }) (lit< tt) in
      omega (arith, ints, product_is (pos 1) (point 0), product_is (pos (2 ^ 100)) den),
)

pub wide_bounded : IsBounded (dense one_wide_bound)
wide_bounded = subst IsBounded (sym wide_is_dense) wide_dense_bounded

wide_dense_formed : IsWellFormed wide_dense
wide_dense_formed = search rules

pub wide_formed : IsWellFormed (dense one_wide_bound)
wide_formed = subst IsWellFormed (sym wide_is_dense) wide_dense_formed
