-- A program whose rows are formed one by one is well formed (`all_formed`).
use Rattle.std.proofs.Common.{◌≡◌, inl, inr, ℕ, ◌+◌, ◌<◌, ◌≤◌, List, length, get_or, subst, sym, arith}
use Rattle.std.specs.Prelude.{ℤ, pos, ◌≤ℤ◌, All}
use Rattle.std.proofs.lemmas.Bool.{cases_eq}
use Rattle.std.proofs.lemmas.List.{get_or_default}
use Rattle.std.proofs.lemmas.List.FromFn.{length-map-range_with_len}
use Rattle.std.proofs.lemmas.List.Elements.{All-map}
use Rattle.suit_num.specs.Narrow.{IsNarrow}
use Rattle.suit_linear.specs.Points.{number_at}
use Rattle.suit_linear.specs.Programs.{IsWellFormed}
use Rattle.suit_linear.specs.Sparse.{dense, dense_entries, dense_row, sum_in}
use Rattle.suit_linear.specs.declared.program.ProgramRow.{ProgramRow}
use Rattle.suit_linear.specs.declared.sparse.SparseRow.{SparseRow}
use Rattle.suit_linear.specs.declared.sparse.SparseProgram.{SparseProgram}
use Rattle.suit_linear_runs.specs.Rows.{IsFormedRow}

-- ---- narrow numbers

-- the first numbers are narrow, so many of them
pub record AreNarrow (count : ℕ) (numbers : List ℤ) : Type 0 where
  pub each : (index : ℕ) → index < count → IsNarrow (number_at numbers index)

pub none_narrow : (numbers : List ℤ) → AreNarrow 0 numbers
none_narrow numbers = record { each = λ index less. absurd (omega arith) }

pub more_narrow : (numbers : List ℤ) (count : ℕ) → IsNarrow (number_at numbers count) → AreNarrow count numbers
    → AreNarrow (count + 1) numbers
more_narrow numbers count one h = record {
  each = λ index less. elim (cases_eq index count) [
    | inl here ↦ subst (λ (n : ℕ). IsNarrow (number_at numbers n)) (sym here) one
    | inr differs ↦ h.each index (omega (arith, differs))
  ];
}

pub all_narrow : (numbers : List ℤ) (count : ℕ) → length numbers ≤ count → AreNarrow count numbers
    → All IsNarrow numbers
all_narrow numbers count past h = λ index other less.
    subst IsNarrow (get_or_default numbers index (pos 0) other less) (h.each index (omega arith))

-- ---- formed rows

pub row_formed : (columns : ℕ) (row : SparseRow) → pos 0 ≤ℤ row.bound → IsNarrow row.bound
    → All IsNarrow (dense_entries columns row.entries) → IsFormedRow columns (dense_row columns row)
row_formed columns row positive narrow entries = record {
  bound = positive;
  width = length-map-range_with_len (sum_in row.entries) 0 columns;
  narrow_entries = entries;
  narrow_bound = narrow;
}

-- the first rows are formed, so many of them
pub record AreFormed (columns count : ℕ) (rows : List SparseRow) : Type 0 where
  pub each : (index : ℕ) (other : SparseRow) → index < count → index < length rows
      → IsFormedRow columns (dense_row columns (get_or rows index other))

pub none_formed : (columns : ℕ) (rows : List SparseRow) → AreFormed columns 0 rows
none_formed columns rows = record { each = λ index other less within. absurd (omega arith) }

pub more_formed : (columns count : ℕ) (rows : List SparseRow) (first : SparseRow)
    → IsFormedRow columns (dense_row columns (get_or rows count first)) → AreFormed columns count rows
    → AreFormed columns (count + 1) rows
more_formed columns count rows first one h = record {
  each = λ index other less within. elim (cases_eq index count) [
    | inl here ↦
        subst (λ (row : SparseRow). IsFormedRow columns (dense_row columns row))
        (get_or_default rows index first other within)
        (subst (λ (n : ℕ). IsFormedRow columns (dense_row columns (get_or rows n first))) (sym here) one)
    | inr differs ↦ h.each index other (omega (arith, differs)) within
  ];
}

pub all_formed : (program : SparseProgram) (count : ℕ) → All IsNarrow program.costs
    → length program.rows ≤ count → AreFormed (length program.costs) count program.rows
    → IsWellFormed (dense program)
all_formed program count costs past h =
    let columns : ℕ = length program.costs in
    let row : SparseRow → ProgramRow = dense_row columns in
    record {
      bounds = All-map (λ (r : ProgramRow). pos 0 ≤ℤ r.bound) row program.rows
          (λ index other less. (h.each index other (omega arith) less).bound);
      widths = All-map (λ (r : ProgramRow). length r.entries ≡ columns) row program.rows
          (λ index other less. (h.each index other (omega arith) less).width);
      narrow_costs = costs;
      narrow_entries = All-map (λ (r : ProgramRow). All IsNarrow r.entries) row program.rows
          (λ index other less. (h.each index other (omega arith) less).narrow_entries);
      narrow_bounds = All-map (λ (r : ProgramRow). IsNarrow r.bound) row program.rows
          (λ index other less. (h.each index other (omega arith) less).narrow_bound);
    }
