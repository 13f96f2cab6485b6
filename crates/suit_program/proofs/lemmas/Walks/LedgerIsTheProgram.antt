-- A whole ledger tells the program (`ledger_tells`).
use Rattle.std.proofs.Common.{◌≡◌, ℕ, suc, ◌<◌, ◌≤◌, List, [], ◌∷◌, length, get_or, map, refl, sym, ap, ◌∙◌, arith}
use Rattle.std.proofs.Common.{Vec, Global}
use Rattle.std.specs.Prelude.{◌==◌, ℤ, pos, ◌+ℤ◌}
use Rattle.std.specs.List.{remove}
use Rattle.std.proofs.lemmas.Bool.{cond-false, cond-true, eq-eqb, ne_eqb}
use Rattle.std.proofs.lemmas.Int.{ints}
use Rattle.std.proofs.lemmas.List.{length-map}
use Rattle.suit_lists.proofs.Indices.{maps_same}
use Rattle.suit_lists.proofs.Maps.{map_twice}
use Rattle.suit_game.specs.declared.question.Question.{Question}
use Rattle.suit_linear.specs.declared.program.ProgramRow.{ProgramRow}
use Rattle.suit_linear.specs.declared.sparse.Entry.{Entry}
use Rattle.suit_linear.specs.declared.sparse.SparseRow.{SparseRow}
use Rattle.suit_linear.specs.Sparse.{dense, dense_entries, dense_row}
use Rattle.suit_program.specs.declared.walks.ledger.Ledger.{Ledger}
use Rattle.suit_program.specs.Walks.LedgerOf.{IsLedgerOf, ONE, sparse_row}
use Rattle.suit_game.specs.declared.limits.TheConstants.{MOST_SUPPORT}
use Rattle.suit_program.specs.Walks.Ledgers.{entries_of}
use Rattle.suit_program.specs.Programs.Points.{unit_point}
use Rattle.suit_program.specs.Programs.{Limit, columns, excess, limits, program_of, row_of, size_of}
use Rattle.suit_program.specs.Supports.{Support}
use Rattle.suit_program.specs.Walks.Writing.{told}
use Rattle.suit_program.specs.Programs.Worths.{objective_at}
use Rattle.suit_program.proofs.lemmas.Programs.ToldByPoints.{Tells, costs_told, row_told, row_value, told_at}
use Rattle.suit_program.proofs.lemmas.Programs.ToldByPoints.{told_before}

nothing_before : (x : ℤ) → pos 0 +ℤ x ≡ x
nothing_before x = omega (arith, ints)

nothing_after : (x : ℤ) → x +ℤ pos 0 ≡ x
nothing_after x = omega (arith, ints)

module _ (question : Question) (support : Support) (ledger : Ledger) (past : length (columns question support) ≤ ONE)
    (is : IsLedgerOf question support ledger) where
  -- the first row tells the objective
  objective_told : Tells question support ONE past (entries_of ledger.postings.items 0) (objective_at question support)
  objective_told = λ point given are one.
      let number : Limit → ℤ = excess question support point in
      sym (row_value ledger given 0)
      ∙ is.values point given are one 0
      ∙ ap (λ (z : ℤ). z +ℤ told number 1 (limits question support) 0)
      (cond-true (0 == 0) (objective_at question support point) (pos 0) (eq-eqb 0 0 refl))
      ∙ ap (λ (z : ℤ). objective_at question support point +ℤ z)
      (told_before number (limits question support) 1 0 (omega arith))
      ∙ nothing_after (objective_at question support point)

  -- and each other row its limit
  limit_told : (index : ℕ) (limit : Limit) → index < length (limits question support)
      → Tells question support ONE past (entries_of ledger.postings.items (suc index))
      (λ point. excess question support point (get_or (limits question support) index limit))
  limit_told index limit below = λ point given are one.
      let number : Limit → ℤ = excess question support point in
      sym (row_value ledger given (suc index))
      ∙ is.values point given are one (suc index)
      ∙ ap (λ (z : ℤ). z +ℤ told number 1 (limits question support) (suc index))
      (cond-false (0 == suc index) (objective_at question support point) (pos 0)
      (ne_eqb 0 (suc index) (λ (e : 0 ≡ suc index). omega (arith, e))))
      ∙ nothing_before (told number 1 (limits question support) (suc index))
      ∙ ap (told number 1 (limits question support)) (omega arith)
      ∙ told_at number (limits question support) 1 index limit below

-- the columns have numbers below that of the number 1
pub few_columns : (question : Question) (support : Support) → size_of question support ≤ MOST_SUPPORT
    → length (columns question support) ≤ ONE
unfolding size_of
few_columns question support few = omega (arith, few)

-- a ledger whose entries stand by row tells the program
pub ledger_tells : (question : Question) (support : Support) (ledger : Ledger) → IsLedgerOf question support ledger
    → length (columns question support) ≤ ONE
    → (lists : List (Vec Entry Global)) → length lists ≡ ledger.rows
    → ((row : ℕ) (other : Vec Entry Global) → row < ledger.rows
    → (get_or lists row other).items ≡ entries_of ledger.postings.items row)
    → (costs : List ℤ) (rows : List SparseRow) (objective : Vec Entry Global)
    → costs ≡ dense_entries ledger.columns (get_or lists 0 objective).items
    → rows ≡ map (λ (entries : Vec Entry Global). sparse_row entries.items) (remove lists 0)
    → dense (record { costs = costs; rows = rows }) ≡ program_of question support
unfolding program_of
ledger_tells question support ledger is past [] same each costs rows objective costs_are rows_are =
    absurd (omega (arith, same, is.rows))
ledger_tells question support ledger is past (first ∷ lists) same each costs rows objective costs_are rows_are =
    let told_costs : costs ≡ (program_of question support).costs =
    costs_are
    ∙ ap (λ (n : ℕ). dense_entries n first.items) is.columns
    ∙ ap (dense_entries (length (columns question support))) (each 0 objective (omega (arith, is.rows)))
    ∙ costs_told question support ONE past (entries_of ledger.postings.items 0)
    (objective_told question support ledger past is) in
    let wide : length costs ≡ length (columns question support) =
    ap (λ (l : List ℤ). length l) told_costs ∙ length-map (columns question support)
    (λ column. objective_at question support (unit_point column)) in
    let row : (index : ℕ) (list : Vec Entry Global) (limit : Limit) → index < length lists
    → dense_row (length (columns question support)) (sparse_row (get_or lists index list).items)
    ≡ row_of question support (columns question support) (get_or (limits question support) index limit) =
    λ index list limit below.
    ap (λ (l : List Entry). dense_row (length (columns question support)) (sparse_row l))
    (each (suc index) list (omega (arith, below, same)))
    ∙ row_told question support ONE past (entries_of ledger.postings.items (suc index))
    (get_or (limits question support) index limit)
    (limit_told question support ledger past is index limit (omega (arith, below, same, is.rows))) in
    let told_rows : map (dense_row (length costs)) rows
    ≡ map (row_of question support (columns question support)) (limits question support) =
    ap (λ (n : ℕ). map (dense_row n) rows) wide
    ∙ ap (map (dense_row (length (columns question support)))) rows_are
    ∙ map_twice (dense_row (length (columns question support)))
    (λ (entries : Vec Entry Global). sparse_row entries.items) lists
    ∙ maps_same (λ (entries : Vec Entry Global). dense_row (length (columns question support))
    (sparse_row entries.items))
    (row_of question support (columns question support)) lists (limits question support)
    (omega (arith, same, is.rows)) row in
    ap (λ (l : List ℤ). record { costs = l; rows = map (dense_row (length costs)) rows }) told_costs
    ∙ ap (λ (l : List ProgramRow). record { costs = (program_of question support).costs; rows = l }) told_rows
