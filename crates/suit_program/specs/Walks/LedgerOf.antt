-- A ledger that is the program of a support. It serves the contracts of private functions alone.
use Rattle.std.specs.Prelude.{◌≡◌, ℕ, suc, ◌-◌, ◌^◌, ◌==◌, List, length, if◌then◌else◌, pos, ◌+ℤ◌, neg_ℤ}
use Rattle.suit_game.specs.declared.question.Question.{Question}
use Rattle.suit_linear.specs.declared.sparse.Entry.{Entry}
use Rattle.suit_linear.specs.declared.sparse.SparseRow.{SparseRow}
use Rattle.suit_linear.specs.Sparse.{sum_in}
use Rattle.suit_program.specs.declared.walks.ledger.Ledger.{Ledger}
use Rattle.suit_program.specs.Walks.Ledgers.{Given, HasRows, value_of}
use Rattle.suit_program.specs.Programs.Points.{Point}
use Rattle.suit_program.specs.Programs.{columns as program_columns, excess, limits}
use Rattle.suit_program.specs.Supports.{Support}
use Rattle.suit_program.specs.Walks.Writing.{AreGiven, told}
use Rattle.suit_program.specs.Programs.Worths.{objective_at}

-- the column that stands for the number 1
abbrev pub ONE : ℕ
ONE = 2 ^ 32 - 1

-- a ledger has the columns of the program of a support, and its rows behind a first one, which is the objective with
-- what
-- rests on no column; at each point each row comes to what it says there
pub record IsLedgerOf (question : Question) (support : Support) (ledger : Ledger) : Type 0 where
  pub columns : ledger.columns ≡ length (program_columns question support)
  pub rows : ledger.rows ≡ suc (length (limits question support))
  pub within : HasRows ledger
  pub values : (point : Point) (given : Given) → AreGiven given point 0 (program_columns question support)
      → given ONE ≡ point.one → (row : ℕ)
      → value_of ledger given row
      ≡ (if 0 == row then objective_at question support point else pos 0)
      +ℤ told (excess question support point) 1 (limits question support) row

-- a row of a program by its entries, of which those of the number 1 stand on the other side
abbrev pub sparse_row : List Entry → SparseRow
sparse_row entries = record { entries = entries; bound = neg_ℤ (sum_in entries ONE) }
