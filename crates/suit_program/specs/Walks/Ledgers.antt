-- A program while it is written, by what its rows come to at numbers for the columns. It serves the contracts of
-- private functions alone.
use Rattle.std.specs.Prelude.{◌≡◌, ℕ, zero, suc, ◌+◌, ◌<◌, ◌==◌, List, Contains, map, filter}
use Rattle.std.specs.Prelude.{if◌then◌else◌, ℤ, pos, negsuc, ◌+ℤ◌, ◌*ℤ◌, ◌≤ℤ◌}
use Rattle.suit_game.specs.declared.limits.TheConstants.{MOST_TOTAL}
use Rattle.suit_plans.specs.Properness.{sum_of}
use Rattle.suit_linear.specs.declared.sparse.Entry.{Entry}
use Rattle.suit_program.specs.declared.walks.ledger.Account.{Account}
use Rattle.suit_program.specs.declared.walks.ledger.Ledger.{Ledger}
use Rattle.suit_program.specs.declared.walks.ledger.Posting.{Posting}

-- numbers for the columns
abbrev pub Given : Type 0
Given = ℕ → ℤ

-- what an entry comes to
abbrev pub entry_value : Given → Entry → ℤ
entry_value given entry = entry.number *ℤ given entry.column

-- what entries come to
abbrev pub entries_value : Given → List Entry → ℤ
entries_value given entries = sum_of (map (entry_value given) entries)

-- what a posting adds to a row
abbrev pub posted : Given → ℕ → Posting → ℤ
posted given row posting = if posting.row == row then entry_value given posting.entry else pos 0

-- what a row of a ledger comes to
unfoldable pub value_of : Ledger → Given → ℕ → ℤ
value_of ledger given row = sum_of (map (posted given row) ledger.postings.items)

-- the entries of a row
abbrev pub entries_of : List Posting → ℕ → List Entry
entries_of postings row = map (λ (posting : Posting). posting.entry)
    (filter (λ (posting : Posting). posting.row == row) postings)

-- each posting is to a row that there is
abbrev pub HasRows : Ledger → Type 0
HasRows ledger = (posting : Posting) → Contains ledger.postings.items posting → posting.row < ledger.rows

-- a ledger goes on from another with so many more columns and rows
pub record Extends (old new : Ledger) (new_columns new_rows : ℕ) : Type 0 where
  pub columns : new.columns ≡ old.columns + new_columns
  pub rows : new.rows ≡ old.rows + new_rows
  pub within : HasRows old → HasRows new

-- and this is added to what each row comes to
pub record Adds (old new : Ledger) (added : Given → ℕ → ℤ) : Type 0 where
  pub values : (given : Given) (row : ℕ) → value_of new given row ≡ value_of old given row +ℤ added given row

-- what is added to a row where the class layout of an account is worth so much
abbrev pub credit : ℕ → Account → ℤ → ℤ
credit row account worth = if account.row == row then account.factor *ℤ worth else pos 0

-- an account is of one of so many rows, and its factor is no more than a weight
pub record IsFit (rows : ℕ) (account : Account) : Type 0 where
  pub row : account.row < rows
  pub low : negsuc 0 ≤ℤ account.factor
  pub few : account.factor ≤ℤ pos MOST_TOTAL

-- a number in so many rows, of which the first has this number
unfoldable pub in_each : ℕ → ℕ → ℤ → ℕ → ℤ
in_each first zero number row = pos 0
in_each first (suc count) number row =
    (if first == row then number else pos 0) +ℤ in_each (suc first) count number row

-- what so many columns are given, of which the first has this number
unfoldable pub given_in : Given → ℕ → ℕ → ℤ
given_in given first zero = pos 0
given_in given first (suc count) = given first +ℤ given_in given (suc first) count
