-- The words that name a made table: its number, and how many records it has.
use Rattle.std.specs.Prelude.{ℕ, ◌-◌, ◌^◌, ◌≤◌, ◌==◌, nat_lt, List, [], ◌∷◌}
use Rattle.std.specs.Prelude.{Option, Some, None, if◌then◌else◌}
use Rattle.std.specs.Str.{bytes_eq}
use Rattle.suit_cards.specs.Cards.{Text}
use Rattle.suit_text.specs.Loose.{number_read}
use Rattle.suit_top.specs.declared.commands.made.MadeTable.{MadeTable}
use Rattle.suit_top.specs.declared.commands.made.TheConstants.{MOST_RECORDS}

-- a number that is not more than the most
abbrev pub at_most : ℕ → Option ℕ → Option ℕ
at_most most None = None
at_most most (Some number) = if nat_lt most number then None else Some number

-- the number that at least one digit, and at most so many, stand for, if it is not more than the most
abbrev pub number_named : ℕ → ℕ → Text → Option ℕ
number_named digits most word = at_most most (number_read digits word)

-- the table of a number and a count, which is not 0
abbrev pub made_of : Option ℕ → Option ℕ → Option MadeTable
made_of None count = None
made_of (Some number) None = None
made_of (Some number) (Some count) = if count == 0 then None else Some (record { number = number; count = count })

-- the table that two words name: the number has up to ten digits and fits 32 bits, the count has up to five digits
abbrev pub numbers_named : Text → Text → Option MadeTable
numbers_named number count = made_of (number_named 10 (2 ^ 32 - 1) number) (number_named 5 MOST_RECORDS count)

-- the table that the words of a command name
abbrev pub table_named : Text → List Text → Option MadeTable
table_named name [] = None
table_named name (first ∷ []) = None
table_named name (first ∷ number ∷ []) = None
table_named name (first ∷ number ∷ count ∷ []) =
    if bytes_eq first name then numbers_named number count else None
table_named name (first ∷ number ∷ count ∷ next ∷ more) = None

-- a table has at least one record, and not too many
abbrev pub IsMade : MadeTable → Type 0
IsMade made = (1 ≤ made.count) × (made.count ≤ MOST_RECORDS)
