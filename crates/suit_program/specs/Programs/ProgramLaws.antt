-- What holds of the program of every support.
use Rattle.std.specs.Prelude.{◌≡◌, ◌≢◌, ◌<◌, AllPairs, get_or, length, ℕ, List, ℤ, ◌+ℤ◌, ◌-ℤ◌, ◌*ℤ◌}
use Rattle.suit_cards.specs.Cards.{ClassLayout}
use Rattle.suit_game.specs.declared.question.Question.{Question}
use Rattle.suit_game.specs.Validity.{IsValid}
use Rattle.suit_classes.specs.declared.class_moves.ClassMove.{ClassMove}
use Rattle.suit_classes.specs.ClassMoves.{ClassHistory}
use Rattle.suit_linear.specs.Points.{dot, number_at}
use Rattle.suit_linear.specs.Programs.{IsBounded, IsWellFormed}
use Rattle.suit_program.specs.Programs.Points.{Column, given_to, no_point, point_of}
use Rattle.suit_program.specs.Programs.{Answered, Limit, columns, excess, limits, program_of, row_of}
use Rattle.suit_program.specs.Readings.{price_of}
use Rattle.suit_program.specs.Supports.{Support}
use Rattle.suit_program.specs.Programs.Worths.{objective_at}

-- at numbers for the columns over a denominator, a row of the program comes to what the play of the support exceeds it
-- by
abbrev pub RowsTell : Type 0
RowsTell = (question : Question) (support : Support) (given : ℕ → ℤ) (den : ℤ) (limit : Limit)
    → excess question support (point_of (columns question support) given den) limit
    ≡ dot (row_of question support (columns question support) limit).entries given
    -ℤ (row_of question support (columns question support) limit).bound *ℤ den

-- and the objective, with what rests on no column, comes to what the play is worth
abbrev pub CostsTell : Type 0
CostsTell = (question : Question) (support : Support) (given : ℕ → ℤ) (den : ℤ)
    → objective_at question support (point_of (columns question support) given den)
    ≡ dot (program_of question support).costs given +ℤ objective_at question support no_point *ℤ den

-- no right side is negative, each row has an entry for each column, and all numbers are narrow
abbrev pub ProgramsAreWellFormed : Type 0
ProgramsAreWellFormed = (question : Question) (support : Support) → IsValid question
    → IsWellFormed (program_of question support)

-- the objective has an upper limit
abbrev pub ProgramsAreBounded : Type 0
ProgramsAreBounded = (question : Question) (support : Support) → IsValid question
    → IsBounded (program_of question support)

-- no column comes twice, and no row, so that each number of theirs is one name
abbrev pub ColumnsComeOnce : Type 0
ColumnsComeOnce = (question : Question) (support : Support) → AllPairs (λ one other. one ≢ other)
    (columns question support)

abbrev pub RowsComeOnce : Type 0
RowsComeOnce = (question : Question) (support : Support) → AllPairs (λ one other. one ≢ other) (limits question support)

-- so a point gives a column the number that stands in its place
abbrev pub ColumnsAreGiven : Type 0
ColumnsAreGiven = (question : Question) (support : Support) (given : ℕ → ℤ) (index : ℕ) (column : Column)
    → index < length (columns question support)
    → given_to (columns question support) given (get_or (columns question support) index column) ≡ given index

-- and the price of a row of the defence is the one that stands in its place
abbrev pub PricesAreNamed : Type 0
PricesAreNamed = (question : Question) (support : Support) (prices : List ℤ) (index : ℕ) (limit : Limit)
    (west : ClassLayout)
    (history : ClassHistory) (move : ClassMove) → length prices ≡ length (limits question support)
    → index < length (limits question support)
    → get_or (limits question support) index limit ≡ Answered west history move
    → price_of (limits question support) prices west history move ≡ number_at prices index
