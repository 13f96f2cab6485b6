-- The program of a support.
pub mod Points
pub mod ProgramLaws
pub mod Sized
pub mod Worths
use Rattle.std.specs.Prelude.{ℕ, ◌+◌, List, [], ◌∷◌, ◌++◌, length, map, ℤ, ◌+ℤ◌, ◌-ℤ◌, ◌*ℤ◌, neg_ℤ, if◌then◌else◌}
use Rattle.std.specs.List.{flat_map}
use Rattle.suit_cards.specs.Cards.{ClassLayout}
use Rattle.suit_game.specs.declared.question.Question.{Question}
use Rattle.suit_classes.specs.declared.class_moves.ClassMove.{ClassMove}
use Rattle.suit_classes.specs.ClassMoves.{ClassHistory}
use Rattle.suit_plans.specs.Properness.{sum_of}
use Rattle.suit_linear.specs.declared.program.Program.{Program}
use Rattle.suit_linear.specs.declared.program.ProgramRow.{ProgramRow}
use Rattle.suit_program.specs.Programs.Points.{Column, Held, Passed, Point, no_point, unit_point}
use Rattle.suit_program.specs.Supports.{Support, declarer_chooses, defence_chooses, reached_histories}
use Rattle.suit_program.specs.Supports.{reached_layouts, supported_moves}
use Rattle.suit_program.specs.Programs.Worths.{mass_at, objective_at, worth_at}

-- a row: declarer passes on no more than came to a choice of his, and the defence holds him to no more than a move of
-- theirs lets him earn
pub data Limit : Type 0 where
  Shared : (history : ClassHistory) → Limit
  Answered : (west : ClassLayout) (history : ClassHistory) (move : ClassMove) → Limit

-- what is passed on with all moves
abbrev pub sum_passed : Question → Support → Point → ClassHistory → ℤ
sum_passed question support point history =
    sum_of (map (λ move. point.at (Passed history move)) (supported_moves question support [] history))

-- by how much a point exceeds a row: its left side less its right side
unfoldable pub excess : Question → Support → Point → Limit → ℤ
excess question support point (Shared history) =
    sum_passed question support point history -ℤ mass_at question support point history
excess question support point (Answered west history move) =
    point.at (Held west history) -ℤ worth_at question support point west (history ++ move ∷ [])

-- the column of the defence at a choice of theirs in a class layout
unfoldable pub held_column : Question → ClassHistory → ClassLayout × ℕ → List Column
held_column question history layout =
    if defence_chooses question layout.0 history then Held layout.0 history ∷ [] else []

-- its rows
unfoldable pub answered_limits : Question → Support → ClassHistory → ClassLayout × ℕ → List Limit
answered_limits question support history layout =
    if defence_chooses question layout.0 history
    then map (Answered layout.0 history) (supported_moves question support layout.0 history) else []

-- the columns at a class history
unfoldable pub columns_at : Question → Support → ClassHistory → List Column
columns_at question support history =
    if declarer_chooses question history then map (Passed history) (supported_moves question support [] history)
    else flat_map (held_column question history) (reached_layouts question support history)

-- and the rows
unfoldable pub limits_at : Question → Support → ClassHistory → List Limit
limits_at question support history =
    if declarer_chooses question history then Shared history ∷ []
    else flat_map (answered_limits question support history) (reached_layouts question support history)

-- the columns of the program in order
unfoldable pub columns : Question → Support → List Column
columns question support = flat_map (columns_at question support) (reached_histories question support)

-- the rows in order
unfoldable pub limits : Question → Support → List Limit
limits question support = flat_map (limits_at question support) (reached_histories question support)

-- the numbers of a row: what a unit of each column adds to it, and on the other side what rests on no column
abbrev pub row_of : Question → Support → List Column → Limit → ProgramRow
row_of question support all limit = record {
  entries = map (λ column. excess question support (unit_point column) limit) all;
  bound = neg_ℤ (excess question support no_point limit);
}

-- the program of a support: the columns that earn most within the rows
unfoldable pub program_of : Question → Support → Program
program_of question support = record {
  costs = map (λ column. objective_at question support (unit_point column)) (columns question support);
  rows = map (row_of question support (columns question support)) (limits question support);
}

-- how many rows and columns it has
unfoldable pub size_of : Question → Support → ℕ
size_of question support = length (limits question support) + length (columns question support)

-- what the game of a support is worth, by the greatest objective of its program, value / scale: to be divided by the
-- scale and the total weight of the question
unfoldable pub supported_worth : Question → Support → ℤ → ℤ → ℤ
supported_worth question support value scale = value +ℤ objective_at question support no_point *ℤ scale
