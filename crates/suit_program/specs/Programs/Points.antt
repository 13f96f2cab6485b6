-- The columns of a support's program by name, and points, which give each a number.
use Rattle.std.specs.Prelude.{ℕ, suc, ◌&&◌, Bool, false, List, [], ◌∷◌, ℤ, pos, ◌+ℤ◌, ◌*ℤ◌, ◌≤ℤ◌, bytes_eq}
use Rattle.std.specs.Prelude.{if◌then◌else◌}
use Rattle.suit_cards.specs.Cards.{ClassLayout}
use Rattle.suit_classes.specs.declared.class_moves.ClassMove.{ClassMove}
use Rattle.suit_classes.specs.ClassMoves.{ClassHistory, same_class_move}
use Rattle.suit_plans.specs.Orders.{same_class_history}

-- a column: what declarer passes on with a move at a choice of his, and what the defence holds him to at a choice of
-- theirs, where West has these counts
pub data Column : Type 0 where
  Passed : (history : ClassHistory) (move : ClassMove) → Column
  Held : (west : ClassLayout) (history : ClassHistory) → Column

-- a number for each column, and what stands for the number 1
pub record Point : Type 0 where
  pub at : Column → ℤ
  pub one : ℤ

-- whether two columns are the same
unfoldable pub same_column : Column → Column → Bool
same_column (Passed history move) (Passed other next) = same_class_history history other && same_class_move move next
same_column (Held west history) (Held counts other) = bytes_eq west counts && same_class_history history other
same_column (Passed history move) (Held counts other) = false
same_column (Held west history) (Passed other next) = false

-- all columns 0, with the number 1: what is worth something here rests on no column
abbrev pub no_point : Point
no_point = record { at = λ column. pos 0; one = pos 1 }

-- one column 1, and all else 0, the number 1 too
abbrev pub unit_point : Column → Point
unit_point column = record { at = λ other. if same_column column other then pos 1 else pos 0; one = pos 0 }

-- the sum of the numbers of a list that stand to a column
unfoldable pub given_to : List Column → (ℕ → ℤ) → Column → ℤ
given_to [] given wanted = pos 0
given_to (column ∷ columns) given wanted =
    given 0 *ℤ (if same_column column wanted then pos 1 else pos 0)
    +ℤ given_to columns (λ index. given (suc index)) wanted

-- the point that gives the columns of a list these numbers, in their order, over a denominator
abbrev pub point_of : List Column → (ℕ → ℤ) → ℤ → Point
point_of columns given den = record { at = given_to columns given; one = den }

-- a point has no negative number
pub record IsPositive (point : Point) : Type 0 where
  pub at : (column : Column) → pos 0 ≤ℤ point.at column
  pub one : pos 0 ≤ℤ point.one
