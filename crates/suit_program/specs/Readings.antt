-- How a plan is read from the point of an optimum, and a defence from its prices.
pub mod Examples
pub mod ReadingOfAnOptimum
pub mod ReadingLaws
pub mod Sharing
use Rattle.std.specs.Prelude.{ℕ, ◌&&◌, ◌||◌, not, Bool, true, false, List, [], ◌∷◌, ◌++◌, map, filter, get_or}
use Rattle.std.specs.Prelude.{if◌then◌else◌, ℤ, pos, ◌-ℤ◌, ◌*ℤ◌, int_lt, int_div, unsigned_abs, bytes_eq}
use Rattle.std.specs.Int.{int_min, int_max}
use Rattle.std.specs.Ordering.{int_eq}
use Rattle.std.specs.List.{flat_map}
use Rattle.suit_cards.specs.Cards.{ClassLayout}
use Rattle.suit_num.specs.declared.fraction.Frac.{Frac}
use Rattle.suit_num.specs.Divisors.{lcm_of}
use Rattle.suit_game.specs.declared.question.Question.{Question}
use Rattle.suit_classes.specs.declared.class_moves.ClassMove.{ClassMove}
use Rattle.suit_classes.specs.ClassMoves.{ClassHistory, same_class_move}
use Rattle.suit_plans.specs.declared.plan.TheConstants.{MOST_DEN}
use Rattle.suit_plans.specs.declared.plan.Plan.{Plan}
use Rattle.suit_plans.specs.declared.defence.DefenceRow.{DefenceRow}
use Rattle.suit_plans.specs.declared.defence.Defence.{Defence}
use Rattle.suit_plans.specs.Masses.{Shares, count_of, weight_of}
use Rattle.suit_plans.specs.Orders.{same_class_history}
use Rattle.suit_plans.specs.Properness.{sum_of}
use Rattle.suit_program.specs.Programs.Points.{Column, Held, Passed, Point, point_of}
use Rattle.suit_program.specs.Programs.{Limit, Answered, Shared, columns, limits}
use Rattle.suit_program.specs.Supports.{Support, declarer_chooses, defence_chooses, is_reached, layouts_of}
use Rattle.suit_program.specs.Supports.{reached_histories, supported_moves}
use Rattle.suit_program.specs.Programs.Worths.{passed}

-- ---- masses that are corrected as they are read

-- how one side is read: where it has a choice, how it shares out a mass there, and the mass of the empty history
pub record Reading : Type 0 where
  pub chooses : ClassHistory → Bool
  pub shares : ClassHistory → ℤ → Shares
  pub whole : ℤ

-- the mass that a move lets through
abbrev pub read_through : Reading → ClassHistory → ℤ → ClassMove → ℤ
read_through reading history mass move =
    if reading.chooses history then count_of (reading.shares history mass) move else mass

-- the mass of a class history that goes on from another, of which the mass is given
unfoldable pub read_from : Reading → ClassHistory → ℤ → List ClassMove → ℤ
read_from reading history mass [] = mass
read_from reading history mass (move ∷ moves) =
    read_from reading (history ++ move ∷ []) (read_through reading history mass move) moves

-- the mass of a class history
unfoldable pub read_mass : Reading → ClassHistory → ℤ
read_mass reading history = read_from reading [] reading.whole history

-- the shares of its mass
abbrev pub read_shares : Reading → ClassHistory → Shares
read_shares reading history = reading.shares history (read_mass reading history)

-- whether all of a mass is on the first move
abbrev pub all_on_first : Shares → ℤ → Bool
all_on_first [] mass = false
all_on_first (first ∷ shares) mass = int_eq first.1 mass

-- whether a class history has a row: there is a choice and some mass, which is not all on the first move
unfoldable pub has_row : Reading → ClassHistory → Bool
has_row reading history =
    reading.chooses history && (int_lt (pos 0) (read_mass reading history)
    && not (all_on_first (read_shares reading history) (read_mass reading history)))

-- the counts of its row: those that are not 0
unfoldable pub row_counts : Reading → ClassHistory → Shares
row_counts reading history =
    filter (λ (count : ClassMove × ℤ). not (int_eq count.1 (pos 0))) (read_shares reading history)

-- ---- the plan

-- what some counts add up to
abbrev pub sum_counts : Shares → ℤ
sum_counts shares = sum_of (map (λ (count : ClassMove × ℤ). count.1) shares)

-- counts that add up to less than a mass, with the rest of it added to the first
abbrev pub topped_up : ℤ → Shares → Shares
topped_up mass [] = []
topped_up mass (first ∷ shares) = (first.0, int_max first.1 (mass -ℤ sum_counts shares)) ∷ shares

-- a number of an optimum's point, as a numerator and a denominator
abbrev pub Part : Type 0
Part = ℤ × ℤ

-- the numbers of a point
abbrev pub parts_of : List Frac → List Part
parts_of point = map (λ (part : Frac). (part.num, part.den)) point

-- whether a column is declarer's
abbrev pub is_passed : Column → Bool
is_passed (Passed history move) = true
is_passed (Held west history) = false

-- the least common multiple of the denominators of declarer's columns, where their parts stand in the same order
unfoldable pub common_den : List Column → List Part → ℕ
common_den [] parts = 1
common_den (column ∷ columns) [] = 1
common_den (column ∷ columns) (part ∷ parts) =
    if is_passed column then lcm_of (unsigned_abs part.1) (common_den columns parts) else common_den columns parts

-- the denominator of the plan
unfoldable pub plan_den : Question → Support → List Part → ℤ
plan_den question support parts = pos (common_den (columns question support) parts)

-- a part as so many parts of a denominator
abbrev pub scaled : ℤ → Part → ℤ
scaled den part = int_div (part.0 *ℤ den) part.1

-- the point times the denominator of the plan; the columns of the defence do not count for the plan
unfoldable pub plan_point : Question → Support → List Part → Point
plan_point question support parts =
    point_of (columns question support)
    (λ index. scaled (plan_den question support parts) (get_or parts index (pos 0, pos 1)))
    (plan_den question support parts)

-- how the plan is read
abbrev pub plan_reading : Question → Support → Point → Reading
plan_reading question support point = record {
  chooses = declarer_chooses question;
  shares = λ history mass. topped_up mass (passed question support point history);
  whole = point.one;
}

-- the plan that is read from a point
unfoldable pub plan_at : Question → Support → Point → Plan
plan_at question support point = record {
  den = point.one;
  rows = map (λ history. record {
    history = history;
    counts = row_counts (plan_reading question support point) history;
  })
      (filter (has_row (plan_reading question support point)) (reached_histories question support));
}

-- the plan that is read from the point of an optimum
abbrev pub plan_of : Question → Support → List Part → Plan
plan_of question support parts = plan_at question support (plan_point question support parts)

-- ---- the defence

-- counts that add up to more than a mass, with the excess cut from the last upwards, each down to 0 at most: each takes
-- what those before it have left of the mass
unfoldable pub filled : ℤ → Shares → Shares
filled mass [] = []
filled mass (count ∷ shares) =
    (count.0, int_min count.1 mass) ∷ filled (mass -ℤ int_min count.1 mass) shares

-- whether a row is that of a move in a class layout
unfoldable pub is_answer : ClassLayout → ClassHistory → ClassMove → Limit → Bool
is_answer west history move (Shared other) = false
is_answer west history move (Answered counts other next) =
    bytes_eq west counts && same_class_history history other && same_class_move move next

-- the price of the row of a move in a class layout, where the prices stand in the order of the rows
unfoldable pub price_of : List Limit → List ℤ → ClassLayout → ClassHistory → ClassMove → ℤ
price_of [] prices west history move = pos 0
price_of (limit ∷ limits) [] west history move = pos 0
price_of (limit ∷ limits) (price ∷ prices) west history move =
    if is_answer west history move limit then price else price_of limits prices west history move

-- how the defence is read in a class layout
abbrev pub defence_reading : Question → Support → List ℤ → ℤ → ClassLayout → Reading
defence_reading question support prices scale west = record {
  chooses = defence_chooses question west;
  shares = λ history mass. filled mass
      (map (λ move. (move, price_of (limits question support) prices west history move))
      (supported_moves question support west history));
  whole = pos (weight_of question west) *ℤ scale;
}

-- its rows in a class layout
abbrev pub defence_rows_in : Question → Support → List ℤ → ℤ → ClassLayout × ℕ → List DefenceRow
defence_rows_in question support prices scale layout =
    map (λ history. record {
      west = layout.0;
      history = history;
      counts = row_counts (defence_reading question support prices scale layout.0) history;
    })
    (filter (λ history. is_reached question support layout.0 history
    && has_row (defence_reading question support prices scale layout.0) history)
    (reached_histories question support))

-- the defence that is read from the prices of an optimum over its scale
unfoldable pub defence_of : Question → Support → List ℤ → ℤ → Defence
defence_of question support prices scale = record {
  den = scale;
  rows = flat_map (defence_rows_in question support prices scale) (layouts_of question);
}

-- ---- what is too wide

-- whether one of the denominators is past the limit of plans; so it is where a least common multiple on the way to the
-- plan's leaves the range of numbers, since each divides the last one
unfoldable pub is_too_wide : Question → Support → List Part → ℤ → Bool
is_too_wide question support parts scale =
    int_lt MOST_DEN (plan_den question support parts) || int_lt MOST_DEN scale
