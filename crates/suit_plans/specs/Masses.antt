-- The mass that the rows of a side let through to class histories: it starts at the empty history, and at each turn of
-- this side the moves share out what came there.
use Rattle.std.specs.Prelude.{ℕ, Bool, true, false, List, [], ◌∷◌, ◌++◌, Option, Some, None, option_map, find, bytes_eq}
use Rattle.std.specs.Prelude.{◌&&◌, if◌then◌else◌, ℤ, pos, ◌*ℤ◌}
use Rattle.suit_cards.specs.Cards.{ClassLayout}
use Rattle.suit_game.specs.declared.question.Question.{Question}
use Rattle.suit_classes.specs.declared.class_moves.ClassMove.{ClassMove}
use Rattle.suit_classes.specs.declared.class_turn.ClassTurn.{ClassTurn}
use Rattle.suit_classes.specs.declared.class_turn.ClassTurn.TheVariants as turns
use Rattle.suit_classes.specs.Classes.{hands_of, defence_sizes}
use Rattle.suit_classes.specs.ClassMoves.{ClassHistory, same_class_move}
use Rattle.suit_classes.specs.ClassPlaces.{class_after, class_moves, class_turn}
use Rattle.suit_layouts.specs.ClassLayouts.{class_weight}
use Rattle.suit_plans.specs.declared.plan.Row.{Row}
use Rattle.suit_plans.specs.declared.plan.Plan.{Plan}
use Rattle.suit_plans.specs.declared.defence.DefenceRow.{DefenceRow}
use Rattle.suit_plans.specs.declared.defence.Defence.{Defence}
use Rattle.suit_plans.specs.Orders.{same_class_history}

-- whether declarer is on turn
abbrev pub is_declarers : ClassTurn → Bool
is_declarers turns.Lead = true
is_declarers (turns.Declarer seat) = true
is_declarers (turns.Defence seat) = false
is_declarers turns.Decided = false

-- whether a defender is
abbrev pub is_defences : ClassTurn → Bool
is_defences turns.Lead = false
is_defences (turns.Declarer seat) = false
is_defences (turns.Defence seat) = true
is_defences turns.Decided = false

-- how a row shares out its mass: some moves, each with a count of what it gets
abbrev pub Shares : Type 0
Shares = List (ClassMove × ℤ)

-- one side, with the rows by which it plays
pub record Side : Type 0 where
  -- whether it is on turn
  pub plays : ClassTurn → Bool
  -- West's counts where it sees them; declarer sees none, and his moves do not depend on them
  pub counts : ClassLayout
  -- the shares of its row at a class history, where it has one
  pub shares_at : ClassHistory → Option Shares
  -- the mass of the empty history
  pub whole : ℤ

-- the count of a move: of the first pair with this move, and nothing if there is none
unfoldable pub count_of : Shares → ClassMove → ℤ
count_of [] move = pos 0
count_of (count ∷ shares) move = if same_class_move count.0 move then count.1 else count_of shares move

-- whether a move is the first of some
abbrev pub is_first : List ClassMove → ClassMove → Bool
is_first [] move = false
is_first (first ∷ moves) move = same_class_move first move

-- what a move gets of the mass at a turn of its side: its count by the row, or without a row all of the mass if it is
-- the first move and else nothing
abbrev pub share : Option Shares → Bool → ℤ → ClassMove → ℤ
share (Some shares) first mass move = count_of shares move
share None true mass move = mass
share None false mass move = pos 0

-- the mass that goes on with a move from a class history: a share at a turn of the side, and all of it at others
abbrev pub let_through : Question → Side → ClassHistory → ℤ → ClassMove → ℤ
let_through question side history mass move =
    if side.plays (class_turn (class_after question history))
    then share (side.shares_at history) (is_first (class_moves (class_after question history) side.counts) move) mass
    move
    else mass

-- the mass of a class history that goes on from another, of which the mass is given
unfoldable pub mass_from : Question → Side → ClassHistory → ℤ → ClassHistory → ℤ
mass_from question side history mass [] = mass
mass_from question side history mass (move ∷ moves) =
    mass_from question side (history ++ move ∷ []) (let_through question side history mass move) moves

-- the mass of a class history
unfoldable pub mass_of : Question → Side → ClassHistory → ℤ
mass_of question side history = mass_from question side [] side.whole history

-- the shares of a plan's row at a class history
unfoldable pub plan_shares_at : List Row → ClassHistory → Option Shares
plan_shares_at rows history =
    option_map (λ (row : Row). row.counts) (find (λ (row : Row). same_class_history row.history history) rows)

-- declarer with some rows
abbrev pub declarer : ℤ → List Row → Side
declarer den rows = record {
  plays = is_declarers;
  counts = [];
  shares_at = plan_shares_at rows;
  whole = den;
}

-- the weight of a class layout
abbrev pub weight_of : Question → ClassLayout → ℕ
weight_of question counts = class_weight question (defence_sizes (hands_of question)) counts

-- the shares of a defence's row for a class layout at a class history
unfoldable pub defence_shares_at : List DefenceRow → ClassLayout → ClassHistory → Option Shares
defence_shares_at rows counts history =
    option_map (λ (row : DefenceRow). row.counts) (find (λ (row : DefenceRow). bytes_eq row.west counts
    && same_class_history row.history history) rows)

-- the defence with some rows, in one class layout
abbrev pub defenders : Question → ℤ → List DefenceRow → ClassLayout → Side
defenders question den rows counts = record {
  plays = is_defences;
  counts = counts;
  shares_at = defence_shares_at rows counts;
  whole = pos (weight_of question counts) *ℤ den;
}

-- the mass that a plan lets through to a class history
unfoldable pub plan_mass : Question → Plan → ClassHistory → ℤ
plan_mass question plan history = mass_of question (declarer plan.den plan.rows) history

-- the mass that a defence lets through to one, in a class layout
unfoldable pub defence_mass : Question → Defence → ClassLayout → ClassHistory → ℤ
defence_mass question defence counts history =
    mass_of question (defenders question defence.den defence.rows counts) history
