-- The class game: what play of single cards comes to where each card is told by its class alone.
use Rattle.std.specs.Prelude.{◌≡◌, ℕ, ◌+◌, ◌||◌, ◌==◌, not, nat_lt, nat_le, max, Bool, false, List, [], ◌∷◌, length}
use Rattle.std.specs.Prelude.{map, filter, if◌then◌else◌}
use Rattle.suit_cards.specs.declared.seats.Seat.TheVariants.{N, S}
use Rattle.suit_cards.specs.Cards.{Cards, ClassLayout}
use Rattle.suit_game.specs.declared.question.Question.{Question}
use Rattle.suit_game.specs.declared.question.Goal.{Goal}
use Rattle.suit_game.specs.declared.question.Goal.TheVariants.{AtLeast, Tricks}
use Rattle.suit_game.specs.declared.turn.Turn.{Turn}
use Rattle.suit_game.specs.declared.turn.Turn.TheVariants as games
use Rattle.suit_game.specs.Histories.{History}
use Rattle.suit_game.specs.Positions.{Position, Trick, Closed, Open, after, declarer_hand, is_empty, leads_at, legal}
use Rattle.suit_game.specs.Positions.{payoff}
use Rattle.suit_game.specs.PlaceViews.{IsPlay, turn_at}
use Rattle.suit_classes.specs.declared.class_moves.ClassMove.{ClassMove}
use Rattle.suit_classes.specs.declared.class_turn.ClassTurn.{ClassTurn}
use Rattle.suit_classes.specs.declared.class_turn.ClassTurn.TheVariants as turns
use Rattle.suit_classes.specs.Classes.{Hands, hands_of, class_of, defence_classes}
use Rattle.suit_classes.specs.ClassMoves.{ClassHistory, merge, merged, same_class_move}

-- how many of some cards are of a class
abbrev pub cards_in : Hands → Cards → ℕ → ℕ
cards_in hands cards class = length (filter (λ card. class_of hands card == class) cards)

-- the class layout of a layout: West's count in each of the defenders' classes
abbrev pub counts_of : Hands → Cards → ClassLayout
counts_of hands west = map (cards_in hands west) (defence_classes hands)

-- a class layout allows a class history where some layout with its counts has a legal history that merges to it
pub record Allows (question : Question) (counts : ClassLayout) (history : ClassHistory) : Type 0 where
  pub west : Cards
  pub cards : History
  pub play : IsPlay question west cards
  pub counted : counts_of (hands_of question) west ≡ counts
  pub merges : merged (hands_of question) cards ≡ history

-- whether a goal is met by the tricks won, or out of reach with so many left to win at most
abbrev pub is_goal_settled : Goal → ℕ → ℕ → Bool
is_goal_settled (AtLeast least) won longer = nat_le least won || nat_lt (won + longer) least
is_goal_settled Tricks won longer = false

abbrev pub decided_in : Question → Position → Trick → Bool
decided_in question place Closed =
    is_empty (leads_at question place)
    || is_goal_settled question.goal place.won
    (max (length (declarer_hand question place N)) (length (declarer_hand question place S)))
decided_in question place (Open turn after winner highest) = false

-- whether a position is decided: no trick is in progress, and no lead is legal or the goal is settled
abbrev pub is_decided : Question → Position → Bool
is_decided question place = decided_in question place place.trick

-- who is on turn, told as a turn of the class game
abbrev pub class_turn_for : Turn → ClassTurn
class_turn_for games.Lead = turns.Lead
class_turn_for (games.Declarer seat) = turns.Declarer seat
class_turn_for (games.Defence seat) = turns.Defence seat
class_turn_for games.Over = turns.Decided

-- who is on turn at a position: where it is not decided, whoever is in the play of single cards
abbrev pub class_turn_at : Question → Position → ClassTurn
class_turn_at question place =
    if is_decided question place then turns.Decided else class_turn_for (turn_at question place)

-- the moves of a list in their order, without those that stood before
unfoldable pub each_once : List ClassMove → List ClassMove
each_once [] = []
each_once (move ∷ moves) = move ∷ filter (λ other. not (same_class_move move other)) (each_once moves)

-- the class moves after a history, under a layout: the merges of its legal moves, in their order, each once
abbrev pub merged_moves : Question → Cards → History → List ClassMove
merged_moves question west history = each_once (map (merge (hands_of question)) (legal question west history))

-- a legal history of single cards, under a layout in which West has these counts, that merges to a class history
pub record MergesTo (question : Question) (counts : ClassLayout) (history : ClassHistory) (west : Cards)
    (cards : History) : Type 0 where
  pub play : IsPlay question west cards
  pub counted : counts_of (hands_of question) west ≡ counts
  pub merges : merged (hands_of question) cards ≡ history

-- what is told of a class history for West's counts is what the cards say, whichever legal history merges to it, and
-- under
-- whichever layout with these counts: whether it is decided, who is on turn, what may be played, and what the tricks
-- are worth
pub record TellsCards (question : Question) (counts : ClassLayout) (history : ClassHistory)
    (decided : Bool) (turn : ClassTurn) (moves : List ClassMove) (worth : ℕ) : Type 0 where
  pub decided_is : (west : Cards) (cards : History) → MergesTo question counts history west cards
      → decided ≡ is_decided question (after question cards)
  pub turn_is : (west : Cards) (cards : History) → MergesTo question counts history west cards
      → turn ≡ class_turn_at question (after question cards)
  pub moves_are : (west : Cards) (cards : History) → MergesTo question counts history west cards
      → moves ≡ merged_moves question west cards
  pub worth_is : (west : Cards) (cards : History) → MergesTo question counts history west cards
      → worth ≡ payoff question.goal (after question cards).won
