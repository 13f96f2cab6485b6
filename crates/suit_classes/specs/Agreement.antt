-- The class game and the play of single cards agree.
use Rattle.std.specs.Prelude.{◌≡◌, ℕ, ◌≤◌, ◌↔◌, true, [], ◌∷◌, ◌++◌, length, map, filter, fold, Contains}
use Rattle.suit_cards.specs.Cards.{Cards, ClassLayout}
use Rattle.suit_cards.specs.Holdings.{IsHolding, holds}
use Rattle.suit_cards.specs.Ranks.{IsRank}
use Rattle.suit_game.specs.declared.question.Question.{Question}
use Rattle.suit_game.specs.Histories.{History}
use Rattle.suit_game.specs.Layouts.{layouts}
use Rattle.suit_game.specs.Positions.{LegalFrom, after, payoff, step}
use Rattle.suit_game.specs.Blocks.{counts_of as block_counts}
use Rattle.suit_game.specs.PlaceViews.{IsPlay}
use Rattle.suit_game.specs.Validity.{IsValid}
use Rattle.suit_game.specs.declared.limits.TheConstants.{MOST_MOVES}
use Rattle.suit_classes.specs.declared.class_moves.ClassMove.{ClassMove}
use Rattle.suit_classes.specs.Classes.{Hands, hands_of, class_of, class_ranks, defence_classes, holder, sizes_of}
use Rattle.suit_classes.specs.ClassGame.{Allows, TellsCards, class_turn_at, counts_of, is_decided, merged_moves}
use Rattle.suit_classes.specs.ClassMoves.{ClassHistory, merged}
use Rattle.suit_classes.specs.ClassPlaces.{ClassView, class_after, class_decided, class_moves, class_payoff, class_turn}

-- a class place says what the position after a history of single cards does, under a layout
pub record AgreesAt (question : Question) (west : Cards) (history : History) (view : ClassView) : Type 0 where
  pub decided : class_decided view ≡ is_decided question (after question history)
  pub turn : class_turn view ≡ class_turn_at question (after question history)
  -- for West's counts the class moves are the merges of the legal moves, in their order, each once
  pub moves : class_moves view (counts_of (hands_of question) west) ≡ merged_moves question west history
  pub payoff : class_payoff view ≡ payoff question.goal (after question history).won

-- a class place stands for a play of single cards: it is the place after the class history that the play merges to
pub record StandsFor (view : ClassView) (question : Question) (west : Cards) (history : History) : Type 0 where
  pub play : IsPlay question west history
  pub place : view ≡ class_after question (merged (hands_of question) history)

-- the place after a class history agrees with each legal history that merges to it, under each layout
abbrev pub ClassGameAgrees : Type 0
ClassGameAgrees = (question : Question) (west : Cards) (history : History) → IsPlay question west history
    → AgreesAt question west history (class_after question (merged (hands_of question) history))

-- in other words, a class place tells of its class history what the cards say: how the place is counted need not be
-- read
abbrev pub ClassPlacesTellCards : Type 0
ClassPlacesTellCards = (question : Question) (counts : ClassLayout) (history : ClassHistory)
    → TellsCards question counts history (class_decided (class_after question history))
    (class_turn (class_after question history))
    (class_moves (class_after question history) counts) (class_payoff (class_after question history))

-- so layouts of the same counts have the same class moves after histories that merge alike
abbrev pub CountsTellMoves : Type 0
CountsTellMoves =
    (question : Question) (west other : Cards)
    (history moves : History) → IsPlay question west history → IsPlay question other moves
    → counts_of (hands_of question) west ≡ counts_of (hands_of question) other
    → merged (hands_of question) history ≡ merged (hands_of question) moves
    → merged_moves question west history ≡ merged_moves question other moves

-- past a decided position no play changes what the tricks are worth
abbrev pub DecidedStays : Type 0
DecidedStays =
    (question : Question) (west : Cards) (history moves : History) → IsPlay question west history → is_decided question
    (after question history) ≡ true
    → LegalFrom question west (after question history) moves
    → payoff question.goal (fold (step question) (after question history) moves).won ≡ payoff question.goal
    (after question history).won

-- no class history that is allowed has more than MOST_MOVES moves
abbrev pub ClassHistoriesAreShort : Type 0
ClassHistoriesAreShort =
    (question : Question) (counts : ClassLayout)
    (history : ClassHistory) → Allows question counts history → length history ≤ MOST_MOVES

-- the counts of each layout allow the empty history
abbrev pub LayoutsAllowNone : Type 0
LayoutsAllowNone = (question : Question) (west : Cards) → IsValid question → Contains (layouts question) west
    → Allows question (counts_of (hands_of question) west) []

-- and a history with one more move where they allow the history, and the move is one of the class moves for them
abbrev pub AllowedMoves : Type 0
AllowedMoves = (question : Question) (counts : ClassLayout) (history : ClassHistory) (move : ClassMove)
    → Allows question counts (history ++ move ∷ []) ↔
    (Allows question counts history × Contains (class_moves (class_after question history) counts) move)

-- two ranks are of one class where all ranks between them were held alike
abbrev pub ClassesAreRuns : Type 0
ClassesAreRuns = (hands : Hands) (high low : ℕ) → IsRank high → IsRank low → low ≤ high
    → (class_of hands high ≡ class_of hands low) ↔
    ((rank : ℕ) → low ≤ rank → rank ≤ high → holder hands rank ≡ holder hands high)

-- West's counts are how many cards he holds of each block of the missing cards
abbrev pub CountsByBlocks : Type 0
CountsByBlocks = (hands : Hands) (west : Cards) → IsHolding west
    → counts_of hands west ≡ map (λ class. length (filter (holds west) (class_ranks hands class)))
    (defence_classes hands)

-- the blocks of missing cards of these sizes are the defenders' classes: West's counts by blocks, of which class
-- layouts are
-- made, are his counts in the class game, for every holding of his
abbrev pub CountsAlike : Type 0
CountsAlike = (question : Question) (west : Cards) → IsHolding west
    → block_counts question (sizes_of question) west ≡ counts_of (hands_of question) west
