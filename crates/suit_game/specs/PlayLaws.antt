-- Laws of play.
use Rattle.std.specs.Prelude.{◌≡◌, ℕ, ◌+◌, ◌*◌, ◌/◌, ◌<◌, ◌≤◌, max, not, true, false, List, [], ◌∷◌, ◌++◌, length, map}
use Rattle.std.specs.Prelude.{fold, Contains, IsTrue}
use Rattle.std.specs.List.{list_any}
use Rattle.suit_cards.specs.declared.seats.Seat.TheVariants.{N, S}
use Rattle.suit_cards.specs.Holdings.{IsHolding, holds}
use Rattle.suit_cards.specs.Cards.{Cards}
use Rattle.suit_game.specs.declared.question.Question.{Question}
use Rattle.suit_game.specs.declared.moves.Move.{Move}
use Rattle.suit_game.specs.Deals.{IsDeal, IsTrickLater}
use Rattle.suit_game.specs.Fractions.{whole, mean}
use Rattle.suit_game.specs.Gains.{played, pay_within, pay}
use Rattle.suit_game.specs.Layouts.{layouts}
use Rattle.suit_game.specs.Lengths.{room}
use Rattle.suit_game.specs.Positions.{Position, Closed, after, legal, legal_at, step, LegalFrom, IsLegal, has_ended}
use Rattle.suit_game.specs.Positions.{payoff}
use Rattle.suit_game.specs.Reached.{IsReached, IsWithin, held_at_trick}
use Rattle.suit_game.specs.Strategies.{Way, DefenceWay, Weighed}
use Rattle.suit_game.specs.Histories.{History}
use Rattle.suit_game.specs.declared.limits.TheConstants.{HAND_SIZE, MOST_MOVES}

-- each legal move leaves less room
abbrev pub RoomFalls : Type 0
RoomFalls = (question : Question) (west : Cards) (place : Position) (move : Move)
    → Contains (legal_at question west place) move
    → room question (step question place move) < room question place

-- a history that is legal is no longer than the room that it has used up
abbrev pub HistoriesUseRoom : Type 0
HistoriesUseRoom = (question : Question) (west : Cards) (history : History) → IsLegal question west history
    → length history + room question (after question history) ≤ 4 * (length question.north + length question.south)

-- so with thirteen cards at most in declarer's hands no history has more than 52 moves
abbrev pub HistoriesAreShort : Type 0
HistoriesAreShort = (question : Question) (west : Cards) (history : History)
    → IsHolding question.north → IsHolding question.south
    → IsTrue (not (list_any (holds question.south) question.north))
    → IsLegal question west history → length history ≤ MOST_MOVES

-- a history stays legal as a move that is legal after it is added
abbrev pub LegalMovesExtend : Type 0
LegalMovesExtend = (question : Question) (west : Cards) (history : History) (move : Move)
    → IsLegal question west history
    → Contains (legal question west history) move → IsLegal question west (history ++ move ∷ [])

-- what a side plays is legal, by whatever ways
abbrev pub PlayedIsLegal : Type 0
PlayedIsLegal =
    (question : Question) (declarer : Way) (defence : DefenceWay) (west : Cards) (history : History) (choice : Weighed)
    → Contains (played question declarer defence west history) choice → Contains (legal question west history) choice.1

-- the pay does not depend on how many moves are asked for, once there is no room for more
abbrev pub EnoughMoves : Type 0
EnoughMoves =
    (question : Question) (declarer : Way) (defence : DefenceWay) (west : Cards) (history : History) (enough plenty : ℕ)
    → room question (after question history) ≤ enough → room question (after question history) ≤ plenty
    → pay_within enough question declarer defence west history
    ≡ pay_within plenty question declarer defence west history

-- where play has ended, the pay is the payoff
abbrev pub PayWhereEnded : Type 0
PayWhereEnded = (question : Question) (declarer : Way) (defence : DefenceWay) (west : Cards) (history : History)
    → has_ended question (after question history) ≡ true
    → pay question declarer defence west history ≡ whole (payoff question.goal (after question history).won)

-- where play goes on, the pay is the mean of the pays after each move that is played
abbrev pub PayWhereOn : Type 0
PayWhereOn = (question : Question) (declarer : Way) (defence : DefenceWay) (west : Cards) (history : History)
    → IsHolding question.north → IsHolding question.south
    → IsTrue (not (list_any (holds question.south) question.north))
    → IsLegal question west history → has_ended question (after question history) ≡ false
    → pay question declarer defence west history
    ≡ mean (map (λ (choice : Weighed). (choice.0, pay question declarer defence west (history ++ choice.1 ∷ [])))
    (played question declarer defence west history))

-- under each layout the hands are a deal, and West's cards a holding
abbrev pub LayoutsAreDeals : Type 0
LayoutsAreDeals = (question : Question) (west : Cards)
    → IsHolding question.north → IsHolding question.south
    → IsTrue (not (list_any (holds question.south) question.north))
    → Contains (layouts question) west → IsDeal question west × IsHolding west

-- four legal moves from a position with no trick in progress are a whole trick, which takes a card from each hand of
-- declarer that has one
abbrev pub TricksTakeOneCardEach : Type 0
TricksTakeOneCardEach = (question : Question) (west : Cards) (place : Position) (moves : List Move)
    → IsDeal question west
    → place.trick ≡ Closed → LegalFrom question west place moves → length moves ≡ 4
    → IsTrickLater question place (fold (step question) place moves)

-- each position that a legal history comes to is a reached one
abbrev pub PlacesAreReached : Type 0
PlacesAreReached = (question : Question) (west : Cards) (history : History) → IsLegal question west history
    → IsReached question west history (after question history)

-- each trick that is finished has used up a card of the longer hand that declarer was dealt
abbrev pub TricksUseUpHands : Type 0
TricksUseUpHands = (question : Question) (west : Cards) (history : History) → IsDeal question west
    → IsLegal question west history
    → length history / 4
    + max (held_at_trick question (after question history) N) (held_at_trick question (after question history) S)
    ≡ max (length question.north) (length question.south)

-- so the tricks won and the longer hand left, a card played to the trick in progress counted with it, are no more than
-- the longer hand dealt
abbrev pub WonTricksFit : Type 0
WonTricksFit = (question : Question) (west : Cards) (history : History) → IsDeal question west
    → IsLegal question west history
    → (after question history).won
    + max (held_at_trick question (after question history) N) (held_at_trick question (after question history) S)
    ≤ max (length question.north) (length question.south)

-- and declarer wins thirteen tricks at most
abbrev pub ThirteenTricks : Type 0
ThirteenTricks = (question : Question) (west : Cards) (history : History) → IsDeal question west
    → IsLegal question west history
    → (after question history).won ≤ HAND_SIZE

-- as play goes on from a reached position, the tricks won do not fall, and together with the longer hand left they do
-- not rise
abbrev pub WonStaysWithin : Type 0
WonStaysWithin = (question : Question) (west : Cards) (history : History) (moves : List Move) → IsDeal question west
    → IsLegal question west history
    → LegalFrom question west (after question history) moves
    → IsWithin question (after question history) (fold (step question) (after question history) moves)
