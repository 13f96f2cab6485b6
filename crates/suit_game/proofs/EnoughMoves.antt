-- Pay does not depend on how many moves are asked for, once they suffice.
use Rattle.std.proofs.Common.{◌≡◌, ℕ, zero, suc, ◌+◌, ◌*◌, ◌≤◌, true, false, List, [], ◌∷◌, ◌++◌, refl, sym, ap, ◌∙◌}
use Rattle.std.proofs.Common.{arith, IsTrue}
use Rattle.std.specs.Prelude.{map, not, Contains, if◌then◌else◌}
use Rattle.std.specs.List.{list_any}
use Rattle.std.proofs.lemmas.List.{nil_from_length}
use Rattle.suit_cards.specs.Holdings.{IsHolding, holds}
use Rattle.suit_cards.specs.declared.seats.Seat.TheVariants.{N, S}
use Rattle.suit_game.specs.declared.question.Question.{Question}
use Rattle.suit_game.specs.declared.moves.Move.{Move}
use Rattle.suit_game.specs.Fractions.{Fraction, whole, mean}
use Rattle.suit_game.specs.Gains.{is_declarer_turn, played, pay_within, pay}
use Rattle.suit_game.specs.Lengths.{cards_left, seats_left, room}
use Rattle.suit_game.specs.Positions.{Position, Trick, Closed, Open, is_empty, after, legal, ended_in, has_ended}
use Rattle.suit_game.specs.Positions.{payoff, IsLegal, declarer_hand}
use Rattle.suit_game.specs.Strategies.{Way, DefenceWay, Weighed}
use Rattle.suit_game.proofs.ChosenIsLegal.{chosen_from}
use Rattle.suit_game.proofs.LegalPlays.{leads_at-none, after_move}
use Rattle.suit_game.proofs.LongestPlay.{holdings_fit, histories_use_room}
use Rattle.suit_game.proofs.Room.{room_falls}
use Rattle.suit_game.specs.declared.limits.TheConstants.{MOST_MOVES}
use Rattle.suit_lists.proofs.Maps.{map_same}

ended_in_no_room : (question : Question) (place : Position) (trick : Trick)
    → 4 * cards_left question place + seats_left trick ≤ 0
    → ended_in question place trick ≡ true
ended_in_no_room question place Closed none =
    ap is_empty (leads_at-none question place
    (nil_from_length (declarer_hand question place N) (omega arith))
    (nil_from_length (declarer_hand question place S) (omega arith)))
ended_in_no_room question place (Open turn after winner highest) none = absurd (omega arith)

-- with no room left play has ended
pub ended_with_no_room : (question : Question) (place : Position) → room question place ≤ 0
    → has_ended question place ≡ true
ended_with_no_room question place none = ended_in_no_room question place place.trick none

-- a legal move after a history leaves less room
pub room_after_move : (question : Question) (west : List ℕ) (history : List Move) (move : Move) (most : ℕ)
    → Contains (legal question west history) move
    → room question (after question history) ≤ suc most → room question (after question (history ++ move ∷ [])) ≤ most
room_after_move question west history move most found fits =
    omega (
      arith,
      room_falls question west (after question history) move found,
      ap (room question) (after_move question history move),
    )

-- a move that is played is legal
pub played_is_legal : (question : Question) (declarer : Way) (defence : DefenceWay) (west : List ℕ)
    (history : List Move) (choice : Weighed)
    → Contains (played question declarer defence west history) choice → Contains (legal question west history) choice.1
played_is_legal question declarer defence west history choice found =
    chosen_from (if is_declarer_turn (after question history).trick then declarer history else defence west history)
    (legal question west history) choice found

pay_at_end : (n : ℕ) (question : Question) (declarer : Way) (defence : DefenceWay) (west : List ℕ) (history : List Move)
    → has_ended question (after question history) ≡ true
    → pay_within n question declarer defence west history ≡ whole (payoff question.goal (after question history).won)
unfolding pay_within
pay_at_end zero question declarer defence west history ended = refl
pay_at_end (suc n) question declarer defence west history ended = rw ended refl

-- the pay does not change where more moves are asked for than there is room for
pub enough_moves : (enough plenty : ℕ) (question : Question) (declarer : Way) (defence : DefenceWay) (west : List ℕ)
    (history : List Move)
    → room question (after question history) ≤ enough → room question (after question history) ≤ plenty
    → pay_within enough question declarer defence west history
    ≡ pay_within plenty question declarer defence west history
unfolding pay_within
enough_moves zero plenty question declarer defence west history fits suits =
    sym (pay_at_end plenty question declarer defence west history
    (ended_with_no_room question (after question history) fits))
enough_moves (suc enough) zero question declarer defence west history fits suits =
    pay_at_end (suc enough) question declarer defence west history
    (ended_with_no_room question (after question history) suits)
enough_moves (suc enough) (suc plenty) question declarer defence west history fits suits =
    ap (λ (items : List (ℕ × Fraction)). if has_ended question (after question history)
    then whole (payoff question.goal (after question history).won) else mean items)
    (map_same (λ (choice : Weighed).
    (choice.0, pay_within enough question declarer defence west (history ++ choice.1 ∷ [])))
    (λ (choice : Weighed). (choice.0, pay_within plenty question declarer defence west (history ++ choice.1 ∷ [])))
    (played question declarer defence west history)
    (λ choice found.
    let legal : Contains (legal question west history) choice.1 =
    played_is_legal question declarer defence west history choice found in
    ap (λ (p : Fraction). (choice.0, p))
    (enough_moves enough plenty question declarer defence west (history ++ choice.1 ∷ [])
    (room_after_move question west history choice.1 enough legal fits)
    (room_after_move question west history choice.1 plenty legal suits))))

-- where play has ended, the pay is the payoff
pub pay_where_ended : (question : Question) (declarer : Way) (defence : DefenceWay) (west : List ℕ)
    (history : List Move)
    → has_ended question (after question history) ≡ true
    → pay question declarer defence west history ≡ whole (payoff question.goal (after question history).won)
pay_where_ended = pay_at_end MOST_MOVES

pay_step : (n : ℕ) (question : Question) (declarer : Way) (defence : DefenceWay) (west : List ℕ) (history : List Move)
    → has_ended question (after question history) ≡ false
    → pay_within (suc n) question declarer defence west history
    ≡ mean (map (λ (choice : Weighed).
    (choice.0, pay_within n question declarer defence west (history ++ choice.1 ∷ [])))
    (played question declarer defence west history))
unfolding pay_within
pay_step n question declarer defence west history goes_on = rw goes_on refl

-- where play goes on, the pay is the mean of what the moves played lead to
pub pay_where_on : (question : Question) (declarer : Way) (defence : DefenceWay) (west : List ℕ) (history : List Move)
    → IsHolding question.north → IsHolding question.south
    → IsTrue (not (list_any (holds question.south) question.north))
    → IsLegal question west history → has_ended question (after question history) ≡ false
    → pay question declarer defence west history
    ≡ mean (map (λ (choice : Weighed). (choice.0, pay question declarer defence west (history ++ choice.1 ∷ [])))
    (played question declarer defence west history))
pay_where_on question declarer defence west history north south apart legal goes_on =
    let used = histories_use_room question west history legal in
    let fits = holdings_fit question.north question.south north south apart in
    enough_moves MOST_MOVES (suc MOST_MOVES) question declarer defence west history (omega arith) (omega arith)
    ∙ pay_step MOST_MOVES question declarer defence west history goes_on
