-- The legal moves, and legal plays move by move.
use Rattle.std.proofs.Common.{◌≡◌, ℕ, ◌⊎◌, Bool, true, false, cond, List, [], ◌∷◌, ◌++◌, refl, inl, inr}
use Rattle.std.specs.Prelude.{fold, Contains, if◌then◌else◌}
use Rattle.std.proofs.lemmas.List.Elements.{Contains-append_cases}
use Rattle.suit_cards.specs.declared.seats.Seat.TheVariants.{N, S}
use Rattle.suit_cards.specs.Cards.{Cards}
use Rattle.suit_game.specs.declared.moves.Move.TheVariants.{Lead, Follow, ShowOut}
use Rattle.std.proofs.lemmas.List.Sums.{fold_push}
use Rattle.suit_game.specs.declared.question.Question.{Question}
use Rattle.suit_game.specs.declared.moves.Move.{Move}
use Rattle.suit_game.specs.Positions.{Position, without, may_lead_n, may_lead_s, leads_at, follows_of, start_place}
use Rattle.suit_game.specs.Positions.{step, after, legal, LegalFrom, IsLegal, declarer_hand}
use Rattle.suit_game.specs.Histories.{History}
use Rattle.suit_lists.proofs.Elements.{Contains-cons_cases, Contains-if, Contains-nil}
use Rattle.suit_lists.proofs.Maps.{Contains-map_from}

-- a lead is of a card that North holds, or South
pub lead_cases : (question : Question) (place : Position) (move : Move) → Contains (leads_at question place) move
    → ((card : ℕ) × Contains (declarer_hand question place N) card × (Lead N card ≡ move)) ⊎
    ((card : ℕ) × Contains (declarer_hand question place S) card × (Lead S card ≡ move))
lead_cases question place move found = elim (Contains-append_cases _ _ move found) [
  | inl north ↦ inl (Contains-map_from (Lead N) _ move (Contains-if (may_lead_n place) _ move north))
  | inr south ↦ inr (Contains-map_from (Lead S) _ move (Contains-if (may_lead_s place) _ move south))
]

-- a follow is of a card of the hand, or shows out where it has none
pub follow_or_show : (cards : List ℕ) (move : Move) → Contains (follows_of cards) move
    → ((card : ℕ) × Contains cards card × (Follow card ≡ move)) ⊎ ((cards ≡ []) × (ShowOut ≡ move))
follow_or_show [] move found =
    elim (Contains-cons_cases ShowOut [] move found) [
      | inl here ↦ inr (refl, here)
      | inr there ↦ absurd
          (Contains-nil move there)
    ]
follow_or_show (card ∷ cards) move found = inl (Contains-map_from Follow (card ∷ cards) move found)

none_either : (b c : Bool) → cond {A = List Move} b [] [] ++ cond c [] [] ≡ []
none_either true true = refl
none_either true false = refl
none_either false true = refl
none_either false false = refl

-- two empty hands have no lead
pub leads_at-none : (question : Question) (place : Position) → without question.north place.gone ≡ []
    → without question.south place.gone ≡ []
    → leads_at question place ≡ []
leads_at-none question place north south = rw (north, south) (none_either (may_lead_n place) (may_lead_s place))

-- the position after a history and one more move
pub after_move : (question : Question) (history : List Move) (move : Move)
    → after question (history ++ move ∷ []) ≡ step question (after question history) move
after_move question history move = fold_push (step question) (start_place question) history move

-- a play from a position and a play on from where it comes to are one play
pub legal_from_append : (question : Question) (west : Cards) (place : Position) (moves more : List Move)
    → LegalFrom question west place moves
    → LegalFrom question west (fold (step question) place moves) more → LegalFrom question west place (moves ++ more)
unfolding LegalFrom
legal_from_append question west place [] more legal later = later
legal_from_append question west place (first ∷ moves) more legal later =
    (legal.0, legal_from_append question west (step question place first) moves more legal.1 later)

-- and one play is parted anywhere
pub legal_from_parts : (question : Question) (west : Cards) (place : Position) (moves more : List Move)
    → LegalFrom question west place (moves ++ more)
    → LegalFrom question west place moves × LegalFrom question west (fold (step question) place moves) more
unfolding LegalFrom
legal_from_parts question west place [] more legal = (tt, legal)
legal_from_parts question west place (first ∷ moves) more legal =
    let rest = legal_from_parts question west (step question place first) moves more legal.1 in
    ((legal.0, rest.0), rest.1)

-- a history stays legal as a move that is legal after it is added
pub legal_moves_extend : (question : Question) (west : Cards) (history : History) (move : Move)
    → IsLegal question west history
    → Contains (legal question west history) move → IsLegal question west (history ++ move ∷ [])
unfolding LegalFrom
legal_moves_extend question west history move legal found =
    legal_from_append question west (start_place question) history (move ∷ []) legal (found, tt)

-- a legal history is legal without its last move, which is legal after the others
pub legal_before_last : (question : Question) (west : Cards) (history : History) (move : Move)
    → IsLegal question west (history ++ move ∷ [])
    → IsLegal question west history × Contains (legal question west history) move
unfolding LegalFrom
legal_before_last question west history move legal =
    let parts = legal_from_parts question west (start_place question) history (move ∷ []) legal in
    (parts.0, parts.1.0)
