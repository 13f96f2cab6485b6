-- The list of all histories that go on legally from one (legal_histories): it has them all, and no others.
use Rattle.std.proofs.Common.{ℕ, zero, suc, ◌≤◌, List, [], ◌∷◌, ◌++◌, length, sym, subst, arith}
use Rattle.std.proofs.Common.{append-nil, append_assoc}
use Rattle.std.specs.Prelude.{Contains}
use Rattle.std.specs.List.{AllByRecursion, flat_map}
use Rattle.suit_lists.proofs.Elements.{Contains-first, Contains-later}
use Rattle.suit_lists.proofs.FlatMaps.{Contains-flat_map, each_flat_map}
use Rattle.suit_cards.specs.Cards.{Cards}
use Rattle.suit_game.specs.declared.question.Question.{Question}
use Rattle.suit_game.specs.declared.moves.Move.{Move}
use Rattle.suit_game.specs.Histories.{History}
use Rattle.suit_game.specs.Positions.{IsLegal, LegalFrom, Position, after, legal}
use Rattle.suit_game.specs.Validity.{IsValid}
use Rattle.suit_game.specs.declared.limits.TheConstants.{MOST_MOVES}
use Rattle.suit_game.proofs.LegalPlays.{after_move, legal_moves_extend}
use Rattle.suit_game.proofs.LongestPlay.{histories_are_short}

-- the histories that go on legally from one by so many moves at most, that history first
unfoldable pub histories_from : ℕ → Question → Cards → History → List History
histories_from zero question west history = history ∷ []
histories_from (suc n) question west history =
    history ∷ flat_map (λ move. histories_from n question west (history ++ move ∷ [])) (legal question west history)

pub listed_legal : (n : ℕ) (question : Question) (west : Cards) (history : History) → IsLegal question west history
    → AllByRecursion (IsLegal question west) (histories_from n question west history)
unfolding histories_from
listed_legal zero question west history legal_history = (legal_history, tt)
listed_legal (suc n) question west history legal_history = (
  legal_history,
  each_flat_map (IsLegal question west) (λ move. histories_from n question west (history ++ move ∷ []))
      (legal question west history)
      (λ move found. listed_legal n question west (history ++ move ∷ [])
      (legal_moves_extend question west history move legal_history found)),
)

pub legal_listed : (n : ℕ) (question : Question) (west : Cards) (history : History) (moves : List Move)
    → LegalFrom question west (after question history) moves → length moves ≤ n
    → Contains (histories_from n question west history) (history ++ moves)
unfolding histories_from LegalFrom
legal_listed zero question west history [] plays few =
    subst (λ (line : History). Contains (history ∷ []) line) (sym (append-nil history)) (Contains-first history [])
legal_listed zero question west history (move ∷ moves) plays few = absurd (omega arith)
legal_listed (suc n) question west history [] plays few =
    subst (λ (line : History). Contains (histories_from (suc n) question west history) line)
    (sym (append-nil history))
    (Contains-first history (flat_map (λ move. histories_from n question west (history ++ move ∷ []))
    (legal question west history)))
legal_listed (suc n) question west history (move ∷ moves) plays few =
    let more : Move → List History = λ move. histories_from n question west (history ++ move ∷ []) in
    Contains-later history (flat_map more (legal question west history)) (history ++ move ∷ moves)
    (Contains-flat_map more (legal question west history) move (history ++ move ∷ moves) plays.0
    (subst (λ (line : History). Contains (more move) line) (append_assoc history (move ∷ []) moves)
    (legal_listed n question west (history ++ move ∷ []) moves
    (subst (λ (place : Position). LegalFrom question west place moves) (sym (after_move question history move)) plays.1)
    (omega (arith, few)))))

-- all histories that are legal under a layout
abbrev pub legal_histories : Question → Cards → List History
legal_histories question west = histories_from MOST_MOVES question west []

pub all_legal : (question : Question) (west : Cards) → AllByRecursion (IsLegal question west)
    (legal_histories question west)
unfolding LegalFrom
all_legal question west = listed_legal MOST_MOVES question west [] tt

pub each_legal : (question : Question) (west : Cards) (history : History) → IsValid question
    → IsLegal question west history → Contains (legal_histories question west) history
each_legal question west history valid legal_history =
    legal_listed MOST_MOVES question west [] history legal_history
    (histories_are_short question west history valid.north valid.south valid.apart legal_history)
