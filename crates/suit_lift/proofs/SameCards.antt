-- The derived equality of moves of single cards is that of their definition (`eq_same_card`).
use Rattle.std.proofs.Common.{◌≡◌, List, [], ◌∷◌, refl, sym, ◌∙◌, subst, inl, inr}
use Rattle.std.specs.Prelude.{Contains, IsTrue}
use Rattle.std.specs.List.{list_any}
use Rattle.std.proofs.lemmas.Bool.{false≢true, or_cases}
use Rattle.suit_lists.proofs.Elements.{Contains-first, Contains-later}
use Rattle.suit_cards.specs.declared.seats.Seat.TheVariants.{N, E, S, W}
use Rattle.suit_game.specs.declared.moves.Move.{Move}
use Rattle.suit_game.specs.declared.moves.Move.TheVariants.{Lead, Follow, ShowOut}
use Rattle.suit_game.specs.Strategies.{same_move}
use Rattle.suit_game.proofs.SameCardMoves.{same_card_move_is}
use Rattle.suit_game.specs.contracts.moves.MovePartialEq.TheImpl as equal

pub eq_same_card : (x y : Move) → equal.ghosts.eq x y ≡ same_move x y
eq_same_card (Lead N card) (Lead N rank) = refl
eq_same_card (Lead E card) (Lead E rank) = refl
eq_same_card (Lead S card) (Lead S rank) = refl
eq_same_card (Lead W card) (Lead W rank) = refl
eq_same_card (Lead N card) (Lead E rank) = refl
eq_same_card (Lead N card) (Lead S rank) = refl
eq_same_card (Lead N card) (Lead W rank) = refl
eq_same_card (Lead E card) (Lead N rank) = refl
eq_same_card (Lead E card) (Lead S rank) = refl
eq_same_card (Lead E card) (Lead W rank) = refl
eq_same_card (Lead S card) (Lead N rank) = refl
eq_same_card (Lead S card) (Lead E rank) = refl
eq_same_card (Lead S card) (Lead W rank) = refl
eq_same_card (Lead W card) (Lead N rank) = refl
eq_same_card (Lead W card) (Lead E rank) = refl
eq_same_card (Lead W card) (Lead S rank) = refl
eq_same_card (Follow card) (Follow rank) = refl
eq_same_card ShowOut ShowOut = refl
eq_same_card (Lead seat card) (Follow rank) = refl
eq_same_card (Lead seat card) ShowOut = refl
eq_same_card (Follow card) (Lead other rank) = refl
eq_same_card (Follow card) ShowOut = refl
eq_same_card ShowOut (Lead other rank) = refl
eq_same_card ShowOut (Follow rank) = refl

-- a list of moves that is asked for a move and says yes has it
pub among_cards : (moves : List Move) (move : Move) → IsTrue (list_any (λ held. equal.ghosts.eq held move) moves)
    → Contains moves move
among_cards [] move told = absurd (false≢true told)
among_cards (first ∷ moves) move told =
    elim (or_cases (equal.ghosts.eq first move) (list_any (λ held. equal.ghosts.eq held move) moves) told) [
      | inl here ↦ subst (λ (m : Move). Contains (first ∷ moves) m)
          (same_card_move_is first move (sym (eq_same_card first move) ∙ here)) (Contains-first first moves)
      | inr there ↦ Contains-later first moves move (among_cards moves move there)
    ]
