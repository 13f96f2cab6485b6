-- The moves that may be played, by the cards of the hand that plays.
use Rattle.std.proofs.Common.{◌≡◌, ℕ, Bool, true, false, List, [], ◌∷◌, refl, subst, inl, inr}
use Rattle.std.proofs.lemmas.Bool.{true≢false, false≢true}
use Rattle.std.specs.List.{AllByRecursion}
use Rattle.suit_cards.specs.declared.seats.Seat.TheVariants.{N, S}
use Rattle.suit_cards.specs.Holdings.{holds}
use Rattle.suit_cards.proofs.WhetherARankIsHeld.{holds_tells}
use Rattle.suit_game.specs.declared.question.Question.{Question}
use Rattle.suit_game.specs.declared.moves.Move.{Move}
use Rattle.suit_game.specs.declared.moves.Move.TheVariants.{Lead, Follow, ShowOut}
use Rattle.suit_game.specs.Positions.{Position, leads_at, follows_of, declarer_hand}
use Rattle.suit_game.proofs.WhatAHandHolds.{IsFirst, holds-first, each_held}
use Rattle.suit_game.proofs.LegalPlays.{lead_cases}
use Rattle.suit_game.proofs.WaysPayAsLinesEnd.{allowed_in, allowed_each}
use Rattle.suit_lists.proofs.Elements.{each_in}
use Rattle.suit_lists.proofs.Maps.{each_map}

-- a card that may be followed with: one that is held, and the first where no other is allowed
abbrev pub IsPlayable : Bool → Bool → List ℕ → ℕ → Type 0
IsPlayable firsts turn cards card = (holds cards card ≡ true) × (firsts ≡ true → turn ≡ false → IsFirst cards card)

-- what holds of showing out of an empty hand, and of each playable card, holds of each allowed follow
pub each_follow : (P : Move → Type 0) (firsts turn : Bool) (cards : List ℕ) → (cards ≡ [] → P ShowOut)
    → ((card : ℕ) → IsPlayable firsts turn cards card → P (Follow card))
    → AllByRecursion P (allowed_in firsts turn (follows_of cards))
each_follow P firsts turn [] out card = allowed_each P firsts turn (ShowOut ∷ []) (out refl, tt)
each_follow P false turn (first ∷ cards) out card =
    each_map P Follow (first ∷ cards)
    (each_held (λ (x : ℕ). P (Follow x)) (first ∷ cards) (λ x held. card x (held, λ e _. absurd (false≢true e))))
each_follow P true true (first ∷ cards) out card =
    each_map P Follow (first ∷ cards)
    (each_held (λ (x : ℕ). P (Follow x)) (first ∷ cards) (λ x held. card x (held, λ _ e. absurd (true≢false e))))
each_follow P true false (first ∷ cards) out card = (card first (holds-first first cards, λ _ _. refl), tt)

-- what holds of the lead of each card of North's and of South's holds of each lead
pub each_lead : (P : Move → Type 0) (question : Question) (place : Position)
    → ((card : ℕ) → holds (declarer_hand question place N) card ≡ true → P (Lead N card))
    → ((card : ℕ) → holds (declarer_hand question place S) card ≡ true → P (Lead S card))
    → AllByRecursion P (leads_at question place)
each_lead P question place north south =
    each_in P (leads_at question place) (λ move found. elim (lead_cases question place move found) [
      | inl card ↦ subst P card.2 (north card.0 ((holds_tells (declarer_hand question place N) card.0).1 card.1))
      | inr card ↦ subst P card.2 (south card.0 ((holds_tells (declarer_hand question place S) card.0).1 card.1))
    ])
