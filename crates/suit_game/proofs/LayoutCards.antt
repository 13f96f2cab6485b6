-- The layouts: West's cards fall and are missing ones, and the missing cards are in neither hand of declarer.
use Rattle.std.proofs.Common.{◌≡◌, ℕ, ◌<◌, ◌≤◌, true, false, not, ◌||◌, nat_eq, List, [], ◌∷◌, length, map, refl, sym}
use Rattle.std.proofs.Common.{◌∙◌, inl, inr, arith}
use Rattle.std.proofs.lemmas.Bool.{true≢false, or_cases, or_left, or_right, or_parts, or_from, not-true}
use Rattle.std.specs.Prelude.{IsTrue, Contains}
use Rattle.std.specs.List.{AllByRecursion, list_any}
use Rattle.suit_cards.specs.declared.seats.Seat.{Seat}
use Rattle.suit_cards.specs.declared.seats.Seat.TheVariants.{N, E, S, W}
use Rattle.suit_cards.specs.Holdings.{FallsBelow, IsHolding, holds, suit}
use Rattle.suit_cards.proofs.HoldingIsWhatItHolds.{FallsBelow-later, IsHolding-filter, IsHolding-others_of}
use Rattle.suit_cards.proofs.HoldingIsWhatItHolds.{holds-others_of}
use Rattle.suit_game.specs.declared.question.Question.{Question}
use Rattle.suit_game.specs.Deals.{IsDeal}
use Rattle.suit_game.specs.Question.{missing}
use Rattle.suit_game.specs.Layouts.{choices_of, layouts, is_west_length}
use Rattle.suit_game.specs.Positions.{without, dealt}
use Rattle.suit_game.proofs.WhatAHandHolds.{holds-from_filter, holds-from_without}
use Rattle.suit_lists.proofs.Elements.{each_append, each_at, each_gives}
use Rattle.suit_lists.proofs.Filters.{each_filter}
use Rattle.suit_lists.proofs.Maps.{each_map}

-- some of the cards, in their order, falling below a top
pub record IsPart (top : ℕ) (cards taken : List ℕ) : Type 0 where
  pub falls : FallsBelow top taken
  pub held : (card : ℕ) → holds taken card ≡ true → holds cards card ≡ true

part_with : (top first : ℕ) (cards taken : List ℕ) → 2 ≤ first → first < top → IsPart first cards taken
    → IsPart top (first ∷ cards) (first ∷ taken)
part_with top first cards taken least below part = record {
  falls = (least, below, part.falls);
  held = λ card held. elim (or_cases (nat_eq card first) (holds taken card) held) [
    | inl same ↦ or_left (nat_eq card first) (holds cards card) same
    | inr later ↦ or_right (nat_eq card first) (holds cards card) (part.held card later)
  ];
}

part_without : (top first : ℕ) (cards taken : List ℕ) → first < top → IsPart first cards taken
    → IsPart top (first ∷ cards) taken
part_without top first cards taken below part = record {
  falls = FallsBelow-later first top taken (omega arith) part.falls;
  held = λ card held. or_right (nat_eq card first) (holds cards card) (part.held card held);
}

-- each choice of falling cards is some of them, falling
pub choices_of-parts : (top : ℕ) (cards : List ℕ) → FallsBelow top cards
    → AllByRecursion (IsPart top cards) (choices_of cards)
unfolding choices_of
choices_of-parts top [] falls = (record { falls = tt; held = λ card held. held }, tt)
choices_of-parts top (first ∷ cards) falls =
    each_append (IsPart top (first ∷ cards)) (map (λ taken. first ∷ taken) (choices_of cards)) (choices_of cards)
    (each_map (IsPart top (first ∷ cards)) (λ taken. first ∷ taken) (choices_of cards)
    (each_gives (IsPart first cards) (λ taken. IsPart top (first ∷ cards) (first ∷ taken)) (choices_of cards)
    (λ taken part. part_with top first cards taken falls.0 falls.1 part) (choices_of-parts first cards falls.2)))
    (each_gives (IsPart first cards) (IsPart top (first ∷ cards)) (choices_of cards)
    (λ taken part. part_without top first cards taken falls.1 part) (choices_of-parts first cards falls.2))

-- West's cards are missing ones, and fall
pub layouts-parts : (question : Question) → AllByRecursion (IsPart 15 (missing question)) (layouts question)
unfolding layouts
layouts-parts question =
    each_filter (IsPart 15 (missing question)) (λ west. is_west_length question (length west))
    (choices_of (missing question))
    (choices_of-parts 15 (missing question) (IsHolding-others_of question.north question.south))

-- under a layout West's cards fall and are missing ones
pub layouts_are_deals : (question : Question) (west : List ℕ)
    → IsHolding question.north → IsHolding question.south
    → IsTrue (not (list_any (holds question.south) question.north))
    → Contains (layouts question) west → IsDeal question west × IsHolding west
layouts_are_deals question west north south apart found =
    let part = each_at (IsPart 15 (missing question)) (layouts question) west (layouts-parts question) found in
    (record { north = north; south = south; apart = apart; defenders = part.held }, part.falls)

-- a missing card is in neither hand of declarer
pub missing-apart : (question : Question) (card : ℕ) → holds (missing question) card ≡ true
    → (holds question.north card ≡ true → ⊥) × (holds question.south card ≡ true → ⊥)
missing-apart question card held =
    let neither : (holds question.north card ≡ false) × (holds question.south card ≡ false) =
    or_parts (holds question.north card) (holds question.south card)
    (not-true (holds question.north card || holds question.south card)
    (holds-from_filter (λ rank. not (holds question.north rank || holds question.south rank)) suit card held).1) in
    (λ in_north. true≢false (sym in_north ∙ neither.0), λ in_south. true≢false (sym in_south ∙ neither.1))

-- a card of the suit that is in neither is missing
pub holds-missing : (question : Question) (card : ℕ) → 2 ≤ card → card < 15 → holds question.north card ≡ false
    → holds question.south card ≡ false
    → holds (missing question) card ≡ true
holds-missing question card least below north south =
    holds-others_of question.north question.south card (least, omega arith)
    ∙ rw (or_from (holds question.north card) (holds question.south card) north south) refl

-- each hand falls
pub dealt-falls : (question : Question) (west : List ℕ) → IsHolding question.north → IsHolding question.south
    → IsHolding west
    → (seat : Seat) → IsHolding (dealt question west seat)
unfolding without
dealt-falls question west north south falls N = north
dealt-falls question west north south falls E =
    IsHolding-filter (λ card. not (holds west card)) (missing question)
    (IsHolding-others_of question.north question.south)
dealt-falls question west north south falls S = south
dealt-falls question west north south falls W = falls

-- the defenders hold missing cards alone
pub east-missing : (question : Question) (west : List ℕ) (card : ℕ) → holds (dealt question west E) card ≡ true
    → holds (missing question) card ≡ true
east-missing question west card held = (holds-from_without (missing question) west card held).0
