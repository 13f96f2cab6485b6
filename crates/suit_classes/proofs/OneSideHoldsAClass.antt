-- The cards that the seats were dealt, by their classes.
use Rattle.std.proofs.Common.{◌≡◌, ℕ, ◌-◌, Bool, true, false, not, List, [], ◌∷◌, length, refl, sym, ap, ◌∙◌, inl, inr}
use Rattle.std.proofs.Common.{arith}
use Rattle.std.specs.Prelude.{map, filter, ◌==◌, ◌&&◌, if◌then◌else◌}
use Rattle.std.proofs.lemmas.Bool.{cases_eq, true≢false, and_from, false_from_ne_true, eq-eqb, ne_eqb}
use Rattle.suit_cards.specs.Cards.{Cards}
use Rattle.suit_cards.specs.declared.seats.Seat.{Seat}
use Rattle.suit_cards.specs.declared.seats.Seat.TheVariants.{N, E, S, W}
use Rattle.suit_cards.specs.Holdings.{IsHolding, holds, suit}
use Rattle.suit_cards.specs.Ranks.{IsRank}
use Rattle.suit_cards.proofs.HoldingIsWhatItHolds.{IsHolding-filter, IsHolding-others_of, filter_suit-holds}
use Rattle.suit_cards.proofs.HoldingIsWhatItHolds.{holds-filter}
use Rattle.std.proofs.lemmas.List.Elements.{filter_agree}
use Rattle.suit_cards.proofs.SuitRuns.{filter_suit-agree}
use Rattle.suit_lists.proofs.Filters.{filter-filter}
use Rattle.suit_game.specs.declared.question.Question.{Question}
use Rattle.suit_game.specs.Deals.{IsDeal}
use Rattle.suit_game.specs.Positions.{dealt, without}
use Rattle.suit_game.specs.Question.{missing}
use Rattle.suit_game.specs.Strategies.{same_seat}
use Rattle.suit_game.proofs.WhatAHandHolds.{holds-from_without, holds-without, length-without_one, without_away}
use Rattle.suit_game.proofs.LayoutCards.{missing-apart, east-missing}
use Rattle.suit_game.proofs.LongestPlay.{none_shared}
use Rattle.suit_classes.specs.declared.classes.Owner.{Owner}
use Rattle.suit_classes.specs.declared.classes.Owner.TheVariants as owners
use Rattle.suit_classes.specs.Classes.{Hands, hands_of, holder, same_owner, class_of, class_owner, class_ranks}
use Rattle.suit_classes.specs.Classes.{defence_classes}
use Rattle.suit_classes.specs.ClassGame.{cards_in, counts_of}
use Rattle.suit_classes.specs.ClassPlaces.{held_by, side}
use Rattle.suit_classes.proofs.DefenceClasses.{missing_are, class_owner-class_of}
use Rattle.suit_classes.proofs.RankBlocks.{held_of_class}

-- a layout of a question whose hands are a deal
pub record IsDealt (question : Question) (west : Cards) : Type 0 where
  pub deal : IsDeal question west
  pub holding : IsHolding west

-- a holding without some cards is a holding
pub IsHolding-without : (cards gone : Cards) → IsHolding cards → IsHolding (without cards gone)
unfolding without
IsHolding-without cards gone is = IsHolding-filter (λ card. not (holds gone card)) cards is

-- each seat was dealt a holding
pub IsHolding-dealt : (question : Question) (west : Cards) (seat : Seat) → IsDealt question west
    → IsHolding (dealt question west seat)
IsHolding-dealt question west N is = is.deal.north
IsHolding-dealt question west S is = is.deal.south
IsHolding-dealt question west W is = is.holding
IsHolding-dealt question west E is =
    IsHolding-without (missing question) west (IsHolding-others_of question.north question.south)

held_north : (north south : Bool) → north ≡ true
    → (if north then owners.N else if south then owners.S else owners.Defence) ≡ owners.N
held_north north south held = rw held refl

held_south : (north south : Bool) → north ≡ false → south ≡ true
    → (if north then owners.N else if south then owners.S else owners.Defence) ≡ owners.S
held_south north south apart held = rw (apart, held) refl

held_neither : (north south : Bool) → north ≡ false → south ≡ false
    → (if north then owners.N else if south then owners.S else owners.Defence) ≡ owners.Defence
held_neither north south away apart = rw (away, apart) refl

-- a missing card was the defenders'
pub missing_holder : (question : Question) (card : ℕ) → holds (missing question) card ≡ true
    → holder (hands_of question) card ≡ owners.Defence
missing_holder question card held =
    let apart = missing-apart question card held in
    held_neither (holds question.north card) (holds question.south card)
    (false_from_ne_true (holds question.north card) apart.0) (false_from_ne_true (holds question.south card) apart.1)

-- who was dealt a card held it
pub holder-dealt : (question : Question) (west : Cards) (seat : Seat) (card : ℕ) → IsDealt question west
    → holds (dealt question west seat) card ≡ true
    → holder (hands_of question) card ≡ side seat
holder-dealt question west N card is held = held_north (holds question.north card) (holds question.south card) held
holder-dealt question west S card is held =
    held_south (holds question.north card) (holds question.south card)
    (false_from_ne_true (holds question.north card)
    (λ in_north. none_shared question.north question.south is.deal.apart card in_north held)) held
holder-dealt question west W card is held = missing_holder question card (is.deal.defenders card held)
holder-dealt question west E card is held = missing_holder question card (east-missing question west card held)

apart_owners : (here there : Owner) → same_owner here there ≡ false → here ≡ there → ⊥
apart_owners owners.N owners.N differ same = true≢false differ
apart_owners owners.S owners.S differ same = true≢false differ
apart_owners owners.Defence owners.Defence differ same = true≢false differ
apart_owners owners.N owners.S differ same = absurd (cc)
apart_owners owners.N owners.Defence differ same = absurd (cc)
apart_owners owners.S owners.N differ same = absurd (cc)
apart_owners owners.S owners.Defence differ same = absurd (cc)
apart_owners owners.Defence owners.N differ same = absurd (cc)
apart_owners owners.Defence owners.S differ same = absurd (cc)

apart_by_side : (question : Question) (west : Cards) (seat other : Seat) (card : ℕ) → IsDealt question west
    → same_owner (side seat) (side other) ≡ false
    → holds (dealt question west seat) card ≡ true → holds (dealt question west other) card ≡ false
apart_by_side question west seat other card is differ held =
    false_from_ne_true (holds (dealt question west other) card)
    (λ too. apart_owners (side seat) (side other) differ
    (sym (holder-dealt question west seat card is held) ∙ holder-dealt question west other card is too))

east_apart : (question : Question) (west : Cards) (card : ℕ) → holds west card ≡ true
    → holds (without (missing question) west) card ≡ false
east_apart question west card held =
    false_from_ne_true (holds (without (missing question) west) card)
    (λ too. true≢false (sym held ∙ (holds-from_without (missing question) west card too).1))

west_apart : (question : Question) (west : Cards) (card : ℕ) → holds (without (missing question) west) card ≡ true
    → holds west card ≡ false
west_apart question west card held = (holds-from_without (missing question) west card held).1

-- no other seat was dealt the card
pub dealt_apart : (question : Question) (west : Cards) (seat other : Seat) (card : ℕ) → IsDealt question west
    → same_seat seat other ≡ false
    → holds (dealt question west seat) card ≡ true → holds (dealt question west other) card ≡ false
dealt_apart question west N N card is differ held = absurd (true≢false differ)
dealt_apart question west S S card is differ held = absurd (true≢false differ)
dealt_apart question west E E card is differ held = absurd (true≢false differ)
dealt_apart question west W W card is differ held = absurd (true≢false differ)
dealt_apart question west W E card is differ held = east_apart question west card held
dealt_apart question west E W card is differ held = west_apart question west card held
dealt_apart question west N S card is differ held = apart_by_side question west N S card is refl held
dealt_apart question west N E card is differ held = apart_by_side question west N E card is refl held
dealt_apart question west N W card is differ held = apart_by_side question west N W card is refl held
dealt_apart question west S N card is differ held = apart_by_side question west S N card is refl held
dealt_apart question west S E card is differ held = apart_by_side question west S E card is refl held
dealt_apart question west S W card is differ held = apart_by_side question west S W card is refl held
dealt_apart question west E N card is differ held = apart_by_side question west E N card is refl held
dealt_apart question west E S card is differ held = apart_by_side question west E S card is refl held
dealt_apart question west W N card is differ held = apart_by_side question west W N card is refl held
dealt_apart question west W S card is differ held = apart_by_side question west W S card is refl held

-- two cards of one class were held by one side
pub class_held_by_one : (hands : Hands) (card other : ℕ) → IsRank card → IsRank other
    → class_of hands card ≡ class_of hands other → holder hands card ≡ holder hands other
class_held_by_one hands card other is too same =
    sym (class_owner-class_of hands card is) ∙ ap (class_owner hands) same ∙ class_owner-class_of hands other too

either_empty : (b : Bool) (xs : List ℕ) → length (if b then xs else []) ≡ (if b then length xs else 0)
either_empty true xs = refl
either_empty false xs = refl

-- a side that held these cards was dealt a class whole, or none of it
cards_in-side : (hands : Hands) (owner : Owner) (cards : Cards) (class : ℕ)
    → filter (λ rank. same_owner (holder hands rank) owner) suit ≡ cards
    → cards_in hands cards class ≡ held_by hands owner class
cards_in-side hands owner cards class are =
    ap (λ (l : List ℕ). cards_in hands l class) (sym are)
    ∙ ap length (held_of_class hands owner class)
    ∙ either_empty (same_owner (class_owner hands class) owner) (class_ranks hands class)

north_test : (north south : Bool)
    → same_owner (if north then owners.N else if south then owners.S else owners.Defence) owners.N ≡ north
north_test true south = refl
north_test false true = refl
north_test false false = refl

south_test : (north south : Bool) → (north ≡ true → south ≡ true → ⊥)
    → same_owner (if north then owners.N else if south then owners.S else owners.Defence) owners.S ≡ south
south_test true true apart = absurd (apart refl refl)
south_test true false apart = refl
south_test false true apart = refl
south_test false false apart = refl

pub cards_in-north : (question : Question) (west : Cards) (class : ℕ) → IsDealt question west
    → cards_in (hands_of question) question.north class ≡ held_by (hands_of question) owners.N class
cards_in-north question west class is =
    cards_in-side (hands_of question) owners.N question.north class
    (filter_suit-agree (λ rank. same_owner (holder (hands_of question) rank) owners.N) (holds question.north)
    (λ rank least most. north_test (holds question.north rank) (holds question.south rank))
    ∙ filter_suit-holds question.north is.deal.north)

pub cards_in-south : (question : Question) (west : Cards) (class : ℕ) → IsDealt question west
    → cards_in (hands_of question) question.south class ≡ held_by (hands_of question) owners.S class
cards_in-south question west class is =
    cards_in-side (hands_of question) owners.S question.south class
    (filter_suit-agree (λ rank. same_owner (holder (hands_of question) rank) owners.S) (holds question.south)
    (λ rank least most. south_test (holds question.north rank) (holds question.south rank)
    (none_shared question.north question.south is.deal.apart rank))
    ∙ filter_suit-holds question.south is.deal.south)

pub cards_in-missing : (question : Question) (class : ℕ)
    → cards_in (hands_of question) (missing question) class ≡ held_by (hands_of question) owners.Defence class
cards_in-missing question class =
    cards_in-side (hands_of question) owners.Defence (missing question) class (missing_are (hands_of question))

and_swapped : (a b : Bool) → (a && b) ≡ (b && a)
and_swapped true true = refl
and_swapped true false = refl
and_swapped false true = refl
and_swapped false false = refl

-- the cards of a class among those not gone are those not gone of the class
pub cards_left_of_class : (hands : Hands) (cards gone : Cards) (class : ℕ)
    → filter (λ card. class_of hands card == class) (without cards gone) ≡ without
    (filter (λ card. class_of hands card == class) cards) gone
unfolding without
cards_left_of_class hands cards gone class =
    filter-filter (λ card. not (holds gone card)) (λ card. class_of hands card == class) cards
    ∙ filter_agree (λ card. not (holds gone card) && (class_of hands card == class))
    (λ card. (class_of hands card == class) && not (holds gone card))
    (λ card. and_swapped (not (holds gone card)) (class_of hands card == class)) cards
    ∙ sym (filter-filter (λ card. class_of hands card == class) (λ card. not (holds gone card)) cards)

-- as a card of a hand goes, the hand has one card less of its class, and as many of the others
pub cards_in-played : (hands : Hands) (cards gone : Cards) (card class : ℕ) → IsHolding cards
    → holds (without cards gone) card ≡ true
    → cards_in hands (without cards (card ∷ gone)) class ≡ cards_in hands (without cards gone) class -
    (if class_of hands card == class then 1 else 0)
cards_in-played hands cards gone card class is held =
    let parts = holds-from_without cards gone card held in
    let test : ℕ → Bool = λ x. class_of hands x == class in
    elim (cases_eq (class_of hands card) class) [
      | inl here ↦
          let kept : holds (filter test cards) card ≡ true =
          holds-filter test cards card
          ∙ and_from (holds cards card) (test card) parts.0 (eq-eqb (class_of hands card) class here) in
          let one =
          length-without_one 15 (filter test cards) gone card (IsHolding-filter test cards is)
          (holds-without (filter test cards) gone card kept parts.1) in
          rw (eq-eqb (class_of hands card) class here)
          (omega (
            arith,
            one,
            ap length (cards_left_of_class hands cards (card ∷ gone) class),
            ap length (cards_left_of_class hands cards gone class),
          ))
      | inr other ↦
          let away : holds (filter test cards) card ≡ false =
          holds-filter test cards card
          ∙ ap (λ (b : Bool). holds cards card && b) (ne_eqb (class_of hands card) class other)
          ∙ and_swapped (holds cards card) false in
          rw (ne_eqb (class_of hands card) class other)
          (omega (
            arith,
            ap length (cards_left_of_class hands cards (card ∷ gone) class
                ∙ without_away (filter test cards) gone card away),
            ap length (cards_left_of_class hands cards gone class),
          ))
    ]

-- as another card goes, the hand keeps its cards
pub cards_in-kept : (hands : Hands) (cards gone : Cards) (card class : ℕ) → holds cards card ≡ false
    → cards_in hands (without cards (card ∷ gone)) class ≡ cards_in hands (without cards gone) class - 0
cards_in-kept hands cards gone card class away =
    omega (arith, ap (λ (l : List ℕ). cards_in hands l class) (without_away cards gone card away))

held_of_ranks : (hands : Hands) (west : Cards) (class : ℕ) → IsHolding west
    → cards_in hands west class ≡ length (filter (holds west) (class_ranks hands class))
held_of_ranks hands west class is =
    let test : ℕ → Bool = λ card. class_of hands card == class in
    ap (λ (l : List ℕ). length (filter test l)) (sym (filter_suit-holds west is))
    ∙ ap length
    (filter-filter (holds west) test suit
    ∙ filter_agree (λ card. holds west card && test card) (λ card. test card && holds west card)
    (λ card. and_swapped (holds west card) (test card)) suit
    ∙ sym (filter-filter test (holds west) suit))

counts_in : (hands : Hands) (west classes : List ℕ) → IsHolding west
    → map (cards_in hands west) classes ≡ map (λ class. length (filter (holds west) (class_ranks hands class))) classes
counts_in hands west [] is = refl
counts_in hands west (class ∷ classes) is =
    ap (λ (n : ℕ). n ∷ map (cards_in hands west) classes) (held_of_ranks hands west class is)
    ∙ ap (λ (l : List ℕ). length (filter (holds west) (class_ranks hands class)) ∷ l) (counts_in hands west classes is)

-- West's counts are how many cards he holds of each block of the missing cards
pub counts_by_blocks : (hands : Hands) (west : Cards) → IsHolding west
    → counts_of hands west ≡ map (λ class. length (filter (holds west) (class_ranks hands class)))
    (defence_classes hands)
counts_by_blocks hands west is = counts_in hands west (defence_classes hands) is
