-- Before any move each seat has left what it was dealt of each class.
use Rattle.std.proofs.Common.{◌≡◌, ℕ, zero, suc, ◌+◌, ◌-◌, ◌<◌, Bool, true, false, cond, not, List, [], ◌∷◌, length}
use Rattle.std.proofs.Common.{get_or, refl, sym, ap, ◌∙◌, subst, inl, inr, arith}
use Rattle.std.specs.Prelude.{map, filter, nat_lt, ◌==◌, ◌&&◌, if◌then◌else◌}
use Rattle.std.specs.List.{range_with_len}
use Rattle.std.proofs.lemmas.Bool.{cases_lt, ltb-true, ltb-false, lt-ltb}
use Rattle.suit_cards.specs.Cards.{Cards}
use Rattle.suit_cards.specs.declared.seats.Seat.{Seat}
use Rattle.suit_cards.specs.declared.seats.Seat.TheVariants.{N, E, S, W}
use Rattle.suit_cards.specs.Holdings.{holds}
use Rattle.suit_cards.proofs.HoldingIsWhatItHolds.{IsHolding-filter, IsHolding-others_of, holds-filter, same_holding}
use Rattle.suit_game.specs.declared.question.Question.{Question}
use Rattle.suit_game.specs.Positions.{dealt, without}
use Rattle.suit_game.specs.Question.{missing}
use Rattle.suit_game.proofs.WhatAHandHolds.{length-left_and_gone, without-none}
use Rattle.suit_classes.specs.declared.classes.Owner.TheVariants as owners
use Rattle.suit_classes.specs.Classes.{Hands, hands_of, same_owner, class_of, class_count, class_owner, class_size}
use Rattle.suit_classes.specs.ClassGame.{cards_in, counts_of}
use Rattle.suit_classes.specs.ClassPlaces.{class_start, dealt_to, is_defence_class, left, west_count}
use Rattle.suit_classes.proofs.ClassNumbers.{class_size-some}
use Rattle.suit_classes.proofs.CountedClassByClass.{class_size-none, dealt_to-at, none_played-at}
use Rattle.suit_classes.proofs.OneSideHoldsAClass.{IsDealt, cards_in-north, cards_in-south, cards_in-missing}
use Rattle.suit_classes.proofs.OneSideHoldsAClass.{cards_left_of_class}
use Rattle.suit_classes.specs.declared.classes.TheConstants.{MOST_CLASSES}

at_place_either : (f : ℕ → ℕ) (from : ℕ) (xs ys : List ℕ) (value : ℕ) (b : Bool)
    → get_or (map f xs) (length ys) 0 ≡ value
    → get_or (map f (cond b (from ∷ xs) xs)) (length (cond b (from ∷ ys) ys)) 0 ≡ value
at_place_either f from xs ys value true later = later
at_place_either f from xs ys value false later = later

at_place : (f : ℕ → ℕ) (p : ℕ → Bool) (from before count : ℕ) → before < count → p (from + before) ≡ true
    → get_or (map f (filter p (range_with_len from count))) (length (filter p (range_with_len from before))) 0 ≡ f
    (from + before)
at_place f p from before zero small passes = absurd (omega arith)
at_place f p from zero (suc count) small passes =
    let here : p from ≡ true = subst (λ (n : ℕ). p n ≡ true) (omega arith) passes in
    rw here (ap f (omega arith))
at_place f p from (suc before) (suc count) small passes =
    let turned : from + 1 + before ≡ from + suc before = omega arith in
    at_place_either f from (filter p (range_with_len (from + 1) count)) (filter p (range_with_len (from + 1) before))
    (f (from + suc before)) (p from)
    (at_place f p (from + 1) before count (omega arith) (subst (λ (n : ℕ). p n ≡ true) (sym turned) passes)
    ∙ ap f turned)

held_some : (b : Bool) (size : ℕ) → 0 < size → nat_lt 0 (if b then size else 0) ≡ b
held_some true size some = lt-ltb 0 size some
held_some false size some = refl

-- a class is the defenders' where they were dealt cards of it
defence_told : (question : Question) (class : ℕ) → class < class_count (hands_of question) → class < MOST_CLASSES
    → is_defence_class (class_start question) class ≡ same_owner (class_owner (hands_of question) class) owners.Defence
defence_told question class few small =
    ap (nat_lt 0) (dealt_to-at (hands_of question) owners.Defence class small)
    ∙ held_some (same_owner (class_owner (hands_of question) class) owners.Defence)
    (class_size (hands_of question) class) (class_size-some (hands_of question) class few)

-- tests that agree on numbers keep the same of them
pub same_filter : (p q : ℕ → Bool) (from count : ℕ) → ((k : ℕ) → k < from + count → p k ≡ q k)
    → filter p (range_with_len from count) ≡ filter q (range_with_len from count)
same_filter p q from zero same = refl
same_filter p q from (suc count) same =
    rw (same from (omega arith))
    (ap (λ (l : List ℕ). cond (q from) (from ∷ l) l) (same_filter p q (from + 1) count (λ k low. same k (omega arith))))

held_few : (hands : Hands) (b : Bool) (class : ℕ) → 0 < (if b then class_size hands class else 0)
    → (class < class_count hands) × (b ≡ true)
held_few hands true class some = elim (cases_lt class (class_count hands)) [
  | inl few ↦ (few, refl)
  | inr past ↦ absurd (omega (arith, class_size-none hands class past))
]
held_few hands false class some = absurd (omega arith)

-- West's count in one of the defenders' classes stands at the class's place
pub west_count-start : (question : Question) (west : Cards) (class : ℕ) → class < MOST_CLASSES
    → is_defence_class (class_start question) class ≡ true
    → west_count (class_start question) (counts_of (hands_of question) west) class ≡ cards_in
    (hands_of question) west class
west_count-start question west class small is =
    let hands : Hands = hands_of question in
    let p : ℕ → Bool = λ c. same_owner (class_owner hands c) owners.Defence in
    let told =
    held_few hands (p class) class
    (subst (λ (n : ℕ). 0 < n) (dealt_to-at hands owners.Defence class small)
    (ltb-true 0 (get_or (dealt_to hands owners.Defence) class 0) is)) in
    let up : 0 + class ≡ class = omega arith in
    ap (λ (l : List ℕ). get_or (counts_of hands west) (length l) 0)
    (same_filter (is_defence_class (class_start question)) p 0 class
    (λ k low. defence_told question k (omega (arith, told.0)) (omega arith)))
    ∙ at_place (cards_in hands west) p 0 class (class_count hands) told.0
    (subst (λ (n : ℕ). p n ≡ true) (sym up) told.1)
    ∙ ap (cards_in hands west) up

kept_or_held : (b : Bool) (x : ℕ) (xs ys : List ℕ) (n : ℕ) → length xs + length ys ≡ n
    → length (cond (not b) (x ∷ xs) xs) + length (cond b (x ∷ ys) ys) ≡ suc n
kept_or_held true x xs ys n both = omega arith
kept_or_held false x xs ys n both = omega arith

part_test : (missing west test : Bool) → (west ≡ true → missing ≡ true) → ((missing && test) && west) ≡ (west && test)
part_test true true true within = refl
part_test true true false within = refl
part_test true false true within = refl
part_test true false false within = refl
part_test false true test within = absurd (let wrong : false ≡ true = within refl in cc)
part_test false false test within = refl

-- West's cards and East's of a class are the missing ones
pub cards_in-parts : (question : Question) (west : Cards) (class : ℕ) → IsDealt question west
    → cards_in (hands_of question) (without (missing question) west) class + cards_in
    (hands_of question) west class ≡ cards_in (hands_of question) (missing question) class
cards_in-parts question west class is =
    let test : ℕ → Bool = λ card. class_of (hands_of question) card == class in
    let those : filter (holds west) (filter test (missing question)) ≡ filter test west =
    same_holding (filter (holds west) (filter test (missing question))) (filter test west)
    (IsHolding-filter (holds west) (filter test (missing question))
    (IsHolding-filter test (missing question) (IsHolding-others_of question.north question.south)))
    (IsHolding-filter test west is.holding)
    (λ rank least most.
    holds-filter (holds west) (filter test (missing question)) rank
    ∙ ap (λ (b : Bool). b && holds west rank) (holds-filter test (missing question) rank)
    ∙ part_test (holds (missing question) rank) (holds west rank) (test rank) (is.deal.defenders rank)
    ∙ sym (holds-filter test west rank)) in
    omega (
      arith,
      ap length (cards_left_of_class (hands_of question) (missing question) west class),
      length-left_and_gone (filter test (missing question)) west,
      ap length those,
    )

no_cards : (hands : Hands) (cards : Cards) (class : ℕ)
    → cards_in hands (without cards []) class ≡ cards_in hands cards class
no_cards hands cards class = ap (λ (l : List ℕ). cards_in hands l class) (without-none cards)

west_left : (defence : Bool) (count cards : ℕ) → (defence ≡ true → count ≡ cards) → (defence ≡ false → cards ≡ 0)
    → (if defence then count - 0 else 0) ≡ cards
west_left true count cards some none = omega (arith, some refl)
west_left false count cards some none = sym (none refl)

east_left : (defence : Bool) (size count west east : ℕ) → east + west ≡ size → (defence ≡ true → count ≡ west)
    → (defence ≡ false → size ≡ 0)
    → (if defence then size - count - 0 else 0) ≡ east
east_left true size count west east parts some none = omega (arith, some refl)
east_left false size count west east parts some none = omega (arith, none refl)

-- before any move each seat has left what it was dealt
pub left-start : (question : Question) (west : Cards) (seat : Seat) (class : ℕ) → IsDealt question west → class < MOST_CLASSES
    → left (class_start question) (counts_of (hands_of question) west) seat class ≡ cards_in (hands_of question)
    (without (dealt question west seat) []) class
left-start question west N class is small =
    dealt_to-at (hands_of question) owners.N class small ∙ sym (cards_in-north question west class is)
    ∙ sym (no_cards (hands_of question) question.north class)
left-start question west S class is small =
    dealt_to-at (hands_of question) owners.S class small ∙ sym (cards_in-south question west class is)
    ∙ sym (no_cards (hands_of question) question.south class)
left-start question west W class is small =
    let size : get_or (dealt_to (hands_of question) owners.Defence) class 0
    ≡ cards_in (hands_of question) (missing question) class =
    dealt_to-at (hands_of question) owners.Defence class small ∙ sym (cards_in-missing question class) in
    let parts = cards_in-parts question west class is in
    (rw (none_played-at class)
    (west_left (is_defence_class (class_start question) class)
    (west_count (class_start question) (counts_of (hands_of question) west) class)
    (cards_in (hands_of question) west class) (west_count-start question west class small)
    (λ none. omega (arith, ltb-false 0 (get_or (dealt_to (hands_of question) owners.Defence) class 0) none))))
    ∙ sym (no_cards (hands_of question) west class)
left-start question west E class is small =
    let size : get_or (dealt_to (hands_of question) owners.Defence) class 0
    ≡ cards_in (hands_of question) (missing question) class =
    dealt_to-at (hands_of question) owners.Defence class small ∙ sym (cards_in-missing question class) in
    let parts = cards_in-parts question west class is in
    (rw (none_played-at class)
    (east_left (is_defence_class (class_start question) class)
    (get_or (dealt_to (hands_of question) owners.Defence) class 0)
    (west_count (class_start question) (counts_of (hands_of question) west) class)
    (cards_in (hands_of question) west class) (cards_in (hands_of question) (without (missing question) west) class)
    (omega arith) (west_count-start question west class small)
    (λ none. omega (arith, ltb-false 0 (get_or (dealt_to (hands_of question) owners.Defence) class 0) none))))
    ∙ sym (no_cards (hands_of question) (without (missing question) west) class)
