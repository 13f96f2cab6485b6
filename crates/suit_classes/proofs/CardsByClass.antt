-- Cards by class: what is held, left and gone of a class, and that equal counts are of equally many cards: alike_long.
use Rattle.std.proofs.Common.{◌≡◌, ℕ, ◌+◌, ◌<◌, Bool, true, false, cond, [], ◌∷◌, length, map, refl, sym, ap, ◌∙◌}
use Rattle.std.proofs.Common.{subst, inl, inr, arith}
use Rattle.std.specs.Prelude.{filter, sum, sum_by, Contains, ◌==◌, if◌then◌else◌}
use Rattle.std.specs.List.{AllByRecursion, range_with_len}
use Rattle.std.proofs.lemmas.Bool.{eq-eqb, ne_eqb}
use Rattle.std.proofs.lemmas.List.Sums.{sum_by-cons}
use Rattle.suit_lists.proofs.Elements.{Contains-cons_cases, Contains-nil, each_at}
use Rattle.suit_lists.proofs.Filters.{Contains-filter}
use Rattle.suit_lists.proofs.Once.{IsOnce, once_filter, once_range}
use Rattle.suit_lists.proofs.Sums.{sum_by_none, sum_by_same}
use Rattle.suit_lists.proofs.Walks.{Contains-range}
use Rattle.suit_cards.specs.Cards.{Cards, Indices}
use Rattle.suit_cards.specs.Holdings.{holds}
use Rattle.suit_cards.proofs.WhetherARankIsHeld.{holds_tells}
use Rattle.suit_cards.proofs.HoldingIsWhatItHolds.{IsHolding-others_of, IsRank-held}
use Rattle.suit_game.specs.declared.question.Question.{Question}
use Rattle.suit_game.specs.Positions.{without}
use Rattle.suit_game.specs.Question.{missing}
use Rattle.suit_game.proofs.WhatAHandHolds.{each_held, length-left_and_gone}
use Rattle.suit_classes.specs.declared.classes.Owner.TheVariants as owners
use Rattle.suit_classes.specs.Classes.{Hands, hands_of, class_count, class_of, class_owner, defence_classes, same_owner}
use Rattle.suit_classes.specs.ClassGame.{cards_in, counts_of}
use Rattle.suit_classes.proofs.ClassNumbers.{class_of-below}
use Rattle.suit_classes.proofs.OneSideHoldsAClass.{cards_left_of_class, missing_holder}
use Rattle.suit_classes.proofs.DefenceClasses.{class_owner-class_of}

one_more : (b : Bool) (card : ℕ) (cards : Cards)
    → length (cond b (card ∷ cards) cards) ≡ (if b then 1 else 0) + length cards
one_more true card cards = omega arith
one_more false card cards = omega arith

-- a card more is one more of its class
pub cards_in-more : (hands : Hands) (card : ℕ) (cards : Cards) (class : ℕ)
    → cards_in hands (card ∷ cards) class ≡ (if class_of hands card == class then 1 else 0) + cards_in hands cards class
cards_in-more hands card cards class =
    one_more (class_of hands card == class) card (filter (λ other. class_of hands other == class) cards)

some_in : (hands : Hands) (cards : Cards) (card : ℕ) → Contains cards card
    → 0 < cards_in hands cards (class_of hands card)
some_in hands [] card found = absurd (Contains-nil card found)
some_in hands (first ∷ cards) card found = elim (Contains-cons_cases first cards card found) [
  | inl here ↦
      let same = eq-eqb (class_of hands first) (class_of hands card) (ap (class_of hands) here) in
      omega
      (arith, cards_in-more hands first cards (class_of hands card), ap {B = ℕ} (λ (b : Bool). if b then 1 else 0) same)
  | inr there ↦ omega (arith, cards_in-more hands first cards (class_of hands card), some_in hands cards card there)
]

-- whoever holds a card holds some of its class
pub cards_in-held : (hands : Hands) (cards : Cards) (card : ℕ) → holds cards card ≡ true
    → 0 < cards_in hands cards (class_of hands card)
cards_in-held hands cards card held = some_in hands cards card ((holds_tells cards card).0 held)

-- the cards of a class are those left of it and those gone
pub cards_in-left_and_gone : (hands : Hands) (cards gone : Cards) (class : ℕ)
    → cards_in hands (without cards gone) class + length
    (filter (holds gone) (filter (λ card. class_of hands card == class) cards))
    ≡ cards_in hands cards class
cards_in-left_and_gone hands cards gone class =
    omega (
      arith,
      ap length (cards_left_of_class hands cards gone class),
      length-left_and_gone (filter (λ card. class_of hands card == class) cards) gone,
    )

-- the class of a missing card is one of the defenders'
pub missing_class : (question : Question) (card : ℕ) → holds (missing question) card ≡ true
    → Contains (defence_classes (hands_of question)) (class_of (hands_of question) card)
missing_class question card held =
    let hands : Hands = hands_of question in
    let rank = IsRank-held (missing question) card (IsHolding-others_of question.north question.south) held in
    Contains-filter (λ class. same_owner (class_owner hands class) owners.Defence)
    (range_with_len 0 (class_count hands)) (class_of hands card)
    (Contains-range 0 (class_count hands) (class_of hands card) (omega arith) (omega (
      arith,
      class_of-below hands card rank,
    )))
    (ap (λ owner. same_owner owner owners.Defence) (class_owner-class_of hands card rank
    ∙ missing_holder question card held))

-- no class comes twice among the defenders'
pub once_defence : (hands : Hands) → IsOnce (defence_classes hands)
once_defence hands =
    once_filter (λ class. same_owner (class_owner hands class) owners.Defence) (range_with_len 0 (class_count hands))
    (once_range 0 (class_count hands))

-- a number is none of others
none_counted : (class : ℕ) (classes : Indices) → AllByRecursion (λ other. class ≡ other → ⊥) classes
    → sum_by (λ other. if class == other then 1 else 0) classes ≡ 0
none_counted class [] apart = refl
none_counted class (other ∷ classes) apart =
    let counted : ℕ → ℕ = λ number. if class == number then 1 else 0 in
    omega (
      arith,
      sum_by-cons counted other classes,
      ap {B = ℕ} (λ (b : Bool). if b then 1 else 0) (ne_eqb class other apart.0),
      none_counted class classes apart.1,
    )

-- a number that is once among others counts 1 there
one_counted : (class : ℕ) (classes : Indices) → IsOnce classes → Contains classes class
    → sum_by (λ other. if class == other then 1 else 0) classes ≡ 1
unfolding IsOnce
one_counted class [] once found = absurd (Contains-nil class found)
one_counted class (first ∷ classes) once found =
    let counted : ℕ → ℕ = λ number. if class == number then 1 else 0 in
    elim (Contains-cons_cases first classes class found) [
      | inl here ↦
          omega (
            arith,
            sum_by-cons counted first classes,
            ap {B = ℕ} (λ (b : Bool). if b then 1 else 0) (eq-eqb class first (sym here)),
            none_counted class classes (subst (λ (n : ℕ). AllByRecursion (λ other. n ≡ other → ⊥) classes) here once.0),
          )
      | inr there ↦
          let apart : first ≡ class → ⊥ = each_at (λ other. first ≡ other → ⊥) classes class once.0 there in
          omega (
            arith,
            sum_by-cons counted first classes,
            ap {B = ℕ} (λ (b : Bool). if b then 1 else 0) (ne_eqb class first (λ same. apart (sym same))),
            one_counted class classes once.1 there,
          )
    ]

both_sums : (f g : ℕ → ℕ) (classes : Indices)
    → sum_by (λ class. f class + g class) classes ≡ sum_by f classes + sum_by g classes
both_sums f g [] = omega arith
both_sums f g (class ∷ classes) =
    let both : ℕ → ℕ = λ number. f number + g number in
    omega (
      arith,
      sum_by-cons both class classes,
      sum_by-cons f class classes,
      sum_by-cons g class classes,
      both_sums f g classes,
    )

-- cards whose classes are all among some, of which none comes twice, are as many as those of the classes together
pub cards_in-all : (hands : Hands) (classes : Indices) (cards : Cards) → IsOnce classes
    → AllByRecursion (λ card. Contains classes (class_of hands card)) cards
    → sum_by (cards_in hands cards) classes ≡ length cards
cards_in-all hands classes [] once within = sum_by_none (cards_in hands []) classes (λ class. refl)
cards_in-all hands classes (card ∷ cards) once within =
    let counted : ℕ → ℕ = λ class. if class_of hands card == class then 1 else 0 in
    omega (
      arith,
      sum_by_same (cards_in hands (card ∷ cards)) (λ class. counted class + cards_in hands cards class) classes
          (cards_in-more hands card cards),
      both_sums counted (cards_in hands cards) classes,
      one_counted (class_of hands card) classes once within.0,
      cards_in-all hands classes cards once within.1,
    )

sum_of_map : (f : ℕ → ℕ) (classes : Indices) → sum (map f classes) ≡ sum_by f classes
sum_of_map f [] = refl
sum_of_map f (class ∷ classes) =
    omega (arith, sum_by-cons (λ n. n) (f class) (map f classes), sum_by-cons f class classes, sum_of_map f classes)

-- counts of missing cards add up to the number of the cards
pub counts_add_up : (question : Question) (cards : Cards)
    → ((card : ℕ) → holds cards card ≡ true → holds (missing question) card ≡ true)
    → sum (counts_of (hands_of question) cards) ≡ length cards
counts_add_up question cards within =
    sum_of_map (cards_in (hands_of question) cards) (defence_classes (hands_of question))
    ∙ cards_in-all (hands_of question) (defence_classes (hands_of question)) cards (once_defence (hands_of question))
    (each_held (λ card. Contains (defence_classes (hands_of question)) (class_of (hands_of question) card)) cards
    (λ card held. missing_class question card (within card held)))

-- so equal counts are of equally many cards, for any choice of missing cards
pub alike_long : (question : Question) (west other : Cards)
    → ((card : ℕ) → holds west card ≡ true → holds (missing question) card ≡ true)
    → ((card : ℕ) → holds other card ≡ true → holds (missing question) card ≡ true)
    → counts_of (hands_of question) west ≡ counts_of (hands_of question) other → length west ≡ length other
alike_long question west other within_west within_other same =
    sym (counts_add_up question west within_west) ∙ ap sum same ∙ counts_add_up question other within_other
