-- How many layouts have West's counts and are alike on the cards gone (alike_counted), and how that number changes as
-- a defender's card goes (alike_step).
use Rattle.std.proofs.Common.{◌≡◌, ℕ, suc, ◌+◌, ◌*◌, Bool, true, false, cond, not, nat_eq, List, [], ◌∷◌, length}
use Rattle.std.proofs.Common.{map, refl, sym, ap, ◌∙◌, arith}
use Rattle.std.specs.Prelude.{Contains, bytes_eq, ◌&&◌, ◌-◌, if◌then◌else◌}
use Rattle.std.specs.List.{AllByRecursion, filter, sum_by}
use Rattle.std.proofs.lemmas.Bool.{eq-eqb, ne_eqb, false≢true}
use Rattle.std.proofs.lemmas.List.Sums.{sum_by-cons}
use Rattle.std.proofs.lemmas.Slice.Eq.{bytes_eq-Decides}
use Rattle.suit_lists.proofs.Elements.{each_at, each_in}
use Rattle.suit_lists.proofs.Filters.{kept_parts}
use Rattle.suit_lists.proofs.Maps.{map_same}
use Rattle.suit_lists.proofs.Sums.{length_filter, sum_by_alike, sum_by_filter}
use Rattle.suit_cards.specs.Cards.{Cards}
use Rattle.suit_cards.specs.declared.seats.Seat.{Seat}
use Rattle.suit_cards.specs.declared.seats.Seat.TheVariants.{N, E, S, W}
use Rattle.suit_cards.specs.Holdings.{FallsBelow, IsHolding, holds}
use Rattle.suit_cards.proofs.HoldingIsWhatItHolds.{IsHolding-filter, IsHolding-others_of, same_holding}
use Rattle.suit_game.specs.declared.question.Question.{Question}
use Rattle.suit_game.specs.Gains.{is_declarer}
use Rattle.suit_game.specs.Layouts.{choices_of, is_west_length, layouts}
use Rattle.suit_game.specs.Positions.{dealt, without}
use Rattle.suit_game.specs.Question.{missing}
use Rattle.suit_game.proofs.WhatAHandHolds.{each_held, holds-from_without, holds-without, without_away}
use Rattle.suit_game.proofs.LayoutCards.{IsPart, choices_of-parts}
use Rattle.suit_classes.specs.Classes.{Hands, hands_of, class_of, defence_classes}
use Rattle.suit_classes.specs.ClassGame.{cards_in, counts_of}
use Rattle.suit_classes.proofs.OneSideHoldsAClass.{IsDealt, IsHolding-without, cards_in-played}
use Rattle.suit_layouts.specs.ClassLayouts.{ways_of}
use Rattle.suit_lift.proofs.HowManyChoices.{counted_choices, east_step, map_at, told_alike, west_step}
use Rattle.suit_lift.proofs.ChoicesAmongTheRest.{free_choices, worth_at}
use Rattle.suit_classes.proofs.CardsByClass.{cards_in-held, missing_class, once_defence}
use Rattle.suit_game.proofs.WhatAHandHolds.{holds-left}
use Rattle.suit_lift.proofs.GoneAndLeft.{gone_of, group_sum, holds-gone_of}
use Rattle.suit_lift.proofs.GoneAndLeft.{parts_by_class}

-- whether a layout has West's counts, and the same of the cards gone
abbrev pub is_alike : Question → Cards → Cards → Cards → Bool
is_alike question west gone other =
    bytes_eq (counts_of (hands_of question) other) (counts_of (hands_of question) west)
    && bytes_eq (gone_of gone other) (gone_of gone west)

unfoldable pub alike_layouts : Question → Cards → Cards → List Cards
alike_layouts question west gone = filter (is_alike question west gone) (layouts question)

-- a layout is a choice of the missing cards of a length that West may have
pub layout_choice : (question : Question) (west : Cards) → Contains (layouts question) west
    → Contains (choices_of (missing question)) west × (is_west_length question (length west) ≡ true)
unfolding layouts
layout_choice question west found =
    kept_parts (λ other. is_west_length question (length other)) (choices_of (missing question)) west found

missing_falls : (question : Question) → FallsBelow 15 (missing question)
missing_falls question = IsHolding-others_of question.north question.south

choice_part : (question : Question) (taken : Cards) → Contains (choices_of (missing question)) taken
    → IsPart 15 (missing question) taken
choice_part question taken found =
    each_at (IsPart 15 (missing question)) (choices_of (missing question)) taken (choices_of-parts 15
    (missing question) (missing_falls question)) found

-- the cards of a choice are of the defenders' classes
pub choice_classes : (question : Question) (cards : Cards) → ((card : ℕ) → holds cards card ≡ true
    → holds (missing question) card ≡ true)
    → AllByRecursion (λ card. Contains (defence_classes (hands_of question)) (class_of (hands_of question) card)) cards
choice_classes question cards within =
    each_held (λ card. Contains (defence_classes (hands_of question)) (class_of (hands_of question) card)) cards
    (λ card held. missing_class question card (within card held))

length_one : (cards : Cards) → sum_by (λ card. 1) cards ≡ length cards
length_one [] = refl
length_one (card ∷ cards) = let one : ℕ → ℕ = λ other. 1 in omega (arith, sum_by-cons one card cards, length_one cards)

-- so equal counts have equal lengths
pub equal_lengths : (question : Question) (west other : Cards) → ((card : ℕ) → holds west card ≡ true
    → holds (missing question) card ≡ true)
    → ((card : ℕ) → holds other card ≡ true → holds (missing question) card ≡ true)
    → counts_of (hands_of question) other ≡ counts_of (hands_of question) west → length west ≡ length other
equal_lengths question west other within too same =
    let hands : Hands = hands_of question in
    let classes : List ℕ = defence_classes hands in
    sym (length_one west) ∙ sym (group_sum hands (λ class. 1) classes west (once_defence hands)
    (choice_classes question west within))
    ∙ sum_by_alike (λ class. cards_in hands west class * 1) (λ class. cards_in hands other class * 1) classes
    (each_in (λ class. cards_in hands west class * 1 ≡ cards_in hands other class * 1) classes
    (λ class found. ap (λ (n : ℕ). n * 1) (sym (map_at (cards_in hands other)
    (cards_in hands west) classes class same found))))
    ∙ group_sum hands (λ class. 1) classes other (once_defence hands) (choice_classes question other too)
    ∙ length_one other

module _ (question : Question) (west : Cards) (gone : Cards) (layout : Contains (layouts question) west) where
  -- the worth of a choice among the cards left: one where it has the counts that West has left
  left_worth : Cards → ℕ
  left_worth taken =
      if bytes_eq (map (cards_in (hands_of question) taken) (defence_classes (hands_of question)))
      (map (cards_in (hands_of question) (without west gone)) (defence_classes (hands_of question))) then 1 else 0

  counts_left : (taken : Cards) → gone_of gone taken ≡ gone_of gone west
      → bytes_eq (counts_of (hands_of question) taken) (counts_of (hands_of question) west)
      ≡ bytes_eq (map (cards_in (hands_of question) (without taken gone)) (defence_classes (hands_of question)))
      (map (cards_in (hands_of question) (without west gone)) (defence_classes (hands_of question)))
  counts_left taken same =
      let hands : Hands = hands_of question in
      let classes : List ℕ = defence_classes hands in
      let gone_same : (class : ℕ) → cards_in hands (gone_of gone taken) class
      ≡ cards_in hands (gone_of gone west) class = λ class. ap (λ (l : Cards). cards_in hands l class) same in
      told_alike (counts_of hands taken) (counts_of hands west) (map (cards_in hands (without taken gone)) classes)
      (map (cards_in hands (without west gone)) classes)
      (λ equal. map_same (cards_in hands (without taken gone)) (cards_in hands (without west gone)) classes
      (λ class found.
      omega (
        arith,
        map_at (cards_in hands taken)
            (cards_in hands west) classes class equal found,
        gone_same class,
        parts_by_class hands taken gone class,
        parts_by_class hands west gone class,
      )))
      (λ equal. map_same (cards_in hands taken) (cards_in hands west) classes (λ class found.
      omega (
        arith,
        map_at (cards_in hands (without taken gone)) (cards_in hands (without west gone)) classes class equal found,
        gone_same class,
        parts_by_class hands taken gone class,
        parts_by_class hands west gone class,
      )))

  told_case : (taken : Cards) → IsPart 15 (missing question) taken → (equal : Bool)
      → bytes_eq (gone_of gone taken) (gone_of gone west) ≡ equal
      → (counted : Bool) → bytes_eq (counts_of (hands_of question) taken) (counts_of (hands_of question) west) ≡ counted
      → cond {A = ℕ} (is_west_length question (length taken)) (cond {A = ℕ}
      (is_alike question west gone taken) 1 0) 0 ≡ worth_at left_worth gone (gone_of gone west) taken
  unfolding left_worth
  told_case taken part false is counted are = rw (is, are) (none (is_west_length question (length taken)) counted)
    where
      none : (fits told : Bool) → cond {A = ℕ} fits (cond {A = ℕ} (told && false) 1 0) 0 ≡ 0
      none true true = refl
      none true false = refl
      none false told = refl
  told_case taken part true is true are =
      let same : gone_of gone taken ≡ gone_of gone west = (bytes_eq-Decides (gone_of gone taken)
      (gone_of gone west)).0 is in
      let left : bytes_eq (map (cards_in (hands_of question) (without taken gone)) (defence_classes
      (hands_of question)))
      (map (cards_in (hands_of question) (without west gone)) (defence_classes (hands_of question)))
      ≡ true = sym (counts_left taken same) ∙ are in
      let choice = layout_choice question west layout in
      let long : length west ≡ length taken =
      equal_lengths question west taken (choice_part question west choice.0).held part.held ((bytes_eq-Decides
      (counts_of (hands_of question) taken) (counts_of (hands_of question) west)).0 are) in
      let fits : is_west_length question (length taken) ≡ true = ap (is_west_length question) (sym long) ∙ choice.1 in
      rw (is, are, left, fits) refl
  told_case taken part true is false are =
      let same : gone_of gone taken ≡ gone_of gone west = (bytes_eq-Decides (gone_of gone taken)
      (gone_of gone west)).0 is in
      let left : bytes_eq (map (cards_in (hands_of question) (without taken gone)) (defence_classes
      (hands_of question)))
      (map (cards_in (hands_of question) (without west gone)) (defence_classes (hands_of question)))
      ≡ false = sym (counts_left taken same) ∙ are in
      rw (is, are, left) (none (is_west_length question (length taken)))
    where
      none : (fits : Bool) → cond {A = ℕ} fits 0 0 ≡ 0
      none true = refl
      none false = refl

  -- as many layouts have West's counts and are alike on the cards gone as there are ways to choose what West has left
  -- of each class
  pub alike_counted : length (alike_layouts question west gone)
      ≡ ways_of (map (cards_in (hands_of question) (without (missing question) gone)) (defence_classes
      (hands_of question)))
      (map (cards_in (hands_of question) (without west gone)) (defence_classes (hands_of question)))
  unfolding alike_layouts layouts left_worth
  alike_counted =
      let hands : Hands = hands_of question in
      let fits : Cards → Bool = λ other. is_west_length question (length other) in
      let all : List Cards = choices_of (missing question) in
      length_filter (is_alike question west gone) (filter fits all)
      ∙ sum_by_filter fits (λ other. cond (is_alike question west gone other) 1 0) all
      ∙ sum_by_alike (λ other. cond {A = ℕ} (fits other) (cond (is_alike question west gone other) 1 0) 0)
      (worth_at left_worth gone (gone_of gone west)) all
      (each_in (λ other. cond {A = ℕ} (fits other) (cond (is_alike question west gone other) 1 0) 0
      ≡ worth_at left_worth gone (gone_of gone west) other) all
      (λ other found. told_case other (choice_part question other found) (bytes_eq (gone_of gone other)
      (gone_of gone west)) refl
      (bytes_eq (counts_of hands other) (counts_of hands west)) refl))
      ∙ free_choices left_worth gone 15 (missing question) west (missing_falls question)
      (layout_choice question west layout).0
      ∙ counted_choices hands (cards_in hands (without west gone)) (defence_classes hands) (without
      (missing question) gone) (once_defence hands)
      (choice_classes question (without (missing question) gone) (λ card held. (holds-from_without
      (missing question) gone card held).0))

-- ---- as a defender's card goes

-- of the missing cards that are left West has some and East the others
pub left_parts : (question : Question) (west gone : Cards) (class : ℕ) → IsDealt question west
    → cards_in (hands_of question) (without (dealt question west E) gone) class + cards_in (hands_of question)
    (without west gone) class
    ≡ cards_in (hands_of question) (without (missing question) gone) class
left_parts question west gone class is =
    let hands : Hands = hands_of question in
    let left : Cards = without (missing question) gone in
    let left_is : IsHolding left = IsHolding-without (missing question) gone (missing_falls question) in
    let east : without (dealt question west E) gone ≡ without left west =
    same_holding (without (dealt question west E) gone) (without left west)
    (IsHolding-without (dealt question west E) gone (IsHolding-without (missing question) west
    (missing_falls question))) (IsHolding-without left west left_is)
    (λ card least most. holds-left (dealt question west E) gone card ∙ ap (λ (b : Bool). b
    && not (holds gone card)) (holds-left (missing question) west card)
    ∙ turned (holds (missing question) card) (not (holds west card)) (not (holds gone card))
    ∙ sym (holds-left left west card ∙ ap (λ (b : Bool). b
    && not (holds west card)) (holds-left (missing question) gone card))) in
    let west_is : gone_of west left ≡ without west gone =
    same_holding (gone_of west left) (without west gone) (IsHolding-filter (holds west) left left_is)
    (IsHolding-without west gone is.holding)
    (λ card least most. holds-gone_of west left card ∙ ap (λ (b : Bool). b
    && holds west card) (holds-left (missing question) gone card)
    ∙ within (holds (missing question) card) (holds west card) (not (holds gone card)) (is.deal.defenders card)
    ∙ sym (holds-left west gone card)) in
    omega (
      arith,
      parts_by_class hands left west class,
      ap (λ (l : Cards). cards_in hands l class) east,
      ap (λ (l : Cards). cards_in hands l class) west_is,
    )
  where
    turned : (a b c : Bool) → ((a && b) && c) ≡ ((a && c) && b)
    turned true true true = refl
    turned true true false = refl
    turned true false true = refl
    turned true false false = refl
    turned false b c = refl

    within : (all some stays : Bool) → (some ≡ true → all ≡ true) → ((all && stays) && some) ≡ (some && stays)
    within true true true held = refl
    within true true false held = refl
    within true false true held = refl
    within true false false held = refl
    within false true stays held = absurd (false≢true (held refl))
    within false false stays held = refl

module _ (question : Question) (west : Cards) (gone : Cards) (is : IsDealt question west) (layout : Contains
    (layouts question) west) (card : ℕ) where
  -- the class of the card that goes
  abbrev its_class : ℕ
  its_class = class_of (hands_of question) card

  -- the numbers of the cards left of each class, of the missing ones and of West's, after the card and before
  abbrev left_after : Cards → ℕ → ℕ
  left_after cards class = cards_in (hands_of question) (without cards (card ∷ gone)) class

  abbrev left_before : Cards → ℕ → ℕ
  left_before cards class = cards_in (hands_of question) (without cards gone) class

  one_fewer : (cards : Cards) → IsHolding cards → holds (without cards gone) card ≡ true
      → suc (left_after cards its_class) ≡ left_before cards its_class
  one_fewer cards falls held =
      let told : nat_eq its_class its_class ≡ true = eq-eqb its_class its_class refl in
      let played : left_after cards its_class ≡ left_before cards its_class - 1 = rw told at (cards_in-played
      (hands_of question) cards gone card its_class falls held) in
      omega (arith, played, cards_in-held (hands_of question) (without cards gone) card held)

  as_many : (cards : Cards) → IsHolding cards → holds (without cards gone) card ≡ true → (class : ℕ) → (its_class
      ≡ class → ⊥) → left_after cards class ≡ left_before cards class
  as_many cards falls held class differ =
      let told : nat_eq its_class class ≡ false = ne_eqb its_class class differ in
      let played : left_after cards class ≡ left_before cards class - 0 = rw told at (cards_in-played
      (hands_of question) cards gone card class falls held) in
      omega (arith, played)

  stays_left : holds west card ≡ false → (class : ℕ) → left_after west class ≡ left_before west class
  stays_left away class = ap (λ (l : Cards). cards_in (hands_of question) l class) (without_away west gone card away)

  -- the unplayed cards of its class times the layouts then are the held ones times the layouts before
  pub alike_step : (turn : Seat) → is_declarer turn ≡ false → holds (without (dealt question west turn) gone) card
      ≡ true
      → left_before (missing question) its_class * length (alike_layouts question west (card ∷ gone))
      ≡ left_before (dealt question west turn) its_class * length (alike_layouts question west gone)
  alike_step N theirs held = absurd (false≢true (sym theirs))
  alike_step S theirs held = absurd (false≢true (sym theirs))
  alike_step W theirs held =
      let classes : List ℕ = defence_classes (hands_of question) in
      let parts = holds-from_without west gone card held in
      let away : holds (missing question) card ≡ true = is.deal.defenders card parts.0 in
      let left : holds (without (missing question) gone) card
      ≡ true = holds-without (missing question) gone card away parts.1 in
      ap (λ (n : ℕ). left_before (missing question) its_class * n) (alike_counted question west (card ∷ gone) layout)
      ∙ west_step (left_after (missing question)) (left_after west) (left_before (missing question))
      (left_before west) its_class classes
      (once_defence (hands_of question)) (missing_class question card away)
      (λ other differ. (
        as_many (missing question)
            (missing_falls question) left other differ,
        as_many west is.holding held other differ,
      ))
      (one_fewer (missing question) (missing_falls question) left) (one_fewer west is.holding held)
      ∙ ap (λ (n : ℕ). left_before west its_class * n) (sym (alike_counted question west gone layout))
  alike_step E theirs held =
      let classes : List ℕ = defence_classes (hands_of question) in
      let parts = holds-from_without (dealt question west E) gone card held in
      let dealt_parts = holds-from_without (missing question) west card parts.0 in
      let left : holds (without (missing question) gone) card
      ≡ true = holds-without (missing question) gone card dealt_parts.0 parts.1 in
      ap (λ (n : ℕ). left_before (missing question) its_class * n) (alike_counted question west (card ∷ gone) layout)
      ∙ east_step (left_after (missing question)) (left_after west) (left_before (missing question))
      (left_before west) its_class classes
      (once_defence (hands_of question)) (missing_class question card dealt_parts.0)
      (λ other differ. (
        as_many (missing question)
            (missing_falls question) left other differ,
        stays_left dealt_parts.1 other,
      ))
      (one_fewer (missing question) (missing_falls question) left) (left_before (dealt question west E) its_class)
      (stays_left dealt_parts.1 its_class)
      (left_parts question west gone its_class is)
      ∙ ap (λ (n : ℕ). left_before (dealt question west E) its_class
      * n) (sym (alike_counted question west gone layout))
