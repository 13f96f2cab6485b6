-- How many of some cards stand in each block.
use Rattle.std.proofs.Common.{◌≡◌, ℕ, true, false, cond, nat_eq, List, [], ◌∷◌, ◌++◌, length, take, drop, refl, sym}
use Rattle.std.proofs.Common.{subst, arith, inl, inr}
use Rattle.std.specs.List.{AllByRecursion, count_by}
use Rattle.std.proofs.lemmas.Bool.{cases_Bool, eqb-true, or_cases, or_right, or_from, or_parts, both_ways}
use Rattle.std.proofs.lemmas.List.{take-append-drop}
use Rattle.std.proofs.lemmas.List.Sums.{sum_by-append}
use Rattle.suit_lists.proofs.Elements.{each_gives}
use Rattle.suit_lists.proofs.Sums.{count_all, count_none}
use Rattle.suit_cards.specs.Holdings.{FallsBelow, holds}
use Rattle.suit_cards.proofs.HoldingIsWhatItHolds.{holds-above}
use Rattle.suit_game.specs.Blocks.{blocks_of, counts_in}
use Rattle.suit_layouts.proofs.ChoicesOfTwoLists.{AreHeld}

-- what the second of two lists holds, both hold together
holds-append : (xs ys : List ℕ) (card : ℕ) → holds ys card ≡ true → holds (xs ++ ys) card ≡ true
holds-append [] ys card held = held
holds-append (x ∷ xs) ys card held = or_right (nat_eq card x) (holds (xs ++ ys) card) (holds-append xs ys card held)

-- what two lists together do not hold, neither does
holds-append_none : (xs ys : List ℕ) (card : ℕ) → holds (xs ++ ys) card ≡ false → (holds xs card ≡ false)
    × (holds ys card ≡ false)
holds-append_none [] ys card none = (refl, none)
holds-append_none (x ∷ xs) ys card none =
    let parts = or_parts (nat_eq card x) (holds (xs ++ ys) card) none in
    let later = holds-append_none xs ys card parts.1 in
    (or_from (nat_eq card x) (holds xs card) parts.0 later.0, later.1)

-- a card of the first of two lists that fall together is not in the second
apart_after : (top : ℕ) (xs ys : List ℕ) (card : ℕ) → FallsBelow top (xs ++ ys) → holds xs card ≡ true
    → holds ys card ≡ false
apart_after top [] ys card falls held = absurd (cc)
apart_after top (x ∷ xs) ys card falls held = elim (or_cases (nat_eq card x) (holds xs card) held) [
  | inl same ↦
      let is : card ≡ x = eqb-true card x same in
      let none : holds (xs ++ ys) card ≡ false = holds-above x (xs ++ ys) card falls.2 (omega arith) in
      (holds-append_none xs ys card none).1
  | inr later ↦ apart_after x xs ys card falls.2 later
]

-- and the other way
apart_before : (top : ℕ) (xs ys : List ℕ) (card : ℕ) → FallsBelow top (xs ++ ys) → holds ys card ≡ true
    → holds xs card ≡ false
apart_before top xs ys card falls held = elim (cases_Bool (holds xs card)) [
  | inl before ↦ absurd (both_ways (holds ys card) (apart_after top xs ys card falls before) held)
  | inr none ↦ none
]

-- the second of two lists that fall together falls
falls_later : (top : ℕ) (xs ys : List ℕ) → FallsBelow top (xs ++ ys) → (lower : ℕ) × FallsBelow lower ys
falls_later top [] ys falls = (top, falls)
falls_later top (x ∷ xs) ys falls = falls_later x xs ys falls.2

-- cards that fall do so as a block and the cards after it
falls_split : (top size : ℕ) (cards : List ℕ) → FallsBelow top cards
    → FallsBelow top (take size cards ++ drop size cards)
falls_split top size cards falls = subst (FallsBelow top) (sym (take-append-drop size cards)) falls

-- the cards after a block fall
pub falls_after : (top size : ℕ) (cards : List ℕ) → FallsBelow top cards → (lower : ℕ)
    × FallsBelow lower (drop size cards)
falls_after top size cards falls =
    falls_later top (take size cards) (drop size cards) (falls_split top size cards falls)

-- cards that stand in no block add nothing to the counts
counts_apart : (sizes cards taken more : List ℕ) → AllByRecursion (λ card. holds cards card ≡ false) taken
    → counts_in (blocks_of cards sizes) (taken ++ more) ≡ counts_in (blocks_of cards sizes) more
unfolding blocks_of
counts_apart [] cards taken more none = refl
counts_apart (size ∷ sizes) cards taken more none =
    let neither : (card : ℕ) → holds cards card ≡ false → (holds (take size cards) card ≡ false)
    × (holds (drop size cards) card ≡ false) =
    λ card is. holds-append_none (take size cards) (drop size cards) card
    (subst (λ (all : List ℕ). holds all card ≡ false) (sym (take-append-drop size cards)) is) in
    let here : count_by (λ card. holds (take size cards) card) taken ≡ 0 =
    count_none (λ card. holds (take size cards) card) taken
    (each_gives (λ card. holds cards card ≡ false) (λ card. holds (take size cards) card
    ≡ false) taken (λ card is. (neither card is).0) none) in
    let first : count_by (λ card. holds (take size cards) card) (taken ++ more)
    ≡ count_by (λ card. holds (take size cards) card) more =
    omega (arith, here, sum_by-append (λ card. cond (holds (take size cards) card) 1 0) taken more) in
    let others = counts_apart sizes (drop size cards) taken more
    (each_gives (λ card. holds cards card ≡ false) (λ card. holds (drop size cards) card
    ≡ false) taken (λ card is. (neither card is).1) none) in
    cc

-- cards of the first block and cards after it: the first count is the number of the former, and the other counts are of
-- the latter
pub counts_joined : (top size : ℕ) (sizes cards taken more : List ℕ) → FallsBelow top cards
    → AreHeld (take size cards) taken → AreHeld (drop size cards) more
    → counts_in (blocks_of cards (size ∷ sizes)) (taken ++ more) ≡ length taken
    ∷ counts_in (blocks_of (drop size cards) sizes) more
unfolding blocks_of
counts_joined top size sizes cards taken more falls first later =
    let falls_so = falls_split top size cards falls in
    let all : count_by (λ card. holds (take size cards) card) taken ≡ length taken =
    count_all (λ card. holds (take size cards) card) taken first in
    let none : count_by (λ card. holds (take size cards) card) more ≡ 0 =
    count_none (λ card. holds (take size cards) card) more
    (each_gives (λ card. holds (drop size cards) card ≡ true) (λ card. holds (take size cards) card ≡ false) more
    (λ card held. apart_before top (take size cards) (drop size cards) card falls_so held) later) in
    let here : count_by (λ card. holds (take size cards) card) (taken ++ more) ≡ length taken =
    omega (arith, all, none, sum_by-append (λ card. cond (holds (take size cards) card) 1 0) taken more) in
    let others = counts_apart sizes (drop size cards) taken more
    (each_gives (λ card. holds (take size cards) card ≡ true) (λ card. holds (drop size cards) card ≡ false) taken
    (λ card held. apart_after top (take size cards) (drop size cards) card falls_so held) first) in
    cc
