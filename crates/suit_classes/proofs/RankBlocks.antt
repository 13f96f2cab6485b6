-- Cards that fall stand in blocks of their classes.
use Rattle.std.proofs.Common.{◌≡◌, ℕ, zero, suc, ◌+◌, ◌-◌, ◌<◌, ◌≤◌, Bool, true, false, List, [], ◌∷◌, ◌++◌, refl}
use Rattle.std.proofs.Common.{sym, ap, ◌∙◌, subst, inl, inr, arith}
use Rattle.std.specs.Prelude.{filter, ◌==◌, ◌&&◌, if◌then◌else◌}
use Rattle.std.specs.List.{range_with_len, flat_map}
use Rattle.std.proofs.lemmas.Bool.{cases_eq, eqb-true, eq-eqb, ne_eqb}
use Rattle.suit_cards.specs.Cards.{Cards}
use Rattle.suit_cards.specs.Holdings.{FallsBelow, IsHolding, suit, others_of}
use Rattle.suit_cards.proofs.HoldingIsWhatItHolds.{IsHolding-others_of}
use Rattle.suit_cards.proofs.SuitRuns.{filter_suit-agree}
use Rattle.suit_lists.proofs.Filters.{filter-filter, filter_none}
use Rattle.suit_lists.proofs.FlatMaps.{flat_map_alike, flat_map_kept}
use Rattle.suit_classes.specs.declared.classes.Owner.{Owner}
use Rattle.suit_classes.specs.declared.classes.Owner.TheVariants as owners
use Rattle.suit_classes.specs.Classes.{Hands, holder, same_owner, class_of, class_count, class_owner, class_ranks}
use Rattle.suit_classes.specs.Classes.{defence_classes}
use Rattle.suit_classes.proofs.ClassNumbers.{class_below-rises}
use Rattle.suit_classes.proofs.DefenceClasses.{class_owner-class_of, missing_are}

-- a number does not fall along a list, and is at least so much
abbrev pub Rises : (ℕ → ℕ) → ℕ → List ℕ → Type 0
Rises f low [] = Unit {0}
Rises f low (x ∷ xs) = (low ≤ f x) × Rises f (f x) xs

abbrev pub StaysBelow : (ℕ → ℕ) → ℕ → List ℕ → Type 0
StaysBelow f high [] = Unit {0}
StaysBelow f high (x ∷ xs) = (f x < high) × StaysBelow f high xs

-- those of a list with one number
abbrev pub with_number : (ℕ → ℕ) → List ℕ → ℕ → List ℕ
with_number f xs number = filter (λ x. f x == number) xs

-- what rises from a number on rises from a lower one on
pub Rises-lower : (f : ℕ → ℕ) (lower low : ℕ) (xs : List ℕ) → lower ≤ low → Rises f low xs → Rises f lower xs
Rises-lower f lower low [] down rises = tt
Rises-lower f lower low (x ∷ xs) down rises = (omega (arith, rises.0), rises.1)

-- below where it begins no number stands
pub with_number-none : (f : ℕ → ℕ) (low number : ℕ) (xs : List ℕ) → number < low → Rises f low xs
    → with_number f xs number ≡ []
with_number-none f low number [] below rises = refl
with_number-none f low number (x ∷ xs) below rises =
    let differs : f x ≡ number → ⊥ = λ same. omega (arith, same, rises.0) in
    rw (ne_eqb (f x) number differs)
    (with_number-none f low number xs below (Rises-lower f low (f x) xs rises.0 rises.1))

with_number-same : (f : ℕ → ℕ) (x : ℕ) (xs : List ℕ) → with_number f (x ∷ xs) (f x) ≡ x ∷ with_number f xs (f x)
with_number-same f x xs = rw (eq-eqb (f x) (f x) refl) refl

with_number-other : (f : ℕ → ℕ) (x : ℕ) (xs : List ℕ) (number : ℕ) → (f x ≡ number → ⊥)
    → with_number f (x ∷ xs) number ≡ with_number f xs number
with_number-other f x xs number differs = rw (ne_eqb (f x) number differs) refl

blocks_after : (f : ℕ → ℕ) (x : ℕ) (xs : List ℕ) (from count : ℕ) → f x < from
    → flat_map (with_number f (x ∷ xs)) (range_with_len from count) ≡ flat_map (with_number f xs)
    (range_with_len from count)
blocks_after f x xs from zero past = refl
blocks_after f x xs from (suc count) past =
    ap (λ (l : List ℕ). l ++ flat_map (with_number f (x ∷ xs)) (range_with_len (from + 1) count))
    (with_number-other f x xs from (λ same. omega (arith, same)))
    ∙ ap (λ (l : List ℕ). with_number f xs from ++ l) (blocks_after f x xs (from + 1) count (omega arith))

blocks_more : (f : ℕ → ℕ) (x : ℕ) (xs : List ℕ) (from count : ℕ) → from ≤ f x → f x < from + count → Rises f (f x) xs
    → flat_map (with_number f (x ∷ xs)) (range_with_len from count) ≡ x ∷ flat_map (with_number f xs)
    (range_with_len from count)
blocks_more f x xs from zero least most rises = absurd (omega arith)
blocks_more f x xs from (suc count) least most rises = elim (cases_eq from (f x)) [
  | inl here ↦
      ap (λ (l : List ℕ). l ++ flat_map (with_number f (x ∷ xs)) (range_with_len (from + 1) count))
      (ap (with_number f (x ∷ xs)) here ∙ with_number-same f x xs ∙ ap (λ (n : ℕ). x ∷ with_number f xs n) (sym here))
      ∙ ap (λ (l : List ℕ). x ∷ (with_number f xs from ++ l)) (blocks_after f x xs (from + 1) count (omega arith))
  | inr later ↦
      let before : from < f x = omega arith in
      ap (λ (l : List ℕ). l ++ flat_map (with_number f (x ∷ xs)) (range_with_len (from + 1) count))
      (with_number-none f (f x) from (x ∷ xs) before (omega arith, rises))
      ∙ blocks_more f x xs (from + 1) count (omega arith) (omega arith) rises
      ∙ ap (λ (l : List ℕ). x ∷ (l ++ flat_map (with_number f xs) (range_with_len (from + 1) count)))
      (sym (with_number-none f (f x) from xs before rises))
]

no_blocks : (f : ℕ → ℕ) (from count : ℕ) → flat_map (with_number f []) (range_with_len from count) ≡ []
no_blocks f from zero = refl
no_blocks f from (suc count) = no_blocks f (from + 1) count

-- a list along which a number rises is its blocks of equal numbers
pub in_blocks : (f : ℕ → ℕ) (xs : List ℕ) (from count : ℕ) → Rises f from xs → StaysBelow f (from + count) xs
    → flat_map (with_number f xs) (range_with_len from count) ≡ xs
in_blocks f [] from count rises stays = no_blocks f from count
in_blocks f (x ∷ xs) from count rises stays =
    blocks_more f x xs from count rises.0 stays.0 rises.1
    ∙ ap (λ (l : List ℕ). x ∷ l) (in_blocks f xs from count (Rises-lower f from (f x) xs rises.0 rises.1) stays.1)

-- lower ranks have no lower class
pub class_of-rises : (hands : Hands) (high low : ℕ) → low ≤ high → class_of hands high ≤ class_of hands low
class_of-rises hands high low down = class_below-rises hands (14 - high) (14 - low) (omega arith)

-- the classes of falling cards rise
pub falling_rises : (hands : Hands) (top least : ℕ) (cards : Cards) → FallsBelow top cards
    → ((rank : ℕ) → rank < top → least ≤ class_of hands rank)
    → Rises (class_of hands) least cards
falling_rises hands top least [] falls above = tt
falling_rises hands top least (card ∷ cards) falls above = (
  above card falls.1,
  falling_rises hands card (class_of hands card) cards falls.2
      (λ rank low. class_of-rises hands card rank (omega arith)),
)

-- and stay below the number of classes
pub falling_stays : (hands : Hands) (top : ℕ) (cards : Cards) → FallsBelow top cards
    → StaysBelow (class_of hands) (class_count hands) cards
falling_stays hands top [] falls = tt
falling_stays hands top (card ∷ cards) falls =
    (omega (arith, class_of-rises hands card 2 falls.0), falling_stays hands card cards falls.2)

-- the classes of a hand rise from 0
pub holding_rises : (hands : Hands) (cards : Cards) → IsHolding cards → Rises (class_of hands) 0 cards
holding_rises hands cards falls = falling_rises hands 15 0 cards falls (λ rank low. omega arith)

flat_map-filter : (g h : ℕ → List ℕ) (p : ℕ → Bool) (xs : List ℕ) → ((x : ℕ) → g x ≡ (if p x then h x else []))
    → flat_map g xs ≡ flat_map h (filter p xs)
flat_map-filter g h p xs chosen =
    flat_map_alike g (λ x. if p x then h x else []) xs chosen ∙ sym (flat_map_kept h p xs)

both_tests : (defence number class_defence : Bool) → (number ≡ true → class_defence ≡ defence)
    → (defence && number) ≡ (class_defence && number)
both_tests true true class_defence same = rw (same refl) refl
both_tests true false true same = refl
both_tests true false false same = refl
both_tests false true class_defence same = rw (same refl) refl
both_tests false false true same = refl
both_tests false false false same = refl

chosen_or_none : (b : Bool) (p : ℕ → Bool) (xs : List ℕ) → filter (λ x. b && p x) xs ≡ (if b then filter p xs else [])
chosen_or_none true p xs = refl
chosen_or_none false p xs = filter_none xs

-- the ranks of a class that a side held are all its ranks, or none
pub held_of_class : (hands : Hands) (owner : Owner) (class : ℕ)
    → with_number (class_of hands) (filter (λ rank. same_owner (holder hands rank) owner) suit) class
    ≡ (if same_owner (class_owner hands class) owner then class_ranks hands class else [])
held_of_class hands owner class =
    filter-filter (λ rank. same_owner (holder hands rank) owner) (λ rank. class_of hands rank == class) suit
    ∙ filter_suit-agree (λ rank. same_owner (holder hands rank) owner && (class_of hands rank == class))
    (λ rank. same_owner (class_owner hands class) owner && (class_of hands rank == class))
    (λ rank least most.
    both_tests (same_owner (holder hands rank) owner) (class_of hands rank == class)
    (same_owner (class_owner hands class) owner)
    (λ here. ap (λ o. same_owner o owner) (ap (class_owner hands) (sym (eqb-true (class_of hands rank) class here))
    ∙ class_owner-class_of hands rank (least, omega arith))))
    ∙ chosen_or_none (same_owner (class_owner hands class) owner) (λ rank. class_of hands rank == class) suit

-- the missing cards of a class are all its ranks, or none
missing_of_class : (hands : Hands) (class : ℕ)
    → with_number (class_of hands) (others_of hands.north hands.south) class
    ≡ (if same_owner (class_owner hands class) owners.Defence then class_ranks hands class else [])
missing_of_class hands class =
    ap (λ (l : List ℕ). with_number (class_of hands) l class) (sym (missing_are hands))
    ∙ held_of_class hands owners.Defence class

-- the missing cards, falling, are the defenders' classes, one after another
pub missing_in_blocks : (hands : Hands)
    → flat_map (class_ranks hands) (defence_classes hands) ≡ others_of hands.north hands.south
missing_in_blocks hands =
    let missing : List ℕ = others_of hands.north hands.south in
    let holding = IsHolding-others_of hands.north hands.south in
    sym
    (flat_map-filter (with_number (class_of hands) missing) (class_ranks hands)
    (λ class. same_owner (class_owner hands class) owners.Defence)
    (range_with_len 0 (class_count hands)) (missing_of_class hands))
    ∙ in_blocks (class_of hands) missing 0 (class_count hands) (holding_rises hands missing holding)
    (subst (λ (n : ℕ). StaysBelow (class_of hands) n missing) (omega arith) (falling_stays hands 15 missing holding))
