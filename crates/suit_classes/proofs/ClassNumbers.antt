-- The numbers of classes rise down the suit, and one side holds all ranks of a class.
use Rattle.std.proofs.Common.{◌≡◌, ℕ, zero, suc, ◌+◌, ◌-◌, ◌<◌, ◌≤◌, Bool, true, false, cond, List, [], ◌∷◌, length}
use Rattle.std.proofs.Common.{get_or, refl, sym, ap, ◌∙◌, subst, inl, inr, arith, Some}
use Rattle.std.specs.Prelude.{map, not, filter, count_by, find, ◌==◌, if◌then◌else◌}
use Rattle.std.specs.List.{range_with_len}
use Rattle.std.proofs.lemmas.Bool.{cases_lt, eq-eqb, ne_eqb, false≢true}
use Rattle.std.proofs.lemmas.List.Sums.{length-filter, count_by-le-length}
use Rattle.std.proofs.lemmas.List.FromFn.{get_or-map-range_with_len, length-map-range_with_len, fill_by_all}
use Rattle.suit_classes.specs.declared.classes.TheConstants.{MOST_CLASSES}
use Rattle.suit_game.specs.declared.limits.TheConstants.{HAND_SIZE}
use Rattle.suit_cards.specs.Holdings.{suit}
use Rattle.suit_cards.specs.Ranks.{IsRank}
use Rattle.suit_classes.specs.declared.classes.Owner.{Owner}
use Rattle.suit_classes.specs.declared.classes.Owner.TheVariants as owners
use Rattle.suit_classes.specs.Classes.{Hands, holder, same_owner, class_below, class_of, class_count, class_top}
use Rattle.suit_classes.specs.Classes.{class_size}
use Rattle.suit_classes.specs.Numbering.{numbers_of}

step_least : (b : Bool) (n : ℕ) → n ≤ n + (if b then 0 else 1)
step_least true n = omega arith
step_least false n = omega arith

step_most : (b : Bool) (n : ℕ) → n + (if b then 0 else 1) ≤ suc n
step_most true n = omega arith
step_most false n = omega arith

-- one rank further down the number is the same or the next
pub class_below-next : (hands : Hands) (n : ℕ)
    → (class_below hands n ≤ class_below hands (suc n)) × (class_below hands (suc n) ≤ suc (class_below hands n))
unfolding class_below
class_below-next hands n = (
  step_least (same_owner (holder hands (14 - n)) (holder hands (14 - suc n))) (class_below hands n),
  step_most (same_owner (holder hands (14 - n)) (holder hands (14 - suc n))) (class_below hands n),
)

-- the ace has the first number
pub class_below-ace : (hands : Hands) → class_below hands 0 ≡ 0
unfolding class_below
class_below-ace hands = refl

-- numbers do not fall down the suit
pub class_below-rises : (hands : Hands) (n m : ℕ) → n ≤ m → class_below hands n ≤ class_below hands m
class_below-rises hands n zero low = let same : n ≡ 0 = omega arith in rw same (omega arith)
class_below-rises hands n (suc m) low = elim (cases_lt n (suc m)) [
  | inl before ↦
      let rest = class_below-rises hands n m (omega arith) in
      omega (arith, rest, (class_below-next hands m).0)
  | inr at ↦ let same : n ≡ suc m = omega arith in rw same (omega arith)
]

-- and the number of a rank is no greater than that of the ranks above it
pub class_below-most : (hands : Hands) (n : ℕ) → class_below hands n ≤ n
class_below-most hands zero = omega (arith, class_below-ace hands)
class_below-most hands (suc n) = omega (arith, class_below-most hands n, (class_below-next hands n).1)

-- two owners that the test takes for the same are the same
pub same_owner_is : (here there : Owner) → same_owner here there ≡ true → here ≡ there
same_owner_is owners.N owners.N same = refl
same_owner_is owners.S owners.S same = refl
same_owner_is owners.Defence owners.Defence same = refl
same_owner_is owners.N owners.S same = absurd (false≢true same)
same_owner_is owners.N owners.Defence same = absurd (false≢true same)
same_owner_is owners.S owners.N same = absurd (false≢true same)
same_owner_is owners.S owners.Defence same = absurd (false≢true same)
same_owner_is owners.Defence owners.N same = absurd (false≢true same)
same_owner_is owners.Defence owners.S same = absurd (false≢true same)

pub same_owner-itself : (owner : Owner) → same_owner owner owner ≡ true
same_owner-itself owners.N = refl
same_owner-itself owners.S = refl
same_owner-itself owners.Defence = refl

kept_number : (b : Bool) (n : ℕ) → n + (if b then 0 else 1) ≡ n → b ≡ true
kept_number true n kept = refl
kept_number false n kept = absurd (omega arith)

kept_holder : (hands : Hands) (n : ℕ) → class_below hands (suc n) ≡ class_below hands n
    → holder hands (14 - n) ≡ holder hands (14 - suc n)
unfolding class_below
kept_holder hands n kept =
    same_owner_is (holder hands (14 - n)) (holder hands (14 - suc n))
    (kept_number (same_owner (holder hands (14 - n)) (holder hands (14 - suc n))) (class_below hands n) kept)

-- ranks of one class were held alike
pub class_held_alike : (hands : Hands) (n m : ℕ) → n ≤ m → class_below hands n ≡ class_below hands m
    → holder hands (14 - n) ≡ holder hands (14 - m)
class_held_alike hands n zero low same = let zero_is : n ≡ 0 = omega arith in rw zero_is refl
class_held_alike hands n (suc m) low same = elim (cases_lt n (suc m)) [
  | inl before ↦
      let between = class_below-rises hands n m (omega arith) in
      let next = (class_below-next hands m).0 in
      let kept : class_below hands (suc m) ≡ class_below hands m = omega arith in
      class_held_alike hands n m (omega arith) (omega arith) ∙ kept_holder hands m kept
  | inr at ↦ let same_place : n ≡ suc m = omega arith in rw same_place refl
]

-- each number up to that of a rank is that of some rank no lower
pub class_below-reached : (hands : Hands) (n class : ℕ) → class ≤ class_below hands n
    → (place : ℕ) × (place ≤ n) × (class_below hands place ≡ class)
class_below-reached hands zero class few = (0, omega arith, omega (arith, class_below-ace hands))
class_below-reached hands (suc n) class few = elim (cases_lt class (class_below hands (suc n))) [
  | inl below ↦
      let next = (class_below-next hands n).1 in
      let rest = class_below-reached hands n class (omega arith) in
      (rest.0, omega (arith, rest.1), rest.2)
  | inr at ↦ (suc n, omega arith, omega arith)
]

-- the list of numbers, by places
pub numbers_of-at : (hands : Hands) (place : ℕ) → place < HAND_SIZE
    → get_or (numbers_of hands) place 0 ≡ class_below hands place
unfolding numbers_of
numbers_of-at hands place small =
    get_or-map-range_with_len (class_below hands) 0 HAND_SIZE place place 0 small (omega arith)

pub length-numbers_of : (hands : Hands) → length (numbers_of hands) ≡ HAND_SIZE
unfolding numbers_of
length-numbers_of hands = length-map-range_with_len (class_below hands) 0 HAND_SIZE

-- a list of thirteen numbers that are right at each place is the list of numbers
pub numbers_of-filled : (hands : Hands) (numbers : List ℕ) → length numbers ≡ HAND_SIZE
    → ((place : ℕ) → place < HAND_SIZE → get_or numbers place 0 ≡ class_below hands place)
    → numbers ≡ numbers_of hands
unfolding numbers_of
numbers_of-filled hands numbers long right = fill_by_all (class_below hands) numbers HAND_SIZE 0 long right

-- the list of numbers goes with the suit
pub numbers_of-suit : (hands : Hands) → numbers_of hands ≡ map (class_of hands) suit
unfolding numbers_of suit
numbers_of-suit hands = refl

-- the class of a rank is one of the classes
pub class_of-below : (hands : Hands) (rank : ℕ) → IsRank rank → class_of hands rank < class_count hands
class_of-below hands rank is = let least = is.0 in omega (arith, class_below-rises hands (14 - rank) 12 (omega arith))

pub class_count-most : (hands : Hands) → class_count hands ≤ MOST_CLASSES
class_count-most hands = omega (arith, class_below-most hands 12)

find_first : (p : ℕ → Bool) (f : ℕ → ℕ) (from count place : ℕ) → place < count → p (f (from + place)) ≡ true
    → ((k : ℕ) → k < place → p (f (from + k)) ≡ false)
    → find p (map f (range_with_len from count)) ≡ Some (f (from + place))
find_first p f from zero place small passes before = absurd (omega arith)
find_first p f from (suc count) zero small passes before =
    let here : p (f from) ≡ true = subst (λ (n : ℕ). p (f n) ≡ true) (omega arith) passes in
    rw here (ap (λ (n : ℕ). Some (f n)) (omega arith))
find_first p f from (suc count) (suc place) small passes before =
    let here : p (f from) ≡ false = subst (λ (n : ℕ). p (f n) ≡ false) (omega arith) (before 0 (omega arith)) in
    let turned : from + 1 + place ≡ from + suc place = omega arith in
    rw here (
    find_first p f (from + 1) count place (omega arith) (subst (λ (n : ℕ). p (f n) ≡ true) (sym turned) passes)
    (λ k low. let up : from + suc k ≡ from + 1 + k = omega arith in
    subst (λ (n : ℕ). p (f n) ≡ false) up (before (suc k) (omega arith)))
    ∙ ap (λ (n : ℕ). Some (f n)) turned
    )

-- the suit, by places from the ace down
pub suit_is_ranks : suit ≡ map (λ place. 14 - place) (range_with_len 0 HAND_SIZE)
unfolding suit
suit_is_ranks = refl

place_back : (place : ℕ) → place < HAND_SIZE → 14 - (14 - place) ≡ place
place_back place small = omega arith

-- the first place with a class has its highest rank
pub class_top-first : (hands : Hands) (class place rank : ℕ) → place < HAND_SIZE → rank + place ≡ 14
    → class_below hands place ≡ class
    → ((k : ℕ) → k < place → class_below hands k ≡ class → ⊥) → class_top hands class ≡ Some rank
class_top-first hands class place rank small is here before =
    ap (find (λ r. class_of hands r == class)) suit_is_ranks
    ∙ find_first (λ r. class_of hands r == class) (λ place. 14 - place) 0 HAND_SIZE place small
    (let same : 14 - (14 - (0 + place)) ≡ place = omega arith in rw same (eq-eqb (class_below hands place) class here))
    (λ k low. let same : 14 - (14 - (0 + k)) ≡ k = omega arith in
    rw same (ne_eqb (class_below hands k) class (before k low)))
    ∙ ap Some (omega arith)

-- the number that is read at a place, where the numbers are those of some hands
pub number_read : (numbers : List ℕ) (inside hands : Hands) (place : ℕ) → numbers ≡ numbers_of inside → inside ≡ hands
    → place < HAND_SIZE
    → get_or numbers place 0 ≡ class_below hands place
number_read numbers inside hands place are same small =
    ap (λ (l : List ℕ). get_or l place 0) are ∙ numbers_of-at inside place small
    ∙ ap (λ (h : Hands). class_below h place) same

pub length-filter_map : (p : ℕ → Bool) (f : ℕ → ℕ) (xs : List ℕ)
    → length (filter p (map f xs)) ≡ length (filter (λ x. p (f x)) xs)
length-filter_map p f [] = refl
length-filter_map p f (x ∷ xs) =
    elim (p (f x)) as (λ b. length (cond b (f x ∷ filter p (map f xs)) (filter p (map f xs)))
    ≡ length (cond b (x ∷ filter (λ y. p (f y)) xs) (filter (λ y. p (f y)) xs))) [
      | true ↦ ap suc (length-filter_map p f xs)
      | false ↦ length-filter_map p f xs
    ]

-- how many of the numbers are that of a class
pub numbers_counted : (hands : Hands) (class : ℕ)
    → count_by (λ number. number == class) (numbers_of hands) ≡ class_size hands class
numbers_counted hands class =
    sym (length-filter (λ number. number == class) (numbers_of hands))
    ∙ ap (λ (l : List ℕ). length (filter (λ number. number == class) l)) (numbers_of-suit hands)
    ∙ length-filter_map (λ number. number == class) (class_of hands) suit

-- a list that is not empty stays so with an element before it, or none
pub kept_some : (b : Bool) (x : ℕ) (xs : List ℕ) → 0 < length xs → 0 < length (cond b (x ∷ xs) xs)
kept_some true x xs some = omega arith
kept_some false x xs some = some

filter_some : (p : ℕ → Bool) (xs : List ℕ) (place : ℕ) → place < length xs → p (get_or xs place 0) ≡ true
    → 0 < length (filter p xs)
filter_some p [] place small passes = absurd (omega arith)
filter_some p (x ∷ xs) zero small passes = rw passes (omega arith)
filter_some p (x ∷ xs) (suc place) small passes =
    kept_some (p x) x (filter p xs) (filter_some p xs place (omega arith) passes)

-- each class has a card
pub class_size-some : (hands : Hands) (class : ℕ) → class < class_count hands → 0 < class_size hands class
class_size-some hands class few =
    let place = class_below-reached hands 12 class (omega arith) in
    let at : place.0 < length (numbers_of hands) = omega (arith, length-numbers_of hands, place.1) in
    let is : get_or (numbers_of hands) place.0 0 ≡ class =
    numbers_of-at hands place.0 (omega (arith, place.1)) ∙ place.2 in
    subst (λ (n : ℕ). 0 < n)
    (length-filter (λ number. number == class) (numbers_of hands) ∙ numbers_counted hands class)
    (filter_some (λ number. number == class) (numbers_of hands) place.0 at
    (eq-eqb (get_or (numbers_of hands) place.0 0) class is))

-- how many ranks a class has is a small number
pub class_size-most : (hands : Hands) (class : ℕ) → class_size hands class ≤ HAND_SIZE
class_size-most hands class =
    omega (
      arith,
      sym (length-filter (λ number. number == class) (numbers_of hands)),
      numbers_counted hands class,
      count_by-le-length (λ number. number == class) (numbers_of hands),
      length-numbers_of hands,
    )

new_or_kept : (b : Bool) (n : ℕ) → n + (if b then 0 else 1) ≡ (if not b then n + 1 else n)
new_or_kept true n = omega arith
new_or_kept false n = refl

-- the number is kept where the holder is, and is the next where not
pub class_below-later : (hands : Hands) (above place number later : ℕ) (starts : Bool) → above + 1 ≡ place
    → number ≡ class_below hands above
    → starts ≡ not (same_owner (holder hands (14 - above)) (holder hands (14 - place)))
    → later ≡ (if starts then number + 1 else number)
    → later ≡ class_below hands place
unfolding class_below
class_below-later hands above place number later starts next is told chosen =
    let here : place ≡ suc above = omega arith in
    chosen ∙ ap (λ (b : Bool). if b then number + 1 else number) told
    ∙ sym (new_or_kept (same_owner (holder hands (14 - above)) (holder hands (14 - place))) number)
    ∙ ap (λ (n : ℕ). n + (if same_owner (holder hands (14 - above)) (holder hands (14 - place)) then 0 else 1)) is
    ∙ subst
    (λ (p : ℕ). class_below hands above + (if same_owner (holder hands (14 - above)) (holder hands (14 - p)) then 0
    else 1) ≡ class_below hands p)
    (sym here) refl
