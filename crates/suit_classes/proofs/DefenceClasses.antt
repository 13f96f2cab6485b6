-- The defenders' classes: who held a class, and how many there are.
use Rattle.std.proofs.Common.{◌≡◌, ℕ, zero, suc, ◌+◌, ◌-◌, ◌<◌, ◌≤◌, Bool, true, false, cond, not, ◌||◌, List, [], ◌∷◌}
use Rattle.std.proofs.Common.{◌++◌, length, get_or, refl, sym, ap, ◌∙◌, subst, inl, inr, arith, Some, append-nil}
use Rattle.std.specs.Prelude.{filter, find, Option, ◌==◌, if◌then◌else◌}
use Rattle.std.specs.List.{range_with_len}
use Rattle.std.specs.Option.{option_map_or}
use Rattle.std.proofs.lemmas.Bool.{cases_lt, eqb-true, eq-eqb}
use Rattle.std.proofs.lemmas.List.{length-append}
use Rattle.std.proofs.lemmas.List.Elements.{filter-append, filter_agree}
use Rattle.std.proofs.lemmas.List.FromFn.{get_or-map-range_with_len}
use Rattle.suit_game.specs.declared.limits.TheConstants.{MOST_MISSING_AND_BLOCKS, HAND_SIZE}
use Rattle.suit_cards.specs.Holdings.{holds, suit, others_of}
use Rattle.suit_cards.specs.Ranks.{IsRank}
use Rattle.suit_classes.specs.declared.classes.Owner.{Owner}
use Rattle.suit_classes.specs.declared.classes.Owner.TheVariants as owners
use Rattle.suit_classes.specs.Classes.{Hands, holder, same_owner, class_below, class_of, class_count, class_owner}
use Rattle.suit_classes.specs.Classes.{defence_classes}
use Rattle.suit_classes.proofs.ClassNumbers.{class_below-ace, class_held_alike, length-filter_map, suit_is_ranks}

-- a passing element is found, and stands at some place
pub record Found (p : ℕ → Bool) (xs : List ℕ) : Type 0 where
  pub element : ℕ
  pub is : find p xs ≡ Some element
  pub passes : p element ≡ true
  pub place : ℕ
  pub within : place < length xs
  pub stands : get_or xs place 0 ≡ element

found_more : (p : ℕ → Bool) (x : ℕ) (xs : List ℕ) (b : Bool) → p x ≡ b → (b ≡ false → Found p xs) → Found p (x ∷ xs)
found_more p x xs true here rest =
    record { element = x; is = rw here refl; passes = here; place = 0; within = omega arith; stands = refl }
found_more p x xs false here rest =
    let later = rest refl in
    record {
      element = later.element;
      is = rw here later.is;
      passes = later.passes;
      place = suc later.place;
      within = omega (arith, later.within);
      stands = later.stands;
    }

found_in : (p : ℕ → Bool) (xs : List ℕ) (place : ℕ) → place < length xs → p (get_or xs place 0) ≡ true → Found p xs
found_in p [] place small passes = absurd (omega arith)
found_in p (x ∷ xs) zero small passes =
    record { element = x; is = rw passes refl; passes = passes; place = 0; within = omega arith; stands = refl }
found_in p (x ∷ xs) (suc place) small passes =
    found_more p x xs (p x) refl (λ no. found_in p xs place (omega arith) passes)

rank_at : (place : ℕ) → place < HAND_SIZE → get_or suit place 0 ≡ 14 - place
rank_at place small =
    ap (λ (l : List ℕ). get_or l place 0) suit_is_ranks
    ∙ get_or-map-range_with_len (λ (p : ℕ). 14 - p) 0 HAND_SIZE place place 0 small (omega arith)

length-suit : length suit ≡ HAND_SIZE
unfolding suit
length-suit = refl

held_at_places : (hands : Hands) (n m : ℕ) → class_below hands n ≡ class_below hands m
    → holder hands (14 - n) ≡ holder hands (14 - m)
held_at_places hands n m same = elim (cases_lt n m) [
  | inl before ↦ class_held_alike hands n m (omega arith) same
  | inr not_before ↦ sym (class_held_alike hands m n not_before (sym same))
]

-- who held the class of a rank is who held the rank
pub class_owner_is : (hands : Hands) (n : ℕ) → n < HAND_SIZE
    → class_owner hands (class_below hands n) ≡ holder hands (14 - n)
class_owner_is hands n small =
    let class : ℕ = class_below hands n in
    let back : 14 - (14 - n) ≡ n = omega arith in
    let here : (class_below hands (14 - get_or suit n 0) == class) ≡ true =
    eq-eqb (class_below hands (14 - get_or suit n 0)) class
    (ap (λ (r : ℕ). class_below hands (14 - r)) (rank_at n small) ∙ ap (class_below hands) back) in
    let found = found_in (λ r. class_of hands r == class) suit n (omega (arith, length-suit)) here in
    let place : found.place < HAND_SIZE = omega (arith, found.within, length-suit) in
    let rank : found.element ≡ 14 - found.place = sym found.stands ∙ rank_at found.place place in
    let same : class_below hands found.place ≡ class =
    ap (class_below hands) (omega (arith, rank)) ∙ eqb-true (class_of hands found.element) class found.passes in
    ap (λ (o : Option ℕ). option_map_or (holder hands) o owners.Defence) found.is
    ∙ ap (holder hands) rank ∙ held_at_places hands found.place n same

-- the same by the rank
pub class_owner-class_of : (hands : Hands) (rank : ℕ) → IsRank rank
    → class_owner hands (class_of hands rank) ≡ holder hands rank
class_owner-class_of hands rank is =
    let low = is.0 in
    let high = is.1 in
    class_owner_is hands (14 - rank) (omega arith) ∙ ap (holder hands) (omega arith)

abbrev is_defence : Owner → Bool
is_defence owner = same_owner owner owners.Defence

abbrev one : Bool → ℕ
one b = if b then 1 else 0

range_more : (from n : ℕ) → range_with_len from (suc n) ≡ range_with_len from n ++ (from + n) ∷ []
range_more from zero = ap (λ (x : ℕ). x ∷ []) (omega arith)
range_more from (suc n) =
    let turned : from + 1 + n ≡ from + suc n = omega arith in
    ap (λ (l : List ℕ). from ∷ l)
    (range_more (from + 1) n ∙ ap (λ (x : ℕ). range_with_len (from + 1) n ++ x ∷ []) turned)

length-last : (p : ℕ → Bool) (x : ℕ) → length (filter p (x ∷ [])) ≡ one (p x)
length-last p x = elim (p x) as (λ b. length (cond b (x ∷ []) []) ≡ one b) [ true ↦ refl | false ↦ refl ]

-- one more number is one more where it passes
pub filter_range-more : (p : ℕ → Bool) (n : ℕ)
    → length (filter p (range_with_len 0 (suc n))) ≡ length (filter p (range_with_len 0 n)) + (if p n then 1 else 0)
filter_range-more p n =
    let last : 0 + n ≡ n = omega arith in
    ap (λ (l : List ℕ). length (filter p l)) (range_more 0 n ∙ ap (λ (x : ℕ). range_with_len 0 n ++ x ∷ []) last)
    ∙ ap length (filter-append p (range_with_len 0 n) (n ∷ []))
    ∙ length-append (filter p (range_with_len 0 n)) (filter p (n ∷ []))
    ∙ ap (λ (m : ℕ). length (filter p (range_with_len 0 n)) + m) (length-last p n)

-- how many classes above a place are the defenders', and how many ranks
abbrev classes_to : Hands → ℕ → ℕ
classes_to hands n =
    length (filter (λ class. is_defence (class_owner hands class)) (range_with_len 0 (suc (class_below hands n))))

abbrev ranks_to : Hands → ℕ → ℕ
ranks_to hands n = length (filter (λ place. is_defence (holder hands (14 - place))) (range_with_len 0 (suc n)))

one-most : (b : Bool) → one b ≤ 1
one-most true = omega arith
one-most false = omega arith

record Counted (classes ranks n : ℕ) (last : Bool) : Type 0 where
  fewer : classes ≤ ranks
  apart : classes + ranks ≤ n + 1 + one last

counted_next : (above here : Owner) (classes ranks classes' n : ℕ) → Counted classes ranks n (is_defence above)
    → classes' ≡ (if same_owner above here then classes else classes + one (is_defence here))
    → Counted classes' (ranks + one (is_defence here)) (suc n) (is_defence here)
counted_next owners.N owners.N classes ranks classes' n counted is =
    record { fewer = omega (arith, counted.fewer); apart = omega (arith, counted.apart) }
counted_next owners.N owners.S classes ranks classes' n counted is =
    record { fewer = omega (arith, counted.fewer); apart = omega (arith, counted.apart) }
counted_next owners.N owners.Defence classes ranks classes' n counted is =
    record { fewer = omega (arith, counted.fewer); apart = omega (arith, counted.apart) }
counted_next owners.S owners.N classes ranks classes' n counted is =
    record { fewer = omega (arith, counted.fewer); apart = omega (arith, counted.apart) }
counted_next owners.S owners.S classes ranks classes' n counted is =
    record { fewer = omega (arith, counted.fewer); apart = omega (arith, counted.apart) }
counted_next owners.S owners.Defence classes ranks classes' n counted is =
    record { fewer = omega (arith, counted.fewer); apart = omega (arith, counted.apart) }
counted_next owners.Defence owners.N classes ranks classes' n counted is =
    record { fewer = omega (arith, counted.fewer); apart = omega (arith, counted.apart) }
counted_next owners.Defence owners.S classes ranks classes' n counted is =
    record { fewer = omega (arith, counted.fewer); apart = omega (arith, counted.apart) }
counted_next owners.Defence owners.Defence classes ranks classes' n counted is =
    record { fewer = omega (arith, counted.fewer); apart = omega (arith, counted.apart) }

next_number : (hands : Hands) (n : ℕ) (same : Bool)
    → same_owner (holder hands (14 - n)) (holder hands (14 - suc n)) ≡ same
    → class_below hands (suc n) ≡ class_below hands n + (if same then 0 else 1)
unfolding class_below
next_number hands n same is = ap (λ (b : Bool). class_below hands n + (if b then 0 else 1)) is

classes_next : (hands : Hands) (n : ℕ) (same : Bool) → suc n < HAND_SIZE
    → same_owner (holder hands (14 - n)) (holder hands (14 - suc n)) ≡ same
    → classes_to hands (suc n) ≡
    (if same then classes_to hands n else classes_to hands n + one (is_defence (holder hands (14 - suc n))))
classes_next hands n true small is =
    let kept : class_below hands (suc n) ≡ class_below hands n = omega (arith, next_number hands n true is) in
    ap (λ (k : ℕ). length (filter (λ class. is_defence (class_owner hands class)) (range_with_len 0 (suc k)))) kept
classes_next hands n false small is =
    let next : class_below hands (suc n) ≡ suc (class_below hands n) = omega (arith, next_number hands n false is) in
    ap (λ (k : ℕ). length (filter (λ class. is_defence (class_owner hands class)) (range_with_len 0 (suc k)))) next
    ∙ filter_range-more (λ class. is_defence (class_owner hands class)) (suc (class_below hands n))
    ∙ ap (λ (o : Owner). classes_to hands n + one (is_defence o))
    (ap (class_owner hands) (sym next) ∙ class_owner_is hands (suc n) small)

counted_to : (hands : Hands) (n : ℕ) → n < HAND_SIZE
    → Counted (classes_to hands n) (ranks_to hands n) n (is_defence (holder hands (14 - n)))
counted_to hands zero small =
    let owner : class_owner hands 0 ≡ holder hands (14 - 0) =
    ap (class_owner hands) (sym (class_below-ace hands)) ∙ class_owner_is hands 0 small in
    let classes : classes_to hands 0 ≡ one (is_defence (holder hands (14 - 0))) =
    ap (λ (k : ℕ). length (filter (λ class. is_defence (class_owner hands class)) (range_with_len 0 (suc k))))
    (class_below-ace hands)
    ∙ length-last (λ class. is_defence (class_owner hands class)) 0 ∙ ap (λ (o : Owner). one (is_defence o)) owner in
    let ranks : ranks_to hands 0 ≡ one (is_defence (holder hands (14 - 0))) =
    length-last (λ place. is_defence (holder hands (14 - place))) 0 in
    first (holder hands (14 - 0)) (classes_to hands 0) (ranks_to hands 0) classes ranks
  where
    first : (owner : Owner) (classes ranks : ℕ) → classes ≡ one (is_defence owner) → ranks ≡ one (is_defence owner)
        → Counted classes ranks 0 (is_defence owner)
    first owners.N classes ranks is are = record { fewer = omega arith; apart = omega arith }
    first owners.S classes ranks is are = record { fewer = omega arith; apart = omega arith }
    first owners.Defence classes ranks is are = record { fewer = omega arith; apart = omega arith }
counted_to hands (suc n) small =
    subst (λ (ranks : ℕ). Counted (classes_to hands (suc n)) ranks (suc n) (is_defence (holder hands (14 - suc n))))
    (sym (filter_range-more (λ place. is_defence (holder hands (14 - place))) (suc n)))
    (counted_next (holder hands (14 - n)) (holder hands (14 - suc n)) (classes_to hands n) (ranks_to hands n)
    (classes_to hands (suc n)) n
    (counted_to hands n (omega arith))
    (classes_next hands n (same_owner (holder hands (14 - n)) (holder hands (14 - suc n))) small refl))

held_test : (north south : Bool)
    → is_defence (if north then owners.N else if south then owners.S else owners.Defence) ≡ not (north || south)
held_test true true = refl
held_test true false = refl
held_test false true = refl
held_test false false = refl

-- a rank was the defenders' where neither declarer hand held it
pub defence-held : (hands : Hands) (rank : ℕ)
    → same_owner (holder hands rank) owners.Defence ≡ not (holds hands.north rank || holds hands.south rank)
defence-held hands rank = held_test (holds hands.north rank) (holds hands.south rank)

-- the missing cards are the ranks that the defenders held
pub missing_are : (hands : Hands)
    → filter (λ rank. same_owner (holder hands rank) owners.Defence) suit ≡ others_of hands.north hands.south
missing_are hands =
    filter_agree (λ rank. same_owner (holder hands rank) owners.Defence)
    (λ rank. not (holds hands.north rank || holds hands.south rank)) (defence-held hands) suit

ranks_are : (hands : Hands) → ranks_to hands 12 ≡ length (others_of hands.north hands.south)
ranks_are hands =
    sym (length-filter_map (λ rank. is_defence (holder hands rank)) (λ place. 14 - place) (range_with_len 0 HAND_SIZE))
    ∙ ap (λ (l : List ℕ). length (filter (λ rank. is_defence (holder hands rank)) l)) (sym suit_is_ranks)
    ∙ ap length (missing_are hands)

classes_are : (hands : Hands) → length (defence_classes hands) ≡ classes_to hands 12
classes_are hands =
    let next : class_count hands ≡ suc (class_below hands 12) = omega arith in
    ap (λ (k : ℕ). length (filter (λ class. is_defence (class_owner hands class)) (range_with_len 0 k))) next

-- the defenders have no more classes than cards, and a card of declarer's stands between each two of them
pub defence_classes-few : (hands : Hands)
    → (length (defence_classes hands) ≤ length (others_of hands.north hands.south))
    × (length (others_of hands.north hands.south) + length (defence_classes hands) ≤ MOST_MISSING_AND_BLOCKS)
defence_classes-few hands =
    let counted = counted_to hands 12 (omega arith) in (
      omega (arith, counted.fewer, ranks_are hands, classes_are hands),
      omega (arith, counted.apart, ranks_are hands, classes_are hands, one-most (is_defence (holder hands (14 - 12)))),
    )

-- more numbers are no fewer that pass
pub filter_range-most : (p : ℕ → Bool) (n m : ℕ) → n ≤ m
    → length (filter p (range_with_len 0 n)) ≤ length (filter p (range_with_len 0 m))
filter_range-most p n zero low = let none : n ≡ 0 = omega arith in rw none (omega arith)
filter_range-most p n (suc m) low = elim (cases_lt n (suc m)) [
  | inl before ↦ omega (arith, filter_range-more p m, filter_range-most p n m (omega arith))
  | inr at ↦ let same : n ≡ suc m = omega arith in rw same (omega arith)
]

-- one more number that passes is the last
pub filter_range-push : (p : ℕ → Bool) (n : ℕ)
    → filter p (range_with_len 0 (n + 1)) ≡ filter p (range_with_len 0 n) ++ (if p n then n ∷ [] else [])
filter_range-push p n =
    let next : n + 1 ≡ suc n = omega arith in
    let last : 0 + n ≡ n = omega arith in
    ap (λ (k : ℕ). filter p (range_with_len 0 k)) next
    ∙ ap (filter p) (range_more 0 n ∙ ap (λ (x : ℕ). range_with_len 0 n ++ x ∷ []) last)
    ∙ filter-append p (range_with_len 0 n) (n ∷ [])

-- there is room for one more defence class
pub defence_classes-room : (hands : Hands) (class : ℕ) → class < class_count hands
    → same_owner (class_owner hands class) owners.Defence ≡ true
    → length (filter (λ c. same_owner (class_owner hands c) owners.Defence) (range_with_len 0 class)) < 7
defence_classes-room hands class small is =
    let p : ℕ → Bool = λ c. same_owner (class_owner hands c) owners.Defence in
    let counts : one (p class) ≡ 1 = ap one is in
    omega (
      arith,
      filter_range-more p class,
      counts,
      filter_range-most p (suc class) (class_count hands) (omega arith),
      (defence_classes-few hands).0,
      (defence_classes-few hands).1,
    )

-- and not more than seven in all
pub defence_classes-most : (hands : Hands) → length (defence_classes hands) ≤ 7
defence_classes-most hands = omega (arith, (defence_classes-few hands).0, (defence_classes-few hands).1)

-- a list that takes the next number where it passes
pub filter_range-next : (p : ℕ → Bool) (n : ℕ) (b : Bool) (items later : List ℕ) → items ≡ filter p (range_with_len 0 n)
    → b ≡ p n
    → later ≡ (if b then items ++ n ∷ [] else items) → later ≡ filter p (range_with_len 0 (n + 1))
filter_range-next p n b items later are is chosen =
    chosen ∙ ap (λ (t : Bool). if t then items ++ n ∷ [] else items) is
    ∙ ap (λ (l : List ℕ). if p n then l ++ n ∷ [] else l) are
    ∙ either (p n) (filter p (range_with_len 0 n)) ∙ sym (filter_range-push p n)
  where
    either : (t : Bool) (l : List ℕ) → (if t then l ++ n ∷ [] else l) ≡ l ++ (if t then n ∷ [] else [])
    either true l = refl
    either false l = sym (append-nil l)
