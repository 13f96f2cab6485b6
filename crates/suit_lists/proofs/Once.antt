-- Lists in which no element comes twice.
use Rattle.std.proofs.Common.{Bool, List, [], ap, append-nil, arith, cond, false, inl, inr, map, suc, sym, true, zero}
use Rattle.std.proofs.Common.{ℕ, ◌++◌, ◌+◌, ◌<◌, ◌∙◌, ◌∷◌, ◌≡◌}
use Rattle.std.proofs.lemmas.List.Elements.{All-from_recursion}
use Rattle.std.proofs.lemmas.List.Kept.{AllPairs-cons}
use Rattle.std.specs.List.{AllByRecursion, flat_map, range_with_len}
use Rattle.std.specs.Prelude.{AllPairs, Contains, filter, if◌then◌else◌, ◌≢◌}
use Rattle.suit_lists.proofs.Elements.{Contains-cons_cases, Contains-first, Contains-later, Contains-nil, each_append}
use Rattle.suit_lists.proofs.Elements.{each_at, each_gives, each_in}
use Rattle.suit_lists.proofs.Filters.{each_filter}
use Rattle.suit_lists.proofs.FlatMaps.{each_flat_map, flat_map_none}
use Rattle.suit_lists.proofs.Maps.{each_map}

-- no element comes twice
unfoldable pub IsOnce : {X : Type 0} → List X → Type 0
IsOnce [] = Unit {0}
IsOnce (x ∷ xs) = AllByRecursion (λ y. x ≡ y → ⊥) xs × IsOnce xs

pub once_unless : {X : Type 0} (b : Bool) (xs : List X) → IsOnce xs → IsOnce (if b then [] else xs)
unfolding IsOnce
once_unless true xs once = tt
once_unless false xs once = once

pub once_if : {X : Type 0} (b : Bool) (xs : List X) → IsOnce xs → IsOnce (if b then xs else [])
unfolding IsOnce
once_if true xs once = once
once_if false xs once = tt

range_above : (low from count : ℕ) → low < from → AllByRecursion (λ n. low ≡ n → ⊥) (range_with_len from count)
range_above low from zero above = tt
range_above low from (suc count) above = (λ same. omega (arith, same), range_above low (from + 1) count (omega arith))

-- the numbers of a run come once each
pub once_range : (from count : ℕ) → IsOnce (range_with_len from count)
unfolding IsOnce
once_range from zero = tt
once_range from (suc count) = (range_above from (from + 1) count (omega arith), once_range (from + 1) count)

-- so no two elements are equal
pub once_pairs : {X : Type 0} (xs : List X) → IsOnce xs → AllPairs (λ x y. x ≢ y) xs
unfolding IsOnce
once_pairs [] once = λ i j d below within. absurd (omega arith)
once_pairs {X} (x ∷ xs) once =
    AllPairs-cons (λ (y z : X). y ≢ z) x xs (All-from_recursion (λ y. x ≢ y) xs once.0) (once_pairs xs once.1)

pub once_append : {X : Type 0} (xs ys : List X) → IsOnce xs → IsOnce ys
    → AllByRecursion (λ x. AllByRecursion (λ y. x ≡ y → ⊥) ys) xs → IsOnce (xs ++ ys)
unfolding IsOnce
once_append [] ys once others apart = others
once_append (x ∷ xs) ys once others apart =
    (each_append (λ y. x ≡ y → ⊥) xs ys once.0 apart.0, once_append xs ys once.1 others apart.1)

once_kept : {X : Type 0} (x : X) (xs : List X) (b : Bool) → AllByRecursion (λ y. x ≡ y → ⊥) xs → IsOnce xs
    → IsOnce (cond b (x ∷ xs) xs)
unfolding IsOnce
once_kept x xs true apart once = (apart, once)
once_kept x xs false apart once = once

pub once_filter : {X : Type 0} (test : X → Bool) (xs : List X) → IsOnce xs → IsOnce (filter test xs)
unfolding IsOnce
once_filter test [] once = tt
once_filter test (x ∷ xs) once =
    once_kept x (filter test xs) (test x) (each_filter (λ y. x ≡ y → ⊥) test xs once.0) (once_filter test xs once.1)

-- what tells elements apart makes of different ones different ones
pub once_map : {X Y : Type 0} (f : X → Y) (xs : List X) → ((x y : X) → f x ≡ f y → x ≡ y) → IsOnce xs
    → IsOnce (map f xs)
unfolding IsOnce
once_map f [] tells once = tt
once_map {X} {Y} f (x ∷ xs) tells once = (
  each_map (λ y. f x ≡ y → ⊥) f xs
      (each_gives (λ y. x ≡ y → ⊥) (λ y. f x ≡ f y → ⊥) xs (λ y apart same. apart (tells x y same)) once.0),
  once_map f xs tells once.1,
)

-- pieces in which no element comes twice, of which no two share one, joined
pub once_flat_map : {X Y : Type 0} (piece : X → List Y) (xs : List X) → IsOnce xs → ((x : X) → IsOnce (piece x))
    → ((x z : X) → (x ≡ z → ⊥) → (y w : Y) → Contains (piece x) y → Contains (piece z) w → y ≡ w → ⊥)
    → IsOnce (flat_map piece xs)
unfolding IsOnce
once_flat_map piece [] once each apart = tt
once_flat_map {X} {Y} piece (x ∷ xs) once each apart =
    once_append (piece x) (flat_map piece xs) (each x) (once_flat_map piece xs once.1 each apart)
    (each_in (λ y. AllByRecursion (λ w. y ≡ w → ⊥) (flat_map piece xs)) (piece x)
    (λ y here. each_flat_map (λ w. y ≡ w → ⊥) piece xs
    (λ z later. each_in (λ w. y ≡ w → ⊥) (piece z)
    (λ w there. apart x z (each_at (λ z. x ≡ z → ⊥) xs z once.0 later) y w here there))))

-- rows that tell keys apart are for no two equal keys
pub map_pairs : {X Y : Type 0} (R : Y → Y → Type 0) (row_of : X → Y) (keys : List X)
    → ((one other : X) → (one ≡ other → ⊥) → R (row_of one) (row_of other)) → IsOnce keys
    → AllPairs R (map row_of keys)
unfolding IsOnce
map_pairs R row_of [] apart once = λ i j d below within. absurd (omega arith)
map_pairs {X} {Y} R row_of (key ∷ keys) apart once =
    AllPairs-cons R (row_of key) (map row_of keys)
    (All-from_recursion (R (row_of key)) (map row_of keys)
    (each_map (R (row_of key)) row_of keys
    (each_gives (λ other. key ≡ other → ⊥) (λ other. R (row_of key) (row_of other)) keys (apart key) once.0)))
    (map_pairs R row_of keys apart once.1)

-- pieces of which only one has elements, joined
pub flat_map_one : {X Y : Type 0} (piece : X → List Y) (xs : List X) (x : X) → IsOnce xs → Contains xs x
    → ((y : X) → Contains xs y → (x ≡ y → ⊥) → piece y ≡ []) → flat_map piece xs ≡ piece x
unfolding IsOnce
flat_map_one piece [] x once found none = absurd (Contains-nil x found)
flat_map_one {X} {Y} piece (first ∷ xs) x once found none = elim (Contains-cons_cases first xs x found) [
  | inl here ↦
      ap (λ (l : List Y). piece first ++ l)
      (flat_map_none piece xs (λ y later.
      none y (Contains-later first xs y later) (λ same. each_at (λ z. first ≡ z → ⊥) xs y once.0 later (here ∙ same))))
      ∙ append-nil (piece first) ∙ ap piece here
  | inr there ↦
      ap (λ (l : List Y). l ++ flat_map piece xs)
      (none first (Contains-first first xs) (λ same. each_at (λ z. first ≡ z → ⊥) xs x once.0 there (sym same)))
      ∙ flat_map_one piece xs x once.1 there (λ y later apart. none y (Contains-later first xs y later) apart)
]
