-- Lists in which each element is related to all later ones.
use Rattle.std.proofs.Common.{Bool, List, [], arith, cond, false, map, subst, suc, sym, true, zero, ◌++◌, ◌∷◌, ◌≡◌}
use Rattle.std.proofs.lemmas.List.Elements.{All-from_recursion, recursion_from_All}
use Rattle.std.proofs.lemmas.List.Kept.{AllPairs-cons}
use Rattle.std.specs.List.{AllByRecursion, flat_map}
use Rattle.std.specs.Prelude.{AllPairs, Contains, filter}
use Rattle.suit_lists.proofs.Elements.{each_append, each_at, each_gives, each_in}
use Rattle.suit_lists.proofs.Filters.{each_filter}
use Rattle.suit_lists.proofs.FlatMaps.{each_flat_map}
use Rattle.suit_lists.proofs.Maps.{each_map}
use Rattle.suit_lists.proofs.Once.{IsOnce, once_append}

-- each element of a list is related to all later ones
unfoldable pub Chained : {X : Type 0} → (X → X → Type 0) → List X → Type 0
Chained R [] = Unit {0}
Chained R (x ∷ xs) = AllByRecursion (R x) xs × Chained R xs

pub chained_pairs : {X : Type 0} (R : X → X → Type 0) (xs : List X) → Chained R xs → AllPairs R xs
unfolding Chained
chained_pairs R [] chain = λ i j d below within. absurd (omega arith)
chained_pairs R (x ∷ xs) chain =
    AllPairs-cons R x xs (All-from_recursion (R x) xs chain.0) (chained_pairs R xs chain.1)

pub chained_append : {X : Type 0} (R : X → X → Type 0) (xs ys : List X) → Chained R xs → Chained R ys
    → AllByRecursion (λ x. AllByRecursion (R x) ys) xs → Chained R (xs ++ ys)
unfolding Chained
chained_append R [] ys chain others across = others
chained_append R (x ∷ xs) ys chain others across =
    (each_append (R x) xs ys chain.0 across.0, chained_append R xs ys chain.1 others across.1)

chained_kept : {X : Type 0} (R : X → X → Type 0) (x : X) (xs : List X) (keeps : Bool) → AllByRecursion (R x) xs
    → Chained R xs → Chained R (cond keeps (x ∷ xs) xs)
unfolding Chained
chained_kept R x xs true each chain = (each, chain)
chained_kept R x xs false each chain = chain

pub chained_filter : {X : Type 0} (R : X → X → Type 0) (test : X → Bool) (xs : List X) → Chained R xs
    → Chained R (filter test xs)
unfolding Chained
chained_filter R test [] chain = tt
chained_filter R test (x ∷ xs) chain =
    chained_kept R x (filter test xs) (test x) (each_filter (R x) test xs chain.0) (chained_filter R test xs chain.1)

pub chained_map : {X Y : Type 0} (R : X → X → Type 0) (Q : Y → Y → Type 0) (f : X → Y) (xs : List X)
    → ((x y : X) → R x y → Q (f x) (f y)) → Chained R xs → Chained Q (map f xs)
unfolding Chained
chained_map R Q f [] keeps chain = tt
chained_map R Q f (x ∷ xs) keeps chain = (
  each_map (Q (f x)) f xs (each_gives (R x) (λ y. Q (f x) (f y)) xs (keeps x) chain.0),
  chained_map R Q f xs keeps chain.1,
)

-- what holds of each element and all later ones, element by element
pub pairs_chained : {X : Type 0} (R : X → X → Type 0) (xs : List X) → AllPairs R xs → Chained R xs
unfolding Chained
pairs_chained R [] pairs = tt
pairs_chained R (x ∷ xs) pairs = (
  recursion_from_All (R x) xs (λ k d below. pairs zero (suc k) d (omega arith) (omega (arith, below))),
  pairs_chained R xs (λ i j d lt within. pairs (suc i) (suc j) d (omega (arith, lt)) (omega (arith, within))),
)

-- pieces of which none has an element of a later one
pub once_pieces : {X Y : Type 0} (R : X → X → Type 0) (piece : X → List Y) (xs : List X) → Chained R xs
    → ((x : X) → IsOnce (piece x))
    → ((x z : X) → R x z → (y : Y) → Contains (piece x) y → Contains (piece z) y → ⊥)
    → IsOnce (flat_map piece xs)
unfolding IsOnce Chained
once_pieces R piece [] chain each apart = tt
once_pieces {X} {Y} R piece (x ∷ xs) chain each apart =
    once_append (piece x) (flat_map piece xs) (each x) (once_pieces R piece xs chain.1 each apart)
    (each_in (λ y. AllByRecursion (λ w. y ≡ w → ⊥) (flat_map piece xs)) (piece x)
    (λ y here. each_flat_map (λ w. y ≡ w → ⊥) piece xs
    (λ z later. each_in (λ w. y ≡ w → ⊥) (piece z)
    (λ w there same. apart x z (each_at (R x) xs z chain.0 later) y here
    (subst (Contains (piece z)) (sym same) there)))))
