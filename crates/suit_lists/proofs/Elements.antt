-- What is in a list, and what holds of each element of one.
use Rattle.std.proofs.Common.{All, Bool, List, [], arith, false, inl, inr, length, refl, subst, suc, true, zero, ◌++◌}
use Rattle.std.proofs.Common.{◌<◌, ◌∷◌, ◌≡◌, ◌⊎◌}
use Rattle.std.proofs.lemmas.List.Elements.{All-contains, All-contains_itself, All-from_recursion, Contains-get_or}
use Rattle.std.proofs.lemmas.List.Elements.{recursion_from_All}
use Rattle.std.specs.List.{AllByRecursion}
use Rattle.std.specs.Prelude.{Contains, if◌then◌else◌}

-- an element of a list with a first one is the first, or one of the others
pub Contains-cons_cases : {X : Type 0} (x : X) (xs : List X) (y : X) → Contains (x ∷ xs) y → (x ≡ y) ⊎ Contains xs y
Contains-cons_cases x xs y (zero, below, is) = inl is
Contains-cons_cases x xs y (suc k, below, is) = inr (k, omega arith, is)

-- nothing is in no list
pub Contains-nil : {X : Type 0} (y : X) → Contains {X = X} [] y → ⊥
Contains-nil y (k, below, is) = omega arith

-- the first is in a list, and so are the others
pub Contains-first : {X : Type 0} (x : X) (xs : List X) → Contains (x ∷ xs) x
Contains-first x xs = (0, omega arith, refl)

pub Contains-later : {X : Type 0} (x : X) (xs : List X) (y : X) → Contains xs y → Contains (x ∷ xs) y
Contains-later x xs y (k, below, is) = (suc k, omega arith, is)

-- each element of a list is in it
pub each_contained : {X : Type 0} (xs : List X) → AllByRecursion (Contains xs) xs
each_contained xs = recursion_from_All (Contains xs) xs (All-contains_itself xs)

-- what holds of each element holds of one that is in the list
pub each_at : {X : Type 0} (P : X → Type 0) (xs : List X) (x : X) → AllByRecursion P xs → Contains xs x → P x
each_at P xs x each found = All-contains P xs x (All-from_recursion P xs each) found

-- what holds of everything holds of each element
pub each_of : {X : Type 0} (P : X → Type 0) (xs : List X) → ((x : X) → P x) → AllByRecursion P xs
each_of P [] all = tt
each_of P (x ∷ xs) all = (all x, each_of P xs all)

-- what follows from what holds of each element
pub each_gives : {X : Type 0} (P Q : X → Type 0) (xs : List X) → ((x : X) → P x → Q x) → AllByRecursion P xs
    → AllByRecursion Q xs
each_gives P Q [] gives each = tt
each_gives P Q (x ∷ xs) gives each = (gives x each.0, each_gives P Q xs gives each.1)

-- what holds of all that is in a list holds of each element
pub each_in : {X : Type 0} (P : X → Type 0) (xs : List X) → ((x : X) → Contains xs x → P x) → AllByRecursion P xs
each_in P xs all = each_gives (Contains xs) P xs all (each_contained xs)

-- each element of two lists
pub each_append : {X : Type 0} (P : X → Type 0) (xs ys : List X) → AllByRecursion P xs → AllByRecursion P ys
    → AllByRecursion P (xs ++ ys)
each_append P [] ys each other = other
each_append P (x ∷ xs) ys each other = (each.0, each_append P xs ys each.1 other)

-- what a choice between a list and none contains is in the list
pub Contains-if : {X : Type 0} (b : Bool) (xs : List X) (y : X) → Contains (if b then xs else []) y → Contains xs y
Contains-if true xs y found = found
Contains-if false xs y found = absurd (Contains-nil y found)

-- and what a choice between none and a list contains
pub Contains-unless : {X : Type 0} (b : Bool) (xs : List X) (y : X) → Contains (if b then [] else xs) y → Contains xs y
Contains-unless true xs y found = absurd (Contains-nil y found)
Contains-unless false xs y found = found

pub some_of : {X : Type 0} (xs : List X) (x : X) → Contains xs x → 0 < length xs
some_of xs x found = omega (arith, found.1)

pub all_from_contains : {X : Type 0} (P : X → Type 0) (xs : List X) → ((x : X) → Contains xs x → P x) → All P xs
all_from_contains P xs h = λ index other less. h _ (Contains-get_or xs index other less)

pub first_of : {X : Type 0} (xs : List X) → 0 < length xs → (x : X) × Contains xs x
first_of [] some = absurd (omega (arith, some))
first_of (x ∷ xs) some = (x, Contains-first x xs)

pub each_unless : {X : Type 0} (P : X → Type 0) (b : Bool) (xs : List X) → AllByRecursion P xs
    → AllByRecursion P (if b then xs else [])
each_unless P true xs each = each
each_unless P false xs each = tt

-- what stands in a list with one more stands in the list or is that one
pub append_cases : {X : Type 0} (xs : List X) (x y : X) → Contains (xs ++ x ∷ []) y → (P : X → Type 0)
    → ((z : X) → Contains xs z → P z) → P x → P y
append_cases {X} [] x y found P each here = elim (Contains-cons_cases x [] y found) [
  | inl is ↦ subst P is here
  | inr none ↦ absurd (Contains-nil y none)
]
append_cases {X} (first ∷ xs) x y found P each here = elim (Contains-cons_cases first (xs ++ x ∷ []) y found) [
  | inl is ↦ subst P is (each first (Contains-first first xs))
  | inr there ↦ append_cases xs x y there P (λ z held. each z (Contains-later first xs z held)) here
]

-- a list with no element is empty
pub nil_from_none : {X : Type 0} (xs : List X) → ((x : X) → Contains xs x → ⊥) → xs ≡ []
nil_from_none [] none = refl
nil_from_none (x ∷ xs) none = absurd (none x (Contains-first x xs))

-- what a list contains, a list that is equal to it contains
pub Contains-same : {X : Type 0} (x : X) {xs ys : List X} → xs ≡ ys → Contains xs x → Contains ys x
Contains-same {X} x same found = subst (λ (l : List X). Contains l x) same found
