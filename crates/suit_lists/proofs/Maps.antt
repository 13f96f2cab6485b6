-- What a function makes of a list.
use Rattle.std.proofs.Common.{Bool, List, [], ap, cond, false, inl, inr, map, refl, subst, sym, true, ◌++◌, ◌∙◌, ◌∷◌}
use Rattle.std.proofs.Common.{◌≡◌}
use Rattle.std.proofs.lemmas.List.{append_assoc}
use Rattle.std.proofs.lemmas.List.Elements.{All-from_recursion, All-map}
use Rattle.std.specs.List.{AllByRecursion}
use Rattle.std.specs.Prelude.{All, Contains, if◌then◌else◌}
use Rattle.suit_lists.proofs.Elements.{Contains-cons_cases, Contains-first, Contains-later, Contains-nil, each_in}

-- what a function makes of a list comes of its elements
pub Contains-map_from : {X Y : Type 0} (f : X → Y) (xs : List X) (y : Y) → Contains (map f xs) y → (x : X)
    × Contains xs x × (f x ≡ y)
Contains-map_from f [] y found = absurd (Contains-nil y found)
Contains-map_from f (x ∷ xs) y found = elim (Contains-cons_cases (f x) (map f xs) y found) [
  | inl here ↦ (x, Contains-first x xs, here)
  | inr there ↦ let later = Contains-map_from f xs y there in (later.0, Contains-later x xs later.0 later.1, later.2)
]

-- two functions that agree on the elements of a list make the same list of it
pub map_same : {X Y : Type 0} (f g : X → Y) (xs : List X) → ((x : X) → Contains xs x → f x ≡ g x) → map f xs ≡ map g xs
map_same f g [] same = refl
map_same f g (x ∷ xs) same =
    let first : f x ≡ g x = same x (Contains-first x xs) in
    let others : map f xs ≡ map g xs = map_same f g xs (λ y found. same y (Contains-later x xs y found)) in
    cc

-- each element that a map gives
pub each_map : {X Y : Type 0} (P : Y → Type 0) (f : X → Y) (xs : List X) → AllByRecursion (λ x. P (f x)) xs
    → AllByRecursion P (map f xs)
each_map P f [] each = tt
each_map P f (x ∷ xs) each = (each.0, each_map P f xs each.1)

-- what a function makes of an element is among what it makes of the list
pub Contains-map : {X Y : Type 0} (f : X → Y) (xs : List X) (x : X) → Contains xs x → Contains (map f xs) (f x)
Contains-map f [] x found = absurd (Contains-nil x found)
Contains-map {Y = Y} f (y ∷ ys) x found = elim (Contains-cons_cases y ys x found) [
  | inl here ↦ subst (λ (z : Y). Contains (map f (y ∷ ys)) z) (ap f here) (Contains-first (f y) (map f ys))
  | inr there ↦ Contains-later (f y) (map f ys) (f x) (Contains-map f ys x there)
]

-- what holds of all that a list is mapped to
pub All-mapped : {X Y : Type 0} (P : Y → Type 0) (f : X → Y) (xs : List X) → ((x : X) → Contains xs x → P (f x))
    → All P (map f xs)
All-mapped {X} P f xs each = All-map P f xs (All-from_recursion (λ (x : X). P (f x)) xs
    (each_in (λ (x : X). P (f x)) xs each))

pub map_itself : {X : Type 0} (xs : List X) → map (λ x. x) xs ≡ xs
map_itself [] = refl
map_itself {X} (x ∷ xs) = ap (λ (l : List X). x ∷ l) (map_itself xs)

pub map_twice : {X Y Z : Type 0} (f : Y → Z) (g : X → Y) (xs : List X) → map f (map g xs) ≡ map (λ x. f (g x)) xs
map_twice f g [] = refl
map_twice {Z = Z} f g (x ∷ xs) = ap (λ (l : List Z). f (g x) ∷ l) (map_twice f g xs)

pub map_case : {X Y : Type 0} (f : X → Y) (x : X) (xs : List X) (b : Bool)
    → map f (cond b (x ∷ xs) xs) ≡ cond b (f x ∷ map f xs) (map f xs)
map_case f x xs true = refl
map_case f x xs false = refl

-- ---- maps

-- one more element of what a map gives
pub one_mapped : {X Y : Type 0} (f : X → Y) (so_far : List Y) (x : X) (rest whole : List X) → whole ≡ x ∷ rest
    → (so_far ++ f x ∷ []) ++ map f rest ≡ so_far ++ map f whole
one_mapped {X} {Y} f so_far x rest whole is =
    append_assoc so_far (f x ∷ []) (map f rest) ∙ ap (λ (l : List X). so_far ++ map f l) (sym is)

pub map_case_append : {X Y : Type 0} (f : X → Y) (b : Bool) (x : X) (xs : List X)
    → map f (cond b (x ∷ xs) xs) ≡ (if b then f x ∷ [] else []) ++ map f xs
map_case_append f true x xs = refl
map_case_append f false x xs = refl
