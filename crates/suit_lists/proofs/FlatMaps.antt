-- Pieces joined end to end.
use Rattle.std.proofs.Common.{Bool, List, [], ap, append-nil, append_assoc, arith, cond, false, get_or, inl, inr}
use Rattle.std.proofs.Common.{length, map, refl, subst, suc, sym, true, ℕ, ◌++◌, ◌+◌, ◌<◌, ◌∙◌, ◌∷◌, ◌≡◌, ◌≤◌}
use Rattle.std.proofs.lemmas.List.{length-append, map-append}
use Rattle.std.proofs.lemmas.List.Concat.{flat_map-append}
use Rattle.std.proofs.lemmas.List.Elements.{Contains-append_left, Contains-append_right, filter-append}
use Rattle.std.specs.List.{AllByRecursion, flat_map, list_any}
use Rattle.std.specs.Prelude.{Contains, filter, if◌then◌else◌, ◌||◌}
use Rattle.suit_lists.proofs.Basics.{either_case}
use Rattle.suit_lists.proofs.Elements.{Contains-cons_cases, Contains-first, Contains-later, Contains-nil, each_append}
use Rattle.suit_lists.proofs.Elements.{each_at, each_in}
use Rattle.suit_lists.proofs.Tests.{any_append}

-- what holds of all elements of the pieces holds of all in the pieces joined
pub each_flat_map : {X Y : Type 0} (P : Y → Type 0) (piece : X → List Y) (xs : List X)
    → ((x : X) → Contains xs x → AllByRecursion P (piece x))
    → AllByRecursion P (flat_map piece xs)
each_flat_map P piece [] all = tt
each_flat_map P piece (x ∷ xs) all =
    each_append P (piece x) (flat_map piece xs) (all x (Contains-first x xs))
    (each_flat_map P piece xs (λ y found. all y (Contains-later x xs y found)))

-- what stands in a piece stands in all pieces joined
pub Contains-flat_map : {X Y : Type 0} (f : X → List Y) (xs : List X) (x : X) (y : Y) → Contains xs x → Contains (f x) y
    → Contains (flat_map f xs) y
Contains-flat_map f [] x y found within = absurd (Contains-nil x found)
Contains-flat_map {X} f (first ∷ others) x y found within = elim (Contains-cons_cases first others x found) [
  | inl here ↦ Contains-append_left (f first) (flat_map f others) y
      (subst (λ (z : X). Contains (f z) y) (sym here) within)
  | inr there ↦ Contains-append_right (f first) (flat_map f others) y (Contains-flat_map f others x y there within)
]

pub flat_map_alike : {X Y : Type 0} (f g : X → List Y) (xs : List X) → ((x : X) → f x ≡ g x) → flat_map f xs ≡ flat_map g xs
flat_map_alike f g [] same = refl
flat_map_alike f g (x ∷ xs) same =
    let first : f x ≡ g x = same x in
    let others : flat_map f xs ≡ flat_map g xs = flat_map_alike f g xs same in
    cc

-- ---- lists
pub filter_flat_map : {X Y : Type 0} (test : Y → Bool) (piece : X → List Y) (xs : List X)
    → filter test (flat_map piece xs) ≡ flat_map (λ x. filter test (piece x)) xs
filter_flat_map test piece [] = refl
filter_flat_map {X} {Y} test piece (x ∷ xs) =
    filter-append test (piece x) (flat_map piece xs)
    ∙ ap (λ (l : List Y). filter test (piece x) ++ l) (filter_flat_map test piece xs)

pub flat_map_flat_map : {X Y Z : Type 0} (write : Y → List Z) (piece : X → List Y) (xs : List X)
    → flat_map write (flat_map piece xs) ≡ flat_map (λ x. flat_map write (piece x)) xs
flat_map_flat_map write piece [] = refl
flat_map_flat_map {X} {Y} {Z} write piece (x ∷ xs) =
    flat_map-append write (piece x) (flat_map piece xs)
    ∙ ap (λ (l : List Z). flat_map write (piece x) ++ l) (flat_map_flat_map write piece xs)

-- two functions that agree on the elements of a list write the same of it
pub flat_map_same : {X Y : Type 0} (f g : X → List Y) (xs : List X) → ((x : X) → Contains xs x → f x ≡ g x)
    → flat_map f xs ≡ flat_map g xs
flat_map_same f g [] same = refl
flat_map_same f g (x ∷ xs) same =
    let first : f x ≡ g x = same x (Contains-first x xs) in
    let others : flat_map f xs ≡ flat_map g xs = flat_map_same f g xs
    (λ y found. same y (Contains-later x xs y found)) in
    cc

pub flat_map_none : {X Y : Type 0} (f : X → List Y) (xs : List X) → ((x : X) → Contains xs x → f x ≡ [])
    → flat_map f xs ≡ []
flat_map_none f [] none = refl
flat_map_none {X} {Y} f (x ∷ xs) none =
    ap (λ (l : List Y). l ++ flat_map f xs) (none x (Contains-first x xs))
    ∙ flat_map_none f xs (λ y found. none y (Contains-later x xs y found))

flat_map_case : {X Y : Type 0} (write : X → List Y) (x : X) (kept : List X) (b : Bool)
    → flat_map write (cond b (x ∷ kept) kept) ≡ (if b then write x else []) ++ flat_map write kept
flat_map_case write x kept true = refl
flat_map_case write x kept false = refl

-- what is written of a first element that passes a test, or does not
pub flat_map_filter_first : {X Y : Type 0} (test : X → Bool) (write : X → List Y) (x : X) (xs : List X)
    → flat_map write (filter test (x ∷ xs)) ≡ (if test x then write x else []) ++ flat_map write (filter test xs)
flat_map_filter_first test write x xs = flat_map_case write x (filter test xs) (test x)

-- what is written of images that pass a test is all that is written, where nothing is of the others
pub flat_map_passing : {X Y Z : Type 0} (test : Y → Bool) (image : X → Y) (write : Y → List Z) (all : X → List Z) (xs : List X)
    → ((x : X) → Contains xs x → write (image x) ≡ all x)
    → ((x : X) → Contains xs x → test (image x) ≡ false → all x ≡ [])
    → flat_map write (filter test (map image xs)) ≡ flat_map all xs
flat_map_passing test image write all [] same none = refl
flat_map_passing {X} {Y} {Z} test image write all (x ∷ xs) same none =
    flat_map_filter_first test write (image x) (map image xs)
    ∙ ap (λ (l : List Z). (if test (image x) then write (image x) else []) ++ l)
    (flat_map_passing test image write all xs (λ y found. same y (Contains-later x xs y found))
    (λ y found. none y (Contains-later x xs y found)))
    ∙ ap (λ (l : List Z). l ++ flat_map all xs)
    (either_case (write (image x)) (all x) (test (image x)) (λ passes. same x (Contains-first x xs))
    (λ fails. none x (Contains-first x xs) fails))

pub flat_append : {X Y : Type 0} (piece : X → List Y) (xs ys : List X)
    → flat_map piece (xs ++ ys) ≡ flat_map piece xs ++ flat_map piece ys
flat_append piece [] ys = refl
flat_append {X} {Y} piece (x ∷ xs) ys =
    ap (λ (l : List Y). piece x ++ l) (flat_append piece xs ys)
    ∙ sym (append_assoc (piece x) (flat_map piece xs) (flat_map piece ys))

-- what stands in pieces joined stands in one of them
pub flat_map_from : {X Y : Type 0} (f : X → List Y) (xs : List X) (y : Y) → Contains (flat_map f xs) y → (x : X)
    × Contains xs x × Contains (f x) y
flat_map_from {X} {Y} f xs y found =
    each_at (λ z. (x : X) × Contains xs x × Contains (f x) z) (flat_map f xs) y
    (each_flat_map (λ z. (x : X) × Contains xs x × Contains (f x) z) f xs
    (λ x here. each_in (λ z. (w : X) × Contains xs w × Contains (f w) z) (f x) (λ z there. (x, here, there)))) found

-- ---- lists
pub flat_map_map : {X Y Z : Type 0} (f : Y → List Z) (g : X → Y) (xs : List X)
    → flat_map f (map g xs) ≡ flat_map (λ x. f (g x)) xs
flat_map_map f g [] = refl
flat_map_map {Z = Z} f g (x ∷ xs) = ap (λ (l : List Z). f (g x) ++ l) (flat_map_map f g xs)

-- two lists of which the pieces are the same, one by one
pub same_pieces : {X Y Z : Type 0} (f : X → List Z) (g : Y → List Z) (xs : List X) (ys : List Y)
    → length xs ≡ length ys
    → ((i : ℕ) (d : X) (e : Y) → i < length ys → f (get_or xs i d) ≡ g (get_or ys i e))
    → flat_map f xs ≡ flat_map g ys
same_pieces f g [] [] long same = refl
same_pieces f g [] (y ∷ ys) long same = absurd (omega (arith, long))
same_pieces f g (x ∷ xs) [] long same = absurd (omega (arith, long))
same_pieces {X} {Y} {Z} f g (x ∷ xs) (y ∷ ys) long same =
    ap (λ (l : List Z). l ++ flat_map f xs) (same 0 x y (omega arith))
    ∙ ap (λ (l : List Z). g y ++ l) (same_pieces f g xs ys (omega (arith, long))
    (λ i d e below. same (suc i) d e (omega (arith, below))))

pub any_flat_map : {X Y : Type 0} (p : Y → Bool) (f : X → List Y) (xs : List X)
    → list_any p (flat_map f xs) ≡ list_any (λ x. list_any p (f x)) xs
any_flat_map p f [] = refl
any_flat_map p f (x ∷ xs) =
    any_append p (f x) (flat_map f xs) ∙ ap (λ (b : Bool). list_any p (f x) || b) (any_flat_map p f xs)

-- what is made of some elements, and of those that pass a test
pub flat_map_kept : {X Y : Type 0} (f : X → List Y) (p : X → Bool) (xs : List X)
    → flat_map f (filter p xs) ≡ flat_map (λ x. if p x then f x else []) xs
flat_map_kept f p [] = refl
flat_map_kept {X} {Y} f p (x ∷ xs) = either (p x) (flat_map_kept f p xs)
  where
    either : (b : Bool) → flat_map f (filter p xs) ≡ flat_map (λ y. if p y then f y else []) xs
        → flat_map f (cond b (x ∷ filter p xs) (filter p xs))
        ≡ (if b then f x else []) ++ flat_map (λ y. if p y then f y else []) xs
    either true rest = ap (λ (l : List Y). f x ++ l) rest
    either false rest = rest

-- what is made of joined pieces is joined
pub map_flat : {X Y Z : Type 0} (f : Y → Z) (g : X → List Y) (xs : List X)
    → map f (flat_map g xs) ≡ flat_map (λ x. map f (g x)) xs
map_flat f g [] = refl
map_flat {X} {Y} {Z} f g (x ∷ xs) =
    map-append f (g x) (flat_map g xs) ∙ ap (λ (l : List Z). map f (g x) ++ l) (map_flat f g xs)

pub flat_choice : {X Y : Type 0} (f : X → List Y) (b : Bool) (x : X)
    → flat_map f (cond b (x ∷ []) []) ≡ cond b (f x) []
flat_choice f true x = append-nil (f x)
flat_choice f false x = refl

pub kept_pieces : {X Y Z : Type 0} (f : Y → Z) (test : Y → Bool) (piece : X → List Y) (xs : List X)
    → map f (filter test (flat_map piece xs)) ≡ flat_map (λ x. map f (filter test (piece x))) xs
kept_pieces f test piece [] = refl
kept_pieces {X} {Y} {Z} f test piece (x ∷ xs) =
    ap (map f) (filter-append test (piece x) (flat_map piece xs))
    ∙ map-append f (filter test (piece x)) (filter test (flat_map piece xs))
    ∙ ap (λ (l : List Z). map f (filter test (piece x)) ++ l) (kept_pieces f test piece xs)

-- ---- lists
flat_cons : {X Y : Type 0} (made : X → List Y) (b : Bool) (x : X) (xs : List X)
    → length (flat_map made (cond b (x ∷ xs) xs)) ≡ (if b then length (made x) else 0) + length (flat_map made xs)
flat_cons made true x xs = length-append (made x) (flat_map made xs)
flat_cons made false x xs = omega arith

joined_less : (p q : Bool) (one other rest others : ℕ) → (p ≡ true → q ≡ true) → one ≤ other → rest ≤ others
    → (if p then one else 0) + rest ≤ (if q then other else 0) + others
joined_less true true one other rest others gives first later = omega (arith, first, later)
joined_less true false one other rest others gives first later = absurd (cc (gives refl))
joined_less false true one other rest others gives first later = omega (arith, first, later)
joined_less false false one other rest others gives first later = omega (arith, later)

-- what is made of fewer elements, and no more of each, is no more
pub flat_kept : {X Y Z : Type 0} (p q : X → Bool) (made : X → List Y) (others : X → List Z) (xs : List X)
    → ((x : X) → p x ≡ true → q x ≡ true) → ((x : X) → length (made x) ≤ length (others x))
    → length (flat_map made (filter p xs)) ≤ length (flat_map others (filter q xs))
flat_kept p q made others [] gives less = omega arith
flat_kept p q made others (x ∷ xs) gives less =
    subst (λ (n : ℕ). n ≤ length (flat_map others (filter q (x ∷ xs)))) (sym (flat_cons made (p x) x (filter p xs)))
    (subst (λ (n : ℕ). (if p x then length (made x) else 0) + length (flat_map made (filter p xs)) ≤ n)
    (sym (flat_cons others (q x) x (filter q xs)))
    (joined_less (p x) (q x) (length (made x)) (length (others x)) (length (flat_map made (filter p xs)))
    (length (flat_map others (filter q xs))) (gives x) (less x) (flat_kept p q made others xs gives less)))

-- ---- lists

-- what passes a test is no more than what is made of it
pub kept_in : {X Y : Type 0} (test : X → Bool) (made : X → List Y) (xs : List X)
    → ((x : X) → test x ≡ true → 0 < length (made x)) → length (filter test xs) ≤ length (flat_map made xs)
kept_in test made [] some = omega arith
kept_in {X} {Y} test made (x ∷ xs) some =
    by_test (test x) refl (length-append (made x) (flat_map made xs)) (kept_in test made xs some)
  where
    by_test : (b : Bool) → test x ≡ b
        → length (made x ++ flat_map made xs) ≡ length (made x) + length (flat_map made xs)
        → length (filter test xs) ≤ length (flat_map made xs)
        → length (cond b (x ∷ filter test xs) (filter test xs)) ≤ length (made x ++ flat_map made xs)
    by_test true e whole rest = let one = some x e in omega (arith, whole, rest, one)
    by_test false e whole rest = omega (arith, whole, rest)
