-- What passes a test.
use Rattle.std.proofs.Common.{Bool, List, [], ap, arith, cond, false, inl, inr, length, map, refl, subst, suc, sym}
use Rattle.std.proofs.Common.{true, ℕ, ◌&&◌, ◌+◌, ◌<◌, ◌∙◌, ◌∷◌, ◌≡◌, ◌≤◌}
use Rattle.std.proofs.lemmas.Bool.{false_from_ne_true, lt-ltb}
use Rattle.std.proofs.lemmas.List.Elements.{All-contains, All-contains_itself, All-filter, All-from_recursion}
use Rattle.std.proofs.lemmas.List.Elements.{filter_passes, recursion_from_All}
use Rattle.std.proofs.lemmas.List.Sums.{count_by-le-length, length-filter}
use Rattle.std.specs.List.{AllByRecursion, list_any}
use Rattle.std.specs.Prelude.{Contains, filter, if◌then◌else◌, nat_lt, ◌||◌}
use Rattle.suit_lists.proofs.Basics.{filter_length}
use Rattle.suit_lists.proofs.Elements.{Contains-cons_cases, Contains-first, Contains-later, Contains-nil}
use Rattle.suit_lists.proofs.Maps.{map_case}
use Rattle.suit_lists.proofs.Tests.{any_case}

-- what a test kept, filtered by another
pub filter-filter : {X : Type 0} (p q : X → Bool) (xs : List X) → filter q (filter p xs) ≡ filter (λ x. p x && q x) xs
filter-filter p q [] = refl
filter-filter {X} p q (x ∷ xs) =
    elim (p x) as (λ b. filter q (cond b (x ∷ filter p xs) (filter p xs))
    ≡ cond (b && q x) (x ∷ filter (λ y. p y && q y) xs) (filter (λ y. p y && q y) xs)) [
      | true ↦ ap (λ (rest : List X). cond (q x) (x ∷ rest) rest) (filter-filter p q xs)
      | false ↦ filter-filter p q xs
    ]

-- tests that agree on a list keep the same of it
pub filter_alike : {X : Type 0} (p q : X → Bool) (xs : List X) → AllByRecursion (λ x. p x ≡ q x) xs
    → filter p xs ≡ filter q xs
filter_alike p q [] alike = refl
filter_alike {X} p q (x ∷ xs) alike =
    ap (λ (b : Bool). cond b (x ∷ filter p xs) (filter p xs)) alike.0
    ∙ ap (λ (l : List X). cond (q x) (x ∷ l) l) (filter_alike p q xs alike.1)

pub filter_none : {X : Type 0} (xs : List X) → filter (λ x. false) xs ≡ []
filter_none [] = refl
filter_none (x ∷ xs) = filter_none xs

-- what a test keeps of images
pub filter_of_map : {X Y : Type 0} (p : Y → Bool) (f : X → Y) (xs : List X)
    → filter p (map f xs) ≡ map f (filter (λ x. p (f x)) xs)
filter_of_map p f [] = refl
filter_of_map {X} {Y} p f (x ∷ xs) =
    elim (p (f x)) as (λ b. cond b (f x ∷ filter p (map f xs)) (filter p (map f xs))
    ≡ map f (cond b (x ∷ filter (λ y. p (f y)) xs) (filter (λ y. p (f y)) xs))) [
      | true ↦ ap (λ (l : List Y). f x ∷ l) (filter_of_map p f xs)
      | false ↦ filter_of_map p f xs
    ]

-- each element that a filter keeps
pub each_filter : {X : Type 0} (P : X → Type 0) (test : X → Bool) (xs : List X) → AllByRecursion P xs
    → AllByRecursion P (filter test xs)
each_filter P test xs each = recursion_from_All P (filter test xs) (All-filter test P xs (All-from_recursion P xs each))

-- an element that passes is kept, whatever becomes of the one before it
Contains-kept : {X : Type 0} (test : X → Bool) (x : X) (xs : List X) (passes : Bool) → test x ≡ passes → (y : X)
    → test y ≡ true
    → Contains (x ∷ xs) y → (Contains xs y → Contains (filter test xs) y)
    → Contains (cond passes (x ∷ filter test xs) (filter test xs)) y
Contains-kept test x xs true is y passes found others = elim (Contains-cons_cases x xs y found) [
  | inl here ↦ subst (λ (z : _). Contains (x ∷ filter test xs) z) here (Contains-first x (filter test xs))
  | inr there ↦ Contains-later x (filter test xs) y (others there)
]
Contains-kept test x xs false is y passes found others = elim (Contains-cons_cases x xs y found) [
  | inl here ↦ let fails : test y ≡ false = ap test (sym here) ∙ is in absurd (cc)
  | inr there ↦ others there
]

-- an element that passes is kept by a filter
pub Contains-filter : {X : Type 0} (test : X → Bool) (xs : List X) (y : X) → Contains xs y → test y ≡ true
    → Contains (filter test xs) y
Contains-filter test [] y found passes = found
Contains-filter test (x ∷ xs) y found passes =
    Contains-kept test x xs (test x) refl y passes found (λ there. Contains-filter test xs y there passes)

-- what a filter keeps was there, and passes
pub kept_parts : {X : Type 0} (test : X → Bool) (xs : List X) (x : X) → Contains (filter test xs) x → Contains xs x
    × (test x ≡ true)
kept_parts {X} test xs x found = (
  All-contains (Contains xs) (filter test xs) x (All-filter test (Contains xs) xs (All-contains_itself xs)) found,
  All-contains (λ (y : X). test y ≡ true) (filter test xs) x (filter_passes test xs) found,
)

-- a filter keeps no more than there is
pub length_filter-most : {X : Type 0} (test : X → Bool) (xs : List X) → length (filter test xs) ≤ length xs
length_filter-most test xs = omega (arith, length-filter test xs, count_by-le-length test xs)

pub filter_same : {X : Type 0} (p q : X → Bool) (xs : List X) → ((x : X) → Contains xs x → p x ≡ q x) → filter p xs
    ≡ filter q xs
filter_same p q [] same = refl
filter_same {X} p q (x ∷ xs) same =
    ap (λ (b : Bool). cond b (x ∷ filter p xs) (filter p xs)) (same x (Contains-first x xs))
    ∙ ap (λ (l : List X). cond (q x) (x ∷ l) l) (filter_same p q xs (λ y found. same y (Contains-later x xs y found)))

-- some that a test keeps, and that pass another, are some that pass both
pub any_map_kept : {X Y : Type 0} (keeps : X → Bool) (image : X → Y) (test : Y → Bool) (xs : List X)
    → list_any test (map image (filter keeps xs)) ≡ list_any (λ x. keeps x && test (image x)) xs
any_map_kept keeps image test [] = refl
any_map_kept keeps image test (x ∷ xs) =
    any_case image test x (filter keeps xs) (list_any (λ y. keeps y && test (image y)) xs) (keeps x)
    (any_map_kept keeps image test xs)

pub filter_all : {X : Type 0} (test : X → Bool) (xs : List X) → ((x : X) → test x ≡ true) → filter test xs ≡ xs
filter_all test [] all = refl
filter_all {X} test (x ∷ xs) all =
    ap (λ (b : Bool). cond b (x ∷ filter test xs) (filter test xs)) (all x)
    ∙ ap (λ (l : List X). x ∷ l) (filter_all test xs all)

pub map_filter : {X Y : Type 0} (test : Y → Bool) (f : X → Y) (xs : List X)
    → map f (filter (λ x. test (f x)) xs) ≡ filter test (map f xs)
map_filter test f [] = refl
map_filter {Y = Y} test f (x ∷ xs) =
    map_case f x (filter (λ z. test (f z)) xs) (test (f x))
    ∙ ap (λ (l : List Y). cond (test (f x)) (f x ∷ l) l) (map_filter test f xs)

pub any_kept : {X : Type 0} (p : X → Bool) (xs : List X) → list_any p xs ≡ nat_lt 0 (length (filter p xs))
any_kept p [] = refl
any_kept {X} p (x ∷ xs) = ap (λ (b : Bool). p x || b) (any_kept p xs) ∙ either (p x)
  where
    either : (b : Bool) → (b || nat_lt 0 (length (filter p xs))) ≡ nat_lt 0
        (length (cond b (x ∷ filter p xs) (filter p xs)))
    either true = sym (lt-ltb 0 (suc (length (filter p xs))) (omega arith))
    either false = refl

pub filter_true : {X : Type 0} (xs : List X) → filter (λ x. true) xs ≡ xs
filter_true [] = refl
filter_true {X} (x ∷ xs) = ap (λ (l : List X). x ∷ l) (filter_true xs)

pub all_pass_map : {X Y : Type 0} (p : Y → Bool) (f : X → Y) (xs : List X) → ((x : X) → Contains xs x → p (f x) ≡ true)
    → filter p (map f xs) ≡ map f xs
all_pass_map p f [] passes = refl
all_pass_map {X} {Y} p f (x ∷ xs) passes =
    ap (λ (b : Bool). cond b (f x ∷ filter p (map f xs)) (filter p (map f xs))) (passes x (Contains-first x xs))
    ∙ ap (λ (l : List Y). f x ∷ l) (all_pass_map p f xs (λ y found. passes y (Contains-later x xs y found)))

pub none_passing : {X : Type 0} (test : X → Bool) (xs : List X) → ((x : X) → test x ≡ true → ⊥) → filter test xs ≡ []
none_passing test [] none = refl
none_passing {X} test (x ∷ xs) none =
    ap (λ (b : Bool). if b then x ∷ filter test xs else filter test xs) (false_from_ne_true (test x) (none x))
    ∙ none_passing test xs none

-- ---- counts and sums
counted_more : (p q : Bool) (kept others : ℕ) → (p ≡ true → q ≡ true) → kept ≤ others
    → (if p then kept + 1 else kept) ≤ (if q then others + 1 else others)
counted_more true true kept others gives le = omega (arith, le)
counted_more true false kept others gives le = absurd (cc (gives refl))
counted_more false true kept others gives le = omega (arith, le)
counted_more false false kept others gives le = le

-- what a stricter test keeps is no more
pub fewer_kept : {X : Type 0} (p q : X → Bool) (xs : List X) → ((x : X) → p x ≡ true → q x ≡ true)
    → length (filter p xs) ≤ length (filter q xs)
fewer_kept p q [] gives = omega arith
fewer_kept p q (x ∷ xs) gives =
    subst (λ (n : ℕ). n ≤ length (filter q (x ∷ xs))) (sym (filter_length (p x) x (filter p xs)))
    (subst (λ (n : ℕ). (if p x then length (filter p xs) + 1 else length (filter p xs)) ≤ n)
    (sym (filter_length (q x) x (filter q xs)))
    (counted_more (p x) (q x) (length (filter p xs)) (length (filter q xs)) (gives x) (fewer_kept p q xs gives)))

apart_kept : {X : Type 0} (p q : Bool) (x : X) (xs ys : List X) (n : ℕ) → (p ≡ true → q ≡ true → ⊥)
    → length xs + length ys ≤ n
    → length (cond p (x ∷ xs) xs) + length (cond q (x ∷ ys) ys) ≤ suc n
apart_kept true true x xs ys n apart fit = absurd (apart refl refl)
apart_kept true false x xs ys n apart fit = omega arith
apart_kept false true x xs ys n apart fit = omega arith
apart_kept false false x xs ys n apart fit = omega arith

-- two tests that nothing passes both keep no more than there is
pub kept_apart : {X : Type 0} (p q : X → Bool) (xs : List X) → ((x : X) → p x ≡ true → q x ≡ true → ⊥)
    → length (filter p xs) + length (filter q xs) ≤ length xs
kept_apart p q [] apart = omega arith
kept_apart p q (x ∷ xs) apart =
    apart_kept (p x) (q x) x (filter p xs) (filter q xs) (length xs) (apart x) (kept_apart p q xs apart)

kept_less : (p q : Bool) (kept others : ℕ) → p ≡ false → q ≡ true → kept ≤ others
    → (if p then kept + 1 else kept) < (if q then others + 1 else others)
kept_less true q kept others fails passes le = absurd (cc)
kept_less false false kept others fails passes le = absurd (cc)
kept_less false true kept others fails passes le = omega (arith, le)

kept_same : (p q : Bool) (kept others : ℕ) → (p ≡ true → q ≡ true) → kept < others
    → (if p then kept + 1 else kept) < (if q then others + 1 else others)
kept_same true true kept others gives le = omega (arith, le)
kept_same true false kept others gives le = absurd (cc (gives refl))
kept_same false true kept others gives le = omega (arith, le)
kept_same false false kept others gives le = le

-- and it is less where one of those that the other keeps fails it
pub less_kept : {X : Type 0} (p q : X → Bool) (xs : List X) (x : X) → ((y : X) → p y ≡ true → q y ≡ true)
    → Contains xs x → p x ≡ false → q x ≡ true → length (filter p xs) < length (filter q xs)
less_kept p q [] x gives found fails passes = absurd (Contains-nil x found)
less_kept p q (first ∷ xs) x gives found fails passes =
    subst (λ (n : ℕ). n < length (filter q (first ∷ xs))) (sym (filter_length (p first) first (filter p xs)))
    (subst (λ (n : ℕ). (if p first then length (filter p xs) + 1 else length (filter p xs)) < n)
    (sym (filter_length (q first) first (filter q xs)))
    (elim (Contains-cons_cases first xs x found) [
      | inl here ↦ kept_less (p first) (q first) (length (filter p xs)) (length (filter q xs)) (ap p here ∙ fails)
          (ap q here ∙ passes) (fewer_kept p q xs gives)
      | inr there ↦ kept_same (p first) (q first) (length (filter p xs)) (length (filter q xs)) (gives first)
          (less_kept p q xs x gives there fails passes)
    ]))
