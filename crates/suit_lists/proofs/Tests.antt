-- Whether a test passes at some or at all elements.
use Rattle.std.proofs.Common.{Bool, List, [], ap, cond, false, inl, inr, map, refl, sym, true, ◌++◌, ◌∙◌, ◌∷◌, ◌≡◌}
use Rattle.std.proofs.lemmas.Bool.{and_parts, false≢true, or_cases, or_left, or_right}
use Rattle.std.specs.List.{AllByRecursion, list_all, list_any}
use Rattle.std.specs.Prelude.{Contains, not, ◌&&◌, ◌||◌}
use Rattle.suit_lists.proofs.Elements.{Contains-cons_cases, Contains-first, Contains-later, Contains-nil}

pub any_image : {X Y : Type 0} (image : X → Y) (test : Y → Bool) (xs : List X)
    → list_any test (map image xs) ≡ list_any (λ x. test (image x)) xs
any_image image test [] = refl
any_image image test (x ∷ xs) = ap (λ (b : Bool). test (image x) || b) (any_image image test xs)

-- ---- the moves
pub any_case : {X Y : Type 0} (image : X → Y) (test : Y → Bool) (x : X) (kept : List X) (rest b : Bool)
    → list_any test (map image kept) ≡ rest
    → list_any test (map image (cond b (x ∷ kept) kept)) ≡ ((b && test (image x)) || rest)
any_case image test x kept rest true same = ap (λ (c : Bool). test (image x) || c) same
any_case image test x kept rest false same = same

pub any_alike : {X : Type 0} (p q : X → Bool) (xs : List X) → ((x : X) → p x ≡ q x) → list_any p xs ≡ list_any q xs
any_alike p q [] same = refl
any_alike p q (x ∷ xs) same =
    ap (λ (b : Bool). b || list_any p xs) (same x) ∙ ap (λ (b : Bool). q x || b) (any_alike p q xs same)

-- a test of what a map gives
pub all_mapped : {X Y : Type 0} (p : Y → Bool) (f : X → Y) (xs : List X)
    → list_all p (map f xs) ≡ list_all (λ x. p (f x)) xs
all_mapped p f [] = refl
all_mapped p f (x ∷ xs) = ap (λ (b : Bool). p (f x) && b) (all_mapped p f xs)

-- ---- lists

-- where an element passes a test, one that does is in the list
pub some_passing : {X : Type 0} (test : X → Bool) (xs : List X) → list_any test xs ≡ true → (x : X) × Contains xs x
    × (test x ≡ true)
some_passing test [] some = absurd (false≢true some)
some_passing test (x ∷ xs) some = elim (or_cases (test x) (list_any test xs) some) [
  | inl here ↦ (x, Contains-first x xs, here)
  | inr there ↦ let later = some_passing test xs there in (later.0, Contains-later x xs later.0 later.1, later.2)
]

pub passing_some : {X : Type 0} (test : X → Bool) (xs : List X) (x : X) → Contains xs x → test x ≡ true
    → list_any test xs ≡ true
passing_some test [] x found passes = absurd (Contains-nil x found)
passing_some test (first ∷ xs) x found passes = elim (Contains-cons_cases first xs x found) [
  | inl here ↦ or_left (test first) (list_any test xs) (ap test here ∙ passes)
  | inr there ↦ or_right (test first) (list_any test xs) (passing_some test xs x there passes)
]

pub none_new : {X : Type 0} (test : X → Bool) (xs : List X) → ((x : X) → Contains xs x → test x ≡ true)
    → list_any (λ x. not (test x)) xs ≡ false
none_new test [] all = refl
none_new test (x ∷ xs) all =
    ap (λ (b : Bool). not b || list_any (λ y. not (test y)) xs) (all x (Contains-first x xs))
    ∙ none_new test xs (λ y found. all y (Contains-later x xs y found))

pub any_append-none : {X : Type 0} (test : X → Bool) (xs ys : List X) → list_any test ys ≡ false
    → list_any test (xs ++ ys) ≡ list_any test xs
any_append-none test [] ys none = none
any_append-none test (x ∷ xs) ys none = ap (λ (b : Bool). test x || b) (any_append-none test xs ys none)

-- ---- tests that pass

-- what holds of each is told of all
pub list_all_true : {X : Type 0} (test : X → Bool) (xs : List X) → AllByRecursion (λ x. test x ≡ true) xs
    → list_all test xs ≡ true
list_all_true test [] each = refl
list_all_true test (x ∷ xs) each = ap (λ (b : Bool). b && list_all test xs) each.0 ∙ list_all_true test xs each.1

-- what fails of none passes of each
pub none_fails : {X : Type 0} (test : X → Bool) (xs : List X) (x : X) → list_any (λ y. not (test y)) xs ≡ false
    → Contains xs x → test x ≡ true
none_fails test [] x none found = absurd (Contains-nil x found)
none_fails test (first ∷ xs) x none found = elim (Contains-cons_cases first xs x found) [
  | inl here ↦ ap test (sym here) ∙ passed (test first) (list_any (λ y. not (test y)) xs) none
  | inr there ↦ none_fails test xs x (later (test first) (list_any (λ y. not (test y)) xs) none) there
]
  where
    passed : (b rest : Bool) → (not b || rest) ≡ false → b ≡ true
    passed true rest none = refl
    passed false rest none = absurd (false≢true (sym none))

    later : (b rest : Bool) → (not b || rest) ≡ false → rest ≡ false
    later true rest none = none
    later false rest none = absurd (false≢true (sym none))

-- ---- one move more of some
pub any_append_one : {X : Type 0} (p : X → Bool) (xs : List X) (x : X) → list_any p (xs ++ x ∷ []) ≡ (list_any p xs || p x)
any_append_one p [] x = or_false (p x)
  where
    or_false : (b : Bool) → (b || false) ≡ b
    or_false true = refl
    or_false false = refl
any_append_one p (y ∷ xs) x =
    ap (λ (b : Bool). p y || b) (any_append_one p xs x) ∙ apart (p y) (list_any p xs) (p x)
  where
    apart : (a b c : Bool) → (a || (b || c)) ≡ ((a || b) || c)
    apart true b c = refl
    apart false b c = refl

-- ---- what a support with more moves names
pub any_or : {X : Type 0} (e a b : X → Bool) (xs : List X)
    → list_any (λ x. e x && (a x || b x)) xs ≡ (list_any (λ x. e x && a x) xs || list_any (λ x. e x && b x) xs)
any_or e a b [] = refl
any_or e a b (x ∷ xs) =
    ap (λ (c : Bool). (e x && (a x || b x)) || c) (any_or e a b xs)
    ∙ shared (e x) (a x) (b x) (list_any (λ y. e y && a y) xs) (list_any (λ y. e y && b y) xs)
  where
    shared : (e a b m n : Bool) → ((e && (a || b)) || (m || n)) ≡ (((e && a) || m) || ((e && b) || n))
    shared true true b m n = refl
    shared true false true true n = refl
    shared true false true false n = refl
    shared true false false m n = refl
    shared false a b m n = refl

pub any_none : {X : Type 0} (e : X → Bool) (xs : List X) → list_any (λ x. e x && false) xs ≡ false
any_none e [] = refl
any_none e (x ∷ xs) = neither (e x) (list_any (λ y. e y && false) xs) ∙ any_none e xs
  where
    neither : (b c : Bool) → ((b && false) || c) ≡ c
    neither true c = refl
    neither false c = refl

pub any_same : {X : Type 0} (p q : X → Bool) (xs : List X) → ((x : X) → Contains xs x → p x ≡ q x)
    → list_any p xs ≡ list_any q xs
any_same p q [] same = refl
any_same {X} p q (x ∷ xs) same =
    ap (λ (b : Bool). b || list_any p xs) (same x (Contains-first x xs))
    ∙ ap (λ (b : Bool). q x || b) (any_same p q xs (λ y found. same y (Contains-later x xs y found)))

pub any_of_map : {X Y : Type 0} (p : Y → Bool) (f : X → Y) (xs : List X)
    → list_any p (map f xs) ≡ list_any (λ x. p (f x)) xs
any_of_map p f [] = refl
any_of_map p f (x ∷ xs) = ap (λ (b : Bool). p (f x) || b) (any_of_map p f xs)

pub or_apart : (a b c : Bool) → ((a || b) || c) ≡ (a || (b || c))
or_apart true b c = refl
or_apart false b c = refl

pub any_append : {X : Type 0} (p : X → Bool) (xs ys : List X) → list_any p (xs ++ ys) ≡ (list_any p xs || list_any p ys)
any_append p [] ys = refl
any_append p (x ∷ xs) ys =
    ap (λ (b : Bool). p x || b) (any_append p xs ys) ∙ sym (or_apart (p x) (list_any p xs) (list_any p ys))

-- ---- turns

-- what passes for all passes for each
pub all_at : {X : Type 0} (test : X → Bool) (xs : List X) (x : X) → list_all test xs ≡ true → Contains xs x
    → test x ≡ true
all_at test [] x all found = absurd (Contains-nil x found)
all_at test (first ∷ xs) x all found =
    let parts = and_parts (test first) (list_all test xs) all in
    elim (Contains-cons_cases first xs x found) [
      | inl here ↦ ap test (sym here) ∙ parts.0
      | inr there ↦ all_at test xs x parts.1 there
    ]
