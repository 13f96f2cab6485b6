-- Sums over lists of any kind.
use Rattle.std.proofs.Common.{Bool, List, [], ap, arith, cond, false, get_or, inl, inr, length, nat_lt, refl, subst}
use Rattle.std.proofs.Common.{suc, sym, take, true, zero, ℕ, ◌*◌, ◌+◌, ◌<◌, ◌∙◌, ◌∷◌, ◌≡◌, ◌≤◌}
use Rattle.std.proofs.Math.Seq.{take-suc}
use Rattle.std.proofs.lemmas.Bool.{cases_lt, lt-ltb}
use Rattle.std.proofs.lemmas.List.Sums.{get_or-le-sum_by, sum_by-append, sum_by-cons}
use Rattle.std.specs.List.{AllByRecursion, count_by, filter, flat_map, range_with_len, sum_by}
use Rattle.std.specs.Prelude.{Contains, if◌then◌else◌, map, slice_index_or}
use Rattle.suit_lists.proofs.Basics.{length_kept}
use Rattle.suit_lists.proofs.Elements.{Contains-cons_cases, Contains-first, Contains-later, Contains-nil}

-- equal terms add up to equal sums
pub sum_by_same : {X : Type 0} (f g : X → ℕ) (xs : List X) → ((x : X) → f x ≡ g x) → sum_by f xs ≡ sum_by g xs
sum_by_same f g [] same = refl
sum_by_same f g (x ∷ xs) same = omega (arith, sum_by-cons f x xs, sum_by-cons g x xs, same x, sum_by_same f g xs same)

-- terms of 0 add up to 0
pub sum_by_none : {X : Type 0} (f : X → ℕ) (xs : List X) → ((x : X) → f x ≡ 0) → sum_by f xs ≡ 0
sum_by_none f [] none = refl
sum_by_none f (x ∷ xs) none = omega (arith, sum_by-cons f x xs, none x, sum_by_none f xs none)

pub sum_by_map : {X Y : Type 0} (f : Y → ℕ) (h : X → Y) (xs : List X) → sum_by f (map h xs) ≡ sum_by (λ x. f (h x)) xs
sum_by_map f h [] = refl
sum_by_map {X} f h (x ∷ xs) =
    let at_item : X → ℕ = λ y. f (h y) in
    omega (arith, sum_by-cons f (h x) (map h xs), sum_by-cons at_item x xs, sum_by_map f h xs)

sum_kept : {X : Type 0} (b : Bool) (f : X → ℕ) (x : X) (xs : List X)
    → sum_by f (cond b (x ∷ xs) xs) ≡ cond b (f x) 0 + sum_by f xs
sum_kept true f x xs = sum_by-cons f x xs
sum_kept false f x xs = omega arith

-- what a filter leaves out counts 0
pub sum_by_filter : {X : Type 0} (test : X → Bool) (f : X → ℕ) (xs : List X)
    → sum_by f (filter test xs) ≡ sum_by (λ x. if test x then f x else 0) xs
sum_by_filter test f [] = refl
sum_by_filter {X} test f (x ∷ xs) =
    let kept : X → ℕ = λ y. if test y then f y else 0 in
    omega (arith, sum_by-cons kept x xs, sum_kept (test x) f x (filter test xs), sum_by_filter test f xs)

pub length_filter : {X : Type 0} (test : X → Bool) (xs : List X)
    → length (filter test xs) ≡ sum_by (λ x. cond (test x) 1 0) xs
length_filter test [] = refl
length_filter {X} test (x ∷ xs) =
    let counted : X → ℕ = λ y. cond (test y) 1 0 in
    omega (arith, sum_by-cons counted x xs, length_kept (test x) x (filter test xs), length_filter test xs)

-- a sum over lists joined end to end
pub sum_by_flat_map : {X Y : Type 0} (f : Y → ℕ) (h : X → List Y) (xs : List X)
    → sum_by f (flat_map h xs) ≡ sum_by (λ x. sum_by f (h x)) xs
sum_by_flat_map f h [] = refl
sum_by_flat_map {X} f h (x ∷ xs) =
    let at_item : X → ℕ = λ y. sum_by f (h y) in
    omega (arith, sum_by-append f (h x) (flat_map h xs), sum_by-cons at_item x xs, sum_by_flat_map f h xs)

-- terms that are equal at each element of a list add up to equal sums
pub sum_by_alike : {X : Type 0} (f g : X → ℕ) (xs : List X) → AllByRecursion (λ x. f x ≡ g x) xs
    → sum_by f xs ≡ sum_by g xs
sum_by_alike f g [] alike = refl
sum_by_alike f g (x ∷ xs) alike =
    omega (arith, sum_by-cons f x xs, sum_by-cons g x xs, alike.0, sum_by_alike f g xs alike.1)

-- the sum of two functions is that of their sums
pub sum_by_both : {X : Type 0} (f g : X → ℕ) (xs : List X) → sum_by (λ x. f x + g x) xs ≡ sum_by f xs + sum_by g xs
sum_by_both f g [] = refl
sum_by_both {X} f g (x ∷ xs) =
    let both : X → ℕ = λ y. f y + g y in
    omega (arith, sum_by-cons both x xs, sum_by-cons f x xs, sum_by-cons g x xs, sum_by_both f g xs)

-- terms that are at most others add up to at most their sum
pub sum_by_at_most : {X : Type 0} (f g : X → ℕ) (xs : List X) → ((x : X) → f x ≤ g x) → sum_by f xs ≤ sum_by g xs
sum_by_at_most f g [] most = omega arith
sum_by_at_most f g (x ∷ xs) most =
    omega (arith, sum_by-cons f x xs, sum_by-cons g x xs, most x, sum_by_at_most f g xs most)

-- a factor of each term is one of the sum
pub sum_by-mul : {X : Type 0} (k : ℕ) (f : X → ℕ) (xs : List X) → sum_by (λ x. k * f x) xs ≡ k * sum_by f xs
sum_by-mul k f [] = omega arith
sum_by-mul {X} k f (x ∷ xs) =
    let scaled : X → ℕ = λ y. k * f y in
    omega (arith, sum_by-cons scaled x xs, ap (λ (n : ℕ). k * n) (sum_by-cons f x xs), sum_by-mul k f xs)

-- a term is at most the sum
pub term_small : {X : Type 0} (f : X → ℕ) (xs : List X) (x : X) → Contains xs x → f x ≤ sum_by f xs
term_small f xs x found =
    let same : f (slice_index_or xs found.0 x) ≡ f x = ap f found.2 in
    omega (arith, get_or-le-sum_by f xs found.0 x found.1)

-- a sum that is something has a term that is
pub some_term : {X : Type 0} (f : X → ℕ) (xs : List X) → 0 < sum_by f xs → (x : X) × Contains xs x × (0 < f x)
some_term f [] some = absurd (omega arith)
some_term f (x ∷ xs) some = elim (cases_lt 0 (f x)) [
  | inl here ↦ (x, Contains-first x xs, here)
  | inr none ↦ let later =
      some_term f xs (omega (arith, sum_by-cons f x xs)) in (later.0, Contains-later x xs later.0 later.1, later.2)
]

-- equal terms
pub sum_by_each : {X : Type 0} (k : ℕ) (f : X → ℕ) (xs : List X) → ((x : X) → f x ≡ k) → sum_by f xs ≡ length xs * k
sum_by_each k f [] each = omega arith
sum_by_each k f (x ∷ xs) each = omega (arith, sum_by-cons f x xs, each x, sum_by_each k f xs each)

-- a count of what all pass
pub count_all : {X : Type 0} (test : X → Bool) (xs : List X) → AllByRecursion (λ x. test x ≡ true) xs
    → count_by test xs ≡ length xs
count_all test [] each = refl
count_all {X} test (x ∷ xs) each =
    let counted : X → ℕ = λ y. cond (test y) 1 0 in
    omega (arith, sum_by-cons counted x xs, ap {B = ℕ} (λ (b : Bool). cond b 1 0) each.0, count_all test xs each.1)

-- a count of what none passes
pub count_none : {X : Type 0} (test : X → Bool) (xs : List X) → AllByRecursion (λ x. test x ≡ false) xs
    → count_by test xs ≡ 0
count_none test [] each = refl
count_none {X} test (x ∷ xs) each =
    let counted : X → ℕ = λ y. cond (test y) 1 0 in
    omega (arith, sum_by-cons counted x xs, ap {B = ℕ} (λ (b : Bool). cond b 1 0) each.0, count_none test xs each.1)

pub sum_by_constant : {X : Type 0} (k : ℕ) (xs : List X) → sum_by (λ x. k) xs ≡ length xs * k
sum_by_constant k [] = omega arith
sum_by_constant {X} k (x ∷ xs) = let same : X → ℕ = λ y. k in omega (arith, sum_by-cons same x xs, sum_by_constant k xs)

pub sum_at_most : {X : Type 0} (f g : X → ℕ) (xs : List X) → AllByRecursion (λ x. f x ≤ g x) xs → sum_by f xs ≤ sum_by g xs
sum_at_most f g [] each = omega arith
sum_at_most f g (x ∷ xs) each = omega (arith, sum_by-cons f x xs, sum_by-cons g x xs, each.0, sum_at_most f g xs each.1)

pub sums_together : {X : Type 0} (f g : X → ℕ) (xs : List X) → sum_by f xs + sum_by g xs ≡ sum_by (λ x. f x + g x) xs
sums_together f g [] = refl
sums_together {X} f g (x ∷ xs) =
    let both : X → ℕ = λ y. f y + g y in
    omega (arith, sum_by-cons f x xs, sum_by-cons g x xs, sum_by-cons both x xs, sums_together f g xs)

-- one term more
pub sum_one_more : {X : Type 0} (f : X → ℕ) (xs : List X) (i : ℕ) (d : X) → i < length xs
    → sum_by f (take (i + 1) xs) ≡ sum_by f (take i xs) + f (get_or xs i d)
sum_one_more {X} f xs i d below =
    let one : i + 1 ≡ suc i = omega arith in
    ap (λ (n : ℕ). sum_by f (take n xs)) one
    ∙ ap (sum_by f) (take-suc xs i d below)
    ∙ sum_by-append f (take i xs) (get_or xs i d ∷ [])
    ∙ ap (λ (n : ℕ). sum_by f (take i xs) + n) (sum_by-cons f (get_or xs i d) [])
    ∙ ap (λ (n : ℕ). sum_by f (take i xs) + n) (nothing (f (get_or xs i d)))
  where
    nothing : (n : ℕ) → n + 0 ≡ n
    nothing n = omega arith

pub sum_less : {X : Type 0} (f g : X → ℕ) (xs : List X) (x : X) → ((y : X) → f y ≤ g y) → Contains xs x → f x < g x
    → sum_by f xs < sum_by g xs
sum_less f g [] x le found less = absurd (Contains-nil x found)
sum_less {X} f g (first ∷ xs) x le found less = elim (Contains-cons_cases first xs x found) [
  | inl here ↦
      let now : f first < g first = subst (λ (y : X). f y < g y) (sym here) less in
      omega (arith, sum_by-cons f first xs, sum_by-cons g first xs, now, sum_by_at_most f g xs le)
  | inr there ↦ omega (
    arith,
    sum_by-cons f first xs,
    sum_by-cons g first xs,
    le first,
    sum_less f g xs x le there less,
  )
]

-- a finite double sum in either order
pub sums_exchanged : {X Y : Type 0} (f : X → Y → ℕ) (xs : List X) (ys : List Y)
    → sum_by (λ x. sum_by (λ y. f x y) ys) xs ≡ sum_by (λ y. sum_by (λ x. f x y) xs) ys
sums_exchanged f [] ys = sym (sum_by_none (λ y. sum_by (λ x. f x y) []) ys (λ y. refl))
sums_exchanged {X} {Y} f (x ∷ xs) ys =
    let by_row : X → ℕ = λ z. sum_by (λ y. f z y) ys in
    let first : Y → ℕ = λ y. f x y in
    let later : Y → ℕ = λ y. sum_by (λ z. f z y) xs in
    let whole : Y → ℕ = λ y. sum_by (λ z. f z y) (x ∷ xs) in
    omega (
      arith,
      sum_by-cons by_row x xs,
      sums_exchanged f xs ys,
      sum_by_both first later ys,
      sum_by_same whole (λ y. first y + later y) ys (λ y. sum_by-cons (λ z. f z y) x xs),
    )
  where
    sum_by_both : {Y : Type 0} (g h : Y → ℕ) (ys : List Y) → sum_by (λ y. g y + h y) ys ≡ sum_by g ys + sum_by h ys
    sum_by_both g h [] = refl
    sum_by_both {Y} g h (y ∷ ys) =
        let both : Y → ℕ = λ z. g z + h z in
        omega (arith, sum_by-cons both y ys, sum_by-cons g y ys, sum_by-cons h y ys, sum_by_both g h ys)

-- a sum in which each term is 1 more
pub sum_by_one_more : {X : Type 0} (f g : X → ℕ) (xs : List X) → ((x : X) → f x ≡ suc (g x))
    → sum_by f xs ≡ length xs + sum_by g xs
sum_by_one_more f g [] more = refl
sum_by_one_more f g (x ∷ xs) more =
    omega (arith, sum_by-cons f x xs, sum_by-cons g x xs, more x, sum_by_one_more f g xs more)

-- a sum over nothing need not be asked for
pub sum_where_some : {X : Type 0} (f : X → ℕ) (xs : List X)
    → (if nat_lt 0 (length xs) then sum_by f xs else 0) ≡ sum_by f xs
sum_where_some f [] = refl
sum_where_some f (x ∷ xs) = rw (lt-ltb 0 (suc (length xs)) (omega arith)) refl

-- a sum over the indices of a list is one over the list
pub sum_by_indices : {X : Type 0} (f : X → ℕ) (xs : List X) (d : X)
    → sum_by (λ index. f (get_or xs index d)) (range_with_len 0 (length xs)) ≡ sum_by f xs
sum_by_indices f [] d = refl
sum_by_indices {X} f (x ∷ xs) d =
    let at_place : ℕ → ℕ = λ index. f (get_or (x ∷ xs) index d) in
    omega (
      arith,
      sum_by-cons at_place 0 (range_with_len 1 (length xs)),
      sum_by-cons f x xs,
      shifted at_place 0 (length xs),
      sum_by_indices f xs d,
    )
  where
    shifted : (g : ℕ → ℕ) (a n : ℕ) → sum_by g (range_with_len (a + 1) n) ≡ sum_by (λ k. g (suc k)) (range_with_len a n)
    shifted g a zero = refl
    shifted g a (suc n) =
        let next : a + 1 ≡ suc a = omega arith in
        let later : ℕ → ℕ = λ k. g (suc k) in
        omega (
          arith,
          sum_by-cons g (a + 1) (range_with_len (a + 1 + 1) n),
          sum_by-cons later a (range_with_len (a + 1) n),
          ap g next,
          shifted g (a + 1) n,
        )
