-- Sums of whole numbers: a double sum comes to the same in either order (`sums_exchanged`).
use Rattle.std.proofs.Common.{◌≡◌, ℕ, zero, suc, Bool, true, false, cond, List, [], ◌∷◌, map, take, refl, sym, ap, ◌∙◌}
use Rattle.std.proofs.Common.{arith}
use Rattle.std.specs.Prelude.{Contains, filter, if◌then◌else◌, ℤ, pos, ◌+ℤ◌, ◌*ℤ◌, ◌≤ℤ◌}
use Rattle.std.proofs.lemmas.Int.{ints}
use Rattle.suit_lists.proofs.Elements.{Contains-first, Contains-later}
use Rattle.suit_num.proofs.IntegerLaws.{mul-add_left}
use Rattle.suit_plans.specs.Properness.{sum_of}

-- numbers that are all 0 add up to 0
pub sum_nothing : {X : Type 0} (f : X → ℤ) (xs : List X) → ((x : X) → Contains xs x → f x ≡ pos 0)
    → sum_of (map f xs) ≡ pos 0
unfolding sum_of
sum_nothing f [] none = refl
sum_nothing {X} f (x ∷ xs) none =
    omega (
      arith,
      ints,
      none x (Contains-first x xs),
      sum_nothing f xs (λ y found. none y (Contains-later x xs y found)),
    )

kept_case : {X : Type 0} (f : X → ℤ) (x : X) (kept : List X) (b : Bool)
    → sum_of (map f (cond b (x ∷ kept) kept)) ≡ (if b then f x else pos 0) +ℤ sum_of (map f kept)
unfolding sum_of
kept_case f x kept true = refl
kept_case f x kept false = omega (arith, ints)

-- a sum over what a test keeps is one over all, where those that it does not keep count for nothing
pub sum_kept : {X : Type 0} (p : X → Bool) (f : X → ℤ) (xs : List X)
    → sum_of (map f (filter p xs)) ≡ sum_of (map (λ x. if p x then f x else pos 0) xs)
unfolding sum_of
sum_kept p f [] = refl
sum_kept p f (x ∷ xs) = kept_case f x (filter p xs) (p x)
    ∙ ap (λ (z : ℤ). (if p x then f x else pos 0) +ℤ z) (sum_kept p f xs)

-- a sum of sums
pub sum_both : {X : Type 0} (f g : X → ℤ) (xs : List X)
    → sum_of (map (λ x. f x +ℤ g x) xs) ≡ sum_of (map f xs) +ℤ sum_of (map g xs)
unfolding sum_of
sum_both f g [] = refl
sum_both f g (x ∷ xs) = let later = sum_both f g xs in omega (arith, ints, later)

-- a double sum in either order
pub sums_exchanged : {X Y : Type 0} (f : X → Y → ℤ) (xs : List X) (ys : List Y)
    → sum_of (map (λ x. sum_of (map (f x) ys)) xs) ≡ sum_of (map (λ y. sum_of (map (λ x. f x y) xs)) ys)
unfolding sum_of
sums_exchanged f [] ys = sym (sum_nothing (λ y. pos 0) ys (λ y found. refl))
sums_exchanged f (x ∷ xs) ys =
    ap (λ (z : ℤ). sum_of (map (f x) ys) +ℤ z) (sums_exchanged f xs ys)
    ∙ sym (sum_both (f x) (λ y. sum_of (map (λ z. f z y) xs)) ys)

-- a factor of all numbers is one of their sum
pub sum_times : {X : Type 0} (k : ℤ) (f : X → ℤ) (xs : List X)
    → k *ℤ sum_of (map f xs) ≡ sum_of (map (λ x. k *ℤ f x) xs)
unfolding sum_of
sum_times k f [] = omega (arith, ints)
sum_times k f (x ∷ xs) = mul-add_left k (f x) (sum_of (map f xs)) ∙ ap (λ (z : ℤ). k *ℤ f x +ℤ z) (sum_times k f xs)

-- the sum of the first of some numbers that are not negative is at most the sum of all
pub first_sums : {X : Type 0} (f : X → ℤ) (xs : List X) (i : ℕ) → ((x : X) → Contains xs x → pos 0 ≤ℤ f x)
    → (pos 0 ≤ℤ sum_of (take i (map f xs))) × (sum_of (take i (map f xs)) ≤ℤ sum_of (map f xs))
    × (pos 0 ≤ℤ sum_of (map f xs))
unfolding sum_of
first_sums f [] zero positive = (omega (arith, ints), omega (arith, ints), omega (arith, ints))
first_sums f [] (suc i) positive = (omega (arith, ints), omega (arith, ints), omega (arith, ints))
first_sums f (x ∷ xs) zero positive =
    let first : pos 0 ≤ℤ f x = positive x (Contains-first x xs) in
    let later = first_sums f xs zero (λ y found. positive y (Contains-later x xs y found)) in
    (omega (arith, ints), omega (arith, ints, first, later.2), omega (arith, ints, first, later.2))
first_sums f (x ∷ xs) (suc i) positive =
    let first : pos 0 ≤ℤ f x = positive x (Contains-first x xs) in
    let later = first_sums f xs i (λ y found. positive y (Contains-later x xs y found)) in
    (omega (arith, ints, first, later.0), omega (arith, ints, first, later.1), omega (arith, ints, first, later.2))
