-- Sums of numbers that are ordered one by one (`sum_le`).
use Rattle.std.proofs.Common.{List, [], ◌∷◌, map}
use Rattle.std.proofs.Common.{arith}
use Rattle.std.specs.Prelude.{Contains, ℤ, ◌≤ℤ◌, ◌+ℤ◌}
use Rattle.std.proofs.lemmas.Int.{ints}
use Rattle.suit_lists.proofs.Elements.{Contains-first, Contains-later}
use Rattle.suit_plans.specs.Properness.{sum_of}

pub le_trans : (a b c : ℤ) → a ≤ℤ b → b ≤ℤ c → a ≤ℤ c
le_trans a b c p q = omega (arith, ints)

summed : (a b c d : ℤ) → a ≤ℤ c → b ≤ℤ d → (a +ℤ b) ≤ℤ (c +ℤ d)
summed a b c d p q = omega (arith, ints)

-- a sum is at most another where each number is at most the other's
pub sum_le : {X : Type 0} (f g : X → ℤ) (xs : List X) → ((x : X) → Contains xs x → f x ≤ℤ g x)
    → sum_of (map f xs) ≤ℤ sum_of (map g xs)
unfolding sum_of
sum_le f g [] le = omega (arith, ints)
sum_le f g (x ∷ xs) le =
    summed (f x) (sum_of (map f xs)) (g x) (sum_of (map g xs)) (le x (Contains-first x xs))
    (sum_le f g xs (λ y found. le y (Contains-later x xs y found)))
