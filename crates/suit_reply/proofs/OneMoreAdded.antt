-- one_added: what the first of some whole numbers come to, one number more at a time.
use Rattle.std.proofs.Common.{◌≡◌, ℕ, ◌+◌, ◌<◌, List, [], ◌∷◌, ◌++◌, length, get_or, map, take}
use Rattle.std.proofs.Common.{ap, ◌∙◌, arith}
use Rattle.std.specs.Prelude.{ℤ, ◌+ℤ◌, ◌≤ℤ◌}
use Rattle.std.proofs.lemmas.Int.{ints}
use Rattle.std.proofs.lemmas.List.{map-append, take_more}
use Rattle.suit_plans.specs.Properness.{sum_of}

-- whole numbers are ordered
pub le_through : (a b c : ℤ) → a ≤ℤ b → b ≤ℤ c → a ≤ℤ c
le_through a b c p q = omega (arith, ints)

-- the sum of two lists of numbers
pub sum_append : (numbers others : List ℤ) → sum_of (numbers ++ others) ≡ sum_of numbers +ℤ sum_of others
unfolding sum_of
sum_append [] others = omega (arith, ints)
sum_append (first ∷ numbers) others = let later = sum_append numbers others in omega (arith, ints, later)

-- a number more is added to the sum
pub sum_push : (numbers : List ℤ) (number : ℤ) → sum_of (numbers ++ number ∷ []) ≡ sum_of numbers +ℤ number
unfolding sum_of
sum_push [] number = omega (arith, ints)
sum_push (first ∷ numbers) number = let later = sum_push numbers number in omega (arith, ints, later)

-- one more number of a sum
pub one_added : {X : Type 0} (f : X → ℤ) (xs : List X) (i : ℕ) (d : X) → i < length xs
    → sum_of (map f (take (i + 1) xs)) ≡ sum_of (map f (take i xs)) +ℤ f (get_or xs i d)
one_added {X} f xs i d below =
    ap (λ (l : List X). sum_of (map f l)) (take_more xs i d below)
    ∙ ap sum_of (map-append f (take i xs) (get_or xs i d ∷ []))
    ∙ sum_push (map f (take i xs)) (f (get_or xs i d))
