-- `cut_first`: how a list is cut at its first place that passes a test.
use Rattle.std.proofs.Common.{ℕ, ◌+◌, ◌<◌, ◌≤◌, ◌≡◌, nat_lt, Bool, true, false, cond, List, [], ◌∷◌}
use Rattle.std.proofs.Common.{length, take, drop, Some, None, position, arith, refl, suc}
use Rattle.std.specs.List.{position_or_len, slice_split, onto_first}
use Rattle.std.proofs.lemmas.Bool.Decides.{nat_tests}
use Rattle.std.proofs.lemmas.List.Splits.{slice_split_first}

step : (p : ℕ → Bool) (b : Bool) (x : ℕ) (xs : List ℕ) → p x ≡ b → length (x ∷ xs) ≤ position_or_len p (x ∷ xs)
    → (b ≡ false) × (length xs ≤ position_or_len p xs)
step p true x xs e h = let none : suc (length xs) ≤ 0 = rw e at h in absurd (omega arith)
step p false x xs e h = let less : suc (length xs) ≤ 1 + position_or_len p xs = rw e at h in (refl, omega arith)

-- a list without a cut is one part
pub uncut : (p : ℕ → Bool) (xs : List ℕ) → length xs ≤ position_or_len p xs → slice_split p xs ≡ xs ∷ []
uncut p [] h = refl
uncut p (x ∷ xs) h =
    let s = step p (p x) x xs refl h in
    rw (s.0, uncut p xs s.1) refl

some_is : (b : Bool) (n at : ℕ) → cond b (Some n) None ≡ Some at → (b ≡ true) × (n ≡ at)
some_is true n at h = (refl, cc)
some_is false n at h = absurd cc

none_is : (b : Bool) (n : ℕ) → cond b (Some n) None ≡ None → b ≡ false
none_is true n h = absurd cc
none_is false n h = refl

-- a list is cut at its first place
pub cut_first : (p : ℕ → Bool) (xs : List ℕ) (at : ℕ) → position p xs ≡ Some at
    → slice_split p xs ≡ take at xs ∷ slice_split p (drop (at + 1) xs)
cut_first p xs at h =
    let s = some_is (nat_lt (position_or_len p xs) (length xs)) (position_or_len p xs) at h in
    let within : position_or_len p xs < length xs = (let t = s.0 in grind (arith, nat_tests)) in
    rw s.1 at (slice_split_first p xs 0 within)

pub far : (p : ℕ → Bool) (xs : List ℕ) → position p xs ≡ None → length xs ≤ position_or_len p xs
far p xs h =
    let s = none_is (nat_lt (position_or_len p xs) (length xs)) (position_or_len p xs) h in
    grind (arith, nat_tests)

-- what is cut has a part
pub some_part : (p : ℕ → Bool) (xs : List ℕ)
    → (part : List ℕ) × (parts : List (List ℕ)) × (slice_split p xs ≡ part ∷ parts)
some_part p [] = ([], [], refl)
some_part p (x ∷ xs) = part_step (p x) x (slice_split p xs) where
  part_step : (b : Bool) (x : ℕ) (parts : List (List ℕ))
      → (part : List ℕ) × (rest : List (List ℕ)) × (cond b ([] ∷ parts) (onto_first x parts) ≡ part ∷ rest)
  part_step true x parts = ([], parts, refl)
  part_step false x [] = (x ∷ [], [], refl)
  part_step false x (part ∷ parts) = (x ∷ part, parts, refl)
