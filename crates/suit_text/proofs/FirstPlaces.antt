-- `first_or_length`: the first place of a list that passes a test.
use Rattle.std.proofs.Common.{ℕ, ◌+◌, ◌≤◌, ◌≡◌, nat_lt, not, Bool, true, false, cond, List, [], ◌∷◌}
use Rattle.std.proofs.Common.{length, take, drop, Some, None, position, arith, refl, sym, suc}
use Rattle.std.specs.List.{position_or_len}
use Rattle.std.specs.Option.{unwrap_or}
use Rattle.std.proofs.lemmas.Bool.Decides.{nat_tests}
use Rattle.std.proofs.lemmas.List.Quantifiers.{position-Some}
use Rattle.std.proofs.lemmas.List.Sums.{position_or_len_is}

pub take_next : {A : Type 0} (n : ℕ) (x : A) (xs : List A) → take (1 + n) (x ∷ xs) ≡ x ∷ take n xs
take_next n x xs = let e : 1 + n ≡ suc n = omega arith in rw e

pub drop_next : {A : Type 0} (n : ℕ) (x : A) (xs : List A) → drop (1 + n) (x ∷ xs) ≡ drop n xs
drop_next n x xs = let e : 1 + n ≡ suc n = omega arith in rw e

next_within : (b : Bool) (m n : ℕ) → m ≤ n → cond (not b) (1 + m) 0 ≤ suc n
next_within true m n h = omega arith
next_within false m n h = omega arith

-- a first place, or the length where there is none
pub first_within : {A : Type 0} (p : A → Bool) (xs : List A) → position_or_len p xs ≤ length xs
first_within p [] = omega arith
first_within p (x ∷ xs) = next_within (p x) _ _ (first_within p xs)

none_is : (b : Bool) (n : ℕ) → cond b (Some n) None ≡ None → b ≡ false
none_is true n h = cc
none_is false n h = refl

-- where no place passes, the first is past the end
pub none_first : {A : Type 0} (p : A → Bool) (xs : List A) → position p xs ≡ None → length xs ≤ position_or_len p xs
none_first p xs h = let e = none_is (nat_lt (position_or_len p xs) (length xs)) (position_or_len p xs) h in
    grind (arith, nat_tests)

-- the place that passes first
pub some_first : (p : ℕ → Bool) (xs : List ℕ) (at : ℕ) → position p xs ≡ Some at → at ≡ position_or_len p xs
some_first p xs at h =
    let s = position-Some p xs at 0 h in
    sym (position_or_len_is p xs at 0 (omega arith) s.2 (λ _. s.1))

or_length : (b : Bool) (m n : ℕ) → (b ≡ false → n ≤ m) → m ≤ n → unwrap_or (cond b (Some m) None) n ≡ m
or_length true m n h k = refl
or_length false m n h k = let l : n ≤ m = h refl in omega arith

pub first_or_length : (p : ℕ → Bool) (xs : List ℕ) → unwrap_or (position p xs) (length xs) ≡ position_or_len p xs
first_or_length p xs =
    or_length (nat_lt (position_or_len p xs) (length xs)) (position_or_len p xs) (length xs)
    (λ e. grind (arith, nat_tests)) (first_within p xs)
