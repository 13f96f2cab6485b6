-- The greatest common divisor of a list, the division by it, and the length and the numbers of a combination
-- (`primitive_is`).
use Rattle.std.proofs.Common.{◌≡◌, ◌≢◌, ℕ, zero, suc, ◌<◌, List, [], ◌∷◌, length, map, All, Contains, refl, sym, ap}
use Rattle.std.proofs.Common.{arith}
use Rattle.std.specs.Prelude.{ℤ, pos, negsuc, ◌-ℤ◌, ◌*ℤ◌, int_div, unsigned_abs}
use Rattle.std.specs.Int.{◌∣◌}
use Rattle.std.proofs.lemmas.List.Elements.{All-nil, All-cons, All-head, All-tail, All-weaker, All-contains}
use Rattle.std.proofs.lemmas.Nat.Gcd.{dvd_trans, dvd-zero}
use Rattle.std.proofs.Math.IntN.{zero-*ℤ}
use Rattle.std.proofs.Math.Nat.{pos_of_dvd_of_pos}
use Rattle.suit_num.specs.Divisors.{gcd_of}
use Rattle.suit_num.proofs.DivisorLaws.{IsGcd-gcd_of}
use Rattle.suit_num.proofs.IntegerLaws.{div-mul}
use Rattle.suit_linear.specs.Points.{number_at}
use Rattle.suit_linear.specs.Pivots.{combined, content, primitive}
use Rattle.suit_linear.proofs.Signs.{nothing_combined}

-- ---- the greatest common divisor

-- the content divides each number
pub content_divides : (numbers : List ℤ) → All (λ x. content numbers ∣ unsigned_abs x) numbers
unfolding content
content_divides [] = All-nil (λ (x : ℤ). content [] ∣ unsigned_abs x)
content_divides (x ∷ xs) =
    let P : ℤ → Type 0 = λ z. gcd_of (unsigned_abs x) (content xs) ∣ unsigned_abs z in
    let is = IsGcd-gcd_of (unsigned_abs x) (content xs) in
    All-cons P x xs is.0 (All-weaker (λ (z : ℤ). content xs ∣ unsigned_abs z) P (λ z h. dvd_trans _ is.1 h) xs
    (content_divides xs))

-- and each common divisor divides the content
pub content_greatest : (numbers : List ℤ) (d : ℕ) → All (λ x. d ∣ unsigned_abs x) numbers → d ∣ content numbers
unfolding content
content_greatest [] d h = dvd-zero d
content_greatest (x ∷ xs) d h =
    let P : ℤ → Type 0 = λ z. d ∣ unsigned_abs z in
    (IsGcd-gcd_of (unsigned_abs x) (content xs)).2 d (All-head P x xs h) (content_greatest xs d (All-tail P x xs h))

-- a number that is not 0 has a size
size_positive : (x : ℤ) → x ≢ pos 0 → 0 < unsigned_abs x
size_positive (pos zero) h = absurd (h refl)
size_positive (pos (suc n)) h = omega arith
size_positive (negsuc n) h = omega arith

-- a list with a number that is not 0 can be divided by its content
pub content_positive : (numbers : List ℤ) (x : ℤ) → Contains numbers x → x ≢ pos 0 → 0 < content numbers
content_positive numbers x h some =
    pos_of_dvd_of_pos (All-contains (λ (z : ℤ). content numbers ∣ unsigned_abs z) numbers x (content_divides numbers) h)
    (size_positive x some)

-- ---- the division by it

-- a list divided by a divisor of its numbers
divided_is : (numbers : List ℤ) (d index : ℕ) → All (λ x. d ∣ unsigned_abs x) numbers
    → number_at (map (λ x. int_div x (pos d)) numbers) index *ℤ pos d ≡ number_at numbers index
divided_is [] d index h = zero-*ℤ (pos d)
divided_is (x ∷ xs) d zero h = div-mul x (pos d) (All-head (λ (z : ℤ). d ∣ unsigned_abs z) x xs h)
divided_is (x ∷ xs) d (suc index) h = divided_is xs d index (All-tail (λ (z : ℤ). d ∣ unsigned_abs z) x xs h)

-- each number of the primitive list is an exact quotient
pub primitive_is : (numbers : List ℤ) (index : ℕ) → 0 < content numbers
    → number_at (primitive numbers) index *ℤ pos (content numbers) ≡ number_at numbers index
primitive_is numbers index h = divided_is numbers (content numbers) index (content_divides numbers)

-- ---- a combination

-- a combination of two lists of one length has that length
pub length-combined : (own : ℤ) (xs : List ℤ) (other : ℤ) (ys : List ℤ) → length xs ≡ length ys
    → length (combined own xs other ys) ≡ length xs
unfolding combined
length-combined own [] other ys h = refl
length-combined own (x ∷ xs) other [] h = sym h
length-combined own (x ∷ xs) other (y ∷ ys) h = ap suc (length-combined own xs other ys (omega arith))

-- and at each index the combination of their numbers
pub number_at-combined : (own : ℤ) (xs : List ℤ) (other : ℤ) (ys : List ℤ) (index : ℕ) → length xs ≡ length ys
    → number_at (combined own xs other ys) index ≡ own *ℤ number_at xs index -ℤ other *ℤ number_at ys index
unfolding combined
number_at-combined own [] other [] index h = sym (nothing_combined own other)
number_at-combined own [] other (y ∷ ys) index h = absurd (omega arith)
number_at-combined own (x ∷ xs) other [] index h = absurd (omega arith)
number_at-combined own (x ∷ xs) other (y ∷ ys) zero h = refl
number_at-combined own (x ∷ xs) other (y ∷ ys) (suc index) h = number_at-combined own xs other ys index (omega arith)
