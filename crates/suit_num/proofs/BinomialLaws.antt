-- Laws of binomials.
use Rattle.std.proofs.Common.{◌≡◌, ℕ, zero, suc, ◌+◌, ◌*◌, ◌^◌, ◌≤◌, ◌<◌, List, [], ◌∷◌, get_or, refl, arith, sym, ap}
use Rattle.std.proofs.Common.{◌∙◌, ◌/◌}
use Rattle.std.proofs.Math.Nat.{pow-le-pow_right, mul-div_cancel, mul-le-mul}
use Rattle.suit_num.specs.Binomials.{next_row, binomial_row, binomial}

row_first : (left : ℕ) (xs : List ℕ) → get_or (next_row left xs) 0 0 ≡ left + get_or xs 0 0
unfolding next_row
row_first left [] = omega arith
row_first left (x ∷ xs) = refl

row_later : (left : ℕ) (xs : List ℕ) (k : ℕ) → get_or (next_row left xs) (suc k) 0 ≡ get_or xs k 0 + get_or xs (suc k) 0
unfolding next_row
row_later left [] zero = refl
row_later left [] (suc k) = refl
row_later left (x ∷ xs) zero = row_first x xs
row_later left (x ∷ xs) (suc k) = row_later x xs k

pub pascal : (n k : ℕ) → binomial (suc n) (suc k) ≡ binomial n k + binomial n (suc k)
unfolding binomial binomial_row
pascal n k = row_later 0 (binomial_row n) k

pub binomial-none : (n : ℕ) → binomial n 0 ≡ 1
unfolding binomial binomial_row
binomial-none zero = refl
binomial-none (suc n) = row_first 0 (binomial_row n) ∙ omega (arith, binomial-none n)

-- the numbers past the end of a row are 0
pub binomial_past : (n k : ℕ) → n < k → binomial n k ≡ 0
unfolding binomial binomial_row
binomial_past zero zero h = absurd (omega arith)
binomial_past zero (suc k) h = refl
binomial_past (suc n) zero h = absurd (omega arith)
binomial_past (suc n) (suc k) h = row_later 0 (binomial_row n) k
    ∙ omega (arith, binomial_past n k (omega arith), binomial_past n (suc k) (omega arith))

pub binomial_all : (n : ℕ) → binomial n n ≡ 1
binomial_all zero = binomial-none 0
binomial_all (suc n) = omega (arith, pascal n n, binomial_all n, binomial_past n (suc n) (omega arith))

mirrored : (n m k : ℕ) → m + k ≡ n → binomial n k ≡ binomial n m
mirrored n zero k e = let all : k ≡ n = omega arith in rw all (binomial_all n ∙ sym (binomial-none n))
mirrored n (suc m) zero e = let all : suc m ≡ n = omega arith in rw all (binomial-none n ∙ sym (binomial_all n))
mirrored zero (suc m) (suc k) e = absurd (omega arith)
mirrored (suc n) (suc m) (suc k) e =
    omega (arith, pascal n k, pascal n m, mirrored n (suc m) k (omega arith), mirrored n m (suc k) (omega arith))

-- to choose k is to leave the m others
pub binomial_rest : (m k : ℕ) → binomial (m + k) k ≡ binomial (m + k) m
binomial_rest m k = mirrored (m + k) m k refl

pub binomial_positive : (n k : ℕ) → k ≤ n → 0 < binomial n k
binomial_positive n zero h = omega (arith, binomial-none n)
binomial_positive zero (suc k) h = absurd (omega arith)
binomial_positive (suc n) (suc k) h = omega (arith, pascal n k, binomial_positive n k (omega arith))

-- one more of the chosen against one more of the rest
pub binomial_step : (n k : ℕ) → binomial n (suc k) * suc k + k * binomial n k ≡ n * binomial n k
binomial_step zero zero = omega (arith, binomial_past 0 1 (omega arith), binomial-none 0)
binomial_step zero (suc k) =
    let none : binomial 0 (suc k) ≡ 0 = binomial_past 0 (suc k) (omega arith) in
    let past : binomial 0 (suc (suc k)) ≡ 0 = binomial_past 0 (suc (suc k)) (omega arith) in
    rw (none, past) (omega arith)
binomial_step (suc n) zero =
    let one : binomial n 0 ≡ 1 = binomial-none n in
    let first : binomial n 1 ≡ n = omega (arith, rw one at (binomial_step n zero)) in
    rw (binomial-none (suc n)) (omega (arith, pascal n 0, one, first))
binomial_step (suc n) (suc k) =
    step (binomial (suc n) (suc k)) (binomial (suc n) (suc (suc k))) (binomial n k) (binomial n (suc k))
    (binomial n (suc (suc k))) n k
    (pascal n k) (pascal n (suc k)) (binomial_step n k) (binomial_step n (suc k))
  where
    step : (p q x y z n k : ℕ) → p ≡ x + y → q ≡ y + z → y * suc k + k * x ≡ n * x → z * suc (suc k) + suc k * y ≡ n * y
        → q * suc (suc k) + suc k * p ≡ suc n * p
    step p q x y z n k e f g h = rw (e, f) (omega arith)

pub binomial-absorbed : (n k : ℕ) → suc k * binomial (suc n) (suc k) ≡ suc n * binomial n k
binomial-absorbed n k = grind (arith, pascal n k, binomial_step n k)

-- a row's numbers add up to 2 ^ n, so that none is above it
pub binomial-le : (n k : ℕ) → binomial n k ≤ 2 ^ n
binomial-le zero zero = omega (arith, binomial-none 0)
binomial-le zero (suc k) = omega (arith, binomial_past 0 (suc k) (omega arith))
binomial-le (suc n) zero = omega (arith, binomial-none (suc n), binomial-le n zero, binomial-none n)
binomial-le (suc n) (suc k) = omega (arith, pascal n k, binomial-le n k, binomial-le n (suc k))

-- what `choose` computes with
pub choose_fits : (n k ways rest : ℕ) → n ≤ 26 → ways ≡ binomial n k → rest ≤ 26 → ways * rest < 2 ^ 64
choose_fits n k ways rest small e few =
    let top : 2 ^ n ≤ 2 ^ 26 = pow-le-pow_right (omega arith) small in
    let low : ways ≤ 2 ^ 26 = omega (arith, binomial-le n k) in
    let product : ways * rest ≤ 2 ^ 26 * 26 = mul-le-mul low few in
    omega arith

pub choose_next : (n k ways rest : ℕ) → ways ≡ binomial n k → rest + k ≡ n → ways * rest / (k + 1) ≡ binomial n (k + 1)
choose_next n k ways rest e split =
    let up : k + 1 ≡ suc k = omega arith in
    let law : binomial n (suc k) * suc k + k * ways ≡ n * ways = rw (← e) at (binomial_step n k) in
    let both : ways * rest ≡ binomial n (suc k) * suc k = omega (arith, ap (λ (m : ℕ). m * ways) split) in
    rw (up, both) (mul-div_cancel (binomial n (suc k)) (omega arith))
