-- A multiple of a row with no common divisor is divided back to the row (`primitive_is_row`).
use Rattle.std.proofs.Common.{◌≡◌, ℕ, zero, suc, ◌*◌, ◌<◌, ◌≤◌, List, [], ◌∷◌, length, map, refl, sym, ap, ap₂, ◌∙◌}
use Rattle.std.proofs.Common.{arith}
use Rattle.std.specs.Prelude.{ℤ, pos, ◌*ℤ◌, ◌<ℤ◌, int_div, unsigned_abs}
use Rattle.std.proofs.lemmas.Int.{ints, unsigned_abs-mul}
use Rattle.std.proofs.lemmas.List.{length-map}
use Rattle.std.proofs.lemmas.Nat.Gcd.{same_from_IsGcd}
use Rattle.std.proofs.Math.IntN.{*ℤ_comm, zero-*ℤ}
use Rattle.std.proofs.Math.Nat.{mul_comm, one-mul, eq_of_mul-eq-mul_right}
use Rattle.suit_num.specs.Divisors.{gcd_of}
use Rattle.suit_num.proofs.DivisorLaws.{IsGcd-gcd_of, IsGcd-scaled}
use Rattle.suit_num.proofs.IntegerLaws.{mul_assoc, same_from_mul}
use Rattle.suit_linear.specs.Points.{number_at}
use Rattle.suit_linear.specs.Pivots.{content, primitive}
use Rattle.suit_linear.specs.Multiples.{AreMultiples}
use Rattle.suit_linear.proofs.Contents.{primitive_is}

-- ---- lists by their indices

pub same_by_indices : (xs ys : List ℤ) → length xs ≡ length ys → ((index : ℕ) → number_at xs index ≡ number_at ys index)
    → xs ≡ ys
same_by_indices [] [] e h = refl
same_by_indices [] (y ∷ ys) e h = absurd (omega (arith, e))
same_by_indices (x ∷ xs) [] e h = absurd (omega (arith, e))
same_by_indices (x ∷ xs) (y ∷ ys) e h =
    let here : x ≡ y = h 0 in
    let rest : xs ≡ ys = same_by_indices xs ys (omega (arith, e)) (λ index. h (suc index)) in
    ap₂ (λ (z : ℤ) (zs : List ℤ). z ∷ zs) here rest

-- ---- numbers times a factor

pub scaled : ℤ → List ℤ → List ℤ
scaled factor numbers = map (λ x. factor *ℤ x) numbers

pub number_at-scaled : (factor : ℤ) (numbers : List ℤ) (index : ℕ)
    → number_at (scaled factor numbers) index ≡ factor *ℤ number_at numbers index
unfolding scaled
number_at-scaled factor [] index = sym (*ℤ_comm factor (pos 0) ∙ zero-*ℤ factor)
number_at-scaled factor (x ∷ xs) zero = refl
number_at-scaled factor (x ∷ xs) (suc index) = number_at-scaled factor xs index

length-scaled : (factor : ℤ) (numbers : List ℤ) → length (scaled factor numbers) ≡ length numbers
unfolding scaled
length-scaled factor numbers = length-map numbers (λ x. factor *ℤ x)

gcd_scaled : (a b k : ℕ) → gcd_of (a * k) (b * k) ≡ gcd_of a b * k
gcd_scaled a b k = same_from_IsGcd (a * k) (b * k) (gcd_of (a * k) (b * k)) (gcd_of a b * k)
    (IsGcd-gcd_of (a * k) (b * k)) (IsGcd-scaled a b (gcd_of a b) k (IsGcd-gcd_of a b))

nothing : (n : ℕ) → 0 ≡ 0 * n
nothing n = omega arith

pub content-scaled : (factor : ℤ) (numbers : List ℤ)
    → content (scaled factor numbers) ≡ content numbers * unsigned_abs factor
unfolding scaled content
content-scaled factor [] = nothing (unsigned_abs factor)
content-scaled factor (x ∷ xs) =
    ap₂ (λ (a b : ℕ). gcd_of a b) (unsigned_abs-mul factor x
    ∙ mul_comm (unsigned_abs factor) (unsigned_abs x)) (content-scaled factor xs)
    ∙ gcd_scaled (unsigned_abs x) (content xs) (unsigned_abs factor)

-- a positive number is its own size
size_is : (z : ℤ) → pos 0 <ℤ z → pos (unsigned_abs z) ≡ z
size_is z h = omega (arith, ints)

pos-mul : (a b : ℕ) → pos (a * b) ≡ pos a *ℤ pos b
pos-mul a b = refl

same_products : (c d : ℕ) (f g : ℤ) → pos 0 <ℤ f → pos 0 <ℤ g → c * unsigned_abs f ≡ d * unsigned_abs g
    → pos c *ℤ f ≡ pos d *ℤ g
same_products c d f g some more e =
    ap (λ (z : ℤ). pos c *ℤ z) (sym (size_is f some))
    ∙ sym (pos-mul c (unsigned_abs f))
    ∙ ap pos e
    ∙ pos-mul d (unsigned_abs g)
    ∙ ap (λ (z : ℤ). pos d *ℤ z) (size_is g more)

positive_size : (n : ℕ) → 0 < n → pos 0 <ℤ pos n
positive_size n h = omega (arith, ints)

-- ---- multiples

module _ (xs ys : List ℤ) (is : AreMultiples (number_at xs) (number_at ys)) (same : length xs ≡ length ys) where
  scaled_same : scaled is.left xs ≡ scaled is.right ys
  unfolding scaled
  scaled_same =
      same_by_indices (scaled is.left xs) (scaled is.right ys) (length-map xs (λ x. is.left *ℤ x) ∙ same
      ∙ sym (length-map ys (λ y. is.right *ℤ y)))
      (λ index. number_at-scaled is.left xs index ∙ is.numbers index ∙ sym (number_at-scaled is.right ys index))

  -- their contents are in the same proportion
  pub contents_same : pos (content xs) *ℤ is.left ≡ pos (content ys) *ℤ is.right
  contents_same =
      same_products (content xs) (content ys) is.left is.right is.left_positive is.right_positive
      (sym (content-scaled is.left xs) ∙ ap content scaled_same ∙ content-scaled is.right ys)

  content_of_multiple : 0 < content ys → 0 < content xs
  content_of_multiple some = by_size (content xs) contents_same
    where
      by_size : (n : ℕ) → pos n *ℤ is.left ≡ pos (content ys) *ℤ is.right → 0 < n
      by_size zero e =
          let none : pos (content ys) ≡ pos 0 = same_from_mul (pos (content ys)) (pos 0) is.right (sym e
          ∙ zero-*ℤ is.left ∙ sym (zero-*ℤ is.right)) is.right_positive in
          let more = positive_size (content ys) some in
          absurd (omega (arith, ints))
      by_size (suc n) e = omega arith

  -- divided by their contents they are the same
  pub primitive_of_multiples : 0 < content ys → primitive xs ≡ primitive ys
  primitive_of_multiples some =
      let more : 0 < content xs = content_of_multiple some in
      same_by_indices (primitive xs) (primitive ys) (length-map xs (λ x. int_div x (pos (content xs))) ∙ same
      ∙ sym (length-map ys (λ y. int_div y (pos (content ys)))))
      (λ index.
      same_from_mul (number_at (primitive xs) index) (number_at (primitive ys) index) (pos (content xs))
      (same_from_mul (number_at (primitive xs) index *ℤ pos (content xs))
      (number_at (primitive ys) index *ℤ pos (content xs)) is.left
      (ap (λ (z : ℤ). z *ℤ is.left) (primitive_is xs index more)
      ∙ *ℤ_comm (number_at xs index) is.left
      ∙ is.numbers index
      ∙ *ℤ_comm is.right (number_at ys index)
      ∙ ap (λ (z : ℤ). z *ℤ is.right) (sym (primitive_is ys index some))
      ∙ mul_assoc (number_at (primitive ys) index) (pos (content ys)) is.right
      ∙ ap (λ (z : ℤ). number_at (primitive ys) index *ℤ z) (sym contents_same)
      ∙ sym (mul_assoc (number_at (primitive ys) index) (pos (content xs)) is.left)) is.left_positive)
      (positive_size (content xs) more))

-- numbers with no common divisor are not changed by the division
pub primitive_kept : (ys : List ℤ) → content ys ≡ 1 → primitive ys ≡ ys
primitive_kept ys one =
    let some : 0 < content ys = omega (arith, one) in
    same_by_indices (primitive ys) ys (length-map ys (λ y. int_div y (pos (content ys))))
    (λ index. sym (by_one (number_at (primitive ys) index))
    ∙ ap (λ (n : ℕ). number_at (primitive ys) index *ℤ pos n) (sym one) ∙ primitive_is ys index some)
  where
    by_one : (z : ℤ) → z *ℤ pos 1 ≡ z
    by_one z = omega (arith, ints)

-- a multiple of a row with no common divisor is divided back to the row
pub primitive_is_row : (xs row : List ℤ) → AreMultiples (number_at xs) (number_at row) → length xs ≡ length row
    → content row ≡ 1 → primitive xs ≡ row
primitive_is_row xs row is same one = primitive_of_multiples xs row is same (omega (arith, one))
    ∙ primitive_kept row one

-- and it is the row times its content
pub multiple_is : (xs row : List ℤ) (index : ℕ) → AreMultiples (number_at xs) (number_at row) → length xs ≡ length row
    → content row ≡ 1 → number_at row index *ℤ pos (content xs) ≡ number_at xs index
multiple_is xs row index is same one =
    let some : 0 < content xs = content_of_multiple xs row is same (omega (arith, one)) in
    ap (λ (zs : List ℤ). number_at zs index *ℤ pos (content xs)) (sym (primitive_is_row xs row is same one))
    ∙ primitive_is xs index some

-- numbers that are divided have no common divisor left
pub content_primitive : (xs : List ℤ) → 0 < content xs → content (primitive xs) ≡ 1
content_primitive xs some =
    let is : scaled (pos (content xs)) (primitive xs) ≡ xs =
    same_by_indices (scaled (pos (content xs)) (primitive xs)) xs (length-scaled (pos (content xs)) (primitive xs)
    ∙ length-map xs (λ x. int_div x (pos (content xs))))
    (λ index. number_at-scaled (pos (content xs)) (primitive xs) index
    ∙ *ℤ_comm (pos (content xs)) (number_at (primitive xs) index) ∙ primitive_is xs index some) in
    eq_of_mul-eq-mul_right (content xs) some (content (primitive xs)) 1
    (sym (content-scaled (pos (content xs)) (primitive xs)) ∙ ap content is ∙ sym (one-mul (content xs)))

-- a size of a row is at most that of its multiple
pub small_row : (xs row : List ℤ) (index : ℕ) → AreMultiples (number_at xs) (number_at row) → length xs ≡ length row
    → content row ≡ 1 → unsigned_abs (number_at row index) ≤ unsigned_abs (number_at xs index)
small_row xs row index is same one =
    by_product (unsigned_abs (number_at row index)) (content xs) (unsigned_abs (number_at xs index))
    (content_of_multiple xs row is same (omega (arith, one)))
    (sym (unsigned_abs-mul (number_at row index) (pos (content xs)))
    ∙ ap unsigned_abs (multiple_is xs row index is same one))
  where
    by_product : (m n k : ℕ) → 0 < n → m * n ≡ k → m ≤ k
    by_product m zero k h e = absurd (omega arith)
    by_product m (suc n) k h e = omega (arith, e)
