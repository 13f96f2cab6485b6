-- Sums of products of numbers with what is given to their indices (`dot-joined`).
use Rattle.std.proofs.Common.{◌≡◌, ◌≢◌, ℕ, zero, suc, ◌<◌, ◌+◌, List, [], ◌∷◌, ◌++◌, length, map, take, drop, All, refl}
use Rattle.std.proofs.Common.{sym, ap, ◌∙◌, arith}
use Rattle.std.specs.Prelude.{ℤ, pos, ◌+ℤ◌, ◌-ℤ◌, ◌*ℤ◌, ◌≤ℤ◌, neg_ℤ, int_div, unsigned_abs, ◌==◌, if◌then◌else◌}
use Rattle.std.specs.Int.{◌∣◌}
use Rattle.std.proofs.lemmas.Int.{ints}
use Rattle.std.proofs.lemmas.List.Elements.{All-head, All-tail}
use Rattle.std.proofs.Math.IntN.{*ℤ_comm, zero-*ℤ}
use Rattle.std.proofs.Math.Nat.{suc-add}
use Rattle.std.proofs.lemmas.Bool.{cond-true, cond-false, eq-eqb, ne_eqb}
use Rattle.suit_num.proofs.IntegerLaws.{mul_assoc, mul_left_comm, mul_right_comm, mul-add_left, mul-add_right}
use Rattle.suit_num.proofs.IntegerLaws.{mul-sub_right, mul-neg_left, mul-neg_right, div-mul, mul_not_negative, mul-one}
use Rattle.suit_linear.specs.Points.{number_at, dot}
use Rattle.suit_linear.specs.Pivots.{combined, content, primitive}
use Rattle.suit_linear.proofs.Contents.{content_divides}
use Rattle.suit_linear.proofs.Signs.{nothing_combined, times_zero, sum_not_negative}

-- ---- the numbers

combined_step : (own x other y g d e : ℤ)
    → (own *ℤ x -ℤ other *ℤ y) *ℤ g +ℤ (own *ℤ d -ℤ other *ℤ e) ≡ own *ℤ (x *ℤ g +ℤ d) -ℤ other *ℤ (y *ℤ g +ℤ e)
combined_step own x other y g d e =
    let split = mul-sub_right (own *ℤ x) (other *ℤ y) g in
    let first = mul_assoc own x g in
    let second = mul_assoc other y g in
    let left = mul-add_left own (x *ℤ g) d in
    let right = mul-add_left other (y *ℤ g) e in
    omega (arith, ints)

-- the sum of a combination is the combination of the sums
pub dot-combined : (own : ℤ) (xs : List ℤ) (other : ℤ) (ys : List ℤ) (given : ℕ → ℤ) → length xs ≡ length ys
    → dot (combined own xs other ys) given ≡ own *ℤ dot xs given -ℤ other *ℤ dot ys given
unfolding dot combined
dot-combined own [] other [] given h = sym (nothing_combined own other)
dot-combined own [] other (y ∷ ys) given h = absurd (omega arith)
dot-combined own (x ∷ xs) other [] given h = absurd (omega arith)
dot-combined own (x ∷ xs) other (y ∷ ys) given h =
    ap (λ (z : ℤ). (own *ℤ x -ℤ other *ℤ y) *ℤ given 0 +ℤ z)
    (dot-combined own xs other ys (λ index. given (suc index)) (omega arith))
    ∙ combined_step own x other y (given 0) (dot xs (λ index. given (suc index))) (dot ys (λ index. given (suc index)))

divided_step : (x q g d t e : ℤ) → q *ℤ d ≡ x → t *ℤ d ≡ e → (q *ℤ g +ℤ t) *ℤ d ≡ x *ℤ g +ℤ e
divided_step x q g d t e h k =
    mul-add_right (q *ℤ g) t d
    ∙ ap (λ (z : ℤ). z +ℤ t *ℤ d) (mul_right_comm q g d ∙ ap (λ (z : ℤ). z *ℤ g) h)
    ∙ ap (λ (z : ℤ). x *ℤ g +ℤ z) k

dot-divided : (numbers : List ℤ) (d : ℕ) (given : ℕ → ℤ) → All (λ x. d ∣ unsigned_abs x) numbers
    → dot (map (λ x. int_div x (pos d)) numbers) given *ℤ pos d ≡ dot numbers given
unfolding dot
dot-divided [] d given h = zero-*ℤ (pos d)
dot-divided (x ∷ xs) d given h =
    let P : ℤ → Type 0 = λ z. d ∣ unsigned_abs z in
    divided_step x (int_div x (pos d)) (given 0) (pos d) _ _ (div-mul x (pos d) (All-head P x xs h))
    (dot-divided xs d (λ index. given (suc index)) (All-tail P x xs h))

-- a primitive list gives the sum divided by the content
pub dot-primitive : (numbers : List ℤ) (given : ℕ → ℤ) → 0 < content numbers
    → dot (primitive numbers) given *ℤ pos (content numbers) ≡ dot numbers given
dot-primitive numbers given h = dot-divided numbers (content numbers) given (content_divides numbers)

-- ---- the first index and the others

nothing_first : (g : ℤ) → pos 0 ≡ pos 0 *ℤ g +ℤ pos 0
nothing_first g = omega (arith, ints)

-- a sum is the part of index 0 and the sum of the others
pub dot_first : (xs : List ℤ) (given : ℕ → ℤ)
    → dot xs given ≡ number_at xs 0 *ℤ given 0 +ℤ dot (drop 1 xs) (λ index. given (suc index))
unfolding dot
dot_first [] given = nothing_first (given 0)
dot_first (x ∷ xs) given = refl

pub number_at-drop : (xs : List ℤ) (index : ℕ) → number_at (drop 1 xs) index ≡ number_at xs (suc index)
number_at-drop [] index = refl
number_at-drop (x ∷ xs) index = refl

-- ---- what is given

add_step : (x f g d e : ℤ) → x *ℤ (f +ℤ g) +ℤ (d +ℤ e) ≡ (x *ℤ f +ℤ d) +ℤ (x *ℤ g +ℤ e)
add_step x f g d e = let split = mul-add_left x f g in omega (arith, ints)

-- what is given is a sum
pub dot-add : (xs : List ℤ) (f g : ℕ → ℤ) → dot xs (λ index. f index +ℤ g index) ≡ dot xs f +ℤ dot xs g
unfolding dot
dot-add [] f g = refl
dot-add (x ∷ xs) f g =
    ap (λ (z : ℤ). x *ℤ (f 0 +ℤ g 0) +ℤ z) (dot-add xs (λ index. f (suc index)) (λ index. g (suc index)))
    ∙ add_step x (f 0) (g 0) (dot xs (λ index. f (suc index))) (dot xs (λ index. g (suc index)))

scaled_step : (x k f d : ℤ) → x *ℤ (k *ℤ f) +ℤ k *ℤ d ≡ k *ℤ (x *ℤ f +ℤ d)
scaled_step x k f d = ap (λ (z : ℤ). z +ℤ k *ℤ d) (mul_left_comm x k f) ∙ sym (mul-add_left k (x *ℤ f) d)

-- what is given is a multiple
pub dot-scaled : (xs : List ℤ) (k : ℤ) (f : ℕ → ℤ) → dot xs (λ index. k *ℤ f index) ≡ k *ℤ dot xs f
unfolding dot
dot-scaled [] k f = sym (times_zero k (pos 0) refl)
dot-scaled (x ∷ xs) k f =
    ap (λ (z : ℤ). x *ℤ (k *ℤ f 0) +ℤ z) (dot-scaled xs k (λ index. f (suc index)))
    ∙ scaled_step x k (f 0) (dot xs (λ index. f (suc index)))

-- only the indices of the list count
pub dot-agree : (xs : List ℤ) (f g : ℕ → ℤ) → ((index : ℕ) → index < length xs → f index ≡ g index)
    → dot xs f ≡ dot xs g
unfolding dot
dot-agree [] f g h = refl
dot-agree (x ∷ xs) f g h =
    ap (λ (z : ℤ). x *ℤ z +ℤ dot xs (λ index. f (suc index))) (h 0 (omega arith))
    ∙ ap (λ (z : ℤ). x *ℤ g 0 +ℤ z)
    (dot-agree xs (λ index. f (suc index)) (λ index. g (suc index)) (λ index less. h (suc index) (omega arith)))

-- two points over two denominators are one where they agree at each index
pub dot-common : (xs : List ℤ) (f g : ℕ → ℤ) (d e : ℤ) → ((index : ℕ) → index < length xs → f index *ℤ d ≡ g index *ℤ e)
    → dot xs f *ℤ d ≡ dot xs g *ℤ e
dot-common xs f g d e h =
    *ℤ_comm (dot xs f) d
    ∙ sym (dot-scaled xs d f)
    ∙ dot-agree xs (λ index. d *ℤ f index) (λ index. e *ℤ g index) (λ index less. *ℤ_comm d (f index) ∙ h index less
    ∙ *ℤ_comm (g index) e)
    ∙ dot-scaled xs e g
    ∙ *ℤ_comm e (dot xs g)

-- products that are all 0 add up to 0
pub dot_zero : (xs : List ℤ) (f : ℕ → ℤ) → ((index : ℕ) → number_at xs index *ℤ f index ≡ pos 0) → dot xs f ≡ pos 0
unfolding dot
dot_zero [] f h = refl
dot_zero (x ∷ xs) f h =
    ap (λ (z : ℤ). z +ℤ dot xs (λ index. f (suc index))) (h 0)
    ∙ ap (λ (z : ℤ). pos 0 +ℤ z) (dot_zero xs (λ index. f (suc index)) (λ index. h (suc index)))

right_only : (a b c : ℤ) → a ≡ pos 0 → b ≡ c → a +ℤ b ≡ c
right_only a b c h k = omega (arith, ints)

left_only : (a b : ℤ) → b ≡ pos 0 → a +ℤ b ≡ a
left_only a b h = omega (arith, ints)

-- products that are 0 but for one index add up to the one there
pub dot_one : (xs : List ℤ) (f : ℕ → ℤ) (index : ℕ)
    → ((other : ℕ) → other ≢ index → number_at xs other *ℤ f other ≡ pos 0) → dot xs f ≡ number_at xs index *ℤ f index
unfolding dot
dot_one [] f index h = sym (zero-*ℤ (f index))
dot_one (x ∷ xs) f zero h =
    left_only (x *ℤ f 0) (dot xs (λ index. f (suc index)))
    (dot_zero xs (λ index. f (suc index)) (λ index. h (suc index) (omega arith)))
dot_one (x ∷ xs) f (suc index) h =
    right_only (x *ℤ f 0) _ _ (h 0 (omega arith))
    (dot_one xs (λ other. f (suc other)) index
    (λ other differs. h (suc other) (λ (e : suc other ≡ suc index). differs (omega arith))))

-- 1 at an index and 0 elsewhere
pub unit_at : ℕ → ℕ → ℤ
unit_at column index = if index == column then pos 1 else pos 0

-- it picks the number there
pub dot_unit_at : (xs : List ℤ) (column : ℕ) → dot xs (unit_at column) ≡ number_at xs column
unfolding unit_at
dot_unit_at xs column =
    dot_one xs (unit_at column) column
    (λ other differs. times_zero (number_at xs other) _
    (cond-false (other == column) (pos 1) (pos 0) (ne_eqb other column differs)))
    ∙ ap (λ (z : ℤ). number_at xs column *ℤ z)
    (cond-true (column == column) (pos 1) (pos 0) (eq-eqb column column refl))
    ∙ mul-one (number_at xs column)

-- ---- two parts of a list

-- the first indices are given by one function, and the others by another
pub joined : ℕ → (ℕ → ℤ) → (ℕ → ℤ) → ℕ → ℤ
joined zero front back index = back index
joined (suc count) front back zero = front zero
joined (suc count) front back (suc index) = joined count (λ other. front (suc other)) back index

-- before the count the front is given
pub joined_front : (count : ℕ) (front back : ℕ → ℤ) (index : ℕ) → index < count
    → joined count front back index ≡ front index
unfolding joined
joined_front zero front back index h = absurd (omega arith)
joined_front (suc count) front back zero h = refl
joined_front (suc count) front back (suc index) h =
    joined_front count (λ other. front (suc other)) back index (omega arith)

-- from the count on the back is given
pub joined_back : (count : ℕ) (front back : ℕ → ℤ) (index : ℕ) → joined count front back (count + index) ≡ back index
unfolding joined
joined_back zero front back index = ap back (omega arith)
joined_back (suc count) front back index =
    ap (joined (suc count) front back) (suc-add count index) ∙ joined_back count (λ other. front (suc other)) back index

nothing_left : (a : ℤ) → a ≡ pos 0 +ℤ a
nothing_left a = omega (arith, ints)

regroup : (a b c : ℤ) → a +ℤ (b +ℤ c) ≡ (a +ℤ b) +ℤ c
regroup a b c = omega (arith, ints)

-- the sum of two parts, each with what is given to it
pub dot-joined : (xs : List ℤ) (count : ℕ) (front back : ℕ → ℤ)
    → dot xs (joined count front back) ≡ dot (take count xs) front +ℤ dot (drop count xs) back
unfolding dot joined
dot-joined xs zero front back = nothing_left (dot xs back)
dot-joined [] (suc count) front back = refl
dot-joined (x ∷ xs) (suc count) front back =
    ap (λ (z : ℤ). x *ℤ front 0 +ℤ z) (dot-joined xs count (λ other. front (suc other)) back)
    ∙ regroup (x *ℤ front 0) (dot (take count xs) (λ other. front (suc other))) (dot (drop count xs) back)

-- the sum of a list that is put after another
pub dot-append : (xs ys : List ℤ) (f : ℕ → ℤ) → dot (xs ++ ys) f ≡ dot xs f +ℤ dot ys (λ index. f (length xs + index))
unfolding dot
dot-append [] ys f = dot-agree ys f (λ index. f (0 + index)) (λ index less. ap f (omega arith))
    ∙ nothing_left (dot ys (λ index. f (0 + index)))
dot-append (x ∷ xs) ys f =
    ap (λ (z : ℤ). x *ℤ f 0 +ℤ z)
    (dot-append xs ys (λ index. f (suc index))
    ∙ ap (λ (z : ℤ). dot xs (λ index. f (suc index)) +ℤ z)
    (dot-agree ys (λ index. f (suc (length xs + index))) (λ index. f (suc (length xs) + index))
    (λ index less. ap f (sym (suc-add (length xs) index)))))
    ∙ regroup (x *ℤ f 0) (dot xs (λ index. f (suc index))) (dot ys (λ index. f (suc (length xs) + index)))

-- ---- signs

neg_step : (x f d : ℤ) → x *ℤ neg_ℤ f +ℤ neg_ℤ d ≡ neg_ℤ (x *ℤ f +ℤ d)
neg_step x f d = let turned = mul-neg_right x f in omega (arith, ints)

-- what is given is negated
pub dot-neg : (xs : List ℤ) (f : ℕ → ℤ) → dot xs (λ index. neg_ℤ (f index)) ≡ neg_ℤ (dot xs f)
unfolding dot
dot-neg [] f = refl
dot-neg (x ∷ xs) f =
    ap (λ (z : ℤ). x *ℤ neg_ℤ (f 0) +ℤ z) (dot-neg xs (λ index. f (suc index)))
    ∙ neg_step x (f 0) (dot xs (λ index. f (suc index)))

neg_numbers_step : (x f d : ℤ) → neg_ℤ x *ℤ f +ℤ neg_ℤ d ≡ neg_ℤ (x *ℤ f +ℤ d)
neg_numbers_step x f d = let turned = mul-neg_left x f in omega (arith, ints)

-- the numbers are negated
pub dot-neg_numbers : (xs : List ℤ) (f : ℕ → ℤ) → dot (map neg_ℤ xs) f ≡ neg_ℤ (dot xs f)
unfolding dot
dot-neg_numbers [] f = refl
dot-neg_numbers (x ∷ xs) f =
    ap (λ (z : ℤ). neg_ℤ x *ℤ f 0 +ℤ z) (dot-neg_numbers xs (λ index. f (suc index)))
    ∙ neg_numbers_step x (f 0) (dot xs (λ index. f (suc index)))

-- products of numbers that are at least 0 add up to at least 0
pub dot_not_negative : (xs : List ℤ) (f : ℕ → ℤ) → All (λ x. pos 0 ≤ℤ x) xs
    → ((index : ℕ) → index < length xs → pos 0 ≤ℤ f index) → pos 0 ≤ℤ dot xs f
unfolding dot
dot_not_negative [] f h k = omega (arith, ints)
dot_not_negative (x ∷ xs) f h k =
    let P : ℤ → Type 0 = λ z. pos 0 ≤ℤ z in
    sum_not_negative (x *ℤ f 0) (dot xs (λ index. f (suc index)))
    (mul_not_negative x (f 0) (All-head P x xs h) (k 0 (omega arith)))
    (dot_not_negative xs (λ index. f (suc index)) (All-tail P x xs h) (λ index less. k (suc index) (omega arith)))
