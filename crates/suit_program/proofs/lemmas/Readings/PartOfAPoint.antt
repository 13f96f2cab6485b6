-- The point of an optimum over the denominator of the plan is a part of a feasible point (`plan_part`).
use Rattle.std.proofs.Common.{◌≡◌, ℕ, suc, ◌*◌, ◌<◌, Bool, true, false, List, [], ◌∷◌, Some, length, get_or}
use Rattle.std.proofs.Common.{refl, sym, ap, ◌∙◌, subst, arith}
use Rattle.std.specs.Prelude.{if◌then◌else◌, ℤ, pos, negsuc, ◌+ℤ◌, ◌*ℤ◌, ◌<ℤ◌, int_div, slice_get, unsigned_abs}
use Rattle.std.specs.Int.{◌∣◌}
use Rattle.std.proofs.lemmas.Bool.{false≢true}
use Rattle.std.proofs.lemmas.Int.{ints, unsigned_abs-mul}
use Rattle.std.proofs.lemmas.Nat.Gcd.{dvd_refl, dvd_trans}
use Rattle.std.proofs.Math.Nat.{dvd-mul_left, dvd-mul_right, dvd-mul_left_of_dvd, mul-pos, one-dvd, pos_of_dvd_of_pos}
use Rattle.suit_num.specs.declared.fraction.Frac.{Frac}
use Rattle.suit_num.specs.Divisors.{lcm_of}
use Rattle.suit_num.proofs.DivisorLaws.{IsLcm-lcm_of, coprime_swap, dvd_of_coprime}
use Rattle.suit_num.proofs.IntegerLaws.{div-mul, mul-add_left, mul_assoc, mul_left_comm, positive_from_mul}
use Rattle.suit_num.proofs.IntegerLaws.{same_from_mul}
use Rattle.suit_game.specs.declared.question.Question.{Question}
use Rattle.suit_classes.specs.declared.class_moves.ClassMove.{ClassMove}
use Rattle.suit_linear.specs.Optima.{IsCommon}
use Rattle.suit_program.specs.Programs.Points.{Column, Held, Passed, Point, given_to, point_of, same_column}
use Rattle.suit_program.specs.Programs.{columns}
use Rattle.suit_program.specs.Readings.{common_den, is_passed, parts_of, plan_den, plan_point, scaled}
use Rattle.suit_program.specs.Supports.{Support}

-- a point whose columns of declarer's, and 1, are a part of another's
pub record IsPartOf (point full : Point) (k : ℤ) : Type 0 where
  pub over : pos 0 <ℤ k
  pub passed : (history : List ClassMove) (move : ClassMove)
      → full.at (Passed history move) ≡ k *ℤ point.at (Passed history move)
  pub one : full.one ≡ k *ℤ point.one

-- ---- divisors

abs_positive : (z : ℤ) → pos 0 <ℤ z → 0 < unsigned_abs z
abs_positive (pos n) some = omega (arith, ints, some)
abs_positive (negsuc n) some = absurd (omega (arith, ints, some))

lcm_positive : (a b : ℕ) → 0 < a → 0 < b → 0 < lcm_of a b
lcm_positive a b some other =
    let is = IsLcm-lcm_of a b some in
    pos_of_dvd_of_pos (is.2 (a * b) (dvd-mul_right a b) (dvd-mul_left b a)) (mul-pos some other)

positive_case : (b : Bool) (m n : ℕ) → 0 < m → 0 < n → 0 < (if b then m else n)
positive_case true m n some other = some
positive_case false m n some other = other

pub common_positive : (all : List Column) (fracs : List Frac) → 0 < common_den all (parts_of fracs)
unfolding common_den
common_positive [] fracs = omega arith
common_positive (column ∷ all) [] = omega arith
common_positive (column ∷ all) (part ∷ fracs) =
    positive_case (is_passed column) (lcm_of (unsigned_abs part.den) (common_den all (parts_of fracs)))
    (common_den all (parts_of fracs))
    (lcm_positive (unsigned_abs part.den) (common_den all (parts_of fracs)) (abs_positive part.den part.positive)
    (common_positive all fracs)) (common_positive all fracs)

-- the denominators of a point divide each denominator that its columns have in common
den_divides : (part : Frac) (number all : ℤ) → number *ℤ part.den ≡ part.num *ℤ all
    → unsigned_abs part.den ∣ unsigned_abs all
den_divides part number all same =
    let sizes : unsigned_abs number * unsigned_abs part.den ≡ unsigned_abs part.num * unsigned_abs all =
    sym (unsigned_abs-mul number part.den) ∙ ap unsigned_abs same ∙ unsigned_abs-mul part.num all in
    dvd_of_coprime _ _ _ (coprime_swap _ _ part.coprime)
    (subst (λ (n : ℕ). unsigned_abs part.den ∣ n) sizes (dvd-mul_left (unsigned_abs part.den) (unsigned_abs number)))

divides_case : (b : Bool) (m n all : ℕ) → m ∣ all → n ∣ all → (if b then m else n) ∣ all
divides_case true m n all one other = one
divides_case false m n all one other = other

abbrev IsOver : List Frac → (ℕ → ℤ) → ℤ → Type 0
IsOver fracs given all = (index : ℕ) (part : Frac) → slice_get fracs index ≡ Some part
    → given index *ℤ part.den ≡ part.num *ℤ all

common_divides : (all : List Column) (fracs : List Frac) (given : ℕ → ℤ) (whole : ℤ) → IsOver fracs given whole
    → common_den all (parts_of fracs) ∣ unsigned_abs whole
unfolding common_den
common_divides [] fracs given whole over = one-dvd (unsigned_abs whole)
common_divides (column ∷ all) [] given whole over = one-dvd (unsigned_abs whole)
common_divides (column ∷ all) (part ∷ fracs) given whole over =
    let rest = common_divides all fracs (λ index. given (suc index)) whole
    (λ index other is. over (suc index) other is) in
    let n : ℕ = common_den all (parts_of fracs) in
    let is = IsLcm-lcm_of (unsigned_abs part.den) n (abs_positive part.den part.positive) in
    divides_case (is_passed column) (lcm_of (unsigned_abs part.den) n) n (unsigned_abs whole)
    (is.2 (unsigned_abs whole) (den_divides part (given 0) whole (over 0 part refl)) rest) rest

-- ---- one column

zero_times : (x k : ℤ) → x *ℤ pos 0 ≡ k *ℤ pos 0
zero_times x k = omega (arith, ints)

-- a number over the whole is a multiple of the number over the plan's denominator
scaled_same : (part : Frac) (number whole k : ℤ) (den : ℕ) → unsigned_abs part.den ∣ den → k *ℤ pos den ≡ whole
    → number *ℤ part.den ≡ part.num *ℤ whole → number ≡ k *ℤ scaled (pos den) (part.num, part.den)
scaled_same part number whole k den divides is same =
    let d : ℤ = part.den in
    let inner : int_div (part.num *ℤ pos den) d *ℤ d ≡ part.num *ℤ pos den =
    div-mul (part.num *ℤ pos den) d
    (subst (λ (n : ℕ). unsigned_abs d ∣ n) (sym (unsigned_abs-mul part.num (pos den)))
    (dvd-mul_left_of_dvd (unsigned_abs part.den) divides (unsigned_abs part.num))) in
    same_from_mul number (k *ℤ int_div (part.num *ℤ pos den) d) d
    (same ∙ ap (λ (z : ℤ). part.num *ℤ z) (sym is) ∙ mul_left_comm part.num k (pos den)
    ∙ ap (λ (z : ℤ). k *ℤ z) (sym inner) ∙ sym (mul_assoc k (int_div (part.num *ℤ pos den) d) d)) part.positive

passed_same : (column : Column) (history : List ClassMove) (move : ClassMove)
    → same_column column (Passed history move) ≡ true → is_passed column ≡ true
unfolding same_column
passed_same (Passed there next) history move same = refl
passed_same (Held west there) history move same = absurd (false≢true same)

-- ---- all columns

module _ (history : List ClassMove) (move : ClassMove) (whole k : ℤ) (den : ℕ) (is : k *ℤ pos den ≡ whole) where
  head_same : (column : Column) (part : Frac) (number : ℤ) (rest : ℕ) (same : Bool)
      → same_column column (Passed history move) ≡ same
      → (if is_passed column then lcm_of (unsigned_abs part.den) rest else rest) ∣ den
      → number *ℤ part.den ≡ part.num *ℤ whole
      → number *ℤ (if same then pos 1 else pos 0)
      ≡ k *ℤ (scaled (pos den) (part.num, part.den) *ℤ (if same then pos 1 else pos 0))
  head_same column part number rest true same divides over =
      let all : lcm_of (unsigned_abs part.den) rest ∣ den =
      subst (λ (b : Bool). (if b then lcm_of (unsigned_abs part.den) rest else rest) ∣ den)
      (passed_same column history move same) divides in
      let lcm = IsLcm-lcm_of (unsigned_abs part.den) rest (abs_positive part.den part.positive) in
      let one = scaled_same part number whole k den (dvd_trans (unsigned_abs part.den) lcm.0 all) is over in
      ap (λ (z : ℤ). z *ℤ pos 1) one ∙ mul_assoc k (scaled (pos den) (part.num, part.den)) (pos 1)
  head_same column part number rest false same divides over =
      zero_times number k
      ∙ ap (λ (z : ℤ). k *ℤ z) (zero_times (pos 0) (scaled (pos den) (part.num, part.den)))

  rest_divides : (passes : Bool) (part : Frac) (rest : ℕ)
      → (if passes then lcm_of (unsigned_abs part.den) rest else rest) ∣ den → rest ∣ den
  rest_divides true part rest divides =
      dvd_trans rest
      (IsLcm-lcm_of (unsigned_abs part.den) rest (abs_positive part.den part.positive)).1 divides
  rest_divides false part rest divides = divides

  given_same : (all : List Column) (fracs : List Frac) (given : ℕ → ℤ) → IsOver fracs given whole
      → common_den all (parts_of fracs) ∣ den → length fracs ≡ length all
      → given_to all given (Passed history move)
      ≡ k *ℤ given_to all (λ index. scaled (pos den) (get_or (parts_of fracs) index (pos 0, pos 1)))
      (Passed history move)
  unfolding given_to common_den
  given_same [] fracs given over divides long = zero_times (pos 0) k
  given_same (column ∷ all) [] given over divides long = absurd (omega (arith, long))
  given_same (column ∷ all) (part ∷ fracs) given over divides long =
      let head = head_same column part (given 0) (common_den all (parts_of fracs))
      (same_column column (Passed history move)) refl divides (over 0 part refl) in
      let rest = given_same all fracs (λ index. given (suc index)) (λ index other there. over (suc index) other there)
      (rest_divides (is_passed column) part (common_den all (parts_of fracs)) divides) (omega (arith, long)) in
      both (given 0 *ℤ (if same_column column (Passed history move) then pos 1 else pos 0))
      (scaled (pos den) (part.num, part.den) *ℤ (if same_column column (Passed history move) then pos 1 else pos 0))
      (given_to all (λ index. given (suc index)) (Passed history move))
      (given_to all (λ index. scaled (pos den) (get_or (parts_of fracs) index (pos 0, pos 1))) (Passed history move))
      head rest
    where
      both : (x y u v : ℤ) → x ≡ k *ℤ y → u ≡ k *ℤ v → x +ℤ u ≡ k *ℤ (y +ℤ v)
      both x y u v one other = let parts = mul-add_left k y v in omega (arith, ints, one, other, parts)

-- the point over whatever denominator its columns have in common is a multiple of the plan's
pub plan_part : (question : Question) (support : Support) (fracs : List Frac) (given : ℕ → ℤ) (whole : ℤ)
    → IsCommon fracs given whole → length fracs ≡ length (columns question support) → (k : ℤ)
    × IsPartOf (plan_point question support (parts_of fracs)) (point_of (columns question support) given whole) k
unfolding plan_point plan_den
plan_part question support fracs given whole common long =
    let den : ℕ = common_den (columns question support) (parts_of fracs) in
    let k : ℤ = int_div whole (pos den) in
    let is : k *ℤ pos den ≡ whole = div-mul whole (pos den)
    (common_divides (columns question support) fracs given whole common.same) in
    let some : pos 0 <ℤ pos den = some_den den (common_positive (columns question support) fracs) in (
      k,
      record {
        over = positive_from_mul k (pos den) (subst (λ (z : ℤ). pos 0 <ℤ z) (sym is) common.over) some;
        passed = λ history move. given_same history move whole k den is (columns question support) fracs given
            common.same (dvd_refl den) long;
        one = sym is;
      },
    )
  where
    some_den : (n : ℕ) → 0 < n → pos 0 <ℤ pos n
    some_den n some = omega (arith, ints, some)
