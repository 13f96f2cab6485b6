-- The least common multiple of declarer's denominators as it grows (`one_common`, `common_last`), and that a multiple
-- on the way is no more than the last (`common_least`).
use Rattle.std.proofs.Common.{◌≡◌, ℕ, ◌+◌, ◌*◌, ◌<◌, ◌≤◌, Bool, true, false, List, [], ◌∷◌, length, get_or, drop, map}
use Rattle.std.proofs.Common.{refl}
use Rattle.std.proofs.Common.{sym, ap, ◌∙◌, subst, arith}
use Rattle.std.specs.Prelude.{if◌then◌else◌, ℤ, pos, negsuc, ◌<ℤ◌, ◌≤ℤ◌, unsigned_abs}
use Rattle.std.specs.Int.{◌∣◌}
use Rattle.std.proofs.lemmas.Int.{ints}
use Rattle.std.proofs.lemmas.List.{at_drop_more, drop_all}
use Rattle.std.proofs.lemmas.Nat.Gcd.{dvd_antisymm, dvd_trans}
use Rattle.std.proofs.Math.Nat.{dvd-mul_left, dvd-mul_right, le_of_dvd, mul-pos, one-dvd, pos_of_dvd_of_pos}
use Rattle.suit_num.specs.declared.fraction.Frac.{Frac}
use Rattle.suit_num.specs.Divisors.{lcm_of}
use Rattle.suit_num.proofs.DivisorLaws.{IsLcm-lcm_of, same_from_IsLcm}
use Rattle.suit_program.specs.Programs.Points.{Column}
use Rattle.suit_program.specs.Readings.{Part, common_den, is_passed, parts_of}
use Rattle.suit_program.specs.Readings.Sharing.{common_of}

-- ---- least common multiples

pub lcm_positive : (a b : ℕ) → 0 < a → 0 < b → 0 < lcm_of a b
lcm_positive a b some other =
    let is = IsLcm-lcm_of a b some in
    pos_of_dvd_of_pos (is.2 (a * b) (dvd-mul_right a b) (dvd-mul_left b a)) (mul-pos some other)

lcm_assoc : (a b c : ℕ) → 0 < a → 0 < b → lcm_of (lcm_of a b) c ≡ lcm_of a (lcm_of b c)
lcm_assoc a b c some other =
    let inner = IsLcm-lcm_of a b some in
    let outer = IsLcm-lcm_of (lcm_of a b) c (lcm_positive a b some other) in
    let last = IsLcm-lcm_of b c other in
    same_from_IsLcm a (lcm_of b c) (lcm_of (lcm_of a b) c) (lcm_of a (lcm_of b c)) (
      dvd_trans a inner.0 outer.0,
      last.2 (lcm_of (lcm_of a b) c) (dvd_trans b inner.1 outer.0) outer.1,
      λ n one two. outer.2 n (inner.2 n one (dvd_trans b last.0 two)) (dvd_trans c last.1 two),
    ) (IsLcm-lcm_of a (lcm_of b c) some)

lcm_one : (a : ℕ) → 0 < a → lcm_of a 1 ≡ a
lcm_one a some =
    same_from_IsLcm a 1 (lcm_of a 1) a (IsLcm-lcm_of a 1 some) (dvd_same a, one-dvd a, λ n one two. one)
  where
    dvd_same : (n : ℕ) → n ∣ n
    dvd_same n = subst (λ m. n ∣ m) (omega arith) (dvd-mul_right n 1)

one_lcm : (a : ℕ) → lcm_of 1 a ≡ a
one_lcm a =
    same_from_IsLcm 1 a (lcm_of 1 a) a (IsLcm-lcm_of 1 a (omega arith)) (one-dvd a, dvd_same a, λ n one two. two)
  where
    dvd_same : (n : ℕ) → n ∣ n
    dvd_same n = subst (λ m. n ∣ m) (omega arith) (dvd-mul_right n 1)

-- ---- the multiple on the way

pub abs_positive : (z : ℤ) → pos 0 <ℤ z → 0 < unsigned_abs z
abs_positive (pos n) some = omega (arith, ints, some)
abs_positive (negsuc n) some = absurd (omega (arith, ints, some))

choice_positive : (b : Bool) (m n : ℕ) → 0 < m → 0 < n → 0 < (if b then m else n)
choice_positive true m n some other = some
choice_positive false m n some other = other

pub common_some : (passed : List Bool) (fracs : List Frac) → 0 < common_of passed (parts_of fracs)
unfolding common_of
common_some [] fracs = omega arith
common_some (passes ∷ passed) [] = omega arith
common_some (passes ∷ passed) (part ∷ fracs) =
    choice_positive passes (lcm_of (unsigned_abs part.den) (common_of passed (parts_of fracs)))
    (common_of passed (parts_of fracs))
    (lcm_positive (unsigned_abs part.den) (common_of passed (parts_of fracs)) (abs_positive part.den part.positive)
    (common_some passed fracs)) (common_some passed fracs)

-- what a multiple comes to with all that follow
abbrev pub in_all : ℤ → List Bool → List Frac → ℕ
in_all den passed fracs = lcm_of (unsigned_abs den) (common_of passed (parts_of fracs))

pub in_all_first : (passed : List Bool) (fracs : List Frac)
    → in_all (pos 1) passed fracs ≡ common_of passed (parts_of fracs)
in_all_first passed fracs = one_lcm (common_of passed (parts_of fracs))

common_at : (passed : List Bool) (fracs : List Frac) (i : ℕ) (b : Bool) (part : Frac) → i < length passed
    → i < length fracs
    → common_of (drop i passed) (parts_of (drop i fracs))
    ≡ (if get_or passed i b
    then lcm_of (unsigned_abs (get_or fracs i part).den) (common_of (drop (i + 1) passed)
    (parts_of (drop (i + 1) fracs)))
    else common_of (drop (i + 1) passed) (parts_of (drop (i + 1) fracs)))
unfolding common_of
common_at passed fracs i b part below within =
    at_drop_more (λ l. common_of l (parts_of (drop i fracs))) passed i b below
    ∙ at_drop_more (λ l. common_of (get_or passed i b ∷ drop (i + 1) passed) (parts_of l)) fracs i part within

-- one denominator more, where the column is declarer's
pub one_common : (den next : ℤ) (passed : List Bool) (fracs : List Frac) (i : ℕ) (b : Bool) (part : Frac)
    → i < length passed → i < length fracs → pos 0 <ℤ den → get_or passed i b ≡ true
    → unsigned_abs next ≡ lcm_of (unsigned_abs den) (unsigned_abs (get_or fracs i part).den)
    → in_all next (drop (i + 1) passed) (drop (i + 1) fracs) ≡ in_all den (drop i passed) (drop i fracs)
one_common den next passed fracs i b part below within some passes is =
    let rest : ℕ = common_of (drop (i + 1) passed) (parts_of (drop (i + 1) fracs)) in
    let d : ℕ = unsigned_abs (get_or fracs i part).den in
    ap (λ n. lcm_of n rest) is
    ∙ lcm_assoc (unsigned_abs den) d rest (abs_positive den some)
    (abs_positive (get_or fracs i part).den (get_or fracs i part).positive)
    ∙ ap (λ n. lcm_of (unsigned_abs den) n)
    (sym (common_at passed fracs i b part below within ∙ ap (λ x. if x then lcm_of d rest else rest) passes))

-- a multiple on the way is no more than the last
pub common_least : (den : ℤ) (passed : List Bool) (fracs : List Frac) → pos 0 <ℤ den
    → unsigned_abs den ≤ in_all den passed fracs
common_least den passed fracs some =
    le_of_dvd (lcm_positive (unsigned_abs den) (common_of passed (parts_of fracs)) (abs_positive den some)
    (common_some passed fracs))
    (IsLcm-lcm_of (unsigned_abs den) (common_of passed (parts_of fracs)) (abs_positive den some)).0

-- a denominator more is within the limit where all are
pub record IsStep (den next : ℤ) (passed : List Bool) (fracs : List Frac) (i : ℕ) : Type 0 where
  pub some : pos 0 <ℤ next
  pub in_all : in_all next (drop (i + 1) passed) (drop (i + 1) fracs) ≡ in_all den (drop i passed) (drop i fracs)

pub step_common : (den d : ℤ) (passed : List Bool) (fracs : List Frac) (i : ℕ) (b : Bool) (part : Frac)
    → i < length passed → i < length fracs → pos 0 <ℤ den → get_or passed i b ≡ true
    → d ≡ (get_or fracs i part).den
    → IsStep den (pos (lcm_of (unsigned_abs den) (unsigned_abs d))) passed fracs i
step_common den d passed fracs i b part below within some passes is = record {
  some = above (lcm_of (unsigned_abs den) (unsigned_abs d)) (subst (λ (z : ℤ). 0 < lcm_of (unsigned_abs den)
      (unsigned_abs z)) (sym is) (lcm_positive (unsigned_abs den) (unsigned_abs (get_or fracs i part).den)
      (abs_positive den some) (abs_positive (get_or fracs i part).den (get_or fracs i part).positive)));
  in_all = one_common den (pos (lcm_of (unsigned_abs den) (unsigned_abs d))) passed fracs i b part below within some
      passes (ap (λ (z : ℤ). lcm_of (unsigned_abs den) (unsigned_abs z)) is);
}
  where
    above : (n : ℕ) → 0 < n → pos 0 <ℤ pos n
    above n some = omega (arith, ints, some)

pub step_within : (den d most : ℤ) (passed : List Bool) (fracs : List Frac) (i : ℕ) (b : Bool) (part : Frac) (all : ℕ)
    → i < length passed → i < length fracs → pos 0 <ℤ den → get_or passed i b ≡ true
    → d ≡ (get_or fracs i part).den → in_all den (drop i passed) (drop i fracs) ≡ all → pos all ≤ℤ most
    → pos (lcm_of (unsigned_abs den) (unsigned_abs d)) ≤ℤ most
step_within den d most passed fracs i b part all below within some passes is so_far few =
    let step = step_common den d passed fracs i b part below within some passes is in
    let least = common_least (pos (lcm_of (unsigned_abs den) (unsigned_abs d))) (drop (i + 1) passed)
    (drop (i + 1) fracs) step.some in
    less (lcm_of (unsigned_abs den) (unsigned_abs d)) all most
    (subst (λ (n : ℕ). lcm_of (unsigned_abs den) (unsigned_abs d) ≤ n) (step.in_all ∙ so_far) least) few
  where
    less : (a b : ℕ) (most : ℤ) → a ≤ b → pos b ≤ℤ most → pos a ≤ℤ most
    less a b most le few = omega (arith, ints, le, few)

-- a fraction, whatever it is
pub any_part : Frac
any_part = record { num = pos 0; den = pos 1; positive = omega (arith, ints); coprime = λ d zero one. dvd_one d one }
  where
    dvd_one : (d : ℕ) → d ∣ 1 → d ≡ 1
    dvd_one d one = dvd_antisymm one (one-dvd d)

-- and none more where it is not
pub none_common : (den : ℤ) (passed : List Bool) (fracs : List Frac) (i : ℕ) (b : Bool)
    → i < length passed → i < length fracs → get_or passed i b ≡ false
    → in_all den (drop (i + 1) passed) (drop (i + 1) fracs) ≡ in_all den (drop i passed) (drop i fracs)
none_common den passed fracs i b below within waits =
    let part : Frac = any_part in
    let rest : ℕ = common_of (drop (i + 1) passed) (parts_of (drop (i + 1) fracs)) in
    let d : ℕ = unsigned_abs (get_or fracs i part).den in
    ap (λ n. lcm_of (unsigned_abs den) n)
    (sym (common_at passed fracs i b part below within ∙ ap (λ x. if x then lcm_of d rest else rest) waits))

-- at the end it is the last one
pub common_last : (den : ℤ) (passed : List Bool) (fracs : List Frac) (i : ℕ) → length passed ≤ i → pos 0 <ℤ den
    → in_all den (drop i passed) (drop i fracs) ≡ unsigned_abs den
unfolding common_of
common_last den passed fracs i past some =
    ap (λ l. lcm_of (unsigned_abs den) (common_of l (parts_of (drop i fracs)))) (drop_all i passed past)
    ∙ lcm_one (unsigned_abs den) (abs_positive den some)

-- told by the columns it is that of the plan
pub common_told : (all : List Column) (parts : List Part) → common_of (map is_passed all) parts ≡ common_den all parts
unfolding common_of common_den
common_told [] parts = refl
common_told (column ∷ all) [] = refl
common_told (column ∷ all) (part ∷ parts) =
    ap (λ n. if is_passed column then lcm_of (unsigned_abs part.1) n else n) (common_told all parts)
