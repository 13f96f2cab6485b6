-- A number over another in lowest terms is what it comes to (`fraction_exact`), and nothing else is (`made_fraction`).
use Rattle.std.proofs.Common.{◌≡◌, ℕ, ◌≤◌, ◌<◌, ◌^◌, Bool, true, false, ℤ, pos, ◌*ℤ◌, ◌≤ℤ◌, arith, sym}
use Rattle.std.specs.Prelude.{FitsSigned, ◌<ℤ◌, int_lt, unsigned_abs}
use Rattle.std.specs.Int.{w128}
use Rattle.std.proofs.lemmas.Int.{fits_signed_from_abs, ints}
use Rattle.suit_num.proofs.FractionLaws.{fraction_same_trans, same_reduced}
use Rattle.suit_num.proofs.IntegerLaws.{int_lt-false, le-mul_right, mul_not_negative, mul_positive}
use Rattle.suit_num.specs.declared.fraction.Frac.{Frac}
use Rattle.suit_game.specs.declared.question.Question.{Question}
use Rattle.suit_game.specs.Layouts.{total}
use Rattle.suit_game.specs.Validity.{IsValid}
use Rattle.suit_plans.specs.declared.plan.TheConstants.{MOST_DEN}
use Rattle.suit_game.specs.declared.limits.TheConstants.{MOST_TOTAL}
use Rattle.suit_answer.specs.Reduced.{fraction, fraction_by}
use Rattle.suit_answer.specs.LowestTermsAreExact.{lowest_den, lowest_exact, lowest_num}
use Rattle.suit_answer.proofs.Lowest.{same_fraction}

by_exact : (num den : ℤ) (b : Bool) (told : int_lt (pos 0) den ≡ b) → pos 0 <ℤ den
    → num *ℤ (fraction_by num den b told).den ≡ (fraction_by num den b told).num *ℤ den
by_exact num den true told some = lowest_exact num den told
by_exact num den false told some =
    let low : den ≤ℤ pos 0 = int_lt-false (pos 0) den told in absurd (omega (arith, ints))

-- a fraction is its number over the other
pub fraction_exact : (num den : ℤ) → pos 0 <ℤ den → num *ℤ (fraction num den).den ≡ (fraction num den).num *ℤ den
unfolding fraction
fraction_exact num den some = by_exact num den (int_lt (pos 0) den) (λ i. int_lt (pos 0) den) some

by_small : (num den : ℤ) (b : Bool) (told : int_lt (pos 0) den ≡ b) → pos 0 <ℤ den → pos 0 ≤ℤ num
    → (pos 0 ≤ℤ (fraction_by num den b told).num) × ((fraction_by num den b told).num ≤ℤ num)
    × ((fraction_by num den b told).den ≤ℤ den)
by_small num den true told some low =
    let small = lowest_num num den told low in (small.0, small.1, lowest_den num den told)
by_small num den false told some low =
    let none : den ≤ℤ pos 0 = int_lt-false (pos 0) den told in absurd (omega (arith, ints))

-- and no part of it is larger
pub fraction_small : (num den : ℤ) → pos 0 <ℤ den → pos 0 ≤ℤ num
    → (pos 0 ≤ℤ (fraction num den).num) × ((fraction num den).num ≤ℤ num) × ((fraction num den).den ≤ℤ den)
unfolding fraction
fraction_small num den some low = by_small num den (int_lt (pos 0) den) (λ i. int_lt (pos 0) den) some low

-- a denominator times the total weight fits 128 bits
pub whole_fits : (den : ℤ) (weight : ℕ) → pos 1 ≤ℤ den → den ≤ℤ MOST_DEN → weight ≤ MOST_TOTAL
    → FitsSigned w128 (den *ℤ pos weight)
whole_fits den weight one most few =
    let up : (den *ℤ pos weight) ≤ℤ (MOST_DEN *ℤ pos weight) =
    le-mul_right den (MOST_DEN) (pos weight) most (omega (arith, ints)) in
    let some : pos 0 ≤ℤ (den *ℤ pos weight) =
    mul_not_negative den (pos weight) (omega (arith, ints, one)) (omega (arith, ints)) in
    bounded (den *ℤ pos weight) weight some up few
  where
    bounded : (z : ℤ) (weight : ℕ) → pos 0 ≤ℤ z → z ≤ℤ (MOST_DEN *ℤ pos weight) → weight ≤ MOST_TOTAL
        → FitsSigned w128 z
    bounded z weight some up few =
        let small : unsigned_abs z < 2 ^ 127 = omega (arith, ints, some, up, few) in fits_signed_from_abs w128 z small

-- a fraction that a number over another comes to is the one in lowest terms
pub made_fraction : (found : Frac) (number whole : ℤ) → pos 0 <ℤ whole → number *ℤ found.den ≡ found.num *ℤ whole
    → found ≡ fraction number whole
made_fraction found number whole over comes =
    let other : Frac = fraction number whole in
    let terms = same_reduced found.num found.den other.num other.den found.positive other.positive found.coprime
    other.coprime (cross found other number whole over comes (fraction_exact number whole over)) in
    same_fraction found other terms.0 terms.1
  where
    cross : (one other : Frac) (number whole : ℤ) → pos 0 <ℤ whole → number *ℤ one.den ≡ one.num *ℤ whole
        → number *ℤ other.den ≡ other.num *ℤ whole → one.num *ℤ other.den ≡ other.num *ℤ one.den
    cross one other number whole over p q =
        fraction_same_trans one.num one.den number whole other.num other.den over (sym p) q

some_weight : (n : ℕ) → 0 < n → pos 0 <ℤ pos n
some_weight n some = omega (arith, ints, some)

pub some_from_one : (den : ℤ) → pos 1 ≤ℤ den → pos 0 <ℤ den
some_from_one den one = omega (arith, ints)

-- a denominator times the total weight of a valid question is positive
pub whole_over : (question : Question) (den : ℤ) → IsValid question → pos 0 <ℤ den
    → pos 0 <ℤ (den *ℤ pos (total question))
whole_over question den valid some =
    mul_positive den (pos (total question)) some (some_weight (total question) valid.has_weight)
