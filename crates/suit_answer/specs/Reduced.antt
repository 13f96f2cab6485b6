-- A number over another, in lowest terms.
use Rattle.std.specs.Prelude.{◌≡◌, Bool, true, false, ℤ, pos, ◌*ℤ◌, int_div, int_lt, unsigned_abs}
use Rattle.suit_num.specs.Divisors.{gcd_of}
use Rattle.suit_num.specs.declared.fraction.Frac.{Frac}
use Rattle.suit_game.specs.declared.question.Question.{Question}
use Rattle.suit_game.specs.Layouts.{total}
use Rattle.suit_answer.specs.LowestTermsAreExact.{lowest_coprime, lowest_positive, one_positive, one_coprime}

-- the greatest common divisor of two whole numbers
abbrev pub divisor_of : ℤ → ℤ → ℤ
divisor_of num den = pos (gcd_of (unsigned_abs num) (unsigned_abs den))

-- a number over another by whether that is positive; nothing, as 0 over 1, where it is not
abbrev pub fraction_by : (num den : ℤ) (is_positive : Bool) → int_lt (pos 0) den ≡ is_positive → Frac
fraction_by num den true told = record {
  num = int_div num (divisor_of num den);
  den = int_div den (divisor_of num den);
  positive = lowest_positive num den told;
  coprime = lowest_coprime num den told;
}
fraction_by num den false told = record { num = pos 0; den = pos 1; positive = one_positive; coprime = one_coprime }

-- a number over a positive number, in lowest terms
unfoldable pub fraction : ℤ → ℤ → Frac
fraction num den = fraction_by num den (int_lt (pos 0) den) (λ i. int_lt (pos 0) den)

-- a number over a denominator and the total weight
abbrev pub value_over : Question → ℤ → ℤ → Frac
value_over question number den = fraction number (den *ℤ pos (total question))
