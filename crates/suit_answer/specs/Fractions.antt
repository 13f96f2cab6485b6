-- Fractions in lowest terms.
use Rattle.std.specs.Prelude.{◌≡◌, Bool, true, false, Option, Some, None, ℤ}
use Rattle.suit_num.specs.declared.fraction.Frac.{Frac}
use Rattle.suit_answer.specs.LowestTerms.{are_positive, are_coprime, is_lowest}

-- the fraction of two numbers, where it is in lowest terms by a test that has this outcome
abbrev pub fraction_by : (num den : ℤ) (outcome : Bool) → is_lowest num den ≡ outcome → Option Frac
fraction_by num den true passed =
    Some (record {
      num = num;
      den = den;
      positive = are_positive num den passed;
      coprime = are_coprime num den passed;
    })
fraction_by num den false failed = None

-- the fraction of two numbers that are its lowest terms
abbrev pub fraction_of : ℤ → ℤ → Option Frac
fraction_of num den = fraction_by num den (is_lowest num den) (λ i. is_lowest num den)
