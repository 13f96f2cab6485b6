-- A denominator that fractions have in common: the product of theirs (`common_denominator`).
use Rattle.std.proofs.Common.{◌≡◌, ℕ, zero, suc, List, [], ◌∷◌, sym, ap, ◌∙◌, Some, arith}
use Rattle.std.specs.Prelude.{ℤ, pos, ◌*ℤ◌, slice_get}
use Rattle.std.proofs.lemmas.Int.{ints}
use Rattle.suit_num.specs.declared.fraction.Frac.{Frac}
use Rattle.suit_num.proofs.IntegerLaws.{mul_assoc, mul_right_comm, mul_positive}
use Rattle.suit_linear.specs.Optima.{IsCommon}

some_same : (x y : Frac) → Some x ≡ Some y → x ≡ y
some_same x y e = cc

ahead : ℤ → ℤ → (ℕ → ℤ) → ℕ → ℤ
ahead first factor point zero = first
ahead first factor point (suc column) = point column *ℤ factor

one_more : (part : Frac) (parts : List Frac) (point : ℕ → ℤ) (den : ℤ) → IsCommon parts point den
    → IsCommon (part ∷ parts) (ahead (part.num *ℤ den) part.den point) (den *ℤ part.den)
unfolding ahead
one_more part parts point den common = record {
  over = mul_positive den part.den common.over part.positive;
  same = by_column;
}
  where
    by_column : (column : ℕ) (other : Frac) → slice_get (part ∷ parts) column ≡ Some other
        → ahead (part.num *ℤ den) part.den point column *ℤ other.den ≡ other.num *ℤ (den *ℤ part.den)
    by_column zero other h =
        let e : part ≡ other = some_same part other h in
        ap (λ (f : Frac). part.num *ℤ den *ℤ f.den) (sym e) ∙ mul_assoc part.num den part.den
        ∙ ap (λ (f : Frac). f.num *ℤ (den *ℤ part.den)) e
    by_column (suc column) other h =
        mul_right_comm (point column) part.den other.den
        ∙ ap (λ (z : ℤ). z *ℤ part.den) (common.same column other h)
        ∙ mul_assoc other.num den part.den

pub common_denominator : (parts : List Frac) → (point : ℕ → ℤ) × (den : ℤ) × IsCommon parts point den
common_denominator [] = (
  λ (column : ℕ). pos 0,
  pos 1,
  record { over = omega (arith, ints); same = λ column part h. absurd (cc) },
)
common_denominator (part ∷ parts) =
    let rest = common_denominator parts in
    (ahead (part.num *ℤ rest.1) part.den rest.0, rest.1 *ℤ part.den, one_more part parts rest.0 rest.1 rest.2)
