-- Products of two numbers of 64 bits.
use Rattle.std.proofs.Common.{◌≡◌, ◌*◌, ◌^◌, ◌≤◌, arith}
use Rattle.std.specs.Prelude.{ℤ, ◌*ℤ◌, unsigned_abs, FitsSigned}
use Rattle.std.specs.Int.{w64, w128, cast_signed, cast_unsigned}
use Rattle.std.proofs.lemmas.Int.{unsigned_abs-mul, to_z-of_z, fits_signed_from_abs}
use Rattle.std.proofs.Math.Nat.{mul-le-mul}
use Rattle.suit_num.specs.Narrow.{IsNarrow}
use lib.Signed.{nat_abs-le}

pub IsNarrow-mul : (a b : ℤ) → FitsSigned w64 a → FitsSigned w64 b → IsNarrow (a *ℤ b)
IsNarrow-mul a b p q =
    let product : unsigned_abs a * unsigned_abs b ≤ 2 ^ 63 * 2 ^ 63 =
    mul-le-mul (nat_abs-le a p.sfits) (nat_abs-le b q.sfits) in
    rw (unsigned_abs-mul a b) (omega arith)

-- a number that went to 64 bits and back
pub narrowed : (a x r : ℤ) → FitsSigned w128 a → FitsSigned w64 (cast_signed w128 (cast_unsigned w128 a))
    × (x ≡ cast_signed w128 (cast_unsigned w128 a)) → r ≡ cast_signed w64 (cast_unsigned w64 x) → FitsSigned w64 a
    × (r ≡ a)
narrowed a x r fits h e =
    let small : FitsSigned w64 a = (simp to_z-of_z at h).0 in
    let same : x ≡ a = (simp to_z-of_z at h).1 in
    (small, simp to_z-of_z at (rw same at e))

-- the product of two such numbers is the exact one
pub product_of : (a b p q : ℤ) → FitsSigned w128 a → FitsSigned w128 b → FitsSigned w64 a × (p ≡ a) → FitsSigned w64 b
    × (q ≡ b) → IsNarrow (a *ℤ b)
    × (cast_signed w128
    (cast_unsigned w128 (cast_signed w128 (cast_unsigned w128 p) *ℤ cast_signed w128 (cast_unsigned w128 q))) ≡ a *ℤ b)
product_of a b p q fits_a fits_b e f =
    let narrow : IsNarrow (a *ℤ b) = IsNarrow-mul a b e.0 f.0 in
    let fits : FitsSigned w128 (a *ℤ b) = fits_signed_from_abs w128 (a *ℤ b) narrow in
    (narrow, rw (e.1, f.1) (simp to_z-of_z))
