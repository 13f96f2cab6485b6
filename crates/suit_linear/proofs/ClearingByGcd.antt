-- What a row comes to once a pivot has cleared its entry (`cleared_is`).
use Rattle.std.proofs.Common.{◌≡◌, ℕ, ◌<◌, List, length, refl, sym, ap, ◌∙◌, subst, arith}
use Rattle.std.specs.Prelude.{ℤ, pos, ◌-ℤ◌, ◌*ℤ◌, ◌≤ℤ◌, ◌<ℤ◌, unsigned_abs, int_div}
use Rattle.std.proofs.lemmas.Int.{ints}
use Rattle.std.proofs.lemmas.List.{length-map}
use Rattle.std.proofs.lemmas.Nat.Gcd.{IsGcd-swap, same_from_IsGcd}
use Rattle.std.proofs.Math.IntN.{*ℤ_comm, zero-*ℤ}
use Rattle.std.proofs.Math.Nat.{pos_of_dvd_of_pos}
use Rattle.suit_num.specs.Divisors.{gcd_of}
use Rattle.suit_num.proofs.DivisorLaws.{IsGcd-gcd_of}
use Rattle.suit_num.proofs.IntegerLaws.{mul_assoc, mul_right_comm, mul-sub_left, mul-sub_right, div-mul}
use Rattle.suit_num.proofs.IntegerLaws.{positive_from_mul, mul_positive, mul_not_negative, le_from_mul, same_from_mul}
use Rattle.suit_linear.specs.Points.{number_at, dot}
use Rattle.suit_linear.specs.Pivots.{combined, content, share, cleared}
use Rattle.suit_linear.proofs.Contents.{length-combined, number_at-combined, primitive_is}
use Rattle.suit_linear.proofs.DotProducts.{dot-combined, dot-primitive}
use Rattle.suit_linear.proofs.Signs.{nothing_combined, nothing_taken, positive_low}

-- ---- shares

size_positive : (p : ℤ) → pos 0 <ℤ p → 0 < unsigned_abs p
size_positive p h = omega (arith, ints)

gcd_turned : (a b : ℕ) → gcd_of b a ≡ gcd_of a b
gcd_turned a b = same_from_IsGcd a b (gcd_of b a) (gcd_of a b) (IsGcd-swap b a (gcd_of b a) (IsGcd-gcd_of b a))
    (IsGcd-gcd_of a b)

module _ (p t : ℤ) (some : pos 0 <ℤ p) where
  pub gcd_positive : pos 0 <ℤ pos (gcd_of (unsigned_abs p) (unsigned_abs t))
  gcd_positive =
      let more : 0 < gcd_of (unsigned_abs p) (unsigned_abs t) =
      pos_of_dvd_of_pos (IsGcd-gcd_of (unsigned_abs p) (unsigned_abs t)).0 (size_positive p some) in
      omega (arith, ints)

  pub share_whole : share p t *ℤ pos (gcd_of (unsigned_abs p) (unsigned_abs t)) ≡ p
  share_whole = div-mul p (pos (gcd_of (unsigned_abs p) (unsigned_abs t)))
      (IsGcd-gcd_of (unsigned_abs p) (unsigned_abs t)).0

  pub share_other : share t p *ℤ pos (gcd_of (unsigned_abs p) (unsigned_abs t)) ≡ t
  share_other =
      ap (λ (n : ℕ). share t p *ℤ pos n) (sym (gcd_turned (unsigned_abs p) (unsigned_abs t)))
      ∙ div-mul t (pos (gcd_of (unsigned_abs t) (unsigned_abs p))) (IsGcd-gcd_of (unsigned_abs t) (unsigned_abs p)).0

  pub share_positive : pos 0 <ℤ share p t
  share_positive =
      positive_from_mul (share p t) (pos (gcd_of (unsigned_abs p) (unsigned_abs t)))
      (subst (λ (z : ℤ). pos 0 <ℤ z) (sym share_whole) some) gcd_positive

  -- the shares clear the entry
  pub shares_balance : share p t *ℤ t ≡ share t p *ℤ p
  shares_balance =
      let g : ℤ = pos (gcd_of (unsigned_abs p) (unsigned_abs t)) in
      ap (λ (z : ℤ). share p t *ℤ z) (sym share_other)
      ∙ sym (mul_assoc (share p t) (share t p) g)
      ∙ mul_right_comm (share p t) (share t p) g
      ∙ ap (λ (z : ℤ). z *ℤ share t p) share_whole
      ∙ *ℤ_comm p (share t p)

-- ---- cleared numbers

-- numbers with the entry t are cleared by those of a row with the entry p: a positive multiple of them is a positive
-- multiple of the old ones less a multiple of the row
pub record IsCleared (p t : ℤ) (before leaver after : List ℤ) : Type 0 where
  pub own : ℤ
  pub other : ℤ
  pub divisor : ℤ
  pub own_positive : pos 0 <ℤ own
  pub divisor_positive : pos 0 <ℤ divisor
  pub balance : own *ℤ t ≡ other *ℤ p
  pub width : length after ≡ length before
  pub numbers : (index : ℕ) → number_at after index *ℤ divisor
      ≡ own *ℤ number_at before index -ℤ other *ℤ number_at leaver index
  pub dots : (given : ℕ → ℤ) → dot after given *ℤ divisor ≡ own *ℤ dot before given -ℤ other *ℤ dot leaver given

one_of : (a b : ℤ) → a *ℤ pos 1 ≡ pos 1 *ℤ a -ℤ pos 0 *ℤ b
one_of a b = omega (arith, ints)

-- an entry that is 0 needs no clearing
pub kept_is : (p t : ℤ) (before leaver : List ℤ) → t ≡ pos 0 → IsCleared p t before leaver before
kept_is p t before leaver h = record {
  own = pos 1;
  other = pos 0;
  divisor = pos 1;
  own_positive = one_positive;
  divisor_positive = one_positive;
  balance = ap (λ (z : ℤ). pos 1 *ℤ z) h ∙ zeros p;
  width = refl;
  numbers = λ index. one_of (number_at before index) (number_at leaver index);
  dots = λ given. one_of (dot before given) (dot leaver given);
}
  where
    one_positive : pos 0 <ℤ pos 1
    one_positive = omega (arith, ints)

    zeros : (p : ℤ) → pos 1 *ℤ pos 0 ≡ pos 0 *ℤ p
    zeros p = omega (arith, ints)

-- a row that is cleared by shares
pub cleared_is : (p t : ℤ) (before leaver : List ℤ) → pos 0 <ℤ p → length before ≡ length leaver
    → 0 < content (combined (share p t) before (share t p) leaver)
    → IsCleared p t before leaver (cleared p t before leaver)
cleared_is p t before leaver some same h =
    let mixed : List ℤ = combined (share p t) before (share t p) leaver in
    record {
      own = share p t;
      other = share t p;
      divisor = pos (content mixed);
      own_positive = share_positive p t some;
      divisor_positive = positive (content mixed) h;
      balance = shares_balance p t some;
      width = length-map mixed (λ x. int_div x (pos (content mixed)))
          ∙ length-combined (share p t) before (share t p) leaver same;
      numbers = λ index. primitive_is mixed index h
          ∙ number_at-combined (share p t) before (share t p) leaver index same;
      dots = λ given. dot-primitive mixed given h ∙ dot-combined (share p t) before (share t p) leaver given same;
    }
  where
    positive : (n : ℕ) → 0 < n → pos 0 <ℤ pos n
    positive n h = omega (arith, ints)

-- ---- what the numbers come to

zero_from_mul : (a d : ℤ) → pos 0 <ℤ d → a *ℤ d ≡ pos 0 → a ≡ pos 0
zero_from_mul a d some h = same_from_mul a (pos 0) d (h ∙ sym (zero-*ℤ d)) some

mixed_zero : (own other a b : ℤ) → a ≡ pos 0 → b ≡ pos 0 → own *ℤ a -ℤ other *ℤ b ≡ pos 0
mixed_zero own other a b h k = ap (λ (z : ℤ). own *ℤ z -ℤ other *ℤ b) h ∙ ap (λ (z : ℤ). own *ℤ pos 0 -ℤ other *ℤ z) k
    ∙ nothing_combined own other

own_only : (own other a b : ℤ) → b ≡ pos 0 → own *ℤ a -ℤ other *ℤ b ≡ own *ℤ a
own_only own other a b h = ap (λ (z : ℤ). own *ℤ a -ℤ other *ℤ z) h ∙ nothing_taken (own *ℤ a) other

no_difference : (a b : ℤ) → a ≡ b → a -ℤ b ≡ pos 0
no_difference a b h = omega (arith, ints)

difference : (a b : ℤ) → b ≤ℤ a → pos 0 ≤ℤ (a -ℤ b)
difference a b h = omega (arith, ints)

bound_step : (own other t p b l : ℤ) → own *ℤ t ≡ other *ℤ p → (own *ℤ b -ℤ other *ℤ l) *ℤ p ≡ own *ℤ (b *ℤ p -ℤ l *ℤ t)
bound_step own other t p b l h =
    mul-sub_right (own *ℤ b) (other *ℤ l) p
    ∙ ap (λ (z : ℤ). z -ℤ other *ℤ l *ℤ p) (mul_assoc own b p)
    ∙ ap (λ (z : ℤ). own *ℤ (b *ℤ p) -ℤ z) (mul_right_comm other l p ∙ ap (λ (z : ℤ). z *ℤ l) (sym h)
    ∙ mul_right_comm own t l ∙ mul_assoc own l t)
    ∙ sym (mul-sub_left own (b *ℤ p) (l *ℤ t))

module _ (p t : ℤ) (before leaver after : List ℤ) (clear : IsCleared p t before leaver after) where
  -- an index that is 0 in both rows stays 0
  pub cleared_zero : (index : ℕ) → number_at before index ≡ pos 0 → number_at leaver index ≡ pos 0
      → number_at after index ≡ pos 0
  cleared_zero index h k =
      zero_from_mul (number_at after index) clear.divisor clear.divisor_positive
      (clear.numbers index ∙ mixed_zero clear.own clear.other (number_at before index) (number_at leaver index) h k)

  -- the cleared entry is 0
  pub cleared_here : (index : ℕ) → number_at before index ≡ t → number_at leaver index ≡ p
      → number_at after index ≡ pos 0
  cleared_here index h k =
      zero_from_mul (number_at after index) clear.divisor clear.divisor_positive
      (clear.numbers index
      ∙ no_difference (clear.own *ℤ number_at before index) (clear.other *ℤ number_at leaver index)
      (ap (λ (z : ℤ). clear.own *ℤ z) h ∙ clear.balance ∙ ap (λ (z : ℤ). clear.other *ℤ z) (sym k)))

  -- where the leaving row is 0, a positive number stays positive
  pub cleared_positive : (index : ℕ) → pos 0 <ℤ number_at before index → number_at leaver index ≡ pos 0
      → pos 0 <ℤ number_at after index
  cleared_positive index h k =
      let e = clear.numbers index ∙ own_only clear.own clear.other (number_at before index) (number_at leaver index)
      k in
      positive_from_mul (number_at after index) clear.divisor
      (subst (λ (z : ℤ). pos 0 <ℤ z) (sym e) (mul_positive clear.own (number_at before index) clear.own_positive h))
      clear.divisor_positive

  -- a bound stays at least 0 where the leaving row's ratio is no more
  pub cleared_bound : pos 0 <ℤ p → (number_at leaver 0 *ℤ t) ≤ℤ (number_at before 0 *ℤ p) → pos 0 ≤ℤ number_at after 0
  cleared_bound some h =
      let b : ℤ = number_at before 0 in
      let l : ℤ = number_at leaver 0 in
      let mixed : ℤ = clear.own *ℤ b -ℤ clear.other *ℤ l in
      let gain : pos 0 ≤ℤ (clear.own *ℤ (b *ℤ p -ℤ l *ℤ t)) =
      mul_not_negative clear.own (b *ℤ p -ℤ l *ℤ t) (positive_low clear.own clear.own_positive)
      (difference (b *ℤ p) (l *ℤ t) h) in
      let scaled : pos 0 ≤ℤ (mixed *ℤ p) =
      subst (λ (z : ℤ). pos 0 ≤ℤ z) (sym (bound_step clear.own clear.other t p b l clear.balance)) gain in
      let whole : pos 0 ≤ℤ mixed = le_from_mul (pos 0) mixed p
      (subst (λ (z : ℤ). z ≤ℤ (mixed *ℤ p)) (sym (zero-*ℤ p)) scaled) some in
      let parts : pos 0 ≤ℤ (number_at after 0 *ℤ clear.divisor) =
      subst (λ (z : ℤ). pos 0 ≤ℤ z) (sym (clear.numbers 0)) whole in
      le_from_mul (pos 0) (number_at after 0) clear.divisor
      (subst (λ (z : ℤ). z ≤ℤ (number_at after 0 *ℤ clear.divisor)) (sym (zero-*ℤ clear.divisor)) parts)
      clear.divisor_positive

  -- what solves both rows solves the cleared one
  pub cleared_solved : (given : ℕ → ℤ) → dot before given ≡ pos 0 → dot leaver given ≡ pos 0 → dot after given ≡ pos 0
  cleared_solved given h k =
      zero_from_mul (dot after given) clear.divisor clear.divisor_positive
      (clear.dots given ∙ mixed_zero clear.own clear.other (dot before given) (dot leaver given) h k)

  -- and back
  pub solved_before : (given : ℕ → ℤ) → dot after given ≡ pos 0 → dot leaver given ≡ pos 0 → dot before given ≡ pos 0
  solved_before given h k =
      zero_from_mul (dot before given) clear.own clear.own_positive
      (*ℤ_comm (dot before given) clear.own
      ∙ sym (own_only clear.own clear.other (dot before given) (dot leaver given) k)
      ∙ sym (clear.dots given)
      ∙ ap (λ (z : ℤ). z *ℤ clear.divisor) h
      ∙ zero-*ℤ clear.divisor)
