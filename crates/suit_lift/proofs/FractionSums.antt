-- Sums of fractions whose denominators are above 0, compared by products (sum_swapped).
use Rattle.std.proofs.Common.{◌≡◌, ℕ, zero, suc, ◌+◌, ◌*◌, ◌≤◌, ◌<◌, Bool, true, false, cond, List, [], ◌∷◌, refl, sym}
use Rattle.std.proofs.Common.{ap, ◌∙◌, subst, arith}
use Rattle.std.specs.Prelude.{Contains, if◌then◌else◌}
use Rattle.std.specs.List.{AllByRecursion, filter, sum_by}
use Rattle.std.proofs.Math.Nat.{le_of_mul-le-mul_left, mul-le-mul_left, mul-pos}
use Rattle.std.proofs.lemmas.List.Sums.{sum_by-cons}
use Rattle.suit_lists.proofs.Elements.{each_gives, each_of}
use Rattle.suit_game.specs.Fractions.{Fraction, whole}

-- a fraction is no more than another, and both have denominators above 0
pub record IsNoMore (here there : Fraction) : Type 0 where
  pub here_some : 0 < here.den
  pub there_some : 0 < there.den
  pub least : here.num * there.den ≤ there.num * here.den

abbrev pub plus : Fraction → Fraction → Fraction
plus a b = record { num = a.num * b.den + b.num * a.den; den = a.den * b.den }

abbrev pub times : Fraction → Fraction → Fraction
times a b = record { num = a.num * b.num; den = a.den * b.den }

abbrev pub parts_of : ℕ → ℕ → Fraction
parts_of num den = record { num = num; den = den }

unfoldable pub sum_of : {X : Type 0} → (X → Fraction) → List X → Fraction
sum_of f [] = whole 0
sum_of f (x ∷ xs) = plus (f x) (sum_of f xs)

-- ---- the order

pub no_more_itself : (a : Fraction) → 0 < a.den → IsNoMore a a
no_more_itself a some = record { here_some = some; there_some = some; least = omega arith }

-- fractions with equal parts are no more than each other
pub no_more_same : (a b : Fraction) → 0 < a.den → 0 < b.den → a.num * b.den ≡ b.num * a.den → IsNoMore a b
no_more_same a b here there same = record { here_some = here; there_some = there; least = omega (arith, same) }

pub chained : (an ad bn bd cn cd : ℕ) → 0 < bd → an * bd ≤ bn * ad → bn * cd ≤ cn * bd → an * cd ≤ cn * ad
chained an ad bn bd cn cd some first later =
    let both : bd * (an * cd) ≤ bd * (cn * ad) = omega (arith, mul-le-mul_left cd first, mul-le-mul_left ad later) in
    le_of_mul-le-mul_left both some

pub no_more_then : (a b c : Fraction) → IsNoMore a b → IsNoMore b c → IsNoMore a c
no_more_then a b c first later = record {
  here_some = first.here_some;
  there_some = later.there_some;
  least = chained a.num a.den b.num b.den c.num c.den first.there_some first.least later.least;
}

both_least : (an ad bn bd cn cd dn dd : ℕ) → an * bd ≤ bn * ad → cn * dd ≤ dn * cd → (an * cd + cn * ad) * (bd
    * dd) ≤ (bn * dd + dn * bd) * (ad * cd)
both_least an ad bn bd cn cd dn dd first later =
    omega (arith, mul-le-mul_left (cd * dd) first, mul-le-mul_left (ad * bd) later)

pub plus_no_more : (a b c d : Fraction) → IsNoMore a b → IsNoMore c d → IsNoMore (plus a c) (plus b d)
plus_no_more a b c d first later = record {
  here_some = mul-pos first.here_some later.here_some;
  there_some = mul-pos first.there_some later.there_some;
  least = both_least a.num a.den b.num b.den c.num c.den d.num d.den first.least later.least;
}

times_least : (kn kd an ad bn bd : ℕ) → an * bd ≤ bn * ad → kn * an * (kd * bd) ≤ kn * bn * (kd * ad)
times_least kn kd an ad bn bd least = omega (arith, mul-le-mul_left (kn * kd) least)

pub times_no_more : (k a b : Fraction) → 0 < k.den → IsNoMore a b → IsNoMore (times k a) (times k b)
times_no_more k a b some least = record {
  here_some = mul-pos some least.here_some;
  there_some = mul-pos some least.there_some;
  least = times_least k.num k.den a.num a.den b.num b.den least.least;
}

-- nothing added before
pub plus_nothing : (a z b : Fraction) → z.num ≡ 0 → 0 < z.den → IsNoMore a b → IsNoMore a (plus z b)
plus_nothing a z b none some least = record {
  here_some = least.here_some;
  there_some = mul-pos some least.there_some;
  least = rw none (omega (arith, mul-le-mul_left z.den least.least));
}

-- something added before
pub plus_before : (a b : Fraction) → 0 < a.den → 0 < b.den → IsNoMore b (plus a b)
plus_before a b here there = record {
  here_some = there;
  there_some = mul-pos here there;
  least = grown a.num a.den b.num b.den;
}
  where
    grown : (an ad bn bd : ℕ) → bn * (ad * bd) ≤ (an * bd + bn * ad) * bd
    grown an ad bn bd = omega arith

-- something added behind
pub plus_behind : (a b : Fraction) → 0 < a.den → 0 < b.den → IsNoMore a (plus a b)
plus_behind a b here there = record {
  here_some = here;
  there_some = mul-pos here there;
  least = grown a.num a.den b.num b.den;
}
  where
    grown : (an ad bn bd : ℕ) → an * (ad * bd) ≤ (an * bd + bn * ad) * ad
    grown an ad bn bd = omega arith

-- ---- sums

pub sum_some : {X : Type 0} (f : X → Fraction) (xs : List X) → AllByRecursion (λ x. 0 < (f x).den) xs
    → 0 < (sum_of f xs).den
unfolding sum_of
sum_some f [] each = omega arith
sum_some f (x ∷ xs) each = mul-pos each.0 (sum_some f xs each.1)

pub sum_no_more : {X : Type 0} (f g : X → Fraction) (xs : List X) → AllByRecursion (λ x. IsNoMore (f x) (g x)) xs
    → IsNoMore (sum_of f xs) (sum_of g xs)
unfolding sum_of
sum_no_more f g [] each = no_more_itself (whole 0) (omega arith)
sum_no_more f g (x ∷ xs) each = plus_no_more (f x) (g x) (sum_of f xs) (sum_of g xs) each.0 (sum_no_more f g xs each.1)

same_plus : (an ad fn fd bn bd gn gd : ℕ)
    → ((an * fd + fn * ad) * (bd * gd) + (bn * gd + gn * bd) * (ad * fd)) * (ad * bd * (fd * gd)) ≡ ((an * bd + bn
    * ad) * (fd * gd) + (fn * gd + gn * fd) * (ad * bd)) * (ad * fd * (bd * gd))
same_plus an ad fn fd bn bd gn gd =
    let nums : (an * fd + fn * ad) * (bd * gd) + (bn * gd + gn * bd) * (ad * fd) ≡ (an * bd + bn * ad) * (fd
    * gd) + (fn * gd + gn * fd) * (ad * bd) = omega arith in
    let dens : ad * bd * (fd * gd) ≡ ad * fd * (bd * gd) = omega arith in
    ap (λ (n : ℕ). n * (ad * bd * (fd * gd))) nums ∙ ap (λ (n : ℕ). ((an * bd + bn * ad) * (fd * gd) + (fn
    * gd + gn * fd) * (ad * bd)) * n) dens

-- two sums are the sum of the sums
sum_both : {X : Type 0} (f g : X → Fraction) (xs : List X) → AllByRecursion (λ x. 0 < (f x).den) xs
    → AllByRecursion (λ x. 0 < (g x).den) xs
    → IsNoMore (plus (sum_of f xs) (sum_of g xs)) (sum_of (λ x. plus (f x) (g x)) xs)
unfolding sum_of
sum_both f g [] here there = record { here_some = omega arith; there_some = omega arith; least = omega arith }
sum_both f g (x ∷ xs) here there =
    let rest = sum_both f g xs here.1 there.1 in
    let some_f = sum_some f xs here.1 in
    let some_g = sum_some g xs there.1 in
    no_more_then (plus (plus (f x) (sum_of f xs)) (plus (g x) (sum_of g xs))) (plus (plus (f x) (g x)) (plus
    (sum_of f xs) (sum_of g xs))) (plus (plus (f x) (g x)) (sum_of (λ y. plus (f y) (g y)) xs))
    (no_more_same (plus (plus (f x) (sum_of f xs)) (plus (g x) (sum_of g xs))) (plus (plus (f x) (g x)) (plus
    (sum_of f xs) (sum_of g xs)))
    (mul-pos (mul-pos here.0 some_f) (mul-pos there.0 some_g)) (mul-pos (mul-pos here.0 there.0)
    (mul-pos some_f some_g))
    (same_plus (f x).num (f x).den (sum_of f xs).num (sum_of f xs).den (g x).num (g x).den (sum_of g xs).num
    (sum_of g xs).den))
    (plus_no_more (plus (f x) (g x)) (plus (f x) (g x)) (plus (sum_of f xs) (sum_of g xs)) (sum_of (λ y. plus (f y)
    (g y)) xs)
    (no_more_itself (plus (f x) (g x)) (mul-pos here.0 there.0)) rest)

no_sum : {Y : Type 0} (ys : List Y) → IsNoMore (whole 0) (sum_of (λ y. whole 0) ys)
unfolding sum_of
no_sum [] = no_more_itself (whole 0) (omega arith)
no_sum (y ∷ ys) = plus_nothing (whole 0) (whole 0) (sum_of (λ z. whole 0) ys) refl (omega arith) (no_sum ys)

-- the order of two sums may be changed
pub sum_swapped : {X Y : Type 0} (f : X → Y → Fraction) (xs : List X) (ys : List Y) → AllByRecursion (λ x. (y : Y)
    → 0 < (f x y).den) xs
    → IsNoMore (sum_of (λ x. sum_of (f x) ys) xs) (sum_of (λ y. sum_of (λ x. f x y) xs) ys)
unfolding sum_of
sum_swapped f [] ys some = no_sum ys
sum_swapped {X} {Y} f (x ∷ xs) ys some =
    let rest : Y → Fraction = λ y. sum_of (λ z. f z y) xs in
    let some_rest : (y : Y) → 0 < (rest y).den = λ y. sum_some (λ z. f z y) xs (each_gives (λ z. (w : Y)
    → 0 < (f z w).den) (λ z. 0 < (f z y).den) xs (λ z all. all y) some.1) in
    let some_here : 0 < (sum_of (f x) ys).den = sum_some (f x) ys (each_of (λ y. 0 < (f x y).den) ys some.0) in
    no_more_then (plus (sum_of (f x) ys) (sum_of (λ z. sum_of (f z) ys) xs)) (plus (sum_of (f x) ys)
    (sum_of rest ys)) (sum_of (λ y. plus (f x y) (rest y)) ys)
    (plus_no_more (sum_of (f x) ys) (sum_of (f x) ys) (sum_of (λ z. sum_of (f z) ys) xs) (sum_of rest ys)
    (no_more_itself (sum_of (f x) ys) some_here) (sum_swapped f xs ys some.1))
    (sum_both (f x) rest ys (each_of (λ y. 0 < (f x y).den) ys some.0) (each_of (λ y. 0 < (rest y).den) ys some_rest))

times_both : (kn kd an ad sn sd : ℕ) → kn * (an * sd + sn * ad) * (kd * ad * (kd * sd)) ≡ (kn * an * (kd * sd) + kn
    * sn * (kd * ad)) * (kd * (ad * sd))
times_both kn kd an ad sn sd = omega arith

-- a factor of a sum is one of each term
pub sum_times : {X : Type 0} (k : Fraction) (f : X → Fraction) (xs : List X) → 0 < k.den
    → AllByRecursion (λ x. 0 < (f x).den) xs
    → IsNoMore (times k (sum_of f xs)) (sum_of (λ x. times k (f x)) xs)
unfolding sum_of
sum_times k f [] some each =
    record { here_some = mul-pos some (omega arith); there_some = omega arith; least = omega arith }
sum_times k f (x ∷ xs) some each =
    let rest = sum_times k f xs some each.1 in
    let some_f = sum_some f xs each.1 in
    no_more_then (times k (plus (f x) (sum_of f xs))) (plus (times k (f x)) (times k (sum_of f xs))) (plus (times k
    (f x)) (sum_of (λ y. times k (f y)) xs))
    (no_more_same (times k (plus (f x) (sum_of f xs))) (plus (times k (f x)) (times k (sum_of f xs)))
    (mul-pos some (mul-pos each.0 some_f)) (mul-pos (mul-pos some each.0) (mul-pos some some_f))
    (times_both k.num k.den (f x).num (f x).den (sum_of f xs).num (sum_of f xs).den))
    (plus_no_more (times k (f x)) (times k (f x)) (times k (sum_of f xs)) (sum_of (λ y. times k (f y)) xs)
    (no_more_itself (times k (f x)) (mul-pos some each.0)) rest)

-- and the other way
pub times_sum : {X : Type 0} (k : Fraction) (f : X → Fraction) (xs : List X) → 0 < k.den
    → AllByRecursion (λ x. 0 < (f x).den) xs
    → IsNoMore (sum_of (λ x. times k (f x)) xs) (times k (sum_of f xs))
unfolding sum_of
times_sum k f [] some each =
    record { here_some = omega arith; there_some = mul-pos some (omega arith); least = omega arith }
times_sum k f (x ∷ xs) some each =
    let rest = times_sum k f xs some each.1 in
    let some_f = sum_some f xs each.1 in
    no_more_then (plus (times k (f x)) (sum_of (λ y. times k (f y)) xs)) (plus (times k (f x)) (times k
    (sum_of f xs))) (times k (plus (f x) (sum_of f xs)))
    (plus_no_more (times k (f x)) (times k (f x)) (sum_of (λ y. times k (f y)) xs) (times k (sum_of f xs))
    (no_more_itself (times k (f x)) (mul-pos some each.0)) rest)
    (no_more_same (plus (times k (f x)) (times k (sum_of f xs))) (times k (plus (f x) (sum_of f xs)))
    (mul-pos (mul-pos some each.0) (mul-pos some some_f)) (mul-pos some (mul-pos each.0 some_f))
    (sym (times_both k.num k.den (f x).num (f x).den (sum_of f xs).num (sum_of f xs).den)))

alike_parts : (n d m : ℕ) → (n * d + m * d) * d ≡ (n + m) * (d * d)
alike_parts n d m = omega arith

-- parts of one size add up by their numbers
pub sum_parts : {X : Type 0} (n : X → ℕ) (d : ℕ) (xs : List X) → 0 < d
    → IsNoMore (sum_of (λ x. parts_of (n x) d) xs) (parts_of (sum_by n xs) d)
unfolding sum_of
sum_parts n d [] some = record { here_some = omega arith; there_some = some; least = omega arith }
sum_parts n d (x ∷ xs) some =
    subst (λ (m : ℕ). IsNoMore (plus (parts_of (n x) d) (sum_of (λ y. parts_of (n y) d) xs)) (parts_of m d)) (sym
    (sum_by-cons n x xs))
    (no_more_then (plus (parts_of (n x) d) (sum_of (λ y. parts_of (n y) d) xs)) (plus (parts_of (n x) d) (parts_of
    (sum_by n xs) d)) (parts_of (n x + sum_by n xs) d)
    (plus_no_more (parts_of (n x) d) (parts_of (n x) d) (sum_of (λ y. parts_of (n y) d) xs) (parts_of
    (sum_by n xs) d) (no_more_itself (parts_of (n x) d) some) (sum_parts n d xs some))
    (no_more_same (plus (parts_of (n x) d) (parts_of (sum_by n xs) d)) (parts_of (n x + sum_by n xs) d)
    (mul-pos some some) some (alike_parts (n x) d (sum_by n xs))))

-- what a filter keeps adds up as it does with nothing for the others
pub sum_kept : {X : Type 0} (test : X → Bool) (f : X → Fraction) (xs : List X) → AllByRecursion (λ x. 0 < (f x).den) xs
    → IsNoMore (sum_of f (filter test xs)) (sum_of (λ x. if test x then f x else whole 0) xs)
unfolding sum_of
sum_kept test f [] each = no_more_itself (whole 0) (omega arith)
sum_kept {X} test f (x ∷ xs) each = kept (test x) (sum_kept test f xs each.1)
  where
    kept : (b : Bool) → IsNoMore (sum_of f (filter test xs)) (sum_of (λ y. if test y then f y else whole 0) xs)
        → IsNoMore (sum_of f (cond b (x ∷ filter test xs) (filter test xs))) (plus (if b then f x else whole 0)
        (sum_of (λ y. if test y then f y else whole 0) xs))
    kept true rest =
        plus_no_more (f x) (f x) (sum_of f (filter test xs)) (sum_of (λ y. if test y then f y else whole 0) xs)
        (no_more_itself (f x) each.0) rest
    kept false rest =
        plus_nothing (sum_of f (filter test xs)) (whole 0) (sum_of (λ y. if test y then f y else whole 0) xs) refl
        (omega arith) rest

pub kept_sum : {X : Type 0} (test : X → Bool) (f : X → Fraction) (xs : List X) → AllByRecursion (λ x. 0 < (f x).den) xs
    → IsNoMore (sum_of (λ x. if test x then f x else whole 0) xs) (sum_of f (filter test xs))
unfolding sum_of
kept_sum test f [] each = no_more_itself (whole 0) (omega arith)
kept_sum {X} test f (x ∷ xs) each = kept (test x) (kept_sum test f xs each.1)
  where
    kept : (b : Bool) → IsNoMore (sum_of (λ y. if test y then f y else whole 0) xs) (sum_of f (filter test xs))
        → IsNoMore (plus (if b then f x else whole 0) (sum_of (λ y. if test y then f y else whole 0) xs)) (sum_of f
        (cond b (x ∷ filter test xs) (filter test xs)))
    kept true rest =
        plus_no_more (f x) (f x) (sum_of (λ y. if test y then f y else whole 0) xs) (sum_of f (filter test xs))
        (no_more_itself (f x) each.0) rest
    kept false rest = record {
      here_some = mul-pos {m = 1} (omega arith) rest.here_some;
      there_some = rest.there_some;
      least = omega (arith, rest.least);
    }

-- a term that is in the list is no more than the sum
pub term_no_more : {X : Type 0} (f : X → Fraction) (xs : List X) (x : X) → AllByRecursion (λ y. 0 < (f y).den) xs
    → Contains xs x → IsNoMore (f x) (sum_of f xs)
unfolding sum_of
term_no_more f [] x each found = absurd (omega (arith, found.1))
term_no_more {X} f (first ∷ xs) x each (zero, below, is) =
    subst (λ (y : X). IsNoMore (f y) (plus (f first) (sum_of f xs))) is (plus_behind (f first) (sum_of f xs) each.0
    (sum_some f xs each.1))
term_no_more f (first ∷ xs) x each (suc k, below, is) =
    no_more_then (f x) (sum_of f xs) (plus (f first) (sum_of f xs)) (term_no_more f xs x each.1 (k, omega arith, is))
    (plus_before (f first) (sum_of f xs) each.0 (sum_some f xs each.1))
