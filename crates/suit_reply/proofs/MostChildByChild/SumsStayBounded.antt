-- first_earned: the sums of what a payoff is worth for some masses stay within their bounds.
use Rattle.std.proofs.Common.{ℕ, ◌<◌, ◌≤◌, All, List, length, get_or, map, take, subst, arith, SFits}
use Rattle.std.specs.Prelude.{Contains, ℤ, pos, negsuc, ◌*◌, ◌^◌, ◌*ℤ◌, ◌≤ℤ◌}
use Rattle.std.specs.Int.{w128}
use Rattle.std.specs.List.{take-map}
use Rattle.std.proofs.lemmas.Int.{ints}
use Rattle.std.proofs.lemmas.List.Elements.{All-contains, Contains-get_or}
use Rattle.suit_plans.specs.Properness.{sum_of}
use Rattle.suit_plans.proofs.SharesAddUpToTheMass.{within_sum}
use Rattle.suit_plans.specs.ReplyLaws.{IsPaid}
use Rattle.suit_plans.specs.declared.plan.TheConstants.{MOST_MASS}
use Rattle.suit_plans.proofs.NumberSums.{first_sums}
use Rattle.suit_plans.proofs.AtMostThirteenTricks.{product_paid, sum_paid}
use Rattle.suit_reply.specs.AgainstDefence.{LayoutMasses}
use Rattle.suit_reply.proofs.OneMoreAdded.{le_through}
use Rattle.suit_game.specs.declared.limits.TheConstants.{HAND_SIZE}

-- each mass lies between 0 and their sum
pub one_mass : (masses : LayoutMasses) (i : ℕ) (d : ℕ × ℤ) (most : ℤ) → All (λ held. pos 0 ≤ℤ held.1) masses
    → sum_of (map (λ held. held.1) masses) ≤ℤ most → i < length masses
    → (pos 0 ≤ℤ (get_or masses i d).1) × ((get_or masses i d).1 ≤ℤ most)
one_mass masses i d most positive within below =
    let found : Contains masses (get_or masses i d) = Contains-get_or masses i d below in
    let each : (held : ℕ × ℤ) → Contains masses held → pos 0 ≤ℤ held.1 =
    λ held there. All-contains (λ (other : ℕ × ℤ). pos 0 ≤ℤ other.1) masses held positive there in
    let one : (get_or masses i d).1 ≤ℤ sum_of (map (λ held. held.1) masses) =
    within_sum (λ (held : ℕ × ℤ). held.1) masses (get_or masses i d) each found in (
      each (get_or masses i d) found,
      le_through (get_or masses i d).1 (sum_of (map (λ held. held.1) masses)) most one within,
    )

-- what a payoff is worth for the first of some masses
pub first_earned : (payoff : ℕ) (masses : LayoutMasses) (i : ℕ) → payoff ≤ HAND_SIZE → All (λ held. pos 0 ≤ℤ held.1) masses
    → sum_of (map (λ held. held.1) masses) ≤ℤ pos MOST_MASS
    → (pos 0 ≤ℤ sum_of (map (λ held. pos payoff *ℤ held.1) (take i masses)))
    × (sum_of (map (λ held. pos payoff *ℤ held.1) (take i masses)) ≤ℤ pos (HAND_SIZE * MOST_MASS))
first_earned payoff masses i few positive within =
    let each : (held : ℕ × ℤ) → Contains masses held → pos 0 ≤ℤ held.1 =
    λ held there. All-contains (λ (other : ℕ × ℤ). pos 0 ≤ℤ other.1) masses held positive there in
    let pays : ℕ × ℤ → ℤ = λ held. pos payoff *ℤ held.1 in
    let paid : (held : ℕ × ℤ) → Contains masses held → IsPaid held.1 (pays held) =
    λ held there. product_paid payoff held.1 few (each held there) in
    let whole = sum_paid pays (λ held. held.1) masses paid in
    let first = first_sums pays masses i (λ held there. (paid held there).some) in
    subst (λ (l : List ℤ). (pos 0 ≤ℤ sum_of l) × (sum_of l ≤ℤ pos (HAND_SIZE * MOST_MASS))) (take-map pays i masses) (
      first.0,
      bounded (sum_of (take i (map pays masses))) (sum_of (map pays masses)) (sum_of (map (λ held. held.1) masses))
          first.1 whole.few within,
    )
  where
    bounded : (a b mass : ℤ) → a ≤ℤ b → b ≤ℤ (pos HAND_SIZE *ℤ mass) → mass ≤ℤ pos MOST_MASS
        → a ≤ℤ pos (HAND_SIZE * MOST_MASS)
    bounded a b mass p q r = omega (arith, ints)

-- a number within these bounds fits
pub bounded_fits : (z : ℤ) → pos 0 ≤ℤ z → z ≤ℤ pos (HAND_SIZE * MOST_MASS) → SFits w128 z
bounded_fits (pos n) some most = record { sfits = small n (omega (arith, ints, most)) }
  where
    small : (n : ℕ) → n ≤ HAND_SIZE * MOST_MASS → n < 2 ^ 127
    small n within = omega (arith, within)
bounded_fits (negsuc n) some most = absurd (omega (arith, ints, some))
