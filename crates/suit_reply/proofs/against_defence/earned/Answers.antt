use Rattle.std.proofs.Common.{◌≡◌, ◌∙◌, ◌*ℤ◌, ◌+ℤ◌, ◌≤ℤ◌, ◌<◌, ◌+◌, ℕ, ℤ, get_or, length, map, take, sym, ap}
use Rattle.std.proofs.Common.{refl, pos, rules, subst, SFits}
use Rattle.std.specs.Int.{w128}
use Rattle.std.proofs.lemmas.Int.{to_z-of_z}
use Rattle.std.proofs.lemmas.List.{take_all}
use Rattle.suit_plans.specs.Properness.{sum_of}
use Rattle.suit_plans.specs.declared.plan.TheConstants.{MOST_MASS}
use Rattle.suit_reply.proofs.MostChildByChild.SumsStayBounded.{bounded_fits, first_earned, one_mass}
use Rattle.suit_reply.proofs.against_defence.earned.Goals as goal
use Rattle.suit_reply.specs.AgainstDefence.{LayoutMasses}
use Rattle.suit_reply.proofs.OneMoreAdded.{one_added}

pub loop-held-init : goal.loop-held-init
unfolding sum_of
loop-held-init c = refl

pub paid-worth-requires-clause-mass : goal.paid-worth-requires-clause-mass
paid-worth-requires-clause-mass c =
    let mass = (get_or c.args.masses.now c.loop-held.held-index (0, pos 0)).1 in
    let fits : SFits w128 mass = search rules in
    subst (λ (z : ℤ). (pos 0 ≤ℤ z) × (z ≤ℤ pos MOST_MASS)) (sym (to_z-of_z w128 mass fits))
    (one_mass c.args.masses.now c.loop-held.held-index (0, pos 0) (pos MOST_MASS) c.requires.positive c.requires.within
    c.loop-held-test.true)

added : (payoff : ℕ) (masses : LayoutMasses) (i : ℕ) (worth more : ℤ) → i < length masses
    → worth ≡ sum_of (map (λ held. pos payoff *ℤ held.1) (take i masses))
    → more ≡ pos payoff *ℤ (get_or masses i (0, pos 0)).1
    → worth +ℤ more ≡ sum_of (map (λ held. pos payoff *ℤ held.1) (take (i + 1) masses))
added payoff masses i worth more below so_far is =
    ap (λ (z : ℤ). z +ℤ more) so_far
    ∙ ap (λ (z : ℤ). sum_of (map (λ held. pos payoff *ℤ held.1) (take i masses)) +ℤ z) is
    ∙ sym (one_added (λ (held : ℕ × ℤ). pos payoff *ℤ held.1) masses i (0, pos 0) below)

pub overflow_add-worth : goal.overflow_add-worth
overflow_add-worth c =
    let masses = c.args.masses.now in
    let mass = (get_or masses c.loop-held.held-index (0, pos 0)).1 in
    let fits : SFits w128 mass = search rules in
    let result : SFits w128 c.paid-worth.result = search rules in
    let sum = added c.args.payoff masses c.loop-held.held-index _ _ c.loop-held-test.true c.loop-held.invariant
    (to_z-of_z w128 c.paid-worth.result result ∙ c.paid-worth.ensures
    ∙ ap (λ (z : ℤ). pos c.args.payoff *ℤ z) (to_z-of_z w128 mass fits)) in
    let bounds =
    first_earned c.args.payoff masses (c.loop-held.held-index + 1) c.requires.payoff c.requires.positive
    c.requires.within in
    subst (SFits w128) (sym sum) (bounded_fits _ bounds.0 bounds.1)

pub loop-held-preserved : goal.loop-held-preserved
loop-held-preserved c =
    let masses = c.args.masses.now in
    let mass = (get_or masses c.loop-held.held-index (0, pos 0)).1 in
    let fits : SFits w128 mass = search rules in
    let result : SFits w128 c.paid-worth.result = search rules in
    let sum = added c.args.payoff masses c.loop-held.held-index _ _ c.loop-held-test.true c.loop-held.invariant
    (to_z-of_z w128 c.paid-worth.result result ∙ c.paid-worth.ensures
    ∙ ap (λ (z : ℤ). pos c.args.payoff *ℤ z) (to_z-of_z w128 mass fits)) in
    let bounds =
    first_earned c.args.payoff masses (c.loop-held.held-index + 1) c.requires.payoff c.requires.positive
    c.requires.within in
    to_z-of_z w128 _ (subst (SFits w128) (sym sum) (bounded_fits _ bounds.0 bounds.1)) ∙ sum

pub returns : goal.returns
returns c =
    c.loop-held.invariant
    ∙ ap (λ (l : LayoutMasses). sum_of (map (λ held. pos c.args.payoff *ℤ held.1) l))
    (take_all c.loop-held.held-index c.args.masses.now c.loop-held-test.false)
