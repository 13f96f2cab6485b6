use Rattle.std.proofs.Common.{arith, rules, ◌≡◌}
use Rattle.std.specs.Prelude.{FitsSigned, ◌*ℤ◌, ◌-ℤ◌}
use Rattle.std.specs.Int.{w64}
use Rattle.std.proofs.lemmas.Int.{to_z-of_z}
use Rattle.suit_linear.specs.Points.{number_at}
use Rattle.suit_linear.specs.Multiples.{IsSmall}
use Rattle.suit_linear_fast.proofs.ObjectiveSteps.{none_combined, combined_more, combined_idle, all_combined}
use Rattle.suit_linear_fast.proofs.objective.clear_objective.Goals as goal

pub loop-index-init : goal.loop-index-init
loop-index-init c = none_combined _ _ _ _ c.requires.small

pub loop-index-preserved-then-is_idle : goal.loop-index-preserved-then-is_idle
loop-index-preserved-then-is_idle c =
    let own_fits : FitsSigned w64 c.args.factors.own = search rules in
    let number_fits : FitsSigned w64 (number_at c.loop-index.objective c.loop-index.index) = search rules in
    let taken_fits : FitsSigned w64 c.behind-taken.result = search rules in
    let stays : c.args.factors.own *ℤ number_at c.loop-index.objective c.loop-index.index
    -ℤ c.args.factors.times *ℤ c.behind-taken.result ≡ number_at c.loop-index.objective c.loop-index.index =
    simp to_z-of_z at (c.is_idle.ensures c.if-is_idle.true c.args.factors.times) in
    combined_idle c.args.factors.own c.args.factors.times c.args.objective.now c.args.leaver.now c.loop-index.index
    c.loop-index.objective c.behind-taken.result (omega arith) c.loop-index.invariant c.behind-taken.ensures stays

pub loop-index-preserved : goal.loop-index-preserved
loop-index-preserved c =
    let number_fits : FitsSigned w64 (number_at c.loop-index.objective c.loop-index.index) = search rules in
    let taken_fits : FitsSigned w64 c.behind-taken.result = search rules in
    let new_fits : FitsSigned w64 c.in-Some.number = search rules in
    let ensured = rw c.in-Some.is at c.small_difference.ensures in
    let value : c.in-Some.number ≡ c.args.factors.own *ℤ number_at c.loop-index.objective c.loop-index.index
    -ℤ c.args.factors.times *ℤ c.behind-taken.result = simp to_z-of_z at ensured.value in
    let small : IsSmall c.in-Some.number = ensured.small in
    simp to_z-of_z (combined_more c.args.factors.own c.args.factors.times c.args.objective.now c.args.leaver.now
    c.loop-index.index c.loop-index.objective c.in-Some.number c.behind-taken.result (omega arith)
    c.loop-index.invariant c.behind-taken.ensures value small)

pub returns-clause-value : goal.returns-clause-value
returns-clause-value c = λ t. all_combined _ _ c.args.objective.now c.args.leaver.now c.loop-index.index
    c.loop-index.objective (omega arith) c.requires.count c.loop-index.invariant
