use Rattle.std.proofs.Common.{arith, rules, ◌≡◌, ◌∙◌, ap, length}
use Rattle.std.specs.Prelude.{drop, ◌+◌, FitsSigned, List, ℤ, ℕ}
use Rattle.suit_linear.specs.Points.{number_at}
use Rattle.std.specs.Int.{w128}
use Rattle.std.proofs.lemmas.Int.{to_z-of_z}
use Rattle.suit_linear.specs.Sparse.{dense}
use Rattle.suit_linear.specs.Pivots.{primitive}
use Rattle.suit_linear_fast.proofs.Readings.{optimum_read}
use Rattle.suit_linear_fast.proofs.reading.read_optimum.Goals as goal

pub returns : goal.returns
returns c = λ tableau state.
    let whole : c.in-Some-2.whole.items ≡ primitive c.args.objective.now =
    rw c.in-Some-2.is at c.in_ok-whole.ensures in
    let facts = rw c.in-Some.is at c.in_ok-point.ensures in
    let scale_fits : FitsSigned w128 c.number.result = search rules in
    let value_fits : FitsSigned w128 c.number-2.result = search rules in
    let start : c.in-Some-checked_add.start ≡ 2 + length c.args.program.now.costs =
    omega (arith, ap length c.items-columns.ensures, c.in-Some-checked_add.ensures) in
    let duals : c.of-2.result ≡ drop (2 + length c.args.program.now.costs) c.in-Some-2.whole.items =
    c.of-2.ensures ∙ c.in_ok-duals.ensures
    ∙ ap (λ (xs : List ℤ). drop c.in-Some-checked_add.start xs) c.deref.ensures.value
    ∙ ap (λ (n : ℕ). drop n c.in-Some-2.whole.items) start in
    simp to_z-of_z (optimum_read (dense c.args.program.now) c.args.lines.now c.args.objective.now tableau state
    (record { point = c.of.result; duals = c.of-2.result; scale = c.number.result; value = c.number-2.result })
    c.in-Some-2.whole.items (rw c.of.ensures (rw c.items-columns.ensures at facts.count))
    (rw c.of.ensures facts.values) whole duals
    (c.number.ensures ∙ ap (λ (xs : List ℤ). number_at xs 0) c.deref-2.ensures.value)
    (c.number-2.ensures ∙ ap (λ (xs : List ℤ). number_at xs 1) c.deref-3.ensures.value))
