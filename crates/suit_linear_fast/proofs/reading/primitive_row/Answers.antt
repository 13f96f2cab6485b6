use Rattle.std.proofs.Common.{arith, rules, ◌≡◌, sym, ◌∙◌, true, length}
use Rattle.std.specs.Prelude.{pos, FitsSigned, int_lt, ◌<◌}
use Rattle.std.specs.Int.{w64}
use Rattle.std.proofs.lemmas.Int.{to_z-of_z}
use Rattle.suit_num.proofs.IntegerLaws.{int_lt-true}
use Rattle.suit_linear.specs.Points.{number_at}
use Rattle.suit_linear_fast.proofs.Readings.{content_some}
use Rattle.suit_linear_fast.proofs.reading.primitive_row.Goals as goal

pub make_primitive-requires-clause-some : goal.make_primitive-requires-clause-some
make_primitive-requires-clause-some c =
    let fits : FitsSigned w64 (number_at c.args.objective.now 0) = search rules in
    let some : int_lt (pos 0) (number_at c.args.objective.now 0) ≡ true =
    simp to_z-of_z at (sym c.is_positive.ensures ∙ c.if-not-is_positive.false) in
    let inside : 0 < length c.args.objective.now = omega (arith, c.if-objective-eq0.false) in
    rw (c.deref_mut.ensures.value, c.in_ok-whole.ensures)
    (content_some c.args.objective.now inside (int_lt-true (pos 0) (number_at c.args.objective.now 0) some))
