use Rattle.std.proofs.Common.{◌≡◌, ◌<ℤ◌, ◌≤ℤ◌, drop, pos}
use Rattle.suit_plans.specs.declared.plan.TheConstants.{MOST_DEN}
use Rattle.suit_program.specs.Readings.{parts_of}
use Rattle.suit_program.specs.Readings.Sharing.{common_of}
use Rattle.suit_program.proofs.lemmas.Readings.LeastCommonMultiple.{in_all}
use Rattle.suit_program.proofs.readings.denominators.common_den.Given as goal

abbrev pub invariant-loop-index : goal.invariant-loop-index
invariant-loop-index l = record {
  some : pos 0 <ℤ l.den;
  few : l.den ≤ℤ MOST_DEN;
  in_all : in_all l.den (drop l.index l.passed) (drop l.index l.parts) ≡ common_of l.passed (parts_of l.parts);
}
