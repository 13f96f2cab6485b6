-- Each record so far has its outcome.
use Rattle.std.proofs.Common.{◌≡◌, ◌<◌, ℕ, length, get_or}
use Rattle.suit_table.specs.Summaries.{IsOutcome}
use Rattle.suit_table.specs.declared.judging.Told.{Told}
use Rattle.suit_table.specs.declared.outcomes.Outcome.{Outcome}
use Rattle.suit_table.proofs.summaries.outcomes_of.Given as goal

abbrev pub invariant-loop-one : goal.invariant-loop-one
invariant-loop-one l = record {
  long : length l.outcomes.items ≡ l.one-index;
  found : (index : ℕ) (one : Told) (outcome : Outcome) → index < l.one-index
      → IsOutcome (get_or l.told index one).finding (get_or l.outcomes.items index outcome);
}
