-- Each text so far has its question, which is valid.
use Rattle.std.proofs.Common.{◌≡◌, All, length}
use Rattle.suit_game.specs.Validity.{IsValid}
use Rattle.suit_base_tests.proofs.tables.asked.Given as goal

abbrev pub invariant-loop-text : goal.invariant-loop-text
invariant-loop-text l = record {
  long : length l.questions.items ≡ l.text-index;
  valid : All IsValid l.questions.items;
}
