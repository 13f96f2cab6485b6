use Rattle.std.proofs.Common.{◌≡◌, ◌≤◌, ◌*◌, take}
use Rattle.std.specs.Prelude.{sum_by}
use Rattle.suit_game.specs.declared.question.Question.{Question}
use Rattle.suit_classes.specs.ClassMoves.{ClassHistory}
use Rattle.suit_program.specs.Walks.Reaches.{IsReach}
use Rattle.suit_program.specs.Supports.{Support}
use Rattle.suit_program.proofs.lemmas.Walks.SizeFromHere.{size_in}
use Rattle.suit_program.proofs.programs.sizes.size_at.Given as goal

abbrev pub invariant-loop-layout : goal.invariant-loop-layout
invariant-loop-layout l = record {
  sum : (question : Question) (support : Support) (history : ClassHistory)
      → (is : IsReach question support history l.reach)
      → l.size ≡ sum_by (size_in question support history l.reach is) (take l.layout-index l.reach.layouts.items);
  few : l.size ≤ 41 * l.layout-index;
}
