-- The lines so far; each step goes on to a longer history, and none has more than 52 moves.
use Rattle.std.proofs.Common.{◌≡◌, ◌-◌, ◌++◌, length, take}
use Rattle.std.specs.List.{flat_map}
use Rattle.suit_game.specs.declared.limits.TheConstants.{MOST_MOVES}
use Rattle.suit_lines.specs.Walks.{next_lines}
use Rattle.suit_lines.proofs.telling.Telling.+write_from.Given as goal

abbrev pub decreases-write_from : goal.decreases-write_from
decreases-write_from l = MOST_MOVES - length l.history.now.items

abbrev pub invariant-loop-mv : goal.invariant-loop-mv
invariant-loop-mv l = record {
  so_far : l.text.items ≡ l.initial.text.items
      ++ flat_map (next_lines l.self.question.now l.self.plan.now l.fn.history.items) (take l.mv-index l.mv-items);
  kept : l.history.items ≡ l.fn.history.items;
}
