use Rattle.std.proofs.Common.{◌≡◌, ℕ, ◌+◌, ◌-◌, ◌<◌, ◌++◌, get_or, length, take}
use Rattle.std.specs.Prelude.{ℤ}
use Rattle.suit_game.specs.declared.limits.TheConstants.{MOST_MOVES}
use Rattle.suit_program.specs.declared.walks.defence_reader.DefenceReader.{DefenceReader}
use Rattle.suit_program.specs.Walks.DefenceLists.{RowList}
use Rattle.suit_program.specs.Walks.DefenceWalks.{IsDefenceStop, turn_row}
use Rattle.suit_program.specs.Programs.{limits_at}
use Rattle.suit_program.specs.Walks.Reaches.{Reached}
use Rattle.suit_program.proofs.lemmas.Walks.WhatAWalkGathers.{gathered}
use Rattle.suit_program.proofs.walks.defence_walk.DefenceWalk.+below.Given as goal

abbrev pub decreases-below : goal.decreases-below
decreases-below l = MOST_MOVES - length l.history.now.items

abbrev pub invariant-loop-child : goal.invariant-loop-child
invariant-loop-child l = record {
  kept : l.history.items ≡ l.fn.history.items;
  many : length l.lists.items ≡ length l.fn.lists.items;
  after : Reached l.reach (λ question support told. l.after
      ≡ l.fn.row + length (gathered (limits_at question support) question support told
      (take l.child-index l.child-items)));
  rows : (index : ℕ) (reader : DefenceReader) (mass : ℤ) (list : RowList) → index < length l.self.readers.now
      → (stop : IsDefenceStop (get_or l.self.readers.now index reader) l.reach l.fn.history.items l.fn.row
      (get_or l.masses index mass))
      → (get_or l.lists.items index list).items ≡ (get_or l.fn.lists.items index list).items
      ++ gathered (turn_row stop.turn) stop.turn.question stop.turn.support stop.turn.history
      (take l.child-index l.child-items);
}
