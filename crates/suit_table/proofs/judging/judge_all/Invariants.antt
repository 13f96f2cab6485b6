-- The records judged so far and those that are left are all of them.
use Rattle.std.proofs.Common.{◌≡◌, ◌++◌, List, All, IfOk, length}
use Rattle.suit_lists.proofs.Basics.{ArePlaced}
use Rattle.suit_game.specs.Validity.{IsValid}
use Rattle.suit_table.specs.Judging.{IsTold}
use Rattle.suit_table.specs.declared.judging.Entry.{Entry}
use Rattle.suit_table.proofs.judging.judge_all.Given as goal

abbrev pub invariant-loop-rest : goal.invariant-loop-rest
invariant-loop-rest g l = record {
  done : List Entry;
  all : done ++ l.rest ≡ l.entries;
  long : length l.told.items ≡ length done;
  told : ArePlaced (IsTold (g.J.Judge.fits l.judge)) done l.told.items;
  valid : All (λ entry. IfOk entry.read IsValid) l.rest;
}

abbrev pub decreases-loop-rest : goal.decreases-loop-rest
decreases-loop-rest g l = length l.rest
