use Rattle.suit_program.specs.Walks.DefenceLists.{AreEmptyLists}
use Rattle.suit_program.proofs.walks.defence_walk.empty_lists.Given as goal

abbrev pub invariant-loop-index : goal.invariant-loop-index
invariant-loop-index l = AreEmptyLists l._index l.lists.items
