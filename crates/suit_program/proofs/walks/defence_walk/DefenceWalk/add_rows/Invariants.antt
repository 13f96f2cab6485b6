use Rattle.suit_program.proofs.lemmas.Walks.DefenceByLayout.{AreAddedSoFar}
use Rattle.suit_program.proofs.walks.defence_walk.DefenceWalk.add_rows.Given as goal

abbrev pub invariant-loop-index : goal.invariant-loop-index
invariant-loop-index l =
    AreAddedSoFar l.self l.history l.masses l.shares l.index l.fn.lists.items l.lists.items
