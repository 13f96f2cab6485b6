use Rattle.suit_program.specs.Walks.DefenceLists.{AreReaders}
use Rattle.suit_program.proofs.walks.defence_walk.readers_of.Given as goal

abbrev pub invariant-loop-index : goal.invariant-loop-index
invariant-loop-index l = AreReaders l.layouts l.prices l.index l.readers.items
