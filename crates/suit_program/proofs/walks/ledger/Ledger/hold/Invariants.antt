use Rattle.std.proofs.Common.{◌+ℤ◌}
use Rattle.suit_program.specs.Walks.Ledgers.{Adds, Extends, credit, in_each}
use Rattle.suit_program.proofs.walks.ledger.Ledger.hold.Given as goal

abbrev pub invariant-loop-index : goal.invariant-loop-index
invariant-loop-index l = record {
  extends : Extends l.fn.self l.self 1 l.moves;
  adds : Adds l.fn.self l.self (λ given row. credit row l.fn.account (given l.fn.self.columns)
      +ℤ in_each l.fn.self.rows l.index (given l.fn.self.columns) row);
}
