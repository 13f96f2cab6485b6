use Rattle.std.proofs.Common.{◌==◌, pos, ◌-ℤ◌}
use Rattle.std.specs.Prelude.{if◌then◌else◌}
use Rattle.suit_program.specs.Walks.Ledgers.{Adds, Extends, given_in}
use Rattle.suit_program.proofs.walks.ledger.Ledger.pass.Given as goal

abbrev pub invariant-loop-index : goal.invariant-loop-index
invariant-loop-index l = record {
  extends : Extends l.fn.self l.self l.moves 1;
  adds : Adds l.fn.self l.self (λ given row. if l.fn.self.rows == row
      then given_in given l.fn.self.columns l.index -ℤ given l.mass else pos 0);
}
