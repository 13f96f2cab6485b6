use Rattle.std.proofs.Common.{take, map, pos, ◌*ℤ◌}
use Rattle.suit_plans.specs.Properness.{sum_of}
use Rattle.suit_program.specs.declared.walks.ledger.Account.{Account}
use Rattle.suit_program.specs.Walks.Ledgers.{Adds, Extends, credit}
use Rattle.suit_program.proofs.walks.ledger.Ledger.pay.Given as goal

abbrev pub invariant-loop-account : goal.invariant-loop-account
invariant-loop-account l = record {
  extends : Extends l.fn.self l.self 0 0;
  adds : Adds l.fn.self l.self (λ given row. sum_of (map (λ (account : Account).
      credit row account (pos l.payoff *ℤ given l.mass)) (take l.account-index l.accounts)));
}
