use Rattle.std.proofs.Common.{pos}
use Rattle.std.proofs.lemmas.List.Elements.{Contains-get_or}
use Rattle.suit_program.specs.declared.walks.ledger.Account.{Account}
use Rattle.suit_program.proofs.lemmas.Walks.LedgerByPostings.{extends_more, extends_none, fit_after, paid_all}
use Rattle.suit_program.proofs.lemmas.Walks.LedgerByPostings.{paid_more, paid_none}
use Rattle.suit_program.proofs.walks.ledger.Ledger.pay.Goals as goal

abbrev nobody : Account
nobody = record { index = 0; row = 0; factor = pos 0 }

pub loop-account-init : goal.loop-account-init
loop-account-init c = record {
  extends = extends_none c.args.self.now;
  adds = paid_none c.args.self.now c.args.payoff c.args.mass;
}

pub credit-requires-clause-fit : goal.credit-requires-clause-fit
credit-requires-clause-fit c =
    fit_after c.args.self.now c.loop-account.self _ c.loop-account.invariant.extends
    (c.requires.fit _ (Contains-get_or c.args.accounts.now c.loop-account.account-index nobody
    c.loop-account-test.true))

pub loop-account-preserved : goal.loop-account-preserved
loop-account-preserved c = record {
  extends = extends_more c.args.self.now c.loop-account.self c.credit.new.self 0 0 c.loop-account.invariant.extends
      c.in_ok-credit.ensures.extends;
  adds = paid_more c.args.self.now c.loop-account.self c.credit.new.self c.args.payoff c.args.mass
      c.loop-account.account-index c.args.accounts.now nobody c.loop-account-test.true c.loop-account.invariant.adds
      c.in_ok-credit.ensures.adds;
}

pub returns-clause-adds : goal.returns-clause-adds
returns-clause-adds c =
    paid_all c.args.self.now c.loop-account.self c.args.payoff c.args.mass c.loop-account.account-index
    c.args.accounts.now c.loop-account-test.false c.loop-account.invariant.adds
