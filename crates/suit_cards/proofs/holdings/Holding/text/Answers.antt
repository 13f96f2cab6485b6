use Rattle.std.proofs.Common.{arith}
use Rattle.std.proofs.lemmas.Grind.{common_steps}
use Rattle.suit_cards.proofs.HoldingTextReadsBack.{holding_read-text_of}
use Rattle.suit_cards.proofs.holdings.Holding.text.Goals as goal

pub returns-then-is_empty-clause-value : goal.returns-then-is_empty-clause-value
returns-then-is_empty-clause-value c = grind (arith, common_steps)

pub returns-then-is_empty-clause-reads_back : goal.returns-then-is_empty-clause-reads_back
returns-then-is_empty-clause-reads_back c =
    rw (returns-then-is_empty-clause-value c)
    (holding_read-text_of c.args.self c.is_empty.ensures.holding)

pub returns-clause-value : goal.returns-clause-value
returns-clause-value c = grind (arith, common_steps)

pub returns-clause-reads_back : goal.returns-clause-reads_back
returns-clause-reads_back c =
    rw (returns-clause-value c) (holding_read-text_of c.args.self c.ranks.ensures.holding)
