use Rattle.std.proofs.Common.{sym, ◌∙◌}
use Rattle.suit_cards.proofs.ReadingSteps.{begins_ten, begins_one, begins_none}
use Rattle.suit_cards.proofs.holdings.first_rank.Goals as goal

pub returns-then-starts_with-clause-some : goal.returns-then-starts_with-clause-some
returns-then-starts_with-clause-some c =
    begins_ten c.args.text.now c.at.result c.at.ensures (sym c.starts_with.ensures.value ∙ c.if-starts_with.true)

pub returns-in_err-rank-clause-none : goal.returns-in_err-rank-clause-none
returns-in_err-rank-clause-none c =
    rw c.from_residual.ensures
    (begins_none c.args.text.now c.requires (sym c.starts_with.ensures.value ∙ c.if-starts_with.false)
    (sym c.of.ensures.value ∙ c.in_err-rank.was))

pub returns-clause-some : goal.returns-clause-some
returns-clause-some c =
    begins_one c.args.text.now c.in_ok-rank.rank c.requires (sym c.starts_with.ensures.value ∙ c.if-starts_with.false)
    (sym c.of.ensures.value ∙ c.in_ok-rank.was)
