use Rattle.std.proofs.Common.{sym, ◌∙◌}
use Rattle.suit_text.proofs.StrictLines.{line_fed, line_last}
use Rattle.suit_text.proofs.strict.first_line.Goals as goal

pub returns-in_err-at-clause-none : goal.returns-in_err-at-clause-none
returns-in_err-at-clause-none c =
    rw c.from_residual.ensures (line_last c.args.text.now (sym c.index_of.ensures ∙ c.in_err-at.was))

pub returns-clause-some : goal.returns-clause-some
returns-clause-some c =
    rw (c.split_at.ensures.front, c.split_at-2.ensures.back)
    (line_fed c.args.text.now c.in_ok-at.at (sym c.index_of.ensures ∙ c.in_ok-at.was))
