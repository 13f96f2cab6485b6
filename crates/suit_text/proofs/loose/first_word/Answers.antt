use Rattle.std.proofs.Common.{sym, ◌∙◌}
use Rattle.suit_text.specs.Loose.{is_blank}
use Rattle.suit_text.proofs.FirstPlaces.{first_or_length}
use Rattle.suit_text.proofs.LooseWords.{blank_line, first_word_cut}
use Rattle.suit_text.proofs.loose.first_word.Goals as goal

pub returns-clause-some : goal.returns-clause-some
returns-clause-some c =
    rw (
      c.split_at-2.ensures.front,
      c.split_at-2.ensures.back,
      c.unwrap_or-end.ensures,
      c.blank_index.ensures,
      first_or_length is_blank c.split_at.result.1.now,
      c.split_at.ensures.back,
    )
    (first_word_cut c.args.line.now c.in_ok-start.start (sym c.word_index.ensures ∙ c.in_ok-start.was))

pub returns-in_err-start-clause-none : goal.returns-in_err-start-clause-none
returns-in_err-start-clause-none c =
    rw c.from_residual.ensures (blank_line c.args.line.now (sym c.word_index.ensures ∙ c.in_err-start.was))
