use Rattle.suit_text.proofs.StrictLines.{word_cut}
use Rattle.suit_text.proofs.strict.first_word.Goals as goal

pub returns-clause-words : goal.returns-clause-words
returns-clause-words c =
    rw (c.split_at.ensures.front, c.split_at.ensures.back, c.unwrap_or-end.ensures, c.index_of.ensures)
    (word_cut c.args.line.now)
