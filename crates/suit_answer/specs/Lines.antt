-- The lines that are due in a text, each of which ends with a line feed.
use Rattle.std.specs.Prelude.{ℕ, List, Result}
use Rattle.std.specs.Option.{ok_or}
use Rattle.suit_cards.specs.Cards.{Text}
use Rattle.suit_text.specs.Strict.{next_of}
use Rattle.suit_answer.specs.declared.faults.AnswerFault.{AnswerFault}
use Rattle.suit_answer.specs.declared.faults.AnswerFault.TheVariants.{Truncated}

-- the next line of some pieces, and the pieces after it; a line of this number that has not ended is cut off
abbrev pub line_due : ℕ → List Text → Result (Text × List Text) AnswerFault
line_due line pieces = ok_or (next_of pieces) (Truncated line)
