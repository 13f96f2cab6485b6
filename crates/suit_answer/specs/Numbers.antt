-- The numbers that are due in a line.
use Rattle.std.specs.Prelude.{ℕ, nat_le, Result, Ok, Err, if◌then◌else◌, ℤ, pos}
use Rattle.std.specs.Option.{ok_or, option_map}
use Rattle.suit_cards.specs.Cards.{Text}
use Rattle.suit_text.specs.Strict.{number_read}
use Rattle.suit_answer.specs.Results.{◌>>=◌}
use Rattle.suit_answer.specs.declared.faults.AnswerFault.{AnswerFault}
use Rattle.suit_answer.specs.declared.faults.AnswerFault.TheVariants.{Number}

-- the number that is due in a line of this number
unfoldable pub number_due : ℕ → Text → Result ℤ AnswerFault
number_due line text = ok_or (option_map (λ number. pos number) (number_read text)) (Number line)

-- a number that is due and may not be above the most
unfoldable pub small_due : ℕ → ℕ → Text → Result ℕ AnswerFault
small_due most line text =
    ok_or (number_read text) (Number line) >>= λ number. if nat_le number most then Ok number else Err (Number line)
