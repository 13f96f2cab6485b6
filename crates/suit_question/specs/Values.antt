-- The values that the words of a question text stand for.
use Rattle.std.specs.Prelude.{ℕ, nat_le, ◌&&◌, codes, Result, Ok, Err, if◌then◌else◌}
use Rattle.std.specs.Option.{option_map_or}
use Rattle.suit_cards.specs.Cards.{Cards, Text}
use Rattle.suit_cards.specs.Reading.{holding_read}
use Rattle.suit_cards.specs.declared.holdings.CardFault.{CardFault}
use Rattle.suit_cards.specs.declared.holdings.CardFault.TheVariants.{NotRank, Twice as TwiceAt}
use Rattle.suit_game.specs.declared.limits.TheConstants.{HAND_SIZE}
use Rattle.suit_game.specs.declared.question.LeadAt.{LeadAt}
use Rattle.suit_game.specs.declared.question.LeadAt.TheVariants.{N, S, Either}
use Rattle.suit_game.specs.declared.question.Entries.{Entries}
use Rattle.suit_game.specs.declared.question.Entries.TheVariants.{Count, Free}
use Rattle.suit_game.specs.declared.question.Goal.{Goal}
use Rattle.suit_game.specs.declared.question.Goal.TheVariants.{AtLeast, Tricks}
use Rattle.suit_question.specs.Results.{found_as, told_as}
use Rattle.suit_question.specs.declared.faults.QuestionKind.{QuestionKind}
use Rattle.suit_question.specs.declared.faults.QuestionKind.TheVariants.{Word, Rank, Twice, Number, Range}
use Rattle.suit_question.specs.declared.values.TheConstants.{MOST_DIGITS}
use Rattle.suit_text.specs.Loose.{is_word, number_read}

-- a number is to be in its range
abbrev pub within : ℕ → ℕ → ℕ → Result ℕ QuestionKind
within least most number = if nat_le least number && nat_le number most then Ok number else Err Range

-- the number in a range that a word stands for
abbrev pub number_within : ℕ → ℕ → Text → Result ℕ QuestionKind
number_within least most text = option_map_or (within least most) (number_read MOST_DIGITS text) (Err Number)

-- a holding is at fault at its first bad byte
abbrev pub kind_of : CardFault → QuestionKind
kind_of (NotRank index) = Rank
kind_of (TwiceAt index) = Twice

-- the holding that a word stands for
abbrev pub holding_named : Text → Result Cards QuestionKind
holding_named text = told_as kind_of (holding_read text)

-- where the lead stands
abbrev pub lead_named : Text → Result LeadAt QuestionKind
lead_named text =
    if is_word (codes "n") text then Ok N
    else if is_word (codes "s") text then Ok S
    else if is_word (codes "either") text then Ok Either
    else Err Word

-- free entries, or a count of them
abbrev pub entries_named : Text → Result Entries QuestionKind
entries_named text = if is_word (codes "free") text then Ok Free else found_as Count (number_within 0 HAND_SIZE text)

-- as many tricks as can be, or so many at least
abbrev pub goal_named : Text → Result Goal QuestionKind
goal_named text = if is_word (codes "tricks") text then Ok Tricks else found_as AtLeast (number_within 0 HAND_SIZE text)
