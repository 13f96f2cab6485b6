-- The rows of plans and of defences, read from the words of their lines. The words are looked at from left to right,
-- once the line has its form.
use Rattle.std.specs.Prelude.{ℕ, ◌==◌, ◌&&◌, List, [], ◌∷◌, length, codes, Result, Ok, Err, if◌then◌else◌}
use Rattle.std.specs.Str.{bytes_eq}
use Rattle.suit_cards.specs.Cards.{Text, ClassLayout}
use Rattle.suit_game.specs.declared.limits.TheConstants.{HAND_SIZE}
use Rattle.suit_classes.specs.ClassMoves.{ClassHistory}
use Rattle.suit_plans.specs.Masses.{Shares}
use Rattle.suit_plans.specs.declared.plan.Row.{Row}
use Rattle.suit_plans.specs.declared.defence.DefenceRow.{DefenceRow}
use Rattle.suit_answer.specs.Forms.{is_turn, is_layout_turn}
use Rattle.suit_answer.specs.Letters.{move_due}
use Rattle.suit_answer.specs.Numbers.{number_due, small_due}
use Rattle.suit_answer.specs.Results.{◌>>=◌}
use Rattle.suit_answer.specs.declared.faults.AnswerFault.{AnswerFault}
use Rattle.suit_answer.specs.declared.faults.AnswerFault.TheVariants.{Line, Count}

-- the moves up to a colon, and the words after it
unfoldable pub history_due : Text → ℕ → List Text → Result (ClassHistory × List Text) AnswerFault
history_due letters line [] = Err (Line line)
history_due letters line (word ∷ words) =
    if bytes_eq word (codes ":") then Ok ([], words)
    else do
      move ← move_due letters line word
      more ← history_due letters line words
      Ok (move ∷ more.0, more.1)

-- moves, each with its count
unfoldable pub shares_due : Text → ℕ → List Text → Result Shares AnswerFault
shares_due letters line [] = Ok []
shares_due letters line (word ∷ []) = Err (Line line)
shares_due letters line (word ∷ number ∷ words) = do
  move ← move_due letters line word
  count ← number_due line number
  more ← shares_due letters line words
  Ok ((move, count) ∷ more)

-- the counts up to a word `at`, and the words after it
unfoldable pub counts_due : ℕ → List Text → Result (ClassLayout × List Text) AnswerFault
counts_due line [] = Err (Line line)
counts_due line (word ∷ words) =
    if bytes_eq word (codes "at") then Ok ([], words)
    else do
      count ← small_due HAND_SIZE line word
      more ← counts_due line words
      Ok (count ∷ more.0, more.1)

-- a row of a plan, from the words after `at`
unfoldable pub plan_turn_due : Text → ℕ → List Text → Result Row AnswerFault
plan_turn_due letters line words = do
  history ← history_due letters line words
  shares ← shares_due letters line history.1
  Ok (record { history = history.0; counts = shares })

-- a row that has a count for each class of the defenders
abbrev pub counted : ℕ → ℕ → DefenceRow → Result DefenceRow AnswerFault
counted classes line row = if length row.west == classes then Ok row else Err (Count line)

-- a row of a defence, from the words after `west`, which has as many counts as the defenders have classes
unfoldable pub defence_turn_due : Text → ℕ → ℕ → List Text → Result DefenceRow AnswerFault
defence_turn_due letters classes line words = do
  counts ← counts_due line words
  history ← history_due letters line counts.1
  shares ← shares_due letters line history.1
  counted classes line (record { west = counts.0; history = history.0; counts = shares })

-- a row of a plan
unfoldable pub plan_row_due : Text → ℕ → List Text → Result Row AnswerFault
plan_row_due letters line [] = Err (Line line)
plan_row_due letters line (word ∷ words) =
    if bytes_eq word (codes "at") && is_turn words then plan_turn_due letters line words else Err (Line line)

-- a row of a defence
unfoldable pub defence_row_due : Text → ℕ → ℕ → List Text → Result DefenceRow AnswerFault
defence_row_due letters classes line [] = Err (Line line)
defence_row_due letters classes line (word ∷ words) =
    if bytes_eq word (codes "west") && is_layout_turn words then defence_turn_due letters classes line words
    else Err (Line line)
