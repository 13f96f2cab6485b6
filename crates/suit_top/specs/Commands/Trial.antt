-- `trial`: the questions of a made table, judged, and how many come to which outcome.
use Rattle.std.specs.Prelude.{List, Option, map, codes, Result, Ok, Err}
use Rattle.suit_cards.specs.Cards.{Text}
use Rattle.suit_game.specs.declared.question.Question.{Question}
use Rattle.suit_question.specs.declared.faults.QuestionKind.{QuestionKind}
use Rattle.suit_gen.specs.Deals.{deals_from}
use Rattle.suit_gen.specs.Naming.{question_named}
use Rattle.suit_gen.specs.Records.{fields_of}
use Rattle.suit_gen.specs.declared.deals.Deal.{Deal}
use Rattle.suit_table.specs.Summaries.{summary_line}
use Rattle.suit_table.specs.declared.outcomes.Outcome.{Outcome}
use Rattle.suit_table.specs.declared.outcomes.Outcome.TheVariants.{Memory}
use Rattle.suit_top.specs.declared.commands.made.MadeTable.{MadeTable}
use Rattle.suit_top.specs.Commands.Made.{table_named}
use Rattle.suit_top.specs.Commands.Table.{own_outcome}

-- the table that the words of the command name
abbrev pub tried_by_words : List Text → Option MadeTable
tried_by_words words = table_named (codes "trial") words

-- the outcome of the question that a record names; each record of a made table names one
abbrev pub outcome_named : Result Question QuestionKind → Outcome
outcome_named (Ok question) = own_outcome question
outcome_named (Err kind) = Memory

-- the outcomes of the questions of a made table
abbrev pub outcomes_of : List Deal → List Outcome
outcomes_of deals = map (λ deal. outcome_named (question_named (fields_of deal))) deals

-- the line of their counts
abbrev pub trial_text : MadeTable → Text
trial_text made = summary_line (outcomes_of (deals_from made.count made.number))
