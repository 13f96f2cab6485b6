-- `check`: whether the answer that follows a question shows its value.
use Rattle.std.specs.Prelude.{◌≡◌, Bool, List, codes, nat_lt, if◌then◌else◌}
use Rattle.suit_cards.specs.Cards.{Text}
use Rattle.suit_game.specs.declared.question.Question.{Question}
use Rattle.suit_tree.specs.WhatIsCounted.{node_count}
use Rattle.suit_answer.specs.declared.answer.Answer.{Answer}
use Rattle.suit_check.specs.Verdicts.{Finding, Valid, Plan, Defence, Least, Most, verdict_of}
use Rattle.suit_top.specs.declared.status.Status.TheVariants.{NotValid, Nodes}
use Rattle.suit_top.specs.Certified.{IsCertifiedAnswer}
use Rattle.suit_top.specs.Dues.{Due, done}
use Rattle.suit_top.specs.Refusals.{defence_line, least_line, most_line, nodes_line, plan_line}
use Rattle.suit_top.specs.Words.{is_only}

-- the words of the command
abbrev pub is_check : List Text → Bool
is_check words = is_only (codes "check") words

-- the text of a valid answer
abbrev pub valid_text : Text
valid_text = codes "valid\n"

-- what is due where this is found of an answer
abbrev pub due_found : Finding → Due
due_found Valid = done valid_text
due_found (Plan fault) = record { status = NotValid; text = plan_line fault }
due_found (Defence fault) = record { status = NotValid; text = defence_line fault }
due_found (Least found) = record { status = NotValid; text = least_line found }
due_found (Most found) = record { status = NotValid; text = most_line found }

-- what is due about an answer: the question's budget is told before what is found of it
abbrev pub due_checking : Question → Answer → Due
due_checking question answer =
    if nat_lt question.nodes (node_count question)
    then record { status = Nodes; text = nodes_line question.nodes }
    else due_found (verdict_of question answer)

-- an answer is certified, and the text written says so
pub record Checks (question : Question) (answer : Answer) (text : Text) : Type 0 where
  pub certified : IsCertifiedAnswer question answer
  pub is_text : text ≡ valid_text
