-- `solve`: the value of a question, with a plan and a defence that show it.
use Rattle.std.specs.Prelude.{◌≡◌, Bool, List, Ok, Err, codes}
use Rattle.suit_cards.specs.Cards.{Text}
use Rattle.suit_game.specs.declared.question.Question.{Question}
use Rattle.suit_answer.specs.declared.answer.Answer.{Answer}
use Rattle.suit_answer.specs.Writing.{text_of}
use Rattle.suit_solve.specs.declared.ends.SolveEnd.TheVariants as ends
use Rattle.suit_solve.specs.Fates.{Fate, fate}
use Rattle.suit_top.specs.declared.status.Status.TheVariants.{Memory, Nodes, Pivots, Support, Wide}
use Rattle.suit_top.specs.Certified.{IsCertifiedAnswer}
use Rattle.suit_top.specs.Dues.{Due, done, silent}
use Rattle.suit_top.specs.Refusals.{nodes_line, pivots_line, size_line, width_line}
use Rattle.suit_top.specs.Words.{is_only}

-- the words of the command
abbrev pub is_solve : List Text → Bool
is_solve words = is_only (codes "solve") words

-- what is due about a question that has this fate; want of memory is none
abbrev pub due_of_fate : Question → Fate → Due
due_of_fate question (Ok answer) = done (text_of question answer)
due_of_fate question (Err (ends.Nodes budget)) = record { status = Nodes; text = nodes_line budget }
due_of_fate question (Err (ends.Support round)) = record { status = Support; text = size_line round }
due_of_fate question (Err (ends.Pivots round)) = record { status = Pivots; text = pivots_line question.pivots round }
due_of_fate question (Err (ends.Wide round)) = record { status = Wide; text = width_line round }
due_of_fate question (Err ends.Memory) = silent Memory

-- what is due about a question
abbrev pub due_solving : Question → Due
due_solving question = due_of_fate question (fate question)

-- a text answers a question: it is that of an answer, which is the question's fate and is certified
pub record Answers (question : Question) (text : Text) : Type 0 where
  pub answer : Answer
  pub is_fate : fate question ≡ Ok answer
  pub certified : IsCertifiedAnswer question answer
  pub is_text : text ≡ text_of question answer
