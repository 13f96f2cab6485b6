-- Inputs that ask a question, and what is read behind it: the first fault of a text is told.
use Rattle.std.specs.Prelude.{◌≡◌, Result, Ok, Err, drop, take}
use Rattle.suit_cards.specs.Cards.{Text}
use Rattle.suit_game.specs.declared.question.Question.{Question}
use Rattle.suit_game.specs.Validity.{IsValid}
use Rattle.suit_question.specs.declared.faults.QuestionFault.{QuestionFault}
use Rattle.suit_question.specs.Reading.{end_index, question_read}
use Rattle.suit_answer.specs.declared.answer.Answer.{Answer}
use Rattle.suit_answer.specs.declared.faults.AnswerFault.{AnswerFault}
use Rattle.suit_answer.specs.Reading.{answer_read}
use Rattle.suit_top.specs.declared.status.Status.TheVariants.{Malformed, NotValid}
use Rattle.suit_top.specs.Dues.{Due}
use Rattle.suit_top.specs.Refusals.{answer_line, malformed_line}

-- the part of an input that asks the question, and what follows it
abbrev pub question_part : Text → Text
question_part input = take (end_index input) input

abbrev pub answer_part : Text → Text
answer_part input = drop (end_index input) input

-- what is due about a question that was read, or the line of its text's first fault
abbrev pub due_of_read : (Question → Due) → Result Question QuestionFault → Due
due_of_read about (Err fault) = record { status = Malformed; text = malformed_line fault }
due_of_read about (Ok question) = about question

-- what is due about an answer that was read, or the line of its text's first fault
abbrev pub due_of_answer_read : (Answer → Due) → Result Answer AnswerFault → Due
due_of_answer_read about (Err fault) = record { status = NotValid; text = answer_line fault }
due_of_answer_read about (Ok answer) = about answer

-- a text says this about the question that a text asks, which is valid
pub record SaysOfAsked (Says : Question → Text → Type 0) (asking text : Text) : Type 0 where
  pub question : Question
  pub asked : question_read asking ≡ Ok question
  pub valid : IsValid question
  pub says : Says question text

-- a text says this about the answer that the text behind a question tells
pub record SaysOfAnswer (Says : Answer → Text → Type 0) (question : Question) (rest text : Text) : Type 0 where
  pub answer : Answer
  pub read : answer_read question rest ≡ Ok answer
  pub says : Says answer text
