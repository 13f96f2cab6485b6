-- What `solve` writes behind its own question is valid to `check` (`solved_texts_are_valid`).
use Rattle.std.proofs.Common.{◌≡◌, ℕ, ◌≤◌, Bool, true, false, Ok, Err, ◌++◌, length, take, drop, refl, sym, ap, ◌∙◌}
use Rattle.std.proofs.Common.{subst, nat_lt}
use Rattle.std.specs.Prelude.{if◌then◌else◌}
use Rattle.std.proofs.lemmas.Bool.{le-ltb}
use Rattle.suit_cards.specs.Cards.{Text}
use Rattle.suit_game.specs.declared.question.Question.{Question}
use Rattle.suit_game.specs.Validity.{IsValid}
use Rattle.suit_question.specs.Reading.{end_index, question_read}
use Rattle.suit_tree.specs.WhatIsCounted.{node_count}
use Rattle.suit_answer.specs.declared.answer.Answer.{Answer}
use Rattle.suit_answer.specs.Reading.{answer_read}
use Rattle.suit_answer.specs.Writing.{text_of}
use Rattle.suit_answer.proofs.TextBack.{text_back}
use Rattle.suit_check.specs.Verdicts.{verdict_of}
use Rattle.suit_check.proofs.VerdictsMet.{valid_is_met}
use Rattle.suit_solve.specs.declared.ends.SolveEnd.TheVariants as ends
use Rattle.suit_solve.specs.Fates.{fate, fate_in_rounds}
use Rattle.suit_solve.proofs.FatesTold.{answers_are_writable}
use Rattle.suit_top.specs.declared.commands.TheConstants.{MOST_INPUT}
use Rattle.suit_top.specs.declared.status.Status.TheVariants.{Nodes}
use Rattle.suit_top.specs.declared.commands.on_answer.AnswerCommand.TheVariants.{Check}
use Rattle.suit_top.specs.Asking.{due_of_answer_read, due_of_read}
use Rattle.suit_top.specs.Commands.Check.{due_checking, due_found, valid_text}
use Rattle.suit_top.specs.Commands.OnAnswer.{due_with_answer}
use Rattle.suit_top.specs.Dues.{Due, done}
use Rattle.suit_top.specs.Refusals.{nodes_line}
use Rattle.suit_top.specs.WhatSolveWritesIsValid.{SolvedTextsAreValid}
use Rattle.suit_top.proofs.QuestionsEndAlike.{asked_end, drop_first, take_first}
use Rattle.suit_top.proofs.FatesAreCertified.{fate_met}

-- what is due for an input that is not too long
within : (limit : ℕ) (input : Text) (due : Due) (long : Due) → length input ≤ limit
    → (if nat_lt limit (length input) then long else due) ≡ due
within limit input due long fits =
    ap (λ (b : Bool). if b then long else due) (le-ltb limit (length input) fits)

-- a question that has an answer is within its budget
within_budget : (question : Question) (answer : Answer) → fate question ≡ Ok answer
    → nat_lt question.nodes (node_count question) ≡ false
unfolding fate
within_budget question answer is = by_count (nat_lt question.nodes (node_count question)) is
  where
    by_count : (b : Bool) → (if b then Err (ends.Nodes question.nodes) else fate_in_rounds question) ≡ Ok answer
        → b ≡ false
    by_count true e = absurd (cc)
    by_count false e = refl

-- the answer is found to be valid
answer_valid : (question : Question) (answer : Answer) → IsValid question → fate question ≡ Ok answer
    → due_checking question answer ≡ done valid_text
answer_valid question answer valid is =
    ap (λ (b : Bool). if b then record { status = Nodes; text = nodes_line question.nodes }
    else due_found (verdict_of question answer)) (within_budget question answer is)
    ∙ ap due_found ((valid_is_met question answer valid).1 (fate_met question answer valid is))

-- what is due about an answer text that is written of it
checked_valid : (question : Question) (text : Text) (answer : Answer) → IsValid question → fate question ≡ Ok answer
    → text ≡ text_of question answer → due_with_answer Check text question ≡ done valid_text
checked_valid question text answer valid is written =
    ap (λ (l : Text). due_of_answer_read (due_checking question) (answer_read question l)) written
    ∙ ap (due_of_answer_read (due_checking question))
    (text_back question answer (answers_are_writable question answer valid is))
    ∙ answer_valid question answer valid is

-- what is due of a question and what follows it
parts_valid : (input text : Text) (question : Question) (end : ℕ) → end ≡ length input
    → question_read input ≡ Ok question → due_with_answer Check text question ≡ done valid_text
    → due_of_read (due_with_answer Check (drop end (input ++ text))) (question_read (take end (input ++ text)))
    ≡ done valid_text
parts_valid input text question end is read due =
    ap (λ (n : ℕ). due_of_read (due_with_answer Check (drop n (input ++ text)))
    (question_read (take n (input ++ text)))) is
    ∙ ap (λ (l : Text). due_of_read (due_with_answer Check (drop (length input) (input ++ text)))
    (question_read l)) (take_first input text)
    ∙ ap (λ (l : Text). due_of_read (due_with_answer Check l) (question_read input)) (drop_first input text)
    ∙ ap (due_of_read (due_with_answer Check text)) read
    ∙ due

pub solved_texts_are_valid : SolvedTextsAreValid
solved_texts_are_valid input text ends says fits =
    let end : end_index (input ++ text) ≡ length input =
    subst (λ (l : Text). end_index (l ++ text) ≡ end_index l) (sym ends.fed)
    (asked_end ends.front text says.question
    (subst (λ (l : Text). question_read l ≡ Ok says.question) ends.fed says.asked)) ∙ ends.whole in
    within MOST_INPUT (input ++ text) _ _ fits
    ∙ parts_valid input text says.question (end_index (input ++ text)) end says.asked
    (checked_valid says.question text says.says.answer says.valid says.says.is_fate says.says.is_text)
