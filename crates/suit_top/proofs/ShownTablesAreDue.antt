-- What a table shows is what it may tell (`tabled_text`), and so is a judged question (`value_shown`, `end_shown`).
use Rattle.std.proofs.Common.{◌≡◌, inl, inr, ℕ, suc, List, [], ◌∷◌, Option, Some, Result, Ok, Err, refl}
use Rattle.std.proofs.Common.{sym, ap, ◌∙◌, subst}
use Rattle.std.specs.Prelude.{MatchOption, MatchResult}
use Rattle.suit_cards.specs.Cards.{Text}
use Rattle.suit_game.specs.declared.question.Question.{Question}
use Rattle.suit_game.specs.Validity.{IsValid}
use Rattle.suit_question.specs.declared.faults.QuestionFault.{QuestionFault}
use Rattle.suit_answer.specs.declared.answer.Answer.{Answer}
use Rattle.suit_solve.specs.declared.ends.SolveEnd.{SolveEnd}
use Rattle.suit_solve.specs.declared.ends.SolveEnd.TheVariants as ends
use Rattle.suit_solve.specs.Fates.{fate, IsEnd}
use Rattle.suit_table.specs.Fields.{question_named}
use Rattle.suit_table.specs.Outcomes.{fault_line, outcome_line}
use Rattle.suit_table.specs.Records.{Record, first_misfit, records_of}
use Rattle.suit_table.specs.Tables.{AreLines, IsTable}
use Rattle.suit_table.specs.declared.outcomes.Outcome.{Outcome}
use Rattle.suit_table.specs.declared.outcomes.Outcome.TheVariants.{Value, Nodes, Support, Pivots, Wide, Memory}
use Rattle.suit_top.specs.declared.status.Status.TheVariants.{Csv, Done}
use Rattle.suit_top.specs.Commands.Table.{due_of_records, due_tabling, Fits, IsCertifiedValue, IsTextTabled, outcome_of}
use Rattle.suit_top.specs.Commands.Table.{Shows}
use Rattle.suit_top.specs.Refusals.{misfit_line}
use Rattle.suit_top.proofs.ValidIsCertified.{met_certified}
use Rattle.suit_top.proofs.FatesAreCertified.{fate_met}

-- an outcome that is shown fits
shown_fits : (question : Question) (outcome : Outcome) → Shows question outcome → Fits question outcome
shown_fits question (Value value) shown = inl (sym (ap outcome_of shown.is_fate ∙ ap Value shown.value_is))
shown_fits question Nodes shown = inl shown
shown_fits question Support shown = inl shown
shown_fits question Pivots shown = inl shown
shown_fits question Wide shown = inl shown
shown_fits question Memory shown = inr refl

line_fits : (number : ℕ) (read : Result Question QuestionFault) (line : Text)
    → MatchResult read
    (λ question. (outcome : Outcome) × Shows question outcome × (line ≡ outcome_line number question outcome))
    (λ fault. line ≡ fault_line number fault.kind)
    → MatchResult read
    (λ question. (outcome : Outcome) × Fits question outcome × (line ≡ outcome_line number question outcome))
    (λ fault. line ≡ fault_line number fault.kind)
line_fits number (Ok question) line (outcome, shown, is) = (outcome, shown_fits question outcome shown, is)
line_fits number (Err fault) line is = is

-- so do the lines of records
lines_fit : (number : ℕ) (records : List Record) (text : Text) → AreLines Shows number records text
    → AreLines Fits number records text
unfolding AreLines
lines_fit number [] text is = is
lines_fit number (fields ∷ records) text (line, rest, first, more, is) = (
  line,
  rest,
  line_fits number (question_named number fields) line first,
  lines_fit (suc number) records rest more,
  is,
)

-- a text that shows a table may be written for it
pub tabled_text : (input text : Text) → IsTable Shows input text → IsTextTabled input text
tabled_text input text table =
    subst (λ (misfit : Option ℕ). MatchOption misfit (IsTable Fits input text) (λ at. text ≡ misfit_line at))
    (sym table.fit) (record { fit = table.fit; lines = lines_fit 1 (records_of input) text table.lines })

pub tabled_status : (input text : Text) → IsTable Shows input text → Done ≡ (due_tabling input).status
tabled_status input text table =
    sym (ap (λ (misfit : Option ℕ). (due_of_records (records_of input) misfit).status) table.fit)

-- and so may the line of the first record that does not fit
pub misfit_text : (input text : Text) (at : ℕ) → first_misfit (records_of input) ≡ Some at → text ≡ misfit_line at
    → IsTextTabled input text
misfit_text input text at is told =
    subst (λ (misfit : Option ℕ). MatchOption misfit (IsTable Fits input text) (λ at. text ≡ misfit_line at))
    (sym is) told

pub misfit_status : (input : Text) (at : ℕ) → first_misfit (records_of input) ≡ Some at
    → Csv ≡ (due_tabling input).status
misfit_status input at is =
    sym (ap (λ (misfit : Option ℕ). (due_of_records (records_of input) misfit).status) is)

-- the value of a question that was answered is shown
pub value_shown : (question : Question) (answer : Answer) → IsValid question → fate question ≡ Ok answer
    → IsCertifiedValue question answer.value
value_shown question answer valid is =
    record {
      valid = valid;
      answer = answer;
      is_fate = is;
      value_is = refl;
      certified = met_certified question answer valid (fate_met question answer valid is);
    }

-- and so is why one was not
pub end_shown : (question : Question) (end : SolveEnd) → IsEnd question end → Shows question (outcome_of (Err end))
end_shown question (ends.Nodes budget) is = sym (ap outcome_of is)
end_shown question (ends.Support round) is = sym (ap outcome_of is)
end_shown question (ends.Pivots round) is = sym (ap outcome_of is)
end_shown question (ends.Wide round) is = sym (ap outcome_of is)
end_shown question ends.Memory is = refl
