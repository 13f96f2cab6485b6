-- `plan_taken`, `plan_back`, `defence_taken` and `defence_back`: of a plan or a defence alone, what is read is written
-- as the text that it was read from, and what is written is read back.
use Rattle.std.proofs.Common.{ℕ, ◌+◌, ◌≤◌, ◌≡◌, List, [], ◌∷◌, ◌++◌, length, codes, ℤ, Result, Ok, refl, sym, ap}
use Rattle.std.proofs.Common.{◌∙◌, subst}
use Rattle.std.specs.List.{AllByRecursion, flat_map}
use Rattle.std.proofs.lemmas.Grind.{flat_map-append}
use Rattle.suit_cards.specs.Cards.{Text}
use Rattle.suit_game.specs.declared.question.Question.{Question}
use Rattle.suit_classes.specs.Classes.{defence_classes, hands_of}
use Rattle.suit_plans.specs.declared.plan.Plan.{Plan}
use Rattle.suit_plans.specs.declared.defence.Defence.{Defence}
use Rattle.suit_text.specs.Strict.{pieces_of}
use Rattle.suit_answer.specs.Alone.{alone_due, made_plan, made_defence, plan_read, defence_read, plan_text_of}
use Rattle.suit_answer.specs.Alone.{defence_text_of}
use Rattle.suit_answer.specs.Letters.{class_letters}
use Rattle.suit_answer.specs.Reading.{part_due, end_due}
use Rattle.suit_answer.specs.Results.{◌>>=◌}
use Rattle.suit_answer.specs.Rows.{plan_row_due, defence_row_due}
use Rattle.suit_answer.specs.Writable.{IsWritableNumber, IsWritableRow, IsWritableDefenceRow}
use Rattle.suit_answer.specs.Writable.{IsWritablePlan, IsWritableDefence, IsWritablePlanFor, IsWritableDefenceFor}
use Rattle.suit_answer.specs.Writing.{line_text, plan_row_words, defence_row_words, part_lines, plan_lines}
use Rattle.suit_answer.specs.Writing.{defence_lines, end_line}
use Rattle.suit_answer.specs.declared.faults.AnswerFault.{AnswerFault}
use Rattle.suit_answer.specs.declared.parts.TheConstants.{MOST_ROWS}
use Rattle.suit_answer.proofs.RowWords.{plan_row_taken, defence_row_taken}
use Rattle.suit_answer.proofs.WordsInARow.{end_spelled}
use Rattle.suit_answer.proofs.Steps.{bind_ok, ok_is}
use Rattle.suit_answer.proofs.TextBack.{plan_part_back, defence_part_back, end_back}
use Rattle.suit_answer.proofs.TextTaken.{joined, joined_pieces, part_taken, end_taken, plan_is, defence_is}
use Rattle.suit_answer.proofs.TextTaken.{letters_each}

-- lines and the end after them
pub ended : (lines : List (List Text))
    → flat_map line_text (lines ++ end_line ∷ []) ≡ flat_map line_text lines ++ codes "end\n"
ended lines =
    flat_map-append line_text lines (end_line ∷ [])
    ∙ ap (λ (end : Text). flat_map line_text lines ++ end) end_spelled

-- lines and the end are written to an empty text
pub wrote_alone : (lines : List (List Text)) (start written text : Text) → start ≡ []
    → written ≡ start ++ flat_map line_text lines → text ≡ written ++ codes "end\n"
    → text ≡ flat_map line_text (lines ++ end_line ∷ [])
wrote_alone lines start written text none wrote end =
    end
    ∙ ap (λ (front : Text). front ++ codes "end\n")
    (wrote ∙ ap (λ (front : Text). front ++ flat_map line_text lines) none)
    ∙ sym (ended lines)

module _ {R P : Type 0} (keyword : Text) (row : ℕ → List Text → Result R AnswerFault) (made : ℤ → List R → P) where
  -- a part alone that is read, of rows that are written as their words
  module _ (row_words : R → List Text) (W : R → Type 0)
      (row_taken : (line : ℕ) (words : List Text) (r : R) → row line words ≡ Ok r → (words ≡ row_words r) × W r) where
    record AloneTaken (pieces : List Text) (part : P) : Type 0 where
      den : ℤ
      rows : List R
      is : made den rows ≡ part
      text : joined pieces ≡ flat_map line_text (part_lines keyword row_words den rows ++ end_line ∷ [])
      number : IsWritableNumber den
      few : length rows ≤ MOST_ROWS
      each : AllByRecursion W rows

    alone_taken : (pieces : List Text) (part : P) → alone_due keyword row made pieces ≡ Ok part
        → AloneTaken pieces part
    unfolding alone_due
    alone_taken pieces part h =
        let read = bind_ok (part_due keyword row 1 pieces) (λ read. (end_due read.2 read.3 >>= λ end.
        Ok (made read.0 read.1))) part h in
        let end = bind_ok (end_due read.0.2 read.0.3) (λ end. Ok (made read.0.0 read.0.1)) part read.2 in
        let taken = part_taken keyword row row_words W row_taken 1 pieces read.0 read.1 in
        let lines = part_lines keyword row_words read.0.0 read.0.1 in
        record {
          den = read.0.0;
          rows = read.0.1;
          is = ok_is (made read.0.0 read.0.1) part end.2;
          text = taken.text
              ∙ ap (λ (rest : Text). flat_map line_text lines ++ rest) (end_taken read.0.2 read.0.3 end.0 end.1)
              ∙ sym (ended lines);
          number = taken.den;
          few = taken.few;
          each = taken.rows;
        }

  -- a part alone whose lines are read back
  alone_back : (lines : List (List Text)) (den : ℤ) (rows : List R) (line : ℕ)
      → part_due keyword row 1 (pieces_of (flat_map line_text lines ++ codes "end\n"))
      ≡ Ok (den, rows, line, pieces_of (codes "end\n"))
      → alone_due keyword row made (pieces_of (flat_map line_text (lines ++ end_line ∷ []))) ≡ Ok (made den rows)
  unfolding alone_due
  alone_back lines den rows line read =
      ap (λ (text : Text). alone_due keyword row made (pieces_of text)) (ended lines)
      ∙ rw (read, end_back line) refl

pub plan_taken : (question : Question) (text : Text) (plan : Plan) → plan_read question text ≡ Ok plan
    → (text ≡ plan_text_of question plan) × IsWritablePlanFor question plan
plan_taken question text plan h =
    let letters = class_letters (hands_of question) in
    let taken = alone_taken (codes "plan") (plan_row_due letters) made_plan (plan_row_words letters)
    (IsWritableRow (length letters)) (plan_row_taken letters) (pieces_of text) plan h in
    subst (λ (p : Plan). (text ≡ plan_text_of question p) × IsWritablePlanFor question p) taken.is (
      sym (joined_pieces text) ∙ taken.text,
      subst (λ (n : ℕ). IsWritablePlan n (made_plan taken.den taken.rows)) (letters_each question)
          (plan_is (length letters) taken.den taken.rows taken.number taken.few taken.each),
    )

pub plan_back : (question : Question) (plan : Plan) → IsWritablePlanFor question plan
    → plan_read question (plan_text_of question plan) ≡ Ok plan
plan_back question plan h =
    let letters = class_letters (hands_of question) in
    alone_back (codes "plan") (plan_row_due letters) made_plan (plan_lines letters plan) plan.den plan.rows
    (2 + length plan.rows) (plan_part_back question plan 1 (codes "end\n") h)

pub defence_taken : (question : Question) (text : Text) (defence : Defence) → defence_read question text ≡ Ok defence
    → (text ≡ defence_text_of question defence) × IsWritableDefenceFor question defence
defence_taken question text defence h =
    let letters = class_letters (hands_of question) in
    let classes = length (defence_classes (hands_of question)) in
    let taken = alone_taken (codes "defence") (defence_row_due letters classes) made_defence
    (defence_row_words letters) (IsWritableDefenceRow (length letters) classes)
    (λ line. defence_row_taken letters line classes) (pieces_of text) defence h in
    subst (λ (d : Defence). (text ≡ defence_text_of question d) × IsWritableDefenceFor question d) taken.is (
      sym (joined_pieces text) ∙ taken.text,
      subst (λ (n : ℕ). IsWritableDefence n classes (made_defence taken.den taken.rows)) (letters_each question)
          (defence_is (length letters) classes taken.den taken.rows taken.number taken.few taken.each),
    )

pub defence_back : (question : Question) (defence : Defence) → IsWritableDefenceFor question defence
    → defence_read question (defence_text_of question defence) ≡ Ok defence
defence_back question defence h =
    let letters = class_letters (hands_of question) in
    let classes = length (defence_classes (hands_of question)) in
    alone_back (codes "defence") (defence_row_due letters classes) made_defence (defence_lines letters defence)
    defence.den defence.rows (2 + length defence.rows) (defence_part_back question defence 1 (codes "end\n") h)
