use Rattle.std.proofs.Common.{◌≡◌, ◌∙◌, List, ℕ, ap, subst}
use Rattle.std.specs.List.{flat_map}
use Rattle.suit_answer.specs.Reading.{answer_read}
use Rattle.suit_answer.specs.Writing.{line_text, answer_lines, text_of}
use Rattle.suit_answer.proofs.WordsInARow.{wrote_lines}
use Rattle.suit_answer.proofs.TextBack.{text_back}
use Rattle.suit_answer.proofs.writing.answer_text.Goals as goal

pub returns : goal.returns
returns c =
    let question = c.args.question.now in
    let answer = c.args.answer.now in
    let written : c.extend_from_slice.new.self.items ≡ text_of question answer =
    subst
    (λ (letters : List ℕ). c.extend_from_slice.new.self.items ≡ flat_map line_text (answer_lines letters answer))
    c.of-letters.ensures.value
    (wrote_lines c.of-letters.result answer _ _ _ _ _ c.in_ok-text.ensures.items c.in_ok-write_value.ensures
    c.in_ok-write_plan.ensures c.in_ok-write_defence.ensures c.in_ok-extend_from_slice.ensures.items) in
    record { text = written; reads_back = ap (answer_read question) written ∙ text_back question answer c.requires }
