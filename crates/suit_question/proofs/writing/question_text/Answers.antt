use Rattle.std.proofs.Common.{◌≡◌, ap, ◌∙◌, append_assoc}
use Rattle.suit_question.specs.Reading.{question_read}
use Rattle.suit_question.specs.Writing.{text_written}
use Rattle.suit_question.proofs.ReadBack.{read_back}
use Rattle.suit_question.proofs.writing.question_text.Goals as goal

pub returns-clause-reads_back : goal.returns-clause-reads_back
returns-clause-reads_back c valid =
    let written : c.into_bytes.result.items ≡ text_written c.args.question.now =
    rw (
      c.into_bytes.ensures.value,
      c.in_ok-write_goal.ensures,
      c.in_ok-write_places.ensures,
      c.in_ok-write_hands.ensures,
      c.new-text.ensures.bytes,
    ) (simp append_assoc) in
    ap question_read written ∙ read_back c.args.question.now valid
