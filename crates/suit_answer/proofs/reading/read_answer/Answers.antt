use Rattle.std.proofs.Common.{◌≡◌, Ok, length, ap, sym, ◌∙◌}
use Rattle.suit_classes.specs.Classes.{Hands, defence_classes, hands_of}
use Rattle.suit_text.specs.Strict.{pieces_of}
use Rattle.suit_answer.specs.Reading.{answer_due, answer_read}
use Rattle.suit_answer.proofs.TextTaken.{text_taken}
use Rattle.suit_answer.proofs.reading.read_answer.Goals as goal

was_read : (c : goal.In-Ok) → answer_read c.args.question.now c.args.bytes.now ≡ Ok c.in-Ok.answer
was_read c =
    let classes : c.len.result ≡ length (defence_classes (hands_of c.args.question.now)) =
    c.len.ensures.value ∙ ap length c.defence-classes.ensures.value
    ∙ ap (λ (hands : Hands). length (defence_classes hands)) c.of.ensures in
    (λ i. answer_due (sym c.of-letters.ensures.value i) (sym classes i) (pieces_of c.args.bytes.now))
    ∙ c.in-Ok.ensures

pub returns-in-Ok-clause-written : goal.returns-in-Ok-clause-written
returns-in-Ok-clause-written c =
    (text_taken c.args.question.now c.args.bytes.now c.in-Ok.answer (was_read c)).0

pub returns-in-Ok-clause-writable : goal.returns-in-Ok-clause-writable
returns-in-Ok-clause-writable c =
    (text_taken c.args.question.now c.args.bytes.now c.in-Ok.answer (was_read c)).1
