use Rattle.std.proofs.Common.{◌≡◌, Ok, subst}
use Rattle.suit_cards.specs.Cards.{Text}
use Rattle.suit_text.specs.Strict.{pieces_of}
use Rattle.suit_answer.specs.Alone.{plan_alone_due, plan_read}
use Rattle.suit_answer.proofs.AloneTexts.{plan_taken}
use Rattle.suit_answer.proofs.alone.read_plan.Goals as goal

was_read : (c : goal.In-Ok) → plan_read c.args.question.now c.args.bytes.now ≡ Ok c.in-Ok.plan
was_read c = subst (λ (letters : Text). plan_alone_due letters (pieces_of c.args.bytes.now) ≡ Ok c.in-Ok.plan)
    c.of-letters.ensures.value c.in-Ok.ensures

pub returns-in-Ok-clause-written : goal.returns-in-Ok-clause-written
returns-in-Ok-clause-written c = (plan_taken c.args.question.now c.args.bytes.now c.in-Ok.plan (was_read c)).0

pub returns-in-Ok-clause-writable : goal.returns-in-Ok-clause-writable
returns-in-Ok-clause-writable c = (plan_taken c.args.question.now c.args.bytes.now c.in-Ok.plan (was_read c)).1
