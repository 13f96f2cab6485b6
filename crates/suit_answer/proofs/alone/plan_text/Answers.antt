use Rattle.std.proofs.Common.{◌≡◌, ◌∙◌, ap, subst}
use Rattle.suit_cards.specs.Cards.{Text}
use Rattle.std.proofs.Common.{◌++◌, ◌∷◌, []}
use Rattle.std.specs.List.{flat_map}
use Rattle.suit_answer.specs.Alone.{plan_read, plan_text_of}
use Rattle.suit_answer.specs.Writing.{line_text, plan_lines, end_line}
use Rattle.suit_answer.proofs.AloneTexts.{wrote_alone, plan_back}
use Rattle.suit_answer.proofs.alone.plan_text.Goals as goal

pub returns : goal.returns
returns c =
    let question = c.args.question.now in
    let plan = c.args.plan.now in
    let written : c.extend_from_slice.new.self.items ≡ plan_text_of question plan =
    subst
    (λ (letters : Text). c.extend_from_slice.new.self.items ≡ flat_map line_text (plan_lines letters plan ++ end_line ∷ []))
    c.of.ensures.value
    (wrote_alone (plan_lines c.of.result plan) _ _ _ c.new-text.ensures.items c.in_ok-write_plan.ensures
    c.in_ok-extend_from_slice.ensures.items) in
    record { text = written; reads_back = ap (plan_read question) written ∙ plan_back question plan c.requires }
