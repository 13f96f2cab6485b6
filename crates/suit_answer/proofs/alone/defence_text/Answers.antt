use Rattle.std.proofs.Common.{◌≡◌, ◌∙◌, ap, subst}
use Rattle.suit_cards.specs.Cards.{Text}
use Rattle.std.proofs.Common.{◌++◌, ◌∷◌, []}
use Rattle.std.specs.List.{flat_map}
use Rattle.suit_answer.specs.Alone.{defence_read, defence_text_of}
use Rattle.suit_answer.specs.Writing.{line_text, defence_lines, end_line}
use Rattle.suit_answer.proofs.AloneTexts.{wrote_alone, defence_back}
use Rattle.suit_answer.proofs.alone.defence_text.Goals as goal

pub returns : goal.returns
returns c =
    let question = c.args.question.now in
    let defence = c.args.defence.now in
    let written : c.extend_from_slice.new.self.items ≡ defence_text_of question defence =
    subst
    (λ (letters : Text). c.extend_from_slice.new.self.items ≡ flat_map line_text (defence_lines letters defence ++ end_line ∷ []))
    c.of.ensures.value
    (wrote_alone (defence_lines c.of.result defence) _ _ _ c.new-text.ensures.items c.in_ok-write_defence.ensures
    c.in_ok-extend_from_slice.ensures.items) in
    record { text = written; reads_back = ap (defence_read question) written ∙ defence_back question defence c.requires }
