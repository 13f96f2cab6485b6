use Rattle.std.proofs.Common.{◌∙◌, List, length, sym, ap}
use Rattle.std.proofs.lemmas.List.{length-map}
use Rattle.suit_plans.specs.ReplyLaws.{counts_at}
use Rattle.suit_program.specs.Programs.{Answered, Limit}
use Rattle.suit_program.proofs.lemmas.Walks.HowManyAnswers.{answers_chosen, answers_none, index_listed}
use Rattle.suit_program.proofs.lemmas.Supports.AtAChoice.{their_place}
use Rattle.suit_program.proofs.walks.answer_rows.answers_in.Goals as goal

pub returns-then-chooses-clause-told : goal.returns-then-chooses-clause-told
returns-then-chooses-clause-told c = λ question support history is.
    let layout = c.args.layout.now in
    let listed = index_listed question support history c.args.reach.now is layout c.requires.listed in
    let chooses = sym (c.if-chooses.ensures question support history is listed) in
    let turn = (their_place question support (counts_at question layout.index) history chooses).0 in
    c.len.ensures.value
    ∙ sym (length-map c.answers.result.items (Answered (counts_at question layout.index) history))
    ∙ ap (λ (l : List Limit). length l) (sym (answers_chosen question support history layout.index
    c.answers.result.items
    chooses (c.answers.ensures question support history is c.requires.listed turn)))

pub returns-else-chooses-clause-told : goal.returns-else-chooses-clause-told
returns-else-chooses-clause-told c = λ question support history is.
    let layout = c.args.layout.now in
    let listed = index_listed question support history c.args.reach.now is layout c.requires.listed in
    ap (λ (l : List Limit). length l) (sym (answers_none question support history layout.index
    (sym (c.if-chooses.ensures question support history is listed))))
