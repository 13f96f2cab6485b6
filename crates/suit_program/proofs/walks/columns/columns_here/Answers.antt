use Rattle.std.proofs.Common.{◌∙◌, sym, ap, List, length}
use Rattle.suit_classes.specs.declared.class_moves.ClassMove.{ClassMove}
use Rattle.suit_program.proofs.lemmas.Supports.AtAChoice.{own_place}
use Rattle.suit_program.proofs.lemmas.Walks.HowManyColumns.{held_count, own_count}
use Rattle.suit_program.proofs.walks.columns.columns_here.Goals as goal

pub returns-then-declarer_chooses : goal.returns-then-declarer_chooses
returns-then-declarer_chooses c = λ question support history is.
    let chooses = sym (c.if-declarer_chooses.ensures question support history is) in
    c.len.ensures.value
    ∙ ap (λ (l : List ClassMove). length l) (c.own_moves.ensures question support history is
    (own_place question support history chooses).0)
    ∙ own_count question support history chooses

pub returns-else-declarer_chooses : goal.returns-else-declarer_chooses
returns-else-declarer_chooses c = λ question support history is.
    c.held_columns.ensures question support history is
    ∙ held_count question support history (sym (c.if-declarer_chooses.ensures question support history is))
