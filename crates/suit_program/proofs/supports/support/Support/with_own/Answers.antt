use Rattle.std.proofs.Common.{Bool, List, Some, ap, ◌∙◌}
use Rattle.std.specs.Prelude.{◌&&◌, ◌||◌}
use Rattle.std.proofs.lemmas.List.{take_all}
use Rattle.suit_classes.specs.ClassMoves.{ClassHistory, same_class_move}
use Rattle.suit_plans.specs.declared.moves.DeclarerMove.{DeclarerMove}
use Rattle.suit_plans.specs.Orders.{same_class_history}
use Rattle.suit_program.specs.Supports.Marks.{named_on}
use Rattle.suit_program.specs.Supports.{has_declarers}
use Rattle.suit_program.proofs.lemmas.Supports.WithMoreMoves.{none_more_yet, own_one_more}
use Rattle.suit_program.proofs.supports.support.Support.with_own.Goals as goal

pub loop-entry-init : goal.loop-entry-init
loop-entry-init c =
    λ history move. c.in_ok-mark.ensures.names history move
    ∙ none_more_yet (named_on (Some c.args.self.now.declarers) history move) history move

pub loop-entry-preserved : goal.loop-entry-preserved
loop-entry-preserved c =
    λ history move.
    c.in_ok-add.ensures.names history move
    ∙ ap (λ (moves : ClassHistory). named_on (Some c.loop-entry.mark) history move
    || (same_class_history moves history && same_class_move c.entry-item.result.mv move)) c.items.ensures
    ∙ ap (λ (b : Bool). b
    || (same_class_history c.entry-item.result.history history && same_class_move c.entry-item.result.mv move))
    (c.loop-entry.invariant history move)
    ∙ own_one_more (named_on (Some c.args.self.now.declarers) history move) c.args.own.now c.loop-entry.entry-index
    c.entry-item.result c.loop-entry-test.true c.entry-item.is history move

pub returns : goal.returns
returns c =
    λ history move.
    c.loop-entry.invariant history move
    ∙ ap (λ (l : List DeclarerMove). named_on (Some c.args.self.now.declarers) history move
    || has_declarers l history move) (take_all c.loop-entry.entry-index c.args.own.now c.loop-entry-test.false)
