use Rattle.std.proofs.Common.{ap, sym, ◌∙◌}
use Rattle.suit_classes.specs.ClassMoves.{same_class_move}
use Rattle.suit_program.proofs.lemmas.Supports.WithMoreMoves.{by_found, by_none, by_passed}
use Rattle.suit_program.proofs.lemmas.Walks.NoNode.{no_node}
use Rattle.suit_program.proofs.supports.node_moves.children_by.Goals as goal

pub returns-then-is_same : goal.returns-then-is_same
returns-then-is_same c =
    c.children.ensures
    ∙ sym (by_found c.args.nodes.now c.loop-node.node-index no_node c.args.mv c.loop-node-test.true
    (sym (ap (λ m. same_class_move m c.args.mv) c.mv.ensures) ∙ sym c.is_same.ensures ∙ c.if-is_same.true))
    ∙ c.loop-node.invariant

pub loop-node-preserved : goal.loop-node-preserved
loop-node-preserved c =
    sym (by_passed c.args.nodes.now c.loop-node.node-index no_node c.args.mv c.loop-node-test.true
    (sym (ap (λ m. same_class_move m c.args.mv) c.mv.ensures) ∙ sym c.is_same.ensures ∙ c.if-is_same.false))
    ∙ c.loop-node.invariant

pub returns : goal.returns
returns c =
    sym (by_none c.args.nodes.now c.loop-node.node-index c.args.mv c.loop-node-test.false) ∙ c.loop-node.invariant
