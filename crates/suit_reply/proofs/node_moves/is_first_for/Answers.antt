use Rattle.std.proofs.Common.{◌∙◌, sym, ap, List}
use Rattle.suit_lists.proofs.Indices.{at_itself}
use Rattle.suit_lists.proofs.Walks.{kept_end, kept_on, kept_past}
use Rattle.suit_tree.specs.declared.node.Node.{Node}
use Rattle.suit_reply.specs.NodeMoves.{is_first_of}
use Rattle.suit_tree.specs.Nodes.{holds_index, move_of}
use Rattle.suit_classes.specs.ClassMoves.{same_class_move}
use Rattle.suit_reply.proofs.NodesAt.{no_node, node_at}
use Rattle.suit_reply.proofs.node_moves.is_first_for.Goals as goal

pub returns-then-holds : goal.returns-then-holds
returns-then-holds c =
    let nodes = c.args.nodes.now in
    let index = c.args.index in
    let at = c.loop-node.node-index in
    let child = node_at c.args.nodes.now c.loop-node.node-index in
    let found =
    kept_on (holds_index index) nodes at child c.loop-node-test.true
    (c.if-holds.ensures ∙ ap (holds_index index) (sym (at_itself c.args.nodes.now c.loop-node.node-index no_node))) in
    c.is_same.ensures ∙ ap (λ m. same_class_move m c.args.mv) (c.mv.ensures
    ∙ ap move_of (sym (at_itself c.args.nodes.now c.loop-node.node-index no_node)))
    ∙ ap (λ (l : List Node). is_first_of l c.args.mv) (sym found ∙ c.loop-node.invariant)

pub loop-node-preserved : goal.loop-node-preserved
loop-node-preserved c =
    sym (kept_past (holds_index c.args.index) c.args.nodes.now c.loop-node.node-index
    (node_at c.args.nodes.now c.loop-node.node-index)
    c.loop-node-test.true (c.if-holds.ensures
    ∙ ap (holds_index c.args.index) (sym (at_itself c.args.nodes.now c.loop-node.node-index no_node))))
    ∙ c.loop-node.invariant

pub returns : goal.returns
returns c =
    ap (λ (l : List Node). is_first_of l c.args.mv)
    (sym (kept_end (holds_index c.args.index) c.args.nodes.now c.loop-node.node-index c.loop-node-test.false)
    ∙ c.loop-node.invariant)
