use Rattle.std.proofs.Common.{◌∙◌, sym, ap, List, map}
use Rattle.suit_lists.proofs.Walks.{kept_end, kept_on, kept_past}
use Rattle.suit_classes.specs.ClassMoves.{same_class_move}
use Rattle.suit_plans.specs.Masses.{is_first}
use Rattle.suit_tree.specs.Nodes.{holds_index, move_of}
use Rattle.suit_tree.specs.declared.node.Node.{Node}
use Rattle.suit_program.proofs.lemmas.Walks.NoNode.{no_node}
use Rattle.suit_program.proofs.supports.node_moves.is_first_for.Goals as goal

pub returns-then-holds : goal.returns-then-holds
returns-then-holds c =
    let nodes = c.args.nodes.now in
    let index = c.args.index in
    let found = kept_on (holds_index index) nodes c.loop-node.node-index no_node c.loop-node-test.true
    c.if-holds.ensures in
    c.is_same.ensures ∙ ap (λ m. same_class_move m c.args.mv) c.mv.ensures
    ∙ ap (λ (l : List Node). is_first (map move_of l) c.args.mv) (sym found ∙ c.loop-node.invariant)

pub loop-node-preserved : goal.loop-node-preserved
loop-node-preserved c =
    sym (kept_past (holds_index c.args.index) c.args.nodes.now c.loop-node.node-index no_node c.loop-node-test.true
    c.if-holds.ensures)
    ∙ c.loop-node.invariant

pub returns : goal.returns
returns c =
    ap (λ (l : List Node). is_first (map move_of l) c.args.mv)
    (sym (kept_end (holds_index c.args.index) c.args.nodes.now c.loop-node.node-index c.loop-node-test.false)
    ∙ c.loop-node.invariant)
