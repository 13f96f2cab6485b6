-- A node that stands for none (`no_node`): what is read past the end of nodes.
use Rattle.std.proofs.Common.{[], None}
use Rattle.suit_classes.specs.declared.class_turn.ClassTurn.TheVariants.{Lead}
use Rattle.suit_tree.specs.declared.node.Node.{Node, roll-Node}

abbrev pub no_node : Node
no_node = roll-Node (record {
  by = None;
  turn = Lead;
  payoff = 0;
  layouts = record { ref_ptr = (0, 0); now = [] };
  children = record { ref_ptr = (0, 0); now = [] };
})
