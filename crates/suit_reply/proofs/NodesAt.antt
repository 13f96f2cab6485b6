-- node_at: the node that a walk over nodes stands at, where lists are read with a node for where they end.
use Rattle.std.proofs.Common.{ℕ, List, [], None, get_or}
use Rattle.suit_classes.specs.declared.class_turn.ClassTurn.TheVariants.{Lead}
use Rattle.suit_tree.specs.declared.node.Node.{Node, roll-Node}

-- a node that stands for none: what is read past the end
abbrev pub no_node : Node
no_node = roll-Node (record {
  by = None;
  turn = Lead;
  payoff = 0;
  layouts = record { ref_ptr = (0, 0); now = [] };
  children = record { ref_ptr = (0, 0); now = [] };
})

-- the node at an index
abbrev pub node_at : List Node → ℕ → Node
node_at nodes index = get_or nodes index no_node
