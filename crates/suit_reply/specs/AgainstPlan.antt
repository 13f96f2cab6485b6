-- The defence's best reply to a plan, told by the nodes of a tree.
-- What is said of nodes here serves the contracts of private functions alone. The two calls of the crate answer the
-- best replies of a question, which suit_plans defines over class histories; proofs/ ties the one to the other.
use Rattle.std.specs.Prelude.{◌≡◌, ℕ, zero, suc, ◌-◌, Bool, true, List, [], ◌∷◌, ◌++◌, Contains, filter, length}
use Rattle.std.specs.Prelude.{map, if◌then◌else◌, ℤ, pos, ◌*ℤ◌, ◌≤ℤ◌}
use Rattle.std.specs.Ordering.{int_eq}
use Rattle.suit_game.specs.declared.question.Question.{Question}
use Rattle.suit_game.specs.Validity.{IsValid}
use Rattle.suit_game.specs.declared.limits.TheConstants.{MOST_MOVES}
use Rattle.suit_classes.specs.declared.class_moves.ClassMove.{ClassMove}
use Rattle.suit_classes.specs.declared.class_turn.ClassTurn.{ClassTurn}
use Rattle.suit_classes.specs.declared.class_turn.ClassTurn.TheVariants as turns
use Rattle.suit_classes.specs.ClassMoves.{ClassHistory}
use Rattle.suit_plans.specs.declared.plan.Plan.{Plan}
use Rattle.suit_plans.specs.declared.plan.Row.{Row}
use Rattle.suit_plans.specs.Masses.{plan_shares_at, plan_mass, share}
use Rattle.suit_plans.specs.Properness.{IsProperPlan}
use Rattle.suit_tree.specs.declared.node.Node.{Node}
use Rattle.suit_tree.specs.declared.tree.Tree.{Tree}
use Rattle.suit_tree.specs.Nodes.{children_of, holds_index, move_of, payoff_at, turn_at}
use Rattle.suit_tree.specs.Trees.{IsTreeAt, IsTreeOf, allowing}
use Rattle.suit_reply.specs.declared.turn_rule.TurnRule.TheVariants.{Sum, Least}
use Rattle.suit_reply.specs.NodeMoves.{is_first_of}
use Rattle.suit_reply.specs.NodeReplies.{NodeReplyView, nothing}
use Rattle.suit_reply.specs.Turns.{finished, gathered}
use Rattle.suit_plans.specs.declared.plan.TheConstants.{MOST_DEN}

-- ---- what is asked

-- a tree is that of a question, for which a plan is proper
pub record IsPlanFor (tree : Tree) (plan : Plan) : Type 0 where
  pub question : Question
  pub valid : IsValid question
  pub grown : IsTreeOf question tree
  pub proper : IsProperPlan question plan

-- a node stands at a class history of a question, which the class layout with the index allows; the rows are those of a
-- proper plan, and the mass is what they let through
pub record LeastNode (rows : List Row) (index : ℕ) (history : ClassHistory) (mass : ℤ) (node : Node) : Type 0 where
  pub question : Question
  pub plan : Plan
  pub valid : IsValid question
  pub proper : IsProperPlan question plan
  pub is_rows : plan.rows ≡ rows
  pub held : Contains (allowing question history) index
  pub tree : IsTreeAt (MOST_MOVES - length history) question history node
  pub is_mass : mass ≡ plan_mass question plan history
  pub within : mass ≤ℤ MOST_DEN

-- ---- what is found

-- whether play goes on to a node, in the class layout with an index: where the defence is on turn, by whether this
-- layout can make the move
abbrev pub goes_to : ClassTurn → ℕ → Node → Bool
goes_to (turns.Defence seat) index node = holds_index index node
goes_to turns.Lead index node = true
goes_to (turns.Declarer seat) index node = true
goes_to turns.Decided index node = true

-- the nodes to which it goes on
abbrev pub nodes_for : ClassTurn → ℕ → List Node → List Node
nodes_for (turns.Defence seat) index nodes = filter (holds_index index) nodes
nodes_for turns.Lead index nodes = nodes
nodes_for (turns.Declarer seat) index nodes = nodes
nodes_for turns.Decided index nodes = nodes

-- what a plan's mass becomes with a move at a turn
abbrev pub plan_share : ClassTurn → List Row → List Node → ClassHistory → ℤ → ClassMove → ℤ
plan_share (turns.Defence seat) rows nodes history mass move = mass
plan_share turns.Lead rows nodes history mass move =
    share (plan_shares_at rows history) (is_first_of nodes move) mass move
plan_share (turns.Declarer seat) rows nodes history mass move =
    share (plan_shares_at rows history) (is_first_of nodes move) mass move
plan_share turns.Decided rows nodes history mass move = mass

-- what is found at a node where the plan's mass is given, with what is found below it in the class layout
abbrev pub least_at : ClassTurn → ℕ → ℤ → ClassHistory → List (ClassMove × NodeReplyView) → NodeReplyView
least_at (turns.Defence seat) payoff mass history results = finished Least history (gathered Least results)
least_at turns.Lead payoff mass history results = finished Sum history (gathered Sum results)
least_at (turns.Declarer seat) payoff mass history results = finished Sum history (gathered Sum results)
least_at turns.Decided payoff mass history results = record { worth = pos payoff *ℤ mass; choices = [] }

-- the defence's best reply to a plan from a node on, which at most so many moves follow, in the class layout with an
-- index
unfoldable pub node_least : ℕ → List Row → ℕ → ClassHistory → ℤ → Node → NodeReplyView
node_least zero rows index history mass node =
    if int_eq mass (pos 0) then nothing else least_at (turn_at node) (payoff_at node) mass history []
node_least (suc more) rows index history mass node =
    if int_eq mass (pos 0) then nothing
    else least_at (turn_at node) (payoff_at node) mass history
    (map
    (λ child. (
      move_of child,
      node_least more rows index (history ++ move_of child ∷ [])
          (plan_share (turn_at node) rows (children_of node) history mass (move_of child)) child,
    ))
    (nodes_for (turn_at node) index (children_of node)))
