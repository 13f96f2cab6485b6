-- Declarer's best reply to a defence, told by the nodes of a tree.
-- What is said of nodes here serves the contracts of private functions alone, as in AgainstPlan.
use Rattle.std.specs.Prelude.{◌≡◌, ℕ, zero, suc, ◌-◌, ◌<◌, Bool, List, [], ◌∷◌, ◌++◌, Option, Some, None, filter}
use Rattle.std.specs.Prelude.{length, map, ℤ, pos, ◌*ℤ◌, ◌≤ℤ◌, int_lt}
use Rattle.suit_cards.specs.Cards.{ClassLayout}
use Rattle.suit_game.specs.declared.question.Question.{Question}
use Rattle.suit_game.specs.Validity.{IsValid}
use Rattle.suit_game.specs.declared.limits.TheConstants.{MOST_MOVES}
use Rattle.suit_classes.specs.declared.class_moves.ClassMove.{ClassMove}
use Rattle.suit_classes.specs.declared.class_turn.ClassTurn.{ClassTurn}
use Rattle.suit_classes.specs.declared.class_turn.ClassTurn.TheVariants as turns
use Rattle.suit_classes.specs.Classes.{sizes_of}
use Rattle.suit_classes.specs.ClassMoves.{ClassHistory}
use Rattle.suit_layouts.specs.ClassLayouts.{class_layouts}
use Rattle.suit_plans.specs.declared.defence.Defence.{Defence}
use Rattle.suit_plans.specs.declared.defence.DefenceRow.{DefenceRow}
use Rattle.suit_plans.specs.Masses.{defence_shares_at, defence_mass, share}
use Rattle.suit_plans.specs.Properness.{IsProperDefence, sum_of}
use Rattle.suit_plans.specs.declared.plan.TheConstants.{MOST_MASS}
use Rattle.suit_tree.specs.declared.node.Node.{Node}
use Rattle.suit_tree.specs.declared.tree.Tree.{Tree}
use Rattle.suit_tree.specs.Nodes.{children_of, holds_index, move_of, payoff_at, turn_at}
use Rattle.suit_tree.specs.Trees.{IsTreeAt, IsTreeOf, allowing, counts_at}
use Rattle.suit_reply.specs.declared.turn_rule.TurnRule.{TurnRule}
use Rattle.suit_reply.specs.declared.turn_rule.TurnRule.TheVariants.{Sum, Most}
use Rattle.suit_reply.specs.NodeMoves.{is_first_of}
use Rattle.suit_reply.specs.NodeReplies.{NodeReplyView, nothing}
use Rattle.suit_reply.specs.Turns.{finished, gathered}

-- class layouts, by their indices, each with the mass that the defence lets through there
abbrev pub LayoutMasses : Type 0
LayoutMasses = List (ℕ × ℤ)

-- whether the mass is above 0
abbrev pub is_live : ℕ × ℤ → Bool
is_live held = int_lt (pos 0) held.1

-- ---- what is asked

-- a tree is that of a question, for which a defence is proper
pub record IsDefenceFor (tree : Tree) (defence : Defence) : Type 0 where
  pub question : Question
  pub valid : IsValid question
  pub grown : IsTreeOf question tree
  pub proper : IsProperDefence question defence

-- a node stands at a class history of a question, which some class layout allows; the rows are those of a proper
-- defence,
-- and the masses are what they let through, without those that are 0
pub record MostNode (layouts : List (ClassLayout × ℕ)) (rows : List DefenceRow) (history : ClassHistory)
    (masses : LayoutMasses) (node : Node) : Type 0 where
  pub question : Question
  pub defence : Defence
  pub valid : IsValid question
  pub proper : IsProperDefence question defence
  pub is_layouts : class_layouts question (sizes_of question) ≡ layouts
  pub is_rows : defence.rows ≡ rows
  pub some : 0 < length (allowing question history)
  pub tree : IsTreeAt (MOST_MOVES - length history) question history node
  pub are_masses : masses ≡ filter is_live
      (map
      (λ index. (
        index,
        defence_mass question defence (counts_at (class_layouts question (sizes_of question)) index) history,
      ))
      (allowing question history))
  pub within : sum_of (map (λ (held : ℕ × ℤ). held.1) masses) ≤ℤ pos MOST_MASS

-- ---- what is found

-- what a mass becomes with a defender's move
abbrev pub layout_share : List (ClassLayout × ℕ) → List DefenceRow → List Node → ClassHistory → ClassMove → ℕ × ℤ
    → ℕ × ℤ
layout_share layouts rows nodes history move held = (
  held.0,
  share (defence_shares_at rows (counts_at layouts held.0) history)
      (is_first_of (filter (holds_index held.0) nodes) move) held.1 move,
)

-- what the masses become at a child, without those that are 0; no move of declarer's changes them
abbrev pub shared_masses : ClassTurn → List (ClassLayout × ℕ) → List DefenceRow → List Node → ClassHistory
    → LayoutMasses
    → Node → LayoutMasses
shared_masses (turns.Defence seat) layouts rows nodes history masses child =
    filter is_live
    (map (layout_share layouts rows nodes history (move_of child)) (filter (λ held. holds_index held.0 child) masses))
shared_masses turns.Lead layouts rows nodes history masses child = masses
shared_masses (turns.Declarer seat) layouts rows nodes history masses child = masses
shared_masses turns.Decided layouts rows nodes history masses child = masses

-- how a turn gathers what is found below its moves, none where the class history is decided
abbrev pub most_gathers : ClassTurn → Option TurnRule
most_gathers (turns.Defence seat) = Some Sum
most_gathers turns.Lead = Some Most
most_gathers (turns.Declarer seat) = Some Most
most_gathers turns.Decided = None

-- what is found at a node where the masses are given, with what is found below it
abbrev pub most_at : ClassTurn → ℕ → LayoutMasses → ClassHistory → List (ClassMove × NodeReplyView) → NodeReplyView
most_at (turns.Defence seat) payoff masses history results = finished Sum history (gathered Sum results)
most_at turns.Lead payoff masses history results = finished Most history (gathered Most results)
most_at (turns.Declarer seat) payoff masses history results = finished Most history (gathered Most results)
most_at turns.Decided payoff masses history results =
    record { worth = sum_of (map (λ held. pos payoff *ℤ held.1) masses); choices = [] }

-- nothing where there are no masses
abbrev pub if_live : LayoutMasses → NodeReplyView → NodeReplyView
if_live [] found = nothing
if_live (held ∷ masses) found = found

-- declarer's best reply to a defence from a node on, which at most so many moves follow
unfoldable pub node_most : ℕ → List (ClassLayout × ℕ) → List DefenceRow → ClassHistory → LayoutMasses → Node
    → NodeReplyView
node_most zero layouts rows history masses node =
    if_live masses (most_at (turn_at node) (payoff_at node) masses history [])
node_most (suc more) layouts rows history masses node =
    if_live masses
    (most_at (turn_at node) (payoff_at node) masses history
    (map
    (λ child. (
      move_of child,
      node_most more layouts rows (history ++ move_of child ∷ [])
          (shared_masses (turn_at node) layouts rows (children_of node) history masses child) child,
    ))
    (children_of node)))
