-- most_by_nodes: what the nodes of a tree tell is the best reply to a defence.
pub mod WhichLayoutsAllow
pub mod Cases
pub mod LiveMasses
pub mod MassesWithAMoveMore
use Rattle.std.proofs.Common.{◌≡◌, ℕ, zero, suc, Bool, true, false, List, [], ◌∷◌, ◌++◌, map, refl, sym, ap, ◌∙◌}
use Rattle.std.specs.Prelude.{Contains, filter, if◌then◌else◌, pos, unwrap_or, ℤ, ◌*ℤ◌}
use Rattle.std.proofs.lemmas.Bool.{false≢true}
use Rattle.std.proofs.Math.IntN.{*ℤ_comm, zero-*ℤ}
use Rattle.suit_cards.specs.Cards.{ClassLayout}
use Rattle.suit_game.specs.declared.question.Question.{Question}
use Rattle.suit_classes.specs.declared.class_moves.ClassMove.{ClassMove}
use Rattle.suit_classes.specs.declared.class_turn.ClassTurn.{ClassTurn}
use Rattle.suit_classes.specs.declared.class_turn.ClassTurn.TheVariants as turns
use Rattle.suit_classes.specs.declared.class_view.ClassView.{ClassView}
use Rattle.suit_classes.specs.ClassPlaces.{class_after, class_payoff, class_turn}
use Rattle.suit_classes.specs.ClassMoves.{ClassHistory}
use Rattle.suit_classes.specs.declared.class_moves.ClassMove.TheVariants.{ShowOut}
use Rattle.suit_plans.specs.BestReplies.{Reply, reply_to_defence, worth_within}
use Rattle.suit_plans.specs.Masses.{is_declarers, is_defences}
use Rattle.suit_plans.specs.Properness.{sum_of}
use Rattle.suit_plans.specs.declared.defence.Defence.{Defence}
use Rattle.suit_plans.specs.declared.defence.DefenceRow.{DefenceRow}
use Rattle.suit_tree.specs.declared.node.Node.{Node}
use Rattle.suit_tree.specs.Nodes.{children_of, holds_index, move_of, payoff_at, turn_at}
use Rattle.suit_tree.specs.Trees.{IsTreeAt, StandsAt, allowing, moves_on}
use Rattle.suit_reply.specs.declared.turn_rule.TurnRule.TheVariants.{Sum, Most}
use Rattle.suit_reply.specs.NodeReplies.{NodeReplyView}
use Rattle.suit_reply.specs.Turns.{finished, gathered}
use Rattle.suit_reply.specs.AgainstDefence.{LayoutMasses, if_live, is_live, layout_share, most_at, node_most}
use Rattle.suit_reply.specs.AgainstDefence.{shared_masses}
use Rattle.suit_reply.proofs.MostByNodes.WhichLayoutsAllow.{earned_at, mass_at}
use Rattle.suit_tree.proofs.NodesFitMoves.{map_fitted}
use Rattle.suit_reply.proofs.WorthAtATurn.SumOrBest.{found_with, most_gathered, results_of, same_found}
use Rattle.suit_plans.proofs.WhoseTurns.{Declarers, Defences, Over, WhoseTurn, whose_turn}
use Rattle.suit_reply.proofs.OwnMovesGoOn.{AreBelow, AreChildren, IsDecided, IsDeclarersTurn, IsDefencesTurn, IsGoing}
use Rattle.suit_reply.proofs.OwnMovesGoOn.{NotDeclarersTurn, NotDefencesTurn, layouts_of}
use Rattle.suit_reply.proofs.LeastByNodes.{told_of}
use Rattle.suit_reply.proofs.MostByNodes.LiveMasses.{live_total}
use Rattle.suit_reply.proofs.MostByNodes.MassesWithAMoveMore.{masses_pass, masses_stay}
use Rattle.suit_reply.proofs.MostByNodes.Cases.{MostCase, masses_at, most_decided, most_empty, most_last, most_live}
use Rattle.suit_reply.proofs.MostByNodes.Cases.{most_moves, most_next, most_walked, index_positive, some_on}
use Rattle.suit_reply.proofs.WorthAtATurn.{best_turn, found_from, found_next, summed_turn}
use Rattle.suit_reply.proofs.ChoicesAlongAReply.WalkOfAReply.{walked}

-- ---- where a history is decided

-- the masses with which a node below is asked at a turn of the defence
abbrev passed_masses : List (ClassLayout × ℕ) → List DefenceRow → List Node → ClassHistory → LayoutMasses → Node
    → ClassMove
    → LayoutMasses
passed_masses layouts rows nodes history masses child move =
    filter is_live (map (layout_share layouts rows nodes history move)
    (filter (λ held. holds_index held.0 child) masses))

at_declarers : (turn : ClassTurn) (payoff : ℕ) (masses : LayoutMasses) (history : ClassHistory)
    (layouts : List (ClassLayout × ℕ)) (rows : List DefenceRow) (nodes : List Node)
    (next : Node → LayoutMasses → NodeReplyView) → is_declarers turn ≡ true
    → most_at turn payoff masses history
    (map (λ child. (move_of child, next child (shared_masses turn layouts rows nodes history masses child))) nodes)
    ≡ finished Most history (gathered Most (map (λ child. (move_of child, next child masses)) nodes))
at_declarers turns.Lead payoff masses history layouts rows nodes next own = refl
at_declarers (turns.Declarer seat) payoff masses history layouts rows nodes next own = refl
at_declarers (turns.Defence seat) payoff masses history layouts rows nodes next own = absurd (false≢true own)
at_declarers turns.Decided payoff masses history layouts rows nodes next own = absurd (false≢true own)

at_defences : (turn : ClassTurn) (payoff : ℕ) (masses : LayoutMasses) (history : ClassHistory)
    (layouts : List (ClassLayout × ℕ)) (rows : List DefenceRow) (nodes : List Node)
    (next : Node → LayoutMasses → NodeReplyView) → is_defences turn ≡ true
    → most_at turn payoff masses history
    (map (λ child. (move_of child, next child (shared_masses turn layouts rows nodes history masses child))) nodes)
    ≡ (gathered Sum (map (λ child. (
      move_of child,
      next child (passed_masses layouts rows nodes history masses child (move_of child)),
    )) nodes)).found
at_defences turns.Lead payoff masses history layouts rows nodes next theirs = absurd (false≢true theirs)
at_defences (turns.Declarer seat) payoff masses history layouts rows nodes next theirs = absurd (false≢true theirs)
at_defences (turns.Defence seat) payoff masses history layouts rows nodes next theirs = refl
at_defences turns.Decided payoff masses history layouts rows nodes next theirs = absurd (false≢true theirs)

-- what is told of a child, by its move
abbrev pub TellsMost : ℕ → Question → Defence → ClassHistory → Type 0
TellsMost more question defence history =
    (move : ClassMove) (masses : LayoutMasses) (child : Node) → Contains (moves_on question history) move
    → IsTreeAt more question (history ++ move ∷ []) child → masses ≡ masses_at question defence (history ++ move ∷ [])
    → node_most more (layouts_of question) defence.rows (history ++ move ∷ []) masses child
    ≡ found_next more (reply_to_defence question defence) history move

-- the moves to the nodes below a node, each with what is told there
abbrev told_below : ℕ → List (ClassLayout × ℕ) → List DefenceRow → ClassHistory → LayoutMasses → Node
    → List (ClassMove × NodeReplyView)
told_below more layouts rows history masses node =
    map (λ child. told_of (move_of child)
    (node_most more layouts rows (history ++ move_of child ∷ [])
    (shared_masses (turn_at node) layouts rows (children_of node) history masses child) child))
    (children_of node)

module _ (question : Question) (defence : Defence) where
  -- what is earned, by the masses above 0
  pub earned_live : (more : ℕ) (history : ClassHistory) → MostCase more question defence history
      → sum_of (map (λ held. pos (class_payoff (class_after question history)) *ℤ held.1)
      (masses_at question defence history)) ≡ (reply_to_defence question defence).earned history
  earned_live more history is =
      let payoff : ℤ = pos (class_payoff (class_after question history)) in
      live_total (λ mass. payoff *ℤ mass) (mass_at question defence history) (allowing question history)
      (*ℤ_comm payoff (pos 0) ∙ zero-*ℤ payoff)
      (λ index found. index_positive question defence more history index is found)
      ∙ sym (earned_at question defence history)

  -- a node tells what is earned
  decided_told : (more : ℕ) (history : ClassHistory) (masses : LayoutMasses) (node : Node)
      (results : List (ClassMove × NodeReplyView)) → MostCase more question defence history → IsDecided question history
      → class_turn (class_after question history) ≡ turns.Decided → StandsAt question history node
      → masses ≡ masses_at question defence history
      → most_at (turn_at node) (payoff_at node) masses history results
      ≡ found_from more (reply_to_defence question defence) history
  decided_told more history masses node results is decided turn stands same =
      let reply : Reply = reply_to_defence question defence in
      let view : ClassView = class_after question history in
      let payoff : payoff_at node ≡ class_payoff view =
      stands.payoff ∙ ap (λ (b : Bool). if b then class_payoff view else 0) decided in
      ap (λ (t : ClassTurn). most_at t (payoff_at node) masses history results) (stands.turn ∙ turn)
      ∙ ap (λ (n : ℕ). found_with (sum_of (map (λ held. pos n *ℤ held.1) masses)) []) payoff
      ∙ ap (λ (l : LayoutMasses). found_with (sum_of (map (λ held. pos (class_payoff view) *ℤ held.1) l)) []) same
      ∙ ap (λ (w : ℤ). found_with w []) (earned_live more history is)
      ∙ sym (same_found (worth_within more reply history) (reply.earned history) (walked more reply history) []
      (most_decided question defence more history decided) (most_walked question defence more history decided))

  -- ---- where it is not

  child_told : (more : ℕ) (history : ClassHistory) (masses : ClassMove → LayoutMasses)
      → TellsMost more question defence history → (move : ClassMove) (child : Node)
      → Contains (moves_on question history) move → masses move ≡ masses_at question defence (history ++ move ∷ [])
      → AreBelow more question history move child
      → told_of (move_of child) (node_most more (layouts_of question) defence.rows (history ++ move_of child ∷ [])
      (masses (move_of child)) child)
      ≡ told_of move (found_next more (reply_to_defence question defence) history move)
  child_told more history masses tells move child found same below =
      ap (λ (m : ClassMove). told_of m
      (node_most more (layouts_of question) defence.rows (history ++ m ∷ []) (masses m) child))
      (ap (λ to. unwrap_or to ShowOut) below.0)
      ∙ ap (told_of move) (tells move (masses move) child found below.1 same)

  -- what is told at a turn of declarer's
  own_told : (more : ℕ) (history : ClassHistory) (masses : LayoutMasses) (node : Node) (move : ClassMove)
      (moves : List ClassMove) → MostCase (suc more) question defence history → StandsAt question history node
      → AreChildren more question history (children_of node) → TellsMost more question defence history
      → masses ≡ masses_at question defence history → (reply_to_defence question defence).live history ≡ true
      → IsDeclarersTurn question history → NotDefencesTurn question history → moves_on question history ≡ move ∷ moves
      → most_at (turn_at node) (payoff_at node) masses history
      (told_below more (layouts_of question) defence.rows history masses node)
      ≡ found_from (suc more) (reply_to_defence question defence) history
  own_told more history masses node move moves is stands fit tells same live own not_theirs some =
      let reply : Reply = reply_to_defence question defence in
      let layouts : List (ClassLayout × ℕ) = layouts_of question in
      let nodes : List Node = children_of node in
      let next : Node → LayoutMasses → NodeReplyView =
      λ child part. node_most more layouts defence.rows (history ++ move_of child ∷ []) part child in
      at_declarers (turn_at node) (payoff_at node) masses history layouts defence.rows nodes next
      (ap is_declarers stands.turn ∙ own)
      ∙ ap (λ (l : List (ClassMove × NodeReplyView)). finished Most history (gathered Most l))
      (map_fitted (AreBelow more question history) (λ child. told_of (move_of child) (next child masses))
      (λ other. told_of other (found_next more reply history other))
      (moves_on question history) nodes fit
      (λ other child found below.
      child_told more history (λ m. masses) tells other child found
      (same ∙ sym (masses_stay question defence history other is.valid own not_theirs found)) below)
      ∙ ap (results_of (found_next more reply history)) some)
      ∙ most_gathered history (found_next more reply history) move moves
      ∙ sym (best_turn reply more history move moves live (most_moves question defence history (move ∷ moves) some) own
      is.left)

  -- and what is told at one of the defence's
  defences_told : (more : ℕ) (history : ClassHistory) (masses : LayoutMasses) (node : Node) (move : ClassMove)
      (moves : List ClassMove) → MostCase (suc more) question defence history → StandsAt question history node
      → AreChildren more question history (children_of node) → TellsMost more question defence history
      → masses ≡ masses_at question defence history → (reply_to_defence question defence).live history ≡ true
      → IsGoing question history → NotDeclarersTurn question history → IsDefencesTurn question history
      → moves_on question history ≡ move ∷ moves
      → most_at (turn_at node) (payoff_at node) masses history
      (told_below more (layouts_of question) defence.rows history masses node)
      ≡ found_from (suc more) (reply_to_defence question defence) history
  defences_told more history masses node move moves is stands fit tells same live going not_own theirs some =
      let reply : Reply = reply_to_defence question defence in
      let layouts : List (ClassLayout × ℕ) = layouts_of question in
      let nodes : List Node = children_of node in
      let next : Node → LayoutMasses → NodeReplyView =
      λ child part. node_most more layouts defence.rows (history ++ move_of child ∷ []) part child in
      let passed : Node → ClassMove → LayoutMasses = passed_masses layouts defence.rows nodes history masses in
      at_defences (turn_at node) (payoff_at node) masses history layouts defence.rows nodes next
      (ap is_defences stands.turn ∙ theirs)
      ∙ ap (λ (l : List (ClassMove × NodeReplyView)). (gathered Sum l).found)
      (map_fitted (AreBelow more question history)
      (λ child. told_of (move_of child) (next child (passed child (move_of child))))
      (λ other. told_of other (found_next more reply history other))
      (moves_on question history) nodes fit
      (λ other child found below.
      child_told more history (passed child) tells other child found
      (ap (λ (l : LayoutMasses). passed_masses layouts defence.rows nodes history l child other) same
      ∙ masses_pass question defence history other more nodes child is going theirs fit below) below)
      ∙ ap (results_of (found_next more reply history)) some)
      ∙ sym (summed_turn reply more history move moves live (most_moves question defence history (move ∷ moves) some)
      not_own)

  -- where no mass is above 0 nothing is told
  unless_empty : (more : ℕ) (history : ClassHistory) (masses : LayoutMasses) (told : NodeReplyView)
      → MostCase more question defence history → masses ≡ masses_at question defence history
      → ((reply_to_defence question defence).live history ≡ true
      → told ≡ found_from more (reply_to_defence question defence) history)
      → if_live masses told ≡ found_from more (reply_to_defence question defence) history
  unless_empty more history [] told is same tells = sym (most_empty question defence more history is (sym same))
  unless_empty more history (held ∷ masses) told is same tells =
      tells (most_live question defence history held masses (sym same))

  -- what a node tells where moves may follow
  turn_told : (more : ℕ) (history : ClassHistory) (masses : LayoutMasses) (node : Node) (moves : List ClassMove)
      → MostCase (suc more) question defence history → StandsAt question history node
      → AreChildren more question history (children_of node) → TellsMost more question defence history
      → masses ≡ masses_at question defence history → (reply_to_defence question defence).live history ≡ true
      → moves_on question history ≡ moves → WhoseTurn (class_after question history)
      → most_at (turn_at node) (payoff_at node) masses history
      (told_below more (layouts_of question) defence.rows history masses node)
      ≡ found_from (suc more) (reply_to_defence question defence) history
  turn_told more history masses node moves is stands fit tells same live some (Over decided turn) =
      decided_told (suc more) history masses node _ is decided turn stands same
  turn_told more history masses node [] is stands fit tells same live none (Declarers going own not_theirs) =
      absurd (some_on question defence (suc more) history is going none)
  turn_told more history masses node (move ∷ moves) is stands fit tells same live some
      (Declarers going own not_theirs) =
      own_told more history masses node move moves is stands fit tells same live own not_theirs some
  turn_told more history masses node [] is stands fit tells same live none (Defences going not_own theirs) =
      absurd (some_on question defence (suc more) history is going none)
  turn_told more history masses node (move ∷ moves) is stands fit tells same live some (Defences going not_own theirs) =
      defences_told more history masses node move moves is stands fit tells same live going not_own theirs some

  -- what a node with no moves left tells
  last_told : (history : ClassHistory) (masses : LayoutMasses) (node : Node) → MostCase 0 question defence history
      → StandsAt question history node → masses ≡ masses_at question defence history
      → WhoseTurn (class_after question history)
      → most_at (turn_at node) (payoff_at node) masses history []
      ≡ found_from 0 (reply_to_defence question defence) history
  last_told history masses node is stands same (Over decided turn) =
      decided_told 0 history masses node [] is decided turn stands same
  last_told history masses node is stands same (Declarers going own not_theirs) =
      absurd (most_last question defence history is going)
  last_told history masses node is stands same (Defences going not_own theirs) =
      absurd (most_last question defence history is going)

  -- what a node tells is what the best reply to the defence comes to from its class history on
  pub most_by_nodes : (more : ℕ) (history : ClassHistory) (masses : LayoutMasses) (node : Node)
      → MostCase more question defence history → IsTreeAt more question history node
      → masses ≡ masses_at question defence history
      → node_most more (layouts_of question) defence.rows history masses node
      ≡ found_from more (reply_to_defence question defence) history
  unfolding node_most IsTreeAt
  most_by_nodes zero history masses node is tree same =
      unless_empty zero history masses (most_at (turn_at node) (payoff_at node) masses history []) is same
      (λ live. last_told history masses node is tree.0 same (whose_turn (class_after question history)))
  most_by_nodes (suc more) history masses node is tree same =
      unless_empty (suc more) history masses
      (most_at (turn_at node) (payoff_at node) masses history
      (told_below more (layouts_of question) defence.rows history masses node)) is same
      (λ live.
      turn_told more history masses node (moves_on question history) is tree.0 tree.1
      (λ move part child found below alike.
      most_by_nodes more (history ++ move ∷ []) part child (most_next question defence more history move is found) below
      alike)
      same live refl (whose_turn (class_after question history)))
