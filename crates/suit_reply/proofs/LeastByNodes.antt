-- least_by_nodes: what the nodes of a tree tell is the best reply to a plan.
pub mod Cases
pub mod NoMass
use Rattle.std.proofs.Common.{◌≡◌, ℕ, zero, suc, Bool, true, false, List, [], ◌∷◌, ◌++◌, map, refl, sym, ap, ◌∙◌, subst}
use Rattle.std.proofs.Common.{inl, inr, arith}
use Rattle.std.specs.Prelude.{Contains, filter, if◌then◌else◌, int_lt, pos, unwrap_or, ℤ, ◌*ℤ◌, ◌≤ℤ◌}
use Rattle.std.specs.Ordering.{int_eq}
use Rattle.std.proofs.lemmas.Bool.{cases_Bool, false≢true}
use Rattle.std.proofs.lemmas.Bool.Decides.{Decides-int_eq, not_from_Decides}
use Rattle.std.proofs.lemmas.Int.{ints}
use Rattle.suit_lists.proofs.Elements.{Contains-same}
use Rattle.suit_cards.specs.Cards.{ClassLayout}
use Rattle.suit_game.specs.declared.question.Question.{Question}
use Rattle.suit_classes.specs.declared.class_moves.ClassMove.{ClassMove}
use Rattle.suit_classes.specs.declared.class_turn.ClassTurn.{ClassTurn}
use Rattle.suit_classes.specs.declared.class_turn.ClassTurn.TheVariants as turns
use Rattle.suit_classes.specs.declared.class_view.ClassView.{ClassView}
use Rattle.suit_classes.specs.ClassPlaces.{class_after, class_moves, class_payoff, class_turn}
use Rattle.suit_classes.specs.ClassMoves.{ClassHistory}
use Rattle.suit_classes.specs.declared.class_moves.ClassMove.TheVariants.{ShowOut}
use Rattle.suit_plans.specs.BestReplies.{Reply, worth_within}
use Rattle.suit_plans.specs.Masses.{declarer, is_declarers, is_defences, is_first, plan_shares_at, plan_mass, share}
use Rattle.suit_plans.specs.declared.plan.Plan.{Plan}
use Rattle.suit_plans.specs.declared.plan.Row.{Row}
use Rattle.suit_tree.specs.Nodes.{children_of, holds_index, move_of, payoff_at, turn_at}
use Rattle.suit_tree.specs.Trees.{IsTreeAt, StandsAt, allowing, moves_on}
use Rattle.suit_tree.specs.declared.node.Node.{Node}
use Rattle.suit_tree.proofs.NodePaths.{tree_stands}
use Rattle.suit_plans.proofs.MassSteps.{mass_shared}
use Rattle.suit_plans.proofs.TurnMoves.{declarers_moves}
use Rattle.suit_reply.specs.declared.turn_rule.TurnRule.TheVariants.{Sum, Least}
use Rattle.suit_reply.specs.NodeReplies.{NodeReplyView, nothing}
use Rattle.suit_reply.specs.Turns.{finished, gathered}
use Rattle.suit_reply.specs.NodeMoves.{is_first_of}
use Rattle.suit_reply.specs.AgainstPlan.{least_at, node_least, nodes_for, plan_share}
use Rattle.suit_tree.proofs.NodesFitMoves.{map_fitted, map_fitted_kept}
use Rattle.suit_reply.proofs.WorthAtATurn.SumOrBest.{found_with, least_gathered, results_of, same_found}
use Rattle.suit_plans.proofs.WhoseTurns.{Declarers, Defences, Over, WhoseTurn, whose_turn}
use Rattle.suit_tree.proofs.ClassMovesLeadToNodes.{held_decides, held_moves, index_goes_on}
use Rattle.suit_tree.specs.Nodes.{is_held}
use Rattle.suit_reply.proofs.OwnMovesGoOn.{AreBelow, AreChildren, IsDecided, IsDeclarersTurn, IsDefencesTurn, IsGoing}
use Rattle.suit_reply.proofs.OwnMovesGoOn.{NotDeclarersTurn, NotDefencesTurn, layout_counts, layout_moves, moves_below}
use Rattle.suit_reply.proofs.OwnMovesGoOn.{own_moves_on, some_move}
use Rattle.suit_reply.proofs.ChoicesAlongAReply.WalkOfAReply.{walked}
use Rattle.suit_reply.proofs.LeastByNodes.Cases.{LeastCase, case_allows, case_next, last_decided, moves_then, reply_at}
use Rattle.suit_reply.proofs.LeastByNodes.Cases.{walked_decided, worth_decided}
use Rattle.suit_reply.proofs.LeastByNodes.NoMass.{found_none}
use Rattle.suit_reply.proofs.WorthAtATurn.{best_turn, found_from, found_next, summed_turn}

at_declarers : (turn : ClassTurn) (payoff index : ℕ) (mass : ℤ) (history : ClassHistory) (rows : List Row)
    (nodes : List Node) (next : Node → ℤ → NodeReplyView) → is_declarers turn ≡ true
    → least_at turn payoff mass history
    (map (λ child. (move_of child, next child (plan_share turn rows nodes history mass (move_of child))))
    (nodes_for turn index nodes))
    ≡ (gathered Sum (map (λ child. (
      move_of child,
      next child (share (plan_shares_at rows history) (is_first_of nodes (move_of child)) mass (move_of child)),
    ))
    nodes)).found
at_declarers turns.Lead payoff index mass history rows nodes next own = refl
at_declarers (turns.Declarer seat) payoff index mass history rows nodes next own = refl
at_declarers (turns.Defence seat) payoff index mass history rows nodes next own = absurd (false≢true own)
at_declarers turns.Decided payoff index mass history rows nodes next own = absurd (false≢true own)

at_defences : (turn : ClassTurn) (payoff index : ℕ) (mass : ℤ) (history : ClassHistory) (rows : List Row)
    (nodes : List Node) (next : Node → ℤ → NodeReplyView) → is_defences turn ≡ true
    → least_at turn payoff mass history
    (map (λ child. (move_of child, next child (plan_share turn rows nodes history mass (move_of child))))
    (nodes_for turn index nodes))
    ≡ finished Least history (gathered Least
    (map (λ child. (move_of child, next child mass)) (filter (holds_index index) nodes)))
at_defences turns.Lead payoff index mass history rows nodes next theirs = absurd (false≢true theirs)
at_defences (turns.Declarer seat) payoff index mass history rows nodes next theirs = absurd (false≢true theirs)
at_defences (turns.Defence seat) payoff index mass history rows nodes next theirs = refl
at_defences turns.Decided payoff index mass history rows nodes next theirs = absurd (false≢true theirs)

-- what is told of a child, by its move
abbrev pub TellsBelow : ℕ → Question → Plan → ℕ → ClassHistory → Type 0
TellsBelow more question plan index history =
    (move : ClassMove) (mass : ℤ) (child : Node) → Contains (layout_moves question index history) move
    → IsTreeAt more question (history ++ move ∷ []) child → mass ≡ plan_mass question plan (history ++ move ∷ [])
    → node_least more plan.rows index (history ++ move ∷ []) mass child
    ≡ found_next more (reply_at question plan index) history move

-- a move with what is found below it
abbrev pub told_of : ClassMove → NodeReplyView → ClassMove × NodeReplyView
told_of move found = (move, found)

-- at declarer's turn a move gets its share of the mass
pub own_mass : (question : Question) (plan : Plan) (history : ClassHistory) (move : ClassMove)
    → IsDeclarersTurn question history
    → plan_mass question plan (history ++ move ∷ [])
    ≡ share (plan_shares_at plan.rows history) (is_first (class_moves (class_after question history) []) move)
    (plan_mass question plan history) move
unfolding plan_mass
own_mass question plan history move own = mass_shared question (declarer plan.den plan.rows) history move own

-- some mass comes to a history to which it is not none
some_live : (mass : ℤ) → pos 0 ≤ℤ mass → int_eq mass (pos 0) ≡ false → int_lt (pos 0) mass ≡ true
some_live mass positive some =
    let other : mass ≡ pos 0 → ⊥ = not_from_Decides (int_eq mass (pos 0)) (Decides-int_eq mass (pos 0)) some in
    grind (arith, ints)

module _ (question : Question) (plan : Plan) (index : ℕ) where
  -- a node tells what is earned
  decided_told : (more : ℕ) (history : ClassHistory) (mass : ℤ) (node : Node)
      (results : List (ClassMove × NodeReplyView)) → IsDecided question history
      → class_turn (class_after question history) ≡ turns.Decided → StandsAt question history node
      → mass ≡ plan_mass question plan history
      → least_at (turn_at node) (payoff_at node) mass history results
      ≡ found_from more (reply_at question plan index) history
  decided_told more history mass node results decided turn stands same =
      let reply : Reply = reply_at question plan index in
      let view : ClassView = class_after question history in
      let payoff : payoff_at node ≡ class_payoff view =
      stands.payoff ∙ ap (λ (b : Bool). if b then class_payoff view else 0) decided in
      ap (λ (t : ClassTurn). least_at t (payoff_at node) mass history results) (stands.turn ∙ turn)
      ∙ ap (λ (n : ℕ). found_with (pos n *ℤ mass) []) payoff
      ∙ ap (λ (m : ℤ). found_with (pos (class_payoff view) *ℤ m) []) same
      ∙ sym (same_found (worth_within more reply history) (reply.earned history) (walked more reply history) []
      (worth_decided question plan index more history decided)
      (walked_decided question plan index more history decided))

  -- ---- where it is not

  -- what is told of the child by a move is what the reply comes to with this move
  pub child_told : (more : ℕ) (history : ClassHistory) (masses : ClassMove → ℤ)
      → TellsBelow more question plan index history → (move : ClassMove) (child : Node)
      → Contains (layout_moves question index history) move
      → masses move ≡ plan_mass question plan (history ++ move ∷ []) → AreBelow more question history move child
      → told_of (move_of child) (node_least more plan.rows index (history ++ move_of child ∷ [])
      (masses (move_of child)) child) ≡ told_of move (found_next more (reply_at question plan index) history move)
  child_told more history masses tells move child found same below =
      ap (λ (m : ClassMove). told_of m (node_least more plan.rows index (history ++ m ∷ []) (masses m) child))
      (ap (λ to. unwrap_or to ShowOut) below.0)
      ∙ ap (told_of move) (tells move (masses move) child found below.1 same)

  -- what is told at a turn of declarer's
  own_told : (more : ℕ) (history : ClassHistory) (mass : ℤ) (node : Node) (move : ClassMove) (moves : List ClassMove)
      → LeastCase (suc more) question plan index history → StandsAt question history node
      → AreChildren more question history (children_of node) → TellsBelow more question plan index history
      → mass ≡ plan_mass question plan history → (reply_at question plan index).live history ≡ true
      → IsGoing question history → IsDeclarersTurn question history → NotDefencesTurn question history
      → layout_moves question index history ≡ move ∷ moves → least_at (turn_at node) (payoff_at node) mass history
      (map (λ child. told_of (move_of child)
      (node_least more plan.rows index (history ++ move_of child ∷ [])
      (plan_share (turn_at node) plan.rows (children_of node) history mass (move_of child)) child))
      (nodes_for (turn_at node) index (children_of node)))
      ≡ found_from (suc more) (reply_at question plan index) history
  own_told more history mass node move moves is stands fit tells same live going own not_theirs some =
      let reply : Reply = reply_at question plan index in
      let view : ClassView = class_after question history in
      let counts : ClassLayout = layout_counts question index in
      let nodes : List Node = children_of node in
      let next : Node → ℤ → NodeReplyView =
      λ child part. node_least more plan.rows index (history ++ move_of child ∷ []) part child in
      let masses : ClassMove → ℤ =
      λ other. share (plan_shares_at plan.rows history) (is_first_of nodes other) mass other in
      let on : moves_on question history ≡ class_moves view counts =
      own_moves_on question history index is.valid is.held going own in
      let firsts : map move_of nodes ≡ class_moves view [] =
      moves_below more question history nodes fit ∙ on ∙ declarers_moves view counts [] own in
      let shares : (other : ClassMove) → masses other ≡ plan_mass question plan (history ++ other ∷ []) =
      λ other.
      ap (λ (l : List ClassMove). share (plan_shares_at plan.rows history) (is_first l other) mass other) firsts
      ∙ ap (λ (m : ℤ). share (plan_shares_at plan.rows history) (is_first (class_moves view []) other) m other) same
      ∙ sym (own_mass question plan history other own) in
      at_declarers (turn_at node) (payoff_at node) index mass history plan.rows nodes next
      (ap is_declarers stands.turn ∙ own)
      ∙ ap (λ (l : List (ClassMove × NodeReplyView)). (gathered Sum l).found)
      (map_fitted (AreBelow more question history)
      (λ child. told_of (move_of child) (next child (masses (move_of child))))
      (λ other. told_of other (found_next more reply history other))
      (moves_on question history) nodes fit
      (λ other child found below. child_told more history masses tells other child
      (Contains-same other on found) (shares other) below)
      ∙ ap (results_of (found_next more reply history)) (on ∙ some))
      ∙ sym (summed_turn reply more history move moves live
      (moves_then question plan index history (move ∷ moves) going some) not_theirs)

  -- and what is told at one of the defence's
  defences_told : (more : ℕ) (history : ClassHistory) (mass : ℤ) (node : Node) (move : ClassMove)
      (moves : List ClassMove) → LeastCase (suc more) question plan index history → StandsAt question history node
      → AreChildren more question history (children_of node) → TellsBelow more question plan index history
      → mass ≡ plan_mass question plan history → (reply_at question plan index).live history ≡ true
      → IsGoing question history → NotDeclarersTurn question history → IsDefencesTurn question history
      → layout_moves question index history ≡ move ∷ moves → least_at (turn_at node) (payoff_at node) mass history
      (map (λ child. told_of (move_of child)
      (node_least more plan.rows index (history ++ move_of child ∷ [])
      (plan_share (turn_at node) plan.rows (children_of node) history mass (move_of child)) child))
      (nodes_for (turn_at node) index (children_of node)))
      ≡ found_from (suc more) (reply_at question plan index) history
  unfolding plan_mass
  defences_told more history mass node move moves is stands fit tells same live going not_own theirs some =
      let reply : Reply = reply_at question plan index in
      let view : ClassView = class_after question history in
      let counts : ClassLayout = layout_counts question index in
      let nodes : List Node = children_of node in
      let next : Node → ℤ → NodeReplyView =
      λ child part. node_least more plan.rows index (history ++ move_of child ∷ []) part child in
      let masses : ClassMove → ℤ = λ other. mass in
      let may : ClassMove → Bool = λ other. is_held index (allowing question (history ++ other ∷ [])) in
      let kept : filter may (moves_on question history) ≡ class_moves view counts =
      held_moves question history index is.valid is.held going in
      let shares : (other : ClassMove) → masses other ≡ plan_mass question plan (history ++ other ∷ []) =
      λ other. same ∙ sym (is.realised.kept history other not_own) in
      let holds : (other : ClassMove) (child : Node) → AreBelow more question history other child
      → holds_index index child ≡ may other =
      λ other child below. ap (is_held index)
      (tree_stands more question (history ++ other ∷ []) child below.1).layouts in
      at_defences (turn_at node) (payoff_at node) index mass history plan.rows nodes next
      (ap is_defences stands.turn ∙ theirs)
      ∙ ap (λ (l : List (ClassMove × NodeReplyView)). finished Least history (gathered Least l))
      (map_fitted_kept (AreBelow more question history) (λ child. told_of (move_of child) (next child mass))
      (λ other. told_of other (found_next more reply history other))
      (holds_index index) may (moves_on question history) nodes fit holds
      (λ other child passes below.
      let goes = index_goes_on question history other index is.valid is.held in
      child_told more history masses tells other child
      (goes.0 ((held_decides index (allowing question (history ++ other ∷ []))).0 passes)) (shares other) below)
      ∙ ap (results_of (found_next more reply history)) (kept ∙ some))
      ∙ least_gathered history (found_next more reply history) move moves
      ∙ sym (best_turn reply more history move moves live
      (moves_then question plan index history (move ∷ moves) going some) theirs is.left)

  -- where there is no mass nothing is told
  unless_none : (more : ℕ) (history : ClassHistory) (mass : ℤ) (told : NodeReplyView)
      → LeastCase more question plan index history → mass ≡ plan_mass question plan history
      → ((reply_at question plan index).live history ≡ true
      → told ≡ found_from more (reply_at question plan index) history)
      → (if int_eq mass (pos 0) then nothing else told) ≡ found_from more (reply_at question plan index) history
  unfolding plan_mass
  unless_none more history mass told is same tells = elim (cases_Bool (int_eq mass (pos 0))) [
    | inl none ↦
        ap (λ (b : Bool). if b then nothing else told) none
        ∙ sym (found_none question plan index more history is (sym same ∙ (Decides-int_eq mass (pos 0)).0 none))
    | inr some ↦
        let positive : pos 0 ≤ℤ mass =
        subst (λ (m : ℤ). pos 0 ≤ℤ m) (sym same)
        (is.realised.positive history (case_allows question plan index more history is)) in
        ap (λ (b : Bool). if b then nothing else told) some
        ∙ tells (ap (int_lt (pos 0)) (sym same) ∙ some_live mass positive some)
  ]

  -- what a node tells where moves may follow
  turn_told : (more : ℕ) (history : ClassHistory) (mass : ℤ) (node : Node) (moves : List ClassMove)
      → LeastCase (suc more) question plan index history → StandsAt question history node
      → AreChildren more question history (children_of node) → TellsBelow more question plan index history
      → mass ≡ plan_mass question plan history → (reply_at question plan index).live history ≡ true
      → layout_moves question index history ≡ moves → WhoseTurn (class_after question history)
      → least_at (turn_at node) (payoff_at node) mass history
      (map (λ child. told_of (move_of child)
      (node_least more plan.rows index (history ++ move_of child ∷ [])
      (plan_share (turn_at node) plan.rows (children_of node) history mass (move_of child)) child))
      (nodes_for (turn_at node) index (children_of node)))
      ≡ found_from (suc more) (reply_at question plan index) history
  turn_told more history mass node moves is stands fit tells same live some (Over decided turn) =
      decided_told (suc more) history mass node _ decided turn stands same
  turn_told more history mass node [] is stands fit tells same live none (Declarers going own not_theirs) =
      absurd (some_move question (layout_counts question index) history
      (case_allows question plan index (suc more) history is) going none)
  turn_told more history mass node (move ∷ moves) is stands fit tells same live some (Declarers going own not_theirs) =
      own_told more history mass node move moves is stands fit tells same live going own not_theirs some
  turn_told more history mass node [] is stands fit tells same live none (Defences going not_own theirs) =
      absurd (some_move question (layout_counts question index) history
      (case_allows question plan index (suc more) history is) going none)
  turn_told more history mass node (move ∷ moves) is stands fit tells same live some (Defences going not_own theirs) =
      defences_told more history mass node move moves is stands fit tells same live going not_own theirs some

  -- what a node with no moves left tells
  last_told : (history : ClassHistory) (mass : ℤ) (node : Node) → LeastCase 0 question plan index history
      → StandsAt question history node → mass ≡ plan_mass question plan history
      → WhoseTurn (class_after question history)
      → least_at (turn_at node) (payoff_at node) mass history [] ≡ found_from 0 (reply_at question plan index) history
  last_told history mass node is stands same (Over decided turn) =
      decided_told 0 history mass node [] decided turn stands same
  last_told history mass node is stands same (Declarers going own not_theirs) =
      absurd (last_decided question plan index history (layout_moves question index history) is going refl)
  last_told history mass node is stands same (Defences going not_own theirs) =
      absurd (last_decided question plan index history (layout_moves question index history) is going refl)

  -- what a node tells is what the best reply to the plan comes to from its class history on
  pub least_by_nodes : (more : ℕ) (history : ClassHistory) (mass : ℤ) (node : Node)
      → LeastCase more question plan index history → IsTreeAt more question history node
      → mass ≡ plan_mass question plan history
      → node_least more plan.rows index history mass node ≡ found_from more (reply_at question plan index) history
  unfolding node_least IsTreeAt
  least_by_nodes zero history mass node is tree same =
      unless_none zero history mass (least_at (turn_at node) (payoff_at node) mass history []) is same
      (λ live. last_told history mass node is tree.0 same (whose_turn (class_after question history)))
  least_by_nodes (suc more) history mass node is tree same =
      unless_none (suc more) history mass _ is same
      (λ live.
      turn_told more history mass node (layout_moves question index history) is tree.0 tree.1
      (λ move part child found below alike.
      least_by_nodes more (history ++ move ∷ []) part child (case_next question plan index more history move is found)
      below alike)
      same live refl (whose_turn (class_after question history)))
