-- asked_below: what a node is asked for, where declarer replies to a defence, its children are asked for.
use Rattle.std.proofs.Common.{◌≡◌, ℕ, zero, suc, ◌-◌, ◌<◌, ◌≤◌, All, true, List, [], ◌∷◌, ◌++◌, Some, None, length}
use Rattle.std.proofs.Common.{get_or, map, refl, sym, ap, ◌∙◌, subst, arith}
use Rattle.std.specs.Prelude.{Contains, filter, pos, unwrap_or, ℤ, ◌≤ℤ◌}
use Rattle.std.proofs.lemmas.Bool.{false≢true}
use Rattle.std.proofs.lemmas.List.{length-append}
use Rattle.std.proofs.lemmas.List.Elements.{All-contains_itself, All-filter, All-map, All-same, All-weaker}
use Rattle.std.proofs.lemmas.List.Elements.{Contains-get_or}
use Rattle.suit_cards.specs.Cards.{ClassLayout, Indices}
use Rattle.suit_game.specs.declared.question.Question.{Question}
use Rattle.suit_classes.specs.declared.class_moves.ClassMove.{ClassMove}
use Rattle.suit_classes.specs.declared.class_turn.ClassTurn.{ClassTurn}
use Rattle.suit_classes.specs.declared.class_turn.ClassTurn.TheVariants as turns
use Rattle.suit_classes.specs.ClassPlaces.{class_after}
use Rattle.suit_classes.specs.ClassMoves.{ClassHistory}
use Rattle.suit_classes.specs.declared.class_moves.ClassMove.TheVariants.{ShowOut}
use Rattle.suit_plans.specs.Masses.{is_declarers, is_defences}
use Rattle.suit_plans.specs.Orders.{InOrder, defence_row_before}
use Rattle.suit_plans.specs.Properness.{sum_of}
use Rattle.suit_plans.specs.declared.defence.DefenceRow.{DefenceRow}
use Rattle.suit_plans.specs.declared.plan.TheConstants.{MOST_MASS}
use Rattle.suit_plans.proofs.ProperDefences.{defences_are_realised}
use Rattle.suit_plans.proofs.ProperOrders.{defence_in_order}
use Rattle.suit_tree.specs.declared.node.Node.{Node}
use Rattle.suit_tree.specs.Nodes.{children_of, holds_index, move_of, payoff_at, turn_at}
use Rattle.suit_tree.specs.Trees.{IsTreeAt, StandsAt, allowing, moves_on}
use Rattle.suit_tree.proofs.OneNodeAtEachPath.{kept_layouts}
use Rattle.suit_tree.proofs.NodePaths.{tree_stands}
use Rattle.suit_reply.specs.declared.turn_rule.TurnRule.{TurnRule}
use Rattle.suit_reply.specs.AgainstDefence.{LayoutMasses, MostNode, is_live, layout_share, most_gathers, shared_masses}
use Rattle.suit_reply.proofs.MostByNodes.WhichLayoutsAllow.{mass_at}
use Rattle.suit_reply.proofs.MostAtTheRoot.MassesBeforeAnyMove.{index_weighs}
use Rattle.suit_plans.proofs.WhoseTurns.{Declarers, Defences, Over, WhoseTurn, whose_turn}
use Rattle.suit_reply.proofs.OwnMovesGoOn.{AreBelow, AreChildren, layout_counts, layouts_of}
use Rattle.suit_tree.proofs.NodesFitMoves.{fitted_at}
use Rattle.suit_reply.proofs.MostByNodes.LiveMasses.{held_at}
use Rattle.suit_reply.proofs.MostByNodes.MassesWithAMoveMore.{masses_pass, masses_stay}
use Rattle.suit_reply.proofs.MostIsBounded.{live_positive, mass_sum, node_pays, sum_falls}
use Rattle.suit_reply.proofs.MostByNodes.Cases.{MostCase, masses_at, most_next}
use Rattle.suit_reply.proofs.OneMoreAdded.{le_through}
use Rattle.suit_game.specs.declared.limits.TheConstants.{MOST_MOVES, HAND_SIZE}

-- ---- what is known of a node

-- the nodes below a node, which stand there with one move less
pub record HasBelow (more : ℕ) (question : Question) (history : ClassHistory) (node : Node) : Type 0 where
  pub less : ℕ
  pub is : more ≡ suc less
  pub fit : AreChildren less question history (children_of node)

-- a node with nodes below stands where moves may follow
pub has_below : (more : ℕ) (question : Question) (history : ClassHistory) (node : Node) (i : ℕ)
    → IsTreeAt more question history node → i < length (children_of node) → HasBelow more question history node
unfolding IsTreeAt
has_below zero question history node i tree below =
    absurd (omega (arith, below, ap (λ (l : List Node). length l) tree.1))
has_below (suc more) question history node i tree below = record { less = more; is = refl; fit = tree.1 }

kept_masses : (turn : ClassTurn) (layouts : List (ClassLayout × ℕ)) (rows : List DefenceRow) (nodes : List Node)
    (history : ClassHistory) (masses : LayoutMasses) (child : Node)
    → is_declarers turn ≡ true → shared_masses turn layouts rows nodes history masses child ≡ masses
kept_masses turns.Lead layouts rows nodes history masses child own = refl
kept_masses (turns.Declarer seat) layouts rows nodes history masses child own = refl
kept_masses (turns.Defence seat) layouts rows nodes history masses child own = absurd (false≢true own)
kept_masses turns.Decided layouts rows nodes history masses child own = absurd (false≢true own)

passed_masses : (turn : ClassTurn) (layouts : List (ClassLayout × ℕ)) (rows : List DefenceRow) (nodes : List Node)
    (history : ClassHistory) (masses : LayoutMasses) (child : Node)
    → is_defences turn ≡ true
    → shared_masses turn layouts rows nodes history masses child
    ≡ filter is_live (map (layout_share layouts rows nodes history (move_of child))
    (filter (λ held. holds_index held.0 child) masses))
passed_masses turns.Lead layouts rows nodes history masses child theirs = absurd (false≢true theirs)
passed_masses (turns.Declarer seat) layouts rows nodes history masses child theirs = absurd (false≢true theirs)
passed_masses (turns.Defence seat) layouts rows nodes history masses child theirs = refl
passed_masses turns.Decided layouts rows nodes history masses child theirs = absurd (false≢true theirs)

-- a decided class history gathers nothing
pub none_gathered : (rule : TurnRule) (turn : ClassTurn) → turn ≡ turns.Decided → most_gathers turn ≡ Some rule → ⊥
none_gathered rule turn over gathers = absurd (nothing_some (sym (ap most_gathers over) ∙ gathers))
  where
    nothing_some : None ≡ Some rule → ⊥
    nothing_some same = cc

-- a step to the node below at an index: the history with the move to it, and what the masses become there
pub record IsStep (layouts : List (ClassLayout × ℕ)) (rows : List DefenceRow) (history : ClassHistory)
    (masses : LayoutMasses) (node : Node) (i : ℕ) (child : Node) (next : ClassHistory)
    (passed : LayoutMasses) : Type 0 where
  pub within : i < length (children_of node)
  pub there : child ≡ get_or (children_of node) i child
  pub after : next ≡ history ++ move_of child ∷ []
  pub share : passed ≡ shared_masses (turn_at node) layouts rows (children_of node) history masses child

-- a step, by what is known of its parts
pub step_from : (layouts : List (ClassLayout × ℕ)) (rows : List DefenceRow) (history : ClassHistory)
    (masses : LayoutMasses)
    (node : Node) (i : ℕ) (child : Node) (next : ClassHistory)
    (passed : LayoutMasses) (nodes : List Node) (begun shown : ClassHistory) (move : ClassMove)
    → nodes ≡ children_of node → i < length nodes → child ≡ get_or nodes i child → begun ≡ history → shown ≡ begun
    → move ≡ move_of child → next ≡ begun ++ move ∷ []
    → passed ≡ shared_masses (turn_at node) layouts rows (children_of node) shown masses child
    → IsStep layouts rows history masses node i child next passed
step_from layouts rows history masses node i child next passed nodes begun shown move are within there kept seen by
    pushed share = record {
      within = subst (λ (l : List Node). i < length l) are within;
      there = there ∙ ap (λ (l : List Node). get_or l i child) are;
      after = pushed ∙ ap (λ (h : ClassHistory). h ++ move ∷ []) kept ∙ ap (λ (m : ClassMove). history ++ m ∷ []) by;
      share = share
          ∙ ap (λ (h : ClassHistory). shared_masses (turn_at node) layouts rows (children_of node) h masses child)
          (seen ∙ kept);
    }

module _ (layouts : List (ClassLayout × ℕ)) (rows : List DefenceRow) (history : ClassHistory) (masses : LayoutMasses)
    (node : Node) (is : MostNode layouts rows history masses node) where
  -- a node is asked for the reply from a class history on that some class layout allows
  pub node_case : MostCase (MOST_MOVES - length history) is.question is.defence history
  node_case = record {
    valid = is.valid;
    proper = is.proper;
    realised =
        λ index found. defences_are_realised is.question is.defence (layout_counts is.question index) is.valid is.proper
        (index_weighs is.question index is.valid found).1;
    some = is.some;
    left = refl;
  }

  -- the rows that a node is given stand in order
  pub node_order : InOrder defence_row_before rows
  node_order = subst (InOrder defence_row_before) is.is_rows (defence_in_order is.question is.defence is.proper)

  -- the masses that it is given stand at indices of class layouts
  pub node_indices : All (λ held. held.0 < length layouts) masses
  node_indices =
      let within : ℕ × ℤ → Type 0 = λ held. held.0 < length layouts in
      let indices : Indices = allowing is.question history in
      All-same within masses (masses_at is.question is.defence history) is.are_masses
      (All-filter is_live within (map (held_at (mass_at is.question is.defence history)) indices)
      (All-map within (held_at (mass_at is.question is.defence history)) indices
      (All-weaker (Contains indices) (λ index. index < length layouts)
      (λ index found. subst (λ (l : List (ClassLayout × ℕ)). index < length l) is.is_layouts
      ((kept_layouts is.question history index is.valid).0 found).0)
      indices (All-contains_itself indices))))

  -- none of them is negative
  pub node_positive : All (λ held. pos 0 ≤ℤ held.1) masses
  node_positive =
      let listed : LayoutMasses = masses_at is.question is.defence history in
      All-same (λ (held : ℕ × ℤ). pos 0 ≤ℤ held.1) masses listed is.are_masses
      (λ k d below. live_positive is.question is.defence history (get_or listed k d) (Contains-get_or listed k d below))

  -- it pays at most thirteen tricks
  pub node_payoff : payoff_at node ≤ HAND_SIZE
  node_payoff =
      node_pays is.question is.defence (MOST_MOVES - length history) history node (node_case)
      (tree_stands (MOST_MOVES - length history) is.question history node is.tree)

  -- ---- the nodes below

  -- where there is a node below, the history has fewer than 52 moves
  room_below : (i : ℕ) → i < length (children_of node) → length history < MOST_MOVES
  room_below i below = omega (arith, (has_below (MOST_MOVES - length history) is.question history node i is.tree below).is)

  -- the masses of a node below are what the defence lets through there
  pub masses_below : (rule : TurnRule) → most_gathers (turn_at node) ≡ Some rule
      → (below : HasBelow (MOST_MOVES - length history) is.question history node) (move : ClassMove) (child : Node)
      → Contains (moves_on is.question history) move → AreBelow below.less is.question history move child
      → shared_masses (turn_at node) layouts rows (children_of node) history masses child
      ≡ masses_at is.question is.defence (history ++ move ∷ [])
  masses_below rule gathers below move child found fits = at (whose_turn (class_after is.question history))
    where
      stands : StandsAt is.question history node
      stands = tree_stands (MOST_MOVES - length history) is.question history node is.tree

      case : MostCase (suc below.less) is.question is.defence history
      case = subst (λ (more : ℕ). MostCase more is.question is.defence history) below.is (node_case)

      pass_on : List (ClassLayout × ℕ) → List DefenceRow → ClassMove → LayoutMasses → LayoutMasses
      pass_on all given by before =
          filter is_live (map (layout_share all given (children_of node) history by)
          (filter (λ held. holds_index held.0 child) before))

      at : WhoseTurn (class_after is.question history)
          → shared_masses (turn_at node) layouts rows (children_of node) history masses child
          ≡ masses_at is.question is.defence (history ++ move ∷ [])
      at (Over decided turn) = absurd (none_gathered rule (turn_at node) (stands.turn ∙ turn) gathers)
      at (Declarers going own not_theirs) =
          kept_masses (turn_at node) layouts rows (children_of node) history masses child
          (ap is_declarers stands.turn ∙ own)
          ∙ is.are_masses
          ∙ sym (masses_stay is.question is.defence history move is.valid own not_theirs found)
      at (Defences going not_own theirs) =
          passed_masses (turn_at node) layouts rows (children_of node) history masses child
          (ap is_defences stands.turn ∙ theirs)
          ∙ ap (λ (l : List (ClassLayout × ℕ)). pass_on l rows (move_of child) masses) (sym is.is_layouts)
          ∙ ap (λ (l : List DefenceRow). pass_on (layouts_of is.question) l (move_of child) masses) (sym is.is_rows)
          ∙ ap (λ (m : ClassMove). pass_on (layouts_of is.question) is.defence.rows m masses)
          (ap (λ to. unwrap_or to ShowOut) fits.0)
          ∙ ap (pass_on (layouts_of is.question) is.defence.rows move) is.are_masses
          ∙ masses_pass is.question is.defence history move below.less (children_of node) child case going theirs
          below.fit fits

  child_asked : (rule : TurnRule) (i : ℕ) (d : Node) → most_gathers (turn_at node) ≡ Some rule
      → i < length (children_of node)
      → MostNode layouts rows (history ++ move_of (get_or (children_of node) i d) ∷ [])
      (shared_masses (turn_at node) layouts rows (children_of node) history masses (get_or (children_of node) i d))
      (get_or (children_of node) i d)
  child_asked rule i d gathers within =
      let child : Node = get_or (children_of node) i d in
      let below = has_below (MOST_MOVES - length history) is.question history node i is.tree within in
      let at =
      fitted_at (AreBelow below.less is.question history) (moves_on is.question history) (children_of node) i d
      below.fit within in
      let move : ClassMove = at.0 in
      let case : MostCase (suc below.less) is.question is.defence history =
      subst (λ (more : ℕ). MostCase more is.question is.defence history) below.is (node_case) in
      let next : MostCase below.less is.question is.defence (history ++ move ∷ []) =
      most_next is.question is.defence below.less history move case at.1 in
      let same = masses_below rule gathers below move child at.1 at.2 in
      let sum : LayoutMasses → ℤ = λ part. sum_of (map (λ (held : ℕ × ℤ). held.1) part) in
      let falls : mass_sum is.question is.defence (history ++ move ∷ []) ≤ℤ mass_sum is.question is.defence history =
      sum_falls is.question is.defence below.less history move case at.1 in
      subst (λ (m : ClassMove). MostNode layouts rows (history ++ m ∷ [])
      (shared_masses (turn_at node) layouts rows (children_of node) history masses child) child)
      (sym (ap (λ to. unwrap_or to ShowOut) at.2.0))
      (record {
        question = is.question;
        defence = is.defence;
        valid = is.valid;
        proper = is.proper;
        is_layouts = is.is_layouts;
        is_rows = is.is_rows;
        some = next.some;
        tree = subst (λ (more : ℕ). IsTreeAt more is.question (history ++ move ∷ []) child) next.left at.2.1;
        are_masses = same;
        within = subst (λ (part : LayoutMasses). sum part ≤ℤ pos MOST_MASS) (sym same)
            (le_through (mass_sum is.question is.defence (history ++ move ∷ []))
            (mass_sum is.question is.defence history) (pos MOST_MASS) falls
            (subst (λ (part : LayoutMasses). sum part ≤ℤ pos MOST_MASS) is.are_masses is.within));
      })

  -- a node below is asked for the reply after the step to it
  pub asked_below : (rule : TurnRule) (i : ℕ) (child : Node) (next : ClassHistory) (passed : LayoutMasses)
      → Some rule ≡ most_gathers (turn_at node) → IsStep layouts rows history masses node i child next passed
      → MostNode layouts rows next passed child
  asked_below rule i child next passed gathers step =
      let after_move : Node → Type 0 =
      λ other. MostNode layouts rows (history ++ move_of other ∷ [])
      (shared_masses (turn_at node) layouts rows (children_of node) history masses other) other in
      let asked : after_move child =
      subst after_move (sym step.there) (child_asked rule i child (sym gathers) step.within) in
      subst (λ (h : ClassHistory). MostNode layouts rows h passed child) (sym step.after)
      (subst (λ (part : LayoutMasses). MostNode layouts rows (history ++ move_of child ∷ []) part child)
      (sym step.share) asked)

  -- and fewer moves may follow there
  pub room_falls : (i : ℕ) (child : Node) (next : ClassHistory) (passed : LayoutMasses) (room : ℕ)
      → IsStep layouts rows history masses node i child next passed → MOST_MOVES - length history ≡ room
      → MOST_MOVES - length next < room
  room_falls i child next passed room step left =
      omega (arith, left, ap length step.after, length-append history (move_of child ∷ []), room_below i step.within)
