-- all_told: how the defence's reply to a plan is found at a node, child by child.
pub mod SumsStayBounded
use Rattle.std.proofs.Common.{◌≡◌, ◌⊎◌, of_z, ℕ, zero, suc, ◌+◌, ◌-◌, ◌<◌, ◌≤◌, Bool, true, false, cond, List, [], ◌∷◌}
use Rattle.std.proofs.Common.{◌++◌, length, map, take, refl, sym, ap, ◌∙◌, subst, inl, inr, arith}
use Rattle.std.specs.Prelude.{Contains, filter, get_or, if◌then◌else◌, pos, unwrap_or, ℤ, ◌*ℤ◌, ◌≤ℤ◌}
use Rattle.std.specs.Ordering.{int_eq}
use Rattle.std.proofs.lemmas.Bool.{false≢true, false_from_ne_true}
use Rattle.std.proofs.lemmas.Bool.Decides.{Decides-int_eq}
use Rattle.std.specs.Int.{w128}
use Rattle.std.proofs.lemmas.List.{append-nil, length-append, take_all, take_more}
use Rattle.std.proofs.lemmas.List.Elements.{Contains-get_or, filter-append}
use Rattle.suit_lists.proofs.Elements.{Contains-nil, Contains-same}
use Rattle.suit_cards.specs.declared.seats.Seat.{Seat}
use Rattle.suit_cards.specs.Cards.{Indices}
use Rattle.suit_game.specs.declared.question.Question.{Question}
use Rattle.suit_classes.specs.declared.class_moves.ClassMove.{ClassMove}
use Rattle.suit_classes.specs.declared.class_turn.ClassTurn.{ClassTurn}
use Rattle.suit_classes.specs.declared.class_turn.ClassTurn.TheVariants as turns
use Rattle.suit_classes.specs.declared.class_view.ClassView.{ClassView}
use Rattle.suit_classes.specs.ClassPlaces.{class_after, class_moves}
use Rattle.suit_classes.specs.ClassMoves.{ClassHistory}
use Rattle.suit_classes.specs.declared.class_moves.ClassMove.TheVariants.{ShowOut}
use Rattle.suit_plans.specs.Masses.{declarer, is_declarers, is_defences, is_first, plan_shares_at, plan_mass, share}
use Rattle.suit_plans.specs.Orders.{InOrder, plan_row_before}
use Rattle.suit_plans.specs.declared.plan.Plan.{Plan}
use Rattle.suit_plans.specs.declared.plan.Row.{Row}
use Rattle.suit_plans.proofs.MassBounds.{mass_falls}
use Rattle.suit_plans.proofs.ProperPlans.{plans_are_realised}
use Rattle.suit_plans.proofs.ProperOrders.{plan_in_order}
use Rattle.suit_plans.proofs.TurnMoves.{declarers_moves}
use Rattle.suit_tree.specs.Nodes.{children_of, holds_index, move_of, payoff_at, turn_at}
use Rattle.suit_tree.specs.Trees.{AllFit, IsTreeAt, StandsAt, allowing, moves_on}
use Rattle.suit_tree.specs.declared.node.Node.{Node}
use Rattle.suit_tree.proofs.NodePaths.{tree_stands}
use Rattle.suit_reply.specs.declared.turn_rule.TurnRule.{TurnRule}
use Rattle.suit_reply.specs.declared.turn_rule.TurnRule.TheVariants.{Sum, Least}
use Rattle.suit_reply.specs.NodeReplies.{NodeReplyView, nothing}
use Rattle.suit_reply.specs.Turns.{TurnView, finished, gathered, gathered_none, joined}
use Rattle.suit_reply.specs.AgainstPlan.{LeastNode, goes_to, least_at, node_least, nodes_for, plan_share}
use Rattle.suit_reply.specs.NodeMoves.{is_first_of}
use Rattle.suit_tree.proofs.NodesFitMoves.{fitted_node}
use Rattle.suit_reply.proofs.WorthAtATurn.SumOrBest.{found_with, gathered-push}
use Rattle.suit_plans.proofs.WhoseTurns.{Declarers, Defences, Over, WhoseTurn, whose_turn}
use Rattle.suit_tree.proofs.ClassMovesLeadToNodes.{held_decides, index_goes_on}
use Rattle.suit_tree.specs.Nodes.{is_held}
use Rattle.suit_reply.proofs.OwnMovesGoOn.{AreBelow, AreChildren, IsGoing, layout_counts, layout_moves, moves_below}
use Rattle.suit_reply.proofs.OwnMovesGoOn.{own_moves_on}
use Rattle.suit_reply.proofs.LeastByNodes.{own_mass}
use Rattle.suit_reply.proofs.LeastByNodes.Cases.{LeastCase, case_allows}
use Rattle.suit_reply.proofs.OneMoreAdded.{le_through}
use Rattle.suit_game.specs.declared.limits.TheConstants.{MOST_MOVES}
use Rattle.suit_plans.specs.declared.plan.TheConstants.{MOST_DEN}

-- a child's move with what is found below it, where at most so many moves follow
abbrev pub child_found : ℕ → List Row → ℕ → ClassHistory → ℤ → Node → Node → ClassMove × NodeReplyView
child_found more rows index history mass node child = (
  move_of child,
  node_least more rows index (history ++ move_of child ∷ [])
      (plan_share (turn_at node) rows (children_of node) history mass (move_of child)) child,
)

-- what a node has gathered from some of its children
abbrev pub gathered_from : TurnRule → List Row → ℕ → ClassHistory → ℤ → Node → List Node → TurnView
gathered_from rule rows index history mass node nodes =
    gathered rule (map (child_found (MOST_MOVES - length history - 1) rows index history mass node) nodes)

-- what the first children gathered
abbrev pub first_gathered : TurnRule → List Row → ℕ → ClassHistory → ℤ → Node → List Node → ℕ → TurnView
first_gathered rule rows index history mass node children i =
    gathered_from rule rows index history mass node (nodes_for (turn_at node) index (take i children))

-- how a turn gathers that is not decided
abbrev pub Gathers : ClassTurn → TurnRule → Type 0
Gathers turns.Lead rule = rule ≡ Sum
Gathers (turns.Declarer seat) rule = rule ≡ Sum
Gathers (turns.Defence seat) rule = rule ≡ Least
Gathers turns.Decided rule = ⊥

-- a turn of declarer's gathers the sum
pub gathers_own : (turn : ClassTurn) (rule : TurnRule)
    → ((turn ≡ turns.Lead) ⊎ ((seat : Seat) × (turn ≡ turns.Declarer seat))) → rule ≡ Sum → Gathers turn rule
gathers_own turn rule (inl lead) sum = subst (λ (t : ClassTurn). Gathers t rule) (sym lead) sum
gathers_own turn rule (inr own) sum = subst (λ (t : ClassTurn). Gathers t rule) (sym own.1) sum

-- and one of the defence's the least
pub gathers_their : (turn : ClassTurn) (rule : TurnRule) (seat : Seat) → turn ≡ turns.Defence seat → rule ≡ Least
    → Gathers turn rule
gathers_their turn rule seat theirs least = subst (λ (t : ClassTurn). Gathers t rule) (sym theirs) least

-- ---- the children to which play goes on

nodes_for-none : (turn : ClassTurn) (index : ℕ) → nodes_for turn index [] ≡ []
nodes_for-none turns.Lead index = refl
nodes_for-none (turns.Declarer seat) index = refl
nodes_for-none (turns.Defence seat) index = refl
nodes_for-none turns.Decided index = refl

unless_more : (nodes : List Node) (child : Node) (b : Bool) → true ≡ b
    → nodes ++ child ∷ [] ≡ nodes ++ cond b (child ∷ []) []
unless_more nodes child true is = refl
unless_more nodes child false is = absurd (false≢true (sym is))

-- one child more, if play goes on to it
pub nodes_for-push : (turn : ClassTurn) (index : ℕ) (nodes : List Node) (child : Node) (b : Bool)
    → goes_to turn index child ≡ b
    → nodes_for turn index (nodes ++ child ∷ []) ≡ nodes_for turn index nodes ++ cond b (child ∷ []) []
nodes_for-push turns.Lead index nodes child b is = unless_more nodes child b is
nodes_for-push (turns.Declarer seat) index nodes child b is = unless_more nodes child b is
nodes_for-push turns.Decided index nodes child b is = unless_more nodes child b is
nodes_for-push (turns.Defence seat) index nodes child b is =
    filter-append (holds_index index) nodes (child ∷ [])
    ∙ ap (λ (c : Bool). filter (holds_index index) nodes ++ cond c (child ∷ []) []) is

-- nothing is gathered from no children
pub gathered_first : (rule : TurnRule) (rows : List Row) (index : ℕ) (history : ClassHistory) (mass : ℤ) (node : Node)
    (turn : ClassTurn)
    → gathered_none ≡ gathered_from rule rows index history mass node (nodes_for turn index [])
unfolding gathered
gathered_first rule rows index history mass node turn =
    ap (gathered_from rule rows index history mass node) (sym (nodes_for-none turn index))

-- what is gathered is what is found at the turn
pub finished_at : (turn : ClassTurn) (rule : TurnRule) (payoff : ℕ) (mass : ℤ) (history : ClassHistory)
    (results : List (ClassMove × NodeReplyView)) → Gathers turn rule
    → finished rule history (gathered rule results) ≡ least_at turn payoff mass history results
finished_at turns.Lead rule payoff mass history results is =
    ap (λ (h : TurnRule). finished h history (gathered h results)) is
finished_at (turns.Declarer seat) rule payoff mass history results is =
    ap (λ (h : TurnRule). finished h history (gathered h results)) is
finished_at (turns.Defence seat) rule payoff mass history results is =
    ap (λ (h : TurnRule). finished h history (gathered h results)) is
finished_at turns.Decided rule payoff mass history results is = absurd is

-- what a node tells where some mass comes to it
pub opened : (more : ℕ) (question : Question) (rows : List Row) (index : ℕ) (history : ClassHistory) (mass : ℤ)
    (node : Node) → IsTreeAt more question history node → int_eq mass (pos 0) ≡ false
    → node_least more rows index history mass node
    ≡ least_at (turn_at node) (payoff_at node) mass history
    (map (child_found (more - 1) rows index history mass node) (nodes_for (turn_at node) index (children_of node)))
unfolding node_least IsTreeAt
opened zero question rows index history mass node tree some =
    ap (λ (b : Bool). if b then nothing else least_at (turn_at node) (payoff_at node) mass history []) some
    ∙ ap (λ (l : List Node). least_at (turn_at node) (payoff_at node) mass history
    (map (child_found (0 - 1) rows index history mass node) l))
    (sym (ap (nodes_for (turn_at node) index) tree.1 ∙ nodes_for-none (turn_at node) index))
opened (suc more) question rows index history mass node tree some =
    let less : more ≡ suc more - 1 = omega arith in
    let told : ℕ → NodeReplyView =
    λ fuel. least_at (turn_at node) (payoff_at node) mass history
    (map (child_found fuel rows index history mass node) (nodes_for (turn_at node) index (children_of node))) in
    ap (λ (b : Bool). if b then nothing else told more) some ∙ ap told less

-- and where none does
pub closed : (more : ℕ) (rows : List Row) (index : ℕ) (history : ClassHistory) (mass : ℤ) (node : Node)
    → int_eq mass (pos 0) ≡ true → node_least more rows index history mass node ≡ nothing
unfolding node_least
closed zero rows index history mass node none =
    ap (λ (b : Bool). if b then nothing else least_at (turn_at node) (payoff_at node) mass history []) none
closed (suc more) rows index history mass node none =
    ap (λ (b : Bool).
    if b then nothing
    else least_at (turn_at node) (payoff_at node) mass history
    (map (child_found more rows index history mass node) (nodes_for (turn_at node) index (children_of node)))) none

-- ---- a child of a node

-- a child of a node of the tree, by a move with which the tree goes on
pub record IsChild (more : ℕ) (question : Question) (history : ClassHistory) (node child : Node) : Type 0 where
  pub some : 0 < more
  pub move : ClassMove
  pub on : Contains (moves_on question history) move
  pub below : AreBelow (more - 1) question history move child
  pub all : AreChildren (more - 1) question history (children_of node)

-- each child is by such a move
pub child_at : (more : ℕ) (question : Question) (history : ClassHistory) (node child : Node)
    → IsTreeAt more question history node → Contains (children_of node) child
    → IsChild more question history node child
unfolding IsTreeAt
child_at zero question history node child tree found =
    absurd (Contains-nil child (Contains-same child tree.1 found))
child_at (suc more) question history node child tree found =
    let less : more ≡ suc more - 1 = omega arith in
    let fit : AreChildren (suc more - 1) question history (children_of node) =
    subst (λ (n : ℕ). AllFit (AreBelow n question history) (moves_on question history) (children_of node)) less
    tree.1 in
    let by =
    fitted_node (AreBelow (suc more - 1) question history) (moves_on question history) (children_of node) child fit
    found in
    record { some = omega arith; move = by.0; on = by.1; below = by.2; all = fit }

not_over : (turn : ClassTurn) (rule : TurnRule) → Gathers turn rule → turn ≡ turns.Decided → ⊥
not_over turn rule gathers over = subst (λ (t : ClassTurn). Gathers t rule) over gathers

-- a turn that gathers goes on
pub going_at : (question : Question) (history : ClassHistory) (node : Node) (rule : TurnRule)
    → StandsAt question history node → Gathers (turn_at node) rule → WhoseTurn (class_after question history)
    → IsGoing question history
going_at question history node rule stands gathers (Over decided turn) =
    absurd (not_over (turn_at node) rule gathers (stands.turn ∙ turn))
going_at question history node rule stands gathers (Declarers going own not_theirs) = going
going_at question history node rule stands gathers (Defences going not_own theirs) = going

own_share : (turn : ClassTurn) (rows : List Row) (nodes : List Node) (history : ClassHistory) (mass : ℤ)
    (move : ClassMove) → is_declarers turn ≡ true
    → plan_share turn rows nodes history mass move
    ≡ share (plan_shares_at rows history) (is_first_of nodes move) mass move
own_share turns.Lead rows nodes history mass move own = refl
own_share (turns.Declarer seat) rows nodes history mass move own = refl
own_share (turns.Defence seat) rows nodes history mass move own = absurd (false≢true own)
own_share turns.Decided rows nodes history mass move own = absurd (false≢true own)

their_share : (turn : ClassTurn) (rows : List Row) (nodes : List Node) (history : ClassHistory) (mass : ℤ)
    (move : ClassMove) → is_defences turn ≡ true
    → plan_share turn rows nodes history mass move ≡ mass
their_share turns.Lead rows nodes history mass move theirs = absurd (false≢true theirs)
their_share (turns.Declarer seat) rows nodes history mass move theirs = absurd (false≢true theirs)
their_share (turns.Defence seat) rows nodes history mass move theirs = refl
their_share turns.Decided rows nodes history mass move theirs = absurd (false≢true theirs)

their_children : (turn : ClassTurn) (index : ℕ) (child : Node) → is_defences turn ≡ true
    → goes_to turn index child ≡ holds_index index child
their_children turns.Lead index child theirs = absurd (false≢true theirs)
their_children (turns.Declarer seat) index child theirs = absurd (false≢true theirs)
their_children (turns.Defence seat) index child theirs = refl
their_children turns.Decided index child theirs = absurd (false≢true theirs)

-- at a turn of declarer's play goes on to all children
pub own_children : (turn : ClassTurn) (index : ℕ) (nodes : List Node) → is_declarers turn ≡ true
    → nodes_for turn index nodes ≡ nodes
own_children turns.Lead index nodes own = refl
own_children (turns.Declarer seat) index nodes own = refl
own_children (turns.Defence seat) index nodes own = absurd (false≢true own)
own_children turns.Decided index nodes own = absurd (false≢true own)

module _ (question : Question) (plan : Plan) (index : ℕ) where
  -- the mass of the plan with a move more
  pub shared_mass : (more : ℕ) (history : ClassHistory) (mass : ℤ) (node : Node) (other : ClassMove)
      → LeastCase (suc more) question plan index history → StandsAt question history node
      → AreChildren more question history (children_of node) → mass ≡ plan_mass question plan history
      → IsGoing question history → WhoseTurn (class_after question history)
      → plan_share (turn_at node) plan.rows (children_of node) history mass other
      ≡ plan_mass question plan (history ++ other ∷ [])
  unfolding plan_mass
  shared_mass more history mass node other is stands fit same going (Over decided turn) =
      absurd (false≢true (sym going ∙ decided))
  shared_mass more history mass node other is stands fit same going (Declarers undecided own not_theirs) =
      let view : ClassView = class_after question history in
      let nodes : List Node = children_of node in
      let firsts : map move_of nodes ≡ class_moves view [] =
      moves_below more question history nodes fit ∙ own_moves_on question history index is.valid is.held going own
      ∙ declarers_moves view (layout_counts question index) [] own in
      own_share (turn_at node) plan.rows nodes history mass other (ap is_declarers stands.turn ∙ own)
      ∙ ap (λ (l : List ClassMove). share (plan_shares_at plan.rows history) (is_first l other) mass other) firsts
      ∙ ap (λ (m : ℤ). share (plan_shares_at plan.rows history) (is_first (class_moves view []) other) m other) same
      ∙ sym (own_mass question plan history other own)
  shared_mass more history mass node other is stands fit same going (Defences undecided not_own theirs) =
      their_share (turn_at node) plan.rows (children_of node) history mass other (ap is_defences stands.turn ∙ theirs)
      ∙ same ∙ sym (is.realised.kept history other not_own)

  -- a child to which play goes on is by one of the class moves
  pub child_moves : (more : ℕ) (history : ClassHistory) (node child : Node) → LeastCase more question plan index history
      → StandsAt question history node → (by : IsChild more question history node child)
      → goes_to (turn_at node) index child ≡ true → IsGoing question history → WhoseTurn (class_after question history)
      → Contains (layout_moves question index history) by.move
  child_moves more history node child is stands by goes going (Over decided turn) =
      absurd (false≢true (sym going ∙ decided))
  child_moves more history node child is stands by goes going (Declarers undecided own not_theirs) =
      Contains-same by.move
      (own_moves_on question history index is.valid is.held going own) by.on
  child_moves more history node child is stands by goes going (Defences undecided not_own theirs) =
      let indices : Indices = allowing question (history ++ by.move ∷ []) in
      let holds : holds_index index child ≡ true =
      sym (their_children (turn_at node) index child (ap is_defences stands.turn ∙ theirs)) ∙ goes in
      let held : is_held index indices ≡ true =
      sym (ap (is_held index) (tree_stands (more - 1) question (history ++ by.move ∷ []) child by.below.1).layouts)
      ∙ holds in
      (index_goes_on question history by.move index is.valid is.held).0 ((held_decides index indices).0 held)

  mass_within : (more : ℕ) (history : ClassHistory) (move : ClassMove) (top : ℤ)
      → LeastCase more question plan index history → Contains (layout_moves question index history) move
      → plan_mass question plan history ≤ℤ top → plan_mass question plan (history ++ move ∷ []) ≤ℤ top
  unfolding plan_mass
  mass_within more history move top is found within =
      le_through (plan_mass question plan (history ++ move ∷ [])) (plan_mass question plan history) top
      (mass_falls question (declarer plan.den plan.rows) (layout_counts question index) history move is.realised
      (case_allows question plan index more history is) found) within

-- a number above 0 follows the one before it
pub as_next : (more : ℕ) → 0 < more → more ≡ suc (more - 1)
as_next more some = omega (arith, some)

-- ---- what a node is asked for, and what it tells

-- with one to which it does not
pub passed_by : (rule : TurnRule) (rows : List Row) (index : ℕ) (history : ClassHistory) (mass : ℤ) (node : Node)
    (i : ℕ) (child : Node) (so_far : TurnView)
    → i < length (children_of node) → child ≡ get_or (children_of node) i child
    → goes_to (turn_at node) index child ≡ false
    → so_far ≡ first_gathered rule rows index history mass node (children_of node) i
    → so_far ≡ first_gathered rule rows index history mass node (children_of node) (i + 1)
passed_by rule rows index history mass node i child so_far within at stays was =
    let longer : take (i + 1) (children_of node) ≡ take i (children_of node) ++ child ∷ [] =
    take_more (children_of node) i child within ∙ ap (λ (n : Node). take i (children_of node) ++ n ∷ []) (sym at) in
    was
    ∙ ap (gathered_from rule rows index history mass node)
    (sym (ap (nodes_for (turn_at node) index) longer
    ∙ nodes_for-push (turn_at node) index (take i (children_of node)) child false stays
    ∙ append-nil (nodes_for (turn_at node) index (take i (children_of node)))))

module _ (rows : List Row) (index : ℕ) (history : ClassHistory) (mass : ℤ) (node : Node)
    (is : LeastNode rows index history mass node) where
  -- a node is asked for the reply to a plan from its class history on
  pub node_case : LeastCase (MOST_MOVES - length history) is.question is.plan index history
  node_case = record {
    valid = is.valid;
    proper = is.proper;
    realised = plans_are_realised is.question is.plan (layout_counts is.question index) is.valid is.proper;
    held = is.held;
    left = refl;
  }

  -- the rows of a proper plan stand in order
  pub node_rows : InOrder plan_row_before rows
  node_rows = subst (InOrder plan_row_before) is.is_rows (plan_in_order is.question is.plan is.proper)

  -- a child to which play goes on is asked in its turn
  pub child_case : (child : Node) (rule : TurnRule) → Contains (children_of node) child
      → goes_to (turn_at node) index child ≡ true → Gathers (turn_at node) rule
      → LeastNode rows index (history ++ move_of child ∷ [])
      (plan_share (turn_at node) rows (children_of node) history mass (move_of child)) child
  child_case child rule found goes gathers =
      let question : Question = is.question in
      let plan : Plan = is.plan in
      let more : ℕ = MOST_MOVES - length history in
      let by = child_at more question history node child is.tree found in
      let stands = tree_stands more question history node is.tree in
      let turn = whose_turn (class_after question history) in
      let going : IsGoing question history = going_at question history node rule stands gathers turn in
      let here = node_case in
      let there : LeastCase (suc (more - 1)) question plan index history =
      subst (λ (n : ℕ). LeastCase n question plan index history) (as_next more by.some) here in
      let goes_on = child_moves question plan index more history node child here stands by goes going turn in
      let moved : by.move ≡ move_of child = sym (ap (λ to. unwrap_or to ShowOut) by.below.0) in
      let shared : plan_share (turn_at node) rows (children_of node) history mass (move_of child)
      ≡ plan_mass question plan (history ++ move_of child ∷ []) =
      ap (λ (l : List Row). plan_share (turn_at node) l (children_of node) history mass (move_of child))
      (sym is.is_rows)
      ∙ shared_mass question plan index (more - 1) history mass node (move_of child) there stands by.all is.is_mass
      going turn in
      let within : plan_mass question plan (history ++ by.move ∷ []) ≤ℤ MOST_DEN =
      mass_within question plan index more history by.move (MOST_DEN) here goes_on
      (subst (λ (z : ℤ). z ≤ℤ MOST_DEN) is.is_mass is.within) in
      let next : more - 1 ≡ MOST_MOVES - length (history ++ by.move ∷ []) =
      omega (arith, length-append history (by.move ∷ [])) in record {
        question = question;
        plan = plan;
        valid = is.valid;
        proper = is.proper;
        is_rows = is.is_rows;
        held = subst (λ (m : ClassMove). Contains (allowing question (history ++ m ∷ [])) index) moved
            ((index_goes_on question history by.move index is.valid is.held).1 goes_on);
        tree = subst (λ (m : ClassMove). IsTreeAt (MOST_MOVES - length (history ++ m ∷ [])) question (history ++ m ∷ []) child)
            moved
            (subst (λ (n : ℕ). IsTreeAt n question (history ++ by.move ∷ []) child) next by.below.1);
        is_mass = shared;
        within =
            subst (λ (z : ℤ). z ≤ℤ MOST_DEN) (sym shared)
            (subst (λ (m : ClassMove). plan_mass question plan (history ++ m ∷ []) ≤ℤ MOST_DEN) moved within);
      }

  -- all children told, that is what the node tells
  pub all_told : (rule : TurnRule) (i : ℕ) (so_far : TurnView) (found : NodeReplyView) → Gathers (turn_at node) rule
      → int_eq mass (pos 0) ≡ false → length (children_of node) ≤ i
      → so_far ≡ first_gathered rule rows index history mass node (children_of node) i
      → found ≡ finished rule history so_far → found ≡ node_least (MOST_MOVES - length history) rows index history mass node
  all_told rule i so_far found gathers some past was told =
      let nodes : List Node = children_of node in
      told
      ∙ ap (finished rule history) (was
      ∙ ap (λ (l : List Node). gathered_from rule rows index history mass node (nodes_for (turn_at node) index l))
      (take_all i nodes past))
      ∙ finished_at (turn_at node) rule (payoff_at node) mass history
      (map (child_found (MOST_MOVES - length history - 1) rows index history mass node) (nodes_for (turn_at node) index nodes))
      gathers
      ∙ sym (opened (MOST_MOVES - length history) is.question rows index history mass node is.tree some)

  -- a decided node tells what is earned
  pub over_told : int_eq mass (pos 0) ≡ false → turn_at node ≡ turns.Decided
      → node_least (MOST_MOVES - length history) rows index history mass node ≡ found_with (pos (payoff_at node) *ℤ mass) []
  over_told some over =
      opened (MOST_MOVES - length history) is.question rows index history mass node is.tree some
      ∙ ap (λ (turn : ClassTurn). least_at turn (payoff_at node) mass history
      (map (child_found (MOST_MOVES - length history - 1) rows index history mass node)
      (nodes_for turn index (children_of node)))) over

-- ---- one child more

-- play goes on to the child at an index, by a move with which the plan passes on a part of the mass
pub record Goes (rule : TurnRule) (rows : List Row) (index : ℕ) (history : ClassHistory) (mass : ℤ) (node : Node)
    (i : ℕ) (child : Node) (move : ClassMove) (part : ℤ) : Type 0 where
  pub is : LeastNode rows index history mass node
  pub gathers : Gathers (turn_at node) rule
  pub within : i < length (children_of node)
  pub at : child ≡ get_or (children_of node) i child
  pub goes : goes_to (turn_at node) index child ≡ true
  pub moved : move ≡ move_of child
  pub shared : part ≡ plan_share (turn_at node) rows (children_of node) history mass move

-- so it does by what the code has seen
pub goes_at : (rule : TurnRule) (rows : List Row) (index : ℕ) (history : ClassHistory) (mass plain : ℤ) (node : Node)
    (i : ℕ) (child : Node) (move : ClassMove) (part shared : ℤ)
    (nodes : List Node) (turn : ClassTurn) (read kept : ClassHistory) → LeastNode rows index history plain node
    → mass ≡ plain → Gathers (turn_at node) rule → nodes ≡ children_of node
    → i < length nodes → child ≡ get_or nodes i child → turn ≡ turn_at node → true ≡ goes_to turn index child
    → move ≡ move_of child → part ≡ shared
    → shared ≡ plan_share (turn_at node) rows (children_of node) read mass move → read ≡ kept → kept ≡ history
    → Goes rule rows index history mass node i child move part
goes_at rule rows index history mass plain node i child move part shared nodes turn read kept is same gathers all within
    at on_turn goes moved whole passed reads keeps = record {
      is = subst (λ (z : ℤ). LeastNode rows index history z node) (sym same) is;
      gathers = gathers;
      within = subst (λ (l : List Node). i < length l) all within;
      at = at ∙ ap (λ (l : List Node). get_or l i child) all;
      goes = ap (λ (t : ClassTurn). goes_to t index child) (sym on_turn) ∙ sym goes;
      moved = moved;
      shared =
          whole ∙ passed ∙ ap (λ (h : ClassHistory). plan_share (turn_at node) rows (children_of node) h mass move)
          (reads ∙ keeps);
    }

module _ (rule : TurnRule) (rows : List Row) (index : ℕ) (history : ClassHistory) (mass : ℤ) (node : Node) (i : ℕ)
    (child : Node) (move : ClassMove) (part : ℤ) (on : Goes rule rows index history mass node i child move part) where
  -- the child is one of the node's
  pub goes_found : Contains (children_of node) child
  goes_found =
      subst (Contains (children_of node)) (sym on.at) (Contains-get_or (children_of node) i child on.within)

  -- the child is asked in its turn
  pub goes_asked : (after : ClassHistory) → after ≡ history ++ move ∷ [] → LeastNode rows index after part child
  goes_asked after pushed =
      let asked = child_case rows index history mass node on.is child rule (goes_found) on.goes on.gathers in
      let moved : LeastNode rows index (history ++ move ∷ [])
      (plan_share (turn_at node) rows (children_of node) history mass move) child =
      subst (λ (m : ClassMove). LeastNode rows index (history ++ m ∷ [])
      (plan_share (turn_at node) rows (children_of node) history mass m) child) (sym on.moved) asked in
      subst (λ (h : ClassHistory). LeastNode rows index h part child) (sym pushed)
      (subst (λ (m : ℤ). LeastNode rows index (history ++ move ∷ []) m child) (sym on.shared) moved)

  -- fewer moves may follow it
  pub goes_shorter : (after : ClassHistory) → after ≡ history ++ move ∷ [] → MOST_MOVES - length after < MOST_MOVES - length history
  goes_shorter after pushed =
      let by = child_at (MOST_MOVES - length history) on.is.question history node child on.is.tree (goes_found) in
      omega (arith, by.some, ap (λ (l : List ClassMove). length l) pushed, length-append history (move ∷ []))

  -- what it tells is what is found below it
  pub goes_told : (after : ClassHistory) (found : NodeReplyView) → after ≡ history ++ move ∷ []
      → found ≡ node_least (MOST_MOVES - length after) rows index after part child
      → found ≡ (child_found (MOST_MOVES - length history - 1) rows index history mass node child).1
  goes_told after found pushed told =
      let less : MOST_MOVES - length after ≡ MOST_MOVES - length history - 1 =
      omega (arith, ap (λ (l : List ClassMove). length l) pushed, length-append history (move ∷ [])) in
      told
      ∙ ap (λ (n : ℕ). node_least n rows index after part child) less
      ∙ ap (λ (h : ClassHistory). node_least (MOST_MOVES - length history - 1) rows index h part child) pushed
      ∙ ap (λ (m : ℤ). node_least (MOST_MOVES - length history - 1) rows index (history ++ move ∷ []) m child) on.shared
      ∙ ap (λ (m : ClassMove). node_least (MOST_MOVES - length history - 1) rows index (history ++ m ∷ [])
      (plan_share (turn_at node) rows (children_of node) history mass m) child) on.moved

  -- with one child more to which play goes on
  pub goes_joined : (so_far after : TurnView) (found : NodeReplyView)
      → so_far ≡ first_gathered rule rows index history mass node (children_of node) i
      → found ≡ (child_found (MOST_MOVES - length history - 1) rows index history mass node child).1
      → after ≡ joined rule so_far move found
      → after ≡ first_gathered rule rows index history mass node (children_of node) (i + 1)
  goes_joined so_far after found was told joins =
      let before : List Node = nodes_for (turn_at node) index (take i (children_of node)) in
      let next : ClassMove × NodeReplyView = child_found (MOST_MOVES - length history - 1) rows index history mass node child in
      let longer : take (i + 1) (children_of node) ≡ take i (children_of node) ++ child ∷ [] =
      take_more (children_of node) i child on.within
      ∙ ap (λ (n : Node). take i (children_of node) ++ n ∷ []) (sym on.at) in
      joins
      ∙ ap (λ (g : TurnView). joined rule g move found) was
      ∙ ap (λ (m : ClassMove). joined rule (gathered_from rule rows index history mass node before) m found) on.moved
      ∙ ap (joined rule (gathered_from rule rows index history mass node before) (move_of child)) told
      ∙ sym (gathered-push rule (child_found (MOST_MOVES - length history - 1) rows index history mass node) before child)
      ∙ ap (gathered_from rule rows index history mass node)
      (sym (ap (nodes_for (turn_at node) index) longer
      ∙ nodes_for-push (turn_at node) index (take i (children_of node)) child true on.goes))

-- ---- what the code has seen

-- a mass that is not 0 to the code is not 0
pub some_mass : (mass : ℤ) → (of_z w128 mass ≡ 0 → ⊥) → int_eq mass (pos 0) ≡ false
some_mass mass some =
    false_from_ne_true (int_eq mass (pos 0)) (λ none. some (ap (of_z w128) ((Decides-int_eq mass (pos 0)).0 none)))

-- what a move is added to is the node's history
pub added_to : (history kept after : ClassHistory) (move : ClassMove) → after ≡ kept ++ move ∷ [] → kept ≡ history
    → after ≡ history ++ move ∷ []
added_to history kept after move pushed keeps = pushed ∙ ap (λ (h : ClassHistory). h ++ move ∷ []) keeps
