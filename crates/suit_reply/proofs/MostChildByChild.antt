-- tells_gathered, joined_is: how declarer's reply to a defence is found at a node, child by child.
pub mod ChildrenAreAsked
pub mod SumsStayBounded
use Rattle.std.proofs.Common.{◌≡◌, ℕ, zero, suc, ◌-◌, ◌+◌, ◌<◌, true, false, List, [], ◌∷◌, ◌++◌, Option, Some, None}
use Rattle.std.proofs.Common.{length, get_or, map, take, refl, sym, ap, ◌∙◌, subst, arith}
use Rattle.std.specs.Prelude.{pos, unwrap_or, ℤ, ◌*ℤ◌, ◌*◌, ◌+ℤ◌, ◌==◌, ◌≤ℤ◌}
use Rattle.std.specs.List.{take-map}
use Rattle.std.proofs.lemmas.Bool.{false≢true}
use Rattle.std.proofs.lemmas.Bool.Decides.{nat_tests}
use Rattle.std.proofs.lemmas.Int.{ints}
use Rattle.std.proofs.lemmas.List.{length-append, take_more}
use Rattle.suit_lists.proofs.Maps.{map_same}
use Rattle.suit_num.specs.Narrow.{IsNarrow}
use Rattle.suit_cards.specs.Cards.{ClassLayout}
use Rattle.suit_game.specs.declared.question.Question.{Question}
use Rattle.suit_classes.specs.declared.class_moves.ClassMove.{ClassMove}
use Rattle.suit_classes.specs.declared.class_turn.ClassTurn.{ClassTurn}
use Rattle.suit_classes.specs.declared.class_turn.ClassTurn.TheVariants as turns
use Rattle.suit_classes.specs.ClassPlaces.{class_after, class_turn}
use Rattle.suit_classes.specs.ClassMoves.{ClassHistory}
use Rattle.suit_classes.specs.declared.class_moves.ClassMove.TheVariants.{ShowOut}
use Rattle.suit_plans.specs.BestReplies.{Reply, reply_to_defence}
use Rattle.suit_plans.specs.Masses.{is_defences}
use Rattle.suit_plans.specs.Properness.{sum_of}
use Rattle.suit_plans.specs.declared.defence.DefenceRow.{DefenceRow}
use Rattle.suit_plans.specs.declared.plan.TheConstants.{MOST_MASS}
use Rattle.suit_tree.specs.declared.node.Node.{Node}
use Rattle.suit_tree.specs.Nodes.{children_of, move_of, payoff_at, turn_at}
use Rattle.suit_tree.specs.Trees.{IsTreeAt, moves_on}
use Rattle.suit_tree.proofs.NodePaths.{tree_stands}
use Rattle.suit_reply.specs.declared.turn_rule.TurnRule.{TurnRule}
use Rattle.suit_reply.specs.declared.turn_rule.TurnRule.TheVariants.{Sum, Least, Most}
use Rattle.suit_reply.specs.NodeReplies.{NodeReplyView, nothing}
use Rattle.suit_reply.specs.Turns.{TurnView, finished, gathered, joined}
use Rattle.suit_reply.specs.AgainstDefence.{LayoutMasses, MostNode, if_live, most_at, most_gathers, node_most}
use Rattle.suit_reply.specs.AgainstDefence.{shared_masses}
use Rattle.suit_reply.proofs.MostChildByChild.ChildrenAreAsked.{HasBelow, IsStep, has_below, masses_below, node_case, none_gathered}
use Rattle.suit_tree.proofs.NodesFitMoves.{map_fitted}
use Rattle.suit_reply.proofs.WorthAtATurn.SumOrBest.{found_with, gathered-push, results_of, sum_gathered, worths_of}
use Rattle.suit_plans.proofs.WhoseTurns.{Declarers, Defences, Over, WhoseTurn, whose_turn}
use Rattle.suit_reply.proofs.OwnMovesGoOn.{AreBelow, IsDefencesTurn, IsGoing, layouts_of}
use Rattle.suit_reply.proofs.LeastByNodes.{told_of}
use Rattle.suit_reply.proofs.MostIsBounded.{mass_sum, most_sums_paid}
use Rattle.suit_reply.proofs.MostByNodes.{most_by_nodes}
use Rattle.suit_reply.proofs.MostByNodes.Cases.{MostCase, most_next}
use Rattle.suit_reply.proofs.WorthAtATurn.{found_next}
use Rattle.suit_game.specs.declared.limits.TheConstants.{HAND_SIZE, MOST_MOVES}

-- a node below a node: its move, with what is told there
abbrev pub told_at : List (ClassLayout × ℕ) → List DefenceRow → ClassHistory → LayoutMasses → Node → Node
    → ClassMove × NodeReplyView
told_at layouts rows history masses node child = (
  move_of child,
  node_most (MOST_MOVES - length (history ++ move_of child ∷ [])) layouts rows (history ++ move_of child ∷ [])
      (shared_masses (turn_at node) layouts rows (children_of node) history masses child) child,
)

-- the result at an index is joined to those gathered before it
gathered_more : {X : Type 0} (rule : TurnRule) (told : X → ClassMove × NodeReplyView) (xs : List X) (i : ℕ) (d : X)
    → i < length xs
    → gathered rule (map told (take (i + 1) xs))
    ≡ joined rule (gathered rule (map told (take i xs))) (told (get_or xs i d)).0 (told (get_or xs i d)).1
gathered_more {X} rule told xs i d below =
    ap (λ (l : List X). gathered rule (map told l)) (take_more xs i d below)
    ∙ gathered-push rule told (take i xs) (get_or xs i d)

module _ (layouts : List (ClassLayout × ℕ)) (rows : List DefenceRow) (history : ClassHistory) (masses : LayoutMasses)
    (node : Node) where
  -- what is found after a step is what is told there
  pub told_is : (i : ℕ) (child : Node) (next : ClassHistory) (passed : LayoutMasses) (found : NodeReplyView)
      → IsStep layouts rows history masses node i child next passed
      → found ≡ node_most (MOST_MOVES - length next) layouts rows next passed child
      → found ≡ (told_at layouts rows history masses node (get_or (children_of node) i child)).1
  told_is i child next passed found step is =
      is
      ∙ ap (λ (h : ClassHistory). node_most (MOST_MOVES - length h) layouts rows h passed child) step.after
      ∙ ap (λ (part : LayoutMasses). node_most (MOST_MOVES - length (history ++ move_of child ∷ [])) layouts rows
      (history ++ move_of child ∷ []) part child) step.share
      ∙ ap (λ (other : Node). (told_at layouts rows history masses node other).1) step.there

  -- what is joined after a step is gathered with one child more
  pub joined_is : (rule : TurnRule) (i : ℕ) (child : Node) (next : ClassHistory) (passed : LayoutMasses)
      (so_far after : TurnView) (move : ClassMove) (found : NodeReplyView)
      → IsStep layouts rows history masses node i child next passed
      → found ≡ node_most (MOST_MOVES - length next) layouts rows next passed child
      → so_far ≡ gathered rule (map (told_at layouts rows history masses node) (take i (children_of node)))
      → move ≡ move_of child → after ≡ joined rule so_far move found
      → after ≡ gathered rule (map (told_at layouts rows history masses node) (take (i + 1) (children_of node)))
  joined_is rule i child next passed so_far after move found step below all by is =
      let told : Node → ClassMove × NodeReplyView = told_at layouts rows history masses node in
      let nodes : List Node = children_of node in
      let before : TurnView = gathered rule (map told (take i nodes)) in
      is
      ∙ ap (λ (view : TurnView). joined rule view move found) all
      ∙ ap (λ (m : ClassMove). joined rule before m found) (by ∙ ap move_of step.there)
      ∙ ap (joined rule before (told (get_or nodes i child)).0) (told_is i child next passed found step below)
      ∙ sym (gathered_more rule told nodes i child step.within)

-- all nodes below it
abbrev pub told_children : List (ClassLayout × ℕ) → List DefenceRow → ClassHistory → LayoutMasses → Node
    → List (ClassMove × NodeReplyView)
told_children layouts rows history masses node = map (told_at layouts rows history masses node) (children_of node)

-- ---- what a node tells

told_by : (more : ℕ) (question : Question) (layouts : List (ClassLayout × ℕ)) (rows : List DefenceRow)
    (history : ClassHistory) (masses : LayoutMasses) (node : Node) → more ≡ MOST_MOVES - length history
    → IsTreeAt more question history node
    → node_most more layouts rows history masses node
    ≡ if_live masses (most_at (turn_at node) (payoff_at node) masses history
    (told_children layouts rows history masses node))
unfolding node_most IsTreeAt
told_by zero question layouts rows history masses node left tree =
    ap (λ (l : List Node). if_live masses
    (most_at (turn_at node) (payoff_at node) masses history (map (told_at layouts rows history masses node) l)))
    (sym tree.1)
told_by (suc more) question layouts rows history masses node left tree =
    let given : Node → LayoutMasses =
    λ child. shared_masses (turn_at node) layouts rows (children_of node) history masses child in
    let told : ℕ → Node → ClassMove × NodeReplyView =
    λ fuel child. told_of (move_of child)
    (node_most fuel layouts rows (history ++ move_of child ∷ []) (given child) child) in
    ap (λ (l : List (ClassMove × NodeReplyView)).
    if_live masses (most_at (turn_at node) (payoff_at node) masses history l))
    (map_same (told more) (told_at layouts rows history masses node) (children_of node)
    (λ child found. ap (λ (fuel : ℕ). told fuel child)
    (one_less more (length history) (length (history ++ move_of child ∷ [])) left
    (length-append history (move_of child ∷ [])))))
  where
    one_less : (more long longer : ℕ) → suc more ≡ MOST_MOVES - long → longer ≡ long + 1 → more ≡ MOST_MOVES - longer
    one_less more long longer left one = omega (arith, left, one)

if_none : (masses : LayoutMasses) (found : NodeReplyView) → true ≡ (length masses == 0) → if_live masses found ≡ nothing
if_none [] found none = refl
if_none (held ∷ masses) found none = absurd (some (length masses) none)
  where
    some : (n : ℕ) → true ≡ (suc n == 0) → ⊥
    some n h = grind (arith, nat_tests)

if_some : (masses : LayoutMasses) (found : NodeReplyView) → false ≡ (length masses == 0) → if_live masses found ≡ found
if_some [] found some = absurd (false≢true some)
if_some (held ∷ masses) found some = refl

at_none : (turn : ClassTurn) (payoff : ℕ) (masses : LayoutMasses) (history : ClassHistory)
    (results : List (ClassMove × NodeReplyView)) → None ≡ most_gathers turn
    → most_at turn payoff masses history results ≡ found_with (sum_of (map (λ held. pos payoff *ℤ held.1) masses)) []
at_none turns.Lead payoff masses history results none = absurd (cc)
at_none (turns.Declarer seat) payoff masses history results none = absurd (cc)
at_none (turns.Defence seat) payoff masses history results none = absurd (cc)
at_none turns.Decided payoff masses history results none = refl

at_some : (turn : ClassTurn) (rule : TurnRule) (payoff : ℕ) (masses : LayoutMasses) (history : ClassHistory)
    (results : List (ClassMove × NodeReplyView)) → Some rule ≡ most_gathers turn
    → most_at turn payoff masses history results ≡ finished rule history (gathered rule results)
at_some turn rule payoff masses history results some = is rule (most_gathers turn) refl some
  where
    by : (turn : ClassTurn) (other : TurnRule) → most_gathers turn ≡ Some other
        → most_at turn payoff masses history results ≡ finished other history (gathered other results)
    by turns.Lead Most is = refl
    by (turns.Declarer seat) Most is = refl
    by (turns.Defence seat) Sum is = refl
    by turns.Lead Sum is = absurd (cc)
    by turns.Lead Least is = absurd (cc)
    by (turns.Declarer seat) Sum is = absurd (cc)
    by (turns.Declarer seat) Least is = absurd (cc)
    by (turns.Defence seat) Least is = absurd (cc)
    by (turns.Defence seat) Most is = absurd (cc)
    by turns.Decided other is = absurd (cc)

    is : (other : TurnRule) (found : Option TurnRule) → most_gathers turn ≡ found → Some other ≡ found
        → most_at turn payoff masses history results ≡ finished other history (gathered other results)
    is other found told same = by turn other (told ∙ sym same)

going_on : (rule : TurnRule) (question : Question) (history : ClassHistory) (turn : ClassTurn)
    → turn ≡ class_turn (class_after question history) → most_gathers turn ≡ Some rule
    → WhoseTurn (class_after question history)
    → IsGoing question history
going_on rule question history turn is gathers (Over decided over) =
    absurd (none_gathered rule turn (is ∙ over) gathers)
going_on rule question history turn is gathers (Declarers going own not_theirs) = going
going_on rule question history turn is gathers (Defences going not_own theirs) = going

sum_theirs : (turn : ClassTurn) → most_gathers turn ≡ Some Sum → is_defences turn ≡ true
sum_theirs turns.Lead gathers = absurd (cc)
sum_theirs (turns.Declarer seat) gathers = absurd (cc)
sum_theirs (turns.Defence seat) gathers = refl
sum_theirs turns.Decided gathers = absurd (cc)

module _ (layouts : List (ClassLayout × ℕ)) (rows : List DefenceRow) (history : ClassHistory) (masses : LayoutMasses)
    (node : Node) (is : MostNode layouts rows history masses node) where
  -- it tells what is gathered from the nodes below, where some mass comes to it
  node_tells : node_most (MOST_MOVES - length history) layouts rows history masses node
      ≡ if_live masses (most_at (turn_at node) (payoff_at node) masses history
      (told_children layouts rows history masses node))
  node_tells = told_by (MOST_MOVES - length history) is.question layouts rows history masses node refl is.tree

  -- a node to which no mass comes tells nothing
  pub tells_none : true ≡ (length masses == 0)
      → node_most (MOST_MOVES - length history) layouts rows history masses node ≡ nothing
  tells_none none =
      node_tells ∙ if_none masses (most_at (turn_at node) (payoff_at node) masses history
      (told_children layouts rows history masses node)) none

  -- one where the class history is decided tells what is earned
  pub tells_earned : false ≡ (length masses == 0) → None ≡ most_gathers (turn_at node)
      → node_most (MOST_MOVES - length history) layouts rows history masses node
      ≡ found_with (sum_of (map (λ held. pos (payoff_at node) *ℤ held.1) masses)) []
  tells_earned some none =
      node_tells
      ∙ if_some masses (most_at (turn_at node) (payoff_at node) masses history
      (told_children layouts rows history masses node)) some
      ∙ at_none (turn_at node) (payoff_at node) masses history (told_children layouts rows history masses node) none

  -- and another what is gathered from the nodes below it
  pub tells_gathered : (rule : TurnRule) → false ≡ (length masses == 0) → Some rule ≡ most_gathers (turn_at node)
      → node_most (MOST_MOVES - length history) layouts rows history masses node
      ≡ finished rule history (gathered rule (told_children layouts rows history masses node))
  tells_gathered rule some gathers =
      node_tells
      ∙ if_some masses (most_at (turn_at node) (payoff_at node) masses history
      (told_children layouts rows history masses node)) some
      ∙ at_some (turn_at node) rule (payoff_at node) masses history (told_children layouts rows history masses node)
      gathers

  -- ---- sums

  -- the nodes below tell what the best reply to the defence comes to with each move
  children_told : (rule : TurnRule) → most_gathers (turn_at node) ≡ Some rule
      → (below : HasBelow (MOST_MOVES - length history) is.question history node)
      → told_children layouts rows history masses node
      ≡ results_of (found_next below.less (reply_to_defence is.question is.defence) history)
      (moves_on is.question history)
  children_told rule gathers below =
      let question : Question = is.question in
      let reply : Reply = reply_to_defence question is.defence in
      let case : MostCase (suc below.less) question is.defence history =
      subst (λ (more : ℕ). MostCase more question is.defence history) below.is
      (node_case layouts rows history masses node is) in
      map_fitted (AreBelow below.less question history) (told_at layouts rows history masses node)
      (λ move. told_of move (found_next below.less reply history move)) (moves_on question history) (children_of node)
      below.fit
      (λ move child found fits.
      let given : LayoutMasses = shared_masses (turn_at node) layouts rows (children_of node) history masses child in
      let next : MostCase below.less question is.defence (history ++ move ∷ []) =
      most_next question is.defence below.less history move case found in
      ap (λ (m : ClassMove). told_of m
      (node_most (MOST_MOVES - length (history ++ m ∷ [])) layouts rows (history ++ m ∷ []) given child))
      (ap (λ to. unwrap_or to ShowOut) fits.0)
      ∙ ap (λ (fuel : ℕ). told_of move (node_most fuel layouts rows (history ++ move ∷ []) given child)) (sym next.left)
      ∙ ap (λ (l : List (ClassLayout × ℕ)). told_of move (node_most below.less l rows
      (history ++ move ∷ []) given child))
      (sym is.is_layouts)
      ∙ ap (λ (l : List DefenceRow). told_of move
      (node_most below.less (layouts_of question) l (history ++ move ∷ []) given child)) (sym is.is_rows)
      ∙ ap (told_of move)
      (most_by_nodes question is.defence below.less (history ++ move ∷ []) given child next fits.1
      (masses_below layouts rows history masses node is rule gathers below move child found fits)))

  -- at a turn of the defence what is gathered from the first nodes stays within its bounds
  pub sums_within : (i k : ℕ) → most_gathers (turn_at node) ≡ Some Sum → i < length (children_of node)
      → (pos 0 ≤ℤ (gathered Sum (map (told_at layouts rows history masses node)
      (take k (children_of node)))).found.worth)
      × ((gathered Sum (map (told_at layouts rows history masses node) (take k (children_of node)))).found.worth
      ≤ℤ pos (HAND_SIZE * MOST_MASS))
  sums_within i k gathers within =
      let question : Question = is.question in
      let below : HasBelow (MOST_MOVES - length history) question history node =
      has_below (MOST_MOVES - length history) question history node i is.tree within in
      let reply : Reply = reply_to_defence question is.defence in
      let moves : List ClassMove = moves_on question history in
      let found : ClassMove → NodeReplyView = found_next below.less reply history in
      let case : MostCase (suc below.less) question is.defence history =
      subst (λ (more : ℕ). MostCase more question is.defence history) below.is
      (node_case layouts rows history masses node is) in
      let stands = tree_stands (MOST_MOVES - length history) question history node is.tree in
      let going =
      going_on Sum question history (turn_at node) stands.turn gathers (whose_turn (class_after question history)) in
      let theirs : IsDefencesTurn question history =
      ap is_defences (sym stands.turn) ∙ sum_theirs (turn_at node) gathers in
      let paid = most_sums_paid question is.defence below.less history k case going theirs in
      let sum : LayoutMasses → ℤ = λ part. sum_of (map (λ (held : ℕ × ℤ). held.1) part) in
      let most : mass_sum question is.defence history ≤ℤ pos MOST_MASS =
      subst (λ (part : LayoutMasses). sum part ≤ℤ pos MOST_MASS) is.are_masses is.within in
      let same : (gathered Sum (map (told_at layouts rows history masses node) (take k (children_of node)))).found.worth
      ≡ sum_of (take k (worths_of found moves)) =
      ap (λ (l : List (ClassMove × NodeReplyView)). (gathered Sum l).found.worth)
      (sym (take-map (told_at layouts rows history masses node) k (children_of node))
      ∙ ap (take k) (children_told Sum gathers below)
      ∙ take-map (λ (move : ClassMove). told_of move (found move)) k moves)
      ∙ ap (λ (view : NodeReplyView). view.worth) (sum_gathered found (take k moves))
      ∙ ap sum_of (sym (take-map (λ (move : ClassMove). (found move).worth) k moves)) in
      subst (λ (z : ℤ). (pos 0 ≤ℤ z) × (z ≤ℤ pos (HAND_SIZE * MOST_MASS))) (sym same) (
        paid.some,
        bounded (sum_of (take k (worths_of found moves))) (mass_sum question is.defence history) paid.few
            most,
      )
    where
      bounded : (a mass : ℤ) → a ≤ℤ (pos HAND_SIZE *ℤ mass) → mass ≤ℤ pos MOST_MASS → a ≤ℤ pos (HAND_SIZE * MOST_MASS)
      bounded a mass p q = omega (arith, ints)

  -- so one more worth may be added
  pub sum_fits : (rule : TurnRule) (i : ℕ) (child : Node) (next : ClassHistory) (passed : LayoutMasses)
      (so_far : TurnView) (found : NodeReplyView) → Some rule ≡ most_gathers (turn_at node)
      → IsStep layouts rows history masses node i child next passed
      → found ≡ node_most (MOST_MOVES - length next) layouts rows next passed child
      → so_far ≡ gathered rule (map (told_at layouts rows history masses node) (take i (children_of node))) → rule ≡ Sum
      → IsNarrow (so_far.found.worth +ℤ found.worth)
  sum_fits rule i child next passed so_far found gathers step below all sums =
      let told : Node → ClassMove × NodeReplyView = told_at layouts rows history masses node in
      let nodes : List Node = children_of node in
      let last : Node = get_or nodes i child in
      let bounds = sums_within i (i + 1) (sym gathers ∙ ap Some sums) step.within in
      let sum : (gathered Sum (map told (take (i + 1) nodes))).found.worth ≡ so_far.found.worth +ℤ found.worth =
      ap (λ (view : TurnView). view.found.worth)
      (gathered_more Sum told nodes i child step.within
      ∙ ap (λ (other : TurnRule). joined Sum (gathered other (map told (take i nodes))) (told last).0 (told last).1)
      (sym sums))
      ∙ ap (λ (view : TurnView). view.found.worth +ℤ (told last).1.worth) (sym all)
      ∙ ap (λ (view : NodeReplyView). so_far.found.worth +ℤ view.worth)
      (sym (told_is layouts rows history masses node i child next passed found step below)) in
      subst (λ (z : ℤ). IsNarrow z) sum
      (small (gathered Sum (map told (take (i + 1) nodes))).found.worth bounds.0 bounds.1)
    where
      small : (z : ℤ) → pos 0 ≤ℤ z → z ≤ℤ pos (HAND_SIZE * MOST_MASS) → IsNarrow z
      small z some most = omega (arith, ints)
