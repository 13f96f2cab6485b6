-- goes_sum: what a turn of declarer's has gathered stays within thirteen tricks of the plan's mass.
use Rattle.std.proofs.Common.{◌≡◌, ℕ, suc, ◌+◌, ◌-◌, ◌≤◌, Bool, true, false, List, [], ◌∷◌, ◌++◌, length, map}
use Rattle.std.proofs.Common.{take, refl, sym, ap, ◌∙◌, subst, arith}
use Rattle.std.specs.Prelude.{FitsSigned, if◌then◌else◌, ℤ, pos, ◌+ℤ◌, ◌*ℤ◌, ◌≤ℤ◌, unsigned_abs}
use Rattle.std.proofs.lemmas.Bool.{false≢true}
use Rattle.std.proofs.lemmas.Int.{fits_signed_mul, ints}
use Rattle.std.specs.Int.{w128}
use Rattle.std.proofs.lemmas.List.{take-map}
use Rattle.std.proofs.Math.IntN.{*ℤ_comm}
use Rattle.suit_lists.proofs.Elements.{Contains-same}
use Rattle.suit_num.proofs.IntegerLaws.{le-mul_right}
use Rattle.suit_num.specs.Narrow.{IsNarrow}
use Rattle.suit_game.specs.declared.question.Question.{Question}
use Rattle.suit_classes.specs.declared.class_moves.ClassMove.{ClassMove}
use Rattle.suit_classes.specs.declared.class_turn.ClassTurn.{ClassTurn}
use Rattle.suit_classes.specs.declared.class_turn.ClassTurn.TheVariants as turns
use Rattle.suit_classes.specs.declared.class_view.ClassView.{ClassView}
use Rattle.suit_classes.specs.ClassPlaces.{class_after, class_decided, class_moves, class_payoff}
use Rattle.suit_classes.specs.ClassMoves.{ClassHistory}
use Rattle.suit_plans.specs.BestReplies.{Reply, worth_within}
use Rattle.suit_plans.specs.Masses.{is_declarers, is_defences, plan_mass}
use Rattle.suit_plans.specs.Properness.{sum_of}
use Rattle.suit_plans.specs.declared.plan.Plan.{Plan}
use Rattle.suit_plans.specs.declared.plan.Row.{Row}
use Rattle.suit_tree.specs.Nodes.{children_of, payoff_at, turn_at}
use Rattle.suit_tree.specs.Trees.{StandsAt, moves_on}
use Rattle.suit_tree.specs.declared.node.Node.{Node}
use Rattle.suit_tree.proofs.NodePaths.{tree_stands}
use Rattle.suit_reply.specs.declared.turn_rule.TurnRule.{TurnRule}
use Rattle.suit_reply.specs.declared.turn_rule.TurnRule.TheVariants.{Sum, Least}
use Rattle.suit_reply.specs.NodeReplies.{NodeReplyView}
use Rattle.suit_reply.specs.Turns.{TurnView, gathered, joined}
use Rattle.suit_reply.specs.AgainstPlan.{LeastNode, nodes_for, plan_share}
use Rattle.suit_tree.proofs.NodesFitMoves.{map_fitted}
use Rattle.suit_reply.proofs.WorthAtATurn.SumOrBest.{results_of, sum_gathered}
use Rattle.suit_plans.proofs.WhoseTurns.{Declarers, Defences, Over, WhoseTurn, whose_turn}
use Rattle.suit_reply.proofs.OwnMovesGoOn.{AreBelow, AreChildren, IsDeclarersTurn, IsGoing, NotDefencesTurn}
use Rattle.suit_reply.proofs.OwnMovesGoOn.{layout_counts, layout_moves, own_moves_on}
use Rattle.suit_plans.specs.ReplyLaws.{IsPaid}
use Rattle.suit_plans.proofs.AtMostThirteenTricks.{paid_most}
use Rattle.suit_reply.proofs.LeastIsBounded.{sums_paid}
use Rattle.suit_reply.proofs.LeastByNodes.{child_told, least_by_nodes}
use Rattle.suit_reply.proofs.LeastByNodes.Cases.{LeastCase, case_allows, case_next, reply_at}
use Rattle.suit_reply.proofs.LeastChildByChild.{Gathers, as_next, child_at, child_found, going_at, node_case, own_children}
use Rattle.suit_reply.proofs.LeastChildByChild.{shared_mass, Goes, first_gathered, goes_found, goes_joined}
use Rattle.suit_reply.proofs.WorthAtATurn.{found_next}
use Rattle.suit_game.specs.declared.limits.TheConstants.{MOST_MOVES, HAND_SIZE}
use Rattle.suit_plans.specs.declared.plan.TheConstants.{MOST_DEN}

-- thirteen tricks of a mass that is within its bounds
paid_within : (mass worth : ℤ) → IsPaid mass worth → mass ≤ℤ MOST_DEN
    → (pos 0 ≤ℤ worth) × (worth ≤ℤ (MOST_DEN *ℤ pos HAND_SIZE))
paid_within mass worth paid within =
    let most : (mass *ℤ pos HAND_SIZE) ≤ℤ (MOST_DEN *ℤ pos HAND_SIZE) =
    le-mul_right mass (MOST_DEN) (pos HAND_SIZE) within (omega (arith, ints)) in
    let all : (pos HAND_SIZE *ℤ mass) ≤ℤ (MOST_DEN *ℤ pos HAND_SIZE) =
    subst (λ (z : ℤ). z ≤ℤ (MOST_DEN *ℤ pos HAND_SIZE)) (*ℤ_comm mass (pos HAND_SIZE)) most in
    (paid.some, omega (arith, ints, paid.few, all))

fits_within : (worth : ℤ) → pos 0 ≤ℤ worth → worth ≤ℤ (MOST_DEN *ℤ pos HAND_SIZE) → IsNarrow worth
fits_within worth some most = omega (arith, ints, some, most)

own_turn : (turn : ClassTurn) (rule : TurnRule) → Gathers turn rule → rule ≡ Sum → is_defences turn ≡ true → ⊥
own_turn turns.Lead rule gathers sum theirs = false≢true theirs
own_turn (turns.Declarer seat) rule gathers sum theirs = false≢true theirs
own_turn (turns.Defence seat) rule gathers sum theirs = let least : rule ≡ Least = gathers in absurd (cc)
own_turn turns.Decided rule gathers sum theirs = gathers

module _ (question : Question) (plan : Plan) (index : ℕ) where
  -- what is found below the children is what the reply comes to with the class moves
  own_results : (more : ℕ) (history : ClassHistory) (mass : ℤ) (node : Node)
      → LeastCase (suc more) question plan index history → StandsAt question history node
      → AreChildren more question history (children_of node) → mass ≡ plan_mass question plan history
      → IsGoing question history → IsDeclarersTurn question history → NotDefencesTurn question history
      → map (child_found more plan.rows index history mass node) (children_of node)
      ≡ results_of (found_next more (reply_at question plan index) history) (layout_moves question index history)
  own_results more history mass node is stands fit same going own not_theirs =
      let view : ClassView = class_after question history in
      let reply : Reply = reply_at question plan index in
      let on : moves_on question history ≡ class_moves view (layout_counts question index) =
      own_moves_on question history index is.valid is.held going own in
      let masses : ClassMove → ℤ = λ other. plan_share (turn_at node) plan.rows (children_of node) history mass other in
      map_fitted (AreBelow more question history) (child_found more plan.rows index history mass node)
      (λ other. (other, found_next more reply history other)) (moves_on question history) (children_of node) fit
      (λ other child found below.
      child_told question plan index more history masses
      (λ move part node found below alike.
      least_by_nodes question plan index more (history ++ move ∷ []) part node
      (case_next question plan index more history move is found) below alike)
      other child (Contains-same other on found)
      (shared_mass question plan index more history mass node other is stands fit same going
      (Declarers going own not_theirs)) below)
      ∙ ap (results_of (found_next more reply history)) on

  -- so the first children are worth no more than thirteen tricks of the mass
  own_sums : (more : ℕ) (history : ClassHistory) (mass : ℤ) (node : Node) (i : ℕ)
      → LeastCase (suc more) question plan index history → StandsAt question history node
      → AreChildren more question history (children_of node) → mass ≡ plan_mass question plan history
      → IsGoing question history → IsDeclarersTurn question history → NotDefencesTurn question history
      → IsPaid (plan_mass question plan history)
      (gathered Sum (map (child_found more plan.rows index history mass node) (take i (children_of node)))).found.worth
  own_sums more history mass node i is stands fit same going own not_theirs =
      let reply : Reply = reply_at question plan index in
      let found : ClassMove → NodeReplyView = found_next more reply history in
      let told : Node → ClassMove × NodeReplyView = child_found more plan.rows index history mass node in
      let moves : List ClassMove = layout_moves question index history in
      let worths : ClassMove → ℤ = λ move. worth_within more reply (history ++ move ∷ []) in
      let results : map told (take i (children_of node)) ≡ results_of found (take i moves) =
      sym (take-map told i (children_of node))
      ∙ ap (λ (l : List (ClassMove × NodeReplyView)). take i l)
      (own_results more history mass node is stands fit same going own not_theirs)
      ∙ take-map (λ move. (move, found move)) i moves in
      let sum : (gathered Sum (map told (take i (children_of node)))).found.worth ≡ sum_of (take i (map worths moves)) =
      ap (λ (l : List (ClassMove × NodeReplyView)). (gathered Sum l).found.worth) results
      ∙ ap (λ (f : NodeReplyView). f.worth) (sum_gathered found (take i moves))
      ∙ ap sum_of (sym (take-map worths i moves)) in
      subst (IsPaid (plan_mass question plan history)) (sym sum) (sums_paid question plan index more history i is own)

  turn_sums : (more : ℕ) (history : ClassHistory) (mass : ℤ) (node : Node) (rule : TurnRule) (i : ℕ)
      → LeastCase (suc more) question plan index history → StandsAt question history node
      → AreChildren more question history (children_of node) → mass ≡ plan_mass question plan history
      → IsGoing question history → Gathers (turn_at node) rule → rule ≡ Sum → WhoseTurn (class_after question history)
      → IsPaid (plan_mass question plan history)
      (gathered Sum (map (child_found more plan.rows index history mass node)
      (nodes_for (turn_at node) index (take i (children_of node))))).found.worth
  turn_sums more history mass node rule i is stands fit same going gathers sum (Over decided turn) =
      absurd (false≢true (sym going ∙ decided))
  turn_sums more history mass node rule i is stands fit same going gathers sum (Declarers undecided own not_theirs) =
      subst (λ (l : List Node). IsPaid (plan_mass question plan history)
      (gathered Sum (map (child_found more plan.rows index history mass node) l)).found.worth)
      (sym (own_children (turn_at node) index (take i (children_of node)) (ap is_declarers stands.turn ∙ own)))
      (own_sums more history mass node i is stands fit same going own not_theirs)
  turn_sums more history mass node rule i is stands fit same going gathers sum (Defences undecided not_own theirs) =
      absurd (own_turn (turn_at node) rule gathers sum (ap is_defences stands.turn ∙ theirs))

-- one child more at a turn of declarer's
pub goes_sum : (rule : TurnRule) (rows : List Row) (index : ℕ) (history : ClassHistory) (mass : ℤ) (node : Node) (i : ℕ)
    (child : Node) (move : ClassMove) (part : ℤ)
    (so_far : TurnView) (found : NodeReplyView) → Goes rule rows index history mass node i child move part
    → so_far ≡ first_gathered rule rows index history mass node (children_of node) i
    → found ≡ (child_found (MOST_MOVES - length history - 1) rows index history mass node child).1
    → rule ≡ Sum → IsNarrow (so_far.found.worth +ℤ found.worth)
goes_sum rule rows index history mass node i child move part so_far found on was told sum =
    let is = on.is in
    let question : Question = is.question in
    let plan : Plan = is.plan in
    let more : ℕ = MOST_MOVES - length history in
    let by =
    child_at more question history node child is.tree
    (goes_found rule rows index history mass node i child move part on) in
    let stands = tree_stands more question history node is.tree in
    let turn = whose_turn (class_after question history) in
    let going : IsGoing question history = going_at question history node rule stands on.gathers turn in
    let there : LeastCase (suc (more - 1)) question plan index history =
    subst (λ (n : ℕ). LeastCase n question plan index history) (as_next more by.some)
    (node_case rows index history mass node is) in
    let paid =
    turn_sums question plan index (more - 1) history mass node rule (i + 1) there stands by.all is.is_mass going
    on.gathers sum turn in
    let here : (joined rule so_far move found).found.worth
    ≡ (gathered Sum (map (child_found (more - 1) plan.rows index history mass node)
    (nodes_for (turn_at node) index (take (i + 1) (children_of node))))).found.worth =
    ap (λ (g : TurnView). g.found.worth)
    (goes_joined rule rows index history mass node i child move part on so_far (joined rule so_far move found) found was
    told refl)
    ∙ ap (λ (h : TurnRule). (first_gathered h rows index history mass node (children_of node) (i + 1)).found.worth) sum
    ∙ ap (λ (l : List Row). (first_gathered Sum l index history mass node (children_of node) (i + 1)).found.worth)
    (sym is.is_rows) in
    let added : (joined rule so_far move found).found.worth ≡ so_far.found.worth +ℤ found.worth =
    ap (λ (h : TurnRule). (joined h so_far move found).found.worth) sum in
    let bounds = paid_within (plan_mass question plan history) (so_far.found.worth +ℤ found.worth)
    (subst (IsPaid (plan_mass question plan history)) (sym here ∙ added) paid)
    (subst (λ (z : ℤ). z ≤ℤ MOST_DEN) is.is_mass is.within) in
    fits_within (so_far.found.worth +ℤ found.worth) bounds.0 bounds.1

module _ (rows : List Row) (index : ℕ) (history : ClassHistory) (mass : ℤ) (node : Node)
    (is : LeastNode rows index history mass node) where
  -- what a class history earns is at most thirteen tricks
  pub payoff_few : payoff_at node ≤ HAND_SIZE
  payoff_few =
      let question : Question = is.question in
      let few =
      paid_most question (layout_counts question index) history
      (case_allows question is.plan index (MOST_MOVES - length history) history (node_case rows index history mass node is)) in
      few_if (class_decided (class_after question history)) (class_payoff (class_after question history))
      (payoff_at node) (tree_stands (MOST_MOVES - length history) question history node is.tree).payoff few
    where
      few_if : (b : Bool) (earned payoff : ℕ) → payoff ≡ (if b then earned else 0) → earned ≤ HAND_SIZE → payoff ≤ HAND_SIZE
      few_if true earned payoff is few = omega (arith, is, few)
      few_if false earned payoff is few = omega (arith, is)

  mass_positive : pos 0 ≤ℤ mass
  unfolding plan_mass
  mass_positive =
      let here = node_case rows index history mass node is in
      subst (λ (m : ℤ). pos 0 ≤ℤ m) (sym is.is_mass)
      (here.realised.positive history (case_allows is.question is.plan index (MOST_MOVES - length history) history here))

  -- so its product with the mass fits
  pub earned_fits : (payoff : ℕ) → payoff ≡ payoff_at node → FitsSigned w128 (pos payoff *ℤ mass)
  earned_fits payoff earned =
      let some : pos 0 ≤ℤ mass = mass_positive in
      let most : mass ≤ℤ MOST_DEN = is.within in
      let small : unsigned_abs mass ≤ unsigned_abs MOST_DEN = omega (arith, ints, some, most) in
      let few : payoff ≤ HAND_SIZE = omega (arith, earned, payoff_few) in
      let tricks : unsigned_abs (pos payoff) ≤ HAND_SIZE = omega (arith, ints, few) in
      fits_signed_mul w128 (pos payoff) mass HAND_SIZE (unsigned_abs MOST_DEN) tricks small (omega arith)
