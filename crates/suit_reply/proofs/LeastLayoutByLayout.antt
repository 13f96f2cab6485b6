-- all_numbers, all_moves: the defence's best reply to a plan, class layout by class layout.
use Rattle.std.proofs.Common.{◌≡◌, ℕ, zero, suc, ◌+◌, ◌-◌, ◌<◌, ◌≤◌, List, [], ◌∷◌, ◌++◌, length, map, get_or, refl}
use Rattle.std.proofs.Common.{sym, ap, ◌∙◌, subst, arith}
use Rattle.std.specs.Prelude.{Contains, FitsSigned, ℤ, pos, ◌+ℤ◌, ◌*ℤ◌, ◌≤ℤ◌, ◌<ℤ◌}
use Rattle.std.specs.Int.{w128}
use Rattle.std.specs.List.{flat_map, range_with_len}
use Rattle.std.proofs.lemmas.Int.{fits_signed_from_abs, ints}
use Rattle.std.proofs.lemmas.List.{append-nil, get_or_default, map-append}
use Rattle.std.proofs.lemmas.List.Concat.{flat_map-append}
use Rattle.std.proofs.lemmas.List.Elements.{Contains-get_or}
use Rattle.std.proofs.lemmas.List.FromFn.{get_or-range_with_len, length-range_with_len}
use Rattle.std.proofs.lemmas.Simd.{map-map}
use Rattle.suit_lists.proofs.Elements.{Contains-same}
use Rattle.suit_lists.proofs.Walks.{by_indices, Contains-range}
use Rattle.suit_cards.specs.Cards.{ClassLayout, Indices}
use Rattle.suit_game.specs.declared.question.Question.{Question}
use Rattle.suit_game.specs.Validity.{IsValid}
use Rattle.suit_classes.specs.ClassMoves.{ClassHistory}
use Rattle.suit_plans.specs.declared.moves.DefenceMove.{DefenceMove}
use Rattle.suit_plans.specs.declared.plan.Plan.{Plan}
use Rattle.suit_plans.specs.declared.plan.Row.{Row}
use Rattle.suit_plans.specs.BestReplies.{least, least_reply, least_reply_in, reply_to_plan, worth}
use Rattle.suit_plans.specs.Properness.{IsProperPlan, sum_of}
use Rattle.suit_plans.proofs.RepliesAreBounded.{first_mass, leasts_bounded, weighed_paid}
use Rattle.suit_plans.proofs.ProperPlans.{plans_are_realised, proper_plan}
use Rattle.suit_plans.proofs.SharesAddUpToTheMass.{sum_positive}
use Rattle.suit_num.proofs.IntegerLaws.{int_le-true}
use Rattle.suit_num.specs.Narrow.{IsNarrow}
use Rattle.suit_tree.specs.declared.node.Node.{Node}
use Rattle.suit_tree.specs.declared.tree.Tree.{Tree}
use Rattle.suit_tree.specs.Trees.{layout_indices}
use Rattle.suit_tree.proofs.GrownIsCounted.{allowing_first}
use Rattle.suit_reply.specs.declared.chosen_move.ChosenMove.{ChosenMove}
use Rattle.suit_reply.specs.NodeReplies.{NodeReplyView}
use Rattle.suit_reply.specs.AgainstPlan.{IsPlanFor, LeastNode, node_least}
use Rattle.suit_reply.specs.LayoutsReplies.{IsReplyIn, layout_at, weighed_worth}
use Rattle.suit_reply.proofs.LeastByNodes.{least_by_nodes}
use Rattle.suit_reply.proofs.LeastByNodes.Cases.{LeastCase, case_allows, reply_at}
use Rattle.suit_reply.proofs.ChoicesAlongAReply.ReplyToAPlan.{least_reply_walked}
use Rattle.suit_reply.proofs.WorthAtATurn.{found_from}
use Rattle.suit_reply.proofs.OwnMovesGoOn.{layout_counts, layouts_of}
use Rattle.suit_reply.proofs.OneMoreAdded.{sum_append}
use Rattle.suit_game.specs.declared.limits.TheConstants.{MOST_MOVES}
use Rattle.suit_plans.specs.declared.plan.TheConstants.{MOST_DEN, WORTH_BOUND}

-- ---- one class layout

-- the reply to a proper plan in the class layout at an index, from the start
pub first_case : (question : Question) (plan : Plan) (index : ℕ) → IsValid question → IsProperPlan question plan
    → index < length (layouts_of question) → LeastCase MOST_MOVES question plan index []
first_case question plan index valid proper below = record {
  valid = valid;
  proper = proper;
  realised = plans_are_realised question plan (layout_counts question index) valid proper;
  held = Contains-same index (sym (allowing_first question))
      (Contains-range 0 (length (layouts_of question)) index (omega arith) (omega (arith, below)));
  left = refl;
}

den_bounds : (question : Question) (plan : Plan) → IsProperPlan question plan
    → (pos 1 ≤ℤ plan.den) × (plan.den ≤ℤ MOST_DEN)
den_bounds question plan proper =
    let parts = proper_plan question plan proper in
    (int_le-true (pos 1) plan.den parts.0, int_le-true plan.den (MOST_DEN) parts.1)

module _ (tree : Tree) (plan : Plan) (index : ℕ) (case : IsPlanFor tree plan)
    (below : index < length (layouts_of case.question)) where
  -- the root of the tree is asked for it
  pub root_asked : LeastNode plan.rows index [] plan.den tree.root
  root_asked = record {
    question = case.question;
    plan = plan;
    valid = case.valid;
    proper = case.proper;
    is_rows = refl;
    held = (first_case case.question plan index case.valid case.proper below).held;
    tree = case.grown.nodes;
    is_mass = sym (first_mass case.question plan);
    within = (den_bounds case.question plan case.proper).1;
  }

  -- and tells it
  pub root_told : node_least MOST_MOVES plan.rows index [] plan.den tree.root ≡ found_from MOST_MOVES
      (reply_at case.question plan index) []
  root_told =
      least_by_nodes case.question plan index MOST_MOVES [] plan.den tree.root
      (first_case case.question plan index case.valid case.proper below) case.grown.nodes
      (sym (first_mass case.question plan))

-- what is told of it, in the words of a call
pub told_at_root : (tree : Tree) (plan : Plan) (index : ℕ) (rows : List Row) (history : ClassHistory) (mass : ℤ)
    (node : Node) (found : NodeReplyView)
    → rows ≡ plan.rows → history ≡ [] → mass ≡ plan.den → node ≡ tree.root
    → found ≡ node_least (MOST_MOVES - length history) rows index history mass node
    → found ≡ node_least MOST_MOVES plan.rows index [] plan.den tree.root
told_at_root tree plan index rows history mass node found same none whole root told =
    told
    ∙ ap (λ (h : ClassHistory). node_least (MOST_MOVES - length h) rows index h mass node) none
    ∙ ap (λ (l : List Row). node_least MOST_MOVES l index [] mass node) same
    ∙ ap (λ (m : ℤ). node_least MOST_MOVES plan.rows index [] m node) whole
    ∙ ap (node_least MOST_MOVES plan.rows index [] plan.den) root

-- and asked
pub asked_at_root : (tree : Tree) (plan : Plan) (index : ℕ) (rows : List Row) (history : ClassHistory) (mass : ℤ)
    (node : Node) (case : IsPlanFor tree plan)
    → rows ≡ plan.rows → history ≡ [] → mass ≡ plan.den → node ≡ tree.root → index < length (layouts_of case.question)
    → LeastNode rows index history mass node
asked_at_root tree plan index rows history mass node case same none whole root below =
    subst (λ (l : List Row). LeastNode l index history mass node) (sym same)
    (subst (λ (h : ClassHistory). LeastNode plan.rows index h mass node) (sym none)
    (subst (λ (m : ℤ). LeastNode plan.rows index [] m node) (sym whole)
    (subst (LeastNode plan.rows index [] plan.den) (sym root) (root_asked tree plan index case below))))

-- the weight that stands at an index
pub weighs_at : (question : Question) (layouts : List (ClassLayout × ℕ)) (index : ℕ) (layout : ClassLayout × ℕ)
    → layouts ≡ layouts_of question → index < length layouts
    → (get_or layouts index layout).1 ≡ (layout_at question index).1
weighs_at question layouts index layout same below =
    ap (λ (other : ClassLayout × ℕ). other.1)
    (get_or_default layouts index layout ([], 0) below ∙ ap (λ (l : List (ClassLayout × ℕ)). get_or l index
    ([], 0)) same)

-- ---- some class layouts

-- the best reply in no class layouts
pub none_so_far : (question : Question) (plan : Plan) (start count : ℕ) (moves : List DefenceMove) → count ≡ 0
    → moves ≡ [] → IsReplyIn question plan start count (pos 0) moves
unfolding sum_of
none_so_far question plan start count moves no_count none =
    subst (λ (n : ℕ). IsReplyIn question plan start n (pos 0) moves) (sym no_count) (record {
      sum = refl;
      replies = none;
    })

-- a choice, in a class layout
abbrev pub named_at : ℕ → ChosenMove → DefenceMove
named_at index choice = record { layout = index; history = choice.history; mv = choice.mv }

-- in one class layout
one_reply : (question : Question) (plan : Plan) (index : ℕ) (number : ℤ) (moves : List DefenceMove)
    → number ≡ weighed_worth question plan index
    → moves ≡ least_reply_in question plan (layout_counts question index) index
    → IsReplyIn question plan index 1 number moves
unfolding sum_of
one_reply question plan index number moves worth listed = record {
  sum = worth ∙ alone (weighed_worth question plan index);
  replies = listed ∙ sym (append-nil (least_reply_in question plan (layout_counts question index) index));
}
  where
    alone : (z : ℤ) → z ≡ z +ℤ pos 0
    alone z = omega (arith, ints)

-- numbers that follow each other, in two parts
range_parts : (count more start : ℕ)
    → range_with_len start (count + more) ≡ range_with_len start count ++ range_with_len (start + count) more
range_parts zero more start =
    ap (λ (n : ℕ). range_with_len start n) (omega arith) ∙ ap (λ (n : ℕ). range_with_len n more) (omega arith)
range_parts (suc count) more start =
    let next : suc count + more ≡ suc (count + more) = omega arith in
    let later : start + 1 + count ≡ start + suc count = omega arith in
    ap (λ (n : ℕ). range_with_len start n) next
    ∙ ap (λ (l : List ℕ). start ∷ l) (range_parts count more (start + 1)
    ∙ ap (λ (n : ℕ). range_with_len (start + 1) count ++ range_with_len n more) later)

first_parts : (count more : ℕ) → range_with_len 0 (count + more) ≡ range_with_len 0 count ++ range_with_len count more
first_parts count more =
    let from : 0 + count ≡ count = omega arith in
    range_parts count more 0 ∙ ap (λ (n : ℕ). range_with_len 0 count ++ range_with_len n more) from

-- the best reply in class layouts that follow each other is joined of those in two parts of them
pub both_replies : (question : Question) (plan : Plan) (start count more : ℕ) (first later : ℤ)
    (moves others : List DefenceMove) → IsReplyIn question plan start count first moves
    → IsReplyIn question plan (start + count) more later others
    → IsReplyIn question plan start (count + more) (first +ℤ later) (moves ++ others)
both_replies question plan start count more first later moves others here there =
    let worths : ℕ → ℤ = weighed_worth question plan in
    let replies : ℕ → List DefenceMove =
    λ index. least_reply_in question plan (layout_counts question index) index in
    let front : Indices = range_with_len start count in
    let back : Indices = range_with_len (start + count) more in
    let parts : range_with_len start (count + more) ≡ front ++ back = range_parts count more start in record {
      sum = ap (λ (z : ℤ). z +ℤ later) here.sum
          ∙ ap (λ (z : ℤ). sum_of (map worths front) +ℤ z) there.sum
          ∙ sym (ap (λ (l : Indices). sum_of (map worths l)) parts
          ∙ ap sum_of (map-append worths front back)
          ∙ sum_append (map worths front) (map worths back));
      replies = ap (λ (l : List DefenceMove). l ++ others) here.replies
          ∙ ap (λ (l : List DefenceMove). flat_map replies front ++ l) there.replies
          ∙ sym (ap (flat_map replies) parts ∙ flat_map-append replies front back);
    }

-- what all class layouts are worth together, told by their indices
least_by_indices : (question : Question) (plan : Plan)
    → least question plan ≡ sum_of (map (weighed_worth question plan) (layout_indices (layouts_of question)))
unfolding least
least_by_indices question plan =
    let layouts : List (ClassLayout × ℕ) = layouts_of question in
    let weighed : ClassLayout × ℕ → ℤ = λ layout. pos layout.1 *ℤ worth (reply_to_plan question plan layout.0) [] in
    sym (ap sum_of (sym (map-map weighed (layout_at question) (layout_indices layouts)))
    ∙ ap (λ (l : List (ClassLayout × ℕ)). sum_of (map weighed l)) (by_indices layouts ([], 0)))

module _ (question : Question) (plan : Plan) (count : ℕ) (number : ℤ) (moves : List DefenceMove)
    (all : count ≡ length (layouts_of question)) (found : IsReplyIn question plan 0 count number moves) where
  -- over all class layouts the number is the least that the plan earns
  pub all_numbers : number ≡ least question plan
  all_numbers =
      found.sum ∙ ap (λ (n : ℕ). sum_of (map (weighed_worth question plan) (range_with_len 0 n))) all
      ∙ sym (least_by_indices question plan)

  -- and the moves are those of the best reply
  pub all_moves : moves ≡ least_reply question plan
  unfolding least_reply
  all_moves =
      found.replies ∙ ap (λ (n : ℕ).
      flat_map (λ index. least_reply_in question plan (layout_counts question index) index) (range_with_len 0 n)) all

-- ---- that they fit

-- the numbers that follow each other from one on stay below their end
range_below : (start count index : ℕ) → Contains (range_with_len start count) index → index < start + count
range_below start count index found =
    let few : found.0 < count = omega (arith, found.1, length-range_with_len start count) in
    omega (arith, few, get_or-range_with_len start count found.0 index few, found.2)

module _ (question : Question) (plan : Plan) (valid : IsValid question) (proper : IsProperPlan question plan) where
  -- no class layout is worth less than nothing
  worth_positive : (index : ℕ) → index < length (layouts_of question) → pos 0 ≤ℤ weighed_worth question plan index
  worth_positive index below =
      (weighed_paid question plan (layout_at question index) valid proper
      (Contains-get_or (layouts_of question) index ([], 0) below)).some

  some_positive : (start count : ℕ) → start + count ≤ length (layouts_of question)
      → pos 0 ≤ℤ sum_of (map (weighed_worth question plan) (range_with_len start count))
  some_positive start count within =
      sum_positive (weighed_worth question plan) (range_with_len start count)
      (λ index found. worth_positive index (omega (arith, range_below start count index found, within)))

  -- what some class layouts are worth together is at most what all are
  pub replies_fit : (start count : ℕ) (number : ℤ) (moves : List DefenceMove)
      → start + count ≤ length (layouts_of question) → IsReplyIn question plan start count number moves
      → FitsSigned w128 number
  replies_fit start count number moves within found =
      let worths : ℕ → ℤ = weighed_worth question plan in
      let many : ℕ = length (layouts_of question) in
      let rest : ℕ = many - (start + count) in
      let front : Indices = range_with_len 0 start in
      let middle : Indices = range_with_len start count in
      let back : Indices = range_with_len (start + count) rest in
      let whole : start + count + rest ≡ many = omega (arith, within) in
      let parts : range_with_len 0 many ≡ (front ++ middle) ++ back =
      ap (range_with_len 0) (sym whole) ∙ first_parts (start + count) rest
      ∙ ap (λ (l : Indices). l ++ back) (first_parts start count) in
      let sums : least question plan
      ≡ (sum_of (map worths front) +ℤ sum_of (map worths middle)) +ℤ sum_of (map worths back) =
      least_by_indices question plan
      ∙ ap (λ (l : Indices). sum_of (map worths l)) parts
      ∙ ap sum_of (map-append worths (front ++ middle) back)
      ∙ sum_append (map worths (front ++ middle)) (map worths back)
      ∙ ap (λ (z : ℤ). z +ℤ sum_of (map worths back))
      (ap sum_of (map-append worths front middle) ∙ sum_append (map worths front) (map worths middle)) in
      let bounds = leasts_bounded question plan valid proper in
      subst (FitsSigned w128) (sym found.sum)
      (between (sum_of (map worths front)) (sum_of (map worths middle)) (sum_of (map worths back)) (least question plan)
      sums (some_positive 0 start (omega (arith, within))) (some_positive start count within)
      (some_positive (start + count) rest (omega (arith, whole))) bounds.1)
    where
      between : (a b c all : ℤ) → all ≡ (a +ℤ b) +ℤ c → pos 0 ≤ℤ a → pos 0 ≤ℤ b → pos 0 ≤ℤ c → all <ℤ WORTH_BOUND
          → FitsSigned w128 b
      between a b c all is p q r few =
          let small : IsNarrow b = omega (arith, ints, is, p, q, r, few) in
          fits_signed_from_abs w128 b small

module _ (tree : Tree) (plan : Plan) (index : ℕ) (case : IsPlanFor tree plan)
    (below : index < length (layouts_of case.question)) (weight : ℕ) (found : NodeReplyView)
    (weighs : weight ≡ (layout_at case.question index).1)
    (told : found ≡ node_least MOST_MOVES plan.rows index [] plan.den tree.root) where
  -- what is told of a class layout is the best reply in it
  reply_here : IsReplyIn case.question plan index 1 (pos weight *ℤ found.worth) (map (named_at index) found.choices)
  reply_here =
      let question : Question = case.question in
      let is : found ≡ found_from MOST_MOVES (reply_at question plan index) [] = told ∙ root_told tree plan index case below in
      let allows =
      case_allows question plan index MOST_MOVES [] (first_case question plan index case.valid case.proper below) in
      one_reply question plan index (pos weight *ℤ found.worth) (map (named_at index) found.choices)
      (ap (λ (n : ℕ). pos n *ℤ found.worth) weighs
      ∙ ap (λ (f : NodeReplyView). pos (layout_at question index).1 *ℤ f.worth) is)
      (ap (λ (f : NodeReplyView). map (named_at index) f.choices) is
      ∙ sym (least_reply_walked question plan (layout_counts question index) index case.valid case.proper allows))

  -- one class layout more
  pub one_more : (start : ℕ) (number after : ℤ) (moves later : List DefenceMove) → start ≤ index
      → after ≡ number +ℤ pos weight *ℤ found.worth → later ≡ moves ++ map (named_at index) found.choices
      → IsReplyIn case.question plan start (index - start) number moves
      → IsReplyIn case.question plan start (index + 1 - start) after later
  one_more start number after moves later from adds joins so_far =
      let question : Question = case.question in
      let here : start + (index - start) ≡ index = omega (arith, from) in
      let next : index - start + 1 ≡ index + 1 - start = omega (arith, from) in
      subst (λ (l : List DefenceMove). IsReplyIn question plan start (index + 1 - start) after l) (sym joins)
      (subst (λ (z : ℤ). IsReplyIn question plan start (index + 1 - start) z (moves
      ++ map (named_at index) found.choices))
      (sym adds)
      (subst (λ (n : ℕ). IsReplyIn question plan start n (number +ℤ pos weight *ℤ found.worth)
      (moves ++ map (named_at index) found.choices)) next
      (both_replies question plan start (index - start) 1 number (pos weight *ℤ found.worth) moves
      (map (named_at index) found.choices) so_far
      (subst (λ (n : ℕ). IsReplyIn question plan n 1 (pos weight *ℤ found.worth) (map (named_at index) found.choices))
      (sym here) reply_here))))

  -- what is added fits
  pub part_fits : FitsSigned w128 (pos weight *ℤ found.worth)
  part_fits =
      replies_fit case.question plan case.valid case.proper index 1 (pos weight *ℤ found.worth)
      (map (named_at index) found.choices) (omega (arith, below)) reply_here

  -- so does the sum with one class layout more
  pub next_fits : (start : ℕ) (number : ℤ) (moves : List DefenceMove) → start ≤ index
      → IsReplyIn case.question plan start (index - start) number moves
      → FitsSigned w128 (number +ℤ pos weight *ℤ found.worth)
  next_fits start number moves from so_far =
      let all : start + (index + 1 - start) ≤ length (layouts_of case.question) = omega (arith, below, from) in
      replies_fit case.question plan case.valid case.proper start (index + 1 - start)
      (number +ℤ pos weight *ℤ found.worth) (moves ++ map (named_at index) found.choices) all
      (one_more start number (number +ℤ pos weight *ℤ found.worth) moves (moves ++ map (named_at index) found.choices)
      from refl refl so_far)
