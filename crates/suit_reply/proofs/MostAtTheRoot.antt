-- root_asked, root_told: what the root of a question's tree is asked for, where declarer replies to a defence, and
-- what it tells.
pub mod MassesBeforeAnyMove
use Rattle.std.proofs.Common.{◌≡◌, ℕ, ◌-◌, ◌<◌, ◌≤◌, All, true, List, [], length, get_or, map, sym, ap}
use Rattle.std.proofs.Common.{◌∙◌, subst, arith}
use Rattle.std.specs.Prelude.{Contains, filter, ℤ, pos, ◌*ℤ◌, ◌≤ℤ◌, int_lt}
use Rattle.std.specs.List.{range_with_len}
use Rattle.std.proofs.lemmas.Int.{ints}
use Rattle.std.proofs.lemmas.List.Elements.{Contains-get_or}
use Rattle.suit_lists.proofs.Filters.{all_pass_map}
use Rattle.suit_lists.proofs.Maps.{map_same}
use Rattle.suit_num.proofs.IntegerLaws.{le-mul_right, int_le-true}
use Rattle.suit_cards.specs.Cards.{ClassLayout, Indices}
use Rattle.suit_game.specs.declared.question.Question.{Question}
use Rattle.suit_game.specs.Layouts.{total as all_weights}
use Rattle.suit_game.specs.Validity.{IsValid}
use Rattle.suit_game.proofs.WhatAllLayoutsWeigh.{total_at_most}
use Rattle.suit_classes.specs.Classes.{defence_sizes, hands_of}
use Rattle.suit_classes.proofs.DefenceSizes.{sum-defence_sizes}
use Rattle.suit_classes.specs.ClassMoves.{ClassHistory}
use Rattle.suit_layouts.proofs.WhatHasWeightIsListed.{class_layouts_exact}
use Rattle.suit_plans.specs.BestReplies.{reply_to_defence}
use Rattle.suit_plans.specs.Masses.{weight_of}
use Rattle.suit_plans.specs.Properness.{IsProperDefence, sum_of}
use Rattle.suit_plans.specs.declared.defence.Defence.{Defence}
use Rattle.suit_plans.specs.declared.defence.DefenceRow.{DefenceRow}
use Rattle.suit_plans.proofs.ProperDefences.{proper_defence}
use Rattle.suit_plans.proofs.RowLimits.{weight_at_most}
use Rattle.suit_tree.specs.declared.node.Node.{Node}
use Rattle.suit_tree.specs.declared.tree.Tree.{Tree}
use Rattle.suit_tree.specs.Trees.{IsTreeAt, layout_indices}
use Rattle.suit_tree.proofs.GrownIsCounted.{allowing_first}
use Rattle.suit_reply.specs.AgainstDefence.{IsDefenceFor, LayoutMasses, MostNode, is_live, node_most}
use Rattle.suit_reply.specs.LayoutsReplies.{layout_at}
use Rattle.suit_reply.proofs.MostByNodes.WhichLayoutsAllow.{mass_at}
use Rattle.suit_reply.proofs.MostAtTheRoot.MassesBeforeAnyMove.{mass_first, most_first, index_weighs, sum_first}
use Rattle.suit_reply.proofs.MostByNodes.LiveMasses.{held_at}
use Rattle.suit_reply.proofs.MostIsBounded.{mass_sum}
use Rattle.suit_reply.proofs.MostByNodes.{most_by_nodes}
use Rattle.suit_reply.proofs.MostByNodes.Cases.{masses_at}
use Rattle.suit_reply.proofs.WorthAtATurn.{found_from}
use Rattle.suit_reply.proofs.OwnMovesGoOn.{layout_counts, layouts_of}
use Rattle.suit_game.specs.declared.limits.TheConstants.{MOST_MOVES, MOST_TOTAL}
use Rattle.suit_plans.specs.declared.plan.TheConstants.{MOST_DEN, MOST_MASS}

-- ---- the class layouts of a question

-- their weights are small
pub layouts_weigh : (question : Question) → IsValid question
    → All (λ layout. layout.1 ≤ MOST_TOTAL) (layouts_of question)
layouts_weigh question valid = λ k d below.
    let layout : ClassLayout × ℕ = get_or (layouts_of question) k d in
    let exact =
    (class_layouts_exact question (defence_sizes (hands_of question)) layout.0 layout.1
    (sum-defence_sizes (hands_of question))).0 (Contains-get_or (layouts_of question) k d below) in
    omega (arith, exact.0, weight_at_most question layout.0 valid)

-- ---- the denominator of a defence

-- that of a proper defence lies between 1 and its limit
pub den_within : (question : Question) (defence : Defence) → IsProperDefence question defence
    → (pos 1 ≤ℤ defence.den) × (defence.den ≤ℤ MOST_DEN)
den_within question defence proper =
    let parts = proper_defence question defence proper in
    (int_le-true (pos 1) defence.den parts.0, int_le-true defence.den (MOST_DEN) parts.1)

-- ---- the masses of the empty history

-- the masses of the empty history, by the indices of the class layouts
abbrev pub weighed_masses : List (ClassLayout × ℕ) → ℤ → LayoutMasses
weighed_masses layouts den =
    map (λ index. (index, pos (get_or layouts index ([], 0)).1 *ℤ den)) (range_with_len 0 (length layouts))

weighs_live : (weight : ℕ) (den : ℤ) → 0 < weight → pos 1 ≤ℤ den → int_lt (pos 0) (pos weight *ℤ den) ≡ true
weighs_live weight den some least =
    live (pos weight *ℤ den) den (le-mul_right (pos 1) (pos weight) den (omega (arith, ints)) (omega (arith, ints)))
    least
  where
    live : (product den : ℤ) → (pos 1 *ℤ den) ≤ℤ product → pos 1 ≤ℤ den → int_lt (pos 0) product ≡ true
    live product den more least = let above : pos 1 ≤ℤ product = omega (arith, ints) in grind (arith, ints)

module _ (question : Question) (defence : Defence) (valid : IsValid question)
    (proper : IsProperDefence question defence) where
  -- they are what a proper defence lets through to it
  pub first_masses : weighed_masses (layouts_of question) defence.den ≡ masses_at question defence []
  first_masses =
      let layouts : List (ClassLayout × ℕ) = layouts_of question in
      let indices : Indices = layout_indices layouts in
      let mass : ℕ → ℤ = mass_at question defence [] in
      let weighed : ℕ → ℕ × ℤ = λ index. (index, pos (layout_at question index).1 *ℤ defence.den) in
      let is_mass : (index : ℕ) → Contains indices index
      → mass index ≡ pos (layout_at question index).1 *ℤ defence.den =
      λ index found. mass_first question defence index
      ∙ ap (λ (n : ℕ). pos n *ℤ defence.den) (sym (index_weighs question index valid found).0) in
      map_same weighed (held_at mass) indices (λ index found. ap (λ (m : ℤ). (index, m)) (sym (is_mass index found)))
      ∙ sym (all_pass_map is_live (held_at mass) indices
      (λ index found.
      ap (λ (m : ℤ). int_lt (pos 0) m) (mass_first question defence index)
      ∙ weighs_live (weight_of question (layout_counts question index)) defence.den
      (index_weighs question index valid found).1 (den_within question defence proper).0))
      ∙ ap (λ (l : Indices). filter is_live (map (held_at mass) l)) (sym (allowing_first question))

  -- and add up to little enough
  pub first_within : mass_sum question defence [] ≤ℤ pos MOST_MASS
  first_within =
      let den = den_within question defence proper in
      subst (λ (z : ℤ). z ≤ℤ pos MOST_MASS) (sym (sum_first question defence valid proper))
      (bounded (all_weights question) defence.den (total_at_most question valid) den.0 den.1)
    where
      product : (weight : ℕ) (den : ℤ) → weight ≤ MOST_TOTAL → pos 1 ≤ℤ den
          → (pos weight *ℤ den) ≤ℤ (pos MOST_TOTAL *ℤ den)
      product weight den few least =
          le-mul_right (pos weight) (pos MOST_TOTAL) den (omega (arith, ints)) (omega (arith, ints))

      within : (product den : ℤ) → product ≤ℤ (pos MOST_TOTAL *ℤ den) → den ≤ℤ MOST_DEN → product ≤ℤ pos MOST_MASS
      within product den most few = omega (arith, ints)

      bounded : (weight : ℕ) (den : ℤ) → weight ≤ MOST_TOTAL → pos 1 ≤ℤ den → den ≤ℤ MOST_DEN
          → (pos weight *ℤ den) ≤ℤ pos MOST_MASS
      bounded weight den few least most = within (pos weight *ℤ den) den (product weight den few least) most

-- ---- the root

module _ (tree : Tree) (defence : Defence) (layouts : List (ClassLayout × ℕ)) (rows : List DefenceRow)
    (history : ClassHistory) (masses : LayoutMasses) (root : Node) (is : IsDefenceFor tree defence)
    (are : layouts ≡ tree.layouts.items) (given : rows ≡ defence.rows) (none : history ≡ [])
    (weighed : masses ≡ weighed_masses layouts defence.den) (top : root ≡ tree.root) where
  -- the root is asked for the reply from the empty history on
  pub root_asked : MostNode layouts rows history masses root
  root_asked =
      let question : Question = is.question in
      let listed : layouts ≡ layouts_of question = are ∙ is.grown.layouts in
      let whole : masses ≡ masses_at question defence [] =
      weighed ∙ ap (λ (l : List (ClassLayout × ℕ)). weighed_masses l defence.den) listed
      ∙ first_masses question defence is.valid is.proper in
      subst (λ (h : ClassHistory). MostNode layouts rows h masses root) (sym none)
      (record {
        question = question;
        defence = defence;
        valid = is.valid;
        proper = is.proper;
        is_layouts = sym listed;
        is_rows = sym given;
        some = (most_first question defence is.valid is.proper).some;
        tree = subst (λ (node : Node). IsTreeAt MOST_MOVES question [] node) (sym top) is.grown.nodes;
        are_masses = whole;
        within =
            subst (λ (part : LayoutMasses). sum_of (map (λ (held : ℕ × ℤ). held.1) part) ≤ℤ pos MOST_MASS) (sym whole)
            (first_within question defence is.valid is.proper);
      })

  -- and tells what the best reply to the defence comes to
  pub root_told : node_most (MOST_MOVES - length history) layouts rows history masses root ≡ found_from MOST_MOVES
      (reply_to_defence is.question defence) []
  root_told =
      let question : Question = is.question in
      let listed : layouts ≡ layouts_of question = are ∙ is.grown.layouts in
      let whole : masses ≡ masses_at question defence [] =
      weighed ∙ ap (λ (l : List (ClassLayout × ℕ)). weighed_masses l defence.den) listed
      ∙ first_masses question defence is.valid is.proper in
      ap (λ (h : ClassHistory). node_most (MOST_MOVES - length h) layouts rows h masses root) none
      ∙ ap (λ (l : List (ClassLayout × ℕ)). node_most MOST_MOVES l rows [] masses root) listed
      ∙ ap (λ (l : List DefenceRow). node_most MOST_MOVES (layouts_of question) l [] masses root) given
      ∙ ap (λ (node : Node). node_most MOST_MOVES (layouts_of question) defence.rows [] masses node) top
      ∙ most_by_nodes question defence MOST_MOVES [] masses tree.root (most_first question defence is.valid is.proper)
      is.grown.nodes whole
