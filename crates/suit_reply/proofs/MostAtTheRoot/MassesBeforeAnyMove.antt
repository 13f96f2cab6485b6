-- sum_first: the masses of the empty history, and what they add up to.
use Rattle.std.proofs.Common.{◌≡◌, ℕ, ◌<◌, List, [], ◌∷◌, length, map, refl, sym, ap, ◌∙◌, arith}
use Rattle.std.specs.Prelude.{Contains, sum_by, ℤ, pos, ◌*ℤ◌}
use Rattle.std.proofs.lemmas.List.Elements.{Contains-get_or}
use Rattle.std.proofs.lemmas.List.FromFn.{length-range_with_len}
use Rattle.std.proofs.lemmas.Simd.{map-map}
use Rattle.suit_lists.proofs.Elements.{Contains-same}
use Rattle.suit_lists.proofs.Maps.{map_same}
use Rattle.suit_lists.proofs.Walks.{by_indices}
use Rattle.suit_cards.specs.Cards.{ClassLayout, Indices}
use Rattle.suit_game.specs.declared.question.Question.{Question}
use Rattle.suit_game.specs.Layouts.{total as all_weights}
use Rattle.suit_game.specs.Validity.{IsValid}
use Rattle.suit_classes.specs.Classes.{defence_sizes, hands_of}
use Rattle.suit_classes.proofs.DefenceSizes.{sum-defence_sizes}
use Rattle.suit_layouts.proofs.WhatHasWeightIsListed.{class_layouts_exact}
use Rattle.suit_plans.specs.Masses.{defence_mass, mass_from, mass_of, weight_of}
use Rattle.suit_plans.specs.Properness.{IsProperDefence, sum_of}
use Rattle.suit_plans.specs.declared.defence.Defence.{Defence}
use Rattle.suit_plans.proofs.RepliesAreBounded.{sum_weighed, weights_add}
use Rattle.suit_plans.proofs.ProperDefences.{defences_are_realised}
use Rattle.suit_tree.specs.Trees.{layout_indices}
use Rattle.suit_tree.proofs.OneNodeAtEachPath.{kept_layouts}
use Rattle.suit_tree.proofs.GrownIsCounted.{allowing_first}
use Rattle.suit_reply.specs.LayoutsReplies.{layout_at}
use Rattle.suit_reply.proofs.MostByNodes.WhichLayoutsAllow.{mass_at}
use Rattle.suit_reply.proofs.MostIsBounded.{mass_sum, sum_all}
use Rattle.suit_reply.proofs.MostByNodes.Cases.{MostCase}
use Rattle.suit_reply.proofs.OwnMovesGoOn.{layout_counts, layouts_of}
use Rattle.suit_game.specs.declared.limits.TheConstants.{MOST_MOVES}

-- the weight of the class layout at an index is that which stands beside it, and above 0
pub index_weighs : (question : Question) (index : ℕ) → IsValid question
    → Contains (layout_indices (layouts_of question)) index
    → ((layout_at question index).1 ≡ weight_of question (layout_counts question index))
    × (0 < weight_of question (layout_counts question index))
index_weighs question index valid found =
    let layouts : List (ClassLayout × ℕ) = layouts_of question in
    let layout : ClassLayout × ℕ = layout_at question index in
    let below : index < length layouts =
    ((kept_layouts question [] index valid).0
    (Contains-same index (sym (allowing_first question)) found)).0 in
    let exact =
    (class_layouts_exact question (defence_sizes (hands_of question)) layout.0 layout.1
    (sum-defence_sizes (hands_of question))).0 (Contains-get_or layouts index ([], 0) below) in
    (exact.0, omega (arith, exact.0, exact.1))

some_weighed : (layouts : List (ClassLayout × ℕ)) → 0 < sum_by (λ (layout : ClassLayout × ℕ). layout.1) layouts
    → 0 < length layouts
some_weighed [] some = absurd (omega (arith, some))
some_weighed (layout ∷ layouts) some = omega arith

-- the mass of a class layout at the start is its weight times the denominator
pub mass_first : (question : Question) (defence : Defence) (index : ℕ)
    → mass_at question defence [] index ≡ pos (weight_of question (layout_counts question index)) *ℤ defence.den
unfolding defence_mass mass_of mass_from
mass_first question defence index = refl

module _ (question : Question) (defence : Defence) (valid : IsValid question)
    (proper : IsProperDefence question defence) where
  -- at the start the root of a question's tree is asked for the reply to a proper defence
  pub most_first : MostCase MOST_MOVES question defence []
  most_first =
      let layouts : List (ClassLayout × ℕ) = layouts_of question in
      let some : 0 < length layouts = some_weighed layouts (omega (arith, valid.has_weight, weights_add question)) in
      record {
        valid = valid;
        proper = proper;
        realised =
            λ index found. defences_are_realised question defence (layout_counts question index) valid proper
            (index_weighs question index valid found).1;
        some = omega (
          arith,
          some,
          ap (λ (l : Indices). length l) (allowing_first question),
          length-range_with_len 0 (length layouts),
        );
        left = refl;
      }

  -- so the masses at the start add up to the question's weight times the denominator
  pub sum_first : mass_sum question defence [] ≡ pos (all_weights question) *ℤ defence.den
  sum_first =
      let layouts : List (ClassLayout × ℕ) = layouts_of question in
      let indices : Indices = layout_indices layouts in
      let weighed : ClassLayout × ℕ → ℤ = λ layout. pos layout.1 *ℤ defence.den in
      sum_all question defence MOST_MOVES [] (most_first)
      ∙ ap (λ (l : Indices). sum_of (map (mass_at question defence []) l)) (allowing_first question)
      ∙ ap sum_of
      (map_same (mass_at question defence []) (λ index. weighed (layout_at question index)) indices
      (λ index found. mass_first question defence index
      ∙ ap (λ (n : ℕ). pos n *ℤ defence.den) (sym (index_weighs question index valid found).0)))
      ∙ ap sum_of (sym (map-map weighed (layout_at question) indices))
      ∙ ap (λ (l : List (ClassLayout × ℕ)). sum_of (map weighed l)) (by_indices layouts ([], 0))
      ∙ sum_weighed defence.den layouts
      ∙ ap (λ (n : ℕ). pos n *ℤ defence.den) (weights_add question)
