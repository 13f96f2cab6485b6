-- masses_stay, masses_pass: what the masses of a class history become with a move more.
use Rattle.std.proofs.Common.{◌≡◌, ℕ, suc, Bool, true, false, List, [], ◌∷◌, ◌++◌, map, refl, sym, ap, ◌∙◌}
use Rattle.std.proofs.Common.{arith}
use Rattle.std.specs.Prelude.{Contains, filter, get_or, int_lt, pos, unwrap_or, ℤ, ◌&&◌, ◌≤ℤ◌}
use Rattle.std.proofs.lemmas.Int.{ints}
use Rattle.std.proofs.lemmas.List.{map-id}
use Rattle.std.proofs.lemmas.List.Elements.{Contains-get_or, filter_agree}
use Rattle.suit_lists.proofs.Elements.{Contains-same}
use Rattle.suit_cards.specs.Cards.{ClassLayout, Indices}
use Rattle.suit_game.specs.declared.question.Question.{Question}
use Rattle.suit_game.specs.Validity.{IsValid}
use Rattle.suit_classes.specs.declared.class_moves.ClassMove.{ClassMove}
use Rattle.suit_classes.specs.WhatIsAllowed.{allows, is_among}
use Rattle.suit_classes.specs.declared.class_view.ClassView.{ClassView}
use Rattle.suit_classes.specs.ClassPlaces.{class_after, class_moves}
use Rattle.suit_classes.proofs.SameMoves.{among-Contains, among_contained}
use Rattle.suit_classes.proofs.AllowsOneMoveMore.{allows-push}
use Rattle.suit_classes.specs.ClassMoves.{ClassHistory}
use Rattle.suit_classes.specs.declared.class_moves.ClassMove.TheVariants.{ShowOut}
use Rattle.suit_plans.specs.Masses.{defence_shares_at, defence_mass, defenders, is_first}
use Rattle.suit_plans.specs.Masses.{share}
use Rattle.suit_plans.specs.declared.defence.Defence.{Defence}
use Rattle.suit_plans.proofs.MassSteps.{mass_kept, mass_shared}
use Rattle.suit_plans.proofs.TurnMoves.{declarers_moves}
use Rattle.suit_tree.specs.declared.node.Node.{Node}
use Rattle.suit_tree.specs.Growing.{keeping}
use Rattle.suit_tree.specs.Nodes.{holds_index, layouts_at, move_of}
use Rattle.suit_tree.specs.Trees.{allowing, counts_at, layout_indices, moves_on}
use Rattle.suit_tree.proofs.GrownIsCounted.{kept_allowing}
use Rattle.suit_tree.proofs.MovesOn.{moves_on-parts}
use Rattle.suit_tree.proofs.NodePaths.{tree_stands}
use Rattle.suit_reply.specs.AgainstDefence.{is_live, layout_share}
use Rattle.suit_reply.proofs.MostByNodes.WhichLayoutsAllow.{mass_at}
use Rattle.suit_tree.proofs.NodesFitMoves.{map_fitted_kept}
use Rattle.suit_tree.proofs.ClassMovesLeadToNodes.{held_is, held_moves}
use Rattle.suit_tree.specs.Nodes.{is_held}
use Rattle.suit_reply.proofs.OwnMovesGoOn.{AreBelow, AreChildren, IsDeclarersTurn, IsDefencesTurn, IsGoing}
use Rattle.suit_reply.proofs.OwnMovesGoOn.{NotDefencesTurn, layout_counts, layout_moves, layouts_of}
use Rattle.suit_reply.proofs.MostByNodes.LiveMasses.{held_at, live_masses, live_passed, not_above, same_live}
use Rattle.suit_reply.proofs.MostByNodes.Cases.{MostCase, masses_at, index_before, index_falls, index_positive}

-- whether a class layout goes on with a move
abbrev pub goes_with : Question → ClassHistory → ClassMove → ℕ → Bool
goes_with question history move index = is_among (layout_moves question index history) move

-- of the class layouts that allow a history, those that go on with a move allow it with the move
pub going_with : (question : Question) (history : ClassHistory) (move : ClassMove)
    → filter (goes_with question history move) (allowing question history) ≡ allowing question (history ++ move ∷ [])
unfolding keeping
going_with question history move = kept_allowing question history move

-- ---- a turn of declarer's

and-true : (b c : Bool) → c ≡ true → (b && c) ≡ b
and-true true c is = is
and-true false c is = refl

-- a move of declarer's is one in each class layout
all_allow : (question : Question) (history : ClassHistory) (move : ClassMove) → IsValid question
    → IsDeclarersTurn question history
    → Contains (moves_on question history) move → allowing question (history ++ move ∷ []) ≡ allowing question history
unfolding allowing
all_allow question history move valid own found =
    let layouts : List (ClassLayout × ℕ) = layouts_of question in
    let view : ClassView = class_after question history in
    let kept : Indices = allowing question (history ++ move ∷ []) in
    let some : Contains kept (get_or kept 0 0) =
    Contains-get_or kept 0 0 (moves_on-parts question history move found).1 in
    let goes = (index_before question history move (get_or kept 0 0) valid some).1 in
    let among : (index : ℕ) → is_among (class_moves view (counts_at layouts index)) move ≡ true =
    λ index. among_contained (class_moves view (counts_at layouts index)) move
    (Contains-same move
    (declarers_moves view (layout_counts question (get_or kept 0 0)) (counts_at layouts index) own) goes) in
    filter_agree (λ index. allows question (counts_at layouts index) (history ++ move ∷ []))
    (λ index. allows question (counts_at layouts index) history)
    (λ index. allows-push question (counts_at layouts index) history move
    ∙ and-true (allows question (counts_at layouts index) history)
    (is_among (class_moves view (counts_at layouts index)) move) (among index))
    (layout_indices layouts)

-- the first move of a class layout among the nodes below is the first of its class moves
firsts_below : (more : ℕ) (question : Question) (history : ClassHistory) (nodes : List Node) (index : ℕ)
    → IsValid question → IsGoing question history
    → AreChildren more question history nodes → Contains (allowing question history) index
    → map move_of (filter (holds_index index) nodes) ≡ layout_moves question index history
firsts_below more question history nodes index valid going fit held =
    let may : ClassMove → Bool = λ other. is_held index (allowing question (history ++ other ∷ [])) in
    map_fitted_kept (AreBelow more question history) move_of (λ other. other) (holds_index index) may
    (moves_on question history) nodes fit
    (λ other child below. ap (is_held index) (tree_stands more question (history ++ other ∷ []) child below.1).layouts)
    (λ other child passes below. ap (λ to. unwrap_or to ShowOut) below.0)
    ∙ map-id (filter may (moves_on question history))
    ∙ held_moves question history index valid held going

stays_none : (mass after : ℤ) → pos 0 ≤ℤ mass → after ≤ℤ mass → int_lt (pos 0) mass ≡ false
    → int_lt (pos 0) after ≡ false
stays_none mass after positive falls fails =
    let none : mass ≡ pos 0 = not_above mass positive fails in grind (arith, ints)

module _ (question : Question) (defence : Defence) (history : ClassHistory) (move : ClassMove) where
  -- and keeps the mass there
  pub own_keeps : (index : ℕ) → NotDefencesTurn question history
      → mass_at question defence (history ++ move ∷ []) index ≡ mass_at question defence history index
  unfolding defence_mass
  own_keeps index not_theirs =
      mass_kept question (defenders question defence.den defence.rows (layout_counts question index)) history move
      not_theirs

  -- so it keeps the masses
  pub masses_stay : IsValid question → IsDeclarersTurn question history → NotDefencesTurn question history
      → Contains (moves_on question history) move
      → masses_at question defence (history ++ move ∷ []) ≡ masses_at question defence history
  masses_stay valid own not_theirs found =
      ap (live_masses (mass_at question defence (history ++ move ∷ [])))
      (all_allow question history move valid own found)
      ∙ same_live (mass_at question defence (history ++ move ∷ [])) (mass_at question defence history)
      (allowing question history)
      (λ index. own_keeps index not_theirs)

  -- ---- a turn of the defence

  -- a class layout's mass passes on as its share
  shares_below : (more : ℕ) (nodes : List Node) (index : ℕ) → IsValid question → IsGoing question history
      → IsDefencesTurn question history → AreChildren more question history nodes
      → Contains (allowing question history) index
      → layout_share (layouts_of question) defence.rows nodes history move
      (held_at (mass_at question defence history) index)
      ≡ held_at (mass_at question defence (history ++ move ∷ [])) index
  unfolding defence_mass
  shares_below more nodes index valid going theirs fit held =
      let counts : ClassLayout = layout_counts question index in
      let mass : ℤ = mass_at question defence history index in
      ap (λ (m : ℤ). (index, m))
      (ap (λ (l : List ClassMove). share (defence_shares_at defence.rows counts history) (is_first l move) mass move)
      (firsts_below more question history nodes index valid going fit held)
      ∙ sym (mass_shared question (defenders question defence.den defence.rows counts) history move theirs))

  -- so the masses pass on to the node by a move
  pub masses_pass : (more : ℕ) (nodes : List Node) (child : Node) → MostCase (suc more) question defence history
      → IsGoing question history → IsDefencesTurn question history → AreChildren more question history nodes
      → AreBelow more question history move child
      → filter is_live (map (layout_share (layouts_of question) defence.rows nodes history move)
      (filter (λ held. holds_index held.0 child) (masses_at question defence history)))
      ≡ masses_at question defence (history ++ move ∷ [])
  masses_pass more nodes child is going theirs fit below =
      let before : ℕ → ℤ = mass_at question defence history in
      let after : ℕ → ℤ = mass_at question defence (history ++ move ∷ []) in
      let kept : Indices = allowing question (history ++ move ∷ []) in
      let held : layouts_at child ≡ kept = (tree_stands more question (history ++ move ∷ []) child below.1).layouts in
      live_passed before after (layout_share (layouts_of question) defence.rows nodes history move)
      (λ held. holds_index held.0 child) (goes_with question history move) (allowing question history)
      (λ index found. ap (is_held index) held ∙ held_is question history move index is.valid found)
      (λ index found goes. shares_below more nodes index is.valid going theirs fit found)
      (λ index found goes fails.
      stays_none (before index) (after index) (index_positive question defence (suc more) history index is found)
      (index_falls question defence (suc more) history move index is found
      (among-Contains (layout_moves question index history) move goes)) fails)
      ∙ ap (live_masses after) (going_with question history move)
