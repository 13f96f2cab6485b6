-- The nodes below a class history, by the moves of play in order (`moves_below`, `held_below`, `own_below`), and the
-- class layouts in which it is reached, by their indices (`reached_at`).
use Rattle.std.proofs.Common.{◌≡◌, ℕ, zero, suc, ◌+◌, ◌-◌, ◌<◌, ◌≤◌}
use Rattle.std.proofs.Common.{Bool, true, false, List, [], ◌∷◌, ◌++◌, length, map}
use Rattle.std.proofs.Common.{refl, sym, ap, ◌∙◌, subst, arith, get_or}
use Rattle.std.specs.Prelude.{Contains, Some, filter, nat_lt}
use Rattle.std.specs.Option.{unwrap_or}
use Rattle.std.proofs.lemmas.Bool.{ltb-true}
use Rattle.std.proofs.lemmas.Bool.Decides.{same_from_decides}
use Rattle.std.proofs.lemmas.List.{length-append, map-id}
use Rattle.std.proofs.lemmas.List.Elements.{Contains-get_or, filter_agree}
use Rattle.suit_lists.proofs.Elements.{Contains-same, nil_from_none}
use Rattle.suit_lists.proofs.Filters.{filter_of_map, kept_parts}
use Rattle.suit_lists.proofs.Walks.{by_indices}
use Rattle.suit_cards.specs.Cards.{ClassLayout, Indices}
use Rattle.suit_game.specs.declared.question.Question.{Question}
use Rattle.suit_game.specs.Validity.{IsValid}
use Rattle.suit_game.specs.declared.limits.TheConstants.{MOST_MOVES}
use Rattle.suit_classes.specs.declared.class_moves.ClassMove.{ClassMove}
use Rattle.suit_classes.specs.declared.class_moves.ClassMove.TheVariants.{ShowOut}
use Rattle.suit_classes.specs.declared.class_view.ClassView.{ClassView}
use Rattle.suit_classes.specs.WhatIsAllowed.{every_move, is_among}
use Rattle.suit_classes.specs.ClassMoves.{ClassHistory}
use Rattle.suit_classes.specs.ClassPlaces.{class_after, class_decided, class_moves, class_turn}
use Rattle.suit_classes.proofs.AllowedMoveByMove.{allowed_moves}
use Rattle.suit_classes.proofs.DecidedStaysDecided.{class_histories_are_short}
use Rattle.suit_classes.proofs.EveryMove.{class_moves_listed}
use Rattle.suit_classes.proofs.SameMoves.{among-Contains, among_contained}
use Rattle.suit_plans.specs.Masses.{is_declarers}
use Rattle.suit_plans.specs.ReplyLaws.{counts_at}
use Rattle.suit_plans.proofs.TurnMoves.{declarers_moves}
use Rattle.suit_tree.specs.declared.node.Node.{Node}
use Rattle.suit_tree.specs.Nodes.{children_of, holds_index, is_held, move_of, move_to}
use Rattle.suit_tree.specs.Trees.{AllFit, IsTreeAt, allowing, layout_indices, moves_on}
use Rattle.suit_tree.proofs.OneNodeAtEachPath.{in_range_below, kept_layouts}
use Rattle.suit_tree.proofs.NodesFitMoves.{fitted_node, map_fitted, map_fitted_kept}
use Rattle.suit_tree.proofs.ClassMovesLeadToNodes.{going_on, held_moves, index_goes_on, some_held}
use Rattle.suit_tree.proofs.MovesOn.{moves_on-parts}
use Rattle.suit_tree.proofs.NodePaths.{tree_stands}
use Rattle.suit_tree.proofs.GrownIsCounted.{all_fit_gives}
use Rattle.suit_program.specs.Walks.Reaches.{reached_indices}
use Rattle.suit_program.specs.Supports.{Support, is_reached, layouts_of, reached_layouts}
use Rattle.suit_program.proofs.lemmas.Supports.WhatIsReached.{reached_allows}

-- ---- class layouts by their indices

module _ (question : Question) where
  -- the class layout at an index
  abbrev pub layout_at : ℕ → ClassLayout × ℕ
  layout_at index = get_or (layouts_of question) index ([], 0)

  pub layout_listed : (index : ℕ) → index < length (layouts_of question)
      → Contains (layouts_of question) (layout_at index)
  layout_listed index below = Contains-get_or (layouts_of question) index ([], 0) below

module _ (question : Question) (support : Support) (history : ClassHistory) where
  pub reached_at : reached_layouts question support history
      ≡ map (layout_at question) (reached_indices question support history)
  unfolding reached_layouts reached_indices
  reached_at =
      let may : ClassLayout × ℕ → Bool = λ layout. is_reached question support layout.0 history in
      ap (filter may) (sym (by_indices (layouts_of question) ([], 0)))
      ∙ filter_of_map may (layout_at question) (layout_indices (layouts_of question))

  pub index_parts : (index : ℕ) → Contains (reached_indices question support history) index
      → (index < length (layouts_of question))
      × (is_reached question support (counts_at question index) history ≡ true)
  unfolding reached_indices
  index_parts index found =
      let parts = kept_parts (λ at. is_reached question support (counts_at question at) history)
      (layout_indices (layouts_of question)) index found in
      (in_range_below (length (layouts_of question)) index parts.0, parts.1)

  -- a class layout in which it is reached allows it
  pub index_allows : IsValid question → (index : ℕ) → Contains (reached_indices question support history) index
      → Contains (allowing question history) index
  index_allows valid index found =
      let parts = index_parts index found in
      (kept_layouts question history index valid).1 (
        parts.0,
        reached_allows question support valid (layout_at question index) (layout_listed question index parts.0)
            history parts.1,
      )

-- ---- the nodes below

module _ (question : Question) (valid : IsValid question) (history : ClassHistory) where
  abbrev view : ClassView
  view = class_after question history

  -- a node stands below a class history, by a move
  abbrev pub IsBelow : ClassMove → Node → Type 0
  IsBelow move child =
      (move_to child ≡ Some move) × IsTreeAt (MOST_MOVES - length (history ++ move ∷ [])) question
      (history ++ move ∷ []) child

  -- before a move more there are fewer than can be played
  pub moves_short : (move : ClassMove) → Contains (moves_on question history) move → length history < MOST_MOVES
  moves_short move found =
      let kept : Indices = allowing question (history ++ move ∷ []) in
      let parts = moves_on-parts question history move found in
      let first : ℕ = get_or kept 0 0 in
      let allowed = ((kept_layouts question (history ++ move ∷ []) first valid).0
      (Contains-get_or kept 0 0 parts.1)).1 in
      let short : length (history ++ move ∷ []) ≤ MOST_MOVES =
      class_histories_are_short question (counts_at question first) (history ++ move ∷ []) allowed in
      omega (arith, short, length-append history (move ∷ []))

  module _ (node : Node) where
    fitted_in : (more : ℕ) → more ≡ MOST_MOVES - length history → IsTreeAt more question history node
        → AllFit IsBelow (moves_on question history) (children_of node)
    unfolding IsTreeAt AllFit
    fitted_in zero long tree =
        subst (λ (moves : List ClassMove). AllFit IsBelow moves (children_of node))
        (sym (nil_from_none (moves_on question history) (λ move found.
        let short : length history < MOST_MOVES = moves_short move found in
        omega (arith, long, short))))
        (subst (AllFit IsBelow []) (sym tree.1) tt)
    fitted_in (suc more) long tree =
        all_fit_gives (λ move child. (move_to child ≡ Some move) × IsTreeAt more question (history ++ move ∷ []) child)
        IsBelow
        (λ move child fits. (
          fits.0,
          subst (λ (left : ℕ). IsTreeAt left question (history ++ move ∷ []) child)
              (less more (length history) (length (history ++ move ∷ [])) long (length-append history (move ∷ [])))
              fits.1,
        )) (moves_on question history) (children_of node) tree.1
      where
        less : (more long longer : ℕ) → suc more ≡ MOST_MOVES - long → longer ≡ long + 1 → more ≡ MOST_MOVES - longer
        less more long longer is next = omega (arith, is, next)

    module _ (tree : IsTreeAt (MOST_MOVES - length history) question history node) where
      fitted : AllFit IsBelow (moves_on question history) (children_of node)
      fitted = fitted_in (MOST_MOVES - length history) refl tree

      -- the moves to them are those by which the class history goes on
      pub moves_below : map move_of (children_of node) ≡ moves_on question history
      moves_below =
          map_fitted IsBelow move_of (λ move. move) (moves_on question history) (children_of node) fitted
          (λ move child found below. ap (λ to. unwrap_or to ShowOut) below.0)
          ∙ map-id (moves_on question history)

      -- each of them stands there
      pub child_below : (child : Node) → Contains (children_of node) child
          → (move_to child ≡ Some (move_of child))
          × IsTreeAt (MOST_MOVES - length (history ++ move_of child ∷ [])) question
          (history ++ move_of child ∷ []) child
          × Contains (moves_on question history) (move_of child)
      child_below child found =
          let at = fitted_node IsBelow (moves_on question history) (children_of node) child fitted found in
          let same : at.0 ≡ move_of child = sym (ap (λ to. unwrap_or to ShowOut) at.2.0) in (
            subst (λ (move : ClassMove). move_to child ≡ Some move) same at.2.0,
            subst (λ (move : ClassMove). IsTreeAt (MOST_MOVES - length (history ++ move ∷ [])) question
                (history ++ move ∷ []) child) same at.2.1,
            subst (Contains (moves_on question history)) same at.1,
          )

      module _ (index : ℕ) (held : Contains (allowing question history) index)
          (going : class_decided view ≡ false) where
        -- those that hold a class layout are by its class moves, in order
        pub held_below : map move_of (filter (holds_index index) (children_of node))
            ≡ class_moves view (counts_at question index)
        held_below =
            map_fitted_kept IsBelow move_of (λ move. move) (holds_index index)
            (λ move. is_held index (allowing question (history ++ move ∷ []))) (moves_on question history)
            (children_of node) fitted
            (λ move child below. ap (is_held index)
            (tree_stands (MOST_MOVES - length (history ++ move ∷ [])) question (history ++ move ∷ []) child
            below.1).layouts)
            (λ move child may below. ap (λ to. unwrap_or to ShowOut) below.0)
            ∙ map-id (filter (λ move. is_held index (allowing question (history ++ move ∷ [])))
            (moves_on question history))
            ∙ held_moves question history index valid held going

        own_moves : is_declarers (class_turn view) ≡ true
            → moves_on question history ≡ class_moves view (counts_at question index)
        own_moves own =
            let moves : List ClassMove = class_moves view (counts_at question index) in
            let some : ClassMove → Bool = λ move. nat_lt 0 (length (allowing question (history ++ move ∷ []))) in
            going_on question history going
            ∙ filter_agree some (is_among moves)
            (λ move.
            let kept : Indices = allowing question (history ++ move ∷ []) in
            same_from_decides (some move) (is_among moves move) (
              λ told.
                  let first : ℕ = get_or kept 0 0 in
                  let parts = (kept_layouts question (history ++ move ∷ []) first valid).0
                  (Contains-get_or kept 0 0 (ltb-true 0 (length kept) told)) in
                  Contains-same move
                  (declarers_moves view (counts_at question first) (counts_at question index) own)
                  ((allowed_moves question (counts_at question first) history move).0 parts.1).1,
              λ found. some_held kept index ((index_goes_on question history move index valid held).1 found),
            )
            (among-Contains moves move, among_contained moves move))
            every_move
            ∙ sym (class_moves_listed view (counts_at question index))

        -- at a turn of declarer's all of them are by his class moves
        pub own_below : is_declarers (class_turn view) ≡ true
            → map move_of (children_of node) ≡ class_moves view (counts_at question index)
        own_below own = moves_below ∙ own_moves own
