-- own_moves_on: at a turn of declarer the moves to the nodes below a node are his class moves, in order.
use Rattle.std.proofs.Common.{◌≡◌, ℕ, Bool, true, false, List, [], ◌∷◌, ◌++◌, length, map, sym, ap, ◌∙◌}
use Rattle.std.specs.Prelude.{Contains, Some, get_or, nat_lt, unwrap_or}
use Rattle.std.proofs.lemmas.Bool.{ltb-true}
use Rattle.std.proofs.lemmas.Bool.Decides.{same_from_decides}
use Rattle.std.proofs.lemmas.List.Elements.{Contains-get_or, filter_agree}
use Rattle.suit_lists.proofs.Elements.{Contains-same}
use Rattle.suit_lists.proofs.Firsts.{HasFirst}
use Rattle.suit_cards.specs.Cards.{ClassLayout, Indices}
use Rattle.suit_game.specs.declared.question.Question.{Question}
use Rattle.suit_game.specs.Validity.{IsValid}
use Rattle.suit_classes.specs.declared.class_moves.ClassMove.{ClassMove}
use Rattle.suit_classes.specs.WhatIsAllowed.{every_move, is_among}
use Rattle.suit_classes.specs.ClassGame.{Allows}
use Rattle.suit_classes.specs.declared.class_view.ClassView.{ClassView}
use Rattle.suit_classes.specs.ClassPlaces.{class_after, class_decided, class_moves}
use Rattle.suit_classes.specs.ClassPlaces.{class_turn}
use Rattle.suit_classes.proofs.AllowedMoveByMove.{allowed_moves}
use Rattle.suit_classes.proofs.SameMoves.{among-Contains, among_contained}
use Rattle.suit_classes.specs.Classes.{sizes_of}
use Rattle.suit_classes.specs.ClassMoves.{ClassHistory}
use Rattle.suit_classes.specs.declared.class_moves.ClassMove.TheVariants.{ShowOut}
use Rattle.suit_plans.specs.Masses.{is_declarers, is_defences}
use Rattle.suit_plans.proofs.TurnMoves.{declarers_moves}
use Rattle.suit_classes.proofs.UndecidedHasAMove.{some_move as first_move}
use Rattle.suit_tree.specs.declared.node.Node.{Node}
use Rattle.suit_tree.specs.Nodes.{move_of, move_to}
use Rattle.suit_tree.specs.Trees.{AllFit, IsTreeAt, allowing, counts_at, moves_on}
use Rattle.suit_tree.proofs.OneNodeAtEachPath.{kept_layouts}
use Rattle.suit_tree.proofs.ClassMovesLeadToNodes.{going_on, index_goes_on, some_held}
use Rattle.suit_classes.proofs.EveryMove.{class_moves_listed}
use Rattle.suit_layouts.specs.ClassLayouts.{class_layouts}
use Rattle.suit_tree.proofs.NodesFitMoves.{map_fitted}
use Rattle.std.proofs.lemmas.List.{map-id}

-- ---- class histories, and the nodes of a tree

-- the class layouts of a question, each with its weight
abbrev pub layouts_of : Question → List (ClassLayout × ℕ)
layouts_of question = class_layouts question (sizes_of question)

-- West's counts in the class layout with an index
abbrev pub layout_counts : Question → ℕ → ClassLayout
layout_counts question index = counts_at (layouts_of question) index

-- the class moves there, after a class history
abbrev pub layout_moves : Question → ℕ → ClassHistory → List ClassMove
layout_moves question index history = class_moves (class_after question history) (layout_counts question index)

-- a class history is decided
abbrev pub IsDecided : Question → ClassHistory → Type 0
IsDecided question history = class_decided (class_after question history) ≡ true

-- it is not
abbrev pub IsGoing : Question → ClassHistory → Type 0
IsGoing question history = class_decided (class_after question history) ≡ false

-- declarer is on turn
abbrev pub IsDeclarersTurn : Question → ClassHistory → Type 0
IsDeclarersTurn question history = is_declarers (class_turn (class_after question history)) ≡ true

-- he is not
abbrev pub NotDeclarersTurn : Question → ClassHistory → Type 0
NotDeclarersTurn question history = is_declarers (class_turn (class_after question history)) ≡ false

-- the defence is on turn
abbrev pub IsDefencesTurn : Question → ClassHistory → Type 0
IsDefencesTurn question history = is_defences (class_turn (class_after question history)) ≡ true

-- it is not
abbrev pub NotDefencesTurn : Question → ClassHistory → Type 0
NotDefencesTurn question history = is_defences (class_turn (class_after question history)) ≡ false

-- a node stands below a class history, by a move
abbrev pub AreBelow : ℕ → Question → ClassHistory → ClassMove → Node → Type 0
AreBelow more question history move child =
    (move_to child ≡ Some move) × IsTreeAt more question (history ++ move ∷ []) child

-- some nodes stand below a class history, one by each move with which the tree goes on
abbrev pub AreChildren : ℕ → Question → ClassHistory → List Node → Type 0
AreChildren more question history nodes = AllFit (AreBelow more question history) (moves_on question history) nodes

-- ---- a class history that is allowed and not decided goes on

none_first : (moves : List ClassMove) → HasFirst moves → moves ≡ [] → ⊥
none_first moves some none = let parts : moves ≡ some.first ∷ some.more = some.parts in absurd (cc)

-- there is a class move
pub some_move : (question : Question) (counts : ClassLayout) (history : ClassHistory) → Allows question counts history
    → IsGoing question history
    → class_moves (class_after question history) counts ≡ [] → ⊥
some_move question counts history allows going none =
    none_first (class_moves (class_after question history) counts) (first_move question counts history allows going)
    none

-- ---- the nodes below

module _ (question : Question) (history : ClassHistory) (index : ℕ) (valid : IsValid question)
    (held : Contains (allowing question history) index) where
  -- at a turn of declarer's the moves to all nodes below are his class moves
  pub own_moves_on : IsGoing question history → IsDeclarersTurn question history
      → moves_on question history ≡ layout_moves question index history
  own_moves_on going own =
      let layouts : List (ClassLayout × ℕ) = layouts_of question in
      let view : ClassView = class_after question history in
      let moves : List ClassMove = class_moves view (counts_at layouts index) in
      let some : ClassMove → Bool = λ move. nat_lt 0 (length (allowing question (history ++ move ∷ []))) in
      going_on question history going
      ∙ filter_agree some (is_among moves)
      (λ move.
      let kept : Indices = allowing question (history ++ move ∷ []) in
      same_from_decides (some move) (is_among moves move) (
        λ told.
            let first : ℕ = get_or kept 0 0 in
            let parts =
            (kept_layouts question (history ++ move ∷ []) first valid).0
            (Contains-get_or kept 0 0 (ltb-true 0 (length kept) told)) in
            Contains-same move
            (declarers_moves view (counts_at layouts first) (counts_at layouts index) own)
            ((allowed_moves question (counts_at layouts first) history move).0 parts.1).1,
        λ found. some_held kept index ((index_goes_on question history move index valid held).1 found),
      )
      (among-Contains moves move, among_contained moves move))
      every_move
      ∙ sym (class_moves_listed view (counts_at layouts index))

-- the moves of the nodes below are those by which the history goes on
pub moves_below : (more : ℕ) (question : Question) (history : ClassHistory) (nodes : List Node)
    → AreChildren more question history nodes
    → map move_of nodes ≡ moves_on question history
moves_below more question history nodes fit =
    map_fitted (AreBelow more question history) move_of (λ move. move) (moves_on question history) nodes fit
    (λ move child found below. ap (λ to. unwrap_or to ShowOut) below.0)
    ∙ map-id (moves_on question history)
