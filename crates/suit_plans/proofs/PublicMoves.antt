-- The moves with which a class history goes on for declarer, against the class moves in a class layout that allows it
-- (`held_moves`, `own_moves_on`).
use Rattle.std.proofs.Common.{◌≡◌, ℕ, ◌<◌, ◌≤◌, Bool, true, false, List, [], ◌∷◌, ◌++◌, length, refl, sym, ap}
use Rattle.std.proofs.Common.{◌∙◌, arith}
use Rattle.std.specs.Prelude.{◌&&◌, Contains, filter, if◌then◌else◌}
use Rattle.std.specs.Bool.{Decides}
use Rattle.std.proofs.lemmas.Bool.Decides.{same_from_decides}
use Rattle.std.proofs.lemmas.List.Elements.{filter_agree}
use Rattle.suit_cards.specs.Cards.{ClassLayout}
use Rattle.suit_game.specs.declared.question.Question.{Question}
use Rattle.suit_game.specs.Validity.{IsValid}
use Rattle.suit_classes.specs.declared.class_moves.ClassMove.{ClassMove}
use Rattle.suit_classes.specs.WhatIsAllowed.{allows, every_move, is_among}
use Rattle.suit_classes.specs.Classes.{defence_sizes, hands_of, sizes_of}
use Rattle.suit_classes.specs.ClassGame.{Allows}
use Rattle.suit_classes.specs.declared.class_view.ClassView.{ClassView}
use Rattle.suit_classes.specs.ClassPlaces.{class_after, class_decided, class_moves, class_turn}
use Rattle.suit_classes.proofs.AllowedMoveByMove.{allowed_moves}
use Rattle.suit_classes.proofs.CountsAllowAsTold.{allows_tells}
use Rattle.suit_classes.proofs.DefenceSizes.{sum-defence_sizes}
use Rattle.suit_lists.proofs.Elements.{Contains-first, Contains-same, Contains-unless}
use Rattle.suit_lists.proofs.Filters.{Contains-filter, filter-filter, kept_parts}
use Rattle.suit_lists.proofs.Firsts.{HasFirst, HasFirst-found}
use Rattle.suit_lists.proofs.Tests.{passing_some, some_passing}
use Rattle.suit_classes.proofs.SameMoves.{among-Contains, among_contained, among_decides, both_second}
use Rattle.suit_classes.proofs.AllowsOneMoveMore.{allows-push}
use Rattle.suit_layouts.proofs.WhatHasWeightIsListed.{class_layouts_exact}
use Rattle.suit_layouts.specs.ClassLayouts.{class_layouts}
use Rattle.suit_plans.specs.BestReplies.{allowing_layouts, public_moves}
use Rattle.suit_plans.specs.Masses.{is_declarers, weight_of}
use Rattle.suit_plans.specs.Properness.{some_allows}
use Rattle.suit_plans.proofs.AllowedSoFar.{start_allows}
use Rattle.suit_classes.proofs.EveryMove.{class_moves_listed}
use Rattle.suit_plans.proofs.RowLimits.{some_allowed_short}
use Rattle.suit_plans.proofs.TurnMoves.{declarers_moves}
use Rattle.suit_classes.proofs.UndecidedHasAMove.{some_move}
use Rattle.suit_game.specs.declared.limits.TheConstants.{MOST_MOVES}
use Rattle.suit_classes.specs.ClassMoves.{ClassHistory}

-- ---- lists

and-true : (b c : Bool) → c ≡ true → (b && c) ≡ b
and-true true c is = is
and-true false c is = refl

module _ (question : Question) (valid : IsValid question) where
  -- a class layout that is listed has positive weight
  pub layout_weighs : (layout : ClassLayout × ℕ) → Contains (class_layouts question (sizes_of question)) layout
      → 0 < weight_of question layout.0
  layout_weighs layout found =
      let sizes = defence_sizes (hands_of question) in
      let exact = (class_layouts_exact question sizes layout.0 layout.1 (sum-defence_sizes (hands_of question))).0
      found in
      omega (arith, exact.0, exact.1)

  -- what it is told to allow it allows, and the other way round
  pub layout_tells : (layout : ClassLayout × ℕ) (history : ClassHistory)
      → Contains (class_layouts question (sizes_of question)) layout
      → Decides (allows question layout.0 history) (Allows question layout.0 history)
  layout_tells layout history found =
      allows_tells question layout.0 history (start_allows question layout.0 valid (layout_weighs layout found))

  -- a class layout among those that allow a history
  pub allowing_parts : (history : ClassHistory) (layout : ClassLayout × ℕ)
      → Contains (allowing_layouts question history) layout
      → Contains (class_layouts question (sizes_of question)) layout × Allows question layout.0 history
  allowing_parts history layout found =
      let kept = kept_parts (λ (other : ClassLayout × ℕ). allows question other.0 history)
      (class_layouts question (sizes_of question)) layout found in
      (kept.0, (layout_tells layout history kept.0).0 kept.1)

  pub Contains-allowing : (history : ClassHistory) (layout : ClassLayout × ℕ)
      → Contains (class_layouts question (sizes_of question)) layout
      → Allows question layout.0 history → Contains (allowing_layouts question history) layout
  Contains-allowing history layout found allowed =
      Contains-filter (λ (other : ClassLayout × ℕ). allows question other.0 history)
      (class_layouts question (sizes_of question)) layout found
      ((layout_tells layout history found).1 allowed)

  -- where some class layout is told to allow a history there is one that does
  pub some_layout : (history : ClassHistory) → some_allows question history ≡ true → (layout : ClassLayout × ℕ)
      × Contains (allowing_layouts question history) layout
  unfolding some_allows
  some_layout history some =
      let found = some_passing (λ (other : ClassLayout × ℕ). allows question other.0 history)
      (class_layouts question (sizes_of question)) some in (
        found.0,
        Contains-filter (λ (other : ClassLayout × ℕ). allows question other.0 history)
            (class_layouts question (sizes_of question)) found.0 found.1 found.2,
      )

  pub allows_some : (history : ClassHistory) (layout : ClassLayout × ℕ)
      → Contains (allowing_layouts question history) layout → some_allows question history ≡ true
  unfolding some_allows
  allows_some history layout found =
      let kept = kept_parts (λ (other : ClassLayout × ℕ). allows question other.0 history)
      (class_layouts question (sizes_of question)) layout found in
      passing_some (λ (other : ClassLayout × ℕ). allows question other.0 history)
      (class_layouts question (sizes_of question)) layout kept.0 kept.1

  -- a class layout allows a history with a move more where it allows the history, and the move is one of its class
  -- moves
  pub allowing_next : (history : ClassHistory) (move : ClassMove) (layout : ClassLayout × ℕ)
      → Contains (allowing_layouts question history) layout
      → Contains (class_moves (class_after question history) layout.0) move
      → Contains (allowing_layouts question (history ++ move ∷ [])) layout
  allowing_next history move layout held goes =
      let parts = allowing_parts history layout held in
      Contains-allowing (history ++ move
      ∷ []) layout parts.0 ((allowed_moves question layout.0 history move).1 (parts.1, goes))

  pub allowing_before : (history : ClassHistory) (move : ClassMove) (layout : ClassLayout × ℕ)
      → Contains (allowing_layouts question (history ++ move ∷ [])) layout
      → Contains (allowing_layouts question history) layout
      × Contains (class_moves (class_after question history) layout.0) move
  allowing_before history move layout held =
      let parts = allowing_parts (history ++ move ∷ []) layout held in
      let before = (allowed_moves question layout.0 history move).0 parts.1 in
      (Contains-allowing history layout parts.0 before.0, before.1)

  -- of the class layouts that allow a history, those that go on with a move allow it with the move
  pub going_with : (history : ClassHistory) (move : ClassMove)
      → filter (λ (layout : ClassLayout × ℕ). is_among (class_moves (class_after question history) layout.0) move)
      (allowing_layouts question history)
      ≡ allowing_layouts question (history ++ move ∷ [])
  going_with history move =
      let goes : ClassLayout × ℕ → Bool = λ layout. is_among
      (class_moves (class_after question history) layout.0) move in
      let before : ClassLayout × ℕ → Bool = λ layout. allows question layout.0 history in
      filter-filter before goes (class_layouts question (sizes_of question))
      ∙ filter_agree (λ layout. before layout
      && goes layout) (λ layout. allows question layout.0 (history ++ move ∷ []))
      (λ layout. sym (allows-push question layout.0 history move)) (class_layouts question (sizes_of question))

  -- the moves at a history that is not decided
  pub public_going : (history : ClassHistory) → class_decided (class_after question history) ≡ false
      → public_moves question history ≡ filter (λ move. some_allows question (history ++ move ∷ [])) every_move
  public_going history going =
      ap (λ (b : Bool). if b then [] else filter (λ move. some_allows question (history ++ move ∷ [])) every_move) going

  pub public_over : (history : ClassHistory) → class_decided (class_after question history) ≡ true
      → public_moves question history ≡ []
  public_over history decided =
      ap (λ (b : Bool). if b then []
      else filter (λ move. some_allows question (history ++ move ∷ [])) every_move) decided

  -- each is allowed by some class layout
  pub public_allowed : (history : ClassHistory) (move : ClassMove) → Contains (public_moves question history) move
      → some_allows question (history ++ move ∷ []) ≡ true
  public_allowed history move found =
      let all : List ClassMove = filter (λ other. some_allows question (history ++ other ∷ [])) every_move in
      (kept_parts (λ other. some_allows question (history ++ other ∷ [])) every_move move
      (Contains-unless (class_decided (class_after question history)) all move found)).1

  -- so a history with one of them more has at most 52 moves
  pub public_short : (history : ClassHistory) (move : ClassMove) → Contains (public_moves question history) move
      → length (history ++ move ∷ []) ≤ MOST_MOVES
  public_short history move found =
      some_allowed_short question (history ++ move ∷ []) valid (sym (public_allowed history move found))

  module _ (history : ClassHistory) (going : class_decided (class_after question history) ≡ false) (layout : ClassLayout
      × ℕ) (held : Contains (allowing_layouts question history) layout) where
    -- a class move is one that some class layout allows
    move_allowed : (move : ClassMove) → is_among (class_moves (class_after question history) layout.0) move ≡ true
        → some_allows question (history ++ move ∷ []) ≡ true
    move_allowed move among =
        allows_some (history ++ move ∷ []) layout
        (allowing_next history move layout held
        (among-Contains (class_moves (class_after question history) layout.0) move among))

    -- of the moves those that a class layout can make are its class moves
    pub held_moves : filter (is_among (class_moves (class_after question history) layout.0))
        (public_moves question history) ≡ class_moves (class_after question history) layout.0
    held_moves =
        let among : ClassMove → Bool = is_among (class_moves (class_after question history) layout.0) in
        let some : ClassMove → Bool = λ move. some_allows question (history ++ move ∷ []) in
        ap (filter among) (public_going history going)
        ∙ filter-filter some among every_move
        ∙ filter_agree (λ move. some move
        && among move) among (λ move. both_second (some move) (among move) (move_allowed move)) every_move
        ∙ sym (class_moves_listed (class_after question history) layout.0)

    -- so each class move is one of them
    pub Contains-public : (move : ClassMove) → Contains (class_moves (class_after question history) layout.0) move
        → Contains (public_moves question history) move
    Contains-public move found =
        (kept_parts (is_among (class_moves (class_after question history) layout.0)) (public_moves question history)
        move
        (Contains-same move (sym held_moves) found)).0

    -- and there is one
    pub some_public : HasFirst (public_moves question history)
    some_public =
        let first = some_move question layout.0 history (allowing_parts history layout held).1 going in
        HasFirst-found (public_moves question history) first.first
        (Contains-public first.first (Contains-same first.first (sym first.parts)
        (Contains-first first.first first.more)))

    -- at a turn of declarer's they are his class moves
    pub own_moves_on : is_declarers (class_turn (class_after question history)) ≡ true
        → public_moves question history ≡ class_moves (class_after question history) layout.0
    own_moves_on own =
        let view : ClassView = class_after question history in
        let moves : List ClassMove = class_moves view layout.0 in
        let some : ClassMove → Bool = λ move. some_allows question (history ++ move ∷ []) in
        public_going history going
        ∙ filter_agree some (is_among moves)
        (λ move. same_from_decides (some move) (is_among moves move) (
          λ told.
              let other = some_layout (history ++ move ∷ []) told in
              Contains-same move (declarers_moves view other.0.0 layout.0 own)
              (allowing_before history move other.0 other.1).1,
          λ found. move_allowed move (among_contained moves move found),
        ) (among_decides moves move))
        every_move
        ∙ sym (class_moves_listed view layout.0)

  -- a move of declarer's is one in each class layout that allows the history
  pub own_allows : (history : ClassHistory) (move : ClassMove)
      → is_declarers (class_turn (class_after question history)) ≡ true
      → Contains (public_moves question history) move
      → allowing_layouts question (history ++ move ∷ []) ≡ allowing_layouts question history
  own_allows history move own found =
      let view : ClassView = class_after question history in
      let other = some_layout (history ++ move ∷ []) (public_allowed history move found) in
      let goes = (allowing_before history move other.0 other.1).1 in
      let among : (counts : ClassLayout) → is_among (class_moves view counts) move ≡ true =
      λ counts. among_contained (class_moves view counts) move
      (Contains-same move (declarers_moves view other.0.0 counts own) goes) in
      filter_agree (λ (layout : ClassLayout × ℕ). allows question layout.0 (history ++ move ∷ []))
      (λ (layout : ClassLayout × ℕ). allows question layout.0 history)
      (λ layout. allows-push question layout.0 history move
      ∙ and-true (allows question layout.0 history) (is_among (class_moves view layout.0) move) (among layout.0))
      (class_layouts question (sizes_of question))
