-- What play with the moves of a support reaches: where columns and rows stand (`reached_listed`, `limits_reached`).
use Rattle.std.proofs.Common.{◌≡◌, ℕ, zero, suc, ◌≤◌, Bool, true, false, List, [], ◌∷◌, ◌++◌, length, map, refl, sym}
use Rattle.std.proofs.Common.{ap, ◌∙◌, subst, inl, inr, append_assoc, append-nil, arith}
use Rattle.std.specs.Prelude.{Contains, ◌&&◌, if◌then◌else◌}
use Rattle.std.specs.List.{AllByRecursion, flat_map}
use Rattle.std.proofs.lemmas.Bool.{and_parts}
use Rattle.suit_lists.proofs.Elements.{Contains-cons_cases, Contains-first, Contains-later, Contains-nil, each_at}
use Rattle.suit_lists.proofs.Elements.{Contains-same}
use Rattle.suit_lists.proofs.Filters.{Contains-filter, kept_parts}
use Rattle.suit_lists.proofs.FlatMaps.{Contains-flat_map, each_flat_map, flat_map_from}
use Rattle.suit_lists.proofs.Maps.{Contains-map, Contains-map_from}
use Rattle.suit_cards.specs.Cards.{ClassLayout}
use Rattle.suit_game.specs.declared.question.Question.{Question}
use Rattle.suit_game.specs.Validity.{IsValid}
use Rattle.suit_game.specs.declared.limits.TheConstants.{MOST_MOVES}
use Rattle.suit_classes.specs.declared.class_moves.ClassMove.{ClassMove}
use Rattle.suit_classes.specs.WhatIsAllowed.{every_move, is_among}
use Rattle.suit_classes.specs.ClassGame.{Allows}
use Rattle.suit_classes.specs.ClassPlaces.{class_after, class_moves}
use Rattle.suit_classes.proofs.AllowedMoveByMove.{allowed_moves}
use Rattle.suit_classes.proofs.DecidedStaysDecided.{class_histories_are_short}
use Rattle.suit_classes.proofs.EveryMove.{class_moves_listed}
use Rattle.suit_classes.proofs.SameMoves.{among-Contains, among_contained}
use Rattle.suit_plans.proofs.AllowedSoFar.{start_allows}
use Rattle.suit_plans.proofs.RepliesAreBounded.{some_allow_none}
use Rattle.suit_plans.proofs.PublicMoves.{allowing_parts, layout_weighs, some_layout}
use Rattle.suit_program.specs.Programs.{Answered, Limit, Shared, answered_limits, limits, limits_at}
use Rattle.suit_program.specs.Supports.{Support, declarer_chooses, defence_chooses, goes_supported, histories_from}
use Rattle.suit_program.specs.Supports.{is_reached, layouts_of, next_moves, reached_histories, reached_layouts}
use Rattle.suit_program.specs.Supports.{supported_moves}
use Rattle.suit_program.proofs.lemmas.Supports.TurnCases.{supported_class_move}

both_true : (a b : Bool) → a ≡ true → b ≡ true → (a && b) ≡ true
both_true true b one other = other
both_true false b one other = one

and_all : (b : Bool) → (b && true) ≡ b
and_all true = refl
and_all false = refl

and_swap : (a b c : Bool) → (a && (b && c)) ≡ ((a && b) && c)
and_swap true b c = refl
and_swap false b c = refl

-- a class history is reached in some class layout
pub record IsSomewhere (question : Question) (support : Support) (history : List ClassMove) : Type 0 where
  pub layout : ClassLayout × ℕ
  pub listed : Contains (layouts_of question) layout
  pub reached : is_reached question support layout.0 history ≡ true

module _ (question : Question) (support : Support) where
  -- one move more
  goes-push : (west : ClassLayout) (history moves : List ClassMove) (move : ClassMove)
      → goes_supported question support west history (moves ++ move ∷ [])
      ≡ (goes_supported question support west history moves
      && is_among (supported_moves question support west (history ++ moves)) move)
  unfolding goes_supported
  goes-push west history [] move =
      and_all (is_among (supported_moves question support west history) move)
      ∙ ap (λ (h : List ClassMove). is_among (supported_moves question support west h) move) (sym (append-nil history))
  goes-push west history (first ∷ moves) move =
      let here : Bool = is_among (supported_moves question support west history) first in
      ap (λ (b : Bool). here && b) (goes-push west (history ++ first ∷ []) moves move)
      ∙ and_swap here (goes_supported question support west (history ++ first ∷ []) moves)
      (is_among (supported_moves question support west ((history ++ first ∷ []) ++ moves)) move)
      ∙ ap (λ (h : List ClassMove). (here && goes_supported question support west (history ++ first ∷ []) moves)
      && is_among (supported_moves question support west h) move) (append_assoc history (first ∷ []) moves)

  pub reached-push : (west : ClassLayout) (history : List ClassMove) (move : ClassMove)
      → is_reached question support west (history ++ move ∷ [])
      ≡ (is_reached question support west history && is_among (supported_moves question support west history) move)
  unfolding is_reached
  reached-push west history move = goes-push west [] history move

  -- a class history is reached with a move more where it is and the move is in the support
  pub reached_next : (west : ClassLayout) (history : List ClassMove) (move : ClassMove)
      → is_reached question support west history ≡ true
      → Contains (supported_moves question support west history) move
      → is_reached question support west (history ++ move ∷ []) ≡ true
  reached_next west history move reached found =
      reached-push west history move
      ∙ both_true (is_reached question support west history) (is_among (supported_moves question support west history)
      move) reached
      (among_contained (supported_moves question support west history) move found)

  pub reached_none : (west : ClassLayout) → is_reached question support west [] ≡ true
  unfolding is_reached goes_supported
  reached_none west = refl

  -- ---- what holds of all that is reached

  module _ (west : ClassLayout) (Fits : List ClassMove → Type 0)
      (step : (history : List ClassMove) (move : ClassMove) → Fits history
      → Contains (supported_moves question support west history) move → Fits (history ++ move ∷ [])) where
    goes_fit : (history moves : List ClassMove) → Fits history
        → goes_supported question support west history moves ≡ true → Fits (history ++ moves)
    unfolding goes_supported
    goes_fit history [] fits goes = subst Fits (sym (append-nil history)) fits
    goes_fit history (move ∷ moves) fits goes =
        let parts = and_parts (is_among (supported_moves question support west history) move)
        (goes_supported question support west (history ++ move ∷ []) moves) goes in
        subst Fits (append_assoc history (move ∷ []) moves)
        (goes_fit (history ++ move ∷ []) moves
        (step history move fits (among-Contains (supported_moves question support west history) move parts.0)) parts.1)

    -- what holds at the start and goes on with the moves of the support
    pub reached_fits : Fits [] → (history : List ClassMove) → is_reached question support west history ≡ true
        → Fits history
    unfolding is_reached
    reached_fits start history reached = goes_fit [] history start reached

  module _ (valid : IsValid question) (layout : ClassLayout × ℕ) (listed : Contains (layouts_of question) layout) where
    -- a class layout allows what is reached in it
    pub reached_allows : (history : List ClassMove) → is_reached question support layout.0 history ≡ true
        → Allows question layout.0 history
    reached_allows history reached =
        reached_fits layout.0 (Allows question layout.0)
        (λ before move allows found. (allowed_moves question layout.0 before move).1 (
          allows,
          supported_class_move question support layout.0 before move found,
        ))
        (start_allows question layout.0 valid (layout_weighs question valid layout listed)) history reached

    -- ---- where it is listed

    supported_listed : (history : List ClassMove) (move : ClassMove)
        → Contains (supported_moves question support layout.0 history) move → Contains every_move move
    supported_listed history move found =
        let moves : List ClassMove = class_moves (class_after question history) layout.0 in
        (kept_parts (is_among moves) every_move move
        (Contains-same move (class_moves_listed (class_after question history) layout.0)
        (supported_class_move question support layout.0 history move found))).0

    pub reached_layout : (history : List ClassMove) → is_reached question support layout.0 history ≡ true
        → Contains (reached_layouts question support history) layout
    unfolding reached_layouts
    reached_layout history reached =
        Contains-filter (λ (other : ClassLayout × ℕ). is_reached question support other.0 history) (layouts_of question)
        layout listed reached

    next_found : (history : List ClassMove) (move : ClassMove) → is_reached question support layout.0 history ≡ true
        → Contains (supported_moves question support layout.0 history) move
        → Contains (next_moves question support history) move
    unfolding next_moves
    next_found history move reached found =
        let moves : ClassLayout × ℕ → List ClassMove = λ other. supported_moves question support other.0 history in
        let all : List ClassMove = flat_map moves (reached_layouts question support history) in
        Contains-filter (is_among all) every_move move (supported_listed history move found)
        (among_contained all move (Contains-flat_map moves (reached_layouts question support history) layout move
        (reached_layout history reached) found))

    goes_listed : (more : ℕ) (history moves : List ClassMove) → length moves ≤ more
        → is_reached question support layout.0 history ≡ true
        → goes_supported question support layout.0 history moves ≡ true
        → Contains (histories_from question support more history) (history ++ moves)
    unfolding histories_from goes_supported
    goes_listed zero history [] within reached goes =
        subst (Contains (history ∷ [])) (sym (append-nil history)) (Contains-first history [])
    goes_listed (suc more) history [] within reached goes =
        subst (Contains (histories_from question support (suc more) history)) (sym (append-nil history))
        (Contains-first history (flat_map (λ move. histories_from question support more (history ++ move ∷ []))
        (next_moves question support history)))
    goes_listed zero history (move ∷ moves) within reached goes = absurd (omega (arith, within))
    goes_listed (suc more) history (move ∷ moves) within reached goes =
        let parts = and_parts (is_among (supported_moves question support layout.0 history) move)
        (goes_supported question support layout.0 (history ++ move ∷ []) moves) goes in
        let found = among-Contains (supported_moves question support layout.0 history) move parts.0 in
        let next : ClassMove → List (List ClassMove) =
        λ other. histories_from question support more (history ++ other ∷ []) in
        Contains-later history (flat_map next (next_moves question support history)) (history ++ move ∷ moves)
        (Contains-flat_map next (next_moves question support history) move (history ++ move ∷ moves)
        (next_found history move reached found)
        (subst (Contains (next move)) (append_assoc history (move ∷ []) moves)
        (goes_listed more (history ++ move ∷ []) moves (omega (arith, within))
        (reached_next layout.0 history move reached found) parts.1)))

    pub reached_listed : (history : List ClassMove) → is_reached question support layout.0 history ≡ true
        → Contains (reached_histories question support) history
    unfolding reached_histories is_reached
    reached_listed history reached =
        goes_listed MOST_MOVES [] history (class_histories_are_short question layout.0 history
        (reached_allows history reached))
        (reached_none layout.0) reached

    -- ---- rows

    pub shared_listed : (history : List ClassMove) → is_reached question support layout.0 history ≡ true
        → declarer_chooses question history ≡ true → Contains (limits question support) (Shared history)
    unfolding limits limits_at
    shared_listed history reached chooses =
        Contains-flat_map (limits_at question support) (reached_histories question support) history (Shared history)
        (reached_listed history reached)
        (subst (λ (b : Bool). Contains (if b then Shared history ∷ []
        else flat_map (answered_limits question support history) (reached_layouts question support history))
        (Shared history)) (sym chooses) (Contains-first (Shared history) []))

    pub answered_listed : (history : List ClassMove) (move : ClassMove)
        → is_reached question support layout.0 history ≡ true
        → declarer_chooses question history ≡ false → defence_chooses question layout.0 history ≡ true
        → Contains (supported_moves question support layout.0 history) move
        → Contains (limits question support) (Answered layout.0 history move)
    unfolding limits limits_at answered_limits
    answered_listed history move reached not_own chooses found =
        let limit : Limit = Answered layout.0 history move in
        let moves : List ClassMove = supported_moves question support layout.0 history in
        Contains-flat_map (limits_at question support) (reached_histories question support) history limit
        (reached_listed history reached)
        (subst (λ (b : Bool). Contains (if b then Shared history ∷ []
        else flat_map (answered_limits question support history) (reached_layouts question support history)) limit)
        (sym not_own)
        (Contains-flat_map (answered_limits question support history) (reached_layouts question support history) layout
        limit (reached_layout history reached)
        (subst (λ (b : Bool). Contains (if b then map (Answered layout.0 history) moves else []) limit) (sym chooses)
        (Contains-map (Answered layout.0 history) moves move found))))

  -- ---- what is listed is reached

  next_somewhere : (history : List ClassMove) (move : ClassMove) → Contains (next_moves question support history) move
      → IsSomewhere question support (history ++ move ∷ [])
  unfolding next_moves reached_layouts
  next_somewhere history move found =
      let moves : ClassLayout × ℕ → List ClassMove = λ other. supported_moves question support other.0 history in
      let layouts : List (ClassLayout × ℕ) = reached_layouts question support history in
      let kept = kept_parts (is_among (flat_map moves layouts)) every_move move found in
      let from = flat_map_from moves layouts move (among-Contains (flat_map moves layouts) move kept.1) in
      let there = kept_parts (λ (other : ClassLayout × ℕ). is_reached question support other.0 history)
      (layouts_of question) from.0 from.1 in
      record {
        layout = from.0;
        listed = there.0;
        reached = reached_next from.0.0 history move there.1 from.2;
      }

  all_somewhere : (more : ℕ) (history : List ClassMove) → IsSomewhere question support history
      → AllByRecursion (IsSomewhere question support) (histories_from question support more history)
  unfolding histories_from
  all_somewhere zero history here = (here, tt)
  all_somewhere (suc more) history here = (
    here,
    each_flat_map (IsSomewhere question support) (λ move. histories_from question support more (history ++ move ∷ []))
        (next_moves question support history)
        (λ move found. all_somewhere more (history ++ move ∷ []) (next_somewhere history move found)),
  )

  pub listed_somewhere : IsValid question → (history : List ClassMove)
      → Contains (reached_histories question support) history → IsSomewhere question support history
  unfolding reached_histories
  listed_somewhere valid history found =
      let first = some_layout question valid [] (some_allow_none question valid) in
      let start : IsSomewhere question support [] = record {
        layout = first.0;
        listed = (allowing_parts question valid [] first.0 first.1).0;
        reached = reached_none first.0.0;
      } in
      each_at (IsSomewhere question support) (histories_from question support MOST_MOVES []) history
      (all_somewhere MOST_MOVES [] start) found

-- ---- rows and columns

-- where a row stands: at a choice of a side that is reached
pub data StandsAt (question : Question) (support : Support) : Limit → Type 0 where
  AtOwn : (history : List ClassMove) → declarer_chooses question history ≡ true
      → IsSomewhere question support history → StandsAt question support (Shared history)
  AtTheirs : (layout : ClassLayout × ℕ) (history : List ClassMove) (move : ClassMove)
      → Contains (layouts_of question) layout → is_reached question support layout.0 history ≡ true
      → defence_chooses question layout.0 history ≡ true
      → Contains (supported_moves question support layout.0 history) move
      → StandsAt question support (Answered layout.0 history move)

module _ (question : Question) (support : Support) where
  stands_own : (history : List ClassMove) (limit : Limit) → declarer_chooses question history ≡ true
      → IsSomewhere question support history → Contains (Shared history ∷ []) limit → StandsAt question support limit
  stands_own history limit chooses there found = elim (Contains-cons_cases (Shared history) [] limit found) [
    | inl here ↦ subst (StandsAt question support) here (AtOwn history chooses there)
    | inr none ↦ absurd (Contains-nil limit none)
  ]

  stands_answer : (layout : ClassLayout × ℕ) (history : List ClassMove) (limit : Limit)
      → Contains (layouts_of question) layout → is_reached question support layout.0 history ≡ true
      → (b : Bool) → defence_chooses question layout.0 history ≡ b
      → Contains (if b then map (Answered layout.0 history) (supported_moves question support layout.0 history) else [])
      limit → StandsAt question support limit
  stands_answer layout history limit listed reached true chooses found =
      let from = Contains-map_from (Answered layout.0 history) (supported_moves question support layout.0 history) limit
      found in
      subst (StandsAt question support) from.2 (AtTheirs layout history from.0 listed reached chooses from.1)
  stands_answer layout history limit listed reached false chooses found = absurd (Contains-nil limit found)

  stands_theirs : (history : List ClassMove) (limit : Limit)
      → Contains (flat_map (answered_limits question support history) (reached_layouts question support history)) limit
      → StandsAt question support limit
  unfolding answered_limits reached_layouts
  stands_theirs history limit found =
      let from = flat_map_from (answered_limits question support history) (reached_layouts question support history)
      limit found in
      let there = kept_parts (λ (other : ClassLayout × ℕ). is_reached question support other.0 history)
      (layouts_of question) from.0 from.1 in
      stands_answer from.0 history limit there.0 there.1 (defence_chooses question from.0.0 history) refl from.2

  stands_in : (history : List ClassMove) (limit : Limit) → IsSomewhere question support history
      → (b : Bool) → declarer_chooses question history ≡ b
      → Contains (if b then Shared history ∷ []
      else flat_map (answered_limits question support history) (reached_layouts question support history)) limit
      → StandsAt question support limit
  stands_in history limit there true chooses found = stands_own history limit chooses there found
  stands_in history limit there false not_own found = stands_theirs history limit found

  -- each row of the program stands somewhere
  pub limits_reached : IsValid question → (limit : Limit) → Contains (limits question support) limit
      → StandsAt question support limit
  unfolding limits limits_at
  limits_reached valid limit found =
      let from = flat_map_from (limits_at question support) (reached_histories question support) limit found in
      stands_in from.0 limit (listed_somewhere question support valid from.0 from.1)
      (declarer_chooses question from.0) refl from.2
