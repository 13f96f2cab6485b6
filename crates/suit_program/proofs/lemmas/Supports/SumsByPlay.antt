-- A sum over the rows of the defence, history by history, is a sum over the play in each class layout (`rows_by_play`).
use Rattle.std.proofs.Common.{◌≡◌, ℕ, zero, suc, Bool, true, false, cond, List, [], ◌∷◌, ◌++◌, map, refl, sym, ap, ◌∙◌}
use Rattle.std.proofs.Common.{arith}
use Rattle.std.specs.Prelude.{Contains, ◌&&◌, ◌||◌, filter, if◌then◌else◌, ℤ, pos, ◌+ℤ◌}
use Rattle.std.specs.List.{AllByRecursion, flat_map}
use Rattle.std.proofs.lemmas.Bool.{false_from_ne_true}
use Rattle.std.proofs.lemmas.Int.{ints}
use Rattle.std.proofs.lemmas.List.Elements.{filter_agree}
use Rattle.suit_cards.specs.Cards.{ClassLayout}
use Rattle.suit_lists.proofs.Elements.{each_gives}
use Rattle.suit_lists.proofs.Filters.{filter-filter, filter_alike, filter_none}
use Rattle.suit_lists.proofs.FlatMaps.{Contains-flat_map}
use Rattle.suit_lists.proofs.Maps.{map_same}
use Rattle.suit_lists.proofs.Once.{IsOnce, once_unless}
use Rattle.suit_game.specs.declared.question.Question.{Question}
use Rattle.suit_game.specs.declared.limits.TheConstants.{MOST_MOVES}
use Rattle.suit_classes.specs.declared.class_moves.ClassMove.{ClassMove}
use Rattle.suit_classes.specs.WhatIsAllowed.{every_move, is_among}
use Rattle.suit_classes.specs.ClassMoves.{same_class_move}
use Rattle.suit_classes.specs.ClassPlaces.{class_after, class_decided, class_moves}
use Rattle.suit_classes.proofs.DistinctMoves.{once_class_moves}
use Rattle.suit_classes.proofs.EveryMove.{class_moves_listed, kept_by_among}
use Rattle.suit_classes.proofs.SameMoves.{among-Contains, among_contained, both_second, same_move-itself, same_move_is}
use Rattle.suit_plans.specs.Properness.{sum_of}
use Rattle.suit_plans.proofs.NumberSums.{sum_both, sum_kept, sums_exchanged}
use Rattle.suit_program.specs.Supports.{Support, first_and, histories_from, is_reached, layouts_of, legal_moves, names}
use Rattle.suit_program.specs.Supports.{next_moves, reached_histories, reached_layouts, supported_moves}
use Rattle.suit_program.proofs.lemmas.Supports.WhatIsReached.{reached-push}

-- ---- sums

pub sum_append : {X : Type 0} (f : X → ℤ) (xs ys : List X)
    → sum_of (map f (xs ++ ys)) ≡ sum_of (map f xs) +ℤ sum_of (map f ys)
unfolding sum_of
sum_append f [] ys = omega (arith, ints)
sum_append f (x ∷ xs) ys = let later = sum_append f xs ys in omega (arith, ints, later)

pub sum_flat : {X Y : Type 0} (f : Y → ℤ) (piece : X → List Y) (xs : List X)
    → sum_of (map f (flat_map piece xs)) ≡ sum_of (map (λ x. sum_of (map f (piece x))) xs)
unfolding sum_of
sum_flat f piece [] = refl
sum_flat f piece (x ∷ xs) =
    sum_append f (piece x) (flat_map piece xs)
    ∙ ap (λ (z : ℤ). sum_of (map f (piece x)) +ℤ z) (sum_flat f piece xs)

-- ---- the moves of a support among all

-- whether a move is the first or named
abbrev first_or : ClassMove → (ClassMove → Bool) → ClassMove → Bool
first_or first named move = same_class_move first move || named move

first_kept : (first : ClassMove) (named : ClassMove → Bool) (moves : List ClassMove)
    → AllByRecursion (λ later. first ≡ later → ⊥) moves
    → filter named moves ≡ filter (first_or first named) moves
first_kept first named moves apart =
    filter_alike named (first_or first named) moves
    (each_gives (λ later. first ≡ later → ⊥) (λ later. named later ≡ first_or first named later) moves
    (λ later other. ap (λ (b : Bool). b || named later)
    (sym (false_from_ne_true (same_class_move first later) (λ same. other (same_move_is first later same))))) apart)

-- the first and the named ones are a filter of all
one_filter : (named : ClassMove → Bool) (moves : List ClassMove) → IsOnce moves → (test : ClassMove → Bool)
    × (first_and named moves ≡ filter test moves)
unfolding IsOnce
one_filter named [] once = (λ move. false, refl)
one_filter named (first ∷ moves) once = (
  first_or first named,
  ap (λ (l : List ClassMove). first ∷ l) (first_kept first named moves once.0)
      ∙ ap (λ (b : Bool). cond (b || named first) (first ∷ filter (first_or first named) moves)
      (filter (first_or first named) moves)) (sym (same_move-itself first)),
)

among_filter : (moves : List ClassMove) (test : ClassMove → Bool) → moves ≡ filter test every_move
    → moves ≡ filter (is_among moves) every_move
among_filter moves test is =
    is ∙ kept_by_among test every_move
    ∙ ap (λ (l : List ClassMove). filter (is_among l) every_move) (sym is)

module _ (question : Question) (support : Support) where
  legal_filter : (west : ClassLayout) (history : List ClassMove) (decided : Bool)
      → class_decided (class_after question history) ≡ decided → (test : ClassMove → Bool)
      × (legal_moves question west history ≡ filter test every_move)
  legal_filter west history true is = (
    λ move. false,
    ap (λ (b : Bool). if b then [] else class_moves (class_after question history) west) is
        ∙ sym (filter_none every_move),
  )
  legal_filter west history false is = (
    is_among (class_moves (class_after question history) west),
    ap (λ (b : Bool). if b then [] else class_moves (class_after question history) west) is
        ∙ class_moves_listed (class_after question history) west,
  )

  legal_once : (west : ClassLayout) (history : List ClassMove) → IsOnce (legal_moves question west history)
  legal_once west history =
      once_unless (class_decided (class_after question history)) (class_moves (class_after question history) west)
      (once_class_moves (class_after question history) west)

  -- the moves of a support are all moves that are among them
  pub supported_all : (west : ClassLayout) (history : List ClassMove)
      → supported_moves question support west history
      ≡ filter (is_among (supported_moves question support west history)) every_move
  unfolding supported_moves
  supported_all west history =
      let named = names question support west history in
      let legal = legal_filter west history (class_decided (class_after question history)) refl in
      let one = one_filter named (legal_moves question west history) (legal_once west history) in
      among_filter (first_and named (legal_moves question west history)) (λ move. legal.0 move && one.0 move)
      (one.1 ∙ ap (filter one.0) legal.1 ∙ filter-filter legal.0 one.0 every_move)

  -- of the moves with which a class history goes on those of a class layout in which it is reached are its moves
  pub next_held : (history : List ClassMove) (layout : ClassLayout × ℕ)
      → Contains (reached_layouts question support history) layout
      → filter (is_among (supported_moves question support layout.0 history)) (next_moves question support history)
      ≡ supported_moves question support layout.0 history
  unfolding next_moves
  next_held history layout held =
      let moves : ClassLayout × ℕ → List ClassMove = λ other. supported_moves question support other.0 history in
      let all : List ClassMove = flat_map moves (reached_layouts question support history) in
      filter-filter (is_among all) (is_among (moves layout)) every_move
      ∙ filter_agree (λ move. is_among all move && is_among (moves layout) move) (is_among (moves layout))
      (λ move. both_second (is_among all move) (is_among (moves layout) move)
      (λ among. among_contained all move (Contains-flat_map moves (reached_layouts question support history) layout move
      held (among-Contains (moves layout) move among)))) every_move
      ∙ sym (supported_all layout.0 history)

  -- the class layouts in which a class history is reached with a move more
  pub layouts_next : (history : List ClassMove) (move : ClassMove)
      → filter (λ (layout : ClassLayout × ℕ). is_among (supported_moves question support layout.0 history) move)
      (reached_layouts question support history) ≡ reached_layouts question support (history ++ move ∷ [])
  unfolding reached_layouts
  layouts_next history move =
      let goes : ClassLayout × ℕ → Bool = λ layout. is_among (supported_moves question support layout.0 history) move in
      let before : ClassLayout × ℕ → Bool = λ layout. is_reached question support layout.0 history in
      filter-filter before goes (layouts_of question)
      ∙ filter_agree (λ layout. before layout && goes layout)
      (λ layout. is_reached question support layout.0 (history ++ move ∷ []))
      (λ layout. sym (reached-push question support layout.0 history move)) (layouts_of question)

  -- ---- by the play

  module _ (part : List ClassMove → ClassLayout × ℕ → ℤ) where
    -- what the parts come to from a class history on, in one class layout
    unfoldable pub play_sum : ℕ → ClassLayout × ℕ → List ClassMove → ℤ
    play_sum zero layout history = part history layout
    play_sum (suc more) layout history =
        part history layout +ℤ sum_of (map (λ move. play_sum more layout (history ++ move ∷ []))
        (supported_moves question support layout.0 history))

    abbrev here : List ClassMove → ℤ
    here history = sum_of (map (part history) (reached_layouts question support history))

    abbrev in_all : ℕ → List ClassMove → ℤ
    in_all more history =
        sum_of (map (λ layout. play_sum more layout history) (reached_layouts question support history))

    abbrev goes_part : ℕ → List ClassMove → ClassMove → ClassLayout × ℕ → ℤ
    goes_part more history move layout =
        if is_among (supported_moves question support layout.0 history) move
        then play_sum more layout (history ++ move ∷ []) else pos 0

    -- the moves with which a class history goes on share out what comes after it
    shared_after : (more : ℕ) (history : List ClassMove)
        → sum_of (map (λ move. in_all more (history ++ move ∷ [])) (next_moves question support history))
        ≡ sum_of (map (λ (layout : ClassLayout × ℕ). sum_of (map (λ move. play_sum more layout (history ++ move ∷ []))
        (supported_moves question support layout.0 history))) (reached_layouts question support history))
    unfolding sum_of
    shared_after more history =
        let moves : List ClassMove = next_moves question support history in
        let layouts : List (ClassLayout × ℕ) = reached_layouts question support history in
        ap sum_of (map_same (λ move. in_all more (history ++ move ∷ []))
        (λ move. sum_of (map (goes_part more history move) layouts)) moves
        (λ move found. ap (λ (l : List (ClassLayout × ℕ)). sum_of (map (λ layout. play_sum more layout (history ++ move
        ∷ [])) l)) (sym (layouts_next history move))
        ∙ sum_kept (λ (layout : ClassLayout × ℕ). is_among (supported_moves question support layout.0 history) move)
        (λ layout. play_sum more layout (history ++ move ∷ [])) layouts))
        ∙ sums_exchanged (goes_part more history) moves layouts
        ∙ ap sum_of (map_same (λ layout. sum_of (map (λ move. goes_part more history move layout) moves))
        (λ (layout : ClassLayout × ℕ). sum_of (map (λ move. play_sum more layout (history ++ move ∷ []))
        (supported_moves question support layout.0 history))) layouts
        (λ layout held. sym (sum_kept (is_among (supported_moves question support layout.0 history))
        (λ move. play_sum more layout (history ++ move ∷ [])) moves)
        ∙ ap (λ (l : List ClassMove). sum_of (map (λ move. play_sum more layout (history ++ move ∷ [])) l))
        (next_held history layout held)))

    by_play : (more : ℕ) (history : List ClassMove)
        → sum_of (map here (histories_from question support more history)) ≡ in_all more history
    unfolding histories_from play_sum sum_of
    by_play zero history = alone (here history)
      where
        alone : (x : ℤ) → x +ℤ pos 0 ≡ x
        alone x = omega (arith, ints)
    by_play (suc more) history =
        ap (λ (z : ℤ). here history +ℤ z)
        (sum_flat here (λ move. histories_from question support more (history ++ move ∷ []))
        (next_moves question support history)
        ∙ ap sum_of (map_same (λ move. sum_of (map here (histories_from question support more (history ++ move ∷ []))))
        (λ move. in_all more (history ++ move ∷ [])) (next_moves question support history)
        (λ move found. by_play more (history ++ move ∷ [])))
        ∙ shared_after more history)
        ∙ sym (sum_both (part history) (λ (layout : ClassLayout × ℕ). sum_of (map (λ move. play_sum more layout (history
        ++ move ∷ [])) (supported_moves question support layout.0 history)))
        (reached_layouts question support history))

    -- over all that is reached
    pub rows_by_play : sum_of (map here (reached_histories question support)) ≡ in_all MOST_MOVES []
    unfolding reached_histories
    rows_by_play = by_play MOST_MOVES []
