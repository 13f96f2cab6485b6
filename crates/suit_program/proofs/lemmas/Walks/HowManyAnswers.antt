-- How many answers of the defence there are at a reached class history, as a walk counts them (`answers_more`,
-- `answers_all`), and where they stand among the rows (`answers_stand`).
use Rattle.std.proofs.Common.{◌≡◌, ℕ, ◌+◌, ◌<◌, ◌≤◌, Bool, true, false, List, [], ◌∷◌, ◌++◌, length, map, take}
use Rattle.std.proofs.Common.{drop, get_or, sym, ap, ◌∙◌, subst, arith, append-nil, length-append, inl, inr}
use Rattle.std.specs.Prelude.{Contains, if◌then◌else◌}
use Rattle.std.specs.List.{flat_map}
use Rattle.std.proofs.lemmas.Grind.{flat_map-append}
use Rattle.std.proofs.lemmas.List.{drop_all, drop_more, length-map, map-append, take-append-drop, take-map, take_all}
use Rattle.std.proofs.lemmas.List.{take_more}
use Rattle.suit_lists.proofs.Elements.{Contains-cons_cases, Contains-nil, Contains-same}
use Rattle.suit_lists.proofs.Filters.{length_filter-most}
use Rattle.suit_lists.proofs.Maps.{Contains-map}
use Rattle.suit_cards.specs.Cards.{ClassLayout}
use Rattle.suit_game.specs.declared.question.Question.{Question}
use Rattle.suit_classes.specs.declared.class_moves.ClassMove.{ClassMove}
use Rattle.suit_classes.specs.ClassMoves.{ClassHistory}
use Rattle.suit_layouts.specs.declared.class_list.TheConstants.{MOST_CLASS_LAYOUTS}
use Rattle.suit_plans.specs.ReplyLaws.{counts_at}
use Rattle.suit_program.specs.declared.walks.reach.Reach.{Reach}
use Rattle.suit_program.specs.declared.walks.reach.ReachedLayout.{ReachedLayout}
use Rattle.suit_program.specs.Walks.AnswerRows.{layout_at}
use Rattle.suit_program.specs.Programs.{Answered, Limit, Shared, answered_limits, limits_at}
use Rattle.suit_program.specs.Walks.Reaches.{IsReach, reached_indices}
use Rattle.suit_program.specs.Supports.{Support, declarer_chooses, defence_chooses, is_reached, layouts_of}
use Rattle.suit_program.specs.Supports.{reached_layouts, supported_moves}
use Rattle.suit_program.specs.Walks.{StandsIn}
use Rattle.suit_program.proofs.lemmas.Walks.NodesBelow.{reached_at}
use Rattle.suit_program.proofs.lemmas.Walks.ReachAtTheStart.{layouts_few}
use Rattle.suit_program.proofs.lemmas.Walks.WhatAWalkGathers.{stands_first, stands_later}

abbrev index_of : ReachedLayout → ℕ
index_of layout = layout.index

-- ---- the place of a number

-- one place more at which it does not stand
pub place_past : (all : List ℕ) (i index : ℕ) → i < length all → (get_or all i 0 ≡ index → ⊥)
    → (Contains all index → Contains (drop i all) index) → Contains all index → Contains (drop (i + 1) all) index
place_past all i index below other so_far found =
    elim (Contains-cons_cases (get_or all i 0) (drop (i + 1) all) index
    (Contains-same index (drop_more all i 0 below) (so_far found))) [
      | inl here ↦ absurd (other here)
      | inr there ↦ there
    ]

-- it stands nowhere
pub place_none : (all : List ℕ) (i index : ℕ) → length all ≤ i
    → (Contains all index → Contains (drop i all) index) → Contains all index → ⊥
place_none all i index past so_far found =
    Contains-nil index (Contains-same index (drop_all i all past) (so_far found))

-- ---- the rows of the class layouts

module _ (question : Question) (support : Support) (history : ClassHistory) where
  -- the rows of some class layouts
  abbrev pub answered_by : List ReachedLayout → List Limit
  answered_by layouts =
      flat_map (answered_limits question support history) (map (layout_at question) (map index_of layouts))

  answered_append : (xs ys : List ReachedLayout) → answered_by (xs ++ ys) ≡ answered_by xs ++ answered_by ys
  answered_append xs ys =
      ap (λ (l : List ℕ). flat_map (answered_limits question support history) (map (layout_at question) l))
      (map-append index_of xs ys)
      ∙ ap (flat_map (answered_limits question support history))
      (map-append (layout_at question) (map index_of xs) (map index_of ys))
      ∙ flat_map-append (answered_limits question support history) (map (layout_at question) (map index_of xs))
      (map (layout_at question) (map index_of ys))

  answered_one : (layout : ReachedLayout)
      → answered_by (layout ∷ []) ≡ answered_limits question support history (layout_at question layout.index)
  answered_one layout = append-nil (answered_limits question support history (layout_at question layout.index))

  -- a class layout more
  pub answers_more : (layouts : List ReachedLayout) (i : ℕ) (d : ReachedLayout) (n m : ℕ) → i < length layouts
      → n ≡ length (answered_by (take i layouts))
      → m ≡ length (answered_limits question support history (layout_at question (get_or layouts i d).index))
      → n + m ≡ length (answered_by (take (i + 1) layouts))
  answers_more layouts i d n m below so_far is =
      let layout : ReachedLayout = get_or layouts i d in
      ap (λ (k : ℕ). k + m) so_far
      ∙ ap (λ (k : ℕ). length (answered_by (take i layouts)) + k)
      (is ∙ ap (λ (l : List Limit). length l) (sym (answered_one layout)))
      ∙ sym (length-append (answered_by (take i layouts)) (answered_by (layout ∷ [])))
      ∙ ap (λ (l : List Limit). length l) (sym (answered_append (take i layouts) (layout ∷ [])))
      ∙ ap (λ (l : List ReachedLayout). length (answered_by l)) (sym (take_more layouts i d below))

  module _ (reach : Reach) (is : IsReach question support history reach) where
    all_layouts : map (layout_at question) (map index_of reach.layouts.items) ≡ reached_layouts question support history
    all_layouts =
        ap (map (layout_at question)) is.layouts ∙ sym (reached_at question support history)

    -- there are few
    pub reached_few : length reach.layouts.items ≤ MOST_CLASS_LAYOUTS
    unfolding reached_layouts
    reached_few =
        let most = layouts_few question in
        let fewer = length_filter-most (λ (layout : ClassLayout × ℕ). is_reached question support layout.0 history)
        (layouts_of question) in
        let same = ap (λ (l : List (ClassLayout × ℕ)). length l) all_layouts in
        let one = length-map (map index_of reach.layouts.items) (layout_at question) in
        let other = length-map reach.layouts.items index_of in
        omega (arith, most, fewer, same, one, other)

    taken_layouts : (count : ℕ) → map (layout_at question) (map index_of (take count reach.layouts.items))
        ≡ take count (reached_layouts question support history)
    taken_layouts count =
        ap (map (layout_at question)) (sym (take-map index_of count reach.layouts.items))
        ∙ sym (take-map (layout_at question) count (map index_of reach.layouts.items))
        ∙ ap (take count) all_layouts

    -- all of them
    pub answers_all : (layouts : List ReachedLayout) → layouts ≡ reach.layouts.items → (i count n : ℕ) → count ≤ i
        → i ≤ count → n ≡ length (answered_by (take i layouts))
        → n ≡ length (flat_map (answered_limits question support history)
        (take count (reached_layouts question support history)))
    answers_all layouts same i count n past within so_far =
        let ends : i ≡ count = omega (arith, past, within) in
        so_far
        ∙ ap (λ (k : ℕ). length (answered_by (take k layouts))) ends
        ∙ ap (λ (l : List ReachedLayout). length (answered_by (take count l))) same
        ∙ ap (λ (l : List (ClassLayout × ℕ)). length (flat_map (answered_limits question support history) l))
        (taken_layouts count)

    -- where there are as many as class layouts, they are all
    pub answers_whole : (count n : ℕ) → count ≡ length reach.layouts.items
        → n ≡ length (flat_map (answered_limits question support history)
        (take count (reached_layouts question support history)))
        → n ≡ length (flat_map (answered_limits question support history)
        (reached_layouts question support history))
    answers_whole count n many is =
        is ∙ ap (λ (l : List (ClassLayout × ℕ)). length (flat_map (answered_limits question support history) l))
        (sym (taken_layouts count)
        ∙ ap (λ (l : List ReachedLayout). map (layout_at question) (map index_of l))
        (take_all count reach.layouts.items (omega (arith, many)))
        ∙ all_layouts)

    -- the answers of a class layout stand after those of the class layouts before it
    pub answers_stand : (all : List Limit) (row place : ℕ) (d : ReachedLayout) → place < length reach.layouts.items
        → declarer_chooses question history ≡ false → StandsIn all row (limits_at question support history)
        → StandsIn all
        (row + length (flat_map (answered_limits question support history)
        (take place (reached_layouts question support history))))
        (answered_limits question support history (layout_at question (get_or reach.layouts.items place d).index))
    unfolding limits_at
    answers_stand all row place d below waits stands =
        let layouts : List ReachedLayout = reach.layouts.items in
        let layout : ReachedLayout = get_or layouts place d in
        let here : List Limit = answered_limits question support history (layout_at question layout.index) in
        let before : List Limit = answered_by (take place layouts) in
        let after : List Limit = answered_by (drop (place + 1) layouts) in
        let parts : flat_map (answered_limits question support history) (reached_layouts question support history)
        ≡ before ++ (here ++ after) =
        ap (flat_map (answered_limits question support history)) (sym all_layouts)
        ∙ ap (λ (l : List ReachedLayout). answered_by l) (sym (take-append-drop place layouts)
        ∙ ap (λ (l : List ReachedLayout). take place layouts ++ l) (drop_more layouts place d below))
        ∙ answered_append (take place layouts) (layout ∷ drop (place + 1) layouts) in
        let stood : StandsIn all row
        (flat_map (answered_limits question support history) (reached_layouts question support history)) =
        subst (λ (b : Bool). StandsIn all row (if b then Shared history ∷ []
        else flat_map (answered_limits question support history) (reached_layouts question support history))) waits
        stands in
        stands_first all _ here after
        (subst (λ (l : List (ClassLayout × ℕ)). StandsIn all
        (row + length (flat_map (answered_limits question support history) l)) (here ++ after)) (taken_layouts place)
        (stands_later all row before (here ++ after) (subst (StandsIn all row) parts stood)))

  pub answers_rows : (n : ℕ) → declarer_chooses question history ≡ false
      → n ≡ length (flat_map (answered_limits question support history) (reached_layouts question support history))
      → n ≡ length (limits_at question support history)
  unfolding limits_at
  answers_rows n waits is =
      is ∙ ap (λ (b : Bool). length (if b then Shared history ∷ []
      else flat_map (answered_limits question support history) (reached_layouts question support history))) (sym waits)

  pub shared_row : declarer_chooses question history ≡ true → 1 ≡ length (limits_at question support history)
  unfolding limits_at
  shared_row chooses =
      ap (λ (b : Bool). length (if b then Shared history ∷ []
      else flat_map (answered_limits question support history) (reached_layouts question support history)))
      (sym chooses)

  -- the answers in a class layout
  pub answers_chosen : (index : ℕ) (moves : List ClassMove)
      → defence_chooses question (counts_at question index) history ≡ true
      → moves ≡ supported_moves question support (counts_at question index) history
      → answered_limits question support history (layout_at question index)
      ≡ map (Answered (counts_at question index) history) moves
  unfolding answered_limits
  answers_chosen index moves chooses is =
      ap (λ (b : Bool). if b then map (Answered (counts_at question index) history)
      (supported_moves question support (counts_at question index) history) else []) chooses
      ∙ ap (map (Answered (counts_at question index) history)) (sym is)

  pub answers_none : (index : ℕ) → defence_chooses question (counts_at question index) history ≡ false
      → answered_limits question support history (layout_at question index) ≡ []
  unfolding answered_limits
  answers_none index waits =
      ap (λ (b : Bool). if b then map (Answered (counts_at question index) history)
      (supported_moves question support (counts_at question index) history) else []) waits

-- a class layout of a walk is one in which the class history is reached
pub index_listed : (question : Question) (support : Support) (history : ClassHistory) (reach : Reach)
    → IsReach question support history reach → (layout : ReachedLayout) → Contains reach.layouts.items layout
    → Contains (reached_indices question support history) layout.index
index_listed question support history reach is layout found =
    Contains-same layout.index is.layouts (Contains-map index_of reach.layouts.items layout found)
