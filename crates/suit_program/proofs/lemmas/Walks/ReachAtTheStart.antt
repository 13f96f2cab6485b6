-- What a walk over reached class histories holds at the empty one (`start_reach`).
use Rattle.std.proofs.Common.{◌≡◌, ℕ, ◌<◌, ◌≤◌, Bool, true, false, [], Option, Some, length, map, refl}
use Rattle.std.proofs.Common.{sym, ap, ◌∙◌, subst, arith, inl, inr}
use Rattle.std.specs.Prelude.{◌&&◌, ◌||◌, Contains, bytes_eq, nat_lt, if◌then◌else◌}
use Rattle.std.specs.List.{list_any}
use Rattle.std.specs.Option.{option_copied}
use Rattle.std.proofs.lemmas.Bool.{and_from, and_parts, cases_Bool, false≢true, false_from_ne_true, ltb-false, ltb-true}
use Rattle.std.proofs.lemmas.List.{length-map, map-id}
use Rattle.std.proofs.lemmas.List.FromFn.{length-range_with_len}
use Rattle.std.proofs.lemmas.Simd.{map-map}
use Rattle.std.proofs.lemmas.Slice.Eq.{bytes_eq-Decides}
use Rattle.suit_lists.proofs.Elements.{Contains-same}
use Rattle.suit_lists.proofs.Filters.{filter_all, length_filter-most}
use Rattle.suit_lists.proofs.Maps.{Contains-map, Contains-map_from}
use Rattle.suit_lists.proofs.Tests.{passing_some, some_passing}
use Rattle.suit_lists.proofs.Walks.{Contains-range}
use Rattle.suit_cards.specs.Cards.{ClassLayout, Indices}
use Rattle.suit_game.specs.declared.question.Question.{Question}
use Rattle.suit_game.specs.Validity.{IsValid}
use Rattle.suit_game.specs.declared.limits.TheConstants.{MOST_MOVES}
use Rattle.suit_classes.specs.declared.class_moves.ClassMove.{ClassMove}
use Rattle.suit_classes.specs.Classes.{defence_sizes, hands_of, sizes_of}
use Rattle.suit_classes.specs.ClassMoves.{ClassHistory}
use Rattle.suit_classes.proofs.DefenceSizes.{defence_sizes-some, length-defence_sizes, sum-defence_sizes}
use Rattle.suit_layouts.proofs.FewCounts.{class_layouts_few}
use Rattle.suit_layouts.proofs.ClassLayoutsRise.{class_layouts_rise}
use Rattle.suit_layouts.specs.declared.class_list.TheConstants.{MOST_CLASS_LAYOUTS}
use Rattle.suit_plans.specs.Orders.{counts_before}
use Rattle.suit_plans.specs.ReplyLaws.{counts_at}
use Rattle.suit_plans.proofs.RepliesAreBounded.{some_allow_none}
use Rattle.suit_plans.proofs.PublicMoves.{allowing_parts, some_layout}
use Rattle.suit_tree.specs.declared.tree.Tree.{Tree}
use Rattle.suit_tree.specs.Trees.{IsTreeAt, IsTreeOf, layout_indices}
use Rattle.suit_tree.proofs.OneNodeAtEachPath.{in_range_below}
use Rattle.suit_program.specs.declared.supports.mark.Mark.{Mark}
use Rattle.suit_program.specs.declared.walks.reach.Reach.{Reach}
use Rattle.suit_program.specs.declared.walks.reach.ReachedLayout.{ReachedLayout}
use Rattle.suit_program.specs.declared.supports.support.Support.{Support as MarkedSupport}
use Rattle.suit_program.specs.Supports.Marks.{defence_mark, defence_named, named_on, support_seen}
use Rattle.suit_program.specs.Walks.Reaches.{IsReach, layout_seen, reached_indices}
use Rattle.suit_program.specs.Supports.{Support, is_reached, layouts_of, whole_support}
use Rattle.suit_program.proofs.lemmas.Programs.RowsComeOnce.{counts-never, less_before}
use Rattle.suit_program.proofs.lemmas.Supports.WhatIsReached.{reached_none}

-- a question has few class layouts
pub layouts_few : (question : Question) → length (layouts_of question) ≤ MOST_CLASS_LAYOUTS
layouts_few question =
    let hands = hands_of question in
    class_layouts_few question (defence_sizes hands)
    (record { some = defence_sizes-some hands; filled = sum-defence_sizes hands; few = length-defence_sizes hands })

-- ---- different class layouts have different counts

module _ (question : Question) where
  counts_apart : (i j : ℕ) → i < j → j < length (layouts_of question)
      → counts_at question i ≡ counts_at question j → ⊥
  counts_apart i j less below same =
      false≢true (sym (counts-never (counts_at question j))
      ∙ subst (λ (counts : ClassLayout). counts_before counts (counts_at question j) ≡ true) same
      (less_before (counts_at question i) (counts_at question j)
      (class_layouts_rise question (sizes_of question) i j ([], 0) less below)))

  pub index_told : (i j : ℕ) → i < length (layouts_of question) → j < length (layouts_of question)
      → counts_at question i ≡ counts_at question j → i ≡ j
  index_told i j here there same = elim (cases_Bool (nat_lt i j)) [
    | inl less ↦ absurd (counts_apart i j (ltb-true i j less) there same)
    | inr not ↦ elim (cases_Bool (nat_lt j i)) [
      | inl more ↦ absurd (counts_apart j i (ltb-true j i more) here (sym same))
      | inr nor ↦
          let most : j ≤ i = ltb-false i j not in
          let least : i ≤ j = ltb-false j i nor in
          omega (arith, most, least)
    ]
  ]

  -- so what some index with the same counts has, this index has
  pub any_one : (test : ℕ → Bool) (index : ℕ) → index < length (layouts_of question)
      → list_any (λ other. bytes_eq (counts_at question other) (counts_at question index) && test other)
      (layout_indices (layouts_of question)) ≡ test index
  any_one test index below = elim (cases_Bool (test index)) [
    | inl is ↦
        passing_some same indices index (Contains-range 0 (length (layouts_of question)) index (omega arith)
        (omega (arith, below)))
        (and_from (bytes_eq (counts_at question index) (counts_at question index)) (test index)
        ((bytes_eq-Decides (counts_at question index) (counts_at question index)).1 refl) is)
        ∙ sym is
    | inr not ↦
        false_from_ne_true (list_any same indices)
        (λ some.
        let other = some_passing same indices some in
        let parts = and_parts (bytes_eq (counts_at question other.0) (counts_at question index)) (test other.0)
        other.2 in
        let here : other.0 ≡ index = index_told other.0 index
        (in_range_below (length (layouts_of question)) other.0 other.1) below
        ((bytes_eq-Decides (counts_at question other.0) (counts_at question index)).0 parts.0) in
        false≢true (sym not ∙ ap test (sym here) ∙ parts.1))
        ∙ sym not
  ]
    where
      indices : Indices
      indices = layout_indices (layouts_of question)

      same : ℕ → Bool
      same other = bytes_eq (counts_at question other) (counts_at question index) && test other

-- ---- what a support names

module _ (question : Question) (support : MarkedSupport) where
  seen_if : Bool → Support
  seen_if b = if b then whole_support
      else record { declarers = named_on (Some support.declarers); defences = defence_named question support }

  own_seen : (b : Bool) (moves : ClassHistory) (move : ClassMove)
      → (seen_if b).declarers moves move ≡ (b || named_on (Some support.declarers) moves move)
  unfolding seen_if
  own_seen true moves move = refl
  own_seen false moves move = refl

  defence_seen : (b : Bool) (index : ℕ) → index < length (layouts_of question) → (moves : ClassHistory)
      (move : ClassMove) → (seen_if b).defences (counts_at question index) moves move
      ≡ (b || named_on (defence_mark support index) moves move)
  unfolding seen_if defence_named
  defence_seen true index below moves move = refl
  defence_seen false index below moves move =
      any_one question (λ other. named_on (defence_mark support other) moves move) index below

  pub own_seen_is : (moves : ClassHistory) (move : ClassMove)
      → (support_seen question support).declarers moves move
      ≡ (support.all || named_on (Some support.declarers) moves move)
  unfolding support_seen seen_if
  own_seen_is moves move = own_seen support.all moves move

  pub defence_seen_is : (index : ℕ) → index < length (layouts_of question) → (moves : ClassHistory)
      (move : ClassMove) → (support_seen question support).defences (counts_at question index) moves move
      ≡ (support.all || named_on (defence_mark support index) moves move)
  unfolding support_seen seen_if
  defence_seen_is index below moves move = defence_seen support.all index below moves move

-- ---- the empty class history

-- the class layout at an index, with what a support names in it
abbrev pub layout_named : MarkedSupport → ℕ → ℕ × Option Mark
layout_named support index = (index, defence_mark support index)

module _ (question : Question) (valid : IsValid question) (tree : Tree) (grown : IsTreeOf question tree)
    (support : MarkedSupport) (reach : Reach) (node : reach.node ≡ tree.root) (all : reach.all ≡ support.all)
    (own : option_copied reach.own ≡ Some support.declarers)
    (layouts : map layout_seen reach.layouts.items
    ≡ map (layout_named support) (layout_indices (layouts_of question))) where
  start_indices : map (λ (layout : ReachedLayout). layout.index) reach.layouts.items
      ≡ layout_indices (layouts_of question)
  start_indices =
      sym (map-map (λ (seen : ℕ × Option Mark). seen.0) layout_seen reach.layouts.items)
      ∙ ap (map (λ (seen : ℕ × Option Mark). seen.0)) layouts
      ∙ map-map (λ (seen : ℕ × Option Mark). seen.0) (layout_named support) (layout_indices (layouts_of question))
      ∙ map-id (layout_indices (layouts_of question))

  all_reached : reached_indices question (support_seen question support) []
      ≡ layout_indices (layouts_of question)
  unfolding reached_indices
  all_reached = filter_all (λ index. is_reached question (support_seen question support)
      (counts_at question index) []) (layout_indices (layouts_of question))
      (λ index. reached_none question (support_seen question support) (counts_at question index))

  some_listed : 0 < length (layouts_of question)
  some_listed =
      let first = some_layout question valid [] (some_allow_none question valid) in
      let found = (allowing_parts question valid [] first.0 first.1).0 in
      omega (arith, found.1)

  start_theirs : (layout : ReachedLayout) → Contains reach.layouts.items layout → (moves : ClassHistory)
      (move : ClassMove) → (support_seen question support).defences (counts_at question layout.index) moves move
      ≡ (reach.all || named_on (option_copied layout.named) moves move)
  start_theirs layout found moves move =
      let from = Contains-map_from (layout_named support) (layout_indices (layouts_of question)) (layout_seen layout)
      (Contains-same (layout_seen layout) layouts
      (Contains-map layout_seen reach.layouts.items layout found)) in
      let index : from.0 ≡ layout.index = ap (λ (seen : ℕ × Option Mark). seen.0) from.2 in
      let mark : defence_mark support from.0 ≡ option_copied layout.named =
      ap (λ (seen : ℕ × Option Mark). seen.1) from.2 in
      ap (λ (i : ℕ). (support_seen question support).defences (counts_at question i) moves move) (sym index)
      ∙ defence_seen_is question support from.0 (in_range_below (length (layouts_of question)) from.0 from.1) moves
      move
      ∙ ap (λ (m : Option Mark). support.all || named_on m moves move) mark
      ∙ ap (λ (b : Bool). b || named_on (option_copied layout.named) moves move) (sym all)

  pub start_reach : IsReach question (support_seen question support) [] reach
  start_reach = record {
    valid = valid;
    tree = subst (IsTreeAt MOST_MOVES question []) (sym node) grown.nodes;
    some = omega (
      arith,
      some_listed,
      ap (λ (l : Indices). length l) all_reached,
      length-range_with_len 0 (length (layouts_of question)),
    );
    layouts = start_indices ∙ sym all_reached;
    own = λ moves move. own_seen_is question support moves move
        ∙ ap (λ (m : Option Mark). support.all || named_on m moves move) (sym own)
        ∙ ap (λ (b : Bool). b || named_on (option_copied reach.own) moves move) (sym all);
    theirs = start_theirs;
  }

-- a class history is reached in few class layouts
pub reach_few : (question : Question) (support : Support) (history : ClassHistory) (reach : Reach)
    → IsReach question support history reach → length reach.layouts.items ≤ MOST_CLASS_LAYOUTS
unfolding reached_indices
reach_few question support history reach is =
    omega (
      arith,
      length-map reach.layouts.items (λ (layout : ReachedLayout). layout.index),
      ap (λ (l : Indices). length l) is.layouts,
      length_filter-most (λ index. is_reached question support (counts_at question index) history)
          (layout_indices (layouts_of question)),
      length-range_with_len 0 (length (layouts_of question)),
      layouts_few question,
    )
