-- How many rows and columns stand at a reached class history (`own_size`, `their_size`), and from it on (`size_below`).
use Rattle.std.proofs.Common.{◌≡◌, ℕ, ◌+◌, ◌-◌, ◌<◌, Bool, true, false, List, [], ◌∷◌, ◌++◌, length, map}
use Rattle.std.proofs.Common.{refl, sym, ap, ◌∙◌, arith}
use Rattle.std.specs.Prelude.{Contains, if◌then◌else◌, min, nat_lt, sum_by}
use Rattle.std.specs.List.{flat_map}
use Rattle.std.proofs.lemmas.Bool.{and_parts}
use Rattle.std.proofs.lemmas.List.{length-map}
use Rattle.std.proofs.lemmas.List.Concat.{length-flat_map}
use Rattle.std.proofs.lemmas.List.Sums.{sum_by-cons}
use Rattle.suit_lists.proofs.Sums.{sum_by_flat_map, sum_by_map, sum_by_same, sums_together}
use Rattle.suit_cards.specs.Cards.{ClassLayout}
use Rattle.suit_game.specs.declared.question.Question.{Question}
use Rattle.suit_game.specs.declared.limits.TheConstants.{MOST_MOVES}
use Rattle.suit_classes.specs.ClassMoves.{ClassHistory}
use Rattle.suit_classes.specs.ClassPlaces.{class_after, class_turn}
use Rattle.suit_plans.specs.Masses.{is_declarers, is_defences}
use Rattle.suit_tree.specs.declared.node.Node.{Node}
use Rattle.suit_tree.specs.Nodes.{children_of, move_of}
use Rattle.suit_program.specs.declared.walks.reach.Reach.{Reach}
use Rattle.suit_program.specs.declared.walks.reach.ReachedLayout.{ReachedLayout}
use Rattle.suit_program.specs.Programs.Points.{Held, Passed}
use Rattle.suit_program.specs.Programs.{Answered, Shared, answered_limits, columns, columns_at, held_column}
use Rattle.suit_program.specs.Programs.{limits, limits_at, size_of}
use Rattle.suit_program.specs.Walks.Reaches.{IsReach, goes_on, reached_indices}
use Rattle.suit_program.specs.Walks.SupportSizes.{layout_size, size_at, size_from}
use Rattle.suit_program.specs.Supports.{Support, declarer_chooses, defence_chooses, histories_from, legal_moves}
use Rattle.suit_program.specs.Supports.{reached_histories, reached_layouts, supported_moves}
use Rattle.suit_program.proofs.lemmas.Walks.ReachTells.{histories_below}
use Rattle.suit_program.proofs.lemmas.Walks.NodesBelow.{child_below, layout_at, moves_short, reached_at}

-- numbers that stay at a greatest one
pub saturated : (before more most : ℕ) → min (min before most + more) most ≡ min (before + more) most
saturated before more most = omega arith

-- one more node, from which on so much stands
pub one_below : (size before here sum after more most : ℕ) → size ≡ min (before + (here + sum)) most
    → after ≡ sum + more → min (size + more) most ≡ min (before + (here + after)) most
one_below size before here sum after more most is one = omega (arith, is, one)

-- where declarer has a choice he is on turn
pub chooses_own : (question : Question) (history : ClassHistory) → declarer_chooses question history ≡ true
    → is_declarers (class_turn (class_after question history)) ≡ true
unfolding declarer_chooses
chooses_own question history chooses =
    (and_parts (is_declarers (class_turn (class_after question history)))
    (nat_lt 1 (length (legal_moves question [] history))) chooses).0

-- and where the defence has one a defender is
pub chooses_theirs : (question : Question) (west : ClassLayout) (history : ClassHistory)
    → defence_chooses question west history ≡ true → is_defences (class_turn (class_after question history)) ≡ true
unfolding defence_chooses
chooses_theirs question west history chooses =
    (and_parts (is_defences (class_turn (class_after question history)))
    (nat_lt 1 (length (legal_moves question west history))) chooses).0

module _ (question : Question) (support : Support) where
  -- the size of a support is that from the empty class history on
  pub whole_size : size_of question support ≡ size_from question support []
  unfolding size_of limits columns reached_histories
  whole_size =
      let histories : List ClassHistory = histories_from question support MOST_MOVES [] in
      ap (λ (n : ℕ). n + length (flat_map (columns_at question support) histories))
      (length-flat_map (limits_at question support) histories)
      ∙ ap (λ (n : ℕ). sum_by (λ history. length (limits_at question support history)) histories + n)
      (length-flat_map (columns_at question support) histories)
      ∙ sums_together (λ history. length (limits_at question support history))
      (λ history. length (columns_at question support history)) histories

module _ (question : Question) (support : Support) (history : ClassHistory) where
  -- at a choice of declarer's
  pub own_size : declarer_chooses question history ≡ true
      → size_at question support history ≡ 1 + length (supported_moves question support [] history)
  unfolding limits_at columns_at
  own_size chooses =
      ap (λ (b : Bool). length (if b then Shared history ∷ []
      else flat_map (answered_limits question support history) (reached_layouts question support history))
      + length (if b then map (Passed history) (supported_moves question support [] history)
      else flat_map (held_column question history) (reached_layouts question support history))) chooses
      ∙ ap (λ (n : ℕ). 1 + n) (length-map (supported_moves question support [] history) (Passed history))

  -- in a class layout where the defence has a choice
  pub choice_size : (layout : ClassLayout × ℕ) → defence_chooses question layout.0 history ≡ true
      → layout_size question support history layout
      ≡ 1 + length (supported_moves question support layout.0 history)
  unfolding answered_limits held_column
  choice_size layout chooses =
      ap (λ (b : Bool). length (if b then map (Answered layout.0 history)
      (supported_moves question support layout.0 history) else []) + length (if b then Held layout.0 history ∷ []
      else [])) chooses
      ∙ turned (length (map (Answered layout.0 history) (supported_moves question support layout.0 history)))
      (length (supported_moves question support layout.0 history))
      (length-map (supported_moves question support layout.0 history) (Answered layout.0 history))
    where
      turned : (n m : ℕ) → n ≡ m → n + 1 ≡ 1 + m
      turned n m same = omega (arith, same)

  -- where it has none
  pub no_choice_size : (layout : ClassLayout × ℕ) → defence_chooses question layout.0 history ≡ false
      → layout_size question support history layout ≡ 0
  unfolding answered_limits held_column
  no_choice_size layout waits =
      ap (λ (b : Bool). length (if b then map (Answered layout.0 history)
      (supported_moves question support layout.0 history) else []) + length (if b then Held layout.0 history ∷ []
      else [])) waits

  module _ (reach : Reach) (is : IsReach question support history reach) where
    -- the size in one of its class layouts
    abbrev pub size_in : ReachedLayout → ℕ
    size_in layout = layout_size question support history (layout_at question layout.index)

    -- at any other class history, in all of them
    pub their_size : declarer_chooses question history ≡ false
        → size_at question support history ≡ sum_by size_in reach.layouts.items
    unfolding limits_at columns_at
    their_size waits =
        let layouts : List (ClassLayout × ℕ) = reached_layouts question support history in
        let indexed : ℕ → ℕ = λ index. layout_size question support history (layout_at question index) in
        ap (λ (b : Bool). length (if b then Shared history ∷ []
        else flat_map (answered_limits question support history) layouts)
        + length (if b then map (Passed history) (supported_moves question support [] history)
        else flat_map (held_column question history) layouts)) waits
        ∙ ap (λ (n : ℕ). n + length (flat_map (held_column question history) layouts))
        (length-flat_map (answered_limits question support history) layouts)
        ∙ ap (λ (n : ℕ). sum_by (λ layout. length (answered_limits question support history layout)) layouts + n)
        (length-flat_map (held_column question history) layouts)
        ∙ sums_together (λ layout. length (answered_limits question support history layout))
        (λ layout. length (held_column question history layout)) layouts
        ∙ ap (sum_by (layout_size question support history)) (reached_at question support history)
        ∙ sum_by_map (layout_size question support history) (layout_at question)
        (reached_indices question support history)
        ∙ ap (sum_by indexed) (sym is.layouts)
        ∙ sum_by_map indexed (λ (layout : ReachedLayout). layout.index) reach.layouts.items

    -- the size from a node below on, where play goes on to it
    abbrev pub child_size : Node → ℕ
    child_size child =
        if goes_on question support history child then size_from question support (history ++ move_of child ∷ []) else 0

    -- the size from a class history on is that at it, and those from the nodes below on
    pub size_below : size_from question support history
        ≡ size_at question support history + sum_by child_size (children_of reach.node)
    size_below =
        let from : Node → List ClassHistory = λ child. if goes_on question support history child
        then histories_from question support (MOST_MOVES - length (history ++ move_of child ∷ []))
        (history ++ move_of child ∷ []) else [] in
        ap (sum_by (size_at question support)) (histories_below question support history reach is)
        ∙ sum_by-cons (size_at question support) history (flat_map from (children_of reach.node))
        ∙ ap (λ (n : ℕ). size_at question support history + n)
        (sum_by_flat_map (size_at question support) from (children_of reach.node)
        ∙ sum_by_same (λ child. sum_by (size_at question support) (from child)) child_size (children_of reach.node)
        (λ child. either (goes_on question support history child)
        (histories_from question support (MOST_MOVES - length (history ++ move_of child ∷ []))
        (history ++ move_of child ∷ []))))
      where
        either : (b : Bool) (histories : List ClassHistory)
            → sum_by (size_at question support) (if b then histories else [])
            ≡ (if b then sum_by (size_at question support) histories else 0)
        either true histories = refl
        either false histories = refl

    -- there are fewer moves before a node below than can be played
    pub child_short : (child : Node) → Contains (children_of reach.node) child → length history < MOST_MOVES
    child_short child below =
        moves_short question is.valid history (move_of child)
        (child_below question is.valid history reach.node is.tree child below).2
