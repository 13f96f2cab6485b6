-- What a walk over the reached class histories gathers, node by node (`gathered_first`, `gathered_more`,
-- `gathered_all`), and that it stands in the list of all from an index on (`stands_here`, `stands_below`).
use Rattle.std.proofs.Common.{◌≡◌, ℕ, zero, suc, ◌+◌, ◌-◌, ◌<◌, ◌≤◌, Bool, true, cond, List, [], ◌∷◌, ◌++◌, length}
use Rattle.std.proofs.Common.{get_or, drop, take, refl, sym, ap, ◌∙◌, subst, arith, append_assoc, append-nil}
use Rattle.std.proofs.Common.{length-append}
use mathlib.Core.Path.{fun_ext}
use Rattle.std.specs.Prelude.{filter}
use Rattle.std.specs.List.{flat_map}
use Rattle.std.proofs.lemmas.Grind.{flat_map-append}
use Rattle.std.proofs.lemmas.List.{drop_more, take-append-drop, take_all}
use Rattle.std.proofs.lemmas.List.Elements.{filter-append, filter_more}
use Rattle.std.proofs.lemmas.List.Folds.{flat_map-map}
use Rattle.suit_lists.proofs.FlatMaps.{flat_choice, flat_map_flat_map}
use Rattle.suit_lists.proofs.Walks.{drop_parts}
use Rattle.suit_game.specs.declared.question.Question.{Question}
use Rattle.suit_game.specs.declared.limits.TheConstants.{MOST_MOVES}
use Rattle.suit_classes.specs.declared.class_moves.ClassMove.{ClassMove}
use Rattle.suit_classes.specs.ClassMoves.{ClassHistory}
use Rattle.suit_tree.specs.declared.node.Node.{Node}
use Rattle.suit_tree.specs.Nodes.{children_of, move_of}
use Rattle.suit_tree.specs.Trees.{IsTreeAt}
use Rattle.suit_program.specs.declared.walks.reach.Reach.{Reach}
use Rattle.suit_program.specs.Walks.Reaches.{IsReach, goes_on}
use Rattle.suit_program.specs.Supports.{Support, histories_from, next_moves}
use Rattle.suit_program.specs.Walks.{StandsIn, walked}
use Rattle.suit_program.proofs.lemmas.Walks.NextByNodes.{next_told}

-- ---- lists

-- what stands in a list from an index on does so in its parts
pub stands_first : {X : Type 0} (all : List X) (i : ℕ) (some more : List X) → StandsIn all i (some ++ more)
    → StandsIn all i some
stands_first all i some more is = record {
  rest = more ++ is.rest;
  from = is.from ∙ append_assoc some more is.rest;
  within = omega (arith, is.within, length-append some more);
}

pub stands_later : {X : Type 0} (all : List X) (i : ℕ) (some more : List X) → StandsIn all i (some ++ more)
    → StandsIn all (i + length some) more
stands_later all i some more is = record {
  rest = is.rest;
  from = drop_parts all some (more ++ is.rest) i (is.from ∙ append_assoc some more is.rest);
  within = omega (arith, is.within, length-append some more);
}

-- ---- walks

module _ {X : Type 0} (piece : ClassHistory → List X) (question : Question) (support : Support)
    (history : ClassHistory) where
  -- what the walk gathers at a class history and below some nodes
  abbrev pub gathered : List Node → List X
  gathered nodes = piece history
      ++ flat_map (λ (child : Node). walked piece question support (history ++ move_of child ∷ []))
      (filter (goes_on question support history) nodes)

  pub gathered_first : gathered [] ≡ piece history
  gathered_first = append-nil (piece history)

  pub gathered_more : (nodes : List Node) (i : ℕ) (d : Node) → i < length nodes
      → gathered (take (i + 1) nodes)
      ≡ gathered (take i nodes) ++ cond (goes_on question support history (get_or nodes i d))
      (walked piece question support (history ++ move_of (get_or nodes i d) ∷ [])) []
  gathered_more nodes i d below =
      let goes : Node → Bool = goes_on question support history in
      let under : Node → List X = λ child. walked piece question support (history ++ move_of child ∷ []) in
      let child : Node = get_or nodes i d in
      ap (λ (l : List Node). piece history ++ flat_map under l) (filter_more goes nodes i d below)
      ∙ ap (λ (l : List X). piece history ++ l)
      (flat_map-append under (filter goes (take i nodes)) (cond (goes child) (child ∷ []) [])
      ∙ ap (λ (l : List X). flat_map under (filter goes (take i nodes)) ++ l) (flat_choice under (goes child) child))
      ∙ sym (append_assoc (piece history) (flat_map under (filter goes (take i nodes))) (cond (goes child) (under
      child) []))

  -- where play goes on to a node, what is gathered below it stands after what was gathered before
  pub gathered_parts : (nodes : List Node) (i : ℕ) (d : Node) → i < length nodes
      → goes_on question support history (get_or nodes i d) ≡ true → (more : List X)
      × (gathered nodes ≡ gathered (take i nodes)
      ++ (walked piece question support (history ++ move_of (get_or nodes i d) ∷ []) ++ more))
  gathered_parts nodes i d below goes =
      let test : Node → Bool = goes_on question support history in
      let under : Node → List X = λ child. walked piece question support (history ++ move_of child ∷ []) in
      let child : Node = get_or nodes i d in
      let before : List Node = filter test (take i nodes) in
      let after : List Node = filter test (drop (i + 1) nodes) in (
        flat_map under after,
        ap (λ (l : List Node). piece history ++ flat_map under l)
            (ap (filter test) (sym (take-append-drop i nodes)) ∙ filter-append test (take i nodes) (drop i nodes)
            ∙ ap (λ (l : List Node). before ++ filter test l) (drop_more nodes i d below)
            ∙ ap (λ (b : Bool). before ++ cond b (child ∷ after) after) goes)
            ∙ ap (λ (l : List X). piece history ++ l) (flat_map-append under before (child ∷ after))
            ∙ sym (append_assoc (piece history) (flat_map under before) (under child ++ flat_map under after)),
      )

  -- all nodes below a reached class history give what the walk gathers there
  module _ (reach : Reach) (reached : IsReach question support history reach) where
    all_in : (more : ℕ) → more ≡ MOST_MOVES - length history → IsTreeAt more question history reach.node
        → gathered (children_of reach.node) ≡ flat_map piece (histories_from question support more history)
    unfolding IsTreeAt histories_from
    all_in zero is tree = ap gathered tree.1
    all_in (suc more) is tree =
        let under : ClassMove → List X = λ move. walked piece question support (history ++ move ∷ []) in
        ap (λ (l : List X). piece history ++ l)
        (sym (flat_map-map under move_of (filter (goes_on question support history) (children_of reach.node)))
        ∙ ap (flat_map under) (next_told question support history reach reached)
        ∙ ap (λ (f : ClassMove → List X). flat_map f (next_moves question support history))
        (fun_ext (λ move. ap (λ (n : ℕ). flat_map piece (histories_from question support n (history ++ move ∷ [])))
        (less more (length history) (length (history ++ move ∷ [])) is (length-append history (move ∷ [])))))
        ∙ sym (flat_map_flat_map piece (λ move. histories_from question support more (history ++ move ∷ []))
        (next_moves question support history)))
      where
        less : (more long longer : ℕ) → suc more ≡ MOST_MOVES - long → longer ≡ long + 1 → MOST_MOVES - longer ≡ more
        less more long longer is next = omega (arith, is, next)

    pub gathered_all : gathered (children_of reach.node) ≡ walked piece question support history
    gathered_all = all_in (MOST_MOVES - length history) refl reached.tree

    -- what stands in a list as the walk gathers it does so at the class history and below each node
    pub stands_here : (all : List X) (index : ℕ) → StandsIn all index (walked piece question support history)
        → StandsIn all index (piece history)
    stands_here all index stands =
        stands_first all index (piece history) (flat_map (λ (child : Node). walked piece question support
        (history ++ move_of child ∷ [])) (filter (goes_on question support history) (children_of reach.node)))
        (subst (StandsIn all index) (sym gathered_all) stands)

    pub stands_below : (all : List X) (index : ℕ) (i : ℕ) (d : Node) → i < length (children_of reach.node)
        → goes_on question support history (get_or (children_of reach.node) i d) ≡ true
        → StandsIn all index (walked piece question support history)
        → StandsIn all (index + length (gathered (take i (children_of reach.node))))
        (walked piece question support (history ++ move_of (get_or (children_of reach.node) i d) ∷ []))
    stands_below all index i d below goes stands =
        let parts = gathered_parts (children_of reach.node) i d below goes in
        let before : List X = gathered (take i (children_of reach.node)) in
        let child : List X =
        walked piece question support (history ++ move_of (get_or (children_of reach.node) i d) ∷ []) in
        stands_first all (index + length before) child parts.0
        (stands_later all index before (child ++ parts.0)
        (subst (StandsIn all index) (sym gathered_all ∙ parts.1) stands))

    pub gathered_last : (i : ℕ) → length (children_of reach.node) ≤ i
        → gathered (take i (children_of reach.node)) ≡ walked piece question support history
    gathered_last i past = ap gathered (take_all i (children_of reach.node) past) ∙ gathered_all

-- ---- the room that a walk has

-- where there is a node below, a move more may follow
pub room_below : (question : Question) (support : Support) (history : ClassHistory) (reach : Reach)
    → IsReach question support history reach → (nodes : List Node) → nodes ≡ children_of reach.node → (i : ℕ)
    → i < length nodes → length history < MOST_MOVES
unfolding IsTreeAt
room_below question support history reach reached nodes is i below =
    at (MOST_MOVES - length history) refl reached.tree
  where
    at : (more : ℕ) → more ≡ MOST_MOVES - length history → IsTreeAt more question history reach.node
        → length history < MOST_MOVES
    at zero long tree = absurd (omega (arith, below, ap (λ (l : List Node). length l) (is ∙ tree.1)))
    at (suc more) long tree = omega (arith, long)

pub room_less : (question : Question) (support : Support) (history : ClassHistory) (move : ClassMove) (more : ℕ)
    → length history < MOST_MOVES → more ≡ MOST_MOVES - length history
    → more - 1 ≡ MOST_MOVES - length (history ++ move ∷ [])
room_less question support history move more short is =
    let longer = length-append history (move ∷ []) in omega (arith, short, is, longer)
