-- Which class layouts a node holds, and at which paths a tree has a node.
use Rattle.std.proofs.Common.{◌≡◌, ℕ, zero, suc, ◌-◌, ◌<◌, Bool, true, false, cond, List, [], ◌∷◌, ◌++◌, length, get_or}
use Rattle.std.proofs.Common.{map, refl, sym, ap, ◌∙◌, subst, inl, inr, arith}
use Rattle.std.specs.Prelude.{◌↔◌, Contains, Some, sum_by}
use Rattle.std.specs.List.{AllByRecursion, flat_map, range_with_len}
use Rattle.std.proofs.lemmas.Bool.{cases_lt}
use Rattle.std.proofs.lemmas.List.{get_or-map, length-map}
use Rattle.std.proofs.lemmas.List.Elements.{All-contains, Contains-get_or}
use Rattle.suit_lists.proofs.Elements.{Contains-first, some_of}
use Rattle.suit_lists.proofs.Filters.{Contains-filter, kept_parts}
use Rattle.suit_lists.proofs.Walks.{Contains-range}
use Rattle.suit_game.specs.declared.question.Question.{Question}
use Rattle.suit_game.specs.Validity.{IsValid}
use Rattle.suit_classes.specs.declared.class_moves.ClassMove.{ClassMove}
use Rattle.suit_classes.specs.Classes.{hands_of, defence_sizes, sizes_of}
use Rattle.suit_classes.specs.ClassGame.{Allows}
use Rattle.suit_classes.specs.ClassPlaces.{class_after, class_decided, class_start}
use Rattle.suit_classes.proofs.DecidedStaysDecided.{class_histories_are_short}
use Rattle.suit_classes.proofs.DefenceSizes.{range_below, sum-defence_sizes}
use Rattle.suit_layouts.proofs.ClassWeights.{class_weights_add_up}
use Rattle.suit_layouts.specs.ClassLayouts.{class_layouts}
use Rattle.suit_tree.specs.declared.node.Node.{Node}
use Rattle.suit_classes.specs.WhatIsAllowed.{allows}
use Rattle.suit_tree.specs.Nodes.{children_of, move_to}
use Rattle.suit_tree.specs.Paths.{IsCounted, is_by, nodes_at, nodes_by}
use Rattle.suit_tree.specs.Trees.{AllFit, IsTreeAt, StandsAt, allowing, counts_at, layout_indices, moves_on}
use Rattle.suit_tree.specs.TreeLaws.{listed_counts}
use Rattle.suit_tree.proofs.ToldIsAllowed.{listed_allow, listed_tells}
use Rattle.suit_tree.proofs.EachHistoryIsCountedOnce.{GoesOn, goes_on, goes_past}
use Rattle.suit_tree.proofs.NodePaths.{IsOpen, no_node, one_node, tree_stands}
use Rattle.suit_game.specs.declared.limits.TheConstants.{MOST_MOVES}
use Rattle.suit_classes.specs.ClassMoves.{ClassHistory}

-- a number of those below one is below it
pub in_range_below : (count index : ℕ) → Contains (range_with_len 0 count) index → index < count
in_range_below count index found =
    All-contains (λ (k : ℕ). k < count) (range_with_len 0 count) index (range_below count) found

-- the counts at an index are those of a class layout
counts_listed : (question : Question) (index : ℕ) → index < length (class_layouts question (sizes_of question))
    → Contains (listed_counts question) (counts_at (class_layouts question (sizes_of question)) index)
counts_listed question index below =
    let layouts : List (List ℕ × ℕ) = class_layouts question (sizes_of question) in
    let counts : List ℕ × ℕ → List ℕ = λ layout. layout.0 in
    subst (Contains (listed_counts question)) (get_or-map counts layouts index ([], 0) [] below)
    (Contains-get_or (listed_counts question) index [] (omega (arith, below, length-map layouts counts)))

-- a node holds the indices of exactly those class layouts that allow its history
pub kept_layouts : (question : Question) (history : ClassHistory) (index : ℕ) → IsValid question
    → Contains (allowing question history) index
    ↔ ((index < length (class_layouts question (sizes_of question)))
    × Allows question (counts_at (class_layouts question (sizes_of question)) index) history)
unfolding allowing
kept_layouts question history index valid =
    let layouts : List (List ℕ × ℕ) = class_layouts question (sizes_of question) in
    let test : ℕ → Bool = λ at. allows question (counts_at layouts at) history in (
      λ found.
          let parts = kept_parts test (layout_indices layouts) index found in
          let below = in_range_below (length layouts) index parts.0 in (
            below,
            (listed_tells question (counts_at layouts index) history valid (counts_listed question index below)).0
                parts.1,
          ),
      λ is.
          Contains-filter test (layout_indices layouts) index
          (Contains-range 0 (length layouts) index (omega arith) (omega (arith, is.0)))
          ((listed_tells question (counts_at layouts index) history valid (counts_listed question index is.0)).1 is.1),
    )

-- counts of a class layout stand at some index
index_of : (question : Question) (counts : List ℕ) → Contains (listed_counts question) counts
    → (index : ℕ) × (index < length (class_layouts question (sizes_of question)))
    × (counts_at (class_layouts question (sizes_of question)) index ≡ counts)
index_of question counts found =
    let layouts : List (List ℕ × ℕ) = class_layouts question (sizes_of question) in
    let here : List ℕ × ℕ → List ℕ = λ layout. layout.0 in
    let below : found.0 < length layouts = omega (arith, found.1, length-map layouts here) in
    (found.0, below, sym (get_or-map here layouts found.0 ([], 0) counts below) ∙ found.2)

-- a history that is counted is a path that some class layout allows past no decided position
counted_open : (question : Question) (counts : List ℕ) (history : ClassHistory) → IsValid question
    → Contains (listed_counts question) counts
    → IsCounted question counts history → IsOpen question [] history
counted_open question counts history valid found counted =
    let index = index_of question counts found in
    record {
      past = goes_on (class_start question) history counted.undecided;
      some = some_of (allowing question history) index.0
          ((kept_layouts question history index.0 valid).1 (
            index.1,
            subst (λ (told : List ℕ). Allows question told history) (sym index.2) counted.allowed,
          ));
    }

-- at its path stands one node
pub one_node_at_each_path : (question : Question) (counts : List ℕ) (history : ClassHistory) (root : Node)
    → IsValid question → Contains (listed_counts question) counts
    → IsCounted question counts history → IsTreeAt MOST_MOVES question [] root → (node : Node)
    × (nodes_at history root ≡ node ∷ []) × StandsAt question history node
one_node_at_each_path question counts history root valid found counted tree =
    let one = one_node MOST_MOVES question [] history root tree
    (class_histories_are_short question counts history counted.allowed)
    (counted_open question counts history valid found counted) in
    (one.0, one.1, tree_stands (MOST_MOVES - length history) question history one.0 one.2)

-- where nodes fit, each of them has what fits give
pub fit_each : (Fits : ClassMove → Node → Type 0) (P : Node → Type 0)
    → ((move : ClassMove) (node : Node) → Fits move node → P node)
    → (moves : List ClassMove) (nodes : List Node) → AllFit Fits moves nodes → AllByRecursion P nodes
unfolding AllFit
fit_each Fits P gives [] [] fit = tt
fit_each Fits P gives [] (node ∷ nodes) fit = absurd fit
fit_each Fits P gives (move ∷ moves) [] fit = absurd fit
fit_each Fits P gives (move ∷ moves) (node ∷ nodes) fit =
    (gives move node fit.0, fit_each Fits P gives moves nodes fit.1)

none_case : (path : ClassHistory) (node : Node) (rest : List Node) (b : Bool) → nodes_at path node ≡ []
    → flat_map (nodes_at path) rest ≡ []
    → flat_map (nodes_at path) (cond b (node ∷ rest) rest) ≡ []
none_case path node rest true none later = ap (λ (l : List Node). l ++ flat_map (nodes_at path) rest) none ∙ later
none_case path node rest false none later = later

none_each : (move : ClassMove) (path : ClassHistory) (nodes : List Node)
    → AllByRecursion (λ node. nodes_at path node ≡ []) nodes → flat_map (nodes_at path) (nodes_by move nodes) ≡ []
none_each move path [] none = refl
none_each move path (node ∷ nodes) none =
    none_case path node (nodes_by move nodes) (is_by move (move_to node)) none.0 (none_each move path nodes none.1)

-- no node stands deeper than the tree may go
too_deep : (more : ℕ) (question : Question) (history path : ClassHistory) (node : Node)
    → IsTreeAt more question history node → more < length path → nodes_at path node ≡ []
unfolding nodes_at IsTreeAt
too_deep more question history [] node tree deep = absurd (omega (arith, deep))
too_deep zero question history (move ∷ path) node tree deep =
    ap (λ (l : List Node). flat_map (nodes_at path) (nodes_by move l)) tree.1
too_deep (suc more) question history (move ∷ path) node tree deep =
    none_each move path (children_of node)
    (fit_each (λ other child. (move_to child ≡ Some other)
    × IsTreeAt more question (history ++ other ∷ []) child) (λ child. nodes_at path child ≡ [])
    (λ other child fit. too_deep more question (history ++ other ∷ []) path child fit.1 (omega (arith, deep)))
    (moves_on question history) (children_of node) tree.1)

-- a path that some class layout allows past no decided position is counted for some class layout
open_counted : (question : Question) (history : ClassHistory) → IsValid question → IsOpen question [] history
    → (counts : List ℕ) × Contains (listed_counts question) counts × IsCounted question counts history
open_counted question history valid is =
    let kept : List ℕ = allowing question history in
    let index : ℕ = get_or kept 0 0 in
    let parts = (kept_layouts question history index valid).0 (Contains-get_or kept 0 0 is.some) in (
      counts_at (class_layouts question (sizes_of question)) index,
      counts_listed question index parts.0,
      record {
        allowed = parts.1;
        undecided = λ start rest same some. goes_past (class_start question) start rest
            (subst (GoesOn (class_start question)) same is.past) some;
      },
    )

first_of : (layouts : List (List ℕ × ℕ)) → 0 < sum_by (λ (layout : List ℕ × ℕ). layout.1) layouts → (counts : List ℕ)
    × Contains (map (λ (layout : List ℕ × ℕ). layout.0) layouts) counts
first_of [] some = absurd (omega (arith, some))
first_of (layout ∷ layouts) some = (layout.0, Contains-first layout.0 (map (λ (other : List ℕ × ℕ). other.0) layouts))

-- some class layout has a weight
some_layout : (question : Question) → IsValid question → (counts : List ℕ) × Contains (listed_counts question) counts
some_layout question valid =
    let sizes : List ℕ = defence_sizes (hands_of question) in
    first_of (class_layouts question (sizes_of question)) (omega (
      arith,
      valid.has_weight,
      class_weights_add_up question sizes (sum-defence_sizes (hands_of question)),
    ))

pub some_listed : (question : Question) → IsValid question → 0 < length (class_layouts question (sizes_of question))
some_listed question valid =
    let some = some_layout question valid in
    omega (arith, some.1.1, length-map (class_layouts question (sizes_of question)) (λ (layout : List ℕ × ℕ). layout.0))

none_before : (question : Question) (start rest : List ClassMove) → [] ≡ start ++ rest → (rest ≡ [] → ⊥)
    → class_decided (class_after question start) ≡ false
none_before question [] rest same some = absurd (some (sym same))
none_before question (move ∷ start) rest same some = cc

-- at the path of no other history stands a node
pub no_other_node : (question : Question) (history : ClassHistory) (root : Node) → IsValid question
    → ((counts : List ℕ) → Contains (listed_counts question) counts → IsCounted question counts history → ⊥)
    → IsTreeAt MOST_MOVES question [] root → nodes_at history root ≡ []
no_other_node question [] root valid other tree =
    let some = some_layout question valid in
    absurd (other some.0 some.1 (record {
      allowed = listed_allow question some.0 valid some.1;
      undecided = none_before question;
    }))
no_other_node question (move ∷ path) root valid other tree = elim (cases_lt MOST_MOVES (length (move ∷ path))) [
  | inl deep ↦ too_deep MOST_MOVES question [] (move ∷ path) root tree deep
  | inr few ↦
      no_node MOST_MOVES question [] move path root tree few
      (λ is. let counted = open_counted question (move ∷ path) valid is in other counted.0 counted.1 counted.2)
]
