-- The node at each path below a node of the tree.
use Rattle.std.proofs.Common.{◌≡◌, ℕ, zero, suc, ◌-◌, ◌≤◌, ◌<◌, Bool, false, cond, List, [], ◌∷◌, ◌++◌, length, refl}
use Rattle.std.proofs.Common.{sym, ap, ◌∙◌, subst, inl, inr, arith}
use Rattle.std.specs.Prelude.{Contains, Some}
use Rattle.std.specs.List.{AllByRecursion, flat_map}
use Rattle.std.proofs.lemmas.Bool.{both_ways, cases_Bool, cases_lt, false_from_ne_true}
use Rattle.std.proofs.lemmas.List.{append-nil, append_assoc}
use Rattle.suit_lists.proofs.Elements.{Contains-cons_cases, Contains-nil, each_at, each_in}
use Rattle.suit_lists.proofs.Once.{IsOnce}
use Rattle.suit_game.specs.declared.question.Question.{Question}
use Rattle.suit_classes.specs.declared.class_moves.ClassMove.{ClassMove}
use Rattle.suit_classes.specs.ClassMoves.{same_class_move, ClassHistory}
use Rattle.suit_classes.specs.declared.class_view.ClassView.{ClassView}
use Rattle.suit_classes.specs.ClassPlaces.{class_after, class_decided}
use Rattle.suit_classes.proofs.SmallCounts.{class_after_move}
use Rattle.suit_tree.specs.declared.node.Node.{Node}
use Rattle.suit_tree.specs.Nodes.{children_of, move_to}
use Rattle.suit_tree.specs.Paths.{is_by, nodes_at, nodes_by}
use Rattle.suit_tree.specs.Trees.{AllFit, IsTreeAt, StandsAt, allowing, moves_on}
use Rattle.suit_classes.proofs.SameMoves.{same_move-itself, same_move_is}
use Rattle.suit_tree.proofs.MovesOn.{Contains-moves_on, allowing_start, moves_on-parts, once_moves_on}
use Rattle.suit_tree.proofs.EachHistoryIsCountedOnce.{GoesOn}

-- the nodes that moves lead to, each in its turn
abbrev pub AreLed : (ClassMove → Node → Type 0) → List ClassMove → List Node → Type 0
AreLed Fits moves nodes = AllFit (λ move node. (move_to node ≡ Some move) × Fits move node) moves nodes

-- another move leads to none of them
none_by : (Fits : ClassMove → Node → Type 0) (move : ClassMove) (moves : List ClassMove) (nodes : List Node)
    → AreLed Fits moves nodes
    → AllByRecursion (λ other. other ≡ move → ⊥) moves → nodes_by move nodes ≡ []
unfolding AllFit
none_by Fits move [] [] fit apart = refl
none_by Fits move [] (node ∷ nodes) fit apart = absurd fit
none_by Fits move (other ∷ moves) [] fit apart = absurd fit
none_by Fits move (other ∷ moves) (node ∷ nodes) fit apart =
    ap (λ (b : Bool). cond b (node ∷ nodes_by move nodes) (nodes_by move nodes))
    (ap (is_by move) fit.0.0 ∙ false_from_ne_true (same_class_move move other)
    (λ same. apart.0 (sym (same_move_is move other same))))
    ∙ none_by Fits move moves nodes fit.1 apart.1

-- one of the moves leads to one of them
one_by : (Fits : ClassMove → Node → Type 0) (move : ClassMove) (moves : List ClassMove) (nodes : List Node)
    → AreLed Fits moves nodes
    → IsOnce moves → Contains moves move → (node : Node) × (nodes_by move nodes ≡ node ∷ []) × Fits move node
unfolding AllFit IsOnce
one_by Fits move [] nodes fit once found = absurd (Contains-nil move found)
one_by Fits move (other ∷ moves) [] fit once found = absurd fit
one_by Fits move (other ∷ moves) (node ∷ nodes) fit once found = elim (Contains-cons_cases other moves move found) [
  | inl here ↦ (
    node,
    ap (λ (b : Bool). cond b (node ∷ nodes_by move nodes) (nodes_by move nodes))
        (ap (is_by move) fit.0.0 ∙ ap (same_class_move move) here ∙ same_move-itself move)
        ∙ ap (λ (l : List Node). node ∷ l)
        (none_by Fits move moves nodes fit.1
        (subst (λ (m : ClassMove). AllByRecursion (λ later. later ≡ m → ⊥) moves) here
        (each_in (λ later. later ≡ other
        → ⊥) moves (λ later within same. each_at (λ y. other ≡ y → ⊥) moves later once.0 within (sym same))))),
    subst (λ (m : ClassMove). Fits m node) here fit.0.1,
  )
  | inr there ↦
      let later = one_by Fits move moves nodes fit.1 once.1 there in
      let apart : other ≡ move → ⊥ = each_at (λ y. other ≡ y → ⊥) moves move once.0 there in (
        later.0,
        ap (λ (b : Bool). cond b (node ∷ nodes_by move nodes) (nodes_by move nodes))
            (ap (is_by move) fit.0.0 ∙ false_from_ne_true (same_class_move move other)
            (λ same. apart (sym (same_move_is move other same))))
            ∙ later.1,
        later.2,
      )
]

-- the root of a tree stands at its history
pub tree_stands : (more : ℕ) (question : Question) (history : ClassHistory) (node : Node)
    → IsTreeAt more question history node → StandsAt question history node
unfolding IsTreeAt
tree_stands zero question history node tree = tree.0
tree_stands (suc more) question history node tree = tree.0

-- a path which some class layout allows after a history, and which goes past no decided position
pub record IsOpen (question : Question) (history path : ClassHistory) : Type 0 where
  pub past : GoesOn (class_after question history) path
  pub some : 0 < length (allowing question (history ++ path))

open_first : (question : Question) (history : ClassHistory) (move : ClassMove) (path : ClassHistory)
    → IsOpen question history (move ∷ path)
    → (class_decided (class_after question history) ≡ false) × (0 < length (allowing question (history ++ move ∷ [])))
unfolding GoesOn
open_first question history move path is = (
  is.past.0,
  allowing_start question (history ++ move ∷ []) path
      (subst (λ (h : ClassHistory). 0 < length (allowing question h)) (sym (append_assoc history (move ∷ []) path))
      is.some),
)

open_later : (question : Question) (history : ClassHistory) (move : ClassMove) (path : ClassHistory)
    → IsOpen question history (move ∷ path)
    → IsOpen question (history ++ move ∷ []) path
unfolding GoesOn
open_later question history move path is = record {
  past = subst (λ (view : ClassView). GoesOn view path) (sym (class_after_move question history move)) is.past.1;
  some = subst (λ (h : ClassHistory). 0 < length (allowing question h)) (sym (append_assoc history (move ∷ []) path))
      is.some;
}

open_joined : (question : Question) (history : ClassHistory) (move : ClassMove) (path : ClassHistory)
    → class_decided (class_after question history) ≡ false → IsOpen question (history ++ move ∷ []) path
    → IsOpen question history (move ∷ path)
unfolding GoesOn
open_joined question history move path undecided is = record {
  past = (undecided, subst (λ (view : ClassView). GoesOn view path) (class_after_move question history move) is.past);
  some = subst (λ (h : ClassHistory). 0 < length (allowing question h)) (append_assoc history (move ∷ []) path)
      is.some;
}

-- at such a path stands one node, and it is the tree at the history with the path
pub one_node : (more : ℕ) (question : Question) (history path : ClassHistory) (node : Node)
    → IsTreeAt more question history node
    → length path ≤ more → IsOpen question history path
    → (found : Node) × (nodes_at path node ≡ found ∷ [])
    × IsTreeAt (more - length path) question (history ++ path) found
unfolding nodes_at IsTreeAt
one_node more question history [] node tree few is =
    let all : more ≡ more - 0 = omega arith in (
      node,
      refl,
      subst (λ (n : ℕ). IsTreeAt n question (history ++ []) node) all
          (subst (λ (h : ClassHistory). IsTreeAt more question h node) (sym (append-nil history)) tree),
    )
one_node zero question history (move ∷ path) node tree few is = absurd (omega arith)
one_node (suc more) question history (move ∷ path) node tree few is =
    let Fits : ClassMove → Node → Type 0 = λ other child. IsTreeAt more question (history ++ other ∷ []) child in
    let first = open_first question history move path is in
    let child = one_by Fits move (moves_on question history) (children_of node) tree.1 (once_moves_on question history)
    (Contains-moves_on question history move first.0 first.1) in
    let later = one_node more question (history ++ move ∷ []) path child.0 child.2 (omega (arith, few))
    (open_later question history move path is) in
    let left : more - length path ≡ suc more - length (move ∷ path) = omega arith in (
      later.0,
      ap (λ (l : List Node). flat_map (nodes_at path) l) child.1 ∙ append-nil (nodes_at path child.0) ∙ later.1,
      subst (λ (n : ℕ). IsTreeAt n question (history ++ move ∷ path) later.0) left
          (subst (λ (h : ClassHistory). IsTreeAt (more - length path) question h later.0)
          (append_assoc history (move ∷ []) path) later.2),
    )

-- by a move that is none of those with which the history goes on, no path leads to a node
none_after : (more : ℕ) (question : Question) (history : ClassHistory) (move : ClassMove) (path : ClassHistory)
    (node : Node)
    → IsTreeAt (suc more) question history node → (Contains (moves_on question history) move → ⊥)
    → nodes_at (move ∷ path) node ≡ []
unfolding nodes_at IsTreeAt
none_after more question history move path node tree other =
    ap (λ (l : List Node). flat_map (nodes_at path) l)
    (none_by (λ other child. IsTreeAt more question (history ++ other ∷ []) child) move (moves_on question history)
    (children_of node) tree.1
    (each_in (λ later. later ≡ move → ⊥) (moves_on question history)
    (λ later within same. other (subst (λ (m : ClassMove). Contains (moves_on question history) m) same within))))

-- at no other path that is not empty stands a node
pub no_node : (more : ℕ) (question : Question) (history : ClassHistory) (move : ClassMove) (path : ClassHistory)
    (node : Node) → IsTreeAt more question history node
    → length (move ∷ path) ≤ more → (IsOpen question history (move ∷ path) → ⊥) → nodes_at (move ∷ path) node ≡ []
unfolding nodes_at IsTreeAt GoesOn
no_node zero question history move path node tree few other = absurd (omega arith)
no_node (suc more) question history move [] node tree few other =
    none_after more question history move [] node tree
    (λ found.
    let parts = moves_on-parts question history move found in
    other (record { past = (parts.0, tt); some = parts.1 }))
no_node (suc more) question history move (next ∷ path) node tree few other =
    elim (cases_Bool (class_decided (class_after question history))) [
      | inl decided ↦
          none_after more question history move (next ∷ path) node tree
          (λ found. both_ways (class_decided (class_after question history))
          (moves_on-parts question history move found).0
          decided)
      | inr undecided ↦ elim (cases_lt 0 (length (allowing question (history ++ move ∷ [])))) [
        | inl some ↦
            let Fits : ClassMove → Node → Type 0 =
            λ other child. IsTreeAt more question (history ++ other ∷ []) child in
            let child = one_by Fits move (moves_on question history) (children_of node) tree.1
            (once_moves_on question history) (Contains-moves_on question history move undecided some) in
            ap (λ (l : List Node). flat_map (nodes_at (next ∷ path)) l) child.1
            ∙ append-nil (nodes_at (next ∷ path) child.0)
            ∙ no_node more question (history ++ move ∷ []) next path child.0 child.2 (omega (arith, few))
            (λ is. other (open_joined question history move (next ∷ path) undecided is))
        | inr none ↦
            none_after more question history move (next ∷ path) node tree
            (λ found. let parts = moves_on-parts question history move found in omega (arith, parts.1, none))
      ]
    ]
