-- What is made of nodes that fit moves, one after the other, is made of the moves (map_fitted, map_fitted_kept), and
-- there
-- are few (few_children).
use Rattle.std.proofs.Common.{◌≡◌, ◌<◌, ◌≤◌, ℕ, zero, suc, Bool, true, false, cond, nat_lt, List, [], ◌∷◌, ◌++◌, length}
use Rattle.std.proofs.Common.{get_or, map, refl, ap, ◌∙◌, subst, arith}
use Rattle.std.specs.Prelude.{Contains, Some, filter, if◌then◌else◌}
use Rattle.suit_lists.proofs.Elements.{Contains-first, Contains-later}
use Rattle.suit_lists.proofs.Filters.{length_filter-most}
use Rattle.suit_game.specs.declared.question.Question.{Question}
use Rattle.suit_classes.specs.declared.class_moves.ClassMove.{ClassMove}
use Rattle.suit_tree.specs.declared.node.Node.{Node}
use Rattle.suit_classes.specs.WhatIsAllowed.{every_move}
use Rattle.suit_classes.specs.ClassMoves.{ClassHistory}
use Rattle.suit_classes.specs.ClassPlaces.{class_after, class_decided, class_numbers}
use Rattle.suit_tree.specs.Nodes.{children_of, move_to}
use Rattle.suit_tree.specs.Trees.{AllFit, IsTreeAt, allowing, moves_on}

-- a node that stands at an index fits one of the moves
pub fitted_at : (Fits : ClassMove → Node → Type 0) (moves : List ClassMove) (nodes : List Node) (i : ℕ) (d : Node)
    → AllFit Fits moves nodes → i < length nodes
    → (move : ClassMove) × Contains moves move × Fits move (get_or nodes i d)
unfolding AllFit
fitted_at Fits [] [] i d fit below = absurd (omega (arith, below))
fitted_at Fits [] (node ∷ nodes) i d fit below = absurd fit
fitted_at Fits (move ∷ moves) [] i d fit below = absurd fit
fitted_at Fits (move ∷ moves) (node ∷ nodes) zero d fit below = (move, Contains-first move moves, fit.0)
fitted_at Fits (move ∷ moves) (node ∷ nodes) (suc i) d fit below =
    let later = fitted_at Fits moves nodes i d fit.1 (omega (arith, below)) in
    (later.0, Contains-later move moves later.0 later.1, later.2)

-- so does a node that is one of them
pub fitted_node : (Fits : ClassMove → Node → Type 0) (moves : List ClassMove) (nodes : List Node) (node : Node)
    → AllFit Fits moves nodes → Contains nodes node
    → (move : ClassMove) × Contains moves move × Fits move node
fitted_node Fits moves nodes node fit found =
    let at = fitted_at Fits moves nodes found.0 node fit found.1 in
    (at.0, at.1, subst (Fits at.0) found.2 at.2)

first_with : {X : Type 0} (x y : X) (xs ys : List X) → x ≡ y → xs ≡ ys → x ∷ xs ≡ y ∷ ys
first_with {X} x y xs ys same alike = ap (λ (z : X). z ∷ xs) same ∙ ap (λ (l : List X). y ∷ l) alike

-- what is made of each node is made of its move
pub map_fitted : {X : Type 0} (Fits : ClassMove → Node → Type 0) (of_node : Node → X) (of_move : ClassMove → X)
    (moves : List ClassMove) (nodes : List Node)
    → AllFit Fits moves nodes → ((move : ClassMove) (node : Node) → Contains moves move → Fits move node
    → of_node node ≡ of_move move)
    → map of_node nodes ≡ map of_move moves
unfolding AllFit
map_fitted Fits of_node of_move [] [] fit same = refl
map_fitted Fits of_node of_move [] (node ∷ nodes) fit same = absurd fit
map_fitted Fits of_node of_move (move ∷ moves) [] fit same = absurd fit
map_fitted Fits of_node of_move (move ∷ moves) (node ∷ nodes) fit same =
    first_with (of_node node) (of_move move) (map of_node nodes) (map of_move moves)
    (same move node (Contains-first move moves) fit.0)
    (map_fitted Fits of_node of_move moves nodes fit.1
    (λ other child found fits. same other child (Contains-later move moves other found) fits))

kept_case : {X : Type 0} (of_node : Node → X) (of_move : ClassMove → X) (node : Node) (move : ClassMove)
    (nodes : List Node) (moves : List ClassMove) (b : Bool)
    → (b ≡ true → of_node node ≡ of_move move) → map of_node nodes ≡ map of_move moves
    → map of_node (cond b (node ∷ nodes) nodes) ≡ map of_move (cond b (move ∷ moves) moves)
kept_case of_node of_move node move nodes moves true same alike =
    first_with (of_node node) (of_move move) (map of_node nodes) (map of_move moves) (same refl) alike
kept_case of_node of_move node move nodes moves false same alike = alike

-- and of those nodes that pass a test of those moves that pass it
pub map_fitted_kept : {X : Type 0} (Fits : ClassMove → Node → Type 0) (of_node : Node → X) (of_move : ClassMove → X)
    (passes : Node → Bool) (may : ClassMove → Bool)
    (moves : List ClassMove) (nodes : List Node) → AllFit Fits moves nodes
    → ((move : ClassMove) (node : Node) → Fits move node → passes node ≡ may move)
    → ((move : ClassMove) (node : Node) → may move ≡ true → Fits move node → of_node node ≡ of_move move)
    → map of_node (filter passes nodes) ≡ map of_move (filter may moves)
unfolding AllFit
map_fitted_kept Fits of_node of_move passes may [] [] fit agree same = refl
map_fitted_kept Fits of_node of_move passes may [] (node ∷ nodes) fit agree same = absurd fit
map_fitted_kept Fits of_node of_move passes may (move ∷ moves) [] fit agree same = absurd fit
map_fitted_kept {X} Fits of_node of_move passes may (move ∷ moves) (node ∷ nodes) fit agree same =
    ap (λ (b : Bool). map of_node (cond b (node ∷ filter passes nodes) (filter passes nodes))) (agree move node fit.0)
    ∙ kept_case of_node of_move node move (filter passes nodes) (filter may moves) (may move)
    (λ is. same move node is fit.0)
    (map_fitted_kept Fits of_node of_move passes may moves nodes fit.1 agree same)

-- as many moves as nodes
pub fitted_length : (Fits : ClassMove → Node → Type 0) (moves : List ClassMove) (nodes : List Node)
    → AllFit Fits moves nodes → length moves ≡ length nodes
unfolding AllFit
fitted_length Fits [] [] fit = refl
fitted_length Fits [] (node ∷ nodes) fit = absurd fit
fitted_length Fits (move ∷ moves) [] fit = absurd fit
fitted_length Fits (move ∷ moves) (node ∷ nodes) fit = let later = fitted_length Fits moves nodes fit.1 in
    omega (arith, later)

forty : length every_move ≡ 40
unfolding every_move class_numbers
forty = refl

unless_few : (b : Bool) (moves : List ClassMove) → length moves ≤ length every_move
    → length (if b then [] else moves) ≤ 40
unless_few true moves few = omega arith
unless_few false moves few = omega (arith, few, forty)

few_moves_on : (question : Question) (history : ClassHistory) → length (moves_on question history) ≤ 40
unfolding moves_on
few_moves_on question history =
    let some : ClassMove → Bool = λ move. nat_lt 0 (length (allowing question (history ++ move ∷ []))) in
    unless_few (class_decided (class_after question history)) (filter some every_move)
    (length_filter-most some every_move)

-- a node has few children
pub few_children : (more : ℕ) (question : Question) (history : ClassHistory) (node : Node)
    → IsTreeAt more question history node
    → length (children_of node) ≤ 40
unfolding IsTreeAt
few_children zero question history node tree = omega (arith, ap (λ (l : List Node). length l) tree.1)
few_children (suc more) question history node tree =
    omega (
      arith,
      few_moves_on question history,
      fitted_length (λ move child. (move_to child ≡ Some move)
          × IsTreeAt more question (history ++ move ∷ []) child) (moves_on question history)
          (children_of node) tree.1,
    )
