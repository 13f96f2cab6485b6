-- A tree grown on from a class history is the tree of all histories that count and go on from it.
use Rattle.std.proofs.Common.{◌≡◌, ℕ, zero, suc, Bool, ◌&&◌, List, [], ◌∷◌, ◌++◌, length, sym}
use Rattle.std.proofs.Common.{ap, ◌∙◌, subst}
use Rattle.std.specs.Prelude.{nat_lt, Some, if◌then◌else◌}
use Rattle.std.proofs.lemmas.List.Elements.{filter_agree}
use Rattle.suit_game.specs.declared.question.Question.{Question}
use Rattle.suit_classes.specs.declared.class_moves.ClassMove.{ClassMove}
use Rattle.suit_classes.specs.declared.class_view.ClassView.{ClassView}
use Rattle.suit_classes.specs.ClassPlaces.{class_after, class_decided, class_moves, class_step}
use Rattle.suit_classes.proofs.SmallCounts.{class_after_move}
use Rattle.suit_classes.proofs.AllowsOneMoveMore.{allows-push}
use Rattle.suit_lists.proofs.Filters.{filter-filter, filter_true}
use Rattle.suit_tree.specs.declared.node.Node.{Node}
use Rattle.suit_classes.specs.WhatIsAllowed.{allows, allows_from, is_among, every_move}
use Rattle.suit_classes.specs.Classes.{sizes_of}
use Rattle.suit_tree.specs.Growing.{IsGrown, StandsFor, keeping, moves_from}
use Rattle.suit_tree.specs.Nodes.{children_of, move_to}
use Rattle.suit_tree.specs.Trees.{AllFit, IsTreeAt, StandsAt, allowing, counts_at, layout_indices, moves_on}
use Rattle.suit_layouts.specs.ClassLayouts.{class_layouts}
use Rattle.suit_classes.specs.ClassMoves.{ClassHistory}

-- of the indices that allow a history, those at which a move may be made allow it with this move
pub kept_allowing : (question : Question) (history : ClassHistory) (move : ClassMove)
    → keeping (class_layouts question (sizes_of question)) (class_after question history) (allowing question history)
    move ≡ allowing question (history ++ move ∷ [])
unfolding keeping allowing
kept_allowing question history move =
    let layouts : List (List ℕ × ℕ) = class_layouts question (sizes_of question) in
    let may : ℕ → Bool = λ index. is_among (class_moves (class_after question history) (counts_at layouts index))
    move in
    let before : ℕ → Bool = λ index. allows question (counts_at layouts index) history in
    filter-filter before may (layout_indices layouts)
    ∙ filter_agree (λ index. before index
    && may index) (λ index. allows question (counts_at layouts index) (history ++ move ∷ []))
    (λ index. sym (allows-push question (counts_at layouts index) history move)) (layout_indices layouts)

-- so the moves by which a position goes on are those of its history
pub moves_from_on : (question : Question) (history : ClassHistory)
    → moves_from (class_layouts question (sizes_of question)) (class_after question history) (allowing question history)
    ≡ moves_on question history
unfolding moves_from moves_on
moves_from_on question history =
    let view = class_after question history in
    let layouts : List (List ℕ × ℕ) = class_layouts question (sizes_of question) in
    ap (λ (l : List ClassMove). if class_decided view then [] else l)
    (filter_agree (λ move. nat_lt 0 (length (keeping layouts view (allowing question history) move)))
    (λ move. nat_lt 0 (length (allowing question (history ++ move ∷ []))))
    (λ move. ap (λ (l : List ℕ). nat_lt 0 (length l)) (kept_allowing question history move)) every_move)

-- what fits one way fits another where the one gives the other
pub all_fit_gives : (Fits Others : ClassMove → Node → Type 0)
    → ((move : ClassMove) (node : Node) → Fits move node → Others move node)
    → (moves : List ClassMove) (nodes : List Node) → AllFit Fits moves nodes → AllFit Others moves nodes
unfolding AllFit
all_fit_gives Fits Others gives [] [] fit = tt
all_fit_gives Fits Others gives [] (node ∷ nodes) fit = absurd fit
all_fit_gives Fits Others gives (move ∷ moves) [] fit = absurd fit
all_fit_gives Fits Others gives (move ∷ moves) (node ∷ nodes) fit =
    (gives move node fit.0, all_fit_gives Fits Others gives moves nodes fit.1)

stands_at : (question : Question) (history : ClassHistory) (node : Node)
    → StandsFor (class_after question history) (allowing question history) node → StandsAt question history node
stands_at question history node stands = record { turn = stands.turn; layouts = stands.layouts; payoff = stands.payoff }

-- a node grown from the position after a history, with the indices that allow it, is the tree at this history
pub grown_is_tree : (more : ℕ) (question : Question) (history : ClassHistory) (node : Node)
    → IsGrown more (class_layouts question (sizes_of question)) (class_after question history)
    (allowing question history) node → IsTreeAt more question history node
unfolding IsGrown IsTreeAt
grown_is_tree zero question history node grown = (stands_at question history node grown.0, grown.1)
grown_is_tree (suc more) question history node grown =
    let view = class_after question history in
    let layouts : List (List ℕ × ℕ) = class_layouts question (sizes_of question) in
    let indices = allowing question history in
    let Grown : ClassMove → Node → Type 0 = λ move child. (move_to child ≡ Some move)
    × IsGrown more layouts (class_step view move) (keeping layouts view indices move) child in
    let Tree : ClassMove → Node → Type 0 = λ move child. (move_to child ≡ Some move)
    × IsTreeAt more question (history ++ move ∷ []) child in (
      stands_at question history node grown.0,
      subst (λ (moves : List ClassMove). AllFit Tree moves (children_of node)) (moves_from_on question history)
          (all_fit_gives Grown Tree
          (λ move child fits. (
            fits.0,
            grown_is_tree more question (history ++ move ∷ []) child
                (subst (λ (kept : List ℕ). IsGrown more layouts (class_after question (history ++ move ∷ [])) kept
                child) (kept_allowing question history move)
                (subst (λ (after : ClassView). IsGrown more layouts after (keeping layouts view indices move) child)
                (sym (class_after_move question history move)) fits.1)),
          ))
          (moves_from layouts view indices) (children_of node) grown.1),
    )

-- every class layout allows the empty history
pub allowing_first : (question : Question)
    → allowing question [] ≡ layout_indices (class_layouts question (sizes_of question))
unfolding allowing allows allows_from
allowing_first question = filter_true (layout_indices (class_layouts question (sizes_of question)))
