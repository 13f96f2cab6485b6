-- The pairs of a node and an index below a position are counted index by index.
use Rattle.std.proofs.Common.{◌≡◌, ℕ, zero, suc, ◌+◌, Bool, true, false, nat_lt, List, [], ◌∷◌, ◌++◌, length, refl, sym}
use Rattle.std.proofs.Common.{ap, ◌∙◌, arith}
use Rattle.std.specs.Prelude.{filter, if◌then◌else◌}
use Rattle.std.specs.List.{flat_map, sum_by}
use Rattle.std.proofs.lemmas.List.Concat.{length-flat_map}
use Rattle.suit_lists.proofs.Sums.{sum_by_filter, sum_by_none, sum_by_one_more, sum_by_same, sums_exchanged}
use Rattle.suit_lists.proofs.Sums.{sum_by_indices, sum_where_some}
use Rattle.suit_game.specs.declared.question.Question.{Question}
use Rattle.suit_classes.specs.declared.class_moves.ClassMove.{ClassMove}
use Rattle.suit_classes.specs.declared.class_view.ClassView.{ClassView}
use Rattle.suit_classes.specs.ClassPlaces.{class_after, class_decided, class_moves, class_start, class_step}
use Rattle.suit_classes.proofs.SmallCounts.{class_after_move}
use Rattle.suit_classes.specs.WhatIsAllowed.{is_among, every_move}
use Rattle.suit_classes.specs.Classes.{sizes_of}
use Rattle.suit_tree.specs.WhatIsCounted.{continued, counted_histories, node_count}
use Rattle.suit_tree.specs.Growing.{keeping, moves_from, pairs_from}
use Rattle.suit_tree.specs.Trees.{counts_at, layout_indices}
use Rattle.suit_classes.proofs.EveryMove.{class_moves_listed}
use Rattle.suit_layouts.specs.ClassLayouts.{class_layouts}
use Rattle.suit_game.specs.declared.limits.TheConstants.{MOST_MOVES}
use Rattle.suit_classes.specs.ClassMoves.{ClassHistory}

-- how many histories go on from a history with a move more
abbrev goes_on : ℕ → Question → List (List ℕ × ℕ) → ClassHistory → ℕ → ClassMove → ℕ
goes_on more question layouts history index move =
    length (continued more question (counts_at layouts index) (history ++ move ∷ []))

-- at one index: a sum over its moves is one over all moves, those apart that are not among them
moves_summed : (more : ℕ) (question : Question) (history : ClassHistory) (layouts : List (List ℕ × ℕ)) (index : ℕ)
    → length (flat_map (λ move. continued more question (counts_at layouts index) (history ++ move ∷ []))
    (class_moves (class_after question history) (counts_at layouts index)))
    ≡ sum_by (λ move. if is_among (class_moves (class_after question history) (counts_at layouts index)) move
    then goes_on more question layouts history index move else 0) every_move
moves_summed more question history layouts index =
    let view : ClassView = class_after question history in
    let counts : List ℕ = counts_at layouts index in
    length-flat_map (λ move. continued more question counts (history ++ move ∷ [])) (class_moves view counts)
    ∙ ap (sum_by (goes_on more question layouts history index)) (class_moves_listed view counts)
    ∙ sum_by_filter (is_among (class_moves view counts)) (goes_on more question layouts history index) every_move

-- the pairs below a position, index by index, where those after each move are
below_counted : (more : ℕ) (question : Question) (history : ClassHistory) (layouts : List (List ℕ
    × ℕ)) (indices : List ℕ)
    → ((move : ClassMove)
    → pairs_from more layouts (class_step (class_after question history) move)
    (keeping layouts (class_after question history) indices move)
    ≡ sum_by (λ index. goes_on more question layouts history index move)
    (keeping layouts (class_after question history) indices move))
    → (decided : Bool)
    → sum_by (λ move. pairs_from more layouts (class_step (class_after question history) move)
    (keeping layouts (class_after question history) indices move))
    (if decided then [] else filter
    (λ move. nat_lt 0 (length (keeping layouts (class_after question history) indices move))) every_move)
    ≡ sum_by (λ index. length (if decided then []
    else flat_map (λ move. continued more question (counts_at layouts index) (history ++ move ∷ []))
    (class_moves (class_after question history) (counts_at layouts index)))) indices
unfolding keeping
below_counted more question history layouts indices after true =
    sym (sum_by_none (λ (index : ℕ). 0) indices (λ index. refl))
below_counted more question history layouts indices after false =
    let view : ClassView = class_after question history in
    let keep : ClassMove → List ℕ = keeping layouts view indices in
    let some : ClassMove → Bool = λ move. nat_lt 0 (length (keep move)) in
    let pairs : ClassMove → ℕ = λ move. pairs_from more layouts (class_step view move) (keep move) in
    let makes : ℕ → ClassMove → Bool = λ index. is_among (class_moves view (counts_at layouts index)) in
    let onward : ℕ → ClassMove → ℕ = goes_on more question layouts history in
    let term : ℕ → ClassMove → ℕ = λ index move. if makes index move then onward index move else 0 in
    let below : ℕ → ℕ = λ index. length
    (flat_map (λ move. continued more question (counts_at layouts index) (history ++ move ∷ []))
    (class_moves view (counts_at layouts index))) in
    let each_move : (move : ClassMove)
    → (if some move then pairs move else 0) ≡ sum_by (λ index. term index move) indices =
    λ move.
    ap (λ (n : ℕ). if some move then n else 0) (after move)
    ∙ sum_where_some (λ index. onward index move) (keep move)
    ∙ sum_by_filter (λ index. makes index move) (λ index. onward index move) indices in
    sum_by_filter some pairs every_move
    ∙ sum_by_same (λ move. if some move then pairs move
    else 0) (λ move. sum_by (λ index. term index move) indices) every_move each_move
    ∙ sums_exchanged (λ move index. term index move) every_move indices
    ∙ sum_by_same (λ index. sum_by (term index) every_move) below indices
    (λ index. sym (moves_summed more question history layouts index))

-- the pairs from a position on, index by index
pub pairs_counted : (more : ℕ) (question : Question) (history : ClassHistory) (layouts : List (List ℕ
    × ℕ)) (indices : List ℕ)
    → pairs_from more layouts (class_after question history) indices
    ≡ sum_by (λ index. length (continued more question (counts_at layouts index) history)) indices
unfolding pairs_from continued moves_from
pairs_counted zero question history layouts indices =
    let one : ℕ → ℕ = λ index. length (continued zero question (counts_at layouts index) history) in
    let none : ℕ → ℕ = λ index. 0 in
    omega (arith, sum_by_one_more one none indices (λ index. refl), sum_by_none none indices (λ index. refl))
pairs_counted (suc more) question history layouts indices =
    let view : ClassView = class_after question history in
    let keep : ClassMove → List ℕ = keeping layouts view indices in
    let whole : ℕ → ℕ = λ index. length (continued (suc more) question (counts_at layouts index) history) in
    let below : ℕ → ℕ = λ index. length (if class_decided view then []
    else flat_map (λ move. continued more question (counts_at layouts index) (history ++ move ∷ []))
    (class_moves view (counts_at layouts index))) in
    let after : (move : ClassMove)
    → pairs_from more layouts (class_step view move) (keep move)
    ≡ sum_by (λ index. goes_on more question layouts history index move) (keep move) =
    λ move.
    ap (λ (v : ClassView). pairs_from more layouts v (keep move)) (sym (class_after_move question history move))
    ∙ pairs_counted more question (history ++ move ∷ []) layouts (keep move) in
    ap (λ (n : ℕ). length indices + n) (below_counted more question history layouts indices after (class_decided view))
    ∙ sym (sum_by_one_more whole below indices (λ index. refl))

-- the pairs from the start on, of all indices, are all pairs
pub all_pairs_counted : (question : Question)
    → pairs_from MOST_MOVES (class_layouts question (sizes_of question)) (class_start question)
    (layout_indices (class_layouts question (sizes_of question))) ≡ node_count question
unfolding node_count counted_histories
all_pairs_counted question =
    let layouts : List (List ℕ × ℕ) = class_layouts question (sizes_of question) in
    pairs_counted MOST_MOVES question [] layouts (layout_indices layouts)
    ∙ sum_by_indices (λ layout. length (continued MOST_MOVES question layout.0 [])) layouts ([], 0)
