-- The columns of a support's program, as a walk counts them (`held_more`, `held_all`, `own_count`, `held_count`,
-- `passed_more`, `passed_all`).
use Rattle.std.proofs.Common.{◌≡◌, ℕ, zero, suc, ◌+◌, ◌<◌, ◌≤◌, Bool, true, false, cond, List, [], ◌∷◌, ◌++◌, length}
use Rattle.std.proofs.Common.{map, take, get_or, refl, sym, ap, ◌∙◌, subst, append_assoc, length-append}
use Rattle.std.specs.Prelude.{Contains, if◌then◌else◌}
use Rattle.std.specs.List.{AllByRecursion, flat_map}
use Rattle.std.proofs.lemmas.Grind.{flat_map-append}
use Rattle.std.proofs.lemmas.List.{get_or-map, length-map, map-append, take_all, take_more}
use Rattle.std.proofs.lemmas.List.Elements.{Contains-get_or}
use Rattle.suit_lists.proofs.Elements.{Contains-same, each_append}
use Rattle.suit_cards.specs.Cards.{ClassLayout}
use Rattle.suit_game.specs.declared.question.Question.{Question}
use Rattle.suit_classes.specs.declared.class_moves.ClassMove.{ClassMove}
use Rattle.suit_classes.specs.ClassMoves.{ClassHistory}
use Rattle.suit_plans.specs.ReplyLaws.{counts_at}
use Rattle.suit_program.specs.declared.walks.reach.Reach.{Reach}
use Rattle.suit_program.specs.declared.walks.reach.ReachedLayout.{ReachedLayout}
use Rattle.suit_program.specs.Programs.Points.{Column, Held, Passed}
use Rattle.suit_program.specs.Programs.{columns_at, held_column}
use Rattle.suit_program.specs.Walks.Reaches.{IsReach, reached_indices}
use Rattle.suit_program.specs.Readings.{is_passed}
use Rattle.suit_program.specs.Supports.{Support, declarer_chooses, defence_chooses, reached_layouts, supported_moves}
use Rattle.suit_program.proofs.lemmas.Walks.NodesBelow.{layout_at, reached_at}

-- ---- the class layouts of a walk

-- each is one in which the class history is reached
pub index_reached : (question : Question) (support : Support) (history : ClassHistory) (reach : Reach)
    → IsReach question support history reach → (layouts : List ReachedLayout) → layouts ≡ reach.layouts.items
    → (i : ℕ) (d : ReachedLayout) → i < length layouts
    → Contains (reached_indices question support history) (get_or layouts i d).index
index_reached question support history reach is layouts same i d below =
    let index : ReachedLayout → ℕ = λ layout. layout.index in
    Contains-same (get_or layouts i d).index (ap (map index) same ∙ is.layouts)
    (subst (Contains (map index layouts)) (get_or-map index layouts i d (index d) below)
    (Contains-get_or (map index layouts) i (index d)
    (subst (λ (n : ℕ). i < n) (sym (length-map layouts index)) below)))

abbrev pub held_by : Question → ClassHistory → List ReachedLayout → List Column
held_by question history layouts =
    flat_map (held_column question history) (map (layout_at question) (map (λ (layout : ReachedLayout). layout.index)
    layouts))

one_held : (question : Question) (history : ClassHistory) (index : ℕ) (b : Bool)
    → b ≡ defence_chooses question (counts_at question index) history
    → length (flat_map (held_column question history) (layout_at question index ∷ [])) ≡ cond b 1 0
unfolding held_column
one_held question history index true is =
    ap (λ (b : Bool). length ((if b then Held (counts_at question index) history ∷ [] else []) ++ [])) (sym is)
one_held question history index false is =
    ap (λ (b : Bool). length ((if b then Held (counts_at question index) history ∷ [] else []) ++ [])) (sym is)

-- a class layout more, in which the defence has a choice or has none
pub held_more : (question : Question) (history : ClassHistory) (layouts : List ReachedLayout) (i : ℕ)
    (d : ReachedLayout) (b : Bool) (n m : ℕ) → i < length layouts
    → b ≡ defence_chooses question (counts_at question (get_or layouts i d).index) history
    → n ≡ length (held_by question history (take i layouts)) → m ≡ n + cond b 1 0
    → m ≡ length (held_by question history (take (i + 1) layouts))
held_more question history layouts i d b n m below is so_far more =
    let index : ReachedLayout → ℕ = λ layout. layout.index in
    let before : List ReachedLayout = take i layouts in
    let layout : ReachedLayout = get_or layouts i d in
    more ∙ ap (λ (k : ℕ). k + cond b 1 0) so_far
    ∙ ap (λ (k : ℕ). length (held_by question history before) + k) (sym (one_held question history layout.index b is))
    ∙ sym (length-append (held_by question history before) (held_by question history (layout ∷ [])))
    ∙ ap (λ (l : List Column). length l) (sym (flat_map-append (held_column question history)
    (map (layout_at question) (map index before)) (map (layout_at question) (map index (layout ∷ [])))))
    ∙ ap (λ (l : List (ClassLayout × ℕ)). length (flat_map (held_column question history) l))
    (sym (map-append (layout_at question) (map index before) (map index (layout ∷ [])))
    ∙ ap (map (layout_at question)) (sym (map-append index before (layout ∷ []))
    ∙ ap (map index) (sym (take_more layouts i d below))))

-- all of them
pub held_all : (question : Question) (support : Support) (history : ClassHistory) (reach : Reach)
    → IsReach question support history reach → (layouts : List ReachedLayout) → layouts ≡ reach.layouts.items
    → (i n : ℕ) → length layouts ≤ i → n ≡ length (held_by question history (take i layouts))
    → n ≡ length (flat_map (held_column question history) (reached_layouts question support history))
held_all question support history reach is layouts same i n past so_far =
    let index : ReachedLayout → ℕ = λ layout. layout.index in
    so_far
    ∙ ap (λ (l : List ReachedLayout). length (held_by question history l)) (take_all i layouts past ∙ same)
    ∙ ap (λ (l : List ℕ). length (flat_map (held_column question history) (map (layout_at question) l))) is.layouts
    ∙ ap (λ (l : List (ClassLayout × ℕ)). length (flat_map (held_column question history) l))
    (sym (reached_at question support history))

-- ---- the columns of a class history

pub own_count : (question : Question) (support : Support) (history : ClassHistory)
    → declarer_chooses question history ≡ true
    → length (supported_moves question support [] history) ≡ length (columns_at question support history)
unfolding columns_at
own_count question support history chooses =
    sym (length-map (supported_moves question support [] history) (Passed history))
    ∙ ap (λ (b : Bool). length (if b then map (Passed history) (supported_moves question support [] history)
    else flat_map (held_column question history) (reached_layouts question support history))) (sym chooses)

pub held_count : (question : Question) (support : Support) (history : ClassHistory)
    → declarer_chooses question history ≡ false
    → length (flat_map (held_column question history) (reached_layouts question support history))
    ≡ length (columns_at question support history)
unfolding columns_at
held_count question support history waits =
    ap (λ (b : Bool). length (if b then map (Passed history) (supported_moves question support [] history)
    else flat_map (held_column question history) (reached_layouts question support history))) (sym waits)

-- ---- which are declarer's

all_passed : (history : ClassHistory) (moves : List ClassMove)
    → AllByRecursion (λ b. b ≡ true) (map is_passed (map (Passed history) moves))
all_passed history [] = tt
all_passed history (move ∷ moves) = (refl, all_passed history moves)

none_passed : (question : Question) (history : ClassHistory) (layouts : List (ClassLayout × ℕ))
    → AllByRecursion (λ b. b ≡ false) (map is_passed (flat_map (held_column question history) layouts))
unfolding held_column
none_passed question history [] = tt
none_passed question history (layout ∷ layouts) =
    subst (AllByRecursion (λ b. b ≡ false))
    (sym (map-append is_passed (held_column question history layout)
    (flat_map (held_column question history) layouts)))
    (each_append (λ b. b ≡ false) (map is_passed (held_column question history layout))
    (map is_passed (flat_map (held_column question history) layouts))
    (one (defence_chooses question layout.0 history)) (none_passed question history layouts))
  where
    one : (b : Bool)
        → AllByRecursion (λ b. b ≡ false) (map is_passed (if b then Held layout.0 history ∷ [] else []))
    one true = (refl, tt)
    one false = tt

passed_case : (question : Question) (support : Support) (history : ClassHistory) (own : Bool)
    → AllByRecursion (λ b. b ≡ own) (map is_passed (if own
    then map (Passed history) (supported_moves question support [] history)
    else flat_map (held_column question history) (reached_layouts question support history)))
passed_case question support history true = all_passed history (supported_moves question support [] history)
passed_case question support history false = none_passed question history (reached_layouts question support history)

passed_each : (question : Question) (support : Support) (history : ClassHistory)
    → AllByRecursion (λ b. b ≡ declarer_chooses question history) (map is_passed (columns_at question support history))
unfolding columns_at
passed_each question support history = passed_case question support history (declarer_chooses question history)

each_index : (own : Bool) (xs : List Bool) (i : ℕ) → AllByRecursion (λ b. b ≡ own) xs → get_or xs i own ≡ own
each_index own [] i each = refl
each_index own (x ∷ xs) zero each = each.0
each_index own (x ∷ xs) (suc i) each = each_index own xs i each.1

-- one more of them
pub passed_more : (question : Question) (support : Support) (history : ClassHistory) (old now more : List Bool) (i n :
    ℕ)
    (own : Bool) → own ≡ declarer_chooses question history → n ≡ length (columns_at question support history) → i < n
    → now ≡ old ++ take i (map is_passed (columns_at question support history)) → more ≡ now ++ own ∷ []
    → more ≡ old ++ take (i + 1) (map is_passed (columns_at question support history))
passed_more question support history old now more i n own is count below so_far with =
    let all : List Bool = map is_passed (columns_at question support history) in
    let within : i < length all = subst (λ (k : ℕ). i < k) (count ∙ sym (length-map (columns_at question support
    history)
    is_passed)) below in
    let each : AllByRecursion (λ b. b ≡ own) all =
    subst (λ (o : Bool). AllByRecursion (λ b. b ≡ o) all) (sym is) (passed_each question support history) in
    with ∙ ap (λ (l : List Bool). l ++ own ∷ []) so_far
    ∙ append_assoc old (take i all) (own ∷ [])
    ∙ ap (λ (b : Bool). old ++ (take i all ++ b ∷ [])) (sym (each_index own all i each))
    ∙ ap (λ (l : List Bool). old ++ l) (sym (take_more all i own within))

pub passed_all : (question : Question) (support : Support) (history : ClassHistory) (old now : List Bool) (i n : ℕ)
    → n ≡ length (columns_at question support history) → n ≤ i
    → now ≡ old ++ take i (map is_passed (columns_at question support history))
    → now ≡ old ++ map is_passed (columns_at question support history)
passed_all question support history old now i n count past so_far =
    let all : List Bool = map is_passed (columns_at question support history) in
    so_far ∙ ap (λ (l : List Bool). old ++ l) (take_all i all
    (subst (λ (k : ℕ). k ≤ i) (count ∙ sym (length-map (columns_at question support history) is_passed)) past))
