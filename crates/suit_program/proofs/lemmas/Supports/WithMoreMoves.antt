-- A support with more moves: which are new is told by the nodes of the tree (`own_told`, `theirs_told`), and it names
-- them and what it did (`with_seen`).
use Rattle.std.proofs.Common.{◌≡◌, ℕ, zero, suc, ◌+◌, ◌-◌, ◌<◌, ◌≤◌}
use Rattle.std.proofs.Common.{Bool, true, false, List, [], ◌∷◌, ◌++◌, Option, Some}
use Rattle.std.proofs.Common.{length, map, refl, sym, ap, ◌∙◌, subst, arith, get_or, fold, take, drop, inl, inr, All}
use Rattle.std.specs.Prelude.{◌==◌, ◌&&◌, ◌||◌, Contains, bytes_eq, filter, nat_lt, not, slice_get, slice_set}
use Rattle.std.specs.Prelude.{if◌then◌else◌}
use Rattle.std.specs.List.{list_any}
use Rattle.std.proofs.lemmas.Bool.{and_from, and_parts, cases_Bool, eq-eqb, eqb-true, false≢true, false_from_ne_true}
use Rattle.std.proofs.lemmas.Bool.{ltb-true}
use Rattle.std.proofs.lemmas.List.{append-nil, append_assoc, at_drop_all, at_drop_more, length-map}
use Rattle.std.proofs.lemmas.List.Elements.{All-contains, Contains-get_or}
use Rattle.suit_lists.proofs.Elements.{Contains-cons_cases, Contains-first, Contains-later, Contains-nil, Contains-same}
use Rattle.suit_lists.proofs.Filters.{Contains-filter, any_kept, filter_of_map}
use Rattle.suit_lists.proofs.Tests.{any_none, any_or, any_same, or_apart, passing_some, some_passing}
use Rattle.suit_lists.proofs.Walks.{Contains-range, any_one_more, by_indices}
use Rattle.suit_cards.specs.Cards.{ClassLayout, Indices}
use Rattle.suit_game.specs.declared.question.Question.{Question}
use Rattle.suit_game.specs.Validity.{IsValid}
use Rattle.suit_game.specs.declared.limits.TheConstants.{MOST_MOVES}
use Rattle.suit_classes.specs.declared.class_moves.ClassMove.{ClassMove}
use Rattle.suit_classes.specs.declared.class_view.ClassView.{ClassView}
use Rattle.suit_classes.specs.WhatIsAllowed.{allows, is_among}
use Rattle.suit_classes.specs.ClassMoves.{ClassHistory, same_class_move}
use Rattle.suit_classes.specs.ClassPlaces.{class_after, class_decided}
use Rattle.suit_classes.proofs.SameMoves.{among_contained, same_move-itself, same_move_is}
use Rattle.suit_plans.specs.declared.moves.DeclarerMove.{DeclarerMove}
use Rattle.suit_plans.specs.declared.moves.DefenceMove.{DefenceMove}
use Rattle.suit_plans.specs.Masses.{is_first}
use Rattle.suit_plans.specs.Orders.{same_class_history}
use Rattle.suit_plans.specs.Properness.{some_allows}
use Rattle.suit_plans.specs.ReplyLaws.{counts_at}
use Rattle.suit_plans.proofs.TurnMoves.{declarers_moves}
use Rattle.suit_plans.proofs.WhoseTurns.{own_turn, their_turn}
use Rattle.suit_tree.specs.declared.node.Node.{Node}
use Rattle.suit_tree.specs.declared.tree.Tree.{Tree}
use Rattle.suit_tree.specs.Nodes.{children_of, holds_index, move_of}
use Rattle.suit_tree.specs.Trees.{IsTreeAt, IsTreeOf, allowing, layout_indices}
use Rattle.suit_tree.proofs.OneNodeAtEachPath.{in_range_below}
use Rattle.suit_tree.proofs.MovesOn.{Contains-moves_on, allowing_start}
use Rattle.suit_program.specs.declared.supports.mark.Mark.{Mark}
use Rattle.suit_program.specs.declared.supports.support.Support.{Support as MarkedSupport}
use Rattle.suit_program.specs.Supports.Additions.{are_theirs, children_at, children_by, has_own, has_theirs}
use Rattle.suit_program.specs.Supports.Marks.{IsOwnMove, IsTheirMove, NamesMore, defence_mark, defence_named, named_on}
use Rattle.suit_program.specs.Supports.Marks.{support_seen}
use Rattle.suit_program.specs.Supports.{Support, are_new, has_declarers, has_defences, layouts_of, legal_moves, names}
use Rattle.suit_program.specs.Supports.{supported_moves, whole_support, with_moves}
use Rattle.suit_program.proofs.lemmas.Walks.ReachTells.{among_kept}
use Rattle.suit_program.proofs.lemmas.Walks.NodesBelow.{child_below, held_below, layout_at, moves_below, own_below}
use Rattle.suit_program.proofs.lemmas.Walks.ReachAtTheStart.{defence_seen_is, own_seen_is}
use Rattle.suit_program.proofs.lemmas.Supports.FirstAndWhole.{same_support, whole_seen}
use Rattle.suit_program.proofs.lemmas.Supports.TurnCases.{legal_going}

-- ---- walks over nodes

pub by_found : (nodes : List Node) (i : ℕ) (d : Node) (move : ClassMove) → i < length nodes
    → same_class_move (move_of (get_or nodes i d)) move ≡ true
    → children_by (drop i nodes) move ≡ children_of (get_or nodes i d)
unfolding children_by
by_found nodes i d move below is =
    at_drop_more (λ (l : List Node). children_by l move) nodes i d below
    ∙ ap (λ (b : Bool). if b then children_of (get_or nodes i d) else children_by (drop (i + 1) nodes) move) is

pub by_passed : (nodes : List Node) (i : ℕ) (d : Node) (move : ClassMove) → i < length nodes
    → same_class_move (move_of (get_or nodes i d)) move ≡ false
    → children_by (drop i nodes) move ≡ children_by (drop (i + 1) nodes) move
unfolding children_by
by_passed nodes i d move below is =
    at_drop_more (λ (l : List Node). children_by l move) nodes i d below
    ∙ ap (λ (b : Bool). if b then children_of (get_or nodes i d) else children_by (drop (i + 1) nodes) move) is

pub by_none : (nodes : List Node) (i : ℕ) (move : ClassMove) → length nodes ≤ i → children_by (drop i nodes) move ≡ []
unfolding children_by
by_none nodes i move past = at_drop_all (λ (l : List Node). children_by l move) nodes i past

-- ---- marks by their indices

pub pushed : (P : ℕ → Option Mark → Type 0) (marks : List Mark) (mark : Mark)
    → ((k : ℕ) → k < length marks → P k (slice_get marks k)) → P (length marks) (Some mark)
    → (k : ℕ) → k < length marks + 1 → P k (slice_get (marks ++ mark ∷ []) k)
pushed P [] mark all here zero less = here
pushed P [] mark all here (suc k) less = absurd (omega (arith, less))
pushed P (first ∷ marks) mark all here zero less = all 0 (omega arith)
pushed P (first ∷ marks) mark all here (suc k) less =
    pushed (λ j. P (suc j)) marks mark (λ j within. all (suc j) (omega (arith, within))) here k (omega (arith, less))

get_set : (marks : List Mark) (at : ℕ) (new : Mark) → at < length marks
    → slice_get (slice_set marks at new) at ≡ Some new
get_set [] at new below = absurd (omega (arith, below))
get_set (mark ∷ marks) zero new below = refl
get_set (mark ∷ marks) (suc at) new below = get_set marks at new (omega (arith, below))

get_other : (marks : List Mark) (at k : ℕ) (new : Mark) → (at ≡ k → ⊥)
    → slice_get (slice_set marks at new) k ≡ slice_get marks k
get_other [] at k new apart = refl
get_other (mark ∷ marks) zero zero new apart = absurd (apart refl)
get_other (mark ∷ marks) zero (suc k) new apart = refl
get_other (mark ∷ marks) (suc at) zero new apart = refl
get_other (mark ∷ marks) (suc at) (suc k) new apart = get_other marks at k new (λ same. apart (ap suc same))

get_there : (marks : List Mark) (at : ℕ) (d : Mark) → at < length marks → slice_get marks at ≡ Some (get_or marks at d)
get_there [] at d below = absurd (omega (arith, below))
get_there (mark ∷ marks) zero d below = refl
get_there (mark ∷ marks) (suc at) d below = get_there marks at d (omega (arith, below))

nothing_more : (b c : Bool) → b ≡ (b || (false && c))
nothing_more true c = refl
nothing_more false c = refl

-- a mark that names one move more
pub set_at : (marks : List Mark) (at : ℕ) (d new : Mark) (moves : ClassHistory) (mv : ClassMove) → at < length marks
    → NamesMore new (get_or marks at d) moves mv → (k : ℕ) (history : ClassHistory) (move : ClassMove)
    → named_on (slice_get (slice_set marks at new) k) history move
    ≡ (named_on (slice_get marks k) history move
    || ((at == k) && (same_class_history moves history && same_class_move mv move)))
set_at marks at d new moves mv below more k history move = elim (cases_Bool (at == k)) [
  | inl is ↦
      let same : at ≡ k = eqb-true at k is in
      ap (λ (mark : Option Mark). named_on mark history move)
      (subst (λ (j : ℕ). slice_get (slice_set marks at new) j ≡ Some new) same (get_set marks at new below))
      ∙ more.names history move
      ∙ ap (λ (mark : Option Mark). named_on mark history move
      || (same_class_history moves history && same_class_move mv move))
      (subst (λ (j : ℕ). Some (get_or marks at d) ≡ slice_get marks j) same (sym (get_there marks at d below)))
      ∙ ap (λ (b : Bool). named_on (slice_get marks k) history move
      || (b && (same_class_history moves history && same_class_move mv move))) (sym is)
  | inr other ↦
      ap (λ (mark : Option Mark). named_on mark history move)
      (get_other marks at k new (λ same. false≢true (sym other ∙ eq-eqb at k same)))
      ∙ nothing_more (named_on (slice_get marks k) history move)
      (same_class_history moves history && same_class_move mv move)
      ∙ ap (λ (b : Bool). named_on (slice_get marks k) history move
      || (b && (same_class_history moves history && same_class_move mv move))) (sym other)
]

-- ---- one move more of some

pub none_more_yet : (b : Bool) (history : ClassHistory) (move : ClassMove) → b ≡ (b || has_declarers [] history move)
unfolding has_declarers
none_more_yet true history move = refl
none_more_yet false history move = refl

pub no_theirs_yet : (b : Bool) (k : ℕ) (history : ClassHistory) (move : ClassMove)
    → b ≡ (b || are_theirs [] k history move)
no_theirs_yet true k history move = refl
no_theirs_yet false k history move = refl

pub own_one_more : (b : Bool) (own : List DeclarerMove) (i : ℕ) (entry : DeclarerMove) → i < length own
    → entry ≡ get_or own i entry → (history : ClassHistory) (move : ClassMove)
    → ((b || has_declarers (take i own) history move)
    || (same_class_history entry.history history && same_class_move entry.mv move))
    ≡ (b || has_declarers (take (i + 1) own) history move)
unfolding has_declarers
own_one_more b own i entry below is history move =
    or_apart b (has_declarers (take i own) history move)
    (same_class_history entry.history history && same_class_move entry.mv move)
    ∙ ap (λ (c : Bool). b || c) (sym (any_one_more (λ (other : DeclarerMove).
    same_class_history other.history history && same_class_move other.mv move) own i entry below is))

pub theirs_one_more : (b : Bool) (theirs : List DefenceMove) (i : ℕ) (entry : DefenceMove) → i < length theirs
    → entry ≡ get_or theirs i entry → (k : ℕ) (history : ClassHistory) (move : ClassMove)
    → ((b || are_theirs (take i theirs) k history move)
    || ((entry.layout == k) && (same_class_history entry.history history && same_class_move entry.mv move)))
    ≡ (b || are_theirs (take (i + 1) theirs) k history move)
theirs_one_more b theirs i entry below is k history move =
    or_apart b (are_theirs (take i theirs) k history move)
    ((entry.layout == k) && (same_class_history entry.history history && same_class_move entry.mv move))
    ∙ ap (λ (c : Bool). b || c) (sym (any_one_more (λ (other : DefenceMove). (other.layout == k)
    && (same_class_history other.history history && same_class_move other.mv move)) theirs i entry below is))

pub set_length : (marks : List Mark) (at : ℕ) (new : Mark) → length (slice_set marks at new) ≡ length marks
set_length [] at new = refl
set_length (mark ∷ marks) zero new = refl
set_length (mark ∷ marks) (suc at) new = ap suc (set_length marks at new)

-- ---- the node at a class history

child_found : (nodes : List Node) (move : ClassMove) → Contains (map move_of nodes) move → (child : Node)
    × Contains nodes child × (move_of child ≡ move) × (children_by nodes move ≡ children_of child)
unfolding children_by
child_found [] move found = absurd (Contains-nil move found)
child_found (node ∷ nodes) move found = elim (cases_Bool (same_class_move (move_of node) move)) [
  | inl same ↦ (
    node,
    Contains-first node nodes,
    same_move_is (move_of node) move same,
    ap (λ (b : Bool). if b then children_of node else children_by nodes move) same,
  )
  | inr other ↦ elim (Contains-cons_cases (move_of node) (map move_of nodes) move found) [
    | inl here ↦ absurd (false≢true (sym other
        ∙ subst (λ (m : ClassMove). same_class_move (move_of node) m ≡ true) here (same_move-itself (move_of node))))
    | inr there ↦
        let later = child_found nodes move there in (
          later.0,
          Contains-later node nodes later.0 later.1,
          later.2,
          ap (λ (b : Bool). if b then children_of node else children_by nodes move) other ∙ later.3,
        )
  ]
]

some_allows_at : (question : Question) (history : ClassHistory)
    → some_allows question history ≡ nat_lt 0 (length (allowing question history))
unfolding some_allows allowing
some_allows_at question history =
    let may : ClassLayout × ℕ → Bool = λ layout. allows question layout.0 history in
    any_kept may (layouts_of question)
    ∙ ap (λ (l : List (ClassLayout × ℕ)). nat_lt 0 (length (filter may l)))
    (sym (by_indices (layouts_of question) ([], 0)))
    ∙ ap (λ (l : List (ClassLayout × ℕ)). nat_lt 0 (length l))
    (filter_of_map may (layout_at question) (layout_indices (layouts_of question)))
    ∙ ap (nat_lt 0) (length-map (filter (λ index. may (layout_at question index))
    (layout_indices (layouts_of question)))
    (layout_at question))

cons_some : (move : ClassMove) (moves : List ClassMove) → move ∷ moves ≡ [] → ⊥
cons_some move moves none = cc

node_found : (question : Question) → IsValid question → (history path : ClassHistory) (node : Node)
    → IsTreeAt (MOST_MOVES - length history) question history node
    → ((start rest : ClassHistory) → history ++ path ≡ start ++ rest → (rest ≡ [] → ⊥)
    → class_decided (class_after question start) ≡ false)
    → 0 < length (allowing question (history ++ path)) → (found : Node)
    × (children_at node path ≡ children_of found)
    × IsTreeAt (MOST_MOVES - length (history ++ path)) question (history ++ path) found
node_found question valid history [] node tree past some = (
  node,
  refl,
  subst (λ (h : ClassHistory). IsTreeAt (MOST_MOVES - length h) question h node) (sym (append-nil history)) tree,
)
node_found question valid history (move ∷ path) node tree past some =
    let apart : (history ++ move ∷ []) ++ path ≡ history ++ move ∷ path = append_assoc history (move ∷ []) path in
    let going : class_decided (class_after question history) ≡ false =
    past history (move ∷ path) refl (cons_some move path) in
    let later : 0 < length (allowing question ((history ++ move ∷ []) ++ path)) =
    subst (λ (h : ClassHistory). 0 < length (allowing question h)) (sym apart) some in
    let on = Contains-moves_on question history move going
    (allowing_start question (history ++ move ∷ []) path later) in
    let child = child_found (children_of node) move
    (Contains-same move (sym (moves_below question valid history node tree)) on) in
    let below = (child_below question valid history node tree child.0 child.1).1 in
    let there = node_found question valid (history ++ move ∷ []) path child.0
    (subst (λ (m : ClassMove). IsTreeAt (MOST_MOVES - length (history ++ m ∷ [])) question (history ++ m ∷ [])
    child.0) child.2
    below)
    (λ start rest is some_rest. past start rest (sym apart ∙ is) some_rest) later in (
      there.0,
      ap (λ (nodes : List Node). fold children_by nodes path) child.3 ∙ there.1,
      subst (λ (h : ClassHistory). IsTreeAt (MOST_MOVES - length h) question h there.0) apart there.2,
    )

true_first : (b c : Bool) → b ≡ true → (b && c) ≡ c
true_first true c is = refl
true_first false c is = absurd (false≢true is)

module _ (question : Question) (valid : IsValid question) (tree : Tree) (grown : IsTreeOf question tree)
    (support : MarkedSupport) where
  abbrev seen : Support
  seen = support_seen question support

  -- a move of declarer's is in a support where it is named there or is the first one
  pub own_told : (entry : DeclarerMove) → IsOwnMove question entry → has_own support tree entry
      ≡ is_among (supported_moves question seen [] entry.history) entry.mv
  unfolding supported_moves
  own_told entry is =
      let history : ClassHistory = entry.history in
      let view : ClassView = class_after question history in
      let going = (own_turn view is.turn).0 in
      let legal : List ClassMove = legal_moves question [] history in
      let some : 0 < length (allowing question history) =
      ltb-true 0 (length (allowing question history)) (sym (some_allows_at question history) ∙ is.allowed) in
      let index : ℕ = get_or (allowing question history) 0 0 in
      let held = Contains-get_or (allowing question history) 0 0 some in
      let at = node_found question valid [] history tree.root grown.nodes is.past some in
      let moves : map move_of (children_at tree.root history) ≡ legal =
      ap (map move_of) at.1 ∙ own_below question valid history at.0 at.2 index held going is.turn
      ∙ declarers_moves view (counts_at question index) [] is.turn
      ∙ sym (legal_going question seen [] history [] going) in
      let named : names question seen [] history entry.mv
      ≡ (support.all || named_on (Some support.declarers) history entry.mv) =
      ap (λ (b : Bool). if b then seen.declarers history entry.mv else seen.defences [] history entry.mv) is.turn
      ∙ own_seen_is question support history entry.mv in
      ap (λ (b : Bool). b || is_first (map move_of (children_at tree.root history)) entry.mv) (sym named)
      ∙ ap (λ (l : List ClassMove). names question seen [] history entry.mv || is_first l entry.mv) moves
      ∙ sym (true_first (is_among legal entry.mv) (names question seen [] history entry.mv || is_first legal entry.mv)
      (among_contained legal entry.mv is.legal))
      ∙ sym (among_kept (names question seen [] history) legal entry.mv)

  index_held : (index : ℕ) (history : ClassHistory) → index < length (layouts_of question)
      → allows question (counts_at question index) history ≡ true → Contains (allowing question history) index
  unfolding allowing
  index_held index history below allowed =
      Contains-filter (λ other. allows question (counts_at question other) history)
      (layout_indices (layouts_of question)) index
      (Contains-range 0 (length (layouts_of question)) index (omega arith) (omega (arith, below))) allowed

  -- so is one of the defence's in a class layout
  pub theirs_told : (entry : DefenceMove) → IsTheirMove question entry → has_theirs support tree entry
      ≡ is_among (supported_moves question seen (counts_at question entry.layout) entry.history) entry.mv
  unfolding supported_moves
  theirs_told entry is =
      let history : ClassHistory = entry.history in
      let west : ClassLayout = counts_at question entry.layout in
      let view : ClassView = class_after question history in
      let turn = their_turn view is.turn in
      let legal : List ClassMove = legal_moves question west history in
      let held = index_held entry.layout history is.listed is.allowed in
      let some : 0 < length (allowing question history) = omega (arith, held.1) in
      let at = node_found question valid [] history tree.root grown.nodes is.past some in
      let nodes : List Node = filter (holds_index entry.layout) (children_at tree.root history) in
      let moves : map move_of nodes ≡ legal =
      ap (λ (l : List Node). map move_of (filter (holds_index entry.layout) l)) at.1
      ∙ held_below question valid history at.0 at.2 entry.layout held turn.0
      ∙ sym (legal_going question seen west history west turn.0) in
      let named : names question seen west history entry.mv
      ≡ (support.all || named_on (defence_mark support entry.layout) history entry.mv) =
      ap (λ (b : Bool). if b then seen.declarers history entry.mv else seen.defences west history entry.mv) turn.1
      ∙ defence_seen_is question support entry.layout is.listed history entry.mv in
      ap (λ (b : Bool). b || is_first (map move_of nodes) entry.mv) (sym named)
      ∙ ap (λ (l : List ClassMove). names question seen west history entry.mv || is_first l entry.mv) moves
      ∙ sym (true_first (is_among legal entry.mv) (names question seen west history entry.mv
      || is_first legal entry.mv) (among_contained legal entry.mv is.legal))
      ∙ sym (among_kept (names question seen west history) legal entry.mv)

  -- which of some moves are new
  pub lacks_is : (own : List DeclarerMove) (theirs : List DefenceMove) → All (IsOwnMove question) own
      → All (IsTheirMove question) theirs
      → (list_any (λ entry. not (has_own support tree entry)) own
      || list_any (λ entry. not (has_theirs support tree entry)) theirs) ≡ are_new question seen own theirs
  unfolding are_new
  lacks_is own theirs own_legal their_legal =
      ap (λ (b : Bool). b || list_any (λ entry. not (has_theirs support tree entry)) theirs)
      (any_same (λ entry. not (has_own support tree entry))
      (λ (entry : DeclarerMove). not (is_among (supported_moves question seen [] entry.history) entry.mv)) own
      (λ entry found. ap not (own_told entry (All-contains (IsOwnMove question) own entry own_legal found))))
      ∙ ap (λ (b : Bool). list_any (λ (entry : DeclarerMove). not (is_among
      (supported_moves question seen [] entry.history) entry.mv)) own || b)
      (any_same (λ entry. not (has_theirs support tree entry))
      (λ (entry : DefenceMove). not (is_among
      (supported_moves question seen (counts_at question entry.layout) entry.history) entry.mv)) theirs
      (λ entry found. ap not (theirs_told entry (All-contains (IsTheirMove question) theirs entry their_legal found))))

-- ---- what a support with more moves names

-- what only one index has
any_point : (e : ℕ → Bool) (at : ℕ) (b : Bool) (indices : Indices) → Contains indices at
    → list_any (λ index. e index && ((at == index) && b)) indices ≡ (e at && b)
any_point e at b indices found = elim (cases_Bool (e at && b)) [
  | inl is ↦
      let parts = and_parts (e at) b is in
      passing_some (λ index. e index && ((at == index) && b)) indices at found
      (and_from (e at) ((at == at) && b) parts.0 (and_from (at == at) b (eq-eqb at at refl) parts.1))
      ∙ sym is
  | inr not_is ↦
      false_from_ne_true (list_any (λ index. e index && ((at == index) && b)) indices)
      (λ some.
      let index = some_passing (λ index. e index && ((at == index) && b)) indices some in
      let parts = and_parts (e index.0) ((at == index.0) && b) index.2 in
      let inner = and_parts (at == index.0) b parts.1 in
      let same : at ≡ index.0 = eqb-true at index.0 inner.0 in
      false≢true (sym not_is ∙ and_from (e at) b (ap e same ∙ parts.0) inner.1))
      ∙ sym not_is
]

module _ (question : Question) (west : ClassLayout) (history : ClassHistory) (move : ClassMove) where
  abbrev indices : Indices
  indices = layout_indices (layouts_of question)

  abbrev has_counts : ℕ → Bool
  has_counts index = bytes_eq (counts_at question index) west

  and_three : (a b c : Bool) → (a && (b && c)) ≡ (a && b && c)
  and_three true b c = refl
  and_three false b c = refl

  their_sum : (theirs : List DefenceMove) → ((entry : DefenceMove) → Contains theirs entry
      → entry.layout < length (layouts_of question))
      → list_any (λ index. has_counts index && are_theirs theirs index history move) indices
      ≡ has_defences question theirs west history move
  unfolding has_defences
  their_sum [] listed = any_none has_counts indices
  their_sum (entry ∷ theirs) listed =
      let same : Bool = same_class_history entry.history history && same_class_move entry.mv move in
      any_or has_counts (λ index. (entry.layout == index) && same) (λ index. are_theirs theirs index history move)
      indices
      ∙ ap (λ (b : Bool). b || list_any (λ index. has_counts index && are_theirs theirs index history move) indices)
      (any_point has_counts entry.layout same indices
      (Contains-range 0 (length (layouts_of question)) entry.layout (omega arith)
      (omega (arith, listed entry (Contains-first entry theirs))))
      ∙ and_three (has_counts entry.layout) (same_class_history entry.history history)
      (same_class_move entry.mv move))
      ∙ ap (λ (b : Bool). (has_counts entry.layout && same_class_history entry.history history
      && same_class_move entry.mv move) || b)
      (their_sum theirs (λ other found. listed other (Contains-later entry theirs other found)))

abbrev named_seen : Question → MarkedSupport → Support
named_seen question support =
    record { declarers = named_on (Some support.declarers); defences = defence_named question support }

named_seen_is : (question : Question) (support : MarkedSupport) → support.all ≡ false
    → support_seen question support ≡ named_seen question support
unfolding support_seen
named_seen_is question support all = ap (λ (b : Bool). if b then whole_support else named_seen question support) all

module _ (question : Question) (support next : MarkedSupport) (own : List DeclarerMove) (theirs : List DefenceMove)
    (all : next.all ≡ support.all)
    (own_names : (history : ClassHistory) (move : ClassMove) → named_on (Some next.declarers) history move
    ≡ (named_on (Some support.declarers) history move || has_declarers own history move))
    (their_names : (index : ℕ) (history : ClassHistory) (move : ClassMove) → index < length (layouts_of question)
    → named_on (defence_mark next index) history move
    ≡ (named_on (defence_mark support index) history move || are_theirs theirs index history move))
    (listed : (entry : DefenceMove) → Contains theirs entry → entry.layout < length (layouts_of question)) where
  defence_more : (west : ClassLayout) (history : ClassHistory) (move : ClassMove)
      → defence_named question next west history move
      ≡ (defence_named question support west history move || has_defences question theirs west history move)
  unfolding defence_named
  defence_more west history move =
      let counts : ℕ → Bool = λ index. bytes_eq (counts_at question index) west in
      let indices_of : Indices = layout_indices (layouts_of question) in
      any_same (λ index. counts index && named_on (defence_mark next index) history move)
      (λ index. counts index && (named_on (defence_mark support index) history move
      || are_theirs theirs index history move)) indices_of
      (λ index found. ap (λ (b : Bool). counts index && b) (their_names index history move
      (in_range_below (length (layouts_of question)) index found)))
      ∙ any_or counts (λ index. named_on (defence_mark support index) history move)
      (λ index. are_theirs theirs index history move) indices_of
      ∙ ap (λ (b : Bool). list_any (λ index. counts index && named_on (defence_mark support index) history move)
      indices_of || b) (their_sum question west history move theirs listed)

  whole_more : whole_support ≡ with_moves question whole_support own theirs
  unfolding with_moves
  whole_more = same_support whole_support (with_moves question whole_support own theirs) (λ history move. refl)
      (λ west history move. refl)

  named_more_is : named_seen question next ≡ with_moves question (named_seen question support) own theirs
  unfolding with_moves
  named_more_is = same_support (named_seen question next) (with_moves question (named_seen question support) own theirs)
      own_names defence_more

  -- it is the support with these moves
  pub with_seen : support_seen question next ≡ with_moves question (support_seen question support) own theirs
  with_seen = elim (cases_Bool support.all) [
    | inl whole ↦
        whole_seen question next (all ∙ whole) ∙ whole_more
        ∙ ap (λ (s : Support). with_moves question s own theirs) (sym (whole_seen question support whole))
    | inr some ↦
        named_seen_is question next (all ∙ some) ∙ named_more_is
        ∙ ap (λ (s : Support). with_moves question s own theirs) (sym (named_seen_is question support some))
  ]
