-- The moves by which the tree goes on from a class history.
use Rattle.std.proofs.Common.{◌≡◌, ℕ, ◌<◌, Bool, true, false, cond, List, [], ◌∷◌, ◌++◌, length, map, refl, sym, ap}
use Rattle.std.proofs.Common.{◌∙◌, subst, arith}
use Rattle.std.specs.Prelude.{Contains, filter, nat_lt, slice_index, if◌then◌else◌}
use Rattle.std.specs.List.{AllByRecursion, range_with_len}
use Rattle.std.proofs.lemmas.Bool.{and_from, and_parts, ltb-true, lt-ltb}
use Rattle.std.proofs.lemmas.List.Elements.{All-contains, Contains-append_left, Contains-append_right, filter_passes}
use Rattle.suit_lists.proofs.Elements.{Contains-first, Contains-nil, each_append, each_at, each_gives, each_in, each_of}
use Rattle.suit_lists.proofs.Elements.{each_unless}
use Rattle.suit_lists.proofs.Filters.{Contains-filter, each_filter}
use Rattle.suit_lists.proofs.Maps.{Contains-map, each_map}
use Rattle.suit_lists.proofs.Once.{IsOnce, once_append, once_filter, once_map, once_range, once_unless}
use Rattle.suit_cards.specs.declared.seats.Seat.TheVariants.{N, S}
use Rattle.suit_game.specs.declared.question.Question.{Question}
use Rattle.suit_classes.specs.declared.class_moves.ClassMove.{ClassMove}
use Rattle.suit_classes.specs.declared.class_moves.ClassMove.TheVariants.{Lead, Follow, ShowOut}
use Rattle.suit_classes.specs.MoveOrder.{class_named, kind_of}
use Rattle.suit_classes.specs.declared.class_trick.ClassTrick.TheVariants.{Closed, Open}
use Rattle.suit_classes.specs.declared.class_view.ClassView.{ClassView}
use Rattle.suit_classes.specs.declared.classes.TheConstants.{MOST_CLASSES}
use Rattle.suit_classes.specs.declared.class_trick.ClassTrick.{ClassTrick}
use Rattle.suit_classes.specs.ClassPlaces.{class_after, class_decided, class_moves, class_moves_in, class_numbers}
use Rattle.suit_classes.specs.ClassPlaces.{class_start, class_step, classes_left, counted_classes, left, may_lead}
use Rattle.suit_classes.specs.ClassPlaces.{or_show_out}
use Rattle.suit_classes.specs.WhatIsAllowed.{allows, allows_from, is_among, every_move}
use Rattle.suit_tree.specs.Trees.{allowing, counts_at, layout_indices, moves_on}
use Rattle.suit_classes.proofs.ClassNumbers.{kept_some}
use Rattle.suit_classes.proofs.SameMoves.{among-Contains}
use Rattle.suit_classes.proofs.AllowsOneMoveMore.{allows-push}
use Rattle.suit_classes.specs.Classes.{sizes_of}
use Rattle.suit_layouts.specs.ClassLayouts.{class_layouts}
use Rattle.suit_classes.specs.ClassMoves.{ClassHistory}

abbrev leads_n : List ClassMove
leads_n = map (Lead N) class_numbers

abbrev leads_s : List ClassMove
leads_s = map (Lead S) class_numbers

abbrev follows : List ClassMove
follows = map Follow class_numbers

Contains-lead_n : (class : ℕ) → Contains class_numbers class → Contains every_move (Lead N class)
unfolding every_move
Contains-lead_n class found =
    Contains-append_left (leads_n ++ leads_s ++ follows) (ShowOut ∷ []) (Lead N class)
    (Contains-append_left (leads_n ++ leads_s) follows (Lead N class)
    (Contains-append_left leads_n leads_s (Lead N class) (Contains-map (Lead N) class_numbers class found)))

Contains-lead_s : (class : ℕ) → Contains class_numbers class → Contains every_move (Lead S class)
unfolding every_move
Contains-lead_s class found =
    Contains-append_left (leads_n ++ leads_s ++ follows) (ShowOut ∷ []) (Lead S class)
    (Contains-append_left (leads_n ++ leads_s) follows (Lead S class)
    (Contains-append_right leads_n leads_s (Lead S class) (Contains-map (Lead S) class_numbers class found)))

Contains-follow : (class : ℕ) → Contains class_numbers class → Contains every_move (Follow class)
unfolding every_move
Contains-follow class found =
    Contains-append_left (leads_n ++ leads_s ++ follows) (ShowOut ∷ []) (Follow class)
    (Contains-append_right (leads_n ++ leads_s) follows (Follow class) (Contains-map Follow class_numbers class found))

Contains-show_out : Contains every_move ShowOut
unfolding every_move
Contains-show_out = Contains-append_right (leads_n ++ leads_s ++ follows) (ShowOut
    ∷ []) ShowOut (Contains-first ShowOut [])

each_named : (move : ℕ → ClassMove) (test : ℕ → Bool)
    → ((class : ℕ) → Contains class_numbers class → Contains every_move (move class))
    → AllByRecursion (Contains every_move) (map move (filter test class_numbers))
each_named move test all =
    each_map (Contains every_move) move (filter test class_numbers)
    (each_filter (λ class. Contains every_move (move class)) test class_numbers
    (each_in (λ class. Contains every_move (move class)) class_numbers all))

each_or_show_out : (moves : List ClassMove) → AllByRecursion (Contains every_move) moves
    → AllByRecursion (Contains every_move) (or_show_out moves)
each_or_show_out [] each = (Contains-show_out, tt)
each_or_show_out (move ∷ moves) each = each

each_move_in : (view : ClassView) (counts : List ℕ) (trick : ClassTrick)
    → AllByRecursion (Contains every_move) (class_moves_in view counts trick)
each_move_in view counts Closed =
    let north : List ClassMove = map (Lead N) (counted_classes view.north) in
    let south : List ClassMove = map (Lead S) (counted_classes view.south) in
    each_append (Contains every_move) (if may_lead view.lead view.entries_n N then north
    else []) (if may_lead view.lead view.entries_s S then south else [])
    (each_unless (Contains every_move) (may_lead view.lead view.entries_n N) north
    (each_named (Lead N) (λ class. nat_lt 0 (slice_index view.north class)) Contains-lead_n))
    (each_unless (Contains every_move) (may_lead view.lead view.entries_s S) south
    (each_named (Lead S) (λ class. nat_lt 0 (slice_index view.south class)) Contains-lead_s))
each_move_in view counts (Open turn after winner highest) =
    each_or_show_out (map Follow (classes_left view counts turn))
    (each_named Follow (λ class. nat_lt 0 (left view counts turn class)) Contains-follow)

-- a class move of a position is one of all moves
pub Contains-every_move : (view : ClassView) (counts : List ℕ) (move : ClassMove)
    → Contains (class_moves view counts) move → Contains every_move move
Contains-every_move view counts move found =
    each_at (Contains every_move) (class_moves view counts) move (each_move_in view counts view.trick) found

kinds_apart : (kind : ℕ) (moves later : List ClassMove) → AllByRecursion (λ move. kind_of move < kind) moves
    → AllByRecursion (λ move. kind_of move ≡ kind) later
    → AllByRecursion (λ move. AllByRecursion (λ other. move ≡ other → ⊥) later) moves
kinds_apart kind moves later below at =
    each_gives (λ move. kind_of move < kind) (λ move. AllByRecursion (λ other. move ≡ other → ⊥) later) moves
    (λ move low. each_gives (λ other. kind_of other ≡ kind) (λ other. move ≡ other → ⊥) later
    (λ other is same. let kinds : kind_of move ≡ kind_of other = ap kind_of same in
    omega (arith, kinds, is, low)) at) below

each_kind : (P : ℕ → Type 0) (move : ℕ → ClassMove) → ((class : ℕ) → P (kind_of (move class)))
    → AllByRecursion (λ other. P (kind_of other)) (map move class_numbers)
each_kind P move all = each_map (λ other. P (kind_of other)) move class_numbers
    (each_of (λ class. P (kind_of (move class))) class_numbers all)

once_named : (move : ℕ → ClassMove) → ((class number : ℕ) → move class ≡ move number → class ≡ number)
    → IsOnce (map move class_numbers)
unfolding class_numbers
once_named move tells = once_map move (range_with_len 0 MOST_CLASSES) tells (once_range 0 MOST_CLASSES)

-- no move comes twice among all moves
pub once_every_move : IsOnce every_move
unfolding every_move IsOnce
once_every_move =
    let Below : ℕ → ClassMove → Type 0 = λ kind move. kind_of move < kind in
    once_append (leads_n ++ leads_s ++ follows) (ShowOut ∷ [])
    (once_append (leads_n ++ leads_s) follows
    (once_append leads_n leads_s
    (once_named (Lead N) (λ class number same. ap class_named same))
    (once_named (Lead S) (λ class number same. ap class_named same))
    (kinds_apart 2 leads_n leads_s (each_kind (λ kind. kind < 2) (Lead N) (λ class. omega arith))
    (each_kind (λ kind. kind ≡ 2) (Lead S) (λ class. refl))))
    (once_named Follow (λ class number same. ap class_named same))
    (kinds_apart 4 (leads_n ++ leads_s) follows
    (each_append (Below 4) leads_n leads_s (each_kind (λ kind. kind < 4) (Lead N) (λ class. omega arith))
    (each_kind (λ kind. kind < 4) (Lead S) (λ class. omega arith)))
    (each_kind (λ kind. kind ≡ 4) Follow (λ class. refl))))
    (tt, tt)
    (kinds_apart 5 (leads_n ++ leads_s ++ follows) (ShowOut ∷ [])
    (each_append (Below 5) (leads_n ++ leads_s) follows
    (each_append (Below 5) leads_n leads_s (each_kind (λ kind. kind < 5) (Lead N) (λ class. omega arith))
    (each_kind (λ kind. kind < 5) (Lead S) (λ class. omega arith)))
    (each_kind (λ kind. kind < 5) Follow (λ class. omega arith)))
    (refl, tt))

-- nor among those by which a history goes on
pub once_moves_on : (question : Question) (history : ClassHistory) → IsOnce (moves_on question history)
unfolding moves_on
once_moves_on question history =
    let test : ClassMove → Bool = λ move. nat_lt 0 (length (allowing question (history ++ move ∷ []))) in
    once_unless (class_decided (class_after question history)) (filter test every_move)
    (once_filter test every_move once_every_move)

some_here : (b : Bool) (x : ℕ) (xs : List ℕ) → b ≡ true → 0 < length (cond b (x ∷ xs) xs)
some_here b x xs is = rw is (omega arith)

passing_case : (p : ℕ → Bool) (x : ℕ) (kept : List ℕ) (b : Bool) → p x ≡ b → 0 < length (cond b (x ∷ kept) kept)
    → (0 < length kept → (y : ℕ) × (p y ≡ true)) → (y : ℕ) × (p y ≡ true)
passing_case p x kept true is some later = (x, is)
passing_case p x kept false is some later = later some

-- where a test keeps something, something passes it
some_passes : (p : ℕ → Bool) (xs : List ℕ) → 0 < length (filter p xs) → (x : ℕ) × (p x ≡ true)
some_passes p [] some = absurd (omega arith)
some_passes p (x ∷ xs) some = passing_case p x (filter p xs) (p x) refl some (some_passes p xs)

some_case : (p q : ℕ → Bool) (x : ℕ) (kept others : List ℕ) (b : Bool) → p x ≡ b → (p x ≡ true → q x ≡ true)
    → 0 < length (cond b (x ∷ kept) kept)
    → (0 < length kept → 0 < length others) → 0 < length (cond (q x) (x ∷ others) others)
some_case p q x kept others true is gives some later = some_here (q x) x others (gives is)
some_case p q x kept others false is gives some later = kept_some (q x) x others (later some)

-- a weaker test keeps something too
some_kept : (p q : ℕ → Bool) (xs : List ℕ) → ((x : ℕ) → p x ≡ true → q x ≡ true) → 0 < length (filter p xs)
    → 0 < length (filter q xs)
some_kept p q [] gives some = some
some_kept p q (x ∷ xs) gives some =
    some_case p q x (filter p xs) (filter q xs) (p x) refl (gives x) some (some_kept p q xs gives)

allows_start : (counts : List ℕ) (view : ClassView) (start later : List ClassMove)
    → allows_from counts view (start ++ later) ≡ true → allows_from counts view start ≡ true
unfolding allows_from
allows_start counts view [] later allowed = refl
allows_start counts view (move ∷ start) later allowed =
    let next : ClassView = class_step view move in
    let parts = and_parts (is_among (class_moves view counts) move) (allows_from counts next (start ++ later))
    allowed in
    and_from (is_among (class_moves view counts) move) (allows_from counts next start) parts.0
    (allows_start counts next start later parts.1)

-- where some class layout allows a history, some allows each beginning of it
pub allowing_start : (question : Question) (start later : List ClassMove)
    → 0 < length (allowing question (start ++ later)) → 0 < length (allowing question start)
unfolding allowing allows
allowing_start question start later some =
    let layouts : List (List ℕ × ℕ) = class_layouts question (sizes_of question) in
    some_kept (λ index. allows question (counts_at layouts index) (start ++ later))
    (λ index. allows question (counts_at layouts index) start) (layout_indices layouts)
    (λ index allowed. allows_start (counts_at layouts index) (class_start question) start later allowed) some

-- and its last move is one of all moves
pub allowing_move : (question : Question) (history : ClassHistory) (move : ClassMove)
    → 0 < length (allowing question (history ++ move ∷ [])) → Contains every_move move
unfolding allowing
allowing_move question history move some =
    let layouts : List (List ℕ × ℕ) = class_layouts question (sizes_of question) in
    let view : ClassView = class_after question history in
    let index = some_passes (λ index. allows question (counts_at layouts index) (history ++ move ∷ []))
    (layout_indices layouts) some in
    let counts : List ℕ = counts_at layouts index.0 in
    let parts = and_parts (allows question counts history) (is_among (class_moves view counts) move)
    (sym (allows-push question counts history move) ∙ index.1) in
    Contains-every_move view counts move (among-Contains (class_moves view counts) move parts.1)

-- a move by which some class layout allows an undecided history to go on is one of those
pub Contains-moves_on : (question : Question) (history : ClassHistory) (move : ClassMove)
    → class_decided (class_after question history) ≡ false
    → 0 < length (allowing question (history ++ move ∷ [])) → Contains (moves_on question history) move
unfolding moves_on
Contains-moves_on question history move undecided some =
    let test : ClassMove → Bool = λ other. nat_lt 0 (length (allowing question (history ++ other ∷ []))) in
    subst (λ (b : Bool). Contains (if b then [] else filter test every_move) move) (sym undecided)
    (Contains-filter test every_move move (allowing_move question history move some)
    (lt-ltb 0 (length (allowing question (history ++ move ∷ []))) some))

-- where a position has a move it is not decided, and the move is one of those that it has then
pub unless_parts : (b : Bool) (moves : List ClassMove) (move : ClassMove) → Contains (if b then [] else moves) move
    → (b ≡ false) × Contains moves move
unless_parts true moves move found = absurd (Contains-nil move found)
unless_parts false moves move found = (refl, found)

-- and no other is
pub moves_on-parts : (question : Question) (history : ClassHistory) (move : ClassMove)
    → Contains (moves_on question history) move
    → (class_decided (class_after question history) ≡ false) × (0 < length (allowing question (history ++ move ∷ [])))
unfolding moves_on
moves_on-parts question history move found =
    let test : ClassMove → Bool = λ other. nat_lt 0 (length (allowing question (history ++ other ∷ []))) in
    let parts = unless_parts (class_decided (class_after question history)) (filter test every_move) move found in
    let passes : test move ≡ true =
    All-contains (λ (other : ClassMove). test other
    ≡ true) (filter test every_move) move (filter_passes test every_move) parts.1 in
    (parts.0, ltb-true 0 (length (allowing question (history ++ move ∷ []))) passes)
