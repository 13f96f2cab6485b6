-- The class moves at a position are all class moves that are among them, in their order (`class_moves_listed`).
use Rattle.std.proofs.Common.{◌≡◌, ℕ, Bool, true, false, cond, nat_lt, List, [], ◌∷◌, ◌++◌, refl, sym, ap, ◌∙◌, inl}
use Rattle.std.proofs.Common.{inr}
use Rattle.std.specs.Prelude.{◌&&◌, ◌||◌, Contains, map, filter, slice_index, if◌then◌else◌}
use Rattle.std.proofs.lemmas.Bool.{cases_Bool, false≢true}
use Rattle.std.proofs.lemmas.List.Elements.{filter-append}
use Rattle.std.proofs.lemmas.List.{append-nil}
use Rattle.suit_lists.proofs.Basics.{is_none}
use Rattle.suit_lists.proofs.Elements.{each_in}
use Rattle.suit_lists.proofs.Filters.{Contains-filter, filter_alike, filter_none, filter_of_map}
use Rattle.suit_cards.specs.declared.seats.Seat.{Seat}
use Rattle.suit_cards.specs.declared.seats.Seat.TheVariants.{N, E, S, W}
use Rattle.suit_classes.specs.declared.class_moves.ClassMove.{ClassMove}
use Rattle.suit_classes.specs.declared.class_moves.ClassMove.TheVariants.{Lead, Follow, ShowOut}
use Rattle.suit_classes.specs.ClassMoves.{same_class_move}
use Rattle.suit_classes.specs.declared.class_view.ClassView.{ClassView}
use Rattle.suit_classes.specs.declared.class_trick.ClassTrick.{ClassTrick}
use Rattle.suit_classes.specs.declared.class_trick.ClassTrick.TheVariants.{Closed, Open}
use Rattle.suit_classes.specs.ClassPlaces.{class_moves, class_moves_in, class_numbers, classes_left, counted_classes}
use Rattle.suit_classes.specs.ClassPlaces.{left, may_lead, or_show_out}
use Rattle.suit_classes.proofs.SameMoves.{among_contained, same_move_is}
use Rattle.suit_classes.specs.WhatIsAllowed.{is_among, every_move}

fails_first : (may : ClassMove → Bool) (first : ClassMove) (moves : List ClassMove) (move : ClassMove)
    → may move ≡ false → is_among (filter may moves) move ≡ false
    → (kept : Bool) → may first ≡ kept → is_among (cond kept (first ∷ filter may moves) (filter may moves)) move ≡ false
unfolding is_among
fails_first may first moves move fails later false is = later
fails_first may first moves move fails later true is = elim (cases_Bool (same_class_move move first)) [
  | inl same ↦ absurd (false≢true (sym fails ∙ ap may (same_move_is move first same) ∙ is))
  | inr other ↦ ap (λ (b : Bool). b || is_among (filter may moves) move) other ∙ later
]

-- a move that fails a test is not among what the test keeps
pub among_kept-fails : (may : ClassMove → Bool) (moves : List ClassMove) (move : ClassMove) → may move ≡ false
    → is_among (filter may moves) move ≡ false
unfolding is_among
among_kept-fails may [] move fails = refl
among_kept-fails may (first ∷ moves) move fails =
    fails_first may first moves move fails (among_kept-fails may moves move fails) (may first) refl

-- a move of a list is among what a test keeps exactly where it passes
pub among_kept : (may : ClassMove → Bool) (moves : List ClassMove) (move : ClassMove) → Contains moves move
    → is_among (filter may moves) move ≡ may move
among_kept may moves move found = elim (cases_Bool (may move)) [
  | inl passes ↦ among_contained (filter may moves) move (Contains-filter may moves move found passes) ∙ sym passes
  | inr fails ↦ among_kept-fails may moves move fails ∙ sym fails
]

-- what a test keeps of a list is also kept by asking what is among it
pub kept_by_among : (may : ClassMove → Bool) (moves : List ClassMove)
    → filter may moves ≡ filter (is_among (filter may moves)) moves
kept_by_among may moves =
    filter_alike may (is_among (filter may moves)) moves
    (each_in (λ move. may move ≡ is_among (filter may moves) move) moves
    (λ move found. sym (among_kept may moves move found)))

-- whether a move may be made at a trick
unfoldable pub may_make : ClassView → List ℕ → ClassTrick → ClassMove → Bool
may_make view counts Closed (Lead N class) = may_lead view.lead view.entries_n N
    && nat_lt 0 (slice_index view.north class)
may_make view counts Closed (Lead E class) = false
may_make view counts Closed (Lead S class) = may_lead view.lead view.entries_s S
    && nat_lt 0 (slice_index view.south class)
may_make view counts Closed (Lead W class) = false
may_make view counts Closed (Follow class) = false
may_make view counts Closed ShowOut = false
may_make view counts (Open turn after winner highest) (Lead seat class) = false
may_make view counts (Open turn after winner highest) (Follow class) = nat_lt 0 (left view counts turn class)
may_make view counts (Open turn after winner highest) ShowOut = is_none (classes_left view counts turn)

led_kept : (may : Bool) (seat : Seat) (counts classes : List ℕ)
    → map (Lead seat) (filter (λ class. may && nat_lt 0 (slice_index counts class)) classes)
    ≡ (if may then map (Lead seat) (filter (λ class. nat_lt 0 (slice_index counts class)) classes) else [])
led_kept true seat counts classes = refl
led_kept false seat counts classes = ap (map (Lead seat)) (filter_none classes)

shown_or_not : (classes : List ℕ)
    → or_show_out (map Follow classes) ≡ map Follow classes ++ cond (is_none classes) (ShowOut ∷ []) []
unfolding is_none
shown_or_not [] = refl
shown_or_not (class ∷ classes) =
    ap (λ (l : List ClassMove). Follow class ∷ l) (sym (append-nil (map Follow classes)))

pub filter_joined : (may : ClassMove → Bool) (north south follow shown : List ClassMove)
    → filter may (north ++ south ++ follow ++ shown) ≡ filter may north ++ filter may south ++ filter may follow
    ++ filter may shown
filter_joined may north south follow shown =
    filter-append may (north ++ south ++ follow) shown
    ∙ ap (λ (l : List ClassMove). l ++ filter may shown) (filter-append may (north ++ south) follow)
    ∙ ap (λ (l : List ClassMove). l ++ filter may follow ++ filter may shown) (filter-append may north south)

joined_alike : (north south follow north' south' follow' shown : List ClassMove) → north ≡ north' → south ≡ south'
    → follow ≡ follow'
    → north ++ south ++ follow ++ shown ≡ north' ++ south' ++ follow' ++ shown
joined_alike north south follow north' south' follow' shown same_n same_s same_f =
    ap (λ (l : List ClassMove). l ++ south ++ follow ++ shown) same_n
    ∙ ap (λ (l : List ClassMove). north' ++ l ++ follow ++ shown) same_s
    ∙ ap (λ (l : List ClassMove). north' ++ south' ++ l ++ shown) same_f

-- a filter of all class moves, by kind
kinds_kept : (may : ClassMove → Bool)
    → filter may every_move
    ≡ map (Lead N) (filter (λ class. may (Lead N class)) class_numbers)
    ++ map (Lead S) (filter (λ class. may (Lead S class)) class_numbers)
    ++ map Follow (filter (λ class. may (Follow class)) class_numbers)
    ++ cond (may ShowOut) (ShowOut ∷ []) []
unfolding every_move
kinds_kept may =
    filter_joined may (map (Lead N) class_numbers) (map (Lead S) class_numbers) (map Follow class_numbers) (ShowOut
    ∷ [])
    ∙ joined_alike (filter may (map (Lead N) class_numbers)) (filter may (map (Lead S) class_numbers))
    (filter may (map Follow class_numbers))
    (map (Lead N) (filter (λ class. may (Lead N class)) class_numbers))
    (map (Lead S) (filter (λ class. may (Lead S class)) class_numbers))
    (map Follow (filter (λ class. may (Follow class)) class_numbers)) (filter may (ShowOut ∷ []))
    (filter_of_map may (Lead N) class_numbers) (filter_of_map may (Lead S) class_numbers)
    (filter_of_map may Follow class_numbers)

-- the class moves are those of all that may be made
pub moves_kept : (view : ClassView) (counts : List ℕ) (trick : ClassTrick)
    → class_moves_in view counts trick ≡ filter (may_make view counts trick) every_move
unfolding may_make
moves_kept view counts Closed =
    let may : ClassMove → Bool = may_make view counts Closed in
    let leads_n : List ClassMove = map (Lead N) (filter (λ class. may (Lead N class)) class_numbers) in
    let leads_s : List ClassMove = map (Lead S) (filter (λ class. may (Lead S class)) class_numbers) in
    let may_n : Bool = may_lead view.lead view.entries_n N in
    let may_s : Bool = may_lead view.lead view.entries_s S in
    sym
    (kinds_kept may
    ∙ ap (λ (l : List ℕ). leads_n ++ leads_s ++ map Follow l ++ []) (filter_none class_numbers)
    ∙ append-nil (leads_n ++ leads_s ++ [])
    ∙ append-nil (leads_n ++ leads_s)
    ∙ ap (λ (l : List ClassMove). l ++ leads_s) (led_kept may_n N view.north class_numbers)
    ∙ ap (λ (l : List ClassMove). (if may_n then map (Lead N) (counted_classes view.north) else [])
    ++ l) (led_kept may_s S view.south class_numbers))
moves_kept view counts (Open turn after winner highest) =
    let may : ClassMove → Bool = may_make view counts (Open turn after winner highest) in
    let follows : List ClassMove = map Follow (filter (λ class. may (Follow class)) class_numbers) in
    let shown : List ClassMove = cond (may ShowOut) (ShowOut ∷ []) [] in
    shown_or_not (classes_left view counts turn)
    ∙ sym
    (kinds_kept may
    ∙ ap (λ (l : List ℕ). map (Lead N) l ++ map (Lead S) (filter (λ class. may (Lead S class)) class_numbers) ++ follows
    ++ shown) (filter_none class_numbers)
    ∙ ap (λ (l : List ℕ). map (Lead S) l ++ follows ++ shown) (filter_none class_numbers))

-- the class moves at a position are all class moves that are among them, in their order
pub class_moves_listed : (view : ClassView) (counts : List ℕ)
    → class_moves view counts ≡ filter (is_among (class_moves view counts)) every_move
class_moves_listed view counts =
    let may : ClassMove → Bool = may_make view counts view.trick in
    let kept : class_moves view counts ≡ filter may every_move = moves_kept view counts view.trick in
    kept ∙ kept_by_among may every_move ∙ ap (λ (l : List ClassMove). filter (is_among l) every_move) (sym kept)
