-- Lists of class moves rise by the order of class moves: class_moves_rise and every_move_rises.
use Rattle.std.proofs.Common.{◌≡◌, ℕ, zero, suc, ◌+◌, ◌<◌, Bool, true, false, List, [], ◌∷◌, ◌++◌, map, refl}
use Rattle.std.proofs.Common.{arith}
use Rattle.std.specs.Prelude.{filter, nat_lt, slice_index, if◌then◌else◌}
use Rattle.std.specs.List.{AllByRecursion, range_with_len}
use Rattle.std.proofs.lemmas.Bool.{lt-ltb}
use Rattle.suit_lists.proofs.Chains.{Chained, chained_append, chained_filter, chained_map, chained_pairs}
use Rattle.suit_lists.proofs.Elements.{each_append, each_of}
use Rattle.suit_lists.proofs.Maps.{each_map}
use Rattle.suit_cards.specs.Cards.{ClassLayout, Indices}
use Rattle.suit_cards.specs.declared.seats.Seat.TheVariants.{N, S}
use Rattle.suit_classes.specs.declared.class_moves.ClassMove.{ClassMove}
use Rattle.suit_classes.specs.declared.class_moves.ClassMove.TheVariants.{Lead, Follow, ShowOut}
use Rattle.suit_classes.specs.WhatIsAllowed.{every_move}
use Rattle.suit_classes.specs.declared.class_trick.ClassTrick.TheVariants.{Closed, Open}
use Rattle.suit_classes.specs.ClassPlaces.{ClassTrick, ClassView, class_moves, class_moves_in, class_numbers}
use Rattle.suit_classes.specs.ClassPlaces.{classes_left, counted_classes, left, may_lead, or_show_out}
use Rattle.suit_classes.specs.MoveOrder.{AreRising, stands_before}
use Rattle.suit_classes.specs.declared.classes.TheConstants.{MOST_CLASSES}

-- one number is below another
abbrev IsBelow : ℕ → ℕ → Type 0
IsBelow low high = low < high

range_above : (low from count : ℕ) → low < from → AllByRecursion (IsBelow low) (range_with_len from count)
range_above low from zero above = tt
range_above low from (suc count) above = (above, range_above low (from + 1) count (omega arith))

chained_range : (from count : ℕ) → Chained IsBelow (range_with_len from count)
unfolding Chained
chained_range from zero = tt
chained_range from (suc count) = (range_above from (from + 1) count (omega arith), chained_range (from + 1) count)

numbers_rise : (test : ℕ → Bool) → Chained IsBelow (filter test class_numbers)
unfolding class_numbers
numbers_rise test = chained_filter IsBelow test (range_with_len 0 MOST_CLASSES) (chained_range 0 MOST_CLASSES)

all_numbers_rise : Chained IsBelow class_numbers
unfolding class_numbers
all_numbers_rise = chained_range 0 MOST_CLASSES

-- one move stands before another
abbrev IsBefore : ClassMove → ClassMove → Type 0
IsBefore here there = stands_before here there ≡ true

leads_rise : (north south : Indices) → Chained IsBelow north → Chained IsBelow south → (from_n from_s : Bool)
    → Chained IsBefore ((if from_n then map (Lead N) north else []) ++ (if from_s then map (Lead S) south else []))
unfolding Chained
leads_rise north south rise_n rise_s true true =
    chained_append IsBefore (map (Lead N) north) (map (Lead S) south)
    (chained_map IsBelow IsBefore (Lead N) north (λ low high below. lt-ltb low high below) rise_n)
    (chained_map IsBelow IsBefore (Lead S) south (λ low high below. lt-ltb low high below) rise_s)
    (each_map (λ move. AllByRecursion (IsBefore move) (map (Lead S) south)) (Lead N) north
    (each_of (λ class. AllByRecursion (IsBefore (Lead N class)) (map (Lead S) south)) north
    (λ class. each_map (IsBefore (Lead N class)) (Lead S) south
    (each_of (λ other. IsBefore (Lead N class) (Lead S other)) south (λ other. refl)))))
leads_rise north south rise_n rise_s true false =
    chained_append IsBefore (map (Lead N) north) []
    (chained_map IsBelow IsBefore (Lead N) north (λ low high below. lt-ltb low high below) rise_n) tt
    (each_of (λ move. AllByRecursion (IsBefore move) []) (map (Lead N) north) (λ move. tt))
leads_rise north south rise_n rise_s false true =
    chained_map IsBelow IsBefore (Lead S) south (λ low high below. lt-ltb low high below) rise_s
leads_rise north south rise_n rise_s false false = tt

follows_rise : (classes : Indices) → Chained IsBelow classes → Chained IsBefore (map Follow classes)
follows_rise classes rise =
    chained_map IsBelow IsBefore Follow classes (λ low high below. lt-ltb low high below) rise

shown_out_rise : (moves : List ClassMove) → Chained IsBefore moves → Chained IsBefore (or_show_out moves)
unfolding Chained
shown_out_rise [] rise = (tt, tt)
shown_out_rise (move ∷ moves) rise = rise

rise_in : (view : ClassView) (counts : ClassLayout) (trick : ClassTrick)
    → Chained IsBefore (class_moves_in view counts trick)
rise_in view counts Closed =
    leads_rise (counted_classes view.north) (counted_classes view.south)
    (numbers_rise (λ class. nat_lt 0 (slice_index view.north class)))
    (numbers_rise (λ class. nat_lt 0 (slice_index view.south class)))
    (may_lead view.lead view.entries_n N) (may_lead view.lead view.entries_s S)
rise_in view counts (Open turn after winner highest) =
    shown_out_rise (map Follow (classes_left view counts turn))
    (follows_rise (classes_left view counts turn) (numbers_rise (λ class. nat_lt 0 (left view counts turn class))))

-- the moves at a class place rise
pub class_moves_rise : (view : ClassView) (counts : ClassLayout) → AreRising (class_moves view counts)
class_moves_rise view counts = chained_pairs IsBefore (class_moves view counts) (rise_in view counts view.trick)

leads_before : (moves : List ClassMove) → ((class : ℕ) → AllByRecursion (IsBefore (Lead N class)) moves)
    → ((class : ℕ) → AllByRecursion (IsBefore (Lead S class)) moves)
    → AllByRecursion (λ move. AllByRecursion (IsBefore move) moves)
    (map (Lead N) class_numbers ++ map (Lead S) class_numbers)
leads_before moves from_n from_s =
    each_append (λ move. AllByRecursion (IsBefore move) moves) (map (Lead N) class_numbers) (map (Lead S) class_numbers)
    (each_map (λ move. AllByRecursion (IsBefore move) moves) (Lead N) class_numbers
    (each_of (λ class. AllByRecursion (IsBefore (Lead N class)) moves) class_numbers from_n))
    (each_map (λ move. AllByRecursion (IsBefore move) moves) (Lead S) class_numbers
    (each_of (λ class. AllByRecursion (IsBefore (Lead S class)) moves) class_numbers from_s))

-- all class moves rise
pub every_move_rises : AreRising every_move
unfolding every_move Chained
every_move_rises =
    let leads : List ClassMove = map (Lead N) class_numbers ++ map (Lead S) class_numbers in
    let follows : List ClassMove = map Follow class_numbers in
    let last : List ClassMove = ShowOut ∷ [] in
    let LastAfter : ClassMove → Type 0 = λ move. AllByRecursion (IsBefore move) last in
    chained_pairs IsBefore (leads ++ follows ++ last)
    (chained_append IsBefore (leads ++ follows) last
    (chained_append IsBefore leads follows
    (leads_rise class_numbers class_numbers all_numbers_rise all_numbers_rise true true)
    (follows_rise class_numbers all_numbers_rise)
    (leads_before follows
    (λ class. each_map (IsBefore (Lead N class)) Follow class_numbers
    (each_of (λ other. IsBefore (Lead N class) (Follow other)) class_numbers (λ other. refl)))
    (λ class. each_map (IsBefore (Lead S class)) Follow class_numbers
    (each_of (λ other. IsBefore (Lead S class) (Follow other)) class_numbers (λ other. refl)))))
    (tt, tt)
    (each_append LastAfter leads follows (leads_before last (λ class. (refl, tt)) (λ class. (refl, tt)))
    (each_map LastAfter Follow class_numbers
    (each_of (λ class. LastAfter (Follow class)) class_numbers (λ class. (refl, tt))))))
