-- The class moves of a position come once each: once_class_moves.
use Rattle.std.proofs.Common.{◌≡◌, ◌∙◌, ℕ, zero, suc, ◌+◌, ◌<◌, Bool, true, false, not, List, [], ◌∷◌, map}
use Rattle.std.proofs.Common.{ap, sym, arith}
use Rattle.std.specs.Prelude.{filter, nat_lt, slice_index, if◌then◌else◌}
use Rattle.std.specs.List.{AllByRecursion, range_with_len}
use Rattle.std.proofs.lemmas.List.Elements.{filter_passes, recursion_from_All}
use Rattle.std.proofs.lemmas.Bool.{true≢false}
use Rattle.suit_lists.proofs.Elements.{each_gives, each_of, each_unless}
use Rattle.suit_lists.proofs.Maps.{each_map}
use Rattle.suit_lists.proofs.Once.{IsOnce, once_append, once_filter, once_if, once_map, once_range}
use Rattle.suit_cards.specs.Cards.{ClassLayout}
use Rattle.suit_cards.specs.declared.seats.Seat.TheVariants.{N, S}
use Rattle.suit_classes.specs.declared.class_moves.ClassMove.{ClassMove}
use Rattle.suit_classes.specs.declared.class_moves.ClassMove.TheVariants.{Lead, Follow}
use Rattle.suit_classes.specs.ClassGame.{each_once}
use Rattle.suit_classes.specs.ClassMoves.{same_class_move}
use Rattle.suit_classes.specs.MoveOrder.{class_named, kind_of}
use Rattle.suit_classes.specs.declared.class_trick.ClassTrick.TheVariants.{Closed, Open}
use Rattle.suit_classes.specs.ClassPlaces.{ClassTrick, ClassView, class_leads, class_moves, class_moves_in}
use Rattle.suit_classes.specs.ClassPlaces.{class_numbers, classes_left, counted_classes, left, may_lead, or_show_out}
use Rattle.suit_classes.proofs.SameMoves.{same_move-itself}
use Rattle.suit_classes.specs.declared.classes.TheConstants.{MOST_CLASSES}

range_above : (low from count : ℕ) → low < from → AllByRecursion (λ n. low ≡ n → ⊥) (range_with_len from count)
range_above low from zero above = tt
range_above low from (suc count) above = (λ same. omega (arith, same), range_above low (from + 1) count (omega arith))

once_numbers : (test : ℕ → Bool) → IsOnce (filter test class_numbers)
unfolding class_numbers
once_numbers test = once_filter test (range_with_len 0 MOST_CLASSES) (once_range 0 MOST_CLASSES)

once_or_show_out : (moves : List ClassMove) → IsOnce moves → IsOnce (or_show_out moves)
unfolding IsOnce
once_or_show_out [] once = (tt, tt)
once_or_show_out (move ∷ moves) once = once

lead_kinds : (class number : ℕ) → Lead N class ≡ Lead S number → ⊥
lead_kinds class number same = let kinds : 0 ≡ 2 = ap kind_of same in omega (arith, kinds)

once_leads : (view : ClassView) → IsOnce (class_leads view)
once_leads view =
    let north : List ClassMove = map (Lead N) (counted_classes view.north) in
    let south : List ClassMove = map (Lead S) (counted_classes view.south) in
    once_append (if may_lead view.lead view.entries_n N then north else [])
    (if may_lead view.lead view.entries_s S then south else [])
    (once_if (may_lead view.lead view.entries_n N) north
    (once_map (Lead N) (counted_classes view.north) (λ class number same. ap class_named same)
    (once_numbers (λ class. nat_lt 0 (slice_index view.north class)))))
    (once_if (may_lead view.lead view.entries_s S) south
    (once_map (Lead S) (counted_classes view.south) (λ class number same. ap class_named same)
    (once_numbers (λ class. nat_lt 0 (slice_index view.south class)))))
    (each_unless (λ move. AllByRecursion (λ other. move ≡ other → ⊥) (if may_lead view.lead view.entries_s S then south
    else [])) (may_lead view.lead view.entries_n N) north
    (each_map (λ move. AllByRecursion (λ other. move ≡ other → ⊥) (if may_lead view.lead view.entries_s S then south
    else [])) (Lead N) (counted_classes view.north)
    (each_of (λ class. AllByRecursion (λ other. Lead N class ≡ other
    → ⊥) (if may_lead view.lead view.entries_s S then south else [])) (counted_classes view.north)
    (λ class. each_unless (λ other. Lead N class ≡ other → ⊥) (may_lead view.lead view.entries_s S) south
    (each_map (λ other. Lead N class ≡ other → ⊥) (Lead S) (counted_classes view.south)
    (each_of (λ number. Lead N class ≡ Lead S number → ⊥) (counted_classes view.south) (lead_kinds class)))))))

once_moves_in : (view : ClassView) (counts : ClassLayout) (trick : ClassTrick)
    → IsOnce (class_moves_in view counts trick)
once_moves_in view counts Closed = once_leads view
once_moves_in view counts (Open turn after winner highest) =
    once_or_show_out (map Follow (classes_left view counts turn))
    (once_map Follow (classes_left view counts turn) (λ class number same. ap class_named same)
    (once_numbers (λ class. nat_lt 0 (left view counts turn class))))

-- no class move comes twice at a position
pub once_class_moves : (view : ClassView) (counts : ClassLayout) → IsOnce (class_moves view counts)
once_class_moves view counts = once_moves_in view counts view.trick

apart_from : (move : ClassMove) (moves : List ClassMove)
    → AllByRecursion (λ other. not (same_class_move move other) ≡ true) moves
    → AllByRecursion (λ other. move ≡ other → ⊥) moves
apart_from move moves =
    each_gives (λ other. not (same_class_move move other) ≡ true) (λ other. move ≡ other → ⊥) moves
    (λ other differs same. true≢false (sym (sym (ap not (ap (same_class_move move) (sym same) ∙ same_move-itself move))
    ∙ differs)))

-- a list without repeats has no move twice
pub once_each_once : (moves : List ClassMove) → IsOnce (each_once moves)
unfolding each_once IsOnce
once_each_once [] = tt
once_each_once (move ∷ moves) = (
  apart_from move (filter (λ other. not (same_class_move move other)) (each_once moves))
      (recursion_from_All (λ other. not (same_class_move move other)
      ≡ true) (filter (λ other. not (same_class_move move other)) (each_once moves))
      (filter_passes (λ other. not (same_class_move move other)) (each_once moves))),
  once_filter (λ other. not (same_class_move move other)) (each_once moves) (once_each_once moves),
)
