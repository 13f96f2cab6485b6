-- The moves that class layouts allow are of the classes that there are (`history_writable`).
use Rattle.std.proofs.Common.{◌≡◌, ℕ, zero, suc, ◌<◌, ◌≤◌, Bool, true, false, List, [], ◌∷◌, length, get_or, map}
use Rattle.std.proofs.Common.{refl, sym, ap, ◌∙◌, subst, inl, inr, arith}
use Rattle.std.specs.Prelude.{◌-◌, Contains, filter, fold, nat_lt, if◌then◌else◌}
use Rattle.std.specs.List.{AllByRecursion}
use Rattle.std.proofs.Math.ListN.{set}
use Rattle.std.proofs.lemmas.Bool.{and_parts, cases_eq, cases_lt, ltb-true}
use Rattle.std.proofs.lemmas.List.{get_or-set_same, get_or-set_other, get_or_past, set_past}
use Rattle.suit_lists.proofs.Elements.{each_append, each_at, each_in, each_unless}
use Rattle.suit_lists.proofs.Filters.{kept_parts}
use Rattle.suit_lists.proofs.Maps.{each_map}
use Rattle.suit_cards.specs.Cards.{ClassLayout, Indices}
use Rattle.suit_cards.specs.declared.seats.Seat.{Seat}
use Rattle.suit_cards.specs.declared.seats.Seat.TheVariants.{N, E, S, W}
use Rattle.suit_game.specs.declared.question.Question.{Question}
use Rattle.suit_classes.specs.declared.classes.Owner.{Owner}
use Rattle.suit_classes.specs.declared.classes.Owner.TheVariants as owners
use Rattle.suit_classes.specs.declared.class_moves.ClassMove.{ClassMove}
use Rattle.suit_classes.specs.declared.class_moves.ClassMove.TheVariants.{Lead, Follow, ShowOut}
use Rattle.suit_classes.specs.declared.class_trick.ClassTrick.TheVariants.{Closed, Open}
use Rattle.suit_classes.specs.WhatIsAllowed.{allows, allows_from, is_among}
use Rattle.suit_classes.specs.Classes.{Hands, class_count, hands_of}
use Rattle.suit_classes.specs.ClassMoves.{ClassHistory}
use Rattle.suit_classes.specs.ClassPlaces.{ClassTrick, ClassView, class_after, class_ended, class_led, class_moves}
use Rattle.suit_classes.specs.ClassPlaces.{class_moves_in, class_numbers, class_passed, class_played, class_start}
use Rattle.suit_classes.specs.ClassPlaces.{class_step, class_step_in, classes_left, counted_classes, dealt_to}
use Rattle.suit_classes.specs.ClassPlaces.{left, may_lead, or_show_out, side, west_count}
use Rattle.suit_classes.proofs.CountedClassByClass.{class_size-none, dealt_to-at, length-dealt_to}
use Rattle.suit_classes.proofs.SameMoves.{among-Contains}
use Rattle.suit_classes.specs.declared.classes.TheConstants.{MOST_CLASSES}
use Rattle.suit_answer.specs.Writable.{IsWritableMove}

-- no card is counted in a class from a number on
abbrev pub AreNone : ℕ → ClassLayout → Type 0
AreNone classes counts = (class : ℕ) → classes ≤ class → get_or counts class 0 ≡ 0

-- no card of a position is
pub record IsWithin (classes : ℕ) (view : ClassView) : Type 0 where
  pub north : AreNone classes view.north
  pub south : AreNone classes view.south
  pub defence : AreNone classes view.defence

-- ---- positions

less_at : (classes : ℕ) (counts : ClassLayout) (class : ℕ) → AreNone classes counts
    → AreNone classes (set counts class (get_or counts class 0 - 1))
less_at classes counts class none k past = elim (cases_lt class (length counts)) [
  | inl within ↦ elim (cases_eq k class) [
    | inl here ↦
        let nothing : get_or counts class 0 ≡ 0 = subst (λ (n : ℕ). get_or counts n 0 ≡ 0) here (none k past) in
        subst (λ (n : ℕ). get_or (set counts class (get_or counts class 0 - 1)) n 0 ≡ 0) (sym here)
        (get_or-set_same counts class (get_or counts class 0 - 1) 0 within
        ∙ ap (λ (n : ℕ). n - 1) nothing ∙ omega arith)
    | inr other ↦ get_or-set_other counts class k (get_or counts class 0 - 1) 0 other ∙ none k past
  ]
  | inr beyond ↦
      ap (λ (l : List ℕ). get_or l k 0) (set_past counts class (get_or counts class 0 - 1) beyond) ∙ none k past
]

within_played : (classes : ℕ) (view : ClassView) (seat : Seat) (class : ℕ) → IsWithin classes view
    → IsWithin classes (class_played view seat class)
within_played classes view N class is =
    record { north = less_at classes view.north class is.north; south = is.south; defence = is.defence }
within_played classes view S class is =
    record { north = is.north; south = less_at classes view.south class is.south; defence = is.defence }
within_played classes view W class is = record { north = is.north; south = is.south; defence = is.defence }
within_played classes view E class is = record { north = is.north; south = is.south; defence = is.defence }

within_ended : (classes : ℕ) (view : ClassView) (winner : Owner) → IsWithin classes view
    → IsWithin classes (class_ended view winner)
within_ended classes view owners.N is = record { north = is.north; south = is.south; defence = is.defence }
within_ended classes view owners.S is = record { north = is.north; south = is.south; defence = is.defence }
within_ended classes view owners.Defence is = record { north = is.north; south = is.south; defence = is.defence }

within_passed : (classes : ℕ) (view : ClassView) (turn : Seat) (after : ℕ) (winner : Owner) (highest : ℕ)
    → IsWithin classes view → IsWithin classes (class_passed view turn after winner highest)
within_passed classes view turn zero winner highest is = within_ended classes view winner is
within_passed classes view turn (suc after) winner highest is =
    record { north = is.north; south = is.south; defence = is.defence }

within_led : (classes : ℕ) (view : ClassView) (seat : Seat) (class : ℕ) → IsWithin classes view
    → IsWithin classes (class_led view seat class)
within_led classes view N class is =
    record { north = less_at classes view.north class is.north; south = is.south; defence = is.defence }
within_led classes view S class is =
    record { north = is.north; south = less_at classes view.south class is.south; defence = is.defence }
within_led classes view E class is = is
within_led classes view W class is = is

within_either : (classes : ℕ) (view : ClassView) (turn : Seat) (after : ℕ) (winner : Owner) (highest class : ℕ)
    (beats : Bool) → IsWithin classes view
    → IsWithin classes (if beats then class_passed view turn after (side turn) class
    else class_passed view turn after winner highest)
within_either classes view turn after winner highest class true is =
    within_passed classes view turn after (side turn) class is
within_either classes view turn after winner highest class false is =
    within_passed classes view turn after winner highest is

within_in : (classes : ℕ) (view : ClassView) (trick : ClassTrick) (move : ClassMove) → IsWithin classes view
    → IsWithin classes (class_step_in view trick move)
within_in classes view Closed (Lead seat class) is = within_led classes view seat class is
within_in classes view Closed (Follow class) is = is
within_in classes view Closed ShowOut is = is
within_in classes view (Open turn after winner highest) (Lead seat class) is = is
within_in classes view (Open turn after winner highest) (Follow class) is =
    within_either classes (class_played view turn class) turn after winner highest class (nat_lt class highest)
    (within_played classes view turn class is)
within_in classes view (Open turn after winner highest) ShowOut is =
    within_passed classes view turn after winner highest is

within_from : (classes : ℕ) (view : ClassView) (history : ClassHistory) → IsWithin classes view
    → IsWithin classes (fold class_step view history)
within_from classes view [] is = is
within_from classes view (move ∷ history) is =
    within_from classes (class_step view move) history (within_in classes view view.trick move is)

held_none : (b : Bool) (size : ℕ) → size ≡ 0 → (if b then size else 0) ≡ 0
held_none true size none = none
held_none false size none = refl

dealt_none : (hands : Hands) (owner : Owner) → AreNone (class_count hands) (dealt_to hands owner)
dealt_none hands owner class past = elim (cases_lt class MOST_CLASSES) [
  | inl small ↦ dealt_to-at hands owner class small ∙ held_none _ _ (class_size-none hands class past)
  | inr beyond ↦ get_or_past (dealt_to hands owner) class 0 (omega (arith, beyond, length-dealt_to hands owner))
]

pub within_after : (question : Question) (history : ClassHistory)
    → IsWithin (class_count (hands_of question)) (class_after question history)
within_after question history =
    within_from (class_count (hands_of question)) (class_start question) history (record {
      north = dealt_none (hands_of question) owners.N;
      south = dealt_none (hands_of question) owners.S;
      defence = dealt_none (hands_of question) owners.Defence;
    })

-- ---- moves

counted_below : (classes : ℕ) (counts : ClassLayout) → AreNone classes counts → (class : ℕ)
    → nat_lt 0 (get_or counts class 0) ≡ true → class < classes
counted_below classes counts none class some = elim (cases_lt class classes) [
  | inl below ↦ below
  | inr past ↦
      let positive : 0 < get_or counts class 0 = ltb-true 0 (get_or counts class 0) some in
      absurd (omega (arith, none class past, positive))
]

kept_each : (P : ClassMove → Type 0) (move : ℕ → ClassMove) (test : ℕ → Bool) (classes : Indices)
    → ((class : ℕ) → test class ≡ true → P (move class)) → AllByRecursion P (map move (filter test classes))
kept_each P move test classes fits =
    each_map P move (filter test classes)
    (each_in (λ (class : ℕ). P (move class)) (filter test classes)
    (λ class found. fits class (kept_parts test classes class found).1))

shown_each : (P : ClassMove → Type 0) (moves : List ClassMove) → P ShowOut → AllByRecursion P moves
    → AllByRecursion P (or_show_out moves)
shown_each P [] out each = (out, tt)
shown_each P (move ∷ moves) out each = each

if_some : (b : Bool) (n : ℕ) → nat_lt 0 (if b then n else 0) ≡ true → b ≡ true
if_some true n some = refl
if_some false n some = absurd (cc)

module _ (classes : ℕ) (view : ClassView) (is : IsWithin classes view) where
  left_below : (counts : ClassLayout) (seat : Seat) (class : ℕ) → nat_lt 0 (left view counts seat class) ≡ true
      → class < classes
  left_below counts N class some = counted_below classes view.north is.north class some
  left_below counts S class some = counted_below classes view.south is.south class some
  left_below counts W class some =
      counted_below classes view.defence is.defence class
      (if_some (nat_lt 0 (get_or view.defence class 0))
      (west_count view counts class - get_or view.gone_w class 0) some)
  left_below counts E class some =
      counted_below classes view.defence is.defence class
      (if_some (nat_lt 0 (get_or view.defence class 0))
      (get_or view.defence class 0 - west_count view counts class - get_or view.gone_e class 0) some)

  moves_in : (counts : ClassLayout) (trick : ClassTrick)
      → AllByRecursion (IsWritableMove classes) (class_moves_in view counts trick)
  moves_in counts Closed =
      each_append (IsWritableMove classes)
      (if may_lead view.lead view.entries_n N then map (Lead N) (counted_classes view.north) else [])
      (if may_lead view.lead view.entries_s S then map (Lead S) (counted_classes view.south) else [])
      (each_unless (IsWritableMove classes) (may_lead view.lead view.entries_n N)
      (map (Lead N) (counted_classes view.north))
      (kept_each (IsWritableMove classes) (Lead N) (λ class. nat_lt 0 (get_or view.north class 0)) class_numbers
      (counted_below classes view.north is.north)))
      (each_unless (IsWritableMove classes) (may_lead view.lead view.entries_s S)
      (map (Lead S) (counted_classes view.south))
      (kept_each (IsWritableMove classes) (Lead S) (λ class. nat_lt 0 (get_or view.south class 0)) class_numbers
      (counted_below classes view.south is.south)))
  moves_in counts (Open turn after winner highest) =
      shown_each (IsWritableMove classes) (map Follow (classes_left view counts turn)) tt
      (kept_each (IsWritableMove classes) Follow (λ class. nat_lt 0 (left view counts turn class)) class_numbers
      (left_below counts turn))

  -- each class move can be written
  pub move_writable : (counts : ClassLayout) (move : ClassMove) → Contains (class_moves view counts) move
      → IsWritableMove classes move
  move_writable counts move found =
      each_at (IsWritableMove classes) (class_moves view counts) move (moves_in counts view.trick) found

moves_writable : (classes : ℕ) (counts : ClassLayout) (view : ClassView) (history : ClassHistory)
    → IsWithin classes view
    → allows_from counts view history ≡ true → AllByRecursion (IsWritableMove classes) history
unfolding allows_from
moves_writable classes counts view [] is allowed = tt
moves_writable classes counts view (move ∷ history) is allowed =
    let parts = and_parts (is_among (class_moves view counts) move) (allows_from counts (class_step view move) history)
    allowed in (
      move_writable classes view is counts move (among-Contains (class_moves view counts) move parts.0),
      moves_writable classes counts (class_step view move) history (within_in classes view view.trick move is) parts.1,
    )

-- and so can each class history that a class layout allows
pub history_writable : (question : Question) (counts : ClassLayout) (history : ClassHistory)
    → allows question counts history ≡ true → AllByRecursion (IsWritableMove (class_count (hands_of question))) history
unfolding allows
history_writable question counts history allowed =
    moves_writable (class_count (hands_of question)) counts (class_start question) history (within_after question [])
    allowed
