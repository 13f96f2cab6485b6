-- Lists of counts, and the classes of which they have a card.
use Rattle.std.proofs.Common.{◌≡◌, ℕ, zero, suc, ◌+◌, ◌-◌, ◌*◌, ◌<◌, ◌≤◌, Bool, true, false, cond, List, [], ◌∷◌, ◌++◌}
use Rattle.std.proofs.Common.{length, get_or, refl, sym, ap, ◌∙◌, subst, inl, inr, arith, append_assoc, append-nil}
use Rattle.std.specs.Prelude.{map, filter, nat_lt, nat_eq, slice_index, if◌then◌else◌}
use Rattle.std.specs.List.{range_with_len}
use Rattle.std.proofs.Math.ListN.{set, length-set}
use Rattle.std.proofs.lemmas.Bool.{cases_lt, cases_eq, ltb-true, lt-ltb, le-ltb, eq-eqb, ne_eqb, false≢true}
use Rattle.std.proofs.lemmas.List.{map-append, length-map, get_or-set_same, get_or-set_other, get_or_past}
use Rattle.std.proofs.lemmas.List.Sums.{length-filter, count_by-le-length}
use Rattle.std.proofs.lemmas.List.Edits.{fill_by_more}
use Rattle.std.proofs.lemmas.List.FromFn.{fill_by_all, get_or-map-range_with_len, length-map-range_with_len}
use Rattle.std.proofs.lemmas.List.FromFn.{length-range_with_len}
use Rattle.suit_lists.proofs.Filters.{kept_apart, length_filter-most}
use Rattle.suit_cards.specs.Cards.{ClassLayout}
use Rattle.suit_cards.specs.Holdings.{suit, IsHolding}
use Rattle.suit_cards.proofs.SuitRuns.{IsHolding-filter_suit}
use Rattle.suit_classes.specs.declared.classes.Owner.{Owner}
use Rattle.suit_classes.specs.declared.classes.Owner.TheVariants as owners
use Rattle.suit_classes.specs.declared.class_moves.ClassMove.{ClassMove}
use Rattle.suit_classes.specs.declared.class_moves.ClassMove.TheVariants.{Follow, ShowOut}
use Rattle.suit_classes.specs.Classes.{Hands, same_owner, class_of, class_count, class_owner, class_size}
use Rattle.suit_cards.specs.declared.seats.Seat.{Seat}
use Rattle.suit_cards.specs.declared.seats.Seat.TheVariants.{E, W}
use Rattle.suit_classes.specs.declared.class_trick.ClassTrick.TheVariants.{Open}
use Rattle.suit_classes.specs.ClassPlaces.{AreApart, ClassView, class_moves, class_moves_in, class_numbers}
use Rattle.suit_classes.specs.ClassPlaces.{classes_left, counted_classes, dealt_to, held_by, is_defence_class, left}
use Rattle.suit_classes.specs.ClassPlaces.{none_played, or_show_out, west_count}
use Rattle.suit_classes.proofs.DefenceClasses.{filter_range-push, filter_range-more, filter_range-most}
use Rattle.suit_classes.proofs.RankBlocks.{StaysBelow, with_number, falling_stays}
use Rattle.suit_classes.specs.declared.classes.TheConstants.{MOST_CLASSES}

-- counts that are right up to a class, and none from it on
pub record Filled (f : ℕ → ℕ) (counts : ClassLayout) (class : ℕ) : Type 0 where
  pub long : length counts ≡ MOST_CLASSES
  pub done : (k : ℕ) → k < class → get_or counts k 0 ≡ f k
  pub rest : (k : ℕ) → class ≤ k → get_or counts k 0 ≡ 0

-- no card of any class
pub none_played-at : (k : ℕ) → get_or none_played k 0 ≡ 0
unfolding none_played class_numbers
none_played-at k = elim (cases_lt k MOST_CLASSES) [
  | inl small ↦ get_or-map-range_with_len (λ class. 0) 0 MOST_CLASSES k k 0 small (omega arith)
  | inr past ↦ get_or_past none_played k 0 (omega (arith, length-map-range_with_len {X = ℕ} (λ class. 0) 0 MOST_CLASSES))
]

pub length-none_played : length none_played ≡ MOST_CLASSES
unfolding none_played class_numbers
length-none_played = refl

pub none_played_is : none_played ≡ 0 ∷ 0 ∷ 0 ∷ 0 ∷ 0 ∷ 0 ∷ 0 ∷ 0 ∷ 0 ∷ 0 ∷ 0 ∷ 0 ∷ 0 ∷ []
unfolding none_played class_numbers
none_played_is = refl

-- at first no count is right
pub filled_none : (f : ℕ → ℕ) → Filled f (0 ∷ 0 ∷ 0 ∷ 0 ∷ 0 ∷ 0 ∷ 0 ∷ 0 ∷ 0 ∷ 0 ∷ 0 ∷ 0 ∷ 0 ∷ []) 0
filled_none f = record {
  long = refl;
  done = λ k low. absurd (omega arith);
  rest = λ k low. ap (λ (l : List ℕ). get_or l k 0) (sym none_played_is) ∙ none_played-at k;
}

-- the next count is written
pub filled_next : (f : ℕ → ℕ) (counts : ClassLayout) (class : ℕ) (later : List ℕ) (value : ℕ) → class < MOST_CLASSES
    → Filled f counts class
    → later ≡ set counts class value → value ≡ f class → Filled f later (class + 1)
filled_next f counts class later value small filled written right = record {
  long = ap length written ∙ length-set counts class value ∙ filled.long;
  done = λ k low. ap (λ (l : List ℕ). get_or l k 0) (written ∙ ap (set counts class) right)
      ∙ fill_by_more f counts class 0 (omega (arith, filled.long)) filled.done k low;
  rest = λ k low. ap (λ (l : List ℕ). get_or l k 0) written
      ∙ get_or-set_other counts class k value 0 (λ same. omega (arith, same)) ∙ filled.rest k (omega arith);
}

-- the next count is none
pub filled_kept : (f : ℕ → ℕ) (counts : ClassLayout) (class : ℕ) (later : List ℕ) → Filled f counts class
    → later ≡ counts
    → f class ≡ 0 → Filled f later (class + 1)
filled_kept f counts class later filled kept none = record {
  long = ap length kept ∙ filled.long;
  done = λ k low. elim (cases_eq k class) [
    | inl here ↦ ap (λ (l : List ℕ). get_or l k 0) kept ∙ filled.rest k (omega arith) ∙ sym (ap f here ∙ none)
    | inr before ↦ ap (λ (l : List ℕ). get_or l k 0) kept ∙ filled.done k (omega arith)
  ];
  rest = λ k low. ap (λ (l : List ℕ). get_or l k 0) kept ∙ filled.rest k (omega arith);
}

stays_none : (f : ℕ → ℕ) (high number : ℕ) (xs : List ℕ) → high ≤ number → StaysBelow f high xs
    → with_number f xs number ≡ []
stays_none f high number [] past stays = refl
stays_none f high number (x ∷ xs) past stays =
    let differs : f x ≡ number → ⊥ = λ same. omega (arith, same, stays.0) in
    rw (ne_eqb (f x) number differs) (stays_none f high number xs past stays.1)

suit_kept : filter (λ rank. true) suit ≡ suit
unfolding suit
suit_kept = refl

-- the suit is a holding
pub IsHolding-suit : IsHolding suit
IsHolding-suit = subst IsHolding suit_kept (IsHolding-filter_suit (λ rank. true))

-- past the last class there is no card
pub class_size-none : (hands : Hands) (class : ℕ) → class_count hands ≤ class → class_size hands class ≡ 0
class_size-none hands class past =
    ap length
    (stays_none (class_of hands) (class_count hands) class suit past (falling_stays hands 15 suit IsHolding-suit))

held_none : (b : Bool) (size : ℕ) → size ≡ 0 → (if b then size else 0) ≡ 0
held_none true size none = none
held_none false size none = refl

-- counts that are right up to the last class are those of the side
pub filled_dealt : (hands : Hands) (owner : Owner) (counts : ClassLayout) (class : ℕ) → class_count hands ≤ class
    → Filled (held_by hands owner) counts class
    → counts ≡ dealt_to hands owner
unfolding dealt_to class_numbers
filled_dealt hands owner counts class all filled =
    fill_by_all (held_by hands owner) counts MOST_CLASSES 0 filled.long
    (λ k small. elim (cases_lt k class) [
      | inl done ↦ filled.done k done
      | inr past ↦
          filled.rest k past
          ∙ sym
          (held_none (same_owner (class_owner hands k) owner) (class_size hands k)
          (class_size-none hands k (omega arith)))
    ])

-- a side's count in a class
pub dealt_to-at : (hands : Hands) (owner : Owner) (class : ℕ) → class < MOST_CLASSES
    → get_or (dealt_to hands owner) class 0 ≡ held_by hands owner class
unfolding dealt_to class_numbers
dealt_to-at hands owner class small =
    get_or-map-range_with_len (held_by hands owner) 0 MOST_CLASSES class class 0 small (omega arith)

pub length-dealt_to : (hands : Hands) (owner : Owner) → length (dealt_to hands owner) ≡ MOST_CLASSES
unfolding dealt_to class_numbers
length-dealt_to hands owner = length-map-range_with_len (held_by hands owner) 0 MOST_CLASSES

not_both : (owner : Owner) (size : ℕ)
    → (if same_owner owner owners.N then size else 0) * (if same_owner owner owners.S then size else 0) ≡ 0
not_both owners.N size = omega arith
not_both owners.S size = omega arith
not_both owners.Defence size = omega arith

-- no class is North's and South's
pub apart_dealt : (hands : Hands) → AreApart (dealt_to hands owners.N) (dealt_to hands owners.S)
apart_dealt hands = λ class. elim (cases_lt class MOST_CLASSES) [
  | inl small ↦
      rw (dealt_to-at hands owners.N class small, dealt_to-at hands owners.S class small)
      (not_both (class_owner hands class) (class_size hands class))
  | inr past ↦
      let none : get_or (dealt_to hands owners.N) class 0 ≡ 0 =
      get_or_past (dealt_to hands owners.N) class 0 (omega (arith, length-dealt_to hands owners.N)) in
      rw none (omega arith)
]

-- one card less of a class, by places
pub one_less-at : (counts : ClassLayout) (class k : ℕ) → k < length counts
    → get_or (set counts class (get_or counts class 0 - 1)) k 0 ≡ get_or counts k 0 - (if nat_eq class k then 1 else 0)
one_less-at counts class k small = elim (cases_eq class k) [
  | inl here ↦
      rw (eq-eqb class k here)
      (ap (λ (j : ℕ). get_or (set counts class (get_or counts j 0 - 1)) k 0) here
      ∙ ap (λ (j : ℕ). get_or (set counts j (get_or counts k 0 - 1)) k 0) here
      ∙ get_or-set_same counts k (get_or counts k 0 - 1) 0 small)
  | inr other ↦
      rw (ne_eqb class k other)
      (get_or-set_other counts class k (get_or counts class 0 - 1) 0 (λ same. other (sym same)) ∙ omega arith)
]

-- one card more of a class, by places
pub one_more-at : (counts : ClassLayout) (class k : ℕ) → k < length counts
    → get_or (set counts class (get_or counts class 0 + 1)) k 0 ≡ get_or counts k 0 + (if nat_eq class k then 1 else 0)
one_more-at counts class k small = elim (cases_eq class k) [
  | inl here ↦
      rw (eq-eqb class k here)
      (ap (λ (j : ℕ). get_or (set counts class (get_or counts j 0 + 1)) k 0) here
      ∙ ap (λ (j : ℕ). get_or (set counts j (get_or counts k 0 + 1)) k 0) here
      ∙ get_or-set_same counts k (get_or counts k 0 + 1) 0 small)
  | inr other ↦
      rw (ne_eqb class k other)
      (get_or-set_other counts class k (get_or counts class 0 + 1) 0 (λ same. other (sym same)) ∙ omega arith)
]

-- a list takes a move for the next class where it passes
pub moves_next : (base : List ClassMove) (move : ℕ → ClassMove) (p : ℕ → Bool) (class : ℕ) (b : Bool)
    (items later : List ClassMove)
    → items ≡ base ++ map move (filter p (range_with_len 0 class)) → p class ≡ b
    → later ≡ (if b then items ++ move class ∷ [] else items)
    → later ≡ base ++ map move (filter p (range_with_len 0 (class + 1)))
moves_next base move p class b items later are is chosen =
    chosen ∙ ap (λ (l : List ClassMove). if b then l ++ move class ∷ [] else l) are
    ∙ either b
    ∙ ap (λ (t : Bool). base ++ map move (filter p (range_with_len 0 class) ++ (if t then class ∷ [] else []))) (sym is)
    ∙ ap (λ (l : List ℕ). base ++ map move l) (sym (filter_range-push p class))
  where
    either : (t : Bool)
        → (if t then (base ++ map move (filter p (range_with_len 0 class))) ++ move class ∷ []
        else base ++ map move (filter p (range_with_len 0 class)))
        ≡ base ++ map move (filter p (range_with_len 0 class) ++ (if t then class ∷ [] else []))
    either true = append_assoc base (map move (filter p (range_with_len 0 class))) (move class ∷ [])
        ∙ ap (λ (l : List ClassMove). base ++ l)
        (sym (map-append move (filter p (range_with_len 0 class)) (class ∷ [])))
    either false = ap (λ (l : List ℕ). base ++ map move l) (sym (append-nil (filter p (range_with_len 0 class))))

-- there is room for the next class that passes
pub moves_room : (move : ℕ → ClassMove) (p : ℕ → Bool) (class : ℕ) → class < MOST_CLASSES → p class ≡ true
    → length (map move (filter p (range_with_len 0 class))) < length (filter p class_numbers)
unfolding class_numbers
moves_room move p class small passes =
    let counts : (if p class then 1 else 0) ≡ suc 0 = ap (λ (b : Bool). if b then suc 0 else 0) passes in
    omega (
      arith,
      length-map (filter p (range_with_len 0 class)) move,
      filter_range-more p class,
      counts,
      filter_range-most p (suc class) MOST_CLASSES (omega arith),
    )

-- all classes, once the number has come to the end
pub class_numbers-all : (p : ℕ → Bool) (class : ℕ) → class ≡ MOST_CLASSES
    → filter p (range_with_len 0 class) ≡ filter p class_numbers
unfolding class_numbers
class_numbers-all p class end = ap (λ (n : ℕ). filter p (range_with_len 0 n)) end

-- a count above none, as a test
pub counts_some : (n : ℕ) → 0 < n → nat_lt 0 n ≡ true
counts_some n some = lt-ltb 0 n some

pub counts_none : (n : ℕ) → n ≤ 0 → nat_lt 0 n ≡ false
counts_none n none = le-ltb 0 n none

length-class_numbers : length class_numbers ≡ MOST_CLASSES
unfolding class_numbers
length-class_numbers = refl

one_is_none : (n s : ℕ) → n * s ≡ 0 → nat_lt 0 n ≡ true → nat_lt 0 s ≡ false
one_is_none zero s none some = absurd (omega (arith, ltb-true 0 0 some))
one_is_none (suc n) zero none some = refl
one_is_none (suc n) (suc s) none some = absurd (omega (arith, none))

-- the classes of two hands that share none are thirteen at most
pub apart_fit : (north south : List ℕ) → AreApart north south
    → length (counted_classes north) + length (counted_classes south) ≤ MOST_CLASSES
apart_fit north south apart =
    omega (
      arith,
      kept_apart (λ class. nat_lt 0 (get_or north class 0)) (λ class. nat_lt 0 (get_or south class 0)) class_numbers
          (λ class here there.
          false≢true (sym (one_is_none (get_or north class 0) (get_or south class 0) (apart class) here) ∙ there)),
      length-class_numbers,
    )

-- and those of one
pub counted_classes-most : (counts : ClassLayout) → length (counted_classes counts) ≤ MOST_CLASSES
counted_classes-most counts =
    omega (
      arith,
      length-class_numbers,
      length_filter-most (λ class. nat_lt 0 (get_or counts class 0)) class_numbers,
    )

-- with no class a hand shows out
pub or_show_out-none : (moves : List ClassMove) → length moves ≡ 0 → moves ++ ShowOut ∷ [] ≡ or_show_out moves
or_show_out-none [] none = refl
or_show_out-none (move ∷ moves) none = absurd (omega arith)

pub or_show_out-some : (moves : List ClassMove) → (length moves ≡ 0 → ⊥) → moves ≡ or_show_out moves
or_show_out-some [] some = absurd (some refl)
or_show_out-some (move ∷ moves) some = refl

-- so many numbers passed before the next one
pub index_next : (p : ℕ → Bool) (class place later : ℕ) (b : Bool) → place ≡ length (filter p (range_with_len 0 class))
    → p class ≡ b
    → later ≡ (if b then place + 1 else place) → later ≡ length (filter p (range_with_len 0 (class + 1)))
index_next p class place later b counted is chosen =
    let next : class + 1 ≡ suc class = omega arith in
    chosen ∙ either b
    ∙ ap (λ (n : ℕ). n + (if b then 1 else 0)) counted
    ∙ ap (λ (t : Bool). length (filter p (range_with_len 0 class)) + (if t then 1 else 0)) (sym is)
    ∙ sym (filter_range-more p class)
    ∙ ap (λ (n : ℕ). length (filter p (range_with_len 0 n))) (sym next)
  where
    either : (t : Bool) → (if t then place + 1 else place) ≡ place + (if t then 1 else 0)
    either true = refl
    either false = omega arith

-- what West has left of a class, of the defenders' and of another
pub left_west-some : (view : ClassView) (counts : ClassLayout) (class value : ℕ) → is_defence_class view class ≡ true
    → value ≡ west_count view counts class - slice_index view.gone_w class → value ≡ left view counts W class
left_west-some view counts class value is right = rw is right

pub left_west-none : (view : ClassView) (counts : ClassLayout) (class : ℕ) → is_defence_class view class ≡ false
    → left view counts W class ≡ 0
left_west-none view counts class is = rw is refl

-- and East
pub left_east-some : (view : ClassView) (counts : ClassLayout) (class value : ℕ) → is_defence_class view class ≡ true
    → value ≡ slice_index view.defence class - west_count view counts class - slice_index view.gone_e class
    → value ≡ left view counts E class
left_east-some view counts class value is right = rw is right

pub left_east-none : (view : ClassView) (counts : ClassLayout) (class : ℕ) → is_defence_class view class ≡ false
    → left view counts E class ≡ 0
left_east-none view counts class is = rw is refl

-- counts that are right at each class have the same classes left
pub counted_is_left : (view : ClassView) (counts : ClassLayout) (seat : Seat) (here : List ℕ)
    → ((class : ℕ) → class < MOST_CLASSES → slice_index here class ≡ left view counts seat class)
    → counted_classes here ≡ classes_left view counts seat
unfolding class_numbers
counted_is_left view counts seat here right =
    same_from 0 MOST_CLASSES (λ class least most. ap (nat_lt 0) (right class (omega arith)))
  where
    same_from : (from count : ℕ)
        → ((class : ℕ) → from ≤ class → class < from + count
        → nat_lt 0 (slice_index here class) ≡ nat_lt 0 (left view counts seat class))
        → filter (λ class. nat_lt 0 (slice_index here class)) (range_with_len from count)
        ≡ filter (λ class. nat_lt 0 (left view counts seat class)) (range_with_len from count)
    same_from from zero same = refl
    same_from from (suc count) same =
        rw (same from (omega arith) (omega arith))
        (ap (λ (l : List ℕ). cond (nat_lt 0 (left view counts seat from)) (from ∷ l) l)
        (same_from (from + 1) count (λ class least most. same class (omega arith) (omega arith))))

-- what the seat on turn may follow with
pub follows_at : (view : ClassView) (counts : ClassLayout) (turn : Seat) (after : ℕ) (winner : Owner) (highest : ℕ)
    → view.trick ≡ Open turn after winner highest
    → or_show_out (map Follow (classes_left view counts turn)) ≡ class_moves view counts
follows_at view counts turn after winner highest is = sym (ap (class_moves_in view counts) is)

-- no more numbers passed than there were
pub index_few : (p : ℕ → Bool) (class : ℕ) → length (filter p (range_with_len 0 class)) ≤ class
index_few p class =
    omega (
      arith,
      length-filter p (range_with_len 0 class),
      count_by-le-length p (range_with_len 0 class),
      length-range_with_len 0 class,
    )
