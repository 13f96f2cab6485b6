-- At a turn the shares of the legal moves add up to the mass, and no share is negative.
use Rattle.std.proofs.Common.{◌≡◌, Bool, true, false, List, [], ◌∷◌, None, refl, sym, ap, ◌∙◌, subst, inl, inr, arith}
use Rattle.std.proofs.Common.{map}
use Rattle.std.specs.Prelude.{ℤ, pos, ◌≤ℤ◌, ◌+ℤ◌, int_le, if◌then◌else◌, Contains}
use Rattle.std.specs.List.{AllByRecursion, list_all}
use Rattle.std.proofs.lemmas.Bool.{and_parts, cond-false, cond-true, false≢true, false_from_ne_true}
use Rattle.std.proofs.lemmas.Int.{ints}
use Rattle.suit_lists.proofs.Elements.{Contains-cons_cases, Contains-first, Contains-later, Contains-nil, each_at}
use Rattle.suit_lists.proofs.Elements.{each_gives}
use Rattle.suit_lists.proofs.Maps.{map_same}
use Rattle.suit_lists.proofs.Once.{IsOnce}
use Rattle.suit_plans.proofs.NumberSums.{sum_nothing}
use Rattle.suit_classes.specs.declared.class_moves.ClassMove.{ClassMove}
use Rattle.suit_classes.specs.WhatIsAllowed.{is_among}
use Rattle.suit_classes.specs.ClassMoves.{same_class_move}
use Rattle.suit_classes.specs.MoveOrder.{stands_before}
use Rattle.suit_num.proofs.IntegerLaws.{int_le-true}
use Rattle.suit_classes.proofs.SameMoves.{among-Contains, same_move-itself, same_move_is}
use Rattle.suit_plans.specs.Masses.{Shares, count_of, is_first, share}
use Rattle.suit_plans.specs.Properness.{are_rising, moves_of, sum_of}
use Rattle.suit_plans.proofs.HistoryOrder.{IsStrict-moves}

-- in rising order all later moves stand after the first
pub rising_parts : (move : ClassMove) (moves : List ClassMove) → are_rising (move ∷ moves) ≡ true
    → AllByRecursion (λ later. stands_before move later ≡ true) moves × (are_rising moves ≡ true)
unfolding are_rising
rising_parts move [] rising = (tt, refl)
rising_parts move (next ∷ moves) rising =
    let parts = and_parts (stands_before move next) (are_rising (next ∷ moves)) rising in
    let rest = rising_parts next moves parts.1 in (
      (
        parts.0,
        each_gives (λ later. stands_before next later ≡ true) (λ later. stands_before move later ≡ true) moves
            (λ later after. IsStrict-moves.chain move next later parts.0 after) rest.0,
      ),
      parts.1,
    )

-- a move that stands before all that are named has no count
count_none : (move : ClassMove) (shares : Shares)
    → AllByRecursion (λ later. stands_before move later ≡ true) (moves_of shares) → count_of shares move ≡ pos 0
unfolding count_of
count_none move [] after = refl
count_none move (count ∷ shares) after =
    let other : same_class_move count.0 move ≡ false = false_from_ne_true (same_class_move count.0 move)
    (λ same. false≢true (sym (IsStrict-moves.never move)
    ∙ subst (λ (m : ClassMove). stands_before move m ≡ true) (same_move_is count.0 move same) after.0)) in
    cond-false (same_class_move count.0 move) count.1 (count_of shares move) other ∙ count_none move shares after.1

-- a move that is none of some is the same as none of them
apart_from : (move : ClassMove) (moves : List ClassMove) (other : ClassMove)
    → AllByRecursion (λ later. move ≡ later → ⊥) moves → Contains moves other → same_class_move move other ≡ false
apart_from move moves other apart found =
    false_from_ne_true (same_class_move move other) (λ same. each_at (λ later. move ≡ later
    → ⊥) moves other apart found (same_move_is move other same))

-- numbers of moves, where one move has another number
abbrev with_one : ℤ → ClassMove → (ClassMove → ℤ) → ClassMove → ℤ
with_one number move f other = if same_class_move move other then number else f other

-- the number of one move more adds to the sum, where its number was 0
sum_one : (number : ℤ) (move : ClassMove) (f : ClassMove → ℤ) (moves : List ClassMove) → IsOnce moves
    → Contains moves move → f move ≡ pos 0
    → sum_of (map (with_one number move f) moves) ≡ number +ℤ sum_of (map f moves)
unfolding sum_of IsOnce
sum_one number move f [] once found none = absurd (Contains-nil move found)
sum_one number move f (first ∷ moves) once found none = elim (Contains-cons_cases first moves move found) [
  | inl here ↦
      let head : with_one number move f first ≡ number =
      cond-true (same_class_move move first) number (f first) (subst (λ (m : ClassMove). same_class_move m first
      ≡ true) here (same_move-itself first)) in
      let same : map (with_one number move f) moves ≡ map f moves = map_same (with_one number move f) f moves
      (λ other later. cond-false (same_class_move move other) number (f other)
      (apart_from move moves other (subst (λ (m : ClassMove). AllByRecursion (λ y. m ≡ y → ⊥) moves) here once.0)
      later)) in
      let zero : f first ≡ pos 0 = ap f here ∙ none in
      let tail : sum_of (map (with_one number move f) moves) ≡ sum_of (map f moves) = ap sum_of same in
      omega (arith, ints, head, zero, tail)
  | inr there ↦
      let apart : same_class_move move first ≡ false = false_from_ne_true (same_class_move move first)
      (λ same. each_at (λ later. first ≡ later → ⊥) moves move once.0 there (sym (same_move_is move first same))) in
      let head : with_one number move f first ≡ f first =
      cond-false (same_class_move move first) number (f first) apart in
      let tail = sum_one number move f moves once.1 there none in
      omega (arith, ints, head, tail)
]

-- the counts of legal moves that rise add up alike over all legal moves, of which none comes twice
pub sum_counts : (shares : Shares) (legal : List ClassMove) → IsOnce legal
    → list_all (is_among legal) (moves_of shares) ≡ true → are_rising (moves_of shares) ≡ true
    → sum_of (map (count_of shares) legal) ≡ sum_of (map (λ (count : ClassMove × ℤ). count.1) shares)
unfolding sum_of count_of
sum_counts [] legal once among rising = sum_nothing (λ move. pos 0) legal (λ move found. refl)
sum_counts (count ∷ shares) legal once among rising =
    let parts = and_parts (is_among legal count.0) (list_all (is_among legal) (moves_of shares)) among in
    let rises = rising_parts count.0 (moves_of shares) rising in
    sum_one count.1 count.0 (count_of shares) legal once (among-Contains legal count.0 parts.0)
    (count_none count.0 shares rises.0)
    ∙ ap (λ (z : ℤ). count.1 +ℤ z) (sum_counts shares legal once parts.1 rises.1)

-- without a row the first move gets all
pub sum_first : (mass : ℤ) (first : ClassMove) (moves : List ClassMove) → IsOnce (first ∷ moves)
    → sum_of (map (λ move. share None (is_first (first ∷ moves) move) mass move) (first ∷ moves)) ≡ mass
unfolding sum_of IsOnce
sum_first mass first moves once =
    let head : share None (same_class_move first first) mass first ≡ mass =
    ap (λ (b : Bool). share None b mass first) (same_move-itself first) in
    let same : map (λ move. share None (same_class_move first move) mass move) moves ≡ map (λ move. pos 0) moves =
    map_same (λ move. share None (same_class_move first move) mass move) (λ move. pos 0) moves
    (λ move later. ap (λ (b : Bool). share None b mass move) (apart_from first moves move once.0 later)) in
    let tail : sum_of (map (λ move. share None (same_class_move first move) mass move) moves) ≡ pos 0 = ap sum_of same
    ∙ sum_nothing (λ move. pos 0) moves (λ move found. refl) in
    omega (arith, ints, head, tail)

-- a choice of two numbers that are not negative is not negative
pub count_case : (b : Bool) (number other : ℤ) → pos 0 ≤ℤ number → pos 0 ≤ℤ other
    → pos 0 ≤ℤ (if b then number else other)
count_case true number other low high = low
count_case false number other low high = high

-- counts of which none is negative give no move a negative one
pub count_positive : (shares : Shares) (move : ClassMove)
    → list_all (λ (count : ClassMove × ℤ). int_le (pos 0) count.1) shares ≡ true → pos 0 ≤ℤ count_of shares move
unfolding count_of
count_positive [] move positive = omega (arith, ints)
count_positive (count ∷ shares) move positive =
    let parts = and_parts (int_le (pos 0) count.1) (list_all (λ (count : ClassMove × ℤ). int_le (pos 0) count.1) shares)
    positive in
    count_case (same_class_move count.0 move) count.1 (count_of shares move) (int_le-true (pos 0) count.1 parts.0)
    (count_positive shares move parts.1)

-- where no number is negative the sum is not
pub sum_positive : {X : Type 0} (f : X → ℤ) (xs : List X) → ((y : X) → Contains xs y → pos 0 ≤ℤ f y)
    → pos 0 ≤ℤ sum_of (map f xs)
unfolding sum_of
sum_positive f [] positive = omega (arith, ints)
sum_positive f (first ∷ xs) positive =
    let head : pos 0 ≤ℤ f first = positive first (Contains-first first xs) in
    let rest : pos 0 ≤ℤ sum_of (map f xs) =
    sum_positive f xs (λ y later. positive y (Contains-later first xs y later)) in
    omega (arith, ints, head, rest)

-- and none is more than it
pub within_sum : {X : Type 0} (f : X → ℤ) (xs : List X) (x : X) → ((y : X) → Contains xs y → pos 0 ≤ℤ f y)
    → Contains xs x
    → f x ≤ℤ sum_of (map f xs)
unfolding sum_of
within_sum f [] x positive found = absurd (Contains-nil x found)
within_sum f (first ∷ xs) x positive found = elim (Contains-cons_cases first xs x found) [
  | inl here ↦
      let same : f first ≡ f x = ap f here in
      let rest : pos 0 ≤ℤ sum_of (map f xs) =
      sum_positive f xs (λ y later. positive y (Contains-later first xs y later)) in
      omega (arith, ints, same, rest)
  | inr there ↦
      let head : pos 0 ≤ℤ f first = positive first (Contains-first first xs) in
      let later : f x ≤ℤ sum_of (map f xs) =
      within_sum f xs x (λ y after. positive y (Contains-later first xs y after)) there in
      omega (arith, ints, head, later)
]
