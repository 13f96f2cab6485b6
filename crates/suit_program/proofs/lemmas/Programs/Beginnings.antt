-- Whether a class history begins another, as a number: of the moves at a class history one at most goes on to it
-- (`beginnings_shared`).
use Rattle.std.proofs.Common.{◌≡◌, Bool, true, false, List, [], ◌∷◌, ◌++◌, map, refl, sym, ap, ◌∙◌, subst, inl, inr}
use Rattle.std.proofs.Common.{arith}
use Rattle.std.specs.Prelude.{if◌then◌else◌, ℤ, pos, ◌≤ℤ◌}
use Rattle.std.specs.List.{AllByRecursion}
use Rattle.std.proofs.lemmas.Bool.{cases_Bool, false_from_ne_true}
use Rattle.std.proofs.lemmas.Int.{ints}
use Rattle.suit_lists.proofs.Elements.{each_at}
use Rattle.suit_lists.proofs.Once.{IsOnce}
use Rattle.suit_classes.specs.declared.class_moves.ClassMove.{ClassMove}
use Rattle.suit_classes.specs.ClassMoves.{same_class_move}
use Rattle.suit_classes.proofs.SameMoves.{same_move-itself, same_move_is}
use Rattle.suit_plans.specs.Properness.{sum_of}
use Rattle.suit_plans.proofs.NumberSums.{sum_nothing}

-- 1 where a class history begins another, and else 0
unfoldable pub begins : List ClassMove → List ClassMove → ℤ
begins [] target = pos 1
begins (move ∷ moves) [] = pos 0
begins (move ∷ moves) (next ∷ target) = if same_class_move move next then begins moves target else pos 0

pub record IsPart (number : ℤ) : Type 0 where
  pub low : pos 0 ≤ℤ number
  pub most : number ≤ℤ pos 1

part_case : (b : Bool) (number : ℤ) → IsPart number → IsPart (if b then number else pos 0)
part_case true number part = part
part_case false number part = record { low = omega (arith, ints); most = omega (arith, ints) }

pub begins_part : (history target : List ClassMove) → IsPart (begins history target)
unfolding begins
begins_part [] target = record { low = omega (arith, ints); most = omega (arith, ints) }
begins_part (move ∷ moves) [] = record { low = omega (arith, ints); most = omega (arith, ints) }
begins_part (move ∷ moves) (next ∷ target) =
    part_case (same_class_move move next) (begins moves target) (begins_part moves target)

-- each begins itself
pub begins_itself : (history : List ClassMove) → begins history history ≡ pos 1
unfolding begins
begins_itself [] = refl
begins_itself (move ∷ moves) =
    ap (λ (b : Bool). if b then begins moves moves else pos 0) (same_move-itself move) ∙ begins_itself moves

fall_case : (b : Bool) (x y : ℤ) → x ≤ℤ y → (if b then x else pos 0) ≤ℤ (if b then y else pos 0)
fall_case true x y le = le
fall_case false x y le = omega (arith, ints)

-- with a move more it begins no more
pub begins_falls : (history : List ClassMove) (move : ClassMove) (target : List ClassMove)
    → begins (history ++ move ∷ []) target ≤ℤ begins history target
unfolding begins
begins_falls [] move target = (begins_part (move ∷ []) target).most
begins_falls (first ∷ moves) move [] = omega (arith, ints)
begins_falls (first ∷ moves) move (next ∷ target) =
    fall_case (same_class_move first next) (begins (moves ++ move ∷ []) target) (begins moves target)
    (begins_falls moves move target)

-- what each move of some goes on with
abbrev first_only : ClassMove → ClassMove → ℤ
first_only next move = if same_class_move move next then pos 1 else pos 0

none_else : (next : ClassMove) (moves : List ClassMove) → AllByRecursion (λ later. next ≡ later → ⊥) moves
    → sum_of (map (first_only next) moves) ≡ pos 0
none_else next moves apart =
    sum_nothing (first_only next) moves
    (λ move found. ap (λ (b : Bool). if b then pos 1 else pos 0)
    (false_from_ne_true (same_class_move move next)
    (λ same. each_at (λ later. next ≡ later → ⊥) moves move apart found (sym (same_move_is move next same)))))

one_only : (next : ClassMove) (moves : List ClassMove) → IsOnce moves
    → sum_of (map (first_only next) moves) ≤ℤ pos 1
unfolding sum_of IsOnce
one_only next [] once = omega (arith, ints)
one_only next (move ∷ moves) once = elim (cases_Bool (same_class_move move next)) [
  | inl same ↦
      let here : first_only next move ≡ pos 1 = ap (λ (b : Bool). if b then pos 1 else pos 0) same in
      let rest : sum_of (map (first_only next) moves) ≡ pos 0 =
      none_else next moves (subst (λ (m : ClassMove). AllByRecursion (λ later. m ≡ later → ⊥) moves)
      (same_move_is move next same) once.0) in
      omega (arith, ints, here, rest)
  | inr other ↦
      let here : first_only next move ≡ pos 0 = ap (λ (b : Bool). if b then pos 1 else pos 0) other in
      let rest = one_only next moves once.1 in
      omega (arith, ints, here, rest)
]

-- of different moves one at most goes on to the other class history
pub beginnings_shared : (history : List ClassMove) (moves : List ClassMove) (target : List ClassMove) → IsOnce moves
    → sum_of (map (λ move. begins (history ++ move ∷ []) target) moves) ≤ℤ begins history target
unfolding begins
beginnings_shared [] moves [] once =
    let none : sum_of (map (λ (move : ClassMove). pos 0) moves) ≡ pos 0 =
    sum_nothing (λ move. pos 0) moves (λ move found. refl) in
    omega (arith, ints, none)
beginnings_shared [] moves (next ∷ target) once = one_only next moves once
beginnings_shared (first ∷ history) moves [] once =
    let none : sum_of (map (λ (move : ClassMove). pos 0) moves) ≡ pos 0 =
    sum_nothing (λ move. pos 0) moves (λ move found. refl) in
    omega (arith, ints, none)
beginnings_shared (first ∷ history) moves (next ∷ target) once =
    within (same_class_move first next) (beginnings_shared history moves target once)
  where
    within : (b : Bool) → sum_of (map (λ move. begins (history ++ move ∷ []) target) moves) ≤ℤ begins history target
        → sum_of (map (λ move. if b then begins (history ++ move ∷ []) target else pos 0) moves)
        ≤ℤ (if b then begins history target else pos 0)
    within true le = le
    within false le =
        let none : sum_of (map (λ (move : ClassMove). pos 0) moves) ≡ pos 0 =
        sum_nothing (λ move. pos 0) moves (λ move found. refl) in
        omega (arith, ints, none)
