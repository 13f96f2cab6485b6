-- The order of class histories and of West's counts: nothing stands before itself, what stands before stands before all
-- after it, and a beginning stands before the longer history.
use Rattle.std.proofs.Common.{◌≡◌, ℕ, Bool, true, false, ◌&&◌, ◌||◌, List, [], ◌∷◌, ◌++◌, refl, sym, ap, ◌∙◌, subst}
use Rattle.std.proofs.Common.{inl, inr, arith}
use Rattle.std.specs.Prelude.{nat_lt, ◌==◌}
use Rattle.std.proofs.lemmas.Bool.{and_from, and_parts, and_right, eq-eqb, eqb-true, false≢true, le-ltb, lt-ltb}
use Rattle.std.proofs.lemmas.Bool.{ltb-true, or_cases, or_from, or_left, or_right}
use Rattle.suit_classes.specs.declared.class_moves.ClassMove.{ClassMove}
use Rattle.suit_classes.specs.ClassMoves.{same_class_move, ClassHistory}
use Rattle.suit_classes.specs.MoveOrder.{class_named, kind_of, stands_before}
use Rattle.suit_classes.proofs.SameMoves.{same_move-itself, same_move_is}
use Rattle.suit_plans.specs.Orders.{is_earlier, same_class_history}

-- a test tells a strict order, and another which elements are alike
pub record IsStrict {X : Type 0} (before alike : X → X → Bool) : Type 0 where
  pub never : (x : X) → before x x ≡ false
  pub chain : (x y z : X) → before x y ≡ true → before y z ≡ true → before x z ≡ true
  pub same : (x y : X) → alike x y ≡ true → x ≡ y
  pub itself : (x : X) → alike x x ≡ true

-- no list stands before itself
pub earlier-never : {X : Type 0} (before alike : X → X → Bool) (xs : List X) → IsStrict before alike
    → is_earlier before alike xs xs ≡ false
unfolding is_earlier
earlier-never before alike [] strict = refl
earlier-never before alike (x ∷ xs) strict =
    or_from (before x x) (alike x x
    && is_earlier before alike xs xs) (strict.never x)
    (and_right (alike x x) (is_earlier before alike xs xs) (earlier-never before alike xs strict))

-- what stands before a list stands before all lists after it
pub earlier-chain : {X : Type 0} (before alike : X → X → Bool) (xs ys zs : List X) → IsStrict before alike
    → is_earlier before alike xs ys ≡ true → is_earlier before alike ys zs ≡ true → is_earlier before alike xs zs ≡ true
unfolding is_earlier
earlier-chain before alike [] [] zs strict first then = absurd (false≢true first)
earlier-chain before alike [] (y ∷ ys) [] strict first then = absurd (false≢true then)
earlier-chain before alike [] (y ∷ ys) (z ∷ zs) strict first then = refl
earlier-chain before alike (x ∷ xs) [] zs strict first then = absurd (false≢true first)
earlier-chain before alike (x ∷ xs) (y ∷ ys) [] strict first then = absurd (false≢true then)
earlier-chain {X} before alike (x ∷ xs) (y ∷ ys) (z ∷ zs) strict first then =
    elim (or_cases (before x y) (alike x y && is_earlier before alike xs ys) first) [
      | inl low ↦ elim (or_cases (before y z) (alike y z && is_earlier before alike ys zs) then) [
        | inl high ↦ or_left (before x z) (alike x z && is_earlier before alike xs zs) (strict.chain x y z low high)
        | inr level ↦
            let parts = and_parts (alike y z) (is_earlier before alike ys zs) level in
            or_left (before x z) (alike x z
            && is_earlier before alike xs zs) (subst (λ (w : X). before x w ≡ true) (strict.same y z parts.0) low)
      ]
      | inr level ↦
          let parts = and_parts (alike x y) (is_earlier before alike xs ys) level in
          let one : x ≡ y = strict.same x y parts.0 in
          elim (or_cases (before y z) (alike y z && is_earlier before alike ys zs) then) [
            | inl high ↦ or_left (before x z) (alike x z
                && is_earlier before alike xs zs) (subst (λ (w : X). before w z ≡ true) (sym one) high)
            | inr flat ↦
                let rest = and_parts (alike y z) (is_earlier before alike ys zs) flat in
                or_right (before x z) (alike x z && is_earlier before alike xs zs)
                (and_from (alike x z) (is_earlier before alike xs zs)
                (subst (λ (w : X). alike w z ≡ true) (sym one) rest.0)
                (earlier-chain before alike xs ys zs strict parts.1 rest.1))
          ]
    ]

-- a beginning stands before the longer list
pub earlier-start : {X : Type 0} (before alike : X → X → Bool) (start : List X) (x : X) (rest : List X)
    → IsStrict before alike → is_earlier before alike start (start ++ x ∷ rest) ≡ true
unfolding is_earlier
earlier-start before alike [] x rest strict = refl
earlier-start before alike (first ∷ start) x rest strict =
    or_right (before first first) (alike first first && is_earlier before alike start (start ++ x ∷ rest))
    (and_from (alike first first) (is_earlier before alike start (start ++ x ∷ rest)) (strict.itself first)
    (earlier-start before alike start x rest strict))

-- numbers stand in strict order
pub IsStrict-numbers : IsStrict nat_lt (λ a b. a == b)
IsStrict-numbers = record {
  never = λ n. le-ltb n n (omega arith);
  chain = λ a b c low high. lt-ltb a c (omega (arith, ltb-true a b low, ltb-true b c high));
  same = λ a b is. eqb-true a b is;
  itself = λ n. eq-eqb n n refl;
}

pairs_chain : (a b c i j k : ℕ) → (nat_lt a b || (a == b && nat_lt i j)) ≡ true
    → (nat_lt b c || (b == c && nat_lt j k)) ≡ true → (nat_lt a c || (a == c && nat_lt i k)) ≡ true
pairs_chain a b c i j k first then =
    elim (or_cases (nat_lt a b) (a == b && nat_lt i j) first) [
      | inl low ↦ elim (or_cases (nat_lt b c) (b == c && nat_lt j k) then) [
        | inl high ↦ or_left (nat_lt a c) (a == c
            && nat_lt i k) (lt-ltb a c (omega (arith, ltb-true a b low, ltb-true b c high)))
        | inr level ↦
            let parts = and_parts (b == c) (nat_lt j k) level in
            or_left (nat_lt a c) (a == c && nat_lt i k)
            (lt-ltb a c (omega (arith, ltb-true a b low, eqb-true b c parts.0)))
      ]
      | inr level ↦
          let parts = and_parts (a == b) (nat_lt i j) level in
          elim (or_cases (nat_lt b c) (b == c && nat_lt j k) then) [
            | inl high ↦ or_left (nat_lt a c) (a == c
                && nat_lt i k) (lt-ltb a c (omega (arith, eqb-true a b parts.0, ltb-true b c high)))
            | inr flat ↦
                let rest = and_parts (b == c) (nat_lt j k) flat in
                or_right (nat_lt a c) (a == c && nat_lt i k)
                (and_from (a == c) (nat_lt i k) (eq-eqb a c (eqb-true a b parts.0
                ∙ eqb-true b c rest.0)) (lt-ltb i k (omega (arith, ltb-true i j parts.1, ltb-true j k rest.1))))
          ]
    ]

-- and so do class moves
pub IsStrict-moves : IsStrict stands_before same_class_move
IsStrict-moves = record {
  never = λ move. or_from (nat_lt (kind_of move) (kind_of move)) (kind_of move == kind_of move
      && nat_lt (class_named move) (class_named move))
      (le-ltb (kind_of move) (kind_of move) (omega arith))
      (and_right (kind_of move == kind_of move) (nat_lt (class_named move) (class_named move))
      (le-ltb (class_named move) (class_named move) (omega arith)));
  chain = λ x y z low high. pairs_chain (kind_of x) (kind_of y) (kind_of z) (class_named x) (class_named y)
      (class_named z) low high;
  same = same_move_is;
  itself = same_move-itself;
}

-- a history is the same as itself
pub same_class_history-itself : (history : ClassHistory) → same_class_history history history ≡ true
unfolding same_class_history
same_class_history-itself [] = refl
same_class_history-itself (move ∷ moves) =
    and_from (same_class_move move move) (same_class_history moves moves) (same_move-itself move)
    (same_class_history-itself moves)

-- and only as itself
pub same_class_history_is : (history other : ClassHistory) → same_class_history history other ≡ true → history ≡ other
unfolding same_class_history
same_class_history_is [] [] same = refl
same_class_history_is [] (other ∷ others) same = absurd (false≢true same)
same_class_history_is (move ∷ moves) [] same = absurd (false≢true same)
same_class_history_is (move ∷ moves) (other ∷ others) same =
    let parts = and_parts (same_class_move move other) (same_class_history moves others) same in
    ap (λ (m : ClassMove). m ∷ moves) (same_move_is move other parts.0)
    ∙ ap (λ (l : List ClassMove). other ∷ l) (same_class_history_is moves others parts.1)
