-- Points that lie under the path to a class history: masses at them are at most 1, and worths at most thirteen tricks
-- (`tame_worths`).
use Rattle.std.proofs.Common.{◌≡◌, ℕ, true, List, [], ◌∷◌, ◌++◌, refl, sym, subst, inl, inr, arith, suc}
use Rattle.std.specs.Prelude.{Contains, ℤ, pos, ◌+ℤ◌, ◌-ℤ◌, ◌*ℤ◌, ◌≤ℤ◌, ◌-◌, length}
use Rattle.std.proofs.lemmas.Int.{ints}
use Rattle.suit_lists.proofs.Elements.{Contains-cons_cases, Contains-nil, Contains-same}
use Rattle.suit_cards.specs.Cards.{ClassLayout}
use Rattle.suit_game.specs.declared.question.Question.{Question}
use Rattle.suit_game.specs.Validity.{IsValid}
use Rattle.suit_game.specs.declared.limits.TheConstants.{HAND_SIZE, MOST_MOVES}
use Rattle.suit_classes.specs.declared.class_moves.ClassMove.{ClassMove}
use Rattle.suit_plans.specs.Masses.{mass_from, mass_of}
use Rattle.suit_plans.specs.ReplyLaws.{IsPaid}
use Rattle.suit_plans.proofs.AtMostThirteenTricks.{paid_most}
use Rattle.suit_plans.proofs.SharesAddUpToTheMass.{sum_positive}
use Rattle.suit_program.specs.Programs.Points.{IsPositive, Column, Held, Passed, Point}
use Rattle.suit_program.specs.Programs.{sum_passed}
use Rattle.suit_program.specs.Supports.{Support, declarer_chooses, is_reached, layouts_of, supported_moves}
use Rattle.suit_program.specs.Programs.Worths.{mass_at, worth_at}
use Rattle.suit_program.proofs.lemmas.Programs.Beginnings.{begins, beginnings_shared, begins_falls, begins_part}
use Rattle.suit_program.proofs.lemmas.Programs.LinearInThePoint.{AreCombined, masses_linear, within_linear}
use Rattle.suit_program.proofs.lemmas.Supports.WhatIsReached.{reached_allows, reached_fits, reached_next, reached_none}
use Rattle.suit_program.proofs.lemmas.Programs.SumsInOrder.{le_trans, sum_le}
use Rattle.suit_program.proofs.lemmas.Supports.TurnCases.{Ended, Forced, Own, Theirs, TurnAt, mass_passed}
use Rattle.suit_program.proofs.lemmas.Supports.TurnCases.{supported_once, turn_at}
use Rattle.suit_program.proofs.lemmas.Programs.WorthWithinMass.{AreKept, masses_low, within_low, within_paid}

abbrev path_at : List ClassMove → Column → ℤ
path_at target (Passed history move) = begins (history ++ move ∷ []) target
path_at target (Held west history) = begins history target

-- all is passed on along the moves to a class history
abbrev pub path : List ClassMove → Point
path target = record { at = path_at target; one = pos 1 }

-- a point without negative numbers under such a path
pub record IsTame (point : Point) : Type 0 where
  pub positive : IsPositive point
  pub target : List ClassMove
  pub under : (column : Column) → point.at column ≤ℤ (path target).at column
  pub one : point.one ≤ℤ pos 1

path_low : (target : List ClassMove) (column : Column) → pos 0 ≤ℤ path_at target column
path_low target (Passed history move) = (begins_part (history ++ move ∷ []) target).low
path_low target (Held west history) = (begins_part history target).low

path_positive : (target : List ClassMove) → IsPositive (path target)
path_positive target = record { at = path_low target; one = omega (arith, ints) }

-- what holds of a class history that is reached along the path
pub record IsAlong (question : Question) (support : Support) (target : List ClassMove) (west : ClassLayout)
    (history : List ClassMove) : Type 0 where
  pub reached : is_reached question support west history ≡ true
  pub begun : begins history target ≤ℤ mass_at question support (path target) history
  pub most : mass_at question support (path target) history ≤ℤ pos 1

module _ (question : Question) (support : Support) (valid : IsValid question) (target : List ClassMove)
    (layout : ClassLayout × ℕ) (listed : Contains (layouts_of question) layout) where
  abbrev mass_on : List ClassMove → ℤ
  mass_on history = mass_at question support (path target) history

  abbrev Along : List ClassMove → Type 0
  Along history = IsAlong question support target layout.0 history

  kept_on : (history : List ClassMove) (move : ClassMove) → Along history
      → Contains (supported_moves question support layout.0 history) move
      → mass_on (history ++ move ∷ []) ≡ mass_on history → Along (history ++ move ∷ [])
  kept_on history move along found same = record {
    reached = reached_next question support layout.0 history move along.reached found;
    begun = subst (λ (z : ℤ). begins (history ++ move ∷ []) target ≤ℤ z) (sym same)
        (le_trans (begins (history ++ move ∷ []) target) (begins history target) (mass_on history)
        (begins_falls history move target) along.begun);
    most = subst (λ (z : ℤ). z ≤ℤ pos 1) (sym same) along.most;
  }

  passed_on : (history : List ClassMove) (move : ClassMove) → Along history
      → Contains (supported_moves question support layout.0 history) move
      → mass_on (history ++ move ∷ []) ≡ begins (history ++ move ∷ []) target → Along (history ++ move ∷ [])
  passed_on history move along found same =
      let number : ℤ = begins (history ++ move ∷ []) target in
      let part = begins_part (history ++ move ∷ []) target in
      record {
        reached = reached_next question support layout.0 history move along.reached found;
        begun = subst (λ (z : ℤ). number ≤ℤ z) (sym same) (itself number);
        most = subst (λ (z : ℤ). z ≤ℤ pos 1) (sym same) part.most;
      }
    where
      itself : (z : ℤ) → z ≤ℤ z
      itself z = omega (arith, ints)

  goes_on : (history : List ClassMove) (move : ClassMove) → Along history
      → Contains (supported_moves question support layout.0 history) move
      → TurnAt question support layout.0 history → Along (history ++ move ∷ [])
  goes_on history move along found (Ended over none not_theirs) =
      absurd (Contains-nil move (Contains-same move none found))
  goes_on history move along found (Forced only alone is nobody same) =
      elim (Contains-cons_cases only [] move (Contains-same move is found)) [
        | inl here ↦ kept_on history move along found (subst (λ (m : ClassMove). mass_on (history ++ m ∷ [])
            ≡ mass_on history) here (same (path target)))
        | inr there ↦ absurd (Contains-nil move there)
      ]
  goes_on history move along found (Own chooses not_theirs same some) =
      passed_on history move along found
      (mass_passed question support (path target) history move chooses
      (Contains-same move same found))
  goes_on history move along found (Theirs chooses some same) =
      kept_on history move along found (same (path target) move)

  along_none : Along []
  unfolding begins mass_of mass_from
  along_none = record {
    reached = reached_none question support layout.0;
    begun = omega (arith, ints);
    most = omega (arith, ints);
  }

  kept : AreKept question support (path target) layout.0 Along
  kept = record {
    goes = λ history move along found. goes_on history move along found (turn_at question support layout.0 history);
    payoffs = λ history along. paid_most question layout.0 history
        (reached_allows question support valid layout listed history along.reached);
    shared = λ history along chooses.
        le_trans (sum_passed question support (path target) history) (begins history target) (mass_on history)
        (beginnings_shared history (supported_moves question support [] history) target
        (supported_once question support [] history)) along.begun;
    held = λ history along chooses paid. within (begins history target) (mass_on history)
        (begins_part history target).low
        (masses_low question support (path target) (path_positive target) history) along.begun;
  }
    where
      within : (number mass : ℤ) → pos 0 ≤ℤ number → pos 0 ≤ℤ mass → number ≤ℤ mass → IsPaid mass number
      within number mass low positive le = record { some = low; few = omega (arith, ints, low, positive, le) }

  -- what is reached is reached along the path
  pub reached_along : (history : List ClassMove) → is_reached question support layout.0 history ≡ true → Along history
  reached_along history reached =
      reached_fits question support layout.0 Along
      (λ before move along found. goes_on before move along found (turn_at question support layout.0 before))
      along_none history reached

  pub path_paid : (history : List ClassMove) → is_reached question support layout.0 history ≡ true
      → IsPaid (mass_on history) (worth_at question support (path target) layout.0 history)
  path_paid history reached =
      within_paid question support (path target) layout.0 Along (path_positive target) kept
      (suc MOST_MOVES - length history)
      history (reached_along history reached) refl

-- ---- under the path

-- what the path is more than a point
abbrev rest_of : Point → Point → Point
rest_of point whole = record { at = λ column. whole.at column -ℤ point.at column; one = whole.one -ℤ point.one }

parted : (x y : ℤ) → x ≡ pos 1 *ℤ y +ℤ (x -ℤ y)
parted x y = omega (arith, ints)

rest_combined : (point whole : Point) → AreCombined (pos 1) point (rest_of point whole) whole
rest_combined point whole = record {
  at = λ column. parted (whole.at column) (point.at column);
  one = parted whole.one point.one;
}

low_rest : (x y : ℤ) → y ≤ℤ x → pos 0 ≤ℤ (x -ℤ y)
low_rest x y le = omega (arith, ints, le)

less : (x y z : ℤ) → x ≡ pos 1 *ℤ y +ℤ z → pos 0 ≤ℤ z → y ≤ℤ x
less x y z is low = omega (arith, ints, is, low)

-- a number between nothing and a limit
pub record IsBetween (most number : ℤ) : Type 0 where
  pub low : pos 0 ≤ℤ number
  pub few : number ≤ℤ most

module _ (question : Question) (support : Support) (valid : IsValid question) (point : Point) (tame : IsTame point)
    (layout : ClassLayout × ℕ) (listed : Contains (layouts_of question) layout) where
  abbrev whole : Point
  whole = path tame.target

  rest_positive : IsPositive (rest_of point whole)
  rest_positive = record {
    at = λ column. low_rest (whole.at column) (point.at column) (tame.under column);
    one = low_rest (pos 1) point.one tame.one;
  }

  pub tame_masses : (history : List ClassMove) → is_reached question support layout.0 history ≡ true
      → IsBetween (pos 1) (mass_at question support point history)
  tame_masses history reached =
      let along = reached_along question support valid tame.target layout listed history reached in
      record {
        low = masses_low question support point tame.positive history;
        few = le_trans (mass_at question support point history) (mass_at question support whole history) (pos 1)
            (less (mass_at question support whole history) (mass_at question support point history)
            (mass_at question support (rest_of point whole) history)
            (masses_linear question support (pos 1) point (rest_of point whole) whole (rest_combined point whole)
            history)
            (masses_low question support (rest_of point whole) rest_positive history)) along.most;
      }

  pub tame_worths : (history : List ClassMove) → is_reached question support layout.0 history ≡ true
      → IsBetween (pos HAND_SIZE) (worth_at question support point layout.0 history)
  tame_worths history reached =
      let along = reached_along question support valid tame.target layout listed history reached in
      let paid = path_paid question support valid tame.target layout listed history reached in
      let more : ℕ = suc MOST_MOVES - length history in
      record {
        low = within_low question support point tame.positive more layout.0 history;
        few = le_trans (worth_at question support point layout.0 history)
            (worth_at question support whole layout.0 history) (pos HAND_SIZE)
            (less (worth_at question support whole layout.0 history) (worth_at question support point layout.0 history)
            (worth_at question support (rest_of point whole) layout.0 history)
            (within_linear question support (pos 1) point (rest_of point whole) whole (rest_combined point whole) more
            layout.0 history)
            (within_low question support (rest_of point whole) rest_positive more layout.0 history))
            (thirteen (mass_at question support whole history) (worth_at question support whole layout.0 history)
            along.most paid.few);
      }
    where
      thirteen : (mass worth : ℤ) → mass ≤ℤ pos 1 → worth ≤ℤ (pos HAND_SIZE *ℤ mass) → worth ≤ℤ pos HAND_SIZE
      thirteen mass worth most few = omega (arith, ints, most, few)

  pub tame_sums : (history : List ClassMove) → is_reached question support layout.0 history ≡ true
      → declarer_chooses question history ≡ true → IsBetween (pos 1) (sum_passed question support point history)
  tame_sums history reached chooses =
      let along = reached_along question support valid tame.target layout listed history reached in
      let moves : List ClassMove = supported_moves question support [] history in
      record {
        low = sum_positive (λ move. point.at (Passed history move)) moves
            (λ move found. tame.positive.at (Passed history move));
        few = le_trans (sum_passed question support point history) (sum_passed question support whole history) (pos 1)
            (sum_le (λ move. point.at (Passed history move)) (λ move. whole.at (Passed history move)) moves
            (λ move found. tame.under (Passed history move)))
            (le_trans (sum_passed question support whole history) (begins history tame.target) (pos 1)
            (beginnings_shared history moves tame.target (supported_once question support [] history))
            (begins_part history tame.target).most);
      }
