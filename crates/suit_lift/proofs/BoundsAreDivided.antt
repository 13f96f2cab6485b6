-- Bounds of class moves, each divided among the unplayed cards of its class, add up to no more than the bounds
-- (spread_sum).
use Rattle.std.proofs.Common.{◌≡◌, ℕ, zero, suc, ◌+◌, ◌*◌, ◌/◌, ◌≤◌, Bool, true, false, cond, List, [], ◌∷◌, map, refl}
use Rattle.std.proofs.Common.{sym, ap, ◌∙◌, subst, inl, inr, arith}
use Rattle.std.specs.Prelude.{◌||◌, ◌==◌, if◌then◌else◌}
use Rattle.std.specs.List.{AllByRecursion, sum_by}
use Rattle.std.proofs.Math.Nat.{mul-le-mul_left}
use Rattle.std.proofs.lemmas.Bool.{cases_Bool, true≢false}
use Rattle.std.proofs.lemmas.List.Sums.{sum_by-cons}
use Rattle.suit_lists.proofs.Elements.{each_of}
use Rattle.suit_lists.proofs.Filters.{length_filter-most}
use Rattle.suit_lists.proofs.Maps.{each_map}
use Rattle.suit_lists.proofs.Once.{IsOnce, once_map}
use Rattle.suit_lists.proofs.Sums.{sum_at_most, sum_by-mul, sum_by_filter, sum_by_map, sum_by_none}
use Rattle.suit_cards.specs.Cards.{Cards}
use Rattle.suit_cards.specs.Holdings.{IsHolding, holds, suit}
use Rattle.suit_cards.proofs.WhetherARankIsHeld.{length-IsHolding}
use Rattle.suit_cards.proofs.HoldingIsWhatItHolds.{IsHolding-others_of, filter_suit-holds}
use Rattle.suit_game.specs.declared.question.Question.{Question}
use Rattle.suit_game.specs.declared.moves.Move.{Move}
use Rattle.suit_game.specs.declared.moves.Move.TheVariants as cards
use Rattle.suit_game.specs.Positions.{without}
use Rattle.suit_game.specs.Question.{missing}
use Rattle.suit_game.specs.declared.limits.TheConstants.{HAND_SIZE}
use Rattle.suit_game.proofs.WhatAHandHolds.{holds-from_without}
use Rattle.suit_classes.specs.declared.class_moves.ClassMove.{ClassMove}
use Rattle.suit_classes.specs.declared.class_moves.ClassMove.TheVariants.{Follow, ShowOut}
use Rattle.suit_classes.specs.WhatIsAllowed.{is_among}
use Rattle.suit_classes.specs.Classes.{Hands, hands_of, class_of, defence_classes}
use Rattle.suit_classes.specs.ClassGame.{cards_in}
use Rattle.suit_classes.specs.ClassMoves.{same_class_move}
use Rattle.suit_classes.specs.MoveOrder.{class_named}
use Rattle.suit_classes.proofs.OneSideHoldsAClass.{IsHolding-without}
use Rattle.suit_classes.proofs.SameMoves.{same_move_is}
use Rattle.suit_lift.specs.Lifts.{common}
use Rattle.suit_lift.specs.Naming.{unplayed}
use Rattle.suit_lift.proofs.HowManyAreAlike.{choice_classes}
use Rattle.suit_classes.proofs.CardsByClass.{once_defence}
use Rattle.suit_lift.proofs.GoneAndLeft.{group_sum}
use Rattle.suit_lift.proofs.WeightsAreShares.{common_divided}

-- the worth of a move that is one of some, and nothing of others
abbrev pub worth_among : List ClassMove → (ClassMove → ℕ) → ClassMove → ℕ
worth_among moves worth move = if is_among moves move then worth move else 0

named_once : (move : ClassMove) (worth : ClassMove → ℕ) (those : List ClassMove) → IsOnce those
    → sum_by (λ other. if same_class_move other move then worth other else 0) those ≤ worth move
unfolding IsOnce
named_once move worth [] once = omega arith
named_once move worth (first ∷ those) once =
    let term : ClassMove → ℕ = λ other. if same_class_move other move then worth other else 0 in
    elim (cases_Bool (same_class_move first move)) [
      | inl same ↦
          let is : first ≡ move = same_move_is first move same in
          let none : sum_by term those ≡ 0 =
          none_named move worth those (subst (λ (m : ClassMove). AllByRecursion (λ y. m ≡ y → ⊥) those) is once.0) in
          let here : term first ≡ worth move = ap {B = ℕ} (λ (b : Bool). if b then worth first else 0) same
          ∙ ap worth is in
          omega (arith, sum_by-cons term first those, here, none)
      | inr other ↦
          let here : term first ≡ 0 = ap {B = ℕ} (λ (b : Bool). if b then worth first else 0) other in
          omega (arith, sum_by-cons term first those, here, named_once move worth those once.1)
    ]
  where
    none_named : (it : ClassMove) (value : ClassMove → ℕ) (xs : List ClassMove) → AllByRecursion (λ y. it ≡ y
        → ⊥) xs → sum_by (λ other. if same_class_move other it then value other else 0) xs ≡ 0
    none_named it value [] apart = refl
    none_named it value (x ∷ xs) apart =
        let term_of : ClassMove → ℕ = λ other. if same_class_move other it then value other else 0 in
        let away : term_of x ≡ 0 = elim (cases_Bool (same_class_move x it)) [
          | inl same ↦ absurd (apart.0 (sym (same_move_is x it same)))
          | inr other ↦ ap {B = ℕ} (λ (b : Bool). if b then value x else 0) other
        ] in
        omega (arith, sum_by-cons term_of x xs, away, none_named it value xs apart.1)

-- a part of some moves, each once, is worth no more than all
part_sum : (moves those : List ClassMove) (worth : ClassMove → ℕ) → IsOnce those
    → sum_by (worth_among moves worth) those ≤ sum_by worth moves
unfolding is_among
part_sum [] those worth once = omega (arith, sum_by_none (λ move. 0) those (λ move. refl))
part_sum (first ∷ moves) those worth once =
    let here : ClassMove → ℕ = λ other. if same_class_move other first then worth other else 0 in
    let split : sum_by (worth_among (first ∷ moves) worth) those ≤ sum_by here those + sum_by
    (worth_among moves worth) those = both those in
    omega (
      arith,
      split,
      named_once first worth those once,
      part_sum moves those worth once,
      sum_by-cons worth first moves,
    )
  where
    either : (a b : Bool) (n : ℕ) → cond {A = ℕ} (a || b) n 0 ≤ cond {A = ℕ} a n 0 + cond {A = ℕ} b n 0
    either true b n = elim b as (λ c. n ≤ n + cond {A = ℕ} c n 0) [ true ↦ omega arith | false ↦ omega arith ]
    either false b n = omega arith

    both : (xs : List ClassMove) → sum_by
        (λ move. if same_class_move move first || is_among moves move then worth move else 0) xs
        ≤ sum_by (λ move. if same_class_move move first then worth move else 0) xs + sum_by
        (λ move. if is_among moves move then worth move else 0) xs
    both [] = omega arith
    both (x ∷ xs) =
        let all : ClassMove → ℕ = λ move. if same_class_move move first || is_among moves move then worth move else 0 in
        let one : ClassMove → ℕ = λ move. if same_class_move move first then worth move else 0 in
        let rest : ClassMove → ℕ = λ move. if is_among moves move then worth move else 0 in
        omega (
          arith,
          sum_by-cons all x xs,
          sum_by-cons one x xs,
          sum_by-cons rest x xs,
          either
              (same_class_move x first) (is_among moves x) (worth x),
          both xs,
        )

-- what the defenders may follow with, told by class
their_moves : List ℕ → List ClassMove
their_moves classes = ShowOut ∷ map Follow classes

their_once : (classes : List ℕ) → IsOnce classes → IsOnce (their_moves classes)
unfolding IsOnce their_moves
their_once classes once = (
  each_map (λ move. ShowOut ≡ move → ⊥) Follow classes (each_of (λ class. ShowOut ≡ Follow class
      → ⊥) classes (λ class same. true≢false (ap is_out same))),
  once_map Follow classes (λ class number same. ap class_named same) once,
)
  where
    is_out : ClassMove → Bool
    is_out ShowOut = true
    is_out _ = false

shared_class : (n worth : ℕ) → n ≤ HAND_SIZE → n * (common / n * worth) ≤ common * worth
shared_class zero worth few = omega arith
shared_class (suc n) worth few =
    let divides : common / suc n * suc n ≡ common = common_divided (suc n) (omega arith) few in
    omega (arith, ap (λ (m : ℕ). m * worth) divides)

kept_card : (b : Bool) (n : ℕ) → cond {A = ℕ} b n 0 ≤ n
kept_card true n = omega arith
kept_card false n = omega arith

module _ (question : Question) (gone : Cards) (moves : List ClassMove) (worth : ClassMove → ℕ) where
  abbrev pub left : Cards
  left = without (missing question) gone

  left_falls : IsHolding left
  left_falls = IsHolding-without (missing question) gone (IsHolding-others_of question.north question.south)

  -- the share of an unplayed card in the worth of its class
  abbrev pub card_share : ℕ → ℕ
  card_share card =
      common / unplayed question gone (cards.Follow card)
      * worth_among moves worth (Follow (class_of (hands_of question) card))

  pub few_of_class : (class : ℕ) → cards_in (hands_of question) left class ≤ HAND_SIZE
  few_of_class class =
      omega (
        arith,
        length_filter-most (λ card. class_of
            (hands_of question) card == class) left,
        length-IsHolding left left_falls,
      )

  cards_sum : sum_by (λ card. if holds left card then card_share card else 0) suit ≤ common
      * sum_by (λ class. worth_among moves worth (Follow class)) (defence_classes (hands_of question))
  cards_sum =
      let hands : Hands = hands_of question in
      let classes : List ℕ = defence_classes hands in
      let by_class : ℕ → ℕ = λ class. common / cards_in hands left class * worth_among moves worth (Follow class) in
      let kept : sum_by (λ card. if holds left card then card_share card else 0) suit
      ≡ sum_by (λ card. by_class (class_of hands card)) left =
      sym (sum_by_filter (holds left) card_share suit) ∙ ap (sum_by card_share) (filter_suit-holds left left_falls) in
      let grouped : sum_by (λ class. cards_in hands left class * by_class class) classes
      ≡ sum_by (λ card. by_class (class_of hands card)) left =
      group_sum hands by_class classes left (once_defence hands) (choice_classes question left (λ card held.
      (holds-from_without (missing question) gone card held).0)) in
      let each : sum_by (λ class. cards_in hands left class * by_class class) classes ≤ sum_by (λ class. common
      * worth_among moves worth (Follow class)) classes =
      sum_at_most (λ class. cards_in hands left class * by_class class) (λ class. common
      * worth_among moves worth (Follow class)) classes
      (each_of (λ class. cards_in hands left class * by_class class ≤ common
      * worth_among moves worth (Follow class)) classes
      (λ class. shared_class (cards_in hands left class) (worth_among moves worth (Follow class))
      (few_of_class class))) in
      omega (arith, kept, grouped, each, sum_by-mul common (λ class. worth_among moves worth (Follow class)) classes)

  abbrev pub out_share : ℕ
  out_share = common / unplayed question gone cards.ShowOut * worth_among moves worth ShowOut

  out_is : out_share ≡ common * worth_among moves worth ShowOut
  unfolding common
  out_is = refl

  -- with showing out they are no more than the worths of all moves, over the common multiple
  pub spread_sum : (bound : Move → ℕ) → bound cards.ShowOut ≤ out_share → ((card : ℕ)
      → bound (cards.Follow card) ≤ (if holds left card then card_share card else 0))
      → sum_by bound (cards.ShowOut ∷ map cards.Follow suit) ≤ common * sum_by worth moves
  unfolding their_moves
  spread_sum bound out each =
      let hands : Hands = hands_of question in
      let classes : List ℕ = defence_classes hands in
      let follows : sum_by (λ card. bound (cards.Follow card)) suit ≤ sum_by
      (λ card. if holds left card then card_share card else 0) suit =
      sum_at_most (λ card. bound (cards.Follow card)) (λ card. if holds left card then card_share card else 0) suit
      (each_of (λ card. bound (cards.Follow card) ≤ (if holds left card then card_share card else 0)) suit each) in
      let parts = part_sum moves (their_moves classes) worth (their_once classes (once_defence hands)) in
      omega (
        arith,
        sum_by-cons bound cards.ShowOut (map cards.Follow suit),
        sum_by_map bound cards.Follow suit,
        out,
        out_is,
        follows,
        cards_sum,
        mul-le-mul_left common parts,
        ap (λ (n : ℕ). common * n) (sum_by-cons (worth_among moves worth) ShowOut (map Follow classes)),
        ap (λ (n : ℕ). common * n) (sum_by_map (worth_among moves worth) Follow classes),
      )
