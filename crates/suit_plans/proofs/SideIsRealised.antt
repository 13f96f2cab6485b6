-- A side whose rows share out the masses of their histories is realised.
use Rattle.std.proofs.Common.{◌≡◌, Bool, true, false, List, [], ◌∷◌, ◌++◌, Option, Some, None, refl, sym, ap, ◌∙◌}
use Rattle.std.proofs.Common.{subst, map}
use Rattle.std.specs.Prelude.{ℤ, pos, ◌≤ℤ◌, int_le}
use Rattle.std.specs.List.{list_all}
use Rattle.suit_lists.proofs.Firsts.{HasFirst}
use Rattle.suit_lists.proofs.Maps.{map_same}
use Rattle.suit_lists.proofs.Once.{IsOnce}
use Rattle.suit_cards.specs.Cards.{ClassLayout}
use Rattle.suit_game.specs.declared.question.Question.{Question}
use Rattle.suit_classes.specs.declared.class_moves.ClassMove.{ClassMove}
use Rattle.suit_classes.specs.declared.class_turn.ClassTurn.TheVariants as turns
use Rattle.suit_classes.specs.WhatIsAllowed.{is_among}
use Rattle.suit_classes.specs.ClassGame.{Allows}
use Rattle.suit_classes.specs.ClassPlaces.{class_after, class_moves, class_turn}
use Rattle.suit_classes.proofs.DistinctMoves.{once_class_moves}
use Rattle.suit_plans.specs.Masses.{Shares, Side, is_first, mass_from, mass_of, let_through, share}
use Rattle.suit_plans.specs.PlanLaws.{AreRealised}
use Rattle.suit_plans.specs.Properness.{are_rising, moves_of, sum_of}
use Rattle.suit_plans.proofs.MassSteps.{mass_kept, mass_shared}
use Rattle.suit_plans.proofs.SharesAddUpToTheMass.{count_case, count_positive, sum_counts, sum_first}
use Rattle.suit_num.proofs.IntegerLaws.{int_le-true}
use Rattle.suit_classes.proofs.UndecidedHasAMove.{turn_move}
use Rattle.suit_classes.specs.ClassMoves.{ClassHistory}

-- counts share out the mass of a history among legal moves
pub record SharesMass (question : Question) (side : Side) (history : ClassHistory) (shares : Shares) : Type 0 where
  pub legal : list_all (is_among (class_moves (class_after question history) side.counts)) (moves_of shares) ≡ true
  pub rising : are_rising (moves_of shares) ≡ true
  pub positive : list_all (λ (count : ClassMove × ℤ). int_le (pos 0) count.1) shares ≡ true
  pub adds : sum_of (map (λ (count : ClassMove × ℤ). count.1) shares) ≡ mass_of question side history

-- so do the counts of each row of a side, which begins with no negative mass and has no turn where play is decided
pub record IsSound (question : Question) (side : Side) : Type 0 where
  pub begins : pos 0 ≤ℤ side.whole
  pub decided : side.plays turns.Decided ≡ false
  pub rows : (history : ClassHistory) (shares : Shares) → side.shares_at history ≡ Some shares
      → SharesMass question side history shares

zero_positive : pos 0 ≤ℤ pos 0
zero_positive = int_le-true (pos 0) (pos 0) refl

share_positive : (row : Option Shares) (first : Bool) (mass : ℤ) (move : ClassMove) → pos 0 ≤ℤ mass
    → ((shares : Shares) → row ≡ Some shares
    → list_all (λ (count : ClassMove × ℤ). int_le (pos 0) count.1) shares ≡ true)
    → pos 0 ≤ℤ share row first mass move
share_positive (Some shares) first mass move low rows = count_positive shares move (rows shares refl)
share_positive None true mass move low rows = low
share_positive None false mass move low rows = zero_positive

from_positive : (question : Question) (side : Side) (history : ClassHistory) (mass : ℤ) (moves : List ClassMove)
    → IsSound question side → pos 0 ≤ℤ mass
    → pos 0 ≤ℤ mass_from question side history mass moves
unfolding mass_from
from_positive question side history mass [] sound low = low
from_positive question side history mass (move ∷ moves) sound low =
    from_positive question side (history ++ move ∷ []) (let_through question side history mass move) moves sound
    (count_case (side.plays (class_turn (class_after question history)))
    (share (side.shares_at history) (is_first (class_moves (class_after question history) side.counts) move) mass move)
    mass
    (share_positive (side.shares_at history) (is_first (class_moves (class_after question history) side.counts) move)
    mass move low
    (λ shares is. (sound.rows history shares is).positive)) low)

-- no mass of a sound side is negative
pub mass_positive : (question : Question) (side : Side) (history : ClassHistory) → IsSound question side
    → pos 0 ≤ℤ mass_of question side history
unfolding mass_of
mass_positive question side history sound = from_positive question side [] side.whole history sound sound.begins

shares_add : (question : Question) (side : Side) (history : ClassHistory) (legal : List ClassMove)
    (row : Option Shares)
    → ((shares : Shares) → row ≡ Some shares → SharesMass question side history shares)
    → class_moves (class_after question history) side.counts ≡ legal → IsOnce legal → HasFirst legal
    → sum_of (map (λ move. share row (is_first legal move) (mass_of question side history) move) legal)
    ≡ mass_of question side history
shares_add question side history legal (Some shares) rows is once some =
    let fits = rows shares refl in
    sum_counts shares legal once (subst (λ (l : List ClassMove). list_all (is_among l) (moves_of shares)
    ≡ true) is fits.legal) fits.rising ∙ fits.adds
shares_add question side history legal None rows is once some =
    let mass : ℤ = mass_of question side history in
    subst (λ (l : List ClassMove). sum_of (map (λ move. share None (is_first l move) mass move) l)
    ≡ mass) (sym some.parts)
    (sum_first mass some.first some.more (subst (IsOnce {X = ClassMove}) some.parts once))

-- at a turn of a sound side the moves share what came to it
pub mass_adds : (question : Question) (side : Side) (counts : ClassLayout) (history : ClassHistory)
    → IsSound question side
    → class_moves (class_after question history) side.counts ≡ class_moves (class_after question history) counts
    → Allows question counts history → side.plays (class_turn (class_after question history)) ≡ true
    → sum_of (map (λ move. mass_of question side (history ++ move ∷ []))
    (class_moves (class_after question history) counts)) ≡ mass_of question side history
mass_adds question side counts history sound same allows plays =
    let legal : List ClassMove = class_moves (class_after question history) counts in
    let mass : ℤ = mass_of question side history in
    let each : map (λ move. mass_of question side (history ++ move ∷ [])) legal
    ≡ map (λ move. share (side.shares_at history) (is_first legal move) mass move) legal =
    map_same (λ move. mass_of question side (history ++ move ∷ []))
    (λ move. share (side.shares_at history) (is_first legal move) mass move) legal
    (λ move found. mass_shared question side history move plays
    ∙ ap (λ (l : List ClassMove). share (side.shares_at history) (is_first l move) mass move) same) in
    ap sum_of each
    ∙ shares_add question side history legal (side.shares_at history) (sound.rows history) same
    (once_class_moves (class_after question history) counts)
    (turn_move question side.plays counts history sound.decided allows plays)

-- a sound side is realised where its moves are those for West's counts
pub sound_realised : (question : Question) (side : Side) (counts : ClassLayout) → IsSound question side
    → ((history : ClassHistory) → side.plays (class_turn (class_after question history)) ≡ true
    → class_moves (class_after question history) side.counts ≡ class_moves (class_after question history) counts)
    → AreRealised question side counts
sound_realised question side counts sound same = record {
  positive = λ history allows. mass_positive question side history sound;
  shared = λ history allows plays. mass_adds question side counts history sound (same history plays) allows plays;
  kept = λ history move waits. mass_kept question side history move waits;
}
