-- A short class history leaves the counts of a position small.
use Rattle.std.proofs.Common.{◌≡◌, ℕ, zero, suc, ◌+◌, ◌≤◌, Bool, true, false, List, [], ◌∷◌, ◌++◌, length, get_or, ap}
use Rattle.std.proofs.Common.{inl, inr, arith}
use Rattle.std.specs.Prelude.{fold, nat_lt, if◌then◌else◌}
use Rattle.std.proofs.Math.ListN.{set}
use Rattle.std.proofs.lemmas.Bool.{cases_lt, cases_eq}
use Rattle.std.proofs.lemmas.List.{get_or-set_same, get_or-set_other, set_past}
use Rattle.std.proofs.lemmas.List.Sums.{fold_push}
use Rattle.suit_classes.specs.ClassMoves.{ClassHistory}
use Rattle.suit_cards.specs.Cards.{ClassLayout}
use Rattle.suit_cards.specs.declared.seats.Seat.{Seat}
use Rattle.suit_cards.specs.declared.seats.Seat.TheVariants.{N, E, S, W}
use Rattle.suit_game.specs.declared.question.Question.{Question}
use Rattle.suit_classes.specs.declared.classes.Owner.{Owner}
use Rattle.suit_classes.specs.declared.classes.Owner.TheVariants as owners
use Rattle.suit_classes.specs.declared.class_moves.ClassMove.{ClassMove}
use Rattle.suit_classes.specs.declared.class_moves.ClassMove.TheVariants.{Lead, Follow, ShowOut}
use Rattle.suit_classes.specs.declared.class_trick.ClassTrick.TheVariants.{Closed, Open}
use Rattle.suit_classes.specs.ClassPlaces.{ClassTrick, ClassView, IsSmall, class_after, class_ended, class_led}
use Rattle.suit_classes.specs.ClassPlaces.{class_passed, class_played, class_start, class_step, class_step_in, side}
use Rattle.suit_classes.proofs.CountedClassByClass.{none_played-at}
use Rattle.suit_game.specs.declared.limits.TheConstants.{MOST_MOVES}

-- so many cards of a class have gone at most, and so many tricks been won
record Bounded (view : ClassView) (gone won : ℕ) : Type 0 where
  gone_w : (class : ℕ) → get_or view.gone_w class 0 ≤ gone
  gone_e : (class : ℕ) → get_or view.gone_e class 0 ≤ gone
  won_most : view.won ≤ won

more_at : (counts : ClassLayout) (class k most : ℕ) → ((k : ℕ) → get_or counts k 0 ≤ most)
    → get_or (set counts class (get_or counts class 0 + 1)) k 0 ≤ suc most
more_at counts class k most small = elim (cases_lt class (length counts)) [
  | inl within ↦ elim (cases_eq k class) [
    | inl here ↦ rw here (omega (arith, get_or-set_same counts class (get_or counts class 0 + 1) 0 within, small class))
    | inr other ↦ omega (arith, get_or-set_other counts class k (get_or counts class 0 + 1) 0 other, small k)
  ]
  | inr past ↦
      omega (arith, ap (λ (l : List ℕ). get_or l k 0) (set_past counts class (get_or counts class 0 + 1) past), small k)
]

bounded_more : (view : ClassView) (gone won more : ℕ) → gone ≤ more → Bounded view gone won → Bounded view more won
bounded_more view gone won more up bounded = record {
  gone_w = λ class. omega (arith, bounded.gone_w class);
  gone_e = λ class. omega (arith, bounded.gone_e class);
  won_most = bounded.won_most;
}

bounded_played : (view : ClassView) (seat : Seat) (class gone won : ℕ) → Bounded view gone won
    → Bounded (class_played view seat class) (suc gone) won
bounded_played view N class gone won bounded =
    record {
      gone_w = λ k. omega (arith, bounded.gone_w k);
      gone_e = λ k. omega (arith, bounded.gone_e k);
      won_most = bounded.won_most;
    }
bounded_played view S class gone won bounded =
    record {
      gone_w = λ k. omega (arith, bounded.gone_w k);
      gone_e = λ k. omega (arith, bounded.gone_e k);
      won_most = bounded.won_most;
    }
bounded_played view W class gone won bounded =
    record {
      gone_w = λ k. more_at view.gone_w class k gone bounded.gone_w;
      gone_e = λ k. omega (arith, bounded.gone_e k);
      won_most = bounded.won_most;
    }
bounded_played view E class gone won bounded =
    record {
      gone_w = λ k. omega (arith, bounded.gone_w k);
      gone_e = λ k. more_at view.gone_e class k gone bounded.gone_e;
      won_most = bounded.won_most;
    }

bounded_ended : (view : ClassView) (winner : Owner) (gone won : ℕ) → Bounded view gone won
    → Bounded (class_ended view winner) gone (suc won)
bounded_ended view owners.N gone won bounded =
    record { gone_w = bounded.gone_w; gone_e = bounded.gone_e; won_most = omega (arith, bounded.won_most) }
bounded_ended view owners.S gone won bounded =
    record { gone_w = bounded.gone_w; gone_e = bounded.gone_e; won_most = omega (arith, bounded.won_most) }
bounded_ended view owners.Defence gone won bounded =
    record { gone_w = bounded.gone_w; gone_e = bounded.gone_e; won_most = omega (arith, bounded.won_most) }

bounded_passed : (view : ClassView) (turn : Seat) (after : ℕ) (winner : Owner) (highest gone won : ℕ)
    → Bounded view gone won
    → Bounded (class_passed view turn after winner highest) gone (suc won)
bounded_passed view turn zero winner highest gone won bounded = bounded_ended view winner gone won bounded
bounded_passed view turn (suc after) winner highest gone won bounded =
    record { gone_w = bounded.gone_w; gone_e = bounded.gone_e; won_most = omega (arith, bounded.won_most) }

bounded_led : (view : ClassView) (seat : Seat) (class gone won : ℕ) → Bounded view gone won
    → Bounded (class_led view seat class) (suc gone) (suc won)
bounded_led view N class gone won bounded =
    record {
      gone_w = λ k. omega (arith, bounded.gone_w k);
      gone_e = λ k. omega (arith, bounded.gone_e k);
      won_most = omega (arith, bounded.won_most);
    }
bounded_led view S class gone won bounded =
    record {
      gone_w = λ k. omega (arith, bounded.gone_w k);
      gone_e = λ k. omega (arith, bounded.gone_e k);
      won_most = omega (arith, bounded.won_most);
    }
bounded_led view E class gone won bounded =
    record {
      gone_w = λ k. omega (arith, bounded.gone_w k);
      gone_e = λ k. omega (arith, bounded.gone_e k);
      won_most = omega (arith, bounded.won_most);
    }
bounded_led view W class gone won bounded =
    record {
      gone_w = λ k. omega (arith, bounded.gone_w k);
      gone_e = λ k. omega (arith, bounded.gone_e k);
      won_most = omega (arith, bounded.won_most);
    }

bounded_either : (view : ClassView) (turn : Seat) (after : ℕ) (winner : Owner) (highest class gone won : ℕ)
    (beats : Bool)
    → Bounded view gone won
    → Bounded
    (if beats then class_passed view turn after (side turn) class else class_passed view turn after winner highest) gone
    (suc won)
bounded_either view turn after winner highest class gone won true bounded =
    bounded_passed view turn after (side turn) class gone won bounded
bounded_either view turn after winner highest class gone won false bounded =
    bounded_passed view turn after winner highest gone won bounded

bounded_same : (view : ClassView) (gone won : ℕ) → Bounded view gone won → Bounded view (suc gone) (suc won)
bounded_same view gone won bounded = record {
  gone_w = λ class. omega (arith, bounded.gone_w class);
  gone_e = λ class. omega (arith, bounded.gone_e class);
  won_most = omega (arith, bounded.won_most);
}

bounded_in : (view : ClassView) (trick : ClassTrick) (move : ClassMove) (gone won : ℕ) → Bounded view gone won
    → Bounded (class_step_in view trick move) (suc gone) (suc won)
bounded_in view Closed (Lead seat class) gone won bounded = bounded_led view seat class gone won bounded
bounded_in view Closed (Follow class) gone won bounded = bounded_same view gone won bounded
bounded_in view Closed ShowOut gone won bounded = bounded_same view gone won bounded
bounded_in view (Open turn after winner highest) (Lead seat class) gone won bounded = bounded_same view gone won bounded
bounded_in view (Open turn after winner highest) (Follow class) gone won bounded =
    bounded_either (class_played view turn class) turn after winner highest class (suc gone) won (nat_lt class highest)
    (bounded_played view turn class gone won bounded)
bounded_in view (Open turn after winner highest) ShowOut gone won bounded =
    bounded_passed view turn after winner highest (suc gone) won
    (bounded_more view gone won (suc gone) (omega arith) bounded)

bounded_from : (view : ClassView) (history : ClassHistory) (gone won : ℕ) → Bounded view gone won
    → Bounded (fold class_step view history) (length history + gone) (length history + won)
bounded_from view [] gone won bounded = record {
  gone_w = λ class. omega (arith, bounded.gone_w class);
  gone_e = λ class. omega (arith, bounded.gone_e class);
  won_most = omega (arith, bounded.won_most);
}
bounded_from view (move ∷ history) gone won bounded =
    let rest =
    bounded_from (class_step view move) history (suc gone) (suc won)
    (bounded_in view view.trick move gone won bounded) in
    record {
      gone_w = λ class. omega (arith, rest.gone_w class);
      gone_e = λ class. omega (arith, rest.gone_e class);
      won_most = omega (arith, rest.won_most);
    }

bounded_start : (question : Question) → Bounded (class_start question) 0 0
bounded_start question = record {
  gone_w = λ class. omega (arith, none_played-at class);
  gone_e = λ class. omega (arith, none_played-at class);
  won_most = omega arith;
}

-- after a short history the counts are small
pub small_after : (question : Question) (history : ClassHistory) → length history ≤ MOST_MOVES
    → IsSmall (class_after question history)
small_after question history short =
    let bounded = bounded_from (class_start question) history 0 0 (bounded_start question) in
    record {
      gone_w = λ class. omega (arith, bounded.gone_w class);
      gone_e = λ class. omega (arith, bounded.gone_e class);
      won = omega (arith, bounded.won_most);
    }

-- the position after a history and one more move
pub class_after_move : (question : Question) (history : ClassHistory) (move : ClassMove)
    → class_after question (history ++ move ∷ []) ≡ class_step (class_after question history) move
class_after_move question history move = fold_push class_step (class_start question) history move
