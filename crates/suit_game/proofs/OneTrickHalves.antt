-- With one card at most in each hand of declarer, the value is the payoff of the sure trick: declarer earns it, and the
-- defenders hold to it.
use Rattle.std.proofs.Common.{◌≡◌, ℕ, ◌<◌, ◌≤◌, Bool, true, false, cond, not, ◌&&◌, ◌||◌, List, [], ◌∷◌, length, refl}
use Rattle.std.proofs.Common.{sym, ◌∙◌, ◌⊎◌, inl, inr, arith}
use Rattle.std.proofs.lemmas.Bool.{true≢false, cases_Bool, or_cases, or_parts, cases_eq, false_from_ne_true}
use Rattle.suit_game.specs.declared.limits.TheConstants.{MOST_MOVES}
use Rattle.suit_cards.specs.declared.seats.Seat.{Seat}
use Rattle.suit_cards.specs.declared.seats.Seat.TheVariants.{N, E, S, W}
use Rattle.suit_cards.specs.Holdings.{IsHolding, holds}
use Rattle.suit_cards.proofs.HoldingIsWhatItHolds.{IsHolding-filter}
use Rattle.suit_game.specs.declared.question.Question.{Question}
use Rattle.suit_game.specs.Fractions.{IsAtLeast, IsAtMost}
use Rattle.suit_game.specs.Layouts.{total}
use Rattle.suit_game.specs.OneTrick.{IsOneTrick, sure_tricks, one_trick_value}
use Rattle.suit_game.specs.Positions.{start_place, without, dealt, has_ended, payoff}
use Rattle.suit_game.specs.Question.{missing}
use Rattle.suit_game.specs.Settled.{Settles}
use Rattle.suit_game.specs.Strategies.{Way, DefenceWay, same_seat, by_rows, by_defence_rows}
use Rattle.suit_game.specs.Gains.{is_declarer, pay}
use Rattle.suit_game.proofs.MeansLieBetween.{mean-least, mean-most}
use Rattle.suit_game.proofs.PayDenominators.{gain-den}
use Rattle.suit_game.proofs.WaysPayAsLinesEnd.{PlaysFirst, Carries, pay_within_holds}
use Rattle.suit_game.proofs.WhatAHandHolds.{holds-from_without, holds-without, one_card, holds-below, highest_first}
use Rattle.suit_game.proofs.MovesByTheHand.{IsPlayable}
use Rattle.suit_game.proofs.TrickStates.{tally, comes, Stand, Free, Taken, Waiting, not_gone, not_the_ace}
use Rattle.suit_game.proofs.OneTrickPlay.{AreSmall, one_trick_ends}
use Rattle.suit_game.proofs.LayoutCards.{IsPart, missing-apart, holds-missing, dealt-falls, east-missing}
use Rattle.suit_game.proofs.GainBounds.{payoff-grows, gain-least, gain-most}

are_small : (question : Question) (west : List ℕ) → IsOneTrick question → IsPart 15 (missing question) west
    → AreSmall question west
are_small question west one part = record {
  north = one.north_one;
  south = one.south_one;
  low =
      λ seat card held. holds-below 15 (dealt question west seat) card
      (dealt-falls question west one.north one.south part.falls seat) held;
}

-- the ace is not missing where declarer has it
ace_not_missing : (question : Question) → (holds question.north 14 ≡ true) ⊎ (holds question.south 14 ≡ true)
    → holds (missing question) 14 ≡ true → ⊥
ace_not_missing question (inl north) held = (missing-apart question 14 held).0 north
ace_not_missing question (inr south) held = (missing-apart question 14 held).1 south

-- then neither defender has it
west-none : (question : Question) (west : List ℕ) → IsPart 15 (missing question) west
    → (holds question.north 14 ≡ true) ⊎ (holds question.south 14 ≡ true) → holds west 14 ≡ false
west-none question west part ace =
    false_from_ne_true (holds west 14) (λ held. ace_not_missing question ace (part.held 14 held))

east-none : (question : Question) (west : List ℕ)
    → (holds question.north 14 ≡ true) ⊎ (holds question.south 14 ≡ true) → holds (dealt question west E) 14 ≡ false
east-none question west ace =
    false_from_ne_true (holds (dealt question west E) 14)
    (λ held. ace_not_missing question ace (east-missing question west 14 held))

-- after a lead, where declarer has the ace: the card led is the ace, or it is the only card of the hand across
ace_stands : (firsts : Bool) (Fine : ℕ → Type 0) (question : Question) (west : List ℕ) (leader across : Seat) (card : ℕ)
    → Fine (tally leader) → Fine (tally across) → length (dealt question west leader) ≤ 1
    → length (dealt question west across) ≤ 1
    → card < 15 → holds (dealt question west leader) card ≡ true
    → (holds (dealt question west leader) 14 ≡ true) ⊎ (holds (dealt question west across) 14 ≡ true)
    → (holds (dealt question west leader) 14 ≡ false → (other : Seat) → same_seat other across ≡ false
    → holds (dealt question west other) 14 ≡ false)
    → comes leader 3 across ≡ true
    → Stand firsts Fine question west leader 3 (card ∷ []) leader card
ace_stands firsts Fine question west leader across card fine_leader fine_across one_leader one_across low held ace
    others later =
    elim (cases_eq card 14) [
      | inl same ↦ Taken fine_leader (omega arith)
      | inr differs ↦
          let leader_none : holds (dealt question west leader) 14 ≡ false =
          false_from_ne_true (holds (dealt question west leader) 14)
          (λ there. differs (one_card (dealt question west leader) card 14 one_leader held there)) in
          let has : holds (dealt question west across) 14 ≡ true =
          elim ace [ inl here ↦ absurd (true≢false (sym here ∙ leader_none)) | inr there ↦ there ] in
          Waiting across
          (record {
            fine = fine_across;
            has = has;
            only = others leader_none;
            forced = λ gone played kept plays.
                one_card (dealt question west across) played 14 one_across
                (holds-from_without (dealt question west across) gone played plays.0).0 has;
          })
          (omega (arith, differs)) (not_gone [] card differs refl) later
    ]

others_none_n : (question : Question) (west : List ℕ) → IsPart 15 (missing question) west
    → (holds question.north 14 ≡ true) ⊎ (holds question.south 14 ≡ true) → holds question.south 14 ≡ false
    → (other : Seat) → same_seat other N ≡ false → holds (dealt question west other) 14 ≡ false
others_none_n question west part ace none N differs = absurd (true≢false differs)
others_none_n question west part ace none E differs = east-none question west ace
others_none_n question west part ace none S differs = none
others_none_n question west part ace none W differs = west-none question west part ace

others_none_s : (question : Question) (west : List ℕ) → IsPart 15 (missing question) west
    → (holds question.north 14 ≡ true) ⊎ (holds question.south 14 ≡ true) → holds question.north 14 ≡ false
    → (other : Seat) → same_seat other S ≡ false → holds (dealt question west other) 14 ≡ false
others_none_s question west part ace none N differs = none
others_none_s question west part ace none E differs = east-none question west ace
others_none_s question west part ace none S differs = absurd (true≢false differs)
others_none_s question west part ace none W differs = west-none question west part ace

swap : {A B : Type 0} → A ⊎ B → B ⊎ A
swap (inl a) = inr a
swap (inr b) = inl b

-- where declarer has the ace and a lead is legal, one trick is sure, and else none
sure-one : (question : Question) → (holds question.north 14 || holds question.south 14) ≡ true
    → has_ended question (start_place question) ≡ false
    → sure_tricks question ≡ 1
sure-one question ace going = rw (ace, going) refl

sure-none : (question : Question) → (holds question.north 14 || holds question.south 14) ≡ false
    → sure_tricks question ≡ 0
sure-none question ace = rw ace refl

sure-over : (question : Question) → has_ended question (start_place question) ≡ true → sure_tricks question ≡ 0
sure-over question over =
    rw over (elim (holds question.north 14 || holds question.south 14) as
    (λ b. cond {A = ℕ} (b && false) 1 0 ≡ 0) [ true ↦ refl | false ↦ refl ])

tally-most : (seat : Seat) → tally seat ≤ 1
tally-most N = omega arith
tally-most E = omega arith
tally-most S = omega arith
tally-most W = omega arith

lower_n : (question : Question) (west : List ℕ) → IsOneTrick question → IsPart 15 (missing question) west
    → has_ended question (start_place question) ≡ false → (card : ℕ) → holds question.north card ≡ true
    → Stand false (λ won. sure_tricks question ≤ won) question west N 3 (card ∷ []) N card
lower_n question west one part going card held =
    elim (cases_Bool (holds question.north 14 || holds question.south 14)) [
      | inl ace ↦
          let sure : sure_tricks question ≡ 1 = sure-one question ace going in
          let where_ace : (holds question.north 14 ≡ true) ⊎ (holds question.south 14 ≡ true) =
          or_cases (holds question.north 14) (holds question.south 14) ace in
          ace_stands false (λ won. sure_tricks question ≤ won) question west N S card (rw sure (omega arith))
          (rw sure (omega arith))
          one.north_one one.south_one (holds-below 15 question.north card one.north held) held where_ace
          (others_none_s question west part where_ace) refl
      | inr none ↦ Free (λ seat. rw (sure-none question none) (omega arith))
    ]

lower_s : (question : Question) (west : List ℕ) → IsOneTrick question → IsPart 15 (missing question) west
    → has_ended question (start_place question) ≡ false → (card : ℕ) → holds question.south card ≡ true
    → Stand false (λ won. sure_tricks question ≤ won) question west S 3 (card ∷ []) S card
lower_s question west one part going card held =
    elim (cases_Bool (holds question.north 14 || holds question.south 14)) [
      | inl ace ↦
          let sure : sure_tricks question ≡ 1 = sure-one question ace going in
          let where_ace : (holds question.north 14 ≡ true) ⊎ (holds question.south 14 ≡ true) =
          or_cases (holds question.north 14) (holds question.south 14) ace in
          ace_stands false (λ won. sure_tricks question ≤ won) question west S N card (rw sure (omega arith))
          (rw sure (omega arith))
          one.south_one one.north_one (holds-below 15 question.south card one.south held) held (swap where_ace)
          (others_none_n question west part where_ace) refl
      | inr none ↦ Free (λ seat. rw (sure-none question none) (omega arith))
    ]

carries_least : (question : Question)
    → Carries (λ won. sure_tricks question ≤ won) question (λ fraction. IsAtLeast fraction (one_trick_value question) 1)
carries_least question = record {
  ends = λ won enough.
      let grows : payoff question.goal (sure_tricks question) ≤ payoff question.goal won =
      payoff-grows question.goal (sure_tricks question) won enough in
      omega arith;
  means = λ items each some. mean-least (one_trick_value question) 1 items each;
}

carries_most : (question : Question)
    → Carries (λ won. won ≤ sure_tricks question) question (λ fraction. IsAtMost fraction (one_trick_value question) 1)
carries_most question = record {
  ends = λ won enough.
      let grows : payoff question.goal won ≤ payoff question.goal (sure_tricks question) =
      payoff-grows question.goal won (sure_tricks question) enough in
      omega arith;
  means = λ items each some. mean-most (one_trick_value question) 1 items each;
}

-- whatever declarer and the defenders play, the sure trick is won
pub pay-least : (question : Question) (declarer : Way) (defence : DefenceWay) (west : List ℕ) → IsOneTrick question
    → IsPart 15 (missing question) west
    → IsAtLeast (pay question declarer defence west []) (one_trick_value question) 1
pay-least question declarer defence west one part =
    pay_within_holds false (λ won. sure_tricks question ≤ won)
    (λ fraction. IsAtLeast fraction (one_trick_value question) 1)
    question declarer defence west (carries_least question) tt MOST_MOVES 4 [] (omega arith)
    (one_trick_ends false (λ won. sure_tricks question ≤ won) question west (are_small question west one part)
    (λ over. rw (sure-over question over) (omega arith))
    (lower_n question west one part)
    (lower_s question west one part))

forced_first : (question : Question) (west : List ℕ) (seat : Seat) → IsHolding (dealt question west seat)
    → holds (dealt question west seat) 14 ≡ true
    → is_declarer seat ≡ false → (gone : List ℕ) (card : ℕ) → holds gone 14 ≡ false
    → IsPlayable true (is_declarer seat) (without (dealt question west seat) gone) card → card ≡ 14
unfolding without
forced_first question west seat falls has defends gone card kept plays =
    highest_first 14 (without (dealt question west seat) gone) card
    (IsHolding-filter (λ it. not (holds gone it)) (dealt question west seat) falls)
    (holds-without (dealt question west seat) gone 14 has kept)
    (plays.1 refl defends)

only_west : (question : Question) (west : List ℕ) → holds question.north 14 ≡ false → holds question.south 14 ≡ false
    → holds west 14 ≡ true
    → (other : Seat) → same_seat other W ≡ false → holds (dealt question west other) 14 ≡ false
only_west question west north south held N differs = north
only_west question west north south held E differs =
    false_from_ne_true (holds (dealt question west E) 14)
    (λ there. true≢false (sym held ∙ (holds-from_without (missing question) west 14 there).1))
only_west question west north south held S differs = south
only_west question west north south held W differs = absurd (true≢false differs)

only_east : (question : Question) (west : List ℕ) → holds question.north 14 ≡ false → holds question.south 14 ≡ false
    → holds west 14 ≡ false
    → (other : Seat) → same_seat other E ≡ false → holds (dealt question west other) 14 ≡ false
only_east question west north south none N differs = north
only_east question west north south none E differs = absurd (true≢false differs)
only_east question west north south none S differs = south
only_east question west north south none W differs = none

-- after a lead, where the defenders have the ace and each plays the first of its cards
defenders_stand : (Fine : ℕ → Type 0) (question : Question) (west : List ℕ) (leader : Seat) (card : ℕ)
    → IsOneTrick question → IsPart 15 (missing question) west → Fine 0
    → holds question.north 14 ≡ false → holds question.south 14 ≡ false
    → card < 15 → (card ≡ 14 → ⊥) → comes leader 3 E ≡ true → comes leader 3 W ≡ true
    → Stand true Fine question west leader 3 (card ∷ []) leader card
defenders_stand Fine question west leader card one part fine north south low differs later_e later_w =
    elim (cases_Bool (holds west 14)) [
      | inl held ↦
          Waiting W
          (record {
            fine = fine;
            has = held;
            only = only_west question west north south held;
            forced =
                forced_first question west W (dealt-falls question west one.north one.south part.falls W) held refl;
          })
          (omega (arith, differs)) (not_gone [] card differs refl) later_w
      | inr none ↦
          let has : holds (dealt question west E) 14 ≡ true =
          holds-without (missing question) west 14
          (holds-missing question 14 (omega arith) (omega arith) north south) none in
          Waiting E
          (record {
            fine = fine;
            has = has;
            only = only_east question west north south none;
            forced = forced_first question west E (dealt-falls question west one.north one.south part.falls E) has refl;
          })
          (omega (arith, differs)) (not_gone [] card differs refl) later_e
    ]

upper_led : (question : Question) (west : List ℕ) (leader : Seat) → IsOneTrick question
    → IsPart 15 (missing question) west
    → IsHolding (dealt question west leader)
    → (holds question.north 14 ≡ false → holds question.south 14 ≡ false
    → holds (dealt question west leader) 14 ≡ false)
    → comes leader 3 E ≡ true → comes leader 3 W ≡ true
    → has_ended question (start_place question) ≡ false → (card : ℕ) → holds (dealt question west leader) card ≡ true
    → Stand true (λ won. won ≤ sure_tricks question) question west leader 3 (card ∷ []) leader card
upper_led question west leader one part falls without_ace later_e later_w going card held =
    elim (cases_Bool (holds question.north 14 || holds question.south 14)) [
      | inl ace ↦ Free (λ seat. rw (sure-one question ace going) (tally-most seat))
      | inr none ↦
          let neither : (holds question.north 14 ≡ false) × (holds question.south 14 ≡ false) =
          or_parts (holds question.north 14) (holds question.south 14) none in
          defenders_stand (λ won. won ≤ sure_tricks question) question west leader card one part
          (rw (sure-none question none) (omega arith)) neither.0 neither.1
          (holds-below 15 (dealt question west leader) card falls held)
          (not_the_ace (dealt question west leader) card held (without_ace neither.0 neither.1)) later_e later_w
    ]

plays_first : PlaysFirst true (by_defence_rows [])
unfolding by_defence_rows
plays_first = λ west history move. refl

-- against defenders with no rows no more than the sure trick is won
pub pay-most : (question : Question) (declarer : Way) (west : List ℕ) → IsOneTrick question
    → IsPart 15 (missing question) west
    → IsAtMost (pay question declarer (by_defence_rows []) west []) (one_trick_value question) 1
pay-most question declarer west one part =
    pay_within_holds true (λ won. won ≤ sure_tricks question)
    (λ fraction. IsAtMost fraction (one_trick_value question) 1)
    question declarer (by_defence_rows []) west (carries_most question) plays_first MOST_MOVES 4 [] (omega arith)
    (one_trick_ends true (λ won. won ≤ sure_tricks question) question west (are_small question west one part)
    (λ over. omega arith)
    (upper_led question west N one part one.north (λ north _. north) refl refl)
    (upper_led question west S one part one.south (λ _ south. south) refl refl))

-- a question of one trick is settled by a plan and a defence with no rows
pub one_trick-settled : (question : Question) → IsOneTrick question → 0 < total question
    → Settles question (by_rows []) (by_defence_rows []) (one_trick_value question) 1
one_trick-settled question one weighs = record {
  earns = λ other. gain-least (one_trick_value question) 1 question (by_rows []) other
      (λ west part. pay-least question (by_rows []) other west one part);
  holds = λ other. gain-most (one_trick_value question) 1 question other (by_defence_rows [])
      (λ west part. pay-most question other west one part);
  positive = omega arith;
  weighs = weighs;
  dens = λ plan other. gain-den question plan other weighs;
}
