-- With one card at most in each hand of declarer, play ends with the first trick.
use Rattle.std.proofs.Common.{◌≡◌, ℕ, zero, suc, ◌<◌, ◌≤◌, Bool, true, false, List, [], ◌∷◌, length, refl, ap, inl, inr}
use Rattle.std.proofs.lemmas.Bool.{cases_Bool, cond_both, ltb-true, ltb-false}
use Rattle.suit_cards.specs.declared.seats.Seat.{Seat}
use Rattle.suit_cards.specs.declared.seats.Seat.TheVariants.{N, E, S, W}
use Rattle.suit_cards.specs.Seats.{clockwise}
use Rattle.suit_cards.specs.Holdings.{holds}
use Rattle.suit_game.specs.declared.question.Question.{Question}
use Rattle.suit_game.specs.declared.question.LeadAt.{LeadAt}
use Rattle.suit_game.specs.declared.question.Entries.{Entries}
use Rattle.suit_game.specs.declared.moves.Move.{Move}
use Rattle.suit_game.specs.Positions.{Position, Trick, Closed, Open, start_place, without, dealt, is_empty, leads_at}
use Rattle.suit_game.specs.Positions.{legal_in, ended_trick, turn_passed, after_lead, step_in, step, has_ended}
use Rattle.suit_game.specs.Gains.{is_declarer}
use Rattle.suit_game.proofs.LegalPlays.{leads_at-none}
use Rattle.suit_game.proofs.WhatAHandHolds.{holds-from_without, without-played}
use Rattle.suit_game.proofs.WaysPayAsLinesEnd.{allowed_each, IsOver, Ends}
use Rattle.suit_game.proofs.MovesByTheHand.{IsPlayable, each_follow, each_lead}
use Rattle.suit_game.proofs.TrickStates.{tally, Stand, Stand-last, Stand-out, Stand-higher, Stand-lower, IsSpent}
use Rattle.suit_game.proofs.TrickStates.{IsSpent-last, IsSpent-out, IsSpent-played}

-- a position in the only trick
abbrev pub spot : LeadAt → Entries → Entries → List ℕ → Trick → Position
spot lead entries_n entries_s gone trick =
    record { gone = gone; trick = trick; lead = lead; entries_n = entries_n; entries_s = entries_s; won = 0 }

over_after : (Fine : ℕ → Type 0) (question : Question) (lead : LeadAt) (entries_n entries_s : Entries) (gone : List ℕ)
    (trick : Trick) (winner : Seat)
    → without question.north gone ≡ [] → without question.south gone ≡ [] → Fine (tally winner)
    → IsOver Fine question (ended_trick question (spot lead entries_n entries_s gone trick) winner)
over_after Fine question lead entries_n entries_s gone trick N north south fine =
    record {
      over = ap is_empty (leads_at-none question
          (ended_trick question (spot lead entries_n entries_s gone trick) N) north south);
      fine = fine;
    }
over_after Fine question lead entries_n entries_s gone trick E north south fine =
    record {
      over = ap is_empty (leads_at-none question
          (ended_trick question (spot lead entries_n entries_s gone trick) E) north south);
      fine = fine;
    }
over_after Fine question lead entries_n entries_s gone trick S north south fine =
    record {
      over = ap is_empty (leads_at-none question
          (ended_trick question (spot lead entries_n entries_s gone trick) S) north south);
      fine = fine;
    }
over_after Fine question lead entries_n entries_s gone trick W north south fine =
    record {
      over = ap is_empty (leads_at-none question
          (ended_trick question (spot lead entries_n entries_s gone trick) W) north south);
      fine = fine;
    }

-- declarer hands of one card at most, and cards of the suit
pub record AreSmall (question : Question) (west : List ℕ) : Type 0 where
  pub north : length question.north ≤ 1
  pub south : length question.south ≤ 1
  pub low : (seat : Seat) (card : ℕ) → holds (dealt question west seat) card ≡ true → card < 15

-- what is known after a seat has played
pub record Known (firsts : Bool) (Fine : ℕ → Type 0) (question : Question) (west : List ℕ)
    (turn : Seat) (more : ℕ) (gone : List ℕ) (winner : Seat) (highest : ℕ) : Type 0 where
  pub stand : Stand firsts Fine question west turn more gone winner highest
  pub north : IsSpent question west turn more gone N
  pub south : IsSpent question west turn more gone S

Known-out : (firsts : Bool) (Fine : ℕ → Type 0) (question : Question) (west : List ℕ)
    (turn : Seat) (more : ℕ) (gone : List ℕ) (winner : Seat) (highest : ℕ)
    → without (dealt question west (clockwise turn)) gone ≡ []
    → Known firsts Fine question west turn (suc more) gone winner highest
    → Known firsts Fine question west (clockwise turn) more gone winner highest
Known-out firsts Fine question west turn more gone winner highest none known = record {
  stand = Stand-out firsts Fine question west turn more gone winner highest none known.stand;
  north = IsSpent-out question west turn more gone N none known.north;
  south = IsSpent-out question west turn more gone S none known.south;
}

Known-higher : (firsts : Bool) (Fine : ℕ → Type 0) (question : Question) (west : List ℕ)
    (turn : Seat) (more : ℕ) (gone : List ℕ) (winner : Seat) (highest card : ℕ)
    → AreSmall question west
    → IsPlayable firsts (is_declarer (clockwise turn)) (without (dealt question west (clockwise turn)) gone) card
    → highest < card
    → Known firsts Fine question west turn (suc more) gone winner highest
    → Known firsts Fine question west (clockwise turn) more (card ∷ gone) (clockwise turn) card
Known-higher firsts Fine question west turn more gone winner highest card small plays up known = record {
  stand = Stand-higher firsts Fine question west turn more gone winner highest card plays
      (small.low (clockwise turn) card
      (holds-from_without (dealt question west (clockwise turn)) gone card plays.0).0) up known.stand;
  north = IsSpent-played question west turn more gone N card small.north plays.0 known.north;
  south = IsSpent-played question west turn more gone S card small.south plays.0 known.south;
}

Known-lower : (firsts : Bool) (Fine : ℕ → Type 0) (question : Question) (west : List ℕ)
    (turn : Seat) (more : ℕ) (gone : List ℕ) (winner : Seat) (highest card : ℕ)
    → AreSmall question west
    → IsPlayable firsts (is_declarer (clockwise turn)) (without (dealt question west (clockwise turn)) gone) card
    → card ≤ highest
    → Known firsts Fine question west turn (suc more) gone winner highest
    → Known firsts Fine question west (clockwise turn) more (card ∷ gone) winner highest
Known-lower firsts Fine question west turn more gone winner highest card small plays down known = record {
  stand = Stand-lower firsts Fine question west turn more gone winner highest card plays down known.stand;
  north = IsSpent-played question west turn more gone N card small.north plays.0 known.north;
  south = IsSpent-played question west turn more gone S card small.south plays.0 known.south;
}

-- the rest of the only trick ends all play
pub trick_ends : (firsts : Bool) (Fine : ℕ → Type 0) (question : Question) (west : List ℕ)
    (small : AreSmall question west)
    (lead : LeadAt) (entries_n entries_s : Entries) (more : ℕ) (trick : Trick) (turn : Seat) (gone : List ℕ)
    (winner : Seat) (highest : ℕ)
    → Known firsts Fine question west turn more gone winner highest
    → Ends firsts Fine question west more
    (turn_passed question (spot lead entries_n entries_s gone trick) turn more winner highest)
unfolding legal_in step_in
trick_ends firsts Fine question west small lead entries_n entries_s zero trick turn gone winner highest known =
    over_after Fine question lead entries_n entries_s gone trick winner
    (IsSpent-last question west turn gone N known.north) (IsSpent-last question west turn gone S known.south)
    (Stand-last firsts Fine question west turn gone winner highest known.stand)
trick_ends firsts Fine question west small lead entries_n entries_s (suc more) trick turn gone winner highest known =
    let next : Seat = clockwise turn in
    let now : Trick = Open next more winner highest in
    inr (
      refl,
      each_follow
          (λ (move : Move). Ends firsts Fine question west more
          (step question (spot lead entries_n entries_s gone now) move))
          firsts (is_declarer next) (without (dealt question west next) gone)
          (λ none. trick_ends firsts Fine question west small lead entries_n entries_s more now next gone winner highest
          (Known-out firsts Fine question west turn more gone winner highest none known))
          (λ card plays. cond_both _ _ _ (λ (later : Position). Ends firsts Fine question west more later)
          (λ up. trick_ends firsts Fine question west small lead entries_n entries_s more now next
          (card ∷ gone) next card
          (Known-higher firsts Fine question west turn more gone winner highest card small plays
          (ltb-true highest card up) known))
          (λ down. trick_ends firsts Fine question west small lead entries_n entries_s more now next
          (card ∷ gone) winner highest
          (Known-lower firsts Fine question west turn more gone winner highest card small plays
          (ltb-false highest card down) known))),
    )

-- with one card at most in each declarer hand, play ends after four moves
pub one_trick_ends : (firsts : Bool) (Fine : ℕ → Type 0) (question : Question) (west : List ℕ)
    (small : AreSmall question west)
    → (has_ended question (start_place question) ≡ true → Fine 0)
    → (has_ended question (start_place question) ≡ false → (card : ℕ) → holds question.north card ≡ true
    → Stand firsts Fine question west N 3 (card ∷ []) N card)
    → (has_ended question (start_place question) ≡ false → (card : ℕ) → holds question.south card ≡ true
    → Stand firsts Fine question west S 3 (card ∷ []) S card)
    → Ends firsts Fine question west 4 (start_place question)
unfolding legal_in step_in
one_trick_ends firsts Fine question west small none north south =
    let start : Position = start_place question in
    elim (cases_Bool (has_ended question start)) [
      | inl over ↦ inl (record { over = over; fine = none over })
      | inr going ↦
          let led_to_end = λ (move : Move). Ends firsts Fine question west 3 (step question start move) in
          inr (
            going,
            allowed_each led_to_end firsts true (leads_at question start)
                (each_lead led_to_end question start
                (λ card left.
                let held : holds question.north card ≡ true = (holds-from_without question.north [] card left).0 in
                trick_ends firsts Fine question west small question.start
                (after_lead question.start N question.entries_n) question.entries_s 3 Closed N (card ∷ []) N card
                (record {
                  stand = north going card held;
                  north = inr (without-played question.north [] card small.north held);
                  south = inl refl;
                }))
                (λ card left.
                let held : holds question.south card ≡ true = (holds-from_without question.south [] card left).0 in
                trick_ends firsts Fine question west small question.start
                question.entries_n (after_lead question.start S question.entries_s) 3 Closed S (card ∷ []) S card
                (record {
                  stand = south going card held;
                  north = inl refl;
                  south = inr (without-played question.south [] card small.south held);
                }))),
          )
    ]
