-- A trick takes one card from each hand of declarer that has one.
use Rattle.std.proofs.Common.{◌≡◌, ℕ, ◌+◌, ◌-◌, ◌≤◌, List, [], ◌∷◌, length, ap, ◌∙◌, inl, inr, arith}
use Rattle.std.specs.Prelude.{fold, Contains}
use Rattle.suit_cards.specs.declared.seats.Seat.{Seat}
use Rattle.suit_cards.specs.declared.seats.Seat.TheVariants.{N, E, S, W}
use Rattle.suit_cards.specs.Seats.{clockwise}
use Rattle.suit_game.specs.declared.question.Question.{Question}
use Rattle.suit_game.specs.declared.moves.Move.{Move}
use Rattle.suit_game.specs.Deals.{IsDeal, IsTrickLater}
use Rattle.suit_game.specs.Positions.{Position, Closed, Open, legal_at, step, LegalFrom, declarer_hand}
use Rattle.suit_game.proofs.OwnCards.{taken_n, taken_s, left_n, left_s}
use Rattle.suit_game.proofs.TurnsTaken.{follow_passes, last_ends, follow_plays_own, lead_opens}

-- what the three follows of a trick leave
record Follows (question : Question) (before later : Position) (turn : Seat) : Type 0 where
  closed : later.trick ≡ Closed
  north : length (declarer_hand question later N)
      ≡ ((length (declarer_hand question before N) - taken_n turn) - taken_n (clockwise turn)) - taken_n
      (clockwise (clockwise turn))
  south : length (declarer_hand question later S)
      ≡ ((length (declarer_hand question before S) - taken_s turn) - taken_s (clockwise turn)) - taken_s
      (clockwise (clockwise turn))
  won_least : before.won ≤ later.won
  won_most : later.won ≤ before.won + 1

three_follow : (question : Question) (west : List ℕ) (place : Position) (turn : Seat) (second third fourth : Move)
    → IsDeal question west
    → ((winner : Seat) × (highest : ℕ) × (place.trick ≡ Open turn 2 winner highest))
    → Contains (legal_at question west place) second
    → Contains (legal_at question west (step question place second)) third
    → Contains (legal_at question west (step question (step question place second) third)) fourth
    → Follows question place (step question (step question (step question place second) third) fourth) turn
three_follow question west place turn second third fourth deal is legal_2 legal_3 legal_4 =
    let next : Position = step question place second in
    let last : Position = step question next third in
    let later : Position = step question last fourth in
    let passed = follow_passes question west place turn 1 is.0 is.1 second is.2 legal_2 in
    let passed_again =
    follow_passes question west next (clockwise turn) 0 passed.0.0 passed.0.1 third passed.0.2 legal_3 in
    let over =
    last_ends question west last (clockwise
    (clockwise turn)) passed_again.0.0 passed_again.0.1 fourth passed_again.0.2 legal_4 in
    let own_2 = follow_plays_own question west place turn 2 is.0 is.1 second is.2 legal_2 in
    let own_3 = follow_plays_own question west next (clockwise turn) 1 passed.0.0 passed.0.1 third passed.0.2 legal_3 in
    let own_4 =
    follow_plays_own question west last
    (clockwise (clockwise turn)) 0 passed_again.0.0 passed_again.0.1 fourth passed_again.0.2 legal_4 in
    record {
      closed = over.0;
      north = left_n question west last.gone later.gone (clockwise (clockwise turn)) deal own_4
          ∙ ap (λ (n : ℕ). n - taken_n (clockwise (clockwise turn)))
          (left_n question west next.gone last.gone (clockwise turn) deal own_3
          ∙ ap (λ (n : ℕ). n - taken_n (clockwise turn)) (left_n question west place.gone next.gone turn deal own_2));
      south = left_s question west last.gone later.gone (clockwise (clockwise turn)) deal own_4
          ∙ ap (λ (n : ℕ). n - taken_s (clockwise (clockwise turn)))
          (left_s question west next.gone last.gone (clockwise turn) deal own_3
          ∙ ap (λ (n : ℕ). n - taken_s (clockwise turn)) (left_s question west place.gone next.gone turn deal own_2));
      won_least = omega (arith, passed.1, passed_again.1, over.1);
      won_most = omega (arith, passed.1, passed_again.1, over.2);
    }

whole_trick : (question : Question) (west : List ℕ) (place : Position) (first second third fourth : Move)
    → IsDeal question west → place.trick ≡ Closed
    → Contains (legal_at question west place) first
    → Contains (legal_at question west (step question place first)) second
    → Contains (legal_at question west (step question (step question place first) second)) third
    → Contains (legal_at question west (step question (step question (step question place first) second) third)) fourth
    → IsTrickLater question place (step question
    (step question (step question (step question place first) second) third) fourth)
whole_trick question west place first second third fourth deal is legal_1 legal_2 legal_3 legal_4 =
    elim (lead_opens question west place first is legal_1) [
      | inl north ↦
          let follows =
          three_follow question west (step question place first) E second third fourth deal north.1.0 legal_2 legal_3
          legal_4 in
          let led_n = left_n question west place.gone (step question place first).gone N deal north.0 in
          let led_s = left_s question west place.gone (step question place first).gone N deal north.0 in
          record {
            closed = follows.closed;
            north = omega (arith, follows.north, led_n);
            south = omega (arith, follows.south, led_s);
            won_least = omega (arith, follows.won_least, north.1.1);
            won_most = omega (arith, follows.won_most, north.1.1);
          }
      | inr south ↦
          let follows =
          three_follow question west (step question place first) W second third fourth deal south.1.0 legal_2 legal_3
          legal_4 in
          let led_n = left_n question west place.gone (step question place first).gone S deal south.0 in
          let led_s = left_s question west place.gone (step question place first).gone S deal south.0 in
          record {
            closed = follows.closed;
            north = omega (arith, follows.north, led_n);
            south = omega (arith, follows.south, led_s);
            won_least = omega (arith, follows.won_least, south.1.1);
            won_most = omega (arith, follows.won_most, south.1.1);
          }
    ]

-- four legal moves from a position with no trick in progress are a whole trick
pub tricks_take_one_card_each : (question : Question) (west : List ℕ) (place : Position) (moves : List Move)
    → IsDeal question west → place.trick ≡ Closed
    → LegalFrom question west place moves → length moves ≡ 4
    → IsTrickLater question place (fold (step question) place moves)
unfolding LegalFrom
tricks_take_one_card_each question west place (first ∷ second ∷ third ∷ fourth ∷ []) deal is legal four =
    whole_trick question west place first second third fourth deal is legal.0 legal.1.0 legal.1.1.0 legal.1.1.1.0
tricks_take_one_card_each question west place (first ∷ second ∷ third ∷ fourth ∷ fifth ∷ moves) deal is legal four =
    absurd (omega arith)
tricks_take_one_card_each question west place (first ∷ second ∷ third ∷ []) deal is legal four = absurd (omega arith)
tricks_take_one_card_each question west place (first ∷ second ∷ []) deal is legal four = absurd (omega arith)
tricks_take_one_card_each question west place (first ∷ []) deal is legal four = absurd (omega arith)
tricks_take_one_card_each question west place [] deal is legal four = absurd (omega arith)
