-- Four moves make a trick, and each trick uses up a card of declarer's longer hand.
use Rattle.std.proofs.Common.{◌≡◌, ℕ, zero, suc, ◌+◌, ◌-◌, ◌*◌, ◌≤◌, max, List, length, refl, ap, inl, inr, arith}
use Rattle.std.specs.Prelude.{◌==◌, Contains, if◌then◌else◌}
use Rattle.suit_cards.specs.declared.seats.Seat.{Seat}
use Rattle.suit_cards.specs.declared.seats.Seat.TheVariants.{N, E, S, W}
use Rattle.suit_cards.specs.Seats.{clockwise}
use Rattle.suit_game.specs.declared.question.Question.{Question}
use Rattle.suit_game.specs.declared.moves.Move.{Move}
use Rattle.suit_game.specs.Deals.{IsDeal}
use Rattle.suit_game.specs.Gains.{is_declarer}
use Rattle.suit_game.specs.Lengths.{seats_left}
use Rattle.suit_game.specs.Positions.{Position, Trick, Closed, Open, legal_at, step, declarer_hand}
use Rattle.suit_game.specs.Reached.{is_to_play, seats_played, turns_had, held_at_trick, IsTrickAt}
use Rattle.suit_game.proofs.OwnCards.{taken_n, taken_s, left_n, left_s}
use Rattle.suit_game.proofs.Room.{room_falls}
use Rattle.suit_game.proofs.TurnsTaken.{follow_passes, last_ends, follow_plays_own, lead_opens}

-- how many tricks are finished after a move
abbrev pub tricks_later : Trick → ℕ → ℕ
tricks_later Closed tricks = tricks
tricks_later (Open turn zero winner highest) tricks = suc tricks
tricks_later (Open turn (suc after) winner highest) tricks = tricks

-- after so many moves so many tricks are finished
pub record Counted (place : Position) (count tricks : ℕ) : Type 0 where
  pub moves : count ≡ 4 * tricks + seats_played place.trick
  pub won : place.won ≤ tricks

counted_at : (question : Question) (west : List ℕ) (place : Position) (trick : Trick) (move : Move) (count tricks : ℕ)
    → place.trick ≡ trick
    → IsTrickAt question west place.gone trick → Contains (legal_at question west place) move
    → count ≡ 4 * tricks + seats_played trick → place.won ≤ tricks
    → Counted (step question place move) (suc count) (tricks_later trick tricks)
counted_at question west place Closed move count tricks is makes_sense legal moves won =
    elim (lead_opens question west place move is legal) [
      | inl north ↦ record { moves = omega (arith, ap seats_played north.1.0.2); won = omega (arith, north.1.1) }
      | inr south ↦ record { moves = omega (arith, ap seats_played south.1.0.2); won = omega (arith, south.1.1) }
    ]
counted_at question west place (Open turn zero winner highest) move count tricks is makes_sense legal moves won =
    let over = last_ends question west place turn winner highest move is legal in
    record { moves = omega (arith, ap seats_played over.0); won = omega (arith, over.2) }
counted_at question west place (Open turn (suc after) winner highest) move count tricks is makes_sense legal moves won =
    let passed = follow_passes question west place turn after winner highest move is legal in
    record { moves = omega (arith, ap seats_played passed.0.2, makes_sense.after_most); won = omega (arith, passed.1) }

-- a legal move is counted
pub counted_later : (question : Question) (west : List ℕ) (place : Position) (move : Move) (count tricks : ℕ)
    → IsTrickAt question west place.gone place.trick → Contains (legal_at question west place) move
    → Counted place count tricks → Counted (step question place move) (suc count) (tricks_later place.trick tricks)
counted_later question west place move count tricks makes_sense legal counted =
    counted_at question west place place.trick move count tricks refl makes_sense legal counted.moves counted.won

-- 1 where a seat is not on turn, nor among the seats after it
abbrev had : Seat → ℕ → Seat → ℕ
had turn after seat = if is_to_play turn after seat then 0 else 1

held_passed : (turn : Seat) (after north south north' south' tricks longer : ℕ) → suc after ≤ 2
    → is_declarer turn ≡ (suc after == 1)
    → north' ≡ north - taken_n turn → south' ≡ south - taken_s turn
    → tricks + max (north + had turn (suc after) N) (south + had turn (suc after) S) ≡ longer
    → tricks + max (north' + had (clockwise turn) after N) (south' + had (clockwise turn) after S) ≡ longer
held_passed N zero north south north' south' tricks longer most sides left_n left_s held = omega arith
held_passed S zero north south north' south' tricks longer most sides left_n left_s held = omega arith
held_passed E zero north south north' south' tricks longer most sides left_n left_s held = absurd (cc)
held_passed W zero north south north' south' tricks longer most sides left_n left_s held = absurd (cc)
held_passed N (suc zero) north south north' south' tricks longer most sides left_n left_s held = absurd (cc)
held_passed S (suc zero) north south north' south' tricks longer most sides left_n left_s held = absurd (cc)
held_passed E (suc zero) north south north' south' tricks longer most sides left_n left_s held = omega arith
held_passed W (suc zero) north south north' south' tricks longer most sides left_n left_s held = omega arith
held_passed turn (suc (suc after)) north south north' south' tricks longer most sides left_n left_s held =
    absurd (omega arith)

held_over : (turn : Seat) (north south north' south' tricks longer : ℕ) → is_declarer turn ≡ (zero == 1)
    → north' ≡ north - taken_n turn → south' ≡ south - taken_s turn
    → tricks + max (north + had turn zero N) (south + had turn zero S) ≡ longer
    → suc tricks + max (north' + 0) (south' + 0) ≡ longer
held_over N north south north' south' tricks longer sides left_n left_s held = absurd (cc)
held_over S north south north' south' tricks longer sides left_n left_s held = absurd (cc)
held_over E north south north' south' tricks longer sides left_n left_s held = omega arith
held_over W north south north' south' tricks longer sides left_n left_s held = omega arith

-- the cards of North's hand, and of South's, by how many have had their turn
cards_at : (question : Question) (place : Position) (trick : Trick) (seat : Seat) → place.trick ≡ trick
    → held_at_trick question place seat ≡ length (declarer_hand question place seat) + turns_had trick seat
cards_at question place trick seat is =
    ap (λ (t : Trick). length (declarer_hand question place seat) + turns_had t seat) is

held_at : (question : Question) (west : List ℕ) (place : Position) (trick : Trick) (move : Move) (tricks longer : ℕ)
    → IsDeal question west → place.trick ≡ trick
    → IsTrickAt question west place.gone trick → Contains (legal_at question west place) move
    → tricks + max (length (declarer_hand question place N) + turns_had trick N)
    (length (declarer_hand question place S) + turns_had trick S) ≡ longer
    → tricks_later trick tricks
    + max (held_at_trick question (step question place move) N) (held_at_trick question (step question place move) S)
    ≡ longer
held_at question west place Closed move tricks longer deal is makes_sense legal held =
    let less = room_falls question west place move legal in
    elim (lead_opens question west place move is legal) [
      | inl north ↦
          let next : Position = step question place move in
          omega (
            arith,
            less,
            ap seats_left is,
            ap seats_left north.1.0.2,
            left_n question west place.gone next.gone N deal north.0,
            left_s question west place.gone next.gone N deal north.0,
            cards_at question next (Open E 2 north.1.0.0 north.1.0.1) N north.1.0.2,
            cards_at question next (Open E 2 north.1.0.0 north.1.0.1) S north.1.0.2,
          )
      | inr south ↦
          let next : Position = step question place move in
          omega (
            arith,
            less,
            ap seats_left is,
            ap seats_left south.1.0.2,
            left_n question west place.gone next.gone S deal south.0,
            left_s question west place.gone next.gone S deal south.0,
            cards_at question next (Open W 2 south.1.0.0 south.1.0.1) N south.1.0.2,
            cards_at question next (Open W 2 south.1.0.0 south.1.0.1) S south.1.0.2,
          )
    ]
held_at question west place (Open turn zero winner highest) move tricks longer deal is makes_sense legal held =
    let next : Position = step question place move in
    let own = follow_plays_own question west place turn zero winner highest move is legal in
    let over = last_ends question west place turn winner highest move is legal in
    let after_all = held_over turn (length (declarer_hand question place N)) (length (declarer_hand question place S))
    (length (declarer_hand question next N)) (length (declarer_hand question next S)) tricks longer makes_sense.sides
    (left_n question west place.gone next.gone turn deal own)
    (left_s question west place.gone next.gone turn deal own) held in
    omega (arith, after_all, cards_at question next Closed N over.0, cards_at question next Closed S over.0)
held_at question west place (Open turn (suc after) winner highest) move tricks longer deal is makes_sense legal held =
    let next : Position = step question place move in
    let own = follow_plays_own question west place turn (suc after) winner highest move is legal in
    let passed = follow_passes question west place turn after winner highest move is legal in
    let after_all =
    held_passed turn after (length (declarer_hand question place N)) (length (declarer_hand question place S))
    (length (declarer_hand question next N))
    (length (declarer_hand question next S)) tricks longer makes_sense.after_most makes_sense.sides
    (left_n question west place.gone next.gone turn deal own)
    (left_s question west place.gone next.gone turn deal own) held in
    omega (
      arith,
      after_all,
      cards_at question next (Open (clockwise turn) after passed.0.0 passed.0.1) N passed.0.2,
      cards_at question next (Open (clockwise turn) after passed.0.0 passed.0.1) S passed.0.2,
    )

-- the finished tricks and the longer hand stay together what they were
pub held_later : (question : Question) (west : List ℕ) (place : Position) (move : Move) (tricks longer : ℕ)
    → IsDeal question west
    → IsTrickAt question west place.gone place.trick → Contains (legal_at question west place) move
    → tricks + max (held_at_trick question place N) (held_at_trick question place S) ≡ longer
    → tricks_later place.trick tricks
    + max (held_at_trick question (step question place move) N) (held_at_trick question (step question place move) S)
    ≡ longer
held_later question west place move tricks longer deal makes_sense legal held =
    held_at question west place place.trick move tricks longer deal refl makes_sense legal held
