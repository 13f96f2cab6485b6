-- What each legal move does to the trick in progress and to the hand that makes it.
use Rattle.std.proofs.Common.{◌≡◌, ℕ, zero, suc, ◌+◌, ◌≤◌, ◌⊎◌, Bool, true, false, List, ◌∷◌, refl, sym, subst, inl}
use Rattle.std.proofs.Common.{inr, arith}
use Rattle.std.specs.Prelude.{Contains, nat_lt, if◌then◌else◌}
use Rattle.suit_cards.specs.declared.seats.Seat.{Seat}
use Rattle.suit_cards.specs.declared.seats.Seat.TheVariants.{N, E, S, W}
use Rattle.suit_cards.specs.Seats.{clockwise}
use Rattle.suit_game.specs.declared.question.Question.{Question}
use Rattle.suit_game.specs.declared.moves.Move.{Move}
use Rattle.suit_game.specs.Positions.{Position, Trick, Closed, Open, dealt, hand, legal_in, legal_at, step_in, step}
use Rattle.suit_game.specs.Positions.{followed, turn_passed, ended_trick}
use Rattle.suit_game.proofs.OwnCards.{PlaysOwn}
use Rattle.suit_game.proofs.LegalPlays.{lead_cases, follow_or_show}

-- the next seat is on turn, so many come after it, and no trick is won
abbrev pub IsPassed : (place later : Position) (turn : Seat) (after : ℕ) → Type 0
IsPassed place later turn after =
    ((winner : Seat) × (highest : ℕ) × (later.trick ≡ Open turn after winner highest)) × (later.won ≡ place.won)

-- the trick is over, and declarer won it or not
abbrev pub IsTrickOver : (place later : Position) → Type 0
IsTrickOver place later = (later.trick ≡ Closed) × (place.won ≤ later.won) × (later.won ≤ place.won + 1)

gone_ended : (question : Question) (place : Position) (winner : Seat)
    → (ended_trick question place winner).gone ≡ place.gone
gone_ended question place N = refl
gone_ended question place E = refl
gone_ended question place S = refl
gone_ended question place W = refl

-- no card goes as a trick is passed on
pub gone_passed : (question : Question) (place : Position) (turn : Seat) (after : ℕ) (winner : Seat) (highest : ℕ)
    → (turn_passed question place turn after winner highest).gone ≡ place.gone
gone_passed question place turn zero winner highest = gone_ended question place winner
gone_passed question place turn (suc after) winner highest = refl

gone_either : (question : Question) (place : Position) (turn : Seat) (after : ℕ) (winner : Seat) (highest card : ℕ)
    (beaten : Bool)
    → (if beaten then turn_passed question place turn after turn card
    else turn_passed question place turn after winner highest).gone ≡ place.gone
gone_either question place turn after winner highest card true = gone_passed question place turn after turn card
gone_either question place turn after winner highest card false = gone_passed question place turn after winner highest

-- the card followed with goes
pub gone_followed : (question : Question) (place : Position) (turn : Seat) (after : ℕ) (winner : Seat)
    (highest card : ℕ)
    → (followed question place turn after winner highest card).gone ≡ card ∷ place.gone
gone_followed question place turn after winner highest card =
    gone_either question (record place { gone = card ∷ place.gone }) turn after winner highest card
    (nat_lt highest card)

passed_either : (question : Question) (place : Position) (turn : Seat) (after : ℕ) (winner : Seat) (highest card : ℕ)
    (beaten : Bool)
    → IsPassed place (if beaten then turn_passed question place turn (suc after) turn card
    else turn_passed question place turn (suc after) winner highest)
    (clockwise turn) after
passed_either question place turn after winner highest card true = ((turn, card, refl), refl)
passed_either question place turn after winner highest card false = ((winner, highest, refl), refl)

over_ended : (question : Question) (place : Position) (winner : Seat)
    → IsTrickOver place (ended_trick question place winner)
over_ended question place N = (refl, omega arith, omega arith)
over_ended question place E = (refl, omega arith, omega arith)
over_ended question place S = (refl, omega arith, omega arith)
over_ended question place W = (refl, omega arith, omega arith)

over_either : (question : Question) (place : Position) (turn winner : Seat) (highest card : ℕ) (beaten : Bool)
    → IsTrickOver place (if beaten then turn_passed question place turn zero turn card
    else turn_passed question place turn zero winner highest)
over_either question place turn winner highest card true = over_ended question place turn
over_either question place turn winner highest card false = over_ended question place winner

-- the hand on turn plays a card of its own, or shows out
own_in : (question : Question) (west : List ℕ) (place : Position) (turn : Seat) (after : ℕ) (winner : Seat)
    (highest : ℕ) (move : Move)
    → Contains (legal_in question west place (Open turn after winner highest)) move
    → PlaysOwn (dealt question west turn) place.gone (step_in question place (Open turn after winner highest) move).gone
unfolding legal_in step_in
own_in question west place turn after winner highest move found =
    elim (follow_or_show (hand question west place turn) move found) [
      | inl card ↦ subst (λ (m : Move). PlaysOwn (dealt question west turn) place.gone
          (step_in question place (Open turn after winner highest) m).gone) card.2
          (inl (card.0, card.1, gone_followed question place turn after winner highest card.0))
      | inr none ↦ subst (λ (m : Move). PlaysOwn (dealt question west turn) place.gone
          (step_in question place (Open turn after winner highest) m).gone) none.1
          (inr (none.0, gone_passed question place turn after winner highest))
    ]

passed_in : (question : Question) (west : List ℕ) (place : Position) (turn : Seat) (after : ℕ) (winner : Seat)
    (highest : ℕ) (move : Move)
    → Contains (legal_in question west place (Open turn (suc after) winner highest)) move
    → IsPassed place (step_in question place (Open turn (suc after) winner highest) move) (clockwise turn) after
unfolding legal_in step_in
passed_in question west place turn after winner highest move found =
    elim (follow_or_show (hand question west place turn) move found) [
      | inl card ↦ subst (λ (m : Move). IsPassed place (step_in question place (Open turn (suc after) winner highest) m)
          (clockwise turn) after) card.2
          (passed_either question (record place { gone = card.0 ∷ place.gone }) turn after winner highest card.0
          (nat_lt highest card.0))
      | inr none ↦ subst (λ (m : Move). IsPassed place (step_in question place (Open turn (suc after) winner highest) m)
          (clockwise turn) after) none.1
          ((winner, highest, refl), refl)
    ]

over_in : (question : Question) (west : List ℕ) (place : Position) (turn winner : Seat) (highest : ℕ) (move : Move)
    → Contains (legal_in question west place (Open turn zero winner highest)) move
    → IsTrickOver place (step_in question place (Open turn zero winner highest) move)
unfolding legal_in step_in
over_in question west place turn winner highest move found =
    elim (follow_or_show (hand question west place turn) move found) [
      | inl card ↦ subst (λ (m : Move). IsTrickOver place (step_in question place (Open turn zero winner highest) m))
          card.2
          (over_either question (record place { gone = card.0 ∷ place.gone }) turn winner highest card.0
          (nat_lt highest card.0))
      | inr none ↦ subst (λ (m : Move). IsTrickOver place (step_in question place (Open turn zero winner highest) m))
          none.1
          (over_ended question place winner)
    ]

led_in : (question : Question) (west : List ℕ) (place : Position) (move : Move)
    → Contains (legal_in question west place Closed) move
    → (PlaysOwn question.north place.gone (step_in question place Closed move).gone
    × IsPassed place (step_in question place Closed move) E 2)
    ⊎ (PlaysOwn question.south place.gone (step_in question place Closed move).gone
    × IsPassed place (step_in question place Closed move) W 2)
unfolding legal_in step_in
led_in question west place move found = elim (lead_cases question place move found) [
  | inl north ↦ inl (subst (λ (m : Move). PlaysOwn question.north place.gone (step_in question place Closed m).gone
      × IsPassed place (step_in question place Closed m) E 2)
      north.2 (inl (north.0, north.1, refl), ((N, north.0, refl), refl)))
  | inr south ↦ inr (subst (λ (m : Move). PlaysOwn question.south place.gone (step_in question place Closed m).gone
      × IsPassed place (step_in question place Closed m) W 2)
      south.2 (inl (south.0, south.1, refl), ((S, south.0, refl), refl)))
]

-- a follow before the last passes the turn on
pub follow_passes : (question : Question) (west : List ℕ) (place : Position) (turn : Seat) (after : ℕ) (winner : Seat)
    (highest : ℕ) (move : Move)
    → place.trick ≡ Open turn (suc after) winner highest → Contains (legal_at question west place) move
    → IsPassed place (step question place move) (clockwise turn) after
follow_passes question west place turn after winner highest move is =
    subst (λ (t : Trick). Contains (legal_in question west place t) move
    → IsPassed place (step_in question place t move) (clockwise turn) after) (sym is)
    (passed_in question west place turn after winner highest move)

-- the last follow ends the trick
pub last_ends : (question : Question) (west : List ℕ) (place : Position) (turn winner : Seat) (highest : ℕ)
    (move : Move)
    → place.trick ≡ Open turn zero winner highest → Contains (legal_at question west place) move
    → IsTrickOver place (step question place move)
last_ends question west place turn winner highest move is =
    subst (λ (t : Trick). Contains (legal_in question west place t) move
    → IsTrickOver place (step_in question place t move)) (sym is)
    (over_in question west place turn winner highest move)

-- a follow is by the hand on turn
pub follow_plays_own : (question : Question) (west : List ℕ) (place : Position) (turn : Seat) (after : ℕ)
    (winner : Seat) (highest : ℕ) (move : Move)
    → place.trick ≡ Open turn after winner highest → Contains (legal_at question west place) move
    → PlaysOwn (dealt question west turn) place.gone (step question place move).gone
follow_plays_own question west place turn after winner highest move is =
    subst (λ (t : Trick). Contains (legal_in question west place t) move
    → PlaysOwn (dealt question west turn) place.gone (step_in question place t move).gone) (sym is)
    (own_in question west place turn after winner highest move)

-- a lead is North's, and East is on turn, or South's, and West is
pub lead_opens : (question : Question) (west : List ℕ) (place : Position) (move : Move) → place.trick ≡ Closed
    → Contains (legal_at question west place) move
    → (PlaysOwn question.north place.gone (step question place move).gone
    × IsPassed place (step question place move) E 2)
    ⊎ (PlaysOwn question.south place.gone (step question place move).gone
    × IsPassed place (step question place move) W 2)
lead_opens question west place move is =
    subst (λ (t : Trick). Contains (legal_in question west place t) move
    → (PlaysOwn question.north place.gone (step_in question place t move).gone
    × IsPassed place (step_in question place t move) E 2)
    ⊎ (PlaysOwn question.south place.gone (step_in question place t move).gone
    × IsPassed place (step_in question place t move) W 2)) (sym is)
    (led_in question west place move)
