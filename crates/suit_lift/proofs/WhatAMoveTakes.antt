-- What a legal move takes from whose hand (move_kind).
use Rattle.std.proofs.Common.{◌≡◌, ℕ, Bool, true, false, [], ◌∷◌, refl, subst, inl, inr}
use Rattle.std.specs.Prelude.{Contains}
use Rattle.std.proofs.lemmas.Bool.{false≢true, false_from_ne_true}
use Rattle.suit_cards.specs.Cards.{Cards}
use Rattle.suit_cards.specs.declared.seats.Seat.{Seat}
use Rattle.suit_cards.specs.declared.seats.Seat.TheVariants.{N, E, S, W}
use Rattle.suit_cards.specs.Holdings.{holds}
use Rattle.suit_cards.proofs.WhetherARankIsHeld.{holds_tells}
use Rattle.suit_game.specs.declared.question.Question.{Question}
use Rattle.suit_game.specs.declared.moves.Move.{Move}
use Rattle.suit_game.specs.declared.moves.Move.TheVariants.{Follow, ShowOut}
use Rattle.suit_game.specs.Gains.{is_declarer, is_declarer_turn}
use Rattle.suit_game.specs.Positions.{Position, Trick, Closed, Open, dealt, follows_of, hand, legal_in, step_in}
use Rattle.suit_game.specs.Positions.{without}
use Rattle.suit_game.specs.Question.{missing}
use Rattle.suit_game.proofs.WhatAHandHolds.{holds-from_without}
use Rattle.suit_game.proofs.LayoutCards.{missing-apart}
use Rattle.suit_game.proofs.LegalPlays.{follow_or_show, lead_cases}
use Rattle.suit_game.proofs.TurnsTaken.{gone_followed, gone_passed}

-- a card of declarer's, showing out of declarer's, a card of a defender's, or showing out of his
pub data MoveKind (question : Question) (west : Cards) (place : Position) (trick : Trick) (move : Move) : Type 0 where
  OwnCard : (card : ℕ) → is_declarer_turn trick ≡ true → (step_in question place trick move).gone ≡ card ∷ place.gone
      → holds (missing question) card ≡ false → MoveKind question west place trick move
  OwnOut : is_declarer_turn trick ≡ true → (step_in question place trick move).gone ≡ place.gone
      → MoveKind question west place trick move
  TheirCard : (turn : Seat) (card : ℕ) → is_declarer_turn trick ≡ false → is_declarer turn ≡ false
      → ((other : Cards) → legal_in question other place trick ≡ follows_of (hand question other place turn))
      → move ≡ Follow card → holds (hand question west place turn) card ≡ true
      → (step_in question place trick move).gone ≡ card ∷ place.gone
      → MoveKind question west place trick move
  TheirOut : (turn : Seat) → is_declarer_turn trick ≡ false → is_declarer turn ≡ false
      → ((other : Cards) → legal_in question other place trick ≡ follows_of (hand question other place turn))
      → move ≡ ShowOut → hand question west place turn ≡ [] → (step_in question place trick move).gone ≡ place.gone
      → MoveKind question west place trick move

own_away : (question : Question) (west : Cards) (turn : Seat) (gone : Cards) (card : ℕ) → is_declarer turn ≡ true
    → holds (without (dealt question west turn) gone) card ≡ true
    → holds (missing question) card ≡ false
own_away question west N gone card own held =
    false_from_ne_true (holds (missing question) card) (λ away. (missing-apart question card away).0
    (holds-from_without question.north gone card held).0)
own_away question west S gone card own held =
    false_from_ne_true (holds (missing question) card) (λ away. (missing-apart question card away).1
    (holds-from_without question.south gone card held).0)
own_away question west E gone card own held = absurd (false≢true own)
own_away question west W gone card own held = absurd (false≢true own)

abbrev Kind : Question → Cards → Position → Trick → Move → Type 0
Kind question west place trick move = MoveKind question west place trick move

kind_card : (question : Question) (west : Cards) (place : Position) (turn : Seat) (after : ℕ) (winner : Seat)
    (highest card : ℕ)
    → (b : Bool) → is_declarer turn ≡ b → holds (hand question west place turn) card ≡ true
    → MoveKind question west place (Open turn after winner highest) (Follow card)
unfolding legal_in step_in
kind_card question west place turn after winner highest card true own held =
    OwnCard card own (gone_followed question place turn after winner highest card)
    (own_away question west turn place.gone card own held)
kind_card question west place turn after winner highest card false theirs held =
    TheirCard turn card theirs theirs (λ other. refl) refl held
    (gone_followed question place turn after winner highest card)

kind_out : (question : Question) (west : Cards) (place : Position) (turn : Seat) (after : ℕ) (winner : Seat)
    (highest : ℕ)
    → (b : Bool) → is_declarer turn ≡ b → hand question west place turn ≡ []
    → MoveKind question west place (Open turn after winner highest) ShowOut
unfolding legal_in step_in
kind_out question west place turn after winner highest true own none =
    OwnOut own (gone_passed question place turn after winner highest)
kind_out question west place turn after winner highest false theirs none =
    TheirOut turn theirs theirs (λ other. refl) refl none (gone_passed question place turn after winner highest)

-- each legal move is one of these
pub move_kind : (question : Question) (west : Cards) (place : Position) (trick : Trick) (move : Move)
    → Contains (legal_in question west place trick) move
    → MoveKind question west place trick move
unfolding legal_in step_in
move_kind question west place Closed move found = elim (lead_cases question place move found) [
  | inl north ↦
      subst (λ (m : Move). MoveKind question west place Closed m) north.2
      (OwnCard north.0 refl refl (own_away question west N place.gone north.0 refl ((holds_tells
      (hand question [] place N) north.0).1 north.1)))
  | inr south ↦
      subst (λ (m : Move). MoveKind question west place Closed m) south.2
      (OwnCard south.0 refl refl (own_away question west S place.gone south.0 refl ((holds_tells
      (hand question [] place S) south.0).1 south.1)))
]
move_kind question west place (Open turn after winner highest) move found =
    elim (follow_or_show (hand question west place turn) move found) [
      | inl card ↦
          subst (λ (m : Move). MoveKind question west place (Open turn after winner highest) m) card.2
          (kind_card question west place turn after winner highest card.0 (is_declarer turn) refl ((holds_tells
          (hand question west place turn) card.0).1 card.1))
      | inr none ↦
          subst (λ (m : Move). MoveKind question west place (Open turn after winner highest) m) none.1
          (kind_out question west place turn after winner highest (is_declarer turn) refl none.0)
    ]
