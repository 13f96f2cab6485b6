-- What a place is seen as: what is left of a position without the order in which the cards went.
use Rattle.std.specs.Prelude.{◌≡◌, ℕ, ◌∷◌, Option, Some, None, Contains, true, false, refl, if◌then◌else◌}
use Rattle.suit_cards.specs.declared.seats.Seat.{Seat}
use Rattle.suit_cards.specs.Cards.{Cards}
use Rattle.suit_game.specs.declared.question.Question.{Question}
use Rattle.suit_game.specs.declared.question.LeadAt.{LeadAt}
use Rattle.suit_game.specs.declared.question.Entries.{Entries}
use Rattle.suit_game.specs.declared.trick.OpenTrick.{OpenTrick}
use Rattle.suit_game.specs.declared.turn.Turn.{Turn}
use Rattle.suit_game.specs.declared.turn.Turn.TheVariants as turns
use Rattle.suit_game.specs.Gains.{is_declarer}
use Rattle.suit_game.specs.Layouts.{layouts}
use Rattle.suit_game.specs.Positions.{Position, Trick, Closed, Open, without, after, has_ended, IsLegal}
use Rattle.suit_game.specs.Question.{missing}
use Rattle.suit_game.specs.Validity.{IsValid}
use Rattle.suit_game.specs.Histories.{History}

-- what is known of a position without the layout
pub record PlaceView : Type 0 where
  -- the cards that North, South and the defenders together have not played
  pub north : Cards
  pub south : Cards
  pub defenders : Cards
  pub trick : Trick
  -- where the lead stands, or stood before the trick in progress, and where it will after a trick lost
  pub lead : LeadAt
  pub regain : LeadAt
  pub entries_n : Entries
  pub entries_s : Entries
  -- the tricks that declarer won
  pub won : ℕ

-- what a position of a question is seen as
abbrev pub seen : Question → Position → PlaceView
seen question place = record {
  north = without question.north place.gone;
  south = without question.south place.gone;
  defenders = without (missing question) place.gone;
  trick = place.trick;
  lead = place.lead;
  regain = question.regain;
  entries_n = place.entries_n;
  entries_s = place.entries_s;
  won = place.won;
}

-- a place is the position after a history
abbrev pub IsAt : Question → History → PlaceView → Type 0
IsAt question history view = view ≡ seen question (after question history)

-- the position with one more card gone
abbrev pub with_gone : Position → ℕ → Position
with_gone place card = record place { gone = card ∷ place.gone }

-- a history that is legal under a layout of a valid question
pub record IsPlay (question : Question) (west : Cards) (history : History) : Type 0 where
  pub valid : IsValid question
  pub layout : Contains (layouts question) west
  pub legal : IsLegal question west history

-- the seat is to follow to the trick in progress
abbrev pub IsToFollow : Trick → Seat → Type 0
IsToFollow Closed seat = ⊥
IsToFollow (Open turn after winner highest) seat = turn ≡ seat

-- who is on turn where play goes on
abbrev pub turn_on : Trick → Turn
turn_on Closed = turns.Lead
turn_on (Open turn after winner highest) = if is_declarer turn then turns.Declarer turn else turns.Defence turn

-- who is on turn at a position
abbrev pub turn_at : Question → Position → Turn
turn_at question place = if has_ended question place then turns.Over else turn_on place.trick

-- who is on turn goes with the trick in progress
abbrev pub IsTurnAt : Turn → Trick → Type 0
IsTurnAt turns.Lead trick = trick ≡ Closed
IsTurnAt turns.Over trick = trick ≡ Closed
IsTurnAt (turns.Declarer seat) trick = IsToFollow trick seat × (is_declarer seat ≡ true)
IsTurnAt (turns.Defence seat) trick = IsToFollow trick seat × (is_declarer seat ≡ false)

-- what a trick in progress, or none, is seen as
abbrev pub trick_seen : Option OpenTrick → Trick
trick_seen None = Closed
trick_seen (Some trick) = Open trick.turn trick.after trick.winner trick.highest

-- the trick that is seen so
abbrev pub trick_behind : Trick → Option OpenTrick
trick_behind Closed = None
trick_behind (Open turn after winner highest) =
    Some (record { turn = turn; after = after; winner = winner; highest = highest })

pub trick_behind-seen : (trick : Option OpenTrick) → trick_behind (trick_seen trick) ≡ trick
trick_behind-seen None = refl
trick_behind-seen (Some trick) = refl
