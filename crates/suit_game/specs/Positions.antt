-- Play of single cards: the public position after a history, and the moves that are legal there.
use Rattle.std.specs.Prelude.{ℕ, zero, suc, ◌+◌, ◌-◌, ◌||◌, not, nat_lt, nat_le, Bool, true, false, List, [], ◌∷◌, ◌++◌}
use Rattle.std.specs.Prelude.{map, filter, fold, Contains, if◌then◌else◌}
use Rattle.suit_cards.specs.declared.seats.Seat.{Seat}
use Rattle.suit_cards.specs.declared.seats.Seat.TheVariants.{N, E, S, W}
use Rattle.suit_cards.specs.Seats.{clockwise}
use Rattle.suit_cards.specs.Cards.{Cards}
use Rattle.suit_cards.specs.Holdings.{holds}
use Rattle.suit_game.specs.declared.question.Question.{Question}
use Rattle.suit_game.specs.declared.question.LeadAt.{LeadAt}
use Rattle.suit_game.specs.declared.question.LeadAt.TheVariants as leads
use Rattle.suit_game.specs.declared.question.Entries.{Entries}
use Rattle.suit_game.specs.declared.question.Entries.TheVariants.{Count, Free}
use Rattle.suit_game.specs.declared.question.Goal.{Goal}
use Rattle.suit_game.specs.declared.question.Goal.TheVariants.{AtLeast, Tricks}
use Rattle.suit_game.specs.declared.moves.Move.{Move}
use Rattle.suit_game.specs.declared.moves.Move.TheVariants.{Lead, Follow, ShowOut}
use Rattle.suit_game.specs.Question.{missing}
use Rattle.suit_game.specs.Histories.{History}

-- the trick in progress: none, or the seat on turn, how many seats play after it, and who has played the highest card
pub data Trick : Type 0 where
  Closed : Trick
  Open : (turn : Seat) (after : ℕ) (winner : Seat) (highest : ℕ) → Trick

-- a public position
pub record Position : Type 0 where
  -- the cards played, the latest first
  pub gone : Cards
  pub trick : Trick
  -- where the lead stands, or stood before the trick in progress
  pub lead : LeadAt
  pub entries_n : Entries
  pub entries_s : Entries
  -- the tricks that declarer won
  pub won : ℕ

-- the position before any move
abbrev pub start_place : Question → Position
start_place question = record {
  gone = [];
  trick = Closed;
  lead = question.start;
  entries_n = question.entries_n;
  entries_s = question.entries_s;
  won = 0;
}

-- the cards of a hand that are not gone, in their order
unfoldable pub without : Cards → Cards → Cards
without hand gone = filter (λ card. not (holds gone card)) hand

-- the cards that a seat was dealt, under a layout
abbrev pub dealt : Question → Cards → Seat → Cards
dealt question west N = question.north
dealt question west E = without (missing question) west
dealt question west S = question.south
dealt question west W = west

-- the cards that a seat holds at a position
abbrev pub hand : Question → Cards → Position → Seat → Cards
hand question west place seat = without (dealt question west seat) place.gone

-- the cards that a declarer hand holds at a position: no layout is asked for, and the defenders have none of it
abbrev pub declarer_hand : Question → Position → Seat → Cards
declarer_hand question place N = without question.north place.gone
declarer_hand question place S = without question.south place.gone
declarer_hand question place E = []
declarer_hand question place W = []

-- whether a lead from a declarer hand spends no entry
abbrev pub stands_at : LeadAt → Seat → Bool
stands_at leads.Either seat = true
stands_at leads.N N = true
stands_at leads.S S = true
stands_at leads.N E = false
stands_at leads.N S = false
stands_at leads.N W = false
stands_at leads.S N = false
stands_at leads.S E = false
stands_at leads.S W = false

-- whether an entry is left
abbrev pub has_entry : Entries → Bool
has_entry Free = true
has_entry (Count left) = nat_lt 0 left

-- the entries after one is spent
abbrev pub spent : Entries → Entries
spent Free = Free
spent (Count left) = Count (left - 1)

-- whether there is nothing in a list
abbrev pub is_empty : {X : Type 0} → List X → Bool
is_empty [] = true
is_empty (first ∷ more) = false

-- whether declarer may lead from North's hand, or from South's
abbrev pub may_lead_n : Position → Bool
may_lead_n place = stands_at place.lead N || has_entry place.entries_n

abbrev pub may_lead_s : Position → Bool
may_lead_s place = stands_at place.lead S || has_entry place.entries_s

-- the leads, those of North first, each with ranks falling
abbrev pub leads_at : Question → Position → List Move
leads_at question place =
    (if may_lead_n place then map (Lead N) (declarer_hand question place N) else [])
    ++ (if may_lead_s place then map (Lead S) (declarer_hand question place S) else [])

-- what a hand may follow with: one of its cards, and with none it shows out
abbrev pub follows_of : Cards → List Move
follows_of [] = ShowOut ∷ []
follows_of (card ∷ cards) = map Follow (card ∷ cards)

-- the legal moves at a position, in their order; only a defender's follows rest on the layout
unfoldable pub legal_in : Question → Cards → Position → Trick → List Move
legal_in question west place Closed = leads_at question place
legal_in question west place (Open turn after winner highest) = follows_of (hand question west place turn)

abbrev pub legal_at : Question → Cards → Position → List Move
legal_at question west place = legal_in question west place place.trick

-- declarer's tricks are counted and leave the lead with the hand that won; after the defenders' it stands at regain
abbrev pub ended_trick : Question → Position → Seat → Position
ended_trick question place N = record place { trick = Closed; lead = leads.N; won = place.won + 1 }
ended_trick question place S = record place { trick = Closed; lead = leads.S; won = place.won + 1 }
ended_trick question place E = record place { trick = Closed; lead = question.regain }
ended_trick question place W = record place { trick = Closed; lead = question.regain }

-- the position after a seat has played to a trick, whose winner so far is given
abbrev pub turn_passed : Question → Position → Seat → ℕ → Seat → ℕ → Position
turn_passed question place turn zero winner highest = ended_trick question place winner
turn_passed question place turn (suc after) winner highest =
    record place { trick = Open (clockwise turn) after winner highest }

-- the entries to a hand after a lead from it, of which none is spent where the lead stands there
abbrev pub after_lead : LeadAt → Seat → Entries → Entries
after_lead lead seat entries = if stands_at lead seat then entries else spent entries

-- the position after a lead; the defenders never lead
abbrev pub led : Position → Seat → ℕ → Position
led place N card = record place {
  gone = card ∷ place.gone;
  trick = Open E 2 N card;
  entries_n = after_lead place.lead N place.entries_n;
}
led place S card = record place {
  gone = card ∷ place.gone;
  trick = Open W 2 S card;
  entries_s = after_lead place.lead S place.entries_s;
}
led place E card = place
led place W card = place

-- the position after the seat on turn has followed with a card, which wins so far where it is the highest
abbrev pub followed : Question → Position → Seat → ℕ → Seat → ℕ → ℕ → Position
followed question place turn after winner highest card =
    let played : Position = record place { gone = card ∷ place.gone } in
    if nat_lt highest card
    then turn_passed question played turn after turn card
    else turn_passed question played turn after winner highest

-- the position after a move; a move of the wrong kind changes nothing
unfoldable pub step_in : Question → Position → Trick → Move → Position
step_in question place Closed (Lead seat card) = led place seat card
step_in question place (Open turn after winner highest) (Follow card) =
    followed question place turn after winner highest card
step_in question place (Open turn after winner highest) ShowOut = turn_passed question place turn after winner highest
step_in question place Closed (Follow card) = place
step_in question place Closed ShowOut = place
step_in question place (Open turn after winner highest) (Lead seat card) = place

abbrev pub step : Question → Position → Move → Position
step question place move = step_in question place place.trick move

-- the position after a history
abbrev pub after : Question → History → Position
after question history = fold (step question) (start_place question) history

-- the legal moves after a history, under a layout
abbrev pub legal : Question → Cards → History → List Move
legal question west history = legal_at question west (after question history)

-- each move of a play on from a position is legal where it comes
unfoldable pub LegalFrom : Question → Cards → Position → List Move → Type 0
LegalFrom question west place [] = Unit {0}
LegalFrom question west place (move ∷ moves) =
    Contains (legal_at question west place) move × LegalFrom question west (step question place move) moves

-- a legal history is a play on from the start
abbrev pub IsLegal : Question → Cards → History → Type 0
IsLegal question west history = LegalFrom question west (start_place question) history

-- between tricks, with nothing that may be led, play is over
abbrev pub ended_in : Question → Position → Trick → Bool
ended_in question place Closed = is_empty (leads_at question place)
ended_in question place (Open turn after winner highest) = false

abbrev pub has_ended : Question → Position → Bool
has_ended question place = ended_in question place place.trick

-- what the tricks won are worth: 1 where they are enough, else 0, or one each
abbrev pub payoff : Goal → ℕ → ℕ
payoff (AtLeast least) won = if nat_le least won then 1 else 0
payoff Tricks won = won
