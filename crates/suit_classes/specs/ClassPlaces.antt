-- Positions of the class game, told by how many cards of each class are left or played.
use Rattle.std.specs.Prelude.{ℕ, zero, suc, ◌+◌, ◌-◌, ◌*◌, ◌<◌, ◌||◌, ◌&&◌, not, nat_lt, max, Bool, false, List, []}
use Rattle.std.specs.Prelude.{◌∷◌, ◌++◌, length, map, filter, fold, slice_index, slice_set, ◌≡◌, if◌then◌else◌}
use Rattle.std.specs.List.{range_with_len}
use Rattle.suit_cards.specs.Cards.{ClassLayout, Indices}
use Rattle.suit_cards.specs.declared.seats.Seat.{Seat}
use Rattle.suit_cards.specs.declared.seats.Seat.TheVariants.{N, E, S, W}
use Rattle.suit_cards.specs.Seats.{clockwise}
use Rattle.suit_game.specs.declared.question.Question.{Question}
use Rattle.suit_game.specs.declared.question.LeadAt.{LeadAt}
use Rattle.suit_game.specs.declared.question.LeadAt.TheVariants as leads
use Rattle.suit_game.specs.declared.question.Entries.{Entries}
use Rattle.suit_game.specs.Gains.{is_declarer}
use Rattle.suit_game.specs.Positions.{stands_at, has_entry, after_lead, payoff}
use Rattle.suit_classes.specs.declared.class_view.ClassView.{ClassView as PlaceCounts}
use Rattle.suit_classes.specs.declared.class_trick.ClassTrick.{ClassTrick as PlaceTrick}
use Rattle.suit_classes.specs.declared.class_trick.ClassTrick.TheVariants.{Closed, Open}
use Rattle.suit_classes.specs.declared.classes.TheConstants.{MOST_CLASSES}
use Rattle.suit_classes.specs.declared.classes.Owner.{Owner}
use Rattle.suit_classes.specs.declared.classes.Owner.TheVariants as owners
use Rattle.suit_classes.specs.declared.class_moves.ClassMove.{ClassMove}
use Rattle.suit_classes.specs.declared.class_moves.ClassMove.TheVariants.{Lead, Follow, ShowOut}
use Rattle.suit_classes.specs.declared.class_turn.ClassTurn.{ClassTurn}
use Rattle.suit_classes.specs.declared.class_turn.ClassTurn.TheVariants as turns
use Rattle.suit_classes.specs.ClassGame.{is_goal_settled}
use Rattle.suit_classes.specs.ClassMoves.{ClassHistory}
use Rattle.suit_classes.specs.Classes.{Hands, hands_of, same_owner, class_owner, class_size}

-- a position: counts of cards by class, and the trick in progress, which says who is on turn, how many seats play after
-- it,
-- whose card is the highest, and of which class
abbrev pub ClassView : Type 0
ClassView = PlaceCounts

-- the trick in progress, or none
abbrev pub ClassTrick : Type 0
ClassTrick = PlaceTrick

-- no class is North's and South's
abbrev pub AreApart : ClassLayout → ClassLayout → Type 0
AreApart north south = (class : ℕ) → slice_index north class * slice_index south class ≡ 0

-- the numbers that a class may have
unfoldable pub class_numbers : Indices
class_numbers = range_with_len 0 MOST_CLASSES

-- the classes of which a list of counts has a card
abbrev pub counted_classes : ClassLayout → Indices
counted_classes counts = filter (λ class. nat_lt 0 (slice_index counts class)) class_numbers

-- the cards of a class, where this side held it, and else none
abbrev pub held_by : Hands → Owner → ℕ → ℕ
held_by hands owner class = if same_owner (class_owner hands class) owner then class_size hands class else 0

-- how many cards of each class a side was dealt
unfoldable pub dealt_to : Hands → Owner → ClassLayout
dealt_to hands owner = map (held_by hands owner) class_numbers

-- no card of any class
unfoldable pub none_played : ClassLayout
none_played = map (λ class. 0) class_numbers

-- the position before any move
abbrev pub class_start : Question → ClassView
class_start question = record {
  north = dealt_to (hands_of question) owners.N;
  south = dealt_to (hands_of question) owners.S;
  cards_n = length question.north;
  cards_s = length question.south;
  defence = dealt_to (hands_of question) owners.Defence;
  gone_w = none_played;
  gone_e = none_played;
  trick = Closed;
  lead = question.start;
  regain = question.regain;
  entries_n = question.entries_n;
  entries_s = question.entries_s;
  goal = question.goal;
  won = 0;
}

-- whether the defenders were dealt cards of a class
abbrev pub is_defence_class : ClassView → ℕ → Bool
is_defence_class view class = nat_lt 0 (slice_index view.defence class)

-- which of the defenders' classes a class of theirs is
abbrev pub defence_index : ClassView → ℕ → ℕ
defence_index view class = length (filter (is_defence_class view) (range_with_len 0 class))

-- how many cards of one of the defenders' classes West was dealt, where his counts in their classes are given
abbrev pub west_count : ClassView → ClassLayout → ℕ → ℕ
west_count view counts class = slice_index counts (defence_index view class)

-- how many cards of a class a seat has left
abbrev pub left : ClassView → ClassLayout → Seat → ℕ → ℕ
left view counts N class = slice_index view.north class
left view counts S class = slice_index view.south class
left view counts W class =
    if is_defence_class view class then west_count view counts class - slice_index view.gone_w class else 0
left view counts E class =
    if is_defence_class view class
    then slice_index view.defence class - west_count view counts class - slice_index view.gone_e class else 0

-- the classes of which a seat has a card left
abbrev pub classes_left : ClassView → ClassLayout → Seat → Indices
classes_left view counts seat = filter (λ class. nat_lt 0 (left view counts seat class)) class_numbers

-- whether declarer may lead from a hand
abbrev pub may_lead : LeadAt → Entries → Seat → Bool
may_lead lead entries seat = stands_at lead seat || has_entry entries

abbrev pub or_show_out : List ClassMove → List ClassMove
or_show_out [] = ShowOut ∷ []
or_show_out (move ∷ moves) = move ∷ moves

-- the leads, those of North first
abbrev pub class_leads : ClassView → List ClassMove
class_leads view =
    (if may_lead view.lead view.entries_n N then map (Lead N) (counted_classes view.north) else [])
    ++ (if may_lead view.lead view.entries_s S then map (Lead S) (counted_classes view.south) else [])

-- the moves at a position in their order, where West's counts are given
abbrev pub class_moves_in : ClassView → ClassLayout → ClassTrick → List ClassMove
class_moves_in view counts Closed = class_leads view
class_moves_in view counts (Open turn after winner highest) = or_show_out (map Follow (classes_left view counts turn))

abbrev pub class_moves : ClassView → ClassLayout → List ClassMove
class_moves view counts = class_moves_in view counts view.trick

-- whether declarer has a lead
abbrev pub has_class_lead : ClassView → Bool
has_class_lead view =
    (may_lead view.lead view.entries_n N && nat_lt 0 view.cards_n) ||
    (may_lead view.lead view.entries_s S && nat_lt 0 view.cards_s)

abbrev pub class_decided_in : ClassView → ClassTrick → Bool
class_decided_in view Closed =
    not (has_class_lead view) || is_goal_settled view.goal view.won (max view.cards_n view.cards_s)
class_decided_in view (Open turn after winner highest) = false

-- whether a position is decided
abbrev pub class_decided : ClassView → Bool
class_decided view = class_decided_in view view.trick

abbrev pub turn_of : ClassTrick → ClassTurn
turn_of Closed = turns.Lead
turn_of (Open turn after winner highest) = if is_declarer turn then turns.Declarer turn else turns.Defence turn

-- who is on turn
abbrev pub class_turn : ClassView → ClassTurn
class_turn view = if class_decided view then turns.Decided else turn_of view.trick

-- what the tricks won are worth
abbrev pub class_payoff : ClassView → ℕ
class_payoff view = payoff view.goal view.won

-- the side that a seat plays for, declarer's hands apart
abbrev pub side : Seat → Owner
side N = owners.N
side S = owners.S
side E = owners.Defence
side W = owners.Defence

-- a seat has played a card of a class
abbrev pub class_played : ClassView → Seat → ℕ → ClassView
class_played view N class =
    record view { north = slice_set view.north class (slice_index view.north class - 1); cards_n = view.cards_n - 1 }
class_played view S class =
    record view { south = slice_set view.south class (slice_index view.south class - 1); cards_s = view.cards_s - 1 }
class_played view W class = record view { gone_w = slice_set view.gone_w class (slice_index view.gone_w class + 1) }
class_played view E class = record view { gone_e = slice_set view.gone_e class (slice_index view.gone_e class + 1) }

-- the position after a lead; the defenders never lead
abbrev pub class_led : ClassView → Seat → ℕ → ClassView
class_led view N class =
    record (class_played view N class)
    { trick = Open E 2 owners.N class; entries_n = after_lead view.lead N view.entries_n }
class_led view S class =
    record (class_played view S class)
    { trick = Open W 2 owners.S class; entries_s = after_lead view.lead S view.entries_s }
class_led view E class = view
class_led view W class = view

-- declarer's tricks are counted and leave the lead with the hand that won; after the defenders' it stands at regain
abbrev pub class_ended : ClassView → Owner → ClassView
class_ended view owners.N = record view { trick = Closed; lead = leads.N; won = view.won + 1 }
class_ended view owners.S = record view { trick = Closed; lead = leads.S; won = view.won + 1 }
class_ended view owners.Defence = record view { trick = Closed; lead = view.regain }

-- the position after a seat has played to a trick
abbrev pub class_passed : ClassView → Seat → ℕ → Owner → ℕ → ClassView
class_passed view turn zero winner highest = class_ended view winner
class_passed view turn (suc after) winner highest = record view { trick = Open (clockwise turn) after winner highest }

-- the position after the seat on turn has followed with a card of a class: the lowest number is the highest class
abbrev pub class_followed : ClassView → Seat → ℕ → Owner → ℕ → ℕ → ClassView
class_followed view turn after winner highest class =
    if nat_lt class highest then class_passed (class_played view turn class) turn after (side turn) class
    else class_passed (class_played view turn class) turn after winner highest

abbrev pub class_step_in : ClassView → ClassTrick → ClassMove → ClassView
class_step_in view Closed (Lead seat class) = class_led view seat class
class_step_in view Closed (Follow class) = view
class_step_in view Closed ShowOut = view
class_step_in view (Open turn after winner highest) (Lead seat class) = view
class_step_in view (Open turn after winner highest) (Follow class) = class_followed view turn after winner highest class
class_step_in view (Open turn after winner highest) ShowOut = class_passed view turn after winner highest

-- the position after one more move; a move of the wrong kind changes nothing
abbrev pub class_step : ClassView → ClassMove → ClassView
class_step view move = class_step_in view view.trick move

-- the position after a class history
abbrev pub class_after : Question → ClassHistory → ClassView
class_after question history = fold class_step (class_start question) history

-- so few cards of each class have gone, and tricks been won, that one more can be counted
pub record IsSmall (view : ClassView) : Type 0 where
  pub gone_w : (class : ℕ) → slice_index view.gone_w class < 255
  pub gone_e : (class : ℕ) → slice_index view.gone_e class < 255
  pub won : view.won < 255
