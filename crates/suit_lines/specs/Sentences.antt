-- The words of moves, of class histories, and of what a plan does at one.
use Rattle.std.specs.Prelude.{nat_lt, Bool, List, [], ◌∷◌, ◌++◌, length, map, slice_index, codes, ℤ, if◌then◌else◌}
use Rattle.std.specs.Fmt.{signed_decimal}
use Rattle.std.specs.List.{flat_map}
use Rattle.suit_cards.specs.Cards.{Text}
use Rattle.suit_cards.specs.declared.seats.Seat.{Seat}
use Rattle.suit_cards.specs.declared.seats.Seat.TheVariants.{N, E, S, W}
use Rattle.suit_classes.specs.declared.class_moves.ClassMove.{ClassMove}
use Rattle.suit_classes.specs.declared.class_moves.ClassMove.TheVariants.{Lead, Follow, ShowOut}
use Rattle.suit_classes.specs.declared.class_turn.ClassTurn.{ClassTurn}
use Rattle.suit_classes.specs.declared.class_turn.ClassTurn.TheVariants as turns
use Rattle.suit_classes.specs.ClassPlaces.{ClassView, class_step, class_turn}
use Rattle.suit_plans.specs.Masses.{Shares}

-- texts one after the other, with another between each two
unfoldable pub joined : Text → List Text → Text
joined between [] = []
joined between (text ∷ texts) = text ++ flat_map (λ next. between ++ next) texts

abbrev pub seat_name : Seat → Text
seat_name N = codes "North"
seat_name E = codes "East"
seat_name S = codes "South"
seat_name W = codes "West"

-- the name of the seat that is to follow; a lead names its own seat, and no move is made where play is decided
abbrev pub turn_name : ClassTurn → Text
turn_name (turns.Declarer seat) = seat_name seat
turn_name (turns.Defence seat) = seat_name seat
turn_name turns.Lead = []
turn_name turns.Decided = []

-- the words of a move that is made at a turn, where the letters of the classes are given
abbrev pub move_words : Text → ClassTurn → ClassMove → Text
move_words letters turn (Lead seat class) = seat_name seat ++ codes " leads " ++ slice_index letters class ∷ []
move_words letters turn (Follow class) = turn_name turn ++ codes " plays " ++ slice_index letters class ∷ []
move_words letters turn ShowOut = turn_name turn ++ codes " shows out"

-- the words of the moves that are made one after the other from a position on
unfoldable pub words_from : Text → ClassView → List ClassMove → List Text
words_from letters view [] = []
words_from letters view (move ∷ moves) =
    move_words letters (class_turn view) move ∷ words_from letters (class_step view move) moves

-- how a line opens, where the position before the first move is given
abbrev pub opening : Text → ClassView → List ClassMove → Text
opening letters start [] = codes "At the start: "
opening letters start (move ∷ moves) =
    codes "After " ++ joined (codes ", ") (words_from letters start (move ∷ moves)) ++ codes ": "

-- how much of the mass at a turn a move gets
abbrev pub part_words : ℤ → ℤ → Text
part_words mass count = codes " " ++ signed_decimal count ++ codes " of " ++ signed_decimal mass

-- the words of a move with its share of the mass at a turn, which are told where the mass is split
abbrev pub move_share_words : Text → ClassTurn → ℤ → Bool → ClassMove × ℤ → Text
move_share_words letters turn mass split share =
    move_words letters turn share.0 ++ (if split then part_words mass share.1 else [])

-- the words of all shares of the mass at a turn
abbrev pub choice_words : Text → ClassTurn → ℤ → Shares → Text
choice_words letters turn mass shares =
    joined (codes "; ") (map (move_share_words letters turn mass (nat_lt 1 (length shares))) shares)
