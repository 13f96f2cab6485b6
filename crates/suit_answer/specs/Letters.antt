-- The letters of classes, and the words of moves.
use Rattle.std.specs.Prelude.{ℕ, ◌==◌, [], ◌∷◌, ◌++◌, map, position, slice_index, codes, Option, Some, None}
use Rattle.std.specs.Prelude.{Result, if◌then◌else◌}
use Rattle.std.specs.List.{range_with_len}
use Rattle.std.specs.Option.{ok_or, option_map, option_map_or, option_and_then}
use Rattle.suit_cards.specs.Cards.{Text}
use Rattle.suit_cards.specs.Ranks.{letter_of}
use Rattle.suit_cards.specs.declared.seats.Seat.{Seat}
use Rattle.suit_cards.specs.declared.seats.Seat.TheVariants.{N, E, S, W}
use Rattle.suit_classes.specs.Classes.{Hands, class_count, class_top}
use Rattle.suit_classes.specs.declared.class_moves.ClassMove.{ClassMove}
use Rattle.suit_classes.specs.declared.class_moves.ClassMove.TheVariants.{Lead, Follow, ShowOut}
use Rattle.suit_answer.specs.declared.faults.AnswerFault.{AnswerFault}
use Rattle.suit_answer.specs.declared.faults.AnswerFault.TheVariants.{Move}

-- the letter of a class is that of its highest rank
abbrev pub class_letter : Hands → ℕ → ℕ
class_letter hands class = option_map_or letter_of (class_top hands class) 0

-- the letters of all classes, in their order
unfoldable pub class_letters : Hands → Text
class_letters hands = map (class_letter hands) (range_with_len 0 (class_count hands))

-- the class that a byte is the letter of, among the letters of all classes
abbrev pub class_named : Text → ℕ → Option ℕ
class_named letters byte = position (λ letter. letter == byte) letters

-- the hand of declarer's that a byte names: 78 is `N`, and 83 is `S`
abbrev pub hand_named : ℕ → Option Seat
hand_named byte = if byte == 78 then Some N else if byte == 83 then Some S else None

-- a follow with a class, or a dash, which is 45, for showing out
abbrev pub follow_named : Text → ℕ → Option ClassMove
follow_named letters byte = if byte == 45 then Some ShowOut
    else option_map (λ class. Follow class) (class_named letters byte)

-- the move that a word stands for
abbrev pub move_read : Text → Text → Option ClassMove
move_read letters [] = None
move_read letters (byte ∷ []) = follow_named letters byte
move_read letters (hand ∷ byte ∷ []) =
    option_and_then (λ seat. option_map (λ class. Lead seat class) (class_named letters byte)) (hand_named hand)
move_read letters (byte ∷ next ∷ more ∷ bytes) = None

-- the move that is due in a line of this number
unfoldable pub move_due : Text → ℕ → Text → Result ClassMove AnswerFault
move_due letters line text = ok_or (move_read letters text) (Move line)

-- the letter of a seat
abbrev pub seat_letter : Seat → Text
seat_letter N = codes "N"
seat_letter E = codes "E"
seat_letter S = codes "S"
seat_letter W = codes "W"

-- the word of a move
abbrev pub move_word : Text → ClassMove → Text
move_word letters (Lead seat class) = seat_letter seat ++ slice_index letters class ∷ []
move_word letters (Follow class) = slice_index letters class ∷ []
move_word letters ShowOut = codes "-"
