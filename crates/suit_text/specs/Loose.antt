-- The loose dialect: the lines of a text, the words of a line, and numbers, as questions are read.
use Rattle.std.specs.Prelude.{ℕ, ◌≡◌, ◌+◌, ◌-◌, ◌<◌, ◌==◌, ◌||◌, ◌&&◌, nat_lt, nat_le, Bool, true, List, [], ◌∷◌}
use Rattle.std.specs.Prelude.{length, take, drop, map, Option, Some, None, if◌then◌else◌}
use Rattle.std.specs.Char.{to_ascii_lowercase}
use Rattle.std.specs.Str.{all_ascii_digits, bytes_eq}
use Rattle.std.specs.Str.Parse.{digits_value}
use Rattle.suit_cards.specs.Cards.{Text}

-- a space or a tab
abbrev pub is_blank : ℕ → Bool
is_blank byte = byte == 32 || byte == 9

-- a text that goes on with no word
abbrev pub is_apart : Text → Bool
is_apart [] = true
is_apart (byte ∷ rest) = is_blank byte

-- a byte that the first word or line begins with
abbrev pub with_first : ℕ → List Text → List Text
with_first byte [] = (byte ∷ []) ∷ []
with_first byte (word ∷ words) = (byte ∷ word) ∷ words

-- the words when a byte comes first: none, a word of its own, or the front of the word after it
abbrev pub with_byte : ℕ → Text → List Text → List Text
with_byte byte rest words =
    if is_blank byte then words else if is_apart rest then (byte ∷ []) ∷ words else with_first byte words

-- the words of a line, which spaces and tabs keep apart
unfoldable pub words_of : Text → List Text
words_of [] = []
words_of (byte ∷ rest) = with_byte byte rest (words_of rest)

-- a text cut after each line feed; a last piece may have none
unfoldable pub pieces_of : Text → List Text
pieces_of [] = []
pieces_of (byte ∷ rest) = if byte == 10 then (byte ∷ []) ∷ pieces_of rest else with_first byte (pieces_of rest)

-- a line without the one carriage return that may end it
abbrev pub without_return : Text → Text
without_return line = if bytes_eq (drop (length line - 1) line) (13 ∷ []) then take (length line - 1) line else line

-- the line of a piece: without its line feed, and a carriage return just before that
abbrev pub line_of : Text → Text
line_of piece =
    if bytes_eq (drop (length piece - 1) piece) (10 ∷ []) then without_return (take (length piece - 1) piece) else piece

-- the lines of a text, each as its words
abbrev pub lines_of : Text → List (List Text)
lines_of text = map (λ piece. words_of (line_of piece)) (pieces_of text)

-- a text begins with a piece, which has this line, and this is the rest
pub record BeginsPiece (text line rest : Text) : Type 0 where
  pub piece : Text
  pub pieces : pieces_of text ≡ piece ∷ pieces_of rest
  pub has_line : line_of piece ≡ line
  pub some : 0 < length piece
  pub whole : length piece + length rest ≡ length text

-- a text is a word, in capitals or not
abbrev pub is_word : Text → Text → Bool
is_word word text = bytes_eq (map to_ascii_lowercase text) (map to_ascii_lowercase word)

-- at least one digit, and at most so many, are a number
abbrev pub number_read : ℕ → Text → Option ℕ
number_read digits text =
    if nat_lt 0 (length text) && nat_le (length text) digits && all_ascii_digits text then Some (digits_value 10 text)
    else None
