-- The strict dialect: the lines of a text, the words of a line, and numbers, as answers are read.
use Rattle.std.specs.Prelude.{ℕ, ◌==◌, ◌&&◌, nat_lt, not, Bool, true, false, List, [], ◌∷◌, length, slice_index}
use Rattle.std.specs.Prelude.{Option, Some, None, if◌then◌else◌}
use Rattle.std.specs.List.{slice_split}
use Rattle.suit_cards.specs.Cards.{Text}
use Rattle.suit_text.specs.Digits.{digits_read}

-- what line feeds keep apart: the lines of a text, and last what stands after the last line feed
unfoldable pub pieces_of : Text → List Text
pieces_of text = slice_split (λ byte. byte == 10) text

-- the next line of some pieces, and the pieces after it, unless the line has not ended
abbrev pub next_of : List Text → Option (Text × List Text)
next_of [] = None
next_of (piece ∷ []) = None
next_of (piece ∷ next ∷ pieces) = Some (piece, next ∷ pieces)

-- the words of a line: two spaces side by side, and one at an end of the line, have an empty word beside them
unfoldable pub words_of : Text → List Text
words_of line = slice_split (λ byte. byte == 32) line

-- the words of what follows a word: nothing, or a space and the words after it
abbrev pub words_after : Text → List Text
words_after [] = []
words_after (space ∷ text) = words_of text

-- a text that has a byte
abbrev pub is_filled : Text → Bool
is_filled [] = false
is_filled (byte ∷ bytes) = true

-- a zero in front that could be left out: 48 is `0`
abbrev pub has_spare_zero : Text → Bool
has_spare_zero text = nat_lt 1 (length text) && (slice_index text 0 == 48)

-- the number that a word stands for: it has a digit, and no zero in front that could be left out
abbrev pub number_read : Text → Option ℕ
number_read text = if is_filled text && not (has_spare_zero text) then digits_read text else None
