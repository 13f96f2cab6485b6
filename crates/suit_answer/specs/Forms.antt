-- The forms of lines, told by their words. Any word but the empty one may stand for a number or a move, except that in
-- a row a colon may not.
use Rattle.std.specs.Prelude.{◌==◌, ◌&&◌, not, Bool, true, false, List, [], ◌∷◌, codes, Option, Some, None}
use Rattle.std.specs.Prelude.{if◌then◌else◌}
use Rattle.std.specs.List.{slice_split}
use Rattle.std.specs.Option.{option_and_then}
use Rattle.std.specs.Str.{bytes_eq}
use Rattle.suit_cards.specs.Cards.{Text}
use Rattle.suit_text.specs.Strict.{is_filled}

-- two texts, neither of them empty, and no more
abbrev pub two_filled : List Text → Option (Text × Text)
two_filled [] = None
two_filled (first ∷ []) = None
two_filled (first ∷ second ∷ []) = if is_filled first && is_filled second then Some (first, second) else None
two_filled (first ∷ second ∷ more ∷ texts) = None

-- the words after the keyword that a line is to begin with
abbrev pub after_keyword : Text → List Text → Option (List Text)
after_keyword keyword [] = None
after_keyword keyword (word ∷ words) = if bytes_eq word keyword then Some words else None

-- the two sides of the one slash in a word: 47 is the slash
abbrev pub slash_sides : Text → Option (Text × Text)
slash_sides word = two_filled (slice_split (λ byte. byte == 47) word)

-- one word, with one slash
abbrev pub one_fraction : List Text → Option (Text × Text)
one_fraction [] = None
one_fraction (word ∷ []) = slash_sides word
one_fraction (word ∷ more ∷ words) = None

-- the two words for the numbers of a line `value NUM/NUM`
abbrev pub value_form : List Text → Option (Text × Text)
value_form words = option_and_then one_fraction (after_keyword (codes "value") words)

-- the two words for the numbers of a line of a keyword and two numbers
abbrev pub header_form : Text → List Text → Option (Text × Text)
header_form keyword words = option_and_then two_filled (after_keyword keyword words)

-- a word that may stand for a number or a move in a row
abbrev pub is_value : Text → Bool
is_value word = is_filled word && not (bytes_eq word (codes ":"))

-- words by twos
unfoldable pub are_pairs : List Text → Bool
are_pairs [] = true
are_pairs (move ∷ []) = false
are_pairs (move ∷ count ∷ words) = is_value move && is_value count && are_pairs words

-- words by twos, and two at least
abbrev pub are_shares : List Text → Bool
are_shares [] = false
are_shares (word ∷ words) = are_pairs (word ∷ words)

-- moves, which may be none, then a colon, and then moves with counts
unfoldable pub is_turn : List Text → Bool
is_turn [] = false
is_turn (word ∷ words) = if bytes_eq word (codes ":") then are_shares words else is_filled word && is_turn words

-- counts up to the first word `at`, and then a turn
unfoldable pub is_layout_turn : List Text → Bool
is_layout_turn [] = false
is_layout_turn (word ∷ words) = if bytes_eq word (codes "at") then is_turn words
    else is_value word && is_layout_turn words
