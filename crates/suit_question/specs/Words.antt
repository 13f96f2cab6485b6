-- Lines that say nothing, and the line that ends a question, by their words.
use Rattle.std.specs.Prelude.{Bool, true, false, List, [], ◌∷◌, take, codes}
use Rattle.std.specs.Str.{bytes_eq}
use Rattle.suit_cards.specs.Cards.{Text}
use Rattle.suit_text.specs.Loose.{is_word}

-- a word that begins a remark
abbrev pub begins_with_hash : Text → Bool
begins_with_hash word = bytes_eq (take 1 word) (codes "#")

-- a line without a word, or with a remark, is skipped
abbrev pub is_skipped : List Text → Bool
is_skipped [] = true
is_skipped (word ∷ words) = begins_with_hash word

-- the line that ends a question
abbrev pub is_end : List Text → Bool
is_end [] = false
is_end (word ∷ []) = is_word (codes "end") word
is_end (word ∷ more ∷ words) = false
