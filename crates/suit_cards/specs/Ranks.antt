use Rattle.std.specs.Prelude.{ℕ, ◌+◌, ◌-◌, ◌≤◌, ◌==◌, Option, codes, position, slice_index}
use Rattle.std.specs.Option.{option_map}
use Rattle.std.specs.Char.{to_ascii_uppercase}
use Rattle.suit_cards.specs.Cards.{Text}

-- a rank is a number from 2 to 14, with 11 for the jack up to 14 for the ace
abbrev pub IsRank : ℕ → Type 0
IsRank rank = (2 ≤ rank) × (rank ≤ 14)

-- the letters of the thirteen ranks, from the two up to the ace
unfoldable pub letters : Text
letters = codes "23456789TJQKA"

-- the letter or digit that stands for a rank
abbrev pub letter_of : ℕ → ℕ
letter_of rank = slice_index letters (rank - 2)

-- the rank that a byte stands for, in either case, if it stands for one
abbrev pub rank_named : ℕ → Option ℕ
rank_named byte = option_map (λ index. index + 2) (position (λ letter. letter == to_ascii_uppercase byte) letters)
