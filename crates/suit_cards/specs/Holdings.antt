use Rattle.std.specs.Prelude.{ℕ, ◌<◌, ◌≤◌, ◌==◌, ◌||◌, not, Bool, [], ◌∷◌, filter, map, codes}
use Rattle.std.specs.List.{list_any}
use Rattle.suit_cards.specs.Ranks.{letter_of}
use Rattle.suit_cards.specs.Cards.{Cards, Text}

-- each rank is at least 2 and below the one before it, and the first is below the top
abbrev pub FallsBelow : ℕ → Cards → Type 0
FallsBelow top [] = Unit {0}
FallsBelow top (rank ∷ rest) = (2 ≤ rank) × (rank < top) × FallsBelow rank rest

-- a holding is seen as its ranks, from 14 down to 2, strictly falling
abbrev pub IsHolding : Cards → Type 0
IsHolding ranks = FallsBelow 15 ranks

-- the thirteen ranks of a suit, falling
unfoldable pub suit : Cards
suit = 14 ∷ 13 ∷ 12 ∷ 11 ∷ 10 ∷ 9 ∷ 8 ∷ 7 ∷ 6 ∷ 5 ∷ 4 ∷ 3 ∷ 2 ∷ []

-- whether a rank is among the ranks held
abbrev pub holds : Cards → ℕ → Bool
holds ranks rank = list_any (λ held. rank == held) ranks

-- the ranks without one of them, in their order
abbrev pub without_rank : Cards → ℕ → Cards
without_rank ranks rank = filter (λ held. not (rank == held)) ranks

-- the ranks with one more, falling
abbrev pub with_rank : Cards → ℕ → Cards
with_rank ranks rank = filter (λ other. rank == other || holds ranks other) suit

-- the ranks of the suit, falling, that stand in neither of two holdings
abbrev pub others_of : Cards → Cards → Cards
others_of ranks more = filter (λ rank. not (holds ranks rank || holds more rank)) suit

-- what a holding is written as: its letters, falling, or a dash where it has no card
abbrev pub text_of : Cards → Text
text_of [] = codes "-"
text_of (rank ∷ rest) = map letter_of (rank ∷ rest)
