use Rattle.std.specs.Prelude.{ℕ, ◌≡◌, ◌<◌, ◌≤◌, length, drop, ◌+◌, nat_lt, Bool, true, if◌then◌else◌, List, [], ◌∷◌}
use Rattle.std.specs.Prelude.{filter, find, codes, Option, Some, None, Result, Ok, Err}
use Rattle.std.specs.List.{filter_map}
use Rattle.std.specs.Str.{bytes_eq}
use Rattle.std.specs.Option.{option_map_or}
use Rattle.suit_cards.specs.Ranks.{rank_named}
use Rattle.suit_cards.specs.Holdings.{holds, suit}
use Rattle.suit_cards.specs.declared.holdings.CardFault.{CardFault}
use Rattle.suit_cards.specs.declared.holdings.CardFault.TheVariants.{NotRank, Twice}
use Rattle.suit_cards.specs.Cards.{Cards, Text}

-- the index of a byte of a text where a rank is to begin, and the rank that begins there, if one does
pub record Spot : Type 0 where
  pub index : ℕ
  pub rank : Option ℕ

-- a text from an index on, cut where ranks are to begin: the two bytes 10 stand together, and every other byte alone
unfoldable pub spots_from : ℕ → Text → List Spot
spots_from index [] = []
spots_from index (byte ∷ []) = record { index = index; rank = rank_named byte } ∷ []
spots_from index (byte ∷ next ∷ rest) =
    if bytes_eq (byte ∷ next ∷ []) (codes "10")
    then record { index = index; rank = Some 10 } ∷ spots_from (index + 2) rest
    else record { index = index; rank = rank_named byte } ∷ spots_from (index + 1) (next ∷ rest)

-- the ranks that begin at spots
abbrev pub ranks_read : List Spot → Cards
ranks_read spots = filter_map (λ (spot : Spot). spot.rank) spots

-- the spots before an index
abbrev pub before : ℕ → List Spot → List Spot
before index spots = filter (λ (spot : Spot). nat_lt spot.index index) spots

-- a spot is at fault where no rank begins, or one that begins at a spot before it too
abbrev pub is_at_fault : List Spot → Spot → Bool
is_at_fault spots spot = option_map_or (holds (ranks_read (before spot.index spots))) spot.rank true

-- what is told of a spot at fault
abbrev pub fault_at : Spot → CardFault
fault_at spot = option_map_or (λ _. Twice spot.index) spot.rank (NotRank spot.index)

-- the first spot at fault decides, and with none the holding has the ranks read, falling
abbrev pub holding_at : List Spot → Result Cards CardFault
holding_at spots =
    option_map_or (λ spot. Err (fault_at spot)) (find (is_at_fault spots) spots)
    (Ok (filter (holds (ranks_read spots)) suit))

-- the holding that a text stands for: a dash alone stands for no cards
unfoldable pub holding_read : Text → Result Cards CardFault
holding_read text = if bytes_eq text (codes "-") then Ok [] else holding_at (spots_from 0 text)

-- no rank begins where the text does
abbrev pub BeginsNoRank : Text → Type 0
BeginsNoRank text = (index : ℕ)
    → (rest : List Spot) × (spots_from index text ≡ record { index = index; rank = None } ∷ rest)

-- a rank begins where the text does, and so many bytes stand for it
pub record BeginsRank (text : Text) (rank width : ℕ) : Type 0 where
  pub some : 0 < width
  pub within : width ≤ length text
  pub cut : (index : ℕ)
      → spots_from index text
      ≡ record { index = index; rank = Some rank } ∷ spots_from (index + width) (drop width text)
