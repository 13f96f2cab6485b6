-- The records of a made table, and how they are written.
use Rattle.std.specs.Prelude.{List, [], ◌∷◌, ◌++◌, codes, decimal}
use Rattle.std.specs.List.{flat_map}
use Rattle.suit_cards.specs.Cards.{Text}
use Rattle.suit_cards.specs.Holdings.{text_of}
use Rattle.suit_game.specs.declared.limits.TheConstants.{HAND_SIZE}
use Rattle.suit_gen.specs.declared.deals.Deal.{Deal}
use Rattle.suit_gen.specs.declared.deals.TheConstants.{MADE_NODES, MADE_PIVOTS}

-- the thirteen fields of the record of a deal
abbrev pub fields_of : Deal → List Text
fields_of deal =
    text_of deal.north
    ∷ text_of deal.south
    ∷ codes "either"
    ∷ codes "either"
    ∷ codes "0"
    ∷ codes "0"
    ∷ decimal HAND_SIZE
    ∷ decimal HAND_SIZE
    ∷ codes "0"
    ∷ decimal HAND_SIZE
    ∷ decimal deal.goal
    ∷ decimal MADE_NODES
    ∷ decimal MADE_PIVOTS
    ∷ []

-- fields with a comma between any two
abbrev pub separated : List Text → Text
separated [] = []
separated (field ∷ fields) = field ++ flat_map (λ more. codes "," ++ more) fields

-- the line of a record
unfoldable pub record_text : Deal → Text
record_text deal = separated (fields_of deal) ++ codes "\n"
