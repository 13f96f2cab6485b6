-- Lines as they are written, which both dialects read back.
use Rattle.std.specs.Prelude.{List, [], ◌∷◌, ◌++◌}
use Rattle.std.specs.List.{flat_map}
use Rattle.suit_cards.specs.Cards.{Text}

-- the words of a line, one space apart
abbrev pub line_body : List Text → Text
line_body [] = []
line_body (word ∷ words) = word ++ flat_map (λ more. 32 ∷ more) words

-- a line with the line feed that ends it
unfoldable pub line_text : List Text → Text
line_text words = line_body words ++ 10 ∷ []
