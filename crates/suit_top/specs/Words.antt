-- The words after the program's name.
use Rattle.std.specs.Prelude.{Bool, false, List, [], ◌∷◌}
use Rattle.std.specs.Str.{bytes_eq}
use Rattle.suit_cards.specs.Cards.{Text}

-- the words are one word, which is this one
abbrev pub is_only : Text → List Text → Bool
is_only word [] = false
is_only word (only ∷ []) = bytes_eq only word
is_only word (only ∷ next ∷ more) = false
