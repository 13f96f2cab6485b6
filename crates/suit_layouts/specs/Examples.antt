-- Worked examples: class layouts and their weights, written down by hand.
use Rattle.std.specs.Prelude.{◌≡◌, [], ◌∷◌, take, length}
use Rattle.suit_game.specs.Examples.{eleven_cards, tenace}
use Rattle.suit_game.specs.declared.question.Goal.TheVariants.{AtLeast, Tricks}
use Rattle.suit_game.specs.Question.{plain}
use Rattle.suit_layouts.specs.ClassLayouts.{class_layouts}

-- the king and the two apart: four layouts, each a class layout of its own
abbrev pub TwoApart : Type 0
TwoApart =
    class_layouts (plain (14 ∷ 12 ∷ 11 ∷ 10 ∷ 9 ∷ 8 ∷ 7 ∷ 6 ∷ 5 ∷ 4 ∷ []) (3 ∷ []) (AtLeast 10)) (1 ∷ 1 ∷ [])
    ≡ (0 ∷ 0 ∷ [], 2496144) ∷ (0 ∷ 1 ∷ [], 2704156) ∷ (1 ∷ 0 ∷ [], 2704156) ∷ (1 ∷ 1 ∷ [], 2496144) ∷ []

-- the king and the queen as one block: West holds one of them in two layouts
abbrev pub TwoTouching : Type 0
TwoTouching = class_layouts eleven_cards (2 ∷ []) ≡ (0 ∷ [], 2496144) ∷ (1 ∷ [], 5408312) ∷ (2 ∷ [], 2496144) ∷ []

-- no card is missing: one class layout with no counts, which has every deal
abbrev pub NoneMissing : Type 0
NoneMissing =
    class_layouts (plain (14 ∷ 13 ∷ 12 ∷ 11 ∷ 10 ∷ 9 ∷ 8 ∷ 7 ∷ 6 ∷ 5 ∷ 4 ∷ 3 ∷ 2 ∷ []) [] Tricks) [] ≡ ([], 10400600)
    ∷ []

-- the king apart from eight low cards: eighteen class layouts
abbrev pub KingAndEight : Type 0
KingAndEight =
    (length (class_layouts (tenace Tricks) (1 ∷ 8 ∷ [])) ≡ 18)
    × (take 4 (class_layouts (tenace Tricks) (1 ∷ 8 ∷ []))
    ≡ (0 ∷ 0 ∷ [], 2380) ∷ (0 ∷ 1 ∷ [], 49504) ∷ (0 ∷ 2 ∷ [], 346528) ∷ (0 ∷ 3 ∷ [], 1089088) ∷ [])
