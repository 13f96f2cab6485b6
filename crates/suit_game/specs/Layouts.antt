-- How the missing cards may lie, and how much each way weighs.
use Rattle.std.specs.Prelude.{ℕ, ◌+◌, ◌-◌, ◌&&◌, nat_le, Bool, List, [], ◌∷◌, ◌++◌, length, map, filter, sum_by}
use Rattle.std.specs.Prelude.{if◌then◌else◌}
use Rattle.suit_game.specs.declared.question.Question.{Question}
use Rattle.suit_game.specs.Question.{missing}
use Rattle.suit_num.specs.Binomials.{binomial}
use Rattle.suit_cards.specs.Cards.{Cards}

-- all ways to take some of the cards, in their order
unfoldable pub choices_of : Cards → List Cards
choices_of [] = [] ∷ []
choices_of (card ∷ cards) = map (λ taken. card ∷ taken) (choices_of cards) ++ choices_of cards

-- whether West may hold so many cards of the suit
abbrev pub is_west_length : Question → ℕ → Bool
is_west_length question count = nat_le question.west_least count && nat_le count question.west_most

-- the layouts: West's cards, each time, and East has the other missing cards
unfoldable pub layouts : Question → List Cards
layouts question = filter (λ west. is_west_length question (length west)) (choices_of (missing question))

-- in how many of the equally likely deals West holds one particular set of so many missing cards, a + b places being
-- vacant
abbrev pub weight : Question → ℕ → ℕ
weight question count =
    if nat_le count question.vacant_w
    then binomial (question.vacant_w + question.vacant_e - length (missing question)) (question.vacant_w - count)
    else 0

-- the weights of all layouts together
abbrev pub total : Question → ℕ
total question = sum_by (λ west. weight question (length west)) (layouts question)
