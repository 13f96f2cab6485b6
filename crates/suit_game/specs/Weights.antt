-- What the weights come to, and what they are computed from.
use Rattle.std.specs.Prelude.{◌≡◌, ℕ, ◌+◌, ◌-◌, ◌*◌, ◌≤◌, ◌==◌, nat_le, length, filter, sum_by, if◌then◌else◌}
use Rattle.std.specs.List.{range_with_len}
use Rattle.suit_num.specs.Binomials.{binomial}
use Rattle.suit_game.specs.declared.question.Question.{Question}
use Rattle.suit_game.specs.Question.{missing}
use Rattle.suit_game.specs.Layouts.{choices_of, is_west_length, weight, total}
use Rattle.suit_game.specs.Validity.{IsValid}
use Rattle.suit_game.specs.declared.limits.TheConstants.{HAND_SIZE, MOST_TOTAL}
use Rattle.suit_cards.specs.Cards.{Cards}

-- the weight of a length that West may have, and 0 of any other
abbrev pub weight_in_range : Question → ℕ → ℕ
weight_in_range question count = if is_west_length question count then weight question count else 0

-- each defender has at most 13 vacant places, and the missing cards fit into them
abbrev pub HasPlaces : Question → Type 0
HasPlaces question =
    (question.vacant_w ≤ HAND_SIZE) × (question.vacant_e ≤ HAND_SIZE)
    × (length (missing question) ≤ question.vacant_w + question.vacant_e)

-- as many choices have so many cards as the binomial says
abbrev pub ChoicesCounted : Type 0
ChoicesCounted = (cards : Cards) (count : ℕ)
    → length (filter (λ taken. length taken == count) (choices_of cards)) ≡ binomial (length cards) count

-- what depends on the number of cards alone is summed over all choices by their numbers of cards
abbrev pub ChoicesSummed : Type 0
ChoicesSummed = (f : ℕ → ℕ) (cards : Cards)
    → sum_by (λ taken. f (length taken)) (choices_of cards)
    ≡ sum_by (λ count. binomial (length cards) count * f count) (range_with_len 0 (length cards + 1))

-- to choose some of the cards, and then among other things so many that it makes the whole, is to choose the whole
-- among all
abbrev pub ChoicesFilled : Type 0
ChoicesFilled = (cards : Cards) (others whole : ℕ)
    → sum_by (λ taken. if nat_le (length taken) whole then binomial others (whole - length taken) else 0)
    (choices_of cards)
    ≡ binomial (others + length cards) whole

-- where West's range leaves no length out, the total is the number of ways to choose West's vacant places
abbrev pub TotalOfAll : Type 0
TotalOfAll = (question : Question) → length (missing question) ≤ question.vacant_w + question.vacant_e
    → question.west_least ≡ 0 → length (missing question) ≤ question.west_most
    → total question ≡ binomial (question.vacant_w + question.vacant_e) question.vacant_w

-- no total is above the number of ways to choose 13 of 26 places
abbrev pub TotalAtMost : Type 0
TotalAtMost = (question : Question) → IsValid question → total question ≤ MOST_TOTAL
