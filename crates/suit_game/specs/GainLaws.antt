-- Laws of means, pays and gains.
use Rattle.std.specs.Prelude.{◌≡◌, ℕ, ◌*◌, ◌<◌, ◌≤◌, List, []}
use Rattle.suit_game.specs.declared.question.Question.{Question}
use Rattle.suit_game.specs.Deals.{IsDeal}
use Rattle.suit_game.specs.Fractions.{Fraction, IsAtLeast, IsAtMost, mean, total_weight, weighted_sum}
use Rattle.suit_game.specs.Gains.{gain, pay}
use Rattle.suit_game.specs.Layouts.{total}
use Rattle.suit_game.specs.OneTrick.{IsOneTrick, one_trick_value}
use Rattle.suit_game.specs.Positions.{IsLegal, payoff}
use Rattle.suit_game.specs.Settled.{Settles}
use Rattle.suit_game.specs.Strategies.{Way, DefenceWay, by_rows, by_defence_rows}
use Rattle.suit_game.specs.Histories.{History}
use Rattle.suit_game.specs.declared.limits.TheConstants.{HAND_SIZE}
use Rattle.suit_cards.specs.Cards.{Cards}

-- the sum of the weights times the mean is the weighted sum
abbrev pub MeanLaw : Type 0
MeanLaw = (items : List (ℕ × Fraction))
    → total_weight items * (mean items).num * (weighted_sum items).den ≡ (weighted_sum items).num * (mean items).den

-- a pay after a legal history lies between bounds of the payoffs, which thirteen tricks at most are won for
abbrev pub PaysAreBetween : Type 0
PaysAreBetween =
    (question : Question) (declarer : Way) (defence : DefenceWay) (west : Cards) (history : History) (least most : ℕ)
    → IsDeal question west → IsLegal question west history
    → ((won : ℕ) → won ≤ HAND_SIZE → (least ≤ payoff question.goal won) × (payoff question.goal won ≤ most))
    → IsAtLeast (pay question declarer defence west history) least 1
    × IsAtMost (pay question declarer defence west history) most 1

-- no pay has a denominator of 0, so none compares as anything
abbrev pub PaysAreFractions : Type 0
PaysAreFractions = (question : Question) (declarer : Way) (defence : DefenceWay) (west : Cards) (history : History)
    → 0 < (pay question declarer defence west history).den

-- and no gain, where some layout has a weight
abbrev pub GainsAreFractions : Type 0
GainsAreFractions = (question : Question) (declarer : Way) (defence : DefenceWay) → 0 < total question
    → 0 < (gain question declarer defence).den

-- a question of one trick is settled by a plan and a defence with no rows
abbrev pub OneTrickIsSettled : Type 0
OneTrickIsSettled = (question : Question) → IsOneTrick question → 0 < total question
    → Settles question (by_rows []) (by_defence_rows []) (one_trick_value question) 1
