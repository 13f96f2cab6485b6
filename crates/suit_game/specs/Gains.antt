-- What a play is worth: the pay under one layout, and the gain over all of them.
use Rattle.std.specs.Prelude.{ℕ, zero, suc, Bool, true, false, List, [], ◌∷◌, ◌++◌, length, map, if◌then◌else◌}
use Rattle.suit_cards.specs.declared.seats.Seat.{Seat}
use Rattle.suit_cards.specs.declared.seats.Seat.TheVariants.{N, E, S, W}
use Rattle.suit_cards.specs.Cards.{Cards}
use Rattle.suit_game.specs.declared.question.Question.{Question}
use Rattle.suit_game.specs.Fractions.{Fraction, whole, mean}
use Rattle.suit_game.specs.Layouts.{layouts, weight}
use Rattle.suit_game.specs.Positions.{Trick, Closed, Open, after, legal, has_ended, payoff}
use Rattle.suit_game.specs.Strategies.{Way, DefenceWay, Weighed, chosen}
use Rattle.suit_game.specs.Histories.{History}
use Rattle.suit_game.specs.declared.limits.TheConstants.{MOST_MOVES}

-- whether a seat is declarer's
abbrev pub is_declarer : Seat → Bool
is_declarer N = true
is_declarer S = true
is_declarer E = false
is_declarer W = false

-- whether declarer is on turn: at each lead, and at the follows of North and South
abbrev pub is_declarer_turn : Trick → Bool
is_declarer_turn Closed = true
is_declarer_turn (Open turn after winner highest) = is_declarer turn

-- what the side on turn plays after a history, by the ways of declarer and of the defenders
abbrev pub played : Question → Way → DefenceWay → Cards → History → List Weighed
played question declarer defence west history =
    chosen (if is_declarer_turn (after question history).trick then declarer history else defence west history)
    (legal question west history)

-- the payoff where play has ended, and else the mean of what the moves played lead to; more moves than are asked for
-- are not played. Where none is asked for, a play that `pay` follows has ended anyway (the laws `histories_are_short`
-- and `enough_moves`)
unfoldable pub pay_within : ℕ → Question → Way → DefenceWay → Cards → History → Fraction
pay_within zero question declarer defence west history = whole (payoff question.goal (after question history).won)
pay_within (suc n) question declarer defence west history =
    if has_ended question (after question history)
    then whole (payoff question.goal (after question history).won)
    else mean (map (λ (choice : Weighed).
    (choice.0, pay_within n question declarer defence west (history ++ choice.1 ∷ [])))
    (played question declarer defence west history))

-- what the two ways pay under a layout after a history: no history has more moves than this
abbrev pub pay : Question → Way → DefenceWay → Cards → History → Fraction
pay question declarer defence west history = pay_within MOST_MOVES question declarer defence west history

-- the mean of the pays over all layouts, by their weights
abbrev pub gain : Question → Way → DefenceWay → Fraction
gain question declarer defence =
    mean (map (λ west. (weight question (length west), pay question declarer defence west [])) (layouts question))
