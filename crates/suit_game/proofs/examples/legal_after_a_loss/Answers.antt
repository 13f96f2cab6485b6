use Rattle.std.proofs.Common.{refl}
use Rattle.suit_cards.specs.Holdings.{suit}
use Rattle.suit_num.specs.Binomials.{next_row, binomial_row, binomial}
use Rattle.suit_game.specs.Layouts.{choices_of, layouts}
use Rattle.suit_game.specs.Positions.{without, legal_in, step_in}
use Rattle.suit_game.specs.Strategies.{same_play, number_of, by_rows, by_defence_rows, weighed}
use Rattle.suit_game.specs.Fractions.{total_weight, weighted_sum}
use Rattle.suit_game.specs.Gains.{pay_within}
use Rattle.suit_game.specs.Examples.{from_south, ace, king, eleven_cards, tenace, tenace_over_ten, ten_cards, one_entry}
use Rattle.suit_game.specs.Examples.{on_low, finesse, mixed_finesse, hold_up}
use Rattle.suit_game.proofs.examples.legal_after_a_loss.Goals as goal
use Rattle.suit_game.specs.Question.{plain}

pub returns : goal.returns
unfolding suit next_row binomial_row binomial choices_of layouts without legal_in step_in same_play number_of by_rows
    by_defence_rows weighed total_weight weighted_sum pay_within plain from_south ace king eleven_cards tenace
    tenace_over_ten ten_cards one_entry on_low finesse mixed_finesse hold_up
returns c = (refl, refl)
