use Rattle.std.proofs.Common.{refl}
use Rattle.suit_cards.specs.Holdings.{suit}
use Rattle.suit_num.specs.Binomials.{next_row, binomial_row, binomial}
use Rattle.suit_game.specs.Layouts.{choices_of, layouts}
use Rattle.suit_game.specs.Examples.{from_south, eleven_cards, tenace}
use Rattle.suit_game.specs.Blocks.{blocks_of}
use Rattle.suit_game.specs.Question.{plain}
use Rattle.suit_layouts.specs.ClassLayouts.{class_layouts, class_weight, counts_up_to, weighed}
use Rattle.suit_layouts.proofs.examples.two_touching.Goals as goal

pub returns : goal.returns
unfolding suit next_row binomial_row binomial choices_of layouts plain from_south eleven_cards tenace blocks_of
    class_layouts class_weight counts_up_to weighed
returns c = refl
