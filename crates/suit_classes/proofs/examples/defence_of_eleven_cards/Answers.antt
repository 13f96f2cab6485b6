use Rattle.std.proofs.Common.{refl}
use Rattle.suit_cards.specs.Holdings.{suit}
use Rattle.suit_game.specs.Examples.{from_south, eleven_cards, ten_cards, tenace}
use Rattle.suit_game.specs.Positions.{without, legal_in, step_in}
use Rattle.suit_game.specs.Question.{plain}
use Rattle.suit_classes.specs.ClassGame.{each_once}
use Rattle.suit_classes.specs.Classes.{class_below}
use Rattle.suit_classes.proofs.examples.defence_of_eleven_cards.Goals as goal

pub returns : goal.returns
unfolding suit plain from_south eleven_cards ten_cards tenace without legal_in step_in each_once class_below
returns c = (refl, refl)
