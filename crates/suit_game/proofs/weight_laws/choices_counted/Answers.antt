use Rattle.suit_game.proofs.ChoiceSums.{choices_counted}
use Rattle.suit_game.proofs.weight_laws.choices_counted.Goals as goal

pub returns : goal.returns
returns c = choices_counted
