use Rattle.suit_game.proofs.ChoiceSums.{choices_summed}
use Rattle.suit_game.proofs.weight_laws.choices_summed.Goals as goal

pub returns : goal.returns
returns c = choices_summed
