use Rattle.suit_game.proofs.WholeTricks.{tricks_take_one_card_each}
use Rattle.suit_game.proofs.laws.tricks_take_one_card_each.Goals as goal

pub returns : goal.returns
returns c = tricks_take_one_card_each
