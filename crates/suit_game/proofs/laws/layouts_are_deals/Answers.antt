use Rattle.suit_game.proofs.LayoutCards.{layouts_are_deals}
use Rattle.suit_game.proofs.laws.layouts_are_deals.Goals as goal

pub returns : goal.returns
returns c = layouts_are_deals
