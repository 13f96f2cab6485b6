use Rattle.suit_cards.proofs.MaskMeanings.{ranks_of-zero}
use Rattle.suit_cards.proofs.holdings.HoldingDefault.default.Goals as goal

pub returns : goal.returns
returns c = ranks_of-zero
