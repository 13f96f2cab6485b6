use Rattle.suit_game.proofs.LegalPlays.{legal_moves_extend}
use Rattle.suit_game.proofs.laws.legal_moves_extend.Goals as goal

pub returns : goal.returns
returns c = legal_moves_extend
