use Rattle.suit_game.proofs.LongestPlay.{histories_use_room}
use Rattle.suit_game.proofs.laws.histories_use_room.Goals as goal

pub returns : goal.returns
returns c = histories_use_room
