use Rattle.suit_game.proofs.Room.{room_falls}
use Rattle.suit_game.proofs.laws.room_falls.Goals as goal

pub returns : goal.returns
returns c = room_falls
