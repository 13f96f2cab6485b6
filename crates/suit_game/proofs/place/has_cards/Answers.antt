use Rattle.suit_game.proofs.PlaceSeenAfterAMove.{is_empty_told}
use Rattle.suit_game.proofs.place.has_cards.Goals as goal

pub returns : goal.returns
returns c = is_empty_told c.is_empty.result c.args.held c.is_empty.ensures.empty.0 c.is_empty.ensures.empty.1
