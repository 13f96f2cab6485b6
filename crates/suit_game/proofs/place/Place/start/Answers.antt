use Rattle.suit_game.proofs.LongestPlay.{holdings_fit}
use Rattle.suit_game.proofs.PlaceSeenAfterAMove.{seen-start}
use Rattle.suit_game.proofs.place.Place.start.Goals as goal

pub invariant_of-result : goal.invariant_of-result
invariant_of-result c =
    holdings_fit c.args.question.now.north c.args.question.now.south c.requires.north c.requires.south c.requires.apart

pub returns : goal.returns
returns c = rw c.missing.ensures.value (seen-start c.args.question.now)
