use Rattle.std.proofs.Common.{◌∙◌, ap, subst}
use Rattle.suit_game.specs.Positions.{Trick, follows_of}
use Rattle.suit_game.specs.PlaceViews.{PlaceView, IsToFollow}
use Rattle.suit_game.proofs.PlaceSeenAfterAMove.{follows_are_legal}
use Rattle.suit_game.proofs.place.Place.follows.Goals as goal

pub returns-clause-legal : goal.returns-clause-legal
returns-clause-legal c = λ question west history seat is on_turn held.
    c.follows_from.ensures ∙ ap follows_of held
    ∙ follows_are_legal question west history seat
    (subst (λ (trick : Trick). IsToFollow trick seat) (ap (λ (view : PlaceView). view.trick) is) on_turn)
