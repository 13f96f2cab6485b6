use Rattle.std.proofs.Common.{◌∙◌, ap, arith}
use Rattle.suit_game.specs.PlaceViews.{PlaceView}
use Rattle.suit_game.proofs.PlaceSeenAfterAMove.{length-without_rank_most, taken_from, taken_from-seen}
use Rattle.suit_game.proofs.place.Place.without.Goals as goal

pub invariant_of-result : goal.invariant_of-result
invariant_of-result c =
    rw (c.without.ensures.value, c.without-2.ensures.value)
    (omega (
      arith,
      c.self.invariant,
      length-without_rank_most c.self.inside.north c.args.rank,
      length-without_rank_most c.self.inside.south c.args.rank,
    ))

pub returns : goal.returns
returns c = λ question position is.
    rw (c.without.ensures.value, c.without-2.ensures.value, c.without-3.ensures.value)
    (ap (λ (view : PlaceView). taken_from view c.args.rank) (c.self.view_is ∙ is)
    ∙ taken_from-seen question position c.args.rank)
