use Rattle.std.proofs.Common.{◌≡◌, ◌∙◌, ap, sym}
use Rattle.suit_cards.specs.declared.seats.Seat.{Seat}
use Rattle.suit_cards.proofs.HoldingIsWhatItHolds.{IsHolding-others_of}
use Rattle.suit_game.specs.Positions.{after, hand, without}
use Rattle.suit_game.specs.PlaceViews.{PlaceView}
use Rattle.suit_game.specs.Question.{missing}
use Rattle.suit_game.proofs.LayoutCards.{layouts_are_deals}
use Rattle.suit_game.proofs.PlaceSeenAfterAMove.{west_left, east_left}
use Rattle.suit_game.proofs.place.Place.holds.Goals as goal

pub returns-in-W : goal.returns-in-W
returns-in-W c = λ question history play is.
    let deal = layouts_are_deals question c.args.west play.valid.north play.valid.south play.valid.apart play.layout in
    let defenders : c.self.inside.defenders ≡ without (missing question) (after question history).gone =
    ap (λ (view : PlaceView). view.defenders) (c.self.view_is ∙ is) in
    rw (
      c.others.ensures.value,
      c.others-not_west.ensures.value,
      c.others-not_defenders.ensures.value,
      c.default.ensures,
      c.default-2.ensures,
      defenders,
    )
    (west_left (missing question) c.args.west (after question history).gone deal.1 deal.0.defenders)
    ∙ ap (λ (seat : Seat). hand question c.args.west (after question history) seat) (sym c.in-W.is)

pub returns-in-E : goal.returns-in-E
returns-in-E c = λ question history play is.
    let defenders : c.self.inside.defenders ≡ without (missing question) (after question history).gone =
    ap (λ (view : PlaceView). view.defenders) (c.self.view_is ∙ is) in
    rw (c.others-in-E.ensures.value, c.others-not_defenders.ensures.value, c.default-2.ensures, defenders)
    (east_left (missing question) c.args.west (after question history).gone
    (IsHolding-others_of question.north question.south))
    ∙ ap (λ (seat : Seat). hand question c.args.west (after question history) seat) (sym c.in-E.is)
