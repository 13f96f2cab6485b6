use Rattle.suit_cards.specs.declared.seats.Seat.{Seat}
use Rattle.suit_cards.specs.declared.seats.Seat.TheVariants.{N, E, S, W}

-- play goes round the table clockwise
abbrev pub clockwise : Seat → Seat
clockwise N = E
clockwise E = S
clockwise S = W
clockwise W = N
