-- How long play can go on.
use Rattle.std.specs.Prelude.{ℕ, suc, ◌+◌, ◌*◌, length}
use Rattle.suit_cards.specs.declared.seats.Seat.TheVariants.{N, S}
use Rattle.suit_game.specs.declared.question.Question.{Question}
use Rattle.suit_game.specs.Positions.{Position, Trick, Closed, Open, declarer_hand}

-- how many cards declarer's hands hold together at a position
abbrev pub cards_left : Question → Position → ℕ
cards_left question place = length (declarer_hand question place N) + length (declarer_hand question place S)

-- how many seats are still to play to the trick in progress, the one on turn included
abbrev pub seats_left : Trick → ℕ
seats_left Closed = 0
seats_left (Open turn after winner highest) = suc after

-- no more moves than this can come from a position on
abbrev pub room : Question → Position → ℕ
room question place = 4 * cards_left question place + seats_left place.trick
