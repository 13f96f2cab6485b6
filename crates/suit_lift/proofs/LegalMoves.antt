-- The legal moves of single cards: none comes twice, and declarer's do not rest on the layout.
use Rattle.std.proofs.Common.{◌≡◌, true, false, refl}
use Rattle.std.proofs.lemmas.Bool.{false≢true, false_from_ne_true}
use Rattle.suit_cards.specs.declared.seats.Seat.TheVariants.{N, E, S, W}
use Rattle.suit_cards.specs.Cards.{Cards}
use Rattle.suit_game.specs.declared.question.Question.{Question}
use Rattle.suit_game.specs.declared.moves.Move.{Move}
use Rattle.suit_game.specs.Gains.{is_declarer_turn}
use Rattle.suit_game.specs.Histories.{History}
use Rattle.suit_game.specs.Positions.{Position, Trick, Closed, Open, after, legal, legal_in}
use Rattle.suit_game.specs.Strategies.{same_move}
use Rattle.suit_game.proofs.SameCardMoves.{same_card_move_is}

-- moves that differ are told apart
pub other_card_move : (here there : Move) → (here ≡ there → ⊥) → same_move here there ≡ false
other_card_move here there differ =
    false_from_ne_true (same_move here there) (λ same. differ (same_card_move_is here there same))

-- at declarer's turns all layouts have the same legal moves
pub declarers_legal_in : (question : Question) (west other : Cards) (place : Position) (trick : Trick)
    → is_declarer_turn trick ≡ true
    → legal_in question west place trick ≡ legal_in question other place trick
unfolding legal_in
declarers_legal_in question west other place Closed on = refl
declarers_legal_in question west other place (Open N after winner highest) on = refl
declarers_legal_in question west other place (Open S after winner highest) on = refl
declarers_legal_in question west other place (Open E after winner highest) on = absurd (false≢true on)
declarers_legal_in question west other place (Open W after winner highest) on = absurd (false≢true on)

pub declarers_legal : (question : Question) (west other : Cards) (history : History)
    → is_declarer_turn (after question history).trick ≡ true
    → legal question west history ≡ legal question other history
declarers_legal question west other history on =
    declarers_legal_in question west other (after question history) (after question history).trick on
