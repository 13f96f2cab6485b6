-- Moves of single cards are told equal exactly where they are (`decides_same_move`).
use Rattle.std.proofs.Common.{◌≡◌, true, refl, ap, ◌∙◌, subst}
use Rattle.std.specs.Prelude.{◌==◌}
use Rattle.std.specs.Bool.{Decides}
use Rattle.std.proofs.lemmas.Bool.{and_from, and_parts, eq-eqb, eqb-true, false≢true}
use Rattle.suit_cards.specs.declared.seats.Seat.{Seat}
use Rattle.suit_cards.specs.declared.seats.Seat.TheVariants.{N, E, S, W}
use Rattle.suit_game.specs.declared.moves.Move.{Move}
use Rattle.suit_game.specs.declared.moves.Move.TheVariants.{Lead, Follow, ShowOut}
use Rattle.suit_game.specs.Strategies.{same_seat, same_move}
use Rattle.suit_game.proofs.TrickStates.{same_seat_is}

pub same_seat-itself : (seat : Seat) → same_seat seat seat ≡ true
same_seat-itself N = refl
same_seat-itself E = refl
same_seat-itself S = refl
same_seat-itself W = refl

pub same_card_move-itself : (move : Move) → same_move move move ≡ true
same_card_move-itself (Lead seat card) =
    and_from (same_seat seat seat) (card == card) (same_seat-itself seat) (eq-eqb card card refl)
same_card_move-itself (Follow card) = eq-eqb card card refl
same_card_move-itself ShowOut = refl

pub same_card_move_is : (move other : Move) → same_move move other ≡ true → move ≡ other
same_card_move_is (Lead seat card) (Lead other rank) same =
    let parts = and_parts (same_seat seat other) (card == rank) same in
    ap (λ (s : Seat). Lead s card) (same_seat_is seat other parts.0) ∙ ap (Lead other) (eqb-true card rank parts.1)
same_card_move_is (Follow card) (Follow rank) same = ap Follow (eqb-true card rank same)
same_card_move_is ShowOut ShowOut same = refl
same_card_move_is (Lead seat card) (Follow rank) same = absurd (false≢true same)
same_card_move_is (Lead seat card) ShowOut same = absurd (false≢true same)
same_card_move_is (Follow card) (Lead other rank) same = absurd (false≢true same)
same_card_move_is (Follow card) ShowOut same = absurd (false≢true same)
same_card_move_is ShowOut (Lead other rank) same = absurd (false≢true same)
same_card_move_is ShowOut (Follow rank) same = absurd (false≢true same)

pub decides_same_move : (move other : Move) → Decides (same_move move other) (move ≡ other)
decides_same_move move other = (
  same_card_move_is move other,
  λ same. subst (λ (m : Move). same_move move m ≡ true) same (same_card_move-itself move),
)
