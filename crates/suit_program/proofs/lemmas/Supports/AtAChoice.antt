-- What stands at a choice of declarer's or of the defence (`own_place`, `their_place`).
use Rattle.std.proofs.Common.{◌≡◌, Bool, true, false, List, [], ◌∷◌, length, refl, ap, ◌∙◌}
use Rattle.std.specs.Prelude.{filter, nat_lt, if◌then◌else◌}
use Rattle.std.proofs.lemmas.Bool.{and_parts, false≢true}
use Rattle.suit_cards.specs.Cards.{ClassLayout}
use Rattle.suit_game.specs.declared.question.Question.{Question}
use Rattle.suit_classes.specs.declared.class_moves.ClassMove.{ClassMove}
use Rattle.suit_classes.specs.ClassPlaces.{class_after, class_decided, class_moves, class_turn}
use Rattle.suit_plans.specs.Masses.{is_declarers, is_defences}
use Rattle.suit_program.specs.Supports.{Support, declarer_chooses, defence_chooses, first_and, legal_moves, names}
use Rattle.suit_program.specs.Supports.{supported_moves}

-- a choice: play goes on, and the first of the moves is the first of the support
pub record IsChoice (question : Question) (support : Support) (west : ClassLayout)
    (history : List ClassMove) : Type 0 where
  pub going : class_decided (class_after question history) ≡ false
  pub first : ClassMove
  pub more : List ClassMove
  pub moves : class_moves (class_after question history) west ≡ first ∷ more
  pub supported : supported_moves question support west history
      ≡ first ∷ filter (names question support west history) more

module _ (question : Question) (support : Support) (west : ClassLayout) (history : List ClassMove) where
  choice_in : (decided : Bool) → class_decided (class_after question history) ≡ decided → (moves : List ClassMove)
      → class_moves (class_after question history) west ≡ moves
      → nat_lt 1 (length (if decided then [] else moves)) ≡ true → IsChoice question support west history
  unfolding supported_moves
  choice_in true decided moves is many = absurd (false≢true many)
  choice_in false going [] is many = absurd (false≢true many)
  choice_in false going (first ∷ more) is many = record {
    going = going;
    first = first;
    more = more;
    moves = is;
    supported = ap (first_and (names question support west history))
        (ap (λ (b : Bool). if b then [] else class_moves (class_after question history) west) going ∙ is);
  }

  choice_of : nat_lt 1 (length (legal_moves question west history)) ≡ true → IsChoice question support west history
  choice_of many =
      choice_in (class_decided (class_after question history)) refl (class_moves (class_after question history) west)
      refl many

-- declarer is on turn at a choice of his
pub own_place : (question : Question) (support : Support) (history : List ClassMove)
    → declarer_chooses question history ≡ true
    → (is_declarers (class_turn (class_after question history)) ≡ true) × IsChoice question support [] history
unfolding declarer_chooses
own_place question support history chooses =
    let parts = and_parts (is_declarers (class_turn (class_after question history)))
    (nat_lt 1 (length (legal_moves question [] history))) chooses in
    (parts.0, choice_of question support [] history parts.1)

-- and a defender at one of theirs
pub their_place : (question : Question) (support : Support) (west : ClassLayout) (history : List ClassMove)
    → defence_chooses question west history ≡ true
    → (is_defences (class_turn (class_after question history)) ≡ true) × IsChoice question support west history
unfolding defence_chooses
their_place question support west history chooses =
    let parts = and_parts (is_defences (class_turn (class_after question history)))
    (nat_lt 1 (length (legal_moves question west history))) chooses in
    (parts.0, choice_of question support west history parts.1)
