-- Who is on turn after a class history: nobody, declarer or the defence (`whose_turn`).
use Rattle.std.proofs.Common.{◌≡◌, ◌⊎◌, Bool, true, false, refl, sym, ap, ◌∙◌, inl, inr}
use Rattle.std.specs.Prelude.{if◌then◌else◌}
use Rattle.std.proofs.lemmas.Bool.{cases_Bool, false≢true}
use Rattle.suit_cards.specs.declared.seats.Seat.TheVariants.{N, E, S, W}
use Rattle.suit_classes.specs.declared.class_turn.ClassTurn.{ClassTurn}
use Rattle.suit_classes.specs.declared.class_turn.ClassTurn.TheVariants as turns
use Rattle.suit_classes.specs.declared.class_view.ClassView.{ClassView}
use Rattle.suit_classes.specs.declared.class_trick.ClassTrick.{ClassTrick}
use Rattle.suit_classes.specs.declared.class_trick.ClassTrick.TheVariants.{Closed, Open}
use Rattle.suit_classes.specs.ClassPlaces.{class_decided, class_turn, turn_of}
use Rattle.suit_plans.specs.Masses.{is_declarers, is_defences}

pub data WhoseTurn (view : ClassView) : Type 0 where
  Over : class_decided view ≡ true → class_turn view ≡ turns.Decided → WhoseTurn view
  Declarers : class_decided view ≡ false → is_declarers (class_turn view) ≡ true → is_defences (class_turn view) ≡ false
      → WhoseTurn view
  Defences : class_decided view ≡ false → is_declarers (class_turn view) ≡ false → is_defences (class_turn view) ≡ true
      → WhoseTurn view

abbrev turn_from : Bool → ClassTrick → ClassTurn
turn_from decided trick = if decided then turns.Decided else turn_of trick

whose_in : (trick : ClassTrick)
    → ((is_declarers (turn_of trick) ≡ true) × (is_defences (turn_of trick) ≡ false))
    ⊎ ((is_declarers (turn_of trick) ≡ false) × (is_defences (turn_of trick) ≡ true))
whose_in Closed = inl (refl, refl)
whose_in (Open N after winner highest) = inl (refl, refl)
whose_in (Open S after winner highest) = inl (refl, refl)
whose_in (Open E after winner highest) = inr (refl, refl)
whose_in (Open W after winner highest) = inr (refl, refl)

-- one of these three
pub whose_turn : (view : ClassView) → WhoseTurn view
whose_turn view = elim (cases_Bool (class_decided view)) [
  | inl decided ↦ Over decided (ap (λ (b : Bool). turn_from b view.trick) decided)
  | inr going ↦
      let turn : turn_of view.trick ≡ class_turn view = ap (λ (b : Bool). turn_from b view.trick) (sym going) in
      elim (whose_in view.trick) [
        | inl own ↦ Declarers going (ap is_declarers (sym turn) ∙ own.0) (ap is_defences (sym turn) ∙ own.1)
        | inr theirs ↦ Defences going (ap is_declarers (sym turn) ∙ theirs.0) (ap is_defences (sym turn) ∙ theirs.1)
      ]
]

-- a turn of declarer's is no defender's, and play is not decided there
pub own_turn : (view : ClassView) → is_declarers (class_turn view) ≡ true → (class_decided view ≡ false)
    × (is_defences (class_turn view) ≡ false)
own_turn view own = at (whose_turn view)
  where
    at : WhoseTurn view → (class_decided view ≡ false) × (is_defences (class_turn view) ≡ false)
    at (Over decided turn) = absurd (false≢true (ap is_declarers (sym turn) ∙ own))
    at (Declarers going is not_theirs) = (going, not_theirs)
    at (Defences going not_own theirs) = absurd (false≢true (sym not_own ∙ own))

-- nor is a turn of a defender's one of declarer's
pub their_turn : (view : ClassView) → is_defences (class_turn view) ≡ true → (class_decided view ≡ false)
    × (is_declarers (class_turn view) ≡ false)
their_turn view theirs = at (whose_turn view)
  where
    at : WhoseTurn view → (class_decided view ≡ false) × (is_declarers (class_turn view) ≡ false)
    at (Over decided turn) = absurd (false≢true (ap is_defences (sym turn) ∙ theirs))
    at (Declarers going own not_theirs) = absurd (false≢true (sym not_theirs ∙ theirs))
    at (Defences going not_own is) = (going, not_own)
