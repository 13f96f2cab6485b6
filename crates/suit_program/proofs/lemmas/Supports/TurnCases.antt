-- What a class history is for a support: without moves, with one, or a choice of one of the sides (`turn_at`).
use Rattle.std.proofs.Common.{◌≡◌, ℕ, suc, Bool, true, false, List, [], ◌∷◌, ◌++◌, length, Option, Some, None, map}
use Rattle.std.proofs.Common.{refl, sym, ap, ◌∙◌, subst, inl, inr, arith}
use Rattle.std.specs.Prelude.{Contains, ◌&&◌, filter, nat_lt, if◌then◌else◌, ℤ}
use Rattle.std.proofs.lemmas.Bool.{and_parts, false≢true, lt-ltb}
use Rattle.suit_lists.proofs.Elements.{Contains-cons_cases, Contains-first, Contains-later, Contains-nil}
use Rattle.suit_lists.proofs.Filters.{each_filter, kept_parts}
use Rattle.suit_lists.proofs.Firsts.{HasFirst}
use Rattle.suit_lists.proofs.Once.{IsOnce, once_filter, once_unless}
use Rattle.suit_tree.proofs.MovesOn.{unless_parts}
use Rattle.suit_cards.specs.Cards.{ClassLayout}
use Rattle.suit_game.specs.declared.question.Question.{Question}
use Rattle.suit_classes.specs.declared.class_moves.ClassMove.{ClassMove}
use Rattle.suit_classes.specs.declared.class_view.ClassView.{ClassView}
use Rattle.suit_classes.specs.ClassMoves.{same_class_move}
use Rattle.suit_classes.specs.ClassPlaces.{class_after, class_decided, class_moves, class_turn}
use Rattle.suit_classes.proofs.DistinctMoves.{once_class_moves}
use Rattle.suit_classes.proofs.SameMoves.{same_move-itself, same_move_is}
use Rattle.suit_plans.specs.Masses.{Shares, count_of, is_declarers, is_defences, is_first, share}
use Rattle.suit_plans.proofs.MassSteps.{mass_kept, mass_shared}
use Rattle.suit_plans.proofs.TurnMoves.{declarers_moves}
use Rattle.suit_plans.proofs.WhoseTurns.{Declarers, Defences, Over, WhoseTurn, whose_turn}
use Rattle.suit_program.specs.Programs.Points.{Passed, Point}
use Rattle.suit_program.specs.Supports.{Support, declarer_chooses, defence_chooses, first_and, legal_moves, names}
use Rattle.suit_program.specs.Supports.{supported_moves}
use Rattle.suit_program.specs.Programs.Worths.{mass_at, passed, player}

-- ---- lists of moves

-- the first move and some others are among all
first_and-within : (named : ClassMove → Bool) (moves : List ClassMove) (move : ClassMove)
    → Contains (first_and named moves) move → Contains moves move
first_and-within named [] move found = found
first_and-within named (first ∷ moves) move found =
    elim (Contains-cons_cases first (filter named moves) move found) [
      | inl here ↦ subst (Contains (first ∷ moves)) here (Contains-first first moves)
      | inr there ↦ Contains-later first moves move (kept_parts named moves move there).0
    ]

-- each of them once
first_and-once : (named : ClassMove → Bool) (moves : List ClassMove) → IsOnce moves → IsOnce (first_and named moves)
unfolding IsOnce
first_and-once named [] once = once
first_and-once named (first ∷ moves) once =
    (each_filter (λ other. first ≡ other → ⊥) named moves once.0, once_filter named moves once.1)

-- what is counted for a move is its number
pub count_found : (f : ClassMove → ℤ) (moves : List ClassMove) (move : ClassMove) → Contains moves move
    → count_of (map (λ other. (other, f other)) moves) move ≡ f move
unfolding count_of
count_found f [] move found = absurd (Contains-nil move found)
count_found f (first ∷ moves) move found =
    count_in (same_class_move first move) refl (λ there. count_found f moves move there)
  where
    count_in : (b : Bool) → same_class_move first move ≡ b
        → (Contains moves move → count_of (map (λ other. (other, f other)) moves) move ≡ f move)
        → (if b then f first else count_of (map (λ other. (other, f other)) moves) move) ≡ f move
    count_in true same later = ap f (same_move_is first move same)
    count_in false other later = elim (Contains-cons_cases first moves move found) [
      | inl here ↦ absurd (false≢true (sym other
          ∙ subst (λ (m : ClassMove). same_class_move first m ≡ true) here (same_move-itself first)))
      | inr there ↦ later there
    ]

module _ (question : Question) (support : Support) where
  -- ---- the moves of a support

  -- they are legal
  pub supported_legal : (west : ClassLayout) (history : List ClassMove) (move : ClassMove)
      → Contains (supported_moves question support west history) move
      → Contains (legal_moves question west history) move
  unfolding supported_moves
  supported_legal west history move found =
      first_and-within (names question support west history) (legal_moves question west history) move found

  pub supported_class_move : (west : ClassLayout) (history : List ClassMove) (move : ClassMove)
      → Contains (supported_moves question support west history) move
      → Contains (class_moves (class_after question history) west) move
  supported_class_move west history move found =
      (unless_parts (class_decided (class_after question history))
      (class_moves (class_after question history) west) move
      (supported_legal west history move found)).1

  -- at a class history that is not decided
  pub supported_going : (west : ClassLayout) (history : List ClassMove) (move : ClassMove)
      → Contains (supported_moves question support west history) move
      → class_decided (class_after question history) ≡ false
  supported_going west history move found =
      (unless_parts (class_decided (class_after question history))
      (class_moves (class_after question history) west) move
      (supported_legal west history move found)).0

  -- each once
  pub supported_once : (west : ClassLayout) (history : List ClassMove)
      → IsOnce (supported_moves question support west history)
  unfolding supported_moves
  supported_once west history =
      first_and-once (names question support west history) (legal_moves question west history)
      (once_unless (class_decided (class_after question history)) (class_moves (class_after question history) west)
      (once_class_moves (class_after question history) west))

  -- ---- masses

  -- a choice of declarer's passes on its columns
  pub mass_passed : (point : Point) (history : List ClassMove) (move : ClassMove)
      → declarer_chooses question history ≡ true
      → Contains (supported_moves question support [] history) move
      → mass_at question support point (history ++ move ∷ []) ≡ point.at (Passed history move)
  unfolding declarer_chooses
  mass_passed point history move chooses found =
      let own = (and_parts (is_declarers (class_turn (class_after question history)))
      (nat_lt 1 (length (legal_moves question [] history))) chooses).0 in
      mass_shared question (player question support point) history move own
      ∙ ap (λ (b : Bool). share (if b then Some (passed question support point history) else None)
      (is_first (class_moves (class_after question history) []) move) (mass_at question support point history) move)
      chooses
      ∙ count_found (λ other. point.at (Passed history other)) (supported_moves question support [] history) move found

-- ---- turns

-- what a class history is in a class layout
pub data TurnAt (question : Question) (support : Support) (west : ClassLayout) (history : List ClassMove) : Type 0 where
  Ended : legal_moves question west history ≡ [] → supported_moves question support west history ≡ []
      → defence_chooses question west history ≡ false
      → TurnAt question support west history
  Forced : (move : ClassMove) → legal_moves question west history ≡ move ∷ []
      → supported_moves question support west history ≡ move ∷ []
      → (declarer_chooses question history ≡ false) × (defence_chooses question west history ≡ false)
      → ((point : Point) → mass_at question support point (history ++ move ∷ [])
      ≡ mass_at question support point history) → TurnAt question support west history
  Own : declarer_chooses question history ≡ true → defence_chooses question west history ≡ false
      → supported_moves question support west history ≡ supported_moves question support [] history
      → HasFirst (supported_moves question support [] history) → TurnAt question support west history
  Theirs : defence_chooses question west history ≡ true → HasFirst (supported_moves question support west history)
      → ((point : Point) (move : ClassMove) → mass_at question support point (history ++ move ∷ [])
      ≡ mass_at question support point history) → TurnAt question support west history

nothing : {move : ClassMove} {moves : List ClassMove} → move ∷ moves ≡ [] → ⊥
nothing is = cc

several : (n : ℕ) → nat_lt 1 (suc (suc n)) ≡ true
several n = lt-ltb 1 (suc (suc n)) (omega arith)

and_none : (b : Bool) → (b && false) ≡ false
and_none true = refl
and_none false = refl

module _ (question : Question) (support : Support) (west : ClassLayout) (history : List ClassMove) where
  abbrev view : ClassView
  view = class_after question history

  abbrev legal : List ClassMove
  legal = legal_moves question west history

  pub legal_going : (counts : ClassLayout) → class_decided view ≡ false → legal_moves question counts history
      ≡ class_moves view counts
  legal_going counts going = ap (λ (b : Bool). if b then [] else class_moves view counts) going

  -- declarer's moves are the same whatever West has
  pub own_legal : class_decided view ≡ false → is_declarers (class_turn view) ≡ true
      → legal_moves question [] history ≡ legal
  own_legal going own = legal_going [] going ∙ declarers_moves view [] west own ∙ sym (legal_going west going)

  no_defence : is_defences (class_turn view) ≡ false → defence_chooses question west history ≡ false
  unfolding defence_chooses
  no_defence not_theirs = ap (λ (b : Bool). b && nat_lt 1 (length legal)) not_theirs

  no_own : is_declarers (class_turn view) ≡ false → declarer_chooses question history ≡ false
  unfolding declarer_chooses
  no_own not_own = ap (λ (b : Bool). b && nat_lt 1 (length (legal_moves question [] history))) not_own

  few_defence : (moves : List ClassMove) → legal ≡ moves → nat_lt 1 (length moves) ≡ false
      → defence_chooses question west history ≡ false
  unfolding defence_chooses
  few_defence moves is few =
      ap (λ (l : List ClassMove). is_defences (class_turn view) && nat_lt 1 (length l)) is
      ∙ ap (λ (b : Bool). is_defences (class_turn view) && b) few ∙ and_none (is_defences (class_turn view))

  their_choice : (moves : List ClassMove) → legal ≡ moves → nat_lt 1 (length moves) ≡ true
      → is_defences (class_turn view) ≡ true → defence_chooses question west history ≡ true
  unfolding defence_chooses
  their_choice moves is many theirs =
      ap (λ (l : List ClassMove). is_defences (class_turn view) && nat_lt 1 (length l)) is
      ∙ ap (λ (b : Bool). b && nat_lt 1 (length moves)) theirs ∙ many

  own_choice : (moves : List ClassMove) → legal ≡ moves → class_decided view ≡ false
      → is_declarers (class_turn view) ≡ true → declarer_chooses question history ≡ nat_lt 1 (length moves)
  unfolding declarer_chooses
  own_choice moves is going own =
      ap (λ (l : List ClassMove). is_declarers (class_turn view) && nat_lt 1 (length l)) (own_legal going own ∙ is)
      ∙ ap (λ (b : Bool). b && nat_lt 1 (length moves)) own

  supported_of : (moves : List ClassMove) → legal ≡ moves
      → supported_moves question support west history ≡ first_and (names question support west history) moves
  unfolding supported_moves
  supported_of moves is = ap (first_and (names question support west history)) is

  -- the names of declarer's do not rest on West's counts
  pub own_supported : class_decided view ≡ false → is_declarers (class_turn view) ≡ true
      → supported_moves question support west history ≡ supported_moves question support [] history
  unfolding supported_moves
  own_supported going own =
      ap (λ (b : Bool). first_and (λ move. if b then support.declarers history move
      else support.defences west history move) legal) own
      ∙ sym (ap (λ (b : Bool). first_and (λ move. if b then support.declarers history move
      else support.defences [] history move) (legal_moves question [] history)) own
      ∙ ap (first_and (support.declarers history)) (own_legal going own))

  forced_mass : (move : ClassMove) → legal ≡ move ∷ [] → class_decided view ≡ false
      → is_declarers (class_turn view) ≡ true → (point : Point)
      → mass_at question support point (history ++ move ∷ []) ≡ mass_at question support point history
  forced_mass move is going own point =
      let mass : ℤ = mass_at question support point history in
      let shares : Bool → Option Shares =
      λ b. if b then Some (passed question support point history) else None in
      let all : class_moves view [] ≡ move ∷ [] = sym (legal_going [] going) ∙ own_legal going own ∙ is in
      mass_shared question (player question support point) history move own
      ∙ ap (λ (b : Bool). share (shares b) (is_first (class_moves view []) move) mass move)
      (own_choice (move ∷ []) is going own)
      ∙ ap (λ (l : List ClassMove). share None (is_first l move) mass move) all
      ∙ ap (λ (b : Bool). share None b mass move) (same_move-itself move)

  kept_mass : is_declarers (class_turn view) ≡ false → (point : Point) (move : ClassMove)
      → mass_at question support point (history ++ move ∷ []) ≡ mass_at question support point history
  kept_mass not_own point move = mass_kept question (player question support point) history move not_own

  over_none : (moves : List ClassMove) → legal ≡ moves → class_decided view ≡ true → moves ≡ []
  over_none moves is decided = sym is ∙ ap (λ (b : Bool). if b then [] else class_moves view west) decided

  turn_in : (moves : List ClassMove) → legal ≡ moves → WhoseTurn view → TurnAt question support west history
  turn_in [] is whose = Ended is (supported_of [] is) (few_defence [] is refl)
  turn_in (move ∷ []) is (Over decided turn) = absurd (nothing (over_none (move ∷ []) is decided))
  turn_in (move ∷ []) is (Declarers going own not_theirs) =
      Forced move is (supported_of (move ∷ []) is) (own_choice (move ∷ []) is going own, no_defence not_theirs)
      (forced_mass move is going own)
  turn_in (move ∷ []) is (Defences going not_own theirs) =
      Forced move is (supported_of (move ∷ []) is) (no_own not_own, few_defence (move ∷ []) is refl)
      (λ point. kept_mass not_own point move)
  turn_in (move ∷ next ∷ moves) is (Over decided turn) = absurd (nothing (over_none (move ∷ next ∷ moves) is decided))
  turn_in (move ∷ next ∷ moves) is (Declarers going own not_theirs) =
      Own (own_choice (move ∷ next ∷ moves) is going own
      ∙ several (length moves)) (no_defence not_theirs) (own_supported going own)
      (subst (HasFirst {X = ClassMove}) (own_supported going own) (record {
        first = move;
        more = filter (names question support west history) (next ∷ moves);
        parts = supported_of (move ∷ next ∷ moves) is;
      }))
  turn_in (move ∷ next ∷ moves) is (Defences going not_own theirs) =
      Theirs (their_choice (move ∷ next ∷ moves) is (several (length moves)) theirs)
      (record {
        first = move;
        more = filter (names question support west history) (next ∷ moves);
        parts = supported_of (move ∷ next ∷ moves) is;
      })
      (kept_mass not_own)

  -- one of these four
  pub turn_at : TurnAt question support west history
  turn_at = turn_in legal refl (whose_turn view)
