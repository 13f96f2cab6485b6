-- A support lacks fewer moves of the tree than one from which it grew (`lacks_less`).
use Rattle.std.proofs.Common.{◌≡◌, ℕ, ◌<◌, ◌≤◌, Bool, true, false, List, [], ◌∷◌, refl, ap, subst, inl, inr}
use Rattle.std.specs.Prelude.{Contains, filter, not, sum_by, if◌then◌else◌}
use Rattle.suit_lists.proofs.Elements.{Contains-cons_cases, Contains-first, Contains-later, Contains-nil}
use Rattle.suit_lists.proofs.Filters.{Contains-filter, fewer_kept, kept_parts, less_kept}
use Rattle.suit_lists.proofs.Sums.{sum_by_at_most, sum_less}
use Rattle.suit_cards.specs.Cards.{ClassLayout}
use Rattle.suit_game.specs.declared.question.Question.{Question}
use Rattle.suit_classes.specs.declared.class_moves.ClassMove.{ClassMove}
use Rattle.suit_classes.specs.WhatIsAllowed.{is_among}
use Rattle.suit_classes.specs.ClassMoves.{ClassHistory}
use Rattle.suit_classes.specs.ClassPlaces.{class_after, class_turn}
use Rattle.suit_classes.proofs.SameMoves.{among-Contains, among_contained}
use Rattle.suit_plans.specs.Masses.{is_declarers}
use Rattle.suit_tree.specs.WhatIsCounted.{counted_histories}
use Rattle.suit_program.specs.Supports.{Support, first_and, layouts_of, legal_moves, names, supported_moves}
use Rattle.suit_solve.specs.Fates.{lacking, lacking_at}

-- ---- supports with more names

first_more : (named more : ClassMove → Bool) (moves : List ClassMove) (move : ClassMove)
    → ((other : ClassMove) → named other ≡ true → more other ≡ true)
    → Contains (first_and named moves) move → Contains (first_and more moves) move
first_more named more [] move gives found = absurd (Contains-nil move found)
first_more named more (first ∷ moves) move gives found =
    elim (Contains-cons_cases first (filter named moves) move found) [
      | inl here ↦ subst (Contains (first ∷ filter more moves)) here (Contains-first first (filter more moves))
      | inr there ↦
          let parts = kept_parts named moves move there in
          Contains-later first (filter more moves) move
          (Contains-filter more moves move parts.0 (gives move parts.1))
    ]

-- a legal move that is named is supported
pub named_first : (named : ClassMove → Bool) (moves : List ClassMove) (move : ClassMove) → Contains moves move
    → named move ≡ true → Contains (first_and named moves) move
named_first named [] move found is = absurd (Contains-nil move found)
named_first named (first ∷ moves) move found is =
    elim (Contains-cons_cases first moves move found) [
      | inl here ↦ subst (Contains (first ∷ filter named moves)) here (Contains-first first (filter named moves))
      | inr there ↦ Contains-later first (filter named moves) move (Contains-filter named moves move there is)
    ]

-- one support names whatever another does
pub record NamesMore (less more : Support) : Type 0 where
  pub declarers : (history : ClassHistory) (move : ClassMove) → less.declarers history move ≡ true
      → more.declarers history move ≡ true
  pub defences : (west : ClassLayout) (history : ClassHistory) (move : ClassMove)
      → less.defences west history move ≡ true → more.defences west history move ≡ true

pub either_more : (b : Bool) (one other more next : Bool) → (one ≡ true → more ≡ true) → (other ≡ true → next ≡ true)
    → (if b then one else other) ≡ true → (if b then more else next) ≡ true
either_more true one other more next gives too is = gives is
either_more false one other more next gives too is = too is

not_back : (less more : Bool) → (less ≡ true → more ≡ true) → not more ≡ true → not less ≡ true
not_back true true gives fails = fails
not_back true false gives fails = absurd (cc (gives refl))
not_back false more gives fails = refl

module _ (question : Question) (less more : Support) (grown : NamesMore less more) where
  -- so its moves are among those of the other
  pub supported_more : (west : ClassLayout) (history : ClassHistory) (move : ClassMove)
      → is_among (supported_moves question less west history) move ≡ true
      → is_among (supported_moves question more west history) move ≡ true
  unfolding supported_moves
  supported_more west history move among =
      among_contained (first_and (names question more west history) (legal_moves question west history)) move
      (first_more (names question less west history) (names question more west history)
      (legal_moves question west history) move
      (λ other named. either_more (is_declarers (class_turn (class_after question history)))
      (less.declarers history other) (less.defences west history other) (more.declarers history other)
      (more.defences west history other) (grown.declarers history other) (grown.defences west history other) named)
      (among-Contains (first_and (names question less west history) (legal_moves question west history)) move among))

  abbrev lacks : Support → ClassLayout → ClassHistory → ClassMove → Bool
  lacks support west history move = not (is_among (supported_moves question support west history) move)

  lacks_too : (west : ClassLayout) (history : ClassHistory) (move : ClassMove) → lacks more west history move ≡ true
      → lacks less west history move ≡ true
  lacks_too west history move fails =
      not_back (is_among (supported_moves question less west history) move)
      (is_among (supported_moves question more west history) move) (supported_more west history move) fails

  fewer_at : (west : ClassLayout) (history : ClassHistory)
      → lacking_at question more west history ≤ lacking_at question less west history
  fewer_at west history =
      fewer_kept (lacks more west history) (lacks less west history) (legal_moves question west history)
      (lacks_too west history)

  -- where a move of the tree is in it and not in the other, it lacks fewer
  pub lacks_less : (layout : ClassLayout × ℕ) (history : ClassHistory) (move : ClassMove)
      → Contains (layouts_of question) layout → Contains (counted_histories question layout.0) history
      → Contains (legal_moves question layout.0 history) move
      → is_among (supported_moves question less layout.0 history) move ≡ false
      → is_among (supported_moves question more layout.0 history) move ≡ true
      → lacking question more < lacking question less
  unfolding lacking
  lacks_less layout history move listed counted legal old new =
      sum_less
      (λ (other : ClassLayout × ℕ). sum_by (lacking_at question more other.0) (counted_histories question other.0))
      (λ (other : ClassLayout × ℕ). sum_by (lacking_at question less other.0) (counted_histories question other.0))
      (layouts_of question) layout
      (λ (other : ClassLayout × ℕ). sum_by_at_most (lacking_at question more other.0) (lacking_at question less other.0)
      (counted_histories question other.0) (fewer_at other.0))
      listed
      (sum_less (lacking_at question more layout.0) (lacking_at question less layout.0)
      (counted_histories question layout.0) history (fewer_at layout.0) counted
      (less_kept (lacks more layout.0 history) (lacks less layout.0 history)
      (legal_moves question layout.0 history) move (lacks_too layout.0 history) legal (ap not new) (ap not old)))
