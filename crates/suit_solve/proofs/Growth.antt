-- Where a plan and a defence do not meet, the moves of the best replies add to the support (`apart_less`).
use Rattle.std.proofs.Common.{◌≡◌, ◌≢◌, ◌<◌, Bool, true, false, List, [], get_or, refl, sym, ap, ◌∙◌, subst, inl, inr}
use Rattle.std.specs.Prelude.{Contains, not, ◌&&◌, ◌||◌, bytes_eq, if◌then◌else◌, ◌*ℤ◌}
use Rattle.std.specs.List.{list_any}
use Rattle.std.proofs.lemmas.Bool.{and_from, or_cases}
use Rattle.std.proofs.lemmas.Bool.Decides.{Decides-int_eq}
use Rattle.std.proofs.lemmas.Slice.Eq.{bytes_eq-Decides}
use Rattle.suit_lists.proofs.Elements.{Contains-same}
use Rattle.suit_lists.proofs.Tests.{passing_some, some_passing}
use Rattle.suit_cards.specs.Cards.{ClassLayout}
use Rattle.suit_game.specs.declared.question.Question.{Question}
use Rattle.suit_classes.specs.declared.class_moves.ClassMove.{ClassMove}
use Rattle.suit_classes.specs.WhatIsAllowed.{is_among}
use Rattle.suit_classes.specs.ClassMoves.{same_class_move}
use Rattle.suit_classes.specs.ClassPlaces.{class_after, class_turn}
use Rattle.suit_classes.proofs.SameMoves.{among_contained, same_move-itself}
use Rattle.suit_plans.specs.declared.moves.DeclarerMove.{DeclarerMove}
use Rattle.suit_plans.specs.declared.moves.DefenceMove.{DefenceMove}
use Rattle.suit_plans.specs.declared.plan.Plan.{Plan}
use Rattle.suit_plans.specs.declared.defence.Defence.{Defence}
use Rattle.suit_plans.specs.BestReplies.{least, most, most_reply}
use Rattle.suit_plans.specs.Masses.{is_declarers}
use Rattle.suit_plans.specs.Orders.{same_class_history}
use Rattle.suit_plans.specs.ReplyLaws.{counts_at}
use Rattle.suit_plans.proofs.HistoryOrder.{same_class_history-itself}
use Rattle.suit_plans.proofs.WhoseTurns.{their_turn}
use Rattle.suit_program.specs.Readings.ReadingLaws.{defence_read, plan_read}
use Rattle.suit_program.specs.Readings.{defence_of, parts_of, plan_at, plan_den, plan_point}
use Rattle.suit_program.specs.Supports.{Support, are_new, has_declarers, has_defences, layouts_of, legal_moves, names}
use Rattle.suit_program.specs.Supports.{supported_moves, with_moves}
use Rattle.suit_program.proofs.lemmas.Duality.ReadingsMeet.{supports_grow}
use Rattle.suit_program.proofs.lemmas.Supports.TurnCases.{own_supported}
use Rattle.suit_solve.specs.Fates.{lacking}
use Rattle.suit_solve.proofs.Lacking.{NamesMore, lacks_less, named_first}
use Rattle.suit_solve.proofs.ReplyPlaces.{own_place, their_place}
use Rattle.suit_solve.proofs.Rounds.{IsApartAt}

or_first : (a b : Bool) → a ≡ true → (a || b) ≡ true
or_first true b is = refl
or_first false b is = absurd (cc)

or_second : (a b : Bool) → b ≡ true → (a || b) ≡ true
or_second true b is = refl
or_second false b is = is

denied : (b : Bool) → not b ≡ true → b ≡ false
denied true fails = absurd (cc)
denied false fails = refl

module _ (question : Question) (support : Support) (own : List DeclarerMove) (theirs : List DefenceMove) where
  abbrev more : Support
  more = with_moves question support own theirs

  -- a support with more moves names what it named
  pub names_more : NamesMore support more
  unfolding with_moves
  names_more = record {
    declarers = λ history move is. or_first (support.declarers history move) (has_declarers own history move) is;
    defences = λ west history move is.
        or_first (support.defences west history move) (has_defences question theirs west history move) is;
  }

  -- and the moves that were added
  own_added : (entry : DeclarerMove) (west : ClassLayout) → Contains own entry
      → is_declarers (class_turn (class_after question entry.history)) ≡ true
      → Contains (legal_moves question west entry.history) entry.mv
      → is_among (supported_moves question more west entry.history) entry.mv ≡ true
  unfolding supported_moves with_moves has_declarers
  own_added entry west found turn legal =
      among_contained (supported_moves question more west entry.history) entry.mv
      (named_first (names question more west entry.history) (legal_moves question west entry.history) entry.mv legal
      (ap (λ (b : Bool). if b then more.declarers entry.history entry.mv
      else more.defences west entry.history entry.mv) turn
      ∙ or_second (support.declarers entry.history entry.mv) (has_declarers own entry.history entry.mv)
      (passing_some (λ (other : DeclarerMove). same_class_history other.history entry.history
      && same_class_move other.mv entry.mv) own entry found
      (and_from (same_class_history entry.history entry.history) (same_class_move entry.mv entry.mv)
      (same_class_history-itself entry.history) (same_move-itself entry.mv)))))

  their_added : (entry : DefenceMove) → Contains theirs entry
      → is_declarers (class_turn (class_after question entry.history)) ≡ false
      → Contains (legal_moves question (counts_at question entry.layout) entry.history) entry.mv
      → is_among (supported_moves question more (counts_at question entry.layout) entry.history) entry.mv ≡ true
  unfolding supported_moves with_moves has_defences
  their_added entry found turn legal =
      let west : ClassLayout = counts_at question entry.layout in
      among_contained (supported_moves question more west entry.history) entry.mv
      (named_first (names question more west entry.history) (legal_moves question west entry.history) entry.mv legal
      (ap (λ (b : Bool). if b then more.declarers entry.history entry.mv
      else more.defences west entry.history entry.mv) turn
      ∙ or_second (support.defences west entry.history entry.mv)
      (has_defences question theirs west entry.history entry.mv)
      (passing_some (λ (other : DefenceMove). bytes_eq (counts_at question other.layout) west
      && same_class_history other.history entry.history && same_class_move other.mv entry.mv) theirs entry found
      (and_from (bytes_eq west west && same_class_history entry.history entry.history)
      (same_class_move entry.mv entry.mv)
      (and_from (bytes_eq west west) (same_class_history entry.history entry.history)
      ((bytes_eq-Decides west west).1 refl) (same_class_history-itself entry.history)) (same_move-itself entry.mv)))))

  module _ (is : IsApartAt question support own theirs) where
    abbrev plan : Plan
    plan = plan_read question support is.optimum

    abbrev defence : Defence
    defence = defence_read question support is.optimum

    differ : (least question plan *ℤ is.optimum.scale)
        ≢ (most question defence *ℤ plan_den question support (parts_of is.optimum.point))
    unfolding plan_at plan_point defence_of
    differ same =
        absurd (cc (
          is.apart,
          (Decides-int_eq (least question plan *ℤ defence.den)
              (most question defence *ℤ plan.den)).1 same,
        ))

    new : are_new question support own theirs ≡ true
    new = subst (λ (moves : List DeclarerMove). are_new question support moves theirs ≡ true) is.own_is
        (subst (λ (moves : List DefenceMove). are_new question support (most_reply question defence) moves ≡ true)
        is.theirs_is (supports_grow question support is.optimum is.read.readable is.read.priced differ))

    by_own : (entry : DeclarerMove) → Contains own entry
        → is_among (supported_moves question support [] entry.history) entry.mv ≡ false
        → lacking question more < lacking question support
    by_own entry found old =
        let at = own_place question is.read.valid defence entry
        (Contains-same entry (sym is.own_is) found) in
        let place = at.1 in
        lacks_less question support more names_more at.0 entry.history entry.mv place.listed place.counted place.legal
        (ap (λ (moves : List ClassMove). is_among moves entry.mv)
        (own_supported question support at.0.0 entry.history place.going at.2) ∙ old)
        (own_added entry at.0.0 found at.2 place.legal)

    by_theirs : (entry : DefenceMove) → Contains theirs entry
        → is_among (supported_moves question support (counts_at question entry.layout) entry.history) entry.mv ≡ false
        → lacking question more < lacking question support
    by_theirs entry found old =
        let at = their_place question is.read.valid plan entry
        (Contains-same entry (sym is.theirs_is) found) in
        let place = at.0 in
        lacks_less question support more names_more (get_or (layouts_of question) entry.layout ([], 0)) entry.history
        entry.mv place.listed place.counted place.legal old
        (their_added entry found (their_turn (class_after question entry.history) at.1).1 place.legal)

    -- so it lacks fewer moves of the tree
    pub apart_less : lacking question more < lacking question support
    unfolding are_new
    apart_less =
        let own_new : DeclarerMove → Bool = λ (entry : DeclarerMove).
        not (is_among (supported_moves question support [] entry.history) entry.mv) in
        let their_new : DefenceMove → Bool = λ (entry : DefenceMove).
        not (is_among (supported_moves question support (counts_at question entry.layout) entry.history) entry.mv) in
        elim (or_cases (list_any own_new own) (list_any their_new theirs) new) [
          | inl told ↦
              let some = some_passing own_new own told in
              by_own some.0 some.1
              (denied (is_among (supported_moves question support [] some.0.history) some.0.mv) some.2)
          | inr told ↦
              let some = some_passing their_new theirs told in
              by_theirs some.0 some.1
              (denied (is_among (supported_moves question support (counts_at question some.0.layout)
              some.0.history) some.0.mv) some.2)
        ]
