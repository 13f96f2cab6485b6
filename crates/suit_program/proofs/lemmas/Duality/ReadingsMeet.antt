-- Where a support has all moves of both best replies, the plan and the defence that are read meet at what its game is
-- worth (`supported_replies_meet`, `whole_supports_meet`, `supports_grow`).
use Rattle.std.proofs.Common.{◌≡◌, Bool, true, false, List, [], ◌∷◌, refl, sym, ap, ◌∙◌, subst, inl, inr, arith}
use Rattle.std.specs.Prelude.{Contains, ◌||◌, cond, filter, not, if◌then◌else◌, ℤ, pos, ◌*ℤ◌, ◌<ℤ◌, ◌≤ℤ◌}
use Rattle.std.specs.List.{list_any}
use Rattle.std.proofs.lemmas.Bool.{cases_Bool, or_parts}
use Rattle.std.proofs.lemmas.Int.{ints}
use Rattle.suit_lists.proofs.Elements.{Contains-same}
use Rattle.suit_lists.proofs.Tests.{none_new}
use Rattle.suit_cards.specs.Cards.{ClassLayout}
use Rattle.suit_num.proofs.IntegerLaws.{le-mul_right, same_from_mul}
use Rattle.suit_game.specs.declared.question.Question.{Question}
use Rattle.suit_game.specs.Validity.{IsValid}
use Rattle.suit_classes.specs.declared.class_moves.ClassMove.{ClassMove}
use Rattle.suit_classes.specs.WhatIsAllowed.{is_among}
use Rattle.suit_classes.specs.ClassMoves.{ClassHistory}
use Rattle.suit_classes.specs.ClassPlaces.{class_after, class_turn}
use Rattle.suit_classes.proofs.SameMoves.{among_contained}
use Rattle.suit_plans.specs.declared.moves.DeclarerMove.{DeclarerMove}
use Rattle.suit_plans.specs.declared.moves.DefenceMove.{DefenceMove}
use Rattle.suit_plans.specs.declared.plan.Plan.{Plan}
use Rattle.suit_plans.specs.declared.defence.Defence.{Defence}
use Rattle.suit_plans.specs.BestReplies.{least, least_reply, most, most_reply}
use Rattle.suit_plans.specs.Masses.{is_declarers}
use Rattle.suit_plans.specs.ReplyLaws.{counts_at}
use Rattle.suit_plans.proofs.PublicMoves.{own_moves_on, some_layout}
use Rattle.suit_plans.proofs.ReplyChoices.{least_choices, most_choices}
use Rattle.suit_plans.proofs.TurnMoves.{declarers_moves}
use Rattle.suit_linear.specs.declared.ends.Optimum.{Optimum}
use Rattle.suit_program.specs.Programs.{supported_worth}
use Rattle.suit_program.specs.Readings.ReadingLaws.{IsReadable, SupportedRepliesMeet, SupportsGrow}
use Rattle.suit_program.specs.Readings.ReadingLaws.{WholeSupportsMeet, defence_read, plan_read}
use Rattle.suit_program.specs.Readings.{defence_of, parts_of, plan_at, plan_den, plan_point}
use Rattle.suit_program.specs.Supports.{Support, are_new, first_and, legal_moves, names, supported_moves, whole_support}
use Rattle.suit_program.proofs.lemmas.Readings.DefencesHoldTheWorth.{read_defences_are_proper}
use Rattle.suit_program.proofs.lemmas.Readings.DefencesHoldTheWorth.{read_defences_hold_the_worth}
use Rattle.suit_program.proofs.lemmas.Duality.WeakDuality.{weak_duality}
use Rattle.suit_program.proofs.lemmas.Readings.PlansKeepTheWorth.{over, read_plans_are_proper}
use Rattle.suit_program.proofs.lemmas.Readings.PlansKeepTheWorth.{read_plans_keep_the_worth}
use Rattle.suit_program.proofs.lemmas.Supports.TurnCases.{legal_going}

-- ---- both lists

new_parts : (question : Question) (support : Support) (own : List DeclarerMove) (theirs : List DefenceMove)
    → are_new question support own theirs ≡ false
    → (are_new question support own [] ≡ false) × (are_new question support [] theirs ≡ false)
unfolding are_new
new_parts question support own theirs none =
    let one : Bool =
    list_any (λ (entry : DeclarerMove). not (is_among (supported_moves question support [] entry.history) entry.mv))
    own in
    let other : Bool = list_any (λ (entry : DefenceMove). not (is_among
    (supported_moves question support (counts_at question entry.layout) entry.history) entry.mv)) theirs in
    let parts = or_parts one other none in
    (ap (λ (b : Bool). b || false) parts.0, parts.1)

den_over : (question : Question) (support : Support) (optimum : Optimum) → IsReadable question support optimum
    → pos 0 <ℤ plan_den question support (parts_of optimum.point)
unfolding plan_point
den_over question support optimum readable = over question support optimum readable

plan_den_is : (question : Question) (support : Support) (optimum : Optimum)
    → (plan_read question support optimum).den ≡ plan_den question support (parts_of optimum.point)
unfolding plan_at plan_point
plan_den_is question support optimum = refl

defence_den_is : (question : Question) (support : Support) (optimum : Optimum)
    → (defence_read question support optimum).den ≡ optimum.scale
unfolding defence_of
defence_den_is question support optimum = refl

pub supported_replies_meet : SupportedRepliesMeet
supported_replies_meet question support optimum readable priced none =
    let plan : Plan = plan_read question support optimum in
    let defence : Defence = defence_read question support optimum in
    let parts = new_parts question support (most_reply question defence) (least_reply question plan) none in
    let keeps = read_plans_keep_the_worth question support optimum readable priced.dual.0.over parts.1 in
    let holds = read_defences_hold_the_worth question support optimum priced parts.0 in
    let weak = weak_duality question plan defence priced.valid
    (read_plans_are_proper question support optimum readable)
    (read_defences_are_proper question support optimum priced) in
    let met = meet (supported_worth question support optimum.value optimum.scale)
    (plan_den question support (parts_of optimum.point)) (least question plan) optimum.scale (most question defence)
    (den_over question support optimum readable) keeps holds
    (subst (λ (z : ℤ). (least question plan *ℤ z)
    ≤ℤ (most question defence *ℤ plan_den question support (parts_of optimum.point)))
    (defence_den_is question support optimum)
    (subst (λ (z : ℤ). (least question plan *ℤ defence.den) ≤ℤ (most question defence *ℤ z))
    (plan_den_is question support optimum) weak)) in
    record { least = met.0; most = met.1 }
  where
    meet : (worth den earned scale allowed : ℤ) → pos 0 <ℤ den → (worth *ℤ den) ≤ℤ (earned *ℤ scale)
        → allowed ≤ℤ worth → (earned *ℤ scale) ≤ℤ (allowed *ℤ den)
        → (worth *ℤ den ≡ earned *ℤ scale) × (allowed ≡ worth)
    meet worth den earned scale allowed some keeps holds weak =
        let times : (allowed *ℤ den) ≤ℤ (worth *ℤ den) =
        le-mul_right allowed worth den holds (omega (arith, ints, some)) in
        let same : worth *ℤ den ≡ earned *ℤ scale = omega (arith, ints, keeps, weak, times) in
        let turned : allowed *ℤ den ≡ worth *ℤ den = omega (arith, ints, keeps, weak, times) in
        (same, same_from_mul allowed worth den turned some)

-- ---- all moves

choice_same : (b : Bool) → (if b then true else true) ≡ true
choice_same true = refl
choice_same false = refl

all_moves : (named : ClassMove → Bool) (moves : List ClassMove) → ((move : ClassMove) → named move ≡ true)
    → first_and named moves ≡ moves
all_moves named [] all = refl
all_moves named (first ∷ moves) all = ap (λ (l : List ClassMove). first ∷ l) (kept moves)
  where
    kept : (moves : List ClassMove) → filter named moves ≡ moves
    kept [] = refl
    kept (move ∷ moves) =
        ap (λ (b : Bool). cond b (move ∷ filter named moves) (filter named moves)) (all move)
        ∙ ap (λ (l : List ClassMove). move ∷ l) (kept moves)

-- the support of all moves has the legal moves
whole_moves : (question : Question) (west : ClassLayout) (history : ClassHistory)
    → supported_moves question whole_support west history ≡ legal_moves question west history
unfolding supported_moves
whole_moves question west history =
    all_moves (names question whole_support west history) (legal_moves question west history)
    (λ move. choice_same (is_declarers (class_turn (class_after question history))))

-- so no move of a best reply is new to it
whole_none : (question : Question) (plan : Plan) (defence : Defence) → IsValid question
    → are_new question whole_support (most_reply question defence) (least_reply question plan) ≡ false
unfolding are_new
whole_none question plan defence valid =
    both (list_any (λ (entry : DeclarerMove). not (is_among (supported_moves question whole_support [] entry.history)
    entry.mv)) (most_reply question defence))
    (list_any (λ (entry : DefenceMove). not (is_among
    (supported_moves question whole_support (counts_at question entry.layout) entry.history) entry.mv))
    (least_reply question plan))
    (none_new (λ (entry : DeclarerMove). is_among (supported_moves question whole_support [] entry.history) entry.mv)
    (most_reply question defence) own)
    (none_new (λ (entry : DefenceMove). is_among
    (supported_moves question whole_support (counts_at question entry.layout) entry.history) entry.mv)
    (least_reply question plan) theirs)
  where
    both : (a b : Bool) → a ≡ false → b ≡ false → (a || b) ≡ false
    both true b one other = one
    both false b one other = other

    own : (entry : DeclarerMove) → Contains (most_reply question defence) entry
        → is_among (supported_moves question whole_support [] entry.history) entry.mv ≡ true
    own entry found =
        let choice = most_choices question defence entry valid found in
        let layout = some_layout question valid entry.history choice.allowed in
        let moves = whole_moves question [] entry.history
        ∙ legal_going question whole_support [] entry.history [] choice.going in
        among_contained (supported_moves question whole_support [] entry.history) entry.mv
        (Contains-same entry.mv
        (own_moves_on question valid entry.history choice.going layout.0 layout.1 choice.turn
        ∙ declarers_moves (class_after question entry.history) layout.0.0 [] choice.turn ∙ sym moves) choice.legal)

    theirs : (entry : DefenceMove) → Contains (least_reply question plan) entry
        → is_among (supported_moves question whole_support (counts_at question entry.layout) entry.history) entry.mv
        ≡ true
    theirs entry found =
        let choice = (least_choices question plan entry valid found).1 in
        let west : ClassLayout = counts_at question entry.layout in
        let moves = whole_moves question west entry.history
        ∙ legal_going question whole_support west entry.history west choice.going in
        among_contained (supported_moves question whole_support west entry.history) entry.mv
        (Contains-same entry.mv (sym moves) choice.legal)

pub whole_supports_meet : WholeSupportsMeet
whole_supports_meet question optimum readable priced =
    supported_replies_meet question whole_support optimum readable priced
    (whole_none question (plan_read question whole_support optimum) (defence_read question whole_support optimum)
    priced.valid)

pub supports_grow : SupportsGrow
supports_grow question support optimum readable priced differ =
    elim (cases_Bool (are_new question support (most_reply question (defence_read question support optimum))
    (least_reply question (plan_read question support optimum)))) [
      | inl new ↦ new
      | inr none ↦
          let met = supported_replies_meet question support optimum readable priced none in
          absurd (differ (sym met.least
          ∙ ap (λ (z : ℤ). z *ℤ plan_den question support (parts_of optimum.point)) (sym met.most)))
    ]
