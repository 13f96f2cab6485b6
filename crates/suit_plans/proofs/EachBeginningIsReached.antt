-- The entries of a best reply are reached by its own moves: some mass comes to each beginning of their histories, and
-- the
-- moves of its side within them are its own (`least_reached`, `least_followed`, `most_reached`, `most_followed`).
use Rattle.std.proofs.Common.{◌≡◌, ◌⊎◌, ℕ, zero, suc, ◌≤◌, Bool, true, false, List, [], ◌∷◌, ◌++◌, length, refl}
use Rattle.std.proofs.Common.{sym, ap, ◌∙◌, subst, arith, append-nil, append_assoc, inl, inr}
use Rattle.std.specs.Prelude.{⊤, Contains, ◌&&◌, nat_lt, if◌then◌else◌, ℤ, pos, ◌≤ℤ◌, ◌<ℤ◌, int_lt}
use Rattle.std.specs.List.{flat_map}
use Rattle.std.specs.Int.Signed.{≤ℤ_refl}
use Rattle.std.proofs.lemmas.Bool.{and_from, and_parts, cases_Bool, ltb-false}
use Rattle.std.proofs.lemmas.Int.{ints}
use Rattle.std.proofs.lemmas.List.{length-append}
use Rattle.suit_lists.proofs.Elements.{Contains-cons_cases, Contains-first, Contains-later, Contains-nil}
use Rattle.suit_lists.proofs.Filters.{Contains-filter}
use Rattle.suit_lists.proofs.FlatMaps.{Contains-flat_map}
use Rattle.suit_lists.proofs.Tests.{passing_some}
use Rattle.suit_cards.specs.Cards.{ClassLayout}
use Rattle.suit_game.specs.declared.question.Question.{Question}
use Rattle.suit_classes.specs.declared.class_moves.ClassMove.{ClassMove}
use Rattle.suit_classes.specs.ClassGame.{Allows}
use Rattle.suit_classes.specs.ClassMoves.{ClassHistory, same_class_move}
use Rattle.suit_classes.specs.ClassPlaces.{class_after}
use Rattle.suit_classes.proofs.AllowedMoveByMove.{allowed_moves}
use Rattle.suit_classes.proofs.DecidedStaysDecided.{class_histories_are_short}
use Rattle.suit_classes.proofs.SameMoves.{same_move_is}
use Rattle.suit_plans.specs.BestReplies.{Reply, allowing_layouts, choices, follows, has_choice, histories_within}
use Rattle.suit_plans.specs.BestReplies.{is_reached, least_reply, most_reply, reply_move, reply_to_defence}
use Rattle.suit_plans.specs.BestReplies.{reply_to_plan}
use Rattle.suit_plans.specs.Masses.{Side, declarer, defence_mass, defenders, mass_of, plan_mass}
use Rattle.suit_plans.specs.PlanLaws.{AreRealised}
use Rattle.suit_plans.specs.ReplyLaws.{LeastRepliesAreFollowed, LeastRepliesAreReached}
use Rattle.suit_plans.specs.ReplyLaws.{MostRepliesAreFollowed, MostRepliesAreReached, counts_at}
use Rattle.suit_plans.proofs.MassBounds.{mass_falls}
use Rattle.suit_plans.proofs.PlanWorths.{moves_going}
use Rattle.suit_plans.proofs.ProperDefences.{defences_are_realised}
use Rattle.suit_plans.proofs.ProperPlans.{plans_are_realised}
use Rattle.suit_plans.proofs.PublicMoves.{Contains-allowing, allowing_parts, layout_weighs}
use Rattle.suit_plans.proofs.ReplyChoices.{choice_parts, least_choices, least_entry, least_listed, most_choices}
use Rattle.suit_plans.proofs.ReplyChoices.{most_entry}
use Rattle.suit_plans.proofs.ReplyChoices.{most_listed}
use Rattle.suit_plans.proofs.WhoseTurns.{their_turn}
use Rattle.suit_game.specs.declared.limits.TheConstants.{MOST_MOVES}

-- ---- mass

module _ (question : Question) (side : Side) (counts : ClassLayout) (realised : AreRealised question side counts) where
  -- each beginning of a class history is allowed where the history is, and no less mass comes to it
  mass_before : (rest start : ClassHistory) → Allows question counts (start ++ rest)
      → Allows question counts start × (mass_of question side (start ++ rest) ≤ℤ mass_of question side start)
  mass_before [] start allowed =
      let whole : start ++ [] ≡ start = append-nil start in (
        subst (Allows question counts) whole allowed,
        subst (λ (h : ClassHistory). mass_of question side h ≤ℤ mass_of question side start) (sym whole)
            (≤ℤ_refl (mass_of question side start)),
      )
  mass_before (move ∷ rest) start allowed =
      let mass : ClassHistory → ℤ = mass_of question side in
      let same : (start ++ move ∷ []) ++ rest ≡ start ++ move ∷ rest = append_assoc start (move ∷ []) rest in
      let later = mass_before rest (start ++ move ∷ []) (subst (Allows question counts) (sym same) allowed) in
      let here = (allowed_moves question counts start move).0 later.0 in (
        here.0,
        subst (λ (h : ClassHistory). mass h ≤ℤ mass start) same
            (through (mass ((start ++ move ∷ []) ++ rest)) (mass (start ++ move ∷ [])) (mass start) later.1
            (mass_falls question side counts start move realised here.0 here.1)),
      )
    where
      through : (a b c : ℤ) → a ≤ℤ b → b ≤ℤ c → a ≤ℤ c
      through a b c p q = omega (arith, ints)

  -- so some mass comes to it where some comes to the history
  live_before : (history start rest : ClassHistory) → history ≡ start ++ rest → Allows question counts history
      → pos 0 <ℤ mass_of question side history
      → Allows question counts start × (pos 0 <ℤ mass_of question side start)
  live_before history start rest parts allowed live =
      let before = mass_before rest start (subst (Allows question counts) parts allowed) in
      let some : pos 0 <ℤ mass_of question side (start ++ rest) =
      subst (λ (h : ClassHistory). pos 0 <ℤ mass_of question side h) parts live in
      (before.0, more (mass_of question side (start ++ rest)) (mass_of question side start) some before.1)
    where
      more : (a b : ℤ) → pos 0 <ℤ a → a ≤ℤ b → pos 0 <ℤ b
      more a b p q = omega (arith, ints)

-- ---- the moves of a reply

module _ (reply : Reply) where
  -- the moves that go on from a class history are all moves of the reply's play
  unfoldable IsMade : ClassHistory → List ClassMove → Type 0
  IsMade history [] = ⊤
  IsMade history (move ∷ moves) = Contains (reply.moves history) move × IsMade (history ++ move ∷ []) moves

  made_more : (history moves : ClassHistory) (move : ClassMove) → IsMade history moves
      → Contains (reply.moves (history ++ moves)) move → IsMade history (moves ++ move ∷ [])
  unfolding IsMade
  made_more history [] move made found =
      (subst (λ (h : ClassHistory). Contains (reply.moves h) move) (append-nil history) found, tt)
  made_more history (first ∷ moves) move made found = (
    made.0,
    made_more (history ++ first ∷ []) moves move made.1
        (subst (λ (h : ClassHistory). Contains (reply.moves h) move) (sym (append_assoc history (first ∷ []) moves))
        found),
  )

  made_parts : (history start rest : ClassHistory) → IsMade history (start ++ rest)
      → IsMade history start × IsMade (history ++ start) rest
  unfolding IsMade
  made_parts history [] rest made = (tt, subst (λ (h : ClassHistory). IsMade h rest) (sym (append-nil history)) made)
  made_parts history (move ∷ start) rest made =
      let later = made_parts (history ++ move ∷ []) start rest made.1 in (
        (made.0, later.0),
        subst (λ (h : ClassHistory). IsMade h rest) (append_assoc history (move ∷ []) start) later.1,
      )

  -- what such moves lead to is among the class histories that go on
  made_listed : (more : ℕ) (history moves : ClassHistory) → IsMade history moves → length moves ≤ more
      → Contains (histories_within more reply history) (history ++ moves)
  unfolding IsMade histories_within
  made_listed zero history [] made short =
      subst (Contains (history ∷ [])) (sym (append-nil history)) (Contains-first history [])
  made_listed zero history (move ∷ moves) made short = absurd (omega (arith, short))
  made_listed (suc more) history [] made short =
      let piece : ClassMove → List ClassHistory = λ other. histories_within more reply (history ++ other ∷ []) in
      subst (Contains (history ∷ flat_map piece (reply.moves history))) (sym (append-nil history))
      (Contains-first history (flat_map piece (reply.moves history)))
  made_listed (suc more) history (move ∷ moves) made short =
      let piece : ClassMove → List ClassHistory = λ other. histories_within more reply (history ++ other ∷ []) in
      Contains-later history (flat_map piece (reply.moves history)) (history ++ move ∷ moves)
      (Contains-flat_map piece (reply.moves history) move (history ++ move ∷ moves) made.0
      (subst (Contains (piece move)) (append_assoc history (move ∷ []) moves)
      (made_listed more (history ++ move ∷ []) moves made.1 (omega (arith, short)))))

  follows_parts : (history start rest : ClassHistory) → follows reply history (start ++ rest) ≡ true
      → (follows reply history start ≡ true) × (follows reply (history ++ start) rest ≡ true)
  unfolding follows
  follows_parts history [] rest goes =
      (refl, subst (λ (h : ClassHistory). follows reply h rest ≡ true) (sym (append-nil history)) goes)
  follows_parts history (move ∷ start) rest goes =
      let own : Bool = if reply.replies history then same_class_move (reply_move reply history) move else true in
      let parts = and_parts own (follows reply (history ++ move ∷ []) (start ++ rest)) goes in
      let later = follows_parts (history ++ move ∷ []) start rest parts.1 in (
        and_from own (follows reply (history ++ move ∷ []) start) parts.0 later.0,
        subst (λ (h : ClassHistory). follows reply h rest ≡ true) (append_assoc history (move ∷ []) start) later.1,
      )

  -- at a turn of the side that replies, the move that is followed is the reply's
  own_move : (history : ClassHistory) (move : ClassMove) (rest : List ClassMove)
      → follows reply history (move ∷ rest) ≡ true → reply.replies history ≡ true → reply_move reply history ≡ move
  unfolding follows
  own_move history move rest goes own =
      let first : Bool = if reply.replies history then same_class_move (reply_move reply history) move else true in
      let parts = and_parts first (follows reply (history ++ move ∷ []) rest) goes in
      same_move_is (reply_move reply history) move
      (sym (ap (λ (b : Bool). if b then same_class_move (reply_move reply history) move else true) own) ∙ parts.0)

  only : (moves : List ClassMove) (move : ClassMove) → Contains moves move → nat_lt 1 (length moves) ≡ false
      → moves ≡ move ∷ []
  only [] move found few = absurd (Contains-nil move found)
  only (first ∷ []) move found few = elim (Contains-cons_cases first [] move found) [
    | inl here ↦ ap (λ (other : ClassMove). other ∷ []) here
    | inr there ↦ absurd (Contains-nil move there)
  ]
  only (first ∷ second ∷ moves) move found few =
      let none = ltb-false 1 (length (first ∷ second ∷ moves)) few in absurd (omega (arith, none))

  -- a move of the side that replies, within a history where it has a choice, is one of its choices or the only move
  chosen_before : (start : ClassHistory) (move : ClassMove) (rest history : ClassHistory)
      → history ≡ start ++ move ∷ rest → Contains (choices reply) history → length history ≤ MOST_MOVES
      → reply.live start ≡ true → reply.replies start ≡ true
      → (Contains (choices reply) start × (reply_move reply start ≡ move)) ⊎ (reply.moves start ≡ move ∷ [])
  unfolding choices IsMade
  chosen_before start move rest history parts found short live own =
      let chosen = choice_parts (IsMade []) reply (λ other next made there. made_more [] other next made there) tt
      history found in
      let made = made_parts [] start (move ∷ rest) (subst (IsMade []) parts chosen.0) in
      let reached = and_parts (reply.live history) (follows reply [] history) chosen.2 in
      let goes = follows_parts [] start (move ∷ rest)
      (subst (λ (h : ClassHistory). follows reply [] h ≡ true) parts reached.1) in
      elim (cases_Bool (nat_lt 1 (length (reply.moves start)))) [
        | inl many ↦ inl (
          Contains-filter (λ (other : ClassHistory). has_choice reply other && is_reached reply other)
              (histories_within MOST_MOVES reply []) start
              (made_listed MOST_MOVES [] start made.0
              (omega (arith, short, ap (λ (h : ClassHistory). length h) parts, length-append start (move ∷ rest))))
              (and_from (has_choice reply start) (is_reached reply start)
              (and_from (reply.replies start) (nat_lt 1 (length (reply.moves start))) own many)
              (and_from (reply.live start) (follows reply [] start) live goes.0)),
          own_move start move rest goes.1 own,
        )
        | inr few ↦ inr (only (reply.moves start) move made.1.0 few)
      ]

lt-int : (z : ℤ) → pos 0 <ℤ z → int_lt (pos 0) z ≡ true
lt-int z some = grind (arith, ints)

-- ---- against a plan

pub least_reached : LeastRepliesAreReached
unfolding plan_mass
least_reached question plan entry start rest valid proper found parts =
    let counts : ClassLayout = counts_at question entry.layout in
    let choice = (least_choices question plan entry valid found).1 in
    (live_before question (declarer plan.den plan.rows) counts (plans_are_realised question plan counts valid proper)
    entry.history start rest parts choice.allowed choice.live).1

pub least_followed : LeastRepliesAreFollowed
least_followed question plan entry start move rest valid proper found parts theirs =
    let counts : ClassLayout = counts_at question entry.layout in
    let reply : Reply = reply_to_plan question plan counts in
    let listed = least_entry question plan entry found in
    let choice = (least_choices question plan entry valid found).1 in
    let live = least_reached question plan entry start (move ∷ rest) valid proper found parts in
    elim (chosen_before reply start move rest entry.history parts listed.1
    (class_histories_are_short question counts entry.history choice.allowed)
    (lt-int (plan_mass question plan start) live) theirs) [
      | inl chosen ↦ inl (subst (λ (other : ClassMove). Contains (least_reply question plan)
          (record { layout = entry.layout; history = start; mv = other }))
          chosen.1 (least_listed question plan entry.layout start listed.0 chosen.0))
      | inr alone ↦ inr (sym (moves_going question plan counts start (their_turn (class_after question start) theirs).0)
          ∙ alone)
    ]

-- ---- against a defence

pub most_reached : MostRepliesAreReached
unfolding defence_mass
most_reached question defence entry start rest valid proper found parts =
    let some = (most_choices question defence entry valid found).live in
    let held = allowing_parts question valid entry.history some.0 some.1 in
    let counts : ClassLayout = some.0.0 in
    let before = live_before question (defenders question defence.den defence.rows counts) counts
    (defences_are_realised question defence counts valid proper (layout_weighs question valid some.0 held.0))
    entry.history start rest parts held.1 some.2 in
    (some.0, Contains-allowing question valid start some.0 held.0 before.0, before.1)

pub most_followed : MostRepliesAreFollowed
most_followed question defence entry start move rest valid proper found parts own =
    let reply : Reply = reply_to_defence question defence in
    let listed = most_entry question defence entry found in
    let some = (most_choices question defence entry valid found).live in
    let held = allowing_parts question valid entry.history some.0 some.1 in
    let live = most_reached question defence entry start (move ∷ rest) valid proper found parts in
    elim (chosen_before reply start move rest entry.history parts listed.0
    (class_histories_are_short question some.0.0 entry.history held.1)
    (passing_some (λ (layout : ClassLayout × ℕ). int_lt (pos 0) (defence_mass question defence layout.0 start))
    (allowing_layouts question start) live.0 live.1
    (lt-int (defence_mass question defence live.0.0 start) live.2)) own) [
      | inl chosen ↦ inl (subst (λ (other : ClassMove). Contains (most_reply question defence)
          (record { history = start; mv = other })) chosen.1 (most_listed question defence start chosen.0))
      | inr alone ↦ inr alone
    ]
