-- The entries of a best reply are choices of its side, and its move there is one of the moves (`least_choices`,
-- `most_choices`).
use Rattle.std.proofs.Common.{◌≡◌, ◌⊎◌, ℕ, zero, suc, ◌<◌, Bool, true, false, cond, List, [], ◌∷◌, ◌++◌, length, get_or}
use Rattle.std.proofs.Common.{refl, sym, ap, ◌∙◌, subst, inl, inr, arith}
use Rattle.std.specs.Prelude.{Contains, ◌&&◌, filter, nat_lt, ℤ, pos, int_lt}
use Rattle.std.specs.List.{AllByRecursion, flat_map, range_with_len}
use Rattle.std.specs.Ordering.{int_eq}
use Rattle.std.proofs.lemmas.Bool.{and_parts, false≢true, ltb-true}
use Rattle.std.proofs.lemmas.Bool.Decides.{Decides-int_eq}
use Rattle.std.proofs.lemmas.List.Elements.{All-contains, Contains-get_or}
use Rattle.suit_lists.proofs.Elements.{Contains-cons_cases, Contains-first, Contains-later, Contains-nil, Contains-same}
use Rattle.suit_lists.proofs.Elements.{Contains-unless, each_at, each_in}
use Rattle.suit_lists.proofs.Filters.{kept_parts}
use Rattle.suit_lists.proofs.Firsts.{HasFirst, HasFirst-many}
use Rattle.suit_lists.proofs.FlatMaps.{Contains-flat_map, each_flat_map}
use Rattle.suit_lists.proofs.Maps.{Contains-map, Contains-map_from}
use Rattle.suit_lists.proofs.Tests.{some_passing}
use Rattle.suit_lists.proofs.Walks.{Contains-range}
use Rattle.suit_cards.specs.Cards.{ClassLayout}
use Rattle.suit_num.proofs.IntegerLaws.{int_lt-true}
use Rattle.suit_game.specs.declared.question.Question.{Question}
use Rattle.suit_game.specs.Validity.{IsValid}
use Rattle.suit_classes.specs.declared.class_moves.ClassMove.{ClassMove}
use Rattle.suit_classes.specs.Classes.{sizes_of}
use Rattle.suit_classes.specs.ClassGame.{Allows}
use Rattle.suit_classes.specs.ClassMoves.{ClassHistory}
use Rattle.suit_classes.specs.ClassPlaces.{class_after, class_decided, class_moves}
use Rattle.suit_classes.proofs.AllowedMoveByMove.{allowed_moves}
use Rattle.suit_classes.proofs.DefenceSizes.{range_below}
use Rattle.suit_layouts.specs.ClassLayouts.{class_layouts}
use Rattle.suit_plans.specs.declared.moves.DeclarerMove.{DeclarerMove}
use Rattle.suit_plans.specs.declared.moves.DefenceMove.{DefenceMove}
use Rattle.suit_plans.specs.declared.plan.Plan.{Plan}
use Rattle.suit_plans.specs.declared.defence.Defence.{Defence}
use Rattle.suit_plans.specs.BestReplies.{Reply, allowing_layouts, best_of, choices, first_of, follows, has_choice}
use Rattle.suit_plans.specs.BestReplies.{histories_within, is_reached, least_reply, least_reply_in, most_reply}
use Rattle.suit_plans.specs.BestReplies.{public_moves, reply_move, reply_to_defence, reply_to_plan, worth}
use Rattle.suit_plans.specs.Masses.{defence_mass, plan_mass}
use Rattle.suit_plans.specs.Properness.{some_allows}
use Rattle.suit_plans.specs.ReplyLaws.{IsDeclarerChoice, IsDefenceChoice, LeastRepliesAreChoices, MostRepliesAreChoices}
use Rattle.suit_plans.specs.ReplyLaws.{counts_at, worths_with}
use Rattle.suit_plans.proofs.AllowedSoFar.{start_allows}
use Rattle.suit_plans.proofs.RepliesAreBounded.{some_allow_none}
use Rattle.suit_plans.proofs.DefenceWorths.{room as defence_room}
use Rattle.suit_plans.proofs.PlanWorths.{moves_going, room as plan_room}
use Rattle.suit_plans.proofs.PublicMoves.{layout_weighs, public_allowed}
use Rattle.suit_plans.proofs.WhoseTurns.{own_turn, their_turn}
use Rattle.suit_plans.proofs.WorthsAtTurns.{best_attained, best_turn, max_picks, min_picks}
use Rattle.suit_game.specs.declared.limits.TheConstants.{MOST_MOVES}

-- ---- the class histories of a reply

module _ (Fits : ClassHistory → Type 0) (reply : Reply)
    (goes_on : (history : ClassHistory) (move : ClassMove) → Fits history → Contains (reply.moves history) move
    → Fits (history ++ move ∷ [])) where
  -- what goes on with the moves of a reply holds of all class histories from one on
  each_within : (more : ℕ) (history : ClassHistory) → Fits history
      → AllByRecursion Fits (histories_within more reply history)
  unfolding histories_within
  each_within zero history fits = (fits, tt)
  each_within (suc more) history fits = (
    fits,
    each_flat_map Fits (λ move. histories_within more reply (history ++ move ∷ [])) (reply.moves history)
        (λ move found. each_within more (history ++ move ∷ []) (goes_on history move fits found)),
  )

  -- so it holds of the choices, which are reached and have a choice
  pub choice_parts : Fits [] → (history : ClassHistory) → Contains (choices reply) history
      → Fits history × (has_choice reply history ≡ true) × (is_reached reply history ≡ true)
  unfolding choices
  choice_parts starts history found =
      let kept = kept_parts (λ (other : ClassHistory). has_choice reply other
      && is_reached reply other) (histories_within MOST_MOVES reply []) history found in
      let parts = and_parts (has_choice reply history) (is_reached reply history) kept.1 in
      (each_at Fits (histories_within MOST_MOVES reply []) history (each_within MOST_MOVES [] starts) kept.0, parts.0, parts.1)

-- ---- the move of a reply

first_case : (b : Bool) (move : ClassMove) (kept moves : List ClassMove) → (b ≡ false → Contains moves (first_of kept))
    → Contains (move ∷ moves) (first_of (cond b (move ∷ kept) kept))
first_case true move kept moves later = Contains-first move moves
first_case false move kept moves later = Contains-later move moves (first_of kept) (later refl)

-- the first that passes is one of some moves of which one passes
first_passing : (test : ClassMove → Bool) (moves : List ClassMove) (move : ClassMove) → Contains moves move
    → test move ≡ true → Contains moves (first_of (filter test moves))
first_passing test [] move found passes = absurd (Contains-nil move found)
first_passing test (first ∷ moves) move found passes =
    first_case (test first) first (filter test moves) moves
    (λ fails. elim (Contains-cons_cases first moves move found) [
      | inl here ↦ absurd (false≢true (sym fails ∙ ap test here ∙ passes))
      | inr there ↦ first_passing test moves move there passes
    ])

-- it is one of the moves at each turn of its side
pub reply_move_found : (reply : Reply) (history : ClassHistory)
    → ((one other : ℤ) → (reply.best one other ≡ one) ⊎ (reply.best one other ≡ other))
    → length history < MOST_MOVES → (some : HasFirst (reply.moves history)) → reply.replies history ≡ true
    → Contains (reply.moves history) (reply_move reply history)
unfolding reply_move
reply_move_found reply history picks short some own =
    let worths : List ClassMove → List ℤ = worths_with reply history in
    let turn : worth reply history ≡ best_of reply.best (worths (reply.moves history)) =
    best_turn reply history short some own in
    let attained : Contains (worths (reply.moves history)) (best_of reply.best (worths (reply.moves history))) =
    subst (λ (l : List ClassMove). Contains (worths l) (best_of reply.best (worths l))) (sym some.parts)
    (best_attained reply.best picks (worth reply (history ++ some.first ∷ [])) (worths some.more)) in
    let from = Contains-map_from (λ move. worth reply (history ++ move ∷ [])) (reply.moves history)
    (best_of reply.best (worths (reply.moves history))) attained in
    first_passing (λ move. int_eq (worth reply (history ++ move ∷ [])) (worth reply history)) (reply.moves history)
    from.0 from.1
    ((Decides-int_eq (worth reply (history ++ from.0 ∷ [])) (worth reply history)).1 (from.2 ∙ sym turn))

-- ---- against a plan

plan_choice : (question : Question) (plan : Plan) (counts : ClassLayout) (history : ClassHistory)
    → Allows question counts []
    → Contains (choices (reply_to_plan question plan counts)) history
    → IsDefenceChoice question plan counts history (reply_move (reply_to_plan question plan counts) history)
plan_choice question plan counts history starts found =
    let reply : Reply = reply_to_plan question plan counts in
    let legal : ClassHistory → List ClassMove = λ other. class_moves (class_after question other) counts in
    let parts = choice_parts (Allows question counts) reply
    (λ other move allows there. (allowed_moves question counts other move).1 (
      allows,
      Contains-unless (class_decided (class_after question other)) (legal other) move there,
    ))
    starts history found in
    let chosen = and_parts (reply.replies history) (nat_lt 1 (length (reply.moves history))) parts.1 in
    let reached = and_parts (reply.live history) (follows reply [] history) parts.2 in
    let going = (their_turn (class_after question history) chosen.0).0 in
    let same : reply.moves history ≡ legal history = moves_going question plan counts history going in
    let many : 1 < length (reply.moves history) = ltb-true 1 (length (reply.moves history)) chosen.1 in
    record {
      allowed = parts.0;
      going = going;
      turn = chosen.0;
      many = subst (λ (l : List ClassMove). 1 < length l) same many;
      legal = Contains-same (reply_move reply history) same
          (reply_move_found reply history min_picks (plan_room question plan counts history parts.0 going)
          (HasFirst-many (reply.moves history) many) chosen.0);
      live = int_lt-true (pos 0) (plan_mass question plan history) reached.0;
    }

-- the move of the best reply to a plan at a class history, in the class layout at an index
abbrev named_in : Question → Plan → ℕ → ClassHistory → DefenceMove
named_in question plan index history = record {
  layout = index;
  history = history;
  mv = reply_move (reply_to_plan question plan (counts_at question index)) history;
}

-- an entry of the best reply to a plan is its move at one of its choices, in the class layout with this index
pub least_entry : (question : Question) (plan : Plan) (entry : DefenceMove) → Contains (least_reply question plan) entry
    → (entry.layout < length (class_layouts question (sizes_of question)))
    × Contains (choices (reply_to_plan question plan (counts_at question entry.layout))) entry.history
    × (reply_move (reply_to_plan question plan (counts_at question entry.layout)) entry.history ≡ entry.mv)
unfolding least_reply
least_entry question plan entry found =
    let layouts : List (ClassLayout × ℕ) = class_layouts question (sizes_of question) in
    let reply_in : ℕ → Reply = λ index. reply_to_plan question plan (counts_at question index) in
    let piece : ℕ → List DefenceMove = λ index. least_reply_in question plan (counts_at question index) index in
    let IsEntry : DefenceMove → Type 0 = λ (other : DefenceMove). (other.layout < length layouts)
    × Contains (choices (reply_in other.layout)) other.history
    × (reply_move (reply_in other.layout) other.history ≡ other.mv) in
    each_at IsEntry (flat_map piece (range_with_len 0 (length layouts))) entry
    (each_flat_map IsEntry piece (range_with_len 0 (length layouts))
    (λ index listed.
    let below : index < length layouts =
    All-contains (λ (k : ℕ). k < length layouts) (range_with_len 0 (length layouts)) index
    (range_below (length layouts)) listed in
    each_in IsEntry (piece index)
    (λ other there.
    let from = Contains-map_from (named_in question plan index) (choices (reply_in index)) other there in
    subst IsEntry from.2 (below, from.1, refl))))
    found

-- and each is listed
pub least_listed : (question : Question) (plan : Plan) (index : ℕ) (history : ClassHistory)
    → index < length (class_layouts question (sizes_of question))
    → Contains (choices (reply_to_plan question plan (counts_at question index))) history
    → Contains (least_reply question plan) (named_in question plan index history)
unfolding least_reply
least_listed question plan index history below found =
    let many : ℕ = length (class_layouts question (sizes_of question)) in
    Contains-flat_map (λ other. least_reply_in question plan (counts_at question other) other) (range_with_len 0 many)
    index (named_in question plan index history)
    (Contains-range 0 many index (omega arith) (omega (arith, below)))
    (Contains-map (named_in question plan index) (choices (reply_to_plan question plan (counts_at question index)))
    history found)

pub least_choices : LeastRepliesAreChoices
least_choices question plan entry valid found =
    let listed = least_entry question plan entry found in
    let counts : ClassLayout = counts_at question entry.layout in
    let starts = start_allows question counts valid
    (layout_weighs question valid (get_or (class_layouts question (sizes_of question)) entry.layout ([], 0))
    (Contains-get_or (class_layouts question (sizes_of question)) entry.layout ([], 0) listed.0)) in (
      listed.0,
      subst (IsDefenceChoice question plan counts entry.history) listed.2
          (plan_choice question plan counts entry.history starts listed.1),
    )

-- ---- against a defence

defence_choice : (question : Question) (defence : Defence) (history : ClassHistory) → IsValid question
    → Contains (choices (reply_to_defence question defence)) history
    → IsDeclarerChoice question defence history (reply_move (reply_to_defence question defence) history)
defence_choice question defence history valid found =
    let reply : Reply = reply_to_defence question defence in
    let parts = choice_parts (λ other. some_allows question other
    ≡ true) reply (λ other move allows there. public_allowed question valid other move there)
    (some_allow_none question valid) history found in
    let chosen = and_parts (reply.replies history) (nat_lt 1 (length (reply.moves history))) parts.1 in
    let reached = and_parts (reply.live history) (follows reply [] history) parts.2 in
    let going = (own_turn (class_after question history) chosen.0).0 in
    let many : 1 < length (public_moves question history) =
    ltb-true 1 (length (public_moves question history)) chosen.1 in
    let some = some_passing (λ (layout : ClassLayout × ℕ). int_lt (pos 0)
    (defence_mass question defence layout.0 history))
    (allowing_layouts question history) reached.0 in
    record {
      allowed = parts.0;
      going = going;
      turn = chosen.0;
      many = many;
      legal = reply_move_found reply history max_picks (defence_room question defence valid history parts.0 going)
          (HasFirst-many (public_moves question history) many) chosen.0;
      live = (some.0, some.1, int_lt-true (pos 0) (defence_mass question defence some.0.0 history) some.2);
    }

-- the move of the best reply to a defence at a class history
abbrev named : Question → Defence → ClassHistory → DeclarerMove
named question defence history =
    record { history = history; mv = reply_move (reply_to_defence question defence) history }

-- an entry of the best reply to a defence is its move at one of its choices
pub most_entry : (question : Question) (defence : Defence) (entry : DeclarerMove)
    → Contains (most_reply question defence) entry
    → Contains (choices (reply_to_defence question defence)) entry.history
    × (reply_move (reply_to_defence question defence) entry.history ≡ entry.mv)
unfolding most_reply
most_entry question defence entry found =
    let reply : Reply = reply_to_defence question defence in
    let from = Contains-map_from (named question defence) (choices reply) entry found in
    subst (λ (other : DeclarerMove). Contains (choices reply) other.history
    × (reply_move reply other.history ≡ other.mv)) from.2 (from.1, refl)

-- and each is listed
pub most_listed : (question : Question) (defence : Defence) (history : ClassHistory)
    → Contains (choices (reply_to_defence question defence)) history
    → Contains (most_reply question defence) (named question defence history)
unfolding most_reply
most_listed question defence history found =
    Contains-map (named question defence) (choices (reply_to_defence question defence)) history found

pub most_choices : MostRepliesAreChoices
most_choices question defence entry valid found =
    let listed = most_entry question defence entry found in
    subst (IsDeclarerChoice question defence entry.history) listed.1
    (defence_choice question defence entry.history valid listed.0)
