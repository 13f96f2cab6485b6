-- Of exactly which class histories a plan is told (`told_exactly`), and that they stand in order (`told_in_order`).
use Rattle.std.proofs.Common.{◌≡◌, ℕ, zero, suc, ◌<◌, ◌≤◌, Bool, true, false, List, [], ◌∷◌, ◌++◌, length, refl, sym}
use Rattle.std.proofs.Common.{ap, ◌∙◌, subst, arith, append-nil, append_assoc}
use Rattle.std.specs.Prelude.{Contains, filter, fold, ◌&&◌, not, nat_lt, if◌then◌else◌, ℤ, pos, ◌<ℤ◌, int_lt}
use Rattle.std.specs.List.{AllByRecursion, flat_map}
use Rattle.std.specs.Int.{int_max}
use Rattle.std.proofs.lemmas.Bool.{and_from, and_parts, lt-ltb, ltb-true, not_from_false}
use Rattle.std.proofs.lemmas.Int.{ints}
use Rattle.suit_lists.proofs.Chains.{Chained, chained_filter, chained_pairs, pairs_chained}
use Rattle.suit_lists.proofs.Elements.{Contains-first, Contains-later, Contains-nil, each_at}
use Rattle.suit_lists.proofs.Filters.{Contains-filter, kept_parts}
use Rattle.suit_lists.proofs.FlatMaps.{Contains-flat_map, each_flat_map, flat_map_alike}
use Rattle.suit_num.proofs.IntegerLaws.{int_lt-true}
use Rattle.suit_cards.specs.Cards.{ClassLayout}
use Rattle.suit_game.specs.declared.question.Question.{Question}
use Rattle.suit_game.specs.Validity.{IsValid}
use Rattle.suit_classes.specs.declared.class_moves.ClassMove.{ClassMove}
use Rattle.suit_classes.specs.WhatIsAllowed.{every_move}
use Rattle.suit_classes.specs.Classes.{sizes_of}
use Rattle.suit_classes.specs.ClassGame.{Allows}
use Rattle.suit_classes.specs.ClassMoves.{ClassHistory}
use Rattle.suit_classes.specs.ClassPlaces.{ClassView, class_after, class_decided, class_start, class_step}
use Rattle.suit_classes.specs.ClassPlaces.{class_turn}
use Rattle.suit_classes.specs.MoveOrder.{stands_before}
use Rattle.suit_classes.proofs.AllowedMoveByMove.{allowed_moves}
use Rattle.suit_classes.proofs.CountsAllowAsTold.{allows_before}
use Rattle.suit_classes.proofs.DecidedStaysDecided.{class_histories_are_short}
use Rattle.suit_classes.proofs.ClassMovesRise.{every_move_rises}
use Rattle.suit_classes.proofs.SmallCounts.{class_after_move}
use Rattle.suit_classes.proofs.AllowsOneMoveMore.{and-assoc, and-last}
use Rattle.suit_layouts.specs.ClassLayouts.{class_layouts}
use Rattle.suit_plans.specs.BestReplies.{Reply, histories_within, public_moves}
use Rattle.suit_plans.specs.Masses.{is_declarers, plan_mass}
use Rattle.suit_plans.specs.Orders.{history_before}
use Rattle.suit_plans.specs.Properness.{goes_undecided, some_allows}
use Rattle.suit_plans.specs.declared.plan.Plan.{Plan}
use Rattle.suit_plans.proofs.RepliesAreBounded.{some_allow_none}
use Rattle.suit_plans.proofs.ChoiceOrder.{chained_within}
use Rattle.suit_plans.proofs.PublicMoves.{Contains-allowing, Contains-public, allowing_parts, own_moves_on}
use Rattle.suit_plans.proofs.PublicMoves.{public_allowed, some_layout}
use Rattle.suit_plans.proofs.TurnMoves.{declarers_moves}
use Rattle.suit_game.specs.declared.limits.TheConstants.{MOST_MOVES}
use Rattle.suit_lines.specs.Histories.{class_histories, continued}
use Rattle.suit_lines.specs.LineLaws.{IsToBeTold, ToldExactly, ToldInOrder}
use Rattle.suit_lines.specs.Told.{is_told, told_histories}

-- ---- the class histories that are listed

-- a move that is made where play is not decided
undecided_push : (view : ClassView) (moves : List ClassMove) (move : ClassMove)
    → goes_undecided view (moves ++ move ∷ [])
    ≡ (goes_undecided view moves && not (class_decided (fold class_step view moves)))
unfolding goes_undecided
undecided_push view [] move = and-last (not (class_decided view))
undecided_push view (first ∷ moves) move =
    let next : ClassView = class_step view first in
    ap (λ (b : Bool). not (class_decided view) && b) (undecided_push next moves move)
    ∙ and-assoc (not (class_decided view)) (goes_undecided next moves)
    (not (class_decided (fold class_step next moves)))

move_made : (b : Bool) (moves : List ClassMove) (move : ClassMove) → Contains (if b then [] else moves) move
    → not b ≡ true
move_made true moves move found = absurd (Contains-nil move found)
move_made false moves move found = refl

undecided_is : (b : Bool) → not b ≡ true → b ≡ false
undecided_is true is = sym is
undecided_is false is = refl

module _ (question : Question) (valid : IsValid question) where
  -- a class history that some class layout allows and that goes past no decided position
  record IsListed (history : ClassHistory) : Type 0 where
    allowed : some_allows question history ≡ true
    going : goes_undecided (class_start question) history ≡ true

  listed_next : (history : ClassHistory) (move : ClassMove) → IsListed history
      → Contains (public_moves question history) move → IsListed (history ++ move ∷ [])
  listed_next history move listed found = record {
    allowed = public_allowed question valid history move found;
    going = undecided_push (class_start question) history move
        ∙ and_from (goes_undecided (class_start question) history) (not (class_decided (class_after question history)))
        listed.going
        (move_made (class_decided (class_after question history))
        (filter (λ other. some_allows question (history ++ other ∷ [])) every_move) move found);
  }

  -- only such are
  each_listed : (more : ℕ) (history : ClassHistory) → IsListed history
      → AllByRecursion IsListed (continued more question history)
  unfolding continued
  each_listed zero history listed = (listed, tt)
  each_listed (suc more) history listed = (
    listed,
    each_flat_map IsListed (λ move. continued more question (history ++ move ∷ [])) (public_moves question history)
        (λ move found. each_listed more (history ++ move ∷ []) (listed_next history move listed found)),
  )

  listed_first : IsListed []
  unfolding goes_undecided
  listed_first = record { allowed = some_allow_none question valid; going = refl }

  -- and all that a class layout allows
  module _ (layout : ClassLayout × ℕ) (found : Contains (class_layouts question (sizes_of question)) layout) where
    goes_on : (start : ClassHistory) (move : ClassMove) (rest : ClassHistory)
        → Allows question layout.0 (start ++ move ∷ rest) → class_decided (class_after question start) ≡ false
        → Contains (public_moves question start) move
    goes_on start move rest allows going =
        let next : Allows question layout.0 (start ++ move ∷ []) =
        allows_before question layout.0 (start ++ move ∷ []) rest
        (subst (Allows question layout.0) (sym (append_assoc start (move ∷ []) rest)) allows) in
        let parts = (allowed_moves question layout.0 start move).0 next in
        Contains-public question valid start going layout (Contains-allowing question valid start layout found parts.0)
        move parts.1

    all_listed : (more : ℕ) (start rest : ClassHistory) → length rest ≤ more
        → Allows question layout.0 (start ++ rest)
        → goes_undecided (class_after question start) rest ≡ true
        → Contains (continued more question start) (start ++ rest)
    unfolding continued goes_undecided
    all_listed zero start [] short allows going =
        subst (Contains (start ∷ [])) (sym (append-nil start)) (Contains-first start [])
    all_listed zero start (move ∷ rest) short allows going = absurd (omega (arith, short))
    all_listed (suc more) start [] short allows going =
        let piece : ClassMove → List ClassHistory = λ other. continued more question (start ++ other ∷ []) in
        subst (Contains (start ∷ flat_map piece (public_moves question start))) (sym (append-nil start))
        (Contains-first start (flat_map piece (public_moves question start)))
    all_listed (suc more) start (move ∷ rest) short allows going =
        let piece : ClassMove → List ClassHistory = λ other. continued more question (start ++ other ∷ []) in
        let view : ClassView = class_after question start in
        let parts = and_parts (not (class_decided view)) (goes_undecided (class_step view move) rest) going in
        let same : (start ++ move ∷ []) ++ rest ≡ start ++ move ∷ rest = append_assoc start (move ∷ []) rest in
        Contains-later start (flat_map piece (public_moves question start)) (start ++ move ∷ rest)
        (Contains-flat_map piece (public_moves question start) move (start ++ move ∷ rest)
        (goes_on start move rest allows (undecided_is (class_decided view) parts.0))
        (subst (Contains (piece move)) same
        (all_listed more (start ++ move ∷ []) rest (omega (arith, short))
        (subst (Allows question layout.0) (sym same) allows)
        (subst (λ (v : ClassView). goes_undecided v rest ≡ true)
        (sym (class_after_move question start move)) parts.1))))

  -- ---- those of which a plan is told

  module _ (plan : Plan) (history : ClassHistory) where
    abbrev choice : Bool
    choice = nat_lt 1 (length (public_moves question history))

    abbrev going_on : Bool
    going_on = not (class_decided (class_after question history))

    abbrev own : Bool
    own = is_declarers (class_turn (class_after question history))

    abbrev live : Bool
    live = int_lt (pos 0) (plan_mass question plan history)

    told_is : Contains (told_histories question plan) history → IsToBeTold question plan history
    unfolding told_histories class_histories
    told_is found =
        let kept = kept_parts (is_told question plan) (continued MOST_MOVES question []) history found in
        let listed = each_at IsListed (continued MOST_MOVES question []) history (each_listed MOST_MOVES [] listed_first) kept.0 in
        let last = and_parts (going_on && own && choice) live kept.1 in
        let third = and_parts (going_on && own) choice last.0 in
        let first = and_parts going_on own third.0 in
        let layout = some_layout question valid history listed.allowed in
        let parts = allowing_parts question valid history layout.0 layout.1 in
        let undecided = undecided_is (class_decided (class_after question history)) first.0 in
        record {
          allowed = record { layout = layout.0; listed = parts.0; allows = parts.1 };
          through = listed.going;
          undecided = undecided;
          turn = first.1;
          choice = λ counts. subst (λ (l : List ClassMove). 1 < length l)
              (own_moves_on question valid history undecided layout.0 layout.1 first.1
              ∙ declarers_moves (class_after question history) layout.0.0 counts first.1)
              (ltb-true 1 (length (public_moves question history)) third.1);
          live = int_lt-true (pos 0) (plan_mass question plan history) last.1;
        }

    is_live : (z : ℤ) → pos 0 <ℤ z → int_lt (pos 0) z ≡ true
    is_live z some = grind (arith, ints)

    is_to_told : IsToBeTold question plan history → Contains (told_histories question plan) history
    unfolding told_histories class_histories
    is_to_told told =
        let layout = told.allowed.layout in
        let held = Contains-allowing question valid history layout told.allowed.listed told.allowed.allows in
        Contains-filter (is_told question plan) (continued MOST_MOVES question []) history
        (all_listed layout told.allowed.listed MOST_MOVES [] history
        (class_histories_are_short question layout.0 history told.allowed.allows) told.allowed.allows told.through)
        (and_from (going_on && own && choice) live
        (and_from (going_on && own) choice
        (and_from going_on own (not_from_false (class_decided (class_after question history)) told.undecided) told.turn)
        (lt-ltb 1 (length (public_moves question history))
        (subst (λ (l : List ClassMove). 1 < length l)
        (sym (own_moves_on question valid history told.undecided layout held told.turn)) (told.choice layout.0))))
        (is_live (plan_mass question plan history) told.live))

pub told_exactly : ToldExactly
told_exactly question plan history valid =
    (told_is question valid plan history, is_to_told question valid plan history)

-- ---- their order

abbrev IsBefore : ClassMove → ClassMove → Type 0
IsBefore here there = stands_before here there ≡ true

abbrev IsEarlier : ClassHistory → ClassHistory → Type 0
IsEarlier here there = history_before here there ≡ true

unless : (b : Bool) (moves : List ClassMove) → Chained IsBefore moves → Chained IsBefore (if b then [] else moves)
unfolding Chained
unless true moves chain = tt
unless false moves chain = chain

-- the play as it is seen, where nobody replies
abbrev seen_play : Question → Reply
seen_play question = record {
  moves = public_moves question;
  replies = λ history. false;
  best = int_max;
  earned = λ history. pos 0;
  live = λ history. false;
}

continued_within : (more : ℕ) (question : Question) (history : ClassHistory)
    → continued more question history ≡ histories_within more (seen_play question) history
unfolding continued histories_within
continued_within zero question history = refl
continued_within (suc more) question history =
    ap (λ (l : List ClassHistory). history ∷ l)
    (flat_map_alike (λ move. continued more question (history ++ move ∷ []))
    (λ move. histories_within more (seen_play question) (history ++ move ∷ [])) (public_moves question history)
    (λ move. continued_within more question (history ++ move ∷ [])))

moves_chained : (question : Question) (history : ClassHistory) → Chained IsBefore (public_moves question history)
moves_chained question history =
    unless (class_decided (class_after question history))
    (filter (λ move. some_allows question (history ++ move ∷ [])) every_move)
    (chained_filter IsBefore (λ move. some_allows question (history ++ move ∷ [])) every_move
    (pairs_chained IsBefore every_move every_move_rises))

pub told_in_order : ToldInOrder
unfolding told_histories class_histories
told_in_order question plan =
    chained_pairs IsEarlier (filter (is_told question plan) (continued MOST_MOVES question []))
    (chained_filter IsEarlier (is_told question plan) (continued MOST_MOVES question [])
    (subst (Chained IsEarlier) (sym (continued_within MOST_MOVES question []))
    (chained_within (seen_play question) (moves_chained question) MOST_MOVES [])))
