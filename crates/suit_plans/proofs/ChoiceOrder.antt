-- The choices of a best reply stand in the order of their class histories (`plan_choices_rise`,
-- `defence_choices_rise`), and so the entries of its list do (`least_rises`, `most_rises`).
use Rattle.std.proofs.Common.{◌≡◌, ℕ, zero, suc, ◌+◌, ◌<◌, ◌≤◌, Bool, true, false, List, [], ◌∷◌, ◌++◌, length, refl}
use Rattle.std.proofs.Common.{sym}
use Rattle.std.proofs.Common.{◌∙◌, subst, arith, append-nil, append_assoc}
use Rattle.std.specs.Prelude.{Contains, ◌&&◌, ◌==◌, filter, nat_lt, if◌then◌else◌}
use Rattle.std.specs.List.{AllByRecursion, flat_map, range_with_len}
use Rattle.std.proofs.lemmas.Bool.{and_from, eq-eqb, lt-ltb, or_left, or_right}
use Rattle.std.proofs.lemmas.List.FromFn.{get_or-range_with_len, length-range_with_len}
use Rattle.suit_lists.proofs.Chains.{Chained, chained_append, chained_filter, chained_map, chained_pairs, pairs_chained}
use Rattle.suit_lists.proofs.Elements.{each_at, each_gives, each_of}
use Rattle.suit_lists.proofs.FlatMaps.{each_flat_map}
use Rattle.suit_lists.proofs.Maps.{each_map}
use Rattle.suit_cards.specs.Cards.{Indices}
use Rattle.suit_game.specs.declared.question.Question.{Question}
use Rattle.suit_classes.specs.declared.class_moves.ClassMove.{ClassMove}
use Rattle.suit_classes.specs.WhatIsAllowed.{every_move}
use Rattle.suit_classes.specs.ClassMoves.{ClassHistory, same_class_move}
use Rattle.suit_classes.specs.MoveOrder.{stands_before}
use Rattle.suit_classes.specs.Classes.{sizes_of}
use Rattle.suit_classes.specs.ClassPlaces.{class_after, class_decided, class_moves}
use Rattle.suit_classes.proofs.ClassMovesRise.{class_moves_rise, every_move_rises}
use Rattle.suit_classes.proofs.SameMoves.{same_move-itself}
use Rattle.suit_layouts.specs.ClassLayouts.{class_layouts}
use Rattle.suit_plans.specs.declared.plan.Plan.{Plan}
use Rattle.suit_plans.specs.declared.moves.DeclarerMove.{DeclarerMove}
use Rattle.suit_plans.specs.declared.moves.DefenceMove.{DefenceMove}
use Rattle.suit_plans.specs.BestReplies.{Reply, choices, has_choice, histories_within, is_reached, least_reply}
use Rattle.suit_plans.specs.BestReplies.{least_reply_in, most_reply, reply_move, reply_to_defence, reply_to_plan}
use Rattle.suit_plans.specs.Orders.{InOrder, history_before, is_earlier}
use Rattle.suit_plans.specs.Properness.{some_allows}
use Rattle.suit_plans.specs.ReplyLaws.{DefenceChoicesRise, LeastRepliesRise, MostRepliesRise, PlanChoicesRise}
use Rattle.suit_plans.specs.ReplyLaws.{counts_at}
use Rattle.suit_plans.specs.ReplyLaws.{defence_move_before}
use Rattle.suit_plans.proofs.HistoryOrder.{IsStrict-moves, earlier-start}
use Rattle.suit_game.specs.declared.limits.TheConstants.{MOST_MOVES}

abbrev IsBefore : ClassMove → ClassMove → Type 0
IsBefore here there = stands_before here there ≡ true

abbrev IsEarlier : ClassHistory → ClassHistory → Type 0
IsEarlier here there = history_before here there ≡ true

-- histories that part at a move stand as these moves do
parted : (start : ClassHistory) (move other : ClassMove) (rest later : ClassHistory) → IsBefore move other
    → IsEarlier (start ++ move ∷ rest) (start ++ other ∷ later)
unfolding is_earlier
parted [] move other rest later before =
    or_left (stands_before move other) (same_class_move move other
    && is_earlier stands_before same_class_move rest later) before
parted (first ∷ start) move other rest later before =
    or_right (stands_before first first) (same_class_move first first
    && is_earlier stands_before same_class_move (start ++ move ∷ rest) (start ++ other ∷ later))
    (and_from (same_class_move first first) (is_earlier stands_before same_class_move (start ++ move ∷ rest) (start
    ++ other ∷ later))
    (same_move-itself first) (parted start move other rest later before))

-- a class history begins with another
abbrev BeginsWith : ClassHistory → ClassHistory → Type 0
BeginsWith start history = (rest : ClassHistory) × (history ≡ start ++ rest)

-- one that begins with a history and a move goes on from the history with the move
gone_on : (start : ClassHistory) (move : ClassMove) (history : ClassHistory)
    (begins : BeginsWith (start ++ move ∷ []) history) → history ≡ start ++ move ∷ begins.0
gone_on start move history begins = begins.1 ∙ append_assoc start (move ∷ []) begins.0

module _ (reply : Reply) (rises : (history : ClassHistory) → Chained IsBefore (reply.moves history)) where
  -- the class histories from one on begin with it
  each_begins : (more : ℕ) (history : ClassHistory)
      → AllByRecursion (BeginsWith history) (histories_within more reply history)
  unfolding histories_within
  each_begins zero history = (([], sym (append-nil history)), tt)
  each_begins (suc more) history = (
    ([], sym (append-nil history)),
    each_flat_map (BeginsWith history) (λ move. histories_within more reply (history ++ move ∷ []))
        (reply.moves history)
        (λ move found. each_gives (BeginsWith (history ++ move ∷ [])) (BeginsWith history)
        (histories_within more reply (history ++ move ∷ []))
        (λ later begins. (move ∷ begins.0, gone_on history move later begins))
        (each_begins more (history ++ move ∷ []))),
  )

  -- those with one move stand before those with a later one
  pieces_chained : (more : ℕ) (history : ClassHistory) (moves : List ClassMove) → Chained IsBefore moves
      → ((move : ClassMove) → Chained IsEarlier (histories_within more reply (history ++ move ∷ [])))
      → Chained IsEarlier (flat_map (λ move. histories_within more reply (history ++ move ∷ [])) moves)
  unfolding Chained
  pieces_chained more history [] chain each = tt
  pieces_chained more history (move ∷ moves) chain each =
      let piece : ClassMove → List ClassHistory = λ other. histories_within more reply (history ++ other ∷ []) in
      chained_append IsEarlier (piece move) (flat_map piece moves) (each move)
      (pieces_chained more history moves chain.1 each)
      (each_gives (BeginsWith (history ++ move ∷ [])) (λ here. AllByRecursion (IsEarlier here) (flat_map piece moves))
      (piece move)
      (λ here begins. each_flat_map (IsEarlier here) piece moves
      (λ other found. each_gives (BeginsWith (history ++ other ∷ [])) (IsEarlier here) (piece other)
      (λ there later.
      subst (λ (h : ClassHistory). IsEarlier h there) (sym (gone_on history move here begins))
      (subst (λ (h : ClassHistory). IsEarlier (history ++ move ∷ begins.0) h) (sym (gone_on history other there later))
      (parted history move other begins.0 later.0 (each_at (IsBefore move) moves other chain.0 found))))
      (each_begins more (history ++ other ∷ []))))
      (each_begins more (history ++ move ∷ [])))

  -- so all stand in order
  pub chained_within : (more : ℕ) (history : ClassHistory) → Chained IsEarlier (histories_within more reply history)
  unfolding histories_within Chained
  chained_within zero history = (tt, tt)
  chained_within (suc more) history = (
    each_flat_map (IsEarlier history) (λ move. histories_within more reply (history ++ move ∷ [])) (reply.moves history)
        (λ move found. each_gives (BeginsWith (history ++ move ∷ [])) (IsEarlier history)
        (histories_within more reply (history ++ move ∷ []))
        (λ later begins. subst (λ (h : ClassHistory). IsEarlier history h) (sym (gone_on history move later begins))
        (earlier-start stands_before same_class_move history move begins.0 IsStrict-moves))
        (each_begins more (history ++ move ∷ []))),
    pieces_chained more history (reply.moves history) (rises history) (λ move. chained_within more (history ++ move
        ∷ [])),
  )

  -- and the choices among them
  choices_rise : InOrder history_before (choices reply)
  unfolding choices
  choices_rise =
      let chosen : ClassHistory → Bool = λ history. has_choice reply history && is_reached reply history in
      chained_pairs IsEarlier (filter chosen (histories_within MOST_MOVES reply []))
      (chained_filter IsEarlier chosen (histories_within MOST_MOVES reply []) (chained_within MOST_MOVES []))

unless : (b : Bool) (moves : List ClassMove) → Chained IsBefore moves → Chained IsBefore (if b then [] else moves)
unfolding Chained
unless true moves chain = tt
unless false moves chain = chain

pub plan_choices_rise : PlanChoicesRise
plan_choices_rise question plan counts =
    choices_rise (reply_to_plan question plan counts)
    (λ history. unless (class_decided (class_after question history))
    (class_moves (class_after question history) counts)
    (pairs_chained IsBefore (class_moves (class_after question history) counts)
    (class_moves_rise (class_after question history) counts)))

pub defence_choices_rise : DefenceChoicesRise
defence_choices_rise question defence =
    choices_rise (reply_to_defence question defence)
    (λ history. unless (class_decided (class_after question history))
    (filter (λ move. some_allows question (history ++ move ∷ [])) every_move)
    (chained_filter IsBefore (λ move. some_allows question (history ++ move ∷ [])) every_move
    (pairs_chained IsBefore every_move every_move_rises)))

-- ---- the lists

abbrev IsEntryBefore : DefenceMove → DefenceMove → Type 0
IsEntryBefore here there = defence_move_before here there ≡ true

module _ (question : Question) (plan : Plan) where
  abbrev reply_in : ℕ → Reply
  reply_in index = reply_to_plan question plan (counts_at question index)

  abbrev named_in : ℕ → ClassHistory → DefenceMove
  named_in index history =
      record { layout = index; history = history; mv = reply_move (reply_in index) history }

  -- the entries in one class layout
  abbrev entries_in : ℕ → List DefenceMove
  entries_in index = least_reply_in question plan (counts_at question index) index

  in_one : (index : ℕ) → Chained IsEntryBefore (entries_in index)
  in_one index =
      chained_map IsEarlier IsEntryBefore (named_in index) (choices (reply_in index))
      (λ here there earlier. or_right (nat_lt index index) (index == index && history_before here there)
      (and_from (index == index) (history_before here there) (eq-eqb index index refl) earlier))
      (pairs_chained IsEarlier (choices (reply_in index))
      (plan_choices_rise question plan (counts_at question index)))

  above : (start count index : ℕ) → Contains (range_with_len start count) index → start ≤ index
  above start count index found =
      let few : found.0 < count = omega (arith, found.1, length-range_with_len start count) in
      omega (arith, get_or-range_with_len start count found.0 index few, found.2)

  -- those in class layouts that follow each other
  in_more : (count start : ℕ) → Chained IsEntryBefore (flat_map entries_in (range_with_len start count))
  unfolding Chained
  in_more zero start = tt
  in_more (suc count) start =
      let others : Indices = range_with_len (start + 1) count in
      let rest : List DefenceMove = flat_map entries_in others in
      let Precedes : DefenceMove → Type 0 = λ here. AllByRecursion (IsEntryBefore here) rest in
      chained_append IsEntryBefore (entries_in start) rest (in_one start) (in_more count (start + 1))
      (each_map Precedes (named_in start) (choices (reply_in start))
      (each_of (λ history. Precedes (named_in start history)) (choices (reply_in start))
      (λ history. each_flat_map (IsEntryBefore (named_in start history)) entries_in others
      (λ index found. each_map (IsEntryBefore (named_in start history)) (named_in index) (choices (reply_in index))
      (each_of (λ later. IsEntryBefore (named_in start history) (named_in index later)) (choices (reply_in index))
      (λ later. or_left (nat_lt start index) (start == index && history_before history later)
      (lt-ltb start index (omega (arith, above (start + 1) count index found)))))))))

pub least_rises : LeastRepliesRise
unfolding least_reply
least_rises question plan =
    chained_pairs IsEntryBefore (least_reply question plan)
    (in_more question plan (length (class_layouts question (sizes_of question))) 0)

pub most_rises : MostRepliesRise
unfolding most_reply
most_rises question defence =
    let reply : Reply = reply_to_defence question defence in
    let Precedes : DeclarerMove → DeclarerMove → Type 0 =
    λ here there. history_before here.history there.history ≡ true in
    chained_pairs Precedes (most_reply question defence)
    (chained_map IsEarlier Precedes (λ history. record { history = history; mv = reply_move reply history })
    (choices reply) (λ here there earlier. earlier)
    (pairs_chained IsEarlier (choices reply) (defence_choices_rise question defence)))
