-- The class histories at which best replies have a choice go past no decided position (`choices_past`), so that their
-- moves stand in the tree.
use Rattle.std.proofs.Common.{◌≡◌, ℕ, zero, suc, Bool, false, [], ◌∷◌, ◌++◌, sym, ap, ◌∙◌, subst}
use Rattle.std.specs.Prelude.{◌&&◌, Contains, length, filter, if◌then◌else◌}
use Rattle.std.specs.List.{AllByRecursion, range_with_len}
use Rattle.std.proofs.lemmas.List.{append-nil, append_assoc}
use Rattle.suit_lists.proofs.Elements.{Contains-same, each_at, each_gives}
use Rattle.suit_lists.proofs.Filters.{kept_parts}
use Rattle.suit_lists.proofs.FlatMaps.{each_flat_map, flat_map_from}
use Rattle.suit_lists.proofs.Maps.{Contains-map_from}
use Rattle.suit_game.specs.declared.question.Question.{Question}
use Rattle.suit_game.specs.Validity.{IsValid}
use Rattle.suit_game.specs.declared.limits.TheConstants.{MOST_MOVES}
use Rattle.suit_classes.specs.declared.class_moves.ClassMove.{ClassMove}
use Rattle.suit_classes.specs.WhatIsAllowed.{every_move}
use Rattle.suit_classes.specs.ClassMoves.{ClassHistory}
use Rattle.suit_classes.specs.ClassPlaces.{class_after, class_decided, class_moves}
use Rattle.suit_plans.specs.BestReplies.{Reply, choices, has_choice, histories_within, is_reached, most_reply}
use Rattle.suit_plans.specs.BestReplies.{least_reply, least_reply_in, reply_move, reply_to_defence, reply_to_plan}
use Rattle.suit_plans.specs.Properness.{some_allows}
use Rattle.suit_plans.specs.declared.defence.Defence.{Defence}
use Rattle.suit_plans.specs.declared.moves.DeclarerMove.{DeclarerMove}
use Rattle.suit_plans.specs.declared.moves.DefenceMove.{DefenceMove}
use Rattle.suit_plans.specs.declared.plan.Plan.{Plan}
use Rattle.suit_plans.specs.ReplyLaws.{counts_at}
use Rattle.suit_plans.proofs.PublicMoves.{layout_tells, own_moves_on, some_layout}
use Rattle.suit_plans.proofs.ReplyChoices.{least_choices, most_choices}
use Rattle.suit_plans.proofs.TurnMoves.{declarers_moves}
use Rattle.suit_tree.proofs.MovesOn.{unless_parts}
use Rattle.suit_program.specs.Supports.Marks.{GoesPastNone, IsOwnMove, IsTheirMove}
use Rattle.suit_program.specs.Supports.{layouts_of}
use Rattle.suit_program.proofs.lemmas.Walks.NodesBelow.{layout_at, layout_listed}

-- the moves of a reply go on from no decided position
abbrev pub GoesOnly : Question → Reply → Type 0
GoesOnly question reply = (history : ClassHistory) (move : ClassMove) → Contains (reply.moves history) move
    → class_decided (class_after question history) ≡ false

-- a class history goes on from another past no decided position
record IsOn (question : Question) (history later : ClassHistory) : Type 0 where
  pub path : ClassHistory
  pub parts : later ≡ history ++ path
  pub past : (start rest : ClassHistory) → path ≡ start ++ rest → (rest ≡ [] → ⊥)
      → class_decided (class_after question (history ++ start)) ≡ false

nothing_left : (start rest : ClassHistory) → [] ≡ start ++ rest → (rest ≡ [] → ⊥) → ⊥
nothing_left [] rest is some = some (sym is)
nothing_left (move ∷ start) rest is some = cc

module _ (question : Question) (reply : Reply) (only : GoesOnly question reply) where
  on_here : (history : ClassHistory) → IsOn question history history
  on_here history = record {
    path = [];
    parts = sym (append-nil history);
    past = λ start rest is some. absurd (nothing_left start rest is some);
  }

  on_first : (history : ClassHistory) (move : ClassMove) (path : ClassHistory)
      → class_decided (class_after question history) ≡ false
      → ((start rest : ClassHistory) → path ≡ start ++ rest → (rest ≡ [] → ⊥)
      → class_decided (class_after question ((history ++ move ∷ []) ++ start)) ≡ false)
      → (start rest : ClassHistory) → move ∷ path ≡ start ++ rest → (rest ≡ [] → ⊥)
      → class_decided (class_after question (history ++ start)) ≡ false
  on_first history move path going past [] rest is some =
      subst (λ (h : ClassHistory). class_decided (class_after question h) ≡ false) (sym (append-nil history)) going
  on_first history move path going past (first ∷ start) rest is some =
      let same : move ≡ first = cc in
      let later : path ≡ start ++ rest = cc in
      subst (λ (h : ClassHistory). class_decided (class_after question h) ≡ false)
      (append_assoc history (move ∷ []) start
      ∙ ap (λ (m : ClassMove). history ++ m ∷ start) same) (past start rest later some)

  all_on : (more : ℕ) (history : ClassHistory)
      → AllByRecursion (IsOn question history) (histories_within more reply history)
  unfolding histories_within
  all_on zero history = (on_here history, tt)
  all_on (suc more) history = (
    on_here history,
    each_flat_map (IsOn question history) (λ move. histories_within more reply (history ++ move ∷ []))
        (reply.moves history)
        (λ move found. each_gives (IsOn question (history ++ move ∷ [])) (IsOn question history)
        (histories_within more reply (history ++ move ∷ []))
        (λ later on. record {
          path = move ∷ on.path;
          parts = on.parts ∙ append_assoc history (move ∷ []) on.path;
          past = on_first history move on.path (only history move found) on.past;
        }) (all_on more (history ++ move ∷ []))),
  )

  -- the class histories at which a reply has a choice go past no decided position
  pub choices_past : (history : ClassHistory) → Contains (choices reply) history → GoesPastNone question history
  unfolding choices
  choices_past history found =
      let listed = (kept_parts (λ other. has_choice reply other && is_reached reply other)
      (histories_within MOST_MOVES reply []) history found).0 in
      let on = each_at (IsOn question []) (histories_within MOST_MOVES reply []) history
      (all_on MOST_MOVES []) listed in
      λ start rest is some. on.past start rest (sym on.parts ∙ is) some

module _ (question : Question) (valid : IsValid question) where
  -- so a move of declarer's best reply may be added
  pub own_reply_legal : (defence : Defence) (entry : DeclarerMove) → Contains (most_reply question defence) entry
      → IsOwnMove question entry
  unfolding most_reply
  own_reply_legal defence entry found =
      let reply : Reply = reply_to_defence question defence in
      let choice = most_choices question defence entry valid found in
      let from = Contains-map_from (λ (history : ClassHistory). record {
        history = history;
        mv = reply_move reply history;
      }) (choices reply) entry found in
      let layout = some_layout question valid entry.history choice.allowed in
      let view = class_after question entry.history in record {
        allowed = choice.allowed;
        past = choices_past question reply
            (λ history move there. (unless_parts (class_decided (class_after question history))
            (filter (λ other. some_allows question (history ++ other ∷ [])) every_move) move there).0) entry.history
            (subst (Contains (choices reply)) (ap (λ (other : DeclarerMove). other.history) from.2) from.1);
        turn = choice.turn;
        legal = Contains-same entry.mv
            (own_moves_on question valid entry.history choice.going layout.0 layout.1 choice.turn
            ∙ declarers_moves view layout.0.0 [] choice.turn
            ∙ sym (ap (λ (b : Bool). if b then [] else class_moves view []) choice.going)) choice.legal;
      }

  -- and one of the defence's
  pub their_reply_legal : (plan : Plan) (entry : DefenceMove) → Contains (least_reply question plan) entry
      → IsTheirMove question entry
  unfolding least_reply
  their_reply_legal plan entry found =
      let reply : ℕ → Reply = λ index. reply_to_plan question plan (layout_at question index).0 in
      let choice = least_choices question plan entry valid found in
      let from = flat_map_from (λ index. least_reply_in question plan (layout_at question index).0 index)
      (range_with_len 0 (length (layouts_of question))) entry found in
      let there = Contains-map_from (λ (history : ClassHistory). record {
        layout = from.0;
        history = history;
        mv = reply_move (reply from.0) history;
      }) (choices (reply from.0)) entry from.2 in
      let view = class_after question entry.history in record {
        listed = choice.0;
        allowed = (layout_tells question valid (layout_at question entry.layout) entry.history
            (layout_listed question entry.layout choice.0)).1 choice.1.allowed;
        past = choices_past question (reply from.0)
            (λ history move on. (unless_parts (class_decided (class_after question history))
            (class_moves (class_after question history) (layout_at question from.0).0) move on).0) entry.history
            (subst (Contains (choices (reply from.0))) (ap (λ (other : DefenceMove). other.history) there.2) there.1);
        turn = choice.1.turn;
        legal = Contains-same entry.mv
            (sym (ap (λ (b : Bool). if b then [] else class_moves view (counts_at question entry.layout))
            choice.1.going)) choice.1.legal;
      }
