-- Best replies: how the defence holds a plan to the least, and how declarer gets the most against a defence.
use Rattle.std.specs.Prelude.{ℕ, zero, suc, ◌-◌, ◌&&◌, nat_lt, Bool, true, List, [], ◌∷◌, ◌++◌, length, map, filter}
use Rattle.std.specs.Prelude.{get_or, if◌then◌else◌, ℤ, pos, ◌*ℤ◌, int_lt}
use Rattle.std.specs.Int.{int_min, int_max}
use Rattle.std.specs.List.{flat_map, list_any, range_with_len}
use Rattle.std.specs.Ordering.{int_eq}
use Rattle.suit_cards.specs.Cards.{ClassLayout}
use Rattle.suit_game.specs.declared.question.Question.{Question}
use Rattle.suit_game.specs.declared.limits.TheConstants.{MOST_MOVES}
use Rattle.suit_classes.specs.declared.class_moves.ClassMove.{ClassMove}
use Rattle.suit_classes.specs.declared.class_moves.ClassMove.TheVariants.{ShowOut}
use Rattle.suit_classes.specs.WhatIsAllowed.{allows, every_move}
use Rattle.suit_classes.specs.ClassMoves.{ClassHistory, same_class_move}
use Rattle.suit_classes.specs.ClassPlaces.{class_after, class_decided, class_moves, class_payoff, class_turn}
use Rattle.suit_classes.specs.Classes.{sizes_of}
use Rattle.suit_plans.specs.declared.moves.DeclarerMove.{DeclarerMove}
use Rattle.suit_plans.specs.declared.moves.DefenceMove.{DefenceMove}
use Rattle.suit_plans.specs.declared.plan.Plan.{Plan}
use Rattle.suit_plans.specs.declared.defence.Defence.{Defence}
use Rattle.suit_plans.specs.Masses.{is_declarers, is_defences, plan_mass, defence_mass}
use Rattle.suit_plans.specs.Properness.{some_allows, sum_of}
use Rattle.suit_layouts.specs.ClassLayouts.{class_layouts}

-- the play as one side meets it that replies to the rows of the other
pub record Reply : Type 0 where
  -- the moves with which a class history goes on, none where it is decided
  pub moves : ClassHistory → List ClassMove
  -- whether the side that replies is on turn
  pub replies : ClassHistory → Bool
  -- which worth it takes: the least or the most
  pub best : ℤ → ℤ → ℤ
  -- what a decided class history is worth
  pub earned : ClassHistory → ℤ
  -- whether any mass comes to a class history
  pub live : ClassHistory → Bool

-- the best of some worths
unfoldable pub best_of : (ℤ → ℤ → ℤ) → List ℤ → ℤ
best_of best [] = pos 0
best_of best (worth ∷ []) = worth
best_of best (worth ∷ next ∷ worths) = best worth (best_of best (next ∷ worths))

-- what a class history is worth where its moves are worth so much: what is earned where it has none, the best at a turn
-- of the side that replies, and else the sum
abbrev pub worth_at : Reply → ClassHistory → List ℤ → ℤ
worth_at reply history [] = reply.earned history
worth_at reply history (worth ∷ worths) = if reply.replies history then best_of reply.best (worth ∷ worths)
    else sum_of (worth ∷ worths)

-- what a class history is worth, which at most so many moves follow
unfoldable pub worth_within : ℕ → Reply → ClassHistory → ℤ
worth_within zero reply history = reply.earned history
worth_within (suc more) reply history =
    worth_at reply history (map (λ move. worth_within more reply (history ++ move ∷ [])) (reply.moves history))

-- what it is worth; no class history has more than MOST_MOVES moves
abbrev pub worth : Reply → ClassHistory → ℤ
worth reply history = worth_within (MOST_MOVES - length history) reply history

-- the first of some moves, and any move where there is none
abbrev pub first_of : List ClassMove → ClassMove
first_of [] = ShowOut
first_of (move ∷ moves) = move

-- the move of the reply: the first that is worth as much as the turn
unfoldable pub reply_move : Reply → ClassHistory → ClassMove
reply_move reply history = first_of
    (filter (λ move. int_eq (worth reply (history ++ move ∷ [])) (worth reply history)) (reply.moves history))

-- whether the moves that go on from a class history are, at the turns of the side that replies, those of the reply
unfoldable pub follows : Reply → ClassHistory → List ClassMove → Bool
follows reply history [] = true
follows reply history (move ∷ moves) =
    (if reply.replies history then same_class_move (reply_move reply history) move else true)
    && follows reply (history ++ move ∷ []) moves

-- whether a class history is reached
abbrev pub is_reached : Reply → ClassHistory → Bool
is_reached reply history = reply.live history && follows reply [] history

-- whether the side that replies has a choice there
abbrev pub has_choice : Reply → ClassHistory → Bool
has_choice reply history = reply.replies history && nat_lt 1 (length (reply.moves history))

-- a class history and those that go on from it by at most so many moves, in order
unfoldable pub histories_within : ℕ → Reply → ClassHistory → List ClassHistory
histories_within zero reply history = history ∷ []
histories_within (suc more) reply history =
    history ∷ flat_map (λ move. histories_within more reply (history ++ move ∷ [])) (reply.moves history)

-- the class histories that are reached and where there is a choice, in order
unfoldable pub choices : Reply → List ClassHistory
choices reply = filter (λ history. has_choice reply history
    && is_reached reply history) (histories_within MOST_MOVES reply [])

-- the defence in one class layout, replying to a plan
abbrev pub reply_to_plan : Question → Plan → ClassLayout → Reply
reply_to_plan question plan counts = record {
  moves = λ history. if class_decided (class_after question history) then []
      else class_moves (class_after question history) counts;
  replies = λ history. is_defences (class_turn (class_after question history));
  best = int_min;
  earned = λ history. pos (class_payoff (class_after question history)) *ℤ plan_mass question plan history;
  live = λ history. int_lt (pos 0) (plan_mass question plan history);
}

-- the class layouts of positive weight that allow a class history
abbrev pub allowing_layouts : Question → ClassHistory → List (ClassLayout × ℕ)
allowing_layouts question history =
    filter (λ (layout : ClassLayout × ℕ). allows question layout.0 history) (class_layouts question (sizes_of question))

-- the moves with which a class history goes on for who sees it alone: none where it is decided, else in order those
-- with which some class layout of positive weight allows it
abbrev pub public_moves : Question → ClassHistory → List ClassMove
public_moves question history =
    if class_decided (class_after question history) then []
    else filter (λ move. some_allows question (history ++ move ∷ [])) every_move

-- declarer, replying to a defence; he sees the class history alone
abbrev pub reply_to_defence : Question → Defence → Reply
reply_to_defence question defence = record {
  moves = λ history. public_moves question history;
  replies = λ history. is_declarers (class_turn (class_after question history));
  best = int_max;
  earned = λ history. sum_of (map (λ (layout : ClassLayout × ℕ). pos (class_payoff (class_after question history))
      *ℤ defence_mass question defence layout.0 history) (allowing_layouts question history));
  live = λ history. list_any (λ (layout : ClassLayout × ℕ). int_lt (pos 0)
      (defence_mass question defence layout.0 history))
      (allowing_layouts question history);
}

-- what a plan earns at least, not yet divided by its denominator and the total weight of the question
unfoldable pub least : Question → Plan → ℤ
least question plan = sum_of (map
    (λ (layout : ClassLayout × ℕ). pos layout.1 *ℤ worth (reply_to_plan question plan layout.0) [])
    (class_layouts question (sizes_of question)))

-- the best reply to a plan in the class layout at an index: its moves where it is reached and there is a choice
abbrev pub least_reply_in : Question → Plan → ClassLayout → ℕ → List DefenceMove
least_reply_in question plan counts index =
    map (λ history. record {
      layout = index;
      history = history;
      mv = reply_move (reply_to_plan question plan counts) history;
    }) (choices (reply_to_plan question plan counts))

-- the best reply to a plan, by class layouts
unfoldable pub least_reply : Question → Plan → List DefenceMove
least_reply question plan =
    flat_map (λ index. least_reply_in question plan (get_or (class_layouts question (sizes_of question)) index (
      [],
      0,
    )).0 index) (range_with_len 0 (length (class_layouts question (sizes_of question))))

-- what a defence lets declarer earn at most, not yet divided by its denominator and the total weight of the question
unfoldable pub most : Question → Defence → ℤ
most question defence = worth (reply_to_defence question defence) []

-- the best reply to a defence: its moves where it is reached and there is a choice
unfoldable pub most_reply : Question → Defence → List DeclarerMove
most_reply question defence =
    map (λ history. record { history = history; mv = reply_move (reply_to_defence question defence) history })
    (choices (reply_to_defence question defence))
