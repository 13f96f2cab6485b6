-- What best replies are worth at each turn and within which bounds, what the entries of their lists are, and in what
-- order they stand.
use Rattle.std.specs.Prelude.{◌⊎◌, ◌≡◌, ℕ, ◌<◌, ◌==◌, ◌&&◌, ◌||◌, nat_lt, Bool, true, false, List, [], ◌∷◌, ◌++◌}
use Rattle.std.specs.Prelude.{length, map, get_or, Contains, ℤ, pos, ◌*ℤ◌, ◌≤ℤ◌, ◌<ℤ◌}
use Rattle.suit_cards.specs.Cards.{ClassLayout}
use Rattle.suit_game.specs.declared.question.Question.{Question}
use Rattle.suit_game.specs.Validity.{IsValid}
use Rattle.suit_game.specs.declared.limits.TheConstants.{HAND_SIZE, MOST_MOVES}
use Rattle.suit_classes.specs.declared.class_moves.ClassMove.{ClassMove}
use Rattle.suit_classes.specs.Classes.{sizes_of}
use Rattle.suit_classes.specs.ClassGame.{Allows}
use Rattle.suit_classes.specs.ClassPlaces.{class_after, class_decided, class_moves, class_payoff, class_turn}
use Rattle.suit_classes.specs.ClassMoves.{ClassHistory}
use Rattle.suit_layouts.specs.ClassLayouts.{class_layouts}
use Rattle.suit_plans.specs.declared.moves.DeclarerMove.{DeclarerMove}
use Rattle.suit_plans.specs.declared.moves.DefenceMove.{DefenceMove}
use Rattle.suit_plans.specs.declared.plan.Plan.{Plan}
use Rattle.suit_plans.specs.declared.defence.Defence.{Defence}
use Rattle.suit_plans.specs.BestReplies.{Reply, allowing_layouts, choices, least, least_reply, most, most_reply}
use Rattle.suit_plans.specs.BestReplies.{public_moves, reply_to_defence, reply_to_plan, worth, worth_at}
use Rattle.suit_plans.specs.Masses.{is_declarers, is_defences, defence_mass, plan_mass}
use Rattle.suit_plans.specs.Orders.{InOrder, history_before}
use Rattle.suit_plans.specs.Properness.{IsProperDefence, IsProperPlan, some_allows, sum_of}
use Rattle.suit_plans.specs.declared.plan.TheConstants.{WORTH_BOUND}

-- ---- what a turn is worth

-- a number is the least of some: it is one of them, and none is less
pub record IsLeastOf (numbers : List ℤ) (number : ℤ) : Type 0 where
  pub attained : Contains numbers number
  pub least : (other : ℤ) → Contains numbers other → number ≤ℤ other

-- it is the most of some: it is one of them, and none is more
pub record IsMostOf (numbers : List ℤ) (number : ℤ) : Type 0 where
  pub attained : Contains numbers number
  pub most : (other : ℤ) → Contains numbers other → other ≤ℤ number

-- what a class history is worth with each of some moves more
abbrev pub worths_with : Reply → ClassHistory → List ClassMove → List ℤ
worths_with reply history moves = map (λ move. worth reply (history ++ move ∷ [])) moves

-- a class history of fewer than MOST_MOVES moves is worth what its moves make of it, whatever the reply
abbrev pub WorthsUnfold : Type 0
WorthsUnfold = (reply : Reply) (history : ClassHistory) → length history < MOST_MOVES
    → worth reply history ≡ worth_at reply history (worths_with reply history (reply.moves history))

-- against a plan: where play is decided, the payoff for the mass that came
abbrev pub PlansAtDecided : Type 0
PlansAtDecided = (question : Question) (plan : Plan) (counts : ClassLayout) (history : ClassHistory)
    → class_decided (class_after question history) ≡ true
    → worth (reply_to_plan question plan counts) history
    ≡ pos (class_payoff (class_after question history)) *ℤ plan_mass question plan history

-- at a turn of declarer's, the sum over his class moves
abbrev pub PlansAtDeclarers : Type 0
PlansAtDeclarers = (question : Question) (plan : Plan) (counts : ClassLayout) (history : ClassHistory)
    → Allows question counts history
    → is_declarers (class_turn (class_after question history)) ≡ true
    → worth (reply_to_plan question plan counts) history
    ≡ sum_of (worths_with (reply_to_plan question plan counts) history
    (class_moves (class_after question history) counts))

-- at a turn of a defender's, the least of his class moves
abbrev pub PlansAtDefences : Type 0
PlansAtDefences = (question : Question) (plan : Plan) (counts : ClassLayout) (history : ClassHistory)
    → Allows question counts history
    → is_defences (class_turn (class_after question history)) ≡ true
    → IsLeastOf (worths_with (reply_to_plan question plan counts) history
    (class_moves (class_after question history) counts))
    (worth (reply_to_plan question plan counts) history)

-- what the layouts that allow a class history let through to it
abbrev pub masses_of : Question → Defence → ClassHistory → List ℤ
masses_of question defence history =
    map (λ (layout : ClassLayout × ℕ). defence_mass question defence layout.0 history)
    (allowing_layouts question history)

-- against a defence: where play is decided, the payoff for the masses that came
abbrev pub DefencesAtDecided : Type 0
DefencesAtDecided = (question : Question) (defence : Defence) (history : ClassHistory)
    → class_decided (class_after question history) ≡ true
    → worth (reply_to_defence question defence) history
    ≡ pos (class_payoff (class_after question history)) *ℤ sum_of (masses_of question defence history)

-- at a turn of declarer's, the most of the moves
abbrev pub DefencesAtDeclarers : Type 0
DefencesAtDeclarers = (question : Question) (defence : Defence) (history : ClassHistory) → IsValid question
    → some_allows question history ≡ true
    → is_declarers (class_turn (class_after question history)) ≡ true
    → IsMostOf (worths_with (reply_to_defence question defence) history (public_moves question history))
    (worth (reply_to_defence question defence) history)

-- at a turn of a defender's, the sum over the moves
abbrev pub DefencesAtDefences : Type 0
DefencesAtDefences = (question : Question) (defence : Defence) (history : ClassHistory) → IsValid question
    → some_allows question history ≡ true
    → is_defences (class_turn (class_after question history)) ≡ true
    → worth (reply_to_defence question defence) history
    ≡ sum_of (worths_with (reply_to_defence question defence) history (public_moves question history))

-- ---- within which bounds it stays

-- a worth lies between nothing and thirteen tricks of a mass
pub record IsPaid (mass worth : ℤ) : Type 0 where
  pub some : pos 0 ≤ℤ worth
  pub few : worth ≤ℤ (pos HAND_SIZE *ℤ mass)

-- against a proper plan each class history that is allowed is worth no more than thirteen tricks of its mass
abbrev pub PlansArePaid : Type 0
PlansArePaid = (question : Question) (plan : Plan) (counts : ClassLayout) (history : ClassHistory) → IsValid question
    → IsProperPlan question plan
    → Allows question counts history
    → IsPaid (plan_mass question plan history) (worth (reply_to_plan question plan counts) history)

-- so it is worth nothing where no mass comes to it
abbrev pub NoMassIsWorthNothing : Type 0
NoMassIsWorthNothing = (question : Question) (plan : Plan) (counts : ClassLayout) (history : ClassHistory)
    → IsValid question
    → IsProperPlan question plan
    → Allows question counts history → plan_mass question plan history ≡ pos 0
    → worth (reply_to_plan question plan counts) history ≡ pos 0

-- against a proper defence it is worth no more than thirteen tricks of the masses in all class layouts
abbrev pub DefencesArePaid : Type 0
DefencesArePaid = (question : Question) (defence : Defence) (history : ClassHistory) → IsValid question
    → IsProperDefence question defence
    → some_allows question history ≡ true
    → IsPaid (sum_of (masses_of question defence history)) (worth (reply_to_defence question defence) history)

-- so it is worth nothing where no mass comes to it in any
abbrev pub NoMassesAreWorthNothing : Type 0
NoMassesAreWorthNothing = (question : Question) (defence : Defence) (history : ClassHistory) → IsValid question
    → IsProperDefence question defence
    → some_allows question history ≡ true
    → ((layout : ClassLayout × ℕ) → Contains (allowing_layouts question history) layout
    → defence_mass question defence layout.0 history ≡ pos 0)
    → worth (reply_to_defence question defence) history ≡ pos 0

-- so the least that a proper plan earns is not negative, and below its bound
abbrev pub LeastsAreBounded : Type 0
LeastsAreBounded = (question : Question) (plan : Plan) → IsValid question → IsProperPlan question plan
    → (pos 0 ≤ℤ least question plan) × (least question plan <ℤ WORTH_BOUND)

-- and so it is with the most that a proper defence lets declarer earn
abbrev pub MostsAreBounded : Type 0
MostsAreBounded = (question : Question) (defence : Defence) → IsValid question → IsProperDefence question defence
    → (pos 0 ≤ℤ most question defence) × (most question defence <ℤ WORTH_BOUND)

-- ---- what the lists name

-- the counts of the class layout at an index
abbrev pub counts_at : Question → ℕ → ClassLayout
counts_at question index = (get_or (class_layouts question (sizes_of question)) index ([], 0)).0

-- a choice of the defence against a plan: counts allow the class history, play is not decided there, a defender is on
-- turn with more moves than one, this is one of them, and some mass comes to it
pub record IsDefenceChoice (question : Question) (plan : Plan) (counts : ClassLayout) (history : ClassHistory)
    (move : ClassMove) : Type 0 where
  pub allowed : Allows question counts history
  pub going : class_decided (class_after question history) ≡ false
  pub turn : is_defences (class_turn (class_after question history)) ≡ true
  pub many : 1 < length (class_moves (class_after question history) counts)
  pub legal : Contains (class_moves (class_after question history) counts) move
  pub live : pos 0 <ℤ plan_mass question plan history

-- such are the entries of the best reply to a plan, each in one of the class layouts
abbrev pub LeastRepliesAreChoices : Type 0
LeastRepliesAreChoices = (question : Question) (plan : Plan) (entry : DefenceMove) → IsValid question
    → Contains (least_reply question plan) entry
    → (entry.layout < length (class_layouts question (sizes_of question)))
    × IsDefenceChoice question plan (counts_at question entry.layout) entry.history entry.mv

-- a choice of declarer's against a defence: some class layout allows the class history, play is not decided there,
-- declarer is on turn with more moves than one, this is one of them, and some mass comes to it in a class layout
pub record IsDeclarerChoice (question : Question) (defence : Defence) (history : ClassHistory) (move : ClassMove) : Type
    0 where
  pub allowed : some_allows question history ≡ true
  pub going : class_decided (class_after question history) ≡ false
  pub turn : is_declarers (class_turn (class_after question history)) ≡ true
  pub many : 1 < length (public_moves question history)
  pub legal : Contains (public_moves question history) move
  pub live : (layout : ClassLayout × ℕ) × Contains (allowing_layouts question history) layout
      × (pos 0 <ℤ defence_mass question defence layout.0 history)

-- such are the entries of the best reply to a defence
abbrev pub MostRepliesAreChoices : Type 0
MostRepliesAreChoices = (question : Question) (defence : Defence) (entry : DeclarerMove) → IsValid question
    → Contains (most_reply question defence) entry
    → IsDeclarerChoice question defence entry.history entry.mv

-- ---- how they stand to each other

-- the defence's best reply to a plan makes a move in the class layout at an index: its list names the move there, or
-- there is no other
abbrev pub IsDefenceReply : Question → Plan → ℕ → ClassHistory → ClassMove → Type 0
IsDefenceReply question plan index history move =
    Contains (least_reply question plan) (record { layout = index; history = history; mv = move })
    ⊎ (class_moves (class_after question history) (counts_at question index) ≡ move ∷ [])

-- some mass comes to each beginning of an entry's class history
abbrev pub LeastRepliesAreReached : Type 0
LeastRepliesAreReached = (question : Question) (plan : Plan) (entry : DefenceMove) (start rest : ClassHistory)
    → IsValid question → IsProperPlan question plan
    → Contains (least_reply question plan) entry → entry.history ≡ start ++ rest
    → pos 0 <ℤ plan_mass question plan start

-- and each move of the defence's within it is the reply's
abbrev pub LeastRepliesAreFollowed : Type 0
LeastRepliesAreFollowed = (question : Question) (plan : Plan) (entry : DefenceMove) (start : ClassHistory)
    (move : ClassMove) (rest : ClassHistory) → IsValid question → IsProperPlan question plan
    → Contains (least_reply question plan) entry → entry.history ≡ start ++ move ∷ rest
    → is_defences (class_turn (class_after question start)) ≡ true
    → IsDefenceReply question plan entry.layout start move

-- declarer's best reply to a defence makes a move: its list names the move there, or there is no other
abbrev pub IsDeclarerReply : Question → Defence → ClassHistory → ClassMove → Type 0
IsDeclarerReply question defence history move =
    Contains (most_reply question defence) (record { history = history; mv = move })
    ⊎ (public_moves question history ≡ move ∷ [])

-- to each beginning of an entry's class history some mass comes in a class layout
abbrev pub MostRepliesAreReached : Type 0
MostRepliesAreReached = (question : Question) (defence : Defence) (entry : DeclarerMove) (start rest : ClassHistory)
    → IsValid question → IsProperDefence question defence
    → Contains (most_reply question defence) entry → entry.history ≡ start ++ rest
    → (layout : ClassLayout × ℕ) × Contains (allowing_layouts question start) layout
    × (pos 0 <ℤ defence_mass question defence layout.0 start)

-- and each move of declarer's within it is the reply's
abbrev pub MostRepliesAreFollowed : Type 0
MostRepliesAreFollowed = (question : Question) (defence : Defence) (entry : DeclarerMove) (start : ClassHistory)
    (move : ClassMove) (rest : ClassHistory) → IsValid question → IsProperDefence question defence
    → Contains (most_reply question defence) entry → entry.history ≡ start ++ move ∷ rest
    → is_declarers (class_turn (class_after question start)) ≡ true
    → IsDeclarerReply question defence start move

-- ---- in what order they stand

-- the choices against a plan, of which its best reply lists those of each class layout in turn, stand in the order of
-- their class histories
abbrev pub PlanChoicesRise : Type 0
PlanChoicesRise = (question : Question) (plan : Plan) (counts : ClassLayout)
    → InOrder history_before (choices (reply_to_plan question plan counts))

-- and so do those against a defence
abbrev pub DefenceChoicesRise : Type 0
DefenceChoicesRise = (question : Question) (defence : Defence)
    → InOrder history_before (choices (reply_to_defence question defence))

-- whether an entry of a defence's reply stands before another: by the indices of the class layouts, and then by the
-- class
-- histories
abbrev pub defence_move_before : DefenceMove → DefenceMove → Bool
defence_move_before here there = nat_lt here.layout there.layout
    || (here.layout == there.layout && history_before here.history there.history)

-- so stand the entries of the best reply to a plan
abbrev pub LeastRepliesRise : Type 0
LeastRepliesRise = (question : Question) (plan : Plan) → InOrder defence_move_before (least_reply question plan)

-- and those of the best reply to a defence stand in the order of their class histories
abbrev pub MostRepliesRise : Type 0
MostRepliesRise = (question : Question) (defence : Defence)
    → InOrder (λ here there. history_before here.history there.history) (most_reply question defence)
