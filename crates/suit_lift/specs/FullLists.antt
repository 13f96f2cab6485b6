-- Full lists of rows: they say what a side plays after each history at which it is to move, and nothing else.
use Rattle.std.specs.Prelude.{◌≡◌, ◌≢◌, ◌<◌, Bool, true, false, List, All, AllPairs, Contains, ℤ}
use Rattle.suit_cards.specs.Cards.{Cards}
use Rattle.suit_game.specs.declared.question.Question.{Question}
use Rattle.suit_game.specs.declared.moves.Move.{Move}
use Rattle.suit_game.specs.Gains.{is_declarer_turn, pay}
use Rattle.suit_game.specs.Histories.{History}
use Rattle.suit_game.specs.Layouts.{layouts}
use Rattle.suit_game.specs.PlaceViews.{IsPlay}
use Rattle.suit_game.specs.Positions.{IsLegal, after, has_ended, legal}
use Rattle.suit_game.specs.Strategies.{DefenceWay, DefenceWayRow, Way, WayRow, by_defence_rows, by_rows, number_of}
use Rattle.suit_game.specs.Validity.{IsValid}
use Rattle.suit_plans.specs.declared.plan.Plan.{Plan}
use Rattle.suit_plans.specs.declared.defence.Defence.{Defence}
use Rattle.suit_lift.specs.Lifts.{defence_way, plan_way}

-- a history is legal under a layout, play goes on there, and it is declarer's turn, or the defenders'
pub record IsToMove (question : Question) (declarers : Bool) (west : Cards) (history : History) : Type 0 where
  pub layout : Contains (layouts question) west
  pub legal : IsLegal question west history
  pub goes : has_ended question (after question history) ≡ false
  pub turn : is_declarer_turn (after question history).trick ≡ declarers

-- numbers name legal moves alone, and give one of them weight
pub record NamesMoves (moves : List Move) (numbers : List (Move × ℤ)) : Type 0 where
  pub alone : All (λ (pair : Move × ℤ). Contains moves pair.0) numbers
  pub some : (move : Move) × Contains moves move × (0 < number_of numbers move)

-- one row of declarer's for each history that is legal under some layout and at which he is to move
pub record IsFull (question : Question) (rows : List WayRow) : Type 0 where
  pub each : (west : Cards) (history : History) → IsToMove question true west history
      → (numbers : List (Move × ℤ)) × Contains rows (record { history = history; numbers = numbers })
  pub alone : All (λ (row : WayRow). (west : Cards) × IsToMove question true west row.history
      × NamesMoves (legal question west row.history) row.numbers) rows
  pub once : AllPairs (λ (one other : WayRow). one.history ≢ other.history) rows

-- one row of the defenders' for each layout and each history that is legal under it and at which one of them is to move
pub record IsFullDefence (question : Question) (rows : List DefenceWayRow) : Type 0 where
  pub each : (west : Cards) (history : History) → IsToMove question false west history
      → (numbers : List (Move × ℤ)) × Contains rows (record { west = west; history = history; numbers = numbers })
  pub alone : All (λ (row : DefenceWayRow). IsToMove question false row.west row.history
      × NamesMoves (legal question row.west row.history) row.numbers) rows
  pub once : AllPairs (λ (one other : DefenceWayRow). one.west ≡ other.west → one.history ≢ other.history) rows

-- the lift of a plan has the pays of a full list, whatever the defenders do, after each history under each layout
abbrev pub PlansAreLists : Type 0
PlansAreLists = (question : Question) (plan : Plan) → IsValid question
    → (rows : List WayRow) × IsFull question rows
    × ((defence : DefenceWay) (west : Cards) (history : History) → IsPlay question west history
    → pay question (plan_way question plan) defence west history ≡ pay question (by_rows rows) defence west history)

-- and so has the lift of a defence, whatever declarer does
abbrev pub DefencesAreLists : Type 0
DefencesAreLists = (question : Question) (defence : Defence) → IsValid question
    → (rows : List DefenceWayRow) × IsFullDefence question rows
    × ((declarer : Way) (west : Cards) (history : History) → IsPlay question west history
    → pay question declarer (defence_way question defence) west history
    ≡ pay question declarer (by_defence_rows rows) west history)
