-- The class histories of a question, in their order.
use Rattle.std.specs.Prelude.{ℕ, zero, suc, List, [], ◌∷◌, ◌++◌}
use Rattle.std.specs.List.{flat_map}
use Rattle.suit_game.specs.declared.question.Question.{Question}
use Rattle.suit_game.specs.declared.limits.TheConstants.{MOST_MOVES}
use Rattle.suit_classes.specs.ClassMoves.{ClassHistory}
use Rattle.suit_plans.specs.BestReplies.{public_moves}

-- a class history, and those that go on from it by at most so many moves that some class layout of positive weight
-- allows, past no decided position
unfoldable pub continued : ℕ → Question → ClassHistory → List ClassHistory
continued zero question history = history ∷ []
continued (suc more) question history =
    history ∷ flat_map (λ move. continued more question (history ++ move ∷ [])) (public_moves question history)

-- all class histories of a question; none has more than 52 moves
unfoldable pub class_histories : Question → List ClassHistory
class_histories question = continued MOST_MOVES question []
