-- The class histories that count for a class layout, which it allows and which go past no decided position, and the
-- number of pairs of the two.
use Rattle.std.specs.Prelude.{ℕ, zero, suc, List, [], ◌∷◌, ◌++◌, length, sum_by, if◌then◌else◌}
use Rattle.std.specs.List.{flat_map}
use Rattle.suit_cards.specs.Cards.{ClassLayout}
use Rattle.suit_game.specs.declared.question.Question.{Question}
use Rattle.suit_game.specs.declared.limits.TheConstants.{MOST_MOVES}
use Rattle.suit_classes.specs.ClassMoves.{ClassHistory}
use Rattle.suit_classes.specs.ClassPlaces.{class_after, class_moves, class_decided}
use Rattle.suit_classes.specs.Classes.{sizes_of}
use Rattle.suit_layouts.specs.ClassLayouts.{class_layouts}

-- a class history, and those that go on from it by at most so many moves which counts allow, past no decided position
unfoldable pub continued : ℕ → Question → ClassLayout → ClassHistory → List ClassHistory
continued zero question counts history = history ∷ []
continued (suc more) question counts history =
    history
    ∷ (if class_decided (class_after question history) then []
    else flat_map (λ move. continued more question counts (history ++ move ∷ []))
    (class_moves (class_after question history) counts))

-- the class histories that counts of West's allow and that go past no decided position; none has more than MOST_MOVES moves
unfoldable pub counted_histories : Question → ClassLayout → List ClassHistory
counted_histories question counts = continued MOST_MOVES question counts []

-- the number of pairs of a class layout of positive weight and a class history that is counted for it
unfoldable pub node_count : Question → ℕ
node_count question = sum_by (λ layout. length (counted_histories question layout.0))
    (class_layouts question (sizes_of question))
