-- Class layouts: the layouts by how many cards of each block West holds.
use Rattle.std.specs.Prelude.{ℕ, ◌+◌, ◌*◌, nat_lt, Bool, List, [], ◌∷◌, length, map, filter, sum_by, bytes_eq}
use Rattle.std.specs.List.{range_with_len, flat_map}
use Rattle.suit_cards.specs.Cards.{ClassLayout, Sizes}
use Rattle.suit_num.specs.Binomials.{binomial}
use Rattle.suit_game.specs.declared.question.Question.{Question}
use Rattle.suit_game.specs.Layouts.{layouts, weight}
use Rattle.suit_game.specs.Blocks.{counts_of}

-- whether counts are the same as others
abbrev pub same_counts : ClassLayout → ClassLayout → Bool
same_counts counts other = bytes_eq counts other

-- the weight of counts: by definition the sum of the weights of all layouts in which West has so many cards of each
-- block;
-- that it is a product, as it is computed, is a law
unfoldable pub class_weight : Question → Sizes → ClassLayout → ℕ
class_weight question sizes counts =
    sum_by (λ west. weight question (length west))
    (filter (λ west. same_counts (counts_of question sizes west) counts) (layouts question))

-- all ways to count from none to all of each block, in rising lexicographic order
unfoldable pub counts_up_to : Sizes → List ClassLayout
counts_up_to [] = [] ∷ []
counts_up_to (size ∷ sizes) =
    flat_map (λ count. map (λ counts. count ∷ counts) (counts_up_to sizes)) (range_with_len 0 (size + 1))

-- those of some counts that have a weight, each with it
unfoldable pub weighed : Question → Sizes → List ClassLayout → List (ClassLayout × ℕ)
weighed question sizes all = filter (λ layout. nat_lt 0 layout.1)
    (map (λ counts. (counts, class_weight question sizes counts)) all)

-- the class layouts of positive weight in rising lexicographic order, each with its weight
unfoldable pub class_layouts : Question → Sizes → List (ClassLayout × ℕ)
class_layouts question sizes = weighed question sizes (counts_up_to sizes)

-- in how many ways West can hold so many cards of each block: the product of the ways of the blocks
unfoldable pub ways_of : Sizes → ClassLayout → ℕ
ways_of [] [] = 1
ways_of [] (count ∷ counts) = 0
ways_of (size ∷ sizes) [] = 0
ways_of (size ∷ sizes) (count ∷ counts) = binomial size count * ways_of sizes counts
