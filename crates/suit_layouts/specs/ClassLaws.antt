-- What holds of the class layouts of every question.
use Rattle.std.specs.Prelude.{◌≡◌, ℕ, ◌*◌, ◌<◌, ◌≤◌, ◌↔◌, length, filter, sum, sum_by, Contains, AllPairs, IsTrue}
use Rattle.std.specs.Ordering.{nat_cmp}
use Rattle.std.specs.Cmp.Lexicographic.{slice_cmp}
use Rattle.std.specs.declared.cmp.Ordering.TheVariants.{Less}
use Rattle.suit_cards.specs.Cards.{Cards, ClassLayout, Sizes}
use Rattle.suit_game.specs.declared.question.Question.{Question}
use Rattle.suit_game.specs.Layouts.{is_west_length, layouts, weight, total}
use Rattle.suit_game.specs.Question.{missing}
use Rattle.suit_game.specs.Weights.{weight_in_range}
use Rattle.suit_game.specs.Blocks.{AreSizes, counts_of}
use Rattle.suit_layouts.specs.declared.class_list.TheConstants.{MOST_CLASS_LAYOUTS}
use Rattle.suit_layouts.specs.ClassLayouts.{class_weight, class_layouts, same_counts, ways_of}

-- a class layout weighs as much as one of its layouts, times the ways to choose West's cards of each block
abbrev pub ClassWeightsCounted : Type 0
ClassWeightsCounted =
    (question : Question) (sizes : Sizes) (counts : ClassLayout) → sum sizes ≡ length (missing question)
    → class_weight question sizes counts ≡ ways_of sizes counts * weight_in_range question (sum counts)

-- the counts stand in strictly rising lexicographic order
abbrev pub ClassLayoutsRise : Type 0
ClassLayoutsRise =
    (question : Question) (sizes : Sizes)
    → AllPairs (λ before later. slice_cmp nat_cmp before.0 later.0 ≡ Less) (class_layouts question sizes)

-- exactly the counts that have a weight are there, each with its weight
abbrev pub ClassLayoutsExact : Type 0
ClassLayoutsExact =
    (question : Question) (sizes : Sizes) (counts : ClassLayout) (deals : ℕ) → sum sizes ≡ length (missing question)
    → Contains (class_layouts question sizes) (counts, deals)
    ↔ ((deals ≡ class_weight question sizes counts) × (0 < deals))

-- there are at most MOST_CLASS_LAYOUTS of them
abbrev pub ClassLayoutsFew : Type 0
ClassLayoutsFew = (question : Question) (sizes : Sizes) → AreSizes question sizes
    → length (class_layouts question sizes) ≤ MOST_CLASS_LAYOUTS

-- what depends on West's counts alone is summed over the layouts, each with its weight, by class layouts
abbrev pub LayoutsGrouped : Type 0
LayoutsGrouped =
    (worth : ClassLayout → ℕ) (question : Question) (sizes : Sizes) → sum sizes ≡ length (missing question)
    → sum_by (λ west. weight question (length west) * worth (counts_of question sizes west)) (layouts question)
    ≡ sum_by (λ layout. layout.1 * worth layout.0) (class_layouts question sizes)

-- as many layouts have given counts as the ways of the blocks, where West may have so many cards
abbrev pub LayoutsCounted : Type 0
LayoutsCounted =
    (question : Question) (sizes : Sizes) (counts : ClassLayout) → sum sizes ≡ length (missing question)
    → IsTrue (is_west_length question (sum counts))
    → length (filter (λ west. same_counts (counts_of question sizes west) counts) (layouts question))
    ≡ ways_of sizes counts

-- West's counts in a layout add up to the number of West's cards
abbrev pub CountsAddUp : Type 0
CountsAddUp =
    (question : Question) (sizes : Sizes) (west : Cards) → sum sizes ≡ length (missing question)
    → Contains (layouts question) west
    → sum (counts_of question sizes west) ≡ length west

-- the counts of a layout that has a weight are a class layout that has one
abbrev pub LayoutsListed : Type 0
LayoutsListed =
    (question : Question) (sizes : Sizes) (west : Cards) → Contains (layouts question) west
    → 0 < weight question (length west)
    → 0 < class_weight question sizes (counts_of question sizes west)

-- a class layout that has a weight is the counts of some layout that has one
abbrev pub ClassLayoutsHeld : Type 0
ClassLayoutsHeld =
    (question : Question) (sizes : Sizes) (counts : ClassLayout) → 0 < class_weight question sizes counts
    → (west : Cards) × Contains (layouts question) west × (counts_of question sizes west ≡ counts)
    × (0 < weight question (length west))

-- the weights of the class layouts add up to the total
abbrev pub ClassWeightsAddUp : Type 0
ClassWeightsAddUp =
    (question : Question) (sizes : Sizes) → sum sizes ≡ length (missing question)
    → sum_by (λ layout. layout.1) (class_layouts question sizes) ≡ total question
