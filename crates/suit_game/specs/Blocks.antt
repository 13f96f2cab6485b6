-- The missing cards in blocks, and how many cards of each West holds.
use Rattle.std.specs.Prelude.{◌≡◌, ◌+◌, ◌≤◌, List, [], ◌∷◌, length, map, take, drop, sum, count_by, All}
use Rattle.suit_cards.specs.Holdings.{holds}
use Rattle.suit_cards.specs.Cards.{Cards, ClassLayout, Sizes}
use Rattle.suit_game.specs.declared.limits.TheConstants.{MOST_MISSING_AND_BLOCKS}
use Rattle.suit_game.specs.declared.question.Question.{Question}
use Rattle.suit_game.specs.Question.{missing}

-- the cards in blocks of these sizes, from the first card on
unfoldable pub blocks_of : Cards → Sizes → List Cards
blocks_of cards [] = []
blocks_of cards (size ∷ sizes) = take size cards ∷ blocks_of (drop size cards) sizes

-- how many of West's cards stand in each block
abbrev pub counts_in : List Cards → Cards → ClassLayout
counts_in blocks west = map (λ block. count_by (λ card. holds block card) west) blocks

-- how many cards of each block of missing cards West has in a layout
abbrev pub counts_of : Question → Sizes → Cards → ClassLayout
counts_of question sizes west = counts_in (blocks_of (missing question) sizes) west

-- blocks of these sizes have a card each and take up the missing cards, and a card of declarer's lies between any two:
-- so the missing cards and the blocks are at most 14 together
pub record AreSizes (question : Question) (sizes : Sizes) : Type 0 where
  pub some : All (λ size. 1 ≤ size) sizes
  pub filled : sum sizes ≡ length (missing question)
  pub few : length (missing question) + length sizes ≤ MOST_MISSING_AND_BLOCKS
