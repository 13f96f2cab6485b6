-- Where the rows at a reached class history stand, for the contracts of private functions.
use Rattle.std.specs.Prelude.{◌≡◌, ℕ, ◌<◌, List, [], get_or, length, map}
use Rattle.suit_cards.specs.Cards.{ClassLayout}
use Rattle.suit_game.specs.declared.question.Question.{Question}
use Rattle.suit_program.specs.declared.walks.reach.ReachedLayout.{ReachedLayout}
use Rattle.suit_program.specs.Supports.{layouts_of}

-- the class layout at an index, with its weight
abbrev pub layout_at : Question → ℕ → ClassLayout × ℕ
layout_at question index = get_or (layouts_of question) index ([], 0)

-- the class layout with an index stands at a place
pub record IsLayoutAt (layouts : List ReachedLayout) (place index : ℕ) : Type 0 where
  pub below : place < length layouts
  pub is : get_or (map (λ layout. layout.index) layouts) place 0 ≡ index
