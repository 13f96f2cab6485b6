-- What a walk over the class layouts has left, and where it stands.
use Rattle.std.specs.Prelude.{◌≡◌, ℕ, ◌≤◌, List, length, drop}
use Rattle.suit_cards.specs.Cards.{ClassLayout, Sizes}
use Rattle.suit_game.specs.declared.question.Question.{Question}
use Rattle.suit_game.specs.Validity.{IsValid}
use Rattle.suit_game.specs.Blocks.{AreSizes}
use Rattle.suit_layouts.specs.ClassLayouts.{counts_up_to, weighed}

-- the class layouts from an index among all counts on
unfoldable pub weighed_from : Question → Sizes → ℕ → List (ClassLayout × ℕ)
weighed_from question sizes index = weighed question sizes (drop index (counts_up_to sizes))

-- a walk stands at an index among all counts of a question's blocks, or past the last
pub record IsWalk (question : Question) (sizes : Sizes) (index all : ℕ) : Type 0 where
  pub valid : IsValid question
  pub blocks : AreSizes question sizes
  pub all_of : all ≡ length (counts_up_to sizes)
  pub within : index ≤ all
