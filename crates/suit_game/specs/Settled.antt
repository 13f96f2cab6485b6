-- A plan and a defence that leave nothing open: the gain of the one is a bound for every defence, and that of the other
-- for every plan.
use Rattle.std.specs.Prelude.{ℕ, ◌<◌}
use Rattle.suit_game.specs.declared.question.Question.{Question}
use Rattle.suit_game.specs.Fractions.{IsAtLeast, IsAtMost}
use Rattle.suit_game.specs.Gains.{gain}
use Rattle.suit_game.specs.Layouts.{total}
use Rattle.suit_game.specs.Strategies.{Way, DefenceWay}

-- declarer's way earns at least num / den against every defence, and the defenders' way holds every plan to at most
-- that
pub record Settles (question : Question) (declarer : Way) (defence : DefenceWay) (num den : ℕ) : Type 0 where
  pub earns : (other : DefenceWay) → IsAtLeast (gain question declarer other) num den
  pub holds : (other : Way) → IsAtMost (gain question other defence) num den
  -- no fraction here has a denominator of 0, which would compare as anything
  pub positive : 0 < den
  pub weighs : 0 < total question
  pub dens : (plan : Way) (other : DefenceWay) → 0 < (gain question plan other).den
