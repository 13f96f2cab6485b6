-- What the best reply comes to from a node of a tree on.
use Rattle.std.specs.Prelude.{List, [], ℤ, pos}
use Rattle.suit_reply.specs.declared.chosen_move.ChosenMove.{ChosenMove}

-- what a node is worth, and the choices of the reply from it on, in order
pub record NodeReplyView : Type 0 where
  pub worth : ℤ
  pub choices : List ChosenMove

-- worth nothing, and without choices
abbrev pub nothing : NodeReplyView
nothing = record { worth = pos 0; choices = [] }
