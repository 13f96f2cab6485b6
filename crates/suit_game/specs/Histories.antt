-- A name for the moves played so far.
use Rattle.std.specs.Prelude.{List}
use Rattle.suit_game.specs.declared.moves.Move.{Move}

-- the moves played so far, the first one first
abbrev pub History : Type 0
History = List Move
