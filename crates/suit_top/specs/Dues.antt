-- A status, and the text that is due with it.
use Rattle.std.specs.Prelude.{[]}
use Rattle.suit_cards.specs.Cards.{Text}
use Rattle.suit_top.specs.declared.status.Status.{Status}
use Rattle.suit_top.specs.declared.status.Status.TheVariants.{Done}

-- a status and the text that is written with it
pub record Due : Type 0 where
  pub status : Status
  pub text : Text

-- the text that a command is for
abbrev pub done : Text → Due
done text = record { status = Done; text = text }

-- a status with which nothing is written
abbrev pub silent : Status → Due
silent status = record { status = status; text = [] }
