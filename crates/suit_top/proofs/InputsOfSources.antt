-- `is_input`: the input of a command, from what its source gave.
use Rattle.std.proofs.Common.{◌≡◌, ℕ, ◌+◌, ◌<◌, List, [], Option, None, Some}
use Rattle.std.proofs.Common.{IfSome, length, refl, sym, ap, subst, arith, length-append}
use Rattle.std.specs.Prelude.{MatchBool}
use Rattle.std.specs.Io.KnownBytes.{Consumes}
use Rattle.suit_cards.specs.Cards.{Text}
use Rattle.suit_top.specs.declared.commands.Command.{Command}
use Rattle.suit_top.specs.Commands.{command_of, reads_input, words_read}
use Rattle.suit_top.specs.Runs.{Ports, IsInput}

-- a source that gave one byte more than a limit had an input longer than it
pub long_input : (before after : Option Text) (taken : Text) (limit : ℕ) → Consumes before after taken
    → length taken ≡ limit + 1
    → (input : Text) × IfSome before (λ bytes. input ≡ bytes) × (limit < length input)
long_input None after taken limit consumed long = (taken, tt, omega arith)
long_input (Some bytes) None taken limit consumed long = absurd consumed
long_input (Some bytes) (Some rest) taken limit consumed long =
    (bytes, refl, omega (arith, ap length consumed, length-append taken rest))

-- the input of a command is what the source had, or none
pub is_input : (words : List Text) (command : Command) (before : Ports) (input : Text)
    → command_of words ≡ Some command
    → MatchBool (reads_input command) (IfSome before.left (λ bytes. input ≡ bytes)) (input ≡ [])
    → IsInput words before input
is_input words command before input named given =
    subst (λ (c : Option Command). MatchBool (words_read c) (IfSome before.left (λ bytes. input ≡ bytes)) (input ≡ []))
    (sym named) given
