-- The clause of `run`: four ways to end, and what holds of each.
use Rattle.std.specs.Prelude.{◌≡◌, ℕ, ◌<◌, ◌≤◌, ◌⊎◌, ◌↔◌, List, []}
use Rattle.std.specs.Prelude.{length, take, Option, Some, IsTrue, IfSome, IsSome, IsNone, MatchBool}
use Rattle.std.specs.Io.KnownBytes.{Keeps, Appends, Consumes}
use Rattle.suit_cards.specs.Cards.{Text}
use Rattle.suit_ports.specs.Bytes.{Bytes}
use Rattle.suit_ports.specs.PortCounts.{Rose}
use Rattle.suit_ports.specs.Room.{KeepsRoom, IsFull}
use Rattle.suit_top.specs.declared.status.Status.{Status}
use Rattle.suit_top.specs.declared.status.Status.TheVariants.{Done, Usage, ReadFault, WriteFault, Memory}
use Rattle.suit_top.specs.declared.commands.Command.{Command}
use Rattle.suit_top.specs.Commands.{command_of, words_read, reads_input, limit_of, Says}
use Rattle.suit_top.specs.Owing.{Owes}

-- what both ports tell at one moment
pub record Ports : Type 0 where
  -- the bytes that the source has left, where it tells them
  pub left : Option Bytes
  pub source_faults : ℕ
  -- the bytes that the sink holds, where it tells them
  pub written : Option Bytes
  -- the whole room of the sink, where it tells that
  pub room : Option ℕ
  pub sink_faults : ℕ
  pub empty_puts : ℕ

-- the input of a run: all that the source had left, where it tells that; none for words that read none
abbrev pub IsInput : List Text → Ports → Bytes → Type 0
IsInput words before input =
    MatchBool (words_read (command_of words)) (IfSome before.left (λ bytes. input ≡ bytes)) (input ≡ [])

-- the run ended as it owes: its whole text was written, and nothing else
pub record Ended (words : List Text) (before after : Ports) (status : Status) : Type 0 where
  pub input : Bytes
  pub text : Text
  pub is_input : IsInput words before input
  pub owed : Owes words input status text
  pub written : Appends before.written after.written text
  -- with Done, the text says what the command is for
  pub says : status ≡ Done → Says (command_of words) input text
  -- and the input was read to its end
  pub all_read : status ≡ Done → IsTrue (words_read (command_of words)) → IfSome before.left (λ _. after.left ≡ Some [])

-- the source failed before it had given more than the command takes, and nothing was written
pub record SourceFailed (words : List Text) (before after : Ports) (status : Status) : Type 0 where
  pub is_read_fault : status ≡ ReadFault
  pub command : Command
  pub named : command_of words ≡ Some command
  pub reads : IsTrue (reads_input command)
  pub rose : Rose before.source_faults after.source_faults
  pub taken : Bytes
  pub took : Consumes before.left after.left taken
  pub within : length taken ≤ limit_of command
  pub nothing_written : Keeps before.written after.written

-- the sink failed, or took nothing, after a front of the text that was owed but not the whole
pub record SinkFailed (words : List Text) (before after : Ports) (status : Status) : Type 0 where
  pub is_write_fault : status ≡ WriteFault
  pub rose : Rose before.sink_faults after.sink_faults ⊎ Rose before.empty_puts after.empty_puts
  pub input : Bytes
  pub text : Text
  pub owed_status : Status
  pub sent : ℕ
  pub is_input : IsInput words before input
  pub owed : Owes words input owed_status text
  pub not_whole : sent < length text
  pub written : Appends before.written after.written (take sent text)

-- for want of memory nothing was written
pub record LackedMemory (words : List Text) (before after : Ports) (status : Status) : Type 0 where
  pub is_memory : status ≡ Memory
  pub command : IsSome (command_of words)
  pub nothing_written : Keeps before.written after.written

-- a run with these words, from what the ports told before to what they told after
pub record Runs (words : List Text) (before after : Ports) (status : Status) : Type 0 where
  -- one of four cases stands
  pub ending : Ended words before after status
      ⊎ (SourceFailed words before after status
      ⊎ (SinkFailed words before after status
      ⊎ LackedMemory words before after status))
  -- Usage tells exactly of words that form no command, whatever the ports and the memory do
  pub usage : IsNone (command_of words) ↔ (status ≡ Usage)
  -- the sink tells the same room as before, if it told one
  pub room_kept : KeepsRoom before.room after.room
  -- a run counts an empty put only when it ends in WriteFault, and over a room that is told only when that is full
  pub empty_puts : before.empty_puts < after.empty_puts → (status ≡ WriteFault) × IsFull after.written after.room
