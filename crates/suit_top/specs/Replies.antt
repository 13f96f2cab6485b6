-- What a command makes of its input, and what becomes of it.
use Rattle.std.specs.Prelude.{◌≡◌, ◌<◌, ◌≤◌, ℕ, Option, Some, [], IfSome, IsTrue, MatchBool, length, take}
use Rattle.std.specs.Io.KnownBytes.{Appends, Consumes}
use Rattle.suit_ports.specs.Bytes.{Bytes}
use Rattle.suit_top.specs.declared.commands.Command.{Command}
use Rattle.suit_top.specs.declared.reply.Reply.{Reply}
use Rattle.suit_top.specs.declared.status.Status.{Status}
use Rattle.suit_top.specs.declared.status.Status.TheVariants.{Done, WriteFault}
use Rattle.suit_top.specs.Commands.{limit_of, reads_input, Says}
use Rattle.suit_top.specs.Owing.{due_for, IsOwedText}
use Rattle.suit_top.specs.Texts.{text_bytes}

-- a reply to a command, from what its source had left, where it tells that, to what it has left; a command that reads
-- no input takes nothing of it
pub record IsReply (command : Command) (before after : Option Bytes) (reply : Reply) : Type 0 where
  pub input : Bytes
  pub is_input : MatchBool (reads_input command) (IfSome before (λ bytes. input ≡ bytes)) (input ≡ [])
  pub status_due : reply.status ≡ (due_for (Some command) input).status
  pub text_due : IsOwedText (Some command) input (text_bytes reply.text)
  -- with Done, the text says what the command is for
  pub says : reply.status ≡ Done → Says (Some command) input (text_bytes reply.text)
  pub all_read : reply.status ≡ Done → IsTrue (reads_input command) → IfSome before (λ _. after ≡ Some [])

-- a source failed before it had given more than the command takes
pub record Failed (command : Command) (before after : Option Bytes) : Type 0 where
  pub reads : IsTrue (reads_input command)
  pub taken : Bytes
  pub took : Consumes before after taken
  pub within : length taken ≤ limit_of command

-- the whole text was written, and the run ends with its status
pub record Delivered (reply : Reply) (before after : Option Bytes) (status : Status) : Type 0 where
  pub is_status : status ≡ reply.status
  pub whole : Appends before after (text_bytes reply.text)

-- the sink stopped before it had the whole text
pub record Stopped (reply : Reply) (before after : Option Bytes) (status : Status) : Type 0 where
  pub is_write_fault : status ≡ WriteFault
  pub sent : ℕ
  pub not_whole : sent < length (text_bytes reply.text)
  pub front : Appends before after (take sent (text_bytes reply.text))
