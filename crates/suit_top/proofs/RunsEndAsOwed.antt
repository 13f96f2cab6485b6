-- `run_replies`: how a run ends that made a reply.
use Rattle.std.proofs.Common.{◌≡◌, ℕ, ◌+◌, ◌≤◌, ◌++◌, append-nil, arith, List, [], Result, Ok, Err, Option, None, Some}
use Rattle.std.proofs.Common.{Bool, true, false, nat_lt, length, refl, sym, ap, ◌∙◌, subst, ◌⊎◌, inl, inr, ◌<◌, IsNone}
use Rattle.std.specs.Prelude.{if◌then◌else◌, IfSome, IsTrue, MatchBool}
use Rattle.std.proofs.lemmas.Bool.{le-ltb, lt-ltb}
use Rattle.std.specs.Io.KnownBytes.{Appends, Consumes, IsAtEnd}
use Rattle.suit_ports.specs.declared.transfer.ReadEnd.{ReadEnd}
use Rattle.suit_ports.specs.declared.transfer.ReadEnd.TheVariants as Reading
use Rattle.suit_ports.specs.PortCounts.{Rose}
use Rattle.suit_ports.specs.Reading.{Took}
use Rattle.suit_ports.specs.Room.{KeepsRoom, IsFull}
use Rattle.suit_game.specs.declared.question.Question.{Question}
use Rattle.suit_top.specs.declared.commands.Command.{Command}
use Rattle.suit_top.specs.declared.commands.Command.TheVariants.{OnQuestion, OnAnswer, OnTable, OnNothing}
use Rattle.suit_top.specs.declared.commands.on_answer.AnswerCommand.{AnswerCommand}
use Rattle.suit_top.specs.declared.commands.on_answer.AnswerCommand.TheVariants.{Check, Lines}
use Rattle.suit_top.specs.declared.commands.on_question.QuestionCommand.{QuestionCommand}
use Rattle.suit_top.specs.declared.commands.on_question.QuestionCommand.TheVariants.{Solve, Weigh}
use Rattle.suit_top.specs.declared.commands.on_table.TableCommand.{TableCommand}
use Rattle.suit_top.specs.declared.commands.on_table.TableCommand.TheVariants.{Table}
use Rattle.suit_top.specs.declared.reply.Reply.{Reply}
use Rattle.suit_top.specs.declared.status.Status.{Status}
use Rattle.suit_top.specs.declared.status.Status.TheVariants.{Done, Usage, WriteFault, Long}
use Rattle.suit_cards.specs.Cards.{Text}
use Rattle.suit_answer.specs.declared.answer.Answer.{Answer}
use Rattle.suit_answer.specs.declared.faults.AnswerFault.{AnswerFault}
use Rattle.suit_answer.specs.Reading.{answer_read}
use Rattle.suit_top.specs.Asking.{answer_part, due_of_answer_read, due_of_read, question_part}
use Rattle.suit_top.specs.Commands.{command_of, reads_input, limit_of, due_within, IsOwedWithin, Says, words_read}
use Rattle.suit_top.specs.Commands.OnAnswer.{due_answered, due_with_answer}
use Rattle.suit_top.specs.Commands.OnQuestion.{due_about}
use Rattle.suit_top.specs.Commands.OnTable.{due_on_table}
use Rattle.suit_top.specs.Commands.Table.{due_of_records}
use Rattle.suit_table.specs.Records.{Record, first_misfit, records_of}
use Rattle.suit_top.specs.Dues.{Due, done, silent}
use Rattle.suit_question.specs.Reading.{question_read}
use Rattle.suit_question.specs.declared.faults.QuestionFault.{QuestionFault}
use Rattle.suit_top.specs.Texts.{text_bytes}
use Rattle.suit_top.specs.Owing.{due_for, IsOwedText, Owes}
use Rattle.suit_top.specs.Replies.{IsReply, Delivered, Stopped}
use Rattle.suit_top.specs.Runs.{IsInput, Ports, Runs}
use Rattle.suit_top.proofs.ValidIsCertified.{check_tells}
use Rattle.suit_top.proofs.FatesAreCertified.{fate_tells}
use Rattle.suit_solve.specs.Fates.{fate}
use Rattle.suit_top.proofs.ValidIsTellable.{lines_tell}
use Rattle.suit_top.proofs.InputsOfSources.{is_input, long_input}

-- no text owes Usage whose question owes none
asked_tells : (about : Question → Due) (found : Result Question QuestionFault)
    → ((question : Question) → (about question).status ≡ Usage → ⊥) → (due_of_read about found).status ≡ Usage → ⊥
asked_tells about (Err fault) tells usage = cc
asked_tells about (Ok question) tells usage = tells question usage

answer_tells : (about : Answer → Due) (found : Result Answer AnswerFault)
    → ((answer : Answer) → (about answer).status ≡ Usage → ⊥) → (due_of_answer_read about found).status ≡ Usage → ⊥
answer_tells about (Err fault) tells usage = cc
answer_tells about (Ok answer) tells usage = tells answer usage

about_tells : (command : QuestionCommand) (question : Question) → (due_about command question).status ≡ Usage → ⊥
about_tells Solve question usage = fate_tells question (fate question) usage
about_tells Weigh question usage = cc

answered_tells : (command : AnswerCommand) (question : Question) (answer : Answer)
    → (due_answered command question answer).status ≡ Usage → ⊥
answered_tells Check question answer usage = check_tells question answer usage
answered_tells Lines question answer usage = lines_tell question answer usage

records_tell : (records : List Record) (misfit : Option ℕ) → (due_of_records records misfit).status ≡ Usage → ⊥
records_tell records None usage = cc
records_tell records (Some at) usage = cc

table_tells : (command : TableCommand) (input : Text) → (due_on_table command input).status ≡ Usage → ⊥
table_tells Table input usage = records_tell (records_of input) (first_misfit (records_of input)) usage

-- no command owes it for an input
within_tells : (command : Command) (input : Text) → (due_within command input).status ≡ Usage → ⊥
within_tells (OnQuestion command) input usage =
    asked_tells (due_about command) (question_read input) (about_tells command) usage
within_tells (OnAnswer command) input usage =
    asked_tells (due_with_answer command (answer_part input)) (question_read (question_part input))
    (λ question. answer_tells (due_answered command question) (answer_read question (answer_part input))
    (answered_tells command question)) usage
within_tells (OnTable command) input usage = table_tells command input usage
within_tells (OnNothing command) input usage = cc

long_tells : (long : Bool) (due : Due) → (due.status ≡ Usage → ⊥) → (if long then silent Long else due).status ≡ Usage
    → ⊥
long_tells true due tells usage = cc
long_tells false due tells usage = tells usage

-- a command owes another status than Usage
pub never_usage : (command : Command) (input : Text) → (due_for (Some command) input).status ≡ Usage → ⊥
never_usage command input usage =
    long_tells (nat_lt (limit_of command) (length input)) (due_within command input) (within_tells command input) usage

long_is_not_done : (s : Status) → s ≡ Long → s ≡ Done → ⊥
long_is_not_done s long done = cc

none_named : (words : List Text) (command : Command) → command_of words ≡ Some command → IsNone (command_of words) → ⊥
none_named words command named none = let other = subst IsNone named none in cc

-- what a run owes for a reply
owed : (words : List Text) (command : Command) (before after : Option Text) (reply : Reply)
    → command_of words ≡ Some command
    → (made : IsReply command before after reply) → Owes words made.input reply.status (text_bytes reply.text)
owed words command before after reply named made = record {
  status_due = made.status_due ∙ sym (ap (λ (c : Option Command). (due_for c made.input).status) named);
  text_due = subst (λ (c : Option Command). IsOwedText c made.input (text_bytes reply.text)) (sym named) made.text_due;
}

-- a run that made a reply and delivered it, or was stopped in it
pub run_replies : (words : List Text) (command : Command) (before after : Ports) (reply : Reply) (status : Status)
    → command_of words ≡ Some command
    → IsReply command before.left after.left reply
    → Delivered reply before.written after.written status
    ⊎ (Stopped reply before.written after.written status ×
    (Rose before.sink_faults after.sink_faults ⊎ Rose before.empty_puts after.empty_puts))
    → KeepsRoom before.room after.room
    → (before.empty_puts < after.empty_puts → (status ≡ WriteFault) × IsFull after.written after.room)
    → Runs words before after status
run_replies words command before after reply status named made (inl delivered) room empty_puts = record {
  ending = inl (record {
    input = made.input;
    text = (text_bytes reply.text);
    is_input = is_input words command before made.input named made.is_input;
    owed = subst (λ (s : Status). Owes words made.input s (text_bytes reply.text)) (sym delivered.is_status)
        (owed words command before.left after.left reply named made);
    written = delivered.whole;
    says = λ done. subst (λ (c : Option Command). Says c made.input (text_bytes reply.text)) (sym named)
        (made.says (sym delivered.is_status ∙ done));
    all_read = λ done reads.
        made.all_read (sym delivered.is_status ∙ done)
        (subst (λ (c : Option Command). IsTrue (words_read c)) named reads);
  });
  usage = (
    λ none. absurd (none_named words command named none),
    λ usage. absurd (never_usage command made.input (sym made.status_due ∙ sym delivered.is_status ∙ usage)),
  );
  room_kept = room;
  empty_puts = empty_puts;
}
run_replies words command before after reply status named made (inr stopped) room empty_puts = record {
  ending = inr (inr (inl (record {
    is_write_fault = stopped.0.is_write_fault;
    rose = stopped.1;
    input = made.input;
    text = (text_bytes reply.text);
    owed_status = reply.status;
    sent = stopped.0.sent;
    is_input = is_input words command before made.input named made.is_input;
    owed = owed words command before.left after.left reply named made;
    not_whole = stopped.0.not_whole;
    written = stopped.0.front;
  })));
  usage = (
    λ none. absurd (none_named words command named none),
    λ usage. let other = stopped.0.is_write_fault in cc,
  );
  room_kept = room;
  empty_puts = empty_puts;
}

whole_input : (before after : Option Text) (taken : Text) → Consumes before after taken → IsAtEnd after
    → IfSome before (λ bytes. taken ≡ bytes)
whole_input None after taken consumed at_end = tt
whole_input (Some bytes) None taken consumed at_end = absurd consumed
whole_input (Some bytes) (Some rest) taken consumed at_end =
    sym (consumed ∙ ap (λ (l : Text). taken ++ l) at_end ∙ append-nil taken)

none_left : (before after : Option Text) (taken : Text) → Consumes before after taken → IsAtEnd after
    → IfSome before (λ _. after ≡ Some [])
none_left None after taken consumed at_end = tt
none_left (Some bytes) None taken consumed at_end = absurd consumed
none_left (Some bytes) (Some rest) taken consumed at_end = ap Some at_end

-- what is owed of an input that is not too long
abbrev IsShort : Command → Text → Type 0
IsShort command input = nat_lt (limit_of command) (length input) ≡ false

short_status : (command : Command) (input : Text) (status : Status) → IsShort command input
    → status ≡ (due_within command input).status → status ≡ (due_for (Some command) input).status
short_status command input status short is =
    is ∙ sym (ap (λ (b : Bool). (if b then silent Long else due_within command input).status) short)

short_text : (command : Command) (input text : Text) → IsShort command input → IsOwedWithin command input text
    → IsOwedText (Some command) input text
short_text command input text short owed =
    subst (λ (b : Bool). MatchBool b (text ≡ []) (IsOwedWithin command input text)) (sym short) owed

input_read : (reads : Bool) (before : Option Text) (input : Text) → reads ≡ true
    → IfSome before (λ bytes. input ≡ bytes) → MatchBool reads (IfSome before (λ bytes. input ≡ bytes)) (input ≡ [])
input_read true before input is given = given
input_read false before input is given = absurd (cc)

-- a reading to the end, within the limit, makes the reply to what was read
pub short_replies : (command : Command) (before after : Option Text) (reply : Reply) (input taken : Text)
    → reads_input command ≡ true → input ≡ taken → length taken ≤ limit_of command → Consumes before after taken
    → IsAtEnd after
    → reply.status ≡ (due_within command input).status → IsOwedWithin command input (text_bytes reply.text)
    → (reply.status ≡ Done → Says (Some command) input (text_bytes reply.text)) → IsReply command before after reply
short_replies command before after reply input taken reads is_taken fits consumed at_end status text says =
    let within : IsShort command input =
    le-ltb (limit_of command) (length input) (omega (arith, ap length is_taken, fits)) in
    record {
      input = input;
      is_input = input_read (reads_input command) before input reads
          (subst (λ (l : Text). IfSome before (λ bytes. l ≡ bytes)) (sym is_taken)
          (whole_input before after taken consumed at_end));
      status_due = short_status command input reply.status within status;
      text_due = short_text command input (text_bytes reply.text) within text;
      says = says;
      all_read = λ done reads. none_left before after taken consumed at_end;
    }

-- a reading that took one byte more than the limit makes the reply Long
pub long_replies : (A : Type 0) (command : Command) (before after : Option Text) (reply : Reply) (end : ReadEnd)
    (limit : ℕ) (taken : Text)
    → reads_input command ≡ true → end ≡ Reading.Long → limit ≡ limit_of command → reply.status ≡ Long
    → (text_bytes reply.text) ≡ []
    → Took {A = A} limit (Err end) taken → Consumes before after taken → IsReply command before after reply
long_replies A command before after reply end limit taken reads is_long is_limit status text took consumed =
    let one_more : length taken ≡ limit_of command + 1 =
    subst (λ (e : ReadEnd). Took {A = A} limit (Err e) taken) is_long took ∙ ap (λ (n : ℕ). n + 1) is_limit in
    let given = long_input before after taken (limit_of command) consumed one_more in
    let past : nat_lt (limit_of command) (length given.0) ≡ true = lt-ltb (limit_of command) (length given.0) given.2 in
    record {
      input = given.0;
      is_input = input_read (reads_input command) before given.0 reads given.1;
      status_due =
          status ∙ sym (ap (λ (b : Bool). (if b then silent Long else due_within command given.0).status) past);
      text_due = subst (λ (b : Bool). MatchBool b (text_bytes reply.text ≡ [])
          (IsOwedWithin command given.0 (text_bytes reply.text))) (sym past) text;
      says = λ done. absurd (long_is_not_done reply.status status done);
      all_read = λ done reads. absurd (long_is_not_done reply.status status done);
    }

nothing_more : (written : Option Text) → Appends written written []
nothing_more None = tt
nothing_more (Some bytes) = sym (append-nil bytes)

same_room : (room : Option ℕ) → KeepsRoom room room
same_room None = tt
same_room (Some size) = refl

no_input : (words : List Text) (ports : Ports) → command_of words ≡ None → IsInput words ports []
no_input words ports none =
    let nothing : ◌≡◌ {A = Text} [] [] = refl in
    subst (λ (c : Option Command). MatchBool (words_read c)
    (IfSome ports.left (λ (bytes : Text). ◌≡◌ {A = Text} [] bytes))
    (◌≡◌ {A = Text} [] [])) (sym none) nothing

no_text : IsOwedText None [] []
no_text = refl

-- words that form no command end the run with Usage, and nothing is changed
pub run_none : (words : List Text) (ports : Ports) → command_of words ≡ None → Runs words ports ports Usage
run_none words ports none = record {
  ending = inl (record {
    input = [];
    text = [];
    is_input = no_input words ports none;
    owed = record {
      status_due = sym (ap (λ (c : Option Command). (due_for c []).status) none);
      text_due = subst (λ (c : Option Command). IsOwedText c [] []) (sym none) no_text;
    };
    written = nothing_more ports.written;
    says = λ done. absurd (cc);
    all_read = λ done reads. absurd (cc);
  });
  usage = (λ found. refl, λ usage. subst IsNone (sym none) refl);
  room_kept = same_room ports.room;
  empty_puts = λ more. absurd (omega arith);
}
