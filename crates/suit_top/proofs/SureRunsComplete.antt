-- Where no port fails a run ends as it owes, but for want of memory (`runs_complete`, `sure_runs_complete`).
use Rattle.std.proofs.Common.{◌≡◌, ◌⊎◌, ℕ, ◌+◌, ◌-◌, ◌^◌, ◌<◌, ◌≤◌, Bool, true, false, Option, None, Some, List, []}
use Rattle.std.proofs.Common.{◌∷◌}
use Rattle.std.proofs.Common.{length, take, sym, ap, ◌∙◌, subst, inl, inr, arith, length-append, Result}
use Rattle.std.specs.Prelude.{IfSome, MatchBool, codes, if◌then◌else◌}
use Rattle.std.specs.Io.KnownBytes.{Appends}
use Rattle.std.proofs.lemmas.Bool.{le-ltb}
use Rattle.std.proofs.lemmas.List.{length-take}
use Rattle.suit_cards.specs.Cards.{Text}
use Rattle.suit_ports.specs.PortCounts.{Rose}
use Rattle.suit_ports.specs.Room.{IsFull, KeepsRoom}
use Rattle.suit_game.specs.declared.question.Question.{Question}
use Rattle.suit_question.specs.Reading.{question_read}
use Rattle.suit_solve.specs.Fates.{Fate}
use Rattle.suit_question.specs.declared.faults.QuestionFault.{QuestionFault}
use Rattle.suit_top.specs.declared.commands.TheConstants.{MOST_INPUT}
use Rattle.suit_top.specs.declared.status.Status.{Status}
use Rattle.suit_top.specs.declared.status.Status.TheVariants.{Long, Memory}
use Rattle.suit_top.specs.Asking.{due_of_read}
use Rattle.suit_top.specs.Commands.{command_of, words_read}
use Rattle.suit_top.specs.Commands.Solve.{due_of_fate, due_solving}
use Rattle.suit_top.specs.Completeness.{IsToldInput, RunsComplete, SolvesComplete}
use Rattle.suit_top.specs.Completeness.{SureRunsComplete}
use Rattle.suit_top.specs.Dues.{silent}
use Rattle.suit_top.specs.Owing.{due, IsOwedText}
use Rattle.suit_top.specs.Runs.{Ended, LackedMemory, Ports, SinkFailed, SourceFailed}

-- the input of a run is what its source told
input_told : (reads : Bool) (left : Option Text) (input told : Text) → MatchBool reads (left ≡ Some told) (told ≡ [])
    → MatchBool reads (IfSome left (λ bytes. input ≡ bytes)) (input ≡ []) → input ≡ told
input_told true (Some bytes) input told is same = let tells : bytes ≡ told = cc in same ∙ tells
input_told true None input told is same = absurd (cc)
input_told false left input told is same = same ∙ sym is

-- a run that ended as it owes ended with the status that is due
owed_status : (words : List Text) (input : Text) (before after : Ports) (status : Status)
    → Ended words before after status → IsToldInput words before input → status ≡ (due words input).status
owed_status words input before after status ended told =
    ended.owed.status_due ∙ ap (λ (l : Text). (due words l).status)
    (input_told (words_read (command_of words)) before.left ended.input input told ended.is_input)

pub runs_complete : RunsComplete
runs_complete words input before after status runs none told = by_ending runs.ending
  where
    by_ending : Ended words before after status ⊎ (SourceFailed words before after status
        ⊎ (SinkFailed words before after status ⊎ LackedMemory words before after status))
        → (status ≡ (due words input).status) ⊎ (status ≡ Memory)
    by_ending (inl ended) = inl (owed_status words input before after status ended told)
    by_ending (inr (inl failed)) = absurd (none.source failed.rose)
    by_ending (inr (inr (inl failed))) = elim failed.rose [
      | inl faults ↦ absurd (none.sink faults)
      | inr puts ↦ absurd (none.puts puts)
    ]
    by_ending (inr (inr (inr lacked))) = inr lacked.is_memory

pub solves_complete : SolvesComplete
solves_complete input question answer before after status runs none told fits read is =
    elim (runs_complete (codes "solve" ∷ []) input before after status runs none told) [
      | inl owed ↦ inl (owed
          ∙ ap (λ (b : Bool). (if b then silent Long else due_of_read due_solving (question_read input)).status)
          (le-ltb MOST_INPUT (length input) fits)
          ∙ ap (λ (found : Result Question QuestionFault). (due_of_read due_solving found).status) read
          ∙ ap (λ (found : Fate). (due_of_fate question found).status) is)
      | inr lacked ↦ inr lacked
    ]

-- a count that stays at 0 did not rise
never_rose : (before after : ℕ) → before ≡ 0 → after ≡ 0 → Rose before after → ⊥
never_rose before after first last (inl less) = omega (arith, first, last, less)
never_rose before after first last (inr high) = omega (arith, last, high)

-- a count that rose below its last value is greater
rose_more : (before after : ℕ) → before < 2 ^ 64 - 1 → Rose before after → before < after
rose_more before after below (inl less) = less
rose_more before after below (inr high) = omega (arith, below, high)

-- a sink with room for a text is not full where it has not the whole
not_full : (before after : Option Text) (held kept : Option ℕ) (bytes text : Text) (room sent : ℕ)
    → before ≡ Some bytes → held ≡ Some room → KeepsRoom held kept → Appends before after (take sent text)
    → IsFull after kept → sent < length text → length bytes + length text ≤ room → ⊥
not_full None after held kept bytes text room sent first told keeps written full less enough = absurd (cc)
not_full (Some old) None held kept bytes text room sent first told keeps written full less enough = absurd written
not_full (Some old) (Some new) None kept bytes text room sent first told keeps written full less enough =
    absurd (cc)
not_full (Some old) (Some new) (Some size) None bytes text room sent first told keeps written full less enough =
    absurd (cc)
not_full (Some old) (Some new) (Some size) (Some left) bytes text room sent first told keeps written full less
    enough =
    let same : old ≡ bytes = cc in
    let sizes : size ≡ room = cc in
    let stays : left ≡ size = cc in
    omega (
      arith,
      ap length written,
      length-append old (take sent text),
      length-take {A = ℕ},
      ap length same,
      sizes,
      stays,
      full,
      less,
      enough,
    )

pub sure_runs_complete : SureRunsComplete
sure_runs_complete words input before after status runs sure = by_ending runs.ending
  where
    clash : (failed : SinkFailed words before after status) → Rose before.empty_puts after.empty_puts → ⊥
    clash failed puts =
        let more : before.empty_puts < after.empty_puts =
        rose_more before.empty_puts after.empty_puts sure.puts puts in
        let same : failed.input ≡ input = input_told (words_read (command_of words)) before.left failed.input input
        sure.read failed.is_input in
        let owed : IsOwedText (command_of words) input failed.text =
        subst (λ (l : Text). IsOwedText (command_of words) l failed.text) same failed.owed.text_due in
        not_full before.written after.written before.room after.room sure.bytes failed.text sure.room failed.sent
        sure.written sure.holds runs.room_kept failed.written (runs.empty_puts more).1 failed.not_whole
        (sure.enough failed.text owed)

    by_ending : Ended words before after status ⊎ (SourceFailed words before after status
        ⊎ (SinkFailed words before after status ⊎ LackedMemory words before after status))
        → (status ≡ (due words input).status) ⊎ (status ≡ Memory)
    by_ending (inl ended) = inl (owed_status words input before after status ended sure.read)
    by_ending (inr (inl failed)) =
        absurd (never_rose before.source_faults after.source_faults sure.source_before sure.source_after failed.rose)
    by_ending (inr (inr (inl failed))) = elim failed.rose [
      | inl faults ↦
          absurd (never_rose before.sink_faults after.sink_faults sure.sink_before sure.sink_after faults)
      | inr puts ↦ absurd (clash failed puts)
    ]
    by_ending (inr (inr (inr lacked))) = inr lacked.is_memory
