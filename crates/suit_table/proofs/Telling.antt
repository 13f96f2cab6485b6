-- What is told of records, one by one, is the lines of a table (`table_of`).
use Rattle.std.proofs.Common.{◌≡◌, ◌<◌, ℕ, suc, List, [], ◌∷◌, Result, Ok, Err, None}
use Rattle.std.proofs.Common.{get_or, length, map, refl, sym, ap, arith}
use Rattle.std.specs.Prelude.{flat_map, MatchResult}
use Rattle.csv.specs.Records.{Row, fields_of}
use Rattle.suit_cards.specs.Cards.{Text}
use Rattle.suit_game.specs.declared.question.Question.{Question}
use Rattle.suit_question.specs.declared.faults.QuestionFault.{QuestionFault}
use Rattle.suit_table.specs.declared.judging.Entry.{Entry}
use Rattle.suit_table.specs.declared.judging.Finding.{Finding}
use Rattle.suit_table.specs.declared.judging.Finding.TheVariants.{Judged, Faulty}
use Rattle.suit_table.specs.declared.judging.Told.{Told}
use Rattle.suit_table.specs.declared.outcomes.Outcome.{Outcome}
use Rattle.suit_table.specs.Entries.{entries_from, entry_of}
use Rattle.suit_table.specs.Fields.{question_named}
use Rattle.suit_table.specs.Judging.{IsFound, IsTold, finding_line, told_line}
use Rattle.suit_table.specs.Outcomes.{Fit, fault_line, outcome_line}
use Rattle.suit_table.specs.Records.{Record, first_misfit, records_of}
use Rattle.suit_table.specs.Tables.{AreLines, IsRecordLine, IsTable}

-- the line of what is found of a record that was read so
found_line : (Fits : Fit) (number : ℕ) (read : Result Question QuestionFault) (finding : Finding)
    → IsFound Fits read finding → MatchResult read
    (λ question. (outcome : Outcome) × Fits question outcome
    × (finding_line number finding ≡ outcome_line number question outcome))
    (λ fault. finding_line number finding ≡ fault_line number fault.kind)
found_line Fits number (Ok question) (Judged asked outcome) found =
    (outcome, found.1, ap (λ (one : Question). outcome_line number one outcome) found.0)
found_line Fits number (Ok question) (Faulty kind) found = absurd found
found_line Fits number (Err fault) (Judged asked outcome) found = absurd found
found_line Fits number (Err fault) (Faulty kind) found = ap (fault_line number) found

told_first : (Fits : Fit) (number : ℕ) (fields : Record) (told : Told) → IsTold Fits (entry_of number fields) told
    → IsRecordLine Fits number fields (told_line told)
told_first Fits number fields told is =
    rw is.number (found_line Fits number (question_named number fields) told.finding is.found)

-- each is told of its own record
abbrev AreTold : Fit → List Entry → List Told → Type 0
AreTold Fits entries told = (index : ℕ) (entry : Entry) (one : Told) → index < length entries
    → IsTold Fits (get_or entries index entry) (get_or told index one)

pub lines_of : (Fits : Fit) (number : ℕ) (records : List Record) (told : List Told)
    → length told ≡ length (entries_from number records) → AreTold Fits (entries_from number records) told
    → AreLines Fits number records (flat_map told_line told)
unfolding entries_from AreLines
lines_of Fits number [] [] same each = refl
lines_of Fits number [] (one ∷ told) same each = absurd (omega arith)
lines_of Fits number (fields ∷ records) [] same each = absurd (omega arith)
lines_of Fits number (fields ∷ records) (one ∷ told) same each =
    let first = each 0 (entry_of number fields) one (omega arith) in
    let later = lines_of Fits (suc number) records told (omega arith)
    (λ index entry other within. each (suc index) entry other (omega arith)) in
    (told_line one, flat_map told_line told, told_first Fits number fields one first, later, refl)

-- the text of what is told of all records is a table
pub table_of : (Fits : Fit) (input text : Text) (rows : List Row) (entries : List Entry) (told : List Told)
    → map fields_of rows ≡ records_of input → None ≡ first_misfit (map fields_of rows)
    → entries ≡ entries_from 1 (map fields_of rows) → length told ≡ length entries → AreTold Fits entries told
    → text ≡ flat_map told_line told → IsTable Fits input text
table_of Fits input text rows entries told are fit read count each is =
    let same = rw read at count in
    let each_of = rw read at each in
    let lines = lines_of Fits 1 (map fields_of rows) told same each_of in
    record {
      fit = sym (rw are at fit);
      lines = rw (is, ← are) lines;
    }
