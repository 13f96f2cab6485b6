-- The records that a reader reached are all of a text, and no more than its bytes (`all_of`, `count_of`).
use Rattle.std.proofs.Common.{◌≡◌, ◌<◌, ◌≤◌, ◌+◌, ℕ, zero, suc, List, [], ◌∷◌, Some, None, Bool, true, false}
use Rattle.std.proofs.Common.{if◌then◌else◌, length, ◌++◌, refl, sym, arith, ◌==◌, ◌&&◌}
use Rattle.csv.specs.Machine.{Read, after_end, ends_at_end, ends_with, field_after, fields_after, in_field, is_byte}
use Rattle.csv.specs.Machine.{is_end, next_record, start_field, start_record, step}
use Rattle.csv.specs.Reading.{AreRecords, Reached, records_from, strip_bom}
use Rattle.csv.specs.declared.parser.Action.{Action}
use Rattle.csv.specs.declared.parser.Config.{Config}
use Rattle.csv.specs.declared.parser.State.{State}
use Rattle.csv.specs.declared.parser.State.TheVariants as st
use Rattle.csv.specs.declared.parser.Terminator.{Terminator}
use Rattle.csv.specs.declared.parser.Terminator.TheVariants as term

-- a byte that ends a record leaves a state in which no record has without_front
abbrev Rests : State × Action → Type 0
Rests next = is_end next.1 ≡ true → ends_at_end next.0 ≡ false

either_rests : (test : Bool) (first second : State × Action) → Rests first → Rests second
    → Rests (if test then first else second)
either_rests true first second left right = left
either_rests false first second left right = right

ended_rests : (terminator : Terminator) (byte : ℕ) → ends_at_end (after_end terminator byte) ≡ false
ended_rests term.CRLF byte = by (byte == 13)
  where
    by : (test : Bool) → ends_at_end (if test then st.AfterCr else st.StartRecord) ≡ false
    by true = refl
    by false = refl
ended_rests (term.Any last) byte = refl

field_rests : (config : Config) (byte : ℕ) → Rests (in_field config byte)
field_rests config byte = either_rests (byte == config.delimiter) _ _ (λ h. cc h)
    (either_rests (ends_with config.terminator byte) _ _ (λ h. ended_rests config.terminator byte) (λ h. cc h))

start_rests : (config : Config) (byte : ℕ) → Rests (start_field config byte)
start_rests config byte =
    either_rests (config.quoting && (byte == config.quote)) _ _ (λ h. cc h) (field_rests config byte)

record_rests : (config : Config) (byte : ℕ) → Rests (start_record config byte)
record_rests config byte = either_rests (ends_with config.terminator byte) _ _ (λ h. cc)
    (either_rests (is_byte config.comment byte) _ _ (λ h. cc h) (start_rests config byte))

step_rests : (config : Config) (state : State) (byte : ℕ) → Rests (step config state byte)
step_rests config st.StartRecord byte = record_rests config byte
step_rests config st.StartField byte = start_rests config byte
step_rests config st.InField byte = field_rests config byte
step_rests config st.InQuoted byte = either_rests (config.quoting && (byte == config.quote)) _ _ (λ h. cc h)
    (either_rests (config.quoting && is_byte config.escape byte) _ _ (λ h. cc h) (λ h. cc h))
step_rests config st.InEscape byte = λ h. cc h
step_rests config st.AfterQuote byte =
    either_rests (config.quoting && config.double_quote && (byte == config.quote)) _ _ (λ h. cc h)
    (field_rests config byte)
step_rests config st.InComment byte = either_rests (byte == 10) _ _ (λ h. cc) (λ h. cc h)
step_rests config st.AfterCr byte = either_rests (byte == 10) _ _ (λ h. cc) (record_rests config byte)

-- what is known after a record: no other has without_front, and no byte is left that was not there
abbrev Leaves : List ℕ → Read → Type 0
Leaves text read = (ends_at_end read.1 ≡ false) × (length read.2 ≤ length text)

leaves_last : (test : Bool) (fields : List (List ℕ)) (read : Read)
    → (if test then Some (fields, st.StartRecord, []) else None) ≡ Some read → Leaves [] read
leaves_last true fields read is =
    let same : (fields, st.StartRecord, []) ≡ read = cc in
    (rw (← same) refl, rw (← same) (omega arith))
leaves_last false fields read is = cc is

-- a record leaves so
leaves : (config : Config) (state : State) (fields : List (List ℕ)) (field text : List ℕ) (read : Read)
    → next_record config state fields field text ≡ Some read → Leaves text read
unfolding next_record
leaves config state fields field [] read is = leaves_last (ends_at_end state) (fields ++ (field ∷ [])) read is
leaves config state fields field (byte ∷ rest) read is =
    by (is_end (step config state byte).1) refl is (leaves config (step config state byte).0 _ _ rest read)
  where
    by : (test : Bool) → is_end (step config state byte).1 ≡ test
        → (if is_end (step config state byte).1
        then Some (fields_after (step config state byte).1 fields field, (step config state byte).0, rest)
        else next_record config (step config state byte).0 (fields_after (step config state byte).1 fields field)
        (field_after (step config state byte).1 byte field) rest) ≡ Some read
        → (next_record config (step config state byte).0 (fields_after (step config state byte).1 fields field)
        (field_after (step config state byte).1 byte field) rest ≡ Some read → Leaves rest read)
        → Leaves (byte ∷ rest) read
    by true ends found more =
        let here = rw ends at found in
        let state_is : (step config state byte).0 ≡ read.1 = cc in
        let rest_is : rest ≡ read.2 = cc in
        (rw (← state_is) (step_rests config state byte ends), rw (← rest_is) (omega arith))
    by false ends found more =
        let later = more (rw ends at found) in
        (later.0, omega arith)

-- where none has without_front, a record takes a byte
takes : (config : Config) (state : State) (text : List ℕ) (read : Read) → ends_at_end state ≡ false
    → next_record config state [] [] text ≡ Some read → length read.2 < length text
unfolding next_record
takes config state [] read resting is = cc (rw resting at is)
takes config state (byte ∷ rest) read resting is =
    by (is_end (step config state byte).1) refl is
  where
    by : (test : Bool) → is_end (step config state byte).1 ≡ test
        → (if is_end (step config state byte).1
        then Some (fields_after (step config state byte).1 [] [], (step config state byte).0, rest)
        else next_record config (step config state byte).0 (fields_after (step config state byte).1 [] [])
        (field_after (step config state byte).1 byte []) rest) ≡ Some read
        → length read.2 < length (byte ∷ rest)
    by true ends found =
        let here = rw ends at found in
        let rest_is : rest ≡ read.2 = cc in
        rw (← rest_is) (omega arith)
    by false ends found =
        let later = leaves config (step config state byte).0 _ _ rest read (rw ends at found) in
        omega (arith, later.1)

all_from : (config : Config) (state end : State) (text rest : List ℕ) (rows : List (List (List ℕ))) (count : ℕ)
    → ends_at_end state ≡ false → length text < count → Reached config state text rows end rest
    → next_record config end [] [] rest ≡ None → records_from config count state text ≡ rows
unfolding Reached records_from
all_from config state end text rest rows zero resting fits reached none = absurd (omega arith)
all_from config state end text rest [] (suc count) resting fits reached none = rw (reached.0, reached.1, none) refl
all_from config state end text rest (row ∷ rows) (suc count) resting fits reached none =
    let (read, is, first, later) = reached in
    let left = leaves config state [] [] text read is in
    let fewer = takes config state text read resting is in
    let same = all_from config read.1 end read.2 rest rows count left.0 (omega arith) later none in
    rw (is, first, same) refl

-- the records that were read are all of the text
pub all_of : (config : Config) (text : List ℕ) (rows : List (List (List ℕ)))
    → AreRecords config st.StartRecord text rows → rows ≡ records_from config (length text + 1) st.StartRecord text
all_of config text rows are =
    let (end, rest, reached, none) = are in
    sym (all_from config st.StartRecord end text rest rows (length text + 1) refl (omega arith) reached none)

count_from : (config : Config) (state end : State) (text rest : List ℕ) (rows : List (List (List ℕ)))
    → ends_at_end state ≡ false → Reached config state text rows end rest → length rows ≤ length text
unfolding Reached
count_from config state end text rest [] resting reached = omega arith
count_from config state end text rest (row ∷ rows) resting reached =
    let (read, is, first, later) = reached in
    let left = leaves config state [] [] text read is in
    let fewer = takes config state text read resting is in
    let few = count_from config read.1 end read.2 rest rows left.0 later in
    omega arith

stripped_short : (text : List ℕ) → length (strip_bom text) ≤ length text
unfolding strip_bom
stripped_short [] = omega arith
stripped_short (a ∷ []) = omega arith
stripped_short (a ∷ b ∷ []) = omega arith
stripped_short (a ∷ b ∷ c ∷ rest) = by ((a == 0xEF) && (b == 0xBB) && (c == 0xBF))
  where
    by : (test : Bool) → length (if test then rest else a ∷ b ∷ c ∷ rest) ≤ length (a ∷ b ∷ c ∷ rest)
    by true = omega arith
    by false = omega arith

-- they are no more than the bytes of the text, with or without a mark in front
pub count_of : (config : Config) (text : List ℕ) (rows : List (List (List ℕ)))
    → AreRecords config st.StartRecord (strip_bom text) rows → length rows ≤ length text
count_of config text rows are =
    let (end, rest, reached, none) = are in
    let few = count_from config st.StartRecord end (strip_bom text) rest rows refl reached in
    let short = stripped_short text in
    omega arith
