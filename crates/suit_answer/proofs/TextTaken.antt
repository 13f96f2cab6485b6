-- `text_taken`: what is read from a text is written as that text, and can be written.
use Rattle.std.proofs.Common.{ℕ, zero, suc, ◌+◌, ◌≤◌, ◌≡◌, ◌==◌, ◌&&◌, Bool, true, false, cond, List, [], ◌∷◌, ◌++◌}
use Rattle.std.proofs.Common.{length, map, codes, ℤ, Option, Some, None, Result, Ok, Err, refl, sym, ap}
use Rattle.std.proofs.Common.{◌∙◌, subst, append_assoc, arith}
use Rattle.std.specs.Prelude.{⊤}
use Rattle.std.specs.Fmt.{signed_decimal}
use Rattle.std.specs.List.{AllByRecursion, flat_map, join_with_byte, slice_split}
use Rattle.std.specs.Option.{ok_or, option_and_then}
use Rattle.std.specs.Str.{bytes_eq}
use Rattle.std.proofs.lemmas.List.{append-nil}
use Rattle.std.proofs.lemmas.List.Concat.{flat_map-cons}
use Rattle.std.proofs.lemmas.List.Elements.{All-from_recursion}
use Rattle.std.proofs.lemmas.List.FromFn.{length-map-range_with_len}
use Rattle.std.proofs.lemmas.List.Splits.{join_with_byte-slice_split}
use Rattle.suit_cards.specs.Cards.{Text}
use Rattle.suit_num.specs.declared.fraction.Frac.{Frac}
use Rattle.suit_game.specs.declared.question.Question.{Question}
use Rattle.suit_classes.specs.Classes.{class_count, defence_classes, hands_of}
use Rattle.suit_plans.specs.declared.plan.Row.{Row}
use Rattle.suit_plans.specs.declared.defence.DefenceRow.{DefenceRow}
use Rattle.suit_text.specs.Strict.{pieces_of, words_of, is_filled}
use Rattle.suit_answer.specs.Forms.{two_filled, after_keyword, slash_sides, one_fraction, value_form}
use Rattle.suit_answer.specs.Forms.{header_form}
use Rattle.suit_answer.specs.Fractions.{fraction_by, fraction_of}
use Rattle.suit_answer.specs.LowestTerms.{is_lowest}
use Rattle.suit_answer.specs.Lines.{line_due}
use Rattle.suit_answer.specs.Numbers.{number_due, small_due}
use Rattle.suit_answer.specs.Reading.{version_due, value_due, header_due, rows_due, part_due, is_over, nothing_after}
use Rattle.suit_answer.specs.Letters.{class_letter, class_letters}
use Rattle.suit_answer.specs.Reading.{end_due, answer_due, answer_read}
use Rattle.suit_answer.specs.Results.{◌>>=◌}
use Rattle.suit_answer.specs.Rows.{plan_row_due, defence_row_due}
use Rattle.suit_answer.specs.Alone.{made_plan, made_defence}
use Rattle.suit_answer.specs.Writable.{IsWritable, IsWritableNumber, IsWritableRow, IsWritableDefenceRow}
use Rattle.suit_answer.specs.Writable.{IsWritablePlan, IsWritableDefence}
use Rattle.suit_answer.specs.Writing.{spaced, line_text, value_words, header_words, plan_row_words, defence_row_words}
use Rattle.suit_answer.specs.Writing.{part_lines, answer_lines, text_of}
use Rattle.suit_answer.specs.declared.answer.Answer.{Answer}
use Rattle.suit_answer.specs.declared.faults.AnswerFault.{AnswerFault}
use Rattle.suit_answer.specs.declared.faults.AnswerFault.TheVariants.{Version, Line, Number, Tail}
use Rattle.suit_answer.specs.declared.parts.TheConstants.{MOST_ROWS}
use Rattle.suit_answer.proofs.NumberWords.{passed, number_taken, small_taken}
use Rattle.suit_answer.proofs.RowWords.{plan_row_taken, defence_row_taken}
use Rattle.suit_answer.proofs.WordsInARow.{spaced_none, spaced_next, answer_spelled}
use Rattle.suit_answer.proofs.Steps.{bind_ok, ok_is, chosen_ok, some_ok, same_text}

-- the text of pieces
abbrev pub joined : List Text → Text
joined pieces = join_with_byte 10 pieces

pub joined_pieces : (text : Text) → joined (pieces_of text) ≡ text
unfolding pieces_of
joined_pieces text = join_with_byte-slice_split 10 text

-- words one space apart
next_spaced : (word : Text) (words : List Text) → join_with_byte 32 (word ∷ words) ≡ word ++ spaced words
next_spaced word [] = sym (ap (λ (rest : Text). word ++ rest) spaced_none ∙ append-nil word)
next_spaced word (next ∷ words) =
    ap (λ (rest : Text). word ++ 32 ∷ rest) (next_spaced next words)
    ∙ ap (λ (rest : Text). word ++ rest) (sym (spaced_next next words))

fed : (words : List Text) (rest : Text) → join_with_byte 32 words ++ 10 ∷ rest ≡ line_text words ++ rest
fed [] rest = refl
fed (word ∷ words) rest =
    ap (λ (line : Text). line ++ 10 ∷ rest) (next_spaced word words)
    ∙ append_assoc word (spaced words) (10 ∷ rest)
    ∙ sym (append_assoc word (spaced words ++ 10 ∷ []) rest
    ∙ ap (λ (more : Text). word ++ more) (append_assoc (spaced words) (10 ∷ []) rest))

line_spelled : (line : Text) → join_with_byte 32 (words_of line) ≡ line
unfolding words_of
line_spelled line = join_with_byte-slice_split 32 line

cut_is : (line : ℕ) (pieces : List Text) (cut : Text × List Text) → line_due line pieces ≡ Ok cut
    → joined pieces ≡ cut.0 ++ 10 ∷ joined cut.1
cut_is line [] cut h = absurd cc
cut_is line (piece ∷ []) cut h = absurd cc
cut_is line (piece ∷ next ∷ pieces) cut h =
    let same : (piece, next ∷ pieces) ≡ cut = ok_is (piece, next ∷ pieces) cut h in
    subst (λ (c : Text × List Text). joined (piece ∷ next ∷ pieces) ≡ c.0 ++ 10 ∷ joined c.1) same refl

-- a line that is read, and what is left
pub line_taken : (line : ℕ) (pieces : List Text) (cut : Text × List Text) (words : List Text)
    → line_due line pieces ≡ Ok cut → words_of cut.0 ≡ words → joined pieces ≡ line_text words ++ joined cut.1
line_taken line pieces cut words h spelled =
    cut_is line pieces cut h
    ∙ ap (λ (text : Text). text ++ 10 ∷ joined cut.1)
    (sym (line_spelled cut.0) ∙ ap (λ (ws : List Text). join_with_byte 32 ws) spelled)
    ∙ fed words (joined cut.1)

-- rows that are read
module _ {R : Type 0} (row : ℕ → List Text → Result R AnswerFault) (row_words : R → List Text) (P : R → Type 0)
    (row_taken : (line : ℕ) (words : List Text) (r : R) → row line words ≡ Ok r → (words ≡ row_words r) × P r) where
  RowsTaken : ℕ → List Text → List R × List Text → Type 0
  RowsTaken count pieces found = (joined pieces ≡ flat_map line_text (map row_words found.0) ++ joined found.1)
      × (length found.0 ≡ count) × AllByRecursion P found.0

  rows_taken : (line count : ℕ) (pieces : List Text) (found : List R × List Text)
      → rows_due row line count pieces ≡ Ok found → RowsTaken count pieces found
  unfolding rows_due RowsTaken
  rows_taken line zero pieces found h =
      subst (λ (f : List R × List Text). (joined pieces ≡ flat_map line_text (map row_words f.0) ++ joined f.1)
      × (length f.0 ≡ 0) × AllByRecursion P f.0) (ok_is ([], pieces) found h) (refl, refl, tt)
  rows_taken line (suc count) pieces found h =
      let next = bind_ok (line_due line pieces) (λ next. (row line (words_of next.0) >>= λ first.
      (rows_due row (line + 1) count next.1 >>= λ more. Ok (first ∷ more.0, more.1)))) found h in
      let first = bind_ok (row line (words_of next.0.0)) (λ first. (rows_due row (line + 1) count next.0.1
      >>= λ more. Ok (first ∷ more.0, more.1))) found next.2 in
      let more = bind_ok (rows_due row (line + 1) count next.0.1) (λ more. Ok (first.0 ∷ more.0, more.1)) found
      first.2 in
      let taken = row_taken line (words_of next.0.0) first.0 first.1 in
      let rest = rows_taken (line + 1) count next.0.1 more.0 more.1 in
      let lines = flat_map line_text (map row_words more.0.0) in
      let text : joined pieces ≡ flat_map line_text (map row_words (first.0 ∷ more.0.0)) ++ joined more.0.1 =
      line_taken line pieces next.0 (row_words first.0) next.1 taken.0
      ∙ ap (λ (after : Text). line_text (row_words first.0) ++ after) rest.0
      ∙ sym (append_assoc (line_text (row_words first.0)) lines (joined more.0.1))
      ∙ ap (λ (front : Text). front ++ joined more.0.1)
      (sym (flat_map-cons line_text (row_words first.0) (map row_words more.0.0))) in
      subst (λ (f : List R × List Text). (joined pieces ≡ flat_map line_text (map row_words f.0) ++ joined f.1)
      × (length f.0 ≡ suc count) × AllByRecursion P f.0) (ok_is (first.0 ∷ more.0.0, more.0.1) found more.2)
      (text, ap suc rest.1, (taken.1, rest.2))

after_taken : (keyword : Text) (words rest : List Text) → after_keyword keyword words ≡ Some rest
    → words ≡ keyword ∷ rest
after_taken keyword [] rest h = absurd cc
after_taken keyword (word ∷ words) rest h =
    let found = passed (bytes_eq word keyword) (Some words) rest h in
    let same : words ≡ rest = (let e = found.1 in cc) in
    λ i. same_text word keyword found.0 i ∷ same i

filled_taken : (texts : List Text) (found : Text × Text) → two_filled texts ≡ Some found
    → texts ≡ found.0 ∷ found.1 ∷ []
filled_taken [] found h = absurd cc
filled_taken (first ∷ []) found h = absurd cc
filled_taken (first ∷ second ∷ []) found h =
    let passing = passed (is_filled first && is_filled second) (Some (first, second)) found h in
    let same : (first, second) ≡ found = (let e = passing.1 in cc) in
    λ i. (same i).0 ∷ (same i).1 ∷ []
filled_taken (first ∷ second ∷ more ∷ texts) found h = absurd cc

then_some : {A B : Type 0} (o : Option A) (next : A → Option B) (y : B) → option_and_then next o ≡ Some y
    → (x : A) × (o ≡ Some x) × (next x ≡ Some y)
then_some None next y h = absurd cc
then_some (Some x) next y h = (x, refl, h)

sides_taken : (word : Text) (sides : Text × Text) → slash_sides word ≡ Some sides → word ≡ sides.0 ++ 47 ∷ sides.1
sides_taken word sides h =
    let parts = filled_taken (slice_split (λ byte. byte == 47) word) sides h in
    sym (join_with_byte-slice_split 47 word) ∙ ap (λ (ps : List Text). join_with_byte 47 ps) parts

fraction_taken : (words : List Text) (sides : Text × Text) → one_fraction words ≡ Some sides
    → words ≡ (sides.0 ++ 47 ∷ sides.1) ∷ []
fraction_taken [] sides h = absurd cc
fraction_taken (word ∷ []) sides h = ap (λ (w : Text). w ∷ []) (sides_taken word sides h)
fraction_taken (word ∷ more ∷ words) sides h = absurd cc

by_some : (num den : ℤ) (outcome : Bool) (e : is_lowest num den ≡ outcome) (value : Frac)
    → fraction_by num den outcome e ≡ Some value → (num ≡ value.num) × (den ≡ value.den)
by_some num den true e value h =
    let got : (f : Frac) → Some f ≡ Some value → f ≡ value = λ f same. cc in
    let same = got _ h in
    (ap (λ (f : Frac). f.num) same, ap (λ (f : Frac). f.den) same)
by_some num den false e value h = absurd cc

-- a value that is read
value_taken : (line : ℕ) (words : List Text) (value : Frac) → value_due line words ≡ Ok value
    → (words ≡ value_words value) × IsWritableNumber value.num × IsWritableNumber value.den
unfolding value_due
value_taken line words value h =
    let sides = bind_ok (ok_or (value_form words) (Line line)) (λ sides. (number_due line sides.0 >>= λ num.
    (number_due line sides.1 >>= λ den. ok_or (fraction_of num den) (Number line)))) value h in
    let num = bind_ok (number_due line sides.0.0) (λ num. (number_due line sides.0.1 >>= λ den.
    ok_or (fraction_of num den) (Number line))) value sides.2 in
    let den = bind_ok (number_due line sides.0.1) (λ den. ok_or (fraction_of num.0 den) (Number line)) value num.2 in
    let told = by_some num.0 den.0 (is_lowest num.0 den.0) refl value
    (some_ok (fraction_of num.0 den.0) (Number line) value den.2) in
    let form = then_some (after_keyword (codes "value") words) one_fraction sides.0
    (some_ok (value_form words) (Line line) sides.0 sides.1) in
    let left = number_taken line sides.0.0 num.0 num.1 in
    let right = number_taken line sides.0.1 den.0 den.1 in
    let spelled : words ≡ codes "value" ∷ (sides.0.0 ++ 47 ∷ sides.0.1) ∷ [] =
    after_taken (codes "value") words form.0 form.1
    ∙ ap (λ (rest : List Text). codes "value" ∷ rest) (fraction_taken form.0 sides.0 form.2) in
    let numbers : (sides.0.0 ++ 47 ∷ sides.0.1) ≡ signed_decimal value.num ++ 47 ∷ signed_decimal value.den =
    (λ i. left.0 i ++ 47 ∷ right.0 i)
    ∙ (λ i. signed_decimal (told.0 i) ++ 47 ∷ signed_decimal (told.1 i)) in (
      spelled ∙ ap (λ (word : Text). codes "value" ∷ word ∷ []) numbers,
      subst IsWritableNumber told.0 left.1,
      subst IsWritableNumber told.1 right.1,
    )

-- a header that is read
header_taken : (keyword : Text) (line : ℕ) (words : List Text) (found : ℤ × ℕ)
    → header_due keyword line words ≡ Ok found
    → (words ≡ header_words keyword found.0 found.1) × IsWritableNumber found.0 × (found.1 ≤ MOST_ROWS)
unfolding header_due
header_taken keyword line words found h =
    let numbers = bind_ok (ok_or (header_form keyword words) (Line line)) (λ numbers. (number_due line numbers.0
    >>= λ den. (small_due MOST_ROWS line numbers.1 >>= λ rows. Ok (den, rows)))) found h in
    let den = bind_ok (number_due line numbers.0.0) (λ den. (small_due MOST_ROWS line numbers.0.1 >>= λ rows.
    Ok (den, rows))) found numbers.2 in
    let rows = bind_ok (small_due MOST_ROWS line numbers.0.1) (λ rows. Ok (den.0, rows)) found den.2 in
    let form = then_some (after_keyword keyword words) two_filled numbers.0
    (some_ok (header_form keyword words) (Line line) numbers.0 numbers.1) in
    let left = number_taken line numbers.0.0 den.0 den.1 in
    let right = small_taken MOST_ROWS line numbers.0.1 rows.0 rows.1 in
    let spelled : words ≡ header_words keyword den.0 rows.0 =
    after_taken keyword words form.0 form.1
    ∙ ap (λ (rest : List Text). keyword ∷ rest) (filled_taken form.0 numbers.0 form.2)
    ∙ (λ i. keyword ∷ left.0 i ∷ right.0 i ∷ []) in
    subst (λ (f : ℤ × ℕ). (words ≡ header_words keyword f.0 f.1) × IsWritableNumber f.0 × (f.1 ≤ MOST_ROWS))
    (ok_is (den.0, rows.0) found rows.2) (spelled, left.1, right.1)

-- a part that is read
module _ {R : Type 0} (keyword : Text) (row : ℕ → List Text → Result R AnswerFault) (row_words : R → List Text)
    (P : R → Type 0)
    (row_taken : (line : ℕ) (words : List Text) (r : R) → row line words ≡ Ok r → (words ≡ row_words r) × P r) where
  pub record PartTaken (pieces : List Text) (found : ℤ × List R × ℕ × List Text) : Type 0 where
    pub text : joined pieces ≡ flat_map line_text (part_lines keyword row_words found.0 found.1) ++ joined found.3
    pub den : IsWritableNumber found.0
    pub few : length found.1 ≤ MOST_ROWS
    pub rows : AllByRecursion P found.1

  pub part_taken : (line : ℕ) (pieces : List Text) (found : ℤ × List R × ℕ × List Text)
      → part_due keyword row line pieces ≡ Ok found → PartTaken pieces found
  unfolding part_due RowsTaken
  part_taken line pieces found h =
      let next = bind_ok (line_due line pieces) (λ next. (header_due keyword line (words_of next.0) >>= λ header.
      (rows_due row (line + 1) header.1 next.1 >>= λ rows. Ok (header.0, rows.0, line + 1 + header.1, rows.1)))) found
      h in
      let header = bind_ok (header_due keyword line (words_of next.0.0)) (λ header.
      (rows_due row (line + 1) header.1 next.0.1 >>= λ rows. Ok (header.0, rows.0, line + 1 + header.1, rows.1))) found
      next.2 in
      let rows = bind_ok (rows_due row (line + 1) header.0.1 next.0.1) (λ rows.
      Ok (header.0.0, rows.0, line + 1 + header.0.1, rows.1)) found header.2 in
      let front = header_taken keyword line (words_of next.0.0) header.0 header.1 in
      let taken = rows_taken row row_words P row_taken (line + 1) header.0.1 next.0.1 rows.0 rows.1 in
      let den = header.0.0 in
      let count : length rows.0.0 ≡ header.0.1 = taken.1 in
      let few : header.0.1 ≤ MOST_ROWS = front.2 in
      let spelled : words_of next.0.0 ≡ header_words keyword den (length rows.0.0) =
      front.0 ∙ ap (λ (n : ℕ). header_words keyword den n) (sym count) in
      let lines = flat_map line_text (map row_words rows.0.0) in
      let header_text = line_text (header_words keyword den (length rows.0.0)) in
      let text : joined pieces
      ≡ flat_map line_text (part_lines keyword row_words den rows.0.0) ++ joined rows.0.1 =
      line_taken line pieces next.0 (header_words keyword den (length rows.0.0)) next.1 spelled
      ∙ ap (λ (after : Text). header_text ++ after) taken.0
      ∙ sym (append_assoc header_text lines (joined rows.0.1))
      ∙ ap (λ (before : Text). before ++ joined rows.0.1)
      (sym (flat_map-cons line_text (header_words keyword den (length rows.0.0)) (map row_words rows.0.0))) in
      subst (λ (f : ℤ × List R × ℕ × List Text). PartTaken pieces f)
      (ok_is (den, rows.0.0, line + 1 + header.0.1, rows.0.1) found rows.2) (record {
        text = text;
        den = front.1;
        few = omega arith;
        rows = taken.2;
      })

over_nothing : (pieces : List Text) → is_over pieces ≡ true → joined pieces ≡ []
over_nothing [] h = absurd cc
over_nothing ([] ∷ []) h = refl
over_nothing ((byte ∷ bytes) ∷ []) h = absurd cc
over_nothing (piece ∷ next ∷ pieces) h = absurd cc

pub end_taken : (line : ℕ) (pieces : List Text) (nothing : ⊤) → end_due line pieces ≡ Ok nothing
    → joined pieces ≡ codes "end\n"
unfolding end_due
end_taken line pieces nothing h =
    let next = bind_ok (line_due line pieces) (λ next. cond (bytes_eq next.0 (codes "end")) (nothing_after line next.1)
    (Err (Line line))) nothing h in
    let word = chosen_ok (bytes_eq next.0.0 (codes "end")) (nothing_after line next.0.1) (Line line) nothing next.2 in
    let over = chosen_ok (is_over next.0.1) (Ok tt) (Tail (line + 1)) nothing word.1 in
    cut_is line pieces next.0 next.1
    ∙ (λ i. same_text next.0.0 (codes "end") word.0 i ++ 10 ∷ over_nothing next.0.1 over.0 i)

-- a plan of rows that can be written, and a defence
pub plan_is : (classes : ℕ) (den : ℤ) (rows : List Row) → IsWritableNumber den → length rows ≤ MOST_ROWS
    → AllByRecursion (IsWritableRow classes) rows → IsWritablePlan classes (made_plan den rows)
plan_is classes den rows number few each =
    record { den = number; few = few; rows = All-from_recursion (IsWritableRow classes) rows each }

pub defence_is : (classes defenders : ℕ) (den : ℤ) (rows : List DefenceRow) → IsWritableNumber den
    → length rows ≤ MOST_ROWS → AllByRecursion (IsWritableDefenceRow classes defenders) rows
    → IsWritableDefence classes defenders (made_defence den rows)
defence_is classes defenders den rows number few each = record {
  den = number;
  few = few;
  rows = All-from_recursion (IsWritableDefenceRow classes defenders) rows each;
}

-- what is known of an answer that was read
record AnswerTaken (letters : Text) (classes : ℕ) (pieces : List Text) (answer : Answer) : Type 0 where
  text : joined pieces ≡ flat_map line_text (answer_lines letters answer)
  num : IsWritableNumber answer.value.num
  den : IsWritableNumber answer.value.den
  plan : IsWritablePlan (length letters) answer.plan
  defence : IsWritableDefence (length letters) classes answer.defence

answer_made : Frac → (ℤ × List Row × ℕ × List Text) → (ℤ × List DefenceRow × ℕ × List Text) → Answer
answer_made value plan defence = record {
  value = value;
  plan = record { den = plan.0; rows = plan.1 };
  defence = record { den = defence.0; rows = defence.1 };
}

answer_taken : (letters : Text) (classes : ℕ) (pieces : List Text) (answer : Answer)
    → answer_due letters classes pieces ≡ Ok answer → AnswerTaken letters classes pieces answer
unfolding answer_due answer_made
answer_taken letters classes pieces answer h =
    let plan_part : ℕ → List Text → Result (ℤ × List Row × ℕ × List Text) AnswerFault =
    part_due (codes "plan") (plan_row_due letters) in
    let defence_part : ℕ → List Text → Result (ℤ × List DefenceRow × ℕ × List Text) AnswerFault =
    part_due (codes "defence") (defence_row_due letters classes) in
    let first = bind_ok (line_due 1 pieces) (λ first. (version_due 1 first.0 >>= λ version.
    (line_due 2 first.1 >>= λ second. (value_due 2 (words_of second.0) >>= λ value.
    (plan_part 3 second.1 >>= λ plan. (defence_part plan.2 plan.3 >>= λ defence.
    (end_due defence.2 defence.3 >>= λ end. Ok (answer_made value plan defence)))))))) answer h in
    let version = bind_ok (version_due 1 first.0.0) (λ version. (line_due 2 first.0.1 >>= λ second.
    (value_due 2 (words_of second.0) >>= λ value. (plan_part 3 second.1 >>= λ plan.
    (defence_part plan.2 plan.3 >>= λ defence. (end_due defence.2 defence.3 >>= λ end.
    Ok (answer_made value plan defence))))))) answer first.2 in
    let second = bind_ok (line_due 2 first.0.1) (λ second. (value_due 2 (words_of second.0) >>= λ value.
    (plan_part 3 second.1 >>= λ plan. (defence_part plan.2 plan.3 >>= λ defence.
    (end_due defence.2 defence.3 >>= λ end. Ok (answer_made value plan defence)))))) answer version.2 in
    let value = bind_ok (value_due 2 (words_of second.0.0)) (λ value. (plan_part 3 second.0.1 >>= λ plan.
    (defence_part plan.2 plan.3 >>= λ defence. (end_due defence.2 defence.3 >>= λ end.
    Ok (answer_made value plan defence))))) answer second.2 in
    let plan = bind_ok (plan_part 3 second.0.1) (λ plan. (defence_part plan.2 plan.3 >>= λ defence.
    (end_due defence.2 defence.3 >>= λ end. Ok (answer_made value.0 plan defence)))) answer value.2 in
    let defence = bind_ok (defence_part plan.0.2 plan.0.3) (λ defence. (end_due defence.2 defence.3 >>= λ end.
    Ok (answer_made value.0 plan.0 defence))) answer plan.2 in
    let end = bind_ok (end_due defence.0.2 defence.0.3) (λ end. Ok (answer_made value.0 plan.0 defence.0)) answer
    defence.2 in
    let told = chosen_ok (bytes_eq first.0.0 (codes "answer 1")) (Ok tt) (Version 1) version.0 version.1 in
    let number = value_taken 2 (words_of second.0.0) value.0 value.1 in
    let rows = part_taken (codes "plan") (plan_row_due letters) (plan_row_words letters)
    (IsWritableRow (length letters)) (plan_row_taken letters) 3 second.0.1 plan.0 plan.1 in
    let against = part_taken (codes "defence") (defence_row_due letters classes) (defence_row_words letters)
    (IsWritableDefenceRow (length letters) classes) (λ line. defence_row_taken letters line classes) plan.0.2 plan.0.3
    defence.0 defence.1 in
    let made = answer_made value.0 plan.0 defence.0 in
    let text : joined pieces ≡ flat_map line_text (answer_lines letters made) =
    cut_is 1 pieces first.0 first.1
    ∙ ap (λ (line : Text). line ++ 10 ∷ joined first.0.1) (same_text first.0.0 (codes "answer 1") told.0)
    ∙ ap (λ (rest : Text). codes "answer 1\n" ++ rest)
    (line_taken 2 first.0.1 second.0 (value_words value.0) second.1 number.0
    ∙ ap (λ (rest : Text). line_text (value_words value.0) ++ rest) (rows.text
    ∙ ap (λ (rest : Text). flat_map line_text (part_lines (codes "plan") (plan_row_words letters) plan.0.0 plan.0.1)
    ++ rest) (against.text
    ∙ ap (λ (rest : Text). flat_map line_text
    (part_lines (codes "defence") (defence_row_words letters) defence.0.0 defence.0.1) ++ rest)
    (end_taken defence.0.2 defence.0.3 end.0 end.1))))
    ∙ sym (answer_spelled letters made) in
    subst (λ (a : Answer). AnswerTaken letters classes pieces a) (ok_is made answer end.2) (record {
      text = text;
      num = number.1;
      den = number.2;
      plan = plan_is (length letters) plan.0.0 plan.0.1 rows.den rows.few rows.rows;
      defence = defence_is (length letters) classes defence.0.0 defence.0.1 against.den against.few against.rows;
    })

-- there is a letter for each class
pub letters_each : (question : Question) → length (class_letters (hands_of question)) ≡ class_count (hands_of question)
unfolding class_letters
letters_each question = length-map-range_with_len (class_letter (hands_of question)) 0 (class_count (hands_of question))

-- an answer that is read can be written, and its text is the one that was read
pub text_taken : (question : Question) (text : Text) (answer : Answer) → answer_read question text ≡ Ok answer
    → (text ≡ text_of question answer) × IsWritable question answer
text_taken question text answer h =
    let hands = hands_of question in
    let letters = class_letters hands in
    let taken = answer_taken letters (length (defence_classes hands)) (pieces_of text) answer h in
    let each = letters_each question in (
      sym (joined_pieces text) ∙ taken.text,
      record {
        num = taken.num;
        den = taken.den;
        plan = subst (λ (n : ℕ). IsWritablePlan n answer.plan) each taken.plan;
        defence =
            subst (λ (n : ℕ). IsWritableDefence n (length (defence_classes hands)) answer.defence) each taken.defence;
      },
    )
