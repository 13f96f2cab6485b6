-- `text_back`: what is written of an answer that can be written is read back as it.
use Rattle.std.proofs.Common.{ℕ, suc, ◌+◌, ◌<◌, ◌≤◌, ◌≡◌, ◌==◌, true, false, List, [], ◌∷◌, ◌++◌, length, map}
use Rattle.std.proofs.Common.{codes, decimal, ℤ, pos, Some, Result, Ok, refl, sym, ap, ◌∙◌, subst}
use Rattle.std.proofs.Common.{append_assoc, arith, lit<}
use Rattle.std.specs.Prelude.{unsigned_abs}
use Rattle.std.specs.Fmt.{signed_decimal}
use Rattle.std.specs.List.{AllByRecursion, flat_map, slice_split}
use Rattle.std.proofs.lemmas.Bool.Decides.{nat_tests}
use Rattle.std.proofs.lemmas.List.{append-nil}
use Rattle.std.proofs.lemmas.List.Concat.{flat_map-cons}
use Rattle.std.proofs.lemmas.List.Elements.{All-from_recursion, recursion_from_All}
use Rattle.std.proofs.lemmas.List.Splits.{slice_split_at, slice_split_none}
use Rattle.std.proofs.lemmas.Slice.Eq.{bytes_eq-Decides}
use Rattle.suit_cards.specs.Cards.{Text}
use Rattle.suit_num.specs.declared.fraction.Frac.{Frac}
use Rattle.suit_num.specs.Divisors.{gcd_of}
use Rattle.suit_num.proofs.DivisorLaws.{IsGcd-iff, IsGcd_from_coprime}
use Rattle.suit_game.specs.declared.question.Question.{Question}
use Rattle.suit_classes.specs.Classes.{class_count, defence_classes, hands_of}
use Rattle.suit_plans.specs.declared.plan.Plan.{Plan}
use Rattle.suit_plans.specs.declared.defence.Defence.{Defence}
use Rattle.suit_text.specs.Strict.{pieces_of, words_of}
use Rattle.suit_answer.specs.Forms.{slash_sides}
use Rattle.suit_answer.specs.Fractions.{fraction_of}
use Rattle.suit_answer.specs.Letters.{class_letters}
use Rattle.suit_answer.specs.Lines.{line_due}
use Rattle.suit_answer.specs.Reading.{value_due, header_due, rows_due, part_due, end_due, answer_due, answer_read}
use Rattle.suit_answer.specs.Rows.{plan_row_due, defence_row_due}
use Rattle.suit_answer.specs.Writable.{IsWritable, IsWritableNumber, IsWritableRow, IsWritableDefenceRow}
use Rattle.suit_answer.specs.Writable.{IsWritablePlanFor, IsWritableDefenceFor}
use Rattle.suit_answer.specs.Writing.{spaced, line_text, value_words, header_words, plan_row_words, defence_row_words}
use Rattle.suit_answer.specs.Writing.{part_lines, plan_lines, defence_lines, text_of}
use Rattle.suit_answer.specs.declared.answer.Answer.{Answer}
use Rattle.suit_answer.specs.declared.faults.AnswerFault.{AnswerFault}
use Rattle.suit_answer.specs.declared.parts.TheConstants.{MOST_ROWS}
use Rattle.suit_text.proofs.Splits.{some_part}
use Rattle.suit_answer.proofs.Lowest.{told_as, lowest_yes}
use Rattle.suit_answer.proofs.MoveBack.{letters_good}
use Rattle.suit_answer.proofs.NumberBack.{AreDigits, number_back, number_digits, number_word, small_back, decimal_word}
use Rattle.suit_answer.proofs.RowBack.{ArePlain, plan_row_back, plan_row_plain, defence_row_back, defence_row_plain}
use Rattle.suit_answer.proofs.WordsInARow.{spaced_none, spaced_next, answer_spelled}
use Rattle.suit_answer.proofs.TextTaken.{letters_each}

-- the bytes of a text are others than one
Lack : ℕ → Text → Type 0
Lack byte text = AllByRecursion (λ b. (b == byte) ≡ false) text

lacks : (byte : ℕ) (text : Text) → byte ≤ 32 → AllByRecursion (λ b. 32 < b) text → Lack byte text
unfolding Lack
lacks byte [] low h = tt
lacks byte (b ∷ text) low h = (let above : 32 < b = h.0 in grind (arith, nat_tests), lacks byte text low h.1)

lack_both : (byte : ℕ) (text more : Text) → Lack byte text → Lack byte more → Lack byte (text ++ more)
unfolding Lack
lack_both byte [] more h k = k
lack_both byte (b ∷ text) more h k = (h.0, lack_both byte text more h.1 k)

cut_at : (byte : ℕ) (text more : Text) → Lack byte text
    → slice_split (λ b. b == byte) (text ++ byte ∷ more) ≡ text ∷ slice_split (λ b. b == byte) more
unfolding Lack
cut_at byte text more h =
    slice_split_at (λ b. b == byte) text byte more (All-from_recursion (λ b. (b == byte) ≡ false) text h)
    (let same : (byte == byte) ≡ true = grind (arith, nat_tests) in same)

whole : (byte : ℕ) (text : Text) → Lack byte text → slice_split (λ b. b == byte) text ≡ text ∷ []
unfolding Lack
whole byte text h = slice_split_none (λ b. b == byte) text (All-from_recursion (λ b. (b == byte) ≡ false) text h)

-- a line without its line feed
abbrev body : Text → List Text → Text
body word words = word ++ spaced words

words_back : (word : Text) (words : List Text) → ArePlain (word ∷ words) → words_of (body word words) ≡ word ∷ words
unfolding words_of
words_back word [] h =
    ap (slice_split (λ b. b == 32)) (ap (λ (rest : Text). word ++ rest) spaced_none ∙ append-nil word)
    ∙ whole 32 word (lacks 32 word (omega arith) h.0)
words_back word (next ∷ words) h =
    ap (slice_split (λ b. b == 32)) (ap (λ (rest : Text). word ++ rest) (spaced_next next words))
    ∙ cut_at 32 word (next ++ spaced words) (lacks 32 word (omega arith) h.0)
    ∙ ap (λ (rest : List Text). word ∷ rest) (words_back next words h.1)

lack_none : Lack 10 []
unfolding Lack
lack_none = tt

lack_space : (text : Text) → Lack 10 text → Lack 10 (32 ∷ text)
unfolding Lack
lack_space text h = (refl, h)

spaced_lacks : (words : List Text) → ArePlain words → Lack 10 (spaced words)
spaced_lacks [] h = subst (Lack 10) (sym spaced_none) lack_none
spaced_lacks (word ∷ words) h =
    subst (Lack 10) (sym (spaced_next word words))
    (lack_both 10 (32 ∷ word) (spaced words) (lack_space word (lacks 10 word (omega arith) h.0))
    (spaced_lacks words h.1))

-- a line that is written is read back
line_back : (line : ℕ) (word : Text) (words : List Text) (rest : Text) → ArePlain (word ∷ words)
    → line_due line (pieces_of (line_text (word ∷ words) ++ rest)) ≡ Ok (body word words, pieces_of rest)
unfolding pieces_of
line_back line word words rest h =
    let more = some_part (λ b. b == 10) rest in
    let joined : line_text (word ∷ words) ++ rest ≡ body word words ++ 10 ∷ rest =
    append_assoc word (spaced words ++ 10 ∷ []) rest
    ∙ ap (λ (end : Text). word ++ end) (append_assoc (spaced words) (10 ∷ []) rest)
    ∙ sym (append_assoc word (spaced words) (10 ∷ rest)) in
    let lack : Lack 10 (body word words) =
    lack_both 10 word (spaced words) (lacks 10 word (omega arith) h.0) (spaced_lacks words h.1) in
    let pieces : slice_split (λ b. b == 10) (line_text (word ∷ words) ++ rest)
    ≡ body word words ∷ slice_split (λ b. b == 10) rest =
    ap (slice_split (λ b. b == 10)) joined ∙ cut_at 10 (body word words) rest lack in
    rw (pieces, more.2) refl

-- rows that are written are read back
module _ {R : Type 0} (row : ℕ → List Text → Result R AnswerFault) (row_words : R → List Text) (P : R → Type 0)
    (row_back : (line : ℕ) (r : R) → P r → row line (row_words r) ≡ Ok r)
    (row_plain : (r : R) → P r → ArePlain (row_words r))
    (row_line : (r : R) → (word : Text) × (words : List Text) × (row_words r ≡ word ∷ words)) where
  one_back : (line : ℕ) (r : R) (rest : Text) → P r
      → (cut : Text × List Text) × (line_due line (pieces_of (line_text (row_words r) ++ rest)) ≡ Ok cut)
      × (words_of cut.0 ≡ row_words r) × (cut.1 ≡ pieces_of rest)
  one_back line r rest h =
      let parts = row_line r in
      let plain : ArePlain (parts.0 ∷ parts.1) = subst ArePlain parts.2 (row_plain r h) in (
        (body parts.0 parts.1, pieces_of rest),
        ap (λ (words : List Text). line_due line (pieces_of (line_text words ++ rest))) parts.2
            ∙ line_back line parts.0 parts.1 rest plain,
        words_back parts.0 parts.1 plain ∙ sym parts.2,
        refl,
      )

  rows_back : (line : ℕ) (rows : List R) (rest : Text) → AllByRecursion P rows
      → rows_due row line (length rows) (pieces_of (flat_map line_text (map row_words rows) ++ rest))
      ≡ Ok (rows, pieces_of rest)
  unfolding rows_due
  rows_back line [] rest h = refl
  rows_back line (r ∷ rows) rest h =
      let after = flat_map line_text (map row_words rows) ++ rest in
      let text : flat_map line_text (map row_words (r ∷ rows)) ++ rest ≡ line_text (row_words r) ++ after =
      ap (λ (front : Text). front ++ rest) (flat_map-cons line_text (row_words r) (map row_words rows))
      ∙ append_assoc (line_text (row_words r)) (flat_map line_text (map row_words rows)) rest in
      let one = one_back line r after h.0 in
      ap (λ (t : Text). rows_due row line (suc (length rows)) (pieces_of t)) text
      ∙ rw (one.1, one.2, row_back line r h.0, one.3, rows_back (line + 1) rows rest h.1) refl

-- a header that is written is read back
header_back : (keyword : Text) (line : ℕ) (den : ℤ) (rows : ℕ) → IsWritableNumber den → rows ≤ MOST_ROWS
    → header_due keyword line (header_words keyword den rows) ≡ Ok (den, rows)
unfolding header_due
header_back keyword line den rows h few =
    rw (
      (bytes_eq-Decides keyword keyword).1 refl,
      (number_word den h).some,
      (decimal_word rows (omega arith)).some,
      number_back line den h,
      small_back MOST_ROWS line rows few (omega arith),
    ) refl

digits_lack : (text : Text) → AreDigits text → Lack 47 text
unfolding Lack
digits_lack [] h = tt
digits_lack (b ∷ text) h = (let above : 47 < b = h.0.0 in grind (arith, nat_tests), digits_lack text h.1)

sides_back : (num den : ℤ) → IsWritableNumber num → IsWritableNumber den
    → slash_sides (signed_decimal num ++ 47 ∷ signed_decimal den) ≡ Some (signed_decimal num, signed_decimal den)
sides_back num den h k =
    rw (
      cut_at 47 (signed_decimal num) (signed_decimal den) (digits_lack (signed_decimal num) (number_digits num h)),
      whole 47 (signed_decimal den) (digits_lack (signed_decimal den) (number_digits den k)),
      (number_word num h).some,
      (number_word den k).some,
    ) refl

-- a value that is written is read back
value_back : (line : ℕ) (value : Frac) → IsWritableNumber value.num → IsWritableNumber value.den
    → value_due line (value_words value) ≡ Ok value
unfolding value_due
value_back line value h k =
    let one : 1 ≡ gcd_of (unsigned_abs value.num) (unsigned_abs value.den) =
    (IsGcd-iff (unsigned_abs value.num) (unsigned_abs value.den) 1).0
    (IsGcd_from_coprime (unsigned_abs value.num) (unsigned_abs value.den) value.coprime) in
    let told : fraction_of value.num value.den ≡ Some value =
    told_as value.num value.den value refl refl
    (lowest_yes value.num value.den (pos 1) value.positive (ap (λ (n : ℕ). pos n) one) refl) in
    rw (
      sides_back value.num value.den h k,
      number_back line value.num h,
      number_back line value.den k,
      told,
    ) refl

-- a part that is written is read back
module _ {R : Type 0} (keyword : Text) (row : ℕ → List Text → Result R AnswerFault) (row_words : R → List Text)
    (P : R → Type 0)
    (row_back : (line : ℕ) (r : R) → P r → row line (row_words r) ≡ Ok r)
    (row_plain : (r : R) → P r → ArePlain (row_words r))
    (row_line : (r : R) → (word : Text) × (words : List Text) × (row_words r ≡ word ∷ words))
    (keyword_plain : AllByRecursion (λ b. 32 < b) keyword) where
  part_back : (line : ℕ) (den : ℤ) (rows : List R) (rest : Text) → IsWritableNumber den → length rows ≤ MOST_ROWS
      → AllByRecursion P rows
      → part_due keyword row line (pieces_of (flat_map line_text (part_lines keyword row_words den rows) ++ rest))
      ≡ Ok (den, rows, line + 1 + length rows, pieces_of rest)
  unfolding part_due
  part_back line den rows rest h few all =
      let numbers = signed_decimal den ∷ decimal (length rows) ∷ [] in
      let plain : ArePlain (keyword ∷ numbers) =
      (keyword_plain, ((number_word den h).plain, ((decimal_word (length rows) (omega arith)).plain, tt))) in
      let lines = flat_map line_text (map row_words rows) in
      let header = line_text (keyword ∷ numbers) in
      let text : flat_map line_text (part_lines keyword row_words den rows) ++ rest ≡ header ++ (lines ++ rest) =
      ap (λ (front : Text). front ++ rest) (flat_map-cons line_text (keyword ∷ numbers) (map row_words rows))
      ∙ append_assoc header lines rest in
      ap (λ (t : Text). part_due keyword row line (pieces_of t)) text
      ∙ rw (
        line_back line keyword numbers (lines ++ rest) plain,
        words_back keyword numbers plain,
        header_back keyword line den (length rows) h few,
        rows_back row row_words P row_back row_plain row_line (line + 1) rows rest all,
      ) refl

-- a plan that is written is read back
pub plan_part_back : (question : Question) (plan : Plan) (line : ℕ) (rest : Text) → IsWritablePlanFor question plan
    → part_due (codes "plan") (plan_row_due (class_letters (hands_of question))) line
    (pieces_of (flat_map line_text (plan_lines (class_letters (hands_of question)) plan) ++ rest))
    ≡ Ok (plan.den, plan.rows, line + 1 + length plan.rows, pieces_of rest)
plan_part_back question plan line rest h =
    let hands = hands_of question in
    let letters = class_letters hands in
    let good = letters_good hands in
    let rows : AllByRecursion (IsWritableRow (length letters)) plan.rows =
    subst (λ (n : ℕ). AllByRecursion (IsWritableRow n) plan.rows) (sym (letters_each question))
    (recursion_from_All (IsWritableRow (class_count hands)) plan.rows h.rows) in
    part_back (codes "plan") (plan_row_due letters) (plan_row_words letters) (IsWritableRow (length letters))
    (λ line. plan_row_back letters line good) (λ row. plan_row_plain letters 0 good row)
    (λ row. (codes "at", _, refl)) (lit< tt, (lit< tt, (lit< tt, (lit< tt, tt)))) line plan.den plan.rows rest
    h.den h.few rows

-- so is a defence
pub defence_part_back : (question : Question) (defence : Defence) (line : ℕ) (rest : Text)
    → IsWritableDefenceFor question defence
    → part_due (codes "defence")
    (defence_row_due (class_letters (hands_of question)) (length (defence_classes (hands_of question)))) line
    (pieces_of (flat_map line_text (defence_lines (class_letters (hands_of question)) defence) ++ rest))
    ≡ Ok (defence.den, defence.rows, line + 1 + length defence.rows, pieces_of rest)
defence_part_back question defence line rest h =
    let hands = hands_of question in
    let letters = class_letters hands in
    let classes = length (defence_classes hands) in
    let good = letters_good hands in
    let rows : AllByRecursion (IsWritableDefenceRow (length letters) classes) defence.rows =
    subst (λ (n : ℕ). AllByRecursion (IsWritableDefenceRow n classes) defence.rows) (sym (letters_each question))
    (recursion_from_All (IsWritableDefenceRow (class_count hands) classes) defence.rows h.rows) in
    part_back (codes "defence") (defence_row_due letters classes) (defence_row_words letters)
    (IsWritableDefenceRow (length letters) classes) (λ line row. defence_row_back letters line good row classes)
    (λ row. defence_row_plain letters 0 good classes row) (λ row. (codes "west", _, refl))
    (lit< tt, (lit< tt, (lit< tt, (lit< tt, (lit< tt, (lit< tt, (lit< tt, tt))))))) line defence.den defence.rows
    rest h.den h.few rows

version_back : (rest : Text)
    → line_due 1 (pieces_of (codes "answer 1\n" ++ rest)) ≡ Ok (codes "answer 1", pieces_of rest)
unfolding spaced
version_back rest =
    line_back 1 (codes "answer") (codes "1" ∷ []) rest
    ((lit< tt, (lit< tt, (lit< tt, (lit< tt, (lit< tt, (lit< tt, tt)))))), ((lit< tt, tt), tt))

pub end_back : (line : ℕ) → end_due line (pieces_of (codes "end\n")) ≡ Ok tt
unfolding end_due pieces_of
end_back line = refl

value_line_back : (line : ℕ) (value : Frac) (rest : Text) → IsWritableNumber value.num → IsWritableNumber value.den
    → (cut : Text × List Text) × (line_due line (pieces_of (line_text (value_words value) ++ rest)) ≡ Ok cut)
    × (value_due line (words_of cut.0) ≡ Ok value) × (cut.1 ≡ pieces_of rest)
value_line_back line value rest h k =
    let word = signed_decimal value.num ++ 47 ∷ signed_decimal value.den in
    let plain : ArePlain (codes "value" ∷ word ∷ []) = (
      (lit< tt, (lit< tt, (lit< tt, (lit< tt, (lit< tt, tt))))),
      (
        both_plain (signed_decimal value.num) (signed_decimal value.den) (number_word value.num h).plain
            (number_word value.den k).plain,
        tt,
      ),
    ) in (
      (body (codes "value") (word ∷ []), pieces_of rest),
      line_back line (codes "value") (word ∷ []) rest plain,
      ap (value_due line) (words_back (codes "value") (word ∷ []) plain) ∙ value_back line value h k,
      refl,
    ) where
      both_plain : (left right : Text) → AllByRecursion (λ b. 32 < b) left → AllByRecursion (λ b. 32 < b) right
          → AllByRecursion (λ b. 32 < b) (left ++ 47 ∷ right)
      both_plain [] right p q = (lit< tt, q)
      both_plain (b ∷ left) right p q = (p.0, both_plain left right p.1 q)

answer_back : (question : Question) (answer : Answer) → IsWritable question answer
    → answer_due (class_letters (hands_of question)) (length (defence_classes (hands_of question)))
    (pieces_of (text_of question answer)) ≡ Ok answer
unfolding answer_due
answer_back question answer h =
    let hands = hands_of question in
    let letters = class_letters hands in
    let classes = length (defence_classes hands) in
    let end = codes "end\n" in
    let defence_text = flat_map line_text (defence_lines letters answer.defence) ++ end in
    let plan_text = flat_map line_text (plan_lines letters answer.plan) ++ defence_text in
    let value = value_line_back 2 answer.value plan_text h.num h.den in
    let plan_line : ℕ = 3 + 1 + length answer.plan.rows in
    let plan = plan_part_back question answer.plan 3 defence_text h.plan in
    let defence = defence_part_back question answer.defence plan_line end h.defence in
    ap (λ (t : Text). answer_due letters classes (pieces_of t)) (answer_spelled letters answer)
    ∙ rw (
      version_back (line_text (value_words answer.value) ++ plan_text),
      value.1,
      value.2,
      value.3,
      plan,
      defence,
      end_back (plan_line + 1 + length answer.defence.rows),
    ) refl

-- an answer that is written is read back
pub text_back : (question : Question) (answer : Answer) → IsWritable question answer
    → answer_read question (text_of question answer) ≡ Ok answer
text_back question answer h = answer_back question answer h
