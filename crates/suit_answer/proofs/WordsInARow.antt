-- `spaced_more` and `spaced_both`: words with a space in front of each, put in a row.
use Rattle.std.proofs.Common.{ℕ, ◌+◌, ◌<◌, ◌≡◌, ℤ, List, [], ◌∷◌, ◌++◌, codes, decimal, length, map, take, get_or, refl}
use Rattle.std.proofs.Common.{sym, ap, ◌∙◌, append_assoc}
use Rattle.std.specs.Fmt.{signed_decimal}
use Rattle.std.specs.List.{flat_map}
use Rattle.std.proofs.lemmas.Grind.{flat_map-append}
use Rattle.std.proofs.lemmas.List.{append-nil, take_more, map_push}
use Rattle.std.proofs.lemmas.List.Concat.{flat_map-cons}
use Rattle.suit_classes.specs.ClassMoves.{ClassHistory}
use Rattle.suit_plans.specs.Masses.{Shares}
use Rattle.suit_plans.specs.declared.defence.DefenceRow.{DefenceRow}
use Rattle.suit_num.specs.declared.fraction.Frac.{Frac}
use Rattle.suit_answer.specs.Letters.{move_word}
use Rattle.suit_answer.specs.Writing.{spaced, line_text, share_words, turn_words, header_words, value_words}
use Rattle.suit_answer.specs.Writing.{defence_row_words, plan_lines, defence_lines, end_line, answer_lines}
use Rattle.suit_answer.specs.declared.answer.Answer.{Answer}

pub spaced_none : spaced [] ≡ []
unfolding spaced
spaced_none = refl

pub spaced_next : (word : List ℕ) (words : List (List ℕ)) → spaced (word ∷ words) ≡ (32 ∷ word) ++ spaced words
unfolding spaced
spaced_next word words = flat_map-cons (λ more. 32 ∷ more) word words

pub spaced_both : (words more : List (List ℕ)) → spaced (words ++ more) ≡ spaced words ++ spaced more
unfolding spaced
spaced_both words more = flat_map-append (λ word. 32 ∷ word) words more

-- a word, and the words after it, before a text
pub spaced_then : (word : List ℕ) (words : List (List ℕ)) (end : List ℕ)
    → spaced (word ∷ words) ++ end ≡ 32 ∷ (word ++ (spaced words ++ end))
spaced_then word words end =
    ap (λ (front : List ℕ). front ++ end) (spaced_next word words)
    ∙ ap (λ (text : List ℕ). 32 ∷ text) (append_assoc word (spaced words) end)

spaced_end : (end : List ℕ) → spaced [] ++ end ≡ end
spaced_end end = ap (λ (front : List ℕ). front ++ end) spaced_none

spaced_last : (word end : List ℕ) → spaced (word ∷ []) ++ end ≡ 32 ∷ (word ++ end)
spaced_last word end = spaced_then word [] end ∙ ap (λ (text : List ℕ). 32 ∷ (word ++ text)) (spaced_end end)

spaced_pair : (first second end : List ℕ)
    → spaced (first ∷ second ∷ []) ++ end ≡ 32 ∷ (first ++ 32 ∷ (second ++ end))
spaced_pair first second end =
    spaced_then first (second ∷ []) end
    ∙ ap (λ (text : List ℕ). 32 ∷ (first ++ text)) (spaced_last second end)

version_line : line_text (codes "answer" ∷ codes "1" ∷ []) ≡ codes "answer 1\n"
unfolding spaced
version_line = refl

pub end_spelled : flat_map line_text (end_line ∷ []) ≡ codes "end\n"
unfolding spaced
end_spelled = refl

-- pieces that are put in a row one by one
pub glue_4 : (o a b c d : List ℕ) → (((o ++ a) ++ b) ++ c) ++ d ≡ o ++ (a ++ (b ++ (c ++ d)))
glue_4 o a b c d = simp append_assoc

pub glue_5 : (o a b c d e : List ℕ) → ((((o ++ a) ++ b) ++ c) ++ d) ++ e ≡ o ++ (a ++ (b ++ (c ++ (d ++ e))))
glue_5 o a b c d e = simp append_assoc

pub glue_6 : (o a b c d e f : List ℕ)
    → (((((o ++ a) ++ b) ++ c) ++ d) ++ e) ++ f ≡ o ++ (a ++ (b ++ (c ++ (d ++ (e ++ f)))))
glue_6 o a b c d e f = simp append_assoc

-- one word more
pub spaced_more : (words : List (List ℕ)) (word : List ℕ) → spaced (words ++ word ∷ []) ≡ spaced words ++ 32 ∷ word
spaced_more words word =
    spaced_both words (word ∷ [])
    ∙ ap (λ (end : List ℕ). spaced words ++ end)
    (spaced_next word [] ∙ ap (λ (end : List ℕ). (32 ∷ word) ++ end) spaced_none ∙ append-nil (32 ∷ word))

-- the next word of a list is written
pub wrote_word : {A : Type 0} (word_of : A → List ℕ) (xs : List A) (i : ℕ) (d : A) (old text pushed new : List ℕ)
    → i < length xs → text ≡ old ++ spaced (map word_of (take i xs)) → pushed ≡ text ++ 32 ∷ []
    → new ≡ pushed ++ word_of (get_or xs i d) → new ≡ old ++ spaced (map word_of (take (i + 1) xs))
wrote_word word_of xs i d old text pushed new h so_far space word =
    let words : map word_of (take (i + 1) xs) ≡ map word_of (take i xs) ++ word_of (get_or xs i d) ∷ [] =
    ap (map word_of) (take_more xs i d h) ∙ map_push word_of (take i xs) (get_or xs i d) in
    rw (words, spaced_more (map word_of (take i xs)) (word_of (get_or xs i d)), word, space, so_far)
    (simp append_assoc)

-- the next two words are written
pub wrote_words : {A : Type 0} (first second : A → List ℕ) (xs : List A) (i : ℕ) (d : A) (old text a b c new : List ℕ)
    → i < length xs → text ≡ old ++ spaced (flat_map (λ x. first x ∷ second x ∷ []) (take i xs))
    → a ≡ text ++ 32 ∷ [] → b ≡ a ++ first (get_or xs i d) → c ≡ b ++ 32 ∷ [] → new ≡ c ++ second (get_or xs i d)
    → new ≡ old ++ spaced (flat_map (λ x. first x ∷ second x ∷ []) (take (i + 1) xs))
wrote_words first second xs i d old text a b c new h so_far p q r s =
    let x = get_or xs i d in
    let pair = λ (y : _). first y ∷ second y ∷ [] in
    let front = spaced (flat_map pair (take i xs)) in
    let words : flat_map pair (take (i + 1) xs) ≡ flat_map pair (take i xs) ++ first x ∷ second x ∷ [] =
    ap (flat_map pair) (take_more xs i d h) ∙ flat_map-append pair (take i xs) (x ∷ []) in
    let both : spaced (first x ∷ second x ∷ []) ≡ 32 ∷ (first x ++ 32 ∷ second x) =
    sym (append-nil (spaced (first x ∷ second x ∷ []))) ∙ spaced_pair (first x) (second x) []
    ∙ ap (λ (last : List ℕ). 32 ∷ (first x ++ 32 ∷ last)) (append-nil (second x)) in
    let all : spaced (flat_map pair (take (i + 1) xs)) ≡ front ++ 32 ∷ (first x ++ 32 ∷ second x) =
    ap spaced words ∙ spaced_both (flat_map pair (take i xs)) (first x ∷ second x ∷ [])
    ∙ ap (λ (last : List ℕ). front ++ last) both in
    let made : new ≡ ((((old ++ front) ++ 32 ∷ []) ++ first x) ++ 32 ∷ []) ++ second x =
    rw (s, r, q, p, so_far) refl in
    made ∙ glue_5 old front (32 ∷ []) (first x) (32 ∷ []) (second x) ∙ ap (λ (last : List ℕ). old ++ last) (sym all)

-- a turn is written
pub turn_spaced : (letters : List ℕ) (history : ClassHistory) (shares : Shares)
    → spaced (turn_words letters history shares)
    ≡ spaced (map (move_word letters) history) ++ 32 ∷ 58 ∷ spaced (flat_map (share_words letters) shares)
unfolding turn_words
turn_spaced letters history shares =
    spaced_both (map (move_word letters) history) ((58 ∷ []) ∷ flat_map (share_words letters) shares)
    ∙ ap (λ (end : List ℕ). spaced (map (move_word letters) history) ++ end)
    (spaced_next (58 ∷ []) (flat_map (share_words letters) shares))

-- the line of a keyword and two numbers
pub header_line : (keyword : List ℕ) (den : ℤ) (rows : ℕ)
    → line_text (header_words keyword den rows)
    ≡ keyword ++ 32 ∷ (signed_decimal den ++ 32 ∷ (decimal rows ++ 10 ∷ []))
header_line keyword den rows =
    ap (λ (last : List ℕ). keyword ++ last) (spaced_pair (signed_decimal den) (decimal rows) (10 ∷ []))

-- the line of a value
pub value_line : (value : Frac)
    → line_text (value_words value)
    ≡ codes "value" ++ 32 ∷ (signed_decimal value.num ++ 47 ∷ (signed_decimal value.den ++ 10 ∷ []))
value_line value =
    ap (λ (last : List ℕ). codes "value" ++ last)
    (spaced_last (signed_decimal value.num ++ 47 ∷ signed_decimal value.den) (10 ∷ [])
    ∙ ap (λ (last : List ℕ). 32 ∷ last)
    (append_assoc (signed_decimal value.num) (47 ∷ signed_decimal value.den) (10 ∷ [])))

-- the line of a row of a defence
pub defence_line : (letters : List ℕ) (row : DefenceRow)
    → line_text (defence_row_words letters row)
    ≡ codes "west" ++ (spaced (map decimal row.west)
    ++ 32 ∷ 97 ∷ 116 ∷ (spaced (turn_words letters row.history row.counts) ++ 10 ∷ []))
defence_line letters row =
    let turn = turn_words letters row.history row.counts in
    ap (λ (last : List ℕ). codes "west" ++ last)
    (ap (λ (front : List ℕ). front ++ 10 ∷ [])
    (spaced_both (map decimal row.west) (codes "at" ∷ turn))
    ∙ append_assoc (spaced (map decimal row.west)) (spaced (codes "at" ∷ turn)) (10 ∷ [])
    ∙ ap (λ (last : List ℕ). spaced (map decimal row.west) ++ last) (spaced_then (codes "at") turn (10 ∷ [])))

-- the pieces of a header are written
pub wrote_header : (keyword : List ℕ) (den : ℤ) (rows : ℕ) (o a b c d e f : List ℕ)
    → a ≡ o ++ keyword → b ≡ a ++ 32 ∷ [] → c ≡ b ++ signed_decimal den → d ≡ c ++ 32 ∷ []
    → e ≡ d ++ decimal rows → f ≡ e ++ 10 ∷ [] → f ≡ o ++ line_text (header_words keyword den rows)
wrote_header keyword den rows o a b c d e f ea eb ec ed ee ef =
    let made : f ≡ (((((o ++ keyword) ++ 32 ∷ []) ++ signed_decimal den) ++ 32 ∷ []) ++ decimal rows) ++ 10 ∷ [] =
    rw (ef, ee, ed, ec, eb, ea) refl in
    made ∙ glue_6 o keyword (32 ∷ []) (signed_decimal den) (32 ∷ []) (decimal rows) (10 ∷ [])
    ∙ ap (λ (line : List ℕ). o ++ line) (sym (header_line keyword den rows))

-- the pieces of a value are written
pub wrote_value : (value : Frac) (o a b c d e : List ℕ)
    → a ≡ o ++ codes "value " → b ≡ a ++ signed_decimal value.num → c ≡ b ++ 47 ∷ []
    → d ≡ c ++ signed_decimal value.den → e ≡ d ++ 10 ∷ [] → e ≡ o ++ line_text (value_words value)
wrote_value value o a b c d e ea eb ec ed ee =
    let made : e
    ≡ ((((o ++ codes "value ") ++ signed_decimal value.num) ++ 47 ∷ []) ++ signed_decimal value.den) ++ 10 ∷ [] =
    rw (ee, ed, ec, eb, ea) refl in
    made ∙ glue_5 o (codes "value ") (signed_decimal value.num) (47 ∷ []) (signed_decimal value.den) (10 ∷ [])
    ∙ ap (λ (line : List ℕ). o ++ line) (sym (value_line value))

-- the pieces of a row of a defence are written
pub wrote_defence : (letters : List ℕ) (row : DefenceRow) (counts : List ℕ) (history : ClassHistory) (shares : Shares)
    (o a b c d e : List ℕ) → counts ≡ row.west → history ≡ row.history → shares ≡ row.counts
    → a ≡ o ++ codes "west" → b ≡ a ++ spaced (map decimal counts) → c ≡ b ++ codes " at"
    → d ≡ c ++ spaced (turn_words letters history shares) → e ≡ d ++ 10 ∷ []
    → e ≡ o ++ line_text (defence_row_words letters row)
wrote_defence letters row counts history shares o a b c d e p q r ea eb ec ed ee =
    let west = spaced (map decimal row.west) in
    let turn = spaced (turn_words letters row.history row.counts) in
    let made : e ≡ ((((o ++ codes "west") ++ west) ++ codes " at") ++ turn) ++ 10 ∷ [] =
    rw (ee, ed, ec, eb, ea, p, q, r) refl in
    made ∙ glue_5 o (codes "west") west (codes " at") turn (10 ∷ [])
    ∙ ap (λ (line : List ℕ). o ++ line) (sym (defence_line letters row))

-- the text of an answer, line by line
pub answer_spelled : (letters : List ℕ) (answer : Answer)
    → flat_map line_text (answer_lines letters answer)
    ≡ codes "answer 1\n" ++ (line_text (value_words answer.value)
    ++ (flat_map line_text (plan_lines letters answer.plan)
    ++ (flat_map line_text (defence_lines letters answer.defence) ++ codes "end\n")))
answer_spelled letters answer =
    let value = value_words answer.value in
    let plan = plan_lines letters answer.plan in
    let defence = defence_lines letters answer.defence in
    let end = end_line ∷ [] in
    let tail : flat_map line_text (plan ++ (defence ++ end))
    ≡ flat_map line_text plan ++ (flat_map line_text defence ++ codes "end\n") =
    flat_map-append line_text plan (defence ++ end)
    ∙ ap (λ (more : List ℕ). flat_map line_text plan ++ more) (flat_map-append line_text defence end
    ∙ ap (λ (more : List ℕ). flat_map line_text defence ++ more) end_spelled) in
    flat_map-cons line_text (codes "answer" ∷ codes "1" ∷ []) (value ∷ (plan ++ (defence ++ end)))
    ∙ ap (λ (line : List ℕ). line ++ flat_map line_text (value ∷ (plan ++ (defence ++ end)))) version_line
    ∙ ap (λ (more : List ℕ). codes "answer 1\n" ++ more)
    (flat_map-cons line_text value (plan ++ (defence ++ end))
    ∙ ap (λ (more : List ℕ). line_text value ++ more) tail)

-- the lines of an answer are written
pub wrote_lines : (letters : List ℕ) (answer : Answer) (o a b c d : List ℕ)
    → o ≡ codes "answer 1\n" → a ≡ o ++ line_text (value_words answer.value)
    → b ≡ a ++ flat_map line_text (plan_lines letters answer.plan)
    → c ≡ b ++ flat_map line_text (defence_lines letters answer.defence)
    → d ≡ c ++ codes "end\n" → d ≡ flat_map line_text (answer_lines letters answer)
wrote_lines letters answer o a b c d eo ea eb ec ed =
    let first = codes "answer 1\n" in
    let value = line_text (value_words answer.value) in
    let plan = flat_map line_text (plan_lines letters answer.plan) in
    let defence = flat_map line_text (defence_lines letters answer.defence) in
    let made : d ≡ (((first ++ value) ++ plan) ++ defence) ++ codes "end\n" = rw (ed, ec, eb, ea, eo) refl in
    made ∙ glue_4 first value plan defence (codes "end\n") ∙ sym (answer_spelled letters answer)
