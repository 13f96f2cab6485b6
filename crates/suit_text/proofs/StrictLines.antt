-- `line_fed`, `line_last` and `word_cut`: how a text is cut at its first line feed, or its first space, in the strict
-- dialect.
use Rattle.std.proofs.Common.{ℕ, ◌+◌, ◌≡◌, ◌==◌, List, ◌∷◌}
use Rattle.std.proofs.Common.{length, take, drop, Option, Some, None, position, arith, refl}
use Rattle.std.specs.Option.{unwrap_or}
use Rattle.std.proofs.lemmas.List.{take_all, drop_all, drop_more}
use Rattle.std.proofs.lemmas.List.Quantifiers.{position-Some}
use Rattle.suit_text.specs.Strict.{pieces_of, next_of, words_of, words_after}
use Rattle.suit_text.proofs.Splits.{uncut, cut_first, far, some_part}

-- a line that ends
pub line_fed : (text : List ℕ) (at : ℕ) → position (λ byte. byte == 10) text ≡ Some at
    → next_of (pieces_of text) ≡ Some (take at text, pieces_of (drop (at + 1) text))
unfolding pieces_of
line_fed text at h =
    let rest = some_part (λ byte. byte == 10) (drop (at + 1) text) in
    rw (cut_first (λ byte. byte == 10) text at h, rest.2) refl

-- a line that is cut off
pub line_last : (text : List ℕ) → position (λ byte. byte == 10) text ≡ None
    → next_of (pieces_of text) ≡ None
unfolding pieces_of
line_last text h = rw (uncut (λ byte. byte == 10) text (far (λ byte. byte == 10) text h)) refl

word_by : (o : Option ℕ) (line : List ℕ) → position (λ byte. byte == 32) line ≡ o
    → words_of line ≡ take (unwrap_or o (length line)) line ∷ words_after (drop (unwrap_or o (length line)) line)
unfolding words_of
word_by None line h =
    rw (take_all (length line) line (omega arith), drop_all (length line) line (omega arith))
    (uncut (λ byte. byte == 32) line (far (λ byte. byte == 32) line h))
word_by (Some at) line h =
    let s = position-Some (λ byte. byte == 32) line at 0 h in
    rw (drop_more line at 0 s.0) (cut_first (λ byte. byte == 32) line at h)

-- the first word of a line
pub word_cut : (line : List ℕ)
    → words_of line
    ≡ take (unwrap_or (position (λ byte. byte == 32) line) (length line)) line
    ∷ words_after (drop (unwrap_or (position (λ byte. byte == 32) line) (length line)) line)
word_cut line = word_by (position (λ byte. byte == 32) line) line refl
