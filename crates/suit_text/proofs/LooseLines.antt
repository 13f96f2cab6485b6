-- `lines_after`: where the lines of a text begin and end, in the loose dialect.
use Rattle.std.proofs.Common.{ℕ, ◌+◌, ◌-◌, ◌<◌, ◌≤◌, ◌≡◌, ◌==◌, Bool, true, false, List, [], ◌∷◌, ◌++◌}
use Rattle.std.proofs.Common.{length, map, take, drop, Some, None, position}
use Rattle.std.proofs.Common.{arith, refl, ap, ◌∙◌, get_or, length-append, suc, zero}
use Rattle.std.specs.List.{position_or_len}
use Rattle.std.specs.Str.{bytes_eq}
use Rattle.std.proofs.lemmas.Bool.Decides.{nat_tests}
use Rattle.std.proofs.lemmas.List.{take_at, drop_at, take_more, drop_all, length-take-le, length-drop}
use Rattle.std.proofs.lemmas.List.Quantifiers.{position-Some}
use Rattle.suit_text.specs.Loose.{words_of, with_first, pieces_of, line_of, without_return, lines_of, BeginsPiece}
use Rattle.suit_text.proofs.FirstPlaces.{take_next, drop_next, none_first, some_first}

-- the first place of a line feed, or the length
abbrev feed : List ℕ → ℕ
feed text = position_or_len (λ byte. byte == 10) text

fed_step : (b : Bool) (x : ℕ) (xs : List ℕ) → (x == 10) ≡ b → feed (x ∷ xs) < length (x ∷ xs)
    → (feed xs < length xs → pieces_of xs ≡ take (1 + feed xs) xs ∷ pieces_of (drop (1 + feed xs) xs))
    → pieces_of (x ∷ xs) ≡ take (1 + feed (x ∷ xs)) (x ∷ xs) ∷ pieces_of (drop (1 + feed (x ∷ xs)) (x ∷ xs))
unfolding pieces_of
fed_step true x xs e h ih = rw e refl
fed_step false x xs e h ih =
    let less : 1 + feed xs < suc (length xs) = rw e at h in
    let rest : feed xs < length xs = omega arith in
    rw (e, ih rest, take_next (1 + feed xs) x xs, drop_next (1 + feed xs) x xs) refl

-- a piece ends with the first line feed
pub piece_fed : (text : List ℕ) → feed text < length text
    → pieces_of text ≡ take (1 + feed text) text ∷ pieces_of (drop (1 + feed text) text)
piece_fed [] h = absurd (omega arith)
piece_fed (x ∷ xs) h = fed_step (x == 10) x xs refl h (piece_fed xs)

last_step : (b : Bool) (x : ℕ) (xs : List ℕ) → (x == 10) ≡ b → length (x ∷ xs) ≤ feed (x ∷ xs)
    → (b ≡ false) × (length xs ≤ feed xs)
last_step true x xs e h = let none : suc (length xs) ≤ 0 = rw e at h in absurd (omega arith)
last_step false x xs e h = let less : suc (length xs) ≤ 1 + feed xs = rw e at h in (refl, omega arith)

pub one_piece : (x : ℕ) (xs : List ℕ) → (x == 10) ≡ false → pieces_of (x ∷ xs) ≡ with_first x (pieces_of xs)
unfolding pieces_of
one_piece x xs e = rw e refl

pub no_pieces : pieces_of [] ≡ []
unfolding pieces_of
no_pieces = refl

-- a text without a line feed is one piece
pub piece_whole : (x : ℕ) (xs : List ℕ) → length (x ∷ xs) ≤ feed (x ∷ xs) → pieces_of (x ∷ xs) ≡ (x ∷ xs) ∷ []
piece_whole x [] h = let s = last_step (x == 10) x [] refl h in one_piece x [] s.0 ∙ ap (with_first x) no_pieces
piece_whole x (y ∷ ys) h = let s = last_step (x == 10) x (y ∷ ys) refl h in
    one_piece x (y ∷ ys) s.0 ∙ ap (with_first x) (piece_whole y ys s.1)

-- what is left of a text without a line feed is no line feed
lacks_feed : (text : List ℕ) (k : ℕ) → length text ≤ feed text → bytes_eq (drop k text) (10 ∷ []) ≡ false
lacks_feed [] zero h = refl
lacks_feed [] (suc k) h = refl
lacks_feed (x ∷ xs) zero h = rw ((last_step (x == 10) x xs refl h).0) refl
lacks_feed (x ∷ xs) (suc k) h = lacks_feed xs k ((last_step (x == 10) x xs refl h).1)

pub line_whole : (text : List ℕ) → length text ≤ feed text → line_of text ≡ text
line_whole text h = rw (lacks_feed text (length text - 1) h) refl

-- a line feed at the end of a piece is not of its line
pub line_fed : (front : List ℕ) → line_of (front ++ 10 ∷ []) ≡ without_return front
line_fed front =
    let long : length (front ++ 10 ∷ []) - 1 ≡ length front = omega (arith, length-append front (10 ∷ [])) in
    rw (long, drop_at front (10 ∷ []) (length front) refl, take_at front (10 ∷ []) (length front) refl) refl

eq_true : (x : ℕ) → (x == 10) ≡ true → x ≡ 10
eq_true x h = grind (arith, nat_tests)

-- the piece up to a line feed
feed_taken : (text : List ℕ) (at : ℕ) → at < length text → (get_or text at 0 == 10) ≡ true
    → take (1 + at) text ≡ take at text ++ 10 ∷ []
feed_taken text at h e =
    let n : 1 + at ≡ at + 1 = omega arith in
    rw (n, take_more text at 0 h, eq_true (get_or text at 0) e) refl

-- a text with a line feed begins with the line before it
pub begins_fed : (text : List ℕ) (at : ℕ) → position (λ byte. byte == 10) text ≡ Some at
    → BeginsPiece text (without_return (take at text)) (drop (at + 1) text)
begins_fed text at h =
    let s = position-Some (λ byte. byte == 10) text at 0 h in
    let e : at ≡ feed text = some_first (λ byte. byte == 10) text at h in
    let n : 1 + at ≡ at + 1 = omega arith in
    let within : feed text < length text = omega (arith, s.0) in
    let cut : pieces_of text ≡ take (1 + at) text ∷ pieces_of (drop (1 + at) text) = rw e (piece_fed text within) in
    let long : length (take (at + 1) text) ≡ at + 1 = length-take-le (at + 1) text (omega (arith, s.0)) in
    record {
      piece = take (at + 1) text;
      pieces = rw n at cut;
      has_line = rw (← n) (ap line_of (feed_taken text at s.0 s.1) ∙ line_fed (take at text));
      some = omega arith;
      whole = omega (arith, length-drop (at + 1) text, s.0);
    }

whole_piece : (text : List ℕ) → length text ≤ feed text → 0 < length text → pieces_of text ≡ text ∷ []
whole_piece [] h k = absurd (omega arith)
whole_piece (x ∷ xs) h k = piece_whole x xs h

-- a text without a line feed is one line
pub begins_last : (text : List ℕ) → position (λ byte. byte == 10) text ≡ None → 0 < length text
    → BeginsPiece text text (drop (length text) text)
begins_last text h k =
    let far : length text ≤ feed text = none_first (λ byte. byte == 10) text h in
    let nothing : drop (length text) text ≡ [] = drop_all (length text) text (omega arith) in
    record {
      piece = text;
      pieces = rw (nothing, no_pieces) (whole_piece text far k);
      has_line = line_whole text far;
      some = k;
      whole = rw nothing (omega arith);
    }

-- the lines of a text are its first line and those of the rest
pub lines_after : (text line rest : List ℕ) → BeginsPiece text line rest → lines_of text ≡ words_of line ∷ lines_of rest
lines_after text line rest h = rw (h.pieces, h.has_line) refl

pub no_lines : (text : List ℕ) → (length text == 0) ≡ true → lines_of text ≡ []
no_lines [] h = ap (map (λ piece. words_of (line_of piece))) no_pieces
no_lines (x ∷ xs) h = absurd (grind (arith, nat_tests))
