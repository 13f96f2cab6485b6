-- `first_word_cut`: where the words of a line begin and end, in the loose dialect.
use Rattle.std.proofs.Common.{ℕ, ◌+◌, ◌≤◌, ◌≡◌, not, Bool, true, false, List, [], ◌∷◌}
use Rattle.std.proofs.Common.{length, take, drop, Some, None, position, refl, sym, ap, ◌∙◌, subst, get_or}
use Rattle.std.specs.List.{position_or_len}
use Rattle.std.proofs.lemmas.List.{drop_all, drop_more}
use Rattle.std.proofs.lemmas.List.Quantifiers.{position-Some}
use Rattle.suit_text.specs.Loose.{is_blank, with_first, words_of}
use Rattle.suit_text.proofs.FirstPlaces.{take_next, drop_next, none_first, some_first}

stop_here : (x : ℕ) (xs : List ℕ) → is_blank x ≡ false
    → drop (position_or_len (λ byte. not (is_blank byte)) (x ∷ xs)) (x ∷ xs) ≡ x ∷ xs
stop_here x xs e = rw e refl

skip_step : (b : Bool) (x : ℕ) (xs : List ℕ) → is_blank x ≡ b
    → words_of xs ≡ words_of (drop (position_or_len (λ byte. not (is_blank byte)) xs) xs)
    → words_of (x ∷ xs) ≡ words_of (drop (position_or_len (λ byte. not (is_blank byte)) (x ∷ xs)) (x ∷ xs))
unfolding words_of
skip_step true x xs e h = rw (e, drop_next (position_or_len (λ byte. not (is_blank byte)) xs) x xs) h
skip_step false x xs e h = sym (ap words_of (stop_here x xs e))

-- spaces and tabs before the first word make no word
pub words_from_first : (line : List ℕ)
    → words_of line ≡ words_of (drop (position_or_len (λ byte. not (is_blank byte)) line) line)
words_from_first [] = refl
words_from_first (x ∷ xs) = skip_step (is_blank x) x xs refl (words_from_first xs)

pub one_byte : (x : ℕ) → is_blank x ≡ false → words_of (x ∷ []) ≡ (x ∷ []) ∷ []
unfolding words_of
one_byte x e = rw e refl

pub before_blank : (x y : ℕ) (ys : List ℕ) → is_blank x ≡ false → is_blank y ≡ true
    → words_of (x ∷ y ∷ ys) ≡ (x ∷ []) ∷ words_of (y ∷ ys)
unfolding words_of
before_blank x y ys e f = rw (e, f) refl

pub before_other : (x y : ℕ) (ys : List ℕ) → is_blank x ≡ false → is_blank y ≡ false
    → words_of (x ∷ y ∷ ys) ≡ with_first x (words_of (y ∷ ys))
unfolding words_of
before_other x y ys e f = rw (e, f) refl

taken_step : (b : Bool) (x y : ℕ) (ys : List ℕ) → is_blank x ≡ false → is_blank y ≡ b
    → (b ≡ false
    → words_of (y ∷ ys)
    ≡ (y ∷ take (position_or_len is_blank ys) ys) ∷ words_of (drop (position_or_len is_blank ys) ys))
    → words_of (x ∷ y ∷ ys)
    ≡ (x ∷ take (position_or_len is_blank (y ∷ ys)) (y ∷ ys)) ∷ words_of
    (drop (position_or_len is_blank (y ∷ ys)) (y ∷ ys))
taken_step true x y ys e f ih = rw f (before_blank x y ys e f)
taken_step false x y ys e f ih =
    rw (f, take_next (position_or_len is_blank ys) y ys, drop_next (position_or_len is_blank ys) y ys)
    (before_other x y ys e f ∙ ap (with_first x) (ih refl))

-- a word ends before the first space or tab after it
word_taken : (x : ℕ) (xs : List ℕ) → is_blank x ≡ false
    → words_of (x ∷ xs) ≡ (x ∷ take (position_or_len is_blank xs) xs) ∷ words_of (drop (position_or_len is_blank xs) xs)
unfolding words_of
word_taken x [] e = one_byte x e
word_taken x (y ∷ ys) e = taken_step (is_blank y) x y ys e refl (λ f. word_taken y ys f)

word_first : (x : ℕ) (xs : List ℕ) → is_blank x ≡ false
    → words_of (x ∷ xs)
    ≡ take (position_or_len is_blank (x ∷ xs)) (x ∷ xs) ∷ words_of (drop (position_or_len is_blank (x ∷ xs)) (x ∷ xs))
word_first x xs e =
    rw (e, take_next (position_or_len is_blank xs) x xs, drop_next (position_or_len is_blank xs) x xs)
    (word_taken x xs e)

not_false : (b : Bool) → not b ≡ true → b ≡ false
not_false true h = cc
not_false false h = refl

pub no_words : words_of [] ≡ []
unfolding words_of
no_words = refl

-- a line of spaces and tabs has no word
pub blank_line : (line : List ℕ) → position (λ byte. not (is_blank byte)) line ≡ None → words_of line ≡ []
blank_line line h =
    let far : length line ≤ position_or_len (λ byte. not (is_blank byte)) line =
    none_first (λ byte. not (is_blank byte)) line h in
    words_from_first line
    ∙ (ap words_of (drop_all (position_or_len (λ byte. not (is_blank byte)) line) line far) ∙ no_words)

-- the first word of a line that has one
pub first_word_cut : (line : List ℕ) (start : ℕ) → position (λ byte. not (is_blank byte)) line ≡ Some start
    → words_of line
    ≡ take (position_or_len is_blank (drop start line)) (drop start line) ∷ words_of
    (drop (position_or_len is_blank (drop start line)) (drop start line))
first_word_cut line start h =
    let s = position-Some (λ byte. not (is_blank byte)) line start 0 h in
    let e : words_of line ≡ words_of (drop start line) =
    rw (some_first (λ byte. not (is_blank byte)) line start h) (words_from_first line) in
    let P : List ℕ → Type 0 =
    λ text. words_of text
    ≡ take (position_or_len is_blank text) text ∷ words_of (drop (position_or_len is_blank text) text) in
    e ∙ subst P (sym (drop_more line start 0 s.0))
    (word_first (get_or line start 0) (drop (start + 1) line) (not_false _ s.1))
