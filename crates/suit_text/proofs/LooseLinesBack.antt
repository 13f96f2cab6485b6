-- `lines_back`: lines that are written are read back as their words, in the loose dialect.
use Rattle.std.proofs.Common.{ℕ, ◌-◌, ◌<◌, ◌≤◌, ◌≡◌, ◌==◌, true, false, List, [], ◌∷◌}
use Rattle.std.proofs.Common.{◌++◌, length, map, drop, arith, refl, ap, ◌∙◌, suc, zero, append_assoc}
use Rattle.std.specs.List.{flat_map}
use Rattle.std.specs.Str.{bytes_eq}
use Rattle.std.proofs.lemmas.Bool.Decides.{nat_tests}
use Rattle.suit_text.specs.Loose.{is_blank, is_apart, with_first, words_of, pieces_of, line_of, without_return, lines_of}
use Rattle.suit_text.specs.Writing.{line_body, line_text}
use Rattle.suit_text.proofs.LooseWords.{before_other, no_words}
use Rattle.suit_text.proofs.LooseLines.{line_fed, one_piece, no_pieces}

-- bytes above the space
abbrev pub ArePlain : List ℕ → Type 0
ArePlain [] = Unit {0}
ArePlain (byte ∷ bytes) = (32 < byte) × ArePlain bytes

-- a word that is written
pub record IsPlainWord (word : List ℕ) : Type 0 where
  pub some : 0 < length word
  pub plain : ArePlain word

abbrev pub ArePlainWords : List (List ℕ) → Type 0
ArePlainWords [] = Unit {0}
ArePlainWords (word ∷ words) = IsPlainWord word × ArePlainWords words

-- a line that is written has a word
abbrev pub IsPlainLine : List (List ℕ) → Type 0
IsPlainLine [] = ⊥
IsPlainLine (word ∷ words) = IsPlainWord word × ArePlainWords words

abbrev pub ArePlainLines : List (List (List ℕ)) → Type 0
ArePlainLines [] = Unit {0}
ArePlainLines (line ∷ lines) = IsPlainLine line × ArePlainLines lines

no_blank : (byte : ℕ) → 32 < byte → is_blank byte ≡ false
no_blank byte h = grind (arith, nat_tests)

blank_first : (rest : List ℕ) → words_of (32 ∷ rest) ≡ words_of rest
unfolding words_of
blank_first rest = refl

before_end : (x : ℕ) (rest : List ℕ) → is_blank x ≡ false → is_apart rest ≡ true
    → words_of (x ∷ rest) ≡ (x ∷ []) ∷ words_of rest
unfolding words_of
before_end x rest e f = rw (e, f) refl

-- a word before a space, or at the end, is read whole
word_then : (x : ℕ) (xs rest : List ℕ) → 32 < x → ArePlain xs → is_apart rest ≡ true
    → words_of ((x ∷ xs) ++ rest) ≡ (x ∷ xs) ∷ words_of rest
word_then x [] rest h p e = before_end x rest (no_blank x h) e
word_then x (y ∷ ys) rest h p e =
    before_other x y (ys ++ rest) (no_blank x h) (no_blank y p.0) ∙ ap (with_first x) (word_then y ys rest p.0 p.1 e)

spaced_apart : (words : List (List ℕ)) → is_apart (flat_map (λ more. 32 ∷ more) words) ≡ true
spaced_apart [] = refl
spaced_apart (word ∷ words) = refl

word_first : (word rest : List ℕ) → IsPlainWord word → is_apart rest ≡ true
    → words_of (word ++ rest) ≡ word ∷ words_of rest
word_first [] rest h e = let none : 0 < 0 = h.some in absurd (omega arith)
word_first (x ∷ xs) rest h e = word_then x xs rest h.plain.0 h.plain.1 e

-- words that are one space apart are read back
words_back : (word : List ℕ) (words : List (List ℕ)) → IsPlainWord word → ArePlainWords words
    → words_of (word ++ flat_map (λ more. 32 ∷ more) words) ≡ word ∷ words
words_back word [] h hs = word_first word [] h refl ∙ ap (λ (ws : List (List ℕ)). word ∷ ws) no_words
words_back word (next ∷ words) h hs =
    word_first word (flat_map (λ more. 32 ∷ more) (next ∷ words)) h refl
    ∙ ap (λ (ws : List (List ℕ)). word ∷ ws)
    (blank_first (next ++ flat_map (λ more. 32 ∷ more) words) ∙ words_back next words hs.0 hs.1)

-- bytes from the space on
abbrev AreAbove : List ℕ → Type 0
AreAbove [] = Unit {0}
AreAbove (byte ∷ bytes) = (32 ≤ byte) × AreAbove bytes

above_plain : (word rest : List ℕ) → ArePlain word → AreAbove rest → AreAbove (word ++ rest)
above_plain [] rest p q = q
above_plain (byte ∷ bytes) rest p q = (let h : 32 < byte = p.0 in omega arith, above_plain bytes rest p.1 q)

above_spaced : (words : List (List ℕ)) → ArePlainWords words → AreAbove (flat_map (λ more. 32 ∷ more) words)
above_spaced [] hs = tt
above_spaced (word ∷ words) hs = (omega arith, above_plain word _ hs.0.plain (above_spaced words hs.1))

feed_later : (x : ℕ) → 32 ≤ x → (x == 10) ≡ false
feed_later x h = grind (arith, nat_tests)

feed_first : (rest : List ℕ) → pieces_of (10 ∷ rest) ≡ (10 ∷ []) ∷ pieces_of rest
unfolding pieces_of
feed_first rest = refl

-- a line ends at its line feed
piece_back : (body rest : List ℕ) → AreAbove body → pieces_of (body ++ 10 ∷ rest) ≡ (body ++ 10 ∷ []) ∷ pieces_of rest
piece_back [] rest h = feed_first rest
piece_back (x ∷ xs) rest h =
    one_piece x (xs ++ 10 ∷ rest) (feed_later x h.0) ∙ ap (with_first x) (piece_back xs rest h.1)

return_later : (x : ℕ) → 32 ≤ x → (x == 13) ≡ false
return_later x h = grind (arith, nat_tests)

lacks_return : (body : List ℕ) (k : ℕ) → AreAbove body → bytes_eq (drop k body) (13 ∷ []) ≡ false
lacks_return [] zero h = refl
lacks_return [] (suc k) h = refl
lacks_return (x ∷ xs) zero h = rw (return_later x h.0) refl
lacks_return (x ∷ xs) (suc k) h = lacks_return xs k h.1

return_kept : (body : List ℕ) → AreAbove body → without_return body ≡ body
return_kept body h = rw (lacks_return body (length body - 1) h) refl

body_above : (word : List ℕ) (words : List (List ℕ)) → IsPlainWord word → ArePlainWords words
    → AreAbove (line_body (word ∷ words))
body_above word words h hs = above_plain word _ h.plain (above_spaced words hs)

joined : (body rest : List ℕ) → (body ++ 10 ∷ []) ++ rest ≡ body ++ 10 ∷ rest
joined body rest = rw (append_assoc body (10 ∷ []) rest) refl

line_back : (words : List (List ℕ)) (rest : List ℕ) → IsPlainLine words
    → lines_of (line_text words ++ rest) ≡ words ∷ lines_of rest
unfolding line_text
line_back [] rest h = absurd h
line_back (word ∷ words) rest h =
    let body = line_body (word ∷ words) in
    let above = body_above word words h.0 h.1 in
    ap lines_of (joined body rest)
    ∙ (ap (map (λ piece. words_of (line_of piece))) (piece_back body rest above)
    ∙ ap (λ (ws : List (List ℕ)). ws ∷ lines_of rest)
    (ap words_of (line_fed body ∙ return_kept body above) ∙ words_back word words h.0 h.1))

-- lines that are written are read back
pub lines_back : (lines : List (List (List ℕ))) → ArePlainLines lines → lines_of (flat_map line_text lines) ≡ lines
lines_back [] h = ap (map (λ piece. words_of (line_of piece))) no_pieces
lines_back (line ∷ lines) h =
    line_back line (flat_map line_text lines) h.0 ∙ ap (λ (ls : List (List (List ℕ))). line ∷ ls) (lines_back lines h.1)
