-- The blanks at the ends of a text, one byte at a time (`first_blank`, `last_blank`).
use Rattle.std.proofs.Common.{◌≡◌, ℕ, List, [], ◌∷◌, ◌++◌, true, false, refl, sym, ap, ◌∙◌, length, arith}
use Rattle.std.specs.Prelude.{reverse}
use Rattle.std.proofs.lemmas.List.{reverse-append, reverse-reverse}
use Rattle.suit_text.specs.Loose.{is_blank}
use Rattle.suit_table.specs.Fields.{without_front}

pub no_first : (text : List ℕ) → length text ≡ 0 → text ≡ without_front text
unfolding without_front
no_first [] is = refl
no_first (byte ∷ rest) is = absurd (omega arith)

-- a blank in front says nothing
pub first_blank : (text : List ℕ) (byte : ℕ) (rest : List ℕ) → text ≡ byte ∷ rest → is_blank byte ≡ true
    → without_front text ≡ without_front rest
unfolding without_front
first_blank text byte rest is blank = rw (is, blank) refl

-- nothing is left out before another byte
pub first_word : (text : List ℕ) (byte : ℕ) (rest : List ℕ) → text ≡ byte ∷ rest → is_blank byte ≡ false
    → text ≡ without_front text
unfolding without_front
first_word text byte rest is blank = rw (is, blank) refl

turned : (text rest : List ℕ) (byte : ℕ) → text ≡ rest ++ (byte ∷ []) → reverse text ≡ byte ∷ reverse rest
turned text rest byte is = ap reverse is ∙ reverse-append rest (byte ∷ [])

-- the same at the end
pub no_last : (text : List ℕ) → length text ≡ 0 → text ≡ reverse (without_front (reverse text))
unfolding without_front
no_last [] is = refl
no_last (byte ∷ rest) is = absurd (omega arith)

pub last_blank : (text rest : List ℕ) (byte : ℕ) → text ≡ rest ++ (byte ∷ []) → is_blank byte ≡ true
    → without_front (reverse text) ≡ without_front (reverse rest)
last_blank text rest byte is blank =
    first_blank (reverse text) byte (reverse rest) (turned text rest byte is) blank

pub last_word : (text rest : List ℕ) (byte : ℕ) → text ≡ rest ++ (byte ∷ []) → is_blank byte ≡ false
    → text ≡ reverse (without_front (reverse text))
last_word text rest byte is blank =
    let kept = first_word (reverse text) byte (reverse rest) (turned text rest byte is) blank in
    sym (reverse-reverse text) ∙ ap reverse kept
