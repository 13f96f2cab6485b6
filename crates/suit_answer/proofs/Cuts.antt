-- `no_slash`, `one_slash`, `two_slashes` and `over_is`: how a word is cut at its slashes, and when a text is over.
use Rattle.std.proofs.Common.{ℕ, ◌+◌, ◌≡◌, ◌==◌, not, Bool, true, false, cond, List, [], ◌∷◌}
use Rattle.std.proofs.Common.{take, drop, Some, None, position, refl}
use Rattle.std.specs.List.{slice_split, onto_first}
use Rattle.suit_text.specs.Strict.{pieces_of, is_filled}
use Rattle.suit_text.proofs.Splits.{uncut, cut_first, far, some_part}
use Rattle.suit_answer.specs.Forms.{slash_sides, two_filled}
use Rattle.suit_answer.specs.Reading.{is_over}

-- a word without a slash
pub no_slash : (word : List ℕ) → position (λ byte. byte == 47) word ≡ None → slash_sides word ≡ None
no_slash word h = rw (uncut (λ byte. byte == 47) word (far (λ byte. byte == 47) word h)) refl

-- a word with one slash
pub one_slash : (word : List ℕ) (at : ℕ) → position (λ byte. byte == 47) word ≡ Some at
    → position (λ byte. byte == 47) (drop (at + 1) word) ≡ None
    → slash_sides word ≡ two_filled (take at word ∷ drop (at + 1) word ∷ [])
one_slash word at h none =
    rw (
      cut_first (λ byte. byte == 47) word at h,
      uncut (λ byte. byte == 47) (drop (at + 1) word) (far (λ byte. byte == 47) (drop (at + 1) word) none),
    ) refl

-- a word with more slashes
pub two_slashes : (word : List ℕ) (at more : ℕ) → position (λ byte. byte == 47) word ≡ Some at
    → position (λ byte. byte == 47) (drop (at + 1) word) ≡ Some more → slash_sides word ≡ None
two_slashes word at more h again =
    let rest = some_part (λ byte. byte == 47) (drop (more + 1) (drop (at + 1) word)) in
    rw (
      cut_first (λ byte. byte == 47) word at h,
      cut_first (λ byte. byte == 47) (drop (at + 1) word) more again,
      rest.2,
    ) refl

over_step : (b : Bool) (x : ℕ) (parts : List (List ℕ)) (part : List ℕ) (rest : List (List ℕ)) → parts ≡ part ∷ rest
    → is_over (cond b ([] ∷ parts) (onto_first x parts)) ≡ false
over_step true x parts part rest e = rw e refl
over_step false x parts part [] e = rw e refl
over_step false x parts part (next ∷ rest) e = rw e refl

-- nothing is left exactly where the text is empty
pub over_is : (text : List ℕ) → is_over (pieces_of text) ≡ not (is_filled text)
unfolding pieces_of
over_is [] = refl
over_is (x ∷ xs) =
    let some = some_part (λ byte. byte == 10) xs in
    over_step (x == 10) x (slice_split (λ byte. byte == 10) xs) some.0 some.1 some.2
