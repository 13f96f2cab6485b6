-- Joined lists, and choices between two lists.
use Rattle.std.proofs.Common.{Bool, List, [], arith, cond, false, get_or, length, refl, subst, suc, sym, true}
use Rattle.std.proofs.Common.{zero, ℕ, ◌++◌, ◌+◌, ◌<◌, ◌∷◌, ◌≡◌}
use Rattle.std.specs.Prelude.{if◌then◌else◌}

unfoldable pub is_none : {X : Type 0} → List X → Bool
is_none [] = true
is_none (x ∷ xs) = false

pub length_kept : {X : Type 0} (b : Bool) (x : X) (xs : List X) → length (cond b (x ∷ xs) xs) ≡ cond b 1 0 + length xs
length_kept true x xs = omega arith
length_kept false x xs = omega arith

pub either_case : {Z : Type 0} (written whole : List Z) (b : Bool) → (b ≡ true → written ≡ whole)
    → (b ≡ false → whole ≡ []) → (if b then written else []) ≡ whole
either_case written whole true same none = same refl
either_case written whole false same none = sym (none refl)

pub first_element : {X : Type 0} (xs : List X) → 0 < length xs → X
first_element [] some = absurd (omega (arith, some))
first_element (x ∷ xs) some = x

inside : {X : Type 0} (xs : List X) (x : X) (later : List X) → length xs < length (xs ++ x ∷ later)
inside [] x later = omega arith
inside (first ∷ xs) x later = let there = inside xs x later in omega (arith, there)

-- the next of a list stands at one of its indices
pub next_inside : {X : Type 0} (all done : List X) (x : X) (later : List X) → all ≡ done ++ x ∷ later
    → length done < length all
next_inside {X} all done x later parts =
    subst (λ (l : List X). length done < length l) (sym parts) (inside done x later)

pub filter_length : {X : Type 0} (b : Bool) (x : X) (xs : List X)
    → length (cond b (x ∷ xs) xs) ≡ (if b then length xs + 1 else length xs)
filter_length true x xs = omega arith
filter_length false x xs = refl

-- at each place of the first list stands what is related to what stands there in the second
abbrev pub ArePlaced : {A B : Type 0} → (A → B → Type 0) → List A → List B → Type 0
ArePlaced {A} {B} R first second =
    (index : ℕ) (left : A) (right : B) → index < length first → R (get_or first index left) (get_or second index right)

pub placed_append : {A B : Type 0} (R : A → B → Type 0) (done batch : List A) (told judged : List B)
    → length told ≡ length done → ArePlaced R done told → ArePlaced R batch judged
    → ArePlaced R (done ++ batch) (told ++ judged)
placed_append R [] batch [] judged same first second index left right below = second index left right below
placed_append R [] batch (one ∷ told) judged same first second index left right below = absurd (omega arith)
placed_append R (entry ∷ done) batch [] judged same first second index left right below = absurd (omega arith)
placed_append R (entry ∷ done) batch (one ∷ told) judged same first second zero left right below =
    first 0 left right (omega arith)
placed_append R (entry ∷ done) batch (one ∷ told) judged same first second (suc index) left right below =
    placed_append R done batch told judged (omega arith) (λ place a b inside. first (suc place) a b (omega arith)) second
    index left right (omega arith)
