-- Elements by their index, and the first that passes a test.
use Rattle.std.proofs.Common.{Bool, Contains, List, None, Option, Some, [], ap, arith, cond, false, get_or, inl, inr}
use Rattle.std.proofs.Common.{length, map, nat_lt, not, position, refl, set, slice_index_or, subst, suc, sym, true}
use Rattle.std.proofs.Common.{zero, ℕ, ◌++◌, ◌+◌, ◌<◌, ◌∙◌, ◌∷◌, ◌≡◌, ◌≤◌}
use Rattle.std.proofs.lemmas.Bool.{cases_eq}
use Rattle.std.proofs.lemmas.Bool.Decides.{nat_tests}
use Rattle.std.proofs.lemmas.List.{get_or_append_left, get_or_at, length-map}
use Rattle.std.proofs.lemmas.Option.{get_or_from_slice_get, slice_get_within}
use Rattle.std.specs.List.{AllByRecursion, position_or_len}
use Rattle.std.specs.Prelude.{find, slice_get}
use Rattle.suit_lists.proofs.Elements.{Contains-cons_cases, Contains-nil}

-- the same at an index
pub mapped_at : {X Y : Type 0} (f : X → Y) (xs : List X) (index : ℕ) (y : Y) → slice_get (map f xs) index ≡ Some y
    → (x : X) × (slice_get xs index ≡ Some x) × (f x ≡ y)
mapped_at f [] index y h = cc
mapped_at f (x ∷ xs) zero y h = (x, refl, cc)
mapped_at f (x ∷ xs) (suc index) y h = mapped_at f xs index y h

pub contains_at : {X : Type 0} (xs : List X) (index : ℕ) (x : X) → slice_get xs index ≡ Some x → Contains xs x
contains_at xs index x h = (index, slice_get_within xs index x h, get_or_from_slice_get xs index x x h)

-- ---- lists that grow
pub pushed_each : {X : Type 0} (P : ℕ → X → Type 0) (xs : List X) (y : X)
    → ((index : ℕ) (x : X) → slice_get xs index ≡ Some x → P index x) → P (length xs) y
    → (index : ℕ) (x : X) → slice_get (xs ++ y ∷ []) index ≡ Some x → P index x
pushed_each P [] y h here zero x at = let is : y ≡ x = cc in subst (P 0) is here
pushed_each P [] y h here (suc index) x at = absurd (cc)
pushed_each P (first ∷ xs) y h here zero x at = h zero x at
pushed_each P (first ∷ xs) y h here (suc index) x at =
    pushed_each (λ n z. P (suc n) z) xs y (λ n z found. h (suc n) z found) here index x at

pub none_here : {R : Type 0} (here : R → Bool) (rows : List R)
    → ((k : ℕ) (d : R) → k < length rows → here (slice_index_or rows k d) ≡ false) → find here rows ≡ None
none_here here [] none = refl
none_here here (row ∷ rows) none =
    rw (none 0 row (omega arith)) (none_here here rows (λ k d below. none (suc k) d (omega (arith, below))))

pub find_none : {R : Type 0} (passes : R → Bool) (rows : List R) → AllByRecursion (λ row. passes row ≡ false) rows
    → find passes rows ≡ None
find_none passes [] none = refl
find_none passes (row ∷ rows) none = rw none.0 (find_none passes rows none.1)

pub find_start : {R : Type 0} (passes : R → Bool) (start rest : List R) → find passes rest ≡ None
    → find passes (start ++ rest) ≡ find passes start
find_start passes [] rest none = none
find_start {R} passes (row ∷ start) rest none =
    ap (λ (o : Option R). cond (passes row) (Some row) o) (find_start passes start rest none)

pub find_after : {R : Type 0} (passes : R → Bool) (front rest : List R) → AllByRecursion (λ row. passes row ≡ false) front
    → find passes (front ++ rest) ≡ find passes rest
find_after passes [] rest none = refl
find_after {R} passes (row ∷ front) rest none =
    ap (λ (b : Bool). cond b (Some row) (find passes (front ++ rest))) none.0 ∙ find_after passes front rest none.1

-- an element stands at an index
pub index_of : {X : Type 0} (xs : List X) (x d : X) → Contains xs x → (index : ℕ) × (index < length xs)
    × (get_or xs index d ≡ x)
index_of [] x d found = absurd (Contains-nil x found)
index_of (first ∷ xs) x d found = elim (Contains-cons_cases first xs x found) [
  | inl here ↦ (0, omega arith, here)
  | inr there ↦ let later = index_of xs x d there in
      let below = later.1 in
      (suc later.0, omega (arith, below), later.2)
]

-- what is true of each of some elements and of one more
pub each_more : {X : Type 0} (P : ℕ → X → Type 0) (xs now : List X) (x : X) (n : ℕ) → length xs ≡ n
    → now ≡ xs ++ x ∷ []
    → ((i : ℕ) (d : X) → i < n → P i (get_or xs i d)) → P n x → (i : ℕ) (d : X) → i < n + 1 → P i (get_or now i d)
each_more {X} P xs now x n long is before here i d below = elim (cases_eq i n) [
  | inl same ↦
      subst (λ (l : List X). P i (get_or l i d)) (sym is)
      (subst (λ (k : ℕ). P k (get_or (xs ++ x ∷ []) k d)) (sym same)
      (subst (P n) (sym (get_or_at xs x [] d n long)) here))
  | inr other ↦
      let under : i < n = omega (arith, below, other) in
      subst (λ (l : List X). P i (get_or l i d)) (sym is)
      (subst (P i) (sym (get_or_append_left xs (x ∷ []) d i (omega (arith, under, long)))) (before i d under))
]

-- lists of one length that give the same by places
pub maps_same : {X Y Z : Type 0} (f : X → Z) (g : Y → Z) (xs : List X) (ys : List Y) → length xs ≡ length ys
    → ((index : ℕ) (x : X) (y : Y) → index < length xs → f (get_or xs index x) ≡ g (get_or ys index y))
    → map f xs ≡ map g ys
maps_same f g [] [] even same = refl
maps_same f g [] (y ∷ ys) even same = absurd (omega (arith, even))
maps_same f g (x ∷ xs) [] even same = absurd (omega (arith, even))
maps_same {Z = Z} f g (x ∷ xs) (y ∷ ys) even same =
    ap (λ (z : Z). z ∷ map f xs) (same 0 x y (omega arith))
    ∙ ap (λ (l : List Z). g y ∷ l)
    (maps_same f g xs ys (omega (arith, even)) (λ index a b below. same (suc index) a b (omega (arith, below))))

-- what is read with an element past the end is it
pub at_itself : {X : Type 0} (xs : List X) (index : ℕ) (d : X) → get_or xs index (get_or xs index d) ≡ get_or xs index d
at_itself [] index d = refl
at_itself (x ∷ xs) zero d = refl
at_itself (x ∷ xs) (suc index) d = at_itself xs index d

next_within : (b : Bool) (m n : ℕ) → m ≤ n → cond (not b) (1 + m) 0 ≤ suc n
next_within true m n h = omega arith
next_within false m n h = omega arith

-- a first place, or the length where there is none
pub first_within : {A : Type 0} (p : A → Bool) (xs : List A) → position_or_len p xs ≤ length xs
first_within p [] = omega arith
first_within p (x ∷ xs) = next_within (p x) _ _ (first_within p xs)

none_is : (b : Bool) (n : ℕ) → cond b (Some n) None ≡ None → b ≡ false
none_is true n h = cc
none_is false n h = refl

-- where no place passes, the first is past the end
pub none_first : {A : Type 0} (p : A → Bool) (xs : List A) → position p xs ≡ None → length xs ≤ position_or_len p xs
none_first p xs h = let e = none_is (nat_lt (position_or_len p xs) (length xs)) (position_or_len p xs) h in
    grind (arith, nat_tests)

pub next_at : {X : Type 0} (xs : List X) (x : X) (later : List X) (d : X) → get_or (xs ++ x ∷ later) (length xs) d ≡ x
next_at [] x later d = refl
next_at (first ∷ xs) x later d = next_at xs x later d

-- ---- a row at its index
pub set_same : {X : Type 0} (xs : List X) (index : ℕ) (x : X) → slice_get xs index ≡ Some x → xs ≡ set xs index x
set_same [] index x e = refl
set_same (y ∷ ys) zero x e = let same : y ≡ x = cc in ap (λ z. z ∷ ys) same
set_same (y ∷ ys) (suc index) x e = ap (λ zs. y ∷ zs) (set_same ys index x e)

-- what holds of each element holds of the one that is found
pub found_fits : {X : Type 0} (P : X → Type 0) (test : X → Bool) (xs : List X) (x : X) → AllByRecursion P xs
    → find test xs ≡ Some x → P x × (test x ≡ true)
found_fits P test [] x all is = absurd (cc)
found_fits {X} P test (first ∷ xs) x all is =
    by_test (λ found. found_fits P test xs x all.1 found) (test first) refl is
  where
    by_test : (find test xs ≡ Some x → P x × (test x ≡ true)) → (b : Bool) → test first ≡ b
        → cond b (Some first) (find test xs) ≡ Some x → P x × (test x ≡ true)
    by_test later true e found =
        let same : first ≡ x = cc in subst (λ (y : X). P y × (test y ≡ true)) same (all.0, e)
    by_test later false e found = later found

place-map : {A B : Type 0} → (test : B → Bool) (change : A → B) (xs : List A)
    → position_or_len test (map change xs) ≡ position_or_len (λ x. test (change x)) xs
place-map test change [] = refl
place-map test change (x ∷ xs) = rw (place-map test change xs) refl

pub position-map : {A B : Type 0} → (test : B → Bool) (change : A → B) (xs : List A)
    → position test (map change xs) ≡ position (λ x. test (change x)) xs
position-map test change xs = rw (place-map test change xs, length-map) refl
