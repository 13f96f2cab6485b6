-- Steps of a walk along a list: what is done, and what is left.
use Rattle.std.proofs.Common.{Bool, List, Some, [], ap, arith, cond, drop, false, get_or, length, map, refl, set, suc}
use Rattle.std.proofs.Common.{sym, take, true, zero, ℕ, ◌&&◌, ◌++◌, ◌+◌, ◌-◌, ◌<◌, ◌∙◌, ◌∷◌, ◌≡◌, ◌≤◌, inl, inr}
use Rattle.std.proofs.Common.{subst}
use Rattle.std.proofs.Math.Seq.{take-suc}
use Rattle.std.proofs.lemmas.Bool.{cases_eq}
use Rattle.std.proofs.lemmas.List.{append-nil, append_assoc, at_drop_all, at_drop_more, drop-drop, drop_all}
use Rattle.std.proofs.lemmas.List.{length-append, length-drop, length-take, map-append, map_push, take_at, take_more}
use Rattle.std.proofs.lemmas.List.Elements.{filter-append, filter_more}
use Rattle.std.proofs.lemmas.List.FromFn.{fill_by_all}
use Rattle.std.proofs.lemmas.List.Prefix.{front_rest}
use Rattle.std.specs.List.{list_all, list_any, range_with_len}
use Rattle.std.specs.Prelude.{filter, slice_get, ◌||◌, Contains}
use Rattle.suit_lists.proofs.Elements.{Contains-first, Contains-later}
use Rattle.suit_lists.proofs.Filters.{map_filter}
use Rattle.suit_lists.proofs.Tests.{any_append_one}

-- one element more, which a test keeps or not
pub filter_next : {X : Type 0} (test : X → Bool) (xs : List X) (i : ℕ) (d : X) (kept new : List X) (b : Bool)
    → i < length xs → kept ≡ filter test (take i xs) → test (get_or xs i d) ≡ b
    → new ≡ kept ++ cond b (get_or xs i d ∷ []) [] → new ≡ filter test (take (i + 1) xs)
filter_next {X} test xs i d kept new b below so_far is next =
    next ∙ ap (λ (l : List X). l ++ cond b (get_or xs i d ∷ []) []) so_far
    ∙ ap (λ (c : Bool). filter test (take i xs) ++ cond c (get_or xs i d ∷ []) []) (sym is)
    ∙ sym (filter_more test xs i d below)

-- the same over images
pub image_next : {X Y : Type 0} (image : X → Y) (test : Y → Bool) (xs : List X) (i : ℕ) (d : X) (kept new : List Y)
    (b : Bool) → i < length xs → kept ≡ filter test (map image (take i xs)) → test (image (get_or xs i d)) ≡ b
    → new ≡ kept ++ cond b (image (get_or xs i d) ∷ []) [] → new ≡ filter test (map image (take (i + 1) xs))
image_next {X} {Y} image test xs i d kept new b below so_far is next =
    let made : List Y = map image (take i xs) in
    next ∙ ap (λ (l : List Y). l ++ cond b (image (get_or xs i d) ∷ []) []) so_far
    ∙ ap (λ (c : Bool). filter test made ++ cond c (image (get_or xs i d) ∷ []) []) (sym is)
    ∙ sym (filter-append test made (image (get_or xs i d) ∷ []))
    ∙ ap (filter test) (sym (map_push image (take i xs) (get_or xs i d)))
    ∙ ap (λ (l : List X). filter test (map image l)) (sym (take_more xs i d below))

-- ---- steps of the walk

-- a history with its last move taken off
pub one_off : {X : Type 0} (before all after : List X) (x : X) (n : ℕ) → all ≡ before ++ x ∷ [] → n ≡ length all
    → after ≡ take (n - 1) all → after ≡ before
one_off {X} before all after x n is long off =
    let less : n - 1 ≡ length before = omega (arith, long, ap length is, length-append before (x ∷ [])) in
    off ∙ ap (λ (l : List X). take (n - 1) l) is ∙ ap (λ (m : ℕ). take m (before ++ x ∷ [])) less
    ∙ take_at before (x ∷ []) (length before) refl

-- all pass from a place on where the one there does and all after it do
pub all_from : {X : Type 0} (p : X → Bool) (xs : List X) (place : ℕ) (d : X) (b : Bool) → place < length xs
    → b ≡ p (get_or xs place d)
    → list_all p (drop place xs) ≡ (b && list_all p (drop (place + 1) xs))
all_from p xs place d b below is =
    at_drop_more (list_all p) xs place d below ∙ ap (λ (t : Bool). t && list_all p (drop (place + 1) xs)) (sym is)

-- past the last all pass
pub all_past : {X : Type 0} (p : X → Bool) (xs : List X) (place : ℕ) → length xs ≤ place
    → list_all p (drop place xs) ≡ true
all_past p xs place past = ap (list_all p) (drop_all place xs past)

-- ---- lists

-- what is made of the numbers of a list's places is what is made of its elements
pub range_map : {X Y : Type 0} (f : ℕ → Y) (g : X → Y) (xs : List X) (d : X) (first : ℕ)
    → ((index : ℕ) → index < length xs → f (first + index) ≡ g (get_or xs index d))
    → map f (range_with_len first (length xs)) ≡ map g xs
range_map f g [] d first same = refl
range_map {Y = Y} f g (x ∷ xs) d first same =
    ap (λ (l : List Y). f first ∷ l)
    (range_map f g xs d (first + 1)
    (λ index below. ap f (omega arith) ∙ same (suc index) (omega (arith, below))))
    ∙ ap (λ (y : Y). y ∷ map g xs) (ap f (omega arith) ∙ same 0 (omega arith))

pub any_one_more : {X : Type 0} (p : X → Bool) (xs : List X) (i : ℕ) (x : X) → i < length xs → x ≡ get_or xs i x
    → list_any p (take (i + 1) xs) ≡ (list_any p (take i xs) || p x)
any_one_more {X} p xs i x below is =
    let one : i + 1 ≡ suc i = omega arith in
    ap (λ (n : ℕ). list_any p (take n xs)) one
    ∙ ap (list_any p) (take-suc xs i x below)
    ∙ any_append_one p (take i xs) (get_or xs i x)
    ∙ ap (λ (y : X). list_any p (take i xs) || p y) (sym is)

pub indexed : {X : Type 0} (test : X → Bool) (xs : List X) (x : X)
    → map (λ index. get_or xs index x) (filter (λ index. test (get_or xs index x)) (range_with_len 0 (length xs)))
    ≡ filter test xs
indexed test xs x =
    map_filter test (λ index. get_or xs index x) (range_with_len 0 (length xs))
    ∙ ap (filter test) (sym (fill_by_all (λ index. get_or xs index x) xs (length xs) x refl (λ index below. refl)))

-- so many of a list from an index on
pub cut_length : {X : Type 0} (xs : List X) (start count : ℕ) → start + count ≤ length xs
    → length (take count (drop start xs)) ≡ count
cut_length xs start count within =
    let taken = length-take count (drop start xs) in
    let dropped = length-drop start xs in
    omega (arith, taken, dropped, within)

-- an element that a test keeps is the first that it keeps from its index on
pub kept_on : {X : Type 0} (p : X → Bool) (xs : List X) (i : ℕ) (d : X) → i < length xs → true ≡ p (get_or xs i d)
    → filter p (drop i xs) ≡ get_or xs i d ∷ filter p (drop (i + 1) xs)
kept_on {X} p xs i d below is =
    at_drop_more (filter p) xs i d below
    ∙ ap (λ (b : Bool). cond b (get_or xs i d ∷ filter p (drop (i + 1) xs)) (filter p (drop (i + 1) xs))) (sym is)

-- one that it does not keep may be passed over
pub kept_past : {X : Type 0} (p : X → Bool) (xs : List X) (i : ℕ) (d : X) → i < length xs → false ≡ p (get_or xs i d)
    → filter p (drop i xs) ≡ filter p (drop (i + 1) xs)
kept_past {X} p xs i d below is =
    at_drop_more (filter p) xs i d below
    ∙ ap (λ (b : Bool). cond b (get_or xs i d ∷ filter p (drop (i + 1) xs)) (filter p (drop (i + 1) xs))) (sym is)

-- past the end it keeps nothing
pub kept_end : {X : Type 0} (p : X → Bool) (xs : List X) (i : ℕ) → length xs ≤ i → filter p (drop i xs) ≡ []
kept_end p xs i past = at_drop_all (filter p) xs i past

-- where a test holds of an element, it holds of one from its index on
pub any_on : {X : Type 0} (p : X → Bool) (xs : List X) (i : ℕ) (d : X) → i < length xs → true ≡ p (get_or xs i d)
    → list_any p (drop i xs) ≡ true
any_on p xs i d below is =
    at_drop_more (list_any p) xs i d below ∙ ap (λ (b : Bool). b || list_any p (drop (i + 1) xs)) (sym is)

-- one of which it does not hold may be passed over
pub any_past : {X : Type 0} (p : X → Bool) (xs : List X) (i : ℕ) (d : X) → i < length xs → false ≡ p (get_or xs i d)
    → list_any p (drop i xs) ≡ list_any p (drop (i + 1) xs)
any_past p xs i d below is =
    at_drop_more (list_any p) xs i d below ∙ ap (λ (b : Bool). b || list_any p (drop (i + 1) xs)) (sym is)

take_one : {X : Type 0} (xs : List X) (i : ℕ) (d : X) → i < length xs
    → take (i + 1) xs ≡ take i xs ++ get_or xs i d ∷ []
take_one {X} xs i d below =
    let one : i + 1 ≡ suc i = omega arith in
    ap (λ (n : ℕ). take n xs) one ∙ take-suc xs i d below

kept_more : {X : Type 0} (p : X → Bool) (xs : List X) (i : ℕ) (d : X) → i < length xs
    → filter p (take (i + 1) xs) ≡ filter p (take i xs) ++ filter p (get_or xs i d ∷ [])
kept_more {X} p xs i d below = ap (filter p) (take_one xs i d below) ∙ filter-append p (take i xs) (get_or xs i d ∷ [])

-- one more that a test keeps, and what is made of it
pub kept_one : {X Y : Type 0} (f : X → Y) (p : X → Bool) (xs : List X) (i : ℕ) (d : X) (before after : List Y) (y : Y)
    → i < length xs → before ≡ map f (filter p (take i xs)) → true ≡ p (get_or xs i d) → y ≡ f (get_or xs i d)
    → after ≡ before ++ y ∷ [] → after ≡ map f (filter p (take (i + 1) xs))
kept_one {X} {Y} f p xs i d before after y below was is made now =
    now
    ∙ ap (λ (l : List Y). l ++ y ∷ []) was
    ∙ ap (λ (z : Y). map f (filter p (take i xs)) ++ z ∷ []) made
    ∙ sym (map-append f (filter p (take i xs)) (get_or xs i d ∷ []))
    ∙ ap (map f) (ap (λ (b : Bool). filter p (take i xs) ++ cond b (get_or xs i d ∷ []) []) is
    ∙ sym (kept_more p xs i d below))

-- one more that it does not keep
pub kept_other : {X Y : Type 0} (f : X → Y) (p : X → Bool) (xs : List X) (i : ℕ) (d : X) (before : List Y)
    → i < length xs → before ≡ map f (filter p (take i xs)) → false ≡ p (get_or xs i d)
    → before ≡ map f (filter p (take (i + 1) xs))
kept_other {X} {Y} f p xs i d before below was is =
    was
    ∙ ap (map f) (sym (append-nil (filter p (take i xs)))
    ∙ ap (λ (b : Bool). filter p (take i xs) ++ cond b (get_or xs i d ∷ []) []) is
    ∙ sym (kept_more p xs i d below))

range_end : (n a : ℕ) → range_with_len a (suc n) ≡ range_with_len a n ++ (a + n) ∷ []
range_end zero a = ap (λ (k : ℕ). k ∷ []) (omega arith)
range_end (suc n) a =
    let turned : a + 1 + n ≡ a + suc n = omega arith in
    ap (λ (l : List ℕ). a ∷ l) (range_end n (a + 1) ∙ ap (λ (k : ℕ). range_with_len (a + 1) n ++ k ∷ []) turned)

-- the numbers below the next, with one more at the end
pub range_longer : (n : ℕ) → range_with_len 0 (n + 1) ≡ range_with_len 0 n ++ n ∷ []
range_longer n =
    let same : n + 1 ≡ suc n = omega arith in
    let last : 0 + n ≡ n = omega arith in
    ap (range_with_len 0) same ∙ range_end n 0 ∙ ap (λ (k : ℕ). range_with_len 0 n ++ k ∷ []) last

-- one number more at the end
pub one_index : (before after : List ℕ) (n : ℕ) → before ≡ range_with_len 0 n → after ≡ before ++ n ∷ []
    → after ≡ range_with_len 0 (n + 1)
one_index before after n was now = now ∙ ap (λ (l : List ℕ). l ++ n ∷ []) was ∙ sym (range_longer n)

-- one more index of what a map gives of all below a number
pub one_numbered : {Y : Type 0} (f : ℕ → Y) (before after : List Y) (n : ℕ) (y : Y)
    → before ≡ map f (range_with_len 0 n) → after ≡ before ++ y ∷ [] → y ≡ f n
    → after ≡ map f (range_with_len 0 (n + 1))
one_numbered {Y} f before after n y was now is =
    now
    ∙ ap (λ (l : List Y). l ++ y ∷ []) was
    ∙ ap (λ (z : Y). map f (range_with_len 0 n) ++ z ∷ []) is
    ∙ sym (map-append f (range_with_len 0 n) (n ∷ []))
    ∙ ap (map f) (one_index (range_with_len 0 n) (range_with_len 0 n ++ n ∷ []) n refl refl)

-- ---- lists

-- a list is what stands at its indices
pub by_indices : {X : Type 0} (xs : List X) (d : X)
    → map (λ index. get_or xs index d) (range_with_len 0 (length xs)) ≡ xs
by_indices [] d = refl
by_indices {X} (x ∷ xs) d =
    ap (λ (l : List X). x ∷ l) (shifted (λ index. get_or (x ∷ xs) index d) 0 (length xs) ∙ by_indices xs d)
  where
    shifted : (g : ℕ → X) (a n : ℕ) → map g (range_with_len (a + 1) n) ≡ map (λ k. g (suc k)) (range_with_len a n)
    shifted g a zero = refl
    shifted g a (suc n) =
        let next : a + 1 ≡ suc a = omega arith in
        ap (λ (l : List X). g (a + 1) ∷ l) (shifted g (a + 1) n)
        ∙ ap (λ (k : ℕ). g k ∷ map (λ j. g (suc j)) (range_with_len (a + 1) n)) next

pub drop_parts : {X : Type 0} (xs done rest : List X) (i : ℕ) → drop i xs ≡ done ++ rest → drop (i + length done) xs ≡ rest
drop_parts xs done rest i is = sym (drop-drop (length done) i xs) ∙ front_rest (drop i xs) done rest is

pub take_next : {A : Type 0} (n : ℕ) (x : A) (xs : List A) → take (1 + n) (x ∷ xs) ≡ x ∷ take n xs
take_next n x xs = let e : 1 + n ≡ suc n = omega arith in rw e

pub drop_next : {A : Type 0} (n : ℕ) (x : A) (xs : List A) → drop (1 + n) (x ∷ xs) ≡ drop n xs
drop_next n x xs = let e : 1 + n ≡ suc n = omega arith in rw e

-- ---- sums

-- ---- what a walk passes on

-- one more element that passes on
pub one_kept : {X : Type 0} (live holds : X → Bool) (shares : X → X) (before after xs : List X) (i : ℕ) (d y : X)
    → i < length xs → true ≡ holds (get_or xs i d)
    → y ≡ shares (get_or xs i d) → after ≡ before ++ filter live (y ∷ [])
    → after ++ filter live (map shares (filter holds (drop (i + 1) xs)))
    ≡ before ++ filter live (map shares (filter holds (drop i xs)))
one_kept {X} live holds shares before after xs i d y below is same now =
    let later : List X = map shares (filter holds (drop (i + 1) xs)) in
    ap (λ (l : List X). l ++ filter live later) now
    ∙ append_assoc before (filter live (y ∷ [])) (filter live later)
    ∙ ap (λ (l : List X). before ++ l)
    (sym (filter-append live (y ∷ []) later) ∙ ap (λ (z : X). filter live (z ∷ later)) same)
    ∙ ap (λ (l : List X). before ++ filter live (map shares l)) (sym (kept_on holds xs i d below is))

-- ---- lists that are mapped up to an index
pub half : {X : Type 0} → (X → X) → ℕ → List X → List X
half f index xs = map f (take index xs) ++ drop index xs

pub half_none : {X : Type 0} (f : X → X) (xs : List X) → xs ≡ half f 0 xs
unfolding half
half_none f xs = refl

pub half_at : {X : Type 0} (f : X → X) (xs : List X) (index : ℕ) → slice_get (half f index xs) index ≡ slice_get xs index
unfolding half
half_at f [] zero = refl
half_at f [] (suc index) = refl
half_at f (x ∷ xs) zero = refl
half_at f (x ∷ xs) (suc index) = half_at f xs index

pub half_more : {X : Type 0} (f : X → X) (xs : List X) (index : ℕ) (x : X) → slice_get xs index ≡ Some x
    → set (half f index xs) index (f x) ≡ half f (suc index) xs
unfolding half
half_more f [] index x e = absurd (cc)
half_more f (y ∷ ys) zero x e = let same : y ≡ x = cc in ap (λ z. f z ∷ ys) (sym same)
half_more f (y ∷ ys) (suc index) x e = ap (λ zs. f y ∷ zs) (half_more f ys index x e)

pub half_all : {X : Type 0} (f : X → X) (xs : List X) (index : ℕ) → length xs ≤ index → half f index xs ≡ map f xs
unfolding half
half_all f [] zero h = refl
half_all f [] (suc index) h = refl
half_all f (x ∷ xs) zero h = absurd (omega arith)
half_all f (x ∷ xs) (suc index) h = ap (λ zs. f x ∷ zs) (half_all f xs index (omega arith))

pub drop_got : {X : Type 0} (xs : List X) (index : ℕ) (x : X) → slice_get xs index ≡ Some x
    → drop index xs ≡ x ∷ drop (suc index) xs
drop_got [] index x e = absurd (cc)
drop_got (y ∷ ys) zero x e = let same : y ≡ x = cc in ap (λ z. z ∷ ys) same
drop_got (y ∷ ys) (suc index) x e = drop_got ys index x e

pub drop_past : {X : Type 0} (xs : List X) (index : ℕ) → length xs ≤ index → drop index xs ≡ []
drop_past [] zero h = refl
drop_past [] (suc index) h = refl
drop_past (x ∷ xs) zero h = absurd (omega arith)
drop_past (x ∷ xs) (suc index) h = drop_past xs index (omega arith)

-- a number of a run is in it
pub Contains-range : (a n count : ℕ) → a ≤ count → count < a + n → Contains (range_with_len a n) count
Contains-range a zero count from below = absurd (omega arith)
Contains-range a (suc n) count from below = elim (cases_eq a count) [
  | inl here ↦ subst (λ (k : ℕ). Contains (range_with_len a (suc n)) k) here
      (Contains-first a (range_with_len (a + 1) n))
  | inr other ↦ Contains-later a (range_with_len (a + 1) n) count
      (Contains-range (a + 1) n count (omega arith) (omega arith))
]
