use Rattle.std.proofs.Common.{◌≡◌, ℕ, ◌+◌, ◌<◌, ◌≤◌, zero, suc, Bool, true, false, not, ◌||◌, nat_eq, List, [], ◌∷◌}
use Rattle.std.proofs.Common.{length, get_or, refl, inl, inr, arith}
use Rattle.std.specs.Prelude.{◌↔◌, IsTrue, Contains, Any}
use Rattle.std.specs.List.{filter, list_any}
use Rattle.std.proofs.lemmas.Bool.{eqb-true, eq-eqb, ne_eqb, or_cases, cases_Bool, false≢true, true≢false}
use Rattle.std.proofs.lemmas.Cmp.{nat_eq_equiv}
use Rattle.std.proofs.lemmas.Map.Views.{Contains-from_any, list_any-from_Contains}
use Rattle.suit_cards.specs.Holdings.{FallsBelow, IsHolding, holds}

-- whether a rank is held, as a fact
pub holds_tells : (ranks : List ℕ) (rank : ℕ) → IsTrue (holds ranks rank) ↔ Contains ranks rank
holds_tells ranks rank = (
  Contains-from_any {eq = nat_eq} (λ x y. eqb-true x y) rank ranks,
  list_any-from_Contains {eq = nat_eq} nat_eq_equiv rank ranks,
)

-- a list that falls below a top has less than that many ranks
length-FallsBelow : (top : ℕ) (ranks : List ℕ) → 2 ≤ top → FallsBelow top ranks → length ranks + 2 ≤ top
length-FallsBelow top [] low h = omega arith
length-FallsBelow top (rank ∷ rest) low h = omega (arith, length-FallsBelow rank rest h.0 h.2)

-- a holding has at most thirteen cards
pub length-IsHolding : (ranks : List ℕ) → IsHolding ranks → length ranks ≤ 13
length-IsHolding ranks h = omega (arith, length-FallsBelow 15 ranks (omega arith) h)

-- an element passes the test, from the test of them all
any_from_test : (P : ℕ → Type 0) (test : ℕ → Bool) → ((x : ℕ) → test x ≡ true → P x) → (xs : List ℕ)
    → list_any test xs ≡ true → Any P xs
any_from_test P test tells [] h = absurd (false≢true h)
any_from_test P test tells (x ∷ xs) h =
    elim (or_cases (test x) (list_any test xs) h) [
      | inl here ↦ (0, x, omega arith, refl, tells x here)
      | inr later ↦
          let found = any_from_test P test tells xs later in
          (suc found.0, found.1, omega (arith, found.2), found.3, found.4)
    ]

-- the test of them all, from an element that passes it
test_from_any : (P : ℕ → Type 0) (test : ℕ → Bool) → ((x : ℕ) → P x → test x ≡ true) → (xs : List ℕ)
    → (k x : ℕ) → k < length xs → get_or xs k x ≡ x → P x → list_any test xs ≡ true
test_from_any P test tells [] k x within at holds_here = absurd (omega arith)
test_from_any P test tells (y ∷ ys) zero x within at holds_here =
    rw (at, tells x holds_here) refl
test_from_any P test tells (y ∷ ys) (suc k) x within at holds_here =
    rw (test_from_any P test tells ys k x (omega arith) at holds_here)
    (elim (test y) as (λ b. (b || true) ≡ true) [ true ↦ refl | false ↦ refl ])

-- whether a rank is in both, as a fact
pub shares_tells : (here there : List ℕ) → IsTrue (list_any (holds there) here) ↔ Any (Contains there) here
shares_tells here there = (
  any_from_test (Contains there) (holds there) (λ rank. (holds_tells there rank).0) here,
  λ found. test_from_any (Contains there) (holds there) (λ rank. (holds_tells there rank).1) here
      found.0 found.1 found.2 found.3 found.4,
)

-- what no element passes, a filter leaves empty
filter-none : (test : ℕ → Bool) (xs : List ℕ) → list_any test xs ≡ false → filter test xs ≡ []
filter-none test [] h = refl
filter-none test (x ∷ xs) h = elim (cases_Bool (test x)) [
  | inl passes ↦ absurd (true≢false (rw passes at h))
  | inr fails ↦ rw fails (filter-none test xs (rw fails at h))
]

-- where an element passes, a filter leaves one
filter-some : (test : ℕ → Bool) (xs : List ℕ) → list_any test xs ≡ true → filter test xs ≡ [] → ⊥
filter-some test [] h empty = false≢true h
filter-some test (x ∷ xs) h empty = elim (cases_Bool (test x)) [
  | inl passes ↦ let wrong : x ∷ filter test xs ≡ [] = rw passes at empty in cc
  | inr fails ↦ filter-some test xs (rw fails at h) (rw fails at empty)
]

-- an element passes a test where the filter leaves something
pub list_any-filter : (test : ℕ → Bool) (xs : List ℕ) (n : ℕ) → (filter test xs ≡ [] → n ≡ 0)
    → (n ≡ 0 → filter test xs ≡ [])
    → not (nat_eq n 0) ≡ list_any test xs
list_any-filter test xs n zero_if_none none_if_zero = elim (cases_Bool (list_any test xs)) [
  | inl some ↦ rw (some, ne_eqb n 0 (λ e. filter-some test xs some (none_if_zero e))) refl
  | inr none ↦ rw (none, eq-eqb n 0 (zero_if_none (filter-none test xs none))) refl
]
