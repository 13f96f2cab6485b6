use Rattle.std.proofs.Common.{◌≡◌, ℕ, ◌+◌, ◌<◌, ◌≤◌, zero, suc, Bool, true, false, cond, ◌||◌, nat_eq, List, [], ◌∷◌}
use Rattle.std.proofs.Common.{refl, sym, ◌∙◌, ap, inl, inr, arith, length, not, ◌&&◌}
use Rattle.std.specs.List.{filter}
use Rattle.std.proofs.lemmas.Bool.{cases_eq, eq-eqb, ne_eqb, eqb-true, or_cases, cases_Bool, false≢true, true≢false}
use Rattle.std.specs.Prelude.{All, Contains}
use Rattle.std.proofs.lemmas.List.Elements.{All-weaker, All-contains_itself}
use Rattle.std.proofs.Math.Bool.{and-false}
use Rattle.suit_cards.proofs.WhetherARankIsHeld.{holds_tells}
use Rattle.suit_cards.specs.Ranks.{IsRank}
use Rattle.suit_cards.specs.Holdings.{FallsBelow, IsHolding, holds, suit, without_rank, others_of}
use Rattle.suit_cards.specs.Masks.{lowest, suit_is}
use Rattle.suit_cards.proofs.SuitRuns.{filter_lowest-agree, filter_suit-agree, IsHolding-filter_suit, holds-filter_suit}

-- no rank from the top on is held below it
pub holds-above : (top : ℕ) (ranks : List ℕ) (rank : ℕ) → FallsBelow top ranks → top ≤ rank → holds ranks rank ≡ false
holds-above top [] rank falls high = refl
holds-above top (first ∷ rest) rank falls high =
    rw (
      ne_eqb rank first (λ e. omega (arith, falls.1)),
      holds-above first rest rank falls.2
          (omega (arith, falls.1)),
    ) refl

-- no rank is among none
pub filter-nothing : (n : ℕ) → filter (holds []) (lowest n) ≡ []
unfolding lowest
filter-nothing zero = refl
filter-nothing (suc n) = filter-nothing n

-- what falls below a top is what it holds of the ranks below it
filter_lowest-holds : (n : ℕ) (ranks : List ℕ) → FallsBelow (n + 2) ranks → filter (holds ranks) (lowest n) ≡ ranks
unfolding lowest
filter_lowest-holds n [] falls = filter-nothing n
filter_lowest-holds zero (first ∷ rest) falls = absurd (omega (arith, falls.0, falls.1))
filter_lowest-holds (suc n) (first ∷ rest) falls =
    elim (cases_eq (n + 2) first) [
      | inl same ↦
          let below : FallsBelow (n + 2) rest = rw same falls.2 in
          let rest_same : filter (holds (first ∷ rest)) (lowest n) ≡ filter (holds rest) (lowest n) =
          filter_lowest-agree (holds (first ∷ rest)) (holds rest) n
          (λ rank low high. rw (ne_eqb rank first (λ e. omega arith)) refl) in
          rw (eq-eqb (n + 2) first same, rest_same, filter_lowest-holds n rest below) (ap (λ (x : ℕ). x ∷ rest) same)
      | inr differs ↦
          let lower : FallsBelow (n + 2) (first ∷ rest) = (falls.0, omega (arith, falls.1), falls.2) in
          rw (ne_eqb (n + 2) first differs, holds-above first rest (n + 2) falls.2 (omega (arith, falls.1)))
          (filter_lowest-holds n (first ∷ rest) lower)
    ]

-- a holding is what it holds of the suit
pub filter_suit-holds : (ranks : List ℕ) → IsHolding ranks → filter (holds ranks) suit ≡ ranks
filter_suit-holds ranks is = rw suit_is (filter_lowest-holds 13 ranks is)

-- two holdings that hold the same ranks are the same
pub same_holding : (here there : List ℕ) → IsHolding here → IsHolding there
    → ((rank : ℕ) → 2 ≤ rank → rank < 15 → holds here rank ≡ holds there rank) → here ≡ there
same_holding here there is_here is_there same =
    sym (filter_suit-holds here is_here) ∙ filter_suit-agree (holds here) (holds there) same
    ∙ filter_suit-holds there is_there

-- a rank held below a top is from 2 to below it
held_within : (top : ℕ) (ranks : List ℕ) (rank : ℕ) → FallsBelow top ranks → holds ranks rank ≡ true
    → (2 ≤ rank) × (rank < top)
held_within top [] rank falls held = absurd (false≢true held)
held_within top (first ∷ rest) rank falls held =
    elim (or_cases (nat_eq rank first) (holds rest rank) held) [
      | inl same ↦ let is : rank ≡ first = eqb-true rank first same in (omega (arith, falls.0), omega (arith, falls.1))
      | inr later ↦ let within =
          held_within first rest rank falls.2 later in (within.0, omega (arith, falls.1, within.1))
    ]

-- a rank of a holding is one of a card
pub IsRank-held : (ranks : List ℕ) (rank : ℕ) → IsHolding ranks → holds ranks rank ≡ true → IsRank rank
IsRank-held ranks rank is held = let within = held_within 15 ranks rank is held in (within.0, omega (arith, within.1))

-- what falls below a top falls below a higher one
pub FallsBelow-later : (low top : ℕ) (ranks : List ℕ) → low ≤ top → FallsBelow low ranks → FallsBelow top ranks
FallsBelow-later low top [] le falls = tt
FallsBelow-later low top (first ∷ rest) le falls = (falls.0, omega (arith, falls.1), falls.2)

-- what a test keeps falls below the same top
FallsBelow-filter : (test : ℕ → Bool) (top : ℕ) (ranks : List ℕ) → FallsBelow top ranks
    → FallsBelow top (filter test ranks)
FallsBelow-filter test top [] falls = tt
FallsBelow-filter test top (first ∷ rest) falls =
    elim (test first) as (λ b. FallsBelow top (cond b (first ∷ filter test rest) (filter test rest))) [
      | true ↦ (falls.0, falls.1, FallsBelow-filter test first rest falls.2)
      | false ↦ FallsBelow-later first top (filter test rest) (omega (arith, falls.1))
          (FallsBelow-filter test first rest falls.2)
    ]

-- what a test keeps of a holding is one
pub IsHolding-filter : (test : ℕ → Bool) (ranks : List ℕ) → IsHolding ranks → IsHolding (filter test ranks)
IsHolding-filter test ranks is = FallsBelow-filter test 15 ranks is

-- a holding without a rank is one
pub IsHolding-without_rank : (ranks : List ℕ) (rank : ℕ) → IsHolding ranks → IsHolding (without_rank ranks rank)
IsHolding-without_rank ranks rank is = IsHolding-filter (λ held. not (nat_eq rank held)) ranks is

-- the other cards of the suit are a holding
pub IsHolding-others_of : (here there : List ℕ) → IsHolding (others_of here there)
IsHolding-others_of here there = IsHolding-filter_suit (λ rank. not (holds here rank || holds there rank))

-- the others hold each rank that neither holds
pub holds-others_of : (here there : List ℕ) (rank : ℕ) → IsRank rank
    → holds (others_of here there) rank ≡ not (holds here rank || holds there rank)
holds-others_of here there rank is =
    holds-filter_suit (λ other. not (holds here other || holds there other)) rank is.0 (omega (arith, is.1))

-- a filter holds the first rank where the test passes it
kept-first : (test : ℕ → Bool) (first : ℕ) (rest : List ℕ)
    → holds (filter test rest) first ≡ (holds rest first && test first)
    → holds (cond (test first) (first ∷ filter test rest) (filter test rest)) first ≡ test first
kept-first test first rest later = elim (cases_Bool (test first)) [
  | inl passes ↦ rw (passes, eq-eqb first first refl) refl
  | inr fails ↦ rw fails (later ∙ rw fails (and-false (holds rest first)))
]

-- a filter holds another rank where it holds it of the rest
kept-other : (test : ℕ → Bool) (first : ℕ) (rest : List ℕ) (rank : ℕ) → (rank ≡ first → ⊥)
    → holds (filter test rest) rank ≡ (holds rest rank && test rank)
    → holds (cond (test first) (first ∷ filter test rest) (filter test rest)) rank ≡ (holds rest rank && test rank)
kept-other test first rest rank differs later = elim (cases_Bool (test first)) [
  | inl passes ↦ rw (passes, ne_eqb rank first differs) later
  | inr fails ↦ rw fails later
]

-- what a test keeps of a list holds what the list holds and the test passes
pub holds-filter : (test : ℕ → Bool) (ranks : List ℕ) (rank : ℕ)
    → holds (filter test ranks) rank ≡ (holds ranks rank && test rank)
holds-filter test [] rank = refl
holds-filter test (first ∷ rest) rank = elim (cases_eq rank first) [
  | inl same ↦ rw (eq-eqb rank first same, same) (kept-first test first rest (holds-filter test rest first))
  | inr differs ↦ rw (ne_eqb rank first differs) (kept-other test first rest rank differs (holds-filter test rest rank))
]

-- a holding without a rank holds each other rank that it held
pub holds-without_rank : (ranks : List ℕ) (rank other : ℕ)
    → holds (without_rank ranks rank) other ≡ (holds ranks other && not (nat_eq rank other))
holds-without_rank ranks rank other = holds-filter (λ held. not (nat_eq rank held)) ranks other

-- without a rank that it did not hold, a list is what it was
without_rank-absent : (ranks : List ℕ) (rank : ℕ) → holds ranks rank ≡ false → without_rank ranks rank ≡ ranks
without_rank-absent [] rank absent = refl
without_rank-absent (first ∷ rest) rank absent = elim (cases_Bool (nat_eq rank first)) [
  | inl same ↦ absurd (true≢false (rw same at absent))
  | inr differs ↦ rw differs (ap (λ (xs : List ℕ). first ∷ xs) (without_rank-absent rest rank (rw differs at absent)))
]

-- without a rank that it held, what falls below a top has one rank less
length-without_top : (top : ℕ) (ranks : List ℕ) (rank : ℕ) → FallsBelow top ranks → holds ranks rank ≡ true
    → length (without_rank ranks rank) + 1 ≡ length ranks
length-without_top top [] rank falls held = absurd (false≢true held)
length-without_top top (first ∷ rest) rank falls held = elim (cases_Bool (nat_eq rank first)) [
  | inl same ↦
      let is : rank ≡ first = eqb-true rank first same in
      rw (same, without_rank-absent rest rank (holds-above first rest rank falls.2 (omega arith))) (omega arith)
  | inr differs ↦ rw differs (omega (arith, length-without_top first rest rank falls.2 (rw differs at held)))
]

-- a holding without a rank that it held has one card less
pub length-without_rank : (ranks : List ℕ) (rank : ℕ) → IsHolding ranks → holds ranks rank ≡ true
    → length (without_rank ranks rank) + 1 ≡ length ranks
length-without_rank ranks rank is held = length-without_top 15 ranks rank is held

-- each rank of a holding is one of a card
pub All-IsRank : (ranks : List ℕ) → IsHolding ranks → All IsRank ranks
All-IsRank ranks is =
    All-weaker (Contains ranks) IsRank (λ rank held. IsRank-held ranks rank is ((holds_tells ranks rank).1 held)) ranks
    (All-contains_itself ranks)
