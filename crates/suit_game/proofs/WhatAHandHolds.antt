-- The cards that a list of ranks holds, that a filter keeps of it, and that are left of a hand as cards go.
use Rattle.std.proofs.Common.{◌≡◌, ℕ, suc, ◌+◌, ◌<◌, ◌≤◌, Bool, true, false, cond, not, nat_eq, List, [], ◌∷◌, length}
use Rattle.std.proofs.Common.{refl, sym, ap, ◌∙◌, subst, inl, inr, arith}
use Rattle.std.proofs.lemmas.Bool.{true≢false, false≢true, cases_lt, cases_eq, or_cases, or_parts, or_left, or_right}
use Rattle.std.proofs.lemmas.Bool.{and_parts, and_from, not-true, not_from_false, eq-eqb, ne_eqb, eqb-true, eqb-false}
use Rattle.std.proofs.lemmas.Bool.{false_from_ne_true}
use Rattle.std.specs.Prelude.{◌&&◌, ◌||◌, ◌==◌, Contains}
use Rattle.std.specs.List.{AllByRecursion, filter}
use Rattle.std.proofs.lemmas.List.Filters.{length-filter_both}
use Rattle.std.proofs.Math.Bool.{not-not}
use Rattle.suit_cards.specs.Holdings.{FallsBelow, holds}
use Rattle.suit_cards.proofs.WhetherARankIsHeld.{holds_tells}
use Rattle.suit_cards.proofs.HoldingIsWhatItHolds.{holds-above, holds-filter}
use Rattle.suit_cards.specs.Cards.{Cards}
use Rattle.suit_game.specs.Positions.{without}
use Rattle.suit_lists.proofs.Elements.{Contains-cons_cases, Contains-nil, each_in}

-- a card that stands first is held
pub holds-first : (card : ℕ) (cards : List ℕ) → holds (card ∷ cards) card ≡ true
holds-first card cards = or_left (nat_eq card card) (holds cards card) (eq-eqb card card refl)

-- what holds of each card held holds of each card of the list
pub each_held : (P : ℕ → Type 0) (cards : List ℕ) → ((card : ℕ) → holds cards card ≡ true → P card)
    → AllByRecursion P cards
each_held P cards each = each_in P cards (λ card found. each card ((holds_tells cards card).1 found))

-- what a filter keeps is held, and passes
pub holds-from_filter : (test : ℕ → Bool) (cards : List ℕ) (card : ℕ) → holds (filter test cards) card ≡ true
    → (holds cards card ≡ true) × (test card ≡ true)
holds-from_filter test cards card held =
    and_parts (holds cards card) (test card) (sym (holds-filter test cards card) ∙ held)

-- no card is gone at first
pub without-none : (cards : List ℕ) → without cards [] ≡ cards
unfolding without
without-none [] = refl
without-none (card ∷ cards) = ap (λ (left : List ℕ). card ∷ left) (without-none cards)

-- a card left in a hand was in it, and is not gone
pub holds-from_without : (hand gone : List ℕ) (card : ℕ) → holds (without hand gone) card ≡ true
    → (holds hand card ≡ true) × (holds gone card ≡ false)
unfolding without
holds-from_without hand gone card held =
    let parts = holds-from_filter (λ (x : ℕ). not (holds gone x)) hand card held in
    (parts.0, not-true (holds gone card) parts.1)

-- a card of a hand that is not gone is left in it
pub holds-without : (hand gone : List ℕ) (card : ℕ) → holds hand card ≡ true → holds gone card ≡ false
    → holds (without hand gone) card ≡ true
unfolding without
holds-without hand gone card held stays =
    holds-filter (λ (x : ℕ). not (holds gone x)) hand card
    ∙ and_from (holds hand card) (not (holds gone card)) held (not_from_false (holds gone card) stays)

-- what is left of a hand is what it held that is not gone
pub holds-left : (hand gone : Cards) (card : ℕ)
    → holds (without hand gone) card ≡ (holds hand card && not (holds gone card))
unfolding without
holds-left hand gone card = holds-filter (λ (x : ℕ). not (holds gone x)) hand card

-- the cards left of a hand and those gone are the hand
pub length-left_and_gone : (hand gone : Cards)
    → length (without hand gone) + length (filter (holds gone) hand) ≡ length hand
unfolding without
length-left_and_gone hand gone =
    length-filter_both (λ card. not (holds gone card)) (holds gone) (λ card. sym (not-not (holds gone card))) hand

-- where nothing is held a list is empty
pub empty_where_none : (cards : List ℕ) → ((card : ℕ) → holds cards card ≡ true → ⊥) → cards ≡ []
empty_where_none [] none = refl
empty_where_none (first ∷ cards) none = absurd (none first (holds-first first cards))

-- a hand with nothing left has nothing left later
pub without-more : (hand gone : List ℕ) (card : ℕ) → without hand gone ≡ [] → without hand (card ∷ gone) ≡ []
without-more hand gone card none =
    empty_where_none (without hand (card ∷ gone))
    (λ other held.
    let parts = holds-from_without hand (card ∷ gone) other held in
    let left : holds (without hand gone) other ≡ true =
    holds-without hand gone other parts.0
    (false_from_ne_true (holds gone other)
    (λ there. true≢false (sym (or_right (nat_eq other card) (holds gone other) there) ∙ parts.1))) in
    false≢true (subst (λ (cards : List ℕ). holds cards other ≡ true) none left))

-- of a hand of one card, that card alone is held
pub one_card : (hand : List ℕ) (card other : ℕ) → length hand ≤ 1 → holds hand card ≡ true → holds hand other ≡ true
    → card ≡ other
one_card [] card other short held too = absurd (false≢true held)
one_card (first ∷ []) card other short held too =
    elim (or_cases (nat_eq card first) false held) [
      | inl same ↦
          elim (or_cases (nat_eq other first) false too) [
            | inl again ↦ eqb-true card first same ∙ sym (eqb-true other first again)
            | inr wrong ↦ absurd (false≢true wrong)
          ]
      | inr wrong ↦ absurd (false≢true wrong)
    ]
one_card (first ∷ second ∷ cards) card other short held too = absurd (omega arith)

-- a hand of one card has nothing left after it
pub without-played : (hand gone : List ℕ) (card : ℕ) → length hand ≤ 1 → holds hand card ≡ true
    → without hand (card ∷ gone) ≡ []
without-played hand gone card short held =
    empty_where_none (without hand (card ∷ gone))
    (λ other left.
    let parts = holds-from_without hand (card ∷ gone) other left in
    let same : other ≡ card = one_card hand other card short parts.0 held in
    true≢false (sym (or_left (nat_eq other card) (holds gone other) (eq-eqb other card same)) ∙ parts.1))

fewer_kept : (first held : Bool) (x : ℕ) (xs ys : List ℕ) → length xs ≤ length ys
    → length (cond (not (first || held)) (x ∷ xs) xs) ≤ length (cond (not held) (x ∷ ys) ys)
fewer_kept true true x xs ys fewer = fewer
fewer_kept true false x xs ys fewer = omega arith
fewer_kept false true x xs ys fewer = fewer
fewer_kept false false x xs ys fewer = omega arith

-- a hand has no more cards once one more is gone
pub length-without_more : (cards gone : List ℕ) (card : ℕ)
    → length (without cards (card ∷ gone)) ≤ length (without cards gone)
unfolding without
length-without_more [] gone card = omega arith
length-without_more (x ∷ cards) gone card =
    fewer_kept (x == card) (holds gone x) x (without cards (card ∷ gone)) (without cards gone)
    (length-without_more cards gone card)

less_kept : (first held : Bool) (x card : ℕ) (xs ys : List ℕ) → (card ≡ x → first ≡ true) → length xs ≤ length ys
    → (Contains ys card → length xs < length ys)
    → Contains (cond (not held) (x ∷ ys) ys) card
    → length (cond (not (first || held)) (x ∷ xs) xs) < length (cond (not held) (x ∷ ys) ys)
less_kept true true x card xs ys same fewer less found = less found
less_kept true false x card xs ys same fewer less found = omega arith
less_kept false true x card xs ys same fewer less found = less found
less_kept false false x card xs ys same fewer less found = elim (Contains-cons_cases x ys card found) [
  | inl here ↦ absurd (let other = same (sym here) in cc)
  | inr there ↦ let fewer_later = less there in omega arith
]

-- a hand has fewer cards once one that it had is gone
pub length-without_less : (cards gone : List ℕ) (card : ℕ) → Contains (without cards gone) card
    → length (without cards (card ∷ gone)) < length (without cards gone)
unfolding without
length-without_less [] gone card found = absurd (Contains-nil card found)
length-without_less (x ∷ cards) gone card found =
    less_kept (x == card) (holds gone x) x card (without cards (card ∷ gone)) (without cards gone)
    (λ same. eq-eqb x card (sym same))
    (length-without_more cards gone card) (length-without_less cards gone card) found

-- a hand stays as it is where a card goes that it never had
pub without_away : (cards gone : List ℕ) (card : ℕ) → holds cards card ≡ false
    → without cards (card ∷ gone) ≡ without cards gone
unfolding without
without_away [] gone card away = refl
without_away (x ∷ cards) gone card away =
    let parts = or_parts (card == x) (holds cards card) away in
    rw (ne_eqb x card (λ e. eqb-false card x parts.0 (sym e)), without_away cards gone card parts.1) refl

one_kept : (held : Bool) (x : ℕ) (xs ys : List ℕ) → suc (length xs) ≡ length ys
    → suc (length (cond (not held) (x ∷ xs) xs)) ≡ length (cond (not held) (x ∷ ys) ys)
one_kept true x xs ys one = one
one_kept false x xs ys one = ap suc one

-- a hand has one card fewer where a card goes that it had
pub length-without_one : (top : ℕ) (cards gone : List ℕ) (card : ℕ) → FallsBelow top cards
    → holds (without cards gone) card ≡ true
    → suc (length (without cards (card ∷ gone))) ≡ length (without cards gone)
unfolding without
length-without_one top [] gone card falls held = absurd (cc)
length-without_one top (x ∷ cards) gone card falls held =
    let parts = holds-from_without (x ∷ cards) gone card held in
    elim (cases_eq x card) [
      | inl same ↦
          let stays : holds gone x ≡ false = ap (holds gone) same ∙ parts.1 in
          rw (
            eq-eqb x card same,
            stays,
            without_away cards gone card
                (holds-above x cards card falls.2 (omega arith)),
          ) refl
      | inr differs ↦
          let later : holds cards card ≡ true = elim (or_cases (card == x) (holds cards card) parts.0) [
            | inl here ↦ absurd (differs (sym (eqb-true card x here)))
            | inr there ↦ there
          ] in
          rw (ne_eqb x card differs)
          (one_kept (holds gone x) x (without cards (card ∷ gone)) (without cards gone)
          (length-without_one x cards gone card falls.2 (holds-without cards gone card later parts.1)))
    ]

-- a card of a falling list is below the top
pub holds-below : (top : ℕ) (cards : List ℕ) (card : ℕ) → FallsBelow top cards → holds cards card ≡ true → card < top
holds-below top cards card falls held =
    elim (cases_lt card top) [
      | inl below ↦ below
      | inr above ↦ absurd (true≢false (sym held ∙ holds-above top cards card falls above))
    ]

-- the card that stands first
abbrev pub IsFirst : List ℕ → ℕ → Type 0
IsFirst [] card = ⊥
IsFirst (first ∷ cards) card = first ≡ card

-- the highest card that a falling list may have stands first
pub highest_first : (highest : ℕ) (cards : List ℕ) (card : ℕ)
    → FallsBelow (suc highest) cards → holds cards highest ≡ true → IsFirst cards card → card ≡ highest
highest_first highest [] card falls held first = absurd (false≢true held)
highest_first highest (top ∷ cards) card falls held first =
    elim (or_cases (nat_eq highest top) (holds cards highest) held) [
      | inl same ↦ sym first ∙ sym (eqb-true highest top same)
      | inr later ↦ absurd (omega (arith, holds-below top cards highest falls.2 later, falls.1))
    ]
