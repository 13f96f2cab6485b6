-- `cards_dealt`: the cards that are left in a hand when each card has been dealt are those that go there.
use Rattle.std.proofs.Common.{ℕ, zero, suc, ◌+◌, ◌-◌, ◌/◌, ◌%◌, if◌then◌else◌, get_or, max, ◌<◌, ◌≤◌, ◌≡◌, ◌==◌}
use Rattle.std.proofs.Common.{◌||◌, ◌&&◌, nat_lt, nat_eq, not, Bool, true}
use Rattle.std.proofs.Common.{false, [], length, refl, sym, ◌∙◌, ap, arith, inl, inr}
use Rattle.std.specs.List.{filter}
use Rattle.std.proofs.lemmas.Bool.{cases_eq, eq-eqb, ne_eqb}
use Rattle.std.proofs.lemmas.Bool.Decides.{nat_tests}
use Rattle.suit_cards.specs.Cards.{Cards}
use Rattle.suit_cards.specs.Holdings.{suit, others_of, without_rank}
use Rattle.suit_cards.specs.Masks.{lowest, suit_is}
use Rattle.suit_cards.proofs.SuitRuns.{filter_suit-agree}
use Rattle.suit_lists.proofs.Filters.{filter-filter}
use Rattle.suit_gen.specs.Deals.{place_of, dealt_to, deal_at}
use Rattle.suit_gen.specs.Draws.{next, state_after, drawn}

-- a card that is not dealt yet, or has been dealt to a place
abbrev pub is_left : ℕ → ℕ → ℕ → ℕ → Bool
is_left dealt place state rank = nat_lt rank (15 - dealt) || (place_of state rank == place)

-- the cards that are left for a place
abbrev pub cards_left : ℕ → ℕ → ℕ → Cards
cards_left dealt place state = filter (is_left dealt place state) suit

-- at first all cards are left
pub all_left : (place state : ℕ) → suit ≡ cards_left 0 place state
unfolding suit
all_left place state = refl

-- a rank goes by the test of whether it is below the next one to be dealt
below_next : (dealt rank : ℕ) → dealt < 13 → (rank ≡ 14 - dealt → ⊥)
    → nat_lt rank (15 - (dealt + 1)) ≡ nat_lt rank (15 - dealt)
below_next dealt rank early other = grind (arith, nat_tests)

not_below : (dealt : ℕ) → dealt < 13 → nat_lt (14 - dealt) (15 - (dealt + 1)) ≡ false
not_below dealt early = grind (arith, nat_tests)

is_below : (dealt : ℕ) → dealt < 13 → nat_lt (14 - dealt) (15 - dealt) ≡ true
is_below dealt early = grind (arith, nat_tests)

and_true : (b : Bool) → (b && true) ≡ b
and_true true = refl
and_true false = refl

-- a card that goes elsewhere is taken out
pub card_gone : (dealt place state : ℕ) → dealt < 13 → (place_of state (14 - dealt) ≡ place → ⊥)
    → without_rank (cards_left dealt place state) (14 - dealt) ≡ cards_left ((dealt + 1)) place state
card_gone dealt place state early elsewhere =
    filter-filter (is_left dealt place state) (λ held. not (nat_eq (14 - dealt) held)) suit
    ∙ filter_suit-agree _ _ (λ rank low high. elim (cases_eq rank (14 - dealt)) [
      | inl same ↦ rw same (rw (
        not_below dealt early,
        is_below dealt early,
        eq-eqb (14 - dealt) (14 - dealt) refl,
        ne_eqb (place_of state (14 - dealt)) place elsewhere,
      ) refl)
      | inr other ↦ rw (
        below_next dealt rank early other,
        ne_eqb (14 - dealt) rank (λ e. other (sym e)),
      ) (and_true _)
    ])

-- a card that goes here stays
pub card_kept : (dealt place state : ℕ) → dealt < 13 → place_of state (14 - dealt) ≡ place
    → cards_left dealt place state ≡ cards_left ((dealt + 1)) place state
card_kept dealt place state early here =
    filter_suit-agree _ _ (λ rank low high. elim (cases_eq rank (14 - dealt)) [
      | inl same ↦ rw same (rw (
        not_below dealt early,
        is_below dealt early,
        eq-eqb (place_of state (14 - dealt)) place here,
      ) refl)
      | inr other ↦ rw (below_next dealt rank early other) refl
    ])

-- at last only the cards that go here are left
pub cards_dealt : (place state : ℕ) → cards_left 13 place state ≡ dealt_to place state
unfolding dealt_to
cards_dealt place state = filter_suit-agree _ _ (λ rank low high.
    (let h : nat_lt rank 2 ≡ false = grind (arith, nat_tests) in rw h refl))

-- one card more is dealt
pub card_dealt : (dealt place state rank there : ℕ) (hand : Cards) → dealt < 13 → rank ≡ 14 - dealt
    → there ≡ place_of state rank → hand ≡ cards_left dealt place state
    → (if there == place then hand else without_rank hand rank) ≡ cards_left (dealt + 1) place state
card_dealt dealt place state rank there hand early is goes left = elim (cases_eq there place) [
  | inl here ↦ rw (eq-eqb there place here, left)
      (card_kept dealt place state early (ap (place_of state) (sym is) ∙ sym goes ∙ here))
  | inr other ↦ rw (ne_eqb there place other, left, is)
      (card_gone dealt place state early (λ e. other (goes ∙ ap (place_of state) is ∙ e)))
]

-- the place of a rank is that of its draw, and the draws go on
pub drawn_on : (dealt state now after place rank : ℕ) → dealt < 13 → rank ≡ 14 - dealt
    → now ≡ state_after (dealt - 1) state → after ≡ (if rank == 14 then now else next now)
    → place ≡ (if rank == 14 then 0 else after / 65536 % 4)
    → (after ≡ state_after (dealt + 1 - 1) state) × (place ≡ place_of state rank)
unfolding state_after
drawn_on zero state now after place rank early is was stands goes =
    let ace : rank ≡ 14 = omega arith in
    (rw ace at stands ∙ was, goes ∙ rw ace refl)
drawn_on (suc dealt) state now after place rank early is was stands goes =
    let other : (rank == 14) ≡ false = (grind (arith, nat_tests)) in
    let one : suc dealt - 1 ≡ dealt = omega arith in
    let more : suc dealt + 1 - 1 ≡ suc dealt = omega arith in
    let back : 14 - rank ≡ suc dealt = omega arith in
    let there : after ≡ state_after (suc dealt) state =
    rw other at stands ∙ ap next (was ∙ ap (λ (n : ℕ). state_after n state) one) in (
      rw more there,
      rw other at goes ∙ rw (other, back) (ap (λ (n : ℕ). n / 65536 % 4) there),
    )

-- the ranks of a suit, one after another
suit_within : (n k d : ℕ) → k < n → get_or (lowest n) k d ≡ n + 1 - k
unfolding lowest
suit_within zero k d within = absurd (omega arith)
suit_within (suc n) zero d within = omega arith
suit_within (suc n) (suc k) d within = suit_within n k d (omega arith) ∙ omega arith

pub suit_at : (k d : ℕ) → k < 13 → get_or suit k d ≡ 14 - k
suit_at k d within = rw suit_is (suit_within 13 k d within)

-- the cards in neither of two empty hands are the suit
pub suit_made : (here there all : Cards) → here ≡ [] → there ≡ [] → all ≡ others_of here there → all ≡ suit
unfolding suit
suit_made here there all none_here none_there others = others ∙ rw (none_here, none_there) refl

pub suit_length : length suit ≡ 13
unfolding suit
suit_length = refl

-- the ace goes to North
pub north_some : (state : ℕ) → 1 ≤ length (dealt_to 0 state)
unfolding dealt_to suit
north_some state = omega arith

-- twelve draws and one more
pub draws_made : (state now after : ℕ) → now ≡ state_after 12 state → after ≡ next now → after ≡ state_after 13 state
unfolding state_after
draws_made state now after twelve one = one ∙ ap next twelve

-- the hands, the longer length and the last draw make the deal
pub deal_made : (state : ℕ) (north south : Cards) (long last : ℕ) → north ≡ dealt_to 0 state
    → south ≡ dealt_to 1 state → long ≡ max (length north) (length south) → last ≡ drawn state 13 2
    → (record { north = north; south = south; goal = long - last }) ≡ deal_at state
deal_made state north south long last is_north is_south is_long is_last =
    rw (is_long, is_last, is_north, is_south) refl
