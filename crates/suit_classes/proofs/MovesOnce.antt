-- The classes of a falling hand, each once, are those of which it has a card.
use Rattle.std.proofs.Common.{◌≡◌, ℕ, zero, suc, ◌+◌, ◌<◌, ◌≤◌, Bool, true, false, cond, not, List, [], ◌∷◌, ◌++◌}
use Rattle.std.proofs.Common.{length, refl, sym, ap, ◌∙◌, subst, inl, inr, arith}
use Rattle.std.specs.Prelude.{map, filter, nat_lt, ◌==◌}
use Rattle.std.specs.List.{range_with_len}
use Rattle.std.proofs.lemmas.Bool.{cases_eq, eq-eqb, ne_eqb, lt-ltb}
use Rattle.std.proofs.lemmas.List.Elements.{filter-append, filter_agree}
use Rattle.suit_lists.proofs.Filters.{filter_of_map}
use Rattle.suit_cards.specs.Cards.{Cards, Indices}
use Rattle.suit_cards.specs.declared.seats.Seat.TheVariants.{N, S}
use Rattle.suit_cards.specs.Holdings.{IsHolding}
use Rattle.suit_classes.specs.declared.class_moves.ClassMove.{ClassMove}
use Rattle.suit_classes.specs.declared.class_moves.ClassMove.TheVariants.{Lead}
use Rattle.suit_classes.specs.Classes.{Hands, class_of, class_count}
use Rattle.suit_classes.specs.ClassMoves.{same_class_move}
use Rattle.suit_classes.specs.ClassGame.{cards_in, each_once}
use Rattle.suit_classes.specs.ClassPlaces.{class_numbers}
use Rattle.suit_classes.proofs.ClassNumbers.{class_count-most}
use Rattle.suit_classes.proofs.RankBlocks.{Rises, Rises-lower, StaysBelow, with_number, with_number-none, holding_rises}
use Rattle.suit_classes.proofs.RankBlocks.{falling_stays}
use Rattle.suit_classes.specs.declared.classes.TheConstants.{MOST_CLASSES}

-- whether some of a list have a number
abbrev has_number : (ℕ → ℕ) → List ℕ → ℕ → Bool
has_number f xs number = nat_lt 0 (length (with_number f xs number))

dropped_either : (number : ℕ) (xs : List ℕ) (b : Bool)
    → filter (λ n. not (number == n)) (cond b (number ∷ xs) xs) ≡ filter (λ n. not (number == n)) xs
dropped_either number xs true = rw (eq-eqb number number refl) refl
dropped_either number xs false = refl

kept_either : (number other : ℕ) (xs : List ℕ) (b : Bool) → (number ≡ other → ⊥)
    → filter (λ n. not (number == n)) (cond b (other ∷ xs) xs) ≡ cond b (other ∷ filter (λ n. not (number == n)) xs)
    (filter (λ n. not (number == n)) xs)
kept_either number other xs true differs = rw (ne_eqb number other differs) refl
kept_either number other xs false differs = refl

numbers_after : (f : ℕ → ℕ) (x : ℕ) (xs : List ℕ) (from count : ℕ) → f x < from
    → filter (has_number f (x ∷ xs)) (range_with_len from count) ≡ filter (λ n. not (f x == n))
    (filter (has_number f xs) (range_with_len from count))
numbers_after f x xs from zero past = refl
numbers_after f x xs from (suc count) past =
    let differs : f x ≡ from → ⊥ = λ same. omega (arith, same) in
    rw (ne_eqb (f x) from differs)
    (ap (λ (l : List ℕ). cond (has_number f xs from) (from ∷ l) l) (numbers_after f x xs (from + 1) count (omega arith))
    ∙ sym
    (kept_either (f x) from (filter (has_number f xs) (range_with_len (from + 1) count)) (has_number f xs from)
    differs))

has_here : (f : ℕ → ℕ) (x : ℕ) (xs : List ℕ) (number : ℕ) → f x ≡ number → has_number f (x ∷ xs) number ≡ true
has_here f x xs number here =
    rw (eq-eqb (f x) number here) (lt-ltb 0 (suc (length (with_number f xs number))) (omega arith))

numbers_more : (f : ℕ → ℕ) (x : ℕ) (xs : List ℕ) (from count : ℕ) → from ≤ f x → f x < from + count → Rises f (f x) xs
    → filter (has_number f (x ∷ xs)) (range_with_len from count) ≡ f x ∷ filter (λ n. not (f x == n))
    (filter (has_number f xs) (range_with_len from count))
numbers_more f x xs from zero least most rises = absurd (omega arith)
numbers_more f x xs from (suc count) least most rises = elim (cases_eq (f x) from) [
  | inl here ↦
      ap
      (λ (b : Bool). cond b (from ∷ filter (has_number f (x ∷ xs)) (range_with_len (from + 1) count))
      (filter (has_number f (x ∷ xs)) (range_with_len (from + 1) count)))
      (has_here f x xs from here)
      ∙ (ap (λ (l : List ℕ). from ∷ l) (numbers_after f x xs (from + 1) count (omega arith))
      ∙ ap (λ (n : ℕ). n ∷ filter (λ k. not (f x == k)) (filter (has_number f xs) (range_with_len (from + 1) count)))
      (sym here)
      ∙ ap (λ (l : List ℕ). f x ∷ l)
      (sym (subst (λ (n : ℕ). filter (λ k. not (f x == k))
      (cond (has_number f xs from) (n ∷ filter (has_number f xs) (range_with_len (from + 1) count))
      (filter (has_number f xs) (range_with_len (from + 1) count)))
      ≡ filter (λ k. not (f x == k)) (filter (has_number f xs) (range_with_len (from + 1) count))) here
      (dropped_either (f x) (filter (has_number f xs) (range_with_len (from + 1) count)) (has_number f xs from)))))
  | inr later ↦
      let before : from < f x = omega arith in
      rw (ne_eqb (f x) from later, with_number-none f (f x) from xs before rises)
      (numbers_more f x xs (from + 1) count (omega arith) (omega arith) rises)
]

no_numbers : (f : ℕ → ℕ) (from count : ℕ) → filter (has_number f []) (range_with_len from count) ≡ []
no_numbers f from zero = refl
no_numbers f from (suc count) = no_numbers f (from + 1) count

once_from : (f : ℕ → ℕ) (move : ℕ → ClassMove) (xs : List ℕ) (from count : ℕ)
    → ((a b : ℕ) → same_class_move (move a) (move b) ≡ (a == b))
    → Rises f from xs → StaysBelow f (from + count) xs
    → each_once (map (λ x. move (f x)) xs) ≡ map move (filter (has_number f xs) (range_with_len from count))
unfolding each_once
once_from f move [] from count told rises stays = ap (map move) (sym (no_numbers f from count))
once_from f move (x ∷ xs) from count told rises stays =
    ap (λ (l : List ClassMove). move (f x) ∷ filter (λ other. not (same_class_move (move (f x)) other)) l)
    (once_from f move xs from count told (Rises-lower f from (f x) xs rises.0 rises.1) stays.1)
    ∙ ap (λ (l : List ClassMove). move (f x) ∷ l)
    (filter_of_map (λ other. not (same_class_move (move (f x)) other)) move
    (filter (has_number f xs) (range_with_len from count))
    ∙ ap (map move)
    (filter_agree (λ n. not (same_class_move (move (f x)) (move n))) (λ n. not (f x == n)) (λ n. ap not (told (f x) n))
    (filter (has_number f xs) (range_with_len from count))))
    ∙ ap (map move) (sym (numbers_more f x xs from count rises.0 stays.0 rises.1))

stays_longer : (f : ℕ → ℕ) (low high : ℕ) (xs : List ℕ) → low ≤ high → StaysBelow f low xs → StaysBelow f high xs
stays_longer f low high [] up stays = tt
stays_longer f low high (x ∷ xs) up stays = (omega (arith, stays.0), stays_longer f low high xs up stays.1)

-- the moves with the cards of a hand, merged, are one with each class of which the hand has a card
pub merged_once : (hands : Hands) (cards : Cards) (move : ℕ → ClassMove) → IsHolding cards
    → ((a b : ℕ) → same_class_move (move a) (move b) ≡ (a == b))
    → each_once (map (λ card. move (class_of hands card)) cards) ≡ map move
    (filter (λ class. nat_lt 0 (cards_in hands cards class)) class_numbers)
unfolding class_numbers
merged_once hands cards move is told =
    once_from (class_of hands) move cards 0 MOST_CLASSES told (holding_rises hands cards is)
    (stays_longer (class_of hands) (class_count hands) (0 + MOST_CLASSES) cards (omega (arith, class_count-most hands))
    (falling_stays hands 15 cards is))

-- the leads of South stand after those of North, and none of them is one of North's
pub leads_once : (classes : Indices) (later : List ClassMove) (others : List ℕ) → each_once later ≡ map (Lead S) others
    → each_once (map (Lead N) classes ++ later) ≡ each_once (map (Lead N) classes) ++ map (Lead S) others
unfolding each_once
leads_once [] later others is = is
leads_once (class ∷ classes) later others is =
    let tested : ClassMove → Bool = λ other. not (same_class_move (Lead N class) other) in
    ap (λ (l : List ClassMove). Lead N class ∷ filter tested l) (leads_once classes later others is)
    ∙ ap (λ (l : List ClassMove). Lead N class ∷ l)
    (filter-append tested (each_once (map (Lead N) classes)) (map (Lead S) others)
    ∙ ap (λ (l : List ClassMove). filter tested (each_once (map (Lead N) classes)) ++ l) (all_apart class others))
  where
    all_apart : (number : ℕ) (rest : List ℕ)
        → filter (λ other. not (same_class_move (Lead N number) other)) (map (Lead S) rest) ≡ map (Lead S) rest
    all_apart number [] = refl
    all_apart number (x ∷ rest) = ap (λ (l : List ClassMove). Lead S x ∷ l) (all_apart number rest)
