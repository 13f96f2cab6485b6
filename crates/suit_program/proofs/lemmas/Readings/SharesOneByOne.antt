-- Shares of a mass as a loop makes them: one move more (`counted_more`, `one_filled`, `one_less`), and a part of a
-- denominator as a product (`scaled_is`).
use Rattle.std.proofs.Common.{◌≡◌, ℕ, ◌+◌, ◌<◌, ◌≤◌, List, [], ◌∷◌, ◌++◌, length, get_or, drop, sym, ap, ◌∙◌}
use Rattle.std.proofs.Common.{arith, append_assoc, append-nil, zero, suc, SFits}
use Rattle.std.specs.Prelude.{All, ℤ, pos, negsuc, ◌+ℤ◌, ◌-ℤ◌, ◌*ℤ◌, ◌≤ℤ◌, ◌<ℤ◌, ◌^◌, int_div, unsigned_abs}
use Rattle.std.specs.Int.{int_min, ◌∣◌, w128}
use Rattle.std.proofs.lemmas.Int.{clamps, ints}
use Rattle.std.proofs.lemmas.List.{at_drop_more, drop_all}
use Rattle.std.proofs.lemmas.List.Elements.{recursion_from_All}
use Rattle.suit_num.proofs.IntegerLaws.{mul-div, mul-one, mul_left_comm}
use Rattle.suit_classes.specs.declared.class_moves.ClassMove.{ClassMove}
use Rattle.suit_plans.specs.Masses.{Shares}
use Rattle.suit_plans.specs.Properness.{sum_of}
use Rattle.suit_program.specs.Readings.{filled, scaled, sum_counts}
use Rattle.suit_program.specs.Readings.Sharing.{counted}
use Rattle.suit_program.proofs.lemmas.Readings.MassSharedOut.{AreLow, counts_low}

-- a move more with its number
pub counted_more : (moves : List ClassMove) (numbers : List ℤ) (i : ℕ) (d : ClassMove) (e : ℤ) → i < length moves
    → i < length numbers
    → counted (drop i moves) (drop i numbers)
    ≡ (get_or moves i d, get_or numbers i e) ∷ counted (drop (i + 1) moves) (drop (i + 1) numbers)
unfolding counted
counted_more moves numbers i d e below within =
    at_drop_more (λ l. counted l (drop i numbers)) moves i d below
    ∙ at_drop_more (λ l. counted (get_or moves i d ∷ drop (i + 1) moves) l) numbers i e within

-- the moves so far with one more
pub one_counted : (done now all : Shares) (moves : List ClassMove) (numbers : List ℤ) (i : ℕ) (d : ClassMove) (e : ℤ)
    (count : ℤ) → i < length moves → i < length numbers
    → done ++ counted (drop i moves) (drop i numbers) ≡ all → now ≡ done ++ (get_or moves i d, count) ∷ []
    → count ≡ get_or numbers i e → now ++ counted (drop (i + 1) moves) (drop (i + 1) numbers) ≡ all
one_counted done now all moves numbers i d e count below within so_far is same =
    ap (λ l. l ++ counted (drop (i + 1) moves) (drop (i + 1) numbers)) is
    ∙ append_assoc done ((get_or moves i d, count) ∷ []) (counted (drop (i + 1) moves) (drop (i + 1) numbers))
    ∙ ap (λ z. done ++ (get_or moves i d, z) ∷ counted (drop (i + 1) moves) (drop (i + 1) numbers)) same
    ∙ ap (λ l. done ++ l) (sym (counted_more moves numbers i d e below within))
    ∙ so_far

pub counted_end : (moves : List ClassMove) (numbers : List ℤ) (i : ℕ) → length moves ≤ i
    → counted (drop i moves) (drop i numbers) ≡ []
unfolding counted
counted_end moves numbers i past = ap (λ l. counted l (drop i numbers)) (drop_all i moves past)

pub all_counted : (done all : Shares) (moves : List ClassMove) (numbers : List ℤ) (i : ℕ) → length moves ≤ i
    → done ++ counted (drop i moves) (drop i numbers) ≡ all → done ≡ all
all_counted done all moves numbers i past so_far =
    sym (append-nil done) ∙ ap (λ l. done ++ l) (sym (counted_end moves numbers i past)) ∙ so_far

-- what is filled of a mass with a move more
pub one_filled : (done now all : Shares) (moves : List ClassMove) (prices : List ℤ) (i : ℕ) (d : ClassMove) (e : ℤ)
    (left count still : ℤ) → i < length moves → i < length prices
    → done ++ filled left (counted (drop i moves) (drop i prices)) ≡ all
    → now ≡ done ++ (get_or moves i d, count) ∷ [] → count ≡ int_min (get_or prices i e) left → still ≡ left -ℤ count
    → now ++ filled still (counted (drop (i + 1) moves) (drop (i + 1) prices)) ≡ all
unfolding filled
one_filled done now all moves prices i d e left count still below within so_far is least rest =
    ap (λ l. l ++ filled still (counted (drop (i + 1) moves) (drop (i + 1) prices))) is
    ∙ append_assoc done ((get_or moves i d, count) ∷ []) (filled still (counted (drop (i + 1) moves)
    (drop (i + 1) prices)))
    ∙ ap (λ z. done ++ (get_or moves i d, count) ∷ filled z (counted (drop (i + 1) moves) (drop (i + 1) prices))) rest
    ∙ ap (λ z. done ++ (get_or moves i d, z) ∷ filled (left -ℤ z) (counted (drop (i + 1) moves) (drop (i + 1) prices)))
    least
    ∙ ap (λ l. done ++ filled left l) (sym (counted_more moves prices i d e below within))
    ∙ so_far

pub all_filled : (done all : Shares) (moves : List ClassMove) (prices : List ℤ) (i : ℕ) (left : ℤ) → length moves ≤ i
    → done ++ filled left (counted (drop i moves) (drop i prices)) ≡ all → done ≡ all
unfolding filled
all_filled done all moves prices i left past so_far =
    sym (append-nil done) ∙ ap (λ l. done ++ filled left l) (sym (counted_end moves prices i past)) ∙ so_far

-- the rest of some counts with one less
pub sum_more : (shares : Shares) (i : ℕ) (d : ClassMove × ℤ) → i < length shares
    → sum_counts (drop i shares) ≡ (get_or shares i d).1 +ℤ sum_counts (drop (i + 1) shares)
unfolding sum_of
sum_more shares i d below = at_drop_more (λ (l : Shares). sum_counts l) shares i d below

pub sum_end : (shares : Shares) (i : ℕ) → length shares ≤ i → sum_counts (drop i shares) ≡ pos 0
unfolding sum_of
sum_end shares i past = ap (λ (l : Shares). sum_counts l) (drop_all i shares past)

-- a part of a denominator, as it is worked out
pub scaled_is : (den num d : ℤ) → pos 0 <ℤ d → unsigned_abs d ∣ unsigned_abs den
    → int_div den d *ℤ num ≡ scaled den (num, d)
scaled_is den num d some divides =
    sym (mul-div den num d some divides) ∙ ap (λ (z : ℤ). int_div z d) turned
  where
    turned : den *ℤ num ≡ num *ℤ den
    turned = sym (ap (λ (z : ℤ). den *ℤ z) (mul-one num)) ∙ mul_left_comm den num (pos 1)
        ∙ ap (λ (z : ℤ). num *ℤ z) (mul-one den)

-- what lies between 0 and a number that fits does fit
pub between_fits : (z most : ℤ) → pos 0 ≤ℤ z → z ≤ℤ most → SFits w128 most → SFits w128 z
between_fits (pos n) (pos m) some few fits = record { sfits = within n m (omega (arith, ints, few)) fits.sfits }
  where
    within : (n m : ℕ) → n ≤ m → m < 2 ^ 127 → n < 2 ^ 127
    within n m few fits = omega (arith, few, fits)
between_fits (pos n) (negsuc m) some few fits = absurd (omega (arith, ints, few))
between_fits (negsuc n) most some few fits = absurd (omega (arith, ints, some))

pub min_left : (x y : ℤ) → pos 0 ≤ℤ x → pos 0 ≤ℤ y → (pos 0 ≤ℤ (y -ℤ int_min x y)) × ((y -ℤ int_min x y) ≤ℤ y)
min_left x y p q = (omega (arith, ints, clamps, p, q), omega (arith, ints, clamps, p, q))

-- ---- sums of counts of which none is negative

sum_dropped : (shares : Shares) (i : ℕ) → AreLow shares → sum_counts (drop i shares) ≤ℤ sum_counts shares
unfolding sum_of
sum_dropped [] zero low = omega (arith, ints)
sum_dropped [] (suc i) low = omega (arith, ints)
sum_dropped (count ∷ shares) zero low = omega (arith, ints)
sum_dropped (count ∷ shares) (suc i) low =
    more count.1 (sum_counts (drop i shares)) (sum_counts shares) low.0 (sum_dropped shares i low.1)
  where
    more : (x a b : ℤ) → pos 0 ≤ℤ x → a ≤ℤ b → a ≤ℤ (x +ℤ b)
    more x a b p q = omega (arith, ints, p, q)

low_dropped : (shares : Shares) (i : ℕ) → AreLow shares → pos 0 ≤ℤ sum_counts (drop i shares)
unfolding sum_of
low_dropped [] zero low = omega (arith, ints)
low_dropped [] (suc i) low = omega (arith, ints)
low_dropped (count ∷ shares) zero low = counts_low (count ∷ shares) low
low_dropped (count ∷ shares) (suc i) low = low_dropped shares i low.1

others_dropped : (shares : Shares) (i : ℕ) → AreLow shares → 1 ≤ i
    → sum_counts (drop i shares) ≤ℤ sum_counts (drop 1 shares)
unfolding sum_of
others_dropped shares zero low from = absurd (omega (arith, from))
others_dropped [] (suc i) low from = omega (arith, ints)
others_dropped (count ∷ shares) (suc i) low from = sum_dropped shares i low.1

-- what the first counts leave of a mass that all keep within
pub rest_bounds : (shares : Shares) (i : ℕ) (rest mass : ℤ) → All (λ (count : ClassMove × ℤ). pos 0 ≤ℤ count.1) shares
    → 1 ≤ i → sum_counts shares ≤ℤ mass → rest -ℤ sum_counts (drop i shares) ≡ mass -ℤ sum_counts (drop 1 shares)
    → (pos 0 ≤ℤ rest) × (rest ≤ℤ mass)
rest_bounds shares i rest mass all from within so_far =
    let low : AreLow shares = recursion_from_All (λ (count : ClassMove × ℤ). pos 0 ≤ℤ count.1) shares all in
    bounds (sum_counts shares) (sum_counts (drop i shares)) (sum_counts (drop 1 shares)) rest mass
    (low_dropped shares i low) (others_dropped shares i low from) (sum_dropped shares 1 low) within so_far
  where
    bounds : (sum now others rest mass : ℤ) → pos 0 ≤ℤ now → now ≤ℤ others → others ≤ℤ sum → sum ≤ℤ mass
        → rest -ℤ now ≡ mass -ℤ others → (pos 0 ≤ℤ rest) × (rest ≤ℤ mass)
    bounds sum now others rest mass a b c d e = (omega (arith, ints, a, b, c, d, e), omega (arith, ints, a, b, c, d, e))

-- one count less
pub one_less : (shares : Shares) (i : ℕ) (d : ClassMove × ℤ) (rest still mass : ℤ) → i < length shares
    → rest -ℤ sum_counts (drop i shares) ≡ mass -ℤ sum_counts (drop 1 shares)
    → still ≡ rest -ℤ (get_or shares i d).1
    → still -ℤ sum_counts (drop (i + 1) shares) ≡ mass -ℤ sum_counts (drop 1 shares)
one_less shares i d rest still mass below so_far is =
    step (get_or shares i d).1 (sum_counts (drop i shares)) (sum_counts (drop (i + 1) shares)) rest still
    (mass -ℤ sum_counts (drop 1 shares)) (sum_more shares i d below) so_far is
  where
    step : (x sum less rest still all : ℤ) → sum ≡ x +ℤ less → rest -ℤ sum ≡ all → still ≡ rest -ℤ x
        → still -ℤ less ≡ all
    step x sum less rest still all one so_far is = omega (arith, ints, one, so_far, is)
