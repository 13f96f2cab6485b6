use Rattle.std.proofs.Common.{◌≡◌, ℕ, ◌+◌, ◌<◌, ◌≤◌, Bool, true, false, ◌||◌, nat_eq, List, [], ◌∷◌, Some, Ok, refl}
use Rattle.std.proofs.Common.{sym, ◌∙◌, ap, arith}
use Rattle.std.specs.List.{filter}
use Rattle.std.specs.Str.{bytes_eq}
use Rattle.std.specs.Prelude.{codes, map}
use Rattle.std.proofs.lemmas.Bool.{ne_eqb}
use Rattle.std.proofs.lemmas.Cmp.{nat_eq_equiv}
use Rattle.suit_cards.specs.Ranks.{IsRank, letter_of}
use Rattle.suit_cards.specs.Holdings.{FallsBelow, IsHolding, holds, suit, with_rank, text_of}
use Rattle.suit_cards.specs.Reading.{Spot, spots_from, holding_read}
use Rattle.suit_cards.proofs.SuitRuns.{filter_suit-agree, holds-filter_suit, IsHolding-filter_suit}
use Rattle.suit_cards.proofs.HoldingIsWhatItHolds.{filter_suit-holds}
use Rattle.suit_cards.proofs.RankLetters.{letter_of_is}
use Rattle.suit_cards.proofs.ReadingWhole.{read_on, read_whole}

-- the spots of ranks that are written a byte each
abbrev spots_of : ℕ → List ℕ → List Spot
spots_of index [] = []
spots_of index (rank ∷ rest) = record { index = index; rank = Some rank } ∷ spots_of (index + 1) rest

-- from 2 to below a top that is at most 15 is a rank
rank_below : (top rank : ℕ) → top ≤ 15 → 2 ≤ rank → rank < top → IsRank rank
rank_below top rank within low high = (low, omega arith)

-- the letters of ranks that fall are cut byte by byte
spots_from-letters : (index top : ℕ) (ranks : List ℕ) → top ≤ 15 → FallsBelow top ranks
    → spots_from index (map letter_of ranks) ≡ spots_of index ranks
unfolding spots_from
spots_from-letters index top [] within falls = refl
spots_from-letters index top (rank ∷ []) within falls =
    rw (letter_of_is rank (rank_below top rank within falls.0 falls.1)).back refl
spots_from-letters index top (rank ∷ next ∷ rest) within falls =
    let letter = letter_of_is rank (rank_below top rank within falls.0 falls.1) in
    rw (letter.not_one, letter.back)
    (ap (λ (more : List Spot). record { index = index; rank = Some rank } ∷ more)
    (spots_from-letters (index + 1) rank (next ∷ rest) (omega (arith, falls.1)) falls.2))

-- a test or false is the test
or_false : (b : Bool) → (b || false) ≡ b
or_false true = refl
or_false false = refl

-- the first of three tests may stand second
or_moved : (x y z : Bool) → ((x || y) || z) ≡ (y || (x || z))
or_moved true true z = refl
or_moved true false z = refl
or_moved false true z = refl
or_moved false false z = refl

-- to hold one rank more and then others is to hold all of them
held_then : (held rest : List ℕ) (rank : ℕ)
    → filter (λ other. holds (with_rank held rank) other || holds rest other) suit
    ≡ filter (λ other. holds held other || holds (rank ∷ rest) other) suit
held_then held rest rank =
    filter_suit-agree _ _ (λ other low high.
    rw (holds-filter_suit (λ x. nat_eq rank x || holds held x) other low high, nat_eq_equiv.symm rank other)
    (or_moved (nat_eq other rank) (holds held other) (holds rest other)))

-- reading on over ranks that fall, and of which none is held, adds them
read_on-spots_of : (index top : ℕ) (held ranks : List ℕ) → top ≤ 15 → FallsBelow top ranks → IsHolding held
    → ((rank : ℕ) → 2 ≤ rank → rank < top → holds held rank ≡ false)
    → read_on held (spots_of index ranks) ≡ Ok (filter (λ rank. holds held rank || holds ranks rank) suit)
unfolding read_on
read_on-spots_of index top held [] within falls is apart =
    ap Ok (sym (filter_suit-agree _ (holds held) (λ rank low high. or_false (holds held rank))
    ∙ filter_suit-holds held is))
read_on-spots_of index top held (rank ∷ rest) within falls is apart =
    rw (apart rank falls.0 falls.1)
    (read_on-spots_of (index + 1) rank (with_rank held rank) rest (omega (arith, falls.1)) falls.2
    (IsHolding-filter_suit _)
    (λ other low high.
    holds-filter_suit (λ x. nat_eq rank x || holds held x) other low (omega (arith, falls.1))
    ∙ rw (ne_eqb rank other (λ e. omega arith), apart other low (omega (arith, falls.1))) refl)
    ∙ ap Ok (held_then held rest rank))

-- the letters of a holding are no dash
not_a_dash : (rank : ℕ) (rest : List ℕ) → IsRank rank → bytes_eq (map letter_of (rank ∷ rest)) (codes "-") ≡ false
not_a_dash rank rest is = rw (letter_of_is rank is).not_dash refl

-- a holding's text is read as the holding
pub holding_read-text_of : (ranks : List ℕ) → IsHolding ranks → holding_read (text_of ranks) ≡ Ok ranks
unfolding holding_read
holding_read-text_of [] is = refl
holding_read-text_of (rank ∷ rest) is =
    sym (read_whole (map letter_of (rank ∷ rest)) (not_a_dash rank rest (rank_below 15 rank (omega arith) is.0 is.1)))
    ∙ rw (spots_from-letters 0 15 (rank ∷ rest) (omega arith) is)
    (read_on-spots_of 0 15 [] (rank ∷ rest) (omega arith) is tt (λ _ _ _. refl)
    ∙ ap Ok (filter_suit-holds (rank ∷ rest) is))
