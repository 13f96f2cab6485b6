-- Counts of moves that share out a mass: what a row of them gives, and what no row gives where none is needed
-- (`kept_counts`, `no_row_needed`).
use Rattle.std.proofs.Common.{◌≡◌, Bool, true, false, List, [], ◌∷◌, None, map, refl, sym, ap, ◌∙◌, subst}
use Rattle.std.proofs.Common.{arith}
use Rattle.std.specs.Prelude.{◌&&◌, cond, filter, not, if◌then◌else◌, ℤ, pos, ◌+ℤ◌, ◌-ℤ◌, ◌≤ℤ◌, int_lt}
use Rattle.std.specs.Int.{int_max, int_min}
use Rattle.std.specs.List.{AllByRecursion}
use Rattle.std.specs.Ordering.{int_eq}
use Rattle.std.proofs.lemmas.Bool.{false_from_ne_true}
use Rattle.std.proofs.lemmas.Bool.Decides.{Decides-int_eq}
use Rattle.std.proofs.lemmas.Int.{clamps, ints}
use Rattle.suit_lists.proofs.Firsts.{HasFirst}
use Rattle.suit_lists.proofs.Once.{IsOnce}
use Rattle.suit_num.proofs.IntegerLaws.{int_lt-false}
use Rattle.suit_classes.specs.declared.class_moves.ClassMove.{ClassMove}
use Rattle.suit_classes.specs.ClassMoves.{same_class_move}
use Rattle.suit_classes.proofs.SameMoves.{same_move_is}
use Rattle.suit_plans.specs.Masses.{Shares, count_of, is_first, share}
use Rattle.suit_plans.specs.Properness.{moves_of, sum_of}
use Rattle.suit_program.specs.Readings.{all_on_first, filled, sum_counts, topped_up}

-- no count is negative
abbrev pub AreLow : Shares → Type 0
AreLow shares = AllByRecursion (λ (count : ClassMove × ℤ). pos 0 ≤ℤ count.1) shares

-- counts that share out a mass
pub record ShareOut (mass : ℤ) (shares : Shares) : Type 0 where
  pub low : AreLow shares
  pub adds : sum_counts shares ≡ mass

-- ---- sums

pub counts_low : (shares : Shares) → AreLow shares → pos 0 ≤ℤ sum_counts shares
unfolding sum_of
counts_low [] low = omega (arith, ints)
counts_low (count ∷ shares) low =
    let here = low.0 in let rest = counts_low shares low.1 in
    added count.1 (sum_counts shares) here rest
  where
    added : (x y : ℤ) → pos 0 ≤ℤ x → pos 0 ≤ℤ y → pos 0 ≤ℤ (x +ℤ y)
    added x y p q = omega (arith, ints, p, q)

both_none : (x y : ℤ) → pos 0 ≤ℤ x → pos 0 ≤ℤ y → x +ℤ y ≡ pos 0 → (x ≡ pos 0) × (y ≡ pos 0)
both_none x y p q is = (omega (arith, ints, p, q, is), omega (arith, ints, p, q, is))

choice_none : (b : Bool) (x y : ℤ) → x ≡ pos 0 → y ≡ pos 0 → (if b then x else y) ≡ pos 0
choice_none true x y one other = one
choice_none false x y one other = other

-- where counts add up to nothing each is nothing
pub counts_none : (shares : Shares) (move : ClassMove) → AreLow shares → sum_counts shares ≡ pos 0
    → count_of shares move ≡ pos 0
unfolding sum_of count_of
counts_none [] move low none = refl
counts_none (count ∷ shares) move low none =
    let parts = both_none count.1 (sum_counts shares) low.0 (counts_low shares low.1) none in
    choice_none (same_class_move count.0 move) count.1 (count_of shares move) parts.0
    (counts_none shares move low.1 parts.1)

-- ---- a row without counts of 0

-- a move that is none of those that are named has no count
count_apart : (shares : Shares) (move : ClassMove)
    → AllByRecursion (λ later. move ≡ later → ⊥) (moves_of shares) → count_of shares move ≡ pos 0
unfolding count_of
count_apart [] move apart = refl
count_apart (count ∷ shares) move apart =
    ap (λ (b : Bool). if b then count.1 else count_of shares move)
    (false_from_ne_true (same_class_move count.0 move) (λ same. apart.0 (sym (same_move_is count.0 move same))))
    ∙ count_apart shares move apart.1

abbrev is_some : ClassMove × ℤ → Bool
is_some count = not (int_eq count.1 (pos 0))

kept_count : (b : Bool) (count : ClassMove × ℤ) (kept shares : Shares) (move : ClassMove)
    → int_eq count.1 (pos 0) ≡ b → count_of kept move ≡ count_of shares move
    → (same_class_move count.0 move ≡ true → count_of shares move ≡ pos 0)
    → count_of (cond (not b) (count ∷ kept) kept) move
    ≡ (if same_class_move count.0 move then count.1 else count_of shares move)
unfolding count_of
kept_count false count kept shares move is later none =
    ap (λ (z : ℤ). if same_class_move count.0 move then count.1 else z) later
kept_count true count kept shares move is later none = at (same_class_move count.0 move) refl
  where
    at : (same : Bool) → same_class_move count.0 move ≡ same
        → count_of kept move ≡ (if same then count.1 else count_of shares move)
    at true same = later ∙ none same ∙ sym ((Decides-int_eq count.1 (pos 0)).0 is)
    at false other = later

-- counts of 0 are counted without being kept
pub kept_counts : (shares : Shares) (move : ClassMove) → IsOnce (moves_of shares)
    → count_of (filter (λ (count : ClassMove × ℤ). not (int_eq count.1 (pos 0))) shares) move ≡ count_of shares move
unfolding count_of IsOnce
kept_counts [] move once = refl
kept_counts (count ∷ shares) move once =
    kept_count (int_eq count.1 (pos 0)) count (filter is_some shares) shares move refl
    (kept_counts shares move once.1)
    (λ same. count_apart shares move (subst (λ (m : ClassMove). AllByRecursion (λ later. m ≡ later → ⊥)
    (moves_of shares)) (same_move_is count.0 move same) once.0))

-- ---- no row

share_none : (b : Bool) (mass : ℤ) (move : ClassMove) → share None b mass move ≡ (if b then mass else pos 0)
share_none true mass move = refl
share_none false mass move = refl

-- whether counts that share out a mass want a row
abbrev pub wants_row : ℤ → Shares → Bool
wants_row mass shares = int_lt (pos 0) mass && not (all_on_first shares mass)

no_row_case : (some first : Bool) (mass : ℤ) (count : ClassMove × ℤ) (shares : Shares) (move : ClassMove)
    → int_lt (pos 0) mass ≡ some → int_eq count.1 mass ≡ first → (some && not first) ≡ false
    → ShareOut mass (count ∷ shares)
    → (if same_class_move count.0 move then count.1 else count_of shares move)
    ≡ (if same_class_move count.0 move then mass else pos 0)
unfolding sum_of
no_row_case true true mass count shares move live on none out =
    let all : count.1 ≡ mass = (Decides-int_eq count.1 mass).0 on in
    let adds : count.1 +ℤ sum_counts shares ≡ mass = out.adds in
    let rest : sum_counts shares ≡ pos 0 = omega (arith, ints, all, adds) in
    ap (λ (z : ℤ). if same_class_move count.0 move then z else count_of shares move) all
    ∙ ap (λ (z : ℤ). if same_class_move count.0 move then mass else z) (counts_none shares move out.low.1 rest)
no_row_case true false mass count shares move live on none out = absurd (cc)
no_row_case false first mass count shares move live on none out =
    let few : mass ≤ℤ pos 0 = int_lt-false (pos 0) mass live in
    let adds : count.1 +ℤ sum_counts shares ≡ mass = out.adds in
    let low = counts_low shares out.low.1 in
    let here = out.low.0 in
    let all : mass ≡ pos 0 = omega (arith, ints, few, adds, low, here) in
    let parts = both_none count.1 (sum_counts shares) here low (adds ∙ all) in
    ap (λ (z : ℤ). if same_class_move count.0 move then z else count_of shares move) (parts.0 ∙ sym all)
    ∙ ap (λ (z : ℤ). if same_class_move count.0 move then mass else z) (counts_none shares move out.low.1 parts.1)

-- where no row is wanted the first move gets what the counts give it
pub no_row_needed : (mass : ℤ) (count : ClassMove × ℤ) (shares : Shares) (move : ClassMove)
    → wants_row mass (count ∷ shares) ≡ false → ShareOut mass (count ∷ shares)
    → count_of (count ∷ shares) move ≡ share None (is_first (moves_of (count ∷ shares)) move) mass move
unfolding count_of
no_row_needed mass count shares move none out =
    no_row_case (int_lt (pos 0) mass) (int_eq count.1 mass) mass count shares move refl refl none out
    ∙ sym (share_none (same_class_move count.0 move) mass move)

-- counts have a first where there are moves
pub some_shares : {first : ClassMove} {more : List ClassMove} (shares : Shares) → moves_of shares ≡ first ∷ more
    → HasFirst shares
some_shares [] is = absurd (cc)
some_shares (count ∷ shares) is = record { first = count; more = shares; parts = refl }

pub no_row_of : (mass : ℤ) (shares : Shares) (move : ClassMove) → HasFirst shares → wants_row mass shares ≡ false
    → ShareOut mass shares → count_of shares move ≡ share None (is_first (moves_of shares) move) mass move
no_row_of mass [] move some none out = absurd (nothing some.parts)
  where
    nothing : [] ≡ some.first ∷ some.more → ⊥
    nothing is = cc
no_row_of mass (count ∷ shares) move some none out = no_row_needed mass count shares move none out

-- ---- counts of moves in order

pub sum_mapped : (f : ClassMove → ℤ) (moves : List ClassMove)
    → sum_counts (map (λ move. (move, f move)) moves) ≡ sum_of (map f moves)
unfolding sum_of
sum_mapped f [] = refl
sum_mapped f (move ∷ moves) = ap (λ (z : ℤ). f move +ℤ z) (sum_mapped f moves)

pub moves_mapped : (f : ClassMove → ℤ) (moves : List ClassMove) → moves_of (map (λ move. (move, f move)) moves) ≡ moves
moves_mapped f [] = refl
moves_mapped f (move ∷ moves) = ap (λ (l : List ClassMove). move ∷ l) (moves_mapped f moves)

pub low_mapped : (f : ClassMove → ℤ) (moves : List ClassMove) → ((move : ClassMove) → pos 0 ≤ℤ f move)
    → AreLow (map (λ move. (move, f move)) moves)
low_mapped f [] low = tt
low_mapped f (move ∷ moves) low = (low move, low_mapped f moves low)

-- ---- counts with the rest on the first

pub topped_moves : (mass : ℤ) (shares : Shares) → moves_of (topped_up mass shares) ≡ moves_of shares
topped_moves mass [] = refl
topped_moves mass (first ∷ shares) = refl

greater : (x y : ℤ) → x ≤ℤ int_max x y
greater x y = omega (arith, ints, clamps)

filled_up : (first rest mass : ℤ) → (first +ℤ rest) ≤ℤ mass → int_max first (mass -ℤ rest) +ℤ rest ≡ mass
filled_up first rest mass le = omega (arith, ints, clamps, le)

-- they share out the mass, where they do not add up to more
pub topped_out : (mass : ℤ) (first : ClassMove × ℤ) (shares : Shares) → AreLow (first ∷ shares)
    → sum_counts (first ∷ shares) ≤ℤ mass → ShareOut mass (topped_up mass (first ∷ shares))
unfolding sum_of
topped_out mass first shares low le = record {
  low = (
    through (pos 0) first.1 (int_max first.1 (mass -ℤ sum_counts shares)) low.0
        (greater first.1 (mass -ℤ sum_counts shares)),
    low.1,
  );
  adds = filled_up first.1 (sum_counts shares) mass le;
}
  where
    through : (a b c : ℤ) → a ≤ℤ b → b ≤ℤ c → a ≤ℤ c
    through a b c p q = omega (arith, ints, p, q)

same_or_more : (b : Bool) (x y z : ℤ) → x ≤ℤ y → (if b then x else z) ≤ℤ (if b then y else z)
same_or_more true x y z le = le
same_or_more false x y z le = omega (arith, ints)

-- no move gets less
pub topped_more : (mass : ℤ) (shares : Shares) (move : ClassMove)
    → count_of shares move ≤ℤ count_of (topped_up mass shares) move
unfolding count_of
topped_more mass [] move = omega (arith, ints)
topped_more mass (first ∷ shares) move =
    same_or_more (same_class_move first.0 move) first.1 (int_max first.1 (mass -ℤ sum_counts shares))
    (count_of shares move) (greater first.1 (mass -ℤ sum_counts shares))

-- numbers of some moves that do not add up to more
pub topped_of_moves : {first : ClassMove} {more : List ClassMove} (f : ClassMove → ℤ) (moves : List ClassMove)
    (mass : ℤ) → moves ≡ first ∷ more → ((move : ClassMove) → pos 0 ≤ℤ f move) → sum_of (map f moves) ≤ℤ mass
    → ShareOut mass (topped_up mass (map (λ move. (move, f move)) moves))
topped_of_moves f [] mass is low le = absurd (cc)
topped_of_moves f (move ∷ moves) mass is low le =
    topped_out mass (move, f move) (map (λ other. (other, f other)) moves) (low_mapped f (move ∷ moves) low)
    (subst (λ (z : ℤ). z ≤ℤ mass) (sym (sum_mapped f (move ∷ moves))) le)

-- ---- counts that are cut

pub filled_moves : (mass : ℤ) (shares : Shares) → moves_of (filled mass shares) ≡ moves_of shares
unfolding filled
filled_moves mass [] = refl
filled_moves mass (count ∷ shares) =
    ap (λ (l : List ClassMove). count.0 ∷ l) (filled_moves (mass -ℤ int_min count.1 mass) shares)

-- they share out the mass, where they do not add up to less
pub filled_out : (mass : ℤ) (shares : Shares) → pos 0 ≤ℤ mass → AreLow shares → mass ≤ℤ sum_counts shares
    → ShareOut mass (filled mass shares)
unfolding filled sum_of
filled_out mass [] some low enough = record { low = tt; adds = none mass some enough }
  where
    none : (mass : ℤ) → pos 0 ≤ℤ mass → mass ≤ℤ pos 0 → pos 0 ≡ mass
    none mass some enough = omega (arith, ints, some, enough)
filled_out mass (count ∷ shares) some low enough =
    let taken : ℤ = int_min count.1 mass in
    let rest = filled_out (mass -ℤ taken) shares (left count.1 mass some) low.1
    (still count.1 mass (sum_counts shares) enough (counts_low shares low.1)) in
    record {
      low = (taken_low count.1 mass low.0 some, rest.low);
      adds = all taken mass (sum_counts (filled (mass -ℤ taken) shares)) rest.adds;
    }
  where
    left : (x mass : ℤ) → pos 0 ≤ℤ mass → pos 0 ≤ℤ (mass -ℤ int_min x mass)
    left x mass some = omega (arith, ints, clamps, some)

    still : (x mass sum : ℤ) → mass ≤ℤ (x +ℤ sum) → pos 0 ≤ℤ sum → (mass -ℤ int_min x mass) ≤ℤ sum
    still x mass sum enough low = omega (arith, ints, clamps, enough, low)

    taken_low : (x mass : ℤ) → pos 0 ≤ℤ x → pos 0 ≤ℤ mass → pos 0 ≤ℤ int_min x mass
    taken_low x mass low some = omega (arith, ints, clamps, low, some)

    all : (taken mass sum : ℤ) → sum ≡ mass -ℤ taken → taken +ℤ sum ≡ mass
    all taken mass sum is = omega (arith, ints, is)
