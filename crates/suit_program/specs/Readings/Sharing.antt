-- How the mass of a class history is shared out among the moves of a choice, told of lists alone, for the contracts of
-- private functions.
use Rattle.std.specs.Prelude.{◌&&◌, not, Bool, List, [], ◌∷◌, ℕ, Option, Some, None, if◌then◌else◌, ℤ, pos, int_lt}
use Rattle.std.specs.Prelude.{◌≡◌, ◌<◌, filter, get_or, unsigned_abs}
use Rattle.std.specs.Int.{◌∣◌}
use Rattle.std.specs.Ordering.{int_eq}
use Rattle.suit_num.specs.declared.fraction.Frac.{Frac}
use Rattle.suit_num.specs.Divisors.{lcm_of}
use Rattle.suit_num.specs.Narrow.{IsNarrow}
use Rattle.suit_classes.specs.declared.class_moves.ClassMove.{ClassMove}
use Rattle.suit_plans.specs.Masses.{Shares, count_of}
use Rattle.suit_program.specs.Readings.{Part, all_on_first, scaled}

-- some moves, each with a number
unfoldable pub counted : List ClassMove → List ℤ → Shares
counted [] numbers = []
counted (move ∷ moves) [] = []
counted (move ∷ moves) (number ∷ numbers) = (move, number) ∷ counted moves numbers

-- whether shares of a mass want a row: some of it is not on the first move
abbrev pub wants_row : ℤ → Shares → Bool
wants_row mass shares = int_lt (pos 0) mass && not (all_on_first shares mass)

-- the shares without counts of 0
abbrev pub without_nothing : Shares → Shares
without_nothing shares = filter (λ (count : ClassMove × ℤ). not (int_eq count.1 (pos 0))) shares

-- what a move lets through of a mass: its count where there are shares, and else all
abbrev pub through : Option Shares → ℤ → ClassMove → ℤ
through None mass move = mass
through (Some shares) mass move = count_of shares move

-- what a move lets through of the first of some masses
abbrev pub AreThrough : List (Option Shares) → List ℤ → ClassMove → ℕ → List ℤ → Type 0
AreThrough shares masses move count passed =
    (index : ℕ) (held : Option Shares) (mass other : ℤ) → index < count
    → get_or passed index other ≡ through (get_or shares index held) (get_or masses index mass) move

-- a fraction is a whole number of parts of a denominator, and that many are no wide number
pub record IsPartOfDen (den : ℤ) (part : Frac) : Type 0 where
  pub divides : unsigned_abs part.den ∣ unsigned_abs den
  pub narrow : IsNarrow (scaled den (part.num, part.den))

-- the least common multiple of the denominators of those parts that are declarer's
unfoldable pub common_of : List Bool → List Part → ℕ
common_of [] parts = 1
common_of (passed ∷ others) [] = 1
common_of (passed ∷ others) (part ∷ parts) =
    if passed then lcm_of (unsigned_abs part.1) (common_of others parts) else common_of others parts
