-- The first line: the value, and the percentage or the number of tricks that it is.
use Rattle.std.specs.Prelude.{ℕ, ◌*◌, ◌/◌, ◌%◌, ◌++◌, codes, decimal, unsigned_abs, pos, ◌≤ℤ◌, ◌*ℤ◌}
use Rattle.std.specs.Fmt.{signed_decimal}
use Rattle.suit_cards.specs.Cards.{Text}
use Rattle.suit_num.specs.declared.fraction.Frac.{Frac}
use Rattle.suit_game.specs.declared.question.Goal.{Goal}
use Rattle.suit_game.specs.declared.question.Goal.TheVariants.{AtLeast, Tricks}
use Rattle.suit_plans.specs.declared.plan.TheConstants.{MOST_MASS}
use Rattle.suit_lines.specs.declared.value.TheConstants.{MOST_VALUE}

-- the value of a goal of at least so many tricks is told in percent, that of all tricks in tricks
abbrev pub unit : Goal → Text
unit (AtLeast least) = codes "percent"
unit Tricks = codes "tricks"

-- how many hundredths of its unit the value 1 is
abbrev pub hundredths_of_one : Goal → ℕ
hundredths_of_one (AtLeast least) = 10000
hundredths_of_one Tricks = 100

-- the whole hundredths of its unit that a value has, where it is not negative; the rest is cut off
abbrev pub hundredths : Goal → Frac → ℕ
hundredths goal value = unsigned_abs value.num * hundredths_of_one goal / unsigned_abs value.den

-- a number of hundredths with its two decimals
abbrev pub decimals : ℕ → Text
decimals count = decimal (count / 100) ++ codes "." ++ decimal ((count % 100) / 10) ++ decimal (count % 10)

-- the line
abbrev pub value_line : Goal → Frac → Text
value_line goal value =
    codes "Value " ++ signed_decimal value.num ++ codes "/" ++ signed_decimal value.den ++ codes ", "
    ++ decimals (hundredths goal value) ++ codes " " ++ unit goal ++ codes ".\n"

-- a value of which such a line can be written: from 0 to MOST_VALUE, over a denominator of at most MOST_MASS
pub record IsTellable (value : Frac) : Type 0 where
  pub least : pos 0 ≤ℤ value.num
  pub most : value.num ≤ℤ (pos MOST_VALUE *ℤ value.den)
  pub fine : value.den ≤ℤ pos MOST_MASS
