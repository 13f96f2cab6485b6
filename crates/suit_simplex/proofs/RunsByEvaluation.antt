-- The worked runs by evaluation (`two_columns_twice`).
use Rattle.std.proofs.Common.{refl}
use Rattle.suit_simplex.specs.Examples.{TwoColumnsBegin, TwoColumnsOnce, TwoColumnsTwice, TwoColumnsShort, OneWideRow}
use Rattle.suit_simplex.specs.Examples.{TwoWideRows, NothingGained, TieBroken, Unlimited}
use Rattle.suit_linear.specs.Tableaus.{unit_numbers, first_tableau}
use Rattle.suit_linear.specs.Pivots.{kept, compared, ratio_products, combined, combining, content, pivoted_row}
use Rattle.suit_linear.specs.Pivots.{pivoting_row, pivoted, changing}
use Rattle.suit_linear.specs.Runs.{next, run_within}
use Rattle.suit_num.specs.Divisors.{gcd_of, gcd_within}

pub two_columns_begin : TwoColumnsBegin
unfolding first_tableau unit_numbers
two_columns_begin = refl

pub two_columns_once : TwoColumnsOnce
unfolding first_tableau unit_numbers next kept compared ratio_products combined combining content pivoted_row
    pivoting_row pivoted changing gcd_of gcd_within
two_columns_once = refl

pub two_columns_twice : TwoColumnsTwice
unfolding first_tableau unit_numbers next kept compared ratio_products combined combining content pivoted_row
    pivoting_row pivoted changing gcd_of gcd_within run_within
two_columns_twice = refl

pub two_columns_short : TwoColumnsShort
unfolding first_tableau unit_numbers next kept compared ratio_products combined combining content pivoted_row
    pivoting_row pivoted changing gcd_of gcd_within run_within
two_columns_short = refl

pub one_wide_row : OneWideRow
unfolding first_tableau unit_numbers next kept compared ratio_products combined combining content pivoted_row
    pivoting_row pivoted changing gcd_of gcd_within run_within
one_wide_row = refl

pub two_wide_rows : TwoWideRows
unfolding first_tableau unit_numbers next kept compared ratio_products combined combining content pivoted_row
    pivoting_row pivoted changing gcd_of gcd_within run_within
two_wide_rows = refl

pub nothing_gained : NothingGained
unfolding first_tableau unit_numbers next kept compared ratio_products combined combining content pivoted_row
    pivoting_row pivoted changing gcd_of gcd_within run_within
nothing_gained = refl

pub tie_broken : TieBroken
unfolding first_tableau unit_numbers next kept compared ratio_products combined combining content pivoted_row
    pivoting_row pivoted changing gcd_of gcd_within run_within
tie_broken = refl

pub unlimited : Unlimited
unfolding first_tableau unit_numbers next kept compared ratio_products combined combining content pivoted_row
    pivoting_row pivoted changing gcd_of gcd_within run_within
unlimited = refl
