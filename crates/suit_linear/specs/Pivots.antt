-- One pivot: the entering column, the ratio test, and what becomes of the rows.
use Rattle.std.specs.Prelude.{ℕ, ◌==◌, ◌&&◌, ◌||◌, ◌^◌, nat_lt, Bool, ℤ, pos, ◌-ℤ◌, ◌*ℤ◌, int_lt, int_div, unsigned_abs}
use Rattle.std.specs.Prelude.{List, [], ◌∷◌, ◌++◌, map, fold, Option, Some, None, position, drop, if◌then◌else◌}
use Rattle.std.specs.Ordering.{int_eq}
use Rattle.std.specs.List.{flat_map}
use Rattle.suit_num.specs.Divisors.{gcd_of}
use Rattle.suit_linear.specs.Tableaus.{TableauRow, Tableau, bound, entry, reduced_cost}

-- ---- the entering column, by Bland's rule: the first whose entry in the objective row is negative

abbrev pub entering : Tableau → Option ℕ
entering tableau = position (λ cost. int_lt cost (pos 0)) (drop 2 tableau.objective)

-- ---- the leaving row, by the ratios of the bounds to the entries in the column

-- whether a row takes the place of the best row so far: its ratio is less, or the same with a lower basic column
abbrev pub is_better : ℕ → TableauRow → TableauRow → Bool
is_better column best row =
    int_lt (bound row *ℤ entry best column) (bound best *ℤ entry row column)
    || (int_eq (bound row *ℤ entry best column) (bound best *ℤ entry row column) && nat_lt row.basic best.basic)

-- the best row so far, after one more row
unfoldable pub kept : ℕ → Option TableauRow → TableauRow → Option TableauRow
kept column None row = if int_lt (pos 0) (entry row column) then Some row else None
kept column (Some best) row = if int_lt (pos 0) (entry row column) && is_better column best row then Some row
    else Some best

-- the row that leaves: the best of those with a positive entry in the column
abbrev pub leaving : Tableau → ℕ → Option TableauRow
leaving tableau column = fold (kept column) None tableau.rows

-- the two products that compare the ratio of a row with that of the best row so far
abbrev pub compared_pair : ℕ → TableauRow → TableauRow → List ℤ
compared_pair column best row = (bound row *ℤ entry best column) ∷ (bound best *ℤ entry row column) ∷ []

-- a row with a positive entry is compared where another such row came before
unfoldable pub compared : ℕ → Option TableauRow → TableauRow → List ℤ
compared column None row = []
compared column (Some best) row = if int_lt (pos 0) (entry row column) then compared_pair column best row else []

-- the products of the ratio test, from a best row on
unfoldable pub ratio_products : ℕ → Option TableauRow → List TableauRow → List ℤ
ratio_products column best [] = []
ratio_products column best (row ∷ rows) = compared column best row ++ ratio_products column (kept column best row) rows

-- ---- what becomes of a row

-- a multiple of a row's numbers less a multiple of another row's
unfoldable pub combined : ℤ → List ℤ → ℤ → List ℤ → List ℤ
combined own (x ∷ xs) other (y ∷ ys) = (own *ℤ x -ℤ other *ℤ y) ∷ combined own xs other ys
combined own (x ∷ xs) other [] = []
combined own [] other ys = []

-- the numbers on the way to it at one index: the two products and their difference
abbrev pub combining_at : ℤ → ℤ → ℤ → ℤ → List ℤ
combining_at own x other y = (own *ℤ x) ∷ (other *ℤ y) ∷ (own *ℤ x -ℤ other *ℤ y) ∷ []

-- those of all indices
unfoldable pub combining : ℤ → List ℤ → ℤ → List ℤ → List ℤ
combining own (x ∷ xs) other (y ∷ ys) = combining_at own x other y ++ combining own xs other ys
combining own (x ∷ xs) other [] = []
combining own [] other ys = []

-- the greatest common divisor of numbers
unfoldable pub content : List ℤ → ℕ
content [] = 0
content (x ∷ xs) = gcd_of (unsigned_abs x) (content xs)

-- the primitive numbers behind numbers: each divided by their greatest common divisor
abbrev pub primitive : List ℤ → List ℤ
primitive numbers = map (λ x. int_div x (pos (content numbers))) numbers

-- the quotient of one number by its greatest common divisor with another
abbrev pub share : ℤ → ℤ → ℤ
share x y = int_div x (pos (gcd_of (unsigned_abs x) (unsigned_abs y)))

-- numbers with the entry t, cleared by those of the leaving row with the entry p
abbrev pub cleared : ℤ → ℤ → List ℤ → List ℤ → List ℤ
cleared p t numbers leaver = primitive (combined (share p t) numbers (share t p) leaver)

abbrev pub clearing : ℤ → ℤ → List ℤ → List ℤ → List ℤ
clearing p t numbers leaver = combining (share p t) numbers (share t p) leaver

-- a row after the pivot: the leaving row has the column as its basic one, and another row is cleared where its entry is
-- not 0
unfoldable pub pivoted_row : ℕ → TableauRow → TableauRow → TableauRow
pivoted_row column leaver row =
    if row.basic == leaver.basic
    then record row { basic = column }
    else if int_eq (entry row column) (pos 0)
    then row
    else record row { numbers = cleared (entry leaver column) (entry row column) row.numbers leaver.numbers }

unfoldable pub pivoting_row : ℕ → TableauRow → TableauRow → List ℤ
pivoting_row column leaver row =
    if row.basic == leaver.basic || int_eq (entry row column) (pos 0)
    then []
    else clearing (entry leaver column) (entry row column) row.numbers leaver.numbers

-- the tableau after the pivot; the leaving row has no part in the scale, so that a 0 stands before its numbers
unfoldable pub pivoted : Tableau → ℕ → TableauRow → Tableau
pivoted tableau column leaver = record {
  rows = map (pivoted_row column leaver) tableau.rows;
  objective = cleared (entry leaver column) (reduced_cost tableau column) tableau.objective (pos 0 ∷ leaver.numbers);
}

-- the numbers on the way to it from the choice of the leaving row on
unfoldable pub changing : Tableau → ℕ → TableauRow → List ℤ
changing tableau column leaver =
    flat_map (pivoting_row column leaver) tableau.rows
    ++ clearing (entry leaver column) (reduced_cost tableau column) tableau.objective (pos 0 ∷ leaver.numbers)

-- all the numbers on the way that have to be narrow
abbrev pub pivoting : Tableau → ℕ → TableauRow → List ℤ
pivoting tableau column leaver = ratio_products column None tableau.rows ++ changing tableau column leaver

-- whether a number fits 127 bits and a sign
abbrev pub is_narrow : ℤ → Bool
is_narrow number = nat_lt (unsigned_abs number) (2 ^ 127)
