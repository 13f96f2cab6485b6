-- What rows come to at all points tells the program (`costs_told`, `row_told`).
use Rattle.std.proofs.Common.{◌≡◌, ℕ, zero, suc, ◌+◌, ◌<◌, ◌≤◌, Bool, true, false, List, [], ◌∷◌, length, get_or, map}
use Rattle.std.proofs.Common.{refl, sym, ap, ◌∙◌, subst, arith}
use Rattle.std.specs.Prelude.{◌==◌, filter, if◌then◌else◌, ℤ, pos, neg_ℤ, ◌+ℤ◌, ◌-ℤ◌, ◌*ℤ◌}
use Rattle.std.specs.List.{range_with_len}
use Rattle.std.proofs.lemmas.Bool.{cond-false, cond-true, eq-eqb, ne_eqb}
use Rattle.std.proofs.lemmas.Int.{ints}
use Rattle.suit_lists.proofs.Maps.{map_twice}
use Rattle.suit_lists.proofs.Walks.{range_map}
use Rattle.suit_num.proofs.IntegerLaws.{mul-neg_left}
use Rattle.suit_game.specs.declared.question.Question.{Question}
use Rattle.suit_plans.specs.Properness.{sum_of}
use Rattle.suit_plans.proofs.NumberSums.{sum_kept}
use Rattle.suit_linear.specs.declared.program.ProgramRow.{ProgramRow}
use Rattle.suit_linear.specs.declared.sparse.Entry.{Entry}
use Rattle.suit_linear.specs.Points.{dot, number_at}
use Rattle.suit_linear.specs.Sparse.{dense_entries, sum_in}
use Rattle.suit_linear.proofs.DotProducts.{dot_one, dot_zero}
use Rattle.suit_program.specs.declared.walks.ledger.Ledger.{Ledger}
use Rattle.suit_program.specs.declared.walks.ledger.Posting.{Posting}
use Rattle.suit_program.specs.Walks.Ledgers.{Given, entries_of, entries_value, entry_value, value_of}
use Rattle.suit_program.specs.Programs.Points.{Column, Point, no_point, point_of, unit_point}
use Rattle.suit_program.specs.Programs.{Limit, columns, excess, limits, program_of, row_of}
use Rattle.suit_program.specs.Supports.{Support}
use Rattle.suit_program.specs.Walks.Writing.{AreGiven, told}
use Rattle.suit_program.specs.Programs.Worths.{objective_at}
use Rattle.suit_program.proofs.lemmas.Programs.ColumnsComeOnce.{columns_are_given}
use Rattle.suit_program.proofs.lemmas.Programs.LinearInThePoint.{costs_tell, rows_tell}

-- ---- rows by number

pub told_before : (number : Limit → ℤ) (limits : List Limit) (first row : ℕ) → row < first
    → told number first limits row ≡ pos 0
unfolding told
told_before number [] first row below = refl
told_before number (limit ∷ limits) first row below =
    ap (λ (z : ℤ). z +ℤ told number (suc first) limits row)
    (cond-false (first == row) (number limit) (pos 0) (ne_eqb first row (λ (e : first ≡ row). omega (arith, e, below))))
    ∙ ap (λ (z : ℤ). pos 0 +ℤ z) (told_before number limits (suc first) row (omega (arith, below)))

pub told_at : (number : Limit → ℤ) (limits : List Limit) (first index : ℕ) (limit : Limit) → index < length limits
    → told number first limits (first + index) ≡ number (get_or limits index limit)
unfolding told
told_at number [] first index limit below = absurd (omega (arith, below))
told_at number (here ∷ limits) first zero limit below =
    ap (λ (z : ℤ). z +ℤ told number (suc first) limits (first + 0))
    (cond-true (first == first + 0) (number here) (pos 0) (eq-eqb first (first + 0) (omega arith)))
    ∙ ap (λ (z : ℤ). number here +ℤ z) (told_before number limits (suc first) (first + 0) (omega arith))
    ∙ last (number here)
  where
    last : (x : ℤ) → x +ℤ pos 0 ≡ x
    last x = omega (arith, ints)
told_at number (here ∷ limits) first (suc index) limit below =
    ap (λ (z : ℤ). z +ℤ told number (suc first) limits (first + suc index))
    (cond-false (first == first + suc index) (number here) (pos 0)
    (ne_eqb first (first + suc index) (λ (e : first ≡ first + suc index). omega (arith, e))))
    ∙ ap (λ (n : ℕ). pos 0 +ℤ told number (suc first) limits n) (omega arith)
    ∙ ap (λ (z : ℤ). pos 0 +ℤ z) (told_at number limits (suc first) index limit (omega (arith, below)))
    ∙ last (number (get_or limits index limit))
  where
    last : (x : ℤ) → pos 0 +ℤ x ≡ x
    last x = omega (arith, ints)

-- ---- entries

-- 1 for a column and 0 for others
abbrev pub unit : ℕ → Given
unit column index = if column == index then pos 1 else pos 0

-- what the entries of a row come to
pub row_value : (ledger : Ledger) (given : Given) (row : ℕ)
    → value_of ledger given row ≡ entries_value given (entries_of ledger.postings.items row)
unfolding value_of
row_value ledger given row =
    let here : Posting → Bool = λ posting. posting.row == row in
    sym (sum_kept here (λ (posting : Posting). entry_value given posting.entry) ledger.postings.items)
    ∙ sym (ap sum_of (map_twice (entry_value given) (λ (posting : Posting). posting.entry)
    (filter here ledger.postings.items)))

part_value : (b : Bool) (number : ℤ) → (if b then number else pos 0) ≡ number *ℤ (if b then pos 1 else pos 0)
part_value true number = omega (arith, ints)
part_value false number = omega (arith, ints)

pub sum_in_value : (entries : List Entry) (column : ℕ) → sum_in entries column ≡ entries_value (unit column) entries
unfolding sum_in sum_of
sum_in_value [] column = refl
sum_in_value (entry ∷ entries) column =
    ap (λ (z : ℤ). z +ℤ sum_in entries column) (part_value (column == entry.column) entry.number)
    ∙ ap (λ (z : ℤ). entry_value (unit column) entry +ℤ z) (sum_in_value entries column)

-- ---- points

pub given_all : (given : Given) (point : Point) (all : List Column) (first : ℕ) (column : Column)
    → ((index : ℕ) → index < length all → given (first + index) ≡ point.at (get_or all index column))
    → AreGiven given point first all
unfolding AreGiven
given_all given point [] first column same = tt
given_all given point (here ∷ all) first column same = (
  ap given (omega arith) ∙ same 0 (omega arith),
  given_all given point all (suc first) column
      (λ index below. ap given (omega arith) ∙ same (suc index) (omega (arith, below))),
)

mapped : (h : Column → ℤ) (xs : List Column) (index : ℕ) (column : Column) → index < length xs
    → number_at (map h xs) index ≡ h (get_or xs index column)
mapped h [] index column below = absurd (omega (arith, below))
mapped h (x ∷ xs) zero column below = refl
mapped h (x ∷ xs) (suc index) column below = mapped h xs index column (omega (arith, below))

unit_dot : (numbers : List ℤ) (index : ℕ) → dot numbers (unit index) ≡ number_at numbers index
unit_dot numbers index =
    dot_one numbers (unit index) index
    (λ other differs. ap (λ (z : ℤ). number_at numbers other *ℤ z)
    (cond-false (index == other) (pos 1) (pos 0) (ne_eqb index other (λ (e : index ≡ other). differs (sym e))))
    ∙ nothing (number_at numbers other))
    ∙ ap (λ (z : ℤ). number_at numbers index *ℤ z)
    (cond-true (index == index) (pos 1) (pos 0) (eq-eqb index index refl))
    ∙ once (number_at numbers index)
  where
    nothing : (x : ℤ) → x *ℤ pos 0 ≡ pos 0
    nothing x = omega (arith, ints)

    once : (x : ℤ) → x *ℤ pos 1 ≡ x
    once x = omega (arith, ints)

module _ (question : Question) (support : Support) (one : ℕ)
    (past : length (columns question support) ≤ one) where
  abbrev all : List Column
  all = columns question support

  -- a number that entries come to at all points
  abbrev pub Tells : List Entry → (Point → ℤ) → Type 0
  Tells entries f = (point : Point) (given : Given) → AreGiven given point 0 (columns question support)
      → given one ≡ point.one → entries_value given entries ≡ f point

  -- the point of a column, and that of none with the number 1
  units_given : (index : ℕ) → index < length all → (column : Column)
      → AreGiven (unit index) (point_of all (unit index) (pos 0)) 0 all
  units_given index below column =
      given_all (unit index) (point_of all (unit index) (pos 0)) all 0 column
      (λ other within. ap (unit index) (omega arith)
      ∙ sym (columns_are_given question support (unit index) other column within))

  none_given : AreGiven (unit one) (point_of all (λ index. pos 0) (pos 1)) 0 all
  unfolding AreGiven
  none_given = by all refl
    where
      by : (some : List Column) → some ≡ all → AreGiven (unit one) (point_of all (λ index. pos 0) (pos 1)) 0 some
      by [] is = tt
      by (column ∷ some) is =
          subst (λ (l : List Column). AreGiven (unit one) (point_of all (λ index. pos 0) (pos 1)) 0 l) (sym is)
          (given_all (unit one) (point_of all (λ index. pos 0) (pos 1)) all 0 column
          (λ other within. cond-false (one == 0 + other) (pos 1) (pos 0)
          (ne_eqb one (0 + other) (λ (e : one ≡ 0 + other). omega (arith, e, within, past)))
          ∙ sym (columns_are_given question support (λ index. pos 0) other column within)))

  -- the entries of a column and the bound
  pub column_told : (entries : List Entry) (f : Point → ℤ) → Tells entries f → (numbers : List ℤ) (bound : ℤ)
      → ((given : Given) (den : ℤ) → f (point_of all given den) ≡ dot numbers given -ℤ bound *ℤ den)
      → (index : ℕ) → index < length all → (column : Column)
      → sum_in entries index ≡ number_at numbers index
  column_told entries f tells numbers bound is index below column =
      sum_in_value entries index
      ∙ tells (point_of all (unit index) (pos 0)) (unit index) (units_given index below column)
      (cond-false (index == one) (pos 1) (pos 0)
      (ne_eqb index one (λ (e : index ≡ one). omega (arith, e, below, past))))
      ∙ is (unit index) (pos 0)
      ∙ left (dot numbers (unit index)) bound
      ∙ unit_dot numbers index
    where
      left : (x y : ℤ) → x -ℤ y *ℤ pos 0 ≡ x
      left x y = omega (arith, ints)

  pub bound_told : (entries : List Entry) (f : Point → ℤ) → Tells entries f → (numbers : List ℤ) (bound : ℤ)
      → ((given : Given) (den : ℤ) → f (point_of all given den) ≡ dot numbers given -ℤ bound *ℤ den)
      → neg_ℤ (sum_in entries one) ≡ bound
  bound_told entries f tells numbers bound is =
      finish (sum_in entries one) (f (point_of all (λ index. pos 0) (pos 1))) (dot numbers (λ index. pos 0)) bound
      (sum_in_value entries one
      ∙ tells (point_of all (λ index. pos 0) (pos 1)) (unit one) none_given
      (cond-true (one == one) (pos 1) (pos 0) (eq-eqb one one refl)))
      (is (λ index. pos 0) (pos 1))
      (dot_zero numbers (λ index. pos 0) (λ index. nothing (number_at numbers index)))
    where
      nothing : (x : ℤ) → x *ℤ pos 0 ≡ pos 0
      nothing x = omega (arith, ints)

      finish : (x y d b : ℤ) → x ≡ y → y ≡ d -ℤ b *ℤ pos 1 → d ≡ pos 0 → neg_ℤ x ≡ b
      finish x y d b p q r = omega (arith, ints, p, q, r)

  -- the entries of all columns
  entries_told : (entries : List Entry) (f : Point → ℤ) → Tells entries f → (g : Column → ℤ) (bound : ℤ)
      → ((given : Given) (den : ℤ) → f (point_of all given den) ≡ dot (map g all) given -ℤ bound *ℤ den)
      → dense_entries (length all) entries ≡ map g all
  entries_told entries f tells g bound is = by all refl
    where
      by : (some : List Column) → some ≡ all → map (sum_in entries) (range_with_len 0 (length all)) ≡ map g all
      by [] same = ap (λ (l : List Column). map (sum_in entries) (range_with_len 0 (length l))) (sym same)
          ∙ ap (map g) same
      by (column ∷ some) same =
          range_map (sum_in entries) g all column 0
          (λ index below. ap (sum_in entries) (omega arith)
          ∙ column_told entries f tells (map g all) bound is index below column
          ∙ mapped g all index column below)

  pub row_told : (entries : List Entry) (limit : Limit)
      → Tells entries (λ point. excess question support point limit)
      → record { entries = dense_entries (length all) entries; bound = neg_ℤ (sum_in entries one) }
      ≡ row_of question support all limit
  row_told entries limit tells =
      let row : ProgramRow = row_of question support all limit in
      let f : Point → ℤ = λ point. excess question support point limit in
      let is : (given : Given) (den : ℤ) → f (point_of all given den) ≡ dot row.entries given -ℤ row.bound *ℤ den =
      λ given den. rows_tell question support given den limit in
      ap (λ (l : List ℤ). record { entries = l; bound = neg_ℤ (sum_in entries one) })
      (entries_told entries f tells (λ column. excess question support (unit_point column) limit) row.bound is)
      ∙ ap (λ (z : ℤ). record { entries = row.entries; bound = z })
      (bound_told entries f tells row.entries row.bound is)

  pub costs_told : (entries : List Entry) → Tells entries (objective_at question support)
      → dense_entries (length all) entries ≡ (program_of question support).costs
  unfolding program_of
  costs_told entries tells =
      entries_told entries (objective_at question support) tells
      (λ column. objective_at question support (unit_point column))
      (neg_ℤ (objective_at question support no_point))
      (λ given den. costs_tell question support given den
      ∙ turned (dot (map (λ column. objective_at question support (unit_point column)) all) given)
      (objective_at question support no_point) den)
    where
      turned : (x y d : ℤ) → x +ℤ y *ℤ d ≡ x -ℤ neg_ℤ y *ℤ d
      turned x y d = let product = mul-neg_left y d in omega (arith, ints, product)
