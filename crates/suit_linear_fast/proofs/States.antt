-- What is kept of a tableau tells of the next one after a pivot (`next_state`), which is made (`state_small`).
use Rattle.std.proofs.Common.{◌≡◌, ◌≢◌, inl, inr, ℕ, zero, suc, ◌+◌, ◌*◌, ◌<◌, ◌≤◌, ◌^◌, List, [], ◌∷◌, length, drop}
use Rattle.std.proofs.Common.{All}
use Rattle.std.proofs.Common.{Contains, Some, None, Bool, refl, sym, ap, ap₂, ◌∙◌, cond, subst, arith}
use Rattle.std.specs.Prelude.{ℤ, pos, ◌-ℤ◌, ◌*ℤ◌, ◌<ℤ◌, int_lt, unsigned_abs, slice_get, position, nat_lt, not}
use Rattle.std.specs.List.{position_or_len}
use Rattle.std.proofs.lemmas.Int.{ints, unsigned_abs-mul}
use Rattle.std.proofs.lemmas.Bool.{cases_eq}
use Rattle.std.proofs.lemmas.List.{get_or_default, get_or_past, length-drop, length-map}
use Rattle.suit_linear.proofs.Signs.{times_zero}
use Rattle.std.proofs.lemmas.List.Elements.{All-contains}
use Rattle.std.proofs.lemmas.Option.{slice_get-get_or, slice_get_within, slice_get_cases}
use Rattle.suit_num.proofs.IntegerLaws.{mul_assoc, mul_positive}
use Rattle.std.proofs.Math.IntN.{*ℤ_comm}
use Rattle.suit_linear.specs.declared.limits.TheConstants.{MOST_SMALL}
use Rattle.suit_linear.specs.declared.program.Program.{Program}
use Rattle.suit_linear.specs.Points.{number_at}
use Rattle.suit_linear.specs.Tableaus.{TableauRow, Tableau, entry, reduced_cost}
use Rattle.suit_linear.specs.Pivots.{content, entering, leaving, pivoted, pivoted_row}
use Rattle.suit_linear.specs.Multiples.{AreMultiples, IsSmall, IsSmallTableau}
use Rattle.suit_linear.proofs.EnteringCostIsNegative.{number_at-drop_two}
use Rattle.suit_linear.proofs.Multiples.{negative_same}
use Rattle.suit_linear.proofs.PrimitiveMultiples.{small_row}
use Rattle.suit_linear.proofs.RatioTest.{leaving_is_row}
use Rattle.suit_linear.proofs.PivotKeepsSound.{moved, pivot_case, pivoted_leaver, objective_cleared, pivoted_is_sound}
use Rattle.suit_linear_fast.specs.declared.lines.Line.{Line}
use Rattle.suit_linear_fast.specs.Lines.{IsLineOf, IsColumn, IsChangedLine}
use Rattle.suit_linear_fast.specs.States.{AreLinesOf, IsStateOf, AreSolved, IsApart, IsTop, AreChanged}
use Rattle.suit_linear_fast.specs.States.{IsChangedObjective, IsShrunk}
use Rattle.suit_linear_fast.proofs.ColumnClaims.{entry_is}
use Rattle.suit_linear_fast.proofs.LineSteps.{line_changed, both_cleared, same_multiples}
use Rattle.suit_linear_fast.proofs.PrimitiveRows.{pivoted_primitive}
use Rattle.suit_linear_fast.proofs.RowClaims.{IsRowOf, row_is_multiple}
use Rattle.suit_lists.proofs.Elements.{all_from_contains}
use Rattle.suit_lists.proofs.Indices.{contains_at, mapped_at}

-- ---- small numbers

-- a row has a line
pub line_of_row : (lines : List Line) (tableau : Tableau) (index : ℕ) (row : TableauRow) → AreLinesOf lines tableau
    → slice_get tableau.rows index ≡ Some row → (line : Line) × (slice_get lines index ≡ Some line)
line_of_row lines tableau index row are at =
    elim (slice_get_cases lines index).1 [
      | inl (line, inside, here, read) ↦ (line, here)
      | inr (past, none) ↦
          let low : index < length tableau.rows = slice_get_within tableau.rows index row at in
          let same = are.count in
          absurd (omega arith)
    ]

all_small : (numbers : List ℤ) → ((index : ℕ) → IsSmall (number_at numbers index)) → All IsSmall numbers
all_small numbers h = λ index other less. subst IsSmall (get_or_default numbers index (pos 0) other less) (h index)

small_at : (numbers : List ℤ) (index : ℕ) → All IsSmall numbers → IsSmall (number_at numbers index)
small_at numbers index h =
    elim (slice_get_cases numbers index).1 [
      | inl (x, inside, here, read) ↦ h index (pos 0) inside
      | inr (past, none) ↦ subst IsSmall (sym (get_or_past numbers index (pos 0) past)) nothing
    ]
  where
    nothing : IsSmall (pos 0)
    nothing = omega arith

through : (a b c d : ℕ) → a ≤ b → b ≤ c → c ≤ d → a ≤ d
through a b c d h k l = omega arith

module _ (program : Program) (lines : List Line) (objective : List ℤ) (tableau : Tableau)
    (is : IsStateOf program lines objective tableau) where
  row_small : (row : TableauRow) → Contains tableau.rows row → All IsSmall row.numbers
  row_small row inside =
      let at : slice_get tableau.rows inside.0 ≡ Some row =
      slice_get-get_or tableau.rows inside.0 row inside.1 ∙ ap (λ (r : TableauRow). Some r) inside.2 in
      let line = line_of_row lines tableau inside.0 row is.told at in
      let line_is : IsLineOf line.0 row = is.told.each inside.0 line.0 row line.1 at in
      all_small row.numbers
      (λ index. through (unsigned_abs (number_at row.numbers index)) (unsigned_abs (number_at line_is.multiple index))
      line.0.size MOST_SMALL
      (small_row line_is.multiple row.numbers index line_is.numbers line_is.width
      (All-contains (λ (r : TableauRow). content r.numbers ≡ 1) tableau.rows row is.primitive.rows inside))
      (line_is.sizes index) line_is.small)

  -- every number of the tableau is small
  pub state_small : IsSmallTableau tableau
  state_small = record {
    rows = all_from_contains (λ (r : TableauRow). All IsSmall r.numbers) tableau.rows row_small;
    objective =
        all_small tableau.objective
        (λ index. low (unsigned_abs (number_at tableau.objective index)) (unsigned_abs (number_at objective index))
        MOST_SMALL (small_row objective tableau.objective index is.numbers is.width is.primitive.objective)
        (small_at objective index is.small));
  }
    where
      low : (a b c : ℕ) → a ≤ b → b ≤ c → a ≤ c
      low a b c h k = omega arith

-- ---- the entering column

position_same : (p : ℤ → Bool) (xs ys : List ℤ) → length xs ≡ length ys
    → ((index : ℕ) → p (number_at xs index) ≡ p (number_at ys index)) → position_or_len p xs ≡ position_or_len p ys
position_same p [] [] e h = refl
position_same p [] (y ∷ ys) e h = absurd (omega arith)
position_same p (x ∷ xs) [] e h = absurd (omega arith)
position_same p (x ∷ xs) (y ∷ ys) e h =
    ap₂ (λ (b : Bool) (n : ℕ). cond (not b) (1 + n) 0) (h 0)
    (position_same p xs ys (omega arith) (λ index. h (suc index)))

pub entering_same : (objective : List ℤ) (tableau : Tableau) → length objective ≡ length tableau.objective
    → AreMultiples (number_at objective) (number_at tableau.objective)
    → position (λ cost. int_lt cost (pos 0)) (drop 2 objective) ≡ entering tableau
entering_same objective tableau width is =
    let p : ℤ → Bool = λ cost. int_lt cost (pos 0) in
    let widths : length (drop 2 objective) ≡ length (drop 2 tableau.objective) =
    omega (arith, length-drop 2 objective, length-drop 2 tableau.objective) in
    ap₂ (λ (n m : ℕ). cond (nat_lt n m) (Some n) None)
    (position_same p (drop 2 objective) (drop 2 tableau.objective) widths
    (λ index. ap p (number_at-drop_two objective index)
    ∙ negative_same (number_at objective) (number_at tableau.objective) (suc (suc index)) is
    ∙ ap p (sym (number_at-drop_two tableau.objective index)))) widths

-- ---- a pivot

module _ (program : Program) (lines : List Line) (objective : List ℤ) (tableau : Tableau)
    (is : IsStateOf program lines objective tableau) (column : ℕ) (enters : entering tableau ≡ Some column)
    (row : TableauRow) (leaves : leaving tableau column ≡ Some row) (place : ℕ)
    (at : slice_get tableau.rows place ≡ Some row) (entries : List ℤ) (shows : IsColumn program lines column entries)
    (numbers : List ℤ) (solved : AreSolved program numbers)
    (width : length numbers ≡ suc (length program.costs + length program.rows)) (apart : IsApart lines place numbers)
    (top : Line) (top_is : IsTop column numbers top) where
  inside : Contains tableau.rows row
  inside = contains_at tableau.rows place row at

  some : pos 0 <ℤ entry row column
  some = (leaving_is_row tableau column row leaves).1

  row_width : (other : TableauRow) → Contains tableau.rows other
      → length other.numbers ≡ suc (length program.costs + length program.rows)
  row_width other within =
      All-contains (λ (r : TableauRow). length r.numbers ≡ suc (length program.costs + length program.rows))
      tableau.rows other is.sound.widths within

  is_row : IsRowOf program tableau row numbers
  is_row = record {
    holds = solved;
    apart = λ other within differs.
        let here : slice_get tableau.rows within.0 ≡ Some other =
        slice_get-get_or tableau.rows within.0 other within.1 ∙ ap (λ (r : TableauRow). Some r) within.2 in
        let line = line_of_row lines tableau within.0 other is.told here in
        let line_is : IsLineOf line.0 other = is.told.each within.0 line.0 other line.1 here in
        ap (λ (n : ℕ). number_at numbers (suc n)) (sym line_is.basic)
        ∙ apart.others within.0 line.0 (λ e. differs (same_row within.0 other here e)) line.1;
    positive =
        let line = line_of_row lines tableau place row is.told at in
        subst (λ (n : ℕ). pos 0 <ℤ number_at numbers (suc n)) (is.told.each place line.0 row line.1 at).basic
        (apart.own line.0 line.1);
  }
    where
      same_some : (x y : TableauRow) → Some x ≡ Some y → x ≡ y
      same_some x y e = cc

      same_row : (index : ℕ) (other : TableauRow) → slice_get tableau.rows index ≡ Some other → index ≡ place
          → other.basic ≡ row.basic
      same_row index other here e =
          ap (λ (r : TableauRow). r.basic)
          (same_some other row (sym here ∙ ap (λ (n : ℕ). slice_get tableau.rows n) e ∙ at))

  multiple : AreMultiples (number_at numbers) (number_at row.numbers)
  multiple = row_is_multiple program tableau is.sound row inside numbers is_row

  top_line : (after : TableauRow) → after ≡ moved column row → IsLineOf top after
  top_line after e = subst (IsLineOf top) (sym e) (record {
    basic = top_is.basic;
    multiple = numbers;
    width = width ∙ sym (row_width row inside);
    numbers = multiple;
    own = top_is.own;
    bound = top_is.bound;
    sizes = top_is.sizes;
    small = top_is.small;
  })

  other_line : (index : ℕ) (line next : Line) (before : TableauRow) → index ≢ place
      → slice_get lines index ≡ Some line → slice_get tableau.rows index ≡ Some before
      → IsChangedLine line (number_at entries index) top.own top next → IsLineOf next (pivoted_row column row before)
  other_line index line next before differs found here change =
      let within : Contains tableau.rows before = contains_at tableau.rows index before here in
      elim (pivot_case program tableau column row is.sound leaves before within) [
        | inl (same, moves) ↦
            absurd (differs (is.sound.basics_differ index place before row here at
            (ap (λ (r : TableauRow). r.basic) same)))
        | inr (away, basic, clear) ↦
            line_changed column before row (pivoted_row column row before) numbers line next top
            (number_at entries index) top.own (entry row column) (entry before column) clear basic refl refl some
            multiple (width ∙ sym (row_width before within)) top_is.sizes top_is.bound
            (is_row.apart before within away) top_is.own (is.told.each index line before found here)
            (entry_is program tableau is.sound lines is.told column entries shows index line before found here) change
      ]

  module _ (nexts : List Line) (change : AreChanged lines entries place top nexts) where
    lines_after : AreLinesOf nexts (pivoted tableau column row)
    unfolding pivoted
    lines_after = record {
      count = change.count ∙ is.told.count ∙ sym (length-map tableau.rows (pivoted_row column row));
      each = λ index next after found here.
          let from = mapped_at (pivoted_row column row) tableau.rows index after here in
          let line = line_of_row lines tableau index from.0 is.told from.1 in
          elim (cases_eq index place) [
            | inl same ↦
                let is_row : from.0 ≡ row =
                same_some from.0 row (sym from.1 ∙ ap (λ (n : ℕ). slice_get tableau.rows n) same ∙ at) in
                let is_top : next ≡ top =
                same_line next top (sym found ∙ ap (λ (n : ℕ). slice_get nexts n) same ∙ change.leaver) in
                subst (λ (l : Line). IsLineOf l after) (sym is_top)
                (top_line after (sym from.2 ∙ ap (λ (r : TableauRow). pivoted_row column row r) is_row
                ∙ pivoted_leaver column row row refl))
            | inr differs ↦
                subst (IsLineOf next) from.2
                (other_line index line.0 next from.0 differs line.1 from.1
                (change.others index line.0 next differs line.1 found))
          ];
    }
      where
        same_some : (x y : TableauRow) → Some x ≡ Some y → x ≡ y
        same_some x y e = cc

        same_line : (x y : Line) → Some x ≡ Some y → x ≡ y
        same_line x y e = cc

    behind : AreMultiples (number_at (pos 0 ∷ numbers)) (number_at (pos 0 ∷ row.numbers))
    behind = record {
      left = multiple.left;
      right = multiple.right;
      left_positive = multiple.left_positive;
      right_positive = multiple.right_positive;
      numbers = by_index;
    }
      where
        by_index : (index : ℕ) → multiple.left *ℤ number_at (pos 0 ∷ numbers) index
            ≡ multiple.right *ℤ number_at (pos 0 ∷ row.numbers) index
        by_index zero = times_zero multiple.left (pos 0) refl ∙ sym (times_zero multiple.right (pos 0) refl)
        by_index (suc index) = multiple.numbers index

    -- what is kept after the pivot
    pub next_state : (next : List ℤ) → IsChangedObjective objective numbers column top.own next
        → IsStateOf program nexts next (pivoted tableau column row)
    unfolding pivoted
    next_state next changes = record {
      sound = pivoted_is_sound program tableau column row is.sound enters leaves;
      primitive = pivoted_primitive program tableau column row is.sound leaves is.primitive;
      told = lines_after;
      width = changes.combined.count ∙ is.width
          ∙ sym (objective_cleared program tableau column row is.sound leaves).width;
      numbers = same_multiples (number_at next)
          (λ k. changes.own *ℤ number_at objective k -ℤ changes.times *ℤ number_at (pos 0 ∷ numbers) k)
          (number_at (pivoted tableau column row).objective) changes.combined.changed
          (both_cleared (entry row column) (reduced_cost tableau column) tableau.objective (pos 0 ∷ row.numbers)
          (pivoted tableau column row).objective (pos 0 ∷ numbers) (number_at objective) (suc (suc column)) changes.own
          changes.times (objective_cleared program tableau column row is.sound leaves) is.numbers behind refl refl some
          changes.positive (changes.balance ∙ ap (λ (z : ℤ). changes.times *ℤ z) (sym top_is.own)));
      small = changes.combined.small;
    }

-- ---- numbers that are divided

shrunk_multiple : (before after : List ℤ) → IsShrunk before after → (whole : ℕ → ℤ)
    → AreMultiples (number_at before) whole → AreMultiples (number_at after) whole
shrunk_multiple before after is whole multiple = record {
  left = multiple.left *ℤ is.divisor;
  right = multiple.right;
  left_positive = mul_positive multiple.left is.divisor multiple.left_positive is.positive;
  right_positive = multiple.right_positive;
  numbers = λ index. mul_assoc multiple.left is.divisor (number_at after index)
      ∙ ap (λ (z : ℤ). multiple.left *ℤ z) (*ℤ_comm is.divisor (number_at after index) ∙ is.numbers index)
      ∙ multiple.numbers index;
}

shrunk_small : (before after : List ℤ) → IsShrunk before after → All IsSmall before → All IsSmall after
shrunk_small before after is h =
    all_small after
    (λ index. smaller (number_at after index) (number_at before index) is.divisor is.positive (is.numbers index)
    (small_at before index h))
  where
    by_product : (m n k : ℕ) → 0 < n → m * n ≡ k → k ≤ MOST_SMALL → m ≤ MOST_SMALL
    by_product m zero k h e l = absurd (omega arith)
    by_product m (suc n) k h e l = omega (arith, e)

    some_size : (z : ℤ) → pos 0 <ℤ z → 0 < unsigned_abs z
    some_size z h = omega (arith, ints)

    smaller : (x y d : ℤ) → pos 0 <ℤ d → x *ℤ d ≡ y → IsSmall y → IsSmall x
    smaller x y d some e small =
        by_product (unsigned_abs x) (unsigned_abs d) (unsigned_abs y) (some_size d some)
        (sym (unsigned_abs-mul x d) ∙ ap unsigned_abs e) small

pub state_shrunk : (program : Program) (lines : List Line) (before after : List ℤ) (tableau : Tableau)
    → IsShrunk before after → IsStateOf program lines before tableau → IsStateOf program lines after tableau
state_shrunk program lines before after tableau is state = record {
  sound = state.sound;
  primitive = state.primitive;
  told = state.told;
  width = is.count ∙ state.width;
  numbers = shrunk_multiple before after is (number_at tableau.objective) state.numbers;
  small = shrunk_small before after is state.small;
}
