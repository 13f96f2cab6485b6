-- The first tableau is sound, and its rows say what the slack columns are (`first_is_sound`).
use Rattle.std.proofs.Common.{◌≡◌, ◌≢◌, inl, inr, ℕ, zero, suc, ◌<◌, ◌≤◌, ◌+◌, List, [], ◌∷◌, ◌++◌, length, map}
use Rattle.std.proofs.Common.{replicate, get_or, All, Contains, Some, refl, sym, ap, ◌∙◌, subst, arith}
use Rattle.std.specs.Prelude.{ℤ, pos, ◌+ℤ◌, ◌*ℤ◌, ◌≤ℤ◌, ◌<ℤ◌, neg_ℤ, ◌==◌, slice_get}
use Rattle.std.specs.List.{enumerate_from}
use Rattle.std.proofs.lemmas.Int.{ints}
use Rattle.std.proofs.lemmas.Bool.{cases_lt, eq-eqb, ne_eqb, cond-true, cond-false}
use Rattle.std.proofs.lemmas.List.{get_or-map, get_or_past, get_or_default, get_or-append-add, length-map}
use Rattle.std.proofs.lemmas.List.{length-append, length-replicate}
use Rattle.std.proofs.lemmas.List.FromFn.{length-enumerate_from, get_or-enumerate_from, get_or-map-range_with_len}
use Rattle.std.proofs.lemmas.List.FromFn.{length-map-range_with_len}
use Rattle.std.proofs.lemmas.List.Elements.{All-map, All-weaker, All-contains}
use Rattle.suit_linear.specs.declared.program.Program.{Program}
use Rattle.suit_linear.specs.declared.program.ProgramRow.{ProgramRow}
use Rattle.suit_linear.specs.Points.{number_at, dot}
use Rattle.suit_linear.specs.Programs.{IsWellFormed}
use Rattle.suit_linear.specs.Tableaus.{TableauRow, bound, entry, reduced_cost, unit_numbers, first_row, first_tableau}
use Rattle.suit_linear.proofs.SoundTableaus.{IsSound, Solves}
use Rattle.suit_linear.proofs.DotProducts.{dot_zero, dot_one, dot-append, dot-neg_numbers}
use Rattle.suit_linear.proofs.Signs.{zero_times}
use Rattle.suit_lists.proofs.Maps.{Contains-map_from}

-- ---- the numbers of a slack column

pub length-unit : (count index : ℕ) → length (unit_numbers count index) ≡ count
unfolding unit_numbers
length-unit count index = length-map-range_with_len _ 0 count

pub unit_here : (count index : ℕ) → index < count → number_at (unit_numbers count index) index ≡ pos 1
unfolding unit_numbers
unit_here count index h =
    get_or-map-range_with_len _ 0 count index index (pos 0) h (omega arith)
    ∙ cond-true (index == index) (pos 1) (pos 0) (eq-eqb index index refl)

pub unit_elsewhere : (count index other : ℕ) → other ≢ index → number_at (unit_numbers count index) other ≡ pos 0
unfolding unit_numbers
unit_elsewhere count index other h =
    elim (cases_lt other count) [
      | inl less ↦
          get_or-map-range_with_len _ 0 count other other (pos 0) less (omega arith)
          ∙ cond-false (other == index) (pos 1) (pos 0) (ne_eqb other index h)
      | inr past ↦
          let short : length (unit_numbers count index) ≤ other = omega (arith, length-unit count index) in
          get_or_past (unit_numbers count index) other (pos 0) short
    ]

times_one : (a b : ℤ) → a ≡ pos 1 → a *ℤ b ≡ b
times_one a b h = ap (λ (z : ℤ). z *ℤ b) h ∙ one_times b
  where
    one_times : (b : ℤ) → pos 1 *ℤ b ≡ b
    one_times b = omega (arith, ints)

dot_unit : (count index : ℕ) (given : ℕ → ℤ) → index < count → dot (unit_numbers count index) given ≡ given index
dot_unit count index given h =
    dot_one (unit_numbers count index) given index
    (λ other differs. zero_times _ (given other) (unit_elsewhere count index other differs))
    ∙ times_one _ (given index) (unit_here count index h)

-- ---- the rows of the first tableau

-- a row of a program with its index
abbrev pub IsPlaced : List ProgramRow → ℕ × ProgramRow → Type 0
IsPlaced rows (index, row) = (index < length rows) × (get_or rows index row ≡ row)

placed_at : (rows : List ProgramRow) (index : ℕ) (other : ProgramRow) → index < length rows
    → IsPlaced rows (index, get_or rows index other)
placed_at rows index other h = (h, get_or_default rows index (get_or rows index other) other h)

enumerated : (rows : List ProgramRow) → All (IsPlaced rows) (enumerate_from 0 rows)
enumerated rows = λ index other less.
    let inside : index < length rows = omega (arith, length-enumerate_from 0 rows) in
    let start : 0 + index ≡ index = omega arith in
    let is : (index, get_or rows index other.1) ≡ get_or (enumerate_from 0 rows) index other =
    sym (get_or-enumerate_from 0 rows index other inside ∙ ap (λ (i : ℕ). (i, get_or rows index other.1)) start) in
    subst (IsPlaced rows) is (placed_at rows index other.1 inside)

-- a row of the first tableau is that of a placed row of the program
pub first_row_of : (program : Program) (row : TableauRow) → Contains (first_tableau program).rows row
    → (placed : ℕ × ProgramRow) × IsPlaced program.rows placed
    × (first_row (length program.costs) (length program.rows) placed ≡ row)
unfolding first_tableau
first_row_of program row h =
    let found = Contains-map_from (first_row (length program.costs) (length program.rows)) (enumerate_from 0 program.rows)
    row h in (
      found.0,
      All-contains (IsPlaced program.rows) (enumerate_from 0 program.rows) found.0 (enumerated program.rows)
          found.1,
      found.2,
    )

pub first_row_at : (program : Program) (index : ℕ) (other : ProgramRow) → index < length program.rows
    → get_or (first_tableau program).rows index (first_row (length program.costs) (length program.rows) (index, other))
    ≡ first_row (length program.costs) (length program.rows) (index, get_or program.rows index other)
unfolding first_tableau
first_row_at program index other h =
    let f : ℕ × ProgramRow → TableauRow = first_row (length program.costs) (length program.rows) in
    let inside : index < length (enumerate_from 0 program.rows) = omega (arith, length-enumerate_from 0 program.rows) in
    let start : 0 + index ≡ index = omega arith in
    get_or-map f (enumerate_from 0 program.rows) index (index, other) (f (index, other)) inside
    ∙ ap f (get_or-enumerate_from 0 program.rows index (index, other) h
    ∙ ap (λ (i : ℕ). (i, get_or program.rows index other)) start)

pub length-first : (program : Program) → length (first_tableau program).rows ≡ length program.rows
unfolding first_tableau
length-first program = length-map (enumerate_from 0 program.rows)
    (first_row (length program.costs) (length program.rows)) ∙ length-enumerate_from 0 program.rows

-- what a row comes to: its bound's part, its entries' and its slack column's
pub first_row_dot : (columns rows : ℕ) (index : ℕ) (row : ProgramRow) (given : ℕ → ℤ) → index < rows
    → dot (first_row columns rows (index, row)).numbers given
    ≡ row.bound *ℤ given 0 +ℤ (dot row.entries (λ column. given (suc column))
    +ℤ given (suc (length row.entries + index)))
unfolding dot
first_row_dot columns rows index row given h =
    ap (λ (z : ℤ). row.bound *ℤ given 0 +ℤ z)
    (dot-append row.entries (unit_numbers rows index) (λ column. given (suc column))
    ∙ ap (λ (z : ℤ). dot row.entries (λ column. given (suc column)) +ℤ z)
    (dot_unit rows index (λ other. given (suc (length row.entries + other))) h))

-- the rows of the first tableau are solved where each slack column makes up for its row
pub solved_row : (program : Program) (given : ℕ → ℤ) → Solves (first_tableau program).rows given
    → (index : ℕ) (other : ProgramRow) → index < length program.rows
    → (get_or program.rows index other).bound *ℤ given 0
    +ℤ (dot (get_or program.rows index other).entries (λ column. given (suc column))
    +ℤ given (suc (length (get_or program.rows index other).entries + index))) ≡ pos 0
solved_row program given h index other less =
    let f : ℕ × ProgramRow → TableauRow = first_row (length program.costs) (length program.rows) in
    let inside : index < length (first_tableau program).rows = omega (arith, length-first program) in
    sym (first_row_dot (length program.costs) (length program.rows) index (get_or program.rows index other) given less)
    ∙ ap (λ (row : TableauRow). dot row.numbers given) (sym (first_row_at program index other less))
    ∙ h index (f (index, other)) inside

pub solves_rows : (program : Program) (given : ℕ → ℤ)
    → ((index : ℕ) (row : ProgramRow) → IsPlaced program.rows (index, row)
    → row.bound *ℤ given 0 +ℤ (dot row.entries (λ column. given (suc column))
    +ℤ given (suc (length row.entries + index))) ≡ pos 0)
    → Solves (first_tableau program).rows given
unfolding first_tableau
solves_rows program given h =
    let f : ℕ × ProgramRow → TableauRow = first_row (length program.costs) (length program.rows) in
    All-map (λ (row : TableauRow). dot row.numbers given ≡ pos 0) f (enumerate_from 0 program.rows)
    (All-weaker (IsPlaced program.rows) (λ (p : ℕ × ProgramRow). dot (f p).numbers given ≡ pos 0)
    (λ p is. first_row_dot (length program.costs) (length program.rows) p.0 p.1 given is.0 ∙ h p.0 p.1 is)
    (enumerate_from 0 program.rows) (enumerated program.rows))

-- ---- it is sound

basic_from : (columns rows start : ℕ) (xs : List ProgramRow) (index : ℕ) (row : TableauRow)
    → slice_get (map (first_row columns rows) (enumerate_from start xs)) index ≡ Some row
    → row.basic ≡ columns + (start + index)
basic_from columns rows start [] index row h = cc
basic_from columns rows start (x ∷ xs) zero row h =
    let is : first_row columns rows (start, x) ≡ row = cc in
    ap (λ (r : TableauRow). r.basic) (sym is) ∙ ap (λ (n : ℕ). columns + n) (omega arith)
basic_from columns rows start (x ∷ xs) (suc index) row h = basic_from columns rows (start + 1) xs index row h
    ∙ ap (λ (n : ℕ). columns + n) (omega arith)

pub zeros : (count index : ℕ) → number_at (replicate count (pos 0)) index ≡ pos 0
zeros zero index = refl
zeros (suc count) zero = refl
zeros (suc count) (suc index) = zeros count index

dot_zeros : (count : ℕ) (given : ℕ → ℤ) → dot (replicate count (pos 0)) given ≡ pos 0
dot_zeros count given = dot_zero (replicate count (pos 0)) given
    (λ index. zero_times _ (given index) (zeros count index))

first_costs : (costs : List ℤ) (count index : ℕ)
    → number_at (map neg_ℤ costs ++ replicate count (pos 0)) (length costs + index) ≡ pos 0
first_costs costs count index =
    ap (λ (n : ℕ). number_at (map neg_ℤ costs ++ replicate count (pos 0)) (n + index)) (sym (length-map costs neg_ℤ))
    ∙ get_or-append-add (map neg_ℤ costs) (replicate count (pos 0)) index (pos 0)
    ∙ zeros count index

objective_step : (g d : ℤ) → pos 0 *ℤ g +ℤ (neg_ℤ d +ℤ pos 0) ≡ neg_ℤ (pos 1 *ℤ d)
objective_step g d = omega (arith, ints)

first_objective : (costs : List ℤ) (count : ℕ) (given : ℕ → ℤ)
    → dot (pos 0 ∷ map neg_ℤ costs ++ replicate count (pos 0)) given
    ≡ neg_ℤ (pos 1 *ℤ dot costs (λ column. given (suc column)))
unfolding dot
first_objective costs count given =
    let later : ℕ → ℤ = λ column. given (suc column) in
    ap (λ (z : ℤ). pos 0 *ℤ given 0 +ℤ z)
    (dot-append (map neg_ℤ costs) (replicate count (pos 0)) later
    ∙ ap (λ (z : ℤ). z +ℤ dot (replicate count (pos 0)) (λ index. later (length (map neg_ℤ costs) + index)))
    (dot-neg_numbers costs later)
    ∙ ap (λ (z : ℤ). neg_ℤ (dot costs later) +ℤ z)
    (dot_zeros count (λ index. later (length (map neg_ℤ costs) + index))))
    ∙ objective_step (given 0) (dot costs later)

first_width : (costs : List ℤ) (count : ℕ) → length (map neg_ℤ costs ++ replicate count (pos 0)) ≡ length costs + count
first_width costs count = omega (
  arith,
  length-append (map neg_ℤ costs) (replicate count (pos 0)),
  length-map costs neg_ℤ,
  length-replicate count (pos 0),
)

module _ (program : Program) (well : IsWellFormed program) where
  placed_width : (p : ℕ × ProgramRow) → IsPlaced program.rows p → length p.1.entries ≡ length program.costs
  placed_width p is = ap (λ (row : ProgramRow). length row.entries) (sym is.1) ∙ well.widths p.0 p.1 is.0

  placed_entry : (p : ℕ × ProgramRow) → IsPlaced program.rows p → (other : ℕ)
      → entry (first_row (length program.costs) (length program.rows) p) (length program.costs + other)
      ≡ number_at (unit_numbers (length program.rows) p.0) other
  placed_entry p is other =
      ap (λ (n : ℕ). number_at (p.1.entries ++ unit_numbers (length program.rows) p.0) (n + other))
      (sym (placed_width p is))
      ∙ get_or-append-add p.1.entries (unit_numbers (length program.rows) p.0) other (pos 0)

  first_widths : (p : ℕ × ProgramRow) → IsPlaced program.rows p
      → length (first_row (length program.costs) (length program.rows) p).numbers
      ≡ suc (length program.costs + length program.rows)
  first_widths p is =
      ap suc (length-append p.1.entries (unit_numbers (length program.rows) p.0)
      ∙ ap (λ (n : ℕ). n + length (unit_numbers (length program.rows) p.0)) (placed_width p is)
      ∙ ap (λ (n : ℕ). length program.costs + n) (length-unit (length program.rows) p.0))

  for_all : (P : TableauRow → Type 0)
      → ((p : ℕ × ProgramRow) → IsPlaced program.rows p → P (first_row (length program.costs) (length program.rows) p))
      → All P (first_tableau program).rows
  unfolding first_tableau
  for_all P h =
      let f : ℕ × ProgramRow → TableauRow = first_row (length program.costs) (length program.rows) in
      All-map P f (enumerate_from 0 program.rows)
      (All-weaker (IsPlaced program.rows) (λ (p : ℕ × ProgramRow). P (f p)) h (enumerate_from 0 program.rows)
      (enumerated program.rows))

  first_apart : (row next : TableauRow) → Contains (first_tableau program).rows row
      → Contains (first_tableau program).rows next → row.basic ≢ next.basic → entry next row.basic ≡ pos 0
  first_apart row next inside later differs =
      let f : ℕ × ProgramRow → TableauRow = first_row (length program.costs) (length program.rows) in
      let one = first_row_of program row inside in
      let two = first_row_of program next later in
      let apart : one.0.0 ≢ two.0.0 = λ e. differs (ap (λ (r : TableauRow). r.basic) (sym one.2)
      ∙ ap (λ (n : ℕ). length program.costs + n) e ∙ ap (λ (r : TableauRow). r.basic) two.2) in
      ap (λ (r : TableauRow). entry r row.basic) (sym two.2)
      ∙ ap (λ (r : TableauRow). entry (f two.0) r.basic) (sym one.2)
      ∙ placed_entry two.0 two.1 one.0.0
      ∙ unit_elsewhere (length program.rows) two.0.0 one.0.0 apart

  first_basic_at : (index : ℕ) (row : TableauRow) → slice_get (first_tableau program).rows index ≡ Some row
      → row.basic ≡ length program.costs + (0 + index)
  unfolding first_tableau
  first_basic_at index row h = basic_from (length program.costs) (length program.rows) 0 program.rows index row h

  first_differ : (index other : ℕ) (row next : TableauRow) → slice_get (first_tableau program).rows index ≡ Some row
      → slice_get (first_tableau program).rows other ≡ Some next → row.basic ≡ next.basic → index ≡ other
  first_differ index other row next h k same =
      let one = first_basic_at index row h in
      let two = first_basic_at other next k in
      omega arith

  first_pivotal : (p : ℕ × ProgramRow) → IsPlaced program.rows p
      → pos 0 <ℤ entry (first_row (length program.costs) (length program.rows) p) (length program.costs + p.0)
  first_pivotal p is =
      let e = placed_entry p is p.0 ∙ unit_here (length program.rows) p.0 is.0 in
      positive_one _ e
    where
      positive_one : (z : ℤ) → z ≡ pos 1 → pos 0 <ℤ z
      positive_one z h = omega (arith, ints)

-- the first tableau is sound
pub first_is_sound : (program : Program) → IsWellFormed program → IsSound program (first_tableau program)
unfolding first_tableau
first_is_sound program well = record {
  count = length-first program;
  widths = for_all program well (λ row. length row.numbers ≡ suc (length program.costs + length program.rows))
      (first_widths program well);
  objective_width = ap (λ (n : ℕ). suc (suc n)) (first_width program.costs (length program.rows));
  basics_differ = first_differ program well;
  basics_low = for_all program well (λ row. row.basic < length program.costs + length program.rows)
      (λ p is. below (length program.costs) (length program.rows) p.0 is.0);
  pivotal = for_all program well (λ row. pos 0 <ℤ entry row row.basic) (first_pivotal program well);
  apart = first_apart program well;
  costs_apart = for_all program well (λ row. reduced_cost (first_tableau program) row.basic
      ≡ pos 0) (λ p is. first_costs program.costs (length program.rows) p.0);
  bounds = for_all program well (λ row. pos 0
      ≤ℤ bound row) (λ p is. subst (λ (row : ProgramRow). pos 0 ≤ℤ row.bound) is.1 (well.bounds p.0 p.1 is.0));
  scaled = one_positive;
  solved_first = λ given h. h;
  solved_here = λ given h. h;
  objective = λ given h. first_objective program.costs (length program.rows) given;
}
  where
    below : (columns rows index : ℕ) → index < rows → columns + index < columns + rows
    below columns rows index h = omega arith

    one_positive : pos 0 <ℤ pos 1
    one_positive = omega (arith, ints)
