-- The numbers of the first tableau, as they are written one behind another (`first_seen`).
use Rattle.std.proofs.Common.{◌≡◌, ℕ, zero, suc, ◌+◌, ◌*◌, ◌<◌, ◌≤◌, Bool, List, [], ◌∷◌, ◌++◌, length, map, take, drop}
use Rattle.std.proofs.Common.{replicate, refl, sym, ap, ap₂, ◌∙◌, cond, All, arith, append_assoc, append-nil}
use Rattle.std.proofs.Common.{length-append, true, false, lit<, get_or}
use Rattle.std.proofs.lemmas.Int.{ints}
use Rattle.std.specs.Prelude.{ℤ, pos, neg_ℤ, ◌==◌}
use Rattle.std.specs.List.{flat_map}
use Rattle.std.proofs.lemmas.Grind.{flat_map-append}
use Rattle.std.proofs.lemmas.List.{take_more, map-append, length-map, length-replicate}
use Rattle.std.proofs.lemmas.List.Elements.{All-nil, All-push, All-head, All-tail, All-map, All-weaker, All-replicate}
use Rattle.std.proofs.lemmas.List.FromFn.{map-range_with_len_more}
use Rattle.std.proofs.Math.Seq.{take-append_seam, drop-append_seam}
use Rattle.suit_num.specs.Narrow.{IsNarrow}
use Rattle.std.proofs.lemmas.List.{take_all}
use Rattle.suit_linear.specs.Points.{number_at}
use Rattle.suit_linear.specs.declared.program.Program.{Program}
use Rattle.suit_linear.specs.declared.program.ProgramRow.{ProgramRow}
use Rattle.suit_linear.specs.Tableaus.{TableauRow, unit_numbers, Tableau, first_row, first_tableau}
use Rattle.suit_simplex.specs.declared.dense.Dense.{Dense}
use Rattle.suit_linear.specs.Programs.{IsWellFormed}
use Rattle.suit_simplex.specs.Dense.{rows_seen, seen, IsKept}
use Rattle.suit_linear.proofs.FirstTableaus.{first_row_at, length-first, first_is_sound}

-- numbers with more of them behind, all narrow
pub record IsWritten (was now more : List ℤ) : Type 0 where
  pub items : now ≡ was ++ more
  pub narrow : All IsNarrow now

pub nothing_written : (was more : List ℤ) → more ≡ [] → All IsNarrow was → IsWritten was was more
nothing_written was more e narrow = record { items = rw e (sym (append-nil was)); narrow = narrow }

pub one_written : (was now more next : List ℤ) (number : ℤ) → IsWritten was now more → IsNarrow number
    → next ≡ more ++ number ∷ [] → IsWritten was (now ++ number ∷ []) next
one_written was now more next number before fits e = record {
  items = ap (λ (xs : List ℤ). xs ++ number ∷ []) before.items ∙ append_assoc was more (number ∷ [])
      ∙ ap (λ (xs : List ℤ). was ++ xs) (sym e);
  narrow = All-push IsNarrow now number before.narrow fits;
}

pub replicate_next : (n : ℕ) → replicate (n + 1) (pos 0) ≡ replicate n (pos 0) ++ pos 0 ∷ []
replicate_next zero = refl
replicate_next (suc n) =
    let e : suc n + 1 ≡ suc (n + 1) = omega arith in
    rw e (ap (λ (xs : List ℤ). pos 0 ∷ xs) (replicate_next n))

pub unit_next : (n index : ℕ)
    → unit_numbers (n + 1) index ≡ unit_numbers n index ++ cond (n == index) (pos 1) (pos 0) ∷ []
unfolding unit_numbers
unit_next n index = map-range_with_len_more (λ (other : ℕ). cond (other == index) (pos 1) (pos 0)) 0 n n (omega arith)

pub unit_none : (index : ℕ) → unit_numbers 0 index ≡ []
unfolding unit_numbers
unit_none index = refl

pub unit_narrow : (b : Bool) → IsNarrow (cond b (pos 1) (pos 0))
unit_narrow b = elim b as (λ (t : Bool). IsNarrow (cond t (pos 1) (pos 0))) [ true ↦ lit< tt | false ↦ lit< tt ]

pub negated_next : (costs : List ℤ) (index : ℕ) → index < length costs
    → map neg_ℤ (take (index + 1) costs) ≡ map neg_ℤ (take index costs) ++ neg_ℤ (number_at costs index) ∷ []
negated_next costs index less = ap (map neg_ℤ) (take_more costs index (pos 0) less)
    ∙ map-append neg_ℤ (take index costs) (number_at costs index ∷ [])

pub neg_narrow : (z : ℤ) → IsNarrow z → IsNarrow (neg_ℤ z)
neg_narrow z h = grind (arith, ints)

-- ---- the rows one after another

-- rows are seen again in their numbers, one row after another, whatever stands behind them
pub rows_seen_flat : (rows : List TableauRow) (width : ℕ) (rest : List ℤ) → All (λ row. length row.numbers ≡ width) rows
    → rows_seen width (map (λ row. row.basic) rows) (flat_map (λ row. row.numbers) rows ++ rest) ≡ rows
unfolding rows_seen
rows_seen_flat [] width rest widths = refl
rows_seen_flat (row ∷ rows) width rest widths =
    let len : length row.numbers ≡ width = All-head (λ (r : TableauRow). length r.numbers ≡ width) row rows widths in
    let tail : All (λ r. length r.numbers ≡ width) rows =
    All-tail (λ (r : TableauRow). length r.numbers ≡ width) row rows widths in
    let others : List ℤ = flat_map (λ (r : TableauRow). r.numbers) rows ++ rest in
    let split : flat_map (λ (r : TableauRow). r.numbers) (row ∷ rows) ++ rest ≡ row.numbers ++ others =
    append_assoc row.numbers (flat_map (λ (r : TableauRow). r.numbers) rows) rest in
    let front : take width (row.numbers ++ others) ≡ row.numbers = rw (← len) (take-append_seam row.numbers others) in
    let back : drop width (row.numbers ++ others) ≡ others = rw (← len) (drop-append_seam row.numbers others) in
    ap (λ (all : List ℤ). rows_seen width (row.basic ∷ map (λ (r : TableauRow). r.basic) rows) all) split
    ∙ ap₂ (λ (here there : List ℤ). let r : TableauRow = record { basic = row.basic; numbers = here } in
    r ∷ rows_seen width (map (λ (r : TableauRow). r.basic) rows) there) front back
    ∙ ap (λ (all : List TableauRow). row ∷ all) (rows_seen_flat rows width rest tail)

pub length_flat : (rows : List TableauRow) (width : ℕ) → All (λ row. length row.numbers ≡ width) rows
    → length (flat_map (λ row. row.numbers) rows) ≡ length rows * width
length_flat [] width widths = omega arith
length_flat (row ∷ rows) width widths =
    omega (
      arith,
      length-append row.numbers (flat_map (λ (r : TableauRow). r.numbers) rows),
      All-head (λ (r : TableauRow). length r.numbers ≡ width) row rows widths,
      length_flat rows width (All-tail (λ (r : TableauRow). length r.numbers ≡ width) row rows widths),
    )

pub behind_flat : (rows : List TableauRow) (width : ℕ) (rest : List ℤ) → All (λ row. length row.numbers ≡ width) rows
    → drop (length rows * width) (flat_map (λ row. row.numbers) rows ++ rest) ≡ rest
behind_flat rows width rest widths =
    rw (← length_flat rows width widths) (drop-append_seam (flat_map (λ (r : TableauRow). r.numbers) rows) rest)

-- ---- the first tableau

-- the first rows up to an index are written
pub record IsBegun (program : Program) (numbers : List ℤ) (basics : List ℕ) (index : ℕ) : Type 0 where
  pub numbers_are : numbers ≡ flat_map (λ row. row.numbers) (take index (first_tableau program).rows)
  pub basics_are : basics ≡ map (λ row. row.basic) (take index (first_tableau program).rows)
  pub narrow : All IsNarrow numbers

pub nothing_begun : (program : Program) (numbers : List ℤ) (basics : List ℕ) → numbers ≡ [] → basics ≡ []
    → IsBegun program numbers basics 0
nothing_begun program numbers basics e f = record {
  numbers_are = e;
  basics_are = f;
  narrow = rw e (All-nil IsNarrow);
}

one_more : (program : Program) (index : ℕ) (other : ProgramRow) → index < length program.rows
    → other ≡ get_or program.rows index other
    → take (index + 1) (first_tableau program).rows ≡ take index (first_tableau program).rows
    ++ first_row (length program.costs) (length program.rows) (index, other) ∷ []
one_more program index other less e =
    let d : TableauRow = first_row (length program.costs) (length program.rows) (index, other) in
    take_more (first_tableau program).rows index d (omega (arith, length-first program))
    ∙ ap (λ (row : TableauRow). take index (first_tableau program).rows ++ row
    ∷ []) (first_row_at program index other less
    ∙ ap (λ (r : ProgramRow). first_row (length program.costs) (length program.rows) (index, r)) (sym e))

pub one_begun : (program : Program) (numbers : List ℤ) (basics : List ℕ) (index : ℕ) (other : ProgramRow)
    (next : List ℤ) (nexts : List ℕ) → index < length program.rows → other ≡ get_or program.rows index other
    → IsBegun program numbers basics index
    → next ≡ numbers ++ (first_row 0 (length program.rows) (index, other)).numbers → All IsNarrow next
    → nexts ≡ basics ++ (length program.costs + index) ∷ [] → IsBegun program next nexts (index + 1)
one_begun program numbers basics index other next nexts less is before e narrow f =
    let more = one_more program index other less is in
    let row : TableauRow = first_row (length program.costs) (length program.rows) (index, other) in
    record {
      numbers_are =
          e
          ∙ ap (λ (xs : List ℤ). xs ++ row.numbers) before.numbers_are
          ∙ ap (λ (xs : List ℤ). flat_map (λ (r : TableauRow). r.numbers) (take index (first_tableau program).rows)
          ++ xs) (sym (append-nil row.numbers))
          ∙ sym (flat_map-append (λ (r : TableauRow). r.numbers) (take index (first_tableau program).rows) (row ∷ []))
          ∙ ap (flat_map (λ (r : TableauRow). r.numbers)) (sym more);
      basics_are =
          f
          ∙ ap (λ (xs : List ℕ). xs ++ (length program.costs + index) ∷ []) before.basics_are
          ∙ sym (map-append (λ (r : TableauRow). r.basic) (take index (first_tableau program).rows) (row ∷ []))
          ∙ ap (map (λ (r : TableauRow). r.basic)) (sym more);
      narrow = narrow;
    }

-- all numbers are written
pub record IsFirst (program : Program) (dense : Dense) : Type 0 where
  pub width : dense.width ≡ suc (length program.costs + length program.rows)
  pub basics : dense.basics.items ≡ map (λ row. row.basic) (first_tableau program).rows
  pub numbers : dense.numbers.items ≡ flat_map (λ row. row.numbers) (first_tableau program).rows
      ++ (first_tableau program).objective
  pub narrow : All IsNarrow dense.numbers.items
  pub leaver : dense.leaver.items ≡ replicate (suc dense.width) (pos 0)

pub last_begun : (program : Program) (dense : Dense) (numbers : List ℤ) (basics : List ℕ) (index : ℕ)
    → length program.rows ≤ index → IsBegun program numbers basics index
    → dense.width ≡ suc (length program.costs + length program.rows) → dense.basics.items ≡ basics
    → dense.numbers.items ≡ numbers ++ pos 1 ∷ pos 0 ∷ map neg_ℤ program.costs
    ++ replicate (length program.rows) (pos 0) → All IsNarrow dense.numbers.items
    → dense.leaver.items ≡ replicate (suc dense.width) (pos 0) → IsFirst program dense
unfolding first_tableau
last_begun program dense numbers basics index past before width b n narrow l =
    let all = take_all index (first_tableau program).rows (omega (arith, length-first program)) in
    record {
      width = width;
      basics = b ∙ before.basics_are ∙ ap (map (λ (r : TableauRow). r.basic)) all;
      numbers = n ∙ append_assoc numbers (pos 1 ∷ pos 0
          ∷ map neg_ℤ program.costs) (replicate (length program.rows) (pos 0))
          ∙ ap (λ (xs : List ℤ). xs ++ (first_tableau program).objective) (before.numbers_are
          ∙ ap (flat_map (λ (r : TableauRow). r.numbers)) all);
      narrow = narrow;
      leaver = l;
    }

row_widths : (program : Program) (dense : Dense) → IsWellFormed program → IsFirst program dense
    → All (λ row. length row.numbers ≡ dense.width) (first_tableau program).rows
row_widths program dense formed first = rw first.width (first_is_sound program formed).widths

pub first_seen : (program : Program) (dense : Dense) → IsWellFormed program → IsFirst program dense
    → seen dense ≡ first_tableau program
unfolding seen
first_seen program dense formed first =
    let widths = row_widths program dense formed first in
    let count : length dense.basics.items ≡ length (first_tableau program).rows = ap length first.basics
    ∙ length-map (first_tableau program).rows (λ (r : TableauRow). r.basic) in
    ap₂ (λ (rows : List TableauRow) (objective : List ℤ).
    let t : Tableau = record { rows = rows; objective = objective } in t)
    (ap₂ (rows_seen dense.width) first.basics first.numbers
    ∙ rows_seen_flat (first_tableau program).rows dense.width (first_tableau program).objective widths)
    (ap₂ (λ (n : ℕ) (xs : List ℤ). drop (n * dense.width) xs) count first.numbers
    ∙ behind_flat (first_tableau program).rows dense.width (first_tableau program).objective widths)

pub first_kept : (program : Program) (dense : Dense) → IsWellFormed program → IsFirst program dense → IsKept dense
first_kept program dense formed first =
    let sound = first_is_sound program formed in
    let widths = row_widths program dense formed first in
    let count : length dense.basics.items ≡ length (first_tableau program).rows = ap length first.basics
    ∙ length-map (first_tableau program).rows (λ (r : TableauRow). r.basic) in
    let low : All (λ row. suc row.basic < dense.width) (first_tableau program).rows =
    rw first.width (All-weaker (λ (r : TableauRow). r.basic < length program.costs + length program.rows)
    (λ (r : TableauRow). suc r.basic < suc (length program.costs + length program.rows)) (λ r h. omega arith)
    (first_tableau program).rows sound.basics_low) in
    record {
      size =
          ap length first.numbers
          ∙ length-append (flat_map (λ (r : TableauRow). r.numbers) (first_tableau program).rows)
          (first_tableau program).objective
          ∙ ap₂ (λ (m n : ℕ). m + n) (length_flat (first_tableau program).rows dense.width widths
          ∙ ap (λ (n : ℕ). n * dense.width) (sym count)) (sound.objective_width ∙ ap suc (sym first.width));
      some = omega (arith, first.width);
      basics = rw first.basics (All-map (λ (basic : ℕ). suc basic
          < dense.width) (λ (r : TableauRow). r.basic) (first_tableau program).rows low);
      narrow = first.narrow;
      narrow_leaver = rw first.leaver (All-replicate IsNarrow (suc dense.width) (pos 0) (lit< tt));
      room = ap length first.leaver ∙ length-replicate (suc dense.width) (pos 0);
      ahead = ap (λ (xs : List ℤ). number_at xs 0) first.leaver;
    }
