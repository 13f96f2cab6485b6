-- What is kept at the start of a run, and what its end tells (`first_state`).
use Rattle.std.proofs.Common.{◌≡◌, inl, inr, ℕ, zero, suc, ◌+◌, ◌<◌, ◌≤◌, ◌^◌, List, [], ◌∷◌, ◌++◌, length, take, map}
use Rattle.std.proofs.Common.{All}
use Rattle.std.proofs.Common.{Vec, Global, replicate, get_or, Option, Some, None, is_some, refl, sym, ap, ◌∙◌, subst}
use Rattle.std.proofs.Common.{arith, Bool, true, false, cond}
use Rattle.std.specs.Prelude.{ℤ, pos, neg_ℤ, ◌+ℤ◌, ◌==◌, max, unsigned_abs, slice_get, Result, Ok, Err, IfOk, IfSome}
use Rattle.std.specs.Prelude.{position, int_lt, drop}
use Rattle.std.proofs.lemmas.Int.{ints}
use Rattle.std.proofs.lemmas.Bool.{cases_eq, cond-true, cond-false, eq-eqb, ne_eqb}
use Rattle.std.proofs.lemmas.List.{get_or_past, length-append, append_assoc, append-nil, map_more, replicate_more}
use Rattle.std.proofs.lemmas.List.{take_all}
use Rattle.std.proofs.lemmas.List.Elements.{All-nil, All-cons, All-append}
use Rattle.std.proofs.lemmas.Option.{get_or_from_slice_get}
use Rattle.suit_linear.specs.declared.limits.TheConstants.{MOST_SMALL}
use Rattle.suit_linear.specs.declared.program.Program.{Program}
use Rattle.suit_linear.specs.declared.program.ProgramRow.{ProgramRow}
use Rattle.suit_linear.specs.declared.sparse.Entry.{Entry}
use Rattle.suit_linear.specs.Sparse.{part_of, sum_in}
use Rattle.suit_linear.proofs.SparseSums.{sum_in_more}
use Rattle.suit_linear.specs.declared.ends.Optimum.{Optimum}
use Rattle.suit_linear.specs.declared.ends.SimplexEnd.{SimplexEnd}
use Rattle.suit_linear.specs.Points.{number_at}
use Rattle.suit_linear.specs.Programs.{IsWellFormed}
use Rattle.suit_linear.specs.Multiples.{AreMultiples, IsSmall}
use Rattle.suit_linear.specs.Tableaus.{Tableau, first_row, first_tableau}
use Rattle.suit_linear.specs.Pivots.{entering}
use Rattle.suit_linear.specs.Runs.{To, next, AtOptimum, RunEnd}
use Rattle.suit_linear.specs.Ends.{Tells}
use Rattle.suit_linear.proofs.FirstTableaus.{first_is_sound, length-first}
use Rattle.suit_linear.proofs.RunSteps.{IsRunning, first_running, next_running}
use Rattle.suit_linear_fast.specs.declared.lines.Line.{Line}
use Rattle.suit_linear_fast.specs.Lines.{IsLineOf, unit}
use Rattle.suit_linear_fast.specs.States.{AreLinesOf, IsStateOf, AreFirstLines, IsFirstLine}
use Rattle.suit_linear_fast.proofs.PrimitiveRows.{first_primitive}
use Rattle.suit_linear_fast.proofs.Advancing.{enters}
use Rattle.std.specs.Vec.{with_items}
use Rattle.std.proofs.lemmas.List.{with_items_is}
use Rattle.suit_linear_fast.proofs.SparsePrograms.{split_row, first_at, wide}
use Rattle.suit_lists.proofs.Indices.{pushed_each}

-- ---- the first lines

same_multiple : (x : ℕ → ℤ) → AreMultiples x x
same_multiple x = record {
  left = pos 1;
  right = pos 1;
  left_positive = omega (arith, ints);
  right_positive = omega (arith, ints);
  numbers = λ index. refl;
}

module _ (program : Program) (well : IsWellFormed program) (index : ℕ) (row : ProgramRow) (line : Line)
    (less : index < length program.rows) (width : length row.entries ≡ length program.costs)
    (is : IsFirstLine (length program.costs) index row line) where
  numbers : List ℤ
  numbers = (first_row (length program.costs) (length program.rows) (index, row)).numbers

  split : (place : ℕ) → number_at (first_row (length program.costs) (length program.rows) (index, row)).numbers place
      ≡ number_at (row.bound ∷ row.entries) place +ℤ unit (suc (length program.costs + index)) place
  split place = split_row (length program.costs) (length program.rows) index row place width less

  slack_one : number_at (first_row (length program.costs) (length program.rows) (index, row)).numbers
      (suc (length program.costs + index)) ≡ pos 1
  slack_one =
      split (suc (length program.costs + index))
      ∙ ap (λ (z : ℤ). z +ℤ unit (suc (length program.costs + index)) (suc (length program.costs + index)))
      (get_or_past (row.bound ∷ row.entries) (suc (length program.costs + index)) (pos 0) (omega arith))
      ∙ ap (λ (z : ℤ). pos 0 +ℤ z) (cond-true (suc (length program.costs + index) == suc (length program.costs + index))
      (pos 1) (pos 0) (eq-eqb (suc (length program.costs + index)) (suc (length program.costs + index)) refl))

  within : (place : ℕ) → unsigned_abs (number_at (row.bound ∷ row.entries) place) ≤ line.size
  within zero = is.bounds
  within (suc column) = is.entries column

  size_at : (place : ℕ)
      → unsigned_abs (number_at (first_row (length program.costs) (length program.rows) (index, row)).numbers place)
      ≤ line.size
  size_at place =
      elim (cases_eq place (suc (length program.costs + index))) [
        | inl here ↦
            subst (λ (n : ℕ). unsigned_abs (number_at
            (first_row (length program.costs) (length program.rows) (index, row)).numbers n) ≤ line.size) (sym here)
            (subst (λ (z : ℤ). unsigned_abs z ≤ line.size) (sym slack_one) is.some)
        | inr elsewhere ↦
            subst (λ (z : ℤ). unsigned_abs z ≤ line.size)
            (sym (split place
            ∙ ap (λ (z : ℤ). number_at (row.bound ∷ row.entries) place +ℤ z)
            (cond-false (place == suc (length program.costs + index)) (pos 1) (pos 0)
            (ne_eqb place (suc (length program.costs + index)) elsewhere))
            ∙ none (number_at (row.bound ∷ row.entries) place))) (within place)
      ]
    where
      none : (a : ℤ) → a +ℤ pos 0 ≡ a
      none a = omega (arith, ints)

  first_line_is : IsLineOf line (first_row (length program.costs) (length program.rows) (index, row))
  first_line_is = record {
    basic = is.basic;
    multiple = (first_row (length program.costs) (length program.rows) (index, row)).numbers;
    width = refl;
    numbers = same_multiple (number_at (first_row (length program.costs) (length program.rows) (index, row)).numbers);
    own = slack_one ∙ sym is.own;
    bound = sym is.bound;
    sizes = size_at;
    small = is.small;
  }

first_told : (program : Program) (lines : List Line) → IsWellFormed program → AreFirstLines program lines
    → AreLinesOf lines (first_tableau program)
first_told program lines well first = record {
  count = first.count ∙ sym (length-first program);
  each = λ index line row at here.
      let from = first_at program index row here in
      subst (IsLineOf line) (sym from.3)
      (first_line_is program well index from.0 line from.2 (wide program index from.0 well from.1)
      (first.each index line at from.0 from.1));
}

pub first_state : (program : Program) (lines : List Line) (objective : List ℤ) → IsWellFormed program
    → AreFirstLines program lines
    → objective ≡ pos 1 ∷ pos 0 ∷ map neg_ℤ program.costs ++ replicate (length program.rows) (pos 0)
    → All IsSmall objective → IsStateOf program lines objective (first_tableau program)
unfolding first_tableau
first_state program lines objective well first is small = record {
  sound = first_is_sound program well;
  primitive = first_primitive program;
  told = first_told program lines well first;
  width = ap length is;
  numbers = subst (λ (xs : List ℤ). AreMultiples (number_at xs) (number_at (first_tableau program).objective)) (sym is)
      (same_multiple (number_at (first_tableau program).objective));
  small = small;
}

-- ---- the loops

-- a size that no column's sum of so many entries is above
pub record IsSizeBelow (entries : List Entry) (count size : ℕ) : Type 0 where
  pub below : (column : ℕ) → unsigned_abs (sum_in (take count entries) column) ≤ size
  pub some : 1 ≤ size
  pub small : size ≤ MOST_SMALL

pub no_size : (entries : List Entry) → IsSizeBelow entries 0 1
unfolding sum_in
no_size entries = record { below = λ column. omega (arith, ints); some = omega arith; small = omega arith }

part_size : (entry : Entry) (column : ℕ) → unsigned_abs (part_of entry column) ≤ unsigned_abs entry.number
part_size entry column = by_test (column == entry.column)
  where
    by_test : (b : Bool) → unsigned_abs (cond b entry.number (pos 0)) ≤ unsigned_abs entry.number
    by_test true = omega arith
    by_test false = omega (arith, ints)

pub more_size : (entries : List Entry) (count size : ℕ) (other : Entry) (sum : ℕ) → count < length entries
    → IsSizeBelow entries count size → sum ≡ size + unsigned_abs (get_or entries count other).number → sum ≤ MOST_SMALL
    → IsSizeBelow entries (count + 1) sum
more_size entries count size other sum less h e small = record {
  below = λ column. rw (sum_in_more entries count other column less)
      (both (part_of (get_or entries count other) column) (sum_in (take count entries) column) size
      (unsigned_abs (get_or entries count other).number) sum (part_size (get_or entries count other) column)
      (h.below column) e);
  some = let low = h.some in omega arith;
  small = small;
}
  where
    both : (p s : ℤ) (size number sum : ℕ) → unsigned_abs p ≤ number → unsigned_abs s ≤ size → sum ≡ size + number
        → unsigned_abs (p +ℤ s) ≤ sum
    both p s size number sum h k e = omega (arith, ints)

pub all_size : (entries : List Entry) (count size : ℕ) → length entries ≤ count → IsSizeBelow entries count size
    → (column : ℕ) → unsigned_abs (sum_in entries column) ≤ size
all_size entries count size past h column =
    subst (λ (xs : List Entry). unsigned_abs (sum_in xs column) ≤ size) (take_all count entries past) (h.below column)

pub first_line_made : (columns index : ℕ) (row : ProgramRow) (line : Line) (size : ℕ) (bound : ℤ)
    → line.basic ≡ columns + index → line.own ≡ pos 1 → line.bound ≡ bound → line.size ≡ max size (unsigned_abs bound)
    → bound ≡ row.bound → IsSmall bound → ((column : ℕ) → unsigned_abs (number_at row.entries column) ≤ size)
    → 1 ≤ size → size ≤ MOST_SMALL → IsFirstLine columns index row line
first_line_made columns index row line size bound basic own at sizes is small entries some low = record {
  basic = basic;
  own = own;
  bound = at ∙ is;
  bounds = over (unsigned_abs row.bound) (unsigned_abs bound) size line.size (ap unsigned_abs (sym is)) sizes;
  entries = λ column. wider (unsigned_abs (number_at row.entries column)) size (unsigned_abs bound) line.size
      (entries column) sizes;
  some = wider 1 size (unsigned_abs bound) line.size some sizes;
  small = both size (unsigned_abs bound) line.size low small sizes;
}
  where
    over : (a b c d : ℕ) → a ≡ b → d ≡ max c b → a ≤ d
    over a b c d e k = omega arith

    wider : (a b c d : ℕ) → a ≤ b → d ≡ max b c → a ≤ d
    wider a b c d l k = omega arith

    both : (a b d : ℕ) → a ≤ MOST_SMALL → b ≤ MOST_SMALL → d ≡ max a b → d ≤ MOST_SMALL
    both a b d h k e = omega arith

pub record AreFirstBelow (program : Program) (count : ℕ) (lines : List Line) : Type 0 where
  pub same : length lines ≡ count
  pub each : (index : ℕ) (line : Line) → slice_get lines index ≡ Some line → (row : ProgramRow)
      → slice_get program.rows index ≡ Some row → IsFirstLine (length program.costs) index row line

pub no_lines : (program : Program) → AreFirstBelow program 0 []
no_lines program = record { same = refl; each = λ index line at. absurd (cc) }

pub more_lines : (program : Program) (count : ℕ) (lines : List Line) (line : Line) (row : ProgramRow)
    → AreFirstBelow program count lines → row ≡ get_or program.rows count row
    → IsFirstLine (length program.costs) count row line → AreFirstBelow program (count + 1) (lines ++ line ∷ [])
more_lines program count lines line row h read is = record {
  same = length-append lines (line ∷ []) ∙ ap (λ (n : ℕ). n + 1) h.same;
  each = pushed_each
      (λ n (l : Line). (other : ProgramRow) → slice_get program.rows n ≡ Some other
      → IsFirstLine (length program.costs) n other l) lines line h.each
      (subst (λ (n : ℕ). (other : ProgramRow) → slice_get program.rows n ≡ Some other
      → IsFirstLine (length program.costs) n other line) (sym h.same)
      (λ other at. subst (λ (r : ProgramRow). IsFirstLine (length program.costs) count r line)
      (read ∙ get_or_from_slice_get program.rows count other row at) is));
}

pub all_lines : (program : Program) (count : ℕ) (lines : List Line) → length program.rows ≤ count
    → count ≤ length program.rows → AreFirstBelow program count lines → AreFirstLines program lines
all_lines program count lines past low h =
    record { count = h.same ∙ same count (length program.rows) past low; each = h.each }
  where
    same : (a b : ℕ) → b ≤ a → a ≤ b → a ≡ b
    same a b h k = omega arith

pub record IsObjectiveOf (wanted now : List ℤ) : Type 0 where
  pub is : now ≡ wanted
  pub small : All IsSmall now

pub first_two : (now : List ℤ) → now ≡ pos 1 ∷ pos 0 ∷ [] → IsObjectiveOf (pos 1 ∷ pos 0 ∷ []) now
first_two now e = record {
  is = e;
  small = subst (All IsSmall) (sym e)
      (All-cons IsSmall (pos 1) (pos 0
      ∷ []) (omega arith) (All-cons IsSmall (pos 0) [] (omega arith) (All-nil IsSmall)));
}

pushed_small : (xs : List ℤ) (y : ℤ) → All IsSmall xs → IsSmall y → All IsSmall (xs ++ y ∷ [])
pushed_small xs y h k = All-append IsSmall xs (y ∷ []) h (All-cons IsSmall y [] k (All-nil IsSmall))

pub cost_more : (costs now : List ℤ) (count : ℕ) (number : ℤ) → count < length costs
    → IsObjectiveOf (pos 1 ∷ pos 0 ∷ map neg_ℤ (take count costs)) now → number ≡ number_at costs count → IsSmall number
    → IsObjectiveOf (pos 1 ∷ pos 0 ∷ map neg_ℤ (take (count + 1) costs)) (now ++ neg_ℤ number ∷ [])
cost_more costs now count number less h e small = record {
  is =
      ap (λ (xs : List ℤ). xs ++ neg_ℤ number ∷ []) h.is
      ∙ ap (λ (xs : List ℤ). pos 1 ∷ pos 0 ∷ xs)
      (ap (λ (z : ℤ). map neg_ℤ (take count costs) ++ neg_ℤ z ∷ []) e ∙ sym (map_more neg_ℤ costs count (pos 0) less));
  small = pushed_small now (neg_ℤ number) h.small (turned number small);
}
  where
    turned : (z : ℤ) → IsSmall z → IsSmall (neg_ℤ z)
    turned z h = omega (arith, ints)

pub costs_done : (costs now : List ℤ) (count : ℕ) → length costs ≤ count
    → IsObjectiveOf (pos 1 ∷ pos 0 ∷ map neg_ℤ (take count costs)) now
    → IsObjectiveOf (pos 1 ∷ pos 0 ∷ map neg_ℤ costs ++ replicate 0 (pos 0)) now
costs_done costs now count past h = record {
  is = h.is ∙ ap (λ (xs : List ℤ). pos 1 ∷ pos 0 ∷ map neg_ℤ xs) (take_all count costs past)
      ∙ ap (λ (xs : List ℤ). pos 1 ∷ pos 0 ∷ xs) (sym (append-nil (map neg_ℤ costs)));
  small = h.small;
}

pub zero_more : (costs now : List ℤ) (count : ℕ)
    → IsObjectiveOf (pos 1 ∷ pos 0 ∷ map neg_ℤ costs ++ replicate count (pos 0)) now
    → IsObjectiveOf (pos 1 ∷ pos 0 ∷ map neg_ℤ costs ++ replicate (count + 1) (pos 0)) (now ++ pos 0 ∷ [])
zero_more costs now count h = record {
  is =
      ap (λ (xs : List ℤ). xs ++ pos 0 ∷ []) h.is
      ∙ ap (λ (xs : List ℤ). pos 1 ∷ pos 0 ∷ xs)
      (append_assoc (map neg_ℤ costs) (replicate count (pos 0)) (pos 0 ∷ [])
      ∙ ap (λ (xs : List ℤ). map neg_ℤ costs ++ xs) (replicate_more count (pos 0)));
  small = pushed_small now (pos 0) h.small (omega arith);
}

-- ---- the run

pub record IsRun (program : Program) (budget made : ℕ) (lines : List Line) (objective : List ℤ) : Type 0 where
  pub tableau : Tableau
  pub running : IsRunning program budget tableau made
  pub state : IsStateOf program lines objective tableau

pub first_run : (program : Program) (budget : ℕ) (lines : List Line) (objective : List ℤ) → IsWellFormed program
    → IsStateOf program lines objective (first_tableau program) → IsRun program budget 0 lines objective
first_run program budget lines objective well state = record {
  tableau = first_tableau program;
  running = first_running program budget (first_is_sound program well);
  state = state;
}

pub next_run : (program : Program) (budget made : ℕ) (lines : List Line) (objective : List ℤ) (nexts : List Line)
    (next_objective : List ℤ) → made < budget → (run : IsRun program budget made lines objective)
    → (later : Tableau) × (next run.tableau ≡ To later) × IsStateOf program nexts next_objective later
    → IsRun program budget (made + 1) nexts next_objective
next_run program budget made lines objective nexts next_objective less run step = record {
  tableau = step.0;
  running = next_running program budget run.tableau step.0 made less run.running step.1;
  state = step.2;
}

by_end : (program : Program) (a b : RunEnd) (end : Result Optimum SimplexEnd) → b ≡ a → Tells program a end
    → Tells program b end
by_end program a b end e is = subst (λ (r : RunEnd). Tells program r end) (sym e) is

pub read_tells : {E : Type 0} (program : Program) (lines : List Line) (objective : List ℤ) (tableau : Tableau)
    (whole : RunEnd)
    (answer : Result (Option (Result Optimum SimplexEnd)) E) → IsStateOf program lines objective tableau
    → whole ≡ AtOptimum tableau
    → IfOk answer (λ found. IfSome found (λ end. (t : Tableau) → IsStateOf program lines objective t
    → Tells program (AtOptimum t) end))
    → IfOk answer (λ found. IfSome found (Tells program whole))
read_tells program lines objective tableau whole (Ok None) state e h = tt
read_tells program lines objective tableau whole (Ok (Some end)) state e h =
    by_end program (AtOptimum tableau) whole end e (h tableau state)
read_tells program lines objective tableau whole (Err x) state e h = tt

pub enters_test : (program : Program) (lines : List Line) (objective seen : List ℤ) (tableau : Tableau)
    (found : Option ℕ)
    → IsStateOf program lines objective tableau → seen ≡ objective
    → found ≡ position (λ cost. int_lt cost (pos 0)) (drop 2 seen) → is_some (entering tableau) ≡ is_some found
enters_test program lines objective seen tableau found state same e =
    ap (λ (o : Option ℕ). is_some o)
    (sym (e ∙ ap (λ (xs : List ℤ). position (λ cost. int_lt cost (pos 0)) (drop 2 xs)) same
    ∙ enters program lines objective tableau state))

-- what is written back
pub written : {X : Type 0} (before : Vec X Global) (items seen : List X) → length items ≡ length seen
    → length seen ≡ before.len → (with_items before items).items ≡ items
written before items seen h k = with_items_is before items (h ∙ k)
