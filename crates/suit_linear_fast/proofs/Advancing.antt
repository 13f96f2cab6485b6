-- A pivot whose guesses pass the tests is the tableau's (`advanced`).
use Rattle.std.proofs.Common.{◌≡◌, ◌≢◌, inl, inr, ℕ, zero, suc, ◌+◌, ◌*◌, ◌<◌, ◌≤◌, List, [], ◌∷◌, length, drop, get_or}
use Rattle.std.proofs.Common.{Some, None, refl, sym, ap, ◌∙◌}
use Rattle.std.proofs.Common.{arith}
use Rattle.std.specs.Prelude.{ℤ, pos, ◌*ℤ◌, ◌-ℤ◌, unsigned_abs, set, int_lt, fold, slice_get, position}
use Rattle.std.proofs.lemmas.Option.{slice_get_cases, slice_get_within, slice_get-get_or}
use Rattle.std.proofs.lemmas.Int.{ints}
use Rattle.std.proofs.lemmas.Bool.{cases_eq}
use Rattle.std.proofs.lemmas.List.{length-set}
use Rattle.suit_linear.specs.declared.program.Program.{Program}
use Rattle.suit_linear.specs.Points.{number_at}
use Rattle.suit_linear.specs.Tableaus.{TableauRow, Tableau}
use Rattle.suit_linear.specs.Pivots.{entering, leaving, kept, pivoted}
use Rattle.suit_linear.proofs.SmallTableaus.{next_small}
use Rattle.suit_linear_fast.specs.declared.lines.Line.{Line}
use Rattle.suit_linear_fast.specs.declared.pivot.Progress.TheVariants as progresses
use Rattle.suit_linear_fast.specs.Lines.{IsLineOf, IsColumn, IsChangedLine, AreShown, chosen}
use Rattle.suit_linear_fast.specs.States.{IsStateOf, AreSolved, IsApart, IsTop, AreChanged, ChangesObjective, Advances}
use Rattle.suit_linear_fast.proofs.ColumnClaims.{column_shown}
use Rattle.suit_linear_fast.proofs.States.{state_small, entering_same, next_state, state_shrunk}

shown_lines : (program : Program) (lines : List Line) (objective : List ℤ) (tableau : Tableau) (column : ℕ)
    (entries : List ℤ) → IsStateOf program lines objective tableau → IsColumn program lines column entries
    → AreShown column lines entries tableau.rows
shown_lines program lines objective tableau column entries is shows = record {
  count = is.told.count;
  each = λ index line row at here.
      let line_is : IsLineOf line row = is.told.each index line row at here in
      record {
        basic = line_is.basic;
        left = line_is.numbers.left;
        right = line_is.numbers.right;
        left_positive = line_is.numbers.left_positive;
        right_positive = line_is.numbers.right_positive;
        bounds = ap (λ (z : ℤ). line_is.numbers.left *ℤ z) (sym line_is.bound) ∙ line_is.numbers.numbers 0;
        entries = column_shown program tableau is.sound lines is.told column entries shows index line row at here;
      };
}

pub enters : (program : Program) (lines : List Line) (objective : List ℤ) (tableau : Tableau)
    → IsStateOf program lines objective tableau
    → position (λ cost. int_lt cost (pos 0)) (drop 2 objective) ≡ entering tableau
enters program lines objective tableau is = entering_same objective tableau is.width is.numbers

-- no column enters
pub ended : (program : Program) (lines : List Line) (objective : List ℤ) (tableau : Tableau)
    → IsStateOf program lines objective tableau
    → None ≡ position (λ cost. int_lt cost (pos 0)) (drop 2 objective)
    → Advances program tableau progresses.Last lines objective
ended program lines objective tableau is none = (
  sym (none ∙ enters program lines objective tableau is),
  is,
)

pub advanced :
    (program : Program) (lines : List Line) (objective : List ℤ) (tableau : Tableau) (column : ℕ) (entries : List ℤ)
    (place : ℕ) (numbers : List ℤ) (top : Line) (nexts : List Line) (next_objective : List ℤ)
    → IsStateOf program lines objective tableau
    → Some column ≡ position (λ cost. int_lt cost (pos 0)) (drop 2 objective) → IsColumn program lines column entries
    → place < length lines
    → ((c : ℕ) (rows : List TableauRow) → AreShown c lines entries rows
    → chosen rows (Some place) ≡ fold (kept c) None rows)
    → AreSolved program numbers → length objective ≡ suc (length numbers) → IsApart lines place numbers
    → IsTop column numbers top → AreChanged lines entries place top nexts
    → ChangesObjective objective numbers column top.own next_objective
    → Advances program tableau progresses.Pivoted nexts next_objective
advanced program lines objective tableau column entries place numbers top nexts next_objective is found shows low leaves
    solved width apart top_is change changes =
    let enter : entering tableau ≡ Some column =
    sym (enters program lines objective tableau is) ∙ sym found in
    let chooses : slice_get tableau.rows place ≡ leaving tableau column =
    leaves column tableau.rows (shown_lines program lines objective tableau column entries is shows) in
    elim (slice_get_cases tableau.rows place).1 [
      | inl (row, inside, at, read) ↦
          let leave : leaving tableau column ≡ Some row = sym chooses ∙ at in
          let wide : length numbers ≡ suc (length program.costs + length program.rows) =
          omega (arith, is.width, is.sound.objective_width) in (
            pivoted tableau column row,
            next_small tableau column row (state_small program lines objective tableau is) enter leave,
            state_shrunk program nexts changes.0 next_objective (pivoted tableau column row) changes.2
                (next_state program lines objective tableau is column enter row leave place at entries shows numbers
                solved wide apart top top_is nexts change changes.0 changes.1),
          )
      | inr (past, none) ↦ let same = is.told.count in absurd (omega arith)
    ]

-- ---- the lines, one by one

pub record AreChangedBelow (lines : List Line) (entries : List ℤ) (leaving : ℕ) (top : Line) (count : ℕ)
    (now : List Line) : Type 0 where
  pub same : length now ≡ length lines
  pub leaver : leaving < count → slice_get now leaving ≡ Some top
  pub others : (index : ℕ) (line next : Line) → index < count → index ≢ leaving → slice_get lines index ≡ Some line
      → slice_get now index ≡ Some next → IsChangedLine line (number_at entries index) top.own top next
  pub behind : (index : ℕ) → count ≤ index → slice_get now index ≡ slice_get lines index

pub none_changed : (lines : List Line) (entries : List ℤ) (leaving : ℕ) (top : Line)
    → AreChangedBelow lines entries leaving top 0 lines
none_changed lines entries leaving top = record {
  same = refl;
  leaver = λ less. absurd (omega arith);
  others = λ index line next less differs at found. absurd (omega arith);
  behind = λ index past. refl;
}

set_same : (lines : List Line) (index : ℕ) (line : Line) → index < length lines
    → slice_get (set lines index line) index ≡ Some line
set_same [] index line less = absurd (omega arith)
set_same (first ∷ lines) zero line less = refl
set_same (first ∷ lines) (suc index) line less = set_same lines index line (omega arith)

set_other : (lines : List Line) (index other : ℕ) (line : Line) → other ≢ index
    → slice_get (set lines index line) other ≡ slice_get lines other
set_other [] index other line differs = refl
set_other (first ∷ lines) zero zero line differs = absurd (differs refl)
set_other (first ∷ lines) zero (suc other) line differs = refl
set_other (first ∷ lines) (suc index) zero line differs = refl
set_other (first ∷ lines) (suc index) (suc other) line differs =
    set_other lines index other line (λ e. differs (ap suc e))

-- where the entry is 0, a line stays, by the factors 1 and 0
pub idle_line : (line top : Line) → IsChangedLine line (pos 0) top.own top line
idle_line line top = record {
  own = pos 1;
  times = pos 0;
  positive = omega (arith, ints);
  balance = zeros top.own;
  basic = refl;
  owns = one line.own;
  bounds = stays line.bound top.bound;
  sizes = low line.size top.size;
  small = λ small. small;
}
  where
    zeros : (a : ℤ) → pos 1 *ℤ pos 0 ≡ pos 0 *ℤ a
    zeros a = omega (arith, ints)

    one : (a : ℤ) → a ≡ pos 1 *ℤ a
    one a = omega (arith, ints)

    stays : (a b : ℤ) → a ≡ pos 1 *ℤ a -ℤ pos 0 *ℤ b
    stays a b = omega (arith, ints)

    low : (a b : ℕ) → unsigned_abs (pos 1) * a + unsigned_abs (pos 0) * b ≤ a
    low a b = omega (arith, ints)

some_line : (x y : Line) → Some x ≡ Some y → x ≡ y
some_line x y e = cc

module _ (lines : List Line) (entries : List ℤ) (leaving : ℕ) (top : Line) (count : ℕ) (now : List Line)
    (h : AreChangedBelow lines entries leaving top count now) (less : count < length lines) where
  inside : count < length now
  inside = let same = h.same in omega arith

  pub leaver_set : count ≡ leaving → AreChangedBelow lines entries leaving top (count + 1) (set now count top)
  leaver_set here = record {
    same = length-set now count top ∙ h.same;
    leaver = λ low. ap (λ (n : ℕ). slice_get (set now count top) n) (sym here) ∙ set_same now count top inside;
    others = λ index line next low differs at found.
        h.others index line next (omega arith) differs at
        (sym (set_other now count index top (λ (e : index ≡ count). differs (e ∙ here))) ∙ found);
    behind = λ index past.
        set_other now count index top (λ (e : index ≡ count). absurd (omega arith)) ∙ h.behind index (omega arith);
  }

  pub line_set : count ≢ leaving → (line after : Line) → slice_get lines count ≡ Some line
      → IsChangedLine line (number_at entries count) top.own top after
      → AreChangedBelow lines entries leaving top (count + 1) (set now count after)
  line_set away line after at is = record {
    same = length-set now count after ∙ h.same;
    leaver = λ low. set_other now count leaving after (λ e. away (sym e)) ∙ h.leaver (omega arith);
    others = λ index other next low differs found now_at.
        elim (cases_eq index count) [
          | inl here ↦
              let is_line : other ≡ line = some_line other line
              (sym found ∙ ap (λ (n : ℕ). slice_get lines n) here ∙ at) in
              let is_next : next ≡ after = some_line next after
              (sym now_at ∙ ap (λ (n : ℕ). slice_get (set now count after) n) here ∙ set_same now count after inside) in
              rw (is_line, is_next, here) is
          | inr elsewhere ↦
              h.others index other next (omega arith) differs found (sym (set_other now count index after elsewhere)
              ∙ now_at)
        ];
    behind = λ index past.
        set_other now count index after (λ (e : index ≡ count). absurd (omega arith)) ∙ h.behind index (omega arith);
  }

  pub line_set_read : count ≢ leaving → (other after : Line)
      → IsChangedLine (get_or now count other) (number_at entries count) top.own top after
      → AreChangedBelow lines entries leaving top (count + 1) (set now count after)
  line_set_read away other after is =
      line_set away (get_or now count other) after
      (sym (h.behind count (omega arith)) ∙ slice_get-get_or now count other inside) is

  pub line_idle : count ≢ leaving → number_at entries count ≡ pos 0
      → AreChangedBelow lines entries leaving top (count + 1) now
  line_idle away none = record {
    same = h.same;
    leaver = λ low. h.leaver (omega arith);
    others = λ index line next low differs found now_at.
        elim (cases_eq index count) [
          | inl here ↦
              let at : slice_get lines count ≡ Some line = ap (λ (n : ℕ). slice_get lines n) (sym here) ∙ found in
              let is_next : next ≡ line = some_line next line
              (sym now_at ∙ ap (λ (n : ℕ). slice_get now n) here ∙ h.behind count (omega arith) ∙ at) in
              rw (is_next, here, none) (idle_line line top)
          | inr elsewhere ↦ h.others index line next (omega arith) differs found now_at
        ];
    behind = λ index past. h.behind index (omega arith);
  }

pub all_changed : (lines : List Line) (entries : List ℤ) (leaving : ℕ) (top : Line) (count : ℕ) (now : List Line)
    → leaving < length lines → length lines ≤ count → AreChangedBelow lines entries leaving top count now
    → AreChanged lines entries leaving top now
all_changed lines entries leaving top count now low past h = record {
  count = h.same;
  leaver = h.leaver (omega arith);
  others = λ index line next differs at found.
      h.others index line next (within index (slice_get_within lines index line at)) differs at found;
}
  where
    within : (index : ℕ) → index < length lines → index < count
    within index less = omega arith
