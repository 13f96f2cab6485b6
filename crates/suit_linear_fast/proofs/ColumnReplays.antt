-- A column by the replay of the pivots, one after another (`pivot_made`, `replay_more`).
use Rattle.std.proofs.Common.{◌≡◌, inl, inr, ℕ, suc, ◌+◌, ◌-◌, ◌<◌, List, refl, sym, ap, ◌∙◌}
use Rattle.std.proofs.Common.{arith, subst}
use Rattle.std.specs.Prelude.{ℤ, pos, negsuc, ◌-ℤ◌, ◌*ℤ◌, ◌<ℤ◌, int_lt, int_div, set, slice_get, Option}
use Rattle.std.specs.Prelude.{Some, None, FitsSigned, Vec}
use Rattle.std.specs.Global.{Global}
use Rattle.std.specs.Option.{MatchOption}
use Rattle.std.specs.Int.{w64}
use Rattle.std.proofs.lemmas.Int.{ints}
use Rattle.std.proofs.lemmas.Bool.{cases_Bool, cases_eq, cond-true, cond-false}
use Rattle.std.proofs.lemmas.List.{length-set, get_or-set_same, get_or-set_other}
use Rattle.std.proofs.Math.IntN.{zero-*ℤ}
use Rattle.suit_num.proofs.IntegerLaws.{div_is, int_lt-true}
use Rattle.suit_linear.specs.Points.{number_at}
use Rattle.suit_linear_fast.specs.declared.cells.Cell.{Cell}
use Rattle.suit_linear_fast.specs.declared.past_pivots.Leaver.{Leaver}
use Rattle.suit_linear_fast.specs.declared.past_pivots.PastPivots.{PastPivots}
use Rattle.suit_linear_fast.specs.declared.sparse.Sparse.{Sparse}
use Rattle.suit_linear_fast.specs.Cells.{number_in}
use Rattle.suit_linear_fast.specs.Replays.{wrapped, times_in, factor_in, share_of, AreTaken, AreMultiplied, changes_of}
use Rattle.suit_linear_fast.specs.Replays.{multiples_of, IsCleared, IsPivoted, IsPivotedAt, Replays}
use Rattle.suit_linear_fast.specs.Replays.{IsProgramColumn, IsBegun}

-- ---- one pivot

pivoted_here : (past : PastPivots) (pivot : ℕ) (leaver : Leaver) (before after : List ℤ)
    → slice_get past.leavers.items pivot ≡ Some leaver → IsPivoted past pivot leaver before after
    → IsPivotedAt past pivot before after
pivoted_here past pivot leaver before after found h =
    subst
    (λ (o : Option Leaver). MatchOption o (after ≡ before) (λ leaver. IsPivoted past pivot leaver before after))
    (sym found) h

pub pivot_made : (past : PastPivots) (pivot : ℕ) (leaver : Leaver) (before middle after : List ℤ) (entry : ℤ)
    → slice_get past.leavers.items pivot ≡ Some leaver
    → AreMultiplied before (factor_in (multiples_of past pivot leaver)) middle
    → FitsSigned w64 (number_at middle leaver.row)
    → entry ≡ share_of (number_at middle leaver.row) leaver.divisor
    → AreTaken (set middle leaver.row entry) entry (times_in (changes_of past pivot leaver)) after
    → IsPivotedAt past pivot before after
pivot_made past pivot leaver before middle after entry found multiplied short e taken =
    pivoted_here past pivot leaver before after found (record {
      middle = middle;
      multiplied = multiplied;
      short = λ within. short;
      cleared =
          subst (λ (z : ℤ). AreTaken (set middle leaver.row z) z (times_in (changes_of past pivot leaver)) after) e
          taken;
    })

share_none : (number divisor : ℤ) → number ≡ pos 0 → share_of number divisor ≡ pos 0
share_none number divisor none =
    elim (cases_Bool (int_lt (pos 1) divisor)) [
      | inl large ↦
          let more : pos 1 <ℤ divisor = int_lt-true (pos 1) divisor large in
          cond-true (int_lt (pos 1) divisor) (int_div number divisor) number large
          ∙ ap (λ (z : ℤ). int_div z divisor) none
          ∙ div_is (pos 0) divisor (pos 0) (omega (arith, ints)) (zero-*ℤ divisor)
      | inr low ↦ cond-false (int_lt (pos 1) divisor) (int_div number divisor) number low ∙ none
    ]

nothing_taken : (a b : ℤ) → a ≡ a -ℤ pos 0 *ℤ b
nothing_taken a b = let none = zero-*ℤ b in omega (arith, ints)

idle : (middle : List ℤ) (row : ℕ) (entry : ℤ) (times : ℕ → ℤ) → entry ≡ pos 0 → number_at middle row ≡ pos 0
    → AreTaken (set middle row entry) entry times middle
idle middle row entry times e none = record {
  count = sym (length-set middle row entry);
  numbers = λ index less.
      let same = length-set middle row entry in
      ap wrapped
      (nothing_taken (number_at middle index) (times index)
      ∙ ap (λ (z : ℤ). number_at middle index -ℤ z *ℤ times index) (sym e)
      ∙ ap (λ (z : ℤ). z -ℤ entry *ℤ times index) (elim (cases_eq index row) [
        | inl here ↦
            ap (λ (n : ℕ). number_at middle n) here ∙ none ∙ sym e
            ∙ sym (get_or-set_same middle row entry (pos 0) (omega arith))
            ∙ ap (λ (n : ℕ). number_at (set middle row entry) n) (sym here)
        | inr differs ↦ sym (get_or-set_other middle row index entry (pos 0) differs)
      ]));
}

-- an entry that is 0 changes no row
pub pivot_idle : (past : PastPivots) (pivot : ℕ) (leaver : Leaver) (before middle : List ℤ)
    → slice_get past.leavers.items pivot ≡ Some leaver
    → AreMultiplied before (factor_in (multiples_of past pivot leaver)) middle
    → number_at middle leaver.row ≡ pos 0 → IsPivotedAt past pivot before middle
pivot_idle past pivot leaver before middle found multiplied none =
    pivoted_here past pivot leaver before middle found (record {
      middle = middle;
      multiplied = multiplied;
      short = λ within. subst (FitsSigned w64) (sym none) (record { sfits = omega arith });
      cleared =
          idle middle leaver.row (share_of (number_at middle leaver.row) leaver.divisor)
          (times_in (changes_of past pivot leaver)) (share_none (number_at middle leaver.row) leaver.divisor none)
          none;
    })

-- ---- where a column begins

pub begun_again : (sparse : Sparse) (past : PastPivots) (column count : ℕ) (leaver : Leaver)
    (before entries after : List ℤ) → 0 < count → slice_get past.leavers.items (count - 1) ≡ Some leaver
    → entries ≡ set before leaver.row leaver.own
    → AreTaken entries leaver.own (times_in (changes_of past (count - 1) leaver)) after
    → IsBegun sparse past column count count before after
begun_again sparse past column count leaver before entries after some found e taken =
    let is : count ≡ suc (count - 1) = omega arith in
    subst (λ (n : ℕ). IsBegun sparse past column n count before after) (sym is)
    (subst
    (λ (o : Option Leaver). MatchOption o ((count ≡ 0) × IsProgramColumn sparse column before after)
    (λ leaver. (count ≡ suc (count - 1)) × IsCleared past (count - 1) leaver leaver.own before after))
    (sym found) (
      is,
      subst (λ (xs : List ℤ). AreTaken xs leaver.own (times_in (changes_of past (count - 1) leaver)) after) e taken,
    ))

pub begun_first : (sparse : Sparse) (past : PastPivots) (column count : ℕ) (before after : List ℤ) → count ≡ 0
    → IsProgramColumn sparse column before after → IsBegun sparse past column count 0 before after
begun_first sparse past column count before after none h =
    subst (λ (n : ℕ). IsBegun sparse past column n 0 before after) (sym none) (refl, h)

pub begun_nowhere : (sparse : Sparse) (past : PastPivots) (column count : ℕ) (before after : List ℤ) → 0 < count
    → slice_get past.leavers.items (count - 1) ≡ None → IsProgramColumn sparse column before after
    → IsBegun sparse past column count 0 before after
begun_nowhere sparse past column count before after some found h =
    let none : ℕ = 0 in
    let is : count ≡ suc (count - 1) = omega arith in
    subst (λ (n : ℕ). IsBegun sparse past column n 0 before after) (sym is)
    (subst
    (λ (o : Option Leaver). MatchOption o ((none ≡ 0) × IsProgramColumn sparse column before after)
    (λ leaver. (none ≡ suc (count - 1)) × IsCleared past (count - 1) leaver leaver.own before after))
    (sym found) (refl, h))

pub program_column : (sparse : Sparse) (column : ℕ) (cells : Vec Cell Global) (before after : List ℤ)
    → slice_get sparse.columns.items column ≡ Some cells → AreTaken before (negsuc 0) (number_in cells.items) after
    → IsProgramColumn sparse column before after
program_column sparse column cells before after found h =
    subst
    (λ (o : Option (Vec Cell Global)). MatchOption o (after ≡ before)
    (λ cells. AreTaken before (negsuc 0) (number_in cells.items) after))
    (sym found) h

pub no_column : (sparse : Sparse) (column : ℕ) (before : List ℤ) → slice_get sparse.columns.items column ≡ None
    → IsProgramColumn sparse column before before
no_column sparse column before found =
    subst
    (λ (o : Option (Vec Cell Global)). MatchOption o (before ≡ before)
    (λ cells. AreTaken before (negsuc 0) (number_in cells.items) before))
    (sym found) refl

-- ---- pivot after pivot

pub replay_begins : (past : PastPivots) (first count : ℕ) (entries : List ℤ) → count ≡ 0
    → Replays past first count entries entries
unfolding Replays
replay_begins past first count entries none =
    subst (λ (n : ℕ). Replays past first n entries entries) (sym none) refl

pub replay_more : (past : PastPivots) (first pivot count next : ℕ) (before middle after : List ℤ)
    → first + count ≡ pivot → next ≡ suc count → Replays past first count before middle
    → IsPivotedAt past pivot middle after → Replays past first next before after
unfolding Replays
replay_more past first pivot count next before middle after e k h step =
    subst (λ (n : ℕ). Replays past first n before after) (sym k)
    (middle, h, subst (λ (n : ℕ). IsPivotedAt past n middle after) (sym e) step)
