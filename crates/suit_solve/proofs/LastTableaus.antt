-- The optimum that the last tableau of a run holds (`holds_optimum`, `last_holds`).
use Rattle.std.proofs.Common.{◌≡◌, ℕ, zero, suc, ◌+◌, ◌==◌, true, length, map, refl, sym}
use Rattle.std.proofs.Common.{ap, ◌∙◌, subst, Some, None, Option, arith, Ok}
use Rattle.std.specs.Prelude.{find, slice_get, ℤ, pos, ◌*ℤ◌, ◌<ℤ◌}
use Rattle.std.specs.List.{AllByRecursion, range_with_len}
use Rattle.std.proofs.lemmas.Bool.Decides.{nat_tests}
use Rattle.std.proofs.lemmas.Int.{ints}
use Rattle.std.proofs.lemmas.List.Elements.{recursion_from_All}
use Rattle.suit_lists.proofs.Indices.{found_fits}
use Rattle.suit_num.specs.declared.fraction.Frac.{Frac}
use Rattle.suit_num.proofs.IntegerLaws.{mul-one}
use Rattle.suit_linear.specs.declared.program.Program.{Program}
use Rattle.suit_linear.specs.declared.ends.Optimum.{Optimum}
use Rattle.suit_linear.specs.Programs.{IsWellFormed}
use Rattle.suit_linear.specs.Tableaus.{TableauRow, Tableau, bound, entry}
use Rattle.suit_linear.specs.Runs.{RunEnd, AtOptimum, run_end}
use Rattle.suit_linear.specs.Ends.{IsBasicValue, IsOptimumOf, Tells}
use Rattle.suit_linear.specs.Optima.{IsDualOptimum, IsPrimalOptimum}
use Rattle.suit_linear.proofs.SoundTableaus.{IsSound}
use Rattle.suit_simplex.proofs.FastAnswers.{last_of, told_dual, told_primal}
use Rattle.suit_simplex.proofs.OneOptimum.{one_optimum}
use Rattle.suit_answer.specs.Reduced.{fraction}
use Rattle.suit_answer.proofs.OneFractionInLowestTerms.{fraction_exact}
use Rattle.suit_solve.specs.LastTableaus.{basic_value, optimum_at, value_at}

-- ---- fractions

one_positive : pos 0 <ℤ pos 1
one_positive = omega (arith, ints)

nothing_times : (d : ℤ) → pos 0 *ℤ d ≡ pos 0
nothing_times d = omega (arith, ints)

nothing : (fraction (pos 0) (pos 1)).num ≡ pos 0
nothing =
    let f : Frac = fraction (pos 0) (pos 1) in
    sym (mul-one f.num) ∙ sym (fraction_exact (pos 0) (pos 1) one_positive) ∙ nothing_times f.den

-- ---- rows

same_number : (a b : ℕ) → (a == b) ≡ true → a ≡ b
same_number a b passed = grind (arith, nat_tests)

basic_is : (tableau : Tableau) (column : ℕ) (row : Option TableauRow)
    → AllByRecursion (λ (other : TableauRow). pos 0 <ℤ entry other other.basic) tableau.rows
    → find (λ (other : TableauRow). other.basic == column) tableau.rows ≡ row
    → IsBasicValue column row (basic_value column row)
basic_is tableau column (Some row) pivotal found =
    let fits = found_fits (λ (other : TableauRow). pos 0 <ℤ entry other other.basic)
    (λ (other : TableauRow). other.basic == column) tableau.rows row pivotal found in
    let here : pos 0 <ℤ entry row column =
    subst (λ (n : ℕ). pos 0 <ℤ entry row n) (same_number row.basic column fits.1) fits.0 in
    sym (fraction_exact (bound row) (entry row column) here)
basic_is tableau column None pivotal found = nothing

-- ---- points

mapped_at : {X : Type 0} (f : ℕ → X) (first count column : ℕ) (x : X)
    → slice_get (map f (range_with_len first count)) column ≡ Some x → x ≡ f (first + column)
mapped_at f first zero column x is = absurd (cc)
mapped_at f first (suc count) zero x is =
    let same : f first ≡ x = cc in sym same ∙ ap f (omega arith)
mapped_at f first (suc count) (suc column) x is =
    mapped_at f (first + 1) count column x is ∙ ap f (omega arith)

mapped_long : {X : Type 0} (f : ℕ → X) (first count : ℕ) → length (map f (range_with_len first count)) ≡ count
mapped_long f first zero = refl
mapped_long f first (suc count) = ap suc (mapped_long f (first + 1) count)

zero_plus : (n : ℕ) → 0 + n ≡ n
zero_plus n = omega arith

-- the optimum that is read from a sound tableau is one that it holds
pub holds_optimum : (program : Program) (tableau : Tableau) → IsSound program tableau
    → IsOptimumOf program tableau (optimum_at program tableau)
unfolding optimum_at
holds_optimum program tableau sound = record {
  columns = mapped_long (value_at tableau) 0 (length program.costs);
  point = λ column part at.
      subst (IsBasicValue column (find (λ (row : TableauRow). row.basic == column) tableau.rows))
      (sym (mapped_at (value_at tableau) 0 (length program.costs) column part at
      ∙ ap (value_at tableau) (zero_plus column)))
      (basic_is tableau column (find (λ (row : TableauRow). row.basic == column) tableau.rows)
      (recursion_from_All (λ (row : TableauRow). pos 0 <ℤ entry row row.basic) tableau.rows sound.pivotal) refl);
  duals = refl;
  scale = refl;
  value = refl;
}

-- ---- runs

module _ (program : Program) (budget : ℕ) (formed : IsWellFormed program) (tableau : Tableau)
    (ended : run_end program budget ≡ AtOptimum tableau) where
  -- a run's last tableau holds an optimum
  pub last_holds : IsOptimumOf program tableau (optimum_at program tableau)
  last_holds = holds_optimum program tableau (last_of program budget formed tableau ended).0

  tells : Tells program (run_end program budget) (Ok (optimum_at program tableau))
  tells = subst (λ (end : RunEnd). Tells program end (Ok (optimum_at program tableau))) (sym ended) last_holds

  -- whose point is feasible
  pub last_primal : IsPrimalOptimum program (optimum_at program tableau)
  last_primal = told_primal program budget formed (Ok (optimum_at program tableau)) tells

  -- and so are its prices
  pub last_dual : IsDualOptimum program (optimum_at program tableau)
  last_dual = told_dual program budget formed (Ok (optimum_at program tableau)) tells

  -- and any other that it holds is the same
  pub last_is : (optimum : Optimum) → IsOptimumOf program tableau optimum → optimum ≡ optimum_at program tableau
  last_is optimum is =
      one_optimum program budget tableau optimum (optimum_at program tableau) formed ended is last_holds
