-- A program and a budget have one answer (`one_answer`).
use Rattle.std.proofs.Common.{◌≡◌, ◌≢◌, ℕ, suc, List, [], ◌∷◌, length, Some, None, refl, sym, ap, ◌∙◌, subst, arith}
use Rattle.std.specs.Prelude.{Result, Ok, Err, Option, ℤ, pos, ◌*ℤ◌, ◌<ℤ◌, unsigned_abs, find, ◌==◌, slice_get}
use Rattle.std.proofs.Props.{props}
use Rattle.std.proofs.lemmas.List.Elements.{All-contains}
use Rattle.std.proofs.Math.IntN.{zero-*ℤ}
use mathlib.Core.HLevel.{is_prop→PathP}
use Rattle.suit_num.specs.Divisors.{IsCoprime}
use Rattle.suit_num.specs.declared.fraction.Frac.{Frac}
use Rattle.suit_num.proofs.FractionLaws.{fraction_same_trans, same_reduced}
use Rattle.suit_linear.specs.declared.program.Program.{Program}
use Rattle.suit_linear.specs.declared.ends.Optimum.{Optimum}
use Rattle.suit_linear.specs.declared.ends.SimplexEnd.{SimplexEnd}
use Rattle.suit_linear.specs.declared.ends.SimplexEnd.TheVariants as ends
use Rattle.suit_linear.specs.Programs.{IsWellFormed}
use Rattle.suit_linear.specs.Tableaus.{TableauRow, Tableau, bound, entry}
use Rattle.suit_linear.specs.Runs.{RunEnd, AtOptimum, AtBudget, AtWide, AtRay, run_end}
use Rattle.suit_linear.specs.Ends.{IsBasicValue, IsOptimumOf, Tells}
use Rattle.suit_linear.proofs.SoundTableaus.{IsSound}
use Rattle.suit_linear.proofs.SoundRows.{found_row}
use Rattle.suit_simplex.proofs.FastAnswers.{last_of}

-- ---- fractions

positive_prop : (den : ℤ) → IsProp (pos 0 <ℤ den)
positive_prop den = Prim.hlevel props

coprime_prop : (num den : ℤ) → IsProp (IsCoprime (unsigned_abs num) (unsigned_abs den))
coprime_prop num den = Prim.hlevel props

same_terms : (f g : Frac) → f.num ≡ g.num → f.den ≡ g.den → f ≡ g
same_terms f g p q = λ i. record {
  num = p i;
  den = q i;
  positive = is_prop→PathP (λ j. pos 0 <ℤ q j) (λ j. positive_prop (q j)) f.positive g.positive i;
  coprime =
      is_prop→PathP (λ j. IsCoprime (unsigned_abs (p j)) (unsigned_abs (q j))) (λ j. coprime_prop (p j) (q j))
      f.coprime g.coprime i;
}

-- equal fractions are the same
same_fraction : (f g : Frac) → f.num *ℤ g.den ≡ g.num *ℤ f.den → f ≡ g
same_fraction f g h =
    let terms = same_reduced f.num f.den g.num g.den f.positive g.positive f.coprime g.coprime h in
    same_terms f g terms.0 terms.1

same_value : (column : ℕ) (found : Option TableauRow) (f g : Frac)
    → ((row : TableauRow) → found ≡ Some row → pos 0 <ℤ entry row column) → IsBasicValue column found f
    → IsBasicValue column found g → f ≡ g
same_value column (Some row) f g positive h k =
    same_fraction f g
    (fraction_same_trans f.num f.den (bound row) (entry row column) g.num g.den (positive row refl) h (sym k))
same_value column None f g positive h k =
    same_fraction f g (ap (λ (z : ℤ). z *ℤ g.den) h ∙ zero-*ℤ g.den ∙ sym (zero-*ℤ f.den)
    ∙ ap (λ (z : ℤ). z *ℤ f.den) (sym k))

same_list : (xs ys : List Frac) → length xs ≡ length ys
    → ((index : ℕ) (x y : Frac) → slice_get xs index ≡ Some x → slice_get ys index ≡ Some y → x ≡ y) → xs ≡ ys
same_list [] [] same h = refl
same_list [] (y ∷ ys) same h = absurd (omega arith)
same_list (x ∷ xs) [] same h = absurd (omega arith)
same_list (x ∷ xs) (y ∷ ys) same h =
    let first : x ≡ y = h 0 x y refl refl in
    let rest : xs ≡ ys = same_list xs ys (omega arith) (λ index a b p q. h (suc index) a b p q) in
    λ i. first i ∷ rest i

-- ---- answers

same_optimum : (program : Program) (tableau : Tableau) (optimum other : Optimum) → IsSound program tableau
    → IsOptimumOf program tableau optimum → IsOptimumOf program tableau other → optimum ≡ other
same_optimum program tableau optimum other sound h k =
    let points : optimum.point ≡ other.point =
    same_list optimum.point other.point (h.columns ∙ sym k.columns) (λ column f g p q.
    same_value column (find (λ row. row.basic == column) tableau.rows) f g (pivot column) (h.point column f p)
    (k.point column g q)) in
    let duals : optimum.duals ≡ other.duals = h.duals ∙ sym k.duals in
    let scales : optimum.scale ≡ other.scale = h.scale ∙ sym k.scale in
    let values : optimum.value ≡ other.value = h.value ∙ sym k.value in
    λ i. record { point = points i; duals = duals i; scale = scales i; value = values i }
  where
    pivot : (column : ℕ) (row : TableauRow) → find (λ row. row.basic == column) tableau.rows ≡ Some row
        → pos 0 <ℤ entry row column
    pivot column row looked =
        let found = found_row tableau.rows column row looked in
        subst (λ (n : ℕ). pos 0 <ℤ entry row n) found.1
        (All-contains (λ (r : TableauRow). pos 0 <ℤ entry r r.basic) tableau.rows row sound.pivotal found.0)

-- what an answer is at each end of a run
at_optimum : (program : Program) (tableau : Tableau) (answer : Result Optimum SimplexEnd)
    → Tells program (AtOptimum tableau) answer → answer ≢ Err ends.Memory
    → (optimum : Optimum) × (answer ≡ Ok optimum) × IsOptimumOf program tableau optimum
at_optimum program tableau (Ok optimum) told some = (optimum, refl, told)
at_optimum program tableau (Err ends.Pivots) told some = absurd told
at_optimum program tableau (Err (ends.Wide pivot)) told some = absurd told
at_optimum program tableau (Err ends.Memory) told some = absurd (some refl)

at_budget : (program : Program) (answer : Result Optimum SimplexEnd) → Tells program AtBudget answer
    → answer ≢ Err ends.Memory → answer ≡ Err ends.Pivots
at_budget program (Ok optimum) told some = absurd told
at_budget program (Err ends.Pivots) told some = refl
at_budget program (Err (ends.Wide pivot)) told some = absurd told
at_budget program (Err ends.Memory) told some = absurd (some refl)

at_wide : (program : Program) (number : ℕ) (answer : Result Optimum SimplexEnd) → Tells program (AtWide number) answer
    → answer ≢ Err ends.Memory → answer ≡ Err (ends.Wide number)
at_wide program number (Ok optimum) told some = absurd told
at_wide program number (Err ends.Pivots) told some = absurd told
at_wide program number (Err (ends.Wide pivot)) told some = ap (λ (n : ℕ). Err (ends.Wide n)) told
at_wide program number (Err ends.Memory) told some = absurd (some refl)

at_ray : (program : Program) (answer : Result Optimum SimplexEnd) → Tells program AtRay answer
    → answer ≢ Err ends.Memory → ⊥
at_ray program (Ok optimum) told some = told
at_ray program (Err ends.Pivots) told some = told
at_ray program (Err (ends.Wide pivot)) told some = told
at_ray program (Err ends.Memory) told some = some refl

pub one_optimum : (program : Program) (budget : ℕ) (tableau : Tableau) (optimum other : Optimum)
    → IsWellFormed program → run_end program budget ≡ AtOptimum tableau → IsOptimumOf program tableau optimum
    → IsOptimumOf program tableau other → optimum ≡ other
one_optimum program budget tableau optimum other formed e h k =
    same_optimum program tableau optimum other (last_of program budget formed tableau e).0 h k

pub one_answer : (program : Program) (budget : ℕ) (answer other : Result Optimum SimplexEnd) → IsWellFormed program
    → Tells program (run_end program budget) answer → Tells program (run_end program budget) other
    → answer ≢ Err ends.Memory → other ≢ Err ends.Memory → answer ≡ other
one_answer program budget answer other formed h k p q = by_end (run_end program budget) refl h k
  where
    by_end : (end : RunEnd) → run_end program budget ≡ end → Tells program end answer → Tells program end other
        → answer ≡ other
    by_end (AtOptimum tableau) e told heard =
        let first = at_optimum program tableau answer told p in
        let second = at_optimum program tableau other heard q in
        first.1 ∙ ap (λ (optimum : Optimum). Ok optimum)
        (one_optimum program budget tableau first.0 second.0 formed e first.2 second.2) ∙ sym second.1
    by_end AtBudget e told heard = at_budget program answer told p ∙ sym (at_budget program other heard q)
    by_end (AtWide number) e told heard = at_wide program number answer told p
        ∙ sym (at_wide program number other heard q)
    by_end AtRay e told heard = absurd (at_ray program answer told p)
