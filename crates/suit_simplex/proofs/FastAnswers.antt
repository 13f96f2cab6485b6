-- What an answer that tells the end of a run proves (`told_primal`, `told_dual`).
use Rattle.std.proofs.Common.{◌≡◌, ℕ, zero, suc, Bool, true, false, refl, cond, None, is_some, subst}
use Rattle.std.specs.Prelude.{Result, Ok, Err, IfOk}
use Rattle.suit_linear.specs.declared.program.Program.{Program}
use Rattle.suit_linear.specs.declared.ends.Optimum.{Optimum}
use Rattle.suit_linear.specs.declared.ends.SimplexEnd.{SimplexEnd}
use Rattle.suit_linear.specs.Programs.{IsWellFormed}
use Rattle.suit_linear.specs.Tableaus.{Tableau, first_tableau}
use Rattle.suit_linear.specs.Pivots.{entering}
use Rattle.suit_linear.specs.Runs.{Next, Last, Ray, Wide, To, next, RunEnd, AtOptimum, AtBudget, AtWide, AtRay}
use Rattle.suit_linear.specs.Runs.{run_on}
use Rattle.suit_linear.specs.Runs.{run_within, run_end}
use Rattle.suit_linear.specs.Ends.{Tells}
use Rattle.suit_linear.specs.Optima.{IsPrimalOptimum, IsDualOptimum}
use Rattle.suit_linear.proofs.SoundTableaus.{IsSound}
use Rattle.suit_linear.proofs.FirstTableaus.{first_is_sound}
use Rattle.suit_linear.proofs.OptimalPoints.{optimum_is_primal}
use Rattle.suit_linear.proofs.OptimalPrices.{optimum_is_dual}
use Rattle.suit_linear.proofs.RunSteps.{next_is_sound, last_enters_none, none_from_test}

same_end : (a b : Tableau) → AtOptimum a ≡ AtOptimum b → a ≡ b
same_end a b e = cc

-- the last tableau of a run is sound, and no column enters it
last_is_sound : (program : Program) (left made : ℕ) (tableau last : Tableau) → IsSound program tableau
    → run_within left made tableau ≡ AtOptimum last → IsSound program last × (entering last ≡ None)
unfolding run_within
last_is_sound program zero made tableau last sound h = by_test (is_some (entering tableau)) refl h
  where
    by_test : (b : Bool) → is_some (entering tableau) ≡ b → cond b AtBudget (AtOptimum tableau) ≡ AtOptimum last
        → IsSound program last × (entering last ≡ None)
    by_test true e k = absurd (cc)
    by_test false e k = subst (λ (t : Tableau). IsSound program t × (entering t ≡ None)) (same_end tableau last k)
        (sound, none_from_test (entering tableau) e)
last_is_sound program (suc left) made tableau last sound h =
    by_next (λ later kept. last_is_sound program left (suc made) later last kept) (next tableau) refl h
  where
    by_next : ((later : Tableau) → IsSound program later → run_within left (suc made) later ≡ AtOptimum last
        → IsSound program last × (entering last ≡ None)) → (n : Next) → next tableau ≡ n
        → run_on n tableau (suc made) (run_within left (suc made)) ≡ AtOptimum last
        → IsSound program last × (entering last ≡ None)
    by_next more Last e k = subst (λ (t : Tableau). IsSound program t × (entering t ≡ None)) (same_end tableau last k)
        (sound, last_enters_none tableau e)
    by_next more Ray e k = absurd (cc)
    by_next more Wide e k = absurd (cc)
    by_next more (To later) e k = more later (next_is_sound program tableau later sound e) k

module _ (program : Program) (budget : ℕ) (formed : IsWellFormed program) where
  pub last_of : (tableau : Tableau) → run_end program budget ≡ AtOptimum tableau
      → IsSound program tableau × (entering tableau ≡ None)
  last_of tableau e = last_is_sound program budget 0 (first_tableau program) tableau (first_is_sound program formed) e

  pub told_primal : (answer : Result Optimum SimplexEnd) → Tells program (run_end program budget) answer
      → IfOk answer (IsPrimalOptimum program)
  told_primal (Err end) is = tt
  told_primal (Ok optimum) is = by_end (run_end program budget) refl is
    where
      by_end : (end : RunEnd) → run_end program budget ≡ end → Tells program end (Ok optimum)
          → IsPrimalOptimum program optimum
      by_end (AtOptimum tableau) e told =
          let last = last_of tableau e in
          optimum_is_primal program tableau optimum formed last.0 last.1 told
      by_end AtBudget e told = absurd told
      by_end (AtWide pivot) e told = absurd told
      by_end AtRay e told = absurd told

  pub told_dual : (answer : Result Optimum SimplexEnd) → Tells program (run_end program budget) answer
      → IfOk answer (IsDualOptimum program)
  told_dual (Err end) is = tt
  told_dual (Ok optimum) is = by_end (run_end program budget) refl is
    where
      by_end : (end : RunEnd) → run_end program budget ≡ end → Tells program end (Ok optimum)
          → IsDualOptimum program optimum
      by_end (AtOptimum tableau) e told =
          let last = last_of tableau e in
          optimum_is_dual program tableau optimum formed last.0 last.1 told
      by_end AtBudget e told = absurd told
      by_end (AtWide pivot) e told = absurd told
      by_end AtRay e told = absurd told
