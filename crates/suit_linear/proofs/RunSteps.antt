-- One step of a run, and runs from a step on (`bounded_run_meets_no_ray`).
use Rattle.std.proofs.Common.{◌≡◌, ◌≢◌, ◌⊎◌, ℕ, zero, suc, ◌+◌, ◌-◌, ◌<◌, ◌≤◌, Bool, true, false, refl, sym, ap, ◌∙◌}
use Rattle.std.proofs.Common.{cond, Some, None, Option, inl, inr, arith, IsTrue, is_some}
use Rattle.std.specs.List.{list_all}
use Rattle.suit_linear.specs.declared.program.Program.{Program}
use Rattle.suit_linear.specs.Programs.{IsWellFormed, IsBounded}
use Rattle.suit_linear.specs.Tableaus.{TableauRow, Tableau, first_tableau}
use Rattle.suit_linear.specs.Pivots.{entering, leaving, ratio_products, changing, pivoting, pivoted, is_narrow}
use Rattle.suit_linear.specs.Runs.{Next, Last, Ray, Wide, To, next_by_column, next_by_row, next, RunEnd, AtOptimum}
use Rattle.suit_linear.specs.Runs.{AtBudget, AtWide, AtRay, run_on, run_within, run_end}
use Rattle.suit_linear.specs.declared.ends.Optimum.{Optimum}
use Rattle.suit_linear.specs.declared.ends.SimplexEnd.{SimplexEnd}
use Rattle.suit_linear.specs.declared.ends.SimplexEnd.TheVariants as ends
use Rattle.suit_linear.specs.Ends.{IsOptimumOf, Tells}
use Rattle.suit_linear.specs.Optima.{IsPrimalOptimum, IsDualOptimum}
use Rattle.std.specs.Prelude.{Result, Ok, Err, MatchResult, IfOk}
use Rattle.suit_linear.proofs.OptimalPoints.{optimum_is_primal}
use Rattle.suit_linear.proofs.OptimalPrices.{optimum_is_dual}
use Rattle.suit_linear.proofs.CombinationByIndex.{test_append, both_true, first_true, second_true}
use Rattle.suit_linear.proofs.SoundTableaus.{IsSound}
use Rattle.suit_linear.proofs.SoundRows.{cases_option}
use Rattle.suit_linear.proofs.PivotKeepsSound.{pivoted_is_sound}
use Rattle.suit_linear.proofs.Rays.{no_ray}
use Rattle.suit_linear.proofs.FirstTableaus.{first_is_sound}

-- ---- one step

pub next_last : (tableau : Tableau) → entering tableau ≡ None → next tableau ≡ Last
unfolding next
next_last tableau e = ap (next_by_column tableau) e

next_at : (tableau : Tableau) (column : ℕ) (leaver : TableauRow) → entering tableau ≡ Some column
    → leaving tableau column ≡ Some leaver
    → next tableau ≡ cond (list_all is_narrow (pivoting tableau column leaver)) (To (pivoted tableau column leaver))
    Wide
unfolding next
next_at tableau column leaver e l = ap (next_by_column tableau) e ∙ ap (next_by_row tableau column) l

not_true : (b : Bool) → (b ≡ true → ⊥) → b ≡ false
not_true true h = absurd (h refl)
not_true false h = refl

next_wide : (tableau : Tableau) (column : ℕ) (leaver : TableauRow) → entering tableau ≡ Some column
    → leaving tableau column ≡ Some leaver → ¬ IsTrue (list_all is_narrow (pivoting tableau column leaver))
    → next tableau ≡ Wide
next_wide tableau column leaver e l refused =
    next_at tableau column leaver e l
    ∙ ap (λ (b : Bool). cond b (To (pivoted tableau column leaver)) Wide)
    (not_true (list_all is_narrow (pivoting tableau column leaver)) refused)

pub next_wide_ratio : (tableau : Tableau) (column : ℕ) (leaver : TableauRow) → entering tableau ≡ Some column
    → leaving tableau column ≡ Some leaver → ¬ IsTrue (list_all is_narrow (ratio_products column None tableau.rows))
    → next tableau ≡ Wide
next_wide_ratio tableau column leaver e l refused =
    next_wide tableau column leaver e l (λ all.
    refused (first_true (list_all is_narrow (ratio_products column None tableau.rows))
    (list_all is_narrow (changing tableau column leaver))
    (sym (test_append (ratio_products column None tableau.rows) (changing tableau column leaver)) ∙ all)))

pub next_wide_change : (tableau : Tableau) (column : ℕ) (leaver : TableauRow) → entering tableau ≡ Some column
    → leaving tableau column ≡ Some leaver → ¬ IsTrue (list_all is_narrow (changing tableau column leaver))
    → next tableau ≡ Wide
next_wide_change tableau column leaver e l refused =
    next_wide tableau column leaver e l (λ all.
    refused (second_true (list_all is_narrow (ratio_products column None tableau.rows))
    (list_all is_narrow (changing tableau column leaver))
    (sym (test_append (ratio_products column None tableau.rows) (changing tableau column leaver)) ∙ all)))

pub next_to : (tableau : Tableau) (column : ℕ) (leaver : TableauRow) → entering tableau ≡ Some column
    → leaving tableau column ≡ Some leaver → IsTrue (list_all is_narrow (ratio_products column None tableau.rows))
    → IsTrue (list_all is_narrow (changing tableau column leaver)) → next tableau ≡ To (pivoted tableau column leaver)
next_to tableau column leaver e l ratio change =
    next_at tableau column leaver e l
    ∙ ap (λ (b : Bool). cond b (To (pivoted tableau column leaver)) Wide)
    (test_append (ratio_products column None tableau.rows) (changing tableau column leaver)
    ∙ both_true (list_all is_narrow (ratio_products column None tableau.rows))
    (list_all is_narrow (changing tableau column leaver)) ratio change)

to_same : (a b : Tableau) → To a ≡ To b → a ≡ b
to_same a b e = cc

-- a step keeps a tableau sound
pub next_is_sound : (program : Program) (tableau later : Tableau) → IsSound program tableau → next tableau ≡ To later
    → IsSound program later
unfolding next
next_is_sound program tableau later sound h =
    elim (cases_option (entering tableau)) [
      | inl none ↦ absurd (cc (ap (next_by_column tableau) none, h))
      | inr some ↦ by_column some.0 some.1
    ]
  where
    by_fit : (column : ℕ) (leaver : TableauRow) (b : Bool) → entering tableau ≡ Some column
        → leaving tableau column ≡ Some leaver → cond b (To (pivoted tableau column leaver)) Wide ≡ To later
        → IsSound program later
    by_fit column leaver true e l is = rw (← to_same _ _ is) (pivoted_is_sound program tableau column leaver sound e l)
    by_fit column leaver false e l is = absurd (cc)

    by_column : (column : ℕ) → entering tableau ≡ Some column → IsSound program later
    by_column column e =
        elim (cases_option (leaving tableau column)) [
          | inl none ↦ absurd (cc (ap (next_by_column tableau) e, ap (next_by_row tableau column) none, h))
          | inr some ↦ by_fit column some.0 (list_all is_narrow (pivoting tableau column some.0)) e some.1
              (sym (next_at tableau column some.0 e some.1) ∙ h)
        ]

-- ---- runs

-- the run goes on from a tableau with so many pivots made
pub record IsRunning (program : Program) (budget : ℕ) (tableau : Tableau) (made : ℕ) : Type 0 where
  pub sound : IsSound program tableau
  pub run : run_within (budget - made) made tableau ≡ run_end program budget

pub first_running : (program : Program) (budget : ℕ) → IsSound program (first_tableau program)
    → IsRunning program budget (first_tableau program) 0
first_running program budget sound = record {
  sound = sound;
  run = ap (λ (left : ℕ). run_within left 0 (first_tableau program)) (omega arith);
}

next_number : (made : ℕ) → made + 1 ≡ suc made
next_number made = omega arith

step_left : (budget made : ℕ) → made < budget → budget - made ≡ suc (budget - (made + 1))
step_left budget made less = omega arith

run_to : (left made : ℕ) (tableau later : Tableau) → next tableau ≡ To later
    → run_within (suc left) made tableau ≡ run_within left (suc made) later
unfolding run_within
run_to left made tableau later e = ap (λ (n : Next). run_on n tableau (suc made) (run_within left (suc made))) e

run_last : (left made : ℕ) (tableau : Tableau) → next tableau ≡ Last
    → run_within (suc left) made tableau ≡ AtOptimum tableau
unfolding run_within
run_last left made tableau e = ap (λ (n : Next). run_on n tableau (suc made) (run_within left (suc made))) e

run_wide : (left made : ℕ) (tableau : Tableau) → next tableau ≡ Wide
    → run_within (suc left) made tableau ≡ AtWide (suc made)
unfolding run_within
run_wide left made tableau e = ap (λ (n : Next). run_on n tableau (suc made) (run_within left (suc made))) e

pub next_running : (program : Program) (budget : ℕ) (tableau later : Tableau) (made : ℕ) → made < budget
    → IsRunning program budget tableau made → next tableau ≡ To later → IsRunning program budget later (made + 1)
next_running program budget tableau later made less before step = record {
  sound = next_is_sound program tableau later before.sound step;
  run =
      let left : ℕ = budget - (made + 1) in
      ap (λ (n : ℕ). run_within left n later) (next_number made)
      ∙ sym (run_to left made tableau later step)
      ∙ ap (λ (n : ℕ). run_within n made tableau) (sym (step_left budget made less))
      ∙ before.run;
}

pub ends_last : (program : Program) (budget : ℕ) (tableau : Tableau) (made : ℕ) → made < budget
    → IsRunning program budget tableau made → next tableau ≡ Last → run_end program budget ≡ AtOptimum tableau
ends_last program budget tableau made less before e =
    sym before.run ∙ ap (λ (left : ℕ). run_within left made tableau) (step_left budget made less)
    ∙ run_last (budget - (made + 1)) made tableau e

pub ends_wide : (program : Program) (budget : ℕ) (tableau : Tableau) (made : ℕ) → made < budget
    → IsRunning program budget tableau made → next tableau ≡ Wide → run_end program budget ≡ AtWide (suc made)
ends_wide program budget tableau made less before e =
    sym before.run ∙ ap (λ (left : ℕ). run_within left made tableau) (step_left budget made less)
    ∙ run_wide (budget - (made + 1)) made tableau e

none_left : (budget made : ℕ) (tableau : Tableau) → budget ≤ made
    → run_within (budget - made) made tableau ≡ cond (is_some (entering tableau)) AtBudget (AtOptimum tableau)
unfolding run_within
none_left budget made tableau past = let none : budget - made ≡ 0 = omega arith in rw none refl

pub ends_budget : (program : Program) (budget : ℕ) (tableau : Tableau) (made : ℕ) → budget ≤ made
    → IsRunning program budget tableau made → is_some (entering tableau) ≡ true → run_end program budget ≡ AtBudget
ends_budget program budget tableau made past before e =
    sym before.run ∙ none_left budget made tableau past ∙ ap (λ (b : Bool). cond b AtBudget (AtOptimum tableau)) e

pub ends_done : (program : Program) (budget : ℕ) (tableau : Tableau) (made : ℕ) → budget ≤ made
    → IsRunning program budget tableau made → is_some (entering tableau) ≡ false
    → run_end program budget ≡ AtOptimum tableau
ends_done program budget tableau made past before e =
    sym before.run ∙ none_left budget made tableau past ∙ ap (λ (b : Bool). cond b AtBudget (AtOptimum tableau)) e

-- a last tableau has no entering column
pub last_enters_none : (tableau : Tableau) → next tableau ≡ Last → entering tableau ≡ None
unfolding next
last_enters_none tableau h =
    elim (cases_option (entering tableau)) [
      | inl none ↦ none
      | inr some ↦ absurd (not_last some.0 (leaving tableau some.0) (sym (ap (next_by_column tableau) some.1) ∙ h))
    ]
  where
    not_last : (column : ℕ) (leaver : Option TableauRow) → next_by_row tableau column leaver ≡ Last → ⊥
    not_last column None e = absurd (cc)
    not_last column (Some leaver) e = by_fit leaver (list_all is_narrow (pivoting tableau column leaver)) e
      where
        by_fit : (leaver : TableauRow) (b : Bool) → cond b (To (pivoted tableau column leaver)) Wide ≡ Last → ⊥
        by_fit leaver true e = absurd (cc)
        by_fit leaver false e = absurd (cc)

pub none_from_test : (o : Option ℕ) → is_some o ≡ false → o ≡ None
none_from_test None e = refl
none_from_test (Some x) e = absurd (cc)

-- ---- what an answer tells

pub tells_read : (program : Program) (budget : ℕ) (tableau : Tableau) (answer : Result Optimum SimplexEnd)
    → run_end program budget ≡ AtOptimum tableau
    → MatchResult answer (IsOptimumOf program tableau) (λ end. end ≡ ends.Memory)
    → Tells program (run_end program budget) answer
tells_read program budget tableau answer e read = rw e (by_answer answer read)
  where
    by_answer : (answer : Result Optimum SimplexEnd)
        → MatchResult answer (IsOptimumOf program tableau) (λ end. end ≡ ends.Memory)
        → Tells program (AtOptimum tableau) answer
    by_answer (Ok optimum) is = is
    by_answer (Err ends.Memory) is = tt
    by_answer (Err ends.Pivots) is = absurd (cc)
    by_answer (Err (ends.Wide pivot)) is = absurd (cc)

pub proves_primal : (program : Program) (tableau : Tableau) (answer : Result Optimum SimplexEnd) → IsWellFormed program
    → IsSound program tableau → entering tableau ≡ None
    → MatchResult answer (IsOptimumOf program tableau) (λ end. end ≡ ends.Memory)
    → IfOk answer (IsPrimalOptimum program)
proves_primal program tableau (Ok optimum) formed sound none is =
    optimum_is_primal program tableau optimum formed sound none is
proves_primal program tableau (Err end) formed sound none is = tt

pub proves_dual : (program : Program) (tableau : Tableau) (answer : Result Optimum SimplexEnd) → IsWellFormed program
    → IsSound program tableau → entering tableau ≡ None
    → MatchResult answer (IsOptimumOf program tableau) (λ end. end ≡ ends.Memory) → IfOk answer (IsDualOptimum program)
proves_dual program tableau (Ok optimum) formed sound none is =
    optimum_is_dual program tableau optimum formed sound none is
proves_dual program tableau (Err end) formed sound none is = tt

-- a sound tableau of a bounded program has no ray
next_not_ray : (program : Program) (tableau : Tableau) → IsBounded program → IsSound program tableau
    → next tableau ≢ Ray
next_not_ray program tableau bounded sound h =
    elim (cases_option (entering tableau)) [
      | inl none ↦ last_not_ray (sym (next_last tableau none) ∙ h)
      | inr some ↦ by_row some.0 some.1 (cases_option (leaving tableau some.0))
    ]
  where
    last_not_ray : Last ≡ Ray → ⊥
    last_not_ray e = absurd (cc)

    by_fit : (column : ℕ) (leaver : TableauRow) (b : Bool) → cond b (To (pivoted tableau column leaver)) Wide ≡ Ray → ⊥
    by_fit column leaver true e = absurd (cc)
    by_fit column leaver false e = absurd (cc)

    by_row : (column : ℕ) → entering tableau ≡ Some column → (leaving tableau column ≡ None)
        ⊎ ((leaver : TableauRow) × (leaving tableau column ≡ Some leaver)) → ⊥
    by_row column e (inl none) = no_ray program tableau column sound bounded e none
    by_row column e (inr some) = by_fit column some.0 (list_all is_narrow (pivoting tableau column some.0))
        (sym (next_at tableau column some.0 e some.1) ∙ h)

not_ray_on : (after : Next) (tableau : Tableau) (pivot : ℕ) (more : Tableau → RunEnd) → after ≢ Ray
    → ((later : Tableau) → after ≡ To later → more later ≢ AtRay) → run_on after tableau pivot more ≢ AtRay
not_ray_on Last tableau pivot more h k = λ e. absurd (cc)
not_ray_on Ray tableau pivot more h k = λ e. h refl
not_ray_on Wide tableau pivot more h k = λ e. absurd (cc)
not_ray_on (To later) tableau pivot more h k = k later refl

-- nor has a run of it from there
no_ray_within : (program : Program) (left made : ℕ) (tableau : Tableau) → IsBounded program → IsSound program tableau
    → run_within left made tableau ≢ AtRay
unfolding run_within
no_ray_within program zero made tableau bounded sound = at_end (is_some (entering tableau))
  where
    at_end : (b : Bool) → cond b AtBudget (AtOptimum tableau) ≢ AtRay
    at_end true = λ e. absurd (cc)
    at_end false = λ e. absurd (cc)
no_ray_within program (suc left) made tableau bounded sound =
    not_ray_on (next tableau) tableau (suc made) (run_within left (suc made))
    (next_not_ray program tableau bounded sound)
    (λ later e. no_ray_within program left (suc made) later bounded (next_is_sound program tableau later sound e))

pub bounded_run_meets_no_ray : (program : Program) (budget : ℕ) → IsWellFormed program → IsBounded program
    → run_end program budget ≢ AtRay
bounded_run_meets_no_ray program budget formed bounded =
    no_ray_within program budget 0 (first_tableau program) bounded (first_is_sound program formed)
