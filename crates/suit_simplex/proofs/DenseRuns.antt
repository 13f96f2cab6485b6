-- The run over a tableau that is kept as one list (`next_kept`).
use Rattle.std.proofs.Common.{◌≡◌, ℕ, suc, ◌+◌, ◌<◌, length, ◌∙◌, Some, None, inl, inr, arith, IsTrue}
use Rattle.std.specs.List.{list_all}
use Rattle.suit_linear.specs.declared.program.Program.{Program}
use Rattle.suit_linear.specs.Programs.{IsBounded}
use Rattle.suit_linear.specs.Tableaus.{first_tableau}
use Rattle.suit_linear.specs.Pivots.{entering, leaving, ratio_products, is_narrow}
use Rattle.suit_linear.specs.Runs.{Wide, To, next}
use Rattle.suit_simplex.specs.Dense.{seen, IsKept, CanAdvance}
use Rattle.suit_simplex.specs.declared.dense.Dense.{Dense}
use Rattle.suit_linear.proofs.SoundTableaus.{IsSound}
use Rattle.suit_linear.proofs.SoundRows.{cases_option}
use Rattle.suit_linear.proofs.EnteringCostIsNegative.{entering_is_column}
use Rattle.suit_linear.proofs.RatioTest.{leaving_is_row}
use Rattle.suit_linear.proofs.PivotKeepsSound.{row_content, objective_content}
use Rattle.suit_linear.proofs.Rays.{no_ray}
use Rattle.suit_linear.proofs.RunSteps.{IsRunning, next_wide_ratio, first_running, next_running}

pub wide_ratio : (dense : Dense) (column : ℕ) → CanAdvance dense → entering (seen dense) ≡ Some column
    → ¬ IsTrue (list_all is_narrow (ratio_products column None (seen dense).rows)) → next (seen dense) ≡ Wide
wide_ratio dense column can e refused =
    elim (cases_option (leaving (seen dense) column)) [
      | inl none ↦ absurd (can.row column e none)
      | inr some ↦ next_wide_ratio (seen dense) column some.0 e some.1 refused
    ]

-- a sound tableau of a bounded program can go on
pub sound_advances : (program : Program) (dense : Dense) → IsBounded program → IsSound program (seen dense)
    → dense.width ≡ suc (length program.costs + length program.rows) → CanAdvance dense
sound_advances program dense bounded sound width = record {
  column = λ column e. omega (arith, (entering_is_column program (seen dense) column sound e).0, width);
  row = λ column e none. no_ray program (seen dense) column sound bounded e none;
  pivot = λ column leaver e l. record {
    positive = (leaving_is_row (seen dense) column leaver l).1;
    rows = λ row inside apart. row_content program (seen dense) column leaver row sound l inside apart;
    objective = objective_content program (seen dense) column leaver sound l;
  };
}

-- the run goes on from the tableau that is kept
pub record IsKeptRun (program : Program) (budget : ℕ) (dense : Dense) (made : ℕ) : Type 0 where
  pub kept : IsKept dense
  pub width : dense.width ≡ suc (length program.costs + length program.rows)
  pub running : IsRunning program budget (seen dense) made

pub first_kept_run : (program : Program) (budget : ℕ) (dense : Dense) → IsSound program (first_tableau program)
    → IsKept dense → dense.width ≡ suc (length program.costs + length program.rows) → seen dense ≡ first_tableau program
    → IsKeptRun program budget dense 0
first_kept_run program budget dense sound kept width first = record {
  kept = kept;
  width = width;
  running = rw first (first_running program budget sound);
}

pub next_kept : (program : Program) (budget : ℕ) (dense later : Dense) (made : ℕ) → made < budget
    → IsKeptRun program budget dense made → (next (seen dense) ≡ To (seen later)) × IsKept later
    × (later.width ≡ dense.width) → IsKeptRun program budget later (made + 1)
next_kept program budget dense later made less before step = record {
  kept = step.1;
  width = step.2 ∙ before.width;
  running = next_running program budget (seen dense) (seen later) made less before.running step.0;
}
