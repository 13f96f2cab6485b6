-- What has been read where a round has an end (`reads`).
use Rattle.std.proofs.Common.{◌≡◌, ℕ, Bool, true, false, List, length, refl}
use Rattle.std.specs.Prelude.{⊤, nat_lt, if◌then◌else◌}
use Rattle.suit_game.specs.declared.question.Question.{Question}
use Rattle.suit_game.specs.Validity.{IsValid}
use Rattle.suit_plans.specs.declared.moves.DeclarerMove.{DeclarerMove}
use Rattle.suit_plans.specs.declared.moves.DefenceMove.{DefenceMove}
use Rattle.suit_plans.specs.declared.plan.Plan.{Plan}
use Rattle.suit_plans.specs.declared.defence.Defence.{Defence}
use Rattle.suit_plans.specs.BestReplies.{least_reply, most_reply}
use Rattle.suit_linear.specs.declared.program.Program.{Program}
use Rattle.suit_linear.specs.declared.ends.Optimum.{Optimum}
use Rattle.suit_linear.specs.Optima.{IsDualOptimum, IsPrimalOptimum}
use Rattle.suit_linear.specs.Programs.{IsWellFormed}
use Rattle.suit_linear.specs.Tableaus.{Tableau}
use Rattle.suit_linear.specs.Runs.{RunEnd, AtOptimum, AtBudget, AtWide, AtRay, run_end}
use Rattle.suit_linear.proofs.RunSteps.{bounded_run_meets_no_ray}
use Rattle.suit_program.specs.Programs.{program_of, size_of}
use Rattle.suit_program.specs.Readings.ReadingLaws.{IsPriced, IsReadable, defence_read, plan_read}
use Rattle.suit_program.specs.Readings.{is_too_wide, parts_of}
use Rattle.suit_program.specs.Supports.{Support}
use Rattle.suit_program.proofs.lemmas.Programs.ObjectiveIsBounded.{programs_are_bounded}
use Rattle.suit_program.proofs.lemmas.Programs.WellFormed.{programs_are_well_formed}
use Rattle.suit_answer.specs.declared.answer.Answer.{Answer}
use Rattle.suit_solve.specs.Comparing.{answer_of, are_met}
use Rattle.suit_solve.specs.LastTableaus.{optimum_at}
use Rattle.suit_solve.specs.Limits.{most_size}
use Rattle.suit_solve.specs.Rounds.{RoundEnd, PastSize, PastPivots, PastWidth, Met, Apart, Limitless, compared}
use Rattle.suit_solve.specs.Rounds.{ran_end, read_end, round_within}
use Rattle.suit_solve.proofs.LastTableaus.{last_dual, last_holds, last_primal}

-- a plan and a defence have been read from an optimum of the program of a support
pub record AreRead (question : Question) (support : Support) (optimum : Optimum) : Type 0 where
  pub valid : IsValid question
  pub few : nat_lt (most_size question) (size_of question support) ≡ false
  pub readable : IsReadable question support optimum
  pub priced : IsPriced question support optimum

-- they meet, and this is the answer
pub record IsMetAt (question : Question) (support : Support) (answer : Answer) : Type 0 where
  pub optimum : Optimum
  pub read : AreRead question support optimum
  pub met : are_met question (plan_read question support optimum) (defence_read question support optimum) ≡ true
  pub answer_is : answer_of question (plan_read question support optimum) (defence_read question support optimum)
      ≡ answer

-- they do not, and these are the best replies
pub record IsApartAt (question : Question) (support : Support) (own : List DeclarerMove) (theirs : List DefenceMove) :
    Type 0 where
  pub optimum : Optimum
  pub read : AreRead question support optimum
  pub apart : are_met question (plan_read question support optimum) (defence_read question support optimum) ≡ false
  pub own_is : most_reply question (defence_read question support optimum) ≡ own
  pub theirs_is : least_reply question (plan_read question support optimum) ≡ theirs

-- what has been read where a round ends so
unfoldable pub ReadsAt : Question → Support → RoundEnd → Type 0
ReadsAt question support PastSize = nat_lt (most_size question) (size_of question support) ≡ true
ReadsAt question support PastPivots = ⊤
ReadsAt question support PastWidth = ⊤
ReadsAt question support (Met answer) = IsMetAt question support answer
ReadsAt question support (Apart own theirs) = IsApartAt question support own theirs
ReadsAt question support Limitless = ⊥

module _ (question : Question) (pivots : ℕ) (support : Support) (valid : IsValid question) where
  abbrev program : Program
  program = program_of question support

  abbrev plan_at_optimum : Optimum → Plan
  plan_at_optimum optimum = plan_read question support optimum

  abbrev defence_at_optimum : Optimum → Defence
  defence_at_optimum optimum = defence_read question support optimum

  formed : IsWellFormed program
  formed = programs_are_well_formed question support valid

  by_met : (optimum : Optimum) → AreRead question support optimum
      → ReadsAt question support (compared question (plan_read question support optimum)
      (defence_read question support optimum))
  unfolding compared ReadsAt
  by_met optimum read =
      by_test (are_met question (plan_at_optimum optimum) (defence_at_optimum optimum)) refl
    where
      by_test : (b : Bool)
          → are_met question (plan_at_optimum optimum) (defence_at_optimum optimum) ≡ b
          → ReadsAt question support (if b then Met (answer_of question (plan_at_optimum optimum)
          (defence_at_optimum optimum))
          else Apart (most_reply question (defence_at_optimum optimum))
          (least_reply question (plan_at_optimum optimum)))
      by_test true e = record { optimum = optimum; read = read; met = e; answer_is = refl }
      by_test false e = record { optimum = optimum; read = read; apart = e; own_is = refl; theirs_is = refl }

  read_at : nat_lt (most_size question) (size_of question support) ≡ false → (tableau : Tableau)
      → run_end program pivots ≡ AtOptimum tableau
      → ReadsAt question support (read_end question support (optimum_at program tableau))
  unfolding read_end ReadsAt
  read_at few tableau ended =
      by_width (optimum_at program tableau) (last_holds program pivots formed tableau ended).columns
      (last_primal program pivots formed tableau ended)
      (last_dual program pivots formed tableau ended)
      (is_too_wide question support (parts_of (optimum_at program tableau).point) (optimum_at program tableau).scale)
      refl
    where
      by_width : (optimum : Optimum) → length optimum.point ≡ length program.costs → IsPrimalOptimum program optimum
          → IsDualOptimum program optimum → (b : Bool)
          → is_too_wide question support (parts_of optimum.point) optimum.scale ≡ b
          → ReadsAt question support (if b then PastWidth
          else compared question (plan_read question support optimum) (defence_read question support optimum))
      by_width optimum columns primal dual true e = tt
      by_width optimum columns primal dual false e = by_met optimum (record {
        valid = valid;
        few = few;
        readable = record {
          valid = valid;
          columns = columns;
          primal = primal;
          narrow = e;
        };
        priced = record {
          valid = valid;
          dual = dual;
          narrow = e;
        };
      })

  ran_at : nat_lt (most_size question) (size_of question support) ≡ false → (end : RunEnd)
      → run_end program pivots ≡ end → ReadsAt question support (ran_end question support end)
  unfolding ReadsAt
  ran_at few (AtOptimum tableau) ended = read_at few tableau ended
  ran_at few AtBudget ended = tt
  ran_at few (AtWide pivot) ended = tt
  ran_at few AtRay ended =
      bounded_run_meets_no_ray program pivots formed (programs_are_bounded question support valid) ended

  -- what has been read where the round of a support ends
  pub reads : ReadsAt question support (round_within question pivots support)
  unfolding round_within ReadsAt
  reads = by_size (nat_lt (most_size question) (size_of question support)) refl
    where
      by_size : (b : Bool) → nat_lt (most_size question) (size_of question support) ≡ b
          → ReadsAt question support (if b then PastSize
          else ran_end question support (run_end program pivots))
      by_size true e = e
      by_size false e = ran_at e (run_end program pivots) refl
