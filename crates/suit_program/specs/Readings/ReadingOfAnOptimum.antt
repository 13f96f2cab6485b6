-- What is read from the optimum of a support's program on a tree, and how the reading ends.
use Rattle.std.specs.Prelude.{⊤, ◌≡◌, false, true, length, ℤ}
use Rattle.suit_game.specs.declared.question.Question.{Question}
use Rattle.suit_game.specs.Validity.{IsValid}
use Rattle.suit_plans.specs.declared.plan.Plan.{Plan}
use Rattle.suit_plans.specs.declared.defence.Defence.{Defence}
use Rattle.suit_linear.specs.declared.ends.Optimum.{Optimum}
use Rattle.suit_linear.specs.Optima.{IsDualOptimum, IsPrimalOptimum}
use Rattle.suit_tree.specs.declared.tree.Tree.{Tree}
use Rattle.suit_tree.specs.Trees.{IsTreeOf}
use Rattle.suit_program.specs.declared.readings.plan_end.PlanEnd.{PlanEnd}
use Rattle.suit_program.specs.declared.readings.plan_end.PlanEnd.TheVariants.{Memory, Wide}
use Rattle.suit_program.specs.declared.supports.support.Support.{Support as MarkedSupport}
use Rattle.suit_program.specs.Programs.{program_of}
use Rattle.suit_program.specs.Readings.{is_too_wide, parts_of, plan_den}
use Rattle.suit_program.specs.Readings.ReadingLaws.{IsReadable, defence_read, plan_read}
use Rattle.suit_program.specs.Supports.Marks.{support_seen}
use Rattle.suit_program.specs.Supports.{Support}

-- a tree is that of a valid question, and an optimum that of the program of a support
pub record IsOptimumFor (tree : Tree) (support : MarkedSupport) (optimum : Optimum) : Type 0 where
  pub question : Question
  pub valid : IsValid question
  pub grown : IsTreeOf question tree
  pub columns : length optimum.point ≡ length (program_of question (support_seen question support)).costs
  pub primal : IsPrimalOptimum (program_of question (support_seen question support)) optimum
  pub dual : IsDualOptimum (program_of question (support_seen question support)) optimum

-- the denominator of the plan that is read from an optimum, where neither it nor the scale is too wide
pub record IsPlanDen (question : Question) (support : Support) (optimum : Optimum) (den : ℤ) : Type 0 where
  pub narrow : is_too_wide question support (parts_of optimum.point) optimum.scale ≡ false
  pub is_den : den ≡ plan_den question support (parts_of optimum.point)

-- the denominator of the plan is given, and is not too wide
pub record IsPlanCase (tree : Tree) (support : MarkedSupport) (optimum : Optimum) (den : ℤ) : Type 0 where
  pub question : Question
  pub valid : IsValid question
  pub grown : IsTreeOf question tree
  pub readable : IsReadable question (support_seen question support) optimum
  pub is_den : den ≡ plan_den question (support_seen question support) (parts_of optimum.point)

-- a plan and a defence are those that are read from an optimum, and neither denominator is too wide
pub record AreRead (question : Question) (support : Support) (optimum : Optimum) (plan : Plan) (defence : Defence) :
    Type 0 where
  pub narrow : is_too_wide question support (parts_of optimum.point) optimum.scale ≡ false
  pub is_plan : plan ≡ plan_read question support optimum
  pub is_defence : defence ≡ defence_read question support optimum

-- one of the denominators is too wide, or memory was wanted
abbrev pub IsEndOf : Question → Support → Optimum → PlanEnd → Type 0
IsEndOf question support optimum Wide = is_too_wide question support (parts_of optimum.point) optimum.scale ≡ true
IsEndOf question support optimum Memory = ⊤
