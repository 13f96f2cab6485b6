-- One round: what the game of a support comes to.
use Rattle.std.specs.Prelude.{ℕ, nat_lt, List, if◌then◌else◌}
use Rattle.suit_game.specs.declared.question.Question.{Question}
use Rattle.suit_plans.specs.declared.moves.DeclarerMove.{DeclarerMove}
use Rattle.suit_plans.specs.declared.moves.DefenceMove.{DefenceMove}
use Rattle.suit_plans.specs.declared.plan.Plan.{Plan}
use Rattle.suit_plans.specs.declared.defence.Defence.{Defence}
use Rattle.suit_plans.specs.BestReplies.{least_reply, most_reply}
use Rattle.suit_linear.specs.declared.ends.Optimum.{Optimum}
use Rattle.suit_linear.specs.Runs.{RunEnd, AtOptimum, AtBudget, AtWide, AtRay, run_end}
use Rattle.suit_program.specs.Programs.{program_of, size_of}
use Rattle.suit_program.specs.Readings.ReadingLaws.{defence_read, plan_read}
use Rattle.suit_program.specs.Readings.{is_too_wide, parts_of}
use Rattle.suit_program.specs.Supports.{Support}
use Rattle.suit_answer.specs.declared.answer.Answer.{Answer}
use Rattle.suit_solve.specs.Comparing.{answer_of, are_met}
use Rattle.suit_solve.specs.LastTableaus.{optimum_at}
use Rattle.suit_solve.specs.Limits.{most_size}

-- how a round ends
pub data RoundEnd : Type 0 where
  -- the program of its support is too large
  PastSize : RoundEnd
  -- the run of the program has no pivot left, and needs one
  PastPivots : RoundEnd
  -- a number of the run, or a denominator that is read from its optimum, is too wide
  PastWidth : RoundEnd
  -- the plan and the defence that are read meet
  Met : Answer → RoundEnd
  -- they do not: these are the moves of declarer's best reply to the defence, and of the defence's to the plan
  Apart : (own : List DeclarerMove) (theirs : List DefenceMove) → RoundEnd
  -- the objective has no limit, which never comes
  Limitless : RoundEnd

-- how a round ends that has read a plan and a defence
unfoldable pub compared : Question → Plan → Defence → RoundEnd
compared question plan defence =
    if are_met question plan defence then Met (answer_of question plan defence)
    else Apart (most_reply question defence) (least_reply question plan)

-- how a round ends whose run has an optimum
unfoldable pub read_end : Question → Support → Optimum → RoundEnd
read_end question support optimum =
    if is_too_wide question support (parts_of optimum.point) optimum.scale then PastWidth
    else compared question (plan_read question support optimum) (defence_read question support optimum)

-- how a round ends whose run has ended so
abbrev pub ran_end : Question → Support → RunEnd → RoundEnd
ran_end question support (AtOptimum tableau) =
    read_end question support (optimum_at (program_of question support) tableau)
ran_end question support AtBudget = PastPivots
ran_end question support (AtWide pivot) = PastWidth
ran_end question support AtRay = Limitless

-- how the round of a support ends whose run may make so many pivots
unfoldable pub round_within : Question → (pivots : ℕ) → Support → RoundEnd
round_within question pivots support =
    if nat_lt (most_size question) (size_of question support) then PastSize
    else ran_end question support (run_end (program_of question support) pivots)

-- how the round of a support ends, by the question's budget of pivots
abbrev pub round_end : Question → Support → RoundEnd
round_end question support = round_within question question.pivots support
