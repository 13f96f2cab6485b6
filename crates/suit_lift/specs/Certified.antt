-- Certified answers: a value, with a plan and a defence over classes that settle the question with single cards.
use Rattle.std.specs.Prelude.{◌≡◌, ℕ, ◌*◌, ◌<◌}
use Rattle.suit_num.specs.Divisors.{IsCoprime}
use Rattle.suit_game.specs.declared.question.Question.{Question}
use Rattle.suit_game.specs.Layouts.{total}
use Rattle.suit_game.specs.Settled.{Settles}
use Rattle.suit_game.specs.Strategies.{DefenceWay, Way, counted}
use Rattle.suit_game.specs.Validity.{IsValid}
use Rattle.suit_plans.specs.BestReplies.{least, most}
use Rattle.suit_plans.specs.declared.plan.Plan.{Plan}
use Rattle.suit_plans.specs.declared.defence.Defence.{Defence}
use Rattle.suit_plans.specs.Properness.{IsProperDefence, IsProperPlan}
use Rattle.suit_lift.specs.Lifts.{defence_way, plan_way}

-- the value is num / den in lowest terms, plan and defence are proper, and their lifts leave nothing open:
-- the plan earns at least the value against every defence, and the defence holds every way of declarer's to at most
-- the value
pub record IsCertified (question : Question) (num den : ℕ) (plan : Plan) (defence : Defence) : Type 0 where
  pub reduced : IsCoprime num den
  pub plan_proper : IsProperPlan question plan
  pub defence_proper : IsProperDefence question defence
  pub settles : Settles question (plan_way question plan) (defence_way question defence) num den

-- where the least of a proper plan and the most of a proper defence both come to the value, it is certified
abbrev pub MetIsCertified : Type 0
MetIsCertified =
    (question : Question) (num den : ℕ) (plan : Plan) (defence : Defence) → IsValid question
    → IsProperPlan question plan → IsProperDefence question defence
    → IsCoprime num den → 0 < den → counted (least question plan) * den ≡ num * (counted plan.den * total question)
    → counted (most question defence) * den ≡ num * (counted defence.den * total question)
    → IsCertified question num den plan defence

-- any two pairs of ways that settle a question settle it at one value
abbrev pub OneValue : Type 0
OneValue =
    (question : Question) (plan other_plan : Way) (defence other_defence : DefenceWay) (num den other_num other_den : ℕ)
    → Settles question plan defence num den → Settles question other_plan other_defence other_num other_den → num
    * other_den ≡ other_num * den

-- so no question has two certified values
abbrev pub OneCertifiedValue : Type 0
OneCertifiedValue =
    (question : Question) (num den other_num other_den : ℕ) (plan other_plan : Plan) (defence other_defence : Defence)
    → IsCertified question num den plan defence → IsCertified question other_num other_den other_plan other_defence
    → (num ≡ other_num) × (den ≡ other_den)
