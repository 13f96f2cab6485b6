-- What a verdict says of an answer.
use Rattle.std.specs.Prelude.{⊤, ◌≡◌, ◌↔◌, ℤ, pos, ◌*ℤ◌, ◌<ℤ◌, unsigned_abs}
use Rattle.suit_num.specs.Divisors.{IsCoprime}
use Rattle.suit_game.specs.declared.question.Question.{Question}
use Rattle.suit_game.specs.Layouts.{total}
use Rattle.suit_game.specs.Validity.{IsValid}
use Rattle.suit_plans.specs.BestReplies.{least, most}
use Rattle.suit_plans.specs.Properness.{IsProperDefence, IsProperPlan}
use Rattle.suit_answer.specs.declared.answer.Answer.{Answer}
use Rattle.suit_check.specs.Verdicts.{Finding, Parts, Valid, Plan, Defence, Least, Most, verdict_of}

-- a number over a denominator and the total weight comes to a fraction
abbrev pub ComesTo : Question → ℤ → ℤ → Parts → Type 0
ComesTo question number den value = number *ℤ value.1 ≡ value.0 *ℤ (den *ℤ pos (total question))

-- plan and defence are proper, and what the plan earns at least and what the defence gives up at most both come to the
-- value
pub record IsMet (question : Question) (answer : Answer) : Type 0 where
  pub plan : IsProperPlan question answer.plan
  pub defence : IsProperDefence question answer.defence
  pub least : ComesTo question (least question answer.plan) answer.plan.den (answer.value.num, answer.value.den)
  pub most : ComesTo question (most question answer.defence) answer.defence.den (answer.value.num, answer.value.den)

-- such answers are valid, and no others
abbrev pub ValidIsMet : Type 0
ValidIsMet = (question : Question) (answer : Answer) → IsValid question
    → (verdict_of question answer ≡ Valid) ↔ IsMet question answer

-- a fraction in lowest terms is a number over a denominator and the total weight
pub record IsExact (question : Question) (number den : ℤ) (found : Parts) : Type 0 where
  pub exact : ComesTo question number den found
  pub positive : pos 0 <ℤ found.1
  pub lowest : IsCoprime (unsigned_abs found.0) (unsigned_abs found.1)

-- what a finding tells of a fraction
abbrev pub IsTold : Question → Answer → Finding → Type 0
IsTold question answer Valid = ⊤
IsTold question answer (Plan fault) = ⊤
IsTold question answer (Defence fault) = ⊤
IsTold question answer (Least found) = IsExact question (least question answer.plan) answer.plan.den found
IsTold question answer (Most found) = IsExact question (most question answer.defence) answer.defence.den found

-- so it is with each verdict
abbrev pub FoundAreExact : Type 0
FoundAreExact = (question : Question) (answer : Answer) → IsValid question
    → IsTold question answer (verdict_of question answer)
