-- Answers whose value is certified by what they hold.
use Rattle.std.specs.Prelude.{◌≡◌, ℕ, pos}
use Rattle.suit_game.specs.declared.question.Question.{Question}
use Rattle.suit_answer.specs.declared.answer.Answer.{Answer}
use Rattle.suit_lift.specs.Certified.{IsCertified}

-- the value of an answer is certified by its plan and its defence: played with single cards, the plan earns at least
-- that against every defence, and the defence holds every way of declarer's to at most that
pub record IsCertifiedAnswer (question : Question) (answer : Answer) : Type 0 where
  pub num : ℕ
  pub den : ℕ
  pub num_is : answer.value.num ≡ pos num
  pub den_is : answer.value.den ≡ pos den
  pub certified : IsCertified question num den answer.plan answer.defence
