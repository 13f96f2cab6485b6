-- The rounds end, and an answer shows its value (`rounds_end`, `answers_are_shown`).
use Rattle.std.proofs.Common.{◌≡◌, ◌≢◌, ℕ, zero, suc, ◌<◌, Bool, true, false, Ok, Err, arith, subst}
use Rattle.std.specs.Prelude.{nat_lt, if◌then◌else◌}
use Rattle.suit_game.specs.declared.question.Question.{Question}
use Rattle.suit_game.specs.Validity.{IsValid}
use Rattle.suit_tree.specs.WhatIsCounted.{node_count}
use Rattle.suit_program.specs.Supports.{Support, first_support, with_moves}
use Rattle.suit_answer.specs.declared.answer.Answer.{Answer}
use Rattle.suit_solve.specs.declared.ends.SolveEnd.TheVariants as ends
use Rattle.suit_solve.specs.Comparing.{IsShown}
use Rattle.suit_solve.specs.FateLaws.{AnswersAreShown, AnswersAreWritable, RoundsEnd}
use Rattle.suit_solve.specs.Fates.{Fate, fate, fate_after, fate_from, fate_in_rounds, lacking}
use Rattle.suit_solve.specs.Rounds.{RoundEnd, PastSize, PastPivots, PastWidth, Met, Apart, Limitless, round_end}
use Rattle.suit_solve.proofs.Growth.{apart_less}
use Rattle.suit_solve.proofs.Rounds.{IsMetAt, ReadsAt, reads}
use Rattle.suit_solve.proofs.AnswerShowsItsValue.{shown}
use Rattle.suit_solve.proofs.WritableAnswers.{writable}
use Rattle.suit_answer.specs.Writable.{IsWritable}

same_answer : (one other : Answer) → ◌≡◌ {A = Fate} (Ok one) (Ok other) → one ≡ other
same_answer one other e = cc

fewer_left : (more less left : ℕ) → left < less → less < suc more → left < more
fewer_left more less left falls within = omega (arith, falls, within)

module _ (question : Question) (valid : IsValid question) where
  -- with as many rounds as the support lacks moves the rounds do not run out
  rounds_come : (more : ℕ) (support : Support) (round : ℕ) → lacking question support < more
      → fate_from question more support round ≢ Err ends.Memory
  unfolding fate_from ReadsAt
  rounds_come zero support round within = absurd (omega (arith, within))
  rounds_come (suc more) support round within =
      by_end (λ next fewer. rounds_come more next (suc round) fewer) (round_end question support)
      (reads question question.pivots support valid)
    where
      by_end : ((next : Support) → lacking question next < more
          → fate_from question more next (suc round) ≢ Err ends.Memory) → (end : RoundEnd)
          → ReadsAt question support end
          → fate_after question support round (fate_from question more) end ≢ Err ends.Memory
      by_end later PastSize is = λ e. absurd (cc)
      by_end later PastPivots is = λ e. absurd (cc)
      by_end later PastWidth is = λ e. absurd (cc)
      by_end later (Met answer) is = λ e. absurd (cc)
      by_end later (Apart own theirs) is =
          later (with_moves question support own theirs)
          (fewer_left more (lacking question support) (lacking question (with_moves question support own theirs))
          (apart_less question support own theirs is) within)
      by_end later Limitless is = absurd is

  -- what holds of the answer of each round that meets holds of the answer
  pub answers_from : (Fits : Answer → Type 0)
      → ((support : Support) (answer : Answer) → IsMetAt question support answer → Fits answer)
      → (more : ℕ) (support : Support) (round : ℕ) (answer : Answer)
      → fate_from question more support round ≡ Ok answer → Fits answer
  unfolding fate_from ReadsAt
  answers_from Fits fits zero support round answer is = absurd (cc)
  answers_from Fits fits (suc more) support round answer is =
      by_end (λ next same. answers_from Fits fits more next (suc round) answer same) (round_end question support)
      (reads question question.pivots support valid) is
    where
      by_end : ((next : Support) → fate_from question more next (suc round) ≡ Ok answer → Fits answer)
          → (end : RoundEnd) → ReadsAt question support end
          → fate_after question support round (fate_from question more) end ≡ Ok answer → Fits answer
      by_end later PastSize read e = absurd (cc)
      by_end later PastPivots read e = absurd (cc)
      by_end later PastWidth read e = absurd (cc)
      by_end later (Met other) read e = subst Fits (same_answer other answer e) (fits support other read)
      by_end later (Apart own theirs) read e = later (with_moves question support own theirs) e
      by_end later Limitless read e = absurd (cc)

  -- so it does where the tree is within its budget
  pub answers_of : (Fits : Answer → Type 0)
      → ((support : Support) (answer : Answer) → IsMetAt question support answer → Fits answer)
      → (answer : Answer) → fate question ≡ Ok answer → Fits answer
  unfolding fate
  answers_of Fits fits answer is = by_count (nat_lt question.nodes (node_count question)) is
    where
      by_count : (b : Bool) → (if b then Err (ends.Nodes question.nodes) else fate_in_rounds question) ≡ Ok answer
          → Fits answer
      by_count true e = absurd (cc)
      by_count false e =
          answers_from Fits fits (suc (lacking question first_support)) first_support 0 answer e

less_one_more : (n : ℕ) → n < suc n
less_one_more n = omega arith

pub rounds_end : RoundsEnd
unfolding fate
rounds_end question valid = by_count (nat_lt question.nodes (node_count question))
  where
    by_count : (b : Bool)
        → (if b then Err (ends.Nodes question.nodes) else fate_in_rounds question) ≢ Err ends.Memory
    by_count true = λ e. absurd (cc)
    by_count false =
        rounds_come question valid (suc (lacking question first_support)) first_support 0
        (less_one_more (lacking question first_support))

pub answers_are_shown : AnswersAreShown
answers_are_shown question answer valid is =
    answers_of question valid (IsShown question) (λ support other met. shown question support other met) answer is

pub answers_are_writable : AnswersAreWritable
answers_are_writable question answer valid is =
    answers_of question valid (IsWritable question) (λ support other met. writable question support other met) answer is
