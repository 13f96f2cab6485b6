-- `found_checks`: an answer that is found to be valid is certified.
use Rattle.std.proofs.Common.{◌≡◌, ℕ, zero, suc, ◌*◌, ◌<◌, Bool, true, false, refl, sym, ap}
use Rattle.std.proofs.Common.{subst, arith}
use Rattle.std.proofs.lemmas.Int.{ints}
use Rattle.std.specs.Prelude.{ℤ, pos, negsuc, ◌*ℤ◌, ◌≤ℤ◌, ◌<ℤ◌, nat_lt, unsigned_abs, if◌then◌else◌}
use Rattle.suit_num.specs.Divisors.{IsCoprime}
use Rattle.suit_cards.specs.Cards.{Text}
use Rattle.suit_game.specs.declared.question.Question.{Question}
use Rattle.suit_game.specs.Layouts.{total}
use Rattle.suit_game.specs.Strategies.{counted}
use Rattle.suit_game.specs.Validity.{IsValid}
use Rattle.suit_tree.specs.WhatIsCounted.{node_count}
use Rattle.suit_plans.specs.BestReplies.{least, most}
use Rattle.suit_answer.specs.declared.answer.Answer.{Answer}
use Rattle.suit_check.specs.Verdicts.{Finding, Valid, Plan, Defence, Least, Most, verdict_of}
use Rattle.suit_check.specs.VerdictLaws.{IsMet}
use Rattle.suit_check.proofs.VerdictsMet.{valid_is_met}
use Rattle.suit_lift.proofs.DefenceGains.{defences_hold}
use Rattle.suit_lift.proofs.OneValue.{met_is_certified}
use Rattle.suit_lift.proofs.PlanGains.{plans_earn}
use Rattle.suit_top.specs.declared.status.Status.TheVariants.{Done, Nodes, Usage}
use Rattle.suit_top.specs.Certified.{IsCertifiedAnswer}
use Rattle.suit_top.specs.Commands.Check.{Checks, due_checking, due_found}
use Rattle.suit_top.specs.Dues.{Due}
use Rattle.suit_top.specs.Refusals.{nodes_line}

-- a number that comes to a fraction, in whole numbers
record IsWhole (number num den part : ℤ) (whole : ℕ) : Type 0 where
  num_is : num ≡ pos (counted num)
  den_is : den ≡ pos (counted den)
  met : counted number * counted den ≡ counted num * (counted part * whole)

-- a number that is not negative is not a negative one times a positive one
pub below_nothing : (a n m : ℕ) → 0 < m → pos a ≡ negsuc n *ℤ pos m → ⊥
below_nothing a n zero some same = omega (arith, some)
below_nothing a n (suc m) some same = omega (arith, ints, same)

met_whole : (number num den part : ℤ) (whole : ℕ) → pos 0 ≤ℤ number → pos 0 <ℤ den → 0 < counted part * whole
    → number *ℤ den ≡ num *ℤ (part *ℤ pos whole) → IsWhole number num den part whole
met_whole (pos a) (pos n) (pos d) (pos p) whole low above some met =
    record { num_is = refl; den_is = refl; met = ap counted met }
met_whole (pos a) (negsuc n) (pos d) (pos p) whole low above some met =
    absurd (below_nothing (a * d) n (p * whole) some met)
met_whole (negsuc a) num den part whole low above some met = absurd (omega (arith, ints, low))
met_whole (pos a) num (negsuc d) part whole low above some met = absurd (omega (arith, ints, above))
met_whole (pos a) num (pos d) (negsuc p) whole low above some met = absurd (omega (arith, some))

-- an answer that is met is certified
pub met_certified : (question : Question) (answer : Answer) → IsValid question → IsMet question answer
    → IsCertifiedAnswer question answer
met_certified question answer valid met =
    let low = plans_earn question answer.plan (λ west history move. 0) valid met.plan in
    let high = defences_hold question (λ history move. 0) answer.defence valid met.defence in
    let earned = met_whole (least question answer.plan) answer.value.num answer.value.den answer.plan.den
    (total question) low.not_negative answer.value.positive low.weighs met.least in
    let given = met_whole (most question answer.defence) answer.value.num answer.value.den answer.defence.den
    (total question) high.not_negative answer.value.positive high.weighs met.most in
    record {
      num = counted answer.value.num;
      den = counted answer.value.den;
      num_is = earned.num_is;
      den_is = earned.den_is;
      certified = met_is_certified question (counted answer.value.num) (counted answer.value.den) answer.plan
          answer.defence valid met.plan met.defence
          (subst (λ (n : ℕ). IsCoprime n (counted answer.value.den)) (ap unsigned_abs earned.num_is)
          (subst (λ (n : ℕ). IsCoprime (unsigned_abs answer.value.num) n) (ap unsigned_abs earned.den_is)
          answer.value.coprime))
          (above_nothing answer.value.den answer.value.positive) earned.met given.met;
    }
  where
    above_nothing : (z : ℤ) → pos 0 <ℤ z → 0 < counted z
    above_nothing (pos n) some = omega (arith, ints, some)
    above_nothing (negsuc n) some = absurd (omega (arith, ints, some))

-- where this is found of an answer and told with Done, the answer is checked
pub found_checks : (question : Question) (answer : Answer) (found : Finding) (text : Text) → IsValid question
    → found ≡ verdict_of question answer → (due_found found).status ≡ Done → text ≡ (due_found found).text
    → Checks question answer text
found_checks question answer Valid text valid is done is_text = record {
  certified = met_certified question answer valid ((valid_is_met question answer valid).0 (sym is));
  is_text = is_text;
}
found_checks question answer (Plan fault) text valid is done is_text = absurd (cc)
found_checks question answer (Defence fault) text valid is done is_text = absurd (cc)
found_checks question answer (Least found) text valid is done is_text = absurd (cc)
found_checks question answer (Most found) text valid is done is_text = absurd (cc)

-- what is due about an answer, where it is known whether its tree fits the budget
abbrev due_within_budget : Bool → Question → Answer → Due
due_within_budget past question answer =
    if past then record { status = Nodes; text = nodes_line question.nodes } else due_found (verdict_of question answer)

found_tells : (found : Finding) → (due_found found).status ≡ Usage → ⊥
found_tells Valid usage = cc
found_tells (Plan fault) usage = cc
found_tells (Defence fault) usage = cc
found_tells (Least found) usage = cc
found_tells (Most found) usage = cc

budget_tells : (past : Bool) (question : Question) (answer : Answer)
    → (due_within_budget past question answer).status ≡ Usage → ⊥
budget_tells true question answer usage = cc
budget_tells false question answer usage = found_tells (verdict_of question answer) usage

-- `check` owes Usage about no answer
pub check_tells : (question : Question) (answer : Answer) → (due_checking question answer).status ≡ Usage → ⊥
check_tells question answer usage = budget_tells (nat_lt question.nodes (node_count question)) question answer usage
