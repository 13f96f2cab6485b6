-- An answer of which `check` owes Done can be told (`done_tellable`): its plan is proper and its value is not large.
use Rattle.std.proofs.Common.{◌≡◌, ℕ, ◌+◌, ◌*◌, ◌<◌, ◌≤◌, Bool, true, false, [], refl, sym}
use Rattle.std.proofs.Common.{ap, ◌∙◌, subst, arith}
use Rattle.std.proofs.Math.IntN.{*ℤ_comm}
use Rattle.std.proofs.Math.Nat.{mul-le-mul_right}
use Rattle.std.proofs.lemmas.Int.{ints}
use Rattle.std.proofs.lemmas.Nat.{div-mul-add, le-div}
use Rattle.std.specs.Prelude.{ℤ, pos, negsuc, ◌*ℤ◌, ◌≤ℤ◌, ◌<ℤ◌, nat_lt, unsigned_abs, if◌then◌else◌}
use Rattle.suit_num.proofs.IntegerLaws.{int_le-true}
use Rattle.suit_num.specs.declared.fraction.Frac.{Frac}
use Rattle.suit_cards.specs.Cards.{ClassLayout}
use Rattle.suit_game.specs.declared.question.Question.{Question}
use Rattle.suit_game.specs.declared.limits.TheConstants.{HAND_SIZE, MOST_TOTAL}
use Rattle.suit_game.specs.Layouts.{total}
use Rattle.suit_game.specs.Validity.{IsValid}
use Rattle.suit_game.proofs.WhatAllLayoutsWeigh.{total_at_most}
use Rattle.suit_classes.specs.Classes.{sizes_of}
use Rattle.suit_layouts.specs.ClassLayouts.{class_layouts}
use Rattle.suit_tree.specs.WhatIsCounted.{node_count}
use Rattle.suit_plans.specs.BestReplies.{least, reply_to_plan, worth}
use Rattle.suit_plans.specs.Properness.{IsProperPlan}
use Rattle.suit_plans.specs.ReplyLaws.{IsPaid}
use Rattle.suit_plans.specs.declared.plan.Plan.{Plan}
use Rattle.suit_plans.specs.declared.plan.TheConstants.{MOST_DEN, MOST_MASS}
use Rattle.suit_plans.proofs.RepliesAreBounded.{sum_weighed, weighed_paid, weights_add}
use Rattle.suit_plans.proofs.AtMostThirteenTricks.{sum_paid}
use Rattle.suit_plans.proofs.ProperPlans.{proper_plan}
use Rattle.suit_answer.specs.declared.answer.Answer.{Answer}
use Rattle.suit_answer.specs.Reduced.{fraction}
use Rattle.suit_answer.proofs.OneFractionInLowestTerms.{fraction_small, made_fraction, some_from_one, whole_over}
use Rattle.suit_lines.specs.Lines.{lines_of}
use Rattle.suit_lines.specs.Values.{IsTellable}
use Rattle.suit_lines.specs.declared.value.TheConstants.{MOST_VALUE}
use Rattle.suit_check.specs.Verdicts.{Finding, Valid, Plan as PlanFound, Defence, Least, Most, verdict_of}
use Rattle.suit_check.specs.VerdictLaws.{IsMet}
use Rattle.suit_check.proofs.VerdictsMet.{valid_is_met}
use Rattle.suit_top.specs.declared.status.Status.TheVariants.{Done, Nodes, Usage}
use Rattle.suit_top.specs.Commands.Check.{due_checking, due_found}
use Rattle.suit_top.specs.Commands.Lines.{due_telling, is_done}
use Rattle.suit_top.specs.Dues.{Due, done}
use Rattle.suit_top.specs.Refusals.{nodes_line}
use Rattle.suit_top.proofs.ValidIsCertified.{below_nothing, check_tells}

-- ---- what `check` owes with Done

found_valid : (found : Finding) → (due_found found).status ≡ Done → found ≡ Valid
found_valid Valid is = refl
found_valid (PlanFound fault) is = absurd (cc)
found_valid (Defence fault) is = absurd (cc)
found_valid (Least found) is = absurd (cc)
found_valid (Most found) is = absurd (cc)

budget_valid : (past : Bool) (question : Question) (answer : Answer)
    → (if past then record { status = Nodes; text = nodes_line question.nodes }
    else due_found (verdict_of question answer)).status ≡ Done → verdict_of question answer ≡ Valid
budget_valid true question answer is = absurd (cc)
budget_valid false question answer is = found_valid (verdict_of question answer) is

done_met : (question : Question) (answer : Answer) → IsValid question → (due_checking question answer).status ≡ Done
    → IsMet question answer
done_met question answer valid is = (valid_is_met question answer valid).0
    (budget_valid (nat_lt question.nodes (node_count question)) question answer is)

pub done_proper : (question : Question) (answer : Answer) → IsValid question
    → (due_checking question answer).status ≡ Done → IsProperPlan question answer.plan
done_proper question answer valid is = (done_met question answer valid is).plan

-- ---- the value of a valid answer

-- a plan earns at least no more than thirteen tricks of all weights
plan_paid : (question : Question) (plan : Plan) → IsValid question → IsProperPlan question plan
    → IsPaid (pos (total question) *ℤ plan.den) (least question plan)
unfolding least
plan_paid question plan valid proper =
    let layouts = class_layouts question (sizes_of question) in
    let worths : ClassLayout × ℕ → ℤ = λ layout. pos layout.1 *ℤ worth (reply_to_plan question plan layout.0) [] in
    subst (λ (mass : ℤ). IsPaid mass (least question plan))
    (sum_weighed plan.den layouts ∙ ap (λ (n : ℕ). pos n *ℤ plan.den) (weights_add question))
    (sum_paid worths (λ (layout : ClassLayout × ℕ). pos layout.1 *ℤ plan.den) layouts
    (λ layout found. weighed_paid question plan layout valid proper found))

few_times : (a n d w : ℕ) → 0 < w → a ≤ HAND_SIZE * w → a * d ≡ n * w → n ≤ MOST_VALUE * d
few_times a n d w some few same =
    let scaled : a * d ≤ (HAND_SIZE * w) * d = mul-le-mul_right d few in
    let within : n * w ≤ (HAND_SIZE * d) * w + 0 = omega (arith, same, scaled) in
    let small : n ≤ HAND_SIZE * d = subst (λ (m : ℕ). n ≤ m) (div-mul-add (HAND_SIZE * d) w 0 some)
    (le-div n ((HAND_SIZE * d) * w + 0) w some within) in
    omega arith

record IsFew (num den : ℤ) : Type 0 where
  least : pos 0 ≤ℤ num
  most : num ≤ℤ (pos MOST_VALUE *ℤ den)

few_value : (number num den whole : ℤ) → pos 0 ≤ℤ number → number ≤ℤ (pos HAND_SIZE *ℤ whole) → pos 0 <ℤ den
    → pos 0 <ℤ whole → number *ℤ den ≡ num *ℤ whole → IsFew num den
few_value (pos a) (pos n) (pos d) (pos w) low few positive some same =
    let small : n ≤ MOST_VALUE * d =
    few_times a n d w (omega (arith, ints, some)) (omega (arith, ints, few)) (ap unsigned_abs same) in
    record { least = omega (arith, ints); most = omega (arith, ints, small) }
few_value (pos a) (negsuc n) (pos d) (pos w) low few positive some same =
    absurd (below_nothing (a * d) n w (omega (arith, ints, some)) same)
few_value (negsuc a) num den whole low few positive some same = absurd (omega (arith, ints, low))
few_value (pos a) num (negsuc d) whole low few positive some same = absurd (omega (arith, ints, positive))
few_value (pos a) num (pos d) (negsuc w) low few positive some same = absurd (omega (arith, ints, some))

-- a denominator that is no larger than a plan's times the total weight is not large
fine_den : (den part : ℤ) (t : ℕ) → pos 1 ≤ℤ part → part ≤ℤ MOST_DEN → t ≤ MOST_TOTAL → den ≤ℤ (part *ℤ pos t)
    → den ≤ℤ pos MOST_MASS
fine_den den (pos p) t one most few within =
    let below : den ≤ℤ pos (p * t) = within in
    let scaled : p * t ≤ unsigned_abs MOST_DEN * t = mul-le-mul_right t (omega (arith, ints, most)) in
    omega (arith, ints, below, scaled, few)
fine_den den (negsuc p) t one most few within = absurd (omega (arith, ints, one))

pub done_tellable : (question : Question) (answer : Answer) → IsValid question
    → (due_checking question answer).status ≡ Done → IsTellable answer.value
done_tellable question answer valid is =
    let met = done_met question answer valid is in
    let bounds = proper_plan question answer.plan met.plan in
    let one : pos 1 ≤ℤ answer.plan.den = int_le-true (pos 1) answer.plan.den bounds.0 in
    let number : ℤ = least question answer.plan in
    let whole : ℤ = answer.plan.den *ℤ pos (total question) in
    let some : pos 0 <ℤ whole = whole_over question answer.plan.den valid (some_from_one answer.plan.den one) in
    let paid = plan_paid question answer.plan valid met.plan in
    let few : number ≤ℤ (pos HAND_SIZE *ℤ whole) =
    subst (λ (z : ℤ). number ≤ℤ (pos HAND_SIZE *ℤ z)) (*ℤ_comm (pos (total question)) answer.plan.den) paid.few in
    let small = few_value number answer.value.num answer.value.den whole paid.some few answer.value.positive some
    met.least in
    let lowest : answer.value ≡ fraction number whole = made_fraction answer.value number whole some met.least in
    record {
      least = small.least;
      most = small.most;
      fine = fine_den answer.value.den answer.plan.den (total question) one
          (int_le-true answer.plan.den MOST_DEN bounds.1) (total_at_most question valid)
          (subst (λ (f : Frac). f.den ≤ℤ whole) (sym lowest) (fraction_small number whole some paid.some).2);
    }

-- ---- what is told

told_usage : (b : Bool) (question : Question) (answer : Answer) (due : Due) → (due.status ≡ Usage → ⊥)
    → (if b then done (lines_of question answer) else due).status ≡ Usage → ⊥
told_usage true question answer due tells usage = cc
told_usage false question answer due tells usage = tells usage

-- `lines` owes Usage about no answer
pub lines_tell : (question : Question) (answer : Answer) → (due_telling question answer).status ≡ Usage → ⊥
lines_tell question answer usage =
    told_usage (is_done (due_checking question answer).status) question answer (due_checking question answer)
    (check_tells question answer) usage
