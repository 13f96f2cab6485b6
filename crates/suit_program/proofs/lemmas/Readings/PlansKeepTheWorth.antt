-- What holds of the plan that is read from an optimum (`read_plans_are_proper`, `read_plans_keep_the_worth`).
use Rattle.std.proofs.Common.{◌≡◌, ℕ, ◌<◌, true, sym, ap, ◌∙◌, subst, arith}
use Rattle.std.specs.Prelude.{length, ℤ, pos, ◌+ℤ◌, ◌*ℤ◌, ◌<ℤ◌, ◌≤ℤ◌, int_le, int_lt}
use Rattle.std.proofs.lemmas.Bool.{or_parts}
use Rattle.std.proofs.lemmas.Int.{ints}
use Rattle.std.proofs.lemmas.List.{length-map}
use Rattle.std.proofs.Math.IntN.{*ℤ_comm}
use Rattle.suit_num.proofs.IntegerLaws.{int_lt-false, le-mul_right, le_from_mul, mul-add_right, mul_assoc}
use Rattle.suit_num.proofs.IntegerLaws.{mul_right_comm}
use Rattle.suit_game.specs.declared.question.Question.{Question}
use Rattle.suit_plans.specs.BestReplies.{least}
use Rattle.suit_plans.specs.Properness.{IsProperPlan}
use Rattle.suit_plans.specs.declared.plan.TheConstants.{MOST_DEN}
use Rattle.suit_linear.specs.declared.ends.Optimum.{Optimum}
use Rattle.suit_linear.specs.Optima.{IsCommon}
use Rattle.suit_linear.specs.Points.{dot}
use Rattle.suit_linear.specs.Programs.{IsFeasible}
use Rattle.suit_linear.proofs.CommonDenominators.{common_denominator}
use Rattle.suit_program.specs.Programs.Points.{Point, no_point, point_of, unit_point}
use Rattle.suit_program.specs.Programs.{columns, program_of, supported_worth}
use Rattle.suit_program.specs.Readings.ReadingLaws.{IsReadable, ReadPlansAreProper, ReadPlansKeepTheWorth}
use Rattle.suit_program.specs.Readings.{common_den, is_too_wide, parts_of, plan_at, plan_den, plan_point}
use Rattle.suit_program.specs.Supports.{Support}
use Rattle.suit_program.specs.Programs.Worths.{objective_at}
use Rattle.suit_program.proofs.lemmas.Programs.ObjectiveIsBounded.{feasible_within}
use Rattle.suit_program.proofs.lemmas.Readings.PlanKeeps.{part_proper, plan_keeps}
use Rattle.suit_program.proofs.lemmas.Programs.LinearInThePoint.{costs_tell}
use Rattle.suit_program.proofs.lemmas.Readings.PartOfAPoint.{IsPartOf, common_positive, plan_part}
use Rattle.suit_program.proofs.lemmas.Programs.WithinTheRows.{IsWithin}

-- ---- tests of numbers

low_told : (x y : ℤ) → x ≤ℤ y → int_le x y ≡ true
low_told x y le = grind (arith, ints, le)

less_told : (x y : ℤ) → x <ℤ y → int_lt x y ≡ true
less_told x y lt = grind (arith, ints, lt)

some_number : (n : ℕ) → 0 < n → pos 0 <ℤ pos n
some_number n some = omega (arith, ints, some)

one_number : (n : ℕ) → 0 < n → pos 1 ≤ℤ pos n
one_number n some = omega (arith, ints, some)

module _ (question : Question) (support : Support) (optimum : Optimum)
    (readable : IsReadable question support optimum) where
  abbrev point : Point
  point = plan_point question support (parts_of optimum.point)

  -- the optimum's columns over a denominator that they have in common
  abbrev given : ℕ → ℤ
  given = (common_denominator optimum.point).0

  abbrev den : ℤ
  den = (common_denominator optimum.point).1

  abbrev common : IsCommon optimum.point given den
  common = (common_denominator optimum.point).2

  abbrev full : Point
  full = point_of (columns question support) given den

  feasible : IsFeasible (program_of question support) given den
  feasible = (readable.primal given den common).0

  within : IsWithin question support full
  within = feasible_within question support readable.valid given den feasible

  columns_long : length optimum.point ≡ length (columns question support)
  unfolding program_of
  columns_long = readable.columns
      ∙ length-map (columns question support) (λ column. objective_at question support (unit_point column))

  part : (k : ℤ) × IsPartOf point full k
  part = plan_part question support optimum.point given den common columns_long

  pub over : pos 0 <ℤ point.one
  unfolding plan_point plan_den
  over = some_number (common_den (columns question support) (parts_of optimum.point))
      (common_positive (columns question support) optimum.point)

  one_told : int_le (pos 1) point.one ≡ true
  unfolding plan_point plan_den
  one_told = low_told (pos 1) (plan_den question support (parts_of optimum.point))
      (one_number (common_den (columns question support) (parts_of optimum.point))
      (common_positive (columns question support) optimum.point))

  few_told : int_le point.one (MOST_DEN) ≡ true
  unfolding plan_point is_too_wide
  few_told = low_told (plan_den question support (parts_of optimum.point)) (MOST_DEN)
      (int_lt-false (MOST_DEN) (plan_den question support (parts_of optimum.point))
      (or_parts (int_lt (MOST_DEN) (plan_den question support (parts_of optimum.point)))
      (int_lt (MOST_DEN) optimum.scale) readable.narrow).0)

  proper : IsProperPlan question (plan_at question support point)
  proper = part_proper question support point full part.0 part.1 readable.valid within one_told few_told

  -- the point is worth what the game of the support is
  worth_told : supported_worth question support optimum.value optimum.scale *ℤ den
      ≡ objective_at question support full *ℤ optimum.scale
  unfolding supported_worth
  worth_told =
      let costs : ℤ = dot (program_of question support).costs given in
      let none : ℤ = objective_at question support no_point in
      let objective : costs *ℤ optimum.scale ≡ optimum.value *ℤ den = (readable.primal given den common).1 in
      mul-add_right optimum.value (none *ℤ optimum.scale) den
      ∙ ap (λ (z : ℤ). z +ℤ none *ℤ optimum.scale *ℤ den) (sym objective)
      ∙ ap (λ (z : ℤ). costs *ℤ optimum.scale +ℤ z) (mul_right_comm none optimum.scale den)
      ∙ sym (mul-add_right costs (none *ℤ den) optimum.scale)
      ∙ ap (λ (z : ℤ). z *ℤ optimum.scale) (sym (costs_tell question support given den))

pub read_plans_are_proper : ReadPlansAreProper
read_plans_are_proper question support optimum readable = proper question support optimum readable

pub read_plans_keep_the_worth : ReadPlansKeepTheWorth
unfolding plan_point
read_plans_keep_the_worth question support optimum readable some all =
    let p : Point = point question support optimum readable in
    let f : Point = full question support optimum readable in
    let k : ℤ = (part question support optimum readable).0 in
    let is = (part question support optimum readable).1 in
    let earned : ℤ = least question (plan_at question support p) in
    let keeps : objective_at question support f ≤ℤ (k *ℤ earned) =
    plan_keeps question support p f k is readable.valid (within question support optimum readable)
    (proper question support optimum readable) all
    (less_told (pos 0) p.one (over question support optimum readable)) in
    cancelled (supported_worth question support optimum.value optimum.scale) p.one earned optimum.scale k f.one
    (objective_at question support f) is.over some is.one (worth_told question support optimum readable) keeps
  where
    cancelled : (worth den earned scale k whole objective : ℤ) → pos 0 <ℤ k → pos 0 <ℤ scale → whole ≡ k *ℤ den
        → worth *ℤ whole ≡ objective *ℤ scale → objective ≤ℤ (k *ℤ earned)
        → (worth *ℤ den) ≤ℤ (earned *ℤ scale)
    cancelled worth den earned scale k whole objective over some is told le =
        le_from_mul (worth *ℤ den) (earned *ℤ scale) k
        (subst (λ (z : ℤ). z ≤ℤ (earned *ℤ scale *ℤ k))
        (sym told ∙ ap (λ (z : ℤ). worth *ℤ z) (is ∙ *ℤ_comm k den) ∙ sym (mul_assoc worth den k))
        (subst (λ (z : ℤ). (objective *ℤ scale) ≤ℤ z)
        (ap (λ (z : ℤ). z *ℤ scale) (*ℤ_comm k earned) ∙ mul_right_comm earned k scale)
        (le-mul_right objective (k *ℤ earned) scale le (omega (arith, ints, some))))) over
