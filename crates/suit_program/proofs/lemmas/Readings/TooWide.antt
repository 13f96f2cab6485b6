-- When a reading is too wide (`scale_wide`, `den_wide`, `den_narrow`), and that there are as many parts as columns
-- (`parts_long`).
use Rattle.std.proofs.Common.{◌≡◌, Bool, true, false, List, length, map, refl, sym, ap, ◌∙◌, subst}
use Rattle.std.specs.Prelude.{◌||◌, ℤ, pos, ◌≤ℤ◌, int_lt}
use Rattle.std.proofs.Common.{arith}
use Rattle.std.proofs.lemmas.Int.{ints}
use Rattle.std.proofs.lemmas.List.{length-map}
use Rattle.suit_num.specs.declared.fraction.Frac.{Frac}
use Rattle.suit_game.specs.declared.question.Question.{Question}
use Rattle.suit_plans.specs.declared.plan.TheConstants.{MOST_DEN}
use Rattle.suit_linear.specs.declared.ends.Optimum.{Optimum}
use Rattle.suit_program.specs.Programs.Points.{unit_point}
use Rattle.suit_program.specs.Programs.{columns, program_of}
use Rattle.suit_program.specs.Readings.ReadingOfAnOptimum.{IsPlanDen}
use Rattle.suit_program.specs.Readings.{is_passed, is_too_wide, parts_of, plan_den}
use Rattle.suit_program.specs.Readings.Sharing.{common_of}
use Rattle.suit_program.specs.Supports.{Support}
use Rattle.suit_program.specs.Programs.Worths.{objective_at}
use Rattle.suit_program.proofs.lemmas.Readings.LeastCommonMultiple.{common_told}

more_told : (x y : ℤ) → (y ≤ℤ x → ⊥) → int_lt x y ≡ true
more_told x y more = grind (arith, ints, more)

few_told : (x y : ℤ) → y ≤ℤ x → int_lt x y ≡ false
few_told x y few = grind (arith, ints, few)

or_second : (a b : Bool) → b ≡ true → (a || b) ≡ true
or_second true b is = refl
or_second false b is = is

or_first : (a b : Bool) → a ≡ true → (a || b) ≡ true
or_first a b is = ap (λ (c : Bool). c || b) is

or_none : (a b : Bool) → a ≡ false → b ≡ false → (a || b) ≡ false
or_none a b is none = ap (λ (c : Bool). c || b) is ∙ none

module _ (question : Question) (support : Support) (optimum : Optimum) where
  pub parts_long : length optimum.point ≡ length (program_of question support).costs
      → length optimum.point ≡ length (map is_passed (columns question support))
  unfolding program_of
  parts_long long =
      long ∙ length-map (columns question support) (λ column. objective_at question support (unit_point column))
      ∙ sym (length-map (columns question support) is_passed)

  pub scale_wide : (int_lt MOST_DEN optimum.scale) ≡ true
      → is_too_wide question support (parts_of optimum.point) optimum.scale ≡ true
  unfolding is_too_wide
  scale_wide wide =
      or_second (int_lt MOST_DEN (plan_den question support (parts_of optimum.point))) (int_lt MOST_DEN optimum.scale)
      wide

  den_told : (passed : List Bool) → passed ≡ map is_passed (columns question support)
      → pos (common_of passed (parts_of optimum.point)) ≡ plan_den question support (parts_of optimum.point)
  unfolding plan_den
  den_told passed is =
      ap (λ (l : List Bool). pos (common_of l (parts_of optimum.point))) is
      ∙ ap pos (common_told (columns question support) (parts_of optimum.point))

  den_held : (passed : List Bool) (fracs : List Frac) → passed ≡ map is_passed (columns question support)
      → fracs ≡ optimum.point
      → pos (common_of passed (parts_of fracs)) ≡ plan_den question support (parts_of optimum.point)
  den_held passed fracs is same =
      ap (λ (l : List Frac). pos (common_of passed (parts_of l))) same ∙ den_told passed is

  pub den_wide : (passed : List Bool) (fracs : List Frac) → passed ≡ map is_passed (columns question support)
      → fracs ≡ optimum.point → (pos (common_of passed (parts_of fracs)) ≤ℤ MOST_DEN → ⊥)
      → is_too_wide question support (parts_of optimum.point) optimum.scale ≡ true
  unfolding is_too_wide
  den_wide passed fracs is same more =
      or_first (int_lt MOST_DEN (plan_den question support (parts_of optimum.point))) (int_lt MOST_DEN optimum.scale)
      (more_told MOST_DEN (plan_den question support (parts_of optimum.point))
      (λ few. more (subst (λ (z : ℤ). z ≤ℤ MOST_DEN) (sym (den_held passed fracs is same)) few)))

  pub den_narrow : (passed : List Bool) (fracs : List Frac) → passed ≡ map is_passed (columns question support)
      → fracs ≡ optimum.point → pos (common_of passed (parts_of fracs)) ≤ℤ MOST_DEN
      → int_lt MOST_DEN optimum.scale ≡ false → (den : ℤ) → den ≡ pos (common_of passed (parts_of fracs))
      → IsPlanDen question support optimum den
  unfolding is_too_wide
  den_narrow passed fracs is same few scale den told = record {
    narrow = or_none (int_lt MOST_DEN (plan_den question support (parts_of optimum.point)))
        (int_lt MOST_DEN optimum.scale)
        (few_told MOST_DEN (plan_den question support (parts_of optimum.point))
        (subst (λ (z : ℤ). z ≤ℤ MOST_DEN) (den_held passed fracs is same) few)) scale;
    is_den = told ∙ den_held passed fracs is same;
  }
