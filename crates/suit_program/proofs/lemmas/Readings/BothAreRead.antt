-- What the parts of a reading ask of an optimum (`plan_case`, `priced_tree`), and that both make the reading
-- (`both_read`).
use Rattle.std.proofs.Common.{◌≡◌, Bool, false, true, length, sym, ap, ◌∙◌, subst}
use Rattle.std.specs.Prelude.{◌||◌, All, ℤ, pos, ◌≤ℤ◌, ◌<ℤ◌, int_lt}
use Rattle.std.proofs.Common.{arith, List}
use Rattle.std.proofs.lemmas.Int.{ints}
use Rattle.std.proofs.lemmas.List.{length-map}
use Rattle.suit_num.proofs.IntegerLaws.{int_lt-false}
use Rattle.suit_game.specs.declared.question.Question.{Question}
use Rattle.suit_plans.specs.declared.plan.TheConstants.{MOST_DEN}
use Rattle.suit_linear.specs.declared.ends.Optimum.{Optimum}
use Rattle.suit_tree.specs.declared.tree.Tree.{Tree}
use Rattle.suit_program.specs.declared.supports.support.Support.{Support as MarkedSupport}
use Rattle.suit_program.specs.Walks.DefenceWalks.{IsPricedTree}
use Rattle.suit_program.specs.Supports.Marks.{support_seen}
use Rattle.suit_program.specs.Programs.{columns, limits, program_of, row_of}
use Rattle.suit_program.specs.Readings.ReadingOfAnOptimum.{IsOptimumFor, IsPlanCase, IsPlanDen}
use Rattle.suit_program.specs.Readings.{is_too_wide, parts_of, plan_den}
use Rattle.suit_program.specs.Supports.{Support}

or_second_none : (a b : Bool) → (a || b) ≡ false → b ≡ false
or_second_none false b none = none
or_second_none true b none = absurd (cc)

module _ (tree : Tree) (marked : MarkedSupport) (optimum : Optimum) (case : IsOptimumFor tree marked optimum) where
  abbrev s : Support
  s = support_seen case.question marked

  abbrev pub plan_case : (den : ℤ) → IsPlanDen case.question s optimum den → IsPlanCase tree marked optimum den
  plan_case den told = record {
    question = case.question;
    valid = case.valid;
    grown = case.grown;
    readable = record {
      valid = case.valid;
      columns = case.columns;
      primal = case.primal;
      narrow = told.narrow;
    };
    is_den = told.is_den;
  }

  pub prices_long : length optimum.duals ≡ length (limits case.question s)
  unfolding program_of
  prices_long = case.dual.0.count
      ∙ length-map (limits case.question s) (row_of case.question s (columns case.question s))

  pub scale_few : (den : ℤ) → IsPlanDen case.question s optimum den → optimum.scale ≤ℤ MOST_DEN
  unfolding is_too_wide
  scale_few den told =
      int_lt-false MOST_DEN optimum.scale
      (or_second_none (int_lt MOST_DEN (plan_den case.question s (parts_of optimum.point)))
      (int_lt MOST_DEN optimum.scale) told.narrow)

  pub scale_some : pos 0 ≤ℤ optimum.scale
  scale_some = low optimum.scale case.dual.0.over
    where
      low : (z : ℤ) → pos 0 <ℤ z → pos 0 ≤ℤ z
      low z some = omega (arith, ints, some)

  abbrev pub priced_tree : (den : ℤ) → IsPlanDen case.question s optimum den → (prices : List ℤ)
      → prices ≡ optimum.duals → (scale : ℤ) → scale ≡ optimum.scale → IsPricedTree tree marked prices scale
  priced_tree den told prices same scale is = record {
    question = case.question;
    valid = case.valid;
    grown = case.grown;
    long = ap (λ (l : List ℤ). length l) same ∙ prices_long;
    low = subst (λ (l : List ℤ). All (λ price. pos 0 ≤ℤ price) l) (sym same) case.dual.0.rows;
    some = subst (λ (z : ℤ). pos 0 ≤ℤ z) (sym is) scale_some;
    few = subst (λ (z : ℤ). z ≤ℤ MOST_DEN) (sym is) (scale_few den told);
  }

-- a denominator that is told otherwise
pub same_den : (question : Question) (support : Support) (optimum : Optimum) (den other : ℤ) → other ≡ den
    → IsPlanDen question support optimum den → IsPlanDen question support optimum other
same_den question support optimum den other same told =
    record { narrow = told.narrow; is_den = same ∙ told.is_den }
