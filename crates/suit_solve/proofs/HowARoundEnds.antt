-- How a round ends by what was played of it (`played_past`, `played_read`, `met_so`, `apart_so`).
use Rattle.std.proofs.Common.{◌≡◌, ℕ, ◌<◌, ◌≤◌, ◌-◌, ◌^◌, Bool, true, false, Ok, Err, length, refl, sym, ap}
use Rattle.std.proofs.Common.{◌∙◌}
use Rattle.std.proofs.Common.{min, arith}
use Rattle.std.specs.Prelude.{◌&&◌, ℤ, pos, ◌*ℤ◌, ◌<ℤ◌, if◌then◌else◌}
use Rattle.std.specs.Ordering.{int_eq}
use Rattle.std.proofs.lemmas.Bool.{and_from, and_parts, le-ltb, lt-ltb, false≢true}
use Rattle.std.proofs.lemmas.Bool.Decides.{Decides-int_eq}
use Rattle.std.proofs.lemmas.Int.{ints}
use Rattle.suit_num.specs.declared.fraction.Frac.{Frac}
use Rattle.suit_num.proofs.FractionLaws.{fraction_same_trans, same_reduced}
use Rattle.suit_num.proofs.IntegerLaws.{mul_assoc, same_from_mul}
use Rattle.suit_game.specs.declared.question.Question.{Question}
use Rattle.suit_game.specs.Layouts.{total}
use Rattle.suit_game.specs.Validity.{IsValid}
use Rattle.suit_plans.specs.BestReplies.{least, least_reply, most, most_reply}
use Rattle.suit_plans.specs.declared.plan.Plan.{Plan}
use Rattle.suit_plans.specs.declared.defence.Defence.{Defence}
use Rattle.suit_plans.specs.Properness.{IsProperDefence, IsProperPlan}
use Rattle.suit_linear.specs.declared.program.Program.{Program}
use Rattle.suit_linear.specs.declared.ends.Optimum.{Optimum}
use Rattle.suit_linear.specs.declared.ends.SimplexEnd.TheVariants as ends
use Rattle.suit_linear.specs.Ends.{IsOptimumOf, Tells}
use Rattle.suit_linear.specs.Tableaus.{Tableau}
use Rattle.suit_linear.specs.Runs.{RunEnd, AtOptimum, AtBudget, AtWide, AtRay, run_end}
use Rattle.suit_program.specs.Programs.{program_of, size_of}
use Rattle.suit_program.specs.Readings.ReadingLaws.{defence_read, plan_read}
use Rattle.suit_program.specs.Readings.{is_too_wide, parts_of}
use Rattle.suit_program.specs.Supports.{Support}
use Rattle.suit_program.proofs.lemmas.Programs.WellFormed.{programs_are_well_formed}
use Rattle.suit_solve.specs.Comparing.{answer_of, are_met}
use Rattle.suit_answer.specs.Reduced.{fraction}
use Rattle.suit_solve.specs.Limits.{most_size}
use Rattle.suit_solve.specs.Rounds.{PastSize, PastPivots, PastWidth, Met, Apart, compared, ran_end, read_end}
use Rattle.suit_solve.specs.Rounds.{round_within}
use Rattle.suit_answer.proofs.OneFractionInLowestTerms.{fraction_exact}
use Rattle.suit_solve.proofs.LastTableaus.{last_is}
use Rattle.suit_answer.proofs.OneFractionInLowestTerms.{whole_over}
use Rattle.suit_solve.proofs.AnswerShowsItsValue.{defence_over, plan_over}

-- ---- the size

module _ (question : Question) (pivots : ℕ) (support : Support) where
  abbrev program : Program
  program = program_of question support

  -- a size that is told to be past the limit is
  pub played_past : (told : ℕ) → told ≡ min (size_of question support) (2 ^ 32 - 1) → most_size question < told
      → round_within question pivots support ≡ PastSize
  unfolding round_within
  played_past told is past =
      ap (λ (b : Bool). if b then PastSize else ran_end question support (run_end program pivots))
      (lt-ltb (most_size question) (size_of question support) (more (size_of question support) is past))
    where
      more : (size : ℕ) → told ≡ min size (2 ^ 32 - 1) → most_size question < told → most_size question < size
      more size same less = omega (arith, same, less)

  -- and one that is told to be within it too
  pub played_within : (told : ℕ) → told ≡ min (size_of question support) (2 ^ 32 - 1) → told ≤ most_size question
      → size_of question support ≤ most_size question
  played_within told is within = fewer (size_of question support) is within
    where
      fewer : (size : ℕ) → told ≡ min size (2 ^ 32 - 1) → told ≤ most_size question → size ≤ most_size question
      fewer size same le = omega (arith, same, le)

  -- ---- the run

  module _ (few : size_of question support ≤ most_size question) where
    -- then the round ends as its run does
    ran : round_within question pivots support ≡ ran_end question support (run_end program pivots)
    unfolding round_within
    ran = ap (λ (b : Bool). if b then PastSize else ran_end question support (run_end program pivots))
        (le-ltb (most_size question) (size_of question support) few)

    pub played_pivots : Tells program (run_end program pivots) (Err ends.Pivots)
        → round_within question pivots support ≡ PastPivots
    played_pivots told = ran ∙ by_end (run_end program pivots) told
      where
        by_end : (end : RunEnd) → Tells program end (Err ends.Pivots) → ran_end question support end ≡ PastPivots
        by_end (AtOptimum tableau) is = absurd is
        by_end AtBudget is = refl
        by_end (AtWide pivot) is = absurd is
        by_end AtRay is = absurd is

    pub played_wide : (pivot : ℕ) → Tells program (run_end program pivots) (Err (ends.Wide pivot))
        → round_within question pivots support ≡ PastWidth
    played_wide pivot told = ran ∙ by_end (run_end program pivots) told
      where
        by_end : (end : RunEnd) → Tells program end (Err (ends.Wide pivot))
            → ran_end question support end ≡ PastWidth
        by_end (AtOptimum tableau) is = absurd is
        by_end AtBudget is = absurd is
        by_end (AtWide number) is = refl
        by_end AtRay is = absurd is

    module _ (valid : IsValid question) (optimum : Optimum)
        (told : Tells program (run_end program pivots) (Ok optimum)) where
      ended : (end : RunEnd) → run_end program pivots ≡ end → Tells program end (Ok optimum)
          → (tableau : Tableau) × (run_end program pivots ≡ AtOptimum tableau)
          × IsOptimumOf program tableau optimum
      ended (AtOptimum tableau) e is = (tableau, e, is)
      ended AtBudget e is = absurd is
      ended (AtWide number) e is = absurd is
      ended AtRay e is = absurd is

      -- the numbers of an optimum's point are as many as the columns
      pub played_columns : length optimum.point ≡ length program.costs
      played_columns = (ended (run_end program pivots) refl told).2.columns

      -- and the round ends as its reading does
      pub played_read : round_within question pivots support ≡ read_end question support optimum
      played_read =
          let at = ended (run_end program pivots) refl told in
          ran ∙ ap (ran_end question support) at.1
          ∙ ap (read_end question support) (sym (last_is program pivots
          (programs_are_well_formed question support valid) at.0 at.1 optimum at.2))

      -- too wide
      pub read_wide : is_too_wide question support (parts_of optimum.point) optimum.scale ≡ true
          → round_within question pivots support ≡ PastWidth
      unfolding read_end
      read_wide wide = played_read
          ∙ ap (λ (b : Bool). if b then PastWidth
          else compared question (plan_read question support optimum) (defence_read question support optimum)) wide

      -- or compared
      pub read_compared : (plan : Plan) (defence : Defence)
          → is_too_wide question support (parts_of optimum.point) optimum.scale ≡ false
          → plan ≡ plan_read question support optimum → defence ≡ defence_read question support optimum
          → round_within question pivots support ≡ compared question plan defence
      unfolding read_end
      read_compared plan defence narrow plays holds =
          played_read
          ∙ ap (λ (b : Bool). if b then PastWidth
          else compared question (plan_read question support optimum) (defence_read question support optimum)) narrow
          ∙ ap (λ (p : Plan). compared question p (defence_read question support optimum)) (sym plays)
          ∙ ap (compared question plan) (sym holds)

-- ---- both numbers

module _ (question : Question) (plan : Plan) (defence : Defence) (valid : IsValid question)
    (plays : IsProperPlan question plan) (holds : IsProperDefence question defence) where
  abbrev weight : ℤ
  weight = pos (total question)

  own_over : pos 0 <ℤ (plan.den *ℤ weight)
  own_over = whole_over question plan.den valid (plan_over question plan plays)

  their_over : pos 0 <ℤ (defence.den *ℤ weight)
  their_over = whole_over question defence.den valid (defence_over question defence holds)

  weight_over : pos 0 <ℤ weight
  weight_over = some (total question) valid.has_weight
    where
      some : (n : ℕ) → 0 < n → pos 0 <ℤ pos n
      some n more = omega (arith, ints, more)

  swapped : (a b : ℤ) → a *ℤ (b *ℤ weight) ≡ a *ℤ b *ℤ weight
  swapped a b = sym (mul_assoc a b weight)

  -- where both fractions are the same the plan and the defence meet
  pub same_met : (fraction (most question defence) (defence.den *ℤ weight)).num
      ≡ (fraction (least question plan) (plan.den *ℤ weight)).num
      → (fraction (most question defence) (defence.den *ℤ weight)).den
      ≡ (fraction (least question plan) (plan.den *ℤ weight)).den
      → are_met question plan defence ≡ true
  same_met num den =
      let earned : ℤ = least question plan in
      let allowed : ℤ = most question defence in
      let value = fraction earned (plan.den *ℤ weight) in
      let other = fraction allowed (defence.den *ℤ weight) in
      let exact : allowed *ℤ value.den ≡ value.num *ℤ (defence.den *ℤ weight) =
      ap (λ (z : ℤ). allowed *ℤ z) (sym den) ∙ fraction_exact allowed (defence.den *ℤ weight) their_over
      ∙ ap (λ (z : ℤ). z *ℤ (defence.den *ℤ weight)) num in
      let whole : earned *ℤ (defence.den *ℤ weight) ≡ allowed *ℤ (plan.den *ℤ weight) =
      fraction_same_trans earned (plan.den *ℤ weight) value.num value.den allowed (defence.den *ℤ weight)
      value.positive (fraction_exact earned (plan.den *ℤ weight) own_over) (sym exact) in
      (Decides-int_eq (earned *ℤ defence.den) (allowed *ℤ plan.den)).1
      (same_from_mul (earned *ℤ defence.den) (allowed *ℤ plan.den) weight
      (sym (swapped earned defence.den) ∙ whole ∙ swapped allowed plan.den) weight_over)

  -- and the other way round
  pub met_same : are_met question plan defence ≡ true
      → ((fraction (most question defence) (defence.den *ℤ weight)).num
      ≡ (fraction (least question plan) (plan.den *ℤ weight)).num)
      × ((fraction (most question defence) (defence.den *ℤ weight)).den
      ≡ (fraction (least question plan) (plan.den *ℤ weight)).den)
  met_same met =
      let earned : ℤ = least question plan in
      let allowed : ℤ = most question defence in
      let value = fraction earned (plan.den *ℤ weight) in
      let other = fraction allowed (defence.den *ℤ weight) in
      let same : earned *ℤ defence.den ≡ allowed *ℤ plan.den =
      (Decides-int_eq (earned *ℤ defence.den) (allowed *ℤ plan.den)).0 met in
      let whole : allowed *ℤ (plan.den *ℤ weight) ≡ earned *ℤ (defence.den *ℤ weight) =
      swapped allowed plan.den ∙ ap (λ (z : ℤ). z *ℤ weight) (sym same) ∙ sym (swapped earned defence.den) in
      let second : allowed *ℤ value.den ≡ value.num *ℤ (defence.den *ℤ weight) =
      fraction_same_trans allowed (defence.den *ℤ weight) earned (plan.den *ℤ weight) value.num value.den own_over
      whole (fraction_exact earned (plan.den *ℤ weight) own_over) in
      same_reduced other.num other.den value.num value.den other.positive value.positive other.coprime value.coprime
      (fraction_same_trans other.num other.den allowed (defence.den *ℤ weight) value.num value.den their_over
      (sym (fraction_exact allowed (defence.den *ℤ weight) their_over)) second)

  -- so they meet at the value
  pub met_so : are_met question plan defence ≡ true
      → compared question plan defence ≡ Met (answer_of question plan defence)
  unfolding compared
  met_so met = ap (λ (b : Bool). if b then Met (answer_of question plan defence)
      else Apart (most_reply question defence) (least_reply question plan)) met

  pub apart_so : are_met question plan defence ≡ false
      → compared question plan defence ≡ Apart (most_reply question defence) (least_reply question plan)
  unfolding compared
  apart_so apart = ap (λ (b : Bool). if b then Met (answer_of question plan defence)
      else Apart (most_reply question defence) (least_reply question plan)) apart

  -- ---- as they are told

  module _ (value other : Frac) (earned allowed : ℤ) (is_earned : earned ≡ least question plan)
      (is_allowed : allowed ≡ most question defence) (value_is : value ≡ fraction earned (plan.den *ℤ weight))
      (other_is : other ≡ fraction allowed (defence.den *ℤ weight)) where
    value_told : value ≡ fraction (least question plan) (plan.den *ℤ weight)
    value_told = value_is ∙ ap (λ (z : ℤ). fraction z (plan.den *ℤ weight)) is_earned

    other_told : other ≡ fraction (most question defence) (defence.den *ℤ weight)
    other_told = other_is ∙ ap (λ (z : ℤ). fraction z (defence.den *ℤ weight)) is_allowed

    -- where both fractions are told to be the same the round has met at the value
    pub compared_met : (int_eq other.num value.num && int_eq other.den value.den) ≡ true
        → compared question plan defence ≡ Met (record { value = value; plan = plan; defence = defence })
    unfolding answer_of
    compared_met same =
        let parts = and_parts (int_eq other.num value.num) (int_eq other.den value.den) same in
        met_so (same_met
        (ap (λ (f : Frac). f.num) (sym other_told) ∙ (Decides-int_eq other.num value.num).0 parts.0
        ∙ ap (λ (f : Frac). f.num) value_told)
        (ap (λ (f : Frac). f.den) (sym other_told) ∙ (Decides-int_eq other.den value.den).0 parts.1
        ∙ ap (λ (f : Frac). f.den) value_told))
        ∙ ap (λ (f : Frac). Met (record { value = f; plan = plan; defence = defence })) (sym value_told)

    -- where they are told apart it has not
    pub compared_apart : (int_eq other.num value.num && int_eq other.den value.den) ≡ false
        → compared question plan defence ≡ Apart (most_reply question defence) (least_reply question plan)
    compared_apart differ = apart_so (by_test (are_met question plan defence) refl)
      where
        by_test : (b : Bool) → are_met question plan defence ≡ b → b ≡ false
        by_test true met =
            let same = met_same met in
            absurd (false≢true (sym differ
            ∙ and_from (int_eq other.num value.num) (int_eq other.den value.den)
            ((Decides-int_eq other.num value.num).1 (ap (λ (f : Frac). f.num) other_told ∙ same.0
            ∙ ap (λ (f : Frac). f.num) (sym value_told)))
            ((Decides-int_eq other.den value.den).1 (ap (λ (f : Frac). f.den) other_told ∙ same.1
            ∙ ap (λ (f : Frac). f.den) (sym value_told)))))
        by_test false e = refl
