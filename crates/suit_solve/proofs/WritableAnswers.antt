-- An answer of a round can be written (`writable`).
use Rattle.std.proofs.Common.{◌≡◌, ℕ, ◌<◌, ◌≤◌, Bool, true, List, [], ◌∷◌, ◌++◌, length, map}
use Rattle.std.proofs.Common.{refl, sym, ap, ◌∙◌, subst, arith}
use Rattle.std.specs.Prelude.{All, Contains, ℤ, pos, negsuc, ◌*ℤ◌, ◌<ℤ◌, ◌≤ℤ◌, int_le}
use Rattle.std.proofs.Math.IntN.{*ℤ_comm}
use Rattle.std.proofs.lemmas.Int.{ints}
use Rattle.std.proofs.lemmas.List.{append-nil}
use Rattle.std.proofs.lemmas.List.Elements.{All-from_recursion}
use Rattle.suit_lists.proofs.Elements.{each_in}
use Rattle.suit_lists.proofs.Maps.{Contains-map}
use Rattle.suit_lists.proofs.Tests.{all_at, some_passing}
use Rattle.suit_num.proofs.IntegerLaws.{int_le-true, le-mul_right}
use Rattle.suit_num.specs.declared.fraction.Frac.{Frac}
use Rattle.suit_cards.specs.Cards.{ClassLayout}
use Rattle.suit_game.specs.declared.question.Question.{Question}
use Rattle.suit_game.specs.Layouts.{total}
use Rattle.suit_game.proofs.WhatAllLayoutsWeigh.{total_at_most}
use Rattle.suit_game.specs.declared.limits.TheConstants.{HAND_SIZE, MOST_TOTAL}
use Rattle.suit_classes.specs.declared.class_moves.ClassMove.{ClassMove}
use Rattle.suit_classes.specs.WhatIsAllowed.{allows, is_among}
use Rattle.suit_classes.specs.Classes.{class_count, defence_classes, hands_of, sizes_of}
use Rattle.suit_classes.specs.ClassGame.{Allows}
use Rattle.suit_classes.specs.ClassMoves.{ClassHistory}
use Rattle.suit_classes.specs.ClassPlaces.{class_after, class_moves}
use Rattle.suit_classes.proofs.AllowedMoveByMove.{allowed_moves}
use Rattle.suit_classes.proofs.CountsAllowAsTold.{allows_before, allows_tells}
use Rattle.suit_classes.proofs.SameMoves.{among-Contains}
use Rattle.suit_plans.specs.declared.plan.Plan.{Plan}
use Rattle.suit_plans.specs.declared.plan.Row.{Row}
use Rattle.suit_plans.specs.declared.defence.Defence.{Defence}
use Rattle.suit_plans.specs.declared.defence.DefenceRow.{DefenceRow}
use Rattle.suit_plans.specs.BestReplies.{least}
use Rattle.suit_plans.specs.Masses.{Shares, Side, declarer, defence_mass, defenders, mass_from, mass_of, weight_of}
use Rattle.suit_plans.specs.PlanLaws.{AreRealised}
use Rattle.suit_plans.specs.Properness.{IsProperDefence, IsProperPlan, defence_row_fault, moves_of, plan_row_fault}
use Rattle.suit_plans.specs.Properness.{some_allows, sum_of}
use Rattle.suit_plans.proofs.AllowedSoFar.{start_allows}
use Rattle.suit_plans.proofs.RepliesAreBounded.{leasts_bounded}
use Rattle.suit_plans.proofs.FirstFaults.{FitsTurn, IsFaultless}
use Rattle.suit_plans.proofs.MassBounds.{mass_falls}
use Rattle.suit_plans.proofs.ProperDefences.{defence_row_fits, defences_are_realised, proper_defence}
use Rattle.suit_plans.proofs.ProperDefences.{stands_after as defence_stands}
use Rattle.suit_plans.proofs.ProperPlans.{plan_row_fits, plans_are_realised, proper_plan, stands_after as plan_stands}
use Rattle.suit_plans.proofs.PublicMoves.{layout_tells}
use Rattle.suit_plans.proofs.RowLimits.{weight_at_most}
use Rattle.suit_plans.proofs.SharesAddUpToTheMass.{within_sum}
use Rattle.suit_plans.specs.declared.plan.TheConstants.{MOST_DEN, WORTH_BOUND}
use Rattle.suit_layouts.specs.ClassLayouts.{class_layouts}
use Rattle.suit_linear.specs.declared.ends.Optimum.{Optimum}
use Rattle.suit_program.specs.Readings.ReadingLaws.{defence_read, plan_read}
use Rattle.suit_program.specs.Readings.{parts_of, plan_point}
use Rattle.suit_program.specs.Supports.{Support}
use Rattle.suit_program.proofs.lemmas.Readings.DefencesHoldTheWorth.{read_defences_are_proper}
use Rattle.suit_program.proofs.lemmas.Readings.PlansKeepTheWorth.{read_plans_are_proper}
use Rattle.suit_program.proofs.lemmas.Readings.DefenceIsProper.{parted_at}
use Rattle.suit_answer.specs.declared.answer.Answer.{Answer}
use Rattle.suit_answer.specs.Writable.{IsWritable, IsWritableDefenceRow, IsWritableMove, IsWritableNumber}
use Rattle.suit_answer.specs.Writable.{IsWritableRow, IsWritableShare, IsWritableTurn}
use Rattle.suit_solve.specs.Comparing.{answer_of}
use Rattle.suit_answer.specs.Reduced.{fraction}
use Rattle.suit_solve.proofs.ClassesWithin.{history_writable, move_writable, within_after}
use Rattle.suit_answer.proofs.OneFractionInLowestTerms.{fraction_small, whole_over}
use Rattle.suit_solve.proofs.LayoutCounts.{layout_small}
use Rattle.suit_solve.proofs.Rounds.{AreRead, IsMetAt}
use Rattle.suit_solve.proofs.AnswerShowsItsValue.{defence_over, plan_over}
use Rattle.suit_solve.proofs.WritableRows.{defence_few, plan_few, plan_row_some, read_row}

-- ---- numbers

-- a number that is not negative and has few bits
pub writable_number : (number : ℤ) → pos 0 ≤ℤ number → number ≤ℤ WORTH_BOUND → IsWritableNumber number
writable_number (pos n) least most = record { least = least; narrow = omega (arith, ints, most) }
writable_number (negsuc n) least most = absurd (omega (arith, ints, least))

-- a denominator times a weight has few bits
pub weighed_number : (den : ℤ) (weight : ℕ) → pos 0 ≤ℤ den → den ≤ℤ MOST_DEN → weight ≤ MOST_TOTAL
    → (den *ℤ pos weight) ≤ℤ WORTH_BOUND
weighed_number den weight some most few =
    let up : (den *ℤ pos weight) ≤ℤ (MOST_DEN *ℤ pos weight) =
    le-mul_right den MOST_DEN (pos weight) most (omega (arith, ints)) in
    bounded (den *ℤ pos weight) weight up few
  where
    bounded : (z : ℤ) (weight : ℕ) → z ≤ℤ (MOST_DEN *ℤ pos weight) → weight ≤ MOST_TOTAL → z ≤ℤ WORTH_BOUND
    bounded z weight up few = omega (arith, ints, up, few)

-- ---- turns

-- masses fall along class histories
mass_within : (question : Question) (side : Side) (counts : ClassLayout) (before moves : ClassHistory)
    → AreRealised question side counts → Allows question counts (before ++ moves)
    → mass_of question side (before ++ moves) ≤ℤ mass_of question side before
mass_within question side counts before [] realised allowed = same_history (append-nil before)
  where
    same_history : before ++ [] ≡ before → mass_of question side (before ++ []) ≤ℤ mass_of question side before
    same_history same =
        subst (λ (h : ClassHistory). mass_of question side h ≤ℤ mass_of question side before) (sym same)
        (itself (mass_of question side before))
      where
        itself : (z : ℤ) → z ≤ℤ z
        itself z = omega (arith, ints)
mass_within question side counts before (move ∷ moves) realised allowed =
    let joined : (before ++ move ∷ []) ++ moves ≡ before ++ move ∷ moves = append_more before in
    let more : Allows question counts ((before ++ move ∷ []) ++ moves) =
    subst (Allows question counts) (sym joined) allowed in
    let next = mass_within question side counts (before ++ move ∷ []) moves realised more in
    let parts = (allowed_moves question counts before move).0
    (allows_before question counts (before ++ move ∷ []) moves more) in
    let falls = mass_falls question side counts before move realised parts.0 parts.1 in
    chain _ (mass_of question side (before ++ move ∷ [])) _
    (subst (λ (h : ClassHistory). mass_of question side h ≤ℤ mass_of question side (before ++ move ∷ [])) joined next)
    falls
  where
    append_more : (start : ClassHistory) → (start ++ move ∷ []) ++ moves ≡ start ++ move ∷ moves
    append_more [] = refl
    append_more (first ∷ start) = ap (λ (l : ClassHistory). first ∷ l) (append_more start)

    chain : (a b c : ℤ) → a ≤ℤ b → b ≤ℤ c → a ≤ℤ c
    chain a b c p q = omega (arith, ints, p, q)

-- so none is above that of the empty one
mass_most : (question : Question) (side : Side) (counts : ClassLayout) (history : ClassHistory)
    → AreRealised question side counts → Allows question counts history
    → mass_of question side history ≤ℤ side.whole
unfolding mass_of mass_from
mass_most question side counts history realised allowed =
    mass_within question side counts [] history realised allowed

counts_chain : (a b c : ℤ) → a ≤ℤ b → b ≤ℤ c → a ≤ℤ c
counts_chain a b c p q = omega (arith, ints, p, q)

-- a turn that fits can be written, where its side's whole mass has few bits and some mass comes to it
pub writable_turn : (question : Question) (side : Side) (counts : ClassLayout) (history : ClassHistory)
    (shares : Shares)
    (may_have stands : Bool) → FitsTurn question side history shares may_have stands
    → allows question counts history ≡ true → Allows question counts history → AreRealised question side counts
    → side.whole ≤ℤ WORTH_BOUND → 0 < length shares
    → IsWritableTurn (class_count (hands_of question)) history shares
writable_turn question side counts history shares may_have stands fits told allowed realised most some =
    let classes : ℕ = class_count (hands_of question) in
    let legal = class_moves (class_after question history) side.counts in
    let low : (share : ClassMove × ℤ) → Contains shares share → pos 0 ≤ℤ share.1 =
    λ share found. int_le-true (pos 0) share.1
    (all_at (λ (other : ClassMove × ℤ). int_le (pos 0) other.1) shares share fits.positive found) in
    record {
      moves = All-from_recursion (IsWritableMove classes) history (history_writable question counts history told);
      pairs = All-from_recursion (IsWritableShare classes) shares
          (each_in (IsWritableShare classes) shares (λ share found. (
            move_writable classes (class_after question history) (within_after question history) side.counts share.0
                (among-Contains legal share.0 (all_at (is_among legal) (moves_of shares) share.0 fits.legal
                (Contains-map (λ (other : ClassMove × ℤ). other.0) shares share found))),
            writable_number share.1 (low share found)
                (counts_chain share.1 (mass_of question side history) WORTH_BOUND
                (subst (λ (z : ℤ). share.1 ≤ℤ z) fits.adds
                (within_sum (λ (other : ClassMove × ℤ). other.1) shares share low found))
                (counts_chain (mass_of question side history) side.whole WORTH_BOUND
                (mass_most question side counts history realised allowed) most)),
          )));
      some = some;
    }

-- counts that add up to something are some
counts_some : (shares : Shares) → pos 0 <ℤ sum_of (map (λ (count : ClassMove × ℤ). count.1) shares)
    → 0 < length shares
unfolding sum_of
counts_some [] some = absurd (omega (arith, ints, some))
counts_some (count ∷ shares) some = omega arith

-- ---- rows

module _ (question : Question) (support : Support) (optimum : Optimum) (read : AreRead question support optimum) where
  abbrev plan : Plan
  plan = plan_read question support optimum

  abbrev defence : Defence
  defence = defence_read question support optimum

  plan_proper : IsProperPlan question plan
  plan_proper = read_plans_are_proper question support optimum read.readable

  defence_proper : IsProperDefence question defence
  defence_proper = read_defences_are_proper question support optimum read.priced

  plan_den_most : plan.den ≤ℤ MOST_DEN
  plan_den_most = int_le-true plan.den MOST_DEN (proper_plan question plan plan_proper).1

  defence_den_most : defence.den ≤ℤ MOST_DEN
  defence_den_most = int_le-true defence.den MOST_DEN (proper_defence question defence defence_proper).1

  not_below : (den : ℤ) → pos 0 <ℤ den → pos 0 ≤ℤ den
  not_below den some = omega (arith, ints, some)

  few_bits : (den : ℤ) → den ≤ℤ MOST_DEN → den ≤ℤ WORTH_BOUND
  few_bits den most = omega (arith, ints, most)

  plan_row : (row : Row) → Contains plan.rows row → IsWritableRow (class_count (hands_of question)) row
  unfolding some_allows
  plan_row row found =
      let parted = parted_at plan.rows row found in
      let fits = plan_row_fits question plan.den parted.front row parted.back
      (subst (IsFaultless (plan_row_fault question plan.den) []) parted.parts
      (proper_plan question plan plan_proper).2) in
      let some = some_passing (λ (layout : ClassLayout × ℕ). allows question layout.0 row.history)
      (class_layouts question (sizes_of question)) fits.allowed in
      writable_turn question (declarer plan.den (parted.front ++ row ∷ parted.back)) some.0.0 row.history row.counts
      (some_allows question row.history) (plan_stands row parted.front) fits some.2
      ((layout_tells question read.valid some.0 row.history some.1).0 some.2)
      (subst (λ (rows : List Row). AreRealised question (declarer plan.den rows) some.0.0) parted.parts
      (plans_are_realised question plan some.0.0 read.valid plan_proper))
      (few_bits plan.den plan_den_most)
      (plan_row_some question support (plan_point question support (parts_of optimum.point)) row found)

  defence_row : (row : DefenceRow) → Contains defence.rows row
      → IsWritableDefenceRow (class_count (hands_of question)) (length (defence_classes (hands_of question))) row
  unfolding defence_mass
  defence_row row found =
      let parted = parted_at defence.rows row found in
      let fits = defence_row_fits question defence.den parted.front row parted.back
      (subst (IsFaultless (defence_row_fault question defence.den) []) parted.parts
      (proper_defence question defence defence_proper).2) in
      let from = read_row question support read.valid optimum.duals optimum.scale read.priced.dual.0 row found in
      let small = layout_small question from.layout from.listed in
      let weight : ℕ = weight_of question row.west in
      record {
        blocks = ap length from.west ∙ small.0;
        small = subst (All (λ (count : ℕ). count ≤ HAND_SIZE)) (sym from.west)
            (All-from_recursion (λ (count : ℕ). count ≤ HAND_SIZE) from.layout.0 small.1);
        turn = writable_turn question (defenders question defence.den (parted.front ++ row ∷ parted.back) row.west)
            row.west row.history row.counts (allows question row.west row.history)
            (defence_stands row parted.front) fits.1 fits.1.allowed
            ((allows_tells question row.west row.history (start_allows question row.west read.valid fits.0)).0
            fits.1.allowed)
            (subst (λ (rows : List DefenceRow). AreRealised question (defenders question defence.den rows row.west)
            row.west) parted.parts
            (defences_are_realised question defence row.west read.valid defence_proper fits.0))
            (subst (λ (z : ℤ). z ≤ℤ WORTH_BOUND) (*ℤ_comm defence.den (pos weight))
            (weighed_number defence.den weight
            (not_below defence.den (defence_over question defence defence_proper)) defence_den_most
            (weight_at_most question row.west read.valid)))
            (counts_some row.counts
            (subst (λ (z : ℤ). pos 0 <ℤ z)
            (ap (λ (rows : List DefenceRow). mass_of question
            (defenders question defence.den rows row.west) row.history)
            parted.parts ∙ sym fits.1.adds) from.mass));
      }

  -- ---- the answer

  over : pos 0 <ℤ (plan.den *ℤ pos (total question))
  over = whole_over question plan.den read.valid (plan_over question plan plan_proper)

  writable_read : IsWritable question (answer_of question plan defence)
  unfolding answer_of
  writable_read =
      let earned = leasts_bounded question plan read.valid plan_proper in
      let whole : ℤ = plan.den *ℤ pos (total question) in
      let value : Frac = fraction (least question plan) whole in
      let small = fraction_small (least question plan) whole over earned.0 in
      let bits : least question plan ≤ℤ WORTH_BOUND = under (least question plan) earned.1 in
      record {
        num = writable_number value.num small.0
            (counts_chain value.num (least question plan) WORTH_BOUND small.1 bits);
        den = writable_number value.den (not_below value.den value.positive)
            (counts_chain value.den whole WORTH_BOUND small.2
            (weighed_number plan.den (total question) (not_below plan.den (plan_over question plan plan_proper))
            plan_den_most (total_at_most question read.valid)));
        plan = record {
          den = writable_number plan.den (not_below plan.den (plan_over question plan plan_proper))
              (few_bits plan.den plan_den_most);
          few = plan_few question support (plan_point question support (parts_of optimum.point)) read.few;
          rows = All-from_recursion (IsWritableRow (class_count (hands_of question))) plan.rows
              (each_in (IsWritableRow (class_count (hands_of question))) plan.rows plan_row);
        };
        defence = record {
          den = writable_number defence.den (not_below defence.den (defence_over question defence defence_proper))
              (few_bits defence.den defence_den_most);
          few = defence_few question support optimum.duals optimum.scale read.few;
          rows = All-from_recursion (IsWritableDefenceRow (class_count (hands_of question))
              (length (defence_classes (hands_of question)))) defence.rows
              (each_in (IsWritableDefenceRow (class_count (hands_of question))
              (length (defence_classes (hands_of question)))) defence.rows defence_row);
        };
      }
    where
      under : (z : ℤ) → z <ℤ WORTH_BOUND → z ≤ℤ WORTH_BOUND
      under z below = omega (arith, ints, below)

-- so can each answer of a round
pub writable : (question : Question) (support : Support) (answer : Answer) → IsMetAt question support answer
    → IsWritable question answer
writable question support answer is =
    subst (IsWritable question) is.answer_is (writable_read question support is.optimum is.read)
