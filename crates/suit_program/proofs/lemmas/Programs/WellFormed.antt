-- Every support's program is well formed (`programs_are_well_formed`): no bound is negative, all numbers are narrow.
use Rattle.std.proofs.Common.{◌≡◌, ℕ, ◌<◌, ◌≤◌, Bool, true, false, List, [], ◌∷◌, ◌++◌, length, map, refl, sym, suc}
use Rattle.std.proofs.Common.{ap, ◌∙◌, arith}
use Rattle.std.specs.Prelude.{All, ◌&&◌, ◌^◌, if◌then◌else◌, ℤ, pos, negsuc, neg_ℤ, ◌-ℤ◌, ◌*ℤ◌, ◌≤ℤ◌, ◌-◌, bytes_eq}
use Rattle.std.proofs.lemmas.Bool.{and_parts}
use Rattle.std.proofs.lemmas.Int.{ints}
use Rattle.std.proofs.lemmas.List.{length-map}
use Rattle.suit_lists.proofs.Maps.{All-mapped}
use Rattle.suit_cards.specs.Cards.{ClassLayout}
use Rattle.suit_num.specs.Narrow.{IsNarrow}
use Rattle.suit_game.specs.declared.question.Question.{Question}
use Rattle.suit_game.specs.Layouts.{total}
use Rattle.suit_game.specs.Validity.{IsValid}
use Rattle.suit_game.proofs.WhatAllLayoutsWeigh.{total_at_most}
use Rattle.suit_game.specs.declared.limits.TheConstants.{HAND_SIZE, MOST_MOVES, MOST_TOTAL}
use Rattle.suit_classes.specs.declared.class_moves.ClassMove.{ClassMove}
use Rattle.suit_classes.specs.ClassMoves.{same_class_move}
use Rattle.suit_classes.proofs.SameMoves.{same_move_is}
use Rattle.suit_plans.specs.Orders.{same_class_history}
use Rattle.suit_plans.specs.Properness.{sum_of}
use Rattle.suit_plans.specs.ReplyLaws.{IsPaid}
use Rattle.suit_plans.proofs.RepliesAreBounded.{sum_weighed, weights_add}
use Rattle.suit_plans.proofs.HistoryOrder.{same_class_history_is}
use Rattle.suit_plans.proofs.NumberSums.{sum_nothing}
use Rattle.suit_linear.specs.declared.program.ProgramRow.{ProgramRow}
use Rattle.suit_program.specs.Programs.ProgramLaws.{ProgramsAreWellFormed}
use Rattle.suit_program.specs.Programs.Points.{IsPositive, Column, Held, Passed, Point, no_point, same_column}
use Rattle.suit_program.specs.Programs.Points.{unit_point}
use Rattle.suit_program.specs.Programs.{Answered, Limit, Shared, columns, excess, limits, program_of, row_of}
use Rattle.suit_program.specs.Programs.{sum_passed}
use Rattle.suit_program.specs.Supports.{Support, layouts_of, supported_moves}
use Rattle.suit_program.specs.Programs.Worths.{mass_at, objective_at, worth_at}
use Rattle.suit_program.proofs.lemmas.Programs.Beginnings.{begins, begins_itself, begins_part}
use Rattle.suit_program.proofs.lemmas.Programs.ObjectiveIsBounded.{thirteen_each}
use Rattle.suit_program.proofs.lemmas.Supports.WhatIsReached.{AtOwn, AtTheirs, StandsAt, limits_reached, reached_next}
use Rattle.suit_program.proofs.lemmas.Supports.WhatIsReached.{reached_none}
use Rattle.suit_program.proofs.lemmas.Programs.UnderAPath.{IsBetween, IsTame, path, tame_masses, tame_sums, tame_worths}
use Rattle.suit_program.proofs.lemmas.Programs.WorthWithinMass.{masses_low, objective_low, within_low}

-- ---- tame points

unit_low : (b : Bool) → pos 0 ≤ℤ (if b then pos 1 else pos 0)
unit_low true = omega (arith, ints)
unit_low false = omega (arith, ints)

unit_under : (b : Bool) (most : ℤ) → (b ≡ true → most ≡ pos 1) → pos 0 ≤ℤ most → (if b then pos 1 else pos 0) ≤ℤ most
unit_under true most same low = let is = same refl in omega (arith, ints, is)
unit_under false most same low = low

-- the class history that a column is at the end of
abbrev end_of : Column → List ClassMove
end_of (Passed history move) = history ++ move ∷ []
end_of (Held west history) = history

unit_below : (column other : Column)
    → (if same_column column other then pos 1 else pos 0) ≤ℤ (path (end_of column)).at other
unfolding same_column
unit_below (Passed history move) (Passed there next) =
    unit_under (same_class_history history there && same_class_move move next)
    (begins (there ++ next ∷ []) (history ++ move ∷ []))
    (λ same.
    let parts = and_parts (same_class_history history there) (same_class_move move next) same in
    ap (λ (h : List ClassMove). begins h (history ++ move ∷ []))
    (ap (λ (h : List ClassMove). h ++ next ∷ []) (sym (same_class_history_is history there parts.0))
    ∙ ap (λ (m : ClassMove). history ++ m ∷ []) (sym (same_move_is move next parts.1)))
    ∙ begins_itself (history ++ move ∷ []))
    (begins_part (there ++ next ∷ []) (history ++ move ∷ [])).low
unit_below (Passed history move) (Held counts there) = (begins_part there (history ++ move ∷ [])).low
unit_below (Held west history) (Passed there next) = (begins_part (there ++ next ∷ []) history).low
unit_below (Held west history) (Held counts there) =
    unit_under (bytes_eq west counts && same_class_history history there) (begins there history)
    (λ same. ap (λ (h : List ClassMove). begins h history)
    (sym (same_class_history_is history there
    (and_parts (bytes_eq west counts) (same_class_history history there) same).1)) ∙ begins_itself history)
    (begins_part there history).low

unit_tame : (column : Column) → IsTame (unit_point column)
unit_tame column = record {
  positive = record { at = λ other. unit_low (same_column column other); one = omega (arith, ints) };
  target = end_of column;
  under = λ other. unit_below column other;
  one = omega (arith, ints);
}

none_below : (column : Column) → pos 0 ≤ℤ (path []).at column
none_below (Passed history move) = (begins_part (history ++ move ∷ []) []).low
none_below (Held west history) = (begins_part history []).low

none_positive : IsPositive no_point
none_positive = record { at = λ column. omega (arith, ints); one = omega (arith, ints) }

none_tame : IsTame no_point
none_tame = record {
  positive = none_positive;
  target = [];
  under = none_below;
  one = omega (arith, ints);
}

-- ---- their numbers

-- a number of at most thirteen tricks, or less than nothing
record IsTiny (number : ℤ) : Type 0 where
  low : neg_ℤ (pos HAND_SIZE) ≤ℤ number
  few : number ≤ℤ pos 1

difference_tiny : (x y : ℤ) → IsBetween (pos 1) x → IsBetween (pos HAND_SIZE) y → IsTiny (x -ℤ y)
difference_tiny x y first second =
    let a = first.low in let b = first.few in let c = second.low in let d = second.few in
    record { low = omega (arith, ints, a, b, c, d); few = omega (arith, ints, a, b, c, d) }

wider : (x : ℤ) → IsBetween (pos 1) x → IsBetween (pos HAND_SIZE) x
wider x between = let a = between.low in let b = between.few in
    record { low = a; few = omega (arith, ints, b) }

narrow_within : (number : ℤ) (most : ℕ) → neg_ℤ (pos most) ≤ℤ number → number ≤ℤ pos most → most < 2 ^ 127
    → IsNarrow number
narrow_within (pos n) most low few below = omega (arith, ints, low, few, below)
narrow_within (negsuc n) most low few below = omega (arith, ints, low, few, below)

tiny_narrow : (number : ℤ) → IsTiny number → IsNarrow number
tiny_narrow number tiny =
    let a = tiny.low in let b = tiny.few in
    narrow_within number HAND_SIZE (omega (arith, ints, a)) (omega (arith, ints, b)) (omega arith)

neg_narrow : (number : ℤ) → IsTiny number → IsNarrow (neg_ℤ number)
neg_narrow number tiny =
    let a = tiny.low in let b = tiny.few in
    narrow_within (neg_ℤ number) HAND_SIZE (omega (arith, ints, a, b)) (omega (arith, ints, a, b)) (omega arith)

module _ (question : Question) (support : Support) (valid : IsValid question) where
  excess_tiny : (point : Point) → IsTame point → (limit : Limit) → StandsAt question support limit
      → IsTiny (excess question support point limit)
  unfolding excess
  excess_tiny point tame limit (AtOwn history chooses there) =
      difference_tiny (sum_passed question support point history) (mass_at question support point history)
      (tame_sums question support valid point tame there.layout there.listed history there.reached chooses)
      (wider (mass_at question support point history)
      (tame_masses question support valid point tame there.layout there.listed history there.reached))
  excess_tiny point tame limit (AtTheirs layout history move listed reached chooses found) =
      difference_tiny (point.at (Held layout.0 history))
      (worth_at question support point layout.0 (history ++ move ∷ [])) (record {
        low = tame.positive.at (Held layout.0 history);
        few = under (tame.under (Held layout.0 history)) (begins_part history tame.target).most;
      })
      (tame_worths question support valid point tame layout listed (history ++ move ∷ [])
      (reached_next question support layout.0 history move reached found))
    where
      under : {x y z : ℤ} → x ≤ℤ y → y ≤ℤ z → x ≤ℤ z
      under p q = omega (arith, ints, p, q)

  -- what all class layouts are worth at the start
  objective_few : (point : Point) → IsTame point
      → objective_at question support point ≤ℤ pos 135207800
  unfolding objective_at
  objective_few point tame =
      let most : ℤ = sum_of (map (λ (layout : ClassLayout × ℕ). pos layout.1 *ℤ pos HAND_SIZE) (layouts_of question)) in
      let all = thirteen_each question (λ layout. worth_at question support point layout.0 []) (pos 1)
      (λ layout found. paid (worth_at question support point layout.0 [])
      (tame_worths question support valid point tame layout found []
      (reached_none question support layout.0))) in
      let weighs : most ≡ pos (total question) *ℤ pos HAND_SIZE =
      sum_weighed (pos HAND_SIZE) (layouts_of question) ∙ ap (λ (n : ℕ). pos n *ℤ pos HAND_SIZE)
      (weights_add question) in
      limited (objective_at question support point) most (total question) all weighs (total_at_most question valid)
    where
      paid : (worth : ℤ) → IsBetween (pos HAND_SIZE) worth → IsPaid (pos 1) worth
      paid worth between = record { some = between.low; few = let a = between.few in omega (arith, ints, a) }

      limited : (number most : ℤ) (weight : ℕ) → number ≤ℤ (most *ℤ pos 1) → most ≡ pos weight *ℤ pos HAND_SIZE
          → weight ≤ MOST_TOTAL → number ≤ℤ pos 135207800
      limited number most weight le is few = omega (arith, ints, le, is, few)

  costs_narrow : (column : Column) → IsNarrow (objective_at question support (unit_point column))
  costs_narrow column =
      let number : ℤ = objective_at question support (unit_point column) in
      let low = objective_low question support (unit_point column) (unit_tame column).positive in
      let few = objective_few (unit_point column) (unit_tame column) in
      narrow_within number 135207800 (omega (arith, ints, low)) few (omega arith)

  -- no right side is negative, whatever the row
  bound_low : (limit : Limit) → pos 0 ≤ℤ neg_ℤ (excess question support no_point limit)
  unfolding excess
  bound_low (Shared history) =
      turned (sum_passed question support no_point history) (mass_at question support no_point history)
      (sum_nothing (λ move. pos 0) (supported_moves question support [] history) (λ move found. refl))
      (masses_low question support no_point none_positive history)
    where
      turned : (x y : ℤ) → x ≡ pos 0 → pos 0 ≤ℤ y → pos 0 ≤ℤ neg_ℤ (x -ℤ y)
      turned x y none low = omega (arith, ints, none, low)
  bound_low (Answered west history move) =
      turned (worth_at question support no_point west (history ++ move ∷ []))
      (within_low question support no_point none_positive (suc MOST_MOVES - length (history ++ move ∷ [])) west
      (history ++ move
      ∷ []))
    where
      turned : (y : ℤ) → pos 0 ≤ℤ y → pos 0 ≤ℤ neg_ℤ (pos 0 -ℤ y)
      turned y low = omega (arith, ints, low)

pub programs_are_well_formed : ProgramsAreWellFormed
unfolding program_of
programs_are_well_formed question support valid =
    let all : List Column = columns question support in
    let rows : List Limit = limits question support in
    let row : Limit → ProgramRow = row_of question support all in
    record {
      bounds = All-mapped (λ (r : ProgramRow). pos 0 ≤ℤ r.bound) row rows
          (λ limit found. bound_low question support valid limit);
      widths = All-mapped (λ (r : ProgramRow). length r.entries
          ≡ length (map (λ column. objective_at question support (unit_point column)) all)) row rows
          (λ limit found. length-map all (λ column. excess question support (unit_point column) limit)
          ∙ sym (length-map all (λ column. objective_at question support (unit_point column))));
      narrow_costs = All-mapped IsNarrow (λ column. objective_at question support (unit_point column)) all
          (λ column found. costs_narrow question support valid column);
      narrow_entries = All-mapped (λ (r : ProgramRow). All IsNarrow r.entries) row rows
          (λ limit found. All-mapped IsNarrow (λ column. excess question support (unit_point column) limit) all
          (λ column there. tiny_narrow (excess question support (unit_point column) limit)
          (excess_tiny question support valid (unit_point column) (unit_tame column) limit
          (limits_reached question support valid limit found))));
      narrow_bounds = All-mapped (λ (r : ProgramRow). IsNarrow r.bound) row rows
          (λ limit found. neg_narrow (excess question support no_point limit)
          (excess_tiny question support valid no_point none_tame limit
          (limits_reached question support valid limit found)));
    }
