-- The objective of a support's program has an upper limit (`programs_are_bounded`).
use Rattle.std.proofs.Common.{◌≡◌, ℕ, suc, ◌<◌, Bool, true, List, [], ◌∷◌, length, map, refl}
use Rattle.std.proofs.Common.{sym, ap, ◌∙◌, subst, arith}
use Rattle.std.specs.Prelude.{Contains, if◌then◌else◌, ℤ, pos, ◌+ℤ◌, ◌-ℤ◌, ◌*ℤ◌, ◌≤ℤ◌}
use Rattle.std.proofs.lemmas.Int.{ints}
use Rattle.std.proofs.lemmas.List.{length-map}
use Rattle.std.proofs.lemmas.List.Elements.{All-contains}
use Rattle.std.proofs.Math.IntN.{*ℤ_comm}
use Rattle.suit_lists.proofs.Maps.{Contains-map}
use Rattle.suit_cards.specs.Cards.{ClassLayout}
use Rattle.suit_num.proofs.IntegerLaws.{le-mul_right, mul-sub_right, mul_not_negative, mul_right_comm}
use Rattle.suit_game.specs.declared.question.Question.{Question}
use Rattle.suit_game.specs.Validity.{IsValid}
use Rattle.suit_game.specs.declared.limits.TheConstants.{HAND_SIZE, MOST_MOVES}
use Rattle.suit_plans.specs.Masses.{mass_from, mass_of}
use Rattle.suit_plans.specs.Properness.{sum_of}
use Rattle.suit_plans.specs.ReplyLaws.{IsPaid}
use Rattle.suit_plans.proofs.NumberSums.{sum_times}
use Rattle.suit_plans.proofs.SharesAddUpToTheMass.{count_case}
use Rattle.suit_linear.specs.Points.{dot}
use Rattle.suit_linear.specs.Programs.{IsFeasible}
use Rattle.suit_program.specs.Programs.ProgramLaws.{ProgramsAreBounded}
use Rattle.suit_program.specs.Programs.Points.{Column, IsPositive, Point, given_to, no_point, point_of, same_column}
use Rattle.suit_program.specs.Programs.Points.{unit_point}
use Rattle.suit_program.specs.Programs.{Limit, columns, excess, limits, program_of, row_of}
use Rattle.suit_program.specs.Supports.{Support, is_reached, layouts_of}
use Rattle.suit_program.specs.Programs.Worths.{objective_at, worth_at}
use Rattle.suit_program.proofs.lemmas.Programs.LinearInThePoint.{costs_tell, rows_tell}
use Rattle.suit_program.proofs.lemmas.Supports.WhatIsReached.{reached_none}
use Rattle.suit_program.proofs.lemmas.Programs.WithinTheRows.{IsWithin, kept_within}
use Rattle.suit_program.proofs.lemmas.Programs.SumsInOrder.{sum_le}
use Rattle.suit_program.proofs.lemmas.Programs.WorthWithinMass.{within_paid}

-- ---- feasible points

pub given_low : (all : List Column) (given : ℕ → ℤ) (wanted : Column)
    → ((index : ℕ) → index < length all → pos 0 ≤ℤ given index) → pos 0 ≤ℤ given_to all given wanted
unfolding given_to
given_low [] given wanted low = omega (arith, ints)
given_low (column ∷ all) given wanted low =
    let b : Bool = same_column column wanted in
    let here : pos 0 ≤ℤ (given 0 *ℤ (if b then pos 1 else pos 0)) =
    mul_not_negative (given 0) (if b then pos 1 else pos 0) (low 0 (omega arith))
    (count_case b (pos 1) (pos 0) (omega (arith, ints)) (omega (arith, ints))) in
    let rest : pos 0 ≤ℤ given_to all (λ index. given (suc index)) wanted =
    given_low all (λ index. given (suc index)) wanted (λ index below. low (suc index) (omega (arith, below))) in
    added (given 0 *ℤ (if b then pos 1 else pos 0)) (given_to all (λ index. given (suc index)) wanted) here rest
  where
    added : (x y : ℤ) → pos 0 ≤ℤ x → pos 0 ≤ℤ y → pos 0 ≤ℤ (x +ℤ y)
    added x y p q = omega (arith, ints, p, q)

-- thirteen tricks in all class layouts
pub thirteen_each : (question : Question) (worths : ClassLayout × ℕ → ℤ) (den : ℤ)
    → ((layout : ClassLayout × ℕ) → Contains (layouts_of question) layout → IsPaid den (worths layout))
    → sum_of (map (λ (layout : ClassLayout × ℕ). pos layout.1 *ℤ worths layout) (layouts_of question))
    ≤ℤ (sum_of (map (λ (layout : ClassLayout × ℕ). pos layout.1 *ℤ pos HAND_SIZE) (layouts_of question)) *ℤ den)
thirteen_each question worths den paid =
    let layouts : List (ClassLayout × ℕ) = layouts_of question in
    let thirteen : ClassLayout × ℕ → ℤ = λ layout. pos layout.1 *ℤ pos HAND_SIZE in
    subst (λ (z : ℤ). sum_of (map (λ (layout : ClassLayout × ℕ). pos layout.1 *ℤ worths layout) layouts) ≤ℤ z)
    (sym (*ℤ_comm (sum_of (map thirteen layouts)) den ∙ sum_times den thirteen layouts))
    (sum_le (λ layout. pos layout.1 *ℤ worths layout) (λ layout. den *ℤ thirteen layout) layouts
    (λ layout found. weighed (pos layout.1) den (worths layout) (omega (arith, ints)) (paid layout found)))
  where
    weighed : (weight den worth : ℤ) → pos 0 ≤ℤ weight → IsPaid den worth
        → (weight *ℤ worth) ≤ℤ (den *ℤ (weight *ℤ pos HAND_SIZE))
    weighed weight den worth low paid =
        subst (λ (z : ℤ). z ≤ℤ (den *ℤ (weight *ℤ pos HAND_SIZE))) (*ℤ_comm worth weight)
        (subst (λ (z : ℤ). (worth *ℤ weight) ≤ℤ z)
        (mul_right_comm (pos HAND_SIZE) den weight ∙ ap (λ (z : ℤ). z *ℤ den) (*ℤ_comm (pos HAND_SIZE) weight)
        ∙ *ℤ_comm (weight *ℤ pos HAND_SIZE) den)
        (le-mul_right worth (pos HAND_SIZE *ℤ den) weight paid.few low))

module _ (question : Question) (support : Support) (valid : IsValid question) (given : ℕ → ℤ) (den : ℤ)
    (feasible : IsFeasible (program_of question support) given den) where
  abbrev point : Point
  point = point_of (columns question support) given den

  pub feasible_positive : IsPositive point
  unfolding program_of
  feasible_positive = record {
    at = λ column. given_low (columns question support) given column
        (λ index below. feasible.columns index (subst (λ (n : ℕ). index < n)
        (sym (length-map (columns question support) (λ other. objective_at question support (unit_point other))))
        below));
    one = let over = feasible.over in omega (arith, ints, over);
  }

  -- it keeps within each row
  pub rows_kept : (limit : Limit) → Contains (limits question support) limit
      → excess question support point limit ≤ℤ pos 0
  unfolding program_of
  rows_kept limit found =
      let row = row_of question support (columns question support) in
      let within = All-contains (λ other. dot other.entries given ≤ℤ (other.bound *ℤ den)) (map row (limits question
      support)) (row limit) feasible.rows (Contains-map row (limits question support) limit found) in
      below (excess question support point limit) (dot (row limit).entries given) ((row limit).bound *ℤ den)
      (rows_tell question support given den limit) within
    where
      below : (x a b : ℤ) → x ≡ a -ℤ b → a ≤ℤ b → x ≤ℤ pos 0
      below x a b is le = omega (arith, ints, is, le)

  pub feasible_within : IsWithin question support point
  feasible_within = record { positive = feasible_positive; rows = rows_kept }

  -- at the start a class layout is worth no more than thirteen tricks
  pub start_paid : (layout : ClassLayout × ℕ) → Contains (layouts_of question) layout
      → IsPaid den (worth_at question support point layout.0 [])
  unfolding mass_of mass_from
  start_paid layout listed =
      within_paid question support point layout.0 (λ history. is_reached question support layout.0 history ≡ true)
      feasible_positive (kept_within question support valid point feasible_within layout listed) (suc MOST_MOVES) []
      (reached_none question support layout.0) refl

  pub objective_paid : objective_at question support point
      ≤ℤ (sum_of (map (λ (layout : ClassLayout × ℕ). pos layout.1 *ℤ pos HAND_SIZE) (layouts_of question)) *ℤ den)
  unfolding objective_at
  objective_paid = thirteen_each question (λ layout. worth_at question support point layout.0 []) den start_paid

pub programs_are_bounded : ProgramsAreBounded
programs_are_bounded question support valid =
    let most : ℤ = sum_of (map (λ (layout : ClassLayout × ℕ). pos layout.1 *ℤ pos HAND_SIZE) (layouts_of question)) in
    let none : ℤ = objective_at question support no_point in (
      most -ℤ none,
      λ given den feasible.
          limited (dot (program_of question support).costs given)
          (objective_at question support (point_of (columns question support) given den)) most none den
          (costs_tell question support given den) (objective_paid question support valid given den feasible),
    )
  where
    limited : (costs all most none den : ℤ) → all ≡ costs +ℤ none *ℤ den → all ≤ℤ (most *ℤ den)
        → costs ≤ℤ ((most -ℤ none) *ℤ den)
    limited costs all most none den told le =
        let parts = mul-sub_right most none den in
        omega (arith, ints, told, le, parts)
