-- The least that a proper plan earns and the most that a proper defence lets declarer earn stay below their bound
-- (`leasts_bounded`, `mosts_bounded`).
use Rattle.std.proofs.Common.{◌≡◌, ℕ, ◌+◌, ◌*◌, ◌≤◌, true, List, [], ◌∷◌, map, sum_by, refl, sym, ap, ◌∙◌}
use Rattle.std.proofs.Common.{subst, arith}
use Rattle.std.specs.Prelude.{Contains, ◌^◌, ℤ, pos, ◌+ℤ◌, ◌*ℤ◌, ◌≤ℤ◌, ◌<ℤ◌}
use Rattle.std.proofs.lemmas.Int.{ints}
use Rattle.std.proofs.lemmas.List.Sums.{sum_by-cons}
use Rattle.std.proofs.Math.IntN.{*ℤ_comm, zero-*ℤ}
use Rattle.suit_lists.proofs.Elements.{Contains-same}
use Rattle.suit_lists.proofs.Filters.{filter_all}
use Rattle.suit_lists.proofs.Maps.{map_same}
use Rattle.suit_lists.proofs.Sums.{some_term}
use Rattle.suit_cards.specs.Cards.{ClassLayout}
use Rattle.suit_num.proofs.IntegerLaws.{le-mul_right, mul-add_right, mul_left_comm, mul_not_negative, int_le-true}
use Rattle.suit_game.specs.declared.question.Question.{Question}
use Rattle.suit_game.specs.Layouts.{total}
use Rattle.suit_game.specs.Validity.{IsValid}
use Rattle.suit_game.proofs.WhatAllLayoutsWeigh.{total_at_most}
use Rattle.suit_classes.specs.WhatIsAllowed.{allows, allows_from}
use Rattle.suit_classes.specs.Classes.{defence_sizes, hands_of, sizes_of}
use Rattle.suit_classes.proofs.DefenceSizes.{sum-defence_sizes}
use Rattle.suit_layouts.proofs.ClassWeights.{class_weights_add_up}
use Rattle.suit_layouts.proofs.WhatHasWeightIsListed.{class_layouts_exact}
use Rattle.suit_layouts.specs.ClassLayouts.{class_layouts}
use Rattle.suit_plans.specs.declared.plan.Plan.{Plan}
use Rattle.suit_plans.specs.declared.plan.TheConstants.{MOST_DEN, WORTH_BOUND}
use Rattle.suit_plans.specs.declared.defence.Defence.{Defence}
use Rattle.suit_plans.specs.BestReplies.{allowing_layouts, least, most, reply_to_plan, worth}
use Rattle.suit_plans.specs.Masses.{defence_mass, mass_from, mass_of, plan_mass, weight_of}
use Rattle.suit_plans.specs.Properness.{IsProperPlan, some_allows, sum_of}
use Rattle.suit_plans.specs.ReplyLaws.{IsPaid, LeastsAreBounded, MostsAreBounded, masses_of}
use Rattle.suit_plans.proofs.AllowedSoFar.{start_allows}
use Rattle.suit_plans.proofs.DefenceWorths.{defences_paid}
use Rattle.suit_plans.proofs.AtMostThirteenTricks.{sum_paid}
use Rattle.suit_plans.proofs.PlanWorths.{plans_paid}
use Rattle.suit_plans.proofs.ProperDefences.{proper_defence}
use Rattle.suit_plans.proofs.ProperPlans.{proper_plan}
use Rattle.suit_plans.proofs.PublicMoves.{allows_some, layout_weighs}
use Rattle.suit_game.specs.declared.limits.TheConstants.{MOST_TOTAL, HAND_SIZE}

-- ---- the masses at the start

-- the mass of the empty history
pub first_mass : (question : Question) (plan : Plan) → plan_mass question plan [] ≡ plan.den
unfolding plan_mass mass_of mass_from
first_mass question plan = refl

pub first_mass_in : (question : Question) (defence : Defence) (counts : ClassLayout)
    → defence_mass question defence counts [] ≡ pos (weight_of question counts) *ℤ defence.den
unfolding defence_mass mass_of mass_from
first_mass_in question defence counts = refl

-- parts by the weights of class layouts add up to the part of all weights
pub sum_weighed : (den : ℤ) (layouts : List (ClassLayout × ℕ))
    → sum_of (map (λ (layout : ClassLayout × ℕ). pos layout.1 *ℤ den) layouts)
    ≡ pos (sum_by (λ (layout : ClassLayout × ℕ). layout.1) layouts) *ℤ den
unfolding sum_of
sum_weighed den [] = sym (zero-*ℤ den)
sum_weighed den (layout ∷ layouts) =
    let weight : ClassLayout × ℕ → ℕ = λ other. other.1 in
    let rest : ℕ = sum_by weight layouts in
    ap (λ (z : ℤ). pos layout.1 *ℤ den +ℤ z) (sum_weighed den layouts)
    ∙ sym (mul-add_right (pos layout.1) (pos rest) den)
    ∙ ap (λ (z : ℤ). z *ℤ den) (added layout.1 rest)
    ∙ ap (λ (n : ℕ). pos n *ℤ den) (sym (sum_by-cons weight layout layouts))
  where
    added : (m n : ℕ) → pos m +ℤ pos n ≡ pos (m + n)
    added m n = omega (arith, ints)

module _ (question : Question) where
  abbrev layouts : List (ClassLayout × ℕ)
  layouts = class_layouts question (sizes_of question)

  -- the weights of the class layouts add up to the question's
  pub weights_add : sum_by (λ (layout : ClassLayout × ℕ). layout.1) layouts ≡ total question
  weights_add = class_weights_add_up question (defence_sizes (hands_of question))
      (sum-defence_sizes (hands_of question))

  pub weight_listed : (layout : ClassLayout × ℕ) → Contains layouts layout → layout.1 ≡ weight_of question layout.0
  weight_listed layout found =
      ((class_layouts_exact question (defence_sizes (hands_of question)) layout.0 layout.1
      (sum-defence_sizes (hands_of question))).0 found).0

  -- all class layouts allow the empty history
  pub allowing_none : allowing_layouts question [] ≡ layouts
  unfolding allows allows_from
  allowing_none = filter_all (λ (layout : ClassLayout × ℕ). allows question layout.0 []) layouts (λ layout. refl)

  -- and there is one
  pub some_allow_none : IsValid question → some_allows question [] ≡ true
  some_allow_none valid =
      let one = some_term (λ (layout : ClassLayout × ℕ). layout.1) layouts
      (omega (arith, valid.has_weight, weights_add)) in
      allows_some question valid [] one.0 (Contains-same one.0 (sym allowing_none) one.1)

-- the masses of a defence at the start add up to the part of all weights
pub first_masses : (question : Question) (defence : Defence)
    → sum_of (masses_of question defence []) ≡ pos (total question) *ℤ defence.den
first_masses question defence =
    ap (λ (l : List (ClassLayout × ℕ)). sum_of (map (λ (layout : ClassLayout × ℕ). defence_mass question defence layout.0 []) l))
    (allowing_none question)
    ∙ ap sum_of
    (map_same (λ (layout : ClassLayout × ℕ). defence_mass question defence layout.0 [])
    (λ (layout : ClassLayout × ℕ). pos layout.1 *ℤ defence.den)
    (class_layouts question (sizes_of question))
    (λ layout found. first_mass_in question defence layout.0
    ∙ ap (λ (n : ℕ). pos n *ℤ defence.den) (sym (weight_listed question layout found))))
    ∙ sum_weighed defence.den (class_layouts question (sizes_of question))
    ∙ ap (λ (n : ℕ). pos n *ℤ defence.den) (weights_add question)

-- ---- the bounds

most_of_all : (weights : ℕ) (den : ℤ) → weights ≤ MOST_TOTAL → pos 1 ≤ℤ den → den ≤ℤ MOST_DEN
    → (pos HAND_SIZE *ℤ (pos weights *ℤ den)) <ℤ WORTH_BOUND
most_of_all weights den few some within =
    let light : pos weights ≤ℤ pos MOST_TOTAL = omega (arith, ints, few) in
    let positive : pos 0 ≤ℤ den = omega (arith, ints, some) in
    let first : (pos weights *ℤ den) ≤ℤ (pos MOST_TOTAL *ℤ den) =
    le-mul_right (pos weights) (pos MOST_TOTAL) den light positive in
    let second : (den *ℤ pos MOST_TOTAL) ≤ℤ (MOST_DEN *ℤ pos MOST_TOTAL) =
    le-mul_right den MOST_DEN (pos MOST_TOTAL) within (omega (arith, ints)) in
    let both : (pos weights *ℤ den) ≤ℤ (pos MOST_TOTAL *ℤ MOST_DEN) =
    chain (pos weights *ℤ den) (pos MOST_TOTAL *ℤ den) (pos MOST_TOTAL *ℤ MOST_DEN) first
    (subst (λ (z : ℤ). z ≤ℤ (pos MOST_TOTAL *ℤ MOST_DEN)) (*ℤ_comm den (pos MOST_TOTAL)) second) in
    thirteen (pos weights *ℤ den) both
  where
    chain : (a b c : ℤ) → a ≤ℤ b → b ≤ℤ c → a ≤ℤ c
    chain a b c p q = omega (arith, ints)

    thirteen : (a : ℤ) → a ≤ℤ (pos MOST_TOTAL *ℤ MOST_DEN) → (pos HAND_SIZE *ℤ a) <ℤ WORTH_BOUND
    thirteen a le = omega (arith, ints)

-- what is paid for the part of all weights
bounded : (question : Question) (den number : ℤ) → IsValid question → pos 1 ≤ℤ den → den ≤ℤ MOST_DEN
    → IsPaid (pos (total question) *ℤ den) number
    → (pos 0 ≤ℤ number) × (number <ℤ WORTH_BOUND)
bounded question den number valid some within paid = (
  paid.some,
  through number (pos HAND_SIZE *ℤ (pos (total question) *ℤ den)) WORTH_BOUND paid.few
      (most_of_all (total question) den (total_at_most question valid) some within),
)
  where
    through : (a b c : ℤ) → a ≤ℤ b → b <ℤ c → a <ℤ c
    through a b c p q = omega (arith, ints)

-- what a class layout earns is paid for its part of the weights
pub weighed_paid : (question : Question) (plan : Plan) (layout : ClassLayout × ℕ) → IsValid question
    → IsProperPlan question plan
    → Contains (class_layouts question (sizes_of question)) layout
    → IsPaid (pos layout.1 *ℤ plan.den) (pos layout.1 *ℤ worth (reply_to_plan question plan layout.0) [])
weighed_paid question plan layout valid proper found =
    let value : ℤ = worth (reply_to_plan question plan layout.0) [] in
    let allowed = start_allows question layout.0 valid (layout_weighs question valid layout found) in
    let paid : IsPaid plan.den value =
    subst (λ (m : ℤ). IsPaid m value) (first_mass question plan)
    (plans_paid question plan layout.0 [] valid proper allowed) in
    times (pos layout.1) plan.den value (omega (arith, ints)) paid
  where
    times : (weight den value : ℤ) → pos 0 ≤ℤ weight → IsPaid den value → IsPaid (weight *ℤ den) (weight *ℤ value)
    times weight den value some paid =
        let most : (value *ℤ weight) ≤ℤ ((pos HAND_SIZE *ℤ den) *ℤ weight) =
        le-mul_right value (pos HAND_SIZE *ℤ den) weight paid.few some in
        let turned : (pos HAND_SIZE *ℤ den) *ℤ weight ≡ pos HAND_SIZE *ℤ (weight *ℤ den) =
        *ℤ_comm (pos HAND_SIZE *ℤ den) weight
        ∙ mul_left_comm weight (pos 13) den in
        record {
          some = mul_not_negative weight value some paid.some;
          few = subst (λ (z : ℤ). z ≤ℤ (pos HAND_SIZE *ℤ (weight *ℤ den))) (*ℤ_comm value weight)
              (subst (λ (z : ℤ). (value *ℤ weight) ≤ℤ z) turned most);
        }

pub leasts_bounded : LeastsAreBounded
unfolding least
leasts_bounded question plan valid proper =
    let layouts : List (ClassLayout × ℕ) = class_layouts question (sizes_of question) in
    let value : ℤ = sum_of (map (λ (layout : ClassLayout × ℕ). pos layout.1 *ℤ worth
    (reply_to_plan question plan layout.0)
    []) layouts) in
    let parts = proper_plan question plan proper in
    bounded question plan.den value valid (int_le-true (pos 1) plan.den parts.0) (int_le-true plan.den MOST_DEN parts.1)
    (subst (λ (mass : ℤ). IsPaid mass value) (sum_weighed plan.den layouts
    ∙ ap (λ (n : ℕ). pos n *ℤ plan.den) (weights_add question))
    (sum_paid (λ (layout : ClassLayout × ℕ). pos layout.1 *ℤ worth (reply_to_plan question plan layout.0) [])
    (λ (layout : ClassLayout × ℕ). pos layout.1 *ℤ plan.den) layouts
    (λ layout found. weighed_paid question plan layout valid proper found)))

pub mosts_bounded : MostsAreBounded
unfolding most
mosts_bounded question defence valid proper =
    let parts = proper_defence question defence proper in
    bounded question defence.den (most question defence) valid (int_le-true (pos 1) defence.den parts.0)
    (int_le-true defence.den MOST_DEN parts.1)
    (subst (λ (mass : ℤ). IsPaid mass (most question defence)) (first_masses question defence)
    (defences_paid question defence [] valid proper (some_allow_none question valid)))
