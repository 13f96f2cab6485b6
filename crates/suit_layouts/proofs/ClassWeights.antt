-- What a class layout weighs, and what the class layouts weigh together.
use Rattle.std.proofs.Common.{◌≡◌, ℕ, zero, suc, ◌+◌, ◌*◌, ◌<◌, ◌≤◌, ◌&&◌, Bool, true, false, cond, nat_eq, nat_lt}
use Rattle.std.proofs.Common.{List, [], ◌∷◌, map, length, refl, sym, ap, ◌∙◌, inl, inr, arith}
use Rattle.std.specs.Prelude.{bytes_eq, ◌==◌, if◌then◌else◌}
use Rattle.std.specs.List.{filter, sum, sum_by, range_with_len}
use Rattle.std.proofs.lemmas.Bool.{cases_Bool, cases_eq, cases_lt, eq-eqb, lt-ltb, ne_eqb}
use Rattle.std.proofs.lemmas.List.Sums.{sum_by-cons}
use Rattle.suit_lists.proofs.Sums.{sum_by-mul, sum_by_filter, sum_by_map, sum_by_none, sum_by_same}
use Rattle.suit_cards.specs.Cards.{ClassLayout, Sizes}
use Rattle.suit_cards.proofs.HoldingIsWhatItHolds.{IsHolding-others_of}
use Rattle.suit_num.specs.Binomials.{binomial}
use Rattle.suit_num.proofs.BinomialLaws.{binomial_past}
use Rattle.suit_game.specs.declared.question.Question.{Question}
use Rattle.suit_game.specs.Layouts.{choices_of, is_west_length, layouts, weight, total}
use Rattle.suit_game.specs.Question.{missing}
use Rattle.suit_game.specs.Weights.{weight_in_range}
use Rattle.suit_game.specs.Blocks.{counts_of}
use Rattle.suit_layouts.specs.ClassLayouts.{class_layouts, class_weight, counts_up_to, same_counts, ways_of, weighed}
use Rattle.suit_layouts.proofs.SumsByBlocks.{grouped, up_to-sum}

-- the one number of a run that is asked for: none where the run begins after it
pick_none : (f : ℕ → ℕ) (count a n : ℕ) → count < a
    → sum_by (λ k. if k == count then f k else 0) (range_with_len a n) ≡ 0
pick_none f count a zero before = refl
pick_none f count a (suc n) before =
    let term : ℕ → ℕ = λ k. if k == count then f k else 0 in
    let other : nat_eq a count ≡ false = ne_eqb a count (λ e. omega arith) in
    omega (
      arith,
      sum_by-cons term a (range_with_len (a + 1) n),
      ap {B = ℕ} (λ (b : Bool). cond b (f a) 0) other,
      pick_none f count (a + 1) n (omega arith),
    )

-- where the run has it
pick_one : (f : ℕ → ℕ) (count a n : ℕ) → a ≤ count → count < a + n
    → sum_by (λ k. if k == count then f k else 0) (range_with_len a n) ≡ f count
pick_one f count a zero from below = absurd (omega arith)
pick_one f count a (suc n) from below =
    let term : ℕ → ℕ = λ k. if k == count then f k else 0 in
    let split = sum_by-cons term a (range_with_len (a + 1) n) in
    elim (cases_eq a count) [
      | inl same ↦
          let here : nat_eq a count ≡ true = eq-eqb a count same in
          omega (
            arith,
            split,
            ap {B = ℕ} (λ (b : Bool). cond b (f a) 0) here,
            ap f same,
            pick_none f count (a + 1) n (omega arith),
          )
      | inr other ↦
          let here : nat_eq a count ≡ false = ne_eqb a count other in
          omega (
            arith,
            split,
            ap {B = ℕ} (λ (b : Bool). cond b (f a) 0) here,
            pick_one f count (a + 1) n (omega arith) (omega arith),
          )
    ]

-- where the run ends before it
pick_past : (f : ℕ → ℕ) (count a n : ℕ) → a + n ≤ count
    → sum_by (λ k. if k == count then f k else 0) (range_with_len a n) ≡ 0
pick_past f count a zero past = refl
pick_past f count a (suc n) past =
    let term : ℕ → ℕ = λ k. if k == count then f k else 0 in
    let other : nat_eq a count ≡ false = ne_eqb a count (λ e. omega arith) in
    omega (
      arith,
      sum_by-cons term a (range_with_len (a + 1) n),
      ap {B = ℕ} (λ (b : Bool). cond b (f a) 0) other,
      pick_past f count (a + 1) n (omega arith),
    )

-- a term whose first count is asked for
term_here : (here test : Bool) (ways others value : ℕ) → here ≡ true
    → ways * others * (if here && test then value else 0) ≡ ways * (others * (if test then value else 0))
term_here here test ways others value is = rw is (omega arith)

-- a term whose first count is not
term_elsewhere : (here test : Bool) (ways value : ℕ) → here ≡ false → ways * (if here && test then value else 0) ≡ 0
term_elsewhere here test ways value is = rw is (omega arith)

-- among all counts, those asked for alone
pub selected : (g : List ℕ → ℕ) (sizes : Sizes) (counts : ClassLayout)
    → sum_by (λ other. ways_of sizes other * (if same_counts other counts then g other else 0)) (counts_up_to sizes)
    ≡ ways_of sizes counts * g counts
unfolding counts_up_to ways_of
selected g [] [] = omega arith
selected g [] (count ∷ counts) = omega arith
selected g (size ∷ sizes) [] =
    let asked : List ℕ → ℕ = λ other. ways_of (size ∷ sizes) other * (if bytes_eq other [] then g other else 0) in
    up_to-sum asked size sizes
    ∙ sum_by_none (λ first. sum_by (λ later. asked (first ∷ later)) (counts_up_to sizes)) (range_with_len 0 (size + 1))
    (λ first. sum_by_none (λ later. asked (first ∷ later)) (counts_up_to sizes) (λ later. omega arith))
    ∙ omega arith
selected g (size ∷ sizes) (count ∷ counts) =
    let asked : List ℕ → ℕ = λ other. ways_of (size ∷ sizes) other * (if bytes_eq other (count ∷ counts) then g other
    else 0) in
    let found : ℕ → ℕ = λ first. binomial size first * (ways_of sizes counts * g (first ∷ counts)) in
    let each_first : (first : ℕ) → sum_by (λ later. asked (first ∷ later)) (counts_up_to sizes)
    ≡ (if first == count then found first else 0) =
    λ first. elim (cases_Bool (nat_eq first count)) [
      | inl here ↦
          sum_by_same (λ later. asked (first ∷ later))
          (λ later. binomial size first * (ways_of sizes later * (if bytes_eq later counts then g (first ∷ later)
          else 0))) (counts_up_to sizes)
          (λ later. term_here (nat_eq first count) (bytes_eq later counts) (binomial size first) (ways_of sizes later)
          (g (first ∷ later)) here)
          ∙ sum_by-mul (binomial size first) (λ later. ways_of sizes later * (if bytes_eq later counts
          then g (first ∷ later) else 0)) (counts_up_to sizes)
          ∙ ap (λ (n : ℕ). binomial size first * n) (selected (λ later. g (first ∷ later)) sizes counts)
          ∙ sym (ap {B = ℕ} (λ (b : Bool). cond b (found first) 0) here)
      | inr other ↦
          sum_by_none (λ later. asked (first ∷ later)) (counts_up_to sizes)
          (λ later. term_elsewhere (nat_eq first count) (bytes_eq later counts) (ways_of (size ∷ sizes) (first ∷ later))
          (g (first ∷ later)) other)
          ∙ sym (ap {B = ℕ} (λ (b : Bool). cond b (found first) 0) other)
    ] in
    let by_first = up_to-sum asked size sizes
    ∙ sum_by_same (λ first. sum_by (λ later. asked (first ∷ later)) (counts_up_to sizes)) (λ first. if first == count
    then found first else 0) (range_with_len 0 (size + 1)) each_first in
    elim (cases_lt size count) [
      | inl past ↦
          let none : binomial size count ≡ 0 = binomial_past size count past in
          by_first ∙ pick_past found count 0 (size + 1) (omega arith) ∙ rw none (omega arith)
      | inr within ↦ by_first ∙ pick_one found count 0 (size + 1) (omega arith) (omega arith) ∙ omega arith
    ]

-- two conditions in either order
pub both_tests : (length_fits asked : Bool) (deals : ℕ)
    → (if length_fits then (if asked then deals else 0) else 0) ≡ (if asked then (if length_fits then deals else 0)
    else 0)
both_tests true true deals = refl
both_tests true false deals = refl
both_tests false true deals = refl
both_tests false false deals = refl

-- a class layout weighs as much as one of its layouts, times the ways to choose West's cards of each block
pub class_weight_counted : (question : Question) (sizes : Sizes) (counts : ClassLayout)
    → sum sizes ≡ length (missing question)
    → class_weight question sizes counts ≡ ways_of sizes counts * weight_in_range question (sum counts)
unfolding class_weight layouts
class_weight_counted question sizes counts filled =
    let deals : List ℕ → ℕ = λ west. weight question (length west) in
    let fits : List ℕ → Bool = λ west. is_west_length question (length west) in
    let asked : List ℕ → Bool = λ west. same_counts (counts_of question sizes west) counts in
    let all = choices_of (missing question) in
    sum_by_filter asked deals (filter fits all)
    ∙ sum_by_filter fits (λ west. if asked west then deals west else 0) all
    ∙ sum_by_same (λ west. if fits west then (if asked west then deals west else 0)
    else 0) (λ west. if asked west then weight_in_range question (length west) else 0) all
    (λ west. both_tests (fits west) (asked west) (deals west))
    ∙ grouped (λ other long. if same_counts other counts then weight_in_range question long
    else 0) 15 sizes (missing question)
    (IsHolding-others_of question.north question.south) filled
    ∙ selected (λ other. weight_in_range question (sum other)) sizes counts

-- a factor of what a condition leaves
factor_out : (fits : Bool) (deals worth : ℕ) → (if fits then deals * worth else 0) ≡ (if fits then deals else 0) * worth
factor_out true deals worth = refl
factor_out false deals worth = omega arith

-- to drop what weighs nothing drops nothing of a sum
none_dropped : (deals worth : ℕ) → (if nat_lt 0 deals then deals * worth else 0) ≡ deals * worth
none_dropped zero worth = omega arith
none_dropped (suc deals) worth = let some : nat_lt 0 (suc deals) ≡ true = lt-ltb 0 (suc deals) (omega arith) in
    rw some refl

-- what depends on West's counts alone is summed over the layouts by class layouts
pub layouts_grouped : (worth : List ℕ → ℕ) (question : Question) (sizes : Sizes) → sum sizes ≡ length (missing question)
    → sum_by (λ west. weight question (length west) * worth (counts_of question sizes west)) (layouts question)
    ≡ sum_by (λ layout. layout.1 * worth layout.0) (class_layouts question sizes)
unfolding layouts class_layouts weighed
layouts_grouped worth question sizes filled =
    let fits : List ℕ → Bool = λ west. is_west_length question (length west) in
    let all = choices_of (missing question) in
    let at_layout : List ℕ → ℕ = λ west. weight question (length west) * worth (counts_of question sizes west) in
    let at_class : List ℕ × ℕ → ℕ = λ layout. layout.1 * worth layout.0 in
    let with_weight : List ℕ → List ℕ × ℕ = λ counts. (counts, class_weight question sizes counts) in
    let by_choice = sum_by_filter fits at_layout all
    ∙ sum_by_same (λ west. if fits west then at_layout west
    else 0) (λ west. weight_in_range question (length west) * worth (counts_of question sizes west)) all
    (λ west. factor_out (fits west) (weight question (length west)) (worth (counts_of question sizes west)))
    ∙ grouped (λ counts long. weight_in_range question long * worth counts) 15 sizes (missing question)
    (IsHolding-others_of question.north question.south) filled in
    let by_counts : sum_by (λ counts. ways_of sizes counts * (weight_in_range question (sum counts) * worth counts))
    (counts_up_to sizes) ≡ sum_by (λ counts. at_class (with_weight counts)) (counts_up_to sizes) =
    sum_by_same (λ counts. ways_of sizes counts * (weight_in_range question (sum counts) * worth counts))
    (λ counts. at_class (with_weight counts)) (counts_up_to sizes)
    (λ counts. let counted = class_weight_counted question sizes counts filled in rw counted (omega arith)) in
    let by_class = sum_by_filter (λ (layout : List ℕ × ℕ). nat_lt 0 layout.1) at_class
    (map with_weight (counts_up_to sizes))
    ∙ sum_by_same (λ (layout : List ℕ × ℕ). if nat_lt 0 layout.1 then at_class layout
    else 0) at_class (map with_weight (counts_up_to sizes)) (λ layout. none_dropped layout.1 (worth layout.0))
    ∙ sum_by_map at_class with_weight (counts_up_to sizes) in
    by_choice ∙ by_counts ∙ sym by_class

-- the weights of the class layouts add up to the total
pub class_weights_add_up : (question : Question) (sizes : Sizes) → sum sizes ≡ length (missing question)
    → sum_by (λ layout. layout.1) (class_layouts question sizes) ≡ total question
class_weights_add_up question sizes filled =
    sum_by_same (λ (layout : List ℕ × ℕ). layout.1) (λ layout. layout.1 * 1) (class_layouts question sizes)
    (λ layout. omega arith)
    ∙ sym (layouts_grouped (λ counts. 1) question sizes filled)
    ∙ sum_by_same (λ west. weight question (length west) * 1) (λ west. weight question (length west)) (layouts question)
    (λ west. omega arith)
