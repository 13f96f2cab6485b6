-- Which counts are listed.
use Rattle.std.proofs.Common.{◌≡◌, ℕ, zero, suc, ◌+◌, ◌*◌, ◌≤◌, ◌<◌, Bool, true, nat_lt, List, [], ◌∷◌}
use Rattle.std.proofs.Common.{map, length, refl, sym, subst, inl, inr, arith}
use Rattle.std.specs.Prelude.{◌↔◌, Contains}
use Rattle.std.specs.List.{AllByRecursion, filter, range_with_len, sum}
use Rattle.std.proofs.lemmas.Bool.{cases_lt, ltb-true, lt-ltb}
use Rattle.std.proofs.lemmas.List.Elements.{All-contains, All-filter, All-from_recursion}
use Rattle.std.proofs.lemmas.List.Elements.{filter_passes}
use Rattle.suit_lists.proofs.Elements.{Contains-first, each_of}
use Rattle.suit_lists.proofs.Filters.{Contains-filter}
use Rattle.suit_lists.proofs.FlatMaps.{Contains-flat_map}
use Rattle.suit_lists.proofs.Maps.{Contains-map, each_map}
use Rattle.suit_lists.proofs.Walks.{Contains-range}
use Rattle.suit_cards.specs.Cards.{ClassLayout, Sizes}
use Rattle.suit_num.specs.Binomials.{binomial}
use Rattle.suit_num.proofs.BinomialLaws.{binomial_past}
use Rattle.suit_game.specs.declared.question.Question.{Question}
use Rattle.suit_game.specs.Question.{missing}
use Rattle.suit_game.specs.Weights.{weight_in_range}
use Rattle.suit_layouts.specs.ClassLayouts.{class_layouts, class_weight, counts_up_to, ways_of, weighed}
use Rattle.suit_layouts.proofs.ClassWeights.{class_weight_counted}
use Rattle.suit_layouts.proofs.SumsByBlocks.{sum-cons}

-- a product that is something has no factor 0
both_positive : (m n : ℕ) → 0 < m * n → (0 < m) × (0 < n)
both_positive zero n some = absurd (omega arith)
both_positive (suc m) zero some = absurd (omega arith)
both_positive (suc m) (suc n) some = (omega arith, omega arith)

-- counts that West can hold in some way are listed, and each is at most its block's size
pub Contains-up_to : (sizes : Sizes) (counts : ClassLayout) → 0 < ways_of sizes counts
    → Contains (counts_up_to sizes) counts
    × (sum counts ≤ sum sizes)
unfolding counts_up_to ways_of
Contains-up_to [] [] some = (Contains-first [] [], omega arith)
Contains-up_to [] (count ∷ counts) some = absurd (omega arith)
Contains-up_to (size ∷ sizes) [] some = absurd (omega arith)
Contains-up_to (size ∷ sizes) (count ∷ counts) some =
    let parts = both_positive (binomial size count) (ways_of sizes counts) some in
    let later = Contains-up_to sizes counts parts.1 in
    elim (cases_lt size count) [
      | inl past ↦ absurd (omega (arith, parts.0, binomial_past size count past))
      | inr within ↦ (
        Contains-flat_map (λ first. map (λ others. first ∷ others) (counts_up_to sizes)) (range_with_len 0 (size + 1))
            count (count ∷ counts)
            (Contains-range 0 (size + 1) count (omega arith) (omega arith))
            (Contains-map (λ others. count ∷ others) (counts_up_to sizes) counts later.0),
        omega (arith, sum-cons count counts, sum-cons size sizes, later.1),
      )
    ]

-- exactly the counts that have a weight are listed, each with it
pub class_layouts_exact : (question : Question) (sizes : Sizes) (counts : ClassLayout) (deals : ℕ)
    → sum sizes ≡ length (missing question)
    → Contains (class_layouts question sizes) (counts, deals)
    ↔ ((deals ≡ class_weight question sizes counts) × (0 < deals))
unfolding class_layouts weighed
class_layouts_exact question sizes counts deals filled =
    let with_weight : List ℕ → List ℕ × ℕ = λ other. (other, class_weight question sizes other) in
    let has_weight : List ℕ × ℕ → Bool = λ layout. nat_lt 0 layout.1 in
    let all = map with_weight (counts_up_to sizes) in
    let Weighs : List ℕ × ℕ → Type 0 = λ layout. layout.1 ≡ class_weight question sizes layout.0 in
    let each : AllByRecursion Weighs all =
    each_map Weighs with_weight (counts_up_to sizes)
    (each_of (λ other. Weighs (with_weight other)) (counts_up_to sizes) (λ other. refl)) in (
      λ found. (
        All-contains Weighs (filter has_weight all) (
          counts,
          deals,
        ) (All-filter has_weight Weighs all (All-from_recursion Weighs all each)) found,
        ltb-true 0 deals (All-contains (λ (layout : List ℕ × ℕ). has_weight layout
            ≡ true) (filter has_weight all) (counts, deals) (filter_passes has_weight all) found),
      ),
      λ is.
          let counted = class_weight_counted question sizes counts filled in
          let some : 0 < ways_of sizes counts * weight_in_range question (sum counts) =
          omega (arith, counted, is.0, is.1) in
          let listed = (Contains-up_to sizes counts
          (both_positive (ways_of sizes counts) (weight_in_range question (sum counts)) some).0).0 in
          let found : Contains all (with_weight counts) = Contains-map with_weight (counts_up_to sizes) counts listed in
          subst (λ (n : ℕ). Contains (filter has_weight all) (counts, n)) (sym is.0)
          (Contains-filter has_weight all (with_weight counts) found
          (lt-ltb 0 (class_weight question sizes counts) (omega (arith, is.0, is.1)))),
    )
