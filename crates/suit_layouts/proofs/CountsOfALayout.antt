-- Layouts and their counts.
use Rattle.std.proofs.Common.{◌≡◌, ℕ, ◌*◌, ◌<◌, Bool, true, false, cond, nat_eq, List, length, refl, ap}
use Rattle.std.proofs.Common.{◌∙◌, inl, inr, arith}
use Rattle.std.specs.Prelude.{◌==◌, Contains, IsTrue, if◌then◌else◌}
use Rattle.std.specs.List.{filter, sum}
use Rattle.std.proofs.lemmas.Bool.{cases_eq, eq-eqb, ne_eqb}
use Rattle.std.proofs.lemmas.List.Elements.{All-contains, All-contains_itself, All-filter, filter_passes}
use Rattle.std.proofs.lemmas.List.Sums.{length-filter}
use Rattle.std.proofs.lemmas.Slice.Eq.{bytes_eq-Decides}
use Rattle.suit_lists.proofs.Filters.{Contains-filter}
use Rattle.suit_lists.proofs.Sums.{some_term, sum_by_filter, sum_by_none, sum_by_same, term_small}
use Rattle.suit_cards.specs.Cards.{Cards, ClassLayout, Sizes}
use Rattle.suit_cards.proofs.HoldingIsWhatItHolds.{IsHolding-others_of}
use Rattle.suit_game.specs.declared.question.Question.{Question}
use Rattle.suit_game.specs.Layouts.{choices_of, is_west_length, layouts, weight}
use Rattle.suit_game.specs.Question.{missing}
use Rattle.suit_game.specs.Blocks.{counts_of}
use Rattle.suit_layouts.specs.ClassLayouts.{class_weight, counts_up_to, same_counts, ways_of}
use Rattle.suit_layouts.proofs.ClassWeights.{both_tests, selected}
use Rattle.suit_layouts.proofs.SumsByBlocks.{grouped}

-- as many layouts have given counts as the ways of the blocks
pub layouts_counted : (question : Question) (sizes : Sizes) (counts : ClassLayout)
    → sum sizes ≡ length (missing question)
    → IsTrue (is_west_length question (sum counts))
    → length (filter (λ west. same_counts (counts_of question sizes west) counts) (layouts question))
    ≡ ways_of sizes counts
unfolding layouts
layouts_counted question sizes counts filled within =
    let fits : List ℕ → Bool = λ west. is_west_length question (length west) in
    let asked : List ℕ → Bool = λ west. same_counts (counts_of question sizes west) counts in
    let all = choices_of (missing question) in
    let fits_one : ℕ → ℕ = λ long. if is_west_length question long then 1 else 0 in
    let one : fits_one (sum counts) ≡ 1 = ap {B = ℕ} (λ (b : Bool). cond b 1 0) within in
    let whole : ways_of sizes counts * fits_one (sum counts) ≡ ways_of sizes counts = rw one (omega arith) in
    length-filter asked (filter fits all)
    ∙ sum_by_filter fits (λ west. if asked west then 1 else 0) all
    ∙ sum_by_same (λ west. if fits west then (if asked west then 1 else 0)
    else 0) (λ west. if asked west then fits_one (length west) else 0) all
    (λ west. both_tests (fits west) (asked west) 1)
    ∙ grouped (λ other long. if same_counts other counts then fits_one long
    else 0) 15 sizes (missing question) (IsHolding-others_of question.north question.south) filled
    ∙ selected (λ other. fits_one (sum other)) sizes counts
    ∙ whole

-- West's counts add up to the number of West's cards
pub counts_add_up : (question : Question) (sizes : Sizes) (west : Cards) → sum sizes ≡ length (missing question)
    → Contains (layouts question) west
    → sum (counts_of question sizes west) ≡ length west
unfolding layouts
counts_add_up question sizes west filled found =
    let differ : List ℕ → ℕ → ℕ = λ counts long. if sum counts == long then 0 else 1 in
    let all = choices_of (missing question) in
    let fits : List ℕ → Bool = λ other. is_west_length question (length other) in
    let listed : Contains all west =
    All-contains (Contains all) (filter fits all) west
    (All-filter fits (Contains all) all (All-contains_itself all)) found in
    let none = grouped differ 15 sizes (missing question) (IsHolding-others_of question.north question.south) filled
    ∙ sum_by_none (λ counts. ways_of sizes counts * differ counts (sum counts)) (counts_up_to sizes)
    (λ counts. let same : nat_eq (sum counts) (sum counts) ≡ true = eq-eqb (sum counts) (sum counts) refl in
    rw same (omega arith)) in
    let here = term_small (λ other. differ (counts_of question sizes other) (length other)) all west listed in
    elim (cases_eq (sum (counts_of question sizes west)) (length west)) [
      | inl same ↦ same
      | inr other ↦
          let apart : nat_eq (sum (counts_of question sizes west)) (length west) ≡ false =
          ne_eqb (sum (counts_of question sizes west)) (length west) other in
          absurd (omega (arith, here, none, ap {B = ℕ} (λ (b : Bool). cond b 0 1) apart))
    ]

-- the counts of a layout that has a weight are a class layout that has one
pub layouts_listed : (question : Question) (sizes : Sizes) (west : Cards) → Contains (layouts question) west
    → 0 < weight question (length west)
    → 0 < class_weight question sizes (counts_of question sizes west)
unfolding class_weight
layouts_listed question sizes west found some =
    let asked : List ℕ → Bool = λ other. same_counts (counts_of question sizes other) (counts_of question sizes west) in
    let here : asked west ≡ true =
    (bytes_eq-Decides (counts_of question sizes west) (counts_of question sizes west)).1 refl in
    let kept = Contains-filter asked (layouts question) west found here in
    omega (
      arith,
      some,
      term_small (λ other. weight question (length other)) (filter asked (layouts question)) west
          kept,
    )

-- a class layout that has a weight is the counts of some layout that has one
pub class_layouts_held : (question : Question) (sizes : Sizes) (counts : ClassLayout)
    → 0 < class_weight question sizes counts
    → (west : Cards) × Contains (layouts question) west × (counts_of question sizes west ≡ counts)
    × (0 < weight question (length west))
unfolding class_weight
class_layouts_held question sizes counts some =
    let asked : List ℕ → Bool = λ other. same_counts (counts_of question sizes other) counts in
    let term = some_term (λ other. weight question (length other)) (filter asked (layouts question)) some in
    let passes : asked term.0 ≡ true =
    All-contains (λ other. asked other ≡ true) (filter asked (layouts question)) term.0
    (filter_passes asked (layouts question)) term.1 in
    let found = All-contains (Contains (layouts question)) (filter asked (layouts question)) term.0
    (All-filter asked (Contains (layouts question)) (layouts question) (All-contains_itself (layouts question)))
    term.1 in
    (term.0, found, (bytes_eq-Decides (counts_of question sizes term.0) counts).0 passes, term.2)
