-- The class layouts of a question are few, and their counts can be written (`layouts_few`, `layout_small`).
use Rattle.std.proofs.Common.{◌≡◌, ℕ, suc, ◌+◌, ◌≤◌, List, [], ◌∷◌, length, map, refl, ap, subst, arith}
use Rattle.std.specs.Prelude.{Contains, nat_lt}
use Rattle.std.specs.List.{AllByRecursion, range_with_len}
use Rattle.std.proofs.lemmas.List.{length-map}
use Rattle.suit_lists.proofs.Elements.{each_at, each_of}
use Rattle.suit_lists.proofs.Filters.{kept_parts}
use Rattle.suit_lists.proofs.FlatMaps.{each_flat_map}
use Rattle.suit_lists.proofs.Maps.{Contains-map_from, each_map}
use Rattle.suit_cards.specs.Cards.{ClassLayout, Sizes}
use Rattle.suit_game.specs.declared.question.Question.{Question}
use Rattle.suit_game.specs.declared.limits.TheConstants.{HAND_SIZE}
use Rattle.suit_classes.specs.Classes.{Hands, class_size, defence_classes, hands_of, sizes_of}
use Rattle.suit_classes.proofs.DefenceSizes.{defence_sizes-some, length-defence_sizes, sum-defence_sizes}
use Rattle.suit_classes.proofs.ClassNumbers.{class_size-most}
use Rattle.suit_layouts.specs.ClassLayouts.{class_layouts, class_weight, counts_up_to, weighed}
use Rattle.suit_layouts.proofs.FewCounts.{class_layouts_few}
use Rattle.suit_layouts.specs.declared.class_list.TheConstants.{MOST_CLASS_LAYOUTS}
use Rattle.suit_program.specs.Supports.{layouts_of}
use Rattle.suit_tree.proofs.OneNodeAtEachPath.{in_range_below}

-- a question has few class layouts
pub layouts_few : (question : Question) → length (layouts_of question) ≤ MOST_CLASS_LAYOUTS
layouts_few question =
    let hands : Hands = hands_of question in
    class_layouts_few question (sizes_of question)
    (record { some = defence_sizes-some hands; filled = sum-defence_sizes hands; few = length-defence_sizes hands })

-- so many counts, none of them above thirteen
abbrev pub AreSmall : ℕ → ClassLayout → Type 0
AreSmall blocks counts = (length counts ≡ blocks) × AllByRecursion (λ (count : ℕ). count ≤ HAND_SIZE) counts

small_first : (blocks count size : ℕ) (counts : ClassLayout) → count ≤ size → size ≤ HAND_SIZE → AreSmall blocks counts
    → AreSmall (suc blocks) (count ∷ counts)
small_first blocks count size counts within few small = (
  ap suc small.0,
  (omega (arith, within, few), small.1),
)

counts_small : (sizes : Sizes) → AllByRecursion (λ (size : ℕ). size ≤ HAND_SIZE) sizes
    → AllByRecursion (AreSmall (length sizes)) (counts_up_to sizes)
unfolding counts_up_to
counts_small [] few = ((refl, tt), tt)
counts_small (size ∷ sizes) few =
    each_flat_map (AreSmall (suc (length sizes)))
    (λ count. map (λ counts. count ∷ counts) (counts_up_to sizes)) (range_with_len 0 (size + 1))
    (λ count found.
    let below = in_range_below (size + 1) count found in
    each_map (AreSmall (suc (length sizes))) (λ (counts : ClassLayout). count ∷ counts) (counts_up_to sizes)
    (each_first count size (omega (arith, below)) few.0 (counts_up_to sizes) (counts_small sizes few.1)))
  where
    each_first : (count size : ℕ) → count ≤ size → size ≤ HAND_SIZE → (all : List ClassLayout)
        → AllByRecursion (AreSmall (length sizes)) all
        → AllByRecursion (λ (counts : ClassLayout). AreSmall (suc (length sizes)) (count ∷ counts)) all
    each_first count size within few [] each = tt
    each_first count size within few (counts ∷ all) each = (
      small_first (length sizes) count size counts within few each.0,
      each_first count size within few all each.1,
    )

-- the counts of a class layout are as many as the defenders have classes, and each is small
pub layout_small : (question : Question) (layout : ClassLayout × ℕ) → Contains (layouts_of question) layout
    → AreSmall (length (defence_classes (hands_of question))) layout.0
unfolding class_layouts weighed
layout_small question layout found =
    let sizes : Sizes = sizes_of question in
    let kept = kept_parts (λ (other : ClassLayout × ℕ). nat_lt 0 other.1)
    (map (λ counts. (counts, class_weight question sizes counts)) (counts_up_to sizes)) layout found in
    let from = Contains-map_from (λ (counts : ClassLayout). (counts, class_weight question sizes counts))
    (counts_up_to sizes) layout kept.0 in
    let small = each_at (AreSmall (length sizes)) (counts_up_to sizes) from.0
    (counts_small sizes (each_map (λ (size : ℕ). size ≤ HAND_SIZE) (class_size (hands_of question))
    (defence_classes (hands_of question))
    (each_of (λ (class : ℕ). class_size (hands_of question) class ≤ HAND_SIZE) (defence_classes (hands_of question))
    (class_size-most (hands_of question))))) from.1 in
    subst (λ (other : ClassLayout × ℕ). AreSmall (length (defence_classes (hands_of question))) other.0) from.2
    (subst (λ (n : ℕ). AreSmall n from.0)
    (length-map (defence_classes (hands_of question)) (class_size (hands_of question))) small)
