-- The sizes of the defenders' classes add up to the missing cards.
use Rattle.std.proofs.Common.{◌≡◌, ℕ, ◌+◌, ◌<◌, ◌≤◌, length, sym, ap, ◌∙◌, subst, arith}
use Rattle.std.specs.Prelude.{All, sum}
use Rattle.std.specs.List.{range_with_len}
use Rattle.std.proofs.lemmas.List.{length-map}
use Rattle.std.proofs.lemmas.List.Concat.{length-flat_map}
use Rattle.std.proofs.lemmas.List.Elements.{All-filter, All-map, All-weaker}
use Rattle.std.proofs.lemmas.List.FromFn.{length-range_with_len, get_or-range_with_len}
use Rattle.std.proofs.lemmas.List.Sums.{sum-map}
use Rattle.suit_game.specs.declared.limits.TheConstants.{MOST_MISSING_AND_BLOCKS}
use Rattle.suit_cards.specs.Holdings.{others_of}
use Rattle.suit_classes.specs.declared.classes.Owner.TheVariants as owners
use Rattle.suit_classes.specs.Classes.{Hands, same_owner, class_count, class_owner, class_ranks, class_size}
use Rattle.suit_classes.specs.Classes.{defence_classes, defence_sizes}
use Rattle.suit_classes.proofs.ClassNumbers.{class_size-some}
use Rattle.suit_classes.proofs.DefenceClasses.{defence_classes-few}
use Rattle.suit_classes.proofs.RankBlocks.{missing_in_blocks}

-- numbers from 0 on are below the end
pub range_below : (n : ℕ) → All (λ k. k < n) (range_with_len 0 n)
range_below n = λ k d low.
    let small : k < n = omega (arith, length-range_with_len 0 n) in
    subst (λ (m : ℕ). m < n) (sym (get_or-range_with_len 0 n k d small)) (omega arith)

-- the defenders' classes are classes
pub defence_classes-below : (hands : Hands) → All (λ class. class < class_count hands) (defence_classes hands)
defence_classes-below hands =
    All-filter (λ class. same_owner (class_owner hands class) owners.Defence) (λ class. class < class_count hands)
    (range_with_len 0 (class_count hands)) (range_below (class_count hands))

-- each has a card
pub defence_sizes-some : (hands : Hands) → All (λ size. 1 ≤ size) (defence_sizes hands)
defence_sizes-some hands =
    All-map (λ size. 1 ≤ size) (class_size hands) (defence_classes hands)
    (All-weaker (λ class. class < class_count hands) (λ class. 1
    ≤ class_size hands class) (λ class few. class_size-some hands class few) (defence_classes hands)
    (defence_classes-below hands))

-- together they are the missing cards
pub sum-defence_sizes : (hands : Hands) → sum (defence_sizes hands) ≡ length (others_of hands.north hands.south)
sum-defence_sizes hands =
    sum-map (class_size hands) (defence_classes hands)
    ∙ sym (length-flat_map (class_ranks hands) (defence_classes hands))
    ∙ ap length (missing_in_blocks hands)

pub length-defence_sizes : (hands : Hands)
    → length (others_of hands.north hands.south) + length (defence_sizes hands) ≤ MOST_MISSING_AND_BLOCKS
length-defence_sizes hands =
    omega (arith, length-map (defence_classes hands) (class_size hands), (defence_classes-few hands).1)
