-- Where a walk stands, and what it yields there.
use Rattle.std.proofs.Common.{◌≡◌, ℕ, ◌+◌, ◌≤◌, ◌<◌, true, false, cond, nat_lt, List, [], ◌∷◌, length, drop, get_or}
use Rattle.std.proofs.Common.{refl, sym, ◌∙◌, arith}
use Rattle.std.specs.List.{AllByRecursion, sum}
use Rattle.std.proofs.lemmas.Bool.{le-ltb, lt-ltb}
use Rattle.std.proofs.lemmas.List.{drop_more}
use Rattle.std.proofs.lemmas.List.Elements.{recursion_from_All}
use Rattle.std.proofs.Math.ListN.{drop_of_length-le}
use Rattle.suit_cards.specs.Cards.{ClassLayout, Sizes}
use Rattle.suit_game.specs.declared.question.Question.{Question}
use Rattle.suit_game.specs.Blocks.{AreSizes}
use Rattle.suit_layouts.specs.ClassLayouts.{class_layouts, class_weight, counts_up_to, weighed}
use Rattle.suit_layouts.specs.Walks.{IsWalk, weighed_from}
use Rattle.suit_layouts.proofs.SumsByBlocks.{sum-cons}

-- the class layouts from an index on: the one there if it has a weight, and those after it
pub weighed_more : (question : Question) (sizes : Sizes) (counts : ClassLayout) (index deals : ℕ)
    → index < length (counts_up_to sizes)
    → counts ≡ get_or (counts_up_to sizes) index [] → deals ≡ class_weight question sizes counts
    → weighed_from question sizes index
    ≡ cond (nat_lt 0 deals) ((counts, deals)
    ∷ weighed_from question sizes (index + 1)) (weighed_from question sizes (index + 1))
unfolding weighed_from weighed
weighed_more question sizes counts index deals within is weighs =
    let split : drop index (counts_up_to sizes) ≡ counts ∷ drop (index + 1) (counts_up_to sizes) =
    rw is (drop_more (counts_up_to sizes) index [] within) in
    rw (split, weighs) refl

-- past the last index there are none
pub weighed_none : (question : Question) (sizes : Sizes) (index : ℕ) → length (counts_up_to sizes) ≤ index
    → weighed_from question sizes index ≡ []
unfolding weighed_from weighed
weighed_none question sizes index over =
    let none = drop_of_length-le (counts_up_to sizes) over in
    rw none refl

-- from the first index on there are all
pub weighed_all : (question : Question) (sizes : Sizes) → weighed_from question sizes 0 ≡ class_layouts question sizes
unfolding weighed_from class_layouts
weighed_all question sizes = refl

-- blocks that have a card each are no more than the cards
each_some : (sizes : Sizes) → AllByRecursion (λ size. 1 ≤ size) sizes → length sizes ≤ sum sizes
each_some [] some = omega arith
each_some (size ∷ sizes) some = omega (arith, some.0, sum-cons size sizes, each_some sizes some.1)

-- a suit has at most seven blocks
pub blocks_few : (question : Question) (sizes : Sizes) → AreSizes question sizes → length sizes ≤ 7
blocks_few question sizes are =
    omega (arith, each_some sizes (recursion_from_All (λ size. 1 ≤ size) sizes are.some), are.filled, are.few)

-- where a walk stands, and what it found there
pub record StandsAt (question : Question) (sizes : Sizes) (index all : ℕ) (left : List (ClassLayout
    × ℕ)) (counts : ClassLayout) (deals : ℕ) : Type 0 where
  pub walk : IsWalk question sizes index all
  pub further : index < all
  pub left_is : weighed_from question sizes index ≡ left
  pub counts_are : counts ≡ get_or (counts_up_to sizes) index []
  pub deals_are : deals ≡ class_weight question sizes counts

-- what is left there, by what it weighs
stands_more : (question : Question) (sizes : Sizes) (index all : ℕ) (left : List (ClassLayout
    × ℕ)) (counts : ClassLayout) (deals : ℕ)
    → StandsAt question sizes index all left counts deals
    → left ≡ cond (nat_lt 0 deals) ((counts, deals)
    ∷ weighed_from question sizes (index + 1)) (weighed_from question sizes (index + 1))
stands_more question sizes index all left counts deals stands =
    sym stands.left_is ∙ weighed_more question sizes counts index deals (omega (
      arith,
      stands.further,
      stands.walk.all_of,
    )) stands.counts_are stands.deals_are

-- it yields what has a weight
pub weighed_yields : (question : Question) (sizes : Sizes) (index all : ℕ) (left : List (ClassLayout
    × ℕ)) (counts : ClassLayout) (deals : ℕ)
    → StandsAt question sizes index all left counts deals → 0 < deals
    → left ≡ (counts, deals) ∷ weighed_from question sizes (index + 1)
weighed_yields question sizes index all left counts deals stands some =
    let passes : nat_lt 0 deals ≡ true = lt-ltb 0 deals some in
    rw passes at (stands_more question sizes index all left counts deals stands)

-- and passes over what has none
pub weighed_skips : (question : Question) (sizes : Sizes) (index all : ℕ) (left : List (ClassLayout
    × ℕ)) (counts : ClassLayout) (deals : ℕ)
    → StandsAt question sizes index all left counts deals → deals ≤ 0 → weighed_from question sizes (index + 1) ≡ left
weighed_skips question sizes index all left counts deals stands none =
    let fails : nat_lt 0 deals ≡ false = le-ltb 0 deals none in
    sym (rw fails at (stands_more question sizes index all left counts deals stands))

-- the next index is one too
pub walk_on : (question : Question) (sizes : Sizes) (index all : ℕ) → IsWalk question sizes index all → index < all
    → IsWalk question sizes (index + 1) all
walk_on question sizes index all walk further = record {
  valid = walk.valid;
  blocks = walk.blocks;
  all_of = walk.all_of;
  within = omega arith;
}
