-- The counts at an index among all, as they are counted off block by block.
use Rattle.std.proofs.Common.{◌≡◌, ℕ, zero, suc, ◌+◌, ◌*◌, ◌/◌, ◌%◌, ◌≤◌, ◌<◌, List, [], ◌∷◌, ◌++◌, map, length, drop}
use Rattle.std.proofs.Common.{get_or, sym, ap, ◌∙◌, arith}
use Rattle.std.specs.List.{flat_map, range_with_len}
use Rattle.std.proofs.lemmas.List.{append-nil, append_assoc, drop_more, length-append, get_or_append_left}
use Rattle.std.proofs.lemmas.List.{get_or-append-add, get_or-map, length-map}
use Rattle.std.proofs.lemmas.Nat.{div-add-mod'}
use Rattle.std.proofs.Math.ListN.{drop_of_length-le}
use Rattle.std.proofs.Math.Nat.{div-lt_iff_lt-mul, mod-lt, mul-div_cancel_left, mul-le-mul_left}
use Rattle.suit_cards.specs.Cards.{ClassLayout, Sizes}
use Rattle.suit_layouts.specs.ClassLayouts.{counts_up_to}
use Rattle.suit_layouts.proofs.FewCounts.{length-up_to}

-- each count of a first block goes with all others in turn
pieces_at : (all : List (List ℕ)) (a n count rest : ℕ) → count < n → rest < length all
    → get_or (flat_map (λ first. map (λ counts. first ∷ counts) all) (range_with_len a n)) (count * length all + rest)
    [] ≡ (a + count) ∷ get_or all rest []
pieces_at all a zero count rest below within = absurd (omega arith)
pieces_at all a (suc n) zero rest below within =
    let with_first : List ℕ → List ℕ = λ counts. a ∷ counts in
    let later = flat_map (λ first. map (λ counts. first ∷ counts) all) (range_with_len (a + 1) n) in
    let long : length (map with_first all) ≡ length all = length-map all with_first in
    let index : 0 * length all + rest ≡ rest = omega arith in
    let none : a + 0 ≡ a = omega arith in
    rw (index, none) (get_or_append_left (map with_first all) later [] rest (omega arith)
    ∙ get_or-map with_first all rest [] [] within)
pieces_at all a (suc n) (suc count) rest below within =
    let with_first : List ℕ → List ℕ = λ counts. a ∷ counts in
    let later = flat_map (λ first. map (λ counts. first ∷ counts) all) (range_with_len (a + 1) n) in
    let long : length (map with_first all) ≡ length all = length-map all with_first in
    let index : suc count * length all + rest ≡ length (map with_first all) + (count * length all + rest) =
    omega arith in
    let next : a + suc count ≡ a + 1 + count = omega arith in
    rw (index, next) (get_or-append-add (map with_first all) later (count * length all + rest) []
    ∙ pieces_at all (a + 1) n count rest (omega arith) within)

-- no block stops the counting
pub up_to-some : (sizes : Sizes) → 0 < length (counts_up_to sizes)
unfolding counts_up_to
up_to-some [] = omega arith
up_to-some (size ∷ sizes) =
    let more = up_to-some sizes in
    omega (arith, length-up_to size sizes, more)

-- the counts at an index, by the count of the first block
up_to-at : (size : ℕ) (sizes : Sizes) (index left : ℕ) → left ≡ length (counts_up_to sizes) → index < (size + 1) * left
    → get_or (counts_up_to (size ∷ sizes)) index [] ≡ index / left ∷ get_or (counts_up_to sizes) (index % left) []
unfolding counts_up_to
up_to-at size sizes index left is below =
    let some : 0 < left = omega (arith, up_to-some sizes) in
    let first : index / left < size + 1 = (div-lt_iff_lt-mul some).1 below in
    let rest : index % left < length (counts_up_to sizes) = omega (arith, mod-lt index some) in
    let whole : index ≡ index / left * length (counts_up_to sizes) + index % left =
    rw (← is) (sym (div-add-mod' index left)) in
    let start : 0 + index / left ≡ index / left = omega arith in
    ap (λ (n : ℕ). get_or (counts_up_to (size ∷ sizes)) n []) whole
    ∙ rw start at (pieces_at (counts_up_to sizes) 0 (size + 1) (index / left) (index % left) first rest)

-- one block more is counted off: how many counts there are of the others, and where among them the index lies
pub record CountedOff (sizes : Sizes) (counts : ClassLayout) (block index all wanted : ℕ) : Type 0 where
  pub many : length counts ≡ block
  pub left : all ≡ length (counts_up_to (drop block sizes))
  pub within : index < all
  pub placed : counts ++ get_or (counts_up_to (drop block sizes)) index [] ≡ get_or (counts_up_to sizes) wanted []

-- after a block, the counts of the blocks that are left
pub left_at : (sizes : Sizes) (block all : ℕ) → block < length sizes → all ≡ length (counts_up_to (drop block sizes))
    → all / (get_or sizes block 0 + 1) ≡ length (counts_up_to (drop (block + 1) sizes))
left_at sizes block all within is =
    let split = drop_more sizes block 0 within in
    let product : all ≡ (get_or sizes block 0 + 1) * length (counts_up_to (drop (block + 1) sizes)) = is
    ∙ rw split (length-up_to (get_or sizes block 0) (drop (block + 1) sizes)) in
    rw product (mul-div_cancel_left (length (counts_up_to (drop (block + 1) sizes))) (omega arith))

-- one block more
pub counted_more : (sizes : Sizes) (counts : ClassLayout) (block index all wanted left : ℕ) → block < length sizes
    → CountedOff sizes counts block index all wanted
    → left ≡ all / (get_or sizes block 0 + 1)
    → CountedOff sizes (counts ++ (index / left) ∷ []) (block + 1) (index % left) left wanted
counted_more sizes counts block index all wanted left within so_far is =
    let split = drop_more sizes block 0 within in
    let size = get_or sizes block 0 in
    let later = drop (block + 1) sizes in
    let left_is : left ≡ length (counts_up_to later) = is ∙ left_at sizes block all within so_far.left in
    let product : all ≡ (size + 1) * length (counts_up_to later) = so_far.left ∙ rw split (length-up_to size later) in
    let below : index < (size + 1) * left = rw left_is (omega (arith, so_far.within)) in
    let some : 0 < left = omega (arith, up_to-some later) in
    let here = up_to-at size later index left left_is below in
    record {
      many = omega (arith, length-append counts ((index / left) ∷ []), so_far.many);
      left = left_is;
      within = mod-lt index some;
      placed = append_assoc counts ((index / left) ∷ []) (get_or (counts_up_to later) (index % left) [])
          ∙ ap (λ (others : List ℕ). counts ++ others) (sym here)
          ∙ rw split at so_far.placed;
    }

-- with no block left, the counts are those at the index
pub counted_all : (sizes : Sizes) (counts : ClassLayout) (block index all wanted : ℕ) → length sizes ≤ block
    → CountedOff sizes counts block index all wanted
    → counts ≡ get_or (counts_up_to sizes) wanted []
unfolding counts_up_to
counted_all sizes counts block index all wanted over done =
    let none : drop block sizes ≡ [] = drop_of_length-le sizes over in
    let one : all ≡ 1 = rw none at done.left in
    let first : index ≡ 0 = omega (arith, done.within) in
    sym (append-nil counts) ∙ rw (none, first) at done.placed

-- a block has fewer cards than there are counts from it on
pub size_small : (sizes : Sizes) (block : ℕ) → block < length sizes
    → get_or sizes block 0 + 1 ≤ length (counts_up_to (drop block sizes))
size_small sizes block within =
    let split = drop_more sizes block 0 within in
    let some = up_to-some (drop (block + 1) sizes) in
    let product = mul-le-mul_left (get_or sizes block 0 + 1) some in
    rw split (omega (arith, length-up_to (get_or sizes block 0) (drop (block + 1) sizes), product))

-- the number of counts, one block more taken into the product
pub product_more : (sizes : Sizes) (block all : ℕ) → block < length sizes
    → all * length (counts_up_to (drop block sizes)) ≡ length (counts_up_to sizes)
    → all * (get_or sizes block 0 + 1) * length (counts_up_to (drop (block + 1) sizes)) ≡ length (counts_up_to sizes)
product_more sizes block all within so_far =
    let split = drop_more sizes block 0 within in
    let more = length-up_to (get_or sizes block 0) (drop (block + 1) sizes) in
    let product : all * ((get_or sizes block 0 + 1) * length (counts_up_to (drop (block + 1) sizes)))
    ≡ length (counts_up_to sizes) = rw (split, more) at so_far in
    omega (arith, product)

-- a factor of a number is at most it
pub factor_small : (sizes : Sizes) (block all number : ℕ) → all * length (counts_up_to (drop block sizes)) ≡ number
    → all ≤ number
factor_small sizes block all number is =
    let some = up_to-some (drop block sizes) in
    let product = mul-le-mul_left all some in
    omega (arith, product)

-- the whole product
pub product_all : (sizes : Sizes) (block all : ℕ) → length sizes ≤ block
    → all * length (counts_up_to (drop block sizes)) ≡ length (counts_up_to sizes)
    → all ≡ length (counts_up_to sizes)
unfolding counts_up_to
product_all sizes block all over so_far =
    let none : drop block sizes ≡ [] = drop_of_length-le sizes over in
    let whole : all * 1 ≡ length (counts_up_to sizes) = rw none at so_far in
    omega (arith, whole)

-- what is left after a block is not nothing
pub left_some : (sizes : Sizes) (block all : ℕ) → block < length sizes → all ≡ length (counts_up_to (drop block sizes))
    → 0 < all / (get_or sizes block 0 + 1)
left_some sizes block all within is =
    omega (arith, left_at sizes block all within is, up_to-some (drop (block + 1) sizes))

-- a block of the product has no more cards than there are counts
pub block_small : (sizes : Sizes) (block all number : ℕ) → block < length sizes
    → all * length (counts_up_to (drop block sizes)) ≡ number → 0 < number
    → get_or sizes block 0 + 1 ≤ number
block_small sizes block zero number within is some = absurd (omega arith)
block_small sizes block (suc all) number within is some =
    let small = size_small sizes block within in
    omega (arith, small, is)
