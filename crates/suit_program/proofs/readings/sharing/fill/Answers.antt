use Rattle.std.proofs.Common.{rules, ◌≡◌, ◌-ℤ◌, ◌≤ℤ◌, ◌∙◌, sym, ap, subst, pos, get_or, ℕ, ℤ, SFits, to_z, of_z}
use Rattle.std.proofs.Common.{◌<◌}
use Rattle.std.specs.Int.{w128, int_min}
use Rattle.std.proofs.lemmas.Int.{to_z-of_z}
use Rattle.std.proofs.lemmas.List.Elements.{All-get_or}
use Rattle.suit_cards.specs.declared.seats.Seat.TheVariants.{N}
use Rattle.suit_classes.specs.declared.class_moves.ClassMove.TheVariants.{Lead}
use Rattle.suit_program.specs.Readings.{filled}
use Rattle.suit_program.specs.Readings.Sharing.{counted}
use Rattle.suit_program.proofs.lemmas.Readings.SharesOneByOne.{all_filled, between_fits, min_left, one_filled}
use Rattle.suit_program.proofs.readings.sharing.fill.Goals as goal

-- what is left after a count
record IsLeft (still : ℤ) : Type 0 where
  some : pos 0 ≤ℤ still
  fits : SFits w128 still

left_after : (price left count : ℤ) → pos 0 ≤ℤ price → pos 0 ≤ℤ left → SFits w128 left → count ≡ int_min price left
    → IsLeft (left -ℤ count)
left_after price left count low some fits least =
    let bounds = min_left price left low some in
    let is : left -ℤ count ≡ left -ℤ int_min price left = ap (λ (z : ℤ). left -ℤ z) least in
    record {
      some = subst (λ (z : ℤ). pos 0 ≤ℤ z) (sym is) bounds.0;
      fits = subst (SFits w128) (sym is) (between_fits (left -ℤ int_min price left) left bounds.0 bounds.1 fits);
    }

pub overflow_sub-left : goal.overflow_sub-left
overflow_sub-left c =
    let price = get_or c.args.prices.now c.loop-index.index (pos 0) in
    let price_fits : SFits w128 price = search rules in
    let count_fits : SFits w128 c.min-count.result = search rules in
    let left_fits : SFits w128 (to_z w128 c.loop-index.left-bits) = search rules in
    let low = All-get_or (λ (z : ℤ). pos 0 ≤ℤ z) c.args.prices.now c.loop-index.index (pos 0)
    (subst (λ (n : ℕ). c.loop-index.index < n) c.requires.many c.loop-index-test.true) c.requires.low in
    (left_after price (to_z w128 c.loop-index.left-bits) (to_z w128 (of_z w128 c.min-count.result)) low
    c.loop-index.invariant.some left_fits (to_z-of_z w128 c.min-count.result count_fits ∙ c.min-count.ensures.value
    ∙ ap (λ (z : ℤ). int_min z (to_z w128 c.loop-index.left-bits)) (to_z-of_z w128 price price_fits))).fits

pub loop-index-preserved : goal.loop-index-preserved
loop-index-preserved c =
    let price = get_or c.args.prices.now c.loop-index.index (pos 0) in
    let price_fits : SFits w128 price = search rules in
    let count_fits : SFits w128 c.min-count.result = search rules in
    let left_fits : SFits w128 (to_z w128 c.loop-index.left-bits) = search rules in
    let below = subst (λ (n : ℕ). c.loop-index.index < n) c.requires.many c.loop-index-test.true in
    let low = All-get_or (λ (z : ℤ). pos 0 ≤ℤ z) c.args.prices.now c.loop-index.index (pos 0) below c.requires.low in
    let least = to_z-of_z w128 c.min-count.result count_fits ∙ c.min-count.ensures.value
    ∙ ap (λ (z : ℤ). int_min z (to_z w128 c.loop-index.left-bits)) (to_z-of_z w128 price price_fits) in
    let left = left_after price (to_z w128 c.loop-index.left-bits) (to_z w128 (of_z w128 c.min-count.result)) low
    c.loop-index.invariant.some left_fits least in
    let is = to_z-of_z w128 (to_z w128 c.loop-index.left-bits -ℤ to_z w128 (of_z w128 c.min-count.result)) left.fits in
    record {
      some = subst (λ (z : ℤ). pos 0 ≤ℤ z) (sym is) left.some;
      so_far = one_filled c.loop-index.shares.items c.push.new.self.items _ c.args.moves.now c.args.prices.now
          c.loop-index.index (Lead N 0) (pos 0) (to_z w128 c.loop-index.left-bits)
          (to_z w128 (of_z w128 c.min-count.result)) _ c.loop-index-test.true below c.loop-index.invariant.so_far
          c.in_ok-push.ensures.items least is;
    }

pub returns : goal.returns
returns c =
    let mass : SFits w128 c.args.mass = search rules in
    all_filled c.loop-index.shares.items _ c.args.moves.now c.args.prices.now c.loop-index.index
    (to_z w128 c.loop-index.left-bits) c.loop-index-test.false c.loop-index.invariant.so_far
    ∙ ap (λ (z : ℤ). filled z (counted c.args.moves.now c.args.prices.now)) (to_z-of_z w128 c.args.mass mass)
