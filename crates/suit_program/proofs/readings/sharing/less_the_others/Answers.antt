use Rattle.std.proofs.Common.{rules, ◌≡◌, ◌-ℤ◌, ◌≤ℤ◌, ◌∙◌, ap, pos, get_or, ℤ, SFits, to_z, of_z, arith}
use Rattle.std.proofs.Common.{◌+◌, ◌<◌, ℕ}
use Rattle.std.proofs.Common.{drop, ◌≤◌, length}
use Rattle.std.specs.Int.{w128}
use Rattle.std.specs.Prelude.{All}
use Rattle.std.proofs.lemmas.Int.{ints, to_z-of_z}
use Rattle.suit_cards.specs.declared.seats.Seat.TheVariants.{N}
use Rattle.suit_classes.specs.declared.class_moves.ClassMove.{ClassMove}
use Rattle.suit_classes.specs.declared.class_moves.ClassMove.TheVariants.{Lead}
use Rattle.suit_plans.specs.Masses.{Shares}
use Rattle.suit_program.specs.Readings.{sum_counts}
use Rattle.suit_program.proofs.lemmas.Readings.SharesOneByOne.{between_fits, one_less, rest_bounds, sum_end}
use Rattle.suit_program.proofs.readings.sharing.less_the_others.Goals as goal

less_fits : (shares : Shares) (i : ℕ) (d : ClassMove × ℤ) (rest mass count : ℤ)
    → All (λ (entry : ClassMove × ℤ). pos 0 ≤ℤ entry.1) shares → 1 ≤ i → i < length shares
    → sum_counts shares ≤ℤ mass → rest -ℤ sum_counts (drop i shares) ≡ mass -ℤ sum_counts (drop 1 shares)
    → count ≡ (get_or shares i d).1 → SFits w128 mass → SFits w128 (rest -ℤ count)
less_fits shares i d rest mass count low from below within so_far is fits =
    let bounds = rest_bounds shares (i + 1) (rest -ℤ count) mass low (omega (arith, from)) within
    (one_less shares i d rest (rest -ℤ count) mass below so_far (ap (λ (z : ℤ). rest -ℤ z) is)) in
    between_fits (rest -ℤ count) mass bounds.0 bounds.1 fits

pub overflow_sub-rest : goal.overflow_sub-rest
overflow_sub-rest c =
    let entry = get_or c.args.shares.now c.loop-index.index (Lead N 0, pos 0) in
    let count : SFits w128 entry.1 = search rules in
    let mass : SFits w128 c.args.mass = search rules in
    less_fits c.args.shares.now c.loop-index.index (Lead N 0, pos 0) _ c.args.mass _ c.requires.low
    c.loop-index.auto.index c.loop-index-test.true c.requires.within
    (c.loop-index.invariant ∙ ap (λ (z : ℤ). z -ℤ sum_counts (drop 1 c.args.shares.now)) (to_z-of_z w128 c.args.mass
    mass))
    (to_z-of_z w128 entry.1 count) mass

pub loop-index-preserved : goal.loop-index-preserved
loop-index-preserved c =
    let entry = get_or c.args.shares.now c.loop-index.index (Lead N 0, pos 0) in
    let count : SFits w128 entry.1 = search rules in
    let mass : SFits w128 c.args.mass = search rules in
    let fits = less_fits c.args.shares.now c.loop-index.index (Lead N 0, pos 0) _ c.args.mass _ c.requires.low
    c.loop-index.auto.index c.loop-index-test.true c.requires.within
    (c.loop-index.invariant ∙ ap (λ (z : ℤ). z -ℤ sum_counts (drop 1 c.args.shares.now)) (to_z-of_z w128 c.args.mass
    mass))
    (to_z-of_z w128 entry.1 count) mass in
    one_less c.args.shares.now c.loop-index.index (Lead N 0, pos 0) _ _ _ c.loop-index-test.true c.loop-index.invariant
    (to_z-of_z w128 _ fits ∙ ap (λ (z : ℤ). to_z w128 c.loop-index.rest-bits -ℤ z) (to_z-of_z w128 entry.1 count))

last : (rest none mass others : ℤ) → none ≡ pos 0 → rest -ℤ none ≡ mass -ℤ others → rest ≡ mass -ℤ others
last rest none mass others is so_far = omega (arith, ints, is, so_far)

pub returns : goal.returns
returns c =
    let mass : SFits w128 c.args.mass = search rules in
    last _ (sum_counts (drop c.loop-index.index c.args.shares.now)) (to_z w128 (of_z w128 c.args.mass))
    (sum_counts (drop 1 c.args.shares.now)) (sum_end c.args.shares.now c.loop-index.index c.loop-index-test.false)
    c.loop-index.invariant
    ∙ ap (λ (z : ℤ). z -ℤ sum_counts (drop 1 c.args.shares.now)) (to_z-of_z w128 c.args.mass mass)
