use Rattle.std.proofs.Common.{◌^◌, ◌*◌, ◌≤◌, length, sym, ◌∙◌, arith}
use Rattle.std.proofs.lemmas.Bool.{eqb-false, eqb-true}
use Rattle.std.specs.List.{sum}
use Rattle.suit_layouts.proofs.WeightsAreSmall.{first_ways, small_fits, ways-none, ways_apart, ways_small}
use Rattle.suit_layouts.proofs.class_weights.+ways.Goals as goal

pub returns-then-is_empty-clause-value : goal.returns-then-is_empty-clause-value
returns-then-is_empty-clause-value t c =
    ways-none c.args.sizes.now c.args.counts.now (omega (arith, c.in_default.len_below))
    (eqb-true (length c.args.counts.now) 0 (sym c.is_empty.ensures ∙ c.if-is_empty.true))

pub returns-else-is_empty-clause-value : goal.returns-else-is_empty-clause-value
returns-else-is_empty-clause-value t c =
    ways_apart c.args.sizes.now c.args.counts.now
    (λ same. eqb-false (length c.args.counts.now) 0 (sym c.is_empty.ensures
    ∙ c.if-is_empty.false) (omega (arith, c.in_default.len_below)))

pub returns-in_default-counts-clause-value : goal.returns-in_default-counts-clause-value
returns-in_default-counts-clause-value t c =
    ways_apart c.args.sizes.now c.args.counts.now (λ same. omega (
      arith,
      c.in-len1-up.len_at_least,
      c.in_default-counts.len_below,
    ))

pub overflow_mul-result : goal.overflow_mul-result
overflow_mul-result t c =
    let first = first_ways c.args.sizes.now c.args.counts.now c.in-len1-up.len_at_least
    c.in-len1-up-counts.len_at_least in
    let small = ways_small _ _ _ c.choose.result c.ways.result c.choose.ensures c.ways.ensures.small in
    let fits : c.choose.result * c.ways.result ≤ 2 ^ 13 =
    small_fits (sum c.args.sizes.now) (c.choose.result * c.ways.result) c.requires (rw first.sum_of small) in
    record { fits = omega arith }

pub returns-clause-value : goal.returns-clause-value
returns-clause-value t c =
    let first = first_ways c.args.sizes.now c.args.counts.now c.in-len1-up.len_at_least
    c.in-len1-up-counts.len_at_least in
    rw (c.choose.ensures, c.ways.ensures.value) (sym first.ways)

pub returns-clause-small : goal.returns-clause-small
returns-clause-small t c =
    let first = first_ways c.args.sizes.now c.args.counts.now c.in-len1-up.len_at_least
    c.in-len1-up-counts.len_at_least in
    rw first.sum_of (ways_small _ _ _ c.choose.result c.ways.result c.choose.ensures c.ways.ensures.small)
