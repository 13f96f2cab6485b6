use Rattle.std.proofs.Common.{◌≡◌, ◌∙◌, ◌*ℤ◌, ℕ, ℤ, [], get_or, length, map, pos, sym, ap, rules, SFits, to_z}
use Rattle.std.proofs.Common.{of_z, arith}
use Rattle.std.specs.Int.{w128}
use Rattle.std.specs.List.{range_with_len}
use Rattle.std.proofs.lemmas.Int.{to_z-of_z}
use Rattle.std.proofs.lemmas.List.{get_or_read}
use Rattle.suit_lists.proofs.Walks.{one_numbered}
use Rattle.suit_cards.specs.Cards.{ClassLayout}
use Rattle.suit_reply.proofs.against_defence.AgainstDefence.whole_masses.Goals as goal
use Rattle.suit_reply.specs.AgainstDefence.{LayoutMasses}

pub loop-index-preserved : goal.loop-index-preserved
loop-index-preserved c =
    let layouts = c.args.self.now.layouts.now in
    let index = c.loop-index.index in
    let weighed : ℕ → ℕ × ℤ = λ at. (at, pos (get_or layouts at ([], 0)).1 *ℤ to_z w128 (of_z w128 c.args.den)) in
    let fits : SFits w128 c.weighed.result = search rules in
    let read = get_or_read layouts index _ c.loop-index-test.true c.index-self-index.is ([], 0) in
    one_numbered weighed c.loop-index.masses.items c.push.new.self.items index _ c.loop-index.invariant
    c.in_ok-push.ensures.items
    (ap (λ (z : ℤ). (index, z))
    (to_z-of_z w128 c.weighed.result fits ∙ c.weighed.ensures
    ∙ ap (λ (layout : ClassLayout × ℕ). pos layout.1 *ℤ to_z w128 (of_z w128 c.args.den))
    (sym c.index-self-index.is ∙ read)))

pub returns : goal.returns
returns c =
    let layouts = c.args.self.now.layouts.now in
    let all : c.loop-index.index ≡ length layouts =
    omega (arith, c.loop-index-test.false, c.loop-index.auto.index-end) in
    let den : SFits w128 c.args.den = search rules in
    let weighed : ℤ → ℕ → LayoutMasses =
    λ by n. map (λ index. (index, pos (get_or layouts index ([], 0)).1 *ℤ by)) (range_with_len 0 n) in
    c.loop-index.invariant ∙ ap (weighed (to_z w128 (of_z w128 c.args.den))) all
    ∙ ap (λ (z : ℤ). weighed z (length layouts)) (to_z-of_z w128 c.args.den den)
