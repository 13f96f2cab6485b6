use Rattle.std.proofs.Common.{rules, ◌∙◌, ◌+◌, ◌≤◌, sym, ap, subst, List, length, map, take, drop, ℤ, SFits}
use Rattle.std.proofs.Common.{to_z, of_z, ℕ, pos}
use Rattle.std.specs.Prelude.{All, ◌≤ℤ◌}
use Rattle.std.specs.Int.{w128}
use Rattle.std.proofs.lemmas.Int.{to_z-of_z}
use Rattle.suit_lists.proofs.Walks.{cut_length}
use Rattle.suit_num.specs.declared.fraction.Frac.{Frac}
use Rattle.suit_classes.specs.declared.class_moves.ClassMove.{ClassMove}
use Rattle.suit_plans.specs.Masses.{Shares}
use Rattle.suit_program.specs.Readings.{parts_of, plan_point, scaled, sum_counts, topped_up}
use Rattle.suit_program.specs.Programs.Worths.{passed}
use Rattle.suit_program.specs.Readings.Sharing.{IsPartOfDen, counted}
use Rattle.suit_program.proofs.lemmas.Supports.AtAChoice.{own_place}
use Rattle.suit_program.proofs.lemmas.Walks.PlanAtATurn.{moves_within, none_told, shares_told, turn_held}
use Rattle.suit_program.proofs.walks.plan_reader.PlanReader.shares.Goals as goal

pub part_of-parts-requires : goal.part_of-parts-requires
part_of-parts-requires c =
    let turn = c.requires in
    let chooses = sym (c.if-declarer_chooses.ensures turn.question turn.support turn.history turn.reached) in
    let is = c.own_moves-moves.ensures turn.question turn.support turn.history turn.reached
    (own_place turn.question turn.support turn.history chooses).0 in
    subst (λ (n : ℕ). c.args.column + n ≤ length c.args.self.now.parts.now) (sym c.len.ensures.value)
    (moves_within c.args.self.now c.args.reach.now c.args.column c.args.mass turn chooses c.own_moves-moves.result.items
    is)

pub scaled_counts-requires-clause-many : goal.scaled_counts-requires-clause-many
scaled_counts-requires-clause-many c =
    let turn = c.requires in
    let chooses = sym (c.if-declarer_chooses.ensures turn.question turn.support turn.history turn.reached) in
    let is = c.own_moves-moves.ensures turn.question turn.support turn.history turn.reached
    (own_place turn.question turn.support turn.history chooses).0 in
    let within = subst (λ (n : ℕ). c.args.column + n ≤ length c.args.self.now.parts.now) (sym c.len.ensures.value)
    (moves_within c.args.self.now c.args.reach.now c.args.column c.args.mass turn chooses c.own_moves-moves.result.items
    is) in
    ap (λ (l : List ClassMove). length l) c.as_slice.ensures.value ∙ sym c.len.ensures.value
    ∙ sym (cut_length c.args.self.now.parts.now c.args.column c.len.result within)
    ∙ ap (λ (l : List Frac). length l) (sym c.part_of-parts.ensures)

pub scaled_counts-requires-clause-parts : goal.scaled_counts-requires-clause-parts
scaled_counts-requires-clause-parts c =
    let turn = c.requires in
    let chooses = sym (c.if-declarer_chooses.ensures turn.question turn.support turn.history turn.reached) in
    let is = c.own_moves-moves.ensures turn.question turn.support turn.history turn.reached
    (own_place turn.question turn.support turn.history chooses).0 in
    let mass : SFits w128 c.args.mass = search rules in
    let den : SFits w128 c.args.self.now.den = search rules in
    subst (λ (z : ℤ). All (IsPartOfDen z) c.part_of-parts.result.now) (sym (to_z-of_z w128 c.args.self.now.den den))
    (turn_held c.args.self.now c.args.reach.now c.args.column c.args.mass turn chooses c.own_moves-moves.result.items is
    c.part_of-parts.result.now
    (c.part_of-parts.ensures ∙ ap (λ (n : ℕ). take n (drop c.args.column c.args.self.now.parts.now))
    c.len.ensures.value)
    mass).each

-- the counts that are made
abbrev made : ℤ → List ClassMove → List Frac → Shares
made den moves parts = counted moves (map (λ (part : Frac). scaled den (part.num, part.den)) parts)

pub top_up-requires-clause-low : goal.top_up-requires-clause-low
top_up-requires-clause-low c =
    let turn = c.requires in
    let chooses = sym (c.if-declarer_chooses.ensures turn.question turn.support turn.history turn.reached) in
    let is = c.own_moves-moves.ensures turn.question turn.support turn.history turn.reached
    (own_place turn.question turn.support turn.history chooses).0 in
    let mass : SFits w128 c.args.mass = search rules in
    let den : SFits w128 c.args.self.now.den = search rules in
    let held = turn_held c.args.self.now c.args.reach.now c.args.column c.args.mass turn chooses
    c.own_moves-moves.result.items is c.part_of-parts.result.now
    (c.part_of-parts.ensures ∙ ap (λ (n : ℕ). take n (drop c.args.column c.args.self.now.parts.now))
    c.len.ensures.value)
    mass in
    subst (λ (l : Shares). All (λ (count : ClassMove × ℤ). pos 0 ≤ℤ count.1) l)
    (sym (c.in_ok-counts.ensures ∙ ap (λ (l : List ClassMove). made (to_z w128 (of_z w128 c.args.self.now.den)) l
    c.part_of-parts.result.now) c.as_slice.ensures.value
    ∙ ap (λ (z : ℤ). made z c.own_moves-moves.result.items c.part_of-parts.result.now)
    (to_z-of_z w128 c.args.self.now.den den) ∙ held.counts)) held.low

pub top_up-requires-clause-within : goal.top_up-requires-clause-within
top_up-requires-clause-within c =
    let turn = c.requires in
    let chooses = sym (c.if-declarer_chooses.ensures turn.question turn.support turn.history turn.reached) in
    let is = c.own_moves-moves.ensures turn.question turn.support turn.history turn.reached
    (own_place turn.question turn.support turn.history chooses).0 in
    let mass : SFits w128 c.args.mass = search rules in
    let den : SFits w128 c.args.self.now.den = search rules in
    let held = turn_held c.args.self.now c.args.reach.now c.args.column c.args.mass turn chooses
    c.own_moves-moves.result.items is c.part_of-parts.result.now
    (c.part_of-parts.ensures ∙ ap (λ (n : ℕ). take n (drop c.args.column c.args.self.now.parts.now))
    c.len.ensures.value)
    mass in
    subst (λ (z : ℤ). sum_counts c.in_ok-counts.counts.items ≤ℤ z) (sym (to_z-of_z w128 c.args.mass mass))
    (subst (λ (l : Shares). sum_counts l ≤ℤ c.args.mass)
    (sym (c.in_ok-counts.ensures ∙ ap (λ (l : List ClassMove). made (to_z w128 (of_z w128 c.args.self.now.den)) l
    c.part_of-parts.result.now) c.as_slice.ensures.value
    ∙ ap (λ (z : ℤ). made z c.own_moves-moves.result.items c.part_of-parts.result.now)
    (to_z-of_z w128 c.args.self.now.den den) ∙ held.counts)) held.sum)

pub returns-in_ok-counts : goal.returns-in_ok-counts
returns-in_ok-counts c = λ turn.
    let chooses = sym (c.if-declarer_chooses.ensures turn.question turn.support turn.history turn.reached) in
    let is = c.own_moves-moves.ensures turn.question turn.support turn.history turn.reached
    (own_place turn.question turn.support turn.history chooses).0 in
    let mass : SFits w128 c.args.mass = search rules in
    let den : SFits w128 c.args.self.now.den = search rules in
    let held = turn_held c.args.self.now c.args.reach.now c.args.column c.args.mass turn chooses
    c.own_moves-moves.result.items is c.part_of-parts.result.now
    (c.part_of-parts.ensures ∙ ap (λ (n : ℕ). take n (drop c.args.column c.args.self.now.parts.now))
    c.len.ensures.value)
    mass in
    shares_told c.args.self.now c.args.reach.now c.args.column c.args.mass turn chooses c.own_moves-moves.result.items
    is
    c.of.result
    (c.of.ensures ∙ c.top_up.ensures
    ∙ ap (λ (l : Shares). topped_up (to_z w128 (of_z w128 c.args.mass)) l)
    (c.in_ok-counts.ensures ∙ ap (λ (l : List ClassMove). made (to_z w128 (of_z w128 c.args.self.now.den)) l
    c.part_of-parts.result.now) c.as_slice.ensures.value
    ∙ ap (λ (z : ℤ). made z c.own_moves-moves.result.items c.part_of-parts.result.now)
    (to_z-of_z w128 c.args.self.now.den den) ∙ held.counts)
    ∙ ap (λ (z : ℤ). topped_up z (passed turn.question turn.support (plan_point turn.question turn.support
    (parts_of turn.optimum.point)) turn.history)) (to_z-of_z w128 c.args.mass mass))

pub returns-else-declarer_chooses : goal.returns-else-declarer_chooses
returns-else-declarer_chooses c = λ turn.
    none_told c.args.self.now c.args.reach.now c.args.column c.args.mass turn
    (sym (c.if-declarer_chooses.ensures turn.question turn.support turn.history turn.reached))
