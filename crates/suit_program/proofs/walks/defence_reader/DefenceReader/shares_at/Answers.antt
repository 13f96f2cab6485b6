use Rattle.std.proofs.Common.{rules, ◌∙◌, ◌+◌, ◌≤◌, ℤ, SFits, sym, ap, subst, to_z, of_z, List, length, ℕ, pos, get_or}
use Rattle.std.proofs.Common.{take, drop}
use Rattle.std.specs.Prelude.{All, ◌≤ℤ◌}
use Rattle.std.specs.Int.{w128}
use Rattle.std.proofs.lemmas.Int.{to_z-of_z}
use Rattle.std.proofs.lemmas.List.Elements.{All-drop, All-take}
use Rattle.suit_lists.proofs.Walks.{cut_length}
use Rattle.suit_classes.specs.declared.class_moves.ClassMove.{ClassMove}
use Rattle.suit_program.specs.declared.walks.reach.ReachedLayout.{ReachedLayout}
use Rattle.suit_program.specs.Readings.{filled}
use Rattle.suit_program.specs.Readings.Sharing.{counted}
use Rattle.suit_program.proofs.lemmas.Walks.DefenceInALayout.{answers_told, first_within, moves_within, place_listed}
use Rattle.suit_program.proofs.lemmas.Walks.DefenceInALayout.{shares_told, waits_told}
use Rattle.suit_program.proofs.walks.defence_reader.DefenceReader.shares_at.Goals as goal

pub past-first-requires : goal.past-first-requires
past-first-requires c =
    let turn = c.requires.turn in
    let place = c.requires.place in
    let listed = place_listed c.args.self.now c.args.reach.now c.args.row c.args.mass turn c.args.place place in
    first_within c.args.self.now c.args.reach.now c.args.row c.args.mass turn c.args.place place
    (sym (c.if-chooses.ensures turn.question turn.support turn.history turn.reached listed)) c.answers_before.result
    (c.answers_before.ensures turn.question turn.support turn.history turn.reached)

pub part_of-prices-requires : goal.part_of-prices-requires
part_of-prices-requires c =
    let turn = c.requires.turn in
    let place = c.requires.place in
    let listed = place_listed c.args.self.now c.args.reach.now c.args.row c.args.mass turn c.args.place place in
    let chooses = sym (c.if-chooses.ensures turn.question turn.support turn.history turn.reached listed) in
    let layout = c.index-layouts-place.result in
    let is = answers_told c.args.self.now c.args.reach.now c.args.row c.args.mass turn c.args.place place chooses layout
    (c.index-layouts-place.is ∙ ap (λ (l : List ReachedLayout). get_or l c.args.place layout) c.layouts.ensures)
    c.answers-moves.result.items (c.answers-moves.ensures turn.question turn.support turn.history turn.reached) in
    subst (λ (n : ℕ). c.past-first.result + n ≤ length c.args.self.now.prices.now) (sym c.len.ensures.value)
    (moves_within c.args.self.now c.args.reach.now c.args.row c.args.mass turn c.args.place place chooses
    c.answers-moves.result.items is layout c.past-first.result
    (c.past-first.ensures ∙ ap (λ (n : ℕ). c.args.row + n)
    (c.answers_before.ensures turn.question turn.support turn.history turn.reached)))

pub fill-requires-clause-many : goal.fill-requires-clause-many
fill-requires-clause-many c =
    let turn = c.requires.turn in
    let place = c.requires.place in
    let listed = place_listed c.args.self.now c.args.reach.now c.args.row c.args.mass turn c.args.place place in
    let chooses = sym (c.if-chooses.ensures turn.question turn.support turn.history turn.reached listed) in
    let layout = c.index-layouts-place.result in
    let is = answers_told c.args.self.now c.args.reach.now c.args.row c.args.mass turn c.args.place place chooses layout
    (c.index-layouts-place.is ∙ ap (λ (l : List ReachedLayout). get_or l c.args.place layout) c.layouts.ensures)
    c.answers-moves.result.items (c.answers-moves.ensures turn.question turn.support turn.history turn.reached) in
    let within : c.past-first.result + c.len.result ≤ length c.args.self.now.prices.now =
    subst (λ (n : ℕ). c.past-first.result + n ≤ length c.args.self.now.prices.now) (sym c.len.ensures.value)
    (moves_within c.args.self.now c.args.reach.now c.args.row c.args.mass turn c.args.place place chooses
    c.answers-moves.result.items is layout c.past-first.result
    (c.past-first.ensures ∙ ap (λ (n : ℕ). c.args.row + n)
    (c.answers_before.ensures turn.question turn.support turn.history turn.reached))) in
    ap (λ (l : List ClassMove). length l) c.as_slice.ensures.value ∙ sym c.len.ensures.value
    ∙ sym (cut_length c.args.self.now.prices.now c.past-first.result c.len.result within)
    ∙ ap (λ (l : List ℤ). length l) (sym c.part_of-prices.ensures)

pub fill-requires-clause-low : goal.fill-requires-clause-low
fill-requires-clause-low c =
    subst (All (λ (price : ℤ). pos 0 ≤ℤ price)) (sym c.part_of-prices.ensures)
    (All-take (λ (price : ℤ). pos 0 ≤ℤ price) c.len.result (drop c.past-first.result c.args.self.now.prices.now)
    (All-drop (λ (price : ℤ). pos 0 ≤ℤ price) c.past-first.result c.args.self.now.prices.now c.requires.turn.low))

pub returns-in_ok-counts : goal.returns-in_ok-counts
returns-in_ok-counts c = λ turn.
    let place = c.requires.place in
    let mass : SFits w128 c.args.mass = search rules in
    let listed = place_listed c.args.self.now c.args.reach.now c.args.row c.args.mass turn c.args.place place in
    let chooses = sym (c.if-chooses.ensures turn.question turn.support turn.history turn.reached listed) in
    let layout = c.index-layouts-place.result in
    let is = answers_told c.args.self.now c.args.reach.now c.args.row c.args.mass turn c.args.place place chooses layout
    (c.index-layouts-place.is ∙ ap (λ (l : List ReachedLayout). get_or l c.args.place layout) c.layouts.ensures)
    c.answers-moves.result.items (c.answers-moves.ensures turn.question turn.support turn.history turn.reached) in
    shares_told c.args.self.now c.args.reach.now c.args.row c.args.mass turn c.args.place place chooses
    c.answers-moves.result.items is layout c.past-first.result
    (c.past-first.ensures ∙ ap (λ (n : ℕ). c.args.row + n)
    (c.answers_before.ensures turn.question turn.support turn.history turn.reached))
    c.part_of-prices.result.now
    (c.part_of-prices.ensures
    ∙ ap (λ (n : ℕ). take n (drop c.past-first.result c.args.self.now.prices.now)) c.len.ensures.value)
    c.of.result
    (c.of.ensures ∙ c.in_ok-counts.ensures
    ∙ ap (λ (l : List ClassMove). filled (to_z w128 (of_z w128 c.args.mass)) (counted l c.part_of-prices.result.now))
    c.as_slice.ensures.value
    ∙ ap (λ (z : ℤ). filled z (counted c.answers-moves.result.items c.part_of-prices.result.now))
    (to_z-of_z w128 c.args.mass mass))

pub returns-else-chooses : goal.returns-else-chooses
returns-else-chooses c = λ turn.
    let place = c.requires.place in
    waits_told c.args.self.now c.args.reach.now c.args.row c.args.mass turn c.args.place place
    (sym (c.if-chooses.ensures turn.question turn.support turn.history turn.reached
    (place_listed c.args.self.now c.args.reach.now c.args.row c.args.mass turn c.args.place place)))
