use Rattle.std.proofs.Common.{rules, ◌∙◌, ◌≤◌, List, length, map, sym, ap, subst, ℕ, ℤ, pos, refl, SFits}
use Rattle.std.proofs.Common.{to_z, of_z, All}
use Rattle.std.specs.Prelude.{◌*ℤ◌}
use Rattle.std.specs.Int.{w128}
use Rattle.std.proofs.lemmas.Int.{to_z-of_z}
use Rattle.suit_cards.specs.Cards.{ClassLayout}
use Rattle.suit_game.specs.declared.limits.TheConstants.{MOST_TOTAL}
use Rattle.suit_layouts.specs.declared.class_list.TheConstants.{MOST_CLASS_LAYOUTS}
use Rattle.suit_plans.specs.declared.defence.Defence.{Defence}
use Rattle.suit_plans.specs.declared.defence.DefenceRow.{DefenceRow}
use Rattle.suit_program.specs.declared.walks.defence_reader.DefenceReader.{DefenceReader}
use Rattle.suit_program.specs.declared.walks.defence_walk.DefenceWalk.{DefenceWalk}
use Rattle.suit_program.specs.Walks.DefenceLists.{AreEmptyLists, AreReaders}
use Rattle.suit_program.specs.Supports.Marks.{support_seen}
use Rattle.suit_program.specs.Readings.{defence_of}
use Rattle.suit_program.proofs.lemmas.Walks.DefenceFromTheStart.{all_rows, root_stops, with_scale}
use Rattle.suit_program.proofs.lemmas.Walks.LedgerFromTheStart.{layouts_weigh}
use Rattle.suit_program.proofs.lemmas.Walks.ReachAtTheStart.{layouts_few}
use Rattle.suit_program.proofs.walks.defence_walk.read_defence.Goals as goal

abbrev defence_with : ℤ → List DefenceRow → Defence
defence_with scale rows = record { den = scale; rows = rows }

pub readers_of-requires : goal.readers_of-requires
readers_of-requires c =
    subst (λ (l : List (ClassLayout × ℕ)). length l ≤ MOST_CLASS_LAYOUTS)
    (sym (c.layouts-layouts.ensures ∙ c.requires.grown.layouts))
    (layouts_few c.requires.question)

pub masses_of-requires-clause-few : goal.masses_of-requires-clause-few
masses_of-requires-clause-few c =
    subst (λ (l : List (ClassLayout × ℕ)). All (λ layout. layout.1 ≤ MOST_TOTAL) l)
    (sym (c.layouts-layouts.ensures ∙ c.requires.grown.layouts))
    (layouts_weigh c.requires.question c.requires.valid)

pub below-requires-clause-stops : goal.below-requires-clause-stops
below-requires-clause-stops c =
    let fits : SFits w128 c.args.scale = search rules in
    let scale = to_z w128 (of_z w128 c.args.scale) in
    let tree = c.args.tree.now in
    let prices = c.args.prices.now in
    let case = with_scale c.requires scale (to_z-of_z w128 c.args.scale fits) in
    root_stops tree c.args.support.now prices scale case _ c.start-start.result c.new-history.result.items
    c.deref.result.now refl
    (subst (AreReaders tree.layouts.items prices (length tree.layouts.items)) (sym c.as_slice.ensures.value)
    (subst (λ (l : List (ClassLayout × ℕ)). AreReaders l prices (length l) c.in_ok-readers.readers.items)
    c.layouts-layouts.ensures c.in_ok-readers.ensures))
    (c.deref.ensures.value ∙ c.in_ok-masses.ensures
    ∙ ap (map (λ (layout : ClassLayout × ℕ). pos layout.1 *ℤ scale)) c.layouts-layouts.ensures)
    (c.start-start.ensures case.question case.valid case.grown) c.new-history.ensures.items

pub below-requires-clause-lists : goal.below-requires-clause-lists
below-requires-clause-lists c =
    c.in_ok-lists.ensures.long
    ∙ sym (ap (λ (l : List DefenceReader). length l) c.as_slice.ensures.value ∙ c.in_ok-readers.ensures.long)

pub returns : goal.returns
unfolding defence_of
returns c = λ case.
    let fits : SFits w128 c.args.scale = search rules in
    let scale = to_z w128 (of_z w128 c.args.scale) in
    let same = to_z-of_z w128 c.args.scale fits in
    let tree = c.args.tree.now in
    let prices = c.args.prices.now in
    let told = with_scale case scale same in
    let walk : DefenceWalk =
    record { alloc = c.args.alloc; prices = c.args.prices; readers = c.as_slice.result } in
    ap (defence_with scale)
    (c.in_ok-listed.ensures ∙ c.in_ok-joined.ensures
    ∙ all_rows tree c.args.support.now prices scale told walk c.start-start.result c.new-history.result.items
    c.deref.result.now refl
    (subst (AreReaders tree.layouts.items prices (length tree.layouts.items)) (sym c.as_slice.ensures.value)
    (subst (λ (l : List (ClassLayout × ℕ)). AreReaders l prices (length l) c.in_ok-readers.readers.items)
    c.layouts-layouts.ensures c.in_ok-readers.ensures))
    (c.deref.ensures.value ∙ c.in_ok-masses.ensures
    ∙ ap (map (λ (layout : ClassLayout × ℕ). pos layout.1 *ℤ scale)) c.layouts-layouts.ensures)
    (c.start-start.ensures case.question case.valid case.grown) c.new-history.ensures.items c.in_ok-lists.lists.items
    c.below.new.lists.items c.in_ok-below.ensures.lists
    (subst (λ (l : List (ClassLayout × ℕ)). AreEmptyLists (length l) c.in_ok-lists.lists.items)
    c.layouts-layouts.ensures
    c.in_ok-lists.ensures) c.in_ok-below.ensures.rows)
    ∙ ap (defence_of case.question (support_seen case.question c.args.support.now) c.args.prices.now) same
