use Rattle.std.proofs.Common.{◌∙◌, ◌<◌, List, length, map, sym, ap, subst, arith, ℕ, get_or}
use Rattle.std.proofs.lemmas.List.{get_or-map, length-map}
use Rattle.suit_program.specs.declared.walks.reach.ReachedLayout.{ReachedLayout}
use Rattle.suit_program.proofs.lemmas.Walks.HowManyAnswers.{place_none, place_past}
use Rattle.suit_program.proofs.walks.answer_rows.place_of.Goals as goal

abbrev index_of : ReachedLayout → ℕ
index_of layout = layout.index

pub loop-place-preserved : goal.loop-place-preserved
loop-place-preserved c =
    let layouts = c.args.reach.now.layouts.items in
    let i = c.loop-place.place in
    let d = c.index-layouts-place.result in
    let below : i < length layouts =
    subst (λ (l : List ReachedLayout). i < length l) c.layouts-layouts.ensures c.loop-place-test.true in
    place_past (map index_of layouts) i c.args.index
    (subst (λ (n : ℕ). i < n) (sym (length-map layouts index_of)) below)
    (λ same. c.if-layouts-place.false
    (ap (λ (l : List ReachedLayout). (get_or l i d).index) c.layouts-layouts.ensures
    ∙ sym (get_or-map index_of layouts i d 0 below) ∙ same))
    c.loop-place.invariant

pub returns-clause-none : goal.returns-clause-none
returns-clause-none c =
    let layouts = c.args.reach.now.layouts.items in
    let same = ap (λ (l : List ReachedLayout). length l) c.layouts-layouts.ensures in
    let long = length-map layouts index_of in
    place_none (map index_of layouts) c.loop-place.place c.args.index
    (omega (arith, same, long, c.loop-place-test.false)) c.loop-place.invariant
