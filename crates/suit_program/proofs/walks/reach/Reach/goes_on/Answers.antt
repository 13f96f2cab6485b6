use Rattle.std.proofs.Common.{◌≡◌, ◌<◌, ◌≤◌, Bool, List, ap, arith, get_or, length, sym, ◌∙◌}
use Rattle.std.specs.List.{list_any}
use Rattle.std.proofs.lemmas.List.{at_drop_all}
use Rattle.suit_lists.proofs.Walks.{any_on, any_past}
use Rattle.suit_program.specs.declared.walks.reach.ReachedLayout.{ReachedLayout}
use Rattle.suit_program.specs.Walks.Reaches.{goes_in}
use Rattle.suit_program.proofs.walks.reach.Reach.goes_on.Goals as goal

pub returns-then-goes_in : goal.returns-then-goes_in
returns-then-goes_in c =
    let layouts : List ReachedLayout = c.args.self.now.layouts.items in
    let i = c.loop-layout.layout-index in
    let item : ReachedLayout = c.layout-item.result in
    let goes : ReachedLayout → Bool = λ layout. goes_in c.args.self.now layout c.args.child.now in
    let within : i < length layouts =
    omega (arith, c.loop-layout-test.true, ap (λ (l : List ReachedLayout). length l) c.layouts-layout-items.ensures) in
    let at : item ≡ get_or layouts i item =
    c.layout-item.is ∙ ap (λ (l : List ReachedLayout). get_or l i item) c.layouts-layout-items.ensures in
    sym (any_on goes layouts i item within (c.if-goes_in.ensures ∙ ap goes at)) ∙ c.loop-layout.invariant

pub loop-layout-preserved : goal.loop-layout-preserved
loop-layout-preserved c =
    let layouts : List ReachedLayout = c.args.self.now.layouts.items in
    let i = c.loop-layout.layout-index in
    let item : ReachedLayout = c.layout-item.result in
    let goes : ReachedLayout → Bool = λ layout. goes_in c.args.self.now layout c.args.child.now in
    let within : i < length layouts =
    omega (arith, c.loop-layout-test.true, ap (λ (l : List ReachedLayout). length l) c.layouts-layout-items.ensures) in
    let at : item ≡ get_or layouts i item =
    c.layout-item.is ∙ ap (λ (l : List ReachedLayout). get_or l i item) c.layouts-layout-items.ensures in
    sym (any_past goes layouts i item within (c.if-goes_in.ensures ∙ ap goes at)) ∙ c.loop-layout.invariant

pub returns : goal.returns
returns c =
    let layouts : List ReachedLayout = c.args.self.now.layouts.items in
    let past : length layouts ≤ c.loop-layout.layout-index =
    omega (arith, c.loop-layout-test.false, ap (λ (l : List ReachedLayout). length l) c.layouts-layout-items.ensures) in
    sym (at_drop_all (list_any (λ layout. goes_in c.args.self.now layout c.args.child.now)) layouts
    c.loop-layout.layout-index past)
    ∙ c.loop-layout.invariant
