use Rattle.std.proofs.Common.{◌≤◌, ◌<◌, List, get_or, length, ap, sym, subst, ◌∙◌, arith}
use Rattle.std.specs.List.{AllZip}
use Rattle.suit_program.specs.declared.supports.mark.Mark.{Mark, out-Mark, roll-Mark}
use Rattle.suit_program.specs.declared.supports.mark.Mark.TheViews.{out-roll-Mark}
use Rattle.suit_program.specs.Supports.Marks.{AreAlike}
use Rattle.suit_program.proofs.lemmas.Supports.WhatMarksName.{copied_alike, copied_one, copied_whole}
use Rattle.suit_program.proofs.supports.mark.Mark.+copy.Goals as goal

pub loop-mark-preserved : goal.loop-mark-preserved
loop-mark-preserved t c =
    let marks : List Mark = (out-Mark c.args.self.now).next.items in
    let here : c.loop-mark.mark-index < length marks =
    omega (arith, ap (λ (l : List Mark). length l) c.deref-mark-items.ensures.value, c.loop-mark-test.true) in
    copied_one c.loop-mark.next.items c.push.new.self.items marks c.loop-mark.mark-index c.mark-item.result
    c.in_ok-copy.field-0 c.loop-mark.invariant here
    (subst (AreAlike c.in_ok-copy.field-0) (c.mark-item.is
    ∙ ap (λ (l : List Mark). get_or l c.loop-mark.mark-index c.mark-item.result) c.deref-mark-items.ensures.value)
    c.in_ok-copy.ensures) c.in_ok-push.ensures.items

pub returns : goal.returns
returns t c =
    let marks : List Mark = (out-Mark c.args.self.now).next.items in
    let opened = out-roll-Mark record {
      by = (out-Mark c.args.self.now).by;
      moves = c.in_ok-from_slice.field-0;
      next = c.loop-mark.next;
    } in
    let past : length marks ≤ c.loop-mark.mark-index =
    omega (arith, ap (λ (l : List Mark). length l) c.deref-mark-items.ensures.value, c.loop-mark-test.false) in
    copied_alike (roll-Mark record {
      by = (out-Mark c.args.self.now).by;
      moves = c.in_ok-from_slice.field-0;
      next = c.loop-mark.next;
    }) c.args.self.now (ap (λ mark. mark.by) opened)
    (ap (λ mark. mark.moves.items) opened ∙ c.in_ok-from_slice.ensures.items ∙ c.deref.ensures.value)
    (subst (λ (l : List Mark). AllZip AreAlike l marks) (sym (ap (λ mark. mark.next.items) opened))
    (copied_whole c.loop-mark.next.items marks c.loop-mark.mark-index past c.loop-mark.invariant))
