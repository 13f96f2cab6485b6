use Rattle.std.proofs.Common.{◌≡◌, ◌<◌, length, ap, sym, ◌∙◌, arith}
use Rattle.suit_classes.specs.ClassMoves.{same_class_move}
use Rattle.suit_program.specs.declared.supports.mark.Mark.{Mark, out-Mark, roll-Mark}
use Rattle.suit_program.specs.declared.supports.mark.Mark.TheViews.{out-roll-Mark}
use Rattle.suit_program.specs.Supports.Marks.{last_of}
use Rattle.suit_program.proofs.lemmas.Supports.WhatMarksName.{none_more, placed, placed_last}
use Rattle.suit_program.proofs.supports.mark.Mark.place.Goals as goal

pub returns-then-is_same-clause-at : goal.returns-then-is_same-clause-at
returns-then-is_same-clause-at c =
    let within : c.loop-at.at < length (out-Mark c.args.self.now).next.items =
    omega (arith, c.loop-at-test.true, c.len-at-end.ensures, (out-Mark c.args.self.now).next.ok.0) in
    placed (out-Mark c.args.self.now).next.items c.loop-at.at c.index.result.now c.args.mv within
    (λ k less. c.loop-at.invariant k c.index.result.now less)
    (ap (λ (mark : Mark). same_class_move (last_of mark) c.args.mv) (sym c.index.ensures) ∙ sym c.is_same.ensures
    ∙ c.if-is_same.true)

pub returns-clause-alike : goal.returns-clause-alike
returns-clause-alike c =
    let opened = out-roll-Mark record {
      by = (out-Mark c.args.self.now).by;
      moves = (out-Mark c.args.self.now).moves;
      next = c.push.new.self;
    } in
    none_more (roll-Mark record {
      by = (out-Mark c.args.self.now).by;
      moves = (out-Mark c.args.self.now).moves;
      next = c.push.new.self;
    }) c.args.self.now c.none.result c.none.ensures.names (ap (λ mark. mark.by) opened)
    (ap (λ mark. mark.moves.items) opened) (ap (λ mark. mark.next.items) opened ∙ c.in_ok-push.ensures.items)

pub returns-clause-at : goal.returns-clause-at
returns-clause-at c =
    let opened = out-roll-Mark record {
      by = (out-Mark c.args.self.now).by;
      moves = (out-Mark c.args.self.now).moves;
      next = c.push.new.self;
    } in
    let long : c.len-at.result ≡ length (out-Mark c.args.self.now).next.items =
    c.len-at.ensures ∙ (out-Mark c.args.self.now).next.ok.0 in
    placed_last (out-Mark c.args.self.now).next.items _ c.len-at.result c.none.result c.args.mv long
    (λ k d less. c.loop-at.invariant k d
    (omega (arith, less, c.loop-at-test.false, c.len-at-end.ensures, (out-Mark c.args.self.now).next.ok.0)))
    c.none.ensures.last (ap (λ mark. mark.next.items) opened ∙ c.in_ok-push.ensures.items)
