use Rattle.std.proofs.Common.{Some, ap, sym, ◌∙◌}
use Rattle.suit_classes.specs.ClassMoves.{same_class_move}
use Rattle.suit_program.specs.declared.supports.mark.Mark.{Mark}
use Rattle.suit_program.specs.Supports.Marks.{last_of}
use Rattle.suit_program.proofs.lemmas.Supports.WhatMarksName.{found_by, none_by, passed_by}
use Rattle.suit_program.proofs.supports.mark.mark_by.Goals as goal

pub returns-then-is_same : goal.returns-then-is_same
returns-then-is_same c =
    ap Some c.mark-item.is
    ∙ sym (found_by c.args.marks.now c.loop-mark.mark-index c.mark-item.result c.args.mv c.loop-mark-test.true
    (ap (λ (mark : Mark). same_class_move (last_of mark) c.args.mv) (sym c.mark-item.is) ∙ sym c.is_same.ensures
    ∙ c.if-is_same.true))
    ∙ c.loop-mark.invariant

pub loop-mark-preserved : goal.loop-mark-preserved
loop-mark-preserved c =
    sym (passed_by c.args.marks.now c.loop-mark.mark-index c.mark-item.result c.args.mv c.loop-mark-test.true
    (ap (λ (mark : Mark). same_class_move (last_of mark) c.args.mv) (sym c.mark-item.is) ∙ sym c.is_same.ensures
    ∙ c.if-is_same.false))
    ∙ c.loop-mark.invariant

pub returns : goal.returns
returns c =
    sym (none_by c.args.marks.now c.loop-mark.mark-index c.args.mv c.loop-mark-test.false) ∙ c.loop-mark.invariant
