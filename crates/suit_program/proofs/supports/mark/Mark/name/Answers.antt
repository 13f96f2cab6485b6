use Rattle.std.proofs.Common.{List, sym, ap, ◌∙◌}
use Rattle.suit_classes.specs.declared.class_moves.ClassMove.{ClassMove}
use Rattle.suit_classes.specs.WhatIsAllowed.{is_among}
use Rattle.suit_program.specs.declared.supports.mark.Mark.{out-Mark, roll-Mark}
use Rattle.suit_program.specs.declared.supports.mark.Mark.TheViews.{out-roll-Mark}
use Rattle.suit_program.proofs.lemmas.Supports.WhatMarksName.{named_still, pushed_more}
use Rattle.suit_program.proofs.supports.mark.Mark.name.Goals as goal

pub returns-in_ok-push : goal.returns-in_ok-push
returns-in_ok-push c =
    let opened = out-roll-Mark record {
      by = (out-Mark c.args.self.now).by;
      moves = c.push.new.self;
      next = (out-Mark c.args.self.now).next;
    } in
    pushed_more (roll-Mark record {
      by = (out-Mark c.args.self.now).by;
      moves = c.push.new.self;
      next = (out-Mark c.args.self.now).next;
    }) c.args.self.now c.args.mv (ap (λ mark. mark.by) opened) (ap (λ mark. mark.next.items) opened)
    (ap (λ mark. mark.moves.items) opened ∙ c.in_ok-push.ensures.items)

pub returns-else-not-is_among : goal.returns-else-not-is_among
returns-else-not-is_among c =
    named_still c.args.self.now c.args.mv
    (ap (λ (moves : List ClassMove). is_among moves c.args.mv) (sym c.deref.ensures.value) ∙ sym c.is_among.ensures
    ∙ c.if-not-is_among.false)
