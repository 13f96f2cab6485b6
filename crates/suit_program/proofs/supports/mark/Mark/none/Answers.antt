use Rattle.std.proofs.Common.{ap, ◌∙◌}
use Rattle.suit_program.specs.declared.supports.mark.Mark.{roll-Mark}
use Rattle.suit_program.specs.declared.supports.mark.Mark.TheViews.{out-roll-Mark}
use Rattle.suit_program.proofs.lemmas.Supports.WhatMarksName.{names_none}
use Rattle.suit_program.proofs.supports.mark.Mark.none.Goals as goal

pub returns-clause-names : goal.returns-clause-names
returns-clause-names c =
    let opened = out-roll-Mark record { by = c.args.by; moves = c.new.result; next = c.new-2.result } in
    names_none (roll-Mark record { by = c.args.by; moves = c.new.result; next = c.new-2.result })
    (ap (λ mark. mark.moves.items) opened ∙ c.new.ensures.items)
    (ap (λ mark. mark.next.items) opened ∙ c.new-2.ensures.items)
