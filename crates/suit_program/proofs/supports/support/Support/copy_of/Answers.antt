use Rattle.std.proofs.Common.{ap, sym, ◌∙◌, Option}
use Rattle.suit_program.specs.declared.supports.mark.Mark.{Mark}
use Rattle.suit_program.specs.Supports.Marks.{named_on}
use Rattle.suit_program.proofs.lemmas.Supports.WhatMarksName.{none_named}
use Rattle.suit_program.proofs.supports.support.Support.copy_of.Goals as goal

pub returns-in-None : goal.returns-in-None
returns-in-None c =
    λ history move.
    c.none.ensures.names history move ∙ sym (none_named history move)
    ∙ ap (λ (mark : Option Mark). named_on mark history move) c.in-None.ensures
