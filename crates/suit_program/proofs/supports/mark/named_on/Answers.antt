use Rattle.std.proofs.Common.{ap, fold, sym, ◌∙◌, Option}
use Rattle.std.specs.Option.{option_copied}
use Rattle.std.proofs.lemmas.List.{at_drop_all}
use Rattle.suit_program.specs.declared.supports.mark.Mark.{Mark}
use Rattle.suit_program.specs.Supports.Marks.{mark_after, named_on, names_here}
use Rattle.suit_program.proofs.supports.mark.named_on.Goals as goal

pub returns : goal.returns
unfolding named_on
returns c =
    c.names_here.ensures
    ∙ ap (λ (mark : Option Mark). names_here mark c.args.mv)
    (sym (at_drop_all (fold mark_after (option_copied c.loop-next.at)) c.args.moves.now c.loop-next.next-index
    c.loop-next-test.false)
    ∙ c.loop-next.invariant)
