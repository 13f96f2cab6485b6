use Rattle.std.proofs.Common.{fold, sym, ◌∙◌}
use Rattle.std.proofs.lemmas.List.{at_drop_all}
use Rattle.suit_program.specs.Supports.Additions.{children_by}
use Rattle.suit_program.proofs.supports.node_moves.children_at.Goals as goal

pub returns : goal.returns
returns c =
    sym (at_drop_all (fold children_by c.loop-mv.children.now) c.args.history.now c.loop-mv.mv-index
    c.loop-mv-test.false)
    ∙ c.loop-mv.invariant
