use Rattle.std.proofs.Common.{ap, sym, refl, ◌∙◌}
use Rattle.std.specs.Option.{option_copied}
use Rattle.suit_program.specs.declared.walks.reach.Reach.{Reach}
use Rattle.suit_program.specs.Supports.Marks.{mark_after}
use Rattle.suit_program.proofs.lemmas.Walks.ReachTells.{child_goes, child_reach, child_some}
use Rattle.suit_program.proofs.walks.reach.Reach.child.Goals as goal

pub returns-then-not-goes_on-clause-some : goal.returns-then-not-goes_on-clause-some
returns-then-not-goes_on-clause-some c =
    λ question support history is.
    sym (child_goes question support history c.args.self.now is c.args.child.now c.requires.below
    ∙ sym c.goes_on.ensures ∙ c.if-not-goes_on.true)

pub returns-clause-some : goal.returns-clause-some
returns-clause-some c =
    λ question support history is.
    sym (child_goes question support history c.args.self.now is c.args.child.now c.requires.below
    ∙ sym c.goes_on.ensures ∙ c.if-not-goes_on.false)

pub returns-clause-next : goal.returns-clause-next
returns-clause-next c =
    λ question support history is.
    let next : Reach = record {
      node = c.args.child.now;
      all = c.args.self.now.all;
      own = c.mark_after.result;
      layouts = c.layouts_after.result;
    } in
    child_reach question support history c.args.self.now is c.args.child.now c.requires.below next refl refl
    (c.mark_after.ensures ∙ ap (mark_after (option_copied c.args.self.now.own)) c.mv.ensures)
    c.layouts_after.ensures
    (child_some question support history c.args.self.now is c.args.child.now c.layouts_after.result.items
    c.layouts_after.ensures (sym c.goes_on.ensures ∙ c.if-not-goes_on.false))
