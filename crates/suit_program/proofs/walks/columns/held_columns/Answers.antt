use Rattle.std.proofs.Common.{◌∙◌, true, false, sym, ap, subst, arith}
use Rattle.std.specs.Prelude.{Contains}
use Rattle.suit_plans.specs.ReplyLaws.{counts_at}
use Rattle.suit_program.specs.declared.walks.reach.ReachedLayout.{ReachedLayout}
use Rattle.suit_program.specs.Walks.Reaches.{reached_indices}
use Rattle.suit_program.specs.Supports.{defence_chooses}
use Rattle.suit_program.proofs.lemmas.Walks.HowManyColumns.{held_all, held_more, index_reached}
use Rattle.suit_program.proofs.walks.columns.held_columns.Goals as goal
use Rattle.suit_program.proofs.walks.columns.held_columns.Goals.{then-chooses, else-chooses}

pub loop-layout-preserved : goal.loop-layout-preserved
loop-layout-preserved c =
    let layouts = c.layouts-layout-items.result.now in
    let i = c.loop-layout.layout-index in
    let d = c.layout-item.result in
    let few = c.loop-layout.invariant.few in
    elim c.if-chooses.branch [
      | then-chooses w ↦ record {
        few = omega (arith, few, w.columns-is);
        told = λ question support history is.
            held_more question history layouts i d true c.loop-layout.columns c.if-chooses.columns
            c.loop-layout-test.true
            (w.if-chooses.ensures question support history is
            (subst (λ (l : ReachedLayout). Contains (reached_indices question support history) l.index) (sym
            c.layout-item.is)
            (index_reached question support history c.args.reach.now is layouts c.layouts-layout-items.ensures i d
            c.loop-layout-test.true))
            ∙ ap (λ (l : ReachedLayout). defence_chooses question (counts_at question l.index) history)
            c.layout-item.is)
            (c.loop-layout.invariant.told question support history is) w.columns-is;
      }
      | else-chooses w ↦ record {
        few = omega (arith, few, w.columns-is);
        told = λ question support history is.
            held_more question history layouts i d false c.loop-layout.columns c.if-chooses.columns
            c.loop-layout-test.true
            (w.if-chooses.ensures question support history is
            (subst (λ (l : ReachedLayout). Contains (reached_indices question support history) l.index) (sym
            c.layout-item.is)
            (index_reached question support history c.args.reach.now is layouts c.layouts-layout-items.ensures i d
            c.loop-layout-test.true))
            ∙ ap (λ (l : ReachedLayout). defence_chooses question (counts_at question l.index) history)
            c.layout-item.is)
            (c.loop-layout.invariant.told question support history is) (w.columns-is ∙ omega arith);
      }
    ]

pub returns : goal.returns
returns c = λ question support history is.
    held_all question support history c.args.reach.now is c.layouts-layout-items.result.now
    c.layouts-layout-items.ensures c.loop-layout.layout-index c.loop-layout.columns c.loop-layout-test.false
    (c.loop-layout.invariant.told question support history is)
