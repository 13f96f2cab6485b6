use Rattle.std.proofs.Common.{◌<◌, Bool, List, ap, arith, get_or, length, subst, sym, ◌∙◌}
use Rattle.std.specs.Prelude.{◌==◌, ◌&&◌, ◌||◌, Contains, slice_get}
use Rattle.std.proofs.lemmas.List.Elements.{All-contains, Contains-get_or}
use Rattle.suit_classes.specs.ClassMoves.{ClassHistory, same_class_move}
use Rattle.suit_plans.specs.declared.moves.DefenceMove.{DefenceMove}
use Rattle.suit_plans.specs.Orders.{same_class_history}
use Rattle.suit_program.specs.declared.supports.mark.Mark.{Mark}
use Rattle.suit_program.specs.Supports.Marks.{NamesMore, defence_mark, named_on}
use Rattle.suit_program.proofs.lemmas.Supports.WithMoreMoves.{no_theirs_yet, set_at, set_length, theirs_one_more}
use Rattle.suit_program.proofs.supports.support.Support.with_theirs.Goals as goal

pub loop-entry-init : goal.loop-entry-init
loop-entry-init c = record {
  long = c.in_ok-marks.ensures.long;
  names = λ k history move less. c.in_ok-marks.ensures.names k history move less
      ∙ no_theirs_yet (named_on (defence_mark c.args.self.now k) history move) k history move;
}

pub loop-entry-preserved : goal.loop-entry-preserved
loop-entry-preserved c =
    let marks : List Mark = c.loop-entry.marks.items in
    let entry : DefenceMove = c.entry-item.result in
    let theirs : List DefenceMove = c.args.theirs.now in
    let found : Contains theirs entry = subst (Contains theirs) (sym c.entry-item.is)
    (Contains-get_or theirs c.loop-entry.entry-index entry c.loop-entry-test.true) in
    let listed = All-contains (λ (other : DefenceMove). other.layout < c.args.count) theirs entry c.requires found in
    let below : entry.layout < length marks = omega (arith, listed, c.loop-entry.invariant.long) in
    let more : NamesMore c.add.new.self (get_or marks entry.layout c.index_mut.result.now) c.items.result.now entry.mv =
    subst (λ (mark : Mark). NamesMore c.add.new.self mark c.items.result.now entry.mv) c.index_mut.ensures.value
    c.in_ok-add.ensures in record {
      long = set_length marks entry.layout c.add.new.self ∙ c.loop-entry.invariant.long;
      names = λ k history move less.
          set_at marks entry.layout c.index_mut.result.now c.add.new.self c.items.result.now entry.mv below more k
          history move
          ∙ ap (λ (moves : ClassHistory). named_on (slice_get marks k) history move
          || ((entry.layout == k) && (same_class_history moves history && same_class_move entry.mv move)))
          c.items.ensures
          ∙ ap (λ (b : Bool). b || ((entry.layout == k) && (same_class_history entry.history history
          && same_class_move entry.mv move))) (c.loop-entry.invariant.names k history move less)
          ∙ theirs_one_more (named_on (defence_mark c.args.self.now k) history move) theirs c.loop-entry.entry-index
          entry c.loop-entry-test.true c.entry-item.is k history move;
    }
