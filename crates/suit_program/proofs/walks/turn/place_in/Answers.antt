use Rattle.std.proofs.Common.{sym}
use Rattle.suit_program.proofs.lemmas.Walks.AccountsAfterAMove.{place_end, place_here, place_past, place_start}
use Rattle.suit_program.proofs.walks.turn.place_in.Goals as goal

pub loop-index-init : goal.loop-index-init
loop-index-init c = place_start c.args.mv c.args.moves.now

pub returns-then-is_same : goal.returns-then-is_same
returns-then-is_same c =
    sym (place_here c.args.mv c.args.moves.now c.loop-index.index _ c.loop-index-test.true (sym c.if-is_same.ensures)
    c.loop-index.invariant)

pub loop-index-preserved : goal.loop-index-preserved
loop-index-preserved c =
    place_past c.args.mv c.args.moves.now c.loop-index.index _ c.loop-index-test.true (sym c.if-is_same.ensures)
    c.loop-index.invariant

pub returns : goal.returns
returns c =
    sym (place_end c.args.mv c.args.moves.now c.loop-index.index c.loop-index-test.false c.loop-index.auto.index-end
    c.loop-index.invariant)
