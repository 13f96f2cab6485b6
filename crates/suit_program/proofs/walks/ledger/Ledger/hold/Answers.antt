use Rattle.std.proofs.Common.{◌+◌, refl}
use Rattle.suit_program.proofs.lemmas.Walks.LedgerByPostings.{extends_more, held_first, held_next, widened}
use Rattle.suit_program.proofs.walks.ledger.Ledger.hold.Goals as goal

pub loop-index-init : goal.loop-index-init
loop-index-init c = record {
  extends = widened c.args.self.now
      (record c.args.self.now { columns = c.args.self.now.columns + 1; rows = c.args.self.now.rows + c.args.moves })
      c.credit.new.self 1 c.args.moves refl refl refl c.in_ok-credit.ensures.extends;
  adds = held_first c.args.self.now
      (record c.args.self.now { columns = c.args.self.now.columns + 1; rows = c.args.self.now.rows + c.args.moves })
      c.credit.new.self c.args.account c.args.self.now.columns c.args.self.now.rows refl c.in_ok-credit.ensures.adds;
}

pub loop-index-preserved : goal.loop-index-preserved
loop-index-preserved c = record {
  extends = extends_more c.args.self.now c.loop-index.self c.post.new.self 1 c.args.moves
      c.loop-index.invariant.extends c.in_ok-post.ensures.extends;
  adds = held_next c.args.self.now c.loop-index.self c.post.new.self c.args.account c.args.self.now.columns
      c.args.self.now.rows c.loop-index.index c.loop-index.invariant.adds c.in_ok-post.ensures.adds;
}
