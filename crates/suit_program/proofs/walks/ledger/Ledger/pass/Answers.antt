use Rattle.std.proofs.Common.{◌+◌, refl}
use Rattle.suit_program.proofs.lemmas.Walks.LedgerByPostings.{extends_more, passed_first, passed_next, widened}
use Rattle.suit_program.proofs.walks.ledger.Ledger.pass.Goals as goal

pub loop-index-init : goal.loop-index-init
loop-index-init c = record {
  extends = widened c.args.self.now
      (record c.args.self.now { columns = c.args.self.now.columns + c.args.moves; rows = c.args.self.now.rows + 1 })
      c.post.new.self c.args.moves 1 refl refl refl c.in_ok-post.ensures.extends;
  adds = passed_first c.args.self.now
      (record c.args.self.now { columns = c.args.self.now.columns + c.args.moves; rows = c.args.self.now.rows + 1 })
      c.post.new.self c.args.self.now.rows c.args.self.now.columns c.args.mass refl c.in_ok-post.ensures.adds;
}

pub loop-index-preserved : goal.loop-index-preserved
loop-index-preserved c = record {
  extends = extends_more c.args.self.now c.loop-index.self c.post-in-loop-index.new.self c.args.moves 1
      c.loop-index.invariant.extends c.in_ok-post-2.ensures.extends;
  adds = passed_next c.args.self.now c.loop-index.self c.post-in-loop-index.new.self c.args.self.now.rows
      c.args.self.now.columns c.args.mass c.loop-index.index c.loop-index.invariant.adds c.in_ok-post-2.ensures.adds;
}
