use Rattle.std.proofs.Common.{◌≡◌, map, take}
use Rattle.std.specs.Prelude.{filter}
use Rattle.suit_lines.specs.Told.{is_live, share_of}
use Rattle.suit_lines.proofs.telling.Telling.live_shares.Given as goal

abbrev pub invariant-loop-mv : goal.invariant-loop-mv
invariant-loop-mv l = l.shares.items
    ≡ filter is_live (map (share_of l.self.question.now l.self.plan.now l.history) (take l.mv-index l.moves))
