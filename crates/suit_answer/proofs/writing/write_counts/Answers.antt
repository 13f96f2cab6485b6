use Rattle.std.proofs.Common.{sym, decimal}
use Rattle.std.proofs.lemmas.List.{append-nil}
use Rattle.suit_answer.proofs.WordsInARow.{spaced_none, wrote_word}
use Rattle.suit_answer.proofs.writing.write_counts.Goals as goal

pub loop-count-init : goal.loop-count-init
loop-count-init c = rw spaced_none (sym (append-nil c.args.text.now.items))

pub loop-count-preserved : goal.loop-count-preserved
loop-count-preserved c =
    wrote_word decimal c.args.counts.now c.loop-count.count-index 0 _ _ _ _ c.loop-count-test.true
    c.loop-count.invariant c.in_ok-push.ensures.items c.in_ok-write_small.ensures
