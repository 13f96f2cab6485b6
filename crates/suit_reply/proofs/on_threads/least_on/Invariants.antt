use Rattle.std.proofs.Common.{◌≡◌, ◌*◌, ◌++◌, length, min}
use Rattle.suit_reply.specs.AgainstPlan.{IsPlanFor}
use Rattle.suit_reply.specs.LayoutsReplies.{IsReplyIn}
use Rattle.suit_reply.proofs.on_threads.least_on.Given as goal

abbrev pub invariant-loop-reply : goal.invariant-loop-reply
invariant-loop-reply g l =
    (l.yielded ++ l.reply-iterator.rest.items ≡ l.initial.reply-iterator.rest.items)
    × ((case : IsPlanFor l.tree l.plan) → IsReplyIn case.question l.plan 0
    (min (length l.yielded * l.size) (length l.tree.layouts.items)) l.number l.moves.items)
