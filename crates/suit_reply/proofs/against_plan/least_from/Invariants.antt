use Rattle.std.proofs.Common.{◌-◌}
use Rattle.suit_reply.specs.AgainstPlan.{IsPlanFor}
use Rattle.suit_reply.specs.LayoutsReplies.{IsReplyIn}
use Rattle.suit_reply.proofs.against_plan.least_from.Given as goal

abbrev pub invariant-loop-index : goal.invariant-loop-index
invariant-loop-index l =
    (case : IsPlanFor l.tree l.plan) → IsReplyIn case.question l.plan l.start (l.index - l.start) l.number l.moves.items
