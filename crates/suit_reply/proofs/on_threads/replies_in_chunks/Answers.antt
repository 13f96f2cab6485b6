use Rattle.std.proofs.Common.{◌≡◌, ℕ, ◌-◌, ◌*◌, length, min, IfOk, arith, ap, ◌∙◌, subst}
use Rattle.std.specs.Prelude.{slice_index_or}
use Rattle.suit_reply.specs.AgainstPlan.{IsPlanFor}
use Rattle.suit_reply.specs.LayoutsReplies.{IsReplyIn}
use Rattle.suit_reply.proofs.on_threads.replies_in_chunks.Goals as goal

pub returns-clause-each : goal.returns-clause-each
returns-clause-each g c = λ n d below.
    let chunk = (c.in_ok-replies.ensures.each n d (omega (arith, below, c.in_ok-replies.replies.ok.0))).1 in
    let is = chunk.argument_is in
    let long : length c.layouts.result.now ≡ length c.args.tree.now.layouts.items =
    ap (λ l. length l) c.layouts.ensures in (
      omega (arith, is.nonempty, is.in_bounds, long),
      subst (λ (m : ℕ). IfOk (slice_index_or c.in_ok-replies.replies.items n d)
          (λ reply. (case : IsPlanFor c.args.tree.now c.args.plan.now)
          → IsReplyIn case.question c.args.plan.now (n * c.args.size) m reply.number reply.moves.items))
          (is.len ∙ ap (λ (many : ℕ). min c.args.size (many - n * c.args.size)) long) chunk.call,
    )
