use Rattle.std.proofs.Common.{◌≡◌, Global, true, ◌∙◌, arith, rules}
use Rattle.suit_top.specs.Commands.{reads_input}
use Rattle.suit_top.proofs.RunsEndAsOwed.{long_replies, short_replies}
use Rattle.suit_top.proofs.reply.reply_to.Goals as goal

pub returns-in-Err-Long-clause-reply : goal.returns-in-Err-Long-clause-reply
returns-in-Err-Long-clause-reply g c =
    let taken = c.in-Err-Long.ensures.taken in
    let reads : reads_input c.args.command ≡ true = search rules in
    long_replies Global c.args.command _ _ c.silent.result _ _ taken.0 reads c.in-Err-Long.field-0-is
    c.limit.ensures c.silent.ensures.status c.silent.ensures.text taken.1
    taken.2

pub returns-in_ok-reply-in-Ok-clause-reply : goal.returns-in_ok-reply-in-Ok-clause-reply
returns-in_ok-reply-in-Ok-clause-reply g c =
    let taken = c.in-Ok.ensures.taken in
    let reads : reads_input c.args.command ≡ true = search rules in
    short_replies c.args.command _ _ c.in_ok-reply-in-Ok.field-0 c.deref.result.now taken.0 reads
    (c.deref.ensures.value ∙ taken.1.0)
    (omega (arith, taken.1.1, c.limit.ensures)) taken.2 c.in-Ok.ensures.whole
    c.in_ok-reply-in-Ok.ensures.status c.in_ok-reply-in-Ok.ensures.text c.in_ok-reply-in-Ok.ensures.says
