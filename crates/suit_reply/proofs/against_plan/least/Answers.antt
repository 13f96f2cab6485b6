use Rattle.std.proofs.Common.{length, rules, SFits, ap, ◌∙◌}
use Rattle.std.specs.Int.{w128}
use Rattle.std.proofs.lemmas.Int.{to_z-of_z}
use Rattle.suit_reply.proofs.LeastLayoutByLayout.{all_moves, all_numbers}
use Rattle.suit_reply.proofs.against_plan.least.Goals as goal

pub returns-clause-number : goal.returns-clause-number
returns-clause-number c = λ case.
    let reply = c.in_ok-reply.reply in
    let fits : SFits w128 reply.number = search rules in
    to_z-of_z w128 reply.number fits
    ∙ all_numbers case.question c.args.plan.now (length c.layouts.result.now) reply.number reply.moves.items
    (ap (λ l. length l) (c.layouts.ensures ∙ case.grown.layouts)) (c.in_ok-reply.ensures case)

pub returns-clause-reply : goal.returns-clause-reply
returns-clause-reply c = λ case.
    let reply = c.in_ok-reply.reply in
    c.of.ensures
    ∙ all_moves case.question c.args.plan.now (length c.layouts.result.now) reply.number reply.moves.items
    (ap (λ l. length l) (c.layouts.ensures ∙ case.grown.layouts)) (c.in_ok-reply.ensures case)
