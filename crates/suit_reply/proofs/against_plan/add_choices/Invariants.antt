use Rattle.std.proofs.Common.{◌≡◌, ◌++◌, map}
use Rattle.suit_reply.proofs.against_plan.add_choices.Given as goal

abbrev pub invariant-loop-choice : goal.invariant-loop-choice
invariant-loop-choice l =
    l.moves.items ≡ l.fn.moves.items
    ++ map (λ choice. record { layout = l.index; history = choice.history; mv = choice.mv }) l.yielded
