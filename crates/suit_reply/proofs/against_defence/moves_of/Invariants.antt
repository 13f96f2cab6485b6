use Rattle.std.proofs.Common.{◌≡◌, ◌++◌, map}
use Rattle.suit_reply.proofs.against_defence.moves_of.Given as goal

abbrev pub invariant-loop-choice : goal.invariant-loop-choice
invariant-loop-choice l =
    l.moves.items ++ map (λ choice. record { history = choice.history; mv = choice.mv }) l.choice-iterator.rest.items
    ≡ map (λ choice. record { history = choice.history; mv = choice.mv }) l.fn.choices.items
