use Rattle.std.proofs.Common.{◌≡◌, ◌-◌, ◌++◌, map}
use Rattle.suit_gen.specs.Deals.{deals_from, question_about}
use Rattle.suit_gen.proofs.tables.questions.Given as goal

abbrev pub invariant-loop : goal.invariant-loop
invariant-loop l = l.questions.items ++ map question_about (deals_from (l.count - l.counter) l.draws.state)
    ≡ map question_about (deals_from l.count l.number)
