-- No plan earns more than a defence lets declarer earn (`weak_duality`).
use Rattle.std.specs.Prelude.{◌*ℤ◌}
use Rattle.suit_plans.specs.BestReplies.{least, most}
use Rattle.suit_program.specs.Duality.{MeetingsLieBetween, WeakDuality, meets}
use Rattle.suit_program.proofs.lemmas.Duality.MeetingAtLeast.{least_met}
use Rattle.suit_program.proofs.lemmas.Duality.MeetingAtMost.{most_met}
use Rattle.suit_program.proofs.lemmas.Programs.SumsInOrder.{le_trans}

pub meetings_lie_between : MeetingsLieBetween
meetings_lie_between question plan defence valid proper_plan proper_defence =
    (least_met question plan defence valid proper_defence, most_met question plan defence valid proper_plan)

pub weak_duality : WeakDuality
weak_duality question plan defence valid proper_plan proper_defence =
    let between = meetings_lie_between question plan defence valid proper_plan proper_defence in
    le_trans (least question plan *ℤ defence.den) (meets question plan defence) (most question defence *ℤ plan.den)
    between.0 between.1
