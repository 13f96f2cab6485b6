use Rattle.std.proofs.Common.{◌≡◌, ◌<◌, ◌≤◌, true, refl, sym, ◌∙◌, subst, arith, Err}
use Rattle.suit_plans.specs.Properness.{IsProperDefence, IsProperPlan}
use Rattle.suit_linear.specs.declared.ends.SimplexEnd.{SimplexEnd}
use Rattle.suit_linear.specs.Ends.{Tells}
use Rattle.suit_linear.specs.Runs.{run_end}
use Rattle.suit_program.specs.Supports.Marks.{support_seen}
use Rattle.suit_program.specs.Programs.{program_of}
use Rattle.suit_program.specs.Readings.ReadingOfAnOptimum.{AreRead, IsEndOf}
use Rattle.suit_program.specs.Readings.{is_too_wide, parts_of}
use Rattle.suit_program.specs.Supports.{Support}
use Rattle.suit_program.proofs.lemmas.Readings.DefencesHoldTheWorth.{read_defences_are_proper}
use Rattle.suit_program.proofs.lemmas.Readings.PlansKeepTheWorth.{read_plans_are_proper}
use Rattle.suit_solve.specs.Limits.{most_size}
use Rattle.suit_solve.proofs.HowARoundEnds.{played_columns, played_past, played_pivots, played_wide, played_within}
use Rattle.suit_solve.proofs.HowARoundEnds.{read_compared, read_wide}
use Rattle.suit_solve.proofs.round.play.Goals as goal

pub returns-then-size-most_size-clause-end : goal.returns-then-size-most_size-clause-end
returns-then-size-most_size-clause-end c =
    let question = c.args.question.now in
    let seen : Support = support_seen question c.args.support.now in
    let size = c.size.ensures question c.requires.valid c.requires.grown in
    let past : most_size question < c.size.result =
    omega (arith, c.if-size-most_size.true, c.most_size.ensures.value) in
    (played_past question c.args.pivots seen c.size.result size past, refl)

pub returns-in-Err-Pivots-clause-end : goal.returns-in-Err-Pivots-clause-end
returns-in-Err-Pivots-clause-end c =
    let question = c.args.question.now in
    let seen : Support = support_seen question c.args.support.now in
    let size = c.size.ensures question c.requires.valid c.requires.grown in
    let within : c.size.result ≤ most_size question =
    omega (arith, c.if-size-most_size.false, c.most_size.ensures.value) in
    let few = played_within question c.args.pivots seen c.size.result size within in (
      played_pivots question c.args.pivots seen few
          (subst (λ (end : SimplexEnd). Tells (program_of question seen)
          (run_end (program_of question seen) c.args.pivots) (Err end)) c.in-Err-Pivots.field-0-is
          c.in-Err-Pivots.ensures.run),
      refl,
    )

pub returns-in-Err-Wide-clause-end : goal.returns-in-Err-Wide-clause-end
returns-in-Err-Wide-clause-end c =
    let question = c.args.question.now in
    let seen : Support = support_seen question c.args.support.now in
    let size = c.size.ensures question c.requires.valid c.requires.grown in
    let within : c.size.result ≤ most_size question =
    omega (arith, c.if-size-most_size.false, c.most_size.ensures.value) in
    let few = played_within question c.args.pivots seen c.size.result size within in (
      played_wide question c.args.pivots seen few c.in-Err-Wide.field-0-0
          (subst (λ (end : SimplexEnd). Tells (program_of question seen)
          (run_end (program_of question seen) c.args.pivots) (Err end)) c.in-Err-Wide.field-0-is
          c.in-Err-Wide.ensures.run),
      refl,
    )

pub compare-requires-clause-plan : goal.compare-requires-clause-plan
compare-requires-clause-plan c =
    let question = c.args.question.now in
    let seen : Support = support_seen question c.args.support.now in
    let size = c.size.ensures question c.requires.valid c.requires.grown in
    let within : c.size.result ≤ most_size question =
    omega (arith, c.if-size-most_size.false, c.most_size.ensures.value) in
    let few = played_within question c.args.pivots seen c.size.result size within in
    let told = c.in-Ok.ensures.run in
    let columns = played_columns question c.args.pivots seen few c.requires.valid c.in-Ok.optimum told in
    let read : AreRead question seen c.in-Ok.optimum c.in-Ok-plans_of.plan c.in-Ok-plans_of.defence =
    c.in-Ok-plans_of.ensures.read (record {
      question = c.args.question.now;
      valid = c.requires.valid;
      grown = c.requires.grown;
      columns = columns;
      primal = c.in-Ok.ensures.primal;
      dual = c.in-Ok.ensures.dual;
    }) in
    subst (IsProperPlan question) (sym read.is_plan)
    (read_plans_are_proper question seen c.in-Ok.optimum (record {
      valid = c.requires.valid;
      columns = columns;
      primal = c.in-Ok.ensures.primal;
      narrow = read.narrow;
    }))

pub compare-requires-clause-defence : goal.compare-requires-clause-defence
compare-requires-clause-defence c =
    let question = c.args.question.now in
    let seen : Support = support_seen question c.args.support.now in
    let size = c.size.ensures question c.requires.valid c.requires.grown in
    let within : c.size.result ≤ most_size question =
    omega (arith, c.if-size-most_size.false, c.most_size.ensures.value) in
    let few = played_within question c.args.pivots seen c.size.result size within in
    let told = c.in-Ok.ensures.run in
    let columns = played_columns question c.args.pivots seen few c.requires.valid c.in-Ok.optimum told in
    let read : AreRead question seen c.in-Ok.optimum c.in-Ok-plans_of.plan c.in-Ok-plans_of.defence =
    c.in-Ok-plans_of.ensures.read (record {
      question = c.args.question.now;
      valid = c.requires.valid;
      grown = c.requires.grown;
      columns = columns;
      primal = c.in-Ok.ensures.primal;
      dual = c.in-Ok.ensures.dual;
    }) in
    subst (IsProperDefence question) (sym read.is_defence)
    (read_defences_are_proper question seen c.in-Ok.optimum
    (record { valid = c.requires.valid; dual = c.in-Ok.ensures.dual; narrow = read.narrow }))

pub returns-in-Ok-plans_of-clause-ended : goal.returns-in-Ok-plans_of-clause-ended
returns-in-Ok-plans_of-clause-ended c =
    let question = c.args.question.now in
    let seen : Support = support_seen question c.args.support.now in
    let size = c.size.ensures question c.requires.valid c.requires.grown in
    let within : c.size.result ≤ most_size question =
    omega (arith, c.if-size-most_size.false, c.most_size.ensures.value) in
    let few = played_within question c.args.pivots seen c.size.result size within in
    let told = c.in-Ok.ensures.run in
    let columns = played_columns question c.args.pivots seen few c.requires.valid c.in-Ok.optimum told in
    let read : AreRead question seen c.in-Ok.optimum c.in-Ok-plans_of.plan c.in-Ok-plans_of.defence =
    c.in-Ok-plans_of.ensures.read (record {
      question = c.args.question.now;
      valid = c.requires.valid;
      grown = c.requires.grown;
      columns = columns;
      primal = c.in-Ok.ensures.primal;
      dual = c.in-Ok.ensures.dual;
    }) in
    read_compared question c.args.pivots seen few c.requires.valid c.in-Ok.optimum told c.in-Ok-plans_of.plan
    c.in-Ok-plans_of.defence read.narrow read.is_plan read.is_defence
    ∙ c.in_ok-compare-in-Ok-plans_of.ensures

pub returns-in-Err-Wide-plans_of-clause-end : goal.returns-in-Err-Wide-plans_of-clause-end
returns-in-Err-Wide-plans_of-clause-end c =
    let question = c.args.question.now in
    let seen : Support = support_seen question c.args.support.now in
    let size = c.size.ensures question c.requires.valid c.requires.grown in
    let within : c.size.result ≤ most_size question =
    omega (arith, c.if-size-most_size.false, c.most_size.ensures.value) in
    let few = played_within question c.args.pivots seen c.size.result size within in
    let told = c.in-Ok.ensures.run in
    let columns = played_columns question c.args.pivots seen few c.requires.valid c.in-Ok.optimum told in
    let wide : is_too_wide question seen (parts_of c.in-Ok.optimum.point) c.in-Ok.optimum.scale ≡ true =
    subst (IsEndOf question seen c.in-Ok.optimum) c.in-Err-Wide-plans_of.field-0-is
    (c.in-Err-Wide-plans_of.ensures.end (record {
      question = c.args.question.now;
      valid = c.requires.valid;
      grown = c.requires.grown;
      columns = columns;
      primal = c.in-Ok.ensures.primal;
      dual = c.in-Ok.ensures.dual;
    })) in
    (read_wide question c.args.pivots seen few c.requires.valid c.in-Ok.optimum told wide, refl)
