use Rattle.std.proofs.Common.{rules, Ok, Option, subst}
use Rattle.suit_answer.specs.declared.answer.Answer.{Answer}
use Rattle.suit_solve.specs.Fates.{IsEnd}
use Rattle.suit_solve.specs.Solving.{Steps, solving_seen}
use Rattle.suit_solve.proofs.FatesTold.{answers_are_writable}
use Rattle.suit_solve.proofs.FromRoundToRound.{unbegun_end, way_begins, way_ends, way_goes_on, way_less, way_met}
use Rattle.suit_solve.proofs.solving.solve.Goals as goal

pub returns-in_err-solving-clause-end : goal.returns-in_err-solving-clause-end
returns-in_err-solving-clause-end c =
    let past : IsEnd c.args.question.now c.in_err-solving.field-0.0 =
    unbegun_end c.args.question.now c.in_err-solving.field-0.0 c.in_err-solving.ensures.end in
    search rules

pub loop-solving-init : goal.loop-solving-init
loop-solving-init c = (
  c.in_ok-solving.ensures.way,
  way_begins c.args.question.now (solving_seen c.in_ok-solving.solving) c.in_ok-solving.ensures.way.within
      c.in_ok-solving.ensures.first,
)

pub returns-in_err-answer-clause-end : goal.returns-in_err-answer-clause-end
returns-in_err-answer-clause-end c =
    let ended : IsEnd c.args.question.now c.in_err-answer.field-0.0 =
    way_ends c.args.question.now (solving_seen c.loop-solving.solving) c.loop-solving.invariant.1
    c.in_err-answer.field-0.0 (solving_seen c.step.new.self) c.in_err-answer.ensures.step in
    search rules

pub returns-in-Some-clause-answer : goal.returns-in-Some-clause-answer
returns-in-Some-clause-answer c =
    way_met c.args.question.now (solving_seen c.loop-solving.solving) c.loop-solving.invariant.1 c.in-Some.answer
    (solving_seen c.step.new.self)
    (subst (λ (told : Option Answer). Steps (solving_seen c.loop-solving.solving) c.args.question.now.pivots (Ok told)
    (solving_seen c.step.new.self)) c.in-Some.is c.in_ok-answer.ensures.step)

pub returns-in-Some-clause-writable : goal.returns-in-Some-clause-writable
returns-in-Some-clause-writable c =
    answers_are_writable c.args.question.now c.in-Some.answer c.requires
    (way_met c.args.question.now (solving_seen c.loop-solving.solving) c.loop-solving.invariant.1 c.in-Some.answer
    (solving_seen c.step.new.self)
    (subst (λ (told : Option Answer). Steps (solving_seen c.loop-solving.solving) c.args.question.now.pivots (Ok told)
    (solving_seen c.step.new.self)) c.in-Some.is c.in_ok-answer.ensures.step))

pub loop-solving-smaller : goal.loop-solving-smaller
loop-solving-smaller c =
    way_less c.args.question.now (solving_seen c.loop-solving.solving) c.loop-solving.invariant.1 c.requires
    (solving_seen c.step.new.self)
    (subst (λ (told : Option Answer). Steps (solving_seen c.loop-solving.solving) c.args.question.now.pivots (Ok told)
    (solving_seen c.step.new.self)) c.in-None.is c.in_ok-answer.ensures.step)

pub loop-solving-preserved : goal.loop-solving-preserved
loop-solving-preserved c = (
  c.in_ok-answer.ensures.way,
  way_goes_on c.args.question.now (solving_seen c.loop-solving.solving) c.loop-solving.invariant.1 c.requires
      (solving_seen c.step.new.self)
      (subst (λ (told : Option Answer). Steps (solving_seen c.loop-solving.solving) c.args.question.now.pivots (Ok told)
      (solving_seen c.step.new.self)) c.in-None.is c.in_ok-answer.ensures.step),
)
