use Rattle.suit_top.proofs.ShownTablesAreDue.{value_shown}
use Rattle.suit_top.proofs.judge.SolvingJudgeJudge.judge.Goals as goal

pub returns-in-Ok : goal.returns-in-Ok
returns-in-Ok c = record {
  fits = value_shown c.args.question.now c.in-Ok.answer c.requires.valid c.in-Ok.ensures.answer;
}
