use Rattle.std.proofs.Common.{◌+◌, ◌*◌, ◌≤◌, ap, ◌∙◌, arith, sym, subst}
use Rattle.suit_game.specs.declared.limits.TheConstants.{MOST_NODES}
use Rattle.suit_program.specs.Supports.Marks.{support_seen}
use Rattle.suit_program.specs.Supports.{Support, with_moves}
use Rattle.suit_program.specs.declared.walks.reach.TheConstants.{MOST_NEXT}
use Rattle.suit_solve.specs.Plays.{ended_so}
use Rattle.suit_solve.specs.Solving.{IsOnItsWay}
use Rattle.suit_solve.proofs.FromRoundToRound.{next_legal, next_seen, next_under_way, round_fits}
use Rattle.suit_solve.proofs.solving.Solving.step.Goals as goal

pub add-requires : goal.add-requires
add-requires c =
    let solving = c.args.self.now in
    let seen : Support = support_seen solving.question.now solving.support in
    next_legal solving.question.now c.args.pivots seen c.requires.valid c.in-Apart.own c.in-Apart.theirs
    (c.in_ok-answer.ensures.ended ∙ ap ended_so c.in-Apart.is) solving.tree c.requires.grown

pub overflow_add-self : goal.overflow_add-self
overflow_add-self c =
    let solving = c.args.self.now in
    let early : solving.round ≤ MOST_NODES * MOST_NEXT =
    round_fits solving.question.now solving.tree (support_seen solving.question.now solving.support) solving.round
    c.requires in
    omega (arith, early)

pub returns-in_ok-add-in-Apart-clause-step : goal.returns-in_ok-add-in-Apart-clause-step
returns-in_ok-add-in-Apart-clause-step c =
    let solving = c.args.self.now in
    let seen : Support = support_seen solving.question.now solving.support in
    let ended = c.in_ok-answer.ensures.ended ∙ ap ended_so c.in-Apart.is in (
      c.in-Apart.own,
      c.in-Apart.theirs,
      ended,
      next_seen solving.question.now solving.round (support_seen solving.question.now c.add.new.self)
          (with_moves solving.question.now seen c.in-Apart.own c.in-Apart.theirs)
          (c.in_ok-add-in-Apart.ensures.added
          (next_legal solving.question.now c.args.pivots seen c.requires.valid c.in-Apart.own c.in-Apart.theirs ended
          solving.tree c.requires.grown)),
    )

pub returns-in_ok-add-in-Apart-clause-way : goal.returns-in_ok-add-in-Apart-clause-way
returns-in_ok-add-in-Apart-clause-way c =
    let solving = c.args.self.now in
    let seen : Support = support_seen solving.question.now solving.support in
    let ended = c.in_ok-answer.ensures.ended ∙ ap ended_so c.in-Apart.is in
    subst (λ (next : Support). IsOnItsWay solving.question.now solving.tree next (solving.round + 1))
    (sym (c.in_ok-add-in-Apart.ensures.added
    (next_legal solving.question.now c.args.pivots seen c.requires.valid c.in-Apart.own c.in-Apart.theirs ended
    solving.tree c.requires.grown)))
    (next_under_way solving.question.now c.args.pivots seen c.requires.valid c.in-Apart.own c.in-Apart.theirs ended
    solving.tree solving.round c.requires)
