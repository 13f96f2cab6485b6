use Rattle.std.proofs.Common.{◌∙◌, sym, true, false, pos}
use Rattle.suit_lists.proofs.Tests.{all_mapped}
use Rattle.suit_lists.proofs.Walks.{all_from, all_past}
use Rattle.suit_cards.specs.declared.seats.Seat.TheVariants.{N}
use Rattle.suit_classes.specs.declared.class_moves.ClassMove.TheVariants.{Lead}
use Rattle.suit_classes.specs.WhatIsAllowed.{is_among}
use Rattle.suit_plans.proofs.row_faults.are_legal.Goals as goal

pub returns-then-not-is_among : goal.returns-then-not-is_among
returns-then-not-is_among c =
    sym (all_from (λ count. is_among c.args.legal.now count.0) c.args.shares.now c.loop-count.count-index (
      Lead N 0,
      pos 0,
    ) false c.loop-count-test.true c.if-not-is_among.ensures)
    ∙ c.loop-count.invariant ∙ sym (all_mapped (is_among c.args.legal.now) (λ count. count.0) c.args.shares.now)

pub loop-count-preserved : goal.loop-count-preserved
loop-count-preserved c =
    sym (all_from (λ count. is_among c.args.legal.now count.0) c.args.shares.now c.loop-count.count-index (
      Lead N 0,
      pos 0,
    ) true c.loop-count-test.true c.if-not-is_among.ensures)
    ∙ c.loop-count.invariant

pub returns : goal.returns
returns c =
    sym (all_past (λ count. is_among c.args.legal.now count.0) c.args.shares.now c.loop-count.count-index
    c.loop-count-test.false)
    ∙ c.loop-count.invariant ∙ sym (all_mapped (is_among c.args.legal.now) (λ count. count.0) c.args.shares.now)
