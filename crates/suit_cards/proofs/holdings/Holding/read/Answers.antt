use Rattle.std.proofs.Common.{arith, sym, ◌∙◌, drop, length-drop, drop-drop}
use Rattle.std.proofs.Math.ListN.{drop_of_length-le}
use Rattle.suit_cards.specs.Reading.{BeginsNoRank, BeginsRank}
use Rattle.suit_cards.proofs.SuitRuns.{IsHolding-filter_suit}
use Rattle.suit_cards.proofs.ReadingWhole.{read_whole, read_dash, rest_is, read_on-none_begins, read_on-held_begins}
use Rattle.suit_cards.proofs.ReadingWhole.{read_on-new_begins, read_on-end}
use Rattle.suit_cards.proofs.holdings.Holding.read.Goals as goal

pub returns-then-eq-clause-value : goal.returns-then-eq-clause-value
returns-then-eq-clause-value c =
    rw c.default-held.ensures (sym (read_dash c.args.text.now (rw c.as_slice.ensures at (sym c.eq.ensures
    ∙ c.if-eq.true))))

pub loop-at-init : goal.loop-at-init
loop-at-init c = record {
  inside = omega arith;
  is_holding = rw c.default-held.ensures tt;
  goes_on = rw c.default-held.ensures (read_whole c.args.text.now (rw c.as_slice.ensures at (sym c.eq.ensures
      ∙ c.if-eq.false)));
}

pub returns-in_default-clause-value : goal.returns-in_default-clause-value
returns-in_default-clause-value c =
    let none : BeginsNoRank (drop c.loop-at.at c.args.text.now) =
    rw (rest_is c.args.text.now c.loop-at.at) at c.in_default.ensures.none in
    sym (read_on-none_begins c.loop-at.held (drop c.loop-at.at c.args.text.now) c.loop-at.at none)
    ∙ c.loop-at.invariant.goes_on

pub returns-then-has-clause-value : goal.returns-then-has-clause-value
returns-then-has-clause-value c =
    let begins : BeginsRank (drop c.loop-at.at c.args.text.now) c.in-Some.first.rank c.in-Some.first.width =
    rw (rest_is c.args.text.now c.loop-at.at) at c.in-Some.ensures.some in
    sym (read_on-held_begins c.loop-at.held _ c.loop-at.at _ _ begins (sym c.has.ensures.value ∙ c.if-has.true))
    ∙ c.loop-at.invariant.goes_on

pub loop-at-preserved : goal.loop-at-preserved
loop-at-preserved c =
    let begins : BeginsRank (drop c.loop-at.at c.args.text.now) c.in-Some.first.rank c.in-Some.first.width =
    rw (rest_is c.args.text.now c.loop-at.at) at c.in-Some.ensures.some in
    record {
      inside = omega (arith, begins.within, length-drop c.loop-at.at c.args.text.now);
      is_holding = rw c.with-held.ensures.value (IsHolding-filter_suit _);
      goes_on = rw (c.with-held.ensures.value, ← drop-drop c.in-Some.first.width c.loop-at.at c.args.text.now)
          (sym (read_on-new_begins c.loop-at.held _ c.loop-at.at _ _ begins (sym c.has.ensures.value ∙ c.if-has.false))
          ∙ c.loop-at.invariant.goes_on);
    }

pub returns-clause-value : goal.returns-clause-value
returns-clause-value c =
    sym (read_on-end c.loop-at.held _ c.loop-at.at (drop_of_length-le c.args.text.now c.loop-at-test.false))
    ∙ c.loop-at.invariant.goes_on
