use Rattle.std.proofs.Common.{arith, ◌≡◌, ◌+◌, ◌-◌, min, ℕ, subst, length}
use Rattle.suit_linear_fast.specs.Replays.{Replays}
use Rattle.suit_linear_fast.proofs.ColumnReplays.{replay_begins, replay_more}
use Rattle.suit_linear_fast.proofs.past_pivots.PastPivots.guess_column.Goals as goal

pub loop-pivot-init : goal.loop-pivot-init
loop-pivot-init c = replay_begins c.args.self.now c.begin_column-begin.result _ c.begin_column-begin.new.entries
    (omega arith)

pub loop-pivot-preserved : goal.loop-pivot-preserved
loop-pivot-preserved c =
    let begin : ℕ = c.begin_column-begin.result in
    let count : ℕ = length c.args.self.now.leavers.items in
    let end = c.len-pivot-end.ensures in
    let late = c.loop-pivot.auto.pivot in
    let early = c.loop-pivot-test.true in
    replay_more c.args.self.now begin c.loop-pivot.pivot (min c.loop-pivot.pivot count - begin)
    (min (c.loop-pivot.pivot + 1) count - begin) c.begin_column-begin.new.entries c.loop-pivot.entries
    c.step_column.new.entries (omega arith) (omega arith) c.loop-pivot.invariant c.step_column.ensures

pub returns : goal.returns
returns c =
    let begin : ℕ = c.begin_column-begin.result in
    let count : ℕ = length c.args.self.now.leavers.items in
    let end = c.len-pivot-end.ensures in
    let late = c.loop-pivot-test.false in
    let all : min c.loop-pivot.pivot count - begin ≡ count - begin = omega arith in
    record {
      zeros = c.clear_all.new.numbers;
      first = begin;
      begun = c.begin_column-begin.new.entries;
      are_zero = c.clear_all.ensures.value;
      begins = c.begin_column-begin.ensures;
      replayed =
          subst
          (λ (n : ℕ). Replays c.args.self.now begin n c.begin_column-begin.new.entries c.loop-pivot.entries) all
          c.loop-pivot.invariant;
    }
