use Rattle.std.proofs.Common.{rules, ◌≡◌, ◌+◌, ◌≤◌, suc, replicate, length, refl, add-one}
use Rattle.std.specs.Prelude.{pos}
use Rattle.suit_simplex.proofs.FirstNumbers.{IsFirst, one_begun, last_begun, first_seen, first_kept}
use Rattle.suit_simplex.proofs.first.first_dense.Goals as goal
use Rattle.suit_simplex.proofs.first.first_dense.Goals.{In_ok-leaver}

pub loop-index-preserved : goal.loop-index-preserved
loop-index-preserved c =
    let columns : c.items-columns.result.now ≡ c.args.program.now.costs = c.items-columns.ensures in
    let rows : c.items-rows.result.now ≡ c.args.program.now.rows = c.items-rows.ensures in
    one_begun c.args.program.now c.loop-index.numbers.items c.loop-index.basics.items c.loop-index.index
    c.index-rows-index.result c.push_row.new.numbers.items c.push.new.self.items (rw rows at c.loop-index-test.true)
    (rw rows at c.index-rows-index.is) c.loop-index.invariant (rw rows at c.in_ok-push_row.ensures.items)
    c.in_ok-push_row.ensures.narrow (rw columns at c.in_ok-push.ensures.items)

begun : (c : In_ok-leaver) → IsFirst c.args.program.now (record {
  width = c.in-Some.width;
  numbers = c.push_objective.new.numbers;
  basics = c.loop-index.basics;
  leaver = c.in_ok-leaver.leaver;
})
begun c =
    let columns : c.items-columns.result.now ≡ c.args.program.now.costs = c.items-columns.ensures in
    let rows : c.items-rows.result.now ≡ c.args.program.now.rows = c.items-rows.ensures in
    let past : length c.args.program.now.rows ≤ c.loop-index.index = rw rows at c.loop-index-test.false in
    let width : c.in-Some.width ≡ suc (length c.args.program.now.costs + length c.args.program.now.rows) =
    (rw (columns, rows) at c.in-Some.ensures).0 in
    let zeros : c.in_ok-leaver.leaver.items ≡ replicate (c.in-Some.width + 1) (pos 0) = search rules in
    last_begun c.args.program.now (record {
      width = c.in-Some.width;
      numbers = c.push_objective.new.numbers;
      basics = c.loop-index.basics;
      leaver = c.in_ok-leaver.leaver;
    }) c.loop-index.numbers.items
    c.loop-index.basics.items c.loop-index.index past c.loop-index.invariant width refl (rw (
      columns,
      rows,
    ) at c.in_ok-push_objective.ensures.items) c.in_ok-push_objective.ensures.narrow (rw add-one at zeros)

pub returns-clause-seen : goal.returns-clause-seen
returns-clause-seen c = first_seen c.args.program.now _ c.requires (begun c)

pub returns-clause-kept : goal.returns-clause-kept
returns-clause-kept c = first_kept c.args.program.now _ c.requires (begun c)
