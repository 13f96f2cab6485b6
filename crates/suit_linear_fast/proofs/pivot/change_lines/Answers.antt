use Rattle.std.proofs.Common.{rules, ◌≡◌}
use Rattle.std.specs.Prelude.{FitsSigned, pos}
use Rattle.std.specs.Int.{w64}
use Rattle.std.proofs.lemmas.Int.{to_z-of_z}
use Rattle.suit_linear.specs.Points.{number_at}
use Rattle.suit_linear_fast.proofs.Advancing.{none_changed, leaver_set, line_set_read, line_idle, all_changed}
use Rattle.suit_linear_fast.proofs.pivot.change_lines.Goals as goal

pub loop-index-init : goal.loop-index-init
loop-index-init c = none_changed _ _ _ _

pub loop-index-preserved-then-index-row : goal.loop-index-preserved-then-index-row
loop-index-preserved-then-index-row c =
    leaver_set c.args.lines.now c.args.entries.now c.args.row c.args.leaver.now c.loop-index.index c.loop-index.lines
    c.loop-index.invariant c.loop-index-test.true c.if-index-row.true

pub loop-index-preserved-then-is_same_short : goal.loop-index-preserved-then-is_same_short
loop-index-preserved-then-is_same_short c =
    let entry_fits : FitsSigned w64 (number_at c.args.entries.now c.loop-index.index) = search rules in
    let none : number_at c.args.entries.now c.loop-index.index ≡ pos 0 =
    simp to_z-of_z at (c.is_same_short.ensures c.if-is_same_short.true) in
    line_idle c.args.lines.now c.args.entries.now c.args.row c.args.leaver.now c.loop-index.index c.loop-index.lines
    c.loop-index.invariant c.loop-index-test.true c.if-index-row.false none

pub loop-index-preserved : goal.loop-index-preserved
loop-index-preserved c =
    let entry_fits : FitsSigned w64 (number_at c.args.entries.now c.loop-index.index) = search rules in
    line_set_read c.args.lines.now c.args.entries.now c.args.row c.args.leaver.now c.loop-index.index c.loop-index.lines
    c.loop-index.invariant c.loop-index-test.true c.if-index-row.false
    (record { basic = 0; own = pos 0; bound = pos 0; size = 0 }) c.in-Some.line
    (simp to_z-of_z at (rw c.in-Some.is at c.in_ok-line.ensures))

pub returns-clause-value : goal.returns-clause-value
returns-clause-value c = λ t. all_changed c.args.lines.now c.args.entries.now c.args.row c.args.leaver.now
    c.loop-index.index c.loop-index.lines c.requires.within c.loop-index-test.false c.loop-index.invariant
