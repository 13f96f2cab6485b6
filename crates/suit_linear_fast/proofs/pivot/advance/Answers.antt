use Rattle.std.proofs.Common.{rules, arith, ◌≡◌, sym, ◌∙◌, length}
use Rattle.std.specs.Prelude.{suc, ℕ, ◌<◌, List, pos, int_lt, position, drop, fold, Some, None, FitsSigned}
use Rattle.std.specs.Int.{w64}
use Rattle.std.proofs.lemmas.Int.{to_z-of_z}
use Rattle.std.proofs.lemmas.List.{with_items_is}
use Rattle.suit_linear.specs.Tableaus.{TableauRow}
use Rattle.suit_linear.specs.Pivots.{kept}
use Rattle.suit_linear_fast.specs.Lines.{IsColumn, AreShown, chosen}
use Rattle.suit_linear_fast.specs.States.{AreSolved, IsApart, IsTop, AreChanged, ChangesObjective}
use Rattle.suit_linear_fast.proofs.Advancing.{advanced, ended}
use Rattle.suit_linear_fast.proofs.pivot.advance.Goals as goal

pub returns-in_default-clause-value : goal.returns-in_default-clause-value
returns-in_default-clause-value c =
    λ program tableau is state. ended program c.args.lines.now c.args.objective.now tableau
    state c.in_default.ensures

pub returns-clause-value : goal.returns-clause-value
returns-clause-value c = λ program tableau is state.
    let e2 : c.deref-2.result.now ≡ c.deref.result.now = c.deref-2.ensures.value ∙ sym c.deref.ensures.value in
    let e7 : c.deref-7.result.now ≡ c.deref.result.now = c.deref-7.ensures.value ∙ sym c.deref.ensures.value in
    let long : length c.sum_rows.new.numbers ≡ c.args.scratch.now.numbers.len = c.sum_rows.ensures.length
    ∙ c.deref_mut-5.ensures.len in
    let whole = with_items_is c.args.scratch.now.numbers c.sum_rows.new.numbers long in
    let n4 : c.deref-4.result.now ≡ c.sum_rows.new.numbers = c.deref-4.ensures.value ∙ whole in
    let n8 : c.deref-8.result.now ≡ c.sum_rows.new.numbers = c.deref-8.ensures.value ∙ whole in
    let found : Some c.in-Some.column ≡ position (λ cost. int_lt cost (pos 0)) (drop 2 c.args.objective.now) =
    c.in-Some.ensures in
    let shows : IsColumn program c.args.lines.now c.in-Some.column c.deref.result.now =
    c.column_holds.ensures.value c.if-not-column_holds.false program is in
    let low : c.in-Some-leaving.row < length c.args.lines.now =
    c.leaving.ensures.within c.in-Some-leaving.row c.in-Some-leaving.is in
    let leaves : (column : ℕ) (rows : List TableauRow) → AreShown column c.args.lines.now c.deref.result.now rows
    → chosen rows (Some c.in-Some-leaving.row) ≡ fold (kept column) None rows =
    rw e2 at (rw c.in-Some-leaving.is at c.leaving.ensures.value) in
    let solved : AreSolved program c.sum_rows.new.numbers =
    c.sum_rows.ensures.value c.if-not-sum_rows.false program is in
    let width : length c.args.objective.now ≡ suc (length c.sum_rows.new.numbers) =
    omega (arith, long, c.if-objective-len.false, c.requires.width) in
    let leaver_facts = rw c.in-Some-leaver_of.is at c.leaver_of.ensures in
    let apart : IsApart c.args.lines.now c.in-Some-leaving.row c.sum_rows.new.numbers = rw n4 at leaver_facts.apart in
    let top : IsTop c.in-Some.column c.sum_rows.new.numbers c.in-Some-leaver_of.leaver = rw n4 at leaver_facts.top in
    let change : AreChanged c.args.lines.now c.deref.result.now c.in-Some-leaving.row c.in-Some-leaver_of.leaver
    c.change_lines.new.lines = rw e7 at (c.in_ok-change_lines.ensures.value c.if-not-branch.false) in
    let own_fits : FitsSigned w64 c.in-Some-leaver_of.leaver.own = search rules in
    let changes : ChangesObjective c.args.objective.now c.sum_rows.new.numbers c.in-Some.column
    c.in-Some-leaver_of.leaver.own c.change_objective.new.objective =
    rw n8 at (simp to_z-of_z at (c.change_objective.ensures.value c.if-not-change_objective.false)) in
    advanced program c.args.lines.now c.args.objective.now tableau c.in-Some.column c.deref.result.now
    c.in-Some-leaving.row c.sum_rows.new.numbers c.in-Some-leaver_of.leaver c.change_lines.new.lines
    c.change_objective.new.objective state found shows low leaves solved width apart top change changes
