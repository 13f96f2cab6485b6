use Rattle.std.proofs.Common.{sym, ◌∙◌, rules, false, true, ◌≡◌}
use Rattle.std.specs.Prelude.{pos, int_lt, FitsSigned, get_or, ◌<◌, length}
use Rattle.std.specs.Int.{w64}
use Rattle.std.proofs.lemmas.Int.{to_z-of_z}
use Rattle.suit_linear.specs.Points.{number_at}
use Rattle.suit_linear_fast.specs.declared.lines.Line.{Line}
use Rattle.suit_linear_fast.specs.Lines.{is_better_line, chosen}
use Rattle.suit_linear_fast.proofs.RatioTestOnLines.{better_passed, better_first, better_chosen}
use Rattle.suit_linear_fast.proofs.lines.better.Goals as goal

pub returns-then-not-is_positive-clause-value : goal.returns-then-not-is_positive-clause-value
returns-then-not-is_positive-clause-value c =
    let fits : FitsSigned w64 (number_at c.args.entries.now c.args.index) = search rules in
    let none : int_lt (pos 0) (number_at c.args.entries.now c.args.index) ≡ false =
    simp to_z-of_z at (sym c.is_positive.ensures ∙ c.if-not-is_positive.true) in
    λ column rows row shown at. better_passed c.args.lines.now c.args.entries.now c.args.index
    (record { basic = 0; own = pos 0; bound = pos 0; size = 0 }) column rows row shown at none
    (chosen rows c.args.best)

pub returns-in_default-clause-value : goal.returns-in_default-clause-value
returns-in_default-clause-value c =
    let fits : FitsSigned w64 (number_at c.args.entries.now c.args.index) = search rules in
    let some : int_lt (pos 0) (number_at c.args.entries.now c.args.index) ≡ true =
    simp to_z-of_z at (sym c.is_positive.ensures ∙ c.if-not-is_positive.false) in
    λ column rows row shown at. rw c.in_default.is (better_first c.args.lines.now c.args.entries.now c.args.index
    (record { basic = 0; own = pos 0; bound = pos 0; size = 0 }) column rows row shown at some)

pub returns-then-is_better-clause-value : goal.returns-then-is_better-clause-value
returns-then-is_better-clause-value c =
    let other : Line = record { basic = 0; own = pos 0; bound = pos 0; size = 0 } in
    let fits : FitsSigned w64 (number_at c.args.entries.now c.args.index) = search rules in
    let leader_fits : FitsSigned w64 (number_at c.args.entries.now c.in-Some.leader) = search rules in
    let some : int_lt (pos 0) (number_at c.args.entries.now c.args.index) ≡ true =
    simp to_z-of_z at (sym c.is_positive.ensures ∙ c.if-not-is_positive.false) in
    let better : true ≡ is_better_line (get_or c.args.lines.now c.in-Some.leader other)
    (number_at c.args.entries.now c.in-Some.leader) (get_or c.args.lines.now c.args.index other)
    (number_at c.args.entries.now c.args.index) =
    simp to_z-of_z at (sym c.if-is_better.true ∙ c.is_better.ensures) in
    let less : c.in-Some.leader < length c.args.lines.now = c.requires.best c.in-Some.leader c.in-Some.is in
    λ column rows row shown at. rw c.in-Some.is (better_chosen c.args.lines.now c.args.entries.now c.args.index other
    column rows row shown at c.in-Some.leader true less some better)

pub returns-else-is_better-clause-value : goal.returns-else-is_better-clause-value
returns-else-is_better-clause-value c =
    let other : Line = record { basic = 0; own = pos 0; bound = pos 0; size = 0 } in
    let fits : FitsSigned w64 (number_at c.args.entries.now c.args.index) = search rules in
    let leader_fits : FitsSigned w64 (number_at c.args.entries.now c.in-Some.leader) = search rules in
    let some : int_lt (pos 0) (number_at c.args.entries.now c.args.index) ≡ true =
    simp to_z-of_z at (sym c.is_positive.ensures ∙ c.if-not-is_positive.false) in
    let better : false ≡ is_better_line (get_or c.args.lines.now c.in-Some.leader other)
    (number_at c.args.entries.now c.in-Some.leader) (get_or c.args.lines.now c.args.index other)
    (number_at c.args.entries.now c.args.index) =
    simp to_z-of_z at (sym c.if-is_better.false ∙ c.is_better.ensures) in
    let less : c.in-Some.leader < length c.args.lines.now = c.requires.best c.in-Some.leader c.in-Some.is in
    λ column rows row shown at. rw c.in-Some.is (better_chosen c.args.lines.now c.args.entries.now c.args.index other
    column rows row shown at c.in-Some.leader false less some better)
