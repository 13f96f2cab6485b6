use Rattle.std.proofs.Common.{rules, subst, ◌∙◌, ap, List}
use Rattle.std.specs.Prelude.{All, FitsSigned, ℤ, pos, ◌≤ℤ◌}
use Rattle.std.specs.Int.{w128}
use Rattle.std.proofs.lemmas.Int.{to_z-of_z}
use Rattle.suit_num.specs.Narrow.{IsNarrow}
use Rattle.suit_linear.specs.Sparse.{dense_entries}
use Rattle.suit_linear.specs.declared.sparse.Entry.{Entry}
use Rattle.suit_linear_runs.proofs.WellFormedRowByRow.{row_formed}
use Rattle.suit_linear_runs.proofs.formed.is_formed.Goals as goal

pub returns : goal.returns
returns c = λ t.
    let fits : FitsSigned w128 c.args.row.now.bound = search rules in
    let positive : pos 0 ≤ℤ c.args.row.now.bound =
    simp to_z-of_z at (c.is_bound.ensures.positive c.if-not-is_bound.false) in
    let narrow : IsNarrow c.args.row.now.bound =
    simp to_z-of_z at (c.is_bound.ensures.narrow c.if-not-is_bound.false) in
    row_formed c.args.columns c.args.row.now positive narrow
    (subst (λ (numbers : List ℤ). All IsNarrow numbers)
    (c.deref.ensures.value ∙ c.in_ok-numbers.ensures
    ∙ ap (λ (entries : List Entry). dense_entries c.args.columns entries) c.items.ensures)
    (c.are_narrow.ensures t))
