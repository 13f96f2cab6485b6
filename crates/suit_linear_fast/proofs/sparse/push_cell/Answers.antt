use Rattle.std.proofs.Common.{rules, ◌≡◌, ap, ◌∙◌, ◌++◌, ◌∷◌, [], List}
use Rattle.std.specs.Prelude.{FitsSigned}
use Rattle.std.specs.Int.{w64, w128}
use Rattle.std.proofs.lemmas.Int.{to_z-of_z}
use Rattle.suit_linear_fast.specs.declared.cells.Cell.{Cell}
use Rattle.suit_linear_fast.specs.Cells.{number_in}
use Rattle.suit_linear_fast.proofs.SparsePrograms.{number_in_push}
use Rattle.suit_linear_fast.proofs.sparse.push_cell.Goals as goal

pub returns : goal.returns
returns c = λ t other.
    let wide_fits : FitsSigned w128 c.args.number = c.ranges.number in
    let short_fits : FitsSigned w64 c.in-Some.number = search rules in
    let value : c.in-Some.number ≡ c.args.number = simp to_z-of_z at (rw c.in-Some.is at c.narrowed.ensures) in
    let items : c.push.new.self.items ≡ c.args.cells.now.items
    ++ (record { index = c.args.index; number = c.args.number }) ∷ [] =
    rw value at (simp to_z-of_z at c.in_ok-push.ensures.items) in
    ap (λ (cells : List Cell). number_in cells other) items
    ∙ number_in_push c.args.cells.now.items (record { index = c.args.index; number = c.args.number }) other
