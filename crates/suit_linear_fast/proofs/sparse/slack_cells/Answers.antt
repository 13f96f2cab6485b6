use Rattle.std.proofs.Common.{◌≡◌, ap, ◌∙◌, ◌∷◌, [], List}
use Rattle.std.specs.Prelude.{pos}
use Rattle.suit_linear_fast.specs.declared.cells.Cell.{Cell}
use Rattle.suit_linear_fast.specs.Cells.{number_in}
use Rattle.suit_linear_fast.proofs.SparsePrograms.{one_cell}
use Rattle.suit_linear_fast.proofs.sparse.slack_cells.Goals as goal

pub returns : goal.returns
returns c = λ other.
    let items : c.push.new.self.items ≡ (record { index = c.args.index; number = pos 1 }) ∷ [] =
    rw c.new-cells.ensures.items at c.in_ok-push.ensures.items in
    ap (λ (cells : List Cell). number_in cells other) items
    ∙ one_cell (record { index = c.args.index; number = pos 1 }) other
