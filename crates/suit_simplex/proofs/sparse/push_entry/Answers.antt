use Rattle.std.proofs.Common.{rules, ◌≡◌, ap, ◌∙◌, ◌++◌, ◌∷◌, [], List}
use Rattle.std.specs.Prelude.{FitsSigned}
use Rattle.std.specs.Int.{w64, w128}
use Rattle.std.proofs.lemmas.Int.{to_z-of_z}
use Rattle.suit_linear.specs.declared.sparse.Entry.{Entry}
use Rattle.suit_linear.specs.Sparse.{sum_in}
use Rattle.suit_simplex.proofs.SparsePrograms.{sum_in_push}
use Rattle.suit_simplex.proofs.sparse.push_entry.Goals as goal

pub returns : goal.returns
returns c = λ t other.
    let wide_fits : FitsSigned w128 c.args.number = c.ranges.number in
    let short_fits : FitsSigned w64 c.in-Some.number = search rules in
    let value : c.in-Some.number ≡ c.args.number = simp to_z-of_z at (rw c.in-Some.is at c.short.ensures) in
    let column : c.in-Some-narrow.column ≡ c.args.index = rw c.in-Some-narrow.is at c.narrow.ensures in
    let items : c.push.new.self.items ≡ c.args.entries.now.items
    ++ (record { column = c.args.index; number = c.args.number }) ∷ [] =
    rw (value, column) at (simp to_z-of_z at c.in_ok-push.ensures.items) in
    ap (λ (entries : List Entry). sum_in entries other) items
    ∙ sum_in_push c.args.entries.now.items (record { column = c.args.index; number = c.args.number }) other
