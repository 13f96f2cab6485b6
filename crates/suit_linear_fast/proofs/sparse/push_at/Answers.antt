use Rattle.std.proofs.Common.{◌≡◌, ap, sym, ◌∙◌, ◌++◌, ◌∷◌, [], List, Vec, Global, get_or}
use Rattle.std.specs.Prelude.{set}
use Rattle.std.proofs.lemmas.List.{map-set, get_or-map}
use Rattle.suit_linear_fast.specs.declared.cells.Cell.{Cell}
use Rattle.suit_linear_fast.specs.Sparse.{cells_of}
use Rattle.suit_linear_fast.proofs.sparse.push_at.Goals as goal

pub returns : goal.returns
returns c =
    let read : c.index_mut.result.now.items ≡ get_or (cells_of c.args.columns.now.items) c.args.column [] =
    ap (λ (v : Vec Cell Global). v.items) c.index_mut.ensures.value
    ∙ sym (get_or-map (λ (v : Vec Cell Global). v.items) c.args.columns.now.items c.args.column c.index_mut.result.now
    [] c.requires) in
    map-set (λ (v : Vec Cell Global). v.items) c.args.columns.now.items c.args.column c.push.new.self
    ∙ ap (λ (xs : List Cell). set (cells_of c.args.columns.now.items) c.args.column xs)
    (c.in_ok-push.ensures.items ∙ ap (λ (xs : List Cell). xs ++ c.args.cell ∷ []) read)
