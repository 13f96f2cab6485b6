use Rattle.std.proofs.Common.{◌≡◌, ◌<◌, ℕ, List, get_or, ap, ◌∙◌, Vec, Global}
use Rattle.suit_linear.specs.declared.sparse.Entry.{Entry}
use Rattle.suit_linear.specs.Sparse.{dense_entries}
use Rattle.suit_program.specs.declared.walks.ledger.Ledger.{Ledger}
use Rattle.suit_program.specs.declared.walks.ledger.Posting.{Posting}
use Rattle.suit_program.specs.Walks.LedgerOf.{sparse_row}
use Rattle.suit_program.specs.Walks.Ledgers.{entries_of}
use Rattle.suit_program.specs.Supports.Marks.{support_seen}
use Rattle.std.proofs.Common.{map}
use Rattle.suit_lists.proofs.Elements.{Contains-same}
use Rattle.suit_program.proofs.lemmas.Walks.LedgerIsTheProgram.{ledger_tells, few_columns}
use Rattle.suit_program.proofs.programs.sparse_program.Goals as goal

pub entries_by_row-requires : goal.entries_by_row-requires
entries_by_row-requires c = record {
  rows = λ posting there.
      (c.in_ok-ledger.ensures c.requires).within posting
      (Contains-same posting c.deref.ensures.value there);
}

pub returns : goal.returns
returns c = λ case.
    let ledger : Ledger = c.in_ok-ledger.ledger in
    let lists : List (Vec Entry Global) = c.in_ok-lists.lists.items in
    let each : (row : ℕ) (other : Vec Entry Global) → row < ledger.rows
    → (get_or lists row other).items ≡ entries_of ledger.postings.items row =
    λ row other below. c.in_ok-lists.ensures.each row other below
    ∙ ap (λ (l : List Posting). entries_of l row) c.deref.ensures.value in
    let costs : c.in_ok-costs.costs.items ≡ dense_entries ledger.columns
    (get_or lists 0 c.remove-objective.result).items =
    c.in_ok-costs.ensures
    ∙ ap (dense_entries ledger.columns)
    (c.deref-2.ensures.value ∙ ap (λ (v : Vec Entry Global). v.items) c.remove-objective.ensures.value) in
    let rows = c.in_ok-rows.ensures
    ∙ ap (map (λ (entries : Vec Entry Global). sparse_row entries.items)) c.remove-objective.ensures.items in
    ledger_tells case.question (support_seen case.question c.args.support.now) ledger (c.in_ok-ledger.ensures case)
    (few_columns case.question (support_seen case.question c.args.support.now) case.few)
    lists c.in_ok-lists.ensures.length each c.of.result c.of-2.result c.remove-objective.result
    (c.of.ensures ∙ costs) (c.of-2.ensures ∙ rows)
