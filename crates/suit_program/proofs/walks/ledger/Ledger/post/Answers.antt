use Rattle.std.proofs.Common.{SFits, refl, rules}
use Rattle.std.specs.Int.{w64}
use Rattle.std.proofs.lemmas.Int.{to_z-of_z}
use Rattle.suit_program.proofs.lemmas.Walks.LedgerByPostings.{posted_adds, posted_extends}
use Rattle.suit_program.proofs.walks.ledger.Ledger.post.Goals as goal

pub returns-clause-extends : goal.returns-clause-extends
returns-clause-extends c =
    let fits : SFits w64 c.args.number = search rules in
    posted_extends c.args.self.now _ c.args.row c.args.column c.args.number _ (to_z-of_z w64 c.args.number fits)
    c.in_ok-push.ensures.items refl refl c.requires

pub returns-clause-adds : goal.returns-clause-adds
returns-clause-adds c =
    let fits : SFits w64 c.args.number = search rules in
    posted_adds c.args.self.now _ c.args.row c.args.column c.args.number _ (to_z-of_z w64 c.args.number fits)
    c.in_ok-push.ensures.items
