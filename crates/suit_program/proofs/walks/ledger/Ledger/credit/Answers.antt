use Rattle.std.proofs.Common.{◌∙◌, SFits, ap, pos, rules, ℤ, ◌*ℤ◌}
use Rattle.std.specs.Int.{w64}
use Rattle.std.proofs.lemmas.Int.{to_z-of_z}
use Rattle.suit_program.proofs.lemmas.Walks.LedgerByPostings.{credit_adds}
use Rattle.suit_program.proofs.walks.ledger.Ledger.credit.Goals as goal

pub returns-clause-adds : goal.returns-clause-adds
returns-clause-adds c =
    let low = c.requires.fit.low in
    let few = c.requires.fit.few in
    let factor_fits : SFits w64 c.args.account.factor = search rules in
    let fits : SFits w64 c.multiplied.result = search rules in
    credit_adds c.args.self.now c.post.new.self c.args.account c.args.column c.args.times _
    (to_z-of_z w64 c.multiplied.result fits ∙ c.multiplied.ensures
    ∙ ap (λ (z : ℤ). z *ℤ pos c.args.times) (to_z-of_z w64 c.args.account.factor factor_fits)) c.in_ok-post.ensures.adds
