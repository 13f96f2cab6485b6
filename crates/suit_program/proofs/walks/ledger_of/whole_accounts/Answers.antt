use Rattle.std.proofs.Common.{◌∙◌, ℕ, ℤ, [], ap, arith, get_or, pos, sym, to_z}
use Rattle.std.specs.Int.{w64}
use Rattle.std.proofs.lemmas.Int.{to_z_pos}
use Rattle.std.proofs.lemmas.List.{get_or_read}
use Rattle.suit_lists.proofs.Walks.{one_numbered}
use Rattle.suit_cards.specs.Cards.{ClassLayout}
use Rattle.suit_program.specs.declared.walks.ledger.Account.{Account}
use Rattle.suit_program.proofs.walks.ledger_of.whole_accounts.Goals as goal

pub loop-index-preserved : goal.loop-index-preserved
loop-index-preserved c =
    let layouts = c.args.layouts.now in
    let index = c.loop-index.index in
    let weighed : ℤ → ℕ → Account = λ factor at. record { index = at; row = 0; factor = factor } in
    let account : ℕ → Account = λ at. weighed (pos (get_or layouts at ([], 0)).1) at in
    let read = get_or_read layouts index _ c.loop-index-test.true c.index-layouts-index.is ([], 0) in
    let few = c.requires.weights index ([], 0) c.loop-index-test.true in
    one_numbered account c.loop-index.accounts.items c.push.new.self.items index _ c.loop-index.invariant
    c.in_ok-push.ensures.items
    (ap (λ (factor : ℤ). weighed factor index)
    (ap (λ (layout : ClassLayout × ℕ). to_z w64 layout.1) (sym c.index-layouts-index.is ∙ read)
    ∙ to_z_pos w64 (get_or layouts index ([], 0)).1 (omega (arith, few))))
