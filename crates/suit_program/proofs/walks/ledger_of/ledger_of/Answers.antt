use Rattle.std.proofs.Common.{◌∙◌, ◌-◌, ◌^◌, ◌≤◌, ℕ, All, List, [], ap, length, refl, subst, sym}
use Rattle.suit_cards.specs.Cards.{ClassLayout}
use Rattle.suit_game.specs.declared.limits.TheConstants.{MOST_TOTAL}
use Rattle.suit_layouts.specs.declared.class_list.TheConstants.{MOST_CLASS_LAYOUTS}
use Rattle.suit_program.specs.declared.walks.ledger.Account.{Account}
use Rattle.suit_program.specs.declared.walks.ledger.Ledger.{Ledger}
use Rattle.suit_program.specs.Supports.Marks.{support_seen}
use Rattle.suit_program.specs.Walks.Writing.{IsWritten}
use Rattle.suit_program.proofs.lemmas.Walks.LedgerFromTheStart.{accounts_of, ledger_all, layouts_weigh, start_asked}
use Rattle.suit_program.proofs.lemmas.Walks.ReachAtTheStart.{layouts_few}
use Rattle.suit_program.proofs.walks.ledger_of.ledger_of.Goals as goal

pub whole_accounts-requires : goal.whole_accounts-requires
whole_accounts-requires c =
    let listed = c.layouts.ensures ∙ c.requires.grown.layouts in
    record {
      few =
          subst (λ (l : List (ClassLayout × ℕ)). length l ≤ MOST_CLASS_LAYOUTS) (sym listed)
          (layouts_few c.requires.question);
      weights =
          subst (λ (l : List (ClassLayout × ℕ)). All (λ layout. layout.1 ≤ MOST_TOTAL) l) (sym listed)
          (layouts_weigh c.requires.question c.requires.valid);
    }

pub write-requires-clause-asked : goal.write-requires-clause-asked
write-requires-clause-asked c =
    let case = c.requires in
    let ledger : Ledger = record { columns = 0; rows = 1; postings = c.new.result } in
    start_asked c.args.tree.now c.args.support.now case ledger refl refl c.start-reach.result c.deref.result.now
    (c.start-reach.ensures case.question case.valid case.grown)
    (c.deref.ensures.value ∙ c.in_ok-accounts.ensures ∙ ap accounts_of (c.layouts.ensures ∙ case.grown.layouts))

pub returns : goal.returns
unfolding start_asked
returns c = λ case.
    let ledger : Ledger = record { columns = 0; rows = 1; postings = c.new.result } in
    let are = c.deref.ensures.value ∙ c.in_ok-accounts.ensures
    ∙ ap accounts_of (c.layouts.ensures ∙ case.grown.layouts) in
    ledger_all case.question (support_seen case.question c.args.support.now) ledger c.write.new.ledger refl refl
    c.new.ensures.items
    (subst (λ (l : List Account). IsWritten case.question (support_seen case.question c.args.support.now) []
    (2 ^ 32 - 1) l ledger c.write.new.ledger) are
    (c.in_ok-write.ensures
    (start_asked c.args.tree.now c.args.support.now case ledger refl refl c.start-reach.result c.deref.result.now
    (c.start-reach.ensures case.question case.valid case.grown) are)))
