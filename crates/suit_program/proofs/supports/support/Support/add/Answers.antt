use Rattle.std.proofs.Common.{◌≡◌, ℕ, List, Some, ap, arith, length, ◌∙◌}
use Rattle.std.specs.Prelude.{not, ◌||◌}
use Rattle.std.specs.List.{list_any}
use Rattle.std.proofs.lemmas.List.Elements.{All-contains}
use Rattle.suit_cards.specs.Cards.{ClassLayout}
use Rattle.suit_plans.specs.declared.moves.DeclarerMove.{DeclarerMove}
use Rattle.suit_plans.specs.declared.moves.DefenceMove.{DefenceMove}
use Rattle.suit_program.specs.Supports.Additions.{are_theirs, has_own, has_theirs}
use Rattle.suit_program.specs.Supports.Marks.{IsTheirMove, defence_mark, named_on}
use Rattle.suit_program.specs.Supports.{has_declarers, layouts_of}
use Rattle.suit_program.proofs.lemmas.Supports.WithMoreMoves.{lacks_is, with_seen}
use Rattle.suit_program.proofs.supports.support.Support.add.Goals as goal

pub returns-clause-new : goal.returns-clause-new
returns-clause-new c =
    λ case.
    c.lacks-new.ensures
    ∙ ap (λ (l : List DeclarerMove). list_any (λ entry. not (has_own c.args.self.now c.args.tree.now entry)) l
    || list_any (λ entry. not (has_theirs c.args.self.now c.args.tree.now entry)) c.items-2.result.now) c.items.ensures
    ∙ ap (λ (l : List DefenceMove). list_any (λ entry. not (has_own c.args.self.now c.args.tree.now entry))
    c.args.declarer.now || list_any (λ entry. not (has_theirs c.args.self.now c.args.tree.now entry)) l)
    c.items-2.ensures
    ∙ lacks_is case.question case.valid c.args.tree.now case.grown c.args.self.now c.args.declarer.now
    c.args.defence.now case.own_moves case.their_moves

pub returns-clause-added : goal.returns-clause-added
returns-clause-added c =
    λ case.
    let long : length c.layouts.result.now ≡ length (layouts_of case.question) =
    ap (λ (l : List (ClassLayout × ℕ)). length l) (c.layouts.ensures ∙ case.grown.layouts) in
    with_seen case.question c.args.self.now c.in_ok-next.next c.args.declarer.now c.args.defence.now
    c.in_ok-next.ensures.all
    (λ history move. c.in_ok-next.ensures.own history move
    ∙ ap (λ (l : List DeclarerMove). named_on (Some c.args.self.now.declarers) history move
    || has_declarers l history move) c.items-3.ensures)
    (λ index history move below. c.in_ok-next.ensures.theirs index history move (omega (arith, below, long))
    ∙ ap (λ (l : List DefenceMove). named_on (defence_mark c.args.self.now index) history move
    || are_theirs l index history move) c.items-4.ensures)
    (λ entry found.
    (All-contains (IsTheirMove case.question) c.args.defence.now entry case.their_moves found).listed)
