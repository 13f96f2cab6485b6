use Rattle.std.proofs.Common.{◌≡◌, ◌∙◌, ◌<◌, ◌^◌, List, ap, arith, length, refl, rules, subst, sym, true, ℕ}
use Rattle.suit_classes.specs.declared.class_moves.ClassMove.{ClassMove}
use Rattle.suit_classes.specs.declared.class_turn.ClassTurn.TheVariants as turn_kinds
use Rattle.suit_plans.specs.Masses.{is_declarers, is_defences}
use Rattle.suit_tree.specs.declared.node.Node.{Node}
use Rattle.suit_tree.specs.Nodes.{payoff_at, turn_at}
use Rattle.suit_program.specs.declared.walks.turn.Turn.TheVariants as turns
use Rattle.suit_program.specs.Walks.Ledgers.{Adds}
use Rattle.suit_program.proofs.lemmas.Walks.LedgerByPostings.{paid}
use Rattle.suit_program.proofs.lemmas.Walks.WritingAtATurn.{answering_case, decided_case, own_moves_there, passing_case}
use Rattle.suit_program.proofs.lemmas.Walks.WritingAtATurn.{passing_room}
use Rattle.suit_program.proofs.lemmas.Walks.WritingAtATurn.{payoff_few, waiting_case}
use Rattle.suit_program.proofs.walks.writing.open.Goals as goal

pub pay-requires-clause-few : goal.pay-requires-clause-few
pay-requires-clause-few c =
    let few = payoff_few c.args.ledger.now c.args.reach.now c.args.accounts.now c.args.mass c.requires in
    let is : c.payoff.result ≡ payoff_at c.args.reach.now.node =
    c.payoff.ensures ∙ ap payoff_at c.node-in-Decided.ensures in
    omega (arith, few, is)

pub returns-in_ok-pay-in-Decided : goal.returns-in_ok-pay-in-Decided
returns-in_ok-pay-in-Decided c = λ case.
    let is : c.payoff.result ≡ payoff_at c.args.reach.now.node =
    c.payoff.ensures ∙ ap payoff_at c.node-in-Decided.ensures in
    let turn : turn_at c.args.reach.now.node ≡ turn_kinds.Decided =
    ap turn_at (sym c.node.ensures) ∙ sym c.in-Decided.ensures in
    decided_case c.args.ledger.now c.args.reach.now c.args.accounts.now c.args.mass case turn c.pay.new.self
    c.in_ok-pay-in-Decided.ensures.extends
    (subst (λ (n : ℕ). Adds c.args.ledger.now c.pay.new.self (paid n c.args.mass c.args.accounts.now)) is
    c.in_ok-pay-in-Decided.ensures.adds)

pub returns-then-not-declarer_chooses : goal.returns-then-not-declarer_chooses
returns-then-not-declarer_chooses c = λ case.
    let kind : is_declarers c.turn.result ≡ true = search rules in
    let own : is_declarers (turn_at c.args.reach.now.node) ≡ true =
    ap (λ (n : Node). is_declarers (turn_at n)) (sym c.node.ensures) ∙ ap is_declarers (sym c.turn.ensures) ∙ kind in
    let few : c.args.mass < 2 ^ 32 = search rules in
    waiting_case c.args.ledger.now c.args.reach.now c.args.accounts.now c.args.mass case own
    (sym (c.declarer_chooses.ensures case.question case.support case.history case.reached)
    ∙ c.if-not-declarer_chooses.true) few

pub pass-requires-clause-columns : goal.pass-requires-clause-columns
pass-requires-clause-columns c =
    let case = c.requires in
    let kind : is_declarers c.turn.result ≡ true = search rules in
    let own : is_declarers (turn_at c.args.reach.now.node) ≡ true =
    ap (λ (n : Node). is_declarers (turn_at n)) (sym c.node.ensures) ∙ ap is_declarers (sym c.turn.ensures) ∙ kind in
    let room = (passing_room c.args.ledger.now c.args.reach.now c.args.accounts.now c.args.mass case own
    (sym (c.declarer_chooses.ensures case.question case.support case.history case.reached)
    ∙ c.if-not-declarer_chooses.false)).0 in
    let moves = own_moves_there c.args.ledger.now c.args.reach.now c.args.accounts.now c.args.mass case own
    c.own_moves.result.items c.own_moves.ensures in
    let count = c.len.ensures.value ∙ ap (λ (l : List ClassMove). length l) moves in
    omega (arith, room, count)

pub pass-requires-clause-rows : goal.pass-requires-clause-rows
pass-requires-clause-rows c =
    let case = c.requires in
    let kind : is_declarers c.turn.result ≡ true = search rules in
    let own : is_declarers (turn_at c.args.reach.now.node) ≡ true =
    ap (λ (n : Node). is_declarers (turn_at n)) (sym c.node.ensures) ∙ ap is_declarers (sym c.turn.ensures) ∙ kind in
    (passing_room c.args.ledger.now c.args.reach.now c.args.accounts.now c.args.mass case own
    (sym (c.declarer_chooses.ensures case.question case.support case.history case.reached)
    ∙ c.if-not-declarer_chooses.false)).1

pub returns-in_ok-first-in-Lead : goal.returns-in_ok-first-in-Lead
returns-in_ok-first-in-Lead c = λ case.
    let kind : is_declarers c.turn.result ≡ true = search rules in
    let own : is_declarers (turn_at c.args.reach.now.node) ≡ true =
    ap (λ (n : Node). is_declarers (turn_at n)) (sym c.node.ensures) ∙ ap is_declarers (sym c.turn.ensures) ∙ kind in
    passing_case c.args.ledger.now c.args.reach.now c.args.accounts.now c.args.mass case own
    (sym (c.declarer_chooses.ensures case.question case.support case.history case.reached)
    ∙ c.if-not-declarer_chooses.false) c.pass.new.self c.own_moves.result.items c.len.result
    c.in_ok-first-in-Lead.first
    (own_moves_there c.args.ledger.now c.args.reach.now c.args.accounts.now c.args.mass case own
    c.own_moves.result.items c.own_moves.ensures) c.len.ensures.value c.in_ok-first-in-Lead.ensures.first
    c.in_ok-first-in-Lead.ensures.extends c.in_ok-first-in-Lead.ensures.adds

pub returns-in_ok-answers-in-Defence : goal.returns-in_ok-answers-in-Defence
returns-in_ok-answers-in-Defence c = λ case.
    let kind : is_defences c.turn.result ≡ true = ap is_defences c.in-Defence.is in
    let theirs : is_defences (turn_at c.args.reach.now.node) ≡ true =
    ap (λ (n : Node). is_defences (turn_at n)) (sym c.node.ensures) ∙ ap is_defences (sym c.turn.ensures) ∙ kind in
    let few : c.args.mass < 2 ^ 32 = search rules in
    answering_case c.args.ledger.now c.args.reach.now c.args.accounts.now c.args.mass case theirs
    c.answered.new.ledger c.in_ok-answers-in-Defence.answers.items (turns.Answered c.in_ok-answers-in-Defence.answers)
    (λ move. refl) (λ index. refl) few (c.in_ok-answers-in-Defence.ensures case)
