use Rattle.std.proofs.Common.{◌≡◌, ◌∙◌, ◌+◌, ◌<◌, ◌≤◌, ◌^◌, ◌++◌, ◌∷◌, [], List, ℕ, ap, arith, drop, false, get_or}
use Rattle.std.proofs.Common.{length, refl, rules, subst, sym, take, true}
use Rattle.std.specs.Prelude.{Contains}
use Rattle.std.proofs.lemmas.List.{length-append}
use Rattle.std.proofs.lemmas.List.Elements.{Contains-get_or}
use Rattle.suit_lists.proofs.Elements.{Contains-same}
use Rattle.suit_lists.proofs.Indices.{at_itself}
use Rattle.suit_classes.specs.declared.class_moves.ClassMove.{ClassMove}
use Rattle.suit_tree.specs.declared.node.Node.{Node}
use Rattle.suit_tree.specs.Nodes.{children_of, move_of}
use Rattle.suit_program.specs.declared.walks.ledger.Account.{Account}
use Rattle.suit_program.specs.Walks.Reaches.{goes_on}
use Rattle.suit_program.specs.Walks.Writing.{IsWritten, accounts_after, mass_after}
use Rattle.suit_program.proofs.lemmas.Walks.RoomToWrite.{child_asked, go_on, room_rows}
use Rattle.suit_program.proofs.lemmas.Walks.NoNode.{no_node}
use Rattle.suit_program.proofs.lemmas.Walks.SizeFromHere.{child_short}
use Rattle.suit_program.proofs.lemmas.Walks.NodeByNode.{done, done_all, done_more, done_past, next_contained, next_few}
use Rattle.suit_program.proofs.lemmas.Walks.NodeByNode.{next_parts}
use Rattle.suit_program.proofs.lemmas.Walks.WritingGoesOn.{ArePassed, all_written, passed_more, passed_none}
use Rattle.suit_program.proofs.walks.writing.+write.Goals as goal

pub open-requires : goal.open-requires
open-requires t c = c.requires.asked

pub loop-child-init : goal.loop-child-init
loop-child-init t c = λ case. (
  c.in_ok-turn.ensures case,
  passed_none case.question case.support case.history c.args.mass c.args.accounts.now c.in_ok-turn.turn
      c.open.new.ledger,
  refl,
)

pub child-requires-clause-below : goal.child-requires-clause-below
child-requires-clause-below t c =
    let child : Node = get_or c.children-child-items.result.now c.loop-child.child-index no_node in
    Contains-same child (c.children-child-items.ensures ∙ ap children_of c.node.ensures)
    (Contains-get_or c.children-child-items.result.now c.loop-child.child-index no_node c.loop-child-test.true)

pub accounts-requires : goal.accounts-requires
accounts-requires t c = λ account found.
    let case = c.requires.asked in
    let items = c.children-child-items.result.now in
    let reach = c.args.reach.now in
    let i = c.loop-child.child-index in
    let child : Node = get_or items i no_node in
    let same : items ≡ children_of reach.node = c.children-child-items.ensures ∙ ap children_of c.node.ensures in
    let is : child ≡ get_or (children_of reach.node) i child =
    sym (at_itself items i no_node) ∙ ap (λ (l : List Node). get_or l i child) same in
    let within : i < length (children_of reach.node) =
    subst (λ (l : List Node). i < length l) same c.loop-child-test.true in
    let on : goes_on case.question case.support case.history child ≡ true =
    sym (c.in-Some.ensures.some case.question case.support case.history case.reached) in
    let opens = (c.loop-child.invariant case).0 in
    let are = opens.after (move_of child)
    (next_contained c.args.ledger.now reach c.args.accounts.now case child on) in
    let fit = are.fit account (subst (λ (m : ClassMove).
    Contains (accounts_after c.loop-child.turn-1 c.args.accounts.now m) account) c.mv.ensures found) in
    let row = fit.row in
    let rows = opens.extends.rows in
    let room = room_rows c.args.ledger.now reach c.args.accounts.now case in
    omega (arith, row, rows, room)

pub mass-requires : goal.mass-requires
mass-requires t c =
    let case = c.requires.asked in
    let items = c.children-child-items.result.now in
    let reach = c.args.reach.now in
    let i = c.loop-child.child-index in
    let child : Node = get_or items i no_node in
    let same : items ≡ children_of reach.node = c.children-child-items.ensures ∙ ap children_of c.node.ensures in
    let is : child ≡ get_or (children_of reach.node) i child =
    sym (at_itself items i no_node) ∙ ap (λ (l : List Node). get_or l i child) same in
    let within : i < length (children_of reach.node) =
    subst (λ (l : List Node). i < length l) same c.loop-child-test.true in
    let on : goes_on case.question case.support case.history child ≡ true =
    sym (c.in-Some.ensures.some case.question case.support case.history case.reached) in
    let asked = c.loop-child.invariant case in
    let parts = ap (λ (l : List ClassMove). length l)
    (next_parts c.args.ledger.now reach c.args.accounts.now case i child within is on)
    ∙ length-append (done c.args.ledger.now reach c.args.accounts.now case (take i (children_of reach.node)))
    (move_of child ∷ done c.args.ledger.now reach c.args.accounts.now case (drop (i + 1) (children_of reach.node))) in
    let count = asked.2 in
    asked.0.few c.loop-child.passed (omega (arith, parts, count))

pub overflow_add-passed : goal.overflow_add-passed
overflow_add-passed t c =
    let case = c.requires.asked in
    let items = c.children-child-items.result.now in
    let reach = c.args.reach.now in
    let i = c.loop-child.child-index in
    let child : Node = get_or items i no_node in
    let same : items ≡ children_of reach.node = c.children-child-items.ensures ∙ ap children_of c.node.ensures in
    let is : child ≡ get_or (children_of reach.node) i child =
    sym (at_itself items i no_node) ∙ ap (λ (l : List Node). get_or l i child) same in
    let within : i < length (children_of reach.node) =
    subst (λ (l : List Node). i < length l) same c.loop-child-test.true in
    let on : goes_on case.question case.support case.history child ≡ true =
    sym (c.in-Some.ensures.some case.question case.support case.history case.reached) in
    let asked = c.loop-child.invariant case in
    let parts = ap (λ (l : List ClassMove). length l)
    (next_parts c.args.ledger.now reach c.args.accounts.now case i child within is on)
    ∙ length-append (done c.args.ledger.now reach c.args.accounts.now case (take i (children_of reach.node)))
    (move_of child ∷ done c.args.ledger.now reach c.args.accounts.now case (drop (i + 1) (children_of reach.node))) in
    let count = asked.2 in
    let few = next_few case.question case.support case.history in
    let all : c.loop-child.passed + 1 < 2 ^ 32 = omega (arith, parts, count, few) in
    search rules

pub overflow_sub-more : goal.overflow_sub-more
overflow_sub-more t c =
    let case = c.requires.asked in
    let items = c.children-child-items.result.now in
    let reach = c.args.reach.now in
    let i = c.loop-child.child-index in
    let child : Node = get_or items i no_node in
    let same : items ≡ children_of reach.node = c.children-child-items.ensures ∙ ap children_of c.node.ensures in
    let is : child ≡ get_or (children_of reach.node) i child =
    sym (at_itself items i no_node) ∙ ap (λ (l : List Node). get_or l i child) same in
    let within : i < length (children_of reach.node) =
    subst (λ (l : List Node). i < length l) same c.loop-child-test.true in
    let on : goes_on case.question case.support case.history child ≡ true =
    sym (c.in-Some.ensures.some case.question case.support case.history case.reached) in
    let asked = c.loop-child.invariant case in
    let below = c.requires.left in
    let short = child_short below.question below.support below.history reach below.reached child
    (Contains-same child same (Contains-get_or items i no_node c.loop-child-test.true)) in
    let left = below.left in
    omega (arith, short, left)

pub write-requires : goal.write-requires
write-requires t c =
    let case = c.requires.asked in
    let items = c.children-child-items.result.now in
    let reach = c.args.reach.now in
    let i = c.loop-child.child-index in
    let child : Node = get_or items i no_node in
    let same : items ≡ children_of reach.node = c.children-child-items.ensures ∙ ap children_of c.node.ensures in
    let is : child ≡ get_or (children_of reach.node) i child =
    sym (at_itself items i no_node) ∙ ap (λ (l : List Node). get_or l i child) same in
    let within : i < length (children_of reach.node) =
    subst (λ (l : List Node). i < length l) same c.loop-child-test.true in
    let on : goes_on case.question case.support case.history child ≡ true =
    sym (c.in-Some.ensures.some case.question case.support case.history case.reached) in
    let asked = c.loop-child.invariant case in
    let below = c.requires.left in
    let short = child_short below.question below.support below.history reach below.reached child
    (Contains-same child same (Contains-get_or items i no_node c.loop-child-test.true)) in
    let left = below.left in (
      omega (arith, c.decreases, short, left),
      (
        child_asked c.args.ledger.now reach c.args.accounts.now case c.args.mass c.loop-child.turn-1 c.open.new.ledger
            c.loop-child.ledger
            (done c.args.ledger.now reach c.args.accounts.now case (take i (children_of reach.node)))
            (done c.args.ledger.now reach c.args.accounts.now case (drop (i + 1) (children_of reach.node)))
            (move_of child) c.in-Some.next c.deref.result.now asked.0 asked.1
            (next_parts c.args.ledger.now reach c.args.accounts.now case i child within is on)
            (next_contained c.args.ledger.now reach c.args.accounts.now case child on)
            (c.in-Some.ensures.next case.question case.support case.history case.reached)
            (c.deref.ensures.value ∙ c.in_ok-after.ensures
            ∙ ap (λ (m : ClassMove). accounts_after c.loop-child.turn-1 c.args.accounts.now m) c.mv.ensures),
        record {
          question = below.question;
          support = below.support;
          history = below.history ++ move_of child ∷ [];
          reached = c.in-Some.ensures.next below.question below.support below.history below.reached;
          left = let longer = length-append below.history (move_of child ∷ []) in omega (arith, left, short, longer);
        },
      ),
    )

pub loop-child-preserved-in_default : goal.loop-child-preserved-in_default
loop-child-preserved-in_default t c = λ case.
    let items = c.children-child-items.result.now in
    let reach = c.args.reach.now in
    let i = c.loop-child.child-index in
    let child : Node = get_or items i no_node in
    let same : items ≡ children_of reach.node = c.children-child-items.ensures ∙ ap children_of c.node.ensures in
    let is : child ≡ get_or (children_of reach.node) i child =
    sym (at_itself items i no_node) ∙ ap (λ (l : List Node). get_or l i child) same in
    let within : i < length (children_of reach.node) =
    subst (λ (l : List Node). i < length l) same c.loop-child-test.true in
    let off : goes_on case.question case.support case.history child ≡ false =
    sym (c.in_default.ensures.some case.question case.support case.history case.reached) in
    let asked = c.loop-child.invariant case in
    let past = sym (done_past c.args.ledger.now reach c.args.accounts.now case (children_of reach.node) i child within
    is off) in (
      asked.0,
      subst (λ (l : List ClassMove). ArePassed case.question case.support case.history c.args.mass c.args.accounts.now
          c.loop-child.turn-1 c.open.new.ledger c.loop-child.ledger l) past asked.1,
      subst (λ (l : List ClassMove). c.loop-child.passed ≡ length l) past asked.2,
    )

pub loop-child-preserved : goal.loop-child-preserved
unfolding child_asked
loop-child-preserved t c = λ case.
    let items = c.children-child-items.result.now in
    let reach = c.args.reach.now in
    let i = c.loop-child.child-index in
    let child : Node = get_or items i no_node in
    let same : items ≡ children_of reach.node = c.children-child-items.ensures ∙ ap children_of c.node.ensures in
    let is : child ≡ get_or (children_of reach.node) i child =
    sym (at_itself items i no_node) ∙ ap (λ (l : List Node). get_or l i child) same in
    let within : i < length (children_of reach.node) =
    subst (λ (l : List Node). i < length l) same c.loop-child-test.true in
    let on : goes_on case.question case.support case.history child ≡ true =
    sym (c.in-Some.ensures.some case.question case.support case.history case.reached) in
    let asked = c.loop-child.invariant case in
    let before : List ClassMove = done c.args.ledger.now reach c.args.accounts.now case
    (take i (children_of reach.node)) in
    let by = c.deref.ensures.value ∙ c.in_ok-after.ensures
    ∙ ap (λ (m : ClassMove). accounts_after c.loop-child.turn-1 c.args.accounts.now m) c.mv.ensures in
    let below = child_asked c.args.ledger.now reach c.args.accounts.now case c.args.mass c.loop-child.turn-1
    c.open.new.ledger c.loop-child.ledger before
    (done c.args.ledger.now reach c.args.accounts.now case (drop (i + 1) (children_of reach.node)))
    (move_of child) c.in-Some.next c.deref.result.now asked.0 asked.1
    (next_parts c.args.ledger.now reach c.args.accounts.now case i child within is on)
    (next_contained c.args.ledger.now reach c.args.accounts.now case child on)
    (c.in-Some.ensures.next case.question case.support case.history case.reached) by in
    let written = subst (λ (l : List Account). IsWritten case.question case.support
    (case.history ++ move_of child ∷ []) (mass_after c.loop-child.turn-1 c.args.mass (length before)) l
    c.loop-child.ledger c.write.new.ledger) by
    (subst (λ (n : ℕ). IsWritten case.question case.support (case.history ++ move_of child ∷ []) n c.deref.result.now
    c.loop-child.ledger c.write.new.ledger)
    (c.mass.ensures ∙ ap (λ (n : ℕ). mass_after c.loop-child.turn-1 c.args.mass n) asked.2)
    (c.in_ok-write.ensures below))
    in
    let more = done_more c.args.ledger.now reach c.args.accounts.now case
    (children_of reach.node) i child within is on in
    let counted = length-append before (move_of child ∷ []) in
    let count = asked.2 in (
      asked.0,
      subst (λ (l : List ClassMove). ArePassed case.question case.support case.history c.args.mass c.args.accounts.now
          c.loop-child.turn-1 c.open.new.ledger c.write.new.ledger l) (sym more)
          (passed_more case.question case.support case.history c.args.mass c.args.accounts.now c.loop-child.turn-1
          c.open.new.ledger c.loop-child.ledger c.write.new.ledger before (move_of child) asked.1 written),
      subst (λ (l : List ClassMove). c.loop-child.passed + 1 ≡ length l) (sym more) (omega (arith, count, counted)),
    )

pub returns : goal.returns
returns t c = λ case.
    let reach = c.args.reach.now in
    let same = c.children-child-items.ensures ∙ ap children_of c.node.ensures in
    let asked = c.loop-child.invariant case in
    all_written case.question case.support case.history c.args.mass c.args.accounts.now c.loop-child.turn-1
    c.args.ledger.now c.open.new.ledger c.loop-child.ledger
    (go_on case.question case.support case.history reach case.reached) asked.0
    (subst (λ (l : List ClassMove). ArePassed case.question case.support case.history c.args.mass c.args.accounts.now
    c.loop-child.turn-1 c.open.new.ledger c.loop-child.ledger l)
    (done_all c.args.ledger.now reach c.args.accounts.now case c.loop-child.child-index
    (subst (λ (l : List Node). length l ≤ c.loop-child.child-index) same c.loop-child-test.false)) asked.1)
