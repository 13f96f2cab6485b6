use Rattle.std.proofs.Common.{◌≡◌, ◌∙◌, ◌-◌, ◌≤◌, ℕ, Bool, true, false, cond, sym, ap, subst, get_or}
use Rattle.std.proofs.Common.{arith, length, map}
use Rattle.std.proofs.Common.{List, [], ◌∷◌, ◌++◌, append_assoc, append-nil, take}
use Rattle.suit_classes.specs.ClassMoves.{ClassHistory}
use Rattle.suit_tree.specs.declared.node.Node.{Node}
use Rattle.suit_tree.specs.Nodes.{children_of, move_of}
use Rattle.suit_program.specs.declared.walks.reach.Reach.{Reach}
use Rattle.suit_program.specs.Programs.{columns_at}
use Rattle.suit_program.specs.Readings.{is_passed}
use Rattle.suit_program.specs.Walks.{IsWalkAt, walked}
use Rattle.suit_program.proofs.lemmas.Walks.NoNode.{no_node}
use Rattle.suit_program.proofs.lemmas.Walks.WhatAWalkGathers.{gathered, gathered_first, gathered_last, gathered_more}
use Rattle.suit_program.proofs.lemmas.Walks.WhatAWalkGathers.{room_below}
use Rattle.suit_program.proofs.lemmas.Walks.WhatAWalkGathers.{room_less}
use Rattle.suit_program.proofs.walks.columns.+add_below.Goals as goal
use Rattle.suit_program.proofs.walks.columns.+add_below.Goals.{in-Some+in_ok-add_below, in_default}

abbrev passed_at : {reach : Reach} {more : ℕ} → IsWalkAt reach more → ClassHistory → List Bool
passed_at at = λ history. map is_passed (columns_at at.question at.support history)

pub overflow_sub-more : goal.overflow_sub-more
overflow_sub-more t c =
    let at = c.requires in
    let short = room_below at.question at.support at.history c.args.reach.now at.reached
    c.children-child-items.result.now
    (c.children-child-items.ensures ∙ ap children_of c.node-node.ensures) c.loop-child.child-index
    c.loop-child-test.true in
    let room = at.room in
    omega (arith, short, room)

pub add_below-requires : goal.add_below-requires
add_below-requires t c =
    let at = c.requires in
    let short = room_below at.question at.support at.history c.args.reach.now at.reached
    c.children-child-items.result.now
    (c.children-child-items.ensures ∙ ap children_of c.node-node.ensures) c.loop-child.child-index
    c.loop-child-test.true in
    let room = at.room in
    let child = get_or c.children-child-items.result.now c.loop-child.child-index no_node in (
      omega (arith, c.decreases, short, room),
      record {
        question = at.question;
        support = at.support;
        history = at.history ++ move_of child ∷ [];
        reached = c.in-Some.ensures.next at.question at.support at.history at.reached;
        room = room_less at.question at.support at.history (move_of child) c.args.more short room;
      },
    )

pub loop-child-init : goal.loop-child-init
loop-child-init t c = λ at.
    c.in_ok-add_here.ensures at.question at.support at.history at.reached
    ∙ ap (λ (l : List Bool). c.args.passed.now.items ++ l)
    (sym (gathered_first (passed_at at) at.question at.support at.history))

-- what is gathered with a node more
with_more : (goes : Bool) (old now more before under : List Bool) → now ≡ old ++ before → more ≡ now ++ cond goes
    under []
    → more ≡ old ++ (before ++ cond goes under [])
with_more goes old now more before under so_far is =
    is ∙ ap (λ (l : List Bool). l ++ cond goes under []) so_far ∙ append_assoc old before (cond goes under [])

pub loop-child-preserved : goal.loop-child-preserved
loop-child-preserved t c = λ at.
    let nodes = c.children-child-items.result.now in
    let i = c.loop-child.child-index in
    let child = get_or nodes i no_node in
    let short = room_below at.question at.support at.history c.args.reach.now at.reached nodes
    (c.children-child-items.ensures ∙ ap children_of c.node-node.ensures) i c.loop-child-test.true in
    let before = gathered (passed_at at) at.question at.support at.history (take i nodes) in
    let under = walked (passed_at at) at.question at.support (at.history ++ move_of child ∷ []) in
    elim c.match-child.branch [
      | in-Some+in_ok-add_below w ↦
          let goes = w.in-Some.ensures.some at.question at.support at.history at.reached in
          let next : IsWalkAt w.in-Some.next (c.args.more - 1) = record {
            question = at.question;
            support = at.support;
            history = at.history ++ move_of child ∷ [];
            reached = w.in-Some.ensures.next at.question at.support at.history at.reached;
            room = room_less at.question at.support at.history (move_of child) c.args.more short at.room;
          } in
          ap (λ v. v.items) w.passed-is
          ∙ with_more true c.args.passed.now.items c.loop-child.passed.items w.add_below.new.passed.items before under
          (c.loop-child.invariant at) (w.in_ok-add_below.ensures next)
          ∙ ap (λ (b : Bool). c.args.passed.now.items ++ (before ++ cond b under [])) goes
          ∙ ap (λ (l : List Bool). c.args.passed.now.items ++ l)
          (sym (gathered_more (passed_at at) at.question at.support at.history nodes i no_node c.loop-child-test.true))
      | in_default w ↦
          let stays = w.in_default.ensures.some at.question at.support at.history at.reached in
          ap (λ v. v.items) w.passed-is
          ∙ with_more false c.args.passed.now.items c.loop-child.passed.items c.loop-child.passed.items before under
          (c.loop-child.invariant at) (sym (append-nil c.loop-child.passed.items))
          ∙ ap (λ (b : Bool). c.args.passed.now.items ++ (before ++ cond b under [])) stays
          ∙ ap (λ (l : List Bool). c.args.passed.now.items ++ l)
          (sym (gathered_more (passed_at at) at.question at.support at.history nodes i no_node c.loop-child-test.true))
    ]

pub returns : goal.returns
returns t c = λ at.
    c.loop-child.invariant at
    ∙ ap (λ (l : List Bool). c.args.passed.now.items ++ l)
    (ap (λ (nodes : List Node). gathered (passed_at at) at.question at.support at.history (take
    c.loop-child.child-index nodes))
    (c.children-child-items.ensures ∙ ap children_of c.node-node.ensures)
    ∙ gathered_last (passed_at at) at.question at.support at.history c.args.reach.now at.reached
    c.loop-child.child-index
    (subst (λ (nodes : List Node). length nodes ≤ c.loop-child.child-index)
    (c.children-child-items.ensures ∙ ap children_of c.node-node.ensures) c.loop-child-test.false))
