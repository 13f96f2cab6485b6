use Rattle.std.proofs.Common.{◌≡◌, ◌∙◌, ℕ, ◌<◌, true, false, sym, ap, subst, arith, List, Option, None}
use Rattle.std.proofs.Common.{[], ◌∷◌, ◌++◌, append-nil, get_or, length, length-append, refl}
use Rattle.std.specs.Prelude.{ℤ}
use Rattle.suit_lists.proofs.Walks.{one_off}
use Rattle.suit_classes.specs.ClassMoves.{ClassHistory}
use Rattle.suit_plans.specs.Masses.{Shares}
use Rattle.suit_tree.specs.Nodes.{children_of, move_of}
use Rattle.suit_program.specs.Walks.DefenceLists.{AreShared}
use Rattle.suit_program.specs.Walks.DefenceWalks.{their_row_of}
use Rattle.suit_program.specs.Readings.Sharing.{AreThrough}
use Rattle.suit_program.proofs.lemmas.Walks.DefenceGoesOn.{first_after, first_rows, last_after, last_rows, more_after}
use Rattle.suit_program.proofs.lemmas.Walks.DefenceGoesOn.{more_rows, next_stop, next_stops, rows_within}
use Rattle.suit_program.proofs.lemmas.Walks.NoNode.{no_node}
use Rattle.suit_program.proofs.lemmas.Walks.WhatAWalkGathers.{room_below}
use Rattle.suit_program.proofs.walks.defence_walk.DefenceWalk.+below.Goals as goal
use Rattle.suit_program.proofs.walks.defence_walk.DefenceWalk.+below.Goals.{
  in-Some+in_ok-passed+in_ok-push+in_ok-after,
  in_default,
}

pub shares-requires : goal.shares-requires
shares-requires t c = record {
  many = c.requires.stops.many;
  each = λ index reader mass below. (c.requires.stops.each index reader mass below).turn;
}

pub past-after-requires : goal.past-after-requires
past-after-requires t c =
    let stops = c.requires.stops in
    rows_within stops.question stops.support stops.told c.args.reach.now stops.reached c.args.row
    c.args.self.now.prices.now stops.long stops.rows c.rows_here.result
    (c.rows_here.ensures stops.question stops.support stops.told stops.reached)

pub loop-child-init : goal.loop-child-init
loop-child-init t c =
    let reach = c.args.reach.now in
    let history = c.args.history.now.items in
    let row = c.args.row in
    record {
      kept = refl;
      many = c.in_ok-add_rows.ensures.lists;
      after = λ question support told is.
          first_after question support told reach is row c.rows_here.result c.past-after.result
          (c.rows_here.ensures question support told is) c.past-after.ensures;
      rows = λ index reader mass list below stop.
          first_rows (get_or c.args.self.now.readers.now index reader) reach history row
          (get_or c.args.masses.now index mass) stop (get_or c.args.lists.now.items index list).items
          (get_or c.add_rows.new.lists.items index list).items (get_or c.as_slice-held.result.now index None)
          (c.in_ok-add_rows.ensures.added index reader mass None list below
          ∙ ap (λ (h : ClassHistory). (get_or c.args.lists.now.items index list).items
          ++ their_row_of (get_or c.args.self.now.readers.now index reader).west.now h
          (get_or c.args.masses.now index mass) (get_or c.as_slice-held.result.now index None))
          c.as_slice.ensures.value)
          (ap (λ (l : List (Option Shares)). get_or l index None) c.as_slice-held.ensures.value
          ∙ c.in_ok-shares.ensures.each index reader mass None below stop.turn);
    }

pub below-requires : goal.below-requires
below-requires t c =
    let walk = c.args.self.now in
    let reach = c.args.reach.now in
    let masses = c.args.masses.now in
    let stops = c.requires.stops in
    let nodes = c.children-child-items.result.now in
    let same = c.children-child-items.ensures ∙ ap children_of c.node-node.ensures in
    let i = c.loop-child.child-index in
    let history = c.args.history.now.items in
    let short = room_below stops.question stops.support stops.told reach stops.reached nodes same i
    c.loop-child-test.true in
    let here = stops.here in
    let pushed : c.push.new.self.items ≡ history ++ c.mv-mv.result ∷ [] =
    c.in_ok-push.ensures.items
    ∙ ap (λ (h : ClassHistory). h ++ c.mv-mv.result ∷ []) c.loop-child.invariant.kept in (
      omega (
        arith,
        c.decreases,
        short,
        ap (λ (h : ClassHistory). length h) here,
        ap (λ (h : ClassHistory). length h) pushed,
        length-append history (c.mv-mv.result ∷ []),
      ),
      (
        next_stops walk reach history c.args.row masses stops nodes same i c.loop-child-test.true c.in-Some.next
            c.in-Some.ensures.some c.in-Some.ensures.next c.loop-child.after c.loop-child.invariant.after
            c.mv-mv.result c.mv-mv.ensures c.as_slice-held.result.now
            (subst (AreShared walk reach c.args.row masses (length walk.readers.now))
            (sym c.as_slice-held.ensures.value) c.in_ok-shares.ensures.each) c.deref.result.now
            (ap (λ (l : List ℤ). length l) c.deref.ensures.value ∙ c.in_ok-passed.ensures.long)
            (subst (AreThrough c.as_slice-held.result.now masses c.mv-mv.result (length masses))
            (sym c.deref.ensures.value) c.in_ok-passed.ensures.each) c.push.new.self.items pushed,
        c.loop-child.invariant.many ∙ c.requires.lists,
      ),
    )

pub loop-child-preserved : goal.loop-child-preserved
loop-child-preserved t c =
    let walk = c.args.self.now in
    let reach = c.args.reach.now in
    let row = c.args.row in
    let masses = c.args.masses.now in
    let nodes = c.children-child-items.result.now in
    let same = c.children-child-items.ensures ∙ ap children_of c.node-node.ensures in
    let i = c.loop-child.child-index in
    let history = c.args.history.now.items in
    let held = c.as_slice-held.result.now in
    let many = c.requires.stops.many in
    let shared : AreShared walk reach row masses (length walk.readers.now) held =
    subst (AreShared walk reach row masses (length walk.readers.now))
    (sym c.as_slice-held.ensures.value) c.in_ok-shares.ensures.each in
    elim c.match-child.branch [
      | in-Some+in_ok-passed+in_ok-push+in_ok-after w ↦
          let pushed : w.push.new.self.items ≡ history ++ w.mv-mv.result ∷ [] =
          w.in_ok-push.ensures.items
          ∙ ap (λ (h : ClassHistory). h ++ w.mv-mv.result ∷ []) c.loop-child.invariant.kept in
          let gives : AreThrough held masses w.mv-mv.result (length masses) w.deref.result.now =
          subst (AreThrough held masses w.mv-mv.result (length masses)) (sym w.deref.ensures.value)
          w.in_ok-passed.ensures.each in
          record {
            kept = ap (λ v. v.items) w.history-is
                ∙ one_off history w.below.new.history.items w.pop.new.self.items w.mv-mv.result _
                (w.in_ok-after.ensures.kept ∙ pushed) w.below.new.history.ok.0 w.pop.ensures.rest;
            many = ap (λ v. length v.items) w.lists-is ∙ w.in_ok-after.ensures.lists ∙ c.loop-child.invariant.many;
            after = λ question support told is.
                w.after-is
                ∙ more_after question support told reach is row nodes i c.loop-child-test.true true
                (w.in-Some.ensures.some question support told is) c.loop-child.after w.in_ok-after.after
                (c.loop-child.invariant.after question support told is)
                (w.in_ok-after.ensures.row question support (told ++ move_of (get_or nodes i no_node) ∷ [])
                (w.in-Some.ensures.next question support told is));
            rows = λ index reader mass list below stop.
                let turn = stop.turn in
                let one = get_or walk.readers.now index reader in
                let whole = get_or masses index mass in
                let goes = w.in-Some.ensures.some turn.question turn.support turn.history turn.reached in
                let next = next_stop one reach history row whole stop nodes same i c.loop-child-test.true
                w.in-Some.next goes (w.in-Some.ensures.next turn.question turn.support turn.history turn.reached)
                c.loop-child.after
                (c.loop-child.invariant.after turn.question turn.support turn.history turn.reached)
                w.mv-mv.result w.mv-mv.ensures (get_or held index None)
                (shared index reader mass None below turn) (get_or w.deref.result.now index mass)
                (gives index None mass mass (subst (λ (n : ℕ). index < n) (sym many) below))
                w.push.new.self.items pushed in
                ap (λ v. (get_or v.items index list).items) w.lists-is
                ∙ more_rows one reach history row whole stop nodes same i c.loop-child-test.true true goes
                (get_or c.args.lists.now.items index list).items (get_or c.loop-child.lists.items index list).items
                (get_or w.below.new.lists.items index list).items
                (c.loop-child.invariant.rows index reader mass list below stop)
                (w.in_ok-after.ensures.rows index reader mass list below next);
          }
      | in_default w ↦ record {
        kept = ap (λ v. v.items) w.history-is ∙ c.loop-child.invariant.kept;
        many = ap (λ v. length v.items) w.lists-is ∙ c.loop-child.invariant.many;
        after = λ question support told is.
            w.after-is
            ∙ more_after question support told reach is row nodes i c.loop-child-test.true false
            (w.in_default.ensures.some question support told is) c.loop-child.after c.loop-child.after
            (c.loop-child.invariant.after question support told is) (omega arith);
        rows = λ index reader mass list below stop.
            let turn = stop.turn in
            ap (λ v. (get_or v.items index list).items) w.lists-is
            ∙ more_rows (get_or walk.readers.now index reader) reach history row (get_or masses index mass) stop nodes
            same i c.loop-child-test.true false
            (w.in_default.ensures.some turn.question turn.support turn.history turn.reached)
            (get_or c.args.lists.now.items index list).items (get_or c.loop-child.lists.items index list).items
            (get_or c.loop-child.lists.items index list).items
            (c.loop-child.invariant.rows index reader mass list below stop)
            (sym (append-nil (get_or c.loop-child.lists.items index list).items));
      }
    ]

pub returns-clause-row : goal.returns-clause-row
returns-clause-row t c = λ question support told is.
    last_after question support told c.args.reach.now is c.args.row c.children-child-items.result.now
    (c.children-child-items.ensures ∙ ap children_of c.node-node.ensures) c.loop-child.child-index
    c.loop-child-test.false c.loop-child.after (c.loop-child.invariant.after question support told is)

pub returns-clause-rows : goal.returns-clause-rows
returns-clause-rows t c = λ index reader mass list below stop.
    last_rows (get_or c.args.self.now.readers.now index reader) c.args.reach.now c.args.history.now.items c.args.row
    (get_or c.args.masses.now index mass) stop c.children-child-items.result.now
    (c.children-child-items.ensures ∙ ap children_of c.node-node.ensures) c.loop-child.child-index
    c.loop-child-test.false (get_or c.args.lists.now.items index list).items
    (get_or c.loop-child.lists.items index list).items (c.loop-child.invariant.rows index reader mass list below stop)
