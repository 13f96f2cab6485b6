use Rattle.std.proofs.Common.{◌∙◌, ◌+◌, ◌++◌, ℕ, ℤ, Bool, drop, filter, get_or, map, pos, sym, ap, rules, SFits}
use Rattle.std.proofs.Common.{to_z, of_z}
use Rattle.std.specs.Int.{w128}
use Rattle.std.proofs.lemmas.Int.{to_z-of_z}
use Rattle.std.proofs.lemmas.List.{append-nil}
use Rattle.suit_lists.proofs.Walks.{kept_end, kept_past, one_kept}
use Rattle.suit_tree.specs.Nodes.{children_of, holds_index, move_of}
use Rattle.suit_reply.specs.AgainstDefence.{LayoutMasses, is_live, layout_share}
use Rattle.suit_reply.proofs.against_defence.AgainstDefence.shared.Goals as goal
use Rattle.suit_reply.proofs.against_defence.AgainstDefence.shared.Goals.{then-holds+in_ok-add_live, else-holds}

pub loop-held-init : goal.loop-held-init
loop-held-init c =
    let shares : ℕ × ℤ → ℕ × ℤ =
    layout_share c.args.self.now.layouts.now c.args.self.now.rows.now (children_of c.args.node.now) c.args.history.now
    (move_of c.args.child.now) in
    ap (λ (l : LayoutMasses). l ++ filter is_live
    (map shares (filter (λ held. holds_index held.0 c.args.child.now) c.args.masses.now))) c.new-passed.ensures.items

pub share-mass-requires-clause-index : goal.share-mass-requires-clause-index
share-mass-requires-clause-index c = c.requires.indices c.loop-held.held-index (0, pos 0) c.loop-held-test.true

pub loop-held-preserved : goal.loop-held-preserved
loop-held-preserved c =
    let shares : ℕ × ℤ → ℕ × ℤ =
    layout_share c.args.self.now.layouts.now c.args.self.now.rows.now (children_of c.args.node.now) c.args.history.now
    (move_of c.args.child.now) in
    let goes : ℕ × ℤ → Bool = λ held. holds_index held.0 c.args.child.now in
    let masses = c.args.masses.now in
    let index = c.loop-held.held-index in
    let held = get_or masses index (0, pos 0) in
    elim c.if-holds.branch [
      | then-holds+in_ok-add_live w ↦
          let mass : SFits w128 held.1 = search rules in
          let result : SFits w128 w.share-mass.result = search rules in
          let same =
          ap (λ (z : ℤ). (held.0, z)) (to_z-of_z w128 w.share-mass.result result)
          ∙ w.share-mass.ensures
          ∙ ap (λ m. layout_share c.args.self.now.layouts.now c.args.self.now.rows.now (children_of c.args.node.now)
          c.args.history.now m (held.0, to_z w128 (of_z w128 held.1))) w.mv.ensures
          ∙ ap (λ (z : ℤ). shares (held.0, z)) (to_z-of_z w128 held.1 mass) in
          one_kept is_live goes shares c.loop-held.passed.items c.if-holds.passed.items masses index (0, pos 0) _
          c.loop-held-test.true w.if-holds.ensures same
          (ap (λ v. v.items) w.passed-is ∙ w.in_ok-add_live.ensures)
          ∙ c.loop-held.invariant
      | else-holds w ↦
          ap (λ v. v.items ++ filter is_live (map shares (filter goes (drop (index + 1) masses)))) w.passed-is
          ∙ ap (λ (l : LayoutMasses). c.loop-held.passed.items ++ filter is_live (map shares l))
          (sym (kept_past goes masses index (0, pos 0) c.loop-held-test.true w.if-holds.ensures))
          ∙ c.loop-held.invariant
    ]

pub returns : goal.returns
returns c =
    let shares : ℕ × ℤ → ℕ × ℤ =
    layout_share c.args.self.now.layouts.now c.args.self.now.rows.now (children_of c.args.node.now) c.args.history.now
    (move_of c.args.child.now) in
    sym (append-nil c.loop-held.passed.items)
    ∙ ap (λ (l : LayoutMasses). c.loop-held.passed.items ++ filter is_live (map shares l))
    (sym (kept_end (λ (held : ℕ × ℤ). holds_index held.0 c.args.child.now) c.args.masses.now c.loop-held.held-index
    c.loop-held-test.false))
    ∙ c.loop-held.invariant
