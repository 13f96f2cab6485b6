use Rattle.std.proofs.Common.{List, sym, ap, ◌∙◌}
use Rattle.suit_cards.specs.Cards.{ClassLayout}
use Rattle.suit_classes.specs.declared.class_moves.ClassMove.{ClassMove}
use Rattle.suit_classes.specs.WhatIsAllowed.{is_among}
use Rattle.suit_classes.specs.ClassPlaces.{class_moves}
use Rattle.suit_lines.proofs.LookingForMoves.{having_kept, having_left, having_none}
use Rattle.suit_lines.proofs.moves.having.Goals as goal
use Rattle.suit_lines.proofs.moves.having.Goals.{then-is_among+in_ok-push, else-is_among}

pub loop-layout-init : goal.loop-layout-init
loop-layout-init c =
    having_none (λ layout. layout.now) c.args.place.now c.args.mv c.new-kept.result.items c.new-kept.ensures.items

pub loop-layout-preserved : goal.loop-layout-preserved
loop-layout-preserved c =
    let among =
    c.is_among.ensures
    ∙ ap (λ (l : List ClassMove). is_among l c.args.mv) (c.as_slice.ensures.value ∙ c.moves.ensures.value
    ∙ ap (λ (west : ClassLayout). class_moves c.args.place.now west) c.counts.ensures.value) in
    elim c.if-is_among.branch [
      | then-is_among+in_ok-push w ↦
          having_kept (λ layout. layout.now) c.args.place.now c.args.mv c.args.layouts.now c.loop-layout.layout-index
          c.layout-item.result c.loop-layout.kept.items c.loop-layout-test.true c.layout-item.is
          c.loop-layout.invariant c.if-is_among.kept.items (sym among ∙ w.if-is_among.true)
          (ap (λ v. v.items) w.kept-is ∙ w.in_ok-push.ensures.items)
      | else-is_among w ↦
          having_left (λ layout. layout.now) c.args.place.now c.args.mv c.args.layouts.now c.loop-layout.layout-index
          c.layout-item.result c.loop-layout.kept.items c.loop-layout-test.true c.layout-item.is
          c.loop-layout.invariant c.if-is_among.kept.items (sym among ∙ w.if-is_among.false)
          (ap (λ v. v.items) w.kept-is)
    ]
