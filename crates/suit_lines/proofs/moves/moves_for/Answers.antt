use Rattle.std.proofs.Common.{append-nil, map, sym, ap, ◌∙◌, true, false, arith}
use Rattle.std.specs.Prelude.{filter}
use Rattle.std.specs.List.{list_any}
use Rattle.std.proofs.lemmas.List.{take_all}
use Rattle.suit_lists.proofs.Walks.{filter_next}
use Rattle.suit_cards.specs.declared.seats.Seat.TheVariants.{N}
use Rattle.suit_classes.specs.declared.class_moves.ClassMove.TheVariants.{Lead}
use Rattle.suit_classes.specs.WhatIsAllowed.{is_among}
use Rattle.suit_lines.specs.Walks.{some_have}
use Rattle.suit_lines.proofs.LookingForMoves.{moves_decided, moves_going, offered}
use Rattle.suit_lines.proofs.moves.moves_for.Goals as goal
use Rattle.suit_lines.proofs.moves.moves_for.Goals.{then-is_offered+in_ok-push, else-is_offered}

pub returns-then-decided : goal.returns-then-decided
returns-then-decided c =
    moves_decided c.args.place.now (map (λ layout. layout.now) c.args.layouts.now) c.new-moves.result.items
    c.new-moves.ensures.items c.if-decided.ensures.value

pub loop-mv-preserved : goal.loop-mv-preserved
loop-mv-preserved c =
    let told = c.is_offered.ensures
    ∙ ap (list_any (λ offer. is_among offer.items _)) c.deref.ensures.value
    ∙ offered (λ offer. offer.items) (λ layout. layout.now) c.args.place.now c.in_ok-offers.offers.items
    c.args.layouts.now _ c.in_ok-offers.ensures in
    elim c.if-is_offered.branch [
      | then-is_offered+in_ok-push w ↦
          filter_next (some_have c.args.place.now (map (λ layout. layout.now) c.args.layouts.now))
          c.as_slice-mv-items.result.now c.loop-mv.mv-index (Lead N 0) c.loop-mv.moves.items c.if-is_offered.moves.items
          true c.loop-mv-test.true c.loop-mv.invariant (sym told ∙ w.if-is_offered.true)
          (ap (λ v. v.items) w.moves-is ∙ w.in_ok-push.ensures.items)
      | else-is_offered w ↦
          filter_next (some_have c.args.place.now (map (λ layout. layout.now) c.args.layouts.now))
          c.as_slice-mv-items.result.now c.loop-mv.mv-index (Lead N 0) c.loop-mv.moves.items c.if-is_offered.moves.items
          false c.loop-mv-test.true c.loop-mv.invariant (sym told ∙ w.if-is_offered.false)
          (ap (λ v. v.items) w.moves-is ∙ sym (append-nil c.loop-mv.moves.items))
    ]

pub returns : goal.returns
returns c =
    moves_going c.args.place.now (map (λ layout. layout.now) c.args.layouts.now) c.loop-mv.moves.items
    (c.loop-mv.invariant
    ∙ ap (filter (some_have c.args.place.now (map (λ layout. layout.now) c.args.layouts.now)))
    (take_all c.loop-mv.mv-index c.as_slice-mv-items.result.now (omega arith) ∙ c.as_slice-mv-items.ensures.value
    ∙ c.every_move.ensures)) c.if-decided.ensures.value
