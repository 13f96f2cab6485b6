use Rattle.std.proofs.Common.{◌<◌, ◌-◌, ℕ, List, drop, get_or, length, take, ap, subst, arith}
use Rattle.std.proofs.lemmas.Result.{on_ok_weaker}
use Rattle.std.specs.Vec.{with_item}
use Rattle.suit_cards.specs.declared.seats.Seat.TheVariants.{N}
use Rattle.suit_classes.specs.declared.class_moves.ClassMove.{ClassMove}
use Rattle.suit_classes.specs.declared.class_moves.ClassMove.TheVariants.{Lead}
use Rattle.suit_program.specs.declared.supports.mark.Mark.{Mark, out-Mark, roll-Mark}
use Rattle.suit_program.specs.declared.supports.mark.Mark.TheViews.{out-roll-Mark}
use Rattle.suit_program.specs.Supports.Marks.{NamesMore}
use Rattle.suit_program.proofs.lemmas.Supports.WhatMarksName.{first_and_rest, place_within, set_more}
use Rattle.suit_program.proofs.supports.mark.Mark.+add.Goals as goal

pub index_mut-requires : goal.index_mut-requires
index_mut-requires t c =
    let within : c.in_ok-at-in-len1-up.at < length (out-Mark c.place.new.self).next.items =
    place_within (out-Mark c.place.new.self).next.items c.in_ok-at-in-len1-up.at
    (get_or c.args.moves.now 0 (Lead N 0)) c.in_ok-at-in-len1-up.ensures.at in
    omega (arith, within, (out-Mark c.place.new.self).next.ok.0)

pub returns-in_ok-at-in-len1-up : goal.returns-in_ok-at-in-len1-up
returns-in_ok-at-in-len1-up t c =
    let middle : Mark = c.place.new.self in
    let at : ℕ = c.in_ok-at-in-len1-up.at in
    let first : ClassMove = get_or c.args.moves.now 0 (Lead N 0) in
    let later : List ClassMove = take (length c.args.moves.now - 1) (drop 1 c.args.moves.now) in
    let opened = out-roll-Mark record {
      by = (out-Mark middle).by;
      moves = (out-Mark middle).moves;
      next = with_item (out-Mark middle).next at c.add.new.self;
    } in
    let here : Mark = roll-Mark record {
      by = (out-Mark middle).by;
      moves = (out-Mark middle).moves;
      next = with_item (out-Mark middle).next at c.add.new.self;
    } in
    on_ok_weaker c.add.result
    (λ more. subst (λ (moves : List ClassMove). NamesMore here c.args.self.now moves c.args.mv)
    (first_and_rest c.args.moves.now (Lead N 0) c.in-len1-up.len_at_least)
    (set_more here middle c.args.self.now at c.index_mut.result.now c.add.new.self first later c.args.mv
    c.in_ok-at-in-len1-up.ensures.alike c.in_ok-at-in-len1-up.ensures.at
    (subst (λ (mark : Mark). NamesMore c.add.new.self mark later c.args.mv) c.index_mut.ensures.value more)
    (ap (λ mark. mark.by) opened) (ap (λ mark. mark.moves.items) opened) (ap (λ mark. mark.next.items) opened)))
    c.add.ensures
