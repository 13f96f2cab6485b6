use Rattle.std.proofs.Common.{◌≡◌, ◌∙◌, ◌++◌, ◌+◌, [], ◌∷◌, List, ap, length, arith, map}
use Rattle.std.proofs.lemmas.List.{length-append}
use Rattle.suit_cards.specs.declared.seats.Seat.TheVariants.{N, S}
use Rattle.suit_classes.specs.declared.class_moves.ClassMove.{ClassMove}
use Rattle.suit_classes.specs.declared.class_moves.ClassMove.TheVariants.{Lead, Follow, ShowOut}
use Rattle.suit_classes.specs.WhatIsAllowed.{every_move}
use Rattle.suit_classes.specs.ClassPlaces.{class_numbers}
use Rattle.suit_classes.specs.declared.classes.TheConstants.{MOST_CLASSES}
use Rattle.suit_lines.proofs.MovesClassByClass.{class_more, class_none}
use Rattle.suit_lines.proofs.moves.every_move.Goals as goal

pub loop-north-preserved : goal.loop-north-preserved
loop-north-preserved c = record {
  so_far = class_more [] c.loop-north.moves.items _ (Lead N) c.loop-north.north c.loop-north.invariant.so_far
      c.push.ensures.items;
  long = ap length c.push.ensures.items
      ∙ length-append c.loop-north.moves.items (Lead N c.loop-north.north ∷ [])
      ∙ ap (λ k. k + 1) c.loop-north.invariant.long;
}

pub loop-south-init : goal.loop-south-init
unfolding class_numbers
loop-south-init c =
    let all : c.loop-north.north ≡ MOST_CLASSES = omega arith in
    record {
      so_far = rw all at c.loop-north.invariant.so_far ∙ class_none (map (Lead N) class_numbers) (Lead S);
      long = omega (arith, c.loop-north.invariant.long);
    }

pub loop-south-preserved : goal.loop-south-preserved
loop-south-preserved c = record {
  so_far = class_more (map (Lead N) class_numbers) c.loop-south.moves.items _ (Lead S) c.loop-south.south
      c.loop-south.invariant.so_far c.push-in-loop-south.ensures.items;
  long = omega (
    arith,
    ap length c.push-in-loop-south.ensures.items,
    length-append c.loop-south.moves.items (Lead S c.loop-south.south ∷ []),
    c.loop-south.invariant.long,
  );
}

pub loop-follow-init : goal.loop-follow-init
unfolding class_numbers
loop-follow-init c =
    let all : c.loop-south.south ≡ MOST_CLASSES = omega arith in
    record {
      so_far = rw all at c.loop-south.invariant.so_far
          ∙ class_none (map (Lead N) class_numbers ++ map (Lead S) class_numbers) Follow;
      long = omega (arith, c.loop-south.invariant.long);
    }

pub loop-follow-preserved : goal.loop-follow-preserved
loop-follow-preserved c = record {
  so_far = class_more (map (Lead N) class_numbers ++ map (Lead S) class_numbers) c.loop-follow.moves.items _ Follow
      c.loop-follow.follow c.loop-follow.invariant.so_far c.push-in-loop-follow.ensures.items;
  long = omega (
    arith,
    ap length c.push-in-loop-follow.ensures.items,
    length-append c.loop-follow.moves.items (Follow c.loop-follow.follow ∷ []),
    c.loop-follow.invariant.long,
  );
}

pub returns : goal.returns
unfolding every_move class_numbers
returns c =
    let all : c.loop-follow.follow ≡ MOST_CLASSES = omega arith in
    c.push-2.ensures.items ∙ ap (λ (l : List ClassMove). l ++ ShowOut ∷ [])
    (rw all at c.loop-follow.invariant.so_far)
