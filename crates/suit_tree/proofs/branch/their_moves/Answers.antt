use Rattle.std.proofs.Common.{◌≡◌, ◌∙◌, ◌+◌, ◌++◌, ◌∷◌, [], List, sym, ap, length, arith}
use Rattle.std.proofs.lemmas.List.FromFn.{map-range_with_len_more}
use Rattle.std.proofs.lemmas.List.{length-append}
use Rattle.suit_classes.specs.declared.class_moves.ClassMove.{ClassMove}
use Rattle.suit_classes.specs.declared.class_moves.ClassMove.TheVariants.{Follow, ShowOut}
use Rattle.suit_classes.specs.ClassPlaces.{class_numbers}
use Rattle.suit_classes.specs.declared.classes.TheConstants.{MOST_CLASSES}
use Rattle.suit_tree.specs.Growing.{their_moves}
use Rattle.suit_tree.proofs.branch.their_moves.Goals as goal

pub loop-class-preserved : goal.loop-class-preserved
loop-class-preserved c = record {
  so_far =
      c.push.ensures.items ∙ ap (λ (l : List ClassMove). l ++ Follow c.loop-class.class
      ∷ []) c.loop-class.invariant.so_far
      ∙ sym (map-range_with_len_more Follow 0 c.loop-class.class c.loop-class.class (omega arith));
  long =
      ap length c.push.ensures.items ∙ length-append c.loop-class.moves.items (Follow c.loop-class.class ∷ [])
      ∙ ap (λ k. k + 1) c.loop-class.invariant.long;
}

pub returns : goal.returns
unfolding their_moves class_numbers
returns c =
    let all : c.loop-class.class ≡ MOST_CLASSES = omega arith in
    c.push-2.ensures.items ∙ ap (λ (l : List ClassMove). l ++ ShowOut
    ∷ []) (rw all at c.loop-class.invariant.so_far)
