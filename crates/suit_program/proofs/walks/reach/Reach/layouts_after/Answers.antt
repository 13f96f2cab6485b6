use Rattle.std.proofs.Common.{◌≡◌, ◌<◌, ◌∷◌, [], Bool, List, ap, arith, get_or, length, map, ◌∙◌, Option}
use Rattle.std.specs.Option.{option_copied}
use Rattle.std.proofs.lemmas.List.{length-append, map-append}
use Rattle.suit_lists.proofs.Walks.{kept_one, kept_other}
use Rattle.suit_layouts.specs.declared.class_list.TheConstants.{MOST_CLASS_LAYOUTS}
use Rattle.suit_program.specs.declared.supports.mark.Mark.{Mark}
use Rattle.suit_program.specs.declared.walks.reach.ReachedLayout.{ReachedLayout}
use Rattle.suit_program.specs.Supports.Marks.{mark_after}
use Rattle.suit_program.specs.Walks.Reaches.{goes_in, layout_after, layout_seen}
use Rattle.suit_tree.specs.Nodes.{move_of}
use Rattle.suit_program.proofs.lemmas.Walks.ReachAtTheStart.{reach_few}
use Rattle.suit_program.proofs.walks.reach.Reach.layouts_after.Goals as goal
use Rattle.suit_program.proofs.walks.reach.Reach.layouts_after.Goals.{then-goes_in, else-goes_in}

pub push-requires : goal.push-requires
push-requires c =
    let most = reach_few c.requires.question c.requires.support c.requires.history c.args.self.now
    c.requires.reached in
    let few : length c.loop-layout.after.items < MOST_CLASS_LAYOUTS =
    omega (
      arith,
      most,
      c.loop-layout.invariant.few,
      c.loop-layout-test.true,
      ap (λ (l : List ReachedLayout). length l) c.layouts-layout-items.ensures,
    ) in
    (omega arith, few)

pub loop-layout-preserved : goal.loop-layout-preserved
loop-layout-preserved c =
    let layouts : List ReachedLayout = c.args.self.now.layouts.items in
    let i = c.loop-layout.layout-index in
    let item : ReachedLayout = c.layout-item.result in
    let goes : ReachedLayout → Bool = λ layout. goes_in c.args.self.now layout c.args.child.now in
    let within : i < length layouts =
    omega (arith, c.loop-layout-test.true, ap (λ (l : List ReachedLayout). length l) c.layouts-layout-items.ensures) in
    let at : item ≡ get_or layouts i item =
    c.layout-item.is ∙ ap (λ (l : List ReachedLayout). get_or l i item) c.layouts-layout-items.ensures in
    elim c.if-goes_in.branch [
      | then-goes_in w ↦
          let made : ReachedLayout = record { index = item.index; named = w.mark_after.result } in
          let now = ap (λ after. after.items) w.after-is ∙ w.push.ensures.items in record {
            kept = kept_one (layout_after (move_of c.args.child.now)) goes layouts i item
                (map layout_seen c.loop-layout.after.items) (map layout_seen c.if-goes_in.after.items)
                (layout_seen made) within c.loop-layout.invariant.kept
                (w.if-goes_in.ensures ∙ ap goes at)
                (ap (λ (mark : Option Mark). (item.index, mark)) (w.mark_after.ensures
                ∙ ap (mark_after (option_copied item.named)) c.mv-mv.ensures)
                ∙ ap (layout_after (move_of c.args.child.now)) at)
                (ap (map layout_seen) now ∙ map-append layout_seen c.loop-layout.after.items (made ∷ []));
            few = omega (
              arith,
              c.loop-layout.invariant.few,
              ap (λ (l : List ReachedLayout). length l) now,
              length-append c.loop-layout.after.items (made ∷ []),
            );
          }
      | else-goes_in w ↦ record {
        kept = ap (λ after. map layout_seen after.items) w.after-is
            ∙ kept_other (layout_after (move_of c.args.child.now)) goes layouts i item
            (map layout_seen c.loop-layout.after.items) within c.loop-layout.invariant.kept
            (w.if-goes_in.ensures ∙ ap goes at);
        few = omega (
          arith,
          c.loop-layout.invariant.few,
          ap (λ (l : List ReachedLayout). length l) (ap (λ after. after.items) w.after-is),
        );
      }
    ]
