use Rattle.std.proofs.Common.{◌≡◌, ◌<◌, ◌≤◌, ◌∷◌, ◌^◌, [], List, length, map, ap, refl, ◌∙◌, arith, ℕ}
use Rattle.std.specs.List.{range_with_len}
use Rattle.std.proofs.lemmas.List.{length-append, map-append}
use Rattle.suit_lists.proofs.Walks.{one_numbered}
use Rattle.suit_cards.specs.Cards.{ClassLayout}
use Rattle.suit_layouts.specs.declared.class_list.TheConstants.{MOST_CLASS_LAYOUTS}
use Rattle.suit_program.specs.declared.walks.reach.ReachedLayout.{ReachedLayout}
use Rattle.suit_program.specs.Walks.Reaches.{layout_seen}
use Rattle.suit_program.proofs.lemmas.Walks.ReachAtTheStart.{layout_named, layouts_few, start_reach}
use Rattle.suit_program.proofs.walks.reach.Reach.start.Goals as goal

pub overflow_cast-index : goal.overflow_cast-index
overflow_cast-index c =
    let most = layouts_few c.requires.question in
    let long : length c.layouts-count.result.now ≡ length c.args.tree.now.layouts.items =
    ap (λ (l : List (ClassLayout × ℕ)). length l) c.layouts-count.ensures in
    let same = ap (λ (l : List (ClassLayout × ℕ)). length l) c.requires.grown.layouts in
    let small : c.loop-index.index < 2 ^ 8 = omega (arith, most, long, same, c.loop-index-test.true) in
    record { fits = small }

pub push-requires : goal.push-requires
push-requires c =
    let most = layouts_few c.requires.question in
    let long : length c.layouts-count.result.now ≡ length c.args.tree.now.layouts.items =
    ap (λ (l : List (ClassLayout × ℕ)). length l) c.layouts-count.ensures in
    let same = ap (λ (l : List (ClassLayout × ℕ)). length l) c.requires.grown.layouts in
    let small : length c.loop-index.layouts.items < MOST_CLASS_LAYOUTS =
    omega (arith, most, long, same, c.loop-index-test.true, c.loop-index.invariant.few) in
    (omega arith, small)

pub loop-index-preserved : goal.loop-index-preserved
loop-index-preserved c = record {
  kept = one_numbered (layout_named c.args.support.now) (map layout_seen c.loop-index.layouts.items)
      (map layout_seen c.push.new.self.items) c.loop-index.index
      (layout_seen record { index = c.loop-index.index; named = c.defence_mark.result }) c.loop-index.invariant.kept
      (ap (map layout_seen) c.push.ensures.items
      ∙ map-append layout_seen c.loop-index.layouts.items
      (record { index = c.loop-index.index; named = c.defence_mark.result } ∷ []))
      (ap (λ mark. (c.loop-index.index, mark)) c.defence_mark.ensures);
  few = omega (
    arith,
    c.loop-index.invariant.few,
    ap (λ (l : List ReachedLayout). length l) c.push.ensures.items,
    length-append c.loop-index.layouts.items
        (record { index = c.loop-index.index; named = c.defence_mark.result } ∷ []),
  );
}

pub returns : goal.returns
returns c =
    λ question valid grown.
    start_reach question valid c.args.tree.now grown c.args.support.now _ c.root.ensures refl refl
    (c.loop-index.invariant.kept
    ∙ ap (λ (n : ℕ). map (layout_named c.args.support.now) (range_with_len 0 n)) (ended c.loop-index.index
    (length c.layouts-count.result.now) c.loop-index-test.false c.loop-index.auto.index-end
    ∙ ap (λ (l : List (ClassLayout × ℕ)). length l) (c.layouts-count.ensures ∙ grown.layouts)))
  where
    ended : (n m : ℕ) → m ≤ n → n ≤ m → n ≡ m
    ended n m past within = omega (arith, past, within)
