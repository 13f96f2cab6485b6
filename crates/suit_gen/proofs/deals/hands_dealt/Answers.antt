use Rattle.std.proofs.Common.{◌≡◌, ◌<◌, ◌-◌, length, get_or, ◌∙◌, ap, refl, arith, List, ℕ}
use Rattle.suit_cards.specs.Holdings.{suit}
use Rattle.suit_gen.specs.Draws.{state_after}
use Rattle.suit_gen.proofs.Dealing.{all_left, card_dealt, cards_dealt, drawn_on, suit_at, suit_made, suit_length}
use Rattle.suit_gen.proofs.deals.hands_dealt.Goals as goal

pub loop-rank-init : goal.loop-rank-init
unfolding state_after
loop-rank-init c =
    let all = suit_made _ _ _ c.default.ensures c.default-2.ensures c.others-suit.ensures.value in
    record { state = refl; north = all ∙ all_left 0 _; south = all ∙ all_left 1 _ }

pub loop-rank-preserved : goal.loop-rank-preserved
loop-rank-preserved c =
    let all = suit_made _ _ _ c.default.ensures c.default-2.ensures c.others-suit.ensures.value in
    let items : c.as_slice-rank-items.result.now ≡ suit =
    c.as_slice-rank-items.ensures.value ∙ c.ranks.ensures.value ∙ all in
    let early : c.loop-rank.rank-index < 13 = omega (arith, ap length items, suit_length, c.loop-rank-test.true) in
    let rank : c.rank-item.result ≡ 14 - c.loop-rank.rank-index =
    c.rank-item.is ∙ ap (λ (xs : List ℕ). get_or xs c.loop-rank.rank-index c.rank-item.result) items
    ∙ suit_at c.loop-rank.rank-index _ early in
    let drawn = drawn_on c.loop-rank.rank-index _ _ _ _ c.rank-item.result early rank c.loop-rank.invariant.state
    c.place_drawn-place.ensures.state c.place_drawn-place.ensures.place in
    record {
      state = drawn.0;
      north = c.once_dealt-hands.ensures ∙ card_dealt _ 0 _ _ _ _ early rank drawn.1 c.loop-rank.invariant.north;
      south =
          c.once_dealt-hands-in-loop-rank.ensures ∙ card_dealt _ 1 _ _ _ _ early rank drawn.1
          c.loop-rank.invariant.south;
    }

-- after the loop all thirteen cards are dealt
all_dealt : (c : goal.After-loop-rank) → c.loop-rank.rank-index ≡ 13
all_dealt c =
    let all = suit_made _ _ _ c.default.ensures c.default-2.ensures c.others-suit.ensures.value in
    let items : c.as_slice-rank-items.result.now ≡ suit =
    c.as_slice-rank-items.ensures.value ∙ c.ranks.ensures.value ∙ all in
    omega (arith, ap length items, suit_length, c.loop-rank-test.false, c.loop-rank.auto.rank-index-end)

pub returns-clause-state : goal.returns-clause-state
returns-clause-state c = rw (all_dealt c) at c.loop-rank.invariant.state

pub returns-clause-north : goal.returns-clause-north
returns-clause-north c = (rw (all_dealt c) at c.loop-rank.invariant.north) ∙ cards_dealt 0 _

pub returns-clause-south : goal.returns-clause-south
returns-clause-south c = (rw (all_dealt c) at c.loop-rank.invariant.south) ∙ cards_dealt 1 _
