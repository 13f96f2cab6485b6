use Rattle.std.proofs.Common.{refl}
use Rattle.suit_tree.proofs.OffersTell.{tells_more, tells_none}
use Rattle.suit_tree.proofs.offers.Offers.of.Goals as goal

pub loop-mv-init : goal.loop-mv-init
loop-mv-init c = tells_none _ (
  refl,
  (refl, (refl, (refl, (refl, (refl, (refl, (refl, (refl, (refl, (refl, (refl, (refl, tt)))))))))))),
) refl

pub loop-mv-preserved : goal.loop-mv-preserved
loop-mv-preserved c =
    tells_more c.loop-mv.offers c.add.new.self c.args.moves.now c.loop-mv.mv-index _ c.loop-mv-test.true
    c.loop-mv.invariant
    c.add.ensures.follows c.add.ensures.shows_out
