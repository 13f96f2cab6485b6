use Rattle.std.proofs.Common.{subst}
use Rattle.suit_classes.specs.ClassPlaces.{class_moves}
use Rattle.suit_tree.specs.Growing.{Tells}
use Rattle.suit_tree.specs.Trees.{counts_at}
use Rattle.suit_tree.proofs.OffersTell.{zip_more}
use Rattle.suit_tree.proofs.branch.offers_at.Goals as goal

pub loop-index-preserved : goal.loop-index-preserved
loop-index-preserved c =
    zip_more (λ index told. Tells told (class_moves c.args.position.now (counts_at c.args.layouts.now index)))
    c.args.indices.now
    c.loop-index.offers.items c.push.new.self.items c.loop-index.index-index _ c.of.result c.loop-index-test.true
    c.loop-index.invariant
    c.in_ok-push.ensures.items (subst (λ counts. Tells c.of.result (class_moves c.args.position.now counts))
    c.counts_at.ensures (rw (c.as_slice.ensures.value, c.moves.ensures.value) at c.of.ensures))
