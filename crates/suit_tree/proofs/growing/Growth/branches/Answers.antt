use Rattle.std.proofs.Common.{◌∙◌, sym, ap, arith}
use Rattle.std.specs.Prelude.{map}
use Rattle.suit_tree.specs.Growing.{branch_seen}
use Rattle.suit_tree.proofs.Branches.{is_own, none_made, none_within, own_within, their_within}
use Rattle.suit_tree.proofs.growing.Growth.branches.Goals as goal

pub returns-then-more-eq0 : goal.returns-then-more-eq0
returns-then-more-eq0 c =
    ap (map branch_seen) c.new.ensures.items
    ∙ sym (none_within c.args.self.now.layouts.now c.args.position.now c.args.indices.now c.args.more (omega arith))

pub returns-in-Lead : goal.returns-in-Lead
returns-in-Lead c =
    rw (own_within c.args.self.now.layouts.now c.args.position.now c.args.indices.now c.args.more (omega arith)
    (ap is_own (sym c.turn.ensures.value ∙ c.in-Lead.is)) c.requires.some)
    at c.own_branches.ensures

pub returns-in-Declarer : goal.returns-in-Declarer
returns-in-Declarer c =
    rw (own_within c.args.self.now.layouts.now c.args.position.now c.args.indices.now c.args.more (omega arith)
    (ap is_own (sym c.turn.ensures.value ∙ c.in-Declarer.is)) c.requires.some)
    at c.own_branches-in-Declarer.ensures

pub returns-in-Defence : goal.returns-in-Defence
returns-in-Defence c =
    rw (their_within c.args.self.now.layouts.now c.args.position.now c.args.indices.now c.args.more (omega arith)) at
    c.their_branches.ensures

pub returns-in-Decided : goal.returns-in-Decided
returns-in-Decided c =
    ap (map branch_seen) c.new-in-Decided.ensures.items
    ∙ sym (none_made c.args.self.now.layouts.now c.args.position.now c.args.indices.now c.args.more
    (sym c.turn.ensures.value ∙ c.in-Decided.is))
