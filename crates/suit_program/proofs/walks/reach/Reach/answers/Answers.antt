use Rattle.std.proofs.Common.{◌<◌, ◌-◌, List, filter, length, map, ap, ◌∙◌, arith}
use Rattle.std.proofs.lemmas.List.{take_all}
use Rattle.suit_game.specs.declared.limits.TheConstants.{MOST_MOVES}
use Rattle.suit_tree.specs.declared.node.Node.{Node}
use Rattle.suit_tree.specs.Nodes.{children_of, move_of}
use Rattle.suit_tree.proofs.NodesFitMoves.{few_children}
use Rattle.suit_program.specs.Walks.Reaches.{their_has}
use Rattle.suit_program.proofs.lemmas.Walks.ReachTells.{their_kept}
use Rattle.suit_program.proofs.walks.reach.Reach.answers.Goals as goal
use Rattle.suit_program.specs.declared.walks.reach.TheConstants.{MOST_NEXT}

pub push-requires : goal.push-requires
push-requires c =
    let most = few_children (MOST_MOVES - length c.requires.history) c.requires.question c.requires.history
    c.args.self.now.node c.requires.reached.tree in
    let few : length c.loop-child.moves.items < MOST_NEXT =
    omega (
      arith,
      most,
      c.loop-child.invariant.few,
      c.loop-child-test.true,
      ap (λ (l : List Node). length l) c.children-child-items.ensures,
    ) in
    (omega arith, few)

pub returns : goal.returns
returns c =
    λ question support history is found theirs.
    c.loop-child.invariant.kept
    ∙ ap (λ (l : List Node). map move_of (filter (their_has c.args.self.now c.args.layout.now) l))
    (take_all c.loop-child.child-index (children_of c.args.self.now.node)
    (omega (arith, c.loop-child-test.false, ap (λ (l : List Node). length l) c.children-child-items.ensures)))
    ∙ their_kept question support history c.args.self.now is theirs c.args.layout.now found
