use Rattle.std.proofs.Common.{◌<◌, ◌-◌, ◌∷◌, [], Bool, get_or, List, filter, length, map, ap, sym, ◌∙◌, arith}
use Rattle.std.proofs.lemmas.List.{length-append, take_all}
use Rattle.suit_lists.proofs.Filters.{filter_of_map}
use Rattle.suit_lists.proofs.Walks.{kept_one, kept_other}
use Rattle.suit_game.specs.declared.limits.TheConstants.{MOST_MOVES}
use Rattle.suit_classes.specs.declared.class_moves.ClassMove.{ClassMove}
use Rattle.suit_tree.specs.declared.node.Node.{Node}
use Rattle.suit_tree.specs.Nodes.{children_of, move_of}
use Rattle.suit_tree.proofs.NodesFitMoves.{few_children}
use Rattle.suit_program.specs.Walks.Reaches.{own_has}
use Rattle.suit_program.proofs.lemmas.Walks.NoNode.{no_node}
use Rattle.suit_program.proofs.lemmas.Walks.ReachTells.{own_kept}
use Rattle.suit_program.proofs.walks.reach.Reach.own_moves.Goals as goal
use Rattle.suit_program.proofs.walks.reach.Reach.own_moves.Goals.{then-own_has, else-own_has}
use Rattle.suit_program.specs.declared.walks.reach.TheConstants.{MOST_NEXT}

pub push-requires : goal.push-requires
push-requires c =
    let most = few_children (MOST_MOVES - length c.requires.history) c.requires.question c.requires.history
    c.args.self.now.node c.requires.reached.tree in
    let few : length c.loop-child.moves.items < MOST_NEXT =
    omega (
      arith,
      most,
      c.loop-child.invariant.few,
      c.loop-child-test.true,
      ap (λ (l : List Node). length l) c.children-child-items.ensures,
    ) in
    (omega arith, few)

pub loop-child-preserved : goal.loop-child-preserved
loop-child-preserved c =
    let nodes : List Node = children_of c.args.self.now.node in
    let i = c.loop-child.child-index in
    let goes : Node → Bool = λ child. own_has c.args.self.now (move_of child) in
    let within : i < length nodes =
    omega (arith, c.loop-child-test.true, ap (λ (l : List Node). length l) c.children-child-items.ensures) in
    elim c.if-own_has.branch [
      | then-own_has w ↦ record {
        kept = kept_one move_of goes nodes i no_node c.loop-child.moves.items c.if-own_has.moves.items
            w.mv-then-own_has.result within c.loop-child.invariant.kept
            (w.if-own_has.ensures ∙ ap (own_has c.args.self.now) c.mv.ensures
            ∙ ap (λ (l : List Node). goes (get_or l i no_node)) c.children-child-items.ensures)
            (w.mv-then-own_has.ensures
            ∙ ap (λ (l : List Node). move_of (get_or l i no_node)) c.children-child-items.ensures)
            (ap (λ moves. moves.items) w.moves-is ∙ w.push.ensures.items);
        few = omega (
          arith,
          c.loop-child.invariant.few,
          ap (λ (l : List ClassMove). length l)
              (ap (λ moves. moves.items) w.moves-is ∙ w.push.ensures.items),
          length-append c.loop-child.moves.items (w.mv-then-own_has.result ∷ []),
        );
      }
      | else-own_has w ↦ record {
        kept = ap (λ moves. moves.items) w.moves-is
            ∙ kept_other move_of goes nodes i no_node c.loop-child.moves.items within c.loop-child.invariant.kept
            (w.if-own_has.ensures ∙ ap (own_has c.args.self.now) c.mv.ensures
            ∙ ap (λ (l : List Node). goes (get_or l i no_node)) c.children-child-items.ensures);
        few = omega (
          arith,
          c.loop-child.invariant.few,
          ap (λ (l : List ClassMove). length l) (ap (λ moves. moves.items) w.moves-is),
        );
      }
    ]

pub returns : goal.returns
returns c =
    λ question support history is own.
    c.loop-child.invariant.kept
    ∙ ap (λ (l : List Node). map move_of (filter (λ child. own_has c.args.self.now (move_of child)) l))
    (take_all c.loop-child.child-index (children_of c.args.self.now.node)
    (omega (arith, c.loop-child-test.false, ap (λ (l : List Node). length l) c.children-child-items.ensures)))
    ∙ sym (filter_of_map (own_has c.args.self.now) move_of (children_of c.args.self.now.node))
    ∙ own_kept question support history c.args.self.now is own
