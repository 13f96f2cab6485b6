use Rattle.std.proofs.Common.{List, filter, length, ap, ◌∙◌}
use Rattle.suit_plans.specs.Masses.{is_defences}
use Rattle.suit_tree.specs.Nodes.{holds_index}
use Rattle.suit_tree.specs.declared.node.Node.{Node}
use Rattle.suit_program.proofs.lemmas.Walks.ReachTells.{they_not, they_told}
use Rattle.suit_program.proofs.walks.reach.Reach.chooses.Goals as goal

pub returns-then-is_defences : goal.returns-then-is_defences
returns-then-is_defences c =
    λ question support history is found. they_told question support history c.args.self.now is c.args.index found
    c.is_defences.result c.count_for.result (c.is_defences.ensures ∙ ap is_defences c.turn.ensures)
    (c.count_for.ensures ∙ ap (λ (l : List Node). length (filter (holds_index c.args.index) l)) c.children.ensures)
    c.if-is_defences.true

pub returns-else-is_defences : goal.returns-else-is_defences
returns-else-is_defences c =
    λ question support history is found. they_not question support history c.args.self.now is c.args.index found
    c.is_defences.result (c.is_defences.ensures ∙ ap is_defences c.turn.ensures) c.if-is_defences.false
