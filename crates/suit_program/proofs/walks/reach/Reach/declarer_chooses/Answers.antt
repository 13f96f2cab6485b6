use Rattle.std.proofs.Common.{List, length, ap, ◌∙◌}
use Rattle.suit_plans.specs.Masses.{is_declarers}
use Rattle.suit_tree.specs.declared.node.Node.{Node}
use Rattle.suit_program.proofs.lemmas.Walks.ReachTells.{own_not, own_told}
use Rattle.suit_program.proofs.walks.reach.Reach.declarer_chooses.Goals as goal

pub returns-then-is_declarers : goal.returns-then-is_declarers
returns-then-is_declarers c =
    λ question support history is. own_told question support history c.args.self.now is c.is_declarers.result
    (length c.children.result.now) (c.is_declarers.ensures ∙ ap is_declarers c.turn.ensures)
    (ap (λ (l : List Node). length l) c.children.ensures) c.if-is_declarers.true

pub returns-else-is_declarers : goal.returns-else-is_declarers
returns-else-is_declarers c =
    λ question support history is. own_not question support history c.args.self.now is c.is_declarers.result
    (c.is_declarers.ensures ∙ ap is_declarers c.turn.ensures) c.if-is_declarers.false
