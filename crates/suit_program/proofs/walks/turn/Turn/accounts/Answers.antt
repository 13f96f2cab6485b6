use Rattle.std.proofs.Common.{List, map, subst, sym}
use Rattle.std.specs.Prelude.{Contains}
use Rattle.suit_program.specs.declared.walks.turn.LayoutMoves.{LayoutMoves}
use Rattle.suit_program.specs.declared.walks.turn.Turn.{Turn}
use Rattle.suit_program.specs.Walks.Writing.{accounts_after, answer_seen, answered_by}
use Rattle.suit_program.proofs.walks.turn.Turn.accounts.Goals as goal

pub answered_by-requires : goal.answered_by-requires
answered_by-requires c = λ account found.
    c.requires account
    (subst (λ (t : Turn). Contains (accounts_after t c.args.accounts.now c.args.mv) account) (sym c.in-Answered.is)
    (subst (λ (l : List LayoutMoves). Contains (answered_by (map answer_seen l) c.args.mv) account)
    c.deref.ensures.value found))
