-- How a turn gathers what is found below its moves.
use Rattle.std.specs.Prelude.{ℕ, ◌+◌, ◌==◌, ◌||◌, nat_lt, Bool, false, List, ◌∷◌, ◌++◌, fold, if◌then◌else◌, ◌+ℤ◌}
use Rattle.std.specs.Prelude.{int_lt}
use Rattle.suit_classes.specs.declared.class_moves.ClassMove.{ClassMove}
use Rattle.suit_classes.specs.declared.class_moves.ClassMove.TheVariants.{ShowOut}
use Rattle.suit_classes.specs.ClassMoves.{ClassHistory}
use Rattle.suit_reply.specs.declared.turn_rule.TurnRule.{TurnRule}
use Rattle.suit_reply.specs.declared.turn_rule.TurnRule.TheVariants.{Sum, Least, Most}
use Rattle.suit_reply.specs.NodeReplies.{NodeReplyView, nothing}

-- what a turn has gathered so far: what is found, by which move last, and of how many moves
pub record TurnView : Type 0 where
  pub found : NodeReplyView
  pub by : ClassMove
  pub many : ℕ

-- nothing, of no moves
abbrev pub gathered_none : TurnView
gathered_none = record { found = nothing; by = ShowOut; many = 0 }

-- what is found below a move takes the place of what was found before, where it is the first or better; the first of
-- equal ones stays
abbrev pub taken : Bool → TurnView → ClassMove → NodeReplyView → TurnView
taken better so_far move next =
    if so_far.many == 0 || better then record { found = next; by = move; many = so_far.many + 1 }
    else record so_far { many = so_far.many + 1 }

-- one move more, with what is found below it
abbrev pub joined : TurnRule → TurnView → ClassMove → NodeReplyView → TurnView
joined Sum so_far move next = record {
  found = record { worth = so_far.found.worth +ℤ next.worth; choices = so_far.found.choices ++ next.choices };
  by = move;
  many = so_far.many + 1;
}
joined Least so_far move next = taken (int_lt next.worth so_far.found.worth) so_far move next
joined Most so_far move next = taken (int_lt so_far.found.worth next.worth) so_far move next

-- all moves, each with what is found below it
unfoldable pub gathered : TurnRule → List (ClassMove × NodeReplyView) → TurnView
gathered rule results = fold (λ so_far result. joined rule so_far result.0 result.1) gathered_none results

-- whether the move taken is a choice
abbrev pub is_choice : TurnRule → ℕ → Bool
is_choice Sum many = false
is_choice Least many = nat_lt 1 many
is_choice Most many = nat_lt 1 many

-- what is found at a turn: where there is a choice it stands before those that follow
abbrev pub finished : TurnRule → ClassHistory → TurnView → NodeReplyView
finished rule history so_far =
    if is_choice rule so_far.many
    then record {
      worth = so_far.found.worth;
      choices = record { history = history; mv = so_far.by } ∷ so_far.found.choices;
    }
    else so_far.found
