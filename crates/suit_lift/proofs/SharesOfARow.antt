-- The shares of a plan's row, and of a defence's, are those of the lift (`plan_shares`, `defence_shares`).
use Rattle.std.proofs.Common.{◌≡◌, List, [], map, refl}
use Rattle.suit_cards.specs.Cards.{Cards}
use Rattle.suit_game.specs.declared.question.Question.{Question}
use Rattle.suit_game.specs.declared.moves.Move.{Move}
use Rattle.suit_game.specs.Histories.{History}
use Rattle.suit_game.specs.Positions.{legal}
use Rattle.suit_classes.specs.Classes.{hands_of}
use Rattle.suit_classes.specs.ClassGame.{counts_of}
use Rattle.suit_classes.specs.ClassMoves.{merged}
use Rattle.suit_plans.specs.declared.plan.Plan.{Plan}
use Rattle.suit_plans.specs.declared.defence.Defence.{Defence}
use Rattle.suit_plans.specs.Masses.{defence_shares_at, plan_shares_at}
use Rattle.suit_lift.specs.declared.card_share.CardShare.{CardShare}
use Rattle.suit_lift.specs.Lifts.{RowCounts, defence_share, even_share, lowest_share, plan_share}

pub plan_shares : (question : Question) (plan : Plan) (history : History) (row : RowCounts)
    (moves : List Move) (shares : List CardShare)
    → row ≡ plan_shares_at plan.rows (merged (hands_of question) history)
    → moves ≡ legal question [] history → shares ≡ map (lowest_share (hands_of question) row moves) moves
    → shares ≡ map (plan_share question plan history) (legal question [] history)
unfolding plan_share
plan_shares question plan history row moves shares row_is moves_are is = rw (is, moves_are, row_is) refl

pub defence_shares : (question : Question) (defence : Defence) (west : Cards) (history : History) (row : RowCounts)
    (moves : List Move) (shares : List CardShare)
    → row ≡ defence_shares_at defence.rows (counts_of (hands_of question) west) (merged (hands_of question) history)
    → moves ≡ legal question west history → shares ≡ map (even_share (hands_of question) row moves) moves
    → shares ≡ map (defence_share question defence west history) (legal question west history)
unfolding defence_share
defence_shares question defence west history row moves shares row_is moves_are is = rw (is, moves_are, row_is) refl
