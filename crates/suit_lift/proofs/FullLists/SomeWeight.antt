-- At each turn a lift gives weight to some legal move (plan_weighs, defence_weighs).
use Rattle.std.proofs.Common.{◌≡◌, ℕ, ◌*◌, ◌<◌, Bool, true, false, List, ◌∷◌, map, refl, sym, ap, ◌∙◌, subst, arith}
use Rattle.std.specs.Prelude.{◌==◌, if◌then◌else◌}
use Rattle.std.specs.List.{list_all, sum_by}
use Rattle.std.proofs.Math.Nat.{mul-pos}
use Rattle.suit_lists.proofs.Firsts.{HasFirst}
use Rattle.suit_lists.proofs.Sums.{sum_by-mul, sum_by_same, term_small}
use Rattle.suit_cards.specs.Cards.{Cards}
use Rattle.suit_game.specs.declared.question.Question.{Question}
use Rattle.suit_game.specs.declared.moves.Move.{Move}
use Rattle.suit_game.specs.Gains.{is_declarer_turn}
use Rattle.suit_game.specs.Histories.{History}
use Rattle.suit_game.specs.PlaceViews.{IsPlay}
use Rattle.suit_game.specs.Positions.{after, has_ended, legal}
use Rattle.suit_game.proofs.DistinctLegalMoves.{legal_once}
use Rattle.suit_game.proofs.PayDenominators.{legal_at-some}
use Rattle.suit_classes.specs.declared.class_moves.ClassMove.{ClassMove}
use Rattle.suit_classes.specs.Classes.{Hands, hands_of}
use Rattle.suit_classes.specs.ClassGame.{counts_of, each_once}
use Rattle.suit_classes.specs.ClassMoves.{merge, merged}
use Rattle.suit_classes.proofs.AllowedMoveByMove.{each_once-Contains}
use Rattle.suit_plans.specs.declared.plan.Plan.{Plan}
use Rattle.suit_plans.specs.declared.defence.Defence.{Defence}
use Rattle.suit_plans.specs.Masses.{defence_shares_at, plan_shares_at}
use Rattle.suit_lift.specs.Lifts.{RowCounts, class_share, common, defence_way, is_lowest, plan_way, row_count}
use Rattle.suit_lift.proofs.FellowsOfAClass.{weights_total}
use Rattle.suit_lift.proofs.SumsOverMergedMoves.{lowest_sum}
use Rattle.suit_lift.proofs.LiftPaysItsWorth.{common_some, plan_weight}
use Rattle.suit_lift.proofs.SharesAreMasses.{first_alone, share_when, some_above, some_merges}

shares_when : (none : Bool) (row : RowCounts) (first : ClassMove) (more : List ClassMove)
    → list_all (λ other. row_count row other == 0) (first ∷ more) ≡ none
    → 0 < sum_by (share_when none row (first ∷ more)) (each_once (first ∷ more))
shares_when true row first more empty = omega (arith, first_alone first more)
shares_when false row first more empty =
    let above = some_above (row_count row) (first ∷ more) empty in
    omega (
      arith,
      above.2,
      term_small (row_count row) (each_once (first ∷ more)) above.0
          (each_once-Contains (first ∷ more) above.0 above.1),
    )

-- of the class moves that some moves merge to, one has a share
shares_some : (row : RowCounts) (merges : List ClassMove) → HasFirst merges
    → 0 < sum_by (class_share row merges) (each_once merges)
shares_some row merges some =
    subst (λ (xs : List ClassMove). 0 < sum_by (class_share row xs) (each_once xs)) (sym some.parts)
    (shares_when (list_all (λ other. row_count row other == 0) (some.first ∷ some.more)) row some.first some.more refl)

legal_first : (question : Question) (west : Cards) (history : History)
    → has_ended question (after question history) ≡ false
    → HasFirst (map (merge (hands_of question)) (legal question west history))
legal_first question west history goes =
    let some = legal_at-some question west (after question history) goes in
    some_merges question (legal question west history)
    (record { first = some.0; more = some.1; parts = some.2 })

-- the lift of a plan gives weight at each turn of declarer's
pub plan_weighs : (question : Question) (plan : Plan) (west : Cards) (history : History) → IsPlay question west history
    → has_ended question (after question history) ≡ false → is_declarer_turn (after question history).trick ≡ true
    → 0 < sum_by (plan_way question plan history) (legal question west history)
plan_weighs question plan west history play goes own =
    let hands : Hands = hands_of question in
    let moves : List Move = legal question west history in
    let merges : List ClassMove = map (merge hands) moves in
    let row : RowCounts = plan_shares_at plan.rows (merged hands history) in
    let share : ClassMove → ℕ = class_share row merges in
    let all : sum_by (plan_way question plan history) moves ≡ common * sum_by share (each_once merges) =
    sum_by_same (plan_way question plan history) (λ move. common * (if is_lowest hands moves move then share
    (merge hands move) else 0)) moves
    (λ move. plan_weight question plan west history move own)
    ∙ sum_by-mul common (λ move. if is_lowest hands moves move then share (merge hands move) else 0) moves
    ∙ ap (λ (n : ℕ). common * n) (lowest_sum hands share moves (legal_once question west history play)) in
    rw all (mul-pos common_some (shares_some row merges (legal_first question west history goes)))

-- and that of a defence at each turn of the defenders'
pub defence_weighs : (question : Question) (defence : Defence) (west : Cards) (history : History)
    → IsPlay question west history
    → has_ended question (after question history) ≡ false → is_declarer_turn (after question history).trick ≡ false
    → 0 < sum_by (defence_way question defence west history) (legal question west history)
defence_weighs question defence west history play goes waits =
    rw (weights_total question defence west history play waits)
    (mul-pos common_some (shares_some (defence_shares_at defence.rows (counts_of (hands_of question) west)
    (merged (hands_of question) history)) (map (merge (hands_of question)) (legal question west history))
    (legal_first question west history goes)))
