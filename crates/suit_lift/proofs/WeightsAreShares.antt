-- Weights over the common multiple stand as shares (defence_weights_are_shares).
use Rattle.std.proofs.Common.{◌≡◌, ℕ, zero, suc, ◌*◌, ◌/◌, ◌≤◌, ◌<◌, Bool, true, false, List, [], ◌∷◌, length}
use Rattle.std.proofs.Common.{refl, ap, arith}
use Rattle.std.specs.Prelude.{Contains, ◌==◌}
use Rattle.std.proofs.lemmas.Bool.{agree_below_at, eqb-true, true≢false}
use Rattle.std.proofs.lemmas.List.{length-map}
use Rattle.suit_lists.proofs.Elements.{some_of}
use Rattle.suit_lists.proofs.Filters.{Contains-filter, length_filter-most}
use Rattle.suit_cards.specs.Cards.{Cards}
use Rattle.suit_cards.specs.Holdings.{IsHolding}
use Rattle.suit_cards.proofs.WhetherARankIsHeld.{length-IsHolding}
use Rattle.suit_game.specs.declared.question.Question.{Question}
use Rattle.suit_game.specs.declared.moves.Move.{Move}
use Rattle.suit_game.specs.declared.moves.Move.TheVariants.{Follow}
use Rattle.suit_game.specs.Gains.{is_declarer_turn}
use Rattle.suit_game.specs.Histories.{History}
use Rattle.suit_game.specs.Positions.{Position, Trick, Closed, Open, after, dealt, follows_of, hand, legal, legal_in}
use Rattle.suit_game.specs.PlaceViews.{IsPlay}
use Rattle.suit_game.specs.Strategies.{counted}
use Rattle.suit_game.specs.declared.limits.TheConstants.{HAND_SIZE}
use Rattle.suit_classes.specs.declared.class_moves.ClassMove.{ClassMove}
use Rattle.suit_classes.specs.Classes.{Hands, hands_of}
use Rattle.suit_classes.specs.ClassMoves.{merge, same_class_move}
use Rattle.suit_classes.proofs.OneSideHoldsAClass.{IsDealt, IsHolding-dealt, IsHolding-without}
use Rattle.suit_classes.proofs.ClassPlaceFollowsPlay.{play_dealt}
use Rattle.suit_classes.proofs.SameMoves.{same_move-itself}
use Rattle.suit_lift.specs.LiftLaws.{DefenceWeightsAreShares, PlanWeightsAreShares}
use Rattle.suit_lift.specs.Lifts.{common, defence_share, defence_way, fellows, plan_share, plan_way}

divided : ℕ → Bool
divided fewer = 360360 / suc fewer * suc fewer == 360360

pub plan_weights_are_shares : PlanWeightsAreShares
unfolding plan_way plan_share common
plan_weights_are_shares question plan history move = omega arith

-- each number of cards up to thirteen divides the common multiple
pub common_divided : (among : ℕ) → 0 < among → among ≤ HAND_SIZE → common / among * among ≡ common
unfolding common divided
common_divided zero some few = absurd (omega arith)
common_divided (suc among) some few =
    eqb-true (360360 / suc among * suc among) 360360
    (agree_below_at divided (λ n. true) HAND_SIZE among refl (omega arith))

-- a move is among its fellows
pub fellows_some : (hands : Hands) (moves : List Move) (move : Move) → Contains moves move
    → 0 < length (fellows hands moves (merge hands move))
unfolding fellows
fellows_some hands moves move found =
    some_of (fellows hands moves (merge hands move)) move
    (Contains-filter (λ other. same_class_move (merge hands other) (merge hands move)) moves move found
    (same_move-itself (merge hands move)))

fellows_most : (hands : Hands) (moves : List Move) (class : ClassMove)
    → length (fellows hands moves class) ≤ length moves
unfolding fellows
fellows_most hands moves class = length_filter-most (λ move. same_class_move (merge hands move) class) moves

follows_most : (cards : Cards) → IsHolding cards → length (follows_of cards) ≤ HAND_SIZE
follows_most [] is = omega arith
follows_most (card ∷ cards) is = omega (arith, length-map (card ∷ cards) Follow, length-IsHolding (card ∷ cards) is)

legal_in-most : (question : Question) (west : Cards) (place : Position) (trick : Trick) → IsDealt question west
    → is_declarer_turn trick ≡ false
    → length (legal_in question west place trick) ≤ HAND_SIZE
unfolding legal_in
legal_in-most question west place Closed is waits = absurd (true≢false waits)
legal_in-most question west place (Open turn after winner highest) is waits =
    follows_most (hand question west place turn) (IsHolding-without (dealt question west turn) place.gone
    (IsHolding-dealt question west turn is))

-- a defender has at most thirteen fellows of a move, and one at least
pub among_few : (question : Question) (west : Cards) (history : History) (move : Move) → IsPlay question west history
    → is_declarer_turn (after question history).trick ≡ false
    → length (fellows (hands_of question) (legal question west history) (merge (hands_of question) move)) ≤ HAND_SIZE
among_few question west history move play waits =
    omega (
      arith,
      fellows_most (hands_of question) (legal question west history) (merge (hands_of question) move),
      legal_in-most question west (after question history) (after question history).trick
          (play_dealt question west history play) waits,
    )

linked : (common_part among count : ℕ) (whole : ℕ) → common_part * among ≡ whole → common_part * count * among
    ≡ whole * count
linked common_part among count whole is = omega (arith, ap (λ (n : ℕ). n * count) is)

pub defence_weights_are_shares : DefenceWeightsAreShares
unfolding defence_way defence_share
defence_weights_are_shares question defence west history move play waits found =
    let among : ℕ = length (fellows (hands_of question) (legal question west history) (merge
    (hands_of question) move)) in
    linked (common / among) among (counted (defence_share question defence west history move).count) common
    (common_divided among (fellows_some (hands_of question) (legal question west history) move found)
    (among_few question west history move play waits))
