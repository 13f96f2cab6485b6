-- All moves that a defender may make, and which of them are legal (legal_listed).
use Rattle.std.proofs.Common.{◌≡◌, ℕ, zero, suc, ◌*◌, ◌≤◌, ◌<◌, Bool, true, false, cond, List, [], ◌∷◌, ◌++◌, length}
use Rattle.std.proofs.Common.{map, refl, sym, ap, ◌∙◌, subst, arith}
use Rattle.std.specs.Prelude.{Contains, ◌==◌, ◌||◌}
use Rattle.std.specs.List.{filter}
use Rattle.std.proofs.Math.Nat.{mul-pos}
use Rattle.std.proofs.lemmas.Bool.{false≢true, true≢false}
use Rattle.std.proofs.lemmas.List.Elements.{filter_agree}
use Rattle.suit_lists.proofs.Filters.{filter_of_map}
use Rattle.suit_cards.specs.Cards.{Cards}
use Rattle.suit_cards.specs.declared.seats.Seat.{Seat}
use Rattle.suit_cards.specs.declared.seats.Seat.TheVariants.{N, E, S, W}
use Rattle.suit_cards.specs.Holdings.{IsHolding, holds, suit}
use Rattle.suit_cards.proofs.HoldingIsWhatItHolds.{filter_suit-holds}
use Rattle.suit_game.specs.declared.question.Question.{Question}
use Rattle.suit_game.specs.declared.moves.Move.{Move}
use Rattle.suit_game.specs.declared.moves.Move.TheVariants.{Lead, Follow, ShowOut}
use Rattle.suit_game.specs.Gains.{is_declarer, is_declarer_turn}
use Rattle.suit_game.specs.Histories.{History}
use Rattle.suit_game.specs.PlaceViews.{IsPlay}
use Rattle.suit_game.specs.Positions.{Position, Trick, Closed, Open, after, dealt, follows_of, hand, legal, legal_in}
use Rattle.suit_game.specs.Positions.{without}
use Rattle.suit_game.specs.Question.{missing}
use Rattle.suit_game.specs.declared.limits.TheConstants.{HAND_SIZE}
use Rattle.suit_game.proofs.WhatAHandHolds.{holds-from_without, holds-without}
use Rattle.suit_classes.specs.Classes.{hands_of, class_of}
use Rattle.suit_classes.specs.ClassMoves.{merge}
use Rattle.suit_classes.proofs.OneSideHoldsAClass.{IsDealt, IsHolding-dealt, IsHolding-without}
use Rattle.suit_classes.proofs.ClassPlaceFollowsPlay.{play_dealt}
use Rattle.suit_lift.specs.Lifts.{fellows}
use Rattle.suit_lift.specs.Naming.{is_one_of, unplayed}
use Rattle.suit_lift.proofs.HowManyAreAlike.{alike_layouts}
use Rattle.suit_lift.proofs.AfterADefendersCard.{count_step}
use Rattle.suit_lift.proofs.WeightsAreShares.{fellows_some}
use Rattle.suit_lift.proofs.LayoutsStillLegal.{alike_some}
use Rattle.suit_lift.proofs.WhatAMoveTakes.{MoveKind, OwnCard, OwnOut, TheirCard, TheirOut, move_kind}
use Rattle.suit_lift.proofs.BoundsAreDivided.{few_of_class}

-- showing out, and following with each card of the suit
abbrev pub every_card_move : List Move
every_card_move = ShowOut ∷ map Follow suit

follow_told : (cards : Cards) (card : ℕ) → is_one_of (map Follow cards) (Follow card) ≡ holds cards card
follow_told [] card = refl
follow_told (first ∷ cards) card = ap (λ (b : Bool). (card == first) || b) (follow_told cards card)

out_told : (cards : Cards) → is_one_of (map Follow cards) ShowOut ≡ false
out_told [] = refl
out_told (first ∷ cards) = out_told cards

none_kept : (cards : Cards) → filter (is_one_of (ShowOut ∷ [])) (map Follow cards) ≡ []
none_kept [] = refl
none_kept (card ∷ cards) = none_kept cards

follows_listed : (cards : Cards) → IsHolding cards → follows_of cards
    ≡ filter (is_one_of (follows_of cards)) every_card_move
follows_listed [] is = ap (λ (l : List Move). ShowOut ∷ l) (sym (none_kept suit))
follows_listed (card ∷ cards) is =
    let all : Cards = card ∷ cards in
    sym (ap (λ (b : Bool). cond b (ShowOut ∷ filter (is_one_of (map Follow all)) (map Follow suit)) (filter
    (is_one_of (map Follow all)) (map Follow suit))) (out_told all)
    ∙ filter_of_map (is_one_of (map Follow all)) Follow suit
    ∙ ap (map Follow) (filter_agree (λ rank. is_one_of (map Follow all) (Follow rank)) (holds all)
    (follow_told all) suit ∙ filter_suit-holds all is))

listed_in : (question : Question) (west : Cards) (place : Position) (trick : Trick) → IsDealt question west
    → is_declarer_turn trick ≡ false
    → legal_in question west place trick ≡ filter (is_one_of (legal_in question west place trick)) every_card_move
unfolding legal_in
listed_in question west place Closed is waits = absurd (true≢false waits)
listed_in question west place (Open turn after winner highest) is waits =
    follows_listed (hand question west place turn) (IsHolding-without (dealt question west turn) place.gone
    (IsHolding-dealt question west turn is))

-- at a defender's turn the legal moves are those of all that are among them
pub legal_listed : (question : Question) (west : Cards) (history : History) → IsPlay question west history
    → is_declarer_turn (after question history).trick ≡ false
    → legal question west history ≡ filter (is_one_of (legal question west history)) every_card_move
legal_listed question west history play waits =
    listed_in question west (after question history) (after question history).trick
    (play_dealt question west history play) waits

unplayed_most : (question : Question) (gone : Cards) (move : Move) → unplayed question gone move ≤ HAND_SIZE
unplayed_most question gone (Follow card) =
    few_of_class question gone [] (λ class. 0) (class_of (hands_of question) card)
unplayed_most question gone (Lead seat card) = omega arith
unplayed_most question gone ShowOut = omega arith

-- at least one card of its class is not played, and thirteen at most
pub unplayed_fits : (question : Question) (west : Cards) (history : History) (move : Move)
    → IsPlay question west history → is_declarer_turn (after question history).trick ≡ false
    → Contains (legal question west history) move
    → (0 < unplayed question (after question history).gone move)
    × (unplayed question (after question history).gone move ≤ HAND_SIZE)
unplayed_fits question west history move play waits found =
    let gone : Cards = (after question history).gone in
    let stepped = count_step question west history move play waits found in
    let held : 0 < length (fellows (hands_of question) (legal question west history) (merge
    (hands_of question) move)) * length (alike_layouts question west gone) =
    mul-pos (fellows_some (hands_of question) (legal question west history) move found)
    (alike_some question west gone play.layout) in (
      above (unplayed question gone move) (length (alike_layouts question west (after question
          (history ++ move ∷ [])).gone)) (omega (arith, stepped, held)),
      unplayed_most question gone move,
    )
  where
    above : (n m : ℕ) → 0 < n * m → 0 < n
    above zero m some = absurd (omega (arith, some))
    above (suc n) m some = omega arith

rank_of : Move → ℕ
rank_of (Follow card) = card
rank_of (Lead seat card) = card
rank_of ShowOut = 0

is_out : Move → Bool
is_out ShowOut = true
is_out (Follow card) = false
is_out (Lead seat card) = false

left_kind : (question : Question) (west : Cards) (place : Position) (trick : Trick) (card : ℕ)
    → IsDealt question west → is_declarer_turn trick ≡ false
    → MoveKind question west place trick (Follow card) → holds (without (missing question) place.gone) card ≡ true
unfolding rank_of is_out
left_kind question west place trick card is waits (OwnCard played own later away) =
    absurd (false≢true (sym waits ∙ own))
left_kind question west place trick card is waits (OwnOut own later) = absurd (false≢true (sym waits ∙ own))
left_kind question west place trick card is waits (TheirOut turn theirs seat lists same none later) =
    absurd (false≢true (ap is_out same))
left_kind question west place trick card is waits (TheirCard turn played theirs seat lists same held later) =
    subst (λ (rank : ℕ). holds (without (missing question) place.gone) rank
    ≡ true) (sym (ap rank_of same)) (of_seat turn seat held)
  where
    of_seat : (it : Seat) → is_declarer it ≡ false → holds (without (dealt question west it) place.gone) played
        ≡ true → holds (without (missing question) place.gone) played ≡ true
    of_seat N its has = absurd (true≢false its)
    of_seat S its has = absurd (true≢false its)
    of_seat W its has =
        let parts = holds-from_without west place.gone played has in
        holds-without (missing question) place.gone played (is.deal.defenders played parts.0) parts.1
    of_seat E its has =
        let parts = holds-from_without (dealt question west E) place.gone played has in
        holds-without (missing question) place.gone played (holds-from_without
        (missing question) west played parts.0).0 parts.1

-- a defender's card is one of the missing cards that are left
pub their_left : (question : Question) (west : Cards) (history : History) (card : ℕ) → IsPlay question west history
    → is_declarer_turn (after question history).trick ≡ false
    → Contains (legal question west history) (Follow card)
    → holds (without (missing question) (after question history).gone) card ≡ true
their_left question west history card play waits found =
    let place : Position = after question history in
    left_kind question west place place.trick card (play_dealt question west history play) waits
    (move_kind question west place place.trick (Follow card) found)
