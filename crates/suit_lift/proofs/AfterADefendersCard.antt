-- What a defender's card does to the mass, to the layouts that are alike and to the weights (weight_step).
use Rattle.std.proofs.Common.{◌≡◌, ℕ, ◌*◌, ◌<◌, false, List, [], ◌∷◌, ◌++◌, length, map, refl, sym, ap, ◌∙◌, subst}
use Rattle.std.proofs.Common.{arith}
use Rattle.std.specs.Prelude.{Contains, not}
use Rattle.std.specs.List.{sum_by}
use Rattle.std.proofs.Math.Nat.{mul-pos}
use Rattle.std.proofs.lemmas.Bool.{false≢true}
use Rattle.suit_lists.proofs.Maps.{Contains-map}
use Rattle.suit_cards.specs.Cards.{Cards}
use Rattle.suit_game.specs.declared.question.Question.{Question}
use Rattle.suit_game.specs.declared.moves.Move.{Move}
use Rattle.suit_game.specs.declared.moves.Move.TheVariants.{Follow, ShowOut}
use Rattle.suit_game.specs.Gains.{is_declarer_turn}
use Rattle.suit_game.specs.Histories.{History}
use Rattle.suit_game.specs.PlaceViews.{IsPlay}
use Rattle.suit_game.specs.Positions.{Position, Trick, after, follows_of, hand, legal, legal_in, step_in}
use Rattle.suit_game.specs.Strategies.{counted}
use Rattle.suit_game.proofs.LegalPlays.{after_move}
use Rattle.suit_classes.specs.declared.class_moves.ClassMove.{ClassMove}
use Rattle.suit_classes.specs.Classes.{Hands, hands_of, class_of}
use Rattle.suit_classes.specs.ClassGame.{cards_in, counts_of}
use Rattle.suit_classes.specs.ClassMoves.{merge, merged}
use Rattle.suit_classes.proofs.AllowedMoveByMove.{each_once-Contains, merged-push}
use Rattle.suit_classes.proofs.ClassPlaceFollowsPlay.{play_dealt}
use Rattle.suit_plans.specs.declared.defence.Defence.{Defence}
use Rattle.suit_plans.specs.Masses.{defence_shares_at, defence_mass, defenders}
use Rattle.suit_plans.specs.PlanLaws.{AreRealised}
use Rattle.suit_plans.specs.Properness.{IsProperDefence}
use Rattle.suit_plans.proofs.ProperDefences.{defence_sound}
use Rattle.suit_plans.proofs.SideIsRealised.{sound_realised}
use Rattle.suit_lift.specs.Lifts.{common, defence_share, defence_way, fellows}
use Rattle.suit_lift.specs.Naming.{unplayed}
use Rattle.suit_lift.proofs.HowManyAreAlike.{alike_layouts, alike_step}
use Rattle.suit_lift.proofs.FellowsOfAClass.{class_moves_at, held_among, out_among, shares_at, weights_total}
use Rattle.suit_lift.proofs.WeightsAreShares.{defence_weights_are_shares}
use Rattle.suit_lift.proofs.WhatAMoveTakes.{MoveKind, OwnCard, OwnOut, TheirCard, TheirOut, move_kind}
use Rattle.suit_lift.proofs.LiftPaysItsWorth.{common_some}
use Rattle.suit_lift.proofs.SharesAreMasses.{IsSharedOut, side_shares}
use Rattle.suit_lift.proofs.PlayGoesOn.{IsOn}

-- a proper defence is a realisation plan also in a class layout without weight
pub defence_realised : (question : Question) (defence : Defence) (counts : Cards) → IsProperDefence question defence
    → AreRealised question (defenders question defence.den defence.rows counts) counts
defence_realised question defence counts proper =
    sound_realised question (defenders question defence.den defence.rows counts) counts
    (defence_sound question defence counts proper) (λ history plays. refl)

count_kind : (question : Question) (west : Cards) (place : Position) (trick : Trick) (move : Move)
    (history : History) → IsPlay question west history → place ≡ after question history
    → is_declarer_turn trick ≡ false → MoveKind question west place trick move
    → unplayed question place.gone move * length (alike_layouts question west (step_in question place trick move).gone)
    ≡ length (fellows (hands_of question) (legal_in question west place trick) (merge (hands_of question) move))
    * length (alike_layouts question west place.gone)
count_kind question west place trick move history play at waits (OwnCard card own later away) =
    absurd (false≢true (sym waits ∙ own))
count_kind question west place trick move history play at waits (OwnOut own later) =
    absurd (false≢true (sym waits ∙ own))
count_kind question west place trick move history play at waits (TheirCard turn card theirs seat lists is held later) =
    let hands : Hands = hands_of question in
    let among : length (fellows hands (legal_in question west place trick) (merge hands (Follow card)))
    ≡ cards_in hands (hand question west place turn) (class_of hands card) =
    ap (λ (l : List Move). length (fellows hands l (merge hands (Follow card)))) (lists west)
    ∙ held_among hands (hand question west place turn) card held in
    subst (λ (m : Move). unplayed question place.gone m
    * length (alike_layouts question west (step_in question place trick move).gone)
    ≡ length (fellows hands (legal_in question west place trick) (merge hands m))
    * length (alike_layouts question west place.gone)) (sym is)
    (ap (λ (l : Cards). unplayed question place.gone (Follow card) * length (alike_layouts question west l)) later
    ∙ alike_step question west place.gone (play_dealt question west history play) play.layout card turn seat held
    ∙ ap (λ (n : ℕ). n * length (alike_layouts question west place.gone)) (sym among))
count_kind question west place trick move history play at waits (TheirOut turn theirs seat lists is none later) =
    let hands : Hands = hands_of question in
    let among : length (fellows hands (legal_in question west place trick) (merge hands ShowOut)) ≡ 1 =
    ap (λ (l : List Move). length (fellows hands l (merge hands ShowOut))) (lists west ∙ ap follows_of none)
    ∙ out_among hands in
    subst (λ (m : Move). unplayed question place.gone m
    * length (alike_layouts question west (step_in question place trick move).gone)
    ≡ length (fellows hands (legal_in question west place trick) (merge hands m))
    * length (alike_layouts question west place.gone)) (sym is)
    (ap (λ (l : Cards). 1 * length (alike_layouts question west l)) later ∙ ap (λ (n : ℕ). n
    * length (alike_layouts question west place.gone)) (sym among))

-- the unplayed cards times the layouts that are alike then are the held cards times those before
pub count_step : (question : Question) (west : Cards) (history : History) (move : Move) → IsPlay question west history
    → is_declarer_turn (after question history).trick ≡ false → Contains (legal question west history) move
    → unplayed question (after question history).gone move
    * length (alike_layouts question west (after question (history ++ move ∷ [])).gone)
    ≡ length (fellows (hands_of question) (legal question west history) (merge (hands_of question) move))
    * length (alike_layouts question west (after question history).gone)
count_step question west history move play waits found =
    let place : Position = after question history in
    ap (λ (p : Position). unplayed question place.gone move
    * length (alike_layouts question west p.gone)) (after_move question history move)
    ∙ count_kind question west place place.trick move history play refl waits
    (move_kind question west place place.trick move found)

weights_meet : (w among c s u a' a m m' whole total : ℕ) → w * among ≡ c * s → u * a' ≡ among * a → m' * whole ≡ s
    * m → total ≡ c * whole
    → u * (w * m) * a' ≡ total * m' * a
weights_meet w among c s u a' a m m' whole total linked stepped shared sum =
    let first : w * m * (u * a') ≡ w * m * (among * a) = ap (λ (n : ℕ). w * m * n) stepped in
    let second : w * among * (m * a) ≡ c * s * (m * a) = ap (λ (n : ℕ). n * (m * a)) linked in
    let third : m' * whole * (c * a) ≡ s * m * (c * a) = ap (λ (n : ℕ). n * (c * a)) shared in
    rw sum (omega (arith, first, second, third))

module _ (question : Question) (defence : Defence) (west : Cards) (history : History)
    (proper : IsProperDefence question defence) (play : IsPlay question west history)
    (on : IsOn question west history) (waits : is_declarer_turn (after question history).trick ≡ false) where
  -- the mass of a class history in West's class layout
  abbrev pub mass_at : List ClassMove → ℕ
  mass_at line = counted (defence_mass question defence (counts_of (hands_of question) west) line)

  shared_out : IsSharedOut (defence_shares_at defence.rows (counts_of (hands_of question) west) (merged
      (hands_of question) history))
      (map (merge (hands_of question)) (legal question west history)) (defence_mass question defence (counts_of
      (hands_of question) west) (merged (hands_of question) history))
      (λ move. defence_mass question defence (counts_of (hands_of question) west) (merged
      (hands_of question) history ++ move ∷ []))
  unfolding defence_mass
  shared_out =
      side_shares question (defenders question defence.den defence.rows (counts_of
      (hands_of question) west)) west history play on
      (defence_realised question defence (counts_of (hands_of question) west) proper) (on.defences
      ∙ ap not waits) on.moves

  pub weights_some : 0 < sum_by (defence_way question defence west history) (legal question west history)
  weights_some = rw (weights_total question defence west history play waits) (mul-pos common_some shared_out.some)

  -- the weight of a card, the mass and the layouts that are alike, before the card and after it
  pub weight_step : (move : Move) → Contains (legal question west history) move
      → unplayed question (after question history).gone move * (defence_way question defence west history move
      * mass_at (merged (hands_of question) history))
      * length (alike_layouts question west (after question (history ++ move ∷ [])).gone)
      ≡ sum_by (defence_way question defence west history) (legal question west history)
      * mass_at (merged (hands_of question) (history ++ move ∷ []))
      * length (alike_layouts question west (after question history).gone)
  unfolding defence_share
  weight_step move found =
      let hands : Hands = hands_of question in
      let moves : List Move = legal question west history in
      let class : ClassMove = merge hands move in
      let there = each_once-Contains (map (merge hands) moves) class (Contains-map (merge hands) moves move found) in
      let later : mass_at (merged hands (history ++ move ∷ []))
      * sum_by (shares_at question defence west history play waits)
      (class_moves_at question defence west history play waits)
      ≡ shares_at question defence west history play waits class * mass_at (merged hands history) =
      ap (λ (l : List ClassMove). mass_at l * sum_by (shares_at question defence west history play waits)
      (class_moves_at question defence west history play waits)) (merged-push hands history move)
      ∙ shared_out.each class there in
      weights_meet (defence_way question defence west history move) (length (fellows hands moves class)) common
      (shares_at question defence west history play waits class)
      (unplayed question (after question history).gone move) (length (alike_layouts question west (after question
      (history ++ move ∷ [])).gone))
      (length (alike_layouts question west (after question history).gone)) (mass_at (merged hands history)) (mass_at
      (merged hands (history ++ move ∷ [])))
      (sum_by (shares_at question defence west history play waits)
      (class_moves_at question defence west history play waits))
      (sum_by (defence_way question defence west history) moves)
      (defence_weights_are_shares question defence west history move play waits found)
      (count_step question west history move play waits found) later
      (weights_total question defence west history play waits)
