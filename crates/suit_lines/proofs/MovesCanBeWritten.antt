-- The moves of a question can be written: public_writable.
use Rattle.std.proofs.Common.{List, [], ◌∷◌, ◌++◌, map, subst}
use Rattle.std.specs.Prelude.{Contains, if◌then◌else◌}
use Rattle.std.specs.List.{AllByRecursion}
use Rattle.std.proofs.lemmas.List.Elements.{recursion_from_All}
use Rattle.suit_lists.proofs.Elements.{Contains-same, each_append, each_at, each_gives, each_unless}
use Rattle.suit_lists.proofs.Maps.{Contains-map_from, each_map}
use Rattle.suit_cards.specs.declared.seats.Seat.TheVariants.{N, S}
use Rattle.suit_cards.specs.Cards.{Cards, ClassLayout}
use Rattle.suit_cards.specs.Holdings.{IsHolding}
use Rattle.suit_cards.specs.Ranks.{IsRank}
use Rattle.suit_cards.proofs.HoldingIsWhatItHolds.{All-IsRank}
use Rattle.suit_game.specs.declared.question.Question.{Question}
use Rattle.suit_game.specs.declared.moves.Move.{Move}
use Rattle.suit_game.specs.declared.moves.Move.TheVariants as cards
use Rattle.suit_game.specs.Positions.{Closed as NoTrick, Open as InTrick, Position, Trick, after, declarer_hand}
use Rattle.suit_game.specs.Positions.{follows_of, hand, legal, legal_in, may_lead_n, may_lead_s}
use Rattle.suit_game.specs.Positions.{dealt, without}
use Rattle.suit_game.specs.Validity.{IsValid}
use Rattle.suit_classes.specs.declared.class_moves.ClassMove.{ClassMove}
use Rattle.suit_classes.specs.Classes.{class_count, hands_of}
use Rattle.suit_classes.specs.ClassGame.{Allows, MergesTo}
use Rattle.suit_classes.specs.ClassMoves.{ClassHistory, merge}
use Rattle.suit_classes.specs.ClassPlaces.{class_after, class_moves}
use Rattle.suit_classes.proofs.ClassGameAgrees.{class_places_tell_cards}
use Rattle.suit_classes.proofs.AllowedMoveByMove.{Contains-each_once}
use Rattle.suit_classes.proofs.ClassNumbers.{class_of-below}
use Rattle.suit_classes.proofs.OneSideHoldsAClass.{IsDealt, IsHolding-dealt, IsHolding-without}
use Rattle.suit_classes.proofs.ClassPlaceFollowsPlay.{play_dealt}
use Rattle.suit_plans.specs.BestReplies.{public_moves}
use Rattle.suit_plans.proofs.PublicMoves.{allowing_before, allowing_parts, public_allowed, some_layout}
use Rattle.suit_answer.specs.Writable.{IsWritableMove}

module _ (question : Question) where
  -- a move of single cards is merged to one that can be written
  abbrev IsNamed : Move → Type 0
  IsNamed move = IsWritableMove (class_count (hands_of question)) (merge (hands_of question) move)

  each_lead_n : (held : Cards) → AllByRecursion IsRank held → AllByRecursion IsNamed (map (cards.Lead N) held)
  each_lead_n held ranks =
      each_map IsNamed (cards.Lead N) held
      (each_gives IsRank (λ rank. IsNamed (cards.Lead N rank)) held
      (λ rank is. class_of-below (hands_of question) rank is) ranks)

  each_lead_s : (held : Cards) → AllByRecursion IsRank held → AllByRecursion IsNamed (map (cards.Lead S) held)
  each_lead_s held ranks =
      each_map IsNamed (cards.Lead S) held
      (each_gives IsRank (λ rank. IsNamed (cards.Lead S rank)) held
      (λ rank is. class_of-below (hands_of question) rank is) ranks)

  each_follow : (held : Cards) → AllByRecursion IsRank held → AllByRecursion IsNamed (follows_of held)
  each_follow [] ranks = (tt, tt)
  each_follow (card ∷ held) ranks =
      each_map IsNamed cards.Follow (card ∷ held)
      (each_gives IsRank (λ rank. IsNamed (cards.Follow rank)) (card ∷ held)
      (λ rank is. class_of-below (hands_of question) rank is) ranks)

  ranks_held : (held gone : Cards) → IsHolding held
      → AllByRecursion IsRank (without held gone)
  ranks_held held gone is =
      recursion_from_All IsRank (without held gone)
      (All-IsRank (without held gone) (IsHolding-without held gone is))

  each_legal : (west : Cards) (place : Position) (trick : Trick) → IsDealt question west
      → AllByRecursion IsNamed (legal_in question west place trick)
  unfolding legal_in
  each_legal west place NoTrick is =
      let north : List Move = map (cards.Lead N) (declarer_hand question place N) in
      let south : List Move = map (cards.Lead S) (declarer_hand question place S) in
      each_append IsNamed (if may_lead_n place then north else []) (if may_lead_s place then south else [])
      (each_unless IsNamed (may_lead_n place) north
      (each_lead_n (declarer_hand question place N) (ranks_held question.north place.gone is.deal.north)))
      (each_unless IsNamed (may_lead_s place) south
      (each_lead_s (declarer_hand question place S) (ranks_held question.south place.gone is.deal.south)))
  each_legal west place (InTrick turn after winner highest) is =
      each_follow (hand question west place turn)
      (ranks_held (dealt question west turn) place.gone
      (IsHolding-dealt question west turn is))

  -- so can the class moves after a class history
  class_move_writable : (counts : ClassLayout) (history : ClassHistory) (move : ClassMove)
      → Allows question counts history
      → Contains (class_moves (class_after question history) counts) move
      → IsWritableMove (class_count (hands_of question)) move
  class_move_writable counts history move allows found =
      let to : MergesTo question counts history allows.west allows.cards =
      record { play = allows.play; counted = allows.counted; merges = allows.merges } in
      let same = (class_places_tell_cards question counts history).moves_are allows.west allows.cards to in
      let place : Position = after question allows.cards in
      let from = Contains-map_from (merge (hands_of question)) (legal question allows.west allows.cards) move
      (Contains-each_once (map (merge (hands_of question)) (legal question allows.west allows.cards)) move
      (Contains-same move same found)) in
      subst (IsWritableMove (class_count (hands_of question))) from.2
      (each_at IsNamed (legal question allows.west allows.cards) from.0
      (each_legal allows.west place place.trick (play_dealt question allows.west allows.cards allows.play)) from.1)

-- and those with which a class history goes on
pub public_writable : (question : Question) (history : ClassHistory) (move : ClassMove) → IsValid question
    → Contains (public_moves question history) move → IsWritableMove (class_count (hands_of question)) move
public_writable question history move valid found =
    let some = some_layout question valid (history ++ move ∷ []) (public_allowed question valid history move found) in
    let before = allowing_before question valid history move some.0 some.1 in
    class_move_writable question some.0.0 history move (allowing_parts question valid history some.0 before.0).1
    before.1
