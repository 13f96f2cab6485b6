-- Where a class history that counts allow is not decided there is a move: some_move.
use Rattle.std.proofs.Common.{◌≡◌, Bool, true, false, List, [], ◌∷◌, refl, sym, ap, ◌∙◌, subst, map}
use Rattle.std.specs.Prelude.{if◌then◌else◌}
use Rattle.std.proofs.lemmas.Bool.{false≢true, or_parts}
use Rattle.suit_lists.proofs.Firsts.{HasFirst}
use Rattle.suit_cards.specs.Cards.{Cards, ClassLayout}
use Rattle.suit_game.specs.declared.question.Question.{Question}
use Rattle.suit_game.specs.declared.moves.Move.{Move}
use Rattle.suit_game.specs.Positions.{Position, Trick, after, follows_of, hand, is_empty, leads_at, legal_at, legal_in}
use Rattle.suit_game.specs.Positions.{Closed as NoTrick, Open as InTrick}
use Rattle.suit_classes.specs.declared.class_moves.ClassMove.{ClassMove}
use Rattle.suit_classes.specs.declared.class_turn.ClassTurn.{ClassTurn}
use Rattle.suit_classes.specs.declared.class_turn.ClassTurn.TheVariants as turns
use Rattle.suit_classes.specs.Classes.{hands_of}
use Rattle.suit_classes.specs.ClassGame.{Allows, MergesTo, decided_in, each_once, is_decided}
use Rattle.suit_classes.specs.ClassMoves.{ClassHistory, merge}
use Rattle.suit_classes.specs.ClassPlaces.{ClassView, class_after, class_decided, class_moves, class_turn, turn_of}
use Rattle.suit_classes.proofs.ClassGameAgrees.{class_places_tell_cards}

some_lead : (moves : List Move) → is_empty moves ≡ false → HasFirst moves
some_lead [] none = absurd (false≢true (sym none))
some_lead (move ∷ moves) some = record { first = move; more = moves; parts = refl }

some_follow : (cards : Cards) → HasFirst (follows_of cards)
some_follow [] = record { first = _; more = _; parts = refl }
some_follow (card ∷ cards) = record { first = _; more = _; parts = refl }

-- at a position that is not decided some move is legal
pub some_legal : (question : Question) (west : Cards) (place : Position) (trick : Trick)
    → decided_in question place trick ≡ false
    → HasFirst (legal_in question west place trick)
unfolding legal_in
some_legal question west place NoTrick undecided =
    some_lead (leads_at question place) (or_parts (is_empty (leads_at question place)) _ undecided).0
some_legal question west place (InTrick turn after winner highest) undecided =
    some_follow (hand question west place turn)

some_merged : (f : Move → ClassMove) (moves : List Move) → HasFirst moves → HasFirst (each_once (map f moves))
unfolding each_once
some_merged f moves some =
    record { first = f some.first; more = _; parts = ap (λ (l : List Move). each_once (map f l)) some.parts }

-- where counts of West's allow a history that is not decided there is a move
pub some_move : (question : Question) (counts : ClassLayout) (history : ClassHistory) → Allows question counts history
    → class_decided (class_after question history) ≡ false
    → HasFirst (class_moves (class_after question history) counts)
some_move question counts history allows undecided =
    let to : MergesTo question counts history allows.west allows.cards =
    record { play = allows.play; counted = allows.counted; merges = allows.merges } in
    let tells = class_places_tell_cards question counts history in
    let decided : is_decided question (after question allows.cards) ≡ false =
    sym (tells.decided_is allows.west allows.cards to) ∙ undecided in
    let place : Position = after question allows.cards in
    subst (HasFirst {X = ClassMove}) (sym (tells.moves_are allows.west allows.cards to))
    (some_merged (merge (hands_of question)) (legal_at question allows.west place)
    (some_legal question allows.west place place.trick decided))

-- a turn that is not over is no decided one
pub undecided_turn : (plays : ClassTurn → Bool) (decided : Bool) (turn : ClassTurn) → plays turns.Decided ≡ false
    → plays (if decided then turns.Decided else turn) ≡ true → decided ≡ false
undecided_turn plays true turn none on = absurd (false≢true (sym none ∙ on))
undecided_turn plays false turn none on = refl

-- so whoever plays at a turn, and not where play is decided, has a move there
pub turn_move : (question : Question) (plays : ClassTurn → Bool) (counts : ClassLayout) (history : ClassHistory)
    → plays turns.Decided ≡ false
    → Allows question counts history → plays (class_turn (class_after question history)) ≡ true
    → HasFirst (class_moves (class_after question history) counts)
turn_move question plays counts history none allows on =
    let view : ClassView = class_after question history in
    some_move question counts history allows (undecided_turn plays (class_decided view) (turn_of view.trick) none on)
