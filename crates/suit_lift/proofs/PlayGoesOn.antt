-- What holds of a play that is not decided (IsOn).
use Rattle.std.proofs.Common.{◌≡◌, ◌<◌, Bool, false, not, [], ◌∷◌, ◌++◌, length, refl, sym, ap, ◌∙◌, arith}
use Rattle.std.specs.Prelude.{Contains, if◌then◌else◌}
use Rattle.std.proofs.lemmas.Bool.{or_parts}
use Rattle.std.proofs.lemmas.List.{length-append, length-map}
use Rattle.suit_lists.proofs.Elements.{Contains-first, Contains-same}
use Rattle.suit_lists.proofs.Firsts.{HasFirst}
use Rattle.suit_cards.specs.Cards.{Cards}
use Rattle.suit_cards.specs.declared.seats.Seat.TheVariants.{N, E, S, W}
use Rattle.suit_game.specs.declared.question.Question.{Question}
use Rattle.suit_game.specs.declared.turn.Turn.TheVariants as games
use Rattle.suit_game.specs.Gains.{is_declarer_turn}
use Rattle.suit_game.specs.Histories.{History}
use Rattle.suit_game.specs.Positions.{Position, Trick, Closed, Open, after, ended_in, has_ended, is_empty, leads_at}
use Rattle.suit_game.specs.Positions.{legal}
use Rattle.suit_game.specs.PlaceViews.{IsPlay, turn_on}
use Rattle.suit_game.specs.declared.limits.TheConstants.{MOST_MOVES}
use Rattle.suit_game.proofs.LegalPlays.{legal_moves_extend}
use Rattle.suit_game.proofs.LongestPlay.{histories_are_short}
use Rattle.suit_game.proofs.PayDenominators.{legal_at-some}
use Rattle.suit_classes.specs.declared.class_turn.ClassTurn.TheVariants as turns
use Rattle.suit_classes.specs.Classes.{hands_of}
use Rattle.suit_classes.specs.ClassGame.{class_turn_for, counts_of, decided_in, is_decided, merged_moves}
use Rattle.suit_classes.specs.ClassMoves.{merge, merged}
use Rattle.suit_classes.specs.declared.class_view.ClassView.{ClassView}
use Rattle.suit_classes.specs.ClassPlaces.{class_after, class_decided, class_moves, class_turn}
use Rattle.suit_classes.proofs.ClassGameAgrees.{class_game_agrees}
use Rattle.suit_plans.specs.Masses.{is_declarers, is_defences}

-- the place of the class game after the class history that a history merges to
abbrev pub view_after : Question → History → ClassView
view_after question history = class_after question (merged (hands_of question) history)

-- play goes on, both games have the same side on turn and the same moves, and there is one
pub record IsOn (question : Question) (west : Cards) (history : History) : Type 0 where
  pub undecided : class_decided (view_after question history) ≡ false
  pub goes : has_ended question (after question history) ≡ false
  pub declarers : is_declarers (class_turn (view_after question history))
      ≡ is_declarer_turn (after question history).trick
  pub defences : is_defences (class_turn (view_after question history))
      ≡ not (is_declarer_turn (after question history).trick)
  pub moves : class_moves (view_after question history) (counts_of (hands_of question) west)
      ≡ merged_moves question west history
  pub some : HasFirst (legal question west history)
  pub few : length (merged (hands_of question) history) < MOST_MOVES

goes_in : (question : Question) (place : Position) (trick : Trick) → decided_in question place trick ≡ false
    → ended_in question place trick ≡ false
goes_in question place Closed undecided = (or_parts (is_empty (leads_at question place)) _ undecided).0
goes_in question place (Open turn after winner highest) undecided = refl

declarers_on : (trick : Trick) → is_declarers (class_turn_for (turn_on trick)) ≡ is_declarer_turn trick
declarers_on Closed = refl
declarers_on (Open N after winner highest) = refl
declarers_on (Open E after winner highest) = refl
declarers_on (Open S after winner highest) = refl
declarers_on (Open W after winner highest) = refl

defences_on : (trick : Trick) → is_defences (class_turn_for (turn_on trick)) ≡ not (is_declarer_turn trick)
defences_on Closed = refl
defences_on (Open N after winner highest) = refl
defences_on (Open E after winner highest) = refl
defences_on (Open S after winner highest) = refl
defences_on (Open W after winner highest) = refl

-- an undecided play is on
pub is_on : (question : Question) (west : Cards) (history : History) → IsPlay question west history
    → is_decided question (after question history) ≡ false
    → IsOn question west history
is_on question west history play undecided =
    let place : Position = after question history in
    let agrees = class_game_agrees question west history play in
    let goes : has_ended question place ≡ false = goes_in question place place.trick undecided in
    let some = legal_at-some question west place goes in
    let found : Contains (legal question west history) some.0 = Contains-same some.0
    (sym some.2) (Contains-first some.0 some.1) in
    let turn : class_turn (view_after question history) ≡ class_turn_for (turn_on place.trick) =
    agrees.turn
    ∙ ap (λ (b : Bool). if b then turns.Decided else class_turn_for
    (if has_ended question place then games.Over else turn_on place.trick)) undecided
    ∙ ap (λ (b : Bool). class_turn_for (if b then games.Over else turn_on place.trick)) goes in
    record {
      undecided = agrees.decided ∙ undecided;
      goes = goes;
      declarers = ap is_declarers turn ∙ declarers_on place.trick;
      defences = ap is_defences turn ∙ defences_on place.trick;
      moves = agrees.moves;
      some = record { first = some.0; more = some.1; parts = some.2 };
      few = omega (
        arith,
        length-map history (merge (hands_of question)),
        length-append history (some.0 ∷ []),
        histories_are_short question west (history ++ some.0 ∷ []) play.valid.north play.valid.south play.valid.apart
            (legal_moves_extend question west history some.0 play.legal found),
      );
    }
