-- With what weights a defence names layouts by its play.
use Rattle.std.specs.Prelude.{◌≡◌, ℕ, ◌*◌, ◌<◌, ◌&&◌, Bool, true, false, List, [], ◌∷◌, ◌++◌, length, map, filter}
use Rattle.std.specs.Prelude.{sum_by, bytes_eq, if◌then◌else◌}
use Rattle.std.specs.List.{list_any}
use Rattle.suit_cards.specs.Cards.{Cards}
use Rattle.suit_game.specs.declared.question.Question.{Question}
use Rattle.suit_game.specs.declared.moves.Move.{Move}
use Rattle.suit_game.specs.declared.moves.Move.TheVariants.{Lead, Follow, ShowOut}
use Rattle.suit_game.specs.Fractions.{Fraction, IsExactly, weighted_sum}
use Rattle.suit_game.specs.Gains.{is_declarer_turn}
use Rattle.suit_game.specs.Histories.{History}
use Rattle.suit_game.specs.Layouts.{layouts, weight}
use Rattle.suit_game.specs.PlaceViews.{IsPlay}
use Rattle.suit_game.specs.Positions.{Position, after, legal, legal_at, start_place, step, without}
use Rattle.suit_game.specs.Question.{missing}
use Rattle.suit_game.specs.Strategies.{counted, same_move}
use Rattle.suit_classes.specs.Classes.{hands_of, class_of}
use Rattle.suit_classes.specs.ClassGame.{cards_in, counts_of, is_decided}
use Rattle.suit_classes.specs.ClassMoves.{merge, merged}
use Rattle.suit_plans.specs.declared.defence.Defence.{Defence}
use Rattle.suit_plans.specs.Masses.{defence_mass}
use Rattle.suit_plans.specs.Properness.{IsProperDefence}
use Rattle.suit_lift.specs.Lifts.{defence_way, fellows}

-- whether a move is one of some
abbrev pub is_one_of : List Move → Move → Bool
is_one_of moves move = list_any (same_move move) moves

-- whether each move of a play on from a position is legal where it comes
unfoldable pub is_legal_from : Question → Cards → Position → List Move → Bool
is_legal_from question west place [] = true
is_legal_from question west place (move ∷ moves) =
    is_one_of (legal_at question west place) move && is_legal_from question west (step question place move) moves

-- whether a history is legal under a layout
abbrev pub is_legal : Question → History → Cards → Bool
is_legal question history west = is_legal_from question west (start_place question) history

-- how many cards of the class of a defender's card are not played, where these are gone; showing out is alone
abbrev pub unplayed : Question → Cards → Move → ℕ
unplayed question gone (Follow card) =
    cards_in (hands_of question) (without (missing question) gone) (class_of (hands_of question) card)
unplayed question gone (Lead seat card) = 1
unplayed question gone ShowOut = 1

-- how many cards of its class the defender then holds
abbrev pub held : Question → Cards → History → Move → ℕ
held question west history move =
    length (fellows (hands_of question) (legal question west history) (merge (hands_of question) move))

-- a number for each move of the defenders' from a history on, multiplied
unfoldable pub product_from : Question → (History → Move → ℕ) → History → List Move → ℕ
product_from question number history [] = 1
product_from question number history (move ∷ moves) =
    (if is_declarer_turn (after question history).trick then 1 else number history move)
    * product_from question number (history ++ move ∷ []) moves

-- the unplayed numbers of a history, which rest on no layout, and its held numbers
abbrev pub unplayed_product : Question → History → ℕ
unplayed_product question history =
    product_from question (λ before move. unplayed question (after question before).gone move) [] history

abbrev pub held_product : Question → Cards → History → ℕ
held_product question west history = product_from question (held question west) [] history

-- the shares with which the lift of a defence made the defenders' moves of a history: their weights, over the weights
-- of all legal moves there
abbrev pub shares_made : Question → Defence → Cards → History → Fraction
shares_made question defence west history = record {
  num = product_from question (defence_way question defence west) [] history;
  den =
      product_from question (λ before move. sum_by (defence_way question defence west before)
      (legal question west before)) [] history;
}

-- the layouts with the counts of West's cards under which a history is legal
unfoldable pub layouts_naming : Question → Cards → History → List Cards
layouts_naming question west history =
    filter (λ other. bytes_eq (counts_of (hands_of question) other) (counts_of (hands_of question) west)
    && is_legal question history other) (layouts question)

-- no position before the end of a play is decided
unfoldable pub StaysUndecided : Question → History → List Move → Type 0
StaysUndecided question history [] = Unit {0}
StaysUndecided question history (move ∷ moves) =
    (is_decided question (after question history) ≡ false) × StaysUndecided question (history ++ move ∷ []) moves

-- as many layouts have West's counts and allow a history as have his counts, times the held numbers, over the
-- unplayed numbers
abbrev pub LayoutsNamed : Type 0
LayoutsNamed = (question : Question) (west : Cards) (history : History) → IsPlay question west history
    → unplayed_product question history * length (layouts_naming question west history)
    ≡ held_product question west history * length (layouts_naming question west [])

-- a layout's weight times the shares made is the mass of the merged history in its class layout,
-- over the denominator, the unplayed numbers and the number of those layouts
abbrev pub LayoutShare : Type 0
LayoutShare =
    (question : Question) (defence : Defence) (west : Cards) (history : History) → IsProperDefence question defence
    → IsPlay question west history
    → StaysUndecided question [] history
    → (0 < (shares_made question defence west history).den)
    × (weight question (length west) * (shares_made question defence west history).num
    * (counted defence.den * unplayed_product question history * length (layouts_naming question west history))
    ≡ counted (defence_mass question defence (counts_of (hands_of question) west) (merged
    (hands_of question) history)) * (shares_made question defence west history).den)

-- the weights of those layouts, each times the shares made under it, together
abbrev pub named_together : Question → Defence → Cards → History → Fraction
named_together question defence west history =
    weighted_sum
    (map (λ other. (weight question (length other), shares_made question defence other history))
    (layouts_naming question west history))

-- so the layouts of a class layout that allow a history are named together by its mass, over the denominator and the
-- unplayed numbers; no denominator is 0
abbrev pub NamingLaw : Type 0
NamingLaw =
    (question : Question) (defence : Defence) (west : Cards) (history : History) → IsProperDefence question defence
    → IsPlay question west history → StaysUndecided question [] history
    → (0 < (named_together question defence west history).den)
    × (0 < counted defence.den * unplayed_product question history)
    × IsExactly (named_together question defence west history)
    (counted (defence_mass question defence (counts_of (hands_of question) west) (merged (hands_of question) history)))
    (counted defence.den * unplayed_product question history)
