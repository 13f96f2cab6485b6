-- Past a decided position no play changes what the tricks are worth, and class histories are short.
use Rattle.std.proofs.Common.{◌≡◌, ℕ, ◌+◌, ◌<◌, ◌≤◌, max, true, List, [], ◌∷◌, length, refl, ap, inl, inr, arith}
use Rattle.std.specs.Prelude.{fold, nat_lt, nat_le, Contains}
use Rattle.std.proofs.lemmas.Bool.{or_cases, ltb-true, leb-true, le-leb, lt-leb, false≢true}
use Rattle.std.proofs.lemmas.List.{length-map}
use Rattle.suit_lists.proofs.Elements.{Contains-nil, Contains-same}
use Rattle.suit_game.specs.Histories.{History}
use Rattle.suit_cards.specs.Cards.{Cards, ClassLayout}
use Rattle.suit_cards.specs.declared.seats.Seat.TheVariants.{N, S}
use Rattle.suit_game.specs.declared.question.Question.{Question}
use Rattle.suit_game.specs.declared.question.Goal.{Goal}
use Rattle.suit_game.specs.declared.question.Goal.TheVariants.{AtLeast, Tricks}
use Rattle.suit_game.specs.declared.moves.Move.{Move}
use Rattle.suit_game.specs.Positions.{Position, Trick, Closed, Open, LegalFrom, after, hand, is_empty, leads_at}
use Rattle.suit_game.specs.Positions.{legal_in, payoff, step}
use Rattle.suit_game.specs.PlaceViews.{IsPlay}
use Rattle.suit_game.specs.Reached.{IsWithin, turns_had}
use Rattle.suit_game.proofs.LongestPlay.{histories_are_short}
use Rattle.suit_game.proofs.WonTricks.{won_stays_within}
use Rattle.suit_classes.specs.Classes.{hands_of}
use Rattle.suit_classes.specs.ClassGame.{Allows, decided_in, is_decided, is_goal_settled}
use Rattle.suit_classes.specs.ClassMoves.{ClassHistory, merge}
use Rattle.suit_classes.proofs.ClassPlaceFollowsPlay.{play_dealt}
use Rattle.suit_game.specs.declared.limits.TheConstants.{MOST_MOVES}

settled_worth : (goal : Goal) (won longer later : ℕ) → is_goal_settled goal won longer ≡ true → won ≤ later
    → later ≤ won + longer → payoff goal later ≡ payoff goal won
settled_worth Tricks won longer later settled least most = absurd (false≢true settled)
settled_worth (AtLeast least) won longer later settled low high =
    elim (or_cases (nat_le least won) (nat_lt (won + longer) least) settled) [
      | inl met ↦
          let enough : least ≤ won = leb-true least won met in
          rw (le-leb least later (omega arith), met) refl
      | inr lost ↦
          let short : won + longer < least = ltb-true (won + longer) least lost in
          rw (lt-leb least later (omega arith), lt-leb least won (omega arith)) refl
    ]

nothing_left : (moves : List Move) → is_empty moves ≡ true → moves ≡ []
nothing_left [] none = refl
nothing_left (move ∷ moves) none = absurd (false≢true none)

none_legal : (question : Question) (west : Cards) (place : Position) (trick : Trick) (move : Move) → trick ≡ Closed
    → is_empty (leads_at question place) ≡ true
    → Contains (legal_in question west place trick) move → ⊥
unfolding legal_in
none_legal question west place Closed move closed none found =
    Contains-nil move (Contains-same move (nothing_left (leads_at question place) none) found)
none_legal question west place (Open turn after winner highest) move closed none found = absurd (cc)

ended_stays : (question : Question) (west : Cards) (place : Position) (moves : List Move) → place.trick ≡ Closed
    → is_empty (leads_at question place) ≡ true
    → LegalFrom question west place moves
    → payoff question.goal (fold (step question) place moves).won ≡ payoff question.goal place.won
unfolding LegalFrom
ended_stays question west place [] closed none legal = refl
ended_stays question west place (move ∷ moves) closed none legal =
    absurd (none_legal question west place place.trick move closed none legal.0)

stays_in : (question : Question) (west : Cards) (place : Position) (moves : List Move) (trick : Trick)
    → place.trick ≡ trick → decided_in question place trick ≡ true
    → LegalFrom question west place moves → IsWithin question place (fold (step question) place moves)
    → payoff question.goal (fold (step question) place moves).won ≡ payoff question.goal place.won
stays_in question west place moves Closed closed decided legal within =
    elim (or_cases (is_empty (leads_at question place))
    (is_goal_settled question.goal place.won
    (max (length (hand question [] place N)) (length (hand question [] place S)))) decided) [
      | inl none ↦ ended_stays question west place moves closed none legal
      | inr settled ↦
          let no_n : turns_had place.trick N ≡ 0 = ap (λ (t : Trick). turns_had t N) closed in
          let no_s : turns_had place.trick S ≡ 0 = ap (λ (t : Trick). turns_had t S) closed in
          settled_worth question.goal place.won
          (max (length (hand question [] place N)) (length (hand question [] place S)))
          (fold (step question) place moves).won settled
          within.won_least (omega (arith, within.won_most, no_n, no_s))
    ]
stays_in question west place moves (Open turn after winner highest) is decided legal within =
    absurd (false≢true decided)

-- past a decided position no play changes what the tricks are worth
pub decided_stays : (question : Question) (west : Cards) (history moves : History) → IsPlay question west history
    → is_decided question (after question history) ≡ true
    → LegalFrom question west (after question history) moves
    → payoff question.goal (fold (step question) (after question history) moves).won ≡ payoff question.goal
    (after question history).won
decided_stays question west history moves play decided legal =
    stays_in question west (after question history) moves (after question history).trick refl decided legal
    (won_stays_within question west history moves (play_dealt question west history play).deal play.legal legal)

-- no allowed class history has more than 52 moves
pub class_histories_are_short : (question : Question) (counts : ClassLayout) (history : ClassHistory)
    → Allows question counts history → length history ≤ MOST_MOVES
class_histories_are_short question counts history allows =
    omega (
      arith,
      ap length allows.merges,
      length-map allows.cards (merge (hands_of question)),
      histories_are_short question allows.west allows.cards allows.play.valid.north allows.play.valid.south
          allows.play.valid.apart allows.play.legal,
    )
