-- At a decided play every pay is the payoff (decided_pay).
use Rattle.std.proofs.Common.{◌≡◌, ℕ, true, List, [], ◌∷◌, ◌++◌, refl, sym, ap, ◌∙◌, subst, arith}
use Rattle.std.specs.Prelude.{Contains, fold}
use Rattle.suit_cards.specs.Cards.{Cards}
use Rattle.suit_game.specs.declared.question.Question.{Question}
use Rattle.suit_game.specs.declared.moves.Move.{Move}
use Rattle.suit_game.specs.Fractions.{IsAtLeast, IsAtMost}
use Rattle.suit_game.specs.Gains.{pay}
use Rattle.suit_game.specs.Histories.{History}
use Rattle.suit_game.specs.Positions.{LegalFrom, Position, after, legal_at, payoff, step}
use Rattle.suit_game.specs.PlaceViews.{IsPlay}
use Rattle.suit_game.specs.Strategies.{DefenceWay, Way}
use Rattle.suit_game.specs.declared.limits.TheConstants.{MOST_MOVES}
use Rattle.suit_game.proofs.PaysKeepWhatMovesKeep.{pay_within-kept}
use Rattle.suit_game.proofs.MeansLieBetween.{mean-least, mean-most}
use Rattle.std.proofs.lemmas.List.Sums.{fold_push}
use Rattle.suit_classes.specs.ClassGame.{is_decided}
use Rattle.suit_classes.proofs.DecidedStaysDecided.{decided_stays}

-- a position that legal play comes to from another
record IsFrom (question : Question) (west : Cards) (start place : Position) : Type 0 where
  moves : List Move
  legal : LegalFrom question west start moves
  there : fold (step question) start moves ≡ place

from_more : (question : Question) (west : Cards) (start : Position) (moves : List Move) (move : Move)
    → LegalFrom question west start moves
    → Contains (legal_at question west (fold (step question) start moves)) move
    → LegalFrom question west start (moves ++ move ∷ [])
unfolding LegalFrom
from_more question west start [] move legal found = (found, tt)
from_more question west start (first ∷ moves) move legal found =
    (legal.0, from_more question west (step question start first) moves move legal.1 found)

from_later : (question : Question) (west : Cards) (start place : Position) (move : Move)
    → IsFrom question west start place
    → Contains (legal_at question west place) move → IsFrom question west start (step question place move)
from_later question west start place move come found = record {
  moves = come.moves ++ move ∷ [];
  legal = from_more question west start come.moves move come.legal
      (subst (λ (p : Position). Contains (legal_at question west p) move) (sym come.there) found);
  there = fold_push (step question) start come.moves move ∙ ap (λ (p : Position). step question p move) come.there;
}

from_first : (question : Question) (west : Cards) (start : Position) → IsFrom question west start start
unfolding LegalFrom
from_first question west start = record { moves = []; legal = tt; there = refl }

module _ (question : Question) (declarer : Way) (defence : DefenceWay) (west : Cards) (history : History)
    (play : IsPlay question west history)
    (decided : is_decided question (after question history) ≡ true) where
  worth_same : (place : Position) → IsFrom question west (after question history) place
      → payoff question.goal place.won ≡ payoff question.goal (after question history).won
  worth_same place come =
      ap (λ (p : Position). payoff question.goal p.won) (sym come.there)
      ∙ decided_stays question west history come.moves play decided come.legal

  -- whatever the ways
  pub decided_pay : IsAtLeast (pay question declarer defence west history) (payoff question.goal
      (after question history).won) 1
      × IsAtMost (pay question declarer defence west history) (payoff question.goal (after question history).won) 1
  decided_pay =
      let won : ℕ = payoff question.goal (after question history).won in (
        pay_within-kept question declarer defence west (IsFrom question west (after question history))
            (λ fraction. IsAtLeast fraction won 1) (record {
              payoffs = λ place come. omega (arith, worth_same place come);
              moves = from_later question west (after question history);
              means = mean-least won 1;
            }) MOST_MOVES history (from_first question west (after question history)),
        pay_within-kept question declarer defence west (IsFrom question west (after question history))
            (λ fraction. IsAtMost fraction won 1) (record {
              payoffs = λ place come. omega (arith, worth_same place come);
              moves = from_later question west (after question history);
              means = mean-most won 1;
            }) MOST_MOVES history (from_first question west (after question history)),
      )
