-- What legal moves keep, and means keep, holds of every pay.
use Rattle.std.proofs.Common.{◌≡◌, ℕ, zero, suc, ◌≤◌, ◌∷◌, ◌++◌, List, [], cond, refl, sym, ap, ◌∙◌, subst, arith}
use Rattle.std.specs.Prelude.{Contains}
use Rattle.std.specs.List.{AllByRecursion}
use Rattle.std.proofs.lemmas.Bool.{cond_both}
use Rattle.suit_game.specs.declared.question.Question.{Question}
use Rattle.suit_game.specs.declared.moves.Move.{Move}
use Rattle.suit_game.specs.Fractions.{Fraction, whole, mean, IsAtLeast, IsAtMost}
use Rattle.suit_game.specs.Gains.{is_declarer_turn, pay, pay_within}
use Rattle.suit_game.specs.Positions.{Position, after, step, legal, legal_at, IsLegal, has_ended, payoff}
use Rattle.suit_game.specs.Strategies.{Way, DefenceWay, Weighed}
use Rattle.suit_game.specs.Deals.{IsDeal}
use Rattle.suit_game.proofs.LegalPlays.{after_move, legal_moves_extend}
use Rattle.suit_game.proofs.EachPlaceIsReached.{thirteen_tricks}
use Rattle.suit_game.proofs.MeansLieBetween.{mean-least, mean-most}
use Rattle.suit_game.proofs.ChosenIsLegal.{chosen_each}
use Rattle.suit_game.specs.declared.limits.TheConstants.{HAND_SIZE, MOST_MOVES}
use Rattle.suit_lists.proofs.Elements.{each_in}
use Rattle.suit_lists.proofs.Maps.{each_map}

-- a fact of positions that legal moves keep, and a fact of fractions that it gives of payoffs and that means keep
pub record Keeps (question : Question) (west : List ℕ) (At : Position → Type 0) (Good : Fraction
    → Type 0) : Type 0 where
  pub payoffs : (place : Position) → At place → Good (whole (payoff question.goal place.won))
  pub moves : (place : Position) (move : Move) → At place → Contains (legal_at question west place) move
      → At (step question place move)
  pub means : (items : List (ℕ × Fraction)) → AllByRecursion (λ item. Good item.1) items → Good (mean items)

-- then the second holds of each pay from a position of which the first does
pub pay_within-kept : (question : Question) (declarer : Way) (defence : DefenceWay) (west : List ℕ) (At : Position
    → Type 0) (Good : Fraction → Type 0)
    → Keeps question west At Good
    → (n : ℕ) (history : List Move) → At (after question history)
    → Good (pay_within n question declarer defence west history)
unfolding pay_within
pay_within-kept question declarer defence west At Good keeps zero history at = keeps.payoffs (after question history) at
pay_within-kept question declarer defence west At Good keeps (suc n) history at =
    cond_both (has_ended question (after question history)) _ _ Good
    (λ over. keeps.payoffs (after question history) at)
    (λ going. keeps.means _
    (each_map (λ item. Good item.1) (λ (choice : Weighed). (
      choice.0,
      pay_within n question declarer defence west (history ++ choice.1 ∷ []),
    )) _
    (chosen_each (λ (move : Move). Good (pay_within n question declarer defence west (history ++ move ∷ [])))
    (cond (is_declarer_turn (after question history).trick) (declarer history) (defence west history))
    (legal question west history)
    (each_in (λ (move : Move). Good (pay_within n question declarer defence west (history ++ move ∷ [])))
    (legal question west history)
    (λ move found. pay_within-kept question declarer defence west At Good keeps n (history ++ move ∷ [])
    (subst At (sym (after_move question history move)) (keeps.moves (after question history) move at found)))))))

-- a position that legal play under a layout comes to
pub record IsComeTo (question : Question) (west : List ℕ) (place : Position) : Type 0 where
  pub history : List Move
  pub legal_history : IsLegal question west history
  pub there : after question history ≡ place

come_to_later : (question : Question) (west : List ℕ) (place : Position) (move : Move) → IsComeTo question west place
    → Contains (legal_at question west place) move → IsComeTo question west (step question place move)
come_to_later question west place move come found = record {
  history = come.history ++ move ∷ [];
  legal_history = legal_moves_extend question west come.history move come.legal_history
      (subst (λ (p : Position). Contains (legal_at question west p) move) (sym come.there) found);
  there = after_move question come.history move ∙ ap (λ (p : Position). step question p move) come.there;
}

thirteen_at : (question : Question) (west : List ℕ) (place : Position) → IsDeal question west
    → IsComeTo question west place → place.won ≤ HAND_SIZE
thirteen_at question west place deal come =
    subst (λ (p : Position). p.won ≤ HAND_SIZE) come.there
    (thirteen_tricks question west come.history deal come.legal_history)

-- a pay after a legal history lies between bounds of the payoffs for thirteen tricks at most
pub pays_are_between : (question : Question) (declarer : Way) (defence : DefenceWay) (west : List ℕ)
    (history : List Move) (least most : ℕ)
    → IsDeal question west → IsLegal question west history
    → ((won : ℕ) → won ≤ HAND_SIZE → (least ≤ payoff question.goal won) × (payoff question.goal won ≤ most))
    → IsAtLeast (pay question declarer defence west history) least 1
    × IsAtMost (pay question declarer defence west history) most 1
pays_are_between question declarer defence west history least most deal legal_history bounds = (
  pay_within-kept question declarer defence west (IsComeTo question west) (λ fraction. IsAtLeast fraction least 1)
      (record {
        payoffs = λ place come. omega (arith, (bounds place.won (thirteen_at question west place deal come)).0);
        moves = come_to_later question west;
        means = mean-least least 1;
      }) MOST_MOVES history (record { history = history; legal_history = legal_history; there = refl }),
  pay_within-kept question declarer defence west (IsComeTo question west) (λ fraction. IsAtMost fraction most 1)
      (record {
        payoffs = λ place come. omega (arith, (bounds place.won (thirteen_at question west place deal come)).1);
        moves = come_to_later question west;
        means = mean-most most 1;
      }) MOST_MOVES history (record { history = history; legal_history = legal_history; there = refl }),
)
