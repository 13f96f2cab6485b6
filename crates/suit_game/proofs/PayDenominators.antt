-- No pay has a denominator of 0, nor has a gain where some layout has a weight.
use Rattle.std.proofs.Common.{◌≡◌, ℕ, zero, suc, ◌+◌, ◌<◌, false, cond, List, [], ◌∷◌, ◌++◌, length, map, refl, sym}
use Rattle.std.proofs.Common.{◌∙◌, ap, subst, arith}
use Rattle.std.proofs.lemmas.Bool.{true≢false, cond_both}
use Rattle.std.proofs.lemmas.List.Sums.{sum_by-cons}
use Rattle.std.specs.List.{sum_by}
use Rattle.suit_game.specs.declared.question.Question.{Question}
use Rattle.suit_game.specs.declared.moves.Move.{Move}
use Rattle.suit_game.specs.declared.moves.Move.TheVariants.{Follow, ShowOut}
use Rattle.suit_game.specs.Fractions.{Fraction, total_weight}
use Rattle.suit_game.specs.Layouts.{layouts, weight, total}
use Rattle.suit_game.specs.Positions.{Position, Trick, Closed, Open, after, legal, legal_in, legal_at, leads_at}
use Rattle.suit_game.specs.Positions.{follows_of, hand, is_empty, ended_in, has_ended}
use Rattle.suit_game.specs.Strategies.{Way, DefenceWay, Weighed, chosen}
use Rattle.suit_game.specs.Gains.{is_declarer_turn, played, pay_within, pay, gain}
use Rattle.suit_game.proofs.MeansLieBetween.{mean-den}
use Rattle.suit_game.proofs.ChosenIsLegal.{chosen-weight}
use Rattle.suit_game.specs.declared.limits.TheConstants.{MOST_MOVES}
use Rattle.suit_lists.proofs.Elements.{each_of}
use Rattle.suit_lists.proofs.Maps.{each_map}

some_element : (moves : List Move) → is_empty moves ≡ false → (move : Move) × (more : List Move) × (moves ≡ move ∷ more)
some_element [] none = absurd (true≢false none)
some_element (move ∷ moves) none = (move, moves, refl)

some_follow : (cards : List ℕ) → (move : Move) × (more : List Move) × (follows_of cards ≡ move ∷ more)
some_follow [] = (ShowOut, [], refl)
some_follow (card ∷ cards) = (Follow card, map Follow cards, refl)

legal_in-some : (question : Question) (west : List ℕ) (place : Position) (trick : Trick)
    → ended_in question place trick ≡ false
    → (move : Move) × (more : List Move) × (legal_in question west place trick ≡ move ∷ more)
unfolding legal_in
legal_in-some question west place Closed going = some_element (leads_at question place) going
legal_in-some question west place (Open turn after winner highest) going = some_follow (hand question west place turn)

-- a move is legal wherever play has not ended
pub legal_at-some : (question : Question) (west : List ℕ) (place : Position) → has_ended question place ≡ false
    → (move : Move) × (more : List Move) × (legal_at question west place ≡ move ∷ more)
legal_at-some question west place going = legal_in-some question west place place.trick going

-- what is played where play has not ended has weight
pub played-weight : (question : Question) (declarer : Way) (defence : DefenceWay) (west : List ℕ) (history : List Move)
    (value : Weighed → Fraction)
    → has_ended question (after question history) ≡ false
    → 0 < total_weight (map (λ (choice : Weighed). (choice.0, value choice))
    (played question declarer defence west history))
played-weight question declarer defence west history value going =
    let found : (move : Move) × (more : List Move) × (legal question west history ≡ move ∷ more) =
    legal_at-some question west (after question history) going in
    subst (λ (moves : List Move). 0 < total_weight (map (λ (choice : Weighed). (choice.0, value choice))
    (chosen (cond (is_declarer_turn (after question history).trick) (declarer history) (defence west history)) moves)))
    (sym found.2)
    (chosen-weight value (cond (is_declarer_turn (after question history).trick) (declarer history)
    (defence west history)) found.0 found.1)

-- no pay has a denominator of 0
pub pay_within-den : (n : ℕ) (question : Question) (declarer : Way) (defence : DefenceWay) (west : List ℕ)
    (history : List Move)
    → 0 < (pay_within n question declarer defence west history).den
unfolding pay_within
pay_within-den zero question declarer defence west history = omega arith
pay_within-den (suc n) question declarer defence west history =
    cond_both (has_ended question (after question history)) _ _ (λ (fraction : Fraction). 0 < fraction.den)
    (λ over. omega arith)
    (λ going. mean-den _
    (each_map (λ item. 0 < item.1.den) (λ (choice : Weighed). (
      choice.0,
      pay_within n question declarer defence west (history ++ choice.1 ∷ []),
    )) _
    (each_of (λ (choice : Weighed). 0 < (pay_within n question declarer defence west (history ++ choice.1 ∷ [])).den) _
    (λ (choice : Weighed). pay_within-den n question declarer defence west (history ++ choice.1 ∷ []))))
    (played-weight question declarer defence west history
    (λ (choice : Weighed). pay_within n question declarer defence west (history ++ choice.1 ∷ [])) going))

pub pay-den : (question : Question) (declarer : Way) (defence : DefenceWay) (west : List ℕ) (history : List Move)
    → 0 < (pay question declarer defence west history).den
pay-den question declarer defence west history = pay_within-den MOST_MOVES question declarer defence west history

total_weight-map : (value : List ℕ → Fraction) (weight_of : List ℕ → ℕ) (wests : List (List ℕ))
    → total_weight (map (λ (west : List ℕ). (weight_of west, value west)) wests) ≡ sum_by weight_of wests
unfolding total_weight
total_weight-map value weight_of [] = refl
total_weight-map value weight_of (west ∷ wests) =
    ap (λ (n : ℕ). weight_of west + n) (total_weight-map value weight_of wests) ∙ sym (sum_by-cons weight_of west wests)

-- what the layouts weigh in a gain is their total
pub total_weight-gain : (question : Question) (value : List ℕ → Fraction)
    → total_weight (map (λ (west : List ℕ). (weight question (length west), value west)) (layouts question))
    ≡ total question
total_weight-gain question value =
    total_weight-map value (λ (west : List ℕ). weight question (length west)) (layouts question)

-- no gain has a denominator of 0 where some layout has a weight
pub gain-den : (question : Question) (declarer : Way) (defence : DefenceWay) → 0 < total question
    → 0 < (gain question declarer defence).den
gain-den question declarer defence weighs =
    mean-den _
    (each_map (λ item. 0 < item.1.den) (λ (west : List ℕ). (
      weight question (length west),
      pay question declarer defence west [],
    )) _
    (each_of (λ (west : List ℕ). 0 < (pay question declarer defence west []).den) _
    (λ (west : List ℕ). pay-den question declarer defence west [])))
    (rw (total_weight-gain question (λ (west : List ℕ). pay question declarer defence west [])) weighs)
