-- Ways that agree at the legal moves of each position pay the same (agreed_pay).
use Rattle.std.proofs.Common.{◌≡◌, ℕ, zero, suc, Bool, true, false, cond, List, [], ◌∷◌, ◌++◌, map, refl, ap, ◌∙◌}
use Rattle.std.specs.Prelude.{Contains}
use Rattle.suit_lists.proofs.Elements.{Contains-first, Contains-later}
use Rattle.suit_lists.proofs.Maps.{map_same}
use Rattle.suit_cards.specs.Cards.{Cards}
use Rattle.suit_game.specs.declared.question.Question.{Question}
use Rattle.suit_game.specs.declared.moves.Move.{Move}
use Rattle.suit_game.specs.Fractions.{Fraction, mean, whole}
use Rattle.suit_game.specs.Gains.{is_declarer_turn, pay_within}
use Rattle.suit_game.specs.Histories.{History}
use Rattle.suit_game.specs.Positions.{after, has_ended, legal, payoff}
use Rattle.suit_game.specs.PlaceViews.{IsPlay}
use Rattle.suit_game.specs.Strategies.{DefenceWay, Way, Weighed, chosen, kept, or_first, weighed}
use Rattle.suit_game.proofs.ChosenIsLegal.{chosen_from}
use Rattle.suit_game.proofs.PlaceSeenAfterAMove.{play_more}

weighed_same : (weight_of other : Move → ℕ) (moves : List Move)
    → ((move : Move) → Contains moves move → weight_of move ≡ other move)
    → weighed weight_of moves ≡ weighed other moves
unfolding weighed
weighed_same weight_of other [] same = refl
weighed_same weight_of other (move ∷ moves) same =
    ap (λ (n : ℕ). kept n move (weighed weight_of moves)) (same move (Contains-first move moves))
    ∙ ap (kept (other move) move)
    (weighed_same weight_of other moves (λ it found. same it (Contains-later move moves it found)))

-- weights that agree at each of some moves choose alike among them
chosen_same : (weight_of other : Move → ℕ) (moves : List Move)
    → ((move : Move) → Contains moves move → weight_of move ≡ other move)
    → chosen weight_of moves ≡ chosen other moves
chosen_same weight_of other moves same =
    ap (λ (picked : List Weighed). or_first picked moves) (weighed_same weight_of other moves same)

-- the weights of the side on turn
abbrev pub acting : Question → Way → DefenceWay → Cards → History → Move → ℕ
acting question declarer defence west history =
    cond (is_declarer_turn (after question history).trick) (declarer history) (defence west history)

module _ (question : Question) (declarer other : Way) (defence other_defence : DefenceWay) (west : Cards) where
  -- both pairs of ways give the same weights to the legal moves wherever play goes on
  abbrev pub Agree : Type 0
  Agree = (history : History) (move : Move) → IsPlay question west history
      → has_ended question (after question history) ≡ false → Contains (legal question west history) move
      → acting question declarer defence west history move ≡ acting question other other_defence west history move

  module _ (agree : Agree) where
    at_end : (n : ℕ) (history : History) (b : Bool) → has_ended question (after question history) ≡ b
        → IsPlay question west history
        → ((move : Move) → Contains (legal question west history) move
        → pay_within n question declarer defence west (history ++ move ∷ [])
        ≡ pay_within n question other other_defence west (history ++ move ∷ []))
        → (over : Fraction)
        → cond b over (mean (map (λ (choice : Weighed).
        (choice.0, pay_within n question declarer defence west (history ++ choice.1 ∷ [])))
        (chosen (acting question declarer defence west history) (legal question west history))))
        ≡ cond b over (mean (map (λ (choice : Weighed).
        (choice.0, pay_within n question other other_defence west (history ++ choice.1 ∷ [])))
        (chosen (acting question other other_defence west history) (legal question west history))))
    at_end n history true ended play later over = refl
    at_end n history false goes play later over =
        let moves : List Move = legal question west history in
        ap (λ (items : List (ℕ × Fraction)). mean items)
        (map_same (λ (choice : Weighed).
        (choice.0, pay_within n question declarer defence west (history ++ choice.1 ∷ [])))
        (λ (choice : Weighed).
        (choice.0, pay_within n question other other_defence west (history ++ choice.1 ∷ [])))
        (chosen (acting question declarer defence west history) moves)
        (λ choice found. ap (λ (f : Fraction). (choice.0, f)) (later choice.1
        (chosen_from (acting question declarer defence west history) moves choice found)))
        ∙ ap (map (λ (choice : Weighed).
        (choice.0, pay_within n question other other_defence west (history ++ choice.1 ∷ []))))
        (chosen_same (acting question declarer defence west history)
        (acting question other other_defence west history) moves
        (λ move found. agree history move play goes found)))

    -- then they pay the same
    pub agreed_pay : (n : ℕ) (history : History) → IsPlay question west history
        → pay_within n question declarer defence west history ≡ pay_within n question other other_defence west history
    unfolding pay_within
    agreed_pay zero history play = refl
    agreed_pay (suc n) history play =
        at_end n history (has_ended question (after question history)) refl play
        (λ move found. agreed_pay n (history ++ move ∷ []) (play_more question west history move play found))
        (whole (payoff question.goal (after question history).won))
