-- What holds of the payoffs that lines of play end with, and of means, holds of what the ways pay.
use Rattle.std.proofs.Common.{◌≡◌, ℕ, zero, suc, ◌<◌, ◌≤◌, Bool, true, false, cond, List, [], ◌∷◌, ◌++◌, map, sym, ◌∙◌}
use Rattle.std.proofs.Common.{subst, ◌⊎◌, inl, inr, arith}
use Rattle.std.proofs.lemmas.Bool.{true≢false, cond_both}
use Rattle.std.specs.List.{AllByRecursion}
use Rattle.suit_game.specs.declared.question.Question.{Question}
use Rattle.suit_game.specs.declared.moves.Move.{Move}
use Rattle.suit_game.specs.Fractions.{Fraction, whole, mean, total_weight}
use Rattle.suit_game.specs.Positions.{Position, after, step, legal_at, has_ended, payoff}
use Rattle.suit_game.specs.Strategies.{Way, DefenceWay, Weighed, chosen}
use Rattle.suit_game.specs.Gains.{is_declarer_turn, played, pay_within}
use Rattle.suit_game.proofs.LegalPlays.{after_move}
use Rattle.suit_game.proofs.ChosenIsLegal.{first_of, first_of_each, chosen_each, chosen_first}
use Rattle.suit_game.proofs.PayDenominators.{played-weight}
use Rattle.suit_lists.proofs.Elements.{each_gives}
use Rattle.suit_lists.proofs.Maps.{each_map}

-- the moves that may be played: any legal ones, or only the first where it is the defenders' turn and they always play
-- that
abbrev pub allowed_in : Bool → Bool → List Move → List Move
allowed_in false turn moves = moves
allowed_in true true moves = moves
allowed_in true false moves = first_of moves

abbrev pub allowed : Bool → Question → List ℕ → Position → List Move
allowed firsts question west place = allowed_in firsts (is_declarer_turn place.trick) (legal_at question west place)

-- what holds of each legal move holds of those that are allowed
pub allowed_each : (P : Move → Type 0) (firsts turn : Bool) (moves : List Move) → AllByRecursion P moves
    → AllByRecursion P (allowed_in firsts turn moves)
allowed_each P false turn moves each = each
allowed_each P true true moves each = each
allowed_each P true false moves each = first_of_each P moves each

-- play has ended, with so many tricks won
pub record IsOver (Fine : ℕ → Type 0) (question : Question) (place : Position) : Type 0 where
  pub over : has_ended question place ≡ true
  pub fine : Fine place.won

-- each line of play of at most so many more moves ends, with so many tricks won
abbrev pub Ends : Bool → (ℕ → Type 0) → Question → List ℕ → ℕ → Position → Type 0
Ends firsts Fine question west zero place = IsOver Fine question place
Ends firsts Fine question west (suc n) place =
    IsOver Fine question place
    ⊎ ((has_ended question place ≡ false)
    × AllByRecursion (λ (move : Move). Ends firsts Fine question west n (step question place move))
    (allowed firsts question west place))

-- defenders who are held to their first move give no other a weight
abbrev pub PlaysFirst : Bool → DefenceWay → Type 0
PlaysFirst false defence = Unit {0}
PlaysFirst true defence = (west : List ℕ) (history : List Move) (move : Move) → defence west history move ≡ 0

chosen_allowed : (P : Move → Type 0) (firsts turn : Bool) (declarer : Way) (defence : DefenceWay) (west : List ℕ)
    (history : List Move) (moves : List Move)
    → PlaysFirst firsts defence → AllByRecursion P (allowed_in firsts turn moves)
    → AllByRecursion (λ choice. P choice.1) (chosen (cond turn (declarer history) (defence west history)) moves)
chosen_allowed P false turn declarer defence west history moves first each =
    chosen_each P (cond turn (declarer history) (defence west history)) moves each
chosen_allowed P true true declarer defence west history moves first each = chosen_each P (declarer history) moves each
chosen_allowed P true false declarer defence west history moves first each =
    chosen_first P (defence west history) moves (first west history) each

-- what holds of the fractions that lines of play end with, and of a mean where it holds of each item, holds of what the
-- ways pay
pub record Carries (Fine : ℕ → Type 0) (question : Question) (Good : Fraction → Type 0) : Type 0 where
  pub ends : (won : ℕ) → Fine won → Good (whole (payoff question.goal won))
  pub means : (items : List (ℕ × Fraction)) → AllByRecursion (λ item. Good item.1) items → 0 < total_weight items
      → Good (mean items)

pay_step : (firsts : Bool) (Fine : ℕ → Type 0) (Good : Fraction
    → Type 0) (question : Question) (declarer : Way) (defence : DefenceWay) (west : List ℕ)
    (carries : Carries Fine question Good) (first : PlaysFirst firsts defence) (m n : ℕ) (history : List Move)
    → ((later : List Move) → Ends firsts Fine question west n (after question later)
    → Good (pay_within m question declarer defence west later))
    → has_ended question (after question history) ≡ false
    → AllByRecursion (λ (move : Move). Ends firsts Fine question west n (step question (after question history) move))
    (allowed firsts question west (after question history))
    → Good (mean (map (λ (choice : Weighed). (
      choice.0,
      pay_within m question declarer defence west (history ++ choice.1 ∷ []),
    ))
    (played question declarer defence west history)))
pay_step firsts Fine Good question declarer defence west carries first m n history next going each =
    let place : Position = after question history in
    let after_each : AllByRecursion
    (λ (move : Move). Good (pay_within m question declarer defence west (history ++ move ∷ [])))
    (allowed firsts question west place) =
    each_gives (λ (move : Move). Ends firsts Fine question west n (step question place move))
    (λ (move : Move). Good (pay_within m question declarer defence west (history ++ move ∷ [])))
    (allowed firsts question west place)
    (λ move line. next (history ++ move ∷ [])
    (subst (λ (later : Position). Ends firsts Fine question west n later)
    (sym (after_move question history move)) line))
    each in
    carries.means _
    (each_map (λ item. Good item.1) (λ (choice : Weighed). (
      choice.0,
      pay_within m question declarer defence west (history ++ choice.1 ∷ []),
    )) _
    (chosen_allowed (λ (move : Move). Good (pay_within m question declarer defence west (history ++ move ∷ []))) firsts
    (is_declarer_turn place.trick) declarer defence west history (legal_at question west place) first after_each))
    (played-weight question declarer defence west history
    (λ (choice : Weighed). pay_within m question declarer defence west (history ++ choice.1 ∷ [])) going)

-- where each line of play ends in few enough moves, what is paid is as good as what the lines end with
pub pay_within_holds : (firsts : Bool) (Fine : ℕ → Type 0) (Good : Fraction → Type 0)
    (question : Question) (declarer : Way) (defence : DefenceWay) (west : List ℕ)
    → Carries Fine question Good → PlaysFirst firsts defence
    → (m n : ℕ) (history : List Move) → n ≤ m → Ends firsts Fine question west n (after question history)
    → Good (pay_within m question declarer defence west history)
unfolding pay_within
pay_within_holds firsts Fine Good question declarer defence west carries first zero zero history few line =
    carries.ends (after question history).won line.fine
pay_within_holds firsts Fine Good question declarer defence west carries first zero (suc n) history few line =
    absurd (omega arith)
pay_within_holds firsts Fine Good question declarer defence west carries first (suc m) zero history few line =
    cond_both (has_ended question (after question history)) _ _ Good
    (λ over. carries.ends (after question history).won line.fine)
    (λ going. absurd (true≢false (sym line.over ∙ going)))
pay_within_holds firsts Fine Good question declarer defence west carries first (suc m) (suc n) history few (inl line) =
    cond_both (has_ended question (after question history)) _ _ Good
    (λ over. carries.ends (after question history).won line.fine)
    (λ going. absurd (true≢false (sym line.over ∙ going)))
pay_within_holds firsts Fine Good question declarer defence west carries first (suc m) (suc n) history few (inr line) =
    cond_both (has_ended question (after question history)) _ _ Good
    (λ over. absurd (true≢false (sym over ∙ line.0)))
    (λ going. pay_step firsts Fine Good question declarer defence west carries first m n history
    (λ later. pay_within_holds firsts Fine Good question declarer defence west carries first m n later (omega arith))
    going line.1)
