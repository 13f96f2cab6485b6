-- How many of the legal moves merge to each class move, and what they weigh together (weights_total).
use Rattle.std.proofs.Common.{◌≡◌, ℕ, ◌+◌, ◌*◌, ◌/◌, Bool, true, false, cond, List, [], ◌∷◌, length, map, refl, sym, ap}
use Rattle.std.proofs.Common.{◌∙◌, subst, inl, inr, arith}
use Rattle.std.specs.Prelude.{Contains, ◌==◌}
use Rattle.std.specs.List.{AllByRecursion, filter, sum_by}
use Rattle.std.proofs.lemmas.Bool.{cases_Bool}
use Rattle.std.proofs.lemmas.List.{length-map}
use Rattle.std.proofs.lemmas.List.Sums.{sum_by-cons}
use Rattle.suit_lists.proofs.Elements.{Contains-cons_cases, Contains-nil, each_gives, each_in}
use Rattle.suit_lists.proofs.Filters.{filter_of_map}
use Rattle.suit_lists.proofs.Maps.{Contains-map, Contains-map_from}
use Rattle.suit_lists.proofs.Once.{IsOnce}
use Rattle.suit_lists.proofs.Sums.{sum_by-mul, sum_by_alike, sum_by_both, sum_by_none, sum_by_same}
use Rattle.suit_cards.specs.Cards.{Cards}
use Rattle.suit_cards.specs.Holdings.{holds}
use Rattle.suit_game.specs.declared.question.Question.{Question}
use Rattle.suit_game.specs.declared.moves.Move.{Move}
use Rattle.suit_game.specs.declared.moves.Move.TheVariants.{Follow, ShowOut}
use Rattle.suit_game.specs.Gains.{is_declarer_turn}
use Rattle.suit_game.specs.Histories.{History}
use Rattle.suit_game.specs.PlaceViews.{IsPlay}
use Rattle.suit_game.specs.Positions.{after, follows_of, legal}
use Rattle.suit_classes.specs.declared.class_moves.ClassMove.{ClassMove}
use Rattle.suit_classes.specs.Classes.{Hands, hands_of, class_of}
use Rattle.suit_classes.specs.ClassGame.{cards_in, each_once}
use Rattle.suit_classes.specs.ClassMoves.{merge, merged, same_class_move}
use Rattle.suit_classes.specs.ClassGame.{counts_of}
use Rattle.suit_classes.proofs.AllowedMoveByMove.{Contains-each_once, each_once-Contains}
use Rattle.suit_classes.proofs.DistinctMoves.{once_each_once}
use Rattle.suit_classes.proofs.SameMoves.{same_move-itself, same_move_is}
use Rattle.suit_plans.specs.declared.defence.Defence.{Defence}
use Rattle.suit_plans.specs.Masses.{defence_shares_at}
use Rattle.suit_lift.specs.Lifts.{class_share, common, defence_share, defence_way, fellows}
use Rattle.suit_lift.proofs.WeightsAreShares.{among_few, common_divided, fellows_some}
use Rattle.suit_lift.proofs.SumsOverMergedMoves.{other_class}

picked_none : (f : ClassMove → ℕ) (move : ClassMove) (classes : List ClassMove) → AllByRecursion (λ class. move
    ≡ class → ⊥) classes
    → sum_by (λ class. cond {A = ℕ} (same_class_move move class) 1 0 * f class) classes ≡ 0
picked_none f move classes apart =
    let term : ClassMove → ℕ = λ class. cond {A = ℕ} (same_class_move move class) 1 0 * f class in
    sum_by_alike term (λ class. 0) classes
    (each_gives (λ class. move ≡ class → ⊥) (λ class. term class ≡ 0) classes
    (λ class differ. ap (λ (b : Bool). cond {A = ℕ} b 1 0 * f class) (other_class move class differ)
    ∙ omega arith) apart)
    ∙ sum_by_none (λ class. 0) classes (λ class. refl)

picked_one : (f : ClassMove → ℕ) (move : ClassMove) (classes : List ClassMove) → IsOnce classes → Contains classes move
    → sum_by (λ class. cond {A = ℕ} (same_class_move move class) 1 0 * f class) classes ≡ f move
unfolding IsOnce
picked_one f move [] once found = absurd (Contains-nil move found)
picked_one f move (class ∷ classes) once found =
    let term : ClassMove → ℕ = λ other. cond {A = ℕ} (same_class_move move other) 1 0 * f other in
    elim (cases_Bool (same_class_move move class)) [
      | inl same ↦
          let is : move ≡ class = same_move_is move class same in
          let none = picked_none f move classes (subst (λ (m : ClassMove). AllByRecursion (λ other. m ≡ other
          → ⊥) classes) (sym is) once.0) in
          let here : term class ≡ f move = ap (λ (b : Bool). cond {A = ℕ} b 1 0 * f class) same
          ∙ omega (arith, ap f is) in
          omega (arith, sum_by-cons term class classes, here, none)
      | inr other ↦
          let later : Contains classes move = elim (Contains-cons_cases class classes move found) [
            | inl here ↦ absurd (let same : same_class_move move class
                ≡ true = ap (λ (m : ClassMove). same_class_move m class) (sym here) ∙ itself class in cc)
            | inr there ↦ there
          ] in
          let here : term class ≡ 0 = ap (λ (b : Bool). cond {A = ℕ} b 1 0 * f class) other ∙ omega arith in
          omega (arith, sum_by-cons term class classes, here, picked_one f move classes once.1 later)
    ]
  where
    itself : (m : ClassMove) → same_class_move m m ≡ true
    itself m = same_move-itself m

one_more : (b : Bool) (move : Move) (moves : List Move) → length (cond b (move ∷ moves) moves) ≡ cond {A =
    ℕ} b 1 0 + length moves
one_more true move moves = omega arith
one_more false move moves = omega arith

fellows_more : (hands : Hands) (move : Move) (moves : List Move) (class : ClassMove)
    → length (fellows hands (move ∷ moves) class)
    ≡ cond {A = ℕ} (same_class_move (merge hands move) class) 1 0 + length (fellows hands moves class)
unfolding fellows
fellows_more hands move moves class =
    one_more (same_class_move (merge hands move) class) move (filter (λ other. same_class_move
    (merge hands other) class) moves)

no_fellows : (hands : Hands) (class : ClassMove) → length (fellows hands [] class) ≡ 0
unfolding fellows
no_fellows hands class = refl

-- what depends on the merges of moves is summed by the class moves, each as often as it has fellows
pub fellows_sum : (hands : Hands) (f : ClassMove → ℕ) (classes : List ClassMove) (moves : List Move)
    → IsOnce classes → AllByRecursion (λ move. Contains classes (merge hands move)) moves
    → sum_by (λ class. length (fellows hands moves class) * f class) classes
    ≡ sum_by (λ move. f (merge hands move)) moves
fellows_sum hands f classes [] once each =
    sum_by_same (λ class. length (fellows hands [] class)
    * f class) (λ class. 0) classes (λ class. ap (λ (n : ℕ). n * f class) (no_fellows hands class) ∙ omega arith)
    ∙ sum_by_none (λ class. 0) classes (λ class. refl)
fellows_sum hands f classes (move ∷ moves) once each =
    let first : ClassMove → ℕ = λ class. cond {A = ℕ} (same_class_move (merge hands move) class) 1 0 * f class in
    let rest : ClassMove → ℕ = λ class. length (fellows hands moves class) * f class in
    sum_by_same (λ class. length (fellows hands (move ∷ moves) class)
    * f class) (λ class. first class + rest class) classes
    (λ class. ap (λ (n : ℕ). n * f class) (fellows_more hands move moves class) ∙ omega arith)
    ∙ sum_by_both first rest classes
    ∙ omega (
      arith,
      picked_one f (merge hands move) classes once each.0,
      fellows_sum hands f classes moves once each.1,
      sum_by-cons (λ other. f (merge hands other)) move moves,
    )

-- a card's fellows among the follows of a hand are the cards of its class
pub held_among : (hands : Hands) (cards : Cards) (card : ℕ) → holds cards card ≡ true
    → length (fellows hands (follows_of cards) (merge hands (Follow card))) ≡ cards_in hands cards (class_of hands card)
unfolding fellows
held_among hands [] card held = absurd (cc)
held_among hands (first ∷ cards) card held =
    ap length (filter_of_map (λ move. same_class_move (merge hands move) (merge hands (Follow card))) Follow
    (first ∷ cards))
    ∙ length-map (filter (λ other. class_of hands other == class_of hands card) (first ∷ cards)) Follow

-- showing out has itself alone
pub out_among : (hands : Hands) → length (fellows hands (follows_of []) (merge hands ShowOut)) ≡ 1
unfolding fellows
out_among hands = refl

divided_total : (among part share whole : ℕ) → part * among ≡ whole → among * (part * share) ≡ whole * share
divided_total among part share whole is = omega (arith, ap (λ (n : ℕ). n * share) is)

module _ (question : Question) (defence : Defence) (west : Cards) (history : History)
    (play : IsPlay question west history)
    (waits : is_declarer_turn (after question history).trick ≡ false) where
  -- the shares of the class moves
  abbrev pub shares_at : ClassMove → ℕ
  shares_at =
      class_share (defence_shares_at defence.rows (counts_of (hands_of question) west) (merged
      (hands_of question) history))
      (map (merge (hands_of question)) (legal question west history))

  abbrev pub class_moves_at : List ClassMove
  class_moves_at = each_once (map (merge (hands_of question)) (legal question west history))

  card_weight : ClassMove → ℕ
  card_weight class =
      common / length (fellows (hands_of question) (legal question west history) class) * shares_at class

  weight_merged : (move : Move) → defence_way question defence west history move
      ≡ card_weight (merge (hands_of question) move)
  unfolding defence_way defence_share card_weight
  weight_merged move = refl

  -- the weights of the legal moves are the shares of their class moves, over the common multiple
  pub weights_total : sum_by (defence_way question defence west history) (legal question west history) ≡ common
      * sum_by shares_at class_moves_at
  unfolding card_weight
  weights_total =
      let hands : Hands = hands_of question in
      let moves : List Move = legal question west history in
      let merges : List ClassMove = map (merge hands) moves in
      sum_by_same (defence_way question defence west history) (λ move. card_weight
      (merge hands move)) moves weight_merged
      ∙ sym (fellows_sum hands card_weight (each_once merges) moves (once_each_once merges)
      (each_in (λ move. Contains (each_once merges) (merge hands move)) moves
      (λ move found. each_once-Contains merges (merge hands move) (Contains-map (merge hands) moves move found))))
      ∙ sum_by_alike (λ class. length (fellows hands moves class) * card_weight class) (λ class. common
      * shares_at class) (each_once merges)
      (each_in (λ class. length (fellows hands moves class) * card_weight class ≡ common
      * shares_at class) (each_once merges)
      (λ class found.
      let from = Contains-map_from (merge hands) moves class (Contains-each_once merges class found) in
      let divides : common / length (fellows hands moves (merge hands from.0))
      * length (fellows hands moves (merge hands from.0)) ≡ common =
      common_divided (length (fellows hands moves (merge hands from.0))) (fellows_some hands moves from.0 from.1)
      (among_few question west history from.0 play waits) in
      divided_total (length (fellows hands moves class)) (common / length (fellows hands moves class))
      (shares_at class) common
      (subst (λ (m : ClassMove). common / length (fellows hands moves m) * length (fellows hands moves m)
      ≡ common) from.2 divides)))
      ∙ sum_by-mul common shares_at (each_once merges)
