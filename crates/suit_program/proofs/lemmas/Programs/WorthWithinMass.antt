-- At a point that keeps within the rows a class history is worth between nothing and thirteen tricks of its mass
-- (`within_paid`).
use Rattle.std.proofs.Common.{◌≡◌, ℕ, zero, suc, ◌-◌, ◌≤◌, Bool, true, false, List, [], ◌∷◌, ◌++◌, length, Some, None}
use Rattle.std.proofs.Common.{map, refl, sym, ap, ◌∙◌, subst, arith}
use Rattle.std.specs.Prelude.{Contains, if◌then◌else◌, ℤ, pos, ◌*ℤ◌, ◌≤ℤ◌}
use Rattle.std.proofs.lemmas.Int.{ints}
use Rattle.std.proofs.lemmas.List.{length-append}
use Rattle.suit_lists.proofs.Elements.{Contains-first, Contains-same}
use Rattle.suit_lists.proofs.Firsts.{HasFirst}
use Rattle.suit_lists.proofs.Maps.{map_same}
use Rattle.suit_cards.specs.Cards.{ClassLayout}
use Rattle.suit_num.proofs.IntegerLaws.{mul_not_negative}
use Rattle.suit_game.specs.declared.question.Question.{Question}
use Rattle.suit_game.specs.declared.limits.TheConstants.{HAND_SIZE, MOST_MOVES}
use Rattle.suit_classes.specs.declared.class_moves.ClassMove.{ClassMove}
use Rattle.suit_classes.specs.ClassMoves.{same_class_move}
use Rattle.suit_classes.specs.ClassPlaces.{class_after, class_moves, class_payoff, class_turn}
use Rattle.suit_plans.specs.Masses.{count_of, is_declarers, is_first, let_through, mass_from, mass_of, share}
use Rattle.suit_plans.specs.Properness.{sum_of}
use Rattle.suit_plans.specs.ReplyLaws.{IsPaid}
use Rattle.suit_plans.proofs.AtMostThirteenTricks.{product_paid, sum_paid}
use Rattle.suit_plans.proofs.SharesAddUpToTheMass.{count_case, sum_positive}
use Rattle.suit_program.specs.Programs.Points.{IsPositive, Held, Passed, Point}
use Rattle.suit_program.specs.Programs.{sum_passed}
use Rattle.suit_program.specs.Supports.{Support, declarer_chooses, defence_chooses, layouts_of, supported_moves}
use Rattle.suit_program.specs.Programs.Worths.{mass_at, objective_at, passed, player, summed, worth_at, worth_within}
use Rattle.suit_program.proofs.lemmas.Supports.TurnCases.{Ended, Forced, Own, Theirs, TurnAt, mass_passed, turn_at}

zero_low : pos 0 ≤ℤ pos 0
zero_low = omega (arith, ints)

-- ---- masses and worths are not negative

module _ (question : Question) (support : Support) (point : Point) (positive : IsPositive point) where
  count_low : (history : List ClassMove) (move : ClassMove) (moves : List ClassMove)
      → pos 0 ≤ℤ count_of (map (λ other. (other, point.at (Passed history other))) moves) move
  unfolding count_of
  count_low history move [] = zero_low
  count_low history move (other ∷ moves) =
      count_case (same_class_move other move) (point.at (Passed history other))
      (count_of (map (λ next. (next, point.at (Passed history next))) moves) move)
      (positive.at (Passed history other)) (count_low history move moves)

  share_low : (history : List ClassMove) (chooses leads : Bool) (mass : ℤ) (move : ClassMove) → pos 0 ≤ℤ mass
      → pos 0 ≤ℤ share (if chooses then Some (passed question support point history) else None) leads mass move
  share_low history true leads mass move low = count_low history move (supported_moves question support [] history)
  share_low history false true mass move low = low
  share_low history false false mass move low = zero_low

  -- what a move lets through
  pub through_low : (history : List ClassMove) (mass : ℤ) (move : ClassMove) → pos 0 ≤ℤ mass
      → pos 0 ≤ℤ let_through question (player question support point) history mass move
  through_low history mass move low =
      let leads : Bool = is_first (class_moves (class_after question history) []) move in
      count_case (is_declarers (class_turn (class_after question history)))
      (share (if declarer_chooses question history then Some (passed question support point history) else None) leads
      mass move) mass (share_low history (declarer_chooses question history) leads mass move low) low

  from_low : (history : List ClassMove) (mass : ℤ) (moves : List ClassMove) → pos 0 ≤ℤ mass
      → pos 0 ≤ℤ mass_from question (player question support point) history mass moves
  unfolding mass_from
  from_low history mass [] low = low
  from_low history mass (move ∷ moves) low =
      from_low (history ++ move ∷ []) (let_through question (player question support point) history mass move) moves
      (through_low history mass move low)

  pub masses_low : (history : List ClassMove) → pos 0 ≤ℤ mass_at question support point history
  unfolding mass_of
  masses_low history = from_low [] point.one history positive.one

  summed_low : (history : List ClassMove) (f : ClassMove → ℤ) (moves : List ClassMove)
      → ((move : ClassMove) → pos 0 ≤ℤ f move) → pos 0 ≤ℤ summed question support point history (map f moves)
  summed_low history f [] low =
      mul_not_negative (pos (class_payoff (class_after question history))) (mass_at question support point history)
      (omega (arith, ints)) (masses_low history)
  summed_low history f (move ∷ moves) low = sum_positive f (move ∷ moves) (λ other found. low other)

  pub within_low : (more : ℕ) (west : ClassLayout) (history : List ClassMove)
      → pos 0 ≤ℤ worth_within question support point more west history
  unfolding worth_within
  within_low zero west history = zero_low
  within_low (suc more) west history =
      let next : ClassMove → ℤ = λ move. worth_within question support point more west (history ++ move ∷ []) in
      count_case (defence_chooses question west history) (point.at (Held west history))
      (summed question support point history (map next (supported_moves question support west history)))
      (positive.at (Held west history))
      (summed_low history next (supported_moves question support west history)
      (λ move. within_low more west (history ++ move ∷ [])))

  pub objective_low : pos 0 ≤ℤ objective_at question support point
  unfolding objective_at
  objective_low =
      sum_positive (λ (layout : ClassLayout × ℕ). pos layout.1 *ℤ worth_at question support point layout.0 [])
      (layouts_of question)
      (λ layout found. mul_not_negative (pos layout.1) (worth_at question support point layout.0 [])
      (omega (arith, ints)) (within_low (suc MOST_MOVES) layout.0 []))

-- ---- and at most thirteen tricks

paid_more : (mass most worth : ℤ) → IsPaid mass worth → mass ≤ℤ most → IsPaid most worth
paid_more mass most worth paid le = record {
  some = paid.some;
  few = omega (arith, ints, paid.few, le);
}

-- the sum of one number
pub only_one : (x : ℤ) → sum_of (x ∷ []) ≡ x
unfolding sum_of
only_one x = omega (arith, ints)

-- where there are moves their worths are summed
pub some_summed : (question : Question) (support : Support) (point : Point) (history : List ClassMove)
    (f : ClassMove → ℤ) (moves : List ClassMove) → HasFirst moves
    → summed question support point history (map f moves) ≡ sum_of (map f moves)
some_summed question support point history f [] some = absurd (nothing some.parts)
  where
    nothing : [] ≡ some.first ∷ some.more → ⊥
    nothing is = cc
some_summed question support point history f (move ∷ moves) some = refl

pub left_next : (history : List ClassMove) (move : ClassMove) (more : ℕ) → suc more ≡ suc MOST_MOVES - length history
    → more ≡ suc MOST_MOVES - length (history ++ move ∷ [])
left_next history move more left = omega (arith, left, length-append history (move ∷ []))

-- what keeps within the rows in one class layout
pub record AreKept (question : Question) (support : Support) (point : Point) (west : ClassLayout)
    (Fits : List ClassMove → Type 0) : Type 0 where
  pub goes : (history : List ClassMove) (move : ClassMove) → Fits history
      → Contains (supported_moves question support west history) move → Fits (history ++ move ∷ [])
  pub payoffs : (history : List ClassMove) → Fits history → class_payoff (class_after question history) ≤ HAND_SIZE
  pub shared : (history : List ClassMove) → Fits history → declarer_chooses question history ≡ true
      → sum_passed question support point history ≤ℤ mass_at question support point history
  pub held : (history : List ClassMove) → Fits history → defence_chooses question west history ≡ true
      → ((move : ClassMove) → Contains (supported_moves question support west history) move
      → IsPaid (mass_at question support point history) (worth_at question support point west (history ++ move ∷ [])))
      → IsPaid (mass_at question support point history) (point.at (Held west history))

module _ (question : Question) (support : Support) (point : Point) (west : ClassLayout) where
  abbrev next_in : ℕ → List ClassMove → ClassMove → ℤ
  next_in more history move = worth_within question support point more west (history ++ move ∷ [])

  -- a class history that is no choice of the defence
  pub going : (more : ℕ) (history : List ClassMove) (moves : List ClassMove)
      → defence_chooses question west history ≡ false → supported_moves question support west history ≡ moves
      → worth_within question support point (suc more) west history
      ≡ summed question support point history (map (next_in more history) moves)
  unfolding worth_within
  going more history moves not_theirs is =
      ap (λ (b : Bool). if b then point.at (Held west history)
      else summed question support point history
      (map (next_in more history) (supported_moves question support west history))) not_theirs
      ∙ ap (λ (l : List ClassMove). summed question support point history (map (next_in more history) l)) is

  pub choosing : (more : ℕ) (history : List ClassMove) → defence_chooses question west history ≡ true
      → worth_within question support point (suc more) west history ≡ point.at (Held west history)
  unfolding worth_within
  choosing more history theirs =
      ap (λ (b : Bool). if b then point.at (Held west history)
      else summed question support point history
      (map (next_in more history) (supported_moves question support west history))) theirs

module _ (question : Question) (support : Support) (point : Point) (west : ClassLayout) (Fits : List ClassMove → Type 0)
    (positive : IsPositive point) (kept : AreKept question support point west Fits) where
  abbrev mass : List ClassMove → ℤ
  mass history = mass_at question support point history

  abbrev next : ℕ → List ClassMove → ClassMove → ℤ
  next more history move = worth_within question support point more west (history ++ move ∷ [])

  -- what comes after the moves is paid
  abbrev ArePaid : ℕ → List ClassMove → Type 0
  ArePaid more history = (move : ClassMove) → Contains (supported_moves question support west history) move
      → IsPaid (mass (history ++ move ∷ [])) (next more history move)

  -- the sum over the moves of declarer's choice
  own_paid : (more : ℕ) (history : List ClassMove) → Fits history → declarer_chooses question history ≡ true
      → supported_moves question support west history ≡ supported_moves question support [] history
      → ArePaid more history → IsPaid (mass history) (sum_of (map (next more history)
      (supported_moves question support [] history)))
  own_paid more history fits chooses same paid =
      let moves : List ClassMove = supported_moves question support [] history in
      let passes : sum_of (map (λ move. mass (history ++ move ∷ [])) moves)
      ≡ sum_passed question support point history =
      ap sum_of (map_same (λ move. mass (history ++ move ∷ [])) (λ move. point.at (Passed history move)) moves
      (λ move found. mass_passed question support point history move chooses found)) in
      paid_more (sum_of (map (λ move. mass (history ++ move ∷ [])) moves)) (mass history)
      (sum_of (map (next more history) moves))
      (sum_paid (next more history) (λ move. mass (history ++ move ∷ [])) moves
      (λ move found. paid move (Contains-same move (sym same) found)))
      (subst (λ (z : ℤ). z ≤ℤ mass history) (sym passes) (kept.shared history fits chooses))

  turn_paid : (more : ℕ) (history : List ClassMove) → Fits history → suc more ≡ suc MOST_MOVES - length history
      → ArePaid more history → TurnAt question support west history
      → IsPaid (mass history) (worth_within question support point (suc more) west history)
  turn_paid more history fits left paid (Ended over none not_theirs) =
      subst (IsPaid (mass history)) (sym (going question support point west more history [] not_theirs none))
      (product_paid (class_payoff (class_after question history)) (mass history) (kept.payoffs history fits)
      (masses_low question support point positive history))
  turn_paid more history fits left paid (Forced move alone only nobody same) =
      let one : IsPaid (mass history) (next more history move) =
      subst (λ (z : ℤ). IsPaid z (next more history move)) (same point)
      (paid move (Contains-same move (sym only) (Contains-first move []))) in
      subst (IsPaid (mass history)) (sym (going question support point west more history (move ∷ []) nobody.1 only
      ∙ only_one (next more history
      move))) one
  turn_paid more history fits left paid (Own chooses not_theirs same some) =
      let moves : List ClassMove = supported_moves question support [] history in
      subst (IsPaid (mass history)) (sym (going question support point west more history moves not_theirs same
      ∙ some_summed question support point history
      (next more history) moves some))
      (own_paid more history fits chooses same paid)
  turn_paid more history fits left paid (Theirs chooses some same) =
      subst (IsPaid (mass history)) (sym (choosing question support point west more history chooses))
      (kept.held history fits chooses
      (λ move found. subst (IsPaid (mass history))
      (ap (λ (n : ℕ). worth_within question support point n west (history ++ move ∷ []))
      (left_next history move more left))
      (subst (λ (z : ℤ). IsPaid z (next more history move)) (same point move) (paid move found))))

  -- with whatever number of moves
  pub within_paid : (more : ℕ) (history : List ClassMove) → Fits history → more ≡ suc MOST_MOVES - length history
      → IsPaid (mass history) (worth_within question support point more west history)
  unfolding worth_within
  within_paid zero history fits left = record {
    some = zero_low;
    few = nothing_low (mass history) (masses_low question support point positive history);
  }
    where
      nothing_low : (z : ℤ) → pos 0 ≤ℤ z → pos 0 ≤ℤ (pos HAND_SIZE *ℤ z)
      nothing_low z low = omega (arith, ints, low)
  within_paid (suc more) history fits left =
      turn_paid more history fits left
      (λ move found. within_paid more (history ++ move ∷ []) (kept.goes history move fits found)
      (left_next history move more left))
      (turn_at question support west history)
