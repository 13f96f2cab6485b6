-- The lines of a class history and of those that go on from it: its own, and then those of the class histories with one
-- of its live moves more (`lines_unfold`). No line is told where no mass comes (`untold`).
use Rattle.std.proofs.Common.{◌≡◌, ℕ, zero, suc, ◌+◌, ◌-◌, ◌≤◌, Bool, true, false, cond, List, [], ◌∷◌, ◌++◌, length}
use Rattle.std.proofs.Common.{refl, sym, ap, ◌∙◌, arith}
use Rattle.std.specs.Prelude.{Contains, filter, ◌&&◌, not, nat_lt, ℤ, pos, ◌≤ℤ◌, int_lt}
use Rattle.std.specs.List.{flat_map}
use Rattle.std.proofs.lemmas.Int.{ints}
use Rattle.std.proofs.lemmas.List.{length-append}
use Rattle.suit_lists.proofs.Elements.{nil_from_none}
use Rattle.suit_lists.proofs.FlatMaps.{filter_flat_map, flat_map_flat_map, flat_map_none, flat_map_same}
use Rattle.suit_lists.proofs.FlatMaps.{flat_map_filter_first, flat_map_passing}
use Rattle.suit_num.proofs.IntegerLaws.{int_lt-false}
use Rattle.suit_cards.specs.Cards.{Text}
use Rattle.suit_game.specs.declared.question.Question.{Question}
use Rattle.suit_game.specs.Validity.{IsValid}
use Rattle.suit_classes.specs.declared.class_moves.ClassMove.{ClassMove}
use Rattle.suit_classes.specs.ClassMoves.{ClassHistory}
use Rattle.suit_classes.specs.ClassPlaces.{class_after, class_decided, class_turn}
use Rattle.suit_plans.specs.BestReplies.{public_moves}
use Rattle.suit_plans.specs.Masses.{declarer, is_declarers, plan_mass}
use Rattle.suit_plans.specs.Properness.{IsProperPlan}
use Rattle.suit_plans.specs.declared.plan.Plan.{Plan}
use Rattle.suit_plans.proofs.MassBounds.{mass_falls}
use Rattle.suit_plans.proofs.ProperPlans.{plans_are_realised}
use Rattle.suit_plans.proofs.PublicMoves.{allowing_before, allowing_parts, public_allowed, public_short, some_layout}
use Rattle.suit_game.specs.declared.limits.TheConstants.{MOST_MOVES}
use Rattle.suit_lines.specs.Histories.{class_histories, continued}
use Rattle.suit_lines.specs.Lines.{history_line}
use Rattle.suit_lines.specs.Told.{is_live, is_told, live_shares, share_of, told_histories}
use Rattle.suit_lines.specs.Walks.{lines_from, next_lines, own_line}

-- ---- lists

and-false : (b : Bool) → (b && false) ≡ false
and-false true = refl
and-false false = refl

pub not_below : (z : ℤ) → z ≤ℤ pos 0 → int_lt (pos 0) z ≡ false
not_below z none = grind (arith, ints)

through : (a b : ℤ) → a ≤ℤ b → b ≤ℤ pos 0 → a ≤ℤ pos 0
through a b less none = omega (arith, ints)

-- ---- class histories to which no mass comes

module _ (question : Question) (plan : Plan) (valid : IsValid question) (proper : IsProperPlan question plan) where
  -- no more mass goes on with a move than came
  pub mass_less : (history : ClassHistory) (move : ClassMove) → Contains (public_moves question history) move
      → plan_mass question plan (history ++ move ∷ []) ≤ℤ plan_mass question plan history
  unfolding plan_mass
  mass_less history move found =
      let some = some_layout question valid (history ++ move ∷ []) (public_allowed question valid history move found) in
      let before = allowing_before question valid history move some.0 some.1 in
      mass_falls question (declarer plan.den plan.rows) some.0.0 history move
      (plans_are_realised question plan some.0.0 valid proper)
      (allowing_parts question valid history some.0 before.0).1 before.1

  not_told : (history : ClassHistory) → plan_mass question plan history ≤ℤ pos 0 → is_told question plan history ≡ false
  not_told history none =
      let view = class_after question history in
      let choice : Bool = not (class_decided view) && is_declarers (class_turn view)
      && nat_lt 1 (length (public_moves question history)) in
      ap (λ (b : Bool). choice && b) (not_below (plan_mass question plan history) none) ∙ and-false choice

  -- where no mass comes nothing is told, nor later
  untold : (more : ℕ) (history : ClassHistory) → plan_mass question plan history ≤ℤ pos 0
      → filter (is_told question plan) (continued more question history) ≡ []
  unfolding continued
  untold zero history none = ap (λ (b : Bool). cond b (history ∷ []) []) (not_told history none)
  untold (suc more) history none =
      let moves : List ClassMove = public_moves question history in
      let piece : ClassMove → List ClassHistory = λ move. continued more question (history ++ move ∷ []) in
      let rest : List ClassHistory = filter (is_told question plan) (flat_map piece moves) in
      ap (λ (b : Bool). cond b (history ∷ rest) rest) (not_told history none)
      ∙ filter_flat_map (is_told question plan) piece moves
      ∙ flat_map_none (λ move. filter (is_told question plan) (piece move)) moves
      (λ move found. untold more (history ++ move ∷ [])
      (through (plan_mass question plan (history ++ move ∷ [])) (plan_mass question plan history)
      (mass_less history move found) none))

  -- ---- what is written

  abbrev piece_lines : ℕ → ClassHistory → Text
  piece_lines more history =
      flat_map (history_line question plan) (filter (is_told question plan) (continued more question history))

  over_live : (history : ClassHistory) → flat_map (next_lines question plan history) (live_shares question plan history)
      ≡ flat_map (λ move. lines_from question plan (history ++ move ∷ [])) (public_moves question history)
  unfolding live_shares lines_from
  over_live history =
      flat_map_passing is_live (share_of question plan history) (next_lines question plan history)
      (λ move. lines_from question plan (history ++ move ∷ [])) (public_moves question history)
      (λ move found. refl)
      (λ move found dead. ap (flat_map (history_line question plan))
      (untold (MOST_MOVES - length (history ++ move ∷ [])) (history ++ move ∷ [])
      (int_lt-false (pos 0) (plan_mass question plan (history ++ move ∷ [])) dead)))

  unfold_at : (more : ℕ) (history : ClassHistory) → length history + more ≡ MOST_MOVES
      → piece_lines more history
      ≡ own_line question plan history ++ flat_map (λ move. lines_from question plan (history ++ move ∷ []))
      (public_moves question history)
  unfolding continued lines_from
  unfold_at zero history long =
      let none : public_moves question history ≡ [] = nil_from_none (public_moves question history)
      (λ move found. omega (
        arith,
        long,
        public_short question valid history move found,
        length-append history (move ∷ []),
      )) in
      flat_map_filter_first (is_told question plan) (history_line question plan) history []
      ∙ ap (λ (moves : List ClassMove). own_line question plan history
      ++ flat_map (λ move. lines_from question plan (history ++ move ∷ [])) moves) (sym none)
  unfold_at (suc more) history long =
      let moves : List ClassMove = public_moves question history in
      let piece : ClassMove → List ClassHistory = λ move. continued more question (history ++ move ∷ []) in
      flat_map_filter_first (is_told question plan) (history_line question plan) history (flat_map piece moves)
      ∙ ap (λ (l : Text). own_line question plan history ++ l)
      (ap (flat_map (history_line question plan)) (filter_flat_map (is_told question plan) piece moves)
      ∙ flat_map_flat_map (history_line question plan) (λ move. filter (is_told question plan) (piece move)) moves
      ∙ flat_map_same (λ move. piece_lines more (history ++ move ∷ []))
      (λ move. lines_from question plan (history ++ move ∷ [])) moves
      (λ move found. ap (λ (k : ℕ). piece_lines k (history ++ move ∷ []))
      (one_less more (length history) (length (history ++ move ∷ [])) long (length-append history (move ∷ [])))))
    where
      one_less : (more here next : ℕ) → here + suc more ≡ MOST_MOVES → next ≡ here + 1 → more ≡ MOST_MOVES - next
      one_less more here next long is = omega arith

  pub lines_unfold : (history : ClassHistory) → length history ≤ MOST_MOVES
      → lines_from question plan history
      ≡ own_line question plan history ++ flat_map (next_lines question plan history)
      (live_shares question plan history)
  unfolding lines_from
  lines_unfold history short =
      unfold_at (MOST_MOVES - length history) history (omega arith)
      ∙ ap (λ (l : Text). own_line question plan history ++ l) (sym (over_live history))

-- from the empty class history on, these are the lines of all that is told
pub lines_first : (question : Question) (plan : Plan)
    → lines_from question plan [] ≡ flat_map (history_line question plan) (told_histories question plan)
unfolding lines_from told_histories class_histories
lines_first question plan = refl
