-- A plan with no fault is a realisation plan.
use Rattle.std.proofs.Common.{◌≡◌, Bool, true, List, [], ◌∷◌, ◌++◌, Option, Some, None, refl, sym, ap, ◌∙◌, subst}
use Rattle.std.proofs.Common.{arith}
use Rattle.std.specs.Prelude.{ℤ, pos, ◌^◌, ◌≤ℤ◌, find, option_map, int_le}
use Rattle.std.proofs.lemmas.Int.{ints}
use Rattle.suit_game.specs.declared.question.Question.{Question}
use Rattle.suit_classes.specs.declared.class_moves.ClassMove.{ClassMove}
use Rattle.suit_classes.specs.ClassMoves.{same_class_move, ClassHistory}
use Rattle.suit_classes.specs.MoveOrder.{stands_before}
use Rattle.suit_classes.specs.ClassPlaces.{class_after}
use Rattle.suit_plans.specs.declared.plan.Row.{Row}
use Rattle.suit_plans.specs.declared.plan.Plan.{Plan}
use Rattle.suit_plans.specs.Masses.{Shares, declarer, mass_of, plan_shares_at}
use Rattle.suit_plans.specs.Orders.{history_before, plan_row_before, same_class_history}
use Rattle.suit_plans.specs.PlanLaws.{PlansAreRealised}
use Rattle.suit_plans.specs.Properness.{IsProperPlan, first_fault, last_passes, plan_row_fault, plan_verdict}
use Rattle.suit_plans.specs.Properness.{some_allows}
use Rattle.suit_plans.proofs.FirstFaults.{FitsTurn, FitsTurn-from, IsFaultless, IsFaultless-from, after_den-parts}
use Rattle.suit_plans.proofs.FirstFaults.{faultless_at}
use Rattle.suit_plans.proofs.HistoryOrder.{IsStrict-moves, earlier-start, same_class_history_is}
use Rattle.suit_plans.proofs.MassSteps.{mass_of_same}
use Rattle.suit_plans.proofs.SideIsRealised.{IsSound, SharesMass, sound_realised}
use Rattle.suit_plans.proofs.RowsBeforeTell.{FoundRow, FoundRow-from, IsRowOrder-histories, find_before}
use Rattle.suit_num.proofs.IntegerLaws.{int_le-true}
use Rattle.suit_plans.proofs.TurnMoves.{declarers_moves}
use Rattle.suit_plans.specs.declared.plan.TheConstants.{MOST_DEN}

-- whether a row of a plan stands after the last of some
abbrev pub stands_after : Row → List Row → Bool
stands_after row before = last_passes (λ (last : Row). plan_row_before last row) before

-- no row of a proper plan is at fault, and its denominator is within its bounds
pub proper_plan : (question : Question) (plan : Plan) → IsProperPlan question plan
    → (int_le (pos 1) plan.den ≡ true) × (int_le plan.den (MOST_DEN) ≡ true)
    × IsFaultless (plan_row_fault question plan.den) [] plan.rows
unfolding plan_verdict
proper_plan question plan proper =
    let parts = after_den-parts plan.den (first_fault (plan_row_fault question plan.den) [] plan.rows) proper in
    (parts.0, parts.1, IsFaultless-from (plan_row_fault question plan.den) [] plan.rows parts.2)

-- a row that is not at fault stands after the row before it
pub told_order : (question : Question) (den : ℤ) (rows : List Row) (next : Row)
    → plan_row_fault question den rows next ≡ None → stands_after next rows ≡ true
told_order question den rows next none =
    (FitsTurn-from question (declarer den rows) next.history next.counts (some_allows question next.history)
    (stands_after next rows) none).ordered

-- at each beginning of a row's history the rows before it have what all have
counts_before_row : (question : Question) (den : ℤ) (start : List Row) (row : Row) (rest : List Row)
    → IsFaultless (plan_row_fault question den) [] (start ++ row ∷ rest)
    → (begun : ClassHistory) (move : ClassMove) (more : List ClassMove) → row.history ≡ begun ++ move ∷ more
    → plan_shares_at (start ++ row ∷ rest) begun ≡ plan_shares_at start begun
unfolding plan_shares_at
counts_before_row question den start row rest fine begun move more is =
    ap (option_map (λ (other : Row). other.counts))
    (find_before plan_row_before (plan_row_fault question den) (λ (other : Row). same_class_history other.history begun)
    start row rest IsRowOrder-histories
    (told_order question den) fine
    (λ other same. subst (λ (h : ClassHistory). history_before other.history h ≡ true) (sym is)
    (subst (λ (h : ClassHistory). history_before h (begun ++ move ∷ more)
    ≡ true) (sym (same_class_history_is other.history begun same))
    (earlier-start stands_before same_class_move begun move more IsStrict-moves))))

-- the mass of a row's history is the same over the rows before it as over all
pub row_mass : (question : Question) (den : ℤ) (start : List Row) (row : Row) (rest : List Row)
    → IsFaultless (plan_row_fault question den) [] (start ++ row ∷ rest)
    → mass_of question (declarer den (start ++ row ∷ rest)) row.history
    ≡ mass_of question (declarer den start) row.history
row_mass question den start row rest fine =
    mass_of_same question (declarer den (start ++ row ∷ rest)) (plan_shares_at start) row.history
    (counts_before_row question den start row rest fine)

-- each row of a proper plan fits its turn, also over all rows
pub plan_row_fits : (question : Question) (den : ℤ) (start : List Row) (row : Row) (rest : List Row)
    → IsFaultless (plan_row_fault question den) [] (start ++ row ∷ rest)
    → FitsTurn question (declarer den (start ++ row ∷ rest)) row.history row.counts (some_allows question row.history)
    (stands_after row start)
plan_row_fits question den start row rest fine =
    let fits = FitsTurn-from question (declarer den start) row.history row.counts (some_allows question row.history)
    (stands_after row start) (faultless_at (plan_row_fault question den) [] start row rest fine) in
    record {
      allowed = fits.allowed;
      undecided = fits.undecided;
      plays = fits.plays;
      ordered = fits.ordered;
      legal = fits.legal;
      rising = fits.rising;
      positive = fits.positive;
      adds = fits.adds ∙ sym (row_mass question den start row rest fine);
    }

-- what a map gives of something comes of something
pub option_map-from : {X Y : Type 0} (f : X → Y) (some : Option X) (y : Y) → option_map f some ≡ Some y → (x : X)
    × (some ≡ Some x) × (f x ≡ y)
option_map-from f None y is = absurd (cc)
option_map-from f (Some x) y is = (x, refl, cc)

row_shares_at : (question : Question) (den : ℤ) (rows : List Row) (history : ClassHistory) (row : Row)
    → IsFaultless (plan_row_fault question den) [] rows
    → FoundRow (λ (other : Row). same_class_history other.history history) rows row
    → SharesMass question (declarer den rows) row.history row.counts
row_shares_at question den rows history row fine found =
    let fits = plan_row_fits question den found.start row found.rest
    (subst (IsFaultless (plan_row_fault question den) []) found.parts fine) in
    subst (λ (l : List Row). SharesMass question (declarer den l) row.history row.counts) (sym found.parts)
    (record { legal = fits.legal; rising = fits.rising; positive = fits.positive; adds = fits.adds })

-- the counts of a proper plan at a history share out its mass
pub plan_shares : (question : Question) (plan : Plan) (history : ClassHistory) (shares : Shares)
    → IsProperPlan question plan → plan_shares_at plan.rows history ≡ Some shares
    → SharesMass question (declarer plan.den plan.rows) history shares
unfolding plan_shares_at
plan_shares question plan history shares proper is =
    let some = option_map-from (λ (row : Row). row.counts)
    (find (λ (row : Row). same_class_history row.history history) plan.rows) shares is in
    let found = FoundRow-from (λ (row : Row). same_class_history row.history history) plan.rows some.0 some.1 in
    let here : some.0.history ≡ history = same_class_history_is some.0.history history found.found in
    subst (SharesMass question (declarer plan.den plan.rows) history) some.2
    (subst (λ (h : ClassHistory). SharesMass question (declarer plan.den plan.rows) h some.0.counts) here
    (row_shares_at question plan.den plan.rows history some.0 (proper_plan question plan proper).2 found))

-- declarer with the rows of a proper plan is a sound side
pub plan_sound : (question : Question) (plan : Plan) → IsProperPlan question plan
    → IsSound question (declarer plan.den plan.rows)
plan_sound question plan proper =
    let least : pos 1 ≤ℤ plan.den = int_le-true (pos 1) plan.den (proper_plan question plan proper).0 in
    record {
      begins = omega (arith, ints, least);
      decided = refl;
      rows = λ history shares is. plan_shares question plan history shares proper is;
    }

-- so a proper plan is a realisation plan, whatever West's counts
pub plans_are_realised : PlansAreRealised
plans_are_realised question plan counts valid proper =
    sound_realised question (declarer plan.den plan.rows) counts (plan_sound question plan proper)
    (λ history plays. declarers_moves (class_after question history) [] counts plays)
