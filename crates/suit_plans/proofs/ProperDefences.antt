-- A defence with no fault is a realisation plan in each class layout.
use Rattle.std.proofs.Common.{◌≡◌, ℕ, ◌<◌, Bool, true, false, not, ◌&&◌, List, [], ◌∷◌, ◌++◌, Option, Some, None, refl}
use Rattle.std.proofs.Common.{sym, ap, ◌∙◌, subst, arith}
use Rattle.std.specs.Prelude.{ℤ, pos, ◌^◌, ◌≤ℤ◌, bytes_eq, find, option_map, int_le, nat_lt, if◌then◌else◌}
use Rattle.std.proofs.lemmas.Bool.{and_from, and_parts, ltb-true, or_right}
use Rattle.std.proofs.lemmas.Int.{ints}
use Rattle.std.proofs.lemmas.Slice.Eq.{bytes_eq-Decides}
use Rattle.suit_cards.specs.Cards.{ClassLayout}
use Rattle.suit_num.proofs.IntegerLaws.{mul_not_negative, int_le-true}
use Rattle.suit_game.specs.declared.question.Question.{Question}
use Rattle.suit_classes.specs.declared.class_moves.ClassMove.{ClassMove}
use Rattle.suit_classes.specs.WhatIsAllowed.{allows}
use Rattle.suit_classes.specs.ClassMoves.{same_class_move, ClassHistory}
use Rattle.suit_classes.specs.MoveOrder.{stands_before}
use Rattle.suit_plans.specs.declared.defence.DefenceRow.{DefenceRow}
use Rattle.suit_plans.specs.declared.defence.Defence.{Defence}
use Rattle.suit_plans.specs.declared.faults.PlanKind.{PlanKind}
use Rattle.suit_plans.specs.declared.faults.PlanKind.TheVariants.{Layout}
use Rattle.suit_plans.specs.Masses.{Shares, defence_shares_at, defenders, mass_of, weight_of}
use Rattle.suit_plans.specs.Orders.{counts_before, defence_row_before, history_before, same_class_history}
use Rattle.suit_plans.specs.PlanLaws.{DefencesAreRealised}
use Rattle.suit_plans.specs.Properness.{IsProperDefence, defence_row_fault, defence_verdict, first_fault, last_passes}
use Rattle.suit_plans.specs.Properness.{row_fault}
use Rattle.suit_plans.proofs.FirstFaults.{FitsTurn, FitsTurn-from, IsFaultless, IsFaultless-from, after_den-parts}
use Rattle.suit_plans.proofs.FirstFaults.{faultless_at}
use Rattle.suit_plans.proofs.HistoryOrder.{IsStrict-moves, earlier-start, same_class_history_is}
use Rattle.suit_plans.proofs.MassSteps.{mass_of_same}
use Rattle.suit_plans.proofs.ProperPlans.{option_map-from}
use Rattle.suit_plans.proofs.SideIsRealised.{IsSound, SharesMass, sound_realised}
use Rattle.suit_plans.proofs.RowsBeforeTell.{FoundRow, FoundRow-from, IsRowOrder-defences, find_before}
use Rattle.suit_plans.specs.declared.plan.TheConstants.{MOST_DEN}

-- whether a row of a defence stands after the last of some
abbrev pub stands_after : DefenceRow → List DefenceRow → Bool
stands_after row before = last_passes (λ (last : DefenceRow). defence_row_before last row) before

-- whether a row is that for a class layout at a history
abbrev pub is_row_at : ClassLayout → ClassHistory → DefenceRow → Bool
is_row_at counts history row = bytes_eq row.west counts && same_class_history row.history history

-- no row of a proper defence is at fault, and its denominator is within its bounds
pub proper_defence : (question : Question) (defence : Defence) → IsProperDefence question defence
    → (int_le (pos 1) defence.den ≡ true) × (int_le defence.den (MOST_DEN) ≡ true)
    × IsFaultless (defence_row_fault question defence.den) [] defence.rows
unfolding defence_verdict
proper_defence question defence proper =
    let parts = after_den-parts defence.den (first_fault (defence_row_fault question defence.den) [] defence.rows)
    proper in
    (parts.0, parts.1, IsFaultless-from (defence_row_fault question defence.den) [] defence.rows parts.2)

weighed_parts : (b : Bool) (fault : Option PlanKind) → (if not b then Some Layout else fault) ≡ None → (b ≡ true)
    × (fault ≡ None)
weighed_parts true fault none = (refl, none)
weighed_parts false fault none = absurd (cc)

-- a row that is not at fault after some is one of a class layout of positive weight, and fits its turn
pub row_fits_after : (question : Question) (den : ℤ) (rows : List DefenceRow) (row : DefenceRow)
    → defence_row_fault question den rows row ≡ None
    → (0 < weight_of question row.west)
    × FitsTurn question (defenders question den rows row.west) row.history row.counts
    (allows question row.west row.history) (stands_after row rows)
row_fits_after question den rows row none =
    let parts = weighed_parts (nat_lt 0 (weight_of question row.west))
    (row_fault question (defenders question den rows row.west) row.history row.counts
    (allows question row.west row.history) (stands_after row rows)) none in (
      ltb-true 0 (weight_of question row.west) parts.0,
      FitsTurn-from question (defenders question den rows row.west) row.history row.counts
          (allows question row.west row.history) (stands_after row rows) parts.1,
    )

-- a row that is not at fault stands after the row before it
pub told_order : (question : Question) (den : ℤ) (rows : List DefenceRow) (next : DefenceRow)
    → defence_row_fault question den rows next ≡ None → stands_after next rows ≡ true
told_order question den rows next none = (row_fits_after question den rows next none).1.ordered

before_row : (row other : DefenceRow) (begun : ClassHistory) (move : ClassMove) (more : List ClassMove)
    → row.history ≡ begun ++ move ∷ more → is_row_at row.west begun other ≡ true
    → defence_row_before other row ≡ true
before_row row other begun move more is found =
    let parts = and_parts (bytes_eq other.west row.west) (same_class_history other.history begun) found in
    or_right (counts_before other.west row.west) (bytes_eq other.west row.west
    && history_before other.history row.history)
    (and_from (bytes_eq other.west row.west) (history_before other.history row.history) parts.0
    (subst (λ (h : ClassHistory). history_before other.history h ≡ true) (sym is)
    (subst (λ (h : ClassHistory). history_before h (begun ++ move ∷ more)
    ≡ true) (sym (same_class_history_is other.history begun parts.1))
    (earlier-start stands_before same_class_move begun move more IsStrict-moves))))

-- at each beginning of a row's history the rows before it have what all have for its class layout
counts_before_row : (question : Question) (den : ℤ) (start : List DefenceRow) (row : DefenceRow)
    (rest : List DefenceRow) → IsFaultless (defence_row_fault question den) [] (start ++ row ∷ rest)
    → (begun : ClassHistory) (move : ClassMove) (more : List ClassMove) → row.history ≡ begun ++ move ∷ more
    → defence_shares_at (start ++ row ∷ rest) row.west begun ≡ defence_shares_at start row.west begun
unfolding defence_shares_at
counts_before_row question den start row rest fine begun move more is =
    ap (option_map (λ (other : DefenceRow). other.counts))
    (find_before defence_row_before (defence_row_fault question den) (is_row_at row.west begun) start row rest
    IsRowOrder-defences
    (told_order question den) fine (λ other found. before_row row other begun move more is found))

-- the mass of a row's history is the same over the rows before it as over all
pub row_mass : (question : Question) (den : ℤ) (start : List DefenceRow) (row : DefenceRow) (rest : List DefenceRow)
    → IsFaultless (defence_row_fault question den) [] (start ++ row ∷ rest)
    → mass_of question (defenders question den (start ++ row ∷ rest) row.west) row.history
    ≡ mass_of question (defenders question den start row.west) row.history
row_mass question den start row rest fine =
    mass_of_same question (defenders question den (start ++ row ∷ rest) row.west) (defence_shares_at start row.west)
    row.history (counts_before_row question den start row rest fine)

-- each row of a proper defence is one of a class layout of positive weight, and fits its turn, also over all rows
pub defence_row_fits : (question : Question) (den : ℤ) (start : List DefenceRow) (row : DefenceRow)
    (rest : List DefenceRow) → IsFaultless (defence_row_fault question den) [] (start ++ row ∷ rest)
    → (0 < weight_of question row.west)
    × FitsTurn question (defenders question den (start ++ row ∷ rest) row.west) row.history row.counts
    (allows question row.west row.history) (stands_after row start)
defence_row_fits question den start row rest fine =
    let both = row_fits_after question den start row
    (faultless_at (defence_row_fault question den) [] start row rest fine) in
    let fits = both.1 in (
      both.0,
      record {
        allowed = fits.allowed;
        undecided = fits.undecided;
        plays = fits.plays;
        ordered = fits.ordered;
        legal = fits.legal;
        rising = fits.rising;
        positive = fits.positive;
        adds = fits.adds ∙ sym (row_mass question den start row rest fine);
      },
    )

row_shares_at : (question : Question) (den : ℤ) (rows : List DefenceRow) (counts : ClassLayout) (history : ClassHistory)
    (row : DefenceRow) → IsFaultless (defence_row_fault question den) [] rows
    → FoundRow (is_row_at counts history) rows row
    → SharesMass question (defenders question den rows row.west) row.history row.counts
row_shares_at question den rows counts history row fine found =
    let fits = (defence_row_fits question den found.start row found.rest
    (subst (IsFaultless (defence_row_fault question den) []) found.parts fine)).1 in
    subst (λ (l : List DefenceRow). SharesMass question (defenders question den l row.west) row.history row.counts)
    (sym found.parts)
    (record { legal = fits.legal; rising = fits.rising; positive = fits.positive; adds = fits.adds })

-- the counts of a proper defence at a history share out its mass in the class layout
pub defence_shares : (question : Question) (defence : Defence) (counts : ClassLayout) (history : ClassHistory)
    (shares : Shares) → IsProperDefence question defence
    → defence_shares_at defence.rows counts history ≡ Some shares
    → SharesMass question (defenders question defence.den defence.rows counts) history shares
unfolding defence_shares_at
defence_shares question defence counts history shares proper is =
    let some = option_map-from (λ (row : DefenceRow). row.counts) (find (is_row_at counts history) defence.rows) shares
    is in
    let row : DefenceRow = some.0 in
    let found = FoundRow-from (is_row_at counts history) defence.rows row some.1 in
    let parts = and_parts (bytes_eq row.west counts) (same_class_history row.history history) found.found in
    subst (SharesMass question (defenders question defence.den defence.rows counts) history) some.2
    (subst (λ (h : ClassHistory). SharesMass question (defenders question defence.den defence.rows counts) h
    row.counts) (same_class_history_is row.history history parts.1)
    (subst (λ (w : ClassLayout). SharesMass question (defenders question defence.den defence.rows w) row.history row.counts)
    ((bytes_eq-Decides row.west counts).0 parts.0)
    (row_shares_at question defence.den defence.rows counts history row (proper_defence question defence proper).2
    found)))

number_positive : (number : ℕ) → pos 0 ≤ℤ pos number
number_positive number = omega (arith, ints)

-- the defenders with the rows of a proper defence are a sound side in each class layout
pub defence_sound : (question : Question) (defence : Defence) (counts : ClassLayout) → IsProperDefence question defence
    → IsSound question (defenders question defence.den defence.rows counts)
defence_sound question defence counts proper =
    let least : pos 1 ≤ℤ defence.den = int_le-true (pos 1) defence.den (proper_defence question defence proper).0 in
    record {
      begins = mul_not_negative (pos (weight_of question counts)) defence.den
          (number_positive (weight_of question counts)) (omega (arith, ints, least));
      decided = refl;
      rows = λ history shares is. defence_shares question defence counts history shares proper is;
    }

-- so a proper defence is a realisation plan in each class layout of positive weight
pub defences_are_realised : DefencesAreRealised
defences_are_realised question defence counts valid proper weighs =
    sound_realised question (defenders question defence.den defence.rows counts) counts
    (defence_sound question defence counts proper) (λ history plays. refl)
