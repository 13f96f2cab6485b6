-- What holds of the defence that is read from an optimum (`read_defences_are_proper`, `read_defences_hold_the_worth`).
use Rattle.std.proofs.Common.{◌≡◌, true, arith}
use Rattle.std.specs.Prelude.{ℤ, pos, ◌<ℤ◌, ◌≤ℤ◌, int_le, int_lt}
use Rattle.std.proofs.lemmas.Bool.{or_parts}
use Rattle.std.proofs.lemmas.Int.{ints}
use Rattle.suit_num.proofs.IntegerLaws.{int_lt-false}
use Rattle.suit_plans.specs.declared.plan.TheConstants.{MOST_DEN}
use Rattle.suit_program.specs.Readings.ReadingLaws.{ReadDefencesAreProper, ReadDefencesHoldTheWorth}
use Rattle.suit_program.specs.Readings.{is_too_wide, parts_of, plan_den}
use Rattle.suit_program.proofs.lemmas.Readings.DefenceIsProper.{read_defence_proper}
use Rattle.suit_program.proofs.lemmas.Readings.DefenceHolds.{defence_holds}

low_told : (x y : ℤ) → x ≤ℤ y → int_le x y ≡ true
low_told x y le = grind (arith, ints, le)

some_told : (x : ℤ) → pos 0 <ℤ x → int_le (pos 1) x ≡ true
some_told x some = low_told (pos 1) x (omega (arith, ints, some))

pub read_defences_are_proper : ReadDefencesAreProper
unfolding is_too_wide
read_defences_are_proper question support optimum priced =
    read_defence_proper question support priced.valid optimum.duals optimum.scale priced.dual.0
    (some_told optimum.scale priced.dual.0.over)
    (low_told optimum.scale (MOST_DEN) (int_lt-false (MOST_DEN) optimum.scale
    (or_parts (int_lt (MOST_DEN) (plan_den question support (parts_of optimum.point)))
    (int_lt (MOST_DEN) optimum.scale) priced.narrow).1))

pub read_defences_hold_the_worth : ReadDefencesHoldTheWorth
read_defences_hold_the_worth question support optimum priced all =
    defence_holds question support priced.valid optimum.duals optimum.scale priced.dual.0
    (read_defences_are_proper question support optimum priced) all optimum.value priced.dual.1
