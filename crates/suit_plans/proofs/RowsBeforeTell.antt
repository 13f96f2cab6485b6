-- Rows stand in order, so the rows before one are all that the masses up to its history rest on.
use Rattle.std.proofs.Common.{◌≡◌, ℕ, suc, ◌-◌, ◌≤◌, length, get_or, Bool, true, false, cond, List, [], ◌∷◌, ◌++◌}
use Rattle.std.proofs.Common.{Option, Some, None, refl, sym, ap, ◌∙◌, subst, arith, append_assoc, append-nil}
use Rattle.std.specs.Prelude.{find}
use Rattle.std.specs.List.{AllByRecursion}
use Rattle.std.proofs.lemmas.Bool.{false≢true, false_from_ne_true}
use Rattle.std.proofs.lemmas.Option.{none-some}
use Rattle.std.specs.Prelude.{AllPairs}
use Rattle.std.proofs.lemmas.List.Elements.{All-from_recursion}
use Rattle.std.proofs.lemmas.List.Kept.{AllPairs-cons}
use Rattle.suit_lists.proofs.Elements.{each_gives}
use Rattle.suit_lists.proofs.Indices.{find_none, find_start}
use Rattle.suit_plans.specs.declared.faults.PlanKind.{PlanKind}
use Rattle.suit_plans.specs.Orders.{InOrder, defence_row_before, plan_row_before}
use Rattle.suit_plans.specs.Properness.{last_passes}
use Rattle.suit_plans.proofs.FirstFaults.{IsFaultless}
use Rattle.suit_plans.proofs.KeyOrder.{history-chain, history-never, key-chain, key-never}

-- no row stands before itself, and what stands before a row stands before all rows after it
pub record IsRowOrder {R : Type 0} (before : R → R → Bool) : Type 0 where
  pub never : (row : R) → before row row ≡ false
  pub chain : (x y z : R) → before x y ≡ true → before y z ≡ true → before x z ≡ true

-- the rows of a plan stand in the order of their histories
pub IsRowOrder-histories : IsRowOrder plan_row_before
IsRowOrder-histories = record {
  never = λ row. history-never row.history;
  chain = λ x y z low high. history-chain x.history y.history z.history low high;
}

-- and those of a defence in that of their class layouts and histories
pub IsRowOrder-defences : IsRowOrder defence_row_before
IsRowOrder-defences = record {
  never = λ row. key-never row.west row.history;
  chain = λ x y z low high. key-chain x.west y.west z.west x.history y.history z.history low high;
}

-- the last row is the one that is tested
pub last_passes-push : {R : Type 0} (passes : R → Bool) (front : List R) (row : R)
    → last_passes passes (front ++ row ∷ []) ≡ passes row
last_passes-push passes [] row = refl
last_passes-push passes (first ∷ []) row = refl
last_passes-push passes (first ∷ second ∷ front) row = last_passes-push passes (second ∷ front) row

-- where each row stands after the one before it, all later rows stand after a row
pub later_rows : {R : Type 0} (before : R → R → Bool) (fault : List R → R
    → Option PlanKind) (front : List R) (row : R) (rest : List R) → IsRowOrder before
    → ((rows : List R) (next : R) → fault rows next ≡ None → last_passes (λ last. before last next) rows ≡ true)
    → IsFaultless fault (front ++ row ∷ []) rest → AllByRecursion (λ later. before row later ≡ true) rest
unfolding IsFaultless
later_rows before fault front row [] order told fine = tt
later_rows {R} before fault front row (next ∷ rest) order told fine =
    let here : before row next ≡ true = sym (last_passes-push (λ last. before last next) front row)
    ∙ told (front ++ row ∷ []) next fine.0 in (
      here,
      each_gives (λ later. before next later ≡ true) (λ later. before row later
          ≡ true) rest (λ later after. order.chain row next later here after)
          (later_rows before fault (front ++ row ∷ []) next rest order told fine.1),
    )

-- a list without faults has none after one of its rows
pub faultless_after : {R : Type 0} (fault : List R → R
    → Option PlanKind) (before start : List R) (row : R) (rest : List R)
    → IsFaultless fault before (start ++ row ∷ rest) → IsFaultless fault ((before ++ start) ++ row ∷ []) rest
unfolding IsFaultless
faultless_after {R} fault before [] row rest fine =
    subst (λ (l : List R). IsFaultless fault (l ++ row ∷ []) rest) (sym (append-nil before)) fine.1
faultless_after {R} fault before (first ∷ start) row rest fine =
    subst (λ (l : List R). IsFaultless fault (l ++ row ∷ []) rest) (append_assoc before (first ∷ []) start)
    (faultless_after fault (before ++ first ∷ []) start row rest fine.1)

-- where the first row that passes a test stands
pub record FoundRow {R : Type 0} (passes : R → Bool) (rows : List R) (row : R) : Type 0 where
  pub start : List R
  pub rest : List R
  pub parts : rows ≡ start ++ row ∷ rest
  pub found : passes row ≡ true

found_case : {R : Type 0} (passes : R → Bool) (first : R) (rows : List R) (row : R) (b : Bool) → passes first ≡ b
    → cond b (Some first) (find passes rows) ≡ Some row
    → (find passes rows ≡ Some row → FoundRow passes rows row) → FoundRow passes (first ∷ rows) row
found_case {R} passes first rows row true is found later =
    let here : first ≡ row = cc in
    record { start = []; rest = rows; parts = ap (λ (r : R). r ∷ rows) here; found = sym (ap passes here) ∙ is }
found_case {R} passes first rows row false is found later =
    let there = later found in
    record {
      start = first ∷ there.start;
      rest = there.rest;
      parts = ap (λ (l : List R). first ∷ l) there.parts;
      found = there.found;
    }

-- a row that is found stands somewhere in the list, and passes the test
pub FoundRow-from : {R : Type 0} (passes : R → Bool) (rows : List R) (row : R) → find passes rows ≡ Some row
    → FoundRow passes rows row
FoundRow-from passes [] row found = absurd (none-some row found)
FoundRow-from passes (first ∷ rows) row found =
    found_case passes first rows row (passes first) refl found (FoundRow-from passes rows row)

-- a test that only rows before a row pass finds the same among the rows before it as among all
pub find_before : {R : Type 0} (before : R → R → Bool) (fault : List R → R → Option PlanKind) (passes : R
    → Bool) (start : List R) (row : R) (rest : List R) → IsRowOrder before
    → ((rows : List R) (next : R) → fault rows next ≡ None → last_passes (λ last. before last next) rows ≡ true)
    → IsFaultless fault [] (start ++ row ∷ rest) → ((other : R) → passes other ≡ true → before other row ≡ true)
    → find passes (start ++ row ∷ rest) ≡ find passes start
find_before {R} before fault passes start row rest order told fine only =
    let later = later_rows before fault start row rest order told (faultless_after fault [] start row rest fine) in
    let here : passes row ≡ false =
    false_from_ne_true (passes row) (λ passed. false≢true (sym (order.never row) ∙ only row passed)) in
    find_start passes start (row ∷ rest)
    (find_none passes (row ∷ rest) (
      here,
      each_gives (λ other. before row other ≡ true) (λ other. passes other ≡ false) rest
          (λ other after. false_from_ne_true (passes other) (λ passed. false≢true (sym (order.never row)
          ∙ order.chain row other row after (only other passed)))) later,
    ))

rows_in_order : {R : Type 0} (before : R → R → Bool) (fault : List R → R → Option PlanKind) (front rows : List R)
    → IsRowOrder before
    → ((rows : List R) (next : R) → fault rows next ≡ None → last_passes (λ last. before last next) rows ≡ true)
    → IsFaultless fault front rows → AllPairs (λ here there. before here there ≡ true) rows
unfolding IsFaultless
rows_in_order before fault front [] order told fine = λ i j d less below. absurd (omega (arith, below))
rows_in_order {R} before fault front (row ∷ rows) order told fine =
    AllPairs-cons (λ here there. before here there ≡ true) row rows
    (All-from_recursion (λ later. before row later
    ≡ true) rows (later_rows before fault front row rows order told fine.1))
    (rows_in_order before fault (front ++ row ∷ []) rows order told fine.1)

-- rows without faults stand in order
pub faultless_in_order : {R : Type 0} (before : R → R → Bool) (fault : List R → R → Option PlanKind) (rows : List R)
    → IsRowOrder before
    → ((rows : List R) (next : R) → fault rows next ≡ None → last_passes (λ last. before last next) rows ≡ true)
    → IsFaultless fault [] rows → InOrder before rows
faultless_in_order before fault rows order told fine = rows_in_order before fault [] rows order told fine

-- the last row of some is the one that is asked
pub last_asked : {R : Type 0} (passes : R → Bool) (rows : List R) (row : R) → 1 ≤ length rows
    → row ≡ get_or rows (length rows - 1) row → last_passes passes rows ≡ passes row
last_asked passes [] row some read = absurd (omega (arith, some))
last_asked passes (first ∷ []) row some read = sym (ap passes read)
last_asked {R} passes (first ∷ next ∷ rows) row some read =
    let later : length (first ∷ next ∷ rows) - 1 ≡ suc (length (next ∷ rows) - 1) = omega arith in
    last_asked passes (next ∷ rows) row (omega arith) (read
    ∙ ap (λ (place : ℕ). get_or (first ∷ next ∷ rows) place row) later)
