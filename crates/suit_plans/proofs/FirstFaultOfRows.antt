-- A walk over rows that finds the first fault.
use Rattle.std.proofs.Common.{◌≡◌, ℕ, ◌+◌, ◌<◌, ◌≤◌, List, [], ◌∷◌, ◌++◌, Option, None, Result, Ok, Err, length, get_or}
use Rattle.std.proofs.Common.{drop, take, refl, sym, ap, ◌∙◌, subst, arith, append_assoc, append-nil}
use Rattle.std.specs.Prelude.{⊤, ◌&&◌, ◌^◌, Bool, true, false, if◌then◌else◌, int_le, ℤ, pos}
use Rattle.std.proofs.lemmas.List.{at_drop_more, drop_all, length-take-le, take_more}
use Rattle.suit_plans.specs.declared.faults.PlanFault.{PlanFault}
use Rattle.suit_plans.specs.declared.faults.PlanKind.{PlanKind}
use Rattle.suit_plans.specs.declared.faults.PlanKind.TheVariants.{Den}
use Rattle.suit_plans.specs.Properness.{after_den, at_row, first_fault}
use Rattle.suit_plans.proofs.FirstFaults.{IsFaultless}
use Rattle.suit_plans.specs.declared.plan.TheConstants.{MOST_DEN}

-- so many rows were looked at, and none is at fault
pub record NoneYet {R : Type 0} (fault : List R → R → Option PlanKind) (rows : List R) (seen : ℕ) : Type 0 where
  pub faultless : IsFaultless fault [] (take seen rows)
  pub left : first_fault fault (take seen rows) (drop seen rows) ≡ first_fault fault [] rows

pub none_first : {R : Type 0} (fault : List R → R → Option PlanKind) (rows : List R) → NoneYet fault rows 0
unfolding IsFaultless
none_first fault rows = record { faultless = tt; left = refl }

faultless-push : {R : Type 0} (fault : List R → R → Option PlanKind) (before rows : List R) (row : R)
    → IsFaultless fault before rows → fault (before ++ rows) row ≡ None
    → IsFaultless fault before (rows ++ row ∷ [])
unfolding IsFaultless
faultless-push {R} fault before [] row fine none =
    (subst (λ (l : List R). fault l row ≡ None) (append-nil before) none, tt)
faultless-push {R} fault before (first ∷ rows) row fine none = (
  fine.0,
  faultless-push fault (before ++ first
      ∷ []) rows row fine.1
      (subst (λ (l : List R). fault l row ≡ None) (sym (append_assoc before (first ∷ []) rows)) none),
)

-- what the row that is looked at says of the first fault
pub seen_row : {R : Type 0} (fault : List R → R
    → Option PlanKind) (rows : List R) (seen : ℕ) (d : R) (found : Option PlanKind) → seen < length rows
    → NoneYet fault rows seen
    → found ≡ fault (take seen rows) (get_or rows seen d)
    → at_row found (seen + 1) (first_fault fault (take seen rows ++ get_or rows seen d ∷ []) (drop (seen + 1) rows))
    ≡ first_fault fault [] rows
unfolding first_fault
seen_row {R} fault rows seen d found below none is =
    let later : Result ⊤ PlanFault =
    first_fault fault (take seen rows ++ get_or rows seen d ∷ []) (drop (seen + 1) rows) in
    ap (λ (kind : Option PlanKind). at_row kind (seen + 1) later) is
    ∙ ap (λ (n : ℕ). at_row (fault (take seen rows) (get_or rows seen d)) (n + 1) later)
    (sym (length-take-le seen rows (omega (arith, below))))
    ∙ sym (at_drop_more (first_fault fault (take seen rows)) rows seen d below) ∙ none.left

-- a row that is not at fault
pub none_next : {R : Type 0} (fault : List R → R → Option PlanKind) (rows : List R) (seen : ℕ) (d : R)
    → seen < length rows → NoneYet fault rows seen
    → None ≡ fault (take seen rows) (get_or rows seen d) → NoneYet fault rows (seen + 1)
none_next {R} fault rows seen d below none is =
    let more : take (seen + 1) rows ≡ take seen rows ++ get_or rows seen d ∷ [] = take_more rows seen d below in
    record {
      faultless = subst (IsFaultless fault []) (sym more)
          (faultless-push fault [] (take seen rows) (get_or rows seen d) none.faultless (sym is));
      left = ap (λ (l : List R). first_fault fault l (drop (seen + 1) rows)) more
          ∙ seen_row fault rows seen d None below none is;
    }

-- no row is left
pub none_last : {R : Type 0} (fault : List R → R → Option PlanKind) (rows : List R) (seen : ℕ) → length rows ≤ seen
    → NoneYet fault rows seen → Ok tt ≡ first_fault fault [] rows
unfolding first_fault
none_last fault rows seen past none = sym (ap (first_fault fault (take seen rows)) (drop_all seen rows past))
    ∙ none.left

-- a denominator out of its bounds is the first fault
pub den_first : (den : ℤ) (rows : Result ⊤ PlanFault) → false ≡ (int_le (pos 1) den && int_le den (MOST_DEN))
    → Err (record { kind = Den; row = 0 }) ≡ after_den den rows
den_first den rows out = ap (λ (b : Bool). if b then rows else Err (record { kind = Den; row = 0 })) out

-- else the rows tell
pub rows_tell : (den : ℤ) (rows : Result ⊤ PlanFault) → true ≡ (int_le (pos 1) den && int_le den (MOST_DEN))
    → rows ≡ after_den den rows
rows_tell den rows within = ap (λ (b : Bool). if b then rows else Err (record { kind = Den; row = 0 })) within
