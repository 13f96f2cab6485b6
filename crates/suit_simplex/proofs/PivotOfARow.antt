-- What a pivot makes of one row of a tableau that is kept as one list (`seen_with_part`).
use Rattle.std.proofs.Common.{◌≡◌, ◌≢◌, ℕ, zero, suc, ◌+◌, ◌-◌, ◌*◌, ◌<◌, ◌≤◌, true, false, Result, Ok, Err, List, []}
use Rattle.std.proofs.Common.{◌∷◌, length, take, drop, set, refl, sym, ap, ap₂, ◌∙◌, Some, All, arith, length-set}
use Rattle.std.proofs.Common.{length-take, length-append, length-drop}
use Rattle.std.specs.Prelude.{ℤ, pos, slice_get, slice_index, slice_index_or, OnOk}
use Rattle.std.specs.Ordering.{int_eq}
use Rattle.std.proofs.Common.{eq-eqb}
use Rattle.std.proofs.lemmas.Bool.{ne_eqb}
use Rattle.std.proofs.lemmas.Int.{ints}
use Rattle.std.proofs.lemmas.List.{get_or_default, get_or-drop}
use Rattle.suit_linear.specs.Points.{number_at}
use Rattle.std.proofs.lemmas.List.Elements.{All-append, All-take, All-drop, All-set}
use Rattle.std.proofs.lemmas.List.{with_items_is}
use Rattle.std.specs.Vec.{with_items}
use borrow.Rule.Slice.PartMut.{put_mid}
use Rattle.suit_num.specs.Narrow.{IsNarrow}
use Rattle.suit_linear.specs.Tableaus.{TableauRow, Tableau, entry}
use Rattle.suit_linear.specs.Pivots.{cleared, clearing, pivoted_row, pivoting_row}
use Rattle.suit_simplex.specs.Dense.{row_at, seen, with_row, IsKept}
use Rattle.suit_simplex.specs.declared.dense.Dense.{Dense}
use Rattle.suit_simplex.proofs.DenseRows.{rows_seen-put_mid, rows_seen-put_behind, rows_seen-set, behind_put_mid}
use Rattle.suit_simplex.proofs.DenseRows.{behind_put_behind}
use Rattle.suit_simplex.proofs.RatioTestByIndex.{seen_row}
use Rattle.suit_lists.proofs.Indices.{set_same}

-- ---- the three cases of a row

pub row_leaves : (column : ℕ) (leaver row : TableauRow) → row.basic ≡ leaver.basic
    → (pivoted_row column leaver row ≡ record row { basic = column }) × (pivoting_row column leaver row ≡ [])
unfolding pivoted_row pivoting_row
row_leaves column leaver row e = rw (eq-eqb row.basic leaver.basic e) (refl, refl)

zero_test : (z : ℤ) → z ≡ pos 0 → int_eq z (pos 0) ≡ true
zero_test z e = rw e refl

some_test : (z : ℤ) → z ≢ pos 0 → int_eq z (pos 0) ≡ false
some_test z ne = grind (arith, ints)

pub row_stays : (column : ℕ) (leaver row : TableauRow) → row.basic ≢ leaver.basic → entry row column ≡ pos 0
    → (pivoted_row column leaver row ≡ row) × (pivoting_row column leaver row ≡ [])
unfolding pivoted_row pivoting_row
row_stays column leaver row ne e = rw (ne_eqb row.basic leaver.basic ne, zero_test (entry row column) e) (refl, refl)

pub row_is_cleared : (column : ℕ) (leaver row : TableauRow) → row.basic ≢ leaver.basic → entry row column ≢ pos 0
    → (pivoted_row column leaver row
    ≡ record row { numbers = cleared (entry leaver column) (entry row column) row.numbers leaver.numbers })
    × (pivoting_row column leaver row ≡ clearing (entry leaver column) (entry row column) row.numbers leaver.numbers)
unfolding pivoted_row pivoting_row
row_is_cleared column leaver row ne some =
    rw (ne_eqb row.basic leaver.basic ne, some_test (entry row column) some) (refl, refl)

pub seen_same : (dense : Dense) (index : ℕ) → index < length dense.basics.items
    → seen dense ≡ with_row (seen dense) index (row_at dense index)
seen_same dense index less =
    ap (λ (rows : List TableauRow). record (seen dense) { rows = rows })
    (set_same (seen dense).rows index (row_at dense index) (seen_row dense index less))

pub seen_with_basic : (dense other : Dense) (index column : ℕ) → index < length dense.basics.items
    → other.width ≡ dense.width → other.numbers.items ≡ dense.numbers.items
    → other.basics.items ≡ set dense.basics.items index column
    → seen other ≡ with_row (seen dense) index (record (row_at dense index) { basic = column })
unfolding seen
seen_with_basic dense other index column less w n b =
    rw (w, n, b) (ap₂ (λ (rows : List TableauRow) (objective : List ℤ).
    let t : Tableau = record { rows = rows; objective = objective } in
    t) (rows_seen-set dense.width dense.basics.items dense.numbers.items index (index * dense.width) column less
    refl) (ap (λ (count : ℕ). drop (count * dense.width) dense.numbers.items)
    (length-set dense.basics.items index column)))

pub kept_with_basic : (dense other : Dense) (index column : ℕ) → IsKept dense → suc column < dense.width
    → other.width ≡ dense.width → other.numbers.items ≡ dense.numbers.items
    → other.basics.items ≡ set dense.basics.items index column → other.leaver.items ≡ dense.leaver.items → IsKept other
kept_with_basic dense other index column kept less w n b l = record {
  size = rw (w, n, b, length-set dense.basics.items index column) kept.size;
  some = rw w kept.some;
  basics = rw (w, b) (All-set (λ (basic : ℕ). suc basic < dense.width) dense.basics.items index column less
      kept.basics);
  narrow = rw n kept.narrow;
  narrow_leaver = rw l kept.narrow_leaver;
  room = rw (w, l) kept.room;
  ahead = rw l kept.ahead;
}

room_for_rows : (dense : Dense) → IsKept dense → length dense.basics.items * dense.width ≤ length dense.numbers.items
room_for_rows dense kept = omega (arith, kept.size)

pub seen_with_numbers : (dense other : Dense) (index start : ℕ) (ys : List ℤ) → IsKept dense
    → index < length dense.basics.items → start ≡ index * dense.width → length ys ≡ dense.width
    → other.width ≡ dense.width → other.basics.items ≡ dense.basics.items
    → other.numbers.items ≡ put_mid start dense.width dense.numbers.items ys
    → seen other ≡ with_row (seen dense) index (record (row_at dense index) { numbers = ys })
unfolding seen
seen_with_numbers dense other index start ys kept less e len w b n =
    rw (w, n, b) (ap₂ (λ (rows : List TableauRow) (objective : List ℤ).
    let t : Tableau = record { rows = rows; objective = objective } in
    t) (rows_seen-put_mid dense.width dense.basics.items dense.numbers.items index start ys less e
    (room_for_rows dense kept) len)
    (behind_put_mid dense.width (length dense.basics.items) dense.numbers.items index start ys less e
    (room_for_rows dense kept) len))

narrow_put_mid : (start k : ℕ) (xs ys : List ℤ) → All IsNarrow xs → All IsNarrow ys
    → All IsNarrow (put_mid start k xs ys)
narrow_put_mid start k xs ys p q =
    All-append IsNarrow (take start xs) _ (All-take IsNarrow start xs p)
    (All-append IsNarrow ys _ q (All-drop IsNarrow k (drop start xs) (All-drop IsNarrow start xs p)))

length-put_mid : (start k : ℕ) (xs ys : List ℤ) → start + k ≤ length xs → length ys ≡ k
    → length (put_mid start k xs ys) ≡ length xs
length-put_mid start k xs ys fits len =
    simp (length-append, length-take, length-drop) (omega arith)

pub kept_with_numbers : (dense other : Dense) (start k : ℕ) (ys : List ℤ) → IsKept dense
    → start + k ≤ length dense.numbers.items → length ys ≡ k → All IsNarrow ys → other.width ≡ dense.width
    → other.basics.items ≡ dense.basics.items → other.numbers.items ≡ put_mid start k dense.numbers.items ys
    → other.leaver.items ≡ dense.leaver.items → IsKept other
kept_with_numbers dense other start k ys kept fits len narrow w b n l = record {
  size = rw (w, b, n, length-put_mid start k dense.numbers.items ys fits len) kept.size;
  some = rw w kept.some;
  basics = rw (w, b) kept.basics;
  narrow = rw n (narrow_put_mid start k dense.numbers.items ys kept.narrow narrow);
  narrow_leaver = rw l kept.narrow_leaver;
  room = rw (w, l) kept.room;
  ahead = rw l kept.ahead;
}

-- ---- what the code reads and writes

pub part_is : (xs : List ℤ) (start width index : ℕ) → start ≡ index * width
    → take (start + width - start) (drop start xs) ≡ take width (drop (index * width) xs)
part_is xs start width index e = let n : start + width - start ≡ width = omega arith in rw (n, e) refl

pub behind_first : (xs : List ℤ) → take (length xs - 1) (drop 1 xs) ≡ drop 1 xs
behind_first [] = refl
behind_first (x ∷ xs) = let n : suc (length xs) - 1 ≡ length xs = omega arith in rw n (take_all xs)
  where
    take_all : (xs : List ℤ) → take (length xs) xs ≡ xs
    take_all [] = refl
    take_all (x ∷ xs) = ap (λ (ys : List ℤ). x ∷ ys) (take_all xs)

pub on_ok : {T E P Q : Type 0} (r : Result T E) → (P → Q) → OnOk r P → OnOk r Q
on_ok (Ok x) f p = f p
on_ok (Err e) f p = tt

pub basic_read : (basics : List ℕ) (index basic : ℕ) → index < length basics → basic ≡ slice_index_or basics index basic
    → basic ≡ slice_index basics index
basic_read basics index basic less e = e ∙ get_or_default basics index basic 0 less

pub pivot_read : (leaver : List ℤ) (column : ℕ) (pivot : ℤ) → suc (suc column) < length leaver
    → pivot ≡ slice_index_or leaver (column + 2) pivot → pivot ≡ number_at (drop 1 leaver) (suc column)
pivot_read leaver column pivot less e =
    let n : column + 2 ≡ suc (suc column) = omega arith in
    rw n at e ∙ get_or_default leaver (suc (suc column)) pivot (pos 0) less
    ∙ sym (get_or-drop 1 leaver (suc column) (pos 0) ∙ ap (λ (k : ℕ). number_at leaver k) (omega arith))

-- the same of the part of a list that the code writes
pub seen_with_part : (dense other : Dense) (index start k : ℕ) (now ys : List ℤ) → IsKept dense
    → index < length dense.basics.items → start ≡ index * dense.width → length ys ≡ dense.width
    → now ≡ dense.numbers.items → k ≡ dense.width → other.width ≡ dense.width → other.basics.items ≡ dense.basics.items
    → other.numbers.items ≡ put_mid start k now ys
    → seen other ≡ with_row (seen dense) index (record (row_at dense index) { numbers = ys })
seen_with_part dense other index start k now ys kept less e len whole wide w b n =
    seen_with_numbers dense other index start ys kept less e len w b (n
    ∙ ap₂ (λ (m : ℕ) (xs : List ℤ). put_mid start m xs ys) wide whole)

pub kept_with_part : (dense other : Dense) (start k : ℕ) (now ys : List ℤ) → IsKept dense
    → start + k ≤ length dense.numbers.items → length ys ≡ k → now ≡ dense.numbers.items → All IsNarrow ys
    → other.width ≡ dense.width → other.basics.items ≡ dense.basics.items → other.numbers.items ≡ put_mid start k now ys
    → other.leaver.items ≡ dense.leaver.items → IsKept other
kept_with_part dense other start k now ys kept fits len whole narrow w b n l =
    kept_with_numbers dense other start k ys kept fits len narrow w b (n
    ∙ ap (λ (xs : List ℤ). put_mid start k xs ys) whole) l

-- a tableau with a part of its numbers written
abbrev pub with_part : Dense → ℕ → ℕ → List ℤ → List ℤ → Dense
with_part dense start k now ys = record dense { numbers = with_items dense.numbers (put_mid start k now ys) }

pub part_written : (dense : Dense) (start k : ℕ) (now ys : List ℤ) → now ≡ dense.numbers.items
    → start + k ≤ length dense.numbers.items → length ys ≡ k
    → (with_part dense start k now ys).numbers.items ≡ put_mid start k now ys
part_written dense start k now ys whole fits len =
    with_items_is dense.numbers (put_mid start k now ys) (length-put_mid start k now ys (rw whole fits) len
    ∙ ap length whole ∙ sym dense.numbers.ok.0)

-- ---- the objective row

pub objective_part : (dense : Dense) (start : ℕ) → start ≡ length dense.basics.items * dense.width
    → take (length dense.numbers.items - start) (drop start dense.numbers.items) ≡ (seen dense).objective
unfolding seen
objective_part dense start e =
    ap (λ (n : ℕ). take n (drop start dense.numbers.items)) (sym (length-drop start dense.numbers.items))
    ∙ take_whole (drop start dense.numbers.items)
    ∙ ap (λ (n : ℕ). drop n dense.numbers.items) e
  where
    take_whole : (xs : List ℤ) → take (length xs) xs ≡ xs
    take_whole [] = refl
    take_whole (x ∷ xs) = ap (λ (ys : List ℤ). x ∷ ys) (take_whole xs)

pub seen_with_objective : (dense other : Dense) (start k : ℕ) (now ys : List ℤ)
    → start ≡ length dense.basics.items * dense.width → now ≡ dense.numbers.items
    → start + k ≡ length dense.numbers.items → other.width ≡ dense.width → other.basics.items ≡ dense.basics.items
    → other.numbers.items ≡ put_mid start k now ys → seen other ≡ record (seen dense) { objective = ys }
unfolding seen
seen_with_objective dense other start k now ys e whole fits w b n =
    let written : other.numbers.items ≡ put_mid start k dense.numbers.items ys = n
    ∙ ap (λ (xs : List ℤ). put_mid start k xs ys) whole in
    rw (w, b, written) (ap₂ (λ (rows : List TableauRow) (objective : List ℤ).
    let t : Tableau = record { rows = rows; objective = objective } in t)
    (rows_seen-put_behind dense.width dense.basics.items dense.numbers.items start k ys e (omega arith))
    (ap (λ (m : ℕ). drop m (put_mid start k dense.numbers.items ys)) (sym e)
    ∙ behind_put_behind start k dense.numbers.items ys fits))
