-- Records without a misfit have as many fields as columns, and are read one by one (`fit_at`, `enter_more`).
use Rattle.std.proofs.Common.{◌≡◌, ◌<◌, ◌+◌, ◌≤◌, ℕ, suc, List, [], ◌∷◌, ◌++◌, Some, None}
use Rattle.std.proofs.Common.{Bool, true, false, cond}
use Rattle.std.proofs.Common.{get_or, drop, map, length, refl, arith, add-one, not, append_assoc}
use Rattle.std.specs.Prelude.{option_map, ◌==◌, nat_lt}
use Rattle.std.specs.List.{position_or_len}
use Rattle.std.proofs.lemmas.Bool.{eqb-true, ltb-false}
use Rattle.std.proofs.lemmas.List.{drop_all, drop_more, get_or-map, length-map, append-nil}
use Rattle.std.proofs.lemmas.List.Sums.{fails_before_first}
use Rattle.csv.specs.Records.{Row, fields_of}
use Rattle.suit_table.specs.declared.judging.Entry.{Entry}
use Rattle.suit_table.specs.declared.records.TheConstants.{FIELDS}
use Rattle.suit_table.specs.Entries.{entries_from, entry_of}
use Rattle.suit_table.specs.Records.{Record, first_misfit, is_misfit}

none_found : (test : Bool) (place : ℕ) → option_map suc (cond test (Some place) None) ≡ None → test ≡ false
none_found true place is = cc is
none_found false place is = refl

is_fit : (fields : Record) → is_misfit fields ≡ false → length fields ≡ FIELDS
is_fit fields is = eqb-true (length fields) FIELDS (by (length fields == FIELDS) is)
  where
    by : (test : Bool) → not test ≡ false → test ≡ true
    by true is = refl
    by false is = cc is

pub fit_at : (rows : List Row) → first_misfit (map fields_of rows) ≡ None → (index : ℕ) (one : Row)
    → index < length rows → one ≡ get_or rows index one → length (fields_of one) ≡ FIELDS
fit_at rows none index one within is =
    let list = map fields_of rows in
    let place = position_or_len is_misfit list in
    let far = ltb-false place (length list) (none_found (nat_lt place (length list)) place none) in
    let size : length list ≡ length rows = length-map rows fields_of in
    let fails = fails_before_first is_misfit list index (fields_of one) (omega arith) in
    let here = get_or-map fields_of rows index one (fields_of one) within in
    is_fit (fields_of one) (rw (here, ← is) at fails)

-- one more is read
pub enter_more : (number : ℕ) (rows : List Row) (index : ℕ) (one : Row) (done : List Entry) → index < length rows
    → one ≡ get_or rows index one → done ++ entries_from number (map fields_of (drop index rows))
    ≡ (done ++ (entry_of number (fields_of one) ∷ []))
    ++ entries_from (number + 1) (map fields_of (drop (index + 1) rows))
unfolding entries_from
enter_more number rows index one done within is =
    let more = drop_more rows index one within in
    rw (append_assoc, more, ← is, add-one index, add-one number) refl

-- all are read
pub enter_all : (number : ℕ) (rows : List Row) (index : ℕ) (done : List Entry) → length rows ≤ index
    → done ++ entries_from number (map fields_of (drop index rows)) ≡ done
unfolding entries_from
enter_all number rows index done past = rw (drop_all index rows past) (append-nil done)
