-- The rows of a tableau that is kept as one list, index by index (`rows_seen_at`).
use Rattle.std.proofs.Common.{◌≡◌, ℕ, zero, suc, ◌+◌, ◌*◌, ◌<◌, ◌≤◌, List, [], ◌∷◌, ◌++◌, length, take, drop, set, refl}
use Rattle.std.proofs.Common.{sym, ap, ap₂, ◌∙◌, arith, append-nil, Some, length-take, length-drop}
use Rattle.std.specs.Prelude.{ℤ, slice_get, slice_index}
use Rattle.std.proofs.Math.Nat.{mul-le-mul_right}
use Rattle.std.proofs.lemmas.List.{drop-append-le, drop-take, drop-drop}
use Rattle.std.proofs.Math.Seq.{take-append_seam, drop-append_seam}
use Rattle.std.proofs.lemmas.Slice.{take-put_mid_below, drop-put_mid}
use borrow.Rule.Slice.PartMut.{put_mid}
use Rattle.suit_linear.specs.Tableaus.{TableauRow}
use Rattle.suit_simplex.specs.Dense.{rows_seen}

pub length-rows_seen : (width : ℕ) (basics : List ℕ) (numbers : List ℤ)
    → length (rows_seen width basics numbers) ≡ length basics
unfolding rows_seen
length-rows_seen width [] numbers = refl
length-rows_seen width (basic ∷ basics) numbers = ap suc (length-rows_seen width basics (drop width numbers))

-- the row at an index is a part of the numbers
pub rows_seen_at : (width : ℕ) (basics : List ℕ) (numbers : List ℤ) (index start : ℕ) → index < length basics
    → start ≡ index * width
    → slice_get (rows_seen width basics numbers) index
    ≡ Some (record { basic = slice_index basics index; numbers = take width (drop start numbers) })
unfolding rows_seen
rows_seen_at width [] numbers index start less e = absurd (omega arith)
rows_seen_at width (basic ∷ basics) numbers zero start less e =
    let none : start ≡ 0 = omega arith in
    rw none refl
rows_seen_at width (basic ∷ basics) numbers (suc index) start less e =
    let split : width + index * width ≡ start = omega arith in
    rows_seen_at width basics (drop width numbers) index (index * width) (omega arith) refl
    ∙ ap (λ (rest : List ℤ). Some (record { basic = slice_index basics index; numbers = take width rest }))
    (drop-drop (index * width) width numbers ∙ ap (λ (n : ℕ). drop n numbers) split)

-- a part that is written behind others is behind them
drop-put_mid_front : (n a k : ℕ) (xs ys : List ℤ) → n + a ≤ length xs
    → drop n (put_mid (n + a) k xs ys) ≡ put_mid a k (drop n xs) ys
drop-put_mid_front n a k xs ys fits =
    drop-append-le n (take (n + a) xs) _ (omega (arith, length-take (n + a) xs))
    ∙ ap₂ (λ (front back : List ℤ). front ++ (ys ++ drop k back)) (drop-take n a xs) (sym (drop-drop a n xs))

-- to write the numbers of a row is to write the row
pub rows_seen-put_mid : (width : ℕ) (basics : List ℕ) (numbers : List ℤ) (index start : ℕ) (ys : List ℤ)
    → index < length basics → start ≡ index * width → length basics * width ≤ length numbers → length ys ≡ width
    → rows_seen width basics (put_mid start width numbers ys)
    ≡ set (rows_seen width basics numbers) index (record { basic = slice_index basics index; numbers = ys })
unfolding rows_seen
rows_seen-put_mid width [] numbers index start ys less e room len = absurd (omega arith)
rows_seen-put_mid width (basic ∷ basics) numbers zero start ys less e room len =
    let none : start ≡ 0 = omega arith in
    let here : take width (put_mid start width numbers ys) ≡ ys =
    rw none (ap (λ (n : ℕ). take n (ys ++ drop width numbers)) (sym len) ∙ take-append_seam ys _) in
    let rest : drop width (put_mid start width numbers ys) ≡ drop width numbers =
    rw none (ap (λ (n : ℕ). drop n (ys ++ drop width numbers)) (sym len) ∙ drop-append_seam ys _) in
    ap₂ (λ (row back : List ℤ). record { basic = basic; numbers = row } ∷ rows_seen width basics back) here rest
rows_seen-put_mid width (basic ∷ basics) numbers (suc index) start ys less e room len =
    let split : start ≡ width + index * width = omega arith in
    let below : index * width ≤ length basics * width = mul-le-mul_right width (omega arith) in
    let fits : width + index * width ≤ length numbers = omega arith in
    let here : take width (put_mid start width numbers ys) ≡ take width numbers =
    take-put_mid_below start width numbers ys width (omega arith) (omega arith) in
    let rest : drop width (put_mid start width numbers ys) ≡ put_mid (index * width) width (drop width numbers) ys =
    rw split (drop-put_mid_front width (index * width) width numbers ys fits) in
    ap₂ (λ (row back : List ℤ). record { basic = basic; numbers = row } ∷ rows_seen width basics back) here rest
    ∙ ap (λ (rows : List TableauRow). record { basic = basic; numbers = take width numbers }
    ∷ rows) (rows_seen-put_mid width basics (drop width numbers) index (index * width) ys (omega arith) refl
    (omega (arith, length-drop width numbers)) len)

-- what is written behind the rows leaves them as they were
pub rows_seen-put_behind : (width : ℕ) (basics : List ℕ) (numbers : List ℤ) (start k : ℕ) (ys : List ℤ)
    → start ≡ length basics * width → start ≤ length numbers
    → rows_seen width basics (put_mid start k numbers ys) ≡ rows_seen width basics numbers
unfolding rows_seen
rows_seen-put_behind width [] numbers start k ys e room = refl
rows_seen-put_behind width (basic ∷ basics) numbers start k ys e room =
    let split : start ≡ width + length basics * width = omega arith in
    let here : take width (put_mid start k numbers ys) ≡ take width numbers =
    take-put_mid_below start k numbers ys width (omega arith) room in
    let rest : drop width (put_mid start k numbers ys) ≡ put_mid (length basics * width) k (drop width numbers) ys =
    rw split (drop-put_mid_front width (length basics * width) k numbers ys (omega arith)) in
    ap₂ (λ (row back : List ℤ). record { basic = basic; numbers = row } ∷ rows_seen width basics back) here rest
    ∙ ap (λ (rows : List TableauRow). record { basic = basic; numbers = take width numbers }
    ∷ rows) (rows_seen-put_behind width basics (drop width numbers) (length basics * width) k ys refl (omega (
      arith,
      length-drop width numbers,
    )))

-- to write a basic column is to write the row
pub rows_seen-set : (width : ℕ) (basics : List ℕ) (numbers : List ℤ) (index start column : ℕ) → index < length basics
    → start ≡ index * width
    → rows_seen width (set basics index column) numbers
    ≡ set (rows_seen width basics numbers) index (record { basic = column; numbers = take width (drop start numbers) })
unfolding rows_seen
rows_seen-set width [] numbers index start column less e = absurd (omega arith)
rows_seen-set width (basic ∷ basics) numbers zero start column less e =
    let none : start ≡ 0 = omega arith in
    rw none refl
rows_seen-set width (basic ∷ basics) numbers (suc index) start column less e =
    let split : width + index * width ≡ start = omega arith in
    ap (λ (rows : List TableauRow). record { basic = basic; numbers = take width numbers } ∷ rows) (
    rows_seen-set width basics (drop width numbers) index (index * width) column (omega arith) refl
    ∙ ap (λ (rest : List ℤ). set (rows_seen width basics (drop width numbers)) index (record {
      basic = column;
      numbers = take width rest;
    })) (drop-drop (index * width) width numbers ∙ ap (λ (n : ℕ). drop n numbers) split)
    )

-- what is written in a row is not behind the rows
pub behind_put_mid : (width count : ℕ) (numbers : List ℤ) (index start : ℕ) (ys : List ℤ) → index < count
    → start ≡ index * width → count * width ≤ length numbers → length ys ≡ width
    → drop (count * width) (put_mid start width numbers ys) ≡ drop (count * width) numbers
behind_put_mid width count numbers index start ys less e room len =
    let more : suc index * width ≤ count * width = mul-le-mul_right width (omega arith) in
    drop-put_mid start width numbers ys (count * width) (omega arith) (omega arith) len

-- what is written behind the rows is there
pub behind_put_behind : (start k : ℕ) (numbers ys : List ℤ) → start + k ≡ length numbers
    → drop start (put_mid start k numbers ys) ≡ ys
behind_put_behind start k numbers ys whole =
    let len : length (take start numbers) ≡ start = omega (arith, length-take start numbers) in
    let none : drop k (drop start numbers) ≡ [] =
    drop_all k (drop start numbers) (omega (arith, length-drop start numbers)) in
    ap (λ (n : ℕ). drop n (put_mid start k numbers ys)) (sym len) ∙ drop-append_seam (take start numbers) _
    ∙ ap (λ (rest : List ℤ). ys ++ rest) none ∙ append-nil ys
  where
    drop_all : (n : ℕ) (xs : List ℤ) → length xs ≤ n → drop n xs ≡ []
    drop_all zero [] h = refl
    drop_all zero (x ∷ xs) h = absurd (omega arith)
    drop_all (suc n) [] h = refl
    drop_all (suc n) (x ∷ xs) h = drop_all n xs (omega arith)
