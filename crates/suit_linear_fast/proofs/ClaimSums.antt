-- What the tests of a column and of a row come to (`column_claimed`, `rows_summed`).
use Rattle.std.proofs.Common.{◌≡◌, ◌≢◌, inl, inr, ℕ, zero, suc, ◌+◌, ◌<◌, ◌≤◌, List, [], ◌∷◌, length, take, drop}
use Rattle.std.proofs.Common.{get_or}
use Rattle.std.proofs.Common.{Some, refl, sym, ap, ap₂, ◌∙◌, subst, arith}
use Rattle.std.specs.Prelude.{ℤ, pos, ◌+ℤ◌, ◌-ℤ◌, ◌*ℤ◌, ◌<ℤ◌, set, slice_get, neg_ℤ, unsigned_abs, max}
use Rattle.std.proofs.lemmas.Int.{ints}
use Rattle.std.proofs.lemmas.Bool.{cases_eq, cases_lt}
use Rattle.std.proofs.lemmas.List.{get_or-set_same, get_or-set_other, get_or_past, take_all, length-set}
use Rattle.std.proofs.lemmas.Option.{slice_get_cases, slice_get_within, slice_get-get_or, get_or_from_slice_get}
use Rattle.suit_num.proofs.IntegerLaws.{mul-neg_left, mul-add_left, mul-add_right, mul_assoc}
use Rattle.suit_linear.specs.declared.program.Program.{Program}
use Rattle.suit_linear.specs.Points.{number_at, dot}
use Rattle.suit_linear.specs.Tableaus.{TableauRow, entry, first_tableau}
use Rattle.suit_linear.proofs.DotProducts.{dot_first, number_at-drop}
use Rattle.suit_linear.proofs.FirstTableaus.{length-first}
use Rattle.suit_linear.proofs.Signs.{times_zero, zero_times}
use Rattle.std.proofs.lemmas.List.Elements.{All-contains}
use Rattle.suit_linear_fast.specs.declared.cells.Cell.{Cell}
use Rattle.suit_linear_fast.specs.declared.lines.Line.{Line}
use Rattle.suit_linear_fast.specs.declared.sparse.Sparse.{Sparse}
use Rattle.suit_linear_fast.specs.Cells.{number_in}
use Rattle.suit_linear_fast.specs.Lines.{IsColumn, IsShared, shared, exchange}
use Rattle.suit_linear_fast.specs.States.{AreSolved, IsApart}
use Rattle.suit_linear_fast.specs.Sparse.{IsSparse, HoldRow, AddsColumn, AddsRow}
use Rattle.suit_linear_fast.proofs.ColumnClaims.{dot_exchange}
use Rattle.suit_lists.proofs.Elements.{all_from_contains}
use Rattle.suit_lists.proofs.Indices.{contains_at}

-- ---- sizes

pub record IsWithin (numbers : List ℤ) (count size : ℕ) : Type 0 where
  pub below : (index : ℕ) → index < count → unsigned_abs (number_at numbers index) ≤ size

pub none_within : (numbers : List ℤ) → IsWithin numbers 0 0
none_within numbers = record { below = λ index less. absurd (omega arith) }

pub one_within : (numbers : List ℤ) (count size : ℕ) → IsWithin numbers count size
    → IsWithin numbers (count + 1) (max size (unsigned_abs (number_at numbers count)))
one_within numbers count size h = record {
  below = λ index less.
      elim (cases_eq index count) [
        | inl here ↦ first (unsigned_abs (number_at numbers index)) (unsigned_abs (number_at numbers count)) size
            (ap (λ (n : ℕ). unsigned_abs (number_at numbers n)) here)
        | inr differs ↦ second (unsigned_abs (number_at numbers index)) size (unsigned_abs (number_at numbers count))
            (h.below index (omega arith))
      ];
}
  where
    first : (a b c : ℕ) → a ≡ b → a ≤ max c b
    first a b c e = omega arith

    second : (a b c : ℕ) → a ≤ b → a ≤ max b c
    second a b c l = omega arith

pub all_within : (numbers : List ℤ) (count size : ℕ) → length numbers ≤ count → IsWithin numbers count size
    → (index : ℕ) → unsigned_abs (number_at numbers index) ≤ size
all_within numbers count size past h index =
    elim (cases_lt index (length numbers)) [
      | inl less ↦ h.below index (omega arith)
      | inr over ↦ subst (λ (z : ℤ). unsigned_abs z ≤ size) (sym (get_or_past numbers index (pos 0) over)) (low size)
    ]
  where
    low : (size : ℕ) → unsigned_abs (pos 0) ≤ size
    low size = omega (arith, ints)

-- ---- shares

pub record IsSharedBelow (lines : List Line) (entries : List ℤ) (scale : ℤ) (count : ℕ) (shares : List ℤ) : Type 0 where
  pub same : length shares ≡ length lines
  pub balance : (index : ℕ) (line : Line) → index < count → slice_get lines index ≡ Some line
      → number_at shares index *ℤ line.own ≡ number_at entries index *ℤ scale

pub none_shared : (lines : List Line) (entries : List ℤ) (scale : ℤ) (shares : List ℤ) → length shares ≡ length lines
    → IsSharedBelow lines entries scale 0 shares
none_shared lines entries scale shares same = record {
  same = same;
  balance = λ index line less at. absurd (omega arith);
}

pub one_shared : (lines : List Line) (entries : List ℤ) (scale : ℤ) (count : ℕ) (shares : List ℤ) (share : ℤ)
    (other : Line) → count < length lines → IsSharedBelow lines entries scale count shares
    → share *ℤ (get_or lines count other).own ≡ number_at entries count *ℤ scale
    → IsSharedBelow lines entries scale (count + 1) (set shares count share)
one_shared lines entries scale count shares share other less h is = record {
  same = length-set shares count share ∙ h.same;
  balance = λ index line low at.
      elim (cases_eq index count) [
        | inl here ↦
            let same = h.same in
            ap (λ (n : ℕ). number_at (set shares count share) n *ℤ line.own) here
            ∙ ap (λ (z : ℤ). z *ℤ line.own) (get_or-set_same shares count share (pos 0) (omega arith))
            ∙ ap (λ (l : Line). share *ℤ l.own)
            (sym (get_or_from_slice_get lines count line other
            (subst (λ (n : ℕ). slice_get lines n ≡ Some line) here at)))
            ∙ is ∙ ap (λ (n : ℕ). number_at entries n *ℤ scale) (sym here)
        | inr differs ↦ ap (λ (z : ℤ). z *ℤ line.own) (get_or-set_other shares count index share (pos 0) differs)
            ∙ h.balance index line (omega arith) at
      ];
}

pub all_shared : (lines : List Line) (entries : List ℤ) (scale : ℤ) (count : ℕ) (shares : List ℤ) → pos 0 <ℤ scale
    → length entries ≡ length lines → length lines ≤ count → IsSharedBelow lines entries scale count shares
    → IsShared lines entries scale shares
all_shared lines entries scale count shares some same past h = record {
  positive = some;
  count = h.same;
  counted = same;
  balance = λ index line at. h.balance index line (inside index (slice_get_within lines index line at)) at;
}
  where
    inside : (index : ℕ) → index < length lines → index < count
    inside index less = omega arith

-- ---- sums of columns

shared_more : (lines : List Line) (shares : List ℤ) (count : ℕ) (other : Line) (worth : ℕ → ℤ) → count < length lines
    → length shares ≡ length lines
    → shared (take (count + 1) lines) (take (count + 1) shares) worth
    ≡ shared (take count lines) (take count shares) worth
    +ℤ number_at shares count *ℤ worth (get_or lines count other).basic
unfolding shared
shared_more [] shares count other worth less same = absurd (omega arith)
shared_more (line ∷ lines) [] count other worth less same = absurd (omega arith)
shared_more (line ∷ lines) (share ∷ shares) zero other worth less same =
    turned (share *ℤ worth line.basic)
  where
    turned : (a : ℤ) → a +ℤ pos 0 ≡ pos 0 +ℤ a
    turned a = omega (arith, ints)
shared_more (line ∷ lines) (share ∷ shares) (suc count) other worth less same =
    let e : suc count + 1 ≡ suc (count + 1) = omega arith in
    rw e
    (ap (λ (z : ℤ). share *ℤ worth line.basic +ℤ z)
    (shared_more lines shares count other worth (omega arith) (omega arith))
    ∙ grouped (share *ℤ worth line.basic) (shared (take count lines) (take count shares) worth)
    (number_at shares count *ℤ worth (get_or lines count other).basic))
  where
    grouped : (a b c : ℤ) → a +ℤ (b +ℤ c) ≡ (a +ℤ b) +ℤ c
    grouped a b c = omega (arith, ints)

pub record AreSummed (sparse : Sparse) (lines : List Line) (shares : List ℤ) (count : ℕ) (sums : List ℤ) : Type 0 where
  pub each : (program : Program) → IsSparse program sparse → (index : ℕ) (row : TableauRow)
      → slice_get (first_tableau program).rows index ≡ Some row
      → number_at sums index ≡ shared (take count lines) (take count shares) (λ column. entry row column)

pub none_summed : (sparse : Sparse) (lines : List Line) (shares sums : List ℤ)
    → ((index : ℕ) → number_at sums index ≡ pos 0) → AreSummed sparse lines shares 0 sums
unfolding shared
none_summed sparse lines shares sums h = record { each = λ program is index row at. h index }

pub one_summed : (sparse : Sparse) (lines : List Line) (shares : List ℤ) (count : ℕ) (before after : List ℤ)
    (other : Line) → count < length lines → length shares ≡ length lines → AreSummed sparse lines shares count before
    → ((program : Program) → IsSparse program sparse
    → AddsColumn program (get_or lines count other).basic (number_at shares count) before after)
    → AreSummed sparse lines shares (count + 1) after
one_summed sparse lines shares count before after other less same h adds = record {
  each = λ program is index row at.
      adds program is index row at
      ∙ ap (λ (z : ℤ). z +ℤ number_at shares count *ℤ entry row (get_or lines count other).basic)
      (h.each program is index row at)
      ∙ sym (shared_more lines shares count other (λ column. entry row column) less same);
}

pub zero_summed : (sparse : Sparse) (lines : List Line) (shares : List ℤ) (count : ℕ) (sums : List ℤ)
    → count < length lines → length shares ≡ length lines → AreSummed sparse lines shares count sums
    → number_at shares count ≡ pos 0 → AreSummed sparse lines shares (count + 1) sums
zero_summed sparse [] shares count sums less same h none = absurd (omega arith)
zero_summed sparse (line ∷ lines) shares count sums less same h none = record {
  each = λ program is index row at.
      h.each program is index row at
      ∙ nothing (shared (take count (line ∷ lines)) (take count shares) (λ column. entry row column))
      (number_at shares count) (entry row (get_or (line ∷ lines) count line).basic) none
      ∙ sym (shared_more (line ∷ lines) shares count line (λ column. entry row column) less same);
}
  where
    nothing : (a b c : ℤ) → b ≡ pos 0 → a ≡ a +ℤ b *ℤ c
    nothing a b c e = let z = zero_times b c e in omega (arith, ints)

pub all_summed : (sparse : Sparse) (lines : List Line) (shares : List ℤ) (count : ℕ) (sums : List ℤ)
    → length lines ≤ count → length shares ≤ count → AreSummed sparse lines shares count sums → (program : Program)
    → IsSparse program sparse → (index : ℕ) (row : TableauRow)
    → slice_get (first_tableau program).rows index ≡ Some row
    → number_at sums index ≡ shared lines shares (λ column. entry row column)
all_summed sparse lines shares count sums past over h program is index row at =
    h.each program is index row at
    ∙ ap₂ (λ (ls : List Line) (ss : List ℤ). shared ls ss (λ column. entry row column)) (take_all count lines past)
    (take_all count shares over)

-- where the sums less the scale's share of a column are 0, the shares make up the column
pub column_claimed : (program : Program) (lines : List Line) (column : ℕ) (entries shares sums ends : List ℤ)
    (scale : ℤ)
    → IsShared lines entries scale shares
    → ((index : ℕ) (row : TableauRow) → slice_get (first_tableau program).rows index ≡ Some row
    → number_at sums index ≡ shared lines shares (λ c. entry row c))
    → AddsColumn program column (neg_ℤ scale) sums ends → ((index : ℕ) → number_at ends index ≡ pos 0)
    → IsColumn program lines column entries
column_claimed program lines column entries shares sums ends scale is h adds none = record {
  shares = shares;
  scale = scale;
  positive = is.positive;
  count = is.count;
  counted = is.counted;
  balance = is.balance;
  solves =
      all_from_contains (λ (r : TableauRow). dot r.numbers (exchange lines shares column scale) ≡ pos 0)
      (first_tableau program).rows
      (λ row inside.
      let at : slice_get (first_tableau program).rows inside.0 ≡ Some row =
      slice_get-get_or (first_tableau program).rows inside.0 row inside.1
      ∙ ap (λ (r : TableauRow). Some r) inside.2 in
      dot_exchange row.numbers lines shares column scale
      ∙ nothing (shared lines shares (λ c. entry row c)) (number_at sums inside.0) (number_at ends inside.0) scale
      (entry row column) (h inside.0 row at) (adds inside.0 row at) (none inside.0));
}
  where
    nothing : (s a e k x : ℤ) → a ≡ s → e ≡ a +ℤ neg_ℤ k *ℤ x → e ≡ pos 0 → s -ℤ k *ℤ x ≡ pos 0
    nothing s a e k x p q r = let turned = mul-neg_left k x in omega (arith, ints)

-- ---- sums of rows

-- the row at an index of the first tableau
pub row_added : (program : Program) (sparse : Sparse) (index : ℕ) (cells : List Cell) (weight : ℤ)
    (before after : List ℤ)
    → index < length program.rows
    → ((row : TableauRow) → slice_get (first_tableau program).rows index ≡ Some row → HoldRow row cells)
    → ((place : ℕ) → number_at after place ≡ number_at before place +ℤ weight *ℤ number_in cells place)
    → AddsRow program index weight before after
row_added program sparse index cells weight before after less holds h =
    elim (slice_get_cases (first_tableau program).rows index).1 [
      | inl (row, inside, at, read) ↦ (
        row,
        at,
        λ place. h place ∙ ap (λ (z : ℤ). number_at before place +ℤ weight *ℤ z) (holds row at place),
      )
      | inr (past, none) ↦ let same = length-first program in absurd (omega arith)
    ]

empty : (xs : List ℤ) → length xs ≤ 0 → (given : ℕ → ℤ) → dot xs given ≡ pos 0
unfolding dot
empty [] h given = refl
empty (x ∷ xs) h given = absurd (omega arith)

sum_step : (a b c w g d e f : ℤ) → a ≡ b +ℤ w *ℤ c → d ≡ e +ℤ w *ℤ f → a *ℤ g +ℤ d ≡ (b *ℤ g +ℤ e) +ℤ w *ℤ (c *ℤ g +ℤ f)
sum_step a b c w g d e f h k =
    let first : a *ℤ g ≡ b *ℤ g +ℤ w *ℤ (c *ℤ g) =
    ap (λ (z : ℤ). z *ℤ g) h ∙ mul-add_right b (w *ℤ c) g ∙ ap (λ (z : ℤ). b *ℤ g +ℤ z) (mul_assoc w c g) in
    let second = mul-add_left w (c *ℤ g) f in
    omega (arith, ints)

dot_sum : (bound : ℕ) (a b c : List ℤ) (w : ℤ) (given : ℕ → ℤ) → length a ≤ bound → length b ≤ bound
    → length c ≤ bound → ((index : ℕ) → number_at a index ≡ number_at b index +ℤ w *ℤ number_at c index)
    → dot a given ≡ dot b given +ℤ w *ℤ dot c given
dot_sum zero a b c w given la lb lc h =
    empty a la given ∙ sym (nothing (dot b given) w (dot c given) (empty b lb given) (empty c lc given))
  where
    nothing : (x w y : ℤ) → x ≡ pos 0 → y ≡ pos 0 → x +ℤ w *ℤ y ≡ pos 0
    nothing x w y e k = let z = times_zero w y k in omega (arith, ints)
dot_sum (suc bound) a b c w given la lb lc h =
    dot_first a given
    ∙ sum_step (number_at a 0) (number_at b 0) (number_at c 0) w (given 0) _ _ _ (h 0)
    (dot_sum bound (drop 1 a) (drop 1 b) (drop 1 c) w (λ index. given (suc index)) (shorter a la) (shorter b lb)
    (shorter c lc)
    (λ index. number_at-drop a index ∙ h (suc index)
    ∙ sym (ap₂ (λ (x y : ℤ). x +ℤ w *ℤ y) (number_at-drop b index) (number_at-drop c index))))
    ∙ ap₂ (λ (x y : ℤ). x +ℤ w *ℤ y) (sym (dot_first b given)) (sym (dot_first c given))
  where
    shorter : (xs : List ℤ) → length xs ≤ suc bound → length (drop 1 xs) ≤ bound
    shorter [] l = omega arith
    shorter (x ∷ xs) l = omega arith

pub record RowsSummed (sparse : Sparse) (numbers : List ℤ) : Type 0 where
  pub solved : (program : Program) → IsSparse program sparse → AreSolved program numbers

all_zero : (xs : List ℤ) (given : ℕ → ℤ) → ((index : ℕ) → number_at xs index ≡ pos 0) → dot xs given ≡ pos 0
unfolding dot
all_zero [] given h = refl
all_zero (x ∷ xs) given h =
    let first : x *ℤ given 0 ≡ pos 0 = zero_times x (given 0) (h 0) in
    let rest = all_zero xs (λ index. given (suc index)) (λ index. h (suc index)) in
    omega (arith, ints)

pub no_rows : (sparse : Sparse) (numbers : List ℤ) → ((index : ℕ) → number_at numbers index ≡ pos 0)
    → RowsSummed sparse numbers
no_rows sparse numbers h = record { solved = λ program is given solves. all_zero numbers given h }

pub rows_summed : (sparse : Sparse) (index : ℕ) (weight : ℤ) (before after : List ℤ) → RowsSummed sparse before
    → ((program : Program) → IsSparse program sparse → AddsRow program index weight before after)
    → RowsSummed sparse after
rows_summed sparse index weight before after h adds = record {
  solved = λ program is given solves.
      let added = adds program is in
      let row : TableauRow = added.0 in
      let none : dot row.numbers given ≡ pos 0 =
      All-contains (λ (r : TableauRow). dot r.numbers given ≡ pos 0) (first_tableau program).rows row solves
      (contains_at (first_tableau program).rows index row added.1) in
      dot_sum (length after + length before + length row.numbers) after before row.numbers weight given (omega arith)
      (omega arith) (omega arith) added.2
      ∙ nothing (dot before given) weight (dot row.numbers given) (h.solved program is given solves) none;
}
  where
    nothing : (x w y : ℤ) → x ≡ pos 0 → y ≡ pos 0 → x +ℤ w *ℤ y ≡ pos 0
    nothing x w y e k = let z = times_zero w y k in omega (arith, ints)

-- ---- apart

pub record IsApartBelow (lines : List Line) (leaving : ℕ) (numbers : List ℤ) (count : ℕ) : Type 0 where
  pub own : (line : Line) → leaving < count → slice_get lines leaving ≡ Some line
      → pos 0 <ℤ number_at numbers (suc line.basic)
  pub others : (index : ℕ) (line : Line) → index < count → index ≢ leaving → slice_get lines index ≡ Some line
      → number_at numbers (suc line.basic) ≡ pos 0

pub none_apart : (lines : List Line) (leaving : ℕ) (numbers : List ℤ) → IsApartBelow lines leaving numbers 0
none_apart lines leaving numbers = record {
  own = λ line less at. absurd (omega arith);
  others = λ index line less differs at. absurd (omega arith);
}

same_at : (lines : List Line) (count : ℕ) (other line : Line) (index : ℕ) → index ≡ count
    → slice_get lines index ≡ Some line → get_or lines count other ≡ line
same_at lines count other line index here at =
    get_or_from_slice_get lines count line other (subst (λ (n : ℕ). slice_get lines n ≡ Some line) here at)

pub own_apart : (lines : List Line) (leaving : ℕ) (numbers : List ℤ) (count : ℕ) (other : Line)
    → IsApartBelow lines leaving numbers count → count ≡ leaving
    → pos 0 <ℤ number_at numbers (suc (get_or lines count other).basic)
    → IsApartBelow lines leaving numbers (count + 1)
own_apart lines leaving numbers count other h same some = record {
  own = λ line less at. subst (λ (l : Line). pos 0 <ℤ number_at numbers (suc l.basic))
      (same_at lines count other line leaving (sym same) at) some;
  others = λ index line less differs at. h.others index line (omega arith) differs at;
}

pub other_apart : (lines : List Line) (leaving : ℕ) (numbers : List ℤ) (count : ℕ) (other : Line)
    → IsApartBelow lines leaving numbers count → count ≢ leaving
    → number_at numbers (suc (get_or lines count other).basic) ≡ pos 0 → IsApartBelow lines leaving numbers (count + 1)
other_apart lines leaving numbers count other h away none = record {
  own = λ line less at. h.own line (omega arith) at;
  others = λ index line less differs at.
      elim (cases_eq index count) [
        | inl here ↦ ap (λ (l : Line). number_at numbers (suc l.basic))
            (sym (same_at lines count other line index here at))
            ∙ none
        | inr elsewhere ↦ h.others index line (omega arith) differs at
      ];
}

pub all_apart : (lines : List Line) (leaving : ℕ) (numbers : List ℤ) (count : ℕ) → length lines ≤ count
    → IsApartBelow lines leaving numbers count → IsApart lines leaving numbers
all_apart lines leaving numbers count past h = record {
  own = λ line at. h.own line (inside leaving (slice_get_within lines leaving line at)) at;
  others = λ index line differs at. h.others index line (inside index (slice_get_within lines index line at)) differs
      at;
}
  where
    inside : (index : ℕ) → index < length lines → index < count
    inside index less = omega arith
