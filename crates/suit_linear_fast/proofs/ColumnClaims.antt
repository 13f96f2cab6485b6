-- Shares of the basic columns that make up a column of the program tell the column's entries in a tableau
-- (`column_shown`).
use Rattle.std.proofs.Common.{◌≡◌, ◌≢◌, inl, inr, ℕ, zero, suc, ◌<◌, List, [], ◌∷◌, length, Contains, Some, refl, sym}
use Rattle.std.proofs.Common.{ap, ap₂}
use Rattle.std.proofs.Common.{◌∙◌, arith}
use Rattle.std.specs.Prelude.{ℤ, pos, ◌+ℤ◌, ◌-ℤ◌, ◌*ℤ◌, ◌<ℤ◌, slice_get, neg_ℤ, ◌==◌}
use Rattle.std.proofs.lemmas.Int.{ints}
use Rattle.std.proofs.Math.IntN.{*ℤ_comm}
use Rattle.suit_num.proofs.IntegerLaws.{mul_assoc, mul_left_comm, same_from_mul, mul-neg_left, mul-one}
use Rattle.suit_linear.specs.declared.program.Program.{Program}
use Rattle.suit_linear.specs.Points.{number_at, dot}
use Rattle.suit_linear.specs.Tableaus.{TableauRow, Tableau, entry}
use Rattle.suit_linear.proofs.SoundTableaus.{IsSound}
use Rattle.suit_linear.proofs.DotProducts.{dot-add, dot-scaled, dot_one, dot_zero, dot-agree}
use Rattle.suit_linear.proofs.Signs.{times_zero}
use Rattle.std.proofs.lemmas.Bool.{cond-true, cond-false, eq-eqb, ne_eqb}
use Rattle.std.proofs.lemmas.Option.{slice_get_cases, slice_get_within}
use Rattle.std.proofs.lemmas.List.Elements.{All-contains}
use Rattle.suit_linear_fast.specs.declared.lines.Line.{Line}
use Rattle.suit_linear_fast.specs.States.{AreLinesOf}
use Rattle.suit_linear_fast.specs.Lines.{IsLineOf, IsColumn, unit, spread, shared, exchange}
use Rattle.suit_lists.proofs.Indices.{contains_at}

-- ---- sums of shares

spread_nothing : (xs : List ℤ) → dot xs (λ index. pos 0) ≡ pos 0
spread_nothing xs = dot_zero xs (λ index. pos 0) (λ index. times_zero (number_at xs index) (pos 0) refl)

dot_unit : (xs : List ℤ) (place : ℕ) → dot xs (unit place) ≡ number_at xs place
dot_unit xs place =
    dot_one xs (unit place) place
    (λ other differs. times_zero (number_at xs other) _
    (cond-false (other == place) (pos 1) (pos 0) (ne_eqb other place differs)))
    ∙ ap (λ (z : ℤ). number_at xs place *ℤ z) (cond-true (place == place) (pos 1) (pos 0) (eq-eqb place place refl))
    ∙ mul-one (number_at xs place)

-- the sum of numbers with the shares is what the shares come to
dot_spread : (xs : List ℤ) (lines : List Line) (shares : List ℤ)
    → dot xs (spread lines shares) ≡ shared lines shares (λ column. number_at xs (suc column))
unfolding spread shared
dot_spread xs [] shares = spread_nothing xs
dot_spread xs (line ∷ lines) [] = spread_nothing xs
dot_spread xs (line ∷ lines) (share ∷ shares) =
    dot-add xs (λ index. share *ℤ unit (suc line.basic) index) (spread lines shares)
    ∙ ap₂ (λ (y z : ℤ). y +ℤ z) (dot-scaled xs share (unit (suc line.basic))
    ∙ ap (λ (z : ℤ). share *ℤ z) (dot_unit xs (suc line.basic))) (dot_spread xs lines shares)

opposite : (a b c : ℤ) → a -ℤ b *ℤ c ≡ a +ℤ neg_ℤ b *ℤ c
opposite a b c = let turned = mul-neg_left b c in omega (arith, ints)

pub dot_exchange : (xs : List ℤ) (lines : List Line) (shares : List ℤ) (column : ℕ) (scale : ℤ)
    → dot xs (exchange lines shares column scale)
    ≡ shared lines shares (λ c. number_at xs (suc c)) -ℤ scale *ℤ number_at xs (suc column)
dot_exchange xs lines shares column scale =
    dot-agree xs (exchange lines shares column scale)
    (λ index. spread lines shares index +ℤ neg_ℤ scale *ℤ unit (suc column) index)
    (λ index less. opposite (spread lines shares index) scale (unit (suc column) index))
    ∙ dot-add xs (spread lines shares) (λ index. neg_ℤ scale *ℤ unit (suc column) index)
    ∙ ap₂ (λ (y z : ℤ). y +ℤ z) (dot_spread xs lines shares)
    (dot-scaled xs (neg_ℤ scale) (unit (suc column)) ∙ ap (λ (z : ℤ). neg_ℤ scale *ℤ z) (dot_unit xs (suc column)))
    ∙ sym (opposite (shared lines shares (λ c. number_at xs (suc c))) scale (number_at xs (suc column)))

-- ---- shares where all columns but one count nothing

shared_none : (lines : List Line) (shares : List ℤ) (worth : ℕ → ℤ)
    → ((other : ℕ) (next : Line) → slice_get lines other ≡ Some next → worth next.basic ≡ pos 0)
    → shared lines shares worth ≡ pos 0
unfolding shared
shared_none [] shares worth h = refl
shared_none (line ∷ lines) [] worth h = refl
shared_none (line ∷ lines) (share ∷ shares) worth h =
    ap₂ (λ (y z : ℤ). y +ℤ z) (times_zero share (worth line.basic) (h 0 line refl))
    (shared_none lines shares worth (λ other next at. h (suc other) next at))

left_only : (a b : ℤ) → b ≡ pos 0 → a +ℤ b ≡ a
left_only a b h = omega (arith, ints)

right_only : (a b c : ℤ) → a ≡ pos 0 → b ≡ c → a +ℤ b ≡ c
right_only a b c h k = omega (arith, ints)

shared_one : (lines : List Line) (shares : List ℤ) (worth : ℕ → ℤ) (index : ℕ) (line : Line)
    → length shares ≡ length lines → slice_get lines index ≡ Some line
    → ((other : ℕ) (next : Line) → other ≢ index → slice_get lines other ≡ Some next → worth next.basic ≡ pos 0)
    → shared lines shares worth ≡ number_at shares index *ℤ worth line.basic
unfolding shared
shared_one [] shares worth index line same at h = absurd (cc)
shared_one (first ∷ lines) [] worth index line same at h = absurd (omega arith)
shared_one (first ∷ lines) (share ∷ shares) worth zero line same at h =
    let is : first ≡ line = some_same first line at in
    left_only (share *ℤ worth first.basic) (shared lines shares worth)
    (shared_none lines shares worth (λ other next here. h (suc other) next (omega arith) here))
    ∙ ap (λ (l : Line). share *ℤ worth l.basic) is
  where
    some_same : (x y : Line) → Some x ≡ Some y → x ≡ y
    some_same x y e = cc
shared_one (first ∷ lines) (share ∷ shares) worth (suc index) line same at h =
    right_only (share *ℤ worth first.basic) _ _ (times_zero share (worth first.basic) (h 0 first (omega arith) refl))
    (shared_one lines shares worth index line (omega arith) at
    (λ other next differs here. h (suc other) next (λ (e : suc other ≡ suc index). differs (omega arith)) here))

-- ---- the entries

shown : (l r s o e t y k : ℤ) → pos 0 <ℤ k → l *ℤ o ≡ r *ℤ e → s *ℤ o ≡ y *ℤ k → s *ℤ e ≡ k *ℤ t → l *ℤ y ≡ r *ℤ t
shown l r s o e t y k some h m n =
    same_from_mul (l *ℤ y) (r *ℤ t) k
    (mul_assoc l y k ∙ ap (λ (z : ℤ). l *ℤ z) (sym m) ∙ mul_left_comm l s o ∙ ap (λ (z : ℤ). s *ℤ z) h
    ∙ mul_left_comm s r e ∙ ap (λ (z : ℤ). r *ℤ z) (n ∙ *ℤ_comm k t) ∙ sym (mul_assoc r t k)) some

same_difference : (a b : ℤ) → a -ℤ b ≡ pos 0 → a ≡ b
same_difference a b h = omega (arith, ints)

-- a line has a row
pub row_of_line : (lines : List Line) (tableau : Tableau) (index : ℕ) (line : Line) → AreLinesOf lines tableau
    → slice_get lines index ≡ Some line → (row : TableauRow) × (slice_get tableau.rows index ≡ Some row)
row_of_line lines tableau index line are at =
    elim (slice_get_cases tableau.rows index).1 [
      | inl (row, inside, here, read) ↦ (row, here)
      | inr (past, none) ↦
          let low : index < length lines = slice_get_within lines index line at in
          let same = are.count in
          absurd (omega arith)
    ]

module _ (program : Program) (tableau : Tableau) (sound : IsSound program tableau) (lines : List Line)
    (are : AreLinesOf lines tableau) (column : ℕ) (entries : List ℤ) (is : IsColumn program lines column entries)
    (index : ℕ) (line : Line) (row : TableauRow) (at : slice_get lines index ≡ Some line)
    (here : slice_get tableau.rows index ≡ Some row) where
  inside : Contains tableau.rows row
  inside = contains_at tableau.rows index row here

  abbrev pub line_is : IsLineOf line row
  line_is = are.each index line row at here

  elsewhere : (other : ℕ) (next : Line) → other ≢ index → slice_get lines other ≡ Some next
      → entry row next.basic ≡ pos 0
  elsewhere other next differs found =
      let there = row_of_line lines tableau other next are found in
      let next_is : IsLineOf next there.0 = are.each other next there.0 found there.1 in
      ap (λ (n : ℕ). entry row n) next_is.basic
      ∙ sound.apart there.0 row (contains_at tableau.rows other there.0 there.1) inside
      (λ e. differs (sound.basics_differ other index there.0 row there.1 here e))

  taken : number_at is.shares index *ℤ entry row row.basic ≡ is.scale *ℤ entry row column
  taken =
      ap (λ (n : ℕ). number_at is.shares index *ℤ entry row n) (sym line_is.basic)
      ∙ sym (shared_one lines is.shares (λ c. entry row c) index line is.count at elsewhere)
      ∙ same_difference (shared lines is.shares (λ c. entry row c)) (is.scale *ℤ entry row column)
      (sym (dot_exchange row.numbers lines is.shares column is.scale)
      ∙ All-contains (λ (r : TableauRow). dot r.numbers (exchange lines is.shares column is.scale) ≡ pos 0)
      tableau.rows row (sound.solved_here (exchange lines is.shares column is.scale) is.solves) inside)

  -- an entry is that of the row, by the multiple that the line tells of
  pub column_shown : line_is.numbers.left *ℤ number_at entries index ≡ line_is.numbers.right *ℤ entry row column
  column_shown =
      shown line_is.numbers.left line_is.numbers.right (number_at is.shares index) line.own (entry row row.basic)
      (entry row column) (number_at entries index) is.scale is.positive
      (ap (λ (z : ℤ). line_is.numbers.left *ℤ z) (sym line_is.own) ∙ line_is.numbers.numbers (suc row.basic))
      (is.balance index line at) taken

  pub entry_is : number_at line_is.multiple (suc column) ≡ number_at entries index
  entry_is = same_from_mul (number_at line_is.multiple (suc column)) (number_at entries index) line_is.numbers.left
      (*ℤ_comm (number_at line_is.multiple (suc column)) line_is.numbers.left ∙ line_is.numbers.numbers (suc column)
      ∙ sym column_shown ∙ *ℤ_comm line_is.numbers.left (number_at entries index)) line_is.numbers.left_positive
