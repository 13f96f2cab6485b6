-- The optimum that is read is that of the last tableau (`optimum_read`).
use Rattle.std.proofs.Common.{◌≡◌, ◌≢◌, inl, inr, ℕ, suc, ◌+◌, ◌<◌, ◌≤◌, ◌^◌, List, [], ◌∷◌, ◌++◌, length, drop, All}
use Rattle.std.proofs.Common.{get_or}
use Rattle.std.proofs.Common.{Option, Some, refl, sym, ap, ◌∙◌, subst, arith}
use Rattle.std.specs.Prelude.{ℤ, pos, ◌*ℤ◌, ◌<ℤ◌, slice_get, find, ◌==◌, unsigned_abs}
use Rattle.std.proofs.lemmas.Int.{ints}
use Rattle.std.proofs.lemmas.Bool.{cases_eq}
use Rattle.std.proofs.lemmas.List.{length-append}
use Rattle.std.proofs.lemmas.List.Elements.{All-weaker, Contains-get_or}
use Rattle.std.proofs.lemmas.Option.{slice_get-get_or, slice_get_within, get_or_from_slice_get}
use Rattle.std.proofs.Math.IntN.{*ℤ_comm, zero-*ℤ}
use Rattle.suit_num.specs.declared.fraction.Frac.{Frac}
use Rattle.suit_num.specs.Narrow.{IsNarrow}
use Rattle.suit_num.proofs.IntegerLaws.{mul_assoc, mul_left_comm, same_from_mul, mul-one}
use Rattle.suit_linear.specs.declared.limits.TheConstants.{MOST_SMALL}
use Rattle.suit_linear.specs.declared.program.Program.{Program}
use Rattle.suit_linear.specs.declared.ends.Optimum.{Optimum}
use Rattle.suit_linear.specs.Points.{number_at}
use Rattle.suit_linear.specs.Multiples.{IsSmall}
use Rattle.suit_linear.specs.Tableaus.{TableauRow, Tableau, bound, entry}
use Rattle.suit_linear.specs.Pivots.{content, primitive}
use Rattle.suit_linear.specs.Ends.{IsBasicValue, IsOptimumOf}
use Rattle.suit_linear.proofs.Contents.{content_positive}
use Rattle.suit_linear.proofs.PrimitiveMultiples.{primitive_is_row}
use Rattle.suit_linear.proofs.SoundRows.{row_found, found_row, cases_option}
use Rattle.suit_linear_fast.specs.declared.lines.Line.{Line}
use Rattle.suit_linear_fast.specs.Lines.{IsLineOf, IsLineValue}
use Rattle.suit_linear_fast.specs.States.{IsStateOf}
use Rattle.suit_linear_fast.proofs.ColumnClaims.{row_of_line}
use Rattle.suit_linear_fast.proofs.States.{line_of_row}
use Rattle.suit_lists.proofs.Indices.{contains_at, pushed_each}

-- ---- the objective row

pub narrow_small : (numbers : List ℤ) → All IsSmall numbers → All IsNarrow numbers
narrow_small numbers h = All-weaker IsSmall IsNarrow (λ z small. low (unsigned_abs z) small) numbers h
  where
    low : (n : ℕ) → n ≤ MOST_SMALL → n < 2 ^ 127
    low n h = omega arith

pub content_some : (numbers : List ℤ) → 0 < length numbers → pos 0 <ℤ number_at numbers 0 → 0 < content numbers
content_some numbers inside some =
    content_positive numbers (number_at numbers 0) (Contains-get_or numbers 0 (pos 0) inside)
    (not_zero (number_at numbers 0) some)
  where
    not_zero : (z : ℤ) → pos 0 <ℤ z → z ≢ pos 0
    not_zero z h = λ (e : z ≡ pos 0). absurd (omega (arith, ints))

-- ---- values

pub record NoneBelow (lines : List Line) (column count : ℕ) : Type 0 where
  pub none : (index : ℕ) (line : Line) → index < count → slice_get lines index ≡ Some line → line.basic ≢ column

pub none_yet : (lines : List Line) (column : ℕ) → NoneBelow lines column 0
none_yet lines column = record { none = λ index line less at e. absurd (omega arith) }

pub none_more : (lines : List Line) (column count : ℕ) (other : Line) → (get_or lines count other).basic ≢ column
    → NoneBelow lines column count → NoneBelow lines column (count + 1)
none_more lines column count other differs h = record {
  none = λ index line less at.
      elim (cases_eq index count) [
        | inl here ↦
            let is : get_or lines count other ≡ line =
            get_or_from_slice_get lines count line other (subst (λ (n : ℕ). slice_get lines n ≡ Some line) here at) in
            λ e. differs (ap (λ (l : Line). l.basic) is ∙ e)
        | inr elsewhere ↦ h.none index line (omega arith) at
      ];
}

pub value_found : (lines : List Line) (column index : ℕ) (other : Line) (part : Frac) → index < length lines
    → (get_or lines index other).basic ≡ column
    → part.num *ℤ (get_or lines index other).own ≡ (get_or lines index other).bound *ℤ part.den
    → IsLineValue lines column part
value_found lines column index other part less basic is =
    inl (index, get_or lines index other, slice_get-get_or lines index other less, basic, is)

pub value_none : (lines : List Line) (column count : ℕ) (part : Frac) → length lines ≤ count
    → NoneBelow lines column count → part.num ≡ pos 0 → IsLineValue lines column part
value_none lines column count part past h none =
    inr (λ index line at. h.none index line (within index (slice_get_within lines index line at)) at, none)
  where
    within : (index : ℕ) → index < length lines → index < count
    within index less = omega arith

pub record AreValues (lines : List Line) (count : ℕ) (parts : List Frac) : Type 0 where
  pub same : length parts ≡ count
  pub each : (column : ℕ) (part : Frac) → slice_get parts column ≡ Some part → IsLineValue lines column part

pub no_values : (lines : List Line) → AreValues lines 0 []
no_values lines = record { same = refl; each = λ column part at. absurd (cc) }

pub value_more : (lines : List Line) (count : ℕ) (parts : List Frac) (part : Frac) → AreValues lines count parts
    → IsLineValue lines count part → AreValues lines (count + 1) (parts ++ part ∷ [])
value_more lines count parts part h is = record {
  same = length-append parts (part ∷ []) ∙ ap (λ (n : ℕ). n + 1) h.same;
  each = pushed_each (λ n p. IsLineValue lines n p) parts part h.each
      (subst (λ (n : ℕ). IsLineValue lines n part) (sym h.same) is);
}

-- ---- the optimum

same_value : (l r n o e b c d : ℤ) → pos 0 <ℤ r → l *ℤ o ≡ r *ℤ e → l *ℤ b ≡ r *ℤ c → n *ℤ o ≡ b *ℤ d → n *ℤ e ≡ c *ℤ d
same_value l r n o e b c d some h k m =
    same_from_mul (n *ℤ e) (c *ℤ d) r
    (mul_assoc n e r ∙ ap (λ (z : ℤ). n *ℤ z) (*ℤ_comm e r ∙ sym h) ∙ mul_left_comm n l o ∙ ap (λ (z : ℤ). l *ℤ z) m
    ∙ sym (mul_assoc l b d) ∙ ap (λ (z : ℤ). z *ℤ d) k ∙ mul_assoc r c d ∙ *ℤ_comm r (c *ℤ d)) some

module _ (program : Program) (lines : List Line) (objective : List ℤ) (tableau : Tableau)
    (is : IsStateOf program lines objective tableau) where
  basic_value : (column : ℕ) (part : Frac) → IsLineValue lines column part
      → IsBasicValue column (find (λ row. row.basic == column) tableau.rows) part
  basic_value column part (inl (index, line, at, basic, e)) =
      let from = row_of_line lines tableau index line is.told at in
      let row : TableauRow = from.0 in
      let line_is : IsLineOf line row = is.told.each index line row at from.1 in
      let here : row.basic ≡ column = sym line_is.basic ∙ basic in
      let found : find (λ r. r.basic == column) tableau.rows ≡ Some row =
      ap (λ (n : ℕ). find (λ r. r.basic == n) tableau.rows) (sym here)
      ∙ row_found program tableau row is.sound (contains_at tableau.rows index row from.1) in
      subst (λ (o : Option TableauRow). IsBasicValue column o part) (sym found)
      (subst (λ (n : ℕ). part.num *ℤ entry row n ≡ bound row *ℤ part.den) here
      (same_value line_is.numbers.left line_is.numbers.right part.num line.own (entry row row.basic) line.bound
      (bound row)
      part.den line_is.numbers.right_positive
      (ap (λ (z : ℤ). line_is.numbers.left *ℤ z) (sym line_is.own) ∙ line_is.numbers.numbers (suc row.basic))
      (ap (λ (z : ℤ). line_is.numbers.left *ℤ z) (sym line_is.bound) ∙ line_is.numbers.numbers 0) e))
  basic_value column part (inr (none, e)) =
      elim (cases_option (find (λ r. r.basic == column) tableau.rows)) [
        | inl nothing ↦ subst (λ (o : Option TableauRow). IsBasicValue column o part) (sym nothing) e
        | inr some ↦
            let found = found_row tableau.rows column some.0 some.1 in
            let at : slice_get tableau.rows found.0.0 ≡ Some some.0 =
            slice_get-get_or tableau.rows found.0.0 some.0 found.0.1 ∙ ap (λ (r : TableauRow). Some r) found.0.2 in
            let line = line_of_row lines tableau found.0.0 some.0 is.told at in
            absurd (none found.0.0 line.0 line.1 ((is.told.each found.0.0 line.0 some.0 line.1 at).basic ∙ found.1))
      ]

  pub optimum_read : (optimum : Optimum) (whole : List ℤ) → length optimum.point ≡ length program.costs
      → ((column : ℕ) (part : Frac) → slice_get optimum.point column ≡ Some part → IsLineValue lines column part)
      → whole ≡ primitive objective → optimum.duals ≡ drop (2 + length program.costs) whole
      → optimum.scale ≡ number_at whole 0 → optimum.value ≡ number_at whole 1 → IsOptimumOf program tableau optimum
  optimum_read optimum whole columns values e duals scales worth =
      let same : whole ≡ tableau.objective =
      e ∙ primitive_is_row objective tableau.objective is.numbers is.width is.primitive.objective in
      record {
        columns = columns;
        point = λ column part at. basic_value column part (values column part at);
        duals = duals ∙ ap (λ (xs : List ℤ). drop (2 + length program.costs) xs) same;
        scale = scales ∙ ap (λ (xs : List ℤ). number_at xs 0) same;
        value = worth ∙ ap (λ (xs : List ℤ). number_at xs 1) same;
      }

pub zero_value : (n d : ℤ) → n *ℤ pos 1 ≡ pos 0 *ℤ d → n ≡ pos 0
zero_value n d h = let nothing : pos 0 *ℤ d ≡ pos 0 = zero-*ℤ d in let one = mul-one n in sym one ∙ h ∙ nothing
