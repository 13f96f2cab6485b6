-- What is read from an optimum has few rows, and each has a count (`plan_few`, `defence_few`, `plan_counts`).
use Rattle.std.proofs.Common.{◌≡◌, ℕ, suc, ◌+◌, ◌*◌, ◌<◌, ◌≤◌, Bool, true, false, List, [], ◌∷◌, ◌++◌, length, map}
use Rattle.std.proofs.Common.{refl, sym, ap, ◌∙◌, subst, arith}
use Rattle.std.specs.Prelude.{Contains, cond, filter, nat_lt, not, ◌&&◌, if◌then◌else◌, ℤ, pos, ◌-ℤ◌, ◌<ℤ◌, int_lt}
use Rattle.std.specs.Int.{int_max}
use Rattle.std.specs.List.{flat_map}
use Rattle.std.specs.Ordering.{int_eq}
use Rattle.std.proofs.lemmas.Bool.{and_parts, ltb-false}
use Rattle.std.proofs.lemmas.Bool.Decides.{Decides-int_eq}
use Rattle.std.proofs.lemmas.Int.{clamps, ints}
use Rattle.std.proofs.lemmas.List.{length-append, length-map}
use Rattle.suit_lists.proofs.Elements.{Contains-first, Contains-later, some_of}
use Rattle.suit_lists.proofs.Filters.{Contains-filter, kept_parts}
use Rattle.suit_lists.proofs.FlatMaps.{Contains-flat_map, flat_map_from, kept_in}
use Rattle.suit_lists.proofs.Maps.{Contains-map_from}
use Rattle.suit_cards.specs.Cards.{ClassLayout}
use Rattle.suit_num.proofs.IntegerLaws.{int_lt-true}
use Rattle.suit_game.specs.declared.question.Question.{Question}
use Rattle.suit_game.specs.Validity.{IsValid}
use Rattle.suit_game.specs.declared.limits.TheConstants.{MOST_SUPPORT}
use Rattle.suit_layouts.specs.declared.class_list.TheConstants.{MOST_CLASS_LAYOUTS}
use Rattle.suit_classes.specs.declared.class_moves.ClassMove.{ClassMove}
use Rattle.suit_classes.specs.ClassMoves.{ClassHistory}
use Rattle.suit_classes.specs.ClassPlaces.{class_after, class_turn}
use Rattle.suit_plans.specs.declared.plan.Row.{Row}
use Rattle.suit_plans.specs.declared.defence.DefenceRow.{DefenceRow}
use Rattle.suit_plans.specs.Masses.{Shares, defence_mass, is_declarers}
use Rattle.suit_plans.specs.Properness.{sum_of}
use Rattle.suit_plans.proofs.WhoseTurns.{their_turn}
use Rattle.suit_program.specs.Programs.Points.{Held, Passed, Point}
use Rattle.suit_program.specs.Programs.{columns, columns_at, held_column, limits, program_of, size_of}
use Rattle.suit_program.specs.Readings.{Reading, all_on_first, defence_of, defence_reading, defence_rows_in, has_row}
use Rattle.suit_program.specs.Readings.{plan_at, plan_reading, read_mass, read_shares, row_counts, sum_counts}
use Rattle.suit_program.specs.Readings.{topped_up}
use Rattle.suit_program.specs.Supports.{Support, declarer_chooses, defence_chooses, is_reached, layouts_of, legal_moves}
use Rattle.suit_program.specs.Supports.{reached_histories, reached_layouts, supported_moves}
use Rattle.suit_program.proofs.lemmas.Supports.AtAChoice.{own_place, their_place}
use Rattle.suit_program.proofs.lemmas.Readings.DefenceIsProper.{defence_masses}
use Rattle.suit_program.proofs.lemmas.Readings.RowsFit.{sum_kept_counts}
use Rattle.suit_linear.specs.Programs.{IsDualFeasible}
use Rattle.suit_answer.specs.declared.parts.TheConstants.{MOST_ROWS}
use Rattle.suit_solve.specs.Limits.{most_size}
use Rattle.suit_solve.proofs.LayoutCounts.{layouts_few}

-- ---- lists

-- few lists of few
flat_few : {X Y : Type 0} (made : X → List Y) (xs : List X)
    → ((x : X) → Contains xs x → length (made x) ≤ MOST_SUPPORT)
    → length (flat_map made xs) ≤ length xs * MOST_SUPPORT
flat_few made [] few = omega arith
flat_few made (x ∷ xs) few =
    joined (length (made x)) (length (flat_map made xs)) (length xs) (length (made x ++ flat_map made xs))
    (length-append (made x) (flat_map made xs)) (few x (Contains-first x xs))
    (flat_few made xs (λ y found. few y (Contains-later x xs y found)))
  where
    joined : (one rest count whole : ℕ) → whole ≡ one + rest → one ≤ MOST_SUPPORT → rest ≤ count * MOST_SUPPORT
        → whole ≤ suc count * MOST_SUPPORT
    joined one rest count whole is p q = omega (arith, is, p, q)

-- ---- how many rows

-- a program that is not too large has few columns
few_columns : (question : Question) (support : Support)
    → nat_lt (most_size question) (size_of question support) ≡ false
    → length (columns question support) ≤ MOST_SUPPORT
unfolding size_of
few_columns question support within =
    at_most (length (limits question support)) (length (columns question support))
    (ltb-false (most_size question) (length (limits question support) + length (columns question support)) within)
  where
    at_most : (one other : ℕ) → one + other ≤ most_size question → other ≤ MOST_SUPPORT
    at_most one other le = omega (arith, le)

module _ (question : Question) (support : Support) where
  -- a choice of declarer's has a column
  own_columns : (history : ClassHistory) → declarer_chooses question history ≡ true
      → 0 < length (columns_at question support history)
  unfolding columns_at
  own_columns history chooses =
      let supported = (own_place question support history chooses).1.supported in
      subst (λ (b : Bool). 0 < length (if b then map (Passed history) (supported_moves question support [] history)
      else flat_map (held_column question history) (reached_layouts question support history))) (sym chooses)
      (subst (λ (l : List ClassMove). 0 < length (map (Passed history) l)) (sym supported) (omega arith))

  -- and so has one of the defence's in a class layout
  their_columns : (layout : ClassLayout × ℕ) (history : ClassHistory) → Contains (layouts_of question) layout
      → is_reached question support layout.0 history ≡ true → defence_chooses question layout.0 history ≡ true
      → 0 < length (columns_at question support history)
  unfolding columns_at reached_layouts held_column declarer_chooses
  their_columns layout history listed reached chooses =
      let place = their_place question support layout.0 history chooses in
      let not_own : declarer_chooses question history ≡ false =
      waits (their_turn (class_after question history) place.0).1 in
      let column : Contains (held_column question history layout) (Held layout.0 history) =
      subst (λ (b : Bool). Contains (if b then Held layout.0 history ∷ [] else []) (Held layout.0 history))
      (sym chooses) (Contains-first (Held layout.0 history) []) in
      subst (λ (b : Bool). 0 < length (if b then map (Passed history) (supported_moves question support [] history)
      else flat_map (held_column question history) (reached_layouts question support history))) (sym not_own)
      (some_of (flat_map (held_column question history) (reached_layouts question support history))
      (Held layout.0 history)
      (Contains-flat_map (held_column question history) (reached_layouts question support history) layout
      (Held layout.0 history)
      (Contains-filter (λ (other : ClassLayout × ℕ). is_reached question support other.0 history) (layouts_of question)
      layout listed reached) column))
    where
      waits : is_declarers (class_turn (class_after question history)) ≡ false
          → declarer_chooses question history ≡ false
      waits not_on = ap (λ (b : Bool). b && nat_lt 1 (length (legal_moves question [] history))) not_on

  row_chooses : (reading : Reading) (history : ClassHistory) → has_row reading history ≡ true
      → reading.chooses history ≡ true
  unfolding has_row
  row_chooses reading history has =
      (and_parts (reading.chooses history) (int_lt (pos 0) (read_mass reading history)
      && not (all_on_first (read_shares reading history) (read_mass reading history))) has).0

  pub row_mass : (reading : Reading) (history : ClassHistory) → has_row reading history ≡ true
      → pos 0 <ℤ read_mass reading history
  unfolding has_row
  row_mass reading history has =
      let parts = and_parts (reading.chooses history) (int_lt (pos 0) (read_mass reading history)
      && not (all_on_first (read_shares reading history) (read_mass reading history))) has in
      int_lt-true (pos 0) (read_mass reading history) (and_parts (int_lt (pos 0) (read_mass reading history))
      (not (all_on_first (read_shares reading history) (read_mass reading history))) parts.1).0

  -- the plan has few rows
  pub plan_few : (point : Point) → nat_lt (most_size question) (size_of question support) ≡ false
      → length (plan_at question support point).rows ≤ MOST_ROWS
  unfolding plan_at columns
  plan_few point within =
      let reading : Reading = plan_reading question support point in
      let kept : List ClassHistory = filter (has_row reading) (reached_histories question support) in
      bounded (length-map kept (λ history. record { history = history; counts = row_counts reading history }))
      (kept_in (has_row reading) (columns_at question support) (reached_histories question support)
      (λ history has. own_columns history (row_chooses reading history has)))
      (few_columns question support within)
    where
      bounded : {rows kept columns : ℕ} → rows ≡ kept → kept ≤ columns → columns ≤ MOST_SUPPORT → rows ≤ MOST_ROWS
      bounded is le few = omega (arith, is, le, few)

  -- and so has the defence
  pub defence_few : (prices : List ℤ) (scale : ℤ)
      → nat_lt (most_size question) (size_of question support) ≡ false
      → length (defence_of question support prices scale).rows ≤ MOST_ROWS
  unfolding defence_of columns
  defence_few prices scale within =
      total (flat_few (defence_rows_in question support prices scale) (layouts_of question) rows_few)
      (layouts_few question)
    where
      total : {rows layouts : ℕ} → rows ≤ layouts * MOST_SUPPORT → layouts ≤ MOST_CLASS_LAYOUTS → rows ≤ MOST_ROWS
      total le few = omega (arith, le, few)

      bounded : {rows kept columns : ℕ} → rows ≡ kept → kept ≤ columns → columns ≤ MOST_SUPPORT → rows ≤ MOST_SUPPORT
      bounded is le few = omega (arith, is, le, few)

      rows_few : (layout : ClassLayout × ℕ) → Contains (layouts_of question) layout
          → length (defence_rows_in question support prices scale layout) ≤ MOST_SUPPORT
      rows_few layout listed =
          let reading : Reading = defence_reading question support prices scale layout.0 in
          let test : ClassHistory → Bool =
          λ history. is_reached question support layout.0 history && has_row reading history in
          let kept : List ClassHistory = filter test (reached_histories question support) in
          bounded (length-map kept (λ history. record {
            west = layout.0;
            history = history;
            counts = row_counts reading history;
          }))
          (kept_in test (columns_at question support) (reached_histories question support)
          (λ history has.
          let parts = and_parts (is_reached question support layout.0 history) (has_row reading history) has in
          their_columns layout history listed parts.0 (row_chooses reading history parts.1)))
          (few_columns question support within)

-- ---- counts

none_kept : (shares : Shares) → length (filter (λ (count : ClassMove × ℤ). not (int_eq count.1 (pos 0))) shares) ≡ 0
    → sum_counts shares ≡ pos 0
unfolding sum_of
none_kept shares none =
    sym (sum_kept_counts shares)
    ∙ nothing (filter (λ (count : ClassMove × ℤ). not (int_eq count.1 (pos 0))) shares) none
  where
    nothing : (kept : Shares) → length kept ≡ 0 → sum_counts kept ≡ pos 0
    nothing [] is = refl
    nothing (count ∷ kept) is = absurd (omega (arith, is))

clash : (high f mass rest : ℤ) → pos 0 <ℤ mass → high ≡ int_max f (mass -ℤ rest) → high ≡ pos 0 → rest ≡ pos 0 → ⊥
clash high f mass rest some is nothing none = grind (arith, ints, clamps)

-- counts with the rest of a mass on the first are not all 0
topped_some : (mass : ℤ) (first : ClassMove × ℤ) (shares : Shares) → pos 0 <ℤ mass
    → 0 < length (filter (λ (count : ClassMove × ℤ). not (int_eq count.1 (pos 0)))
    (topped_up mass (first ∷ shares)))
topped_some mass first shares some =
    by_first (int_max first.1 (mass -ℤ sum_counts shares)) refl
    (filter (λ (count : ClassMove × ℤ). not (int_eq count.1 (pos 0))) shares) refl
    (int_eq (int_max first.1 (mass -ℤ sum_counts shares)) (pos 0)) refl
  where
    by_first : (top : ℤ) → top ≡ int_max first.1 (mass -ℤ sum_counts shares) → (kept : Shares)
        → filter (λ (count : ClassMove × ℤ). not (int_eq count.1 (pos 0))) shares ≡ kept → (b : Bool)
        → int_eq top (pos 0) ≡ b → 0 < length (cond (not b) ((first.0, top) ∷ kept) kept)
    by_first top is kept rest false e = omega arith
    by_first top is [] rest true e =
        absurd (clash top first.1 mass (sum_counts shares) some is
        ((Decides-int_eq top (pos 0)).0 e) (none_kept shares (ap length rest)))
    by_first top is (count ∷ kept) rest true e = omega arith

module _ (question : Question) (support : Support) (point : Point) where
  -- each row of the plan has a count
  pub plan_counts : (history : ClassHistory) → has_row (plan_reading question support point) history ≡ true
      → 0 < length (row_counts (plan_reading question support point) history)
  unfolding row_counts
  plan_counts history has =
      let reading : Reading = plan_reading question support point in
      let supported = (own_place question support history (row_chooses question support reading history has)).1 in
      subst (λ (l : List ClassMove). 0 < length (filter (λ (count : ClassMove × ℤ). not (int_eq count.1 (pos 0)))
      (topped_up (read_mass reading history) (map (λ move. (move, point.at (Passed history move))) l))))
      (sym supported.supported)
      (topped_some (read_mass reading history) _ _ (row_mass question support reading history has))

  -- so has each that is listed
  pub plan_row_some : (row : Row) → Contains (plan_at question support point).rows row → 0 < length row.counts
  unfolding plan_at
  plan_row_some row found =
      let reading : Reading = plan_reading question support point in
      let from = Contains-map_from (λ (history : ClassHistory). record {
        history = history;
        counts = row_counts reading history;
      })
      (filter (has_row reading) (reached_histories question support)) row found in
      subst (λ (other : Row). 0 < length other.counts) from.2
      (plan_counts from.0 (kept_parts (has_row reading) (reached_histories question support) from.0 from.1).1)

-- where a row of the defence comes from: a class layout and a class history, to which some mass comes
pub record IsReadRow (question : Question) (support : Support) (prices : List ℤ) (scale : ℤ) (row : DefenceRow) :
    Type 0 where
  pub layout : ClassLayout × ℕ
  pub listed : Contains (layouts_of question) layout
  pub west : row.west ≡ layout.0
  pub mass : pos 0 <ℤ defence_mass question (defence_of question support prices scale) row.west row.history

module _ (question : Question) (support : Support) (valid : IsValid question) (prices : List ℤ) (scale : ℤ)
    (dual : IsDualFeasible (program_of question support) prices scale) where
  row_in : (layout : ClassLayout × ℕ) → Contains (layouts_of question) layout → (row : DefenceRow)
      → Contains (defence_rows_in question support prices scale layout) row
      → IsReadRow question support prices scale row
  row_in layout listed row found =
      let reading : Reading = defence_reading question support prices scale layout.0 in
      let test : ClassHistory → Bool =
      λ history. is_reached question support layout.0 history && has_row reading history in
      let from = Contains-map_from (λ (history : ClassHistory). record {
        west = layout.0;
        history = history;
        counts = row_counts reading history;
      })
      (filter test (reached_histories question support)) row found in
      let kept = (kept_parts test (reached_histories question support) from.0 from.1).1 in
      let parts = and_parts (is_reached question support layout.0 from.0) (has_row reading from.0) kept in
      subst (IsReadRow question support prices scale) from.2
      (record {
        layout = layout;
        listed = listed;
        west = refl;
        mass = subst (λ (z : ℤ). pos 0 <ℤ z)
            (sym (defence_masses question support valid prices scale dual layout listed from.0 parts.0).0)
            (row_mass question support reading from.0 parts.1);
      })

  pub read_row : (row : DefenceRow) → Contains (defence_of question support prices scale).rows row
      → IsReadRow question support prices scale row
  unfolding defence_of
  read_row row found =
      let from = flat_map_from (defence_rows_in question support prices scale) (layouts_of question) row found in
      row_in from.0 from.1 row from.2
