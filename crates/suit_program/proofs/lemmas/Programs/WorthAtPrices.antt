-- At feasible prices a point is worth no more than what it exceeds the rows by comes to (`units_bounded`,
-- `points_bounded`), class layout by class layout (`exceeds_by_play`).
use Rattle.std.proofs.Common.{◌≡◌, ℕ, zero, suc, ◌<◌, Bool, true, false, List, [], ◌∷◌, ◌++◌, length, map, refl, sym}
use Rattle.std.proofs.Common.{ap, ◌∙◌, subst, arith}
use Rattle.std.specs.Prelude.{Contains, slice_index_or, if◌then◌else◌, ℤ, pos, neg_ℤ, ◌+ℤ◌, ◌-ℤ◌, ◌*ℤ◌, ◌≤ℤ◌}
use Rattle.std.specs.List.{flat_map}
use Rattle.std.proofs.lemmas.Bool.{false≢true}
use Rattle.std.proofs.lemmas.Int.{ints}
use Rattle.std.proofs.lemmas.List.{length-map}
use Rattle.std.proofs.Math.IntN.{*ℤ_comm}
use Rattle.suit_lists.proofs.Elements.{Contains-first, Contains-later}
use Rattle.suit_lists.proofs.Filters.{filter_all}
use Rattle.suit_lists.proofs.Maps.{map_same, map_twice}
use Rattle.suit_cards.specs.Cards.{ClassLayout}
use Rattle.suit_num.proofs.IntegerLaws.{mul-add_left}
use Rattle.suit_game.specs.declared.question.Question.{Question}
use Rattle.suit_game.specs.declared.limits.TheConstants.{MOST_MOVES}
use Rattle.suit_classes.specs.declared.class_moves.ClassMove.{ClassMove}
use Rattle.suit_plans.specs.Properness.{sum_of}
use Rattle.suit_plans.proofs.NumberSums.{sum_nothing}
use Rattle.suit_linear.specs.declared.program.ProgramRow.{ProgramRow}
use Rattle.suit_linear.specs.Points.{dot, number_at}
use Rattle.suit_linear.specs.Programs.{IsDualFeasible, column_entries}
use Rattle.suit_program.specs.Programs.Points.{Column, Held, Point, no_point, point_of, unit_point}
use Rattle.suit_program.specs.Programs.{Answered, Limit, Shared, answered_limits, columns, excess, limits, limits_at}
use Rattle.suit_program.specs.Programs.{program_of, row_of, supported_worth}
use Rattle.suit_program.specs.Readings.{price_of}
use Rattle.suit_program.specs.Supports.{Support, declarer_chooses, defence_chooses, is_reached, layouts_of}
use Rattle.suit_program.specs.Supports.{reached_histories, reached_layouts, supported_moves}
use Rattle.suit_program.specs.Programs.Worths.{objective_at, worth_at}
use Rattle.suit_program.proofs.lemmas.Programs.RowsComeOnce.{limits_once}
use Rattle.suit_program.proofs.lemmas.Programs.LinearInThePoint.{excess_linear, objectives_linear, told_by_units}
use Rattle.suit_program.proofs.lemmas.Programs.WithinTheRows.{their_only}
use Rattle.suit_program.proofs.lemmas.Programs.PricesByName.{dot_priced, price_in, priced, priced_by_names}
use Rattle.suit_program.proofs.lemmas.Programs.PricesByName.{priced_linear}
use Rattle.suit_program.proofs.lemmas.Supports.WhatIsReached.{reached_none}
use Rattle.suit_program.proofs.lemmas.Supports.SumsByPlay.{play_sum, rows_by_play, sum_flat}

-- ---- lists

mapped_at : {X : Type 0} (f : X → ℤ) (xs : List X) (index : ℕ) (x : X) → index < length xs
    → number_at (map f xs) index ≡ f (slice_index_or xs index x)
mapped_at f [] index x below = absurd (omega (arith, below))
mapped_at f (first ∷ xs) zero x below = refl
mapped_at f (first ∷ xs) (suc index) x below = mapped_at f xs index x (omega (arith, below))

-- what holds of each product holds of the sum, at numbers 1
ones_le : (scale : ℤ) (all : List Column) (f g : Column → ℤ)
    → ((column : Column) → Contains all column → (scale *ℤ f column) ≤ℤ g column)
    → (scale *ℤ dot (map f all) (λ index. pos 1)) ≤ℤ dot (map g all) (λ index. pos 1)
unfolding dot
ones_le scale [] f g le = omega (arith, ints)
ones_le scale (column ∷ all) f g le =
    both (f column) (g column) (dot (map f all) (λ index. pos 1)) (dot (map g all) (λ index. pos 1))
    (le column (Contains-first column all))
    (ones_le scale all f g (λ other found. le other (Contains-later column all other found)))
  where
    both : (x y u v : ℤ) → (scale *ℤ x) ≤ℤ y → (scale *ℤ u) ≤ℤ v
        → (scale *ℤ (x *ℤ pos 1 +ℤ u)) ≤ℤ (y *ℤ pos 1 +ℤ v)
    both x y u v p q =
        let parts = mul-add_left scale (x *ℤ pos 1) u in
        let one : scale *ℤ (x *ℤ pos 1) ≡ scale *ℤ x = ap (λ (z : ℤ). scale *ℤ z) (single x) in
        omega (arith, ints, p, q, parts, one)
      where
        single : (z : ℤ) → z *ℤ pos 1 ≡ z
        single z = omega (arith, ints)

priced_nothing : (all : List Limit) (prices : List ℤ) → priced all prices (λ limit. pos 0) ≡ pos 0
unfolding priced
priced_nothing [] prices = refl
priced_nothing (limit ∷ all) [] = refl
priced_nothing (limit ∷ all) (price ∷ prices) = let rest = priced_nothing all prices in omega (arith, ints, rest)

zero_product : (x : ℤ) → pos 0 *ℤ x +ℤ pos 0 ≡ pos 0
zero_product x = omega (arith, ints)

module _ (question : Question) (support : Support) (prices : List ℤ) (scale : ℤ)
    (dual : IsDualFeasible (program_of question support) prices scale) where
  -- what a point exceeds the rows by, at the prices
  abbrev pub exceeds : Point → ℤ
  exceeds point = priced (limits question support) prices (excess question support point)

  prices_long : length prices ≡ length (limits question support)
  unfolding program_of
  prices_long = dual.count ∙ length-map (limits question support) (row_of question support (columns question support))

  -- a column alone
  pub units_bounded : (column : Column) → Contains (columns question support) column
      → (scale *ℤ objective_at question support (unit_point column)) ≤ℤ exceeds (unit_point column)
  unfolding program_of
  units_bounded column found =
      let all : List Column = columns question support in
      let index : ℕ = found.0 in
      let objective : Column → ℤ = λ other. objective_at question support (unit_point other) in
      let row : Limit → ProgramRow = row_of question support all in
      let below : index < length (map objective all) =
      subst (λ (n : ℕ). index < n) (sym (length-map all objective)) found.1 in
      let kept = dual.columns index below in
      let cost : number_at (map objective all) index ≡ objective column =
      mapped_at objective all index column found.1 ∙ ap objective found.2 in
      let entries : column_entries (map row (limits question support)) index
      ≡ map (excess question support (unit_point column)) (limits question support) =
      map_twice (λ other. number_at other.entries index) row (limits question support)
      ∙ map_same (λ limit. number_at (row limit).entries index) (excess question support (unit_point column))
      (limits question support)
      (λ limit there. mapped_at (λ other. excess question support (unit_point other) limit) all index column found.1
      ∙ ap (λ (other : Column). excess question support (unit_point other) limit) found.2) in
      subst (λ (z : ℤ). (scale *ℤ objective column) ≤ℤ z)
      (ap (λ (l : List ℤ). dot prices (number_at l)) entries
      ∙ dot_priced (limits question support) prices (excess question support (unit_point column)) prices_long)
      (subst (λ (z : ℤ). (scale *ℤ z) ≤ℤ dot prices
      (number_at (column_entries (map row (limits question support)) index))) cost kept)

  -- nothing at all
  none_priced : (value : ℤ)
      → dot prices (number_at (map (λ row. row.bound) (program_of question support).rows)) ≡ value
      → exceeds no_point ≡ neg_ℤ value
  unfolding program_of
  none_priced value is =
      let all : List Limit = limits question support in
      let f : Limit → ℤ = excess question support no_point in
      let bounds : priced all prices (λ limit. neg_ℤ (f limit)) ≡ value =
      sym (dot_priced all prices (λ limit. neg_ℤ (f limit)) prices_long)
      ∙ ap (λ (l : List ℤ). dot prices (number_at l))
      (sym (map_twice (λ (row : ProgramRow). row.bound) (row_of question support (columns question support)) all))
      ∙ is in
      let turned = priced_linear (neg_ℤ (pos 1)) all prices f (λ limit. pos 0) (λ limit. neg_ℤ (f limit))
      (λ limit. negated (f limit)) in
      let nothing = priced_nothing all prices in
      finish (priced all prices f) value (priced all prices (λ limit. neg_ℤ (f limit)))
      (priced all prices (λ limit. pos 0)) bounds turned nothing
    where
      negated : (x : ℤ) → neg_ℤ x ≡ neg_ℤ (pos 1) *ℤ x +ℤ pos 0
      negated x = omega (arith, ints)

      finish : (x value y z : ℤ) → y ≡ value → y ≡ neg_ℤ (pos 1) *ℤ x +ℤ z → z ≡ pos 0 → x ≡ neg_ℤ value
      finish x value y z bounds turned nothing = omega (arith, ints, bounds, turned, nothing)

  -- some columns, each 1
  pub points_bounded : (value : ℤ) (all : List Column)
      → dot prices (number_at (map (λ row. row.bound) (program_of question support).rows)) ≡ value
      → ((column : Column) → Contains all column → Contains (columns question support) column)
      → (scale *ℤ objective_at question support (point_of all (λ index. pos 1) (pos 1)))
      ≤ℤ (exceeds (point_of all (λ index. pos 1) (pos 1)) +ℤ supported_worth question support value scale)
  unfolding supported_worth
  points_bounded value all is inside =
      let point : Point = point_of all (λ index. pos 1) (pos 1) in
      let objective = told_by_units (objective_at question support)
      (λ k first second whole combined. objectives_linear question support k first second whole combined)
      all (λ index. pos 1) (pos 1) in
      let exceeded = told_by_units exceeds
      (λ k first second whole combined. priced_linear k (limits question support) prices
      (excess question support first) (excess question support second) (excess question support whole)
      (λ limit. excess_linear question support k first second whole combined limit))
      all (λ index. pos 1) (pos 1) in
      let units = ones_le scale all (λ column. objective_at question support (unit_point column))
      (λ column. exceeds (unit_point column)) (λ column found. units_bounded column (inside column found)) in
      finish (objective_at question support point) (exceeds point)
      (dot (map (λ column. objective_at question support (unit_point column)) all) (λ index. pos 1))
      (dot (map (λ column. exceeds (unit_point column)) all) (λ index. pos 1))
      (objective_at question support no_point) (exceeds no_point) value objective exceeded units
      (none_priced value is)
    where
      finish : (o e u v none rest value : ℤ) → o ≡ u +ℤ none *ℤ pos 1 → e ≡ v +ℤ rest *ℤ pos 1
          → (scale *ℤ u) ≤ℤ v → rest ≡ neg_ℤ value → (scale *ℤ o) ≤ℤ (e +ℤ (value +ℤ none *ℤ scale))
      finish o e u v none rest value objective exceeded units is =
          let whole : scale *ℤ o ≡ scale *ℤ u +ℤ scale *ℤ (none *ℤ pos 1) =
          ap (λ (z : ℤ). scale *ℤ z) objective ∙ mul-add_left scale u (none *ℤ pos 1) in
          let one : scale *ℤ (none *ℤ pos 1) ≡ none *ℤ scale = ap (λ (z : ℤ). scale *ℤ z) (single none)
          ∙ *ℤ_comm scale none in
          omega (arith, ints, whole, one, exceeded, units, is)
        where
          single : (z : ℤ) → z *ℤ pos 1 ≡ z
          single z = omega (arith, ints)

  -- ---- by the play

  -- what it exceeds the rows by at a choice of the defence
  abbrev pub part_of : Point → List ClassMove → ClassLayout × ℕ → ℤ
  part_of point history layout =
      if defence_chooses question layout.0 history
      then sum_of (map (λ move. price_of (limits question support) prices layout.0 history move
      *ℤ (point.at (Held layout.0 history) -ℤ worth_at question support point layout.0 (history ++ move ∷ [])))
      (supported_moves question support layout.0 history)) else pos 0

  module _ (point : Point)
      (tight : (history : List ClassMove) → Contains (limits question support) (Shared history)
      → excess question support point (Shared history) ≡ pos 0) where
    abbrev by_name : Limit → ℤ
    by_name limit = price_in (limits question support) prices limit *ℤ excess question support point limit

    layout_part : (history : List ClassMove) (layout : ClassLayout × ℕ)
        → sum_of (map by_name (answered_limits question support history layout)) ≡ part_of point history layout
    unfolding answered_limits excess sum_of
    layout_part history layout = at (defence_chooses question layout.0 history)
      where
        at : (b : Bool)
            → sum_of (map by_name (if b then map (Answered layout.0 history)
            (supported_moves question support layout.0 history) else []))
            ≡ (if b then sum_of (map (λ move. price_of (limits question support) prices layout.0 history move
            *ℤ (point.at (Held layout.0 history) -ℤ worth_at question support point layout.0 (history ++ move ∷ [])))
            (supported_moves question support layout.0 history)) else pos 0)
        at true = ap sum_of (map_twice by_name (Answered layout.0 history)
            (supported_moves question support layout.0 history))
        at false = refl

    history_part : (history : List ClassMove)
        → sum_of (map by_name (limits_at question support history))
        ≡ sum_of (map (part_of point history) (reached_layouts question support history))
    unfolding limits_at sum_of
    history_part history = at (declarer_chooses question history) refl
      where
        none : (layout : ClassLayout × ℕ) → declarer_chooses question history ≡ true
            → part_of point history layout ≡ pos 0
        none layout own = choose (defence_chooses question layout.0 history) refl
          where
            choose : (b : Bool) → defence_chooses question layout.0 history ≡ b
                → (if b then sum_of (map (λ move. price_of (limits question support) prices layout.0 history move
                *ℤ (point.at (Held layout.0 history) -ℤ worth_at question support point layout.0 (history ++ move
                ∷ []))) (supported_moves question support layout.0 history)) else pos 0) ≡ pos 0
            choose true theirs = absurd (false≢true (sym (their_only question layout.0 history theirs) ∙ own))
            choose false not = refl

        at : (b : Bool) → declarer_chooses question history ≡ b
            → sum_of (map by_name (if b then Shared history ∷ []
            else flat_map (answered_limits question support history) (reached_layouts question support history)))
            ≡ sum_of (map (part_of point history) (reached_layouts question support history))
        at true own =
            zero_product (excess question support point (Shared history))
            ∙ sym (sum_nothing (part_of point history) (reached_layouts question support history)
            (λ layout found. none layout own))
        at false not =
            sum_flat by_name (answered_limits question support history) (reached_layouts question support history)
            ∙ ap sum_of (map_same (λ layout. sum_of (map by_name (answered_limits question support history layout)))
            (part_of point history) (reached_layouts question support history)
            (λ layout found. layout_part history layout))

    -- where declarer's rows are kept exactly
    pub exceeds_by_play : exceeds point
        ≡ sum_of (map (λ layout. play_sum question support (part_of point) MOST_MOVES layout []) (layouts_of question))
    unfolding limits reached_layouts
    exceeds_by_play =
        priced_by_names (limits question support) prices (excess question support point) (limits_once question support)
        prices_long tight
        ∙ sum_flat by_name (limits_at question support) (reached_histories question support)
        ∙ ap sum_of (map_same (λ history. sum_of (map by_name (limits_at question support history)))
        (λ history. sum_of (map (part_of point history) (reached_layouts question support history)))
        (reached_histories question support) (λ history found. history_part history))
        ∙ rows_by_play question support (part_of point)
        ∙ ap (λ (l : List (ClassLayout × ℕ)). sum_of (map (λ layout. play_sum question support
        (part_of point) MOST_MOVES layout [])
        l)) (filter_all (λ (layout : ClassLayout × ℕ). is_reached question support layout.0 []) (layouts_of question)
        (λ layout. reached_none question support layout.0))
