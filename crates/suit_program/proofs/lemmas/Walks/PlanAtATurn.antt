-- What stands in the columns of a class history where declarer chooses, as a plan's reader takes it (`turn_told`).
use Rattle.std.proofs.Common.{◌≡◌, ℕ, zero, suc, ◌+◌, ◌<◌, ◌≤◌, Bool, true, false, List, [], ◌∷◌, ◌++◌, length}
use Rattle.std.proofs.Common.{get_or, drop, take, map, refl, sym, ap, ◌∙◌, subst, arith, SFits}
use Rattle.std.specs.Prelude.{All, Some, None, if◌then◌else◌, ℤ, pos, negsuc, ◌+ℤ◌, ◌≤ℤ◌, ◌^◌, unsigned_abs}
use Rattle.std.specs.Int.{w128, ◌∣◌}
use Rattle.std.specs.List.{AllByRecursion, flat_map}
use Rattle.std.proofs.lemmas.Int.{ints}
use Rattle.std.proofs.lemmas.List.{at_drop_more, drop_more, get_or-map, length-map}
use Rattle.std.proofs.lemmas.List.Elements.{All-from_recursion, Contains-get_or}
use Rattle.std.proofs.lemmas.Nat.Gcd.{dvd_trans}
use Rattle.suit_num.specs.declared.fraction.Frac.{Frac}
use Rattle.suit_num.specs.Divisors.{lcm_of}
use Rattle.suit_num.specs.Narrow.{IsNarrow}
use Rattle.suit_num.proofs.DivisorLaws.{IsLcm-lcm_of}
use Rattle.suit_game.specs.declared.question.Question.{Question}
use Rattle.suit_classes.specs.declared.class_moves.ClassMove.{ClassMove}
use Rattle.suit_classes.specs.ClassMoves.{ClassHistory}
use Rattle.suit_plans.specs.Masses.{Shares}
use Rattle.suit_plans.specs.Properness.{sum_of}
use Rattle.suit_linear.specs.declared.ends.Optimum.{Optimum}
use Rattle.suit_linear.proofs.CommonDenominators.{common_denominator}
use Rattle.suit_program.specs.declared.walks.plan_reader.PlanReader.{PlanReader}
use Rattle.suit_program.specs.declared.walks.reach.Reach.{Reach}
use Rattle.suit_program.specs.Programs.Points.{Column, Passed, Point, point_of, unit_point}
use Rattle.suit_program.specs.Programs.{columns, columns_at, held_column, program_of}
use Rattle.suit_program.specs.Walks.PlanWalks.{IsPlanTurn, reading_of, shares_here}
use Rattle.suit_program.specs.Walks.Reaches.{IsReach, reached_indices}
use Rattle.suit_program.specs.Readings.ReadingLaws.{IsReadable}
use Rattle.suit_program.specs.Readings.{common_den, is_passed, parts_of, plan_den, plan_point, read_mass, scaled}
use Rattle.suit_program.specs.Readings.{sum_counts, topped_up}
use Rattle.suit_program.specs.Readings.Sharing.{IsPartOfDen, counted}
use Rattle.suit_program.specs.Supports.{Support, declarer_chooses, reached_layouts, supported_moves}
use Rattle.suit_program.specs.Walks.{StandsIn}
use Rattle.suit_program.specs.Programs.Worths.{objective_at, passed}
use Rattle.suit_program.proofs.lemmas.Programs.ObjectiveIsBounded.{feasible_within}
use Rattle.suit_program.proofs.lemmas.Walks.HowManyColumns.{own_count}
use Rattle.suit_program.proofs.lemmas.Readings.LeastCommonMultiple.{abs_positive, any_part}
use Rattle.suit_program.proofs.lemmas.Programs.ColumnsComeOnce.{columns_are_given}
use Rattle.suit_program.proofs.lemmas.Readings.PlanKeeps.{own_positive, own_within}
use Rattle.suit_program.proofs.lemmas.Readings.PartOfAPoint.{plan_part}
use Rattle.suit_program.proofs.lemmas.Programs.WithinTheRows.{IsWithin}
use Rattle.suit_program.proofs.lemmas.Walks.NodesBelow.{index_parts, layout_at, layout_listed}
use Rattle.suit_program.proofs.lemmas.Supports.WhatIsReached.{IsSomewhere}
use Rattle.suit_program.proofs.lemmas.Walks.WhatAWalkGathers.{stands_here}
use Rattle.suit_program.proofs.lemmas.Readings.MassesNoLess.{masses_are_read}
use Rattle.suit_program.proofs.lemmas.Readings.MassSharedOut.{low_mapped, sum_mapped}
use Rattle.suit_program.proofs.lemmas.Programs.SumsInOrder.{le_trans}

-- ---- denominators

later_divides : (b : Bool) (part : Frac) (n rest : ℕ) → n ∣ rest
    → n ∣ (if b then lcm_of (unsigned_abs part.den) rest else rest)
later_divides true part n rest divides =
    dvd_trans n divides (IsLcm-lcm_of (unsigned_abs part.den) rest (abs_positive part.den part.positive)).1
later_divides false part n rest divides = divides

-- the denominator in a column of declarer's divides that of the plan
part_divides : (all : List Column) (fracs : List Frac) (i : ℕ) (c : Column) (d : Frac) → i < length all
    → i < length fracs → is_passed (get_or all i c) ≡ true
    → unsigned_abs (get_or fracs i d).den ∣ common_den all (parts_of fracs)
unfolding common_den
part_divides [] fracs i c d below within passes = absurd (omega (arith, below))
part_divides (column ∷ all) [] i c d below within passes = absurd (omega (arith, within))
part_divides (column ∷ all) (part ∷ fracs) zero c d below within passes =
    let rest : ℕ = common_den all (parts_of fracs) in
    subst (λ (b : Bool). unsigned_abs part.den ∣ (if b then lcm_of (unsigned_abs part.den) rest else rest)) (sym passes)
    (IsLcm-lcm_of (unsigned_abs part.den) rest (abs_positive part.den part.positive)).0
part_divides (column ∷ all) (part ∷ fracs) (suc i) c d below within passes =
    later_divides (is_passed column) part (unsigned_abs (get_or fracs i d).den) (common_den all (parts_of fracs))
    (part_divides all fracs i c d (omega (arith, below)) (omega (arith, within)) passes)

-- ---- numbers of moves

pub counted_same : (f : ClassMove → ℤ) (moves : List ClassMove)
    → counted moves (map f moves) ≡ map (λ move. (move, f move)) moves
unfolding counted
counted_same f [] = refl
counted_same f (move ∷ moves) = ap (λ l. (move, f move) ∷ l) (counted_same f moves)

sum_low : (f : ClassMove → ℤ) (moves : List ClassMove) → ((move : ClassMove) → pos 0 ≤ℤ f move)
    → pos 0 ≤ℤ sum_of (map f moves)
unfolding sum_of
sum_low f [] low = omega (arith, ints)
sum_low f (move ∷ moves) low = added (f move) (sum_of (map f moves)) (low move) (sum_low f moves low)
  where
    added : (x y : ℤ) → pos 0 ≤ℤ x → pos 0 ≤ℤ y → pos 0 ≤ℤ (x +ℤ y)
    added x y p q = omega (arith, ints, p, q)

narrow_between : (z most : ℤ) → pos 0 ≤ℤ z → z ≤ℤ most → SFits w128 most → IsNarrow z
narrow_between (pos n) (pos m) some few fits = within n m (omega (arith, ints, few)) fits.sfits
  where
    within : (n m : ℕ) → n ≤ m → m < 2 ^ 127 → n < 2 ^ 127
    within n m few fits = omega (arith, few, fits)
narrow_between (pos n) (negsuc m) some few fits = absurd (omega (arith, ints, few))
narrow_between (negsuc n) most some few fits = absurd (omega (arith, ints, some))

each_narrow : (f : ClassMove → ℤ) (moves : List ClassMove) (mass : ℤ) → ((move : ClassMove) → pos 0 ≤ℤ f move)
    → sum_of (map f moves) ≤ℤ mass → SFits w128 mass → AllByRecursion (λ move. IsNarrow (f move)) moves
unfolding sum_of
each_narrow f [] mass low few fits = tt
each_narrow f (move ∷ moves) mass low few fits =
    let rest = sum_low f moves low in (
      narrow_between (f move) mass (low move) (first (f move) (sum_of (map f moves)) mass rest few) fits,
      each_narrow f moves mass low (later (f move) (sum_of (map f moves)) mass (low move) few) fits,
    )
  where
    first : (x y m : ℤ) → pos 0 ≤ℤ y → (x +ℤ y) ≤ℤ m → x ≤ℤ m
    first x y m p q = omega (arith, ints, p, q)

    later : (x y m : ℤ) → pos 0 ≤ℤ x → (x +ℤ y) ≤ℤ m → y ≤ℤ m
    later x y m p q = omega (arith, ints, p, q)

-- ---- the columns of a choice

module _ (question : Question) (support : Support) (fracs : List Frac) where
  abbrev point : Point
  point = plan_point question support (parts_of fracs)

  abbrev den : ℤ
  den = plan_den question support (parts_of fracs)

  abbrev pub over : Frac → ℤ
  over part = scaled den (part.num, part.den)

  module _ (history : ClassHistory) where
    abbrev given : ClassMove → ℤ
    given move = point.at (Passed history move)

    one_given : (column : ℕ) (move : ClassMove) (d : Frac) → column < length (columns question support)
        → column < length fracs → get_or (columns question support) column (Passed history move) ≡ Passed history move
        → given move ≡ over (get_or fracs column d)
    unfolding plan_point
    one_given column move d below within is =
        subst (λ (c : Column). point.at c ≡ scaled den (get_or (parts_of fracs) column (pos 0, pos 1))) is
        (columns_are_given question support
        (λ index. scaled den (get_or (parts_of fracs) index (pos 0, pos 1))) column (Passed history move) below)
        ∙ ap (scaled den) (get_or-map (λ (part : Frac). (part.num, part.den)) fracs column d (pos 0, pos 1) within)

    -- what the slice of a choice's columns holds
    pub record AreHeld (moves : List ClassMove) (parts : List Frac) : Type 0 where
      pub numbers : map over parts ≡ map given moves
      pub each : AllByRecursion (IsPartOfDen den) parts

    held_here : (moves : List ClassMove) (column : ℕ) (rest : List Column) (d : Frac)
        → drop column (columns question support) ≡ map (Passed history) moves ++ rest
        → length fracs ≡ length (columns question support)
        → column + length moves ≤ length fracs
        → AllByRecursion (λ move. IsNarrow (given move)) moves
        → AreHeld moves (take (length moves) (drop column fracs))
    unfolding plan_den
    held_here [] column rest d from long within narrow = record { numbers = refl; each = tt }
    held_here (move ∷ moves) column rest d from long within narrow =
        let all : List Column = columns question support in
        let below : column < length fracs = omega (arith, within) in
        let under : column < length all = omega (arith, below, long) in
        let parts = drop_more all column (Passed history move) under in
        let is : get_or all column (Passed history move) ≡ Passed history move = cc (parts, from) in
        let next : drop (column + 1) all ≡ map (Passed history) moves ++ rest = cc (parts, from) in
        let later = held_here moves (column + 1) rest d next long (omega (arith, within)) narrow.1 in
        let part : Frac = get_or fracs column d in
        let number = one_given column move d under below is in
        let cut : take (length (move ∷ moves)) (drop column fracs)
        ≡ part ∷ take (length moves) (drop (column + 1) fracs) =
        at_drop_more (λ (l : List Frac). take (length (move ∷ moves)) l) fracs column d below in
        subst (AreHeld (move ∷ moves)) (sym cut) (record {
          numbers = ap (λ (z : ℤ). z ∷ map over (take (length moves) (drop (column + 1) fracs))) (sym number)
              ∙ ap (λ (l : List ℤ). given move ∷ l) later.numbers;
          each = (
            record {
              divides = part_divides all fracs column (Passed history move) d under below (ap is_passed is);
              narrow = subst IsNarrow number narrow.0;
            },
            later.each,
          );
        })

-- ---- a choice of declarer's that is reached

-- what is reached is so in some class layout
pub reached_somewhere : (question : Question) (support : Support) (history : ClassHistory) (reach : Reach)
    → IsReach question support history reach → IsSomewhere question support history
reached_somewhere question support history reach is =
    let first : ℕ = get_or (reached_indices question support history) 0 0 in
    let parts = index_parts question support history first (Contains-get_or (reached_indices question support history) 0
    0 is.some) in
    record {
      layout = layout_at question first;
      listed = layout_listed question first parts.0;
      reached = parts.1;
    }

pub record TurnTold (question : Question) (support : Support) (optimum : Optimum) (history : ClassHistory) (mass : ℤ)
    (parts : List Frac) : Type 0 where
  pub each : All (IsPartOfDen (plan_den question support (parts_of optimum.point))) parts
  pub counts : counted (supported_moves question support [] history)
      (map (over question support optimum.point) parts)
      ≡ passed question support (plan_point question support (parts_of optimum.point)) history
  pub low : All (λ (count : ClassMove × ℤ). pos 0 ≤ℤ count.1)
      (passed question support (plan_point question support (parts_of optimum.point)) history)
  pub sum : sum_counts (passed question support (plan_point question support (parts_of optimum.point)) history)
      ≤ℤ mass

module _ (question : Question) (support : Support) (optimum : Optimum)
    (readable : IsReadable question support optimum) where
  pub columns_long : length optimum.point ≡ length (columns question support)
  unfolding program_of
  columns_long = readable.columns
      ∙ length-map (columns question support) (λ column. objective_at question support (unit_point column))

  module _ (history : ClassHistory) (there : IsSomewhere question support history)
      (chooses : declarer_chooses question history ≡ true) where
    abbrev number : ClassMove → ℤ
    number move = (plan_point question support (parts_of optimum.point)).at (Passed history move)

    record AreWithin : Type 0 where
      low : (move : ClassMove) → pos 0 ≤ℤ number move
      sum : sum_of (map number (supported_moves question support [] history))
          ≤ℤ read_mass (reading_of question support optimum) history

    kept_in : AreWithin
    kept_in =
        let common = common_denominator optimum.point in
        let full : Point = point_of (columns question support) common.0 common.1 in
        let within : IsWithin question support full =
        feasible_within question support readable.valid common.0 common.1
        (readable.primal common.0 common.1 common.2).0 in
        let part = plan_part question support optimum.point common.0 common.1 common.2 columns_long in
        let point : Point = plan_point question support (parts_of optimum.point) in
        let positive = own_positive question support point full part.0 part.1 readable.valid within in
        record {
          low = λ move. positive.at (Passed history move);
          sum = le_trans _ _ _
              (own_within question support point full part.0 part.1 readable.valid within history there chooses)
              (masses_are_read question support _ positive history);
        }

    pub turn_told : (column : ℕ) (mass : ℤ) (rest : List Column)
        → drop column (columns question support)
        ≡ map (Passed history) (supported_moves question support [] history) ++ rest
        → column + length (supported_moves question support [] history) ≤ length optimum.point
        → mass ≡ read_mass (reading_of question support optimum) history → SFits w128 mass
        → TurnTold question support optimum history mass
        (take (length (supported_moves question support [] history)) (drop column optimum.point))
    turn_told column mass rest from within is fits =
        let moves : List ClassMove = supported_moves question support [] history in
        let parts : List Frac = take (length moves) (drop column optimum.point) in
        let sum : sum_of (map number moves) ≤ℤ mass = subst (λ (z : ℤ). sum_of (map number moves) ≤ℤ z) (sym is)
        kept_in.sum in
        let held = held_here question support optimum.point history moves column rest any_part from columns_long within
        (each_narrow number moves mass kept_in.low sum fits) in
        record {
          each = All-from_recursion (IsPartOfDen (plan_den question support (parts_of optimum.point))) parts held.each;
          counts = ap (counted moves) held.numbers ∙ counted_same number moves;
          low = All-from_recursion (λ (count : ClassMove × ℤ). pos 0 ≤ℤ count.1) (map (λ move. (move, number move))
              moves)
              (low_mapped number moves kept_in.low);
          sum = subst (λ (z : ℤ). z ≤ℤ mass) (sym (sum_mapped number moves)) sum;
        }

-- ---- as the reader holds them

own_columns : (question : Question) (support : Support) (history : ClassHistory)
    → declarer_chooses question history ≡ true
    → columns_at question support history ≡ map (Passed history) (supported_moves question support [] history)
unfolding columns_at
own_columns question support history chooses =
    ap (λ (b : Bool). if b then map (Passed history) (supported_moves question support [] history)
    else flat_map (held_column question history) (reached_layouts question support history)) chooses

module _ (reader : PlanReader) (reach : Reach) (column : ℕ) (mass : ℤ) (turn : IsPlanTurn reader reach column mass)
  where
    abbrev pub turn_parts : List Frac
    turn_parts = reader.parts.now

    stands : StandsIn (columns turn.question turn.support) column (columns_at turn.question turn.support turn.history)
    stands = stands_here (columns_at turn.question turn.support) turn.question turn.support turn.history reach
        turn.reached
        (columns turn.question turn.support) column turn.columns

    -- the columns of the class history end within the parts
    pub turn_within : column + length (columns_at turn.question turn.support turn.history) ≤ length turn_parts
    turn_within =
        let within = stands.within in
        let long = columns_long turn.question turn.support turn.optimum turn.readable in
        omega (arith, within, long, ap (λ (l : List Frac). length l) turn.parts)

    module _ (chooses : declarer_chooses turn.question turn.history ≡ true) (moves : List ClassMove)
        (is : moves ≡ supported_moves turn.question turn.support [] turn.history) where
      pub moves_within : column + length moves ≤ length turn_parts
      moves_within = subst (λ (n : ℕ). column + n ≤ length turn_parts)
          (sym (own_count turn.question turn.support turn.history chooses) ∙ ap (λ (l : List ClassMove). length l) (sym
          is))
          turn_within

      abbrev pub numbers : ClassHistory → Shares
      numbers history =
          passed turn.question turn.support (plan_point turn.question turn.support (parts_of turn.optimum.point))
          history

      pub record TurnHeld (parts : List Frac) : Type 0 where
        pub each : All (IsPartOfDen reader.den) parts
        pub counts : counted moves (map (λ (part : Frac). scaled reader.den (part.num, part.den)) parts)
            ≡ numbers turn.history
        pub low : All (λ (count : ClassMove × ℤ). pos 0 ≤ℤ count.1) (numbers turn.history)
        pub sum : sum_counts (numbers turn.history) ≤ℤ mass

      pub turn_held : (parts : List Frac) → parts ≡ take (length moves) (drop column turn_parts) → SFits w128 mass
          → TurnHeld parts
      turn_held parts cut fits =
          let supported : List ClassMove = supported_moves turn.question turn.support [] turn.history in
          let within : column + length supported ≤ length turn.optimum.point =
          subst (λ (l : List Frac). column + length supported ≤ length l) (sym turn.parts)
          (subst (λ (l : List ClassMove). column + length l ≤ length turn_parts) is moves_within) in
          let told =
          turn_told turn.question turn.support turn.optimum turn.readable turn.history
          (reached_somewhere turn.question turn.support turn.history reach turn.reached) chooses column mass stands.rest
          (stands.from
          ∙ ap (λ (l : List Column). l ++ stands.rest) (own_columns turn.question turn.support turn.history chooses))
          within turn.is_mass fits in
          let same : take (length supported) (drop column turn.optimum.point) ≡ parts =
          ap (λ (l : List Frac). take (length supported) (drop column l)) turn.parts
          ∙ ap (λ (l : List ClassMove). take (length l) (drop column turn_parts)) (sym is) ∙ sym cut in
          let den : ℤ = plan_den turn.question turn.support (parts_of turn.optimum.point) in
          record {
            each = subst (λ (z : ℤ). All (IsPartOfDen z) parts) (sym turn.den)
                (subst (λ (l : List Frac). All (IsPartOfDen den) l) same told.each);
            counts = ap (λ (l : List ClassMove). counted l
                (map (λ (part : Frac). scaled reader.den (part.num, part.den)) parts)) is
                ∙ ap (λ (z : ℤ). counted supported (map (λ (part : Frac). scaled z (part.num, part.den)) parts))
                turn.den
                ∙ ap (λ (l : List Frac). counted supported (map (over turn.question turn.support turn.optimum.point) l))
                (sym same)
                ∙ told.counts;
            low = told.low;
            sum = told.sum;
          }

      pub shares_told : (shares : Shares) → shares ≡ topped_up mass (numbers turn.history)
          → Some shares ≡ shares_here (reading_of turn.question turn.support turn.optimum) turn.history
      shares_told shares told =
          ap Some told ∙ ap (λ (z : ℤ). Some (topped_up z (numbers turn.history))) turn.is_mass
          ∙ ap (λ (b : Bool). if b then Some (topped_up (read_mass (reading_of turn.question turn.support turn.optimum)
          turn.history) (numbers turn.history)) else None) (sym chooses)

    pub none_told : declarer_chooses turn.question turn.history ≡ false
        → None ≡ shares_here (reading_of turn.question turn.support turn.optimum) turn.history
    none_told waits =
        ap (λ (b : Bool). if b then Some (topped_up (read_mass (reading_of turn.question turn.support turn.optimum)
        turn.history) (passed turn.question turn.support (plan_point turn.question turn.support
        (parts_of turn.optimum.point)) turn.history)) else None) (sym waits)
