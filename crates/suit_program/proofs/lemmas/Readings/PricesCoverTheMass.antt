-- At a choice of the defence that is reached the prices of its moves are no less than the mass that is read there
-- (`prices_enough`).
use Rattle.std.proofs.Common.{◌≡◌, ℕ, zero, suc, ◌-◌, Bool, true, false, List, [], ◌∷◌, ◌++◌, length, map}
use Rattle.std.proofs.Common.{◌⊎◌, refl, sym, ap, ◌∙◌, subst, inl, inr, append_assoc, append-nil, arith}
use Rattle.std.specs.Prelude.{Contains, ◌&&◌, bytes_eq, if◌then◌else◌, ℤ, pos, ◌+ℤ◌, ◌-ℤ◌, ◌*ℤ◌, ◌<ℤ◌, ◌≤ℤ◌, int_lt}
use Rattle.std.specs.Int.{int_min}
use Rattle.std.specs.List.{flat_map}
use Rattle.std.proofs.lemmas.Bool.{and_from, and_parts, cases_Bool, false≢true, false_from_ne_true}
use Rattle.std.proofs.lemmas.Int.{clamps, ints}
use Rattle.std.proofs.lemmas.List.{length-append}
use Rattle.std.proofs.lemmas.List.Elements.{recursion_from_All}
use Rattle.std.proofs.lemmas.Slice.Eq.{bytes_eq-Decides}
use Rattle.std.proofs.Math.IntN.{*ℤ_comm}
use Rattle.suit_lists.proofs.Elements.{Contains-cons_cases, Contains-first, Contains-later, Contains-nil}
use Rattle.suit_lists.proofs.Firsts.{HasFirst, HasFirst-found}
use Rattle.suit_lists.proofs.FlatMaps.{Contains-flat_map}
use Rattle.suit_lists.proofs.Maps.{map_same}
use Rattle.suit_cards.specs.Cards.{ClassLayout}
use Rattle.suit_num.proofs.IntegerLaws.{int_lt-false, int_lt-true, mul-sub_left, mul_assoc, mul_not_negative}
use Rattle.suit_game.specs.declared.question.Question.{Question}
use Rattle.suit_game.specs.Validity.{IsValid}
use Rattle.suit_game.specs.declared.limits.TheConstants.{MOST_MOVES}
use Rattle.suit_classes.specs.declared.class_moves.ClassMove.{ClassMove}
use Rattle.suit_classes.specs.WhatIsAllowed.{is_among}
use Rattle.suit_classes.specs.ClassMoves.{same_class_move}
use Rattle.suit_classes.proofs.DecidedStaysDecided.{class_histories_are_short}
use Rattle.suit_classes.proofs.SameMoves.{among-Contains, same_move-itself, same_move_is}
use Rattle.suit_plans.specs.Masses.{count_of, weight_of}
use Rattle.suit_plans.specs.Orders.{same_class_history}
use Rattle.suit_plans.specs.Properness.{sum_of}
use Rattle.suit_plans.proofs.RepliesAreBounded.{weight_listed}
use Rattle.suit_plans.proofs.HistoryOrder.{same_class_history-itself, same_class_history_is}
use Rattle.suit_plans.proofs.NumberSums.{sum_nothing, sum_times}
use Rattle.suit_plans.proofs.SharesAddUpToTheMass.{within_sum}
use Rattle.suit_linear.specs.Programs.{IsDualFeasible}
use Rattle.suit_program.specs.Programs.Points.{Column, Held, IsPositive, Passed, Point, same_column, unit_point}
use Rattle.suit_program.specs.Programs.{Shared, columns, columns_at, excess, held_column, limits, program_of}
use Rattle.suit_program.specs.Programs.{sum_passed}
use Rattle.suit_program.specs.Readings.{Reading, defence_reading, filled, price_of, read_from, read_mass, read_shares}
use Rattle.suit_program.specs.Supports.{Support, defence_chooses, goes_supported, is_reached, layouts_of}
use Rattle.suit_program.specs.Supports.{reached_histories, reached_layouts, supported_moves}
use Rattle.suit_program.specs.Programs.Worths.{mass_at, objective_at, worth_at, worth_within}
use Rattle.suit_program.proofs.lemmas.Programs.LinearInThePoint.{masses_linear, nowhere_nothing}
use Rattle.suit_program.proofs.lemmas.Programs.WithinTheRows.{their_only}
use Rattle.suit_program.proofs.lemmas.Programs.WorthAtPrices.{exceeds, exceeds_by_play, part_of, units_bounded}
use Rattle.suit_program.proofs.lemmas.Programs.PricesByName.{price_low}
use Rattle.suit_program.proofs.lemmas.Supports.WhatIsReached.{reached_allows, reached_layout, reached_listed}
use Rattle.suit_program.proofs.lemmas.Supports.WhatIsReached.{reached_next, reached_none}
use Rattle.suit_program.proofs.lemmas.Readings.MassesNoLess.{read_mass-push}
use Rattle.suit_program.proofs.lemmas.Programs.SumsInOrder.{le_trans, sum_le}
use Rattle.suit_program.proofs.lemmas.Supports.SumsByPlay.{play_sum}
use Rattle.suit_program.proofs.lemmas.Programs.WorthWithinMass.{choosing, going, some_summed, within_low}

-- ---- numbers

pub sum_none_more : {X : Type 0} (f : X → ℤ) (xs : List X) → ((x : X) → Contains xs x → f x ≤ℤ pos 0)
    → sum_of (map f xs) ≤ℤ pos 0
unfolding sum_of
sum_none_more f [] low = omega (arith, ints)
sum_none_more f (x ∷ xs) low =
    let here = low x (Contains-first x xs) in
    let rest = sum_none_more f xs (λ y found. low y (Contains-later x xs y found)) in
    both (f x) (sum_of (map f xs)) here rest
  where
    both : (x y : ℤ) → x ≤ℤ pos 0 → y ≤ℤ pos 0 → (x +ℤ y) ≤ℤ pos 0
    both x y p q = omega (arith, ints, p, q)

pub sum_less : {X : Type 0} (f g : X → ℤ) (xs : List X)
    → sum_of (map (λ x. f x -ℤ g x) xs) ≡ sum_of (map f xs) -ℤ sum_of (map g xs)
unfolding sum_of
sum_less f g [] = omega (arith, ints)
sum_less f g (x ∷ xs) = let later = sum_less f g xs in omega (arith, ints, later)

-- where the others are not negative, one of some numbers that come to no more than nothing is no more
pub one_of_sum : {X : Type 0} (f : X → ℤ) (xs : List X) (x : X) → Contains xs x → sum_of (map f xs) ≤ℤ pos 0
    → ((y : X) → Contains xs y → (y ≡ x) ⊎ (pos 0 ≤ℤ f y)) → f x ≤ℤ pos 0
one_of_sum {X} f xs x found le others = elim (cases_Bool (int_lt (pos 0) (f x))) [
  | inl some ↦
      let more : pos 0 <ℤ f x = int_lt-true (pos 0) (f x) some in
      let low : (y : X) → Contains xs y → pos 0 ≤ℤ f y = λ y there. elim (others y there) [
        | inl same ↦ subst (λ (w : X). pos 0 ≤ℤ f w) (sym same) (omega (arith, ints, more))
        | inr fine ↦ fine
      ] in
      le_trans (f x) (sum_of (map f xs)) (pos 0) (within_sum f xs x low found) le
  | inr none ↦ int_lt-false (pos 0) (f x) none
]

-- ---- counts that are cut

least : (x y : ℤ) → int_min x y ≤ℤ x
least x y = omega (arith, ints, clamps)

filled_case : (b : Bool) (x y z : ℤ) → (b ≡ true → x ≤ℤ z) → (b ≡ false → y ≤ℤ z) → (if b then x else y) ≤ℤ z
filled_case true x y z one other = one refl
filled_case false x y z one other = other refl

-- no move gets more than its own number
pub filled_most : (f : ClassMove → ℤ) (moves : List ClassMove) (mass : ℤ) (move : ClassMove) → Contains moves move
    → count_of (filled mass (map (λ other. (other, f other)) moves)) move ≤ℤ f move
unfolding filled count_of
filled_most f [] mass move found = absurd (Contains-nil move found)
filled_most f (first ∷ moves) mass move found =
    filled_case (same_class_move first move) (int_min (f first) mass)
    (count_of (filled (mass -ℤ int_min (f first) mass) (map (λ other. (other, f other)) moves)) move) (f move)
    (λ same. subst (λ (m : ClassMove). int_min (f first) mass ≤ℤ f m) (same_move_is first move same)
    (least (f first) mass))
    (λ other. elim (Contains-cons_cases first moves move found) [
      | inl here ↦ absurd (false≢true (sym other
          ∙ subst (λ (m : ClassMove). same_class_move first m ≡ true) here (same_move-itself first)))
      | inr there ↦ filled_most f moves (mass -ℤ int_min (f first) mass) move there
    ])

-- ---- lists

front_same : (front : List ClassMove) (one other : ClassMove) (rest more : List ClassMove)
    → front ++ one ∷ rest ≡ front ++ other ∷ more → one ≡ other
front_same [] one other rest more same = cc
front_same (first ∷ front) one other rest more same = front_same front one other rest more (later same)
  where
    later : first ∷ (front ++ one ∷ rest) ≡ first ∷ (front ++ other ∷ more)
        → front ++ one ∷ rest ≡ front ++ other ∷ more
    later is = cc

longer : (front : List ClassMove) (move : ClassMove) (rest : List ClassMove) → (front ++ move ∷ []) ++ rest ≡ front → ⊥
longer front move rest same =
    let sizes = ap (λ (l : List ClassMove). length l) same in
    omega (arith, sizes, length-append (front ++ move ∷ []) rest, length-append front (move ∷ []))

-- ---- the point of one column of the defence

abbrev held_point : ClassLayout → List ClassMove → Point
held_point west target = unit_point (Held west target)

one_low : (b : Bool) → pos 0 ≤ℤ (if b then pos 1 else pos 0)
one_low true = omega (arith, ints)
one_low false = omega (arith, ints)

held_positive : (west : ClassLayout) (target : List ClassMove) → IsPositive (held_point west target)
held_positive west target =
    record { at = λ other. one_low (same_column (Held west target) other); one = omega (arith, ints) }

held_one : (west : ClassLayout) (target : List ClassMove) → (held_point west target).at (Held west target) ≡ pos 1
unfolding same_column
held_one west target =
    ap (λ (b : Bool). if b then pos 1 else pos 0)
    (and_from (bytes_eq west west) (same_class_history target target) ((bytes_eq-Decides west west).1 refl)
    (same_class_history-itself target))

held_none : (west : ClassLayout) (target : List ClassMove) (counts : ClassLayout) (history : List ClassMove)
    → (history ≡ target → ⊥) → (held_point west target).at (Held counts history) ≡ pos 0
unfolding same_column
held_none west target counts history apart =
    ap (λ (b : Bool). if b then pos 1 else pos 0)
    (false_from_ne_true (bytes_eq west counts && same_class_history target history)
    (λ same. apart (sym (same_class_history_is target history
    (and_parts (bytes_eq west counts) (same_class_history target history) same).1))))

held_elsewhere : (west : ClassLayout) (target : List ClassMove) (counts : ClassLayout) (history : List ClassMove)
    → (counts ≡ west → ⊥) → (held_point west target).at (Held counts history) ≡ pos 0
unfolding same_column
held_elsewhere west target counts history apart =
    ap (λ (b : Bool). if b then pos 1 else pos 0)
    (false_from_ne_true (bytes_eq west counts && same_class_history target history)
    (λ same. apart (sym ((bytes_eq-Decides west counts).0
    (and_parts (bytes_eq west counts) (same_class_history target history) same).0))))

module _ (question : Question) (support : Support) where
  -- it keeps declarer's rows exactly
  held_tight : (west : ClassLayout) (target history : List ClassMove)
      → excess question support (held_point west target) (Shared history) ≡ pos 0
  unfolding excess same_column
  held_tight west target history =
      let sum = sum_nothing (λ (move : ClassMove). pos 0) (supported_moves question support [] history)
      (λ move found. refl) in
      let mass = nowhere_nothing (λ (other : Point). mass_at question support other history)
      (λ k first second all combined. masses_linear question support k first second all combined history) in
      both (sum_passed question support (held_point west target) history)
      (mass_at question support (held_point west target) history) sum mass
    where
      both : (x y : ℤ) → x ≡ pos 0 → y ≡ pos 0 → x -ℤ y ≡ pos 0
      both x y p q = omega (arith, ints, p, q)

  column_listed : (valid : IsValid question) (layout : ClassLayout × ℕ) → Contains (layouts_of question) layout
      → (history : List ClassMove) → is_reached question support layout.0 history ≡ true
      → defence_chooses question layout.0 history ≡ true
      → Contains (columns question support) (Held layout.0 history)
  unfolding columns columns_at held_column
  column_listed valid layout listed history reached chooses =
      let column : Column = Held layout.0 history in
      Contains-flat_map (columns_at question support) (reached_histories question support) history column
      (reached_listed question support valid layout listed history reached)
      (subst (λ (b : Bool). Contains (if b then map (Passed history) (supported_moves question support [] history)
      else flat_map (held_column question history) (reached_layouts question support history)) column)
      (sym (their_only question layout.0 history chooses))
      (Contains-flat_map (held_column question history) (reached_layouts question support history) layout column
      (reached_layout question support valid layout listed history reached)
      (subst (λ (b : Bool). Contains (if b then column ∷ [] else []) column) (sym chooses)
      (Contains-first column []))))

pub negated : (f g : ClassMove → ℤ) (moves : List ClassMove)
    → sum_of (map (λ move. f move *ℤ (pos 0 -ℤ g move)) moves)
    ≡ pos 0 -ℤ sum_of (map (λ move. f move *ℤ g move) moves)
unfolding sum_of
negated f g [] = omega (arith, ints)
negated f g (move ∷ moves) =
    let later = negated f g moves in
    let parts = mul-sub_left (f move) (pos 0) (g move) in
    omega (arith, ints, later, parts)

module _ (question : Question) (support : Support) (valid : IsValid question) (prices : List ℤ) (scale : ℤ)
    (dual : IsDualFeasible (program_of question support) prices scale) (layout : ClassLayout × ℕ)
    (listed : Contains (layouts_of question) layout) (target : List ClassMove) where
  abbrev west : ClassLayout
  west = layout.0

  abbrev point : Point
  point = held_point west target

  abbrev price : ClassLayout → List ClassMove → ClassMove → ℤ
  price counts history move = price_of (limits question support) prices counts history move

  abbrev worth : ℕ → ClassLayout → List ClassMove → ℤ
  worth more counts history = worth_within question support point more counts history

  abbrev part : List ClassMove → ClassLayout × ℕ → ℤ
  part history other = part_of question support prices scale dual point history other

  abbrev play : ℕ → ClassLayout × ℕ → List ClassMove → ℤ
  play more other history = play_sum question support part more other history

  prices_low : (counts : ClassLayout) (history : List ClassMove) (move : ClassMove) → pos 0 ≤ℤ price counts history move
  prices_low counts history move =
      price_low (limits question support) prices counts history move
      (recursion_from_All (λ p. pos 0 ≤ℤ p) prices dual.rows)

  worths_low : (more : ℕ) (counts : ClassLayout) (history : List ClassMove) → pos 0 ≤ℤ worth more counts history
  worths_low more counts history = within_low question support point (held_positive west target) more counts history

  -- a part without the column comes to no more than nothing
  part_none : (history : List ClassMove) (other : ClassLayout × ℕ) → point.at (Held other.0 history) ≡ pos 0
      → part history other ≤ℤ pos 0
  part_none history other none = at (defence_chooses question other.0 history)
    where
      each : (p v w : ℤ) → pos 0 ≤ℤ p → v ≡ pos 0 → pos 0 ≤ℤ w → (p *ℤ (v -ℤ w)) ≤ℤ pos 0
      each p v w low is some =
          let product = mul_not_negative p w low some in
          let parts = mul-sub_left p v w in
          let zero : p *ℤ v ≡ p *ℤ pos 0 = ap (λ (z : ℤ). p *ℤ z) is in
          omega (arith, ints, product, parts, zero)

      at : (b : Bool)
          → (if b then sum_of (map (λ move. price other.0 history move *ℤ (point.at (Held other.0 history)
          -ℤ worth_at question support point other.0 (history ++ move ∷ [])))
          (supported_moves question support other.0 history)) else pos 0) ≤ℤ pos 0
      at true = sum_none_more (λ move. price other.0 history move *ℤ (point.at (Held other.0 history)
          -ℤ worth_at question support point other.0 (history ++ move ∷ [])))
          (supported_moves question support other.0 history)
          (λ move found. each (price other.0 history move) (point.at (Held other.0 history))
          (worth_at question support point other.0 (history ++ move ∷ [])) (prices_low other.0 history move) none
          (worths_low (suc MOST_MOVES - length (history ++ move ∷ [])) other.0 (history ++ move ∷ [])))
      at false = omega (arith, ints)

  -- nor do those after a class history from which it is not reached
  off_way : (more : ℕ) (other : ClassLayout × ℕ) (history : List ClassMove)
      → ((moves : List ClassMove) → point.at (Held other.0 (history ++ moves)) ≡ pos 0)
      → play more other history ≤ℤ pos 0
  unfolding play_sum
  off_way zero other history none =
      part_none history other (subst (λ (h : List ClassMove). point.at (Held other.0 h) ≡ pos 0) (append-nil history)
      (none []))
  off_way (suc more) other history none =
      both (part history other) (sum_of (map (λ move. play more other (history ++ move ∷ []))
      (supported_moves question support other.0 history)))
      (part_none history other (subst (λ (h : List ClassMove). point.at (Held other.0 h) ≡ pos 0) (append-nil history)
      (none [])))
      (sum_none_more (λ move. play more other (history ++ move ∷ [])) (supported_moves question support other.0 history)
      (λ move found. off_way more other (history ++ move ∷ [])
      (λ moves. subst (λ (h : List ClassMove). point.at (Held other.0 h) ≡ pos 0)
      (sym (append_assoc history (move ∷ []) moves)) (none (move ∷ moves)))))
    where
      both : (x y : ℤ) → x ≤ℤ pos 0 → y ≤ℤ pos 0 → (x +ℤ y) ≤ℤ pos 0
      both x y p q = omega (arith, ints, p, q)

  -- ---- the start

  abbrev start : ClassLayout × ℕ → ℤ
  start other = scale *ℤ (pos other.1 *ℤ worth (suc MOST_MOVES) other.0 []) -ℤ play MOST_MOVES other []

  start_sum : (defence_chooses question west target ≡ true) → is_reached question support west target ≡ true
      → sum_of (map start (layouts_of question)) ≤ℤ pos 0
  unfolding objective_at
  start_sum chooses reached =
      let layouts : List (ClassLayout × ℕ) = layouts_of question in
      let worths : ClassLayout × ℕ → ℤ = λ other. pos other.1 *ℤ worth (suc MOST_MOVES) other.0 [] in
      let bounded = units_bounded question support prices scale dual (Held west target)
      (column_listed question support valid layout listed target reached chooses) in
      let played = exceeds_by_play question support prices scale dual point
      (λ history found. held_tight question support west target history) in
      let times = sum_times scale worths layouts in
      let parted = sum_less (λ other. scale *ℤ worths other) (λ other. play MOST_MOVES other []) layouts in
      finish (scale *ℤ sum_of (map worths layouts)) (exceeds question support prices scale dual point)
      (sum_of (map (λ other. scale *ℤ worths other) layouts)) (sum_of (map (λ other. play MOST_MOVES other []) layouts))
      (sum_of (map start layouts)) bounded played times parted
    where
      finish : (a e b p x : ℤ) → a ≤ℤ e → e ≡ p → a ≡ b → x ≡ b -ℤ p → x ≤ℤ pos 0
      finish a e b p x le played times parted = omega (arith, ints, le, played, times, parted)

  -- other class layouts are not in the way
  start_low : (other : ClassLayout × ℕ) → (other.0 ≡ west → ⊥) → pos 0 ≤ℤ start other
  start_low other apart =
      let some = dual.over in
      let none = off_way MOST_MOVES other [] (λ moves. held_elsewhere west target other.0 moves apart) in
      let low = mul_not_negative scale (pos other.1 *ℤ worth (suc MOST_MOVES) other.0 []) (omega (arith, ints, some))
      (mul_not_negative (pos other.1) (worth (suc MOST_MOVES) other.0 []) (omega (arith, ints))
      (worths_low (suc MOST_MOVES) other.0 [])) in
      finish (scale *ℤ (pos other.1 *ℤ worth (suc MOST_MOVES) other.0 [])) (play MOST_MOVES other []) low none
    where
      finish : (x y : ℤ) → pos 0 ≤ℤ x → y ≤ℤ pos 0 → pos 0 ≤ℤ (x -ℤ y)
      finish x y p q = omega (arith, ints, p, q)

  layout_same : (other : ClassLayout × ℕ) → Contains (layouts_of question) other → other.0 ≡ west → other ≡ layout
  layout_same other found same =
      let weights : other.1 ≡ layout.1 =
      weight_listed question other found ∙ ap (λ (w : ClassLayout). weight_of question w) same
      ∙ sym (weight_listed question layout listed) in
      ap (λ (w : ClassLayout). (w, other.1)) same ∙ ap (λ (n : ℕ). (west, n)) weights

  -- so this one comes to no more than nothing
  start_here : defence_chooses question west target ≡ true → is_reached question support west target ≡ true
      → start layout ≤ℤ pos 0
  start_here chooses reached =
      one_of_sum start (layouts_of question) layout listed (start_sum chooses reached)
      (λ other found. elim (cases_Bool (bytes_eq other.0 west)) [
        | inl same ↦ inl (layout_same other found ((bytes_eq-Decides other.0 west).0 same))
        | inr apart ↦ inr (start_low other (λ is. false≢true (sym apart ∙ (bytes_eq-Decides other.0 west).1 is)))
      ])

  -- ---- the way

  abbrev reading : Reading
  reading = defence_reading question support prices scale west

  abbrev mass : List ClassMove → ℤ
  mass history = read_mass reading history

  abbrev price_sum : ℤ
  price_sum = sum_of (map (price west target) (supported_moves question support west target))

  -- at its end
  end_play : (more : ℕ) → defence_chooses question west target ≡ true → play more layout target ≤ℤ price_sum
  unfolding play_sum
  end_play more chooses = at more
    where
      moves : List ClassMove
      moves = supported_moves question support west target

      each : (p w : ℤ) → pos 0 ≤ℤ p → pos 0 ≤ℤ w → (p *ℤ (pos 1 -ℤ w)) ≤ℤ p
      each p w low some =
          let product = mul_not_negative p w low some in
          let parts = mul-sub_left p (pos 1) w in
          let one : p *ℤ pos 1 ≡ p = single p in
          omega (arith, ints, product, parts, one)
        where
          single : (z : ℤ) → z *ℤ pos 1 ≡ z
          single z = omega (arith, ints)

      here : part target layout ≤ℤ price_sum
      here =
          subst (λ (b : Bool). (if b then sum_of (map (λ move. price west target move *ℤ (point.at (Held west target)
          -ℤ worth_at question support point west (target ++ move ∷ [])))
          (supported_moves question support west target))
          else pos 0) ≤ℤ price_sum) (sym chooses)
          (subst (λ (v : ℤ). sum_of (map (λ move. price west target move *ℤ (v
          -ℤ worth_at question support point west (target ++ move ∷ [])))
          (supported_moves question support west target))
          ≤ℤ price_sum) (sym (held_one west target))
          (sum_le (λ move. price west target move *ℤ (pos 1 -ℤ worth_at question support point west (target ++ move
          ∷ []))) (price west target) (supported_moves question support west target)
          (λ move found. each (price west target move)
          (worth_at question support point west (target ++ move ∷ [])) (prices_low west target move)
          (worths_low (suc MOST_MOVES - length (target ++ move ∷ [])) west (target ++ move ∷ [])))))

      both : (x y : ℤ) → x ≤ℤ price_sum → y ≤ℤ pos 0 → (x +ℤ y) ≤ℤ price_sum
      both x y p q = omega (arith, ints, p, q)

      at : (more : ℕ) → play more layout target ≤ℤ price_sum
      at zero = here
      at (suc more) =
          both (part target layout) (sum_of (map (λ move. play more layout (target ++ move ∷ []))
          (supported_moves question support west target))) here
          (sum_none_more (λ move. play more layout (target ++ move ∷ [])) (supported_moves question support west target)
          (λ move found. off_way more layout (target ++ move ∷ [])
          (λ rest. held_none west target west ((target ++ move ∷ []) ++ rest) (longer target move rest))))

  way_end : (more : ℕ) (bound : ℤ) → defence_chooses question west target ≡ true
      → mass target ≤ℤ bound → (bound *ℤ worth (suc more) west target) ≤ℤ play more layout target
      → mass target ≤ℤ price_sum
  way_end more bound chooses le kept =
      let one : worth (suc more) west target ≡ pos 1 =
      choosing question support point west more target chooses ∙ held_one west target in
      finish (mass target) bound (worth (suc more) west target) (play more layout target) price_sum le one kept
      (end_play more chooses)
    where
      finish : (m b w p s : ℤ) → m ≤ℤ b → w ≡ pos 1 → (b *ℤ w) ≤ℤ p → p ≤ℤ s → m ≤ℤ s
      finish m b w p s le one kept most =
          let product : b *ℤ w ≡ b = ap (λ (z : ℤ). b *ℤ z) one ∙ single b in
          omega (arith, ints, le, product, kept, most)
        where
          single : (z : ℤ) → z *ℤ pos 1 ≡ z
          single z = omega (arith, ints)

  -- siblings of a move of the way come to no more than nothing
  beside : (more : ℕ) (history : List ClassMove) (move : ClassMove) (rest : List ClassMove) (other : ClassMove)
      → history ++ move ∷ rest ≡ target → (other ≡ move → ⊥) → play more layout (history ++ other ∷ []) ≤ℤ pos 0
  beside more history move rest other is apart =
      off_way more layout (history ++ other ∷ [])
      (λ moves. held_none west target west ((history ++ other ∷ []) ++ moves)
      (λ same. apart (front_same history other move moves rest
      (sym (append_assoc history (other ∷ []) moves) ∙ same ∙ sym is))))

  -- where the moves come to no more than nothing with bounds of their own, so does that of the way
  way_on : (more : ℕ) (history : List ClassMove) (move : ClassMove) (rest : List ClassMove) (bound : ClassMove → ℤ)
      → history ++ move ∷ rest ≡ target → Contains (supported_moves question support west history) move
      → ((other : ClassMove) → pos 0 ≤ℤ bound other)
      → sum_of (map (λ other. bound other *ℤ worth (suc more) west (history ++ other ∷ [])
      -ℤ play more layout (history ++ other ∷ [])) (supported_moves question support west history)) ≤ℤ pos 0
      → (bound move *ℤ worth (suc more) west (history ++ move ∷ [])) ≤ℤ play more layout (history ++ move ∷ [])
  way_on more history move rest bound is found low le =
      let number : ClassMove → ℤ = λ other. bound other *ℤ worth (suc more) west (history ++ other ∷ [])
      -ℤ play more layout (history ++ other ∷ []) in
      under (bound move *ℤ worth (suc more) west (history ++ move ∷ [])) (play more layout (history ++ move ∷ []))
      (one_of_sum number (supported_moves question support west history) move found le
      (λ other there. elim (cases_Bool (same_class_move other move)) [
        | inl same ↦ inl (same_move_is other move same)
        | inr apart ↦ inr (positive (bound other *ℤ worth (suc more) west (history ++ other ∷ []))
            (play more layout (history ++ other ∷ []))
            (mul_not_negative (bound other) (worth (suc more) west (history ++ other ∷ [])) (low other)
            (worths_low (suc more) west (history ++ other ∷ [])))
            (beside more history move rest other is (λ here. false≢true (sym apart
            ∙ ap (λ (m : ClassMove). same_class_move m move) here ∙ same_move-itself move))))
      ]))
    where
      under : (x y : ℤ) → (x -ℤ y) ≤ℤ pos 0 → x ≤ℤ y
      under x y le = omega (arith, ints, le)

      positive : (x y : ℤ) → pos 0 ≤ℤ x → y ≤ℤ pos 0 → pos 0 ≤ℤ (x -ℤ y)
      positive x y p q = omega (arith, ints, p, q)

  -- ---- steps of the way

  abbrev later_worth : ℕ → List ClassMove → ClassMove → ℤ
  later_worth more history other = worth (suc more) west (history ++ other ∷ [])

  abbrev later_play : ℕ → List ClassMove → ClassMove → ℤ
  later_play more history other = play more layout (history ++ other ∷ [])

  -- where the defence does not choose the bound stays
  step_going : (more : ℕ) (history : List ClassMove) (bound : ℤ) → defence_chooses question west history ≡ false
      → HasFirst (supported_moves question support west history)
      → (bound *ℤ worth (suc (suc more)) west history) ≤ℤ play (suc more) layout history
      → sum_of (map (λ other. bound *ℤ later_worth more history other -ℤ later_play more history other)
      (supported_moves question support west history)) ≤ℤ pos 0
  unfolding play_sum
  step_going more history bound waits some kept =
      let moves : List ClassMove = supported_moves question support west history in
      let sum : worth (suc (suc more)) west history ≡ sum_of (map (later_worth more history) moves) =
      going question support point west (suc more) history moves waits refl
      ∙ some_summed question support point history (later_worth more history) moves some in
      let none : part history layout ≡ pos 0 =
      ap (λ (b : Bool). if b then sum_of (map (λ move. price west history move *ℤ (point.at (Held west history)
      -ℤ worth_at question support point west (history ++ move ∷ []))) moves) else pos 0) waits in
      let times = sum_times bound (later_worth more history) moves in
      let parted = sum_less (λ other. bound *ℤ later_worth more history other) (later_play more history) moves in
      finish (worth (suc (suc more)) west history) (sum_of (map (later_worth more history) moves)) (part history layout)
      (sum_of (map (later_play more history) moves))
      (sum_of (map (λ other. bound *ℤ later_worth more history other) moves))
      (sum_of (map (λ other. bound *ℤ later_worth more history other -ℤ later_play more history other) moves))
      kept sum none times parted
    where
      finish : (w s p q t x : ℤ) → (bound *ℤ w) ≤ℤ (p +ℤ q) → w ≡ s → p ≡ pos 0 → bound *ℤ s ≡ t → x ≡ t -ℤ q
          → x ≤ℤ pos 0
      finish w s p q t x kept sum none times parted =
          let product : bound *ℤ w ≡ bound *ℤ s = ap (λ (z : ℤ). bound *ℤ z) sum in
          omega (arith, ints, kept, none, times, parted, product)

  -- where it chooses before the end the prices take its place
  step_choosing : (more : ℕ) (history : List ClassMove) (bound : ℤ) → defence_chooses question west history ≡ true
      → ((other : ClassMove) → suc MOST_MOVES - length (history ++ other ∷ []) ≡ suc more) → (history ≡ target → ⊥)
      → (bound *ℤ worth (suc (suc more)) west history) ≤ℤ play (suc more) layout history
      → sum_of (map (λ other. price west history other *ℤ later_worth more history other
      -ℤ later_play more history other) (supported_moves question support west history)) ≤ℤ pos 0
  unfolding play_sum
  step_choosing more history bound chooses left apart kept =
      let moves : List ClassMove = supported_moves question support west history in
      let none : point.at (Held west history) ≡ pos 0 = held_none west target west history apart in
      let zero : worth (suc (suc more)) west history ≡ pos 0 =
      choosing question support point west (suc more) history chooses ∙ none in
      let here : part history layout
      ≡ sum_of (map (λ other. price west history other *ℤ (pos 0 -ℤ later_worth more history other)) moves) =
      ap (λ (b : Bool). if b then sum_of (map (λ move. price west history move *ℤ (point.at (Held west history)
      -ℤ worth_at question support point west (history ++ move ∷ []))) moves) else pos 0) chooses
      ∙ ap sum_of (map_same (λ move. price west history move *ℤ (point.at (Held west history)
      -ℤ worth_at question support point west (history ++ move ∷ [])))
      (λ other. price west history other *ℤ (pos 0 -ℤ later_worth more history other)) moves
      (λ move found. ap (λ (z : ℤ). price west history move *ℤ (z
      -ℤ worth_at question support point west (history ++ move ∷ []))) none
      ∙ ap (λ (n : ℕ). price west history move *ℤ (pos 0 -ℤ worth n west (history ++ move ∷ [])))
      (left move))) in
      let turned : sum_of (map (λ other. price west history other *ℤ (pos 0 -ℤ later_worth more history other)) moves)
      ≡ pos 0 -ℤ sum_of (map (λ other. price west history other *ℤ later_worth more history other) moves) =
      negated (price west history) (later_worth more history) moves in
      let parted = sum_less (λ other. price west history other *ℤ later_worth more history other)
      (later_play more history) moves in
      finish (worth (suc (suc more)) west history) (part history layout)
      (sum_of (map (λ other. price west history other *ℤ (pos 0 -ℤ later_worth more history other)) moves))
      (sum_of (map (λ other. price west history other *ℤ later_worth more history other) moves))
      (sum_of (map (later_play more history) moves))
      (sum_of (map (λ other. price west history other *ℤ later_worth more history other
      -ℤ later_play more history other) moves)) kept zero here turned parted
    where
      finish : (w p n s q x : ℤ) → (bound *ℤ w) ≤ℤ (p +ℤ q) → w ≡ pos 0 → p ≡ n → n ≡ pos 0 -ℤ s → x ≡ s -ℤ q
          → x ≤ℤ pos 0
      finish w p n s q x kept none here turned parted =
          let product : bound *ℤ w ≡ bound *ℤ pos 0 = ap (λ (z : ℤ). bound *ℤ z) none in
          omega (arith, ints, kept, here, turned, parted, product)

  -- what is read on the way
  mass_on : (history : List ClassMove) (move : ClassMove) → defence_chooses question west history ≡ false
      → mass (history ++ move ∷ []) ≡ mass history
  mass_on history move waits =
      read_mass-push reading history move
      ∙ ap (λ (b : Bool). if b then count_of (read_shares reading history) move else mass history) waits

  mass_priced : (history : List ClassMove) (move : ClassMove) → defence_chooses question west history ≡ true
      → Contains (supported_moves question support west history) move
      → mass (history ++ move ∷ []) ≤ℤ price west history move
  mass_priced history move chooses found =
      subst (λ (z : ℤ). z ≤ℤ price west history move)
      (sym (read_mass-push reading history move
      ∙ ap (λ (b : Bool). if b then count_of (read_shares reading history) move else mass history) chooses))
      (filled_most (price west history) (supported_moves question support west history) (mass history) move found)

  not_end : (history : List ClassMove) (move : ClassMove) (rest : List ClassMove)
      → history ++ move ∷ rest ≡ target → history ≡ target → ⊥
  not_end history move rest is same =
      longer history move rest (append_assoc history (move ∷ []) rest ∙ is ∙ sym same)

  room_left : (history : List ClassMove) (move : ClassMove) (more : ℕ) → suc more ≡ MOST_MOVES - length history
      → suc MOST_MOVES - length (history ++ move ∷ []) ≡ suc more
  room_left history move more left = omega (arith, left, length-append history (move ∷ []))

  more_left : (history : List ClassMove) (move : ClassMove) (more : ℕ) → suc more ≡ MOST_MOVES - length history
      → more ≡ MOST_MOVES - length (history ++ move ∷ [])
  more_left history move more left = omega (arith, left, length-append history (move ∷ []))

  -- along the way what is read stays under its bound
  way : (more : ℕ) (history moves : List ClassMove) (bound : ℤ) → history ++ moves ≡ target
      → more ≡ MOST_MOVES - length history → is_reached question support west history ≡ true
      → goes_supported question support west history moves ≡ true
      → defence_chooses question west target ≡ true → pos 0 ≤ℤ bound → mass history ≤ℤ bound
      → (bound *ℤ worth (suc more) west history) ≤ℤ play more layout history
      → mass target ≤ℤ price_sum
  unfolding goes_supported
  way more history [] bound is left reached goes chooses low le kept =
      let same : history ≡ target = sym (append-nil history) ∙ is in
      way_end more bound chooses (subst (λ (h : List ClassMove). mass h ≤ℤ bound) same le)
      (subst (λ (h : List ClassMove). (bound *ℤ worth (suc more) west h) ≤ℤ play more layout h) same kept)
  way zero history (move ∷ moves) bound is left reached goes chooses low le kept =
      let parts = and_parts (is_among (supported_moves question support west history) move)
      (goes_supported question support west (history ++ move ∷ []) moves) goes in
      let found = among-Contains (supported_moves question support west history) move parts.0 in
      let short = class_histories_are_short question west (history ++ move ∷ [])
      (reached_allows question support valid layout listed (history ++ move ∷ [])
      (reached_next question support west history move reached found)) in
      absurd (omega (arith, left, short, length-append history (move ∷ [])))
  way (suc more) history (move ∷ moves) bound is left reached goes chooses low le kept =
      let parts = and_parts (is_among (supported_moves question support west history) move)
      (goes_supported question support west (history ++ move ∷ []) moves) goes in
      let found = among-Contains (supported_moves question support west history) move parts.0 in
      let on : (history ++ move ∷ []) ++ moves ≡ target = append_assoc history (move ∷ []) moves ∙ is in
      let next = reached_next question support west history move reached found in
      elim (cases_Bool (defence_chooses question west history)) [
        | inl theirs ↦ way more (history ++ move ∷ []) moves (price west history move) on
            (more_left history move more left) next parts.1 chooses (prices_low west history move)
            (mass_priced history move theirs found)
            (way_on more history move moves (price west history) is found (λ other. prices_low west history other)
            (step_choosing more history bound theirs (λ other. room_left history other more left)
            (not_end history move moves is) kept))
        | inr waits ↦ way more (history ++ move ∷ []) moves bound on (more_left history move more left) next parts.1
            chooses low (subst (λ (z : ℤ). z ≤ℤ bound) (sym (mass_on history move waits)) le)
            (way_on more history move moves (λ other. bound) is found (λ other. low)
            (step_going more history bound waits
            (HasFirst-found (supported_moves question support west history) move found) kept))
      ]

  -- the prices are enough
  pub prices_enough : is_reached question support west target ≡ true
      → defence_chooses question west target ≡ true → mass target ≤ℤ price_sum
  unfolding is_reached read_mass read_from
  prices_enough reached chooses =
      let some = dual.over in
      let weight : layout.1 ≡ weight_of question west = weight_listed question layout listed in
      let whole : ℤ = pos (weight_of question west) *ℤ scale in
      way MOST_MOVES [] target whole refl refl (reached_none question support west) reached chooses
      (mul_not_negative (pos (weight_of question west)) scale (omega (arith, ints)) (omega (arith, ints, some)))
      (itself whole)
      (finish (worth (suc MOST_MOVES) west []) (play MOST_MOVES layout []) (start_here chooses reached) weight)
    where
      itself : (z : ℤ) → z ≤ℤ z
      itself z = omega (arith, ints)

      finish : (w p : ℤ) → (scale *ℤ (pos layout.1 *ℤ w) -ℤ p) ≤ℤ pos 0 → layout.1 ≡ weight_of question west
          → (pos (weight_of question west) *ℤ scale *ℤ w) ≤ℤ p
      finish w p le is =
          let turned : pos (weight_of question west) *ℤ scale *ℤ w ≡ scale *ℤ (pos layout.1 *ℤ w) =
          ap (λ (n : ℕ). pos n *ℤ scale *ℤ w) (sym is) ∙ ap (λ (z : ℤ). z *ℤ w) (*ℤ_comm (pos layout.1) scale)
          ∙ mul_assoc scale (pos layout.1) w in
          omega (arith, ints, le, turned)
