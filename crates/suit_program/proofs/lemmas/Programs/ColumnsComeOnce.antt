-- No column of a program comes twice, so that each has the number of its place (`columns_once`, `columns_are_given`).
use Rattle.std.proofs.Common.{◌≡◌, ℕ, zero, suc, ◌<◌, Bool, true, false, List, [], ◌∷◌, length, get_or, map, refl, sym}
use Rattle.std.proofs.Common.{ap, ◌∙◌, subst, inl, inr, arith}
use Rattle.std.specs.Prelude.{Contains, bytes_eq, if◌then◌else◌, ℤ, pos, ◌+ℤ◌, ◌*ℤ◌}
use Rattle.std.specs.List.{AllByRecursion, flat_map}
use Rattle.std.proofs.lemmas.Bool.{and_from, and_parts, false≢true, false_from_ne_true}
use Rattle.std.proofs.lemmas.Int.{ints}
use Rattle.std.proofs.lemmas.List.Elements.{Contains-get_or}
use Rattle.std.proofs.lemmas.Slice.Eq.{bytes_eq-Decides}
use Rattle.suit_lists.proofs.Chains.{chained_filter, once_pieces}
use Rattle.suit_lists.proofs.Elements.{Contains-cons_cases, Contains-nil, each_at}
use Rattle.suit_lists.proofs.FlatMaps.{flat_map_from}
use Rattle.suit_lists.proofs.Maps.{Contains-map_from}
use Rattle.suit_lists.proofs.Once.{IsOnce, once_map, once_pairs}
use Rattle.suit_cards.specs.Cards.{ClassLayout}
use Rattle.suit_game.specs.declared.question.Question.{Question}
use Rattle.suit_classes.specs.declared.class_moves.ClassMove.{ClassMove}
use Rattle.suit_classes.specs.ClassMoves.{same_class_move}
use Rattle.suit_classes.proofs.SameMoves.{same_move-itself, same_move_is}
use Rattle.suit_plans.specs.Orders.{counts_before, history_before, same_class_history}
use Rattle.suit_plans.proofs.HistoryOrder.{same_class_history-itself, same_class_history_is}
use Rattle.suit_plans.proofs.KeyOrder.{history-never}
use Rattle.suit_program.specs.Programs.ProgramLaws.{ColumnsAreGiven, ColumnsComeOnce, PricesAreNamed, RowsComeOnce}
use Rattle.suit_program.specs.Programs.Points.{Column, Held, Passed, given_to, same_column}
use Rattle.suit_program.specs.Programs.{columns, columns_at, held_column, limits}
use Rattle.suit_program.specs.Supports.{Support, declarer_chooses, defence_chooses, is_reached, layouts_of}
use Rattle.suit_program.specs.Supports.{reached_histories, reached_layouts, supported_moves}
use Rattle.suit_program.proofs.lemmas.Programs.RowsComeOnce.{IsLayoutBefore, counts-never, layouts_chained, limits_once}
use Rattle.suit_program.proofs.lemmas.Programs.PricesByName.{price_at}
use Rattle.suit_program.proofs.lemmas.Supports.ReachedInOrder.{reached_chained}
use Rattle.suit_program.proofs.lemmas.Supports.TurnCases.{supported_once}

abbrev place_of : Column → List ClassMove
place_of (Passed history move) = history
place_of (Held west history) = history

abbrev counts_of : Column → ClassLayout
counts_of (Passed history move) = []
counts_of (Held west history) = west

abbrev move_of : ClassMove → Column → ClassMove
move_of other (Passed history move) = move
move_of other (Held west history) = other

once_case : (b : Bool) (one other : List Column) → IsOnce one → IsOnce other → IsOnce (if b then one else other)
once_case true one other first second = first
once_case false one other first second = second

module _ (question : Question) (support : Support) where
  held_case : (history : List ClassMove) (layout : ClassLayout × ℕ) (b : Bool) (column : Column)
      → Contains (if b then Held layout.0 history ∷ [] else []) column
      → (place_of column ≡ history) × (counts_of column ≡ layout.0)
  held_case history layout true column found = elim (Contains-cons_cases (Held layout.0 history) [] column found) [
    | inl here ↦ (sym (ap place_of here), sym (ap counts_of here))
    | inr there ↦ absurd (Contains-nil column there)
  ]
  held_case history layout false column found = absurd (Contains-nil column found)

  held_place : (history : List ClassMove) (layout : ClassLayout × ℕ) (column : Column)
      → Contains (held_column question history layout) column
      → (place_of column ≡ history) × (counts_of column ≡ layout.0)
  unfolding held_column
  held_place history layout column found =
      held_case history layout (defence_chooses question layout.0 history) column found

  history_case : (history : List ClassMove) (b : Bool) (column : Column)
      → Contains (if b then map (Passed history) (supported_moves question support [] history)
      else flat_map (held_column question history) (reached_layouts question support history)) column
      → place_of column ≡ history
  history_case history true column found =
      sym (ap place_of (Contains-map_from (Passed history) (supported_moves question support [] history) column
      found).2)
  history_case history false column found =
      let from = flat_map_from (held_column question history) (reached_layouts question support history) column found in
      (held_place history from.0 column from.2).0

  history_place : (history : List ClassMove) (column : Column) → Contains (columns_at question support history) column
      → place_of column ≡ history
  unfolding columns_at
  history_place history column found = history_case history (declarer_chooses question history) column found

  history_once : (history : List ClassMove) → IsOnce (columns_at question support history)
  unfolding columns_at held_column IsOnce reached_layouts
  history_once history =
      once_case (declarer_chooses question history)
      (map (Passed history) (supported_moves question support [] history))
      (flat_map (held_column question history) (reached_layouts question support history))
      (once_map (Passed history) (supported_moves question support [] history)
      (λ here there same. ap (move_of here) same) (supported_once question support [] history))
      (once_pieces IsLayoutBefore (held_column question history) (reached_layouts question support history)
      (chained_filter IsLayoutBefore (λ (other : ClassLayout × ℕ). is_reached question support other.0 history)
      (layouts_of question) (layouts_chained question))
      (λ layout. once_case (defence_chooses question layout.0 history) (Held layout.0 history ∷ []) [] (tt, tt) tt)
      (λ here there before column one other. false≢true (sym (counts-never there.0)
      ∙ subst (λ (w : ClassLayout). counts_before w there.0 ≡ true)
      (sym (held_place history here column one).1 ∙ (held_place history there column other).1) before)))

  pub columns_once : IsOnce (columns question support)
  unfolding columns
  columns_once =
      once_pieces (λ here there. history_before here there ≡ true) (columns_at question support)
      (reached_histories question support) (reached_chained question support) history_once
      (λ here there before column one other. false≢true (sym (history-never there)
      ∙ subst (λ (h : List ClassMove). history_before h there ≡ true)
      (sym (history_place here column one) ∙ history_place there column other) before))

pub columns_come_once : ColumnsComeOnce
columns_come_once question support = once_pairs (columns question support) (columns_once question support)

pub rows_come_once : RowsComeOnce
rows_come_once question support = once_pairs (limits question support) (limits_once question support)

-- ---- what a point gives

column_itself : (column : Column) → same_column column column ≡ true
unfolding same_column
column_itself (Passed history move) =
    and_from (same_class_history history history) (same_class_move move move) (same_class_history-itself history)
    (same_move-itself move)
column_itself (Held west history) =
    and_from (bytes_eq west west) (same_class_history history history) ((bytes_eq-Decides west west).1 refl)
    (same_class_history-itself history)

column_is : (column other : Column) → same_column column other ≡ true → column ≡ other
unfolding same_column
column_is (Passed history move) (Passed there next) same =
    let parts = and_parts (same_class_history history there) (same_class_move move next) same in
    ap (λ (h : List ClassMove). Passed h move) (same_class_history_is history there parts.0)
    ∙ ap (Passed there) (same_move_is move next parts.1)
column_is (Held west history) (Held counts there) same =
    let parts = and_parts (bytes_eq west counts) (same_class_history history there) same in
    ap (λ (w : ClassLayout). Held w history) ((bytes_eq-Decides west counts).0 parts.0)
    ∙ ap (Held counts) (same_class_history_is history there parts.1)
column_is (Passed history move) (Held counts there) same = absurd (false≢true same)
column_is (Held west history) (Passed there next) same = absurd (false≢true same)

none_given : (all : List Column) (given : ℕ → ℤ) (wanted : Column)
    → AllByRecursion (λ later. wanted ≡ later → ⊥) all → given_to all given wanted ≡ pos 0
unfolding given_to
none_given [] given wanted apart = refl
none_given (column ∷ all) given wanted apart =
    let rest = none_given all (λ index. given (suc index)) wanted apart.1 in
    let here : given 0 *ℤ (if same_column column wanted then pos 1 else pos 0) ≡ given 0 *ℤ pos 0 =
    ap (λ (b : Bool). given 0 *ℤ (if b then pos 1 else pos 0))
    (false_from_ne_true (same_column column wanted) (λ same. apart.0 (sym (column_is column wanted same)))) in
    both (given 0) (given 0 *ℤ (if same_column column wanted then pos 1 else pos 0))
    (given_to all (λ index. given (suc index)) wanted) here rest
  where
    both : (g x y : ℤ) → x ≡ g *ℤ pos 0 → y ≡ pos 0 → x +ℤ y ≡ pos 0
    both g x y p q = omega (arith, ints, p, q)

-- of columns of which none comes twice each is given its own number
given_at : (all : List Column) (given : ℕ → ℤ) (index : ℕ) (column : Column) → IsOnce all → index < length all
    → given_to all given (get_or all index column) ≡ given index
unfolding given_to IsOnce
given_at [] given index column once below = absurd (omega (arith, below))
given_at (first ∷ all) given zero column once below =
    let rest = none_given all (λ index. given (suc index)) first once.0 in
    let here : given 0 *ℤ (if same_column first first then pos 1 else pos 0) ≡ given 0 *ℤ pos 1 =
    ap (λ (b : Bool). given 0 *ℤ (if b then pos 1 else pos 0)) (column_itself first) in
    both (given 0) (given 0 *ℤ (if same_column first first then pos 1 else pos 0))
    (given_to all (λ index. given (suc index)) first) here rest
  where
    both : (g x y : ℤ) → x ≡ g *ℤ pos 1 → y ≡ pos 0 → x +ℤ y ≡ g
    both g x y p q = omega (arith, ints, p, q)
given_at (first ∷ all) given (suc index) column once below =
    let wanted : Column = get_or all index column in
    let found : Contains all wanted = Contains-get_or all index column (omega (arith, below)) in
    let rest = given_at all (λ other. given (suc other)) index column once.1 (omega (arith, below)) in
    let here : given 0 *ℤ (if same_column first wanted then pos 1 else pos 0) ≡ given 0 *ℤ pos 0 =
    ap (λ (b : Bool). given 0 *ℤ (if b then pos 1 else pos 0))
    (false_from_ne_true (same_column first wanted)
    (λ same. each_at (λ later. first ≡ later → ⊥) all wanted once.0 found (column_is first wanted same))) in
    both (given 0) (given 0 *ℤ (if same_column first wanted then pos 1 else pos 0))
    (given_to all (λ other. given (suc other)) wanted) (given (suc index)) here rest
  where
    both : (g x y z : ℤ) → x ≡ g *ℤ pos 0 → y ≡ z → x +ℤ y ≡ z
    both g x y z p q = omega (arith, ints, p, q)

pub columns_are_given : ColumnsAreGiven
columns_are_given question support given index column below =
    given_at (columns question support) given index column (columns_once question support) below

pub prices_are_named : PricesAreNamed
prices_are_named question support prices index limit west history move long below is =
    price_at (limits question support) prices index limit west history move (limits_once question support) long below is
