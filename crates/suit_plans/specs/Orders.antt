-- In what order class histories and West's counts stand.
use Rattle.std.specs.Prelude.{◌≡◌, ◌&&◌, ◌||◌, ◌==◌, nat_lt, Bool, true, false, List, [], ◌∷◌, AllPairs, bytes_eq}
use Rattle.suit_cards.specs.Cards.{ClassLayout}
use Rattle.suit_classes.specs.ClassMoves.{ClassHistory, same_class_move}
use Rattle.suit_classes.specs.MoveOrder.{stands_before}
use Rattle.suit_plans.specs.declared.plan.Row.{Row}
use Rattle.suit_plans.specs.declared.defence.DefenceRow.{DefenceRow}

-- whether a list stands before another in lexicographic order, a beginning before the longer list, where it is told
-- which elements stand before others and which are alike
unfoldable pub is_earlier : {X : Type 0} → (X → X → Bool) → (X → X → Bool) → List X → List X → Bool
is_earlier before alike [] [] = false
is_earlier before alike [] (other ∷ others) = true
is_earlier before alike (first ∷ rest) [] = false
is_earlier before alike (first ∷ rest) (other ∷ others) = before first other
    || (alike first other && is_earlier before alike rest others)

-- whether two class histories are the same
unfoldable pub same_class_history : ClassHistory → ClassHistory → Bool
same_class_history [] [] = true
same_class_history [] (other ∷ others) = false
same_class_history (move ∷ moves) [] = false
same_class_history (move ∷ moves) (other ∷ others) = same_class_move move other && same_class_history moves others

-- whether a class history stands before another
abbrev pub history_before : ClassHistory → ClassHistory → Bool
history_before here there = is_earlier stands_before same_class_move here there

-- whether West's counts stand before others
abbrev pub counts_before : ClassLayout → ClassLayout → Bool
counts_before here there = is_earlier nat_lt (λ a b. a == b) here there

-- whether West's counts and a class history stand before others: by the counts, and then by the history
abbrev pub key_before : ClassLayout → ClassHistory → ClassLayout → ClassHistory → Bool
key_before counts history other later = counts_before counts other
    || (bytes_eq counts other && history_before history later)

-- whether a row of a plan stands before another
abbrev pub plan_row_before : Row → Row → Bool
plan_row_before here there = history_before here.history there.history

-- whether a row of a defence does
abbrev pub defence_row_before : DefenceRow → DefenceRow → Bool
defence_row_before here there = key_before here.west here.history there.west there.history

-- each of some rows stands before those after it
abbrev pub InOrder : {R : Type 0} → (R → R → Bool) → List R → Type 0
InOrder before rows = AllPairs (λ here there. before here there ≡ true) rows
