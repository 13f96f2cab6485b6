-- The order of rows by their class layouts and class histories.
use Rattle.std.proofs.Common.{◌≡◌, ℕ, Bool, true, false, ◌&&◌, List, sym, subst, inl, inr}
use Rattle.std.specs.Prelude.{bytes_eq, nat_lt, ◌==◌}
use Rattle.std.proofs.lemmas.Bool.{and_from, and_parts, and_right, or_cases, or_from, or_left, or_right}
use Rattle.std.proofs.lemmas.Slice.Eq.{bytes_eq-Decides}
use Rattle.suit_cards.specs.Cards.{ClassLayout}
use Rattle.suit_classes.specs.declared.class_moves.ClassMove.{ClassMove}
use Rattle.suit_classes.specs.ClassMoves.{same_class_move, ClassHistory}
use Rattle.suit_classes.specs.MoveOrder.{stands_before}
use Rattle.suit_plans.specs.declared.defence.DefenceRow.{DefenceRow}
use Rattle.suit_plans.specs.declared.plan.Row.{Row}
use Rattle.suit_plans.specs.Orders.{counts_before, defence_row_before, history_before, key_before, plan_row_before}
use Rattle.suit_plans.specs.Orders.{same_class_history}
use Rattle.suit_plans.proofs.RowOfAKey.{Keyed}
use Rattle.suit_plans.proofs.HistoryOrder.{IsStrict-moves, IsStrict-numbers, earlier-chain, earlier-never}
use Rattle.suit_plans.proofs.HistoryOrder.{same_class_history_is}

-- no class history stands before itself
pub history-never : (history : ClassHistory) → history_before history history ≡ false
history-never history = earlier-never stands_before same_class_move history IsStrict-moves

-- what stands before a history stands before those after it
pub history-chain : (x y z : ClassHistory) → history_before x y ≡ true → history_before y z ≡ true
    → history_before x z ≡ true
history-chain x y z low high = earlier-chain stands_before same_class_move x y z IsStrict-moves low high

-- no counts and history stand before themselves
pub key-never : (counts : ClassLayout) (history : ClassHistory) → key_before counts history counts history ≡ false
key-never counts history =
    or_from (counts_before counts counts) (bytes_eq counts counts
    && history_before history history) (earlier-never nat_lt (λ a b. a == b) counts IsStrict-numbers)
    (and_right (bytes_eq counts counts) (history_before history history) (history-never history))

-- what stands before counts and a history stands before those after them
pub key-chain : (a b c : ClassLayout) (x y z : ClassHistory) → key_before a x b y ≡ true → key_before b y c z ≡ true
    → key_before a x c z ≡ true
key-chain a b c x y z first then =
    let alike : ℕ → ℕ → Bool = λ m n. m == n in
    elim (or_cases (counts_before a b) (bytes_eq a b && history_before x y) first) [
      | inl low ↦ elim (or_cases (counts_before b c) (bytes_eq b c && history_before y z) then) [
        | inl high ↦ or_left (counts_before a c) (bytes_eq a c
            && history_before x z) (earlier-chain nat_lt alike a b c IsStrict-numbers low high)
        | inr level ↦
            let parts = and_parts (bytes_eq b c) (history_before y z) level in
            or_left (counts_before a c) (bytes_eq a c
            && history_before x z)
            (subst (λ (w : ClassLayout). counts_before a w ≡ true) ((bytes_eq-Decides b c).0 parts.0) low)
      ]
      | inr level ↦
          let parts = and_parts (bytes_eq a b) (history_before x y) level in
          let one : a ≡ b = (bytes_eq-Decides a b).0 parts.0 in
          elim (or_cases (counts_before b c) (bytes_eq b c && history_before y z) then) [
            | inl high ↦ or_left (counts_before a c) (bytes_eq a c
                && history_before x z) (subst (λ (w : ClassLayout). counts_before w c ≡ true) (sym one) high)
            | inr flat ↦
                let rest = and_parts (bytes_eq b c) (history_before y z) flat in
                or_right (counts_before a c) (bytes_eq a c && history_before x z)
                (and_from (bytes_eq a c) (history_before x z)
                (subst (λ (w : ClassLayout). bytes_eq w c ≡ true) (sym one) rest.0)
                (history-chain x y z parts.1 rest.1))
          ]
    ]

-- how a history parts the rows of a plan
pub Keyed-histories : (history : ClassHistory)
    → Keyed plan_row_before (λ (row : Row). history_before row.history history)
    (λ (row : Row). same_class_history row.history history)
Keyed-histories history = record {
  apart = λ row is. subst (λ (h : ClassHistory). history_before h history
      ≡ false) (sym (same_class_history_is row.history history is)) (history-never history);
  above = λ row other stands is. subst (λ (h : ClassHistory). history_before row.history h
      ≡ true) (same_class_history_is other.history history is) stands;
  chain = λ row other stands earlier. history-chain row.history other.history history stands earlier;
}

-- how a class layout and a history part the rows of a defence
pub Keyed-defences : (counts : ClassLayout) (history : ClassHistory)
    → Keyed defence_row_before (λ (row : DefenceRow). key_before row.west row.history counts history)
    (λ (row : DefenceRow). bytes_eq row.west counts && same_class_history row.history history)
Keyed-defences counts history = record {
  apart = λ row is.
      let parts = and_parts (bytes_eq row.west counts) (same_class_history row.history history) is in
      subst (λ (w : ClassLayout). key_before w row.history counts history
      ≡ false) (sym ((bytes_eq-Decides row.west counts).0 parts.0))
      (subst (λ (h : ClassHistory). key_before counts h counts history
      ≡ false) (sym (same_class_history_is row.history history parts.1)) (key-never counts history));
  above = λ row other stands is.
      let parts = and_parts (bytes_eq other.west counts) (same_class_history other.history history) is in
      subst (λ (w : ClassLayout). key_before row.west row.history w history
      ≡ true) ((bytes_eq-Decides other.west counts).0 parts.0)
      (subst (λ (h : ClassHistory). key_before row.west row.history other.west h
      ≡ true) (same_class_history_is other.history history parts.1) stands);
  chain = λ row other stands earlier. key-chain row.west other.west counts row.history other.history history stands
      earlier;
}
