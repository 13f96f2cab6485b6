-- A turn of the defence, class layout by class layout (`answered_append`, `answered_held`, `answered_kept`).
use Rattle.std.proofs.Common.{◌≡◌, ℕ, suc, ◌+◌, Bool, true, false, List, [], ◌∷◌, ◌++◌, length, map, refl, sym}
use Rattle.std.proofs.Common.{ap}
use Rattle.std.proofs.Common.{◌∙◌, subst, append-nil, arith}
use Rattle.std.specs.Prelude.{◌==◌, if◌then◌else◌, ℤ, pos, negsuc, ◌+ℤ◌}
use Rattle.std.proofs.lemmas.Int.{ints}
use Rattle.std.proofs.lemmas.List.{length-append, length-map, map-append}
use Rattle.std.proofs.lemmas.List.Concat.{flat_map-append}
use Rattle.suit_cards.specs.Cards.{ClassLayout}
use Rattle.suit_game.specs.declared.question.Question.{Question}
use Rattle.suit_classes.specs.declared.class_moves.ClassMove.{ClassMove}
use Rattle.suit_plans.specs.Properness.{sum_of}
use Rattle.suit_plans.specs.ReplyLaws.{counts_at}
use Rattle.suit_program.specs.declared.walks.ledger.Account.{Account}
use Rattle.suit_program.specs.declared.walks.ledger.Ledger.{Ledger}
use Rattle.suit_program.specs.declared.walks.turn.LayoutMoves.{LayoutMoves}
use Rattle.suit_program.specs.Walks.Ledgers.{Adds, Extends, credit, in_each, value_of}
use Rattle.suit_program.specs.Programs.Points.{Column, Held, Point}
use Rattle.suit_program.specs.Programs.{Answered, Limit, answered_limits, held_column}
use Rattle.suit_program.specs.Supports.{Support, defence_chooses, supported_moves}
use Rattle.suit_program.specs.Walks.Writing.{AnswerView, AreAnswered, AreGiven, answer_seen, answered_rows, held_at}
use Rattle.suit_program.specs.Walks.Writing.{held_columns}
use Rattle.suit_program.specs.Walks.Writing.{held_in, layout_of, opened, told}
use Rattle.suit_program.proofs.lemmas.Supports.SumsByPlay.{sum_append}
use Rattle.suit_program.proofs.lemmas.Walks.OwedIsSharedOut.{given_append, told_append}

-- one goes on from another that goes on
pub extends_both : (a b c : Ledger) (columns rows more_columns more_rows all_columns all_rows : ℕ)
    → all_columns ≡ columns + more_columns → all_rows ≡ rows + more_rows
    → Extends a b columns rows → Extends b c more_columns more_rows → Extends a c all_columns all_rows
extends_both a b c columns rows more_columns more_rows all_columns all_rows wide long first second =
    let one = first.columns in let two = second.columns in let three = first.rows in let four = second.rows in
    record {
      columns = omega (arith, one, two, wide);
      rows = omega (arith, three, four, long);
      within = λ has. second.within (first.within has);
    }

in_each_told : (point : Point) (west : ClassLayout) (history : List ClassMove) (row : ℕ) (moves : List ClassMove)
    (first : ℕ)
    → told (held_at point) first (map (Answered west history) moves) row
    ≡ in_each first (length moves) (point.at (Held west history)) row
unfolding told in_each
in_each_told point west history row [] first = refl
in_each_told point west history row (move ∷ moves) first =
    ap (λ (z : ℤ). (if first == row then point.at (Held west history) else pos 0) +ℤ z)
    (in_each_told point west history row moves (suc first))

module _ (question : Question) (support : Support) (history : List ClassMove) where
  abbrev rows_in : List Account → ℕ
  rows_in accounts = length (answered_rows question support history accounts)

  pub columns_append : (xs ys : List Account)
      → held_columns question history (xs ++ ys) ≡ held_columns question history xs ++ held_columns question history ys
  columns_append xs ys =
      flat_map-append (λ (account : Account). held_column question history (layout_of question account)) xs ys

  pub rows_append : (xs ys : List Account)
      → answered_rows question support history (xs ++ ys)
      ≡ answered_rows question support history xs ++ answered_rows question support history ys
  rows_append xs ys =
      flat_map-append (λ (account : Account). answered_limits question support history (layout_of question account))
      xs ys

  opened_append : (first : ℕ) (xs ys : List Account)
      → opened question support history first (xs ++ ys)
      ≡ opened question support history first xs ++ opened question support history (first + rows_in xs) ys
  unfolding opened
  opened_append first [] ys = ap (λ (n : ℕ). opened question support history n ys) (omega arith)
  opened_append first (account ∷ xs) ys =
      let here : ℕ = length (answered_limits question support history (layout_of question account)) in
      let all = length-append (answered_limits question support history (layout_of question account))
      (answered_rows question support history xs) in
      let one : AnswerView = (
        if defence_chooses question (counts_at question account.index) history
            then record { index = account.index; row = first; factor = negsuc 0 }
            else account,
        supported_moves question support (counts_at question account.index) history,
      ) in
      ap (λ (l : List AnswerView). one ∷ l)
      (opened_append (first + here) xs ys
      ∙ ap (λ (n : ℕ). opened question support history (first + here) xs ++ opened question support history n ys)
      (omega (arith, all)))

  pub answered_none : (ledger : Ledger) → AreAnswered question support history [] ledger ledger []
  unfolding opened told sum_of
  answered_none ledger = record {
    extends = record { columns = omega arith; rows = omega arith; within = λ has. has };
    seen = refl;
    values = λ point given are row. same (value_of ledger given row);
  }
    where
      same : (x : ℤ) → x ≡ x +ℤ (pos 0 +ℤ pos 0)
      same x = omega (arith, ints)

  pub answered_append : (xs ys : List Account) (a b c : Ledger) (first second : List LayoutMoves)
      → AreAnswered question support history xs a b first → AreAnswered question support history ys b c second
      → AreAnswered question support history (xs ++ ys) a c (first ++ second)
  answered_append xs ys a b c first second one two =
      let wide = one.extends.columns in
      let long = one.extends.rows in
      record {
        extends = extends_both a b c (length (held_columns question history xs)) (rows_in xs)
            (length (held_columns question history ys)) (rows_in ys)
            (length (held_columns question history (xs ++ ys))) (rows_in (xs ++ ys))
            (ap (λ (l : List Column). length l) (columns_append xs ys)
            ∙ length-append (held_columns question history xs) (held_columns question history ys))
            (ap (λ (l : List Limit). length l) (rows_append xs ys)
            ∙ length-append (answered_rows question support history xs) (answered_rows question support history ys))
            one.extends two.extends;
        seen = map-append answer_seen first second
            ∙ ap (λ (l : List AnswerView). l ++ map answer_seen second) one.seen
            ∙ ap (λ (l : List AnswerView). opened question support history a.rows xs ++ l)
            (two.seen ∙ ap (λ (n : ℕ). opened question support history n ys) long)
            ∙ sym (opened_append a.rows xs ys);
        values = λ point given are row.
            let parts = given_append given point a.columns (held_columns question history xs)
            (held_columns question history ys)
            (subst (AreGiven given point a.columns) (columns_append xs ys) are) in
            sums (value_of c given row) (value_of b given row) (value_of a given row)
            (held_in question point history xs row) (held_in question point history ys row)
            (held_in question point history (xs ++ ys) row)
            (told (held_at point) a.rows (answered_rows question support history xs) row)
            (told (held_at point) b.rows (answered_rows question support history ys) row)
            (told (held_at point) a.rows (answered_rows question support history (xs ++ ys)) row)
            (one.values point given parts.0 row)
            (two.values point given (subst (λ (n : ℕ). AreGiven given point n (held_columns question history ys))
            (sym wide) parts.1) row)
            (sum_append (λ (account : Account).
            if defence_chooses question (counts_at question account.index) history
            then credit row account (point.at (Held (counts_at question account.index) history)) else pos 0) xs ys)
            (ap (λ (l : List Limit). told (held_at point) a.rows l row) (rows_append xs ys)
            ∙ told_append (held_at point) a.rows (answered_rows question support history xs)
            (answered_rows question support history ys) row
            ∙ ap (λ (n : ℕ). told (held_at point) a.rows (answered_rows question support history xs) row
            +ℤ told (held_at point) n (answered_rows question support history ys) row) (sym long));
      }
    where
      sums : (c b a h k all t u both : ℤ) → b ≡ a +ℤ (h +ℤ t) → c ≡ b +ℤ (k +ℤ u) → all ≡ h +ℤ k → both ≡ t +ℤ u
          → c ≡ a +ℤ (all +ℤ both)
      sums c b a h k all t u both p q r v = omega (arith, ints, p, q, r, v)

  -- a class layout in which the defence has a choice
  pub answered_held : (account : Account) (old new : Ledger) (answer : LayoutMoves) (count : ℕ)
      → defence_chooses question (counts_at question account.index) history ≡ true
      → answer.moves.items ≡ supported_moves question support (counts_at question account.index) history
      → count ≡ length answer.moves.items
      → answer.account ≡ record { index = account.index; row = old.rows; factor = negsuc 0 }
      → Extends old new 1 count
      → Adds old new (λ given row. credit row account (given old.columns)
      +ℤ in_each old.rows count (given old.columns) row)
      → AreAnswered question support history (account ∷ []) old new (answer ∷ [])
  unfolding opened sum_of held_column answered_limits AreGiven
  answered_held account old new answer count chooses moves_are count_is opens extends adds =
      let west : ClassLayout = counts_at question account.index in
      let moves : List ClassMove = supported_moves question support west history in
      let columns : held_columns question history (account ∷ []) ≡ Held west history ∷ [] =
      ap (λ (b : Bool). (if b then Held west history ∷ [] else []) ++ []) chooses in
      let rows : answered_rows question support history (account ∷ []) ≡ map (Answered west history) moves =
      append-nil (answered_limits question support history (layout_of question account))
      ∙ ap (λ (b : Bool). if b then map (Answered west history) moves else []) chooses in
      let same : count ≡ length moves = count_is ∙ ap (λ (l : List ClassMove). length l) moves_are in
      record {
        extends = subst (λ (l : List Column). Extends old new (length l)
            (length (answered_rows question support history (account ∷ [])))) (sym columns)
            (subst (λ (n : ℕ). Extends old new 1 n)
            (same ∙ sym (length-map moves (Answered west history)) ∙ sym (ap (λ (l : List Limit). length l) rows))
            extends);
        seen = ap (λ (a : Account). (a, answer.moves.items) ∷ []) opens
            ∙ ap (λ (l : List ClassMove). (record { index = account.index; row = old.rows; factor = negsuc 0 }, l) ∷ [])
            moves_are
            ∙ ap (λ (b : Bool). (
              if b then record { index = account.index; row = old.rows; factor = negsuc 0 } else account,
              moves,
            ) ∷ []) (sym chooses);
        values = λ point given are row.
            let is : given old.columns ≡ point.at (Held west history) =
            (subst (AreGiven given point old.columns) columns are).0 in
            sums (value_of new given row) (value_of old given row)
            (credit row account (given old.columns)) (in_each old.rows count (given old.columns) row)
            (if defence_chooses question west history then credit row account (point.at (Held west history)) else pos 0)
            (told (held_at point) old.rows (answered_rows question support history (account ∷ [])) row)
            (adds.values given row)
            (ap (λ (b : Bool). if b then credit row account (point.at (Held west history)) else pos 0) chooses
            ∙ ap (credit row account) (sym is))
            (ap (λ (l : List Limit). told (held_at point) old.rows l row) rows
            ∙ in_each_told point west history row moves old.rows
            ∙ ap (λ (n : ℕ). in_each old.rows n (point.at (Held west history)) row) (sym same)
            ∙ ap (λ (z : ℤ). in_each old.rows count z row) (sym is));
      }
    where
      sums : (now before c e h t : ℤ) → now ≡ before +ℤ (c +ℤ e) → h ≡ c → t ≡ e
          → now ≡ before +ℤ ((h +ℤ pos 0) +ℤ t)
      sums now before c e h t p q r = omega (arith, ints, p, q, r)

  -- one in which it has none
  pub answered_kept : (account : Account) (ledger : Ledger) (answer : LayoutMoves)
      → defence_chooses question (counts_at question account.index) history ≡ false
      → answer.moves.items ≡ supported_moves question support (counts_at question account.index) history
      → answer.account ≡ account
      → AreAnswered question support history (account ∷ []) ledger ledger (answer ∷ [])
  unfolding opened sum_of held_column answered_limits told
  answered_kept account ledger answer waits moves_are stays =
      let west : ClassLayout = counts_at question account.index in
      let moves : List ClassMove = supported_moves question support west history in
      let columns : held_columns question history (account ∷ []) ≡ [] =
      ap (λ (b : Bool). (if b then Held west history ∷ [] else []) ++ []) waits in
      let rows : answered_rows question support history (account ∷ []) ≡ [] =
      ap (λ (b : Bool). (if b then map (Answered west history) moves else []) ++ []) waits in
      record {
        extends = subst (λ (l : List Column). Extends ledger ledger (length l)
            (length (answered_rows question support history (account ∷ [])))) (sym columns)
            (subst (λ (l : List Limit). Extends ledger ledger 0 (length l)) (sym rows)
            (record { columns = omega arith; rows = omega arith; within = λ has. has }));
        seen = ap (λ (a : Account). (a, answer.moves.items) ∷ []) stays
            ∙ ap (λ (l : List ClassMove). (account, l) ∷ []) moves_are
            ∙ ap (λ (b : Bool). (
              if b then record { index = account.index; row = ledger.rows; factor = negsuc 0 } else account,
              moves,
            ) ∷ []) (sym waits);
        values = λ point given are row.
            sums (value_of ledger given row)
            (if defence_chooses question west history then credit row account (point.at (Held west history)) else pos 0)
            (told (held_at point) ledger.rows (answered_rows question support history (account ∷ [])) row)
            (ap (λ (b : Bool). if b then credit row account (point.at (Held west history)) else pos 0) waits)
            (ap (λ (l : List Limit). told (held_at point) ledger.rows l row) rows);
      }
    where
      sums : (x h t : ℤ) → h ≡ pos 0 → t ≡ pos 0 → x ≡ x +ℤ ((h +ℤ pos 0) +ℤ t)
      sums x h t p q = omega (arith, ints, p, q)
