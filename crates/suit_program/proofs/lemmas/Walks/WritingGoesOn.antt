-- A walk, class history by class history (`passed_none`, `passed_more`, `all_written`).
use Rattle.std.proofs.Common.{◌≡◌, ℕ, zero, suc, ◌-◌, ◌<◌, List, [], ◌∷◌, ◌++◌, length, get_or}
use Rattle.std.proofs.Common.{map, refl, sym, ap, ◌∙◌, subst, append-nil, arith}
use Rattle.std.specs.Prelude.{ℤ, pos, ◌+ℤ◌}
use Rattle.std.specs.List.{flat_map}
use Rattle.std.proofs.lemmas.Int.{ints}
use Rattle.std.proofs.lemmas.List.{get_or-append-add, length-append}
use Rattle.std.proofs.lemmas.List.Concat.{flat_map-append}
use Rattle.suit_lists.proofs.FlatMaps.{flat_map_flat_map}
use Rattle.suit_game.specs.declared.question.Question.{Question}
use Rattle.suit_game.specs.declared.limits.TheConstants.{MOST_MOVES}
use Rattle.suit_classes.specs.declared.class_moves.ClassMove.{ClassMove}
use Rattle.suit_classes.specs.declared.class_moves.ClassMove.TheVariants.{ShowOut}
use Rattle.suit_plans.specs.Properness.{sum_of}
use Rattle.suit_program.specs.declared.walks.ledger.Account.{Account}
use Rattle.suit_program.specs.declared.walks.ledger.Ledger.{Ledger}
use Rattle.suit_program.specs.declared.walks.turn.Turn.{Turn}
use Rattle.suit_program.specs.Walks.Ledgers.{Extends, Given, value_of}
use Rattle.suit_program.specs.Programs.Points.{Column, Point}
use Rattle.suit_program.specs.Programs.{Limit, columns_at, excess, limits_at}
use Rattle.suit_program.specs.Supports.{Support, histories_from, next_moves}
use Rattle.suit_program.specs.Walks.Writing.{AreGiven, IsOpened, IsWritten, accounts_after, columns_from, limits_from}
use Rattle.suit_program.specs.Walks.Writing.{mass_after, owed, told}
use Rattle.suit_program.specs.Programs.Worths.{mass_at}
use Rattle.suit_program.proofs.lemmas.Supports.SumsByPlay.{sum_append}
use Rattle.suit_program.proofs.lemmas.Walks.OwedIsSharedOut.{given_append, told_append}
use Rattle.suit_program.proofs.lemmas.Walks.WritingByLayout.{extends_both}

module _ (question : Question) (support : Support) (history : List ClassMove) where
  -- the columns and rows with a move more
  abbrev pub columns_by : ClassMove → List Column
  columns_by move = columns_from question support (MOST_MOVES - length (history ++ move ∷ [])) (history ++ move ∷ [])

  abbrev pub limits_by : ClassMove → List Limit
  limits_by move = limits_from question support (MOST_MOVES - length (history ++ move ∷ [])) (history ++ move ∷ [])

  -- the class histories from a class history on
  abbrev pub GoOn : Type 0
  GoOn = histories_from question support (MOST_MOVES - length history) history
      ≡ history ∷ flat_map (λ move. histories_from question support (MOST_MOVES - length (history ++ move ∷ []))
      (history ++ move ∷ [])) (next_moves question support history)

  pub columns_split : GoOn → columns_from question support (MOST_MOVES - length history) history
      ≡ columns_at question support history ++ flat_map columns_by (next_moves question support history)
  unfolding columns_from
  columns_split go =
      ap (flat_map (columns_at question support)) go
      ∙ ap (λ (l : List Column). columns_at question support history ++ l)
      (flat_map_flat_map (columns_at question support)
      (λ move. histories_from question support (MOST_MOVES - length (history ++ move ∷ [])) (history ++ move ∷ []))
      (next_moves question support history))

  pub limits_split : GoOn → limits_from question support (MOST_MOVES - length history) history
      ≡ limits_at question support history ++ flat_map limits_by (next_moves question support history)
  unfolding limits_from
  limits_split go =
      ap (flat_map (limits_at question support)) go
      ∙ ap (λ (l : List Limit). limits_at question support history ++ l)
      (flat_map_flat_map (limits_at question support)
      (λ move. histories_from question support (MOST_MOVES - length (history ++ move ∷ [])) (history ++ move ∷ []))
      (next_moves question support history))

  module _ (mass : ℕ) (accounts : List Account) (turn : Turn) where
    abbrev owed_by : Point → ℕ → ClassMove → ℤ
    owed_by point row move =
        owed question support point (history ++ move ∷ []) (accounts_after turn accounts move) row

    -- of a turn's moves some are walked
    pub record ArePassed (opened now : Ledger) (done : List ClassMove) : Type 0 where
      pub extends : Extends opened now (length (flat_map columns_by done)) (length (flat_map limits_by done))
      pub values : (point : Point) (given : Given) → AreGiven given point opened.columns (flat_map columns_by done)
          → ((index : ℕ) → index < length done → given (mass_after turn mass index)
          ≡ mass_at question support point (history ++ get_or done index ShowOut ∷ []))
          → (row : ℕ) → value_of now given row
          ≡ value_of opened given row +ℤ (sum_of (map (owed_by point row) done)
          +ℤ told (excess question support point) opened.rows (flat_map limits_by done) row)

    pub passed_none : (ledger : Ledger) → ArePassed ledger ledger []
    unfolding sum_of told
    passed_none ledger = record {
      extends = record { columns = omega arith; rows = omega arith; within = λ has. has };
      values = λ point given are masses row. same (value_of ledger given row);
    }
      where
        same : (x : ℤ) → x ≡ x +ℤ (pos 0 +ℤ pos 0)
        same x = omega (arith, ints)

    get_before : (xs ys : List ClassMove) (index : ℕ) → index < length xs
        → get_or (xs ++ ys) index ShowOut ≡ get_or xs index ShowOut
    get_before [] ys index below = absurd (omega (arith, below))
    get_before (x ∷ xs) ys zero below = refl
    get_before (x ∷ xs) ys (suc index) below = get_before xs ys index (omega (arith, below))

    pub passed_more : (opened now new : Ledger) (done : List ClassMove) (move : ClassMove)
        → ArePassed opened now done
        → IsWritten question support (history ++ move ∷ []) (mass_after turn mass (length done))
        (accounts_after turn accounts move) now new → ArePassed opened new (done ++ move ∷ [])
    unfolding sum_of
    passed_more opened now new done move passed written =
        let wide = passed.extends.columns in
        let long = passed.extends.rows in
        let columns : flat_map columns_by (done ++ move ∷ []) ≡ flat_map columns_by done ++ columns_by move =
        flat_map-append columns_by done (move ∷ [])
        ∙ ap (λ (l : List Column). flat_map columns_by done ++ l) (append-nil (columns_by move)) in
        let rows : flat_map limits_by (done ++ move ∷ []) ≡ flat_map limits_by done ++ limits_by move =
        flat_map-append limits_by done (move ∷ [])
        ∙ ap (λ (l : List Limit). flat_map limits_by done ++ l) (append-nil (limits_by move)) in
        record {
          extends = extends_both opened now new (length (flat_map columns_by done)) (length (flat_map limits_by done))
              (length (columns_by move)) (length (limits_by move))
              (length (flat_map columns_by (done ++ move ∷ []))) (length (flat_map limits_by (done ++ move ∷ [])))
              (ap (λ (l : List Column). length l) columns
              ∙ length-append (flat_map columns_by done) (columns_by move))
              (ap (λ (l : List Limit). length l) rows ∙ length-append (flat_map limits_by done) (limits_by move))
              passed.extends written.extends;
          values = λ point given are masses row.
              let parts = given_append given point opened.columns (flat_map columns_by done) (columns_by move)
              (subst (AreGiven given point opened.columns) columns are) in
              let count = length-append done (move ∷ []) in
              sums (value_of new given row) (value_of now given row) (value_of opened given row)
              (sum_of (map (owed_by point row) done)) (owed_by point row move)
              (sum_of (map (owed_by point row) (done ++ move ∷ [])))
              (told (excess question support point) opened.rows (flat_map limits_by done) row)
              (told (excess question support point) now.rows (limits_by move) row)
              (told (excess question support point) opened.rows (flat_map limits_by (done ++ move ∷ [])) row)
              (passed.values point given parts.0
              (λ index below. masses index (omega (arith, below, count))
              ∙ ap (λ (m : ClassMove). mass_at question support point (history ++ m ∷ []))
              (get_before done (move ∷ []) index below)) row)
              (written.values point given
              (subst (λ (n : ℕ). AreGiven given point n (columns_by move)) (sym wide) parts.1)
              (masses (length done) (omega (arith, count))
              ∙ ap (λ (m : ClassMove). mass_at question support point (history ++ m ∷ []))
              (ap (λ (n : ℕ). get_or (done ++ move ∷ []) n ShowOut) (omega arith)
              ∙ get_or-append-add done (move ∷ []) 0 ShowOut)) row)
              (sum_append (owed_by point row) done (move ∷ []))
              (ap (λ (l : List Limit). told (excess question support point) opened.rows l row) rows
              ∙ told_append (excess question support point) opened.rows (flat_map limits_by done) (limits_by move) row
              ∙ ap (λ (n : ℕ). told (excess question support point) opened.rows (flat_map limits_by done) row
              +ℤ told (excess question support point) n (limits_by move) row) (sym long));
        }
      where
        sums : (new now opened d m all t u both : ℤ) → now ≡ opened +ℤ (d +ℤ t) → new ≡ now +ℤ (m +ℤ u)
            → all ≡ d +ℤ (m +ℤ pos 0) → both ≡ t +ℤ u → new ≡ opened +ℤ (all +ℤ both)
        sums new now opened d m all t u both p q r v = omega (arith, ints, p, q, r, v)

    -- all are
    pub all_written : (old opened new : Ledger) → GoOn → IsOpened question support history mass accounts old opened turn
        → ArePassed opened new (next_moves question support history)
        → IsWritten question support history mass accounts old new
    all_written old opened new go opens passed =
        let next : List ClassMove = next_moves question support history in
        let columns = columns_split go in
        let rows = limits_split go in
        let wide = opens.extends.columns in
        let long = opens.extends.rows in
        record {
          extends = extends_both old opened new (length (columns_at question support history))
              (length (limits_at question support history)) (length (flat_map columns_by next))
              (length (flat_map limits_by next))
              (length (columns_from question support (MOST_MOVES - length history) history))
              (length (limits_from question support (MOST_MOVES - length history) history))
              (ap (λ (l : List Column). length l) columns
              ∙ length-append (columns_at question support history) (flat_map columns_by next))
              (ap (λ (l : List Limit). length l) rows
              ∙ length-append (limits_at question support history) (flat_map limits_by next))
              opens.extends passed.extends;
          values = λ point given are same row.
              let parts = given_append given point old.columns (columns_at question support history)
              (flat_map columns_by next) (subst (AreGiven given point old.columns) columns are) in
              sums (value_of new given row) (value_of opened given row) (value_of old given row)
              (sum_of (map (owed_by point row) next))
              (owed question support point history accounts row)
              (told (excess question support point) old.rows (limits_at question support history) row)
              (told (excess question support point) opened.rows (flat_map limits_by next) row)
              (told (excess question support point) old.rows
              (limits_from question support (MOST_MOVES - length history) history) row)
              (opens.values point given parts.0 same row)
              (passed.values point given (subst (λ (n : ℕ). AreGiven given point n (flat_map columns_by next))
              (sym wide) parts.1) (λ index below. opens.masses point given parts.0 same index below) row)
              (ap (λ (l : List Limit). told (excess question support point) old.rows l row) rows
              ∙ told_append (excess question support point) old.rows (limits_at question support history)
              (flat_map limits_by next) row
              ∙ ap (λ (n : ℕ). told (excess question support point) old.rows (limits_at question support history) row
              +ℤ told (excess question support point) n (flat_map limits_by next) row) (sym long));
        }
      where
        sums : (new opened old s o here below all : ℤ) → opened +ℤ s ≡ old +ℤ (o +ℤ here) → new ≡ opened +ℤ (s +ℤ below)
            → all ≡ here +ℤ below → new ≡ old +ℤ (o +ℤ all)
        sums new opened old s o here below all p q r = omega (arith, ints, p, q, r)
