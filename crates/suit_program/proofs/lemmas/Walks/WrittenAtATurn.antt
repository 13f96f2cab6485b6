-- The turns of a walk: what is written at each and handed on (`over_opened`, `kept_opened`, `passed_opened`,
-- `answered_opened`).
use Rattle.std.proofs.Common.{◌≡◌, ℕ, zero, suc, ◌+◌, ◌<◌, ◌≤◌, Bool, true, false, List, [], ◌∷◌, ◌++◌, length, get_or}
use Rattle.std.proofs.Common.{map, refl, sym, ap, ◌∙◌, subst, inl, inr, arith}
use Rattle.std.specs.Prelude.{Contains, ◌==◌, ◌^◌, if◌then◌else◌, ℤ, pos, ◌+ℤ◌, ◌-ℤ◌, ◌*ℤ◌}
use Rattle.std.specs.List.{flat_map}
use Rattle.std.proofs.lemmas.Bool.{false≢true}
use Rattle.std.proofs.lemmas.Int.{ints}
use Rattle.std.proofs.lemmas.List.{length-map}
use Rattle.std.proofs.lemmas.List.Elements.{Contains-get_or, filter_agree}
use Rattle.suit_lists.proofs.Elements.{Contains-cons_cases, Contains-nil, Contains-same}
use Rattle.suit_lists.proofs.Filters.{filter_true}
use Rattle.suit_lists.proofs.Firsts.{HasFirst}
use Rattle.suit_lists.proofs.FlatMaps.{flat_map_none}
use Rattle.suit_lists.proofs.Maps.{map_same}
use Rattle.suit_cards.specs.Cards.{ClassLayout}
use Rattle.suit_game.specs.declared.question.Question.{Question}
use Rattle.suit_game.specs.Validity.{IsValid}
use Rattle.suit_classes.specs.declared.class_moves.ClassMove.{ClassMove}
use Rattle.suit_classes.specs.declared.class_moves.ClassMove.TheVariants.{ShowOut}
use Rattle.suit_classes.specs.WhatIsAllowed.{is_among}
use Rattle.suit_classes.specs.ClassPlaces.{class_after, class_decided, class_payoff, class_turn}
use Rattle.suit_classes.proofs.SameMoves.{among_contained}
use Rattle.suit_plans.specs.Masses.{is_declarers, is_defences}
use Rattle.suit_plans.specs.Properness.{sum_of}
use Rattle.suit_plans.specs.ReplyLaws.{counts_at}
use Rattle.suit_plans.proofs.MassSteps.{mass_kept}
use Rattle.suit_plans.proofs.WhoseTurns.{own_turn, their_turn}
use Rattle.suit_plans.proofs.NumberSums.{sum_nothing, sum_times, sums_exchanged}
use Rattle.suit_program.specs.declared.walks.ledger.Account.{Account}
use Rattle.suit_program.specs.declared.walks.ledger.Ledger.{Ledger}
use Rattle.suit_program.specs.declared.walks.turn.LayoutMoves.{LayoutMoves}
use Rattle.suit_program.specs.declared.walks.turn.Turn.{Turn}
use Rattle.suit_program.specs.declared.walks.turn.Turn.TheVariants as turns
use Rattle.suit_program.specs.Walks.Ledgers.{Adds, Extends, Given, credit, given_in, value_of}
use Rattle.suit_program.specs.Programs.Points.{Column, Held, Passed, Point}
use Rattle.suit_program.specs.Programs.{Answered, Limit, Shared, answered_limits, columns_at, excess, held_column}
use Rattle.suit_program.specs.Programs.{limits_at, sum_passed}
use Rattle.suit_program.specs.Walks.Reaches.{reached_indices}
use Rattle.suit_program.specs.Supports.{Support, declarer_chooses, defence_chooses, next_moves}
use Rattle.suit_program.specs.Supports.{reached_layouts, supported_moves}
use Rattle.suit_program.specs.Walks.Writing.{AnswerView, AreAccounts, AreAnswered, AreGiven, IsOpened, accounts_after}
use Rattle.suit_program.specs.Walks.Writing.{answer_seen, answered_by, answered_rows, held_at, held_columns, held_in}
use Rattle.suit_program.specs.Walks.Writing.{layout_of, mass_after, opened, owed, told}
use Rattle.suit_program.specs.Programs.Worths.{mass_at, player, worth_at}
use Rattle.suit_program.proofs.lemmas.Walks.OwedAtTheDefence.{handed, some_legal, theirs_told}
use Rattle.suit_program.proofs.lemmas.Walks.AccountsHandedOn.{answered_are, answered_owed}
use Rattle.suit_program.proofs.lemmas.Walks.AccountsByLayout.{account_there, columns_held, indices_next, rows_answered}
use Rattle.suit_program.proofs.lemmas.Supports.TurnCases.{Ended, Forced, Own, Theirs, TurnAt, mass_passed}
use Rattle.suit_program.proofs.lemmas.Supports.TurnCases.{own_supported, turn_at}
use Rattle.suit_program.proofs.lemmas.Programs.WorthByMoves.{declarer_waits, defence_waits, over_next, over_supported}
use Rattle.suit_program.proofs.lemmas.Programs.WorthByMoves.{over_turn}
use Rattle.suit_program.proofs.lemmas.Programs.WorthByMoves.{own_next, reached_short, worth_paid, worth_summed}

-- ---- numbers

credit_sum : {X : Type 0} (row : ℕ) (account : Account) (f : X → ℤ) (xs : List X)
    → credit row account (sum_of (map f xs)) ≡ sum_of (map (λ x. credit row account (f x)) xs)
credit_sum {X} row account f xs = at (account.row == row)
  where
    at : (b : Bool) → (if b then account.factor *ℤ sum_of (map f xs) else pos 0)
        ≡ sum_of (map (λ (x : X). if b then account.factor *ℤ f x else pos 0) xs)
    at true = sum_times account.factor f xs
    at false = sym (sum_nothing (λ (x : X). pos 0) xs (λ x found. refl))

-- what columns are given by their places
given_at : (given : Given) (point : Point) (f : ClassMove → Column) (moves : List ClassMove) (first index : ℕ)
    → AreGiven given point first (map f moves) → index < length moves
    → given (first + index) ≡ point.at (f (get_or moves index ShowOut))
unfolding AreGiven
given_at given point f [] first index are below = absurd (omega (arith, below))
given_at given point f (move ∷ moves) first zero are below = ap given (omega arith) ∙ are.0
given_at given point f (move ∷ moves) first (suc index) are below =
    ap given (omega arith) ∙ given_at given point f moves (suc first) index are.1 (omega (arith, below))

given_sum : (given : Given) (point : Point) (f : ClassMove → Column) (moves : List ClassMove) (first : ℕ)
    → AreGiven given point first (map f moves)
    → given_in given first (length moves) ≡ sum_of (map (λ move. point.at (f move)) moves)
unfolding AreGiven given_in sum_of
given_sum given point f [] first are = refl
given_sum given point f (move ∷ moves) first are =
    ap (λ (z : ℤ). z +ℤ given_in given (suc first) (length moves)) are.0
    ∙ ap (λ (z : ℤ). point.at (f move) +ℤ z) (given_sum given point f moves (suc first) are.1)

record IsQuiet (question : Question) (support : Support) (history : List ClassMove) : Type 0 where
  columns : columns_at question support history ≡ []
  limits : limits_at question support history ≡ []

module _ (question : Question) (support : Support) (history : List ClassMove) where
  quiet : declarer_chooses question history ≡ false
      → ((west : ClassLayout) → defence_chooses question west history ≡ false) → IsQuiet question support history
  unfolding columns_at limits_at held_column answered_limits
  quiet not_own none =
      let layouts : List (ClassLayout × ℕ) = reached_layouts question support history in
      record {
        columns = ap (λ (b : Bool). if b then map (Passed history) (supported_moves question support [] history)
            else flat_map (held_column question history) layouts) not_own
            ∙ flat_map_none (held_column question history) layouts
            (λ layout found. ap (λ (b : Bool). if b then Held layout.0 history ∷ [] else []) (none layout.0));
        limits = ap (λ (b : Bool). if b then Shared history ∷ []
            else flat_map (answered_limits question support history) layouts) not_own
            ∙ flat_map_none (answered_limits question support history) layouts
            (λ layout found. quiet_rows layout.0 (none layout.0));
      }
    where
      quiet_rows : (west : ClassLayout) → defence_chooses question west history ≡ false
          → (if defence_chooses question west history
          then map (Answered west history) (supported_moves question support west history) else []) ≡ []
      quiet_rows west not = ap (λ (b : Bool). if b
          then map (Answered west history) (supported_moves question support west history) else []) not

  quiet_extends : IsQuiet question support history → (old new : Ledger) → Extends old new 0 0
      → Extends old new (length (columns_at question support history)) (length (limits_at question support history))
  quiet_extends none old new extends =
      subst (λ (l : List Column). Extends old new (length l) (length (limits_at question support history)))
      (sym none.columns)
      (subst (λ (l : List Limit). Extends old new 0 (length l)) (sym none.limits) extends)

  quiet_told : IsQuiet question support history → (point : Point) (first row : ℕ)
      → told (excess question support point) first (limits_at question support history) row ≡ pos 0
  unfolding told
  quiet_told none point first row =
      ap (λ (l : List Limit). told (excess question support point) first l row) none.limits

  module _ (valid : IsValid question) (mass : ℕ) (rows : ℕ) (accounts : List Account)
      (are : AreAccounts question support history rows accounts) where
    abbrev owed_after : Turn → Point → ℕ → ℤ
    owed_after turn point row =
        sum_of (map (λ move. owed question support point (history ++ move ∷ []) (accounts_after turn accounts move) row)
        (next_moves question support history))

    -- ---- where play is over

    over_owed : class_decided (class_after question history) ≡ true → (point : Point) (row : ℕ)
        → owed question support point history accounts row
        ≡ sum_of (map (λ (account : Account). credit row account (pos (class_payoff (class_after question history))
        *ℤ mass_at question support point history)) accounts)
    over_owed over point row =
        ap sum_of (map_same (λ (account : Account). credit row account
        (worth_at question support point (counts_at question account.index) history))
        (λ (account : Account). credit row account (pos (class_payoff (class_after question history))
        *ℤ mass_at question support point history)) accounts
        (λ account found.
        let there = account_there question support history rows accounts are account found in
        let west : ClassLayout = counts_at question account.index in
        ap (credit row account) (worth_paid question support point west history
        (reached_short question support valid (layout_of question account) there.listed history there.reached)
        (defence_waits question history (over_turn question history over).1 west)
        (over_supported question support history over west))))

    no_next : class_decided (class_after question history) ≡ true → (index : ℕ)
        → index < length (next_moves question support history) → ⊥
    no_next over index below =
        let none = ap (λ (l : List ClassMove). length l) (over_next question support history over) in
        omega (arith, none, below)

    pub over_opened : class_decided (class_after question history) ≡ true → (old new : Ledger) → Extends old new 0 0
        → Adds old new (λ given row. sum_of (map (λ (account : Account). credit row account
        (pos (class_payoff (class_after question history)) *ℤ given mass)) accounts))
        → IsOpened question support history mass accounts old new turns.Kept
    unfolding sum_of
    over_opened over old new extends adds =
        let none = quiet (declarer_waits question history (over_turn question history over).0)
        (defence_waits question history (over_turn question history over).1) in
        let all = over_next question support history over in
        record {
          extends = quiet_extends none old new extends;
          masses = λ point given are same index below. absurd (no_next over index below);
          few = λ index below. absurd (no_next over index below);
          after = λ move found. absurd (Contains-nil move
              (Contains-same move all found));
          values = λ point given are same row.
              over_sum (value_of new given row) (value_of old given row) (owed_after turns.Kept point row)
              (owed question support point history accounts row)
              (told (excess question support point) old.rows (limits_at question support history) row)
              (sum_of (map (λ (account : Account). credit row account
              (pos (class_payoff (class_after question history)) *ℤ given mass)) accounts))
              (ap (λ (l : List ClassMove). sum_of (map (λ move. owed question support point (history ++ move ∷ [])
              accounts row) l)) all)
              (quiet_told none point old.rows row) (adds.values given row)
              (ap (λ (z : ℤ). sum_of (map (λ (account : Account). credit row account
              (pos (class_payoff (class_after question history)) *ℤ z)) accounts)) same
              ∙ sym (over_owed over point row));
        }
      where
        over_sum : (now before s o t a : ℤ) → s ≡ pos 0 → t ≡ pos 0 → now ≡ before +ℤ a → a ≡ o
            → now +ℤ s ≡ before +ℤ (o +ℤ t)
        over_sum now before s o t a p q r u = omega (arith, ints, p, q, r, u)

    -- ---- a turn of declarer's

    module _ (not_over : class_decided (class_after question history) ≡ false)
        (own : is_declarers (class_turn (class_after question history)) ≡ true)
        (some : (layout : ClassLayout × ℕ) × Contains (reached_layouts question support history) layout) where
      abbrev mine : List ClassMove
      mine = supported_moves question support [] history

      not_theirs : (west : ClassLayout) → defence_chooses question west history ≡ false
      not_theirs west = defence_waits question history (own_turn (class_after question history) own).1 west

      mine_next : next_moves question support history ≡ mine
      mine_next = own_next question support history not_over own some.0 some.1

      some_mine : (account : Account) → Contains accounts account
          → TurnAt question support (counts_at question account.index) history → HasFirst mine
      some_mine account found (Ended none nothing not) =
          absurd (some_legal question support history valid not_over account
          (account_there question support history rows accounts are account found) none)
      some_mine account found (Forced move alone only not same) = record {
        first = move;
        more = [];
        parts = sym (own_supported question support (counts_at question account.index) history not_over own) ∙ only;
      }
      some_mine account found (Own chooses not same first) = first
      some_mine account found (Theirs chooses first same) =
          absurd (false≢true (sym (not_theirs (counts_at question account.index)) ∙ chooses))

      -- the accounts are owed what they are after the moves
      own_owed : (point : Point) (row : ℕ)
          → sum_of (map (λ move. owed question support point (history ++ move ∷ []) accounts row)
          (next_moves question support history)) ≡ owed question support point history accounts row
      own_owed point row =
          let worth : Account → ClassMove → ℤ = λ account move.
          worth_at question support point (counts_at question account.index) (history ++ move ∷ []) in
          ap (λ (l : List ClassMove). sum_of (map (λ move. owed question support point (history ++ move ∷ []) accounts
          row) l)) mine_next
          ∙ sums_exchanged (λ move account. credit row account (worth account move)) mine accounts
          ∙ ap sum_of (map_same (λ account. sum_of (map (λ move. credit row account (worth account move)) mine))
          (λ (account : Account). credit row account
          (worth_at question support point (counts_at question account.index) history)) accounts
          (λ account found.
          let there = account_there question support history rows accounts are account found in
          let west : ClassLayout = counts_at question account.index in
          sym (credit_sum row account (worth account) mine)
          ∙ ap (credit row account) (sym (worth_summed question support point west history
          (reached_short question support valid (layout_of question account) there.listed history there.reached)
          mine (not_theirs west) (own_supported question support west history not_over own)
          (some_mine account found (turn_at question support west history))))))

      -- and they are of the same class layouts
      own_after : (all : ℕ) → rows ≤ all → (move : ClassMove) → Contains (next_moves question support history) move
          → AreAccounts question support (history ++ move ∷ []) all accounts
      own_after all more move found = record {
        indices = are.indices
            ∙ sym (filter_true (reached_indices question support history))
            ∙ filter_agree (λ index. true)
            (λ index. is_among (supported_moves question support (counts_at question index) history) move)
            (λ index. sym (ap (λ (l : List ClassMove). is_among l move)
            (own_supported question support (counts_at question index) history not_over own)
            ∙ among_contained mine move (Contains-same move mine_next found)))
            (reached_indices question support history)
            ∙ indices_next question support history move;
        fit = λ account held.
            let fit = are.fit account held in
            record { row = let row = fit.row in omega (arith, row, more); low = fit.low; few = fit.few };
      }

      kept_sum : (now before s o t : ℤ) → s ≡ o → t ≡ pos 0 → now ≡ before → now +ℤ s ≡ before +ℤ (o +ℤ t)
      kept_sum now before s o t p q r = omega (arith, ints, p, q, r)

      alone_mass : declarer_chooses question history ≡ false → TurnAt question support [] history → (point : Point)
          (move : ClassMove) → Contains mine move
          → mass_at question support point (history ++ move ∷ []) ≡ mass_at question support point history
      alone_mass waits (Ended none nothing not) point move found =
          absurd (Contains-nil move (Contains-same move nothing found))
      alone_mass waits (Forced only alone is not same) point move found =
          elim (Contains-cons_cases only [] move (Contains-same move is found)) [
            | inl here ↦ subst (λ (m : ClassMove). mass_at question support point (history ++ m ∷ [])
                ≡ mass_at question support point history) here (same point)
            | inr there ↦ absurd (Contains-nil move there)
          ]
      alone_mass waits (Own chooses not same first) point move found = absurd (false≢true (sym waits ∙ chooses))
      alone_mass waits (Theirs chooses first same) point move found =
          absurd (false≢true (sym (not_theirs []) ∙ chooses))

      next_found : (index : ℕ) → index < length (next_moves question support history)
          → Contains mine (get_or (next_moves question support history) index ShowOut)
      next_found index below =
          Contains-same (get_or (next_moves question support history) index ShowOut)
          mine_next (Contains-get_or (next_moves question support history) index ShowOut below)

      pub kept_opened : declarer_chooses question history ≡ false → (old : Ledger) → rows ≡ old.rows → mass < 2 ^ 32
          → IsOpened question support history mass accounts old old turns.Kept
      kept_opened waits old same_rows few =
          let none = quiet waits not_theirs in
          record {
            extends = quiet_extends none old old (record {
              columns = omega arith;
              rows = omega arith;
              within = λ has. has;
            });
            masses = λ point given are same index below. same
                ∙ sym (alone_mass waits (turn_at question support [] history) point
                (get_or (next_moves question support history) index ShowOut) (next_found index below));
            few = λ index below. few;
            after = λ move found. own_after old.rows (omega (arith, same_rows)) move found;
            values = λ point given are same row.
                kept_sum (value_of old given row) (value_of old given row) (owed_after turns.Kept point row)
                (owed question support point history accounts row)
                (told (excess question support point) old.rows (limits_at question support history) row)
                (own_owed point row) (quiet_told none point old.rows row) refl;
          }

      pub passed_opened : declarer_chooses question history ≡ true → (old new : Ledger) → rows ≡ old.rows
          → new.columns < 2 ^ 32 → Extends old new (length mine) 1
          → Adds old new (λ given row. if old.rows == row
          then given_in given old.columns (length mine) -ℤ given mass else pos 0)
          → IsOpened question support history mass accounts old new (turns.Passed old.columns)
      unfolding columns_at limits_at told excess
      passed_opened chooses old new same_rows few extends adds =
          let own_columns : columns_at question support history ≡ map (Passed history) mine =
          ap (λ (b : Bool). if b then map (Passed history) mine
          else flat_map (held_column question history) (reached_layouts question support history)) chooses in
          let own_limits : limits_at question support history ≡ Shared history ∷ [] =
          ap (λ (b : Bool). if b then Shared history ∷ []
          else flat_map (answered_limits question support history) (reached_layouts question support history)) chooses
          in
          let grown = extends.rows in
          let wide = extends.columns in
          let count = ap (λ (l : List ClassMove). length l) mine_next in
          record {
            extends = subst (λ (l : List Column). Extends old new (length l)
                (length (limits_at question support history))) (sym own_columns)
                (subst (λ (l : List Limit). Extends old new (length (map (Passed history) mine)) (length l))
                (sym own_limits) (subst (λ (n : ℕ). Extends old new n 1) (sym (length-map mine (Passed history)))
                extends));
            masses = λ point given given_are same index below.
                given_at given point (Passed history) mine old.columns index
                (subst (AreGiven given point old.columns) own_columns given_are) (omega (arith, below, count))
                ∙ ap (λ (l : List ClassMove). point.at (Passed history (get_or l index ShowOut))) (sym mine_next)
                ∙ sym (mass_passed question support point history
                (get_or (next_moves question support history) index ShowOut) chooses (next_found index below));
            few = λ index below. omega (arith, below, count, wide, few);
            after = λ move found. own_after new.rows (omega (arith, same_rows, grown)) move found;
            values = λ point given given_are same row.
                passed_sum (old.rows == row) (value_of new given row) (value_of old given row)
                (owed_after (turns.Passed old.columns) point row)
                (owed question support point history accounts row)
                (given_in given old.columns (length mine)) (given mass)
                (sum_passed question support point history) (mass_at question support point history)
                (told (excess question support point) old.rows (limits_at question support history) row)
                (own_owed point row) (adds.values given row)
                (given_sum given point (Passed history) mine old.columns
                (subst (AreGiven given point old.columns) own_columns given_are)) same
                (ap (λ (l : List Limit). told (excess question support point) old.rows l row) own_limits);
          }
        where
          passed_sum : (b : Bool) (now before s o sum mass passed at t : ℤ) → s ≡ o
              → now ≡ before +ℤ (if b then sum -ℤ mass else pos 0) → sum ≡ passed → mass ≡ at
              → t ≡ (if b then passed -ℤ at else pos 0) +ℤ pos 0 → now +ℤ s ≡ before +ℤ (o +ℤ t)
          passed_sum true now before s o sum mass passed at t p q r u v = omega (arith, ints, p, q, r, u, v)
          passed_sum false now before s o sum mass passed at t p q r u v = omega (arith, ints, p, q, r, u, v)

    -- ---- a turn of the defence

    pub answered_opened : class_decided (class_after question history) ≡ false
        → is_declarers (class_turn (class_after question history)) ≡ false → (old new : Ledger)
        → (answers : List LayoutMoves) → (turn : Turn) → ((move : ClassMove) → accounts_after turn accounts move
        ≡ answered_by (map answer_seen answers) move) → ((index : ℕ) → mass_after turn mass index ≡ mass)
        → rows ≡ old.rows → mass < 2 ^ 32
        → AreAnswered question support history accounts old new answers
        → IsOpened question support history mass accounts old new turn
    unfolding columns_at limits_at
    answered_opened not_over not_own old new answers turn by stays same_rows few answered =
        let layouts : List (ClassLayout × ℕ) = reached_layouts question support history in
        let waits = declarer_waits question history not_own in
        let all : List AnswerView = opened question support history rows accounts in
        let seen : map answer_seen answers ≡ all =
        answered.seen ∙ ap (λ (n : ℕ). opened question support history n accounts) (sym same_rows) in
        let their_columns : columns_at question support history ≡ held_columns question history accounts =
        ap (λ (b : Bool). if b then map (Passed history) (supported_moves question support [] history)
        else flat_map (held_column question history) layouts) waits
        ∙ sym (columns_held question support history rows accounts are) in
        let their_limits : limits_at question support history ≡ answered_rows question support history accounts =
        ap (λ (b : Bool). if b then Shared history ∷ []
        else flat_map (answered_limits question support history) layouts) waits
        ∙ sym (rows_answered question support history rows accounts are) in
        let by_all : (move : ClassMove) → accounts_after turn accounts move ≡ answered_by all move =
        λ move. by move ∙ ap (λ (l : List AnswerView). answered_by l move) seen in
        let grown = answered.extends.rows in
        record {
          extends = subst (λ (l : List Column). Extends old new (length l)
              (length (limits_at question support history))) (sym their_columns)
              (subst (λ (l : List Limit). Extends old new (length (held_columns question history accounts)) (length l))
              (sym their_limits) answered.extends);
          masses = λ point given given_are same index below.
              ap given (stays index) ∙ same
              ∙ sym (mass_kept question (player question support point) history
              (get_or (next_moves question support history) index ShowOut) not_own);
          few = λ index below. subst (λ (n : ℕ). n < 2 ^ 32) (sym (stays index)) few;
          after = λ move found.
              subst (λ (l : List Account). AreAccounts question support (history ++ move ∷ []) new.rows l)
              (sym (by_all move))
              (subst (λ (n : ℕ). AreAccounts question support (history ++ move ∷ []) n (answered_by all move))
              (ap (λ (n : ℕ). n + length (answered_rows question support history accounts)) same_rows ∙ sym grown)
              (answered_are question support history valid not_over not_own rows accounts are move));
          values = λ point given given_are same row.
              answered_sum (value_of new given row) (value_of old given row) (owed_after turn point row)
              (owed question support point history accounts row) (held_in question point history accounts row)
              (told (held_at point) old.rows (answered_rows question support history accounts) row)
              (sum_of (map (handed question support point history row) all))
              (told (excess question support point) old.rows (answered_rows question support history accounts) row)
              (told (excess question support point) old.rows (limits_at question support history) row)
              (answered.values point given (subst (AreGiven given point old.columns) their_columns given_are) row)
              (ap sum_of (map_same (λ move. owed question support point (history ++ move ∷ [])
              (accounts_after turn accounts move) row)
              (λ move. owed question support point (history ++ move ∷ []) (answered_by all move) row)
              (next_moves question support history)
              (λ move found. ap (λ (l : List Account). owed question support point (history ++ move ∷ []) l row)
              (by_all move)))
              ∙ answered_owed question support history valid not_over not_own rows accounts are point row)
              (ap (λ (n : ℕ). held_in question point history accounts row
              +ℤ (told (held_at point) n (answered_rows question support history accounts) row
              +ℤ sum_of (map (handed question support point history row) all))) (sym same_rows)
              ∙ theirs_told question support point history row valid not_over not_own accounts rows
              (account_there question support history rows accounts are)
              ∙ ap (λ (n : ℕ). owed question support point history accounts row
              +ℤ told (excess question support point) n (answered_rows question support history accounts) row)
              same_rows)
              (ap (λ (l : List Limit). told (excess question support point) old.rows l row) their_limits);
        }
      where
        answered_sum : (now before s o h t f e l : ℤ) → now ≡ before +ℤ (h +ℤ t) → s ≡ f
            → h +ℤ (t +ℤ f) ≡ o +ℤ e → l ≡ e → now +ℤ s ≡ before +ℤ (o +ℤ l)
        answered_sum now before s o h t f e l p q r u = omega (arith, ints, p, q, r, u)

-- the columns at a turn of the defence, and the rows
pub their_columns : (question : Question) (support : Support) (history : List ClassMove) (rows : ℕ)
    (accounts : List Account) → AreAccounts question support history rows accounts
    → is_defences (class_turn (class_after question history)) ≡ true
    → columns_at question support history ≡ held_columns question history accounts
unfolding columns_at
their_columns question support history rows accounts are theirs =
    ap (λ (b : Bool). if b then map (Passed history) (supported_moves question support [] history)
    else flat_map (held_column question history) (reached_layouts question support history))
    (declarer_waits question history (their_turn (class_after question history) theirs).1)
    ∙ sym (columns_held question support history rows accounts are)

pub their_rows : (question : Question) (support : Support) (history : List ClassMove) (rows : ℕ)
    (accounts : List Account) → AreAccounts question support history rows accounts
    → is_defences (class_turn (class_after question history)) ≡ true
    → limits_at question support history ≡ answered_rows question support history accounts
unfolding limits_at
their_rows question support history rows accounts are theirs =
    ap (λ (b : Bool). if b then Shared history ∷ []
    else flat_map (answered_limits question support history) (reached_layouts question support history))
    (declarer_waits question history (their_turn (class_after question history) theirs).1)
    ∙ sym (rows_answered question support history rows accounts are)
