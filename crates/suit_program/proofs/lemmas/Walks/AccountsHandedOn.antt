-- The accounts that a turn of the defence hands on: those of the class layouts in which its moves are reached
-- (`answered_are`), which share out what is handed on (`answered_owed`).
use Rattle.std.proofs.Common.{◌≡◌, ℕ, suc, ◌+◌, ◌<◌, ◌≤◌, Bool, true, false, cond, List, [], ◌∷◌, ◌++◌, length, map}
use Rattle.std.proofs.Common.{refl, sym, ap, ◌∙◌, subst, inl, inr, arith}
use Rattle.std.specs.Prelude.{Contains, filter, if◌then◌else◌, nat_lt, ℤ, negsuc}
use Rattle.std.specs.List.{AllByRecursion}
use Rattle.std.proofs.lemmas.Bool.{and_parts, false≢true}
use Rattle.std.proofs.lemmas.Int.{ints}
use Rattle.std.proofs.lemmas.List.{length-append, length-map}
use Rattle.suit_lists.proofs.Elements.{Contains-cons_cases, Contains-first, Contains-later, Contains-nil, each_at}
use Rattle.suit_lists.proofs.Filters.{kept_parts}
use Rattle.suit_lists.proofs.Maps.{Contains-map_from, map_same, map_twice}
use Rattle.suit_cards.specs.Cards.{ClassLayout}
use Rattle.suit_game.specs.declared.question.Question.{Question}
use Rattle.suit_game.specs.Validity.{IsValid}
use Rattle.suit_classes.specs.declared.class_moves.ClassMove.{ClassMove}
use Rattle.suit_classes.specs.WhatIsAllowed.{is_among}
use Rattle.suit_classes.specs.ClassMoves.{same_class_move}
use Rattle.suit_classes.specs.ClassPlaces.{class_after, class_decided, class_turn}
use Rattle.suit_classes.proofs.SameMoves.{among-Contains, same_move-itself}
use Rattle.suit_plans.specs.Masses.{is_declarers}
use Rattle.suit_plans.specs.Properness.{sum_of}
use Rattle.suit_plans.specs.ReplyLaws.{counts_at}
use Rattle.suit_program.specs.declared.walks.ledger.Account.{Account}
use Rattle.suit_program.specs.Walks.Ledgers.{IsFit, credit}
use Rattle.suit_program.specs.Programs.Points.{Point}
use Rattle.suit_program.specs.Programs.{Answered, answered_limits}
use Rattle.suit_program.specs.Supports.{Support, declarer_chooses, defence_chooses, legal_moves, next_moves}
use Rattle.suit_program.specs.Supports.{supported_moves}
use Rattle.suit_program.specs.Walks.Writing.{AnswerView, AreAccounts, advanced, answered_by, answered_rows, layout_of}
use Rattle.suit_program.specs.Walks.Writing.{opened, owed, place_in}
use Rattle.suit_program.specs.Programs.Worths.{worth_at}
use Rattle.suit_program.proofs.lemmas.Walks.OwedAtTheDefence.{handed, some_legal}
use Rattle.suit_program.proofs.lemmas.Walks.AccountsByLayout.{account_there, indices_next}
use Rattle.suit_program.proofs.lemmas.Supports.TurnCases.{Ended, Forced, Own, Theirs, TurnAt, turn_at}
use Rattle.suit_program.proofs.lemmas.Supports.SumsByPlay.{next_held}
use Rattle.suit_program.proofs.lemmas.Walks.OwedIsSharedOut.{shared_out}

place_step : (b : Bool) (n all : ℕ) → (b ≡ false → n < all) → (if b then 0 else suc n) < suc all
place_step true n all less = omega arith
place_step false n all less = let is = less refl in omega (arith, is)

place_within : (moves : List ClassMove) (move : ClassMove) → Contains moves move → place_in moves move < length moves
unfolding place_in
place_within [] move found = absurd (Contains-nil move found)
place_within (first ∷ moves) move found =
    place_step (same_class_move first move) (place_in moves move) (length moves)
    (λ other. elim (Contains-cons_cases first moves move found) [
      | inl here ↦ absurd (false≢true (sym other
          ∙ subst (λ (m : ClassMove). same_class_move first m ≡ true) here (same_move-itself first)))
      | inr there ↦ place_within moves move there
    ])

-- how many moves stand before one of them
pub placed_below : (moves : List ClassMove) (move : ClassMove) → is_among moves move ≡ true
    → place_in moves move < length moves
placed_below moves move among = place_within moves move (among-Contains moves move among)

module _ (question : Question) (support : Support) (history : List ClassMove) where
  -- what is opened for an account
  abbrev opened_one : Account → ℕ → AnswerView
  opened_one account first = (
    if defence_chooses question (counts_at question account.index) history
        then record { index = account.index; row = first; factor = negsuc 0 }
        else account,
    supported_moves question support (counts_at question account.index) history,
  )

  abbrev rows_of : Account → ℕ
  rows_of account = length (answered_limits question support history (layout_of question account))

  -- what holds of each that is opened
  opened_each : (P : AnswerView → Type 0) (accounts : List Account) (first : ℕ)
      → ((account : Account) (number : ℕ) → Contains accounts account → first ≤ number
      → number + rows_of account ≤ first + length (answered_rows question support history accounts)
      → P (opened_one account number)) → AllByRecursion P (opened question support history first accounts)
  unfolding opened
  opened_each P [] first each = tt
  opened_each P (account ∷ accounts) first each =
      let rest : ℕ = length (answered_rows question support history accounts) in
      let all = length-append (answered_limits question support history (layout_of question account))
      (answered_rows question support history accounts) in (
        each account first (Contains-first account accounts) (omega arith) (omega (arith, all)),
        opened_each P accounts (first + rows_of account)
            (λ other number found from to. each other number (Contains-later account accounts other found)
            (omega (arith, from)) (omega (arith, to, all))),
      )

  kept_index : (b : Bool) (account other : Account) → other.index ≡ account.index
      → (if b then other else account).index ≡ account.index
  kept_index true account other same = same
  kept_index false account other same = refl

  index_one : (account : Account) (first : ℕ) → (opened_one account first).0.index ≡ account.index
  index_one account first =
      kept_index (defence_chooses question (counts_at question account.index) history) account
      (record { index = account.index; row = first; factor = negsuc 0 }) refl

  -- the indices of the accounts after a move
  opened_indices : (accounts : List Account) (first : ℕ) (move : ClassMove)
      → map (λ (answer : AnswerView). answer.0.index)
      (filter (λ (answer : AnswerView). is_among answer.1 move) (opened question support history first accounts))
      ≡ filter (λ index. is_among (supported_moves question support (counts_at question index) history) move)
      (map (λ (account : Account). account.index) accounts)
  unfolding opened
  opened_indices [] first move = refl
  opened_indices (account ∷ accounts) first move =
      one_more (is_among (supported_moves question support (counts_at question account.index) history) move)
      (opened_one account first)
      (filter (λ (answer : AnswerView). is_among answer.1 move)
      (opened question support history (first + rows_of account) accounts)) account.index
      (filter (λ index. is_among (supported_moves question support (counts_at question index) history) move)
      (map (λ (other : Account). other.index) accounts)) (index_one account first)
      (opened_indices accounts (first + rows_of account) move)
    where
      one_more : (b : Bool) (answer : AnswerView) (answers : List AnswerView) (index : ℕ) (indices : List ℕ)
          → answer.0.index ≡ index → map (λ (other : AnswerView). other.0.index) answers ≡ indices
          → map (λ (other : AnswerView). other.0.index) (cond b (answer ∷ answers) answers)
          ≡ cond b (index ∷ indices) indices
      one_more true answer answers index indices here there =
          ap (λ (n : ℕ). n ∷ map (λ (other : AnswerView). other.0.index) answers) here
          ∙ ap (λ (l : List ℕ). index ∷ l) there
      one_more false answer answers index indices here there = there

  fit_new : (index number all : ℕ) (moves : List ClassMove) (move : ClassMove) → is_among moves move ≡ true
      → number + length moves ≤ all
      → IsFit all (advanced move (record { index = index; row = number; factor = negsuc 0 }, moves))
  fit_new index number all moves move among within = record {
    row = let place = placed_below moves move among in omega (arith, place, within);
    low = omega (arith, ints);
    few = omega (arith, ints);
  }

  fit_old : (account : Account) (rows all : ℕ) (only : ClassMove) (moves : List ClassMove) (move : ClassMove)
      → moves ≡ only ∷ [] → is_among moves move ≡ true → rows ≤ all → IsFit rows account
      → IsFit all (advanced move (account, moves))
  fit_old account rows all only moves move alone among within fit = record {
    row = let place = placed_below moves move among in let one = ap (λ (l : List ClassMove). length l) alone in
        let row = fit.row in omega (arith, place, one, row, within);
    low = fit.low;
    few = fit.few;
  }

  module _ (valid : IsValid question) (not_over : class_decided (class_after question history) ≡ false)
      (not_own : is_declarers (class_turn (class_after question history)) ≡ false) (rows : ℕ)
      (accounts : List Account) (are : AreAccounts question support history rows accounts) where
    -- the account of a move is of a row that there is
    fit_one : (account : Account) (number all : ℕ) → Contains accounts account → rows ≤ number
        → number + rows_of account ≤ all → rows ≤ all → (move : ClassMove)
        → TurnAt question support (counts_at question account.index) history
        → is_among (opened_one account number).1 move ≡ true
        → IsFit all (advanced move (opened_one account number))
    unfolding answered_limits declarer_chooses
    fit_one account number all found from to within move (Ended none nothing not) among =
        absurd (some_legal question support history valid not_over account
        (account_there question support history rows accounts are account found) none)
    fit_one account number all found from to within move (Forced only alone is not same) among =
        let west : ClassLayout = counts_at question account.index in
        let moves : List ClassMove = supported_moves question support west history in
        subst (λ (b : Bool). IsFit all (advanced move (
          if b then record { index = account.index; row = number; factor = negsuc 0 } else account,
          moves,
        ))) (sym not.1) (fit_old account rows all only moves move is among within (are.fit account found))
    fit_one account number all found from to within move (Own chooses not same some) among =
        absurd (false≢true (sym not_own
        ∙ (and_parts (is_declarers (class_turn (class_after question history)))
        (nat_lt 1 (length (legal_moves question [] history))) chooses).0))
    fit_one account number all found from to within move (Theirs chooses some same) among =
        let west : ClassLayout = counts_at question account.index in
        let moves : List ClassMove = supported_moves question support west history in
        let count : rows_of account ≡ length moves =
        ap (λ (b : Bool). length (if b then map (Answered west history) moves else [])) chooses
        ∙ length-map moves (Answered west history) in
        subst (λ (b : Bool). IsFit all (advanced move (
          if b then record { index = account.index; row = number; factor = negsuc 0 } else account,
          moves,
        ))) (sym chooses)
        (fit_new account.index number all moves move among (omega (arith, to, count)))

    -- the accounts after a move
    pub answered_are : (move : ClassMove)
        → AreAccounts question support (history ++ move ∷ [])
        (rows + length (answered_rows question support history accounts))
        (answered_by (opened question support history rows accounts) move)
    answered_are move =
        let all : ℕ = rows + length (answered_rows question support history accounts) in
        let answers : List AnswerView = opened question support history rows accounts in
        let goes : AnswerView → Bool = λ answer. is_among answer.1 move in
        let fits : AllByRecursion (λ (answer : AnswerView). is_among answer.1 move ≡ true
        → IsFit all (advanced move answer)) answers =
        opened_each (λ (answer : AnswerView). is_among answer.1 move ≡ true → IsFit all (advanced move answer))
        accounts rows (λ account number found from to among. fit_one account number all found from to (omega arith) move
        (turn_at question support (counts_at question account.index) history) among) in
        record {
          indices = map_twice (λ (account : Account). account.index) (advanced move) (filter goes answers)
              ∙ opened_indices accounts rows move
              ∙ ap (filter (λ index. is_among (supported_moves question support (counts_at question index) history)
              move)) are.indices
              ∙ indices_next question support history move;
          fit = λ account found.
              let from = Contains-map_from (advanced move) (filter goes answers) account found in
              let kept = kept_parts goes answers from.0 from.1 in
              subst (IsFit all) from.2
              (each_at (λ (answer : AnswerView). is_among answer.1 move ≡ true → IsFit all (advanced move answer))
              answers from.0 fits kept.0 kept.1);
        }

    -- they share out what is handed on
    pub answered_owed : (point : Point) (row : ℕ)
        → sum_of (map (λ move. owed question support point (history ++ move ∷ [])
        (answered_by (opened question support history rows accounts) move) row) (next_moves question support history))
        ≡ sum_of (map (handed question support point history row) (opened question support history rows accounts))
    answered_owed point row =
        let answers : List AnswerView = opened question support history rows accounts in
        let all : List ClassMove = next_moves question support history in
        let worth : ClassMove → Account → ℤ = λ move account.
        credit row account (worth_at question support point (counts_at question account.index) (history ++ move ∷ []))
        in
        let g : ClassMove → AnswerView → ℤ = λ move answer. worth move (advanced move answer) in
        let listed : AllByRecursion (λ (answer : AnswerView). filter (is_among answer.1) all ≡ answer.1) answers =
        opened_each (λ (answer : AnswerView). filter (is_among answer.1) all ≡ answer.1) accounts rows
        (λ account number found from to. next_held question support history (layout_of question account)
        (account_there question support history rows accounts are account found).held) in
        ap sum_of (map_same (λ move. owed question support point (history ++ move ∷ []) (answered_by answers move) row)
        (λ move. sum_of (map (g move) (filter (λ (answer : AnswerView). is_among answer.1 move) answers))) all
        (λ move found. ap sum_of (map_twice (worth move) (advanced move)
        (filter (λ (answer : AnswerView). is_among answer.1 move) answers))))
        ∙ shared_out (λ (answer : AnswerView). answer.1) g answers all
        (λ answer found. each_at (λ (other : AnswerView). filter (is_among other.1) all ≡ other.1) answers answer listed
        found)
