-- The walk that writes the program of a support down, by what the rows come to at the points. It serves the contracts
-- of private functions alone.
use Rattle.std.specs.Prelude.{◌≡◌, ⊤, ℕ, suc, ◌+◌, ◌-◌, ◌<◌, ◌≤◌, ◌==◌, ◌^◌, List, [], ◌∷◌, ◌++◌, Contains, map}
use Rattle.std.specs.Prelude.{filter}
use Rattle.std.specs.Prelude.{if◌then◌else◌, true, length, get_or, ℤ, pos, negsuc, ◌+ℤ◌}
use Rattle.std.specs.List.{flat_map}
use Rattle.suit_cards.specs.Cards.{ClassLayout}
use Rattle.suit_game.specs.declared.question.Question.{Question}
use Rattle.suit_game.specs.declared.limits.TheConstants.{MOST_MOVES, MOST_SUPPORT}
use Rattle.suit_classes.specs.declared.class_moves.ClassMove.{ClassMove}
use Rattle.suit_classes.specs.declared.class_moves.ClassMove.TheVariants.{ShowOut}
use Rattle.suit_classes.specs.WhatIsAllowed.{is_among}
use Rattle.suit_classes.specs.ClassMoves.{ClassHistory, same_class_move}
use Rattle.suit_classes.specs.ClassPlaces.{class_after, class_turn}
use Rattle.suit_plans.specs.Masses.{is_defences}
use Rattle.suit_plans.specs.Properness.{sum_of}
use Rattle.suit_plans.specs.ReplyLaws.{counts_at}
use Rattle.suit_program.specs.declared.walks.ledger.Account.{Account}
use Rattle.suit_program.specs.declared.walks.ledger.Ledger.{Ledger}
use Rattle.suit_program.specs.declared.walks.reach.Reach.{Reach}
use Rattle.suit_program.specs.declared.walks.reach.ReachedLayout.{ReachedLayout}
use Rattle.suit_program.specs.declared.walks.turn.LayoutMoves.{LayoutMoves}
use Rattle.suit_program.specs.declared.walks.turn.Turn.{Turn}
use Rattle.suit_program.specs.declared.walks.turn.Turn.TheVariants as turns
use Rattle.suit_program.specs.Walks.Ledgers.{Extends, Given, IsFit, credit, value_of}
use Rattle.suit_program.specs.Programs.Points.{Column, Point}
use Rattle.suit_program.specs.Programs.{Answered, Limit, Shared, answered_limits, columns_at, excess, held_column}
use Rattle.suit_program.specs.Programs.{limits_at}
use Rattle.suit_program.specs.Programs.Points.{Held}
use Rattle.suit_program.specs.Walks.Reaches.{IsReach, reached_indices}
use Rattle.suit_program.specs.Supports.{Support, defence_chooses, histories_from, layouts_of, next_moves}
use Rattle.suit_program.specs.Supports.{supported_moves}
use Rattle.suit_program.specs.Programs.Worths.{mass_at, worth_at}

-- ---- columns and rows

-- the columns at a class history and at those that go on from it by at most so many moves
unfoldable pub columns_from : Question → Support → ℕ → ClassHistory → List Column
columns_from question support more history =
    flat_map (columns_at question support) (histories_from question support more history)

-- the rows
unfoldable pub limits_from : Question → Support → ℕ → ClassHistory → List Limit
limits_from question support more history =
    flat_map (limits_at question support) (histories_from question support more history)

-- numbers are those that a point gives some columns, of which the first has this number
unfoldable pub AreGiven : Given → Point → ℕ → List Column → Type 0
AreGiven given point first [] = ⊤
AreGiven given point first (column ∷ columns) =
    (given first ≡ point.at column) × AreGiven given point (suc first) columns

-- numbers for some rows, of which the first has this number
unfoldable pub told : (Limit → ℤ) → ℕ → List Limit → ℕ → ℤ
told number first [] row = pos 0
told number first (limit ∷ limits) row =
    (if first == row then number limit else pos 0) +ℤ told number (suc first) limits row

-- ---- accounts

-- the class layout of an account, with its weight
abbrev pub layout_of : Question → Account → ClassLayout × ℕ
layout_of question account = get_or (layouts_of question) account.index ([], 0)

-- what accounts add to a row for what their class layouts are worth at a class history
abbrev pub owed : Question → Support → Point → ClassHistory → List Account → ℕ → ℤ
owed question support point history accounts row =
    sum_of (map (λ (account : Account). credit row account
    (worth_at question support point (counts_at question account.index) history)) accounts)

-- accounts of the class layouts in which a class history is reached, with so many rows
pub record AreAccounts (question : Question) (support : Support) (history : ClassHistory) (rows : ℕ)
    (accounts : List Account) : Type 0 where
  pub indices : map (λ (account : Account). account.index) accounts ≡ reached_indices question support history
  pub fit : (account : Account) → Contains accounts account → IsFit rows account

-- ---- turns

-- how many moves stand before one
unfoldable pub place_in : List ClassMove → ClassMove → ℕ
place_in [] move = 0
place_in (first ∷ moves) move = if same_class_move first move then 0 else suc (place_in moves move)

-- the moves in a class layout, and the account of the first of them
abbrev pub AnswerView : Type 0
AnswerView = Account × List ClassMove

abbrev pub answer_seen : LayoutMoves → AnswerView
answer_seen answer = (answer.account, answer.moves.items)

-- the account of one of them
abbrev pub advanced : ClassMove → AnswerView → Account
advanced move answer = record {
  index = answer.0.index;
  row = answer.0.row + place_in answer.1 move;
  factor = answer.0.factor;
}

-- the accounts after a move of the defence
abbrev pub answered_by : List AnswerView → ClassMove → List Account
answered_by answers move =
    map (advanced move) (filter (λ (answer : AnswerView). is_among answer.1 move) answers)

-- the accounts after a move
abbrev pub accounts_after : Turn → List Account → ClassMove → List Account
accounts_after turns.Kept accounts move = accounts
accounts_after (turns.Passed first) accounts move = accounts
accounts_after (turns.Answered answers) accounts move = answered_by (map answer_seen answers.items) move

-- the column of the mass after the move with this index
abbrev pub mass_after : Turn → ℕ → ℕ → ℕ
mass_after turns.Kept mass index = mass
mass_after (turns.Passed first) mass index = first + index
mass_after (turns.Answered answers) mass index = mass

-- what the defence has in each class layout at a turn of theirs, where the first new row has this number
unfoldable pub opened : Question → Support → ClassHistory → ℕ → List Account → List AnswerView
opened question support history first [] = []
opened question support history first (account ∷ accounts) = (
  if defence_chooses question (counts_at question account.index) history
      then record { index = account.index; row = first; factor = negsuc 0 }
      else account,
  supported_moves question support (counts_at question account.index) history,
)
    ∷ opened question support history
    (first + length (answered_limits question support history (layout_of question account))) accounts

-- what the point gives to the column of a row of the defence
abbrev pub held_at : Point → Limit → ℤ
held_at point (Shared history) = pos 0
held_at point (Answered west history move) = point.at (Held west history)

-- what the columns of the defence add to a row
abbrev pub held_in : Question → Point → ClassHistory → List Account → ℕ → ℤ
held_in question point history accounts row =
    sum_of (map (λ (account : Account).
    if defence_chooses question (counts_at question account.index) history
    then credit row account (point.at (Held (counts_at question account.index) history)) else pos 0) accounts)

abbrev pub held_columns : Question → ClassHistory → List Account → List Column
held_columns question history accounts =
    flat_map (λ (account : Account). held_column question history (layout_of question account)) accounts

abbrev pub answered_rows : Question → Support → ClassHistory → List Account → List Limit
answered_rows question support history accounts =
    flat_map (λ (account : Account). answered_limits question support history (layout_of question account)) accounts

-- the columns and rows of the defence are written in the class layouts of some accounts
pub record AreAnswered (question : Question) (support : Support) (history : ClassHistory) (accounts : List Account)
    (old new : Ledger) (answers : List LayoutMoves) : Type 0 where
  pub extends : Extends old new (length (held_columns question history accounts))
      (length (answered_rows question support history accounts))
  pub seen : map answer_seen answers ≡ opened question support history old.rows accounts
  pub values : (point : Point) (given : Given)
      → AreGiven given point old.columns (held_columns question history accounts) → (row : ℕ)
      → value_of new given row
      ≡ value_of old given row +ℤ (held_in question point history accounts row
      +ℤ told (held_at point) old.rows (answered_rows question support history accounts) row)

-- ---- the walk

-- a walk from a class history on is asked for, where there is room for its columns and rows
pub record IsAsked (ledger : Ledger) (reach : Reach) (accounts : List Account) : Type 0 where
  pub question : Question
  pub support : Support
  pub history : ClassHistory
  pub reached : IsReach question support history reach
  pub are : AreAccounts question support history ledger.rows accounts
  pub columns : ledger.columns + length (columns_from question support (MOST_MOVES - length history) history)
      ≤ MOST_SUPPORT
  pub rows : ledger.rows + length (limits_from question support (MOST_MOVES - length history) history)
      ≤ suc MOST_SUPPORT

-- what is written at a turn of the defence for a class layout is asked for, by its place in the reach
pub record IsAnswerAsked (ledger : Ledger) (reach : Reach) (place : ℕ) (account : Account) : Type 0 where
  pub question : Question
  pub support : Support
  pub history : ClassHistory
  pub reached : IsReach question support history reach
  pub theirs : is_defences (class_turn (class_after question history)) ≡ true
  pub within : place < length reach.layouts.items
  pub same : account.index ≡ get_or (map (λ (layout : ReachedLayout). layout.index) reach.layouts.items) place 0
  pub fit : IsFit ledger.rows account
  pub columns : ledger.columns + length (held_columns question history (account ∷ [])) ≤ MOST_SUPPORT
  pub rows : ledger.rows + length (answered_rows question support history (account ∷ [])) ≤ suc MOST_SUPPORT

-- the columns and rows at a class history are written, and this is handed on: the old rows have less than they are to
-- have by what the accounts add that are handed on
pub record IsOpened (question : Question) (support : Support) (history : ClassHistory) (mass : ℕ)
    (accounts : List Account) (old new : Ledger) (turn : Turn) : Type 0 where
  pub extends : Extends old new (length (columns_at question support history))
      (length (limits_at question support history))
  pub masses : (point : Point) (given : Given) → AreGiven given point old.columns (columns_at question support history)
      → given mass ≡ mass_at question support point history
      → (index : ℕ) → index < length (next_moves question support history)
      → given (mass_after turn mass index)
      ≡ mass_at question support point (history ++ get_or (next_moves question support history) index ShowOut ∷ [])
  pub few : (index : ℕ) → index < length (next_moves question support history)
      → mass_after turn mass index < 2 ^ 32
  pub after : (move : ClassMove) → Contains (next_moves question support history) move
      → AreAccounts question support (history ++ move ∷ []) new.rows (accounts_after turn accounts move)
  pub values : (point : Point) (given : Given) → AreGiven given point old.columns (columns_at question support history)
      → given mass ≡ mass_at question support point history → (row : ℕ)
      → value_of new given row
      +ℤ sum_of (map (λ move. owed question support point (history ++ move ∷ []) (accounts_after turn accounts move)
      row) (next_moves question support history))
      ≡ value_of old given row +ℤ (owed question support point history accounts row
      +ℤ told (excess question support point) old.rows (limits_at question support history) row)

-- the columns and rows from a class history on are written
pub record IsWritten (question : Question) (support : Support) (history : ClassHistory) (mass : ℕ)
    (accounts : List Account) (old new : Ledger) : Type 0 where
  pub extends : Extends old new (length (columns_from question support (MOST_MOVES - length history) history))
      (length (limits_from question support (MOST_MOVES - length history) history))
  pub values : (point : Point) (given : Given)
      → AreGiven given point old.columns (columns_from question support (MOST_MOVES - length history) history)
      → given mass ≡ mass_at question support point history → (row : ℕ)
      → value_of new given row
      ≡ value_of old given row +ℤ (owed question support point history accounts row
      +ℤ told (excess question support point) old.rows
      (limits_from question support (MOST_MOVES - length history) history) row)
