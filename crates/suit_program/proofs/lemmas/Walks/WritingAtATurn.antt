-- What the walk writes at a class history, turn by turn, is what is asked (`decided_case`, `waiting_case`,
-- `passing_case`, `answering_case`).
use Rattle.std.proofs.Common.{◌≡◌, ℕ, ◌+◌, ◌-◌, ◌<◌, ◌≤◌, Bool, true, false, List, [], ◌∷◌, length, map, refl, sym}
use Rattle.std.proofs.Common.{ap, ◌∙◌, subst, arith}
use Rattle.std.specs.Prelude.{Contains, ◌==◌, ◌^◌, if◌then◌else◌, pos, ◌-ℤ◌}
use Rattle.std.specs.List.{flat_map}
use Rattle.std.proofs.lemmas.Bool.{false≢true}
use Rattle.std.proofs.lemmas.List.{length-map}
use Rattle.suit_lists.proofs.Elements.{Contains-first}
use Rattle.suit_game.specs.declared.limits.TheConstants.{HAND_SIZE, MOST_MOVES, MOST_SUPPORT}
use Rattle.suit_classes.specs.declared.class_moves.ClassMove.{ClassMove}
use Rattle.suit_classes.specs.declared.class_turn.ClassTurn.TheVariants as turn_kinds
use Rattle.suit_classes.specs.ClassPlaces.{class_after, class_decided, class_payoff, class_turn}
use Rattle.suit_plans.specs.Masses.{is_declarers, is_defences}
use Rattle.suit_plans.specs.ReplyLaws.{counts_at}
use Rattle.suit_plans.proofs.AtMostThirteenTricks.{paid_most}
use Rattle.suit_plans.proofs.WhoseTurns.{Declarers, Defences, Over, WhoseTurn, own_turn, their_turn, whose_turn}
use Rattle.suit_tree.specs.Nodes.{payoff_at, turn_at}
use Rattle.suit_tree.proofs.NodePaths.{tree_stands}
use Rattle.suit_program.specs.declared.walks.ledger.Account.{Account}
use Rattle.suit_program.specs.declared.walks.ledger.Ledger.{Ledger}
use Rattle.suit_program.specs.declared.walks.reach.Reach.{Reach}
use Rattle.suit_program.specs.declared.walks.turn.LayoutMoves.{LayoutMoves}
use Rattle.suit_program.specs.declared.walks.turn.Turn.{Turn}
use Rattle.suit_program.specs.declared.walks.turn.Turn.TheVariants as turns
use Rattle.suit_program.specs.Walks.Ledgers.{Adds, Extends, given_in}
use Rattle.suit_program.specs.Programs.{Shared, answered_limits, columns_at, held_column, limits_at}
use Rattle.suit_program.specs.Programs.Points.{Passed}
use Rattle.suit_program.specs.Walks.Reaches.{Reached}
use Rattle.suit_program.specs.Supports.{declarer_chooses, reached_layouts, supported_moves}
use Rattle.suit_program.specs.Walks.Writing.{AreAnswered, IsAsked, IsOpened, accounts_after, answer_seen, answered_by}
use Rattle.suit_program.specs.Walks.Writing.{layout_of, mass_after}
use Rattle.suit_program.proofs.lemmas.Walks.RoomToWrite.{room_columns, room_rows, theirs_there, turn_same}
use Rattle.suit_program.proofs.lemmas.Walks.LedgerByPostings.{paid}
use Rattle.suit_program.proofs.lemmas.Walks.WrittenAtATurn.{answered_opened, kept_opened, over_opened, passed_opened}
use Rattle.suit_program.proofs.lemmas.Walks.AccountsByLayout.{IsThere, account_there}
use Rattle.suit_program.proofs.lemmas.Supports.WhatIsReached.{reached_allows}

module _ (ledger : Ledger) (reach : Reach) (accounts : List Account) (mass : ℕ)
    (case : IsAsked ledger reach accounts) where
  abbrev Opens : Ledger → Turn → Type 0
  Opens new turn = IsOpened case.question case.support case.history mass accounts ledger new turn

  -- some class layout is reached
  some_account : (account : Account) × Contains accounts account
  some_account = first accounts
      (let some = case.reached.some in let same = ap (λ (l : List ℕ). length l) case.are.indices in
      let count = length-map accounts (λ (account : Account). account.index) in omega (arith, some, same, count))
    where
      first : (some : List Account) → 0 < length some → (account : Account) × Contains some account
      first [] none = absurd (omega (arith, none))
      first (account ∷ others) some = (account, Contains-first account others)

  there : IsThere case.question case.support case.history some_account.0
  there = account_there case.question case.support case.history ledger.rows accounts case.are some_account.0
      some_account.1

  -- ---- where play is over

  turn_over : turn_at reach.node ≡ turn_kinds.Decided → class_decided (class_after case.question case.history) ≡ true
  turn_over decided = at (whose_turn (class_after case.question case.history))
    where
      turn : class_turn (class_after case.question case.history) ≡ turn_kinds.Decided
      turn = sym (turn_same ledger reach accounts case) ∙ decided

      at : WhoseTurn (class_after case.question case.history)
          → class_decided (class_after case.question case.history) ≡ true
      at (Over over is) = over
      at (Declarers going own not) = absurd (false≢true (sym (ap is_declarers turn) ∙ own))
      at (Defences going not theirs) = absurd (false≢true (sym (ap is_defences turn) ∙ theirs))

  payoff_is : payoff_at reach.node
      ≡ (if class_decided (class_after case.question case.history)
      then class_payoff (class_after case.question case.history) else 0)
  payoff_is = (tree_stands (MOST_MOVES - length case.history) case.question case.history reach.node
      case.reached.tree).payoff

  pub payoff_few : payoff_at reach.node ≤ HAND_SIZE
  payoff_few =
      limit (class_decided (class_after case.question case.history))
      (class_payoff (class_after case.question case.history)) (payoff_at reach.node)
      payoff_is
      (paid_most case.question (counts_at case.question some_account.0.index) case.history
      (reached_allows case.question case.support case.reached.valid (layout_of case.question some_account.0)
      there.listed case.history there.reached))
    where
      limit : (b : Bool) (n m : ℕ) → m ≡ (if b then n else 0) → n ≤ HAND_SIZE → m ≤ HAND_SIZE
      limit true n m is few = omega (arith, is, few)
      limit false n m is few = omega (arith, is)

  pub decided_case : turn_at reach.node ≡ turn_kinds.Decided → (new : Ledger) → Extends ledger new 0 0
      → Adds ledger new (paid (payoff_at reach.node) mass accounts) → Opens new turns.Kept
  decided_case decided new extends adds =
      let over = turn_over decided in
      let is : payoff_at reach.node ≡ class_payoff (class_after case.question case.history) =
      payoff_is
      ∙ ap (λ (b : Bool). if b then class_payoff (class_after case.question case.history) else 0) over in
      over_opened case.question case.support case.history case.reached.valid mass ledger.rows accounts case.are over
      ledger new extends (subst (λ (n : ℕ). Adds ledger new (paid n mass accounts)) is adds)

  -- ---- a turn of declarer's

  module _ (own : is_declarers (turn_at reach.node) ≡ true) where
    own_there : is_declarers (class_turn (class_after case.question case.history)) ≡ true
    own_there = ap is_declarers (sym (turn_same ledger reach accounts case)) ∙ own

    abbrev mine : List ClassMove
    mine = supported_moves case.question case.support [] case.history

    pub own_moves_there : (moves : List ClassMove)
        → Reached reach (λ question support history. is_declarers (class_turn (class_after question history)) ≡ true
        → moves ≡ supported_moves question support [] history) → moves ≡ mine
    own_moves_there moves tells = tells case.question case.support case.history case.reached own_there

    pub waiting_case : declarer_chooses case.question case.history ≡ false → mass < 2 ^ 32 → Opens ledger turns.Kept
    waiting_case waits few =
        kept_opened case.question case.support case.history case.reached.valid mass ledger.rows accounts case.are
        (own_turn (class_after case.question case.history) own_there).0 own_there
        (layout_of case.question some_account.0, there.held) waits ledger refl few

    pub passing_room : declarer_chooses case.question case.history ≡ true
        → (ledger.columns + length mine ≤ MOST_SUPPORT) × (ledger.rows ≤ MOST_SUPPORT)
    unfolding columns_at limits_at
    passing_room chooses =
        let columns = room_columns ledger reach accounts case in
        let rows = room_rows ledger reach accounts case in
        let wide : length (columns_at case.question case.support case.history) ≡ length mine =
        ap (λ (b : Bool). length (if b then map (Passed case.history) mine
        else flat_map (held_column case.question case.history)
        (reached_layouts case.question case.support case.history))) chooses
        ∙ length-map mine (Passed case.history) in
        let long : length (limits_at case.question case.support case.history) ≡ 1 =
        ap (λ (b : Bool). length (if b then Shared case.history ∷ []
        else flat_map (answered_limits case.question case.support case.history)
        (reached_layouts case.question case.support case.history))) chooses in
        (omega (arith, columns, wide), omega (arith, rows, long))

    pub passing_case : declarer_chooses case.question case.history ≡ true → (new : Ledger) (moves : List ClassMove)
        (count first : ℕ) → moves ≡ mine → count ≡ length moves → first ≡ ledger.columns
        → Extends ledger new count 1
        → Adds ledger new (λ given row. if ledger.rows == row then given_in given ledger.columns count -ℤ given mass
        else pos 0)
        → Opens new (turns.Passed first)
    passing_case chooses new moves count first are count_is first_is extends adds =
        let same : count ≡ length mine = count_is ∙ ap (λ (l : List ClassMove). length l) are in
        let room = (passing_room chooses).0 in
        let wide = extends.columns in
        subst (λ (n : ℕ). Opens new (turns.Passed n)) (sym first_is)
        (passed_opened case.question case.support case.history case.reached.valid mass ledger.rows accounts case.are
        (own_turn (class_after case.question case.history) own_there).0 own_there
        (layout_of case.question some_account.0, there.held) chooses ledger new refl
        (omega (arith, wide, room, same)) (subst (λ (n : ℕ). Extends ledger new n 1) same extends)
        (subst (λ (n : ℕ). Adds ledger new (λ given row. if ledger.rows == row
        then given_in given ledger.columns n -ℤ given mass else pos 0)) same adds))

  -- ---- a turn of the defence

  pub answering_case : is_defences (turn_at reach.node) ≡ true → (new : Ledger) (answers : List LayoutMoves)
      → (turn : Turn)
      → ((move : ClassMove) → accounts_after turn accounts move ≡ answered_by (map answer_seen answers) move)
      → ((index : ℕ) → mass_after turn mass index ≡ mass) → mass < 2 ^ 32
      → AreAnswered case.question case.support case.history accounts ledger new answers → Opens new turn
  answering_case theirs new answers turn by stays few answered =
      let is = theirs_there ledger reach accounts case theirs in
      let whose = their_turn (class_after case.question case.history) is in
      answered_opened case.question case.support case.history case.reached.valid mass ledger.rows accounts case.are
      whose.0 whose.1 ledger new answers turn by stays refl few answered
