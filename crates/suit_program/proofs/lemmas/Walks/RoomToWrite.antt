-- What a walk may count on: the class histories that go on, and room for their columns and rows (`go_on`,
-- `child_asked`).
use Rattle.std.proofs.Common.{◌≡◌, ℕ, zero, suc, ◌+◌, ◌-◌, ◌<◌, ◌≤◌, true, List, [], ◌∷◌, ◌++◌, length, get_or}
use Rattle.std.proofs.Common.{map, take, drop, refl, sym, ap, ◌∙◌, subst, arith}
use Rattle.std.specs.Prelude.{Contains}
use Rattle.std.specs.List.{flat_map}
use Rattle.std.proofs.lemmas.List.{length-append, length-map, take-append-drop, take_more}
use Rattle.std.proofs.lemmas.List.Concat.{flat_map-append}
use Rattle.std.proofs.lemmas.List.Elements.{Contains-get_or}
use Rattle.suit_game.specs.declared.question.Question.{Question}
use Rattle.suit_game.specs.declared.limits.TheConstants.{MOST_MOVES, MOST_SUPPORT}
use Rattle.suit_classes.specs.declared.class_moves.ClassMove.{ClassMove}
use Rattle.suit_classes.specs.ClassMoves.{ClassHistory}
use Rattle.suit_classes.specs.ClassPlaces.{class_after, class_turn}
use Rattle.suit_plans.specs.Masses.{is_defences}
use Rattle.suit_tree.specs.Nodes.{turn_at}
use Rattle.suit_program.specs.declared.walks.ledger.Account.{Account}
use Rattle.suit_program.specs.declared.walks.ledger.Ledger.{Ledger}
use Rattle.suit_program.specs.declared.walks.reach.Reach.{Reach}
use Rattle.suit_program.specs.declared.walks.reach.ReachedLayout.{ReachedLayout}
use Rattle.suit_program.specs.declared.walks.turn.LayoutMoves.{LayoutMoves}
use Rattle.suit_program.specs.declared.walks.turn.Turn.{Turn}
use Rattle.suit_program.specs.Programs.Points.{Column}
use Rattle.suit_program.specs.Programs.{Limit, columns_at, limits_at}
use Rattle.suit_program.specs.Walks.Reaches.{IsReach}
use Rattle.suit_program.specs.Supports.{Support, histories_from, next_moves}
use Rattle.suit_program.specs.Walks.Writing.{AreAccounts, AreAnswered, IsAnswerAsked, IsAsked, IsOpened, accounts_after}
use Rattle.suit_program.specs.Walks.Writing.{answered_rows, columns_from, held_columns, limits_from}
use Rattle.suit_program.proofs.lemmas.Walks.LedgerByPostings.{fit_later}
use Rattle.suit_program.proofs.lemmas.Walks.WrittenAtATurn.{their_columns, their_rows}
use Rattle.suit_program.proofs.lemmas.Walks.ReachTells.{histories_below, made_below, turn_is}
use Rattle.suit_program.proofs.lemmas.Walks.WritingByLayout.{columns_append, rows_append}
use Rattle.suit_program.proofs.lemmas.Walks.WritingGoesOn.{ArePassed, GoOn, columns_by, columns_split, limits_by}
use Rattle.suit_program.proofs.lemmas.Walks.WritingGoesOn.{limits_split}

pub go_on : (question : Question) (support : Support) (history : List ClassMove) (reach : Reach)
    → IsReach question support history reach → GoOn question support history
go_on question support history reach is =
    histories_below question support history reach is
    ∙ ap (λ (l : List ClassHistory). history ∷ l)
    (sym (made_below question support history reach is
    (λ move. histories_from question support (MOST_MOVES - length (history ++ move ∷ [])) (history ++ move ∷ []))))

-- ---- room

module _ (ledger : Ledger) (reach : Reach) (accounts : List Account) (case : IsAsked ledger reach accounts) where
  abbrev here : List Column
  here = columns_at case.question case.support case.history

  abbrev rows_here : List Limit
  rows_here = limits_at case.question case.support case.history

  abbrev next : List ClassMove
  next = next_moves case.question case.support case.history

  pub all_columns : length (columns_from case.question case.support (MOST_MOVES - length case.history) case.history)
      ≡ length here + length (flat_map (columns_by case.question case.support case.history) next)
  all_columns =
      ap (λ (l : List Column). length l) (columns_split case.question case.support case.history
      (go_on case.question case.support case.history reach case.reached))
      ∙ length-append here (flat_map (columns_by case.question case.support case.history) next)

  pub all_rows : length (limits_from case.question case.support (MOST_MOVES - length case.history) case.history)
      ≡ length rows_here + length (flat_map (limits_by case.question case.support case.history) next)
  all_rows =
      ap (λ (l : List Limit). length l) (limits_split case.question case.support case.history
      (go_on case.question case.support case.history reach case.reached))
      ∙ length-append rows_here (flat_map (limits_by case.question case.support case.history) next)

  pub room_columns : ledger.columns + length here ≤ MOST_SUPPORT
  room_columns = let room = case.columns in omega (arith, room, all_columns)

  pub room_rows : ledger.rows + length rows_here ≤ suc MOST_SUPPORT
  room_rows = let room = case.rows in omega (arith, room, all_rows)

  pub turn_same : turn_at reach.node ≡ class_turn (class_after case.question case.history)
  turn_same = turn_is case.question case.support case.history reach case.reached

  -- a walk from a class history with a move more may be asked for
  unfoldable pub child_asked : (mass : ℕ) (turn : Turn) (opened now : Ledger) (done rest : List ClassMove)
      (move : ClassMove)
      (other : Reach) (after : List Account)
      → IsOpened case.question case.support case.history mass accounts ledger opened turn
      → ArePassed case.question case.support case.history mass accounts turn opened now done
      → next ≡ done ++ move ∷ rest → Contains next move
      → IsReach case.question case.support (case.history ++ move ∷ []) other
      → after ≡ accounts_after turn accounts move → IsAsked now other after
  child_asked mass turn opened now done rest move other after opens passed parts found reached by =
      let by_columns = columns_by case.question case.support case.history in
      let by_rows = limits_by case.question case.support case.history in
      let one = opens.extends.columns in let two = passed.extends.columns in
      let three = opens.extends.rows in let four = passed.extends.rows in
      let five = case.columns in let six = case.rows in
      let wide = ap (λ (l : List ClassMove). length (flat_map by_columns l)) parts
      ∙ ap (λ (l : List Column). length l) (flat_map-append by_columns done (move ∷ rest))
      ∙ length-append (flat_map by_columns done) (by_columns move ++ flat_map by_columns rest) in
      let wider = length-append (by_columns move) (flat_map by_columns rest) in
      let long = ap (λ (l : List ClassMove). length (flat_map by_rows l)) parts
      ∙ ap (λ (l : List Limit). length l) (flat_map-append by_rows done (move ∷ rest))
      ∙ length-append (flat_map by_rows done) (by_rows move ++ flat_map by_rows rest) in
      let longer = length-append (by_rows move) (flat_map by_rows rest) in
      let are = opens.after move found in
      record {
        question = case.question;
        support = case.support;
        history = case.history ++ move ∷ [];
        reached = reached;
        are = subst (λ (l : List Account). AreAccounts case.question case.support
            (case.history ++ move ∷ []) now.rows l)
            (sym by)
            (record {
              indices = are.indices;
              fit = λ account held. fit_later opened.rows now.rows account (omega (arith, four)) (are.fit account held);
            });
        columns = omega (arith, one, two, five, all_columns, wide, wider);
        rows = omega (arith, three, four, six, all_rows, long, longer);
      }

  -- ---- a turn of the defence

  module _ (theirs : is_defences (turn_at reach.node) ≡ true) where
    pub theirs_there : is_defences (class_turn (class_after case.question case.history)) ≡ true
    theirs_there = ap is_defences (sym turn_same) ∙ theirs

    -- what is written for the class layout at a place may be asked for
    unfoldable pub answer_asked : (now : Ledger) (place : ℕ) (none : Account) (answers : List LayoutMoves)
        → place < length accounts
        → AreAnswered case.question case.support case.history (take place accounts) ledger now answers
        → IsAnswerAsked now reach place (get_or accounts place none)
    answer_asked now place none answers below answered =
        let q : Question = case.question in
        let s : Support = case.support in
        let h : List ClassMove = case.history in
        let account : Account = get_or accounts place none in
        let more : take (place + 1) accounts ≡ take place accounts ++ account ∷ [] =
        take_more accounts place none below in
        let all : take (place + 1) accounts ++ drop (place + 1) accounts ≡ accounts =
        take-append-drop (place + 1) accounts in
        let wide = ap (λ (l : List Column). length l)
        (sym (ap (held_columns q h) all) ∙ columns_append q s h (take (place + 1) accounts) (drop (place + 1) accounts))
        ∙ length-append (held_columns q h (take (place + 1) accounts)) (held_columns q h (drop (place + 1) accounts)) in
        let wider = ap (λ (l : List Column). length l)
        (ap (held_columns q h) more ∙ columns_append q s h (take place accounts) (account ∷ []))
        ∙ length-append (held_columns q h (take place accounts)) (held_columns q h (account ∷ [])) in
        let long = ap (λ (l : List Limit). length l)
        (sym (ap (answered_rows q s h) all) ∙ rows_append q s h (take (place + 1) accounts) (drop (place + 1) accounts))
        ∙ length-append (answered_rows q s h (take (place + 1) accounts))
        (answered_rows q s h (drop (place + 1) accounts)) in
        let longer = ap (λ (l : List Limit). length l)
        (ap (answered_rows q s h) more ∙ rows_append q s h (take place accounts) (account ∷ []))
        ∙ length-append (answered_rows q s h (take place accounts)) (answered_rows q s h (account ∷ [])) in
        let one = answered.extends.columns in let two = answered.extends.rows in
        let columns = room_columns in let rows = room_rows in
        let here_columns = ap (λ (l : List Column). length l)
        (their_columns q s h ledger.rows accounts case.are theirs_there) in
        let here_rows = ap (λ (l : List Limit). length l)
        (their_rows q s h ledger.rows accounts case.are theirs_there) in
        record {
          question = q;
          support = s;
          history = h;
          reached = case.reached;
          theirs = theirs_there;
          same = indexed accounts place none below
              ∙ ap (λ (l : List ℕ). get_or l place 0) (case.are.indices ∙ sym case.reached.layouts);
          fit = fit_later ledger.rows now.rows account (omega (arith, two))
              (case.are.fit account (Contains-get_or accounts place none below));
          within = let counts = ap (λ (l : List ℕ). length l) (case.are.indices ∙ sym case.reached.layouts) in
              let left = length-map accounts (λ (account : Account). account.index) in
              let right = length-map reach.layouts.items (λ (layout : ReachedLayout). layout.index) in
              omega (arith, below, counts, left, right);
          columns = omega (arith, one, columns, here_columns, wide, wider);
          rows = omega (arith, two, rows, here_rows, long, longer);
        }
      where
        indexed : (accounts : List Account) (place : ℕ) (none : Account) → place < length accounts
            → (get_or accounts place none).index ≡ get_or (map (λ (account : Account). account.index) accounts) place 0
        indexed [] place none below = absurd (omega (arith, below))
        indexed (first ∷ accounts) zero none below = refl
        indexed (first ∷ accounts) (suc place) none below = indexed accounts place none (omega (arith, below))
