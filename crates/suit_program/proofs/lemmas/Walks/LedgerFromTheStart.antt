-- The walk from the start may be asked for (`start_asked`), and gives the ledger of a support's program (`ledger_all`).
use Rattle.std.proofs.Common.{◌≡◌, ℕ, zero, suc, ◌+◌, ◌≤◌, All, List, [], ◌∷◌, length, get_or, map, sym, ap}
use Rattle.std.proofs.Common.{◌-◌, ◌^◌, subst, arith, pos}
use Rattle.std.specs.Prelude.{Contains}
use Rattle.std.specs.List.{range_with_len}
use Rattle.std.proofs.lemmas.List.Elements.{Contains-get_or}
use Rattle.suit_lists.proofs.Elements.{Contains-first, Contains-later, Contains-nil, Contains-same}
use Rattle.suit_cards.specs.Cards.{ClassLayout}
use Rattle.suit_game.specs.declared.question.Question.{Question}
use Rattle.suit_game.specs.Validity.{IsValid}
use Rattle.suit_game.specs.declared.limits.TheConstants.{MOST_MOVES, MOST_SUPPORT, MOST_TOTAL}
use Rattle.suit_classes.specs.Classes.{defence_sizes, hands_of}
use Rattle.suit_classes.proofs.DefenceSizes.{sum-defence_sizes}
use Rattle.suit_layouts.proofs.WhatHasWeightIsListed.{class_layouts_exact}
use Rattle.suit_plans.proofs.RowLimits.{weight_at_most}
use Rattle.suit_plans.specs.Properness.{sum_of}
use Rattle.suit_tree.specs.declared.tree.Tree.{Tree}
use Rattle.suit_program.specs.declared.walks.ledger.Account.{Account}
use Rattle.suit_program.specs.declared.walks.ledger.Ledger.{Ledger}
use Rattle.suit_program.specs.declared.walks.ledger.Posting.{Posting}
use Rattle.suit_program.specs.declared.walks.reach.Reach.{Reach}
use Rattle.suit_program.specs.declared.supports.support.Support.{Support as MarkedSupport}
use Rattle.suit_program.specs.Walks.LedgerOf.{IsLedgerOf}
use Rattle.suit_program.specs.Walks.Ledgers.{Given, HasRows, posted, value_of}
use Rattle.suit_program.specs.Supports.Marks.{support_seen}
use Rattle.suit_program.specs.Programs.{columns, limits, size_of}
use Rattle.suit_program.specs.Walks.Reaches.{IsReach}
use Rattle.suit_program.specs.Programs.Sized.{IsSized}
use Rattle.suit_program.specs.Supports.{Support, layouts_of, reached_histories}
use Rattle.suit_program.specs.Walks.Writing.{AreAccounts, IsAsked, IsWritten, columns_from, limits_from}
use Rattle.suit_program.proofs.lemmas.Walks.AccountsAtTheStart.{start_accounts}
use Rattle.suit_program.proofs.lemmas.Walks.ObjectiveIsOwed.{start_written, whole_accounts}

-- the weights of a question's class layouts are small
layout_weighs : (question : Question) → IsValid question → (layout : ClassLayout × ℕ)
    → Contains (layouts_of question) layout
    → layout.1 ≤ MOST_TOTAL
layout_weighs question valid layout found =
    let exact = (class_layouts_exact question (defence_sizes (hands_of question)) layout.0 layout.1
    (sum-defence_sizes (hands_of question))).0 found in
    let most = weight_at_most question layout.0 valid in
    let same = exact.0 in
    omega (arith, same, most)

pub layouts_weigh : (question : Question) → IsValid question
    → All (λ layout. layout.1 ≤ MOST_TOTAL) (layouts_of question)
layouts_weigh question valid = λ k d below.
    layout_weighs question valid (get_or (layouts_of question) k d) (Contains-get_or (layouts_of question) k d below)

few_at : (most : ℕ) (layouts : List (ClassLayout × ℕ)) → ((layout : ClassLayout × ℕ) → Contains layouts layout
    → layout.1 ≤ most)
    → (index : ℕ) → (get_or layouts index ([], 0)).1 ≤ most
few_at most [] all index = omega arith
few_at most (first ∷ layouts) all zero = all first (Contains-first first layouts)
few_at most (first ∷ layouts) all (suc index) =
    few_at most layouts (λ layout found. all layout (Contains-later first layouts layout found)) index

pub weights_few : (question : Question) → IsValid question → (index : ℕ)
    → (get_or (layouts_of question) index ([], 0)).1 ≤ MOST_TOTAL
weights_few question valid = few_at MOST_TOTAL (layouts_of question) (layout_weighs question valid)

-- the accounts at the start, by the class layouts
abbrev pub accounts_of : List (ClassLayout × ℕ) → List Account
accounts_of layouts =
    map (λ index. record { index = index; row = 0; factor = pos (get_or layouts index ([], 0)).1 })
    (range_with_len 0 (length layouts))

-- the walk from the start may be asked for
module _ (tree : Tree) (support : MarkedSupport) (case : IsSized tree support) (ledger : Ledger)
    (no_columns : ledger.columns ≡ 0) (one_row : ledger.rows ≡ 1) where
  pub room : (question : Question) (seen : Support) → size_of question seen ≤ MOST_SUPPORT
      → (ledger.columns + length (columns_from question seen MOST_MOVES []) ≤ MOST_SUPPORT)
      × (ledger.rows + length (limits_from question seen MOST_MOVES []) ≤ suc MOST_SUPPORT)
  unfolding size_of columns limits columns_from limits_from reached_histories
  room question seen few = (omega (arith, few, no_columns), omega (arith, few, one_row))

  unfoldable pub start_asked : (reach : Reach) (accounts : List Account)
      → IsReach case.question (support_seen case.question support) [] reach
      → accounts ≡ whole_accounts case.question → IsAsked ledger reach accounts
  start_asked reach accounts reached are =
      let rooms = room case.question (support_seen case.question support) case.few in
      record {
        question = case.question;
        support = support_seen case.question support;
        history = [];
        reached = reached;
        are = subst (λ (l : List Account). AreAccounts case.question (support_seen case.question support) []
            ledger.rows l) (sym are)
            (subst (λ (n : ℕ). AreAccounts case.question (support_seen case.question support) [] n
            (whole_accounts case.question)) (sym one_row)
            (start_accounts case.question (support_seen case.question support)
            (weights_few case.question case.valid)));
        columns = rooms.0;
        rows = rooms.1;
      }

-- and what it gives is the ledger of the program
module _ (question : Question) (support : Support) (old new : Ledger) (no_columns : old.columns ≡ 0)
    (one_row : old.rows ≡ 1) (nothing : old.postings.items ≡ []) where
  empty : (given : Given) (row : ℕ) → value_of old given row ≡ pos 0
  unfolding value_of sum_of
  empty given row = ap (λ (l : List Posting). sum_of (map (posted given row) l)) nothing

  old_rows : HasRows old
  old_rows posting found =
      absurd (Contains-nil posting (Contains-same posting nothing found))

  pub ledger_all : IsWritten question support [] (2 ^ 32 - 1) (whole_accounts question) old new
      → IsLedgerOf question support new
  unfolding columns limits columns_from limits_from reached_histories
  ledger_all written =
      let extends = written.extends in
      let wide = extends.columns in
      let long = extends.rows in
      record {
        columns = omega (arith, wide, no_columns);
        rows = omega (arith, long, one_row);
        within = extends.within old_rows;
        values = λ point given are same row.
            start_written question support point (2 ^ 32 - 1) old new empty no_columns one_row written given are same
            row;
      }
