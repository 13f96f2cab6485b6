-- The accounts of the class layouts in which a class history is reached (`accounts_layouts`, `account_there`).
use Rattle.std.proofs.Common.{◌≡◌, ℕ, Bool, true, List, [], ◌∷◌, ◌++◌, length, get_or, map, sym, ap, ◌∙◌}
use Rattle.std.specs.Prelude.{Contains, ◌&&◌, filter}
use Rattle.std.specs.List.{flat_map, range_with_len}
use Rattle.std.proofs.lemmas.List.Elements.{filter_agree}
use Rattle.suit_lists.proofs.Elements.{Contains-same}
use Rattle.suit_cards.specs.Cards.{ClassLayout}
use Rattle.suit_lists.proofs.Filters.{filter-filter, kept_parts}
use Rattle.suit_lists.proofs.FlatMaps.{flat_map_map}
use Rattle.suit_lists.proofs.Maps.{Contains-map, map_twice}
use Rattle.suit_lists.proofs.Walks.{indexed}
use Rattle.suit_game.specs.declared.question.Question.{Question}
use Rattle.suit_classes.specs.declared.class_moves.ClassMove.{ClassMove}
use Rattle.suit_classes.specs.WhatIsAllowed.{is_among}
use Rattle.suit_plans.specs.ReplyLaws.{counts_at}
use Rattle.suit_program.specs.declared.walks.ledger.Account.{Account}
use Rattle.suit_program.specs.Programs.{held_column, answered_limits}
use Rattle.suit_program.specs.Walks.Reaches.{reached_indices}
use Rattle.suit_program.specs.Supports.{Support, is_reached, layouts_of, reached_layouts, supported_moves}
use Rattle.suit_program.specs.Walks.Writing.{AreAccounts, answered_rows, held_columns, layout_of}
use Rattle.suit_program.proofs.lemmas.Supports.WhatIsReached.{reached-push}

-- ---- indices

-- the class layout with an index, with its weight
abbrev layout_at : Question → ℕ → ClassLayout × ℕ
layout_at question index = get_or (layouts_of question) index ([], 0)

module _ (question : Question) (support : Support) (history : List ClassMove) where
  pub layouts_indexed : map (layout_at question) (reached_indices question support history)
      ≡ reached_layouts question support history
  unfolding reached_indices reached_layouts
  layouts_indexed =
      indexed (λ (layout : ClassLayout × ℕ). is_reached question support layout.0 history) (layouts_of question) ([], 0)

  -- with one move more
  pub indices_next : (move : ClassMove)
      → filter (λ index. is_among (supported_moves question support (counts_at question index) history) move)
      (reached_indices question support history) ≡ reached_indices question support (history ++ move ∷ [])
  unfolding reached_indices
  indices_next move =
      let goes : ℕ → Bool = λ index.
      is_among (supported_moves question support (counts_at question index) history) move in
      let before : ℕ → Bool = λ index. is_reached question support (counts_at question index) history in
      filter-filter before goes (range_with_len 0 (length (layouts_of question)))
      ∙ filter_agree (λ index. before index && goes index)
      (λ index. is_reached question support (counts_at question index) (history ++ move ∷ []))
      (λ index. sym (reached-push question support (counts_at question index) history move))
      (range_with_len 0 (length (layouts_of question)))

-- ---- accounts

-- an account is of a class layout in which a class history is reached
pub record IsThere (question : Question) (support : Support) (history : List ClassMove)
    (account : Account) : Type 0 where
  pub held : Contains (reached_layouts question support history) (layout_of question account)
  pub listed : Contains (layouts_of question) (layout_of question account)
  pub reached : is_reached question support (counts_at question account.index) history ≡ true

module _ (question : Question) (support : Support) (history : List ClassMove) (rows : ℕ) (accounts : List Account)
    (are : AreAccounts question support history rows accounts) where
  pub accounts_layouts : map (layout_of question) accounts ≡ reached_layouts question support history
  accounts_layouts =
      sym (map_twice (layout_at question) (λ (account : Account). account.index) accounts)
      ∙ ap (map (layout_at question)) are.indices ∙ layouts_indexed question support history

  pub account_there : (account : Account) → Contains accounts account → IsThere question support history account
  unfolding reached_layouts
  account_there account found =
      let layout : ClassLayout × ℕ = layout_of question account in
      let held : Contains (reached_layouts question support history) layout =
      Contains-same layout accounts_layouts
      (Contains-map (layout_of question) accounts account found) in
      let parts = kept_parts (λ (other : ClassLayout × ℕ). is_reached question support other.0 history)
      (layouts_of question) layout held in
      record { held = held; listed = parts.0; reached = parts.1 }

  -- the columns and rows of the defence, in their class layouts
  pub columns_held : held_columns question history accounts
      ≡ flat_map (held_column question history) (reached_layouts question support history)
  columns_held =
      sym (flat_map_map (held_column question history) (layout_of question) accounts)
      ∙ ap (flat_map (held_column question history)) accounts_layouts

  pub rows_answered : answered_rows question support history accounts
      ≡ flat_map (answered_limits question support history) (reached_layouts question support history)
  rows_answered =
      sym (flat_map_map (answered_limits question support history) (layout_of question) accounts)
      ∙ ap (flat_map (answered_limits question support history)) accounts_layouts
