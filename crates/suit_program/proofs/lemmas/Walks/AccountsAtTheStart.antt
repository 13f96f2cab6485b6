-- The accounts at the start are of the class layouts in which the empty class history is reached (`start_accounts`).
use Rattle.std.proofs.Common.{ℕ, ◌≤◌, true, List, [], length, get_or, sym, ◌∙◌, subst, arith}
use Rattle.std.specs.List.{range_with_len}
use Rattle.std.proofs.lemmas.Int.{ints}
use Rattle.std.proofs.lemmas.List.Elements.{filter_agree}
use Rattle.suit_lists.proofs.Filters.{filter_true}
use Rattle.suit_lists.proofs.Maps.{Contains-map_from, map_itself, map_twice}
use Rattle.suit_game.specs.declared.question.Question.{Question}
use Rattle.suit_game.specs.declared.limits.TheConstants.{MOST_TOTAL}
use Rattle.suit_plans.specs.ReplyLaws.{counts_at}
use Rattle.suit_program.specs.declared.walks.ledger.Account.{Account}
use Rattle.suit_program.specs.Walks.Ledgers.{IsFit}
use Rattle.suit_program.specs.Walks.Reaches.{reached_indices}
use Rattle.suit_program.specs.Supports.{Support, is_reached, layouts_of}
use Rattle.suit_program.specs.Walks.Writing.{AreAccounts}
use Rattle.suit_program.proofs.lemmas.Supports.WhatIsReached.{reached_none}
use Rattle.suit_program.proofs.lemmas.Walks.ObjectiveIsOwed.{whole_account, whole_accounts}

-- with weights that are no larger than the number of deals
pub start_accounts : (question : Question) (support : Support)
    → ((index : ℕ) → (get_or (layouts_of question) index ([], 0)).1 ≤ MOST_TOTAL)
    → AreAccounts question support [] 1 (whole_accounts question)
unfolding reached_indices
start_accounts question support weights =
    let all : List ℕ = range_with_len 0 (length (layouts_of question)) in
    record {
      indices = map_twice (λ (account : Account). account.index) (whole_account question) all
          ∙ map_itself all ∙ sym (filter_true all)
          ∙ filter_agree (λ index. true) (λ index. is_reached question support (counts_at question index) [])
          (λ index. sym (reached_none question support (counts_at question index))) all;
      fit = λ account found.
          let from = Contains-map_from (whole_account question) all account found in
          subst (IsFit 1) from.2
          (let few = weights from.0 in
          record { row = omega arith; low = omega (arith, ints); few = omega (arith, ints, few) });
    }
