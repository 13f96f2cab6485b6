-- The walk from the start: what its accounts owe is the objective, and what is written is the program
-- (`start_written`).
use Rattle.std.proofs.Common.{◌≡◌, ℕ, Bool, true, false, List, [], length, get_or, map, refl}
use Rattle.std.proofs.Common.{sym, ap, ◌∙◌, subst, arith}
use Rattle.std.specs.Prelude.{◌==◌, if◌then◌else◌, ℤ, pos, ◌+ℤ◌, ◌*ℤ◌}
use Rattle.std.specs.List.{range_with_len}
use Rattle.std.proofs.lemmas.Int.{ints}
use Rattle.suit_lists.proofs.Maps.{map_twice}
use Rattle.suit_lists.proofs.Walks.{range_map}
use Rattle.suit_cards.specs.Cards.{ClassLayout}
use Rattle.suit_game.specs.declared.question.Question.{Question}
use Rattle.suit_plans.specs.Properness.{sum_of}
use Rattle.suit_plans.specs.ReplyLaws.{counts_at}
use Rattle.suit_plans.proofs.NumberSums.{sum_nothing}
use Rattle.suit_program.specs.declared.walks.ledger.Account.{Account}
use Rattle.suit_program.specs.declared.walks.ledger.Ledger.{Ledger}
use Rattle.suit_program.specs.Walks.Ledgers.{Given, credit, value_of}
use Rattle.suit_program.specs.Programs.Points.{Point}
use Rattle.suit_program.specs.Programs.{columns, excess, limits}
use Rattle.suit_program.specs.Supports.{Support, layouts_of, reached_histories}
use Rattle.suit_plans.specs.Masses.{mass_from, mass_of}
use Rattle.suit_program.specs.Walks.Writing.{AreGiven, IsWritten, columns_from, limits_from, owed, told}
use Rattle.suit_program.specs.Programs.Worths.{objective_at, worth_at}

-- the account of a class layout at the start: its weight goes to the first row
abbrev pub whole_account : Question → ℕ → Account
whole_account question index =
    record { index = index; row = 0; factor = pos (get_or (layouts_of question) index ([], 0)).1 }

abbrev pub whole_accounts : Question → List Account
whole_accounts question = map (whole_account question) (range_with_len 0 (length (layouts_of question)))

module _ (question : Question) (support : Support) (point : Point) where
  abbrev weighed : ClassLayout × ℕ → ℤ
  weighed layout = pos layout.1 *ℤ worth_at question support point layout.0 []

  -- what the accounts owe at the start
  pub start_owed : (row : ℕ)
      → owed question support point [] (whole_accounts question) row
      ≡ (if 0 == row then objective_at question support point else pos 0)
  unfolding objective_at
  start_owed row =
      ap sum_of (map_twice (λ (account : Account). credit row account
      (worth_at question support point (counts_at question account.index) [])) (whole_account question)
      (range_with_len 0 (length (layouts_of question))))
      ∙ at (0 == row)
    where
      at : (b : Bool)
          → sum_of (map (λ index. if b then weighed (get_or (layouts_of question) index ([], 0)) else pos 0)
          (range_with_len 0 (length (layouts_of question))))
          ≡ (if b then sum_of (map weighed (layouts_of question)) else pos 0)
      at true = ap sum_of (range_map (λ index. weighed (get_or (layouts_of question) index ([], 0))) weighed
          (layouts_of question) ([], 0) 0
          (λ index below. ap (λ (n : ℕ). weighed (get_or (layouts_of question) n ([], 0))) (omega arith)))
      at false = sum_nothing (λ index. pos 0) (range_with_len 0 (length (layouts_of question))) (λ index found. refl)

  -- what the rows come to at the end
  pub start_written : (mass : ℕ) (old new : Ledger)
      → ((given : Given) (row : ℕ) → value_of old given row ≡ pos 0) → old.columns ≡ 0 → old.rows ≡ 1
      → IsWritten question support [] mass (whole_accounts question) old new
      → (given : Given) → AreGiven given point 0 (columns question support) → given mass ≡ point.one → (row : ℕ)
      → value_of new given row
      ≡ (if 0 == row then objective_at question support point else pos 0)
      +ℤ told (excess question support point) 1 (limits question support) row
  unfolding columns limits columns_from limits_from reached_histories mass_of mass_from
  start_written mass old new empty no_columns one_row written given are same row =
      let values = written.values point given
      (subst (λ (n : ℕ). AreGiven given point n (columns question support)) (sym no_columns) are) same row in
      sums (value_of new given row) (value_of old given row)
      (owed question support point [] (whole_accounts question) row)
      (if 0 == row then objective_at question support point else pos 0)
      (told (excess question support point) old.rows (limits question support) row)
      (told (excess question support point) 1 (limits question support) row) values (empty given row) (start_owed row)
      (ap (λ (n : ℕ). told (excess question support point) n (limits question support) row) one_row)
    where
      sums : (new old o p t u : ℤ) → new ≡ old +ℤ (o +ℤ t) → old ≡ pos 0 → o ≡ p → t ≡ u → new ≡ p +ℤ u
      sums new old o p t u a b c d = omega (arith, ints, a, b, c, d)
