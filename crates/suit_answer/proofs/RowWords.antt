-- `plan_row_taken` and `defence_row_taken`: a row that is read from words is written by them.
use Rattle.std.proofs.Common.{ℕ, ◌<◌, ◌≤◌, ◌≡◌, ◌==◌, ◌&&◌, Bool, true, false, cond, List, [], ◌∷◌, ◌++◌, length, map}
use Rattle.std.proofs.Common.{codes, decimal, ℤ, Ok, refl, sym, ap, ◌∙◌, subst, arith}
use Rattle.std.specs.List.{AllByRecursion, flat_map}
use Rattle.std.specs.Str.{bytes_eq}
use Rattle.std.proofs.lemmas.Bool.Decides.{nat_tests}
use Rattle.std.proofs.lemmas.List.Concat.{flat_map-cons}
use Rattle.std.proofs.lemmas.List.Elements.{All-from_recursion}
use Rattle.suit_cards.specs.Cards.{Text, ClassLayout}
use Rattle.suit_game.specs.declared.limits.TheConstants.{HAND_SIZE}
use Rattle.suit_classes.specs.ClassMoves.{ClassHistory}
use Rattle.suit_classes.specs.declared.class_moves.ClassMove.{ClassMove}
use Rattle.suit_plans.specs.Masses.{Shares}
use Rattle.suit_plans.specs.declared.plan.Row.{Row}
use Rattle.suit_plans.specs.declared.defence.DefenceRow.{DefenceRow}
use Rattle.suit_text.specs.Strict.{is_filled}
use Rattle.suit_text.proofs.LooseNumbersBack.{both_true}
use Rattle.suit_answer.specs.Forms.{is_value, are_shares, is_turn, is_layout_turn}
use Rattle.suit_answer.specs.Letters.{move_due, move_word}
use Rattle.suit_answer.specs.Numbers.{number_due, small_due}
use Rattle.suit_answer.specs.Results.{◌>>=◌}
use Rattle.suit_answer.specs.Rows.{history_due, shares_due, counts_due, counted, plan_turn_due, defence_turn_due}
use Rattle.suit_answer.specs.Rows.{plan_row_due, defence_row_due}
use Rattle.suit_answer.specs.Writable.{IsWritableMove, IsWritableShare, IsWritableTurn, IsWritableRow}
use Rattle.suit_answer.specs.Writable.{IsWritableDefenceRow}
use Rattle.suit_answer.specs.Writing.{share_words, turn_words, plan_row_words, defence_row_words}
use Rattle.suit_answer.specs.declared.faults.AnswerFault.TheVariants.{Line, Count}
use Rattle.suit_answer.proofs.MoveWords.{move_taken}
use Rattle.suit_answer.proofs.NumberWords.{number_taken, small_taken}
use Rattle.suit_answer.proofs.Steps.{bind_ok, ok_is, chosen_ok, same_text}

module _ (letters : Text) (line : ℕ) where
  -- the words that moves were read from, where the words have their form
  record HistoryTaken (words : List Text) (found : ClassHistory × List Text) : Type 0 where
    spelled : words ≡ map (move_word letters) found.0 ++ codes ":" ∷ found.1
    moves : AllByRecursion (IsWritableMove (length letters)) found.0
    then_shares : is_turn words ≡ true → are_shares found.1 ≡ true

  history_by : (b : Bool) (word : Text) (words : List Text) (found : ClassHistory × List Text)
      → bytes_eq word (codes ":") ≡ b
      → cond b (Ok ([], words)) (move_due letters line word >>= λ move. (history_due letters line words >>= λ more.
      Ok (move ∷ more.0, more.1))) ≡ Ok found
      → ((more : ClassHistory × List Text) → history_due letters line words ≡ Ok more → HistoryTaken words more)
      → HistoryTaken (word ∷ words) found
  unfolding is_turn
  history_by true word words found e h later =
      let same : ([], words) ≡ found = ok_is ([], words) found h in
      subst (λ (f : ClassHistory × List Text). HistoryTaken (word ∷ words) f) same (record {
        spelled = ap (λ (w : Text). w ∷ words) (same_text word (codes ":") e);
        moves = tt;
        then_shares = λ form. rw e at form;
      })
  history_by false word words found e h later =
      let first = bind_ok (move_due letters line word) (λ move. (history_due letters line words >>= λ more.
      Ok (move ∷ more.0, more.1))) found h in
      let second = bind_ok (history_due letters line words) (λ more. Ok (first.0 ∷ more.0, more.1)) found first.2 in
      let same : (first.0 ∷ second.0.0, second.0.1) ≡ found = ok_is (first.0 ∷ second.0.0, second.0.1) found second.2 in
      let move = move_taken letters line word first.0 first.1 in
      let rest : HistoryTaken words second.0 = later second.0 second.1 in
      subst (λ (f : ClassHistory × List Text). HistoryTaken (word ∷ words) f) same (record {
        spelled = λ i. move.0 i ∷ rest.spelled i;
        moves = (move.1, rest.moves);
        then_shares =
            λ form. let inner : (is_filled word && is_turn words) ≡ true = rw e at form in
            rest.then_shares (both_true (is_filled word) (is_turn words) inner).1;
      })

  history_taken : (words : List Text) (found : ClassHistory × List Text) → history_due letters line words ≡ Ok found
      → HistoryTaken words found
  unfolding history_due
  history_taken [] found h = absurd cc
  history_taken (word ∷ words) found h =
      history_by (bytes_eq word (codes ":")) word words found refl h (history_taken words)

  shares_taken : (words : List Text) (shares : Shares) → shares_due letters line words ≡ Ok shares
      → (words ≡ flat_map (share_words letters) shares)
      × AllByRecursion (IsWritableShare (length letters)) shares
  unfolding shares_due
  shares_taken [] shares h =
      subst (λ (s : Shares). ([] ≡ flat_map (share_words letters) s)
      × AllByRecursion (IsWritableShare (length letters)) s) (ok_is [] shares h) (refl, tt)
  shares_taken (word ∷ []) shares h = absurd cc
  shares_taken (word ∷ number ∷ words) shares h =
      let first = bind_ok (move_due letters line word) (λ move. (number_due line number >>= λ count.
      (shares_due letters line words >>= λ more. Ok ((move, count) ∷ more)))) shares h in
      let second = bind_ok (number_due line number) (λ count. (shares_due letters line words >>= λ more.
      Ok ((first.0, count) ∷ more))) shares first.2 in
      let third = bind_ok (shares_due letters line words) (λ more. Ok ((first.0, second.0) ∷ more)) shares second.2 in
      let move = move_taken letters line word first.0 first.1 in
      let count = number_taken line number second.0 second.1 in
      let rest = shares_taken words third.0 third.1 in
      let share : ClassMove × ℤ = (first.0, second.0) in
      let spelled : word ∷ number ∷ words ≡ flat_map (share_words letters) (share ∷ third.0) =
      (λ i. move.0 i ∷ count.0 i ∷ rest.0 i) ∙ sym (flat_map-cons (share_words letters) share third.0) in
      subst (λ (s : Shares). (word ∷ number ∷ words ≡ flat_map (share_words letters) s)
      × AllByRecursion (IsWritableShare (length letters)) s) (ok_is (share ∷ third.0) shares third.2)
      (spelled, ((move.1, count.1), rest.1))

  some_share : (words : List Text) (shares : Shares) → are_shares words ≡ true
      → words ≡ flat_map (share_words letters) shares → 0 < length shares
  some_share words [] form spelled = let none : false ≡ true = rw spelled at form in absurd cc
  some_share words (share ∷ shares) form spelled = omega arith

  -- the words of a turn, told to be one
  turn_of : (words : List Text) (history : ClassHistory × List Text) (shares : Shares) → is_turn words ≡ true
      → history_due letters line words ≡ Ok history → shares_due letters line history.1 ≡ Ok shares
      → (words ≡ turn_words letters history.0 shares) × IsWritableTurn (length letters) history.0 shares
  unfolding turn_words
  turn_of words history shares form h s =
      let first = history_taken words history h in
      let second = shares_taken history.1 shares s in (
        first.spelled
            ∙ ap (λ (rest : List Text). map (move_word letters) history.0 ++ codes ":" ∷ rest) second.0,
        record {
          moves = All-from_recursion (IsWritableMove (length letters)) history.0 first.moves;
          pairs = All-from_recursion (IsWritableShare (length letters)) shares second.1;
          some = some_share history.1 shares (first.then_shares form) second.0;
        },
      )

  pub plan_row_taken : (words : List Text) (row : Row) → plan_row_due letters line words ≡ Ok row
      → (words ≡ plan_row_words letters row) × IsWritableRow (length letters) row
  unfolding plan_row_due plan_turn_due
  plan_row_taken [] row h = absurd cc
  plan_row_taken (word ∷ words) row h =
      let form = chosen_ok (bytes_eq word (codes "at") && is_turn words) (plan_turn_due letters line words) (Line line)
      row h in
      let tests = both_true (bytes_eq word (codes "at")) (is_turn words) form.0 in
      let history = bind_ok (history_due letters line words) (λ found. (shares_due letters line found.1 >>= λ shares.
      Ok (record { history = found.0; counts = shares }))) row form.1 in
      let shares = bind_ok (shares_due letters line history.0.1) (λ shares.
      Ok (record { history = history.0.0; counts = shares })) row history.2 in
      let made : Row = record { history = history.0.0; counts = shares.0 } in
      let turn = turn_of words history.0 shares.0 tests.1 history.1 shares.1 in
      subst (λ (r : Row). (word ∷ words ≡ plan_row_words letters r) × IsWritableRow (length letters) r)
      (ok_is made row shares.2) ((λ i. same_text word (codes "at") tests.0 i ∷ turn.0 i), turn.1)

  -- the words that counts were read from
  record CountsTaken (words : List Text) (found : ClassLayout × List Text) : Type 0 where
    spelled : words ≡ map decimal found.0 ++ codes "at" ∷ found.1
    small : AllByRecursion (λ count. count ≤ HAND_SIZE) found.0
    then_turn : is_layout_turn words ≡ true → is_turn found.1 ≡ true

  counts_by : (b : Bool) (word : Text) (words : List Text) (found : ClassLayout × List Text)
      → bytes_eq word (codes "at") ≡ b
      → cond b (Ok ([], words)) (small_due HAND_SIZE line word >>= λ count. (counts_due line words >>= λ more.
      Ok (count ∷ more.0, more.1))) ≡ Ok found
      → ((more : ClassLayout × List Text) → counts_due line words ≡ Ok more → CountsTaken words more)
      → CountsTaken (word ∷ words) found
  unfolding is_layout_turn
  counts_by true word words found e h later =
      let same : ([], words) ≡ found = ok_is ([], words) found h in
      subst (λ (f : ClassLayout × List Text). CountsTaken (word ∷ words) f) same (record {
        spelled = ap (λ (w : Text). w ∷ words) (same_text word (codes "at") e);
        small = tt;
        then_turn = λ form. rw e at form;
      })
  counts_by false word words found e h later =
      let first = bind_ok (small_due HAND_SIZE line word) (λ count. (counts_due line words >>= λ more.
      Ok (count ∷ more.0, more.1))) found h in
      let second = bind_ok (counts_due line words) (λ more. Ok (first.0 ∷ more.0, more.1)) found first.2 in
      let same : (first.0 ∷ second.0.0, second.0.1) ≡ found = ok_is (first.0 ∷ second.0.0, second.0.1) found second.2 in
      let count = small_taken HAND_SIZE line word first.0 first.1 in
      let rest : CountsTaken words second.0 = later second.0 second.1 in
      subst (λ (f : ClassLayout × List Text). CountsTaken (word ∷ words) f) same (record {
        spelled = λ i. count.0 i ∷ rest.spelled i;
        small = (count.1, rest.small);
        then_turn =
            λ form. let inner : (is_value word && is_layout_turn words) ≡ true = rw e at form in
            rest.then_turn (both_true (is_value word) (is_layout_turn words) inner).1;
      })

  counts_taken : (words : List Text) (found : ClassLayout × List Text) → counts_due line words ≡ Ok found
      → CountsTaken words found
  unfolding counts_due
  counts_taken [] found h = absurd cc
  counts_taken (word ∷ words) found h =
      counts_by (bytes_eq word (codes "at")) word words found refl h (counts_taken words)

  same_number : (a b : ℕ) → (a == b) ≡ true → a ≡ b
  same_number a b h = grind (arith, nat_tests)

  pub defence_row_taken : (classes : ℕ) (words : List Text) (row : DefenceRow)
      → defence_row_due letters classes line words ≡ Ok row
      → (words ≡ defence_row_words letters row) × IsWritableDefenceRow (length letters) classes row
  unfolding defence_row_due defence_turn_due
  defence_row_taken classes [] row h = absurd cc
  defence_row_taken classes (word ∷ words) row h =
      let form = chosen_ok (bytes_eq word (codes "west") && is_layout_turn words)
      (defence_turn_due letters classes line words) (Line line) row h in
      let tests = both_true (bytes_eq word (codes "west")) (is_layout_turn words) form.0 in
      let counts = bind_ok (counts_due line words) (λ counts. (history_due letters line counts.1 >>= λ found.
      (shares_due letters line found.1 >>= λ shares.
      counted classes line (record { west = counts.0; history = found.0; counts = shares })))) row form.1 in
      let history = bind_ok (history_due letters line counts.0.1) (λ found. (shares_due letters line found.1
      >>= λ shares. counted classes line (record { west = counts.0.0; history = found.0; counts = shares }))) row
      counts.2 in
      let shares = bind_ok (shares_due letters line history.0.1) (λ shares.
      counted classes line (record { west = counts.0.0; history = history.0.0; counts = shares })) row history.2 in
      let made : DefenceRow = record { west = counts.0.0; history = history.0.0; counts = shares.0 } in
      let number = chosen_ok (length made.west == classes) (Ok made) (Count line) row shares.2 in
      let west = counts_taken words counts.0 counts.1 in
      let turn = turn_of counts.0.1 history.0 shares.0 (west.then_turn tests.1) history.1 shares.1 in
      let spelled : words
      ≡ map decimal counts.0.0 ++ codes "at" ∷ turn_words letters history.0.0 shares.0 =
      west.spelled ∙ ap (λ (rest : List Text). map decimal counts.0.0 ++ codes "at" ∷ rest) turn.0 in
      subst
      (λ (r : DefenceRow). (word ∷ words ≡ defence_row_words letters r)
      × IsWritableDefenceRow (length letters) classes r)
      (ok_is made row number.1) (
        (λ i. same_text word (codes "west") tests.0 i ∷ spelled i),
        record {
          blocks = same_number (length made.west) classes number.0;
          small = All-from_recursion (λ count. count ≤ HAND_SIZE) counts.0.0 west.small;
          turn = turn.1;
        },
      )
