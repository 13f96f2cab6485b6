-- `plan_row_back` and `defence_row_back`: a row that is written is read back.
use Rattle.std.proofs.Common.{ℕ, ◌<◌, ◌≤◌, ◌≡◌, ◌==◌, true, false, List, [], ◌∷◌, ◌++◌, length, map, codes, decimal}
use Rattle.std.proofs.Common.{Ok, refl, sym, subst, ap, ◌∙◌, arith, lit<}
use Rattle.std.specs.List.{AllByRecursion, flat_map}
use Rattle.std.specs.Str.{bytes_eq}
use Rattle.std.proofs.lemmas.Bool.Decides.{nat_tests}
use Rattle.std.proofs.lemmas.List.Concat.{flat_map-cons}
use Rattle.std.proofs.lemmas.List.Elements.{recursion_from_All}
use Rattle.suit_cards.specs.Cards.{Text, ClassLayout}
use Rattle.suit_game.specs.declared.limits.TheConstants.{HAND_SIZE}
use Rattle.suit_classes.specs.ClassMoves.{ClassHistory}
use Rattle.suit_plans.specs.Masses.{Shares}
use Rattle.suit_plans.specs.declared.plan.Row.{Row}
use Rattle.suit_plans.specs.declared.defence.DefenceRow.{DefenceRow}
use Rattle.suit_answer.specs.Forms.{are_pairs, are_shares, is_turn, is_layout_turn}
use Rattle.suit_answer.specs.Letters.{move_word}
use Rattle.suit_answer.specs.Rows.{history_due, shares_due, counts_due, plan_turn_due, defence_turn_due}
use Rattle.suit_answer.specs.Rows.{plan_row_due, defence_row_due}
use Rattle.suit_answer.specs.Writable.{IsWritableMove, IsWritableShare, IsWritableTurn, IsWritableRow}
use Rattle.suit_answer.specs.Writable.{IsWritableDefenceRow}
use Rattle.suit_answer.specs.Writing.{share_words, turn_words, plan_row_words, defence_row_words}
use Rattle.suit_answer.proofs.MoveBack.{AreLetters, move_back, move_is_word}
use Rattle.suit_answer.proofs.NumberBack.{AreDigits, decimal_digits, decimal_word, number_back, number_word}
use Rattle.suit_answer.proofs.NumberBack.{small_back}

-- words of bytes above the space
abbrev pub ArePlain : List Text → Type 0
ArePlain words = AllByRecursion (λ (word : Text). AllByRecursion (λ byte. 32 < byte) word) words

plain_both : (words more : List Text) → ArePlain words → ArePlain more → ArePlain (words ++ more)
plain_both [] more h k = k
plain_both (word ∷ words) more h k = (h.0, plain_both words more h.1 k)

no_at : (word : Text) → AreDigits word → bytes_eq word (codes "at") ≡ false
no_at [] h = refl
no_at (byte ∷ word) h =
    let low : byte < 58 = h.0.1 in let other : (byte == 97) ≡ false = grind (arith, nat_tests) in rw other refl

module _ (names : Text) (line : ℕ) (good : AreLetters names) where
  history_back : (moves : ClassHistory) (rest : List Text) → AllByRecursion (IsWritableMove (length names)) moves
      → history_due names line (map (move_word names) moves ++ codes ":" ∷ rest) ≡ Ok (moves, rest)
  unfolding history_due
  history_back [] rest h = refl
  history_back (move ∷ moves) rest h =
      rw (
        (move_is_word names move good h.0).no_colon,
        move_back names line move good h.0,
        history_back moves rest h.1,
      ) refl

  shares_back : (shares : Shares) → AllByRecursion (IsWritableShare (length names)) shares
      → shares_due names line (flat_map (share_words names) shares) ≡ Ok shares
  unfolding shares_due
  shares_back [] h = refl
  shares_back (share ∷ shares) h =
      ap (shares_due names line) (flat_map-cons (share_words names) share shares)
      ∙ rw (
        move_back names line share.0 good h.0.0,
        number_back line share.1 h.0.1,
        shares_back shares h.1,
      ) refl

  pairs_form : (shares : Shares) → AllByRecursion (IsWritableShare (length names)) shares
      → are_pairs (flat_map (share_words names) shares) ≡ true
  unfolding are_pairs
  pairs_form [] h = refl
  pairs_form (share ∷ shares) h =
      let move = move_is_word names share.0 good h.0.0 in
      let count = number_word share.1 h.0.1 in
      ap are_pairs (flat_map-cons (share_words names) share shares)
      ∙ rw (move.some, move.no_colon, count.some, count.no_colon, pairs_form shares h.1) refl

  shares_form : (shares : Shares) → AllByRecursion (IsWritableShare (length names)) shares → 0 < length shares
      → are_shares (flat_map (share_words names) shares) ≡ true
  shares_form [] h some = absurd (omega arith)
  shares_form (share ∷ shares) h some =
      ap are_shares (flat_map-cons (share_words names) share shares)
      ∙ (ap are_pairs (sym (flat_map-cons (share_words names) share shares)) ∙ pairs_form (share ∷ shares) h)

  turn_form : (moves : ClassHistory) (rest : List Text) → AllByRecursion (IsWritableMove (length names)) moves
      → are_shares rest ≡ true → is_turn (map (move_word names) moves ++ codes ":" ∷ rest) ≡ true
  unfolding is_turn
  turn_form [] rest h form = form
  turn_form (move ∷ moves) rest h form =
      let word = move_is_word names move good h.0 in
      rw (word.no_colon, word.some, turn_form moves rest h.1 form) refl

  history_plain : (moves : ClassHistory) → AllByRecursion (IsWritableMove (length names)) moves
      → ArePlain (map (move_word names) moves)
  history_plain [] h = tt
  history_plain (move ∷ moves) h = ((move_is_word names move good h.0).plain, history_plain moves h.1)

  shares_plain : (shares : Shares) → AllByRecursion (IsWritableShare (length names)) shares
      → ArePlain (flat_map (share_words names) shares)
  shares_plain [] h = tt
  shares_plain (share ∷ shares) h =
      subst ArePlain (sym (flat_map-cons (share_words names) share shares))
      ((move_is_word names share.0 good h.0.0).plain, ((number_word share.1 h.0.1).plain, shares_plain shares h.1))

  turn_plain : (history : ClassHistory) (shares : Shares) → IsWritableTurn (length names) history shares
      → ArePlain (turn_words names history shares)
  unfolding turn_words
  turn_plain history shares h =
      plain_both (map (move_word names) history) (codes ":" ∷ flat_map (share_words names) shares)
      (history_plain history (recursion_from_All (IsWritableMove (length names)) history h.moves))
      ((lit< tt, tt), shares_plain shares (recursion_from_All (IsWritableShare (length names)) shares h.pairs))

  pub plan_row_plain : (row : Row) → IsWritableRow (length names) row → ArePlain (plan_row_words names row)
  plan_row_plain row h = ((lit< tt, (lit< tt, tt)), turn_plain row.history row.counts h)

  counts_plain : (counts : ClassLayout) → AllByRecursion (λ count. count ≤ HAND_SIZE) counts
      → ArePlain (map decimal counts)
  counts_plain [] h = tt
  counts_plain (count ∷ counts) h =
      let few : count ≤ HAND_SIZE = h.0 in ((decimal_word count (omega arith)).plain, counts_plain counts h.1)

  pub defence_row_plain : (classes : ℕ) (row : DefenceRow) → IsWritableDefenceRow (length names) classes row
      → ArePlain (defence_row_words names row)
  defence_row_plain classes row h = (
    (lit< tt, (lit< tt, (lit< tt, (lit< tt, tt)))),
    plain_both (map decimal row.west) (codes "at" ∷ turn_words names row.history row.counts)
        (counts_plain row.west (recursion_from_All (λ count. count ≤ HAND_SIZE) row.west h.small))
        ((lit< tt, (lit< tt, tt)), turn_plain row.history row.counts h.turn),
  )

  pub plan_row_back : (row : Row) → IsWritableRow (length names) row
      → plan_row_due names line (plan_row_words names row) ≡ Ok row
  unfolding plan_row_due plan_turn_due turn_words
  plan_row_back row h =
      let moves = recursion_from_All (IsWritableMove (length names)) row.history h.moves in
      let shares = recursion_from_All (IsWritableShare (length names)) row.counts h.pairs in
      rw (
        turn_form row.history (flat_map (share_words names) row.counts) moves (shares_form row.counts shares h.some),
        history_back row.history (flat_map (share_words names) row.counts) moves,
        shares_back row.counts shares,
      ) refl

  counts_back : (counts : ClassLayout) (rest : List Text) → AllByRecursion (λ count. count ≤ HAND_SIZE) counts
      → counts_due line (map decimal counts ++ codes "at" ∷ rest) ≡ Ok (counts, rest)
  unfolding counts_due
  counts_back [] rest h = refl
  counts_back (count ∷ counts) rest h =
      let few : count ≤ HAND_SIZE = h.0 in
      rw (
        no_at (decimal count) (decimal_digits count (omega arith)),
        small_back HAND_SIZE line count few (omega arith),
        counts_back counts rest h.1,
      ) refl

  layout_form : (counts : ClassLayout) (rest : List Text) → AllByRecursion (λ count. count ≤ HAND_SIZE) counts
      → is_turn rest ≡ true → is_layout_turn (map decimal counts ++ codes "at" ∷ rest) ≡ true
  unfolding is_layout_turn
  layout_form [] rest h form = form
  layout_form (count ∷ counts) rest h form =
      let few : count ≤ HAND_SIZE = h.0 in
      let word = decimal_word count (omega arith) in
      rw (
        no_at (decimal count) (decimal_digits count (omega arith)),
        word.some,
        word.no_colon,
        layout_form counts rest h.1 form,
      ) refl

  counted_all : (n : ℕ) → (n == n) ≡ true
  counted_all n = grind (arith, nat_tests)

  pub defence_row_back : (row : DefenceRow) (classes : ℕ) → IsWritableDefenceRow (length names) classes row
      → defence_row_due names classes line (defence_row_words names row) ≡ Ok row
  unfolding defence_row_due defence_turn_due turn_words
  defence_row_back row classes h =
      let moves = recursion_from_All (IsWritableMove (length names)) row.history h.turn.moves in
      let shares = recursion_from_All (IsWritableShare (length names)) row.counts h.turn.pairs in
      let west = recursion_from_All (λ count. count ≤ HAND_SIZE) row.west h.small in
      let turn = map (move_word names) row.history ++ codes ":" ∷ flat_map (share_words names) row.counts in
      rw (
        layout_form row.west turn west (turn_form row.history (flat_map (share_words names) row.counts) moves
            (shares_form row.counts shares h.turn.some)),
        counts_back row.west turn west,
        history_back row.history (flat_map (share_words names) row.counts) moves,
        shares_back row.counts shares,
        h.blocks,
        counted_all classes,
      ) refl
