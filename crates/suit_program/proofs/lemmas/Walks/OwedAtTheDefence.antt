-- A turn of the defence: its columns and rows, and what is handed on, make up for what is owed (`theirs_told`).
use Rattle.std.proofs.Common.{◌≡◌, ℕ, suc, ◌+◌, ◌≤◌, Bool, true, false, List, [], ◌∷◌, ◌++◌, length, map, refl}
use Rattle.std.proofs.Common.{sym, ap, ◌∙◌, subst, arith}
use Rattle.std.specs.Prelude.{Contains, ◌==◌, if◌then◌else◌, nat_lt, ℤ, pos, negsuc, ◌+ℤ◌, ◌-ℤ◌, ◌*ℤ◌}
use Rattle.std.proofs.lemmas.Bool.{and_parts, false≢true, false_from_ne_true}
use Rattle.std.proofs.lemmas.Int.{ints}
use Rattle.suit_lists.proofs.Elements.{Contains-first, Contains-later, each_at}
use Rattle.suit_lists.proofs.Maps.{map_same}
use Rattle.suit_lists.proofs.Once.{IsOnce}
use Rattle.suit_cards.specs.Cards.{ClassLayout}
use Rattle.suit_game.specs.declared.question.Question.{Question}
use Rattle.suit_game.specs.Validity.{IsValid}
use Rattle.suit_game.specs.declared.limits.TheConstants.{MOST_MOVES}
use Rattle.suit_classes.specs.declared.class_moves.ClassMove.{ClassMove}
use Rattle.suit_classes.specs.ClassMoves.{same_class_move}
use Rattle.suit_classes.specs.ClassPlaces.{class_after, class_decided, class_turn}
use Rattle.suit_classes.proofs.SameMoves.{same_move-itself, same_move_is}
use Rattle.suit_classes.proofs.UndecidedHasAMove.{some_move}
use Rattle.suit_plans.specs.Masses.{is_declarers}
use Rattle.suit_plans.specs.Properness.{sum_of}
use Rattle.suit_plans.specs.ReplyLaws.{counts_at}
use Rattle.suit_program.specs.declared.walks.ledger.Account.{Account}
use Rattle.suit_program.specs.Walks.Ledgers.{credit}
use Rattle.suit_program.specs.Programs.Points.{Held, Point}
use Rattle.suit_program.specs.Programs.{Answered, Limit, answered_limits, excess}
use Rattle.suit_program.specs.Supports.{Support, declarer_chooses, defence_chooses, legal_moves, supported_moves}
use Rattle.suit_program.specs.Walks.Writing.{AnswerView, advanced, answered_rows, held_at, held_in, layout_of, opened}
use Rattle.suit_program.specs.Walks.Writing.{owed, place_in, told}
use Rattle.suit_program.specs.Programs.Worths.{worth_at}
use Rattle.suit_program.proofs.lemmas.Walks.AccountsByLayout.{IsThere}
use Rattle.suit_program.proofs.lemmas.Supports.WhatIsReached.{reached_allows}
use Rattle.suit_program.proofs.lemmas.Supports.TurnCases.{Ended, Forced, Own, Theirs, TurnAt, legal_going}
use Rattle.suit_program.proofs.lemmas.Supports.TurnCases.{supported_once, turn_at}
use Rattle.suit_program.proofs.lemmas.Programs.WorthByMoves.{reached_short, worth_held, worth_summed}
use Rattle.suit_program.proofs.lemmas.Walks.OwedIsSharedOut.{at_next, at_zero, told_append}

-- ---- one class layout

-- what a row of this number is credited with
abbrev credited : ℕ → ℕ → ℤ → ℤ → ℤ
credited row number factor worth = if number == row then factor *ℤ worth else pos 0

place_first : (first : ClassMove) (moves : List ClassMove) → place_in (first ∷ moves) first ≡ 0
unfolding place_in
place_first first moves =
    ap (λ (b : Bool). if b then 0 else suc (place_in moves first)) (same_move-itself first)

place_later : (first : ClassMove) (moves : List ClassMove) (move : ClassMove) → (first ≡ move → ⊥)
    → place_in (first ∷ moves) move ≡ suc (place_in moves move)
unfolding place_in
place_later first moves move apart =
    ap (λ (b : Bool). if b then 0 else suc (place_in moves move))
    (false_from_ne_true (same_class_move first move) (λ same. apart (same_move_is first move same)))

-- the first row of some and the others
first_row : (b : Bool) (held worth before after told : ℤ) → before +ℤ after ≡ told
    → ((if b then held else pos 0) +ℤ before) +ℤ ((if b then negsuc 0 *ℤ worth else pos 0) +ℤ after)
    ≡ (if b then held -ℤ worth else pos 0) +ℤ told
first_row true held worth before after told is = omega (arith, ints, is)
first_row false held worth before after told is = omega (arith, ints, is)

-- of rows that each start with the column every one is credited with what its move is worth
placed_rows : (west : ClassLayout) (history : List ClassMove) (held : ℤ) (worth : ClassMove → ℤ) (row : ℕ)
    (before after : Limit → ℤ) → ((move : ClassMove) → before (Answered west history move) ≡ held)
    → ((move : ClassMove) → after (Answered west history move) ≡ held -ℤ worth move)
    → (moves : List ClassMove) → IsOnce moves → (first : ℕ)
    → told before first (map (Answered west history) moves) row
    +ℤ sum_of (map (λ move. credited row (first + place_in moves move) (negsuc 0) (worth move)) moves)
    ≡ told after first (map (Answered west history) moves) row
unfolding told sum_of IsOnce
placed_rows west history held worth row before after starts ends [] once first = omega (arith, ints)
placed_rows west history held worth row before after starts ends (move ∷ moves) once first =
    let later = placed_rows west history held worth row before after starts ends moves once.1 (suc first) in
    let b : Bool = first == row in
    let rows : ℤ = told before (suc first) (map (Answered west history) moves) row in
    let all : ClassMove → ℤ =
    λ other. credited row (first + place_in (move ∷ moves) other) (negsuc 0) (worth other) in
    let others : ClassMove → ℤ =
    λ other. credited row (suc first + place_in moves other) (negsuc 0) (worth other) in
    let here : all move ≡ credited row first (negsuc 0) (worth move) =
    ap (λ (n : ℕ). credited row n (negsuc 0) (worth move))
    (ap (λ (n : ℕ). first + n) (place_first move moves) ∙ at_zero first) in
    let there : sum_of (map all moves) ≡ sum_of (map others moves) =
    ap sum_of (map_same all others moves
    (λ other found. ap (λ (n : ℕ). credited row n (negsuc 0) (worth other))
    (ap (λ (n : ℕ). first + n) (place_later move moves other
    (each_at (λ other. move ≡ other → ⊥) moves other once.0 found))
    ∙ sym (at_next first (place_in moves other))))) in
    ap (λ (z : ℤ). ((if b then z else pos 0) +ℤ rows) +ℤ sum_of (map all (move ∷ moves))) (starts move)
    ∙ ap (λ (z : ℤ). ((if b then held else pos 0) +ℤ rows) +ℤ z)
    (ap (λ (z : ℤ). z +ℤ sum_of (map all moves)) here
    ∙ ap (λ (z : ℤ). credited row first (negsuc 0) (worth move) +ℤ z) there)
    ∙ first_row b held (worth move) rows (sum_of (map others moves))
    (told after (suc first) (map (Answered west history) moves) row) later
    ∙ ap (λ (z : ℤ). (if b then z else pos 0) +ℤ told after (suc first) (map (Answered west history) moves) row)
    (sym (ends move))

-- where play is not decided there is a legal move
pub some_legal : (question : Question) (support : Support) (history : List ClassMove) → IsValid question
    → class_decided (class_after question history) ≡ false → (account : Account)
    → IsThere question support history account → legal_moves question (counts_at question account.index) history ≡ []
    → ⊥
some_legal question support history valid not_over account there none =
    let west : ClassLayout = counts_at question account.index in
    let some = some_move question west history
    (reached_allows question support valid (layout_of question account) there.listed history there.reached) not_over in
    apart (sym none ∙ legal_going question support west history west not_over ∙ some.parts)
  where
    apart : {move : ClassMove} {moves : List ClassMove} → [] ≡ move ∷ moves → ⊥
    apart is = cc

module _ (question : Question) (support : Support) (point : Point) (history : List ClassMove) (row : ℕ) where
  abbrev pub worth_in : Account → ClassMove → ℤ
  worth_in account move =
      worth_at question support point (counts_at question account.index) (history ++ move ∷ [])

  -- what the moves in a class layout hand on
  abbrev pub handed : AnswerView → ℤ
  handed answer = sum_of (map (λ move. credit row (advanced move answer) (worth_in answer.0 move)) answer.1)

  -- what is written for a class layout and handed on, and what that comes to
  abbrev one_before : Account → ℕ → List ClassMove → Bool → ℤ
  one_before account first moves chooses =
      let west : ClassLayout = counts_at question account.index in
      (if chooses then credit row account (point.at (Held west history)) else pos 0)
      +ℤ (told (held_at point) first (if chooses then map (Answered west history) moves else []) row
      +ℤ handed (if chooses then record { index = account.index; row = first; factor = negsuc 0 } else account, moves))

  abbrev one_after : Account → ℕ → List ClassMove → Bool → ℤ
  one_after account first moves chooses =
      let west : ClassLayout = counts_at question account.index in
      credit row account (worth_at question support point west history)
      +ℤ told (excess question support point) first (if chooses then map (Answered west history) moves else []) row

  chosen_told : (account : Account) (first : ℕ)
      → length history ≤ MOST_MOVES → defence_chooses question (counts_at question account.index) history ≡ true
      → one_before account first (supported_moves question support (counts_at question account.index) history) true
      ≡ one_after account first (supported_moves question support (counts_at question account.index) history) true
  unfolding excess
  chosen_told account first short chooses =
      let west : ClassLayout = counts_at question account.index in
      let moves : List ClassMove = supported_moves question support west history in
      let rows = placed_rows west history (point.at (Held west history)) (worth_in account) row (held_at point)
      (excess question support point) (λ move. refl) (λ move. refl) moves
      (supported_once question support west history) first in
      ap (λ (z : ℤ). credit row account (point.at (Held west history)) +ℤ z) rows
      ∙ ap (λ (z : ℤ). credit row account z
      +ℤ told (excess question support point) first (map (Answered west history) moves) row)
      (sym (worth_held question support point west history short chooses))

  forced_told : (account : Account) (first : ℕ) (move : ClassMove) (moves : List ClassMove) → moves ≡ move ∷ []
      → worth_at question support point (counts_at question account.index) history
      ≡ sum_of (map (worth_in account) moves)
      → one_before account first moves false ≡ one_after account first moves false
  unfolding told sum_of
  forced_told account first move moves only is =
      let moved : Account = advanced move (account, move ∷ []) in
      let stays : credit row moved (worth_in account move) ≡ credit row account (worth_in account move) =
      ap (λ (n : ℕ). credited row n account.factor (worth_in account move))
      (ap (λ (n : ℕ). account.row + n) (place_first move []) ∙ at_zero account.row) in
      let alone : sum_of (map (worth_in account) moves) ≡ worth_in account move =
      ap (λ (l : List ClassMove). sum_of (map (worth_in account) l)) only ∙ last (worth_in account move) in
      ap (λ (l : List ClassMove). pos 0 +ℤ (pos 0 +ℤ handed (account, l))) only
      ∙ finish (credit row moved (worth_in account move)) (credit row account (worth_in account move))
      (credit row account (worth_at question support point (counts_at question account.index) history)) stays
      (ap (credit row account) (is ∙ alone))
    where
      last : (x : ℤ) → x +ℤ pos 0 ≡ x
      last x = omega (arith, ints)

      finish : (x y z : ℤ) → x ≡ y → z ≡ y → pos 0 +ℤ (pos 0 +ℤ (x +ℤ pos 0)) ≡ z +ℤ pos 0
      finish x y z p q = omega (arith, ints, p, q)

  module _ (valid : IsValid question) (not_over : class_decided (class_after question history) ≡ false)
      (not_own : is_declarers (class_turn (class_after question history)) ≡ false) where
    -- what is written for one class layout, and what is handed on, make up for what is owed
    one_told : (account : Account) (first : ℕ) → IsThere question support history account
        → TurnAt question support (counts_at question account.index) history
        → one_before account first (supported_moves question support (counts_at question account.index) history)
        (defence_chooses question (counts_at question account.index) history)
        ≡ one_after account first (supported_moves question support (counts_at question account.index) history)
        (defence_chooses question (counts_at question account.index) history)
    unfolding declarer_chooses
    one_told account first there (Ended none nothing not) = absurd
        (some_legal question support history valid not_over account there none)
    one_told account first there (Forced move alone only not same) =
        let west : ClassLayout = counts_at question account.index in
        let moves : List ClassMove = supported_moves question support west history in
        let short = reached_short question support valid (layout_of question account) there.listed history there.reached
        in
        subst (λ (b : Bool). one_before account first moves b ≡ one_after account first moves b) (sym not.1)
        (forced_told account first move moves only
        (worth_summed question support point west history short moves not.1 refl
        (record { first = move; more = []; parts = only })))
    one_told account first there (Own chooses not same some) =
        absurd (false≢true (sym not_own
        ∙ (and_parts (is_declarers (class_turn (class_after question history)))
        (nat_lt 1 (length (legal_moves question [] history))) chooses).0))
    one_told account first there (Theirs chooses some same) =
        let west : ClassLayout = counts_at question account.index in
        let moves : List ClassMove = supported_moves question support west history in
        let short = reached_short question support valid (layout_of question account) there.listed history there.reached
        in
        subst (λ (b : Bool). one_before account first moves b ≡ one_after account first moves b) (sym chooses)
        (chosen_told account first short chooses)

    joined : (a b c d e f g h i j k l : ℤ) → a +ℤ (b +ℤ c) ≡ d +ℤ e → f +ℤ (g +ℤ h) ≡ i +ℤ j → k ≡ b +ℤ g
        → l ≡ e +ℤ j → (a +ℤ f) +ℤ (k +ℤ (c +ℤ h)) ≡ (d +ℤ i) +ℤ l
    joined a b c d e f g h i j k l one others before after = omega (arith, ints, one, others, before, after)

    -- for all
    pub theirs_told : (accounts : List Account) (first : ℕ)
        → ((account : Account) → Contains accounts account → IsThere question support history account)
        → held_in question point history accounts row
        +ℤ (told (held_at point) first (answered_rows question support history accounts) row
        +ℤ sum_of (map handed (opened question support history first accounts)))
        ≡ owed question support point history accounts row
        +ℤ told (excess question support point) first (answered_rows question support history accounts) row
    unfolding opened sum_of told answered_limits
    theirs_told [] first each = omega (arith, ints)
    theirs_told (account ∷ accounts) first each =
        let west : ClassLayout = counts_at question account.index in
        let rows : List Limit = answered_limits question support history (layout_of question account) in
        let others : List Limit = answered_rows question support history accounts in
        joined
        (if defence_chooses question west history then credit row account (point.at (Held west history)) else pos 0)
        (told (held_at point) first rows row)
        (handed (
          if defence_chooses question west history
              then record { index = account.index; row = first; factor = negsuc 0 }
              else account,
          supported_moves question support west history,
        )) (credit row account (worth_at question support point west history))
        (told (excess question support point) first rows row)
        (held_in question point history accounts row)
        (told (held_at point) (first + length rows) others row)
        (sum_of (map handed (opened question support history (first + length rows) accounts)))
        (owed question support point history accounts row)
        (told (excess question support point) (first + length rows) others row)
        (told (held_at point) first (rows ++ others) row)
        (told (excess question support point) first (rows ++ others) row)
        (one_told account first (each account (Contains-first account accounts))
        (turn_at question support west history))
        (theirs_told accounts (first + length rows)
        (λ other found. each other (Contains-later account accounts other found)))
        (told_append (held_at point) first rows others row)
        (told_append (excess question support point) first rows others row)
