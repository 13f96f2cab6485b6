-- How the mass of a class history is shared out at a choice of the defence, as what reads a defence takes it
-- (`prices_here`), that none of it is negative (`through_low`), what a move lets through (`mass_below`), and the row
-- (`row_told`).
use Rattle.std.proofs.Common.{◌≡◌, ℕ, ◌+◌, ◌<◌, ◌≤◌, Bool, true, false, List, [], ◌∷◌, ◌++◌, length, map, take, drop}
use Rattle.std.proofs.Common.{get_or, refl, sym, ap, ◌∙◌, subst, arith, Option, Some, None}
use Rattle.std.specs.Prelude.{◌&&◌, filter, if◌then◌else◌, ℤ, pos, ◌-ℤ◌, ◌≤ℤ◌, All}
use Rattle.std.specs.Int.{int_min}
use Rattle.std.specs.List.{flat_map}
use Rattle.std.proofs.lemmas.Bool.{and_parts}
use Rattle.std.proofs.lemmas.Int.{clamps, ints}
use Rattle.std.proofs.lemmas.List.{at_drop_more, drop_more}
use Rattle.std.proofs.lemmas.List.Elements.{recursion_from_All}
use Rattle.suit_lists.proofs.Once.{IsOnce}
use Rattle.suit_cards.specs.Cards.{ClassLayout}
use Rattle.suit_game.specs.declared.question.Question.{Question}
use Rattle.suit_classes.specs.declared.class_moves.ClassMove.{ClassMove}
use Rattle.suit_classes.specs.ClassMoves.{ClassHistory, same_class_move}
use Rattle.suit_plans.specs.declared.defence.DefenceRow.{DefenceRow}
use Rattle.suit_plans.specs.Masses.{Shares, count_of}
use Rattle.suit_plans.proofs.SharesAddUpToTheMass.{count_case}
use Rattle.suit_program.specs.Walks.DefenceWalks.{their_row, their_row_of}
use Rattle.suit_program.specs.Walks.PlanWalks.{shares_here}
use Rattle.suit_program.specs.Programs.{Answered, Limit, limits}
use Rattle.suit_program.specs.Readings.{Reading, defence_reading, filled, has_row, price_of, read_mass, read_shares}
use Rattle.suit_program.specs.Readings.{row_counts}
use Rattle.suit_program.specs.Readings.Sharing.{counted, through}
use Rattle.suit_program.specs.Supports.{Support, is_reached, supported_moves}
use Rattle.suit_program.proofs.lemmas.Programs.PricesByName.{price_at, price_low}
use Rattle.suit_program.proofs.lemmas.Readings.MassesNoLess.{read_mass-push}
use Rattle.suit_program.proofs.lemmas.Supports.WhatIsReached.{reached-push}
use Rattle.suit_program.proofs.lemmas.Readings.MassSharedOut.{AreLow, low_mapped}

-- ---- prices

-- the prices of the answers to a choice are those in their places
pub prices_here : (all : List Limit) (prices : List ℤ) (west : ClassLayout) (history : ClassHistory)
    (moves : List ClassMove)
    (row : ℕ) (rest : List Limit) → IsOnce all → length prices ≡ length all
    → drop row all ≡ map (Answered west history) moves ++ rest → row + length moves ≤ length all
    → counted moves (take (length moves) (drop row prices))
    ≡ map (λ move. (move, price_of all prices west history move)) moves
unfolding counted
prices_here all prices west history [] row rest once long from within = refl
prices_here all prices west history (move ∷ moves) row rest once long from within =
    let below : row < length all = omega (arith, within) in
    let under : row < length prices = omega (arith, below, long) in
    let parts = drop_more all row (Answered west history move) below in
    let is : get_or all row (Answered west history move) ≡ Answered west history move = cc (parts, from) in
    let next : drop (row + 1) all ≡ map (Answered west history) moves ++ rest = cc (parts, from) in
    let later = prices_here all prices west history moves (row + 1) rest once long next (omega (arith, within)) in
    let price = price_at all prices row (Answered west history move) west history move once long below is in
    ap (counted (move ∷ moves))
    (at_drop_more (λ (l : List ℤ). take (length (move ∷ moves)) l) prices row (pos 0) under)
    ∙ ap (λ (z : ℤ). (move, z) ∷ counted moves (take (length moves) (drop (row + 1) prices))) (sym price)
    ∙ ap (λ (l : Shares). (move, price_of all prices west history move) ∷ l) later

-- ---- none is negative

filled_low : (mass : ℤ) (shares : Shares) → pos 0 ≤ℤ mass → AreLow shares → AreLow (filled mass shares)
unfolding filled
filled_low mass [] some low = tt
filled_low mass (count ∷ shares) some low = (
  taken count.1 mass low.0 some,
  filled_low (mass -ℤ int_min count.1 mass) shares (left count.1 mass some) low.1,
)
  where
    left : (x mass : ℤ) → pos 0 ≤ℤ mass → pos 0 ≤ℤ (mass -ℤ int_min x mass)
    left x mass some = omega (arith, ints, clamps, some)

    taken : (x mass : ℤ) → pos 0 ≤ℤ x → pos 0 ≤ℤ mass → pos 0 ≤ℤ int_min x mass
    taken x mass low some = omega (arith, ints, clamps, low, some)

count_low : (shares : Shares) (move : ClassMove) → AreLow shares → pos 0 ≤ℤ count_of shares move
unfolding count_of
count_low [] move low = omega (arith, ints)
count_low (count ∷ shares) move low =
    count_case (same_class_move count.0 move) count.1 (count_of shares move) low.0 (count_low shares move low.1)

module _ (question : Question) (support : Support) (prices : List ℤ) (scale : ℤ) (west : ClassLayout)
    (history : ClassHistory) where
  abbrev pub reading : Reading
  reading = defence_reading question support prices scale west

  abbrev pub shares_in : Option Shares
  shares_in = if is_reached question support west history then shares_here reading history else None

  -- ---- what a move lets through

  low_case : (reached chooses : Bool) (mass : ℤ) (move : ClassMove) → All (λ price. pos 0 ≤ℤ price) prices
      → (is_reached question support west history ≡ true → mass ≡ read_mass reading history)
      → is_reached question support west history ≡ reached
      → pos 0 ≤ℤ mass
      → pos 0 ≤ℤ through (if reached then (if chooses then Some (read_shares reading history) else None) else None)
      mass move
  low_case false chooses mass move low is there some = some
  low_case true false mass move low is there some = some
  low_case true true mass move low is there some =
      count_low (read_shares reading history) move
      (filled_low (read_mass reading history)
      (map (λ move. (move, price_of (limits question support) prices west history move))
      (supported_moves question support west history))
      (subst (λ (z : ℤ). pos 0 ≤ℤ z) (is there) some)
      (low_mapped (λ move. price_of (limits question support) prices west history move)
      (supported_moves question support west history)
      (λ move. price_low (limits question support) prices west history move
      (recursion_from_All (λ (price : ℤ). pos 0 ≤ℤ price) prices low))))

  -- it is not negative
  pub through_low : (shares : Option Shares) (mass : ℤ) (move : ClassMove) → shares ≡ shares_in
      → All (λ price. pos 0 ≤ℤ price) prices
      → (is_reached question support west history ≡ true → mass ≡ read_mass reading history)
      → pos 0 ≤ℤ mass → pos 0 ≤ℤ through shares mass move
  through_low shares mass move same low is some =
      subst (λ (o : Option Shares). pos 0 ≤ℤ through o mass move) (sym same)
      (low_case (is_reached question support west history) (reading.chooses history) mass move low is refl some)

  through_case : (chooses : Bool) (mass : ℤ) (move : ClassMove) → mass ≡ read_mass reading history
      → through (if chooses then Some (read_shares reading history) else None) mass move
      ≡ (if chooses then count_of (read_shares reading history) move else read_mass reading history)
  through_case true mass move is = refl
  through_case false mass move is = is

  -- it is the mass after the move, where that is reached
  pub mass_below : (shares : Option Shares) (mass : ℤ) (move : ClassMove) → shares ≡ shares_in
      → (is_reached question support west history ≡ true → mass ≡ read_mass reading history)
      → is_reached question support west (history ++ move ∷ []) ≡ true
      → through shares mass move ≡ read_mass reading (history ++ move ∷ [])
  mass_below shares mass move same is reached =
      let there : is_reached question support west history ≡ true =
      (and_parts _ _ (sym (reached-push question support west history move) ∙ reached)).0 in
      ap (λ (o : Option Shares). through o mass move)
      (same ∙ ap (λ (b : Bool). if b then shares_here reading history else None) there)
      ∙ through_case (reading.chooses history) mass move (is there)
      ∙ sym (read_mass-push reading history move)

  -- ---- the row

  row_case : (reached chooses : Bool) (mass : ℤ)
      → is_reached question support west history ≡ reached → reading.chooses history ≡ chooses
      → (is_reached question support west history ≡ true → mass ≡ read_mass reading history)
      → their_row_of west history mass (if reached then (if chooses then Some (read_shares reading history) else None)
      else None)
      ≡ their_row question support west reading history
  unfolding has_row row_counts
  row_case false chooses mass there choice is =
      ap (λ (b : Bool). if b && has_row reading history
      then record { west = west; history = history; counts = row_counts reading history } ∷ [] else []) (sym there)
  row_case true false mass there choice is =
      ap (λ (b : Bool). if b then record { west = west; history = history; counts = row_counts reading history } ∷ []
      else []) (sym none)
    where
      none : (is_reached question support west history && has_row reading history) ≡ false
      none = rw there (rw choice refl)
  row_case true true mass there choice is =
      rw there (rw choice (rw (is there) refl))

  pub row_told : (shares : Option Shares) (mass : ℤ) → shares ≡ shares_in
      → (is_reached question support west history ≡ true → mass ≡ read_mass reading history)
      → their_row_of west history mass shares ≡ their_row question support west reading history
  row_told shares mass same is =
      ap (their_row_of west history mass) same
      ∙ row_case (is_reached question support west history) (reading.chooses history) mass refl refl is

-- the rows of a class layout, one by one
pub rows_kept : (row : ClassHistory → DefenceRow) (test : ClassHistory → Bool) (histories : List ClassHistory)
    → flat_map (λ history. if test history then row history ∷ [] else []) histories ≡ map row (filter test histories)
rows_kept row test [] = refl
rows_kept row test (history ∷ histories) = one (test history) (rows_kept row test histories)
  where
    one : (b : Bool)
        → flat_map (λ history. if test history then row history ∷ [] else []) histories
        ≡ map row (filter test histories)
        → (if b then row history ∷ [] else [])
        ++ flat_map (λ history. if test history then row history ∷ [] else []) histories
        ≡ map row (if b then history ∷ filter test histories else filter test histories)
    one true later = ap (λ (l : List DefenceRow). row history ∷ l) later
    one false later = later
