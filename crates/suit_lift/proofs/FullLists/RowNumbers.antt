-- Rows that name the weights of a way: their list has the way's weights (rows_tell, defence_rows_tell).
use Rattle.std.proofs.Common.{◌≡◌, ℕ, ◌<◌, ◌&&◌, Bool, List, [], ◌∷◌, map, refl, sym, ap, ◌∙◌, subst}
use Rattle.std.proofs.Common.{inl, inr}
use Rattle.std.specs.Prelude.{Contains, ℤ, pos, bytes_eq}
use Rattle.std.specs.Bool.{Decides}
use Rattle.std.specs.List.{sum_by}
use Rattle.std.proofs.lemmas.Bool.{and_from, and_parts, cases_Bool, false≢true}
use Rattle.std.proofs.lemmas.List.Elements.{All-from_recursion}
use Rattle.std.proofs.lemmas.Slice.Eq.{bytes_eq-Decides}
use Rattle.suit_lists.proofs.Elements.{Contains-cons_cases, Contains-nil, each_contained}
use Rattle.suit_lists.proofs.Maps.{each_map}
use Rattle.suit_lists.proofs.Sums.{some_term}
use Rattle.suit_cards.specs.Cards.{Cards}
use Rattle.suit_game.specs.declared.question.Question.{Question}
use Rattle.suit_game.specs.declared.moves.Move.{Move}
use Rattle.suit_game.specs.Histories.{History}
use Rattle.suit_game.specs.Positions.{legal}
use Rattle.suit_game.specs.Strategies.{DefenceWay, DefenceWayRow, Way, WayRow, by_defence_rows, by_rows, number_of}
use Rattle.suit_game.specs.Strategies.{same_move, same_play}
use Rattle.suit_game.proofs.SameCardMoves.{decides_same_move}
use Rattle.suit_lift.specs.FullLists.{NamesMoves}

-- each of some moves with its weight
abbrev pub numbers_for : (Move → ℕ) → List Move → List (Move × ℤ)
numbers_for weight_of moves = map (λ (move : Move). (move, pos (weight_of move))) moves

-- so each has its weight as its number
pub number_is : (weight_of : Move → ℕ) (moves : List Move) (move : Move) → Contains moves move
    → number_of (numbers_for weight_of moves) move ≡ weight_of move
unfolding number_of
number_is weight_of [] move found = absurd (Contains-nil move found)
number_is weight_of (first ∷ moves) move found = elim (cases_Bool (same_move first move)) [
  | inl same ↦ rw same (ap weight_of ((decides_same_move first move).0 same))
  | inr differs ↦ rw differs (elim (Contains-cons_cases first moves move found) [
    | inl here ↦ absurd (false≢true (sym differs ∙ (decides_same_move first move).1 here))
    | inr there ↦ number_is weight_of moves move there
  ])
]

-- they name those moves alone, and where the weights are not all 0, one has weight
pub names_moves : (weight_of : Move → ℕ) (moves : List Move) → 0 < sum_by weight_of moves
    → NamesMoves moves (numbers_for weight_of moves)
names_moves weight_of moves weighs =
    let some = some_term weight_of moves weighs in
    record {
      alone = All-from_recursion (λ (pair : Move × ℤ). Contains moves pair.0) (numbers_for weight_of moves)
          (each_map (λ (pair : Move × ℤ). Contains moves pair.0) (λ (move : Move). (move, pos (weight_of move))) moves
          (each_contained moves));
      some = (
        some.0,
        some.1,
        subst (λ (n : ℕ). 0 < n) (sym (number_is weight_of moves some.0 some.1)) some.2,
      );
    }

-- histories are told equal exactly where they are
pub decides_same_play : (here there : History) → Decides (same_play here there) (here ≡ there)
unfolding same_play
decides_same_play [] [] = (λ same. refl, λ same. refl)
decides_same_play [] (other ∷ others) = (λ same. absurd (false≢true same), λ same. absurd (cc))
decides_same_play (move ∷ moves) [] = (λ same. absurd (false≢true same), λ same. absurd (cc))
decides_same_play (move ∷ moves) (other ∷ others) = (
  (λ same.
      let parts = and_parts (same_move move other) (same_play moves others) same in
      let first : move ≡ other = (decides_same_move move other).0 parts.0 in
      let later : moves ≡ others = (decides_same_play moves others).0 parts.1 in
      cc),
  (λ same.
      let first : move ≡ other = cc in
      let later : moves ≡ others = cc in
      and_from (same_move move other) (same_play moves others) ((decides_same_move move other).1 first)
      ((decides_same_play moves others).1 later)),
)

-- the row of a way for a history at declarer's turn
abbrev pub row_for : Question → Way → History → WayRow
row_for question way history =
    record { history = history; numbers = numbers_for (way history) (legal question [] history) }

pub rows_tell : (question : Question) (way : Way) (keys : List History) (history : History) (move : Move)
    → Contains keys history
    → by_rows (map (row_for question way) keys) history move
    ≡ number_of (numbers_for (way history) (legal question [] history)) move
unfolding by_rows
rows_tell question way [] history move found = absurd (Contains-nil history found)
rows_tell question way (key ∷ keys) history move found = elim (cases_Bool (same_play key history)) [
  | inl same ↦ rw same (ap (λ (line : History). number_of (numbers_for (way line) (legal question [] line)) move)
      ((decides_same_play key history).0 same))
  | inr differs ↦ rw differs (elim (Contains-cons_cases key keys history found) [
    | inl here ↦ absurd (false≢true (sym differs ∙ (decides_same_play key history).1 here))
    | inr there ↦ rows_tell question way keys history move there
  ])
]

-- a layout and a history
abbrev pub DefenceKey : Type 0
DefenceKey = Cards × History

abbrev pub same_key : DefenceKey → DefenceKey → Bool
same_key here there = bytes_eq here.0 there.0 && same_play here.1 there.1

key_of_parts : (west other : Cards) (history line : History) → west ≡ other → history ≡ line
    → (λ (key : DefenceKey). key) (west, history) ≡ (other, line)
key_of_parts west other history line same alike = cc

pub decides_same_key : (here there : DefenceKey) → Decides (same_key here there) (here ≡ there)
decides_same_key here there = (
  (λ same.
      let parts = and_parts (bytes_eq here.0 there.0) (same_play here.1 there.1) same in
      key_of_parts here.0 there.0 here.1 there.1 ((bytes_eq-Decides here.0 there.0).0 parts.0)
      ((decides_same_play here.1 there.1).0 parts.1)),
  (λ same.
      and_from (bytes_eq here.0 there.0) (same_play here.1 there.1)
      ((bytes_eq-Decides here.0 there.0).1 (ap (λ (key : DefenceKey). key.0) same))
      ((decides_same_play here.1 there.1).1 (ap (λ (key : DefenceKey). key.1) same))),
)

-- the row of a way for a layout and a history at the defenders' turn
abbrev pub defence_row_for : Question → DefenceWay → DefenceKey → DefenceWayRow
defence_row_for question way key = record {
  west = key.0;
  history = key.1;
  numbers = numbers_for (way key.0 key.1) (legal question key.0 key.1);
}

pub defence_rows_tell : (question : Question) (way : DefenceWay) (keys : List DefenceKey) (key : DefenceKey)
    (move : Move)
    → Contains keys key
    → by_defence_rows (map (defence_row_for question way) keys) key.0 key.1 move
    ≡ number_of (numbers_for (way key.0 key.1) (legal question key.0 key.1)) move
unfolding by_defence_rows
defence_rows_tell question way [] key move found = absurd (Contains-nil key found)
defence_rows_tell question way (first ∷ keys) key move found = elim (cases_Bool (same_key first key)) [
  | inl same ↦ rw same
      (ap (λ (it : DefenceKey). number_of (numbers_for (way it.0 it.1) (legal question it.0 it.1)) move)
      ((decides_same_key first key).0 same))
  | inr differs ↦ rw differs (elim (Contains-cons_cases first keys key found) [
    | inl here ↦ absurd (false≢true (sym differs ∙ (decides_same_key first key).1 here))
    | inr there ↦ defence_rows_tell question way keys key move there
  ])
]
