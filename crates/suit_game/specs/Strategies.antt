-- Strategies: weights for the moves of a side, and the lists of rows that name them.
use Rattle.std.specs.Prelude.{ℕ, zero, suc, ◌==◌, ◌&&◌, Bool, true, false, List, [], ◌∷◌, ℤ, pos, negsuc, if◌then◌else◌}
use Rattle.suit_cards.specs.declared.seats.Seat.{Seat}
use Rattle.suit_cards.specs.declared.seats.Seat.TheVariants.{N, E, S, W}
use Rattle.suit_cards.specs.Cards.{Cards, same_numbers}
use Rattle.suit_game.specs.declared.moves.Move.{Move}
use Rattle.suit_game.specs.declared.moves.Move.TheVariants.{Lead, Follow, ShowOut}
use Rattle.suit_game.specs.Histories.{History}

-- the weight that a side gives to a move after a history; declarer's way knows nothing of the layout
abbrev pub Way : Type 0
Way = History → Move → ℕ

-- the defenders know the layout
abbrev pub DefenceWay : Type 0
DefenceWay = Cards → Way

-- numbers for moves after one history
pub record WayRow : Type 0 where
  pub history : History
  pub numbers : List (Move × ℤ)

-- numbers for moves under one layout, told by West's cards, after one history
pub record DefenceWayRow : Type 0 where
  pub west : Cards
  pub history : History
  pub numbers : List (Move × ℤ)

abbrev pub same_seat : Seat → Seat → Bool
same_seat N N = true
same_seat E E = true
same_seat S S = true
same_seat W W = true
same_seat _ _ = false

abbrev pub same_move : Move → Move → Bool
same_move (Lead seat card) (Lead other rank) = same_seat seat other && (card == rank)
same_move (Follow card) (Follow rank) = card == rank
same_move ShowOut ShowOut = true
same_move _ _ = false

unfoldable pub same_play : History → History → Bool
same_play [] [] = true
same_play (move ∷ moves) (other ∷ others) = same_move move other && same_play moves others
same_play _ _ = false

-- a number counts as a weight unless it is negative
abbrev pub counted : ℤ → ℕ
counted (pos number) = number
counted (negsuc number) = 0

-- the number that a row gives to a move: a later pair for it does not count, and without one it is 0
unfoldable pub number_of : List (Move × ℤ) → Move → ℕ
number_of [] move = 0
number_of (pair ∷ pairs) move = if same_move pair.0 move then counted pair.1 else number_of pairs move

-- the way of a list of declarer's rows: the first row for the history decides
unfoldable pub by_rows : List WayRow → Way
by_rows [] history move = 0
by_rows (row ∷ rows) history move =
    if same_play row.history history then number_of row.numbers move else by_rows rows history move

-- the way of a list of the defenders' rows: the first row for the layout and the history decides. Layouts are compared
-- as lists of ranks, so a row whose cards do not fall, or are none of the missing ones, is for no layout
unfoldable pub by_defence_rows : List DefenceWayRow → DefenceWay
by_defence_rows [] west history move = 0
by_defence_rows (row ∷ rows) west history move =
    if same_numbers row.west west && same_play row.history history then number_of row.numbers move
    else by_defence_rows rows west history move

-- a move and its weight
abbrev pub Weighed : Type 0
Weighed = ℕ × Move

-- a weight of 0 is left out
abbrev pub kept : ℕ → Move → List Weighed → List Weighed
kept zero move more = more
kept (suc n) move more = (suc n, move) ∷ more

-- the moves with a weight above 0, each with its weight
unfoldable pub weighed : (Move → ℕ) → List Move → List Weighed
weighed weight_of [] = []
weighed weight_of (move ∷ moves) = kept (weight_of move) move (weighed weight_of moves)

-- where no move has one, the first move has weight 1
abbrev pub or_first : List Weighed → List Move → List Weighed
or_first [] [] = []
or_first [] (move ∷ moves) = (1, move) ∷ []
or_first (first ∷ more) moves = first ∷ more

-- what a side plays among its legal moves, each with its weight above 0
abbrev pub chosen : (Move → ℕ) → List Move → List Weighed
chosen weight_of moves = or_first (weighed weight_of moves) moves
