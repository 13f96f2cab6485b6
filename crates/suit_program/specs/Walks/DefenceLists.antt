-- How the rows of a defence are read in all class layouts by one walk over what is reached, for the contracts of
-- private functions.
use Rattle.std.specs.Prelude.{◌≡◌, ℕ, ◌<◌, List, [], ◌++◌, get_or, length, Option, ℤ, Vec}
use Rattle.std.specs.Global.{Global}
use Rattle.suit_cards.specs.Cards.{ClassLayout}
use Rattle.suit_game.specs.declared.question.Question.{Question}
use Rattle.suit_classes.specs.ClassMoves.{ClassHistory}
use Rattle.suit_plans.specs.declared.defence.DefenceRow.{DefenceRow}
use Rattle.suit_plans.specs.Masses.{Shares}
use Rattle.suit_program.specs.declared.walks.defence_reader.DefenceReader.{DefenceReader}
use Rattle.suit_program.specs.declared.walks.defence_walk.DefenceWalk.{DefenceWalk}
use Rattle.suit_program.specs.declared.walks.reach.Reach.{Reach}
use Rattle.suit_program.specs.Walks.DefenceWalks.{IsDefenceStop, IsDefenceTurn, their_row_of, turn_row, turn_shares}
use Rattle.suit_program.specs.Programs.{limits, limits_at}
use Rattle.suit_program.specs.Walks.Reaches.{IsReach}
use Rattle.suit_program.specs.Supports.{Support}
use Rattle.suit_program.specs.Walks.{StandsIn, walked}

-- a list of rows while it grows
abbrev pub RowList : Type 0
RowList = Vec DefenceRow Global

abbrev pub rows_of : RowList → List DefenceRow
rows_of list = list.items

-- what reads a defence in the class layout at an index
pub record IsReaderAt (layouts : List (ClassLayout × ℕ)) (prices : List ℤ) (index : ℕ) (reader : DefenceReader) : Type 0
  where
    pub at : reader.index ≡ index
    pub west : reader.west.now ≡ (get_or layouts index ([], 0)).0
    pub priced : reader.prices.now ≡ prices

-- what reads one in each of the first class layouts
pub record AreReaders (layouts : List (ClassLayout × ℕ)) (prices : List ℤ) (count : ℕ) (readers : List DefenceReader) :
    Type 0 where
  pub long : length readers ≡ count
  pub each : (index : ℕ) (reader : DefenceReader) → index < count
      → IsReaderAt layouts prices index (get_or readers index reader)

-- so many lists of no rows
pub record AreEmptyLists (count : ℕ) (lists : List RowList) : Type 0 where
  pub long : length lists ≡ count
  pub each : (index : ℕ) (list : RowList) → index < count → (get_or lists index list).items ≡ []

-- what reads them is at a reached class history, of which it is told the mass in each class layout
pub record AreDefenceTurns (walk : DefenceWalk) (reach : Reach) (row : ℕ) (masses : List ℤ) : Type 0 where
  pub many : length masses ≡ length walk.readers.now
  pub each : (index : ℕ) (reader : DefenceReader) (mass : ℤ) → index < length walk.readers.now
      → IsDefenceTurn (get_or walk.readers.now index reader) reach row (get_or masses index mass)

-- what reads them is at a class history that is reached: it is told the row with which this class history begins, and
-- its mass in each class layout
pub record AreDefenceStops (walk : DefenceWalk) (reach : Reach) (history : ClassHistory) (row : ℕ) (masses : List ℤ) :
    Type 0 where
  pub question : Question
  pub support : Support
  pub told : ClassHistory
  pub reached : IsReach question support told reach
  pub here : told ≡ history
  pub long : length walk.prices.now ≡ length (limits question support)
  pub rows : StandsIn (limits question support) row (walked (limits_at question support) question support told)
  pub many : length masses ≡ length walk.readers.now
  pub each : (index : ℕ) (reader : DefenceReader) (mass : ℤ) → index < length walk.readers.now
      → IsDefenceStop (get_or walk.readers.now index reader) reach history row (get_or masses index mass)

-- shares are those in the first class layouts
abbrev pub AreShared : DefenceWalk → Reach → ℕ → List ℤ → ℕ → List (Option Shares) → Type 0
AreShared walk reach row masses count shares =
    (index : ℕ) (reader : DefenceReader) (mass : ℤ) (held : Option Shares) → index < count
    → (turn : IsDefenceTurn (get_or walk.readers.now index reader) reach row (get_or masses index mass))
    → get_or shares index held ≡ turn_shares turn

-- the rows that shares make are added to the lists of the first class layouts
abbrev pub AreAdded : DefenceWalk → ClassHistory → List ℤ → List (Option Shares) → ℕ → List RowList → List RowList
    → Type 0
AreAdded walk history masses shares count old new =
    (index : ℕ) (reader : DefenceReader) (mass : ℤ) (held : Option Shares) (list : RowList) → index < count
    → (get_or new index list).items ≡ (get_or old index list).items
    ++ their_row_of (get_or walk.readers.now index reader).west.now history (get_or masses index mass)
    (get_or shares index held)

-- the rows from a class history on are added to the lists of all class layouts
abbrev pub AreRead : DefenceWalk → Reach → ClassHistory → ℕ → List ℤ → List RowList → List RowList → Type 0
AreRead walk reach history row masses old new =
    (index : ℕ) (reader : DefenceReader) (mass : ℤ) (list : RowList) → index < length walk.readers.now
    → (stop : IsDefenceStop (get_or walk.readers.now index reader) reach history row (get_or masses index mass))
    → (get_or new index list).items ≡ (get_or old index list).items
    ++ walked (turn_row stop.turn) stop.turn.question stop.turn.support stop.turn.history
