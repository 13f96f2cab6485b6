-- How the rows of a defence are read by a walk over what is reached, for the contracts of private functions.
use Rattle.std.specs.Prelude.{◌≡◌, ℕ, ◌<◌, ◌&&◌, true, All, List, [], ◌∷◌, length, Option, Some, None, ℤ, pos, ◌≤ℤ◌}
use Rattle.std.specs.Prelude.{if◌then◌else◌}
use Rattle.suit_cards.specs.Cards.{ClassLayout}
use Rattle.suit_game.specs.declared.question.Question.{Question}
use Rattle.suit_game.specs.Validity.{IsValid}
use Rattle.suit_classes.specs.ClassMoves.{ClassHistory}
use Rattle.suit_plans.specs.declared.defence.DefenceRow.{DefenceRow}
use Rattle.suit_plans.specs.declared.plan.TheConstants.{MOST_DEN}
use Rattle.suit_plans.specs.Masses.{Shares}
use Rattle.suit_plans.specs.ReplyLaws.{counts_at}
use Rattle.suit_tree.specs.declared.tree.Tree.{Tree}
use Rattle.suit_tree.specs.Trees.{IsTreeOf}
use Rattle.suit_program.specs.declared.walks.defence_reader.DefenceReader.{DefenceReader}
use Rattle.suit_program.specs.declared.walks.reach.Reach.{Reach}
use Rattle.suit_program.specs.declared.supports.support.Support.{Support as MarkedSupport}
use Rattle.suit_program.specs.Supports.Marks.{support_seen}
use Rattle.suit_program.specs.Walks.PlanWalks.{shares_here}
use Rattle.suit_program.specs.Programs.{limits, limits_at}
use Rattle.suit_program.specs.Walks.Reaches.{IsReach}
use Rattle.suit_program.specs.Readings.{Reading, defence_reading, has_row, read_mass, row_counts}
use Rattle.suit_program.specs.Readings.Sharing.{wants_row, without_nothing}
use Rattle.suit_program.specs.Supports.{Support, is_reached, layouts_of}
use Rattle.suit_program.specs.Walks.{StandsIn, walked}

-- a tree is that of a valid question, and prices are those of the rows of a support: none is negative, and their scale
-- is no denominator that is too wide
pub record IsPricedTree (tree : Tree) (support : MarkedSupport) (prices : List ℤ) (scale : ℤ) : Type 0 where
  pub question : Question
  pub valid : IsValid question
  pub grown : IsTreeOf question tree
  pub long : length prices ≡ length (limits question (support_seen question support))
  pub low : All (λ price. pos 0 ≤ℤ price) prices
  pub some : pos 0 ≤ℤ scale
  pub few : scale ≤ℤ MOST_DEN

-- the row at a class history of some counts, if it is reached there and has one
abbrev pub their_row : Question → Support → ClassLayout → Reading → ClassHistory → List DefenceRow
their_row question support west reading history =
    if is_reached question support west history && has_row reading history
    then record { west = west; history = history; counts = row_counts reading history } ∷ [] else []

-- the row that shares of a mass make
abbrev pub their_row_of : ClassLayout → ClassHistory → ℤ → Option Shares → List DefenceRow
their_row_of west history mass None = []
their_row_of west history mass (Some shares) =
    if wants_row mass shares then record { west = west; history = history; counts = without_nothing shares } ∷ []
    else []

-- what reads a defence in a class layout is at a class history that is reached: it holds the prices, and is told the
-- row
-- with which this class history begins, and its mass where the class layout reaches it
pub record IsDefenceTurn (reader : DefenceReader) (reach : Reach) (row : ℕ) (mass : ℤ) : Type 0 where
  pub question : Question
  pub support : Support
  pub history : ClassHistory
  pub scale : ℤ
  pub long : length reader.prices.now ≡ length (limits question support)
  pub low : All (λ price. pos 0 ≤ℤ price) reader.prices.now
  pub listed : reader.index < length (layouts_of question)
  pub west : reader.west.now ≡ counts_at question reader.index
  pub reached : IsReach question support history reach
  pub rows : StandsIn (limits question support) row (walked (limits_at question support) question support history)
  pub some : pos 0 ≤ℤ mass
  pub is_mass : is_reached question support reader.west.now history ≡ true
      → mass ≡ read_mass (defence_reading question support reader.prices.now scale reader.west.now) history

-- how it reads
abbrev pub turn_reading : {reader : DefenceReader} {reach : Reach} {row : ℕ} {mass : ℤ}
    → IsDefenceTurn reader reach row mass → Reading
turn_reading {reader} turn = defence_reading turn.question turn.support reader.prices.now turn.scale reader.west.now

-- how the mass is shared out there, where the class layout reaches it and the defence has a choice in it
abbrev pub turn_shares : {reader : DefenceReader} {reach : Reach} {row : ℕ} {mass : ℤ}
    → IsDefenceTurn reader reach row mass → Option Shares
turn_shares {reader} turn =
    if is_reached turn.question turn.support reader.west.now turn.history
    then shares_here (turn_reading turn) turn.history else None

-- the rows at a class history
abbrev pub turn_row : {reader : DefenceReader} {reach : Reach} {row : ℕ} {mass : ℤ}
    → IsDefenceTurn reader reach row mass → ClassHistory → List DefenceRow
turn_row {reader} turn = their_row turn.question turn.support reader.west.now (turn_reading turn)

-- and the class history is told
pub record IsDefenceStop (reader : DefenceReader) (reach : Reach) (history : ClassHistory) (row : ℕ) (mass : ℤ) :
    Type 0 where
  pub turn : IsDefenceTurn reader reach row mass
  pub here : turn.history ≡ history
