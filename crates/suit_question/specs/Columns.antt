-- A question in the making: thirteen columns, each with a value or none.
use Rattle.std.specs.Prelude.{ℕ, ◌+◌, ◌≤◌, ◌==◌, nat_lt, length, Option}
use Rattle.std.specs.Prelude.{Some, None, IfSome, Result, Ok, Err, if◌then◌else◌}
use Rattle.std.specs.List.{list_any}
use Rattle.std.specs.Option.{ok_or, option_map_or, unwrap_or}
use Rattle.suit_cards.specs.Cards.{Cards, Text}
use Rattle.suit_cards.specs.Holdings.{holds}
use Rattle.suit_game.specs.declared.limits.TheConstants.{HAND_SIZE, MOST_NODES}
use Rattle.suit_game.specs.declared.limits.TheConstants.{MOST_PIVOTS, DEFAULT_NODES, DEFAULT_PIVOTS}
use Rattle.suit_game.specs.declared.question.Question.{Question}
use Rattle.suit_game.specs.declared.question.LeadAt.TheVariants.{Either}
use Rattle.suit_game.specs.declared.question.Entries.TheVariants.{Free}
use Rattle.suit_game.specs.declared.question.Goal.{Goal}
use Rattle.suit_game.specs.Layouts.{total}
use Rattle.suit_game.specs.Question.{missing}
use Rattle.suit_game.specs.Validity.{AreEntries, IsGoal}
use Rattle.suit_question.specs.Results.{◌>>=◌, found_as, told_as}
use Rattle.suit_question.specs.Values.{number_within, holding_named, lead_named, entries_named, goal_named}
use Rattle.suit_question.specs.declared.column.TheConstants.{COLUMNS}
use Rattle.suit_question.specs.declared.column.Column.{Column}
use Rattle.suit_question.specs.declared.column.Column.TheVariants.{North, South, Start, Regain, EntriesN, EntriesS}
use Rattle.suit_question.specs.declared.column.Column.TheVariants.{VacantW, VacantE, WestLeast}
use Rattle.suit_question.specs.declared.column.Column.TheVariants.{WestMost, Goal as GoalColumn, Nodes, Pivots}
use Rattle.suit_question.specs.declared.columns.Columns.{Columns}
use Rattle.suit_question.specs.declared.faults.QuestionFault.{QuestionFault}
use Rattle.suit_question.specs.declared.faults.QuestionKind.{QuestionKind}
use Rattle.suit_question.specs.declared.faults.QuestionKind.TheVariants.{NoLine, Repeated, Shared}
use Rattle.suit_question.specs.declared.faults.QuestionKind.TheVariants.{Empty, Range, Vacant, NoLayout}

-- a column's number
abbrev pub IsColumn : ℕ → Type 0
IsColumn column = (1 ≤ column) × (column ≤ COLUMNS)

-- the column of a number
abbrev pub column_numbered : ℕ → Column
column_numbered number =
    if number == 1 then North
    else if number == 2 then South
    else if number == 3 then Start
    else if number == 4 then Regain
    else if number == 5 then EntriesN
    else if number == 6 then EntriesS
    else if number == 7 then VacantW
    else if number == 8 then VacantE
    else if number == 9 then WestLeast
    else if number == 10 then WestMost
    else if number == 11 then GoalColumn
    else if number == 12 then Nodes
    else Pivots

-- nothing is put
abbrev pub no_columns : Columns
no_columns = record {
  north = None;
  south = None;
  start = None;
  regain = None;
  entries_n = None;
  entries_s = None;
  vacant_w = None;
  vacant_e = None;
  west_least = None;
  west_most = None;
  goal = None;
  nodes = None;
  pivots = None;
}

-- a value is read once, and a second time is a fault before the word is looked at
abbrev pub put_once : {A : Type 0} → Option A → Result A QuestionKind → Result (Option A) QuestionKind
put_once (Some old) read = Err Repeated
put_once None read = found_as (λ value. Some value) read

-- the columns after a word is put into one, and the others as they were
abbrev pub column_put : Columns → Column → Text → Result Columns QuestionKind
column_put columns North text =
    found_as (λ value. record columns { north = value }) (put_once columns.north (holding_named text))
column_put columns South text =
    found_as (λ value. record columns { south = value }) (put_once columns.south (holding_named text))
column_put columns Start text =
    found_as (λ value. record columns { start = value }) (put_once columns.start (lead_named text))
column_put columns Regain text =
    found_as (λ value. record columns { regain = value }) (put_once columns.regain (lead_named text))
column_put columns EntriesN text =
    found_as (λ value. record columns { entries_n = value }) (put_once columns.entries_n (entries_named text))
column_put columns EntriesS text =
    found_as (λ value. record columns { entries_s = value }) (put_once columns.entries_s (entries_named text))
column_put columns VacantW text =
    found_as (λ value. record columns { vacant_w = value }) (put_once columns.vacant_w (number_within 0 HAND_SIZE text))
column_put columns VacantE text =
    found_as (λ value. record columns { vacant_e = value }) (put_once columns.vacant_e (number_within 0 HAND_SIZE text))
column_put columns WestLeast text =
    found_as (λ value. record columns { west_least = value })
    (put_once columns.west_least (number_within 0 HAND_SIZE text))
column_put columns WestMost text =
    found_as (λ value. record columns { west_most = value })
    (put_once columns.west_most (number_within 0 HAND_SIZE text))
column_put columns GoalColumn text =
    found_as (λ value. record columns { goal = value }) (put_once columns.goal (goal_named text))
column_put columns Nodes text =
    found_as (λ value. record columns { nodes = value }) (put_once columns.nodes (number_within 1 MOST_NODES text))
column_put columns Pivots text =
    found_as (λ value. record columns { pivots = value }) (put_once columns.pivots (number_within 0 MOST_PIVOTS text))

-- the columns after two words are put, from left to right
abbrev pub both_put : Columns → Column → Text → Column → Text → Result Columns QuestionKind
both_put columns first left second right = column_put columns first left >>= λ after. column_put after second right

-- the values put are in their ranges
pub record AreInRange (columns : Columns) : Type 0 where
  pub entries_n : IfSome columns.entries_n AreEntries
  pub entries_s : IfSome columns.entries_s AreEntries
  pub vacant_w : IfSome columns.vacant_w (λ count. count ≤ HAND_SIZE)
  pub vacant_e : IfSome columns.vacant_e (λ count. count ≤ HAND_SIZE)
  pub west_most : IfSome columns.west_most (λ count. count ≤ HAND_SIZE)
  pub goal : IfSome columns.goal IsGoal
  pub nodes : IfSome columns.nodes (λ count. (1 ≤ count) × (count ≤ MOST_NODES))
  pub pivots : IfSome columns.pivots (λ count. count ≤ MOST_PIVOTS)

-- the question of hands, a goal and the other columns, each as it is where nothing is said
abbrev pub question_of : Columns → Cards → Cards → Goal → Question
question_of columns north south goal = record {
  north = north;
  south = south;
  start = unwrap_or columns.start Either;
  regain = unwrap_or columns.regain Either;
  entries_n = unwrap_or columns.entries_n Free;
  entries_s = unwrap_or columns.entries_s Free;
  vacant_w = unwrap_or columns.vacant_w HAND_SIZE;
  vacant_e = unwrap_or columns.vacant_e HAND_SIZE;
  west_least = unwrap_or columns.west_least 0;
  west_most = unwrap_or columns.west_most HAND_SIZE;
  goal = goal;
  nodes = unwrap_or columns.nodes DEFAULT_NODES;
  pivots = unwrap_or columns.pivots DEFAULT_PIVOTS;
}

-- what is wrong with a question as a whole: the first of these that stands
abbrev pub whole_fault : Question → Option QuestionKind
whole_fault question =
    if list_any (holds question.south) question.north then Some Shared
    else if length question.north + length question.south == 0 then Some Empty
    else if nat_lt question.west_most question.west_least then Some Range
    else if nat_lt (question.vacant_w + question.vacant_e) (length (missing question)) then Some Vacant
    else if total question == 0 then Some NoLayout
    else None

-- a question, or what is wrong with it as a whole
abbrev pub judged : Question → Result Question QuestionKind
judged question = option_map_or Err (whole_fault question) (Ok question)

-- the question of the columns, which needs both hands and a goal
abbrev pub finished : Columns → Result Question QuestionKind
finished columns =
    ok_or columns.north NoLine >>= λ north.
    (ok_or columns.south NoLine >>= λ south.
    (ok_or columns.goal NoLine >>= λ goal.
    judged (question_of columns north south goal)))

-- a fault is told of a line
abbrev pub told_at : {A : Type 0} → ℕ → Result A QuestionKind → Result A QuestionFault
told_at line found = told_as (λ kind. record { kind = kind; line = line }) found
