-- What some runs owe, and the limits as numbers, written down by hand.
use Rattle.std.specs.Prelude.{◌≡◌, ◌^◌, ◌-◌, [], ◌∷◌, codes, pos}
use Rattle.suit_num.specs.Narrow.{IsNarrow}
use Rattle.suit_num.specs.declared.limits.TheConstants.{MOST_BITS}
use Rattle.suit_cards.specs.Cards.{Text}
use Rattle.suit_text.specs.declared.limits.TheConstants.{MOST_TEXT}
use Rattle.suit_game.specs.declared.limits.TheConstants.{DEFAULT_NODES, DEFAULT_PIVOTS, HAND_SIZE}
use Rattle.suit_game.specs.declared.limits.TheConstants.{MOST_MISSING_AND_BLOCKS, MOST_MOVES, MOST_NODES}
use Rattle.suit_game.specs.declared.limits.TheConstants.{MOST_PIVOTS, MOST_SUPPORT, MOST_TOTAL}
use Rattle.suit_classes.specs.declared.classes.TheConstants.{MOST_CLASSES, MOST_DEFENCE_CLASSES}
use Rattle.suit_gen.specs.declared.deals.TheConstants.{MADE_NODES, MADE_PIVOTS}
use Rattle.suit_layouts.specs.declared.class_list.TheConstants.{MOST_CLASS_LAYOUTS}
use Rattle.suit_linear.specs.declared.limits.TheConstants.{MOST_SMALL}
use Rattle.suit_plans.specs.declared.plan.TheConstants.{MOST_DEN, MOST_MASS, WORTH_BOUND}
use Rattle.suit_reply.specs.declared.on_threads.TheConstants.{MOST_CHUNKS}
use Rattle.suit_question.specs.declared.column.TheConstants.{COLUMNS}
use Rattle.suit_question.specs.declared.values.TheConstants.{MOST_DIGITS}
use Rattle.suit_table.specs.declared.judging.TheConstants.{BATCH}
use Rattle.suit_table.specs.declared.records.TheConstants.{FIELDS, MOST_TABLE}
use Rattle.suit_table.specs.declared.summaries.TheConstants.{MOST_QUESTIONS}
use Rattle.suit_answer.specs.declared.parts.TheConstants.{MOST_LINES, MOST_ROWS}
use Rattle.suit_lines.specs.declared.value.TheConstants.{MOST_DECIMALS, MOST_HUNDREDTHS, MOST_VALUE}
use Rattle.suit_top.specs.declared.commands.TheConstants.{MOST_INPUT}
use Rattle.suit_top.specs.declared.commands.made.TheConstants.{MOST_RECORDS}
use Rattle.suit_top.specs.declared.status.Status.{Status}
use Rattle.suit_top.specs.declared.status.Status.TheVariants.{Done, Usage, Malformed}
use Rattle.suit_top.specs.Owing.{due}

-- a run of one word with this input owes this status with this text
abbrev pub Owed : Text → Text → Status → Text → Type 0
Owed word input status text = due (word ∷ []) input ≡ record { status = status; text = text }

-- a text of `weigh`: two cards are missing
pub record Weighed : Type 0 where
  pub two_cards : Owed (codes "weigh") (codes "north AJT98765432\nsouth -\nstart N\ngoal 11\nend\n") Done
      (codes "weights 3\nwest 0 : 2496144\nwest 1 : 5408312\nwest 2 : 2496144\ntotal 10400600\nend\n")

-- statuses without the text that the command is for
pub record Refused : Type 0 where
  pub twice : Owed (codes "solve") (codes "north A\nsouth 2\nnorth A\n") Malformed (codes "malformed 3 at line 3\n")
  pub vacant : Owed (codes "weigh") (codes "vacant 1 1\nsouth -\nnorth AKQJT98765\ngoal 1\nend\n") Malformed
      (codes "malformed 10 at line 5\n")
  pub other_word : Owed (codes "Solve") [] Usage []

-- the limits, as numbers: definitions cite the constants of the code, so that another number would be proved as well
pub record Limits : Type 0 where
  -- bytes of a text, and of input: of a table and of all else
  pub text : MOST_TEXT ≡ 16777216
  pub table : MOST_TABLE ≡ 16777216
  pub input : MOST_INPUT ≡ 2097152
  -- columns of a question, digits of its numbers, rows that a line of an answer may tell of, and lines of an answer
  pub question_columns : COLUMNS ≡ 13
  pub digits : MOST_DIGITS ≡ 9
  pub rows : MOST_ROWS ≡ 4294967295
  pub lines : MOST_LINES ≡ 16777217
  -- budgets: the most, and what stands where none is given
  pub nodes : MOST_NODES ≡ 4000000
  pub usual_nodes : DEFAULT_NODES ≡ 200000
  pub pivots : MOST_PIVOTS ≡ 1000000
  pub usual_pivots : DEFAULT_PIVOTS ≡ 100000
  -- rows and columns of a support
  pub support : MOST_SUPPORT ≡ 4000
  -- the denominator of a plan or a defence, the masses of all layouts together, and what either is worth
  pub den : MOST_DEN ≡ pos (2 ^ 90)
  pub mass : MOST_MASS ≡ 2 ^ 114
  pub worth : WORTH_BOUND ≡ pos (2 ^ 118)
  -- the value that a sentence tells, its digits after the point, and its hundredths
  pub value : MOST_VALUE ≡ 1000
  pub decimals : MOST_DECIMALS ≡ 4
  pub hundredths : MOST_HUNDREDTHS ≡ 10000000
  -- classes, those of the defenders, these with the missing cards, class layouts, moves of a history, cards of a hand,
  -- and what all layouts weigh
  pub classes : MOST_CLASSES ≡ 13
  pub defence_classes : MOST_DEFENCE_CLASSES ≡ 7
  pub missing_and_blocks : MOST_MISSING_AND_BLOCKS ≡ 14
  pub class_layouts : MOST_CLASS_LAYOUTS ≡ 162
  pub moves : MOST_MOVES ≡ 52
  pub hand : HAND_SIZE ≡ 13
  pub total : MOST_TOTAL ≡ 10400600
  -- the numbers of a run, the bits that their line tells, and the small ones
  pub narrow : IsNarrow (pos (2 ^ 127 - 1))
  pub wide : IsNarrow (pos (2 ^ 127)) → ⊥
  pub bits : MOST_BITS ≡ 128
  pub small : MOST_SMALL ≡ 2 ^ 62
  -- tables: columns, records of a made one with their budgets, questions of a summary
  pub columns : FIELDS ≡ 13
  pub records : MOST_RECORDS ≡ 10000
  pub questions : MOST_QUESTIONS ≡ 10000
  pub made_nodes : MADE_NODES ≡ 2000
  pub made_pivots : MADE_PIVOTS ≡ 200
  -- tasks that stand at once, and threads of a best reply
  pub tasks : BATCH ≡ 4
  pub chunks : MOST_CHUNKS ≡ 4
