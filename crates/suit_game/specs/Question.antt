-- The question, and the cards that it leaves to the defenders.
use Rattle.suit_cards.specs.Holdings.{others_of}
use Rattle.suit_cards.specs.Cards.{Cards}
use Rattle.suit_game.specs.declared.question.Question.{Question}
use Rattle.suit_game.specs.declared.question.LeadAt.TheVariants as leads
use Rattle.suit_game.specs.declared.question.Entries.TheVariants.{Free}
use Rattle.suit_game.specs.declared.question.Goal.{Goal}
use Rattle.suit_game.specs.declared.limits.TheConstants.{DEFAULT_NODES, DEFAULT_PIVOTS, HAND_SIZE}

-- the cards that neither declarer hand holds, falling
abbrev pub missing : Question → Cards
missing question = others_of question.north question.south

-- the question of two hands and a goal, where no more is told: entries are free, all places vacant, and West may hold
-- any number
unfoldable pub plain : Cards → Cards → Goal → Question
plain north south goal = record {
  north = north;
  south = south;
  start = leads.Either;
  regain = leads.Either;
  entries_n = Free;
  entries_s = Free;
  vacant_w = HAND_SIZE;
  vacant_e = HAND_SIZE;
  west_least = 0;
  west_most = HAND_SIZE;
  goal = goal;
  nodes = DEFAULT_NODES;
  pivots = DEFAULT_PIVOTS;
}
