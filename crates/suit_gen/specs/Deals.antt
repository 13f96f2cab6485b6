-- What is drawn for a record: declarer's hands and the goal.
use Rattle.std.specs.Prelude.{ℕ, zero, suc, ◌-◌, ◌==◌, max, length, List, [], ◌∷◌, filter, if◌then◌else◌}
use Rattle.suit_cards.specs.Cards.{Cards}
use Rattle.suit_cards.specs.Holdings.{suit}
use Rattle.suit_game.specs.declared.limits.TheConstants.{HAND_SIZE}
use Rattle.suit_game.specs.declared.question.Question.{Question}
use Rattle.suit_game.specs.declared.question.LeadAt.TheVariants.{Either}
use Rattle.suit_game.specs.declared.question.Entries.TheVariants.{Count}
use Rattle.suit_game.specs.declared.question.Goal.TheVariants.{AtLeast}
use Rattle.suit_gen.specs.Draws.{state_after, drawn}
use Rattle.suit_gen.specs.declared.deals.TheConstants.{MADE_NODES, MADE_PIVOTS}
use Rattle.suit_gen.specs.declared.deals.Deal.{Deal}

-- where a card goes: 0 is North, 1 is South, and with 2 and 3 it is missing. The ace goes to North. For the others,
-- from the king down to the two, the first twelve draws decide
abbrev pub place_of : ℕ → ℕ → ℕ
place_of state rank = if rank == 14 then 0 else drawn state (14 - rank) 4

-- the cards that go to one place
unfoldable pub dealt_to : ℕ → ℕ → Cards
dealt_to place state = filter (λ rank. place_of state rank == place) suit

-- the length of the longer hand
abbrev pub longer : ℕ → ℕ
longer state = max (length (dealt_to 0 state)) (length (dealt_to 1 state))

-- the deal that the draws from a state on make: the goal is what the thirteenth draw leaves of the longer hand's length
abbrev pub deal_at : ℕ → Deal
deal_at state = record {
  north = dealt_to 0 state;
  south = dealt_to 1 state;
  goal = longer state - drawn state 13 2;
}

-- so many deals, each with the next thirteen draws
unfoldable pub deals_from : ℕ → ℕ → List Deal
deals_from zero state = []
deals_from (suc count) state = deal_at state ∷ deals_from count (state_after 13 state)

-- the question about a deal: either hand leads, no entry is left, nothing is known of West's hand, and the
-- budgets are small
abbrev pub question_about : Deal → Question
question_about deal = record {
  north = deal.north;
  south = deal.south;
  start = Either;
  regain = Either;
  entries_n = Count 0;
  entries_s = Count 0;
  vacant_w = HAND_SIZE;
  vacant_e = HAND_SIZE;
  west_least = 0;
  west_most = HAND_SIZE;
  goal = AtLeast deal.goal;
  nodes = MADE_NODES;
  pivots = MADE_PIVOTS;
}
