-- Worked examples: questions, strategies and what they come to, written down by hand.
use Rattle.std.specs.Prelude.{◌≡◌, List, [], ◌∷◌, ◌++◌, ℤ, pos, negsuc, map}
use Rattle.suit_cards.specs.declared.seats.Seat.TheVariants.{N, S}
use Rattle.suit_game.specs.declared.question.Question.{Question}
use Rattle.suit_game.specs.declared.question.LeadAt.TheVariants as leads
use Rattle.suit_game.specs.declared.question.Entries.TheVariants.{Count}
use Rattle.suit_game.specs.declared.question.Goal.{Goal}
use Rattle.suit_game.specs.declared.question.Goal.TheVariants.{AtLeast, Tricks}
use Rattle.suit_game.specs.declared.moves.Move.{Move}
use Rattle.suit_game.specs.declared.moves.Move.TheVariants.{Lead, Follow, ShowOut}
use Rattle.suit_game.specs.Fractions.{Fraction, IsExactly}
use Rattle.suit_game.specs.Gains.{gain}
use Rattle.suit_game.specs.Layouts.{layouts, weight, total}
use Rattle.suit_game.specs.Positions.{legal}
use Rattle.suit_game.specs.Strategies.{WayRow, DefenceWayRow, by_rows, by_defence_rows}
use Rattle.suit_game.specs.Question.{plain}

-- the lead in South's hand, and no entries
unfoldable pub from_south : Question → Question
from_south question = record question { start = leads.S; entries_n = Count 0; entries_s = Count 0 }

-- the ace facing the two, and the king facing the two
unfoldable pub ace : Question
ace = plain (14 ∷ []) (2 ∷ []) (AtLeast 1)

unfoldable pub king : Question
king = plain (13 ∷ []) (2 ∷ []) Tricks

-- all but the king and the queen, facing none
unfoldable pub eleven_cards : Question
eleven_cards = plain (14 ∷ 11 ∷ 10 ∷ 9 ∷ 8 ∷ 7 ∷ 6 ∷ 5 ∷ 4 ∷ 3 ∷ 2 ∷ []) [] (AtLeast 11)

-- the ace and the queen, facing the three and the two
unfoldable pub tenace : Goal → Question
tenace goal = from_south (plain (14 ∷ 12 ∷ []) (3 ∷ 2 ∷ []) goal)

-- the same for two tricks, where three cards of West's are known to be of other suits
unfoldable pub tenace_over_ten : Question
tenace_over_ten = record (tenace (AtLeast 2)) { vacant_w = 10 }

-- all but the king and the two, facing the three
unfoldable pub ten_cards : Question
ten_cards = from_south (plain (14 ∷ 12 ∷ 11 ∷ 10 ∷ 9 ∷ 8 ∷ 7 ∷ 6 ∷ 5 ∷ 4 ∷ []) (3 ∷ []) (AtLeast 10))

-- the ace, facing the king and the queen, with one entry to them
unfoldable pub one_entry : Question
one_entry =
    record (plain (14 ∷ []) (13 ∷ 12 ∷ []) (AtLeast 2)) { start = leads.N; entries_n = Count 0; entries_s = Count 1 }

-- after the three is led and West plays a card from the jack down, these numbers
unfoldable pub on_low : List (Move × ℤ) → List WayRow
on_low numbers =
    map (λ low. record { history = Lead S 3 ∷ Follow low ∷ []; numbers = numbers })
    (11 ∷ 10 ∷ 9 ∷ 8 ∷ 7 ∷ 6 ∷ 5 ∷ 4 ∷ [])

-- the queen; a later row for a history does not count
unfoldable pub finesse : List WayRow
finesse =
    on_low ((Follow 12, pos 1) ∷ [])
    ++ record { history = Lead S 3 ∷ Follow 11 ∷ []; numbers = (Follow 14, pos 1) ∷ [] } ∷ []

-- the queen twice as often as the ace; a later pair for a card does not count
unfoldable pub mixed_finesse : List WayRow
mixed_finesse = on_low ((Follow 12, pos 2) ∷ (Follow 14, pos 1) ∷ (Follow 12, pos 9) ∷ [])

-- West holds up the king with the two beside it, and East throws the two; a negative number counts as 0, and a later
-- row for a history does not count
unfoldable pub hold_up : List DefenceWayRow
hold_up =
    record { west = 13 ∷ 2 ∷ []; history = Lead S 3 ∷ []; numbers = (Follow 2, pos 1) ∷ [] }
    ∷ record {
      west = [];
      history = Lead S 3 ∷ ShowOut ∷ Follow 14 ∷ [];
      numbers = (Follow 2, pos 5) ∷ (Follow 13, negsuc 2) ∷ [];
    }
    ∷ record { west = 13 ∷ 2 ∷ []; history = Lead S 3 ∷ []; numbers = (Follow 13, pos 1) ∷ [] }
    ∷ []

-- all but the king, the jack and the two, facing the three; West holds one to three of those, and has two places for
-- them
unfoldable pub known_west : Question
known_west =
    record (from_south (plain (14 ∷ 12 ∷ 10 ∷ 9 ∷ 8 ∷ 7 ∷ 6 ∷ 5 ∷ 4 ∷ []) (3 ∷ []) Tricks)) {
      vacant_w = 2;
      west_least = 1;
      west_most = 3;
    }

-- the ace on the two, since a row whose numbers are all 0 or negative stands for the first move, and a later row does
-- not count; on the jack the queen three times as often as the ten, and the ace never
unfoldable pub ace_on_two : List WayRow
ace_on_two =
    record { history = Lead S 3 ∷ Follow 2 ∷ []; numbers = (Follow 12, pos 0) ∷ (Follow 14, negsuc 0) ∷ [] }
    ∷ record { history = Lead S 3 ∷ Follow 2 ∷ []; numbers = (Follow 12, pos 1) ∷ [] }
    ∷ record {
      history = Lead S 3 ∷ Follow 11 ∷ [];
      numbers = (Follow 14, negsuc 3) ∷ (Follow 12, pos 3) ∷ (Follow 10, pos 1) ∷ [];
    }
    ∷ []

-- West keeps a king that he has with the two; with the jack and the two a row of no weight has him play the first of
-- them, the jack; and of both honours he plays the jack twice as often
unfoldable pub split_honours : List DefenceWayRow
split_honours =
    record { west = 11 ∷ 2 ∷ []; history = Lead S 3 ∷ []; numbers = (Follow 2, pos 0) ∷ (Follow 11, negsuc 6) ∷ [] }
    ∷ record { west = 13 ∷ 2 ∷ []; history = Lead S 3 ∷ []; numbers = (Follow 13, negsuc 1) ∷ (Follow 2, pos 1) ∷ [] }
    ∷ record { west = 13 ∷ 11 ∷ []; history = Lead S 3 ∷ []; numbers = (Follow 11, pos 2) ∷ (Follow 13, pos 1) ∷ [] }
    ∷ []

-- two missing cards lie in four ways
abbrev pub LayoutsOfTwo : Type 0
LayoutsOfTwo = layouts eleven_cards ≡ (13 ∷ 12 ∷ []) ∷ (13 ∷ []) ∷ (12 ∷ []) ∷ [] ∷ []

abbrev pub WeightsOfTwo : Type 0
WeightsOfTwo = map (weight eleven_cards) (0 ∷ 1 ∷ 2 ∷ []) ≡ 2496144 ∷ 2704156 ∷ 2496144 ∷ []

abbrev pub Totals : Type 0
Totals = (total eleven_cards ≡ 10400600) × (total tenace_over_ten ≡ 1144066)

-- an entry is spent by a lead from the hand where the lead does not stand, and play ends where none is left
abbrev pub LegalWithOneEntry : Type 0
LegalWithOneEntry =
    (legal one_entry [] [] ≡ Lead N 14 ∷ Lead S 13 ∷ Lead S 12 ∷ [])
    × (legal one_entry [] (Lead S 13 ∷ ShowOut ∷ Follow 14 ∷ Follow 2 ∷ []) ≡ [])
    × (legal one_entry [] (Lead N 14 ∷ Follow 2 ∷ Follow 13 ∷ ShowOut ∷ []) ≡ Lead S 12 ∷ [])

-- a lead, West's follows and East's, and a lead after the queen has won
abbrev pub LegalInAFinesse : Type 0
LegalInAFinesse =
    (legal (tenace Tricks) (13 ∷ 4 ∷ []) [] ≡ Lead S 3 ∷ Lead S 2 ∷ [])
    × (legal (tenace Tricks) (13 ∷ 4 ∷ []) (Lead S 3 ∷ []) ≡ Follow 13 ∷ Follow 4 ∷ [])
    × (legal (tenace Tricks) [] (Lead S 3 ∷ []) ≡ ShowOut ∷ [])
    × (legal (tenace Tricks) (13 ∷ 4 ∷ []) (Lead S 3 ∷ Follow 4 ∷ Follow 12 ∷ [])
    ≡ Follow 11 ∷ Follow 10 ∷ Follow 9 ∷ Follow 8 ∷ Follow 7 ∷ Follow 6 ∷ Follow 5 ∷ [])
    × (legal (tenace Tricks) (13 ∷ 4 ∷ []) (Lead S 3 ∷ Follow 4 ∷ Follow 12 ∷ Follow 5 ∷ []) ≡ Lead N 14 ∷ [])

-- after a lost trick the lead stands at regain
abbrev pub LegalAfterALoss : Type 0
LegalAfterALoss =
    (legal (tenace Tricks) (13 ∷ []) (Lead S 3 ∷ Follow 13 ∷ Follow 12 ∷ Follow 4 ∷ []) ≡ Lead N 14 ∷ Lead S 2 ∷ [])
    × (legal (record (tenace Tricks) { regain = leads.N }) (13 ∷ []) (Lead S 3 ∷ Follow 13 ∷ Follow 12 ∷ Follow 4 ∷ [])
    ≡ Lead N 14 ∷ [])

-- the gain of two lists of rows
abbrev pub gain_of : Question → List WayRow → List DefenceWayRow → Fraction
gain_of question plan defence = gain question (by_rows plan) (by_defence_rows defence)

abbrev pub AceGains : Type 0
AceGains = IsExactly (gain_of ace [] []) 1 1

abbrev pub KingGains : Type 0
KingGains = IsExactly (gain_of king [] []) 0 1

-- with no rows the defenders waste their king
abbrev pub TenaceGains : Type 0
TenaceGains = IsExactly (gain_of (tenace (AtLeast 2)) [] []) 1 1

abbrev pub FinesseGains : Type 0
FinesseGains = IsExactly (gain_of (tenace (AtLeast 2)) finesse []) 1093 2185

abbrev pub MixedFinesseGains : Type 0
MixedFinesseGains = IsExactly (gain_of (tenace (AtLeast 2)) mixed_finesse []) 1457 2185

abbrev pub MixedFinesseTricks : Type 0
MixedFinesseTricks = IsExactly (gain_of (tenace Tricks) mixed_finesse []) 3642 2185

abbrev pub TenCardsGain : Type 0
TenCardsGain = IsExactly (gain_of ten_cards [] []) 1 1

abbrev pub HoldUpGains : Type 0
HoldUpGains = IsExactly (gain_of ten_cards [] hold_up) 13 25

abbrev pub FinesseOverTenGains : Type 0
FinesseOverTenGains = IsExactly (gain_of tenace_over_ten finesse []) 6473 14858

-- a range for West leaves out the void, and all three cards with him weigh nothing
abbrev pub KnownWestGains : Type 0
KnownWestGains =
    (layouts known_west
    ≡ (13 ∷ 11 ∷ 2 ∷ []) ∷ (13 ∷ 11 ∷ []) ∷ (13 ∷ 2 ∷ []) ∷ (13 ∷ []) ∷ (11 ∷ 2 ∷ []) ∷ (11 ∷ []) ∷ (2 ∷ []) ∷ [])
    × (map (weight known_west) (1 ∷ 2 ∷ 3 ∷ []) ≡ 12 ∷ 1 ∷ 0 ∷ [])
    × IsExactly (gain_of known_west ace_on_two split_honours) 2021 234
