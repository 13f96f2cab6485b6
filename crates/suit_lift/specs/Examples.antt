-- Worked examples of the lifts, written down by hand.
use Rattle.std.specs.Prelude.{◌≡◌, [], ◌∷◌, map, pos}
use Rattle.suit_cards.specs.declared.seats.Seat.TheVariants.{N, S}
use Rattle.suit_game.specs.declared.question.Goal.TheVariants.{AtLeast, Tricks}
use Rattle.suit_game.specs.declared.question.LeadAt.TheVariants as leads
use Rattle.suit_game.specs.declared.question.Entries.TheVariants.{Count}
use Rattle.suit_game.specs.declared.question.Question.{Question}
use Rattle.suit_game.specs.declared.moves.Move.TheVariants.{Lead, Follow, ShowOut}
use Rattle.suit_game.specs.Question.{plain}
use Rattle.suit_game.specs.Positions.{legal}
use Rattle.suit_classes.specs.declared.class_moves.ClassMove.TheVariants as classes
use Rattle.suit_plans.specs.declared.plan.Plan.{Plan}
use Rattle.suit_plans.specs.declared.defence.Defence.{Defence}
use Rattle.suit_lift.specs.Lifts.{defence_share, plan_share}

-- the ace, the king and the ten down to the six, facing the five and the four; the lead is South's, and one entry
-- leads to South
unfoldable pub seven_tricks : Question
seven_tricks = record (plain (14 ∷ 13 ∷ 10 ∷ 9 ∷ 8 ∷ 7 ∷ 6 ∷ []) (5 ∷ 4 ∷ []) (AtLeast 7)) {
  start = leads.S;
  entries_n = Count 0;
  entries_s = Count 1;
}

unfoldable pub no_plan : Plan
no_plan = record { den = pos 1; rows = [] }

unfoldable pub no_defence : Defence
no_defence = record { den = pos 1; rows = [] }

-- after South's five and West's three, the king alone is played
abbrev pub KingFirst : Type 0
KingFirst =
    map (plan_share seven_tricks no_plan (Lead S 5 ∷ Follow 3 ∷ [])) (legal seven_tricks [] (Lead S 5 ∷ Follow 3 ∷ []))
    ≡ record { mv = Follow 14; count = pos 0; among = 1 }
    ∷ record { mv = Follow 13; count = pos 1; among = 1 }
    ∷ record { mv = Follow 10; count = pos 0; among = 1 }
    ∷ record { mv = Follow 9; count = pos 0; among = 1 }
    ∷ record { mv = Follow 8; count = pos 0; among = 1 }
    ∷ record { mv = Follow 7; count = pos 0; among = 1 }
    ∷ record { mv = Follow 6; count = pos 0; among = 1 }
    ∷ []

-- after North's king, East plays the queen and the jack alike
abbrev pub QueenOrJack : Type 0
QueenOrJack =
    map (defence_share seven_tricks no_defence (3 ∷ 2 ∷ []) (Lead S 5 ∷ Follow 3 ∷ Follow 13 ∷ []))
    (legal seven_tricks (3 ∷ 2 ∷ []) (Lead S 5 ∷ Follow 3 ∷ Follow 13 ∷ []))
    ≡ record { mv = Follow 12; count = pos 1; among = 2 }
    ∷ record { mv = Follow 11; count = pos 1; among = 2 }
    ∷ []

-- the ace and the ten with the nine, facing the six and the five: king, queen and jack are one class of the
-- defenders', eight and seven another, and the four down to the two a third
unfoldable pub three_gaps : Question
three_gaps =
    record (plain (14 ∷ 10 ∷ 9 ∷ []) (6 ∷ 5 ∷ []) Tricks) { start = leads.S; entries_n = Count 1; entries_s = Count 1 }

-- West holds the king, the queen, the eight and the seven, counts of weight 145,860; his row gives the upper class two
-- fifths of that and the lower the rest
unfoldable pub upper_or_lower : Defence
upper_or_lower = record {
  den = pos 1;
  rows = record {
    west = 2 ∷ 2 ∷ 0 ∷ [];
    history = classes.Lead S 4 ∷ [];
    counts = (classes.Follow 1, pos 58344) ∷ (classes.Follow 3, pos 87516) ∷ [];
  } ∷ [];
}

-- each card of a class has its class's count, among two
abbrev pub TwoClassesOfTwo : Type 0
TwoClassesOfTwo =
    map (defence_share three_gaps upper_or_lower (13 ∷ 12 ∷ 8 ∷ 7 ∷ []) (Lead S 6 ∷ [])) (legal three_gaps
    (13 ∷ 12 ∷ 8 ∷ 7 ∷ []) (Lead S 6 ∷ []))
    ≡ record { mv = Follow 13; count = pos 58344; among = 2 }
    ∷ record { mv = Follow 12; count = pos 58344; among = 2 }
    ∷ record { mv = Follow 8; count = pos 87516; among = 2 }
    ∷ record { mv = Follow 7; count = pos 87516; among = 2 }
    ∷ []

-- West plays an upper card always, so that no mass is left where he has played the eight, and the row there shares out
-- nothing
unfoldable pub nothing_named : Defence
nothing_named = record {
  den = pos 1;
  rows = record {
    west = 2 ∷ 2 ∷ 0 ∷ [];
    history = classes.Lead S 4 ∷ [];
    counts = (classes.Follow 1, pos 145860) ∷ [];
  } ∷ record {
    west = 2 ∷ 2 ∷ 0 ∷ [];
    history = classes.Lead S 4 ∷ classes.Follow 3 ∷ classes.Follow 0 ∷ [];
    counts = (classes.Follow 5, pos 0) ∷ [];
  } ∷ [];
}

-- East's first class, the jack, counts 1 there
abbrev pub AllCountsZero : Type 0
AllCountsZero =
    map (defence_share three_gaps nothing_named (13 ∷ 12 ∷ 8 ∷ 7 ∷ []) (Lead S 6 ∷ Follow 8 ∷ Follow 14 ∷ []))
    (legal three_gaps (13 ∷ 12 ∷ 8 ∷ 7 ∷ []) (Lead S 6 ∷ Follow 8 ∷ Follow 14 ∷ []))
    ≡ record { mv = Follow 11; count = pos 1; among = 1 }
    ∷ record { mv = Follow 4; count = pos 0; among = 3 }
    ∷ record { mv = Follow 3; count = pos 0; among = 3 }
    ∷ record { mv = Follow 2; count = pos 0; among = 3 }
    ∷ []

-- West, who has none, shows out, and that is a class move of its own
abbrev pub ShowingOut : Type 0
ShowingOut =
    map (defence_share three_gaps no_defence [] (Lead S 6 ∷ [])) (legal three_gaps [] (Lead S 6 ∷ []))
    ≡ record { mv = ShowOut; count = pos 1; among = 1 } ∷ []

-- the lead is South's, and both hands have an entry: North's classes come first, and the row names the lowest of
-- South's
unfoldable pub from_either : Plan
from_either = record {
  den = pos 4;
  rows = record { history = []; counts = (classes.Lead N 2, pos 1) ∷ (classes.Lead S 4, pos 3) ∷ [] } ∷ [];
}

abbrev pub LeadsFromBoth : Type 0
LeadsFromBoth =
    map (plan_share three_gaps from_either []) (legal three_gaps [] [])
    ≡ record { mv = Lead N 14; count = pos 0; among = 1 }
    ∷ record { mv = Lead N 10; count = pos 0; among = 1 }
    ∷ record { mv = Lead N 9; count = pos 1; among = 1 }
    ∷ record { mv = Lead S 6; count = pos 0; among = 1 }
    ∷ record { mv = Lead S 5; count = pos 3; among = 1 }
    ∷ []

-- where all seven tricks must be won and one is lost, play is decided and goes on, the lead standing at either hand:
-- the first class move counts 1
abbrev pub PastDecided : Type 0
PastDecided =
    map (plan_share seven_tricks no_plan (Lead S 5 ∷ Follow 3 ∷ Follow 6 ∷ Follow 11 ∷ [])) (legal seven_tricks []
    (Lead S 5 ∷ Follow 3 ∷ Follow 6 ∷ Follow 11 ∷ []))
    ≡ record { mv = Lead N 14; count = pos 0; among = 1 }
    ∷ record { mv = Lead N 13; count = pos 1; among = 1 }
    ∷ record { mv = Lead N 10; count = pos 0; among = 1 }
    ∷ record { mv = Lead N 9; count = pos 0; among = 1 }
    ∷ record { mv = Lead N 8; count = pos 0; among = 1 }
    ∷ record { mv = Lead N 7; count = pos 0; among = 1 }
    ∷ record { mv = Lead S 4; count = pos 0; among = 1 }
    ∷ []
