-- Worked examples: the ten cards facing the three, as it was worked out by hand.
use Rattle.std.specs.Prelude.{◌≡◌, true, false, List, [], ◌∷◌, ℤ, pos, negsuc}
use Rattle.suit_cards.specs.declared.seats.Seat.TheVariants.{S}
use Rattle.suit_game.specs.Examples.{ten_cards}
use Rattle.suit_classes.specs.ClassMoves.{ClassHistory}
use Rattle.suit_classes.specs.declared.class_moves.ClassMove.TheVariants.{Lead, Follow, ShowOut}
use Rattle.suit_linear.specs.declared.program.ProgramRow.{ProgramRow}
use Rattle.suit_plans.specs.declared.moves.DefenceMove.{DefenceMove}
use Rattle.suit_program.specs.Programs.Points.{Held, Passed}
use Rattle.suit_program.specs.Programs.{columns, program_of, size_of, supported_worth}
use Rattle.suit_program.specs.Readings.{Part, defence_of, plan_of}
use Rattle.suit_program.specs.Supports.{Support, are_new, first_support, with_moves}

abbrev pub row : List ℤ → ℤ → ProgramRow
row entries bound = record { entries = entries; bound = bound }

-- the lead of the three, after which West plays the king, or the two, or shows out
abbrev pub led : ClassHistory
led = Lead S 3 ∷ []

abbrev pub king : ClassHistory
king = Lead S 3 ∷ Follow 1 ∷ []

abbrev pub two : ClassHistory
two = Lead S 3 ∷ Follow 4 ∷ []

abbrev pub void : ClassHistory
void = Lead S 3 ∷ ShowOut ∷ []

-- and then North the ace
abbrev pub void_ace : ClassHistory
void_ace = Lead S 3 ∷ ShowOut ∷ Follow 0 ∷ []

-- West with the king and the two has a choice, North has one after each of West's cards, and so has East with both
-- cards under the ace
abbrev pub FirstColumns : Type 0
FirstColumns =
    columns ten_cards first_support
    ≡ Held (1 ∷ 1 ∷ []) led ∷ Passed king (Follow 0) ∷ Passed two (Follow 0) ∷ Passed void (Follow 0)
    ∷ Held (0 ∷ 0 ∷ []) void_ace ∷ []

-- West plays the king, North the ace, and East the king
abbrev pub FirstProgram : Type 0
FirstProgram =
    program_of ten_cards first_support ≡ record {
      costs = pos 2496144 ∷ pos 2704156 ∷ pos 2704156 ∷ pos 0 ∷ pos 2496144 ∷ [];
      rows = row (pos 1 ∷ negsuc 0 ∷ pos 0 ∷ pos 0 ∷ pos 0 ∷ []) (pos 0)
          ∷ row (pos 0 ∷ pos 1 ∷ pos 0 ∷ pos 0 ∷ pos 0 ∷ []) (pos 1)
          ∷ row (pos 0 ∷ pos 0 ∷ pos 1 ∷ pos 0 ∷ pos 0 ∷ []) (pos 1)
          ∷ row (pos 0 ∷ pos 0 ∷ pos 0 ∷ pos 1 ∷ pos 0 ∷ []) (pos 1)
          ∷ row (pos 0 ∷ pos 0 ∷ pos 0 ∷ negsuc 0 ∷ pos 1 ∷ []) (pos 0)
          ∷ [];
    }

abbrev pub FirstSize : Type 0
FirstSize = size_of ten_cards first_support ≡ 10

-- the twos that the defence plays from the king and the two: East's under the ace, and West's
unfoldable pub both_twos : List DefenceMove
both_twos = record { layout = 0; history = void_ace; mv = Follow 4 }
    ∷ record { layout = 3; history = led; mv = Follow 4 } ∷ []

unfoldable pub second_support : Support
second_support = with_moves ten_cards first_support [] both_twos

-- they are new to the support of first moves, and not to that with them
abbrev pub TwosAreNew : Type 0
TwosAreNew = (are_new ten_cards first_support [] both_twos ≡ true)
    × (are_new ten_cards second_support [] both_twos ≡ false)

-- each of them adds a row
abbrev pub SecondProgram : Type 0
SecondProgram =
    program_of ten_cards second_support ≡ record {
      costs = pos 2496144 ∷ pos 2704156 ∷ pos 2704156 ∷ pos 0 ∷ pos 2496144 ∷ [];
      rows = row (pos 1 ∷ negsuc 0 ∷ pos 0 ∷ pos 0 ∷ pos 0 ∷ []) (pos 0)
          ∷ row (pos 1 ∷ pos 0 ∷ pos 0 ∷ pos 0 ∷ pos 0 ∷ []) (pos 0)
          ∷ row (pos 0 ∷ pos 1 ∷ pos 0 ∷ pos 0 ∷ pos 0 ∷ []) (pos 1)
          ∷ row (pos 0 ∷ pos 0 ∷ pos 1 ∷ pos 0 ∷ pos 0 ∷ []) (pos 1)
          ∷ row (pos 0 ∷ pos 0 ∷ pos 0 ∷ pos 1 ∷ pos 0 ∷ []) (pos 1)
          ∷ row (pos 0 ∷ pos 0 ∷ pos 0 ∷ negsuc 0 ∷ pos 1 ∷ []) (pos 0)
          ∷ row (pos 0 ∷ pos 0 ∷ pos 0 ∷ pos 0 ∷ pos 1 ∷ []) (pos 0)
          ∷ [];
    }

abbrev pub SecondSize : Type 0
SecondSize = size_of ten_cards second_support ≡ 12

-- its optimum gives all to the ace after a card of West's, and nothing after he shows out
unfoldable pub second_point : List Part
second_point = (pos 0, pos 1) ∷ (pos 1, pos 1) ∷ (pos 1, pos 1) ∷ (pos 0, pos 1) ∷ (pos 0, pos 1) ∷ []

-- the rest goes to the ace there too, so that no row is needed
abbrev pub SecondPlan : Type 0
SecondPlan = plan_of ten_cards second_support second_point ≡ record { den = pos 1; rows = [] }

-- the prices of its rows: those of the twos are all of the weights
unfoldable pub second_prices : List ℤ
second_prices =
    pos 0 ∷ pos 2496144 ∷ pos 2704156 ∷ pos 2704156 ∷ pos 0 ∷ pos 0 ∷ pos 2496144 ∷ []

-- so the defence plays them
abbrev pub SecondDefence : Type 0
SecondDefence =
    defence_of ten_cards second_support second_prices (pos 1) ≡ record {
      den = pos 1;
      rows = record { west = 0 ∷ 0 ∷ []; history = void_ace; counts = (Follow 4, pos 2496144) ∷ [] }
          ∷ record { west = 1 ∷ 1 ∷ []; history = led; counts = (Follow 4, pos 2496144) ∷ [] } ∷ [];
    }

-- the greatest objective is 5408312, and nothing rests on no column: in 26 of 50 deals the goal is met
abbrev pub SecondWorth : Type 0
SecondWorth = supported_worth ten_cards second_support (pos 5408312) (pos 1) ≡ pos 5408312
