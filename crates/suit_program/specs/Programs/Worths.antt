-- What play with the moves of a support comes to at a point.
use Rattle.std.specs.Prelude.{ℕ, zero, suc, ◌-◌, List, [], ◌∷◌, ◌++◌, length, map, Some, None, if◌then◌else◌}
use Rattle.std.specs.Prelude.{ℤ, pos, ◌*ℤ◌}
use Rattle.suit_cards.specs.Cards.{ClassLayout}
use Rattle.suit_game.specs.declared.question.Question.{Question}
use Rattle.suit_game.specs.declared.limits.TheConstants.{MOST_MOVES}
use Rattle.suit_classes.specs.ClassMoves.{ClassHistory}
use Rattle.suit_classes.specs.ClassPlaces.{class_after, class_payoff}
use Rattle.suit_plans.specs.Masses.{Shares, Side, is_declarers, mass_of}
use Rattle.suit_plans.specs.Properness.{sum_of}
use Rattle.suit_program.specs.Programs.Points.{Held, Passed, Point}
use Rattle.suit_program.specs.Supports.{Support, declarer_chooses, defence_chooses, layouts_of, supported_moves}

-- what a point passes on with each move of a support at a choice of declarer's
abbrev pub passed : Question → Support → Point → ClassHistory → Shares
passed question support point history =
    map (λ move. (move, point.at (Passed history move))) (supported_moves question support [] history)

-- declarer as he plays by a point
abbrev pub player : Question → Support → Point → Side
player question support point = record {
  plays = is_declarers;
  counts = [];
  shares_at = λ history. if declarer_chooses question history then Some (passed question support point history)
      else None;
  whole = point.one;
}

-- the mass of a class history at a point: the column of the last choice of declarer's, and 1 where he had none
abbrev pub mass_at : Question → Support → Point → ClassHistory → ℤ
mass_at question support point history = mass_of question (player question support point) history

-- what a class history is worth where its moves are worth so much: the payoff for its mass where it has none, and else
-- the sum
abbrev pub summed : Question → Support → Point → ClassHistory → List ℤ → ℤ
summed question support point history [] =
    pos (class_payoff (class_after question history)) *ℤ mass_at question support point history
summed question support point history (worth ∷ worths) = sum_of (worth ∷ worths)

-- what a class history is worth in a class layout at a point, which fewer than so many moves follow: its column at a
-- choice of the defence, and else what the moves of the support make of it
unfoldable pub worth_within : Question → Support → Point → ℕ → ClassLayout → ClassHistory → ℤ
worth_within question support point zero west history = pos 0
worth_within question support point (suc more) west history =
    if defence_chooses question west history then point.at (Held west history)
    else summed question support point history
    (map (λ move. worth_within question support point more west (history ++ move ∷ []))
    (supported_moves question support west history))

-- what it is worth; no class history has more than 52 moves
abbrev pub worth_at : Question → Support → Point → ClassLayout → ClassHistory → ℤ
worth_at question support point west history =
    worth_within question support point (suc MOST_MOVES - length history) west history

-- the worths of all class layouts at the start, each with its weight
unfoldable pub objective_at : Question → Support → Point → ℤ
objective_at question support point =
    sum_of (map (λ (layout : ClassLayout × ℕ). pos layout.1 *ℤ worth_at question support point layout.0 [])
    (layouts_of question))
