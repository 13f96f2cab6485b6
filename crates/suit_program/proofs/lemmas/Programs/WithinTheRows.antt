-- A point within the rows of a support's program keeps them at all that is reached (`kept_within`).
use Rattle.std.proofs.Common.{◌≡◌, ℕ, Bool, true, false, List, [], ◌∷◌, ◌++◌, length, sym, ap, ◌∙◌, arith}
use Rattle.std.specs.Prelude.{Contains, ◌&&◌, nat_lt, ℤ, pos, ◌-ℤ◌, ◌*ℤ◌, ◌≤ℤ◌}
use Rattle.std.proofs.lemmas.Bool.{and_parts, false≢true}
use Rattle.std.proofs.lemmas.Int.{ints}
use Rattle.suit_lists.proofs.Elements.{Contains-first, Contains-same}
use Rattle.suit_lists.proofs.Firsts.{HasFirst}
use Rattle.suit_cards.specs.Cards.{ClassLayout}
use Rattle.suit_game.specs.declared.question.Question.{Question}
use Rattle.suit_game.specs.Validity.{IsValid}
use Rattle.suit_game.specs.declared.limits.TheConstants.{HAND_SIZE}
use Rattle.suit_classes.specs.declared.class_moves.ClassMove.{ClassMove}
use Rattle.suit_classes.specs.ClassPlaces.{class_after, class_turn}
use Rattle.suit_plans.specs.Masses.{is_defences}
use Rattle.suit_plans.specs.ReplyLaws.{IsPaid}
use Rattle.suit_plans.proofs.AtMostThirteenTricks.{paid_most}
use Rattle.suit_plans.proofs.WhoseTurns.{their_turn}
use Rattle.suit_program.specs.Programs.Points.{Held, IsPositive, Point}
use Rattle.suit_program.specs.Programs.{Answered, Limit, Shared, excess, limits, sum_passed}
use Rattle.suit_program.specs.Supports.{Support, declarer_chooses, defence_chooses, is_reached, layouts_of}
use Rattle.suit_program.specs.Supports.{legal_moves, supported_moves}
use Rattle.suit_program.specs.Programs.Worths.{mass_at, worth_at}
use Rattle.suit_program.proofs.lemmas.Supports.WhatIsReached.{answered_listed, reached_allows, reached_next}
use Rattle.suit_program.proofs.lemmas.Supports.WhatIsReached.{shared_listed}
use Rattle.suit_program.proofs.lemmas.Programs.SumsInOrder.{le_trans}
use Rattle.suit_program.proofs.lemmas.Supports.TurnCases.{Ended, Forced, Own, Theirs, TurnAt, turn_at}
use Rattle.suit_program.proofs.lemmas.Programs.WorthWithinMass.{AreKept}

-- ---- choices of the defence

-- a choice of the defence has a first move, and its moves keep the masses
pub record IsTheirs (question : Question) (support : Support) (west : ClassLayout)
    (history : List ClassMove) : Type 0 where
  pub some : HasFirst (supported_moves question support west history)
  pub same : (point : Point) (move : ClassMove)
      → mass_at question support point (history ++ move ∷ []) ≡ mass_at question support point history

pub their_choice : (question : Question) (support : Support) (west : ClassLayout) (history : List ClassMove)
    → defence_chooses question west history ≡ true → IsTheirs question support west history
their_choice question support west history chooses = at (turn_at question support west history)
  where
    at : TurnAt question support west history → IsTheirs question support west history
    at (Ended over none not) = absurd (false≢true (sym not ∙ chooses))
    at (Forced move alone only not same) = absurd (false≢true (sym not.1 ∙ chooses))
    at (Own own not same some) = absurd (false≢true (sym not ∙ chooses))
    at (Theirs theirs some same) = record { some = some; same = same }

-- it is none of declarer's
pub their_only : (question : Question) (west : ClassLayout) (history : List ClassMove)
    → defence_chooses question west history ≡ true → declarer_chooses question history ≡ false
unfolding declarer_chooses defence_chooses
their_only question west history chooses =
    let several : Bool = nat_lt 1 (length (legal_moves question west history)) in
    let theirs = (and_parts (is_defences (class_turn (class_after question history))) several chooses).0 in
    ap (λ (b : Bool). b && nat_lt 1 (length (legal_moves question [] history)))
    (their_turn (class_after question history) theirs).1

-- ---- points within the rows

-- a point that exceeds no row
pub record IsWithin (question : Question) (support : Support) (point : Point) : Type 0 where
  pub positive : IsPositive point
  pub rows : (limit : Limit) → Contains (limits question support) limit → excess question support point limit ≤ℤ pos 0

module _ (question : Question) (support : Support) (valid : IsValid question) (point : Point)
    (within : IsWithin question support point) where
  module _ (layout : ClassLayout × ℕ) (listed : Contains (layouts_of question) layout) where
    abbrev pub Reached : List ClassMove → Type 0
    Reached history = is_reached question support layout.0 history ≡ true

    pub shared_kept : (history : List ClassMove) → Reached history → declarer_chooses question history ≡ true
        → sum_passed question support point history ≤ℤ mass_at question support point history
    unfolding excess
    shared_kept history reached chooses =
        under (sum_passed question support point history) (mass_at question support point history)
        (within.rows (Shared history) (shared_listed question support valid layout listed history reached chooses))
      where
        under : (a b : ℤ) → (a -ℤ b) ≤ℤ pos 0 → a ≤ℤ b
        under a b le = omega (arith, ints, le)

    pub held_kept : (history : List ClassMove) → Reached history → defence_chooses question layout.0 history ≡ true
        → (move : ClassMove) → Contains (supported_moves question support layout.0 history) move
        → point.at (Held layout.0 history) ≤ℤ worth_at question support point layout.0 (history ++ move ∷ [])
    unfolding excess
    held_kept history reached chooses move found =
        under (point.at (Held layout.0 history)) (worth_at question support point layout.0 (history ++ move ∷ []))
        (within.rows (Answered layout.0 history move)
        (answered_listed question support valid layout listed history move reached
        (their_only question layout.0 history chooses) chooses found))
      where
        under : (a b : ℤ) → (a -ℤ b) ≤ℤ pos 0 → a ≤ℤ b
        under a b le = omega (arith, ints, le)

    pub kept_within : AreKept question support point layout.0 Reached
    kept_within = record {
      goes = λ history move reached found. reached_next question support layout.0 history move reached found;
      payoffs = λ history reached. paid_most question layout.0 history
          (reached_allows question support valid layout listed history reached);
      shared = shared_kept;
      held = λ history reached chooses paid.
          let theirs = their_choice question support layout.0 history chooses in
          let first : ClassMove = theirs.some.first in
          let found : Contains (supported_moves question support layout.0 history) first =
          Contains-same first (sym theirs.some.parts)
          (Contains-first first theirs.some.more) in
          held_paid (mass_at question support point history)
          (worth_at question support point layout.0 (history ++ first ∷ [])) (point.at (Held layout.0 history))
          (within.positive.at (Held layout.0 history)) (held_kept history reached chooses first found)
          (paid first found);
    }
      where
        held_paid : (mass worth held : ℤ) → pos 0 ≤ℤ held → held ≤ℤ worth → IsPaid mass worth → IsPaid mass held
        held_paid mass worth held low le paid =
            record { some = low; few = le_trans held worth (pos HAND_SIZE *ℤ mass) le paid.few }
