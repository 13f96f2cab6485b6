-- What a class history is worth by what its moves are worth, and which moves go on from it (`worth_summed`,
-- `own_next`).
use Rattle.std.proofs.Common.{◌≡◌, ℕ, suc, ◌-◌, ◌≤◌, Bool, true, false, List, [], ◌∷◌, ◌++◌, length, map, refl}
use Rattle.std.proofs.Common.{sym, ap, ◌∙◌, arith}
use Rattle.std.specs.Prelude.{Contains, ◌&&◌, filter, nat_lt, ℤ, pos, ◌*ℤ◌}
use Rattle.std.specs.List.{flat_map}
use Rattle.std.proofs.lemmas.List.{length-append}
use Rattle.std.proofs.lemmas.List.Elements.{filter_agree}
use Rattle.suit_lists.proofs.Elements.{Contains-first, Contains-same}
use Rattle.suit_lists.proofs.Filters.{filter_none}
use Rattle.suit_lists.proofs.Firsts.{HasFirst}
use Rattle.suit_lists.proofs.FlatMaps.{Contains-flat_map, flat_map_from, flat_map_none}
use Rattle.suit_lists.proofs.Maps.{map_same}
use Rattle.suit_cards.specs.Cards.{ClassLayout}
use Rattle.suit_game.specs.declared.question.Question.{Question}
use Rattle.suit_game.specs.Validity.{IsValid}
use Rattle.suit_game.specs.declared.limits.TheConstants.{MOST_MOVES}
use Rattle.std.proofs.lemmas.Bool.{false≢true}
use Rattle.suit_classes.specs.declared.class_moves.ClassMove.{ClassMove}
use Rattle.suit_classes.specs.WhatIsAllowed.{every_move, is_among}
use Rattle.suit_classes.specs.ClassPlaces.{class_after, class_decided, class_payoff, class_turn}
use Rattle.suit_classes.proofs.DecidedStaysDecided.{class_histories_are_short}
use Rattle.suit_classes.proofs.SameMoves.{among-Contains, among_contained}
use Rattle.suit_plans.specs.Masses.{is_declarers, is_defences}
use Rattle.suit_plans.proofs.WhoseTurns.{Declarers, Defences, Over, WhoseTurn, whose_turn}
use Rattle.suit_plans.specs.Properness.{sum_of}
use Rattle.suit_program.specs.Programs.Points.{Held, Point}
use Rattle.suit_program.specs.Supports.{Support, declarer_chooses, defence_chooses, is_reached, layouts_of, legal_moves}
use Rattle.suit_program.specs.Supports.{next_moves, reached_layouts, supported_moves}
use Rattle.suit_program.specs.Programs.Worths.{mass_at, worth_at, worth_within}
use Rattle.suit_program.proofs.lemmas.Supports.WhatIsReached.{reached_allows}
use Rattle.suit_program.proofs.lemmas.Supports.TurnCases.{own_supported, supported_going}
use Rattle.suit_program.proofs.lemmas.Supports.SumsByPlay.{supported_all}
use Rattle.suit_program.proofs.lemmas.Programs.WorthWithinMass.{choosing, going, some_summed}

pub same_bools : (a b : Bool) → (a ≡ true → b ≡ true) → (b ≡ true → a ≡ true) → a ≡ b
same_bools true b there back = sym (there refl)
same_bools false true there back = back refl
same_bools false false there back = refl

-- ---- worths

fuel_here : (history : List ClassMove) → length history ≤ MOST_MOVES
    → suc MOST_MOVES - length history ≡ suc (MOST_MOVES - length history)
fuel_here history short = omega arith

fuel_next : (history : List ClassMove) (move : ClassMove)
    → MOST_MOVES - length history ≡ suc MOST_MOVES - length (history ++ move ∷ [])
fuel_next history move = omega (arith, length-append history (move ∷ []))

module _ (question : Question) (support : Support) (point : Point) (west : ClassLayout) (history : List ClassMove)
    (short : length history ≤ MOST_MOVES) where
  here_within : worth_at question support point west history
      ≡ worth_within question support point (suc (MOST_MOVES - length history)) west history
  here_within = ap (λ (n : ℕ). worth_within question support point n west history) (fuel_here history short)

  -- a choice of the defence is worth its column
  pub worth_held : defence_chooses question west history ≡ true
      → worth_at question support point west history ≡ point.at (Held west history)
  worth_held chooses = here_within ∙ choosing question support point west (MOST_MOVES - length history) history chooses

  -- where play is over there is the payoff
  pub worth_paid : defence_chooses question west history ≡ false → supported_moves question support west history ≡ []
      → worth_at question support point west history
      ≡ pos (class_payoff (class_after question history)) *ℤ mass_at question support point history
  worth_paid not none = here_within ∙ going question support point west (MOST_MOVES - length history)
      history [] not none

  -- and else the sum
  pub worth_summed : (moves : List ClassMove) → defence_chooses question west history ≡ false
      → supported_moves question support west history ≡ moves → HasFirst moves
      → worth_at question support point west history
      ≡ sum_of (map (λ move. worth_at question support point west (history ++ move ∷ [])) moves)
  worth_summed moves not is some =
      let next : ClassMove → ℤ =
      λ move. worth_within question support point (MOST_MOVES - length history) west (history ++ move ∷ []) in
      here_within ∙ going question support point west (MOST_MOVES - length history) history moves not is
      ∙ some_summed question support point history next moves some
      ∙ ap sum_of (map_same next (λ move. worth_at question support point west (history ++ move ∷ [])) moves
      (λ move found. ap (λ (n : ℕ). worth_within question support point n west (history ++ move ∷ []))
      (fuel_next history move)))

-- what is reached is short
pub reached_short : (question : Question) (support : Support) → IsValid question → (layout : ClassLayout × ℕ)
    → Contains (layouts_of question) layout → (history : List ClassMove)
    → is_reached question support layout.0 history ≡ true → length history ≤ MOST_MOVES
reached_short question support valid layout listed history reached =
    class_histories_are_short question layout.0 history
    (reached_allows question support valid layout listed history reached)

-- ---- moves

module _ (question : Question) (support : Support) (history : List ClassMove) where
  -- none where play is decided
  pub over_supported : class_decided (class_after question history) ≡ true → (west : ClassLayout)
      → supported_moves question support west history ≡ []
  over_supported over west = none (supported_moves question support west history)
      (λ move found. supported_going question support west history move found)
    where
      none : (moves : List ClassMove)
          → ((move : ClassMove) → Contains moves move → class_decided (class_after question history) ≡ false) → moves
          ≡ []
      none [] goes = refl
      none (move ∷ moves) goes = absurd (false≢true (sym (goes move (Contains-first move moves)) ∙ over))

  pub over_next : class_decided (class_after question history) ≡ true → next_moves question support history ≡ []
  unfolding next_moves is_among
  over_next over =
      ap (λ (l : List ClassMove). filter (is_among l) every_move)
      (flat_map_none (λ (layout : ClassLayout × ℕ). supported_moves question support layout.0 history)
      (reached_layouts question support history) (λ layout found. over_supported over layout.0))
      ∙ filter_none every_move

  -- at a turn of declarer's those of his
  pub own_next : class_decided (class_after question history) ≡ false
      → is_declarers (class_turn (class_after question history)) ≡ true
      → (layout : ClassLayout × ℕ) → Contains (reached_layouts question support history) layout
      → next_moves question support history ≡ supported_moves question support [] history
  unfolding next_moves
  own_next not_over own layout held =
      let moves : ClassLayout × ℕ → List ClassMove = λ other. supported_moves question support other.0 history in
      let mine : List ClassMove = supported_moves question support [] history in
      let layouts : List (ClassLayout × ℕ) = reached_layouts question support history in
      let same : (other : ClassLayout × ℕ) → moves other ≡ mine =
      λ other. own_supported question support other.0 history not_over own in
      filter_agree (is_among (flat_map moves layouts)) (is_among mine)
      (λ move. same_bools (is_among (flat_map moves layouts) move) (is_among mine move)
      (λ among.
      let from = flat_map_from moves layouts move (among-Contains (flat_map moves layouts) move among) in
      among_contained mine move (Contains-same move (same from.0) from.2))
      (λ among. among_contained (flat_map moves layouts) move
      (Contains-flat_map moves layouts layout move held
      (Contains-same move (sym (same layout)) (among-Contains mine move among)))))
      every_move
      ∙ sym (supported_all question support [] history)

-- ---- whose turn it is

-- where play is over it is nobody's
pub over_turn : (question : Question) (history : List ClassMove) → class_decided (class_after question history) ≡ true
    → (is_declarers (class_turn (class_after question history)) ≡ false)
    × (is_defences (class_turn (class_after question history)) ≡ false)
over_turn question history over = at (whose_turn (class_after question history))
  where
    at : WhoseTurn (class_after question history)
        → (is_declarers (class_turn (class_after question history)) ≡ false)
        × (is_defences (class_turn (class_after question history)) ≡ false)
    at (Over decided turn) = (ap is_declarers turn, ap is_defences turn)
    at (Declarers going own not_theirs) = absurd (false≢true (sym going ∙ over))
    at (Defences going not_own theirs) = absurd (false≢true (sym going ∙ over))

-- the defence has no choice where it is not on turn
pub defence_waits : (question : Question) (history : List ClassMove)
    → is_defences (class_turn (class_after question history)) ≡ false → (west : ClassLayout)
    → defence_chooses question west history ≡ false
unfolding defence_chooses
defence_waits question history not west =
    ap (λ (b : Bool). b && nat_lt 1 (length (legal_moves question west history))) not

-- nor has declarer
pub declarer_waits : (question : Question) (history : List ClassMove)
    → is_declarers (class_turn (class_after question history)) ≡ false → declarer_chooses question history ≡ false
unfolding declarer_chooses
declarer_waits question history not = ap (λ (b : Bool). b && nat_lt 1 (length (legal_moves question [] history))) not
