-- most_reply_walked: the best reply to a defence is what one finds walking along it.
use Rattle.std.proofs.Common.{◌≡◌, ℕ, Bool, true, false, List, [], ◌∷◌, ◌++◌, length, map, refl, sym, ap, ◌∙◌}
use Rattle.std.proofs.Common.{arith}
use Rattle.std.specs.Prelude.{Contains, filter, if◌then◌else◌, pos, ◌≤ℤ◌, int_lt}
use Rattle.std.proofs.lemmas.Bool.{and_parts}
use Rattle.std.proofs.lemmas.List.{length-append}
use Rattle.std.proofs.lemmas.Simd.{map-map}
use Rattle.suit_lists.proofs.Filters.{Contains-filter, kept_parts, none_passing}
use Rattle.suit_lists.proofs.Once.{once_filter, once_unless}
use Rattle.suit_lists.proofs.Tests.{passing_some, some_passing}
use Rattle.suit_cards.specs.Cards.{ClassLayout}
use Rattle.suit_game.specs.declared.question.Question.{Question}
use Rattle.suit_game.specs.Validity.{IsValid}
use Rattle.suit_classes.specs.declared.class_moves.ClassMove.{ClassMove}
use Rattle.suit_classes.specs.WhatIsAllowed.{allows, every_move, is_among}
use Rattle.suit_classes.specs.ClassGame.{Allows}
use Rattle.suit_classes.specs.ClassPlaces.{class_after, class_decided, class_moves}
use Rattle.suit_classes.proofs.CountsAllowAsTold.{allows_tells}
use Rattle.suit_classes.proofs.DecidedStaysDecided.{class_histories_are_short}
use Rattle.suit_classes.proofs.SameMoves.{among-Contains}
use Rattle.suit_classes.proofs.AllowsOneMoveMore.{allows-push}
use Rattle.suit_classes.specs.ClassMoves.{ClassHistory}
use Rattle.suit_plans.proofs.AllowedSoFar.{start_allows}
use Rattle.suit_plans.specs.declared.moves.DeclarerMove.{DeclarerMove}
use Rattle.suit_plans.specs.declared.defence.Defence.{Defence}
use Rattle.suit_plans.specs.BestReplies.{Reply, allowing_layouts, choices, most_reply, reply_to_defence}
use Rattle.suit_plans.specs.Masses.{defence_mass, defenders}
use Rattle.suit_plans.specs.Properness.{IsProperDefence, some_allows}
use Rattle.suit_plans.proofs.MassBounds.{mass_falls}
use Rattle.suit_plans.proofs.PublicMoves.{layout_weighs}
use Rattle.suit_plans.proofs.WorthsAtTurns.{max_picks}
use Rattle.suit_plans.proofs.ProperDefences.{defences_are_realised}
use Rattle.suit_tree.proofs.MovesOn.{once_every_move}
use Rattle.suit_reply.specs.declared.chosen_move.ChosenMove.{ChosenMove}
use Rattle.suit_reply.proofs.ChoicesAlongAReply.ReplyToAPlan.{live_rises}
use Rattle.suit_reply.proofs.ChoicesAlongAReply.{IsSteady, choice_of, choices_walked}
use Rattle.suit_reply.proofs.ChoicesAlongAReply.WalkOfAReply.{walked}
use Rattle.suit_reply.proofs.OwnMovesGoOn.{layouts_of}
use Rattle.suit_game.specs.declared.limits.TheConstants.{MOST_MOVES}

-- ---- class layouts

-- a class layout that is listed allows the histories that it is told to
layout_allows : (question : Question) (layout : ClassLayout × ℕ) (history : ClassHistory) → IsValid question
    → Contains (layouts_of question) layout → allows question layout.0 history ≡ true
    → Allows question layout.0 history
layout_allows question layout history valid found told =
    (allows_tells question layout.0 history
    (start_allows question layout.0 valid (layout_weighs question valid layout found))).0 told

-- some class layout allows no history of more than 52 moves
none_longer : (question : Question) (history : ClassHistory) (move : ClassMove) → IsValid question → length history ≡ MOST_MOVES
    → some_allows question (history ++ move ∷ []) ≡ true → ⊥
unfolding some_allows
none_longer question history move valid full some =
    let layout =
    some_passing (λ (other : ClassLayout × ℕ). allows question other.0 (history ++ move ∷ []))
    (layouts_of question) some in
    let short =
    class_histories_are_short question layout.0.0 (history ++ move ∷ [])
    (layout_allows question layout.0 (history ++ move ∷ []) valid layout.1 layout.2) in
    omega (arith, full, short, length-append history (move ∷ []))

-- ---- the reply

-- where mass comes to a class history with one move more, mass comes to it
mass_before : (question : Question) (defence : Defence) (history : ClassHistory) (move : ClassMove) → IsValid question
    → IsProperDefence question defence
    → (reply_to_defence question defence).live (history ++ move ∷ []) ≡ true
    → (reply_to_defence question defence).live history ≡ true
unfolding defence_mass
mass_before question defence history move valid proper live =
    let layouts : List (ClassLayout × ℕ) = layouts_of question in
    let test : ClassHistory → ClassLayout × ℕ → Bool =
    λ begun layout. int_lt (pos 0) (defence_mass question defence layout.0 begun) in
    let told : ClassHistory → ClassLayout × ℕ → Bool = λ begun layout. allows question layout.0 begun in
    let some = some_passing (test (history ++ move ∷ [])) (allowing_layouts question (history ++ move ∷ [])) live in
    let layout : ClassLayout × ℕ = some.0 in
    let kept = kept_parts (told (history ++ move ∷ [])) layouts layout some.1 in
    let parts =
    and_parts (allows question layout.0 history) (is_among (class_moves (class_after question history) layout.0) move)
    (sym (allows-push question layout.0 history move) ∙ kept.1) in
    let falls : defence_mass question defence layout.0 (history ++ move ∷ [])
    ≤ℤ defence_mass question defence layout.0 history =
    mass_falls question (defenders question defence.den defence.rows layout.0) layout.0 history move
    (defences_are_realised question defence layout.0 valid proper (layout_weighs question valid layout kept.0))
    (layout_allows question layout history valid kept.0 parts.0)
    (among-Contains (class_moves (class_after question history) layout.0) move parts.1) in
    passing_some (test history) (allowing_layouts question history) layout
    (Contains-filter (told history) layouts layout kept.0 parts.0)
    (live_rises (defence_mass question defence layout.0 (history ++ move ∷ []))
    (defence_mass question defence layout.0 history) falls some.2)

-- no class history of 52 moves goes on
none_onward : (question : Question) (history : ClassHistory) → IsValid question → length history ≡ MOST_MOVES → (b : Bool)
    → (if b then [] else filter (λ move. some_allows question (history ++ move ∷ [])) every_move) ≡ []
none_onward question history valid full true = refl
none_onward question history valid full false =
    none_passing (λ move. some_allows question (history ++ move ∷ [])) every_move
    (λ move some. none_longer question history move valid full some)

-- the reply to a proper defence is steady, over all class histories
pub defence_reply_steady : (question : Question) (defence : Defence) → IsValid question
    → IsProperDefence question defence → IsSteady (λ history. Unit {0}) (reply_to_defence question defence)
defence_reply_steady question defence valid proper = record {
  starts = tt;
  goes_on = λ history move fits found. tt;
  begins_live = λ history move fits found live. mass_before question defence history move valid proper live;
  once = λ history.
      let test : ClassMove → Bool = λ move. some_allows question (history ++ move ∷ []) in
      once_unless (class_decided (class_after question history)) (filter test every_move)
      (once_filter test every_move once_every_move);
  picks = max_picks;
  ends = λ history fits full. none_onward question history valid full (class_decided (class_after question history));
}

-- so the best reply to it is what one finds walking along it
pub most_reply_walked : (question : Question) (defence : Defence) → IsValid question → IsProperDefence question defence
    → most_reply question defence ≡ map (λ (choice : ChosenMove). record { history = choice.history; mv = choice.mv })
    (walked MOST_MOVES (reply_to_defence question defence) [])
unfolding most_reply
most_reply_walked question defence valid proper =
    let reply : Reply = reply_to_defence question defence in
    let named : ChosenMove → DeclarerMove = λ choice. record { history = choice.history; mv = choice.mv } in
    sym (map-map named (choice_of reply) (choices reply))
    ∙ ap (map named) (choices_walked (λ history. Unit {0}) reply (defence_reply_steady question defence valid proper))
