-- Cards that are none of declarer's, as many as West may have, are his under a layout (layout_listed).
use Rattle.std.proofs.Common.{◌≡◌, ℕ, ◌≤◌, ◌<◌, ◌&&◌, not, Bool, true, false, cond, List, [], ◌∷◌, ◌++◌, length, map}
use Rattle.std.proofs.Common.{refl, sym, ◌∙◌, subst}
use Rattle.std.specs.Prelude.{Contains, IsTrue, nat_le}
use Rattle.std.specs.List.{filter, list_any}
use Rattle.std.proofs.lemmas.Bool.{and_from, false_from_ne_true, le-leb}
use Rattle.std.proofs.lemmas.List.Elements.{Contains-append_left, Contains-append_right}
use Rattle.suit_lists.proofs.Elements.{Contains-first}
use Rattle.suit_lists.proofs.Filters.{Contains-filter}
use Rattle.suit_lists.proofs.Maps.{Contains-map}
use Rattle.suit_cards.specs.Cards.{Cards}
use Rattle.suit_cards.specs.Holdings.{IsHolding, holds}
use Rattle.suit_cards.proofs.HoldingIsWhatItHolds.{IsHolding-filter, IsHolding-others_of, holds-filter, same_holding}
use Rattle.suit_game.specs.declared.question.Question.{Question}
use Rattle.suit_game.specs.Layouts.{choices_of, is_west_length, layouts}
use Rattle.suit_game.specs.Question.{missing}
use Rattle.suit_game.proofs.LayoutCards.{holds-missing}
use Rattle.suit_game.proofs.LongestPlay.{none_shared}

chosen_or_not : (card : ℕ) (choices : List Cards) (taken : Cards) (b : Bool) → Contains choices taken
    → Contains (map (λ (others : Cards). card ∷ others) choices ++ choices) (cond b (card ∷ taken) taken)
chosen_or_not card choices taken true found =
    Contains-append_left (map (λ (others : Cards). card ∷ others) choices) choices (card ∷ taken)
    (Contains-map (λ (others : Cards). card ∷ others) choices taken found)
chosen_or_not card choices taken false found =
    Contains-append_right (map (λ (others : Cards). card ∷ others) choices) choices taken found

filter_chosen : (test : ℕ → Bool) (cards : Cards) → Contains (choices_of cards) (filter test cards)
unfolding choices_of
filter_chosen test [] = Contains-first [] []
filter_chosen test (card ∷ cards) =
    chosen_or_not card (choices_of cards) (filter test cards) (test card) (filter_chosen test cards)

away : (here there : Cards) (card : ℕ) → IsTrue (not (list_any (holds there) here)) → holds here card ≡ true
    → holds there card ≡ false
away here there card apart held = false_from_ne_true (holds there card) (none_shared here there apart card held)

missing_too : (question : Question) (west : Cards) (card : ℕ) (b : Bool) → 2 ≤ card → card < 15
    → IsTrue (not (list_any (holds question.north) west)) → IsTrue (not (list_any (holds question.south) west))
    → holds west card ≡ b → b ≡ (holds (missing question) card && b)
missing_too question west card true least below north south held =
    sym (and_from (holds (missing question) card) true
    (holds-missing question card least below (away west question.north card north held)
    (away west question.south card south held)) refl)
missing_too question west card false least below north south held =
    sym (false_and (holds (missing question) card))
  where
    false_and : (b : Bool) → (b && false) ≡ false
    false_and true = refl
    false_and false = refl

pub layout_listed : (question : Question) (west : Cards) → IsHolding west
    → IsTrue (not (list_any (holds question.north) west)) → IsTrue (not (list_any (holds question.south) west))
    → question.west_least ≤ length west → length west ≤ question.west_most → Contains (layouts question) west
unfolding layouts
layout_listed question west is north south least most =
    let same : west ≡ filter (holds west) (missing question) =
    same_holding west (filter (holds west) (missing question)) is
    (IsHolding-filter (holds west) (missing question) (IsHolding-others_of question.north question.south))
    (λ card low below. missing_too question west card (holds west card) low below north south refl
    ∙ sym (holds-filter (holds west) (missing question) card)) in
    Contains-filter (λ cards. is_west_length question (length cards)) (choices_of (missing question)) west
    (subst (λ (cards : Cards). Contains (choices_of (missing question)) cards) (sym same)
    (filter_chosen (holds west) (missing question)))
    (and_from (nat_le question.west_least (length west)) (nat_le (length west) question.west_most)
    (le-leb question.west_least (length west) least) (le-leb (length west) question.west_most most))
