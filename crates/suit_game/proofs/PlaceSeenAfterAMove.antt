-- What a place is seen as after each kind of move.
use Rattle.std.proofs.Common.{◌≡◌, ℕ, ◌<◌, ◌≤◌, Bool, true, false, not, ◌||◌, nat_eq, List, [], ◌∷◌, ◌++◌}
use Rattle.std.proofs.Common.{length, refl, sym, ap, ◌∙◌, subst, inl, inr, arith}
use Rattle.std.specs.Prelude.{◌&&◌, Contains}
use Rattle.std.proofs.lemmas.Bool.{cases_eq, eq-eqb, ne_eqb}
use Rattle.suit_cards.specs.declared.seats.Seat.{Seat}
use Rattle.suit_cards.specs.Holdings.{IsHolding, holds, without_rank, others_of}
use Rattle.suit_cards.proofs.HoldingIsWhatItHolds.{same_holding, IsHolding-filter, IsHolding-others_of, holds-filter}
use Rattle.suit_cards.proofs.HoldingIsWhatItHolds.{holds-others_of}
use Rattle.suit_game.specs.declared.question.Question.{Question}
use Rattle.suit_game.specs.declared.moves.Move.{Move}
use Rattle.suit_game.specs.declared.moves.Move.TheVariants.{Lead, Follow, ShowOut}
use Rattle.suit_game.specs.Positions.{Position, Trick, Closed, Open, without, hand, is_empty, leads_at, follows_of}
use Rattle.suit_game.specs.Positions.{legal, legal_in, LegalFrom, after, step, step_in, led, followed, turn_passed}
use Rattle.suit_game.specs.Positions.{start_place}
use Rattle.suit_game.specs.PlaceViews.{PlaceView, seen, with_gone, IsPlay, IsToFollow}
use Rattle.suit_game.specs.Question.{missing}
use Rattle.suit_game.specs.Layouts.{layouts}
use Rattle.suit_game.specs.Validity.{IsValid}
use Rattle.suit_game.proofs.WhatAHandHolds.{without-none}
use Rattle.suit_game.proofs.LayoutCards.{layouts_are_deals}
use Rattle.suit_game.proofs.LegalPlays.{legal_moves_extend}
use Rattle.suit_game.proofs.EachPlaceIsReached.{thirteen_tricks}
use Rattle.std.proofs.lemmas.List.Elements.{filter_agree}
use Rattle.suit_lists.proofs.Filters.{filter-filter, length_filter-most}

neither_test : (same gone : Bool) → (not gone && not same) ≡ not (same || gone)
neither_test true true = refl
neither_test true false = refl
neither_test false true = refl
neither_test false false = refl

eqb_turned : (x y : ℕ) → nat_eq x y ≡ nat_eq y x
eqb_turned x y = elim (cases_eq x y) [
  | inl same ↦ rw (eq-eqb x y same, eq-eqb y x (sym same)) refl
  | inr differs ↦ rw (ne_eqb x y differs, ne_eqb y x (λ e. differs (sym e))) refl
]

-- a hand from which a card is taken is what is left once that card is gone too
pub without_rank-without : (cards gone : List ℕ) (card : ℕ)
    → without_rank (without cards gone) card ≡ without cards (card ∷ gone)
unfolding without
without_rank-without cards gone card =
    filter-filter (λ (x : ℕ). not (holds gone x)) (λ (x : ℕ). not (nat_eq card x)) cards
    ∙ filter_agree (λ x. not (holds gone x) && not (nat_eq card x)) (λ x. not (nat_eq x card || holds gone x))
    (λ x. rw (eqb_turned card x) (neither_test (nat_eq x card) (holds gone x))) cards

-- a hand has no more cards once a rank is taken from it
pub length-without_rank_most : (cards : List ℕ) (rank : ℕ) → length (without_rank cards rank) ≤ length cards
length-without_rank_most cards rank = length_filter-most (λ (held : ℕ). not (nat_eq rank held)) cards

-- what is seen once a rank is taken from each hand
abbrev pub taken_from : PlaceView → ℕ → PlaceView
taken_from view rank = record view {
  north = without_rank view.north rank;
  south = without_rank view.south rank;
  defenders = without_rank view.defenders rank;
}

pub taken_from-seen : (question : Question) (place : Position) (card : ℕ)
    → taken_from (seen question place) card ≡ seen question (with_gone place card)
taken_from-seen question place card = λ i. record {
  north = without_rank-without question.north place.gone card i;
  south = without_rank-without question.south place.gone card i;
  defenders = without_rank-without (missing question) place.gone card i;
  trick = place.trick;
  lead = place.lead;
  regain = question.regain;
  entries_n = place.entries_n;
  entries_s = place.entries_s;
  won = place.won;
}

-- no card is gone at the start
pub seen-start : (question : Question) → record {
  north = question.north;
  south = question.south;
  defenders = missing question;
  trick = Closed;
  lead = question.start;
  regain = question.regain;
  entries_n = question.entries_n;
  entries_s = question.entries_s;
  won = 0;
} ≡ seen question (start_place question)
seen-start question = λ i. record {
  north = sym (without-none question.north) i;
  south = sym (without-none question.south) i;
  defenders = sym (without-none (missing question)) i;
  trick = Closed;
  lead = question.start;
  regain = question.regain;
  entries_n = question.entries_n;
  entries_s = question.entries_s;
  won = 0;
}

follows_in : (question : Question) (west : List ℕ) (place : Position) (trick : Trick) (seat : Seat)
    → IsToFollow trick seat
    → follows_of (hand question west place seat) ≡ legal_in question west place trick
unfolding legal_in
follows_in question west place Closed seat none = absurd none
follows_in question west place (Open turn after winner highest) seat same =
    ap (λ (s : Seat). follows_of (hand question west place s)) (sym same)

-- the follows of the seat on turn are the legal moves
pub follows_are_legal : (question : Question) (west : List ℕ) (history : List Move) (seat : Seat)
    → IsToFollow (after question history).trick seat
    → follows_of (hand question west (after question history) seat) ≡ legal question west history
follows_are_legal question west history seat on_turn =
    follows_in question west (after question history) (after question history).trick seat on_turn

leads_in : (question : Question) (west : List ℕ) (place : Position)
    → leads_at question place ≡ legal_in question west place Closed
unfolding legal_in
leads_in question west place = refl

-- where no trick is in progress, the leads are the legal moves
pub leads_are_legal : (question : Question) (west : List ℕ) (history : List Move)
    → (after question history).trick ≡ Closed
    → leads_at question (after question history) ≡ legal question west history
leads_are_legal question west history closed =
    subst (λ (t : Trick). leads_at question (after question history)
    ≡ legal_in question west (after question history) t) (sym closed)
    (leads_in question west (after question history))

none_empty : (first : ℕ) (cards : List ℕ) → first ∷ cards ≡ [] → ⊥
none_empty first cards same = absurd (cc)

-- whether there is nothing in a list is told by a test
pub is_empty_told : (told : Bool) (cards : List ℕ) → (told ≡ true → cards ≡ []) → (cards ≡ [] → told ≡ true)
    → not told ≡ not (is_empty cards)
is_empty_told true [] then_none when_none = refl
is_empty_told true (first ∷ cards) then_none when_none = absurd (none_empty first cards (then_none refl))
is_empty_told false [] then_none when_none = absurd (let wrong : false ≡ true = when_none refl in cc)
is_empty_told false (first ∷ cards) then_none when_none = refl

led_in : (question : Question) (place : Position) (trick : Trick) (seat : Seat) (card : ℕ) → trick ≡ Closed
    → step_in question place trick (Lead seat card) ≡ led place seat card
unfolding step_in
led_in question place trick seat card closed = rw closed refl

-- a lead where no trick is in progress
pub step-led : (question : Question) (place : Position) (seat : Seat) (card : ℕ) → place.trick ≡ Closed
    → led place seat card ≡ step question place (Lead seat card)
step-led question place seat card closed = sym (led_in question place place.trick seat card closed)

followed_in : (question : Question) (place : Position) (trick : Trick) (turn : Seat) (after : ℕ) (winner : Seat)
    (highest card : ℕ) → trick ≡ Open turn after winner highest
    → step_in question place trick (Follow card) ≡ followed question place turn after winner highest card
unfolding step_in
followed_in question place trick turn after winner highest card is_open = rw is_open refl

-- a follow with a card
pub step-followed : (question : Question) (place : Position) (turn : Seat) (after : ℕ) (winner : Seat)
    (highest card : ℕ) → place.trick ≡ Open turn after winner highest
    → followed question place turn after winner highest card ≡ step question place (Follow card)
step-followed question place turn after winner highest card is_open =
    sym (followed_in question place place.trick turn after winner highest card is_open)

shown_out_in : (question : Question) (place : Position) (trick : Trick) (turn : Seat) (after : ℕ) (winner : Seat)
    (highest : ℕ) → trick ≡ Open turn after winner highest
    → step_in question place trick ShowOut ≡ turn_passed question place turn after winner highest
unfolding step_in
shown_out_in question place trick turn after winner highest is_open = rw is_open refl

-- a showing out
pub step-shown_out : (question : Question) (place : Position) (turn : Seat) (after : ℕ) (winner : Seat) (highest : ℕ)
    → place.trick ≡ Open turn after winner highest
    → turn_passed question place turn after winner highest ≡ step question place ShowOut
step-shown_out question place turn after winner highest is_open =
    sym (shown_out_in question place place.trick turn after winner highest is_open)

-- a move of the wrong kind for the trick
abbrev pub IsOutOfTurn : Trick → Move → Type 0
IsOutOfTurn Closed (Lead seat card) = ⊥
IsOutOfTurn Closed (Follow card) = Unit {0}
IsOutOfTurn Closed ShowOut = Unit {0}
IsOutOfTurn (Open turn after winner highest) (Lead seat card) = Unit {0}
IsOutOfTurn (Open turn after winner highest) (Follow card) = ⊥
IsOutOfTurn (Open turn after winner highest) ShowOut = ⊥

stays_in : (question : Question) (place : Position) (trick : Trick) (move : Move) → IsOutOfTurn trick move
    → step_in question place trick move ≡ place
unfolding step_in
stays_in question place Closed (Lead seat card) out = absurd out
stays_in question place Closed (Follow card) out = refl
stays_in question place Closed ShowOut out = refl
stays_in question place (Open turn after winner highest) (Lead seat card) out = refl
stays_in question place (Open turn after winner highest) (Follow card) out = absurd out
stays_in question place (Open turn after winner highest) ShowOut out = absurd out

-- it changes nothing
pub step-stays : (question : Question) (place : Position) (trick : Trick) (move : Move) → place.trick ≡ trick
    → IsOutOfTurn trick move → place ≡ step question place move
step-stays question place trick move is out =
    sym (stays_in question place place.trick move (subst (λ (t : Trick). IsOutOfTurn t move) (sym is) out))

west_test : (west missing gone : Bool) → (west ≡ true → missing ≡ true)
    → not (not (west || false) || not ((missing && not gone) || false)) ≡ (west && not gone)
west_test true true true within = refl
west_test true true false within = refl
west_test true false gone within = absurd (let wrong : false ≡ true = within refl in cc)
west_test false true true within = refl
west_test false true false within = refl
west_test false false true within = refl
west_test false false false within = refl

east_test : (west missing gone : Bool)
    → not (not ((missing && not gone) || false) || west) ≡ ((missing && not west) && not gone)
east_test true true true = refl
east_test true true false = refl
east_test true false true = refl
east_test true false false = refl
east_test false true true = refl
east_test false true false = refl
east_test false false true = refl
east_test false false false = refl

-- a defender's card is left where it is not gone
holds-without_is : (cards gone : List ℕ) (card : ℕ)
    → holds (without cards gone) card ≡ (holds cards card && not (holds gone card))
unfolding without
holds-without_is cards gone card = holds-filter (λ (x : ℕ). not (holds gone x)) cards card

IsHolding-left : (cards gone : List ℕ) → IsHolding cards → IsHolding (without cards gone)
unfolding without
IsHolding-left cards gone is = IsHolding-filter (λ (x : ℕ). not (holds gone x)) cards is

-- the defenders' cards left that were dealt to West are what West holds
pub west_left : (missing west gone : List ℕ) → IsHolding west
    → ((card : ℕ) → holds west card ≡ true → holds missing card ≡ true)
    → others_of (others_of west []) (others_of (without missing gone) []) ≡ without west gone
west_left missing west gone is within =
    same_holding (others_of (others_of west []) (others_of (without missing gone) [])) (without west gone)
    (IsHolding-others_of (others_of west []) (others_of (without missing gone) [])) (IsHolding-left west gone is)
    (λ rank low high.
    holds-others_of (others_of west []) (others_of (without missing gone) []) rank (low, omega arith)
    ∙ rw (
      holds-others_of west [] rank (low, omega arith),
      holds-others_of (without missing gone) [] rank (low, omega arith),
      holds-without_is missing gone rank,
      holds-without_is west gone rank,
    )
    (west_test (holds west rank) (holds missing rank) (holds gone rank) (within rank)))

-- and the others are what East holds
pub east_left : (missing west gone : List ℕ) → IsHolding missing
    → others_of (others_of (without missing gone) []) west ≡ without (without missing west) gone
east_left missing west gone is =
    same_holding (others_of (others_of (without missing gone) []) west) (without (without missing west) gone)
    (IsHolding-others_of (others_of (without missing gone) []) west)
    (IsHolding-left (without missing west) gone (IsHolding-left missing west is))
    (λ rank low high.
    holds-others_of (others_of (without missing gone) []) west rank (low, omega arith)
    ∙ rw (
      holds-others_of (without missing gone) [] rank (low, omega arith),
      holds-without_is missing gone rank,
      holds-without_is (without missing west) gone rank,
      holds-without_is missing west rank,
    )
    (east_test (holds west rank) (holds missing rank) (holds gone rank)))

-- declarer wins few tricks
pub won_small : (question : Question) (west : List ℕ) (history : List Move) → IsPlay question west history
    → (after question history).won < 255
won_small question west history play =
    let deal = layouts_are_deals question west play.valid.north play.valid.south play.valid.apart play.layout in
    omega (arith, thirteen_tricks question west history deal.0 play.legal)

-- no move is a play
pub play_none : (question : Question) (west : List ℕ) → IsValid question → Contains (layouts question) west
    → IsPlay question west []
unfolding LegalFrom
play_none question west valid layout = record { valid = valid; layout = layout; legal = tt }

-- a play with a legal move more is one
pub play_more : (question : Question) (west : List ℕ) (history : List Move) (move : Move) → IsPlay question west history
    → Contains (legal question west history) move → IsPlay question west (history ++ move ∷ [])
play_more question west history move play found = record {
  valid = play.valid;
  layout = play.layout;
  legal = legal_moves_extend question west history move play.legal found;
}
