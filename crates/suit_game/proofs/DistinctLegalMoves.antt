-- No legal move comes twice (`legal_once`).
use Rattle.std.proofs.Common.{◌≡◌, ℕ, ◌≤◌, Bool, true, false, not, [], ◌∷◌, map, arith}
use Rattle.std.specs.Prelude.{if◌then◌else◌}
use Rattle.std.specs.List.{AllByRecursion}
use Rattle.suit_cards.specs.Cards.{Cards}
use Rattle.suit_cards.specs.declared.seats.Seat.{Seat}
use Rattle.suit_cards.specs.declared.seats.Seat.TheVariants.{N, S}
use Rattle.suit_cards.specs.Holdings.{FallsBelow, IsHolding, holds}
use Rattle.suit_cards.proofs.HoldingIsWhatItHolds.{IsHolding-filter}
use Rattle.suit_game.specs.declared.question.Question.{Question}
use Rattle.suit_game.specs.declared.moves.Move.{Move}
use Rattle.suit_game.specs.declared.moves.Move.TheVariants.{Lead, Follow}
use Rattle.suit_game.specs.Histories.{History}
use Rattle.suit_game.specs.PlaceViews.{IsPlay}
use Rattle.suit_game.specs.Positions.{Position, Trick, Closed, Open, dealt, follows_of, legal, legal_in, legal_at}
use Rattle.suit_game.specs.Positions.{may_lead_n, may_lead_s, without, after}
use Rattle.suit_game.proofs.LayoutCards.{dealt-falls, layouts_are_deals}
use Rattle.suit_lists.proofs.Elements.{each_of}
use Rattle.suit_lists.proofs.Maps.{each_map}
use Rattle.suit_lists.proofs.Once.{IsOnce, once_append, once_if, once_map}

apart_above : (high top : ℕ) (cards : Cards) → top ≤ high → FallsBelow top cards
    → AllByRecursion (λ card. high ≡ card → ⊥) cards
apart_above high top [] above falls = tt
apart_above high top (card ∷ cards) above falls =
    (λ same. absurd (omega (arith, falls.1)), apart_above high card cards (omega (arith, falls.1)) falls.2)

-- no card of a falling list comes twice
pub once_falls : (top : ℕ) (cards : Cards) → FallsBelow top cards → IsOnce cards
unfolding IsOnce
once_falls top [] falls = tt
once_falls top (card ∷ cards) falls = (apart_above card card cards (omega arith) falls.2, once_falls card cards falls.2)

-- nor of what is left of a holding
once_left : (cards gone : Cards) → IsHolding cards → IsOnce (without cards gone)
unfolding without
once_left cards gone falls = once_falls 15 _ (IsHolding-filter (λ card. not (holds gone card)) cards falls)

same_lead : (seat : Seat) (card other : ℕ) → Lead seat card ≡ Lead seat other → card ≡ other
same_lead seat card other same = cc

same_follow : (card other : ℕ) → Follow card ≡ Follow other → card ≡ other
same_follow card other same = cc

-- a lead of North's is none of South's
leads_apart : (b c : Bool) (north south : Cards)
    → AllByRecursion (λ lead. AllByRecursion (λ other. lead ≡ other → ⊥) (if c then map (Lead S) south else []))
    (if b then map (Lead N) north else [])
leads_apart false c north south = tt
leads_apart true false north south =
    each_of (λ lead. AllByRecursion (λ (other : Move). lead ≡ other → ⊥) []) (map (Lead N) north) (λ lead. tt)
leads_apart true true north south =
    each_map (λ lead. AllByRecursion (λ other. lead ≡ other → ⊥) (map (Lead S) south)) (Lead N) north
    (each_of (λ card. AllByRecursion (λ other. Lead N card ≡ other → ⊥) (map (Lead S) south)) north
    (λ card. each_map (λ other. Lead N card ≡ other → ⊥) (Lead S) south
    (each_of (λ other. Lead N card ≡ Lead S other → ⊥) south (λ other same. absurd (cc)))))

once_follows : (cards : Cards) → IsOnce cards → IsOnce (follows_of cards)
unfolding IsOnce
once_follows [] once = (tt, tt)
once_follows (card ∷ cards) once = once_map Follow (card ∷ cards) same_follow once

module _ (question : Question) (west : Cards) where
  legal_once_in : (place : Position) (trick : Trick) → IsHolding question.north → IsHolding question.south
      → IsHolding west
      → IsOnce (legal_in question west place trick)
  unfolding legal_in
  legal_once_in place Closed north south falls =
      once_append _ _
      (once_if (may_lead_n place) _ (once_map (Lead N) _ (same_lead N) (once_left question.north place.gone north)))
      (once_if (may_lead_s place) _ (once_map (Lead S) _ (same_lead S) (once_left question.south place.gone south)))
      (leads_apart (may_lead_n place) (may_lead_s place) _ _)
  legal_once_in place (Open turn after winner highest) north south falls =
      once_follows _ (once_left (dealt question west turn) place.gone
      (dealt-falls question west north south falls turn))

  -- no legal move comes twice, at any position
  pub legal_once_at : (place : Position) → IsHolding question.north → IsHolding question.south → IsHolding west
      → IsOnce (legal_at question west place)
  legal_once_at place north south falls = legal_once_in place place.trick north south falls

  -- nor after any play
  pub legal_once : (history : History) → IsPlay question west history → IsOnce (legal question west history)
  legal_once history play =
      let valid = play.valid in
      legal_once_at (after question history) valid.north valid.south
      (layouts_are_deals question west valid.north valid.south valid.apart play.layout).1
