-- A history that is legal under one layout is legal under another of the same length just where they are alike on the
-- cards gone (legal_where_alike).
use Rattle.std.proofs.Common.{◌≡◌, ℕ, Bool, true, false, not, nat_eq, List, [], ◌∷◌, length, refl, sym, ap, ◌∙◌, subst}
use Rattle.std.proofs.Common.{inl, inr, arith}
use Rattle.std.specs.Prelude.{Contains, ◌&&◌, ◌↔◌, fold}
use Rattle.std.proofs.lemmas.Bool.{eqb-true, false≢true, false_from_ne_true, or_cases, or_right}
use Rattle.std.proofs.lemmas.List.{nil_from_length}
use Rattle.suit_lists.proofs.Elements.{Contains-first, Contains-same}
use Rattle.suit_lists.proofs.Maps.{Contains-map}
use Rattle.suit_cards.specs.Cards.{Cards}
use Rattle.suit_cards.specs.declared.seats.Seat.{Seat}
use Rattle.suit_cards.specs.declared.seats.Seat.TheVariants.{N, E, S, W}
use Rattle.suit_cards.specs.Holdings.{IsHolding, holds}
use Rattle.suit_cards.proofs.WhetherARankIsHeld.{holds_tells}
use Rattle.suit_cards.proofs.HoldingIsWhatItHolds.{IsHolding-filter, IsHolding-others_of, same_holding}
use Rattle.suit_game.specs.declared.question.Question.{Question}
use Rattle.suit_game.specs.declared.moves.Move.{Move}
use Rattle.suit_game.specs.declared.moves.Move.TheVariants.{Lead, Follow, ShowOut}
use Rattle.suit_game.specs.Gains.{is_declarer}
use Rattle.suit_game.specs.Positions.{IsLegal, LegalFrom, Position, Trick, after, dealt, follows_of, hand, legal_in}
use Rattle.suit_game.specs.Positions.{start_place, step, step_in, without}
use Rattle.suit_game.specs.Histories.{History}
use Rattle.suit_game.specs.Question.{missing}
use Rattle.suit_game.proofs.WhatAHandHolds.{holds-first, holds-from_without, holds-without}
use Rattle.suit_game.proofs.LegalPlays.{follow_or_show}
use Rattle.suit_classes.proofs.OneSideHoldsAClass.{IsDealt, IsHolding-dealt}
use Rattle.suit_game.proofs.WhatAHandHolds.{holds-left, length-left_and_gone}
use Rattle.suit_lift.proofs.GoneAndLeft.{gone_of, holds-gone_of}
use Rattle.suit_lift.proofs.LegalMoves.{declarers_legal_in}
use Rattle.suit_lift.proofs.WhatAMoveTakes.{MoveKind, OwnCard, OwnOut, TheirCard, TheirOut, move_kind}

-- of the cards gone both hands have the same
abbrev pub IsAlike : Cards → Cards → Cards → Type 0
IsAlike gone west other = (card : ℕ) → holds gone card ≡ true → holds west card ≡ holds other card

-- so their parts that are gone are the same
pub alike_parts : (gone west other : Cards) → IsHolding west → IsHolding other → IsAlike gone west other
    → gone_of gone west ≡ gone_of gone other
alike_parts gone west other is too alike =
    same_holding (gone_of gone west) (gone_of gone other) (IsHolding-filter (holds gone) west is) (IsHolding-filter
    (holds gone) other too)
    (λ card least most. holds-gone_of gone west card ∙ same (holds gone card) card refl
    ∙ sym (holds-gone_of gone other card))
  where
    same : (b : Bool) (card : ℕ) → holds gone card ≡ b → (holds west card && holds gone card) ≡ (holds other card
        && holds gone card)
    same true card is_gone = ap (λ (h : Bool). h && holds gone card) (alike card is_gone)
    same false card stays = rw stays (none (holds west card) (holds other card))
      where
        none : (a b : Bool) → (a && false) ≡ (b && false)
        none true true = refl
        none true false = refl
        none false true = refl
        none false false = refl

-- and where these are the same, they have the same
pub parts_alike : (gone west other : Cards) → gone_of gone west ≡ gone_of gone other → IsAlike gone west other
parts_alike gone west other same card is_gone =
    sym (kept west) ∙ ap (λ (l : Cards). holds l card) same ∙ kept other
  where
    and_true : (b : Bool) → (b && true) ≡ b
    and_true true = refl
    and_true false = refl

    kept : (hand : Cards) → holds (gone_of gone hand) card ≡ holds hand card
    kept hand =
        holds-gone_of gone hand card ∙ ap (λ (b : Bool). holds hand card && b) is_gone ∙ and_true (holds hand card)

-- layouts whose cards have the same number
pub record AreTwo (question : Question) (west other : Cards) : Type 0 where
  pub here : IsDealt question west
  pub there : IsDealt question other
  pub long : length west ≡ length other

holds_if : (b : Bool) (card : ℕ) (hand : Cards) → holds hand card ≡ b → (b ≡ true → ⊥) → holds hand card ≡ false
holds_if true card hand is never = absurd (never refl)
holds_if false card hand is never = is

held_follow : (cards : Cards) (card : ℕ) → holds cards card ≡ true → Contains (follows_of cards) (Follow card)
held_follow [] card held = absurd (false≢true held)
held_follow (first ∷ cards) card held =
    Contains-map Follow (first ∷ cards) card ((holds_tells (first ∷ cards) card).0 held)

-- ---- two layouts under which a move is legal stay alike

module _ (question : Question) (west other : Cards) (two : AreTwo question west other) where
  away_from : (card : ℕ) → holds (missing question) card ≡ false → (hand : Cards) → IsDealt question hand
      → holds hand card ≡ false
  away_from card away hand is =
      false_from_ne_true (holds hand card) (λ held. false≢true (sym away ∙ is.deal.defenders card held))

  -- a card that a defender has under both
  both_have : (turn : Seat) (gone : Cards) (card : ℕ) → is_declarer turn ≡ false
      → holds (without (dealt question west turn) gone) card ≡ true
      → holds (without (dealt question other turn) gone) card ≡ true → holds west card ≡ holds other card
  both_have N gone card theirs held too = absurd (false≢true (sym theirs))
  both_have S gone card theirs held too = absurd (false≢true (sym theirs))
  both_have W gone card theirs held too =
      (holds-from_without west gone card held).0 ∙ sym (holds-from_without other gone card too).0
  both_have E gone card theirs held too =
      (holds-from_without (missing question) west card (holds-from_without (without
      (missing question) west) gone card held).0).1
      ∙ sym (holds-from_without (missing question) other card (holds-from_without (without
      (missing question) other) gone card too).0).1

  alike_more : (gone later : Cards) (card : ℕ) → later ≡ card ∷ gone → holds west card ≡ holds other card
      → IsAlike gone west other → IsAlike later west other
  alike_more gone later card is same alike rank held =
      elim (or_cases (nat_eq rank card) (holds gone rank) (sym (ap (λ (l : Cards). holds l rank) is) ∙ held)) [
        | inl here ↦ let at : rank ≡ card = eqb-true rank card here in ap (holds west) at ∙ same
            ∙ ap (holds other) (sym at)
        | inr before ↦ alike rank before
      ]

  alike_same : (gone later : Cards) → later ≡ gone → IsAlike gone west other → IsAlike later west other
  alike_same gone later is alike rank held = alike rank (sym (ap (λ (l : Cards). holds l rank) is) ∙ held)

  follow_held : (cards : Cards) (card : ℕ) → Contains (follows_of cards) (Follow card) → holds cards card ≡ true
  follow_held cards card found = elim (follow_or_show cards (Follow card) found) [
    | inl it ↦ (holds_tells cards card).1 (subst (Contains cards) (ap number it.2) it.1)
    | inr out ↦ absurd (false≢true (ap is_follow out.1))
  ]
    where
      number : Move → ℕ
      number (Follow rank) = rank
      number (Lead seat rank) = rank
      number ShowOut = 0

      is_follow : Move → Bool
      is_follow (Follow rank) = true
      is_follow (Lead seat rank) = false
      is_follow ShowOut = false

  alike_after : (place : Position) (trick : Trick) (move : Move) → IsAlike place.gone west other
      → Contains (legal_in question other place trick) move
      → MoveKind question west place trick move → IsAlike (step_in question place trick move).gone west other
  alike_after place trick move alike too (OwnCard card own later away) =
      alike_more place.gone (step_in question place trick move).gone card later
      (away_from card away west two.here ∙ sym (away_from card away other two.there)) alike
  alike_after place trick move alike too (OwnOut own later) =
      alike_same place.gone (step_in question place trick move).gone later alike
  alike_after place trick move alike too (TheirCard turn card waits theirs lists is held later) =
      alike_more place.gone (step_in question place trick move).gone card later
      (both_have turn place.gone card theirs held
      (follow_held (hand question other place turn) card
      (subst (λ (m : Move). Contains (follows_of (hand question other place turn)) m) is
      (Contains-same move (lists other) too)))) alike
  alike_after place trick move alike too (TheirOut turn waits theirs lists is none later) =
      alike_same place.gone (step_in question place trick move).gone later alike

  alike_along : (place : Position) (moves : List Move) → IsAlike place.gone west other
      → LegalFrom question west place moves → LegalFrom question other place moves
      → IsAlike (fold (step question) place moves).gone west other
  unfolding LegalFrom
  alike_along place [] alike legal too = alike
  alike_along place (move ∷ moves) alike legal too =
      alike_along (step question place move) moves
      (alike_after place place.trick move alike too.0
      (move_kind question west place place.trick move legal.0)) legal.1 too.1

  -- ---- and a move that is legal under one is legal under the other, if they are alike afterwards

  grows_kind : (place : Position) (trick : Trick) (move : Move) (card : ℕ)
      → MoveKind question west place trick move → holds place.gone card ≡ true
      → holds (step_in question place trick move).gone card ≡ true
  grows_kind place trick move card (OwnCard played own later away) held =
      ap (λ (l : Cards). holds l card) later ∙ or_right (nat_eq card played) (holds place.gone card) held
  grows_kind place trick move card (OwnOut own later) held = ap (λ (l : Cards). holds l card) later ∙ held
  grows_kind place trick move card (TheirCard turn played waits theirs lists is has later) held =
      ap (λ (l : Cards). holds l card) later ∙ or_right (nat_eq card played) (holds place.gone card) held
  grows_kind place trick move card (TheirOut turn waits theirs lists is none later) held =
      ap (λ (l : Cards). holds l card) later ∙ held

  -- no card comes back
  gone_grows : (place : Position) (moves : List Move) (card : ℕ) → LegalFrom question west place moves
      → holds place.gone card ≡ true
      → holds (fold (step question) place moves).gone card ≡ true
  unfolding LegalFrom
  gone_grows place [] card legal held = held
  gone_grows place (move ∷ moves) card legal held =
      gone_grows (step question place move) moves card legal.1
      (grows_kind place place.trick move card (move_kind question west place place.trick move legal.0) held)

  gone_whole : (cards : Cards) → IsDealt question cards → gone_of cards (missing question) ≡ cards
  gone_whole cards is =
      same_holding (gone_of cards (missing question)) cards
      (IsHolding-filter (holds cards) (missing question) (IsHolding-others_of question.north question.south)) is.holding
      (λ card least most. holds-gone_of cards (missing question) card
      ∙ within (holds (missing question) card) (holds cards card) (is.deal.defenders card))
    where
      within : (all some : Bool) → (some ≡ true → all ≡ true) → (all && some) ≡ some
      within true some held = refl
      within false true held = held refl
      within false false held = refl

  long_dealt : (turn : Seat) → is_declarer turn ≡ false → length (dealt question west turn)
      ≡ length (dealt question other turn)
  long_dealt N theirs = absurd (false≢true (sym theirs))
  long_dealt S theirs = absurd (false≢true (sym theirs))
  long_dealt W theirs = two.long
  long_dealt E theirs =
      omega (
        arith,
        length-left_and_gone (missing question) west,
        length-left_and_gone (missing question) other,
        two.long,
        ap length (gone_whole west two.here),
        ap length (gone_whole other two.there),
      )

  dealt_alike : (turn : Seat) (gone : Cards) → is_declarer turn ≡ false → IsAlike gone west other
      → IsAlike gone (dealt question west turn) (dealt question other turn)
  dealt_alike N gone theirs alike = absurd (false≢true (sym theirs))
  dealt_alike S gone theirs alike = absurd (false≢true (sym theirs))
  dealt_alike W gone theirs alike = alike
  dealt_alike E gone theirs alike = λ card held.
      holds-left (missing question) west card ∙ ap (λ (b : Bool). holds (missing question) card
      && not b) (alike card held)
      ∙ sym (holds-left (missing question) other card)

  legal_kind : (place : Position) (trick : Trick) (move : Move) → IsAlike place.gone west other
      → IsAlike (step_in question place trick move).gone west other
      → Contains (legal_in question west place trick) move → MoveKind question west place trick move
      → Contains (legal_in question other place trick) move
  legal_kind place trick move alike after found (OwnCard card own later away) =
      Contains-same move (declarers_legal_in question west other place trick own) found
  legal_kind place trick move alike after found (OwnOut own later) =
      Contains-same move (declarers_legal_in question west other place trick own) found
  legal_kind place trick move alike after found (TheirCard turn card waits theirs lists is held later) =
      let parts = holds-from_without (dealt question west turn) place.gone card held in
      let went : holds (step_in question place trick move).gone card
      ≡ true = ap (λ (l : Cards). holds l card) later ∙ holds-first card place.gone in
      let has : holds (dealt question other turn) card ≡ true =
      sym (dealt_alike turn (step_in question place trick move).gone theirs after card went) ∙ parts.0 in
      Contains-same move (sym (lists other))
      (subst (λ (m : Move). Contains (follows_of (hand question other place turn)) m) (sym is)
      (held_follow (hand question other place turn) card (holds-without
      (dealt question other turn) place.gone card has parts.1)))
  legal_kind place trick move alike after found (TheirOut turn waits theirs lists is none later) =
      let same = alike_parts place.gone (dealt question west turn) (dealt question other turn)
      (IsHolding-dealt question west turn two.here) (IsHolding-dealt question other turn two.there)
      (dealt_alike turn place.gone theirs alike) in
      let nothing : hand question other place turn ≡ [] =
      nil_from_length (hand question other place turn)
      (omega (
        arith,
        length-left_and_gone (dealt question west turn) place.gone,
        length-left_and_gone (dealt question other turn) place.gone,
        ap length same,
        ap length none,
        long_dealt turn theirs,
      )) in
      Contains-same move (sym (lists other))
      (subst (λ (m : Move). Contains (follows_of (hand question other place turn)) m) (sym is)
      (subst (λ (cards : Cards). Contains (follows_of cards) ShowOut) (sym nothing) (Contains-first ShowOut [])))

  legal_along : (place : Position) (moves : List Move) → LegalFrom question west place moves
      → IsAlike (fold (step question) place moves).gone west other
      → LegalFrom question other place moves
  unfolding LegalFrom
  legal_along place [] legal alike = tt
  legal_along place (move ∷ moves) legal alike =
      let kind = move_kind question west place place.trick move legal.0 in
      let after : IsAlike (step question place move).gone west other = λ card held. alike card (gone_grows
      (step question place move) moves card legal.1 held) in
      let before : IsAlike place.gone west other = λ card held. after card
      (grows_kind place place.trick move card kind held) in (
        legal_kind place place.trick move before after legal.0 kind,
        legal_along
            (step question place move) moves legal.1 alike,
      )

  -- a history that is legal under the one is so under the other just where they are alike on the cards gone
  pub legal_where_alike : (history : History) → IsLegal question west history
      → IsLegal question other history ↔ IsAlike (after question history).gone west other
  legal_where_alike history legal = (
    λ too. alike_along (start_place question) history (λ card held. absurd (false≢true held)) legal too,
    λ alike. legal_along (start_place question) history legal alike,
  )
