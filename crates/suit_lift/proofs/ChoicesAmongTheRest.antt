-- Choices that take the same of the cards gone are the choices among the others (free_choices).
use Rattle.std.proofs.Common.{◌≡◌, ℕ, ◌+◌, Bool, true, false, cond, [], ◌∷◌, map, refl, sym, ap, ◌∙◌, subst, inl, inr}
use Rattle.std.proofs.Common.{arith}
use Rattle.std.specs.Prelude.{Contains, bytes_eq, ◌&&◌, if◌then◌else◌}
use Rattle.std.specs.List.{sum_by}
use Rattle.std.proofs.lemmas.Bool.{cases_Bool, eq-eqb, false≢true, false_from_ne_true}
use Rattle.std.proofs.lemmas.List.Elements.{Contains-append_cases}
use Rattle.std.proofs.lemmas.List.Sums.{sum_by-append}
use Rattle.std.proofs.lemmas.Slice.Eq.{bytes_eq-Decides}
use Rattle.suit_lists.proofs.Elements.{Contains-cons_cases, Contains-nil, each_at, each_gives}
use Rattle.suit_lists.proofs.Maps.{Contains-map_from}
use Rattle.suit_lists.proofs.Sums.{sum_by_alike, sum_by_map, sum_by_none}
use Rattle.suit_cards.specs.Cards.{Cards}
use Rattle.suit_cards.specs.Holdings.{FallsBelow, holds}
use Rattle.suit_cards.proofs.HoldingIsWhatItHolds.{holds-above, holds-filter}
use Rattle.suit_game.specs.Layouts.{choices_of}
use Rattle.suit_game.specs.Positions.{without}
use Rattle.suit_game.proofs.WhatAHandHolds.{holds-first}
use Rattle.suit_game.proofs.LayoutCards.{IsPart, choices_of-parts}
use Rattle.suit_lift.proofs.GoneAndLeft.{gone_of}

-- the worth of what a choice has left, where it took these of the cards gone
abbrev pub worth_at : (Cards → ℕ) → Cards → Cards → Cards → ℕ
worth_at worth gone took taken = if bytes_eq (gone_of gone taken) took then worth (without taken gone) else 0

starts_higher : (gone : Cards) (card : ℕ) (taken more : Cards) → FallsBelow card taken
    → bytes_eq (gone_of gone taken) (card ∷ more) ≡ false
starts_higher gone card taken more falls =
    false_from_ne_true (bytes_eq (gone_of gone taken) (card ∷ more))
    (λ same.
    let is : gone_of gone taken ≡ card ∷ more = (bytes_eq-Decides (gone_of gone taken) (card ∷ more)).0 same in
    let above : holds taken card ≡ false = holds-above card taken card falls (omega arith) in
    let none : holds (gone_of gone taken) card ≡ false = holds-filter (holds gone) taken card
    ∙ ap (λ (b : Bool). b && holds gone card) above in
    false≢true (sym none ∙ ap (λ (l : Cards). holds l card) is ∙ holds-first card more))

swapped : (xs ys : Cards) → bytes_eq xs ys ≡ bytes_eq ys xs
swapped xs ys = elim (cases_Bool (bytes_eq xs ys)) [
  | inl same ↦ same ∙ sym ((bytes_eq-Decides ys xs).1 (sym ((bytes_eq-Decides xs ys).0 same)))
  | inr other ↦
      other ∙ sym (false_from_ne_true (bytes_eq ys xs) (λ same. false≢true (sym other
      ∙ (bytes_eq-Decides xs ys).1 (sym ((bytes_eq-Decides ys xs).0 same)))))
]

-- a choice that takes the first card, or not
pub choices_parted : (f : Cards → ℕ) (card : ℕ) (cards : Cards)
    → sum_by f (choices_of (card ∷ cards)) ≡ sum_by (λ taken. f (card ∷ taken)) (choices_of cards) + sum_by f
    (choices_of cards)
unfolding choices_of
choices_parted f card cards =
    sum_by-append f (map (λ taken. card ∷ taken) (choices_of cards)) (choices_of cards)
    ∙ ap (λ (n : ℕ). n + sum_by f (choices_of cards)) (sum_by_map f (λ taken. card ∷ taken) (choices_of cards))

none_chosen : (f : Cards → ℕ) (card : ℕ) (cards : Cards) → FallsBelow card cards → ((taken : Cards)
    → FallsBelow card taken → f taken ≡ 0) → sum_by f (choices_of cards) ≡ 0
none_chosen f card cards falls none =
    sum_by_alike f (λ taken. 0) (choices_of cards)
    (each_gives (IsPart card cards) (λ taken. f taken
    ≡ 0) (choices_of cards) (λ taken part. none taken part.falls) (choices_of-parts card cards falls))
    ∙ sum_by_none (λ taken. 0) (choices_of cards) (λ taken. refl)

gone_first : (gone : Cards) (card : ℕ) (taken : Cards) → holds gone card ≡ true → gone_of gone (card ∷ taken)
    ≡ card ∷ gone_of gone taken
gone_first gone card taken is = rw is refl

left_first : (gone : Cards) (card : ℕ) (taken : Cards) → holds gone card ≡ true → without (card ∷ taken) gone
    ≡ without taken gone
unfolding without
left_first gone card taken is = rw is refl

gone_other : (gone : Cards) (card : ℕ) (taken : Cards) → holds gone card ≡ false → gone_of gone (card ∷ taken)
    ≡ gone_of gone taken
gone_other gone card taken is = rw is refl

left_other : (gone : Cards) (card : ℕ) (taken : Cards) → holds gone card ≡ false → without (card ∷ taken) gone
    ≡ card ∷ without taken gone
unfolding without
left_other gone card taken is = rw is refl

data Taken (card : ℕ) (cards west : Cards) : Type 0 where
  With : (rest : Cards) → Contains (choices_of cards) rest → west ≡ card ∷ rest → Taken card cards west
  Without : Contains (choices_of cards) west → Taken card cards west

taken_cases : (card : ℕ) (cards west : Cards) → Contains (choices_of (card ∷ cards)) west → Taken card cards west
unfolding choices_of
taken_cases card cards west found =
    elim (Contains-append_cases (map (λ taken. card ∷ taken) (choices_of cards)) (choices_of cards) west found) [
      | inl first ↦ let from = Contains-map_from (λ taken. card ∷ taken)
          (choices_of cards) west first in With from.0 from.1 (sym from.2)
      | inr later ↦ Without later
    ]

same_worth : (worth : Cards → ℕ) (gone took taken other : Cards) (b c : Bool) (left here : Cards) → b ≡ c → left ≡ here
    → (if b then worth left else 0) ≡ (if c then worth here else 0)
same_worth worth gone took taken other b c left here same is =
    ap (λ (t : Bool). cond {A = ℕ} t (worth left) 0) same ∙ ap (λ (l : Cards). cond {A = ℕ} c (worth l) 0) is

module _ (worth : Cards → ℕ) (gone : Cards) (card : ℕ) (cards : Cards) (falls : FallsBelow card cards) where
  -- the first card is gone, and West had it
  free_with : holds gone card ≡ true → (rest : Cards)
      → sum_by (worth_at worth gone (gone_of gone rest)) (choices_of cards)
      ≡ sum_by worth (choices_of (without cards gone))
      → sum_by (worth_at worth gone (gone_of gone (card ∷ rest))) (choices_of (card ∷ cards))
      ≡ sum_by worth (choices_of (without (card ∷ cards) gone))
  free_with is rest free =
      let took : Cards = gone_of gone (card ∷ rest) in
      let asked : took ≡ card ∷ gone_of gone rest = gone_first gone card rest is in
      let first : sum_by (λ taken. worth_at worth gone took (card ∷ taken)) (choices_of cards)
      ≡ sum_by (worth_at worth gone (gone_of gone rest)) (choices_of cards) =
      sum_by_alike (λ taken. worth_at worth gone took (card ∷ taken)) (worth_at worth gone (gone_of gone rest))
      (choices_of cards)
      (each_gives (IsPart card cards) (λ taken. worth_at worth gone took (card ∷ taken)
      ≡ worth_at worth gone (gone_of gone rest) taken) (choices_of cards)
      (λ taken part. same_worth worth gone took taken taken (bytes_eq (gone_of gone (card ∷ taken)) took) (bytes_eq
      (gone_of gone taken) (gone_of gone rest)) (without (card ∷ taken) gone) (without taken gone)
      (ap (λ (l : Cards). bytes_eq l took) (gone_first gone card taken is)
      ∙ ap (bytes_eq (card ∷ gone_of gone taken)) asked
      ∙ ap (λ (b : Bool). b && bytes_eq (gone_of gone taken) (gone_of gone rest)) (eq-eqb card card refl))
      (left_first gone card taken is)) (choices_of-parts card cards falls)) in
      let none : sum_by (worth_at worth gone took) (choices_of cards) ≡ 0 =
      none_chosen (worth_at worth gone took) card cards falls
      (λ taken low. ap (λ (b : Bool). cond {A = ℕ} b (worth (without taken gone)) 0) (ap (bytes_eq
      (gone_of gone taken)) asked ∙ starts_higher gone card taken (gone_of gone rest) low)) in
      choices_parted (worth_at worth gone took) card cards ∙ omega (arith, first, none, free)
      ∙ ap (λ (l : Cards). sum_by worth (choices_of l)) (sym (left_first gone card cards is))

  -- it is gone, and West did not have it
  free_without : holds gone card ≡ true → (west : Cards) → FallsBelow card west
      → sum_by (worth_at worth gone (gone_of gone west)) (choices_of cards)
      ≡ sum_by worth (choices_of (without cards gone))
      → sum_by (worth_at worth gone (gone_of gone west)) (choices_of (card ∷ cards))
      ≡ sum_by worth (choices_of (without (card ∷ cards) gone))
  free_without is west low free =
      let took : Cards = gone_of gone west in
      let first : sum_by (λ taken. worth_at worth gone took (card ∷ taken)) (choices_of cards) ≡ 0 =
      none_chosen (λ taken. worth_at worth gone took (card ∷ taken)) card cards falls
      (λ taken under. ap (λ (b : Bool). cond {A = ℕ} b (worth (without (card ∷ taken) gone)) 0)
      (ap (λ (l : Cards). bytes_eq l took) (gone_first gone card taken is)
      ∙ swapped (card ∷ gone_of gone taken) took ∙ starts_higher gone card west (gone_of gone taken) low)) in
      choices_parted (worth_at worth gone took) card cards ∙ omega (arith, first, free)
      ∙ ap (λ (l : Cards). sum_by worth (choices_of l)) (sym (left_first gone card cards is))

  -- it is not gone
  free_left : holds gone card ≡ false → (took : Cards)
      → sum_by (worth_at worth gone took) (choices_of cards) ≡ sum_by worth (choices_of (without cards gone))
      → sum_by (worth_at (λ taken. worth (card ∷ taken)) gone took) (choices_of cards)
      ≡ sum_by (λ taken. worth (card ∷ taken)) (choices_of (without cards gone))
      → sum_by (worth_at worth gone took) (choices_of (card ∷ cards))
      ≡ sum_by worth (choices_of (without (card ∷ cards) gone))
  free_left is took free with_card =
      let first : sum_by (λ taken. worth_at worth gone took (card ∷ taken)) (choices_of cards)
      ≡ sum_by (worth_at (λ taken. worth (card ∷ taken)) gone took) (choices_of cards) =
      sum_by_alike (λ taken. worth_at worth gone took (card ∷ taken)) (worth_at (λ taken. worth
      (card ∷ taken)) gone took) (choices_of cards)
      (each_gives (IsPart card cards) (λ taken. worth_at worth gone took (card ∷ taken)
      ≡ worth_at (λ other. worth (card ∷ other)) gone took taken) (choices_of cards)
      (λ taken part. same_worth worth gone took taken taken (bytes_eq (gone_of gone (card ∷ taken)) took) (bytes_eq
      (gone_of gone taken) took) (without (card ∷ taken) gone) (card ∷ without taken gone)
      (ap (λ (l : Cards). bytes_eq l took) (gone_other gone card taken is)) (left_other gone card taken is))
      (choices_of-parts card cards falls)) in
      choices_parted (worth_at worth gone took) card cards ∙ omega (arith, first, free, with_card)
      ∙ sym (choices_parted worth card (without cards gone))
      ∙ ap (λ (l : Cards). sum_by worth (choices_of l)) (sym (left_other gone card cards is))

  free_step : (west : Cards) (b : Bool) → holds gone card ≡ b → Taken card cards west
      → ((value : Cards → ℕ) (other : Cards) → Contains (choices_of cards) other
      → sum_by (worth_at value gone (gone_of gone other)) (choices_of cards)
      ≡ sum_by value (choices_of (without cards gone)))
      → sum_by (worth_at worth gone (gone_of gone west)) (choices_of (card ∷ cards))
      ≡ sum_by worth (choices_of (without (card ∷ cards) gone))
  free_step west true is (With rest found same) free =
      subst (λ (l : Cards). sum_by (worth_at worth gone (gone_of gone l)) (choices_of (card ∷ cards))
      ≡ sum_by worth (choices_of (without (card ∷ cards) gone))) (sym same)
      (free_with is rest (free worth rest found))
  free_step west true is (Without found) free =
      free_without is west (each_at (IsPart card cards) (choices_of cards) west
      (choices_of-parts card cards falls) found).falls (free worth west found)
  free_step west false is (With rest found same) free =
      subst (λ (took : Cards). sum_by (worth_at worth gone took) (choices_of (card ∷ cards))
      ≡ sum_by worth (choices_of (without (card ∷ cards) gone)))
      (sym (ap (gone_of gone) same ∙ gone_other gone card rest is))
      (free_left is (gone_of gone rest) (free worth rest found) (free (λ taken. worth (card ∷ taken)) rest found))
  free_step west false is (Without found) free =
      free_left is (gone_of gone west) (free worth west found) (free (λ taken. worth (card ∷ taken)) west found)

free_none : (worth : Cards → ℕ) (gone : Cards) → sum_by (worth_at worth gone (gone_of gone [])) (choices_of [])
    ≡ sum_by worth (choices_of (without [] gone))
unfolding choices_of without
free_none worth gone = refl

only_none : (west : Cards) → Contains (choices_of []) west → [] ≡ west
unfolding choices_of
only_none west found =
    elim (Contains-cons_cases [] [] west found) [ inl here ↦ here | inr there ↦ absurd (Contains-nil west there) ]

pub free_choices : (worth : Cards → ℕ) (gone : Cards) (top : ℕ) (cards west : Cards) → FallsBelow top cards
    → Contains (choices_of cards) west
    → sum_by (worth_at worth gone (gone_of gone west)) (choices_of cards)
    ≡ sum_by worth (choices_of (without cards gone))
free_choices worth gone top [] west falls found =
    subst (λ (l : Cards). sum_by (worth_at worth gone (gone_of gone l)) (choices_of [])
    ≡ sum_by worth (choices_of (without [] gone))) (only_none west found) (free_none worth gone)
free_choices worth gone top (card ∷ cards) west falls found =
    free_step worth gone card cards falls.2 west (holds gone card) refl (taken_cases card cards west found)
    (λ value other there. free_choices value gone card cards other falls.2 there)
