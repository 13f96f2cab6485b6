-- Sums over the choices of two lists of cards together.
use Rattle.std.proofs.Common.{◌≡◌, ℕ, true, List, [], ◌∷◌, ◌++◌, map, refl, arith}
use Rattle.std.specs.List.{AllByRecursion, sum_by}
use Rattle.std.proofs.lemmas.Bool.{or_left, or_right}
use Rattle.std.proofs.lemmas.List.Sums.{sum_by-append}
use Rattle.std.proofs.Common.{nat_eq}
use Rattle.std.proofs.lemmas.Bool.{eq-eqb}
use Rattle.suit_lists.proofs.Elements.{each_append, each_gives}
use Rattle.suit_lists.proofs.Maps.{each_map}
use Rattle.suit_lists.proofs.Sums.{sum_by_map}
use Rattle.suit_cards.specs.Holdings.{holds}
use Rattle.suit_game.specs.Layouts.{choices_of}

-- to choose among two lists is to choose among the first and then among the second
pub choices_joined : (f : List ℕ → ℕ) (xs ys : List ℕ)
    → sum_by f (choices_of (xs ++ ys))
    ≡ sum_by (λ taken. sum_by (λ more. f (taken ++ more)) (choices_of ys)) (choices_of xs)
unfolding choices_of
choices_joined f [] ys = omega arith
choices_joined f (x ∷ xs) ys =
    let with_first : List ℕ → List ℕ = λ taken. x ∷ taken in
    let joined : List ℕ → ℕ = λ taken. sum_by (λ more. f (taken ++ more)) (choices_of ys) in
    omega (
      arith,
      sum_by-append f (map with_first (choices_of (xs ++ ys))) (choices_of (xs ++ ys)),
      sum_by_map f with_first (choices_of (xs ++ ys)),
      choices_joined (λ taken. f (x ∷ taken)) xs ys,
      choices_joined f xs ys,
      sum_by-append joined (map with_first (choices_of xs)) (choices_of xs),
      sum_by_map joined with_first (choices_of xs),
    )

-- each of some cards is held in a list
abbrev pub AreHeld : List ℕ → List ℕ → Type 0
AreHeld cards taken = AllByRecursion (λ card. holds cards card ≡ true) taken

-- one card more holds no fewer
held_more : (first : ℕ) (cards taken : List ℕ) → AreHeld cards taken → AreHeld (first ∷ cards) taken
held_more first cards taken held =
    each_gives (λ card. holds cards card ≡ true) (λ card. holds (first ∷ cards) card ≡ true) taken
    (λ card is. or_right (nat_eq card first) (holds cards card) is) held

-- what is chosen is held
pub choices_held : (cards : List ℕ) → AllByRecursion (AreHeld cards) (choices_of cards)
unfolding choices_of
choices_held [] = (tt, tt)
choices_held (first ∷ cards) =
    each_append (AreHeld (first ∷ cards)) (map (λ taken. first ∷ taken) (choices_of cards)) (choices_of cards)
    (each_map (AreHeld (first ∷ cards)) (λ taken. first ∷ taken) (choices_of cards)
    (each_gives (AreHeld cards) (λ taken. AreHeld (first ∷ cards) (first ∷ taken)) (choices_of cards)
    (λ taken held. (
      or_left (nat_eq first first) (holds cards first) (eq-eqb first first refl),
      held_more first cards taken held,
    )) (choices_held cards)))
    (each_gives (AreHeld cards) (AreHeld (first ∷ cards)) (choices_of cards) (held_more first cards)
    (choices_held cards))
