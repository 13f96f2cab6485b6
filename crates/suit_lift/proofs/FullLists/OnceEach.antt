-- A list without its repeats (each_first): it has what the list has, and nothing twice.
use Rattle.std.proofs.Common.{◌≡◌, Bool, true, false, not, cond, List, [], ◌∷◌, refl, sym, ap, ◌∙◌, subst, inl, inr}
use Rattle.std.specs.Prelude.{Contains}
use Rattle.std.specs.Bool.{Decides}
use Rattle.std.specs.List.{AllByRecursion, filter}
use Rattle.std.proofs.lemmas.Bool.{cases_Bool, false≢true, not-true}
use Rattle.suit_lists.proofs.Elements.{Contains-cons_cases, Contains-first, Contains-later}
use Rattle.suit_lists.proofs.Filters.{Contains-filter, each_filter}
use Rattle.suit_lists.proofs.Once.{IsOnce, once_filter}

module _ {X : Type 0} (same : X → X → Bool) (decides : (x y : X) → Decides (same x y) (x ≡ y)) where
  -- the first of each kind
  unfoldable pub each_first : List X → List X
  each_first [] = []
  each_first (x ∷ xs) = x ∷ filter (λ y. not (same x y)) (each_first xs)

  apart_kept : (x y : X) (ys : List X) (b : Bool) → not (same x y) ≡ b → AllByRecursion (λ z. x ≡ z → ⊥) ys
      → AllByRecursion (λ z. x ≡ z → ⊥) (cond b (y ∷ ys) ys)
  apart_kept x y ys true passes each = (
    (λ is. false≢true (sym (not-true (same x y) passes) ∙ (decides x y).1 is)),
    each,
  )
  apart_kept x y ys false passes each = each

  apart : (x : X) (ys : List X) → AllByRecursion (λ z. x ≡ z → ⊥) (filter (λ y. not (same x y)) ys)
  apart x [] = tt
  apart x (y ∷ ys) = apart_kept x y (filter (λ z. not (same x z)) ys) (not (same x y)) refl (apart x ys)

  pub each_first_once : (xs : List X) → IsOnce (each_first xs)
  unfolding each_first IsOnce
  each_first_once [] = tt
  each_first_once (x ∷ xs) =
      (apart x (each_first xs), once_filter (λ y. not (same x y)) (each_first xs) (each_first_once xs))

  pub each_first_all : (P : X → Type 0) (xs : List X) → AllByRecursion P xs → AllByRecursion P (each_first xs)
  unfolding each_first
  each_first_all P [] each = tt
  each_first_all P (x ∷ xs) each =
      (each.0, each_filter P (λ y. not (same x y)) (each_first xs) (each_first_all P xs each.1))

  pub each_first_has : (xs : List X) (x : X) → Contains xs x → Contains (each_first xs) x
  unfolding each_first
  each_first_has [] x found = found
  each_first_has (first ∷ xs) x found =
      let others : List X = filter (λ y. not (same first y)) (each_first xs) in
      elim (cases_Bool (same first x)) [
        | inl is ↦ subst (λ (y : X). Contains (first ∷ others) y) ((decides first x).0 is) (Contains-first first others)
        | inr differs ↦ elim (Contains-cons_cases first xs x found) [
          | inl here ↦ subst (λ (y : X). Contains (first ∷ others) y) here (Contains-first first others)
          | inr there ↦ Contains-later first others x (Contains-filter (λ y. not (same first y)) (each_first xs) x
              (each_first_has xs x there) (ap not differs))
        ]
      ]
