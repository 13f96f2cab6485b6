-- Lists with a first element.
use Rattle.std.proofs.Common.{List, [], ap, arith, length, map, refl, ◌<◌, ◌∷◌, ◌≡◌}
use Rattle.std.specs.Prelude.{Contains}
use Rattle.suit_lists.proofs.Elements.{Contains-nil}

pub record HasFirst {X : Type 0} (xs : List X) : Type 0 where
  pub first : X
  pub more : List X
  pub parts : xs ≡ first ∷ more

-- a list that contains something has one
pub HasFirst-found : {X : Type 0} (xs : List X) (x : X) → Contains xs x → HasFirst xs
HasFirst-found [] x found = absurd (Contains-nil x found)
HasFirst-found (y ∷ ys) x found = record { first = y; more = ys; parts = refl }

-- and one with more elements than one
pub HasFirst-many : {X : Type 0} (xs : List X) → 1 < length xs → HasFirst xs
HasFirst-many [] many = absurd (omega (arith, many))
HasFirst-many (x ∷ xs) many = record { first = x; more = xs; parts = refl }

-- what a list with a first element gives has one
pub HasFirst-map : {X Y : Type 0} (f : X → Y) (xs : List X) → HasFirst xs → HasFirst (map f xs)
HasFirst-map {X} f xs some = record {
  first = f some.first;
  more = map f some.more;
  parts = ap (λ (l : List X). map f l) some.parts;
}
