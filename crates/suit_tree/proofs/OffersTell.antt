-- Offers tell the moves that were taken one by one (tells_more), also those of a defender (offered_tells).
use Rattle.std.proofs.Common.{◌≡◌, ◌<◌, ◌+◌, ℕ, zero, suc, Bool, false, List, [], ◌∷◌, ◌++◌, length, map, take, get_or}
use Rattle.std.proofs.Common.{refl, sym, ap, ◌∙◌, arith}
use Rattle.std.specs.Prelude.{⊤, ◌||◌}
use Rattle.std.specs.List.{AllByRecursion, AllZip}
use Rattle.std.proofs.lemmas.List.{take_more}
use Rattle.std.proofs.lemmas.List.Elements.{Contains-get_or}
use Rattle.std.proofs.lemmas.List.Folds.{list_any_more}
use Rattle.suit_lists.proofs.Elements.{Contains-same, each_append, each_at, each_in}
use Rattle.suit_lists.proofs.Maps.{each_map}
use Rattle.suit_classes.specs.declared.class_moves.ClassMove.{ClassMove}
use Rattle.suit_classes.specs.declared.class_moves.ClassMove.TheVariants.{Lead, Follow, ShowOut}
use Rattle.suit_classes.specs.WhatIsAllowed.{is_among}
use Rattle.suit_classes.specs.ClassMoves.{same_class_move}
use Rattle.suit_classes.specs.ClassPlaces.{class_numbers}
use Rattle.suit_tree.specs.declared.offers.Offers.{Offers}
use Rattle.suit_tree.specs.Growing.{Tells, is_offered, their_moves}
use Rattle.suit_tree.proofs.OneNodeAtEachPath.{in_range_below}
use Rattle.suit_classes.specs.declared.classes.TheConstants.{MOST_CLASSES}

none_true : (told : List Bool) → AllByRecursion (λ b. b ≡ false) told → (class : ℕ) → get_or told class false ≡ false
none_true [] each class = refl
none_true (b ∷ told) each zero = each.0
none_true (b ∷ told) each (suc class) = none_true told each.1 class

-- no offers tell no moves
pub tells_none : (offers : Offers) → AllByRecursion (λ b. b ≡ false) offers.follows → offers.shows_out ≡ false
    → Tells offers []
unfolding is_among
tells_none offers each none = record { follows = λ class below. none_true offers.follows each class; shows_out = none }

among_more : (moves : List ClassMove) (i : ℕ) (d move : ClassMove) → i < length moves
    → is_among (take (i + 1) moves) move ≡ (is_among (take i moves) move || same_class_move move (get_or moves i d))
unfolding is_among
among_more moves i d move below = list_any_more (same_class_move move) moves i d below

-- one move more
pub tells_more : (before after : Offers) (moves : List ClassMove) (i : ℕ) (d : ClassMove) → i < length moves
    → Tells before (take i moves)
    → ((class : ℕ) → class < MOST_CLASSES → get_or after.follows class false
    ≡ (get_or before.follows class false || same_class_move (Follow class) (get_or moves i d)))
    → after.shows_out ≡ (before.shows_out || same_class_move ShowOut (get_or moves i d))
    → Tells after (take (i + 1) moves)
tells_more before after moves i d below told follows shown = record {
  follows = λ class few.
      follows class few ∙ ap (λ (b : Bool). b
      || same_class_move (Follow class) (get_or moves i d)) (told.follows class few)
      ∙ sym (among_more moves i d (Follow class) below);
  shows_out =
      shown ∙ ap (λ (b : Bool). b || same_class_move ShowOut (get_or moves i d)) told.shows_out
      ∙ sym (among_more moves i d ShowOut below);
}

-- a move that a defender may have
abbrev pub IsTheirs : ClassMove → Type 0
IsTheirs (Lead seat class) = ⊥
IsTheirs (Follow class) = class < MOST_CLASSES
IsTheirs ShowOut = ⊤

each_theirs : AllByRecursion IsTheirs their_moves
unfolding their_moves class_numbers
each_theirs =
    each_append IsTheirs (map Follow class_numbers) (ShowOut ∷ [])
    (each_map IsTheirs Follow class_numbers
    (each_in (λ class. class < MOST_CLASSES) class_numbers (λ class found. in_range_below MOST_CLASSES class found))) (tt, tt)

pub their_at : (moves : List ClassMove) (i : ℕ) (d : ClassMove) → moves ≡ their_moves → i < length moves
    → IsTheirs (get_or moves i d)
their_at moves i d same below =
    each_at IsTheirs their_moves (get_or moves i d) each_theirs
    (Contains-same (get_or moves i d) same (Contains-get_or moves i d below))

-- of such a move offers tell whether it is one of those taken
pub offered_tells : (move : ClassMove) → IsTheirs move → (told : Offers) (moves : List ClassMove) → Tells told moves
    → is_offered told move ≡ is_among moves move
offered_tells (Lead seat class) is told moves tells = absurd is
offered_tells (Follow class) is told moves tells = tells.follows class is
offered_tells ShowOut is told moves tells = tells.shows_out

-- ---- lists side by side

module _ {A B : Type 0} (R : A → B → Type 0) where
  pub zip_length : (xs : List A) (ys : List B) → AllZip R xs ys → length xs ≡ length ys
  zip_length [] [] each = refl
  zip_length [] (y ∷ ys) each = absurd each
  zip_length (x ∷ xs) [] each = absurd each
  zip_length (x ∷ xs) (y ∷ ys) each = let later = zip_length xs ys each.1 in omega (arith, later)

  zip_push : (xs : List A) (ys : List B) (x : A) (y : B) → AllZip R xs ys → R x y
      → AllZip R (xs ++ x ∷ []) (ys ++ y ∷ [])
  zip_push [] [] x y each one = (one, tt)
  zip_push [] (other ∷ ys) x y each one = absurd each
  zip_push (other ∷ xs) [] x y each one = absurd each
  zip_push (first ∷ xs) (other ∷ ys) x y each one = (each.0, zip_push xs ys x y each.1 one)

  pub zip_more : (xs : List A) (ys after : List B) (i : ℕ) (d : A) (y : B) → i < length xs → AllZip R (take i xs) ys
      → after ≡ ys ++ y ∷ []
      → R (get_or xs i d) y → AllZip R (take (i + 1) xs) after
  zip_more xs ys after i d y below each is one =
      rw (take_more xs i d below, is) (zip_push (take i xs) ys (get_or xs i d) y each one)
