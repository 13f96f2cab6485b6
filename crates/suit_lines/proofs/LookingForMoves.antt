-- The loops that look for moves, and for the class layouts that have one, step by step.
use Rattle.std.proofs.Common.{◌≡◌, ℕ, ◌+◌, ◌<◌, Bool, true, false, cond, List, [], ◌∷◌, ◌++◌, length, get_or, take, map}
use Rattle.std.proofs.Common.{sym, ap, append-nil, ◌∙◌}
use Rattle.std.specs.Prelude.{filter, if◌then◌else◌}
use Rattle.std.specs.List.{list_any}
use Rattle.std.proofs.lemmas.List.{map_push, take_more}
use Rattle.std.proofs.lemmas.List.Elements.{filter-append}
use Rattle.suit_lists.proofs.Tests.{any_image}
use Rattle.suit_cards.specs.Cards.{ClassLayout}
use Rattle.suit_classes.specs.declared.class_moves.ClassMove.{ClassMove}
use Rattle.suit_classes.specs.WhatIsAllowed.{every_move, is_among}
use Rattle.suit_classes.specs.ClassPlaces.{ClassView, class_decided, class_moves}
use Rattle.suit_lines.specs.Walks.{having, moves_for, some_have}

module _ {X : Type 0} (counts : X → ClassLayout) (view : ClassView) (move : ClassMove) (xs : List X) (i : ℕ) (x : X)
    (kept : List X) (below : i < length xs) (item : x ≡ get_or xs i x)
    (so_far : map counts kept ≡ having view (map counts (take i xs)) move) where
  abbrev has : ClassLayout → Bool
  has west = is_among (class_moves view west) move

  having_more : having view (map counts (take (i + 1) xs)) move
      ≡ having view (map counts (take i xs)) move ++ cond (has (counts x)) (counts x ∷ []) []
  unfolding having
  having_more =
      ap (λ (l : List X). filter has (map counts l)) (take_more xs i x below)
      ∙ ap (filter has) (map_push counts (take i xs) (get_or xs i x))
      ∙ filter-append has (map counts (take i xs)) (counts (get_or xs i x) ∷ [])
      ∙ ap (λ (y : X). filter has (map counts (take i xs)) ++ cond (has (counts y)) (counts y ∷ []) []) (sym item)

  pub having_kept : (new : List X) → has (counts x) ≡ true → new ≡ kept ++ x ∷ []
      → map counts new ≡ having view (map counts (take (i + 1) xs)) move
  having_kept new is next =
      ap (map counts) next ∙ map_push counts kept x ∙ ap (λ (l : List ClassLayout). l ++ counts x ∷ []) so_far
      ∙ ap (λ (b : Bool). having view (map counts (take i xs)) move ++ cond b (counts x ∷ []) []) (sym is)
      ∙ sym having_more

  pub having_left : (new : List X) → has (counts x) ≡ false → new ≡ kept
      → map counts new ≡ having view (map counts (take (i + 1) xs)) move
  having_left new is next =
      ap (map counts) next ∙ so_far ∙ sym (append-nil (having view (map counts (take i xs)) move))
      ∙ ap (λ (b : Bool). having view (map counts (take i xs)) move ++ cond b (counts x ∷ []) []) (sym is)
      ∙ sym having_more

pub having_none : {X : Type 0} (counts : X → ClassLayout) (view : ClassView) (move : ClassMove) (kept : List X)
    → kept ≡ []
    → map counts kept ≡ having view [] move
unfolding having
having_none counts view move kept none = ap (map counts) none

-- offers that are the moves of some counts have a move where some of the counts have it
pub offered : {X Y : Type 0} (items : X → List ClassMove) (counts : Y → ClassLayout) (view : ClassView)
    (offers : List X)
    (layouts : List Y) (move : ClassMove)
    → map items offers ≡ map (λ layout. class_moves view (counts layout)) layouts
    → list_any (λ offer. is_among (items offer) move) offers ≡ some_have view (map counts layouts) move
offered {X} {Y} items counts view offers layouts move are =
    let among : List ClassMove → Bool = λ moves. is_among moves move in
    sym (any_image items among offers) ∙ ap (list_any among) are
    ∙ any_image (λ (layout : Y). class_moves view (counts layout)) among layouts
    ∙ sym (any_image counts (λ (west : ClassLayout). among (class_moves view west)) layouts)

pub moves_decided : (view : ClassView) (all : List ClassLayout) (moves : List ClassMove) → moves ≡ []
    → true ≡ class_decided view → moves ≡ moves_for view all
unfolding moves_for
moves_decided view all moves none decided =
    none ∙ ap (λ (b : Bool). if b then [] else filter (some_have view all) every_move) decided

pub moves_going : (view : ClassView) (all : List ClassLayout) (moves : List ClassMove)
    → moves ≡ filter (some_have view all) every_move → false ≡ class_decided view → moves ≡ moves_for view all
unfolding moves_for
moves_going view all moves are going =
    are ∙ ap (λ (b : Bool). if b then [] else filter (some_have view all) every_move) going
