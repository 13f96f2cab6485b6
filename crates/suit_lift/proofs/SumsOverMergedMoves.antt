-- Sums over the class moves that some moves merge to, each once.
use Rattle.std.proofs.Common.{◌≡◌, ℕ, ◌+◌, Bool, true, false, not, List, [], ◌∷◌, map, refl, sym, ap, ◌∙◌, subst}
use Rattle.std.proofs.Common.{inl, inr, arith}
use Rattle.std.specs.Prelude.{if◌then◌else◌}
use Rattle.std.specs.List.{AllByRecursion, filter, sum_by}
use Rattle.std.proofs.lemmas.Bool.{cases_Bool, false≢true, false_from_ne_true}
use Rattle.std.proofs.lemmas.List.Sums.{sum_by-cons}
use Rattle.suit_lists.proofs.Elements.{each_gives}
use Rattle.suit_lists.proofs.Once.{IsOnce, IsOnce as IsCardOnce}
use Rattle.suit_lists.proofs.Sums.{sum_by_alike}
use Rattle.suit_game.specs.declared.moves.Move.{Move}
use Rattle.suit_game.proofs.SameCardMoves.{same_card_move-itself}
use Rattle.suit_classes.specs.declared.class_moves.ClassMove.{ClassMove}
use Rattle.suit_classes.specs.WhatIsAllowed.{is_among}
use Rattle.suit_classes.specs.Classes.{Hands}
use Rattle.suit_classes.specs.ClassGame.{each_once}
use Rattle.suit_classes.specs.ClassMoves.{merge, same_class_move}
use Rattle.suit_classes.proofs.AllowedMoveByMove.{Contains-each_once, each_once-Contains}
use Rattle.suit_classes.proofs.DistinctMoves.{once_each_once}
use Rattle.suit_classes.proofs.SameMoves.{among-Contains, among_contained, same_move_is}
use Rattle.suit_lift.specs.Lifts.{is_lowest}
use Rattle.suit_lift.proofs.LegalMoves.{other_card_move}

-- a list without repeats has the moves of the list
pub among_each_once : (moves : List ClassMove) (move : ClassMove) → is_among (each_once moves) move
    ≡ is_among moves move
among_each_once moves move = elim (cases_Bool (is_among moves move)) [
  | inl among ↦ among_contained (each_once moves) move (each_once-Contains moves move
      (among-Contains moves move among)) ∙ sym among
  | inr none ↦
      false_from_ne_true (is_among (each_once moves) move)
      (λ among. false≢true (sym none ∙ among_contained moves move (Contains-each_once moves move (among-Contains
      (each_once moves) move among)))) ∙ sym none
]

pub other_class : (move other : ClassMove) → (move ≡ other → ⊥) → same_class_move move other ≡ false
other_class move other differ =
    false_from_ne_true (same_class_move move other) (λ same. differ (same_move_is move other same))

-- whatever is not the move is kept
kept_all : (move : ClassMove) (xs : List ClassMove) → AllByRecursion (λ y. move ≡ y → ⊥) xs
    → filter (λ other. not (same_class_move move other)) xs ≡ xs
kept_all move [] apart = refl
kept_all move (other ∷ xs) apart =
    rw (other_class move other apart.0) (ap (λ (l : List ClassMove). other ∷ l) (kept_all move xs apart.1))

not_among : (move : ClassMove) (xs : List ClassMove) → AllByRecursion (λ y. move ≡ y → ⊥) xs → is_among xs move ≡ false
unfolding is_among
not_among move [] apart = refl
not_among move (other ∷ xs) apart = rw (other_class move other apart.0) (not_among move xs apart.1)

-- a sum over moves, and over those that are not one of them
sum_without : (f : ClassMove → ℕ) (move : ClassMove) (xs : List ClassMove) → IsOnce xs
    → sum_by f (filter (λ other. not (same_class_move move other)) xs) + (if is_among xs move then f move else 0)
    ≡ sum_by f xs
unfolding IsOnce is_among
sum_without f move [] once = omega arith
sum_without f move (other ∷ xs) once = elim (cases_Bool (same_class_move move other)) [
  | inl same ↦
      let is : move ≡ other = same_move_is move other same in
      let apart : AllByRecursion (λ y. move ≡ y → ⊥) xs = subst (λ (m : ClassMove). AllByRecursion (λ y. m ≡ y
      → ⊥) xs) (sym is) once.0 in
      rw (same, kept_all move xs apart) (omega (arith, ap f is, sum_by-cons f other xs))
  | inr differ ↦
      rw differ
      (omega (
        arith,
        sum_without f move xs once.1,
        sum_by-cons f other xs,
        sum_by-cons f other (filter (λ y. not
            (same_class_move move y)) xs),
      ))
]

lowest_later : (hands : Hands) (first : Move) (later : List Move) (move : Move) → (first ≡ move → ⊥)
    → is_lowest hands (first ∷ later) move ≡ is_lowest hands later move
unfolding is_lowest
lowest_later hands first later move differ = rw (other_card_move first move differ) refl

lowest_first : (hands : Hands) (first : Move) (later : List Move) → is_lowest hands (first ∷ later) first
    ≡ not (is_among (map (merge hands) later) (merge hands first))
unfolding is_lowest
lowest_first hands first later = rw (same_card_move-itself first) refl

taken_once : (among : Bool) (here later others all : ℕ) → others + (if among then here else 0) ≡ all → later ≡ all
    → (if not among then here else 0) + later ≡ here + others
taken_once true here later others all parts is = omega arith
taken_once false here later others all parts is = omega arith

-- what the lowest cards of the classes have adds up over the classes
pub lowest_sum : (hands : Hands) (f : ClassMove → ℕ) (moves : List Move) → IsCardOnce moves
    → sum_by (λ move. if is_lowest hands moves move then f (merge hands move) else 0) moves
    ≡ sum_by f (each_once (map (merge hands) moves))
unfolding IsCardOnce each_once
lowest_sum hands f [] once = refl
lowest_sum hands f (first ∷ later) once =
    let class : ClassMove = merge hands first in
    let merges : List ClassMove = map (merge hands) later in
    let at_all : Move → ℕ = λ move. if is_lowest hands (first ∷ later) move then f (merge hands move) else 0 in
    let at_later : Move → ℕ = λ move. if is_lowest hands later move then f (merge hands move) else 0 in
    let others : List ClassMove = filter (λ other. not (same_class_move class other)) (each_once merges) in
    let head : at_all first ≡ (if not (is_among merges class) then f class else 0) =
    ap {B = ℕ} (λ (b : Bool). if b then f class else 0) (lowest_first hands first later) in
    let tail : sum_by at_all later ≡ sum_by at_later later =
    sum_by_alike at_all at_later later
    (each_gives (λ move. first ≡ move → ⊥) (λ move. at_all move ≡ at_later move) later
    (λ move differ. ap {B = ℕ} (λ (b : Bool). if b then f (merge hands move) else 0)
    (lowest_later hands first later move differ)) once.0) in
    let parts : sum_by f others + (if is_among merges class then f class else 0) ≡ sum_by f (each_once merges) =
    rw (among_each_once merges class) at (sum_without f class (each_once merges) (once_each_once merges)) in
    sum_by-cons at_all first later
    ∙ (omega (arith, head, tail) ∙ taken_once (is_among merges class) (f class) (sum_by at_later later)
    (sum_by f others) (sum_by f (each_once merges)) parts
    (lowest_sum hands f later once.1))
    ∙ sym (sum_by-cons f class others)
