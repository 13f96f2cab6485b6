-- What a walk over a list has still to look at.
use Rattle.std.proofs.Common.{◌≡◌, ℕ, ◌+◌, ◌-◌, ◌<◌, ◌≤◌, Bool, true, ◌&&◌, List, [], ◌∷◌, length, length-drop, get_or}
use Rattle.std.proofs.Common.{drop, refl, sym, ap, ◌∙◌, arith}
use Rattle.std.proofs.lemmas.List.{at_drop_more, drop_more}
use Rattle.suit_classes.specs.declared.class_moves.ClassMove.{ClassMove}
use Rattle.suit_classes.specs.MoveOrder.{stands_before}
use Rattle.suit_plans.specs.Properness.{are_rising}

rises_on : (move next : ClassMove) (moves : List ClassMove)
    → are_rising (move ∷ next ∷ moves) ≡ (stands_before move next && are_rising (next ∷ moves))
unfolding are_rising
rises_on move next moves = refl

-- moves rise from a place on where the one there stands before the next and all from that on rise
pub rising_from : (moves : List ClassMove) (place : ℕ) (d : ClassMove) (b : Bool) → place + 1 < length moves
    → b ≡ stands_before (get_or moves place d) (get_or moves (place + 1) d)
    → are_rising (drop place moves) ≡ (b && are_rising (drop (place + 1) moves))
rising_from moves place d b below is =
    let rest : List ClassMove = drop (place + 1 + 1) moves in
    let later : drop (place + 1) moves ≡ get_or moves (place + 1) d ∷ rest = drop_more moves (place + 1) d below in
    at_drop_more are_rising moves place d (omega (arith, below))
    ∙ ap (λ (l : List ClassMove). are_rising (get_or moves place d ∷ l)) later
    ∙ rises_on (get_or moves place d) (get_or moves (place + 1) d) rest
    ∙ ap (λ (t : Bool). t && are_rising (get_or moves (place + 1) d ∷ rest)) (sym is)
    ∙ ap (λ (l : List ClassMove). b && are_rising l) (sym later)

short_rises : (moves : List ClassMove) → length moves ≤ 1 → are_rising moves ≡ true
unfolding are_rising
short_rises [] short = refl
short_rises (move ∷ []) short = refl
short_rises (move ∷ next ∷ moves) short = absurd (omega (arith, short))

-- the last move by itself rises
pub rising_past : (moves : List ClassMove) (place : ℕ) → length moves ≤ place + 1 → are_rising (drop place moves) ≡ true
rising_past moves place past = short_rises (drop place moves) (omega (arith, past, length-drop place moves))

-- a walk over moves that is at a place, from the second on: the moves before it rise
pub record HasRisen (moves : List ClassMove) (place : ℕ) : Type 0 where
  pub from : 1 ≤ place
  pub rises : are_rising (drop (place - 1) moves) ≡ are_rising moves

pub risen_first : (moves : List ClassMove) → HasRisen moves 1
risen_first moves = record { from = omega arith; rises = refl }

pub risen_on : (moves : List ClassMove) (place : ℕ) (d : ClassMove) (b : Bool) → place < length moves
    → HasRisen moves place
    → b ≡ stands_before (get_or moves (place - 1) d) (get_or moves place d)
    → are_rising moves ≡ (b && are_rising (drop place moves))
risen_on moves place d b below risen is =
    let before : ℕ = place - 1 in
    let next : before + 1 ≡ place = omega (arith, risen.from) in
    sym risen.rises
    ∙ rising_from moves before d b (omega (arith, risen.from, below)) (is
    ∙ ap (λ (p : ℕ). stands_before (get_or moves before d) (get_or moves p d)) (sym next))
    ∙ ap (λ (p : ℕ). b && are_rising (drop p moves)) next

pub risen_next : (moves : List ClassMove) (place : ℕ) (d : ClassMove) → place < length moves → HasRisen moves place
    → true ≡ stands_before (get_or moves (place - 1) d) (get_or moves place d) → HasRisen moves (place + 1)
risen_next moves place d below risen is =
    let back : place + 1 - 1 ≡ place = omega arith in
    record {
      from = omega arith;
      rises = ap (λ (p : ℕ). are_rising (drop p moves)) back
          ∙ sym (risen_on moves place d true below risen is);
    }

pub risen_last : (moves : List ClassMove) (place : ℕ) → length moves ≤ place → HasRisen moves place
    → true ≡ are_rising moves
risen_last moves place past risen = sym (rising_past moves (place - 1) (omega (arith, past, risen.from))) ∙ risen.rises
