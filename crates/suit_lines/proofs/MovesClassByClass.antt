-- Moves that are listed class by class, one class more (`class_more`).
use Rattle.std.proofs.Common.{◌≡◌, ℕ, ◌+◌, List, [], ◌∷◌, ◌++◌, map, sym, ap, ◌∙◌, append-nil, append_assoc, arith}
use Rattle.std.specs.List.{range_with_len}
use Rattle.std.proofs.lemmas.List.FromFn.{map-range_with_len_more}
use Rattle.suit_classes.specs.declared.class_moves.ClassMove.{ClassMove}

pub class_none : (base : List ClassMove) (move : ℕ → ClassMove) → base ≡ base ++ map move (range_with_len 0 0)
class_none base move = sym (append-nil base)

pub class_more : (base moves new : List ClassMove) (move : ℕ → ClassMove) (class : ℕ)
    → moves ≡ base ++ map move (range_with_len 0 class) → new ≡ moves ++ move class ∷ []
    → new ≡ base ++ map move (range_with_len 0 (class + 1))
class_more base moves new move class so_far pushed =
    pushed ∙ ap (λ (l : List ClassMove). l ++ move class ∷ []) so_far
    ∙ append_assoc base (map move (range_with_len 0 class)) (move class ∷ [])
    ∙ ap (λ (l : List ClassMove). base ++ l) (sym (map-range_with_len_more move 0 class class (omega arith)))
