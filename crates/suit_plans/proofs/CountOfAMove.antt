-- The count of a move, looked for from the first named move on.
use Rattle.std.proofs.Common.{◌≡◌, ℕ, ◌+◌, ◌<◌, ◌≤◌, Bool, length, get_or, drop, ℤ, pos, sym, ap, ◌∙◌}
use Rattle.std.specs.Prelude.{if◌then◌else◌}
use Rattle.std.proofs.lemmas.List.{at_drop_more, drop_all}
use Rattle.suit_classes.specs.declared.class_moves.ClassMove.{ClassMove}
use Rattle.suit_classes.specs.ClassMoves.{same_class_move}
use Rattle.suit_plans.specs.Masses.{Shares, count_of}

-- a named move decides, or the moves after it do
pub count_from : (shares : Shares) (move : ClassMove) (place : ℕ) (d : ClassMove × ℤ) (same : Bool)
    → place < length shares
    → same ≡ same_class_move (get_or shares place d).0 move
    → count_of (drop place shares) move ≡ (if same then (get_or shares place d).1
    else count_of (drop (place + 1) shares) move)
unfolding count_of
count_from shares move place d same below is =
    at_drop_more (λ (l : Shares). count_of l move) shares place d below
    ∙ ap (λ (b : Bool). if b then (get_or shares place d).1 else count_of (drop (place + 1) shares) move) (sym is)

-- past the last there is none
pub count_past : (shares : Shares) (move : ClassMove) (place : ℕ) → length shares ≤ place
    → count_of (drop place shares) move ≡ pos 0
unfolding count_of
count_past shares move place past = ap (λ (l : Shares). count_of l move) (drop_all place shares past)
