-- walked: the choices of a reply, walked along the reply.
use Rattle.std.proofs.Common.{◌≡◌, Bool, false, refl, ap}
use Rattle.std.specs.Prelude.{ℕ, zero, suc, nat_lt, not, List, [], ◌∷◌, ◌++◌, length, if◌then◌else◌}
use Rattle.std.specs.List.{flat_map}
use Rattle.suit_classes.specs.declared.class_moves.ClassMove.{ClassMove}
use Rattle.suit_classes.specs.ClassMoves.{ClassHistory}
use Rattle.suit_plans.specs.BestReplies.{Reply, reply_move}
use Rattle.suit_reply.specs.declared.chosen_move.ChosenMove.{ChosenMove}

-- the choice at a turn of the side that replies, where there is one
abbrev pub choice_at : ℕ → ClassHistory → ClassMove → List ChosenMove
choice_at many history move = if nat_lt 1 many then record { history = history; mv = move } ∷ [] else []

-- the choices from a turn on with these moves, where those from each history on are given
abbrev pub walked_turn : Reply → (ClassHistory → List ChosenMove) → ClassHistory → List ClassMove → List ChosenMove
walked_turn reply onward history [] = []
walked_turn reply onward history (move ∷ moves) =
    if reply.replies history then choice_at (length (move ∷ moves)) history (reply_move reply history)
    ++ onward (history ++ reply_move reply history ∷ [])
    else flat_map (λ next. onward (history ++ next ∷ [])) (move ∷ moves)

-- the choices of a reply from a class history on, which at most so many moves follow, none where no mass comes to it
unfoldable pub walked : ℕ → Reply → ClassHistory → List ChosenMove
walked zero reply history = []
walked (suc more) reply history =
    if not (reply.live history) then [] else walked_turn reply (walked more reply) history (reply.moves history)

-- none are found from a class history on to which no mass comes
pub walked_none : (reply : Reply) (more : ℕ) (history : ClassHistory) → reply.live history ≡ false
    → walked more reply history ≡ []
unfolding walked
walked_none reply zero history dead = refl
walked_none reply (suc more) history dead =
    ap (λ (b : Bool). if not b then [] else walked_turn reply (walked more reply) history (reply.moves history)) dead
