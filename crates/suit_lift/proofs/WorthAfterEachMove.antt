-- What a class history is worth to a side that replies, by the worths after each move (worth_on, worth_none).
use Rattle.std.proofs.Common.{◌≡◌, ◌-◌, ◌<◌, List, [], ◌∷◌, ◌++◌, length, map, refl, ap, ◌∙◌}
use Rattle.std.specs.Prelude.{Contains, ℤ, ◌≤ℤ◌, if◌then◌else◌}
use Rattle.std.specs.Int.{int_min, int_max}
use Rattle.suit_lists.proofs.Firsts.{HasFirst, HasFirst-found, HasFirst-map}
use Rattle.suit_lists.proofs.Maps.{Contains-map}
use Rattle.suit_game.specs.declared.limits.TheConstants.{MOST_MOVES}
use Rattle.suit_classes.specs.declared.class_moves.ClassMove.{ClassMove}
use Rattle.suit_plans.specs.BestReplies.{Reply, best_of, worth, worth_at}
use Rattle.suit_plans.specs.Properness.{sum_of}
use Rattle.suit_plans.proofs.WorthsAtTurns.{ended_worth, least_of as least_number, most_of as most_number}
use Rattle.suit_plans.proofs.WorthsAtTurns.{worth_next}
use Rattle.suit_classes.specs.ClassMoves.{ClassHistory}

-- without a move it is worth what is earned
pub worth_none : (reply : Reply) (history : ClassHistory) → reply.moves history ≡ [] → worth reply history
    ≡ reply.earned history
worth_none reply history none = ended_worth reply (MOST_MOVES - length history) history none

at_some : (reply : Reply) (history : ClassHistory) (worths : List ℤ) → HasFirst worths
    → worth_at reply history worths ≡ (if reply.replies history then best_of reply.best worths else sum_of worths)
at_some reply history [] some = absurd (cc)
at_some reply history (first ∷ worths) some = refl

-- with a move it is worth the best, or the sum
pub worth_on : (reply : Reply) (history moves : ClassHistory) → length history < MOST_MOVES
    → reply.moves history ≡ moves
    → HasFirst moves
    → worth reply history
    ≡ (if reply.replies history then best_of reply.best (map (λ move. worth reply (history ++ move ∷ [])) moves)
    else sum_of (map (λ move. worth reply (history ++ move ∷ [])) moves))
worth_on reply history moves few are some =
    worth_next reply history few
    ∙ ap (λ (l : List ClassMove). worth_at reply history (map (λ move. worth reply (history ++ move ∷ [])) l)) are
    ∙ at_some reply history (map (λ move. worth reply (history ++ move ∷ [])) moves) (record {
      first = worth reply (history ++ some.first ∷ []);
      more = map (λ move. worth reply (history ++ move ∷ [])) some.more;
      parts = ap (map (λ move. worth reply (history ++ move ∷ []))) some.parts;
    })

-- the least of some numbers is at most each of them
pub least_of : (f : ClassMove → ℤ) (moves : List ClassMove) (move : ClassMove) → Contains moves move
    → best_of int_min (map f moves) ≤ℤ f move
least_of f moves move found =
    (least_number (map f moves) (HasFirst-map f moves (HasFirst-found moves move found))).least (f move)
    (Contains-map f moves move found)

-- the most of some numbers is at least each of them
pub most_of : (f : ClassMove → ℤ) (moves : List ClassMove) (move : ClassMove) → Contains moves move
    → f move ≤ℤ best_of int_max (map f moves)
most_of f moves move found =
    (most_number (map f moves) (HasFirst-map f moves (HasFirst-found moves move found))).most (f move)
    (Contains-map f moves move found)
