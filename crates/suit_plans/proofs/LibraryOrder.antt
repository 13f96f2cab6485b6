-- What the order of the library says of lists is what the lexicographic order says.
use Rattle.std.proofs.Common.{◌≡◌, Bool, true, false, cond, ◌&&◌, ◌||◌, List, [], ◌∷◌, Option, Ordering, Some, refl, ap}
use Rattle.std.proofs.Common.{◌∙◌}
use Rattle.std.specs.Ordering.{is_lt, is_some_and, partial_ordering_then}
use Rattle.std.specs.Cmp.Lexicographic.{pointwise, slice_partial_cmp}
use Rattle.std.specs.declared.cmp.Ordering.TheVariants.{Less, Equal, Greater}
use Rattle.suit_classes.specs.declared.class_moves.ClassMove.{ClassMove}
use Rattle.suit_classes.specs.contracts.class_moves.ClassMovePartialEq.TheImpl as equal
use Rattle.suit_classes.specs.ClassMoves.{same_class_move, ClassHistory}
use Rattle.suit_classes.proofs.OrderIsAsDefined.{eq_same}
use Rattle.suit_plans.specs.Orders.{is_earlier, same_class_history}

-- by how the first elements stand
step_earlier : (before alike rest : Bool) (later : Option Ordering) → is_some_and is_lt later ≡ rest
    → is_some_and is_lt (partial_ordering_then (Some (cond before Less (cond alike Equal Greater))) later)
    ≡ (before || (alike && rest))
step_earlier true alike rest later same = refl
step_earlier false true rest later same = same
step_earlier false false rest later same = refl

-- where the order of elements tells which stand before and which are alike, the order of lists tells which list is
-- earlier
pub cmp_earlier : {X : Type 0} (compare : X → X → Option Ordering) (before alike : X → X → Bool)
    → ((x y : X) → compare x y ≡ Some (cond (before x y) Less (cond (alike x y) Equal Greater)))
    → (here there : List X) → is_some_and is_lt (slice_partial_cmp compare here there)
    ≡ is_earlier before alike here there
unfolding is_earlier
cmp_earlier compare before alike tells [] [] = refl
cmp_earlier compare before alike tells [] (other ∷ others) = refl
cmp_earlier compare before alike tells (first ∷ rest) [] = refl
cmp_earlier {X} compare before alike tells (first ∷ rest) (other ∷ others) =
    ap (λ (order : Option Ordering). is_some_and is_lt
    (partial_ordering_then order (slice_partial_cmp compare rest others))) (tells first other)
    ∙ step_earlier (before first other) (alike first other) (is_earlier before alike rest others)
    (slice_partial_cmp compare rest others)
    (cmp_earlier compare before alike tells rest others)

-- the equality of the library tells which histories are the same
pub eq_same_class_history : (here there : ClassHistory)
    → pointwise equal.ghosts.eq here there ≡ same_class_history here there
unfolding same_class_history
eq_same_class_history [] [] = refl
eq_same_class_history [] (other ∷ others) = refl
eq_same_class_history (move ∷ moves) [] = refl
eq_same_class_history (move ∷ moves) (other ∷ others) =
    ap (λ (b : Bool). b && pointwise equal.ghosts.eq moves others) (eq_same move other)
    ∙ ap (λ (b : Bool). same_class_move move other && b) (eq_same_class_history moves others)
