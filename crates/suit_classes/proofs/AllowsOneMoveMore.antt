-- Counts of West's allow a history with one move more where they allow the history and the move is among those after
-- it.
use Rattle.std.proofs.Common.{◌≡◌, Bool, true, false, [], ◌∷◌, ◌++◌, refl, ap, ◌∙◌}
use Rattle.std.specs.Prelude.{◌&&◌, fold}
use Rattle.suit_classes.specs.ClassMoves.{ClassHistory}
use Rattle.suit_cards.specs.Cards.{ClassLayout}
use Rattle.suit_game.specs.declared.question.Question.{Question}
use Rattle.suit_classes.specs.declared.class_moves.ClassMove.{ClassMove}
use Rattle.suit_classes.specs.WhatIsAllowed.{allows, allows_from, is_among}
use Rattle.suit_classes.specs.ClassPlaces.{ClassView, class_after, class_moves, class_start, class_step}

-- a further test that passes changes nothing
pub and-last : (b : Bool) → (b && true) ≡ b
and-last true = refl
and-last false = refl

-- three tests may be joined from either end
pub and-assoc : (a b c : Bool) → (a && (b && c)) ≡ ((a && b) && c)
and-assoc true b c = refl
and-assoc false b c = refl

-- counts allow one move more where it is among the moves after the others
pub allows_from-push : (counts : ClassLayout) (view : ClassView) (history : ClassHistory) (move : ClassMove)
    → allows_from counts view (history ++ move ∷ []) ≡
    (allows_from counts view history && is_among (class_moves (fold class_step view history) counts) move)
unfolding allows_from
allows_from-push counts view [] move = and-last (is_among (class_moves view counts) move)
allows_from-push counts view (first ∷ rest) move =
    let next = class_step view first in
    ap (λ (b : Bool). is_among (class_moves view counts) first && b) (allows_from-push counts next rest move)
    ∙ and-assoc (is_among (class_moves view counts) first) (allows_from counts next rest)
    (is_among (class_moves (fold class_step next rest) counts) move)

pub allows-push : (question : Question) (counts : ClassLayout) (history : ClassHistory) (move : ClassMove)
    → allows question counts (history ++ move ∷ []) ≡
    (allows question counts history && is_among (class_moves (class_after question history) counts) move)
unfolding allows
allows-push question counts history move = allows_from-push counts (class_start question) history move
