-- How masses go on move by move, and on which rows they rest.
use Rattle.std.proofs.Common.{◌≡◌, Bool, true, false, List, [], ◌∷◌, ◌++◌, Option, refl, sym, ap, ◌∙◌, subst}
use Rattle.std.proofs.Common.{append_assoc, append-nil}
use Rattle.std.specs.Prelude.{ℤ, if◌then◌else◌}
use Rattle.suit_game.specs.declared.question.Question.{Question}
use Rattle.suit_classes.specs.declared.class_moves.ClassMove.{ClassMove}
use Rattle.suit_classes.specs.ClassPlaces.{class_after, class_moves, class_turn}
use Rattle.suit_plans.specs.Masses.{Shares, Side, is_first, mass_from, mass_of, let_through, share}
use Rattle.suit_classes.specs.ClassMoves.{ClassHistory}

-- a history with one move more has the mass that goes on with the move
pub mass_from-push : (question : Question) (side : Side) (history : ClassHistory) (mass : ℤ) (moves : List ClassMove)
    (move : ClassMove)
    → mass_from question side history mass (moves ++ move ∷ [])
    ≡ let_through question side (history ++ moves) (mass_from question side history mass moves) move
unfolding mass_from
mass_from-push question side history mass [] move =
    ap (λ (h : ClassHistory). let_through question side h mass move) (sym (append-nil history))
mass_from-push question side history mass (first ∷ moves) move =
    let now : ℤ = let_through question side history mass first in
    mass_from-push question side (history ++ first ∷ []) now moves move
    ∙ ap (λ (h : ClassHistory). let_through question side h
    (mass_from question side (history ++ first ∷ []) now moves) move) (append_assoc history (first ∷ []) moves)

-- so it is with whole histories
pub mass_of-push : (question : Question) (side : Side) (history : ClassHistory) (move : ClassMove)
    → mass_of question side (history ++ move ∷ [])
    ≡ let_through question side history (mass_of question side history) move
unfolding mass_of
mass_of-push question side history move = mass_from-push question side [] side.whole history move

-- a move of the other side keeps the mass
pub mass_kept : (question : Question) (side : Side) (history : ClassHistory) (move : ClassMove)
    → side.plays (class_turn (class_after question history)) ≡ false
    → mass_of question side (history ++ move ∷ []) ≡ mass_of question side history
mass_kept question side history move waits =
    mass_of-push question side history move
    ∙ ap (λ (b : Bool). if b then share (side.shares_at history)
    (is_first (class_moves (class_after question history) side.counts) move) (mass_of question side history) move
    else mass_of question side history) waits

-- a move of the side gets its share
pub mass_shared : (question : Question) (side : Side) (history : ClassHistory) (move : ClassMove)
    → side.plays (class_turn (class_after question history)) ≡ true
    → mass_of question side (history ++ move ∷ [])
    ≡ share (side.shares_at history) (is_first (class_moves (class_after question history) side.counts) move)
    (mass_of question side history) move
mass_shared question side history move plays =
    mass_of-push question side history move
    ∙ ap (λ (b : Bool). if b then share (side.shares_at history)
    (is_first (class_moves (class_after question history) side.counts) move) (mass_of question side history) move
    else mass_of question side history) plays

-- the rows at the proper beginnings of a history are all that its mass rests on
pub mass_from_same : (question : Question) (side : Side) (other : List ClassMove
    → Option Shares) (history : ClassHistory) (mass : ℤ) (moves : List ClassMove)
    → ((start : ClassHistory) (move : ClassMove) (rest : ClassHistory) → moves ≡ start ++ move ∷ rest
    → side.shares_at (history ++ start) ≡ other (history ++ start))
    → mass_from question side history mass moves
    ≡ mass_from question (record side { shares_at = other }) history mass moves
unfolding mass_from
mass_from_same question side other history mass [] same = refl
mass_from_same question side other history mass (move ∷ moves) same =
    let turned : Side = record side { shares_at = other } in
    let here : side.shares_at history ≡ other history =
    subst (λ (h : ClassHistory). side.shares_at h ≡ other h) (append-nil history) (same [] move moves refl) in
    let now : let_through question side history mass move ≡ let_through question turned history mass move =
    ap (λ (o : Option Shares). if side.plays (class_turn (class_after question history))
    then share o (is_first (class_moves (class_after question history) side.counts) move) mass move
    else mass) here in
    mass_from_same question side other (history ++ move ∷ []) (let_through question side history mass move) moves
    (λ start next rest is. subst (λ (h : ClassHistory). side.shares_at h
    ≡ other h) (sym (append_assoc history (move ∷ []) start))
    (same (move ∷ start) next rest (ap (λ (l : List ClassMove). move ∷ l) is)))
    ∙ ap (λ (m : ℤ). mass_from question turned (history ++ move ∷ []) m moves) now

-- so a side with other rows that agree there gives the history the same mass
pub mass_of_same : (question : Question) (side : Side) (other : List ClassMove
    → Option Shares) (history : ClassHistory)
    → ((start : ClassHistory) (move : ClassMove) (rest : ClassHistory) → history ≡ start ++ move ∷ rest
    → side.shares_at start ≡ other start)
    → mass_of question side history ≡ mass_of question (record side { shares_at = other }) history
unfolding mass_of
mass_of_same question side other history same = mass_from_same question side other [] side.whole history same
