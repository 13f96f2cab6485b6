-- choices_walked: the choices of a reply, which are all class histories that are reached and have a choice, are
-- those that one finds walking along it.
pub mod ReplyToADefence
pub mod ReplyToAPlan
pub mod WalkOfAReply
use Rattle.std.proofs.Common.{◌≡◌, ◌⊎◌, ℕ, zero, suc, ◌+◌, Bool, true, false, List, [], ◌∷◌, ◌++◌}
use Rattle.std.proofs.Common.{length, map, refl, sym, ap, ◌∙◌, inl, inr, arith, append-nil, append_assoc}
use Rattle.std.specs.Prelude.{Contains, ◌&&◌, filter, nat_lt, if◌then◌else◌, ℤ}
use Rattle.std.specs.List.{flat_map}
use Rattle.std.proofs.lemmas.Bool.{and_cases, and_left, and_right, cases_Bool, false_from_ne_true, false≢true}
use Rattle.std.proofs.lemmas.List.{length-append}
use Rattle.suit_lists.proofs.FlatMaps.{flat_map_none, flat_map_same, kept_pieces}
use Rattle.suit_lists.proofs.Maps.{map_case_append}
use Rattle.suit_lists.proofs.Once.{flat_map_one, IsOnce}
use Rattle.suit_classes.specs.declared.class_moves.ClassMove.{ClassMove}
use Rattle.suit_classes.specs.ClassMoves.{ClassHistory, same_class_move}
use Rattle.suit_classes.proofs.SameMoves.{same_move-itself, same_move_is}
use Rattle.suit_classes.proofs.AllowsOneMoveMore.{and-assoc, and-last}
use Rattle.suit_plans.specs.BestReplies.{Reply, choices, follows, has_choice, histories_within}
use Rattle.suit_plans.specs.BestReplies.{is_reached, reply_move}
use Rattle.suit_plans.proofs.ReplyChoices.{reply_move_found}
use Rattle.suit_reply.specs.declared.chosen_move.ChosenMove.{ChosenMove}
use Rattle.suit_reply.proofs.ChoicesAlongAReply.WalkOfAReply.{choice_at, walked, walked_none, walked_turn}
use Rattle.suit_reply.proofs.WorthAtATurn.{walked_on}
use Rattle.suit_game.specs.declared.limits.TheConstants.{MOST_MOVES}

-- a reply whose live class histories begin live, whose moves do not repeat, which takes one of two worths, and which
-- has no move where 52 were made
pub record IsSteady (Fits : ClassHistory → Type 0) (reply : Reply) : Type 0 where
  pub starts : Fits []
  pub goes_on : (history : ClassHistory) (move : ClassMove) → Fits history → Contains (reply.moves history) move
      → Fits (history ++ move ∷ [])
  pub begins_live : (history : ClassHistory) (move : ClassMove) → Fits history → Contains (reply.moves history) move
      → reply.live (history ++ move ∷ []) ≡ true → reply.live history ≡ true
  pub once : (history : ClassHistory) → IsOnce (reply.moves history)
  pub picks : (one other : ℤ) → (reply.best one other ≡ one) ⊎ (reply.best one other ≡ other)
  pub ends : (history : ClassHistory) → Fits history → length history ≡ MOST_MOVES → reply.moves history ≡ []

-- a class history with the move of the reply there
abbrev pub choice_of : Reply → ClassHistory → ChosenMove
choice_of reply history = record { history = history; mv = reply_move reply history }

-- whether the reply has a choice there, and it is reached
abbrev is_chosen : Reply → ClassHistory → Bool
is_chosen reply history = has_choice reply history && is_reached reply history

-- the choices among a class history and those that go on from it
abbrev choices_from : ℕ → Reply → ClassHistory → List ChosenMove
choices_from more reply history = map (choice_of reply) (filter (is_chosen reply) (histories_within more reply history))

-- ---- the moves of the reply

-- whether a move is that of the reply, where it is on turn
abbrev is_its_move : Reply → ClassHistory → ClassMove → Bool
is_its_move reply history move = if reply.replies history then same_class_move (reply_move reply history) move else true

follows_from-push : (reply : Reply) (start : ClassHistory) (moves : List ClassMove) (move : ClassMove)
    → follows reply start (moves ++ move ∷ []) ≡ (follows reply start moves && is_its_move reply (start ++ moves) move)
unfolding follows
follows_from-push reply start [] move =
    and-last (is_its_move reply start move)
    ∙ ap (λ (h : ClassHistory). is_its_move reply h move) (sym (append-nil start))
follows_from-push reply start (first ∷ moves) move =
    ap (λ (b : Bool). is_its_move reply start first && b) (follows_from-push reply (start ++ first ∷ []) moves move)
    ∙ and-assoc (is_its_move reply start first) (follows reply (start ++ first ∷ []) moves)
    (is_its_move reply ((start ++ first ∷ []) ++ moves) move)
    ∙ ap (λ (h : ClassHistory). (is_its_move reply start first && follows reply (start ++ first ∷ []) moves)
    && is_its_move reply h move) (append_assoc start (first ∷ []) moves)

-- a class history follows the reply where its beginning does and its last move is not another than the reply's
follows-push : (reply : Reply) (history : ClassHistory) (move : ClassMove)
    → follows reply [] (history ++ move ∷ []) ≡ (follows reply [] history && is_its_move reply history move)
follows-push reply history move = follows_from-push reply [] history move

abbrev chosen_here : Bool → Reply → ClassHistory → List ChosenMove
chosen_here b reply history = if b then choice_of reply history ∷ [] else []

choices_of_turn : (more : ℕ) (reply : Reply) (history : ClassHistory) → choices_from (suc more) reply history
    ≡ chosen_here (is_chosen reply history) reply history
    ++ flat_map (λ move. choices_from more reply (history ++ move ∷ [])) (reply.moves history)
unfolding histories_within
choices_of_turn more reply history =
    let below : List ClassHistory =
    flat_map (λ move. histories_within more reply (history ++ move ∷ [])) (reply.moves history) in
    map_case_append (choice_of reply) (is_chosen reply history) history (filter (is_chosen reply) below)
    ∙ ap (λ (l : List ChosenMove). chosen_here (is_chosen reply history) reply history ++ l)
    (kept_pieces (choice_of reply) (is_chosen reply) (λ move. histories_within more reply (history ++ move ∷ []))
    (reply.moves history))

-- where a class history is not a choice, those below it are all
not_chosen : (reply : Reply) (history : ClassHistory) (below : List ChosenMove) → is_chosen reply history ≡ false
    → chosen_here (is_chosen reply history) reply history ++ below ≡ below
not_chosen reply history below none = ap (λ (b : Bool). chosen_here b reply history ++ below) none

choices_of_last : (reply : Reply) (history : ClassHistory) → is_chosen reply history ≡ false
    → choices_from zero reply history ≡ []
unfolding histories_within
choices_of_last reply history none =
    map_case_append (choice_of reply) (is_chosen reply history) history [] ∙ not_chosen reply history [] none

walked_last : (reply : Reply) (history : ClassHistory) → walked zero reply history ≡ []
unfolding walked
walked_last reply history = refl

-- at a reached turn the reply has a choice where it is on turn and has more moves than one
chosen_at : (reply : Reply) (history : ClassHistory) (own : Bool) (moves : List ClassMove) → reply.replies history ≡ own
    → reply.moves history ≡ moves → is_reached reply history ≡ true
    → is_chosen reply history ≡ (own && nat_lt 1 (length moves))
chosen_at reply history own moves turn is reached =
    ap (λ (b : Bool). has_choice reply history && b) reached
    ∙ and-last (has_choice reply history)
    ∙ ap (λ (b : Bool). b && nat_lt 1 (length (reply.moves history))) turn
    ∙ ap (λ (l : List ClassMove). own && nat_lt 1 (length l)) is

-- what is found from the moves of a turn on
abbrev Onward : ℕ → Reply → ClassHistory → Type 0
Onward more reply history =
    (move : ClassMove) → Contains (reply.moves history) move → follows reply [] (history ++ move ∷ []) ≡ true
    → choices_from more reply (history ++ move ∷ []) ≡ walked more reply (history ++ move ∷ [])

module _ (Fits : ClassHistory → Type 0) (reply : Reply) (steady : IsSteady Fits reply) where
  -- ---- what is reached

  unreached_next : (history : ClassHistory) (move : ClassMove) → Fits history → Contains (reply.moves history) move
      → is_reached reply history ≡ false → is_reached reply (history ++ move ∷ []) ≡ false
  unreached_next history move fits found none = elim (and_cases (reply.live history) (follows reply [] history) none) [
    | inl dead ↦
        and_left (reply.live (history ++ move ∷ [])) (follows reply [] (history ++ move ∷ []))
        (false_from_ne_true (reply.live (history ++ move ∷ []))
        (λ live. false≢true (sym dead ∙ steady.begins_live history move fits found live)))
    | inr other ↦
        and_right (reply.live (history ++ move ∷ [])) (follows reply [] (history ++ move ∷ []))
        (follows-push reply history move ∙ and_left (follows reply [] history) (is_its_move reply history move) other)
  ]

  -- from a class history on that is not reached there are none
  none_reached : (more : ℕ) (history : ClassHistory) → Fits history → is_reached reply history ≡ false
      → choices_from more reply history ≡ []
  none_reached zero history fits none =
      choices_of_last reply history (and_right (has_choice reply history) (is_reached reply history) none)
  none_reached (suc more) history fits none =
      choices_of_turn more reply history
      ∙ not_chosen reply history (flat_map (λ move. choices_from more reply (history ++ move ∷ []))
      (reply.moves history)) (and_right (has_choice reply history) (is_reached reply history) none)
      ∙ flat_map_none (λ move. choices_from more reply (history ++ move ∷ [])) (reply.moves history)
      (λ move found. none_reached more (history ++ move ∷ []) (steady.goes_on history move fits found)
      (unreached_next history move fits found none))

  -- ---- walking along it

  turn_walked : (more : ℕ) (history : ClassHistory) (own : Bool) (moves : List ClassMove) → Fits history
      → length history + suc more ≡ MOST_MOVES → is_reached reply history ≡ true → follows reply [] history ≡ true
      → reply.replies history ≡ own → reply.moves history ≡ moves → Onward more reply history
      → chosen_here (is_chosen reply history) reply history
      ++ flat_map (λ move. choices_from more reply (history ++ move ∷ [])) (reply.moves history)
      ≡ walked_turn reply (walked more reply) history (reply.moves history)
  turn_walked more history own [] fits left reached along turn is onward =
      not_chosen reply history (flat_map (λ move. choices_from more reply (history ++ move ∷ [])) (reply.moves history))
      (chosen_at reply history own [] turn is reached ∙ and_right own false refl)
      ∙ ap (flat_map (λ move. choices_from more reply (history ++ move ∷ []))) is
      ∙ ap (walked_turn reply (walked more reply) history) (sym is)
  turn_walked more history false (first ∷ moves) fits left reached along turn is onward =
      not_chosen reply history (flat_map (λ move. choices_from more reply (history ++ move ∷ [])) (reply.moves history))
      (chosen_at reply history false (first ∷ moves) turn is reached)
      ∙ flat_map_same (λ move. choices_from more reply (history ++ move ∷ []))
      (λ move. walked more reply (history ++ move ∷ [])) (reply.moves history)
      (λ move found. onward move found
      (follows-push reply history move
      ∙ ap (λ (b : Bool). b && is_its_move reply history move) along
      ∙ ap (λ (b : Bool). if b then same_class_move (reply_move reply history) move else true) turn))
      ∙ ap (flat_map (λ move. walked more reply (history ++ move ∷ []))) is
      ∙ sym (ap (λ (b : Bool). if b then choice_at (length (first ∷ moves)) history (reply_move reply history)
      ++ walked more reply (history ++ reply_move reply history ∷ [])
      else flat_map (λ move. walked more reply (history ++ move ∷ [])) (first ∷ moves)) turn)
      ∙ ap (walked_turn reply (walked more reply) history) (sym is)
  turn_walked more history true (first ∷ moves) fits left reached along turn is onward =
      let mv : ClassMove = reply_move reply history in
      let found : Contains (reply.moves history) mv =
      reply_move_found reply history steady.picks (omega (arith, left))
      (record { first = first; more = moves; parts = is }) turn in
      let onto : (move : ClassMove) → follows reply [] (history ++ move ∷ []) ≡ same_class_move mv move =
      λ move. follows-push reply history move
      ∙ ap (λ (b : Bool). b && is_its_move reply history move) along
      ∙ ap (λ (b : Bool). if b then same_class_move mv move else true) turn in
      ap (λ (b : Bool). chosen_here b reply history
      ++ flat_map (λ move. choices_from more reply (history ++ move ∷ [])) (reply.moves history))
      (chosen_at reply history true (first ∷ moves) turn is reached)
      ∙ ap (λ (l : List ChosenMove). choice_at (length (first ∷ moves)) history mv ++ l)
      (flat_map_one (λ move. choices_from more reply (history ++ move ∷ [])) (reply.moves history) mv
      (steady.once history) found
      (λ move there apart. none_reached more (history ++ move ∷ []) (steady.goes_on history move fits there)
      (and_right (reply.live (history ++ move ∷ [])) (follows reply [] (history ++ move ∷ []))
      (onto move ∙ false_from_ne_true (same_class_move mv move) (λ same. apart (same_move_is mv move same)))))
      ∙ onward mv found (onto mv ∙ same_move-itself mv))
      ∙ sym (ap (λ (b : Bool). if b then choice_at (length (first ∷ moves)) history mv
      ++ walked more reply (history ++ mv ∷ [])
      else flat_map (λ move. walked more reply (history ++ move ∷ [])) (first ∷ moves)) turn)
      ∙ ap (walked_turn reply (walked more reply) history) (sym is)

  -- from a class history on that follows the reply the choices are those found walking along it
  choices_walked_from : (more : ℕ) (history : ClassHistory) → Fits history → length history + more ≡ MOST_MOVES
      → follows reply [] history ≡ true → choices_from more reply history ≡ walked more reply history
  choices_walked_from zero history fits left along =
      choices_of_last reply history
      (and_left (has_choice reply history) (is_reached reply history)
      (and_right (reply.replies history) (nat_lt 1 (length (reply.moves history)))
      (ap (λ (l : List ClassMove). nat_lt 1 (length l)) (steady.ends history fits (omega (arith, left))))))
      ∙ sym (walked_last reply history)
  choices_walked_from (suc more) history fits left along = elim (cases_Bool (reply.live history)) [
    | inl live ↦
        choices_of_turn more reply history
        ∙ turn_walked more history (reply.replies history) (reply.moves history) fits left
        (ap (λ (b : Bool). b && follows reply [] history) live ∙ along) along refl refl
        (λ move found onto. choices_walked_from more (history ++ move ∷ []) (steady.goes_on history move fits found)
        (omega (arith, left, length-append history (move ∷ []))) onto)
        ∙ sym (walked_on reply more history (reply.moves history) live refl)
    | inr dead ↦
        none_reached (suc more) history fits (and_left (reply.live history) (follows reply [] history) dead)
        ∙ sym (walked_none reply (suc more) history dead)
  ]

  -- the choices of a steady reply, each with its move, are those that one finds walking along it
  pub choices_walked : map (choice_of reply) (choices reply) ≡ walked MOST_MOVES reply []
  unfolding choices follows
  choices_walked = choices_walked_from MOST_MOVES [] steady.starts (omega arith) refl
