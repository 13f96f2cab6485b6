-- Where a support has all moves of the best reply to a plan, each choice that is reached against it has the move of the
-- reply (`reply_supported`).
use Rattle.std.proofs.Common.{◌≡◌, ℕ, zero, suc, ◌≤◌, Bool, true, false, List, [], ◌∷◌, ◌++◌, length, get_or, refl}
use Rattle.std.proofs.Common.{sym, ap, ◌∙◌, subst, append_assoc, append-nil, arith}
use Rattle.std.specs.Prelude.{Contains, ◌&&◌, if◌then◌else◌, pos, int_lt}
use Rattle.std.specs.List.{flat_map, range_with_len}
use Rattle.std.proofs.lemmas.Bool.{and_parts}
use Rattle.suit_lists.proofs.Elements.{Contains-first, Contains-later}
use Rattle.suit_lists.proofs.Filters.{Contains-filter}
use Rattle.suit_lists.proofs.FlatMaps.{Contains-flat_map}
use Rattle.suit_lists.proofs.Indices.{index_of}
use Rattle.suit_lists.proofs.Maps.{Contains-map}
use Rattle.suit_lists.proofs.Tests.{none_fails}
use Rattle.suit_lists.proofs.Walks.{Contains-range}
use Rattle.suit_cards.specs.Cards.{ClassLayout}
use Rattle.suit_game.specs.declared.question.Question.{Question}
use Rattle.suit_game.specs.Validity.{IsValid}
use Rattle.suit_game.specs.declared.limits.TheConstants.{MOST_MOVES}
use Rattle.suit_classes.specs.declared.class_moves.ClassMove.{ClassMove}
use Rattle.suit_classes.specs.WhatIsAllowed.{is_among}
use Rattle.suit_classes.specs.ClassMoves.{ClassHistory, same_class_move}
use Rattle.suit_classes.proofs.DecidedStaysDecided.{class_histories_are_short}
use Rattle.suit_classes.proofs.SameMoves.{among-Contains}
use Rattle.suit_plans.specs.declared.moves.DefenceMove.{DefenceMove}
use Rattle.suit_plans.specs.declared.plan.Plan.{Plan}
use Rattle.suit_plans.specs.BestReplies.{Reply, choices, follows, has_choice, histories_within}
use Rattle.suit_plans.specs.BestReplies.{is_reached as reply_reaches}
use Rattle.suit_plans.specs.BestReplies.{least_reply, least_reply_in, reply_move, reply_to_plan}
use Rattle.suit_plans.specs.Masses.{plan_mass}
use Rattle.suit_plans.specs.ReplyLaws.{counts_at}
use Rattle.suit_program.specs.Supports.{Support, are_new, defence_chooses, goes_supported, is_reached, layouts_of}
use Rattle.suit_program.specs.Supports.{supported_moves}
use Rattle.suit_program.proofs.lemmas.Supports.WhatIsReached.{reached_allows, reached_next, reached_none}
use Rattle.suit_program.proofs.lemmas.Supports.TurnCases.{supported_legal}

-- ---- a reply goes on

and_swap : (a b c : Bool) → (a && (b && c)) ≡ ((a && b) && c)
and_swap true b c = refl
and_swap false b c = refl

and_all : (b : Bool) → (b && true) ≡ b
and_all true = refl
and_all false = refl

follows-push : (reply : Reply) (history moves : ClassHistory) (move : ClassMove)
    → follows reply history (moves ++ move ∷ [])
    ≡ (follows reply history moves && (if reply.replies (history ++ moves)
    then same_class_move (reply_move reply (history ++ moves)) move else true))
unfolding follows
follows-push reply history [] move =
    and_all (if reply.replies history then same_class_move (reply_move reply history) move else true)
    ∙ ap (λ (h : ClassHistory). if reply.replies h then same_class_move (reply_move reply h) move else true)
    (sym (append-nil history))
follows-push reply history (first ∷ moves) move =
    let here : Bool = if reply.replies history then same_class_move (reply_move reply history) first else true in
    ap (λ (b : Bool). here && b) (follows-push reply (history ++ first ∷ []) moves move)
    ∙ and_swap here (follows reply (history ++ first ∷ []) moves)
    (if reply.replies ((history ++ first ∷ []) ++ moves)
    then same_class_move (reply_move reply ((history ++ first ∷ []) ++ moves)) move else true)
    ∙ ap (λ (h : ClassHistory). (here && follows reply (history ++ first ∷ []) moves)
    && (if reply.replies h then same_class_move (reply_move reply h) move else true))
    (append_assoc history (first ∷ []) moves)

pub both_true : (a b : Bool) → a ≡ true → b ≡ true → (a && b) ≡ true
both_true true b one other = other
both_true false b one other = one

-- a reply is followed with its move at its turns, and with any move at others
pub follows_next : (reply : Reply) (history : ClassHistory) (move : ClassMove) → follows reply [] history ≡ true
    → (reply.replies history ≡ true → same_class_move (reply_move reply history) move ≡ true)
    → follows reply [] (history ++ move ∷ []) ≡ true
follows_next reply history move goes same =
    follows-push reply [] history move
    ∙ both_true (follows reply [] history) (if reply.replies history
    then same_class_move (reply_move reply history) move else true) goes (at (reply.replies history) refl)
  where
    at : (b : Bool) → reply.replies history ≡ b
        → (if b then same_class_move (reply_move reply history) move else true) ≡ true
    at true own = same own
    at false other = refl

-- ---- where it is listed

-- what goes on with the moves of a reply is among its class histories
pub goes_within : (question : Question) (support : Support) (west : ClassLayout) (reply : Reply)
    → ((history : ClassHistory) (move : ClassMove) → is_reached question support west history ≡ true
    → Contains (supported_moves question support west history) move
    → Contains (reply.moves history) move)
    → (more : ℕ) (history moves : ClassHistory) → length moves ≤ more
    → is_reached question support west history ≡ true
    → goes_supported question support west history moves ≡ true
    → Contains (histories_within more reply history) (history ++ moves)
unfolding histories_within goes_supported
goes_within question support west reply held zero history [] within reached goes =
    subst (Contains (history ∷ [])) (sym (append-nil history)) (Contains-first history [])
goes_within question support west reply held (suc more) history [] within reached goes =
    subst (Contains (histories_within (suc more) reply history)) (sym (append-nil history))
    (Contains-first history (flat_map (λ move. histories_within more reply (history ++ move ∷ []))
    (reply.moves history)))
goes_within question support west reply held zero history (move ∷ moves) within reached goes =
    absurd (omega (arith, within))
goes_within question support west reply held (suc more) history (move ∷ moves) within reached goes =
    let parts = and_parts (is_among (supported_moves question support west history) move)
    (goes_supported question support west (history ++ move ∷ []) moves) goes in
    let found = among-Contains (supported_moves question support west history) move parts.0 in
    let next : ClassMove → List ClassHistory = λ other. histories_within more reply (history ++ other ∷ []) in
    Contains-later history (flat_map next (reply.moves history)) (history ++ move ∷ moves)
    (Contains-flat_map next (reply.moves history) move (history ++ move ∷ moves) (held history move reached found)
    (subst (Contains (next move)) (append_assoc history (move ∷ []) moves)
    (goes_within question support west reply held more (history ++ move ∷ []) moves (omega (arith, within))
    (reached_next question support west history move reached found) parts.1)))

module _ (question : Question) (support : Support) (plan : Plan) (valid : IsValid question)
    (all : are_new question support [] (least_reply question plan) ≡ false) where
  -- the moves of the reply's list are in the support
  named : (entry : DefenceMove) → Contains (least_reply question plan) entry
      → is_among (supported_moves question support (counts_at question entry.layout) entry.history) entry.mv ≡ true
  unfolding are_new
  named entry found =
      none_fails (λ (other : DefenceMove). is_among
      (supported_moves question support (counts_at question other.layout) other.history) other.mv)
      (least_reply question plan) entry all found

  -- so the move of the reply is at each choice that is reached
  pub reply_supported : (layout : ClassLayout × ℕ) → Contains (layouts_of question) layout → (history : ClassHistory)
      → is_reached question support layout.0 history ≡ true
      → defence_chooses question layout.0 history ≡ true
      → follows (reply_to_plan question plan layout.0) [] history ≡ true
      → int_lt (pos 0) (plan_mass question plan history) ≡ true
      → is_among (supported_moves question support layout.0 history)
      (reply_move (reply_to_plan question plan layout.0) history) ≡ true
  unfolding least_reply is_reached choices defence_chooses
  reply_supported layout listed history reached chooses goes live =
      let layouts : List (ClassLayout × ℕ) = layouts_of question in
      let reply : Reply = reply_to_plan question plan layout.0 in
      let short : length history ≤ MOST_MOVES = class_histories_are_short question layout.0 history
      (reached_allows question support valid layout listed history reached) in
      let at = index_of layouts layout ([], 0) listed in
      let below = at.1 in
      let chosen : Contains (choices reply) history =
      Contains-filter (λ other. has_choice reply other && reply_reaches reply other)
      (histories_within MOST_MOVES reply [])
      history
      (goes_within question support layout.0 reply
      (λ other move there found. supported_legal question support layout.0 other move found) MOST_MOVES [] history short
      (reached_none question support layout.0) reached)
      (both_true (has_choice reply history) (reply_reaches reply history) chooses
      (both_true (reply.live history) (follows reply [] history) live goes)) in
      let entry : DefenceMove = record { layout = at.0; history = history; mv = reply_move reply history } in
      let inside : Contains (least_reply_in question plan layout.0 at.0) entry =
      Contains-map (λ (other : ClassHistory). record { layout = at.0; history = other; mv = reply_move reply other })
      (choices reply) history chosen in
      let found : Contains (least_reply question plan) entry =
      Contains-flat_map (λ index. least_reply_in question plan (get_or layouts index ([], 0)).0 index)
      (range_with_len 0 (length layouts)) at.0 entry
      (Contains-range 0 (length layouts) at.0 (omega arith) (omega (arith, below)))
      (subst (λ (other : ClassLayout × ℕ). Contains (least_reply_in question plan other.0 at.0) entry)
      (sym at.2) inside) in
      subst (λ (other : ClassLayout × ℕ). is_among (supported_moves question support other.0 history)
      (reply_move reply history) ≡ true) at.2 (named entry found)
