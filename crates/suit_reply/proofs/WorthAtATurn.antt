-- summed_turn, best_turn: what a reply comes to at a turn is gathered from what it comes to with each move.
pub mod SumOrBest
use Rattle.std.proofs.Common.{◌≡◌, ℕ, suc, ◌-◌, Bool, true, false, not, List, [], ◌∷◌, ◌++◌, length, map, sym, ap, ◌∙◌}
use Rattle.std.proofs.Common.{arith}
use Rattle.std.specs.Prelude.{filter, if◌then◌else◌, ℤ}
use Rattle.std.specs.List.{flat_map}
use Rattle.std.specs.Ordering.{int_eq}
use Rattle.std.proofs.lemmas.List.{length-append}
use Rattle.std.proofs.lemmas.List.Elements.{filter_agree}
use Rattle.suit_classes.specs.declared.class_moves.ClassMove.{ClassMove}
use Rattle.suit_classes.specs.ClassMoves.{ClassHistory}
use Rattle.suit_plans.specs.BestReplies.{Reply, best_of, first_of, reply_move, worth, worth_at, worth_within}
use Rattle.suit_plans.specs.Properness.{sum_of}
use Rattle.suit_reply.specs.declared.turn_rule.TurnRule.TheVariants.{Sum}
use Rattle.suit_reply.specs.declared.chosen_move.ChosenMove.{ChosenMove}
use Rattle.suit_reply.specs.NodeReplies.{NodeReplyView}
use Rattle.suit_reply.specs.Turns.{gathered}
use Rattle.suit_reply.proofs.WorthAtATurn.SumOrBest.{best_found, first_worth, found_with, results_of, same_found}
use Rattle.suit_reply.proofs.WorthAtATurn.SumOrBest.{sum_gathered}
use Rattle.suit_reply.proofs.ChoicesAlongAReply.WalkOfAReply.{choice_at, walked, walked_turn}
use Rattle.suit_game.specs.declared.limits.TheConstants.{MOST_MOVES}

-- what the reply comes to from a class history on
abbrev pub found_from : ℕ → Reply → ClassHistory → NodeReplyView
found_from more reply history = found_with (worth_within more reply history) (walked more reply history)

-- and what it comes to with each move
abbrev pub found_next : ℕ → Reply → ClassHistory → ClassMove → NodeReplyView
found_next more reply history move = found_from more reply (history ++ move ∷ [])

module _ (reply : Reply) (more : ℕ) (history : ClassHistory) where
  -- what a turn with these moves is worth
  pub worth_on : (moves : List ClassMove) → reply.moves history ≡ moves
      → worth_within (suc more) reply history
      ≡ worth_at reply history (map (λ move. worth_within more reply (history ++ move ∷ [])) moves)
  unfolding worth_within
  worth_on moves is =
      ap (λ (l : List ClassMove). worth_at reply history
      (map (λ move. worth_within more reply (history ++ move ∷ [])) l)) is

  -- the choices from it on, where some mass comes to it
  pub walked_on : (moves : List ClassMove) → reply.live history ≡ true → reply.moves history ≡ moves
      → walked (suc more) reply history ≡ walked_turn reply (walked more reply) history moves
  unfolding walked
  walked_on moves live is =
      ap (λ (b : Bool). if not b then [] else walked_turn reply (walked more reply) history (reply.moves history)) live
      ∙ ap (walked_turn reply (walked more reply) history) is

  -- at a turn of the other side it comes to the sum
  pub summed_turn : (move : ClassMove) (moves : List ClassMove) → reply.live history ≡ true
      → reply.moves history ≡ move ∷ moves → reply.replies history ≡ false
      → found_from (suc more) reply history
      ≡ (gathered Sum (results_of (found_next more reply history) (move ∷ moves))).found
  summed_turn move moves live is other =
      let worths : List ℤ = map (λ next. worth_within more reply (history ++ next ∷ [])) (move ∷ moves) in
      let rest : List ChosenMove = flat_map (λ next. walked more reply (history ++ next ∷ [])) (move ∷ moves) in
      same_found (worth_within (suc more) reply history) (sum_of worths) (walked (suc more) reply history) rest
      (worth_on (move ∷ moves) is ∙ ap (λ (b : Bool). if b then best_of reply.best worths else sum_of worths) other)
      (walked_on (move ∷ moves) live is
      ∙ ap (λ (b : Bool). if b then choice_at (length (move ∷ moves)) history (reply_move reply history)
      ++ walked more reply (history ++ reply_move reply history ∷ []) else rest) other)
      ∙ sym (sum_gathered (found_next more reply history) (move ∷ moves))

  -- the move of the reply is the first that is worth as much as the best
  reply_move_is : (moves : List ClassMove) (value : ℤ) → reply.moves history ≡ moves → suc more ≡ MOST_MOVES - length history
      → worth_within (suc more) reply history ≡ value
      → reply_move reply history ≡ first_worth (found_next more reply history) value moves
  unfolding reply_move
  reply_move_is moves value is left same =
      let here : worth reply history ≡ value = ap (λ (n : ℕ). worth_within n reply history) (sym left) ∙ same in
      let there : (move : ClassMove) → worth reply (history ++ move ∷ [])
      ≡ worth_within more reply (history ++ move ∷ []) =
      λ move.
      let next : MOST_MOVES - length (history ++ move ∷ []) ≡ more = omega (arith, left, length-append history (move ∷ [])) in
      ap (λ (n : ℕ). worth_within n reply (history ++ move ∷ [])) next in
      ap (λ (l : List ClassMove). first_of
      (filter (λ move. int_eq (worth reply (history ++ move ∷ [])) (worth reply history)) l)) is
      ∙ ap (λ (w : ℤ). first_of (filter (λ move. int_eq (worth reply (history ++ move ∷ [])) w) moves)) here
      ∙ ap first_of
      (filter_agree (λ move. int_eq (worth reply (history ++ move ∷ [])) value)
      (λ move. int_eq (worth_within more reply (history ++ move ∷ [])) value)
      (λ move. ap (λ (w : ℤ). int_eq w value) (there move)) moves)

  -- and at one of its own to the best
  pub best_turn : (move : ClassMove) (moves : List ClassMove) → reply.live history ≡ true
      → reply.moves history ≡ move ∷ moves → reply.replies history ≡ true → suc more ≡ MOST_MOVES - length history
      → found_from (suc more) reply history
      ≡ best_found reply.best history (found_next more reply history) (move ∷ moves)
  best_turn move moves live is own left =
      let worths : List ℤ = map (λ next. worth_within more reply (history ++ next ∷ [])) (move ∷ moves) in
      let value : ℤ = best_of reply.best worths in
      let mv : ClassMove = first_worth (found_next more reply history) value (move ∷ moves) in
      let count : ℕ = length (move ∷ moves) in
      let rest : List ChosenMove = flat_map (λ next. walked more reply (history ++ next ∷ [])) (move ∷ moves) in
      let is_worth : worth_within (suc more) reply history ≡ value =
      worth_on (move ∷ moves) is ∙ ap (λ (b : Bool). if b then value else sum_of worths) own in
      same_found (worth_within (suc more) reply history) value (walked (suc more) reply history)
      (choice_at count history mv ++ walked more reply (history ++ mv ∷ []))
      is_worth
      (walked_on (move ∷ moves) live is
      ∙ ap (λ (b : Bool). if b then choice_at count history (reply_move reply history)
      ++ walked more reply (history ++ reply_move reply history ∷ []) else rest) own
      ∙ ap (λ (m : ClassMove). choice_at count history m ++ walked more reply (history ++ m ∷ []))
      (reply_move_is (move ∷ moves) value is left is_worth))
