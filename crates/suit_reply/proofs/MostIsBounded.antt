-- most_paid: what the best reply to a defence is worth lies between nothing and thirteen tricks of the masses.
use Rattle.std.proofs.Common.{◌≡◌, ℕ, suc, ◌≤◌, Bool, true, false, List, [], ◌∷◌, ◌++◌, map, take, refl, sym, ap}
use Rattle.std.proofs.Common.{◌∙◌, subst, arith}
use Rattle.std.specs.Prelude.{Contains, length, if◌then◌else◌, ℤ, pos, ◌*ℤ◌, ◌≤ℤ◌, int_lt}
use Rattle.std.proofs.lemmas.Int.{ints}
use Rattle.std.proofs.lemmas.List.Elements.{All-contains, filter_agree, filter_passes}
use Rattle.std.proofs.lemmas.Bool.{lt-ltb}
use Rattle.std.proofs.lemmas.Simd.{map-map}
use Rattle.suit_lists.proofs.Elements.{Contains-nil, Contains-same}
use Rattle.suit_lists.proofs.Maps.{map_same}
use Rattle.suit_cards.specs.Cards.{ClassLayout, Indices}
use Rattle.suit_game.specs.declared.question.Question.{Question}
use Rattle.suit_classes.specs.declared.class_moves.ClassMove.{ClassMove}
use Rattle.suit_classes.specs.WhatIsAllowed.{is_among}
use Rattle.suit_classes.specs.ClassPlaces.{class_after, class_decided, class_payoff}
use Rattle.suit_classes.specs.ClassMoves.{ClassHistory}
use Rattle.suit_plans.specs.BestReplies.{Reply, reply_to_defence, worth, worth_within}
use Rattle.suit_plans.specs.Masses.{defence_mass}
use Rattle.suit_plans.specs.Properness.{some_allows, sum_of}
use Rattle.suit_plans.specs.ReplyLaws.{IsPaid, masses_of}
use Rattle.suit_plans.proofs.DefenceWorths.{defences_paid}
use Rattle.suit_plans.proofs.NumberSums.{first_sums, sum_kept, sums_exchanged}
use Rattle.suit_plans.proofs.AtMostThirteenTricks.{paid_most, product_paid, sum_paid}
use Rattle.suit_plans.specs.declared.defence.Defence.{Defence}
use Rattle.suit_plans.proofs.SharesAddUpToTheMass.{within_sum}
use Rattle.suit_tree.specs.declared.node.Node.{Node}
use Rattle.suit_tree.specs.Nodes.{payoff_at}
use Rattle.suit_tree.specs.Trees.{StandsAt, allowing, moves_on}
use Rattle.suit_reply.specs.AgainstDefence.{LayoutMasses, is_live}
use Rattle.suit_reply.specs.LayoutsReplies.{layout_at}
use Rattle.suit_reply.proofs.MostByNodes.WhichLayoutsAllow.{allowing_at, mass_at, some_allows_at}
use Rattle.suit_reply.proofs.OneMoreAdded.{le_through}
use Rattle.suit_plans.proofs.WhoseTurns.{Declarers, Defences, Over, WhoseTurn, whose_turn}
use Rattle.suit_tree.proofs.ClassMovesLeadToNodes.{held_is, held_moves}
use Rattle.suit_tree.specs.Nodes.{is_held}
use Rattle.suit_reply.proofs.OwnMovesGoOn.{IsDefencesTurn, IsGoing, layout_counts, layout_moves}
use Rattle.suit_reply.proofs.MostByNodes.LiveMasses.{held_at, live_total}
use Rattle.suit_reply.proofs.MostByNodes.MassesWithAMoveMore.{going_with, goes_with, masses_stay}
use Rattle.suit_reply.proofs.MostByNodes.Cases.{MostCase, masses_at, most_next, none_left}
use Rattle.suit_reply.proofs.MostByNodes.Cases.{index_allows, index_positive, index_realised, some_index}
use Rattle.suit_game.specs.declared.limits.TheConstants.{HAND_SIZE}

-- the mass that the defence lets through to a class history in all class layouts
abbrev pub mass_sum : Question → Defence → ClassHistory → ℤ
mass_sum question defence history = sum_of (map (λ held. held.1) (masses_at question defence history))

-- the same over all class layouts that allow the history
abbrev mass_all : Question → Defence → ClassHistory → ℤ
mass_all question defence history = sum_of (map (mass_at question defence history) (allowing question history))

-- what the moves of a turn are worth
abbrev most_next_worth : ℕ → Question → Defence → ClassHistory → ClassMove → ℤ
most_next_worth more question defence history move =
    worth_within more (reply_to_defence question defence) (history ++ move ∷ [])

-- each lies within its bounds
abbrev ArePaid : ℕ → Question → Defence → ClassHistory → Type 0
ArePaid more question defence history = (move : ClassMove) → Contains (moves_on question history) move
    → IsPaid (mass_sum question defence (history ++ move ∷ [])) (most_next_worth more question defence history move)

within_bounds : (a b mass : ℤ) → pos 0 ≤ℤ a → a ≤ℤ b → b ≤ℤ (pos HAND_SIZE *ℤ mass) → IsPaid mass a
within_bounds a b mass positive first last =
    record { some = positive; few = le_through a b (pos HAND_SIZE *ℤ mass) first last }

module _ (question : Question) (defence : Defence) where
  -- it is that over all class layouts that allow the history
  pub sum_all : (more : ℕ) (history : ClassHistory) → MostCase more question defence history
      → mass_sum question defence history ≡ sum_of (map (mass_at question defence history) (allowing question history))
  sum_all more history is =
      live_total (λ mass. mass) (mass_at question defence history) (allowing question history) refl
      (λ index found. index_positive question defence more history index is found)

  -- and is not negative
  pub sum_positive : (more : ℕ) (history : ClassHistory) → MostCase more question defence history
      → pos 0 ≤ℤ mass_sum question defence history
  sum_positive more history is =
      subst (λ (z : ℤ). pos 0 ≤ℤ z) (sym (sum_all more history is))
      (first_sums (mass_at question defence history) (allowing question history) 0
      (λ index found. index_positive question defence more history index is found)).2

  -- ---- at a turn of the defence

  goes_index : (history : ClassHistory) (move : ClassMove) → mass_all question defence (history ++ move ∷ [])
      ≡ sum_of (map (λ index. if goes_with question history move index
      then mass_at question defence (history ++ move ∷ []) index else pos 0) (allowing question history))
  goes_index history move =
      ap (λ (l : Indices). sum_of (map (mass_at question defence (history ++ move ∷ [])) l))
      (sym (going_with question history move))
      ∙ sum_kept (goes_with question history move) (mass_at question defence (history ++ move ∷ []))
      (allowing question history)

  index_shares : (more : ℕ) (history : ClassHistory) (index : ℕ) → MostCase more question defence history
      → IsGoing question history → IsDefencesTurn question history → Contains (allowing question history) index
      → sum_of (map (λ move. if goes_with question history move index
      then mass_at question defence (history ++ move ∷ []) index else pos 0) (moves_on question history))
      ≡ mass_at question defence history index
  unfolding defence_mass
  index_shares more history index is going theirs found =
      let moves : List ClassMove = layout_moves question index history in
      let next : ClassMove → ℤ = λ move. mass_at question defence (history ++ move ∷ []) index in
      sym (sum_kept (is_among moves) next (moves_on question history))
      ∙ ap (λ (l : List ClassMove). sum_of (map next l))
      (sym (filter_agree (λ move. is_held index (allowing question (history ++ move ∷ []))) (is_among moves)
      (λ move. held_is question history move index is.valid found) (moves_on question history))
      ∙ held_moves question history index is.valid found going)
      ∙ (index_realised question defence more history index is found).shared history
      (index_allows question history index is.valid found) theirs

  -- the moves share out the masses
  pub sums_shared : (more : ℕ) (history : ClassHistory) → MostCase (suc more) question defence history
      → IsGoing question history → IsDefencesTurn question history
      → sum_of (map (λ move. mass_sum question defence (history ++ move ∷ [])) (moves_on question history))
      ≡ mass_sum question defence history
  sums_shared more history is going theirs =
      let indices : Indices = allowing question history in
      let moves : List ClassMove = moves_on question history in
      let term : ClassMove → ℕ → ℤ =
      λ move index. if goes_with question history move index then mass_at question defence (history ++ move ∷ []) index
      else pos 0 in
      ap sum_of
      (map_same (λ move. mass_sum question defence (history ++ move ∷ [])) (λ move. sum_of (map (term move) indices))
      moves
      (λ move found. sum_all more (history ++ move ∷ []) (most_next question defence more history move is found)
      ∙ goes_index history move))
      ∙ sums_exchanged term moves indices
      ∙ ap sum_of
      (map_same (λ index. sum_of (map (λ move. term move index) moves)) (mass_at question defence history) indices
      (λ index found. index_shares (suc more) history index is going theirs found))
      ∙ sym (sum_all (suc more) history is)

  -- no move raises the sum of the masses
  pub sum_falls : (more : ℕ) (history : ClassHistory) (move : ClassMove) → MostCase (suc more) question defence history
      → Contains (moves_on question history) move
      → mass_sum question defence (history ++ move ∷ []) ≤ℤ mass_sum question defence history
  sum_falls more history move is found = at (whose_turn (class_after question history))
    where
      alike : (a b : ℤ) → a ≡ b → a ≤ℤ b
      alike a b same = omega (arith, ints, same)

      at : WhoseTurn (class_after question history)
          → mass_sum question defence (history ++ move ∷ []) ≤ℤ mass_sum question defence history
      at (Over decided turn) =
          absurd (Contains-nil move (Contains-same move
          (none_left question history decided) found))
      at (Declarers going own not_theirs) =
          alike (mass_sum question defence (history ++ move ∷ [])) (mass_sum question defence history)
          (ap (λ (l : LayoutMasses). sum_of (map (λ held. held.1) l))
          (masses_stay question defence history move is.valid own not_theirs found))
      at (Defences going not_own theirs) =
          subst (λ (z : ℤ). mass_sum question defence (history ++ move ∷ []) ≤ℤ z)
          (sums_shared more history is going theirs)
          (within_sum (λ other. mass_sum question defence (history ++ other ∷ [])) (moves_on question history) move
          (λ other there. sum_positive more (history ++ other ∷ [])
          (most_next question defence more history other is there)) found)

  -- ---- what a history is worth

  shared_paid : (more : ℕ) (history : ClassHistory) → MostCase (suc more) question defence history
      → ArePaid more question defence history → IsGoing question history → IsDefencesTurn question history
      → IsPaid (mass_sum question defence history)
      (sum_of (map (most_next_worth more question defence history) (moves_on question history)))
  shared_paid more history is paid going theirs =
      subst (λ (mass : ℤ). IsPaid mass
      (sum_of (map (most_next_worth more question defence history) (moves_on question history))))
      (sums_shared more history is going theirs)
      (sum_paid (most_next_worth more question defence history)
      (λ move. mass_sum question defence (history ++ move ∷ [])) (moves_on question history) paid)

  -- what the best reply to a defence is worth from a class history on is not negative, and at most thirteen tricks of
  -- the masses that come to it
  pub most_paid : (more : ℕ) (history : ClassHistory) → MostCase more question defence history
      → IsPaid (mass_sum question defence history) (worth_within more (reply_to_defence question defence) history)
  most_paid more history is =
      let reply : Reply = reply_to_defence question defence in
      let mass : ClassLayout × ℕ → ℤ = λ layout. defence_mass question defence layout.0 history in
      let indices : Indices = allowing question history in
      let masses : sum_of (masses_of question defence history) ≡ mass_sum question defence history =
      ap (λ (l : List (ClassLayout × ℕ)). sum_of (map mass l)) (allowing_at question history)
      ∙ ap sum_of (map-map mass (layout_at question) indices) ∙ sym (sum_all more history is) in
      let some : some_allows question history ≡ true =
      some_allows_at question history ∙ lt-ltb 0 (length indices) is.some in
      subst (λ (n : ℕ). IsPaid (mass_sum question defence history) (worth_within n reply history)) (sym is.left)
      (subst (λ (z : ℤ). IsPaid z (worth reply history)) masses
      (defences_paid question defence history is.valid is.proper some))

  -- ---- sums on the way

  -- nor does the sum over the first moves of a turn of the defence leave these bounds
  pub most_sums_paid : (more : ℕ) (history : ClassHistory) (i : ℕ) → MostCase (suc more) question defence history
      → IsGoing question history → IsDefencesTurn question history
      → IsPaid (mass_sum question defence history)
      (sum_of (take i (map (λ move. worth_within more (reply_to_defence question defence) (history ++ move ∷ []))
      (moves_on question history))))
  most_sums_paid more history i is going theirs =
      let moves : List ClassMove = moves_on question history in
      let worths : ClassMove → ℤ = most_next_worth more question defence history in
      let paid : ArePaid more question defence history =
      λ move found. most_paid more (history ++ move ∷ []) (most_next question defence more history move is found) in
      let whole = shared_paid more history is paid going theirs in
      let first = first_sums worths moves i (λ move found. (paid move found).some) in
      within_bounds (sum_of (take i (map worths moves))) (sum_of (map worths moves)) (mass_sum question defence history)
      first.0 first.1 whole.few

  -- none of these masses is negative
  pub live_positive : (history : ClassHistory) (held : ℕ × ℤ) → Contains (masses_at question defence history) held
      → pos 0 ≤ℤ held.1
  live_positive history held found =
      above held.1 (All-contains (λ (other : ℕ × ℤ). is_live other ≡ true) (masses_at question defence history) held
      (filter_passes is_live (map (held_at (mass_at question defence history)) (allowing question history))) found)
    where
      above : (mass : ℤ) → int_lt (pos 0) mass ≡ true → pos 0 ≤ℤ mass
      above mass is = grind (arith, ints)

  -- a node pays at most thirteen tricks
  pub node_pays : (more : ℕ) (history : ClassHistory) (node : Node) → MostCase more question defence history
      → StandsAt question history node → payoff_at node ≤ HAND_SIZE
  node_pays more history node is stands =
      let at = some_index question defence more history is in
      subst (λ (n : ℕ). n ≤ HAND_SIZE) (sym stands.payoff)
      (one (class_decided (class_after question history)) (class_payoff (class_after question history))
      (paid_most question (layout_counts question at.0) history (index_allows question history at.0 is.valid at.1)))
    where
      one : (b : Bool) (n : ℕ) → n ≤ HAND_SIZE → (if b then n else 0) ≤ HAND_SIZE
      one true n few = few
      one false n few = omega arith

  -- so what it pays for one of the masses lies within these bounds
  pub mass_paid : (more : ℕ) (history : ClassHistory) (node : Node) (held : ℕ × ℤ)
      → MostCase more question defence history → StandsAt question history node
      → Contains (masses_at question defence history) held
      → IsPaid (mass_sum question defence history) (pos (payoff_at node) *ℤ held.1)
  mass_paid more history node held is stands found =
      let masses : LayoutMasses = masses_at question defence history in
      let one =
      product_paid (payoff_at node) held.1 (node_pays more history node is stands) (live_positive history held found) in
      let within : held.1 ≤ℤ mass_sum question defence history =
      within_sum (λ (other : ℕ × ℤ). other.1) masses held (λ other there. live_positive history other there) found in
      within_bounds (pos (payoff_at node) *ℤ held.1) (pos HAND_SIZE *ℤ held.1) (mass_sum question defence history)
      one.some
      one.few (thirteen held.1 (mass_sum question defence history) within)
    where
      thirteen : (a b : ℤ) → a ≤ℤ b → (pos HAND_SIZE *ℤ a) ≤ℤ (pos HAND_SIZE *ℤ b)
      thirteen a b le = omega (arith, ints)

  -- and so do the sums of what it pays for the first of them
  pub node_sums_paid : (more : ℕ) (history : ClassHistory) (node : Node) (i : ℕ)
      → MostCase more question defence history → StandsAt question history node
      → IsPaid (mass_sum question defence history)
      (sum_of (take i (map (λ held. pos (payoff_at node) *ℤ held.1) (masses_at question defence history))))
  node_sums_paid more history node i is stands =
      let masses : LayoutMasses = masses_at question defence history in
      let pays : ℕ × ℤ → ℤ = λ held. pos (payoff_at node) *ℤ held.1 in
      let paid : (held : ℕ × ℤ) → Contains masses held → IsPaid held.1 (pays held) =
      λ held found. product_paid (payoff_at node) held.1 (node_pays more history node is stands)
      (live_positive history held found) in
      let whole = sum_paid pays (λ held. held.1) masses paid in
      let first = first_sums pays masses i (λ held found. (paid held found).some) in
      within_bounds (sum_of (take i (map pays masses))) (sum_of (map pays masses)) (mass_sum question defence history)
      first.0 first.1 whole.few
