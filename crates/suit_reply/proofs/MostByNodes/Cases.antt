-- most_next, most_empty: the class histories that some class layout allows, where declarer replies to a defence.
use Rattle.std.proofs.Common.{◌≡◌, ℕ, zero, suc, ◌-◌, ◌<◌, Bool, true, false, List, [], ◌∷◌, ◌++◌, length, refl, sym}
use Rattle.std.proofs.Common.{ap, ◌∙◌, inl, inr, arith}
use Rattle.std.specs.Prelude.{Contains, filter, get_or, nat_lt, if◌then◌else◌, ℤ, pos, ◌≤ℤ◌}
use Rattle.std.proofs.lemmas.Bool.{cases_Bool, lt-ltb}
use Rattle.std.proofs.lemmas.List.{length-append}
use Rattle.std.proofs.lemmas.List.Elements.{All-contains, All-contains_itself, All-filter, Contains-get_or}
use Rattle.suit_lists.proofs.Elements.{Contains-first, Contains-nil, Contains-same, some_of}
use Rattle.suit_lists.proofs.Maps.{Contains-map_from}
use Rattle.suit_cards.specs.Cards.{ClassLayout, Indices}
use Rattle.suit_game.specs.declared.question.Question.{Question}
use Rattle.suit_game.specs.Validity.{IsValid}
use Rattle.suit_classes.specs.declared.class_moves.ClassMove.{ClassMove}
use Rattle.suit_classes.specs.WhatIsAllowed.{allows, every_move}
use Rattle.suit_classes.specs.ClassGame.{Allows}
use Rattle.suit_classes.specs.ClassPlaces.{class_after, class_moves}
use Rattle.suit_classes.proofs.AllowedMoveByMove.{allowed_moves}
use Rattle.suit_classes.proofs.DecidedStaysDecided.{class_histories_are_short}
use Rattle.suit_classes.specs.ClassMoves.{ClassHistory}
use Rattle.suit_plans.specs.BestReplies.{Reply, reply_to_defence, worth_within}
use Rattle.suit_plans.specs.Masses.{defence_mass, defenders}
use Rattle.suit_plans.specs.PlanLaws.{AreRealised}
use Rattle.suit_plans.specs.Properness.{IsProperDefence}
use Rattle.suit_plans.specs.declared.defence.Defence.{Defence}
use Rattle.suit_plans.proofs.MassBounds.{mass_falls}
use Rattle.suit_classes.proofs.UndecidedHasAMove.{some_move}
use Rattle.suit_tree.specs.Trees.{allowing, counts_at, layout_indices, moves_on}
use Rattle.suit_tree.proofs.OneNodeAtEachPath.{kept_layouts}
use Rattle.suit_tree.proofs.MovesOn.{Contains-moves_on, moves_on-parts}
use Rattle.suit_reply.specs.NodeReplies.{nothing}
use Rattle.suit_reply.proofs.MostByNodes.WhichLayoutsAllow.{allowing_at, live_at, mass_at, reply_goes_on, some_allows_at}
use Rattle.suit_reply.proofs.WorthAtATurn.SumOrBest.{same_found}
use Rattle.suit_tree.proofs.ClassMovesLeadToNodes.{index_goes_on}
use Rattle.suit_reply.proofs.OwnMovesGoOn.{IsDecided, IsGoing, layout_counts, layout_moves, layouts_of}
use Rattle.suit_reply.proofs.MostByNodes.LiveMasses.{any_live, live_masses, none_live, not_above}
use Rattle.suit_reply.proofs.WorthAtATurn.{found_from, walked_on, worth_on}
use Rattle.suit_reply.proofs.ChoicesAlongAReply.WalkOfAReply.{walked, walked_none}
use Rattle.suit_reply.specs.AgainstDefence.{LayoutMasses}
use Rattle.suit_plans.proofs.DefenceWorths.{no_masses_no_worth}
use Rattle.suit_reply.specs.LayoutsReplies.{layout_at}
use Rattle.suit_game.specs.declared.limits.TheConstants.{MOST_MOVES}

-- what a node is asked for: the reply to a defence from a class history on, which some class layout allows
pub record MostCase (more : ℕ) (question : Question) (defence : Defence) (history : ClassHistory) : Type 0 where
  pub valid : IsValid question
  pub proper : IsProperDefence question defence
  pub realised : (index : ℕ) → Contains (layout_indices (layouts_of question)) index
      → AreRealised question (defenders question defence.den defence.rows (layout_counts question index))
      (layout_counts question index)
  pub some : 0 < length (allowing question history)
  pub left : more ≡ MOST_MOVES - length history

-- the masses that the defence lets through to a class history, in the class layouts that allow it
abbrev pub masses_at : Question → Defence → ClassHistory → LayoutMasses
masses_at question defence history = live_masses (mass_at question defence history) (allowing question history)

-- ---- the class layouts that allow a history

-- the index of a class layout that allows a history is one of all
pub index_listed : (question : Question) (history : ClassHistory) (index : ℕ)
    → Contains (allowing question history) index → Contains (layout_indices (layouts_of question)) index
unfolding allowing
index_listed question history index found =
    let indices : Indices = layout_indices (layouts_of question) in
    let may : ℕ → Bool = λ at. allows question (counts_at (layouts_of question) at) history in
    All-contains (Contains indices) (filter may indices) index
    (All-filter may (Contains indices) indices (All-contains_itself indices)) found

-- West's counts there allow the history
pub index_allows : (question : Question) (history : ClassHistory) (index : ℕ) → IsValid question
    → Contains (allowing question history) index → Allows question (layout_counts question index) history
index_allows question history index valid found = ((kept_layouts question history index valid).0 found).1

-- a class layout that allows a history with one move more allows the history, and the move is a class move
pub index_before : (question : Question) (history : ClassHistory) (move : ClassMove) (index : ℕ) → IsValid question
    → Contains (allowing question (history ++ move ∷ [])) index
    → Contains (allowing question history) index × Contains (layout_moves question index history) move
index_before question history move index valid found =
    let there = (kept_layouts question (history ++ move ∷ []) index valid).0 found in
    let parts = (allowed_moves question (layout_counts question index) history move).0 there.1 in
    ((kept_layouts question history index valid).1 (there.0, parts.0), parts.1)

-- and none where a history is decided
pub none_left : (question : Question) (history : ClassHistory) → IsDecided question history
    → moves_on question history ≡ []
unfolding moves_on
none_left question history decided =
    ap (λ (b : Bool). if b then [] else filter (λ move. nat_lt 0 (length (allowing question (history ++ move ∷ []))))
    every_move) decided

module _ (question : Question) (defence : Defence) where
  -- the masses there are those of a realisation plan
  pub index_realised : (more : ℕ) (history : ClassHistory) (index : ℕ) → MostCase more question defence history
      → Contains (allowing question history) index
      → AreRealised question (defenders question defence.den defence.rows (layout_counts question index))
      (layout_counts question index)
  index_realised more history index is found = is.realised index (index_listed question history index found)

  -- so none is negative
  pub index_positive : (more : ℕ) (history : ClassHistory) (index : ℕ) → MostCase more question defence history
      → Contains (allowing question history) index → pos 0 ≤ℤ mass_at question defence history index
  unfolding defence_mass
  index_positive more history index is found =
      (index_realised more history index is found).positive history (index_allows question history index is.valid found)

  -- nor does a class move raise one
  pub index_falls : (more : ℕ) (history : ClassHistory) (move : ClassMove) (index : ℕ)
      → MostCase more question defence history → Contains (allowing question history) index
      → Contains (layout_moves question index history) move
      → mass_at question defence (history ++ move ∷ []) index ≤ℤ mass_at question defence history index
  unfolding defence_mass
  index_falls more history move index is found goes =
      mass_falls question (defenders question defence.den defence.rows (layout_counts question index))
      (layout_counts question index) history move
      (index_realised more history index is found) (index_allows question history index is.valid found) goes

  -- ---- cases

  -- some class layout allows the history
  pub some_index : (more : ℕ) (history : ClassHistory) → MostCase more question defence history
      → (index : ℕ) × Contains (allowing question history) index
  some_index more history is =
      (get_or (allowing question history) 0 0, Contains-get_or (allowing question history) 0 0 is.some)

  -- the history with a move more is such a case, with one move less
  pub most_next : (more : ℕ) (history : ClassHistory) (move : ClassMove) → MostCase (suc more) question defence history
      → Contains (moves_on question history) move → MostCase more question defence (history ++ move ∷ [])
  most_next more history move is found = record {
    valid = is.valid;
    proper = is.proper;
    realised = is.realised;
    some = (moves_on-parts question history move found).1;
    left = omega (arith, is.left, length-append history (move ∷ []));
  }

  -- a history that is not decided goes on with a class move of some class layout
  going_index : (more : ℕ) (history : ClassHistory) → MostCase more question defence history → IsGoing question history
      → (move : ClassMove) × (index : ℕ) × Contains (allowing question (history ++ move ∷ [])) index
  going_index more history is going =
      let at = some_index more history is in
      let index : ℕ = at.0 in
      let counts : ClassLayout = layout_counts question index in
      let first = some_move question counts history (index_allows question history index is.valid at.1) going in
      let found : Contains (class_moves (class_after question history) counts) first.first =
      Contains-same first.first (sym first.parts)
      (Contains-first first.first first.more) in
      (first.first, index, (index_goes_on question history first.first index is.valid at.1).1 found)

  -- so it has a move
  pub some_on : (more : ℕ) (history : ClassHistory) → MostCase more question defence history → IsGoing question history
      → moves_on question history ≡ [] → ⊥
  some_on more history is going none =
      let next = going_index more history is going in
      Contains-nil next.0 (Contains-same next.0 none
      (Contains-moves_on question history next.0 going
      (some_of (allowing question (history ++ next.0 ∷ [])) next.1 next.2)))

  -- and there is room for it
  pub most_last : (history : ClassHistory) → MostCase 0 question defence history → IsGoing question history → ⊥
  most_last history is going =
      let next = going_index 0 history is going in
      let longer : ClassHistory = history ++ next.0 ∷ [] in
      omega (
        arith,
        is.left,
        length-append history (next.0 ∷ []),
        class_histories_are_short question (layout_counts question next.1) longer
            (index_allows question longer next.1 is.valid next.2),
      )

  -- the reply goes on with the moves of the tree
  pub most_moves : (history : ClassHistory) (moves : List ClassMove) → moves_on question history ≡ moves
      → (reply_to_defence question defence).moves history ≡ moves
  most_moves history moves is = reply_goes_on question defence history ∙ is

  -- a decided class history is worth what is earned
  pub most_decided : (more : ℕ) (history : ClassHistory) → IsDecided question history
      → worth_within more (reply_to_defence question defence) history
      ≡ (reply_to_defence question defence).earned history
  unfolding worth_within
  most_decided zero history decided = refl
  most_decided (suc more) history decided =
      worth_on (reply_to_defence question defence) more history []
      (most_moves history [] (none_left question history decided))

  -- and has no choices
  pub most_walked : (more : ℕ) (history : ClassHistory) → IsDecided question history
      → walked more (reply_to_defence question defence) history ≡ []
  unfolding walked
  most_walked zero history decided = refl
  most_walked (suc more) history decided =
      let reply : Reply = reply_to_defence question defence in
      elim (cases_Bool (reply.live history)) [
        | inl live ↦ walked_on reply more history [] live (most_moves history [] (none_left question history decided))
        | inr dead ↦ walked_none reply (suc more) history dead
      ]

  -- ---- where no mass comes

  -- the masses of a history with no mass above 0 are 0
  masses_none : (more : ℕ) (history : ClassHistory) → MostCase more question defence history
      → masses_at question defence history ≡ [] → (index : ℕ) → Contains (allowing question history) index
      → mass_at question defence history index ≡ pos 0
  masses_none more history is none index found =
      not_above (mass_at question defence history index) (index_positive more history index is found)
      (none_live (mass_at question defence history) (allowing question history) none index found)

  most_none : (more : ℕ) (history : ClassHistory) → MostCase more question defence history
      → ((index : ℕ) → Contains (allowing question history) index → mass_at question defence history index ≡ pos 0)
      → worth_within more (reply_to_defence question defence) history ≡ pos 0
  most_none more history is none =
      let indices : Indices = allowing question history in
      ap (λ (n : ℕ). worth_within n (reply_to_defence question defence) history) is.left
      ∙ no_masses_no_worth question defence history is.valid is.proper
      (some_allows_at question history ∙ lt-ltb 0 (length indices) is.some)
      (λ layout found.
      let from = Contains-map_from (layout_at question) indices layout
      (Contains-same layout (allowing_at question history) found) in
      ap (λ (other : ClassLayout × ℕ). defence_mass question defence other.0 history) (sym from.2) ∙ none from.0 from.1)

  -- where no mass is above 0 the reply is worth nothing and has no choices
  pub most_empty : (more : ℕ) (history : ClassHistory) → MostCase more question defence history
      → masses_at question defence history ≡ [] → found_from more (reply_to_defence question defence) history ≡ nothing
  most_empty more history is none =
      let reply : Reply = reply_to_defence question defence in
      let dead : reply.live history ≡ false =
      live_at question defence history
      ∙ any_live (mass_at question defence history) (allowing question history)
      ∙ ap (λ (l : LayoutMasses). nat_lt 0 (length l)) none in
      same_found (worth_within more reply history) (pos 0) (walked more reply history) []
      (most_none more history is (masses_none more history is none)) (walked_none reply more history dead)

  -- and else some mass comes to it
  pub most_live : (history : ClassHistory) (held : ℕ × ℤ) (masses : LayoutMasses)
      → masses_at question defence history ≡ held ∷ masses → (reply_to_defence question defence).live history ≡ true
  most_live history held masses some =
      live_at question defence history
      ∙ any_live (mass_at question defence history) (allowing question history)
      ∙ ap (λ (l : LayoutMasses). nat_lt 0 (length l)) some
      ∙ lt-ltb 0 (suc (length masses)) (omega arith)
