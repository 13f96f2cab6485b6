-- A support that names more has no smaller a program, so that none is larger than that of all moves
-- (`size_more`, `whole_supports_fit`).
use Rattle.std.proofs.Common.{◌≡◌, ℕ, zero, suc, ◌+◌, ◌<◌, ◌≤◌, Bool, true, false, List, [], ◌∷◌, ◌++◌, length, map}
use Rattle.std.proofs.Common.{refl, ap, ◌∙◌, Err, arith}
use Rattle.std.specs.Prelude.{nat_lt, if◌then◌else◌}
use Rattle.std.specs.List.{flat_map}
use Rattle.std.proofs.lemmas.Bool.{and_from, and_parts, ltb-true}
use Rattle.std.proofs.lemmas.List.{length-append, length-map}
use Rattle.suit_lists.proofs.Filters.{Contains-filter, fewer_kept, kept_parts}
use Rattle.suit_lists.proofs.FlatMaps.{Contains-flat_map, flat_kept, flat_map_flat_map, flat_map_from}
use Rattle.suit_cards.specs.Cards.{ClassLayout}
use Rattle.suit_game.specs.declared.question.Question.{Question}
use Rattle.suit_game.specs.Validity.{IsValid}
use Rattle.suit_game.specs.declared.limits.TheConstants.{MOST_MOVES}
use Rattle.suit_classes.specs.declared.class_moves.ClassMove.{ClassMove}
use Rattle.suit_classes.specs.WhatIsAllowed.{every_move, is_among}
use Rattle.suit_classes.specs.ClassMoves.{ClassHistory}
use Rattle.suit_classes.specs.ClassPlaces.{class_after, class_turn}
use Rattle.suit_classes.proofs.SameMoves.{among-Contains, among_contained}
use Rattle.suit_plans.specs.Masses.{is_declarers}
use Rattle.suit_tree.specs.WhatIsCounted.{node_count}
use Rattle.suit_program.specs.Programs.Points.{Passed}
use Rattle.suit_program.specs.Programs.{Answered, Shared, answered_limits, columns, columns_at, held_column, limits}
use Rattle.suit_program.specs.Programs.{limits_at, size_of}
use Rattle.suit_program.specs.Supports.{Support, declarer_chooses, defence_chooses, first_and, first_support}
use Rattle.suit_program.specs.Supports.{goes_supported, histories_from, is_reached, layouts_of, legal_moves, names}
use Rattle.suit_program.specs.Supports.{next_moves, reached_histories, reached_layouts, supported_moves, whole_support}
use Rattle.suit_program.specs.Supports.{with_moves}
use Rattle.suit_solve.specs.declared.ends.SolveEnd.TheVariants as ends
use Rattle.suit_solve.specs.FateLaws.{WholeSupportsFit}
use Rattle.suit_solve.specs.Fates.{fate, fate_after, fate_from, fate_in_rounds, lacking}
use Rattle.suit_solve.specs.Limits.{most_size}
use Rattle.suit_solve.specs.Rounds.{RoundEnd, PastSize, PastPivots, PastWidth, Met, Apart, Limitless, round_end}
use Rattle.suit_solve.proofs.Lacking.{NamesMore, either_more, supported_more}
use Rattle.suit_solve.proofs.Rounds.{ReadsAt, reads}

-- ---- supports that name more

module _ (question : Question) (less more : Support) (grown : NamesMore less more) where
  names_too : (west : ClassLayout) (history : ClassHistory) (move : ClassMove)
      → names question less west history move ≡ true → names question more west history move ≡ true
  names_too west history move =
      either_more (is_declarers (class_turn (class_after question history))) (less.declarers history move)
      (less.defences west history move) (more.declarers history move) (more.defences west history move)
      (grown.declarers history move) (grown.defences west history move)

  first_longer : (west : ClassLayout) (history : ClassHistory) (moves : List ClassMove)
      → length (first_and (names question less west history) moves)
      ≤ length (first_and (names question more west history) moves)
  first_longer west history [] = omega arith
  first_longer west history (first ∷ moves) =
      one_more (fewer_kept (names question less west history) (names question more west history) moves
      (names_too west history))
    where
      one_more : {a b : ℕ} → a ≤ b → suc a ≤ suc b
      one_more le = omega (arith, le)

  supported_longer : (west : ClassLayout) (history : ClassHistory)
      → length (supported_moves question less west history) ≤ length (supported_moves question more west history)
  unfolding supported_moves
  supported_longer west history = first_longer west history (legal_moves question west history)

  goes_more : (west : ClassLayout) (history moves : ClassHistory)
      → goes_supported question less west history moves ≡ true
      → goes_supported question more west history moves ≡ true
  unfolding goes_supported
  goes_more west history [] goes = refl
  goes_more west history (move ∷ moves) goes =
      let parts = and_parts (is_among (supported_moves question less west history) move)
      (goes_supported question less west (history ++ move ∷ []) moves) goes in
      and_from (is_among (supported_moves question more west history) move)
      (goes_supported question more west (history ++ move ∷ []) moves)
      (supported_more question less more grown west history move parts.0)
      (goes_more west (history ++ move ∷ []) moves parts.1)

  reached_more : (west : ClassLayout) (history : ClassHistory) → is_reached question less west history ≡ true
      → is_reached question more west history ≡ true
  unfolding is_reached
  reached_more west history reached = goes_more west [] history reached

  next_more : (history : ClassHistory) (move : ClassMove)
      → is_among (flat_map (λ (layout : ClassLayout × ℕ). supported_moves question less layout.0 history)
      (reached_layouts question less history)) move ≡ true
      → is_among (flat_map (λ (layout : ClassLayout × ℕ). supported_moves question more layout.0 history)
      (reached_layouts question more history)) move ≡ true
  unfolding reached_layouts
  next_more history move among =
      let moves_less : ClassLayout × ℕ → List ClassMove =
      λ (layout : ClassLayout × ℕ). supported_moves question less layout.0 history in
      let moves_more : ClassLayout × ℕ → List ClassMove =
      λ (layout : ClassLayout × ℕ). supported_moves question more layout.0 history in
      let from = flat_map_from moves_less (reached_layouts question less history) move
      (among-Contains (flat_map moves_less (reached_layouts question less history)) move among) in
      let kept = kept_parts (λ (layout : ClassLayout × ℕ). is_reached question less layout.0 history)
      (layouts_of question)
      from.0 from.1 in
      among_contained (flat_map moves_more (reached_layouts question more history)) move
      (Contains-flat_map moves_more (reached_layouts question more history) from.0 move
      (Contains-filter (λ (layout : ClassLayout × ℕ). is_reached question more layout.0 history)
      (layouts_of question) from.0
      kept.0 (reached_more from.0.0 history kept.1))
      (among-Contains (moves_more from.0) move
      (supported_more question less more grown from.0.0 history move
      (among_contained (moves_less from.0) move from.2))))

  columns_more : (history : ClassHistory)
      → length (columns_at question less history) ≤ length (columns_at question more history)
  unfolding columns_at reached_layouts
  columns_more history = by_choice (declarer_chooses question history)
    where
      itself : (n : ℕ) → n ≤ n
      itself n = omega arith

      by_choice : (b : Bool)
          → length (if b then map (Passed history) (supported_moves question less [] history)
          else flat_map (held_column question history) (reached_layouts question less history))
          ≤ length (if b then map (Passed history) (supported_moves question more [] history)
          else flat_map (held_column question history) (reached_layouts question more history))
      by_choice true =
          omega (
            arith,
            length-map (supported_moves question less [] history) (Passed history),
            length-map (supported_moves question more [] history) (Passed history),
            supported_longer [] history,
          )
      by_choice false =
          flat_kept (λ (layout : ClassLayout × ℕ). is_reached question less layout.0 history)
          (λ (layout : ClassLayout × ℕ). is_reached question more layout.0 history) (held_column question history)
          (held_column question history) (layouts_of question)
          (λ layout. reached_more layout.0 history) (λ layout. itself (length (held_column question history layout)))

  limits_more : (history : ClassHistory)
      → length (limits_at question less history) ≤ length (limits_at question more history)
  unfolding limits_at reached_layouts answered_limits
  limits_more history = by_choice (declarer_chooses question history)
    where
      by_answer : (layout : ClassLayout × ℕ) (b : Bool)
          → length (if b then map (Answered layout.0 history) (supported_moves question less layout.0 history) else [])
          ≤ length (if b then map (Answered layout.0 history) (supported_moves question more layout.0 history) else [])
      by_answer layout true =
          omega (
            arith,
            length-map (supported_moves question less layout.0 history) (Answered layout.0 history),
            length-map (supported_moves question more layout.0 history) (Answered layout.0 history),
            supported_longer layout.0 history,
          )
      by_answer layout false = omega arith

      by_choice : (b : Bool)
          → length (if b then Shared history ∷ []
          else flat_map (answered_limits question less history) (reached_layouts question less history))
          ≤ length (if b then Shared history ∷ []
          else flat_map (answered_limits question more history) (reached_layouts question more history))
      by_choice true = omega arith
      by_choice false =
          flat_kept (λ (layout : ClassLayout × ℕ). is_reached question less layout.0 history)
          (λ (layout : ClassLayout × ℕ). is_reached question more layout.0 history)
          (answered_limits question less history)
          (answered_limits question more history) (layouts_of question)
          (λ layout. reached_more layout.0 history)
          (λ layout. by_answer layout (defence_chooses question layout.0 history))

  -- what is made at each class history that is reached
  histories_more : {Y Z : Type 0} (made : ClassHistory → List Y) (others : ClassHistory → List Z)
      → ((history : ClassHistory) → length (made history) ≤ length (others history)) → (left : ℕ)
      → (history : ClassHistory) → length (flat_map made (histories_from question less left history))
      ≤ length (flat_map others (histories_from question more left history))
  unfolding histories_from next_moves
  histories_more made others fewer zero history =
      omega (arith, length-append (made history) [], length-append (others history) [], fewer history)
  histories_more {Y} {Z} made others fewer (suc left) history =
      let here : ClassMove → List ClassHistory = λ move. histories_from question less left (history ++ move ∷ []) in
      let there : ClassMove → List ClassHistory = λ move. histories_from question more left (history ++ move ∷ []) in
      let rest : length (flat_map (λ move. flat_map made (here move)) (next_moves question less history))
      ≤ length (flat_map (λ move. flat_map others (there move)) (next_moves question more history)) =
      flat_kept
      (is_among (flat_map (λ (layout : ClassLayout × ℕ). supported_moves question less layout.0 history)
      (reached_layouts question less history)))
      (is_among (flat_map (λ (layout : ClassLayout × ℕ). supported_moves question more layout.0 history)
      (reached_layouts question more history)))
      (λ move. flat_map made (here move)) (λ move. flat_map others (there move)) every_move (next_more history)
      (λ move. histories_more made others fewer left (history ++ move ∷ [])) in
      both (fewer history) rest
      (length-append (made history) (flat_map made (flat_map here (next_moves question less history)))
      ∙ ap (λ (l : List Y). length (made history) + length l)
      (flat_map_flat_map made here (next_moves question less history)))
      (length-append (others history) (flat_map others (flat_map there (next_moves question more history)))
      ∙ ap (λ (l : List Z). length (others history) + length l)
      (flat_map_flat_map others there (next_moves question more history)))
    where
      both : {a b c d whole total : ℕ} → a ≤ b → c ≤ d → whole ≡ a + c → total ≡ b + d → whole ≤ total
      both p q r s = omega (arith, p, q, r, s)

  -- so the program is no smaller
  pub size_more : size_of question less ≤ size_of question more
  unfolding size_of columns limits reached_histories
  size_more =
      both (histories_more (limits_at question less) (limits_at question more) limits_more MOST_MOVES [])
      (histories_more (columns_at question less) (columns_at question more) columns_more MOST_MOVES [])
    where
      both : {a b c d : ℕ} → a ≤ b → c ≤ d → a + c ≤ b + d
      both p q = omega (arith, p, q)

-- ---- the support of all moves

names_all : (support : Support) → NamesMore support whole_support
names_all support = record {
  declarers = λ history move is. refl;
  defences = λ west history move is. refl;
}

module _ (question : Question) (valid : IsValid question) where
  -- where a question is refused for its size, some support is too large
  refused_from : (more : ℕ) (support : Support) (round told : ℕ)
      → fate_from question more support round ≡ Err (ends.Support told) → (large : Support)
      × (nat_lt (most_size question) (size_of question large) ≡ true)
  unfolding fate_from ReadsAt
  refused_from zero support round told is = absurd (cc)
  refused_from (suc more) support round told is =
      by_end (λ next same. refused_from more next (suc round) told same) (round_end question support)
      (reads question question.pivots support valid) is
    where
      by_end : ((next : Support) → fate_from question more next (suc round) ≡ Err (ends.Support told)
          → (large : Support) × (nat_lt (most_size question) (size_of question large) ≡ true)) → (end : RoundEnd)
          → ReadsAt question support end
          → fate_after question support round (fate_from question more) end ≡ Err (ends.Support told)
          → (large : Support) × (nat_lt (most_size question) (size_of question large) ≡ true)
      by_end later PastSize read e = (support, read)
      by_end later PastPivots read e = absurd (cc)
      by_end later PastWidth read e = absurd (cc)
      by_end later (Met answer) read e = absurd (cc)
      by_end later (Apart own theirs) read e = later (with_moves question support own theirs) e
      by_end later Limitless read e = absurd (cc)

  refused : (round : ℕ) → fate question ≡ Err (ends.Support round) → (large : Support)
      × (nat_lt (most_size question) (size_of question large) ≡ true)
  unfolding fate
  refused round is = by_count (nat_lt question.nodes (node_count question)) is
    where
      by_count : (b : Bool)
          → (if b then Err (ends.Nodes question.nodes) else fate_in_rounds question) ≡ Err (ends.Support round)
          → (large : Support) × (nat_lt (most_size question) (size_of question large) ≡ true)
      by_count true e = absurd (cc)
      by_count false e = refused_from (suc (lacking question first_support)) first_support 0 round e

pub whole_supports_fit : WholeSupportsFit
whole_supports_fit question round valid fits is =
    let large = refused question valid round is in
    clash (ltb-true (most_size question) (size_of question large.0) large.1)
    (size_more question large.0 whole_support (names_all large.0)) fits
  where
    clash : {limit size whole : ℕ} → limit < size → size ≤ whole → whole ≤ limit → ⊥
    clash p q r = omega (arith, p, q, r)
