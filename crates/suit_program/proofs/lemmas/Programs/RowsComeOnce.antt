-- No row of a program comes twice (`limits_once`).
use Rattle.std.proofs.Common.{◌≡◌, ℕ, Bool, true, false, List, [], ◌∷◌, map, refl, sym, ap, ◌∙◌, subst, inl, inr}
use Rattle.std.proofs.Common.{Ordering}
use Rattle.std.specs.Prelude.{Contains, ◌&&◌, ◌||◌, ◌==◌, cond, nat_lt, if◌then◌else◌}
use Rattle.std.specs.List.{flat_map}
use Rattle.std.specs.Ordering.{nat_cmp, ordering_then}
use Rattle.std.specs.Cmp.Lexicographic.{slice_cmp}
use Rattle.std.specs.declared.cmp.Ordering.TheVariants.{Less, Equal, Greater}
use Rattle.std.proofs.lemmas.Bool.{false≢true}
use Rattle.suit_lists.proofs.Chains.{Chained, chained_filter, once_pieces, pairs_chained}
use Rattle.suit_lists.proofs.Elements.{Contains-cons_cases, Contains-nil, each_gives}
use Rattle.suit_lists.proofs.FlatMaps.{flat_map_from}
use Rattle.suit_lists.proofs.Maps.{Contains-map_from}
use Rattle.suit_lists.proofs.Once.{IsOnce, once_map}
use Rattle.suit_cards.specs.Cards.{ClassLayout}
use Rattle.suit_game.specs.declared.question.Question.{Question}
use Rattle.suit_classes.specs.declared.class_moves.ClassMove.{ClassMove}
use Rattle.suit_classes.specs.Classes.{sizes_of}
use Rattle.suit_layouts.proofs.ClassLayoutsRise.{class_layouts_rise}
use Rattle.suit_plans.specs.Orders.{counts_before, history_before, is_earlier}
use Rattle.suit_plans.proofs.HistoryOrder.{IsStrict-numbers, earlier-never}
use Rattle.suit_plans.proofs.KeyOrder.{history-never}
use Rattle.suit_program.specs.Programs.{Answered, Limit, Shared, answered_limits, limits, limits_at}
use Rattle.suit_program.specs.Supports.{Support, declarer_chooses, defence_chooses, is_reached, layouts_of}
use Rattle.suit_program.specs.Supports.{reached_histories, reached_layouts, supported_moves}
use Rattle.suit_program.proofs.lemmas.Supports.ReachedInOrder.{reached_chained}
use Rattle.suit_program.proofs.lemmas.Supports.TurnCases.{supported_once}

-- which class history a row stands at, and for which counts
abbrev place_of : Limit → List ClassMove
place_of (Shared history) = history
place_of (Answered west history move) = history

abbrev counts_of : Limit → ClassLayout
counts_of (Shared history) = []
counts_of (Answered west history move) = west

abbrev move_of : ClassMove → Limit → ClassMove
move_of other (Shared history) = other
move_of other (Answered west history move) = move

-- ---- the order of the class layouts

step_before : (before alike rest : Bool) (later : Ordering) → (later ≡ Less → rest ≡ true)
    → ordering_then (cond before Less (cond alike Equal Greater)) later ≡ Less → (before || (alike && rest)) ≡ true
step_before true alike rest later gives less = refl
step_before false true rest later gives less = gives less
step_before false false rest later gives less = absurd (cc)

-- counts that compare as less stand before
pub less_before : (here there : ClassLayout) → slice_cmp nat_cmp here there ≡ Less → counts_before here there ≡ true
unfolding is_earlier
less_before [] [] less = absurd (cc)
less_before [] (other ∷ others) less = refl
less_before (first ∷ rest) [] less = absurd (cc)
less_before (first ∷ rest) (other ∷ others) less =
    step_before (nat_lt first other) (first == other) (is_earlier nat_lt (λ a b. a == b) rest others)
    (slice_cmp nat_cmp rest others) (less_before rest others) less

abbrev pub IsLayoutBefore : ClassLayout × ℕ → ClassLayout × ℕ → Type 0
IsLayoutBefore here there = counts_before here.0 there.0 ≡ true

before_layouts : (layouts : List (ClassLayout × ℕ))
    → Chained (λ (here there : ClassLayout × ℕ). slice_cmp nat_cmp here.0 there.0 ≡ Less) layouts
    → Chained IsLayoutBefore layouts
unfolding Chained
before_layouts [] chain = tt
before_layouts (layout ∷ layouts) chain = (
  each_gives (λ (there : ClassLayout × ℕ). slice_cmp nat_cmp layout.0 there.0 ≡ Less) (IsLayoutBefore layout) layouts
      (λ there less. less_before layout.0 there.0 less) chain.0,
  before_layouts layouts chain.1,
)

-- the class layouts stand in the order of their counts
pub layouts_chained : (question : Question) → Chained IsLayoutBefore (layouts_of question)
layouts_chained question =
    before_layouts (layouts_of question)
    (pairs_chained (λ (here there : ClassLayout × ℕ). slice_cmp nat_cmp here.0 there.0 ≡ Less) (layouts_of question)
    (class_layouts_rise question (sizes_of question)))

-- no counts stand before themselves
pub counts-never : (counts : ClassLayout) → counts_before counts counts ≡ false
counts-never counts = earlier-never nat_lt (λ a b. a == b) counts IsStrict-numbers

-- ---- rows

answered_place : (west : ClassLayout) (history : List ClassMove) (moves : List ClassMove) (limit : Limit)
    → Contains (map (Answered west history) moves) limit → (place_of limit ≡ history) × (counts_of limit ≡ west)
answered_place west history moves limit found =
    let from = Contains-map_from (Answered west history) moves limit found in
    (sym (ap place_of from.2), sym (ap counts_of from.2))

module _ (question : Question) (support : Support) where
  layout_case : (history : List ClassMove) (layout : ClassLayout × ℕ) (b : Bool) (limit : Limit)
      → Contains (if b then map (Answered layout.0 history) (supported_moves question support layout.0 history) else [])
      limit → (place_of limit ≡ history) × (counts_of limit ≡ layout.0)
  layout_case history layout true limit found =
      answered_place layout.0 history (supported_moves question support layout.0 history) limit found
  layout_case history layout false limit found = absurd (Contains-nil limit found)

  layout_place : (history : List ClassMove) (layout : ClassLayout × ℕ) (limit : Limit)
      → Contains (answered_limits question support history layout) limit
      → (place_of limit ≡ history) × (counts_of limit ≡ layout.0)
  unfolding answered_limits
  layout_place history layout limit found =
      layout_case history layout (defence_chooses question layout.0 history) limit found

  history_case : (history : List ClassMove) (b : Bool) (limit : Limit)
      → Contains (if b then Shared history ∷ []
      else flat_map (answered_limits question support history) (reached_layouts question support history)) limit
      → place_of limit ≡ history
  history_case history true limit found = elim (Contains-cons_cases (Shared history) [] limit found) [
    | inl here ↦ sym (ap place_of here)
    | inr there ↦ absurd (Contains-nil limit there)
  ]
  history_case history false limit found =
      let from = flat_map_from (answered_limits question support history) (reached_layouts question support history)
      limit found in
      (layout_place history from.0 limit from.2).0

  history_place : (history : List ClassMove) (limit : Limit) → Contains (limits_at question support history) limit
      → place_of limit ≡ history
  unfolding limits_at
  history_place history limit found = history_case history (declarer_chooses question history) limit found

  once_case : (b : Bool) (one other : List Limit) → IsOnce one → IsOnce other → IsOnce (if b then one else other)
  once_case true one other first second = first
  once_case false one other first second = second

  layout_once : (history : List ClassMove) (layout : ClassLayout × ℕ)
      → IsOnce (answered_limits question support history layout)
  unfolding answered_limits IsOnce
  layout_once history layout =
      once_case (defence_chooses question layout.0 history)
      (map (Answered layout.0 history) (supported_moves question support layout.0 history)) []
      (once_map (Answered layout.0 history) (supported_moves question support layout.0 history)
      (λ here there same. ap (move_of here) same) (supported_once question support layout.0 history)) tt

  history_once : (history : List ClassMove) → IsOnce (limits_at question support history)
  unfolding limits_at IsOnce reached_layouts
  history_once history =
      once_case (declarer_chooses question history) (Shared history ∷ [])
      (flat_map (answered_limits question support history) (reached_layouts question support history)) (tt, tt)
      (once_pieces IsLayoutBefore (answered_limits question support history)
      (reached_layouts question support history)
      (chained_filter IsLayoutBefore (λ (other : ClassLayout × ℕ). is_reached question support other.0 history)
      (layouts_of question) (layouts_chained question)) (layout_once history)
      (λ here there before limit one other. false≢true (sym (counts-never there.0)
      ∙ subst (λ (w : ClassLayout). counts_before w there.0 ≡ true)
      (sym (layout_place history here limit one).1 ∙ (layout_place history there limit other).1) before)))

  pub limits_once : IsOnce (limits question support)
  unfolding limits
  limits_once =
      once_pieces (λ here there. history_before here there ≡ true) (limits_at question support)
      (reached_histories question support) (reached_chained question support) history_once
      (λ here there before limit one other. false≢true (sym (history-never there)
      ∙ subst (λ (h : List ClassMove). history_before h there ≡ true)
      (sym (history_place here limit one) ∙ history_place there limit other) before))
