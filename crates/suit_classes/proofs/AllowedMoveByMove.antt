-- Which class histories a class layout allows, move by move.
use Rattle.std.proofs.Common.{◌≡◌, ℕ, zero, suc, ◌+◌, ◌-◌, ◌≤◌, Bool, true, false, not, List, [], ◌∷◌, ◌++◌, refl, sym}
use Rattle.std.proofs.Common.{ap, ◌∙◌, subst, inl, inr, arith, add-zero}
use Rattle.std.specs.Prelude.{fold, map, filter, Contains, ◌↔◌, if◌then◌else◌}
use Rattle.std.specs.List.{AllByRecursion}
use Rattle.std.proofs.lemmas.Bool.{cases_lt}
use Rattle.std.proofs.lemmas.List.{map-append}
use Rattle.suit_lists.proofs.Elements.{Contains-cons_cases, Contains-first, Contains-later, Contains-nil, Contains-same}
use Rattle.suit_lists.proofs.Elements.{each_at, each_gives}
use Rattle.suit_lists.proofs.Filters.{Contains-filter, each_filter}
use Rattle.suit_lists.proofs.Maps.{Contains-map, Contains-map_from}
use Rattle.suit_game.specs.Histories.{History}
use Rattle.suit_cards.specs.Cards.{Cards, ClassLayout}
use Rattle.suit_cards.specs.Ranks.{IsRank}
use Rattle.suit_game.specs.declared.question.Question.{Question}
use Rattle.suit_game.specs.declared.moves.Move.{Move}
use Rattle.suit_game.specs.Layouts.{layouts}
use Rattle.suit_game.specs.Positions.{Position, LegalFrom, IsLegal, legal, legal_at, start_place, step}
use Rattle.suit_game.specs.PlaceViews.{IsPlay}
use Rattle.suit_game.specs.Validity.{IsValid}
use Rattle.suit_game.proofs.PlaceSeenAfterAMove.{play_more, play_none}
use Rattle.suit_classes.specs.declared.class_moves.ClassMove.{ClassMove}
use Rattle.suit_classes.specs.Classes.{Hands, hands_of, class_below, class_of, holder, same_owner}
use Rattle.suit_classes.specs.ClassGame.{Allows, counts_of, each_once, merged_moves}
use Rattle.suit_classes.specs.ClassMoves.{ClassHistory, merge, merged, same_class_move}
use Rattle.suit_classes.specs.ClassPlaces.{class_after, class_moves}
use Rattle.suit_classes.proofs.ClassGameAgrees.{class_game_agrees}
use Rattle.suit_classes.proofs.ClassNumbers.{same_owner-itself}
use Rattle.suit_classes.proofs.OneSideHoldsAClass.{class_held_by_one}
use Rattle.suit_classes.proofs.RankBlocks.{class_of-rises}
use Rattle.suit_classes.proofs.SameMoves.{same_move_is}

once_within : (moves : List ClassMove) → AllByRecursion (Contains moves) (each_once moves)
unfolding each_once
once_within [] = tt
once_within (move ∷ moves) = (
  Contains-first move moves,
  each_filter (Contains (move ∷ moves)) (λ other. not (same_class_move move other)) (each_once moves)
      (each_gives (Contains moves) (Contains (move ∷ moves)) (each_once moves)
      (λ other found. Contains-later move moves other found) (once_within moves)),
)

-- a move of a list without repeats is one of the list
pub Contains-each_once : (moves : List ClassMove) (move : ClassMove) → Contains (each_once moves) move
    → Contains moves move
Contains-each_once moves move found = each_at (Contains moves) (each_once moves) move (once_within moves) found

once_or_first : (move : ClassMove) (moves : List ClassMove) (y : ClassMove) (b : Bool) → same_class_move move y ≡ b
    → Contains (each_once moves) y → Contains (each_once (move ∷ moves)) y
unfolding each_once
once_or_first move moves y true same found =
    subst (λ (m : ClassMove). Contains (each_once (move ∷ moves)) m) (same_move_is move y same)
    (Contains-first move (filter (λ other. not (same_class_move move other)) (each_once moves)))
once_or_first move moves y false same found =
    Contains-later move (filter (λ other. not (same_class_move move other)) (each_once moves)) y
    (Contains-filter (λ other. not (same_class_move move other)) (each_once moves) y found (ap not same))

-- and each of the list is one of them
pub each_once-Contains : (moves : List ClassMove) (move : ClassMove) → Contains moves move
    → Contains (each_once moves) move
unfolding each_once
each_once-Contains [] move found = absurd (Contains-nil move found)
each_once-Contains (first ∷ moves) move found = elim (Contains-cons_cases first moves move found) [
  | inl here ↦
      subst (λ (m : ClassMove). Contains (each_once (first ∷ moves)) m) here
      (Contains-first first (filter (λ other. not (same_class_move first other)) (each_once moves)))
  | inr there ↦ once_or_first first moves move (same_class_move first move) refl (each_once-Contains moves move there)
]

-- the counts of a layout allow the empty history
pub layouts_allow_none : (question : Question) (west : Cards) → IsValid question → Contains (layouts question) west
    → Allows question (counts_of (hands_of question) west) []
layouts_allow_none question west valid layout =
    record { west = west; cards = []; play = play_none question west valid layout; counted = refl; merges = refl }

-- a play with one more move merges to the class history with one more
pub merged-push : (hands : Hands) (history : History) (move : Move)
    → merged hands (history ++ move ∷ []) ≡ merged hands history ++ merge hands move ∷ []
merged-push hands history move = map-append (merge hands) history (move ∷ [])

-- an allowed history is allowed with a class move more
allows_more : (question : Question) (counts : ClassLayout) (history : ClassHistory) (move : ClassMove)
    → Allows question counts history
    → Contains (class_moves (class_after question history) counts) move → Allows question counts (history ++ move ∷ [])
allows_more question counts history move allows found =
    let hands : Hands = hands_of question in
    let agrees = class_game_agrees question allows.west allows.cards allows.play in
    let moves : class_moves (class_after question history) counts ≡ merged_moves question allows.west allows.cards =
    ap (λ (h : ClassHistory). class_moves (class_after question h) counts) (sym allows.merges)
    ∙ ap (class_moves (class_after question (merged hands allows.cards))) (sym allows.counted) ∙ agrees.moves in
    let card = Contains-map_from (merge hands) (legal question allows.west allows.cards) move
    (Contains-each_once (map (merge hands) (legal question allows.west allows.cards)) move
    (Contains-same move moves found)) in
    record {
      west = allows.west;
      cards = allows.cards ++ card.0 ∷ [];
      play = play_more question allows.west allows.cards card.0 allows.play card.1;
      counted = allows.counted;
      merges =
          merged-push hands allows.cards card.0 ∙ ap (λ (h : ClassHistory). h ++ merge hands card.0 ∷ []) allows.merges
          ∙ ap (λ (m : ClassMove). history ++ m ∷ []) card.2;
    }

-- the last of a list that is not empty
record LastOf (f : Move → ClassMove) (moves : List Move) (front : ClassHistory) (last : ClassMove) : Type 0 where
  before : List Move
  move : Move
  parts : moves ≡ before ++ move ∷ []
  fronts : map f before ≡ front
  lasts : f move ≡ last

last_of : (f : Move → ClassMove) (moves : List Move) (front : ClassHistory) (last : ClassMove)
    → map f moves ≡ front ++ last ∷ [] → LastOf f moves front last
last_of f [] [] last is = absurd (cc)
last_of f [] (x ∷ front) last is = absurd (cc)
last_of f (move ∷ []) [] last is = record { before = []; move = move; parts = refl; fronts = refl; lasts = cc }
last_of f (move ∷ other ∷ moves) [] last is = absurd (cc)
last_of f (move ∷ moves) (x ∷ front) last is =
    let rest : map f moves ≡ front ++ last ∷ [] = cc in
    let later = last_of f moves front last rest in
    let first : f move ≡ x = cc in
    record {
      before = move ∷ later.before;
      move = later.move;
      parts = ap (λ (l : List Move). move ∷ l) later.parts;
      fronts = ap (λ (l : List ClassMove). f move ∷ l) later.fronts ∙ ap (λ (m : ClassMove). m ∷ front) first;
      lasts = later.lasts;
    }

-- the moves of a legal play before its last one are legal, and so is the last where it comes
pub legal_front : (question : Question) (west : Cards) (place : Position) (moves : List Move) (move : Move)
    → LegalFrom question west place (moves ++ move ∷ [])
    → LegalFrom question west place moves × Contains (legal_at question west (fold (step question) place moves)) move
unfolding LegalFrom
legal_front question west place [] move legal = (tt, legal.0)
legal_front question west place (first ∷ moves) move legal =
    let rest = legal_front question west (step question place first) moves move legal.1 in
    ((legal.0, rest.0), rest.1)

allows_back : (question : Question) (counts : ClassLayout) (history : ClassHistory) (move : ClassMove)
    → Allows question counts (history ++ move ∷ [])
    → Allows question counts history × Contains (class_moves (class_after question history) counts) move
allows_back question counts history move allows =
    let hands : Hands = hands_of question in
    let last = last_of (merge hands) allows.cards history move allows.merges in
    let legal_all : IsLegal question allows.west (last.before ++ last.move ∷ []) =
    subst (IsLegal question allows.west) last.parts allows.play.legal in
    let parts = legal_front question allows.west (start_place question) last.before last.move legal_all in
    let play : IsPlay question allows.west last.before =
    record { valid = allows.play.valid; layout = allows.play.layout; legal = parts.0 } in
    let agrees = class_game_agrees question allows.west last.before play in
    let moves : class_moves (class_after question history) counts ≡ merged_moves question allows.west last.before =
    ap (λ (h : ClassHistory). class_moves (class_after question h) counts) (sym last.fronts)
    ∙ ap (class_moves (class_after question (merged hands last.before))) (sym allows.counted) ∙ agrees.moves in (
      record { west = allows.west; cards = last.before; play = play; counted = allows.counted; merges = last.fronts },
      Contains-same move (sym moves)
          (each_once-Contains (map (merge hands) (legal question allows.west last.before)) move
          (subst (λ (m : ClassMove). Contains (map (merge hands) (legal question allows.west last.before)) m) last.lasts
          (Contains-map (merge hands) (legal question allows.west last.before) last.move parts.1))),
    )

-- a history with one more move is allowed where the history is, and the move is a class move
pub allowed_moves : (question : Question) (counts : ClassLayout) (history : ClassHistory) (move : ClassMove)
    → Allows question counts (history ++ move ∷ []) ↔
    (Allows question counts history × Contains (class_moves (class_after question history) counts) move)
allowed_moves question counts history move =
    (allows_back question counts history move, λ both. allows_more question counts history move both.0 both.1)

-- layouts of the same counts have the same class moves
pub counts_tell_moves : (question : Question) (west other : Cards) (history moves : History)
    → IsPlay question west history → IsPlay question other moves
    → counts_of (hands_of question) west ≡ counts_of (hands_of question) other
    → merged (hands_of question) history ≡ merged (hands_of question) moves
    → merged_moves question west history ≡ merged_moves question other moves
counts_tell_moves question west other history moves play too counts same =
    sym (class_game_agrees question west history play).moves
    ∙ ap (λ (h : ClassHistory). class_moves (class_after question h) (counts_of (hands_of question) west)) same
    ∙ ap (class_moves (class_after question (merged (hands_of question) moves))) counts
    ∙ (class_game_agrees question other moves too).moves

run_kept : (hands : Hands) (n m : ℕ) → n ≤ m → ((k : ℕ) → n ≤ k → k ≤ m → holder hands (14 - k) ≡ holder hands (14 - n))
    → class_below hands n ≡ class_below hands m
unfolding class_below
run_kept hands n zero low alike = let none : n ≡ 0 = omega arith in ap (class_below hands) none
run_kept hands n (suc m) low alike = elim (cases_lt n (suc m)) [
  | inl before ↦
      let same : holder hands (14 - m) ≡ holder hands (14 - suc m) =
      alike m (omega arith) (omega arith) ∙ sym (alike (suc m) low (omega arith)) in
      let told : same_owner (holder hands (14 - m)) (holder hands (14 - suc m)) ≡ true =
      ap (λ o. same_owner (holder hands (14 - m)) o) (sym same) ∙ same_owner-itself (holder hands (14 - m)) in
      let kept : class_below hands (suc m) ≡ class_below hands m =
      ap (λ (b : Bool). class_below hands m + (if b then 0 else 1)) told ∙ add-zero (class_below hands m) in
      run_kept hands n m (omega arith) (λ k least most. alike k least (omega arith)) ∙ sym kept
  | inr at ↦ let here : n ≡ suc m = omega arith in ap (class_below hands) here
]

-- ranks are of one class where all ranks between them were held alike
pub classes_are_runs : (hands : Hands) (high low : ℕ) → IsRank high → IsRank low → low ≤ high
    → (class_of hands high ≡ class_of hands low) ↔
    ((rank : ℕ) → low ≤ rank → rank ≤ high → holder hands rank ≡ holder hands high)
classes_are_runs hands high low is_high is_low down = (
  (λ same rank least most.
      let up = class_of-rises hands high rank most in
      let on = class_of-rises hands rank low least in
      class_held_by_one hands rank high (omega (arith, is_low.0), omega (arith, is_high.1)) is_high (omega arith)),
  (λ alike.
      run_kept hands (14 - high) (14 - low) (omega arith)
      (λ k least most.
      let back : 14 - (14 - high) ≡ high = omega (arith, is_high.1) in
      alike (14 - k) (omega (arith, is_low.1)) (omega (arith, is_high.1)) ∙ ap (holder hands) (sym back))),
)
