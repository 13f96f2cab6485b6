-- The shares of the class moves at a turn stand as their masses (side_shares).
use Rattle.std.proofs.Common.{◌≡◌, ℕ, zero, suc, ◌+◌, ◌*◌, ◌≤◌, ◌<◌, Bool, true, false, cond, not, List, [], ◌∷◌, ◌++◌}
use Rattle.std.proofs.Common.{Some, None, map, refl, sym, ap, ◌∙◌, inl, inr, arith}
use Rattle.std.specs.Prelude.{Contains, ◌==◌, ℤ, pos, negsuc, ◌+ℤ◌, ◌*ℤ◌, ◌≤ℤ◌, if◌then◌else◌}
use Rattle.std.specs.List.{AllByRecursion, list_all, sum_by, filter}
use Rattle.std.proofs.lemmas.Bool.{and_parts, cases_eq, eq-eqb, eqb-true, false≢true, true≢false}
use Rattle.std.proofs.lemmas.Int.{ints}
use Rattle.std.proofs.lemmas.List.Sums.{sum_by-cons}
use Rattle.suit_lists.proofs.Elements.{Contains-cons_cases, Contains-first, Contains-later, Contains-nil, each_gives}
use Rattle.suit_lists.proofs.Elements.{Contains-same, each_in}
use Rattle.suit_lists.proofs.Firsts.{HasFirst}
use Rattle.suit_lists.proofs.Once.{IsOnce}
use Rattle.suit_lists.proofs.Sums.{sum_by_alike, sum_by_none, term_small}
use Rattle.suit_cards.specs.Cards.{Cards, ClassLayout}
use Rattle.suit_game.specs.declared.question.Question.{Question}
use Rattle.suit_game.specs.declared.moves.Move.{Move}
use Rattle.suit_game.specs.Histories.{History}
use Rattle.suit_game.specs.Positions.{legal}
use Rattle.suit_game.specs.PlaceViews.{IsPlay}
use Rattle.suit_game.specs.Strategies.{counted}
use Rattle.suit_classes.specs.declared.class_moves.ClassMove.{ClassMove}
use Rattle.suit_classes.specs.Classes.{hands_of}
use Rattle.suit_classes.specs.ClassGame.{Allows, counts_of, each_once, merged_moves}
use Rattle.suit_classes.specs.ClassMoves.{merge, merged, same_class_move}
use Rattle.suit_classes.specs.ClassPlaces.{class_moves, class_turn}
use Rattle.suit_classes.proofs.AllowedMoveByMove.{Contains-each_once, allowed_moves, each_once-Contains}
use Rattle.suit_classes.proofs.DistinctMoves.{once_each_once}
use Rattle.suit_classes.proofs.SameMoves.{same_move-itself}
use Rattle.suit_plans.specs.Masses.{Side, count_of, is_first, mass_of, share}
use Rattle.suit_plans.specs.PlanLaws.{AreRealised}
use Rattle.suit_plans.specs.Properness.{sum_of}
use Rattle.suit_plans.proofs.MassSteps.{mass_shared}
use Rattle.suit_lift.specs.Lifts.{RowCounts, class_share, row_count}
use Rattle.suit_lift.proofs.SumsOverMergedMoves.{other_class}
use Rattle.suit_lift.proofs.PlayGoesOn.{IsOn, view_after}
use Rattle.suit_lift.proofs.NoMoveHasACount.{none_without}

-- ---- numbers that are not negative

pub counted_add : (a b : ℤ) → pos 0 ≤ℤ a → pos 0 ≤ℤ b → counted (a +ℤ b) ≡ counted a + counted b
counted_add (pos m) (pos n) low high = refl
counted_add (pos m) (negsuc n) low high = absurd (omega (arith, ints, high))
counted_add (negsuc m) b low high = absurd (omega (arith, ints, low))

pub total_positive : {X : Type 0} (f : X → ℤ) (xs : List X) → AllByRecursion (λ x. pos 0 ≤ℤ f x) xs
    → pos 0 ≤ℤ sum_of (map f xs)
unfolding sum_of
total_positive f [] each = omega (arith, ints)
total_positive f (x ∷ xs) each = omega (arith, ints, each.0, total_positive f xs each.1)

-- whole numbers that are not negative add up as they count
pub counted_total : {X : Type 0} (f : X → ℤ) (xs : List X) → AllByRecursion (λ x. pos 0 ≤ℤ f x) xs
    → counted (sum_of (map f xs)) ≡ sum_by (λ x. counted (f x)) xs
unfolding sum_of
counted_total f [] each = refl
counted_total {X} f (x ∷ xs) each =
    let count : X → ℕ = λ y. counted (f y) in
    counted_add (f x) (sum_of (map f xs)) each.0 (total_positive f xs each.1)
    ∙ ap (λ (n : ℕ). counted (f x) + n) (counted_total f xs each.1)
    ∙ sym (sum_by-cons count x xs)

-- a product of a number and a whole number counts as the product
pub counted_mul : (n : ℕ) (z : ℤ) → counted (pos n *ℤ z) ≡ n * counted z
counted_mul n (pos k) = refl
counted_mul zero (negsuc k) = omega (arith, ints)
counted_mul (suc n) (negsuc k) = omega (arith, ints)

pub counted_least : (a b : ℤ) → a ≤ℤ b → counted a ≤ counted b
counted_least (pos m) (pos n) low = omega (arith, ints, low)
counted_least (pos m) (negsuc n) low = absurd (omega (arith, ints, low))
counted_least (negsuc m) b low = omega arith

-- ---- the law of shares

-- the shares of the class moves are not all 0, and the mass of each stands to the whole mass as its share to the sum
-- of the shares
pub record IsSharedOut (row : RowCounts) (merges : List ClassMove) (mass : ℤ) (next : ClassMove → ℤ) : Type 0 where
  pub some : 0 < sum_by (class_share row merges) (each_once merges)
  pub each : (move : ClassMove) → Contains (each_once merges) move
      → counted (next move) * sum_by (class_share row merges) (each_once merges) ≡ class_share row merges move
      * counted mass

-- the same, where it is known whether all counts are 0
abbrev pub share_when : Bool → RowCounts → List ClassMove → ClassMove → ℕ
share_when none row merges move = if none then (if is_first merges move then 1 else 0) else row_count row move

record IsSharedWhen (none : Bool) (row : RowCounts) (merges : List ClassMove) (mass : ℤ) (next : ClassMove
    → ℤ) : Type 0 where
  some : 0 < sum_by (share_when none row merges) (each_once merges)
  each : (move : ClassMove) → Contains (each_once merges) move
      → counted (next move) * sum_by (share_when none row merges) (each_once merges)
      ≡ share_when none row merges move * counted mass

pub first_alone : (first : ClassMove) (more : List ClassMove)
    → sum_by (λ move. if is_first (first ∷ more) move then 1 else 0) (each_once (first ∷ more)) ≡ 1
unfolding each_once IsOnce
first_alone first more =
    let rest : List ClassMove = filter (λ other. not (same_class_move first other)) (each_once more) in
    let worth : ClassMove → ℕ = λ move. if same_class_move first move then 1 else 0 in
    let none : sum_by worth rest ≡ 0 =
    sum_by_alike worth (λ move. 0) rest
    (each_gives (λ move. first ≡ move → ⊥) (λ move. worth move ≡ 0) rest
    (λ move differ. ap {B = ℕ} (λ (b : Bool). if b then 1 else 0) (other_class first move differ)) (once_each_once
    (first ∷ more)).0)
    ∙ sum_by_none (λ move. 0) rest (λ move. refl) in
    let here : worth first ≡ 1 = ap {B = ℕ} (λ (b : Bool). if b then 1 else 0) (same_move-itself first) in
    omega (arith, sum_by-cons worth first rest, none, here)

first_same : (merges : List ClassMove) (move : ClassMove) → is_first (each_once merges) move ≡ is_first merges move
unfolding each_once
first_same [] move = refl
first_same (first ∷ more) move = refl

all_zero : (f : ClassMove → ℕ) (moves : List ClassMove) (move : ClassMove) → list_all (λ other. f other == 0) moves
    ≡ true → Contains moves move → f move ≡ 0
all_zero f [] move all found = absurd (Contains-nil move found)
all_zero f (first ∷ moves) move all found =
    let parts = and_parts (f first == 0) (list_all (λ other. f other == 0) moves) all in
    elim (Contains-cons_cases first moves move found) [
      | inl here ↦ ap f (sym here) ∙ eqb-true (f first) 0 parts.0
      | inr there ↦ all_zero f moves move parts.1 there
    ]

pub some_above : (f : ClassMove → ℕ) (moves : List ClassMove) → list_all (λ other. f other == 0) moves ≡ false
    → (move : ClassMove) × Contains moves move × (0 < f move)
some_above f [] all = absurd (true≢false all)
some_above f (first ∷ moves) all = elim (cases_eq (f first) 0) [
  | inl empty ↦
      let later = some_above f moves (rw (eq-eqb (f first) 0 empty) at all) in
      (later.0, Contains-later first moves later.0 later.1, later.2)
  | inr some ↦ (first, Contains-first first moves, omega (arith, some))
]

no_share : (first : Bool) (mass : ℤ) (move : ClassMove) → counted (share None first mass move)
    ≡ (if first then 1 else 0) * counted mass
no_share true mass move = omega arith
no_share false mass move = omega arith

-- the sum of the counts of a row is the mass
counts_add : (counts : List (ClassMove × ℤ)) (moves : List ClassMove) (mass : ℤ) (next : ClassMove → ℤ)
    → ((move : ClassMove) → next move ≡ count_of counts move)
    → ((move : ClassMove) → Contains moves move → pos 0 ≤ℤ next move) → sum_of (map next moves) ≡ mass
    → sum_by (row_count (Some counts)) moves ≡ counted mass
counts_add counts moves mass next is positive adds =
    sum_by_alike (row_count (Some counts)) (λ move. counted (next move)) moves
    (each_in (λ move. row_count (Some counts) move
    ≡ counted (next move)) moves (λ move found. ap counted (sym (is move))))
    ∙ sym (counted_total next moves (each_in (λ move. pos 0 ≤ℤ next move) moves positive))
    ∙ ap counted adds

shared_when : (none : Bool) (row : RowCounts) (first : ClassMove) (more : List ClassMove) (mass : ℤ)
    (next : ClassMove → ℤ)
    → list_all (λ other. row_count row other == 0) (first ∷ more) ≡ none
    → ((move : ClassMove) → next move ≡ share row (is_first (each_once (first ∷ more)) move) mass move)
    → ((move : ClassMove) → Contains (each_once (first ∷ more)) move → pos 0 ≤ℤ next move)
    → sum_of (map next (each_once (first ∷ more))) ≡ mass
    → IsSharedWhen none row (first ∷ more) mass next
shared_when true None first more mass next empty is positive adds =
    let one = first_alone first more in record {
      some = omega (arith, one);
      each = λ move found.
          rw one
          (omega (
            arith,
            ap counted (is move),
            no_share (is_first (each_once (first ∷ more)) move) mass move,
            ap (λ (b : Bool). cond {A = ℕ} b 1 0 * counted mass) (first_same (first ∷ more) move),
          ));
    }
shared_when true (Some counts) first more mass next empty is positive adds =
    let merges : List ClassMove = first ∷ more in
    let one = first_alone first more in
    let count_none : (move : ClassMove) → Contains (each_once merges) move → row_count (Some counts) move ≡ 0 =
    λ move found. all_zero (row_count (Some counts)) merges move empty (Contains-each_once merges move found) in
    let nothing : counted mass ≡ 0 =
    sym (counts_add counts (each_once merges) mass next is positive adds)
    ∙ sum_by_alike (row_count (Some counts)) (λ move. 0) (each_once merges) (each_in (λ move. row_count
    (Some counts) move ≡ 0) (each_once merges) count_none)
    ∙ sum_by_none (λ move. 0) (each_once merges) (λ move. refl) in
    record {
      some = omega (arith, one);
      each = λ move found. rw (one, nothing) (omega (arith, ap counted (is move), count_none move found));
    }
shared_when false None first more mass next empty is positive adds =
    absurd (false≢true (sym empty ∙ none_without (first ∷ more)))
shared_when false (Some counts) first more mass next empty is positive adds =
    let merges : List ClassMove = first ∷ more in
    let whole : sum_by (row_count (Some counts)) (each_once merges)
    ≡ counted mass = counts_add counts (each_once merges) mass next is positive adds in
    let above = some_above (row_count (Some counts)) merges empty in
    record {
      some =
          omega (
            arith,
            above.2,
            term_small (row_count (Some counts)) (each_once merges) above.0
                (each_once-Contains merges above.0 above.1),
          );
      each = λ move found. rw whole (ap (λ (z : ℤ). counted z * counted mass) (is move));
    }

-- masses that a row shares out are shared out by the shares
pub row_shares : (row : RowCounts) (merges : List ClassMove) (mass : ℤ) (next : ClassMove → ℤ) → HasFirst merges
    → ((move : ClassMove) → next move ≡ share row (is_first (each_once merges) move) mass move)
    → ((move : ClassMove) → Contains (each_once merges) move → pos 0 ≤ℤ next move)
    → sum_of (map next (each_once merges)) ≡ mass
    → IsSharedOut row merges mass next
row_shares row [] mass next some is positive adds = absurd (cc)
row_shares row (first ∷ more) mass next some is positive adds =
    let shared = shared_when (list_all (λ other. row_count row other == 0)
    (first ∷ more)) row first more mass next refl is positive adds in
    record { some = shared.some; each = shared.each }

pub some_merges : (question : Question) (moves : List Move) → HasFirst moves
    → HasFirst (map (merge (hands_of question)) moves)
some_merges question moves some = record {
  first = merge (hands_of question) some.first;
  more = map (merge (hands_of question)) some.more;
  parts = ap (map (merge (hands_of question))) some.parts;
}

-- the counts of a layout allow the class history of each play
pub play_allows : (question : Question) (west : Cards) (history : History) → IsPlay question west history
    → Allows question (counts_of (hands_of question) west) (merged (hands_of question) history)
play_allows question west history play =
    record { west = west; cards = history; play = play; counted = refl; merges = refl }

-- at each turn of a side that is realised the shares of its row stand as the masses
pub side_shares : (question : Question) (side : Side) (west : Cards) (history : History)
    → IsPlay question west history → IsOn question west history
    → AreRealised question side (counts_of (hands_of question) west)
    → side.plays (class_turn (view_after question history)) ≡ true
    → class_moves (view_after question history) side.counts ≡ merged_moves question west history
    → IsSharedOut (side.shares_at (merged (hands_of question) history)) (map (merge (hands_of question))
    (legal question west history))
    (mass_of question side (merged (hands_of question) history)) (λ move. mass_of question side (merged
    (hands_of question) history ++ move ∷ []))
side_shares question side west history play on realised plays same =
    let line : List ClassMove = merged (hands_of question) history in
    let counts : ClassLayout = counts_of (hands_of question) west in
    let allowed = play_allows question west history play in
    let next : ClassMove → ℤ = λ move. mass_of question side (line ++ move ∷ []) in
    row_shares (side.shares_at line) (map (merge (hands_of question)) (legal question west history))
    (mass_of question side line) next
    (some_merges question (legal question west history) on.some)
    (λ move. mass_shared question side line move plays
    ∙ ap (λ (l : List ClassMove). share (side.shares_at line) (is_first l move) (mass_of question side line) move) same)
    (λ move found. realised.positive (line ++ move ∷ [])
    ((allowed_moves question counts line move).1 (
      allowed,
      Contains-same move
          (sym on.moves) found,
    )))
    (ap (λ (l : List ClassMove). sum_of (map next l)) (sym on.moves) ∙ realised.shared line allowed plays)
