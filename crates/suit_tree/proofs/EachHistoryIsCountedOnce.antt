-- Which class histories are counted: each that counts allow and that goes past no decided position, once.
use Rattle.std.proofs.Common.{◌≡◌, ℕ, zero, suc, ◌≤◌, Bool, true, false, List, [], ◌∷◌, ◌++◌, length, map, refl, sym}
use Rattle.std.proofs.Common.{ap, ◌∙◌, subst, arith}
use Rattle.std.specs.Prelude.{◌↔◌, ◌≢◌, AllPairs, Contains, fold, if◌then◌else◌}
use Rattle.std.specs.List.{AllByRecursion, flat_map}
use Rattle.std.proofs.lemmas.Bool.{and_from, and_parts}
use Rattle.std.proofs.lemmas.List.{append-nil, append_assoc, append_cancel_left, length-append}
use Rattle.suit_lists.proofs.Elements.{Contains-first, Contains-later, each_at, each_gives}
use Rattle.suit_lists.proofs.FlatMaps.{Contains-flat_map, each_flat_map}
use Rattle.suit_lists.proofs.Once.{IsOnce, once_flat_map, once_pairs, once_unless}
use Rattle.suit_game.specs.declared.question.Question.{Question}
use Rattle.suit_game.specs.Validity.{IsValid}
use Rattle.suit_classes.specs.declared.class_moves.ClassMove.{ClassMove}
use Rattle.suit_classes.specs.declared.class_view.ClassView.{ClassView}
use Rattle.suit_classes.specs.ClassPlaces.{class_after, class_decided, class_moves, class_start, class_step}
use Rattle.suit_classes.proofs.DecidedStaysDecided.{class_histories_are_short}
use Rattle.suit_classes.proofs.SmallCounts.{class_after_move}
use Rattle.suit_classes.specs.WhatIsAllowed.{allows, allows_from, is_among}
use Rattle.suit_tree.specs.WhatIsCounted.{continued, counted_histories}
use Rattle.suit_tree.specs.Paths.{IsCounted}
use Rattle.suit_classes.proofs.SameMoves.{among-Contains, among_contained}
use Rattle.suit_tree.proofs.ToldIsAllowed.{listed_tells}
use Rattle.suit_classes.proofs.DistinctMoves.{once_class_moves}
use Rattle.suit_classes.specs.Classes.{sizes_of}
use Rattle.suit_layouts.specs.ClassLayouts.{class_layouts}
use Rattle.suit_game.specs.declared.limits.TheConstants.{MOST_MOVES}
use Rattle.suit_classes.specs.ClassMoves.{ClassHistory}

-- no position that moves go past is decided
unfoldable pub GoesOn : ClassView → List ClassMove → Type 0
GoesOn view [] = Unit {0}
GoesOn view (move ∷ moves) = (class_decided view ≡ false) × GoesOn (class_step view move) moves

-- the positions that moves go past are those before a further move
pub goes_past : (view : ClassView) (start later : List ClassMove) → GoesOn view (start ++ later) → (later ≡ [] → ⊥)
    → class_decided (fold class_step view start) ≡ false
unfolding GoesOn
goes_past view [] [] undecided some = absurd (some refl)
goes_past view [] (move ∷ later) undecided some = undecided.0
goes_past view (move ∷ start) later undecided some = goes_past (class_step view move) start later undecided.1 some

pub goes_on : (view : ClassView) (moves : List ClassMove)
    → ((start later : List ClassMove) → moves ≡ start ++ later → (later ≡ [] → ⊥)
    → class_decided (fold class_step view start) ≡ false) → GoesOn view moves
unfolding GoesOn
goes_on view [] past = tt
goes_on view (move ∷ moves) past = (
  past [] (move ∷ moves) refl (λ none. cc),
  goes_on (class_step view move) moves
      (λ start later is some. past (move ∷ start) later (ap (λ (l : List ClassMove). move ∷ l) is) some),
)

-- a history that goes on from another by at most so many moves, which counts allow, past no decided position
pub record Continues (more : ℕ) (question : Question) (counts : List ℕ) (before history : ClassHistory) : Type 0 where
  pub moves : List ClassMove
  pub parts : history ≡ before ++ moves
  pub few : length moves ≤ more
  pub allowed : allows_from counts (class_after question before) moves ≡ true
  pub undecided : GoesOn (class_after question before) moves

continues_none : (more : ℕ) (question : Question) (counts : List ℕ) (before : List ClassMove)
    → Continues more question counts before before
unfolding GoesOn allows_from
continues_none more question counts before =
    record { moves = []; parts = sym (append-nil before); few = omega arith; allowed = refl; undecided = tt }

continues_more : (more : ℕ) (question : Question) (counts : List ℕ) (before : List ClassMove) (move : ClassMove)
    (history : ClassHistory)
    → Contains (class_moves (class_after question before) counts) move
    → class_decided (class_after question before) ≡ false
    → Continues more question counts (before ++ move ∷ []) history → Continues (suc more) question counts before history
unfolding GoesOn allows_from
continues_more more question counts before move history found undecided goes =
    let view : ClassView = class_after question before in
    let after : class_after question (before ++ move ∷ []) ≡ class_step view move =
    class_after_move question before move in
    record {
      moves = move ∷ goes.moves;
      parts = goes.parts ∙ append_assoc before (move ∷ []) goes.moves;
      few = omega (arith, goes.few);
      allowed = and_from (is_among (class_moves view counts) move)
          (allows_from counts (class_step view move) goes.moves)
          (among_contained (class_moves view counts) move found)
          (subst (λ (v : ClassView). allows_from counts v goes.moves ≡ true) after goes.allowed);
      undecided = (undecided, subst (λ (v : ClassView). GoesOn v goes.moves) after goes.undecided);
    }

each_unless : (P : List ClassMove → Type 0) (b : Bool) (histories : List (List ClassMove))
    → (b ≡ false → AllByRecursion P histories)
    → AllByRecursion P (if b then [] else histories)
each_unless P true histories each = tt
each_unless P false histories each = each refl

-- each history that is listed goes on so
pub continued_go : (more : ℕ) (question : Question) (counts : List ℕ) (before : List ClassMove)
    → AllByRecursion (Continues more question counts before) (continued more question counts before)
unfolding continued
continued_go zero question counts before = (continues_none zero question counts before, tt)
continued_go (suc more) question counts before =
    let view : ClassView = class_after question before in
    let next : ClassMove → List (List ClassMove) = λ move. continued more question counts (before ++ move ∷ []) in (
      continues_none (suc more) question counts before,
      each_unless (Continues (suc more) question counts before) (class_decided view)
          (flat_map next (class_moves view counts))
          (λ undecided. each_flat_map (Continues (suc more) question counts before) next (class_moves view counts)
          (λ move found. each_gives (Continues more question counts (before ++ move ∷ []))
          (Continues (suc more) question counts before) (next move)
          (λ history goes. continues_more more question counts before move history found undecided goes)
          (continued_go more question counts (before ++ move ∷ [])))),
    )

-- and each that goes on so is listed
pub Contains-continued : (more : ℕ) (question : Question) (counts : List ℕ) (before moves : List ClassMove)
    → length moves ≤ more
    → allows_from counts (class_after question before) moves ≡ true → GoesOn (class_after question before) moves
    → Contains (continued more question counts before) (before ++ moves)
unfolding continued allows_from GoesOn
Contains-continued zero question counts before [] few allowed undecided =
    subst (λ (h : ClassHistory). Contains (before ∷ []) h) (sym (append-nil before)) (Contains-first before [])
Contains-continued zero question counts before (move ∷ moves) few allowed undecided = absurd (omega arith)
Contains-continued (suc more) question counts before [] few allowed undecided =
    let later : List (List ClassMove) =
    if class_decided (class_after question before) then []
    else flat_map (λ move. continued more question counts (before ++ move ∷ []))
    (class_moves (class_after question before) counts) in
    subst (λ (h : ClassHistory). Contains (before ∷ later) h) (sym (append-nil before)) (Contains-first before later)
Contains-continued (suc more) question counts before (move ∷ moves) few allowed undecided =
    let view : ClassView = class_after question before in
    let next : ClassMove → List (List ClassMove) = λ move. continued more question counts (before ++ move ∷ []) in
    let all : List (List ClassMove) = flat_map next (class_moves view counts) in
    let after : class_after question (before ++ move ∷ []) ≡ class_step view move =
    class_after_move question before move in
    let parts = and_parts (is_among (class_moves view counts) move) (allows_from counts (class_step view move) moves)
    allowed in
    let there : Contains (next move) (before ++ move ∷ moves) =
    subst (λ (h : ClassHistory). Contains (next move) h) (append_assoc before (move ∷ []) moves)
    (Contains-continued more question counts (before ++ move ∷ []) moves (omega (arith, few))
    (subst (λ (v : ClassView). allows_from counts v moves ≡ true) (sym after) parts.1)
    (subst (λ (v : ClassView). GoesOn v moves) (sym after) undecided.1)) in
    Contains-later before (if class_decided view then [] else all) (before ++ move ∷ moves)
    (subst (λ (b : Bool). Contains (if b then [] else all) (before ++ move ∷ moves)) (sym undecided.0)
    (Contains-flat_map next (class_moves view counts) move (before ++ move
    ∷ moves) (among-Contains (class_moves view counts) move parts.0) there))

longer : (before : List ClassMove) (move : ClassMove) (moves history : ClassHistory)
    → history ≡ (before ++ move ∷ []) ++ moves → before ≡ history → ⊥
longer before move moves history parts same =
    let whole : length before ≡ length (before ++ move ∷ moves) =
    ap length (same ∙ parts ∙ append_assoc before (move ∷ []) moves) in
    omega (arith, whole, length-append before (move ∷ moves))

first_move : (move other : ClassMove) (moves others : List ClassMove) → move ∷ moves ≡ other ∷ others → move ≡ other
first_move move other moves others same = cc

parted : (before : List ClassMove) (move other : ClassMove) (moves others here there : List ClassMove)
    → here ≡ (before ++ move ∷ []) ++ moves
    → there ≡ (before ++ other ∷ []) ++ others → here ≡ there → move ≡ other
parted before move other moves others here there parts pieces same =
    first_move move other moves others
    (append_cancel_left before (move ∷ moves) (other ∷ others)
    (sym (append_assoc before (move ∷ []) moves) ∙ sym parts ∙ same ∙ pieces ∙ append_assoc before (other ∷ []) others))

-- no history is listed twice
pub continued_once : (more : ℕ) (question : Question) (counts : List ℕ) (before : List ClassMove)
    → IsOnce (continued more question counts before)
unfolding continued IsOnce
continued_once zero question counts before = (tt, tt)
continued_once (suc more) question counts before =
    let view : ClassView = class_after question before in
    let next : ClassMove → List (List ClassMove) = λ move. continued more question counts (before ++ move ∷ []) in
    let goes : (move : ClassMove) (history : ClassHistory) → Contains (next move) history
    → Continues more question counts (before ++ move ∷ []) history =
    λ move history found.
    each_at (Continues more question counts (before ++ move ∷ [])) (next move) history
    (continued_go more question counts (before ++ move ∷ [])) found in (
      each_unless (λ history. before ≡ history → ⊥) (class_decided view) (flat_map next (class_moves view counts))
          (λ undecided. each_flat_map (λ history. before ≡ history → ⊥) next (class_moves view counts)
          (λ move found. each_gives (Continues more question counts (before ++ move ∷ [])) (λ history. before ≡ history
          → ⊥) (next move)
          (λ history go. longer before move go.moves history go.parts)
          (continued_go more question counts (before ++ move ∷ [])))),
      once_unless (class_decided view) (flat_map next (class_moves view counts))
          (once_flat_map next (class_moves view counts) (once_class_moves view counts)
          (λ move. continued_once more question counts (before ++ move ∷ []))
          (λ move other apart here there found within same.
          let go = goes move here found in
          let goes_too = goes other there within in
          apart (parted before move other go.moves goes_too.moves here there go.parts goes_too.parts same))),
    )

-- exactly the histories that counts allow and that go past no decided position are counted
pub counted_exactly : (question : Question) (counts : List ℕ) (history : ClassHistory) → IsValid question
    → Contains (map (λ (layout : List ℕ × ℕ). layout.0) (class_layouts question (sizes_of question))) counts
    → Contains (counted_histories question counts) history ↔ IsCounted question counts history
unfolding counted_histories allows
counted_exactly question counts history valid layout = (
  λ found.
      let goes = each_at (Continues MOST_MOVES question counts []) (continued MOST_MOVES question counts []) history
      (continued_go MOST_MOVES question counts []) found in
      record {
        allowed = (listed_tells question counts history valid layout).0
            (subst (λ (h : ClassHistory). allows_from counts (class_start question) h
            ≡ true) (sym goes.parts) goes.allowed);
        undecided = λ start rest is some. goes_past (class_start question) start rest
            (subst (GoesOn (class_start question)) (sym goes.parts ∙ is) goes.undecided) some;
      },
  λ counted.
      Contains-continued MOST_MOVES question counts [] history
      (class_histories_are_short question counts history counted.allowed)
      ((listed_tells question counts history valid layout).1 counted.allowed)
      (goes_on (class_start question) history counted.undecided),
)

-- each once
pub counted_once : (question : Question) (counts : List ℕ)
    → AllPairs (λ here there. here ≢ there) (counted_histories question counts)
unfolding counted_histories
counted_once question counts = once_pairs (continued MOST_MOVES question counts []) (continued_once MOST_MOVES question counts [])
