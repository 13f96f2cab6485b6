-- sum_gathered, least_gathered, most_gathered: a turn gathers the sum of its moves, or the best of them, and then
-- the first move that is worth as much.
use Rattle.std.proofs.Common.{◌≡◌, ℕ, suc, ◌+◌, ◌⊎◌, Bool, true, false, cond, List, [], ◌∷◌, ◌++◌, length, map, refl}
use Rattle.std.proofs.Common.{sym, ap, ◌∙◌, subst, inl, inr, arith}
use Rattle.std.specs.Prelude.{filter, fold, nat_lt, ◌==◌, ◌||◌, if◌then◌else◌, ℤ, pos, ◌+ℤ◌, int_lt}
use Rattle.std.specs.Int.{int_min, int_max}
use Rattle.std.specs.List.{flat_map}
use Rattle.std.specs.Ordering.{int_eq}
use Rattle.std.proofs.lemmas.Bool.{cases_Bool, false_from_ne_true}
use Rattle.std.proofs.lemmas.Bool.Decides.{Decides-int_eq, nat_tests, not_from_Decides}
use Rattle.std.proofs.lemmas.Int.{ints, clamps}
use Rattle.std.proofs.lemmas.List.{append-nil, append_assoc, map-append}
use Rattle.std.proofs.lemmas.List.Sums.{fold-append}
use Rattle.suit_classes.specs.declared.class_moves.ClassMove.{ClassMove}
use Rattle.suit_classes.specs.ClassMoves.{ClassHistory}
use Rattle.suit_plans.specs.BestReplies.{best_of, first_of}
use Rattle.suit_plans.specs.Properness.{sum_of}
use Rattle.suit_reply.specs.declared.chosen_move.ChosenMove.{ChosenMove}
use Rattle.suit_reply.specs.declared.turn_rule.TurnRule.{TurnRule}
use Rattle.suit_reply.specs.declared.turn_rule.TurnRule.TheVariants.{Sum, Least, Most}
use Rattle.suit_reply.specs.NodeReplies.{NodeReplyView}
use Rattle.suit_reply.specs.Turns.{TurnView, finished, gathered, gathered_none, joined, taken}
use Rattle.suit_reply.proofs.ChoicesAlongAReply.WalkOfAReply.{choice_at}

-- the moves, each with what is found below it
abbrev pub results_of : (ClassMove → NodeReplyView) → List ClassMove → List (ClassMove × NodeReplyView)
results_of found moves = map (λ move. (move, found move)) moves

-- what each move is worth
abbrev pub worths_of : (ClassMove → NodeReplyView) → List ClassMove → List ℤ
worths_of found moves = map (λ move. (found move).worth) moves

-- the first of the moves that are worth so much
abbrev pub first_worth : (ClassMove → NodeReplyView) → ℤ → List ClassMove → ClassMove
first_worth found worth moves = first_of (filter (λ move. int_eq (found move).worth worth) moves)

-- ---- sums

-- a worth and choices
abbrev pub found_with : ℤ → List ChosenMove → NodeReplyView
found_with worth choices = record { worth = worth; choices = choices }

-- equal worths and equal choices are found alike
pub same_found : (worth other : ℤ) (choices others : List ChosenMove) → worth ≡ other → choices ≡ others
    → found_with worth choices ≡ found_with other others
same_found worth other choices others same alike =
    ap (λ (w : ℤ). found_with w choices) same ∙ ap (found_with other) alike

summed_on : (found : ClassMove → NodeReplyView) (moves : List ClassMove) (so_far : TurnView)
    → (fold (λ so_far result. joined Sum so_far result.0 result.1) so_far (results_of found moves)).found
    ≡ found_with (so_far.found.worth +ℤ sum_of (worths_of found moves))
    (so_far.found.choices ++ flat_map (λ move. (found move).choices) moves)
unfolding sum_of
summed_on found [] so_far =
    same_found so_far.found.worth (so_far.found.worth +ℤ pos 0) so_far.found.choices (so_far.found.choices ++ [])
    (omega (arith, ints)) (sym (append-nil so_far.found.choices))
summed_on found (move ∷ moves) so_far =
    let next : TurnView = joined Sum so_far move (found move) in
    let later : ℤ = sum_of (worths_of found moves) in
    let rest : List ChosenMove = flat_map (λ other. (found other).choices) moves in
    summed_on found moves next
    ∙ same_found (next.found.worth +ℤ later) (so_far.found.worth +ℤ ((found move).worth +ℤ later))
    (next.found.choices ++ rest) (so_far.found.choices ++ ((found move).choices ++ rest))
    (omega (arith, ints)) (append_assoc so_far.found.choices (found move).choices rest)

-- a turn of the other side gathers the sum, and all choices in order
pub sum_gathered : (found : ClassMove → NodeReplyView) (moves : List ClassMove)
    → (gathered Sum (results_of found moves)).found
    ≡ found_with (sum_of (worths_of found moves)) (flat_map (λ move. (found move).choices) moves)
unfolding gathered
sum_gathered found moves =
    let later : ℤ = sum_of (worths_of found moves) in
    let rest : List ChosenMove = flat_map (λ move. (found move).choices) moves in
    summed_on found moves gathered_none
    ∙ same_found (pos 0 +ℤ later) later ([] ++ rest) rest (omega (arith, ints)) refl

-- ---- one result more

-- one result more is joined to those gathered
pub gathered-push : {X : Type 0} (rule : TurnRule) (told : X → ClassMove × NodeReplyView) (xs : List X) (x : X)
    → gathered rule (map told (xs ++ x ∷ [])) ≡ joined rule (gathered rule (map told xs)) (told x).0 (told x).1
unfolding gathered
gathered-push {X} rule told xs x =
    let step : TurnView → ClassMove × NodeReplyView → TurnView =
    λ so_far result. joined rule so_far result.0 result.1 in
    ap (fold step gathered_none) (map-append told xs (x ∷ []))
    ∙ fold-append step gathered_none (map told xs) (told x ∷ [])

taken_case : (b : Bool) (so_far : TurnView) (move : ClassMove) (found : NodeReplyView)
    → (if b then record { found = found; by = move; many = so_far.many + 1 }
    else record so_far { many = so_far.many + 1 }).many ≡ so_far.many + 1
taken_case true so_far move found = refl
taken_case false so_far move found = refl

taken_many : (better : Bool) (so_far : TurnView) (move : ClassMove) (found : NodeReplyView)
    → (taken better so_far move found).many ≡ so_far.many + 1
taken_many better so_far move found = taken_case (so_far.many == 0 || better) so_far move found

-- which makes one move more
pub joined_many : (rule : TurnRule) (so_far : TurnView) (move : ClassMove) (found : NodeReplyView)
    → (joined rule so_far move found).many ≡ so_far.many + 1
joined_many Sum so_far move found = refl
joined_many Least so_far move found = taken_many (int_lt found.worth so_far.found.worth) so_far move found
joined_many Most so_far move found = taken_many (int_lt so_far.found.worth found.worth) so_far move found

-- ---- the best

-- a test of which of two worths is better, and the better of the two
record Chooses (better : ℤ → ℤ → Bool) (best : ℤ → ℤ → ℤ) : Type 0 where
  takes : (a b : ℤ) → better b a ≡ true → best a b ≡ b
  keeps : (a b : ℤ) → better b a ≡ false → best a b ≡ a
  joins : (a b c : ℤ) → best (best a b) c ≡ best a (best b c)
  absorbs : (a : ℤ) → best a a ≡ a
  apart : (a b c : ℤ) → better a b ≡ true → best a c ≡ c → b ≡ c → ⊥
  between : (a b c : ℤ) → better b a ≡ false → best a c ≡ c → (a ≡ c → ⊥) → b ≡ c → ⊥

least_chooses : Chooses (λ next so_far. int_lt next so_far) int_min
least_chooses = record {
  takes = λ a b h. grind (arith, ints, clamps);
  keeps = λ a b h. grind (arith, ints, clamps);
  joins = λ a b c. omega (arith, ints, clamps);
  absorbs = λ a. omega (arith, ints, clamps);
  apart = λ a b c h e s. grind (arith, ints, clamps);
  between = λ a b c h e n s. grind (arith, ints, clamps);
}

most_chooses : Chooses (λ next so_far. int_lt so_far next) int_max
most_chooses = record {
  takes = λ a b h. grind (arith, ints, clamps);
  keeps = λ a b h. grind (arith, ints, clamps);
  joins = λ a b c. omega (arith, ints, clamps);
  absorbs = λ a. omega (arith, ints, clamps);
  apart = λ a b c h e s. grind (arith, ints, clamps);
  between = λ a b c h e n s. grind (arith, ints, clamps);
}

-- the move kept, from one on along others
unfoldable picked : (ℤ → ℤ → Bool) → (ClassMove → NodeReplyView) → ClassMove → List ClassMove → ClassMove
picked better found move [] = move
picked better found move (next ∷ moves) =
    picked better found (if better (found next).worth (found move).worth then next else move) moves

first_here : (found : ClassMove → NodeReplyView) (worth : ℤ) (move : ClassMove) (moves : List ClassMove)
    → (found move).worth ≡ worth → first_worth found worth (move ∷ moves) ≡ move
first_here found worth move moves is =
    ap (λ (b : Bool). first_of (cond b (move ∷ filter (λ other. int_eq (found other).worth worth) moves)
    (filter (λ other. int_eq (found other).worth worth) moves)))
    ((Decides-int_eq (found move).worth worth).1 is)

first_later : (found : ClassMove → NodeReplyView) (worth : ℤ) (move : ClassMove) (moves : List ClassMove)
    → ((found move).worth ≡ worth → ⊥)
    → first_worth found worth (move ∷ moves) ≡ first_worth found worth moves
first_later found worth move moves other =
    ap (λ (b : Bool). first_of (cond b (move ∷ filter (λ other. int_eq (found other).worth worth) moves)
    (filter (λ other. int_eq (found other).worth worth) moves)))
    (false_from_ne_true (int_eq (found move).worth worth)
    (λ same. other ((Decides-int_eq (found move).worth worth).0 same)))

-- what is gathered where one move is kept of so many
abbrev kept_of : (ClassMove → NodeReplyView) → ClassMove → ℕ → TurnView
kept_of found move many = record { found = found move; by = move; many = many }

-- one move more, where the better of two is kept
abbrev take_better : (ℤ → ℤ → Bool) → TurnView → ClassMove × NodeReplyView → TurnView
take_better better so_far result = taken (better result.1.worth so_far.found.worth) so_far result.0 result.1

taken_more : (better : ℤ → ℤ → Bool) (found : ClassMove → NodeReplyView) (move next : ClassMove) (many : ℕ) (b : Bool)
    → (many == 0) ≡ false
    → taken b (kept_of found move many) next (found next) ≡ kept_of found (if b then next else move) (many + 1)
taken_more better found move next many true some =
    ap (λ (c : Bool). if c || true then kept_of found next (many + 1) else kept_of found move (many + 1)) some
taken_more better found move next many false some =
    ap (λ (c : Bool). if c || false then kept_of found next (many + 1) else kept_of found move (many + 1)) some

picked_on : (better : ℤ → ℤ → Bool) (found : ClassMove → NodeReplyView) (move : ClassMove) (moves : List ClassMove)
    (many : ℕ) → (many == 0) ≡ false
    → fold (take_better better) (kept_of found move many) (results_of found moves)
    ≡ kept_of found (picked better found move moves) (many + length moves)
unfolding picked
picked_on better found move [] many some = let all : many ≡ many + 0 = omega arith in ap (kept_of found move) all
picked_on better found move (next ∷ moves) many some =
    let kept : ClassMove = if better (found next).worth (found move).worth then next else move in
    let more : ((many + 1) == 0) ≡ false = grind (arith, nat_tests) in
    let all : many + 1 + length moves ≡ many + suc (length moves) = omega arith in
    ap (λ (g : TurnView). fold (take_better better) g (results_of found moves))
    (taken_more better found move next many (better (found next).worth (found move).worth) some)
    ∙ picked_on better found kept moves (many + 1) more
    ∙ ap (kept_of found (picked better found kept moves)) all

-- with the choice, if any, before those that follow
abbrev with_choice : ClassHistory → TurnView → Bool → NodeReplyView
with_choice history so_far chosen =
    if chosen then found_with so_far.found.worth (record { history = history; mv = so_far.by } ∷ so_far.found.choices)
    else so_far.found

choice_first : (history : ClassHistory) (found : ClassMove → NodeReplyView) (move : ClassMove) (many : ℕ) (worth : ℤ)
    → (found move).worth ≡ worth
    → with_choice history (kept_of found move many) (nat_lt 1 many)
    ≡ found_with worth (choice_at many history move ++ (found move).choices)
choice_first history found move many worth is =
    at (nat_lt 1 many) ∙ ap (λ (w : ℤ). found_with w (choice_at many history move ++ (found move).choices)) is
  where
    at : (chosen : Bool) → with_choice history (kept_of found move many) chosen
        ≡ found_with (found move).worth
        ((if chosen then record { history = history; mv = move } ∷ [] else []) ++ (found move).choices)
    at true = refl
    at false = refl

-- what a turn of the side that replies comes to, where it takes the best of its moves
abbrev pub best_found : (ℤ → ℤ → ℤ) → ClassHistory → (ClassMove → NodeReplyView) → List ClassMove → NodeReplyView
best_found best history found moves =
    let worth : ℤ = best_of best (worths_of found moves) in
    found_with worth (choice_at (length moves) history (first_worth found worth moves)
    ++ (found (first_worth found worth moves)).choices)

module _ (better : ℤ → ℤ → Bool) (best : ℤ → ℤ → ℤ) (chooses : Chooses better best) where
  -- the best of the first of some worths with another before it
  best_joined : (a b : ℤ) (worths : List ℤ) → best_of best (best a b ∷ worths) ≡ best a (best_of best (b ∷ worths))
  unfolding best_of
  best_joined a b [] = refl
  best_joined a b (c ∷ worths) = chooses.joins a b (best_of best (c ∷ worths))

  -- the first is no better than the best
  best_absorbs : (a : ℤ) (worths : List ℤ) → best a (best_of best (a ∷ worths)) ≡ best_of best (a ∷ worths)
  best_absorbs a worths =
      sym (best_joined a a worths) ∙ ap (λ (w : ℤ). best_of best (w ∷ worths)) (chooses.absorbs a)

  picked_worth : (found : ClassMove → NodeReplyView) (move : ClassMove) (moves : List ClassMove)
      → (found (picked better found move moves)).worth ≡ best_of best (worths_of found (move ∷ moves))
  unfolding picked best_of
  picked_worth found move [] = refl
  picked_worth found move (next ∷ moves) =
      let worth : ClassMove → ℤ = λ other. (found other).worth in
      let whole : best_of best (best (worth move) (worth next) ∷ worths_of found moves)
      ≡ best (worth move) (best_of best (worths_of found (next ∷ moves))) =
      best_joined (worth move) (worth next) (worths_of found moves) in
      elim (cases_Bool (better (worth next) (worth move))) [
        | inl takes ↦
            ap (λ (b : Bool). worth (picked better found (if b then next else move) moves)) takes
            ∙ picked_worth found next moves
            ∙ ap (λ (w : ℤ). best_of best (w ∷ worths_of found moves))
            (sym (chooses.takes (worth move) (worth next) takes)) ∙ whole
        | inr keeps ↦
            ap (λ (b : Bool). worth (picked better found (if b then next else move) moves)) keeps
            ∙ picked_worth found move moves
            ∙ ap (λ (w : ℤ). best_of best (w ∷ worths_of found moves))
            (sym (chooses.keeps (worth move) (worth next) keeps)) ∙ whole
      ]

  -- where the first is no worse than the next, the next is skipped
  first_skips : (found : ClassMove → NodeReplyView) (move next : ClassMove) (moves : List ClassMove) (value : ℤ)
      → better (found next).worth (found move).worth ≡ false → best (found move).worth value ≡ value
      → (int_eq (found move).worth value ≡ true) ⊎ (int_eq (found move).worth value ≡ false)
      → first_worth found value (move ∷ moves) ≡ first_worth found value (move ∷ next ∷ moves)
  first_skips found move next moves value keeps absorbs (inl same) =
      let is : (found move).worth ≡ value = (Decides-int_eq (found move).worth value).0 same in
      first_here found value move moves is ∙ sym (first_here found value move (next ∷ moves) is)
  first_skips found move next moves value keeps absorbs (inr differs) =
      let other : (found move).worth ≡ value → ⊥ =
      not_from_Decides (int_eq (found move).worth value) (Decides-int_eq (found move).worth value) differs in
      first_later found value move moves other
      ∙ sym (first_later found value next moves
      (chooses.between (found move).worth (found next).worth value keeps absorbs other))
      ∙ sym (first_later found value move (next ∷ moves) other)

  -- it is the first that is worth as much as the best
  picked_first : (found : ClassMove → NodeReplyView) (move : ClassMove) (moves : List ClassMove)
      → picked better found move moves
      ≡ first_worth found (best_of best (worths_of found (move ∷ moves))) (move ∷ moves)
  unfolding picked best_of
  picked_first found move [] = sym (first_here found (found move).worth move [] refl)
  picked_first found move (next ∷ moves) =
      let worth : ClassMove → ℤ = λ other. (found other).worth in
      let value : ℤ = best_of best (worths_of found (move ∷ next ∷ moves)) in
      let whole : best_of best (best (worth move) (worth next) ∷ worths_of found moves) ≡ value =
      best_joined (worth move) (worth next) (worths_of found moves) in
      elim (cases_Bool (better (worth next) (worth move))) [
        | inl takes ↦
            let same : best_of best (worths_of found (next ∷ moves)) ≡ value =
            ap (λ (w : ℤ). best_of best (w ∷ worths_of found moves))
            (sym (chooses.takes (worth move) (worth next) takes)) ∙ whole in
            let absorbs : best (worth next) value ≡ value =
            subst (λ (w : ℤ). best (worth next) w ≡ w) same (best_absorbs (worth next) (worths_of found moves)) in
            ap (λ (b : Bool). picked better found (if b then next else move) moves) takes
            ∙ picked_first found next moves
            ∙ ap (λ (w : ℤ). first_worth found w (next ∷ moves)) same
            ∙ sym (first_later found value move (next ∷ moves)
            (chooses.apart (worth next) (worth move) value takes absorbs))
        | inr keeps ↦
            let same : best_of best (worths_of found (move ∷ moves)) ≡ value =
            ap (λ (w : ℤ). best_of best (w ∷ worths_of found moves))
            (sym (chooses.keeps (worth move) (worth next) keeps)) ∙ whole in
            let absorbs : best (worth move) value ≡ value =
            subst (λ (w : ℤ). best (worth move) w ≡ w) same (best_absorbs (worth move) (worths_of found moves)) in
            ap (λ (b : Bool). picked better found (if b then next else move) moves) keeps
            ∙ picked_first found move moves
            ∙ ap (λ (w : ℤ). first_worth found w (move ∷ moves)) same
            ∙ first_skips found move next moves value keeps absorbs (cases_Bool (int_eq (worth move) value))
      ]

  best_taken : (found : ClassMove → NodeReplyView) (history : ClassHistory) (move : ClassMove) (moves : List ClassMove)
      → with_choice history (kept_of found (picked better found move moves) (1 + length moves))
      (nat_lt 1 (1 + length moves)) ≡ best_found best history found (move ∷ moves)
  best_taken found history move moves =
      let all : 1 + length moves ≡ suc (length moves) = omega arith in
      let worth : ℤ = best_of best (worths_of found (move ∷ moves)) in
      let mv : ClassMove = picked better found move moves in
      choice_first history found mv (1 + length moves) worth (picked_worth found move moves)
      ∙ ap (λ (n : ℕ). found_with worth (choice_at n history mv ++ (found mv).choices)) all
      ∙ ap (λ (m : ClassMove). found_with worth (choice_at (suc (length moves)) history m ++ (found m).choices))
      (picked_first found move moves)

-- a turn at which the least is taken
pub least_gathered : (history : ClassHistory) (found : ClassMove → NodeReplyView) (move : ClassMove)
    (moves : List ClassMove)
    → finished Least history (gathered Least (results_of found (move ∷ moves)))
    ≡ best_found int_min history found (move ∷ moves)
unfolding gathered
least_gathered history found move moves =
    ap (λ (g : TurnView). finished Least history g)
    (picked_on (λ next so_far. int_lt next so_far) found move moves 1 refl)
    ∙ best_taken (λ next so_far. int_lt next so_far) int_min least_chooses found history move moves

-- a turn at which the most is taken
pub most_gathered : (history : ClassHistory) (found : ClassMove → NodeReplyView) (move : ClassMove)
    (moves : List ClassMove)
    → finished Most history (gathered Most (results_of found (move ∷ moves)))
    ≡ best_found int_max history found (move ∷ moves)
unfolding gathered
most_gathered history found move moves =
    ap (λ (g : TurnView). finished Most history g)
    (picked_on (λ next so_far. int_lt so_far next) found move moves 1 refl)
    ∙ best_taken (λ next so_far. int_lt so_far next) int_max most_chooses found history move moves
