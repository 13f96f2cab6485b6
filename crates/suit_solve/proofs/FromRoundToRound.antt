-- A question on its way through the rounds (`first_round`, `next_legal`, `next_at`).
use Rattle.std.proofs.Common.{◌≡◌, ℕ, zero, suc, ◌+◌, ◌*◌, ◌<◌, ◌≤◌, Bool, true, false, List, [], length, refl}
use Rattle.std.proofs.Common.{sym, ap, ◌∙◌, subst, Some, None, Ok, Err, arith}
use Rattle.std.specs.Prelude.{Contains, get_or, not, sum_by, if◌then◌else◌}
use Rattle.std.proofs.lemmas.Bool.{le-ltb, lt-ltb}
use Rattle.suit_lists.proofs.Elements.{Contains-same, each_in}
use Rattle.suit_lists.proofs.Filters.{length_filter-most}
use Rattle.suit_lists.proofs.Maps.{Contains-map}
use Rattle.suit_cards.specs.Cards.{ClassLayout}
use Rattle.suit_game.specs.declared.question.Question.{Question}
use Rattle.suit_game.specs.Validity.{IsValid}
use Rattle.suit_game.specs.declared.limits.TheConstants.{MOST_NODES}
use Rattle.suit_classes.specs.declared.class_moves.ClassMove.{ClassMove}
use Rattle.suit_classes.specs.WhatIsAllowed.{every_move, is_among}
use Rattle.suit_classes.specs.ClassMoves.{ClassHistory}
use Rattle.suit_classes.specs.ClassPlaces.{ClassView, class_after, class_decided, class_moves, class_numbers}
use Rattle.suit_plans.specs.declared.moves.DeclarerMove.{DeclarerMove}
use Rattle.suit_plans.specs.declared.moves.DefenceMove.{DefenceMove}
use Rattle.suit_classes.proofs.EveryMove.{class_moves_listed}
use Rattle.suit_tree.specs.declared.tree_end.TreeEnd.{TreeEnd}
use Rattle.suit_tree.specs.declared.tree_end.TreeEnd.TheVariants as grown
use Rattle.suit_tree.specs.declared.tree.Tree.{Tree}
use Rattle.suit_tree.specs.Trees.{IsTreeOf}
use Rattle.suit_tree.specs.TreeEnds.{IsPastBudget}
use Rattle.suit_tree.proofs.EachHistoryIsCountedOnce.{counted_exactly}
use Rattle.suit_tree.specs.WhatIsCounted.{counted_histories, node_count}
use Rattle.suit_program.specs.Supports.Marks.{AreLegalIn, GoesPastNone, IsOwnMove, IsTheirMove}
use Rattle.suit_program.specs.Readings.ReadingLaws.{defence_read, plan_read}
use Rattle.suit_program.proofs.lemmas.Supports.TurnCases.{own_legal}
use Rattle.suit_plans.proofs.ReplyChoices.{least_choices, most_choices}
use Rattle.suit_solve.proofs.ReplyPlaces.{own_place, their_place}
use Rattle.std.proofs.lemmas.List.Elements.{All-from_recursion}
use Rattle.suit_lists.proofs.Sums.{sum_by-mul, sum_by_at_most, sum_by_constant}
use Rattle.suit_program.specs.Supports.{Support, first_support, layouts_of, legal_moves, supported_moves, with_moves}
use Rattle.suit_program.specs.declared.walks.reach.TheConstants.{MOST_NEXT}
use Rattle.suit_answer.specs.declared.answer.Answer.{Answer}
use Rattle.suit_solve.specs.declared.ends.SolveEnd.{SolveEnd}
use Rattle.suit_solve.specs.declared.ends.SolveEnd.TheVariants as ends
use Rattle.suit_solve.specs.Ends.{same_end}
use Rattle.suit_solve.specs.Fates.{IsEnd, fate, fate_after, fate_from, fate_in_rounds, lacking, lacking_at}
use Rattle.suit_solve.specs.Plays.{IsRoundEnd}
use Rattle.suit_solve.specs.Solving.{IsOnItsWay, IsUnbegun, SolvingView, Steps, first_view}
use Rattle.suit_solve.specs.Rounds.{RoundEnd, Met, Apart, round_end, round_within}
use Rattle.suit_solve.proofs.Growth.{apart_less}
use Rattle.suit_solve.proofs.Rounds.{IsApartAt, ReadsAt, reads}

-- ---- how many rounds there may be

every_length : length every_move ≡ MOST_NEXT
unfolding every_move class_numbers
every_length = refl

moves_few : (view : ClassView) (west : ClassLayout) → length (class_moves view west) ≤ MOST_NEXT
moves_few view west =
    subst (λ (moves : List ClassMove). length moves ≤ MOST_NEXT) (sym (class_moves_listed view west))
    (both (length_filter-most (is_among (class_moves view west)) every_move) every_length)
  where
    both : {a b : ℕ} → a ≤ b → b ≡ MOST_NEXT → a ≤ MOST_NEXT
    both p q = omega (arith, p, q)

legal_few : (question : Question) (west : ClassLayout) (history : ClassHistory)
    → length (legal_moves question west history) ≤ MOST_NEXT
legal_few question west history =
    by_decided (class_decided (class_after question history)) (class_moves (class_after question history) west)
    (moves_few (class_after question history) west)
  where
    by_decided : (b : Bool) (moves : List ClassMove) → length moves ≤ MOST_NEXT
        → length (if b then [] else moves) ≤ MOST_NEXT
    by_decided true moves few = omega arith
    by_decided false moves few = few

-- so many moves a class history lacks at most
few_lacking : (question : Question) (support : Support) (west : ClassLayout) (history : ClassHistory)
    → lacking_at question support west history ≤ MOST_NEXT
few_lacking question support west history =
    both (length_filter-most (λ move. not (is_among (supported_moves question support west history) move))
    (legal_moves question west history)) (legal_few question west history)
  where
    both : {a b : ℕ} → a ≤ b → b ≤ MOST_NEXT → a ≤ MOST_NEXT
    both p q = omega (arith, p, q)

each_sum : {X : Type 0} (f : X → ℕ) (xs : List X) → ((x : X) → f x ≤ MOST_NEXT) → sum_by f xs ≤ length xs * MOST_NEXT
each_sum f xs few = omega (arith, sum_by_at_most f (λ x. MOST_NEXT) xs few, sum_by_constant MOST_NEXT xs)

scaled_sum : {X : Type 0} (f g : X → ℕ) (xs : List X) → ((x : X) → f x ≤ g x * MOST_NEXT)
    → sum_by f xs ≤ sum_by g xs * MOST_NEXT
scaled_sum f g xs few =
    let most = sum_by_at_most f (λ x. MOST_NEXT * g x) xs (λ x. let one = few x in omega (arith, one)) in
    omega (arith, most, sum_by-mul MOST_NEXT g xs)

-- a support lacks no more than forty moves of each pair
lacking_few : (question : Question) (support : Support) → lacking question support ≤ node_count question * MOST_NEXT
unfolding lacking node_count
lacking_few question support =
    scaled_sum
    (λ (layout : ClassLayout × ℕ). sum_by (lacking_at question support layout.0) (counted_histories question layout.0))
    (λ (layout : ClassLayout × ℕ). length (counted_histories question layout.0)) (layouts_of question)
    (λ layout. each_sum (lacking_at question support layout.0) (counted_histories question layout.0)
    (few_lacking question support layout.0))

-- ---- on the way

-- a question has come to a support in a round: its fate is what becomes of it from there on
pub record IsAt (question : Question) (support : Support) (round : ℕ) : Type 0 where
  pub more : ℕ
  pub enough : lacking question support < more
  pub fated : fate question ≡ fate_from question more support round

-- a question whose tree was not grown has not begun, for the same cause
pub unbegun : (question : Question) (end : TreeEnd) → IsPastBudget (node_count question) question.nodes end
    → IsUnbegun question (same_end end)
unbegun question (grown.Nodes budget) past = past
unbegun question grown.Memory past = tt

-- and has ended for it
pub unbegun_end : (question : Question) (end : SolveEnd) → IsUnbegun question end → IsEnd question end
unfolding fate
unbegun_end question (ends.Nodes budget) past =
    ap (λ (b : Bool). if b then Err (ends.Nodes question.nodes) else fate_in_rounds question)
    (lt-ltb question.nodes (node_count question) past.1)
    ∙ ap (λ (n : ℕ). Err (ends.Nodes n)) (sym past.0)
unbegun_end question (ends.Support round) past = absurd past
unbegun_end question (ends.Pivots round) past = absurd past
unbegun_end question (ends.Wide round) past = absurd past
unbegun_end question ends.Memory past = tt

-- it begins with the support of first moves, where its tree is within the budget
pub first_round : (question : Question) (support : Support) → node_count question ≤ question.nodes
    → support ≡ first_support → IsAt question support 0
unfolding fate
first_round question support within is =
    subst (λ (other : Support). IsAt question other 0) (sym is) (record {
      more = suc (lacking question first_support);
      enough = one_more (lacking question first_support);
      fated = ap (λ (b : Bool). if b then Err (ends.Nodes question.nodes) else fate_in_rounds question)
          (le-ltb question.nodes (node_count question) within);
    })
  where
    one_more : (n : ℕ) → n < suc n
    one_more n = omega arith

-- on its way it is from the start
pub first_under_way : (question : Question) (tree : Tree) (support : Support) → IsValid question
    → IsTreeOf question tree → node_count question ≤ question.nodes → support ≡ first_support
    → IsOnItsWay question tree support 0
first_under_way question tree support valid grown within is =
    subst (λ (other : Support). IsOnItsWay question tree other 0) (sym is) (record {
      valid = valid;
      grown = grown;
      within = within;
      early = same (lacking question first_support);
    })
  where
    same : (n : ℕ) → 0 + n ≤ n
    same n = omega arith

-- no tree within the budget of any question has so many moves that a round's number is too wide
pub round_fits : (question : Question) (tree : Tree) (support : Support) (round : ℕ)
    → IsOnItsWay question tree support round → round ≤ MOST_NODES * MOST_NEXT
round_fits question tree support round way =
    small (lacking question support) (lacking question first_support) (node_count question) question.nodes way.early
    (lacking_few question first_support) way.within way.valid.nodes_most
  where
    small : (left first count nodes : ℕ) → round + left ≤ first → first ≤ count * MOST_NEXT → count ≤ nodes
        → nodes ≤ MOST_NODES → round ≤ MOST_NODES * MOST_NEXT
    small left first count nodes early few le most = omega (arith, early, few, le, most)

some_more : (less more : ℕ) → less < more → (left : ℕ) × (more ≡ suc left)
some_more less zero below = absurd (omega (arith, below))
some_more less (suc left) below = (left, refl)

-- a counted class history goes past no decided position
past_none : (question : Question) → IsValid question → (layout : ClassLayout × ℕ) (history : ClassHistory)
    → Contains (layouts_of question) layout → Contains (counted_histories question layout.0) history
    → GoesPastNone question history
past_none question valid layout history listed counted =
    ((counted_exactly question layout.0 history valid
    (Contains-map (λ (other : ClassLayout × ℕ). other.0) (layouts_of question) layout listed)).0 counted).undecided

-- ---- the next round

module _ (question : Question) (pivots : ℕ) (support : Support) (valid : IsValid question) (own : List DeclarerMove)
    (theirs : List DefenceMove) (ended : round_within question pivots support ≡ Apart own theirs) where
  apart : IsApartAt question support own theirs
  unfolding ReadsAt
  apart = subst (ReadsAt question support) ended (reads question pivots support valid)

  -- the support lacks fewer moves
  pub next_less : lacking question (with_moves question support own theirs) < lacking question support
  next_less = apart_less question support own theirs apart

  pub next_under_way : (tree : Tree) (round : ℕ) → IsOnItsWay question tree support round
      → IsOnItsWay question tree (with_moves question support own theirs) (round + 1)
  next_under_way tree round way = record {
    valid = way.valid;
    grown = way.grown;
    within = way.within;
    early = later (lacking question first_support) (lacking question support)
        (lacking question (with_moves question support own theirs)) way.early next_less;
  }
    where
      later : (first less fewer : ℕ) → round + less ≤ first → fewer < less → round + 1 + fewer ≤ first
      later first less fewer p q = omega (arith, p, q)

  pub own_move : (entry : DeclarerMove) → Contains own entry → IsOwnMove question entry
  own_move entry found =
      let listed = Contains-same entry (sym apart.own_is) found in
      let choice = most_choices question (defence_read question support apart.optimum) entry valid listed in
      let placed = own_place question valid (defence_read question support apart.optimum) entry listed in
      record {
        allowed = choice.allowed;
        past = past_none question valid placed.0 entry.history placed.1.listed placed.1.counted;
        turn = choice.turn;
        legal = Contains-same entry.mv
            (sym (own_legal question support placed.0.0 entry.history choice.going choice.turn)) placed.1.legal;
      }

  pub their_move : (entry : DefenceMove) → Contains theirs entry → IsTheirMove question entry
  their_move entry found =
      let listed = Contains-same entry (sym apart.theirs_is) found in
      let chosen = least_choices question (plan_read question support apart.optimum) entry valid listed in
      let placed = their_place question valid (plan_read question support apart.optimum) entry listed in
      record {
        listed = chosen.0;
        allowed = placed.0.allowed;
        past = past_none question valid (get_or (layouts_of question) entry.layout ([], 0)) entry.history
            placed.0.listed placed.0.counted;
        turn = placed.1;
        legal = placed.0.legal;
      }

  -- both replies may be added to the support
  abbrev pub next_legal : (tree : Tree) → IsTreeOf question tree → AreLegalIn tree own theirs
  next_legal tree grown = record {
    question = question;
    valid = valid;
    grown = grown;
    own_moves = All-from_recursion (IsOwnMove question) own (each_in (IsOwnMove question) own own_move);
    their_moves = All-from_recursion (IsTheirMove question) theirs (each_in (IsTheirMove question) theirs their_move);
  }

-- what is seen after a round
abbrev view_at : Question → Support → ℕ → SolvingView
view_at question support round = record { question = question; support = support; round = round }

pub next_seen : (question : Question) (round : ℕ) (after wanted : Support) → after ≡ wanted
    → view_at question after (round + 1) ≡ view_at question wanted (suc round)
next_seen question round after wanted is =
    ap (λ (support : Support). view_at question support (round + 1)) is
    ∙ ap (view_at question wanted) (one_more round)
  where
    one_more : (n : ℕ) → n + 1 ≡ suc n
    one_more n = omega arith

module _ (question : Question) (support : Support) (round : ℕ) (at : IsAt question support round) where
  -- what becomes of a question where a round ends so
  fated_by : (left : ℕ) → at.more ≡ suc left
      → fate question ≡ fate_after question support round (fate_from question left) (round_end question support)
  unfolding fate_from
  fated_by left is = at.fated ∙ ap (λ (n : ℕ). fate_from question n support round) is

  pub fate_of_met : (answer : Answer) → round_end question support ≡ Met answer → fate question ≡ Ok answer
  fate_of_met answer is =
      let some = some_more (lacking question support) at.more at.enough in
      fated_by some.0 some.1 ∙ ap (fate_after question support round (fate_from question some.0)) is

  pub fate_of_end : (end : SolveEnd) → IsRoundEnd (round_end question support) round end → IsEnd question end
  fate_of_end end is =
      let some = some_more (lacking question support) at.more at.enough in
      by_end some.0 end (fated_by some.0 some.1) is
    where
      by_end : (left : ℕ) (end : SolveEnd)
          → fate question ≡ fate_after question support round (fate_from question left) (round_end question support)
          → IsRoundEnd (round_end question support) round end → IsEnd question end
      by_end left (ends.Nodes budget) fated is = absurd is
      by_end left (ends.Support told) fated is =
          fated ∙ ap (fate_after question support round (fate_from question left)) is.0
          ∙ ap (λ (n : ℕ). Err (ends.Support n)) (sym is.1)
      by_end left (ends.Pivots told) fated is =
          fated ∙ ap (fate_after question support round (fate_from question left)) is.0
          ∙ ap (λ (n : ℕ). Err (ends.Pivots n)) (sym is.1)
      by_end left (ends.Wide told) fated is =
          fated ∙ ap (fate_after question support round (fate_from question left)) is.0
          ∙ ap (λ (n : ℕ). Err (ends.Wide n)) (sym is.1)
      by_end left ends.Memory fated is = tt

  -- and it goes on to the next round
  module _ (valid : IsValid question) (own : List DeclarerMove) (theirs : List DefenceMove)
      (ended : round_end question support ≡ Apart own theirs) where
    pub next_at : IsAt question (with_moves question support own theirs) (suc round)
    next_at =
        let some = some_more (lacking question support) at.more at.enough in
        let less = next_less question question.pivots support valid own theirs ended in
        record {
          more = some.0;
          enough = under at.more some.0 (lacking question support)
              (lacking question (with_moves question support own theirs)) some.1 at.enough less;
          fated = fated_by some.0 some.1
              ∙ ap (fate_after question support round (fate_from question some.0)) ended;
        }
      where
        under : (more left less fewer : ℕ) → more ≡ suc left → less < more → fewer < less → fewer < left
        under more left less fewer is p q = omega (arith, is, p, q)

-- ---- as it is seen

-- the fate of a question is what becomes of it from here on
pub record IsWayOf (question : Question) (view : SolvingView) : Type 0 where
  pub same : view.question ≡ question
  pub at : IsAt question view.support view.round

module _ (question : Question) (view : SolvingView) where
  pub way_begins : node_count view.question ≤ view.question.nodes → view ≡ first_view question → IsWayOf question view
  way_begins within is =
      let same = ap (λ (v : SolvingView). v.question) is in
      record {
        same = same;
        at = subst (IsAt question view.support) (sym (ap (λ (v : SolvingView). v.round) is))
            (first_round question view.support
            (subst (λ (q : Question). node_count q ≤ q.nodes) same within)
            (ap (λ (v : SolvingView). v.support) is));
      }

  module _ (way : IsWayOf question view) where
    ended_by : (end : RoundEnd) → round_within view.question question.pivots view.support ≡ end
        → round_end question view.support ≡ end
    ended_by end =
        subst (λ (q : Question). round_within q question.pivots view.support ≡ end
        → round_end question view.support ≡ end) (sym way.same) (λ is. is)

    pub way_met : (answer : Answer) (after : SolvingView) → Steps view question.pivots (Ok (Some answer)) after
        → fate question ≡ Ok answer
    way_met answer after step =
        fate_of_met question view.support view.round way.at answer (ended_by (Met answer) step.0)

    pub way_ends : (end : SolveEnd) (after : SolvingView) → Steps view question.pivots (Err end) after
        → IsEnd question end
    way_ends end after step =
        fate_of_end question view.support view.round way.at end
        (subst (λ (told : RoundEnd). IsRoundEnd told view.round end)
        (sym (ended_by (round_within view.question question.pivots view.support) refl)) step.0)

    module _ (valid : IsValid question) (after : SolvingView) (step : Steps view question.pivots (Ok None) after) where
      apart_here : round_end question view.support ≡ Apart step.0 step.1
      apart_here = ended_by (Apart step.0 step.1) step.2

      named : after.support ≡ with_moves question view.support step.0 step.1
      named = ap (λ (v : SolvingView). v.support) step.3
          ∙ ap (λ (q : Question). with_moves q view.support step.0 step.1) way.same

      pub way_less : lacking question after.support < lacking question view.support
      way_less =
          subst (λ (support : Support). lacking question support < lacking question view.support) (sym named)
          (next_less question question.pivots view.support valid step.0 step.1 apart_here)

      pub way_goes_on : IsWayOf question after
      way_goes_on = record {
        same = ap (λ (v : SolvingView). v.question) step.3 ∙ way.same;
        at = subst (IsAt question after.support) (sym (ap (λ (v : SolvingView). v.round) step.3))
            (subst (λ (support : Support). IsAt question support (suc view.round)) (sym named)
            (next_at question view.support view.round way.at valid step.0 step.1 apart_here));
      }
