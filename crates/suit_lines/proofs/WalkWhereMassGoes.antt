-- A walk through the class histories that some mass comes to: where it starts (`stands_first`), how it goes on
-- (`stands_next`), and which moves it finds (`moves_found`).
use Rattle.std.proofs.Common.{◌≡◌, ℕ, ◌+◌, ◌<◌, ◌≤◌, Bool, true, false, List, [], ◌∷◌, ◌++◌, length, get_or}
use Rattle.std.proofs.Common.{take, map, refl, sym, ap}
use Rattle.std.proofs.Common.{◌∙◌, subst, arith}
use Rattle.std.specs.Prelude.{codes, Contains, filter, ◌&&◌, not, nat_lt, All, if◌then◌else◌, ℤ, pos, ◌≤ℤ◌, ◌<ℤ◌}
use Rattle.std.specs.Prelude.{int_lt, FitsSigned}
use Rattle.std.specs.List.{flat_map}
use Rattle.std.specs.Int.{w128}
use Rattle.std.proofs.lemmas.Bool.{false≢true}
use Rattle.std.proofs.lemmas.Int.{ints}
use Rattle.std.proofs.lemmas.List.{append_assoc, flat_map_more, length-map, take_all}
use Rattle.std.proofs.lemmas.List.{take_more}
use Rattle.std.proofs.lemmas.List.Elements.{All-append, All-cons, Contains-get_or, filter_agree}
use Rattle.suit_lists.proofs.Elements.{Contains-same, first_of}
use Rattle.suit_lists.proofs.Filters.{any_map_kept, filter_of_map, kept_parts}
use Rattle.suit_lists.proofs.Maps.{Contains-map_from}
use Rattle.suit_lists.proofs.Tests.{any_alike}
use Rattle.suit_num.proofs.IntegerLaws.{int_le-true, int_lt-true}
use Rattle.suit_cards.specs.Cards.{ClassLayout, Text}
use Rattle.suit_game.specs.declared.question.Question.{Question}
use Rattle.suit_game.specs.Validity.{IsValid}
use Rattle.suit_classes.specs.declared.class_moves.ClassMove.{ClassMove}
use Rattle.suit_classes.specs.WhatIsAllowed.{allows, every_move, is_among}
use Rattle.suit_classes.specs.Classes.{class_count, hands_of, sizes_of}
use Rattle.suit_classes.specs.ClassMoves.{ClassHistory}
use Rattle.suit_classes.specs.ClassPlaces.{ClassView, class_after, class_decided, class_moves, class_start, class_turn}
use Rattle.suit_classes.specs.ClassPlaces.{turn_of}
use Rattle.suit_classes.proofs.AllowsOneMoveMore.{allows-push}
use Rattle.suit_classes.proofs.UndecidedHasAMove.{undecided_turn}
use Rattle.suit_layouts.specs.ClassLayouts.{class_layouts}
use Rattle.suit_plans.specs.BestReplies.{allowing_layouts, public_moves}
use Rattle.suit_plans.specs.Masses.{declarer, is_declarers, let_through, plan_mass}
use Rattle.suit_plans.specs.Properness.{IsProperPlan, some_allows}
use Rattle.suit_plans.specs.declared.plan.Plan.{Plan}
use Rattle.suit_plans.specs.declared.plan.Row.{Row}
use Rattle.suit_plans.proofs.RepliesAreBounded.{allowing_none, first_mass, some_allow_none}
use Rattle.suit_plans.proofs.MassSteps.{mass_of-push}
use Rattle.suit_plans.proofs.ProperPlans.{proper_plan}
use Rattle.suit_plans.proofs.PublicMoves.{allows_some, going_with, public_allowed, public_short, some_layout}
use Rattle.suit_plans.proofs.RowLimits.{some_allowed_short}
use Rattle.suit_game.specs.declared.limits.TheConstants.{MOST_MOVES}
use Rattle.suit_answer.specs.Letters.{class_letters}
use Rattle.suit_answer.specs.declared.answer.Answer.{Answer}
use Rattle.suit_answer.specs.Writable.{IsWritableMove}
use Rattle.suit_answer.proofs.OneFractionInLowestTerms.{some_from_one}
use Rattle.suit_lines.specs.Lines.{history_line, lines_of}
use Rattle.suit_lines.specs.Sentences.{choice_words, opening}
use Rattle.suit_lines.specs.Told.{is_live, is_told, live_shares, share_of}
use Rattle.suit_lines.specs.Values.{value_line}
use Rattle.suit_lines.specs.Walks.{StandsAt, allowing_counts, having, lines_from, moves_for, next_lines, own_line}
use Rattle.suit_lines.specs.Walks.{some_have}
use Rattle.suit_lines.proofs.LinesMoveByMove.{lines_first, lines_unfold, mass_less}
use Rattle.suit_lines.proofs.MovesCanBeWritten.{public_writable}

-- ---- the class layouts that allow a class history

some_counts : (question : Question) (history : ClassHistory) → IsValid question → some_allows question history ≡ true
    → 0 < length (allowing_counts question history)
unfolding allowing_counts
some_counts question history valid some =
    let found = some_layout question valid history some in
    omega (arith, found.1.1, length-map (allowing_layouts question history) (λ (layout : ClassLayout × ℕ). layout.0))

-- those that have a move allow the class history with the move
counts_next : (question : Question) (history : ClassHistory) (move : ClassMove) → IsValid question
    → having (class_after question history) (allowing_counts question history) move
    ≡ allowing_counts question (history ++ move ∷ [])
unfolding having allowing_counts
counts_next question history move valid =
    filter_of_map (λ counts. is_among (class_moves (class_after question history) counts) move)
    (λ (layout : ClassLayout × ℕ). layout.0) (allowing_layouts question history)
    ∙ ap (map (λ (layout : ClassLayout × ℕ). layout.0)) (going_with question valid history move)

-- ---- the moves

-- some class layout that allows a class history has a move where some allows the history with the move
have_allows : (question : Question) (history : ClassHistory) (move : ClassMove)
    → some_have (class_after question history) (allowing_counts question history) move
    ≡ some_allows question (history ++ move ∷ [])
unfolding allowing_counts some_allows
have_allows question history move =
    let layouts : List (ClassLayout × ℕ) = class_layouts question (sizes_of question) in
    any_map_kept (λ (layout : ClassLayout × ℕ). allows question layout.0 history)
    (λ (layout : ClassLayout × ℕ). layout.0)
    (λ counts. is_among (class_moves (class_after question history) counts) move) layouts
    ∙ any_alike (λ (layout : ClassLayout × ℕ). allows question layout.0 history
    && is_among (class_moves (class_after question history) layout.0) move)
    (λ (layout : ClassLayout × ℕ). allows question layout.0 (history ++ move ∷ [])) layouts
    (λ layout. sym (allows-push question layout.0 history move))

-- so the moves that they have are those with which the class history goes on
pub moves_found : (question : Question) (history : ClassHistory)
    → moves_for (class_after question history) (allowing_counts question history) ≡ public_moves question history
unfolding moves_for
moves_found question history =
    let view : ClassView = class_after question history in
    ap (λ (moves : List ClassMove). if class_decided view then [] else moves)
    (filter_agree (some_have view (allowing_counts question history))
    (λ move. some_allows question (history ++ move ∷ []))
    (have_allows question history) every_move)

-- ---- the walk

none_writable : (question : Question) → All (IsWritableMove (class_count (hands_of question))) []
none_writable question = λ k d below. absurd (omega arith)

pub stands_first : (question : Question) (plan : Plan) (counts : List ClassLayout) → IsValid question
    → IsProperPlan question plan
    → counts ≡ map (λ (layout : ClassLayout × ℕ). layout.0) (class_layouts question (sizes_of question))
    → StandsAt question plan [] (class_start question) plan.den counts
unfolding allowing_counts
stands_first question plan counts valid proper are =
    let listed : counts ≡ allowing_counts question [] =
    are ∙ ap (map (λ (layout : ClassLayout × ℕ). layout.0)) (sym (allowing_none question)) in
    record {
      valid = valid;
      proper = proper;
      place = refl;
      mass_is = sym (first_mass question plan);
      counts_are = listed;
      live = some_from_one plan.den (int_le-true (pos 1) plan.den (proper_plan question plan proper).0);
      some = subst (λ (l : List ClassLayout). 0 < length l) (sym listed)
          (some_counts question [] valid (some_allow_none question valid));
      writable = none_writable question;
    }

-- what a live share is of
pub record IsShare (question : Question) (plan : Plan) (history : ClassHistory) (share : ClassMove × ℤ) : Type 0 where
  pub goes : Contains (public_moves question history) share.0
  pub mass_is : share.1 ≡ plan_mass question plan (history ++ share.0 ∷ [])
  pub live : pos 0 <ℤ share.1

pub share_parts : (question : Question) (plan : Plan) (history : ClassHistory) (share : ClassMove × ℤ)
    → Contains (live_shares question plan history) share → IsShare question plan history share
unfolding live_shares
share_parts question plan history share found =
    let kept = kept_parts is_live (map (share_of question plan history) (public_moves question history)) share found in
    let from = Contains-map_from (share_of question plan history) (public_moves question history) share kept.0 in
    record {
      goes = subst (Contains (public_moves question history)) (ap (λ (s : ClassMove × ℤ). s.0) from.2) from.1;
      mass_is = sym (ap (λ (s : ClassMove × ℤ). s.1) from.2)
          ∙ ap (λ (move : ClassMove). plan_mass question plan (history ++ move ∷ []))
          (ap (λ (s : ClassMove × ℤ). s.0) from.2);
      live = int_lt-true (pos 0) share.1 kept.1;
    }

pub stands_next : (question : Question) (plan : Plan) (history : ClassHistory) (view : ClassView) (mass : ℤ)
    (all : List ClassLayout) (share : ClassMove × ℤ) (next : ClassView) (kept : List ClassLayout)
    → StandsAt question plan history view mass all → Contains (live_shares question plan history) share
    → next ≡ class_after question (history ++ share.0 ∷ []) → kept ≡ having view all share.0
    → StandsAt question plan (history ++ share.0 ∷ []) next share.1 kept
stands_next question plan history view mass all share next kept stands found is are =
    let part = share_parts question plan history share found in
    let allowed = public_allowed question stands.valid history share.0 part.goes in
    let listed : kept ≡ allowing_counts question (history ++ share.0 ∷ []) =
    are ∙ ap (λ (v : ClassView). having v all share.0) stands.place
    ∙ ap (λ (l : List ClassLayout). having (class_after question history) l share.0) stands.counts_are
    ∙ counts_next question history share.0 stands.valid in
    record {
      valid = stands.valid;
      proper = stands.proper;
      place = is;
      mass_is = part.mass_is;
      counts_are = listed;
      live = part.live;
      some = subst (λ (l : List ClassLayout). 0 < length l) (sym listed)
          (some_counts question (history ++ share.0 ∷ []) stands.valid allowed);
      writable = All-append (IsWritableMove (class_count (hands_of question))) history (share.0 ∷ []) stands.writable
          (one_writable question share.0 (public_writable question history share.0 stands.valid part.goes));
    }
  where
    one_writable : (question : Question) (move : ClassMove) → IsWritableMove (class_count (hands_of question)) move
        → All (IsWritableMove (class_count (hands_of question))) (move ∷ [])
    one_writable question move is =
        All-cons (IsWritableMove (class_count (hands_of question))) move [] is (none_writable question)

counts_short : (question : Question) (history : ClassHistory) → IsValid question
    → 0 < length (allowing_counts question history) → length history ≤ MOST_MOVES
unfolding allowing_counts
counts_short question history valid some =
    let layout = first_of (allowing_layouts question history)
    (omega (arith, some, length-map (allowing_layouts question history) (λ (other : ClassLayout × ℕ). other.0))) in
    some_allowed_short question history valid (sym (allows_some question valid history layout.0 layout.1))

-- where a walk stands at most 52 moves were made
pub stands_short : (question : Question) (plan : Plan) (history : ClassHistory) (view : ClassView) (mass : ℤ)
    (all : List ClassLayout) → StandsAt question plan history view mass all → length history ≤ MOST_MOVES
stands_short question plan history view mass all stands =
    let some : 0 < length (allowing_counts question history) =
    subst (λ (l : List ClassLayout). 0 < length l) stands.counts_are stands.some in
    counts_short question history stands.valid some

-- ---- what is told there

pub moves_are : (question : Question) (plan : Plan) (history : ClassHistory) (view : ClassView) (mass : ℤ)
    (all : List ClassLayout) (moves : List ClassMove) → StandsAt question plan history view mass all
    → moves ≡ moves_for view all → moves ≡ public_moves question history
moves_are question plan history view mass all moves stands are =
    are ∙ ap (λ (v : ClassView). moves_for v all) stands.place
    ∙ ap (moves_for (class_after question history)) stands.counts_are ∙ moves_found question history

pub shares_are : (question : Question) (plan : Plan) (history : ClassHistory) (moves : List ClassMove)
    (shares : List (ClassMove × ℤ)) → moves ≡ public_moves question history
    → shares ≡ filter is_live (map (share_of question plan history) moves)
    → shares ≡ live_shares question plan history
unfolding live_shares
shares_are question plan history moves shares goes are =
    are ∙ ap (λ (l : List ClassMove). filter is_live (map (share_of question plan history) l)) goes

told_case : (decided own choice live : Bool) → live ≡ true → (own ≡ true → decided ≡ false)
    → (own && choice) ≡ (not decided && own && choice && live)
told_case decided own choice false is going = absurd (false≢true is)
told_case true true choice true is going = absurd (false≢true (sym (going refl)))
told_case false true true true is going = refl
told_case false true false true is going = refl
told_case true false choice true is going = refl
told_case false false choice true is going = refl

pub live_is : (z : ℤ) → pos 0 <ℤ z → int_lt (pos 0) z ≡ true
live_is z some = grind (arith, ints)

-- the plan is told of a class history where declarer has a choice
pub choice_told : (question : Question) (plan : Plan) (history : ClassHistory) (view : ClassView) (mass : ℤ)
    (all : List ClassLayout) (moves : List ClassMove) → StandsAt question plan history view mass all
    → moves ≡ public_moves question history
    → (is_declarers (class_turn view) && nat_lt 1 (length moves)) ≡ is_told question plan history
choice_told question plan history view mass all moves stands goes =
    let here : ClassView = class_after question history in
    ap (λ (v : ClassView). is_declarers (class_turn v) && nat_lt 1 (length moves)) stands.place
    ∙ ap (λ (l : List ClassMove). is_declarers (class_turn here) && nat_lt 1 (length l)) goes
    ∙ told_case (class_decided here) (is_declarers (class_turn here))
    (nat_lt 1 (length (public_moves question history)))
    (int_lt (pos 0) (plan_mass question plan history))
    (live_is (plan_mass question plan history) (subst (λ (z : ℤ). pos 0 <ℤ z) stands.mass_is stands.live))
    (λ on. undecided_turn is_declarers (class_decided here) (turn_of here.trick) refl on)

-- its line
pub line_written : (question : Question) (plan : Plan) (history : ClassHistory) (view : ClassView) (mass : ℤ)
    (all : List ClassLayout) (letters : Text) (shares : List (ClassMove × ℤ))
    → StandsAt question plan history view mass all
    → letters ≡ class_letters (hands_of question) → shares ≡ live_shares question plan history
    → opening letters (class_start question) history
    ++ choice_words letters (class_turn view) mass shares ++ codes ".\n"
    ≡ history_line question plan history
unfolding history_line
line_written question plan history view mass all letters shares stands letters_are shares_are =
    ap (λ (l : Text). opening l (class_start question) history ++ choice_words l (class_turn view) mass shares
    ++ codes ".\n") letters_are
    ∙ ap (λ (v : ClassView). opening (class_letters (hands_of question)) (class_start question) history
    ++ choice_words (class_letters (hands_of question)) (class_turn v) mass shares ++ codes ".\n") stands.place
    ∙ ap (λ (z : ℤ). opening (class_letters (hands_of question)) (class_start question) history
    ++ choice_words (class_letters (hands_of question)) (class_turn (class_after question history)) z shares
    ++ codes ".\n") stands.mass_is
    ∙ ap (λ (l : List (ClassMove × ℤ)). opening (class_letters (hands_of question)) (class_start question) history
    ++ choice_words (class_letters (hands_of question)) (class_turn (class_after question history))
    (plan_mass question plan history) l ++ codes ".\n") shares_are

-- each of its shares can be written
pub shares_writable : (question : Question) (plan : Plan) (history : ClassHistory) (shares : List (ClassMove × ℤ))
    → IsValid question → shares ≡ live_shares question plan history
    → All (λ share. IsWritableMove (class_count (hands_of question)) share.0) shares
shares_writable question plan history shares valid are =
    λ k d below.
    let share : ClassMove × ℤ = get_or shares k d in
    public_writable question history share.0 valid
    (share_parts question plan history share
    (Contains-same share are (Contains-get_or shares k d below))).goes

-- ---- steps of the walk

-- the lines of one share more
pub lines_more : (question : Question) (plan : Plan) (history longer : ClassHistory) (shares : List (ClassMove × ℤ))
    (i : ℕ) (d : ClassMove × ℤ) (base text new : Text) → i < length shares
    → text ≡ base ++ flat_map (next_lines question plan history) (take i shares)
    → new ≡ text ++ lines_from question plan longer → longer ≡ history ++ (get_or shares i d).0 ∷ []
    → new ≡ base ++ flat_map (next_lines question plan history) (take (i + 1) shares)
lines_more question plan history longer shares i d base text new below so_far next is =
    let write : ClassMove × ℤ → Text = next_lines question plan history in
    next ∙ ap (λ (h : ClassHistory). text ++ lines_from question plan h) is
    ∙ ap (λ (l : Text). l ++ write (get_or shares i d)) so_far
    ∙ flat_map_more write base (take i shares) (get_or shares i d)
    ∙ ap (λ (l : List (ClassMove × ℤ)). base ++ flat_map write l) (sym (take_more shares i d below))

-- all lines
pub lines_all : (question : Question) (plan : Plan) (history : ClassHistory) (shares : List (ClassMove × ℤ)) (i : ℕ)
    (old text new : Text) → IsValid question → IsProperPlan question plan → length history ≤ MOST_MOVES → length shares ≤ i
    → shares ≡ live_shares question plan history → text ≡ old ++ own_line question plan history
    → new ≡ text ++ flat_map (next_lines question plan history) (take i shares)
    → new ≡ old ++ lines_from question plan history
lines_all question plan history shares i old text new valid proper short past are own so_far =
    let write : ClassMove × ℤ → Text = next_lines question plan history in
    so_far ∙ ap (λ (l : List (ClassMove × ℤ)). text ++ flat_map write l) (take_all i shares past ∙ are)
    ∙ ap (λ (l : Text). l ++ flat_map write (live_shares question plan history)) own
    ∙ append_assoc old (own_line question plan history) (flat_map write (live_shares question plan history))
    ∙ ap (λ (l : Text). old ++ l) (sym (lines_unfold question plan valid proper history short))

-- a share is no more than the mass, and so fits where the mass does
pub share_fits : (question : Question) (plan : Plan) (history : ClassHistory) (view : ClassView) (mass : ℤ)
    (all : List ClassLayout) (share : ClassMove × ℤ) → StandsAt question plan history view mass all
    → Contains (live_shares question plan history) share → FitsSigned w128 mass → FitsSigned w128 share.1
share_fits question plan history view mass all share stands found fits =
    let part = share_parts question plan history share found in
    below share.1 (plan_mass question plan (history ++ share.0 ∷ [])) (plan_mass question plan history) mass part.live
    part.mass_is (mass_less question plan stands.valid stands.proper history share.0 part.goes) stands.mass_is fits
  where
    below : (z y m n : ℤ) → pos 0 <ℤ z → z ≡ y → y ≤ℤ m → n ≡ m → FitsSigned w128 n → FitsSigned w128 z
    below z y m n some same less is fits = omega (arith, ints)

-- a walk goes on to a longer history, which has room
pub stands_longer : (question : Question) (plan : Plan) (history : ClassHistory) (share : ClassMove × ℤ)
    → IsValid question → Contains (live_shares question plan history) share
    → length (history ++ share.0 ∷ []) ≤ MOST_MOVES
stands_longer question plan history share valid found =
    public_short question valid history share.0 (share_parts question plan history share found).goes

-- what the rows let through by a move is the mass of the class history with the move
pub let_is : (question : Question) (plan : Plan) (history : ClassHistory) (move : ClassMove) (rows : List Row)
    (mass value : ℤ) → rows ≡ plan.rows → mass ≡ plan_mass question plan history
    → value ≡ let_through question (declarer plan.den rows) history mass move
    → value ≡ plan_mass question plan (history ++ move ∷ [])
unfolding plan_mass
let_is question plan history move rows mass value same is told =
    told ∙ ap (λ (all : List Row). let_through question (declarer plan.den all) history mass move) same
    ∙ ap (λ (z : ℤ). let_through question (declarer plan.den plan.rows) history z move) is
    ∙ sym (mass_of-push question (declarer plan.den plan.rows) history move)

-- where a walk stands is told by what is there
pub stands_same : (question : Question) (plan : Plan) (history other : ClassHistory) (view place : ClassView)
    (mass number : ℤ) (all counts : List ClassLayout) → other ≡ history → place ≡ view → number ≡ mass → counts ≡ all
    → StandsAt question plan history view mass all → StandsAt question plan other place number counts
stands_same question plan history other view place mass number all counts h v m c stands =
    subst (λ (l : List ClassLayout). StandsAt question plan other place number l) (sym c)
    (subst (λ (z : ℤ). StandsAt question plan other place z all) (sym m)
    (subst (λ (w : ClassView). StandsAt question plan other w mass all) (sym v)
    (subst (λ (l : ClassHistory). StandsAt question plan l view mass all) (sym h) stands)))

-- the whole text
pub all_written : (question : Question) (answer : Answer) (history : ClassHistory) (start text new : Text)
    → start ≡ [] → history ≡ [] → text ≡ start ++ value_line question.goal answer.value
    → new ≡ text ++ lines_from question answer.plan history → new ≡ lines_of question answer
unfolding lines_of
all_written question answer history start text new none empty value lines =
    lines ∙ ap (λ (h : ClassHistory). text ++ lines_from question answer.plan h) empty
    ∙ ap (λ (l : Text). l ++ lines_from question answer.plan [])
    (value ∙ ap (λ (l : Text). l ++ value_line question.goal answer.value) none)
    ∙ ap (λ (l : Text). value_line question.goal answer.value ++ l) (lines_first question answer.plan)
