-- The layouts of positive weight under which a history is legal (IsLive), and what their moves do to them.
use Rattle.std.proofs.Common.{◌≡◌, ℕ, ◌<◌, Bool, true, false, List, [], ◌∷◌, ◌++◌, length, map, refl, sym, ap}
use Rattle.std.proofs.Common.{◌∙◌, subst, inl, inr, arith}
use Rattle.std.specs.Prelude.{Contains, bytes_eq, nat_lt, slice_index, ◌&&◌, ◌||◌, if◌then◌else◌}
use Rattle.std.specs.List.{filter}
use Rattle.std.proofs.lemmas.Bool.{and_from, and_parts, false≢true, false_from_ne_true, lt-ltb, ltb-true, ne_eqb}
use Rattle.std.proofs.lemmas.List.Elements.{Contains-append_cases, Contains-append_left, Contains-append_right}
use Rattle.std.proofs.lemmas.List.Elements.{filter_agree}
use Rattle.std.proofs.lemmas.Slice.Eq.{bytes_eq-Decides}
use Rattle.suit_lists.proofs.Elements.{Contains-if}
use Rattle.suit_lists.proofs.Filters.{Contains-filter, filter-filter, filter_same, kept_parts}
use Rattle.suit_lists.proofs.Maps.{Contains-map, Contains-map_from}
use Rattle.suit_lists.proofs.Tests.{passing_some}
use Rattle.suit_cards.specs.Cards.{Cards, ClassLayout}
use Rattle.suit_cards.specs.declared.seats.Seat.TheVariants.{N, S}
use Rattle.suit_cards.specs.Holdings.{holds}
use Rattle.suit_cards.proofs.WhetherARankIsHeld.{holds_tells}
use Rattle.suit_game.specs.declared.question.Question.{Question}
use Rattle.suit_game.specs.declared.moves.Move.{Move}
use Rattle.suit_game.specs.Gains.{is_declarer_turn}
use Rattle.suit_game.specs.Histories.{History}
use Rattle.suit_game.specs.Layouts.{layouts, weight}
use Rattle.suit_game.specs.PlaceViews.{IsPlay}
use Rattle.suit_game.specs.Positions.{Position, Trick, after, legal, start_place, step_in}
use Rattle.suit_game.specs.Validity.{IsValid}
use Rattle.suit_game.proofs.LayoutCards.{layouts_are_deals}
use Rattle.suit_game.proofs.LegalPlays.{after_move}
use Rattle.suit_classes.specs.declared.class_moves.ClassMove.{ClassMove}
use Rattle.suit_classes.specs.declared.class_moves.ClassMove.TheVariants.{Lead, Follow, ShowOut}
use Rattle.suit_classes.specs.WhatIsAllowed.{allows, every_move}
use Rattle.suit_classes.specs.Classes.{hands_of, sizes_of}
use Rattle.suit_classes.specs.ClassGame.{counts_of}
use Rattle.suit_classes.specs.ClassMoves.{merged}
use Rattle.suit_classes.specs.declared.class_view.ClassView.{ClassView}
use Rattle.suit_classes.specs.declared.class_trick.ClassTrick.{ClassTrick}
use Rattle.suit_classes.specs.declared.class_trick.ClassTrick.TheVariants.{Closed, Open}
use Rattle.suit_classes.specs.ClassPlaces.{class_moves_in, class_numbers, classes_left, counted_classes, left, may_lead}
use Rattle.suit_classes.specs.ClassPlaces.{or_show_out}
use Rattle.suit_classes.proofs.AllowedMoveByMove.{layouts_allow_none}
use Rattle.suit_classes.proofs.CountsAllowAsTold.{allows_tells, counts_alike}
use Rattle.suit_classes.proofs.DefenceSizes.{sum-defence_sizes}
use Rattle.suit_classes.proofs.AllowsOneMoveMore.{and-assoc, and-last}
use Rattle.suit_layouts.specs.ClassLayouts.{class_layouts, class_weight}
use Rattle.suit_layouts.proofs.CountsOfALayout.{layouts_listed}
use Rattle.suit_layouts.proofs.WhatHasWeightIsListed.{class_layouts_exact}
use Rattle.suit_plans.specs.Properness.{some_allows}
use Rattle.suit_lift.specs.Naming.{is_legal, is_one_of}
use Rattle.suit_lift.proofs.HowManyAreAlike.{alike_layouts, is_alike}
use Rattle.suit_lift.proofs.GoneAndLeft.{gone_of}
use Rattle.suit_lift.proofs.LegalMoves.{declarers_legal}
use Rattle.suit_lift.proofs.LegalIsTold.{legal_alike, legal_from_tells, legal_push, one_of_from, two_layouts}
use Rattle.suit_lift.proofs.WhatAMoveTakes.{MoveKind, OwnCard, OwnOut, TheirCard, TheirOut, move_kind}
use Rattle.suit_lift.proofs.SharesAreMasses.{play_allows}

abbrev pub is_live : Question → History → Cards → Bool
is_live question history west = nat_lt 0 (weight question (length west)) && is_legal question history west

unfoldable pub live_layouts : Question → History → List Cards
live_layouts question history = filter (is_live question history) (layouts question)

-- a history is legal under a layout that has a weight
pub record IsLive (question : Question) (west : Cards) (history : History) : Type 0 where
  pub play : IsPlay question west history
  pub weighs : 0 < weight question (length west)

pub live_is : (question : Question) (west : Cards) (history : History) → IsValid question
    → Contains (live_layouts question history) west → IsLive question west history
unfolding live_layouts
live_is question west history valid found =
    let from = kept_parts (is_live question history) (layouts question) west found in
    let parts = and_parts (nat_lt 0 (weight question (length west))) (is_legal question history west) from.1 in
    record {
      play =
          record {
            valid = valid;
            layout = from.0;
            legal = legal_from_tells question west
                (start_place question) history parts.1;
          };
      weighs = ltb-true 0 (weight question (length west)) parts.0;
    }

live_push : (question : Question) (west : Cards) (history : History) (move : Move)
    → is_live question (history ++ move ∷ []) west ≡ (is_live question history west
    && is_one_of (legal question west history) move)
live_push question west history move =
    ap (λ (b : Bool). nat_lt 0 (weight question (length west)) && b) (legal_push question west history move)
    ∙ and-assoc (nat_lt 0 (weight question (length west))) (is_legal question history west) (is_one_of
    (legal question west history) move)

-- those under which a move is legal are live after it
pub live_later : (question : Question) (history : History) (move : Move)
    → filter (λ west. is_one_of (legal question west history) move) (live_layouts question history)
    ≡ live_layouts question (history ++ move ∷ [])
unfolding live_layouts
live_later question history move =
    filter-filter (is_live question history) (λ west. is_one_of (legal question west history) move) (layouts question)
    ∙ filter_agree (λ west. is_live question history west
    && is_one_of (legal question west history) move) (is_live question (history ++ move ∷ []))
    (λ west. sym (live_push question west history move)) (layouts question)

-- after a move of declarer's the same layouts are live
pub live_kept : (question : Question) (history : History) (move : Move)
    → is_declarer_turn (after question history).trick ≡ true → Contains (legal question [] history) move
    → live_layouts question history ≡ live_layouts question (history ++ move ∷ [])
unfolding live_layouts
live_kept question history move own found =
    filter_agree (is_live question history) (is_live question (history ++ move ∷ []))
    (λ west. sym (live_push question west history move
    ∙ ap (λ (l : List Move). is_live question history west
    && is_one_of l move) (declarers_legal question west [] history own)
    ∙ ap (λ (b : Bool). is_live question history west && b) (one_of_from (legal question [] history) move found)
    ∙ and-last (is_live question history west))) (layouts question)

-- ---- the layouts that are alike

-- a layout is alike to itself
pub alike_some : (question : Question) (west gone : Cards) → Contains (layouts question) west
    → 0 < length (alike_layouts question west gone)
unfolding alike_layouts
alike_some question west gone found =
    let it = Contains-filter (is_alike question west gone) (layouts question) west found
    (and_from (bytes_eq (counts_of (hands_of question) west) (counts_of (hands_of question) west)) (bytes_eq
    (gone_of gone west) (gone_of gone west))
    ((bytes_eq-Decides (counts_of (hands_of question) west) (counts_of (hands_of question) west)).1 refl)
    ((bytes_eq-Decides (gone_of gone west) (gone_of gone west)).1 refl)) in
    omega (arith, it.1)

gone_away : (gone cards : Cards) (card : ℕ) → holds cards card ≡ false → gone_of (card ∷ gone) cards
    ≡ gone_of gone cards
gone_away gone cards card away =
    filter_same (holds (card ∷ gone)) (holds gone) cards
    (λ other found. ap (λ (b : Bool). b || holds gone other) (ne_eqb other card (λ same. false≢true (sym away
    ∙ (holds_tells cards card).1 (subst (Contains cards) same found)))))

own_kind : (question : Question) (west : Cards) (place : Position) (trick : Trick) (move : Move) → IsValid question
    → Contains (layouts question) west → is_declarer_turn trick ≡ true
    → MoveKind question west place trick move
    → alike_layouts question west (step_in question place trick move).gone ≡ alike_layouts question west place.gone
unfolding alike_layouts
own_kind question west place trick move valid layout own (OwnCard card on later away) =
    let apart : (other : Cards) → Contains (layouts question) other → holds other card ≡ false = λ other found.
    false_from_ne_true (holds other card)
    (λ held. false≢true (sym away ∙
    (layouts_are_deals question other valid.north valid.south valid.apart found).0.defenders card held)) in
    ap (λ (l : Cards). filter (is_alike question west l) (layouts question)) later
    ∙ filter_same (is_alike question west (card ∷ place.gone)) (is_alike question west place.gone) (layouts question)
    (λ other found. ap (λ (l : Cards). bytes_eq (counts_of (hands_of question) other) (counts_of
    (hands_of question) west) && bytes_eq l (gone_of (card ∷ place.gone) west))
    (gone_away place.gone other card (apart other found))
    ∙ ap (λ (l : Cards). bytes_eq (counts_of (hands_of question) other) (counts_of (hands_of question) west)
    && bytes_eq (gone_of place.gone other) l)
    (gone_away place.gone west card (apart west layout)))
own_kind question west place trick move valid layout own (OwnOut on later) =
    ap (λ (l : Cards). filter (is_alike question west l) (layouts question)) later
own_kind question west place trick move valid layout own
    (TheirCard turn card waits theirs lists is held later) = absurd (false≢true (sym waits ∙ own))
own_kind question west place trick move valid layout own (TheirOut turn waits theirs lists is none later) =
    absurd (false≢true (sym waits ∙ own))

-- a move of declarer's changes none of them
pub alike_kept : (question : Question) (west : Cards) (history : History) (move : Move)
    → IsPlay question west history → is_declarer_turn (after question history).trick ≡ true
    → Contains (legal question west history) move
    → alike_layouts question west (after question (history ++ move ∷ [])).gone
    ≡ alike_layouts question west (after question history).gone
alike_kept question west history move play own found =
    let place : Position = after question history in
    ap (λ (p : Position). alike_layouts question west p.gone) (after_move question history move)
    ∙ own_kind question west place place.trick move play.valid play.layout own
    (move_kind question west place place.trick move found)

-- ---- the layouts of a class layout that are live

same_alike : (question : Question) (west other : Cards) (history : History) → IsLive question west history
    → Contains (layouts question) other
    → (same : Bool) → bytes_eq (counts_of (hands_of question) other) (counts_of (hands_of question) west) ≡ same
    → is_alike question west (after question history).gone other ≡ (is_live question history other
    && bytes_eq (counts_of (hands_of question) other) (counts_of (hands_of question) west))
same_alike question west other history live found true told =
    let same : counts_of (hands_of question) other
    ≡ counts_of (hands_of question) west = (bytes_eq-Decides (counts_of (hands_of question) other) (counts_of
    (hands_of question) west)).0 told in
    let two = two_layouts question west other history live.play found same in
    let heavy : nat_lt 0 (weight question (length other)) ≡ true =
    ap (λ (n : ℕ). nat_lt 0 (weight question n)) (sym two.long)
    ∙ lt-ltb 0 (weight question (length west)) live.weighs in
    ap (λ (b : Bool). b && bytes_eq (gone_of (after question history).gone other) (gone_of
    (after question history).gone west)) told
    ∙ sym (legal_alike question west other history live.play found same)
    ∙ sym (ap (λ (b : Bool). (b && is_legal question history other)
    && bytes_eq (counts_of (hands_of question) other) (counts_of (hands_of question) west)) heavy
    ∙ ap (λ (b : Bool). is_legal question history other && b) told ∙ and-last (is_legal question history other))
same_alike question west other history live found false told =
    ap (λ (b : Bool). b && bytes_eq (gone_of (after question history).gone other) (gone_of
    (after question history).gone west)) told
    ∙ sym (ap (λ (b : Bool). is_live question history other && b) told ∙ none (is_live question history other))
  where
    none : (b : Bool) → (b && false) ≡ false
    none true = refl
    none false = refl

-- the layouts that are alike to a live one are the live ones with its counts
pub alike_live : (question : Question) (west : Cards) (history : History) → IsLive question west history
    → alike_layouts question west (after question history).gone
    ≡ filter (λ other. bytes_eq (counts_of (hands_of question) other) (counts_of (hands_of question) west))
    (live_layouts question history)
unfolding alike_layouts live_layouts
alike_live question west history live =
    filter_same (is_alike question west (after question history).gone)
    (λ other. is_live question history other
    && bytes_eq (counts_of (hands_of question) other) (counts_of (hands_of question) west)) (layouts question)
    (λ other found. same_alike question west other history live found (bytes_eq (counts_of
    (hands_of question) other) (counts_of (hands_of question) west)) refl)
    ∙ sym (filter-filter (is_live question history) (λ other. bytes_eq (counts_of (hands_of question) other)
    (counts_of (hands_of question) west)) (layouts question))

-- ---- what the counts of a live layout allow

-- the counts of a layout that has a weight are a class layout that has one
pub counts_listed : (question : Question) (west : Cards) (history : History) → IsLive question west history
    → Contains (class_layouts question (sizes_of question)) (
      counts_of
          (hands_of question) west,
      class_weight question (sizes_of question) (counts_of (hands_of question) west),
    )
counts_listed question west history live =
    let sizes = sizes_of question in
    let holding = (layouts_are_deals question west live.play.valid.north live.play.valid.south live.play.valid.apart
    live.play.layout).1 in
    let some : 0 < class_weight question sizes (counts_of (hands_of question) west) =
    subst (λ (counts : ClassLayout). 0 < class_weight question sizes counts) (counts_alike question west holding)
    (layouts_listed question sizes west live.play.layout live.weighs) in
    (class_layouts_exact question sizes (counts_of (hands_of question) west) (class_weight question sizes (counts_of
    (hands_of question) west)) (sum-defence_sizes (hands_of question))).1 (refl, some)

pub counts_allow : (question : Question) (west : Cards) (history : History) → IsPlay question west history
    → allows question (counts_of (hands_of question) west) (merged (hands_of question) history) ≡ true
counts_allow question west history play =
    (allows_tells question (counts_of (hands_of question) west) (merged (hands_of question) history)
    (layouts_allow_none question west play.valid play.layout)).1
    (play_allows question west history play)

-- some class layout allows what a live one does
pub some_allow : (question : Question) (west : Cards) (history : History) → IsLive question west history
    → some_allows question (merged (hands_of question) history) ≡ true
unfolding some_allows
some_allow question west history live =
    passing_some (λ (layout : List ℕ × ℕ). allows question layout.0 (merged (hands_of question) history))
    (class_layouts question (sizes_of question))
    (counts_of (hands_of question) west, class_weight question (sizes_of question) (counts_of (hands_of question) west))
    (counts_listed question west history live) (counts_allow question west history live.play)

numbered : (kind : ℕ → ClassMove) (test : ℕ → Bool) (move : ClassMove)
    → Contains (map kind (filter test class_numbers)) move → Contains (map kind class_numbers) move
numbered kind test move found =
    let from = Contains-map_from kind (filter test class_numbers) move found in
    subst (λ (m : ClassMove). Contains (map kind class_numbers) m) from.2 (Contains-map kind class_numbers from.0
    (kept_parts test class_numbers from.0 from.1).0)

-- each class move at a position is one of all
pub every_has : (view : ClassView) (counts : ClassLayout) (trick : ClassTrick) (move : ClassMove)
    → Contains (class_moves_in view counts trick) move → Contains every_move move
unfolding every_move
every_has view counts Closed move found =
    let all_n : List ClassMove = map (Lead N) class_numbers in
    let all_s : List ClassMove = map (Lead S) class_numbers in
    let follows : List ClassMove = map Follow class_numbers in
    Contains-append_left ((all_n ++ all_s) ++ follows) (ShowOut ∷ []) move
    (Contains-append_left (all_n ++ all_s) follows move
    (elim (Contains-append_cases (if may_lead view.lead view.entries_n N then map (Lead N)
    (counted_classes view.north) else [])
    (if may_lead view.lead view.entries_s S then map (Lead S) (counted_classes view.south) else []) move found) [
      | inl north ↦
          Contains-append_left all_n all_s move
          (numbered (Lead N) (λ class. nat_lt 0 (slice_index view.north class)) move (Contains-if
          (may_lead view.lead view.entries_n N) (map (Lead N) (counted_classes view.north)) move north))
      | inr south ↦
          Contains-append_right all_n all_s move
          (numbered (Lead S) (λ class. nat_lt 0 (slice_index view.south class)) move (Contains-if
          (may_lead view.lead view.entries_s S) (map (Lead S) (counted_classes view.south)) move south))
    ]))
every_has view counts (Open turn after winner highest) move found =
    let before : List ClassMove = map (Lead N) class_numbers ++ map (Lead S) class_numbers in
    shown before (map Follow (classes_left view counts turn)) found (numbered Follow (λ class. nat_lt 0
    (left view counts turn class)) move)
  where
    shown : (before moves : List ClassMove) → Contains (or_show_out moves) move → (Contains moves move
        → Contains (map Follow class_numbers) move)
        → Contains ((before ++ map Follow class_numbers) ++ ShowOut ∷ []) move
    shown before [] there within = Contains-append_right (before ++ map Follow class_numbers) (ShowOut ∷ []) move there
    shown before (first ∷ moves) there within =
        Contains-append_left (before ++ map Follow class_numbers) (ShowOut ∷ []) move (Contains-append_right before
        (map Follow class_numbers) move (within there))
