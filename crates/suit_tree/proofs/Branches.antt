-- By which moves a position goes on: declarer's own (own_made), and a defender's (their_made).
use Rattle.std.proofs.Common.{◌≡◌, ◌<◌, ◌+◌, ℕ, suc, zero, Bool, true, false, cond, List, [], ◌∷◌, ◌++◌, length, map}
use Rattle.std.proofs.Common.{take, get_or, refl, sym, ap, ◌∙◌, arith}
use Rattle.std.specs.Prelude.{filter, nat_lt, ◌==◌, if◌then◌else◌}
use Rattle.std.proofs.lemmas.Bool.{false≢true, lt-ltb}
use Rattle.std.proofs.lemmas.Bool.Decides.{nat_tests}
use Rattle.std.proofs.lemmas.List.{append-nil, map-append}
use Rattle.std.proofs.lemmas.List.Elements.{filter-append, filter_agree, filter_more}
use Rattle.suit_lists.proofs.Filters.{filter_none, filter_true}
use Rattle.suit_lists.proofs.Maps.{map_same}
use Rattle.suit_cards.specs.Cards.{ClassLayout, Indices}
use Rattle.suit_cards.specs.declared.seats.Seat.{Seat}
use Rattle.suit_cards.specs.declared.seats.Seat.TheVariants.{N, E, S, W}
use Rattle.suit_classes.specs.declared.class_moves.ClassMove.{ClassMove}
use Rattle.suit_classes.specs.declared.class_moves.ClassMove.TheVariants.{Lead, Follow, ShowOut}
use Rattle.suit_classes.specs.declared.class_turn.ClassTurn.{ClassTurn}
use Rattle.suit_classes.specs.declared.class_turn.ClassTurn.TheVariants as turns
use Rattle.suit_classes.specs.WhatIsAllowed.{every_move, is_among}
use Rattle.suit_classes.specs.declared.class_view.ClassView.{ClassView}
use Rattle.suit_classes.specs.declared.class_trick.ClassTrick.{ClassTrick}
use Rattle.suit_classes.specs.declared.class_trick.ClassTrick.TheVariants.{Closed, Open}
use Rattle.suit_classes.specs.ClassPlaces.{class_decided, class_moves, class_moves_in, class_numbers, class_turn}
use Rattle.suit_classes.specs.ClassPlaces.{classes_left, or_show_out, turn_of}
use Rattle.suit_classes.proofs.SameMoves.{among_contained}
use Rattle.suit_tree.specs.declared.branch.Branch.{Branch}
use Rattle.suit_tree.specs.Growing.{branch_seen, branched, is_theirs, keeping, moves_from, moves_within, their_moves}
use Rattle.suit_tree.specs.Trees.{counts_at}
use Rattle.suit_classes.proofs.EveryMove.{class_moves_listed, filter_joined}

-- whether nothing is in a list
pub is_some : (n : ℕ) → false ≡ (n == 0) → 0 < n
is_some n told = grind (arith, nat_tests)

pub is_none : (n : ℕ) → true ≡ (n == 0) → n ≡ 0
is_none n told = grind (arith, nat_tests)

-- ---- whose turn it is

-- whether it is a turn of declarer's
abbrev pub is_own : ClassTurn → Bool
is_own turns.Lead = true
is_own (turns.Declarer seat) = true
is_own (turns.Defence seat) = false
is_own turns.Decided = false

abbrev turn_from : Bool → ClassTrick → ClassTurn
turn_from decided trick = if decided then turns.Decided else turn_of trick

undecided_own : (decided : Bool) (trick : ClassTrick) → is_own (turn_from decided trick) ≡ true → (decided ≡ false)
    × (is_own (turn_of trick) ≡ true)
undecided_own true trick own = absurd (false≢true own)
undecided_own false trick own = (refl, own)

undecided_theirs : (decided : Bool) (trick : ClassTrick) → is_theirs (turn_from decided trick) ≡ true
    → (decided ≡ false) × (is_theirs (turn_of trick) ≡ true)
undecided_theirs true trick theirs = absurd (false≢true theirs)
undecided_theirs false trick theirs = (refl, theirs)

-- declarer's moves are the same whatever West was dealt
own_alike : (view : ClassView) (trick : ClassTrick) (counts other : ClassLayout) → is_own (turn_of trick) ≡ true
    → class_moves_in view counts trick ≡ class_moves_in view other trick
own_alike view Closed counts other own = refl
own_alike view (Open N after winner highest) counts other own = refl
own_alike view (Open S after winner highest) counts other own = refl
own_alike view (Open E after winner highest) counts other own = absurd (false≢true own)
own_alike view (Open W after winner highest) counts other own = absurd (false≢true own)

no_lead_followed : (classes : List ℕ) (seat : Seat) (class : ℕ)
    → is_among (map Follow classes) (Lead seat class) ≡ false
unfolding is_among
no_lead_followed [] seat class = refl
no_lead_followed (other ∷ classes) seat class = no_lead_followed classes seat class

no_lead_shown : (classes : List ℕ) (seat : Seat) (class : ℕ)
    → is_among (or_show_out (map Follow classes)) (Lead seat class) ≡ false
unfolding is_among
no_lead_shown [] seat class = refl
no_lead_shown (other ∷ classes) seat class = no_lead_followed classes seat class

-- a defender never leads
no_lead : (view : ClassView) (trick : ClassTrick) (counts : ClassLayout) (seat : Seat) (class : ℕ)
    → is_theirs (turn_of trick) ≡ true
    → is_among (class_moves_in view counts trick) (Lead seat class) ≡ false
no_lead view Closed counts seat class theirs = absurd (false≢true theirs)
no_lead view (Open turn after winner highest) counts seat class theirs =
    no_lead_shown (classes_left view counts turn) seat class

-- ---- the moves at each index

-- of some moves, those which may be made at some index
abbrev pub made_from : List (ClassLayout × ℕ) → ClassView → Indices → List ClassMove → List ClassMove
made_from layouts view indices moves = filter (λ move. nat_lt 0 (length (keeping layouts view indices move))) moves

module _ (layouts : List (ClassLayout × ℕ)) (view : ClassView) (indices : Indices) where
  -- where declarer is on turn, a move of his may be made at all indices
  keeping_own : (move : ClassMove) → is_own (turn_of view.trick) ≡ true
      → keeping layouts view indices move ≡ (if is_among (class_moves view []) move then indices else [])
  unfolding keeping
  keeping_own move own =
      let among : Bool = is_among (class_moves view []) move in
      filter_agree (λ index. is_among (class_moves view (counts_at layouts index)) move) (λ index. among)
      (λ index. ap (λ (l : List ClassMove). is_among l move)
      (own_alike view view.trick (counts_at layouts index) [] own)) indices
      ∙ either among
    where
      either : (b : Bool) → filter (λ index. b) indices ≡ (if b then indices else [])
      either true = filter_true indices
      either false = filter_none indices

  some_own : (move : ClassMove) → is_own (turn_of view.trick) ≡ true → 0 < length indices
      → nat_lt 0 (length (keeping layouts view indices move)) ≡ is_among (class_moves view []) move
  some_own move own some =
      ap (λ (l : Indices). nat_lt 0 (length l)) (keeping_own move own) ∙ either (is_among (class_moves view []) move)
    where
      either : (b : Bool) → nat_lt 0 (length (if b then indices else [])) ≡ b
      either true = lt-ltb 0 (length indices) some
      either false = refl

  -- so the branches are his moves, each at all indices
  pub own_made : (more : ℕ) → is_own (class_turn view) ≡ true → 0 < length indices
      → map (λ move. (move, indices)) (class_moves view []) ≡ branched (suc more) layouts view indices
  unfolding moves_within moves_from
  own_made more own some =
      let turn = undecided_own (class_decided view) view.trick own in
      let moves : List ClassMove = class_moves view [] in
      let seen : ClassMove → ClassMove × Indices = λ move. (move, keeping layouts view indices move) in
      let made : List ClassMove → List ClassMove = made_from layouts view indices in
      let listed : made every_move ≡ moves =
      filter_agree (λ move. nat_lt 0 (length (keeping layouts view indices move))) (is_among moves)
      (λ move. some_own move turn.1 some) every_move
      ∙ sym (class_moves_listed view []) in
      map_same (λ move. (move, indices)) seen moves
      (λ move found.
      ap (λ (l : Indices). (move, l))
      (sym (keeping_own move turn.1 ∙ ap (λ (b : Bool). if b then indices else []) (among_contained moves move found))))
      ∙ ap (map seen) (sym listed)
      ∙ ap (λ (b : Bool). map seen (if b then [] else made every_move)) (sym turn.0)

  none_led : (seat : Seat) (classes : List ℕ) → is_theirs (turn_of view.trick) ≡ true
      → made_from layouts view indices (map (Lead seat) classes) ≡ []
  unfolding keeping
  none_led seat [] theirs = refl
  none_led seat (class ∷ classes) theirs =
      let none : filter (λ index. is_among (class_moves view (counts_at layouts index)) (Lead seat class)) indices
      ≡ [] =
      filter_agree (λ index. is_among (class_moves view (counts_at layouts index)) (Lead seat class)) (λ index. false)
      (λ index. no_lead view view.trick (counts_at layouts index) seat class theirs) indices
      ∙ filter_none indices in
      let later : List ClassMove = made_from layouts view indices (map (Lead seat) classes) in
      ap (λ (l : Indices). cond (nat_lt 0 (length l)) (Lead seat class ∷ later) later) none
      ∙ none_led seat classes theirs

  -- where a defender is on turn, the moves are those of a defender's that may be made
  pub their_made : is_theirs (class_turn view) ≡ true
      → made_from layouts view indices their_moves ≡ moves_from layouts view indices
  unfolding moves_from every_move their_moves
  their_made theirs =
      let turn = undecided_theirs (class_decided view) view.trick theirs in
      let some : ClassMove → Bool = λ move. nat_lt 0 (length (keeping layouts view indices move)) in
      let follows : List ClassMove = map Follow class_numbers in
      let shown : List ClassMove = ShowOut ∷ [] in
      filter-append some follows shown
      ∙ ap (λ (l : List ClassMove). l ++ filter some follows
      ++ filter some shown) (sym (none_led S class_numbers turn.1))
      ∙ ap (λ (l : List ClassMove). l ++ filter some (map (Lead S) class_numbers) ++ filter some follows
      ++ filter some shown) (sym (none_led N class_numbers turn.1))
      ∙ sym (filter_joined some (map (Lead N) class_numbers) (map (Lead S) class_numbers) follows shown)
      ∙ ap (λ (b : Bool). if b then []
      else filter some (map (Lead N) class_numbers ++ map (Lead S) class_numbers ++ follows ++ shown)) (sym turn.0)

  -- nobody is on turn where the position is decided
  pub none_made : (more : ℕ) → class_turn view ≡ turns.Decided → branched more layouts view indices ≡ []
  unfolding moves_within moves_from
  none_made zero over = refl
  none_made (suc more) over =
      ap (λ (b : Bool). map (λ move. (move, keeping layouts view indices move)) (if b then []
      else made_from layouts view indices every_move))
      (over_decided (class_decided view) view.trick over)
    where
      of_trick : (trick : ClassTrick) → turn_of trick ≡ turns.Decided → ⊥
      of_trick Closed is = absurd (cc)
      of_trick (Open N after winner highest) is = absurd (cc)
      of_trick (Open E after winner highest) is = absurd (cc)
      of_trick (Open S after winner highest) is = absurd (cc)
      of_trick (Open W after winner highest) is = absurd (cc)

      over_decided : (decided : Bool) (trick : ClassTrick) → turn_from decided trick ≡ turns.Decided → decided ≡ true
      over_decided true trick is = refl
      over_decided false trick is = absurd (of_trick trick is)

  -- ---- a defender's branches, one by one

  made_more : (moves : List ClassMove) (i : ℕ) (d : ClassMove) (b : Bool) → i < length moves
      → nat_lt 0 (length (keeping layouts view indices (get_or moves i d))) ≡ b
      → made_from layouts view indices (take (i + 1) moves) ≡ made_from layouts view indices (take i moves)
      ++ cond b (get_or moves i d ∷ []) []
  made_more moves i d b below is =
      let some : ClassMove → Bool = λ move. nat_lt 0 (length (keeping layouts view indices move)) in
      filter_more some moves i d below
      ∙ ap (λ (c : Bool). filter some (take i moves) ++ cond c (get_or moves i d ∷ []) []) is

  -- a move is made
  pub branch_more : (branches after : List Branch) (branch : Branch) (moves : List ClassMove) (i : ℕ) (d : ClassMove)
      → i < length moves
      → after ≡ branches ++ branch ∷ [] → branch.mv ≡ get_or moves i d
      → branch.indices.now ≡ keeping layouts view indices (get_or moves i d)
      → 0 < length branch.indices.now
      → map branch_seen branches ≡ map (λ move. (move, keeping layouts view indices move))
      (made_from layouts view indices (take i moves))
      → map branch_seen after ≡ map (λ move. (move, keeping layouts view indices move))
      (made_from layouts view indices (take (i + 1) moves))
  branch_more branches after branch moves i d below is made_by held some before =
      let tells : ClassMove → ClassMove × Indices = λ move. (move, keeping layouts view indices move) in
      let made : List ClassMove = made_from layouts view indices (take i moves) in
      ap (map branch_seen) is ∙ map-append branch_seen branches (branch ∷ [])
      ∙ ap (λ (l : List (ClassMove × Indices)). l ++ branch_seen branch ∷ []) before
      ∙ ap (λ (move : ClassMove). map tells made ++ (move, branch.indices.now) ∷ []) made_by
      ∙ ap (λ (kept : Indices). map tells made ++ (get_or moves i d, kept) ∷ []) held
      ∙ sym (map-append tells made (get_or moves i d ∷ []))
      ∙ ap (map tells)
      (sym (made_more moves i d true below (ap (λ (l : Indices). nat_lt 0 (length l)) (sym held)
      ∙ lt-ltb 0 (length branch.indices.now) some)))

  -- or none can make it
  pub branch_none : (branches after : List Branch) (moves : List ClassMove) (i : ℕ) (d : ClassMove) (kept : Indices)
      → i < length moves
      → kept ≡ keeping layouts view indices (get_or moves i d) → length kept ≡ 0 → after ≡ branches
      → map branch_seen branches ≡ map (λ move. (move, keeping layouts view indices move))
      (made_from layouts view indices (take i moves))
      → map branch_seen after ≡ map (λ move. (move, keeping layouts view indices move))
      (made_from layouts view indices (take (i + 1) moves))
  branch_none branches after moves i d kept below held none is before =
      let tells : ClassMove → ClassMove × Indices = λ move. (move, keeping layouts view indices move) in
      let made : List ClassMove = made_from layouts view indices (take i moves) in
      ap (map branch_seen) is ∙ before
      ∙ ap (map tells) (sym (made_more moves i d false below (ap (λ (l : Indices). nat_lt 0 (length l)) (sym held)
      ∙ ap (nat_lt 0) none) ∙ append-nil made))

  -- the branches where none, or no more, may come
  pub none_within : (more : ℕ) → more ≡ 0 → branched more layouts view indices ≡ []
  unfolding moves_within
  none_within more last = rw last refl

  pub own_within : (more : ℕ) → 0 < more → is_own (class_turn view) ≡ true → 0 < length indices
      → map (λ move. (move, indices)) (class_moves view []) ≡ branched more layouts view indices
  own_within zero some own held = absurd (omega (arith, some))
  own_within (suc more) some own held = own_made more own held

  pub their_within : (more : ℕ) → 0 < more
      → map (λ move. (move, keeping layouts view indices move)) (moves_from layouts view indices)
      ≡ branched more layouts view indices
  unfolding moves_within
  their_within zero some = absurd (omega (arith, some))
  their_within (suc more) some = refl
