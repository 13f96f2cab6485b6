-- What marks name, after they are copied (copied_alike) or given a move more (set_more).
use Rattle.std.proofs.Common.{◌≡◌, ℕ, zero, suc, ◌+◌, ◌<◌, Bool, true, false, List, [], ◌∷◌, ◌++◌, Option, Some, None}
use Rattle.std.proofs.Math.Seq.{take-suc}
use Rattle.std.proofs.lemmas.List.{at_drop_all, at_drop_more, take_all}
use Rattle.std.proofs.lemmas.List.Elements.{AllZip-push}
use Rattle.std.proofs.Common.{length, drop, get_or, ◌-◌, take, ◌≤◌, refl, sym, ap, ◌∙◌, subst, arith}
use Rattle.std.specs.Prelude.{◌&&◌, ◌||◌, slice_set, if◌then◌else◌}
use Rattle.std.specs.List.{AllZip}
use Rattle.std.proofs.lemmas.Bool.{false≢true, false_from_ne_true}
use Rattle.suit_lists.proofs.Tests.{or_apart}
use Rattle.suit_classes.specs.declared.class_moves.ClassMove.{ClassMove}
use Rattle.suit_classes.specs.WhatIsAllowed.{is_among}
use Rattle.suit_classes.specs.ClassMoves.{ClassHistory, same_class_move}
use Rattle.suit_classes.proofs.SameMoves.{same_move-itself, same_move_is}
use Rattle.suit_plans.specs.Orders.{same_class_history}
use Rattle.suit_program.specs.declared.supports.mark.Mark.{Mark}
use Rattle.suit_program.specs.Supports.Marks.{AreAlike, IsPlaceOf, NamesMore, NamesNone, last_of, mark_by, marks_below}
use Rattle.suit_program.specs.Supports.Marks.{named_by, named_on}

or_false : (b : Bool) → (b || false) ≡ b
or_false true = refl
or_false false = refl

-- where there is no mark nothing is named
pub none_named : (moves : ClassHistory) (move : ClassMove) → named_on None moves move ≡ false
unfolding named_on
none_named [] move = refl
none_named (next ∷ moves) move = none_named moves move

-- what is named with one move more
pub named-cons : (mark : Mark) (next : ClassMove) (moves : ClassHistory) (move : ClassMove)
    → named_on (Some mark) (next ∷ moves) move ≡ named_on (mark_by next (marks_below mark)) moves move
unfolding named_on
named-cons mark next moves move = refl

pub named-here : (mark : Mark) (move : ClassMove) → named_on (Some mark) [] move ≡ is_among (named_by mark) move
unfolding named_on
named-here mark move = refl

-- a mark without moves and marks below names nothing
pub names_none : (mark : Mark) → named_by mark ≡ [] → marks_below mark ≡ [] → NamesNone mark
unfolding mark_by is_among
names_none mark moves below [] move = named-here mark move ∙ ap (λ (l : List ClassMove). is_among l move) moves
names_none mark moves below (next ∷ others) move =
    named-cons mark next others move
    ∙ ap (λ (l : List Mark). named_on (mark_by next l) others move) below
    ∙ none_named others move

-- ---- the first mark with a last move

-- what is named below a mark, or else
either_named : (b c : Bool) (here : Option Mark) (rest : Option Mark) (moves : ClassHistory) (move : ClassMove) → b ≡ c
    → named_on (if b then here else rest) moves move
    ≡ (if c then named_on here moves move else named_on rest moves move)
either_named true c here rest moves move same = ap (λ (b : Bool). if b then named_on here moves move
    else named_on rest moves move) same
either_named false c here rest moves move same = ap (λ (b : Bool). if b then named_on here moves move
    else named_on rest moves move) same

-- what is named below the first of some marks with a last move
pub named_first : (mark : Mark) (marks : List Mark) (next : ClassMove) (moves : ClassHistory) (move : ClassMove)
    → named_on (mark_by next (mark ∷ marks)) moves move
    ≡ (if same_class_move (last_of mark) next then named_on (Some mark) moves move
    else named_on (mark_by next marks) moves move)
unfolding mark_by
named_first mark marks next moves move =
    either_named (same_class_move (last_of mark) next) (same_class_move (last_of mark) next) (Some mark)
    (mark_by next marks) moves move refl

-- ---- copies

either_same : (b c : Bool) (x y u v : Bool) → b ≡ c → x ≡ y → u ≡ v → (if b then x else u) ≡ (if c then y else v)
either_same b c x y u v same one other = rw (same, one, other) refl

pub alike_by : (here there : List Mark) → AllZip AreAlike here there → (next : ClassMove) (moves : ClassHistory)
    (move : ClassMove) → named_on (mark_by next here) moves move ≡ named_on (mark_by next there) moves move
alike_by [] [] each next moves move = refl
alike_by [] (other ∷ others) each next moves move = absurd each
alike_by (mark ∷ marks) [] each next moves move = absurd each
alike_by (mark ∷ marks) (other ∷ others) each next moves move =
    named_first mark marks next moves move
    ∙ either_same (same_class_move (last_of mark) next) (same_class_move (last_of other) next)
    (named_on (Some mark) moves move) (named_on (Some other) moves move)
    (named_on (mark_by next marks) moves move) (named_on (mark_by next others) moves move)
    (ap (λ (last : ClassMove). same_class_move last next) each.0.last) (each.0.names moves move)
    (alike_by marks others each.1 next moves move)
    ∙ sym (named_first other others next moves move)

-- a mark that names the same at its class history, with alike marks below, is alike
pub copied_alike : (here there : Mark) → last_of here ≡ last_of there → named_by here ≡ named_by there
    → AllZip AreAlike (marks_below here) (marks_below there) → AreAlike here there
copied_alike here there last named each = record {
  last = last;
  names = names;
}
  where
    names : (moves : ClassHistory) (move : ClassMove)
        → named_on (Some here) moves move ≡ named_on (Some there) moves move
    names [] move =
        named-here here move ∙ ap (λ (l : List ClassMove). is_among l move) named ∙ sym (named-here there move)
    names (next ∷ moves) move =
        named-cons here next moves move
        ∙ alike_by (marks_below here) (marks_below there) each next moves move
        ∙ sym (named-cons there next moves move)

-- ---- a mark more below

-- a mark that names nothing, behind the others
pub none_behind : (marks : List Mark) (none : Mark) → NamesNone none → (next : ClassMove) (moves : ClassHistory)
    (move : ClassMove) → named_on (mark_by next (marks ++ none ∷ [])) moves move
    ≡ named_on (mark_by next marks) moves move
unfolding mark_by
none_behind [] none names next moves move =
    named_first none [] next moves move
    ∙ ap (λ (b : Bool). if same_class_move (last_of none) next then b else named_on None moves move) (names moves move)
    ∙ ap (λ (b : Bool). if same_class_move (last_of none) next then false else b) (none_named moves move)
    ∙ neither (same_class_move (last_of none) next) ∙ sym (none_named moves move)
  where
    neither : (b : Bool) → (if b then false else false) ≡ false
    neither true = refl
    neither false = refl
none_behind (mark ∷ marks) none names next moves move =
    named_first mark (marks ++ none ∷ []) next moves move
    ∙ ap (λ (b : Bool). if same_class_move (last_of mark) next then named_on (Some mark) moves move else b)
    (none_behind marks none names next moves move)
    ∙ sym (named_first mark marks next moves move)

pub none_more : (here there none : Mark) → NamesNone none → last_of here ≡ last_of there
    → named_by here ≡ named_by there → marks_below here ≡ marks_below there ++ none ∷ [] → AreAlike here there
none_more here there none nothing last named below = record {
  last = last;
  names = names;
}
  where
    names : (moves : ClassHistory) (move : ClassMove)
        → named_on (Some here) moves move ≡ named_on (Some there) moves move
    names [] move =
        named-here here move ∙ ap (λ (l : List ClassMove). is_among l move) named ∙ sym (named-here there move)
    names (next ∷ moves) move =
        named-cons here next moves move
        ∙ ap (λ (l : List Mark). named_on (mark_by next l) moves move) below
        ∙ none_behind (marks_below there) none nothing next moves move
        ∙ sym (named-cons there next moves move)

-- ---- a move more

move_case : (b c : Bool) → (c ≡ true → b ≡ true) → b ≡ (b || c)
move_case true c gives = refl
move_case false true gives = absurd (false≢true (gives refl))
move_case false false gives = refl

or_swap : (a b : Bool) → (a || (b || false)) ≡ (a || b)
or_swap true b = refl
or_swap false true = refl
or_swap false false = refl

-- it does not matter which of two moves stands first
pub same_turned : (move other : ClassMove) → same_class_move move other ≡ same_class_move other move
same_turned move other = turned (same_class_move move other) (same_class_move other move) refl refl
  where
    turned : (b c : Bool) → same_class_move move other ≡ b → same_class_move other move ≡ c → b ≡ c
    turned true true is also = refl
    turned false false is also = refl
    turned true false is also = absurd (false≢true (sym also
        ∙ subst (λ (m : ClassMove). same_class_move m move ≡ true) (same_move_is move other is)
        (same_move-itself move)))
    turned false true is also = absurd (false≢true (sym is
        ∙ subst (λ (m : ClassMove). same_class_move m other ≡ true) (same_move_is other move also)
        (same_move-itself other)))

-- one more among some
pub among-push : (moves : List ClassMove) (move other : ClassMove)
    → is_among (moves ++ move ∷ []) other ≡ (is_among moves other || same_class_move move other)
unfolding is_among
among-push [] move other = or_false (same_class_move other move) ∙ same_turned other move
among-push (first ∷ moves) move other =
    ap (λ (b : Bool). same_class_move other first || b) (among-push moves move other)
    ∙ sym (or_apart (same_class_move other first) (is_among moves other) (same_class_move move other))

nothing_more : (b c : Bool) → b ≡ (b || (false && c))
nothing_more true c = refl
nothing_more false c = refl

pub named_more : (here there : Mark) (move : ClassMove) → last_of here ≡ last_of there
    → marks_below here ≡ marks_below there
    → ((other : ClassMove) → is_among (named_by here) other
    ≡ (is_among (named_by there) other || same_class_move move other))
    → NamesMore here there [] move
unfolding same_class_history
named_more here there move last below more = record {
  last = last;
  names = names;
}
  where
    names : (others : ClassHistory) (other : ClassMove) → named_on (Some here) others other
        ≡ (named_on (Some there) others other || (same_class_history [] others && same_class_move move other))
    names [] other =
        named-here here other ∙ more other
        ∙ ap (λ (b : Bool). b || same_class_move move other) (sym (named-here there other))
    names (next ∷ others) other =
        named-cons here next others other
        ∙ ap (λ (l : List Mark). named_on (mark_by next l) others other) below
        ∙ sym (named-cons there next others other)
        ∙ nothing_more (named_on (Some there) (next ∷ others) other) (same_class_move move other)

-- a move that is pushed is named
pub pushed_more : (here there : Mark) (move : ClassMove) → last_of here ≡ last_of there
    → marks_below here ≡ marks_below there → named_by here ≡ named_by there ++ move ∷ [] → NamesMore here there [] move
pushed_more here there move last below named =
    named_more here there move last below
    (λ other. ap (λ (l : List ClassMove). is_among l other) named ∙ among-push (named_by there) move other)

-- one that is named already stays so
pub named_still : (mark : Mark) (move : ClassMove) → is_among (named_by mark) move ≡ true
    → NamesMore mark mark [] move
named_still mark move named =
    named_more mark mark move refl refl
    (λ other. move_case (is_among (named_by mark) other) (same_class_move move other)
    (λ same. subst (λ (m : ClassMove). is_among (named_by mark) m ≡ true) (same_move_is move other same) named))

-- ---- a move more, below

set_first : (new old : Mark) (marks : List Mark) (first : ClassMove) (later : ClassHistory) (move : ClassMove)
    → NamesMore new old later move
    → same_class_move (last_of old) first ≡ true → (next : ClassMove) (others : ClassHistory) (other : ClassMove)
    → named_on (mark_by next (new ∷ marks)) others other
    ≡ (named_on (mark_by next (old ∷ marks)) others other
    || ((same_class_move first next && same_class_history later others) && same_class_move move other))
set_first new old marks first later move more is next others other =
    named_first new marks next others other
    ∙ ap (λ (last : ClassMove). if same_class_move last next then named_on (Some new) others other
    else named_on (mark_by next marks) others other) (more.last ∙ same_move_is (last_of old) first is)
    ∙ either (same_class_move first next)
    ∙ sym (ap (λ (b : Bool). b
    || ((same_class_move first next && same_class_history later others) && same_class_move move other))
    (named_first old marks next others other
    ∙ ap (λ (last : ClassMove). if same_class_move last next then named_on (Some old) others other
    else named_on (mark_by next marks) others other) (same_move_is (last_of old) first is)))
  where
    either : (b : Bool) → (if b then named_on (Some new) others other else named_on (mark_by next marks) others other)
        ≡ ((if b then named_on (Some old) others other else named_on (mark_by next marks) others other)
        || ((b && same_class_history later others) && same_class_move move other))
    either true = more.names others other
    either false = nothing_more (named_on (mark_by next marks) others other) (same_class_move move other)

set_later : (mark : Mark) (marks sets : List Mark) (first : ClassMove) (later : ClassHistory) (move : ClassMove)
    → same_class_move (last_of mark) first ≡ false → (next : ClassMove) (others : ClassHistory) (other : ClassMove)
    → named_on (mark_by next sets) others other
    ≡ (named_on (mark_by next marks) others other
    || ((same_class_move first next && same_class_history later others) && same_class_move move other))
    → named_on (mark_by next (mark ∷ sets)) others other
    ≡ (named_on (mark_by next (mark ∷ marks)) others other
    || ((same_class_move first next && same_class_history later others) && same_class_move move other))
set_later mark marks sets first later move not next others other rest =
    named_first mark sets next others other
    ∙ either (same_class_move (last_of mark) next) refl
    ∙ sym (ap (λ (b : Bool). b
    || ((same_class_move first next && same_class_history later others) && same_class_move move other))
    (named_first mark marks next others other))
  where
    either : (b : Bool) → same_class_move (last_of mark) next ≡ b
        → (if b then named_on (Some mark) others other else named_on (mark_by next sets) others other)
        ≡ ((if b then named_on (Some mark) others other else named_on (mark_by next marks) others other)
        || ((same_class_move first next && same_class_history later others) && same_class_move move other))
    either true is =
        let apart : same_class_move first next ≡ false = false_from_ne_true (same_class_move first next)
        (λ same. false≢true (sym not
        ∙ subst (λ (m : ClassMove). same_class_move (last_of mark) m ≡ true)
        (sym (same_move_is first next same)) is)) in
        nothing_more (named_on (Some mark) others other) (same_class_move move other)
        ∙ ap (λ (b : Bool). named_on (Some mark) others other
        || ((b && same_class_history later others) && same_class_move move other)) (sym apart)
    either false is = rest

pub set_below : (marks : List Mark) (at : ℕ) (d new : Mark) (first : ClassMove) (later : ClassHistory)
    (move : ClassMove) → IsPlaceOf first marks at → NamesMore new (get_or marks at d) later move
    → (next : ClassMove) (others : ClassHistory) (other : ClassMove)
    → named_on (mark_by next (slice_set marks at new)) others other
    ≡ (named_on (mark_by next marks) others other
    || ((same_class_move first next && same_class_history later others) && same_class_move move other))
unfolding IsPlaceOf
set_below [] at d new first later move place more next others other = absurd place
set_below (mark ∷ marks) zero d new first later move place more next others other =
    set_first new mark marks first later move more place next others other
set_below (mark ∷ marks) (suc at) d new first later move place more next others other =
    set_later mark marks (slice_set marks at new) first later move place.0 next others other
    (set_below marks at d new first later move place.1 more next others other)

pub place_within : (marks : List Mark) (at : ℕ) (first : ClassMove) → IsPlaceOf first marks at → at < length marks
unfolding IsPlaceOf
place_within [] at first place = absurd place
place_within (mark ∷ marks) zero first place = omega arith
place_within (mark ∷ marks) (suc at) first place =
    let less : at < length marks = place_within marks at first place.1 in
    omega (arith, less)

-- a move is named more where one of the marks below names it more
pub set_more : (here middle there : Mark) (at : ℕ) (d new : Mark) (first : ClassMove) (later : ClassHistory)
    (move : ClassMove) → AreAlike middle there → IsPlaceOf first (marks_below middle) at
    → NamesMore new (get_or (marks_below middle) at d) later move → last_of here ≡ last_of middle
    → named_by here ≡ named_by middle → marks_below here ≡ slice_set (marks_below middle) at new
    → NamesMore here there (first ∷ later) move
unfolding same_class_history
set_more here middle there at d new first later move alike place more last named below = record {
  last = last ∙ alike.last;
  names = names;
}
  where
    names : (others : ClassHistory) (other : ClassMove) → named_on (Some here) others other
        ≡ (named_on (Some there) others other
        || (same_class_history (first ∷ later) others && same_class_move move other))
    names [] other =
        named-here here other ∙ ap (λ (l : List ClassMove). is_among l other) named
        ∙ sym (named-here middle other) ∙ alike.names [] other
        ∙ nothing_more (named_on (Some there) [] other) (same_class_move move other)
    names (next ∷ others) other =
        named-cons here next others other
        ∙ ap (λ (l : List Mark). named_on (mark_by next l) others other) below
        ∙ set_below (marks_below middle) at d new first later move place more next others other
        ∙ ap (λ (b : Bool). b || ((same_class_move first next && same_class_history later others)
        && same_class_move move other))
        (sym (named-cons middle next others other) ∙ alike.names (next ∷ others) other)

-- ---- where a mark stands

-- the first of some marks with a last move, where none before it has it
pub placed : (marks : List Mark) (at : ℕ) (d : Mark) (move : ClassMove) → at < length marks
    → ((k : ℕ) → k < at → same_class_move (last_of (get_or marks k d)) move ≡ false)
    → same_class_move (last_of (get_or marks at d)) move ≡ true → IsPlaceOf move marks at
unfolding IsPlaceOf
placed [] at d move within before is = absurd (omega (arith, within))
placed (mark ∷ marks) zero d move within before is = is
placed (mark ∷ marks) (suc at) d move within before is = (
  before 0 (omega arith),
  placed marks at d move (omega (arith, within))
      (λ k less. before (suc k) (omega (arith, less))) is,
)

-- behind marks of which none has it stands one that has
pub placed_last : (marks sets : List Mark) (at : ℕ) (mark : Mark) (move : ClassMove) → at ≡ length marks
    → ((k : ℕ) (d : Mark) → k < length marks → same_class_move (last_of (get_or marks k d)) move ≡ false)
    → last_of mark ≡ move → sets ≡ marks ++ mark ∷ [] → IsPlaceOf move sets at
unfolding IsPlaceOf
placed_last marks sets at mark move is none last now =
    subst (λ (l : List Mark). IsPlaceOf move l at) (sym now)
    (subst (IsPlaceOf move (marks ++ mark ∷ [])) (sym is) (behind marks none))
  where
    behind : (marks : List Mark)
        → ((k : ℕ) (d : Mark) → k < length marks → same_class_move (last_of (get_or marks k d)) move ≡ false)
        → IsPlaceOf move (marks ++ mark ∷ []) (length marks)
    behind [] none = ap (λ (m : ClassMove). same_class_move m move) last ∙ same_move-itself move
    behind (first ∷ marks) none =
        (none 0 first (omega arith), behind marks (λ k d less. none (suc k) d (omega (arith, less))))

-- ---- walks over marks

-- the mark at an index is the first from there on with its last move
pub found_by : (marks : List Mark) (i : ℕ) (d : Mark) (move : ClassMove) → i < length marks
    → same_class_move (last_of (get_or marks i d)) move ≡ true
    → mark_by move (drop i marks) ≡ Some (get_or marks i d)
unfolding mark_by
found_by marks i d move less is =
    at_drop_more (mark_by move) marks i d less
    ∙ ap (λ (b : Bool). if b then Some (get_or marks i d) else mark_by move (drop (i + 1) marks)) is

-- one with another may be passed over
pub passed_by : (marks : List Mark) (i : ℕ) (d : Mark) (move : ClassMove) → i < length marks
    → same_class_move (last_of (get_or marks i d)) move ≡ false
    → mark_by move (drop i marks) ≡ mark_by move (drop (i + 1) marks)
unfolding mark_by
passed_by marks i d move less is =
    at_drop_more (mark_by move) marks i d less
    ∙ ap (λ (b : Bool). if b then Some (get_or marks i d) else mark_by move (drop (i + 1) marks)) is

-- and past the end there is none
pub none_by : (marks : List Mark) (i : ℕ) (move : ClassMove) → length marks ≤ i → mark_by move (drop i marks) ≡ None
unfolding mark_by
none_by marks i move past = at_drop_all (mark_by move) marks i past

-- one mark more is copied
pub copied_one : (before after marks : List Mark) (i : ℕ) (d copy : Mark)
    → AllZip AreAlike before (take i marks) → i < length marks → AreAlike copy (get_or marks i d)
    → after ≡ before ++ copy ∷ [] → AllZip AreAlike after (take (i + 1) marks)
copied_one before after marks i d copy each less alike now =
    let one : i + 1 ≡ suc i = omega arith in
    subst (λ (l : List Mark). AllZip AreAlike l (take (i + 1) marks)) (sym now)
    (subst (AllZip AreAlike (before ++ copy ∷ [])) (sym (ap (λ (n : ℕ). take n marks) one ∙ take-suc marks i d less))
    (AllZip-push AreAlike before (take i marks) copy (get_or marks i d) each alike))

-- and in the end all are
pub copied_whole : (copies marks : List Mark) (i : ℕ) → length marks ≤ i → AllZip AreAlike copies (take i marks)
    → AllZip AreAlike copies marks
copied_whole copies marks i past each = subst (AllZip AreAlike copies) (take_all i marks past) each

-- a list is its first element and the rest
pub first_and_rest : (moves : List ClassMove) (d : ClassMove) → 1 ≤ length moves
    → get_or moves 0 d ∷ take (length moves - 1) (drop 1 moves) ≡ moves
first_and_rest [] d some = absurd (omega (arith, some))
first_and_rest (move ∷ moves) d some =
    ap (λ (l : List ClassMove). move ∷ l) (take_all (suc (length moves) - 1) moves (omega arith))
