-- A class place follows the position of single cards, move by move.
use Rattle.std.proofs.Common.{◌≡◌, ℕ, zero, suc, ◌+◌, ◌-◌, ◌<◌, ◌≤◌, Bool, true, false, List, [], ◌∷◌, length, get_or}
use Rattle.std.proofs.Common.{refl, sym, ap, ◌∙◌, subst, inl, inr, arith}
use Rattle.std.specs.Prelude.{fold, nat_lt, slice_index, Contains, ◌==◌, ◌&&◌, if◌then◌else◌}
use Rattle.std.proofs.Math.ListN.{length-set}
use Rattle.std.proofs.lemmas.Bool.{ltb-true, ltb-false}
use Rattle.suit_game.specs.Histories.{History}
use Rattle.suit_cards.specs.Cards.{Cards, ClassLayout}
use Rattle.suit_cards.specs.declared.seats.Seat.{Seat}
use Rattle.suit_cards.specs.declared.seats.Seat.TheVariants.{N, E, S, W}
use Rattle.suit_cards.specs.Seats.{clockwise}
use Rattle.suit_cards.specs.Holdings.{holds}
use Rattle.suit_cards.proofs.WhetherARankIsHeld.{holds_tells}
use Rattle.suit_cards.proofs.HoldingIsWhatItHolds.{IsRank-held}
use Rattle.suit_game.specs.declared.question.Question.{Question}
use Rattle.suit_game.specs.declared.question.LeadAt.{LeadAt}
use Rattle.suit_game.specs.declared.question.Entries.{Entries}
use Rattle.suit_game.specs.declared.moves.Move.{Move}
use Rattle.suit_game.specs.declared.moves.Move.TheVariants as cards
use Rattle.suit_game.specs.Positions.{Position, Trick, IsLegal, LegalFrom, dealt, hand, without, leads_at, follows_of}
use Rattle.suit_game.specs.Positions.{after, after_lead, ended_trick, followed, led, legal, legal_at, legal_in}
use Rattle.suit_game.specs.Positions.{turn_passed, start_place, step}
use Rattle.suit_game.specs.Positions.{Closed as NoTrick, Open as InTrick}
use Rattle.suit_game.specs.Reached.{IsOpen, IsTrickAt}
use Rattle.suit_game.specs.Strategies.{same_seat}
use Rattle.suit_game.proofs.WhatAHandHolds.{holds-from_without, without-none}
use Rattle.suit_game.specs.PlaceViews.{IsPlay}
use Rattle.suit_game.proofs.LayoutCards.{layouts_are_deals}
use Rattle.suit_game.proofs.TricksReached.{trick_later}
use Rattle.suit_game.proofs.LegalPlays.{lead_cases, follow_or_show}
use Rattle.suit_game.proofs.OwnCards.{PlaysOwn, left_n, left_s, taken_n, taken_s}
use Rattle.suit_game.proofs.PlaceSeenAfterAMove.{step-led, step-followed, step-shown_out}
use Rattle.suit_classes.specs.declared.classes.Owner.{Owner}
use Rattle.suit_classes.specs.declared.classes.Owner.TheVariants as owners
use Rattle.suit_classes.specs.declared.class_moves.ClassMove.TheVariants.{Lead, Follow, ShowOut}
use Rattle.suit_classes.specs.Classes.{Hands, hands_of, class_of}
use Rattle.suit_classes.specs.ClassMoves.{merge, merged}
use Rattle.suit_classes.specs.ClassGame.{cards_in, counts_of}
use Rattle.suit_classes.specs.declared.class_trick.ClassTrick.TheVariants.{Closed, Open}
use Rattle.suit_classes.specs.ClassPlaces.{ClassTrick, ClassView, class_after, class_ended, class_followed, class_led}
use Rattle.suit_classes.specs.ClassPlaces.{class_passed, class_played, class_start, class_step, class_step_in, left}
use Rattle.suit_classes.specs.ClassPlaces.{is_defence_class, west_count, side}
use Rattle.suit_classes.proofs.CountedClassByClass.{one_less-at, one_more-at, length-dealt_to, length-none_played}
use Rattle.suit_classes.proofs.OneSideHoldsAClass.{IsDealt, IsHolding-dealt, holder-dealt, dealt_apart}
use Rattle.suit_classes.proofs.OneSideHoldsAClass.{class_held_by_one}
use Rattle.suit_classes.proofs.OneSideHoldsAClass.{cards_in-played, cards_in-kept}
use Rattle.suit_classes.proofs.RankBlocks.{class_of-rises}
use Rattle.suit_classes.proofs.LeftAtTheStart.{left-start}
use Rattle.suit_classes.specs.declared.classes.TheConstants.{MOST_CLASSES}

-- a trick in progress, with the highest card replaced by its class
abbrev pub merged_trick : Hands → Trick → ClassTrick
merged_trick hands NoTrick = Closed
merged_trick hands (InTrick turn after winner highest) = Open turn after (side winner) (class_of hands highest)

-- lists of counts for thirteen classes
pub record AreLong (view : ClassView) : Type 0 where
  pub north : length view.north ≡ MOST_CLASSES
  pub south : length view.south ≡ MOST_CLASSES
  pub gone_w : length view.gone_w ≡ MOST_CLASSES
  pub gone_e : length view.gone_e ≡ MOST_CLASSES

-- the counts of a class place are those of a position of single cards, whatever the trick in progress
pub record HasCounts (question : Question) (west : Cards) (place : Position) (view : ClassView) : Type 0 where
  pub long : AreLong view
  pub left : (seat : Seat) (class : ℕ) → class < MOST_CLASSES
      → left view (counts_of (hands_of question) west) seat class
      ≡ cards_in (hands_of question) (hand question west place seat) class
  pub cards_n : view.cards_n ≡ length (hand question [] place N)
  pub cards_s : view.cards_s ≡ length (hand question [] place S)
  pub lead : view.lead ≡ place.lead
  pub regain : view.regain ≡ question.regain
  pub entries_n : view.entries_n ≡ place.entries_n
  pub entries_s : view.entries_s ≡ place.entries_s
  pub goal : view.goal ≡ question.goal
  pub won : view.won ≡ place.won

-- a class place is that of a position of single cards
pub record IsMerged (question : Question) (west : Cards) (place : Position) (view : ClassView) : Type 0 where
  pub counts : HasCounts question west place view
  pub trick : view.trick ≡ merged_trick (hands_of question) place.trick

-- one where a seat has played a card of a class
abbrev taken : Seat → ℕ → Seat → ℕ → ℕ
taken seat card_class other class = if same_seat seat other && (card_class == class) then 1 else 0

west_taken : (defence : Bool) (count gone gone' one : ℕ) → gone' ≡ gone + one
    → (if defence then count - gone' else 0) ≡ (if defence then count - gone else 0) - one
west_taken true count gone gone' one more = omega arith
west_taken false count gone gone' one more = omega arith

east_taken : (defence : Bool) (size count gone gone' one : ℕ) → gone' ≡ gone + one
    → (if defence then size - count - gone' else 0) ≡ (if defence then size - count - gone else 0) - one
east_taken true size count gone gone' one more = omega arith
east_taken false size count gone gone' one more = omega arith

-- a seat that plays a card of a class has one less of it left, and nothing else changes
left-played : (view : ClassView) (counts : ClassLayout) (seat other : Seat) (card_class class : ℕ) → AreLong view
    → class < MOST_CLASSES
    → left
    (class_played view seat card_class) counts other class
    ≡ left view counts other class - taken seat card_class other class
left-played view counts N N card_class class long small =
    one_less-at view.north card_class class (omega (arith, long.north))
left-played view counts S S card_class class long small =
    one_less-at view.south card_class class (omega (arith, long.south))
left-played view counts W W card_class class long small =
    west_taken (is_defence_class view class) (west_count view counts class) (get_or view.gone_w class 0) _
    (taken W card_class W class)
    (one_more-at view.gone_w card_class class (omega (arith, long.gone_w)))
left-played view counts E E card_class class long small =
    east_taken (is_defence_class view class) (get_or view.defence class 0) (west_count view counts class)
    (get_or view.gone_e class 0) _ (taken E card_class E class)
    (one_more-at view.gone_e card_class class (omega (arith, long.gone_e)))
left-played view counts N S card_class class long small = omega arith
left-played view counts N E card_class class long small = omega arith
left-played view counts N W card_class class long small = omega arith
left-played view counts S N card_class class long small = omega arith
left-played view counts S E card_class class long small = omega arith
left-played view counts S W card_class class long small = omega arith
left-played view counts W N card_class class long small = omega arith
left-played view counts W S card_class class long small = omega arith
left-played view counts W E card_class class long small = omega arith
left-played view counts E N card_class class long small = omega arith
left-played view counts E S card_class class long small = omega arith
left-played view counts E W card_class class long small = omega arith

long-played : (view : ClassView) (seat : Seat) (class : ℕ) → AreLong view → AreLong (class_played view seat class)
long-played view N class long =
    record {
      north = length-set view.north class (get_or view.north class 0 - 1)
          ∙ long.north;
      south = long.south;
      gone_w = long.gone_w;
      gone_e = long.gone_e;
    }
long-played view S class long =
    record {
      north = long.north;
      south = length-set view.south class (get_or view.south class 0 - 1)
          ∙ long.south;
      gone_w = long.gone_w;
      gone_e = long.gone_e;
    }
long-played view W class long =
    record {
      north = long.north;
      south = long.south;
      gone_w = length-set view.gone_w class (get_or view.gone_w class 0 + 1)
          ∙ long.gone_w;
      gone_e = long.gone_e;
    }
long-played view E class long =
    record {
      north = long.north;
      south = long.south;
      gone_w = long.gone_w;
      gone_e = length-set view.gone_e class (get_or view.gone_e class 0 + 1) ∙ long.gone_e;
    }

-- a hand after a card of a seat's
hand_taken_either : (question : Question) (west : Cards) (place : Position) (seat other : Seat) (card class : ℕ)
    (same : Bool)
    → IsDealt question west
    → same_seat seat other ≡ same → (same ≡ true → dealt question west seat ≡ dealt question west other)
    → holds (without (dealt question west seat) place.gone) card ≡ true
    → cards_in (hands_of question) (without (dealt question west other) (card ∷ place.gone)) class
    ≡ cards_in (hands_of question) (without (dealt question west other) place.gone) class -
    (if same && (class_of (hands_of question) card == class) then 1 else 0)
hand_taken_either question west place seat other card class true is told one held =
    subst (λ (l : List ℕ). cards_in (hands_of question) (without l (card ∷ place.gone)) class
    ≡ cards_in (hands_of question) (without l place.gone) class -
    (if class_of (hands_of question) card == class then 1 else 0)) (one refl)
    (cards_in-played (hands_of question) (dealt question west seat) place.gone card class
    (IsHolding-dealt question west seat is) held)
hand_taken_either question west place seat other card class false is told one held =
    cards_in-kept (hands_of question) (dealt question west other) place.gone card class
    (dealt_apart question west seat other card is told
    (holds-from_without (dealt question west seat) place.gone card held).0)

same_hand : (question : Question) (west : Cards) (seat other : Seat) → same_seat seat other ≡ true
    → dealt question west seat ≡ dealt question west other
same_hand question west N N same = refl
same_hand question west S S same = refl
same_hand question west E E same = refl
same_hand question west W W same = refl
same_hand question west N S same = absurd (cc)
same_hand question west N E same = absurd (cc)
same_hand question west N W same = absurd (cc)
same_hand question west S N same = absurd (cc)
same_hand question west S E same = absurd (cc)
same_hand question west S W same = absurd (cc)
same_hand question west E N same = absurd (cc)
same_hand question west E S same = absurd (cc)
same_hand question west E W same = absurd (cc)
same_hand question west W N same = absurd (cc)
same_hand question west W S same = absurd (cc)
same_hand question west W E same = absurd (cc)

hand_taken : (question : Question) (west : Cards) (place : Position) (seat other : Seat) (card class : ℕ)
    → IsDealt question west
    → holds (without (dealt question west seat) place.gone) card ≡ true
    → cards_in (hands_of question) (without (dealt question west other) (card ∷ place.gone)) class
    ≡ cards_in (hands_of question) (without (dealt question west other) place.gone) class - taken seat
    (class_of (hands_of question) card) other class
hand_taken question west place seat other card class is held =
    hand_taken_either question west place seat other card class (same_seat seat other) is refl
    (same_hand question west seat other) held

cards_n-played : (view : ClassView) (seat : Seat) (class : ℕ)
    → (class_played view seat class).cards_n ≡ view.cards_n - taken_n seat
cards_n-played view N class = refl
cards_n-played view S class = omega arith
cards_n-played view E class = omega arith
cards_n-played view W class = omega arith

cards_s-played : (view : ClassView) (seat : Seat) (class : ℕ)
    → (class_played view seat class).cards_s ≡ view.cards_s - taken_s seat
cards_s-played view N class = omega arith
cards_s-played view S class = refl
cards_s-played view E class = omega arith
cards_s-played view W class = omega arith

-- what else a place keeps as a card goes
record IsKept (view later : ClassView) : Type 0 where
  lead : later.lead ≡ view.lead
  regain : later.regain ≡ view.regain
  entries_n : later.entries_n ≡ view.entries_n
  entries_s : later.entries_s ≡ view.entries_s
  goal : later.goal ≡ view.goal
  won : later.won ≡ view.won

kept-played : (view : ClassView) (seat : Seat) (class : ℕ) → IsKept view (class_played view seat class)
kept-played view N class =
    record { lead = refl; regain = refl; entries_n = refl; entries_s = refl; goal = refl; won = refl }
kept-played view S class =
    record { lead = refl; regain = refl; entries_n = refl; entries_s = refl; goal = refl; won = refl }
kept-played view W class =
    record { lead = refl; regain = refl; entries_n = refl; entries_s = refl; goal = refl; won = refl }
kept-played view E class =
    record { lead = refl; regain = refl; entries_n = refl; entries_s = refl; goal = refl; won = refl }

-- the counts after a seat has played a card of its own
counts-played : (question : Question) (west : Cards) (place : Position) (view : ClassView) (seat : Seat) (card : ℕ)
    → IsDealt question west → HasCounts question west place view
    → holds (without (dealt question west seat) place.gone) card ≡ true
    → HasCounts question west (record place { gone = card ∷ place.gone })
    (class_played view seat (class_of (hands_of question) card))
counts-played question west place view seat card is counts held =
    let class : ℕ = class_of (hands_of question) card in
    let kept = kept-played view seat class in
    let own : PlaysOwn (dealt question west seat) place.gone (card ∷ place.gone) =
    inl (card, (holds_tells (without (dealt question west seat) place.gone) card).0 held, refl) in
    record {
      long = long-played view seat class counts.long;
      left = λ other number small.
          left-played view (counts_of (hands_of question) west) seat other class number counts.long small
          ∙ ap (λ (n : ℕ). n - taken seat class other number) (counts.left other number small)
          ∙ sym (hand_taken question west place seat other card number is held);
      cards_n = cards_n-played view seat class ∙ ap (λ (n : ℕ). n - taken_n seat) counts.cards_n
          ∙ sym (left_n question west place.gone (card ∷ place.gone) seat is.deal own);
      cards_s = cards_s-played view seat class ∙ ap (λ (n : ℕ). n - taken_s seat) counts.cards_s
          ∙ sym (left_s question west place.gone (card ∷ place.gone) seat is.deal own);
      lead = kept.lead ∙ counts.lead;
      regain = kept.regain ∙ counts.regain;
      entries_n = kept.entries_n ∙ counts.entries_n;
      entries_s = kept.entries_s ∙ counts.entries_s;
      goal = kept.goal ∙ counts.goal;
      won = kept.won ∙ counts.won;
    }

-- what a seat has left rests on the counts alone
left_of : (view later : ClassView) (counts : ClassLayout) (seat : Seat) (class : ℕ) → later.north ≡ view.north
    → later.south ≡ view.south → later.defence ≡ view.defence
    → later.gone_w ≡ view.gone_w → later.gone_e ≡ view.gone_e
    → left later counts seat class ≡ left view counts seat class
left_of view later counts N class north south defence gone_w gone_e = ap (λ (l : List ℕ). slice_index l class) north
left_of view later counts S class north south defence gone_w gone_e = ap (λ (l : List ℕ). slice_index l class) south
left_of view later counts W class north south defence gone_w gone_e =
    ap (λ (l : List ℕ). left (record view { defence = l; gone_w = later.gone_w }) counts W class) defence
    ∙ ap (λ (l : List ℕ). left (record view { gone_w = l }) counts W class) gone_w
left_of view later counts E class north south defence gone_w gone_e =
    ap (λ (l : List ℕ). left (record view { defence = l; gone_e = later.gone_e }) counts E class) defence
    ∙ ap (λ (l : List ℕ). left (record view { gone_e = l }) counts E class) gone_e

-- the same cards are gone, and the counts are the same
record SameCounts (view later : ClassView) : Type 0 where
  north : later.north ≡ view.north
  south : later.south ≡ view.south
  cards_n : later.cards_n ≡ view.cards_n
  cards_s : later.cards_s ≡ view.cards_s
  defence : later.defence ≡ view.defence
  gone_w : later.gone_w ≡ view.gone_w
  gone_e : later.gone_e ≡ view.gone_e
  regain : later.regain ≡ view.regain
  goal : later.goal ≡ view.goal

same_counts : (question : Question) (west : Cards) (place next : Position) (view later : ClassView)
    → HasCounts question west place view → SameCounts view later
    → next.gone ≡ place.gone → later.lead ≡ next.lead → later.entries_n ≡ next.entries_n
    → later.entries_s ≡ next.entries_s → later.won ≡ next.won
    → HasCounts question west next later
same_counts question west place next view later counts same gone lead entries_n entries_s won = record {
  long = record {
    north = ap length same.north ∙ counts.long.north;
    south = ap length same.south ∙ counts.long.south;
    gone_w = ap length same.gone_w ∙ counts.long.gone_w;
    gone_e = ap length same.gone_e ∙ counts.long.gone_e;
  };
  left = λ seat class small.
      left_of view later
      (counts_of (hands_of question) west) seat class same.north same.south same.defence same.gone_w same.gone_e
      ∙ counts.left seat class small
      ∙ ap (λ (l : List ℕ). cards_in (hands_of question) (without (dealt question west seat) l) class) (sym gone);
  cards_n = same.cards_n ∙ counts.cards_n ∙ ap (λ (l : List ℕ). length (without question.north l)) (sym gone);
  cards_s = same.cards_s ∙ counts.cards_s ∙ ap (λ (l : List ℕ). length (without question.south l)) (sym gone);
  lead = lead;
  regain = same.regain ∙ counts.regain;
  entries_n = entries_n;
  entries_s = entries_s;
  goal = same.goal ∙ counts.goal;
  won = won;
}

all_same : (view : ClassView) → SameCounts view view
all_same view =
    record {
      north = refl;
      south = refl;
      cards_n = refl;
      cards_s = refl;
      defence = refl;
      gone_w = refl;
      gone_e = refl;
      regain = refl;
      goal = refl;
    }

same-ended : (view : ClassView) (winner : Owner) → SameCounts view (class_ended view winner)
same-ended view owners.N =
    record {
      north = refl;
      south = refl;
      cards_n = refl;
      cards_s = refl;
      defence = refl;
      gone_w = refl;
      gone_e = refl;
      regain = refl;
      goal = refl;
    }
same-ended view owners.S =
    record {
      north = refl;
      south = refl;
      cards_n = refl;
      cards_s = refl;
      defence = refl;
      gone_w = refl;
      gone_e = refl;
      regain = refl;
      goal = refl;
    }
same-ended view owners.Defence =
    record {
      north = refl;
      south = refl;
      cards_n = refl;
      cards_s = refl;
      defence = refl;
      gone_w = refl;
      gone_e = refl;
      regain = refl;
      goal = refl;
    }

module _ (question : Question) (west : Cards) (place : Position) (view : ClassView) where
  -- the end of a trick
  merged-ended : (winner : Seat)
      → HasCounts question west place view
      → IsMerged question west (ended_trick question place winner) (class_ended view (side winner))
  merged-ended N counts = record {
    counts = same_counts question west place (ended_trick question place N) view (class_ended view owners.N) counts
        (same-ended view owners.N) refl refl counts.entries_n counts.entries_s (ap (λ (n : ℕ). n + 1) counts.won);
    trick = refl;
  }
  merged-ended S counts = record {
    counts = same_counts question west place (ended_trick question place S) view (class_ended view owners.S) counts
        (same-ended view owners.S) refl refl counts.entries_n counts.entries_s (ap (λ (n : ℕ). n + 1) counts.won);
    trick = refl;
  }
  merged-ended E counts = record {
    counts = same_counts question west place (ended_trick question place E) view (class_ended view owners.Defence)
        counts
        (same-ended view owners.Defence) refl counts.regain counts.entries_n counts.entries_s counts.won;
    trick = refl;
  }
  merged-ended W counts = record {
    counts = same_counts question west place (ended_trick question place W) view (class_ended view owners.Defence)
        counts
        (same-ended view owners.Defence) refl counts.regain counts.entries_n counts.entries_s counts.won;
    trick = refl;
  }

  -- a seat has played to a trick
  merged-passed : (turn : Seat) (after : ℕ)
      (winner : Seat) (highest : ℕ)
      → HasCounts question west place view
      → IsMerged question west (turn_passed question place turn after winner highest)
      (class_passed view turn after (side winner) (class_of (hands_of question) highest))
  merged-passed turn zero winner highest counts =
      merged-ended winner counts
  merged-passed turn (suc after) winner highest counts = record {
    counts = same_counts question west place (record place { trick = InTrick (clockwise turn) after winner highest })
        view
        (record view { trick = Open (clockwise turn) after (side winner) (class_of (hands_of question) highest) })
        counts
        (record {
          north = refl;
          south = refl;
          cards_n = refl;
          cards_s = refl;
          defence = refl;
          gone_w = refl;
          gone_e = refl;
          regain = refl;
          goal = refl;
        })
        refl counts.lead counts.entries_n counts.entries_s counts.won;
    trick = refl;
  }

  -- of two cards the higher has no higher class number, and where the classes are one the same side held both
  merged-either : (turn : Seat) (after : ℕ)
      (winner : Seat) (highest card : ℕ) (beats class_beats : Bool)
      → HasCounts question west place view
      → nat_lt highest card ≡ beats
      → nat_lt (class_of (hands_of question) card) (class_of (hands_of question) highest) ≡ class_beats
      → (class_of (hands_of question) card ≡ class_of (hands_of question) highest → side turn ≡ side winner)
      → IsMerged question west
      (if beats then turn_passed question place turn after turn card
      else turn_passed question place turn after winner highest)
      (if class_beats then class_passed view turn after (side turn) (class_of (hands_of question) card)
      else class_passed view turn after (side winner) (class_of (hands_of question) highest))
  merged-either turn after winner highest card true true counts higher lower one =
      merged-passed turn after turn card counts
  merged-either turn after winner highest card false false counts higher lower one =
      merged-passed turn after winner highest counts
  merged-either turn after winner highest card true false counts higher lower one =
      let hands : Hands = hands_of question in
      let up : highest < card = ltb-true highest card higher in
      let down : class_of hands highest ≤ class_of hands card =
      ltb-false (class_of hands card) (class_of hands highest) lower in
      let rises = class_of-rises hands card highest (omega arith) in
      let same : class_of hands card ≡ class_of hands highest = omega arith in
      subst
      (λ (owner : Owner). IsMerged question west (turn_passed question place turn after turn card)
      (class_passed view turn after owner (class_of hands highest)))
      (one same)
      (subst (λ (class : ℕ). IsMerged question west (turn_passed question place turn after turn card)
      (class_passed view turn after (side turn) class)) same
      (merged-passed turn after turn card counts))
  merged-either turn after winner highest card false true counts higher lower one =
      let hands : Hands = hands_of question in
      let up : card ≤ highest = ltb-false highest card higher in
      let down : class_of hands card < class_of hands highest =
      ltb-true (class_of hands card) (class_of hands highest) lower in
      absurd (omega (arith, class_of-rises hands highest card up))

module _ (question : Question) (west : Cards) (place : Position) (view : ClassView) where
  -- the seat on turn has followed with a card of its own
  merged-followed : (turn : Seat) (after : ℕ)
      (winner : Seat) (highest card : ℕ)
      → IsDealt question west
      → HasCounts question west place view → holds (without (dealt question west turn) place.gone) card ≡ true
      → holds (dealt question west winner) highest ≡ true
      → IsMerged question west (followed question place turn after winner highest card)
      (class_followed view turn after (side winner) (class_of (hands_of question) highest)
      (class_of (hands_of question) card))
  merged-followed turn after winner highest card is counts held won =
      let hands : Hands = hands_of question in
      let own : holds (dealt question west turn) card ≡ true =
      (holds-from_without (dealt question west turn) place.gone card held).0 in
      merged-either question west (record place { gone = card ∷ place.gone })
      (class_played view turn (class_of hands card)) turn after winner highest card
      (nat_lt highest card) (nat_lt (class_of hands card) (class_of hands highest))
      (counts-played question west place view turn card is counts held) refl refl
      (λ same.
      sym (holder-dealt question west turn card is own)
      ∙ class_held_by_one hands card highest
      (IsRank-held (dealt question west turn) card (IsHolding-dealt question west turn is) own)
      (IsRank-held (dealt question west winner) highest (IsHolding-dealt question west winner is) won) same
      ∙ holder-dealt question west winner highest is won)

  -- a lead of North's, and one of South's
  merged-led_n : (card : ℕ)
      → IsDealt question west → HasCounts question west place view
      → holds (without question.north place.gone) card ≡ true
      → IsMerged question west (led place N card) (class_led view N (class_of (hands_of question) card))
  merged-led_n card is counts held =
      let class : ℕ = class_of (hands_of question) card in
      let played = counts-played question west place view N card is counts held in
      record {
        counts = same_counts question west (record place { gone = card ∷ place.gone }) (led place N card)
            (class_played view N class) (class_led view N class) played
            (record {
              north = refl;
              south = refl;
              cards_n = refl;
              cards_s = refl;
              defence = refl;
              gone_w = refl;
              gone_e = refl;
              regain = refl;
              goal = refl;
            })
            refl counts.lead
            (ap (λ (lead : LeadAt). after_lead lead N view.entries_n) counts.lead
            ∙ ap (λ (entries : Entries). after_lead place.lead N entries) counts.entries_n) counts.entries_s
            counts.won;
        trick = refl;
      }

  merged-led_s : (card : ℕ)
      → IsDealt question west → HasCounts question west place view
      → holds (without question.south place.gone) card ≡ true
      → IsMerged question west (led place S card) (class_led view S (class_of (hands_of question) card))
  merged-led_s card is counts held =
      let class : ℕ = class_of (hands_of question) card in
      let played = counts-played question west place view S card is counts held in
      record {
        counts = same_counts question west (record place { gone = card ∷ place.gone }) (led place S card)
            (class_played view S class) (class_led view S class) played
            (record {
              north = refl;
              south = refl;
              cards_n = refl;
              cards_s = refl;
              defence = refl;
              gone_w = refl;
              gone_e = refl;
              regain = refl;
              goal = refl;
            })
            refl counts.lead counts.entries_n
            (ap (λ (lead : LeadAt). after_lead lead S view.entries_s) counts.lead
            ∙ ap (λ (entries : Entries). after_lead place.lead S entries) counts.entries_s) counts.won;
        trick = refl;
      }

  class_step-led : (view : ClassView) (trick : ClassTrick) (seat : Seat) (class : ℕ) → trick ≡ Closed
      → class_led view seat class ≡ class_step_in view trick (Lead seat class)
  class_step-led view trick seat class closed = rw closed refl

  class_step-followed : (view : ClassView) (trick : ClassTrick) (turn : Seat) (after : ℕ) (winner : Owner)
      (highest class : ℕ)
      → trick ≡ Open turn after winner highest
      → class_followed view turn after winner highest class ≡ class_step_in view trick (Follow class)
  class_step-followed view trick turn after winner highest class is = rw is refl

  class_step-shown_out : (view : ClassView) (trick : ClassTrick) (turn : Seat) (after : ℕ) (winner : Owner)
      (highest : ℕ)
      → trick ≡ Open turn after winner highest
      → class_passed view turn after winner highest ≡ class_step_in view trick ShowOut
  class_step-shown_out view trick turn after winner highest is = rw is refl

  -- a position and a class place that stand for the same moves on
  carried : (question : Question) (west : Cards) (place next : Position) (view later : ClassView) → place ≡ next
      → view ≡ later → IsMerged question west place view → IsMerged question west next later
  carried question west place next view later same one is =
      subst (λ (v : ClassView). IsMerged question west next v) one
      (subst (λ (p : Position). IsMerged question west p view) same is)

  lead_merged : (move : Move)
      → IsDealt question west → IsMerged question west place view
      → place.trick ≡ NoTrick → Contains (leads_at question place) move
      → IsMerged question west (step question place move) (class_step view (merge (hands_of question) move))
  lead_merged move is merged closed found =
      let shut : view.trick ≡ Closed = merged.trick ∙ ap (merged_trick (hands_of question)) closed in
      elim (lead_cases question place move found) [
        | inl north ↦
            subst
            (λ (m : Move). IsMerged question west (step question place m)
            (class_step view (merge (hands_of question) m)))
            north.2
            (carried question west (led place N north.0) (step question place (cards.Lead N north.0))
            (class_led view N (class_of (hands_of question) north.0))
            (class_step view (Lead N (class_of (hands_of question) north.0)))
            (step-led question place N north.0 closed)
            (class_step-led view view.trick N (class_of (hands_of question) north.0) shut)
            (merged-led_n north.0 is merged.counts
            ((holds_tells (without question.north place.gone) north.0).1 north.1)))
        | inr south ↦
            subst
            (λ (m : Move). IsMerged question west (step question place m)
            (class_step view (merge (hands_of question) m)))
            south.2
            (carried question west (led place S south.0) (step question place (cards.Lead S south.0))
            (class_led view S (class_of (hands_of question) south.0))
            (class_step view (Lead S (class_of (hands_of question) south.0)))
            (step-led question place S south.0 closed)
            (class_step-led view view.trick S (class_of (hands_of question) south.0) shut)
            (merged-led_s south.0 is merged.counts
            ((holds_tells (without question.south place.gone) south.0).1 south.1)))
      ]

  follow_merged : (turn : Seat) (after : ℕ)
      (winner : Seat) (highest : ℕ) (move : Move)
      → IsDealt question west
      → IsMerged question west place view → place.trick ≡ InTrick turn after winner highest
      → IsOpen question west place.gone turn after winner highest
      → Contains (follows_of (hand question west place turn)) move
      → IsMerged question west (step question place move) (class_step view (merge (hands_of question) move))
  follow_merged turn after winner highest move is merged open_is sense found =
      let shown : view.trick ≡ Open turn after (side winner) (class_of (hands_of question) highest) =
      merged.trick ∙ ap (merged_trick (hands_of question)) open_is in
      elim (follow_or_show (hand question west place turn) move found) [
        | inl card ↦
            subst
            (λ (m : Move). IsMerged question west (step question place m)
            (class_step view (merge (hands_of question) m)))
            card.2
            (carried question west (followed question place turn after winner highest card.0)
            (step question place (cards.Follow card.0))
            (class_followed view turn after (side winner) (class_of (hands_of question) highest)
            (class_of (hands_of question) card.0))
            (class_step view (Follow (class_of (hands_of question) card.0)))
            (step-followed question place turn after winner highest card.0 open_is)
            (class_step-followed view view.trick turn after (side winner) (class_of (hands_of question) highest)
            (class_of (hands_of question) card.0) shown)
            (merged-followed turn after winner highest card.0 is merged.counts
            ((holds_tells (without (dealt question west turn) place.gone) card.0).1 card.1)
            ((holds_tells (dealt question west winner) highest).1 sense.highest_dealt)))
        | inr none ↦
            subst
            (λ (m : Move). IsMerged question west (step question place m)
            (class_step view (merge (hands_of question) m)))
            none.1
            (carried question west (turn_passed question place turn after winner highest)
            (step question place cards.ShowOut)
            (class_passed view turn after (side winner) (class_of (hands_of question) highest))
            (class_step view ShowOut)
            (step-shown_out question place turn after winner highest open_is)
            (class_step-shown_out view view.trick turn after (side winner) (class_of (hands_of question) highest) shown)
            (merged-passed question west place view turn after winner highest merged.counts))
      ]

  step_in_trick : (trick : Trick) (move : Move)
      → IsDealt question west → IsMerged question west place view
      → place.trick ≡ trick → IsTrickAt question west place.gone trick
      → Contains (legal_in question west place trick) move
      → IsMerged question west (step question place move) (class_step view (merge (hands_of question) move))
  unfolding legal_in
  step_in_trick NoTrick move is merged trick_is sense found =
      lead_merged move is merged trick_is found
  step_in_trick (InTrick turn after winner highest) move is merged trick_is sense found =
      follow_merged turn after winner highest move is merged trick_is sense found

  -- a legal move of single cards and its class move lead to a position and its class place
  pub step_merged : (move : Move)
      → IsDealt question west → IsMerged question west place view
      → IsTrickAt question west place.gone place.trick → Contains (legal_at question west place) move
      → IsMerged question west (step question place move) (class_step view (merge (hands_of question) move))
  step_merged move is merged sense found =
      step_in_trick place.trick move is merged refl sense found

-- before any move
pub start_merged : (question : Question) (west : Cards) → IsDealt question west
    → IsMerged question west (start_place question) (class_start question)
start_merged question west is = record {
  counts = record {
    long = record {
      north = length-dealt_to (hands_of question) owners.N;
      south = length-dealt_to (hands_of question) owners.S;
      gone_w = length-none_played;
      gone_e = length-none_played;
    };
    left = λ seat class small. left-start question west seat class is small;
    cards_n = sym (ap length (without-none question.north));
    cards_s = sym (ap length (without-none question.south));
    lead = refl;
    regain = refl;
    entries_n = refl;
    entries_s = refl;
    goal = refl;
    won = refl;
  };
  trick = refl;
}

merged_from : (question : Question) (west : Cards) (place : Position) (view : ClassView) (moves : List Move)
    → IsDealt question west → LegalFrom question west place moves
    → IsTrickAt question west place.gone place.trick → IsMerged question west place view
    → IsMerged question west (fold (step question) place moves)
    (fold class_step view (merged (hands_of question) moves))
unfolding LegalFrom
merged_from question west place view [] is legal sense start = start
merged_from question west place view (move ∷ moves) is legal sense start =
    merged_from question west (step question place move)
    (class_step view (merge (hands_of question) move)) moves is legal.1
    (trick_later question west place move sense legal.0)
    (step_merged question west place view move is start sense legal.0)

-- after a legal history of single cards, the class place is that of the merged history
pub after_merged : (question : Question) (west : Cards) (history : History) → IsDealt question west
    → IsLegal question west history
    → IsMerged question west (after question history) (class_after question (merged (hands_of question) history))
after_merged question west history is legal =
    merged_from question west (start_place question) (class_start question) history is legal tt
    (start_merged question west is)

-- a play is over a deal
pub play_dealt : (question : Question) (west : Cards) (history : History) → IsPlay question west history
    → IsDealt question west
play_dealt question west history play =
    let deal = layouts_are_deals question west play.valid.north play.valid.south play.valid.apart play.layout in
    record { deal = deal.0; holding = deal.1 }
