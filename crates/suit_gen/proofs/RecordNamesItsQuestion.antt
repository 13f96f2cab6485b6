-- `record_names`: the fields of a deal's record name the question about it, which is valid.
use Rattle.std.proofs.Common.{lit<, inl, inr, nat_lt, not, IsTrue, ◌==◌, Bool, true, false}
use Rattle.std.proofs.Common.{ℕ, zero, suc, ◌+◌, ◌-◌, ◌<◌, ◌≤◌, ◌≡◌, List, [], ◌∷◌, ◌++◌, length, map, refl, sym}
use Rattle.std.proofs.Common.{◌∙◌, ap, arith, Ok, Result, slice_index_or}
use Rattle.std.specs.List.{AllByRecursion, flat_map, list_any}
use Rattle.std.proofs.lemmas.Bool.{cases_Bool, eqb-true}
use Rattle.std.proofs.lemmas.Bool.Decides.{nat_tests}
use Rattle.std.proofs.lemmas.List.Elements.{All-from_recursion}
use Rattle.std.proofs.lemmas.List.{append_assoc, append-nil}
use Rattle.suit_lists.proofs.Filters.{kept_parts}
use Rattle.suit_cards.specs.Cards.{Text}
use Rattle.suit_cards.specs.Holdings.{IsHolding, holds, others_of, suit}
use Rattle.suit_cards.proofs.WhetherARankIsHeld.{length-IsHolding, shares_tells}
use Rattle.suit_cards.proofs.HoldingIsWhatItHolds.{IsHolding-others_of}
use Rattle.suit_cards.proofs.SuitRuns.{IsHolding-filter_suit}
use Rattle.suit_num.specs.Binomials.{binomial, binomial_row, next_row}
use Rattle.suit_game.specs.Layouts.{total}
use Rattle.suit_game.specs.Validity.{IsValid}
use Rattle.suit_game.specs.declared.question.Goal.TheVariants.{AtLeast}
use Rattle.suit_game.proofs.WhatAllLayoutsWeigh.{total_of_all}
use Rattle.suit_question.proofs.ValuesBack.{count_back, goal_back, holding_back, number_within_back}
use Rattle.suit_gen.proofs.Dealing.{north_some}
use Rattle.suit_game.specs.declared.limits.TheConstants.{HAND_SIZE, MOST_NODES, MOST_PIVOTS}
use Rattle.suit_game.specs.declared.question.Question.{Question}
use Rattle.suit_gen.specs.Deals.{deal_at, deals_from, dealt_to, place_of, question_about}
use Rattle.suit_gen.specs.Draws.{state_after}
use Rattle.suit_gen.specs.Naming.{question_named}
use Rattle.suit_gen.specs.Records.{fields_of, record_text}
use Rattle.suit_gen.specs.declared.deals.Deal.{Deal}
use Rattle.suit_gen.specs.declared.deals.TheConstants.{MADE_NODES, MADE_PIVOTS}
use Rattle.suit_question.specs.declared.faults.QuestionKind.{QuestionKind}

-- the deals that are left begin with the next one
deals_left : (count counter state : ℕ) → counter < count
    → deals_from (count - counter) state ≡ deal_at state ∷ deals_from (count - (counter + 1)) (state_after 13 state)
unfolding deals_from
deals_left count counter state within =
    let left : count - counter ≡ suc (count - (counter + 1)) = omega arith in
    rw left refl

no_deals : (count counter state : ℕ) → count ≤ counter → deals_from (count - counter) state ≡ []
unfolding deals_from
no_deals count counter state past =
    let none : count - counter ≡ 0 = omega arith in
    rw none refl

pub texts_more : (count counter state after : ℕ) (text longer : Text) (deal : Deal) {whole : Text} → counter < count
    → longer ≡ text ++ record_text deal → deal ≡ deal_at state → after ≡ state_after 13 state
    → text ++ flat_map record_text (deals_from (count - counter) state) ≡ whole
    → longer ++ flat_map record_text (deals_from (count - (counter + 1)) after) ≡ whole
texts_more count counter state after text longer deal within written is on left =
    rw (written, is, on) (append_assoc text _ _
    ∙ rw (deals_left count counter state within) at left)

pub texts_done : (count counter state : ℕ) (text whole : Text) → count ≤ counter
    → text ++ flat_map record_text (deals_from (count - counter) state) ≡ whole → text ≡ whole
texts_done count counter state text whole past left =
    sym (append-nil text) ∙ rw (no_deals count counter state past) at left

pub more_questions : (count counter state after : ℕ) (questions longer : List Question) (question : Question)
    (deal : Deal) {whole : List Question} → counter < count
    → longer ≡ questions ++ question ∷ [] → question ≡ question_about deal → deal ≡ deal_at state
    → after ≡ state_after 13 state
    → questions ++ map question_about (deals_from (count - counter) state) ≡ whole
    → longer ++ map question_about (deals_from (count - (counter + 1)) after) ≡ whole
more_questions count counter state after questions longer question deal within pushed is is_deal on left =
    rw (pushed, is, is_deal, on) (append_assoc questions _ _
    ∙ rw (deals_left count counter state within) at left)

pub all_questions : (count counter state : ℕ) (questions whole : List Question) → count ≤ counter
    → questions ++ map question_about (deals_from (count - counter) state) ≡ whole → questions ≡ whole
all_questions count counter state questions whole past left =
    sym (append-nil questions) ∙ rw (no_deals count counter state past) at left

dealt_holding : (place state : ℕ) → IsHolding (dealt_to place state)
unfolding dealt_to
dealt_holding place state = IsHolding-filter_suit (λ rank. place_of state rank == place)

not_true : (b : Bool) → IsTrue (not b) → b ≡ false
not_true true h = sym h
not_true false h = refl

some_binomial : 0 < binomial 26 13
unfolding binomial binomial_row next_row
some_binomial = lit< tt

length_deals : (count state : ℕ) → length (map question_about (deals_from count state)) ≡ count
unfolding deals_from
length_deals zero state = refl
length_deals (suc count) state = omega (arith, length_deals count (state_after 13 state))

pub questions_count : (count number : ℕ) (questions : List Question)
    → questions ≡ map question_about (deals_from count number) → length questions ≡ count
questions_count count number questions are = ap length are ∙ length_deals count number

no_card_in_both : (state : ℕ) → list_any (holds (dealt_to 1 state)) (dealt_to 0 state) ≡ false
unfolding dealt_to
no_card_in_both state = elim (cases_Bool (list_any (holds (dealt_to 1 state)) (dealt_to 0 state))) [
  | inl shared ↦
      let found = (shares_tells (dealt_to 0 state) (dealt_to 1 state)).0 shared in
      let north = kept_parts (λ rank. place_of state rank == 0) suit found.1 (found.0, found.2, found.3) in
      let south = kept_parts (λ rank. place_of state rank == 1) suit found.1 found.4 in
      let zeroth : place_of state found.1 ≡ 0 = eqb-true _ _ north.1 in
      let first : place_of state found.1 ≡ 1 = eqb-true _ _ south.1 in
      absurd (omega arith)
  | inr apart ↦ apart
]

-- the question about the deal of a state is valid
pub question_valid : (state : ℕ) → IsValid (question_about (deal_at state))
question_valid state =
    let north = dealt_holding 0 state in
    let south = dealt_holding 1 state in
    let missing_few : length (others_of (dealt_to 0 state) (dealt_to 1 state)) ≤ 13 =
    length-IsHolding _ (IsHolding-others_of (dealt_to 0 state) (dealt_to 1 state)) in
    let north_few = length-IsHolding (dealt_to 0 state) north in
    let south_few = length-IsHolding (dealt_to 1 state) south in
    record {
      north = north;
      south = south;
      apart = rw (no_card_in_both state) refl;
      some_card = omega (arith, north_some state);
      entries_n = omega arith;
      entries_s = omega arith;
      vacant_w = omega arith;
      vacant_e = omega arith;
      range = omega arith;
      west_most = omega arith;
      places = omega (arith, missing_few);
      goal = omega (arith, north_few, south_few);
      nodes_least = omega arith;
      nodes_most = omega arith;
      pivots = omega arith;
      has_weight = rw (total_of_all (question_about (deal_at state)) (omega (arith, missing_few)) refl missing_few)
          some_binomial;
    }

-- a question that is valid is named by its record
names_valid : (deal : Deal) → IsValid (question_about deal) → question_named (fields_of deal) ≡ Ok (question_about deal)
unfolding question_named
names_valid deal valid =
    let some : (length deal.north + length deal.south == 0) ≡ false =
    (let h = valid.some_card in grind (arith, nat_tests)) in
    let places : nat_lt 26 (length (others_of deal.north deal.south)) ≡ false =
    (let h = valid.places in grind (arith, nat_tests)) in
    let weight : (total (question_about deal) == 0) ≡ false = (let h = valid.has_weight in grind (arith, nat_tests)) in
    rw (
      holding_back deal.north valid.north,
      holding_back deal.south valid.south,
      count_back HAND_SIZE (omega arith),
      goal_back (AtLeast deal.goal) valid.goal,
      number_within_back 1 MOST_NODES MADE_NODES (omega arith) (omega arith) (omega arith),
      number_within_back 0 MOST_PIVOTS MADE_PIVOTS (omega arith) (omega arith) (omega arith),
      not_true (list_any (holds deal.south) deal.north) valid.apart,
      some,
      places,
      weight,
    ) refl

record_names : (state : ℕ) → question_named (fields_of (deal_at state)) ≡ Ok (question_about (deal_at state))
record_names state = names_valid (deal_at state) (question_valid state)

named_all : (count number : ℕ)
    → map {B = Result Question QuestionKind} (λ (question : Question). Ok question)
    (map question_about (deals_from count number))
    ≡ map (λ deal. question_named (fields_of deal)) (deals_from count number)
unfolding deals_from
named_all zero number = refl
named_all (suc count) number = rw (record_names number, named_all count (state_after 13 number)) refl

valid_all : (count number : ℕ) → AllByRecursion IsValid (map question_about (deals_from count number))
unfolding deals_from
valid_all zero number = tt
valid_all (suc count) number = (question_valid number, valid_all count (state_after 13 number))

pub questions_named : (count number : ℕ) (questions : List Question)
    → questions ≡ map question_about (deals_from count number)
    → map {B = Result Question QuestionKind} (λ (question : Question). Ok question) questions
    ≡ map (λ deal. question_named (fields_of deal)) (deals_from count number)
questions_named count number questions are = rw are (named_all count number)

pub questions_valid : (count number : ℕ) (questions : List Question)
    → questions ≡ map question_about (deals_from count number)
    → (k : ℕ) (d : Question) → k < length questions → IsValid (slice_index_or questions k d)
questions_valid count number questions are =
    rw are (All-from_recursion IsValid _ (valid_all count number))
