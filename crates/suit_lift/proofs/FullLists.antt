-- plans_are_lists, defences_are_lists: the rows that name the weights of a lift at each turn are a full list with its
-- pays.
pub mod WaysThatAgreePayTheSame
pub mod LegalHistories
pub mod OnceEach
pub mod RowNumbers
pub mod SomeWeight
use Rattle.std.proofs.Common.{◌≡◌, ◌≢◌, ◌&&◌, not, Bool, true, false, cond, List, [], map, refl, sym, ap}
use Rattle.std.proofs.Common.{◌∙◌, subst, inl, inr}
use Rattle.std.specs.Prelude.{Contains}
use Rattle.std.specs.List.{AllByRecursion, filter, flat_map}
use Rattle.std.proofs.lemmas.Bool.{and_from, and_parts, cases_Bool, not-true}
use Rattle.std.proofs.lemmas.List.Elements.{All-from_recursion}
use Rattle.std.proofs.lemmas.Slice.Eq.{bytes_eq-Decides}
use Rattle.suit_lists.proofs.Elements.{Contains-same, each_at, each_gives, each_in}
use Rattle.suit_lists.proofs.Filters.{Contains-filter, kept_parts}
use Rattle.suit_lists.proofs.FlatMaps.{Contains-flat_map, each_flat_map}
use Rattle.suit_lists.proofs.Maps.{Contains-map, each_map}
use Rattle.suit_lists.proofs.Once.{map_pairs, once_filter}
use Rattle.suit_cards.specs.Cards.{Cards}
use Rattle.suit_game.specs.declared.question.Question.{Question}
use Rattle.suit_game.specs.declared.moves.Move.{Move}
use Rattle.suit_game.specs.Gains.{is_declarer_turn, pay}
use Rattle.suit_game.specs.Histories.{History}
use Rattle.suit_game.specs.Layouts.{layouts}
use Rattle.suit_game.specs.PlaceViews.{IsPlay}
use Rattle.suit_game.specs.Positions.{IsLegal, after, has_ended, legal}
use Rattle.suit_game.specs.Strategies.{DefenceWay, DefenceWayRow, Way, WayRow, by_defence_rows, by_rows}
use Rattle.suit_game.specs.Validity.{IsValid}
use Rattle.suit_plans.specs.declared.plan.Plan.{Plan}
use Rattle.suit_plans.specs.declared.defence.Defence.{Defence}
use Rattle.suit_lift.specs.FullLists.{DefencesAreLists, IsFull, IsFullDefence, IsToMove, NamesMoves, PlansAreLists}
use Rattle.suit_lift.specs.Lifts.{defence_way, plan_way}
use Rattle.suit_lift.proofs.LegalMoves.{declarers_legal}
use Rattle.suit_lift.proofs.FullLists.WaysThatAgreePayTheSame.{acting, agreed_pay}
use Rattle.suit_lift.proofs.FullLists.LegalHistories.{all_legal, each_legal, legal_histories}
use Rattle.suit_lift.proofs.FullLists.OnceEach.{each_first, each_first_all, each_first_has, each_first_once}
use Rattle.suit_lift.proofs.FullLists.RowNumbers.{DefenceKey, decides_same_key, decides_same_play, defence_row_for}
use Rattle.suit_lift.proofs.FullLists.RowNumbers.{defence_rows_tell, names_moves, number_is, numbers_for, row_for}
use Rattle.suit_lift.proofs.FullLists.RowNumbers.{rows_tell, same_key}
use Rattle.suit_lift.proofs.FullLists.SomeWeight.{defence_weighs, plan_weighs}
use Rattle.suit_game.specs.Strategies.{same_play}
use Rattle.suit_game.specs.declared.limits.TheConstants.{MOST_MOVES}

-- whether a side is to move after a history
moves_next : Question → Bool → History → Bool
moves_next question declarers history =
    not (has_ended question (after question history))
    && cond declarers (is_declarer_turn (after question history).trick)
    (not (is_declarer_turn (after question history).trick))

turn_told : (declarers own : Bool) → cond declarers own (not own) ≡ true → own ≡ declarers
turn_told true own told = told
turn_told false own told = not-true own told

turn_tells : (declarers own : Bool) → own ≡ declarers → cond declarers own (not own) ≡ true
turn_tells true own is = is
turn_tells false own is = ap not is

module _ (question : Question) (declarers : Bool) where
  next_told : (west : Cards) (history : History) → Contains (layouts question) west → IsLegal question west history
      → moves_next question declarers history ≡ true → IsToMove question declarers west history
  unfolding moves_next
  next_told west history layout legal_history told =
      let own : Bool = is_declarer_turn (after question history).trick in
      let parts = and_parts (not (has_ended question (after question history))) (cond declarers own (not own)) told in
      record {
        layout = layout;
        legal = legal_history;
        goes = not-true (has_ended question (after question history)) parts.0;
        turn = turn_told declarers own parts.1;
      }

  next_tells : (west : Cards) (history : History) → IsToMove question declarers west history
      → moves_next question declarers history ≡ true
  unfolding moves_next
  next_tells west history next =
      let own : Bool = is_declarer_turn (after question history).trick in
      and_from (not (has_ended question (after question history))) (cond declarers own (not own)) (ap not next.goes)
      (turn_tells declarers own next.turn)

play_of : (question : Question) (declarers : Bool) (west : Cards) (history : History) → IsValid question
    → IsToMove question declarers west history → IsPlay question west history
play_of question declarers west history valid next =
    record { valid = valid; layout = next.layout; legal = next.legal }

acting_same : (question : Question) (declarer other : Way) (defence other_defence : DefenceWay) (west : Cards)
    (history : History) (move : Move) (b : Bool)
    → is_declarer_turn (after question history).trick ≡ b
    → cond b (declarer history) (defence west history) move ≡ cond b (other history) (other_defence west history) move
    → acting question declarer defence west history move ≡ acting question other other_defence west history move
acting_same question declarer other defence other_defence west history move b turn same =
    ap (λ (own : Bool). cond own (declarer history) (defence west history) move) turn ∙ same
    ∙ sym (ap (λ (own : Bool). cond own (other history) (other_defence west history) move) turn)

-- ---- declarer's rows

module _ (question : Question) (plan : Plan) (valid : IsValid question) where
  -- the histories at which declarer is to move
  own_keys : List History
  own_keys =
      filter (moves_next question true)
      (each_first same_play decides_same_play (flat_map (legal_histories question) (layouts question)))

  own_rows : List WayRow
  own_rows = map (row_for question (plan_way question plan)) own_keys

  -- some layout allows a history
  abbrev SomeAllows : History → Type 0
  SomeAllows history = (west : Cards) × Contains (layouts question) west × IsLegal question west history

  all_allowed : AllByRecursion SomeAllows (flat_map (legal_histories question) (layouts question))
  all_allowed =
      each_flat_map SomeAllows (legal_histories question) (layouts question)
      (λ west found. each_gives (IsLegal question west) SomeAllows (legal_histories question west)
      (λ history legal_history. (west, found, legal_history)) (all_legal question west))

  own_key : (west : Cards) (history : History) → IsToMove question true west history → Contains own_keys history
  unfolding own_keys
  own_key west history next =
      let all : List History = flat_map (legal_histories question) (layouts question) in
      Contains-filter (moves_next question true) (each_first same_play decides_same_play all) history
      (each_first_has same_play decides_same_play all history
      (Contains-flat_map (legal_histories question) (layouts question) west history next.layout
      (each_legal question west history valid next.legal)))
      (next_tells question true west history next)

  own_next : (history : History) → Contains own_keys history
      → (west : Cards) × IsToMove question true west history
  unfolding own_keys
  own_next history found =
      let all : List History = flat_map (legal_histories question) (layouts question) in
      let parts = kept_parts (moves_next question true) (each_first same_play decides_same_play all) history found in
      let some = each_at SomeAllows (each_first same_play decides_same_play all) history
      (each_first_all same_play decides_same_play SomeAllows all all_allowed) parts.0 in
      (some.0, next_told question true some.0 history some.1 some.2 parts.1)

  own_full : IsFull question own_rows
  unfolding own_rows own_keys
  own_full = record {
    each = λ west history next. (
      numbers_for (plan_way question plan history) (legal question [] history),
      Contains-map (row_for question (plan_way question plan)) own_keys history (own_key west history next),
    );
    alone = All-from_recursion (λ (row : WayRow). (west : Cards) × IsToMove question true west row.history
        × NamesMoves (legal question west row.history) row.numbers) own_rows
        (each_map (λ (row : WayRow). (west : Cards) × IsToMove question true west row.history
        × NamesMoves (legal question west row.history) row.numbers) (row_for question (plan_way question plan)) own_keys
        (each_in (λ (history : History). (west : Cards) × IsToMove question true west history
        × NamesMoves (legal question west history) (numbers_for (plan_way question plan history)
        (legal question [] history))) own_keys
        (λ history found.
        let next = own_next history found in (
          next.0,
          next.1,
          subst (λ (moves : List Move). NamesMoves (legal question next.0 history)
              (numbers_for (plan_way question plan history) moves))
              (declarers_legal question next.0 [] history next.1.turn)
              (names_moves (plan_way question plan history) (legal question next.0 history)
              (plan_weighs question plan next.0 history (play_of question true next.0 history valid next.1) next.1.goes
              next.1.turn)),
        ))));
    once = map_pairs (λ (one other : WayRow). one.history ≢ other.history)
        (row_for question (plan_way question plan)) own_keys (λ one other apart. apart)
        (once_filter (moves_next question true) _
        (each_first_once same_play decides_same_play (flat_map (legal_histories question) (layouts question))));
  }

  own_weight : (west : Cards) (history : History) (move : Move) → IsToMove question true west history
      → Contains (legal question west history) move
      → plan_way question plan history move ≡ by_rows own_rows history move
  unfolding own_rows
  own_weight west history move next found =
      sym (rows_tell question (plan_way question plan) own_keys history move (own_key west history next)
      ∙ number_is (plan_way question plan history) (legal question [] history) move
      (Contains-same move (declarers_legal question west [] history next.turn) found))

  own_pays : (defence : DefenceWay) (west : Cards) (history : History) → IsPlay question west history
      → pay question (plan_way question plan) defence west history
      ≡ pay question (by_rows own_rows) defence west history
  own_pays defence west history play =
      agreed_pay question (plan_way question plan) (by_rows own_rows) defence defence west
      (λ line move at goes found. elim (cases_Bool (is_declarer_turn (after question line).trick)) [
        | inl own ↦ acting_same question (plan_way question plan) (by_rows own_rows) defence defence west line move true
            own (own_weight west line move
            (record { layout = at.layout; legal = at.legal; goes = goes; turn = own }) found)
        | inr waits ↦ acting_same question (plan_way question plan) (by_rows own_rows) defence defence west line move
            false waits refl
      ])
      MOST_MOVES history play

pub plans_are_lists : PlansAreLists
plans_are_lists question plan valid =
    (own_rows question plan valid, own_full question plan valid, own_pays question plan valid)

-- ---- the defenders' rows

module _ (question : Question) (defence : Defence) (valid : IsValid question) where
  keys_under : Cards → List DefenceKey
  keys_under west = map (λ (history : History). (west, history)) (legal_histories question west)

  -- the layouts with the histories at which a defender is to move
  their_keys : List DefenceKey
  their_keys =
      filter (λ (key : DefenceKey). moves_next question false key.1)
      (each_first same_key decides_same_key (flat_map keys_under (layouts question)))

  their_rows : List DefenceWayRow
  their_rows = map (defence_row_for question (defence_way question defence)) their_keys

  abbrev KeyAllows : DefenceKey → Type 0
  KeyAllows key = Contains (layouts question) key.0 × IsLegal question key.0 key.1

  keys_allowed : AllByRecursion KeyAllows (flat_map keys_under (layouts question))
  unfolding keys_under
  keys_allowed =
      each_flat_map KeyAllows keys_under (layouts question)
      (λ west found. each_map KeyAllows (λ (history : History). (west, history)) (legal_histories question west)
      (each_gives (IsLegal question west) (λ (history : History). KeyAllows (west, history))
      (legal_histories question west)
      (λ history legal_history. (found, legal_history)) (all_legal question west)))

  their_key : (west : Cards) (history : History) → IsToMove question false west history
      → Contains their_keys (west, history)
  unfolding their_keys keys_under
  their_key west history next =
      let all : List DefenceKey = flat_map keys_under (layouts question) in
      Contains-filter (λ (key : DefenceKey). moves_next question false key.1)
      (each_first same_key decides_same_key all) (west, history)
      (each_first_has same_key decides_same_key all (west, history)
      (Contains-flat_map keys_under (layouts question) west (west, history) next.layout
      (Contains-map (λ (line : History). (west, line)) (legal_histories question west) history
      (each_legal question west history valid next.legal))))
      (next_tells question false west history next)

  their_next : (key : DefenceKey) → Contains their_keys key → IsToMove question false key.0 key.1
  unfolding their_keys
  their_next key found =
      let all : List DefenceKey = flat_map keys_under (layouts question) in
      let parts = kept_parts (λ (it : DefenceKey). moves_next question false it.1)
      (each_first same_key decides_same_key all) key found in
      let some = each_at KeyAllows (each_first same_key decides_same_key all) key
      (each_first_all same_key decides_same_key KeyAllows all keys_allowed) parts.0 in
      next_told question false key.0 key.1 some.0 some.1 parts.1

  their_full : IsFullDefence question their_rows
  unfolding their_rows their_keys
  their_full = record {
    each = λ west history next. (
      numbers_for (defence_way question defence west history) (legal question west history),
      Contains-map (defence_row_for question (defence_way question defence)) their_keys (west, history)
          (their_key west history next),
    );
    alone = All-from_recursion (λ (row : DefenceWayRow). IsToMove question false row.west row.history
        × NamesMoves (legal question row.west row.history) row.numbers) their_rows
        (each_map (λ (row : DefenceWayRow). IsToMove question false row.west row.history
        × NamesMoves (legal question row.west row.history) row.numbers)
        (defence_row_for question (defence_way question defence)) their_keys
        (each_in (λ (key : DefenceKey). IsToMove question false key.0 key.1
        × NamesMoves (legal question key.0 key.1) (numbers_for (defence_way question defence key.0 key.1)
        (legal question key.0 key.1))) their_keys
        (λ key found.
        let next = their_next key found in (
          next,
          names_moves (defence_way question defence key.0 key.1) (legal question key.0 key.1)
              (defence_weighs question defence key.0 key.1 (play_of question false key.0 key.1 valid next) next.goes
              next.turn),
        ))));
    once = map_pairs (λ (one other : DefenceWayRow). one.west ≡ other.west → one.history ≢ other.history)
        (defence_row_for question (defence_way question defence)) their_keys
        (λ one other apart west_same line_same. apart (pairs_same one other west_same line_same))
        (once_filter (λ (key : DefenceKey). moves_next question false key.1) _
        (each_first_once same_key decides_same_key (flat_map keys_under (layouts question))));
  }
    where
      pairs_same : (one other : DefenceKey) → one.0 ≡ other.0 → one.1 ≡ other.1 → one ≡ other
      pairs_same one other same alike =
          (decides_same_key one other).0
          (and_from _ _ ((bytes_eq-Decides one.0 other.0).1 same) ((decides_same_play one.1 other.1).1 alike))

  their_weight : (west : Cards) (history : History) (move : Move) → IsToMove question false west history
      → Contains (legal question west history) move
      → defence_way question defence west history move ≡ by_defence_rows their_rows west history move
  unfolding their_rows
  their_weight west history move next found =
      sym (defence_rows_tell question (defence_way question defence) their_keys (west, history) move
      (their_key west history next)
      ∙ number_is (defence_way question defence west history) (legal question west history) move found)

  their_pays : (declarer : Way) (west : Cards) (history : History) → IsPlay question west history
      → pay question declarer (defence_way question defence) west history
      ≡ pay question declarer (by_defence_rows their_rows) west history
  their_pays declarer west history play =
      agreed_pay question declarer declarer (defence_way question defence) (by_defence_rows their_rows) west
      (λ line move at goes found. elim (cases_Bool (is_declarer_turn (after question line).trick)) [
        | inl own ↦ acting_same question declarer declarer (defence_way question defence) (by_defence_rows their_rows)
            west line move true own refl
        | inr waits ↦ acting_same question declarer declarer (defence_way question defence)
            (by_defence_rows their_rows) west line move false waits (their_weight west line move
            (record { layout = at.layout; legal = at.legal; goes = goes; turn = waits }) found)
      ])
      MOST_MOVES history play

pub defences_are_lists : DefencesAreLists
defences_are_lists question defence valid =
    (their_rows question defence valid, their_full question defence valid, their_pays question defence valid)
