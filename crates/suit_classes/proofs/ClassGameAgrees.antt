-- The class game and the play of single cards agree at each history.
use Rattle.std.proofs.Common.{◌≡◌, ℕ, suc, max, Bool, true, false, not, ◌||◌, List, [], ◌∷◌, ◌++◌, length, refl, sym}
use Rattle.std.proofs.Common.{ap, ◌∙◌, arith}
use Rattle.std.specs.Prelude.{map, filter, nat_lt, ◌&&◌, if◌then◌else◌}
use Rattle.std.proofs.lemmas.Bool.{lt-ltb}
use Rattle.std.proofs.lemmas.Simd.{map-map}
use Rattle.std.proofs.lemmas.List.{map-append}
use Rattle.suit_cards.specs.declared.seats.Seat.{Seat}
use Rattle.suit_cards.specs.declared.seats.Seat.TheVariants.{N, E, S, W}
use Rattle.suit_cards.specs.Cards.{Cards, ClassLayout, Indices}
use Rattle.suit_cards.specs.Holdings.{IsHolding}
use Rattle.suit_game.specs.declared.question.Question.{Question}
use Rattle.suit_game.specs.declared.question.Goal.{Goal}
use Rattle.suit_game.specs.declared.question.LeadAt.{LeadAt}
use Rattle.suit_game.specs.declared.question.Entries.{Entries}
use Rattle.suit_game.specs.declared.moves.Move.TheVariants as cards
use Rattle.suit_game.specs.declared.turn.Turn.TheVariants as games
use Rattle.suit_game.specs.Histories.{History}
use Rattle.suit_game.specs.Positions.{Position, Trick, dealt, hand, ended_in, follows_of, is_empty, leads_at, after}
use Rattle.suit_game.specs.Positions.{legal_in, legal_at, may_lead_n, may_lead_s, payoff}
use Rattle.suit_game.specs.Positions.{Closed as NoTrick, Open as InTrick}
use Rattle.suit_game.specs.PlaceViews.{IsPlay, turn_on}
use Rattle.suit_classes.specs.declared.class_moves.ClassMove.{ClassMove}
use Rattle.suit_classes.specs.declared.class_moves.ClassMove.TheVariants.{Lead, Follow}
use Rattle.suit_classes.specs.declared.class_turn.ClassTurn.TheVariants as turns
use Rattle.suit_classes.specs.Agreement.{AgreesAt}
use Rattle.suit_classes.specs.Classes.{Hands, hands_of, class_of}
use Rattle.suit_classes.specs.ClassGame.{MergesTo, TellsCards, cards_in, class_turn_for, counts_of, decided_in}
use Rattle.suit_classes.specs.ClassGame.{each_once, is_decided, is_goal_settled}
use Rattle.suit_classes.specs.ClassMoves.{ClassHistory, merge, merged}
use Rattle.suit_classes.specs.declared.class_trick.ClassTrick.TheVariants.{Closed}
use Rattle.suit_classes.specs.ClassPlaces.{ClassTrick, ClassView, class_after, class_decided, class_decided_in}
use Rattle.suit_classes.specs.ClassPlaces.{class_leads, class_moves, class_moves_in, class_numbers, class_payoff}
use Rattle.suit_classes.specs.ClassPlaces.{class_turn, classes_left, counted_classes, left, may_lead, or_show_out}
use Rattle.suit_classes.specs.ClassPlaces.{turn_of}
use Rattle.suit_classes.proofs.OneSideHoldsAClass.{IsDealt, IsHolding-dealt, IsHolding-without}
use Rattle.suit_classes.proofs.ClassPlaceFollowsPlay.{HasCounts, IsMerged, merged_trick, after_merged, play_dealt}
use Rattle.suit_classes.proofs.MovesOnce.{leads_once, merged_once}
use Rattle.suit_classes.proofs.LeftAtTheStart.{same_filter}
use Rattle.suit_classes.specs.declared.classes.TheConstants.{MOST_CLASSES}

-- the classes of which some cards have one
abbrev present : Hands → List ℕ → List ℕ
present hands cards = filter (λ class. nat_lt 0 (cards_in hands cards class)) class_numbers

no_classes : (hands : Hands) (classes : Indices) → filter (λ class. nat_lt 0 (cards_in hands [] class)) classes ≡ []
no_classes hands [] = refl
no_classes hands (class ∷ classes) = no_classes hands classes

leads_are : (hands : Hands) (xs : List ℕ)
    → map (Lead N) (map (class_of hands) xs) ≡ map (λ card. Lead N (class_of hands card)) xs
leads_are hands [] = refl
leads_are hands (x ∷ xs) = ap (λ (l : List ClassMove). Lead N (class_of hands x) ∷ l) (leads_are hands xs)

none_held : IsHolding []
none_held = tt

leads_merged : (hands : Hands) (north south : List ℕ) → IsHolding north → IsHolding south
    → each_once (map (merge hands) (map (cards.Lead N) north ++ map (cards.Lead S) south)) ≡ map (Lead N)
    (present hands north) ++ map (Lead S) (present hands south)
leads_merged hands north south is_north is_south =
    ap each_once
    (map-append (merge hands) (map (cards.Lead N) north) (map (cards.Lead S) south)
    ∙ ap (λ (l : List ClassMove). l ++ map (merge hands) (map (cards.Lead S) south))
    (map-map (merge hands) (cards.Lead N) north ∙ sym (leads_are hands north)))
    ∙ leads_once (map (class_of hands) north) (map (merge hands) (map (cards.Lead S) south)) (present hands south)
    (ap each_once (map-map (merge hands) (cards.Lead S) south)
    ∙ merged_once hands south (Lead S) is_south (λ a b. refl))
    ∙ ap (λ (l : List ClassMove). l ++ map (Lead S) (present hands south))
    (ap each_once (leads_are hands north) ∙ merged_once hands north (Lead N) is_north (λ a b. refl))

leads_either : (hands : Hands) (north south : List ℕ) (from_n from_s : Bool) → IsHolding north → IsHolding south
    → each_once
    (map (merge hands) ((if from_n then map (cards.Lead N) north else []) ++ (if from_s then map (cards.Lead S) south
    else [])))
    ≡ (if from_n then map (Lead N) (present hands north) else []) ++
    (if from_s then map (Lead S) (present hands south) else [])
leads_either hands north south true true is_north is_south = leads_merged hands north south is_north is_south
leads_either hands north south true false is_north is_south =
    leads_merged hands north [] is_north none_held
    ∙ ap (λ (l : List ℕ). map (Lead N) (present hands north) ++ map (Lead S) l) (no_classes hands class_numbers)
leads_either hands north south false true is_north is_south =
    leads_merged hands [] south none_held is_south
    ∙ ap (λ (l : List ℕ). map (Lead N) l ++ map (Lead S) (present hands south)) (no_classes hands class_numbers)
leads_either hands north south false false is_north is_south =
    leads_merged hands [] [] none_held none_held
    ∙ ap (λ (l : List ℕ). map (Lead N) l ++ map (Lead S) l) (no_classes hands class_numbers)

shown_first : (moves : List ClassMove) (first : ClassMove) (more : List ClassMove) → moves ≡ first ∷ more
    → moves ≡ or_show_out moves
shown_first [] first more is = absurd (cc)
shown_first (move ∷ moves) first more is = refl

follows_merged : (hands : Hands) (held : Cards) → IsHolding held
    → each_once (map (merge hands) (follows_of held)) ≡ or_show_out (map Follow (present hands held))
unfolding each_once
follows_merged hands [] is = ap (λ (l : List ℕ). or_show_out (map Follow l)) (sym (no_classes hands class_numbers))
follows_merged hands (card ∷ held) is =
    let once : each_once (map (merge hands) (map cards.Follow (card ∷ held)))
    ≡ map Follow (present hands (card ∷ held)) =
    ap each_once (map-map (merge hands) cards.Follow (card ∷ held))
    ∙ merged_once hands (card ∷ held) Follow is (λ a b. refl) in
    once ∙ shown_first (map Follow (present hands (card ∷ held))) _ _ (sym once)

-- the classes that a seat has left are those of its cards
classes_left_are : (question : Question) (west : Cards) (place : Position) (view : ClassView) (seat : Seat)
    → HasCounts question west place view
    → classes_left view (counts_of (hands_of question) west) seat ≡ present (hands_of question)
    (hand question west place seat)
unfolding class_numbers
classes_left_are question west place view seat counts =
    same_filter (λ class. nat_lt 0 (left view (counts_of (hands_of question) west) seat class))
    (λ class. nat_lt 0 (cards_in (hands_of question) (hand question west place seat) class)) 0 MOST_CLASSES
    (λ class small. ap (nat_lt 0) (counts.left seat class (omega arith)))

may_lead_same : (view : ClassView) (lead : LeadAt) (entries entries' : Entries) (seat : Seat) → view.lead ≡ lead
    → entries ≡ entries' → may_lead view.lead entries seat ≡ may_lead lead entries' seat
may_lead_same view lead entries entries' seat same one =
    ap (λ (l : LeadAt). may_lead l entries seat) same ∙ ap (λ (e : Entries). may_lead lead e seat) one

module _ (question : Question) (west : Cards) (place : Position) (view : ClassView) where
  leads_agree : IsDealt question west
      → HasCounts question west place view
      → class_leads view ≡ each_once (map (merge (hands_of question)) (leads_at question place))
  leads_agree is counts =
      let hands : Hands = hands_of question in
      ap
      (λ (b : Bool). (if b then map (Lead N) (counted_classes view.north) else [])
      ++ (if may_lead view.lead view.entries_s S then map (Lead S) (counted_classes view.south) else []))
      (may_lead_same view place.lead view.entries_n place.entries_n N counts.lead counts.entries_n)
      ∙ ap
      (λ (b : Bool). (if may_lead_n place then map (Lead N) (counted_classes view.north) else [])
      ++ (if b then map (Lead S) (counted_classes view.south) else []))
      (may_lead_same view place.lead view.entries_s place.entries_s S counts.lead counts.entries_s)
      ∙ ap
      (λ (l : List ℕ). (if may_lead_n place then map (Lead N) l else [])
      ++ (if may_lead_s place then map (Lead S) (counted_classes view.south) else []))
      (classes_left_are question west place view N counts)
      ∙ ap
      (λ (l : List ℕ). (if may_lead_n place then map (Lead N) (present hands (hand question [] place N)) else [])
      ++ (if may_lead_s place then map (Lead S) l else []))
      (classes_left_are question west place view S counts)
      ∙ sym
      (leads_either hands (hand question [] place N) (hand question [] place S) (may_lead_n place) (may_lead_s place)
      (IsHolding-without question.north place.gone is.deal.north)
      (IsHolding-without question.south place.gone is.deal.south))

  moves_in : (trick : Trick)
      → IsDealt question west → HasCounts question west place view
      → class_moves_in view (counts_of (hands_of question) west) (merged_trick (hands_of question) trick) ≡ each_once
      (map (merge (hands_of question)) (legal_in question west place trick))
  unfolding legal_in
  moves_in NoTrick is counts = leads_agree is counts
  moves_in (InTrick turn after winner highest) is counts =
      ap (λ (l : List ℕ). or_show_out (map Follow l)) (classes_left_are question west place view turn counts)
      ∙ sym (follows_merged (hands_of question) (hand question west place turn)
      (IsHolding-without (dealt question west turn) place.gone (IsHolding-dealt question west turn is)))

  moves_agree : IsDealt question west
      → IsMerged question west place view
      → class_moves view (counts_of (hands_of question) west) ≡ each_once
      (map (merge (hands_of question)) (legal_at question west place))
  moves_agree is one =
      ap (class_moves_in view (counts_of (hands_of question) west)) one.trick
      ∙ moves_in place.trick is one.counts

empty_leads : (north south : List ℕ) (from_n from_s : Bool)
    → is_empty ((if from_n then map (cards.Lead N) north else []) ++ (if from_s then map (cards.Lead S) south else []))
    ≡ not ((from_n && nat_lt 0 (length north)) || (from_s && nat_lt 0 (length south)))
empty_leads [] [] true true = refl
empty_leads [] [] true false = refl
empty_leads [] [] false true = refl
empty_leads [] [] false false = refl
empty_leads [] (card ∷ south) true true = rw (lt-ltb 0 (suc (length south)) (omega arith)) refl
empty_leads [] (card ∷ south) true false = refl
empty_leads [] (card ∷ south) false true = rw (lt-ltb 0 (suc (length south)) (omega arith)) refl
empty_leads [] (card ∷ south) false false = refl
empty_leads (card ∷ north) [] true true = rw (lt-ltb 0 (suc (length north)) (omega arith)) refl
empty_leads (card ∷ north) [] true false = rw (lt-ltb 0 (suc (length north)) (omega arith)) refl
empty_leads (card ∷ north) [] false true = refl
empty_leads (card ∷ north) [] false false = refl
empty_leads (card ∷ north) (other ∷ south) true true = rw (lt-ltb 0 (suc (length north)) (omega arith)) refl
empty_leads (card ∷ north) (other ∷ south) true false = rw (lt-ltb 0 (suc (length north)) (omega arith)) refl
empty_leads (card ∷ north) (other ∷ south) false true = rw (lt-ltb 0 (suc (length south)) (omega arith)) refl
empty_leads (card ∷ north) (other ∷ south) false false = refl

decided_closed : (view : ClassView) (question : Question) (west : Cards) (place : Position)
    → HasCounts question west place view
    → class_decided_in view Closed ≡ decided_in question place NoTrick
decided_closed view question west place counts =
    let north : List ℕ = hand question [] place N in
    let south : List ℕ = hand question [] place S in
    let n = may_lead_same view place.lead view.entries_n place.entries_n N counts.lead counts.entries_n in
    let s = may_lead_same view place.lead view.entries_s place.entries_s S counts.lead counts.entries_s in
    ap
    (λ (b : Bool). not ((b && nat_lt 0 view.cards_n) || (may_lead view.lead view.entries_s S && nat_lt 0 view.cards_s))
    || is_goal_settled view.goal view.won (max view.cards_n view.cards_s)) n
    ∙ ap
    (λ (b : Bool). not ((may_lead_n place && nat_lt 0 view.cards_n) || (b && nat_lt 0 view.cards_s))
    || is_goal_settled view.goal view.won (max view.cards_n view.cards_s)) s
    ∙ ap
    (λ (k : ℕ). not ((may_lead_n place && nat_lt 0 k) || (may_lead_s place && nat_lt 0 view.cards_s))
    || is_goal_settled view.goal view.won (max k view.cards_s)) counts.cards_n
    ∙ ap
    (λ (k : ℕ). not ((may_lead_n place && nat_lt 0 (length north)) || (may_lead_s place && nat_lt 0 k))
    || is_goal_settled view.goal view.won (max (length north) k)) counts.cards_s
    ∙ ap
    (λ (g : Goal). not ((may_lead_n place && nat_lt 0 (length north)) || (may_lead_s place && nat_lt 0 (length south)))
    || is_goal_settled g view.won (max (length north) (length south))) counts.goal
    ∙ ap
    (λ (w : ℕ). not ((may_lead_n place && nat_lt 0 (length north)) || (may_lead_s place && nat_lt 0 (length south)))
    || is_goal_settled question.goal w (max (length north) (length south))) counts.won
    ∙ ap (λ (b : Bool). b || is_goal_settled question.goal place.won (max (length north) (length south)))
    (sym (empty_leads north south (may_lead_n place) (may_lead_s place)))

decided_trick : (view : ClassView) (question : Question) (west : Cards) (place : Position) (trick : Trick)
    → HasCounts question west place view
    → class_decided_in view (merged_trick (hands_of question) trick) ≡ decided_in question place trick
decided_trick view question west place NoTrick counts = decided_closed view question west place counts
decided_trick view question west place (InTrick turn after winner highest) counts = refl

decided_agrees : (question : Question) (west : Cards) (place : Position) (view : ClassView)
    → IsMerged question west place view → class_decided view ≡ is_decided question place
decided_agrees question west place view one =
    ap (class_decided_in view) one.trick ∙ decided_trick view question west place place.trick one.counts

turn_in : (hands : Hands) (question : Question) (place : Position) (trick : Trick)
    → (if decided_in question place trick then turns.Decided else turn_of (merged_trick hands trick))
    ≡
    (if decided_in question place trick then turns.Decided
    else class_turn_for (if ended_in question place trick then games.Over else turn_on trick))
turn_in hands question place NoTrick =
    either (is_empty (leads_at question place))
    (is_goal_settled question.goal place.won
    (max (length (hand question [] place N)) (length (hand question [] place S))))
  where
    either : (ended settled : Bool)
        → (if ended || settled then turns.Decided else turns.Lead)
        ≡ (if ended || settled then turns.Decided else class_turn_for (if ended then games.Over else games.Lead))
    either true settled = refl
    either false settled = refl
turn_in hands question place (InTrick N after winner highest) = refl
turn_in hands question place (InTrick S after winner highest) = refl
turn_in hands question place (InTrick E after winner highest) = refl
turn_in hands question place (InTrick W after winner highest) = refl

-- a class place agrees with the position of single cards that it is that of
pub agrees_at : (question : Question) (west : Cards) (history : History) (view : ClassView) → IsDealt question west
    → IsMerged question west (after question history) view
    → AgreesAt question west history view
agrees_at question west history view is one =
    let place : Position = after question history in
    record {
      decided = decided_agrees question west place view one;
      turn = ap (λ (b : Bool). if b then turns.Decided else turn_of view.trick)
          (decided_agrees question west place view one)
          ∙ ap (λ (t : ClassTrick). if is_decided question place then turns.Decided else turn_of t) one.trick
          ∙ turn_in (hands_of question) question place place.trick;
      moves = moves_agree question west place view is one;
      payoff = ap (λ (g : Goal). payoff g view.won) one.counts.goal ∙ ap (payoff question.goal) one.counts.won;
    }

-- the place after a class history agrees with each legal history that merges to it
pub class_game_agrees : (question : Question) (west : Cards) (history : History) → IsPlay question west history
    → AgreesAt question west history (class_after question (merged (hands_of question) history))
class_game_agrees question west history play =
    let is = play_dealt question west history play in
    agrees_at question west history (class_after question (merged (hands_of question) history)) is
    (after_merged question west history is play.legal)

-- so a class place tells of its class history what the cards say
module _ (question : Question) (counts : ClassLayout) (history : ClassHistory) where
  pub class_places_tell_cards : TellsCards question counts history
      (class_decided (class_after question history)) (class_turn (class_after question history))
      (class_moves (class_after question history) counts) (class_payoff (class_after question history))
  class_places_tell_cards = record {
    decided_is = λ west cards to. ap class_decided (sym (there west cards to))
        ∙ (class_game_agrees question west cards to.play).decided;
    turn_is = λ west cards to. ap class_turn (sym (there west cards to))
        ∙ (class_game_agrees question west cards to.play).turn;
    moves_are = λ west cards to.
        ap (λ (view : ClassView). class_moves view counts) (sym (there west cards to))
        ∙ ap (class_moves (class_after question (merged (hands_of question) cards))) (sym to.counted)
        ∙ (class_game_agrees question west cards to.play).moves;
    worth_is = λ west cards to. ap class_payoff (sym (there west cards to))
        ∙ (class_game_agrees question west cards to.play).payoff;
  }
    where
      there : (west : Cards) (cards : History) → MergesTo question counts history west cards
          → class_after question (merged (hands_of question) cards) ≡ class_after question history
      there west cards to = ap (class_after question) to.merges
