-- The test whether a history is legal under a layout (legal_told), and under layouts of one class layout (legal_alike).
use Rattle.std.proofs.Common.{◌≡◌, Bool, true, List, [], ◌∷◌, ◌++◌, refl, sym, ap, ◌∙◌, subst, inl, inr}
use Rattle.std.specs.Prelude.{Contains, bytes_eq, fold, ◌&&◌}
use Rattle.std.proofs.lemmas.Bool.{and_from, and_parts, cases_Bool, false≢true, false_from_ne_true, or_cases, or_left}
use Rattle.std.proofs.lemmas.Bool.{or_right}
use Rattle.std.proofs.lemmas.Slice.Eq.{bytes_eq-Decides}
use Rattle.suit_lists.proofs.Elements.{Contains-cons_cases, Contains-first, Contains-later, Contains-nil}
use Rattle.suit_cards.specs.Cards.{Cards}
use Rattle.suit_game.specs.declared.question.Question.{Question}
use Rattle.suit_game.specs.declared.moves.Move.{Move}
use Rattle.suit_game.specs.Histories.{History}
use Rattle.suit_game.specs.Layouts.{layouts}
use Rattle.suit_game.specs.PlaceViews.{IsPlay}
use Rattle.suit_game.specs.Positions.{LegalFrom, Position, after, legal, legal_at, start_place, step}
use Rattle.suit_game.specs.Strategies.{same_move}
use Rattle.suit_game.proofs.SameCardMoves.{same_card_move-itself, same_card_move_is}
use Rattle.suit_game.proofs.LayoutCards.{layouts_are_deals}
use Rattle.suit_classes.specs.Classes.{hands_of}
use Rattle.suit_classes.specs.ClassGame.{counts_of}
use Rattle.suit_classes.proofs.OneSideHoldsAClass.{IsDealt}
use Rattle.suit_classes.proofs.ClassPlaceFollowsPlay.{play_dealt}
use Rattle.suit_classes.proofs.AllowsOneMoveMore.{and-assoc, and-last}
use Rattle.suit_lift.specs.Naming.{is_legal, is_legal_from, is_one_of}
use Rattle.suit_lift.proofs.HowManyAreAlike.{equal_lengths}
use Rattle.suit_lift.proofs.GoneAndLeft.{gone_of}
use Rattle.suit_lift.proofs.LegalWhereAlike.{AreTwo, alike_parts, legal_where_alike, parts_alike}

pub one_of_from : (moves : List Move) (move : Move) → Contains moves move → is_one_of moves move ≡ true
one_of_from [] move found = absurd (Contains-nil move found)
one_of_from (first ∷ moves) move found = elim (Contains-cons_cases first moves move found) [
  | inl here ↦ or_left (same_move move first) (is_one_of moves move) (ap (same_move move) here
      ∙ same_card_move-itself move)
  | inr there ↦ or_right (same_move move first) (is_one_of moves move) (one_of_from moves move there)
]

pub one_of_tells : (moves : List Move) (move : Move) → is_one_of moves move ≡ true → Contains moves move
one_of_tells [] move told = absurd (false≢true told)
one_of_tells (first ∷ moves) move told = elim (or_cases (same_move move first) (is_one_of moves move) told) [
  | inl here ↦ subst (λ (m : Move). Contains (first ∷ moves) m) (sym (same_card_move_is move first here))
      (Contains-first first moves)
  | inr there ↦ Contains-later first moves move (one_of_tells moves move there)
]

pub legal_from_tells : (question : Question) (west : Cards) (place : Position) (moves : List Move)
    → is_legal_from question west place moves ≡ true → LegalFrom question west place moves
unfolding is_legal_from LegalFrom
legal_from_tells question west place [] told = tt
legal_from_tells question west place (move ∷ moves) told =
    let parts = and_parts (is_one_of (legal_at question west place) move) (is_legal_from question west
    (step question place move) moves) told in (
      one_of_tells (legal_at question west place) move parts.0,
      legal_from_tells question west
          (step question place move) moves parts.1,
    )

pub legal_from_told : (question : Question) (west : Cards) (place : Position) (moves : List Move)
    → LegalFrom question west place moves → is_legal_from question west place moves ≡ true
unfolding is_legal_from LegalFrom
legal_from_told question west place [] legal = refl
legal_from_told question west place (move ∷ moves) legal =
    and_from (is_one_of (legal_at question west place) move) (is_legal_from question west
    (step question place move) moves)
    (one_of_from (legal_at question west place) move legal.0) (legal_from_told question west
    (step question place move) moves legal.1)

-- a history of a move more is legal where the history is, and the move is legal after it
pub legal_from_push : (question : Question) (west : Cards) (place : Position) (moves : List Move) (move : Move)
    → is_legal_from question west place (moves ++ move ∷ []) ≡ (is_legal_from question west place moves
    && is_one_of (legal_at question west (fold (step question) place moves)) move)
unfolding is_legal_from
legal_from_push question west place [] move = and-last (is_one_of (legal_at question west place) move)
legal_from_push question west place (first ∷ moves) move =
    ap (λ (b : Bool). is_one_of (legal_at question west place) first
    && b) (legal_from_push question west (step question place first) moves move)
    ∙ and-assoc (is_one_of (legal_at question west place) first) (is_legal_from question west
    (step question place first) moves)
    (is_one_of (legal_at question west (fold (step question) (step question place first) moves)) move)

pub legal_push : (question : Question) (west : Cards) (history : History) (move : Move)
    → is_legal question (history ++ move ∷ []) west ≡ (is_legal question history west
    && is_one_of (legal question west history) move)
legal_push question west history move = legal_from_push question west (start_place question) history move

-- a play is told to be legal
pub play_told : (question : Question) (west : Cards) (history : History) → IsPlay question west history
    → is_legal question history west ≡ true
play_told question west history play = legal_from_told question west (start_place question) history play.legal

-- two layouts with the same counts
pub two_layouts : (question : Question) (west other : Cards) (history : History) → IsPlay question west history
    → Contains (layouts question) other
    → counts_of (hands_of question) other ≡ counts_of (hands_of question) west → AreTwo question west other
two_layouts question west other history play layout same =
    let here : IsDealt question west = play_dealt question west history play in
    let deal = layouts_are_deals question other play.valid.north play.valid.south play.valid.apart layout in
    let there : IsDealt question other = record { deal = deal.0; holding = deal.1 } in
    record {
      here =
          here;
      there = there;
      long = equal_lengths question west other here.deal.defenders there.deal.defenders same;
    }

-- a layout with the counts of a play is told to allow its history just where it is alike on the cards gone
pub legal_alike : (question : Question) (west other : Cards) (history : History) → IsPlay question west history
    → Contains (layouts question) other
    → counts_of (hands_of question) other ≡ counts_of (hands_of question) west
    → is_legal question history other ≡ bytes_eq (gone_of (after question history).gone other) (gone_of
    (after question history).gone west)
legal_alike question west other history play layout same =
    let gone : Cards = (after question history).gone in
    let two = two_layouts question west other history play layout same in
    let law = legal_where_alike question west other two history play.legal in
    elim (cases_Bool (bytes_eq (gone_of gone other) (gone_of gone west))) [
      | inl alike ↦
          legal_from_told question other (start_place question) history
          (law.1 (parts_alike gone west other (sym ((bytes_eq-Decides (gone_of gone other)
          (gone_of gone west)).0 alike)))) ∙ sym alike
      | inr apart ↦
          false_from_ne_true (is_legal question history other)
          (λ told. false≢true (sym apart ∙ (bytes_eq-Decides (gone_of gone other) (gone_of gone west)).1
          (sym (alike_parts gone west other two.here.holding two.there.holding (law.0
          (legal_from_tells question other (start_place question) history told)))))) ∙ sym apart
    ]
