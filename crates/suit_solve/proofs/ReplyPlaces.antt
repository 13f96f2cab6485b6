-- The moves of best replies stand in the tree: each is legal at a counted class history (`own_place`, `their_place`).
use Rattle.std.proofs.Common.{◌≡◌, ℕ, true, false, List, [], ◌∷◌, ◌++◌, get_or, refl, sym, ◌∙◌}
use Rattle.std.specs.Prelude.{Contains, fold}
use Rattle.std.proofs.lemmas.Bool.{and_from}
use Rattle.std.proofs.lemmas.List.Elements.{Contains-get_or}
use Rattle.suit_lists.proofs.Elements.{Contains-same}
use Rattle.suit_cards.specs.Cards.{ClassLayout}
use Rattle.suit_game.specs.declared.question.Question.{Question}
use Rattle.suit_game.specs.Validity.{IsValid}
use Rattle.suit_game.specs.declared.limits.TheConstants.{MOST_MOVES}
use Rattle.suit_classes.specs.declared.class_moves.ClassMove.{ClassMove}
use Rattle.suit_classes.specs.declared.class_view.ClassView.{ClassView}
use Rattle.suit_classes.specs.WhatIsAllowed.{allows, allows_from, is_among}
use Rattle.suit_classes.specs.ClassMoves.{ClassHistory}
use Rattle.suit_classes.specs.ClassPlaces.{class_after, class_decided, class_moves, class_start, class_step, class_turn}
use Rattle.suit_classes.proofs.SameMoves.{among_contained}
use Rattle.suit_classes.proofs.AllowsOneMoveMore.{allows-push}
use Rattle.suit_plans.specs.declared.moves.DeclarerMove.{DeclarerMove}
use Rattle.suit_plans.specs.declared.moves.DefenceMove.{DefenceMove}
use Rattle.suit_plans.specs.declared.plan.Plan.{Plan}
use Rattle.suit_plans.specs.declared.defence.Defence.{Defence}
use Rattle.suit_plans.specs.BestReplies.{least_reply, most_reply, reply_to_defence, reply_to_plan}
use Rattle.suit_plans.specs.Masses.{is_declarers, is_defences}
use Rattle.suit_plans.specs.Properness.{some_allows}
use Rattle.suit_plans.proofs.RepliesAreBounded.{some_allow_none}
use Rattle.suit_plans.proofs.PublicMoves.{allowing_parts, layout_tells, layout_weighs, own_moves_on, public_allowed}
use Rattle.suit_plans.proofs.PublicMoves.{some_layout}
use Rattle.suit_plans.proofs.ReplyChoices.{choice_parts, least_choices, least_entry, most_choices, most_entry}
use Rattle.suit_plans.proofs.RowLimits.{allowed_short}
use Rattle.suit_tree.specs.WhatIsCounted.{counted_histories}
use Rattle.suit_tree.proofs.EachHistoryIsCountedOnce.{Contains-continued, GoesOn}
use Rattle.suit_tree.proofs.MovesOn.{unless_parts}
use Rattle.suit_program.specs.Supports.{first_support, layouts_of, legal_moves}
use Rattle.suit_program.proofs.lemmas.Supports.TurnCases.{legal_going}

-- a move is legal at a class history that is counted in a class layout, where play is not decided
pub record IsPlace (question : Question) (layout : ClassLayout × ℕ) (history : ClassHistory) (move : ClassMove) : Type 0
  where
    pub listed : Contains (layouts_of question) layout
    pub allowed : allows question layout.0 history ≡ true
    pub counted : Contains (counted_histories question layout.0) history
    pub going : class_decided (class_after question history) ≡ false
    pub legal : Contains (legal_moves question layout.0 history) move

-- ---- histories past no decided position

goes-push : (view : ClassView) (moves : List ClassMove) (move : ClassMove) → GoesOn view moves
    → class_decided (fold class_step view moves) ≡ false → GoesOn view (moves ++ move ∷ [])
unfolding GoesOn
goes-push view [] move goes here = (here, tt)
goes-push view (first ∷ moves) move goes here = (goes.0, goes-push (class_step view first) moves move goes.1 here)

goes_none : (view : ClassView) → GoesOn view []
unfolding GoesOn
goes_none view = tt

module _ (question : Question) (valid : IsValid question) where
  -- a history that a class layout allows and that goes past no decided position is counted for it
  counted_at : (layout : ClassLayout × ℕ) → Contains (layouts_of question) layout → (history : ClassHistory)
      → allows question layout.0 history ≡ true → GoesOn (class_start question) history
      → Contains (counted_histories question layout.0) history
  unfolding counted_histories allows
  counted_at layout listed history allowed goes =
      Contains-continued MOST_MOVES question layout.0 [] history
      (allowed_short question layout.0 history valid (layout_weighs question valid layout listed) (sym allowed))
      allowed goes

  allows_none : (counts : ClassLayout) → allows question counts [] ≡ true
  unfolding allows allows_from
  allows_none counts = refl

  -- ---- the defence's

  abbrev TheirFits : ClassLayout → ClassHistory → Type 0
  TheirFits counts history = (allows question counts history ≡ true) × GoesOn (class_start question) history

  their_next : (plan : Plan) (counts : ClassLayout) (history : ClassHistory) (move : ClassMove)
      → TheirFits counts history
      → Contains ((reply_to_plan question plan counts).moves history) move
      → TheirFits counts (history ++ move ∷ [])
  their_next plan counts history move fits found =
      let view : ClassView = class_after question history in
      let parts = unless_parts (class_decided view) (class_moves view counts) move found in (
        allows-push question counts history move
            ∙ and_from (allows question counts history) (is_among (class_moves view counts) move) fits.0
            (among_contained (class_moves view counts) move parts.1),
        goes-push (class_start question) history move fits.1 parts.0,
      )

  -- a move of the best reply to a plan stands in the tree
  pub their_place : (plan : Plan) (entry : DefenceMove) → Contains (least_reply question plan) entry
      → IsPlace question (get_or (layouts_of question) entry.layout ([], 0)) entry.history entry.mv
      × (is_defences (class_turn (class_after question entry.history)) ≡ true)
  their_place plan entry found =
      let layout : ClassLayout × ℕ = get_or (layouts_of question) entry.layout ([], 0) in
      let chosen = least_choices question plan entry valid found in
      let choice = chosen.1 in
      let listed : Contains (layouts_of question) layout =
      Contains-get_or (layouts_of question) entry.layout ([], 0) chosen.0 in
      let entered = least_entry question plan entry found in
      let fits = (choice_parts (TheirFits layout.0) (reply_to_plan question plan layout.0)
      (their_next plan layout.0) (allows_none layout.0, goes_none (class_start question)) entry.history
      entered.1).0 in (
        record {
          listed = listed;
          allowed = fits.0;
          counted = counted_at layout listed entry.history fits.0 fits.1;
          going = choice.going;
          legal = Contains-same entry.mv
              (sym (legal_going question first_support layout.0 entry.history layout.0 choice.going)) choice.legal;
        },
        choice.turn,
      )

  -- ---- declarer's

  abbrev OwnFits : ClassHistory → Type 0
  OwnFits history = (some_allows question history ≡ true) × GoesOn (class_start question) history

  own_next : (defence : Defence) (history : ClassHistory) (move : ClassMove) → OwnFits history
      → Contains ((reply_to_defence question defence).moves history) move → OwnFits (history ++ move ∷ [])
  own_next defence history move fits found = (
    public_allowed question valid history move found,
    goes-push (class_start question) history move fits.1 (unless_parts (class_decided (class_after question history)) _
        move found).0,
  )

  -- a move of the best reply to a defence stands in the tree, in some class layout
  pub own_place : (defence : Defence) (entry : DeclarerMove) → Contains (most_reply question defence) entry
      → (layout : ClassLayout × ℕ) × IsPlace question layout entry.history entry.mv
      × (is_declarers (class_turn (class_after question entry.history)) ≡ true)
  own_place defence entry found =
      let choice = most_choices question defence entry valid found in
      let entered = most_entry question defence entry found in
      let fits = (choice_parts OwnFits (reply_to_defence question defence) (own_next defence)
      (some_allow_none question valid, goes_none (class_start question)) entry.history entered.0).0 in
      let held = some_layout question valid entry.history fits.0 in
      let layout : ClassLayout × ℕ = held.0 in
      let parts = allowing_parts question valid entry.history layout held.1 in
      let allowed : allows question layout.0 entry.history ≡ true =
      (layout_tells question valid layout entry.history parts.0).1 parts.1 in (
        layout,
        record {
          listed = parts.0;
          allowed = allowed;
          counted = counted_at layout parts.0 entry.history allowed fits.1;
          going = choice.going;
          legal = Contains-same entry.mv
              (own_moves_on question valid entry.history choice.going layout held.1 choice.turn
              ∙ sym (legal_going question first_support layout.0 entry.history layout.0 choice.going)) choice.legal;
        },
        choice.turn,
      )
