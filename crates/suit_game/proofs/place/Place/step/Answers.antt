use Rattle.std.proofs.Common.{◌≡◌, ◌∙◌, List, [], ◌∷◌, ◌++◌, Option, ap, sym, inl, inr}
use Rattle.suit_game.specs.declared.question.Question.{Question}
use Rattle.suit_game.specs.declared.moves.Move.{Move}
use Rattle.suit_game.specs.declared.moves.Move.TheVariants.{Lead, Follow, ShowOut}
use Rattle.suit_game.specs.declared.trick.OpenTrick.{OpenTrick}
use Rattle.suit_game.specs.contracts.place.Place.{the_view}
use Rattle.suit_game.specs.Positions.{Position, Trick, Closed, Open, after, step, led, followed, turn_passed}
use Rattle.suit_game.specs.PlaceViews.{PlaceView, IsAt, seen, trick_seen}
use Rattle.suit_game.proofs.LegalPlays.{after_move}
use Rattle.suit_game.proofs.PlaceSeenAfterAMove.{step-led, step-followed, step-shown_out, step-stays, won_small}
use Rattle.suit_game.proofs.place.Place.step.Goals as goal

-- the trick of the position is the one behind the view
trick_is : (question : Question) (history : List Move) (view : PlaceView) (trick : Option OpenTrick) (known : Trick)
    → view.trick ≡ trick_seen trick → trick_seen trick ≡ known
    → IsAt question history view → (after question history).trick ≡ known
trick_is question history view trick known shown is at_history = sym (ap (λ (v : PlaceView). v.trick) at_history)
    ∙ shown ∙ is

-- what is seen after a move is seen after the history with the move
moved : (question : Question) (history : List Move) (move played : Move) (later : PlaceView) (place : Position)
    → later ≡ seen question place → place ≡ step question (after question history) played
    → move ≡ played → IsAt question (history ++ move ∷ []) later
moved question history move played later place shown is same =
    shown ∙ ap (seen question) (is ∙ ap (step question (after question history)) (sym same)
    ∙ sym (after_move question history move))

pub returns-in-Lead : goal.returns-in-Lead
returns-in-Lead c = λ question west history play is.
    moved question history c.args.mv (Lead c.in-Lead.seat c.in-Lead.rank) c.led.result
    (led (after question history) c.in-Lead.seat c.in-Lead.rank)
    (c.led.ensures question (after question history) (c.self.view_is ∙ is))
    (step-led question (after question history) c.in-Lead.seat c.in-Lead.rank
    (trick_is question history c.args.self.now c.self.inside.trick Closed
    (sym (ap (λ (view : PlaceView). view.trick) c.self.view_is)) (ap trick_seen c.in-None.is) is))
    c.in-Lead.is

pub returns-in-Follow : goal.returns-in-Follow
returns-in-Follow c = λ question west history play is.
    let closed : (after question history).trick ≡ Closed =
    trick_is question history c.args.self.now c.self.inside.trick Closed
    (sym (ap (λ (view : PlaceView). view.trick) c.self.view_is)) (ap trick_seen c.in-None.is) is in
    elim c.in-Follow.is [
      | inl card ↦ moved question history c.args.mv (Follow card.0) (the_view c.self.inside) (after question history)
          (c.self.view_is ∙ is)
          (step-stays question (after question history) Closed (Follow card.0) closed tt) card.1
      | inr out ↦ moved question history c.args.mv ShowOut (the_view c.self.inside) (after question history)
          (c.self.view_is ∙ is)
          (step-stays question (after question history) Closed ShowOut closed tt) out
    ]

pub returns-in-Follow-mv : goal.returns-in-Follow-mv
returns-in-Follow-mv c = λ question west history play is.
    moved question history c.args.mv (Follow c.in-Follow-mv.rank) c.followed.result
    (followed question (after question history) c.in-Some.trick.turn c.in-Some.trick.after c.in-Some.trick.winner
    c.in-Some.trick.highest c.in-Follow-mv.rank)
    (c.followed.ensures question (after question history) (c.self.view_is ∙ is) (won_small question west history play))
    (step-followed question (after question history) c.in-Some.trick.turn c.in-Some.trick.after c.in-Some.trick.winner
    c.in-Some.trick.highest c.in-Follow-mv.rank
    (trick_is question history c.args.self.now c.self.inside.trick _
    (sym (ap (λ (view : PlaceView). view.trick) c.self.view_is)) (ap trick_seen c.in-Some.is) is))
    c.in-Follow-mv.is

pub returns-in-ShowOut : goal.returns-in-ShowOut
returns-in-ShowOut c = λ question west history play is.
    moved question history c.args.mv ShowOut c.turn_passed.result
    (turn_passed question (after question history) c.in-Some.trick.turn c.in-Some.trick.after c.in-Some.trick.winner
    c.in-Some.trick.highest)
    (c.turn_passed.ensures question (after question history) (c.self.view_is
    ∙ is) (won_small question west history play))
    (step-shown_out question (after question history) c.in-Some.trick.turn c.in-Some.trick.after c.in-Some.trick.winner
    c.in-Some.trick.highest
    (trick_is question history c.args.self.now c.self.inside.trick _
    (sym (ap (λ (view : PlaceView). view.trick) c.self.view_is)) (ap trick_seen c.in-Some.is) is))
    c.in-ShowOut.is

pub returns-in-Lead-mv : goal.returns-in-Lead-mv
returns-in-Lead-mv c = λ question west history play is.
    moved question history c.args.mv (Lead c.in-Lead-mv.seat c.in-Lead-mv.rank) (the_view c.self.inside)
    (after question history) (c.self.view_is ∙ is)
    (step-stays question (after question history)
    (Open c.in-Some.trick.turn c.in-Some.trick.after c.in-Some.trick.winner c.in-Some.trick.highest)
    (Lead c.in-Lead-mv.seat c.in-Lead-mv.rank)
    (trick_is question history c.args.self.now c.self.inside.trick _
    (sym (ap (λ (view : PlaceView). view.trick) c.self.view_is)) (ap trick_seen c.in-Some.is) is) tt)
    c.in-Lead-mv.is
