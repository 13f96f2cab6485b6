use Rattle.std.proofs.Common.{◌≡◌, ◌++◌, [], ◌∷◌, ℤ, get_or, true, false, sym, ap, ◌∙◌, append-nil, rules}
use Rattle.std.specs.Prelude.{pos, int_lt, FitsSigned}
use Rattle.std.specs.Int.{w128}
use Rattle.std.proofs.lemmas.Int.{to_z-of_z}
use Rattle.suit_lists.proofs.Walks.{image_next}
use Rattle.suit_cards.specs.declared.seats.Seat.TheVariants.{N}
use Rattle.suit_classes.specs.declared.class_moves.ClassMove.TheVariants.{Lead}
use Rattle.suit_plans.specs.Masses.{plan_mass}
use Rattle.suit_lines.specs.Told.{is_live, share_of}
use Rattle.suit_lines.proofs.WalkWhereMassGoes.{let_is}
use Rattle.suit_lines.proofs.telling.Telling.live_shares.Goals as goal
use Rattle.suit_lines.proofs.telling.Telling.live_shares.Goals.{then-share-gt0+in_ok-push, else-share-gt0}

pub loop-mv-preserved : goal.loop-mv-preserved
loop-mv-preserved c =
    let question = c.args.self.now.question.now in
    let plan = c.args.self.now.plan.now in
    let history = c.args.history.now in
    let move = get_or c.args.moves.now c.loop-mv.mv-index (Lead N 0) in
    let fits : FitsSigned w128 c.args.mass = search rules in
    let told = c.let_through-share.ensures question plan.den c.requires.place in
    let shared : c.let_through-share.result ≡ plan_mass question plan (history ++ move ∷ []) =
    let_is question plan history move c.items.result.now _ c.let_through-share.result c.items.ensures.value
    (to_z-of_z w128 c.args.mass fits ∙ c.requires.mass) told in
    let still : FitsSigned w128 c.let_through-share.result = search rules in
    let read = to_z-of_z w128 c.let_through-share.result still in
    elim c.if-share-gt0.branch [
      | then-share-gt0+in_ok-push w ↦
          image_next (share_of question plan history) is_live c.args.moves.now c.loop-mv.mv-index (Lead N 0)
          c.loop-mv.shares.items c.if-share-gt0.shares.items true c.loop-mv-test.true c.loop-mv.invariant
          (ap (int_lt (pos 0)) (sym shared ∙ sym read) ∙ w.if-share-gt0.true)
          (ap (λ v. v.items) w.shares-is ∙ w.in_ok-push.ensures.items
          ∙ ap (λ (z : ℤ). c.loop-mv.shares.items ++ (move, z) ∷ []) (read ∙ shared))
      | else-share-gt0 w ↦
          image_next (share_of question plan history) is_live c.args.moves.now c.loop-mv.mv-index (Lead N 0)
          c.loop-mv.shares.items c.if-share-gt0.shares.items false c.loop-mv-test.true c.loop-mv.invariant
          (ap (int_lt (pos 0)) (sym shared ∙ sym read) ∙ w.if-share-gt0.false)
          (ap (λ v. v.items) w.shares-is ∙ sym (append-nil c.loop-mv.shares.items))
    ]
