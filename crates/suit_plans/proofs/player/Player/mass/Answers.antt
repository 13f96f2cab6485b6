use Rattle.std.proofs.Common.{ℤ, [], ◌∙◌, sym, ap, rules, take, length, ◌≤◌, arith, SFits}
use Rattle.std.proofs.lemmas.Int.{to_z-of_z}
use Rattle.std.proofs.lemmas.List.{length-take, take_more}
use Rattle.std.specs.Int.{w128}
use Rattle.suit_cards.specs.declared.seats.Seat.TheVariants.{N}
use Rattle.suit_classes.specs.ClassPlaces.{class_after}
use Rattle.suit_classes.specs.declared.class_moves.ClassMove.TheVariants.{Lead}
use Rattle.suit_plans.specs.Masses.{mass_from, mass_of}
use Rattle.suit_plans.specs.Players.{side_of}
use Rattle.suit_plans.proofs.MassFromTheStart.{begins_with, mass_ended, mass_walked}
use Rattle.suit_plans.proofs.player.Player.mass.Goals as goal
use Rattle.suit_game.specs.declared.limits.TheConstants.{MOST_MOVES}

pub loop-index-init : goal.loop-index-init
unfolding mass_of
loop-index-init c =
    let fits : SFits w128 c.args.self.now.whole = search rules in
    record {
      place = c.start-place.ensures;
      mass = ap (λ (m : ℤ). mass_from c.args.question.now (side_of c.args.self.now) [] m c.args.history.now)
          (to_z-of_z w128 c.args.self.now.whole fits
          ∙ sym (begins_with c.args.self.now.rows c.args.self.now.counts.now c.args.self.now.whole));
    }

pub loop-index-preserved : goal.loop-index-preserved
loop-index-preserved c =
    let so_far = c.loop-index.invariant in
    let history = c.args.history.now in
    let index = c.loop-index.index in
    let below = c.loop-index-test.true in
    let fits : SFits w128 c.let_through-mass.result = search rules in
    let short : length (take index history) ≤ MOST_MOVES = omega (arith, length-take index history, below, c.requires.short) in
    record {
      place = c.step-place.ensures c.args.question.now (take index history) short so_far.place
          ∙ sym (ap (class_after c.args.question.now) (take_more history index (Lead N 0) below));
      mass = mass_walked c.args.question.now (side_of c.args.self.now) history index (Lead N 0) _ _ below
          (to_z-of_z w128 c.let_through-mass.result fits ∙ c.let_through-mass.ensures c.args.question.now so_far.place)
          ∙ so_far.mass;
    }

pub returns : goal.returns
returns c =
    let so_far = c.loop-index.invariant in
    sym (mass_ended c.args.question.now (side_of c.args.self.now) c.args.history.now c.loop-index.index _
    c.loop-index-test.false) ∙ so_far.mass
