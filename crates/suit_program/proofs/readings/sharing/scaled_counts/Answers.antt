use Rattle.std.proofs.Common.{rules, ◌∙◌, sym, ap, subst, ℕ, ℤ, SFits, to_z, of_z, map, ◌<◌}
use Rattle.std.specs.Int.{w128}
use Rattle.std.proofs.lemmas.Int.{to_z-of_z}
use Rattle.std.proofs.lemmas.List.{get_or-map, length-map}
use Rattle.std.proofs.lemmas.List.Elements.{All-get_or}
use Rattle.suit_cards.specs.declared.seats.Seat.TheVariants.{N}
use Rattle.suit_classes.specs.declared.class_moves.ClassMove.TheVariants.{Lead}
use Rattle.suit_num.specs.declared.fraction.Frac.{Frac}
use Rattle.suit_program.specs.Readings.{scaled}
use Rattle.suit_program.specs.Readings.Sharing.{IsPartOfDen, counted}
use Rattle.suit_program.proofs.lemmas.Readings.SharesOneByOne.{all_counted, one_counted}
use Rattle.suit_program.proofs.readings.sharing.scaled_counts.Goals as goal

abbrev over : ℤ → Frac → ℤ
over den part = scaled den (part.num, part.den)

pub loop-index-preserved : goal.loop-index-preserved
loop-index-preserved c =
    let below = subst (λ (n : ℕ). c.loop-index.index < n) c.requires.many c.loop-index-test.true in
    let part = c.index-parts-index.result in
    let den = to_z w128 (of_z w128 c.args.den) in
    let count : SFits w128 c.scaled.result = search rules in
    one_counted c.loop-index.shares.items c.push.new.self.items _ c.args.moves.now
    (map (over den) c.args.parts.now) c.loop-index.index (Lead N 0) (over den part)
    (to_z w128 (of_z w128 c.scaled.result)) c.loop-index-test.true
    (subst (λ (n : ℕ). c.loop-index.index < n) (sym (length-map c.args.parts.now (over den))) below)
    c.loop-index.invariant c.in_ok-push.ensures.items
    (to_z-of_z w128 c.scaled.result count ∙ c.scaled.ensures
    ∙ ap (over den) c.index-parts-index.is
    ∙ sym (get_or-map (over den) c.args.parts.now c.loop-index.index part (over den part) below))

pub scaled-requires : goal.scaled-requires
scaled-requires c =
    let below = subst (λ (n : ℕ). c.loop-index.index < n) c.requires.many c.loop-index-test.true in
    let den : SFits w128 c.args.den = search rules in
    subst (λ (z : ℤ). IsPartOfDen z c.index-parts-index.result) (sym (to_z-of_z w128 c.args.den den))
    (subst (IsPartOfDen c.args.den) (sym c.index-parts-index.is)
    (All-get_or (IsPartOfDen c.args.den) c.args.parts.now c.loop-index.index c.index-parts-index.result below
    c.requires.parts))

pub returns : goal.returns
returns c =
    let fits : SFits w128 c.args.den = search rules in
    let den = to_z w128 (of_z w128 c.args.den) in
    all_counted c.loop-index.shares.items _ c.args.moves.now (map (over den) c.args.parts.now)
    c.loop-index.index c.loop-index-test.false c.loop-index.invariant
    ∙ ap (λ (z : ℤ). counted c.args.moves.now (map (over z) c.args.parts.now)) (to_z-of_z w128 c.args.den fits)
