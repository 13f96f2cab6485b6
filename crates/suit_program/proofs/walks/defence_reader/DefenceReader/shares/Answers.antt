use Rattle.std.proofs.Common.{rules, ◌≡◌, ℤ, SFits, subst}
use Rattle.std.specs.Prelude.{IfOk}
use Rattle.std.specs.Int.{w128}
use Rattle.std.proofs.lemmas.Int.{to_z-of_z}
use Rattle.suit_program.specs.Walks.DefenceWalks.{IsDefenceTurn, turn_shares}
use Rattle.suit_program.proofs.lemmas.Walks.DefenceInALayout.{none_reached}
use Rattle.suit_program.proofs.walks.defence_reader.DefenceReader.shares.Goals as goal

pub returns-in-Some : goal.returns-in-Some
returns-in-Some c =
    let fits : SFits w128 c.args.mass = search rules in
    subst (λ (z : ℤ). IfOk c.shares_at.result
    (λ shares. (turn : IsDefenceTurn c.args.self.now c.args.reach.now c.args.row z) → shares ≡ turn_shares turn))
    (to_z-of_z w128 c.args.mass fits) c.shares_at.ensures

pub returns-in_default : goal.returns-in_default
returns-in_default c = λ turn.
    none_reached c.args.self.now c.args.reach.now c.args.row c.args.mass turn c.in_default.ensures.none
