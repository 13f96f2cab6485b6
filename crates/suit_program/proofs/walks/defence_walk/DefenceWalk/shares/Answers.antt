use Rattle.std.proofs.Common.{rules, ◌≡◌, ◌∙◌, ◌+◌, List, Option, [], ◌∷◌, ap, arith, get_or, length}
use Rattle.std.proofs.Common.{length-append, of_z, subst, sym, to_z, ℕ, ℤ, pos, SFits}
use Rattle.std.specs.Int.{w128}
use Rattle.std.proofs.lemmas.Int.{to_z-of_z}
use Rattle.suit_plans.specs.Masses.{Shares}
use Rattle.suit_program.specs.declared.walks.defence_reader.DefenceReader.{DefenceReader}
use Rattle.suit_program.specs.Walks.DefenceWalks.{IsDefenceTurn, turn_shares}
use Rattle.suit_program.proofs.lemmas.Walks.DefenceByLayout.{shared_more}
use Rattle.suit_program.proofs.walks.defence_walk.DefenceWalk.shares.Goals as goal

pub loop-index-preserved : goal.loop-index-preserved
loop-index-preserved c =
    let mass : ℤ = get_or c.args.masses.now c.loop-index.index (pos 0) in
    let fits : SFits w128 mass = search rules in
    let held : Option Shares = c.in_ok-held.held in
    record {
      long = ap (λ (l : List (Option Shares)). length l) c.in_ok-push.ensures.items
          ∙ length-append c.loop-index.shares.items (held ∷ []) ∙ ap (λ (n : ℕ). n + 1) c.loop-index.invariant.long;
      each = shared_more c.args.self.now c.args.reach.now c.args.row c.args.masses.now c.loop-index.shares.items
          c.push.new.self.items held c.loop-index.index c.loop-index-test.true c.requires.many
          c.loop-index.invariant.long c.in_ok-push.ensures.items c.index-self-index.result c.index-self-index.is (pos 0)
          (subst (λ (z : ℤ). (turn : IsDefenceTurn c.index-self-index.result c.args.reach.now c.args.row z)
          → held ≡ turn_shares turn) (to_z-of_z w128 mass fits)
          (subst (λ (r : DefenceReader). (turn : IsDefenceTurn r c.args.reach.now c.args.row
          (to_z w128 (of_z w128 mass))) → held ≡ turn_shares turn) (sym c.index-self-index.is) c.in_ok-held.ensures))
          c.loop-index.invariant.each;
    }

pub returns-clause-each : goal.returns-clause-each
returns-clause-each c = λ index reader mass held less turn.
    c.loop-index.invariant.each index reader mass held (omega (arith, less, c.loop-index-test.false)) turn
