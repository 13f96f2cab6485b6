use Rattle.std.proofs.Common.{◌≡◌, ◌≤◌, ◌∷◌, ◌++◌, [], ℕ, List, Some, ap, arith, length, subst, sym, ◌∙◌}
use Rattle.std.specs.Prelude.{slice_get}
use Rattle.std.proofs.lemmas.List.{length-append}
use Rattle.suit_program.specs.declared.supports.mark.Mark.{Mark}
use Rattle.suit_program.specs.Supports.Marks.{defence_mark, named_on}
use Rattle.suit_program.proofs.lemmas.Supports.WithMoreMoves.{pushed}
use Rattle.suit_program.proofs.supports.support.Support.copies.Goals as goal

pub loop-index-preserved : goal.loop-index-preserved
loop-index-preserved c =
    let before : List Mark = c.loop-index.marks.items in
    let copy : Mark = c.in_ok-copy_of.field-0 in
    let now : c.push.new.self.items ≡ before ++ copy ∷ [] = c.in_ok-push.ensures.items in
    let long : length before ≡ c.loop-index.index = c.loop-index.invariant.long in record {
      long = omega (arith, long, ap (λ (l : List Mark). length l) now, length-append before (copy ∷ []));
      names = λ k history move less.
          ap (λ (l : List Mark). named_on (slice_get l k) history move) now
          ∙ pushed (λ j mark. named_on mark history move ≡ named_on (defence_mark c.args.self.now j) history move)
          before copy (λ j within. c.loop-index.invariant.names j history move (omega (arith, within, long)))
          (subst (λ (n : ℕ). named_on (Some copy) history move ≡ named_on (defence_mark c.args.self.now n) history move)
          (sym long) (c.in_ok-copy_of.ensures history move)) k (omega (arith, less, long));
    }

pub returns-clause-long : goal.returns-clause-long
returns-clause-long c =
    let within : c.loop-index.index ≤ c.args.count = c.loop-index.auto.index-end in
    omega (arith, c.loop-index.invariant.long, c.loop-index-test.false, within)

pub returns-clause-names : goal.returns-clause-names
returns-clause-names c =
    λ index history move less.
    c.loop-index.invariant.names index history move (omega (arith, less, c.loop-index-test.false))
