-- The batches together are all records, each told in its place.
use Rattle.std.proofs.Common.{◌≡◌, ◌++◌, ◌∙◌, [], sym, ap, subst, List, IfOk, drop, length}
use Rattle.std.proofs.Common.{append-nil, append_assoc, arith}
use Rattle.std.proofs.lemmas.Bool.Decides.{nat_tests}
use Rattle.std.proofs.lemmas.List.{length-append, nil_from_length, take-append-drop}
use Rattle.std.proofs.lemmas.List.Elements.{All-drop, All-same}
use Rattle.suit_lists.proofs.Basics.{ArePlaced, placed_append}
use Rattle.suit_game.specs.Validity.{IsValid}
use Rattle.suit_table.specs.Judging.{IsTold}
use Rattle.suit_table.specs.declared.judging.Entry.{Entry}
use Rattle.suit_table.specs.declared.judging.Told.{Told}
use Rattle.suit_table.proofs.judging.judge_all.Goals as goal

pub loop-rest-preserved : goal.loop-rest-preserved
loop-rest-preserved g c =
    let so_far = c.loop-rest.invariant in
    let rest : List Entry = c.loop-rest.rest.now in
    let batch : List Entry = c.split_at.result.0.now in
    let later : List Entry = c.split_at.result.1.now in
    let before : List Told = c.loop-rest.told.items in
    let judged : List Told = c.in_ok-judged.judged.items in
    let parts : batch ++ later ≡ rest =
    rw (c.split_at.ensures.front, c.split_at.ensures.back) (take-append-drop c.min.result rest) in
    let items : c.append.new.self.items ≡ before ++ judged = c.in_ok-append.ensures.items in
    let many : length judged ≡ length batch = c.in_ok-judged.ensures.count in
    record {
      done = so_far.done ++ batch;
      all = append_assoc so_far.done batch later ∙ ap (λ (l : List Entry). so_far.done ++ l) parts ∙ so_far.all;
      long =
          omega (
            arith,
            ap length items,
            length-append before judged,
            length-append so_far.done batch,
            so_far.long,
            many,
          );
      told =
          subst (λ (l : List Told). ArePlaced (IsTold (g.J.Judge.fits c.args.judge.now)) (so_far.done ++ batch) l)
          (sym items)
          (placed_append (IsTold (g.J.Judge.fits c.args.judge.now)) so_far.done batch before judged so_far.long
          so_far.told c.in_ok-judged.ensures.each);
      valid =
          All-same (λ (entry : Entry). IfOk entry.read IsValid) later (drop c.min.result rest) c.split_at.ensures.back
          (All-drop (λ (entry : Entry). IfOk entry.read IsValid) c.min.result rest so_far.valid);
    }

pub returns-clause-each : goal.returns-clause-each
returns-clause-each g c =
    let so_far = c.loop-rest.invariant in
    let none : length c.loop-rest.rest.now ≡ 0 = grind (arith, nat_tests) in
    let empty : c.loop-rest.rest.now ≡ [] = nil_from_length _ none in
    let whole : so_far.done ≡ c.args.entries.now =
    sym (append-nil so_far.done) ∙ ap (λ (l : List Entry). so_far.done ++ l) (sym empty) ∙ so_far.all in
    subst (λ (l : List Entry). ArePlaced (IsTold (g.J.Judge.fits c.args.judge.now)) l c.loop-rest.told.items) whole
    so_far.told
